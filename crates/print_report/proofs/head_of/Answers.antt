-- `print_report::head_of` meets its contract. Assumes nothing.
use Prim.Native.Nat.{ℕ}
use mathlib.Core.Path.{◌≡◌}
use Rattle.grading.specs.Codes.{instance_in, kind_in, first_in, second_in}
use Rattle.print_report.specs.Held.{head_of}
use Rattle.print_report.specs.declared.RowHead.{RowHead}
use Rattle.print_report.proofs.head_of.Goals as goal

head-is : (code class n k f s : ℕ) → n ≡ instance_in code → k ≡ kind_in code → f ≡ first_in code → s ≡ second_in code
    → ◌≡◌ {A = RowHead} record { instance = n; kind = k; first = f; second = s; class = class } (head_of code class)
head-is code class n k f s a b d e = λ i. record { instance = a i; kind = b i; first = d i; second = e i; class = class }

pub returns : goal.returns
returns c =
    head-is _ _ _ _ _ _ c.instance_in.ensures c.kind_in.ensures c.first_in.ensures
    c.second_in.ensures
