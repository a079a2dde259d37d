-- `print_report::kind_letter` meets its contract. Assumes nothing.
use mathlib.Core.Path.{◌≡◌, refl}
use Prim.Native.Nat.{ℕ, zero, suc}
use Rattle.std.proofs.Common.{rules}
use Rattle.print_report.specs.Lines.{kind_letter}
use Rattle.print_report.proofs.kind_letter.Goals as goal

-- any kind but 0 has the letter i
other : (kind : ℕ) → (kind ≡ 0 → ⊥) → 105 ≡ kind_letter kind
unfolding kind_letter
other zero apart = absurd (apart refl)
other (suc kind) apart = refl

pub returns-in-0 : goal.returns-in-0
unfolding kind_letter
returns-in-0 c = rw c.in-0.is

pub returns-in_default : goal.returns-in_default
returns-in_default c = other c.args.kind (search rules)
