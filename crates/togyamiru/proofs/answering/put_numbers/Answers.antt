-- `togyamiru::answering::put_numbers` meets its contract: as many numbers as have room. Assumes nothing.
use mathlib.Core.Path.{◌≡◌, ap, ◌∙◌}
use mathlib.Core.List.{List, ◌++◌}
use native.Mathlib.Omega.{arith}
use Prim.Native.Nat.{ℕ, min}
use lib.ListN.{length, take, drop}
use Rattle.std.proofs.lemmas.List.{take_min}
use Rattle.grading.specs.Grading.{over}
use Rattle.togyamiru.proofs.RowsLaws.{put_front}
use Rattle.togyamiru.proofs.answering.put_numbers.Goals as goal

pub returns : goal.returns
returns c =
    let numbers = c.args.numbers.now in
    let all = c.args.all in
    let room = c.min-room.result in
    let seven : 7 ≡ length all = omega arith in
    let few : take room all ≡ take (length numbers) all
    = ap (λ (n : ℕ). take n all) (c.min-room.ensures ∙ ap (min (length numbers)) seven) ∙ take_min (length numbers) all in
    ap (λ (front : List ℕ). front ++ drop room numbers) c.copy_from_slice.ensures.after
    ∙ put_front all numbers room (omega arith)
    ∙ ap (λ (values : List ℕ). over values numbers) few
