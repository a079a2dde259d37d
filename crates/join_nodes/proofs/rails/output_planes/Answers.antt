-- `join_nodes::rails::output_planes` meets its contract. Assumes nothing.
use Prim.Native.Nat.{ℕ, zero, suc, ◌-◌, ◌^◌, ◌≤◌, ◌<◌, min}
use mathlib.Core.Path.{◌≡◌, refl, ◌∙◌}
use native.Mathlib.Omega.{arith}
use lib.Bits.{bit_and, and_le_l}
use Rattle.words.specs.Bits.{bit, word}
use Rattle.words.proofs.Laws.{bit_le_one, bit_not_under, word_of_bits}
use Rattle.switch.specs.Conduction.{Value}
use Rattle.switch.specs.Records.{value_of}
use Rattle.switch.specs.Promises.{is_at1, is_at0, planes_of}
use Rattle.switch.specs.declared.Planes.{Planes}
use Rattle.switch.proofs.Outputs.{planes_eq}
use Rattle.join_nodes.proofs.rails.output_planes.Goals as goal

bit_1 : (a b : ℕ) → a ≤ 1 → a ≡ is_at1 (value_of a b)
unfolding is_at1 value_of
bit_1 zero zero h = refl
bit_1 zero (suc b) h = refl
bit_1 (suc a) b h = omega arith

bit_0 : (a b : ℕ) → b ≤ 1 → min b (1 - a) ≡ is_at0 (value_of a b)
unfolding is_at0 value_of
bit_0 zero zero h = refl
bit_0 zero (suc b) h = omega arith
bit_0 (suc a) b h = omega arith

planes_of-is : (s g : ℕ) → s < 2 ^ 64 → g < 2 ^ 64 → ◌≡◌ {A = Planes} (record { ones = s; zeros = bit_and g ((2 ^ 64 - 1) - s) }) (planes_of s g)
planes_of-is s g h k =
    let x : ℕ → Value = λ (v : ℕ). value_of (bit s v) (bit g v) in
    let zeros : ℕ = bit_and g ((2 ^ 64 - 1) - s) in
    planes_eq s zeros (word (λ (v : ℕ). is_at1 (x v))) (word (λ (v : ℕ). is_at0 (x v)))
    (word_of_bits s (λ (v : ℕ). is_at1 (x v)) h (λ v l. bit_1 (bit s v) (bit g v) (bit_le_one s v)))
    (word_of_bits zeros (λ (v : ℕ). is_at0 (x v)) (omega (arith, and_le_l g ((2 ^ 64 - 1) - s)))
    (λ v l. bit_not_under 64 g s v h l ∙ bit_0 (bit s v) (bit g v) (bit_le_one g v)))

pub returns : goal.returns
returns c = planes_of-is c.args.supply c.args.ground c.ranges.supply.fits c.ranges.ground.fits
