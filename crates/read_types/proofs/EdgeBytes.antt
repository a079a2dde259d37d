-- The bytes of an edge field: its labels as the code takes them, and the channel that a byte states.
use Prim.Native.Nat.{ℕ, zero, suc, ◌-◌, ◌<◌, ◌≤◌}
use mathlib.Core.Path.{◌≡◌, refl, ap, ◌∙◌}
use mathlib.Core.Bool.{cond}
use mathlib.Core.List.{List, [], ◌∷◌}
use native.Mathlib.Omega.{arith}
use lib.Dec.{T, eqb, ltb, ltb→lt}
use lib.ListN.{length, get_or, take, drop, length-drop}
use lib.Seq.{take_all}
use Rattle.switch.specs.Conduction.{channel_p, channel_n, channel_by}
use Rattle.switch.specs.Modules.{all_of}
use Rattle.switch.proofs.Paths.{both}

-- what stands behind the first bytes, as a pattern binds it
pub rest_is : (n : ℕ) (body : List ℕ) → take (length body - n) (drop n body) ≡ drop n body
rest_is n body = take_all (length body - n) (drop n body) (omega (arith, length-drop n body))

pub rest_length : (n : ℕ) (body : List ℕ) → length (take (length body - n) (drop n body)) ≡ length body - n
rest_length n body = ap length (rest_is n body) ∙ length-drop n body

-- labels below k have room in a code, and so has what stands past the last
pub all_below : (k : ℕ) → k ≤ 12 → (ls : List ℕ) → T (all_of (λ (l : ℕ). ltb l k) ls) → (i : ℕ) → get_or ls i 0 < 16
unfolding all_of
all_below k few [] t i = omega arith
all_below k few (l ∷ ls) t zero = omega (arith, ltb→lt l k (both (ltb l k) (all_of (λ (l : ℕ). ltb l k) ls) t).0)
all_below k few (l ∷ ls) t (suc i) = all_below k few ls (both (ltb l k) (all_of (λ (l : ℕ). ltb l k) ls) t).1 i

-- of a byte that is in range
pub stated_channel : (n : ℕ) → n ≤ 1 → cond (eqb n 1) channel_p channel_n ≡ channel_by n
unfolding channel_by
stated_channel zero h = refl
stated_channel (suc zero) h = refl
stated_channel (suc (suc n)) h = absurd (omega arith)
