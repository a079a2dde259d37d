-- Values in planes: the two planes of a value tell it, and those that two words of joining give are of the output's value by 01, under each vector.
-- Assumes nothing.
use Prim.Native.Nat.{ℕ, zero, suc, ◌≤◌, ◌<◌}
use mathlib.Core.Path.{◌≡◌, refl, ap, fun_ext, ◌∙◌}
use mathlib.Core.Bool.{Bool, true, false, cond}
use mathlib.Core.List.{List}
use native.Mathlib.Omega.{arith}
use lib.ListN.{get_or}
use Rattle.words.specs.Bits.{bit, of_bool, word}
use Rattle.words.proofs.Laws.{of_bool_le_one, pack_cong, bit_word}
use Rattle.words.proofs.Tables.{get_or-table}
use Rattle.switch.specs.Conduction.{Value, at0, at1, at_x, Channel, channel_p, channel_n, transistor_on, Switching, links, supply, ground}
use Rattle.switch.specs.Modules.{ModuleType, links_of}
use Rattle.switch.specs.Deciding.{joins, level_in, output_value}
use Rattle.switch.specs.Records.{value_of, is_set, by_planes}
use Rattle.switch.specs.Promises.{rail_words, is_at1, is_at0, PlanesHold, planes}
use Rattle.switch.specs.Statements.{PlanesAreValues, PlanesSwitch, OutputPlanes}
use Rattle.switch.specs.declared.Planes.{Planes}

pub word_cong : (f g : ℕ → ℕ) → ((v : ℕ) → v < 64 → f v ≡ g v) → word f ≡ word g
unfolding word
word_cong f g same = pack_cong 64 f g same

pub planes_eq : (a b c d : ℕ) → a ≡ c → b ≡ d → ◌≡◌ {A = Planes} (record { ones = a; zeros = b }) (record { ones = c; zeros = d })
planes_eq a b c d p q = rw (p, q)

-- ---- a value in two planes

pub at1-small : (x : Value) → is_at1 x ≤ 1
unfolding is_at1
at1-small at0 = omega arith
at1-small at1 = omega arith
at1-small at_x = omega arith

pub at0-small : (x : Value) → is_at0 x ≤ 1
unfolding is_at0
at0-small at0 = omega arith
at0-small at1 = omega arith
at0-small at_x = omega arith

-- its bit in the known-1 plane is set where it switches n on, that in the known-0 plane where it switches p on
n-by-bit : (x : Value) → is_set (is_at1 x) ≡ transistor_on channel_n x
unfolding transistor_on is_set is_at1
n-by-bit at0 = refl
n-by-bit at1 = refl
n-by-bit at_x = refl

p-by-bit : (x : Value) → is_set (is_at0 x) ≡ transistor_on channel_p x
unfolding transistor_on is_set is_at0
p-by-bit at0 = refl
p-by-bit at1 = refl
p-by-bit at_x = refl

-- a set bit as a bit again
pub set-again : (b : ℕ) → b ≤ 1 → of_bool (is_set b) ≡ b
unfolding is_set
set-again zero h = refl
set-again (suc b) h = omega arith

-- a value from its two bits
pub value-again : (x : Value) → value_of (is_at1 x) (is_at0 x) ≡ x
unfolding value_of is_at1 is_at0
value-again at0 = refl
value-again at1 = refl
value-again at_x = refl

pub planes-are-values : PlanesAreValues
planes-are-values f v h =
    rw (
      bit_word (λ (u : ℕ). is_at1 (f u)) (λ u. at1-small (f u)) v h,
      bit_word (λ (u : ℕ). is_at0 (f u)) (λ u. at0-small (f u)) v h,
    )
    (value-again (f v))

-- planes that hold values switch on what the values do
switch_at : (ones zeros : List ℕ) (v : ℕ) (values : ℕ → Value) → PlanesHold ones zeros v values
    → (c : Channel) (l : ℕ) → by_planes ones zeros v c l ≡ transistor_on c (values l)
unfolding by_planes
switch_at ones zeros v values hold channel_p l = ap is_set (hold.known_0 l) ∙ p-by-bit (values l)
switch_at ones zeros v values hold channel_n l = ap is_set (hold.known_1 l) ∙ n-by-bit (values l)

pub planes_switch : PlanesSwitch
planes_switch ones zeros v values hold = fun_ext (λ c. fun_ext (λ l. switch_at ones zeros v values hold c l))

-- ---- the output

planes_cong : (f g : ℕ → Value) → ((v : ℕ) → v < 64 → f v ≡ g v) → planes f ≡ planes g
planes_cong f g same =
    planes_eq (word (λ (v : ℕ). is_at1 (f v))) (word (λ (v : ℕ). is_at0 (f v))) (word (λ (v : ℕ). is_at1 (g v))) (word (λ (v : ℕ). is_at0 (g v)))
    (word_cong (λ (v : ℕ). is_at1 (f v)) (λ (v : ℕ). is_at1 (g v)) (λ v l. ap is_at1 (same v l)))
    (word_cong (λ (v : ℕ). is_at0 (f v)) (λ (v : ℕ). is_at0 (g v)) (λ v l. ap is_at0 (same v l)))

value-by-rails : (to_supply to_ground : Bool) → value_of (of_bool to_supply) (of_bool to_ground) ≡ cond to_supply at1 (cond to_ground at0 at_x)
unfolding value_of
value-by-rails true g = refl
value-by-rails false true = refl
value-by-rails false false = refl

-- bit v of the word of node m
pub bit-rail_words : (t : ModuleType) (ones zeros : List ℕ) (rail m v : ℕ) → m < 32 → v < 64
    → bit (get_or (rail_words t ones zeros rail) m 0) v ≡ of_bool (joins (links (by_planes ones zeros v) t.edges) m rail)
unfolding rail_words
bit-rail_words t ones zeros rail m v h l =
    let joined : ℕ → ℕ → Bool = λ (n u : ℕ). joins (links (by_planes ones zeros u) t.edges) n rail in
    rw (get_or-table 32 (λ (n : ℕ). word (λ (u : ℕ). of_bool (joined n u))) 0 m h)
    (bit_word (λ (u : ℕ). of_bool (joined m u)) (λ u. of_bool_le_one (joined m u)) v l)

-- and where the planes hold values
pub bit_of_values : (t : ModuleType) (ones zeros : List ℕ) (rail m v : ℕ) (values : ℕ → Value) → m < 32 → v < 64 → PlanesHold ones zeros v values
    → bit (get_or (rail_words t ones zeros rail) m 0) v ≡ of_bool (joins (links_of t values) m rail)
unfolding links_of
bit_of_values t ones zeros rail m v values h l hold =
    bit-rail_words t ones zeros rail m v h l
    ∙ ap (λ (on : Switching). of_bool (joins (links on t.edges) m rail)) (planes_switch ones zeros v values hold)

pub output-planes : OutputPlanes
unfolding level_in
output-planes t ones zeros values h hold =
    let s : ℕ = get_or (rail_words t ones zeros supply) t.output 0 in
    let g : ℕ = get_or (rail_words t ones zeros ground) t.output 0 in
    planes_cong (λ (v : ℕ). value_of (bit s v) (bit g v)) (λ (v : ℕ). output_value t (values v)) (λ v l.
    rw (bit_of_values t ones zeros supply t.output v (values v) h l (hold v l), bit_of_values t ones zeros ground t.output v (values v) h l (hold v l))
    (value-by-rails (joins (links_of t (values v)) t.output supply) (joins (links_of t (values v)) t.output ground)))
