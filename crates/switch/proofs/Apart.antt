-- The rails are apart under any values, X among them. Every label that is X is filled with 0, which makes a setting; a filling turns no edge off,
-- so a path from supply to ground would still be there under the setting, where the output is joined to exactly one rail. Assumes nothing.
use Prim.Native.Nat.{ℕ, ◌<◌, ◌≤◌, ◌^◌}
use native.Mathlib.Omega.{arith}
use mathlib.Core.Path.{◌≡◌, refl, sym, ap}
use mathlib.Core.Logic.{◌⊎◌, inl, inr}
use mathlib.Core.List.{List}
use lib.Dec.{T}
use Rattle.words.specs.Bits.{pack}
use Rattle.words.proofs.Laws.{bit-pack, pack_lt}
use Rattle.switch.specs.Conduction.{Value, at0, at1, at_x, Channel, channel_p, channel_n, transistor_on, by_values}
use Rattle.switch.specs.Conduction.{Link, Joined, ground, supply}
use Rattle.switch.specs.Modules.{ModuleType, in_range, links_of, value_of_bit, setting_of}
use Rattle.switch.specs.Modules.{ExactlyOne, only_first, only_second, Complementary}
use Rattle.switch.specs.Statements.{Accepted, Refines, RailsApart, Within}
use Rattle.switch.proofs.Paths.{through, turned, links_of_cong}
use Rattle.switch.proofs.MoreOn.{more_on_more_joined}

-- ---- refined values turn no transistor off

x_is_off : (c : Channel) → T (transistor_on c at_x) → ⊥
unfolding transistor_on
x_is_off channel_p t = t
x_is_off channel_n t = t

stays_on : (c : Channel) (v w : Value) → (v ≡ at_x) ⊎ (w ≡ v) → T (transistor_on c v) → T (transistor_on c w)
stays_on c v w (inl e) t = absurd (x_is_off c (rw e at t))
stays_on c v w (inr e) t = rw e t

pub refined-within : (values finer : ℕ → Value) → Refines values finer → Within (by_values values) (by_values finer)
refined-within values finer refines c l = stays_on c (values l) (finer l) (refines l)

pub refined-joined : (values finer : ℕ → Value) → Refines values finer → (t : ModuleType) (a b : ℕ)
    → Joined (links_of t values) a b → Joined (links_of t finer) a b
unfolding links_of
refined-joined values finer refines t =
    (more_on_more_joined (by_values values) (by_values finer) (refined-within values finer refines)).joining t.edges

-- ---- any values are refined by a setting

-- a value with X filled by 0
pub filled : Value → ℕ
filled at1 = 1
filled at0 = 0
filled at_x = 0

pub filling : ℕ → (ℕ → Value) → ℕ
filling k values = pack k (λ (l : ℕ). filled (values l))

filled_le_one : (v : Value) → filled v ≤ 1
unfolding filled
filled_le_one at1 = omega arith
filled_le_one at0 = omega arith
filled_le_one at_x = omega arith

filled_refines : (v : Value) → (v ≡ at_x) ⊎ (value_of_bit (filled v) ≡ v)
unfolding filled value_of_bit
filled_refines at1 = inr refl
filled_refines at0 = inr refl
filled_refines at_x = inl refl

pub filling_lt : (k : ℕ) (values : ℕ → Value) → filling k values < 2 ^ k
unfolding filling
filling_lt k values = pack_lt k (λ (l : ℕ). filled (values l)) (λ l b. filled_le_one (values l))

filling_at : (k : ℕ) (values : ℕ → Value) (l : ℕ) → l < k → value_of_bit (filled (values l)) ≡ setting_of (filling k values) l
unfolding filling setting_of
filling_at k values l b = ap value_of_bit (sym (bit-pack k (λ (i : ℕ). filled (values i)) (λ i c. filled_le_one (values i)) l b))

pub filling_refines : (k : ℕ) (values : ℕ → Value) (l : ℕ) → l < k → (values l ≡ at_x) ⊎ (setting_of (filling k values) l ≡ values l)
filling_refines k values l b = rw (← (filling_at k values l b)) (filled_refines (values l))

-- what is joined under the values is joined under their filling
pub joined_when_filled : (t : ModuleType) → T (in_range t) → (values : ℕ → Value) (a b : ℕ)
    → Joined (links_of t values) a b → Joined (links_of t (setting_of (filling t.labels values))) a b
joined_when_filled t r values a b p =
    let full : ℕ → Value = λ l. value_of_bit (filled (values l)) in
    let setting : ℕ → Value = setting_of (filling t.labels values) in
    rw
    (← (links_of_cong t r full setting (filling_at t.labels values)))
    (refined-joined values full (λ l. filled_refines (values l)) t a b p)

-- ---- apart

-- joined to exactly one of two, a node keeps the two apart
keeps_apart_lem : (ws : List Link) (o a b : ℕ) → ExactlyOne (Joined ws o a) (Joined ws o b) → Joined ws b a → ⊥
keeps_apart_lem ws o a b (only_first p n) j = n (through p (turned j))
keeps_apart_lem ws o a b (only_second n p) j = n (through p j)

settings : (t : ModuleType) → Complementary t → (s : ℕ) → s < 2 ^ t.labels → Joined (links_of t (setting_of s)) supply ground → ⊥
unfolding Complementary
settings t one_rail_lem s h = keeps_apart_lem (links_of t (setting_of s)) t.output ground supply (one_rail_lem s h)

rails : (t : ModuleType) → Accepted t → (values : ℕ → Value) → Joined (links_of t values) supply ground → ⊥
rails t acc values j =
    settings t acc.complementary (filling t.labels values) (filling_lt t.labels values)
    (joined_when_filled t acc.ranges values supply ground j)

pub rails-apart : RailsApart
rails-apart = record { settings = settings; rails = rails; output = λ t acc values p q. rails t acc values (through (turned p) q) }
