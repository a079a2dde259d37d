-- (b) Refined values keep every on edge, every joining, every known output and every mark, since they turn no transistor off (proofs/MoreOn) and the
-- rails are apart.
-- And a node has one level, so the output has one value. Assumes nothing.
use Prim.Native.Nat.{ℕ}
use mathlib.Core.Path.{◌≡◌, refl}
use mathlib.Core.Bool.{Bool, true, false, cond}
use mathlib.Core.Logic.{◌⊎◌, inl, inr, ◌↔◌}
use mathlib.Core.List.Memᴰ
use mathlib.Core.List.{List}
use lib.Dec.{T}
use Rattle.switch.specs.Conduction.{Value, at0, at1, at_x, by_values, Link, Among, Joined, ground, supply}
use Rattle.switch.specs.Modules.{ModuleType, links_of, LevelIs, level_0, level_1, level_x}
use Rattle.switch.specs.Bridges.{Bridge, nodes, input, to_label, closing, Marked}
use Rattle.switch.specs.Deciding.{joins, level_in, output_value}
use Rattle.switch.specs.Statements.{Accepted, Refines, MoreJoined, RefinementKeeps, LevelIsOne}
use Rattle.switch.proofs.Paths.{turned, through}
use Rattle.switch.proofs.MoreOn.{more_on_more_joined}
use Rattle.switch.proofs.Deciding.{joins_decides}
use Rattle.switch.proofs.Apart.{refined-within, refined-joined, rails-apart}

-- ---- the output

-- `output_value` by what it tests, before and after
known-stays : (s g s' g' : Bool) → (T s → T s') → (T g → T g') → (T s' → T g' → ⊥)
    → (cond s at1 (cond g at0 at_x) ≡ at_x) ⊎ (cond s' at1 (cond g' at0 at_x) ≡ cond s at1 (cond g at0 at_x))
known-stays true g true g' f h n = inr refl
known-stays true g false g' f h n = absurd (f tt)
known-stays false false s' g' f h n = inl refl
known-stays false true s' false f h n = absurd (h tt)
known-stays false true true true f h n = absurd (n tt tt)
known-stays false true false true f h n = inr refl

output-stays : (t : ModuleType) → Accepted t → (values finer : ℕ → Value) → Refines values finer
    → (output_value t values ≡ at_x) ⊎ (output_value t finer ≡ output_value t values)
unfolding level_in
output-stays t acc values finer refines =
    let ws : List Link = links_of t values in
    let ws' : List Link = links_of t finer in
    let o : ℕ = t.output in
    known-stays
    (joins ws o supply)
    (joins ws o ground)
    (joins ws' o supply)
    (joins ws' o ground)
    (λ b. (joins_decides ws' o supply).0 (refined-joined values finer refines t o supply ((joins_decides ws o supply).1 b)))
    (λ b. (joins_decides ws' o ground).0 (refined-joined values finer refines t o ground ((joins_decides ws o ground).1 b)))
    (λ b c. rails-apart.output t acc finer ((joins_decides ws' o supply).1 b) ((joins_decides ws' o ground).1 c))

module _ (ws : List Link) (m : ℕ) where
  abbrev Supplied : Type 0
  Supplied = Joined ws m supply

  abbrev Grounded : Type 0
  Grounded = Joined ws m ground

  given_by_lem : (s g : Bool) → Supplied ↔ T s → Grounded ↔ T g → LevelIs ws m (cond s at1 (cond g at0 at_x))
  given_by_lem true g es eg = level_1 (es.1 tt)
  given_by_lem false true es eg = level_0 (eg.1 tt)
  given_by_lem false false es eg = level_x es.0 eg.0

  only_by : (s g : Bool) → Supplied ↔ T s → Grounded ↔ T g → (Supplied → Grounded → ⊥)
      → (value : Value) → LevelIs ws m value → value ≡ cond s at1 (cond g at0 at_x)
  only_by true g es eg apart value (level_1 p) = refl
  only_by true g es eg apart value (level_0 p) = absurd (apart (es.1 tt) p)
  only_by true g es eg apart value (level_x p q) = absurd (p (es.1 tt))
  only_by false true es eg apart value (level_1 p) = absurd (es.0 p)
  only_by false true es eg apart value (level_0 p) = refl
  only_by false true es eg apart value (level_x p q) = absurd (q (eg.1 tt))
  only_by false false es eg apart value (level_1 p) = absurd (es.0 p)
  only_by false false es eg apart value (level_0 p) = absurd (eg.0 p)
  only_by false false es eg apart value (level_x p q) = refl

  level_given : LevelIs ws m (level_in ws m)
  unfolding level_in
  level_given = given_by_lem (joins ws m supply) (joins ws m ground) (joins_decides ws m supply) (joins_decides ws m ground)

  level_only : (Joined ws supply ground → ⊥) → (value : Value) → LevelIs ws m value → value ≡ level_in ws m
  unfolding level_in
  level_only apart value is =
      only_by
      (joins ws m supply)
      (joins ws m ground)
      (joins_decides ws m supply)
      (joins_decides ws m ground)
      (λ p q. apart (through (turned p) q))
      value
      is

pub level-is-one : LevelIsOne
level-is-one = record {
  given = level_given;
  only = λ t acc values m value is. level_only (links_of t values) m (rails-apart.rails t acc values) value is;
}

-- ---- marks

label-stays : (m : ℕ) (v v' : Value) → (v ≡ at_x) ⊎ (v' ≡ v) → (w : Link) → Among w (to_label m v) → Among w (to_label m v')
unfolding to_label
label-stays m v v' (inl e) w k = absurd (Memᴰ.not-nil (rw e at k))
label-stays m v v' (inr e) w k = rw e k

module _ (values finer : ℕ → Value) (refines : Refines values finer) where
  closing_stays : (bridge : Bridge) (w : Link) → Among w (closing bridge values) → Among w (closing bridge finer)
  unfolding closing
  closing_stays (nodes a b) w k = k
  closing_stays (input m l) w k = label-stays m (values l) (finer l) (refines l) w k

  more_joined : MoreJoined (by_values values) (by_values finer)
  more_joined = more_on_more_joined (by_values values) (by_values finer) (refined-within values finer refines)

  pub mark_stays : (t : ModuleType) (bridge : Bridge) → Marked t values bridge → Marked t finer bridge
  unfolding Marked links_of
  mark_stays t bridge p = more_joined.beside t.edges (closing bridge values) (closing bridge finer) (closing_stays bridge) supply ground p

pub refinement_keeps : RefinementKeeps
refinement_keeps t acc values finer refines = record {
  on_edge = (more_joined values finer refines).edge;
  joining = refined-joined values finer refines t;
  output = output-stays t acc values finer refines;
  mark = mark_stays values finer refines t;
}
