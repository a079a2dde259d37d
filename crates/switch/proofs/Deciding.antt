-- The Boolean tests of specs/Deciding decide what they test: `joins` decides joined, `is_marked` marked, `is_complementary` complementary.
-- With them, what a test over all numbers below a bound or over a list says, and that joins hangs only on which links there are. Assumes nothing.
use Prim.Native.Nat.{ℕ, zero, suc, ◌<◌, ◌^◌, zero-le, suc-le-suc}
use native.Mathlib.Nat.{not-suc-le-zero, le_of_suc-le-suc, eq-or-lt_of_le, lt-suc_self}
use native.Mathlib.Omega.{arith}
use mathlib.Core.Path.{◌≡◌, refl, sym, subst, ◌∙◌}
use mathlib.Core.Bool.{Bool, true, false, cond, ◌&&◌, not, beq}
use mathlib.Core.Logic.{◌⊎◌, inl, inr, ⊎_elim, ◌↔◌}
use mathlib.Core.List.Memᴰ
use mathlib.Core.List.{List, [], ◌∷◌, ◌++◌}
use lib.Dec.{T, eqb, eqb→eq, eqb_refl}
use lib.ListN.{length, get_or}
use borrow.Author.Tests.{eqb-true, eqb-false}
use Rattle.switch.specs.Conduction.{Value, Link, Among, Joined, here, forth, back, ground, supply}
use Rattle.switch.specs.Modules.{ModuleType, all_of, links_of, setting_of, ExactlyOne, only_first, only_second, Complementary}
use Rattle.switch.specs.Deciding.{rename, part_of_node, renamings, joins, all_below, one_rail, is_complementary, is_marked}
use Rattle.switch.specs.Bridges.{Marked, closing}
use Rattle.switch.specs.Statements.{JoinsDecides, ComplementaryDecides, MarkDecides}
use Rattle.switch.proofs.Paths.{Linked, more-links, one_more_lem, both}

-- ---- tests

pub same_test : (a b : Bool) → (T a → T b) → (T b → T a) → a ≡ b
same_test true true f g = refl
same_test true false f g = absurd (f tt)
same_test false true f g = absurd (g tt)
same_test false false f g = refl

pub and_both : (a b : Bool) → T a → T b → T (a && b)
and_both true b s t = t
and_both false b s t = absurd s

below_each : (n : ℕ) (test : ℕ → Bool) → T (all_below n test) → (i : ℕ) → i < n → T (test i)
unfolding all_below
below_each zero test t i l = absurd (not-suc-le-zero l)
below_each (suc n) test t i l =
    let parts = both (test n) (all_below n test) t in
    ⊎_elim (λ (e : i ≡ n). rw e parts.0) (λ (k : i < n). below_each n test parts.1 i k) (eq-or-lt_of_le (le_of_suc-le-suc l))

each_below : (n : ℕ) (test : ℕ → Bool) → ((i : ℕ) → i < n → T (test i)) → T (all_below n test)
unfolding all_below
each_below zero test f = tt
each_below (suc n) test f = and_both (test n) (all_below n test) (f n (lt-suc_self n)) (each_below n test (λ i l. f i (omega arith)))

pub all-below : (n : ℕ) (test : ℕ → Bool) → T (all_below n test) ↔ ((i : ℕ) → i < n → T (test i))
all-below n test = (below_each n test, each_below n test)

of_each : {A : Type 0} (test : A → Bool) (d : A) (as' : List A) → T (all_of test as') → (i : ℕ) → i < length as' → T (test (get_or as' i d))
unfolding all_of
of_each test d [] t i l = absurd (not-suc-le-zero l)
of_each test d (a ∷ as') t zero l = (both (test a) (all_of test as') t).0
of_each test d (a ∷ as') t (suc i) l = of_each test d as' (both (test a) (all_of test as') t).1 i (le_of_suc-le-suc l)

each_of : {A : Type 0} (test : A → Bool) (d : A) (as' : List A) → ((i : ℕ) → i < length as' → T (test (get_or as' i d))) → T (all_of test as')
unfolding all_of
each_of test d [] f = tt
each_of test d (a ∷ as') f =
    and_both (test a) (all_of test as') (f 0 (suc-le-suc zero-le)) (each_of test d as' (λ i l. f (suc i) (suc-le-suc l)))

pub all_of_lem : {A : Type 0} (test : A → Bool) (d : A) (as' : List A)
    → T (all_of test as') ↔ ((i : ℕ) → i < length as' → T (test (get_or as' i d)))
all_of_lem test d as' = (of_each test d as', each_of test d as')

-- ---- joined

-- i and j are one part, or are p and q, one way or the other
abbrev One : ℕ → ℕ → ℕ → ℕ → Type 0
One p q i j = (i ≡ j) ⊎ (((i ≡ p) × (q ≡ j)) ⊎ ((i ≡ q) × (p ≡ j)))

-- two parts are one after the part p is called q exactly then
module _ (p q i j : ℕ) where
  one_of : (x y : Bool) → eqb i p ≡ x → eqb j p ≡ y → cond x q i ≡ cond y q j → One p q i j
  one_of true true ei ej e = inl (eqb-true i p ei ∙ sym (eqb-true j p ej))
  one_of true false ei ej e = inr (inl (eqb-true i p ei, e))
  one_of false true ei ej e = inr (inr (e, sym (eqb-true j p ej)))
  one_of false false ei ej e = inl e

  of_one : (x y : Bool) → eqb i p ≡ x → eqb j p ≡ y → One p q i j → cond x q i ≡ cond y q j
  of_one true true ei ej o = refl
  of_one true false ei ej (inl e) = absurd (eqb-false j p ej (sym e ∙ eqb-true i p ei))
  of_one true false ei ej (inr (inl (e, f))) = f
  of_one true false ei ej (inr (inr (e, f))) = absurd (eqb-false j p ej (sym f))
  of_one false true ei ej (inl e) = absurd (eqb-false i p ei (e ∙ eqb-true j p ej))
  of_one false true ei ej (inr (inl (e, f))) = absurd (eqb-false i p ei e)
  of_one false true ei ej (inr (inr (e, f))) = e
  of_one false false ei ej (inl e) = e
  of_one false false ei ej (inr (inl (e, f))) = absurd (eqb-false i p ei e)
  of_one false false ei ej (inr (inr (e, f))) = absurd (eqb-false j p ej (sym f))

  renamed : One p q i j ↔ (rename p q i ≡ rename p q j)
  unfolding rename
  renamed = (of_one (eqb i p) (eqb j p) refl refl, one_of (eqb i p) (eqb j p) refl refl)

-- the part of a node over ws
part : List Link → ℕ → ℕ
part ws m = part_of_node (renamings ws) m

no_link : (a b : ℕ) → Joined [] a b → a ≡ b
no_link a b here = refl
no_link a b (forth m p) = absurd (Memᴰ.not-nil m)
no_link a b (back m p) = absurd (Memᴰ.not-nil m)

module _ (ws : List Link) (to : (a b : ℕ) → Joined ws a b ↔ (part ws a ≡ part ws b)) where
  parts_linked : (x y a b : ℕ) → Linked ws x y a b → One (part ws x) (part ws y) (part ws a) (part ws b)
  parts_linked x y a b (inl p) = inl ((to a b).0 p)
  parts_linked x y a b (inr (inl (p, r))) = inr (inl ((to a x).0 p, (to y b).0 r))
  parts_linked x y a b (inr (inr (p, r))) = inr (inr ((to a y).0 p, (to x b).0 r))

  linked_parts : (x y a b : ℕ) → One (part ws x) (part ws y) (part ws a) (part ws b) → Linked ws x y a b
  linked_parts x y a b (inl p) = inl ((to a b).1 p)
  linked_parts x y a b (inr (inl (p, r))) = inr (inl ((to a x).1 p, (to y b).1 r))
  linked_parts x y a b (inr (inr (p, r))) = inr (inr ((to a y).1 p, (to x b).1 r))

-- two nodes are joined exactly when they are in one part
one_part : (ws : List Link) (a b : ℕ) → Joined ws a b ↔ (part ws a ≡ part ws b)
unfolding part part_of_node renamings
one_part [] a b = (no_link a b, λ e. subst (Joined [] a) e here)
one_part ((x, y) ∷ ws) a b = (
  λ j. (renamed (part ws x) (part ws y) (part ws a) (part ws b)).0 (parts_linked ws (one_part ws) x y a b ((one_more_lem ws x y a b).0 j)),
  λ e. (one_more_lem ws x y a b).1 (linked_parts ws (one_part ws) x y a b ((renamed (part ws x) (part ws y) (part ws a) (part ws b)).1 e)),
)

pub joins_decides : JoinsDecides
unfolding joins part
joins_decides ws a b =
    (λ j. rw (← ((one_part ws a b).0 j)) (eqb_refl (part ws a)), λ t. (one_part ws a b).1 (eqb→eq (part ws a) (part ws b) t))

pub mark_decides : MarkDecides
unfolding Marked is_marked
mark_decides t values bridge = joins_decides (closing bridge values ++ links_of t values) supply ground

-- `joins` tells no more than which links there are
pub joins-same : (ws others : List Link) → ((w : Link) → Among w ws → Among w others) → ((w : Link) → Among w others → Among w ws)
    → (a b : ℕ) → joins ws a b ≡ joins others a b
joins-same ws others f g a b =
    same_test
    (joins ws a b)
    (joins others a b)
    (λ t. (joins_decides others a b).0 (more-links ws others f a b ((joins_decides ws a b).1 t)))
    (λ t. (joins_decides ws a b).0 (more-links others ws g a b ((joins_decides others a b).1 t)))

-- ---- complementary

module _ {A B : Type 0} where
  differ : (a b : Bool) → A ↔ T a → B ↔ T b → ExactlyOne A B → T (not (beq a b))
  differ true true ea eb (only_first x n) = n (eb.1 tt)
  differ true true ea eb (only_second n y) = n (ea.1 tt)
  differ true false ea eb o = tt
  differ false true ea eb o = tt
  differ false false ea eb (only_first x n) = ea.0 x
  differ false false ea eb (only_second n y) = eb.0 y

  of_differ : (a b : Bool) → A ↔ T a → B ↔ T b → T (not (beq a b)) → ExactlyOne A B
  of_differ true true ea eb t = absurd t
  of_differ true false ea eb t = only_first (ea.1 tt) eb.0
  of_differ false true ea eb t = only_second ea.0 (eb.1 tt)
  of_differ false false ea eb t = absurd t

pub one_rail_lem : (t : ModuleType) (values : ℕ → Value)
    → ExactlyOne (Joined (links_of t values) t.output ground) (Joined (links_of t values) t.output supply) ↔ T (one_rail t values)
unfolding one_rail
one_rail_lem t values =
    let ws : List Link = links_of t values in
    let o : ℕ = t.output in (
      differ (joins ws o ground) (joins ws o supply) (joins_decides ws o ground) (joins_decides ws o supply),
      of_differ (joins ws o ground) (joins ws o supply) (joins_decides ws o ground) (joins_decides ws o supply),
    )

pub complementary_decides : ComplementaryDecides
unfolding Complementary is_complementary
complementary_decides t =
    let each = all-below (2 ^ t.labels) (λ (s : ℕ). one_rail t (setting_of s)) in
    (λ c. each.1 (λ s l. (one_rail_lem t (setting_of s)).0 (c s l)), λ b s l. (one_rail_lem t (setting_of s)).1 (each.0 b s l))
