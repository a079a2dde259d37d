-- The search for a row's class by chains. A row is the first of its class when no earlier row has its key. Each bucket's first rows are chained, from the
-- last to the first; a pointer is one more than a row's place, 0 for none, and pointers fall along a chain. So a search that ends finds the first earlier
-- row with the key, or that there is none. Assumes nothing.
use Prim.Native.Nat.{ℕ, zero, suc, ◌+◌, ◌<◌, ◌≤◌}
use mathlib.Core.Path.{◌≡◌, refl, sym, ap, ◌∙◌}
use mathlib.Core.Logic.{⊎_elim}
use mathlib.Core.List.{List, [], ◌∷◌, ◌++◌}
use native.Mathlib.Nat.{not-suc-le-zero}
use native.Mathlib.Decide.{ℕ_discrete}
use native.Mathlib.Numerals.{add-one}
use native.Mathlib.Omega.{arith}
use borrow.Author.Tests.{eq-eqb}
use lib.Dec.{T, eqb, eqb→eq}
use lib.ListN.{length, get_or, set, take, length-set}
use lib.Seq.{get_or-set_same, get_or-set_other, get_or-take, take-suc, length-take-le}
use Rattle.words.specs.Written.{written}
use Rattle.words.proofs.WrittenLaws.{written_nothing, written_here, set_behind, length_written}
use Rattle.grading.specs.Classes.{largest, classes_after_by, classes_by}
use Rattle.grading.proofs.ClassLists.{class_of, length_classes, largest-append, largest_most, at-most-largest, classes_snoc}
use Rattle.grading.proofs.ClassNumbering.{searched, class_at_lem, class_new}
use Rattle.grade_classes.specs.Model.{bucket_of}

module _ (keys : List ℕ) where
  abbrev key_at : ℕ → ℕ
  key_at r = get_or keys r 0

  -- no earlier row has its key
  abbrev IsFirst : ℕ → Type 0
  IsFirst r = (s : ℕ) → s < r → key_at s ≡ key_at r → ⊥

  -- ---- chains

  -- a pointer to the last first row of a bucket below a bound
  pub record Points (bound bucket p : ℕ) : Type 0 where
    pub below : p ≤ bound
    pub is_first : (r : ℕ) → p ≡ suc r → IsFirst r × (bucket_of (key_at r) ≡ bucket)
    pub last : (r : ℕ) → r < bound → IsFirst r → bucket_of (key_at r) ≡ bucket → r < p

  -- the chains of the first rows below a bound
  pub record Chained (heads nexts : List ℕ) (bound : ℕ) : Type 0 where
    pub heads_long : length heads ≡ 251
    pub nexts_long : length nexts ≡ 2048
    pub heads_point : (b : ℕ) → b < 251 → Points bound b (get_or heads b 0)
    pub nexts_point : (r : ℕ) → r < bound → IsFirst r → Points r (bucket_of (key_at r)) (get_or nexts r 0)

  points_none : (b p : ℕ) → p ≡ 0 → Points 0 b p
  points_none b p e = record {
    below = omega arith;
    is_first = λ r q. absurd (omega arith);
    last = λ r h. absurd (not-suc-le-zero h);
  }

  pub chained_none : (heads nexts : List ℕ) → length heads ≡ 251 → length nexts ≡ 2048 → ((b : ℕ) → b < 251 → get_or heads b 0 ≡ 0) → Chained heads nexts 0
  chained_none heads nexts p q none = record {
    heads_long = p;
    nexts_long = q;
    heads_point = λ b h. points_none b (get_or heads b 0) (none b h);
    nexts_point = λ r h. absurd (not-suc-le-zero h);
  }

  -- a row that is not a first row of this bucket changes nothing there
  points_on : (bound b p : ℕ) → Points bound b p → (IsFirst bound → bucket_of (key_at bound) ≡ b → ⊥) → Points (suc bound) b p
  points_on bound b p points other = record {
    below = omega (arith, points.below);
    is_first = points.is_first;
    last = λ r h f e. go r h f e (ℕ_discrete r bound);
  }
    where
      go : (r : ℕ) → r < suc bound → IsFirst r → bucket_of (key_at r) ≡ b → Dec (r ≡ bound) → r < p
      go r h f e (yes q) = absurd (other (rw q at f) (rw q at e))
      go r h f e (no q) = points.last r (omega arith) f e

  module _ {heads nexts : List ℕ} {r : ℕ} (chained : Chained heads nexts r) where
    -- a row whose key an earlier one has
    pub chained_old : (IsFirst r → ⊥) → Chained heads nexts (suc r)
    chained_old old = record {
      heads_long = chained.heads_long;
      nexts_long = chained.nexts_long;
      heads_point = λ b h. points_on r b (get_or heads b 0) (chained.heads_point b h) (λ f e. old f);
      nexts_point = λ s h f. go s h f (ℕ_discrete s r);
    }
      where
        go : (s : ℕ) → s < suc r → IsFirst s → Dec (s ≡ r) → Points s (bucket_of (key_at s)) (get_or nexts s 0)
        go s h f (yes e) = absurd (old (rw e at f))
        go s h f (no e) = chained.nexts_point s (omega arith) f

    -- a first row enters its chain
    module _ (first : IsFirst r) (inside : r < 2048) where
      abbrev bucket : ℕ
      bucket = bucket_of (key_at r)

      abbrev heads⁺ : List ℕ
      heads⁺ = set heads bucket (suc r)

      abbrev nexts⁺ : List ℕ
      nexts⁺ = set nexts r (get_or heads bucket 0)

      in_heads : bucket < length heads
      in_heads = omega (arith, chained.heads_long)

      head_own : Points (suc r) bucket (suc r)
      head_own = record {
        below = omega arith;
        is_first = λ s e. let same : r ≡ s = omega arith in rw (← same) (first, refl);
        last = λ s h f e. h;
      }

      head_at : (b : ℕ) → b < 251 → Dec (b ≡ bucket) → Points (suc r) b (get_or heads⁺ b 0)
      head_at b h (yes e) = rw (e, get_or-set_same heads bucket (suc r) 0 in_heads) head_own
      head_at b h (no e) =
          rw (get_or-set_other heads bucket b (suc r) 0 e) (points_on r b (get_or heads b 0) (chained.heads_point b h) (λ f q. e (sym q)))

      next_at : (s : ℕ) → s < suc r → IsFirst s → Dec (s ≡ r) → Points s (bucket_of (key_at s)) (get_or nexts⁺ s 0)
      next_at s h f (yes e) =
          rw (e, get_or-set_same nexts r (get_or heads bucket 0) 0 (omega (arith, chained.nexts_long))) (chained.heads_point bucket (omega arith))
      next_at s h f (no e) = rw (get_or-set_other nexts r s (get_or heads bucket 0) 0 e) (chained.nexts_point s (omega arith) f)

      pub chained_new : Chained heads⁺ nexts⁺ (suc r)
      chained_new = record {
        heads_long = length-set heads bucket (suc r) ∙ chained.heads_long;
        nexts_long = length-set nexts r (get_or heads bucket 0) ∙ chained.nexts_long;
        heads_point = λ b h. head_at b h (ℕ_discrete b bucket);
        nexts_point = λ s h f. next_at s h f (ℕ_discrete s r);
      }

  -- ---- the search for a key among the rows below a bound

  -- what is left of it: every first row with the key is below the pointer
  pub record Seeks (key bound p : ℕ) : Type 0 where
    pub within : p ≤ bound
    pub at_first : (r : ℕ) → p ≡ suc r → IsFirst r × (bucket_of (key_at r) ≡ bucket_of key)
    pub left : (r : ℕ) → r < bound → IsFirst r → key_at r ≡ key → r < p

  module _ {heads nexts : List ℕ} {bound : ℕ} (chained : Chained heads nexts bound) (key : ℕ) where
    pub seeks_begin : Seeks key bound (get_or heads (bucket_of key) 0)
    seeks_begin =
        let head = chained.heads_point (bucket_of key) (omega arith) in
        record { within = head.below; at_first = head.is_first; left = λ r h f e. head.last r h f (ap bucket_of e) }

    module _ (p j : ℕ) (seeks : Seeks key bound p) (at : p ≡ suc j) where
      next_points : Points j (bucket_of (key_at j)) (get_or nexts j 0)
      next_points = chained.nexts_point j (omega (arith, seeks.within)) (seeks.at_first j at).0

      -- the pointer falls
      pub seeks_less : get_or nexts j 0 < p
      seeks_less = omega (arith, next_points.below)

      pub seeks_on : (key_at j ≡ key → ⊥) → Seeks key bound (get_or nexts j 0)
      seeks_on other =
          let bucket_is : bucket_of (key_at j) ≡ bucket_of key = (seeks.at_first j at).1 in
          record {
            within = omega (arith, next_points.below, seeks.within);
            at_first = λ r e. let there = next_points.is_first r e in (there.0, there.1 ∙ bucket_is);
            left = λ r h f e.
                let before : r < j = go r (seeks.left r h f e) e (ℕ_discrete r j) in
                next_points.last r before f (ap bucket_of e ∙ sym bucket_is);
          }
        where
          go : (r : ℕ) → r < p → key_at r ≡ key → Dec (r ≡ j) → r < j
          go r h e (yes q) = absurd (other (ap key_at (sym q) ∙ e))
          go r h e (no q) = omega arith

  -- where it has come to an end no row has the key
  pub seeks_none : (key bound p : ℕ) → Seeks key bound p → p ≡ 0 → (r : ℕ) → r < bound → key_at r ≡ key → ⊥
  seeks_none key bound p seeks end r h = below (suc r) (omega arith) r (omega arith)
    where
      below : (n : ℕ) → n ≤ bound → (s : ℕ) → s < n → key_at s ≡ key → ⊥
      below zero few s q e = not-suc-le-zero q
      below (suc n) few s q e = go (ℕ_discrete s n) (below n (omega arith))
        where
          go : Dec (s ≡ n) → ((t : ℕ) → t < n → key_at t ≡ key → ⊥) → ⊥
          go (yes same) none =
              let first : IsFirst s = λ t l f. none t (omega arith) (f ∙ e) in
              absurd (omega (arith, seeks.left s (omega arith) first e))
          go (no apart) none = none s (omega arith) e

  -- ---- rows numbered

  abbrev pub numbers_to : ℕ → List ℕ
  numbers_to r = classes_by eqb (take r keys)

  pub record Numbered (classes₀ heads nexts classes : List ℕ) (count r : ℕ) : Type 0 where
    pub chained : Chained heads nexts r
    pub classes_are : classes ≡ written classes₀ 0 (numbers_to r)
    pub count_is : count ≡ largest (numbers_to r)

  pub numbered_none : (classes heads nexts : List ℕ) → length heads ≡ 251 → length nexts ≡ 2048 → ((b : ℕ) → b < 251 → get_or heads b 0 ≡ 0)
      → Numbered classes heads nexts classes 0 0
  unfolding classes_by classes_after_by largest
  numbered_none classes heads nexts p q none =
      record { chained = chained_none heads nexts p q none; classes_are = sym (written_nothing classes 0); count_is = refl }

  -- the class buffer is as long as it was
  pub classes_long : {classes₀ heads nexts classes : List ℕ} {count r : ℕ} → Numbered classes₀ heads nexts classes count r → r ≤ length keys
      → r ≤ length classes₀ → length classes ≡ length classes₀
  classes_long {classes₀ = classes₀} {r = r} so_far keyed classed =
      ap length so_far.classes_are
      ∙ length_written classes₀ 0 (numbers_to r) (omega (arith, length_classes eqb (take r keys), length-take-le r keys keyed))

  module _ {classes₀ heads nexts classes : List ℕ} {count r : ℕ} (so_far : Numbered classes₀ heads nexts classes count r)
      (keyed : r < length keys) (classed : r < length classes₀) where
    abbrev key : ℕ
    key = key_at r

    abbrev before : List ℕ
    before = take r keys

    rows_before_lem : length before ≡ r
    rows_before_lem = length-take-le r keys (omega arith)

    numbers_long : length (numbers_to r) ≡ r
    numbers_long = length_classes eqb before ∙ rows_before_lem

    -- no more classes than rows
    pub count_few : count ≤ r
    count_few = omega (arith, so_far.count_is, largest_most eqb before, rows_before_lem)

    class_stands : (j : ℕ) → j < r → get_or classes j 0 ≡ get_or (numbers_to r) j 0
    class_stands j h =
        rw so_far.classes_are (ap (λ (k : ℕ). get_or (written classes₀ 0 (numbers_to r)) k 0) (omega arith)
        ∙ written_here classes₀ 0 (numbers_to r) (omega (arith, numbers_long)) j (omega (arith, numbers_long)))

    -- keys that a test finds equal
    same_at : (s : ℕ) → s < r → T (eqb (get_or before s 0) key) → key_at s ≡ key
    same_at s h t = sym (get_or-take r keys s 0 h) ∙ eqb→eq (get_or before s 0) key t

    at_same : (s : ℕ) → s < r → key_at s ≡ key → T (eqb (get_or before s 0) key)
    at_same s h e = rw (eq-eqb (get_or before s 0) key (get_or-take r keys s 0 h ∙ e)) tt

    abbrev ClassIs : ℕ → Type 0
    ClassIs class = class ≡ class_of eqb key before (numbers_to r)

    -- what the search yields: a new number where no row has the key,
    pub yields_new : (p : ℕ) → Seeks key r p → p ≡ 0 → ClassIs (suc count)
    yields_new p seeks end =
        ap suc so_far.count_is
        ∙ sym (class_new eqb 0 key (suc (largest (numbers_to r))) before (numbers_to r) (length_classes eqb before)
        (λ s h t. seeks_none key r p seeks end s (omega (arith, rows_before_lem)) (same_at s (omega (arith, rows_before_lem)) t)))

    -- and the number of a row that has it
    pub yields_old : (p j : ℕ) → Seeks key r p → p ≡ suc j → key_at j ≡ key → ClassIs (get_or classes j 0)
    yields_old p j seeks at e =
        let inside : j < r = omega (arith, seeks.within) in
        class_stands j inside
        ∙ sym (class_at_lem eqb 0 key (suc (largest (numbers_to r))) before (numbers_to r) (length_classes eqb before) j (omega (arith, rows_before_lem))
        (at_same j inside e) (λ s h t. (seeks.at_first j at).0 s h (same_at s (omega arith) t ∙ sym e)))

    -- ---- one row more

    module _ (class : ℕ) (is : ClassIs class) where
      more : numbers_to (suc r) ≡ numbers_to r ++ (class ∷ [])
      more = rw (take-suc keys r 0 keyed, classes_snoc eqb before key, is)

      classes_more : set classes r class ≡ written classes₀ 0 (numbers_to (suc r))
      classes_more =
          rw (more, so_far.classes_are) (set_behind classes₀ 0 (numbers_to r) r class (omega (arith, numbers_long)) classed)

      -- a new number: the row enters its chain
      pub numbered_new : (bucket : ℕ) → bucket ≡ bucket_of key → (heads' nexts' : List ℕ) (count' : ℕ) → heads' ≡ set heads bucket (r + 1)
          → nexts' ≡ set nexts r (get_or heads bucket 0) → count' ≡ class → count < class → r < 2048
          → Numbered classes₀ heads' nexts' (set classes r class) count' (r + 1)
      unfolding largest
      numbered_new bucket b heads' nexts' count' h n k high inside =
          rw (h, n, k, b, add-one r) record {
            chained = chained_new so_far.chained first inside;
            classes_are = classes_more;
            count_is = rw more (omega (arith, largest-append (numbers_to r) (class ∷ []), so_far.count_is));
          }
        where
          first : IsFirst r
          first =
              ⊎_elim
              (λ m. absurd (omega (arith, is, m.class_is, at-most-largest (numbers_to r) m.place, so_far.count_is)))
              (λ f s q e. f.unmatched s (omega (arith, rows_before_lem)) (at_same s q e))
              (searched eqb 0 key (suc (largest (numbers_to r))) before (numbers_to r) (length_classes eqb before))

      -- an old one
      pub numbered_old : (heads' nexts' : List ℕ) (count' : ℕ) → heads' ≡ heads → nexts' ≡ nexts → count' ≡ count → class ≤ count
          → Numbered classes₀ heads' nexts' (set classes r class) count' (r + 1)
      unfolding largest
      numbered_old heads' nexts' count' h n k low =
          rw (h, n, k, add-one r) record {
            chained = chained_old so_far.chained old;
            classes_are = classes_more;
            count_is = rw more (omega (arith, largest-append (numbers_to r) (class ∷ []), so_far.count_is));
          }
        where
          old : IsFirst r → ⊥
          old first =
              ⊎_elim
              (λ m.
              first m.place (omega (arith, m.within, rows_before_lem)) (same_at m.place (omega (arith, m.within, rows_before_lem)) m.matches))
              (λ f. absurd (omega (arith, is, f.class_is, so_far.count_is)))
              (searched eqb 0 key (suc (largest (numbers_to r))) before (numbers_to r) (length_classes eqb before))
