-- Class numbers tell the classes of any equivalence: two rows have equal numbers exactly when they are of one class, and the numbers are 1 to the number of
-- classes, each of them a row's. By rows: the class of a row is that of the first earlier row that it matches, or a new one where it matches none.
-- Assumes nothing.
use Prim.Native.Nat.{ℕ, zero, suc, ◌<◌, ◌≤◌}
use mathlib.Core.Path.{◌≡◌, refl, sym, ap, subst, ◌∙◌}
use mathlib.Core.Bool.{Bool, true, false, cond}
use mathlib.Core.Logic.{◌⊎◌, inl, inr, ⊎_elim, ◌↔◌}
use mathlib.Core.List.Memᴰ
use mathlib.Core.List.{List, [], ◌∷◌, ◌++◌, append-nil, append_assoc}
use native.Mathlib.Nat.{not-suc-le-zero}
use native.Mathlib.Decide.{dec_lt, dec_le}
use native.Mathlib.Omega.{arith}
use lib.Dec.{T}
use lib.ListN.{length, get_or, length-append, get_or-append}
use lib.Seq.{get_or_at}
use Rattle.circuit.specs.Circuit.{Circuit}
use Rattle.grading.specs.Rows.{Row, rows_of}
use Rattle.grading.specs.Classes.{same_class, class_among_by, largest, classes_after_by, classes_by}
use Rattle.grading.specs.Statements.{Equivalence, NumberingTells, RowOf, ClassNumbers}
use Rattle.grading.proofs.Everywhere.{Every, every_at, every_first, every_second}
use Rattle.grading.proofs.SameClass.{same_class_is_equivalence}
use Rattle.grading.proofs.ClassLists.{class_of, largest-append, at-most-largest, among_most}

-- ---- the search for a row's class

module _ {A : Type 0} (test : A → A → Bool) (none : A) where
  -- the class found is that of the first earlier row that matches
  pub record Matched (row : A) (before : List A) (classes : List ℕ) (class : ℕ) : Type 0 where
    pub place : ℕ
    pub within : place < length before
    pub matches : T (test (get_or before place none) row)
    pub first : (r : ℕ) → r < place → T (test (get_or before r none) row) → ⊥
    pub class_is : class ≡ get_or classes place 0

  -- or none matches, and it is new
  pub record Fresh (row : A) (before : List A) (new class : ℕ) : Type 0 where
    pub unmatched : (r : ℕ) → r < length before → T (test (get_or before r none) row) → ⊥
    pub class_is : class ≡ new

  pub searched : (row : A) (new : ℕ) (before : List A) (classes : List ℕ) → length classes ≡ length before
      → Matched row before classes (class_among_by test row new before classes) ⊎ Fresh row before new (class_among_by test row new before classes)
  unfolding class_among_by
  searched row new [] classes e = inr (record { unmatched = λ r h. absurd (not-suc-le-zero h); class_is = refl })
  searched row new (r ∷ rs) [] e = absurd (omega arith)
  searched row new (r ∷ rs) (n ∷ ns) e = go (test r row) refl (searched row new rs ns (omega arith))
    where
      later : ℕ
      later = class_among_by test row new rs ns

      past : test r row ≡ false → (bound : ℕ) → ((k : ℕ) → k < bound → T (test (get_or rs k none) row) → ⊥)
          → (k : ℕ) → k < suc bound → T (test (get_or (r ∷ rs) k none) row) → ⊥
      past s bound f zero h t = subst T s t
      past s bound f (suc k) h t = f k (omega arith) t

      go : (b : Bool) → test r row ≡ b → Matched row rs ns later ⊎ Fresh row rs new later
          → Matched row (r ∷ rs) (n ∷ ns) (cond b n later) ⊎ Fresh row (r ∷ rs) new (cond b n later)
      go true s found =
          inl (record { place = 0; within = omega arith; matches = rw s tt; first = λ k h. absurd (not-suc-le-zero h); class_is = refl })
      go false s (inl m) = inl (record {
        place = suc m.place;
        within = omega (arith, m.within);
        matches = m.matches;
        first = past s m.place m.first;
        class_is = m.class_is;
      })
      go false s (inr f) = inr (record { unmatched = past s (length rs) f.unmatched; class_is = f.class_is })

  module _ (row : A) (new : ℕ) (before : List A) (classes : List ℕ) (long : length classes ≡ length before) where
    -- the first row that matches gives the class
    pub class_at_lem : (place : ℕ) → place < length before → T (test (get_or before place none) row)
        → ((r : ℕ) → r < place → T (test (get_or before r none) row) → ⊥) → class_among_by test row new before classes ≡ get_or classes place 0
    class_at_lem place h t none_before = ⊎_elim there (λ f. absurd (f.unmatched place h t)) (searched row new before classes long)
      where
        there : Matched row before classes (class_among_by test row new before classes) → class_among_by test row new before classes ≡ get_or classes place 0
        there m =
            let low : m.place < place → ⊥ = λ l. none_before m.place l m.matches in
            let high : place < m.place → ⊥ = λ l. m.first place l t in
            let one : m.place ≡ place = omega arith in
            m.class_is ∙ ap (λ (k : ℕ). get_or classes k 0) one

    -- where none matches it is new
    pub class_new : ((r : ℕ) → r < length before → T (test (get_or before r none) row) → ⊥) → class_among_by test row new before classes ≡ new
    class_new unmatched =
        ⊎_elim (λ m. absurd (unmatched m.place m.within m.matches)) (λ f. f.class_is) (searched row new before classes long)

-- ---- numbers that rise

-- n stands in the list before this place
abbrev Before : List ℕ → ℕ → ℕ → Type 0
Before ns place n = (s : ℕ) × (s < place) × (get_or ns s 0 ≡ n)

-- each number below that of a place stands before the place, and each up to the largest stands somewhere
record Rising (ns : List ℕ) : Type 0 where
  rises : (r n : ℕ) → r < length ns → 1 ≤ n → n < get_or ns r 0 → Before ns r n
  each : (n : ℕ) → 1 ≤ n → n ≤ largest ns → Before ns (length ns) n

rising_none : Rising []
unfolding largest
rising_none = record { rises = λ r n h. absurd (not-suc-le-zero h); each = λ n p q. absurd (omega arith) }

module _ (ns : List ℕ) (new : ℕ) (next : new ≤ suc (largest ns)) (so_far : Rising ns) where
  kept : (place n : ℕ) → place ≤ length ns → Before ns place n → Before (ns ++ (new ∷ [])) place n
  kept place n h b = (b.0, b.1, get_or-append ns (new ∷ []) 0 b.0 (omega (arith, b.1)) ∙ b.2)

  last : get_or (ns ++ (new ∷ [])) (length ns) 0 ≡ new
  last = get_or_at ns new [] 0 (length ns) refl

  rises⁺ : (r n : ℕ) → r < length (ns ++ (new ∷ [])) → 1 ≤ n → n < get_or (ns ++ (new ∷ [])) r 0 → Before (ns ++ (new ∷ [])) r n
  rises⁺ r n h p q = go (dec_lt r (length ns))
    where
      go : Dec (r < length ns) → Before (ns ++ (new ∷ [])) r n
      go (yes k) = kept r n (omega arith) (so_far.rises r n k p (omega (arith, get_or-append ns (new ∷ []) 0 r k)))
      go (no k) =
          let end : r ≡ length ns = omega (arith, length-append ns (new ∷ [])) in
          let below : n < new = omega (arith, last, ap (λ (s : ℕ). get_or (ns ++ (new ∷ [])) s 0) end) in
          rw end (kept (length ns) n (omega arith) (so_far.each n p (omega arith)))

  each⁺ : (n : ℕ) → 1 ≤ n → n ≤ largest (ns ++ (new ∷ [])) → Before (ns ++ (new ∷ [])) (length (ns ++ (new ∷ []))) n
  unfolding largest
  each⁺ n p q = go (dec_le n (largest ns))
    where
      longer : length (ns ++ (new ∷ [])) ≡ suc (length ns)
      longer = omega (arith, length-append ns (new ∷ []))

      go : Dec (n ≤ largest ns) → Before (ns ++ (new ∷ [])) (length (ns ++ (new ∷ []))) n
      go (yes k) = let old = kept (length ns) n (omega arith) (so_far.each n p k) in (old.0, omega (arith, old.1, longer), old.2)
      go (no k) = (length ns, omega (arith, longer), omega (arith, last, largest-append ns (new ∷ [])))

  rising_more : Rising (ns ++ (new ∷ []))
  rising_more = record { rises = rises⁺; each = each⁺ }

-- ---- row by row

module _ {A : Type 0} (P : A → Type 0) (test : A → A → Bool) (laws : Equivalence P test) where
  -- rows and their numbers so far
  record Numbered (rows : List A) (classes : List ℕ) : Type 0 where
    long : length classes ≡ length rows
    same : (r s : ℕ) (none : A) → r < length rows → s < length rows
        → (get_or classes r 0 ≡ get_or classes s 0) ↔ T (test (get_or rows r none) (get_or rows s none))
    low : (r : ℕ) → r < length rows → 1 ≤ get_or classes r 0
    rising : Rising classes

  module _ (rows : List A) (classes : List ℕ) (row : A) (so_far : Numbered rows classes) (ours : Every P rows) (own : P row) where
    abbrev class : ℕ
    class = class_of test row rows classes

    abbrev rows⁺ : List A
    rows⁺ = rows ++ (row ∷ [])

    abbrev classes⁺ : List ℕ
    classes⁺ = classes ++ (class ∷ [])

    abbrev Old : A → Type 0
    Old none = Matched test none row rows classes class

    abbrev New : A → Type 0
    New none = Fresh test none row rows (suc (largest classes)) class

    search_class : (none : A) → Old none ⊎ New none
    search_class none = searched test none row (suc (largest classes)) rows classes so_far.long

    class_in_lem : (r : ℕ) → r < length rows → get_or classes⁺ r 0 ≡ get_or classes r 0
    class_in_lem r h = get_or-append classes (class ∷ []) 0 r (omega (arith, so_far.long))

    class_last : (r : ℕ) → r ≡ length rows → get_or classes⁺ r 0 ≡ class
    class_last r e = get_or_at classes class [] 0 r (so_far.long ∙ sym e)

    end : (r : ℕ) → r < length rows⁺ → (r < length rows → ⊥) → r ≡ length rows
    end r h k = omega (arith, length-append rows (row ∷ []))

    module _ (none : A) where
      ours_at : (r : ℕ) → r < length rows → P (get_or rows r none)
      ours_at r h = every_at P rows ours r none h

      -- an earlier row has the new row's number exactly when they are of one class
      with_row : (r : ℕ) → r < length rows → (get_or classes r 0 ≡ class) ↔ T (test (get_or rows r none) row)
      with_row r h = ⊎_elim matched fresh (search_class none)
        where
          matched : Old none → (get_or classes r 0 ≡ class) ↔ T (test (get_or rows r none) row)
          matched m =
              let j : ℕ = m.place in
              let its : P (get_or rows j none) = ours_at j m.within in
              let back : T (test row (get_or rows j none)) = laws.turned (get_or rows j none) row its own m.matches in (
                λ e.
                    laws.through (get_or rows r none) (get_or rows j none) row (ours_at r h) its own
                    ((so_far.same r j none h m.within).0 (e ∙ m.class_is)) m.matches,
                λ t.
                    (so_far.same r j none h m.within).1
                    (laws.through (get_or rows r none) row (get_or rows j none) (ours_at r h) own its t back)
                    ∙ sym m.class_is,
              )

          fresh : New none → (get_or classes r 0 ≡ class) ↔ T (test (get_or rows r none) row)
          fresh f = (λ e. absurd (omega (arith, f.class_is, at-most-largest classes r)), λ t. absurd (f.unmatched r h t))

      row_in : (r : ℕ) → r < length rows → get_or rows⁺ r none ≡ get_or rows r none
      row_in r h = get_or-append rows (row ∷ []) none r h

      row_last : (r : ℕ) → r ≡ length rows → get_or rows⁺ r none ≡ row
      row_last r e = get_or_at rows row [] none r (sym e)

      same⁺ : (r s : ℕ) → r < length rows⁺ → s < length rows⁺
          → (get_or classes⁺ r 0 ≡ get_or classes⁺ s 0) ↔ T (test (get_or rows⁺ r none) (get_or rows⁺ s none))
      same⁺ r s h k = go (dec_lt r (length rows)) (dec_lt s (length rows))
        where
          go : Dec (r < length rows) → Dec (s < length rows)
              → (get_or classes⁺ r 0 ≡ get_or classes⁺ s 0) ↔ T (test (get_or rows⁺ r none) (get_or rows⁺ s none))
          go (yes p) (yes q) = rw (row_in r p, row_in s q, class_in_lem r p, class_in_lem s q) (so_far.same r s none p q)
          go (yes p) (no q) =
              let e : s ≡ length rows = end s k q in rw (row_in r p, row_last s e, class_in_lem r p, class_last s e) (with_row r p)
          go (no p) (yes q) =
              let e : r ≡ length rows = end r h p in
              let w = with_row s q in
              rw (row_last r e, row_in s q, class_last r e, class_in_lem s q) (
                λ f. laws.turned (get_or rows s none) row (ours_at s q) own (w.0 (sym f)),
                λ t. sym (w.1 (laws.turned row (get_or rows s none) own (ours_at s q) t)),
              )
          go (no p) (no q) =
              let e : r ≡ length rows = end r h p in
              let f : s ≡ length rows = end s k q in
              rw (row_last r e, row_last s f, class_last r e, class_last s f) (λ g. laws.itself row own, λ t. refl)

    class_low : 1 ≤ class
    class_low = ⊎_elim (λ m. omega (arith, m.class_is, so_far.low m.place m.within)) (λ f. omega (arith, f.class_is)) (search_class row)

    low⁺ : (r : ℕ) → r < length rows⁺ → 1 ≤ get_or classes⁺ r 0
    low⁺ r h = go (dec_lt r (length rows))
      where
        go : Dec (r < length rows) → 1 ≤ get_or classes⁺ r 0
        go (yes p) = omega (arith, class_in_lem r p, so_far.low r p)
        go (no p) = omega (arith, class_last r (end r h p), class_low)

    -- it is at most one more than the largest so far
    next : class ≤ suc (largest classes)
    next = omega (arith, among_most test row (suc (largest classes)) rows classes)

    one_more_lem : Numbered rows⁺ classes⁺
    one_more_lem = record {
      long = omega (arith, length-append rows (row ∷ []), length-append classes (class ∷ []), so_far.long);
      same = λ r s none. same⁺ none r s;
      low = low⁺;
      rising = rising_more classes class next so_far.rising;
    }

  numbered_none : Numbered [] []
  numbered_none = record {
    long = refl;
    same = λ r s none h. absurd (not-suc-le-zero h);
    low = λ r h. absurd (not-suc-le-zero h);
    rising = rising_none;
  }

  numbered_after : (before : List A) (classes : List ℕ) (rows : List A) → Numbered before classes → Every P (before ++ rows)
      → Numbered (before ++ rows) (classes_after_by test before classes rows)
  unfolding classes_after_by
  numbered_after before classes [] so_far ours = rw append-nil so_far
  numbered_after before classes (row ∷ rows) so_far ours =
      let joined : (before ++ (row ∷ [])) ++ rows ≡ before ++ (row ∷ rows) = append_assoc before (row ∷ []) rows in
      let first = every_first P before (row ∷ rows) ours in
      let own = every_second P before (row ∷ rows) ours row (Memᴰ.head refl) in
      rw joined at (numbered_after (before ++ (row ∷ [])) (classes ++ (class_of test row before classes ∷ [])) rows
      (one_more_lem before classes row so_far first own) (rw joined ours))

  numbered_all : (rows : List A) → Every P rows → Numbered rows (classes_by test rows)
  unfolding classes_by
  numbered_all rows ours = numbered_after [] [] rows numbered_none ours

pub numbering_tells : NumberingTells
numbering_tells A P test laws rows ours =
    let all = numbered_all P test laws rows ours in
    let classes : List ℕ = classes_by test rows in
    record {
      one_each = all.long;
      same = all.same;
      low = all.low;
      high = λ r h. at-most-largest classes r;
      each = λ n p q. let there = all.rising.each n p q in (there.0, omega (arith, there.1, all.long), there.2);
      at_its_first_row = λ r n h p q. all.rising.rises r n (omega (arith, all.long)) p q;
    }

-- ---- 01's

pub class-numbers : (c : Circuit) → ClassNumbers c
class-numbers c = numbering_tells Row (RowOf c) same_class (same_class_is_equivalence (RowOf c)) (rows_of c) (λ row m. m)
