-- Classes carried from one list of rows to another, by any equivalence. Where each row of the first has a row of the second in its class, the first has no
-- more classes: its class numbers go one to one into those of the second. So of two circuits, and with a row's marks its found classes go along.
-- Assumes nothing.
use Prim.Native.Nat.{ℕ, suc, ◌-◌, ◌<◌, ◌≤◌}
use mathlib.Core.Path.{◌≡◌, refl, sym, ap, ◌∙◌}
use mathlib.Core.Bool.{Bool}
use mathlib.Core.List.{List, [], Memᴰ}
use native.Mathlib.Omega.{arith}
use lib.Dec.{T}
use lib.ListN.{length, get_or}
use Rattle.words.specs.Bits.{of_bool, sum_to}
use Rattle.words.proofs.Laws.{of_bool_le_one, set-bit, bit-set}
use Rattle.words.proofs.Sums.{sum_into, sum_ones}
use Rattle.circuit.specs.Circuit.{Circuit}
use Rattle.circuit.specs.Laws.{CircuitGood}
use Rattle.grading.specs.Rows.{Row, no_row, rows_of, mark_of}
use Rattle.grading.specs.Classes.{same_class, largest, classes_by, classes_of, class_found, found_by, class_count, found_count}
use Rattle.grading.specs.Statements.{Equivalence, NumbersTell, RowOf}
use Rattle.grading.proofs.Everywhere.{Every, every_at, place_of_lem}
use Rattle.grading.proofs.SameClass.{same_class_is_equivalence, classes_have_equal_marks}
use Rattle.grading.proofs.ClassNumbering.{numbering_tells}
use Rattle.demands.proofs.FoundClasses.{found_is_shown}

-- ---- two lists of rows

module _ {A : Type 0} (P : A → Type 0) (test : A → A → Bool) (laws : Equivalence P test) (none : A) (xs ys : List A) (xs-in : Every P xs)
    (ys-in : Every P ys) (partner : (row : A) → Memᴰ row xs → (other : A) × Memᴰ other ys × T (test row other)) where
  abbrev class_in : List A → ℕ → ℕ
  class_in rows r = get_or (classes_by test rows) r 0

  abbrev count_in : List A → ℕ
  count_in rows = largest (classes_by test rows)

  x_numbers : NumbersTell test xs (classes_by test xs)
  x_numbers = numbering_tells A P test laws xs xs-in

  y_numbers : NumbersTell test ys (classes_by test ys)
  y_numbers = numbering_tells A P test laws ys ys-in

  x_in : (r : ℕ) → r < length xs → P (get_or xs r none)
  x_in r h = every_at P xs xs-in r none h

  y_in : (r : ℕ) → r < length ys → P (get_or ys r none)
  y_in r h = every_at P ys ys-in r none h

  -- where row r of xs goes: a row of ys in its class, and the place of that class
  pub record Landing (r : ℕ) : Type 0 where
    pub row : ℕ
    pub is_row : row < length ys
    pub like : T (test (get_or xs r none) (get_or ys row none))
    pub class : ℕ
    pub is_class : class < count_in ys
    pub of_class : class_in ys row ≡ suc class

  land : (r : ℕ) → r < length xs → Landing r
  land r h =
      let other = partner (get_or xs r none) (every_at (λ (row : A). Memᴰ row xs) xs (λ row m. m) r none h) in
      let place = place_of_lem none other.1 in
      let number : ℕ = class_in ys place.0 in
      let low : 1 ≤ number = y_numbers.low place.0 place.1 in
      record {
        row = place.0;
        is_row = place.1;
        like = rw place.2 other.2;
        class = number - 1;
        is_class = omega (arith, y_numbers.high place.0 place.1);
        of_class = omega arith;
      }

  -- class i of xs goes to class j of ys, places counted from 0
  record To (i j : ℕ) : Type 0 where
    row : ℕ
    is_row : row < length xs
    of_class : class_in xs row ≡ suc i
    landing : Landing row
    there : landing.class ≡ j

  one_each : (i k j : ℕ) → To i j → To k j → i ≡ k
  one_each i k j p q =
      let a : Landing p.row = p.landing in
      let b : Landing q.row = q.landing in
      let x : A = get_or xs p.row none in
      let x' : A = get_or xs q.row none in
      let y : A = get_or ys a.row none in
      let y' : A = get_or ys b.row none in
      let xp : P x = x_in p.row p.is_row in
      let xp' : P x' = x_in q.row q.is_row in
      let yp : P y = y_in a.row a.is_row in
      let yp' : P y' = y_in b.row b.is_row in
      let one : T (test y y') =
      (y_numbers.same a.row b.row none a.is_row b.is_row).0 (omega (arith, a.of_class, b.of_class, p.there, q.there)) in
      let back : T (test y' x') = laws.turned x' y' xp' yp' b.like in
      let same : class_in xs p.row ≡ class_in xs q.row =
      (x_numbers.same p.row q.row none p.is_row q.is_row).1
      (laws.through x y x' xp yp xp' a.like (laws.through y y' x' yp yp' xp' one back)) in
      omega (arith, p.of_class, q.of_class)

  -- a sum over the classes of xs that carries its ones into a sum over those of ys is no greater
  pub sum_carried : (f g : ℕ → ℕ) → ((i : ℕ) → f i ≤ 1)
      → ((i : ℕ) → i < count_in xs → f i ≡ 1 → (r : ℕ) × (r < length xs) × (class_in xs r ≡ suc i) × ((landed : Landing r) → g landed.class ≡ 1))
      → sum_to (count_in xs) f ≤ sum_to (count_in ys) g
  sum_carried f g bits carried = sum_into (count_in xs) (count_in ys) f g To bits goes one_each
    where
      goes : (i : ℕ) → i < count_in xs → f i ≡ 1 → (j : ℕ) × (j < count_in ys) × (g j ≡ 1) × To i j
      goes i h e =
          let there = carried i h e in
          let landed : Landing there.0 = land there.0 there.1 in (
            landed.class,
            landed.is_class,
            there.3 landed,
            record { row = there.0; is_row = there.1; of_class = there.2; landing = landed; there = refl },
          )

  pub count_carried : count_in xs ≤ count_in ys
  count_carried =
      omega (
        arith,
        sum_ones (count_in xs),
        sum_ones (count_in ys),
        sum_carried (λ (i : ℕ). 1) (λ (j : ℕ). 1) (λ i. omega arith)
            (λ i h e.
            let first = x_numbers.each (suc i) (omega arith) h in
            (first.0, first.1, first.2, λ landed. refl)),
      )

-- ---- two circuits

same-marks : (c : Circuit) → CircuitGood c → (one other : Row) → RowOf c one → RowOf c other → T (same_class one other)
    → (v : ℕ) → mark_of c one v ≡ mark_of c other v
unfolding mark_of
same-marks c good one other p q t v = ap of_bool (classes_have_equal_marks c good one other p q t (get_or c.vectors v []))

-- each row of c has a row of d in its class, and a mark of c is one of d in every row of its class
pub record Carries (c d : Circuit) : Type 0 where
  pub partner : (row : Row) → RowOf c row → (other : Row) × RowOf d other × T (same_class row other)
  pub no_fewer : length c.vectors ≤ length d.vectors
  pub marks_go : (row other : Row) → RowOf c row → RowOf d other → T (same_class row other)
      → (v : ℕ) → v < length c.vectors → mark_of c row v ≡ 1 → mark_of d other v ≡ 1

-- where d has the rows of c and its marks in them
pub carries-within : (c d : Circuit) → CircuitGood d → ((row : Row) → RowOf c row → RowOf d row) → length c.vectors ≤ length d.vectors
    → ((row : Row) (v : ℕ) → RowOf c row → v < length c.vectors → mark_of c row v ≡ 1 → mark_of d row v ≡ 1) → Carries c d
carries-within c d good rows no_fewer marks = record {
  partner = λ row m. (row, rows row m, (same_class_is_equivalence (RowOf d)).itself row (rows row m));
  no_fewer = no_fewer;
  marks_go = λ row other m k t v h e. sym (same-marks d good row other (rows row m) k t v) ∙ marks row v m h e;
}

abbrev AnyRow : Row → Type 0
AnyRow row = Unit {0}

module _ (c d : Circuit) (carries : Carries c d) where
  pub classes_carried : class_count c ≤ class_count d
  classes_carried =
      count_carried AnyRow same_class (same_class_is_equivalence AnyRow) no_row (rows_of c) (rows_of d)
      (λ row m. tt) (λ row m. tt) carries.partner

  abbrev row_of : Circuit → ℕ → Row
  row_of e r = get_or (rows_of e) r no_row

  row_of_lem : (e : Circuit) (r : ℕ) → r < length (rows_of e) → RowOf e (row_of e r)
  row_of_lem e r h = every_at (RowOf e) (rows_of e) (λ row m. m) r no_row h

  abbrev Lands : ℕ → Type 0
  Lands r =
      Landing AnyRow same_class (same_class_is_equivalence AnyRow) no_row (rows_of c) (rows_of d)
      (λ row m. tt) (λ row m. tt) carries.partner r

  -- a mark goes along
  mark_carried : (r v : ℕ) (landed : Lands r) → r < length (rows_of c) → v < length c.vectors → mark_of c (row_of c r) v ≡ 1
      → mark_of d (row_of d landed.row) v ≡ 1
  mark_carried r v landed h k e =
      carries.marks_go (row_of c r) (row_of d landed.row) (row_of_lem c r h) (row_of_lem d landed.row landed.is_row) landed.like v k e

  abbrev found_at : Circuit → ℕ → ℕ
  found_at e n = of_bool (class_found e (suc n) (rows_of e) (classes_of (rows_of e)))

  pub found_carried : found_count c ≤ found_count d
  unfolding found_count found_by
  found_carried =
      sum_carried AnyRow same_class (same_class_is_equivalence AnyRow) no_row (rows_of c) (rows_of d)
      (λ row m. tt) (λ row m. tt) carries.partner (found_at c) (found_at d)
      (λ i. of_bool_le_one (class_found c (suc i) (rows_of c) (classes_of (rows_of c)))) found_goes
    where
      found_goes : (i : ℕ) → i < class_count c → found_at c i ≡ 1
          → (r : ℕ) × (r < length (rows_of c)) × (get_or (classes_of (rows_of c)) r 0 ≡ suc i) × ((landed : Lands r) → found_at d landed.class ≡ 1)
      found_goes i h e =
          let shown = (found_is_shown c (suc i)).0 (set-bit (class_found c (suc i) (rows_of c) (classes_of (rows_of c))) e) in (
            shown.place,
            shown.within,
            shown.of_class,
            λ landed.
                bit-set (class_found d (suc landed.class) (rows_of d) (classes_of (rows_of d)))
                ((found_is_shown d (suc landed.class)).1 (record {
                  place = landed.row;
                  within = landed.is_row;
                  of_class = landed.of_class;
                  vector = shown.vector;
                  is_vector = omega (arith, shown.is_vector, carries.no_fewer);
                  mark = mark_carried shown.place shown.vector landed shown.within shown.is_vector shown.mark;
                })),
          )
