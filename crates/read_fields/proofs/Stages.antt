-- A stage that gathers the fields of one kind: what was kept of them tells its elements, and why it ended tells its verdict.
use Prim.Native.Nat.{ℕ, ◌+◌, ◌-◌, ◌<◌, ◌≤◌}
use mathlib.Core.Path.{◌≡◌, refl, sym, ap, ◌∙◌}
use mathlib.Core.Bool.{Bool}
use mathlib.Core.List.{List, [], ◌∷◌, ◌++◌, map, map-append}
use native.Mathlib.Decide.{dec_lt}
use native.Mathlib.Omega.{arith}
use lib.Dec.{T}
use lib.ListN.{length, get_or, drop, replicate, length-append, length-drop, length-map, length-replicate}
use lib.ListN.{get_or-append, get_or-eq_default, get_or-replicate}
use lib.Seq.{get_or-append_right, get_or-drop}
use Rattle.words.proofs.Tables.{is-table}
use Rattle.std.specs.Prelude.{Option, Some, None, Result, Ok, Err}
use Rattle.switch.specs.Modules.{all_of}
use Rattle.circuit.specs.Fields.{Cut, cut_from}
use Rattle.circuit.specs.Order.{Tag, is_kind}
use Rattle.circuit.specs.Table.{Test, passes, first_of}
use Rattle.circuit.specs.Records.{padded}
use Rattle.circuit.specs.Refusals.{verdict_of}
use Rattle.circuit.specs.Stages.{Stage, stage_of, if_passes, section}
use Rattle.circuit.specs.declared.refusal.Refusal.{Refusal}
use Rattle.circuit.proofs.TypeLaws.{all_snoc}
use Rattle.read_fields.specs.Gathers.{JudgedAs, Kept, none_kept, one_more, EndedBy, GatheredAs}
use Rattle.read_fields.specs.declared.Field.{Field as FieldRecord}
use Rattle.read_fields.specs.declared.gather.Gathered.{Gathered}
use Rattle.read_fields.proofs.Cuts.{section_step, section_stop}

-- items that are put into unused places, one behind the other
padded-is : {R : Type 0} (none : R) (most : ℕ) (items : List R) → length items ≤ most
    → items ++ drop (length items) (replicate most none) ≡ padded most none items
unfolding padded
padded-is {R} none most items within =
    is-table none most (λ (i : ℕ). get_or items i none) whole (omega (arith, length-append items rest, long))
    (λ i h. go i h (dec_lt i (length items)))
  where
    rest : List R
    rest = drop (length items) (replicate most none)

    whole : List R
    whole = items ++ rest

    long : length rest + length items ≡ most
    long = omega (arith, length-drop (length items) (replicate most none), length-replicate most none)

    go : (i : ℕ) → i < most → Dec (i < length items) → get_or whole i none ≡ get_or items i none
    go i h (yes p) = get_or-append items rest none i p
    go i h (no p) =
        get_or-append_right items rest i none (omega arith)
        ∙ get_or-drop (length items) (replicate most none) (i - length items) none
        ∙ get_or-replicate most (length items + (i - length items)) none none (omega arith)
        ∙ sym (get_or-eq_default items none (omega arith))

-- fields of one kind, tested by how many stand before them; of their bodies elements are made, whose records `shown` stand in the array
module _ {A R : Type 0} (kind : Tag) (most : ℕ) (tests : ℕ → ℕ → List ℕ → List Test) (make : List ℕ → A) (shown : A → R) (none : R)
    (good : A → Bool) where
  abbrev tests_after : Tag → List A → ℕ → List ℕ → List Test
  tests_after tag l = tests (length l)

  abbrev put : Tag → List A → List ℕ → List A
  put tag l body = l ++ (make body ∷ [])

  abbrev gathers : List A → Cut → Stage (List A)
  gathers = section (is_kind kind) tests_after put

  -- what a function that judges a field after so many answers
  abbrev pub Judged : FieldRecord → ℕ → Result R Refusal → Type 0
  Judged f n = JudgedAs (first_of (tests n f.at f.body.now)) (shown (make f.body.now))

  -- what such a function owes
  pub record Judges (Keeps : FieldRecord → ℕ → R → Type 0) (Refuses : FieldRecord → ℕ → Refusal → Type 0) : Type 0 where
    pub keeps : (f : FieldRecord) (n : ℕ) (item : R) → Keeps f n item → Judged f n (Ok item)
    pub refuses : (f : FieldRecord) (n : ℕ) (why : Refusal) → Refuses f n why → Judged f n (Err why)
    pub room : (n at : ℕ) (body : List ℕ) → first_of (tests n at body) ≡ passes → n < most
    pub fits : (n at : ℕ) (body : List ℕ) → first_of (tests n at body) ≡ passes → T (good (make body))

  -- what is told of the stage
  pub record StageTold (file : List ℕ) (from : ℕ) (new : List R) (r : Gathered) : Type 0 where
    pub elements : List A
    pub stage : gathers [] (cut_from file from) ≡ stage_of (verdict_of r.refusal) elements (cut_from file r.at)
    pub place : r.at ≤ length file
    pub within : length elements ≤ most
    pub count : r.count ≡ length elements
    pub all : new ≡ padded most none (map shown elements)
    pub ranges : T (all_of good elements)

  module _ (file : List ℕ) (from : ℕ) (Keeps : FieldRecord → ℕ → R → Type 0) (Refuses : FieldRecord → ℕ → Refusal → Type 0)
      (judges : Judges Keeps Refuses) where
    record SoFar (items : List R) (at : ℕ) : Type 0 where
      elements : List A
      stage : gathers [] (cut_from file from) ≡ gathers elements (cut_from file at)
      place : at ≤ length file
      within : length elements ≤ most
      are : items ≡ map shown elements
      ranges : T (all_of good elements)

    so_far : {items : List R} {at : ℕ} → from ≤ length file → Kept file (is_kind kind) from Keeps items at → SoFar items at
    unfolding all_of if_passes
    so_far h none_kept = record { elements = []; stage = refl; place = h; within = omega arith; are = refl; ranges = tt }
    so_far h (one_more items at f item kept here own keep) =
        let so = so_far h kept in
        let judged = judges.keeps f (length items) item keep in
        let many : length items ≡ length so.elements = ap length so.are ∙ length-map so.elements shown in
        let tested : first_of (tests (length so.elements) f.at f.body.now) ≡ passes = rw many at judged.0 in
        record {
          elements = so.elements ++ (make f.body.now ∷ []);
          stage = so.stage ∙ section_step (is_kind kind) tests_after put so.elements file at f here own ∙ rw tested;
          place = here.inside;
          within =
              let room = judges.room (length so.elements) f.at f.body.now tested in
              omega (arith, length-append so.elements (make f.body.now ∷ []));
          are =
              ap (λ (l : List R). l ++ (item ∷ [])) so.are
              ∙ ap (λ (x : R). map shown so.elements ++ (x ∷ [])) judged.1
              ∙ sym (map-append shown so.elements (make f.body.now ∷ []));
          ranges = all_snoc good so.elements (make f.body.now) so.ranges (judges.fits (length so.elements) f.at f.body.now tested);
        }

    -- how it ends
    ended : (at count : ℕ) (why : Option Refusal) (elements : List A) → count ≡ length elements
        → EndedBy file (is_kind kind) Refuses at count why
        → gathers elements (cut_from file at) ≡ stage_of (verdict_of why) elements (cut_from file at)
    unfolding EndedBy if_passes
    ended at count None elements counted end = section_stop (is_kind kind) tests_after put elements file at end
    ended at count (Some why) elements counted (f, here, own, refuse) =
        let judged = judges.refuses f count why refuse in
        section_step (is_kind kind) tests_after put elements file at f here own ∙ rw (rw counted at judged)

    pub stage_told : {new : List R} {r : Gathered} → from ≤ length file
        → GatheredAs file (is_kind kind) from Keeps Refuses (replicate most none) new r → StageTold file from new r
    stage_told {new} {r} h all =
        let so = so_far h all.kept in
        let counted : r.count ≡ length so.elements = all.count ∙ ap length so.are ∙ length-map so.elements shown in
        record {
          elements = so.elements;
          stage = so.stage ∙ ended r.at r.count r.refusal so.elements counted all.ended;
          place = so.place;
          within = so.within;
          count = counted;
          all =
              let few : length all.items ≤ most = omega (arith, so.within, counted, all.count) in
              all.all ∙ padded-is none most all.items few ∙ ap (padded most none) so.are;
          ranges = so.ranges;
        }
