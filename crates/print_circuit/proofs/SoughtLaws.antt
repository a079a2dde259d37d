-- A line that is sought by its number where lines stand in parts, one behind the other. Assumes nothing.
use mathlib.Core.Path.{◌≡◌, refl, sym, ap, ◌∙◌}
use mathlib.Core.List.{List, [], ◌∷◌, ◌++◌, map, append-nil, append_assoc}
use Prim.Native.Nat.{ℕ, zero, suc, ◌+◌, ◌-◌, ◌*◌, ◌≤◌, ◌<◌}
use native.Mathlib.Nat.{zero-add, suc-add, add-zero, mul-suc, mul-le-mul_left}
use native.Mathlib.Omega.{arith}
use lib.Seq.{take_all}
use lib.ListN.{length, get_or, get_or-eq_default, take, drop, length-append, length-map, take-append-drop}
use Rattle.std.specs.Prelude.{Option, Some, None, slice_get}
use Rattle.std.specs.ControlFlow.{MatchControlFlow}
use Rattle.std.specs.declared.ops.ControlFlow.{ControlFlow}
use Rattle.std.specs.declared.ops.ControlFlow.TheVariants.{Continue, Break}
use Rattle.std.specs.Option.{option_map}
use Rattle.std.proofs.lemmas.Option.{slice_get_within, slice_get-map, get_or_from_slice_get}
use Rattle.circuit.specs.Reading.{Reading, accepted, refusal, unless}
use Rattle.circuit.specs.Refusals.{refusal_number, refusal_place}
use Rattle.circuit.specs.declared.refusal.Refusal.{Refusal}
use Rattle.circuit.specs.declared.Reading.{Reading as ReadingRecord}
use Rattle.print_lines.specs.Given.{LineGiven}
use Rattle.print_lines.specs.Lines.{refusal_line}
use Rattle.print_lines.proofs.LineSizes.{refusal_sized}
use Rattle.print_circuit.specs.Lines.{inputs_line}
use Rattle.print_circuit.specs.Listing.{numbered_lines, grouped_lines, inputs_lines, circuit_lines, refusal_lines, listing_of}
use Rattle.print_circuit.specs.Told.{circuit_told, reading_told, listing_told}
use Rattle.print_circuit.specs.Sought.{LineFound, LinePast, FindsLine, LineAt, most_lines}

-- ---- a part, and others behind it

get-front : {A : Type 0} (a b : List A) (n : ℕ) {x : A} → slice_get a n ≡ Some x → slice_get (a ++ b) n ≡ Some x
get-front [] b n e = absurd (cc)
get-front (y ∷ a) b zero e = e
get-front (y ∷ a) b (suc n) e = get-front a b n e

get_behind : {A : Type 0} (a b : List A) (k : ℕ) {x : A} → slice_get b k ≡ Some x → slice_get (a ++ b) (length a + k) ≡ Some x
get_behind [] b k e = rw zero-add e
get_behind (y ∷ a) b k e = rw suc-add (get_behind a b k e)

module _ {a : List (List ℕ)} (b : List (List ℕ)) {m n : ℕ} where
  pub found_here : (most : ℕ) {line : List ℕ} → LineFound a m n line → m ≤ most → LineFound (a ++ b) most n line
  found_here most p few = record { found = get-front a b n p.found; near = omega (arith, p.near) }

  module _ {left : ℕ} (p : LinePast a m n left) {more : ℕ} where
    pub found_behind : {line : List ℕ} → LineFound b more left line → LineFound (a ++ b) (m + more) n line
    found_behind q = record { found = rw p.past (get_behind a b left q.found); near = omega (arith, p.past, p.near, q.near) }

    pub past_behind : {last : ℕ} → LinePast b more left last → LinePast (a ++ b) (m + more) n last
    past_behind q = record { past = omega (arith, p.past, q.past, length-append a b); near = omega (arith, p.near, q.near, length-append a b) }

pub finds_behind : {a : List (List ℕ)} (b : List (List ℕ)) {m n left : ℕ} → LinePast a m n left → (more : ℕ) (found : ControlFlow (List ℕ) ℕ)
    → FindsLine b more left found → FindsLine (a ++ b) (m + more) n found
finds_behind b p more (Continue last) q = past_behind b p q
finds_behind b p more (Break line) q = found_behind b p q

-- ---- a line before others

pub first_found : (line : List ℕ) (lines : List (List ℕ)) {most n : ℕ} → n ≡ 0 → 0 < most → LineFound (line ∷ lines) most n line
first_found line lines e some = record { found = rw e refl; near = omega arith }

pub later_finds : (line : List ℕ) (lines : List (List ℕ)) (most n : ℕ) → (n ≡ 0 → ⊥) → (found : ControlFlow (List ℕ) ℕ) → FindsLine lines most (n - 1) found
    → FindsLine (line ∷ lines) (1 + most) n found
later_finds line lines most n other found p =
    let own : LinePast (line ∷ []) 1 n (n - 1) = record { past = omega arith; near = omega arith } in
    finds_behind lines own most found p

-- ---- the inputs

inputs-line : (inputs : ℕ) → (inputs ≡ 0 → ⊥) → inputs_lines inputs ≡ inputs_line inputs ∷ []
unfolding inputs_lines
inputs-line zero some = absurd (some refl)
inputs-line (suc n) some = refl

module _ (inputs n : ℕ) where
  pub inputs_none : inputs ≡ 0 → LinePast (inputs_lines inputs) 1 n n
  unfolding inputs_lines
  inputs_none e = rw e (record { past = omega arith; near = omega arith })

  pub inputs_here : (inputs ≡ 0 → ⊥) → n ≡ 0 → LineFound (inputs_lines inputs) 1 n (inputs_line inputs)
  inputs_here some first = rw (inputs-line inputs some) (first_found (inputs_line inputs) [] first (omega arith))

  pub inputs_past : (inputs ≡ 0 → ⊥) → (n ≡ 0 → ⊥) → LinePast (inputs_lines inputs) 1 n (n - 1)
  inputs_past some later = rw (inputs-line inputs some) (record { past = omega arith; near = omega arith })

-- ---- things with a line each

-- a search of things that breaks off with the line of one of them
pub found_item : {T : Type 0} (items : List T) (n : ℕ) {Says : T → List ℕ → Type 0} (text : T → List ℕ) (lines : List (List ℕ)) (most : ℕ)
    → length lines ≡ length items → length items ≤ most
    → ((item : T) → slice_get items n ≡ Some item → slice_get lines n ≡ Some (text item))
    → ((item : T) (line : List ℕ) → Says item line → line ≡ text item)
    → (found : ControlFlow (List ℕ) ℕ)
    → MatchControlFlow found (λ (left : ℕ). n ≡ length items + left) (λ (line : List ℕ). (item : T) × (slice_get items n ≡ Some item) × Says item line)
    → FindsLine lines most n found
found_item items n text lines most size few at says (Continue left) p = record { past = omega (arith, p); near = omega arith }
found_item items n text lines most size few at says (Break line) p = record {
  found = at p.0 p.1 ∙ ap Some (sym (says p.0 line p.2));
  near = omega (arith, slice_get_within items n p.0 p.1);
}

module _ {A B : Type 0} (told : A → B) (l : List A) where
  pub mapped_size : (line : B → List ℕ) → length (map line (map told l)) ≡ length l
  mapped_size line = length-map (map told l) line ∙ length-map l told

  pub mapped_at : (line : B → List ℕ) (n : ℕ) {a : A} → slice_get l n ≡ Some a → slice_get (map line (map told l)) n ≡ Some (line (told a))
  mapped_at line n e =
      slice_get-map line (map told l) n
      ∙ ap (option_map line) (slice_get-map told l n ∙ ap (option_map told) e)

module _ {A : Type 0} (line : ℕ → A → List ℕ) where
  length_numbered : (first : ℕ) (l : List A) → length (numbered_lines line first l) ≡ length l
  unfolding numbered_lines
  length_numbered first [] = refl
  length_numbered first (a ∷ l) = ap suc (length_numbered (suc first) l)

  numbered-get : (first : ℕ) (l : List A) (n : ℕ) (a : A) → slice_get l n ≡ Some a → slice_get (numbered_lines line first l) n ≡ Some (line (first + n) a)
  unfolding numbered_lines
  numbered-get first [] n a e = absurd (cc)
  numbered-get first (b ∷ l) zero a e = let here : first + 0 ≡ first = omega arith in rw here (cc)
  numbered-get first (b ∷ l) (suc n) a e = let next : first + suc n ≡ suc first + n = omega arith in rw next (numbered-get (suc first) l n a e)

module _ {A B : Type 0} (told : A → B) (l : List A) (line : ℕ → B → List ℕ) where
  pub numbered_size : length (numbered_lines line 1 (map told l)) ≡ length l
  numbered_size = length_numbered line 1 (map told l) ∙ length-map l told

  pub numbered_at : (n : ℕ) {a : A} → slice_get l n ≡ Some a → slice_get (numbered_lines line 1 (map told l)) n ≡ Some (line (n + 1) (told a))
  numbered_at n {a} e =
      let number : 1 + n ≡ n + 1 = omega arith in
      rw (← number) (numbered-get line 1 (map told l) n (told a) (slice_get-map told l n ∙ ap (option_map told) e))

-- ---- things that have several lines each, one after another

module _ {A : Type 0} (lines : ℕ → A → List (List ℕ)) where
  grouped_more : (first : ℕ) (things : List A) (i : ℕ) (a : A) → slice_get things i ≡ Some a
      → grouped_lines lines first (take (suc i) things) ≡ grouped_lines lines first (take i things) ++ lines (first + i) a
  unfolding grouped_lines
  grouped_more first [] i a e = absurd (cc)
  grouped_more first (b ∷ things) zero a e =
      let here : b ≡ a = cc in
      append-nil (lines first b) ∙ ap (λ (x : A). lines first x) here ∙ ap (λ (n : ℕ). lines n a) (sym (add-zero first))
  grouped_more first (b ∷ things) (suc i) a e =
      let number : suc first + i ≡ first + suc i = omega arith in
      ap (λ (l : List (List ℕ)). lines first b ++ l) (grouped_more (suc first) things i a e)
      ∙ sym (append_assoc (lines first b) (grouped_lines lines (suc first) (take i things)) (lines (suc first + i) a))
      ∙ ap (λ (n : ℕ). lines first b ++ grouped_lines lines (suc first) (take i things) ++ lines n a) number

  grouped_both : (first : ℕ) (a b : List A) → grouped_lines lines first (a ++ b) ≡ grouped_lines lines first a ++ grouped_lines lines (first + length a) b
  unfolding grouped_lines
  grouped_both first [] b = ap (λ (n : ℕ). grouped_lines lines n b) (sym (add-zero first))
  grouped_both first (x ∷ a) b =
      let number : suc first + length a ≡ first + suc (length a) = omega arith in
      ap (λ (l : List (List ℕ)). lines first x ++ l) (grouped_both (suc first) a b)
      ∙ sym (append_assoc (lines first x) (grouped_lines lines (suc first) a) (grouped_lines lines (suc first + length a) b))
      ∙ ap (λ (n : ℕ). lines first x ++ grouped_lines lines (suc first) a ++ grouped_lines lines n b) number

  -- the lines of the first i things, each of which has at most `few`, end `left` before line n
  pub record PastThings (few : ℕ) (things : List A) (i n left : ℕ) : Type 0 where
    pub past : LinePast (grouped_lines lines 1 (take i things)) (few * i) n left

  pub past_none : {few : ℕ} {things : List A} {n : ℕ} → PastThings few things 0 n n
  unfolding grouped_lines
  past_none = record { past = record { past = omega arith; near = omega arith } }

  module _ {few : ℕ} {things : List A} {i n left : ℕ} (so_far : PastThings few things i n left) where
    module _ {a : A} (here : slice_get things i ≡ Some a) where
      pub past_more : {next : ℕ} → LinePast (lines (i + 1) a) few left next → PastThings few things (suc i) n next
      past_more {next} p =
          let number : 1 + i ≡ i + 1 = omega arith in
          let both : LinePast (grouped_lines lines 1 (take i things) ++ lines (1 + i) a) (few * i + few) n next
          = past_behind (lines (1 + i) a) so_far.past (rw number p) in
          record { past = rw (grouped_more 1 things i a here, mul-suc few i) both }

      pub found_thing : {line : List ℕ} (places : ℕ) → length things ≤ places → LineFound (lines (i + 1) a) few left line
          → LineFound (grouped_lines lines 1 things) (few * places) n line
      found_thing {line} places within p =
          let number : 1 + i ≡ i + 1 = omega arith in
          let both : LineFound (grouped_lines lines 1 (take i things) ++ lines (1 + i) a) (few * i + few) n line
          = found_behind (lines (1 + i) a) so_far.past (rw number p) in
          let found : LineFound (grouped_lines lines 1 (take (suc i) things)) (few * suc i) n line
          = rw (grouped_more 1 things i a here, mul-suc few i) both in
          let rest : List (List ℕ) = grouped_lines lines (1 + length (take (suc i) things)) (drop (suc i) things) in
          let whole : grouped_lines lines 1 things ≡ grouped_lines lines 1 (take (suc i) things) ++ rest
          = ap (λ (l : List A). grouped_lines lines 1 l) (sym (take-append-drop (suc i) things)) ∙ grouped_both 1 (take (suc i) things) (drop (suc i) things) in
          let inside : suc i ≤ places = omega (arith, slice_get_within things i a here) in
          rw whole (found_here rest (few * places) found (mul-le-mul_left few inside))

    pub past_all : (places : ℕ) → i ≡ length things → length things ≤ places → LinePast (grouped_lines lines 1 things) (few * places) n left
    past_all places all within =
        let whole : take i things ≡ things = take_all i things (omega arith) in
        let inside : i ≤ places = omega arith in
        let bound : few * i ≤ few * places = mul-le-mul_left few inside in
        record {
          past = omega (arith, so_far.past.past, ap (λ (l : List A). length (grouped_lines lines 1 l)) whole);
          near = omega (arith, so_far.past.near, ap (λ (l : List A). length (grouped_lines lines 1 l)) whole);
        }

-- ---- a circuit's lines, and behind them the line of a refusal, given into a buffer

module _ (circuit : List (List ℕ)) {most n : ℕ} {buffer : List ℕ} {count : Option ℕ} {after : List ℕ} where
  given_found : (last : List (List ℕ)) {line : List ℕ} → LineFound circuit most n line → length line ≤ 512 → LineGiven line buffer count after
      → LineAt (circuit ++ last) most n buffer count after
  given_found last {line} p short given =
      let found : slice_get (circuit ++ last) n ≡ Some line = get-front circuit last n p.found in
      let line-is : get_or (circuit ++ last) n [] ≡ line = get_or_from_slice_get (circuit ++ last) n line [] found in
      record {
        given = λ (h : _). rw line-is given;
        short = rw line-is short;
        near = λ (h : _). omega (arith, p.near);
        past = λ (over : _). absurd (omega (arith, over, slice_get_within (circuit ++ last) n line found));
      }

  given_refusal : {line : List ℕ} → LinePast circuit most n 0 → length line ≤ 512 → LineGiven line buffer count after
      → LineAt (circuit ++ (line ∷ [])) most n buffer count after
  given_refusal {line} p short given =
      let found : slice_get (circuit ++ (line ∷ [])) n ≡ Some line = rw p.past (get_behind circuit (line ∷ []) 0 refl) in
      let line-is : get_or (circuit ++ (line ∷ [])) n [] ≡ line = get_or_from_slice_get (circuit ++ (line ∷ [])) n line [] found in
      record {
        given = λ (h : _). rw line-is given;
        short = rw line-is short;
        near = λ (h : _). omega (arith, p.past, p.near);
        past = λ (over : _). absurd (omega (arith, over, slice_get_within (circuit ++ (line ∷ [])) n line found));
      }

given_past : (circuit last : List (List ℕ)) {most n left : ℕ} {buffer : List ℕ} → LinePast circuit most n left → length last ≤ left
    → LineAt (circuit ++ last) most n buffer None buffer
given_past circuit last {n = n} p few =
    let never : n < length (circuit ++ last) → ⊥ = λ (h : _). omega (arith, h, p.past, few, length-append circuit last) in
    record {
      given = λ (h : _). absurd (never h);
      short = let none : get_or (circuit ++ last) n [] ≡ [] = get_or-eq_default (circuit ++ last) [] (omega (arith, p.past, few, length-append circuit last)) in rw none (omega arith);
      near = λ (h : _). absurd (never h);
      past = λ (over : _). (refl, refl);
    }

refusal-few : (reading : Reading) → length (refusal_lines reading) ≤ 1
unfolding refusal_lines
refusal-few (accepted c) = omega arith
refusal-few (refusal number place) = omega arith

-- the listing that a reading's record tells
module _ (r : ReadingRecord) {n : ℕ} {buffer : List ℕ} where
  pub told_found : {count : Option ℕ} {after line : List ℕ} → LineFound (circuit_lines (circuit_told r.circuit)) most_lines n line → length line ≤ 512
      → LineGiven line buffer count after → LineAt (listing_told r) most_lines n buffer count after
  unfolding listing_told listing_of
  told_found p short given = given_found (circuit_lines (circuit_told r.circuit)) (refusal_lines (reading_told r)) p short given

  pub told_refused : {why : Refusal} {count : Option ℕ} {after : List ℕ} → r.refusal ≡ Some why → LinePast (circuit_lines (circuit_told r.circuit)) most_lines n 0
      → LineGiven (refusal_line (refusal_number why) (refusal_place why)) buffer count after → LineAt (listing_told r) most_lines n buffer count after
  unfolding listing_told listing_of reading_told unless refusal_lines
  told_refused {why} e p given =
      rw e (given_refusal (circuit_lines (circuit_told r.circuit)) p (omega (arith, (refusal_sized (refusal_number why) (refusal_place why)).1)) given)

  pub told_accepted : {left : ℕ} → r.refusal ≡ None → LinePast (circuit_lines (circuit_told r.circuit)) most_lines n left
      → LineAt (listing_told r) most_lines n buffer None buffer
  unfolding listing_told listing_of reading_told unless refusal_lines
  told_accepted e p = rw e (given_past (circuit_lines (circuit_told r.circuit)) [] p (omega arith))

  pub told_past : {left : ℕ} → 0 < left → LinePast (circuit_lines (circuit_told r.circuit)) most_lines n left
      → LineAt (listing_told r) most_lines n buffer None buffer
  unfolding listing_told listing_of
  told_past some p = given_past (circuit_lines (circuit_told r.circuit)) (refusal_lines (reading_told r)) p (omega (arith, refusal-few (reading_told r)))
