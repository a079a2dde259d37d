-- Rows as codes, written piece by piece: a buffer into which the first pieces of a text are written, and one piece more. The texts are the codes
-- of one node's faults, of the nodes' in a line, and of a user list.
use native.Mathlib.Numerals.{add-one}
use Prim.Native.Nat.{◌-◌, ℕ, suc, ◌+◌, ◌≤◌, ◌<◌}
use mathlib.Core.Path.{◌≡◌, refl, sym, ap, ◌∙◌}
use mathlib.Core.Bool.{Bool, true, false, cond}
use mathlib.Core.List.{List, [], ◌∷◌, ◌++◌, map, map-append, append-nil}
use native.Mathlib.Nat.{sub-zero}
use native.Mathlib.Omega.{arith}
use lib.Dec.{eqb}
use lib.ListN.{length, get_or, set, take, drop, length-append, take-append-drop, length-map}
use lib.Seq.{take-suc, take_all}
use borrow.Author.Tests.{eq-eqb, ne_eqb}
use Rattle.words.specs.Written.{written}
use Rattle.words.specs.Tables.{table}
use Rattle.words.proofs.Tables.{table_cong, length-table, get_or-table, map-table}
use Rattle.words.proofs.WrittenLaws.{written_nothing, written_written, set_written, length_written}
use Rattle.switch.specs.Bridges.{nodes, input, Bridge}
use Rattle.circuit.specs.Circuit.{join_lists}
use Rattle.circuit.specs.declared.Bridge.{Bridge as BridgeRecord}
use Rattle.grading.specs.Codes.{kind_of, first_end, second_end, packed, code_of}
use Rattle.grading.proofs.Lists.{join_append, join_one}
use Rattle.grade_rows.specs.Model.{codes_from, listed_codes}

-- the text is written, and what comes next goes to `next`
pub record Wrote (buffer : List ℕ) (at : ℕ) (text rows : List ℕ) (next : ℕ) : Type 0 where
  pub next_is : next ≡ at + length text
  pub rows_are : rows ≡ written buffer at text
  pub long : length rows ≡ length buffer

module _ {buffer : List ℕ} {at : ℕ} where
  pub wrote_nothing : Wrote buffer at [] buffer at
  wrote_nothing = record { next_is = omega arith; rows_are = sym (written_nothing buffer at); long = refl }

  module _ {text rows : List ℕ} {next : ℕ} (w : Wrote buffer at text rows next) where
    pub wrote_more : (piece rows' : List ℕ) (next' : ℕ) → at + length (text ++ piece) ≤ length buffer
        → rows' ≡ written rows next piece → next' ≡ next + length piece → Wrote buffer at (text ++ piece) rows' next'
    wrote_more piece rows' next' fits r n =
        let all : rows' ≡ written buffer at (text ++ piece) = r ∙ rw (w.rows_are, w.next_is) (written_written buffer at text piece fits) in
        record {
          next_is = omega (arith, w.next_is, length-append text piece);
          rows_are = all;
          long = ap length all ∙ length_written buffer at (text ++ piece) fits;
        }

    pub wrote_one : (code : ℕ) → at + length (text ++ (code ∷ [])) ≤ length buffer → Wrote buffer at (text ++ (code ∷ [])) (set rows next code) (next + 1)
    wrote_one code fits =
        let more = length-append text (code ∷ []) in
        let place = w.next_is in
        let long = w.long in
        wrote_more (code ∷ []) (set rows next code) (next + 1) fits (set_written rows next code (omega arith)) (omega arith)

-- ---- the codes of one node's faults

pub length_from : (n kind first from to : ℕ) → length (codes_from n kind first from to) ≡ to - from
unfolding codes_from
length_from n kind first from to = length-table (to - from) _

-- kind 0 with first node a, and kind 1 with node m
abbrev pub pairs_of : ℕ → ℕ → List Bridge
pairs_of h a = table (h - a) (λ (j : ℕ). nodes a (a + 1 + j))

abbrev pub inputs_at : ℕ → ℕ → List Bridge
inputs_at k m = table k (λ (l : ℕ). input m l)

module _ (n : ℕ) where
  pub pair_codes : (h a : ℕ) → map (code_of n) (pairs_of h a) ≡ codes_from n 0 a (a + 1) (h + 1)
  unfolding code_of kind_of first_end second_end codes_from
  pair_codes h a =
      let size : h + 1 - (a + 1) ≡ h - a = omega arith in
      rw size (map-table (code_of n) (h - a) (λ (j : ℕ). nodes a (a + 1 + j)))

  pub input_codes : (k m : ℕ) → map (code_of n) (inputs_at k m) ≡ codes_from n 1 m 0 k
  unfolding code_of kind_of first_end second_end codes_from
  input_codes k m =
      rw (sub-zero k)
      (map-table (code_of n) k (input m)
      ∙ table_cong k (λ (j : ℕ). code_of n (input m j)) (λ (j : ℕ). packed n 1 m (0 + j)) (λ j h. omega arith))

-- ---- lists in a line

-- the nodes 0 to h, each with its list of faults
module _ (instance h : ℕ) (faults : ℕ → List Bridge) where
  abbrev lists : List (List Bridge)
  lists = table (h + 1) faults

  -- the codes of the nodes below m
  abbrev pub node_codes : ℕ → List ℕ
  node_codes m = map (code_of instance) (join_lists (take m lists))

  step : (m : ℕ) → m ≤ h → node_codes (suc m) ≡ node_codes m ++ map (code_of instance) (faults m)
  step m low =
      let inside : m < length lists = rw (length-table (h + 1) faults) (omega arith) in
      let here : get_or lists m [] ≡ faults m = get_or-table (h + 1) faults [] m (omega arith) in
      rw (
        take-suc lists m [] inside,
        here,
        join_append (take m lists) (faults m ∷ []),
        join_one (faults m),
        map-append (code_of instance) (join_lists (take m lists)) (faults m),
      )

  module _ (buffer : List ℕ) (at : ℕ) (fits : at + length (join_lists lists) ≤ length buffer) where
    room : (m : ℕ) → at + length (node_codes m) ≤ length buffer
    room m =
        let whole : join_lists lists ≡ join_lists (take m lists) ++ join_lists (drop m lists)
        = ap join_lists (sym (take-append-drop m lists)) ∙ join_append (take m lists) (drop m lists) in
        rw (length-map (join_lists (take m lists)) (code_of instance))
        (omega (arith, ap length whole, length-append (join_lists (take m lists)) (join_lists (drop m lists))))

    module _ (m : ℕ) (low : m ≤ h) (rows : List ℕ) (next : ℕ) (w : Wrote buffer at (node_codes m) rows next)
        (text : List ℕ) (text_is : map (code_of instance) (faults m) ≡ text) where
      more : node_codes (suc m) ≡ node_codes m ++ text
      more = step m low ∙ rw text_is

      -- there is a place for the next node's
      pub node_place : next + length text ≤ length rows
      node_place = omega (arith, w.next_is, w.long, room (suc m), ap length more, length-append (node_codes m) text)

      pub node_more : (rows' : List ℕ) (next' : ℕ) → rows' ≡ written rows next text → next' ≡ next + length text
          → Wrote buffer at (node_codes (m + 1)) rows' next'
      node_more rows' next' r n = rw (add-one m, more) (wrote_more w text rows' next' (rw (← more) (room (suc m))) r n)

    pub node_end : (m : ℕ) → h < m → (rows : List ℕ) (next : ℕ) → Wrote buffer at (node_codes m) rows next
        → (next ≡ at + length (join_lists lists)) × (rows ≡ written buffer at (map (code_of instance) (join_lists lists)))
    node_end m past rows next w =
        let all : node_codes m ≡ map (code_of instance) (join_lists lists) = rw (take_all m lists (rw (length-table (h + 1) faults) (omega arith))) in
        (omega (arith, w.next_is, ap length all, length-map (join_lists lists) (code_of instance)), w.rows_are ∙ rw all)

-- ---- the codes of a user list

unfoldable pub record_code : ℕ → BridgeRecord → ℕ
record_code n b = packed n b.kind b.first b.second

module _ (instance list : ℕ) where
  listed_append : (as' bs : List BridgeRecord) → listed_codes instance list (as' ++ bs) ≡ listed_codes instance list as' ++ listed_codes instance list bs
  unfolding listed_codes
  listed_append [] bs = refl
  listed_append (a ∷ as') bs = rw (listed_append as' bs) (go (eqb a.list list) (listed_codes instance list as') (listed_codes instance list bs) _)
    where
      go : (own : Bool) (xs ys : List ℕ) (x : ℕ) → cond own (x ∷ (xs ++ ys)) (xs ++ ys) ≡ cond own (x ∷ xs) xs ++ ys
      go true xs ys x = refl
      go false xs ys x = refl

  listed_own : (b : BridgeRecord) → b.list ≡ list → listed_codes instance list (b ∷ []) ≡ record_code instance b ∷ []
  unfolding listed_codes record_code
  listed_own b e = rw (eq-eqb b.list list e)

  listed_other : (b : BridgeRecord) → (b.list ≡ list → ⊥) → listed_codes instance list (b ∷ []) ≡ []
  unfolding listed_codes
  listed_other b e = rw (ne_eqb b.list list e)

  module _ (bs : List BridgeRecord) (buffer : List ℕ) (at : ℕ) (fits : at + length (listed_codes instance list bs) ≤ length buffer) where
    -- the codes of the first i bridges
    abbrev upto : ℕ → List ℕ
    upto i = listed_codes instance list (take i bs)

    listed_room : (i : ℕ) → at + length (upto i) ≤ length buffer
    listed_room i =
        let whole : listed_codes instance list bs ≡ upto i ++ listed_codes instance list (drop i bs)
        = ap (listed_codes instance list) (sym (take-append-drop i bs)) ∙ listed_append (take i bs) (drop i bs) in
        omega (arith, ap length whole, length-append (upto i) (listed_codes instance list (drop i bs)))

    module _ (d : BridgeRecord) (i : ℕ) (h : i < length bs) (rows : List ℕ) (next : ℕ) (w : Wrote buffer at (upto i) rows next) where
      step_listed : upto (suc i) ≡ upto i ++ listed_codes instance list (get_or bs i d ∷ [])
      step_listed = ap (listed_codes instance list) (take-suc bs i d h) ∙ listed_append (take i bs) (get_or bs i d ∷ [])

      module _ (own : (get_or bs i d).list ≡ list) where
        step_own : upto (suc i) ≡ upto i ++ (record_code instance (get_or bs i d) ∷ [])
        step_own = step_listed ∙ rw (listed_own (get_or bs i d) own)

        -- there is a place for a bridge of the list
        pub listed_place : next < length buffer
        listed_place =
            omega (
              arith,
              w.next_is,
              ap length step_own,
              length-append (upto i) (record_code instance (get_or bs i d) ∷ []),
              listed_room (suc i),
            )

        pub listed_more : Wrote buffer at (upto (suc i)) (set rows next (record_code instance (get_or bs i d))) (next + 1)
        listed_more = rw step_own (wrote_one w (record_code instance (get_or bs i d)) (rw (← step_own) (listed_room (suc i))))

      pub listed_same : ((get_or bs i d).list ≡ list → ⊥) → Wrote buffer at (upto (suc i)) rows next
      listed_same other = rw (step_listed, listed_other (get_or bs i d) other, append-nil (upto i)) w
