-- The laws of the user lists: what one bridge more does to each of them, and the sums of a list by its number.
-- Whether a list suits a type, and whether it is empty, can be told from its sums.
use Prim.Native.Nat.{ℕ, suc, ◌+◌, ◌<◌, ◌≤◌, max}
use mathlib.Core.Path.{◌≡◌, refl, sym, ap, ◌∙◌}
use mathlib.Core.Bool.{Bool, cond, not, ◌&&◌, ◌||◌, and-true}
use mathlib.Core.List.{List, [], ◌∷◌, ◌++◌, map}
use native.Mathlib.Omega.{arith}
use borrow.Author.Tests.{eq-eqb, ne_eqb}
use Rattle.std.proofs.lemmas.Bool.Decides.{nat_tests}
use lib.Dec.{T, eqb, leb, ltb, leb-zero, leb→le}
use lib.ListN.{length, get_or, set, take, length-append, length-map, replicate, length-replicate, get_or-replicate}
use Rattle.std.proofs.lemmas.List.{get_or-map}
use lib.Seq.{take-suc}
use Rattle.words.proofs.Tables.{get_or-table, set-table, is-table}
use Rattle.switch.specs.Conduction.{between}
use Rattle.switch.specs.Bridges.{Bridge, nodes, input}
use Rattle.switch.specs.Modules.{ModuleType, all_of}
use Rattle.switch.proofs.Paths.{both}
use Rattle.switch.proofs.Deciding.{all_of_lem}
use Rattle.circuit.specs.Limits.{most_bridges}
use Rattle.circuit.specs.Circuit.{Listed, user_list}
use Rattle.circuit.specs.Table.{bridge_good, listed_good, bridge_suits}
use Rattle.circuit.specs.Records.{bridge_record, bridge_record_in}
use Rattle.read_bridges.specs.declared.lists.ListSum.{ListSum}
use Rattle.read_bridges.specs.ListSums.{top_node, labels_named, most, sum_of, lists_of, top_of_record, labels_of_record}
use Rattle.circuit.specs.declared.Bridge.{Bridge as BridgeRecord}

-- ---- what a list asks of a type

leb_max : (a b h : ℕ) → leb (max a b) h ≡ (leb a h && leb b h)
leb_max a b h = grind (arith, nat_tests)

not_leb : (a h : ℕ) → not (leb a h) ≡ ltb h a
not_leb a h = grind (arith, nat_tests)

swap_and : (a b c d : Bool) → ((a && b) && (c && d)) ≡ ((a && c) && (b && d))
swap_and a b c d = grind arith

not_and : (a b : Bool) → not (a && b) ≡ (not a || not b)
not_and a b = grind arith

module _ (t : ModuleType) where
  suits : (b : Bridge) → bridge_suits t b ≡ (leb (top_node b) t.highest && leb (labels_named b) t.labels)
  unfolding bridge_suits top_node labels_named
  suits (nodes a b) = sym (rw (leb-zero, leb_max) (and-true (leb a t.highest && leb b t.highest)))
  suits (input m l) = refl

  all_suit : (bs : List Bridge) → all_of (bridge_suits t) bs ≡ (leb (most top_node bs) t.highest && leb (most labels_named bs) t.labels)
  unfolding all_of most
  all_suit [] = sym (rw (leb-zero t.highest, leb-zero t.labels))
  all_suit (b ∷ bs) =
      rw (suits b, all_suit bs, leb_max (top_node b) (most top_node bs), leb_max (labels_named b) (most labels_named bs))
      (swap_and
      (leb (top_node b) t.highest)
      (leb (labels_named b) t.labels)
      (leb (most top_node bs) t.highest)
      (leb (most labels_named bs) t.labels))

  -- some bridge does not suit the type exactly when they name a node above h or a label not below k
  pub unsuited : (bs : List Bridge)
      → not (all_of (bridge_suits t) bs) ≡ (ltb t.highest (most top_node bs) || ltb t.labels (most labels_named bs))
  unsuited bs =
      rw
      (all_suit, not_and (leb (most top_node bs) t.highest), not_leb (most top_node bs) t.highest, not_leb (most labels_named bs) t.labels)

-- ---- the sums by their numbers

pub sum_at : (bs : List Listed) (n : ℕ) (d : ListSum) → n < 128 → get_or (lists_of bs) n d ≡ sum_of (user_list n bs)
sum_at bs n d h = get_or-table 128 (λ (m : ℕ). sum_of (user_list m bs)) d n h

-- ---- one bridge more

pub length-list : (n : ℕ) (bs : List Listed) → length (user_list n bs) ≤ length bs
unfolding user_list
length-list n [] = omega arith
length-list n (b ∷ bs) = grind (arith, length-list n bs)

module _ (n : ℕ) where
  more : (bs : List Listed) (b : Listed)
      → user_list n (bs ++ (b ∷ [])) ≡ cond (eqb b.list n) (user_list n bs ++ (b.bridge ∷ [])) (user_list n bs)
  unfolding user_list
  more [] b = refl
  more (a ∷ bs) b = grind (arith, more bs b)

  pub more_own : (bs : List Listed) (b : Listed) → b.list ≡ n → user_list n (bs ++ (b ∷ [])) ≡ user_list n bs ++ (b.bridge ∷ [])
  more_own bs b e = more bs b ∙ rw (eq-eqb b.list n e)

  pub more_other : (bs : List Listed) (b : Listed) → (b.list ≡ n → ⊥) → user_list n (bs ++ (b ∷ [])) ≡ user_list n bs
  more_other bs b e = more bs b ∙ rw (ne_eqb b.list n e)

pub most-more : (f : Bridge → ℕ) (bs : List Bridge) (b : Bridge) → most f (bs ++ (b ∷ [])) ≡ max (most f bs) (f b)
unfolding most
most-more f [] b = omega arith
most-more f (a ∷ bs) b = omega (arith, most-more f bs b)

pub sums_none : (none : ListSum) → none ≡ record { count = 0; nodes = 0; labels = 0 } → replicate 128 none ≡ lists_of []
unfolding user_list most
sums_none none e =
    is-table none 128 (λ (n : ℕ). record { count = 0; nodes = 0; labels = 0 }) (replicate 128 none) (length-replicate 128 none)
    (λ i h. get_or-replicate 128 i none none h ∙ e)

pub sums_more : (bs : List Listed) (b : Listed) (more : ListSum) → b.list < 128 → more ≡ sum_of (user_list b.list bs ++ (b.bridge ∷ []))
    → set (lists_of bs) b.list more ≡ lists_of (bs ++ (b ∷ []))
sums_more bs b more h e =
    ap (set (lists_of bs) b.list) (e ∙ ap sum_of (sym (more_own b.list bs b refl)))
    ∙ set-table more 128 (λ (n : ℕ). sum_of (user_list n bs)) (λ (n : ℕ). sum_of (user_list n (bs ++ (b ∷ [])))) b.list h
    (λ j q other. ap sum_of (sym (more_other j bs b (λ e. other (sym e)))))

-- ---- the code's records

module _ (list : ℕ) where
  top_in : (b : Bridge) → top_of_record (bridge_record_in list b) ≡ top_node b
  unfolding top_of_record bridge_record_in top_node
  top_in (nodes a b) = refl
  top_in (input m l) = refl

  labels_in : (b : Bridge) → labels_of_record (bridge_record_in list b) ≡ labels_named b
  unfolding labels_of_record bridge_record_in labels_named
  labels_in (nodes a b) = refl
  labels_in (input m l) = refl

  list_in : (b : Bridge) → (bridge_record_in list b).list ≡ list
  unfolding bridge_record_in
  list_in (nodes a b) = refl
  list_in (input m l) = refl

  second_in_lem : (b : Bridge) → T (bridge_good b) → (bridge_record_in list b).second ≤ 31
  unfolding bridge_record_in bridge_good
  second_in_lem (nodes a b) t = leb→le b 31 (both (leb a 31) (leb b 31) (both (leb a 31 && leb b 31) (not (eqb a b)) t).0).1
  second_in_lem (input m l) t = let h = leb→le l 11 (both (leb m 31) (leb l 11) t).1 in omega arith

-- the bridges that some records tell
pub record ToldBy (records : List BridgeRecord) (bs : List Listed) : Type 0 where
  pub within : length bs ≤ most_bridges
  pub ranges : T (all_of listed_good bs)
  pub are : records ≡ map bridge_record bs

abbrev unlisted : Listed
unlisted = record { list = 0; bridge = nodes 0 0 }

-- what the code reads from a record, said of the bridge that it tells
pub record BridgeAt (r : BridgeRecord) (b : Listed) : Type 0 where
  pub list : r.list ≡ b.list
  pub small : b.list < 128
  pub second : r.second ≤ 31
  pub top : top_of_record r ≡ top_node b.bridge
  pub labels : labels_of_record r ≡ labels_named b.bridge

module _ (records : List BridgeRecord) (bs : List Listed) (told : ToldBy records bs) (i : ℕ) (h : i < length records) where
  below : i < length bs
  below = omega (arith, ap length told.are, length-map bs bridge_record)

  pub bridge_at : Listed
  bridge_at = get_or bs i unlisted

  pub taken_more : take (suc i) bs ≡ take i bs ++ (bridge_at ∷ [])
  unfolding bridge_at
  taken_more = take-suc bs i unlisted below

  record_at : (d : BridgeRecord) → get_or records i d ≡ bridge_record bridge_at
  unfolding bridge_at
  record_at d =
      ap (λ (l : List BridgeRecord). get_or l i d) told.are ∙ get_or-map bridge_record bs i unlisted d below

  pub read_at : (d : BridgeRecord) → BridgeAt (get_or records i d) bridge_at
  unfolding listed_good bridge_record bridge_at between
  read_at d =
      let b : Listed = bridge_at in
      let good : T (between 1 127 b.list && bridge_good b.bridge) = (all_of_lem listed_good unlisted bs).0 told.ranges i below in
      let parts = both (between 1 127 b.list) (bridge_good b.bridge) good in
      let high = leb→le b.list 127 (both (leb 1 b.list) (leb b.list 127) parts.0).1 in
      rw record_at record {
        list = list_in b.list b.bridge;
        small = omega arith;
        second = second_in_lem b.list b.bridge parts.1;
        top = top_in b.list b.bridge;
        labels = labels_in b.list b.bridge;
      }

-- ---- the sums as the code goes on from one bridge to the next

-- a sum with the bridge of a record
abbrev pub with_record : ListSum → BridgeRecord → ListSum
with_record s r = record { count = s.count + 1; nodes = max s.nodes (top_of_record r); labels = max s.labels (labels_of_record r) }

sum_more : (bs : List Bridge) (b : Bridge)
    → sum_of (bs ++ (b ∷ []))
    ≡ record { count = length bs + 1; nodes = max (most top_node bs) (top_node b); labels = max (most labels_named bs) (labels_named b) }
sum_more bs b = λ i. record {
  count = length-append bs (b ∷ []) i;
  nodes = most-more top_node bs b i;
  labels = most-more labels_named bs b i;
}

module _ (bs : List Listed) (lists : List ListSum) (are : lists ≡ lists_of bs) (b : Listed) (r : BridgeRecord)
    (at : BridgeAt r b) (d : ListSum) where
  sum_is : get_or lists r.list d ≡ sum_of (user_list b.list bs)
  sum_is = rw (are, at.list) (sum_at bs b.list d at.small)

  pub few : (get_or lists r.list d).count ≤ length bs
  few = rw sum_is (length-list b.list bs)

  pub next_sums : (more : ListSum) → more ≡ with_record (get_or lists r.list d) r → set lists r.list more ≡ lists_of (bs ++ (b ∷ []))
  next_sums more is =
      let e : more ≡ sum_of (user_list b.list bs ++ (b.bridge ∷ [])) =
      is ∙ rw (sum_is, at.top, at.labels) (sym (sum_more (user_list b.list bs) b.bridge)) in
      rw (are, at.list) (sums_more bs b more at.small e)
