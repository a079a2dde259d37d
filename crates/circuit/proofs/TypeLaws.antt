-- The laws of types and their edges: a type that is in range is told by its record, and the edges of a field that passes its tests are in range.
use Prim.Native.Nat.{ℕ, suc, ◌+◌, ◌<◌, ◌≤◌}
use mathlib.Core.Logic.{◌⊎◌, inl, inr}
use mathlib.Core.Path.{◌≡◌, refl, sym, ap, subst, ◌∙◌}
use mathlib.Core.Bool.{Bool, true, false, not, ◌&&◌}
use mathlib.Core.List.{List, [], ◌∷◌, ◌++◌, map, map-append}
use native.Mathlib.Numerals.{add-one}
use native.Mathlib.Omega.{arith}
use borrow.Author.Tests.{ltb-false, not-false}
use lib.Dec.{T, eqb, leb, ltb, eqb→eq}
use lib.ListN.{length, get_or, take, drop, length-append, length-take, length-drop, length-map}
use lib.Seq.{drop-cons, ext_get_or, get_or-take}
use Rattle.words.proofs.Tables.{length-table}
use Rattle.switch.specs.Conduction.{Channel, channel_p, channel_n, channel_bit, EdgeTag, by_position, stated, Edge, edges_for, bad_ends, channel_of, between}
use Rattle.switch.specs.Modules.{ModuleType, most_edges, all_of, type_in_range, edge_in_range, in_range}
use Rattle.switch.specs.Records.{no_edge, edge_record, edges_of, type_of, TypeGiven}
use Rattle.switch.proofs.Paths.{both}
use Rattle.switch.proofs.Deciding.{and_both}
use Rattle.switch.proofs.Channels.{in_between}
use Rattle.switch.proofs.Ranges.{type-ranges, edge_ranges, its_record}
use Rattle.circuit.specs.Known.{edges_told, edges_in, with_edges}
use Rattle.circuit.specs.Table.{passes, first_of, edges_in_range, pass_in_range, edge_tests, edge_tests_of}
use Rattle.circuit.specs.Records.{padded, type_record}
use Rattle.circuit.specs.Laws.{ends_good_by, ends_good}
use Rattle.circuit.proofs.Padding.{get_or-padded}
use Rattle.circuit.proofs.Verdicts.{first_passes}

-- ---- tests of both and of all

-- a test that refuses when b fails did not refuse
pub accepts : (b : Bool) → not b ≡ false → T b
accepts b e = subst T (sym (not-false b e)) tt

-- the flag of `a && b`, by the two ways to it
pub and_came : {P Q : Type 0} (a b r : Bool) → P ⊎ Q → (P → (a ≡ true) × (r ≡ b)) → (Q → (a ≡ false) × (r ≡ a)) → r ≡ (a && b)
and_came a b r (inl p) taken left = (taken p).1 ∙ rw (taken p).0
and_came a b r (inr q) taken left = (left q).1 ∙ rw (left q).0

-- all from a place on
pub all_from : {A : Type 0} (test : A → Bool) (as' : List A) (i : ℕ) (d : A) → i < length as'
    → all_of test (drop i as') ≡ (test (get_or as' i d) && all_of test (drop (i + 1) as'))
unfolding all_of
all_from test as' i d h = rw (add-one i, drop-cons as' i d h)

pub all_append : {A : Type 0} (test : A → Bool) (as' bs : List A) → T (all_of test as') → T (all_of test bs) → T (all_of test (as' ++ bs))
unfolding all_of
all_append test [] bs p q = q
all_append test (a ∷ as') bs p q =
    let parts = both (test a) (all_of test as') p in
    and_both (test a) (all_of test (as' ++ bs)) parts.0 (all_append test as' bs parts.1 q)

pub all_snoc : {A : Type 0} (test : A → Bool) (as' : List A) (a : A) → T (all_of test as') → T (test a) → T (all_of test (as' ++ (a ∷ [])))
unfolding all_of
all_snoc test as' a p q = all_append test as' (a ∷ []) p (and_both (test a) true q tt)

-- ---- a type and its record

module _ {A : Type 0} (none : A) (n : ℕ) (as' : List A) (h : length as' ≤ n) where
  length_used : length (take (length as') (padded n none as')) ≡ length as'
  unfolding padded
  length_used = rw (length-take, length-table) (omega arith)

  -- the used places of a list in n places are the list
  pub take_padded : take (length as') (padded n none as') ≡ as'
  take_padded = ext_get_or none (take (length as') (padded n none as')) as' length_used (λ i q. at i (rw length_used at q))
    where
      at : (i : ℕ) → i < length as' → get_or (take (length as') (padded n none as')) i none ≡ get_or as' i none
      at i q = get_or-take (length as') (padded n none as') i none q ∙ get_or-padded none n as' none i (omega arith)

module _ (h k : ℕ) (nodes : h < 32) (few : k ≤ 12) where
  edges_back : (es : List Edge) → T (all_of (edge_in_range h k) es) → edges_of (map edge_record es) ≡ es
  unfolding edges_of all_of
  edges_back [] t = refl
  edges_back (e ∷ es) t =
      let parts = both (edge_in_range h k e) (all_of (edge_in_range h k) es) t in
      let its = edge_ranges h k few e parts.0 in
      rw (its_record e (omega (arith, its.first)) (omega (arith, its.second)) (omega (arith, its.label)))
      (ap (λ (l : List Edge). e ∷ l) (edges_back es parts.1))

module _ (t : ModuleType) (ranges : T (in_range t)) (within : length t.edges ≤ most_edges) where
  pub edges_ranges : T (type_in_range t.highest t.output t.labels) × T (all_of (edge_in_range t.highest t.labels) t.edges)
  unfolding in_range
  edges_ranges = both (type_in_range t.highest t.output t.labels) (all_of (edge_in_range t.highest t.labels) t.edges) ranges

  used_edges : take (length t.edges) (padded most_edges no_edge (map edge_record t.edges)) ≡ map edge_record t.edges
  used_edges =
      let same = length-map t.edges edge_record in
      rw same at (take_padded no_edge most_edges (map edge_record t.edges) (omega arith))

  -- a type in range is told by its record
  pub type_back : type_of (type_record t) ≡ t
  unfolding type_of type_record
  type_back =
      let its = type-ranges t.highest t.output t.labels edges_ranges.0 in
      ap (λ (es : List Edge). record { highest = t.highest; output = t.output; labels = t.labels; edges = es })
      (ap edges_of used_edges ∙ edges_back t.highest t.labels its.highest its.labels_high t.edges edges_ranges.1)

  pub type_given : TypeGiven (type_record t)
  unfolding type_record
  type_given = record { places = within; ranges = rw type_back ranges }

-- ---- the edges of a field more

-- the bytes of a field with tag 7 are in range
abbrev pub body_in_range : ℕ → ℕ → List ℕ → Bool
body_in_range h k body = pass_in_range h k (get_or body 0 0) (get_or body 1 0) (get_or body 2 0) (get_or body 3 0)

-- what the tests of an edge field leave of its bytes, by its tag, when none refuses
unfoldable pub BytesPass : EdgeTag → ModuleType → List ℕ → Type 0
BytesPass by_position t body = (3 ≤ length body) × (length body ≤ 6) × T (edges_in_range t.highest t.labels body)
BytesPass stated t body = (length body ≡ 4) × T (body_in_range t.highest t.labels body)

-- and of its edges
pub record EdgesPass (tag : EdgeTag) (t : ModuleType) (body : List ℕ) : Type 0 where
  pub bytes : BytesPass tag t body
  pub few : length t.edges + length (edges_in tag t.output body) ≤ most_edges
  pub ranges : T (all_of (edge_in_range t.highest t.labels) (edges_in tag t.output body))
  pub ends : T (all_of (ends_good t.highest t.output) (edges_in tag t.output body))

pub length_for : (a b : ℕ) (c : Channel) (ls : List ℕ) → length (edges_for a b c ls) ≡ length ls
unfolding edges_for
length_for a b c [] = refl
length_for a b c (l ∷ ls) = ap suc (length_for a b c ls)

-- how many edges a field has
pub length_edges_in : (tag : EdgeTag) (o : ℕ) (body : List ℕ) → length (edges_in tag o body) ≡ edges_told tag (length body)
unfolding edges_in edges_told
length_edges_in by_position o body = length_for _ _ _ _ ∙ length-drop 2 body
length_edges_in stated o body = refl

-- what holds of an edge with each of the labels holds of all of them
all_for : (test : Edge → Bool) (a b : ℕ) (c : Channel) (label : ℕ → Bool)
    → ((l : ℕ) → T (label l) → T (test (record { first = a; second = b; channel = c; label = l; tag = by_position })))
    → (ls : List ℕ) → T (all_of label ls) → T (all_of test (edges_for a b c ls))
unfolding all_of edges_for
all_for test a b c label each [] t = tt
all_for test a b c label each (l ∷ ls) t =
    let parts = both (label l) (all_of label ls) t in
    and_both (test (record { first = a; second = b; channel = c; label = l; tag = by_position })) (all_of test (edges_for a b c ls)) (each l parts.0)
    (all_for test a b c label each ls parts.1)

all_true : (ls : List ℕ) → T (all_of (λ (l : ℕ). true) ls)
unfolding all_of
all_true [] = tt
all_true (l ∷ ls) = all_true ls

channel-is : (c : Channel) → T (eqb (channel_bit c) (channel_bit c))
unfolding channel_bit
channel-is channel_p = tt
channel-is channel_n = tt

-- the two nodes, the channel and the label of a pass transistor in range
pub record PassParts (h k a b channel label : ℕ) : Type 0 where
  pub first_in_lem : T (leb a h)
  pub second_in_lem : T (leb b h)
  pub apart : T (not (eqb a b))
  pub channel_in_lem : T (leb channel 1)
  pub label_in_lem : T (ltb label k)

pub pass-parts : (h k a b channel label : ℕ) → T (pass_in_range h k a b channel label) → PassParts h k a b channel label
unfolding pass_in_range
pass-parts h k a b channel label t =
    let first = leb a h in
    let second = leb b h in
    let other = not (eqb a b) in
    let known = leb channel 1 in
    let labels = both (first && second && other && known) (ltb label k) t in
    let channels = both (first && second && other) known labels.0 in
    let ends = both (first && second) other channels.0 in
    let nodes = both first second ends.0 in
    record { first_in_lem = nodes.0; second_in_lem = nodes.1; apart = ends.1; channel_in_lem = channels.1; label_in_lem = labels.1 }

pub body-parts : (h k : ℕ) (body : List ℕ) → T (body_in_range h k body) → PassParts h k (get_or body 0 0) (get_or body 1 0) (get_or body 2 0) (get_or body 3 0)
body-parts h k body = pass-parts h k (get_or body 0 0) (get_or body 1 0) (get_or body 2 0) (get_or body 3 0)

module _ (h o k : ℕ) (body : List ℕ) where
  -- the edges of a field of tag 3 that is in range are in range, and have the ends that it asks for
  labels_range : T (edges_in_range h k body) → T (all_of (edge_in_range h k) (edges_in by_position o body))
  unfolding edges_in_range edge_in_range edges_in
  labels_range t =
      let a = get_or body 0 0 in
      let b = get_or body 1 0 in
      let parts = both (leb a h && leb b h) (all_of (λ (l : ℕ). ltb l k) (drop 2 body)) t in
      all_for (edge_in_range h k) a b _ (λ (l : ℕ). ltb l k) (λ l q. and_both (leb a h && leb b h) (ltb l k) parts.0 q) (drop 2 body) parts.1

  labels_ends : bad_ends h o (get_or body 0 0) (get_or body 1 0) ≡ false → T (all_of (ends_good h o) (edges_in by_position o body))
  unfolding edges_in ends_good_by
  labels_ends good =
      let a = get_or body 0 0 in
      let b = get_or body 1 0 in
      all_for (ends_good h o) a b _ (λ (l : ℕ). true)
      (λ l q. and_both (not (bad_ends h o a b)) (eqb (channel_bit (channel_of o a b)) (channel_bit (channel_of o a b))) (rw good tt) (channel-is (channel_of o a b)))
      (drop 2 body) (all_true (drop 2 body))

  -- and so is the edge of one of tag 7
  pass_range : T (body_in_range h k body) → T (all_of (edge_in_range h k) (edges_in stated o body))
  unfolding all_of edge_in_range edges_in
  pass_range t =
      let a = leb (get_or body 0 0) h in
      let b = leb (get_or body 1 0) h in
      let l = ltb (get_or body 3 0) k in
      let its = body-parts h k body t in
      and_both (a && b && l) true (and_both (a && b) l (and_both a b its.first_in_lem its.second_in_lem) its.label_in_lem) tt

  pass_ends : T (body_in_range h k body) → T (all_of (ends_good h o) (edges_in stated o body))
  unfolding all_of ends_good_by edges_in
  pass_ends t = and_both (not (eqb (get_or body 0 0) (get_or body 1 0))) true (body-parts h k body t).apart tt

pub edges-pass : (tag : EdgeTag) (t : ModuleType) (at : ℕ) (body : List ℕ) → first_of (edge_tests tag t at body) ≡ passes → EdgesPass tag t body
unfolding edge_tests edge_tests_of BytesPass
edges-pass by_position t at body e =
    let a = first_passes _ _ e in
    let b = first_passes _ _ a.1 in
    let c = first_passes _ _ b.1 in
    let d = first_passes _ _ c.1 in
    let size = in_between 3 6 (length body) (accepts (between 3 6 (length body)) a.0) in
    let ranges = accepts (edges_in_range t.highest t.labels body) c.0 in
    record {
      bytes = (size.0, size.1, ranges);
      few = rw (length_edges_in by_position t.output body) (ltb-false most_edges (length t.edges + edges_told by_position (length body)) b.0);
      ranges = labels_range t.highest t.output t.labels body ranges;
      ends = labels_ends t.highest t.output t.labels body d.0;
    }
edges-pass stated t at body e =
    let a = first_passes _ _ e in
    let b = first_passes _ _ a.1 in
    let c = first_passes _ _ b.1 in
    let ranges = accepts (body_in_range t.highest t.labels body) c.0 in
    record {
      bytes = (eqb→eq (length body) 4 (accepts (eqb (length body) 4) a.0), ranges);
      few = rw (length_edges_in stated t.output body) (ltb-false most_edges (length t.edges + edges_told stated (length body)) b.0);
      ranges = pass_range t.highest t.output t.labels body ranges;
      ends = pass_ends t.highest t.output t.labels body ranges;
    }

module _ (t : ModuleType) (es : List Edge) where
  pub with_edges_ranges : T (in_range t) → T (all_of (edge_in_range t.highest t.labels) es) → T (in_range (with_edges t es))
  unfolding in_range with_edges
  with_edges_ranges p q =
      let parts = both (type_in_range t.highest t.output t.labels) (all_of (edge_in_range t.highest t.labels) t.edges) p in
      and_both (type_in_range t.highest t.output t.labels) _ parts.0
      (all_append (edge_in_range t.highest t.labels) t.edges es parts.1 q)

  -- the record of a type with these edges more
  pub with_edges_record : type_record (with_edges t es) ≡ record {
    highest = t.highest;
    output = t.output;
    labels = t.labels;
    count = length t.edges + length es;
    edges = padded most_edges no_edge (map edge_record t.edges ++ map edge_record es);
  }
  unfolding type_record with_edges
  with_edges_record = rw (length-append t.edges es, map-append edge_record t.edges es)
