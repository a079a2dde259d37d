-- What it tells of a type's record that a file can give it: its numbers are in 01's ranges, its nodes are those of the type, and an edge in range is the
-- one that its record tells. Assumes nothing.
use Prim.Native.Nat.{ℕ, zero, suc, ◌+◌, ◌*◌, ◌/◌, ◌%◌, ◌≤◌, ◌<◌}
use native.Mathlib.Omega.{arith}
use mathlib.Core.Path.{◌≡◌, refl, ap, subst, ◌∙◌}
use mathlib.Core.Bool.{Bool, ◌&&◌}
use mathlib.Core.List.{List, [], ◌∷◌}
use lib.Dec.{T, leb, ltb, leb→le, ltb→lt}
use lib.ListN.{get_or, take, get_or-map}
use lib.Seq.{get_or-take}
use Rattle.switch.specs.Conduction.{Channel, channel_p, channel_n, channel_bit, channel_by, EdgeTag, by_position, stated, Edge, between}
use Rattle.switch.specs.Modules.{all_of, type_in_range, edge_in_range, in_range}
use Rattle.switch.specs.Records.{no_edge, tag_bit, tag_by, gate_of, edge_record, first_node_in, second_node_in, gate_in, edge_of, edges_of, type_of}
use Rattle.switch.specs.Records.{TypeGiven}
use Rattle.switch.specs.declared.Edge.{Edge as EdgeRecord}
use Rattle.switch.specs.declared.ModuleType.{ModuleType as TypeRecord}
use Rattle.switch.proofs.Paths.{both}
use Rattle.switch.proofs.Channels.{in_between}

-- what a test gives of each element, and what holds of that which stands past the end, holds at every place
every_place : {A : Type 0} (P : A → Type 0) (test : A → Bool) (d : A) → P d → ((a : A) → T (test a) → P a)
    → (as' : List A) → T (all_of test as') → (i : ℕ) → P (get_or as' i d)
unfolding all_of
every_place P test d past each [] t i = past
every_place P test d past each (a ∷ as') t zero = each a (both (test a) (all_of test as') t).0
every_place P test d past each (a ∷ as') t (suc i) = every_place P test d past each as' (both (test a) (all_of test as') t).1 i

-- ---- the type

pub record TypeRanges (h o k : ℕ) : Type 0 where
  pub highest : h < 32
  pub output_low : 2 ≤ o
  pub output_high : o ≤ h
  pub labels_low : 1 ≤ k
  pub labels_high : k ≤ 12

pub type-ranges : (h o k : ℕ) → T (type_in_range h o k) → TypeRanges h o k
unfolding type_in_range
type-ranges h o k t =
    let parts = both (between 2 31 h && between 2 h o) (between 1 12 k) t in
    let nodes = both (between 2 31 h) (between 2 h o) parts.0 in
    let a = in_between 2 31 h nodes.0 in
    let b = in_between 2 h o nodes.1 in
    let c = in_between 1 12 k parts.1 in
    record { highest = omega arith; output_low = b.0; output_high = b.1; labels_low = c.0; labels_high = c.1 }

-- ---- an edge

pub record EdgeRanges (h : ℕ) (e : Edge) : Type 0 where
  pub first : e.first ≤ h
  pub second : e.second ≤ h
  pub label : e.label < 12

pub edge_ranges : (h k : ℕ) → k ≤ 12 → (e : Edge) → T (edge_in_range h k e) → EdgeRanges h e
unfolding edge_in_range
edge_ranges h k hk e t =
    let parts = both (leb e.first h && leb e.second h) (ltb e.label k) t in
    let ends = both (leb e.first h) (leb e.second h) parts.0 in
    record {
      first = leb→le e.first h ends.0;
      second = leb→le e.second h ends.1;
      label = omega (arith, ltb→lt e.label k parts.1);
    }

-- an edge that a code has room for is the one that its record tells
module _ (a b l : ℕ) (ha : a < 32) (hb : b < 32) (hl : l < 16) where
  abbrev coded : ℕ → ℕ → EdgeRecord
  coded gate tag = record { code = a + 32 * b + 1024 * gate + 32768 * tag }

  parts : (gate tag : ℕ) → gate < 32
      → (first_node_in (coded gate tag) ≡ a) × (second_node_in (coded gate tag) ≡ b) × (gate_in (coded gate tag) ≡ gate)
      × ((coded gate tag).code / 32768 ≡ tag)
  parts gate tag h = (omega arith, omega arith, omega arith, omega arith)

  -- the gate of either channel tells the channel and the label
  gate_told : (c : Channel) → let gate = l + 16 * channel_bit c in (gate < 32) × (channel_by (gate / 16) ≡ c) × (gate % 16 ≡ l)
  unfolding channel_bit channel_by
  gate_told channel_p = let channel : (l + 16) / 16 ≡ 1 = omega arith in (omega arith, rw channel refl, omega arith)
  gate_told channel_n = let channel : (l + 0) / 16 ≡ 0 = omega arith in (omega arith, rw channel refl, omega arith)

  tag_told : (t : EdgeTag) → tag_by (tag_bit t) ≡ t
  unfolding tag_bit tag_by
  tag_told by_position = refl
  tag_told stated = refl

  its_record_by : (c : Channel) (t : EdgeTag)
      → edge_of (edge_record (record { first = a; second = b; channel = c; label = l; tag = t })) ≡ record { first = a; second = b; channel = c; label = l; tag = t }
  unfolding edge_of edge_record gate_of
  its_record_by c t =
      let gate = gate_told c in
      let its = parts (l + 16 * channel_bit c) (tag_bit t) gate.0 in
      rw (its.0, its.1, its.2, its.3, gate.1, gate.2, tag_told t) refl

pub its_record : (e : Edge) → e.first < 32 → e.second < 32 → e.label < 16 → edge_of (edge_record e) ≡ e
its_record e ha hb hl = its_record_by e.first e.second e.label ha hb hl e.channel e.tag

no_edge_lem : (h : ℕ) → EdgeRanges h (edge_of no_edge)
unfolding edge_of
no_edge_lem h = record { first = omega arith; second = omega arith; label = omega arith }

-- ---- a record that a file can give

-- the edges in a type's first places
pub edge_at : (rs : List EdgeRecord) (n i : ℕ) → i < n → get_or (edges_of (take n rs)) i (edge_of no_edge) ≡ edge_of (get_or rs i no_edge)
unfolding edges_of
edge_at rs n i h = get_or-map edge_of (take n rs) i no_edge ∙ ap edge_of (get_or-take n rs i no_edge h)

module _ (r : TypeRecord) (given : TypeGiven r) where
  in_ranges : T (type_in_range r.highest r.output r.labels) × T (all_of (edge_in_range r.highest r.labels) (edges_of (take r.count r.edges)))
  unfolding in_range type_of
  in_ranges =
      both
      (type_in_range r.highest r.output r.labels)
      (all_of (edge_in_range r.highest r.labels) (edges_of (take r.count r.edges)))
      given.ranges

  pub given_type : TypeRanges r.highest r.output r.labels
  given_type = type-ranges r.highest r.output r.labels in_ranges.0

  pub given_edges : T (all_of (edge_in_range r.highest r.labels) (edges_of (take r.count r.edges)))
  given_edges = in_ranges.1

  pub given_edge : (i : ℕ) → i < r.count → EdgeRanges r.highest (edge_of (get_or r.edges i no_edge))
  given_edge i l =
      subst (EdgeRanges r.highest) (edge_at r.edges r.count i l)
      (every_place
      (EdgeRanges r.highest)
      (edge_in_range r.highest r.labels)
      (edge_of no_edge)
      (no_edge_lem r.highest)
      (edge_ranges r.highest r.labels given_type.labels_high)
      (edges_of (take r.count r.edges))
      given_edges
      i)
