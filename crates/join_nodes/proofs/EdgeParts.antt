-- Edges taken apart: the parts of a slice tell its edges without their tags, and where a file can give the slice they fit. Assumes nothing.
use Prim.Native.Nat.{ℕ, ◌+◌, ◌<◌}
use native.Mathlib.Nat.{le_refl}
use native.Mathlib.Omega.{arith}
use mathlib.Core.Path.{◌≡◌, refl, ap}
use mathlib.Core.List.{List, [], ◌∷◌, map}
use lib.ListN.{length, get_or, length-map}
use Rattle.std.proofs.lemmas.List.{get_or-map}
use lib.Seq.{take_all}
use Rattle.switch.specs.Records.{no_edge, edge_of, edges_of, type_of, type_with, TypeGiven, EdgesGiven}
use Rattle.switch.specs.Tags.{untagged, untagged_type}
use Rattle.switch.specs.declared.Edge.{Edge as EdgeRecord}
use Rattle.switch.specs.declared.ModuleType.{ModuleType as TypeRecord}
use Rattle.switch.proofs.Ranges.{TypeRanges, EdgeRanges, given_type, given_edge}
use Rattle.join_nodes.specs.Model.{no_parts, parts_of, edge_with_parts, type_in_parts, PartsFit, PartsGiven}

-- ---- what the parts of a slice tell

pub edges_told_lem : (rs : List EdgeRecord) → map untagged (edges_of rs) ≡ map edge_with_parts (map parts_of rs)
unfolding edges_of edge_of untagged edge_with_parts
edges_told_lem [] = refl
edges_told_lem (r ∷ rs) = ap (◌∷◌ (untagged (edge_of r))) (edges_told_lem rs)

pub type_told : (h o k : ℕ) (rs : List EdgeRecord) → type_in_parts h o k (map parts_of rs) ≡ untagged_type (type_with h o k rs)
unfolding type_in_parts untagged_type type_with
type_told h o k rs = rw (← edges_told_lem rs)

-- ---- a slice that a file can give

module _ (h o k : ℕ) (rs : List EdgeRecord) (g : EdgesGiven h o k rs) where
  -- the record with just these edges
  abbrev whole : TypeRecord
  whole = record { highest = h; output = o; labels = k; count = length rs; edges = rs }

  whole_given : TypeGiven whole
  unfolding type_of type_with
  whole_given = record { places = g.places; ranges = rw (take_all (length rs) rs (le_refl (length rs))) g.ranges }

  ranges : TypeRanges h o k
  ranges = given_type whole whole_given

  edge_ranges : (i : ℕ) → i < length rs → EdgeRanges h (edge_of (get_or rs i no_edge))
  edge_ranges = given_edge whole whole_given

  part_at : (i : ℕ) → i < length rs → get_or (map parts_of rs) i no_parts ≡ parts_of (get_or rs i no_edge)
  part_at i h = get_or-map parts_of rs i no_edge no_parts h

  pub parts_fit : PartsFit (map parts_of rs) (h + 1)
  unfolding edge_of
  parts_fit = record {
    first = λ i l. rw (part_at i (rw length-map at l)) (omega (arith, (edge_ranges i (rw length-map at l)).first));
    second = λ i l. rw (part_at i (rw length-map at l)) (omega (arith, (edge_ranges i (rw length-map at l)).second));
    gate = λ i l. rw (part_at i (rw length-map at l)) (omega arith);
    few_nodes = omega (arith, ranges.highest);
  }

  pub parts_given : PartsGiven h o k (map parts_of rs)
  unfolding edge_of
  parts_given = record {
    fit = parts_fit;
    label = λ i l. rw (part_at i (rw length-map at l)) (edge_ranges i (rw length-map at l)).label;
    output = omega (arith, ranges.highest, ranges.output_high);
    labels = ranges.labels_high;
  }
