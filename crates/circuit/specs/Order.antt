-- 01, "The circuit file": the kinds of field, by their tags, and their order. "Order: one tag 1 first; then types, each followed at once by
-- its edges; then bridges; then instances; then vectors." 02, "Pass transistors": tag 7 may stand wherever tag 3 may, so an edge field has
-- one of two tags.
-- One more kind is one more constructor, one more clause in each function here that goes by kinds, and one more test in `tag_of`.
use Rattle.std.specs.Prelude.{ℕ, Bool, true, false, cond, eqb}
use Rattle.switch.specs.Conduction.{EdgeTag, by_position, stated, between}

-- ---- the kinds

pub data Tag : Type 0 where
  inputs_tag : Tag
  type_tag : Tag
  edge_tag : EdgeTag → Tag
  bridge_tag : Tag
  instance_tag : Tag
  vector_tag : Tag
  no_tag : Tag

-- the tag byte of an edge field: 3 where its node numbers tell the channel, 7 where it states it
abbrev pub edge_tag_number : EdgeTag → ℕ
edge_tag_number by_position = 3
edge_tag_number stated = 7

-- the tag byte; 0, which is no tag, for what is none of 01's and 02's
abbrev pub tag_number : Tag → ℕ
tag_number inputs_tag = 1
tag_number type_tag = 2
tag_number (edge_tag e) = edge_tag_number e
tag_number bridge_tag = 4
tag_number instance_tag = 5
tag_number vector_tag = 6
tag_number no_tag = 0

-- the kind that a tag byte stands for
unfoldable pub tag_of : ℕ → Tag
tag_of n =
    cond (eqb n (tag_number inputs_tag)) inputs_tag
    (cond (eqb n (tag_number type_tag)) type_tag
    (cond (eqb n (tag_number (edge_tag by_position))) (edge_tag by_position)
    (cond (eqb n (tag_number bridge_tag)) bridge_tag
    (cond (eqb n (tag_number instance_tag)) instance_tag
    (cond (eqb n (tag_number vector_tag)) vector_tag
    (cond (eqb n (tag_number (edge_tag stated))) (edge_tag stated) no_tag))))))

-- a field is of this kind
unfoldable pub is_kind : Tag → Tag → Bool
is_kind kind tag = eqb (tag_number tag) (tag_number kind)

-- a field is an edge's, of either tag
unfoldable pub is_edge : Tag → Bool
is_edge inputs_tag = false
is_edge type_tag = false
is_edge (edge_tag e) = true
is_edge bridge_tag = false
is_edge instance_tag = false
is_edge vector_tag = false
is_edge no_tag = false

-- which of the two tags an edge field has; of other fields it tells nothing
unfoldable pub edge_tag_of : Tag → EdgeTag
edge_tag_of inputs_tag = by_position
edge_tag_of type_tag = by_position
edge_tag_of (edge_tag e) = e
edge_tag_of bridge_tag = by_position
edge_tag_of instance_tag = by_position
edge_tag_of vector_tag = by_position
edge_tag_of no_tag = by_position

abbrev pub is_unknown : Tag → Bool
is_unknown tag = is_kind no_tag tag

-- ---- their order

-- the place of a kind in the order, counted from 1; a type and its edges have one place
abbrev pub rank : Tag → ℕ
rank inputs_tag = 1
rank type_tag = 2
rank (edge_tag e) = 2
rank bridge_tag = 3
rank instance_tag = 4
rank vector_tag = 5
rank no_tag = 6

-- what stands before a field: nothing, or a field of a kind
pub data Previous : Type 0 where
  start_of_file : Previous
  after_tag : Tag → Previous

-- how far the order has come
abbrev pub reached : Previous → ℕ
reached start_of_file = 0
reached (after_tag tag) = rank tag

abbrev pub at_start : Previous → Bool
at_start previous = eqb (reached previous) 0

-- the field before is a type's, or an edge of it
abbrev pub in_type : Previous → Bool
in_type previous = eqb (reached previous) (rank type_tag)

-- the first field has been, and the place of this kind is not past
abbrev pub not_past : Tag → Previous → Bool
not_past tag previous = between 1 (rank tag) (reached previous)

-- what a field of a kind may follow. What is none of these kinds has no place to miss
unfoldable pub may_follow : Previous → Tag → Bool
may_follow previous inputs_tag = at_start previous
may_follow previous type_tag = not_past type_tag previous
may_follow previous (edge_tag e) = in_type previous
may_follow previous bridge_tag = not_past bridge_tag previous
may_follow previous instance_tag = not_past instance_tag previous
may_follow previous vector_tag = not_past vector_tag previous
may_follow previous no_tag = true
