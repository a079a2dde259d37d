-- The laws of kinds and their order: a kind is told by its number; and what is out of place behind a field.
use Prim.Native.Nat.{ℕ, ◌<◌, ◌≤◌}
use mathlib.Core.Path.{◌≡◌, refl, sym, ap, ◌∙◌}
use mathlib.Core.Bool.{Bool, true, false, cond, not}
use mathlib.Core.Logic.{◌⊎◌, inl, inr}
use native.Mathlib.Omega.{arith}
use borrow.Author.Tests.{eqb-true, eqb-false}
use lib.Dec.{eqb}
use Rattle.std.proofs.lemmas.Bool.Decides.{nat_tests}
use Rattle.switch.specs.Conduction.{EdgeTag, by_position, stated, between}
use Rattle.circuit.specs.Order.{Tag, inputs_tag, type_tag, edge_tag, bridge_tag, instance_tag, vector_tag, no_tag, tag_number, tag_of, is_kind, is_edge, edge_tag_of, is_unknown, rank, Previous, after_tag, reached, may_follow}
use Rattle.circuit.specs.Kinds.{kind_of, of_kind}
use Rattle.circuit.specs.declared.order.Kind.{Kind}
use Rattle.circuit.specs.contracts.order.Kind.{the_type}
use denote.Enum.Bare.{sameb}

-- ---- kinds

pub tag_back : (tag : Tag) → tag_of (tag_number tag) ≡ tag
unfolding tag_of
tag_back tag = grind arith

module _ (kind tag : Tag) where
  pub kind_is : is_kind kind tag ≡ true → tag ≡ kind
  unfolding is_kind
  kind_is e = sym (tag_back tag) ∙ ap tag_of (eqb-true (tag_number tag) (tag_number kind) e) ∙ tag_back kind

  pub other_kind : is_kind kind tag ≡ false → tag ≡ kind → ⊥
  unfolding is_kind
  other_kind e same = eqb-false (tag_number tag) (tag_number kind) e (ap tag_number same)

-- ---- by a tag byte

-- a byte is the tag of the kind that it stands for, or stands for none
tells-back : (n : ℕ) → (n ≡ tag_number (tag_of n)) ⊎ (tag_of n ≡ no_tag)
unfolding tag_of
tells-back n =
    pick inputs_tag (pick type_tag (pick (edge_tag by_position) (pick bridge_tag (pick instance_tag (pick vector_tag (pick (edge_tag stated) (inr refl)))))))
  where
    Told : Tag → Type 0
    Told tag = (n ≡ tag_number tag) ⊎ (tag ≡ no_tag)

    choose : (tag rest : Tag) (b : Bool) → eqb n (tag_number tag) ≡ b → Told rest → Told (cond b tag rest)
    choose tag rest true e other = inl (eqb-true n (tag_number tag) e)
    choose tag rest false e other = other

    pick : (tag : Tag) {rest : Tag} → Told rest → Told (cond (eqb n (tag_number tag)) tag rest)
    pick tag {rest} other = choose tag rest (eqb n (tag_number tag)) refl other

module _ (kind : Tag) (n : ℕ) (known : 1 ≤ tag_number kind) where
  pub tag_byte : tag_of n ≡ kind → n ≡ tag_number kind
  tag_byte own = go (tells-back n)
    where
      go : (n ≡ tag_number (tag_of n)) ⊎ (tag_of n ≡ no_tag) → n ≡ tag_number kind
      go (inl back) = back ∙ ap tag_number own
      go (inr none) = let z : tag_number kind ≡ 0 = ap tag_number (sym own ∙ none) in absurd (omega arith)

-- a field's kind, told by `==` or by a `match`
module _ (kind : Kind) where
  pub kind-told : (tag : Tag) → sameb the_type (kind_of tag) kind ≡ of_kind kind tag
  unfolding is_kind is_edge
  kind-told tag = grind arith

  pub kind-same : {r : Bool} {of : Kind} (tag : ℕ) → of ≡ kind_of (tag_of tag) → r ≡ sameb the_type of kind → r ≡ of_kind kind (tag_of tag)
  kind-same tag e is = is ∙ ap (λ (k : Kind). sameb the_type k kind) e ∙ kind-told (tag_of tag)

  pub of-its_kind : (tag : Tag) → kind ≡ kind_of tag → of_kind kind tag ≡ true
  unfolding is_kind is_edge
  of-its_kind tag e = grind arith

  pub of-another_kind : (tag : Tag) → (kind ≡ kind_of tag → ⊥) → of_kind kind tag ≡ false
  unfolding is_kind is_edge
  of-another_kind tag other = grind arith

-- ---- edges, and the order

-- an edge field is told by which of the two tags it has
pub edge-is : (tag : Tag) → is_edge tag ≡ true → tag ≡ edge_tag (edge_tag_of tag)
unfolding is_edge edge_tag_of
edge-is tag e = grind arith

-- it is a known field, and neither the inputs' nor a type's
pub edge-known : (t : EdgeTag) → is_unknown (edge_tag t) ≡ false
unfolding is_kind
edge-known t = grind arith

pub edge_no_inputs : (t : EdgeTag) → is_kind inputs_tag (edge_tag t) ≡ false
unfolding is_kind
edge_no_inputs t = grind arith

pub edge_no_type : (t : EdgeTag) → is_kind type_tag (edge_tag t) ≡ false
unfolding is_kind
edge_no_type t = grind arith

-- every kind of 01 and 02 comes before the end of the order
pub known-rank : (tag : Tag) → is_unknown tag ≡ false → rank tag < 6
unfolding is_kind
known-rank tag e = grind arith

-- ---- out of place

-- after a type and its edges a kind is past once a later one has been
pub past : (previous : Previous) (tag : Tag) → 3 ≤ reached previous → reached previous ≤ 5 → rank tag < reached previous
    → may_follow previous tag ≡ false
unfolding may_follow between
past previous tag low high h = grind (arith, nat_tests)

-- before the first field only the inputs field is in place
pub first-place : (previous : Previous) (tag : Tag) → reached previous ≡ 0 → is_kind inputs_tag tag ≡ false → is_unknown tag ≡ false
    → may_follow previous tag ≡ false
unfolding may_follow is_kind between
first-place previous tag e other known = grind (arith, nat_tests)

-- what may follow goes by how far the order has come
pub follows_alike : (p q : Previous) (tag : Tag) → reached p ≡ reached q → may_follow p tag ≡ may_follow q tag
unfolding may_follow
follows_alike p q tag e = grind arith

-- behind a type or an edge of it only the inputs field is out of place
pub after-a-type : (tag : Tag) → not (may_follow (after_tag type_tag) tag) ≡ is_kind inputs_tag tag
unfolding may_follow is_kind between
after-a-type tag = grind arith

-- ---- a kind that has its place to itself

-- the kind at a place past types
unfoldable pub kind_at : ℕ → Tag
kind_at n = cond (eqb n 3) bridge_tag (cond (eqb n 4) instance_tag (cond (eqb n 5) vector_tag no_tag))

kind-at : (tag : Tag) → 3 ≤ rank tag → kind_at (rank tag) ≡ tag
unfolding kind_at
kind-at tag h = grind arith

pub alone : (kind tag : Tag) → 3 ≤ rank kind → rank tag ≡ rank kind → tag ≡ kind
alone kind tag h e = sym (kind-at tag (omega arith)) ∙ ap kind_at e ∙ kind-at kind h
