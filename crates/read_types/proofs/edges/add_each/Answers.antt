-- `read_types::edges::add_each` meets its contract: the edges differ in their labels alone, and each is stored behind the one before it.
-- Assumes nothing.
use Prim.Native.Nat.{ℕ, zero, suc, ◌+◌, ◌<◌}
use mathlib.Core.Path.{◌≡◌, refl, sym, ap, ◌∙◌}
use mathlib.Core.List.{List, [], ◌∷◌, map}
use native.Mathlib.Nat.{not-suc-le-zero, le_of_suc-le-suc}
use native.Mathlib.Numerals.{add-one}
use native.Mathlib.Omega.{arith}
use lib.ListN.{length, get_or, drop, set, length-map, drop_of_length-le}
use lib.Seq.{drop-cons}
use Rattle.std.proofs.Common.{add-zero}
use Rattle.switch.specs.Conduction.{Channel, by_position, edges_for, channel_of}
use Rattle.switch.specs.Records.{no_edge, edge_record}
use Rattle.switch.specs.declared.Edge.{Edge as EdgeRecord}
use Rattle.switch.specs.declared.ModuleType.{ModuleType as TypeRecord}
use Rattle.circuit.proofs.TypeLaws.{length_for}
use Rattle.read_types.specs.EdgeTurns.{placed, with_placed}
use Rattle.read_types.proofs.edges.add_each.Goals as goal

module _ (a b : ℕ) (c : Channel) (ls : List ℕ) where
  abbrev its_edges : List EdgeRecord
  its_edges = map edge_record (edges_for a b c ls)

  many : length its_edges ≡ length ls
  many = length-map (edges_for a b c ls) edge_record ∙ length_for a b c ls

edge_at : (a b : ℕ) (c : Channel) (ls : List ℕ) (j : ℕ) → j < length ls
    → get_or (its_edges a b c ls) j no_edge
    ≡ edge_record (record { first = a; second = b; channel = c; label = get_or ls j 0; tag = by_position })
unfolding edges_for
edge_at a b c [] j h = absurd (not-suc-le-zero h)
edge_at a b c (l ∷ ls) zero h = refl
edge_at a b c (l ∷ ls) (suc j) h = edge_at a b c ls j (le_of_suc-le-suc h)

-- one edge more is stored
one_more_lem : (t : TypeRecord) (es : List EdgeRecord) (j : ℕ) (e : EdgeRecord) → j < length es → e ≡ get_or es j no_edge
    → with_placed
    (record { highest = t.highest; output = t.output; labels = t.labels; count = t.count + 1; edges = set t.edges t.count e })
    (drop (j + 1) es)
    ≡ with_placed t (drop j es)
unfolding with_placed placed
one_more_lem t es j e h is =
    let counted : t.count + 1 + length (drop (suc j) es) ≡ t.count + suc (length (drop (suc j) es)) = omega arith in
    rw (drop-cons es j no_edge h, add-one j, counted, add-one t.count, is)

-- none is left
all_lem : (t : TypeRecord) → with_placed t [] ≡ t
unfolding with_placed placed
all_lem t = rw (add-zero t.count)

pub loop-l-init : goal.loop-l-init
loop-l-init c = record { room = omega (arith, c.requires.room); stored = refl }

pub new-requires : goal.new-requires
new-requires c = (c.requires.nodes.0, c.requires.nodes.1, c.requires.few c.loop-l.l-index)

pub loop-l-preserved : goal.loop-l-preserved
unfolding channel_of
loop-l-preserved c =
    let a = c.args in
    let t = a.t.now in
    let turn = c.loop-l in
    let channel : Channel = channel_of t.output a.a a.b in
    let here : turn.l-index < length a.labels.now = c.loop-l-test.true in
    record {
      room = omega (arith, turn.invariant.room);
      stored =
          one_more_lem turn.t (its_edges a.a a.b channel a.labels.now) turn.l-index c.new.result
          (omega (arith, many a.a a.b channel a.labels.now))
          (c.new.ensures ∙ rw c.p_ends-p_channel.ensures (sym (edge_at a.a a.b channel a.labels.now turn.l-index here)))
          ∙ turn.invariant.stored;
    }

pub returns : goal.returns
returns c =
    let a = c.args in
    let turn = c.loop-l in
    let channel : Channel = channel_of a.t.now.output a.a a.b in
    let es = its_edges a.a a.b channel a.labels.now in
    let none : drop turn.l-index es ≡ [] = drop_of_length-le es {i = turn.l-index} (omega (arith, many a.a a.b channel a.labels.now)) in
    sym (all_lem turn.t) ∙ ap (with_placed turn.t) (sym none) ∙ turn.invariant.stored
