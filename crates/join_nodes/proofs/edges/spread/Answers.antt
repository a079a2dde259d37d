-- `join_nodes::edges::spread` meets its contract. The loop's invariant: the first `i` places hold the parts of the first `i` edges, and
-- the others are unused. Assumes nothing.
use Rattle.std.proofs.Common.{◌≡◌, ◌<◌, ◌+◌, ◌-◌, ℕ, suc, List, [], ◌∷◌, ◌++◌, length, get_or, take, map, replicate}
use Rattle.std.proofs.Common.{ap, refl, sym, ◌∙◌, append_assoc, arith}
use Rattle.std.proofs.lemmas.List.{map_more}
use Rattle.std.proofs.Math.Seq.{set-append_seam}
use lib.ListN.{set, length-map, length-take}
use Rattle.switch.specs.Records.{no_edge}
use Rattle.switch.specs.declared.Edge.{Edge}
use Rattle.join_nodes.specs.Model.{parts_of, unused_parts}
use Rattle.join_nodes.specs.declared.edges.Parts.{Parts}
use Rattle.join_nodes.proofs.edges.spread.Goals as goal

-- the parts of one edge more, where `left` places are unused behind it
more-parts : (edges : List Edge) (i left : ℕ) → i < length edges
    → set (map parts_of (take i edges) ++ replicate (suc left) unused_parts) i (parts_of (get_or edges i no_edge))
    ≡ map parts_of (take (i + 1) edges) ++ replicate left unused_parts
more-parts edges i left h =
    let front = map parts_of (take i edges) in
    let p : Parts = parts_of (get_or edges i no_edge) in
    let behind = replicate left unused_parts in
    let long : length front ≡ i = simp (length-map, length-take) (omega arith) in
    ap (λ n. set (front ++ unused_parts ∷ behind) n p) (sym long)
    ∙ set-append_seam front unused_parts behind p
    ∙ sym (append_assoc front (p ∷ []) behind)
    ∙ ap (λ (parts : List Parts). parts ++ behind) (sym (map_more parts_of edges i no_edge h))

pub loop-i-init : goal.loop-i-init
loop-i-init c = refl

pub loop-i-preserved : goal.loop-i-preserved
loop-i-preserved c =
    let left : ℕ = 256 - (c.loop-i.i + 1) in
    let one : 256 - c.loop-i.i ≡ suc left = omega arith in
    rw (c.from.ensures, c.loop-i.invariant, one) (more-parts c.args.edges.now c.loop-i.i left c.loop-i-test.true)
