-- `join_nodes::rounds::Network::joined_to` meets its contract. The loop's invariant: for each word of a node, a node has a bit exactly
-- where a path of at most
-- `rounds` links joins it to the rail (`WideReached`); `rounds` is not above the greatest distance (`NotAbove`); so many rounds were made,
-- and each
-- added a node (`RoundsMade`); `next` is as `joined`. The measure: what is left of 32 rounds. Assumes nothing.
use Rattle.std.proofs.Common.{ℕ, ◌*◌, ◌≡◌, List, ◌++◌, take, drop, Bool, true, false, ◌↔◌, arith, ap, sym, ◌∙◌, add-one}
use Rattle.std.proofs.lemmas.Bool.{false≢true}
use Rattle.join_nodes.specs.Model.{PartsFit, wide_round}
use Rattle.join_nodes.specs.declared.edges.Parts.{Parts}
use Rattle.join_nodes.proofs.WideRounds.{WideReached, wide_first, wide_again, settled_all, settled_same}
use Rattle.join_nodes.proofs.RoundCounts.{none_above, none_made, made_more, below_nodes, one_more_lem, wide_all}
use Rattle.join_nodes.proofs.rounds.Network.joined_to.Goals as goal

-- ---- a turn: its round leaves the words `next`, of which the first are taken over

module _ {parts : List Parts} {planes : List ℕ} {width nodes rail k : ℕ} {joined next : List ℕ} {told : Bool}
    (fit : PartsFit parts nodes) (r : WideReached parts planes width rail k joined) (is-after : next ≡ wide_round parts planes width joined)
    (tells : (told ≡ false) ↔ (take (width * nodes) next ≡ take (width * nodes) joined)) where
  unchanged : told ≡ false → joined ≡ wide_round parts planes width joined
  unchanged e = settled_same fit planes width joined r.long (sym (tells.0 e) ∙ ap (take (width * nodes)) is-after)

  changed : told ≡ true → joined ≡ wide_round parts planes width joined → ⊥
  changed e same = false≢true (sym (tells.1 (ap (take (width * nodes)) (is-after ∙ sym same))) ∙ e)

  taken_over : take (width * nodes) next ++ drop (width * nodes) joined ≡ wide_round parts planes width joined
  taken_over = rw is-after (settled_all fit planes width joined r.long)

-- ---- the goals

pub turns-init : goal.turns-init
turns-init g c =
    let network = c.args.self.now in
    let rail : ℕ = c.args.rail in
    let one = c.requires.joined_value.0 in (
      c.requires.joined_value.1 ∙ sym one,
      rw one (wide_first g.row.W rail c.requires.rail_lt_most_nodes network.edges.now network.planes.now),
      none_above network.edges.now network.planes.now g.row.W rail,
      rw one (none_made network.edges.now network.planes.now g.row.W rail),
    )

pub returns-then-not-settle : goal.returns-then-not-settle
returns-then-not-settle g c =
    let fit = c.args.self.now.fit in
    let inv = c.turns.invariant in
    let same = unchanged fit inv.1 c.round.ensures c.settle.ensures.tells c.if-not-settle.true in
    let after = c.settle.ensures.taken ∙ taken_over fit inv.1 c.round.ensures c.settle.ensures.tells in
    record {
      told = rw (after ∙ sym same) (wide_all fit c.requires.rail_lt_most_nodes inv.1 inv.2 inv.3 same);
      next_value = c.round.ensures ∙ sym after;
    }

pub overflow_add-rounds : goal.overflow_add-rounds
overflow_add-rounds g c = omega (arith, below_nodes c.args.self.now.fit c.requires.rail_lt_most_nodes c.turns.invariant.2)

pub turns-smaller : goal.turns-smaller
turns-smaller g c = omega (arith, below_nodes c.args.self.now.fit c.requires.rail_lt_most_nodes c.turns.invariant.2)

pub turns-preserved : goal.turns-preserved
turns-preserved g c =
    let fit = c.args.self.now.fit in
    let inv = c.turns.invariant in
    let after = c.settle.ensures.taken ∙ taken_over fit inv.1 c.round.ensures c.settle.ensures.tells in
    let apart = changed fit inv.1 c.round.ensures c.settle.ensures.tells c.if-not-settle.false in
    let further = one_more_lem fit c.requires.rail_lt_most_nodes inv.1 apart in (
      c.round.ensures ∙ sym after,
      rw (after, add-one) (wide_again fit inv.1),
      rw add-one further,
      rw (after, add-one)
          (made_more inv.3 apart),
    )
