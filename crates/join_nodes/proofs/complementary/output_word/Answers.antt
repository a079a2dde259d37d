-- `join_nodes::complementary::output_word` meets its contract: of what the rounds leave, one word each, it is the output's. Assumes
-- nothing.
use mathlib.Core.Path.{sym, ◌∙◌}
use mathlib.Core.List.{List}
use Prim.Native.Nat.{ℕ}
use native.Mathlib.Omega.{arith}
use lib.ListN.{get_or}
use Rattle.words.proofs.EachLaws.{one_each}
use Rattle.join_nodes.specs.Model.{OutputTold, WideJoined}
use Rattle.join_nodes.specs.declared.edges.Parts.{Parts}
use Rattle.join_nodes.proofs.complementary.output_word.Goals as goal

output-told : (parts : List Parts) (planes : List ℕ) (o rail : ℕ) (joined : List ℕ) (rounds : ℕ)
    → WideJoined parts planes 1 rail joined rounds
    → OutputTold parts planes o rail (get_or joined o 0)
output-told parts planes o rail joined rounds told ws are =
    rw (sym (one_each 32 joined told.long) ∙ told.each 0 (omega arith) ws are)

pub returns : goal.returns
returns c = output-told _ _ c.args.output c.args.rail _ _ c.join_rail.ensures
