-- What works out the greatest distance of Distances: the nodes that paths of so many links reach, and the least number of links that
-- reach every joined node. That it is the greatest distance is `DepthIsDistance` (Statements): a reader of the meaning needs Distances and
-- that theorem alone.
use Rattle.std.specs.Prelude.{ℕ, zero, suc, ◌≤◌, max, Bool, cond, ◌&&◌, ◌||◌, not, List, [], ◌∷◌, ◌++◌, eqb}
use Rattle.switch.specs.Conduction.{Link, LinkPath, ground, supply}
use Rattle.switch.specs.Modules.{most_nodes, all_of, any_of}
use Rattle.switch.specs.Deciding.{joins}
use Rattle.switch.specs.Distances.{path_length}

unfoldable pub is_among : ℕ → List ℕ → Bool
is_among m nodes = any_of (eqb m) nodes

-- b, where a is among the nodes and b is not
unfoldable pub handed_over : List ℕ → ℕ → ℕ → List ℕ
handed_over nodes a b = cond (is_among a nodes && not (is_among b nodes)) (b ∷ []) []

-- the nodes one link away from some nodes, but for those themselves
unfoldable pub next_nodes : List ℕ → List Link → List ℕ
next_nodes nodes [] = []
next_nodes nodes (w ∷ ws) = handed_over nodes w.0 w.1 ++ handed_over nodes w.1 w.0 ++ next_nodes nodes ws

-- some path from a to b has at most n links
pub record WithinLinks (ws : List Link) (n a b : ℕ) : Type 0 where
  pub path : LinkPath ws a b
  pub short : path_length path ≤ n

-- the nodes that such a path reaches from a
unfoldable pub nodes_within : List Link → ℕ → ℕ → List ℕ
nodes_within ws zero a = a ∷ []
nodes_within ws (suc n) a = let nearer = nodes_within ws n a in nearer ++ next_nodes nearer ws

-- are all nodes that are joined to a among some nodes, a being one of them. All others of them are ends of links; of a link both ends are
-- joined to a, or none is, so one end is asked for
unfoldable pub all_joined_among : List Link → ℕ → List ℕ → Bool
all_joined_among ws a nodes = all_of (λ (w : Link). not (joins ws a w.0) || is_among w.0 nodes && is_among w.1 nodes) ws

-- do paths of at most n links reach all of them
unfoldable pub reaches_all : List Link → ℕ → ℕ → Bool
reaches_all ws a n = all_joined_among ws a (nodes_within ws n a)

-- the least number from n on that passes a test, looked for `tries` times; n + tries where none of these passes
unfoldable pub least_from : (ℕ → Bool) → ℕ → ℕ → ℕ
least_from test zero n = n
least_from test (suc tries) n = let later = least_from test tries (suc n) in cond (test n) n later

-- the greatest distance of a joined node from a, over links between nodes below 32
unfoldable pub depth : List Link → ℕ → ℕ
depth ws a = least_from (reaches_all ws a) most_nodes 0

-- from either rail
unfoldable pub deepest : List Link → ℕ
deepest ws = max (depth ws supply) (depth ws ground)
