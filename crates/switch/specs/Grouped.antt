-- 01, "Conduction", as it was before 02, "No more grouped transistors": an edge of 1 to 4 parallel transistors with a label each, here
-- called a group. It is kept for the files of that time: that one edge for each label conducts as the group did is `GroupsLinkAlike`.
use Rattle.std.specs.Prelude.{ℕ, ◌≡◌, Bool, cond, ◌↔◌, List, [], ◌∷◌, ◌++◌}
use Rattle.switch.specs.Conduction.{Channel, Edge, edges_for, Switching, links, Link, Among, LinkPath}
use Rattle.switch.specs.Modules.{any_of}
use Rattle.switch.specs.Distances.{path_length}

-- two nodes, a channel, and the labels of the parallel transistors
pub record Group : Type 0 where
  pub first : ℕ
  pub second : ℕ
  pub channel : Channel
  pub labels : List ℕ

-- a group is on when at least one of its transistors is
unfoldable pub group_on : Switching → Group → Bool
group_on on g = any_of (on g.channel) g.labels

-- the links of the groups that are on
unfoldable pub group_links : Switching → List Group → List Link
group_links on [] = []
group_links on (g ∷ gs) = let rest = group_links on gs in cond (group_on on g) ((g.first, g.second) ∷ rest) rest

-- one edge for each label, in order
unfoldable pub of_groups : List Group → List Edge
of_groups [] = []
of_groups (g ∷ gs) = edges_for g.first g.second g.channel g.labels ++ of_groups gs

-- each path over the one has a path over the other, between the same nodes and as long
abbrev pub PathsAlike : List Link → List Link → Type 0
PathsAlike ws us = (a b : ℕ) (p : LinkPath ws a b) → (q : LinkPath us a b) × (path_length q ≡ path_length p)

-- groups and their edges give the same links, some of them more often. So beside whatever else is closed they join the same nodes, at the
-- same distance
pub record GroupsLinkAlike : Type 0 where
  pub same_links : (on : Switching) (gs : List Group) (w : Link) → Among w (group_links on gs) ↔ Among w (links on (of_groups gs))
  pub by_edges : (on : Switching) (gs : List Group) (closed : List Link)
      → PathsAlike (closed ++ group_links on gs) (closed ++ links on (of_groups gs))
  pub by_groups : (on : Switching) (gs : List Group) (closed : List Link)
      → PathsAlike (closed ++ links on (of_groups gs)) (closed ++ group_links on gs)
