-- A group of parallel transistors links what its transistors link, each as an edge of its own: the links are the same, some of them more often, so that
-- each path over the ones is a path over the others, as long (specs/Grouped). Assumes nothing.
use Prim.Native.Nat.{ℕ, suc}
use mathlib.Core.Path.{◌≡◌, refl, sym, subst, ap}
use mathlib.Core.Bool.{Bool, true, false, cond, ◌||◌}
use mathlib.Core.Logic.{◌⊎◌, inl, inr, ⊎_elim}
use mathlib.Core.List.Memᴰ
use mathlib.Core.List.{List, [], ◌∷◌, ◌++◌}
use lib.Dec.{T}
use Rattle.switch.specs.Conduction.{Channel, Edge, edges_for, Switching, edge_on, links, Link, Among, here, forth, back}
use Rattle.switch.specs.Grouped.{Group, group_on, group_links, of_groups, PathsAlike, GroupsLinkAlike}
use Rattle.switch.specs.Modules.{any_of}
use Rattle.switch.specs.Distances.{path_length}

module _ (on : Switching) where
  links_append : (xs ys : List Edge) → links on (xs ++ ys) ≡ links on xs ++ links on ys
  unfolding links
  links_append [] ys = refl
  links_append (x ∷ xs) ys = at (edge_on on x) (links_append xs ys)
    where
      at : (b : Bool) → links on (xs ++ ys) ≡ links on xs ++ links on ys
          → cond b ((x.first, x.second) ∷ links on (xs ++ ys)) (links on (xs ++ ys))
          ≡ cond b ((x.first, x.second) ∷ links on xs) (links on xs) ++ links on ys
      at true e = rw e
      at false e = e

  -- ---- one group

  module _ (a b : ℕ) (c : Channel) where
    abbrev link : Link
    link = (a, b)

    -- one transistor on gives the link
    some_on : (ls : List ℕ) → T (any_of (on c) ls) → Among link (links on (edges_for a b c ls))
    unfolding any_of edge_on links edges_for
    some_on [] t = absurd t
    some_on (l ∷ ls) t = at (on c l) (some_on ls) t
      where
        at : (x : Bool) → (T (any_of (on c) ls) → Among link (links on (edges_for a b c ls))) → T (x || any_of (on c) ls)
            → Among link (cond x (link ∷ links on (edges_for a b c ls)) (links on (edges_for a b c ls)))
        at true later u = Memᴰ.head refl
        at false later u = later u

    -- and only then, and no other link
    only_link : (w : Link) (ls : List ℕ) → Among w (links on (edges_for a b c ls)) → (w ≡ link) × T (any_of (on c) ls)
    unfolding any_of edge_on links edges_for
    only_link w [] m = absurd (Memᴰ.not-nil m)
    only_link w (l ∷ ls) m = at (on c l) (only_link w ls) m
      where
        at : (x : Bool) → (Among w (links on (edges_for a b c ls)) → (w ≡ link) × T (any_of (on c) ls))
            → Among w (cond x (link ∷ links on (edges_for a b c ls)) (links on (edges_for a b c ls))) → (w ≡ link) × T (x || any_of (on c) ls)
        at true later k = (⊎_elim (λ (p : w ≡ link). p) (λ (n : Among w (links on (edges_for a b c ls))). (later n).0) (Memᴰ.cases_cons k), tt)
        at false later k = later k

  -- ---- all groups

  abbrev alone : Group → List Link
  alone g = links on (edges_for g.first g.second g.channel g.labels)

  to_edges : (gs : List Group) (w : Link) → Among w (group_links on gs) → Among w (links on (of_groups gs))
  unfolding group_links group_on of_groups
  to_edges [] w m = absurd (Memᴰ.not-nil m)
  to_edges (g ∷ gs) w m =
      rw (links_append (edges_for g.first g.second g.channel g.labels) (of_groups gs))
      (at (any_of (on g.channel) g.labels) (some_on g.first g.second g.channel g.labels) (to_edges gs w) m)
    where
      at : (x : Bool) → (T x → Among (g.first, g.second) (alone g)) → (Among w (group_links on gs) → Among w (links on (of_groups gs)))
          → Among w (cond x ((g.first, g.second) ∷ group_links on gs) (group_links on gs)) → Among w (alone g ++ links on (of_groups gs))
      at true one later k =
          ⊎_elim (λ (p : w ≡ (g.first, g.second)). Memᴰ.append_left (links on (of_groups gs)) (subst (λ (u : Link). Among u (alone g)) (sym p) (one tt)))
          (λ (n : Among w (group_links on gs)). Memᴰ.append_right (alone g) (later n))
          (Memᴰ.cases_cons k)
      at false one later k = Memᴰ.append_right (alone g) (later k)

  of_edges_lem : (gs : List Group) (w : Link) → Among w (links on (of_groups gs)) → Among w (group_links on gs)
  unfolding group_links group_on of_groups links
  of_edges_lem [] w m = absurd (Memᴰ.not-nil m)
  of_edges_lem (g ∷ gs) w m =
      at (any_of (on g.channel) g.labels) (only_link g.first g.second g.channel w g.labels) (of_edges_lem gs w)
      (Memᴰ.append_cases (alone g) (rw (links_append (edges_for g.first g.second g.channel g.labels) (of_groups gs)) at m))
    where
      at : (x : Bool) → (Among w (alone g) → (w ≡ (g.first, g.second)) × T x) → (Among w (links on (of_groups gs)) → Among w (group_links on gs))
          → Among w (alone g) ⊎ Among w (links on (of_groups gs)) → Among w (cond x ((g.first, g.second) ∷ group_links on gs) (group_links on gs))
      at true one later (inl k) = Memᴰ.head (one k).0
      at false one later (inl k) = absurd (one k).1
      at true one later (inr k) = Memᴰ.tail (later k)
      at false one later (inr k) = later k

-- ---- paths

-- beside other links
pub beside : (closed ws us : List Link) → ((w : Link) → Among w ws → Among w us) → (w : Link) → Among w (closed ++ ws) → Among w (closed ++ us)
beside closed ws us kept w m =
    ⊎_elim (λ (k : Among w closed). Memᴰ.append_left us k) (λ (k : Among w ws). Memᴰ.append_right closed (kept w k)) (Memᴰ.append_cases closed m)

-- a path over links that stay is a path step by step
pub paths_alike : (ws us : List Link) → ((w : Link) → Among w ws → Among w us) → PathsAlike ws us
unfolding path_length
paths_alike ws us kept a b here = (here, refl)
paths_alike ws us kept a b (forth m p) = let q = paths_alike ws us kept a _ p in (forth (kept _ m) q.0, ap suc q.1)
paths_alike ws us kept a b (back m p) = let q = paths_alike ws us kept a _ p in (back (kept _ m) q.0, ap suc q.1)

pub groups_link_alike : GroupsLinkAlike
groups_link_alike = record {
  same_links = λ on gs w. (to_edges on gs w, of_edges_lem on gs w);
  by_edges = λ on gs closed. paths_alike _ _ (beside closed (group_links on gs) (links on (of_groups gs)) (to_edges on gs));
  by_groups = λ on gs closed. paths_alike _ _ (beside closed (links on (of_groups gs)) (group_links on gs) (of_edges_lem on gs));
}
