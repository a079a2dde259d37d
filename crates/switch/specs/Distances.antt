-- 02, "How many rounds joining takes": the distance of a joined node from its rail, in on edges along a shortest path, and the greatest of
-- such distances. What works it out is in Depth.
use Rattle.std.specs.Prelude.{ℕ, suc, ◌≤◌, ◌<◌, ◌≡◌, ◌⊎◌, List}
use Rattle.switch.specs.Conduction.{Link, Among, LinkPath, here, forth, back, ground, supply}

-- the number of links along a path
unfoldable pub path_length : {ws : List Link} {a b : ℕ} → LinkPath ws a b → ℕ
path_length here = 0
path_length (forth m p) = suc (path_length p)
path_length (back m p) = suc (path_length p)

-- a shortest path from a to b has d links
pub record DistanceIs (ws : List Link) (a b d : ℕ) : Type 0 where
  pub path : LinkPath ws a b
  pub long : path_length path ≡ d
  pub shortest : (other : LinkPath ws a b) → d ≤ path_length other

-- the rails. In an accepted type a node is joined to one of them or to none (`RailsApart`), and its rail is the one that it is joined to
pub data IsRail : ℕ → Type 0 where
  is_ground : IsRail ground
  is_supply : IsRail supply

-- d is the distance of some joined node from this rail. A rail is joined to itself, at distance 0
pub record DistanceFrom (ws : List Link) (rail d : ℕ) : Type 0 where
  pub node : ℕ
  pub is : DistanceIs ws rail node d

-- the greatest number of which P holds, and 0 where it holds of none
pub record GreatestIs (P : ℕ → Type 0) (d : ℕ) : Type 0 where
  pub most : (e : ℕ) → P e → e ≤ d
  pub attained : (d ≡ 0) ⊎ P d

-- links between nodes below n
abbrev pub LinksBelow : ℕ → List Link → Type 0
LinksBelow n ws = (a b : ℕ) → Among (a, b) ws → (a < n) × (b < n)
