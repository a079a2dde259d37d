-- How many rounds joining takes: what the joining step promises is the greatest distance over the positions that it handles together, since the links of a
-- type in range run between its nodes; and a distance from a rail is at most h - 1, since the other rail is never reached. Assumes nothing.
use Prim.Native.Nat.{ℕ, zero, suc, ◌-◌, ◌≤◌, ◌<◌}
use native.Mathlib.Omega.{arith}
use mathlib.Core.Path.{◌≡◌, refl, sym, ap, subst}
use mathlib.Core.Logic.{◌⊎◌, inl, inr}
use mathlib.Core.List.{List}
use lib.Dec.{T}
use lib.ListN.{get_or}
use Rattle.words.specs.Bits.{greatest_to}
use Rattle.words.specs.Each.{word_of_each}
use Rattle.words.proofs.Greatest.{greatest_part, greatest-attained}
use Rattle.switch.specs.Conduction.{by_position, Edge, channel_n, Switching, by_values, Link, links, Joined, ground, supply}
use Rattle.switch.specs.Modules.{ModuleType, type_in_range, edge_in_range, in_range, all_of, links_of}
use Rattle.switch.specs.Records.{by_planes}
use Rattle.switch.specs.Distances.{DistanceIs, IsRail, is_ground, is_supply, DistanceFrom, GreatestIs, LinksBelow}
use Rattle.switch.specs.Depth.{deepest}
use Rattle.switch.specs.Promises.{rounds_under, four_rounds}
use Rattle.switch.specs.Statements.{DistanceUnder, RoundsAreDistances, AtMostBelowHighest}
use Rattle.switch.proofs.Paths.{both, turned, edges_in_range_lem, OnAt, on_at}
use Rattle.switch.proofs.Deciding.{all_of_lem}
use Rattle.switch.proofs.Apart.{rails-apart}
use Rattle.switch.proofs.Ranges.{TypeRanges, type-ranges, EdgeRanges, edge_ranges}
use Rattle.switch.proofs.Depths.{each_nearer, one_distance, node-below, one-to-one, deepest-greatest}

-- ---- the links of a type in range

type_in_range_lem : (t : ModuleType) → T (in_range t) → TypeRanges t.highest t.output t.labels
unfolding in_range
type_in_range_lem t r =
    type-ranges t.highest t.output t.labels
    (both (type_in_range t.highest t.output t.labels) (all_of (edge_in_range t.highest t.labels) t.edges) r).0

pub links_below : (t : ModuleType) → T (in_range t) → (on : Switching) → LinksBelow (suc t.highest) (links on t.edges)
links_below t r on a b m =
    let none : Edge = record { first = 0; second = 0; channel = channel_n; label = 0; tag = by_position } in
    let at : OnAt on t.edges none (a, b) = on_at on none (a, b) t.edges m in
    let e : Edge = get_or t.edges at.place none in
    let ranges : EdgeRanges t.highest e =
    edge_ranges t.highest t.labels (type_in_range_lem t r).labels_high e
    ((all_of_lem (edge_in_range t.highest t.labels) none t.edges).0 (edges_in_range_lem t r) at.place at.within) in (
      omega (arith, ap (λ (w : Link). w.0) at.ends, ranges.first),
      omega (arith, ap (λ (w : Link). w.1) at.ends, ranges.second),
    )

pub links-below-all : (t : ModuleType) → T (in_range t) → (on : Switching) → LinksBelow 32 (links on t.edges)
links-below-all t r on a b m =
    let l = links_below t r on a b m in
    let h = (type_in_range_lem t r).highest in
    (omega (arith, l.0, h), omega (arith, l.1, h))

-- ---- the greatest over positions

-- of the greatest at each position, the greatest is the greatest at any
pub greatest_of : (n : ℕ) (f : ℕ → ℕ) (P : ℕ → ℕ → Type 0) → ((v : ℕ) → v < n → GreatestIs (P v) (f v))
    → GreatestIs (λ (d : ℕ). (v : ℕ) × (v < n) × P v d) (greatest_to n f)
greatest_of n f P each = record {
  most = λ e p. omega (arith, (each p.0 p.1).most e p.2, greatest_part n f p.0 p.1);
  attained = attained (greatest-attained n f);
}
  where
    Some : ℕ → Type 0
    Some d = (v : ℕ) × (v < n) × P v d

    at : (v : ℕ) → v < n → greatest_to n f ≡ f v → (f v ≡ 0) ⊎ P v (f v) → (greatest_to n f ≡ 0) ⊎ Some (greatest_to n f)
    at v h e (inl z) = inl (omega arith)
    at v h e (inr p) = inr (subst Some (sym e) (v, h, p))

    attained : (greatest_to n f ≡ 0) ⊎ ((v : ℕ) × (v < n) × (greatest_to n f ≡ f v)) → (greatest_to n f ≡ 0) ⊎ Some (greatest_to n f)
    attained (inl z) = inl z
    attained (inr (v, h, e)) = at v h e (each v h).attained

-- the same said of the same numbers
pub greatest-alike : (P Q : ℕ → Type 0) (d : ℕ) → ((e : ℕ) → P e → Q e) → ((e : ℕ) → Q e → P e) → GreatestIs P d → GreatestIs Q d
greatest-alike P Q d to of g = record { most = λ e q. g.most e (of e q); attained = attained g.attained }
  where
    attained : (d ≡ 0) ⊎ P d → (d ≡ 0) ⊎ Q d
    attained (inl z) = inl z
    attained (inr p) = inr (to d p)

module _ (t : ModuleType) (r : T (in_range t)) (ones zeros : List ℕ) where
  -- what word w of each plane switches on at a position
  abbrev at_position : ℕ → ℕ → List Link
  at_position w v = links (by_planes (word_of_each 4 w 12 ones) (word_of_each 4 w 12 zeros) v) t.edges

  abbrev Far : ℕ → ℕ → ℕ → Type 0
  Far w v d = (rail : ℕ) × IsRail rail × DistanceFrom (at_position w v) rail d

  over_positions : (w : ℕ)
      → GreatestIs (λ (d : ℕ). (v : ℕ) × (v < 64) × Far w v d) (rounds_under t (word_of_each 4 w 12 ones) (word_of_each 4 w 12 zeros))
  unfolding rounds_under
  over_positions w =
      greatest_of 64 (λ (v : ℕ). deepest (at_position w v)) (Far w) (λ v h. deepest-greatest (at_position w v) (links-below-all t r _))

  over_words : GreatestIs (λ (d : ℕ). (w : ℕ) × (w < 4) × ((v : ℕ) × (v < 64) × Far w v d)) (four_rounds t ones zeros)
  unfolding four_rounds
  over_words =
      greatest_of 4
      (λ (w : ℕ). rounds_under t (word_of_each 4 w 12 ones) (word_of_each 4 w 12 zeros))
      (λ (w d : ℕ). (v : ℕ) × (v < 64) × Far w v d)
      (λ w h. over_positions w)

pub rounds_are_distances : RoundsAreDistances
rounds_are_distances t r ones zeros =
    greatest-alike _ (DistanceUnder t ones zeros) (four_rounds t ones zeros)
    (λ d p. record {
      word = p.0;
      position = p.2.0;
      rail = p.2.2.0;
      is_word = p.1;
      is_position = p.2.1;
      is_rail = p.2.2.1;
      from = p.2.2.2;
    })
    (λ d u. (u.word, u.is_word, (u.position, u.is_position, (u.rail, u.is_rail, u.from))))
    (over_words t r ones zeros)

-- ---- below the highest node

-- a node that is never reached, and a node for each distance: no two of these places have the same node
module _ (ws : List Link) (a other : ℕ) (apart : Joined ws a other → ⊥) where
  Taken : ℕ → ℕ → Type 0
  Taken zero j = j ≡ other
  Taken (suc i) j = DistanceIs ws a j i

  taken_once : (i k j : ℕ) → Taken i j → Taken k j → i ≡ k
  unfolding Taken
  taken_once zero zero j p q = refl
  taken_once zero (suc k) j p q = absurd (apart (subst (Joined ws a) p q.path))
  taken_once (suc i) zero j p q = absurd (apart (subst (Joined ws a) q p.path))
  taken_once (suc i) (suc k) j p q = ap suc (one_distance p q)

  taking : (n : ℕ) → LinksBelow n ws → a < n → other < n → (d : ℕ) → DistanceFrom ws a d
      → (i : ℕ) → i < suc (suc d) → (j : ℕ) × (j < n) × Taken i j
  unfolding Taken
  taking n below h g d far zero l = (other, g, refl)
  taking n below h g d far (suc i) l =
      let there = each_nearer d i (omega arith) far in
      (there.node, node-below n below h there.is.path, there.is)

  two_fewer : (n : ℕ) → LinksBelow n ws → a < n → other < n → (d : ℕ) → DistanceFrom ws a d → suc (suc d) ≤ n
  two_fewer n below h g d far = one-to-one (suc (suc d)) n Taken (taking n below h g d far) taken_once

pub at_most_below_highest : AtMostBelowHighest
unfolding links_of
at_most_below_highest t acc values rail is_rail d far = from_rail rail is_rail far
  where
    ws : List Link
    ws = links_of t values

    below : LinksBelow (suc t.highest) ws
    below = links_below t acc.ranges (by_values values)

    apart : Joined ws supply ground → ⊥
    apart = rails-apart.rails t acc values

    ranges : TypeRanges t.highest t.output t.labels
    ranges = type_in_range_lem t acc.ranges

    two : 2 ≤ t.highest
    two = omega (arith, ranges.output_low, ranges.output_high)

    from_rail : (a : ℕ) → IsRail a → DistanceFrom ws a d → d ≤ t.highest - 1
    from_rail a is_ground f =
        omega (arith, two, two_fewer ws ground supply (λ p. apart (turned p)) (suc t.highest) below (omega (arith, two)) (omega (arith, two)) d f)
    from_rail a is_supply f =
        omega (arith, two, two_fewer ws supply ground apart (suc t.highest) below (omega (arith, two)) (omega (arith, two)) d f)
