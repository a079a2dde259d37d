-- The depth from a node is the greatest distance from it, below the number of nodes, and it hangs only on which links there are; the greatest from either rail;
-- and so many rounds add a node. Assumes nothing.
use Prim.Native.Nat.{ℕ, zero, suc, ◌+◌, ◌≤◌, ◌<◌, max}
use native.Mathlib.Nat.{eq-or-lt_of_le}
use native.Mathlib.Decide.{dec_le}
use native.Mathlib.Omega.{arith}
use mathlib.Core.Path.{◌≡◌, refl, sym, ap, ap₂, subst, ◌∙◌}
use mathlib.Core.Bool.{Bool, true, false, cond}
use mathlib.Core.Logic.{◌⊎◌, inl, inr, ⊎_elim, ◌↔◌}
use mathlib.Core.List.{List, [], ◌∷◌}
use lib.Dec.{T}
use Rattle.words.proofs.Sums.{sum_into, sum_ones}
use Rattle.switch.specs.Conduction.{Link, Among, LinkPath, Joined, here, forth, back, ground, supply}
use Rattle.switch.specs.Modules.{all_of, any_of}
use Rattle.switch.specs.Distances.{path_length, DistanceIs, IsRail, is_ground, is_supply, DistanceFrom, GreatestIs, LinksBelow}
use Rattle.switch.specs.Depth.{WithinLinks, is_among, next_nodes, nodes_within, all_joined_among, reaches_all, least_from, depth, deepest}
use Rattle.switch.specs.Statements.{OneGreatest, DepthIsDistance, RoundsAddNodes}
use Rattle.switch.proofs.Paths.{carried}
use Rattle.switch.proofs.Deciding.{same_test}
use Rattle.switch.proofs.Groups.{paths_alike}
use Rattle.switch.proofs.Reach.{to_next, from_next, either, or_else, holds, within_more, first-among, not-among-none, next_to, one_further, start_among, reaching, within_decides, AllWithin, reaches_decides}

-- ---- the nodes at one distance

-- a shortest path is as long where nothing is nearer
distance_is : {ws : List Link} {a m n : ℕ} → WithinLinks ws (suc n) a m → (WithinLinks ws n a m → ⊥) → DistanceIs ws a m (suc n)
distance_is {ws = ws} {a = a} {m = m} {n = n} w no-nearer = record { path = w.path; long = omega (arith, w.short, shortest w.path); shortest = shortest }
  where
    longer : (p : LinkPath ws a m) → Dec (path_length p ≤ n) → suc n ≤ path_length p
    longer p (yes h) = absurd (no-nearer (record { path = p; short = h }))
    longer p (no h) = omega (arith, h)

    shortest : (other : LinkPath ws a m) → suc n ≤ path_length other
    shortest other = longer other (dec_le (path_length other) n)

-- all joined nodes are within n links, or there is one just further away: next to those that are, or else they hand on nothing
pub all_or_further : (ws : List Link) (a n : ℕ) → AllWithin ws a n ⊎ DistanceFrom ws a (suc n)
all_or_further ws a n = by_next (next_nodes (nodes_within ws n a) ws) refl
  where
    near : List ℕ
    near = nodes_within ws n a

    by_next : (next : List ℕ) → next_nodes near ws ≡ next → AllWithin ws a n ⊎ DistanceFrom ws a (suc n)
    by_next [] e =
        inl
        (λ m p.
        reaching ws a n m
        (carried
        (λ (v : ℕ). T (is_among v near))
        (λ u v k t. holds (is_among v near) (λ is_new. none v (to_next near v u t is_new ws k)))
        (λ u v k t. holds (is_among u near) (λ is_new. none u (from_next near u v t is_new ws k)))
        p
        (start_among ws a n)))
      where
        none : (v : ℕ) → T (is_among v (next_nodes near ws)) → ⊥
        none v t = not-among-none v (subst (λ (next : List ℕ). T (is_among v next)) e t)
    by_next (m ∷ rest) e =
        let t : T (is_among m (next_nodes near ws)) = subst (λ (next : List ℕ). T (is_among m next)) (sym e) (first-among m rest) in
        let within : T (is_among m (nodes_within ws (suc n) a)) = rw (one_further ws a n m) (or_else (is_among m near) (is_among m (next_nodes near ws)) (λ no. t)) in
        inr (record {
          node = m;
          is = distance_is (reaching ws a (suc n) m within) (λ w. (next_to near m ws t).is_new ((within_decides ws n a m).0 w));
        })

-- on a shortest path there is a node at each lesser distance
one_nearer : {ws : List Link} {a m : ℕ} (d : ℕ) (p : LinkPath ws a m) → path_length p ≡ suc d
    → ((other : LinkPath ws a m) → suc d ≤ path_length other) → DistanceFrom ws a d
unfolding path_length
one_nearer d here e shortest = absurd (omega arith)
one_nearer d (forth {a = u} {b = v} k p) e shortest =
    record { node = u; is = record { path = p; long = omega arith; shortest = λ other. omega (arith, shortest (forth k other)) } }
one_nearer d (back {a = u} {b = v} k p) e shortest =
    record { node = v; is = record { path = p; long = omega arith; shortest = λ other. omega (arith, shortest (back k other)) } }

pub each_nearer : {ws : List Link} {a : ℕ} (d i : ℕ) → i ≤ d → DistanceFrom ws a d → DistanceFrom ws a i
each_nearer {ws = ws} {a = a} zero i h far = subst (DistanceFrom ws a) (omega arith) far
each_nearer {ws = ws} {a = a} (suc d) i h far =
    ⊎_elim
    (λ (e : i ≡ suc d). subst (DistanceFrom ws a) (sym e) far)
    (λ (l : i < suc d). each_nearer d i (omega arith) (one_nearer d far.is.path far.is.long far.is.shortest))
    (eq-or-lt_of_le h)

pub one_distance : {ws : List Link} {a m d e : ℕ} → DistanceIs ws a m d → DistanceIs ws a m e → d ≡ e
one_distance p q = omega (arith, p.shortest q.path, q.shortest p.path, p.long, q.long)

pub node-below : {ws : List Link} (n : ℕ) → LinksBelow n ws → {a m : ℕ} → a < n → Joined ws a m → m < n
node-below n below h p = carried (λ (v : ℕ). v < n) (λ u v k l. (below u v k).1) (λ u v k l. (below u v k).0) p h

-- what goes one to one into the numbers below n is no more than n
pub one-to-one : (m n : ℕ) (To : ℕ → ℕ → Type 0) → ((i : ℕ) → i < m → (j : ℕ) × (j < n) × To i j) → ((i k j : ℕ) → To i j → To k j → i ≡ k) → m ≤ n
one-to-one m n To goes one =
    let le = sum_into m n (λ (i : ℕ). 1) (λ (j : ℕ). 1) To (λ i. omega arith) (λ i h e. let g = goes i h in (g.0, g.1, refl, g.2)) one in
    omega (arith, le, sum_ones m, sum_ones n)

-- a node for each distance, so fewer distances than nodes
pub distance_below : (n : ℕ) (ws : List Link) → LinksBelow n ws → (a : ℕ) → a < n → (d : ℕ) → DistanceFrom ws a d → d < n
distance_below n ws below a h d far =
    one-to-one (suc d) n
    (λ (i j : ℕ). DistanceIs ws a j i)
    (λ i l. let there = each_nearer d i (omega arith) far in (there.node, node-below n below h there.is.path, there.is))
    (λ i k j. one_distance)

all-within-nodes : (n : ℕ) (ws : List Link) → LinksBelow (suc n) ws → (a : ℕ) → a < suc n → AllWithin ws a n
all-within-nodes n ws below a h =
    ⊎_elim
    (λ (all : AllWithin ws a n). all)
    (λ (far : DistanceFrom ws a (suc n)). absurd (omega (arith, distance_below (suc n) ws below a h (suc n) far)))
    (all_or_further ws a n)

-- ---- the least number that passes a test

module _ (test : ℕ → Bool) (k : ℕ) (passes : T (test k)) where
  not_yet : (n : ℕ) → n ≤ k → test n ≡ false → n < k
  not_yet n h e =
      ⊎_elim (λ (same : n ≡ k). absurd (subst T (ap test (sym same) ∙ e) passes)) (λ (l : n < k). l) (eq-or-lt_of_le h)

  least_at_most : (tries n : ℕ) → n ≤ k → least_from test tries n ≤ k
  unfolding least_from
  least_at_most zero n h = h
  least_at_most (suc tries) n h = at (test n) refl (least_at_most tries (suc n))
    where
      at : (b : Bool) → test n ≡ b → (n < k → least_from test tries (suc n) ≤ k) → cond b n (least_from test tries (suc n)) ≤ k
      at true e later = h
      at false e later = later (not_yet n h e)

  least_passes : (tries n : ℕ) → n ≤ k → k ≤ n + tries → T (test (least_from test tries n))
  unfolding least_from
  least_passes zero n h g = subst (λ (i : ℕ). T (test i)) (omega arith) passes
  least_passes (suc tries) n h g = at (test n) refl (λ l. least_passes tries (suc n) l (omega arith))
    where
      at : (b : Bool) → test n ≡ b → (n < k → T (test (least_from test tries (suc n)))) → T (test (cond b n (least_from test tries (suc n))))
      at true e later = subst T (sym e) tt
      at false e later = later (not_yet n h e)

least_cong : (test other : ℕ → Bool) → ((n : ℕ) → test n ≡ other n) → (tries n : ℕ) → least_from test tries n ≡ least_from other tries n
unfolding least_from
least_cong test other same zero n = refl
least_cong test other same (suc tries) n = rw (same n, least_cong test other same tries (suc n)) refl

-- ---- depth

pub depth-least : (ws : List Link) (a n : ℕ) → AllWithin ws a n → depth ws a ≤ n
unfolding depth
depth-least ws a n all = least_at_most (reaches_all ws a) n ((reaches_decides ws a n).1 all) 32 0 (omega arith)

pub depth-within : (ws : List Link) → LinksBelow 32 ws → (a : ℕ) → a < 32 → AllWithin ws a (depth ws a)
unfolding depth
depth-within ws below a h =
    (reaches_decides ws a (least_from (reaches_all ws a) 32 0)).0
    (least_passes (reaches_all ws a) 31 ((reaches_decides ws a 31).1 (all-within-nodes 31 ws below a h)) 32 0 (omega arith) (omega arith))

pub depth-none : (a : ℕ) → depth [] a ≡ 0
unfolding depth least_from reaches_all all_joined_among all_of
depth-none a = refl

depth_same : (ws others : List Link) → ((w : Link) → Among w ws ↔ Among w others) → (a : ℕ) → depth ws a ≡ depth others a
unfolding depth
depth_same ws others same a =
    least_cong (reaches_all ws a) (reaches_all others a)
    (λ n.
    same_test
    (reaches_all ws a n)
    (reaches_all others a n)
    (λ t. (reaches_decides others a n).1 (all_alike ws others (λ w. (same w).0) (λ w. (same w).1) n ((reaches_decides ws a n).0 t)))
    (λ t. (reaches_decides ws a n).1 (all_alike others ws (λ w. (same w).1) (λ w. (same w).0) n ((reaches_decides others a n).0 t))))
    32 0
  where
    all_alike : (us vs : List Link) → ((w : Link) → Among w us → Among w vs) → ((w : Link) → Among w vs → Among w us)
        → (n : ℕ) → AllWithin us a n → AllWithin vs a n
    all_alike us vs to of n all m p =
        let w = all m (paths_alike vs us of a m p).0 in
        let q = paths_alike us vs to a m w.path in
        record { path = q.0; short = omega (arith, w.short, q.1) }

-- no joined node is further away
depth-most : (ws : List Link) → LinksBelow 32 ws → (a : ℕ) → a < 32 → (d : ℕ) → DistanceFrom ws a d → d ≤ depth ws a
depth-most ws below a h d far =
    let w = depth-within ws below a h far.node far.is.path in
    omega (arith, w.short, far.is.shortest w.path)

-- and one is as far: less does not reach all
depth-attained : (ws : List Link) (a d : ℕ) → depth ws a ≡ d → (d ≡ 0) ⊎ DistanceFrom ws a d
depth-attained ws a zero e = inl refl
depth-attained ws a (suc n) e =
    ⊎_elim
    (λ (all : AllWithin ws a n). absurd (omega (arith, depth-least ws a n all)))
    (λ (far : DistanceFrom ws a (suc n)). inr far)
    (all_or_further ws a n)

depth_below : (n : ℕ) (ws : List Link) → LinksBelow n ws → (a : ℕ) → a < n → depth ws a < n
depth_below zero ws below a h = absurd (omega arith)
depth_below (suc n) ws below a h = omega (arith, depth-least ws a n (all-within-nodes n ws below a h))

pub depth_is_distance : DepthIsDistance
depth_is_distance = record {
  greatest = λ ws below a h. record { most = depth-most ws below a h; attained = depth-attained ws a (depth ws a) refl };
  below_nodes = depth_below;
  same_links = depth_same;
}

-- ---- the greatest of numbers

pub one_greatest : OneGreatest
one_greatest P d e g h = antisym (at_most d g.attained e h.most) (at_most e h.attained d g.most)
  where
    at_most : (x : ℕ) → (x ≡ 0) ⊎ P x → (y : ℕ) → ((z : ℕ) → P z → z ≤ y) → x ≤ y
    at_most x (inl z) y most = omega arith
    at_most x (inr p) y most = most x p

    antisym : d ≤ e → e ≤ d → d ≡ e
    antisym l m = omega arith

-- ---- from either rail

pub deepest-none : deepest [] ≡ 0
unfolding deepest
deepest-none = rw (depth-none supply, depth-none ground) refl

pub deepest-same : (ws others : List Link) → ((w : Link) → Among w ws ↔ Among w others) → deepest ws ≡ deepest others
unfolding deepest
deepest-same ws others same = ap₂ max (depth_same ws others same supply) (depth_same ws others same ground)

pub deepest-greatest : (ws : List Link) → LinksBelow 32 ws
    → GreatestIs (λ (d : ℕ). (rail : ℕ) × IsRail rail × DistanceFrom ws rail d) (deepest ws)
unfolding deepest
deepest-greatest ws below = record {
  most = λ e p. most e p.0 p.1 p.2;
  attained = attained (dec_le (depth ws supply) (depth ws ground)) (greatest supply (omega arith)).attained (greatest ground (omega arith)).attained;
}
  where
    greatest : (a : ℕ) → a < 32 → GreatestIs (DistanceFrom ws a) (depth ws a)
    greatest = depth_is_distance.greatest ws below

    Far : ℕ → Type 0
    Far d = (rail : ℕ) × IsRail rail × DistanceFrom ws rail d

    most : (e rail : ℕ) → IsRail rail → DistanceFrom ws rail e → e ≤ max (depth ws supply) (depth ws ground)
    most e rail is_ground far = omega (arith, (greatest ground (omega arith)).most e far)
    most e rail is_supply far = omega (arith, (greatest supply (omega arith)).most e far)

    attained : Dec (depth ws supply ≤ depth ws ground)
        → (depth ws supply ≡ 0) ⊎ DistanceFrom ws supply (depth ws supply)
        → (depth ws ground ≡ 0) ⊎ DistanceFrom ws ground (depth ws ground)
        → (max (depth ws supply) (depth ws ground) ≡ 0) ⊎ Far (max (depth ws supply) (depth ws ground))
    attained (yes h) s (inl z) = inl (omega arith)
    attained (yes h) s (inr far) = inr (subst Far (omega arith) (ground, is_ground, far))
    attained (no h) (inl z) g = inl (omega arith)
    attained (no h) (inr far) g = inr (subst Far (omega arith) (supply, is_supply, far))

-- ---- rounds that add a node

none-among : (l : List ℕ) → ((m : ℕ) → T (is_among m l) → ⊥) → l ≡ []
none-among [] none = refl
none-among (x ∷ xs) none = absurd (none x (first-among x xs))

module _ (ws : List Link) (a n : ℕ) where
  abbrev next : List ℕ
  next = next_nodes (nodes_within ws n a) ws

  -- where a round adds nothing, a link more reaches nothing more
  no_further : next ≡ [] → (m : ℕ) → WithinLinks ws (suc n) a m → WithinLinks ws n a m
  unfolding is_among any_of
  no_further none m w =
      let here : Bool = is_among m (nodes_within ws n a) in
      (within_decides ws n a m).1
      (⊎_elim
      (λ (u : T here). u)
      (λ (u : T (is_among m next)). absurd (not-among-none m (subst (λ (l : List ℕ). T (is_among m l)) none u)))
      (either here (is_among m next) (rw (one_further ws a n m) at ((within_decides ws (suc n) a m).0 w))))

  adds_none : next ≡ [] → depth ws a ≤ n
  adds_none none = ⊎_elim (depth-least ws a n) far (all_or_further ws a n)
    where
      far : DistanceFrom ws a (suc n) → depth ws a ≤ n
      far d =
          let m = d.node in
          let near = no_further none m (record { path = d.is.path; short = omega (arith, d.is.long) }) in
          absurd (omega (arith, d.is.shortest near.path, near.short))

  none_added : AllWithin ws a n → next ≡ []
  none_added all = none-among next (λ m t.
      let k = next_to (nodes_within ws n a) m ws t in
      let from = (within_decides ws n a k.from).1 k.is_from in
      let joined : Joined ws a m = ⊎_elim (λ u. forth u from.path) (λ u. back u from.path) k.tied in
      k.is_new ((within_decides ws n a m).0 (all m joined)))

pub rounds_add_nodes : RoundsAddNodes
rounds_add_nodes = record {
  adds = λ ws a n far none. omega (arith, adds_none ws a n none);
  adds_no_more = λ ws below a h n near. none_added ws a n (λ m p. within_more near (depth-within ws below a h m p));
}
