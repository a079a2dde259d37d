-- Which nodes paths of at most so many links reach: those that specs/Depth lists. And when these are all joined nodes. Assumes nothing.
use Prim.Native.Nat.{ℕ, zero, suc, ◌≤◌}
use native.Mathlib.Omega.{arith}
use mathlib.Core.Path.{◌≡◌, refl, sym, ap, subst}
use mathlib.Core.Bool.{Bool, true, false, cond, ◌&&◌, ◌||◌, not}
use mathlib.Core.Logic.{◌⊎◌, inl, inr, ⊎_elim, ◌↔◌}
use mathlib.Core.List.Memᴰ
use mathlib.Core.List.{List, [], ◌∷◌, ◌++◌}
use lib.Dec.{T, eqb, eqb→eq, eqb_refl}
use Rattle.switch.specs.Conduction.{Link, Among, LinkPath, Joined, here, forth, back}
use Rattle.switch.specs.Modules.{all_of, any_of}
use Rattle.switch.specs.Deciding.{joins}
use Rattle.switch.specs.Distances.{path_length}
use Rattle.switch.specs.Depth.{WithinLinks, is_among, handed_over, next_nodes, nodes_within, all_joined_among, reaches_all}
use Rattle.switch.proofs.Paths.{carried, both}
use Rattle.switch.proofs.Deciding.{and_both, joins_decides}

-- ---- tests

pub either : (x y : Bool) → T (x || y) → T x ⊎ T y
either true y t = inl tt
either false y t = inr t

or_left : (x y : Bool) → T x → T (x || y)
or_left true y t = tt
or_left false y t = absurd t

-- the second is needed only where the first fails
pub or_else : (x y : Bool) → ((T x → ⊥) → T y) → T (x || y)
or_else true y f = tt
or_else false y f = f (λ t. t)

or_assoc : (x y z : Bool) → (x || (y || z)) ≡ ((x || y) || z)
or_assoc true y z = refl
or_assoc false y z = refl

pub holds : (x : Bool) → ((T x → ⊥) → ⊥) → T x
holds true f = tt
holds false f = f (λ t. t)

implied : (x y z : Bool) → T (not x || y && z) → T x → T y × T z
implied true y z t u = both y z t
implied false y z t u = absurd u

implying : (x y z : Bool) → (T x → T y × T z) → T (not x || y && z)
implying true y z f = let g = f tt in and_both y z g.0 g.1
implying false y z f = tt

-- a test of all links is one of each
of_all : (test : Link → Bool) (ws : List Link) → T (all_of test ws) → (w : Link) → Among w ws → T (test w)
unfolding all_of
of_all test [] t w m = absurd (Memᴰ.not-nil m)
of_all test (u ∷ ws) t w m =
    let parts = both (test u) (all_of test ws) t in
    ⊎_elim (λ (e : w ≡ u). rw e parts.0) (λ (k : Among w ws). of_all test ws parts.1 w k) (Memᴰ.cases_cons m)

all_if_each : (test : Link → Bool) (ws : List Link) → ((w : Link) → Among w ws → T (test w)) → T (all_of test ws)
unfolding all_of
all_if_each test [] f = tt
all_if_each test (u ∷ ws) f =
    and_both (test u) (all_of test ws) (f u (Memᴰ.head refl)) (all_if_each test ws (λ w m. f w (Memᴰ.tail m)))

-- ---- paths of at most so many links

pub within-start : {ws : List Link} {a : ℕ} → WithinLinks ws 0 a a
unfolding path_length
within-start = record { path = here; short = omega arith }

no_step : {ws : List Link} {a b : ℕ} (p : LinkPath ws a b) → path_length p ≤ 0 → a ≡ b
unfolding path_length
no_step here h = refl
no_step (forth m p) h = absurd (omega arith)
no_step (back m p) h = absurd (omega arith)

pub within-start-only : {ws : List Link} {a b : ℕ} → WithinLinks ws 0 a b → a ≡ b
within-start-only w = no_step w.path w.short

pub within_more : {ws : List Link} {n m a b : ℕ} → n ≤ m → WithinLinks ws n a b → WithinLinks ws m a b
within_more h w = record { path = w.path; short = omega (arith, w.short) }

-- one link more, either way along it
pub within-forth : {ws : List Link} {n a b c : ℕ} → Among (b, c) ws → WithinLinks ws n a b → WithinLinks ws (suc n) a c
unfolding path_length
within-forth m w = record { path = forth m w.path; short = omega (arith, w.short) }

pub within-back : {ws : List Link} {n a b c : ℕ} → Among (c, b) ws → WithinLinks ws n a b → WithinLinks ws (suc n) a c
unfolding path_length
within-back m w = record { path = back m w.path; short = omega (arith, w.short) }

-- ---- the nodes one link away

append-among : (m : ℕ) (xs ys : List ℕ) → is_among m (xs ++ ys) ≡ (is_among m xs || is_among m ys)
unfolding is_among any_of
append-among m [] ys = refl
append-among m (x ∷ xs) ys = rw (append-among m xs ys) (or_assoc (eqb m x) (is_among m xs) (is_among m ys))

alone : (m b : ℕ) → T (is_among m (b ∷ [])) → m ≡ b
unfolding is_among any_of
alone m b t = ⊎_elim (λ (u : T (eqb m b)). eqb→eq m b u) (λ (u : ⊥). absurd u) (either (eqb m b) false t)

pub first-among : (b : ℕ) (rest : List ℕ) → T (is_among b (b ∷ rest))
unfolding is_among any_of
first-among b rest = or_left (eqb b b) (is_among b rest) (eqb_refl b)

pub not-among-none : (m : ℕ) → T (is_among m []) → ⊥
unfolding is_among any_of
not-among-none m t = t

-- m is not among the nodes, and a link ties it to one of them
pub record NextTo (nodes : List ℕ) (ws : List Link) (m : ℕ) : Type 0 where
  pub from : ℕ
  pub is_from : T (is_among from nodes)
  pub tied : Among (from, m) ws ⊎ Among (m, from) ws
  pub is_new : T (is_among m nodes) → ⊥

module _ (nodes : List ℕ) (m : ℕ) where
  handed_at : (x y : Bool) (b : ℕ) → T (is_among m (cond (x && not y) (b ∷ []) [])) → (m ≡ b) × T x × (T y → ⊥)
  handed_at true true b t = absurd (not-among-none m t)
  handed_at true false b t = (alone m b t, tt, λ u. u)
  handed_at false y b t = absurd (not-among-none m t)

  handed : (a b : ℕ) → T (is_among m (handed_over nodes a b)) → (m ≡ b) × T (is_among a nodes) × (T (is_among b nodes) → ⊥)
  unfolding handed_over
  handed a b = handed_at (is_among a nodes) (is_among b nodes) b

  handing_at : (x y : Bool) → T x → (T y → ⊥) → T (is_among m (cond (x && not y) (m ∷ []) []))
  handing_at true true t n = absurd (n tt)
  handing_at true false t n = first-among m []
  handing_at false y t n = absurd t

  handing : (a : ℕ) → T (is_among a nodes) → (T (is_among m nodes) → ⊥) → T (is_among m (handed_over nodes a m))
  unfolding handed_over
  handing a = handing_at (is_among a nodes) (is_among m nodes)

  -- tied by the first link one way or the other, or by a later one
  first_or_later : (x y : ℕ) (ws : List Link)
      → is_among m (next_nodes nodes ((x, y) ∷ ws))
      ≡ ((is_among m (handed_over nodes x y) || is_among m (handed_over nodes y x)) || is_among m (next_nodes nodes ws))
  unfolding next_nodes
  first_or_later x y ws =
      rw (
        append-among m (handed_over nodes x y ++ handed_over nodes y x) (next_nodes nodes ws),
        append-among m (handed_over nodes x y) (handed_over nodes y x),
      ) refl

  next_later : (w : Link) (ws : List Link) → NextTo nodes ws m → NextTo nodes (w ∷ ws) m
  next_later w ws k =
      let tied = ⊎_elim (λ (u : Among (k.from, m) ws). inl (Memᴰ.tail u)) (λ (u : Among (m, k.from) ws). inr (Memᴰ.tail u)) k.tied in
      record { from = k.from; is_from = k.is_from; tied = tied; is_new = k.is_new }

  by_first : (x y : ℕ) (ws : List Link) → T (is_among m (handed_over nodes x y)) ⊎ T (is_among m (handed_over nodes y x)) → NextTo nodes ((x, y) ∷ ws) m
  by_first x y ws (inl t) =
      let h = handed x y t in
      record { from = x; is_from = h.1; tied = inl (Memᴰ.head (ap (λ (v : ℕ). (x, v)) h.0)); is_new = λ u. h.2 (rw (← h.0) u) }
  by_first x y ws (inr t) =
      let h = handed y x t in
      record { from = y; is_from = h.1; tied = inr (Memᴰ.head (ap (λ (v : ℕ). (v, y)) h.0)); is_new = λ u. h.2 (rw (← h.0) u) }

  pub next_to : (ws : List Link) → T (is_among m (next_nodes nodes ws)) → NextTo nodes ws m
  unfolding next_nodes
  next_to [] t = absurd (not-among-none m t)
  next_to ((x, y) ∷ ws) t =
      let ways : Bool = is_among m (handed_over nodes x y) || is_among m (handed_over nodes y x) in
      ⊎_elim
      (λ (u : T ways). by_first x y ws (either (is_among m (handed_over nodes x y)) (is_among m (handed_over nodes y x)) u))
      (λ (u : T (is_among m (next_nodes nodes ws))). next_later (x, y) ws (next_to ws u))
      (either ways (is_among m (next_nodes nodes ws)) (rw (first_or_later x y ws) at t))

  -- and what is next to the nodes is among the next ones: by a link to m, and by one from m
  module _ (from : ℕ) (is_from : T (is_among from nodes)) (is_new : T (is_among m nodes) → ⊥) where
    pub to_next : (ws : List Link) → Among (from, m) ws → T (is_among m (next_nodes nodes ws))
    to_next [] k = absurd (Memᴰ.not-nil k)
    to_next ((x, y) ∷ ws) k =
        let forwards : Bool = is_among m (handed_over nodes x y) in
        let backwards : Bool = is_among m (handed_over nodes y x) in
        let later : Bool = is_among m (next_nodes nodes ws) in
        rw (first_or_later x y ws)
        (⊎_elim
        (λ (e : ◌≡◌ {A = Link} (from, m) (x, y)).
        or_left (forwards || backwards) later
        (or_left forwards backwards
        (subst (λ (w : Link). T (is_among m (handed_over nodes w.0 w.1))) e (handing from is_from is_new))))
        (λ (u : Among (from, m) ws). or_else (forwards || backwards) later (λ none. to_next ws u))
        (Memᴰ.cases_cons k))

    pub from_next : (ws : List Link) → Among (m, from) ws → T (is_among m (next_nodes nodes ws))
    from_next [] k = absurd (Memᴰ.not-nil k)
    from_next ((x, y) ∷ ws) k =
        let forwards : Bool = is_among m (handed_over nodes x y) in
        let backwards : Bool = is_among m (handed_over nodes y x) in
        let later : Bool = is_among m (next_nodes nodes ws) in
        rw (first_or_later x y ws)
        (⊎_elim
        (λ (e : ◌≡◌ {A = Link} (m, from) (x, y)).
        or_left (forwards || backwards) later
        (or_else forwards backwards
        (λ none. subst (λ (w : Link). T (is_among m (handed_over nodes w.1 w.0))) e (handing from is_from is_new))))
        (λ (u : Among (m, from) ws). or_else (forwards || backwards) later (λ none. from_next ws u))
        (Memᴰ.cases_cons k))

-- ---- the nodes within so many links

module _ (ws : List Link) (a : ℕ) where
  -- one link more: reached by fewer, or next to what is
  pub one_further : (n m : ℕ)
      → is_among m (nodes_within ws (suc n) a) ≡ (is_among m (nodes_within ws n a) || is_among m (next_nodes (nodes_within ws n a) ws))
  unfolding nodes_within
  one_further n m = append-among m (nodes_within ws n a) (next_nodes (nodes_within ws n a) ws)

  pub start_among : (n : ℕ) → T (is_among a (nodes_within ws n a))
  unfolding nodes_within
  start_among zero = first-among a []
  start_among (suc n) =
      rw (one_further n a)
      (or_left (is_among a (nodes_within ws n a)) (is_among a (next_nodes (nodes_within ws n a) ws)) (start_among n))

  reached : (n : ℕ) {m : ℕ} (p : LinkPath ws a m) → path_length p ≤ n → T (is_among m (nodes_within ws n a))
  unfolding path_length
  reached n here h = start_among n
  reached zero (forth k p) h = absurd (omega arith)
  reached zero (back k p) h = absurd (omega arith)
  reached (suc n) (forth {a = u} {b = v} k p) h =
      let nodes : List ℕ = nodes_within ws n a in
      rw (one_further n v)
      (or_else (is_among v nodes) (is_among v (next_nodes nodes ws)) (λ is_new. to_next nodes v u (reached n p (omega arith)) is_new ws k))
  reached (suc n) (back {a = u} {b = v} k p) h =
      let nodes : List ℕ = nodes_within ws n a in
      rw (one_further n u)
      (or_else (is_among u nodes) (is_among u (next_nodes nodes ws)) (λ is_new. from_next nodes u v (reached n p (omega arith)) is_new ws k))

  pub reaching : (n m : ℕ) → T (is_among m (nodes_within ws n a)) → WithinLinks ws n a m
  unfolding nodes_within
  reaching zero m t = subst (WithinLinks ws 0 a) (sym (alone m a t)) within-start
  reaching (suc n) m t =
      ⊎_elim
      (λ (u : T (is_among m (nodes_within ws n a))). within_more (omega arith) (reaching n m u))
      (λ (u : T (is_among m (next_nodes (nodes_within ws n a) ws))).
      let k = next_to (nodes_within ws n a) m ws u in
      let nearer : WithinLinks ws n a k.from = reaching n k.from k.is_from in
      ⊎_elim (λ (e : Among (k.from, m) ws). within-forth e nearer) (λ (e : Among (m, k.from) ws). within-back e nearer) k.tied)
      (either (is_among m (nodes_within ws n a)) (is_among m (next_nodes (nodes_within ws n a) ws)) (rw (one_further n m) at t))

pub within_decides : (ws : List Link) (n a m : ℕ) → WithinLinks ws n a m ↔ T (is_among m (nodes_within ws n a))
within_decides ws n a m = (λ w. reached ws a n w.path w.short, reaching ws a n m)

-- ---- all joined nodes within so many links

abbrev pub AllWithin : List Link → ℕ → ℕ → Type 0
AllWithin ws a n = (m : ℕ) → Joined ws a m → WithinLinks ws n a m

module _ (ws : List Link) (a n : ℕ) where
  abbrev nodes : List ℕ
  nodes = nodes_within ws n a

  abbrev test : Link → Bool
  test w = not (joins ws a w.0) || is_among w.0 nodes && is_among w.1 nodes

  -- where the test passes, a link whose first end is joined has both ends within
  both_ends : T (reaches_all ws a n) → (u v : ℕ) → Among (u, v) ws → Joined ws a u → T (is_among u nodes) × T (is_among v nodes)
  unfolding reaches_all all_joined_among
  both_ends t u v k p =
      implied (joins ws a u) (is_among u nodes) (is_among v nodes) (of_all test ws t (u, v) k) ((joins_decides ws a u).0 p)

  all_reached : T (reaches_all ws a n) → AllWithin ws a n
  all_reached t m p =
      carried
      (WithinLinks ws n a)
      (λ u v k w. reaching ws a n v (both_ends t u v k w.path).1)
      (λ u v k w. reaching ws a n u (both_ends t u v k (back k w.path)).0)
      p
      (within_more (omega arith) within-start)

  reaches_them : AllWithin ws a n → T (reaches_all ws a n)
  unfolding reaches_all all_joined_among
  reaches_them all =
      all_if_each test ws
      (λ w k.
      implying (joins ws a w.0) (is_among w.0 nodes) (is_among w.1 nodes)
      (λ t.
      let p : Joined ws a w.0 = (joins_decides ws a w.0).1 t in
      ((within_decides ws n a w.0).0 (all w.0 p), (within_decides ws n a w.1).0 (all w.1 (forth k p)))))

pub reaches_decides : (ws : List Link) (a n : ℕ) → T (reaches_all ws a n) ↔ AllWithin ws a n
reaches_decides ws a n = (all_reached ws a n, reaches_them ws a n)
