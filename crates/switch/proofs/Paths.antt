-- Paths over links. Joined is an equivalence and grows with the links; one link more joins two nodes exactly where it ties together what was joined before;
-- and which links the edges of a type give: those of its on edges, by place, which hang only on the labels that the edges use. Assumes nothing.
use Prim.Native.Nat.{ℕ, zero, suc, ◌<◌, zero-le, suc-le-suc}
use native.Mathlib.Nat.{not-suc-le-zero, le_of_suc-le-suc}
use mathlib.Core.Path.{◌≡◌, refl, sym, ap, subst}
use mathlib.Core.Bool.{Bool, true, false, cond, ◌&&◌}
use mathlib.Core.Logic.{◌⊎◌, inl, inr, ◌↔◌}
use mathlib.Core.List.Memᴰ
use mathlib.Core.List.{List, [], ◌∷◌}
use lib.Dec.{T, leb, ltb, ltb→lt}
use lib.ListN.{length, get_or}
use Rattle.switch.specs.Conduction.{Value, by_position, Edge, Channel, channel_n, Link, Among, Joined, here, forth, back}
use Rattle.switch.specs.Conduction.{transistor_on, Switching, by_values, edge_on, links}
use Rattle.switch.specs.Modules.{ModuleType, all_of, type_in_range, edge_in_range, in_range, links_of}
use Rattle.switch.specs.Statements.{JoinedIsEquivalence, MoreLinks}

-- ---- an equivalence

pub through : {ws : List Link} {a b c : ℕ} → Joined ws a b → Joined ws b c → Joined ws a c
through p here = p
through p (forth m q) = forth m (through p q)
through p (back m q) = back m (through p q)

pub turned : {ws : List Link} {a b : ℕ} → Joined ws a b → Joined ws b a
turned here = here
turned (forth m p) = through (back m here) (turned p)
turned (back m p) = through (forth m here) (turned p)

pub joined_is_equivalence : JoinedIsEquivalence
joined_is_equivalence = record { itself = λ ws a. here; turned = λ ws a b p. turned p; through = λ ws a b c p q. through p q }

-- what every link hands on, either way, a path hands on
pub carried : {ws : List Link} (P : ℕ → Type 0) → ((u v : ℕ) → Among (u, v) ws → P u → P v) → ((u v : ℕ) → Among (u, v) ws → P v → P u)
    → {a b : ℕ} → Joined ws a b → P a → P b
carried P f g here x = x
carried P f g (forth {a = u} {b = v} m p) x = f u v m (carried P f g p x)
carried P f g (back {a = u} {b = v} m p) x = g u v m (carried P f g p x)

-- ---- more links

pub more-links : MoreLinks
more-links ws more f a b p = carried (Joined more a) (λ u v m. forth (f (u, v) m)) (λ u v m. back (f (u, v) m)) p here

-- joined over ws, or through the link (x, y) one way or the other
abbrev pub Linked : List Link → ℕ → ℕ → ℕ → ℕ → Type 0
Linked ws x y a b = Joined ws a b ⊎ ((Joined ws a x × Joined ws y b) ⊎ (Joined ws a y × Joined ws x b))

module _ {ws : List Link} {x y a : ℕ} where
  -- what is linked stays so along a path of ws, and over the link itself, either way
  linked_along : {u v : ℕ} → Joined ws u v → Linked ws x y a u → Linked ws x y a v
  linked_along q (inl p) = inl (through p q)
  linked_along q (inr (inl (p, r))) = inr (inl (p, through r q))
  linked_along q (inr (inr (p, r))) = inr (inr (p, through r q))

  linked_forth : Linked ws x y a x → Linked ws x y a y
  linked_forth (inl p) = inr (inl (p, here))
  linked_forth (inr (inl (p, r))) = inr (inl (p, here))
  linked_forth (inr (inr (p, r))) = inl p

  linked_back : Linked ws x y a y → Linked ws x y a x
  linked_back (inl p) = inr (inr (p, here))
  linked_back (inr (inl (p, r))) = inl p
  linked_back (inr (inr (p, r))) = inr (inr (p, here))

  -- one step over ws with the link, either way
  step_forth : {u v : ℕ} → ◌≡◌ {A = Link} (u, v) (x, y) ⊎ Among (u, v) ws → Linked ws x y a u → Linked ws x y a v
  step_forth (inl e) l =
      subst (Linked ws x y a) (sym (ap (λ (w : Link). w.1) e)) (linked_forth (subst (Linked ws x y a) (ap (λ (w : Link). w.0) e) l))
  step_forth (inr m) l = linked_along (forth m here) l

  step_back : {u v : ℕ} → ◌≡◌ {A = Link} (u, v) (x, y) ⊎ Among (u, v) ws → Linked ws x y a v → Linked ws x y a u
  step_back (inl e) l =
      subst (Linked ws x y a) (sym (ap (λ (w : Link). w.0) e)) (linked_back (subst (Linked ws x y a) (ap (λ (w : Link). w.1) e) l))
  step_back (inr m) l = linked_along (back m here) l

  linked : {b : ℕ} → Joined ((x, y) ∷ ws) a b → Linked ws x y a b
  linked p =
      carried (Linked ws x y a) (λ u v m. step_forth (Memᴰ.cases_cons m)) (λ u v m. step_back (Memᴰ.cases_cons m)) p (inl here)

pub one-link-more : (w : Link) (ws : List Link) (a b : ℕ) → Joined ws a b → Joined (w ∷ ws) a b
one-link-more w ws a b p = more-links ws (w ∷ ws) (λ u m. Memᴰ.tail m) a b p

of_linked : (ws : List Link) (x y a b : ℕ) → Linked ws x y a b → Joined ((x, y) ∷ ws) a b
of_linked ws x y a b (inl p) = one-link-more (x, y) ws a b p
of_linked ws x y a b (inr (inl (p, r))) =
    through (forth (Memᴰ.head refl) (one-link-more (x, y) ws a x p)) (one-link-more (x, y) ws y b r)
of_linked ws x y a b (inr (inr (p, r))) =
    through (back (Memᴰ.head refl) (one-link-more (x, y) ws a y p)) (one-link-more (x, y) ws x b r)

-- joined in w ∷ ws exactly when joined in ws, or through w one way or the other
pub one_more_lem : (ws : List Link) (x y a b : ℕ)
    → Joined ((x, y) ∷ ws) a b ↔ (Joined ws a b ⊎ ((Joined ws a x × Joined ws y b) ⊎ (Joined ws a y × Joined ws x b)))
one_more_lem ws x y a b = (linked, of_linked ws x y a b)

-- ---- the links of edges

-- w is the link of an edge of es that is on, the edge in place i
pub record OnAt (on : Switching) (es : List Edge) (d : Edge) (w : Link) : Type 0 where
  pub place : ℕ
  pub within : place < length es
  pub is_on : T (edge_on on (get_or es place d))
  pub ends : w ≡ ((get_or es place d).first, (get_or es place d).second)

module _ (on : Switching) (d : Edge) (w : Link) where
  later : (e : Edge) (es : List Edge) → OnAt on es d w → OnAt on (e ∷ es) d w
  later e es a = record { place = suc a.place; within = suc-le-suc a.within; is_on = a.is_on; ends = a.ends }

  on_at_cons : (e : Edge) (es : List Edge) (b : Bool) → edge_on on e ≡ b
      → (Among w (links on es) → OnAt on es d w)
      → Among w (cond b ((e.first, e.second) ∷ links on es) (links on es)) → OnAt on (e ∷ es) d w
  on_at_cons e es true q below m = first (Memᴰ.cases_cons m)
    where
      first : (w ≡ (e.first, e.second)) ⊎ Among w (links on es) → OnAt on (e ∷ es) d w
      first (inl p) = record { place = 0; within = suc-le-suc zero-le; is_on = subst T (sym q) tt; ends = p }
      first (inr n) = later e es (below n)
  on_at_cons e es false q below m = later e es (below m)

  -- every link is that of an on edge, by its place
  pub on_at : (es : List Edge) → Among w (links on es) → OnAt on es d w
  unfolding links
  on_at [] m = absurd (Memᴰ.not-nil m)
  on_at (e ∷ es) m = on_at_cons e es (edge_on on e) refl (on_at es) m

  among_head : (e : Edge) (ws : List Link) (b : Bool) → T b → w ≡ (e.first, e.second) → Among w (cond b ((e.first, e.second) ∷ ws) ws)
  among_head e ws true t p = Memᴰ.head p
  among_head e ws false t p = absurd t

  among_tail : (e : Edge) (ws : List Link) (b : Bool) → Among w ws → Among w (cond b ((e.first, e.second) ∷ ws) ws)
  among_tail e ws true m = Memᴰ.tail m
  among_tail e ws false m = m

  -- every on edge gives its link
  pub of_on_at : (es : List Edge) (i : ℕ) → i < length es → T (edge_on on (get_or es i d))
      → w ≡ ((get_or es i d).first, (get_or es i d).second) → Among w (links on es)
  unfolding links
  of_on_at [] i l t p = absurd (not-suc-le-zero l)
  of_on_at (e ∷ es) zero l t p = among_head e (links on es) (edge_on on e) t p
  of_on_at (e ∷ es) (suc i) l t p = among_tail e (links on es) (edge_on on e) (of_on_at es i (le_of_suc-le-suc l) t p)

pub links-among : (on : Switching) (es : List Edge) (d : Edge) (w : Link)
    → Among w (links on es) ↔ OnAt on es d w
links-among on es d w = (on_at on d w es, λ a. of_on_at on d w es a.place a.within a.is_on a.ends)

-- more on edges, more links
pub links-more : (on more : Switching) (es : List Edge)
    → ((e : Edge) → T (edge_on on e) → T (edge_on more e)) → (w : Link) → Among w (links on es) → Among w (links more es)
links-more on more es f w m =
    let none : Edge = record { first = 0; second = 0; channel = channel_n; label = 0; tag = by_position } in
    let a : OnAt on es none w = on_at on none w es m in
    of_on_at more none w es a.place a.within (f (get_or es a.place none) a.is_on) a.ends

-- ---- only the labels that edges use matter

pub both : (a b : Bool) → T (a && b) → T a × T b
both true b t = (tt, t)
both false b t = absurd t

module _ (k : ℕ) (on other : Switching) (agree : (ch : Channel) (l : ℕ) → l < k → on ch l ≡ other ch l) where
  edge_on_cong : (h : ℕ) (e : Edge) → T (edge_in_range h k e) → edge_on on e ≡ edge_on other e
  unfolding edge_on edge_in_range
  edge_on_cong h e t =
      agree e.channel e.label (ltb→lt e.label k (both (leb e.first h && leb e.second h) (ltb e.label k) t).1)

  pub links_cong : (h : ℕ) (es : List Edge) → T (all_of (edge_in_range h k) es) → links on es ≡ links other es
  unfolding links all_of
  links_cong h [] t = refl
  links_cong h (e ∷ es) t =
      let in_range_lem = both (edge_in_range h k e) (all_of (edge_in_range h k) es) t in
      rw (edge_on_cong h e in_range_lem.0, links_cong h es in_range_lem.1)

pub edges_in_range_lem : (t : ModuleType) → T (in_range t) → T (all_of (edge_in_range t.highest t.labels) t.edges)
unfolding in_range
edges_in_range_lem t r =
    (both (type_in_range t.highest t.output t.labels) (all_of (edge_in_range t.highest t.labels) t.edges) r).1

pub links_of_cong : (t : ModuleType) → T (in_range t) → (values others : ℕ → Value) → ((l : ℕ) → l < t.labels → values l ≡ others l)
    → links_of t values ≡ links_of t others
unfolding links_of
links_of_cong t r values others agree =
    links_cong t.labels (by_values values) (by_values others) (λ ch l h. ap (transistor_on ch) (agree l h)) t.highest t.edges (edges_in_range_lem t r)
