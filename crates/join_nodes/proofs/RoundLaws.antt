-- Rounds of joining, as lists of words: what a round adds to the words; after k rounds they tell which nodes paths of at most k links
-- reach; words that
-- a round leaves as they are tell which nodes are joined to the rail. Assumes nothing.
use Prim.Native.Nat.{ℕ, zero, suc, ◌-◌, ◌^◌, ◌≤◌, ◌<◌, zero-le, max}
use native.Mathlib.Nat.{not-suc-le-zero, le_of_suc-le-suc, eq-or-lt_of_le, le_refl, le-suc, le_trans, lt_of_le_of_lt}
use native.Mathlib.Decide.{ℕ_discrete}
use native.Mathlib.Omega.{arith}
use mathlib.Core.Path.{◌≡◌, refl, sym, ap, ◌∙◌}
use mathlib.Core.Bool.{Bool, true, false}
use mathlib.Core.Logic.{◌⊎◌, inl, inr, ⊎_elim}
use mathlib.Core.List.{List}
use lib.Bits.{bit_and, bit_or, and_le_l, or_lt}
use lib.Dec.{T}
use lib.ListN.{length, get_or, set, replicate, length-set, length-replicate}
use lib.Seq.{get_or-set_same, get_or-set_other, ext_get_or}
use Rattle.words.specs.Bits.{bit, of_bool, word}
use Rattle.words.proofs.Laws.{bit_le_one, bit-zero, bit_or_lem, bit_and_lem, bit-ones, bits_eq, word_of_bits}
use Rattle.words.proofs.Tables.{is-table}
use Rattle.switch.specs.Conduction.{Link, LinkPath, Joined, here, forth, back}
use Rattle.switch.specs.Distances.{path_length}
use Rattle.switch.specs.Depth.{WithinLinks}
use Rattle.switch.specs.Deciding.{joins}
use Rattle.switch.proofs.Paths.{turned, carried}
use Rattle.switch.proofs.Deciding.{joins_decides}
use Rattle.switch.proofs.Reach.{within-start, within-start-only, within_more, within-forth, within-back, AllWithin}
use Rattle.join_nodes.specs.Model.{no_parts, PartsFit, LinksAre, joined_words, added, round_to}
use Rattle.join_nodes.specs.declared.edges.Parts.{Parts}

-- the nodes of edges are 0 to 31
module _ {parts : List Parts} {nodes : ℕ} (fit : PartsFit parts nodes) (i : ℕ) (h : i < length parts) where
  pub first_in : (get_or parts i no_parts).first < 32
  first_in = omega (arith, fit.first i h, fit.few_nodes)

  pub second_in : (get_or parts i no_parts).second < 32
  second_in = omega (arith, fit.second i h, fit.few_nodes)

-- ---- a word added to one of the words

one_of_max : (x y : ℕ) → max x y ≡ 1 → (x ≡ 1) ⊎ (y ≡ 1)
one_of_max x y e = at (ℕ_discrete x 1)
  where
    at : Dec (x ≡ 1) → (x ≡ 1) ⊎ (y ≡ 1)
    at (yes p) = inl p
    at (no p) = inr (omega arith)

module _ (words : List ℕ) (m w : ℕ) (l : m < length words) where
  pub added_here : get_or (added words m w) m 0 ≡ bit_or (get_or words m 0) w
  unfolding added
  added_here = get_or-set_same words m (bit_or (get_or words m 0) w) 0 l

  -- a word is the one that w is added to, or is as it was
  added_at : (n : ℕ) → ((n ≡ m) × (get_or (added words m w) n 0 ≡ bit_or (get_or words n 0) w)) ⊎ (get_or (added words m w) n 0 ≡ get_or words n 0)
  unfolding added
  added_at n = at (ℕ_discrete n m)
    where
      at : Dec (n ≡ m) → ((n ≡ m) × (get_or (added words m w) n 0 ≡ bit_or (get_or words n 0) w)) ⊎ (get_or (added words m w) n 0 ≡ get_or words n 0)
      at (yes e) = inl (e, rw e added_here)
      at (no e) = inr (get_or-set_other words m n (bit_or (get_or words m 0) w) 0 e)

  pub added_fits : (k : ℕ) → ((n : ℕ) → get_or words n 0 < 2 ^ k) → w < 2 ^ k → (n : ℕ) → get_or (added words m w) n 0 < 2 ^ k
  added_fits k f h n = ⊎_elim (λ e. rw e.1 (or_lt k (get_or words n 0) w (f n) h)) (λ e. rw e (f n)) (added_at n)

  module _ (v : ℕ) where
    added_bit_grows : (n : ℕ) → bit (get_or words n 0) v ≤ bit (get_or (added words m w) n 0) v
    added_bit_grows n = ⊎_elim (λ e. rw (e.1, bit_or_lem) (omega arith)) (λ e. rw e (omega arith)) (added_at n)

    added_bit_here : bit w v ≤ bit (get_or (added words m w) m 0) v
    added_bit_here = rw (added_here, bit_or_lem) (omega arith)

    added_bit : (n : ℕ) → bit (get_or (added words m w) n 0) v ≡ 1 → (bit (get_or words n 0) v ≡ 1) ⊎ ((n ≡ m) × (bit w v ≡ 1))
    added_bit n h =
        ⊎_elim
        (λ e. ⊎_elim (λ x. inl x) (λ y. inr (e.0, y)) (one_of_max (bit (get_or words n 0) v) (bit w v) (rw (e.1, bit_or_lem) at h)))
        (λ e. inl (rw e at h))
        (added_at n)

-- ---- a round

-- from a to b along edge j, either way
data Along (parts : List Parts) (j : ℕ) : ℕ → ℕ → Type 0 where
  forward : Along parts j ((get_or parts j no_parts).first) ((get_or parts j no_parts).second)
  backward : Along parts j ((get_or parts j no_parts).second) ((get_or parts j no_parts).first)

of_ends : {parts : List Parts} {j a b : ℕ} → ◌≡◌ {A = Link} (a, b) ((get_or parts j no_parts).first, (get_or parts j no_parts).second)
    → Along parts j a b × Along parts j b a
of_ends e =
    let first = ap (λ (u : Link). u.0) e in
    let second = ap (λ (u : Link). u.1) e in
    (rw (first, second) forward, rw (first, second) backward)

-- what edge j hands on of node a's word
abbrev handed : (ℕ → ℕ) → List ℕ → ℕ → ℕ → ℕ
handed on old j a = bit_and (get_or old a 0) (on j)

-- the words after the first i edges, and what edge i hands back to its first node
abbrev half : List Parts → (ℕ → ℕ) → List ℕ → ℕ → List ℕ
half parts on old i = added (round_to parts on old i) ((get_or parts i no_parts).first) (handed on old i ((get_or parts i no_parts).second))

module _ (parts : List Parts) (on : ℕ → ℕ) (old : List ℕ) where
  round_length : (i : ℕ) → length (round_to parts on old i) ≡ length old
  unfolding round_to added
  round_length zero = refl
  round_length (suc i) = simp length-set (round_length i)

  module _ {nodes : ℕ} (fit : PartsFit parts nodes) (long : length old ≡ 32) where
    in_round : (i m : ℕ) → m < 32 → m < length (round_to parts on old i)
    in_round i m l = omega (arith, round_length i)

    in_half : (i m : ℕ) → m < 32 → m < length (half parts on old i)
    unfolding added
    in_half i m l = simp length-set (in_round i m l)

    -- what holds of the words before, and of words with what an edge hands on if it holds of them without, holds of the words after
    round_ind : (P : List ℕ → Type 0) → P old
        → ((j a b : ℕ) → j < length parts → Along parts j a b → (words : List ℕ) → b < length words → P words
        → P (added words b (handed on old j a)))
        → (i : ℕ) → i ≤ length parts → P (round_to parts on old i)
    unfolding round_to
    round_ind P start step zero h = start
    round_ind P start step (suc i) h =
        let a : ℕ = (get_or parts i no_parts).first in
        let b : ℕ = (get_or parts i no_parts).second in
        step i a b h forward (half parts on old i) (in_half i b (second_in fit i h))
        (step i b a h backward (round_to parts on old i) (in_round i a (first_in fit i h)) (round_ind P start step i (omega arith)))

    round_fits : ((n : ℕ) → get_or old n 0 < 2 ^ 64) → (n : ℕ) → get_or (round_to parts on old (length parts)) n 0 < 2 ^ 64
    round_fits f =
        round_ind (λ (words : List ℕ). (n : ℕ) → get_or words n 0 < 2 ^ 64) f
        (λ j a b l e words k p. added_fits words b (handed on old j a) k 64 p (lt_of_le_of_lt (and_le_l (get_or old a 0) (on j)) (f a)))
        (length parts) (le_refl (length parts))

    module _ (v : ℕ) where
      -- no node gets a bit but from a node that had it, along an edge that is on
      round_only : (Q : ℕ → Type 0) → ((n : ℕ) → bit (get_or old n 0) v ≡ 1 → Q n)
          → ((j a b : ℕ) → j < length parts → Along parts j a b → bit (on j) v ≡ 1 → bit (get_or old a 0) v ≡ 1 → Q b)
          → (n : ℕ) → bit (get_or (round_to parts on old (length parts)) n 0) v ≡ 1 → Q n
      round_only Q had along =
          round_ind (λ (words : List ℕ). (n : ℕ) → bit (get_or words n 0) v ≡ 1 → Q n) had
          (λ j a b l e words k p n h.
          ⊎_elim (p n) (λ q. got j a b l e n q) (added_bit words b (handed on old j a) k v n h))
          (length parts) (le_refl (length parts))
        where
          got : (j a b : ℕ) → j < length parts → Along parts j a b → (n : ℕ) → (n ≡ b) × (bit (handed on old j a) v ≡ 1) → Q n
          got j a b l e n q =
              let least = rw bit_and_lem at q.1 in
              let o : bit (on j) v ≡ 1 = omega (arith, bit_le_one (on j) v) in
              let h : bit (get_or old a 0) v ≡ 1 = omega (arith, bit_le_one (get_or old a 0) v) in
              rw q.0 (along j a b l e o h)

      round_keeps : (n : ℕ) → bit (get_or old n 0) v ≤ bit (get_or (round_to parts on old (length parts)) n 0) v
      round_keeps n =
          round_ind (λ (words : List ℕ). bit (get_or old n 0) v ≤ bit (get_or words n 0) v) (le_refl (bit (get_or old n 0) v))
          (λ j a b l e words k p. le_trans p (added_bit_grows words b (handed on old j a) k v n)) (length parts) (le_refl (length parts))

      -- the edge that was passed last hands on, and what the edges before handed on is kept
      hands_last : (i a b : ℕ) → i < length parts → Along parts i a b → bit (on i) v ≡ 1
          → bit (get_or old a 0) v ≤ bit (get_or (round_to parts on old (suc i)) b 0) v
      unfolding round_to
      hands_last i a b h forward o =
          omega (
            arith,
            bit_and_lem (get_or old a 0) (on i) v,
            bit_le_one (get_or old a 0) v,
            added_bit_here (half parts on old i) b (handed on old i a) (in_half i b (second_in fit i h)) v,
          )
      hands_last i a b h backward o =
          omega (
            arith,
            bit_and_lem (get_or old a 0) (on i) v,
            bit_le_one (get_or old a 0) v,
            added_bit_here (round_to parts on old i) b (handed on old i a) (in_round i b (first_in fit i h)) v,
            added_bit_grows (half parts on old i) a (handed on old i b) (in_half i a (second_in fit i h)) v b,
          )

      hands_kept : (i n : ℕ) → i < length parts
          → bit (get_or (round_to parts on old i) n 0) v ≤ bit (get_or (round_to parts on old (suc i)) n 0) v
      unfolding round_to
      hands_kept i n h =
          let a : ℕ = (get_or parts i no_parts).first in
          let b : ℕ = (get_or parts i no_parts).second in
          le_trans
          (added_bit_grows (round_to parts on old i) a (handed on old i b) (in_round i a (first_in fit i h)) v n)
          (added_bit_grows (half parts on old i) b (handed on old i a) (in_half i b (second_in fit i h)) v n)

      -- so every edge that is on hands on, either way
      round_hands : (i : ℕ) → i ≤ length parts → (j a b : ℕ) → j < i → Along parts j a b → bit (on j) v ≡ 1
          → bit (get_or old a 0) v ≤ bit (get_or (round_to parts on old i) b 0) v
      round_hands zero h j a b l e o = absurd (not-suc-le-zero l)
      round_hands (suc i) h j a b l e o =
          ⊎_elim
          (λ (q : j ≡ i). hands_last i a b h (rw q at e) (rw q at o))
          (λ (k : j < i). le_trans (round_hands i (omega arith) j a b k e o) (hands_kept i b h))
          (eq-or-lt_of_le (le_of_suc-le-suc l))

-- ---- rounds until one adds nothing

-- what holds of the words after k rounds: they are 32 words, and a node has a bit exactly where a path of at most k links joins it to the
-- rail
pub record Reached (ws : ℕ → List Link) (rail k : ℕ) (joined : List ℕ) : Type 0 where
  pub long : length joined ≡ 32
  pub fits : (m : ℕ) → get_or joined m 0 < 2 ^ 64
  pub only : (m v : ℕ) → v < 64 → bit (get_or joined m 0) v ≡ 1 → WithinLinks (ws v) k rail m
  pub all : (m v : ℕ) → v < 64 → WithinLinks (ws v) k rail m → bit (get_or joined m 0) v ≡ 1

-- where every joined node is within k links, one round more adds nothing
pub reached-same : {ws : ℕ → List Link} {rail k : ℕ} {joined more : List ℕ} → Reached ws rail k joined → Reached ws rail (suc k) more
    → ((v : ℕ) → v < 64 → AllWithin (ws v) rail k) → joined ≡ more
reached-same {k = k} {joined = joined} {more = more} r s far =
    ext_get_or 0 joined more (r.long ∙ sym s.long) (λ m _.
    bits_eq 64 (get_or joined m 0) (get_or more m 0) (r.fits m) (s.fits m) (λ v l.
    same_bit (bit_le_one (get_or joined m 0) v) (bit_le_one (get_or more m 0) v)
    (λ h. s.all m v l (within_more (le-suc k) (r.only m v l h)))
    (λ h. r.all m v l (far v l m (s.only m v l h).path))))
  where
    same_bit : {x y : ℕ} → x ≤ 1 → y ≤ 1 → (x ≡ 1 → y ≡ 1) → (y ≡ 1 → x ≡ 1) → x ≡ y
    same_bit {x} {y} h l f g = at (ℕ_discrete x 1) (ℕ_discrete y 1)
      where
        at : Dec (x ≡ 1) → Dec (y ≡ 1) → x ≡ y
        at (yes p) q = p ∙ sym (f p)
        at (no p) (yes q) = absurd (p (g q))
        at (no p) (no q) = omega arith

-- a bit that is 1 exactly when a test holds is the test's
pub decided : (x : ℕ) (b : Bool) → x ≤ 1 → (x ≡ 1 → T b) → (T b → x ≡ 1) → x ≡ of_bool b
decided x true h f g = g tt
decided x false h f g = at (ℕ_discrete x 1)
  where
    at : Dec (x ≡ 1) → x ≡ 0
    at (yes e) = absurd (f e)
    at (no e) = omega arith

pub zero-at : (n m : ℕ) → get_or {A = ℕ} (replicate n 0) m 0 ≡ 0
zero-at zero m = refl
zero-at (suc n) zero = refl
zero-at (suc n) (suc m) = zero-at n m

-- the words before the first round: every bit at the rail, and none at the other nodes
abbrev pub first_words : ℕ → List ℕ
first_words rail = set (replicate 32 0) rail (2 ^ 64 - 1)

module _ (rail : ℕ) (rail-in : rail < 32) where
  pub first_long : length (first_words rail) ≡ 32
  first_long = simp (length-set, length-replicate)

  pub first_whole : get_or (first_words rail) rail 0 ≡ 2 ^ 64 - 1
  first_whole = get_or-set_same (replicate 32 0) rail (2 ^ 64 - 1) 0 (simp length-replicate rail-in)

  first_at : (m : ℕ) → ((m ≡ rail) × (get_or (first_words rail) m 0 ≡ 2 ^ 64 - 1)) ⊎ (get_or (first_words rail) m 0 ≡ 0)
  first_at m = at (ℕ_discrete m rail)
    where
      at : Dec (m ≡ rail) → ((m ≡ rail) × (get_or (first_words rail) m 0 ≡ 2 ^ 64 - 1)) ⊎ (get_or (first_words rail) m 0 ≡ 0)
      at (yes e) = inl (e, rw e first_whole)
      at (no e) = inr (get_or-set_other (replicate 32 0) rail m (2 ^ 64 - 1) 0 e ∙ zero-at 32 m)

  pub reached_first : (ws : ℕ → List Link) → Reached ws rail 0 (first_words rail)
  reached_first ws = record {
    long = first_long;
    fits = λ m. ⊎_elim (λ e. omega (arith, e.1)) (λ e. omega arith) (first_at m);
    only = λ m v l h.
        ⊎_elim (λ e. rw e.0 within-start) (λ e. absurd (omega (arith, bit-zero v, ap (λ (w : ℕ). bit w v) e))) (first_at m);
    all = λ m v l w. rw (← within-start-only w, first_whole) (bit-ones 64 v l);
  }

module _ {parts : List Parts} {on : ℕ → ℕ} {nodes rail k : ℕ} {joined : List ℕ} {ws : ℕ → List Link}
    (fit : PartsFit parts nodes) (are : LinksAre parts on ws) (r : Reached ws rail k joined) where
  -- the words after a round
  abbrev after : List ℕ
  after = round_to parts on joined (length parts)

  module _ (v : ℕ) (l : v < 64) where
    along_within : (j a b : ℕ) → j < length parts → Along parts j a b → bit (on j) v ≡ 1
        → WithinLinks (ws v) k rail a → WithinLinks (ws v) (suc k) rail b
    along_within j a b h forward o = within-forth ((are v l (a, b)).1 (record { place = j; within = h; is_on = o; ends = refl }))
    along_within j a b h backward o = within-back ((are v l (b, a)).1 (record { place = j; within = h; is_on = o; ends = refl }))

    -- an edge that is on hands on what its end had before
    handed_over_lem : (j a b : ℕ) → j < length parts → Along parts j a b → bit (on j) v ≡ 1
        → bit (get_or joined a 0) v ≡ 1 → bit (get_or after b 0) v ≡ 1
    handed_over_lem j a b h e o p =
        omega (
          arith,
          bit_le_one (get_or after b 0) v,
          round_hands parts on joined fit r.long v (length parts)
              (le_refl (length parts)) j a b h e o,
        )

    -- so a path of one link more has its end's bit
    path_has : {m : ℕ} (p : LinkPath (ws v) rail m) → path_length p ≤ suc k → bit (get_or after m 0) v ≡ 1
    unfolding path_length
    path_has here h =
        omega (
          arith,
          bit_le_one (get_or after rail 0) v,
          r.all rail v l (within_more zero-le within-start),
          round_keeps parts on joined fit r.long v rail,
        )
    path_has (forth {a = a} {b = b} w p) h =
        let o = (are v l (a, b)).0 w in
        handed_over_lem o.place a b o.within (of_ends o.ends).0 o.is_on (r.all a v l (record { path = p; short = le_of_suc-le-suc h }))
    path_has (back {a = a} {b = b} w p) h =
        let o = (are v l (a, b)).0 w in
        handed_over_lem o.place b a o.within (of_ends o.ends).1 o.is_on (r.all b v l (record { path = p; short = le_of_suc-le-suc h }))

  -- a round reaches one link further
  pub reached_again : Reached ws rail (suc k) after
  reached_again = record {
    long = round_length parts on joined (length parts) ∙ r.long;
    fits = round_fits parts on joined fit r.long r.fits;
    only = λ m v l.
        round_only parts on joined fit r.long v (WithinLinks (ws v) (suc k) rail)
        (λ n q. within_more (le-suc k) (r.only n v l q)) (λ j a b h e o q. along_within v l j a b h e o (r.only a v l q)) m;
    all = λ m v l w. path_has v l w.path w.short;
  }

  module _ (same : joined ≡ after) (v : ℕ) (l : v < 64) where
    handed_on_lem : (j a b : ℕ) → j < length parts → Along parts j a b → bit (on j) v ≡ 1
        → bit (get_or joined a 0) v ≡ 1 → bit (get_or joined b 0) v ≡ 1
    handed_on_lem j a b h e o p = ap (λ (words : List ℕ). bit (get_or words b 0) v) same ∙ handed_over_lem v l j a b h e o p

    -- where a round adds nothing, every node that is joined to the rail has its bit
    joined_has : (m : ℕ) → Joined (ws v) rail m → bit (get_or joined m 0) v ≡ 1
    joined_has m p =
        carried (λ (n : ℕ). bit (get_or joined n 0) v ≡ 1)
        (λ a b w. let o = (are v l (a, b)).0 w in handed_on_lem o.place a b o.within (of_ends o.ends).0 o.is_on)
        (λ a b w. let o = (are v l (a, b)).0 w in handed_on_lem o.place b a o.within (of_ends o.ends).1 o.is_on)
        p (r.all rail v l (within_more zero-le within-start))

    -- and so it is within k links of the rail
    pub all_within : AllWithin (ws v) rail k
    all_within m p = r.only m v l (joined_has m p)

    joined_bit : (m : ℕ) → bit (get_or joined m 0) v ≡ of_bool (joins (ws v) m rail)
    joined_bit m =
        decided (bit (get_or joined m 0) v) (joins (ws v) m rail) (bit_le_one (get_or joined m 0) v)
        (λ e. (joins_decides (ws v) m rail).0 (turned (r.only m v l e).path))
        (λ t. joined_has m (turned ((joins_decides (ws v) m rail).1 t)))

  -- where a round adds nothing, the words are those that are asked
  pub reached_all : joined ≡ after → joined ≡ joined_words ws rail
  unfolding joined_words
  reached_all same =
      let bits : ℕ → ℕ → ℕ = λ (m v : ℕ). of_bool (joins (ws v) m rail) in
      is-table 0 32 (λ (m : ℕ). word (bits m)) joined r.long
      (λ m k. word_of_bits (get_or joined m 0) (bits m) (r.fits m) (λ v l. joined_bit same v l m))
