-- How many rounds add a node: those that were made, as many as the greatest distance from the rail, over all words and their positions, so
-- fewer than there are nodes.
-- And lists of links that the promise on rounds can be asked of: those of the edges that are on. Assumes nothing.
use Prim.Native.Nat.{ℕ, zero, suc, ◌≤◌, ◌<◌, zero-le}
use native.Mathlib.Nat.{not-suc-le-zero, le_of_suc-le-suc, eq-or-lt_of_le, le_refl, le_trans, lt_of_not-le}
use native.Mathlib.Omega.{arith}
use mathlib.Core.Path.{◌≡◌, refl, sym, ap, ◌∙◌}
use mathlib.Core.Logic.{⊎_elim}
use mathlib.Core.List.Memᴰ
use mathlib.Core.List.{List, [], ◌∷◌}
use lib.ListN.{length, get_or}
use Rattle.words.specs.Bits.{bit, greatest_to}
use Rattle.words.proofs.Laws.{bit_le_one}
use Rattle.words.proofs.Greatest.{greatest_part, greatest-most}
use Rattle.switch.specs.Conduction.{Link, Among}
use Rattle.switch.specs.Distances.{LinksBelow}
use Rattle.switch.specs.Depth.{depth}
use Rattle.switch.proofs.Reach.{within_more}
use Rattle.switch.proofs.Depths.{depth-least, depth-within, depth_is_distance}
use Rattle.join_nodes.specs.Model.{no_parts, PartsFit, gate_word, LinksAre, WideJoined, wide_round, rail_alone, words_after}
use Rattle.join_nodes.specs.declared.edges.Parts.{Parts}
use Rattle.join_nodes.proofs.RoundLaws.{first_in, second_in}
use Rattle.join_nodes.proofs.WideRounds.{WideReached, wide_words, wide_within, wide_same}

-- ---- the links of the edges that are on

-- a link before others, if a bit is 1
with_link : ℕ → Link → List Link → List Link
with_link zero u ws = ws
with_link (suc b) u ws = u ∷ ws

-- the links of the first n edges that are on under vector v
on_links : List Parts → (ℕ → ℕ) → ℕ → ℕ → List Link
on_links parts on v zero = []
on_links parts on v (suc n)
    = with_link (bit (on n) v) ((get_or parts n no_parts).first, (get_or parts n no_parts).second) (on_links parts on v n)

-- u is the link of one of them
record OnBelow (parts : List Parts) (on : ℕ → ℕ) (v n : ℕ) (u : Link) : Type 0 where
  place : ℕ
  within : place < n
  is_on : bit (on place) v ≡ 1
  ends : u ≡ ((get_or parts place no_parts).first, (get_or parts place no_parts).second)

module _ (parts : List Parts) (on : ℕ → ℕ) (v : ℕ) (u : Link) where
  abbrev On : ℕ → Type 0
  On n = OnBelow parts on v n u

  abbrev up_to : ℕ → List Link
  up_to n = on_links parts on v n

  later : (n : ℕ) → On n → On (suc n)
  later n o = record { place = o.place; within = omega (arith, o.within); is_on = o.is_on; ends = o.ends }

  last_or_before : (n b : ℕ) → bit (on n) v ≡ b → (Among u (up_to n) → On n)
      → Among u (with_link b ((get_or parts n no_parts).first, (get_or parts n no_parts).second) (up_to n)) → On (suc n)
  unfolding with_link
  last_or_before n zero q before m = later n (before m)
  last_or_before n (suc b) q before m =
      ⊎_elim
      (λ e. record { place = n; within = le_refl (suc n); is_on = omega (arith, bit_le_one (on n) v); ends = e })
      (λ l. later n (before l))
      (Memᴰ.cases_cons m)

  among_on : (n : ℕ) → Among u (up_to n) → On n
  unfolding on_links
  among_on zero m = absurd (Memᴰ.not-nil m)
  among_on (suc n) m = last_or_before n (bit (on n) v) refl (among_on n) m

  among_first : (b : ℕ) (w : Link) (ws : List Link) → b ≡ 1 → u ≡ w → Among u (with_link b w ws)
  unfolding with_link
  among_first zero w ws o e = absurd (omega arith)
  among_first (suc b) w ws o e = Memᴰ.head e

  among_rest : (b : ℕ) (w : Link) (ws : List Link) → Among u ws → Among u (with_link b w ws)
  unfolding with_link
  among_rest zero w ws m = m
  among_rest (suc b) w ws m = Memᴰ.tail m

  on_among : (n i : ℕ) → i < n → bit (on i) v ≡ 1 → u ≡ ((get_or parts i no_parts).first, (get_or parts i no_parts).second)
      → Among u (up_to n)
  unfolding on_links
  on_among zero i l o e = absurd (not-suc-le-zero l)
  on_among (suc n) i l o e =
      ⊎_elim
      (λ (q : i ≡ n). among_first (bit (on n) v) ((get_or parts n no_parts).first, (get_or parts n no_parts).second) (up_to n) (rw q at o)
      (rw q at e))
      (λ (k : i < n). among_rest (bit (on n) v) ((get_or parts n no_parts).first, (get_or parts n no_parts).second) (up_to n)
      (on_among n i k o e))
      (eq-or-lt_of_le (le_of_suc-le-suc l))

on_links_are : (parts : List Parts) (on : ℕ → ℕ) → LinksAre parts on (λ (v : ℕ). on_links parts on v (length parts))
on_links_are parts on v h u = (
  λ m. let o = among_on parts on v u (length parts) m in record { place = o.place; within = o.within; is_on = o.is_on; ends = o.ends },
  λ o. on_among parts on v u (length parts) o.place o.within o.is_on o.ends,
)

-- ---- rounds and distances

-- the greatest distance from the rail, over all words and their positions
abbrev farthest : ℕ → ℕ → (ℕ → ℕ → List Link) → ℕ
farthest width rail ws = greatest_to width (λ (w : ℕ). greatest_to 64 (λ (v : ℕ). depth (ws w v) rail))

-- lists of just the links that are on, for each word
abbrev AllLinksAre : List Parts → List ℕ → ℕ → (ℕ → ℕ → List Link) → Type 0
AllLinksAre parts planes width ws =
    (w : ℕ) → w < width → LinksAre parts (gate_word width w parts planes) (ws w)

-- k is not above the greatest distance, over any such lists
pub record NotAbove (parts : List Parts) (planes : List ℕ) (width rail k : ℕ) : Type 0 where
  pub most : (ws : ℕ → ℕ → List Link) → AllLinksAre parts planes width ws → k ≤ farthest width rail ws

pub none_above : (parts : List Parts) (planes : List ℕ) (width rail : ℕ) → NotAbove parts planes width rail 0
none_above parts planes width rail = record { most = λ ws are. zero-le }

-- k rounds were made, and each of them added a node
pub record RoundsMade (parts : List Parts) (planes : List ℕ) (width rail k : ℕ) (joined : List ℕ) : Type 0 where
  pub after_rounds : joined ≡ words_after parts planes width rail k
  pub each_added : (r : ℕ) → r < k
      → words_after parts planes width rail (suc r) ≡ words_after parts planes width rail r → ⊥

pub none_made : (parts : List Parts) (planes : List ℕ) (width rail : ℕ)
    → RoundsMade parts planes width rail 0 (rail_alone width rail)
unfolding words_after
none_made parts planes width rail = record { after_rounds = refl; each_added = λ r l same. not-suc-le-zero l }

module _ {parts : List Parts} {planes : List ℕ} {width rail k : ℕ} {joined : List ℕ}
    (made : RoundsMade parts planes width rail k joined) where
  -- a round more is the round over these words
  after_these : wide_round parts planes width joined ≡ words_after parts planes width rail (suc k)
  unfolding words_after
  after_these = ap (λ (words : List ℕ). wide_round parts planes width words) made.after_rounds

  pub made_more : (joined ≡ wide_round parts planes width joined → ⊥)
      → RoundsMade parts planes width rail (suc k) (wide_round parts planes width joined)
  made_more apart = record {
    after_rounds = after_these;
    each_added = λ r l.
        ⊎_elim
        (λ (e : r ≡ k). rw e (λ same. apart (made.after_rounds ∙ sym (after_these ∙ same))))
        (made.each_added r)
        (eq-or-lt_of_le (le_of_suc-le-suc l));
  }

module _ {parts : List Parts} {nodes : ℕ} (fit : PartsFit parts nodes) where
  links_below : {on : ℕ → ℕ} {ws : ℕ → List Link} → LinksAre parts on ws → (v : ℕ) → v < 64 → LinksBelow 32 (ws v)
  links_below are v h a b m =
      let o = (are v h (a, b)).0 m in (
        omega (arith, ap (λ (u : Link). u.0) o.ends, first_in fit o.place o.within),
        omega (arith, ap (λ (u : Link). u.1) o.ends, second_in fit o.place o.within),
      )

  module _ {planes : List ℕ} {width rail k : ℕ} (rail-in : rail < 32) where
    -- no distance comes to as many as there are nodes
    pub below_nodes : NotAbove parts planes width rail k → k < 32
    below_nodes few =
        let ws : ℕ → ℕ → List Link = λ (w v : ℕ). on_links parts (gate_word width w parts planes) v (length parts) in
        let are : AllLinksAre parts planes width ws = λ w _. on_links_are parts (gate_word width w parts planes) in
        let bound : farthest width rail ws ≤ 31
        = greatest-most width (λ (w : ℕ). greatest_to 64 (λ (v : ℕ). depth (ws w v) rail)) 31 (λ w h.
        greatest-most 64 (λ (v : ℕ). depth (ws w v) rail) 31 (λ v l.
        le_of_suc-le-suc (depth_is_distance.below_nodes 32 (ws w v) (links_below (are w h) v l) rail rail-in))) in
        omega (arith, few.most ws are)

    module _ {joined : List ℕ} (r : WideReached parts planes width rail k joined) where
      abbrev after : List ℕ
      after = wide_round parts planes width joined

      -- a round that adds a node after k rounds adds one that is further away than k
      pub one_more_lem : (joined ≡ after → ⊥) → NotAbove parts planes width rail (suc k)
      one_more_lem apart = record {
        most = λ ws are.
            lt_of_not-le (λ (all : farthest width rail ws ≤ k).
            apart (wide_same fit r ws are (λ w h v l m p.
            let near : depth (ws w v) rail ≤ k
            = le_trans (greatest_part 64 (λ (x : ℕ). depth (ws w x) rail) v l)
            (le_trans (greatest_part width (λ (y : ℕ). greatest_to 64 (λ (x : ℕ). depth (ws y x) rail)) w h) all) in
            within_more near (depth-within (ws w v) (links_below (are w h) v l) rail rail-in m p))));
      }

      -- where a round adds nothing after k rounds that each added a node, k is the greatest distance
      pub wide_all : NotAbove parts planes width rail k → RoundsMade parts planes width rail k joined
          → joined ≡ after → WideJoined parts planes width rail joined k
      wide_all few made same = record {
        long = r.long;
        each = wide_words fit r same;
        after_rounds = made.after_rounds;
        each_added = made.each_added;
        then_nothing = sym (after_these made) ∙ sym same ∙ made.after_rounds;
        rounds_are = λ ws are.
            let bound : farthest width rail ws ≤ k
            = greatest-most width (λ (w : ℕ). greatest_to 64 (λ (v : ℕ). depth (ws w v) rail)) k (λ w h.
            greatest-most 64 (λ (v : ℕ). depth (ws w v) rail) k
            (λ v l. depth-least (ws w v) rail k (wide_within fit r same w h (ws w) (are w h) v l))) in
            omega (arith, few.most ws are);
      }
