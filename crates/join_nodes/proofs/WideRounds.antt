-- Rounds over nodes and gates that have some words each: word w of each node has the round of RoundLaws over word w of each gate, for no
-- place of one word
-- of a node is a place of another; so what holds of rounds over one word each holds here. And taking a round's words over. Assumes nothing.
use Prim.Native.Nat.{ℕ, zero, suc, ◌+◌, ◌-◌, ◌*◌, ◌^◌, ◌≤◌, ◌<◌}
use native.Mathlib.Nat.{mul-add, zero-add, le_refl, not-suc-le-zero, eq-or-lt_of_le, le_of_suc-le-suc, lt_of_le_of_lt}
use native.Mathlib.Decide.{ℕ_discrete, dec_lt}
use native.Mathlib.Omega.{arith}
use mathlib.Core.Path.{◌≡◌, refl, sym, ap, ap₂, ◌∙◌}
use mathlib.Core.Bool.{Bool, true, false, not, true≢false}
use lib.Dec.{T, eqb, eqb→eq}
use mathlib.Core.Logic.{◌⊎◌, inl, inr, ⊎_elim, ◌↔◌}
use mathlib.Core.List.{List, ◌++◌}
use lib.Bits.{bit_and, bit_or, bit_xor, and_le_l, and_le_r, xor_add_and, xor_self, or_zero_r}
use lib.ListN.{length, get_or, set, take, drop, replicate, length-drop, length-set, length-replicate, length-append, get_or-append}
use lib.ListN.{take-append-drop}
use Rattle.std.proofs.lemmas.List.{get_or-append_right, get_or-replicate, take-replicate, drop-replicate}
use lib.Seq.{take-suc, drop-cons, append_snoc, set_at, get_or_at, get_or-take, get_or-drop, take-take, length-take-le, get_or-set_other}
use lib.Seq.{ext_get_or}
use borrow.Rule.Slice.PartMut.{put_mid, same_len_mid}
use Rattle.words.specs.Each.{word_of_each}
use Rattle.words.proofs.Laws.{none_or}
use Rattle.words.proofs.Tables.{is-table, length-table}
use Rattle.words.proofs.EachLaws.{each-before, each_at, same-words}
use Rattle.switch.specs.Conduction.{Link}
use Rattle.join_nodes.specs.Model.{no_parts, PartsFit, gate_word, LinksAre, joined_words, added, round_to, handed_to, wide_round_to}
use Rattle.join_nodes.specs.Model.{wide_round, rail_alone}
use Rattle.join_nodes.specs.declared.edges.Parts.{Parts}
use Rattle.switch.proofs.Reach.{AllWithin}
use Rattle.join_nodes.proofs.RoundLaws.{
  first_in,
  second_in,
  added_here,
  added_fits,
  Reached,
  first_words,
  zero-at,
  first_long,
  first_whole,
  reached_first,
  reached_again,
  reached-same,
  reached_all,
  all_within,
}

-- ---- taking a round's words over

-- words whose difference is none do not differ
xor_none : (a b : ℕ) → bit_xor a b ≡ 0 → a ≡ b
xor_none a b e = omega (arith, xor_add_and a b, and_le_l a b, and_le_r a b)

-- the first n of a round's words are taken over, and `differ` is 0 exactly when they are as they were
pub record TakenTo (before next : List ℕ) (n : ℕ) (words : List ℕ) (differ : ℕ) : Type 0 where
  pub taken : words ≡ take n next ++ drop n before
  pub tells : (differ ≡ 0) ↔ (take n next ≡ take n before)

pub settled-none : (before next : List ℕ) → TakenTo before next 0 before 0
settled-none before next = record { taken = refl; tells = (λ _. refl, λ _. refl) }

module _ {before next words : List ℕ} {n differ : ℕ} (h : n < length before) (k : n < length next)
    (s : TakenTo before next n words differ) where
  -- the word that comes next is as it was
  settled_at : get_or words n 0 ≡ get_or before n 0
  settled_at =
      ap (λ (l : List ℕ). get_or l n 0) (s.taken ∙ ap (λ (l : List ℕ). take n next ++ l) (drop-cons before n 0 h))
      ∙ get_or_at (take n next) (get_or before n 0) (drop (suc n) before) 0 n (length-take-le n next (omega arith))

  taken_more : set words n (get_or next n 0) ≡ take (suc n) next ++ drop (suc n) before
  taken_more =
      ap (λ (l : List ℕ). set l n (get_or next n 0)) (s.taken ∙ ap (λ (l : List ℕ). take n next ++ l) (drop-cons before n 0 h))
      ∙ set_at (take n next) (get_or before n 0) (drop (suc n) before) (get_or next n 0) n (length-take-le n next (omega arith))
      ∙ rw (take-suc next n 0 k, append_snoc)

  tells_same : bit_or differ (bit_xor (get_or next n 0) (get_or words n 0)) ≡ 0 → take (suc n) next ≡ take (suc n) before
  tells_same e =
      let parts = none_or differ (bit_xor (get_or next n 0) (get_or words n 0)) e in
      let head : get_or next n 0 ≡ get_or before n 0 = xor_none (get_or next n 0) (get_or words n 0) parts.1 ∙ settled_at in
      rw (take-suc next n 0 k, take-suc before n 0 h, head, s.tells.0 parts.0)

  same_word : take (suc n) next ≡ take (suc n) before → (i : ℕ) → i < suc n → get_or next i 0 ≡ get_or before i 0
  same_word e i l = sym (get_or-take (suc n) next i 0 l) ∙ ap (λ (x : List ℕ). get_or x i 0) e ∙ get_or-take (suc n) before i 0 l

  same_tells : take (suc n) next ≡ take (suc n) before → bit_or differ (bit_xor (get_or next n 0) (get_or words n 0)) ≡ 0
  same_tells e =
      let less : take n next ≡ take n before = sym (take-take n (suc n) next (omega arith)) ∙ ap (take n) e ∙ take-take n (suc n) before (omega arith) in
      let word : get_or words n 0 ≡ get_or next n 0 = settled_at ∙ sym (same_word e n (omega arith)) in
      rw (word, xor_self, or_zero_r) (s.tells.1 less)

  pub settled_more : TakenTo before next (suc n) (set words n (get_or next n 0))
      (bit_or differ (bit_xor (get_or next n 0) (get_or words n 0)))
  settled_more = record { taken = taken_more; tells = (tells_same, same_tells) }

-- so they are told to have changed exactly when it is not
pub changed_lem : {before next words : List ℕ} {n differ : ℕ} → TakenTo before next n words differ
    → (not (eqb differ 0) ≡ false) ↔ (take n next ≡ take n before)
changed_lem {before} {next} {n = n} {differ = differ} s = at (eqb differ 0) (eqb→eq differ 0) (λ e. rw e tt)
  where
    at : (b : Bool) → (T b → differ ≡ 0) → (differ ≡ 0 → T b) → (not b ≡ false) ↔ (take n next ≡ take n before)
    at true f g = (λ _. s.tells.0 (f tt), λ _. refl)
    at false f g = (λ e. absurd (true≢false e), λ e. absurd (g (s.tells.1 e)))

-- ---- places

-- word w of one thing is not among the words of another
place-apart : (width w m n : ℕ) → w < width → (m ≡ n → ⊥) → (width * m + w < width * n) ⊎ (width * n + width ≤ width * m + w)
place-apart width w m n k apart = ⊎_elim (λ h. inl (omega (arith, each-before width m n h))) (λ h. inr (omega (arith, each-before width n m h))) (at (dec_lt m n))
  where
    at : Dec (m < n) → (m < n) ⊎ (n < m)
    at (yes h) = inl h
    at (no h) = inr (omega arith)

-- a place that is not among some words is not the last of them, nor among the others
away_less : (to n i : ℕ) → (i < to) ⊎ (to + suc n ≤ i) → (i ≡ to + n → ⊥) × ((i < to) ⊎ (to + n ≤ i))
away_less to n i away =
    (λ e. ⊎_elim (λ h. omega arith) (λ h. omega arith) away, ⊎_elim (λ h. inl h) (λ h. inr (omega arith)) away)

-- ---- the words of one thing handed on

module _ (planes : List ℕ) (at : ℕ) (joined : List ℕ) (from : ℕ) (next : List ℕ) (to : ℕ) where
  pub handed_length : (w : ℕ) → length (handed_to planes at joined from next to w) ≡ length next
  unfolding handed_to added
  handed_length zero = refl
  handed_length (suc w) = simp length-set (handed_length w)

  -- the words elsewhere are as they were
  handed_elsewhere : (w i : ℕ) → (i < to) ⊎ (to + w ≤ i) → get_or (handed_to planes at joined from next to w) i 0 ≡ get_or next i 0
  unfolding handed_to added
  handed_elsewhere zero i away = refl
  handed_elsewhere (suc w) i away =
      let less = away_less to w i away in get_or-set_other (handed_to planes at joined from next to w) (to + w) i _ 0 less.0 ∙ handed_elsewhere w i less.1

  module _ (width : ℕ) (room : to + width ≤ length next) where
    in_handed : (w : ℕ) → w < width → to + w < length (handed_to planes at joined from next to w)
    in_handed w h = omega (arith, handed_length w)

    handed_here : (n w : ℕ) → n ≤ width → w < n
        → get_or (handed_to planes at joined from next to n) (to + w) 0 ≡ bit_or (get_or next (to + w) 0) (bit_and (get_or joined (from + w) 0) (get_or planes (at + w) 0))
    unfolding handed_to added
    handed_here zero w h l = absurd (not-suc-le-zero l)
    handed_here (suc n) w h l =
        ⊎_elim
        (λ (e : w ≡ n).
        rw e (added_here (handed_to planes at joined from next to n) (to + n) _ (in_handed n h) ∙ rw (handed_elsewhere n (to + n) (inr (le_refl (to + n))))))
        (λ (k : w < n).
        get_or-set_other (handed_to planes at joined from next to n) (to + n) (to + w) _ 0 (λ e. omega arith) ∙ handed_here n w (omega arith) k)
        (eq-or-lt_of_le (le_of_suc-le-suc l))

    handed_fits : ((i : ℕ) → get_or joined i 0 < 2 ^ 64) → ((i : ℕ) → get_or next i 0 < 2 ^ 64) → (n : ℕ) → n ≤ width
        → (i : ℕ) → get_or (handed_to planes at joined from next to n) i 0 < 2 ^ 64
    unfolding handed_to
    handed_fits f g zero h = g
    handed_fits f g (suc n) h =
        added_fits (handed_to planes at joined from next to n) (to + n) _ (in_handed n h) 64 (handed_fits f g n (omega arith))
        (lt_of_le_of_lt (and_le_l (get_or joined (from + n) 0) (get_or planes (at + n) 0)) (f (from + n)))

-- the words of a slice
pub cut_at : (words : List ℕ) (place : ℕ) {k width w : ℕ} → k ≡ width → w < width
    → get_or (take k (drop place words)) w 0 ≡ get_or words (place + w) 0
cut_at words place {k} {width} {w} few h = get_or-take k (drop place words) w 0 (omega arith) ∙ get_or-drop place words w 0

-- handed on within slices of the lists, and put back, is handed on in the lists
module _ (planes : List ℕ) (at : ℕ) (joined : List ℕ) (from : ℕ) (next : List ℕ) (to width k : ℕ) (plane handed : List ℕ)
    (few : k ≡ width) (room : to + width ≤ length next)
    (plane_is : (w : ℕ) → w < width → get_or plane w 0 ≡ get_or planes (at + w) 0)
    (handed_is : (w : ℕ) → w < width → get_or handed w 0 ≡ get_or joined (from + w) 0) where
  cut_long : length (take k (drop to next)) ≡ width
  cut_long = length-take-le k (drop to next) (simp length-drop (omega arith)) ∙ few

  front_long : length (take to next) ≡ to
  front_long = length-take-le to next (omega arith)

  abbrev within : List ℕ
  within = handed_to plane 0 handed 0 (take k (drop to next)) 0 width

  within_long : length within ≡ width
  within_long = handed_length plane 0 handed 0 (take k (drop to next)) 0 width ∙ cut_long

  put_at : (i : ℕ) → Dec (i < to) → Dec (i < to + width)
      → get_or (put_mid to k next within) i 0 ≡ get_or (handed_to planes at joined from next to width) i 0
  put_at i (yes h) l =
      get_or-append (take to next) (within ++ drop k (drop to next)) 0 i (omega (arith, front_long))
      ∙ get_or-take to next i 0 h ∙ sym (handed_elsewhere planes at joined from next to width i (inl h))
  put_at i (no h) (yes l) =
      let w : ℕ = i - to in
      let m : w < width = omega arith in
      let whole : to + w ≡ i = omega arith in
      let start : 0 + w ≡ w = zero-add w in
      let here = handed_here plane 0 handed 0 (take k (drop to next)) 0 width (omega (arith, cut_long)) width w (le_refl width) m in
      let there = handed_here planes at joined from next to width room width w (le_refl width) m in
      get_or-append_right (take to next) (within ++ drop k (drop to next)) to i 0 front_long (omega arith)
      ∙ get_or-append within (drop k (drop to next)) 0 w (omega (arith, within_long))
      ∙ (rw (start, cut_at next to few m, handed_is w m, plane_is w m) at here)
      ∙ sym there ∙ ap (λ (n : ℕ). get_or (handed_to planes at joined from next to width) n 0) whole
  put_at i (no h) (no l) =
      let whole : to + (k + (i - to - width)) ≡ i = omega arith in
      get_or-append_right (take to next) (within ++ drop k (drop to next)) to i 0 front_long (omega arith)
      ∙ get_or-append_right within (drop k (drop to next)) width (i - to) 0 within_long (omega arith)
      ∙ get_or-drop k (drop to next) (i - to - width) 0 ∙ get_or-drop to next (k + (i - to - width)) 0
      ∙ ap (λ (n : ℕ). get_or next n 0) whole
      ∙ sym (handed_elsewhere planes at joined from next to width i (inr (omega arith)))

  pub handed_within : {words : List ℕ} → words ≡ within → put_mid to k next words ≡ handed_to planes at joined from next to width
  handed_within e =
      rw e
      (ext_get_or 0 _ _ (same_len_mid to k next within (within_long ∙ sym cut_long)
      ∙ sym (handed_length planes at joined from next to width))
      (λ i l. put_at i (dec_lt i to) (dec_lt i (to + width))))

-- ---- word w of each thing

module _ (width w : ℕ) (h : w < width) where
  -- word w of each node
  abbrev of_nodes : List ℕ → List ℕ
  of_nodes = word_of_each width w 32

  nodes_long : (words : List ℕ) → length (of_nodes words) ≡ 32
  unfolding word_of_each
  nodes_long words = length-table 32 (λ (m : ℕ). get_or words (width * m + w) 0)

  -- a list of 32 is word w of each node if its words are
  is_of_nodes : (l words : List ℕ) → length l ≡ 32 → ((m : ℕ) → m < 32 → get_or l m 0 ≡ get_or words (width * m + w) 0) → l ≡ of_nodes words
  unfolding word_of_each
  is_of_nodes l words long same = is-table 0 32 (λ (m : ℕ). get_or words (width * m + w) 0) l long same

  module _ (planes joined next : List ℕ) (g a b : ℕ) (a_in : a < 32) (b_in : b < 32) (long : length next ≡ width * 32) where
    abbrev handed_bits : ℕ
    handed_bits = bit_and (get_or (of_nodes joined) a 0) (get_or planes (width * g + w) 0)

    each_handed_at : (m : ℕ) → m < 32 → Dec (m ≡ b) → get_or (added (of_nodes next) b handed_bits) m 0
        ≡ get_or (handed_to planes (width * g) joined (width * a) next (width * b) width) (width * m + w) 0
    unfolding added
    each_handed_at m k (yes e) =
        let room : width * b + width ≤ length next = omega (arith, each-before width b 32 b_in) in
        rw e
        (added_here (of_nodes next) b handed_bits (rw (nodes_long next) b_in)
        ∙ ap₂ bit_or (each_at width w 32 next b b_in) (ap (λ (x : ℕ). bit_and x (get_or planes (width * g + w) 0)) (each_at width w 32 joined a a_in))
        ∙ sym (handed_here planes (width * g) joined (width * a) next (width * b) width room width w (le_refl width) h))
    each_handed_at m k (no e) =
        get_or-set_other (of_nodes next) b m _ 0 e
        ∙ each_at width w 32 next m k
        ∙ sym (handed_elsewhere planes (width * g) joined (width * a) next (width * b) width (width * m + w) (place-apart width w m b h e))

    each_handed : of_nodes (handed_to planes (width * g) joined (width * a) next (width * b) width) ≡ added (of_nodes next) b handed_bits
    unfolding added
    each_handed =
        sym (is_of_nodes (added (of_nodes next) b handed_bits) _ (simp length-set (nodes_long next)) (λ m k. each_handed_at m k (ℕ_discrete m b)))

-- ---- a round

pub wide_length : (parts : List Parts) (planes : List ℕ) (width : ℕ) (old : List ℕ) (i : ℕ)
    → length (wide_round_to parts planes width old i) ≡ length old
unfolding wide_round_to
wide_length parts planes width old zero = refl
wide_length parts planes width old (suc i) =
    handed_length planes (width * (get_or parts i no_parts).gate) old _ _ _ width
    ∙ handed_length planes (width * (get_or parts i no_parts).gate) old _ _ _ width
    ∙ wide_length parts planes width old i

module _ {parts : List Parts} {nodes : ℕ} (fit : PartsFit parts nodes) where
  module _ (planes : List ℕ) (width : ℕ) (old : List ℕ) (long : length old ≡ width * 32) where
    abbrev after : ℕ → List ℕ
    after i = wide_round_to parts planes width old i

    -- what holds of the words before, and of words with what is handed on if it holds of them without, holds of the words after
    wide_ind : (P : List ℕ → Type 0) → P old
        → ((at a b : ℕ) → b < nodes → (words : List ℕ) → width * b + width ≤ length words → P words
        → P (handed_to planes at old (width * a) words (width * b) width))
        → (i : ℕ) → i ≤ length parts → P (after i)
    unfolding wide_round_to
    wide_ind P start step zero h = start
    wide_ind P start step (suc i) h =
        let a : ℕ = (get_or parts i no_parts).first in
        let b : ℕ = (get_or parts i no_parts).second in
        let half : List ℕ = handed_to planes (width * (get_or parts i no_parts).gate) old (width * b) (after i) (width * a) width in
        let size : length (after i) ≡ length old = wide_length parts planes width old i in
        step (width * (get_or parts i no_parts).gate) a b (fit.second i h) half
        (omega (
          arith,
          each-before width b 32 (second_in fit i h),
          handed_length planes (width * (get_or parts i no_parts).gate) old
              (width * b) (after i) (width * a) width,
        ))
        (step (width * (get_or parts i no_parts).gate) b a (fit.first i h) (after i)
        (omega (arith, each-before width a 32 (first_in fit i h))) (wide_ind P start step i (omega arith)))

    wide_fits : ((n : ℕ) → get_or old n 0 < 2 ^ 64) → (n : ℕ) → get_or (after (length parts)) n 0 < 2 ^ 64
    wide_fits f =
        wide_ind (λ (words : List ℕ). (n : ℕ) → get_or words n 0 < 2 ^ 64) f
        (λ at a b l words room p. handed_fits planes at old (width * a) words (width * b) width room f p width (le_refl width))
        (length parts) (le_refl (length parts))

    -- nodes that no edge has are left as they were
    wide_beyond : (n : ℕ) → width * nodes ≤ n → get_or (after (length parts)) n 0 ≡ get_or old n 0
    wide_beyond n h =
        wide_ind (λ (words : List ℕ). get_or words n 0 ≡ get_or old n 0) refl
        (λ at a b l words room p.
        handed_elsewhere planes at old (width * a) words (width * b) width n (inr (omega (arith, each-before width b nodes l))) ∙ p)
        (length parts) (le_refl (length parts))

    -- word w of each node has the round over word w of each gate
    each_round : (w : ℕ) (h : w < width) (i : ℕ) → i ≤ length parts
        → word_of_each width w 32 (after i) ≡ round_to parts (gate_word width w parts planes) (word_of_each width w 32 old) i
    unfolding wide_round_to round_to
    each_round w h zero k = refl
    each_round w h (suc i) k =
        let a : ℕ = (get_or parts i no_parts).first in
        let b : ℕ = (get_or parts i no_parts).second in
        let half : List ℕ = handed_to planes (width * (get_or parts i no_parts).gate) old (width * b) (after i) (width * a) width in
        let size : length (after i) ≡ width * 32 = wide_length parts planes width old i ∙ long in
        each_handed width w h planes old half ((get_or parts i no_parts).gate) a b (first_in fit i k) (second_in fit i k)
        (handed_length planes (width * (get_or parts i no_parts).gate) old (width * b) (after i) (width * a) width ∙ size)
        ∙ ap (λ (words : List ℕ). added words b (bit_and (get_or (word_of_each width w 32 old) a 0) (gate_word width w parts planes i)))
        (each_handed width w h planes old (after i) ((get_or parts i no_parts).gate) b a (second_in fit i k) (first_in fit i k) size
        ∙ ap (λ (words : List ℕ). added words a (bit_and (get_or (word_of_each width w 32 old) b 0) (gate_word width w parts planes i)))
        (each_round w h i (omega arith)))

    -- where the words of the nodes that edges have are taken over, all of the round's words are
    settled_rest : drop (width * nodes) old ≡ drop (width * nodes) (after (length parts))
    settled_rest =
        let size : length (after (length parts)) ≡ length old = wide_length parts planes width old (length parts) in
        ext_get_or 0 _ _ (simp length-drop (omega arith)) (λ i l.
        get_or-drop (width * nodes) old i 0 ∙ sym (wide_beyond (width * nodes + i) (omega arith))
        ∙ sym (get_or-drop (width * nodes) (after (length parts)) i 0))

    pub settled_all : take (width * nodes) (after (length parts)) ++ drop (width * nodes) old ≡ after (length parts)
    settled_all = rw (settled_rest, take-append-drop)

    -- and where these are as they were, all are
    pub settled_same : take (width * nodes) old ≡ take (width * nodes) (after (length parts)) → old ≡ after (length parts)
    settled_same e = sym (take-append-drop (width * nodes) old) ∙ ap (λ (l : List ℕ). l ++ drop (width * nodes) old) e ∙ settled_all

-- ---- rounds until one adds nothing

-- what holds of the words after k rounds: what holds of one word of each node holds of each of their words
pub record WideReached (parts : List Parts) (planes : List ℕ) (width rail k : ℕ) (joined : List ℕ) : Type 0 where
  pub long : length joined ≡ width * 32
  pub fits : (n : ℕ) → get_or joined n 0 < 2 ^ 64
  pub each : (w : ℕ) → w < width → (ws : ℕ → List Link) → LinksAre parts (gate_word width w parts planes) ws
      → Reached ws rail k (word_of_each width w 32 joined)

module _ {parts : List Parts} {planes : List ℕ} {width nodes rail k : ℕ} {joined : List ℕ}
    (fit : PartsFit parts nodes) (r : WideReached parts planes width rail k joined) where
  pub wide_again : WideReached parts planes width rail (suc k) (wide_round parts planes width joined)
  wide_again = record {
    long = wide_length parts planes width joined (length parts) ∙ r.long;
    fits = wide_fits fit planes width joined r.long r.fits;
    each = λ w h ws are. rw (each_round fit planes width joined r.long w h (length parts) (le_refl (length parts)))
        (reached_again fit are (r.each w h ws are));
  }

  -- where a round adds nothing, the words are those that are asked, and every joined node is within k links of the rail
  module _ (same : joined ≡ wide_round parts planes width joined) (w : ℕ) (h : w < width)
      (ws : ℕ → List Link) (are : LinksAre parts (gate_word width w parts planes) ws) where
    same_each : word_of_each width w 32 joined
        ≡ round_to parts (gate_word width w parts planes) (word_of_each width w 32 joined) (length parts)
    same_each = ap (word_of_each width w 32) same ∙ each_round fit planes width joined r.long w h (length parts) (le_refl (length parts))

    pub wide_words : word_of_each width w 32 joined ≡ joined_words ws rail
    wide_words = reached_all fit are (r.each w h ws are) same_each

    pub wide_within : (v : ℕ) → v < 64 → AllWithin (ws v) rail k
    wide_within = all_within fit are (r.each w h ws are) same_each

  -- and where every joined node is within k links, a round adds nothing
  pub wide_same : (ws : ℕ → ℕ → List Link) → ((w : ℕ) → w < width → LinksAre parts (gate_word width w parts planes) (ws w))
      → ((w : ℕ) → w < width → (v : ℕ) → v < 64 → AllWithin (ws w v) rail k)
      → joined ≡ wide_round parts planes width joined
  wide_same ws are far =
      let next = wide_again in
      same-words width 32 joined (wide_round parts planes width joined) r.long next.long (λ w h.
      reached-same (r.each w h (ws w) (are w h)) (next.each w h (ws w) (are w h)) (far w h))

-- ---- the words before the first round

module _ (width rail : ℕ) (rail-in : rail < 32) where
  abbrev none : ℕ → List ℕ
  none n = replicate n 0

  abbrev every : List ℕ
  every = replicate width (2 ^ 64 - 1)

  abbrev behind : ℕ
  behind = width * (32 - suc rail)

  whole : width * 32 ≡ width * rail + width + behind
  whole =
      let split : 32 ≡ rail + (1 + (32 - suc rail)) = omega arith in
      ap (λ (n : ℕ). width * n) split ∙ omega (arith, mul-add width rail (1 + (32 - suc rail)), mul-add width 1 (32 - suc rail))

  pub begun_long : length (rail_alone width rail) ≡ width * 32
  unfolding rail_alone
  begun_long = simp (length-append, length-replicate) (omega (arith, whole))

  begun_here : (w : ℕ) → w < width → get_or (rail_alone width rail) (width * rail + w) 0 ≡ 2 ^ 64 - 1
  unfolding rail_alone
  begun_here w h =
      let back : width * rail + w - width * rail ≡ w = omega arith in
      get_or-append_right (none (width * rail)) (every ++ none behind) (width * rail) (width * rail + w) 0 (length-replicate _ _)
      (omega arith)
      ∙ rw back (get_or-append every (none behind) 0 w (rw length-replicate h) ∙ get_or-replicate width w (2 ^ 64 - 1) 0 h)

  begun_elsewhere : (i : ℕ) → (i < width * rail) ⊎ (width * rail + width ≤ i) → get_or (rail_alone width rail) i 0 ≡ 0
  unfolding rail_alone
  begun_elsewhere i (inl h) = get_or-append (none (width * rail)) (every ++ none behind) 0 i (rw length-replicate h)
      ∙ zero-at (width * rail) i
  begun_elsewhere i (inr h) =
      get_or-append_right (none (width * rail)) (every ++ none behind) (width * rail) i 0 (length-replicate _ _) (omega arith)
      ∙ get_or-append_right every (none behind) width (i - width * rail) 0 (length-replicate _ _) (omega arith)
      ∙ zero-at behind (i - width * rail - width)

  begun_fits : (i : ℕ) → get_or (rail_alone width rail) i 0 < 2 ^ 64
  begun_fits i = at (dec_lt i (width * rail)) (dec_lt i (width * rail + width))
    where
      at : Dec (i < width * rail) → Dec (i < width * rail + width) → get_or (rail_alone width rail) i 0 < 2 ^ 64
      at (yes h) k = omega (arith, begun_elsewhere i (inl h))
      at (no h) (no k) = omega (arith, begun_elsewhere i (inr (omega arith)))
      at (no h) (yes k) =
          let here : width * rail + (i - width * rail) ≡ i = omega arith in
          let full = begun_here (i - width * rail) (omega arith) in
          omega (arith, rw here at full)

  each_begun_at : (w : ℕ) → w < width → (m : ℕ) → m < 32 → Dec (m ≡ rail) → get_or (first_words rail) m 0 ≡ get_or (rail_alone width rail) (width * m + w) 0
  each_begun_at w h m k (yes e) = rw e (first_whole rail rail-in ∙ sym (begun_here w h))
  each_begun_at w h m k (no e) =
      get_or-set_other (replicate 32 0) rail m (2 ^ 64 - 1) 0 e
      ∙ zero-at 32 m
      ∙ sym (begun_elsewhere (width * m + w) (place-apart width w m rail h e))

  pub wide_first : (parts : List Parts) (planes : List ℕ) → WideReached parts planes width rail 0 (rail_alone width rail)
  wide_first parts planes = record {
    long = begun_long;
    fits = begun_fits;
    each = λ w h ws are.
        rw (← is_of_nodes width w h (first_words rail) (rail_alone width rail) (first_long rail rail-in) (λ m k. each_begun_at w h m k (ℕ_discrete m rail)))
        (reached_first rail rail-in ws);
  }

  -- the rail is joined to itself in words that were 0: k of them, from its place on, are filled
  pub begun : (k : ℕ) (words ones : List ℕ) → k ≡ width → words ≡ replicate (width * 32) 0
      → ones ≡ replicate (length (take k (drop (width * rail) words))) (2 ^ 64 - 1)
      → put_mid (width * rail) k words ones ≡ rail_alone width rail
  unfolding rail_alone
  begun k words ones few zeros filled =
      let front : take (width * rail) words ≡ none (width * rail)
      = rw zeros (take-replicate (width * rail) (width * 32) 0 (omega (arith, whole))) in
      let back : drop (width * rail) words ≡ none (width + behind)
      = ap (drop (width * rail)) zeros ∙ drop-replicate (width * rail) (width * 32) 0 ∙ ap none (omega (arith, whole)) in
      let long : length (take k (drop (width * rail) words)) ≡ width
      = rw (few, back, take-replicate {X = ℕ} width (width + behind) 0 (omega arith)) (length-replicate width 0) in
      let less : width + behind - width ≡ behind = omega arith in
      let rest : drop k (drop (width * rail) words) ≡ none behind = rw (few, back, drop-replicate {X = ℕ} width (width + behind) 0, less) in
      rw (front, filled, long, rest)
