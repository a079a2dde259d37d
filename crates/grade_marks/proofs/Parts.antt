-- A part of a list lent and written over: as `written` says it, and that a list filled from the front is filled as far as the part's end,
-- with what stands behind it kept. And a text as long as its buffer, written over all of it. Assumes nothing.
use mathlib.Core.Path.{◌≡◌, sym, ap, ◌∙◌}
use mathlib.Core.List.{List, ◌++◌, append-nil, append_assoc}
use Prim.Native.Nat.{ℕ, ◌+◌, ◌-◌, ◌<◌, ◌≤◌}
use native.Mathlib.Decide.{dec_lt}
use native.Mathlib.Omega.{arith}
use borrow.Rule.Slice.PartMut.{put_mid}
use lib.ListN.{length, get_or, take, drop, drop_of_length-le, length-append, get_or-append}
use lib.Seq.{drop-drop, get_or-append-add}
use Rattle.words.specs.Tables.{table, up_to}
use Rattle.words.specs.Written.{written}
use Rattle.words.proofs.Tables.{length-table, get_or-table, is-table, up-below, up-past}
use Rattle.words.proofs.WrittenLaws.{length_written, written_before, written_here, written_after, written_written}

-- a text as long as its buffer
pub written_over : (buffer text : List ℕ) → length text ≡ length buffer → written buffer 0 text ≡ text
unfolding written
written_over buffer text long = rw (drop_of_length-le buffer {i = 0 + length text} (omega arith), append-nil)

-- k words from `at` on, taken by others
module _ (buffer text : List ℕ) (at k : ℕ) (long : length text ≡ k) where
  pub part_is : put_mid at k buffer text ≡ written buffer at text
  unfolding written
  part_is =
      ap (λ (rest : List ℕ). take at buffer ++ (text ++ rest)) (drop-drop k at buffer ∙ ap (λ (n : ℕ). drop (at + n) buffer) (sym long))
      ∙ sym (append_assoc (take at buffer) text (drop (at + length text) buffer))

  -- the places of f, written over a list's front up to `at`, and then up to the part's end
  pub part_filled : (buffer₀ : List ℕ) (f : ℕ → ℕ) → buffer ≡ written buffer₀ 0 (table at f) → at + k ≤ length buffer₀
      → ((w : ℕ) → w < k → get_or text w 0 ≡ f (at + w)) → put_mid at k buffer text ≡ written buffer₀ 0 (table (at + k) f)
  part_filled buffer₀ f before room new =
      rw part_is
      (ap (λ (b : List ℕ). written b at text) before
      ∙ ap (λ (n : ℕ). written (written buffer₀ 0 front) n text) place
      ∙ written_written buffer₀ 0 front text (omega (arith, many))
      ∙ ap (written buffer₀ 0) (is-table 0 (at + k) f (front ++ text) many (λ j h. go j h (dec_lt j at))))
    where
      front : List ℕ
      front = table at f

      place : at ≡ 0 + length front
      place = omega (arith, length-table at f)

      many : length (front ++ text) ≡ at + k
      many = omega (arith, length-append front text, length-table at f)

      go : (j : ℕ) → j < at + k → Dec (j < at) → get_or (front ++ text) j 0 ≡ f j
      go j h (yes q) = get_or-append front text 0 j (omega (arith, place)) ∙ get_or-table at f 0 j q
      go j h (no q) =
          let w : ℕ = j - at in
          let here : j ≡ length front + w = omega (arith, place) in
          let told : j ≡ at + w = omega arith in
          ap (λ (n : ℕ). get_or (front ++ text) n 0) here
          ∙ get_or-append-add front text w 0
          ∙ new w (omega arith)
          ∙ ap f (sym told)

  -- the same of a list that has f at the places filled and 0 at the others
  pub part_fills : (n : ℕ) (f : ℕ → ℕ) → buffer ≡ table n (up_to at f) → at + k ≤ n → ((w : ℕ) → w < k → get_or text w 0 ≡ f (at + w))
      → put_mid at k buffer text ≡ table n (up_to (at + k) f)
  part_fills n f before room new =
      rw part_is
      (is-table 0 n (up_to (at + k) f) (written buffer at text) (length_written buffer at text fits ∙ n-long)
      (λ j h. go j h (dec_lt j at) (dec_lt j (at + k))))
    where
      n-long : length buffer ≡ n
      n-long = ap length before ∙ length-table n (up_to at f)

      fits : at + length text ≤ length buffer
      fits = omega (arith, n-long)

      was : (j : ℕ) → j < n → get_or buffer j 0 ≡ up_to at f j
      was j h = ap (λ (b : List ℕ). get_or b j 0) before ∙ get_or-table n (up_to at f) 0 j h

      go : (j : ℕ) → j < n → Dec (j < at) → Dec (j < at + k) → get_or (written buffer at text) j 0 ≡ up_to (at + k) f j
      go j h (yes q) p =
          written_before buffer at text fits j q ∙ was j h ∙ up-below at f j q ∙ sym (up-below (at + k) f j (omega arith))
      go j h (no q) (yes p) =
          let w : ℕ = j - at in
          let here : j ≡ at + w = omega arith in
          rw here
          (written_here buffer at text fits w (omega arith) ∙ new w (omega arith) ∙ sym (up-below (at + k) f (at + w) (omega arith)))
      go j h (no q) (no p) =
          written_after buffer at text fits j (omega arith)
          ∙ was j h
          ∙ up-past at f j (omega arith)
          ∙ sym (up-past (at + k) f j (omega arith))
