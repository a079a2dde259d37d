-- Laws of a list written into a buffer: the buffer's length stays, what stands at each place, what is written behind something written is one list, one stored element is a list of one.
use mathlib.Core.Path.{◌≡◌, ap, ◌∙◌}
use mathlib.Core.List.{List, [], ◌∷◌, ◌++◌, append-nil, append_assoc}
use Prim.Native.Nat.{ℕ, suc, ◌+◌, ◌-◌, ◌≤◌, ◌<◌}
use native.Mathlib.Nat.{add-zero, add-suc, add_assoc, suc-add}
use native.Mathlib.Numerals.{add-one}
use native.Mathlib.Omega.{arith}
use lib.ListN.{length, get_or, set, take, drop, length-append, length-drop, take-append-drop, get_or-append}
use lib.Seq.{length-take-le, take_at, drop_at, drop-drop, get_or-take, get_or-drop, get_or-append-add, set_split, set-append_left, take-set-lt, take-suc-set, append_snoc}
use Rattle.words.specs.Tables.{table}
use Rattle.words.specs.Written.{written}
use Rattle.words.proofs.Tables.{length-table, table_more}

module _ (buffer : List ℕ) (at : ℕ) where
  pub written_nothing : written buffer at [] ≡ buffer
  unfolding written
  written_nothing = rw (add-zero, append-nil, take-append-drop)

  module _ (text : List ℕ) (fits : at + length text ≤ length buffer) where
    -- the buffer up to the text's end
    length_front : length (take at buffer ++ text) ≡ at + length text
    length_front = simp length-append (omega (arith, length-take-le at buffer (omega arith)))

    pub take_written : take (at + length text) (written buffer at text) ≡ take at buffer ++ text
    unfolding written
    take_written = take_at (take at buffer ++ text) _ _ length_front

    pub drop_written : drop (at + length text) (written buffer at text) ≡ drop (at + length text) buffer
    unfolding written
    drop_written = drop_at (take at buffer ++ text) _ _ length_front

    pub length_written : length (written buffer at text) ≡ length buffer
    unfolding written
    length_written = rw (length-append (take at buffer ++ text), length_front, length-drop) (omega arith)

    -- what stands before the text, in it, and behind it
    pub written_before : (j : ℕ) → j < at → get_or (written buffer at text) j 0 ≡ get_or buffer j 0
    unfolding written
    written_before j h =
        get_or-append (take at buffer ++ text) (drop (at + length text) buffer) 0 j (omega (arith, length_front))
        ∙ get_or-append (take at buffer) text 0 j (omega (arith, length-take-le at buffer (omega arith)))
        ∙ get_or-take at buffer j 0 h

    pub written_here : (j : ℕ) → j < length text → get_or (written buffer at text) (at + j) 0 ≡ get_or text j 0
    unfolding written
    written_here j h =
        get_or-append (take at buffer ++ text) (drop (at + length text) buffer) 0 (at + j) (omega (arith, length_front))
        ∙ ap (λ (n : ℕ). get_or (take at buffer ++ text) n 0) (omega (arith, length-take-le at buffer (omega arith)))
        ∙ get_or-append-add (take at buffer) text j 0

    pub written_after : (j : ℕ) → at + length text ≤ j → get_or (written buffer at text) j 0 ≡ get_or buffer j 0
    unfolding written
    written_after j h =
        let more : ℕ = j - (at + length text) in
        ap (λ (n : ℕ). get_or ((take at buffer ++ text) ++ drop (at + length text) buffer) n 0) (omega (arith, length_front))
        ∙ get_or-append-add (take at buffer ++ text) (drop (at + length text) buffer) more 0
        ∙ get_or-drop (at + length text) buffer more 0
        ∙ ap (λ (n : ℕ). get_or buffer n 0) (omega arith)

  -- a line of pieces is one text
  pub written_written : (a b : List ℕ) → at + length (a ++ b) ≤ length buffer
      → written (written buffer at a) (at + length a) b ≡ written buffer at (a ++ b)
  unfolding written
  written_written a b fits =
      let room : at + length a + length b ≤ length buffer = omega (arith, length-append a b) in
      let before : at + length a ≤ length buffer = omega arith in
      let rest : drop (at + length a + length b) (written buffer at a) ≡ drop (at + length (a ++ b)) buffer
      = rw (← drop-drop (length b) (at + length a) (written buffer at a), drop_written a before, drop-drop, length-append, add_assoc) in
      rw (take_written a before, rest, append_assoc (take at buffer) a b)

  pub set_written : (b : ℕ) → at < length buffer → set buffer at b ≡ written buffer at (b ∷ [])
  unfolding written
  set_written b inside = rw (set_split, append_snoc, add-one)

  -- a byte stored just before a text is the text's first
  pub set_before : (b : ℕ) (text : List ℕ) → suc at + length text ≤ length buffer
      → set (written buffer (suc at) text) at b ≡ written buffer at (b ∷ text)
  unfolding written
  set_before b text fits =
      let front : length (take (suc at) buffer) ≡ suc at = length-take-le (suc at) buffer (omega arith) in
      let in_front : at < length (take (suc at) buffer) = omega arith in
      let in_text : at < length (take (suc at) buffer ++ text) = simp length-append (omega arith) in
      let inside : at < length buffer = omega arith in
      rw (
        set-append_left (take (suc at) buffer ++ text),
        set-append_left (take (suc at) buffer),
        ← take-set-lt (suc at) buffer at b (omega arith),
        take-suc-set,
        append_snoc,
        suc-add,
        add-suc,
      )

-- ---- one element more

module _ (buffer : List ℕ) (at : ℕ) where
  -- an element stored just behind what is written
  pub set_behind : (text : List ℕ) (i b : ℕ) → i ≡ at + length text → i < length buffer
      → set (written buffer at text) i b ≡ written buffer at (text ++ (b ∷ []))
  set_behind text i b e room =
      let fits : at + length text ≤ length buffer = omega arith in
      let inside : i < length (written buffer at text) = rw (length_written buffer at text fits) room in
      let more : at + length (text ++ (b ∷ [])) ≤ length buffer = simp length-append (omega arith) in
      set_written (written buffer at text) i b inside
      ∙ ap (λ (k : ℕ). written (written buffer at text) k (b ∷ [])) e
      ∙ written_written buffer at text (b ∷ []) more

  pub set_table_behind : (n : ℕ) (f : ℕ → ℕ) (i b : ℕ) → i ≡ at + n → i < length buffer → b ≡ f n
      → set (written buffer at (table n f)) i b ≡ written buffer at (table (suc n) f)
  set_table_behind n f i b e room h =
      set_behind (table n f) i b (omega (arith, length-table n f)) room
      ∙ rw (h, table_more n f)
