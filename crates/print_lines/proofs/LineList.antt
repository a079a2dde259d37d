-- Lines in a list: what holds of each of them, and which line a number means where lists of them stand one behind the other. Assumes
-- nothing.
use Prim.Native.Nat.{ℕ, zero, suc, ◌+◌, ◌-◌, ◌≤◌, ◌<◌}
use mathlib.Core.Path.{◌≡◌, ap, ◌∙◌}
use mathlib.Core.List.{List, [], ◌∷◌, ◌++◌, map}
use native.Mathlib.Nat.{not-suc-le-zero, le_of_suc-le-suc}
use native.Mathlib.Decide.{dec_lt}
use native.Mathlib.Omega.{arith}
use lib.ListN.{length, get_or, get_or-eq_default}
use lib.Seq.{get_or-append-add}
use Rattle.words.specs.Tables.{table}
use Rattle.print_lines.specs.Pieces.{line_in}

-- ---- what holds of each line

abbrev pub EachLine : (List ℕ → Type 0) → List (List ℕ) → Type 0
EachLine P [] = Unit {0}
EachLine P (line ∷ lines) = P line × EachLine P lines

module _ (P : List ℕ → Type 0) where
  pub each_at : (lines : List (List ℕ)) (n : ℕ) → EachLine P lines → n < length lines → P (line_in lines n)
  unfolding line_in
  each_at [] n each h = absurd (not-suc-le-zero h)
  each_at (line ∷ lines) zero each h = each.0
  each_at (line ∷ lines) (suc n) each h = each_at lines n each.1 (le_of_suc-le-suc h)

  pub each_append : (a b : List (List ℕ)) → EachLine P a → EachLine P b → EachLine P (a ++ b)
  each_append [] b f g = g
  each_append (line ∷ a) b f g = (f.0, each_append a b f.1 g)

  pub each_map : {A : Type 0} (line : A → List ℕ) → ((a : A) → P (line a)) → (l : List A) → EachLine P (map line l)
  each_map line holds [] = tt
  each_map line holds (a ∷ l) = (holds a, each_map line holds l)

  pub each_table : (n : ℕ) (line : ℕ → List ℕ) → ((i : ℕ) → P (line i)) → EachLine P (table n line)
  unfolding table
  each_table zero line holds = tt
  each_table (suc n) line holds = (holds 0, each_table n (λ (i : ℕ). line (suc i)) (λ (i : ℕ). holds (suc i)))

-- ---- which line a number means

-- one of the second of two lists
pub line-behind : (a b : List (List ℕ)) (n : ℕ) → length a ≤ n → get_or (a ++ b) n [] ≡ get_or b (n - length a) []
line-behind a b n h =
    let e : n ≡ length a + (n - length a) = omega arith in
    ap (λ (k : ℕ). get_or (a ++ b) k []) e ∙ get_or-append-add a b (n - length a) []

-- a line that is not empty is one of the lines
pub line-there : (lines : List (List ℕ)) (n : ℕ) → 0 < length (line_in lines n) → n < length lines
unfolding line_in
line-there lines n some = go (dec_lt n (length lines))
  where
    go : Dec (n < length lines) → n < length lines
    go (yes h) = h
    go (no h) =
        let past : get_or lines n [] ≡ [] = get_or-eq_default lines [] (omega arith) in
        absurd (omega (arith, ap length past))
