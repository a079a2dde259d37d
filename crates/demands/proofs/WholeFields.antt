-- A file put together from whole fields is cut into them again.
-- An accepted one tells the circuit that its fields add up to, one after the other.
use Prim.Native.Nat.{ℕ, ◌+◌, ◌≤◌}
use mathlib.Core.Path.{◌≡◌, refl, sym, ap, ap₂, ◌∙◌}
use mathlib.Core.Bool.{Bool, true, false, cond}
use mathlib.Core.List.{List, [], ◌∷◌, ◌++◌, append_assoc}
use native.Mathlib.Omega.{arith}
use lib.Dec.{ltb}
use lib.ListN.{length, take, drop, length-append}
use lib.Seq.{take-append_seam, drop-append-add, get_or-append_seam, get_or-append-add}
use Rattle.circuit.specs.Limits.{most_bytes}
use Rattle.circuit.specs.Fields.{Field, Cut, clean, field, cut_from, two_bytes}
use Rattle.circuit.specs.Circuit.{Circuit, join_lists}
use Rattle.circuit.specs.Order.{tag_of}
use Rattle.circuit.specs.Known.{Known, start, taken, known_after}
use Rattle.circuit.specs.Table.{Verdict, passes, refused_at, first_of, field_tests, end_tests}
use Rattle.circuit.specs.Reading.{Reading, accepted, refusal, unless, read_from, reading_of, reading_with}
use Rattle.read_fields.proofs.Cuts.{behind, standing, cut_clean, cut_field}
use Rattle.demands.specs.Files.{field_bytes as bytes_of_field}
use Rattle.demands.specs.AlikeFiles.{TagAndBody, fields_of}

-- ---- the cut

abbrev pub field_at : ℕ → TagAndBody → Field
field_at at f = record { at = at; tag = f.tag; body = f.body }

-- whole fields, from an offset
unfoldable pub cut_of : ℕ → List TagAndBody → Cut
cut_of at [] = clean
cut_of at (f ∷ fs) = field (field_at at f) (cut_of (at + 3 + length f.body) fs)

-- a field that stands behind some bytes and before others
module _ (before : List ℕ) (f : TagAndBody) (rest : List ℕ) where
  abbrev there : List ℕ
  there = before ++ (bytes_of_field f.tag f.body ++ rest)

  its_length : two_bytes there (length before + 1) ≡ length f.body
  unfolding two_bytes
  its_length =
      let high = get_or-append-add before (bytes_of_field f.tag f.body ++ rest) 1 0 in
      let low = get_or-append-add before (bytes_of_field f.tag f.body ++ rest) 2 0 in
      let two : length before + 1 + 1 ≡ length before + 2 = omega arith in
      rw (two, high, low) (omega arith)

  its_end : behind there (length before) ≡ length (before ++ bytes_of_field f.tag f.body)
  its_end = omega (arith, its_length, length-append before (bytes_of_field f.tag f.body))

  inside : behind there (length before) ≤ length there
  inside =
      omega (arith, its_length, length-append before (bytes_of_field f.tag f.body ++ rest), length-append f.body rest)

  its_body : take (two_bytes there (length before + 1)) (drop (length before + 3) there) ≡ f.body
  its_body =
      rw (its_length, drop-append-add before (bytes_of_field f.tag f.body ++ rest) 3)
      (take-append_seam f.body rest)

  it_stands : standing there (length before) ≡ field_at (length before) f
  it_stands =
      ap₂ (λ (tag : ℕ) (body : List ℕ). record { at = length before; tag = tag; body = body })
      (get_or-append_seam before f.tag _ 0) its_body

  cut_one : cut_from there (length before)
      ≡ field (field_at (length before) f)
      (cut_from (before ++ bytes_of_field f.tag f.body ++ rest) (length (before ++ bytes_of_field f.tag f.body)))
  cut_one =
      cut_field there (length before) inside
      ∙ ap₂ field it_stands (ap₂ cut_from (sym (append_assoc before (bytes_of_field f.tag f.body) rest)) its_end)

pub cut-whole : (before : List ℕ) (fs : List TagAndBody) → cut_from (before ++ fields_of fs) (length before) ≡ cut_of (length before) fs
unfolding join_lists cut_of
cut-whole before [] = cut_clean (before ++ []) (length before) (omega (arith, length-append before []))
cut-whole before (f ∷ fs) =
    cut_one before f (fields_of fs)
    ∙ ap (field (field_at (length before) f))
    (cut-whole (before ++ bytes_of_field f.tag f.body) fs
    ∙ ap (λ (at : ℕ). cut_of at fs)
    (let e : length (before ++ bytes_of_field f.tag f.body) ≡ length before + 3 + length f.body =
    omega (arith, length-append before (bytes_of_field f.tag f.body)) in e))

-- ---- the circuit

-- what fields add to a circuit, one after the other
unfoldable pub taken_all : Circuit → List TagAndBody → Circuit
taken_all c [] = c
taken_all c (f ∷ fs) = taken_all (taken (tag_of f.tag) c f.body) fs

pub taken-append : (c : Circuit) (fs gs : List TagAndBody) → taken_all c (fs ++ gs) ≡ taken_all (taken_all c fs) gs
unfolding taken_all
taken-append c [] gs = refl
taken-append c (f ∷ fs) gs = taken-append (taken (tag_of f.tag) c f.body) fs gs

-- what is accepted after a verdict was accepted without it
pub after-verdict : (v : Verdict) (r : Reading) (c : Circuit) → unless v r ≡ accepted c → r ≡ accepted c
unfolding unless
after-verdict passes r c e = e
after-verdict (refused_at number place) r c e = cc

pub read_whole : (size : ℕ) (known : Known) (at : ℕ) (fs : List TagAndBody) (c : Circuit)
    → read_from true size known (cut_of at fs) ≡ accepted c → taken_all known.circuit fs ≡ c
unfolding read_from cut_of taken_all known_after
read_whole size known at [] c e = let z = after-verdict (first_of (end_tests true known size)) (accepted known.circuit) c e in cc
read_whole size known at (f ∷ fs) c e =
    read_whole size (known_after known (field_at at f)) (at + 3 + length f.body) fs c
    (after-verdict (first_of (field_tests known (field_at at f))) _ c e)

-- number 1 lets an accepted file through
pub read-from-start : (file : List ℕ) (c : Circuit) → reading_of file ≡ accepted c → read_from true (length file) start (cut_from file 0) ≡ accepted c
unfolding reading_with
read-from-start file c e = go (ltb most_bytes (length file)) _ e
  where
    go : (long : Bool) (whole : Reading) → cond long (refusal 1 0) whole ≡ accepted c → whole ≡ accepted c
    go true whole q = cc
    go false whole q = q

-- an accepted file of whole fields tells what they add to nothing
pub accepted-adds-up : (fs : List TagAndBody) (c : Circuit) → reading_of (fields_of fs) ≡ accepted c → taken_all start.circuit fs ≡ c
accepted-adds-up fs c e =
    read_whole (length (fields_of fs)) start 0 fs c
    (ap (read_from true (length (fields_of fs)) start) (sym (cut-whole [] fs)) ∙ read-from-start (fields_of fs) c e)
