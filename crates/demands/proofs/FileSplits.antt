-- Every accepted file of bytes is whole fields with its vectors last, so it can be split before its first vector; and in one way only.
use Prim.Native.Nat.{ℕ, zero, suc, ◌+◌, ◌/◌, ◌%◌, ◌≤◌, ◌<◌}
use mathlib.Core.Path.{◌≡◌, refl, sym, ap, ap₂, ◌∙◌}
use mathlib.Core.Bool.{Bool, true, false, not}
use mathlib.Core.List.{List, [], ◌∷◌, ◌++◌, map}
use native.Mathlib.Decide.{dec_lt, ℕ_discrete}
use native.Mathlib.Omega.{arith}
use lib.Dec.{T}
use lib.ListN.{length, get_or, drop, length-take, length-drop, take-append-drop}
use lib.Seq.{drop-cons, drop-drop, drop-length}
use Rattle.switch.specs.Conduction.{between}
use Rattle.switch.specs.Modules.{all_of}
use Rattle.switch.proofs.Paths.{both}
use Rattle.circuit.specs.Fields.{Field, cut_from, two_bytes}
use Rattle.circuit.specs.Circuit.{Circuit, join_lists}
use Rattle.circuit.specs.Order.{Tag, inputs_tag, type_tag, edge_tag, bridge_tag, instance_tag, no_tag, vector_tag, tag_of, is_kind, is_unknown, after_tag, may_follow}
use Rattle.circuit.specs.Known.{Known, start, known_after}
use Rattle.circuit.specs.Table.{Verdict, passes, refused_at, first_of, misplaced, field_tests}
use Rattle.circuit.specs.Reading.{Reading, accepted, unless, read_from}
use Rattle.circuit.proofs.OrderLaws.{kind_is}
use Rattle.circuit.proofs.Verdicts.{first_passes}
use Rattle.switch.proofs.Deciding.{and_both}
use Rattle.circuit.proofs.Tested.{holds}
use Rattle.read_fields.proofs.Cuts.{behind, standing, cut_broken, cut_field}
use Rattle.demands.specs.Files.{field_bytes as bytes_of_field}
use Rattle.demands.specs.AlikeFiles.{TagAndBody, fields_of, not_vector}
use Rattle.demands.specs.SplitFiles.{AcceptedIsSplit, SplitOnce}
use Rattle.circuit.proofs.OrderLaws.{tag_byte}
use Rattle.demands.proofs.WholeFields.{field_at, cut_of, cut-whole, after-verdict, read-from-start}
use Rattle.demands.proofs.AlikeFilesProof.{vector_field, whole-file}

-- ---- one split only

same-fields : (at : ℕ) (fs gs : List TagAndBody) → cut_of at fs ≡ cut_of at gs → fs ≡ gs
unfolding cut_of
same-fields at [] [] e = refl
same-fields at [] (g ∷ gs) e = cc
same-fields at (f ∷ fs) [] e = cc
same-fields at (f ∷ fs) (g ∷ gs) e =
    let here : field_at at f ≡ field_at at g = cc in
    let behind-f : cut_of (at + 3 + length f.body) fs ≡ cut_of (at + 3 + length g.body) gs = cc in
    let bodies : f.body ≡ g.body = ap (λ (x : Field). x.body) here in
    let same : f ≡ g = ap (λ (x : Field). record { tag = x.tag; body = x.body }) here in
    ap₂ (λ (h : TagAndBody) (hs : List TagAndBody). h ∷ hs) same
    (same-fields (at + 3 + length g.body) fs gs (ap (λ (body : List ℕ). cut_of (at + 3 + length body) fs) (sym bodies) ∙ behind-f))

same_bodies : (bodies bodies' : List (List ℕ)) → map vector_field bodies ≡ map vector_field bodies' → bodies ≡ bodies'
same_bodies [] [] e = refl
same_bodies [] (b ∷ bs) e = cc
same_bodies (a ∷ as') [] e = cc
same_bodies (a ∷ as') (b ∷ bs) e =
    let first : vector_field a ≡ vector_field b = cc in
    let later : map vector_field as' ≡ map vector_field bs = cc in
    ap₂ (λ (x : List ℕ) (xs : List (List ℕ)). x ∷ xs) (ap (λ (f : TagAndBody). f.body) first) (same_bodies as' bs later)

-- a vector's field is none of the head's
not-head : (f : TagAndBody) (body : List ℕ) → vector_field body ≡ f → T (not_vector f) → ⊥
unfolding is_kind tag_of
not-head f body e t = rw (← e) at t

same-split : (head head' : List TagAndBody) (bodies bodies' : List (List ℕ)) → T (all_of not_vector head) → T (all_of not_vector head')
    → head ++ map vector_field bodies ≡ head' ++ map vector_field bodies' → (head ≡ head') × (bodies ≡ bodies')
unfolding all_of
same-split [] [] bodies bodies' t u e = (refl, same_bodies bodies bodies' e)
same-split [] (g ∷ gs) [] bodies' t u e = (cc, cc)
same-split [] (g ∷ gs) (b ∷ bs) bodies' t u e = absurd (not-head g b (cc) (both (not_vector g) (all_of not_vector gs) u).0)
same-split (f ∷ fs) [] bodies [] t u e = (cc, cc)
same-split (f ∷ fs) [] bodies (b ∷ bs) t u e = absurd (not-head f b (cc) (both (not_vector f) (all_of not_vector fs) t).0)
same-split (f ∷ fs) (g ∷ gs) bodies bodies' t u e =
    let none = (both (not_vector f) (all_of not_vector fs) t).1 in
    let none' = (both (not_vector g) (all_of not_vector gs) u).1 in
    let later = same-split fs gs bodies bodies' none none' (cc) in
    (ap₂ (λ (h : TagAndBody) (hs : List TagAndBody). h ∷ hs) (cc) later.0, later.1)

pub split_once : SplitOnce
split_once file head head' bodies bodies' one other =
    let fs = head ++ map vector_field bodies in
    let gs = head' ++ map vector_field bodies' in
    let bytes : fields_of fs ≡ fields_of gs = sym (whole-file head bodies) ∙ sym one.is ∙ other.is ∙ whole-file head' bodies' in
    same-split head head' bodies bodies' one.no_vector other.no_vector
    (same-fields 0 fs gs (sym (cut-whole [] fs) ∙ ap (λ (file : List ℕ). cut_from file 0) bytes ∙ cut-whole [] gs))

-- ---- an accepted file is whole fields

module _ (file : List ℕ) (small : (i : ℕ) → get_or file i 0 < 256) where
  -- the bytes of a whole field that stands at an offset, and those behind it
  field_bytes_lem : (at : ℕ) → behind file at ≤ length file
      → drop at file ≡ bytes_of_field (get_or file at 0) (standing file at).body ++ drop (behind file at) file
  unfolding two_bytes
  field_bytes_lem at whole =
      drop-cons file at 0 (omega arith)
      ∙ ap (λ (l : List ℕ). g0 ∷ l) (drop-cons file (suc at) 0 (omega arith))
      ∙ ap (λ (l : List ℕ). g0 ∷ get_or file (suc at) 0 ∷ l) (drop-cons file (suc (suc at)) 0 (omega arith))
      ∙ ap (λ (b : ℕ). g0 ∷ b ∷ get_or file (suc (suc at)) 0 ∷ drop (suc (suc (suc at))) file) high
      ∙ ap (λ (b : ℕ). g0 ∷ length body / 256 ∷ b ∷ drop (suc (suc (suc at))) file) low
      ∙ ap (λ (l : List ℕ). g0 ∷ length body / 256 ∷ length body % 256 ∷ l) rest
    where
      n : ℕ
      n = two_bytes file (at + 1)

      g0 : ℕ
      g0 = get_or file at 0

      body : List ℕ
      body = (standing file at).body

      long : length body ≡ n
      long = omega (arith, length-take n (drop (at + 3) file), length-drop (at + 3) file)

      at_1 : get_or file (suc at) 0 ≡ get_or file (at + 1) 0
      at_1 = ap (λ (k : ℕ). get_or file k 0) (let e : suc at ≡ at + 1 = omega arith in e)

      at_2 : get_or file (suc (suc at)) 0 ≡ get_or file (at + 1 + 1) 0
      at_2 = ap (λ (k : ℕ). get_or file k 0) (let e : suc (suc at) ≡ at + 1 + 1 = omega arith in e)

      high : get_or file (suc at) 0 ≡ length body / 256
      high = omega (arith, long, at_1, small (at + 1 + 1))

      low : get_or file (suc (suc at)) 0 ≡ length body % 256
      low = omega (arith, long, at_2, small (at + 1 + 1))

      rest : drop (suc (suc (suc at))) file ≡ body ++ drop (behind file at) file
      rest =
          ap (λ (k : ℕ). drop k file) (let e : suc (suc (suc at)) ≡ at + 3 = omega arith in e)
          ∙ sym (take-append-drop n (drop (at + 3) file))
          ∙ ap (λ (l : List ℕ). body ++ l) (drop-drop n (at + 3) file)

  -- `most` bounds the number of fields
  whole_fields : (most size : ℕ) (known : Known) (at : ℕ) (c : Circuit) → at ≤ length file → length file < at + most
      → read_from true size known (cut_from file at) ≡ accepted c → (fs : List TagAndBody) × (drop at file ≡ fields_of fs)
  unfolding read_from join_lists
  whole_fields zero size known at c h enough e = absurd (omega arith)
  whole_fields (suc most) size known at c h enough e =
      go (ℕ_discrete (length file) at) (dec_lt (length file) (behind file at))
      (λ whole read. whole_fields most size (known_after known (standing file at)) (behind file at) c whole (omega arith) read)
    where
      go : Dec (length file ≡ at) → Dec (length file < behind file at)
          → (behind file at ≤ length file → read_from true size (known_after known (standing file at)) (cut_from file (behind file at)) ≡ accepted c
          → (fs : List TagAndBody) × (drop (behind file at) file ≡ fields_of fs))
          → (fs : List TagAndBody) × (drop at file ≡ fields_of fs)
      go (yes end) b later = ([], ap (λ (k : ℕ). drop k file) (sym end) ∙ drop-length file)
      go (no more) (yes short) later =
          let q = ap (read_from true size known) (sym (cut_broken file at (omega arith) short)) ∙ e in
          let z : ◌≡◌ {A = ℕ} 0 1 = cc in
          absurd (omega arith)
      go (no more) (no whole) later =
          let inside : behind file at ≤ length file = omega arith in
          let read = ap (read_from true size known) (sym (cut_field file at inside)) ∙ e in
          let fs = later inside (after-verdict (first_of (field_tests known (standing file at))) _ c read) in (
            record { tag = get_or file at 0; body = (standing file at).body } ∷ fs.0,
            field_bytes_lem at inside ∙ ap (λ (l : List ℕ). bytes_of_field (get_or file at 0) (standing file at).body ++ l) fs.1,
          )

-- ---- its vectors come last

pub passed-verdict : (v : Verdict) (r : Reading) (c : Circuit) → unless v r ≡ accepted c → v ≡ passes
unfolding unless
passed-verdict passes r c e = refl
passed-verdict (refused_at number place) r c e = cc

-- after a vector 3 and 4 let nothing through but a vector
after-a-vector : (tag : Tag) → is_unknown tag ≡ false → misplaced (after_tag vector_tag) tag ≡ false → tag ≡ vector_tag
unfolding is_kind may_follow between
after-a-vector inputs_tag u m = cc
after-a-vector type_tag u m = cc
after-a-vector (edge_tag t) u m = cc
after-a-vector bridge_tag u m = cc
after-a-vector instance_tag u m = cc
after-a-vector vector_tag u m = refl
after-a-vector no_tag u m = cc

all-vectors : (size : ℕ) (known : Known) (at : ℕ) (fs : List TagAndBody) (c : Circuit) → known.previous ≡ after_tag vector_tag
    → read_from true size known (cut_of at fs) ≡ accepted c → (bodies : List (List ℕ)) × (fs ≡ map vector_field bodies)
unfolding read_from cut_of known_after field_tests
all-vectors size known at [] c previous e = ([], refl)
all-vectors size known at (f ∷ fs) c previous e =
    let three = first_passes _ _ (passed-verdict (first_of (field_tests known (field_at at f))) _ c e) in
    let four = first_passes _ _ three.1 in
    let is = after-a-vector (tag_of f.tag) three.0 (rw previous at four.0) in
    let read = after-verdict (first_of (field_tests known (field_at at f))) _ c e in
    let later = all-vectors size (known_after known (field_at at f)) (at + 3 + length f.body) fs c (ap after_tag is) read in (
      f.body ∷ later.0,
      ap₂ (λ (tag : ℕ) (gs : List TagAndBody). record { tag = tag; body = f.body } ∷ gs) (tag_byte vector_tag f.tag (omega arith) is) later.1,
    )

-- fields with the vectors last
abbrev VectorsLast : List TagAndBody → Type 0
VectorsLast fs = (head : List TagAndBody) × (bodies : List (List ℕ)) × T (all_of not_vector head) × (fs ≡ head ++ map vector_field bodies)

vectors-last : (size : ℕ) (known : Known) (at : ℕ) (fs : List TagAndBody) (c : Circuit)
    → read_from true size known (cut_of at fs) ≡ accepted c → VectorsLast fs
unfolding read_from cut_of known_after all_of
vectors-last size known at [] c e = ([], [], tt, refl)
vectors-last size known at (f ∷ fs) c e =
    go (is_kind vector_tag (tag_of f.tag)) refl (vectors-last size (known_after known (field_at at f)) (at + 3 + length f.body) fs c read)
  where
    read : read_from true size (known_after known (field_at at f)) (cut_of (at + 3 + length f.body) fs) ≡ accepted c
    read = after-verdict (first_of (field_tests known (field_at at f))) _ c e

    go : (own : Bool) → is_kind vector_tag (tag_of f.tag) ≡ own → VectorsLast fs → VectorsLast (f ∷ fs)
    go true p later =
        let is = kind_is vector_tag (tag_of f.tag) p in
        let vectors = all-vectors size (known_after known (field_at at f)) (at + 3 + length f.body) fs c (ap after_tag is) read in (
          [],
          f.body ∷ vectors.0,
          tt,
          ap₂ (λ (tag : ℕ) (gs : List TagAndBody). record { tag = tag; body = f.body } ∷ gs) (tag_byte vector_tag f.tag (omega arith) is) vectors.1,
        )
    go false p later = (
      f ∷ later.0,
      later.1,
      and_both (not_vector f) (all_of not_vector later.0) (holds (not_vector f) (ap not p)) later.2,
      ap (λ (gs : List TagAndBody). f ∷ gs) later.3,
    )

pub accepted_is_split : AcceptedIsSplit
accepted_is_split file c small accepts =
    let read = read-from-start file c accepts in
    let fields = whole_fields file small (suc (length file)) (length file) start 0 c (omega arith) (omega arith) read in
    let fs = fields.0 in
    let cut = ap (λ (bytes : List ℕ). cut_from bytes 0) fields.1 ∙ cut-whole [] fs in
    let last = vectors-last (length file) start 0 fs c (ap (read_from true (length file) start) (sym cut) ∙ read) in
    (last.0, last.1, record { no_vector = last.2; is = fields.1 ∙ ap fields_of last.3 ∙ sym (whole-file last.0 last.1) })
