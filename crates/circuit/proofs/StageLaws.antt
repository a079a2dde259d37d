-- Reading stage by stage is reading field by field. A stage hands on to the next when it has come to a field that is not its own; what the next stage then
-- has to know is `Ready`: how far the order has come, that the latest type has been judged, and that a field whose stage is past is out of place.
use Prim.Native.Nat.{ℕ, zero, suc, ◌-◌, ◌<◌, ◌≤◌}
use mathlib.Core.Path.{◌≡◌, refl, sym, ap, ◌∙◌}
use mathlib.Core.Bool.{Bool, true, false, cond, not, ◌&&◌, and-true}
use mathlib.Core.List.{List, [], ◌∷◌, ◌++◌}
use native.Mathlib.Omega.{arith}
use borrow.Author.Tests.{eqb-true, eq-eqb, ne_eqb, not-true}
use lib.Dec.{eqb, eqb-suc-zero}
use lib.ListN.{length, set}
use Rattle.switch.specs.Conduction.{Value, EdgeTag}
use Rattle.switch.specs.Modules.{ModuleType}
use Rattle.circuit.specs.Fields.{Field, Cut, clean, broken, field, cut_from, two_bytes}
use Rattle.circuit.specs.Circuit.{Circuit, Instance, Listed}
use Rattle.circuit.specs.Order.{Tag, inputs_tag, type_tag, edge_tag, bridge_tag, instance_tag, vector_tag, no_tag, tag_of, is_kind, is_edge, edge_tag_of, is_unknown, rank, Previous, start_of_file, after_tag, reached, may_follow}
use Rattle.circuit.specs.Known.{Known, start, type_in, edges_in, listed_in, instance_in, vector_in, latest, with_edges, edges_added, taken, type_at_after, known_after}
use Rattle.circuit.specs.Table.{Test, Verdict, passes, refused_at, first_of, misplaced, unjudged, not_complementary, is_empty, inputs_tests, type_tests, edge_tests, bridge_tests, instance_tests, vector_tests, body_tests, field_tests, end_tests}
use Rattle.circuit.specs.Reading.{Reading, accepted, unless, read_from, reading_with}
use Rattle.circuit.specs.Records.{empty_circuit}
use Rattle.circuit.specs.Stages.{Stage, stopped, if_passes, section, section_of, failing_before, failing_verdict, judged, type_stage, read_to, ended_verdict, past_verdict, ending_verdict, after_stage, after_inputs, from_start, staged, field_place}
use Rattle.circuit.specs.Before.{types_before}
use Rattle.circuit.specs.Laws.{StagedIsReading}
use Rattle.circuit.proofs.OrderLaws.{kind_is, edge-is, edge-known, edge_no_type, other_kind, known-rank, past, first-place, follows_alike, alone}
use Rattle.circuit.proofs.RangeLaws.{between_in}

-- ---- a field that is tested by its body alone

abbrev pub knowing : Previous → ℕ → Circuit → Known
knowing previous type_at c = record { previous = previous; type_at = type_at; circuit = c }

-- 9 is not looked at, or finds nothing
abbrev pub quiet : Previous → Tag → List ModuleType → Type 0
quiet previous tag types = cond (unjudged previous && not (is_edge tag)) (not_complementary types) false ≡ false

-- a field of a kind that 3, 4 and 9 let through
read-own : (wanted : Bool) (size : ℕ) (known : Known) (f : Field) (rest : Cut) (kind : Tag) → tag_of f.tag ≡ kind
    → is_unknown kind ≡ false → may_follow known.previous kind ≡ true → quiet known.previous kind known.circuit.types
    → read_from wanted size known (field f rest)
    ≡ unless (first_of (body_tests kind known.circuit f.at f.body))
    (read_from wanted size (knowing (after_tag kind) (cond (is_kind type_tag kind) f.at known.type_at) (taken kind known.circuit f.body)) rest)
unfolding read_from field_tests first_of known_after type_at_after
read-own wanted size known f rest kind own a b c = rw (own, a, b, c)

unless-stage : {A : Type 0} (v : Verdict) (r : Reading) (a : A) (cut : Cut) (s : Stage A) (next : A → Cut → Reading)
    → r ≡ after_stage s next → unless v r ≡ after_stage (if_passes v a cut s) next
unfolding unless if_passes after_stage
unless-stage passes r a cut s next e = e
unless-stage (refused_at n p) r a cut s next e = refl

pub judged-quiet : (previous : Previous) (tag : Tag) (types : List ModuleType) → (unjudged previous ≡ true → not_complementary types ≡ false) → quiet previous tag types
judged-quiet previous tag types = go (unjudged previous) (is_edge tag) (not_complementary types)
  where
    go : (u e fl : Bool) → (u ≡ true → fl ≡ false) → cond (u && not e) fl false ≡ false
    go true true fl h = refl
    go true false fl h = h refl
    go false e fl h = refl

-- ---- what a stage starts from

-- the tag of the field that stands next, if one does
abbrev pub next_tag : Cut → Tag
next_tag clean = no_tag
next_tag (broken at) = no_tag
next_tag (field f rest) = tag_of f.tag

pub record Ready (n : ℕ) (previous : Previous) (types : List ModuleType) (cut : Cut) : Type 0 where
  pub low : 1 ≤ reached previous
  pub high : reached previous ≤ n
  pub judged : unjudged previous ≡ true → not_complementary types ≡ false
  pub behind : rank (next_tag cut) < n → may_follow previous (next_tag cut) ≡ false

-- ---- a stage of one kind

-- the tests and the addition of a stage are those of its kind, in the circuit that has what it has gathered
pub record StageOf {A : Type 0} (kind : Tag) (types : List ModuleType)
    (tests : A → ℕ → List ℕ → List Test) (add : A → List ℕ → A) (circuit : A → Circuit) : Type 0 where
  pub low : 3 ≤ rank kind
  pub high : rank kind ≤ 5
  pub same_types : (a : A) → (circuit a).types ≡ types
  pub tested : (a : A) (at : ℕ) (body : List ℕ) → body_tests kind (circuit a) at body ≡ tests a at body
  pub added : (a : A) (body : List ℕ) → taken kind (circuit a) body ≡ circuit (add a body)
  pub known_tag : is_unknown kind ≡ false
  pub in_place : (previous : Previous) → 1 ≤ reached previous → reached previous ≤ rank kind → may_follow previous kind ≡ true

module _ {kind : Tag} {A : Type 0} {types : List ModuleType} {tests : A → ℕ → List ℕ → List Test} {add : A → List ℕ → A} {circuit : A → Circuit}
    (s : StageOf kind types tests add circuit) where
  past_types : unjudged (after_tag kind) ≡ true → not_complementary types ≡ false
  unfolding unjudged
  past_types u = let l = s.low in let z = eqb-true (rank kind) 2 u in absurd (omega arith)

  pub after_own : (rest : Cut) → Ready (rank kind) (after_tag kind) types rest
  after_own rest =
      let l = s.low in
      record { low = omega arith; high = omega arith; judged = past_types; behind = past (after_tag kind) (next_tag rest) l s.high }

  pub at_stop : (previous : Previous) (f : Field) (rest : Cut) → is_kind kind (tag_of f.tag) ≡ false
      → Ready (rank kind) previous types (field f rest) → Ready (suc (rank kind)) previous types (field f rest)
  at_stop previous f rest other r = let h = r.high in record { low = r.low; high = omega arith; judged = r.judged; behind = go }
    where
      go : rank (tag_of f.tag) < suc (rank kind) → may_follow previous (tag_of f.tag) ≡ false
      go h =
          let g = tag_of f.tag in
          let ne : rank g ≡ rank kind → ⊥ = λ e. other_kind kind g other (alone kind g s.low e) in
          r.behind (omega arith)

  pub ready_end : (previous : Previous) (cut : Cut) → rank (next_tag cut) ≡ 6 → Ready (rank kind) previous types cut → Ready (suc (rank kind)) previous types cut
  ready_end previous cut e r =
      let h = r.high in let k = s.high in record { low = r.low; high = omega arith; judged = r.judged; behind = λ q. absurd (omega arith) }

module _ (wanted : Bool) (size : ℕ) (kind : Tag) {A : Type 0} (types : List ModuleType)
    (tests : A → ℕ → List ℕ → List Test) (add : A → List ℕ → A) (circuit : A → Circuit)
    (s : StageOf kind types tests add circuit)
    (next : A → Cut → Reading)
    (goes_on_lem : (a : A) (previous : Previous) (type_at : ℕ) (cut : Cut) → Ready (suc (rank kind)) previous types cut
    → read_from wanted size (knowing previous type_at (circuit a)) cut ≡ next a cut) where
  section_reads : (a : A) (previous : Previous) (type_at : ℕ) (cut : Cut) → Ready (rank kind) previous types cut
      → read_from wanted size (knowing previous type_at (circuit a)) cut ≡ after_stage (section_of kind tests add a cut) next
  unfolding section after_stage unless
  section_reads a previous type_at clean r = goes_on_lem a previous type_at clean (ready_end s previous clean refl r)
  section_reads a previous type_at (broken at) r = goes_on_lem a previous type_at (broken at) (ready_end s previous (broken at) refl r)
  section_reads a previous type_at (field f rest) r =
      go (is_kind kind (tag_of f.tag)) refl
      (section_reads (add a f.body) (after_tag kind) (cond (is_kind type_tag kind) f.at type_at) rest (after_own s rest))
    where
      known : Known
      known = knowing previous type_at (circuit a)

      go : (b : Bool) → is_kind kind (tag_of f.tag) ≡ b
          → read_from wanted size (knowing (after_tag kind) (cond (is_kind type_tag kind) f.at type_at) (circuit (add a f.body))) rest
          ≡ after_stage (section_of kind tests add (add a f.body) rest) next
          → read_from wanted size known (field f rest)
          ≡ after_stage (cond b (if_passes (first_of (tests a f.at f.body)) a (field f rest) (section_of kind tests add (add a f.body) rest)) (stopped a (field f rest))) next
      go true e more =
          read-own wanted size known f rest kind (kind_is kind (tag_of f.tag) e) s.known_tag (s.in_place previous r.low r.high)
          (judged-quiet previous kind (circuit a).types (rw (s.same_types a) r.judged))
          ∙ rw (s.tested a f.at f.body, s.added a f.body)
          (unless-stage (first_of (tests a f.at f.body)) _ a (field f rest) (section_of kind tests add (add a f.body) rest) next more)
      go false e more = goes_on_lem a previous type_at (field f rest) (at_stop s previous f rest e r)

-- ---- the three stages of one kind

module _ (P : ℕ) (types : List ModuleType) where
  pub bridges_stage : StageOf bridge_tag types (λ (bs : List Listed). bridge_tests (length bs)) (λ (bs : List Listed) (body : List ℕ). bs ++ (listed_in body ∷ []))
      (λ (bs : List Listed). record { inputs = P; types = types; bridges = bs; instances = []; vectors = [] })
  unfolding body_tests taken is_kind may_follow
  bridges_stage = record {
    low = omega arith;
    high = omega arith;
    same_types = λ a. refl;
    tested = λ a at body. refl;
    added = λ a body. refl;
    known_tag = refl;
    in_place = λ previous. between_in 1 3 (reached previous);
  }

  pub instances_stage : (bridges : List Listed) → StageOf instance_tag types
      (λ (is : List Instance). instance_tests (read_to P types bridges is))
      (λ (is : List Instance) (body : List ℕ). is ++ (instance_in body ∷ []))
      (λ (is : List Instance). record { inputs = P; types = types; bridges = bridges; instances = is; vectors = [] })
  unfolding body_tests taken is_kind may_follow
  instances_stage bridges = record {
    low = omega arith;
    high = omega arith;
    same_types = λ a. refl;
    tested = λ a at body. refl;
    added = λ a body. refl;
    known_tag = refl;
    in_place = λ previous. between_in 1 4 (reached previous);
  }

  pub vectors_stage : (bridges : List Listed) (instances : List Instance) → StageOf vector_tag types
      (λ (vs : List (List Value)). vector_tests P (length vs))
      (λ (vs : List (List Value)) (body : List ℕ). vs ++ (vector_in body ∷ []))
      (λ (vs : List (List Value)). record { inputs = P; types = types; bridges = bridges; instances = instances; vectors = vs })
  unfolding body_tests taken is_kind may_follow
  vectors_stage bridges instances = record {
    low = omega arith;
    high = omega arith;
    same_types = λ a. refl;
    tested = λ a at body. refl;
    added = λ a body. refl;
    known_tag = refl;
    in_place = λ previous. between_in 1 5 (reached previous);
  }

-- ---- the ending

pub empty-count : {A : Type 0} (as' : List A) → is_empty as' ≡ eqb (length as') 0
unfolding is_empty
empty-count [] = refl
empty-count (a ∷ as') = sym (eqb-suc-zero (length as'))

-- a field that is refused by 3 or by 4
refused-alike : (g : Tag) (previous : Previous) (at : ℕ) (later : Verdict) (more other : Reading) → (is_unknown g ≡ false → may_follow previous g ≡ false)
    → unless (cond (is_unknown g) (refused_at 3 at) (cond (misplaced previous g) (refused_at 4 at) later)) more
    ≡ unless (cond (is_unknown g) (refused_at 3 at) (refused_at 4 at)) other
unfolding unless
refused-alike g previous at later more other = go (is_unknown g) (may_follow previous g)
  where
    go : (u m : Bool) → (u ≡ false → m ≡ false)
        → unless (cond u (refused_at 3 at) (cond (not m) (refused_at 4 at) later)) more ≡ unless (cond u (refused_at 3 at) (refused_at 4 at)) other
    go true m h = refl
    go false true h = let z = h refl in cc
    go false false h = refl

ending_reads : (wanted : Bool) (size : ℕ) (previous : Previous) (type_at : ℕ) (c : Circuit) (cut : Cut) → Ready 6 previous c.types cut
    → read_from wanted size (knowing previous type_at c) cut ≡ unless (ending_verdict wanted size (length c.instances) (length c.vectors) cut) (accepted c)
unfolding read_from unless end_tests first_of ending_verdict ended_verdict past_verdict field_tests
ending_reads wanted size previous type_at c clean r =
    let l = r.low in
    let quiet-end : cond (unjudged previous) (not_complementary c.types) false ≡ false = judged_end (unjudged previous) (not_complementary c.types) r.judged in
    rw (quiet-end, ne_eqb (reached previous) 0 (omega arith), empty-count c.instances, empty-count c.vectors)
  where
    judged_end : (u fl : Bool) → (u ≡ true → fl ≡ false) → cond u fl false ≡ false
    judged_end true fl h = h refl
    judged_end false fl h = refl
ending_reads wanted size previous type_at c (broken at) r = refl
ending_reads wanted size previous type_at c (field f rest) r =
    refused-alike (tag_of f.tag) previous f.at _ _ (accepted c) (λ e. r.behind (known-rank (tag_of f.tag) e))

-- ---- types with their edges

-- before the first type stands the inputs field; after it, a type or an edge
pub record Before (types : List ModuleType) (previous : Previous) : Type 0 where
  pub low : 1 ≤ reached previous
  pub high : reached previous ≤ 2
  pub none : is_empty types ≡ true → reached previous ≡ 1
  pub some : is_empty types ≡ false → unjudged previous ≡ true

pub after-type : (types : List ModuleType) (previous : Previous) → is_empty types ≡ false → reached previous ≡ 2 → Before types previous
unfolding unjudged
after-type types previous e there =
    record { low = omega arith; high = omega arith; none = λ q. cc; some = λ q. eq-eqb (reached previous) 2 there }

-- where the latest type has been judged the next stage can begin
pub ready : (types : List ModuleType) (previous : Previous) (cut : Cut) → Before types previous → (unjudged previous ≡ true → not_complementary types ≡ false)
    → (rank (next_tag cut) < 3 → may_follow previous (next_tag cut) ≡ false) → Ready 3 previous types cut
ready types previous cut b j behind = let h = b.high in record { low = b.low; high = omega arith; judged = j; behind = behind }

-- the tag of an edge field, and what stands before the field behind it
abbrev pub edge_as : Field → EdgeTag
edge_as f = edge_tag_of (tag_of f.tag)

abbrev pub after_edge : Field → Previous
after_edge f = after_tag (edge_tag (edge_as f))

-- what a field makes of the types, as the next edge of the latest or as the next type, and the stage from there
module _ (types : List ModuleType) (f : Field) where
  abbrev pub with_edge : List ModuleType
  with_edge = edges_added types (edges_in (edge_as f) (latest types).output f.body)

  abbrev pub with_type : List ModuleType
  with_type = types ++ (type_in f.body ∷ [])

  module _ (from rest : Cut) where
    abbrev pub more_edges : Stage (List ModuleType)
    more_edges = type_stage with_edge from rest

    abbrev pub more_types : Stage (List ModuleType)
    more_types = type_stage with_type (field f rest) rest

    abbrev pub by_edge : Stage (List ModuleType)
    by_edge = if_passes (first_of (edge_tests (edge_as f) (latest types) f.at f.body)) (types_before types) from more_edges

    abbrev pub by_type : Stage (List ModuleType)
    by_type = if_passes (first_of (type_tests (length types) f.at f.body)) types (field f rest) more_types

    -- it is no edge
    abbrev pub by_other : Stage (List ModuleType)
    by_other = cond (is_kind type_tag (tag_of f.tag)) by_type (stopped types (field f rest))

pub both_true : (a b : Bool) → (a && b) ≡ true → (a ≡ true) × (b ≡ true)
both_true true b e = (refl, e)
both_true false b e = (cc, cc)

-- before the first type no type waits to be judged
pub none_waits : (types : List ModuleType) (previous : Previous) → Before types previous → is_empty types ≡ true → unjudged previous ≡ true
    → not_complementary types ≡ false
unfolding unjudged
none_waits types previous b e u = let n = b.none e in let z = eqb-true (reached previous) 2 u in absurd (omega arith)

pub snoc_some : {A : Type 0} (as' : List A) (a : A) → is_empty (as' ++ (a ∷ [])) ≡ false
unfolding is_empty
snoc_some [] a = refl
snoc_some (b ∷ as') a = refl

pub set-some : {A : Type 0} (as' : List A) (i : ℕ) (a : A) → is_empty as' ≡ false → is_empty (set as' i a) ≡ false
unfolding is_empty
set-some [] i a e = e
set-some (b ∷ as') zero a e = refl
set-some (b ∷ as') (suc i) a e = refl

-- a type that is not complementary, before a field that is not its edge
pub failing-field : (previous : Previous) (type_at : ℕ) (c : Circuit) (f : Field) → unjudged previous ≡ true → not_complementary c.types ≡ true
    → is_edge (tag_of f.tag) ≡ false → first_of (field_tests (knowing previous type_at c) f) ≡ failing_before (tag_of f.tag) f.at type_at
unfolding first_of field_tests failing_before unjudged
failing-field previous type_at c f u fl other =
    let g = tag_of f.tag in
    rw (follows_alike previous (after_tag type_tag) g (eqb-true (reached previous) 2 u), u, other, fl)

-- at a field that is neither a type nor an edge of one, what belongs before bridges is misplaced
pub types-past : (types : List ModuleType) (previous : Previous) (tag : Tag) → Before types previous → (is_edge tag && not (is_empty types)) ≡ false
    → is_kind type_tag tag ≡ false → rank tag < 3 → may_follow previous tag ≡ false
unfolding may_follow is_kind is_edge
types-past types previous inputs_tag b other no-type h = let l = b.low in ne_eqb (reached previous) 0 (omega arith)
types-past types previous type_tag b other no-type h = cc
types-past types previous (edge_tag t) b other no-type h = no_edge_lem (is_empty types) refl other
  where
    no_edge_lem : (em : Bool) → is_empty types ≡ em → not em ≡ false → eqb (reached previous) 2 ≡ false
    no_edge_lem true e o = let n = b.none e in ne_eqb (reached previous) 2 (omega arith)
    no_edge_lem false e o = cc
types-past types previous bridge_tag b other no-type h = absurd (omega arith)
types-past types previous instance_tag b other no-type h = absurd (omega arith)
types-past types previous vector_tag b other no-type h = absurd (omega arith)
types-past types previous no_tag b other no-type h = absurd (omega arith)

abbrev pub with_types : ℕ → List ModuleType → Circuit
with_types P types = record { inputs = P; types = types; bridges = []; instances = []; vectors = [] }

module _ (wanted : Bool) (size P : ℕ) (types : List ModuleType) (previous : Previous) (type_at : ℕ) where
  read_edge : (f : Field) (rest : Cut) → is_edge (tag_of f.tag) ≡ true → unjudged previous ≡ true
      → read_from wanted size (knowing previous type_at (with_types P types)) (field f rest)
      ≡ unless (first_of (edge_tests (edge_as f) (latest types) f.at f.body)) (read_from wanted size (knowing (after_edge f) type_at (with_types P (with_edge types f))) rest)
  unfolding is_edge may_follow unjudged body_tests taken
  read_edge f rest own u =
      let kind = edge_tag (edge_as f) in
      read-own wanted size (knowing previous type_at (with_types P types)) f rest kind (edge-is (tag_of f.tag) own) (edge-known (edge_as f)) u (rw u)
      ∙ rw (edge_no_type (edge_as f)) refl

  read_type : (f : Field) (rest : Cut) → tag_of f.tag ≡ type_tag → 1 ≤ reached previous → reached previous ≤ 2 → (unjudged previous ≡ true → not_complementary types ≡ false)
      → read_from wanted size (knowing previous type_at (with_types P types)) (field f rest)
      ≡ unless (first_of (type_tests (length types) f.at f.body)) (read_from wanted size (knowing (after_tag type_tag) f.at (with_types P (types ++ (type_in f.body ∷ [])))) rest)
  unfolding is_kind may_follow body_tests taken
  read_type f rest own low high j =
      read-own wanted size (knowing previous type_at (with_types P types)) f rest type_tag own refl (between_in 1 2 (reached previous) low high) (judged-quiet previous type_tag types j)

  module _ {A : Type 0} (a : A) (from : Cut) (later : Stage A) (next : A → Cut → Reading) (u : unjudged previous ≡ true) (fl : not_complementary types ≡ true) where
    failing_at_end : read_from wanted size (knowing previous type_at (with_types P types)) clean ≡ after_stage (if_passes (failing_verdict type_at clean) a from later) next
    unfolding read_from end_tests first_of unless failing_verdict if_passes after_stage
    failing_at_end = rw (u, fl)

    failing_at_broken : (at : ℕ)
        → read_from wanted size (knowing previous type_at (with_types P types)) (broken at) ≡ after_stage (if_passes (failing_verdict type_at (broken at)) a from later) next
    unfolding read_from failing_verdict unless if_passes after_stage
    failing_at_broken at = refl

    failing_at_field : (f : Field) (rest : Cut) → is_edge (tag_of f.tag) ≡ false
        → read_from wanted size (knowing previous type_at (with_types P types)) (field f rest)
        ≡ after_stage (if_passes (failing_verdict type_at (field f rest)) a from later) next
    unfolding read_from failing_verdict failing_before unless if_passes after_stage
    failing_at_field f rest other =
        rw (failing-field previous type_at (with_types P types) f u fl other)
        (go (is_unknown (tag_of f.tag)) (misplaced (after_tag type_tag) (tag_of f.tag)) _)
      where
        go : (u l : Bool) (more : Reading)
            → unless (cond u (refused_at 3 f.at) (cond l (refused_at 4 f.at) (refused_at 9 type_at))) more
            ≡ after_stage (if_passes (cond u (refused_at 3 f.at) (cond l (refused_at 4 f.at) (refused_at 9 type_at))) a from later) next
        go true l more = refl
        go false true more = refl
        go false false more = refl

module _ (wanted : Bool) (size P : ℕ) where
  module _ (next : List ModuleType → Cut → Reading)
      (goes_on_lem : (types : List ModuleType) (previous : Previous) (type_at : ℕ) (cut : Cut) → Ready 3 previous types cut
      → read_from wanted size (knowing previous type_at (with_types P types)) cut ≡ next types cut) where
    -- the latest type is judged: where it is not complementary, so that this is what is read, and else
    judge : (types : List ModuleType) (previous : Previous) (from cut : Cut) (later : Stage (List ModuleType)) → Before types previous
        → (is_empty types ≡ false → not_complementary types ≡ true
        → read_from wanted size (knowing previous (field_place from) (with_types P types)) cut ≡ after_stage (if_passes (failing_verdict (field_place from) cut) (types_before types) from later) next)
        → ((unjudged previous ≡ true → not_complementary types ≡ false) → read_from wanted size (knowing previous (field_place from) (with_types P types)) cut ≡ after_stage later next)
        → read_from wanted size (knowing previous (field_place from) (with_types P types)) cut ≡ after_stage (if_passes (judged types (field_place from) cut) (types_before types) from later) next
    unfolding judged if_passes
    judge types previous from cut later b failing fine = go (is_empty types) (not_complementary types) refl refl
      where
        go : (em fl : Bool) → is_empty types ≡ em → not_complementary types ≡ fl
            → read_from wanted size (knowing previous (field_place from) (with_types P types)) cut
            ≡ after_stage (if_passes (cond em passes (cond fl (failing_verdict (field_place from) cut) passes)) (types_before types) from later) next
        go true fl e f = fine (none_waits types previous b e)
        go false true e f = failing e f
        go false false e f = fine (λ u. f)

    types_read : (types : List ModuleType) (previous : Previous) (from cut : Cut) → Before types previous
        → read_from wanted size (knowing previous (field_place from) (with_types P types)) cut ≡ after_stage (type_stage types from cut) next
    unfolding type_stage after_stage edges_added unless field_place
    types_read types previous from clean b =
        judge types previous from clean (stopped types clean) b
        (λ em fl. failing_at_end wanted size P types previous (field_place from) (types_before types) from (stopped types clean) next (b.some em) fl)
        (λ j. goes_on_lem types previous (field_place from) clean (ready types previous clean b j (λ h. absurd (omega arith))))
    types_read types previous from (broken at) b =
        judge types previous from (broken at) (stopped types (broken at)) b
        (λ em fl. failing_at_broken wanted size P types previous (field_place from) (types_before types) from (stopped types (broken at)) next (b.some em) fl at)
        (λ j. goes_on_lem types previous (field_place from) (broken at) (ready types previous (broken at) b j (λ h. absurd (omega arith))))
    types_read types previous from (field f rest) b =
        go (is_edge (tag_of f.tag) && not (is_empty types)) refl
        (λ c. types_read (with_edge types f) (after_edge f) from rest c)
        (λ c. types_read (with_type types f) (after_tag type_tag) (field f rest) rest c)
      where
        go : (own : Bool) → (is_edge (tag_of f.tag) && not (is_empty types)) ≡ own
            → (Before (with_edge types f) (after_edge f) → read_from wanted size (knowing (after_edge f) (field_place from) (with_types P (with_edge types f))) rest
            ≡ after_stage (more_edges types f from rest) next)
            → (Before (with_type types f) (after_tag type_tag) → read_from wanted size (knowing (after_tag type_tag) f.at (with_types P (with_type types f))) rest
            ≡ after_stage (more_types types f from rest) next)
            → read_from wanted size (knowing previous (field_place from) (with_types P types)) (field f rest)
            ≡ after_stage (cond own (by_edge types f from rest) (if_passes (judged types (field_place from) (field f rest)) (types_before types) from (by_other types f from rest))) next
        go true e more-edge more-type =
            let parts = both_true (is_edge (tag_of f.tag)) (not (is_empty types)) e in
            let some = not-true (is_empty types) parts.1 in
            read_edge wanted size P types previous (field_place from) f rest parts.0 (b.some some)
            ∙ unless-stage (first_of (edge_tests (edge_as f) (latest types) f.at f.body)) _ (types_before types) from (more_edges types f from rest) next
            (more-edge (after-type (with_edge types f) (after_edge f)
            (set-some types (length types - 1) (with_edges (latest types) (edges_in (edge_as f) (latest types).output f.body)) some) refl))
        go false e more-edge more-type = judge types previous from (field f rest) (by_other types f from rest) b failing fine
          where
            failing : is_empty types ≡ false → not_complementary types ≡ true → read_from wanted size (knowing previous (field_place from) (with_types P types)) (field f rest)
                ≡ after_stage (if_passes (failing_verdict (field_place from) (field f rest)) (types_before types) from (by_other types f from rest)) next
            failing em fl =
                failing_at_field wanted size P types previous (field_place from) (types_before types) from (by_other types f from rest) next (b.some em) fl f rest
                (sym (and-true (is_edge (tag_of f.tag))) ∙ (rw em at e))

            as_type : (two : Bool) → is_kind type_tag (tag_of f.tag) ≡ two → (unjudged previous ≡ true → not_complementary types ≡ false)
                → read_from wanted size (knowing previous (field_place from) (with_types P types)) (field f rest) ≡ after_stage (cond two (by_type types f from rest) (stopped types (field f rest))) next
            as_type true q j =
                read_type wanted size P types previous (field_place from) f rest (kind_is type_tag (tag_of f.tag) q) b.low b.high j
                ∙ unless-stage (first_of (type_tests (length types) f.at f.body)) _ types (field f rest) (more_types types f from rest) next
                (more-type (after-type (with_type types f) (after_tag type_tag) (snoc_some types (type_in f.body)) refl))
            as_type false q j =
                goes_on_lem types previous (field_place from) (field f rest) (ready types previous (field f rest) b j (types-past types previous (tag_of f.tag) b e q))

            fine : (unjudged previous ≡ true → not_complementary types ≡ false)
                → read_from wanted size (knowing previous (field_place from) (with_types P types)) (field f rest)
                ≡ after_stage (by_other types f from rest) next
            fine = as_type (is_kind type_tag (tag_of f.tag)) refl

-- ---- the whole

-- every stage after the inputs field
after_inputs_lem : (wanted : Bool) (size P : ℕ) (cut : Cut) → read_from wanted size (knowing (after_tag inputs_tag) 0 (with_types P [])) cut ≡ after_inputs wanted size P cut
unfolding after_inputs is_empty unjudged field_place
after_inputs_lem wanted size P cut =
    types_read wanted size P _ (λ types p₂ at₂ cut₂ r₂.
    section_reads wanted size bridge_tag types _ _ _ (bridges_stage P types) _ (λ bridges p₃ at₃ cut₃ r₃.
    section_reads wanted size instance_tag types _ _ _ (instances_stage P types bridges) _ (λ instances p₄ at₄ cut₄ r₄.
    section_reads wanted size vector_tag types _ _ _ (vectors_stage P types bridges instances) _ (λ vectors p₅ at₅ cut₅ r₅.
    ending_reads wanted size p₅ at₅ (record { inputs = P; types = types; bridges = bridges; instances = instances; vectors = vectors }) cut₅ r₅)
    [] p₄ at₄ cut₄ r₄) [] p₃ at₃ cut₃ r₃) [] p₂ at₂ cut₂ r₂) [] (after_tag inputs_tag) clean cut
    (record { low = omega arith; high = omega arith; none = λ e. refl; some = λ e. cc })

read_first : (wanted : Bool) (size : ℕ) (f : Field) (rest : Cut) → tag_of f.tag ≡ inputs_tag
    → read_from wanted size start (field f rest) ≡ unless (first_of (inputs_tests f.at f.body)) (after_inputs wanted size (two_bytes f.body 0) rest)
unfolding is_kind may_follow unjudged body_tests taken
read_first wanted size f rest own =
    read-own wanted size start f rest inputs_tag own refl refl refl ∙ ap (unless (first_of (inputs_tests f.at f.body))) (after_inputs_lem wanted size (two_bytes f.body 0) rest)

read-other : (wanted : Bool) (size : ℕ) (f : Field) (rest : Cut) → is_kind inputs_tag (tag_of f.tag) ≡ false
    → read_from wanted size start (field f rest) ≡ unless (past_verdict (tag_of f.tag) f.at) (accepted empty_circuit)
unfolding read_from field_tests first_of past_verdict
read-other wanted size f rest other =
    refused-alike (tag_of f.tag) start_of_file f.at _ _ (accepted empty_circuit) (first-place start_of_file (tag_of f.tag) refl other)

from_start_lem : (wanted : Bool) (size : ℕ) (cut : Cut) → from_start wanted size cut ≡ read_from wanted size start cut
unfolding from_start read_from unless end_tests first_of unjudged ending_verdict ended_verdict
from_start_lem wanted size clean = refl
from_start_lem wanted size (broken at) = refl
from_start_lem wanted size (field f rest) = go (is_kind inputs_tag (tag_of f.tag)) refl
  where
    go : (own : Bool) → is_kind inputs_tag (tag_of f.tag) ≡ own
        → cond own (unless (first_of (inputs_tests f.at f.body)) (after_inputs wanted size (two_bytes f.body 0) rest))
        (unless (past_verdict (tag_of f.tag) f.at) (accepted empty_circuit))
        ≡ read_from wanted size start (field f rest)
    go true e = sym (read_first wanted size f rest (kind_is inputs_tag (tag_of f.tag) e))
    go false e = sym (read-other wanted size f rest e)

pub staged_is_reading : StagedIsReading
unfolding staged reading_with
staged_is_reading wanted file = rw (from_start_lem wanted (length file) (cut_from file 0))
