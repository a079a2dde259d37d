-- What the stages gather is what was read before the refused field: a stage that refuses leaves the later ones a field that is not theirs. And of an accepted
-- file it is the circuit, since a reading is accepted only where every verdict on the way passes.
use Prim.Native.Nat.{ℕ, suc, ◌-◌, ◌<◌, ◌≤◌}
use mathlib.Core.Path.{◌≡◌, refl, sym, ap, ◌∙◌}
use mathlib.Core.Bool.{Bool, true, false, cond, not, ◌&&◌, ◌||◌, and-true}
use mathlib.Core.List.{List, []}
use native.Mathlib.Omega.{arith}
use borrow.Author.Tests.{not-true}
use lib.Dec.{ltb}
use lib.ListN.{length}
use Rattle.switch.specs.Conduction.{Value}
use Rattle.switch.specs.Modules.{ModuleType}
use Rattle.circuit.specs.Limits.{most_bytes}
use Rattle.circuit.specs.Fields.{Field, Cut, clean, broken, field, cut_from, two_bytes}
use Rattle.circuit.specs.Circuit.{Circuit, Instance, Listed}
use Rattle.circuit.specs.Order.{Tag, inputs_tag, type_tag, edge_tag, bridge_tag, instance_tag, vector_tag, no_tag, tag_of, is_kind, is_edge, is_unknown, rank, Previous, start_of_file, after_tag, reached, may_follow}
use Rattle.circuit.specs.Known.{Known, start, type_in, edges_in, latest, with_edges, edges_added, taken, type_at_after, known_after}
use Rattle.circuit.specs.Table.{Test, Verdict, passes, refused_at, first_of, misplaced, unjudged, not_complementary, is_empty, inputs_tests, type_tests, edge_tests, body_tests, field_tests}
use Rattle.circuit.specs.Reading.{Reading, accepted, refusal, unless}
use Rattle.circuit.specs.Records.{empty_circuit}
use Rattle.circuit.specs.Verdicts.{is_refused}
use Rattle.circuit.specs.Before.{types_before, without_latest, finished, before_from, read_before}
use Rattle.circuit.specs.Stages.{Stage, stopped, if_passes, section, section_of, bridge_stage, instance_stage, vector_stage, failing_before, failing_verdict, judged, field_place, type_stage, past_verdict, after_stage, after_inputs, from_start, staged, gathered_from, gathered_at_start, gathered_of}
use Rattle.circuit.specs.Laws.{GatheredIsBefore, BeforeIsCircuit}
use Rattle.circuit.proofs.StageLaws.{knowing, quiet, judged-quiet, Ready, StageOf, after_own, at_stop, ready_end, bridges_stage, instances_stage, vectors_stage, Before, after-type, ready, edge_as, after_edge, with_edge, with_type, more_edges, more_types, by_edge, by_type, by_other, both_true, none_waits, snoc_some, set-some, failing-field, types-past, with_types, staged_is_reading}
use Rattle.circuit.proofs.OrderLaws.{kind_is, edge-is, edge-known, edge_no_type, known-rank, first-place}
use Rattle.circuit.proofs.RangeLaws.{between_in}

-- ---- a field, and what is known before it

-- a field of a kind that 3, 4 and 9 let through
before-own : (known : Known) (f : Field) (rest : Cut) (kind : Tag) → tag_of f.tag ≡ kind
    → is_unknown kind ≡ false → may_follow known.previous kind ≡ true → quiet known.previous kind known.circuit.types
    → before_from known (field f rest)
    ≡ cond (is_refused (first_of (body_tests kind known.circuit f.at f.body))) (finished known (is_edge kind))
    (before_from (knowing (after_tag kind) (cond (is_kind type_tag kind) f.at known.type_at) (taken kind known.circuit f.body)) rest)
unfolding before_from field_tests first_of known_after type_at_after
before-own known f rest kind own a b c = rw (own, a, b, c)

-- a latest type that is finished stands
stands : (previous : Previous) (type_at : ℕ) (c : Circuit) (edge : Bool) → (unjudged previous ≡ true → (edge || not_complementary c.types) ≡ false)
    → finished (knowing previous type_at c) edge ≡ c
unfolding finished
stands previous type_at c edge = go (unjudged previous) (edge || not_complementary c.types)
  where
    go : (u d : Bool) → (u ≡ true → d ≡ false) → cond (u && d) (without_latest c) c ≡ c
    go true true h = let z = h refl in cc
    go true false h = refl
    go false d h = refl

-- one that is not does not
drops : (previous : Previous) (type_at : ℕ) (c : Circuit) (edge : Bool) → unjudged previous ≡ true → (edge || not_complementary c.types) ≡ true
    → finished (knowing previous type_at c) edge ≡ without_latest c
unfolding finished
drops previous type_at c edge u d = rw (u, d)

-- ---- behind a stage

abbrev goes_on : {A : Type 0} → (A → Cut → Circuit) → Stage A → Circuit
goes_on next s = next s.gathered s.rest

at-verdict : {A : Type 0} (next : A → Cut → Circuit) (v : Verdict) (a : A) (cut : Cut) (s : Stage A) (x y : Circuit)
    → x ≡ next a cut → y ≡ goes_on next s → cond (is_refused v) x y ≡ goes_on next (if_passes v a cut s)
unfolding is_refused if_passes
at-verdict next passes a cut s x y here later = later
at-verdict next (refused_at number place) a cut s x y here later = here

at-refusal : {A : Type 0} (next : A → Cut → Circuit) (v : Verdict) (a : A) (cut : Cut) (s : Stage A) → is_refused v ≡ true
    → goes_on next (if_passes v a cut s) ≡ next a cut
unfolding is_refused if_passes
at-refusal next passes a cut s e = cc
at-refusal next (refused_at number place) a cut s e = refl

-- ---- a stage of one kind

no_edge_tag : (kind : Tag) → 3 ≤ rank kind → is_edge kind ≡ false
unfolding is_edge
no_edge_tag inputs_tag low = refl
no_edge_tag type_tag low = refl
no_edge_tag (edge_tag t) low = absurd (omega arith)
no_edge_tag bridge_tag low = refl
no_edge_tag instance_tag low = refl
no_edge_tag vector_tag low = refl
no_edge_tag no_tag low = refl

module _ (kind : Tag) {A : Type 0} (types : List ModuleType)
    (tests : A → ℕ → List ℕ → List Test) (add : A → List ℕ → A) (circuit : A → Circuit)
    (s : StageOf kind types tests add circuit)
    (next : A → Cut → Circuit)
    (goes_on_lem : (a : A) (previous : Previous) (type_at : ℕ) (cut : Cut) → Ready (suc (rank kind)) previous types cut → before_from (knowing previous type_at (circuit a)) cut ≡ next a cut)
    (stays : (a : A) (f : Field) (rest : Cut) → tag_of f.tag ≡ kind → next a (field f rest) ≡ circuit a) where
  section_gathers : (a : A) (previous : Previous) (type_at : ℕ) (cut : Cut) → Ready (rank kind) previous types cut
      → before_from (knowing previous type_at (circuit a)) cut ≡ goes_on next (section_of kind tests add a cut)
  unfolding section
  section_gathers a previous type_at clean r = goes_on_lem a previous type_at clean (ready_end s previous clean refl r)
  section_gathers a previous type_at (broken at) r = goes_on_lem a previous type_at (broken at) (ready_end s previous (broken at) refl r)
  section_gathers a previous type_at (field f rest) r =
      go (is_kind kind (tag_of f.tag)) refl
      (section_gathers (add a f.body) (after_tag kind) (cond (is_kind type_tag kind) f.at type_at) rest (after_own s rest))
    where
      known : Known
      known = knowing previous type_at (circuit a)

      more : Stage A
      more = section_of kind tests add (add a f.body) rest

      kept : tag_of f.tag ≡ kind → finished known (is_edge kind) ≡ next a (field f rest)
      kept own =
          rw (no_edge_tag kind s.low) (stands previous type_at (circuit a) false (rw (s.same_types a) r.judged))
          ∙ sym (stays a f rest own)

      go : (b : Bool) → is_kind kind (tag_of f.tag) ≡ b
          → before_from (knowing (after_tag kind) (cond (is_kind type_tag kind) f.at type_at) (circuit (add a f.body))) rest ≡ goes_on next more
          → before_from known (field f rest)
          ≡ goes_on next (cond b (if_passes (first_of (tests a f.at f.body)) a (field f rest) more) (stopped a (field f rest)))
      go true e later =
          let own = kind_is kind (tag_of f.tag) e in
          before-own known f rest kind own s.known_tag (s.in_place previous r.low r.high)
          (judged-quiet previous kind (circuit a).types (rw (s.same_types a) r.judged))
          ∙ rw (s.tested a f.at f.body, s.added a f.body)
          (at-verdict next (first_of (tests a f.at f.body)) a (field f rest) more _ _ (kept own) later)
      go false e later = goes_on_lem a previous type_at (field f rest) (at_stop s previous f rest e r)

-- ---- the ending

-- a field that is refused by 3 or by 4
is-refused : (u m : Bool) (at : ℕ) (later : Verdict) (x y : Circuit) → (u ≡ false → m ≡ false)
    → cond (is_refused (cond u (refused_at 3 at) (cond (not m) (refused_at 4 at) later))) x y ≡ x
unfolding is_refused
is-refused true m at later x y h = refl
is-refused false true at later x y h = let z = h refl in cc
is-refused false false at later x y h = refl

-- an edge that is misplaced follows no type that waits to be judged
no_edge_lem : (previous : Previous) (types : List ModuleType) (g : Tag) → (unjudged previous ≡ true → not_complementary types ≡ false)
    → (rank g < 6 → may_follow previous g ≡ false) → unjudged previous ≡ true → (is_edge g || not_complementary types) ≡ false
unfolding is_edge may_follow unjudged
no_edge_lem previous types inputs_tag j h u = j u
no_edge_lem previous types type_tag j h u = j u
no_edge_lem previous types (edge_tag t) j h u = let z = h (omega arith) in cc (z, u)
no_edge_lem previous types bridge_tag j h u = j u
no_edge_lem previous types instance_tag j h u = j u
no_edge_lem previous types vector_tag j h u = j u
no_edge_lem previous types no_tag j h u = j u

ending_stands : (previous : Previous) (type_at : ℕ) (c : Circuit) (cut : Cut) → Ready 6 previous c.types cut → before_from (knowing previous type_at c) cut ≡ c
unfolding before_from field_tests first_of
ending_stands previous type_at c clean r = stands previous type_at c false r.judged
ending_stands previous type_at c (broken at) r = stands previous type_at c false r.judged
ending_stands previous type_at c (field f rest) r =
    let g = tag_of f.tag in
    is-refused (is_unknown g) (may_follow previous g) f.at _ _ _ (λ e. r.behind (known-rank g e))
    ∙ stands previous type_at c (is_edge g) (no_edge_lem previous c.types g r.judged r.behind)

-- ---- types with their edges

failing-before-refuses : (tag : Tag) (at type_at : ℕ) → is_refused (failing_before tag at type_at) ≡ true
unfolding failing_before is_refused
failing-before-refuses tag at type_at = go (is_unknown tag) (misplaced (after_tag type_tag) tag)
  where
    go : (a b : Bool) → is_refused (cond a (refused_at 3 at) (cond b (refused_at 4 at) (refused_at 9 type_at))) ≡ true
    go true b = refl
    go false true = refl
    go false false = refl

pub failing-refuses : (type_at : ℕ) (cut : Cut) → is_refused (failing_verdict type_at cut) ≡ true
unfolding failing_verdict is_refused
failing-refuses type_at clean = refl
failing-refuses type_at (broken at) = refl
failing-refuses type_at (field f rest) = failing-before-refuses (tag_of f.tag) f.at type_at

or_true : (a b : Bool) → b ≡ true → (a || b) ≡ true
or_true true b e = refl
or_true false b e = e

module _ (P : ℕ) (next : List ModuleType → Cut → Circuit)
    (goes_on_lem : (types : List ModuleType) (previous : Previous) (type_at : ℕ) (cut : Cut) → Ready 3 previous types cut
    → before_from (knowing previous type_at (with_types P types)) cut ≡ next types cut)
    (stays : (types : List ModuleType) (f : Field) (rest : Cut) → tag_of f.tag ≡ type_tag → next types (field f rest) ≡ with_types P types) where
  -- the latest type is judged: it is dropped, or the stage goes on
  judge : (types : List ModuleType) (previous : Previous) (from cut : Cut) (later : Stage (List ModuleType)) (x : Circuit) → Before types previous
      → next (types_before types) from ≡ with_types P (types_before types)
      → (is_empty types ≡ false → not_complementary types ≡ true → x ≡ with_types P (types_before types))
      → ((unjudged previous ≡ true → not_complementary types ≡ false) → x ≡ goes_on next later)
      → x ≡ goes_on next (if_passes (judged types (field_place from) cut) (types_before types) from later)
  unfolding judged if_passes
  judge types previous from cut later x b holds failing fine = go (is_empty types) (not_complementary types) refl refl
    where
      go : (em fl : Bool) → is_empty types ≡ em → not_complementary types ≡ fl
          → x ≡ goes_on next (if_passes (cond em passes (cond fl (failing_verdict (field_place from) cut) passes)) (types_before types) from later)
      go true fl e f = fine (none_waits types previous b e)
      go false true e f =
          failing e f ∙ sym holds
          ∙ sym (at-refusal next (failing_verdict (field_place from) cut) (types_before types) from later (failing-refuses (field_place from) cut))
      go false false e f = fine (λ u. f)

  module _ (types : List ModuleType) (previous : Previous) (type_at : ℕ) (u : unjudged previous ≡ true) (fl : not_complementary types ≡ true) where
    at_end : before_from (knowing previous type_at (with_types P types)) clean ≡ with_types P (types_before types)
    unfolding before_from
    at_end = drops previous type_at (with_types P types) false u fl

    at_broken : (at : ℕ) → before_from (knowing previous type_at (with_types P types)) (broken at) ≡ with_types P (types_before types)
    unfolding before_from
    at_broken at = drops previous type_at (with_types P types) false u fl

  module _ (types : List ModuleType) (previous : Previous) (from : Cut) (f : Field) (rest : Cut) (more : Stage (List ModuleType)) where
    at_edge : is_edge (tag_of f.tag) ≡ true → unjudged previous ≡ true → next (types_before types) from ≡ with_types P (types_before types)
        → before_from (knowing (after_edge f) (field_place from) (with_types P (with_edge types f))) rest ≡ goes_on next more
        → before_from (knowing previous (field_place from) (with_types P types)) (field f rest)
        ≡ goes_on next (if_passes (first_of (edge_tests (edge_as f) (latest types) f.at f.body)) (types_before types) from more)
    unfolding is_edge may_follow unjudged body_tests taken
    at_edge own u holds later =
        before-own (knowing previous (field_place from) (with_types P types)) f rest (edge_tag (edge_as f)) (edge-is (tag_of f.tag) own)
        (edge-known (edge_as f)) u (rw u)
        ∙ rw (edge_no_type (edge_as f))
        (at-verdict next (first_of (edge_tests (edge_as f) (latest types) f.at f.body)) (types_before types) from more _ _
        (drops previous (field_place from) (with_types P types) true u refl ∙ sym holds) later)

    at_type : tag_of f.tag ≡ type_tag → 1 ≤ reached previous → reached previous ≤ 2 → (unjudged previous ≡ true → not_complementary types ≡ false)
        → before_from (knowing (after_tag type_tag) f.at (with_types P (with_type types f))) rest ≡ goes_on next more
        → before_from (knowing previous (field_place from) (with_types P types)) (field f rest)
        ≡ goes_on next (if_passes (first_of (type_tests (length types) f.at f.body)) types (field f rest) more)
    unfolding is_kind is_edge may_follow body_tests taken
    at_type own low high j later =
        before-own (knowing previous (field_place from) (with_types P types)) f rest type_tag own refl (between_in 1 2 (reached previous) low high) (judged-quiet previous type_tag types j)
        ∙ at-verdict next (first_of (type_tests (length types) f.at f.body)) types (field f rest) more _ _
        (stands previous (field_place from) (with_types P types) false j ∙ sym (stays types f rest own)) later

    at_failing : is_edge (tag_of f.tag) ≡ false → unjudged previous ≡ true → not_complementary types ≡ true
        → before_from (knowing previous (field_place from) (with_types P types)) (field f rest) ≡ with_types P (types_before types)
    unfolding before_from
    at_failing other u fl =
        rw (
          failing-field previous (field_place from) (with_types P types) f u fl other,
          failing-before-refuses (tag_of f.tag) f.at (field_place from),
        )
        (drops previous (field_place from) (with_types P types) (is_edge (tag_of f.tag)) u (or_true (is_edge (tag_of f.tag)) (not_complementary types) fl))

  types_gather : (types : List ModuleType) (previous : Previous) (from cut : Cut) → Before types previous
      → ((ts : List ModuleType) → next ts from ≡ with_types P ts)
      → before_from (knowing previous (field_place from) (with_types P types)) cut ≡ goes_on next (type_stage types from cut)
  unfolding type_stage edges_added field_place
  types_gather types previous from clean b holds =
      judge types previous from clean (stopped types clean) _ b (holds (types_before types))
      (λ em fl. at_end types previous (field_place from) (b.some em) fl)
      (λ j. goes_on_lem types previous (field_place from) clean (ready types previous clean b j (λ h. absurd (omega arith))))
  types_gather types previous from (broken at) b holds =
      judge types previous from (broken at) (stopped types (broken at)) _ b (holds (types_before types))
      (λ em fl. at_broken types previous (field_place from) (b.some em) fl at)
      (λ j. goes_on_lem types previous (field_place from) (broken at) (ready types previous (broken at) b j (λ h. absurd (omega arith))))
  types_gather types previous from (field f rest) b holds =
      go (is_edge (tag_of f.tag) && not (is_empty types)) refl
      (λ c. types_gather (with_edge types f) (after_edge f) from rest c holds)
      (λ c q. types_gather (with_type types f) (after_tag type_tag) (field f rest) rest c (λ ts. stays ts f rest q))
    where
      known : Known
      known = knowing previous (field_place from) (with_types P types)

      go : (own : Bool) → (is_edge (tag_of f.tag) && not (is_empty types)) ≡ own
          → (Before (with_edge types f) (after_edge f)
          → before_from (knowing (after_edge f) (field_place from) (with_types P (with_edge types f))) rest ≡ goes_on next (more_edges types f from rest))
          → (Before (with_type types f) (after_tag type_tag) → tag_of f.tag ≡ type_tag
          → before_from (knowing (after_tag type_tag) f.at (with_types P (with_type types f))) rest ≡ goes_on next (more_types types f from rest))
          → before_from known (field f rest)
          ≡ goes_on next (cond own (by_edge types f from rest) (if_passes (judged types (field_place from) (field f rest)) (types_before types) from (by_other types f from rest)))
      go true e later_edge later-type =
          let parts = both_true (is_edge (tag_of f.tag)) (not (is_empty types)) e in
          let some = not-true (is_empty types) parts.1 in
          at_edge types previous from f rest (more_edges types f from rest) parts.0 (b.some some) (holds (types_before types))
          (later_edge (after-type (with_edge types f) (after_edge f)
          (set-some types (length types - 1) (with_edges (latest types) (edges_in (edge_as f) (latest types).output f.body)) some) refl))
      go false e later_edge later-type =
          judge types previous from (field f rest) (by_other types f from rest) _ b (holds (types_before types))
          (λ em fl. at_failing types previous from f rest (by_type types f from rest) (sym (and-true (is_edge (tag_of f.tag))) ∙ (rw em at e)) (b.some em) fl)
          (as_type (is_kind type_tag (tag_of f.tag)) refl)
        where
          as_type : (two : Bool) → is_kind type_tag (tag_of f.tag) ≡ two → (unjudged previous ≡ true → not_complementary types ≡ false)
              → before_from known (field f rest) ≡ goes_on next (cond two (by_type types f from rest) (stopped types (field f rest)))
          as_type true q j =
              let own = kind_is type_tag (tag_of f.tag) q in
              at_type types previous from f rest (more_types types f from rest) own b.low b.high j
              (later-type (after-type (with_type types f) (after_tag type_tag) (snoc_some types (type_in f.body)) refl) own)
          as_type false q j =
              goes_on_lem types previous (field_place from) (field f rest) (ready types previous (field f rest) b j (types-past types previous (tag_of f.tag) b e q))

-- ---- the whole

abbrev circuit_of : ℕ → List ModuleType → List Listed → List Instance → List (List Value) → Circuit
circuit_of P types bridges instances vectors = record { inputs = P; types = types; bridges = bridges; instances = instances; vectors = vectors }

abbrev then_vectors : ℕ → List ModuleType → List Listed → List Instance → Cut → Circuit
then_vectors P types bridges instances cut = goes_on (λ (vectors : List (List Value)) (c : Cut). circuit_of P types bridges instances vectors) (vector_stage P [] cut)

abbrev then_instances : ℕ → List ModuleType → List Listed → Cut → Circuit
then_instances P types bridges cut = goes_on (then_vectors P types bridges) (instance_stage P types bridges [] cut)

abbrev then_bridges : ℕ → List ModuleType → Cut → Circuit
then_bridges P types cut = goes_on (then_instances P types) (bridge_stage [] cut)

module _ (P : ℕ) where
  -- at a field of an earlier stage nothing is read
  no_vectors : (types : List ModuleType) (bridges : List Listed) (instances : List Instance) (f : Field) (rest : Cut) → tag_of f.tag ≡ instance_tag
      → then_vectors P types bridges instances (field f rest) ≡ circuit_of P types bridges instances []
  unfolding section is_kind
  no_vectors types bridges instances f rest own = rw own

  no_instances : (types : List ModuleType) (bridges : List Listed) (f : Field) (rest : Cut) → tag_of f.tag ≡ bridge_tag
      → then_instances P types bridges (field f rest) ≡ circuit_of P types bridges [] []
  unfolding section is_kind
  no_instances types bridges f rest own = rw (own, own)

  no_bridges_lem : (types : List ModuleType) (f : Field) (rest : Cut) → tag_of f.tag ≡ type_tag → then_bridges P types (field f rest) ≡ with_types P types
  unfolding section is_kind
  no_bridges_lem types f rest own = rw (own, own, own)

  nothing_left : (types : List ModuleType) → then_bridges P types clean ≡ with_types P types
  unfolding section
  nothing_left types = refl

  after_inputs_lem : (cut : Cut) → before_from (knowing (after_tag inputs_tag) 0 (with_types P [])) cut ≡ gathered_from P cut
  unfolding gathered_from is_empty unjudged field_place
  after_inputs_lem cut =
      types_gather P (then_bridges P) (λ types p₂ at₂ cut₂ r₂.
      section_gathers bridge_tag types _ _ _ (bridges_stage P types) (then_instances P types) (λ bridges p₃ at₃ cut₃ r₃.
      section_gathers instance_tag types _ _ _ (instances_stage P types bridges) (then_vectors P types bridges) (λ instances p₄ at₄ cut₄ r₄.
      section_gathers vector_tag types _ _ _ (vectors_stage P types bridges instances) _
      (λ vectors p₅ at₅ cut₅ r₅. ending_stands p₅ at₅ (circuit_of P types bridges instances vectors) cut₅ r₅) (λ vectors f rest own. refl)
      [] p₄ at₄ cut₄ r₄) (λ instances f rest own. no_vectors types bridges instances f rest own)
      [] p₃ at₃ cut₃ r₃) (λ bridges f rest own. no_instances types bridges f rest own)
      [] p₂ at₂ cut₂ r₂) no_bridges_lem [] (after_tag inputs_tag) clean cut
      (record { low = omega arith; high = omega arith; none = λ e. refl; some = λ e. cc }) nothing_left

start_first : (f : Field) (rest : Cut) → tag_of f.tag ≡ inputs_tag
    → cond (is_refused (first_of (inputs_tests f.at f.body))) empty_circuit (gathered_from (two_bytes f.body 0) rest) ≡ before_from start (field f rest)
unfolding is_kind may_follow body_tests taken finished unjudged
start_first f rest own =
    sym (before-own start f rest inputs_tag own refl refl refl
    ∙ ap (cond (is_refused (first_of (inputs_tests f.at f.body))) empty_circuit) (after_inputs_lem (two_bytes f.body 0) rest))

start-other : (f : Field) (rest : Cut) → is_kind inputs_tag (tag_of f.tag) ≡ false → before_from start (field f rest) ≡ empty_circuit
unfolding before_from field_tests first_of finished unjudged
start-other f rest other =
    is-refused (is_unknown (tag_of f.tag)) (may_follow start_of_file (tag_of f.tag)) f.at _ _ _
    (first-place start_of_file (tag_of f.tag) refl other)

from_start_lem : (cut : Cut) → gathered_at_start cut ≡ before_from start cut
unfolding gathered_at_start before_from finished unjudged
from_start_lem clean = refl
from_start_lem (broken at) = refl
from_start_lem (field f rest) = go (is_kind inputs_tag (tag_of f.tag)) refl
  where
    go : (own : Bool) → is_kind inputs_tag (tag_of f.tag) ≡ own
        → cond own (cond (is_refused (first_of (inputs_tests f.at f.body))) empty_circuit (gathered_from (two_bytes f.body 0) rest)) empty_circuit
        ≡ before_from start (field f rest)
    go true e = start_first f rest (kind_is inputs_tag (tag_of f.tag) e)
    go false e = sym (start-other f rest e)

pub gathered_is_before : GatheredIsBefore
unfolding gathered_of read_before
gathered_is_before file = rw (from_start_lem (cut_from file 0))

-- ---- accepted files

not-accepted : (number place : ℕ) (c : Circuit) → refusal number place ≡ accepted c → {A : Type 0} → A
not-accepted number place c e = let z : ◌≡◌ {A = ℕ} 0 1 = cc in absurd (omega arith)

-- what is accepted behind a verdict is accepted, and the verdict passes
behind : (v : Verdict) (r : Reading) (c : Circuit) → unless v r ≡ accepted c → (is_refused v ≡ false) × (r ≡ accepted c)
unfolding unless is_refused
behind passes r c e = (refl, e)
behind (refused_at number place) r c e = not-accepted number place c e

same-circuit : (c d : Circuit) → accepted c ≡ accepted d → c ≡ d
same-circuit c d e = cc

inputs-accepted : (wanted : Bool) (size P : ℕ) (cut : Cut) (c : Circuit) → after_inputs wanted size P cut ≡ accepted c → gathered_from P cut ≡ c
unfolding after_inputs after_stage gathered_from
inputs-accepted wanted size P cut c e =
    same-circuit _ c (behind _ _ c (behind _ _ c (behind _ _ c (behind _ _ c (behind _ _ c e).1).1).1).1).1

start-accepted : (wanted : Bool) (size : ℕ) (cut : Cut) (c : Circuit) → from_start wanted size cut ≡ accepted c → gathered_at_start cut ≡ c
unfolding from_start gathered_at_start
start-accepted wanted size clean c e = same-circuit empty_circuit c (behind _ _ c e).1
start-accepted wanted size (broken at) c e = same-circuit empty_circuit c (behind _ _ c e).1
start-accepted wanted size (field f rest) c e = go (is_kind inputs_tag (tag_of f.tag)) e
  where
    P : ℕ
    P = two_bytes f.body 0

    v : Verdict
    v = first_of (inputs_tests f.at f.body)

    go : (own : Bool) → cond own (unless v (after_inputs wanted size P rest)) (unless (past_verdict (tag_of f.tag) f.at) (accepted empty_circuit)) ≡ accepted c
        → cond own (cond (is_refused v) empty_circuit (gathered_from P rest)) empty_circuit ≡ c
    go true q = let first = behind v (after_inputs wanted size P rest) c q in rw first.0 (inputs-accepted wanted size P rest c first.1)
    go false q = same-circuit empty_circuit c (behind (past_verdict (tag_of f.tag) f.at) (accepted empty_circuit) c q).1

pub before_is_circuit : BeforeIsCircuit
unfolding staged gathered_of
before_is_circuit wanted file c e = sym (gathered_is_before file) ∙ whole
  where
    go : (long : Bool) → cond long (refusal 1 0) (from_start wanted (length file) (cut_from file 0)) ≡ accepted c
        → cond long empty_circuit (gathered_at_start (cut_from file 0)) ≡ c
    go true q = not-accepted 1 0 c q
    go false q = start-accepted wanted (length file) (cut_from file 0) c q

    whole : gathered_of file ≡ c
    whole = go (ltb most_bytes (length file)) (staged_is_reading wanted file ∙ e)
