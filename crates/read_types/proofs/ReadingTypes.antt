-- The loops that read types and edges: what holds of what was read so far, where each begins, and what each way through a turn makes of it.
use Prim.Native.Nat.{ℕ, suc, ◌+◌, ◌<◌, ◌≤◌}
use mathlib.Core.Path.{◌≡◌, refl, sym, ap, subst, ◌∙◌}
use mathlib.Core.Bool.{Bool, true, false}
use mathlib.Core.List.{List, [], ◌∷◌, ◌++◌, map, map-append, append-nil, append_assoc}
use native.Mathlib.Omega.{arith}
use lib.Dec.{T}
use lib.ListN.{length, get_or, set, replicate, length-append, length-map}
use Rattle.std.specs.Prelude.{Option, Some, None}
use Rattle.switch.specs.Conduction.{Edge}
use Rattle.switch.specs.Modules.{ModuleType, most_edges, all_of, type_in_range, in_range}
use Rattle.switch.specs.Deciding.{is_complementary}
use Rattle.switch.specs.Records.{no_edge, edge_record, type_of, TypeGiven}
use Rattle.switch.specs.declared.Edge.{Edge as EdgeRecord}
use Rattle.switch.specs.declared.ModuleType.{ModuleType as TypeRecord}
use Rattle.switch.proofs.Paths.{both}
use Rattle.switch.proofs.Deciding.{and_both}
use Rattle.switch.proofs.Ranges.{type-ranges}
use Rattle.circuit.specs.Limits.{most_types}
use Rattle.circuit.specs.Fields.{Cut, clean, cut_from}
use Rattle.circuit.specs.Order.{Tag, type_tag, tag_of, is_kind, is_edge, edge_tag_of}
use Rattle.circuit.specs.Known.{type_in, edges_in, with_edges}
use Rattle.circuit.specs.Table.{Test, passes, first_of, type_tests, edge_tests}
use Rattle.circuit.specs.Records.{padded, unused_type, type_record}
use Rattle.circuit.specs.Refusals.{verdict_of}
use Rattle.circuit.specs.Stages.{Stage, if_passes, edge_stage, failing_verdict, field_place, type_stage, stage_of}
use Rattle.circuit.specs.declared.refusal.Refusal.{Refusal}
use Rattle.read_fields.specs.Steps.{field_in, end_of, FieldAt, NextIs}
use Rattle.read_fields.specs.declared.Field.{Field as FieldRecord}
use Rattle.read_types.specs.EdgeTurns.{edge_tag_told, verdict_as, edges_as, placed, with_placed, HasRoom}
use Rattle.read_types.specs.ReadTypes.{shape_of, bare_of, EdgesDone, EdgesRefused, at_type, TypeDone, TypeRefused, TypesRead}
use Rattle.read_types.specs.declared.edges.Shape.{Shape}
use Rattle.circuit.proofs.Padding.{padded_nil, padded_snoc}
use Rattle.read_fields.proofs.Cuts.{section_step, section_stop}
use Rattle.circuit.proofs.Tested.{type-pass}
use Rattle.circuit.proofs.TypeLaws.{type_back, type_given, edges_ranges, edges-pass, with_edges_ranges, with_edges_record}
use Rattle.read_types.proofs.TypeStages.{after_edges, edges-first, failing-stage, Settled, settled-none, settled_more, type_step, type_stop}

-- ---- edges

-- edges that are stored behind those in a list's first places
placed-behind : (rs es : List EdgeRecord) → length rs + length es ≤ most_edges
    → placed (padded most_edges no_edge rs) (length rs) es ≡ padded most_edges no_edge (rs ++ es)
unfolding placed
placed-behind rs [] h = ap (padded most_edges no_edge) (sym (append-nil rs))
placed-behind rs (e ∷ es) h =
    let one = length-append rs (e ∷ []) in
    let longer : suc (length rs) ≡ length (rs ++ (e ∷ [])) = omega arith in
    rw (padded_snoc no_edge most_edges rs e (omega arith), longer) (placed-behind (rs ++ (e ∷ [])) es (omega arith))
    ∙ ap (padded most_edges no_edge) (append_assoc rs (e ∷ []) es)

-- the record of a type in which es are stored behind its edges
stored-behind : (t : ModuleType) (es : List Edge) → length t.edges + length es ≤ most_edges
    → with_placed (type_record t) (map edge_record es) ≡ type_record (with_edges t es)
unfolding with_placed type_record with_edges
stored-behind t es h =
    let old = map edge_record t.edges in
    let long : length t.edges ≡ length old = sym (length-map t.edges edge_record) in
    let many : length (map edge_record es) ≡ length es = length-map es edge_record in
    let stored : placed (padded most_edges no_edge old) (length t.edges) (map edge_record es)
    ≡ padded most_edges no_edge (old ++ map edge_record es) =
    rw long (placed-behind old (map edge_record es) (omega (arith, long, many))) in
    (λ i. record { highest = t.highest; output = t.output; labels = t.labels; count = length t.edges + many i; edges = stored i })
    ∙ sym (with_edges_record t es)

-- the edges from an offset on, as far as they are read: the type that they make, its record, and the reader's offset
pub record EdgesSoFar (file : List ℕ) (from : ℕ) (bare : ModuleType) (t : TypeRecord) (at : ℕ) : Type 0 where
  pub type : ModuleType
  pub stage : edge_stage bare (cut_from file from) ≡ edge_stage type (cut_from file at)
  pub place : at ≤ length file
  pub ranges : T (in_range type)
  pub within : length type.edges ≤ most_edges
  pub is : t ≡ type_record type

pub edges-start : (file : List ℕ) (from : ℕ) (shape : Shape) → from ≤ length file
    → T (type_in_range shape.highest shape.output shape.labels) → (t : TypeRecord)
    → t ≡ type_record (bare_of shape) → EdgesSoFar file from (bare_of shape) t from
unfolding in_range all_of
edges-start file from shape h ranges t e = record {
  type = bare_of shape;
  stage = refl;
  place = h;
  ranges = and_both (type_in_range shape.highest shape.output shape.labels) true ranges tt;
  within = omega arith;
  is = e;
}

abbrev plus_edges : Tag → ModuleType → List ℕ → ModuleType
plus_edges tag t body = with_edges t (edges_in (edge_tag_of tag) t.output body)

abbrev tests_by : Tag → ModuleType → ℕ → List ℕ → List Test
tests_by tag = edge_tests (edge_tag_of tag)

module _ {file : List ℕ} {from : ℕ} {bare : ModuleType} {t : TypeRecord} {at : ℕ} (sofar : EdgesSoFar file from bare t at) where
  abbrev made : ModuleType
  made = sofar.type

  pub has_room : HasRoom t
  unfolding type_record
  has_room =
      let its = type-ranges made.highest made.output made.labels (edges_ranges made sofar.ranges sofar.within).0 in
      rw sofar.is (record { nodes = its.highest; labels = its.labels_high; places = sofar.within })

  -- the verdict on a field is that in the type which the edges make so far
  verdict_so_far : (f : FieldRecord) → verdict_as (edge_tag_told f) t f ≡ first_of (edge_tests (edge_tag_told f) made f.at f.body.now)
  unfolding edge_tests type_record
  verdict_so_far f = ap (λ (r : TypeRecord). verdict_as (edge_tag_told f) r f) sofar.is

  -- no edge stands here
  pub edges_stop : NextIs file at is_edge None → EdgesDone file from at bare t
  unfolding NextIs
  edges_stop other = record {
    type = made;
    stage = sofar.stage ∙ section_stop is_edge tests_by plus_edges made file at other;
    place = sofar.place;
    ranges = sofar.ranges;
    within = sofar.within;
    next = other;
    is = sofar.is;
  }

  module _ (f : FieldRecord) (here : FieldAt file at f) (own : is_edge (tag_of f.tag) ≡ true) where
    -- the stage at this field
    stage_here : edge_stage made (cut_from file at)
        ≡ if_passes (verdict_as (edge_tag_told f) t f) made (cut_from file at)
        (edge_stage (plus_edges (tag_of f.tag) made f.body.now) (cut_from file (end_of f)))
    stage_here = section_step is_edge tests_by plus_edges made file at f here own ∙ rw (verdict_so_far f)

    pub edges_refused : {behind : ℕ} (why : Refusal) → verdict_as (edge_tag_told f) t f ≡ verdict_of (Some why) → behind ≡ end_of f
        → EdgesRefused file from behind bare why
    unfolding if_passes
    edges_refused why e moved = record {
      type = made;
      at = at;
      stage = sofar.stage ∙ stage_here ∙ rw e;
      place = sofar.place;
      ranges = sofar.ranges;
      within = sofar.within;
      edge = f;
      here = here;
      own = own;
      moved = moved;
    }

    pub edges_more : verdict_as (edge_tag_told f) t f ≡ passes
        → EdgesSoFar file from bare (with_placed t (edges_as (edge_tag_told f) t f)) (end_of f)
    unfolding if_passes with_edges type_record
    edges_more e =
        let es = edges_in (edge_tag_told f) made.output f.body.now in
        let passed = edges-pass (edge_tag_told f) made f.at f.body.now (sym (verdict_so_far f) ∙ e) in
        record {
          type = plus_edges (tag_of f.tag) made f.body.now;
          stage = sofar.stage ∙ stage_here ∙ rw e;
          place = here.inside;
          ranges = with_edges_ranges made es sofar.ranges passed.ranges;
          within = omega (arith, length-append made.edges es, passed.few);
          is = ap (λ (r : TypeRecord). with_placed r (edges_as (edge_tag_told f) r f)) sofar.is ∙ stored-behind made es passed.few;
        }

-- ---- a type with its edges

pub shape_ranges : (count at : ℕ) (body : List ℕ) → first_of (type_tests count at body) ≡ passes
    → (count < most_types) × T (type_in_range (shape_of body).highest (shape_of body).output (shape_of body).labels)
unfolding type_in in_range all_of
shape_ranges count at body e =
    let p = type-pass count at body e in
    (p.0, (both (type_in_range (get_or body 0 0) (get_or body 1 0) (get_or body 2 0)) true p.1.ranges).0)

pub type_read_given : {file : List ℕ} {from at : ℕ} {bare : ModuleType} {t : TypeRecord} → EdgesDone file from at bare t → TypeGiven t
type_read_given read = rw read.is (type_given read.type read.ranges read.within)

module _ (file : List ℕ) (f : FieldRecord) (count from : ℕ) where
  -- its own bytes are refused, and so its stage ends there, wherever what follows begins
  pub own_refused : (why : Refusal) → first_of (type_tests count f.at f.body.now) ≡ verdict_of (Some why)
      → (types : List ModuleType) (here : Cut)
      → at_type f count types here (cut_from file from) ≡ stage_of (verdict_of (Some why)) types here
  unfolding if_passes
  own_refused why e types here = rw e

  pub own_refused_at : (why : Refusal) → first_of (type_tests count f.at f.body.now) ≡ verdict_of (Some why)
      → from ≤ length file → TypeRefused file f count from from why
  own_refused_at why e within = record { stage = λ types here stands. own_refused why e types here; place = within }

  -- or pass, and all its edges are read
  module _ (passed : first_of (type_tests count f.at f.body.now) ≡ passes) where
    all_edges : (types : List ModuleType) (here : Cut) (s : Stage ModuleType) → edge_stage (type_in f.body.now) (cut_from file from) ≡ s
        → at_type f count types here (cut_from file from) ≡ after_edges types here s
    unfolding if_passes
    all_edges types here s e =
        rw passed (edges-first types (type_in f.body.now) here (cut_from file from) ∙ ap (after_edges types here) e)

    -- or one of them is refused, wherever the reader stands then
    pub edge_refused : (why : Refusal) (t : ModuleType) (at : ℕ)
        → edge_stage (bare_of (shape_of f.body.now)) (cut_from file from) ≡ stage_of (verdict_of (Some why)) t (cut_from file at)
        → (types : List ModuleType) (here : Cut)
        → at_type f count types here (cut_from file from) ≡ stage_of (verdict_of (Some why)) types here
    unfolding if_passes type_in
    edge_refused why t at e types here = all_edges types here _ e

    pub edge_refused_at : {behind : ℕ} (why : Refusal) → EdgesRefused file from behind (bare_of (shape_of f.body.now)) why
        → TypeRefused file f count from behind why
    edge_refused_at why read = record {
      stage = λ types here stands. edge_refused why read.type read.at read.stage types here;
      place = rw read.moved read.here.inside;
    }

    module _ {at : ℕ} {t : TypeRecord} (read : EdgesDone file from at (bare_of (shape_of f.body.now)) t) (test : Bool)
        (tested : test ≡ is_complementary (type_of t)) where
      all_read : (types : List ModuleType) (here : Cut)
          → at_type f count types here (cut_from file from) ≡ type_stage (types ++ (read.type ∷ [])) here (cut_from file at)
      unfolding if_passes type_in
      all_read types here = all_edges types here _ read.stage

      test_is : test ≡ is_complementary read.type
      test_is = tested ∙ rw (read.is, type_back read.type read.ranges read.within)

      pub type_complementary : test ≡ true → TypeDone file f count from at t
      type_complementary e = record {
        type = read.type;
        stage = λ types here stands. all_read types here;
        room = (shape_ranges count f.at f.body.now passed).0;
        place = read.place;
        complementary = subst T (sym (sym test_is ∙ e)) tt;
        next = read.next;
        is = read.is;
      }

      pub type_failing : test ≡ false → (why : Refusal) → verdict_of (Some why) ≡ failing_verdict f.at (cut_from file at)
          → TypeRefused file f count from at why
      unfolding if_passes
      type_failing e why q = record {
        stage = λ types here stands.
            all_read types here
            ∙ failing-stage types read.type here (cut_from file at) read.next (sym test_is ∙ e)
            (type_stage (types ++ (read.type ∷ [])) here (cut_from file at))
            ∙ rw (stands, ← q);
        place = read.place;
      }

-- ---- types

-- the types from an offset on, as far as they are read
pub record TypesSoFar (file : List ℕ) (from : ℕ) (all : List TypeRecord) (count at : ℕ) : Type 0 where
  pub types : List ModuleType
  pub latest : Cut
  pub stage : type_stage [] clean (cut_from file from) ≡ type_stage types latest (cut_from file at)
  pub place : at ≤ length file
  pub within : length types ≤ most_types
  pub counted : count ≡ length types
  pub is : all ≡ padded most_types unused_type (map type_record types)
  pub settled : Settled types (cut_from file at)

pub types-start : (file : List ℕ) (from : ℕ) (unused : TypeRecord) → from ≤ length file → unused ≡ unused_type
    → TypesSoFar file from (replicate most_types unused) 0 from
types-start file from unused h e = record {
  types = [];
  latest = clean;
  stage = refl;
  place = h;
  within = omega arith;
  counted = refl;
  is = ap (replicate most_types) e ∙ sym (padded_nil unused_type most_types);
  settled = settled-none (cut_from file from);
}

module _ {file : List ℕ} {from : ℕ} {all : List TypeRecord} {count at : ℕ} (sofar : TypesSoFar file from all count at) where
  -- what was read, with a verdict by which the stage ends here
  ended : (why : Option Refusal)
      → type_stage sofar.types sofar.latest (cut_from file at) ≡ stage_of (verdict_of why) sofar.types (cut_from file at)
      → TypesRead file from (record { refusal = why; at = at; count = count; all = all })
  ended why e = record {
    types = sofar.types;
    stage = sofar.stage ∙ e;
    place = sofar.place;
    within = sofar.within;
    count = sofar.counted;
    all = sofar.is;
  }

  -- no type stands here
  pub types_stop : NextIs file at (is_kind type_tag) None
      → TypesRead file from (record { refusal = None; at = at; count = count; all = all })
  types_stop other = ended None (type_stop sofar.types sofar.latest file at sofar.settled other)

  -- at a type
  module _ (f : FieldRecord) (here : FieldAt file at f) (own : is_kind type_tag (tag_of f.tag) ≡ true) where
    type_here : type_stage sofar.types sofar.latest (cut_from file at)
        ≡ at_type f count sofar.types (cut_from file at) (cut_from file (end_of f))
    type_here = rw sofar.counted (type_step sofar.types sofar.latest file at sofar.settled f here own)

    stands_at : field_place (cut_from file at) ≡ f.at
    unfolding field_place field_in
    stands_at = rw here.cut

    pub types_end : {behind : ℕ} (why : Refusal) → TypeRefused file f count (end_of f) behind why
        → TypesRead file from (record { refusal = Some why; at = at; count = count; all = all })
    types_end why read = ended (Some why) (type_here ∙ read.stage sofar.types (cut_from file at) stands_at)

    pub types_more : {next : ℕ} {t : TypeRecord} → TypeDone file f count (end_of f) next t
        → TypesSoFar file from (set all count t) (count + 1) next
    types_more {next} {t} read =
        let types = sofar.types in
        let same = length-map types type_record in
        let more = length-append types (read.type ∷ []) in
        let room = read.room in
        let counted = sofar.counted in
        record {
          types = types ++ (read.type ∷ []);
          latest = cut_from file at;
          stage = sofar.stage ∙ type_here ∙ read.stage types (cut_from file at) stands_at;
          place = read.place;
          within = omega arith;
          counted = omega arith;
          is =
              rw (sofar.is, read.is, counted, map-append type_record types (read.type ∷ []), ← same)
              (padded_snoc unused_type most_types (map type_record types) (type_record read.type) (omega arith));
          settled = settled_more types read.type (cut_from file next) read.complementary read.next;
        }
