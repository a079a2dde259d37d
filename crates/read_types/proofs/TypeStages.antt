-- Reading a type and its edges field by field is reading the type, then all its edges, then judging it; and judged types stop, or go on
-- with the next type.
use Prim.Native.Nat.{ℕ, ◌-◌}
use mathlib.Core.Path.{◌≡◌, refl, sym, ap, ◌∙◌}
use mathlib.Core.Bool.{Bool, true, false, cond, not, ◌&&◌, and-false}
use mathlib.Core.List.{List, [], ◌∷◌, ◌++◌}
use native.Mathlib.Omega.{arith}
use lib.Dec.{T}
use lib.Ieee.Bits.{is_true}
use lib.ListN.{length, length-append}
use lib.Seq.{get_or-append_seam, set-append_seam, take-append_seam}
use Rattle.switch.specs.Conduction.{Edge}
use Rattle.switch.specs.Modules.{ModuleType}
use Rattle.switch.specs.Deciding.{is_complementary}
use Rattle.circuit.specs.Fields.{Field, Cut, clean, broken, field, cut_from}
use Rattle.circuit.specs.Circuit.{no_type}
use Rattle.circuit.specs.Order.{type_tag, tag_of, is_kind, is_edge}
use Rattle.circuit.specs.Known.{edges_in, latest, with_edges, edges_added}
use Rattle.circuit.specs.Table.{Verdict, passes, refused_at, first_of, not_complementary, is_empty, edge_tests}
use Rattle.circuit.specs.Verdicts.{is_refused}
use Rattle.circuit.specs.Before.{types_before}
use Rattle.circuit.specs.Stages.{Stage, stopped, if_passes, section, edge_stage, failing_verdict, judged, field_place, type_stage}
use Rattle.circuit.proofs.StageLaws.{edge_as, snoc_some}
use Rattle.circuit.proofs.GatheredLaws.{failing-refuses}
use Rattle.std.specs.Prelude.{None}
use Rattle.read_fields.specs.Steps.{field_in, end_of, FieldAt, NextIs}
use Rattle.read_fields.specs.declared.Field.{Field as FieldRecord}
use Rattle.read_types.specs.ReadTypes.{NoEdge, at_type}

-- ---- a type, then its edges

last-place : {A : Type 0} (as' : List A) (a : A) → length (as' ++ (a ∷ [])) - 1 ≡ length as'
last-place as' a = omega (arith, length-append as' (a ∷ []))

pub latest_snoc : (types : List ModuleType) (t : ModuleType) → latest (types ++ (t ∷ [])) ≡ t
unfolding latest
latest_snoc types t = rw (last-place types t) (get_or-append_seam types t [] no_type)

pub edges_added_snoc : (types : List ModuleType) (t : ModuleType) (es : List Edge)
    → edges_added (types ++ (t ∷ [])) es ≡ types ++ (with_edges t es ∷ [])
unfolding edges_added
edges_added_snoc types t es = rw (latest_snoc types t, last-place types t) (set-append_seam types t [] (with_edges t es))

before_snoc : (types : List ModuleType) (t : ModuleType) → types_before (types ++ (t ∷ [])) ≡ types
unfolding types_before
before_snoc types t = rw (last-place types t) (take-append_seam types (t ∷ []))

-- what comes of a type after its edges
abbrev pub after_edges : List ModuleType → Cut → Stage ModuleType → Stage (List ModuleType)
after_edges types from s = if_passes s.verdict types from (type_stage (types ++ (s.gathered ∷ [])) from s.rest)

after_if : (types : List ModuleType) (from : Cut) (v : Verdict) (t : ModuleType) (cut : Cut) (s : Stage ModuleType)
    → if_passes v types from (after_edges types from s) ≡ after_edges types from (if_passes v t cut s)
unfolding if_passes
after_if types from passes t cut s = refl
after_if types from (refused_at number place) t cut s = refl

-- a type with the edges of a field more
abbrev with_field : ModuleType → Field → ModuleType
with_field t f = with_edges t (edges_in (edge_as f) t.output f.body)

-- a field of edges at a time, or all edges first
pub edges-first : (types : List ModuleType) (t : ModuleType) (from cut : Cut)
    → type_stage (types ++ (t ∷ [])) from cut ≡ after_edges types from (edge_stage t cut)
unfolding section type_stage if_passes
edges-first types t from clean = refl
edges-first types t from (broken at) = refl
edges-first types t from (field f rest) = go (is_edge (tag_of f.tag)) refl (edges-first types (with_field t f) from rest)
  where
    go : (b : Bool) → is_edge (tag_of f.tag) ≡ b
        → type_stage (types ++ (with_field t f ∷ [])) from rest ≡ after_edges types from (edge_stage (with_field t f) rest)
        → type_stage (types ++ (t ∷ [])) from (field f rest) ≡ after_edges types from (edge_stage t (field f rest))
    go true e later =
        let es = edges_in (edge_as f) t.output f.body in
        rw (type_stage, e, snoc_some types t, latest_snoc types t, before_snoc types t, edges_added_snoc types t es, later)
        (after_if types from (first_of (edge_tests (edge_as f) t f.at f.body)) t (field f rest) (edge_stage (with_field t f) rest))
    go false e later =
        let stays : edge_stage t (field f rest) ≡ stopped t (field f rest) = rw e in ap (after_edges types from) (sym stays)

-- ---- a type judged

-- a verdict that refuses leaves nothing of what comes after
refused-leaves : {A : Type 0} (v : Verdict) → is_refused v ≡ true → (a : A) (from : Cut) (s u : Stage A)
    → if_passes v a from s ≡ if_passes v a from u
unfolding if_passes is_refused
refused-leaves passes e a from s u = cc
refused-leaves (refused_at number place) e a from s u = refl

failing-leaves : {A : Type 0} (type_at : ℕ) (cut : Cut) (a : A) (from : Cut) (s u : Stage A)
    → if_passes (failing_verdict type_at cut) a from s ≡ if_passes (failing_verdict type_at cut) a from u
failing-leaves type_at cut a from s u = refused-leaves (failing_verdict type_at cut) (failing-refuses type_at cut) a from s u

-- where no edge stands the latest type is judged before anything else
judged-latest : (types : List ModuleType) (t : ModuleType) (type_at : ℕ) (cut : Cut)
    → judged (types ++ (t ∷ [])) type_at cut ≡ cond (not (is_complementary t)) (failing_verdict type_at cut) passes
unfolding judged not_complementary
judged-latest types t type_at cut = rw (snoc_some types t, latest_snoc types t)

-- a type that is not complementary is refused where its edges end
pub failing-stage : (types : List ModuleType) (t : ModuleType) (from cut : Cut) → NoEdge cut → is_complementary t ≡ false
    → (s : Stage (List ModuleType))
    → type_stage (types ++ (t ∷ [])) from cut ≡ if_passes (failing_verdict (field_place from) cut) types from s
unfolding type_stage
failing-stage types t from clean none e s =
    rw (judged-latest types t (field_place from) clean, e, before_snoc types t) (failing-leaves (field_place from) clean types from _ s)
failing-stage types t from (broken at) none e s =
    rw (judged-latest types t (field_place from) (broken at), e, before_snoc types t)
    (failing-leaves (field_place from) (broken at) types from _ s)
failing-stage types t from (field f rest) none e s =
    rw (none f rest refl, judged-latest types t (field_place from) (field f rest), e, before_snoc types t)
    (failing-leaves (field_place from) (field f rest) types from _ s)

-- ---- types that are judged, before what stands next

-- every type is complementary, and what stands next is no edge of the latest type
pub record Settled (types : List ModuleType) (cut : Cut) : Type 0 where
  pub sound : (type_at : ℕ) → judged types type_at cut ≡ passes
  pub no_edge_lem : (f : Field) (rest : Cut) → cut ≡ field f rest → (is_edge (tag_of f.tag) && not (is_empty types)) ≡ false

pub settled-none : (cut : Cut) → Settled [] cut
unfolding judged is_empty
settled-none cut = record { sound = λ type_at. refl; no_edge_lem = λ f rest e. and-false (is_edge (tag_of f.tag)) }

pub settled_more : (types : List ModuleType) (t : ModuleType) (cut : Cut) → T (is_complementary t) → NoEdge cut
    → Settled (types ++ (t ∷ [])) cut
settled_more types t cut p none = record {
  sound = λ type_at. judged-latest types t type_at cut ∙ rw (is_true (is_complementary t) p);
  no_edge_lem = λ f rest e. rw (none f rest e);
}

module _ (types : List ModuleType) (from : Cut) (file : List ℕ) (at : ℕ) (settled : Settled types (cut_from file at)) where
  -- at a type
  pub type_step : (f : FieldRecord) → FieldAt file at f → is_kind type_tag (tag_of f.tag) ≡ true
      → type_stage types from (cut_from file at) ≡ at_type f (length types) types (cut_from file at) (cut_from file (end_of f))
  unfolding type_stage field_in if_passes
  type_step f here own =
      let cut : Cut = field (field_in f) (cut_from file (end_of f)) in
      let sound : judged types (field_place from) cut ≡ passes = rw here.cut at (settled.sound (field_place from)) in
      rw (here.cut, settled.no_edge_lem (field_in f) (cut_from file (end_of f)) here.cut, sound, own)

  -- at anything else
  pub type_stop : NextIs file at (is_kind type_tag) None → type_stage types from (cut_from file at) ≡ stopped types (cut_from file at)
  unfolding NextIs type_stage if_passes
  type_stop other = go (cut_from file at) refl (settled.sound (field_place from))
    where
      go : (cut : Cut) → cut_from file at ≡ cut → judged types (field_place from) cut ≡ passes
          → type_stage types from cut ≡ stopped types cut
      go clean e sound = rw sound
      go (broken place) e sound = rw sound
      go (field f rest) e sound = rw (settled.no_edge_lem f rest e, sound, other f rest e)
