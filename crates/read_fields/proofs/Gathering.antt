-- A stage that gathers a list: the elements read so far stand in the code's array, and what is left of the stage begins behind them.
-- It stops where no field of its kind stands, fails where a test of the field refuses, and otherwise has one element more.
use Prim.Native.Nat.{ℕ, ◌+◌, ◌<◌, ◌≤◌}
use mathlib.Core.Path.{◌≡◌, refl, sym, ap, ◌∙◌}
use mathlib.Core.Bool.{true}
use Rattle.std.specs.Prelude.{None}
use mathlib.Core.List.{List, [], ◌∷◌, ◌++◌, map, map-append}
use native.Mathlib.Omega.{arith}
use lib.ListN.{length, set, replicate, length-append, length-map}
use Rattle.circuit.specs.Fields.{Cut, cut_from}
use Rattle.circuit.specs.Order.{Tag, tag_of, is_kind}
use Rattle.circuit.specs.Table.{Test, Verdict, passes, refused_at, first_of}
use Rattle.circuit.specs.Records.{padded}
use Rattle.circuit.specs.Verdicts.{is_refused}
use Rattle.circuit.specs.Stages.{Stage, stopped, if_passes, section_of, stage_of}
use Rattle.read_fields.specs.Steps.{end_of, FieldAt, NextIs}
use Rattle.read_fields.specs.declared.Field.{Field as FieldRecord}
use Rattle.circuit.proofs.Padding.{padded_nil, padded_snoc}
use Rattle.read_fields.proofs.Cuts.{section_step, section_stop}

refused-here : {A : Type 0} (v : Verdict) (a : A) (cut : Cut) (more : Stage A) → is_refused v ≡ true
    → if_passes v a cut more ≡ stage_of v a cut
unfolding is_refused if_passes
refused-here passes a cut more e = cc
refused-here (refused_at n p) a cut more e = refl

-- fields of one kind, of whose bodies elements are made; `shown` is an element's record, and `none` stands in unused places
module _ {A R : Type 0} (kind : Tag) (most : ℕ) (tests : List A → ℕ → List ℕ → List Test) (make : List ℕ → A) (shown : A → R)
    (none : R) where
  abbrev pub gather : List A → Cut → Stage (List A)
  gather = section_of kind tests (λ (as' : List A) (body : List ℕ). as' ++ (make body ∷ []))

  -- the elements between two offsets of a file, and the code's array, count and offset
  pub record SoFar (file : List ℕ) (from : ℕ) (as' : List A) (all : List R) (count at : ℕ) : Type 0 where
    pub stage : gather [] (cut_from file from) ≡ gather as' (cut_from file at)
    pub place : at ≤ length file
    pub within : length as' ≤ most
    pub counted : count ≡ length as'
    pub is : all ≡ padded most none (map shown as')

  pub none_yet : (file : List ℕ) (from : ℕ) (unused : R) → from ≤ length file → unused ≡ none
      → SoFar file from [] (replicate most unused) 0 from
  none_yet file from unused h e = record {
    stage = refl;
    place = h;
    within = omega arith;
    counted = refl;
    is = ap (replicate most) e ∙ sym (padded_nil none most);
  }

module _ {A R : Type 0} {kind : Tag} {most : ℕ} {tests : List A → ℕ → List ℕ → List Test} {make : List ℕ → A} {shown : A → R} {none : R}
    {file : List ℕ} {from : ℕ} {as' : List A} {all : List R} {count at : ℕ}
    (so : SoFar kind most tests make shown none file from as' all count at) where
  abbrev add : List A → List ℕ → List A
  add l body = l ++ (make body ∷ [])

  pub stops : NextIs file at (is_kind kind) None → section_of kind tests add [] (cut_from file from) ≡ stopped as' (cut_from file at)
  stops other = so.stage ∙ section_stop (is_kind kind) (λ (tag : Tag). tests) (λ (tag : Tag). add) as' file at other

  module _ (f : FieldRecord) (here : FieldAt file at f) (own : is_kind kind (tag_of f.tag) ≡ true) (v : Verdict)
      (verdict : v ≡ first_of (tests as' f.at f.body.now)) where
    stepped : section_of kind tests add [] (cut_from file from)
        ≡ if_passes v as' (cut_from file at) (section_of kind tests add (add as' f.body.now) (cut_from file (end_of f)))
    stepped = so.stage ∙ section_step (is_kind kind) (λ (tag : Tag). tests) (λ (tag : Tag). add) as' file at f here own ∙ rw (← verdict)

    pub fails : is_refused v ≡ true → section_of kind tests add [] (cut_from file from) ≡ stage_of v as' (cut_from file at)
    fails e =
        stepped ∙ refused-here v as' (cut_from file at) (section_of kind tests add (add as' f.body.now) (cut_from file (end_of f))) e

    pub one_more_lem : v ≡ passes → count < most
        → SoFar kind most tests make shown none file from (add as' f.body.now)
        (set all count (shown (make f.body.now))) (count + 1) (end_of f)
    unfolding if_passes
    one_more_lem e room =
        let a : A = make f.body.now in
        let counted = so.counted in
        let longer = length-append as' (a ∷ []) in
        let full : length (map shown as') ≡ count = length-map as' shown ∙ sym counted in
        record {
          stage = stepped ∙ rw e;
          place = here.inside;
          within = omega arith;
          counted = omega arith;
          is =
              ap (λ (l : List R). set l count (shown a)) so.is
              ∙ ap (λ (n : ℕ). set (padded most none (map shown as')) n (shown a)) (sym full)
              ∙ padded_snoc none most (map shown as') (shown a) (omega arith)
              ∙ ap (padded most none) (sym (map-append shown as' (a ∷ [])));
        }
