-- One step only stands at an offset, but for where its body lies: the cut of a file at the offset tells the field's place, tag and bytes.
use Prim.Native.Nat.{ℕ}
use mathlib.Core.Path.{◌≡◌, refl, sym, ap, ◌∙◌}
use mathlib.Core.Bool.{Bool, true, false}
use mathlib.Core.List.{List}
use native.Mathlib.Omega.{arith}
use Rattle.std.specs.Prelude.{Option, Some, None}
use Rattle.circuit.specs.Order.{Tag}
use Rattle.circuit.specs.Fields.{Field, clean, broken, field, cut_from}
use Rattle.read_fields.specs.Steps.{field_in, end_of, FieldAt, StepIs, NextIs, behind_step, behind_found, Stepped, Sought}
use Rattle.read_fields.specs.declared.cursor.Reader.{Reader}
use Rattle.read_fields.specs.declared.Field.{Field as FieldRecord}
use Rattle.read_fields.specs.declared.Step.{Step}
use Rattle.read_fields.specs.declared.Step.TheVariants.{Whole, Broken, End}
use Rattle.demands.specs.Unique.{Address, field_at, step_at, found_at}

true_false : true ≡ false → ⊥
true_false e = let z : ◌≡◌ {A = ℕ} 0 1 = cc in absurd (omega arith)

module _ (file : List ℕ) (at : ℕ) where
  same_field : (f g : FieldRecord) → FieldAt file at f → FieldAt file at g → f ≡ field_at f.body.ref_ptr g
  unfolding field_in
  same_field f g one other = λ i. record {
    at = (one.place ∙ sym other.place) i;
    tag = (ap (λ (x : Field). x.tag) fields) i;
    body = record { ref_ptr = f.body.ref_ptr; now = (ap (λ (x : Field). x.body) fields) i };
  }
    where
      cuts : field (field_in f) (cut_from file (end_of f)) ≡ field (field_in g) (cut_from file (end_of g))
      cuts = sym one.cut ∙ other.cut

      fields : field_in f ≡ field_in g
      fields = cc

  -- a whole field, no whole field and the end exclude each other
  not_broken : (f : FieldRecord) (p : ℕ) → FieldAt file at f → cut_from file at ≡ broken p → ⊥
  not_broken f p here e = let c = here.cut in let z : ◌≡◌ {A = ℕ} 0 1 = cc in omega arith

  not_clean : (f : FieldRecord) → FieldAt file at f → cut_from file at ≡ clean → ⊥
  not_clean f here e = let c = here.cut in let z : ◌≡◌ {A = ℕ} 0 1 = cc in omega arith

  not_both : (p : ℕ) → cut_from file at ≡ broken p → cut_from file at ≡ clean → ⊥
  not_both p e e' = let z : ◌≡◌ {A = ℕ} 0 1 = cc in omega arith

  pub step_once : (r s : Step) → StepIs file at r → StepIs file at s → (p : Address) × (r ≡ step_at p s)
  unfolding StepIs
  step_once (Whole f) (Whole g) p q = (f.body.ref_ptr, ap Whole (same_field f g p q))
  step_once (Whole f) Broken p q = absurd (not_broken f at p q)
  step_once (Whole f) End p q = absurd (not_clean f p q)
  step_once Broken (Whole g) p q = absurd (not_broken g at q p)
  step_once Broken Broken p q = ((0, 0), refl)
  step_once Broken End p q = absurd (not_both at p q)
  step_once End (Whole g) p q = absurd (not_clean g q p)
  step_once End Broken p q = absurd (not_both at q p)
  step_once End End p q = ((0, 0), refl)

  pub next_once : (own : Tag → Bool) (r s : Option FieldRecord) → NextIs file at own r → NextIs file at own s
      → (p : Address) × (r ≡ found_at p s)
  unfolding NextIs field_in
  next_once own (Some f) (Some g) (p, t) (q, t') = (f.body.ref_ptr, ap (λ (h : FieldRecord). Some h) (same_field f g p q))
  next_once own (Some f) None (p, t) q = absurd (true_false (sym t ∙ q (field_in f) (cut_from file (end_of f)) p.cut))
  next_once own None (Some g) p (q, t) = absurd (true_false (sym t ∙ p (field_in g) (cut_from file (end_of g)) q.cut))
  next_once own None None p q = ((0, 0), refl)

-- where the body lies changes nothing of where the reader stands then
stands_step : (p : Address) (s : Step) (at : ℕ) → behind_step (step_at p s) at ≡ behind_step s at
unfolding behind_step
stands_step p (Whole f) at = refl
stands_step p Broken at = refl
stands_step p End at = refl

stands_found : (p : Address) (s : Option FieldRecord) (at : ℕ) → behind_found (found_at p s) at ≡ behind_found s at
unfolding behind_found
stands_found p (Some f) at = refl
stands_found p None at = refl

module _ {before after after' : Reader} where
  pub stepped_once : (r s : Step) → Stepped before after r → Stepped before after' s → (p : Address) × (r ≡ step_at p s) × (after ≡ after')
  stepped_once r s one other =
      let same = step_once before.file.now before.at r s one.stands other.stands in
      let at : behind_step r before.at ≡ behind_step s before.at
      = ap (λ (t : Step). behind_step t before.at) same.1 ∙ stands_step same.0 s before.at in (
        same.0,
        same.1,
        λ i. record {
          file = (one.same_file ∙ sym other.same_file) i;
          at = (one.moved ∙ at ∙ sym other.moved) i;
        },
      )

  pub sought_once : (own : Tag → Bool) (r s : Option FieldRecord) → Sought own before after r → Sought own before after' s
      → (p : Address) × (r ≡ found_at p s) × (after ≡ after')
  sought_once own r s one other =
      let same = next_once before.file.now before.at own r s one.stands other.stands in
      let at : behind_found r before.at ≡ behind_found s before.at
      = ap (λ (t : Option FieldRecord). behind_found t before.at) same.1 ∙ stands_found same.0 s before.at in (
        same.0,
        same.1,
        λ i. record {
          file = (one.same_file ∙ sym other.same_file) i;
          at = (one.moved ∙ at ∙ sym other.moved) i;
        },
      )
