-- The cut of a file at an offset, by what stands there: the end, no whole field, or a field with the cut behind it.
-- With it the step of a stage: at a field of its own kind, and at anything else.
use Prim.Native.Nat.{ℕ, zero, suc, ◌+◌, ◌-◌, ◌<◌, ◌≤◌}
use mathlib.Core.Path.{◌≡◌, refl, sym, ap, ◌∙◌}
use mathlib.Core.Bool.{Bool, true, false, cond}
use mathlib.Core.List.{List}
use Rattle.std.specs.Prelude.{None}
use native.Mathlib.Decide.{ℕ_discrete}
use native.Mathlib.Omega.{arith}
use borrow.Author.Tests.{ltb-false, lt-ltb, le-ltb, eq-eqb, ne_eqb}
use lib.Dec.{eqb, ltb}
use lib.ListN.{length, get_or, take, drop}
use Rattle.circuit.specs.Fields.{Field, Cut, clean, broken, field, cut_in, cut_from, two_bytes}
use Rattle.circuit.specs.Order.{Tag, tag_of}
use Rattle.circuit.specs.Table.{Test, first_of}
use Rattle.circuit.specs.Stages.{stopped, if_passes, section}
use Rattle.read_fields.specs.Steps.{field_in, end_of, FieldAt, NextIs}
use Rattle.read_fields.specs.declared.Field.{Field as FieldRecord}

-- the offset behind the field that stands at an offset, if one does
abbrev pub behind : List ℕ → ℕ → ℕ
behind file at = at + 3 + two_bytes file (at + 1)

-- the field that stands at an offset, if one does
abbrev pub standing : List ℕ → ℕ → Field
standing file at = record { at = at; tag = get_or file at 0; body = take (two_bytes file (at + 1)) (drop (at + 3) file) }

-- one step of a cut, where `rest` is the cut behind the field
abbrev pub stepped : List ℕ → ℕ → Cut → Cut
stepped file at rest =
    cond (eqb at (length file)) clean
    (cond (ltb (length file) (at + 3)) (broken at) (cond (ltb (length file) (behind file at)) (broken at) (field (standing file at) rest)))

-- the cut behind a field counts only where the field is whole
same_step : (file : List ℕ) (at : ℕ) (r s : Cut) → (behind file at ≤ length file → r ≡ s) → stepped file at r ≡ stepped file at s
same_step file at r s same =
    ap (λ (x : Cut). cond (eqb at (length file)) clean (cond (ltb (length file) (at + 3)) (broken at) x))
    (go (ltb (length file) (behind file at)) refl)
  where
    go : (b : Bool) → ltb (length file) (behind file at) ≡ b
        → cond b (broken at) (field (standing file at) r) ≡ cond b (broken at) (field (standing file at) s)
    go true e = refl
    go false e = ap (field (standing file at)) (same (ltb-false (length file) (behind file at) e))

-- enough steps are enough: more change nothing
enough : (m k : ℕ) (file : List ℕ) (at : ℕ) → at ≤ length file → length file < at + m → length file < at + k
    → cut_in m file at ≡ cut_in k file at
unfolding cut_in
enough zero k file at h p q = absurd (omega arith)
enough (suc m) zero file at h p q = absurd (omega arith)
enough (suc m) (suc k) file at h p q =
    same_step file at (cut_in m file (behind file at)) (cut_in k file (behind file at))
    (λ whole. enough m k file (behind file at) whole (omega arith) (omega arith))

module _ (file : List ℕ) (at : ℕ) where
  pub cut_step : at ≤ length file → cut_from file at ≡ stepped file at (cut_from file (behind file at))
  unfolding cut_from cut_in
  cut_step h =
      ap (λ (m : ℕ). cut_in m file at) (let e : suc (length file) - at ≡ suc (length file - at) = omega arith in e)
      ∙ same_step file at (cut_in (length file - at) file (behind file at)) (cut_from file (behind file at))
      (λ whole. enough (length file - at) (suc (length file) - behind file at) file (behind file at) whole (omega arith) (omega arith))

  pub cut_clean : length file ≤ at → cut_from file at ≡ clean
  unfolding cut_from cut_in
  cut_clean h = go (ℕ_discrete (length file) at)
    where
      go : Dec (length file ≡ at) → cut_from file at ≡ clean
      go (yes e) = cut_step (omega arith) ∙ rw (eq-eqb at (length file) (sym e))
      go (no past) = ap (λ (m : ℕ). cut_in m file at) (let e : suc (length file) - at ≡ 0 = omega arith in e)

  -- fewer bytes are left than the field's three and its body's
  pub cut_broken : at < length file → length file < behind file at → cut_from file at ≡ broken at
  cut_broken h short =
      cut_step (omega arith)
      ∙ rw (ne_eqb at (length file) (omega arith), lt-ltb (length file) (behind file at) short) (go (ltb (length file) (at + 3)))
    where
      go : (b : Bool) → cond b (broken at) (broken at) ≡ broken at
      go true = refl
      go false = refl

  pub cut_field : behind file at ≤ length file → cut_from file at ≡ field (standing file at) (cut_from file (behind file at))
  cut_field h =
      cut_step (omega arith)
      ∙ rw (ne_eqb at (length file) (omega arith), le-ltb (length file) (at + 3) (omega arith), le-ltb (length file) (behind file at) h)

module _ {A : Type 0} (own : Tag → Bool) (tests : Tag → A → ℕ → List ℕ → List Test) (add : Tag → A → List ℕ → A) (sofar : A)
    (file : List ℕ) (at : ℕ) where
  -- a stage at a field of its own
  pub section_step : (f : FieldRecord) → FieldAt file at f → own (tag_of f.tag) ≡ true
      → section own tests add sofar (cut_from file at)
      ≡ if_passes (first_of (tests (tag_of f.tag) sofar f.at f.body.now)) sofar (cut_from file at)
      (section own tests add (add (tag_of f.tag) sofar f.body.now) (cut_from file (end_of f)))
  unfolding section field_in
  section_step f here its = rw (here.cut, its)

  -- a stage where no field of its own stands
  pub section_stop : NextIs file at own None → section own tests add sofar (cut_from file at) ≡ stopped sofar (cut_from file at)
  unfolding NextIs section
  section_stop other = go (cut_from file at) refl
    where
      go : (cut : Cut) → cut_from file at ≡ cut → section own tests add sofar cut ≡ stopped sofar cut
      go clean e = refl
      go (broken place) e = refl
      go (field f rest) e = rw (other f rest e)

-- what stands at an offset, by what is left there
pub ruleset cuts = (cut_clean, cut_broken, cut_field)
