-- `print_circuit::one_line` meets its contract. Assumes nothing.
use Prim.Native.Nat.{ℕ}
use mathlib.Core.Path.{◌≡◌, refl, sym}
use mathlib.Core.Bool.{Bool, true, false}
use mathlib.Core.Logic.{◌⊎◌, inl, inr, ⊎_elim}
use borrow.Author.Rules.{rules}
use borrow.Author.Tests.{eqb-true, eqb-false}
use native.Mathlib.Omega.{arith}
use lib.Dec.{eqb}
use Rattle.std.specs.Prelude.{Option, Some, None, MatchOption}
use Rattle.std.specs.Bool.{then_some}
use Rattle.circuit.specs.declared.refusal.Refusal.{Refusal}
use Rattle.print_circuit.proofs.SoughtLaws.{told_found, told_refused, told_accepted, told_past}
use Rattle.print_circuit.proofs.one_line.Goals as goal

-- a refusal that is kept where its line is the one that is sought
module _ {left : ℕ} {Says : Refusal → Bool → Type 0} (says : (r : Refusal) (b : Bool) → Says r b → b ≡ eqb left 0) where
  is_kept : (why : Option Refusal) {r : Refusal} → MatchOption why (Some r ≡ None) (λ (s : Refusal). (b : Bool) × Says s b × (Some r ≡ then_some b s))
      → (why ≡ Some r) × (left ≡ 0)
  is_kept None k = absurd (cc)
  is_kept (Some s) (true, p, e) = (sym e, eqb-true left 0 (sym (says s true p)))
  is_kept (Some s) (false, p, e) = absurd (cc)

  not_kept : (why : Option Refusal) → MatchOption why (◌≡◌ {A = Option Refusal} None None) (λ (s : Refusal). (b : Bool) × Says s b × (None ≡ then_some b s))
      → (why ≡ None) ⊎ (left ≡ 0 → ⊥)
  not_kept None k = inl refl
  not_kept (Some s) (true, p, e) = absurd (cc)
  not_kept (Some s) (false, p, e) = inr (eqb-false left 0 (sym (says s false p)))

pub returns-in-Break : goal.returns-in-Break
returns-in-Break c =
    let said = c.as_bytes.ensures in
    told_found c.args.reading.now c.in-Break.ensures (rw said.all at said.few) (rw said.all at c.give.ensures)

pub returns-in_ok-refusal-in-Continue : goal.returns-in_ok-refusal-in-Continue
returns-in_ok-refusal-in-Continue c =
    let kept = is_kept {left = c.in-Continue.left} (λ r b says. search rules) c.args.reading.now.refusal c.in_ok-refusal-in-Continue.ensures in
    told_refused c.args.reading.now kept.0 (rw kept.1 at c.in-Continue.ensures) (rw (c.number.ensures, c.place.ensures) at c.refusal_line.ensures)

pub returns-in_err-refusal-in-Continue : goal.returns-in_err-refusal-in-Continue
returns-in_err-refusal-in-Continue c =
    let r = c.args.reading.now in
    let past = c.in-Continue.ensures in
    rw c.from_residual.ensures (⊎_elim
    (λ none. told_accepted r none past)
    (λ behind. told_past r (omega (arith, behind)) past)
    (not_kept {left = c.in-Continue.left} (λ s b says. search rules) r.refusal c.in_err-refusal-in-Continue.ensures))
