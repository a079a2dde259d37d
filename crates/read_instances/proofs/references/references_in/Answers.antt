-- `read_instances::references::references_in` meets its contract: each reference that is good is put behind the others, and one that is not ends it. Assumes nothing.
use Prim.Native.Nat.{ℕ, ◌-◌, ◌/◌, ◌<◌}
use mathlib.Core.Path.{◌≡◌, sym, ◌∙◌}
use mathlib.Core.List.{List}
use native.Mathlib.Omega.{arith}
use borrow.Author.Count.{below_none, below_more}
use lib.ListN.{length}
use Rattle.std.specs.Prelude.{Some, None}
use Rattle.std.proofs.lemmas.Option.{cond_some}
use Rattle.circuit.specs.Numbers.{reference_good}
use Rattle.circuit.specs.Known.{references_in}
use Rattle.circuit.specs.Records.{reference_record}
use Rattle.read_instances.specs.Turns.{good_record}
use Rattle.read_instances.proofs.ReferenceLaws.{cond_none, reference_at, length-references, all_good, one_bad, none_filled, one_filled, all_filled}
use Rattle.read_instances.proofs.references.references_in.Goals as goal

-- the loop's bound is the number of references
below : (k i : ℕ) (body : List ℕ) → k ≡ length (references_in body) → i < k → i < (length body - 2) / 2
below k i body many h = omega (arith, length-references body)

pub loop-i-init : goal.loop-i-init
loop-i-init c = (rw c.default-references.ensures (none_filled c.args.f.body.now), below_none _)

pub returns-in_err-references : goal.returns-in_err-references
returns-in_err-references c =
    let a = c.args in
    let body = a.f.body.now in
    let i = below a.k c.loop-i.i body c.requires.many.0 c.loop-i-test.true in
    let none : good_record a.inputs a.before (reference_at body c.loop-i.i) ≡ None =
    rw c.two_bytes.ensures at (sym c.reference_in.ensures ∙ c.in_err-references.was) in
    c.from_residual.ensures ∙ rw (one_bad a.inputs a.before body c.loop-i.i i (cond_none (reference_good a.inputs a.before (reference_at body c.loop-i.i)) (reference_record (reference_at body c.loop-i.i)) none))

pub loop-i-preserved : goal.loop-i-preserved
loop-i-preserved c =
    let a = c.args in
    let body = a.f.body.now in
    let i = below a.k c.loop-i.i body c.requires.many.0 c.loop-i-test.true in
    let some : good_record a.inputs a.before (reference_at body c.loop-i.i) ≡ Some c.in_ok-references.field-0 =
    rw c.two_bytes.ensures at (sym c.reference_in.ensures ∙ c.in_ok-references.was) in
    let parts = cond_some (reference_good a.inputs a.before (reference_at body c.loop-i.i)) (reference_record (reference_at body c.loop-i.i)) c.in_ok-references.field-0 some in (
      rw (c.loop-i.invariant.0, ← parts.1) (one_filled body c.loop-i.i i (omega arith)),
      below_more _ _ c.loop-i.invariant.1 parts.0,
    )

pub returns : goal.returns
returns c =
    let a = c.args in
    let body = a.f.body.now in
    let long = length-references body in
    rw (
      c.loop-i.invariant.0,
      all_filled body c.loop-i.i (omega (arith, c.requires.many.0)),
      all_good a.inputs a.before body (λ j q. c.loop-i.invariant.1 j (omega (arith, c.requires.many.0))),
    )
