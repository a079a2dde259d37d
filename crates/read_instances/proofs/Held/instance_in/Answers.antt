-- `read_instances::Held::instance_in` meets its contract: the first test that refuses is told, and past all of them the instance. Assumes nothing.
use Prim.Native.Nat.{ℕ, ◌+◌, ◌<◌, ◌≤◌}
use mathlib.Core.Path.{◌≡◌, sym, ◌∙◌}
use mathlib.Core.Bool.{true}
use native.Mathlib.Omega.{arith}
use borrow.Author.Tests.{lt-leb, lt-ltb, le-ltb}
use mathlib.Core.List.{map}
use lib.ListN.{length, get_or}
use Rattle.std.proofs.lemmas.Option.{cond_some}
use Rattle.std.proofs.lemmas.Result.{err_from_is_err_and}
use Rattle.switch.specs.Conduction.{between}
use Rattle.switch.specs.Modules.{all_of}
use Rattle.circuit.specs.Circuit.{numbered}
use Rattle.circuit.specs.Numbers.{reference_good}
use Rattle.circuit.specs.Known.{references_in, instance_in}
use Rattle.circuit.specs.Table.{first_of, instance_tests_of}
use Rattle.circuit.specs.Records.{padded, unused_type, unused_reference, reference_record, instance_record}
use Rattle.read_instances.specs.Turns.{given_in}
use Rattle.circuit.proofs.Tested.{holds}
use Rattle.read_instances.proofs.ReferenceLaws.{cond_none, choice-kept}
use Rattle.read_instances.proofs.InstanceLaws.{PastRanges, asked_by, many, not_many, untied, unlisted, past_list}
use Rattle.read_instances.proofs.Held.instance_in.Goals as goal
use Rattle.read_instances.proofs.Held.instance_in.Goals.{Else-not-choice_in_range, In-Some-references_in}

-- past the first three tests
ranges : (c : Else-not-choice_in_range) → PastRanges c.args.self c.args.count c.args.faults c.args.f.at c.args.f.body.now c.in-Some.t.now
ranges c =
    let a = c.args in
    let types = a.self.types.now in
    let n : ℕ = get_or a.f.body.now 0 0 in
    let named = cond_some (between 1 (length types) n) (numbered types n unused_type) c.in-Some.t.now (sym (rw c.byte-type_number.ensures at c.in-Some.ensures)) in
    record {
      size = sym c.wrong_length.ensures ∙ c.if-wrong_length.false;
      room = c.if-count-ge-MOST_INSTANCES.false;
      type = named.0;
      named = named.1;
      choice = rw c.byte-choice.ensures at (sym c.choice_in_range.ensures ∙ c.if-not-choice_in_range.false);
    }

pub returns-in_default : goal.returns-in_default
unfolding instance_tests_of instance_in first_of
returns-in_default c =
    let a = c.args in
    let types = a.self.types.now in
    let n : ℕ = get_or a.f.body.now 0 0 in
    rw (
      sym c.wrong_length.ensures ∙ c.if-wrong_length.false,
      lt-leb 128 a.count c.if-count-ge-MOST_INSTANCES.false,
      cond_none (between 1 (length types) n) (numbered types n unused_type) (sym (rw c.byte-type_number.ensures at c.in_default.ensures)),
    )

pub returns-then-f-k : goal.returns-then-f-k
returns-then-f-k c =
    not_many _ _ _ _ _ (ranges (goal.at.returns-then-f-k c).Else-not-choice_in_range) c.if-f-k.true

pub references_in-requires-clause-many : goal.references_in-requires-clause-many
references_in-requires-clause-many c =
    many _ _ _ _ _ (ranges (goal.at.references_in-requires-clause-many c).Else-not-choice_in_range) c.if-f-k.false

pub returns-in_default-references_in : goal.returns-in_default-references_in
returns-in_default-references_in c =
    let a = c.args in
    let refs = references_in a.f.body.now in
    let past = ranges (goal.at.returns-in_default-references_in c).Else-not-choice_in_range in
    untied _ _ _ _ _ past c.if-f-k.false
    (cond_none (all_of (reference_good a.self.inputs a.count) refs) (padded 12 unused_reference (map reference_record refs)) (sym c.in_default-references_in.ensures))

-- past the references
references : (c : In-Some-references_in)
    → (all_of (reference_good c.args.self.inputs c.args.count) (references_in c.args.f.body.now) ≡ true)
    × (padded 12 unused_reference (map reference_record (references_in c.args.f.body.now)) ≡ c.in-Some-references_in.references)
references c =
    let a = c.args in
    let refs = references_in a.f.body.now in
    cond_some (all_of (reference_good a.self.inputs a.count) refs) (padded 12 unused_reference (map reference_record refs)) c.in-Some-references_in.references
    (sym c.in-Some-references_in.ensures)

pub returns-in_err-given : goal.returns-in_err-given
returns-in_err-given c =
    let past = ranges (goal.at.returns-in_err-given c).Else-not-choice_in_range in
    let good = references (goal.at.returns-in_err-given c).In-Some-references_in in
    let p = err_from_is_err_and c.from_residual.result c.from_residual.ensures.1 in
    rw (p.1, p.2)
    (unlisted _ _ _ _ _ past c.if-f-k.false good.0 c.in_err-given.field-0.0 (rw (asked_by _ _ _ _ _ past _ c.byte-choice.ensures) at c.in_err-given.ensures))

pub returns-then-faults-given : goal.returns-then-faults-given
returns-then-faults-given c =
    let a = c.args in
    let past = ranges (goal.at.returns-then-faults-given c).Else-not-choice_in_range in
    let good = references (goal.at.returns-then-faults-given c).In-Some-references_in in
    let told = rw (asked_by _ _ _ _ _ past _ c.byte-choice.ensures) at c.in_ok-given.ensures in
    let more = told.1 in
    let many : 2048 < a.faults + (given_in a.self a.f.body.now).faults = omega arith in
    past_list _ _ _ _ _ past c.if-f-k.false good.0 told.0 ∙ rw (lt-ltb 2048 (a.faults + (given_in a.self a.f.body.now).faults) many)

pub returns : goal.returns
unfolding instance_record instance_in
returns c =
    let a = c.args in
    let past = ranges (goal.at.returns c).Else-not-choice_in_range in
    let good = references (goal.at.returns c).In-Some-references_in in
    let told = rw (asked_by _ _ _ _ _ past _ c.byte-choice.ensures) at c.in_ok-given.ensures in
    let more = told.1 in
    let few : a.faults + (given_in a.self a.f.body.now).faults ≤ 2048 = omega (arith, c.requires) in
    let tied = sym good.1 in
    let choice = c.byte-choice.ensures ∙ sym (choice-kept (get_or a.f.body.now 1 0) (omega (arith, c.byte-choice.type_inv, c.byte-choice.ensures)) (holds _ past.choice)) in (
      past_list _ _ _ _ _ past c.if-f-k.false good.0 told.0 ∙ rw (le-ltb 2048 (a.faults + (given_in a.self a.f.body.now).faults) few),
      λ i. record {
        instance = record { type_number = c.byte-type_number.ensures i; choice = choice i; references = tied i };
        faults = more i;
      },
    )
