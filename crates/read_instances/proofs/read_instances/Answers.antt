-- `read_instances::read_instances` meets its contract: each turn finds one instance more and keeps it with its faults, or it ends the stage. Assumes nothing.
use mathlib.Core.Path.{ap, ◌∙◌}
use native.Mathlib.Omega.{arith}
use Rattle.read_fields.proofs.Turns.{found_at, found_own, found_behind, goes_on, stayed}
use Rattle.read_instances.proofs.InstanceSteps.{no_instances, instances_end, instances_refused, instances_more}
use Rattle.read_instances.proofs.read_instances.Goals as goal

pub loop-f-init : goal.loop-f-init
loop-f-init c = (
  ap (λ b. b.now) c.new-reader.ensures.0,
  rw c.new-reader.ensures.1 (no_instances c.args.file.now c.args.from c.args.held c.default-all.result c.requires.0 c.default-all.ensures),
)

pub returns-in-Err : goal.returns-in-Err
returns-in-Err c =
    let inv = c.loop-f.invariant in
    let turn = c.in-Some.ensures in
    let here = rw inv.0 at (found_at turn) in
    rw here.place (instances_refused inv.1 c.in-Some.f here (found_own turn) c.in-Err.refusal c.in-Err.ensures)

pub loop-f-smaller : goal.loop-f-smaller
loop-f-smaller c =
    let inv = c.loop-f.invariant in
    let turn = c.in-Some.ensures in
    let here = rw inv.0 at (found_at turn) in
    let behind = found_behind turn in
    omega (arith, goes_on turn, here.inside)

pub loop-f-preserved : goal.loop-f-preserved
loop-f-preserved c =
    let inv = c.loop-f.invariant in
    let turn = c.in-Some.ensures in
    let here = rw inv.0 at (found_at turn) in (
      ap (λ b. b.now) turn.same_file ∙ inv.0,
      rw (found_behind turn) (instances_more inv.1 c.in-Some.f here (found_own turn) c.in-Ok.accepted c.in-Ok.ensures.0 c.in-Ok.ensures.1),
    )

pub returns : goal.returns
returns c =
    let inv = c.loop-f.invariant in
    let turn = c.in_default.ensures in
    rw (stayed turn) (instances_end inv.1 (rw inv.0 at turn.stands))
