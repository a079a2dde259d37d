-- `grade_rows::rows_of` meets its contract. The loop's invariant: whatever good circuit the record tells, the codes of its first `i`
-- instances are written. Assumes nothing.
use Rattle.std.proofs.Common.{◌≡◌, ℕ, ◌≤◌, ◌<◌, List, length, get_or, take, sym, arith, rules}
use Rattle.std.proofs.lemmas.List.{get_or-take, length-take-le}
use Rattle.circuit.specs.Circuit.{Circuit}
use Rattle.circuit.specs.Records.{circuit_record}
use Rattle.circuit.specs.Laws.{CircuitGood}
use Rattle.circuit.specs.declared.Circuit.{Circuit as CircuitRecord}
use Rattle.circuit.proofs.Padding.{past_type, past_instance}
use Rattle.grading.specs.Given.{CircuitGiven}
use Rattle.grading.specs.Rows.{no_instance}
use Rattle.grading.proofs.RecordReads.{count_is, count_few, bridges_few, type_place, type_few}
use Rattle.grade_rows.proofs.InstanceCodes.{instance_codes_lem, codes_long}
use Rattle.grade_rows.proofs.RowSteps.{rowed_none, rowed_long, rowed_room, rowed_more, rowed_end}
use Rattle.grade_rows.proofs.rows_of.Goals as goal
use Rattle.grade_rows.proofs.rows_of.Goals.{In-loop-i}

-- ---- a turn
module _ (c : In-loop-i) where
  abbrev told : CircuitRecord
  told = c.args.c

  abbrev index : ℕ
  index = c.loop-i.i

  abbrev next : ℕ
  next = c.loop-i.at

  abbrev rows : List ℕ
  rows = c.loop-i.codes

  -- for the circuit that it is known to tell
  abbrev known : CircuitGiven told
  known = c.requires

  -- the slice has as many instances as the count says
  count : length (take told.instance_count told.instances) ≡ told.instance_count
  count =
      let long : length told.instances ≡ 128 = search rules in
      length-take-le _ told.instances (omega (arith, count_few known.circuit known.good told known.is))

  here : (meant : Circuit) → told ≡ circuit_record meant → CircuitGood meant → index < length meant.instances
  here meant is good = omega (arith, count, count_is meant good told is)

  there : index < length known.circuit.instances
  there = here known.circuit known.is known.good

  read : get_or (take told.instance_count told.instances) index past_instance ≡ get_or told.instances index past_instance
  read = get_or-take told.instance_count told.instances index past_instance (omega (arith, count))

  place : (1 ≤ (get_or told.instances index past_instance).type_number) × ((get_or told.instances index past_instance).type_number ≤ 16)
  place = type_place known.circuit known.good told known.is index no_instance there past_instance

pub slice_bounds-bridges-end : goal.slice_bounds-bridges-end
slice_bounds-bridges-end c =
    let long : length c.args.c.bridges ≡ 256 = search rules in
    omega (arith, bridges_few c.requires.circuit c.requires.good c.args.c c.requires.is)

pub slice_bounds-used-end : goal.slice_bounds-used-end
slice_bounds-used-end c =
    let long : length c.args.c.bridges ≡ 256 = search rules in
    sym (length-take-le _ c.args.c.bridges (omega (arith, bridges_few c.requires.circuit c.requires.good c.args.c c.requires.is)))

pub slice_bounds-instances-end : goal.slice_bounds-instances-end
slice_bounds-instances-end c =
    let long : length c.args.c.instances ≡ 128 = search rules in
    omega (arith, count_few c.requires.circuit c.requires.good c.args.c c.requires.is)

pub slice_bounds-one-items-end : goal.slice_bounds-one-items-end
slice_bounds-one-items-end c =
    let long : length c.args.c.instances ≡ 128 = search rules in
    sym (length-take-le _ c.args.c.instances (omega (arith, count_few c.requires.circuit c.requires.good c.args.c c.requires.is)))

pub loop-i-init : goal.loop-i-init
loop-i-init c = λ meant is good. rowed_none meant

pub overflow_sub-t : goal.overflow_sub-t
overflow_sub-t c =
    let turn = (goal.at.overflow_sub-t c).In-loop-i in
    rw (read turn) (place turn).0

pub bounds-types-one : goal.bounds-types-one
bounds-types-one c =
    let turn = (goal.at.bounds-types-one c).In-loop-i in
    rw (read turn) (omega (arith, place turn))

pub list_rows-at-requires : goal.list_rows-at-requires
list_rows-at-requires c =
    let turn = (goal.at.list_rows-at-requires c).In-loop-i in
    let p = known turn in
    let at = there turn in
    let so_far = turn.loop-i.invariant p.circuit p.is p.good in
    let few = type_few p.circuit p.good (told turn) p.is (index turn) no_instance at past_instance past_type in
    let small : index turn < 128 = omega (arith, count turn, count_few p.circuit p.good (told turn) p.is) in
    rw (read turn) record {
      place_bound = (small, few.0, few.1);
      bridges_in_bounds = omega (
        arith,
        codes_long p.circuit p.good (told turn) p.is (index turn) no_instance at past_instance past_type,
        rowed_room p.circuit p.good (rows turn) (next turn) (index turn) no_instance at so_far,
        rowed_long p.circuit p.good (rows turn) (next turn) (index turn) no_instance at so_far,
      );
    }

pub loop-i-preserved : goal.loop-i-preserved
loop-i-preserved c =
    λ meant is good.
    let turn = (goal.at.loop-i-preserved c).In-loop-i in
    let at = here turn meant is good in
    rowed_more meant good (rows turn) (next turn) (index turn) no_instance at (turn.loop-i.invariant meant is good) _ _ _
    (instance_codes_lem meant good (told turn) is (index turn) no_instance at past_instance past_type)
    (rw (read turn) at c.list_rows-at.ensures)

pub returns : goal.returns
returns c =
    λ meant is good.
    let l = c.loop-i in
    let long : length c.args.c.instances ≡ 128 = search rules in
    let count = length-take-le c.args.c.instance_count c.args.c.instances (omega (arith, count_few meant good c.args.c is)) in
    rowed_end meant good l.codes l.at l.i (omega (arith, count_is meant good c.args.c is)) (l.invariant meant is good)
