-- `grade_file::grade::mark_rows` meets its contract. Assumes nothing.
use Prim.Native.Nat.{ℕ, ◌+◌, ◌-◌, ◌*◌, ◌≤◌, ◌<◌, max}
use mathlib.Core.Path.{◌≡◌, sym}
use mathlib.Core.List.{List}
use borrow.Rule.Slice.PartMut.{put_mid}
use Rattle.std.specs.List.{between}
use Rattle.words.specs.Written.{written}
use Rattle.grade_inputs.specs.declared.Signals.{Signals}
use Rattle.grade_marks.specs.Model.{InstanceMarked}
use Rattle.grade_classes.specs.Model.{keys_of, label_numbers}
use native.Mathlib.Omega.{arith}
use lib.ListN.{length, get_or, take}
use lib.Seq.{get_or-take}
use Rattle.switch.specs.declared.ModuleType.{ModuleType as TypeRecord}
use Rattle.circuit.specs.declared.Circuit.{Circuit as CircuitRecord}
use Rattle.circuit.specs.declared.Instance.{Instance as InstanceRecord}
use Rattle.circuit.proofs.Padding.{past_type, past_instance}
use Rattle.grading.specs.Given.{CircuitGiven}
use Rattle.grading.specs.Rows.{no_instance}
use Rattle.grading.proofs.RecordReads.{type_place, type_few}
use Rattle.grade_rows.specs.Model.{instance_codes, RowsListed}
use Rattle.grade_file.proofs.Assembly as assembly
use Rattle.grade_file.proofs.Assembly.{State, Turned, TurnFits}
use Rattle.grade_file.proofs.grade.mark_rows.Goals.{In-loop-i}
use Rattle.grade_file.proofs.grade.mark_rows.Goals as goal

-- ---- a turn
module _ (c : In-loop-i) where
  abbrev whole : CircuitRecord
  whole = c.args.c

  abbrev known : CircuitGiven whole
  known = c.requires.circuit_given

  abbrev place : ℕ
  place = c.loop-i.i

  abbrev state : State
  state = record {
    signals = c.loop-i.signals;
    matrix = c.loop-i.matrix;
    codes = c.loop-i.codes;
    from = c.loop-i.from;
    rounds = c.loop-i.rounds;
    place = place;
  }

  abbrev one : InstanceRecord
  one = get_or (take whole.instance_count whole.instances) place past_instance

  within : place < whole.instance_count
  within = omega (arith, assembly.instances_used whole known, c.loop-i-test.true)

  one_is : one ≡ get_or whole.instances place past_instance
  one_is = get_or-take whole.instance_count whole.instances place past_instance within

  abbrev its_type : TypeRecord
  its_type = get_or whole.types (one.type_number - 1) past_type

  abbrev its_codes : List ℕ
  its_codes = instance_codes place one.choice its_type.highest its_type.labels (take whole.bridge_count whole.bridges)

  here : (told : CircuitGiven whole) → place < length told.circuit.instances
  here told = omega (arith, assembly.instances_are told.circuit whole told.is, within)

  few : place < 128
  few = assembly.place_few known.circuit known.good whole known.is place (here known)

  type_placed : (1 ≤ one.type_number) × (one.type_number ≤ 16)
  type_placed = rw one_is (type_place known.circuit known.good whole known.is place no_instance (here known) past_instance)

  -- its codes are listed
  fits : (codes : List ℕ) (to : ℕ)
      → RowsListed c.loop-i.codes c.loop-i.from its_codes to codes
      → TurnFits its_type one state codes to
  fits = rw one_is (λ codes to listed.
      assembly.turn_fits whole known c.args.matrix.now c.requires.matrix_len state (c.loop-i.invariant known) (here known)
      past_instance past_type codes to listed)

  -- its rows marked and keyed
  turned : (told : CircuitGiven whole) (codes : List ℕ) (to : ℕ)
      → RowsListed c.loop-i.codes c.loop-i.from its_codes to codes
      → (signals' : Signals) (part' : List ℕ) (its-rounds : ℕ)
      → InstanceMarked its_type one.references place whole.vector_count (between c.loop-i.from to codes) c.loop-i.signals
      signals' (between (4 * c.loop-i.from) (4 * to) c.loop-i.matrix) part' its-rounds
      → (codes' : List ℕ)
      → codes' ≡ written codes c.loop-i.from (keys_of codes (place + 1) its_type.output (label_numbers one.references) c.loop-i.from to)
      → (rounds' : ℕ) → rounds' ≡ max c.loop-i.rounds its-rounds
      → Turned told.circuit c.args.matrix.now record {
        signals = signals';
        matrix = put_mid (4 * c.loop-i.from) (4 * to - 4 * c.loop-i.from) c.loop-i.matrix part';
        codes = codes';
        from = to;
        rounds = rounds';
        place = place + 1;
      }
  turned told = rw one_is
      (assembly.turn whole told c.args.matrix.now c.requires.matrix_len state (c.loop-i.invariant told) (here told) past_instance past_type)

-- ---- the needs
pub put_inputs-requires-clause-count_bound : goal.put_inputs-requires-clause-count_bound
put_inputs-requires-clause-count_bound c = assembly.vectors_fit c.args.c c.requires.circuit_given

pub slice_bounds-instances-end : goal.slice_bounds-instances-end
slice_bounds-instances-end c =
    omega (arith, assembly.instances_fit c.args.c c.requires.circuit_given, assembly.instances_long c.args.c c.requires.circuit_given)

pub slice_bounds-one-items-end : goal.slice_bounds-one-items-end
slice_bounds-one-items-end c = sym (assembly.instances_used c.args.c c.requires.circuit_given)

pub slice_bounds-bridges-end : goal.slice_bounds-bridges-end
slice_bounds-bridges-end c =
    omega (arith, assembly.bridges_fit c.args.c c.requires.circuit_given, assembly.bridges_long c.args.c c.requires.circuit_given)

pub slice_bounds-list_rows-end : goal.slice_bounds-list_rows-end
slice_bounds-list_rows-end c = sym (assembly.bridges_used c.args.c c.requires.circuit_given)

pub loop-i-init : goal.loop-i-init
loop-i-init c = λ told.
    assembly.turned_none told.circuit c.args.c told.is _ _ _ c.told-codes c.put_inputs.ensures.0 c.put_inputs.ensures.1

pub overflow_sub-t : goal.overflow_sub-t
overflow_sub-t c = (type_placed (goal.at.overflow_sub-t c).In-loop-i).0

pub bounds-types-one : goal.bounds-types-one
bounds-types-one c = omega (arith, type_placed (goal.at.bounds-types-one c).In-loop-i)

pub list_rows-to-requires : goal.list_rows-to-requires
list_rows-to-requires c =
    let turn = (goal.at.list_rows-to-requires c).In-loop-i in
    let k = known turn in
    let type = type_few k.circuit k.good c.args.c k.is c.loop-i.i no_instance (here turn k) past_instance past_type in
    rw (one_is turn)
    record {
      place_bound = (few turn, type.0, type.1);
      bridges_in_bounds =
          assembly.codes_room c.args.c k c.args.matrix.now c.requires.matrix_len (state turn) (c.loop-i.invariant k) (here turn k)
          past_instance past_type;
    }

pub slice_bounds-mark_instance-end : goal.slice_bounds-mark_instance-end
slice_bounds-mark_instance-end c =
    let its = fits (goal.at.slice_bounds-mark_instance-end c).In-loop-i _ _ c.list_rows-to.ensures in
    omega (arith, its.order, its.most)

pub slice_bounds-mark_instance-end-in-loop-i : goal.slice_bounds-mark_instance-end-in-loop-i
slice_bounds-mark_instance-end-in-loop-i c =
    let its = fits (goal.at.slice_bounds-mark_instance-end-in-loop-i c).In-loop-i _ _ c.list_rows-to.ensures in
    omega (arith, its.order, its.room)

pub mark_instance-its_rounds-requires : goal.mark_instance-its_rounds-requires
mark_instance-its_rounds-requires c =
    (fits (goal.at.mark_instance-its_rounds-requires c).In-loop-i _ _ c.list_rows-to.ensures).marks

pub write_keys-requires : goal.write_keys-requires
write_keys-requires c =
    let its = fits (goal.at.write_keys-requires c).In-loop-i _ _ c.list_rows-to.ensures in
    record { from_le_to = (its.order, its.most, its.marks.placed); codes_fit = its.codes_fit }

-- its rows are marked and keyed, and its rounds known
pub loop-i-preserved : goal.loop-i-preserved
loop-i-preserved c = λ told.
    let turn = (goal.at.loop-i-preserved c).In-loop-i in
    turned turn told _ _ c.list_rows-to.ensures _ _ _ c.mark_instance-its_rounds.ensures _ c.write_keys.ensures _ c.max-rounds.ensures

-- ---- after the last
pub returns : goal.returns
returns c = λ meant e g.
    let told : CircuitGiven c.args.c = record { circuit = meant; is = e; good = g } in
    assembly.turned_end c.args.c told c.args.matrix.now c.requires.matrix_len _ (c.loop-i.invariant told)
    (omega (arith, assembly.instances_used c.args.c told))
