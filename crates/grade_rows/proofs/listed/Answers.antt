-- `grade_rows::listed` meets its contract. The loop's invariant: the codes of the list's bridges so far are written. Assumes nothing.
use Rattle.std.proofs.Common.{◌<◌, length, add-one, arith}
use Rattle.circuit.specs.Records.{unused_bridge}
use Rattle.grade_rows.specs.Model.{listed_codes}
use Rattle.grade_rows.proofs.RowWriting.{wrote_nothing, record_code, listed_place, listed_more, listed_same}
use Rattle.grade_rows.proofs.listed.Goals as goal
use Rattle.grade_rows.proofs.listed.Goals.{Then-b-list, then-b-list, else-b-list}

-- where the bridge is of the list, there is a place for its code
place : (c : Then-b-list) → c.loop-b.next < length c.args.rows.now
place c =
    let a = c.args in
    let l = c.loop-b in
    listed_place a.instance a.list a.bridges.now a.rows.now a.at c.requires.bridges_in_bounds
    unused_bridge l.b-index (omega arith) l.rows l.next l.invariant c.if-b-list.true

pub loop-b-init : goal.loop-b-init
unfolding listed_codes
loop-b-init c = wrote_nothing

pub offset_bounds-rows-next : goal.offset_bounds-rows-next
offset_bounds-rows-next c = omega (arith, place (goal.at.offset_bounds-rows-next c).Then-b-list)

pub bounds-rows-next : goal.bounds-rows-next
bounds-rows-next c = omega (arith, place (goal.at.bounds-rows-next c).Then-b-list)

pub overflow_add-next : goal.overflow_add-next
overflow_add-next c = omega (arith, place (goal.at.overflow_add-next c).Then-b-list)

pub loop-b-preserved : goal.loop-b-preserved
unfolding record_code
loop-b-preserved c =
    let a = c.args in
    let l = c.loop-b in
    rw (add-one l.b-index)
    (elim c.if-b-list.branch [
      | then-b-list w ↦
          rw (w.rows-is, w.next-is, w.pack.ensures)
          (listed_more a.instance a.list a.bridges.now a.rows.now a.at c.requires.bridges_in_bounds
          unused_bridge l.b-index (omega arith) l.rows l.next l.invariant w.if-b-list.true)
      | else-b-list w ↦
          rw (w.rows-is, w.next-is)
          (listed_same a.instance a.list a.bridges.now a.rows.now a.at c.requires.bridges_in_bounds
          unused_bridge l.b-index (omega arith) l.rows l.next l.invariant w.if-b-list.false)
    ])
