-- A turn of a stage: what its reader found at its place, and where it stands behind that.
use Prim.Native.Nat.{◌<◌}
use mathlib.Core.Path.{◌≡◌}
use mathlib.Core.Bool.{Bool, true}
use native.Mathlib.Omega.{arith}
use Rattle.std.specs.Prelude.{Some, None}
use Rattle.circuit.specs.Order.{Tag, tag_of}
use Rattle.read_fields.specs.Steps.{end_of, FieldAt, NextIs, behind_found, Sought}
use Rattle.read_fields.specs.declared.cursor.Reader.{Reader}
use Rattle.read_fields.specs.declared.Field.{Field as FieldRecord}

module _ {own : Tag → Bool} {before after : Reader} where
  module _ {f : FieldRecord} (turn : Sought own before after (Some f)) where
    pub found_at : FieldAt before.file.now before.at f
    unfolding NextIs
    found_at = turn.stands.0

    pub found_own : own (tag_of f.tag) ≡ true
    unfolding NextIs
    found_own = turn.stands.1

    pub found_behind : after.at ≡ end_of f
    unfolding behind_found
    found_behind = turn.moved

    pub goes_on : before.at < after.at
    goes_on = let here = found_at in let behind = found_behind in omega arith

  pub stayed : Sought own before after None → after.at ≡ before.at
  unfolding behind_found
  stayed turn = turn.moved
