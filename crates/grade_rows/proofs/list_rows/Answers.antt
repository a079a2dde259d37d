-- `grade_rows::list_rows` meets its contract: each choice has its own codes, and the exhaustive list's are written in two pieces. Assumes
-- nothing.
use Prim.Native.Nat.{ℕ, ◌+◌}
use mathlib.Core.Path.{◌≡◌, sym, ap, ◌∙◌}
use mathlib.Core.List.{List, ◌++◌, map, map-append}
use native.Mathlib.Omega.{arith}
use lib.ListN.{length, length-append, length-map}
use Rattle.words.specs.Written.{written}
use Rattle.words.proofs.WrittenLaws.{written_nothing, written_written}
use Rattle.circuit.specs.Circuit.{node_pairs, node_inputs}
use Rattle.circuit.specs.declared.Bridge.{Bridge as BridgeRecord}
use Rattle.grading.specs.Codes.{code_of}
use Rattle.grade_rows.specs.Model.{listed_codes, instance_codes, RowsListed}
use Rattle.grade_rows.proofs.InstanceCodes.{codes_all, codes_none, codes_listed}
use Rattle.grade_rows.proofs.list_rows.Goals as goal
use Rattle.grade_rows.proofs.list_rows.Goals.{Start}

module _ (start : Start) where
  abbrev codes : List ℕ
  codes = start.args.codes.now

  abbrev from : ℕ
  from = start.args.from

  abbrev number : ℕ
  number = start.args.place + 1

  abbrev choice : ℕ
  choice = start.args.one.choice

  abbrev h : ℕ
  h = start.args.t.highest

  abbrev k : ℕ
  k = start.args.t.labels

  abbrev bridges : List BridgeRecord
  bridges = start.args.bridges.now

  abbrev new : List ℕ
  new = instance_codes start.args.place choice h k bridges

  -- the exhaustive list
  module _ (e : choice ≡ 255) where
    two : new ≡ map (code_of number) (node_pairs h) ++ map (code_of number) (node_inputs h k)
    two = codes_all start.args.place choice h k bridges e ∙ map-append (code_of number) (node_pairs h) (node_inputs h k)

    size : length new ≡ length (node_pairs h) + length (node_inputs h k)
    size =
        omega (
          arith,
          ap length two,
          length-append (map (code_of number) (node_pairs h)) (map (code_of number) (node_inputs h k)),
          length-map (node_pairs h) (code_of number),
          length-map (node_inputs h k) (code_of number),
        )

    all_listed : (codes₁ : List ℕ) (at : ℕ) (codes₂ : List ℕ) (to : ℕ)
        → (at ≡ from + length (node_pairs h)) × (codes₁ ≡ written codes from (map (code_of number) (node_pairs h)))
        → (to ≡ at + length (node_inputs h k)) × (codes₂ ≡ written codes₁ at (map (code_of number) (node_inputs h k)))
        → RowsListed codes from new to codes₂
    all_listed codes₁ at codes₂ to first second =
        let place : at ≡ from + length (map (code_of number) (node_pairs h)) = first.0 ∙ rw (length-map (node_pairs h) (code_of number)) in
        record {
          end = omega (arith, first.0, second.0, size);
          listed =
              second.1
              ∙ rw (first.1, place)
              (written_written codes from (map (code_of number) (node_pairs h)) (map (code_of number) (node_inputs h k)) (rw (← two) start.requires.bridges_in_bounds)
              ∙ ap (written codes from) (sym two));
        }

  -- no faults
  none_listed : choice ≡ 0 → RowsListed codes from new from codes
  none_listed e =
      let none = codes_none start.args.place choice h k bridges e in
      record { end = omega (arith, ap length none); listed = rw none (sym (written_nothing codes from)) }

  -- a user list
  own : (choice ≡ 255 → ⊥) → (choice ≡ 0 → ⊥) → new ≡ listed_codes number choice bridges
  own p q = codes_listed start.args.place choice h k bridges p q

pub all_pairs-at-requires-clause-h_in_bounds : goal.all_pairs-at-requires-clause-h_in_bounds
all_pairs-at-requires-clause-h_in_bounds c =
    omega (arith, c.requires.bridges_in_bounds, size (goal.at.all_pairs-at-requires-clause-h_in_bounds c).Start c.in-255.is)

pub all_inputs-requires-clause-k_in_bounds : goal.all_inputs-requires-clause-k_in_bounds
all_inputs-requires-clause-k_in_bounds c =
    let start = (goal.at.all_inputs-requires-clause-k_in_bounds c).Start in
    omega (arith, c.requires.bridges_in_bounds, size start c.in-255.is, c.all_pairs-at.ensures.0, c.all_pairs-at.auto.rows)

pub returns-in-255 : goal.returns-in-255
returns-in-255 c = all_listed (goal.at.returns-in-255 c).Start c.in-255.is _ _ _ _ c.all_pairs-at.ensures c.all_inputs.ensures

pub returns-in-0 : goal.returns-in-0
returns-in-0 c = none_listed (goal.at.returns-in-0 c).Start c.in-0.is

pub listed-requires-clause-bridges_in_bounds : goal.listed-requires-clause-bridges_in_bounds
listed-requires-clause-bridges_in_bounds c =
    let e = own (goal.at.listed-requires-clause-bridges_in_bounds c).Start (λ e. omega arith) (λ e. omega arith) in
    rw (← e) c.requires.bridges_in_bounds

pub returns-in_default : goal.returns-in_default
returns-in_default c =
    let e = own (goal.at.returns-in_default c).Start (λ e. omega arith) (λ e. omega arith) in
    rw e record { end = c.listed.ensures.0; listed = c.listed.ensures.1 }
