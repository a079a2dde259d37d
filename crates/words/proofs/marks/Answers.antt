-- `words::marks` meets its contract. Assumes nothing.
use mathlib.Core.Path.{◌≡◌, ◌∙◌}
use Prim.Native.Nat.{◌≤◌}
use native.Mathlib.Omega.{arith}
use lib.Count.{ones}
use mir.Syntax.{w64}
use borrow.Author.Rules.{elem_Fits}
use Rattle.std.proofs.Common.{rules, tests, sum_by}
use Rattle.std.proofs.iter.runs.Made.{chains}
use Rattle.std.proofs.lemmas.Iterator.Consumers.{fits_by_from_yields_list}
use Rattle.std.proofs.lemmas.Iterator.{YieldsList-from_map, YieldsList-from_slice}
use Rattle.words.specs.Rows.{marks_of}
use Rattle.words.proofs.Rows.{ones-marks}
use Rattle.words.proofs.marks.Goals as goal
use Rattle.words.proofs.marks.Goals.{After-map}

row_marks : (c : goal.After-map) → (sum_by ones c.args.row ≡ marks_of c.args.row) × (sum_by ones c.args.row ≤ 256)
row_marks c = ones-marks c.args.row (search rules) (λ w. (elem_Fits w64 w64 c.args.row _ w c.well_formed.0.1.1 tt).fits)

pub sum-requires-clause-fits : goal.sum-requires-clause-fits
sum-requires-clause-fits c =
    let few = (row_marks c).1 in
    fits_by_from_yields_list ones c.args.row c.map.result _
    (YieldsList-from_map _ _ (YieldsList-from_slice c.args.row cc) c.map.ensures.closure (λ x r q k. search (rules, tests)))
    (omega arith)

pub returns : goal.returns
returns c =
    let total : c.sum.result ≡ sum_by ones c.args.row = search (rules, chains) in
    total ∙ (row_marks (goal.at.returns c).After-map).0
