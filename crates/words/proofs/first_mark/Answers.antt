-- `words::first_mark` meets its contract. Assumes nothing.
use mathlib.Core.Path.{◌≡◌, sym}
use Prim.Native.Nat.{ℕ, ◌<◌, ◌^◌}
use native.Mathlib.Omega.{arith}
use lib.ListN.{length, get_or}
use mir.Syntax.{w64}
use borrow.Author.Rules.{elem_Fits}
use Rattle.std.proofs.Common.{rules, tests}
use Rattle.std.proofs.lemmas.Iterator.{IsFirst-from_position, YieldsList-from_slice}
use Rattle.std.specs.List.{AllWithin, HoldsAt}
use Rattle.std.specs.Option.{MatchOption}
use Rattle.words.specs.Rows.{first_mark_of}
use Rattle.words.proofs.Rows.{first-none, first_found}
use Rattle.words.proofs.first_mark.Goals as goal
use Rattle.words.proofs.first_mark.Goals.{After-position}

-- the first word that has a mark, if any has
first : (c : After-position) → MatchOption c.position.result (AllWithin (λ (w : ℕ). w ≡ 0) c.args.row 0 (length c.args.row))
    (λ i. (i < length c.args.row) × HoldsAt (λ (w : ℕ). w ≡ 0 → ⊥) c.args.row i × AllWithin (λ (w : ℕ). w ≡ 0) c.args.row 0 i)
first c =
    IsFirst-from_position _ _ _ (λ (w : ℕ). w ≡ 0 → ⊥) (λ (w : ℕ). w ≡ 0) c.position.ensures.ran (YieldsList-from_slice c.args.row cc)
    (λ x q k. search (rules, tests)) (λ x q k. search (rules, tests))

pub returns-in-Some : goal.returns-in-Some
returns-in-Some c =
    let row = c.args.row in
    let w : ℕ = c.in-Some.w in
    let hit = rw c.in-Some.is at (first (goal.at.returns-in-Some c).After-position) in
    let word : get_or row w 0 < 2 ^ 64 = (elem_Fits w64 w64 row _ w c.well_formed.0.1.1 tt).fits in
    omega (arith, first_found row w (omega arith) (first-none row w (λ u l. hit.2 u 0 (omega arith) l)) word (hit.1 0))

pub returns-in-None : goal.returns-in-None
unfolding first_mark_of
returns-in-None c =
    let none = rw c.in-None.is at (first (goal.at.returns-in-None c).After-position) in
    sym (first-none c.args.row 4 (λ u l. none u 0 (omega arith) (search rules)))
