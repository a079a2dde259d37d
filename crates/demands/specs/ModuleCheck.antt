-- 02, request 4, on files: a grader whose number 9 comes from another check than 01's. By blocks of 64 settings every file is graded or
-- refused as before; wrong checks by blocks are refuted. The proofs are in proofs/ModuleCheckProof.
use Rattle.std.specs.Prelude.{ℕ, ◌-◌, ◌^◌, ◌≡◌, Bool, true, false, cond, not, ◌&&◌, List, map, eqb, ltb}
use Rattle.switch.specs.Modules.{ModuleType, setting_of}
use Rattle.switch.specs.Deciding.{all_below, one_rail}
use Rattle.switch.specs.Blocks.{block_holds, blocks_of, by_blocks}
use Rattle.circuit.specs.Fields.{Field}
use Rattle.circuit.specs.Order.{tag_of, is_edge}
use Rattle.circuit.specs.Known.{Known, latest}
use Rattle.circuit.specs.Table.{Test, test, unjudged, field_tests, end_tests}
use Rattle.demands.specs.Graders.{Grader, MeetsPromise, testing}

-- ---- number 9 by a check

-- the latest type is asked for, or not; number 9 then refuses it where the check does not hold of it
unfoldable pub rejudged : (ModuleType → Bool) → Bool → Known → Test → Test
rejudged check asked known t =
    cond (eqb t.number 9) (test 9 (cond asked (not (check (latest known.circuit.types))) false) t.place) t

unfoldable pub field_tests_by : (ModuleType → Bool) → Known → Field → List Test
field_tests_by check known f =
    map (rejudged check (unjudged known.previous && not (is_edge (tag_of f.tag))) known) (field_tests known f)

unfoldable pub end_tests_by : (ModuleType → Bool) → Known → ℕ → List Test
end_tests_by check known size = map (rejudged check (unjudged known.previous) known) (end_tests true known size)

abbrev pub checks_by : (ModuleType → Bool) → Grader
checks_by check = testing (field_tests_by check) (end_tests_by check)

-- ---- by blocks

-- each test of the table is the same, whatever is known and whichever field stands next, so the same files are graded (switch/specs/Blocks,
-- `BlocksTell`)
pub record NineAsBefore : Type 0 where
  pub at_a_field : (known : Known) (f : Field) → field_tests_by by_blocks known f ≡ field_tests known f
  pub at_the_end : (known : Known) (size : ℕ) → end_tests_by by_blocks known size ≡ end_tests true known size
  pub on_files : MeetsPromise (checks_by by_blocks)

-- ---- wrong checks

-- says yes at the first block that holds
unfoldable pub stops_at_a_good_block : ModuleType → Bool
stops_at_a_good_block t = not (all_below (blocks_of t.labels) (λ (block : ℕ). not (block_holds t block)))

-- leaves the last setting out where the settings do not fill a block
unfoldable pub leaves_the_last_out : ModuleType → Bool
leaves_the_last_out t = cond (ltb t.labels 6) (all_below (2 ^ t.labels - 1) (λ (s : ℕ). one_rail t (setting_of s))) (by_blocks t)

-- keeps the verdict of the last block only
unfoldable pub keeps_the_last_block : ModuleType → Bool
keeps_the_last_block t = block_holds t (blocks_of t.labels - 1)

pub record WrongChecksAreWrong : Type 0 where
  pub stops_at_a_good_block_lem : MeetsPromise (checks_by stops_at_a_good_block) → ⊥
  pub leaves_the_last_out_lem : MeetsPromise (checks_by leaves_the_last_out) → ⊥
  pub keeps_the_last_block_lem : MeetsPromise (checks_by keeps_the_last_block) → ⊥
