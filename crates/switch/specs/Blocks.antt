-- 02, request 4: a type is judged over its settings 64 at a time, with only the running verdict kept. 01, "Conduction", judges it over all
-- 2^k settings at once (Deciding, `is_complementary`); that the verdicts are the same is `BlocksTell`.
use Rattle.std.specs.Prelude.{ℕ, ◌+◌, ◌*◌, ◌/◌, ◌^◌, Bool, true, cond, ◌≡◌, ◌↔◌, T, ltb}
use Rattle.switch.specs.Modules.{ModuleType, setting_of, Complementary}
use Rattle.switch.specs.Deciding.{all_below, one_rail, is_complementary}

-- is the output joined to exactly one rail under each of the 64 settings of a block; settings from 2^k on are none of the type's
unfoldable pub block_holds : ModuleType → ℕ → Bool
block_holds t block =
    all_below 64 (λ (v : ℕ). let s = 64 * block + v in cond (ltb s (2 ^ t.labels)) (one_rail t (setting_of s)) true)

-- the running verdict after so many blocks
unfoldable pub running_verdict : ModuleType → ℕ → Bool
running_verdict t blocks = all_below blocks (block_holds t)

-- how many blocks the settings of k labels fill, the last perhaps in part
abbrev pub blocks_of : ℕ → ℕ
blocks_of k = (2 ^ k + 63) / 64

unfoldable pub by_blocks : ModuleType → Bool
by_blocks t = running_verdict t (blocks_of t.labels)

-- the verdict after the last block is that of 01, of every type
pub record BlocksTell : Type 0 where
  pub same_verdict : (t : ModuleType) → by_blocks t ≡ is_complementary t
  pub complementary : (t : ModuleType) → T (by_blocks t) ↔ Complementary t
