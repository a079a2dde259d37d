-- Blocks of 64 settings tell what all settings do: setting s is the setting s % 64 of block s / 64. Assumes nothing.
use Prim.Native.Nat.{ℕ, ◌+◌, ◌*◌, ◌/◌, ◌%◌, ◌^◌, ◌≤◌, ◌<◌}
use native.Mathlib.Omega.{arith}
use mathlib.Core.Path.{◌≡◌, refl, sym, subst}
use mathlib.Core.Bool.{Bool, true, false, cond}
use mathlib.Core.Logic.{◌↔◌}
use lib.Dec.{T, ltb}
use borrow.Author.Tests.{lt-ltb, ltb-true, ltb-false}
use Rattle.switch.specs.Modules.{ModuleType, setting_of}
use Rattle.switch.specs.Deciding.{all_below, one_rail, is_complementary}
use Rattle.switch.specs.Blocks.{block_holds, running_verdict, blocks_of, by_blocks, BlocksTell}
use Rattle.switch.proofs.Deciding.{same_test, all-below, complementary_decides}

-- ---- one block

-- a test that is asked for only
asked : (b test : Bool) → (b ≡ true → T test) → T (cond b test true)
asked true test f = f refl
asked false test f = tt

module _ (t : ModuleType) (block : ℕ) where
  abbrev passes : ℕ → Bool
  passes s = one_rail t (setting_of s)

  -- a block holds exactly when each of its settings that is the type's passes
  pub block_each : T (block_holds t block) ↔ ((v : ℕ) → v < 64 → 64 * block + v < 2 ^ t.labels → T (passes (64 * block + v)))
  unfolding block_holds
  block_each = (
    λ holds v h k.
        let told = (all-below 64 _).0 holds v h in
        rw (lt-ltb (64 * block + v) (2 ^ t.labels) k) at told,
    λ each. (all-below 64 _).1 (λ v h. asked (ltb (64 * block + v) (2 ^ t.labels)) (passes (64 * block + v)) (λ e. each v h (ltb-true (64 * block + v) (2 ^ t.labels) e))),
  )

-- ---- the running verdict

module _ (t : ModuleType) where
  pub none_yet : T (running_verdict t 0)
  unfolding running_verdict all_below
  none_yet = tt

  pub one_block_more : (blocks : ℕ) → T (running_verdict t blocks) → block_holds t blocks ≡ true → T (running_verdict t (blocks + 1))
  unfolding running_verdict
  one_block_more blocks before holds =
      (all-below (blocks + 1) (block_holds t)).1 (λ i h. at i h (ltb i blocks) refl)
    where
      at : (i : ℕ) → i < blocks + 1 → (b : Bool) → ltb i blocks ≡ b → T (block_holds t i)
      at i h true e = (all-below blocks (block_holds t)).0 before i (ltb-true i blocks e)
      at i h false e =
          let last : blocks ≡ i = omega (arith, ltb-false i blocks e) in
          subst (λ (n : ℕ). T (block_holds t n)) last (subst T (sym holds) tt)

  -- where a block fails the type does
  pub block_fails : (block : ℕ) → 64 * block < 2 ^ t.labels → block_holds t block ≡ false → false ≡ by_blocks t
  unfolding by_blocks running_verdict
  block_fails block within fails =
      same_test false (by_blocks t) (λ f. absurd f) (λ holds. subst T fails ((all-below (blocks_of t.labels) (block_holds t)).0 holds block (omega arith)))

  pub after_the_last : (blocks : ℕ) → 2 ^ t.labels ≤ 64 * blocks → 64 * blocks < 2 ^ t.labels + 64 → T (running_verdict t blocks) → true ≡ by_blocks t
  unfolding by_blocks
  after_the_last blocks past last running =
      let all : blocks ≡ blocks_of t.labels = omega arith in
      same_test true (by_blocks t) (λ u. subst (λ (n : ℕ). T (running_verdict t n)) all running) (λ u. tt)

  -- ---- all settings

  to_all : T (by_blocks t) → T (is_complementary t)
  unfolding by_blocks running_verdict is_complementary
  to_all holds =
      (all-below (2 ^ t.labels) _).1 λ s h.
      let here : 64 * (s / 64) + s % 64 ≡ s = omega arith in
      let told = (block_each t (s / 64)).0 ((all-below (blocks_of t.labels) (block_holds t)).0 holds (s / 64) (omega arith)) (s % 64) (omega arith) (omega arith) in
      subst (λ (n : ℕ). T (one_rail t (setting_of n))) here told

  to_blocks : T (is_complementary t) → T (by_blocks t)
  unfolding by_blocks running_verdict is_complementary
  to_blocks all =
      (all-below (blocks_of t.labels) (block_holds t)).1 λ block h.
      (block_each t block).1 (λ v k within. (all-below (2 ^ t.labels) (λ (s : ℕ). one_rail t (setting_of s))).0 all (64 * block + v) within)

pub blocks_tell : BlocksTell
blocks_tell = record {
  same_verdict = λ t. same_test (by_blocks t) (is_complementary t) (to_all t) (to_blocks t);
  complementary = λ t. (λ b. (complementary_decides t).1 (to_all t b), λ c. to_blocks t ((complementary_decides t).0 c));
}
