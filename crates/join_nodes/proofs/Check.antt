-- The complementary check, 64 settings at a time: a word with a bit for each setting of a block that joins the output to exactly one rail,
-- what comparing it
-- with the counted places tells of the block, and what the blocks tell of the type. Assumes nothing.
use Prim.Native.Nat.{ℕ, zero, suc, ◌+◌, ◌-◌, ◌*◌, ◌/◌, ◌%◌, ◌^◌, ◌<◌, min, max}
use native.Mathlib.Nat.{lt_of_le_of_lt}
use native.Mathlib.Numerals.{add-one}
use native.Mathlib.Omega.{arith}
use mathlib.Core.Path.{◌≡◌, refl, sym, ap, subst, ◌∙◌}
use mathlib.Core.Bool.{Bool, true, false, ◌&&◌, not, beq, and-true}
use mathlib.Core.List.{List, [], ◌∷◌, ◌++◌, map}
use lib.Bits.{bit_and, bit_or, and_le_l, and_le_r}
use lib.Dec.{T, ltb, eqb, eqb→eq, eqb_refl}
use lib.ListN.{length, get_or}
use borrow.Author.Tests.{lt-ltb, ltb-true}
use Rattle.words.specs.Bits.{bit, of_bool, word, first_ones}
use Rattle.words.proofs.Laws.{bit_le_one, of_bool_le_one, bit_word, word_lt, set-bit, bit-set, bit_or_lem, bit_and_lem, bit_not_under, bits_eq}
use Rattle.words.proofs.Tables.{length-table, get_or-table}
use Rattle.words.proofs.EachLaws.{one_each}
use Rattle.words.proofs.FirstOnes.{first_ones_lt, bit-first_ones}
use Rattle.switch.specs.Conduction.{Value, channel_by, by_values, edge_on, Link, ground, supply}
use Rattle.switch.specs.Modules.{ModuleType, links_of, setting_of}
use Rattle.switch.specs.Deciding.{all_below, joins, one_rail}
use Rattle.switch.specs.Blocks.{block_holds, blocks_of, running_verdict, by_blocks}
use Rattle.std.specs.List.{list_all, range_with_len}
use Rattle.std.proofs.lemmas.List.Folds.{list_all-map, list_all-append}
use Rattle.std.proofs.lemmas.List.FromFn.{map-range_with_len_more}
use Rattle.std.proofs.Math.Bool.{and_comm}
use Rattle.switch.proofs.Deciding.{same_test}
use Rattle.switch.proofs.Blocks.{block_each}
use Rattle.join_nodes.specs.Model.{no_parts, edge_with_parts, type_in_parts, PartsGiven, WidePlanes, gate_word, joined_words, OutputTold}
use Rattle.join_nodes.specs.Model.{setting_ones, setting_zeros}
use Rattle.join_nodes.specs.declared.edges.Parts.{Parts}
use Rattle.join_nodes.proofs.RailWords.{links_are, gate_tells}
use Rattle.join_nodes.proofs.SettingBlocks.{settings_switch}

-- ---- the word of a block

-- exactly one of two bits
one_of_two : (a b : Bool) → min (max (of_bool b) (of_bool a)) (1 - min (of_bool b) (of_bool a)) ≡ of_bool (not (beq a b))
one_of_two true true = refl
one_of_two true false = refl
one_of_two false true = refl
one_of_two false false = refl

-- the places where exactly one of two words has a 1
abbrev one_of : ℕ → ℕ → ℕ
one_of s g = bit_and (bit_or s g) ((2 ^ 64 - 1) - bit_and s g)

module _ (ws : ℕ → List Link) (o : ℕ) (node : o < 32) where
  abbrev bits : ℕ → ℕ → ℕ
  bits rail v = of_bool (joins (ws v) o rail)

  word_of : (rail : ℕ) → get_or (joined_words ws rail) o 0 ≡ word (bits rail)
  unfolding joined_words
  word_of rail = get_or-table 32 (λ (m : ℕ). word (λ (v : ℕ). of_bool (joins (ws v) m rail))) 0 o node

  rail_bit : (rail v : ℕ) → v < 64 → bit (get_or (joined_words ws rail) o 0) v ≡ bits rail v
  rail_bit rail v h = ap (λ (w : ℕ). bit w v) (word_of rail) ∙ bit_word (bits rail) (λ u. of_bool_le_one (joins (ws u) o rail)) v h

  rail_fits : (rail : ℕ) → get_or (joined_words ws rail) o 0 < 2 ^ 64
  rail_fits rail = rw (word_of rail) (word_lt (bits rail) (λ u. of_bool_le_one (joins (ws u) o rail)))

  one_bit : (v : ℕ) → v < 64 → bit (one_of (get_or (joined_words ws supply) o 0) (get_or (joined_words ws ground) o 0)) v ≡ of_bool (not (beq (joins (ws v) o ground) (joins (ws v) o supply)))
  one_bit v h =
      let s : ℕ = get_or (joined_words ws supply) o 0 in
      let g : ℕ = get_or (joined_words ws ground) o 0 in
      bit_not_under 64 (bit_or s g) (bit_and s g) v (lt_of_le_of_lt (and_le_l s g) (rail_fits supply)) h
      ∙ rw (bit_or_lem s g v, bit_and_lem s g v, rail_bit supply v h, rail_bit ground v h) (one_of_two (joins (ws v) o ground) (joins (ws v) o supply))

-- ---- what the comparison tells

-- a word whose bits tell which settings of a block pass, compared at the places of the type's settings
module _ (t : ModuleType) (block one : ℕ) (bits : (v : ℕ) → v < 64 → bit one v ≡ of_bool (one_rail t (setting_of (64 * block + v)))) where
  abbrev passes : ℕ → Bool
  passes v = one_rail t (setting_of (64 * block + v))

  counted : ℕ
  counted = first_ones (2 ^ t.labels - 64 * block)

  counted_bit : (v : ℕ) → v < 64 → bit counted v ≡ of_bool (ltb v (2 ^ t.labels - 64 * block))
  unfolding counted
  counted_bit v h = bit-first_ones (2 ^ t.labels - 64 * block) v h

  each_passes : bit_and one counted ≡ counted → (v : ℕ) → v < 64 → 64 * block + v < 2 ^ t.labels → T (passes v)
  each_passes e v h k =
      let here : bit counted v ≡ 1 = counted_bit v h ∙ rw (lt-ltb v (2 ^ t.labels - 64 * block) (omega arith)) in
      set-bit (passes v) (omega (arith, bits v h, bit_and_lem one counted v, ap (λ (w : ℕ). bit w v) e, bit_le_one one v))

  same_word : ((v : ℕ) → v < 64 → 64 * block + v < 2 ^ t.labels → T (passes v)) → bit_and one counted ≡ counted
  unfolding counted
  same_word each =
      let fits : counted < 2 ^ 64 = first_ones_lt (2 ^ t.labels - 64 * block) in
      bits_eq 64 (bit_and one counted) counted (lt_of_le_of_lt (and_le_r one counted) fits) fits λ v h. at v h (ltb v (2 ^ t.labels - 64 * block)) refl
    where
      at : (v : ℕ) → v < 64 → (b : Bool) → ltb v (2 ^ t.labels - 64 * block) ≡ b → bit (bit_and one counted) v ≡ bit counted v
      at v h true e =
          let within = ltb-true v (2 ^ t.labels - 64 * block) e in
          omega (arith, bit-set (passes v) (each v h (omega arith)), bits v h, bit_and_lem one counted v, bit_le_one counted v)
      at v h false e =
          let here : bit counted v ≡ 0 = counted_bit v h ∙ rw e in omega (arith, bit_and_lem one counted v)

  holds : eqb (bit_and one counted) counted ≡ block_holds t block
  holds =
      same_test (eqb (bit_and one counted) counted) (block_holds t block)
      (λ e. (block_each t block).1 (each_passes (eqb→eq (bit_and one counted) counted e)))
      (λ b. let same = same_word ((block_each t block).0 b) in subst (λ (w : ℕ). T (eqb (bit_and one counted) w)) same (eqb_refl (bit_and one counted)))

-- ---- all blocks

all_numbers : (test : ℕ → Bool) (n : ℕ) → list_all test (range_with_len 0 n) ≡ all_below n test
unfolding all_below
all_numbers test zero = refl
all_numbers test (suc n) =
    let same : Bool → Bool = λ b. b in
    let more : map test (range_with_len 0 (n + 1)) ≡ map test (range_with_len 0 n) ++ test n ∷ []
    = map-range_with_len_more test 0 n n (omega arith) in
    sym (list_all-map same test (range_with_len 0 (suc n)))
    ∙ ap (list_all same) (rw add-one at more)
    ∙ list_all-append same (map test (range_with_len 0 n)) (test n ∷ [])
    ∙ and_comm (list_all same (map test (range_with_len 0 n))) (test n && true)
    ∙ rw and-true (ap (λ (b : Bool). test n && b) (list_all-map same test (range_with_len 0 n) ∙ all_numbers test n))

-- asked of each block, from the first on
pub all_asked : (t : ModuleType) (blocks : ℕ) → blocks ≡ blocks_of t.labels
    → list_all (block_holds t) (range_with_len 0 blocks) ≡ by_blocks t
unfolding by_blocks running_verdict
all_asked t blocks is =
    all_numbers (block_holds t) blocks ∙ rw is

-- ---- a block

module _ {h o k : ℕ} {parts : List Parts} (given : PartsGiven h o k parts) (block : ℕ) where
  abbrev t : ModuleType
  t = type_in_parts h o k parts

  abbrev setting : ℕ → ℕ → Value
  setting v = setting_of (64 * block + v)

  -- the planes of a block's settings switch on what the settings do
  module _ (planes : List ℕ) (wide : WidePlanes (setting_ones block) (setting_zeros block) 1 planes) where
    by_settings : (v i : ℕ) → v < 64 → i < length parts
        → bit (gate_word 1 0 parts planes i) v ≡ of_bool (edge_on (by_values (setting v)) (edge_with_parts (get_or parts i no_parts)))
    unfolding edge_on edge_with_parts setting_ones setting_zeros
    by_settings v i m l =
        let g : ℕ = (get_or parts i no_parts).gate in
        gate_tells parts given.fit wide 0 (omega arith) v i m l
        ∙ rw (one_each 12 (setting_ones block) (length-table 12 _), one_each 12 (setting_zeros block) (length-table 12 _))
        (ap of_bool (settings_switch block v (channel_by (g / 16)) (g % 16) m (given.label i l)))

    one_word : (s g : ℕ) → OutputTold parts planes o supply s → OutputTold parts planes o ground g
        → (v : ℕ) → v < 64 → bit (one_of s g) v ≡ of_bool (one_rail t (setting v))
    unfolding one_rail type_in_parts links_of
    one_word s g told_supply told_ground v m =
        let ws : ℕ → List Link = λ (u : ℕ). links_of t (setting u) in
        let are = links_are parts (gate_word 1 0 parts planes) (λ (u : ℕ). by_values (setting u)) by_settings in
        rw (told_supply ws are, told_ground ws are) (one_bit ws o given.output v m)

  -- the test of a block, from what the calls give
  pub block_verdict : (settings counts : ℕ) (ones zeros planes : List ℕ) (s g : ℕ)
      → settings ≡ 2 ^ k → ones ≡ setting_ones block → zeros ≡ setting_zeros block → WidePlanes ones zeros 1 planes
      → OutputTold parts planes o supply s → OutputTold parts planes o ground g → counts ≡ first_ones (settings - 64 * block)
      → eqb (bit_and (one_of s g) counts) counts ≡ block_holds t block
  unfolding counted type_in_parts
  block_verdict settings counts ones zeros planes s g e is_ones is_zeros wide told_supply told_ground c =
      rw (c, e) (holds t block (one_of s g) (one_word planes (rw (is_ones, is_zeros) at wide) s g told_supply told_ground))
