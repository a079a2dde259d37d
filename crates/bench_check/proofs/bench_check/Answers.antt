-- `bench_check::bench_check` meets its contract: the type is one that the check takes, since its edges are all the same one, in range. Assumes nothing.
use Prim.Native.Nat.{ℕ, zero, suc, ◌+◌, ◌%◌, ◌<◌, ◌≤◌}
use mathlib.Core.Path.{◌≡◌, refl, sym, ap, subst, ◌∙◌}
use mathlib.Core.Bool.{Bool, true, false, ◌&&◌}
use mathlib.Core.List.{map}
use native.Mathlib.Nat.{mod-lt}
use native.Mathlib.Omega.{arith}
use borrow.Author.Tests.{lt-ltb, le-leb}
use lib.Dec.{T, leb}
use lib.ListN.{replicate, take}
use Rattle.std.specs.Int.{from_bool}
use Rattle.words.specs.Bits.{of_bool}
use Rattle.switch.specs.Conduction.{between}
use Rattle.switch.specs.Modules.{most_edges, all_of, type_in_range, edge_in_range, in_range}
use Rattle.switch.specs.Deciding.{is_complementary}
use Rattle.switch.specs.Records.{edge_record, edge_of, edges_of, type_of, TypeGiven}
use Rattle.switch.specs.declared.ModuleType.{ModuleType}
use Rattle.switch.proofs.Deciding.{and_both}
use Rattle.switch.proofs.Ranges.{its_record}
use Rattle.bench_check.specs.Judged.{judged_edge, judged}
use Rattle.bench_check.proofs.bench_check.Goals as goal

-- a test that what is shown of one thing passes is passed by what is shown of the first n of m of it
all_shown : {A B : Type 0} (test : B → Bool) (shown : A → B) (a : A) → T (test (shown a)) → (n m : ℕ) → T (all_of test (map shown (take n (replicate m a))))
unfolding all_of
all_shown test shown a t zero m = tt
all_shown test shown a t (suc n) zero = tt
all_shown test shown a t (suc n) (suc m) =
    and_both (test (shown a)) (all_of test (map shown (take n (replicate m a)))) t (all_shown test shown a t n m)

in_range_lem : (a b n : ℕ) → a ≤ n → n ≤ b → T (between a b n)
unfolding between
in_range_lem a b n low high = and_both (leb a n) (leb n b) (subst T (sym (le-leb a n low)) tt) (subst T (sym (le-leb n b high)) tt)

module _ (h o k node label count : ℕ) where
  abbrev h' : ℕ
  h' = 24 + h % 8

  abbrev k' : ℕ
  k' = 1 + k % 12

  numbers_in_range : T (type_in_range h' (2 + o % 16) k')
  unfolding type_in_range
  numbers_in_range =
      and_both (between 2 31 h' && between 2 h' (2 + o % 16)) (between 1 12 k')
      (and_both (between 2 31 h') (between 2 h' (2 + o % 16)) (in_range_lem 2 31 h' (omega arith) (omega arith)) (in_range_lem 2 h' (2 + o % 16) (omega arith) (omega arith)))
      (in_range_lem 1 12 k' (omega arith) (omega arith))

  edge_in_range_lem : T (edge_in_range h' k' (edge_of (edge_record (judged_edge k node label))))
  unfolding edge_in_range
  edge_in_range_lem =
      let small : label % k' < k' = mod-lt label (omega arith) in
      rw (
        its_record (judged_edge k node label) (omega arith) (omega arith) (omega (arith, small)),
        le-leb (node % 24) h' (omega arith),
        le-leb 0 h' (omega arith),
        lt-ltb (label % k') k' small,
      )
      tt

  given : count < 256 → TypeGiven (judged h o k node label count)
  unfolding in_range type_of edges_of
  given few = record {
    places = omega (arith, few);
    ranges =
        and_both (type_in_range h' (2 + o % 16) k')
        (all_of (edge_in_range h' k') (map edge_of (take (count + 1) (replicate most_edges (edge_record (judged_edge k node label))))))
        numbers_in_range
        (all_shown (edge_in_range h' k') edge_of (edge_record (judged_edge k node label)) edge_in_range_lem (count + 1) most_edges);
  }

pub check_type-requires : goal.check_type-requires
check_type-requires c = subst TypeGiven (sym c.judged_type.ensures) (given _ _ _ _ _ _ c.ranges.count.fits)

-- a verdict as a number
as_number : (b : Bool) → from_bool b ≡ of_bool b
as_number true = refl
as_number false = refl

pub returns : goal.returns
returns c =
    c.from.ensures ∙ as_number c.check_type.result ∙ ap of_bool c.check_type.ensures
    ∙ ap (λ (t : ModuleType). of_bool (is_complementary (type_of t))) c.judged_type.ensures
