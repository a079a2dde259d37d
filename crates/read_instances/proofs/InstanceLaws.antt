-- The laws of an instance field: what its type and its list choice give, that the tests on what the code is held to are those of the table,
-- and what holds of a field that passes them.
use Prim.Native.Nat.{ℕ, zero, suc, ◌+◌, ◌*◌, ◌%◌, ◌<◌, ◌≤◌}
use mathlib.Core.Path.{◌≡◌, refl, sym, ◌∙◌}
use mathlib.Core.Bool.{Bool, true, false, cond, not, ◌&&◌}
use mathlib.Core.List.{List, [], ◌∷◌, map}
use native.Mathlib.Decide.{dec_lt}
use native.Mathlib.Omega.{arith}
use borrow.Author.Tests.{ltb-true, ltb-false, leb-false, le-leb, lt-leb, eq-eqb, ne_eqb}
use lib.Dec.{eqb, ltb, eqb-suc-zero, eqb→eq}
use lib.ListN.{length, get_or, get_or-eq_default, length-map}
use Rattle.std.proofs.lemmas.List.{get_or-map}
use Rattle.std.specs.Prelude.{Some}
use Rattle.switch.specs.Conduction.{between}
use Rattle.switch.specs.Modules.{ModuleType, all_of}
use Rattle.switch.specs.declared.ModuleType.{ModuleType as TypeRecord}
use Rattle.circuit.specs.Circuit.{Choice, Instance, Listed, numbered, no_type, type_of_instance, user_list, chosen_size, fault_count}
use Rattle.circuit.specs.Numbers.{signed, choice_of, choice_in_range, reference_good}
use Rattle.circuit.specs.Known.{references_in, instance_in}
use Rattle.circuit.specs.Table.{Verdict, passes, refused_at, test, first_of, list_unsuited, list_empty, instance_tests, instance_tests_of}
use Rattle.circuit.specs.Records.{type_record, unused_type}
use Rattle.circuit.specs.Refusals.{verdict_of}
use Rattle.circuit.specs.declared.refusal.Refusal.{Refusal}
use Rattle.circuit.specs.Stages.{read_to}
use Rattle.read_bridges.specs.ListSums.{lists_of}
use Rattle.read_bridges.specs.declared.lists.ListSum.{ListSum}
use Rattle.read_instances.specs.Choices.{Chosen, chosen_of, given_by, list_tests}
use Rattle.read_instances.specs.ReadInstances.{TypesAndLists}
use Rattle.read_instances.specs.Turns.{type_named, given_in, held_tests}
use Rattle.read_instances.specs.declared.Held.{Held}
use Rattle.switch.proofs.Paths.{both}
use Rattle.switch.proofs.Channels.{in_between}
use Rattle.circuit.proofs.TypeLaws.{accepts}
use Rattle.circuit.proofs.StageLaws.{empty-count}
use Rattle.circuit.proofs.Tested.{never-passes}
use Rattle.circuit.proofs.Verdicts.{first_passes}
use Rattle.read_bridges.proofs.ListLaws.{unsuited, sum_at}
use Rattle.read_instances.proofs.ReferenceLaws.{length-references}

-- ---- what a list choice gives

-- what a choice means, as the code's record
abbrev pub meant : ModuleType → List Listed → Choice → Chosen
meant t bridges c = record { faults = chosen_size t bridges c; unsuited = list_unsuited t bridges c; empty = list_empty bridges c }

abbrev no_sum : ListSum
no_sum = record { count = 0; nodes = 0; labels = 0 }

-- what the code gathers of a choice, from the sum of the list that it names, is what the choice means
given : (t : ModuleType) (bridges : List Listed) (b : ℕ)
    → chosen_of t.highest t.labels b (get_or (lists_of bridges) b no_sum) ≡ meant t bridges (choice_of (signed 128 b))
unfolding chosen_of signed choice_of list_unsuited list_empty chosen_size
given t bridges b = go b (ltb b 128) refl
  where
    go : (c : ℕ) (low : Bool) → ltb c 128 ≡ low → chosen_of t.highest t.labels c (get_or (lists_of bridges) c no_sum) ≡ meant t bridges (choice_of (signed 128 c))
    go c false e = rw (e, le-leb 128 c (ltb-false c 128 e))
    go zero true e = refl
    go (suc c) true e =
        rw (
          sum_at bridges (suc c) no_sum (ltb-true (suc c) 128 e),
          e,
          lt-leb 128 (suc c) (ltb-true (suc c) 128 e),
          eqb-suc-zero c,
          unsuited t (user_list (suc c) bridges),
          empty-count (user_list (suc c) bridges),
        )

-- ---- what the records of types tell, for a caller that lends those of whole types

pub record Named (r : TypeRecord) (t : ModuleType) : Type 0 where
  pub highest : r.highest ≡ t.highest
  pub labels : r.labels ≡ t.labels

pub named : (records : List TypeRecord) (types : List ModuleType) → records ≡ map type_record types
    → (n : ℕ) → Named (numbered records n unused_type) (numbered types n no_type)
unfolding numbered type_record
named records types are zero = record { highest = refl; labels = refl }
named records types are (suc m) = go (dec_lt m (length types))
  where
    go : Dec (m < length types) → Named (get_or records m unused_type) (get_or types m no_type)
    go (yes h) = rw (are, get_or-map type_record types m no_type unused_type h) record { highest = refl; labels = refl }
    go (no h) =
        rw (are, get_or-eq_default (map type_record types) unused_type {n = m} (omega (arith, length-map types type_record)), get_or-eq_default types no_type {n = m} (omega arith))
        record { highest = refl; labels = refl }

-- ---- the tests

module _ {types : List ModuleType} {bridges : List Listed} {held : Held} (told : TypesAndLists types bridges held) (body : List ℕ) where
  -- what the code gathers of a field's choice is what the choice means
  pub given_is : given_in held body ≡ meant (type_of_instance types (instance_in body)) bridges (instance_in body).choice
  unfolding instance_in
  given_is =
      let n = get_or body 0 0 in
      rw (told.nodes_of n, told.labels_by_number n, told.summed) (given (numbered types n no_type) bridges (get_or body 1 0))

  -- and the tests on it are those of the table
  pub gathered : (at : ℕ) (is : List Instance) (count faults : ℕ) → count ≡ length is → faults ≡ fault_count types bridges is
      → held_tests held count faults at body ≡ instance_tests (read_to held.inputs types bridges is) at body
  unfolding instance_tests_of instance_tests instance_in
  gathered at is count faults ec ef = rw (given_is, told.labels_by_number (get_or body 0 0), told.counted, ec, ef)

-- ---- the tests as the code looks at them

sized : (n : ℕ) → not (eqb (n % 2) 0 && between 4 26 n) ≡ false → (n % 2 ≡ 0) × (4 ≤ n) × (n ≤ 26)
sized n e =
    let parts = both (eqb (n % 2) 0) (between 4 26 n) (accepts (eqb (n % 2) 0 && between 4 26 n) e) in
    let size = in_between 4 26 n parts.1 in (eqb→eq (n % 2) 0 parts.0, size.0, size.1)

module _ (held : Held) (count faults at : ℕ) (body : List ℕ) where
  abbrev asked : Chosen
  asked = given_in held body

  abbrev verdict : Verdict
  verdict = first_of (held_tests held count faults at body)

  -- none of 5, 6 and 7 refuses, and the type is this one
  pub record PastRanges (t : TypeRecord) : Type 0 where
    pub size : not (eqb (length body % 2) 0 && between 4 26 (length body)) ≡ false
    pub room : count < 128
    pub type : between 1 (length held.types.now) (get_or body 0 0) ≡ true
    pub named : type_named held body ≡ t
    pub choice : choice_in_range (signed 128 (get_or body 1 0)) ≡ true

  module _ {t : TypeRecord} (past : PastRanges t) where
    -- what is asked, by that type
    pub asked_by : (choice : ℕ) → choice ≡ get_or body 1 0 → given_by t choice held.lists.now ≡ asked
    asked_by choice e = rw (e, past.named)

    -- as many references as labels
    pub many : length body ≡ 2 + 2 * t.labels → (t.labels ≡ length (references_in body)) × (t.labels ≤ 12)
    many e = let size = sized (length body) past.size in let high = size.2 in omega (arith, length-references body)

    pub not_many : (length body ≡ 2 + 2 * t.labels → ⊥) → verdict ≡ refused_at 10 at
    unfolding instance_tests_of instance_in first_of
    not_many other =
        let size = sized (length body) past.size in
        let even = size.0 in
        let low = size.1 in
        let differs : eqb (length (references_in body)) t.labels ≡ false =
        ne_eqb (length (references_in body)) t.labels (λ e. other (omega (arith, length-references body))) in
        rw (past.size, lt-leb 128 count past.room, past.type, past.choice, past.named, differs)

    module _ (e : length body ≡ 2 + 2 * t.labels) where
      pub untied : all_of (reference_good held.inputs count) (references_in body) ≡ false → verdict ≡ refused_at 10 at
      unfolding instance_tests_of instance_in first_of
      untied bad =
          rw (past.size, lt-leb 128 count past.room, past.type, past.choice, past.named, eq-eqb (length (references_in body)) t.labels (sym (many e).0), bad)

      module _ (good : all_of (reference_good held.inputs count) (references_in body) ≡ true) where
        past_ten : verdict ≡ first_of (test 11 asked.unsuited at ∷ test 12 asked.empty at ∷ test 13 (ltb 2048 (faults + asked.faults)) at ∷ [])
        unfolding instance_tests_of instance_in first_of
        past_ten =
            rw (past.size, lt-leb 128 count past.room, past.type, past.choice, past.named, eq-eqb (length (references_in body)) t.labels (sym (many e).0), good)

        pub unlisted : (why : Refusal) → first_of (list_tests asked at) ≡ verdict_of (Some why) → verdict ≡ verdict_of (Some why)
        unfolding first_of
        unlisted why = go asked.unsuited asked.empty refl refl
          where
            go : (u m : Bool) → asked.unsuited ≡ u → asked.empty ≡ m → first_of (list_tests asked at) ≡ verdict_of (Some why) → verdict ≡ verdict_of (Some why)
            go true m p q h = past_ten ∙ rw p (rw p at h)
            go false true p q h = past_ten ∙ rw (p, q) (rw (p, q) at h)
            go false false p q h = absurd (never-passes (sym (rw (p, q) at h)))

        pub past_list : first_of (list_tests asked at) ≡ passes → verdict ≡ cond (ltb 2048 (faults + asked.faults)) (refused_at 13 at) passes
        unfolding first_of
        past_list h =
            let eleven = first_passes (test 11 asked.unsuited at) (test 12 asked.empty at ∷ []) h in
            let twelve = first_passes (test 12 asked.empty at) [] eleven.1 in
            past_ten ∙ rw (eleven.0, twelve.0)

-- ---- an instance field that passes its tests

module _ (held : Held) (count faults at : ℕ) (body : List ℕ) (e : first_of (held_tests held count faults at body) ≡ passes) where
  pub room : count < 128
  unfolding instance_tests_of
  room = let five = first_passes _ _ e in let six = first_passes _ _ five.1 in leb-false 128 count six.0

  pub few : faults + (given_in held body).faults ≤ 2048
  unfolding instance_tests_of
  few =
      let five = first_passes _ _ e in
      let six = first_passes _ _ five.1 in
      let seven = first_passes _ _ six.1 in
      let ten = first_passes _ _ seven.1 in
      let eleven = first_passes _ _ ten.1 in
      let twelve = first_passes _ _ eleven.1 in
      let thirteen = first_passes _ _ twelve.1 in
      ltb-false 2048 (faults + (given_in held body).faults) thirteen.0
