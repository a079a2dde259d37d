-- The codes of one instance: what its choice gives, that for a circuit's record they are the codes of the instance's faults, and that, listed, they fit.
use Prim.Native.Nat.{ℕ, suc, ◌+◌, ◌-◌, ◌≤◌, ◌<◌}
use mathlib.Core.Path.{◌≡◌, refl, sym, ap, ◌∙◌}
use mathlib.Core.Bool.{Bool, true, false, cond}
use mathlib.Core.List.{List, [], ◌∷◌, ◌++◌, map}
use native.Mathlib.Decide.{ℕ_discrete}
use native.Mathlib.Numerals.{add-one}
use native.Mathlib.Omega.{arith}
use borrow.Author.Tests.{eq-eqb, ne_eqb}
use lib.Dec.{T, eqb}
use lib.ListN.{length, get_or, take, length-map}
use Rattle.words.proofs.WrittenLaws.{length_written, written_here}
use Rattle.switch.specs.Modules.{ModuleType}
use Rattle.switch.specs.Bridges.{Bridge, nodes, input}
use Rattle.switch.specs.declared.ModuleType.{ModuleType as TypeRecord}
use Rattle.circuit.specs.Circuit.{Circuit, Instance, Listed, Choice, exhaustive, no_faults, list, type_of_instance, node_pairs, node_inputs, exhaustive_list}
use Rattle.circuit.specs.Circuit.{user_list, chosen, faults_of}
use Rattle.circuit.specs.Records.{bridge_record, bridge_record_in, choice_byte, circuit_record}
use Rattle.circuit.specs.Laws.{CircuitGood, choice_good}
use Rattle.circuit.specs.declared.Bridge.{Bridge as BridgeRecord}
use Rattle.circuit.specs.declared.Circuit.{Circuit as CircuitRecord}
use Rattle.circuit.specs.declared.Instance.{Instance as InstanceRecord}
use Rattle.switch.proofs.Channels.{in_between}
use Rattle.grading.specs.Codes.{kind_of, first_end, second_end, code_of, CodeFits, CodesFit}
use Rattle.grading.proofs.CodeLaws.{code_fits}
use Rattle.grading.proofs.Everywhere.{Every, every_at, every_map}
use Rattle.grading.proofs.FaultRanges.{faults-fit}
use Rattle.grading.proofs.Lists.{get_or-map_any}
use Rattle.grading.proofs.RecordReads.{bridges_are, choice_is, type_read, highest_is, labels_are}
use Rattle.grading.proofs.RowLaws.{faults_at}
use Rattle.grade_rows.specs.Model.{listed_codes, instance_codes, RowsListed}
use Rattle.grade_rows.proofs.RowWriting.{record_code}

-- ---- by the choice

module _ (place choice h k : ℕ) (bridges : List BridgeRecord) where
  pub codes_all : choice ≡ 255 → instance_codes place choice h k bridges ≡ map (code_of (place + 1)) (node_pairs h ++ node_inputs h k)
  unfolding instance_codes
  codes_all e = rw (eq-eqb choice 255 e)

  pub codes_none : choice ≡ 0 → instance_codes place choice h k bridges ≡ []
  unfolding instance_codes
  codes_none e = rw (ne_eqb choice 255 (λ p. absurd (omega arith)), eq-eqb choice 0 e)

  pub codes_listed : (choice ≡ 255 → ⊥) → (choice ≡ 0 → ⊥) → instance_codes place choice h k bridges ≡ listed_codes (place + 1) choice bridges
  unfolding instance_codes
  codes_listed p q = rw (ne_eqb choice 255 p, ne_eqb choice 0 q)

-- a choice by its byte
module _ (choice : Choice) (good : T (choice_good choice)) where
  is_exhaustive : choice_byte choice ≡ 255 → choice ≡ exhaustive
  unfolding choice_good choice_byte
  is_exhaustive = go choice good
    where
      go : (x : Choice) → T (choice_good x) → choice_byte x ≡ 255 → x ≡ exhaustive
      go exhaustive g e = refl
      go no_faults g e = absurd (omega arith)
      go (list n) g e = absurd (omega (arith, in_between 1 127 n g))

  is_none : choice_byte choice ≡ 0 → choice ≡ no_faults
  unfolding choice_good choice_byte
  is_none = go choice good
    where
      go : (x : Choice) → T (choice_good x) → choice_byte x ≡ 0 → x ≡ no_faults
      go exhaustive g e = absurd (omega arith)
      go no_faults g e = refl
      go (list n) g e = absurd (omega (arith, in_between 1 127 n g))

is-list : (choice : Choice) → (choice_byte choice ≡ 255 → ⊥) → (choice_byte choice ≡ 0 → ⊥) → choice ≡ list (choice_byte choice)
unfolding choice_byte
is-list exhaustive p q = absurd (p refl)
is-list no_faults p q = absurd (q refl)
is-list (list n) p q = refl

-- the codes of a user list, from its bridges' records
module _ (n : ℕ) where
  record_code_lem : (l : ℕ) (b : Bridge) → record_code n (bridge_record_in l b) ≡ code_of n b
  unfolding record_code bridge_record_in code_of kind_of first_end second_end
  record_code_lem l (nodes a b) = refl
  record_code_lem l (input m k) = refl

  record_list : (l : ℕ) (b : Bridge) → (bridge_record_in l b).list ≡ l
  unfolding bridge_record_in
  record_list l (nodes a b) = refl
  record_list l (input m k) = refl

  list_codes : (l : ℕ) (bs : List Listed) → listed_codes n l (map bridge_record bs) ≡ map (code_of n) (user_list l bs)
  unfolding listed_codes user_list bridge_record record_code
  list_codes l [] = refl
  list_codes l (b ∷ bs) =
      rw (record_list b.list b.bridge, list_codes l bs) (go (eqb b.list l) (user_list l bs) (record_code_lem b.list b.bridge))
    where
      go : (own : Bool) (rest : List Bridge) → record_code n (bridge_record_in b.list b.bridge) ≡ code_of n b.bridge
          → cond own (record_code n (bridge_record_in b.list b.bridge) ∷ map (code_of n) rest) (map (code_of n) rest)
          ≡ map (code_of n) (cond own (b.bridge ∷ rest) rest)
      go true rest e = rw e
      go false rest e = refl

-- ---- an instance of a good circuit c, from the circuit's record r

module _ (c : Circuit) (good : CircuitGood c) (r : CircuitRecord) (is : r ≡ circuit_record c)
    (i : ℕ) (d : Instance) (h : i < length c.instances) (e : InstanceRecord) (u : TypeRecord) where
  abbrev byte : ℕ
  byte = (get_or r.instances i e).choice

  abbrev type : TypeRecord
  type = type_read c good r is i d h e u

  abbrev codes : List ℕ
  codes = instance_codes i byte type.highest type.labels (take r.bridge_count r.bridges)

  choice_byte_lem : byte ≡ choice_byte (get_or c.instances i d).choice
  choice_byte_lem = choice_is c good r is i d h e

  faults_all : byte ≡ 255 → faults_at c d i ≡ node_pairs type.highest ++ node_inputs type.highest type.labels
  unfolding faults_of chosen exhaustive_list
  faults_all p =
      let all = is_exhaustive (get_or c.instances i d).choice (good.instances i d h).choice (sym choice_byte_lem ∙ p) in
      rw (all, highest_is c good r is i d h e u, labels_are c good r is i d h e u)

  faults_none : byte ≡ 0 → faults_at c d i ≡ []
  unfolding faults_of chosen
  faults_none p = rw (is_none (get_or c.instances i d).choice (good.instances i d h).choice (sym choice_byte_lem ∙ p))

  faults_listed : (n : ℕ) → (byte ≡ 255 → ⊥) → (byte ≡ 0 → ⊥)
      → map (code_of n) (faults_at c d i) ≡ listed_codes n byte (take r.bridge_count r.bridges)
  unfolding faults_of chosen
  faults_listed n p q =
      let number : ℕ = choice_byte (get_or c.instances i d).choice in
      let some : (get_or c.instances i d).choice ≡ list number
      = is-list (get_or c.instances i d).choice (λ x. p (choice_byte_lem ∙ x)) (λ x. q (choice_byte_lem ∙ x)) in
      let t : ModuleType = type_of_instance c.types (get_or c.instances i d) in
      rw (bridges_are c good r is, choice_byte_lem, list_codes n number c.bridges) (ap (λ (x : Choice). map (code_of n) (chosen t c.bridges x)) some)

  pub instance_codes_lem : codes ≡ map (code_of (suc i)) (faults_at c d i)
  instance_codes_lem = rw (← add-one i) (go (ℕ_discrete byte 255) (ℕ_discrete byte 0))
    where
      go : Dec (byte ≡ 255) → Dec (byte ≡ 0) → codes ≡ map (code_of (i + 1)) (faults_at c d i)
      go (yes p) q = codes_all i byte type.highest type.labels _ p ∙ rw (faults_all p)
      go (no p) (yes q) = codes_none i byte type.highest type.labels _ q ∙ rw (faults_none q)
      go (no p) (no q) = codes_listed i byte type.highest type.labels _ p q ∙ sym (faults_listed (i + 1) p q)

  pub codes_long : length codes ≡ length (faults_at c d i)
  codes_long = ap length instance_codes_lem ∙ length-map (faults_at c d i) (code_of (suc i))

  -- listed into a buffer
  module _ (buffer : List ℕ) (from to : ℕ) (buffer' : List ℕ) (listed : RowsListed buffer from codes to buffer')
      (room : from + length (faults_at c d i) ≤ length buffer) where
    pub listed_to : to ≡ from + length (faults_at c d i)
    listed_to = omega (arith, listed.end, codes_long)

    pub listed_long : length buffer' ≡ length buffer
    listed_long = ap length listed.listed ∙ length_written buffer from codes (omega (arith, codes_long))

    listed_here : (j : ℕ) → j < length (faults_at c d i) → get_or buffer' (from + j) 0 ≡ get_or (map (code_of (suc i)) (faults_at c d i)) j 0
    listed_here j q =
        ap (λ (l : List ℕ). get_or l (from + j) 0) listed.listed
        ∙ written_here buffer from codes (omega (arith, codes_long)) j (omega (arith, codes_long))
        ∙ ap (λ (l : List ℕ). get_or l j 0) instance_codes_lem

    pub listed_at : (j : ℕ) → j < length (faults_at c d i) → (b : Bridge) → get_or buffer' (from + j) 0 ≡ code_of (suc i) (get_or (faults_at c d i) j b)
    listed_at j q b = listed_here j q ∙ get_or-map_any (code_of (suc i)) (faults_at c d i) j b 0 q

    pub listed_fit : CodesFit buffer' from to
    unfolding CodesFit
    listed_fit n low high =
        let j : ℕ = n - from in
        let inside : j < length (faults_at c d i) = omega (arith, listed_to) in
        let place : from + j ≡ n = omega arith in
        let all : Every CodeFits (map (code_of (suc i)) (faults_at c d i))
        = every_map CodeFits (code_of (suc i)) (faults_at c d i) (λ b m. code_fits (suc i) b (faults-fit c good i d h b m)) in
        rw (← place, listed_here j inside)
        (every_at CodeFits (map (code_of (suc i)) (faults_at c d i)) all j 0 (omega (arith, length-map (faults_at c d i) (code_of (suc i)))))
