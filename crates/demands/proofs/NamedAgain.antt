-- Proves NamingAgainAddsNothing and OtherEndAddsNothing, of demand 2: a bridge named once more adds no class and no found class, since both circuits list
-- the same shorts.
use Prim.Native.Nat.{ℕ, zero, suc, ◌+◌, ◌<◌, ◌≤◌}
use mathlib.Core.Path.{◌≡◌, refl, sym, ap, ap₂, subst, ◌∙◌}
use mathlib.Core.Bool.{Bool, true, false, cond}
use mathlib.Core.Logic.{◌⊎◌, inl, inr, ⊎_elim}
use mathlib.Core.List.Memᴰ
use mathlib.Core.List.{List, [], ◌∷◌, ◌++◌, Memᴰ}
use native.Mathlib.Omega.{arith}
use borrow.Author.Tests.{eq-eqb, eqb-true}
use lib.Dec.{eqb}
use lib.ListN.{length, get_or}
use Rattle.switch.specs.Modules.{ModuleType}
use Rattle.switch.specs.Bridges.{Bridge, nodes}
use Rattle.circuit.specs.Circuit.{Circuit, Instance, Listed, Choice, exhaustive, no_faults, list}
use Rattle.circuit.specs.Circuit.{numbered, type_of_instance, user_list, chosen, faults_of}
use Rattle.grading.specs.Rows.{Row, row_with, no_instance, no_row, rows_from, rows_of}
use Rattle.grading.specs.Wires.{wire_at}
use Rattle.grading.specs.Statements.{RowOf}
use Rattle.grading.proofs.Everywhere.{place_of_lem}
use Rattle.demands.specs.Two.{row_at, instance_of, OneClass, OneBridgeMore, NamedAgain, NamingAgainAddsNothing, OtherEndAddsNothing}
use Rattle.demands.specs.OneWire.{AlikeButLists, ShortsAmong}
use Rattle.demands.proofs.RowFaults.{row_of_lem, row_number, row_instance, row_type, rows_from_lem, fault-row}
use Rattle.demands.proofs.ShortsCounted.{same_shorts_count_alike}

-- ---- user lists

abbrev listed_as : ℕ → Bridge → Listed
listed_as l b = record { list = l; bridge = b }

listed : (l : ℕ) (b : Bridge) (bs : List Listed) → Memᴰ b (user_list l bs) → Memᴰ (listed_as l b) bs
unfolding user_list
listed l b [] m = absurd (Memᴰ.not-nil m)
listed l b (x ∷ xs) m = go (eqb x.list l) refl m (listed l b xs)
  where
    go : (t : Bool) → eqb x.list l ≡ t → Memᴰ b (cond t (x.bridge ∷ user_list l xs) (user_list l xs))
        → (Memᴰ b (user_list l xs) → Memᴰ (listed_as l b) xs) → Memᴰ (listed_as l b) (x ∷ xs)
    go true e m later =
        ⊎_elim
        (λ (p : b ≡ x.bridge). Memᴰ.head (rw (p, ← (eqb-true x.list l e))))
        (λ k. Memᴰ.tail (later k))
        (Memᴰ.cases_cons m)
    go false e m later = Memᴰ.tail (later m)

in_list : (l : ℕ) (b : Bridge) (bs : List Listed) → Memᴰ (listed_as l b) bs → Memᴰ b (user_list l bs)
unfolding user_list
in_list l b [] m = absurd (Memᴰ.not-nil m)
in_list l b (x ∷ xs) m = ⊎_elim here (λ k. later (eqb x.list l) (in_list l b xs k)) (Memᴰ.cases_cons m)
  where
    here : listed_as l b ≡ x → Memᴰ b (cond (eqb x.list l) (x.bridge ∷ user_list l xs) (user_list l xs))
    here e =
        rw (eq-eqb x.list l (sym (ap (λ (y : Listed). y.list) e))) (Memᴰ.head (ap (λ (y : Listed). y.bridge) e))

    later : (t : Bool) → Memᴰ b (user_list l xs) → Memᴰ b (cond t (x.bridge ∷ user_list l xs) (user_list l xs))
    later true k = Memᴰ.tail k
    later false k = k

-- ---- the two circuits

-- a row of a circuit that joins the same two wires
abbrev PartnerIn : Circuit → Row → Type 0
PartnerIn c row = (r : ℕ) × (r < length (rows_of c)) × OneClass row (row_at c r)

one-class-itself : (row : Row) → OneClass row row
unfolding OneClass
one-class-itself row = inl (refl, refl)

itself : (c : Circuit) (row : Row) → RowOf c row → PartnerIn c row
itself c row m =
    let place = place_of_lem no_row m in
    (place.0, place.1, subst (OneClass row) (sym place.2) (one-class-itself row))

module _ (c d : Circuit) (again : Bridge) (more : OneBridgeMore c d again) where
  abbrev extra : Listed
  extra = listed_as more.number again

  abbrev fewer : List Listed
  fewer = more.before ++ more.after

  abbrev longer : List Listed
  longer = more.before ++ (extra ∷ more.after)

  rows_fewer : rows_of c ≡ rows_from d.types fewer 1 d.instances
  unfolding rows_of
  rows_fewer = rw (more.types, more.instances, more.bridges)

  rows_more : rows_of d ≡ rows_from d.types longer 1 d.instances
  unfolding rows_of
  rows_more = rw more.named_again

  alike : AlikeButLists c d
  alike = record {
    inputs = more.inputs;
    types = more.types;
    vectors = more.vectors;
    as_many = ap length more.instances;
    modules = λ n. ap (λ (is : List Instance). (numbered is n no_instance).type) more.instances;
    references = λ n. ap (λ (is : List Instance). (numbered is n no_instance).references) more.instances;
  }

  listed_longer : (l : ℕ) (b : Bridge) → Memᴰ (listed_as l b) fewer → Memᴰ (listed_as l b) longer
  listed_longer l b m =
      ⊎_elim
      (λ k. Memᴰ.append_left (extra ∷ more.after) k)
      (λ k. Memᴰ.append_right more.before (Memᴰ.tail k))
      (Memᴰ.append_cases more.before m)

  -- the bridge named again, of a list that an instance chose
  abbrev IsAgain : Instance → Bridge → Type 0
  IsAgain i b = (b ≡ again) × (i.choice ≡ list more.number)

  listed_fewer : (i : Instance) (l : ℕ) (b : Bridge) → i.choice ≡ list l → Memᴰ (listed_as l b) longer
      → Memᴰ (listed_as l b) fewer ⊎ IsAgain i b
  listed_fewer i l b chose m =
      ⊎_elim
      (λ k. inl (Memᴰ.append_left more.after k))
      (λ k. ⊎_elim named (λ n. inl (Memᴰ.append_right more.before n)) (Memᴰ.cases_cons k))
      (Memᴰ.append_cases more.before m)
    where
      named : listed_as l b ≡ extra → Memᴰ (listed_as l b) fewer ⊎ IsAgain i b
      named e = inr (ap (λ (y : Listed). y.bridge) e, chose ∙ ap list (ap (λ (y : Listed). y.list) e))

  module _ (i : Instance) (b : Bridge) where
    abbrev t : ModuleType
    t = type_of_instance d.types i

    fault_more : Memᴰ b (faults_of d.types fewer i) → Memᴰ b (faults_of d.types longer i)
    unfolding faults_of chosen
    fault_more = go i.choice
      where
        go : (choice : Choice) → Memᴰ b (chosen t fewer choice) → Memᴰ b (chosen t longer choice)
        go exhaustive m = m
        go no_faults m = m
        go (list l) m = in_list l b longer (listed_longer l b (listed l b fewer m))

    fault_fewer : Memᴰ b (faults_of d.types longer i) → Memᴰ b (faults_of d.types fewer i) ⊎ IsAgain i b
    unfolding faults_of chosen
    fault_fewer = go i.choice refl
      where
        go : (choice : Choice) → i.choice ≡ choice → Memᴰ b (chosen t longer choice) → Memᴰ b (chosen t fewer choice) ⊎ IsAgain i b
        go exhaustive chose m = inl m
        go no_faults chose m = inl m
        go (list l) chose m =
            ⊎_elim (λ k. inl (in_list l b fewer k)) (λ k. inr k) (listed_fewer i l b chose (listed l b longer m))

  row_more : (row : Row) → RowOf c row → RowOf d row
  row_more row m =
      let from = rows_from_lem d.types fewer 1 d.instances row (rw rows_fewer at m) in
      rw rows_more (from.others longer row.bridge (fault_more row.instance row.bridge from.fault))

  row_fewer : (row : Row) → RowOf d row → RowOf c row ⊎ IsAgain row.instance row.bridge
  row_fewer row m =
      let from = rows_from_lem d.types longer 1 d.instances row (rw rows_more at m) in
      ⊎_elim
      (λ k. inl (rw rows_fewer (from.others fewer row.bridge k)))
      (λ k. inr k)
      (fault_fewer row.instance row.bridge from.fault)

module _ (c d : Circuit) (again : NamedAgain c d) where
  -- the row of the bridge named again
  new_row : (row : Row) → RowOf d row → IsAgain c d again.again again.more row.instance row.bridge → PartnerIn c row
  new_row row m is =
      let n : ℕ = row.number in
      let instances : d.instances ≡ c.instances = sym again.more.instances in
      let instance_is : row.instance ≡ instance_of c n =
      row_instance d row m ∙ ap (λ (is : List Instance). numbered is n no_instance) instances in
      let type_is : row.type ≡ type_of_instance c.types (instance_of c n) =
      row_type d row m
      ∙ ap₂ (λ (ts : List ModuleType) (is : List Instance). type_of_instance ts (numbered is n no_instance)) (sym again.more.types) instances in
      let same : row ≡ row_with c.types n (instance_of c n) again.again =
      (λ j. record { number = n; instance = instance_is j; type = type_is j; bridge = is.0 j }) in
      let number = row_number d row m in
      let there = again.named n number.0 (omega (arith, number.1, ap length instances))
      (ap (λ (i : Instance). i.choice) (sym instance_is) ∙ is.1) in
      (there.0, there.1, subst (λ (x : Row). OneClass x (row_at c there.0)) (sym same) there.2)

  up : ShortsAmong c d
  up r h = itself d (row_at c r) (row_more c d again.again again.more (row_at c r) (row_of_lem c r h))

  down : ShortsAmong d c
  down s h =
      let row : Row = row_at d s in
      let m : RowOf d row = row_of_lem d s h in
      ⊎_elim (itself c row) (new_row row m) (row_fewer c d again.again again.more row m)

pub naming_again_adds_nothing : NamingAgainAddsNothing
naming_again_adds_nothing one other c d g k again =
    same_shorts_count_alike one other c d g k (alike c d again.again again.more) (up c d again) (down c d again)

-- ---- from the other end

-- a bridge of the list that an instance chose is a fault of it
chosen-fault : (types : List ModuleType) (bridges : List Listed) (i : Instance) (l : ℕ) (b : Bridge) → i.choice ≡ list l
    → Memᴰ (listed_as l b) bridges → Memᴰ b (faults_of types bridges i)
unfolding faults_of chosen
chosen-fault types bridges i l b chose m = rw chose (in_list l b bridges m)

-- a fault of an instance has a row
row-there : (c : Circuit) (n : ℕ) → 1 ≤ n → n ≤ length c.instances → (b : Bridge)
    → Memᴰ b (faults_of c.types c.bridges (instance_of c n)) → RowOf c (row_with c.types n (instance_of c n) b)
unfolding rows_of numbered
row-there c zero low high b m = absurd (omega arith)
row-there c (suc k) low high b m =
    let next : 1 + k ≡ suc k = omega arith in
    subst (λ (n : ℕ). RowOf c (row_with c.types n (get_or c.instances k no_instance) b)) next
    (fault-row c.types c.bridges 1 c.instances k no_instance high b m)

crossed : (types : List ModuleType) (n : ℕ) (i : Instance) (a b : ℕ) → OneClass (row_with types n i (nodes b a)) (row_with types n i (nodes a b))
unfolding OneClass wire_at
crossed types n i a b = inr (refl, refl)

pub other_end_adds_nothing : OtherEndAddsNothing
other_end_adds_nothing one other c d g k from = naming_again_adds_nothing one other c d g k (record {
  again = nodes from.second from.first;
  more = from.more;
  named = named;
})
  where
    old : Bridge
    old = nodes from.first from.second

    named : (n : ℕ) → 1 ≤ n → n ≤ length c.instances → (instance_of c n).choice ≡ list from.more.number
        → PartnerIn c (row_with c.types n (instance_of c n) (nodes from.second from.first))
    named n low high chose =
        let i : Instance = instance_of c n in
        let place = place_of_lem no_row (row-there c n low high old (chosen-fault c.types c.bridges i from.more.number old chose from.is_named)) in
        (place.0, place.1, rw place.2 (crossed c.types n i from.first from.second))
