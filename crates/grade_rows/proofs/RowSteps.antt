-- The rows of a circuit written one instance at a time: the codes after the first instances, one instance more, and after the last.
use Prim.Native.Nat.{ℕ, suc, ◌+◌, ◌-◌, ◌≤◌, ◌<◌}
use mathlib.Core.Path.{◌≡◌, sym, ap, ◌∙◌}
use mathlib.Core.List.{List, ◌++◌, map, map-append, map-map}
use native.Mathlib.Decide.{dec_lt}
use native.Mathlib.Numerals.{add-one}
use native.Mathlib.Omega.{arith}
use lib.ListN.{length, get_or, drop, replicate, length-map, length-replicate, get_or-replicate, length-append, length-drop, get_or-append}
use lib.ListN.{get_or-eq_default}
use lib.Seq.{get_or-append-add, get_or-drop}
use Rattle.words.specs.Written.{written}
use Rattle.words.proofs.Tables.{is-table}
use Rattle.switch.specs.Modules.{ModuleType}
use Rattle.circuit.specs.Circuit.{Circuit, Instance, Listed, faults_of}
use Rattle.circuit.specs.Records.{padded}
use Rattle.circuit.specs.Laws.{CircuitGood}
use Rattle.grading.specs.Codes.{code_of, codes_of}
use Rattle.grading.specs.Rows.{Row, rows_of_instance, rows_from, rows_of}
use Rattle.grading.proofs.CodeLaws.{length-codes}
use Rattle.grading.proofs.RowLaws.{rows_more, rows_before, faults_at, rows_few, rows_all, few_rows}
use Rattle.grade_rows.specs.Model.{RowsListed}
use Rattle.grade_rows.proofs.RowWriting.{Wrote, wrote_nothing, wrote_more}

codes_of_instance : (types : List ModuleType) (bridges : List Listed) (n : ℕ) (i : Instance)
    → codes_of (rows_of_instance types bridges n i) ≡ map (code_of n) (faults_of types bridges i)
unfolding rows_of_instance codes_of
codes_of_instance types bridges n i = map-map _ _ (faults_of types bridges i)

codes-append : (rs ss : List Row) → codes_of (rs ++ ss) ≡ codes_of rs ++ codes_of ss
unfolding codes_of
codes-append rs ss = map-append _ rs ss

codes-more : (c : Circuit) (i : ℕ) (d : Instance) → i < length c.instances
    → codes_of (rows_before c (suc i)) ≡ codes_of (rows_before c i) ++ map (code_of (suc i)) (faults_at c d i)
codes-more c i d h =
    ap codes_of (rows_more c.types c.bridges c.instances i d h)
    ∙ codes-append (rows_before c i) _
    ∙ rw (codes_of_instance c.types c.bridges (suc i) (get_or c.instances i d))

-- a text at the front of zeros
written-padded : (n : ℕ) (text : List ℕ) → length text ≤ n → written (replicate n 0) 0 text ≡ padded n 0 text
unfolding written padded
written-padded n text h =
    is-table 0 n (λ (j : ℕ). get_or text j 0) (text ++ drop (0 + length text) (replicate n 0)) long (λ j q. at j q (dec_lt j (length text)))
  where
    rest : List ℕ
    rest = drop (0 + length text) (replicate n 0)

    long : length (text ++ rest) ≡ n
    long = omega (arith, length-append text rest, length-drop {A = ℕ} (0 + length text) (replicate n 0), length-replicate {A = ℕ} n 0)

    at : (j : ℕ) → j < n → Dec (j < length text) → get_or (text ++ rest) j 0 ≡ get_or text j 0
    at j q (yes p) = get_or-append text rest 0 j p
    at j q (no p) =
        let k : ℕ = j - length text in
        let here : length text + k ≡ j = omega arith in
        rw (← here) (get_or-append-add text rest k 0
        ∙ get_or-drop (0 + length text) (replicate n 0) k 0
        ∙ get_or-replicate n (0 + length text + k) 0 0 (omega arith)
        ∙ sym (get_or-eq_default text 0 (omega arith)))

-- ---- after the first instances

pub record Rowed (c : Circuit) (i : ℕ) (rows : List ℕ) (at : ℕ) : Type 0 where
  pub few : i ≤ length c.instances
  pub wrote : Wrote (replicate 2048 0) 0 (codes_of (rows_before c i)) rows at

pub rowed_none : (c : Circuit) → Rowed c 0 (replicate 2048 0) 0
unfolding rows_from codes_of
rowed_none c = record { few = omega arith; wrote = wrote_nothing }

module _ (c : Circuit) (good : CircuitGood c) (rows : List ℕ) (at : ℕ) where
  module _ (i : ℕ) (d : Instance) (h : i < length c.instances) (so_far : Rowed c i rows at) where
    pub rowed_long : length rows ≡ 2048
    rowed_long = so_far.wrote.long ∙ length-replicate {A = ℕ} 2048 0

    pub rowed_room : at + length (faults_at c d i) ≤ 2048
    rowed_room = omega (arith, so_far.wrote.next_is, length-codes (rows_before c i), rows_few c good i d h)

    one_more_lem : (new rows' : List ℕ) (at' : ℕ) → new ≡ map (code_of (suc i)) (faults_at c d i) → rows' ≡ written rows at new → at' ≡ at + length new
        → Rowed c (suc i) rows' at'
    one_more_lem new rows' at' are p q =
        let more : codes_of (rows_before c (suc i)) ≡ codes_of (rows_before c i) ++ new = codes-more c i d h ∙ rw are in
        let zeros = length-replicate {A = ℕ} 2048 0 in
        let size : length new ≡ length (faults_at c d i) = ap length are ∙ length-map (faults_at c d i) (code_of (suc i)) in
        let fits : 0 + length (codes_of (rows_before c i) ++ new) ≤ length {A = ℕ} (replicate 2048 0)
        = omega (arith, length-append (codes_of (rows_before c i)) new, length-codes (rows_before c i), rows_few c good i d h) in
        record { few = h; wrote = rw more (wrote_more so_far.wrote new rows' at' fits p q) }

    pub rowed_more : (new rows' : List ℕ) (at' : ℕ) → new ≡ map (code_of (suc i)) (faults_at c d i) → RowsListed rows at new at' rows'
        → Rowed c (i + 1) rows' at'
    rowed_more new rows' at' are all = rw (add-one i) (one_more_lem new rows' at' are all.listed all.end)

  pub rowed_end : (i : ℕ) → length c.instances ≤ i → Rowed c i rows at → rows ≡ padded 2048 0 (codes_of (rows_of c))
  rowed_end i h all =
      all.wrote.rows_are
      ∙ rw (rows_all c i h) (written-padded 2048 (codes_of (rows_of c)) (omega (arith, length-codes (rows_of c), few_rows c good)))
