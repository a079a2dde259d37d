-- The cut of a file from an offset tells that offset. So how a stage ended tells its verdict, what it has gathered, and the offset at which
-- it stands.
use Prim.Native.Nat.{ℕ, ◌+◌, ◌≤◌}
use mathlib.Core.Path.{◌≡◌, refl, sym, ap, ◌∙◌}
use mathlib.Core.Bool.{Bool, true, false, cond}
use mathlib.Core.List.{List}
use borrow.Author.Tests.{eqb-true}
use lib.Dec.{eqb, ltb}
use lib.ListN.{length}
use Rattle.circuit.specs.Fields.{Cut, clean, broken, field, cut_from}
use Rattle.circuit.specs.Table.{Verdict}
use Rattle.circuit.specs.Stages.{Stage, stage_of}
use Rattle.read_fields.proofs.Cuts.{behind, standing, cut_step}

-- the offset that a cut begins at, in a file of a size
start_of : ℕ → Cut → ℕ
start_of size clean = size
start_of size (broken at) = at
start_of size (field f rest) = f.at

module _ (file : List ℕ) where
  start_is : (at : ℕ) → at ≤ length file → start_of (length file) (cut_from file at) ≡ at
  unfolding start_of
  start_is at h =
      ap (start_of (length file)) (cut_step file at h)
      ∙ go (eqb at (length file)) (ltb (length file) (at + 3)) (ltb (length file) (behind file at)) refl
    where
      rest : Cut
      rest = cut_from file (behind file at)

      go : (b c d : Bool) → eqb at (length file) ≡ b
          → start_of (length file) (cond b clean (cond c (broken at) (cond d (broken at) (field (standing file at) rest)))) ≡ at
      go true c d e = sym (eqb-true at (length file) e)
      go false true d e = refl
      go false false true e = refl
      go false false false e = refl

  pub cut_tells : (m n : ℕ) → m ≤ length file → n ≤ length file → cut_from file m ≡ cut_from file n → m ≡ n
  cut_tells m n h k e = sym (start_is m h) ∙ ap (start_of (length file)) e ∙ start_is n k

  -- two tellings of how one stage ended are the same
  pub ended_once : {A : Type 0} {stage : Stage A} {v w : Verdict} {a b : A} (m n : ℕ) → m ≤ length file → n ≤ length file
      → stage ≡ stage_of v a (cut_from file m) → stage ≡ stage_of w b (cut_from file n) → (v ≡ w) × (a ≡ b) × (m ≡ n)
  ended_once {A} m n h k e e' =
      let same = sym e ∙ e' in
      (ap (λ (s : Stage A). s.verdict) same, ap (λ (s : Stage A). s.gathered) same, cut_tells m n h k (ap (λ (s : Stage A). s.rest) same))
