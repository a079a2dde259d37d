-- The laws of a list in n places: one element more, and none at all. And the records that an array read past its end gives.
use Prim.Native.Nat.{ℕ, ◌<◌}
use mathlib.Core.Path.{◌≡◌, sym, ap, ◌∙◌}
use mathlib.Core.List.{List, [], ◌∷◌, ◌++◌}
use native.Mathlib.Decide.{dec_lt}
use native.Mathlib.Omega.{arith}
use lib.ListN.{length, get_or, set, replicate, length-append, length-replicate, get_or-replicate, get_or-append, get_or-eq_default}
use lib.Seq.{get_or-append_seam}
use Rattle.words.specs.Tables.{table}
use Rattle.words.proofs.Tables.{get_or-table, set-table, is-table}
use Rattle.switch.specs.declared.ModuleType.{ModuleType as TypeRecord}
use Rattle.circuit.specs.Records.{padded}
use Rattle.circuit.specs.declared.Instance.{Instance as InstanceRecord}

module _ {A : Type 0} (none : A) where
  pub get_or-padded : (n : ℕ) (as' : List A) (d : A) (i : ℕ) → i < n → get_or (padded n none as') i d ≡ get_or as' i none
  unfolding padded
  get_or-padded n as' d i h = get_or-table n (λ (j : ℕ). get_or as' j none) d i h

  pub padded_nil : (n : ℕ) → padded n none [] ≡ replicate n none
  unfolding padded
  padded_nil n = sym (is-table none n (λ (i : ℕ). none) (replicate n none) (length-replicate n none) (λ i h. get_or-replicate n i none none h))

  -- what stands elsewhere is as it was when an element is put behind the last
  elsewhere : (as' : List A) (a : A) (j : ℕ) → (j ≡ length as' → ⊥) → get_or as' j none ≡ get_or (as' ++ (a ∷ [])) j none
  elsewhere as' a j other = go (dec_lt j (length as'))
    where
      go : Dec (j < length as') → get_or as' j none ≡ get_or (as' ++ (a ∷ [])) j none
      go (yes h) = sym (get_or-append as' (a ∷ []) none j h)
      go (no h) =
          get_or-eq_default as' none (omega arith)
          ∙ sym (get_or-eq_default (as' ++ (a ∷ [])) none (omega (arith, length-append as' (a ∷ []))))

  pub padded_snoc : (n : ℕ) (as' : List A) (a : A) → length as' < n → set (padded n none as') (length as') a ≡ padded n none (as' ++ (a ∷ []))
  unfolding padded
  padded_snoc n as' a h =
      ap (λ (x : A). set (table n (λ (j : ℕ). get_or as' j none)) (length as') x) (sym (get_or-append_seam as' a [] none))
      ∙ set-table none n (λ (j : ℕ). get_or as' j none) (λ (j : ℕ). get_or (as' ++ (a ∷ [])) j none) (length as') h (λ j q other. elsewhere as' a j other)

-- ---- past an array's end

abbrev pub past_type : TypeRecord
past_type = record { highest = 0; output = 0; labels = 0; count = 0; edges = [] }

abbrev pub past_instance : InstanceRecord
past_instance = record { type_number = 0; choice = 0; references = [] }
