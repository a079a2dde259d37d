-- One input more, behind those that were told. Assumes nothing.
use Prim.Native.Nat.{ℕ, suc}
use mathlib.Core.Path.{◌≡◌, refl, sym, subst}
use mathlib.Core.List.{List}
use Rattle.std.specs.Prelude.{Option}
use Rattle.program_io.specs.Telling.{InputsPut}
use Rattle.program_io.specs.declared.output.Output.{Output}

module _ (OnePut : Output → Output → Option (List ℕ) → Option (List ℕ) → Type 0) where
  pub none_told : (output : Output) (bytes : Option (List ℕ)) → InputsPut OnePut 0 output output bytes bytes
  unfolding InputsPut
  none_told output bytes = (refl, refl)

  pub one_told : (count more : ℕ) → more ≡ suc count → (before between after : Output) (old mid new : Option (List ℕ))
      → InputsPut OnePut count before between old mid → OnePut between after mid new
      → InputsPut OnePut more before after old new
  unfolding InputsPut
  one_told count more is before between after old mid new told next =
      subst (λ (n : ℕ). InputsPut OnePut n before after old new) (sym is) (between, mid, told, next)
