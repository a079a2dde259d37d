-- A test that is one test or another. Assumes nothing.
use mathlib.Core.Bool.{Bool, true, false, ◌||◌}
use mathlib.Core.Logic.{◌⊎◌, inl, inr}
use lib.Dec.{T}

pub in_first : (x y : Bool) → T x → T (x || y)
in_first true y t = tt
in_first false y t = absurd t

pub in_second : (x y : Bool) → T y → T (x || y)
in_second true y t = tt
in_second false y t = t

pub or_cases : (x y : Bool) → T (x || y) → T x ⊎ T y
or_cases true y t = inl tt
or_cases false y t = inr t
