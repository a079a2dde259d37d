-- The laws of verdicts: what a refusal of the code says of a file, and what none says; and that tests looked at one after the other,
-- each only where none before it refused, give the first that refuses.
use Prim.Native.Nat.{ℕ}
use mathlib.Core.Path.{◌≡◌, refl, sym}
use mathlib.Core.Bool.{Bool, true, false, cond}
use mathlib.Core.List.{List, [], ◌∷◌}
use native.Mathlib.Omega.{arith}
use Rattle.std.specs.Prelude.{Option, Some, None, is_some, Result, Ok, Err, is_ok, is_err}
use Rattle.std.specs.Option.{option_or}
use Rattle.std.specs.Bool.{then_some}
use Rattle.circuit.specs.Table.{Test, Verdict, passes, refused_at, first_of}
use Rattle.circuit.specs.Refusals.{verdict_of}
use Rattle.circuit.specs.Verdicts.{is_refused, or_if, refusal_of}
use Rattle.circuit.specs.declared.refusal.Refusal.{Refusal}

-- the verdict after some more tests
unfoldable pub first_after : Verdict → List Test → Verdict
first_after v [] = v
first_after v (t ∷ ts) = first_after (or_if v t.refuses (refused_at t.number t.place)) ts

pub after-refused : (n p : ℕ) (ts : List Test) → first_after (refused_at n p) ts ≡ refused_at n p
unfolding first_after or_if
after-refused n p [] = refl
after-refused n p (t ∷ ts) = after-refused n p ts

-- a function that looks at each test in turn gives the first that refuses
pub chain : (ts : List Test) → first_of ts ≡ first_after passes ts
unfolding first_of first_after or_if
chain [] = refl
chain (t ∷ ts) = go t.refuses (chain ts)
  where
    go : (b : Bool) → first_of ts ≡ first_after passes ts
        → cond b (refused_at t.number t.place) (first_of ts) ≡ first_after (cond b (refused_at t.number t.place) passes) ts
    go true later = sym (after-refused t.number t.place ts)
    go false later = later

pub passes-is : (v : Verdict) → is_refused v ≡ false → v ≡ passes
unfolding is_refused
passes-is passes e = refl
passes-is (refused_at n p) e = cc

pub refused-passes : (v : Verdict) → is_refused v ≡ true → v ≡ passes → ⊥
unfolding is_refused
refused-passes passes e p = let z : ◌≡◌ {A = ℕ} 0 1 = cc in omega arith
refused-passes (refused_at n p) e q = let z : ◌≡◌ {A = ℕ} 0 1 = cc in omega arith

-- where no test refuses, the first does not, and none of the others does
pub first_passes : (t : Test) (ts : List Test) → first_of (t ∷ ts) ≡ passes → (t.refuses ≡ false) × (first_of ts ≡ passes)
unfolding first_of
first_passes t ts = go t.refuses
  where
    go : (b : Bool) → cond b (refused_at t.number t.place) (first_of ts) ≡ passes → (b ≡ false) × (first_of ts ≡ passes)
    go true e = (cc, cc)
    go false e = (refl, e)

-- ---- of a refusal, or of none

pub none-passes : verdict_of None ≡ passes
none-passes = refl

pub some-refused : (r : Refusal) → is_refused (verdict_of (Some r)) ≡ true
unfolding is_refused
some-refused r = refl

pub is_some-refused : (r : Option Refusal) → is_some r ≡ is_refused (verdict_of r)
unfolding is_refused
is_some-refused None = refl
is_some-refused (Some r) = refl

pub passes-none : (r : Option Refusal) → verdict_of r ≡ passes → r ≡ None
passes-none None e = refl
passes-none (Some r) e = cc

-- the first of two
pub verdict-or : (r s : Option Refusal) → verdict_of (option_or r s) ≡ cond (is_refused (verdict_of r)) (verdict_of r) (verdict_of s)
unfolding is_refused
verdict-or None s = refl
verdict-or (Some r) s = refl

-- a refusal so far, and after it one more test
pub verdict-or_if : (so_far : Option Refusal) (test : Bool) (this : Refusal)
    → verdict_of (option_or so_far (then_some test this)) ≡ or_if (verdict_of so_far) test (verdict_of (Some this))
unfolding or_if
verdict-or_if None true this = refl
verdict-or_if None false this = refl
verdict-or_if (Some r) test this = refl

-- of what a field gives, or its refusal
pub is_err-refused : {A : Type 0} (r : Result A Refusal) → is_err r ≡ is_refused (verdict_of (refusal_of r))
unfolding is_refused
is_err-refused (Ok a) = refl
is_err-refused (Err r) = refl

pub passes-ok : {A : Type 0} (r : Result A Refusal) → verdict_of (refusal_of r) ≡ passes → is_ok r ≡ true
passes-ok (Ok a) e = refl
passes-ok (Err r) e = cc
