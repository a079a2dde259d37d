-- Where every label of an accepted type is known, so is its output: the values are those of a setting, under which the output is joined to exactly one
-- rail. Assumes nothing.
use Prim.Native.Nat.{ℕ}
use mathlib.Core.Path.{◌≡◌, sym}
use mathlib.Core.Bool.{Bool, true, false, cond}
use mathlib.Core.Logic.{◌⊎◌, inl, inr}
use mathlib.Core.List.{List}
use lib.Dec.{T}
use Rattle.switch.specs.Conduction.{Value, at0, at1, at_x, Link, Joined, ground, supply}
use Rattle.switch.specs.Modules.{links_of, setting_of, ExactlyOne, only_first, only_second, Complementary}
use Rattle.switch.specs.Deciding.{joins, level_in}
use Rattle.switch.specs.Statements.{KnownOutput}
use Rattle.switch.proofs.Paths.{links_of_cong}
use Rattle.switch.proofs.Deciding.{joins_decides}
use Rattle.switch.proofs.Apart.{filling, filling_lt, filling_refines}
use Rattle.switch.proofs.Marks.{at_x≢at0, at_x≢at1}

-- of two tests one holds, so the value is not X
one_told : (s g : Bool) → T s ⊎ T g → cond s at1 (cond g at0 at_x) ≡ at_x → ⊥
one_told true g t e = at_x≢at1 (sym e)
one_told false true t e = at_x≢at0 (sym e)
one_told false false (inl t) e = t
one_told false false (inr t) e = t

one-joined : (ws : List Link) (o : ℕ) → ExactlyOne (Joined ws o ground) (Joined ws o supply) → T (joins ws o supply) ⊎ T (joins ws o ground)
one-joined ws o (only_first p n) = inr ((joins_decides ws o ground).0 p)
one-joined ws o (only_second n p) = inl ((joins_decides ws o supply).0 p)

-- a value that is not X is kept by the filling
kept : (v w : Value) → (v ≡ at_x) ⊎ (w ≡ v) → (v ≡ at_x → ⊥) → v ≡ w
kept v w (inl e) known = absurd (known e)
kept v w (inr e) known = sym e

pub known-output : KnownOutput
unfolding level_in Complementary
known-output t acc values known =
    let s : ℕ = filling t.labels values in
    let same : links_of t values ≡ links_of t (setting_of s) =
    links_of_cong t acc.ranges values (setting_of s) (λ l h. kept (values l) (setting_of s l) (filling_refines t.labels values l h) (known l h)) in
    one_told (joins (links_of t values) t.output supply) (joins (links_of t values) t.output ground)
    (rw same (one-joined (links_of t (setting_of s)) t.output (acc.complementary s (filling_lt t.labels values))))
