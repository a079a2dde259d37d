-- The first test of a list that refuses, in demand 1's words: none before it applies, and it does.
use Prim.Native.Nat.{ℕ}
use mathlib.Core.Path.{◌≡◌, refl, sym, ap, ◌∙◌}
use mathlib.Core.Bool.{Bool, true, false, cond, not, ◌&&◌}
use mathlib.Core.Logic.{◌↔◌}
use mathlib.Core.List.{List, [], ◌∷◌, ◌++◌}
use lib.Dec.{T}
use lib.Ieee.Bits.{is_true}
use Rattle.switch.specs.Modules.{all_of}
use Rattle.circuit.specs.Table.{Test, Verdict, passes, refused_at, first_of}
use Rattle.circuit.proofs.Tested.{holds, never-passes}
use Rattle.demands.specs.One.{passed, FirstApplying}

-- a verdict, and a later one where it passes
unfoldable pub or_later : Verdict → Verdict → Verdict
or_later passes later = later
or_later (refused_at number place) later = refused_at number place

pub first-append : (ts us : List Test) → first_of (ts ++ us) ≡ or_later (first_of ts) (first_of us)
unfolding first_of or_later
first-append [] us = refl
first-append (t ∷ ts) us = go t.refuses (first-append ts us)
  where
    go : (b : Bool) → first_of (ts ++ us) ≡ or_later (first_of ts) (first_of us)
        → cond b (refused_at t.number t.place) (first_of (ts ++ us)) ≡ or_later (cond b (refused_at t.number t.place) (first_of ts)) (first_of us)
    go true later = refl
    go false later = later

-- ---- no test applies

all_pass : (ts : List Test) → first_of ts ≡ passes → T (all_of passed ts)
unfolding first_of all_of passed
all_pass [] e = tt
all_pass (t ∷ ts) e = go t.refuses e (all_pass ts)
  where
    go : (b : Bool) → cond b (refused_at t.number t.place) (first_of ts) ≡ passes → (first_of ts ≡ passes → T (all_of passed ts))
        → T (not b && all_of passed ts)
    go true q later = absurd (never-passes q)
    go false q later = later q

pass_all : (ts : List Test) → T (all_of passed ts) → first_of ts ≡ passes
unfolding first_of all_of passed
pass_all [] a = refl
pass_all (t ∷ ts) a = go t.refuses a (pass_all ts)
  where
    go : (b : Bool) → T (not b && all_of passed ts) → (T (all_of passed ts) → first_of ts ≡ passes)
        → cond b (refused_at t.number t.place) (first_of ts) ≡ passes
    go true q later = absurd q
    go false q later = later q

pub none-applies : (ts : List Test) → (first_of ts ≡ passes) ↔ T (all_of passed ts)
none-applies ts = (all_pass ts, pass_all ts)

-- ---- a test applies

find : (ts : List Test) (number place : ℕ) → first_of ts ≡ refused_at number place → FirstApplying ts number place
unfolding first_of all_of passed
find [] number place e = absurd (never-passes (sym e))
find (t ∷ ts) number place e = go t.refuses refl e (find ts number place)
  where
    go : (b : Bool) → t.refuses ≡ b → cond b (refused_at t.number t.place) (first_of ts) ≡ refused_at number place
        → (first_of ts ≡ refused_at number place → FirstApplying ts number place) → FirstApplying (t ∷ ts) number place
    go true p q later = record {
      before = [];
      applying = t;
      after = ts;
      in_order = refl;
      none_before = tt;
      applies = holds t.refuses p;
      number_is = cc;
      place_is = cc;
    }
    go false p q later =
        let found = later q in
        record {
          before = t ∷ found.before;
          applying = found.applying;
          after = found.after;
          in_order = ap (λ (us : List Test). t ∷ us) found.in_order;
          none_before = rw p found.none_before;
          applies = found.applies;
          number_is = found.number_is;
          place_is = found.place_is;
        }

found_first : (ts : List Test) (number place : ℕ) → FirstApplying ts number place → first_of ts ≡ refused_at number place
unfolding first_of or_later
found_first ts number place found =
    let t = found.applying in
    let e : first_of (t ∷ found.after) ≡ refused_at t.number t.place = rw (is_true t.refuses found.applies) in
    ap first_of found.in_order
    ∙ first-append found.before (t ∷ found.after)
    ∙ rw (pass_all found.before found.none_before) (e ∙ rw (found.number_is, found.place_is))

pub first-applying : (ts : List Test) (number place : ℕ) → (first_of ts ≡ refused_at number place) ↔ FirstApplying ts number place
first-applying ts number place = (find ts number place, found_first ts number place)
