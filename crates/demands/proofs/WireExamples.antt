-- Files that meet what the statements of OneWire ask: a short listed at a driver, there and at the input that it feeds, at the input alone.
use Prim.Native.Nat.{ℕ, zero, suc, ◌<◌, ◌≤◌}
use mathlib.Core.Path.{◌≡◌, refl, ap}
use mathlib.Core.Logic.{inl}
use mathlib.Core.List.{List, []}
use native.Mathlib.Omega.{arith}
use lib.Dec.{T}
use lib.ListN.{length}
use Rattle.switch.specs.Bridges.{input}
use Rattle.circuit.specs.Circuit.{Choice, exhaustive, no_faults, list}
use Rattle.circuit.specs.Reading.{accepted, reading_of}
use Rattle.grading.specs.Rows.{row_with, rows_of}
use Rattle.grading.specs.Promise.{is_graded}
use Rattle.demands.specs.Two.{row_at, instance_of, OneClass, NamedAgain}
use Rattle.demands.specs.OneWire.{AlikeButLists, ShortsAmong, GradedFile, ShortsNamedElsewhere}
use Rattle.demands.specs.Files.{at_driver, at_both, at_input}
use Rattle.demands.specs.Graders.{called, rightly}
use Rattle.demands.proofs.Computing.{grader_computing, told_by, circuit_of, blank}
use Rattle.demands.proofs.RightProof.{rightly_is_right}

abbrev Computed : List ℕ → Type 0
Computed file = (reading_of file ≡ accepted (circuit_of file)) × T (is_graded (called rightly file blank).answer)

computed : Computed at_driver × Computed at_both × Computed at_input
unfolding grader_computing told_by
computed = ((refl, tt), (refl, tt), (refl, tt))

graded_file : (file : List ℕ) → Computed file → GradedFile file
graded_file file is = record {
  call = called rightly file blank;
  circuit = circuit_of file;
  is = refl;
  graded = record { kept = rightly_is_right file blank; accepts = is.0; graded = is.1 };
}

list_number : Choice → ℕ
list_number exhaustive = 0
list_number no_faults = 0
list_number (list n) = n

named : NamedAgain (circuit_of at_driver) (circuit_of at_both)
unfolding grader_computing told_by OneClass list_number
named = record {
  again = input 0 0;
  more = record {
    inputs = refl;
    types = refl;
    instances = refl;
    vectors = refl;
    number = 2;
    before = (circuit_of at_driver).bridges;
    after = [];
    bridges = refl;
    named_again = refl;
  };
  named = at;
}
  where
    at : (n : ℕ) → 1 ≤ n → n ≤ 2 → (instance_of (circuit_of at_driver) n).choice ≡ list 2
        → (r : ℕ) × (r < length (rows_of (circuit_of at_driver)))
        × OneClass (row_with (circuit_of at_driver).types n (instance_of (circuit_of at_driver) n) (input 0 0)) (row_at (circuit_of at_driver) r)
    at zero low high chose = absurd (omega arith)
    at (suc zero) low high chose = let e : ◌≡◌ {A = ℕ} 1 2 = ap list_number chose in absurd (omega arith)
    at (suc (suc zero)) low high chose = (0, omega arith, inl (refl, refl))
    at (suc (suc (suc n))) low high chose = absurd (omega arith)

alike : AlikeButLists (circuit_of at_driver) (circuit_of at_input)
unfolding grader_computing told_by
alike = record { inputs = refl; types = refl; vectors = refl; as_many = refl; modules = modules; references = references }
  where
    modules : (n : ℕ) → (instance_of (circuit_of at_driver) n).type ≡ (instance_of (circuit_of at_input) n).type
    modules zero = refl
    modules (suc zero) = refl
    modules (suc (suc zero)) = refl
    modules (suc (suc (suc n))) = refl

    references : (n : ℕ) → (instance_of (circuit_of at_driver) n).references ≡ (instance_of (circuit_of at_input) n).references
    references zero = refl
    references (suc zero) = refl
    references (suc (suc zero)) = refl
    references (suc (suc (suc n))) = refl

there : ShortsAmong (circuit_of at_driver) (circuit_of at_input)
unfolding grader_computing told_by OneClass
there zero h = (1, omega arith, inl (refl, refl))
there (suc zero) h = (0, omega arith, inl (refl, refl))
there (suc (suc r)) h = absurd (omega arith)

back : ShortsAmong (circuit_of at_input) (circuit_of at_driver)
unfolding grader_computing told_by OneClass
back zero h = (1, omega arith, inl (refl, refl))
back (suc zero) h = (0, omega arith, inl (refl, refl))
back (suc (suc r)) h = absurd (omega arith)

pub shorts_named_elsewhere : ShortsNamedElsewhere
unfolding graded_file
shorts_named_elsewhere = record {
  driver = graded_file at_driver computed.0;
  both = graded_file at_both computed.1;
  fed = graded_file at_input computed.2;
  named_again = named;
  alike = alike;
  there = there;
  back = back;
}
