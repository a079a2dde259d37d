-- A file's circuit or refusal. 01, "Refusal numbers": number 1 is looked at first; then fields in file order; at the end of the file 9 and
-- then 14. 01 wants a vector of every file; a reading that wants none differs in that alone.
use Rattle.std.specs.Prelude.{ℕ, Bool, true, cond, List, ltb, length}
use Rattle.circuit.specs.Limits.{most_bytes}
use Rattle.circuit.specs.Fields.{Cut, clean, broken, field, cut_from}
use Rattle.circuit.specs.Circuit.{Circuit}
use Rattle.circuit.specs.Known.{Known, start, known_after}
use Rattle.circuit.specs.Table.{Verdict, passes, refused_at, first_of, field_tests, end_tests}

pub data Reading : Type 0 where
  accepted : Circuit → Reading
  refusal : ℕ → ℕ → Reading

unfoldable pub unless : Verdict → Reading → Reading
unless passes reading = reading
unless (refused_at number place) reading = refusal number place

-- the fields that are left, after what is known from those before them, in a file of this size, of which a vector is wanted or not
unfoldable pub read_from : Bool → ℕ → Known → Cut → Reading
read_from wanted size known clean = unless (first_of (end_tests wanted known size)) (accepted known.circuit)
read_from wanted size known (broken at) = refusal 2 at
read_from wanted size known (field f rest) =
    let later = read_from wanted size (known_after known f) rest in unless (first_of (field_tests known f)) later

unfoldable pub reading_with : Bool → List ℕ → Reading
reading_with wanted file =
    let whole = read_from wanted (length file) start (cut_from file 0) in cond (ltb most_bytes (length file)) (refusal 1 0) whole

-- what 01 says of a file
abbrev pub reading_of : List ℕ → Reading
reading_of file = reading_with true file
