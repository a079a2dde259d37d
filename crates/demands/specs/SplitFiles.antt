-- Why files are split as `AlikeFiles` does it: each accepted file of bytes can be, in one way only; with other vectors behind its head it
-- is accepted too; and with a head that ends inside a field files would pass for alike that are not.
use Rattle.std.specs.Prelude.{ℕ, ◌≤◌, ◌<◌, ◌≡◌, List, ◌++◌, length, get_or}
use Rattle.circuit.specs.Limits.{most_bytes}
use Rattle.circuit.specs.Circuit.{Circuit}
use Rattle.demands.specs.Calls.{Accepts}
use Rattle.demands.specs.Two.{AlikeButVectors}
use Rattle.demands.specs.AlikeFiles.{TagAndBody, vector_fields_of, Split, AlikeFiles, FilledBodies, GoodBodies}

-- ---- one split

abbrev pub AcceptedIsSplit : Type 0
AcceptedIsSplit =
    (file : List ℕ) (c : Circuit) → ((i : ℕ) → get_or file i 0 < 256) → Accepts file c
    → (head : List TagAndBody) × (bodies : List (List ℕ)) × Split file head bodies

abbrev pub SplitOnce : Type 0
SplitOnce =
    (file : List ℕ) (head head' : List TagAndBody) (bodies bodies' : List (List ℕ)) → Split file head bodies → Split file head' bodies'
    → (head ≡ head') × (bodies ≡ bodies')

-- ---- other vectors

abbrev pub OtherVectorsAreAccepted : Type 0
OtherVectorsAreAccepted =
    (one other : List ℕ) (bodies other_bodies : List (List ℕ)) → AlikeFiles one other bodies other_bodies
    → (c : Circuit) → Accepts one c → GoodBodies c.inputs other_bodies → length other ≤ most_bytes
    → (d : Circuit) × Accepts other d

abbrev pub FillingsAreAccepted : Type 0
FillingsAreAccepted =
    (one other : List ℕ) (bodies filled : List (List ℕ)) → AlikeFiles one other bodies filled → FilledBodies bodies filled
    → (c : Circuit) → Accepts one c → (d : Circuit) × Accepts other d

-- ---- not any head

-- any bytes for a head
pub record AlikeAfterBytes (one other : List ℕ) (bodies other_bodies : List (List ℕ)) : Type 0 where
  pub head : List ℕ
  pub one_is : one ≡ head ++ vector_fields_of bodies
  pub other_is : other ≡ head ++ vector_fields_of other_bodies

abbrev pub AnyHeadReadsAlike : Type 0
AnyHeadReadsAlike =
    (one other : List ℕ) (bodies other_bodies : List (List ℕ)) → AlikeAfterBytes one other bodies other_bodies
    → (c d : Circuit) → Accepts one c → Accepts other d → AlikeButVectors c d

abbrev pub NotAnyHead : Type 0
NotAnyHead = AnyHeadReadsAlike → ⊥
