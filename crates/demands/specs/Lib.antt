-- The three demands on the grader. Calls says what they speak of; One, Two and Three state them; their proofs are in proofs/.
--   OneWire                 what a wire is, and that rows of one class are equal; the counts are of the shorts listed
--   Files                   small circuit files, put together field by field
--   Claims, KnownResults    the table of known results, and what its lines claim; PassResults those on pass transistors
--   Rounds, RoundResults    the greatest distance of a joined node from its rail, what it hangs on, and known results; WrongRounds
--   AlikeFiles, SplitFiles  demand 3 and the column clause of two files, byte by byte; why files are split as they are there
--   NoConverse              demand 3 has no converse
--   Determined              the demands leave one outcome only, which is the promise's
--   ModuleCheck             number 9 by another check of types: by blocks of settings, and by wrong ones
--   SingleTransistors       the grader of before, by groups of transistors; every file is answered as it was, but for those named
--   PassTransistors         edges that state their channel: what is recorded, and that it is read; files without them answered as before
--   CodeCalls               contracts as terms; those of `grade` and of the entry for C
--   CircuitCalls            grading a circuit in place of its file
--   Unique                  contracts of public functions that leave one outcome only
--   Met                     who meets what these functions ask for
--   Graders, Wrong, Breaks  a right grader and wrong ones; none of these meets the promise, and which demand each of them breaks
--   Proved                  all of these statements in one record
pub mod Calls
pub mod One
pub mod Two
pub mod OneWire
pub mod Three
pub mod Files
pub mod Claims
pub mod KnownResults
pub mod PassResults
pub mod AlikeFiles
pub mod SplitFiles
pub mod NoConverse
pub mod Graders
pub mod Rounds
pub mod RoundResults
pub mod Determined
pub mod Wrong
pub mod Breaks
pub mod WrongRounds
pub mod ModuleCheck
pub mod SingleTransistors
pub mod PassTransistors
pub mod CodeCalls
pub mod CircuitCalls
pub mod Unique
pub mod Met
pub mod Proved
