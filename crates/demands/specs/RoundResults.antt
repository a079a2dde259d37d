-- 02, "How many rounds joining takes": known results, in one table under one statement, `RoundsKnown`. What a line says is in specs/Claims;
-- the proof, by computation, is in proofs/RoundsKnownProof.
use Rattle.std.specs.Prelude.{List, [], ◌∷◌, ◌++◌, replicate}
use Rattle.circuit.specs.Circuit.{no_faults}
use Rattle.demands.specs.Files.{one_under, inverter_under, nand_under, nor_under, nand3_fields, branches_fields, gates_fields}
use Rattle.demands.specs.Files.{chain_fields, chain_choosing, detour_fields, nand_then_inverter}
use Rattle.demands.specs.KnownResults.{nine}
use Rattle.demands.specs.Claims.{Claim, takes, reports, AllHold}

abbrev pub round_results : List Claim
round_results =
    -- an inverter, from either rail; under X nothing is on, and a rail is at distance 0 from itself
    takes (inverter_under ("0" ∷ [])) 1
    ∷ takes (inverter_under ("1" ∷ [])) 1
    ∷ takes (inverter_under ("X" ∷ [])) 0
    -- the NAND: under 11 its output is two edges from ground, under 10 its inner node is two from supply
    ∷ takes (nand_under ("00" ∷ [])) 1
    ∷ takes (nand_under ("01" ∷ [])) 1
    ∷ takes (nand_under ("10" ∷ [])) 2
    ∷ takes (nand_under ("11" ∷ [])) 2
    -- with an X, by what is on then; under 1X an edge is on, but no other node is joined to a rail
    ∷ takes (nand_under ("0X" ∷ [])) 1
    ∷ takes (nand_under ("1X" ∷ [])) 0
    ∷ takes (nand_under ("XX" ∷ [])) 0
    ∷ takes (nand_under nine) 2
    -- the greatest over the vectors, wherever it stands: first, last, 64th, 65th, 256th
    ∷ takes (nand_under ("11" ∷ "00" ∷ [])) 2
    ∷ takes (nand_under ("00" ∷ "11" ∷ [])) 2
    ∷ takes (inverter_under (replicate 63 "X" ++ ("0" ∷ []))) 1
    ∷ takes (inverter_under (replicate 64 "X" ++ ("0" ∷ []))) 1
    ∷ takes (inverter_under (replicate 255 "X" ++ ("0" ∷ []))) 1
    -- and over the instances, also those without faults
    ∷ reports (nand_then_inverter ("11" ∷ []))
    ("vectors 1 faults 6 classes 6 found 4"
    ∷ "2 n 0 1 1 1 1 1"
    ∷ "2 n 0 2 2 0 0 0"
    ∷ "2 n 1 2 3 1 1 1"
    ∷ "2 i 0 0 4 1 1 1"
    ∷ "2 i 1 0 5 0 0 0"
    ∷ "2 i 2 0 6 1 1 1"
    ∷ "rounds 2"
    ∷ [])
    -- the NOR: under 00 its output is two edges from supply, under 10 its inner node is two from ground
    ∷ takes (nor_under ("00" ∷ [])) 2
    ∷ takes (nor_under ("01" ∷ [])) 1
    ∷ takes (nor_under ("10" ∷ [])) 2
    -- a NAND of three; two branches; two transmission gates in a row behind an inverter
    ∷ takes (one_under 3 nand3_fields ("111" ∷ [])) 3
    ∷ takes (one_under 3 nand3_fields ("110" ∷ [])) 3
    ∷ takes (one_under 4 branches_fields ("0110" ∷ [])) 3
    ∷ takes (one_under 2 gates_fields ("00" ∷ [])) 3
    -- a node that is two edges away by one way and one by another is at distance 1; with the nearer edge off it is at distance 2. So
    -- filling an X may lower the number
    ∷ takes (one_under 2 detour_fields ("X0" ∷ [])) 2
    ∷ takes (one_under 2 detour_fields ("00" ∷ [])) 1
    -- a chain of transistors through all nodes but supply reaches h - 1, up to the highest that a node may be
    ∷ takes (one_under 1 (chain_fields 3) ("1" ∷ [])) 2
    ∷ takes (one_under 1 (chain_fields 6) ("1" ∷ [])) 5
    ∷ reports (chain_choosing no_faults) ("vectors 1 faults 0 classes 0 found 0" ∷ "rounds 30" ∷ [])
    ∷ []

abbrev pub RoundsKnown : Type 0
RoundsKnown = AllHold round_results
