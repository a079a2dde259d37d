-- Boolean tests that compute: joined, complementary, a mark; and a node's level. That they decide what Conduction, Modules and Bridges say
-- is proved in proofs/Deciding and, of levels, in proofs/Refinement.
use Rattle.std.specs.Prelude.{ℕ, zero, suc, ◌^◌, Bool, true, cond, ◌&&◌, not, List, [], ◌∷◌, ◌++◌, eqb}
use Rattle.std.specs.Bool.{beq}
use Rattle.switch.specs.Conduction.{Value, at0, at1, at_x, Link, ground, supply}
use Rattle.switch.specs.Modules.{ModuleType, links_of, setting_of}
use Rattle.switch.specs.Bridges.{Bridge, closing}

-- parts are numbered by nodes. A renaming is the number that a part had, and the number of the part that it now belongs to
abbrev pub Renaming : Type 0
Renaming = ℕ × ℕ

unfoldable pub rename : ℕ → ℕ → ℕ → ℕ
rename old new part = cond (eqb part old) new part

-- a list of renamings, the latest first, gives each node its part
unfoldable pub part_of_node : List Renaming → ℕ → ℕ
part_of_node [] m = m
part_of_node (r ∷ rs) m = rename r.0 r.1 (part_of_node rs m)

-- each link unites the parts of its two nodes
unfoldable pub renamings : List Link → List Renaming
renamings [] = []
renamings (w ∷ ws) = let rs = renamings ws in (part_of_node rs w.0, part_of_node rs w.1) ∷ rs

-- are two nodes joined: are they in one part
unfoldable pub joins : List Link → ℕ → ℕ → Bool
joins ws a b = let rs = renamings ws in eqb (part_of_node rs a) (part_of_node rs b)

-- does a test pass at each number below n
unfoldable pub all_below : ℕ → (ℕ → Bool) → Bool
all_below zero test = true
all_below (suc n) test = test n && all_below n test

-- is the output joined to exactly one rail under these values
unfoldable pub one_rail : ModuleType → (ℕ → Value) → Bool
one_rail t values =
    let ws = links_of t values in not (beq (joins ws t.output ground) (joins ws t.output supply))

unfoldable pub is_complementary : ModuleType → Bool
is_complementary t = all_below (2 ^ t.labels) (λ (s : ℕ). one_rail t (setting_of s))

-- the level of a node over links
unfoldable pub level_in : List Link → ℕ → Value
level_in ws m = cond (joins ws m supply) at1 (cond (joins ws m ground) at0 at_x)

abbrev pub output_value : ModuleType → (ℕ → Value) → Value
output_value t values = level_in (links_of t values) t.output

-- is a bridge marked: with it closed, does a path run from supply to ground
unfoldable pub is_marked : ModuleType → (ℕ → Value) → Bridge → Bool
is_marked t values bridge = joins (closing bridge values ++ links_of t values) supply ground
