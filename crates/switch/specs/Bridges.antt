-- 01, "Faults, marks and classes": a bridge inside one module, closed as one more link, and what marks it.
use Rattle.std.specs.Prelude.{ℕ, ◌≡◌, ◌⊎◌, List, [], ◌∷◌, ◌++◌}
use Rattle.switch.specs.Conduction.{Value, at0, at1, at_x, Link, Joined, ground, supply}
use Rattle.switch.specs.Modules.{ModuleType, links_of}

-- kind 0 joins two nodes, kind 1 a node and a label
pub data Bridge : Type 0 where
  nodes : ℕ → ℕ → Bridge
  input : ℕ → ℕ → Bridge

-- a node linked to what a label stands for: supply at 1, ground at 0, neither at X
unfoldable pub to_label : ℕ → Value → List Link
to_label m at1 = (m, supply) ∷ []
to_label m at0 = (m, ground) ∷ []
to_label m at_x = []

-- the link that closing a bridge adds
unfoldable pub closing : Bridge → (ℕ → Value) → List Link
closing (nodes a b) values = (a, b) ∷ []
closing (input m l) values = to_label m (values l)

-- a bridge is marked when, with it closed, a path runs from supply to ground. What is on, and the label's value, are those without the
-- bridge
unfoldable pub Marked : ModuleType → (ℕ → Value) → Bridge → Type 0
Marked t values bridge = Joined (closing bridge values ++ links_of t values) supply ground

-- the same by the ends. Kind 0: one end is joined to supply and the other to ground.
-- Kind 1: the label is 1 and the node is joined to ground, or the label is 0 and the node is joined to supply
unfoldable pub MarkedByEnds : ModuleType → (ℕ → Value) → Bridge → Type 0
MarkedByEnds t values (nodes a b) =
    (Joined (links_of t values) a supply × Joined (links_of t values) b ground)
    ⊎ (Joined (links_of t values) a ground × Joined (links_of t values) b supply)
MarkedByEnds t values (input m l) =
    ((values l ≡ at1) × Joined (links_of t values) m ground) ⊎ ((values l ≡ at0) × Joined (links_of t values) m supply)
