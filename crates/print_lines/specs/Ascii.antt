-- The bytes of a text in ASCII.
use Rattle.std.specs.Prelude.{ℕ, List, [], ◌∷◌}
use Prim.Native.Char.{code}
use Prim.Native.String.{String, [] as []ˢ, ◌∷◌ as ◌∷ˢ◌}

abbrev pub bytes_of : String → List ℕ
bytes_of []ˢ = []
bytes_of (a ∷ˢ text) = code a ∷ bytes_of text
