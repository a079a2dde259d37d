-- What the program hands over of a file's listing: lines one behind the other, each the listing's, from the first to the last.
use Rattle.std.specs.Prelude.{ℕ, List, length, Option}
use Rattle.print_lines.specs.Pieces.{line_in}
use Rattle.print_lines.specs.Handing.{TextHandsOn, TextHanded}
use Rattle.print_lines.specs.declared.Piece.{Piece}
use Rattle.program_io.specs.Outputs.{TextPut}
use Rattle.program_io.specs.Telling.{text_told, InputPut, AllPut}
use Rattle.program_io.specs.declared.output.Output.{Output}
use Rattle.print_circuit.specs.Listing.{listing_of_file}

-- the lines of a file's listing by their numbers, and how many they are
abbrev pub listing_line : List ℕ → ℕ → List ℕ
listing_line file = line_in (listing_of_file file)

abbrev pub listing_length : List ℕ → ℕ
listing_length file = length (listing_of_file file)

-- the front of a buffer is exactly the lines of a file's listing from one on, up to the piece's end
abbrev pub ListingHandsOn : List ℕ → ℕ → Piece → List ℕ → Type 0
ListingHandsOn file lines piece out = TextHandsOn (listing_line file) lines piece out

-- so many lines are all of the listing
abbrev pub ListingHanded : List ℕ → ℕ → Type 0
ListingHanded file lines = TextHanded (listing_length file) lines

-- the listing, its lines one behind the other
abbrev pub listing_text : List ℕ → List ℕ
listing_text = text_told listing_line listing_length

-- in a writer that says its bytes the listing stands behind what stood
abbrev pub ListingPut : List ℕ → Output → Output → Option (List ℕ) → Option (List ℕ) → Type 0
ListingPut file before after old new = TextPut before after old new (listing_text file)

-- and of an input nothing, or a heading and the listing of some bytes
abbrev pub InputListed : Output → Output → Option (List ℕ) → Option (List ℕ) → Type 0
InputListed = InputPut ListingPut

-- and of one input or more that of each, one behind the other
abbrev pub InputsListed : Output → Output → Option (List ℕ) → Option (List ℕ) → Type 0
InputsListed = AllPut InputListed
