-- What reading leaves: how many bytes stand at the start of the buffer, or that the input could not be read. Bytes come from outside.
use Rattle.std.specs.Prelude.{ℕ, ◌<◌, ◌≡◌, List, ◌⊎◌, length, take, Option, IfSome}
use Rattle.std.specs.Counts.{IsPrefixLen}
use Rattle.std.specs.Io.KnownBytes.{Consumes, IsAtEnd}
use Rattle.program_io.specs.Outputs.{Headed, TextPut, heading_text}
use Rattle.program_io.specs.declared.output.Output.{Output}

pub record InputRead (buffer : List ℕ) (input : Option ℕ) (buffer' : List ℕ) : Type 0 where
  pub counted : IfSome input (λ count. IsPrefixLen count buffer')
  pub long : length buffer' ≡ length buffer

-- of a reader that says its bytes, those that it had next, and all of them where room is left
pub record BytesRead (old new : Option (List ℕ)) (count : ℕ) (buffer' : List ℕ) : Type 0 where
  pub taken : Consumes old new (take count buffer')
  pub to_the_end : count < length buffer' → IsAtEnd new

-- room for the heading of the longest name, which has 4,096 bytes
abbrev pub heading_room : ℕ
heading_room = 4106

-- an only input has no heading; one of several has that of its name, which comes from outside
abbrev pub Unheaded : Output → List ℕ → Output → List ℕ → Type 0
Unheaded before buffer after buffer' = (after ≡ before) × (buffer' ≡ buffer)

abbrev pub InputHeaded : Output → List ℕ → Output → List ℕ → Type 0
InputHeaded before buffer after buffer' = Unheaded before buffer after buffer' ⊎ ((name : List ℕ) × Headed name before buffer after buffer')

-- and what is known of a writer's bytes: none more, or that heading
abbrev pub HeadingPut : Output → Output → Option (List ℕ) → Option (List ℕ) → Type 0
HeadingPut before after old new =
    ((after ≡ before) × (new ≡ old)) ⊎ ((name : List ℕ) × TextPut before after old new (heading_text before.has_report name))
