-- The code's steps over a file in the words of its cut into fields: what stands at a place, and what the reader's step promises.
use Rattle.std.specs.Prelude.{ℕ, ◌+◌, ◌≤◌, ◌≡◌, Bool, true, false, cond, List, length, Option, Some, None}
use Rattle.circuit.specs.Fields.{Field, Cut, clean, broken, field, cut_from}
use Rattle.circuit.specs.Order.{Tag, tag_of}
use Rattle.read_fields.specs.declared.cursor.Reader.{Reader}
use Rattle.read_fields.specs.declared.Field.{Field as FieldRecord}
use Rattle.read_fields.specs.declared.Step.{Step}
use Rattle.read_fields.specs.declared.Step.TheVariants.{Whole, Broken, End}

-- ---- what stands at a place

unfoldable pub field_in : FieldRecord → Field
field_in f = record { at = f.at; tag = f.tag; body = f.body.now }

-- the offset behind a field
abbrev pub end_of : FieldRecord → ℕ
end_of f = f.at + 3 + length f.body.now

-- a whole field stands at an offset
pub record FieldAt (file : List ℕ) (at : ℕ) (f : FieldRecord) : Type 0 where
  pub place : f.at ≡ at
  pub inside : end_of f ≤ length file
  pub cut : cut_from file at ≡ field (field_in f) (cut_from file (end_of f))

unfoldable pub StepIs : List ℕ → ℕ → Step → Type 0
StepIs file at (Whole f) = FieldAt file at f
StepIs file at Broken = cut_from file at ≡ broken at
StepIs file at End = cut_from file at ≡ clean

-- where a field is looked for whose tag passes a test
unfoldable pub NextIs : List ℕ → ℕ → (Tag → Bool) → Option FieldRecord → Type 0
NextIs file at own (Some f) = FieldAt file at f × (own (tag_of f.tag) ≡ true)
NextIs file at own None = (f : Field) (rest : Cut) → cut_from file at ≡ field f rest → own (tag_of f.tag) ≡ false

-- the field that a step told, where its tag passes
unfoldable pub own_field : (Tag → Bool) → Step → Option FieldRecord
own_field own (Whole f) = cond (own (tag_of f.tag)) (Some f) None
own_field own Broken = None
own_field own End = None

-- ---- a step of the reader

-- the place behind what was told at a place: behind a whole field, and else the same place
unfoldable pub behind_step : Step → ℕ → ℕ
behind_step (Whole f) at = end_of f
behind_step Broken at = at
behind_step End at = at

pub record Stepped (before after : Reader) (told : Step) : Type 0 where
  pub stands : StepIs before.file.now before.at told
  pub same_file : after.file ≡ before.file
  pub moved : after.at ≡ behind_step told before.at

-- the same, where a field is looked for: the reader goes behind it, and else it stays
unfoldable pub behind_found : Option FieldRecord → ℕ → ℕ
behind_found (Some f) at = end_of f
behind_found None at = at

pub record Sought (own : Tag → Bool) (before after : Reader) (found : Option FieldRecord) : Type 0 where
  pub stands : NextIs before.file.now before.at own found
  pub same_file : after.file ≡ before.file
  pub moved : after.at ≡ behind_found found before.at
