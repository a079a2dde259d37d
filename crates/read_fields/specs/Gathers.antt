-- What it means that the fields of one kind are gathered: each is judged in turn by how many stand before it, and kept as an item.
use Rattle.std.specs.Prelude.{ℕ, ◌≡◌, Bool, true, List, [], ◌∷◌, ◌++◌, length, drop, Option, Some, None, Result, Ok, Err}
use Rattle.circuit.specs.Table.{Verdict, passes}
use Rattle.circuit.specs.Refusals.{verdict_of}
use Rattle.circuit.specs.Order.{Tag, tag_of}
use Rattle.circuit.specs.declared.refusal.Refusal.{Refusal}
use Rattle.read_fields.specs.Steps.{end_of, FieldAt, NextIs}
use Rattle.read_fields.specs.declared.Field.{Field as FieldRecord}
use Rattle.read_fields.specs.declared.gather.Gathered.{Gathered}

-- a field judged: refused with the verdict of its tests, or else kept as an item
abbrev pub JudgedAs : {T : Type 0} → Verdict → T → Result T Refusal → Type 0
JudgedAs verdict kept (Ok item) = (verdict ≡ passes) × (item ≡ kept)
JudgedAs verdict kept (Err why) = verdict ≡ verdict_of (Some why)

-- fields whose tags pass a test, one behind the other from an offset to another, and what was kept of each
pub data Kept {T : Type 0} (file : List ℕ) (own : Tag → Bool) (from : ℕ) (Keeps : FieldRecord → ℕ → T → Type 0)
    : List T → ℕ → Type 0 where
  none_kept : Kept file own from Keeps [] from
  one_more : (items : List T) (at : ℕ) (f : FieldRecord) (item : T) → Kept file own from Keeps items at
      → FieldAt file at f → own (tag_of f.tag) ≡ true → Keeps f (length items) item
      → Kept file own from Keeps (items ++ (item ∷ [])) (end_of f)

-- why it ended at an offset, behind so many: none of its fields stands next, or one that is refused
unfoldable pub EndedBy : List ℕ → (Tag → Bool) → (FieldRecord → ℕ → Refusal → Type 0) → ℕ → ℕ → Option Refusal → Type 0
EndedBy file own Refuses at count None = NextIs file at own None
EndedBy file own Refuses at count (Some refusal) =
    (f : FieldRecord) × FieldAt file at f × (own (tag_of f.tag) ≡ true) × Refuses f count refusal

pub record GatheredAs {T : Type 0} (file : List ℕ) (own : Tag → Bool) (from : ℕ) (Keeps : FieldRecord → ℕ → T → Type 0)
    (Refuses : FieldRecord → ℕ → Refusal → Type 0) (old new : List T) (r : Gathered) : Type 0 where
  pub items : List T
  pub kept : Kept file own from Keeps items r.at
  pub count : r.count ≡ length items
  pub all : new ≡ items ++ drop (length items) old
  pub ended : EndedBy file own Refuses r.at r.count r.refusal
