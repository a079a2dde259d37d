-- `read_fields::gather::gather` meets its contract. The loop's invariant: the fields up to the reader's place are kept, in the first
-- `count` places. The measure is what is left of the file. Assumes nothing.
use Rattle.std.proofs.Common.{◌≡◌, ℕ, ◌-◌, length, Ok, List, ◌++◌, drop}
use Rattle.circuit.specs.Kinds.{of_kind}
use Rattle.read_fields.specs.declared.Field.{Field}
use Rattle.read_fields.specs.Gathers.{Kept}
use Rattle.read_fields.proofs.gather.gather.Given as goal

abbrev pub invariant-loop-f : goal.invariant-loop-f
invariant-loop-f g l = record {
  same_file : l.reader.file.now ≡ l.fn.file;
  items : List g.row.T.Denot;
  kept :
      Kept l.fn.file (of_kind l.fn.kind) l.fn.from
      (λ (f : Field) (n : ℕ) (item : g.row.T.Denot). goal.J-post g l.fn.judge f n (Ok item))
      items l.reader.at;
  counted : l.count ≡ length items;
  all : l.all ≡ items ++ drop (length items) l.fn.all;
}

abbrev pub decreases-loop-f : goal.decreases-loop-f
decreases-loop-f g l = length l.file - l.reader.at
