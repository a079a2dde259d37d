-- 01, "The circuit file": at most 16 types, 256 bridges, 128 instances, 256 vectors, 2,048 faults. 02, "No more grouped transistors":
-- 57,344 bytes and 256 edges a type. The limit of a type's edges stands with the type, in Modules of the crate `switch`.
use Rattle.std.specs.Prelude.{ℕ}

abbrev pub most_bytes : ℕ
most_bytes = 57344

abbrev pub most_types : ℕ
most_types = 16

abbrev pub most_bridges : ℕ
most_bridges = 256

abbrev pub most_instances : ℕ
most_instances = 128

abbrev pub most_vectors : ℕ
most_vectors = 256

abbrev pub most_faults : ℕ
most_faults = 2048
