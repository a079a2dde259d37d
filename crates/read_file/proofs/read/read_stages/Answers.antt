-- `read_file::read::read_stages` meets its contract: each stage goes on from where the one before it ended, the first refusal counts, and
-- beside it stands what the stages have gathered. Assumes nothing.
use mathlib.Core.Path.{refl}
use native.Mathlib.Omega.{arith}
use Rattle.read_file.proofs.ReadLaws.{bridges_read, held_to, stages_read}
use Rattle.read_file.proofs.read.read_stages.Goals as goal

pub lists_in-lists-requires : goal.lists_in-lists-requires
lists_in-lists-requires c =
    let b = c.read_bridges-bridges.ensures in
    let within = b.within in
    let count = b.count in
    (omega arith, record { bridges = b.bridges; within = within; are = bridges_read b; ranges = b.ranges })

pub read_instances-instances-requires : goal.read_instances-instances-requires
read_instances-instances-requires c =
    let t = c.read_types-types.ensures in
    let b = c.read_bridges-bridges.ensures in
    let few = c.read_start-start.ensures.few in
    (b.place, (few, record { types = t.types; bridges = b.bridges; told = held_to t b _ refl c.lists_in-lists.ensures }))

pub read_vectors-vectors-requires : goal.read_vectors-vectors-requires
read_vectors-vectors-requires c =
    let t = c.read_types-types.ensures in
    let b = c.read_bridges-bridges.ensures in
    let i = c.read_instances-instances.ensures t.types b.bridges (held_to t b _ refl c.lists_in-lists.ensures) in
    (i.place, c.read_start-start.ensures.few)

pub returns : goal.returns
returns c =
    let s = c.read_start-start.ensures in
    let t = c.read_types-types.ensures in
    let b = c.read_bridges-bridges.ensures in
    -- the instances, held to the types and lists that were read
    let i = c.read_instances-instances.ensures t.types b.bridges (held_to t b _ refl c.lists_in-lists.ensures) in
    let v = c.read_vectors-vectors.ensures in
    rw (c.whole.ensures, c.or-refusal.ensures, c.or-4.ensures, c.or-3.ensures, c.or-2.ensures, c.or.ensures)
    (stages_read _ s t b i v c.ending-last.result c.ending-last.ensures)
