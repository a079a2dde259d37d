-- `program_io::input::read_all` meets its contract: what a read puts into the rest of the buffer stands behind what was read before. Assumes nothing.
use Prim.Native.Nat.{ℕ, ◌+◌, ◌-◌, ◌≤◌}
use borrow.Author.Rules.{rules}
use mathlib.Core.Path.{◌≡◌, sym, ap, subst, ◌∙◌}
use mathlib.Core.List.{List, ◌++◌}
use lib.ListN.{length, take}
use lib.Seq.{length-take-le, take-append-le, take-append-add}
use borrow.Rule.Slice.PartMut.{put_mid, post_of}
use Rattle.std.specs.Io.KnownBytes.{Consumes}
use Rattle.std.proofs.KnownBytes.{Consumes-trans}
use Rattle.program_io.proofs.input.read_all.Goals as goal

front_of_mid : (a k n : ℕ) (xs ys : List ℕ) → a ≤ length xs → n ≤ length ys → take a xs ++ take n ys ≡ take (a + n) (put_mid a k xs ys)
front_of_mid a k n xs ys within fits =
    let rest = post_of a k xs in
    ap (λ (l : List ℕ). take a xs ++ l) (sym (take-append-le n ys rest fits))
    ∙ sym (take-append-add (take a xs) (ys ++ rest) n)
    ∙ ap (λ (m : ℕ). take (m + n) (put_mid a k xs ys)) (length-take-le a xs within)

pub loop-count-preserved : goal.loop-count-preserved
loop-count-preserved g c =
    let count = c.loop-count.count in
    let room = length c.loop-count.buf - count in
    let got = c.in_ok-more.ensures in
    record {
      within = search rules;
      taken = subst
          (Consumes _ _)
          (front_of_mid count room c.in_ok-more.more c.loop-count.buf c.read.new.buf c.loop-count.invariant.within got.bound.0)
          (Consumes-trans _ _ _ _ _ c.loop-count.invariant.taken got.bytes.0);
    }
