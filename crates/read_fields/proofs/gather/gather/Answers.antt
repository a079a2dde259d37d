-- `read_fields::gather::gather` meets its contract: each turn finds one field more and keeps its item behind the others, or ends the stage.
-- Assumes nothing.
use Prim.Native.Nat.{ℕ, suc, ◌<◌}
use mathlib.Core.Path.{◌≡◌, refl, sym, ap, subst, ◌∙◌}
use mathlib.Core.List.{List, [], ◌∷◌, ◌++◌}
use native.Mathlib.Omega.{arith}
use mathlib.Core.List.{append_assoc}
use lib.ListN.{length, get_or, set, drop, length-append, length-drop}
use lib.Seq.{drop-cons, set-append_seam}
use Rattle.read_fields.specs.Steps.{FieldAt}
use Rattle.read_fields.specs.Gathers.{none_kept, one_more, EndedBy}
use Rattle.read_fields.proofs.Turns.{found_at, found_own, found_behind, goes_on, stayed}
use Rattle.read_fields.proofs.gather.gather.Goals as goal

-- an item is put behind those that stand there
put_behind : {T : Type 0} (items old all : List T) (n : ℕ) (item : T) → all ≡ items ++ drop (length items) old → n ≡ length items
    → n < length all → set all n item ≡ (items ++ (item ∷ [])) ++ drop (length (items ++ (item ∷ []))) old
put_behind items old all n item is counted room =
    let k = length items in
    let more : k < length old = omega (arith, ap length is, length-append items (drop k old), length-drop k old) in
    let longer : suc k ≡ length (items ++ (item ∷ [])) = omega (arith, length-append items (item ∷ [])) in
    ap (λ l. set l n item) is
    ∙ ap (λ i. set (items ++ drop k old) i item) counted
    ∙ ap (λ l. set (items ++ l) k item) (drop-cons old k item more)
    ∙ set-append_seam items (get_or old k item) (drop (suc k) old) item
    ∙ sym (append_assoc items (item ∷ []) (drop (suc k) old))
    ∙ ap (λ i. (items ++ (item ∷ [])) ++ drop i old) longer

pub loop-f-init : goal.loop-f-init
loop-f-init g c = record {
  same_file = ap (λ b. b.now) c.new-reader.ensures.0;
  items = [];
  kept = rw c.new-reader.ensures.1 none_kept;
  counted = refl;
  all = refl;
}

pub returns-in-Err : goal.returns-in-Err
unfolding EndedBy
returns-in-Err g c =
    let inv = c.loop-f.invariant in
    let turn = c.in-Some.ensures in
    let here = rw inv.same_file at (found_at turn) in
    record {
      items = inv.items;
      kept = rw here.place inv.kept;
      count = inv.counted;
      all = inv.all;
      ended =
          let at_its_place = subst (λ (n : ℕ). FieldAt c.args.file.now n c.in-Some.f) (sym here.place) here in
          (c.in-Some.f, at_its_place, found_own turn, c.in-Err.ensures);
    }

pub loop-f-smaller : goal.loop-f-smaller
loop-f-smaller g c =
    let inv = c.loop-f.invariant in
    let turn = c.in-Some.ensures in
    let here = rw inv.same_file at (found_at turn) in
    let behind = found_behind turn in
    omega (arith, goes_on turn, here.inside)

pub loop-f-preserved : goal.loop-f-preserved
loop-f-preserved g c =
    let inv = c.loop-f.invariant in
    let turn = c.in-Some.ensures in
    let here = rw inv.same_file at (found_at turn) in
    let room : c.loop-f.count < length c.loop-f.all = omega (arith, c.requires.room _ _ _ c.in-Ok.ensures, c.loop-f.auto.all) in
    record {
      same_file = ap (λ b. b.now) turn.same_file ∙ inv.same_file;
      items = inv.items ++ (c.in-Ok.item ∷ []);
      kept =
          rw (found_behind turn)
          (one_more inv.items c.loop-f.reader.at c.in-Some.f c.in-Ok.item inv.kept here (found_own turn)
          (rw inv.counted at c.in-Ok.ensures));
      counted = omega (arith, length-append inv.items (c.in-Ok.item ∷ []));
      all = put_behind inv.items c.args.all.now c.loop-f.all c.loop-f.count c.in-Ok.item inv.all inv.counted room;
    }

pub returns : goal.returns
unfolding EndedBy
returns g c =
    let inv = c.loop-f.invariant in
    let turn = c.in_default.ensures in
    record {
      items = inv.items;
      kept = rw (stayed turn) inv.kept;
      count = inv.counted;
      all = inv.all;
      ended = rw (stayed turn) (rw inv.same_file at turn.stands);
    }
