-- What is known of a writer's bytes after several texts, one behind the other, and after pieces of a text of numbered lines. Assumes nothing.
use Prim.Native.Nat.{ℕ, ◌+◌, ◌-◌}
use mathlib.Core.Path.{◌≡◌, refl, sym, ap, subst, ◌∙◌}
use mathlib.Core.Bool.{Bool, true, false, true≢false}
use mathlib.Core.List.{List, ◌++◌}
use native.Mathlib.Nat.{zero-add}
use native.Mathlib.Omega.{arith}
use lib.ListN.{take}
use Rattle.std.specs.Prelude.{Option}
use Rattle.std.proofs.KnownBytes.{Appends-nil, Appends-trans}
use Rattle.print_lines.specs.Pieces.{text_from}
use Rattle.print_lines.specs.Handing.{TextHandsOn, TextHanded}
use Rattle.print_lines.specs.declared.Piece.{Piece}
use Rattle.print_lines.proofs.PieceLaws.{pieces_join}
use Rattle.program_io.specs.Outputs.{TextPut}
use Rattle.program_io.specs.declared.output.Output.{Output}

-- nothing, where no line was handed over
pub put_begins : (line : ℕ → List ℕ) {lines : ℕ} {before after : Output} (old : Option (List ℕ)) → after ≡ before → lines ≡ 0
    → TextPut before after old old (text_from line 0 lines)
unfolding text_from
put_begins line old same none = rw (same, none) (record { lost_stays = λ lost. lost; after_loss = λ lost. refl; unless_lost = λ kept. Appends-nil old })

-- all of a text, where all its lines were
pub put_ends : (line : ℕ → List ℕ) {total lines : ℕ} {before after : Output} {old new : Option (List ℕ)} → TextPut before after old new (text_from line 0 lines)
    → TextHanded total lines → TextPut before after old new (text_from line 0 total)
put_ends line {total} {lines} {before} {after} {old} {new} put all = subst (λ (n : ℕ). TextPut before after old new (text_from line 0 n)) all put

module _ {before between after : Output} {old mid new : Option (List ℕ)} where
  not_lost : {front text : List ℕ} → TextPut before between old mid front → TextPut between after mid new text → after.is_lost ≡ false → between.is_lost ≡ false
  not_lost one two kept = go between.is_lost refl
    where
      go : (lost : Bool) → between.is_lost ≡ lost → between.is_lost ≡ false
      go true e = absurd (true≢false (sym (two.lost_stays e) ∙ kept))
      go false e = e

  -- one text, and another behind it
  pub put_more : {front text : List ℕ} → TextPut before between old mid front → TextPut between after mid new text → TextPut before after old new (front ++ text)
  put_more {front} {text} one two = record {
    lost_stays = λ lost. two.lost_stays (one.lost_stays lost);
    after_loss = λ lost. two.after_loss (one.lost_stays lost) ∙ one.after_loss lost;
    unless_lost = λ kept. Appends-trans old mid new front text (one.unless_lost (not_lost one two kept)) (two.unless_lost kept);
  }

  -- the lines of a text up to one, and a piece of it behind them
  pub put_piece : {line : ℕ → List ℕ} {lines : ℕ} {piece : Piece} {out : List ℕ} → TextPut before between old mid (text_from line 0 lines)
      → TextHandsOn line lines piece out → TextPut between after mid new (take piece.count out)
      → TextPut before after old new (text_from line 0 piece.next)
  put_piece {line} {lines} {piece} {out} one given two =
      let all : lines + (piece.next - lines) ≡ piece.next = omega (arith, given.forth) in
      let joined : text_from line 0 lines ++ take piece.count out ≡ text_from line 0 piece.next
      = ap (λ (t : List ℕ). text_from line 0 lines ++ t) given.text_is
      ∙ ap (λ (n : ℕ). text_from line 0 lines ++ text_from line n (piece.next - lines)) (sym (zero-add lines))
      ∙ sym (pieces_join line 0 lines (piece.next - lines))
      ∙ ap (λ (n : ℕ). text_from line 0 n) all in
      subst (λ (t : List ℕ). TextPut before after old new t) joined (put_more one two)
