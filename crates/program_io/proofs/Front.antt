-- A text at the front of a buffer, and some bytes more behind it. Assumes nothing.
use Prim.Native.Nat.{ℕ, ◌+◌, ◌≤◌}
use mathlib.Core.Path.{◌≡◌, sym, ap, ◌∙◌}
use mathlib.Core.Bool.{Bool, true, false}
use mathlib.Core.List.{List, ◌++◌}
use native.Mathlib.Nat.{zero-add}
use native.Mathlib.Omega.{arith}
use lib.ListN.{length, take, length-append}
use Rattle.words.specs.Written.{written}
use Rattle.words.proofs.WrittenLaws.{length_written, take_written, written_written}
use Rattle.program_io.specs.Outputs.{blank_line}

pub record Front (buffer text : List ℕ) (at : ℕ) (out : List ℕ) : Type 0 where
  pub place : at ≡ length text
  pub put : out ≡ written buffer 0 text
  pub room : length text ≤ length buffer

pub front_length : {buffer text : List ℕ} {at : ℕ} {out : List ℕ} → Front buffer text at out → length out ≡ length buffer
front_length {buffer} {text} f = ap length f.put ∙ length_written buffer 0 text (omega (arith, f.room))

pub front-more : {buffer text : List ℕ} {at : ℕ} {out : List ℕ} → Front buffer text at out
    → (bytes : List ℕ) {next : ℕ} {after : List ℕ} → length text + length bytes ≤ length buffer → (next ≡ at + length bytes) × (after ≡ written out at bytes)
    → Front buffer (text ++ bytes) next after
front-more {buffer} {text} {at} {out} f bytes {next} {after} fits e =
    let all : length (text ++ bytes) ≡ length text + length bytes = length-append text bytes in
    record {
      place = omega (arith, e.0, f.place, all);
      put = e.1
          ∙ ap (λ (l : List ℕ). written l at bytes) f.put
          ∙ ap (λ (n : ℕ). written (written buffer 0 text) n bytes) (f.place ∙ sym (zero-add (length text)))
          ∙ written_written buffer 0 text bytes (omega (arith, fits, all));
      room = omega (arith, fits, all);
    }

pub front-text : {buffer text : List ℕ} {at : ℕ} {out : List ℕ} → Front buffer text at out → take at out ≡ text
front-text {buffer} {text} {at} {out} f =
    ap (λ (n : ℕ). take n out) (f.place ∙ sym (zero-add (length text)))
    ∙ ap (λ (l : List ℕ). take (0 + length text) l) f.put
    ∙ take_written buffer 0 text (omega (arith, f.room))

pub blank-short : (above : Bool) → length (blank_line above) ≤ 1
blank-short true = omega arith
blank-short false = omega arith
