-- 01, "The circuit file": each field is one tag byte, a two-byte length (high byte first), then that many body bytes. Fields fill the file
-- to its last byte.
use Rattle.std.specs.Prelude.{ℕ, zero, suc, ◌+◌, ◌-◌, ◌*◌, cond, List, eqb, ltb, length, get_or, take, drop}

-- a number of two bytes, high byte first
unfoldable pub two_bytes : List ℕ → ℕ → ℕ
two_bytes bytes at = 256 * get_or bytes at 0 + get_or bytes (at + 1) 0

-- a field, with the offset of its tag byte
pub record Field : Type 0 where
  pub at : ℕ
  pub tag : ℕ
  pub body : List ℕ

-- the rest of a file cut into fields, down to its end or to an offset at which no whole field stands
pub data Cut : Type 0 where
  clean : Cut
  broken : ℕ → Cut
  field : Field → Cut → Cut

-- the cut from an offset. Each field is at least 3 bytes long, so that the file's length bounds the number of fields
unfoldable pub cut_in : ℕ → List ℕ → ℕ → Cut
cut_in zero file at = clean
cut_in (suc most) file at =
    let n = two_bytes file (at + 1) in
    let rest = cut_in most file (at + 3 + n) in
    let whole = field (record { at = at; tag = get_or file at 0; body = take n (drop (at + 3) file) }) rest in
    cond (eqb at (length file)) clean
    (cond (ltb (length file) (at + 3)) (broken at) (cond (ltb (length file) (at + 3 + n)) (broken at) whole))

unfoldable pub cut_from : List ℕ → ℕ → Cut
cut_from file at = cut_in (suc (length file) - at) file at
