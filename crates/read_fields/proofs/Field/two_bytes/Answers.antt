-- `read_fields::Field::two_bytes` meets its contract: 256 times the one byte, and the byte after it. Assumes nothing.
use Prim.Native.Nat.{ℕ, ◌+◌, ◌-◌, ◌<◌, ◌^◌, min}
use mathlib.Core.Path.{◌≡◌, sym, ap, ◌∙◌}
use mathlib.Core.List.{List}
use native.Mathlib.Decide.{dec_lt}
use native.Mathlib.Omega.{arith}
use lib.ListN.{length, get_or, get_or-eq_default}
use Rattle.circuit.specs.Fields.{two_bytes}
use Rattle.read_fields.proofs.Field.two_bytes.Goals as goal

-- the index after the last that there is has no byte, like the last
next_byte : (body : List ℕ) (i : ℕ) → length body < 2 ^ 63 → get_or body (min (i + 1) (2 ^ 64 - 1)) 0 ≡ get_or body (i + 1) 0
next_byte body i room = go (dec_lt (i + 1) (2 ^ 64))
  where
    go : Dec (i + 1 < 2 ^ 64) → get_or body (min (i + 1) (2 ^ 64 - 1)) 0 ≡ get_or body (i + 1) 0
    go (yes h) = ap (λ (n : ℕ). get_or body n 0) (let e : min (i + 1) (2 ^ 64 - 1) ≡ i + 1 = omega arith in e)
    go (no h) = get_or-eq_default body 0 (omega arith) ∙ sym (get_or-eq_default body 0 (omega arith))

pub returns : goal.returns
unfolding two_bytes
returns c =
    let body = c.args.self.body.now in
    let next = next_byte body c.args.i (omega (arith, c.ranges.self)) in
    let low = c.byte-2.ensures ∙ ap (λ (n : ℕ). get_or body n 0) c.saturating_add.ensures ∙ next in
    omega arith
