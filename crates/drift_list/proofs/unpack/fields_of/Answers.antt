-- `drift_list::unpack::fields_of` meets its contract: buoy, state and longitude lie in the first word, latitude and minute in the second.
use Prim.Native.Nat.{ℕ, suc, ◌/◌, ◌%◌, ◌^◌, ◌≤◌}
use mathlib.Core.Path.{◌≡◌, refl, sym, ◌∙◌}
use native.Mathlib.Omega.{arith}
use lib.IntN.{ℤ}
use mir.Syntax.{w32}
use mir.Val.{to_z, of_z}
use Rattle.wire.specs.Fields.{bits}
use Rattle.wire.proofs.Laws.Fields.{bits_lt}
use Rattle.wire.specs.Signed.{signed}
use Rattle.wire.proofs.Laws.Signed.{machine-keeps}
use Rattle.drift_list.proofs.Laws.Words.{fix-words}
use Rattle.drift_list.proofs.unpack.fields_of.Goals as goal

-- a coordinate as it is put into the record
coordinate : (h k x : ℕ) → 2 ^ h ≤ 2 ^ 31 → (z : ℤ) → z ≡ signed h (bits k (suc h) x) → to_z w32 (of_z w32 z) ≡ signed h (bits k (suc h) x)
coordinate h k x w z e = machine-keeps h (bits k (suc h) x) w z e (bits_lt k (suc h) x)

pub returns : goal.returns
returns c =
    let s = c.args.s.now in
    let hi = c.sixty_four_at-high.result in
    let lo = c.sixty_four_at-low.result in
    let e = c.sixty_four_at-high.ensures.0 in
    let f = c.sixty_four_at-low.ensures.0 in
    let x = coordinate 27 14 hi (omega arith) c.signed-longitude.result (c.signed-longitude.ensures 27 refl) in
    let y = coordinate 26 19 lo (omega arith) c.signed-latitude.result (c.signed-latitude.ensures 26 refl) in
    (λ i. record { buoy = hi / 2 ^ 44 % 2 ^ 20; state = hi / 2 ^ 42 % 2 ^ 2; longitude = x i; latitude = y i; minute = lo / 2 ^ 5 % 2 ^ 14 })
    ∙ sym (fix-words s (λ k. (c.shared_slice_known-1.given k).fits) hi lo e f)
