-- REQUEST 9, as 02 says it:
--
--   "Say where it broke. Our radio fitter wants the byte. Refusals 2 to 6 now carry a place: 2 the lent length; 3 zero; 4 one, or six where only the section numbers are wrong;
--   5 the first CRC byte; 6 five. The promise of the common section check changes and every caller passes the place through, the run's printed line included as a fourth column,
--   "place", empty for other answers. Demand 3's equal answers include it."
--
-- `Told` is what every caller's refusal is shown to be: a table's, the step's and the receiver's in One.antt, and of each call by place in ait_read, Laws/Told. Its soundings are
-- section `Soundings`: `places`; the printed line is report `Report`.
use Prim.Native.Nat.{ℕ, ◌+◌, ◌<◌}
use mathlib.Core.Path.{◌≡◌, sym, ap, ◌∙◌}
use mathlib.Core.List.{List, map}
use native.Mathlib.Omega.{arith}
use lib.ListN.{length}
use Rattle.section.specs.declared.Rules.{Rules}
use Rattle.section.specs.declared.Refusal.{Refusal}
use Rattle.section.specs.Header.{body_of}
use Rattle.section.specs.Refusals.{Placed}
use Rattle.section.specs.Answer.{Told}
use Rattle.section.proofs.Laws.Places.{placed-exactly, crc-place, told-byte, told-within}
use Rattle.receiver.specs.Run.{place_of_fate, Held}
use Rattle.demands.specs.Demand.{Emptied, Keeps, trace, answers_for}
use Rattle.demands.proofs.Three.{isolation}
use Rattle.std.proofs.Common.{Some}

module _ (rules : Rules) (s : List ℕ) (r : Refusal) (t : Told rules s r) where
  -- THE PLACE IS WHAT THE SENTENCE SAYS, number by number, in plain facts
  pub place-said : Placed rules s r.number r.place
  place-said = (placed-exactly rules s r.number r.place).0 t.placed

  -- only 2 to 6 have one
  pub placed-number : (p : ℕ) → r.place ≡ Some p → (1 < r.number) × (r.number < 7)
  placed-number p e = let b = told-byte rules s r t p e in (b.0, b.1)

  -- IT LIES WITHIN THE SECTION FOR 3 TO 6; for 2 it is the lent length itself
  pub place-within : (p : ℕ) → 2 < r.number → r.place ≡ Some p → p < length s
  place-within p h e = told-within rules s r t p h e

  -- "the first CRC byte": the body ends there, and four bytes are left
  pub crc-first : r.number ≡ 5 → (r.place ≡ Some (8 + length (body_of s))) × (length s ≡ 8 + length (body_of s) + 4)
  crc-first e =
      let o = t.own (omega arith) (omega arith) in
      let c = crc-place rules s (omega arith) in
      (place-said.five e ∙ ap Some (sym c.1), omega (arith, c.0, c.1))

-- "DEMAND 3'S EQUAL ANSWERS INCLUDE IT": the answers that isolation shows equal are whole, so their places are too
pub isolation-places : (x : Held) (k : ℕ) → Emptied x k → (ss us : List (List ℕ)) → Keeps x k ss → Keeps x k us → trace x k ss ≡ trace x k us
    → map place_of_fate (answers_for x k ss) ≡ map place_of_fate (answers_for x k us)
isolation-places x k start ss us n m e = ap (map place_of_fate) (isolation x k start ss us n m e).0
