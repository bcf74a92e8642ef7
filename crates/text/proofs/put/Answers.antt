-- `put` meets its contract. The invariant: the rest of the piece, put from here on, leaves what the whole leaves.
use Prim.Native.Nat.{◌+◌, ◌≤◌}
use mathlib.Core.Path.{◌≡◌, refl, ◌∙◌}
use mathlib.Core.List.{[], ◌∷◌}
use native.Mathlib.Numerals.{add-one}
use native.Mathlib.Omega.{arith}
use lib.ListN.{length, drop, get_or, drop_of_length-le}
use lib.Seq.{drop-cons}
use Rattle.text.proofs.Laws.Puts.{writing-on, writing-done}
use Rattle.text.proofs.put.Goals as goal

pub loop-byte-init : goal.loop-byte-init
loop-byte-init c = (refl, (refl, refl))

pub loop-byte-preserved : goal.loop-byte-preserved
loop-byte-preserved c =
    let l = c.loop-byte in
    let a = c.args in
    let p = a.piece.now in
    let next : drop l.byte-index p ≡ get_or p l.byte-index 0 ∷ drop (l.byte-index + 1) p = rw add-one (drop-cons p l.byte-index 0 (omega arith)) in (
      c.put_byte-end.auto.out ∙ l.invariant.0,
      writing-on l.out l.end (drop l.byte-index p) a.out.now a.at p (get_or p l.byte-index 0 ∷ []) (drop (l.byte-index + 1) p) _ _ l.invariant.1 next c.put_byte-end.ensures,
    )

pub shape_of-out : goal.shape_of-out
shape_of-out c = c.loop-byte.invariant.0

pub returns : goal.returns
returns c =
    let a = c.args in
    let l = c.loop-byte in
    let p = a.piece.now in
    let past : length p ≤ l.byte-index = omega arith in
    writing-done l.out l.end (drop l.byte-index p) a.out.now a.at p l.invariant.1 (drop_of_length-le p past)
