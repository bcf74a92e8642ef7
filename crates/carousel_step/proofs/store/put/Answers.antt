-- `carousel_step::store::put` meets its contract: a block that is marked is compared, one that is not is stored.
use Prim.Native.Nat.{◌+◌, ◌-◌, ◌≤◌}
use mathlib.Core.Path.{◌≡◌, refl, sym, ◌∙◌}
use mathlib.Core.Bool.{Bool, true, false}
use native.Mathlib.Omega.{arith}
use lib.ListN.{length, take, drop}
use Rattle.wire.specs.Copies.{same_numbers}
use Rattle.wire.proofs.Laws.Copies.{laid-fits}
use Rattle.carousel_step.proofs.Laws.Outcomes.{put-short, put-clear, put_same, put_other}
use Rattle.carousel_step.proofs.store.put.Goals as goal
use Rattle.carousel_step.proofs.store.put.Goals.{Else-image-at-2}

-- the image holds the block
room : (c : Else-image-at-2) → let a = c.args in a.at + length a.bytes.now ≤ length a.image.now
room c = omega (arith, c.if-image-at.false, c.if-image-at-2.false)

-- the part that is compared
compared : (c : Else-image-at-2) (t : Bool) → let a = c.args in
    same_numbers (take (a.at + length a.bytes.now - a.at) (drop a.at a.image.now)) a.bytes.now ≡ t
    → same_numbers (take (length a.bytes.now) (drop a.at a.image.now)) a.bytes.now ≡ t
compared c t e =
    let a = c.args in
    let n : a.at + length a.bytes.now - a.at ≡ length a.bytes.now = omega arith in
    rw n at e

pub returns-then-image-at : goal.returns-then-image-at
returns-then-image-at c =
    let a = c.args in
    let o = put-short a.k a.at a.marks.now a.image.now a.bytes.now (omega (arith, c.if-image-at.true)) in
    rw o (c.refuse.ensures, refl, refl)

pub returns-then-image-at-2 : goal.returns-then-image-at-2
returns-then-image-at-2 c =
    let a = c.args in
    let o = put-short a.k a.at a.marks.now a.image.now a.bytes.now (omega (arith, c.if-image-at.false, c.if-image-at-2.true)) in
    rw o (c.refuse-then-image-at-2.ensures, refl, refl)

pub returns-then-is_equal : goal.returns-then-is_equal
returns-then-is_equal c =
    let a = c.args in
    let k = sym c.is_marked.ensures ∙ c.if-is_marked.true in
    let o = put_same a.k a.at a.marks.now a.image.now a.bytes.now (room (goal.at.returns-then-is_equal c).Else-image-at-2) k (compared (goal.at.returns-then-is_equal c).Else-image-at-2 true
    (sym c.is_equal.ensures ∙ c.if-is_equal.true)) in
    rw o (refl, refl, refl)

pub returns-then-is_marked : goal.returns-then-is_marked
returns-then-is_marked c =
    let a = c.args in
    let k = sym c.is_marked.ensures ∙ c.if-is_marked.true in
    let o = put_other a.k a.at a.marks.now a.image.now a.bytes.now (room (goal.at.returns-then-is_marked c).Else-image-at-2) k (compared (goal.at.returns-then-is_marked c).Else-image-at-2 false
    (sym c.is_equal.ensures ∙ c.if-is_equal.false)) in
    rw o (c.refuse-then-is_marked.ensures, refl, refl)

pub returns : goal.returns
returns c =
    let a = c.args in
    let o = put-clear a.k a.at a.marks.now a.image.now a.bytes.now (room (goal.at.returns c).Else-image-at-2) (sym c.is_marked.ensures ∙ c.if-is_marked.false) in
    rw o (refl, c.set_mark.ensures, c.copy_at.ensures ∙ laid-fits a.image.now a.at a.bytes.now (room (goal.at.returns c).Else-image-at-2))
