-- `transport::take::begin` meets its contract: the whole sections are laid out; then stuffing, or a head that stays.
use Prim.Native.Nat.{ℕ, ◌-◌}
use mathlib.Core.Path.{◌≡◌, sym, ap, ◌∙◌}
use mathlib.Core.List.{List}
use native.Mathlib.Omega.{arith}
use lib.ListN.{length, take, drop, length-drop}
use Rattle.wire.specs.Copies.{laid_at}
use Rattle.wire.specs.Fields.{byte_at}
use Rattle.wire.specs.Items.{items, joined}
use Rattle.wire.specs.Pieces.{laid_first}
use Rattle.wire.proofs.Laws.Loops.{tail}
use Rattle.section.specs.Whole.{whole_at}
use Rattle.transport.specs.Feed.{left_of, head_in}
use Rattle.transport.specs.Pieces.{with_last}
use Rattle.transport.proofs.Laws.Taking.{whole-front, head-stuffed, head-left, one_laid, left-none, left_laid}
use Rattle.transport.proofs.take.begin.Goals as goal
use Rattle.transport.proofs.take.begin.Goals.{After-copy_at}

-- what was laid out: all whole sections
laid : (c : After-copy_at) → c.copy_at.new.out ≡ laid_first (joined (items whole_at c.args.after.now)) c.args.out.now
laid c =
    let a = c.args.after.now in
    let front = ap (λ (n : ℕ). take n a) c.whole_in-n.ensures.0 ∙ whole-front a in
    let l = c.whole_in-n.ensures.0 in
    let m = c.whole_in-n.ensures.1 in
    c.copy_at.ensures
    ∙ ap (laid_at c.args.out.now 0) front
    ∙ one_laid c.args.out.now (joined (items whole_at a)) (omega (arith, l, m, c.requires.2))

-- what is left of it
rest : (c : After-copy_at) → drop c.whole_in-n.result c.args.after.now ≡ left_of c.args.after.now
rest c = ap (λ (n : ℕ). drop n c.args.after.now) c.whole_in-n.ensures.0

pub returns-then-byte_at : goal.returns-then-byte_at
returns-then-byte_at c =
    let a = c.args.after.now in
    let k = (goal.at.returns-then-byte_at c).After-copy_at in
    let f = sym (ap (λ (x : List ℕ). byte_at x 0) (tail a c.whole_in-n.result ∙ rest k)) ∙ sym c.byte_at.ensures.0 ∙ c.if-byte_at.true in
    let h = head-stuffed a f in
    (c.whole_in-n.ensures.0, sym (ap (λ (x : List ℕ). length x) h), λ p e. left-none p c.args.state.now e _ h, laid k)

pub returns : goal.returns
returns c =
    let k = (goal.at.returns c).After-copy_at in
    let a = c.args.after.now in
    let g = take (length a - c.whole_in-n.result) (drop c.whole_in-n.result a) in
    let r : g ≡ left_of a = tail a c.whole_in-n.result ∙ rest k in
    let n : byte_at (left_of a) 0 ≡ 0xFF → ⊥ = λ f. c.if-byte_at.false (c.byte_at.ensures.0 ∙ ap (λ (x : List ℕ). byte_at x 0) r ∙ f) in
    let e = ap (λ (x : List ℕ). length x) (tail a c.whole_in-n.result) in
    let q = length-drop c.whole_in-n.result a in
    let h : head_in a ≡ g = head-left a n ∙ sym r in (
      c.whole_in-n.ensures.0,
      sym (ap (λ (x : List ℕ). length x) h),
      λ p z. ap (λ (x : List ℕ). with_last p (length g) x) c.copy_at-2.ensures ∙ left_laid p c.args.state.now z g _ (omega (arith, e, q, c.requires.0, c.requires.1)) h,
      laid k,
    )
