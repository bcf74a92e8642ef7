-- `transport::take::take_payload` meets its contract: no payload; a packet in which sections begin; or one that goes on with the section in hand.
use Prim.Native.Nat.{ℕ, ◌+◌, ◌-◌, ◌≤◌}
use mathlib.Core.Path.{◌≡◌, sym, ap, ap₂, ◌∙◌}
use mathlib.Core.List.{List}
use native.Mathlib.Omega.{arith}
use lib.ListN.{length, take, drop, length-append, length-drop}
use lib.Seq.{length-take-le}
use Rattle.wire.specs.Items.{items, joined}
use Rattle.wire.specs.Pieces.{laid_first}
use Rattle.wire.proofs.Laws.Loops.{tail}
use Rattle.section.specs.Whole.{whole_at}
use Rattle.transport.specs.Packet.{View, view_of}
use Rattle.transport.specs.Feed.{is_head, ended, grown, head_in, leaves}
use Rattle.transport.specs.State.{hand_at, state_bytes}
use Rattle.transport.proofs.Laws.Hands.{none-long, none_laid}
use Rattle.transport.proofs.Laws.Rule.{brings-most, ended-most}
use Rattle.transport.proofs.Laws.Taking.{idle_hands, start_hands, on_hands, left-same, given_as, put-behind, started-size, started_out}
use Rattle.transport.proofs.Laws.Judged.{same_part}
use Rattle.transport.proofs.take.take_payload.Goals as goal
use Rattle.transport.proofs.take.take_payload.Goals.{After-begin-b, After-hand_on-n, Start}

abbrev hand : Start → List ℕ
hand s = take s.args.held (drop hand_at s.args.state.now)

abbrev view : Start → View
view s = view_of s.args.p.now

-- all that is said to be in hand is there, and no more
held-there : (s : Start) → length (hand s) ≡ s.args.held
held-there s =
    let d = length-drop hand_at s.args.state.now in
    length-take-le s.args.held (drop hand_at s.args.state.now) (omega (arith, d, s.requires.2, s.requires.3))

held : (s : Start) → length (hand s) ≤ 4097
held s = let e = held-there s in omega (arith, e, s.requires.2)

-- what the section in hand came to
given : (c : After-hand_on-n) →
    (c.hand_on-n.result ≡ length (joined (ended (hand (goal.at.After-hand_on-n c).Start) (view (goal.at.After-hand_on-n c).Start).before))) × (c.hand_on-n.new.out ≡ laid_first
    (joined (ended (hand (goal.at.After-hand_on-n c).Start) (view (goal.at.After-hand_on-n c).Start).before)) c.args.out.now)
given c = given_as _ _ _ _ _ _ _ (same_part c.args.state.now 190 c.args.held) c.in-Some.ensures.1.3 c.hand_on-n.ensures

-- it has room
brings : (s : Start) → length (view s).before + length (view s).after ≤ 184
brings s = brings-most s.args.p.now s.requires.0

few : (c : After-hand_on-n) → c.hand_on-n.result + length (view ((goal.at.After-hand_on-n c).Start)).after ≤ length c.args.out.now
few c =
    let g = (given c).0 in
    omega (
      arith,
      g,
      ended-most (hand (goal.at.After-hand_on-n c).Start) (view (goal.at.After-hand_on-n c).Start).before,
      held (goal.at.After-hand_on-n c).Start,
      brings
          (goal.at.After-hand_on-n c).Start,
      c.requires.5,
    )

as_long : (c : After-hand_on-n) → length c.hand_on-n.new.out ≡ length c.args.out.now
as_long c =
    let j = joined (ended (hand (goal.at.After-hand_on-n c).Start) (view (goal.at.After-hand_on-n c).Start).before) in
    let e = ap (λ (x : List ℕ). length x) (given c).1 in
    let a = length-append j (drop (length j) c.args.out.now) in
    let d = length-drop (length j) c.args.out.now in
    omega (arith, e, a, d, (given c).0, few c)

-- the bytes after the pointed place
after : (c : After-begin-b) → take (length c.args.p.now - c.in-Some.v.mid) (drop c.in-Some.v.mid c.args.p.now) ≡ (view_of c.args.p.now).after
after c = tail c.args.p.now _ ∙ c.in-Some.ensures.1.4

pub returns-in_default : goal.returns-in_default
returns-in_default c =
    let i = idle_hands (hand (goal.at.returns-in_default c).Start) (view (goal.at.returns-in_default c).Start) (sym c.in_default.ensures.0) in (
      sym none-long ∙ ap (λ (ss : List (List ℕ)). length (joined ss)) (sym i.0),
      sym (held-there (goal.at.returns-in_default c).Start) ∙ ap (λ (h : List ℕ). length h) (sym i.1),
      left-same c.args.p.now c.args.state.now c.requires.0 c.args.held _ c.requires.2 c.requires.3 i.1,
      sym (none_laid c.args.out.now) ∙ ap (λ (ss : List (List ℕ)). laid_first (joined ss) c.args.out.now) (sym i.0),
    )

pub hand_on-n-requires : goal.hand_on-n-requires
hand_on-n-requires c =
    let a = ap (λ (x : List ℕ). length x) (same_part c.args.state.now 190 c.args.held) in
    let b = ap (λ (x : List ℕ). length x) c.in-Some.ensures.1.3 in
    (ap is_head (same_part c.args.state.now 190 c.args.held) ∙ c.requires.4, omega (arith, a, b, held (goal.at.hand_on-n-requires c).Start, brings (goal.at.hand_on-n-requires c).Start, c.requires.5))

pub begin-b-requires : goal.begin-b-requires
begin-b-requires c =
    let o = c.hand_on-n.new.out in
    let a = ap (λ (x : List ℕ). length x) (tail c.args.p.now c.in-Some.v.mid ∙ c.in-Some.ensures.1.4) in
    let r = ap (λ (x : List ℕ). length x) (tail o c.hand_on-n.result) in
    let d = length-drop c.hand_on-n.result o in (
      omega (arith, a, brings (goal.at.begin-b-requires c).Start),
      c.requires.3,
      omega (
        arith,
        a,
        r,
        d,
        few (goal.at.begin-b-requires c).After-hand_on-n,
        as_long
            (goal.at.begin-b-requires c).After-hand_on-n,
      ),
    )

pub returns-then-start : goal.returns-then-start
returns-then-start c =
    let p = sym c.in-Some.ensures.0 in
    let t = sym c.in-Some.ensures.1.0 ∙ c.if-start.true in
    let m = c.begin-b.ensures.0 ∙ ap (λ (x : List ℕ). length (joined (items whole_at x))) (after (goal.at.returns-then-start c).After-begin-b) in
    let o = c.hand_on-n.new.out in
    let n = c.hand_on-n.result in
    let l : n ≤ length c.args.out.now = omega (arith, few (goal.at.returns-then-start c).After-hand_on-n) in
    let h : head_in _ ≡ leaves (hand (goal.at.returns-then-start c).Start) (view (goal.at.returns-then-start c).Start) =
    ap head_in (after (goal.at.returns-then-start c).After-begin-b)
    ∙ sym (start_hands (hand (goal.at.returns-then-start c).Start) (view (goal.at.returns-then-start c).Start) p t).1 in
    let r = c.begin-b.ensures.3 ∙ ap₂ (λ (x y : List ℕ). laid_first (joined (items whole_at x)) y) (after (goal.at.returns-then-start c).After-begin-b) (tail o n) in (
      started-size (hand (goal.at.returns-then-start c).Start) c.args.out.now (view (goal.at.returns-then-start c).Start) p t n c.begin-b.result.size
          (given (goal.at.returns-then-start c).After-hand_on-n).0 m,
      c.begin-b.ensures.1 ∙ ap (λ (x : List ℕ). length x) h,
      c.begin-b.ensures.2 c.args.p.now c.requires.0
          ∙ ap (λ (x : List ℕ). laid_first (state_bytes (record { last = c.args.p.now; hand = x })) c.args.state.now) h,
      put-behind n o _ (omega (arith, l, as_long (goal.at.returns-then-start c).After-hand_on-n)) ∙ started_out (hand (goal.at.returns-then-start c).Start) c.args.out.now (view
          (goal.at.returns-then-start c).Start) p t o _ n (given (goal.at.returns-then-start c).After-hand_on-n).0 (given (goal.at.returns-then-start c).After-hand_on-n).1 r l,
    )

pub go_on-requires : goal.go_on-requires
go_on-requires c =
    let b = ap (λ (x : List ℕ). length x) c.in-Some.ensures.1.3 in
    let q = c.in-Some.v in
    let m = take (q.mid - q.from) (drop q.from c.args.p.now) in
    let n = c.hand_on-n.ensures.0 ∙ ap (λ (x : List ℕ). length (joined (ended x m))) (same_part c.args.state.now 190 c.args.held) in
    (c.requires.3, c.requires.2, c.requires.4, omega (arith, b, brings (goal.at.go_on-requires c).Start), n)

pub returns : goal.returns
returns c =
    let p = sym c.in-Some.ensures.0 in
    let t = sym c.in-Some.ensures.1.0 ∙ c.if-start.false in
    let o = on_hands (hand (goal.at.returns c).Start) (view (goal.at.returns c).Start) p t in
    let h = ap (grown (hand (goal.at.returns c).Start)) c.in-Some.ensures.1.3 ∙ sym o.1 in
    let g = given (goal.at.returns c).After-hand_on-n in (
      g.0 ∙ ap (λ (ss : List (List ℕ)). length (joined ss)) (sym o.0),
      c.go_on.ensures.0 ∙ ap (λ (x : List ℕ). length x) h,
      c.go_on.ensures.1 c.args.p.now c.requires.0
          ∙ ap (λ (x : List ℕ). laid_first (state_bytes (record { last = c.args.p.now; hand = x })) c.args.state.now) h,
      g.1 ∙ ap (λ (ss : List (List ℕ)). laid_first (joined ss) c.args.out.now) (sym o.0),
    )
