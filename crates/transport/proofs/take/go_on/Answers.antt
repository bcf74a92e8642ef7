-- `transport::take::go_on` meets its contract: nothing in hand, a section that became whole, or more bytes in hand.
use Prim.Native.Nat.{ℕ, ◌+◌}
use mathlib.Core.Path.{◌≡◌, sym, ap, ◌∙◌}
use mathlib.Core.List.{List, []}
use native.Mathlib.Omega.{arith}
use lib.ListN.{length, take, drop, length-append, length-drop}
use lib.Seq.{length-take-le}
use Rattle.wire.specs.Pieces.{laid_first}
use Rattle.transport.specs.Packet.{packet_length}
use Rattle.transport.specs.Feed.{grown}
use Rattle.transport.specs.State.{hand_at, state_bytes}
use Rattle.transport.specs.Pieces.{with_last}
use Rattle.transport.proofs.Laws.Rule.{hand-most, grown-head}
use Rattle.transport.proofs.Laws.Taking.{grown-none, grown-whole, grown-on, left-none, left_grown}
use Rattle.transport.proofs.take.go_on.Goals as goal
use Rattle.transport.proofs.take.go_on.Goals.{Start}

abbrev hand : Start → List ℕ
hand s = take s.args.held (drop hand_at s.args.state.now)

-- all that is said to be in hand is there
held : (s : Start) → length (hand s) ≡ s.args.held
held s =
    let d = length-drop hand_at s.args.state.now in
    length-take-le s.args.held (drop hand_at s.args.state.now) (omega (arith, d, s.requires.0, s.requires.1))

-- nothing stays in hand
none_stays : (s : Start) → grown (hand s) s.args.before.now ≡ [] → (0 ≡ length (grown (hand s) s.args.before.now))
    × ((p : List ℕ) → length p ≡ packet_length → with_last p 0 s.args.state.now ≡ laid_first (state_bytes (record { last = p; hand = grown (hand s) s.args.before.now })) s.args.state.now)
none_stays s z = (sym (ap (λ (x : List ℕ). length x) z), λ p e. left-none p s.args.state.now e _ z)

pub returns-then-held-eq0 : goal.returns-then-held-eq0
returns-then-held-eq0 c =
    let z = held (goal.at.returns-then-held-eq0 c).Start in
    none_stays (goal.at.returns-then-held-eq0 c).Start (grown-none (hand (goal.at.returns-then-held-eq0 c).Start) c.args.before.now (omega (arith, z, c.if-held-eq0.true)))

pub returns-then-n-ne0 : goal.returns-then-n-ne0
returns-then-n-ne0 c = none_stays (goal.at.returns-then-n-ne0 c).Start (grown-whole (hand (goal.at.returns-then-n-ne0 c).Start) c.args.before.now (λ z. c.if-n-ne0.true (c.requires.4 ∙ z)))

pub returns : goal.returns
returns c =
    let z = held (goal.at.returns c).Start in
    let o = grown-on (hand (goal.at.returns c).Start) c.args.before.now (λ e. c.if-held-eq0.false (sym z ∙ e)) (sym c.requires.4 ∙ c.if-n-ne0.false) in
    let g = hand-most (grown (hand (goal.at.returns c).Start) c.args.before.now) (grown-head (hand (goal.at.returns c).Start) c.args.before.now c.requires.2) in
    let j = ap (λ (x : List ℕ). length x) o ∙ length-append (hand (goal.at.returns c).Start) c.args.before.now in (
      omega (arith, z, j),
      λ p e. ap (λ (x : List ℕ). with_last p (c.args.held + length c.args.before.now) x) c.copy_at.ensures
          ∙ left_grown p c.args.state.now e c.args.held c.args.before.now _ (omega (arith, c.requires.0, g, j, z)) o,
    )
