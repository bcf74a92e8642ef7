-- `transport::stretch::walk` meets its contract: packet after packet, for as long as there is one and room for what it may hand on.
use Prim.Native.Nat.{ℕ, ◌+◌, ◌-◌, ◌≤◌, ◌<◌, min}
use mathlib.Core.Path.{◌≡◌, refl, sym, ap, ap₂, subst, ◌∙◌}
use mathlib.Core.Bool.{true, false}
use mathlib.Core.List.{List, ◌++◌}
use native.Mathlib.Omega.{arith}
use lib.ListN.{length, take, drop, length-drop}
use borrow.Author.Rules.{rules}
use Rattle.std.proofs.Common.{Some, option_copied}
use Rattle.std.specs.Slice.Iter.{chunks_rest, chunks_size}
use Rattle.wire.specs.Items.{joined}
use Rattle.wire.specs.Pieces.{laid_first}
use Rattle.wire.proofs.Laws.Loops.{tail}
use Rattle.transport.specs.declared.Counts.{Counts}
use Rattle.transport.specs.Packet.{packet_length}
use Rattle.transport.specs.Feed.{fed, packets_in}
use Rattle.transport.specs.State.{state_in}
use Rattle.transport.specs.Calls.{fitting}
use Rattle.transport.specs.Pieces.{counted_with, midway, Stepped}
use Rattle.transport.proofs.Laws.Taking.{put-behind}
use Rattle.transport.proofs.Laws.Calls.{lent_back, Going, going-first, going_next, piece-more, piece-end, piece-is, piece-rest, stops_full, stops_end, gather-done, countable-so_far, none-counted}
use Rattle.transport.proofs.Laws.Midway.{Next, midway-next}
use Rattle.transport.proofs.stretch.walk.Goals as goal
use Rattle.transport.proofs.stretch.walk.Goals.{At-loop-p, In-Some, Start, then-is_taken, else-is_taken, in-None, in-Some+then-out-size-lt-LEAST_ROOM}

-- what the state's bytes are to be
abbrev meant : At-loop-p → List ℕ
meant c = midway (option_copied c.loop-p.last) c.loop-p.held c.loop-p.state

-- so far
going : (c : At-loop-p) → let l = c.loop-p in
    Going c.args.pid c.args.state.now c.args.out.now c.args.packets.now (meant c) l.out l.counts l.passed l.size
going c = c.loop-p.invariant.5

short : (s : Start) → length s.args.packets.now < 18446744073709551616
short s = search rules

-- the packet, as it lies in the stretch
cut : (c : In-Some) → let xs = c.args.packets.now in let p = c.in-Some.p.now in let at = c.loop-p.passed in
    (at < length xs) × (at + length p ≡ at + min packet_length (length xs - at)) × (p ≡ take packet_length (drop at xs))
    × (chunks_rest c.next.new.self ≡ drop (at + length p) xs)
cut c =
    let xs = c.args.packets.now in
    let p = c.in-Some.p.now in
    let r = chunks_rest c.next.new.self in
    let at = c.loop-p.passed in
    let i = c.loop-p.invariant in
    let s = c.in-Some.ensures.steps in
    let e = sym i.3 ∙ s.1.0 in
    let l = s.1.1 ∙ ap₂ (λ (n : ℕ) (r : List ℕ). min n (length r)) i.2 i.3 in
    let d = ap (λ (r : List ℕ). length r) i.3 in
    let z : 0 < length (drop c.loop-p.passed c.args.packets.now) = omega (arith, d, s.1.2) in (
      piece-more xs p r at e l z,
      piece-end xs p r at e l z,
      piece-is xs p r at e l z,
      piece-rest xs p r at e l z,
    )

pub loop-p-init : goal.loop-p-init
loop-p-init c =
    let s = ap chunks_size c.into_iter-p-iterator.ensures.into_iter_gives ∙ c.chunks-p-items.ensures.size in
    let z = (lent_back c.args.pid c.args.state.now _ c.requires).0 in (
      omega (arith, s),
      tt,
      s,
      ap chunks_rest c.into_iter-p-iterator.ensures.into_iter_gives ∙ c.chunks-p-items.ensures.rest,
      refl,
      subst (λ (k : Counts). Going c.args.pid c.args.state.now c.args.out.now c.args.packets.now c.args.state.now c.args.out.now k 0 0)
          (none-counted c.default-counts.result c.default-counts.ensures)
          (going-first c.args.pid c.args.state.now c.args.out.now c.args.packets.now z),
      (z, c.held_in-held.ensures.0, tt),
    )

pub add-requires : goal.add-requires
add-requires c =
    let k = goal.at.add-requires c in
    countable-so_far c.args.pid c.args.state.now c.args.out.now c.args.packets.now _ _ _ _ _ (going k.At-loop-p)
    (omega (arith, short k.Start, (cut k.In-Some).0))

pub loop-p-preserved : goal.loop-p-preserved
loop-p-preserved c =
    let k = goal.at.loop-p-preserved c in
    let g = going k.At-loop-p in
    let i = c.loop-p.invariant in
    let r = c.take_packet-step.result in
    let s' = c.take_packet-step.new.state in
    let o = c.loop-p.out in
    let n = c.loop-p.size in
    let v = meant k.At-loop-p in
    let q = cut k.In-Some in
    let p = take packet_length (drop c.loop-p.passed c.args.packets.now) in
    let w = subst
    (λ (y : List ℕ). Stepped c.args.pid v c.loop-p.state c.loop-p.held y (take (length o - n) (drop n o)) r.answer r.size r.held s' c.take_packet-step.new.out)
    q.2 c.take_packet-step.ensures in
    let a = midway-next c.args.pid (option_copied c.loop-p.last) c.loop-p.held c.loop-p.state i.6 p _ _ _ _ _ _ w in
    let x : Next c.args.pid v p r.held s' (option_copied c.if-is_taken.last) = elim c.if-is_taken.branch [
      | then-is_taken b ↦ subst (λ l. Next c.args.pid v p r.held s' (option_copied l)) (sym b.last-is)
          (subst (λ y. Next c.args.pid v p r.held s' (Some y)) (sym q.2) (a true (sym c.is_taken.ensures ∙ b.if-is_taken.true)))
      | else-is_taken b ↦ subst (λ l. Next c.args.pid v p r.held s' (option_copied l)) (sym b.last-is) (a false (sym c.is_taken.ensures ∙ b.if-is_taken.false))
    ] in
    let room : n ≤ length o = omega (arith, g.as_long, g.room-left) in
    let b = put-behind n o c.take_packet-step.new.out room
    ∙ ap (λ (y : List ℕ). take n o ++ y) (w.5 ∙ ap (λ (y : List ℕ). laid_first (joined (fed c.args.pid (state_in v) p).sections) y) (tail o n)) in (
      omega (arith, i.0, c.in-Some.ensures.steps.0),
      tt,
      c.in-Some.ensures.steps.0 ∙ i.2,
      q.3,
      c.take_packet-step.auto.state ∙ i.4,
      going_next c.args.pid c.args.state.now c.args.out.now c.args.packets.now _ _ _ _ _ g q.0 (omega (arith, c.if-out-size-lt-LEAST_ROOM.false, g.as_long)) _
          q.1 _ (c.add.ensures ∙ ap (counted_with c.loop-p.counts) w.0) _ w.1 _ _ x.0 b,
      x.1,
    )

pub returns : goal.returns
returns c =
    let out_of : length (chunks_rest c.loop-p.p-iterator) ≡ 0 → length c.args.packets.now ≤ c.loop-p.passed = λ e.
    let f = ap (λ (r : List ℕ). length r) c.loop-p.invariant.3 in
    let d = length-drop c.loop-p.passed c.args.packets.now in
    omega (arith, e, f, d) in
    let g = going (goal.at.returns c).At-loop-p in
    let z : fitting c.args.pid (length c.args.out.now - c.loop-p.size) (state_in (meant (goal.at.returns c).At-loop-p)) (packets_in (drop c.loop-p.passed c.args.packets.now)) ≡ 0 =
    elim c.match-next.branch [
      | in-None w ↦ stops_end c.args.pid c.args.state.now c.args.out.now c.args.packets.now _ _ _ _ _ g (out_of w.in-None.ensures.steps.1.0)
      | in-Some+then-out-size-lt-LEAST_ROOM w ↦ stops_full c.args.pid c.args.state.now c.args.out.now c.args.packets.now _ _ _ _ _ g (omega (arith, w.if-out-size-lt-LEAST_ROOM.true, g.as_long))
    ] in
    let d = gather-done c.args.pid c.args.state.now c.args.out.now c.args.packets.now _ _ _ _ _ g z c.requires in
    (d.0, d.1, c.loop-p.invariant.6, d.2)
