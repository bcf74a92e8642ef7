-- `transport_write::put::put_unit` meets its contract. The invariant is `Going`: the first packets are written, nothing past them has changed, and those of the rest are to come.
use Prim.Native.Nat.{ℕ, min}
use mathlib.Core.Path.{◌≡◌, sym, ap, subst, ◌∙◌}
use mathlib.Core.List.{List}
use native.Mathlib.Omega.{arith}
use lib.ListN.{length}
use Rattle.std.specs.Slice.Iter.{chunks_rest, chunks_size}
use Rattle.transport_write.specs.Writer.{payload_length}
use Rattle.transport_write.proofs.Laws.Packets.{Going, begins, one-fits, one-turn, ends}
use Rattle.transport_write.proofs.put.put_unit.Goals as goal
use Rattle.transport_write.proofs.put.put_unit.Goals.{In-Some}

-- the piece has as many bytes as a payload, or is the last
long : (c : In-Some) → length c.in-Some.bytes.now ≡ min payload_length (length (chunks_rest c.loop-bytes.bytes-iterator))
long c = c.in-Some.ensures.steps.1.1 ∙ ap (λ (n : ℕ). min n (length (chunks_rest c.loop-bytes.bytes-iterator))) c.loop-bytes.invariant.2

pub loop-bytes-init : goal.loop-bytes-init
loop-bytes-init c =
    let a = c.args in
    let e = c.into_iter-bytes-iterator.ensures.into_iter_gives in
    let s = ap chunks_size e ∙ c.chunks-bytes-items.ensures.size in (
      omega (arith, s),
      tt,
      s,
      subst (λ (r : List ℕ). Going a.pid a.counter a.unit.now a.out.now a.out.now 0 r 1 a.counter) (sym (ap chunks_rest e ∙ c.chunks-bytes-items.ensures.rest))
          (begins a.pid a.counter a.unit.now a.out.now c.requires.0),
    )

pub put_packet-requires : goal.put_packet-requires
put_packet-requires c =
    let l = c.loop-bytes in
    let a = c.args in
    let g = l.invariant.3 in (
      g.nibble,
      c.requires.1,
      g.bit,
      omega (arith, long (goal.at.put_packet-requires c).In-Some),
      one-fits a.pid a.counter a.unit.now a.out.now l.out l.written _ l.start l.c g c.requires.2 c.in-Some.ensures.steps.1.2,
    )

pub loop-bytes-preserved : goal.loop-bytes-preserved
loop-bytes-preserved c =
    let l = c.loop-bytes in
    let a = c.args in
    let s = c.in-Some.ensures.steps in (
      omega (arith, l.invariant.0, s.0),
      tt,
      s.0 ∙ l.invariant.2,
      one-turn a.pid a.counter a.unit.now a.out.now l.out l.written _ l.start l.c l.invariant.3 c.requires.2 s.1.2
          _ _ s.1.0 (long (goal.at.loop-bytes-preserved c).In-Some) _ c.put_packet.ensures,
    )

pub returns : goal.returns
returns c =
    let l = c.loop-bytes in
    let a = c.args in
    ends a.pid a.counter a.unit.now a.out.now l.out l.written _ l.start l.c l.invariant.3 c.requires.2 c.in-None.ensures.steps.1.0
