-- `transport_write::judge` meets its contract.
use Prim.Native.Nat.{◌+◌, ◌*◌, ◌/◌, ◌≤◌}
use mathlib.Core.Path.{◌≡◌, sym, ap}
use native.Mathlib.Omega.{arith}
use lib.ListN.{length}
use Rattle.wire.specs.Outcomes.{passed}
use Rattle.section.specs.Header.{length_of}
use Rattle.transport_write.proofs.Exact.{written-exactly, two-exactly, three-exactly, twenty-one-exactly, twenty-five-exactly}
use Rattle.transport_write.proofs.judge.Goals as goal
use Rattle.transport_write.proofs.judge.Goals.{Else-n-twelve_at, Else-room-packets_in}

-- what is known once it is a section, and not stuffing
size-known : (c : Else-n-twelve_at) → length c.args.s.now ≡ 3 + length_of c.args.s.now
size-known c = omega (arith, c.if-n-twelve_at.false, c.twelve_at.ensures.0)

pub returns-then-n-lt3 : goal.returns-then-n-lt3
returns-then-n-lt3 c = let a = c.args in ap passed (sym ((two-exactly a.pid a.counter a.s.now a.room).1 (λ e. omega (arith, e, c.if-n-lt3.true))))

pub returns-then-n-twelve_at : goal.returns-then-n-twelve_at
returns-then-n-twelve_at c = let a = c.args in
    ap passed (sym ((two-exactly a.pid a.counter a.s.now a.room).1 (λ e. omega (arith, e, c.if-n-twelve_at.true, c.twelve_at.ensures.0))))

pub returns-then-s : goal.returns-then-s
returns-then-s c = let a = c.args in ap passed (sym ((three-exactly a.pid a.counter a.s.now a.room).1 (size-known (goal.at.returns-then-s c).Else-n-twelve_at, c.if-s.true)))

pub overflow_mul-packets_in : goal.overflow_mul-packets_in
overflow_mul-packets_in c = let e = size-known (goal.at.overflow_mul-packets_in c).Else-n-twelve_at in omega (arith, e, c.packets_in.ensures)

-- and, once there is room
room-known : (c : Else-room-packets_in) → 188 * (length c.args.s.now / 184 + 1)
    ≤ c.args.room
room-known c = omega (arith, c.if-room-packets_in.false, c.packets_in.ensures)

pub returns-then-room-packets_in : goal.returns-then-room-packets_in
returns-then-room-packets_in c =
    let a = c.args in
    ap passed (sym ((twenty-one-exactly a.pid a.counter a.s.now a.room).1
    (size-known (goal.at.returns-then-room-packets_in c).Else-n-twelve_at, c.if-s.false, omega (arith, c.if-room-packets_in.true, c.packets_in.ensures))))

pub returns-then-pid-gt8191 : goal.returns-then-pid-gt8191
returns-then-pid-gt8191 c =
    let a = c.args in
    ap passed (sym ((twenty-five-exactly a.pid a.counter a.s.now a.room).1 (
      size-known ((goal.at.returns-then-pid-gt8191 c).Else-n-twelve_at),
      c.if-s.false,
      room-known (goal.at.returns-then-pid-gt8191 c).Else-room-packets_in,
      λ h. omega (
        arith,
        h.0,
        c.if-pid-gt8191.true,
      ),
    )))

pub returns-then-counter-gt15 : goal.returns-then-counter-gt15
returns-then-counter-gt15 c =
    let a = c.args in
    ap passed (sym ((twenty-five-exactly a.pid a.counter a.s.now a.room).1 (
      size-known ((goal.at.returns-then-counter-gt15 c).Else-n-twelve_at),
      c.if-s.false,
      room-known (goal.at.returns-then-counter-gt15 c).Else-room-packets_in,
      λ h.
          omega (arith, h.1, c.if-counter-gt15.true),
    )))

pub returns : goal.returns
returns c =
    let a = c.args in
    ap passed (sym ((written-exactly a.pid a.counter a.s.now a.room).1 (
      size-known ((goal.at.returns c).Else-n-twelve_at),
      c.if-s.false,
      room-known (goal.at.returns c).Else-room-packets_in,
      omega arith,
      omega arith,
    )))
