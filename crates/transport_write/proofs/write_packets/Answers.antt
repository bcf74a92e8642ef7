-- `transport_write::write_packets` meets its contract.
use Prim.Native.Nat.{ℕ, ◌≤◌, ◌<◌}
use mathlib.Core.Path.{◌≡◌, sym, ap, ◌∙◌}
use mathlib.Core.List.{List}
use native.Mathlib.Omega.{arith}
use lib.ListN.{length}
use borrow.Author.Rules.{rules}
use Rattle.std.proofs.Common.{Ok, Err}
use Rattle.wire.specs.Items.{joined}
use Rattle.wire.proofs.Laws.Outcomes.{refused_by_lem, not_refused}
use Rattle.transport_write.specs.Writer.{section_packets, pack_refusal}
use Rattle.transport_write.proofs.Exact.{written-exactly, refused-keeps, packed-is}
use Rattle.transport_write.proofs.Laws.Packets.{room-asked}
use Rattle.transport_write.proofs.write_packets.Goals as goal
use Rattle.transport_write.proofs.write_packets.Goals.{In_ok-judge}

-- what a section that is not refused gives the writer
fine : (pid c : ℕ) (s : List ℕ) (room : ℕ) → pack_refusal pid c s room ≡ 0
    → (length s < 4099) × (c < 16) × (pid < 8192) × (length (joined (section_packets pid c s)) ≤ room)
fine pid c s room z =
    let h = (written-exactly pid c s room).0 z in
    let r = room-asked pid c s in
    (omega (arith, h.0), h.4, h.3, omega (arith, r, h.2))

-- no test holds
clear : (c : In_ok-judge) → pack_refusal c.args.pid c.args.counter c.args.s.now (length c.args.out.now) ≡ 0
clear c = not_refused _ tt tt (sym c.in_ok-judge.was ∙ c.judge.ensures)

pub returns-in_err-judge : goal.returns-in_err-judge
returns-in_err-judge c =
    let a = c.args in
    let r : c.from_residual.result ≡ Err c.in_err-judge.field-0.0 = search rules in
    let n = refused_by_lem _ _ tt (sym c.in_err-judge.was ∙ c.judge.ensures) in
    let k = refused-keeps a.pid a.counter a.s.now a.out.now n.1 in
    (r ∙ ap Err n.0 ∙ sym k.0, sym k.1)

pub put_section-requires : goal.put_section-requires
put_section-requires c =
    let a = c.args in
    fine a.pid a.counter a.s.now (length a.out.now) (clear (goal.at.put_section-requires c).In_ok-judge)

pub returns : goal.returns
returns c =
    let a = c.args in
    let k = packed-is a.pid a.counter a.s.now a.out.now (clear (goal.at.returns c).In_ok-judge) in
    let e = c.put_section.ensures in
    (ap Ok e.0 ∙ sym k.0, e.1 ∙ sym k.1)
