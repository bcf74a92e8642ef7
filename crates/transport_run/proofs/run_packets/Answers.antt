-- `transport_run::run_packets` meets its contract: a broken record, or the packets gathered and their sections run.
use Prim.Native.Nat.{ℕ, ◌≤◌}
use mathlib.Core.Path.{◌≡◌, sym, refl, ap, ◌∙◌}
use mathlib.Core.List.{List}
use native.Mathlib.Omega.{arith}
use lib.ListN.{length}
use lib.Seq.{length-take-le}
use Rattle.transport.proofs.Laws.Calls.{gather-room, gather-long}
use Rattle.transport_run.proofs.Laws.Heard.{size_in, size-told, broken-leaves, heard-leaves}
use Rattle.transport_run.proofs.run_packets.Goals as goal
use Rattle.transport_run.proofs.run_packets.Goals.{in-Ok, in-Err, Joined-gathered}

pub returns-then-not-is_ruled : goal.returns-then-not-is_ruled
returns-then-not-is_ruled c =
    broken-leaves c.args.c c.args.pid c.args.packets.now c.args.state.now c.args.out.now c.args.image.now
    (sym c.is_ruled.ensures ∙ c.if-not-is_ruled.true) _ refl

-- as many bytes as were handed on; none on a refusal
told : (c : Joined-gathered) → (c.match-gathered.size ≡ size_in c.match-gathered.gathered) × (c.match-gathered.gathered ≡ c.gather-gathered.result)
told c = elim c.match-gathered.branch [
  | in-Ok w ↦ (w.size-is ∙ ap size_in (sym w.gathered-is), w.gathered-is ∙ sym w.in-Ok.is)
  | in-Err w ↦ (w.size-is ∙ ap size_in (sym (w.gathered-is ∙ w.in-Err.is)), w.gathered-is)
]

-- what was handed on lies in the buffer
inside : (c : Joined-gathered) → c.match-gathered.size ≤ length c.gather-gathered.new.out
inside c =
    let a = c.args in
    let e = (told c).0 ∙ ap size_in ((told c).1 ∙ c.gather-gathered.ensures.0) ∙ size-told a.pid a.state.now (length a.out.now) a.packets.now in
    let d = ap (λ (o : List ℕ). length o) c.gather-gathered.ensures.2 in
    let r = gather-room a.pid a.state.now (length a.out.now) a.packets.now in
    let l = gather-long a.pid a.state.now a.packets.now a.out.now in
    omega (arith, e, d, r, l)

pub slice_bounds-run-end : goal.slice_bounds-run-end
slice_bounds-run-end c = inside c

pub slice_bounds-run-end-2 : goal.slice_bounds-run-end-2
slice_bounds-run-end-2 c = sym (length-take-le _ _ (inside ((goal.at.slice_bounds-run-end-2 c).Joined-gathered)))

pub returns : goal.returns
returns c =
    let t = told ((goal.at.returns c).Joined-gathered) in
    heard-leaves c.args.c c.args.pid c.args.packets.now c.args.state.now c.args.out.now c.args.image.now
    (sym c.is_ruled.ensures ∙ c.if-not-is_ruled.false) _ _ t.0 _ _ _ _ (t.1 ∙ c.gather-gathered.ensures.0) c.gather-gathered.ensures.1 c.gather-gathered.ensures.2
    c.run-ran.ensures.0 c.run-ran.ensures.1
