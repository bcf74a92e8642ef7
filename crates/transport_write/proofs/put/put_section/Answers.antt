-- `transport_write::put::put_section` meets its contract.
use Prim.Native.Nat.{ℕ, ◌+◌, ◌≤◌}
use mathlib.Core.Path.{◌≡◌, sym, ap, subst, ◌∙◌}
use mathlib.Core.List.{List, ◌∷◌}
use native.Mathlib.Omega.{arith}
use lib.ListN.{length, take}
use Rattle.wire.specs.Items.{joined}
use Rattle.wire.specs.Pieces.{laid_first}
use Rattle.transport_write.proofs.Laws.Packets.{unit_made, section-is}
use Rattle.transport_write.proofs.put.put_section.Goals as goal
use Rattle.transport_write.proofs.put.put_section.Goals.{After-unit-2-1}

-- the pointer and the section
made : (c : After-unit-2-1) → take (1 + length c.args.s.now) c.copy_at.new.out ≡ 0 ∷ c.args.s.now
made c =
    unit_made 4099 c.args.s.now c.requires.0 _ c.copy_at.ensures

pub slice_bounds-put_unit-end : goal.slice_bounds-put_unit-end
slice_bounds-put_unit-end c = sym (ap (λ (l : List ℕ). length l) (made (goal.at.slice_bounds-put_unit-end c).After-unit-2-1) ∙ omega arith)

pub put_unit-requires : goal.put_unit-requires
put_unit-requires c =
    let a = c.args in
    let e = section-is a.pid a.counter a.s.now _ (made (goal.at.put_unit-requires c).After-unit-2-1) in
    (c.requires.1, c.requires.2, subst (λ (ps : List (List ℕ)). length (joined ps) ≤ length a.out.now) (sym e) c.requires.3)

pub returns : goal.returns
returns c =
    let a = c.args in
    let e = section-is a.pid a.counter a.s.now _ (made (goal.at.returns c).After-unit-2-1) in
    let f = c.put_unit.ensures in
    (f.0 ∙ ap (λ (ps : List (List ℕ)). length ps) e, f.1 ∙ ap (λ (ps : List (List ℕ)). laid_first (joined ps) a.out.now) e)
