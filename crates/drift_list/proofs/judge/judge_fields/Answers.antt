-- `drift_list::judge::judge_fields` meets its contract: one law of Laws/Faults for each way.
use mathlib.Core.Path.{◌≡◌, sym, ap, ap₂, ◌∙◌}
use mathlib.Core.Bool.{true, ◌&&◌}
use native.Mathlib.Omega.{arith}
use lib.IntN.{ℤ}
use mir.Syntax.{w32}
use mir.Val.{to_z, of_z}
use mir.ValLaws.{to_z-of_z}
use Rattle.wire.specs.Outcomes.{passed}
use Rattle.wire.specs.Signed.{between, is_zero}
use Rattle.drift_list.specs.Values.{state_fault, meets35, west, east, south, north}
use Rattle.drift_list.proofs.Laws.Faults.{is31-longitude, is31-latitude, is32, is33, is34, is35, is0}
use Rattle.drift_list.proofs.judge.judge_fields.Goals as goal
use Rattle.drift_list.proofs.judge.judge_fields.Goals.{After-state_fault, After-struct_told-2-1, After-within, After-within-2, Else-not-within, Else-not-within-2}

-- the two coordinates, as copied out of the record
x-is : (c : After-struct_told-2-1) → to_z w32 (of_z w32 c.args.f.longitude) ≡ c.args.f.longitude
x-is c = to_z-of_z w32 c.args.f.longitude (record { sfits = c.struct_told-1.given.1.1.0.1 })

y-is : (c : After-struct_told-2-1) → to_z w32 (of_z w32 c.args.f.latitude) ≡ c.args.f.latitude
y-is c = to_z-of_z w32 c.args.f.latitude (record { sfits = c.struct_told-1.given.1.1.1.0.1 })

x-tested : (c : After-within) → c.within.result ≡ between west east c.args.f.longitude
x-tested c = c.within.ensures ∙ ap (between west east) (x-is (goal.at.After-within c).After-struct_told-2-1)

y-tested : (c : After-within-2) → c.within-2.result ≡ between south north c.args.f.latitude
y-tested c = c.within-2.ensures ∙ ap (between south north) (y-is (goal.at.After-within-2 c).After-struct_told-2-1)

x-in : (c : Else-not-within) → between west east c.args.f.longitude ≡ true
x-in c = sym (x-tested (goal.at.Else-not-within c).After-within) ∙ c.if-not-within.false

y-in : (c : Else-not-within-2) → between south north c.args.f.latitude ≡ true
y-in c = sym (y-tested (goal.at.Else-not-within-2 c).After-within-2) ∙ c.if-not-within-2.false

state-tested : (c : After-state_fault) → c.state_fault.result ≡ meets35 c.args.f
state-tested c =
    let f = c.args.f in
    let p = (goal.at.After-state_fault c).After-struct_told-2-1 in
    c.state_fault.ensures ∙ ap (state_fault f.state) (c.at_zero.ensures ∙ ap₂ (λ (x y : ℤ). is_zero x && is_zero y) (x-is p) (y-is p))

pub returns-then-not-within : goal.returns-then-not-within
returns-then-not-within c =
    ap passed (is31-longitude _ _ _ (sym (x-tested (goal.at.returns-then-not-within c).After-within) ∙ c.if-not-within.true))

pub returns-then-not-within-2 : goal.returns-then-not-within-2
returns-then-not-within-2 c =
    ap passed (is31-latitude _ _ _ (sym (y-tested (goal.at.returns-then-not-within-2 c).After-within-2) ∙ c.if-not-within-2.true))

pub returns-then-f-ge10080 : goal.returns-then-f-ge10080
returns-then-f-ge10080 c =
    ap passed (is32 _ _ _ (x-in (goal.at.returns-then-f-ge10080 c).Else-not-within) (y-in (goal.at.returns-then-f-ge10080 c).Else-not-within-2) c.if-f-ge10080.true)

pub returns-then-f-before : goal.returns-then-f-before
returns-then-f-before c =
    ap passed (is33 _ _ _ (x-in ((goal.at.returns-then-f-before c).Else-not-within)) (y-in (goal.at.returns-then-f-before c).Else-not-within-2) (omega arith) c.if-f-before.true)

pub returns-then-spare-gt0 : goal.returns-then-spare-gt0
returns-then-spare-gt0 c =
    ap passed (is34 _ _ _ (x-in (goal.at.returns-then-spare-gt0 c).Else-not-within) (y-in (goal.at.returns-then-spare-gt0 c).Else-not-within-2) (omega arith) c.if-f-before.false c.if-spare-gt0.true)

pub returns-then-state_fault : goal.returns-then-state_fault
returns-then-state_fault c =
    ap passed (is35 _ _ _ (x-in (goal.at.returns-then-state_fault c).Else-not-within) (y-in (goal.at.returns-then-state_fault c).Else-not-within-2) (omega arith)
    c.if-f-before.false c.if-spare-gt0.false (sym (state-tested (goal.at.returns-then-state_fault c).After-state_fault) ∙ c.if-state_fault.true))

pub returns : goal.returns
returns c =
    ap passed (is0 _ _ _ (x-in (goal.at.returns c).Else-not-within) (y-in (goal.at.returns c).Else-not-within-2) (omega arith) c.if-f-before.false c.if-spare-gt0.false (sym
    (state-tested (goal.at.returns c).After-state_fault) ∙ c.if-state_fault.false))
