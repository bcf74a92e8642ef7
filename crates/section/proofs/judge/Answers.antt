-- `section::judge` meets its contract: at each `return` the tests that led there say which test of the paper's table holds, and that no lower one does.
use mathlib.Core.Bool.{not}
use mathlib.Core.Path.{ap}
use native.Mathlib.Omega.{arith}
use Prim.Native.Nat.{◌≤◌}
use lib.ListN.{length}
use mathlib.Core.Path.{◌≡◌, sym, ◌∙◌}
use mathlib.Core.Bool.{false}
use Rattle.wire.proofs.Laws.Fields.{masked_low}
use Rattle.section.specs.Refusals.{meets2, meets3, misframed, meets4}
use Rattle.section.proofs.Laws.Refusals.{short2, uneven2, past2, other3, past3, framed_has, frame4, above4, past4, bad5, past5, next6, past6, is2, is3, is4, is5, is6, is0}
use Rattle.wire.specs.Outcomes.{passed}
use Rattle.section.proofs.judge.Goals as goal
use Rattle.section.proofs.judge.Goals.{Else-not-has_table, Else-not-is_framed, Else-s, Else-s-length}

-- What the tests passed so far say, at the place after each.
at2 : (c : Else-s-length) → meets2 c.args.s.now ≡ false
at2 c = past2 _ (omega arith) (omega arith)

at3 : (c : Else-not-has_table) → meets3 c.args.rules c.args.s.now ≡ false
at3 c = past3 _ _ (sym c.has_table.ensures ∙ c.if-not-has_table.false)

at_f : (c : Else-not-is_framed) → misframed c.args.rules c.args.s.now ≡ false
at_f c = sym c.is_framed.ensures ∙ (ap not c.if-not-is_framed.false)

at4 : (c : Else-s) → meets4 c.args.rules c.args.s.now ≡ false
at4 c = past4 _ _ (at_f (goal.at.Else-s c).Else-not-is_framed) (omega arith)

-- the header is there
whole : (c : Else-not-is_framed) → 12 ≤ length c.args.s.now
whole c = let a = c.args in let f = framed_has a.rules a.s.now (at_f c) in omega (arith, f.0)

pub returns-then-s-lt3 : goal.returns-then-s-lt3
returns-then-s-lt3 c = ap passed (is2 _ _ _ (short2 _ c.if-s-lt3.true))

pub returns-then-s-length : goal.returns-then-s-length
returns-then-s-length c = ap passed (is2 _ _ _ (uneven2 _ (omega arith) (λ e. omega (arith, c.if-s-length.true))))

pub returns-then-not-has_table : goal.returns-then-not-has_table
returns-then-not-has_table c = ap passed (is3 _ _ _ (at2 (goal.at.returns-then-not-has_table c).Else-s-length) (other3 _ _ (sym c.has_table.ensures ∙ c.if-not-has_table.true)))

pub returns-then-not-is_framed : goal.returns-then-not-is_framed
returns-then-not-is_framed c = ap passed (is4 _ _ _ (at2 (goal.at.returns-then-not-is_framed c).Else-s-length) (at3 (goal.at.returns-then-not-is_framed c).Else-not-has_table) (frame4 _ _
    (sym c.is_framed.ensures ∙ (ap not c.if-not-is_framed.true))))

pub bounds-s-7 : goal.bounds-s-7
bounds-s-7 c = omega (arith, whole (goal.at.bounds-s-7 c).Else-not-is_framed)

pub bounds-s-6 : goal.bounds-s-6
bounds-s-6 c = omega (arith, whole (goal.at.bounds-s-6 c).Else-not-is_framed)

pub returns-then-s : goal.returns-then-s
returns-then-s c = ap passed (is4 _ _ _ (at2 (goal.at.returns-then-s c).Else-s-length) (at3 (goal.at.returns-then-s c).Else-not-has_table)
    (above4 _ _ (at_f (goal.at.returns-then-s c).Else-not-is_framed)
    (omega arith)))

pub returns-then-register-ne0 : goal.returns-then-register-ne0
returns-then-register-ne0 c = ap passed (is5 _ _ _ (at2 (goal.at.returns-then-register-ne0 c).Else-s-length) (at3 (goal.at.returns-then-register-ne0 c).Else-not-has_table) (at4
    (goal.at.returns-then-register-ne0 c).Else-s) (bad5 _ (λ e. omega (arith, c.if-register-ne0.true))))

pub bounds-s-5 : goal.bounds-s-5
bounds-s-5 c = omega (arith, whole ((goal.at.bounds-s-5 c).Else-not-is_framed))

pub returns-then-s-eq0 : goal.returns-then-s-eq0
returns-then-s-eq0 c = ap passed (is6 _ _ _ (at2 (goal.at.returns-then-s-eq0 c).Else-s-length) (at3 (goal.at.returns-then-s-eq0 c).Else-not-has_table) (at4 (goal.at.returns-then-s-eq0 c).Else-s)
    (past5 _
    (omega arith)) (next6 _ (sym (masked_low 1 _) ∙ c.if-s-eq0.true)))

pub returns : goal.returns
returns c = ap passed (is0 _ _ _ (at2 (goal.at.returns c).Else-s-length) (at3 (goal.at.returns c).Else-not-has_table) (at4 (goal.at.returns c).Else-s) (past5 _ (omega arith)) (past6 _
    (λ e. c.if-s-eq0.false (masked_low 1 _ ∙ e))))
