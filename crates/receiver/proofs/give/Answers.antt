-- `receiver::give` meets its contract: a table leaves record and image; everything else is a step of the carousel.
use Prim.Native.Nat.{ℕ}
use mathlib.Core.Path.{◌≡◌, refl, sym, ap, ◌∙◌}
use borrow.Author.Tests.{eq-eqb, ne_eqb}
use Rattle.carousel_step.specs.declared.Stepped.{Stepped}
use Rattle.receiver.specs.declared.Given.{Given}
use Rattle.receiver.specs.Run.{judged_fate, carousel_fate, given_of, image_given}
use Rattle.ait_read.specs.Acceptance.{table_judged_by}
use Rattle.receiver.proofs.Laws.Fates.{fate-judged}
use Rattle.receiver.proofs.give.Goals as goal
use Rattle.receiver.specs.Run.{Fate}

stepped : (f : Fate) (r t : Stepped) → f ≡ carousel_fate r.answer → r ≡ t
    → ◌≡◌ {A = Given} (record { fate = f; state = r.state }) (record { fate = carousel_fate t.answer; state = t.state })
stepped f r t e g = rw (e, g)

pub returns-then-table-eq-APPLICATION_TABLE : goal.returns-then-table-eq-APPLICATION_TABLE
unfolding given_of image_given
returns-then-table-eq-APPLICATION_TABLE c =
    let e = eq-eqb _ 0x74 (sym c.byte_at-table.ensures.0 ∙ c.if-table-eq-APPLICATION_TABLE.true) in
    let s = c.args.s.now in
    rw (e, c.table_fate.ensures ∙ ap (λ (g : ℕ). judged_fate (table_judged_by g s)) c.crc_of.ensures ∙ fate-judged s) (refl, refl)

pub returns : goal.returns
unfolding given_of image_given
returns c =
    let e = ne_eqb _ 0x74 (λ f. c.if-table-eq-APPLICATION_TABLE.false (c.byte_at-table.ensures.0 ∙ f)) in
    let p = c.step-st.ensures in
    rw e (stepped _ _ _ c.carousel_fate.ensures p.0, p.1)
