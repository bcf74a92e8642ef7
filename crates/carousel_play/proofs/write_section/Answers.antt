-- `carousel_play::write_section` meets its contract: a refusal, the announcement at place 0, or a block.
use Prim.Native.Nat.{◌≤◌, ◌+◌, ℕ}
use mathlib.Core.Path.{◌≡◌, refl, sym, ap, ◌∙◌}
use mathlib.Core.List.{List}
use native.Mathlib.Omega.{arith}
use lib.ListN.{length}
use Rattle.std.proofs.Common.{Err, rules}
use Rattle.wire.proofs.Laws.Outcomes.{not_refused}
use Rattle.carousel_record.specs.Record.{bytes_of}
use Rattle.carousel_play.specs.Rotation.{blocks_to, section_at}
use Rattle.carousel_play.specs.Calls.{to_play, limit_refusal}
use Rattle.carousel_play.specs.Pieces.{laid_size, laid_over, refusal_before}
use Rattle.carousel_play.proofs.Laws.Places.{rises, block-place}
use Rattle.carousel_play.proofs.Laws.Refusals.{kept, held, refused-before, no_place_lem, laid}
use Rattle.carousel_play.proofs.write_section.Goals as goal
use Rattle.carousel_play.proofs.write_section.Goals.{In_ok-judge_before}

-- nothing is refused before the buffer is looked at
none : (c : In_ok-judge_before) → let a = c.args in refusal_before a.p (length a.image.now) ≡ 0
none c = not_refused _ tt _ (sym c.in_ok-judge_before.was ∙ c.judge_before.ensures)

holds : (c : In_ok-judge_before) → let a = c.args in (limit_refusal a.p ≡ 0) × (bytes_of (to_play a.p) ≤ length a.image.now)
holds c = held _ _ (none c)

pub returns-in_err-judge_before : goal.returns-in_err-judge_before
returns-in_err-judge_before c =
    let a = c.args in
    let r : c.from_residual.result ≡ Err c.in_err-judge_before.field-0.0 = search rules in
    let w = refused-before a.identifier a.p a.image.now a.place a.out.now _ (sym c.in_err-judge_before.was ∙ c.judge_before.ensures) in
    (r ∙ w.0, w.1)

pub write_announcement-requires : goal.write_announcement-requires
write_announcement-requires c = (kept _ (holds (goal.at.write_announcement-requires c).In_ok-judge_before).0).0

pub returns-then-place-eq0 : goal.returns-then-place-eq0
returns-then-place-eq0 c =
    let a = c.args in
    let s = section_at a.identifier (to_play a.p) a.image.now in
    let f = ap s (sym c.if-place-eq0.true) in
    let l = laid a.identifier a.p a.image.now a.place a.out.now (none (goal.at.returns-then-place-eq0 c).In_ok-judge_before) (omega (arith, c.if-place-eq0.true)) in (
      c.write_announcement.ensures.0 ∙ ap (λ (x : List ℕ). laid_size x (length a.out.now)) f ∙ l.0,
      c.write_announcement.ensures.1 ∙ ap (λ (x : List ℕ). laid_over x a.out.now) f ∙ l.1,
    )

pub spot_at-requires : goal.spot_at-requires
spot_at-requires c = (kept _ (holds (goal.at.spot_at-requires c).In_ok-judge_before).0).0

pub returns-in_default : goal.returns-in_default
returns-in_default c =
    let a = c.args in
    let l = c.in_default.ensures.1 refl in
    no_place_lem a.identifier a.p a.image.now a.place a.out.now (none (goal.at.returns-in_default c).In_ok-judge_before) (omega (arith, l, c.if-place-eq0.false))

pub write_block-requires : goal.write_block-requires
write_block-requires c =
    let h = holds (goal.at.write_block-requires c).In_ok-judge_before in
    let k = kept _ h.0 in
    (k.0, k.1, h.1, c.in-Some.ensures.0.0)

pub returns : goal.returns
returns c =
    let a = c.args in
    let s = c.in-Some.spot in
    let y = to_play a.p in
    let w = c.in-Some.ensures.0 in
    let e : 1 + (blocks_to y s.which + s.block) ≡ a.place = omega (arith, w.1, c.if-place-eq0.false) in
    let r = rises y s.which (length y.modules) w.0.0 in
    let f = sym (block-place y a.image.now a.identifier s.which s.block w.0.0 w.0.1) ∙ ap (section_at a.identifier y a.image.now) e in
    let l = laid a.identifier a.p a.image.now a.place a.out.now (none (goal.at.returns c).In_ok-judge_before) (omega (arith, w.0.1)) in (
      c.write_block.ensures.0 ∙ ap (λ (x : List ℕ). laid_size x (length a.out.now)) f ∙ l.0,
      c.write_block.ensures.1 ∙ ap (λ (x : List ℕ). laid_over x a.out.now) f ∙ l.1,
    )
