-- `ait_numbers::no_place` meets its contract: the section's own refusal, or 19.
use mathlib.Core.Path.{◌≡◌, refl, sym, ◌∙◌}
use Rattle.std.proofs.Common.{rules, Err}
use Rattle.ait_numbers.proofs.no_place.Goals as goal

pub returns-in_err-read : goal.returns-in_err-read
returns-in_err-read c =
    let r : c.from_residual.result ≡ Err c.in_err-read.field-0.0 = search rules in
    rw (sym c.read.ensures.0 ∙ c.in_err-read.was) r

pub returns : goal.returns
returns c = rw (sym c.read.ensures.0 ∙ c.in_ok-read.was) refl
