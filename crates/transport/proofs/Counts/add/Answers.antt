-- `transport::Counts::add` meets its contract: one counter has one more, of a break two, of another refusal none.
use mathlib.Core.Path.{◌≡◌, sym, ap, ◌∙◌}
use Rattle.std.proofs.Common.{Ok, Err}
use Rattle.transport.specs.declared.Answer.TheVariants as answer
use Rattle.transport.specs.Pieces.{counted_with}
use Rattle.transport.proofs.Laws.Calls.{counters, uncounted}
use Rattle.transport.proofs.Counts.add.Goals as goal

pub returns-in-Ok-Taken : goal.returns-in-Ok-Taken
returns-in-Ok-Taken c =
    let e : c.in-Ok-Taken.field-0 ≡ answer.Taken = rw c.in-Ok-Taken.is at c.in-Ok-Taken.field-0-is in
    counters _ (Ok answer.Taken) _ (c.in-Ok-Taken.is ∙ ap Ok e)

pub returns-in-Ok-Broken : goal.returns-in-Ok-Broken
returns-in-Ok-Broken c =
    let e : c.in-Ok-Broken.field-0 ≡ answer.Broken = rw c.in-Ok-Broken.is at c.in-Ok-Broken.field-0-is in
    counters _ (Ok answer.Broken) _ (c.in-Ok-Broken.is ∙ ap Ok e)

pub returns-in-Ok-Repeated : goal.returns-in-Ok-Repeated
returns-in-Ok-Repeated c =
    let e : c.in-Ok-Repeated.field-0 ≡ answer.Repeated = rw c.in-Ok-Repeated.is at c.in-Ok-Repeated.field-0-is in
    counters _ (Ok answer.Repeated) _ (c.in-Ok-Repeated.is ∙ ap Ok e)

pub returns-in-Err-eq40 : goal.returns-in-Err-eq40
returns-in-Err-eq40 c =
    let e : c.in-Err-eq40.field-0 ≡ 40 = rw c.in-Err-eq40.is at c.in-Err-eq40.field-0-test in
    counters _ (Err 40) _ (c.in-Err-eq40.is ∙ ap Err e)

pub returns-in-Err-eq41 : goal.returns-in-Err-eq41
returns-in-Err-eq41 c =
    let e : c.in-Err-eq41.field-0 ≡ 41 = rw c.in-Err-eq41.is at c.in-Err-eq41.field-0-test in
    counters _ (Err 41) _ (c.in-Err-eq41.is ∙ ap Err e)

pub returns-in-Err-eq42 : goal.returns-in-Err-eq42
returns-in-Err-eq42 c =
    let e : c.in-Err-eq42.field-0 ≡ 42 = rw c.in-Err-eq42.is at c.in-Err-eq42.field-0-test in
    counters _ (Err 42) _ (c.in-Err-eq42.is ∙ ap Err e)

pub returns-in-Err-eq43 : goal.returns-in-Err-eq43
returns-in-Err-eq43 c =
    let e : c.in-Err-eq43.field-0 ≡ 43 = rw c.in-Err-eq43.is at c.in-Err-eq43.field-0-test in
    counters _ (Err 43) _ (c.in-Err-eq43.is ∙ ap Err e)

pub returns-in-Err : goal.returns-in-Err
returns-in-Err c =
    let t = rw c.in-Err.is at c.in-Err.field-0-test in
    uncounted _ _ t.0.0.0.1 t.0.0.1 t.0.1 t.1 ∙ ap (counted_with _) (sym c.in-Err.is)
