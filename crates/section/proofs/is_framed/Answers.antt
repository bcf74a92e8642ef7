-- `section::is_framed` meets its contract.
use native.Mathlib.Omega.{arith}
use mathlib.Core.Path.{sym}
use Rattle.section.proofs.Laws.Refusals.{frame-short, frame-long, frame-syntax, frame_right}
use Rattle.section.proofs.is_framed.Goals as goal

pub returns-then-length-lt9 : goal.returns-then-length-lt9
returns-then-length-lt9 c = let a = c.args in sym (frame-short a.rules a.s.now (omega arith))

pub returns-then-limit-length : goal.returns-then-limit-length
returns-then-limit-length c = let a = c.args in sym (frame-long a.rules a.s.now (omega arith))

pub returns-then-sixteen_at-eq0 : goal.returns-then-sixteen_at-eq0
returns-then-sixteen_at-eq0 c = let a = c.args in sym (frame-syntax a.rules a.s.now (omega arith))

pub returns : goal.returns
returns c = let a = c.args in sym (frame_right a.rules a.s.now (omega arith) (omega arith) (λ e. c.if-sixteen_at-eq0.false (omega arith)))
