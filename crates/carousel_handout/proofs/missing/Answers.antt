-- `carousel_handout::missing` meets its contract: 1, 13, and else what the module lacks.
use Prim.Native.Nat.{ℕ, ◌<◌}
use mathlib.Core.Path.{◌≡◌, sym, ap, ◌∙◌}
use mathlib.Core.Bool.{true}
use native.Mathlib.Omega.{arith}
use lib.ListN.{length}
use Rattle.carousel_messages.specs.Limits.{most_modules}
use Rattle.carousel_handout.specs.declared.Lack.{Lack}
use Rattle.carousel_record.specs.Record.{announced_by, record_of, place_of, missing_of, ruled_of}
use Rattle.carousel_record.specs.declared.Carousel.{Carousel}
use Rattle.std.proofs.Common.{Err}
use Rattle.carousel_messages.proofs.Laws.Limits.{found-has, found-past}
use Rattle.carousel_handout.specs.Calls.{Report, lack_of, missing_number, report_of, number_of_report}
use Rattle.carousel_record.proofs.Laws.Rule.{ruled-count}
use Rattle.carousel_record.proofs.Laws.Says.{says-count}
use Rattle.carousel_handout.proofs.Laws.Calls.{lack-whole, lack-some, report-1, report-13, report-is, report-number}
use Rattle.carousel_handout.proofs.missing.Goals as goal
use Rattle.carousel_handout.proofs.missing.Goals.{After-lack_of-lack, Else-not-is_ruled, In-Some, Start}

all-entries : (s : Start) → length s.args.c.modules ≡ most_modules
all-entries s = s.well_formed.0.1.1.1.1.1.0.1.0.1

ruled : (c : Else-not-is_ruled) → ruled_of c.args.c ≡ true
ruled c = sym c.is_ruled.ensures ∙ c.if-not-is_ruled.false

count : (c : Else-not-is_ruled) → length (announced_by c.args.c).modules ≡ c.args.c.count
count c = says-count c.args.c (all-entries (goal.at.Else-not-is_ruled c).Start) (ruled-count _ (ruled c))

found : (c : In-Some) → (c.in-Some.i ≡ place_of (announced_by c.args.c) c.args.number) × (place_of (announced_by c.args.c) c.args.number < length (announced_by c.args.c).modules)
found c = found-has _ _ _ (sym c.in-Some.is ∙ c.place_of.ensures)

-- what the module that was found lacks
lack : (c : After-lack_of-lack) → c.lack_of-lack.result ≡ lack_of (missing_of (record_of c.args.c) (place_of (announced_by c.args.c) c.args.number))
lack c =
    c.lack_of-lack.ensures ∙ ap (λ i. lack_of (missing_of (record_of c.args.c) i)) (found (goal.at.After-lack_of-lack c).In-Some).0

-- a report, with its number
numbered : (c : Carousel) (n : ℕ) (r : Report) → r ≡ report_of c n → (r ≡ report_of c n) × (number_of_report r ≡ missing_number c n)
numbered c n r e = (e, ap number_of_report e ∙ report-number c n)

pub returns-then-not-is_ruled : goal.returns-then-not-is_ruled
returns-then-not-is_ruled c = numbered _ _ _ (ap Err c.refusal.ensures ∙ sym (report-1 c.args.c c.args.number (sym c.is_ruled.ensures ∙ c.if-not-is_ruled.true)))

pub returns-in_default : goal.returns-in_default
returns-in_default c =
    numbered _ _ _ (ap Err c.refusal-in_default.ensures
    ∙ sym (report-13 c.args.c c.args.number (ruled (goal.at.returns-in_default c).Else-not-is_ruled) (found-past _ _ (sym c.in_default.is ∙ c.place_of.ensures))))

pub lack_of-lack-requires : goal.lack_of-lack-requires
lack_of-lack-requires c =
    let f = found (goal.at.lack_of-lack-requires c).In-Some in
    let n = count (goal.at.lack_of-lack-requires c).Else-not-is_ruled in
    (ruled (goal.at.lack_of-lack-requires c).Else-not-is_ruled, omega (arith, f.0, f.1))

pub returns-then-lack-eq0 : goal.returns-then-lack-eq0
returns-then-lack-eq0 c =
    numbered _ _ _ (sym (report-is c.args.c c.args.number (ruled (goal.at.returns-then-lack-eq0 c).Else-not-is_ruled) (found (goal.at.returns-then-lack-eq0 c).In-Some).1 ∙ lack-whole _ (sym
    (ap (λ (l : Lack). l.count) (lack (goal.at.returns-then-lack-eq0 c).After-lack_of-lack)) ∙ c.if-lack-eq0.true)))

pub returns : goal.returns
returns c =
    let o = report-is c.args.c c.args.number (ruled (goal.at.returns c).Else-not-is_ruled) (found (goal.at.returns c).In-Some).1 ∙ lack-some _ (λ z. c.if-lack-eq0.false
    (ap (λ (l : Lack). l.count) (lack (goal.at.returns c).After-lack_of-lack) ∙ z)) in
    numbered _ _ _ (rw (o, lack (goal.at.returns c).After-lack_of-lack))
