-- `carousel_handout::check_handout` meets its contract: 1, 13, 15, 20, each after the one before it.
use Prim.Native.Nat.{ℕ, ◌≤◌, ◌<◌}
use mathlib.Core.Path.{◌≡◌, sym, ap, ◌∙◌}
use mathlib.Core.Bool.{true}
use native.Mathlib.Omega.{arith}
use lib.ListN.{length}
use Rattle.std.proofs.Common.{Ok}
use Rattle.carousel_messages.specs.Limits.{most_modules}
use Rattle.carousel_record.specs.Record.{announced_by, record_of, place_of, bytes_of, missing_of, ruled_of}
use Rattle.carousel_record.proofs.Laws.Rule.{ruled-count}
use Rattle.carousel_record.proofs.Laws.Says.{says-count}
use Rattle.carousel_handout.specs.declared.Lack.{Lack}
use Rattle.carousel_handout.specs.Calls.{lack_of}
use Rattle.carousel_messages.proofs.Laws.Limits.{found-has, found-past}
use Rattle.wire.specs.Outcomes.{answered}
use Rattle.carousel_handout.proofs.Laws.Calls.{out-1, out-13, out-15, out-20, out-0}
use Rattle.carousel_handout.proofs.check_handout.Goals as goal
use Rattle.carousel_handout.proofs.check_handout.Goals.{After-lack_of, Else-image-bytes_of, Else-not-is_ruled, In-Some, Start}

all-entries : (s : Start) → length s.args.c.modules ≡ most_modules
all-entries s = s.well_formed.0.1.1.1.1.1.0.1.0.1

ruled : (c : Else-not-is_ruled) → ruled_of c.args.c ≡ true
ruled c = sym c.is_ruled.ensures ∙ c.if-not-is_ruled.false

count : (c : Else-not-is_ruled) → length (announced_by c.args.c).modules ≡ c.args.c.count
count c = says-count c.args.c (all-entries (goal.at.Else-not-is_ruled c).Start) (ruled-count _ (ruled c))

found : (c : In-Some) → (c.in-Some.i ≡ place_of (announced_by c.args.c) c.args.number) × (place_of (announced_by c.args.c) c.args.number < length (announced_by c.args.c).modules)
found c = found-has _ _ _ (sym c.in-Some.is ∙ c.place_of.ensures)

room : (c : Else-image-bytes_of) → bytes_of (announced_by c.args.c) ≤ length c.args.image.now
room c = omega (arith, c.bytes_of.ensures, c.if-image-bytes_of.false)

-- what the module that was found lacks
lack : (c : After-lack_of) →
    c.lack_of.result.count ≡ (lack_of (missing_of (record_of c.args.c) (place_of (announced_by c.args.c) c.args.number))).count
lack c =
    ap (λ (l : Lack). l.count) c.lack_of.ensures ∙ ap (λ i. (lack_of (missing_of (record_of c.args.c) i)).count) (found (goal.at.After-lack_of c).In-Some).0

pub returns-then-not-is_ruled : goal.returns-then-not-is_ruled
returns-then-not-is_ruled c = ap (λ (n : ℕ). answered n (place_of (announced_by c.args.c) c.args.number)) (sym (out-1 c.args.c c.args.number c.args.image.now (sym c.is_ruled.ensures
    ∙ c.if-not-is_ruled.true)))

pub returns-in_default : goal.returns-in_default
returns-in_default c =
    ap (λ (n : ℕ). answered n (place_of (announced_by c.args.c) c.args.number)) (sym (out-13 c.args.c c.args.number c.args.image.now (ruled (goal.at.returns-in_default c).Else-not-is_ruled)
    (found-past _ _ (sym c.in_default.is ∙ c.place_of.ensures))))

pub returns-then-image-bytes_of : goal.returns-then-image-bytes_of
returns-then-image-bytes_of c =
    ap (λ (n : ℕ). answered n (place_of (announced_by c.args.c) c.args.number)) (sym (out-15 c.args.c c.args.number c.args.image.now (ruled
    (goal.at.returns-then-image-bytes_of c).Else-not-is_ruled) (found (goal.at.returns-then-image-bytes_of c).In-Some).1 (omega
    (arith, c.bytes_of.ensures, c.if-image-bytes_of.true))))

pub lack_of-requires : goal.lack_of-requires
lack_of-requires c =
    let f = found (goal.at.lack_of-requires c).In-Some in
    let n = count (goal.at.lack_of-requires c).Else-not-is_ruled in
    (ruled (goal.at.lack_of-requires c).Else-not-is_ruled, omega (arith, f.0, f.1))

pub returns-then-lack_of-ne0 : goal.returns-then-lack_of-ne0
returns-then-lack_of-ne0 c =
    ap (λ (n : ℕ). answered n (place_of (announced_by c.args.c) c.args.number)) (sym (out-20 c.args.c c.args.number c.args.image.now (ruled
    (goal.at.returns-then-lack_of-ne0 c).Else-not-is_ruled) (found (goal.at.returns-then-lack_of-ne0 c).In-Some).1 (room
    (goal.at.returns-then-lack_of-ne0 c).Else-image-bytes_of) (λ z. c.if-lack_of-ne0.true (lack (goal.at.returns-then-lack_of-ne0 c).After-lack_of ∙ z))))

pub returns : goal.returns
returns c =
    ap Ok (found (goal.at.returns c).In-Some).0
    ∙ ap (λ (n : ℕ). answered n (place_of (announced_by c.args.c) c.args.number)) (sym (out-0 c.args.c c.args.number c.args.image.now (ruled (goal.at.returns c).Else-not-is_ruled) (found
    (goal.at.returns c).In-Some).1 (room (goal.at.returns c).Else-image-bytes_of) (sym
    (lack (goal.at.returns c).After-lack_of) ∙ c.if-lack_of-ne0.false)))
