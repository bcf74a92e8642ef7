-- `carousel_handout::handout_place` meets its contract: what is handed out lies in the image, at its start in the record.
use Prim.Native.Nat.{ℕ, ◌+◌, ◌≤◌, ◌<◌}
use mathlib.Core.Path.{◌≡◌, sym, ap, ◌∙◌}
use mathlib.Core.Bool.{true}
use native.Mathlib.Omega.{arith}
use lib.ListN.{length, get_or}
use Rattle.std.proofs.Common.{Ok, Err}
use Rattle.wire.specs.Outcomes.{answered}
use Rattle.wire.proofs.Laws.Outcomes.{refused_by_lem, not_refused}
use Rattle.section.specs.Answer.{refused}
use Rattle.carousel_messages.specs.Limits.{most_modules}
use Rattle.carousel_messages.specs.declared.Listed.{Listed}
use Rattle.carousel_record.specs.declared.Module.{Module}
use Rattle.carousel_record.specs.Record.{announced_by, record_of, starts_by, module_at, place_of, bytes_of, module_part, unused, ruled_of}
use Rattle.carousel_handout.specs.Calls.{handout_number}
use Rattle.carousel_record.proofs.Laws.Rule.{kept, ruled-says, ruled-count}
use Rattle.carousel_record.proofs.Laws.Says.{says-count, says_module, says-start}
use Rattle.carousel_handout.proofs.Laws.Calls.{answered-has, given_out, out_none, out_part, place_none, place_part}
use Rattle.carousel_record.proofs.Laws.Where.{modules-inside}
use Rattle.carousel_handout.proofs.handout_place.Goals as goal
use Rattle.carousel_handout.proofs.handout_place.Goals.{In-Ok, Start}

all-entries : (s : Start) → length s.args.c.modules ≡ most_modules
all-entries s = s.well_formed.0.1.1.1.1.1.0.1.0.1

-- what the calls answered
taken : (c : In-Ok) → handout_number c.args.c c.args.image.now c.args.number ≡ 0
taken c = not_refused _ _ _ (sym c.in-Ok.is ∙ c.check_handout.ensures)

place-is : (c : In-Ok) → c.in-Ok.place ≡ place_of (announced_by c.args.c) c.args.number
place-is c = answered-has _ _ _ (sym c.in-Ok.is ∙ c.check_handout.ensures)

given : (c : In-Ok) →
    (ruled_of c.args.c ≡ true)
    × (place_of (announced_by c.args.c) c.args.number < length (announced_by c.args.c).modules) × (bytes_of (announced_by c.args.c) ≤ length c.args.image.now)
given c = given_out c.args.c c.args.number c.args.image.now (taken c)

few : (c : In-Ok) → c.args.c.count ≤ most_modules
few c = ruled-count c.args.c (given c).0

found : (c : In-Ok) → c.in-Ok.place < c.args.c.count
found c =
    let n = says-count c.args.c (all-entries (goal.at.In-Ok c).Start) (few c) in
    omega (arith, place-is c, (given c).1)

-- the entry that was found
abbrev entry : In-Ok → Module
entry c = get_or c.args.c.modules c.in-Ok.place unused

size_of_lem : (c : In-Ok) → (module_at (announced_by c.args.c) (place_of (announced_by c.args.c) c.args.number)).size ≡ (entry c).size
size_of_lem c =
    ap (λ i. (module_at (announced_by c.args.c) i).size) (sym (place-is c))
    ∙ ap (λ (m : Listed). m.size) (says_module c.args.c c.in-Ok.place (found c))

start_of : (c : In-Ok) → get_or (starts_by c.args.c) (place_of (announced_by c.args.c) c.args.number) 0 ≡ (entry c).start
start_of c =
    ap (λ i. get_or (starts_by c.args.c) i 0) (sym (place-is c)) ∙ says-start c.args.c c.in-Ok.place (found c)

inside : (c : In-Ok) → (entry c).start + (entry c).size ≤ length c.args.image.now
inside c =
    let g = given c in
    let u = g.1 in
    let r = g.2 in
    let k = kept (record_of c.args.c) (omega arith) (ruled-says c.args.c g.0) in
    let i = modules-inside (record_of c.args.c) k _ u in
    let z = size_of_lem c in
    let a = start_of c in
    omega arith

pub returns-in-Err : goal.returns-in-Err
returns-in-Err c =
    let n = refused_by_lem _ _ _ (sym c.in-Err.is ∙ c.check_handout.ensures) in
    (ap Err c.refusal.ensures ∙ ap (λ (n : ℕ). Err (refused n)) n.0 ∙ sym (place_none c.args.c c.args.number c.args.image.now n.1), tt, sym (out_none c.args.c c.args.number c.args.image.now n.1))

pub offset_bounds-ms-place : goal.offset_bounds-ms-place
offset_bounds-ms-place c = let n = few (goal.at.offset_bounds-ms-place c).In-Ok in let f = found (goal.at.offset_bounds-ms-place c).In-Ok in omega arith

pub bounds-ms-place : goal.bounds-ms-place
bounds-ms-place c = let n = few (goal.at.bounds-ms-place c).In-Ok in let f = found (goal.at.bounds-ms-place c).In-Ok in omega arith

pub returns-in-Ok : goal.returns-in-Ok
unfolding module_part
returns-in-Ok c =
    let k = (goal.at.returns-in-Ok c).In-Ok in
    let o = out_part c.args.c c.args.number c.args.image.now (taken k) in
    let l = place_part c.args.c c.args.number c.args.image.now (taken k) in (
      rw (l, size_of_lem k, start_of k),
      inside k,
      rw (o, size_of_lem k, start_of k),
    )
