-- THE TEXT IS NEVER CUT: of an image of at most 65,536 bytes it has at most 409,700, and a writer who lends so many gets it whole.
use Prim.Native.Nat.{ℕ, zero, suc, ◌+◌, ◌*◌, ◌/◌, ◌%◌, ◌^◌, ◌≤◌, ◌<◌}
use mathlib.Core.Path.{◌≡◌, refl, ap₂, ◌∙◌}
use mathlib.Core.Bool.{Bool, true, false, cond}
use mathlib.Core.List.{List, [], ◌∷◌, ◌++◌}
use native.Mathlib.Omega.{arith}
use lib.Dec.{eqb, ltb, leb→le}
use lib.IntN.{ℤ, pos, negsuc, nat_abs}
use lib.ListN.{length, take, drop, get_or, length-append, length-take, length-drop}
use lib.Seq.{sets}
use borrow.Author.Tests.{eqb-true}
use Rattle.wire.specs.Signed.{Between}
use Rattle.text.specs.Text.{codes, reached, digit, digits_in, decimal}
use Rattle.text.proofs.Meaning.{decimal-short, whole}
use Rattle.carousel_record.specs.declared.Carousel.{Carousel}
use Rattle.carousel_record.specs.Record.{Record, record_of, module_at, module_part, place_of, announced_by, ruled_of}
use Rattle.carousel_record.specs.Changes.{empty_record}
use Rattle.carousel_step.specs.Step.{image_of}
use Rattle.carousel_step.proofs.Steps.{image_length}
use Rattle.carousel_handout.specs.Calls.{handout_number, handed_out, report_of}
use Rattle.section.specs.Header.{application_table}
use Rattle.wire.specs.Fields.{byte_at}
use Rattle.section.specs.Whole.{whole_at}
use Rattle.receiver.specs.Run.{given_of, image_given, halted, run_after, stop_at, RunOutcome, runs, run_of}
use Rattle.receiver.specs.declared.Stop.TheVariants as stop
use Rattle.drift_list.specs.declared.Fields.{Fields}
use Rattle.drift_list.specs.declared.Fix.{Fix}
use Rattle.drift_list.specs.declared.State.{State}
use Rattle.drift_list.specs.declared.State.TheVariants as state
use Rattle.drift_list.specs.Values.{GoodFix, fix_of}
use Rattle.drift_list.specs.Reading.{GoodList, issue_of, count_of, begins, fix_at, read_refusal}
use Rattle.drift_list.proofs.Laws.Records.{fields_fit}
use Rattle.drift_list.proofs.Exact.{accepted-exactly}
use Rattle.drift_report.specs.Lines.{state_name, signed_decimal, padded, angle, side_of, place, position, week_time, fix_line, fix_lines, list_header, list_text}
use Rattle.drift_report.specs.Page.{lack_text, refused_text, module_text, page_budget, page_text}
use Rattle.drift_report.proofs.Meaning.{padded_length}
use Rattle.std.proofs.Common.{Ok, Err, Some, None}
use Rattle.carousel_handout.specs.Calls.{Report}

-- a text has at most n bytes; two texts
pub record Most (a : List ℕ) (n : ℕ) : Type 0 where
  pub most : length a ≤ n

exact : (a : List ℕ) → Most a (length a)
exact a = record { most = omega arith }

and : {a b : List ℕ} {n m : ℕ} → Most a n → Most b m → Most (a ++ b) (n + m)
and {a} {b} {n} {m} p q = let l = length-append a b in let x = p.most in let y = q.most in record { most = omega arith }

wider : {a : List ℕ} {n : ℕ} (m : ℕ) → n ≤ m → Most a n → Most a m
wider m h p = let x = p.most in record { most = omega arith }

-- NUMBERS: of k + 1 digits, with a sign, and any at all
short : (k n : ℕ) → n < 10 ^ suc k → Most (decimal n) (suc k)
short k n h = record { most = decimal-short k n h }

signed : (k : ℕ) (z : ℤ) → nat_abs z < 10 ^ suc k → Most (signed_decimal z) (1 + suc k)
unfolding signed_decimal
signed k (pos n) h = wider (1 + suc k) (omega arith) (short k n h)
signed k (negsuc n) h = and (exact (codes "-")) (short k (suc n) h)

digits-most : (m n : ℕ) → length (digits_in m n) ≤ m
unfolding digits_in
digits-most zero n = omega arith
digits-most (suc m) n = go (ltb n 10) (digits-most m (n / 10))
  where
    go : (t : Bool) → length (digits_in m (n / 10)) ≤ m → length (cond t (digit n ∷ []) (digits_in m (n / 10) ++ digit (n % 10) ∷ [])) ≤ suc m
    go true r = omega arith
    go false r = let l = length-append (digits_in m (n / 10)) (digit (n % 10) ∷ []) in omega arith

any : (n : ℕ) → Most (decimal n) 20
any n = record { most = digits-most 20 n }

digits : (w n : ℕ) → Most (padded w n) w
digits w n = let e = padded_length w n in record { most = omega arith }

range_abs : (a b m : ℕ) (z : ℤ) → suc a ≤ m → b ≤ m → Between (negsuc a) (pos b) z → nat_abs z ≤ m
range_abs a b m (pos n) p q r = let l = leb→le n b r.1.le in omega arith
range_abs a b m (negsuc n) p q r = let l = leb→le n a r.0.le in omega arith

-- A LINE: buoy 7, state 4, longitude 10, latitude 9, minute 5, position 26, time 7, six commas and a line feed
state-most : (s : State) → Most (state_name s) 4
unfolding state_name
state-most state.None = record { most = omega arith }
state-most state.Fix = record { most = omega arith }
state-most state.LastKnown = record { most = omega arith }

angle-most : (w a : ℕ) → Most (angle w a) (w + 1 + 2 + 1 + 4)
angle-most w a = and (and (and (and (digits w (a / 600_000)) (exact (codes " "))) (digits 2 (a % 600_000 / 10_000))) (exact (codes "."))) (digits 4 (a % 10_000))

side-most : (a b : List ℕ) (n : ℕ) (z : ℤ) → Most a n → Most b n → Most (side_of a b z) n
unfolding side_of
side-most a b n (pos k) p q = p
side-most a b n (negsuc k) p q = q

place-most : (x y : ℤ) → Most (place x y) 26
place-most x y =
    let north = side-most (codes " N") (codes " S") 2 y (exact (codes " N")) (exact (codes " S")) in
    let east = side-most (codes " E") (codes " W") 2 x (exact (codes " E")) (exact (codes " W")) in
    and (and (and (and (angle-most 2 (nat_abs y)) north) (exact (codes " "))) (angle-most 3 (nat_abs x))) east

position-most : (s : State) (x y : ℤ) → Most (position s x y) 26
unfolding position
position-most state.None x y = record { most = omega arith }
position-most state.Fix x y = place-most x y
position-most state.LastKnown x y = place-most x y

time-most : (m : ℕ) → m < 10_080 → Most (week_time m) 7
time-most m h = and (and (and (and (short 0 (m / 1_440) (omega arith)) (exact (codes " "))) (digits 2 (m % 1_440 / 60))) (exact (codes ":"))) (digits 2 (m % 60))

line-most : (f : Fields) → f.buoy < 2 ^ 20 → GoodFix f → Most (fix_line (fix_of f)) 75
unfolding fix_line fix_of
line-most f b g =
    let comma = exact (codes ",") in
    let x = range_abs 107_999_998 108_000_000 108_000_000 f.longitude (omega arith) (omega arith) g.longitude in
    let y = range_abs 53_999_999 54_000_000 54_000_000 f.latitude (omega arith) (omega arith) g.latitude in
    let m = g.minute in
    let s = (fix_of f).state in
    let buoy = and (short 6 f.buoy (omega arith)) comma in
    let named = and (and buoy (state-most s)) comma in
    let east = and (and named (signed 8 f.longitude (omega arith))) comma in
    let north = and (and east (signed 7 f.latitude (omega arith))) comma in
    let minute = and (and north (short 4 f.minute (omega arith))) comma in
    let placed = and (and minute (position-most s f.longitude f.latitude)) comma in
    and (and placed (time-most f.minute m)) (exact (codes "\n"))

-- A LIST: 75 bytes for each of at most 5,461 records
lines-most : (n k : ℕ) (f : ℕ → Fix) → ((j : ℕ) → j < k + n → Most (fix_line (f j)) 75) → Most (fix_lines n k f) (75 * n)
unfolding fix_lines
lines-most zero k f h = record { most = omega arith }
lines-most (suc n) k f h =
    let r = lines-most n (suc k) f (λ j l. h j (omega arith)) in
    wider (75 * suc n) (omega arith) (and (h k (omega arith)) r)

list-most : (s : List ℕ) → length s ≤ 65_536 → Most (list_text s) 409_700
unfolding list_text
list-most s h = go (eqb (read_refusal s) 0) refl
  where
    read : GoodList s → Most (codes "issue," ++ decimal (issue_of s) ++ codes "\n" ++ list_header ++ fix_lines (count_of s) 0 (λ k. fix_of (fix_at s k))) 409_700
    read g =
        let x = g.exact in
        let ls = lines-most (count_of s) 0 (λ k. fix_of (fix_at s k)) (λ j l. line-most (fix_at s j) (fields_fit s (begins j)).buoy (g.good j (omega arith))) in
        wider 409_700 (omega arith) (and (and (and (and (exact (codes "issue,")) (any (issue_of s))) (exact (codes "\n"))) (exact list_header)) ls)

    go : (t : Bool) → eqb (read_refusal s) 0 ≡ t
        → Most (cond t (codes "issue," ++ decimal (issue_of s) ++ codes "\n" ++ list_header ++ fix_lines (count_of s) 0 (λ k. fix_of (fix_at s k)))
        (codes "list," ++ decimal (read_refusal s) ++ codes "\n")) 409_700
    go true t = read ((accepted-exactly s).0 (eqb-true _ _ t))
    go false t = wider 409_700 (omega arith) (and (and (exact (codes "list,")) (any (read_refusal s))) (exact (codes "\n")))

-- WHY A MODULE IS NOT HANDED OUT
lack-most : (r : Report) → Most (lack_text r) 42
unfolding lack_text
lack-most (Ok (Some l)) = and (and (and (exact (codes ",")) (any l.count)) (exact (codes ","))) (any l.lowest)
lack-most (Ok None) = record { most = omega arith }
lack-most (Err r) = record { most = omega arith }

refused-most : (c : Carousel) (number n : ℕ) → Most (refused_text c number n) 71
unfolding refused_text
refused-most c number n = and (and (and (exact (codes "handout,")) (any n)) (go (eqb n 20))) (exact (codes "\n"))
  where
    go : (t : Bool) → Most (cond t (lack_text (report_of c number)) []) 42
    go true = lack-most (report_of c number)
    go false = record { most = omega arith }

-- a module is a part of the image
part-most : (image : List ℕ) (n i : ℕ) → length (take n (drop i image)) ≤ length image
part-most image n i = let a = length-take n (drop i image) in let b = length-drop i image in omega arith

module_part-most : (r : Record) (image : List ℕ) (i : ℕ) → length (module_part r image i) ≤ length image
unfolding module_part
module_part-most r image i = part-most image (module_at r.announced i).size (get_or r.starts i 0)

handed-most : (c : Carousel) (image : List ℕ) (number : ℕ) → length (handed_out c image number) ≤ length image
unfolding handed_out
handed-most c image number = go (eqb (handout_number c image number) 0) (module_part-most (record_of c) image (place_of (announced_by c) number))
  where
    go : (t : Bool) → length (module_part (record_of c) image (place_of (announced_by c) number)) ≤ length image
        → length (cond t (module_part (record_of c) image (place_of (announced_by c) number)) []) ≤ length image
    go true l = l
    go false l = omega arith

module-most : (c : Carousel) (image : List ℕ) (number : ℕ) → length image ≤ 65_536 → Most (module_text c image number) 409_700
unfolding module_text
module-most c image number h = go (eqb (handout_number c image number) 0)
  where
    go : (t : Bool) → Most (cond t (list_text (handed_out c image number)) (refused_text c number (handout_number c image number))) 409_700
    go true = let l = handed-most c image number in list-most (handed_out c image number) (omega arith)
    go false = wider 409_700 (omega arith) (refused-most c number (handout_number c image number))

-- A RUN LEAVES THE IMAGE AS LONG AS IT WAS
given_length : (c : Carousel) (s image : List ℕ) → length (image_given c s image) ≡ length image
unfolding image_given
given_length c s image = go (eqb (byte_at s 0) application_table)
  where
    go : (t : Bool) → length (cond t image (image_of c s image)) ≡ length image
    go true = refl
    go false = image_length c s image

runs_length : (n : ℕ) (c : Carousel) (s image : List ℕ) → length (runs n c s image).image ≡ length image
unfolding runs
runs_length zero c s image = refl
runs_length (suc n) c s image =
    let t = take (whole_at s) s in
    go (eqb (whole_at s) 0) (runs n (given_of c t image).state (drop (whole_at s) s) (image_given c t image))
    (runs_length n (given_of c t image).state (drop (whole_at s) s) (image_given c t image) ∙ given_length c t image)
  where
    go : (z : Bool) (o : RunOutcome) → length o.image ≡ length image → length (cond z (halted c image (stop_at s)) (run_after (whole_at s) o)).image ≡ length image
    go true o e = refl
    go false o e = e

run_length : (c : Carousel) (s image : List ℕ) (budget : ℕ) → length (run_of c s image budget).image ≡ length image
unfolding run_of
run_length c s image budget = go (ruled_of c)
  where
    go : (z : Bool) → length (cond z (runs budget c s image) (halted c image stop.State)).image ≡ length image
    go true = runs_length budget c s image
    go false = refl

-- THE TEXT, of any stretch and number
pub text-most : (s image : List ℕ) (number : ℕ) → length image ≤ 65_536 → length (page_text s image number) ≤ 409_700
unfolding page_text
text-most s image number h =
    let l = run_length empty_record s image page_budget in
    (module-most (run_of empty_record s image page_budget).state (run_of empty_record s image page_budget).image number (omega arith)).most

-- what `write_page` answers and leaves, by its contract, in a buffer of the program's size
pub never-cut : (s image : List ℕ) (number : ℕ) (out after : List ℕ) (r : ℕ) → length image ≤ 65_536 → length out ≡ 409_700
    → after ≡ sets out 0 (page_text s image number) → r ≡ reached 0 (length (page_text s image number)) (length out)
    → (r ≡ length (page_text s image number)) × (take r after ≡ page_text s image number)
never-cut s image number out after r h b e f =
    let t = text-most s image number h in
    let w = whole out (page_text s image number) (omega arith) in
    (f ∙ w.0, ap₂ take (f ∙ w.0) e ∙ w.1)
