-- THE TEXT IS NEVER CUT: of a stretch of at most 65,536 bytes it has at most 393,254, and a writer who lends so many gets it whole.
use Prim.Native.Nat.{ℕ, zero, suc, ◌+◌, ◌*◌, ◌≤◌, ◌<◌}
use mathlib.Core.Path.{◌≡◌, refl, ap, ap₂, ◌∙◌}
use mathlib.Core.Bool.{Bool, true, false, cond, ◌||◌}
use mathlib.Core.List.{List, [], ◌∷◌, ◌++◌}
use native.Mathlib.Omega.{arith}
use lib.Dec.{eqb}
use lib.ListN.{length, take, drop, length-take, length-append}
use lib.Seq.{sets}
use Rattle.wire.specs.Fields.{byte_at, sixteen_at}
use Rattle.wire.proofs.Laws.Fields.{bits_lt}
use Rattle.section.specs.declared.Refusal.{Refusal}
use Rattle.section.proofs.Laws.Places.{told-byte}
use Rattle.text.specs.Text.{codes, reached, decimal}
use Rattle.text.proofs.Meaning.{decimal-short, whole}
use Rattle.carousel_record.specs.declared.Carousel.{Carousel}
use Rattle.carousel_record.specs.Changes.{empty_record}
use Rattle.receiver.specs.declared.Stop.{Stop}
use Rattle.receiver.specs.declared.Stop.TheVariants as stop
use Rattle.section.specs.Whole.{said_length, is_short, whole_at}
use Rattle.receiver.specs.Run.{rules_of, number_of_fate, place_of_fate, given_of, image_given, run_of, fates_of}
use Rattle.receiver.proofs.Laws.Refusals.{take-known, take-told}
use Rattle.receiver.proofs.Runs.{fates-counted, taken-most, taken_third}
use Rattle.report.specs.Report.{kind_name, stop_name, place_field, header, line_of, lines_from, last_line, budget, printed}
use Rattle.std.proofs.Common.{Ok, Err, Some, None}
use Rattle.section.specs.Refusals.{Spot}
use Rattle.receiver.specs.Run.{Fate}
use Rattle.receiver.specs.declared.Kind.TheVariants as kind
use Rattle.carousel_step.specs.declared.Answer.TheVariants as answer

-- the longest stop is "stuffing"
stop-most : (x : Stop) → length (last_line x) ≤ 14
unfolding stop_name
stop-most stop.End = omega arith
stop-most stop.Stuffing = omega arith
stop-most stop.Short = omega arith
stop-most stop.Budget = omega arith
stop-most stop.State = omega arith

-- A fate's number, its kind and its place have ten characters at most, a comma among them: "0", "repeated" and nothing; or two digits, "none" and nothing; or one digit, "none" and a
-- byte of four.
abbrev Short : Fate → Type 0
Short f = length (decimal (number_of_fate f)) + length (kind_name f) + length (place_field (place_of_fate f)) ≤ 10

refused-short : (r : Refusal) → r.number ≤ 18 → ((p : ℕ) → r.place ≡ Some p → (r.number < 7) × (p < 10000)) → (p : Spot) → r.place ≡ p
    → length (decimal r.number) + length (codes "none") + length (place_field p) ≤ 10
unfolding place_field
refused-short r h k None e = let d = decimal-short 1 r.number (omega arith) in omega arith
refused-short r h k (Some p) e =
    let w = k p e in
    let d = decimal-short 0 r.number (omega (arith, w.0)) in
    let q = decimal-short 3 p (omega (arith, w.1)) in
    let l = length-append (codes ",") (decimal p) in
    omega arith

fate-short : (c : Carousel) (s image : List ℕ) → length s ≤ 4098 → Short (given_of c s image).fate
unfolding kind_name place_field
fate-short c s image h = let z = decimal-short 0 0 (omega arith) in go z (given_of c s image).fate refl
  where
    go : length (decimal 0) ≤ 1 → (f : Fate) → (given_of c s image).fate ≡ f → Short f
    go z (Ok kind.Table) e = omega arith
    go z (Ok (kind.Carousel answer.New)) e = omega arith
    go z (Ok (kind.Carousel answer.Same)) e = omega arith
    go z (Ok (kind.Carousel answer.Stored)) e = omega arith
    go z (Ok (kind.Carousel answer.Repeated)) e = omega arith
    go z (Err r) e =
        let n = ap number_of_fate e in
        let m = take-known c s image in
        let t = take-told c s image r e in
        refused-short r (omega arith) (λ p f. let b = told-byte (rules_of s) s r t p f in (b.1, omega (arith, b.2))) r.place refl

-- A section that is taken has at most 3 + 4,095 bytes
whole-most : (s : List ℕ) → length (take (whole_at s) s) ≤ 4098
unfolding whole_at
whole-most s = go (is_short s || eqb (byte_at s 0) 0xFF)
  where
    go : (b : Bool) → length (take (cond b 0 (said_length s)) s) ≤ 4098
    go true = omega arith
    go false = let l = length-take (said_length s) s in let b = bits_lt 0 12 (sixteen_at s 1) in omega arith

abbrev Known : List Fate → Type 0
Known [] = Unit
Known (f ∷ fs) = Short f × Known fs

fates-known : (n : ℕ) (c : Carousel) (s image : List ℕ) → Known (fates_of n c s image)
unfolding fates_of
fates-known zero c s image = tt
fates-known (suc n) c s image =
    let t = take (whole_at s) s in
    go (eqb (whole_at s) 0) (fate-short c t image (whole-most s)) (fates-known n (given_of c t image).state (drop (whole_at s) s) (image_given c t image))
  where
    go : (z : Bool) → Short (given_of c (take (whole_at s) s) image).fate
        → Known (fates_of n (given_of c (take (whole_at s) s) image).state (drop (whole_at s) s) (image_given c (take (whole_at s) s) image))
        → Known (cond z [] ((given_of c (take (whole_at s) s) image).fate ∷ fates_of n (given_of c (take (whole_at s) s) image).state (drop (whole_at s) s) (image_given c
        (take (whole_at s) s) image)))
    go true k ks = tt
    go false k ks = (k, ks)

-- a line: at most 5 digits, the ten, two commas and a line feed
line-most : (i : ℕ) (f : Fate) → i < budget → Short f → length (line_of i f) ≤ 18
line-most i f h k =
    let a = decimal i in
    let b = decimal (number_of_fate f) in
    let n = kind_name f in
    let x = place_field (place_of_fate f) in
    let d = decimal-short 4 i (omega arith) in
    let o = length-append (a ++ codes "," ++ b ++ codes "," ++ n ++ x) (codes "\n") in
    let p = length-append (a ++ codes "," ++ b ++ codes "," ++ n) x in
    let r = length-append (a ++ codes "," ++ b ++ codes ",") n in
    let s = length-append (a ++ codes "," ++ b) (codes ",") in
    let t = length-append (a ++ codes ",") b in
    let u = length-append a (codes ",") in
    omega arith

lines-most : (i : ℕ) (fs : List Fate) → i + length fs ≤ budget → Known fs → length (lines_from i fs) ≤ 18 * length fs
unfolding lines_from
lines-most i [] h k = omega arith
lines-most i (f ∷ fs) h k =
    let l = line-most i f (omega arith) k.0 in
    let m = lines-most (suc i) fs (omega arith) k.1 in
    let p = length-append (line_of i f) (lines_from (suc i) fs) in
    omega arith

-- 6 bytes for each of the stretch, and 38 for the first and the last line
pub text-most : (s image : List ℕ) → length (printed s image) ≤ 6 * length s + 38
unfolding printed
text-most s image =
    let fs = fates_of budget empty_record s image in
    let last = last_line (run_of empty_record s image budget).stop in
    let n = fates-counted budget empty_record s image in
    let m = taken-most budget empty_record s image in
    let t = taken_third budget empty_record s image in
    let l = lines-most 0 fs (omega arith) (fates-known budget empty_record s image) in
    let x = stop-most (run_of empty_record s image budget).stop in
    let p = length-append (header ++ lines_from 0 fs) last in
    let q = length-append header (lines_from 0 fs) in
    omega arith

-- what `write_report` answers and leaves, by its contract, in a buffer of the program's size
pub never-cut : (s image out after : List ℕ) (r : ℕ) → length s ≤ 65536 → length out ≡ 393254 → after ≡ sets out 0 (printed s image) → r ≡ reached 0 (length (printed s image)) (length out)
    → (r ≡ length (printed s image)) × (take r after ≡ printed s image)
never-cut s image out after r h b e f =
    let t = text-most s image in
    let w = whole out (printed s image) (omega arith) in
    (f ∙ w.0, ap₂ take (f ∙ w.0) e ∙ w.1)
