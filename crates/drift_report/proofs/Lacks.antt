-- "handout,20,COUNT,LOWEST": where the hand-out answers 20 the missing report has its two numbers, so the line has them too.
use Prim.Native.Nat.{ℕ}
use mathlib.Core.Path.{◌≡◌, refl, ap, ◌∙◌}
use mathlib.Core.Bool.{Bool, true, false}
use mathlib.Core.List.{List, ◌++◌}
use native.Mathlib.Omega.{arith}
use lib.Dec.{eqb, ltb}
use lib.ListN.{length}
use borrow.Author.Tests.{eqb-true, eqb-false, ltb-true, ltb-false}
use Rattle.text.specs.Text.{codes, decimal}
use Rattle.carousel_record.specs.declared.Carousel.{Carousel}
use Rattle.carousel_record.specs.Record.{record_of, announced_by, place_of, missing_of, bytes_of, ruled_of}
use Rattle.carousel_handout.specs.declared.Lack.{Lack}
use Rattle.carousel_handout.specs.Calls.{handout_number, lack_of, report_of}
use Rattle.carousel_handout.proofs.Laws.Calls.{lack-some, report-is, out-1, out-13, out-15, out-0}
use Rattle.drift_report.specs.Page.{lack_text, refused_text}
use Rattle.std.proofs.Common.{Ok, Some}
use Rattle.carousel_handout.specs.Calls.{Report}

module _ (c : Carousel) (image : List ℕ) (number : ℕ) (e : handout_number c image number ≡ 20) where
  abbrev place : ℕ
  place = place_of (announced_by c) number

  abbrev lacks : List ℕ
  lacks = missing_of (record_of c) place

  pub twenty-lacks : (l : Lack) × (report_of c number ≡ Ok (Some l))
  twenty-lacks = ruled (ruled_of c) refl
    where
      lacking : ruled_of c ≡ true → (t u v : Bool) → ltb place (length (announced_by c).modules) ≡ t → ltb (length image) (bytes_of (announced_by c)) ≡ u
          → eqb (lack_of lacks).count 0 ≡ v → (l : Lack) × (report_of c number ≡ Ok (Some l))
      lacking r false u v t x y = let z = out-13 c number image r (ltb-false _ _ t) in absurd (omega (arith, z, e))
      lacking r true true v t x y = let z = out-15 c number image r (ltb-true _ _ t) (ltb-true _ _ x) in absurd (omega (arith, z, e))
      lacking r true false true t x y = let z = out-0 c number image r (ltb-true _ _ t) (ltb-false _ _ x) (eqb-true _ _ y) in absurd (omega (arith, z, e))
      lacking r true false false t x y = (lack_of lacks, report-is c number r (ltb-true _ _ t) ∙ lack-some lacks (eqb-false _ _ y))

      ruled : (t : Bool) → ruled_of c ≡ t → (l : Lack) × (report_of c number ≡ Ok (Some l))
      ruled false r = let z = out-1 c number image r in absurd (omega (arith, z, e))
      ruled true r = lacking r (ltb place (length (announced_by c).modules)) (ltb (length image) (bytes_of (announced_by c))) (eqb (lack_of lacks).count 0) refl refl refl

  pub twenty-text : (l : Lack) × (refused_text c number 20 ≡ codes "handout," ++ decimal 20 ++ (codes "," ++ decimal l.count ++ codes "," ++ decimal l.lowest) ++ codes "\n")
  unfolding refused_text lack_text
  twenty-text = let t = twenty-lacks in (t.0, ap (λ (r : Report). codes "handout," ++ decimal 20 ++ lack_text r ++ codes "\n") t.1)
