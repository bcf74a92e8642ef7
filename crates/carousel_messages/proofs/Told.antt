-- A refusal of a carousel section, judged before any record is looked at, is its number and its place: the section check's as it came, and a message's with none.
use Prim.Native.Nat.{ℕ, ◌<◌}
use mathlib.Core.Path.{◌≡◌, refl}
use mathlib.Core.Bool.{Bool, true, false, cond}
use mathlib.Core.List.{List}
use native.Mathlib.Omega.{arith}
use Rattle.std.proofs.Common.{Ok, Err}
use lib.Dec.{eqb, lit≤}
use borrow.Author.Tests.{eqb-false}
use Rattle.wire.proofs.Laws.Tests.{met-within}
use Rattle.section.specs.declared.Rules.TheVariants.{Carousel}
use Rattle.section.specs.declared.Refusal.{Refusal}
use Rattle.section.specs.declared.Header.{Header}
use Rattle.section.specs.Header.{body_of}
use Rattle.section.specs.Answer.{Checked, refused, Told, checked_of, on_checked}
use Rattle.section.proofs.Laws.Places.{checked-told, above-told}
use Rattle.carousel_messages.specs.declared.CarouselTable.{CarouselTable}
use Rattle.carousel_messages.specs.declared.CarouselTable.TheVariants.{Announcements, Blocks}
use Rattle.carousel_messages.specs.declared.Message.TheVariants.{Announced, Carried}
use Rattle.carousel_messages.specs.Refusals.{message_tests, message_refusal}
use Rattle.carousel_messages.specs.Judged.{Judged, carousel_table_of, read_of, message_judged, judged_of, judged_by}
use Rattle.carousel_messages.specs.Heard.{refusal, heard_in, heard_of}

-- a message's own are 7 to 11
message-above : (t : CarouselTable) (h : Header) (b : List ℕ) → (message_refusal t h b ≡ 0 → ⊥) → 6 < message_refusal t h b
unfolding message_refusal
message-above Announcements h b n =
    let w = met-within 7 11 (message_tests Announcements h b) (lit≤ tt, lit≤ tt, (lit≤ tt, lit≤ tt, (lit≤ tt, lit≤ tt, (lit≤ tt, lit≤ tt, (lit≤ tt, lit≤ tt, tt))))) n in omega (arith, w.0)
message-above Blocks h b n =
    let w = met-within 7 11 (message_tests Blocks h b) (lit≤ tt, lit≤ tt, (lit≤ tt, lit≤ tt, (lit≤ tt, lit≤ tt, (lit≤ tt, lit≤ tt, tt)))) n in omega (arith, w.0)

read-no-refusal : (t : CarouselTable) (b : List ℕ) (r : Refusal) → read_of t b ≡ Err r → ⊥
unfolding read_of
read-no-refusal Announcements b r e = let z : ◌≡◌ {A = ℕ} 0 1 = cc in omega arith
read-no-refusal Blocks b r e = let z : ◌≡◌ {A = ℕ} 0 1 = cc in omega arith

pub judged-told : (s : List ℕ) (r : Refusal) → judged_of s ≡ Err r → Told Carousel s r
unfolding judged_by message_judged
judged-told s r e = go (checked_of Carousel s) refl e
  where
    message : (t : CarouselTable) (h : Header) (z : Bool) → eqb (message_refusal t h (body_of s)) 0 ≡ z
        → cond z (read_of t (body_of s)) (Err (refused (message_refusal t h (body_of s)))) ≡ Err r → Told Carousel s r
    message t h true f e = absurd (read-no-refusal t (body_of s) r e)
    message t h false f e = let q : refused (message_refusal t h (body_of s)) ≡ r = cc in rw (← q) (above-told Carousel s _ (message-above t h (body_of s) (eqb-false _ _ f)))

    go : (c : Checked) → checked_of Carousel s ≡ c
        → on_checked c Err (λ h. message_judged (carousel_table_of h.table) h (body_of s)) ≡ Err r → Told Carousel s r
    go (Err q) f e = let g : q ≡ r = cc in rw (← g) (checked-told Carousel s q f)
    go (Ok h) f e = message (carousel_table_of h.table) h (eqb (message_refusal (carousel_table_of h.table) h (body_of s)) 0) refl e

pub heard-told : (s : List ℕ) (r : Refusal) → heard_of s ≡ refusal r → Told Carousel s r
unfolding heard_of heard_in
heard-told s r e = go (judged_of s) refl e
  where
    go : (j : Judged) → judged_of s ≡ j → heard_in s j ≡ refusal r → Told Carousel s r
    go (Err n) f e = let q : n ≡ r = cc in judged-told s r (rw (← q) f)
    go (Ok (Announced a)) f e = let w : ◌≡◌ {A = ℕ} 0 1 = cc in absurd (omega arith)
    go (Ok (Carried b)) f e = let w : ◌≡◌ {A = ℕ} 0 1 = cc in absurd (omega arith)
