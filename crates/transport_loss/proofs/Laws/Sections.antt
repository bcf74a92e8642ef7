-- Sections among bytes: a proper beginning of one is a head; stuffing begins none; and what the bytes of a unit start come to.
use Prim.Native.Nat.{ℕ, zero, suc, ◌<◌}
use mathlib.Core.Path.{◌≡◌, refl, ap, ◌∙◌}
use mathlib.Core.Bool.{cond}
use mathlib.Core.List.{List, [], ◌∷◌, ◌++◌}
use native.Mathlib.Omega.{arith}
use lib.Dec.{eqb}
use lib.ListN.{length, length-append}
use lib.Seq.{take-append-le, drop_at}
use borrow.Author.Tests.{ne_eqb}
use Rattle.wire.specs.Fields.{byte_at}
use Rattle.wire.specs.Items.{Wholes, items, joined}
use Rattle.wire.proofs.Laws.Meaning.{found, append-nil}
use Rattle.wire.proofs.Laws.Steps.{items-stop}
use Rattle.section.proofs.Laws.Whole.{section_kind, whole-few, whole_stuffing}
use Rattle.section.specs.Whole.{whole_at}
use Rattle.transport.specs.Feed.{head_in}
use Rattle.transport_loss.specs.Stream.{Some, Section, Head, Opens, stuffed}

-- A PROPER BEGINNING OF A SECTION IS A HEAD, be it shorter than the three bytes that hold its length
pub beginning : (h r : List ℕ) → Some h → Some r → Section (h ++ r) → Head h
beginning h r a b w = (a, first h a w, short (whole_at h) refl)
  where
    first : (g : List ℕ) → Some g → Section (g ++ r) → byte_at g 0 ≡ 0xFF → ⊥
    first [] s w e = s refl
    first (x ∷ g) s w e = let z = whole_stuffing ((x ∷ g) ++ r) e in let w0 = w.0 in let w1 = w.1 in omega arith

    more : (q : List ℕ) → Some q → 0 < length q
    more [] s = absurd (s refl)
    more (x ∷ q) s = omega arith

    short : (n : ℕ) → whole_at h ≡ n → whole_at h ≡ 0
    short zero e = e
    short (suc n) e =
        let f = section_kind.fits h in
        let o = section_kind.own h (h ++ r) (omega arith) (take-append-le (whole_at h) h r f) in
        let l = length-append h r in
        let m = more r b in
        let w0 = w.0 in
        absurd (omega arith)

-- stuffing
pub stuffing-none : (n : ℕ) → whole_at (stuffed n) ≡ 0
stuffing-none zero = whole-few [] (omega arith)
stuffing-none (suc n) = whole_stuffing (stuffed (suc n)) refl

-- WHAT A UNIT START'S BYTES COME TO: whole sections, then a head or nothing, then stuffing
open-size : (g : List ℕ) (n : ℕ) → Opens g n → whole_at (g ++ stuffed n) ≡ 0
open-size [] n o = stuffing-none n
open-size (x ∷ g) n o = rw o.1 (ap whole_at (append-nil (x ∷ g)) ∙ o.0.2)

open-head : (g : List ℕ) (n : ℕ) → Opens g n → cond (eqb (byte_at (g ++ stuffed n) 0) 0xFF) [] (g ++ stuffed n) ≡ g
open-head [] zero o = refl
open-head [] (suc n) o = refl
open-head (x ∷ g) n o = rw (ne_eqb x 0xFF o.0.1, o.1) (append-nil (x ∷ g))

module _ (ws : List (List ℕ)) (g : List ℕ) (n : ℕ) (w : Wholes whole_at ws) (o : Opens g n) where
  pub starts-items : items whole_at (joined ws ++ (g ++ stuffed n)) ≡ ws
  starts-items = found whole_at section_kind ws (g ++ stuffed n) w ∙ rw (items-stop whole_at section_kind (g ++ stuffed n) (open-size g n o), append-nil)

  pub starts-head : head_in (joined ws ++ (g ++ stuffed n)) ≡ g
  unfolding head_in
  starts-head = rw (starts-items, drop_at (joined ws) (g ++ stuffed n) (length (joined ws)) refl) (open-head g n o)
