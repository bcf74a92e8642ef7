-- WHAT IS HANDED ON IS WHOLE SECTIONS, from any state: laid end to end they are found again, so that they can be handed on as one stretch.
use Prim.Native.Nat.{ℕ, ◌<◌}
use mathlib.Core.Path.{◌≡◌, refl, sym, ◌∙◌}
use mathlib.Core.Bool.{Bool, true, false, cond, ◌||◌}
use mathlib.Core.List.{List, [], ◌∷◌, ◌++◌}
use native.Mathlib.Omega.{arith}
use lib.Dec.{eqb}
use lib.ListN.{take}
use lib.Seq.{length-take-le, take-take}
use borrow.Author.Tests.{eqb-true, eqb-false}
use Rattle.wire.specs.Items.{Whole, Wholes, items, joined}
use Rattle.wire.specs.Pieces.{is_none}
use Rattle.wire.proofs.Laws.Meaning.{unique, wholes}
use Rattle.wire.proofs.Laws.Tests.{neither}
use Rattle.section.specs.Whole.{whole_at}
use Rattle.section.proofs.Laws.Whole.{section_kind}
use Rattle.transport.specs.Packet.{View, view_of, packet_refusal}
use Rattle.transport.specs.Feed.{State, is_repeat, ended, hands_on, kept_hand, fed, handed_on}
use Rattle.transport.proofs.Laws.Feeding.{fed-refused, fed-repeat, fed-taken}

wholes-both : (ss us : List (List ℕ)) → Wholes whole_at ss → Wholes whole_at us → Wholes whole_at (ss ++ us)
wholes-both [] us w v = v
wholes-both (s ∷ ss) us w v = (w.0, wholes-both ss us w.1 v)

whole-taken : (xs : List ℕ) → (whole_at xs ≡ 0 → ⊥) → Whole whole_at (take (whole_at xs) xs)
whole-taken xs z =
    let p : 0 < whole_at xs = omega (arith, z) in
    let l = length-take-le (whole_at xs) xs (section_kind.fits xs) in
    let o = section_kind.own xs (take (whole_at xs) xs) p (take-take (whole_at xs) (whole_at xs) xs (omega arith)) in
    (o ∙ sym l, rw l p)

ended-whole : (h m : List ℕ) → Wholes whole_at (ended h m)
unfolding ended
ended-whole h m = go (is_none h || eqb (whole_at (h ++ m)) 0) refl
  where
    go : (t : Bool) → (is_none h || eqb (whole_at (h ++ m)) 0) ≡ t → Wholes whole_at (cond t [] (take (whole_at (h ++ m)) (h ++ m) ∷ []))
    go true e = tt
    go false e = (whole-taken (h ++ m) (eqb-false (whole_at (h ++ m)) 0 (neither (is_none h) (eqb (whole_at (h ++ m)) 0) e).1), tt)

hands-whole : (h : List ℕ) (v : View) → Wholes whole_at (hands_on h v)
unfolding hands_on
hands-whole h v = go v.payload v.start
  where
    go : (q s : Bool) → Wholes whole_at (cond q (ended h v.before ++ cond s (items whole_at v.after) []) [])
    go false s = tt
    go true true = wholes-both (ended h v.before) (items whole_at v.after) (ended-whole h v.before) (wholes whole_at section_kind v.after)
    go true false = wholes-both (ended h v.before) [] (ended-whole h v.before) tt

pub fed-whole : (pid : ℕ) (x : State) (p : List ℕ) → Wholes whole_at (fed pid x p).sections
fed-whole pid x p = go (eqb (packet_refusal pid p) 0) (is_repeat x p) refl refl
  where
    go : (s t : Bool) → eqb (packet_refusal pid p) 0 ≡ s → is_repeat x p ≡ t → Wholes whole_at (fed pid x p).sections
    go false t e f = rw (fed-refused pid x p (eqb-false (packet_refusal pid p) 0 e)) tt
    go true true e f = rw (fed-repeat pid x p (eqb-true (packet_refusal pid p) 0 e) f) tt
    go true false e f = rw (fed-taken pid x p (eqb-true (packet_refusal pid p) 0 e) f) (hands-whole (kept_hand x p) (view_of p))

pub sections-whole : (pid : ℕ) (ps : List (List ℕ)) (x : State) → Wholes whole_at (handed_on pid x ps)
unfolding handed_on
sections-whole pid [] x = tt
sections-whole pid (p ∷ ps) x = wholes-both (fed pid x p).sections (handed_on pid (fed pid x p).state ps) (fed-whole pid x p) (sections-whole pid ps (fed pid x p).state)

pub found-again : (pid : ℕ) (ps : List (List ℕ)) (x : State) → items whole_at (joined (handed_on pid x ps)) ≡ handed_on pid x ps
found-again pid ps x = unique whole_at section_kind (handed_on pid x ps) (joined (handed_on pid x ps)) (sections-whole pid ps x) refl
