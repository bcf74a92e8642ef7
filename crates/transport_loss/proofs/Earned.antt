-- NO MARK IS UNEARNED: where a lost packet marks the section in hand, it has a byte of it. This is where empty payloads would do harm.
use Prim.Native.Nat.{ℕ}
use mathlib.Core.Path.{◌≡◌, refl, ap, subst, ◌∙◌}
use mathlib.Core.List.{List, [], ◌∷◌, ◌++◌}
use native.Mathlib.Omega.{arith}
use Rattle.wire.proofs.Laws.Meaning.{append-nil}
use Rattle.transport_loss.specs.Stream.{Sent, idle, middle, final, start, sent_so_far, Some, Section, Head, Opens, Fits}

-- the bytes that a packet has of the section in hand
abbrev pub share : Sent → List ℕ
share idle = []
share (middle bs) = bs
share (final bs n) = bs
share (start e ws g n) = e

-- what is in hand is none or a head, all along a stream
abbrev pub InHand : List ℕ → Type 0
InHand [] = Unit {0}
InHand (x ∷ h) = Head (x ∷ h)

opens-hand : (g : List ℕ) (n : ℕ) → Opens g n → InHand g
opens-hand [] n o = tt
opens-hand (x ∷ g) n o = o.0

head-hand : (g : List ℕ) → Head g → InHand g
head-hand [] o = tt
head-hand (x ∷ g) o = o

pub hand-kept : (h : List ℕ) (s : Sent) → InHand h → Fits h s → InHand (sent_so_far h s)
hand-kept h idle i f = i
hand-kept h (middle bs) i f = head-hand (h ++ bs) f.2
hand-kept h (final bs n) i f = tt
hand-kept h (start e ws g n) i f = opens-hand g n f.2

-- a head is no whole section, so that something must be added to it
ends_some : (x : ℕ) (h e : List ℕ) → Head (x ∷ h) → Section ((x ∷ h) ++ e) → Some e
ends_some x h e k w z =
    let v = subst (λ (l : List ℕ). Section l) (ap (λ (d : List ℕ). (x ∷ h) ++ d) z ∙ append-nil (x ∷ h)) w in
    let a = v.0 in
    let b = k.2 in
    omega arith

-- whenever a section is in hand, a packet with a payload has a byte of it
pub earned : (x : ℕ) (h : List ℕ) (s : Sent) → Head (x ∷ h) → Fits (x ∷ h) s → (s ≡ idle → ⊥) → Some (share s)
earned x h idle k f n = absurd (n refl)
earned x h (middle bs) k f n = f.1
earned x h (final bs m) k f n = ends_some x h bs k f.1
earned x h (start e ws g m) k f n = ends_some x h e k f.0
