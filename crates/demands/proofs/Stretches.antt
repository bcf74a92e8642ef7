-- Whole sections laid end to end are taken one by one, each as it is.
use Prim.Native.Nat.{ℕ, zero, suc, ◌+◌, ◌*◌, ◌%◌, ◌/◌, ◌^◌, ◌≤◌, ◌<◌}
use mathlib.Core.Path.{◌≡◌, refl, sym, ap, ap₂, ◌∙◌}
use mathlib.Core.List.Memᴰ
use mathlib.Core.List.{List, [], ◌∷◌, ◌++◌}
use native.Mathlib.Omega.{arith}
use lib.ListN.{length, take, drop, length-append, get_or-append}
use lib.Seq.{take_at, drop_at}
use borrow.Author.Tests.{eq-eqb, ne_eqb}
use Rattle.wire.specs.Fields.{byte_at, field_at}
use Rattle.wire.specs.Items.{joined}
use Rattle.section.specs.Header.{length_of}
use Rattle.receiver.specs.declared.Stop.{Stop}
use Rattle.receiver.specs.declared.Stop.TheVariants as stop
use Rattle.section.specs.Whole.{said_length, whole_at}
use Rattle.receiver.specs.Run.{given_of, image_given, RunOutcome, run_after, runs, sections_of, Held, given, walk}
use Rattle.section.proofs.Laws.Whole.{whole-few, whole_is}
use Rattle.receiver.proofs.Laws.Places.{stop_end}
use Rattle.receiver.proofs.Laws.Runs.{runs-stop, runs-next}
use Rattle.demands.specs.Quiet.{Holds}

-- a section that is as long as it says, and is no stuffing
pub record Cut (s : List ℕ) : Type 0 where
  pub headed : 3 ≤ length s
  pub exact : length s ≡ 3 + length_of s
  pub plain : byte_at s 0 ≡ 0xFF → ⊥

module _ (s rest : List ℕ) (c : Cut s) where
  byte-is : (k : ℕ) → k < length s → byte_at (s ++ rest) k ≡ byte_at s k
  byte-is k h = get_or-append s rest 0 k h

  says : said_length (s ++ rest) ≡ length s
  unfolding field_at
  says =
      let h = c.headed in
      let e = byte-is 1 (omega arith) in
      let f = byte-is 2 (omega arith) in
      ap₂ (λ (x y : ℕ). 3 + ((0 * 256 + x) * 256 + y) / 2 ^ 0 % 2 ^ 12) e f ∙ sym c.exact

  pub whole : whole_at (s ++ rest) ≡ length s
  whole =
      let h = c.headed in
      let l = length-append s rest in
      let e = says in
      whole_is (s ++ rest) (omega arith) (λ z. c.plain (sym (byte-is 0 (omega arith)) ∙ z)) (omega arith) ∙ says

  pub taken : take (whole_at (s ++ rest)) (s ++ rest) ≡ s
  taken = take_at s rest (whole_at (s ++ rest)) (sym whole)

  pub left : drop (whole_at (s ++ rest)) (s ++ rest) ≡ rest
  left = drop_at s rest (whole_at (s ++ rest)) (sym whole)

  pub some : whole_at (s ++ rest) ≡ 0 → ⊥
  some z = let w = whole in let h = c.headed in omega arith

nothing : whole_at [] ≡ 0
nothing = whole-few [] (omega arith)

-- THE RUN over them: one after another, to the end
pub joined-run : (ss : List (List ℕ)) → ((s : List ℕ) → Holds ss s → Cut s) → (budget : ℕ) → length ss ≤ budget → (x : Held)
    → runs budget x.state (joined ss) x.image ≡ record { state = (walk x ss).state; image = (walk x ss).image; taken = length ss; passed = length (joined ss); stop = stop.End }
unfolding joined walk
joined-run [] cuts budget l x = runs-stop budget x.state [] x.image nothing ∙ ap (λ (w : Stop). record { state = x.state; image = x.image; taken = 0; passed = 0; stop = w }) (stop_end [] refl)
joined-run (s ∷ ss) cuts zero l x = absurd (omega arith)
joined-run (s ∷ ss) cuts (suc budget) l x =
    let c = cuts s (Memᴰ.head refl) in
    let rest = joined ss in
    let go : List ℕ → List ℕ → ℕ → RunOutcome = λ a b n. run_after n (runs budget (given_of x.state a x.image).state b (image_given x.state a x.image)) in
    runs-next budget x.state (s ++ rest) x.image (some s rest c)
    ∙ (λ i. go (taken s rest c i) (left s rest c i) (whole s rest c i))
    ∙ ap (run_after (length s)) (joined-run ss (λ t h. cuts t (Memᴰ.tail h)) budget (omega arith) (given x s))
    ∙ ap (λ (n : ℕ). record { state = (walk (given x s) ss).state; image = (walk (given x s) ss).image; taken = suc (length ss); passed = n; stop = stop.End }) (sym (length-append s rest))

-- and the sections that it takes are these
sections-next : (k : ℕ) (s : List ℕ) → (whole_at s ≡ 0 → ⊥) → sections_of (suc k) s ≡ take (whole_at s) s ∷ sections_of k (drop (whole_at s) s)
unfolding sections_of
sections-next k s n = rw (ne_eqb (whole_at s) 0 n)

sections-none : (k : ℕ) (s : List ℕ) → whole_at s ≡ 0 → sections_of k s ≡ []
unfolding sections_of
sections-none zero s z = refl
sections-none (suc k) s z = rw (eq-eqb (whole_at s) 0 z)

pub joined-sections : (ss : List (List ℕ)) → ((s : List ℕ) → Holds ss s → Cut s) → (budget : ℕ) → length ss ≤ budget → sections_of budget (joined ss) ≡ ss
unfolding joined
joined-sections [] cuts budget l = sections-none budget [] nothing
joined-sections (s ∷ ss) cuts zero l = absurd (omega arith)
joined-sections (s ∷ ss) cuts (suc budget) l =
    let c = cuts s (Memᴰ.head refl) in
    let rest = joined ss in
    sections-next budget (s ++ rest) (some s rest c)
    ∙ (λ i. taken s rest c i ∷ sections_of budget (left s rest c i))
    ∙ ap (λ (l : List (List ℕ)). s ∷ l) (joined-sections ss (λ t h. cuts t (Memᴰ.tail h)) budget (omega arith))
