-- What the call leaves, by whether the record keeps its rule.
use Prim.Native.Nat.{ℕ, zero, suc}
use mathlib.Core.Path.{◌≡◌, refl, sym, ap, ap₂, ◌∙◌}
use mathlib.Core.Bool.{true, false}
use mathlib.Core.List.{List}
use native.Mathlib.Omega.{arith}
use borrow.Author.Tests.{ne_eqb}
use lib.ListN.{length, take}
use Rattle.carousel_record.specs.declared.Carousel.{Carousel}
use Rattle.carousel_record.specs.Record.{ruled_of}
use Rattle.receiver.specs.declared.Ran.{Ran}
use Rattle.receiver.specs.Run.{ran_of, image_ran}
use Rattle.std.proofs.Common.{Result, Ok, Err}
use Rattle.transport.specs.declared.Gathered.{Gathered}
use Rattle.wire.specs.Outcomes.{answered}
use Rattle.wire.specs.Items.{joined}
use Rattle.transport.specs.Feed.{handed_on}
use Rattle.transport.specs.Calls.{lent_refusal, gathered_packets, gathered_of, gather_answer, gather_state, gather_out}
use Rattle.transport.proofs.Laws.Calls.{gather-front}
use Rattle.transport_run.specs.declared.Heard.{Heard}
use Rattle.transport_run.specs.Heard.{any_number, heard_stretch, none_gathered, heard_answer, heard_state, heard_out, heard_image}

-- the bytes that were handed on; none on a refusal
abbrev pub size_in : Result Gathered ℕ → ℕ
size_in (Ok g) = g.size
size_in (Err n) = 0

-- they are the sections that the packets hand on
pub size-told : (pid : ℕ) (s : List ℕ) (n : ℕ) (xs : List ℕ) → size_in (gather_answer pid s n xs) ≡ (gathered_of pid s n xs).size
unfolding gather_answer gathered_of gathered_packets joined handed_on
size-told pid s n xs = go (lent_refusal pid s n) refl
  where
    go : (k : ℕ) → lent_refusal pid s n ≡ k → size_in (answered k (gathered_of pid s n xs)) ≡ (gathered_of pid s n xs).size
    go zero e = refl
    go (suc k) e = rw (ne_eqb (lent_refusal pid s n) 0 (λ z. omega (arith, e, z))) refl

module _ (c : Carousel) (pid : ℕ) (xs s out image : List ℕ) where
  abbrev n : ℕ
  n = length out

  abbrev Leaves : Heard → (state buffer picture : List ℕ) → Type 0
  Leaves r state buffer picture =
      (r ≡ heard_answer c pid xs s n image) × (state ≡ heard_state c pid xs s n) × (buffer ≡ heard_out c pid xs s out) × (picture ≡ heard_image c pid xs s n image)

  pub broken-leaves : ruled_of c ≡ false → (g : Result Gathered ℕ) → g ≡ none_gathered → Leaves (record { gathered = g; state = c }) s out image
  unfolding heard_answer heard_state heard_out heard_image
  broken-leaves e g q = (rw e (ap (λ (w : Result Gathered ℕ). record { gathered = w; state = c }) q), sym (rw e), sym (rw e), sym (rw e))

  module _ (e : ruled_of c ≡ true) (g : Result Gathered ℕ) (m : ℕ) (told : m ≡ size_in g) (state buffer picture : List ℕ) (ran : Ran) (a : g ≡ gather_answer pid s n xs)
      (b : state ≡ gather_state pid s n xs) (d : buffer ≡ gather_out pid s xs out)
      (r : ran ≡ ran_of c (take m buffer) image any_number) (i : picture ≡ image_ran c (take m buffer) image any_number) where
    stretch : take m buffer ≡ heard_stretch pid s n xs
    unfolding heard_stretch
    stretch = ap₂ (λ (k : ℕ) (o : List ℕ). take k o) (told ∙ ap size_in a ∙ size-told pid s n xs) d ∙ gather-front pid s xs out

    pub heard-leaves : Leaves (record { gathered = g; state = ran.state }) state buffer picture
    unfolding heard_answer heard_state heard_out heard_image
    heard-leaves = (
      ap₂ (λ (w : Result Gathered ℕ) (q : Carousel). record { gathered = w; state = q }) a (ap (λ (w : Ran). w.state) r
          ∙ ap (λ (l : List ℕ). (ran_of c l image any_number).state) stretch) ∙ sym (rw e),
      b ∙ sym (rw e),
      d ∙ sym (rw e),
      i ∙ ap (λ (l : List ℕ). image_ran c l image any_number) stretch ∙ sym (rw e),
    )
