-- ONE PACKET'S ANSWER, STATE AND BUFFER, by the code's four ways.
use Prim.Native.Nat.{ℕ}
use mathlib.Core.Path.{◌≡◌, refl, sym, ap, ◌∙◌}
use mathlib.Core.List.{List}
use Rattle.std.proofs.Common.{Err}
use lib.ListN.{length}
use Rattle.wire.specs.Items.{joined}
use Rattle.wire.specs.Pieces.{laid_first}
use Rattle.transport.specs.declared.Handed.{Handed}
use Rattle.transport.specs.Packet.{packet_refusal}
use Rattle.transport.specs.Feed.{Outcome, Fed, passed_over, fed}
use Rattle.transport.specs.State.{last_in, state_in}
use Rattle.transport.specs.Calls.{next_state}
use Rattle.transport.proofs.Laws.Feeding.{fed-refused}
use Rattle.transport.proofs.Laws.Hands.{none-long, none_laid}
use Rattle.transport.proofs.Laws.States.{refused-stays}

-- what is answered of an outcome
abbrev pub handed_by : Fed → Handed
handed_by f = record { answer = f.answer; size = length (joined f.sections) }

abbrev pub Told : (pid : ℕ) → (state packet out : List ℕ) → Handed → (after buffer : List ℕ) → Type 0
Told pid s p out r after buffer =
    (r ≡ handed_by (fed pid (state_in s) p)) × (after ≡ next_state pid s p) × (buffer ≡ laid_first (joined (fed pid (state_in s) p).sections) out)

module _ (pid : ℕ) (s p out : List ℕ) where
  -- nothing happened
  stayed : (a : Outcome) → fed pid (state_in s) p ≡ passed_over (state_in s) a → next_state pid s p ≡ s → Told pid s p out (record { answer = a; size = 0 }) s out
  stayed a e f = (
    ap (λ (n : ℕ). record { answer = a; size = n }) (sym none-long) ∙ ap handed_by (sym e),
    sym f,
    sym (none_laid out) ∙ ap (λ (w : Fed). laid_first (joined w.sections) out) (sym e),
  )

  pub told-refused : (n : ℕ) → n ≡ packet_refusal pid p → (n ≡ 0 → ⊥) → Told pid s p out (record { answer = Err n; size = 0 }) s out
  told-refused n e z =
      let q : packet_refusal pid p ≡ 0 → ⊥ = λ w. z (e ∙ w) in
      stayed (Err n) (fed-refused pid (state_in s) p q ∙ ap (λ (m : ℕ). passed_over (state_in s) (Err m)) (sym e)) (refused-stays pid s p q)

pub last-said : (s : List ℕ) → (state_in s).last ≡ last_in s
unfolding state_in
last-said s = refl
