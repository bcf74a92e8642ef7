-- STRICTER ON STALE RELAYS, as 02 §6 says it:
--
--   "A relay sent old section headers on new blocks. Refuse with 9 a data section whose 5-bit section version isn't the module version mod 32. This stands among the
--   state-free checks, so demand 3's matching narrows with it."
--
-- "The module version" is the one that the section's own message bears, so that no record is looked at. Below, x is any record that keeps its rule, and any image; s is a data
-- section that none of 2 to 8 meets (`BlockSection` of carousel_messages `Good`); and `stale` is the request's sentence.
use Prim.Native.Nat.{ℕ, ◌%◌}
use mathlib.Core.Path.{◌≡◌, ap, ◌∙◌}
use mathlib.Core.Bool.{true, false}
use mathlib.Core.List.{List, [], ◌∷◌}
use Rattle.section.specs.Header.{version_of, body_of}
use Rattle.section.specs.Answer.{refused}
use Rattle.carousel_messages.specs.Message.{payload_of}
use Rattle.carousel_messages.specs.Contents.{block_version_of}
use Rattle.carousel_messages.specs.Good.{BlockSection}
use Rattle.carousel_messages.specs.Heard.{Arrived, refusal, heard_in, heard_of}
use Rattle.carousel_messages.specs.Judged.{judged_of}
use Rattle.carousel_messages.proofs.Good.{nine-exactly, block-heard}
use Rattle.carousel_messages.proofs.Soundings as messages
use Rattle.carousel_record.specs.Record.{module_at, record_of, ruled_of}
use Rattle.carousel_step.specs.declared.Stepped.{Stepped}
use Rattle.carousel_step.specs.Matching.{heard_for}
use Rattle.carousel_step.specs.Step.{StepOutcome, refusing, on_heard, outcome_of, returning, image_after, stepped_of, image_of}
use Rattle.carousel_step.proofs.Simulation.{outcome-ruled}
use Rattle.receiver.specs.Run.{Held, carousel_fate, given_of}
use Rattle.receiver.proofs.Laws.Fates.{fate-other}
use Rattle.demands.specs.Demand.{told, place_now, is_for, Emptied, Keeps, Matched}
use Rattle.demands.proofs.Three.{of_module}
use Rattle.std.proofs.Common.{Ok, Err}
use Rattle.carousel_messages.specs.declared.Message.TheVariants as judged

module _ (x : Held) (ruled : ruled_of x.state ≡ true) (s : List ℕ) (formed : BlockSection s)
    (stale : version_of s ≡ block_version_of (payload_of (body_of s)) % 32 → ⊥) where
  says_nine : heard_of s ≡ refusal (refused 9)
  unfolding heard_of heard_in
  says_nine = ap (heard_in s) ((nine-exactly s).1 (formed, λ g. stale g.version))

  comes_to_nine : outcome_of x.state s x.image ≡ refusing (refused 9)
  unfolding on_heard
  comes_to_nine = outcome-ruled x.state s x.image ruled ∙ ap (on_heard (record_of x.state) x.image) says_nine

  -- REFUSED WITH 9, whatever was announced, if anything was, and whatever has come; and it changes nothing
  pub stale-refused : (stepped_of x.state s x.image ≡ record { answer = Err (refused 9); state = x.state }) × (image_of x.state s x.image ≡ x.image)
  unfolding stepped_of image_of
  stale-refused = (ap (λ (o : StepOutcome). returning x.state o) comes_to_nine, ap (λ (o : StepOutcome). image_after x.image o) comes_to_nine)

  -- the receiver answers the same
  pub stale-taken : (given_of x.state s x.image).fate ≡ Err (refused 9)
  unfolding carousel_fate stepped_of
  stale-taken =
      fate-other x.state s x.image (rw formed.table) ∙ ap (λ (a : Stepped). carousel_fate a.answer) (ap (λ (o : StepOutcome). returning x.state o) comes_to_nine)

  -- IT IS FOR NO MODULE: demand 3 passes over it
  pub stale_for-none : (k : ℕ) → is_for x k s ≡ false
  unfolding heard_for
  stale_for-none k = ap (heard_for (told x) (place_now x k)) says_nine

-- MATCHING NARROWS WITH IT: the section version of what matches, whenever it comes, is the announced version mod 32
pub matching-version : (x : Held) (k : ℕ) → Emptied x k → (ss : List (List ℕ)) → Keeps x k ss → (b : ℕ) (s : List ℕ) → Matched x k b ss s
    → version_of s ≡ (module_at (told x) (place_now x k)).version % 32
matching-version x k start ss n b s m =
    let w = of_module x k start ss n b s m in
    let h = (block-heard s w.block).0 w.heard in
    h.0.version ∙ ap (λ (v : ℕ). v % 32) (ap (λ (d : Arrived). d.version) h.1 ∙ w.announced_version)

-- THE SOUNDINGS OF THE REQUEST, as whole sections: module version 32 under section version 0 passes; 33 under 0 gives 9; 0 under 31 gives 9; 255 under 31 passes
pub soundings : (judged_of (messages.carrying 0xC1 32 (0xF3 ∷ 0x02 ∷ 0xC9 ∷ 0x0E ∷ [])) ≡ Ok (judged.Carried (messages.carried 32)))
    × (judged_of (messages.carrying 0xC1 33 (0xA8 ∷ 0xA3 ∷ 0x15 ∷ 0xC4 ∷ [])) ≡ Err (refused 9))
    × (judged_of (messages.carrying 0xFF 0 (0x4C ∷ 0xA6 ∷ 0xDE ∷ 0x0E ∷ [])) ≡ Err (refused 9))
    × (judged_of (messages.carrying 0xFF 255 (0x2B ∷ 0xC6 ∷ 0x0C ∷ 0x6A ∷ [])) ≡ Ok (judged.Carried (messages.carried 255)))
soundings = messages.versions
