-- Calls of any kind, one after another, leave what one-section calls leave over the sections that they took.
use Prim.Native.Nat.{ℕ}
use mathlib.Core.Path.{◌≡◌, refl, sym, ap, ◌∙◌}
use mathlib.Core.Bool.{Bool, true, false, cond, ◌||◌}
use mathlib.Core.List.{List, [], ◌∷◌, ◌++◌}
use lib.Dec.{eqb}
use lib.ListN.{take}
use Rattle.section.specs.Whole.{whole_at}
use Rattle.carousel_record.specs.Record.{ruled_of}
use Rattle.carousel_step.specs.Step.{outcome_of, stepped_of, image_of}
use Rattle.receiver.specs.declared.Took.{Took}
use Rattle.receiver.specs.Run.{stop_at, stopped_by, given_of, image_given, took_of, image_took, RunOutcome, Held, given, walk}
use Rattle.receiver.proofs.Laws.Runs.{took-state, run-state, run-ruled}
use Rattle.receiver.proofs.Runs.{held_by, run_walks}
use Rattle.demands.specs.Demand.{Call, stepping, taking, running, left_after, called, took_one, took_by}
use Rattle.demands.proofs.Given.{given-steps}
use Rattle.demands.proofs.Walks.{next_rule}
use Rattle.std.proofs.Common.{Ok}

pub walk-both : (x : Held) (ss us : List (List ℕ)) → walk x (ss ++ us) ≡ walk (walk x ss) us
unfolding walk
walk-both x [] us = refl
walk-both x (s ∷ ss) us = walk-both (given x s) ss us

pub walk_rule : (x : Held) (ss : List (List ℕ)) → ruled_of x.state ≡ true → ruled_of (walk x ss).state ≡ true
unfolding walk
walk_rule x [] r = r
walk_rule x (s ∷ ss) r = walk_rule (given x s) ss (next_rule x s r)

-- A RECORD THAT BREAKS ITS RULE is left as it is by every call, and so is the image
module _ (x : Held) (r : ruled_of x.state ≡ false) where
  broken-step : (s : List ℕ) → left_after x (stepping s) ≡ x
  unfolding stepped_of image_of outcome_of
  broken-step s = rw r refl

  pub broken-walk : (ss : List (List ℕ)) → walk x ss ≡ x
  unfolding walk
  broken-walk [] = refl
  broken-walk (s ∷ ss) = ap (λ (y : Held). walk y ss) (given-steps x s ∙ broken-step s) ∙ broken-walk ss

  broken_call : (c : Call) → left_after x c ≡ x
  broken_call (stepping s) = broken-step s
  broken_call (taking s n) = let h = took-state x.state s x.image n r in λ i. record { state = (h.0 i).state; image = h.1 i }
  broken_call (running s n) = ap (λ (o : RunOutcome). held_by o) (run-state x.state s x.image n r)

-- one call, of a record that keeps its rule
ruled_call : (x : Held) (c : Call) → ruled_of x.state ≡ true → left_after x c ≡ walk x (took_one c)
unfolding walk took_of image_took
ruled_call x (stepping s) r = sym (given-steps x s)
ruled_call x (taking s n) r = rw r (go (eqb (whole_at s) 0 || eqb n 0))
  where
    one : List ℕ
    one = take (whole_at s) s

    taken : Took
    taken = record { what = Ok (record { length = whole_at s; fate = (given_of x.state one x.image).fate }); state = (given_of x.state one x.image).state }

    go : (t : Bool) → ◌≡◌ {A = Held} (record { state = (cond t (stopped_by x.state (stop_at s)) taken).state; image = cond t x.image (image_given x.state one x.image) })
        (walk x (cond t [] (one ∷ [])))
    go true = refl
    go false = refl
ruled_call x (running s n) r = ap (λ (o : RunOutcome). held_by o) (run-ruled x.state s x.image n r) ∙ (run_walks n x.state s x.image).0

-- and of any record
one_call : (x : Held) (c : Call) → left_after x c ≡ walk x (took_one c)
one_call x c = go (ruled_of x.state) refl
  where
    go : (t : Bool) → ruled_of x.state ≡ t → left_after x c ≡ walk x (took_one c)
    go true r = ruled_call x c r
    go false r = broken_call x r c ∙ sym (broken-walk x r (took_one c))

pub called_walks_any : (x : Held) (cs : List Call) → called x cs ≡ walk x (took_by cs)
unfolding called took_by walk
called_walks_any x [] = refl
called_walks_any x (c ∷ cs) = called_walks_any (left_after x c) cs ∙ ap (λ (y : Held). walk y (took_by cs)) (one_call x c) ∙ sym (walk-both x (took_one c) (took_by cs))

-- of a record that keeps its rule
pub called_walks : (x : Held) (cs : List Call) → ruled_of x.state ≡ true → called x cs ≡ walk x (took_by cs)
called_walks x cs r = called_walks_any x cs
