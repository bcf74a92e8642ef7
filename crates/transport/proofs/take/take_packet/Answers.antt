-- `transport::take::take_packet` meets its contract: the quick way for a plain packet; not taken; or what its payload came to.
use Prim.Native.Nat.{ℕ, ◌+◌, ◌≤◌}
use mathlib.Core.Path.{◌≡◌, sym, ap, subst, ◌∙◌}
use mathlib.Core.List.{List}
use native.Mathlib.Omega.{arith}
use lib.ListN.{length, take, drop}
use mathlib.Core.Bool.{Bool, true, false}
use Rattle.std.proofs.Common.{Option, Some, None, Ok, IsSomeAnd, option_copied}
use Rattle.wire.specs.Copies.{laid_at}
use Rattle.wire.proofs.Laws.Loops.{tail}
use Rattle.transport.specs.declared.Answer.TheVariants as answer
use Rattle.transport.specs.Feed.{is_head}
use Rattle.transport.specs.State.{hand_at}
use Rattle.transport.specs.Calls.{is_taken}
use Rattle.transport.specs.Pieces.{midway, Midway, Stepped, Plain}
use Rattle.transport.proofs.Laws.Packets.{sound}
use Rattle.transport.proofs.Laws.Rule.{full}
use Rattle.transport.proofs.Laws.Midway.{midway-few, midway-long, stepped-plain, stepped-over, hand-kept, kept-good, kept-few, clear_of, stepped-on}
use Rattle.transport.proofs.take.take_packet.Goals as goal
use Rattle.transport.proofs.take.take_packet.Goals.{Then-goes_on, After-is_taken, Else-not-is_taken, Start}

few : (s : Start) → s.args.held + 4287 ≤ 4097 + length s.args.state.now
few s = let h = midway-few _ _ _ _ s.requires.0 in let l = midway-long _ _ _ _ s.requires.0 in omega (arith, h, l)

plain : (c : Then-goes_on) → IsSomeAnd (option_copied c.args.last) (λ l. Plain c.args.pid l (take c.args.held (drop hand_at c.args.state.now)) c.args.p.now)
plain c = c.goes_on.ensures (c.if-goes_on.true)

-- there is a last one, then
stepped : (pid : ℕ) (last : Option (List ℕ)) (held : ℕ) (s : List ℕ) → Midway pid last held s → (p out : List ℕ)
    → IsSomeAnd last (λ l. Plain pid l (take held (drop hand_at s)) p)
    → Stepped pid (midway last held s) s held p out (Ok answer.Taken) 0 (held + 184) (laid_at s (hand_at + held) (drop 4 p)) out
stepped pid None held s m p out f = absurd f
stepped pid (Some l) held s m p out f = stepped-plain pid l held s m p out f

pub goes_on-requires : goal.goes_on-requires
goes_on-requires c = let f = few (goal.at.goes_on-requires c).Start in omega (arith, f)

pub overflow_add-held : goal.overflow_add-held
overflow_add-held c = let h = midway-few _ _ _ _ c.requires.0 in omega (arith, h)

pub overflow_add-result : goal.overflow_add-result
overflow_add-result c = let h = midway-few _ _ _ _ c.requires.0 in omega (arith, h)

pub returns-then-goes_on : goal.returns-then-goes_on
returns-then-goes_on c =
    subst
    (λ (x : List ℕ). Stepped c.args.pid (midway (option_copied c.args.last) c.args.held c.args.state.now)
    c.args.state.now c.args.held c.args.p.now c.args.out.now
    (Ok answer.Taken) 0 (c.args.held + 184) x c.args.out.now)
    (sym (c.copy_at.ensures ∙ ap (laid_at c.args.state.now (190 + c.args.held)) (tail c.args.p.now 4)))
    (stepped c.args.pid (option_copied c.args.last) c.args.held c.args.state.now c.requires.0 c.args.p.now c.args.out.now
    (plain (goal.at.returns-then-goes_on c).Then-goes_on))

-- whether it is taken
told : (c : After-is_taken) → (t : Bool) → c.is_taken.result ≡ t → is_taken c.judge-answer.result ≡ t
told c t e = sym c.is_taken.ensures ∙ e

taken : (c : Else-not-is_taken) → is_taken c.judge-answer.result ≡ true
taken c = told (goal.at.Else-not-is_taken c).After-is_taken true (c.if-not-is_taken.false)

pub judge-answer-requires : goal.judge-answer-requires
judge-answer-requires c = (midway-long _ _ _ _ c.requires.0, c.requires.0.2)

pub returns-then-not-is_taken : goal.returns-then-not-is_taken
returns-then-not-is_taken c =
    stepped-over c.args.pid (option_copied c.args.last) c.args.held c.args.state.now c.requires.0 c.args.p.now c.args.out.now _ c.judge-answer.ensures
    (told (goal.at.returns-then-not-is_taken c).After-is_taken false (c.if-not-is_taken.true))

pub take_payload-b-requires : goal.take_payload-b-requires
take_payload-b-requires c =
    let t = taken ((goal.at.take_payload-b-requires c).Else-not-is_taken) in
    let z = clear_of c.args.pid (option_copied c.args.last) c.args.held c.args.state.now c.requires.0 c.args.p.now c.args.out.now _ c.judge-answer.ensures t in
    let f = kept-few c.args.pid (option_copied c.args.last) c.args.held c.args.state.now c.requires.0 c.args.p.now c.args.out.now _ c.judge-answer.ensures in
    let n = c.kept.ensures in (
      full c.args.pid c.args.p.now z,
      sound c.args.pid c.args.p.now z,
      omega (arith, n, f),
      midway-long _ _ _ _ c.requires.0,
      ap (λ (i : ℕ). is_head (take i (drop hand_at c.args.state.now))) n
          ∙ kept-good c.args.pid (option_copied c.args.last) c.args.held c.args.state.now c.requires.0 c.args.p.now c.args.out.now _ c.judge-answer.ensures t,
      c.requires.1,
    )

pub returns : goal.returns
returns c =
    let t = taken ((goal.at.returns c).Else-not-is_taken) in
    let h = hand-kept c.args.pid (option_copied c.args.last) c.args.held c.args.state.now c.requires.0 c.args.p.now c.args.out.now _ c.judge-answer.ensures t
    ∙ sym (ap (λ (n : ℕ). take n (drop hand_at c.args.state.now)) c.kept.ensures) in
    stepped-on c.args.pid (option_copied c.args.last) c.args.held c.args.state.now c.requires.0 c.args.p.now c.args.out.now _ c.judge-answer.ensures t _ h _ _ _ _
    c.take_payload-b.ensures.0 c.take_payload-b.ensures.1 c.take_payload-b.ensures.2 c.take_payload-b.ensures.3
