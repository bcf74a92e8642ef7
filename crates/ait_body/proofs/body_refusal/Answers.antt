-- `ait_body::body_refusal` meets its contract.
use mathlib.Core.Path.{◌≡◌, sym, ap, ◌∙◌}
use native.Mathlib.Omega.{arith}
use Prim.Native.Nat.{ℕ, ◌+◌}
use lib.ListN.{length, take, drop}
use Rattle.wire.specs.Outcomes.{passed}
use Rattle.wire.specs.Fields.{twelve_at}
use Rattle.wire.proofs.Laws.Finders.{part}
use Rattle.wire.proofs.Laws.Loops.{tail}
use Rattle.ait_descriptors.specs.Contents.{walked_of}
use Rattle.ait_body.specs.Body.{common_length, loop_length, common_loop, applications_refusal}
use Rattle.ait_body.proofs.Laws.Body.{walked_bad, walked-good, is7, uneven, common_bad, applications_decide}
use Rattle.ait_body.proofs.body_refusal.Goals as goal
use Rattle.ait_body.proofs.body_refusal.Goals.{After-twelve_at, After-walk_loop}

-- what the calls answered: the two lengths, that they end with the body, and what stands in the common loop
lengths : (c : After-twelve_at) → (c.twelve_at-n.result ≡ common_length c.args.b.now)
    × (c.twelve_at.result ≡ loop_length c.args.b.now)
lengths c =
    let n = c.twelve_at-n.ensures.0 in
    (n, c.twelve_at.ensures.0 ∙ ap (λ (x : ℕ). twelve_at c.args.b.now (2 + x)) n)

common : (c : After-walk_loop) → c.walk_loop.result ≡ walked_of (common_loop c.args.b.now)
common c =
    let b = c.args.b.now in
    let n = c.twelve_at-n.ensures.0 in
    c.walk_loop.ensures ∙ ap walked_of (part b 2 c.twelve_at-n.result ∙ ap (λ (x : ℕ). take x (drop 2 b)) n)

pub returns-then-at-twelve_at : goal.returns-then-at-twelve_at
returns-then-at-twelve_at c = let n = lengths (goal.at.returns-then-at-twelve_at c).After-twelve_at in ap passed (is7 _ (uneven _ (λ e. omega (arith, n, c.if-at-twelve_at.true))))

pub returns-in-None : goal.returns-in-None
returns-in-None c =
    let b = c.args.b.now in
    let n = lengths (goal.at.returns-in-None c).After-twelve_at in
    let e : 4 + common_length b + loop_length b ≡ length b = omega (arith, n) in
    ap passed (is7 _ (common_bad _ e (walked_bad _ (sym (common (goal.at.returns-in-None c).After-walk_loop) ∙ c.in-None.is))))

pub returns-in-Some : goal.returns-in-Some
returns-in-Some c =
    let b = c.args.b.now in
    let n = lengths (goal.at.returns-in-Some c).After-twelve_at in
    let e : 4 + common_length b + loop_length b ≡ length b = omega (arith, n) in
    c.applications_refusal.ensures ∙ ap passed (ap applications_refusal (tail b _ ∙ ap (λ (x : ℕ). drop (4 + x) b) n.0)
    ∙ applications_decide b e (walked-good _ _ (sym (common (goal.at.returns-in-Some c).After-walk_loop) ∙ c.in-Some.is)).0)
