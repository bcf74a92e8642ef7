-- `ait_descriptors::kinds::count` meets its contract: the invariant is wire's `Counting`, with no test.
use Prim.Native.Nat.{ℕ}
use mathlib.Core.Path.{refl, sym, ◌∙◌}
use mathlib.Core.Bool.{true}
use mathlib.Core.List.{List}
use Rattle.wire.proofs.Laws.Sizes.{sized-has, sized-none}
use Rattle.wire.proofs.Laws.Loops.{count-stop, count_hit}
use Rattle.ait_descriptors.specs.Kinds.{size_of}
use Rattle.ait_descriptors.proofs.Laws.Kinds.{kind_of_lem, count-all}
use Rattle.ait_descriptors.proofs.kinds.count.Goals as goal

pub loop-n-preserved : goal.loop-n-preserved
loop-n-preserved c =
    let h = sized-has _ _ c.in-Some.ensures.0 in
    count_hit (size_of _) (kind_of_lem _) _ _ _ h.0 (λ (x : List ℕ). true) _ c.loop-n.invariant h.1 refl

pub returns : goal.returns
returns c =
    let z = sym (sized-none _ c.in_default.ensures.0) in
    count-stop (size_of _) (kind_of_lem _) _ _ _ z (λ (x : List ℕ). true) _ c.loop-n.invariant refl ∙ count-all _ _
