-- `carousel_messages::modules::module_at` meets its contract: it lies where those before it end, if there is one more.
use mathlib.Core.Path.{◌≡◌, sym, ap, ◌∙◌}
use native.Mathlib.Omega.{arith}
use Prim.Native.Nat.{ℕ}
use mathlib.Core.List.{List}
use lib.ListN.{drop}
use Rattle.std.proofs.Common.{Some}
use Rattle.wire.specs.Items.{items, end_at, sized}
use Rattle.wire.proofs.Laws.Loops.{tail}
use Rattle.wire.proofs.Laws.Sizes.{sized-none, sized-has}
use Rattle.carousel_messages.specs.Contents.{module_kind}
use Rattle.carousel_messages.proofs.Laws.Listed.{listed-none, listed-past, listed-is, ends-within}
use Rattle.carousel_messages.proofs.modules.module_at.Goals as goal
use Rattle.carousel_messages.proofs.modules.module_at.Goals.{In_ok-i, After-measured_size}

found : (c : In_ok-i) → Some c.in_ok-i.i ≡ end_at c.args.place 0 (items module_kind c.args.list.now)
found c = sym c.in_ok-i.was ∙ c.measured_end.ensures

-- an item's size there, or none
size-is : (c : After-measured_size) → c.measured_size.result ≡ sized (module_kind (drop c.in_ok-i.i c.args.list.now))
size-is c = c.measured_size.ensures ∙ ap (λ (l : List ℕ). sized (module_kind l)) (tail c.args.list.now c.in_ok-i.i)

pub slice_bounds-measured_size-count : goal.slice_bounds-measured_size-count
slice_bounds-measured_size-count c = ends-within c.args.list.now c.args.place _ (found (goal.at.slice_bounds-measured_size-count c).In_ok-i)

pub slice_bounds-measured_size-start : goal.slice_bounds-measured_size-start
slice_bounds-measured_size-start c = ends-within c.args.list.now c.args.place _ (found (goal.at.slice_bounds-measured_size-start c).In_ok-i)

pub overflow_add-i : goal.overflow_add-i
overflow_add-i c = let w = ends-within c.args.list.now c.args.place _ (found (goal.at.overflow_add-i c).In_ok-i) in omega arith

pub overflow_add-i-2 : goal.overflow_add-i-2
overflow_add-i-2 c = let w = ends-within c.args.list.now c.args.place _ (found (goal.at.overflow_add-i-2 c).In_ok-i) in omega arith

pub returns-in_err-i : goal.returns-in_err-i
returns-in_err-i c = c.from_residual.ensures ∙ listed-none c.args.list.now c.args.place (sym c.in_err-i.was ∙ c.measured_end.ensures)

pub returns-in_err-measured_size : goal.returns-in_err-measured_size
returns-in_err-measured_size c =
    c.from_residual-in_err-measured_size.ensures ∙ listed-past c.args.list.now c.args.place _ (found (goal.at.returns-in_err-measured_size c).In_ok-i)
    (sized-none _ (sym c.in_err-measured_size.was ∙ size-is (goal.at.returns-in_err-measured_size c).After-measured_size))

pub returns : goal.returns
returns c =
    let h = sized-has _ _ (sym c.in_ok-measured_size.was ∙ size-is (goal.at.returns c).After-measured_size) in
    (λ i. Some (record { number = c.sixteen_at.ensures.0 i; size = c.thirty_two_at.ensures.0 i; version = c.byte_at.ensures.0 i }))
    ∙ listed-is c.args.list.now c.args.place _ (found (goal.at.returns c).In_ok-i) (λ z. h.1 (h.0 ∙ z))
