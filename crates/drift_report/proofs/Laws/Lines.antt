-- The lines of a list, one record after another.
use Prim.Native.Nat.{ℕ, suc, ◌+◌, ◌-◌, ◌<◌, ◌≤◌}
use mathlib.Core.Path.{◌≡◌, refl, ap, ◌∙◌}
use mathlib.Core.List.{[], ◌++◌}
use native.Mathlib.Omega.{arith}
use lib.IntN.{ℤ}
use Rattle.text.specs.Text.{codes, word_at}
use Rattle.drift_list.specs.declared.Fix.{Fix}
use Rattle.drift_list.specs.declared.State.{State}
use Rattle.drift_list.specs.declared.State.TheVariants as state
use Rattle.drift_list.specs.Values.{state_number}
use Rattle.drift_report.specs.Lines.{state_name, place, position, fix_line, fix_lines}

-- a state's name stands in the program's text where its number says
pub state-word : (s : State) → word_at (state_number s) (codes "none fix last") ≡ state_name s
unfolding word_at state_name state_number
state-word state.None = refl
state-word state.Fix = refl
state-word state.LastKnown = refl

-- a position only where the state is not "none"
pub position-none : (s : State) (x y : ℤ) → state_number s ≡ 0 → position s x y ≡ []
unfolding position state_number
position-none state.None x y e = refl
position-none state.Fix x y e = absurd (omega arith)
position-none state.LastKnown x y e = absurd (omega arith)

pub position_some : (s : State) (x y : ℤ) → (state_number s ≡ 0 → ⊥) → place x y ≡ position s x y
unfolding position state_number
position_some state.None x y n = absurd (n refl)
position_some state.Fix x y n = refl
position_some state.LastKnown x y n = refl

-- a loop over the records: at the first, and at record k of n
pub lines-all : (n : ℕ) (f : ℕ → Fix) → fix_lines (n - 0) 0 f ≡ fix_lines n 0 f
lines-all n f = let z : n - 0 ≡ n = omega arith in ap (λ (m : ℕ). fix_lines m 0 f) z

module _ (n k : ℕ) (f : ℕ → Fix) where
  pub lines-done : n ≤ k → fix_lines (n - k) k f ≡ []
  unfolding fix_lines
  lines-done h = let z : n - k ≡ 0 = omega arith in ap (λ (m : ℕ). fix_lines m k f) z

  pub lines-on : k < n → fix_lines (n - k) k f ≡ fix_line (f k) ++ fix_lines (n - (k + 1)) (k + 1) f
  unfolding fix_lines
  lines-on h =
      let z : n - k ≡ suc (n - (k + 1)) = omega arith in
      let o : suc k ≡ k + 1 = omega arith in
      ap (λ (m : ℕ). fix_lines m k f) z ∙ ap (λ (j : ℕ). fix_line (f k) ++ fix_lines (n - (k + 1)) j f) o
