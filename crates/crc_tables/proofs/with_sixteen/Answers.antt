-- `crc_tables::with_sixteen` meets its contract.
use mathlib.Core.Path.{ap, ◌∙◌}
use Rattle.crc_tables.specs.By.{◌⊕◌, four, sixteen}
use Rattle.crc_tables.proofs.Laws.Walk.{rest}
use Rattle.crc_tables.proofs.with_sixteen.Goals as goal

pub returns : goal.returns
unfolding sixteen
returns c =
    let a = c.args in
    let e₁ = c.with_four.ensures ∙ ap (four a.t.now 8 0) (rest a.s.now 4) in
    let e₂ = c.with_four-2.ensures ∙ ap (four a.t.now 4 0) (rest a.s.now 8) in
    let e₃ = c.with_four-3.ensures ∙ ap (four a.t.now 0 0) (rest a.s.now 12) in
    let e₀ = c.with_four-4.ensures in
    λ i. e₁ i ⊕ e₂ i ⊕ e₃ i ⊕ e₀ i
