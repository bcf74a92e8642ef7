-- `crc_tables::with_four` meets its contract.
use Rattle.crc_tables.specs.By.{◌⊕◌, four}
use Rattle.crc_tables.proofs.with_four.Goals as goal

pub returns : goal.returns
unfolding four
returns c =
    let e₃ = c.entry.ensures in
    let e₂ = c.entry-2.ensures in
    let e₁ = c.entry-3.ensures in
    let e₀ = c.entry-4.ensures in
    λ i. e₃ i ⊕ e₂ i ⊕ e₁ i ⊕ e₀ i
