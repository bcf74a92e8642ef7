-- `crc_tables::up_to_15` meets its contract.
use Prim.Native.Nat.{◌-◌}
use mathlib.Core.Path.{◌≡◌, sym, ap, ap₂, ◌∙◌}
use lib.ListN.{length, take, drop}
use lib.Bits.{bit_xor}
use Rattle.crc_tables.specs.By.{from_clear}
use Rattle.crc_tables.proofs.Laws.Walk.{rest, under4, from4}
use Rattle.crc_tables.proofs.up_to_15.Goals as goal

pub returns-then-s-lt4 : goal.returns-then-s-lt4
returns-then-s-lt4 c = c.with_ones.ensures ∙ sym (under4 _ _ _ c.if-s-lt4.true)

pub returns : goal.returns
returns c =
    let a = c.args in
    let t = a.t.now in
    let s = a.s.now in
    let e : c.from_clear.result ≡ from_clear t (take (length s - 4) (drop 4 s)) = c.from_clear.ensures in
    ap₂ bit_xor (e ∙ ap (from_clear t) (rest s 4)) c.with_four.ensures ∙ sym (from4 t a.r s c.if-s-lt4.false)
