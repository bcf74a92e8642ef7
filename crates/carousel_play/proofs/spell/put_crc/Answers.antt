-- `carousel_play::spell::put_crc` meets its contract: the CRC read is that of the first bytes, and it is put after them.
use Prim.Native.Nat.{ℕ, ◌+◌, ◌-◌, ◌≤◌}
use mathlib.Core.Path.{◌≡◌, ap, ◌∙◌}
use native.Mathlib.Omega.{arith}
use lib.ListN.{length, take}
use lib.Seq.{sets}
use Rattle.wire.specs.Fields.{spelled}
use Rattle.wire.proofs.Laws.Fields.{spelled_length}
use Rattle.section.specs.Crc.{crc_of}
use Rattle.text.specs.Text.{reached}
use Rattle.text.proofs.Laws.Puts.{reached-fits}
use Rattle.carousel_play.proofs.spell.put_crc.Goals as goal

pub returns : goal.returns
returns c =
    let a = c.args in
    let p = c.put_thirty_two in
    let k = c.crc-crc in
    let l = a.out.now in
    let room : a.size + 4 ≤ length l = c.requires in
    let z : a.size - 0 ≡ a.size = omega arith in
    let e : k.result ≡ crc_of (take a.size l) = k.ensures ∙ ap (λ (n : ℕ). crc_of (take n l)) z in (
      p.ensures.0 ∙ ap (λ (n : ℕ). sets l a.size (spelled 4 n)) e,
      p.ensures.1 ∙ ap (λ (n : ℕ). reached a.size n (length l)) (spelled_length 4 k.result) ∙ reached-fits a.size 4 (length l) room,
    )
