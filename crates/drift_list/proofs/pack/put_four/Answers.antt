-- `drift_list::pack::put_four` meets its contract.
use Prim.Native.Nat.{ℕ, ◌+◌, ◌-◌, ◌/◌, ◌%◌, ◌≤◌}
use mathlib.Core.Path.{◌≡◌, ap, ◌∙◌}
use mathlib.Core.List.{List, [], ◌∷◌, append_assoc}
use native.Mathlib.Omega.{arith}
use lib.ListN.{length}
use lib.Seq.{sets, sets-eq}
use Rattle.std.proofs.lemmas.List.{drop-drop}
use borrow.Rule.Slice.PartMut.{put_mid}
use mir.Syntax.{w32}
use Rattle.std.specs.Int.{to_be_bytes}
use Rattle.wire.specs.Fields.{spelled}
use Rattle.wire.proofs.Laws.Fields.{spelled_length}
use Rattle.drift_list.proofs.pack.put_four.Goals as goal

bytes-spelled : (x : ℕ) → to_be_bytes w32 x ≡ spelled 4 x
unfolding spelled
bytes-spelled x = let z : x % 256 ≡ x / 1 % 256 = omega arith in ap (λ (b : ℕ). x / 16777216 % 256 ∷ x / 65536 % 256 ∷ x / 256 % 256 ∷ b ∷ []) z

-- a part that is written is put
part-put : (l : List ℕ) (i n : ℕ) (bs : List ℕ) → n ≡ length bs → i + length bs ≤ length l → put_mid i n l bs ≡ sets l i bs
part-put l i n bs e h = rw (e, sets-eq bs l i h, append_assoc, drop-drop (length bs) i l)

pub returns : goal.returns
returns c =
    let a = c.args in
    let e : c.copy_from_slice.new.self ≡ spelled 4 a.x = c.copy_from_slice.ensures.after ∙ c.to_be_bytes.ensures ∙ bytes-spelled a.x in
    let w = spelled_length 4 a.x in
    ap (put_mid a.at (a.at + 4 - a.at) a.out.now) e ∙ part-put a.out.now a.at (a.at + 4 - a.at) (spelled 4 a.x) (omega arith) (omega arith)
