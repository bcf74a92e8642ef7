-- Calls that put a text, one after another: what was put so far, and each piece is one line of a proof.
use Prim.Native.Nat.{ℕ}
use mathlib.Core.Path.{◌≡◌, refl, sym, ap, subst, ◌∙◌}
use mathlib.Core.List.{List, [], ◌++◌, append_assoc}
use lib.ListN.{length}
use lib.Seq.{sets}
use Rattle.text.specs.Text.{reached}
use Rattle.text.proofs.Laws.Puts.{Puts, Writing, puts_then, reached-none}

-- Where a promise is given in its two parts, `(told.0, told.1)`, a wrong program's log shows both texts.

-- from place i on, a writer put this text and came to place e: `Puts` as a record, from which every part is inferred
pub record Written (l : List ℕ) (i : ℕ) (a m : List ℕ) (e : ℕ) : Type 0 where
  pub puts : Puts l i a m e

-- the first piece, also as something that is the same
pub first : {l : List ℕ} {i : ℕ} (a : List ℕ) {m : List ℕ} {e : ℕ} → Puts l i a m e → Written l i a m e
first a p = record { puts = p }

pub first_as : {l : List ℕ} {i : ℕ} (a b : List ℕ) {m : List ℕ} {e : ℕ} → a ≡ b → Puts l i a m e → Written l i b m e
first_as {l} {i} a b {m} {e} h p = record { puts = subst (λ (x : List ℕ). Puts l i x m e) h p }

-- the next one, likewise
pub then : {l : List ℕ} {i : ℕ} {a m : List ℕ} {j : ℕ} → Written l i a m j → (b : List ℕ) {k : List ℕ} {e : ℕ} → Puts m j b k e → Written l i (a ++ b) k e
then {l} {i} {a} {m} {j} w b {k} {e} p = record { puts = puts_then l i a b m k j e w.puts p }

pub then_as : {l : List ℕ} {i : ℕ} {a m : List ℕ} {j : ℕ} → Written l i a m j → (b c : List ℕ) {k : List ℕ} {e : ℕ} → b ≡ c → Puts m j b k e → Written l i (a ++ c) k e
then_as {l} {i} {a} {m} {j} w b c {k} {e} h p = then w c (subst (λ (x : List ℕ). Puts m j x k e) h p)

-- the whole, said otherwise
pub said : {l : List ℕ} {i : ℕ} {a b m : List ℕ} {e : ℕ} → Written l i a m e → a ≡ b → Puts l i b m e
said {l} {i} {a} {b} {m} {e} w h = subst (λ (x : List ℕ). Puts l i x m e) h w.puts

-- a call that puts four
pub then-four : {l : List ℕ} {i : ℕ} {w m : List ℕ} {j : ℕ} → Written l i w m j → (a b c d : List ℕ) {k : List ℕ} {e : ℕ} → Puts m j (a ++ b ++ c ++ d) k e → Written l i (w ++ a ++ b ++ c ++ d) k e
then-four {l} {i} {w} p a b c d {k} {e} q = record { puts = said (then p (a ++ b ++ c ++ d) q) four }
  where
    four : w ++ (a ++ b ++ c ++ d) ≡ w ++ a ++ b ++ c ++ d
    four =
        sym (append_assoc w (a ++ b ++ c) d)
        ∙ ap (λ (x : List ℕ). x ++ d) (sym (append_assoc w (a ++ b) c))
        ∙ ap (λ (x : List ℕ). x ++ c ++ d) (sym (append_assoc w a b))

-- nothing is put
pub nothing : (l : List ℕ) (i : ℕ) (b : List ℕ) → b ≡ [] → Puts l i b l i
nothing l i b h = subst (λ (x : List ℕ). Puts l i x l i) (sym h) (refl, sym (reached-none i (length l)))

-- a writer who has all still to put
pub starts : (l : List ℕ) (i : ℕ) (a b : List ℕ) → a ≡ b → Writing l i a l i b
starts l i a b h = (ap (sets l i) h, ap (λ (x : List ℕ). reached i (length x) (length l)) h)
