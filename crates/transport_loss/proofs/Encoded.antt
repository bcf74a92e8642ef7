-- WHAT THE ENCODER WRITES, THE RECEIVER HANDS ON: every legal way to cut sections into packets gives a well-formed stream of them.
use Prim.Native.Nat.{ℕ, zero, suc, ◌<◌, ◌≤◌}
use mathlib.Core.Path.{◌≡◌, refl, sym, ap, ap₂, subst, ◌∙◌}
use mathlib.Core.Bool.{Bool, true, false, cond}
use mathlib.Core.List.{List, [], ◌∷◌, ◌++◌, append_assoc}
use native.Mathlib.Omega.{arith}
use lib.Dec.{ltb}
use lib.ListN.{length, take, drop, length-drop, take-append-drop}
use lib.Seq.{length-take-le}
use borrow.Author.Tests.{ltb-true}
use Rattle.wire.specs.Items.{Wholes}
use Rattle.section.specs.Whole.{whole_at}
use Rattle.transport.specs.Feed.{fresh, handed_on}
use Rattle.transport_loss.specs.Stream.{Sent, idle, middle, final, start, turned, sent_so_far, Some, Section, Head, EndsHand, Opens, Fits, Aired}
use Rattle.transport_loss.specs.Stream.{WellSent, ending, inside, ends_in, hurt_so_far, carried, all_of, spared, Carry, comes, packets, payloads}
use Rattle.transport_loss.specs.Encoder.{Desk, desk, Cut, pause, on, fill, begin, first_of, Legal, cut_off, desk_after, due_of, due, Choice, Choices, encoded, desk_last}
use Rattle.transport_loss.proofs.Laws.Sections.{beginning}
use Rattle.transport_loss.specs.Promise.{with_loss}
use Rattle.transport_loss.proofs.Promise.{all-handed-on, bytes-both, one_loss, well-lost, same-sections, unharmed_loss}
use Rattle.transport_loss.proofs.Laws.Written.{view-written, not-refused}

-- the desk is in order: the section in hand is begun and not ended, and all others are whole
abbrev pub Begun : (done left : List ℕ) → Type 0
Begun [] l = l ≡ []
Begun (x ∷ d) l = Some l × Section ((x ∷ d) ++ l)

abbrev pub InOrder : Desk → Type 0
InOrder d = Begun d.done d.left × Wholes whole_at d.later

long-some : (l : List ℕ) → 0 < length l → Some l
long-some l p e = let z : length l ≡ 0 = ap (λ (m : List ℕ). length m) e in omega arith

some-long : (l : List ℕ) → Some l → 0 < length l
some-long [] s = absurd (s refl)
some-long (x ∷ l) s = omega arith

begun-some : (d l : List ℕ) → Begun d l → Some l → Some d × Section (d ++ l)
begun-some [] l b s = absurd (s b)
begun-some (x ∷ d) l b s = (long-some (x ∷ d) (omega arith), b.1)

some-begun : (d l : List ℕ) → Some d → Some l → Section (d ++ l) → Begun d l
some-begun [] l s t w = absurd (s refl)
some-begun (x ∷ d) l s t w = (t, w)

begun-ends : (d l : List ℕ) → Begun d l → EndsHand d l
begun-ends [] l b = b
begun-ends (x ∷ d) l b = b.1

head-opens : (g : List ℕ) → Head g → Opens g 0
head-opens [] h = tt
head-opens (x ∷ g) h = (h, refl)

due-some : (d l : List ℕ) → Some d → due_of d l ≡ (d ++ l) ∷ []
due-some [] l s = absurd (s refl)
due-some (x ∷ d) l s = refl

some-front : (d e : List ℕ) → Some d → Some (d ++ e)
some-front [] e s = absurd (s refl)
some-front (x ∷ d) e s = long-some (x ∷ (d ++ e)) (omega arith)

wholes_take : (k : ℕ) (ws : List (List ℕ)) → Wholes whole_at ws → Wholes whole_at (take k ws)
wholes_take zero ws w = tt
wholes_take (suc k) [] w = tt
wholes_take (suc k) (x ∷ ws) w = (w.0, wholes_take k ws w.1)

wholes_drop : (k : ℕ) (ws : List (List ℕ)) → Wholes whole_at ws → Wholes whole_at (drop k ws)
wholes_drop zero ws w = w
wholes_drop (suc k) [] w = tt
wholes_drop (suc k) (x ∷ ws) w = wholes_drop k ws w.1

-- a section in two parts
module _ (f : List ℕ) (n : ℕ) (p : 0 < n) (l : n < length f) where
  front-some : Some (take n f)
  front-some = let k = length-take-le n f (omega arith) in long-some (take n f) (omega arith)

  back_some : Some (drop n f)
  back_some = let k = length-drop n f in long-some (drop n f) (omega arith)

first-whole : (ws : List (List ℕ)) → Wholes whole_at ws → 0 < length (first_of ws) → Section (first_of ws) × (first_of ws ∷ drop 1 ws ≡ ws)
first-whole [] w p = absurd (omega arith)
first-whole (x ∷ ws) w p = (w.0, refl)

-- ONE CUT
module _ (d : Desk) (o : InOrder d) where
  module _ (n : ℕ) (s : Some d.left) (p : 0 < n) where
    module _ (l : n < length d.left) where
      on-whole : Section ((d.done ++ take n d.left) ++ drop n d.left)
      on-whole =
          let e = append_assoc d.done (take n d.left) (drop n d.left) ∙ ap (λ (r : List ℕ). d.done ++ r) (take-append-drop n d.left) in
          subst (λ (r : List ℕ). Section r) (sym e) (begun-some d.done d.left o.0 s).1

      on_some : Some (d.done ++ take n d.left)
      on_some = some-front d.done (take n d.left) (begun-some d.done d.left o.0 s).0

      on-head : Head (d.done ++ take n d.left)
      on-head = beginning (d.done ++ take n d.left) (drop n d.left) on_some (back_some d.left n p l) on-whole

  pub cut_fits : (k : Cut) → Legal d k → Fits d.done (cut_off d k)
  cut_fits pause g = tt
  cut_fits (on n m) g = go (ltb n (length d.left)) refl
    where
      go : (t : Bool) → ltb n (length d.left) ≡ t → Fits d.done (cond t (middle (take n d.left)) (final d.left m))
      go true e =
          let l = ltb-true n (length d.left) e in
          ((begun-some d.done d.left o.0 g.0).0, front-some d.left n g.1 l, on-head n g.0 g.1 l)
      go false e = begun-some d.done d.left o.0 g.0
  cut_fits (fill k m) g = (begun-ends d.done d.left o.0, wholes_take k d.later o.1, tt)
  cut_fits (begin k n) g =
      let f : List ℕ = first_of (drop k d.later) in
      let w = (first-whole (drop k d.later) (wholes_drop k d.later o.1) (omega (arith, g.1))).0 in
      let w' = subst (λ (r : List ℕ). Section r) (sym (take-append-drop n f)) w in (
        begun-ends d.done d.left o.0,
        wholes_take k d.later o.1,
        head-opens (take n f) (beginning (take n f) (drop n f) (front-some f n g.0 g.1) (back_some f n g.0 g.1) w'),
      )

  pub cut-done : (k : Cut) → sent_so_far d.done (cut_off d k) ≡ (desk_after d k).done
  cut-done pause = refl
  cut-done (on n m) = go (ltb n (length d.left))
    where
      go : (t : Bool) → sent_so_far d.done (cond t (middle (take n d.left)) (final d.left m))
          ≡ (cond {A = Desk} t (record { done = d.done ++ take n d.left; left = drop n d.left; later = d.later }) (record { done = []; left = []; later = d.later })).done
      go true = refl
      go false = refl
  cut-done (fill k m) = refl
  cut-done (begin k n) = refl

  pub cut-order : (k : Cut) → Legal d k → InOrder (desk_after d k)
  cut-order pause g = o
  cut-order (on n m) g = go (ltb n (length d.left)) refl
    where
      go : (t : Bool) → ltb n (length d.left) ≡ t
          → InOrder (cond t (record { done = d.done ++ take n d.left; left = drop n d.left; later = d.later }) (record { done = []; left = []; later = d.later }))
      go true e =
          let l = ltb-true n (length d.left) e in
          (some-begun (d.done ++ take n d.left) (drop n d.left) (on_some n g.0 g.1 l) (back_some d.left n g.1 l) (on-whole n g.0 g.1 l), o.1)
      go false e = (refl, o.1)
  cut-order (fill k m) g = (refl, wholes_drop k d.later o.1)
  cut-order (begin k n) g =
      let f : List ℕ = first_of (drop k d.later) in
      let w = (first-whole (drop k d.later) (wholes_drop k d.later o.1) (omega (arith, g.1))).0 in
      let w' = subst (λ (r : List ℕ). Section r) (sym (take-append-drop n f)) w in
      (some-begun (take n f) (drop n f) (front-some f n g.0 g.1) (back_some f n g.0 g.1) w', wholes_drop 1 (drop k d.later) (wholes_drop k d.later o.1))

-- THE SECTIONS: those that end in the packet, and those still due, were due before
ending-due : (d l : List ℕ) → all_of (ending d false l) ≡ due_of d l
unfolding all_of
ending-due [] l = refl
ending-due (x ∷ d) l = refl

inside-due : (ws : List (List ℕ)) → all_of (inside false ws) ≡ ws
unfolding all_of
inside-due [] = refl
inside-due (w ∷ ws) = ap (λ (l : List (List ℕ)). w ∷ l) (inside-due ws)

final-due : (d l : List ℕ) (m : ℕ) → all_of (ends_in d false false (final l m)) ≡ (d ++ l) ∷ []
unfolding all_of
final-due d l m = refl

silent : all_of [] ≡ []
unfolding all_of
silent = refl

started : (d l : List ℕ) (ws us vs : List (List ℕ)) → ws ++ vs ≡ us → all_of (ending d false l ++ inside false ws) ++ vs ≡ due_of d l ++ us
started d l ws us vs e =
    ap (λ (x : List (List ℕ)). x ++ vs) (bytes-both (ending d false l) (inside false ws) ∙ ap₂ (λ (x y : List (List ℕ)). x ++ y) (ending-due d l) (inside-due ws))
    ∙ append_assoc (due_of d l) ws vs
    ∙ ap (λ (x : List (List ℕ)). due_of d l ++ x) e

pub cut-due : (d : Desk) → InOrder d → (k : Cut) → Legal d k → all_of (ends_in d.done false false (cut_off d k)) ++ due (desk_after d k) ≡ due d
cut-due d o pause g = ap (λ (x : List (List ℕ)). x ++ due d) silent
cut-due d o (on n m) g = go (ltb n (length d.left)) refl
  where
    b : Some d.done × Section (d.done ++ d.left)
    b = begun-some d.done d.left o.0 g.0

    before : due d ≡ (d.done ++ d.left) ∷ d.later
    before = ap (λ (x : List (List ℕ)). x ++ d.later) (due-some d.done d.left b.0)

    go : (t : Bool) → ltb n (length d.left) ≡ t
        → all_of (ends_in d.done false false (cond t (middle (take n d.left)) (final d.left m)))
        ++ due (cond t (record { done = d.done ++ take n d.left; left = drop n d.left; later = d.later }) (record { done = []; left = []; later = d.later }))
        ≡ due d
    go true e =
        let s = some-front d.done (take n d.left) b.0 in
        let j = append_assoc d.done (take n d.left) (drop n d.left) ∙ ap (λ (r : List ℕ). d.done ++ r) (take-append-drop n d.left) in
        ap (λ (x : List (List ℕ)). x ++ (due_of (d.done ++ take n d.left) (drop n d.left) ++ d.later)) silent
        ∙ ap (λ (x : List (List ℕ)). x ++ d.later) (due-some (d.done ++ take n d.left) (drop n d.left) s)
        ∙ ap (λ (x : List ℕ). x ∷ d.later) j
        ∙ sym before
    go false e = ap (λ (x : List (List ℕ)). x ++ d.later) (final-due d.done d.left m) ∙ sym before
cut-due d o (fill k m) g = started d.done d.left (take k d.later) d.later (drop k d.later) (take-append-drop k d.later)
cut-due d o (begin k n) g =
    let f : List ℕ = first_of (drop k d.later) in
    let w = (first-whole (drop k d.later) (wholes_drop k d.later o.1) (omega (arith, g.1))).1 in
    let e : due_of (take n f) (drop n f) ++ drop 1 (drop k d.later) ≡ drop k d.later =
    ap (λ (x : List (List ℕ)). x ++ drop 1 (drop k d.later)) (due-some (take n f) (drop n f) (front-some f n g.0 g.1) ∙ ap (λ (x : List ℕ). x ∷ []) (take-append-drop n f)) ∙ w in
    started d.done d.left (take k d.later) d.later (due_of (take n f) (drop n f) ++ drop 1 (drop k d.later))
    (ap (λ (x : List (List ℕ)). take k d.later ++ x) e ∙ take-append-drop k d.later)

-- MANY CUTS
turned_lt : (c : ℕ) (s : Sent) → c < 16 → turned c s < 16
turned_lt c idle l = l
turned_lt c (middle bs) l = omega arith
turned_lt c (final bs n) l = omega arith
turned_lt c (start e ws h n) l = omega arith

none-hurt : (s : Sent) → hurt_so_far false false s ≡ false
none-hurt idle = refl
none-hurt (middle bs) = refl
none-hurt (final bs j) = refl
none-hurt (start d ws g j) = refl

module _ (pid : ℕ) (pl : pid < 8192) where
  pub encoded_well : (ks : List Choice) (c : ℕ) (d : Desk) → c < 16 → InOrder d → Choices pid c d ks → WellSent pid c d.done (comes (encoded pid c d ks))
  unfolding comes encoded
  encoded_well [] c d l o g = tt
  encoded_well (k ∷ ks) c d l o g =
      let s : Sent = cut_off d k.cut in
      let t = turned_lt c s l in
      let ih = encoded_well ks (turned c s) (desk_after d k.cut) t (cut-order d o k.cut g.0) g.2 in (
        not-refused pid (turned c s) k.extra s pl t g.1,
        view-written pid (turned c s) k.extra s pl t,
        cut_fits d o k.cut g.0,
        subst (λ (h : List ℕ). WellSent pid (turned c s) h (comes (encoded pid (turned c s) (desk_after d k.cut) ks))) (sym (cut-done d o k.cut)) ih,
      )

  pub encoded-due : (ks : List Choice) (c : ℕ) (d : Desk) → InOrder d → Choices pid c d ks
      → all_of (carried d.done false (comes (encoded pid c d ks))) ++ due (desk_last d ks) ≡ due d
  unfolding comes encoded desk_last carried
  encoded-due [] c d o g = ap (λ (x : List (List ℕ)). x ++ due d) silent
  encoded-due (k ∷ ks) c d o g =
      let s : Sent = cut_off d k.cut in
      let rs : List Aired = comes (encoded pid (turned c s) (desk_after d k.cut) ks) in
      let z : List (List ℕ) = due (desk_last (desk_after d k.cut) ks) in
      let ih = encoded-due ks (turned c s) (desk_after d k.cut) (cut-order d o k.cut g.0) g.2 in
      let e : carried (sent_so_far d.done s) (hurt_so_far false false s) rs ≡ carried (desk_after d k.cut).done false rs =
      ap₂ (λ (h : List ℕ) (l : Bool). carried h l rs) (cut-done d o k.cut) (none-hurt s) in
      ap (λ (x : List (List ℕ)). x ++ z) (bytes-both (ends_in d.done false false s) (carried (sent_so_far d.done s) (hurt_so_far false false s) rs))
      ∙ append_assoc (all_of (ends_in d.done false false s)) (all_of (carried (sent_so_far d.done s) (hurt_so_far false false s) rs)) z
      ∙ ap (λ (x : List (List ℕ)). all_of (ends_in d.done false false s) ++ x) (ap (λ (y : List _). all_of y ++ z) e ∙ ih)
      ∙ cut-due d o k.cut g.0

  -- THE ROUND TRIP: sections, cut in any legal way, come out in order; those for which the cuts did not suffice are still due
  pub round_trip : (ss : List (List ℕ)) (c : ℕ) (ks : List Choice) → c < 16 → Wholes whole_at ss → Choices pid c (desk ss) ks
      → handed_on pid fresh (packets (encoded pid c (desk ss) ks)) ++ due (desk_last (desk ss) ks) ≡ ss
  round_trip ss c ks l w g =
      ap (λ (x : List (List ℕ)). x ++ due (desk_last (desk ss) ks))
      (all-handed-on pid c (encoded pid c (desk ss) ks) (encoded_well ks c (desk ss) l (refl, w) g)) ∙ encoded-due ks c (desk ss) (refl, w) g

  -- AND WITH A LOSS: of what the encoder wrote of ss, bs in a row are lost, at most 14 with a payload. The sections of the stream are ss, as far as the cuts went; those with no byte in bs come
  -- out, in order, and nothing else.
  pub round_trip-with_loss : (ss : List (List ℕ)) (c : ℕ) (ks : List Choice) (fs bs ds : List Carry) → c < 16 → Wholes whole_at ss → Choices pid c (desk ss) ks
      → fs ++ (bs ++ ds) ≡ encoded pid c (desk ss) ks → payloads bs ≤ 14
      → (handed_on pid fresh (packets fs ++ packets ds) ≡ spared (carried [] false (with_loss fs bs ds)))
      × (all_of (carried [] false (with_loss fs bs ds)) ++ due (desk_last (desk ss) ks) ≡ ss)
  round_trip-with_loss ss c ks fs bs ds l w g e m =
      let v = subst (λ (x : List Carry). WellSent pid c [] (comes x)) (sym e) (encoded_well ks c (desk ss) l (refl, w) g) in
      let u : all_of (carried [] false (with_loss fs bs ds)) ≡ all_of (carried [] false (comes (encoded pid c (desk ss) ks))) =
      same-sections (with_loss fs bs ds) [] false false ∙ ap (λ (x : List Aired). all_of (carried [] false x)) (unharmed_loss fs bs ds ∙ ap comes e) in
      (one_loss pid c fs bs ds (well-lost pid fs bs ds c [] v) m, ap (λ (x : List (List ℕ)). x ++ due (desk_last (desk ss) ks)) u ∙ encoded-due ks c (desk ss) (refl, w) g)
