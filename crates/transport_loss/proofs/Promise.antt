-- THE PROMISES, in the paper's words: nothing lost, nothing is missing; one loss of at most 14 payload packets costs exactly the sections with a byte in a lost packet.
use Prim.Native.Nat.{ℕ, ◌+◌, ◌≤◌}
use mathlib.Core.Path.{◌≡◌, refl, sym, ap, ap₂, subst, ◌∙◌}
use mathlib.Core.Bool.{Bool, true, false}
use mathlib.Core.List.{List, [], ◌∷◌, ◌++◌}
use native.Mathlib.Omega.{arith}
use Rattle.transport.specs.Feed.{fresh, accepted, handed_on}
use Rattle.transport_loss.specs.Stream.{Sent, idle, middle, final, start, turned, sent_so_far, sent_in, Aired, came, lost, is_lost, WellSent}
use Rattle.transport_loss.specs.Stream.{came_in, Carried, inside, ends_in, hurt_so_far, carried, all_of, spared, burden, Gaps, Losses, Carry, comes}
use Rattle.transport_loss.specs.Stream.{goes, packets, payloads, unharmed, lost_in}
use Rattle.transport_loss.specs.Promise.{with_loss, LossPromise}
use Rattle.transport.proofs.Laws.Feeding.{only-accepted}
use Rattle.transport_loss.proofs.Laws.Carry.{spared-both}
use Rattle.transport_loss.proofs.Laws.Loss.{from_start}

-- the marks of a loss change no section: the sections of a stream are those of the same stream with nothing lost
pub bytes-both : (ks js : List Carried) → all_of (ks ++ js) ≡ all_of ks ++ all_of js
unfolding all_of
bytes-both [] js = refl
bytes-both (k ∷ ks) js = ap (λ (l : List (List ℕ)). k.bytes ∷ l) (bytes-both ks js)

inside-bytes : (m n : Bool) (ws : List (List ℕ)) → all_of (inside m ws) ≡ all_of (inside n ws)
unfolding all_of
inside-bytes m n [] = refl
inside-bytes m n (w ∷ ws) = ap (λ (l : List (List ℕ)). w ∷ l) (inside-bytes m n ws)

ends-bytes : (h : List ℕ) (l k m n : Bool) (s : Sent) → all_of (ends_in h l m s) ≡ all_of (ends_in h k n s)
unfolding all_of
ends-bytes h l k m n idle = refl
ends-bytes h l k m n (middle bs) = refl
ends-bytes h l k m n (final bs j) = refl
ends-bytes [] l k m n (start d ws g j) = inside-bytes m n ws
ends-bytes (y ∷ h) l k m n (start d ws g j) = ap (λ (z : List (List ℕ)). ((y ∷ h) ++ d) ∷ z) (inside-bytes m n ws)

pub same-sections : (rs : List Aired) (h : List ℕ) (l k : Bool) → all_of (carried h l rs) ≡ all_of (carried h k (unharmed rs))
unfolding carried unharmed
same-sections [] h l k = refl
same-sections (a ∷ rs) h l k =
    bytes-both (ends_in h l (is_lost a) (sent_in a)) (carried (sent_so_far h (sent_in a)) (hurt_so_far l (is_lost a) (sent_in a)) rs)
    ∙ ap₂ (λ (x y : List (List ℕ)). x ++ y) (ends-bytes h l k (is_lost a) false (sent_in a))
    (same-sections rs (sent_so_far h (sent_in a)) (hurt_so_far l (is_lost a) (sent_in a)) (hurt_so_far k false (sent_in a)))
    ∙ sym (bytes-both (ends_in h k false (sent_in a)) (carried (sent_so_far h (sent_in a)) (hurt_so_far k false (sent_in a)) (unharmed rs)))

-- with nothing lost, none is hurt
inside-all : (ws : List (List ℕ)) → spared (inside false ws) ≡ all_of (inside false ws)
unfolding spared all_of
inside-all [] = refl
inside-all (w ∷ ws) = ap (λ (l : List (List ℕ)). w ∷ l) (inside-all ws)

ends-all : (h : List ℕ) (s : Sent) → spared (ends_in h false false s) ≡ all_of (ends_in h false false s)
unfolding spared all_of
ends-all h idle = refl
ends-all h (middle bs) = refl
ends-all h (final bs j) = refl
ends-all [] (start d ws g j) = inside-all ws
ends-all (y ∷ h) (start d ws g j) = ap (λ (z : List (List ℕ)). ((y ∷ h) ++ d) ∷ z) (inside-all ws)

none-hurt : (s : Sent) → hurt_so_far false false s ≡ false
none-hurt idle = refl
none-hurt (middle bs) = refl
none-hurt (final bs j) = refl
none-hurt (start d ws g j) = refl

nothing : spared [] ≡ all_of []
unfolding spared all_of
nothing = refl

all-spared : (ks : List Carry) (h : List ℕ) → spared (carried h false (comes ks)) ≡ all_of (carried h false (comes ks))
unfolding carried comes
all-spared [] h = nothing
all-spared (k ∷ ks) h =
    let e = all-spared ks (sent_so_far h k.1) in
    let e' : spared (carried (sent_so_far h k.1) (hurt_so_far false false k.1) (comes ks)) ≡ all_of (carried (sent_so_far h k.1) (hurt_so_far false false k.1) (comes ks)) =
    rw (none-hurt k.1) e in
    spared-both (ends_in h false false k.1) (carried (sent_so_far h k.1) (hurt_so_far false false k.1) (comes ks))
    ∙ ap₂ (λ (x y : List (List ℕ)). x ++ y) (ends-all h k.1) e'
    ∙ sym (bytes-both (ends_in h false false k.1) (carried (sent_so_far h k.1) (hurt_so_far false false k.1) (comes ks)))

-- what comes of what
received-comes : (ks : List Carry) (rs : List Aired) → came_in (comes ks ++ rs) ≡ packets ks ++ came_in rs
unfolding came_in comes packets
received-comes [] rs = refl
received-comes (k ∷ ks) rs = ap (λ (l : List (List ℕ)). k.0 ∷ l) (received-comes ks rs)

received-goes : (ks : List Carry) (rs : List Aired) → came_in (goes ks ++ rs) ≡ came_in rs
unfolding came_in goes
received-goes [] rs = refl
received-goes (k ∷ ks) rs = received-goes ks rs

received-all : (ks : List Carry) → came_in (comes ks) ≡ packets ks
unfolding came_in comes packets
received-all [] = refl
received-all (k ∷ ks) = ap (λ (l : List (List ℕ)). k.0 ∷ l) (received-all ks)

gaps-all : (ks : List Carry) (g : ℕ) → g ≤ 14 → Gaps g (comes ks)
unfolding comes
gaps-all [] g l = tt
gaps-all (k ∷ ks) g l = (l, gaps-all ks 0 (omega arith))

gaps-goes : (bs ds : List Carry) (g : ℕ) → g + payloads bs ≤ 14 → Gaps g (goes bs ++ comes ds)
unfolding goes payloads
gaps-goes [] ds g l = gaps-all ds g (omega arith)
gaps-goes (k ∷ bs) ds g l = gaps-goes bs ds (g + burden k.1) (omega arith)

gaps-comes : (fs bs ds : List Carry) → payloads bs ≤ 14 → Gaps 0 (comes fs ++ (goes bs ++ comes ds))
unfolding comes
gaps-comes [] bs ds l = gaps-goes bs ds 0 (omega arith)
gaps-comes (k ∷ fs) bs ds l = (omega arith, gaps-comes fs bs ds l)

gaps_losses : (rs : List Aired) (g : ℕ) → Gaps g rs → Losses rs
gaps_losses [] g m = tt
gaps_losses (came p s ∷ rs) g m = m.1
gaps_losses (lost p s ∷ rs) g m = gaps_losses rs (g + burden s) m

gaps-few : (rs : List Aired) (g : ℕ) → g + lost_in rs ≤ 14 → Gaps g rs
unfolding lost_in
gaps-few [] g m = tt
gaps-few (came p s ∷ rs) g m = (omega arith, gaps-few rs 0 (omega arith))
gaps-few (lost p s ∷ rs) g m = gaps-few rs (g + burden s) (omega arith)

-- WHAT IS SENT IS HANDED ON: of a well-formed stream with nothing lost come all its sections, in order, and nothing else
pub all-handed-on : (pid c : ℕ) (ks : List Carry) → WellSent pid c [] (comes ks) → handed_on pid fresh (packets ks) ≡ all_of (carried [] false (comes ks))
all-handed-on pid c ks w =
    ap (handed_on pid fresh) (sym (received-all ks)) ∙ from_start pid (comes ks) c [] false w (gaps_losses (comes ks) 0 (gaps-all ks 0 (omega arith))) refl ∙ all-spared ks []

-- ONE LOSS: bs in a row are lost, at most 14 of them with a payload; fs come before, ds after. Out come the sections with no byte in bs, in order, and nothing else.
what-comes : (fs bs ds : List Carry) → came_in (with_loss fs bs ds) ≡ packets fs ++ packets ds
what-comes fs bs ds = received-comes fs (goes bs ++ comes ds) ∙ ap (λ (l : List (List ℕ)). packets fs ++ l) (received-goes bs (comes ds) ∙ received-all ds)

pub one_loss : LossPromise 14
one_loss pid c fs bs ds w m =
    ap (handed_on pid fresh) (sym (what-comes fs bs ds)) ∙ from_start pid (with_loss fs bs ds) c [] false w (gaps_losses (with_loss fs bs ds) 0 (gaps-comes fs bs ds m)) refl

-- the same where the receiver was switched on inside a section, of which h came before: that section does not come, and nothing of it
pub one_loss-inside : (pid c : ℕ) (fs bs ds : List Carry) (h : List ℕ) → WellSent pid c h (with_loss fs bs ds) → payloads bs ≤ 14
    → handed_on pid fresh (packets fs ++ packets ds) ≡ spared (carried h true (with_loss fs bs ds))
one_loss-inside pid c fs bs ds h w m =
    ap (handed_on pid fresh) (sym (what-comes fs bs ds)) ∙ from_start pid (with_loss fs bs ds) c h true w (gaps_losses (with_loss fs bs ds) 0 (gaps-comes fs bs ds m)) refl

-- whether a stream is well-formed does not turn on what is lost of it
well-goes : (pid : ℕ) (bs : List Carry) (rs : List Aired) (c : ℕ) (h : List ℕ) → WellSent pid c h (comes bs ++ rs) → WellSent pid c h (goes bs ++ rs)
unfolding comes goes
well-goes pid [] rs c h w = w
well-goes pid (k ∷ bs) rs c h w = (w.0, w.1, w.2, well-goes pid bs rs (turned c k.1) (sent_so_far h k.1) w.3)

pub comes-both : (ks js : List Carry) → comes (ks ++ js) ≡ comes ks ++ comes js
unfolding comes
comes-both [] js = refl
comes-both (k ∷ ks) js = ap (λ (l : List Aired). came k.0 k.1 ∷ l) (comes-both ks js)

pub well-lost : (pid : ℕ) (fs bs ds : List Carry) (c : ℕ) (h : List ℕ) → WellSent pid c h (comes (fs ++ (bs ++ ds))) → WellSent pid c h (with_loss fs bs ds)
unfolding comes
well-lost pid [] bs ds c h w = well-goes pid bs (comes ds) c h (subst (λ (l : List Aired). WellSent pid c h l) (comes-both bs ds) w)
well-lost pid (k ∷ fs) bs ds c h w = (w.0, w.1, w.2, well-lost pid fs bs ds (turned c k.1) (sent_so_far h k.1) w.3)

-- and with nothing lost it is the stream itself
unharmed-comes : (ks : List Carry) → unharmed (comes ks) ≡ comes ks
unfolding unharmed comes
unharmed-comes [] = refl
unharmed-comes (k ∷ ks) = ap (λ (l : List Aired). came k.0 k.1 ∷ l) (unharmed-comes ks)

unharmed-goes : (bs ds : List Carry) → unharmed (goes bs ++ comes ds) ≡ comes (bs ++ ds)
unfolding unharmed goes comes
unharmed-goes [] ds = unharmed-comes ds
unharmed-goes (k ∷ bs) ds = ap (λ (l : List Aired). came k.0 k.1 ∷ l) (unharmed-goes bs ds)

pub unharmed_loss : (fs bs ds : List Carry) → unharmed (with_loss fs bs ds) ≡ comes (fs ++ (bs ++ ds))
unfolding unharmed comes
unharmed_loss [] bs ds = unharmed-goes bs ds
unharmed_loss (k ∷ fs) bs ds = ap (λ (l : List Aired). came k.0 k.1 ∷ l) (unharmed_loss fs bs ds)

-- LOSSES OF ANY KIND, in a row or not, of at most 14 payloads in all: packets without payload between the lost ones may come or not
pub few-lost : (pid c : ℕ) (rs : List Aired) → WellSent pid c [] rs → lost_in rs ≤ 14 → handed_on pid fresh (came_in rs) ≡ spared (carried [] false rs)
few-lost pid c rs w m = from_start pid rs c [] false w (gaps_losses rs 0 (gaps-few rs 0 (omega arith))) refl

-- IN A MULTIPLEX: qs are all packets that came, those of other PIDs, damaged and cut ones among them; what is not refused of them is what came of the stream. A damaged packet is a lost one.
pub in_multiplex : (pid c : ℕ) (rs : List Aired) (qs : List (List ℕ)) → WellSent pid c [] rs → Losses rs → accepted pid qs ≡ came_in rs
    → handed_on pid fresh qs ≡ spared (carried [] false rs)
in_multiplex pid c rs qs w m e = only-accepted pid qs fresh ∙ ap (handed_on pid fresh) e ∙ from_start pid rs c [] false w m refl
