-- Where things lie. A finder says where in a list something lies; places count from the list's own byte 0.
use Rattle.std.specs.Prelude.{ℕ, zero, suc, ◌+◌, ◌-◌, ◌≤◌, ◌≡◌, Bool, cond, Option, Some, None, List, [], ◌∷◌, leb, length, take, drop}
use Rattle.wire.specs.declared.Span.{Span}
use Rattle.wire.specs.Items.{Size, items}

-- a part of a list, or none
abbrev pub Place : Type 0
Place = Option Span

-- the n bytes from a on
abbrev pub At : ℕ → ℕ → Place
At a n = Some (record { start = a; size = n })

abbrev pub Finder : Type 0
Finder = List ℕ → Place

abbrev pub on_place : {A : Type 0} → Place → A → (ℕ → ℕ → A) → A
on_place (Some p) none some = some p.start p.size
on_place None none some = none

-- the k-th of some items that begin at `at`
unfoldable pub place_from : ℕ → ℕ → List (List ℕ) → Place
place_from zero at [] = None
place_from zero at (x ∷ is) = At at (length x)
place_from (suc k) at [] = None
place_from (suc k) at (x ∷ is) = place_from k (at + length x) is

-- the k-th item, from 0
unfoldable pub item_at : Size → ℕ → Finder
item_at size k xs = place_from k 0 (items size xs)

-- n bytes from a on
unfoldable pub bytes : ℕ → ℕ → Finder
bytes a n xs = cond (leb (a + n) (length xs)) (At a n) None

-- what is left between the first a bytes and the last e
unfoldable pub inner : ℕ → ℕ → Finder
inner a e xs = cond (leb (a + e) (length xs)) (At a (length xs - (a + e))) None

-- what is left after the first a bytes
abbrev pub after : ℕ → Finder
after a = inner a 0

-- what g finds in the part at a place
unfoldable pub in_part : Finder → Place → Finder
in_part g p xs =
    on_place p None (λ a n.
    on_place (g (take n (drop a xs))) None (λ b m.
    At (a + b) m))

-- what g finds in what f finds
abbrev pub within : Finder → Finder → Finder
within f g xs = in_part g (f xs) xs

-- the number of an item among others, from 0; or none
abbrev pub Hit : Type 0
Hit = Option ℕ

-- by cases of a hit
abbrev pub on_hit : {A : Type 0} → Hit → A → (ℕ → A) → A
on_hit (Some k) none some = some k
on_hit None none some = none

-- the number of the first item that meets a test, if the items' numbers begin with k
unfoldable pub first_from : (List ℕ → Bool) → ℕ → List (List ℕ) → Hit
first_from good k [] = None
first_from good k (x ∷ is) = cond (good x) (Some k) (first_from good (k + 1) is)

unfoldable pub first : (List ℕ → Bool) → List (List ℕ) → Hit
first good is = first_from good 0 is

-- a place within a list
abbrev pub Inside : Place → List ℕ → Type 0
Inside p xs = (a n : ℕ) → p ≡ At a n → a + n ≤ length xs

-- the bytes at a place, none where there is none
unfoldable pub part_at : Place → List ℕ → List ℕ
part_at p xs = on_place p [] (λ a n. take n (drop a xs))
