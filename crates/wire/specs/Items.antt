-- Items that follow each other. A kind of item is one function, the size of the item that a list begins with, and 0 where it begins with no whole one.
use Rattle.std.specs.Prelude.{ℕ, zero, suc, ◌+◌, ◌≤◌, ◌<◌, ◌≡◌, Bool, true, cond, ◌&&◌, Option, Some, None, List, [], ◌∷◌, ◌++◌, leb, eqb, length, take, drop}
use Rattle.wire.specs.Fields.{byte_at}

abbrev pub Size : Type 0
Size = List ℕ → ℕ

-- the size that a header of h bytes says: itself, and as many bytes more as it says
abbrev pub said : ℕ → (List ℕ → ℕ) → Size
said h more xs = h + more (take h xs)

-- a size as a call answers it: none where it is 0
abbrev pub sized : ℕ → Option ℕ
sized zero = None
sized (suc n) = Some (suc n)

-- The usual kind: a header of h bytes, and as many bytes more as the header says.
unfoldable pub framed : ℕ → (List ℕ → ℕ) → Size
framed h more xs = cond (leb (said h more xs) (length xs)) (said h more xs) 0

-- a header of h bytes, whose byte i counts the bytes after it
abbrev pub measured : (h i : ℕ) → Size
measured h i = framed h (λ x. byte_at x i)

-- items of n bytes each
abbrev pub fixed : ℕ → Size
fixed n = framed n (λ h. 0)

-- at most n items
unfoldable pub items_in : ℕ → Size → List ℕ → List (List ℕ)
items_in zero size xs = []
items_in (suc n) size xs = cond (eqb (size xs) 0) [] (take (size xs) xs ∷ items_in n size (drop (size xs) xs))

-- The items that a list begins with, one after another, as far as they go. No item is empty, so there are no more of them than bytes.
unfoldable pub items : Size → List ℕ → List (List ℕ)
items size xs = items_in (length xs) size xs

-- items laid end to end
unfoldable pub joined : List (List ℕ) → List ℕ
joined [] = []
joined (x ∷ is) = x ++ joined is

-- the items end exactly where the list ends
unfoldable pub fills : Size → List ℕ → Bool
fills size xs = eqb (length (joined (items size xs))) (length xs)

-- how many
unfoldable pub count : Size → List ℕ → ℕ
count size xs = length (items size xs)

-- where the first n of some items end, if they begin at `at`; 0 where there are fewer
unfoldable pub end_of : ℕ → ℕ → List (List ℕ) → ℕ
end_of zero at is = at
end_of (suc n) at [] = 0
end_of (suc n) at (x ∷ is) = end_of n (at + length x) is

-- the same as a call answers it: none where there are fewer
unfoldable pub end_at : ℕ → ℕ → List (List ℕ) → Option ℕ
end_at zero at is = Some at
end_at (suc n) at [] = None
end_at (suc n) at (x ∷ is) = end_at n (at + length x) is

-- each item meets a test
unfoldable pub every : (List ℕ → Bool) → List (List ℕ) → Bool
every good [] = true
every good (x ∷ is) = good x && every good is

-- how many items meet a test
unfoldable pub number : (List ℕ → Bool) → List (List ℕ) → ℕ
number good [] = 0
number good (x ∷ is) = cond (good x) (suc (number good is)) (number good is)

-- What is asked of a kind: an item lies in the list, and its size depends on its own bytes alone. A list that begins with the same bytes begins with the same item.
pub record IsKind (size : Size) : Type 0 where
  pub fits : (xs : List ℕ) → size xs ≤ length xs
  pub own : (xs ys : List ℕ) → 0 < size xs → take (size xs) ys ≡ take (size xs) xs → size ys ≡ size xs

-- one whole item and nothing more
abbrev pub Whole : Size → List ℕ → Type 0
Whole size x = (size x ≡ length x) × (0 < length x)

-- each is a whole item
abbrev pub Wholes : Size → List (List ℕ) → Type 0
Wholes size [] = Unit {0}
Wholes size (x ∷ is) = Whole size x × Wholes size is
