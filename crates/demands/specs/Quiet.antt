-- THE WORDS OF DEMAND 3 AS 00 SAYS IT: "with no further new announcement". The module at place i is then the same one at every call, and "for" and "matching" are read at the start.
use Rattle.std.specs.Prelude.{ℕ, ◌≡◌, Bool, true, false, cond}
use mathlib.Core.List.{List, [], ◌∷◌, Memᴰ}
use Rattle.carousel_record.specs.Record.{module_at}
use Rattle.receiver.specs.Run.{Held}
use Rattle.demands.specs.Demand.{fates, is_new, told, Emptied, is_for_at, matches_at, section_data}
use Rattle.receiver.specs.Run.{Fate}

unfoldable pub none_new : List Fate → Bool
none_new [] = true
none_new (f ∷ fs) = cond (is_new f) false (none_new fs)

abbrev pub NoNew : Held → List (List ℕ) → Type 0
NoNew x ss = none_new (fates x ss) ≡ true

-- "Begin from a just accepted new announcement": one that emptied the module at place i
abbrev pub number_at : Held → (i : ℕ) → ℕ
number_at x i = (module_at (told x) i).number

abbrev pub Begun : Held → (i : ℕ) → Type 0
Begun x i = Emptied x (number_at x i)

-- of a list, those that pass a test; and of a list beside it, those whose neighbour does
unfoldable pub those : (List ℕ → Bool) → List (List ℕ) → List (List ℕ)
those p [] = []
those p (s ∷ ss) = cond (p s) (s ∷ those p ss) (those p ss)

unfoldable pub besides : (List ℕ → Bool) → List (List ℕ) → List Fate → List Fate
besides p [] fs = []
besides p (s ∷ ss) [] = []
besides p (s ∷ ss) (f ∷ fs) = cond (p s) (f ∷ besides p ss fs) (besides p ss fs)

-- "the same data sections for one announced module, in the same order": a run's; and "that module's answers": what became of these
abbrev pub sections_for : Held → (i : ℕ) → List (List ℕ) → List (List ℕ)
sections_for x i ss = those (λ s. is_for_at x i s) ss

abbrev pub answers_to : Held → (i : ℕ) → List (List ℕ) → List Fate
answers_to x i ss = besides (λ s. is_for_at x i s) ss (fates x ss)

-- a run holds a section; and block b "came in a matching section"
abbrev pub Holds : List (List ℕ) → List ℕ → Type 0
Holds ss s = Memᴰ s ss

abbrev pub CameIn : Held → (i b : ℕ) → List (List ℕ) → Type 0
CameIn x i b ss = (s : List ℕ) × Holds ss s × (matches_at x i b s ≡ true)

-- a block's data "as it first matched": those of the first section of the run that matches it
unfoldable pub first_matching : (List ℕ → Bool) → List (List ℕ) → List ℕ
first_matching p [] = []
first_matching p (s ∷ ss) = cond (p s) (section_data s) (first_matching p ss)

abbrev pub first_in : Held → (i : ℕ) → List (List ℕ) → (b : ℕ) → List ℕ
first_in x i ss b = first_matching (λ s. matches_at x i b s) ss

-- "if matching repeats agree": any two matching sections of the run for one block of the module have the same data
abbrev pub AgreeIn : Held → (i : ℕ) → List (List ℕ) → Type 0
AgreeIn x i ss = (b : ℕ) (s t : List ℕ) → Holds ss s → Holds ss t → matches_at x i b s ≡ true → matches_at x i b t ≡ true → section_data s ≡ section_data t

-- "order and repeats" aside: each matching section of ss for the module has in us a matching one for the same block, with the same data
abbrev pub FoundAmong : Held → (i : ℕ) → List (List ℕ) → List (List ℕ) → Type 0
FoundAmong x i ss us = (b : ℕ) (s : List ℕ) → Holds ss s → matches_at x i b s ≡ true
    → (t : List ℕ) × Holds us t × (matches_at x i b t ≡ true) × (section_data t ≡ section_data s)
