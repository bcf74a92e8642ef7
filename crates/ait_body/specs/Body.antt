-- The body of an application section, between the header and the CRC, and refusals 7 and 18. 01, "The application section".
use Rattle.std.specs.Prelude.{ℕ, ◌+◌, ◌≡◌, Bool, true, not, ◌&&◌, List, [], ◌∷◌, eqb, length, take, drop}
use Rattle.wire.specs.Fields.{twelve_at}
use Rattle.wire.specs.Items.{items, fills, every, number}
use Rattle.wire.specs.Tests.{Tests, first_met}
use Rattle.ait_descriptors.specs.Kinds.{application}
use Rattle.ait_descriptors.specs.Descriptor.{descriptor, tag_of}
use Rattle.ait_descriptors.specs.Contents.{well_made}

-- "Body: 4 reserved, common length 12, common descriptors; 4 reserved, application loop length 12, applications, ending at the CRC"
abbrev pub common_length : List ℕ → ℕ
common_length b = twelve_at b 0

abbrev pub common_loop : List ℕ → List ℕ
common_loop b = take (common_length b) (drop 2 b)

abbrev pub loop_length : List ℕ → ℕ
loop_length b = twelve_at b (2 + common_length b)

abbrev pub application_loop : List ℕ → List ℕ
application_loop b = drop (4 + common_length b) b

-- an application's own descriptors follow its nine bytes
abbrev pub own_loop : List ℕ → List ℕ
own_loop a = drop 9 a

-- descriptors that end exactly, each with known contents well formed
unfoldable pub good_loop : List ℕ → Bool
good_loop l = fills descriptor l && every well_made (items descriptor l)

-- every clause of the paper at once
unfoldable pub well_formed : List ℕ → Bool
well_formed b =
    eqb (4 + common_length b + loop_length b) (length b)
    && good_loop (common_loop b)
    && fills application (application_loop b)
    && every (λ a. good_loop (own_loop a)) (items application (application_loop b))

-- "exactly one 0x00 descriptor", in the application's own loop
unfoldable pub sole_loop : List ℕ → Bool
sole_loop l = eqb (number (λ d. eqb (tag_of d) 0x00) (items descriptor l)) 1

-- 7: "a length or fixed field inside does not fit, bytes are left over, or known contents malformed"
unfoldable pub body_meets7 : List ℕ → Bool
body_meets7 b = not (well_formed b)

-- 18: "an application without exactly one 0x00 descriptor"
unfoldable pub meets18 : List ℕ → Bool
meets18 b = not (every (λ a. sole_loop (own_loop a)) (items application (application_loop b)))

abbrev pub body_tests : List ℕ → Tests
body_tests b = (7, body_meets7 b) ∷ (18, meets18 b) ∷ []

-- the lowest that applies, 0 where none does
unfoldable pub body_refusal : List ℕ → ℕ
body_refusal b = first_met (body_tests b)

-- 7 where something is not well formed; else 18 where an application has not exactly one 0x00 descriptor; else 0
abbrev pub loop_refusal : (formed sole : Bool) → ℕ
loop_refusal formed sole = first_met ((7, not formed) ∷ (18, not sole) ∷ [])

-- so of one application's own loop, and of an application loop
unfoldable pub own_refusal : List ℕ → ℕ
own_refusal l = loop_refusal (good_loop l) (sole_loop l)

unfoldable pub applications_refusal : List ℕ → ℕ
applications_refusal s =
    loop_refusal (fills application s && every (λ a. good_loop (own_loop a)) (items application s))
    (every (λ a. sole_loop (own_loop a)) (items application s))

-- A well-formed body, clause by clause.
pub record WellFormed (b : List ℕ) : Type 0 where
  -- the two lengths and the two loops are all of the body: nothing is left over before the CRC
  pub ends : 4 + common_length b + loop_length b ≡ length b
  -- the common loop is descriptors laid end to end, each well made
  pub common : fills descriptor (common_loop b) ≡ true
  pub common_made : every well_made (items descriptor (common_loop b)) ≡ true
  -- the application loop is applications laid end to end
  pub applications : fills application (application_loop b) ≡ true
  -- and each one's own loop is descriptors laid end to end, each well made
  pub own : every (λ a. fills descriptor (own_loop a)) (items application (application_loop b)) ≡ true
  pub own_made : every (λ a. every well_made (items descriptor (own_loop a))) (items application (application_loop b)) ≡ true
