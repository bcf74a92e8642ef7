-- When each answer is given: exactly the stated case, for the message alone and for the whole section.
use Prim.Native.Nat.{ℕ, ◌<◌}
use mathlib.Core.Path.{◌≡◌, refl, sym, ap, ◌∙◌}
use mathlib.Core.Logic.{◌↔◌, ◌⊎◌, inl, inr}
use mathlib.Core.Bool.{Bool, true, false, cond}
use mathlib.Core.List.{List}
use native.Mathlib.Omega.{arith}
use Rattle.std.proofs.Common.{Ok, Err}
use lib.Dec.{eqb, lit<}
use borrow.Author.Tests.{eq-eqb, eqb-true, eqb-false}
use Rattle.wire.specs.Tests.{first_met}
use Rattle.wire.proofs.Laws.Tests.{met_append}
use Rattle.wire.proofs.Laws.Order.{None, First, Numbered, none-exactly, first-exactly}
use Rattle.section.specs.Crc.{crc_of}
use Rattle.section.specs.declared.Header.{Header}
use Rattle.section.specs.declared.Rules.TheVariants.{Carousel}
use Rattle.section.specs.Header.{header_of, body_of}
use Rattle.section.specs.Refusals.{section_tests, refusal_by, refusal_of, GoodSection}
use Rattle.section.specs.Answer.{refused}
use Rattle.section.proofs.Laws.Exact as section
use Rattle.carousel_messages.specs.declared.CarouselTable.{CarouselTable}
use Rattle.carousel_messages.specs.declared.CarouselTable.TheVariants.{Announcements, Blocks}
use Rattle.carousel_messages.specs.declared.Announcement.{Announcement}
use Rattle.carousel_messages.specs.declared.Block.{Block}
use Rattle.carousel_messages.specs.declared.Message.TheVariants as message
use Rattle.carousel_messages.specs.Message.{payload_of}
use Rattle.carousel_messages.specs.Refusals.{short7, meets8, message_meets7, meets9, meets10, meets11, payload_tests, message_tests, message_refusal}
use Rattle.carousel_messages.specs.Judged.{announcement_of, block_of, read_of, message_judged, judged_of, number_of_judged, carousel_table_in, carousel_tests}
use Rattle.carousel_messages.proofs.Laws.Refusals.{judged-good, judged-refused, judged-message}

-- no number in the table is 0
numbered : (t : CarouselTable) (h : Header) (b : List ℕ) → Numbered (message_tests t h b)
numbered Announcements h b = (λ e. omega arith, (λ e. omega arith, (λ e. omega arith, (λ e. omega arith, (λ e. omega arith, tt)))))
numbered Blocks h b = (λ e. omega arith, (λ e. omega arith, (λ e. omega arith, (λ e. omega arith, tt))))

-- THE MESSAGE
-- what comes before the payload's own tests holds nothing against it
abbrev pub Passed : CarouselTable → List ℕ → Type 0
Passed t b = (short7 b ≡ false) × (meets8 t b ≡ false) × (message_meets7 t b ≡ false)

module _ (t : CarouselTable) (h : Header) (b : List ℕ) where
  -- n EXACTLY WHERE THE FIRST TEST THAT HOLDS IS OF n, 0 EXACTLY WHERE NONE HOLDS
  pub message-exactly : (n : ℕ) → 0 < n → (message_refusal t h b ≡ n) ↔ First n (message_tests t h b)
  unfolding message_refusal
  message-exactly n p = first-exactly (message_tests t h b) n p

  pub message-taken : (message_refusal t h b ≡ 0) ↔ None (message_tests t h b)
  unfolding message_refusal
  message-taken = none-exactly (message_tests t h b) (numbered t h b)

  -- the payload's own tests are of 9 and above
  own : (u : CarouselTable) (n : ℕ) → n < 9 → First n (payload_tests u h (payload_of b)) → ⊥
  own Announcements n l (inl w) = let e = w.1 in omega arith
  own Announcements n l (inr (f, inl w)) = let e = w.1 in omega arith
  own Announcements n l (inr (f, inr (g, w))) = w
  own Blocks n l (inl w) = let e = w.1 in omega arith
  own Blocks n l (inr (f, w)) = w

  -- 7 has two places in the order, before 8 and after it
  pub exactly-7 : (message_refusal t h b ≡ 7) ↔ ((short7 b ≡ true) ⊎ ((short7 b ≡ false) × (meets8 t b ≡ false) × (message_meets7 t b ≡ true)))
  exactly-7 = (λ e. there ((message-exactly 7 (lit< tt)).0 e), λ w. (message-exactly 7 (lit< tt)).1 (back w))
    where
      there : First 7 (message_tests t h b) → (short7 b ≡ true) ⊎ ((short7 b ≡ false) × (meets8 t b ≡ false) × (message_meets7 t b ≡ true))
      there (inl w) = inl w.0
      there (inr (f, inl w)) = let e = w.1 in absurd (omega arith)
      there (inr (f, inr (g, inl w))) = inr (f, g, w.0)
      there (inr (f, inr (g, inr (k, w)))) = absurd (own t 7 (lit< tt) w)

      back : (short7 b ≡ true) ⊎ ((short7 b ≡ false) × (meets8 t b ≡ false) × (message_meets7 t b ≡ true)) → First 7 (message_tests t h b)
      back (inl w) = inl (w, refl)
      back (inr w) = inr (w.0, inr (w.1, inl (w.2, refl)))

  pub exactly-8 : (message_refusal t h b ≡ 8) ↔ ((short7 b ≡ false) × (meets8 t b ≡ true))
  exactly-8 = (λ e. there ((message-exactly 8 (lit< tt)).0 e), λ w. (message-exactly 8 (lit< tt)).1 (inr (w.0, inl (w.1, refl))))
    where
      there : First 8 (message_tests t h b) → (short7 b ≡ false) × (meets8 t b ≡ true)
      there (inl w) = let e = w.1 in absurd (omega arith)
      there (inr (f, inl w)) = (f, w.0)
      there (inr (f, inr (g, inl w))) = let e = w.1 in absurd (omega arith)
      there (inr (f, inr (g, inr (k, w)))) = absurd (own t 8 (lit< tt) w)

  -- from 9 on: all before is passed, and then the payload's own tests decide
  beyond : (n : ℕ) → 8 < n → (message_refusal t h b ≡ n) ↔ (Passed t b × First n (payload_tests t h (payload_of b)))
  beyond n l = (λ e. there ((message-exactly n (omega arith)).0 e), λ w. (message-exactly n (omega arith)).1 (inr (w.0.0, inr (w.0.1, inr (w.0.2, w.1)))))
    where
      there : First n (message_tests t h b) → Passed t b × First n (payload_tests t h (payload_of b))
      there (inl w) = let e = w.1 in absurd (omega arith)
      there (inr (f, inl w)) = let e = w.1 in absurd (omega arith)
      there (inr (f, inr (g, inl w))) = let e = w.1 in absurd (omega arith)
      there (inr (f, inr (g, inr (k, w)))) = ((f, g, k), w)

module _ (h : Header) (b : List ℕ) where
  pub exactly-9 : (message_refusal Blocks h b ≡ 9) ↔ (Passed Blocks b × (meets9 h (payload_of b) ≡ true))
  exactly-9 = (λ e. let q = (beyond Blocks h b 9 (lit< tt)).0 e in (q.0, there q.1), λ w. (beyond Blocks h b 9 (lit< tt)).1 (w.0, inl (w.1, refl)))
    where
      there : First 9 (payload_tests Blocks h (payload_of b)) → meets9 h (payload_of b) ≡ true
      there (inl w) = w.0
      there (inr (f, w)) = absurd w

  pub exactly-10 : (message_refusal Announcements h b ≡ 10) ↔ (Passed Announcements b × (meets10 (payload_of b) ≡ true))
  exactly-10 = (λ e. let q = (beyond Announcements h b 10 (lit< tt)).0 e in (q.0, there q.1), λ w. (beyond Announcements h b 10 (lit< tt)).1 (w.0, inl (w.1, refl)))
    where
      there : First 10 (payload_tests Announcements h (payload_of b)) → meets10 (payload_of b) ≡ true
      there (inl w) = w.0
      there (inr (f, inl w)) = let e = w.1 in absurd (omega arith)
      there (inr (f, inr (g, w))) = absurd w

  pub exactly-11 : (message_refusal Announcements h b ≡ 11) ↔ (Passed Announcements b × (meets10 (payload_of b) ≡ false) × (meets11 (payload_of b) ≡ true))
  exactly-11 =
      (λ e. let q = (beyond Announcements h b 11 (lit< tt)).0 e in let w = there q.1 in (q.0, w.0, w.1), λ w. (beyond Announcements h b 11 (lit< tt)).1 (w.0, inr (w.1, inl (w.2, refl))))
    where
      there : First 11 (payload_tests Announcements h (payload_of b)) → (meets10 (payload_of b) ≡ false) × (meets11 (payload_of b) ≡ true)
      there (inl w) = let e = w.1 in absurd (omega arith)
      there (inr (f, inl w)) = (f, w.0)
      there (inr (f, inr (g, w))) = absurd w

  -- 9 is of blocks alone, 10 and 11 of announcements alone
  pub never-9 : message_refusal Announcements h b ≡ 9 → ⊥
  never-9 e = go ((beyond Announcements h b 9 (lit< tt)).0 e).1
    where
      go : First 9 (payload_tests Announcements h (payload_of b)) → ⊥
      go (inl w) = let e = w.1 in omega arith
      go (inr (f, inl w)) = let e = w.1 in omega arith
      go (inr (f, inr (g, w))) = w

  pub never-over : (n : ℕ) → 9 < n → message_refusal Blocks h b ≡ n → ⊥
  never-over n l e = go ((beyond Blocks h b n (omega arith)).0 e).1
    where
      go : First n (payload_tests Blocks h (payload_of b)) → ⊥
      go (inl w) = let e = w.1 in omega arith
      go (inr (f, w)) = w

-- THE SECTION
-- what is read is no refusal
read_number_lem : (t : CarouselTable) (b : List ℕ) → number_of_judged (read_of t b) ≡ 0
unfolding read_of
read_number_lem Announcements b = refl
read_number_lem Blocks b = refl

module _ (s : List ℕ) where
  -- its table, and the message's refusal in it
  abbrev pub in_message : ℕ
  in_message = message_refusal (carousel_table_in s) (header_of s) (body_of s)

  by-message : refusal_of Carousel s ≡ 0 → message_judged (carousel_table_in s) (header_of s) (body_of s) ≡ judged_of s
  by-message z = judged-message (crc_of s) s (header_of s) (section.accepted-with Carousel s z)

  message-number : number_of_judged (message_judged (carousel_table_in s) (header_of s) (body_of s)) ≡ in_message
  unfolding message_judged
  message-number = go (eqb in_message 0) refl
    where
      go : (t : Bool) → eqb in_message 0 ≡ t → number_of_judged (cond t (read_of (carousel_table_in s) (body_of s)) (Err (refused in_message))) ≡ in_message
      go true e = read_number_lem (carousel_table_in s) (body_of s) ∙ sym (eqb-true _ _ e)
      go false e = refl

  pub judged-number : number_of_judged (judged_of s) ≡ cond (eqb (refusal_of Carousel s) 0) in_message (refusal_of Carousel s)
  judged-number = go (eqb (refusal_of Carousel s) 0) refl
    where
      go : (t : Bool) → eqb (refusal_of Carousel s) 0 ≡ t → number_of_judged (judged_of s) ≡ cond t in_message (refusal_of Carousel s)
      go true e = ap number_of_judged (sym (by-message (eqb-true _ _ e))) ∙ message-number
      go false e = ap number_of_judged (sym (judged-refused (crc_of s) s _ (section.refused-with Carousel s (eqb-false _ _ e))))

  -- n EXACTLY WHERE THE FIRST TEST THAT HOLDS IS OF n, IN THE SECTION'S TABLE AND THEN THE MESSAGE'S
  pub all_tests : number_of_judged (judged_of s) ≡ first_met (carousel_tests s)
  unfolding refusal_by message_refusal
  all_tests = judged-number ∙ sym (met_append 0 (section_tests Carousel s) (message_tests (carousel_table_in s) (header_of s) (body_of s)) (section.rising Carousel s))

  pub refused-exactly : (n : ℕ) → 0 < n → (number_of_judged (judged_of s) ≡ n) ↔ First n (carousel_tests s)
  refused-exactly n p = rw all_tests (first-exactly (carousel_tests s) n p)

  -- 9 is the message's, in the blocks' table
  pub nine_of-block : number_of_judged (judged_of s) ≡ 9 → (refusal_of Carousel s ≡ 0) × (carousel_table_in s ≡ Blocks) × (message_refusal Blocks (header_of s) (body_of s) ≡ 9)
  nine_of-block n = go (eqb (refusal_of Carousel s) 0) (carousel_table_in s) refl refl (sym judged-number ∙ n)
    where
      go : (b : Bool) (t : CarouselTable) → eqb (refusal_of Carousel s) 0 ≡ b → carousel_table_in s ≡ t → cond b (message_refusal t (header_of s) (body_of s)) (refusal_of Carousel s) ≡ 9
          → (refusal_of Carousel s ≡ 0) × (carousel_table_in s ≡ Blocks) × (message_refusal Blocks (header_of s) (body_of s) ≡ 9)
      go true Announcements e f m = absurd (never-9 (header_of s) (body_of s) m)
      go true Blocks e f m = (eqb-true _ _ e, f, m)
      go false t e f m =
          let l = (section.refused_has Carousel s _ (section.refused-with Carousel s (eqb-false _ _ e))).2 in
          absurd (omega arith)

  -- no refusal: neither of the section nor of the message
  neither-refused : number_of_judged (judged_of s) ≡ 0 → (refusal_of Carousel s ≡ 0) × (in_message ≡ 0)
  neither-refused z = go (eqb (refusal_of Carousel s) 0) refl (sym judged-number ∙ z)
    where
      go : (t : Bool) → eqb (refusal_of Carousel s) 0 ≡ t → cond t in_message (refusal_of Carousel s) ≡ 0 → (refusal_of Carousel s ≡ 0) × (in_message ≡ 0)
      go true e m = (eqb-true _ _ e, m)
      go false e m = absurd (eqb-false _ _ e m)

  -- TAKEN EXACTLY WHERE THE ANSWER IS WHAT THE MESSAGE SAYS, AND WHERE SECTION AND MESSAGE ARE GOOD
  pub taken-exactly : (number_of_judged (judged_of s) ≡ 0) ↔ (judged_of s ≡ read_of (carousel_table_in s) (body_of s))
  taken-exactly = (there, λ e. ap number_of_judged e ∙ read_number_lem (carousel_table_in s) (body_of s))
    where
      there : number_of_judged (judged_of s) ≡ 0 → judged_of s ≡ read_of (carousel_table_in s) (body_of s)
      there z = let q = neither-refused z in sym (judged-good _ _ _ q.1 ∙ by-message q.0)

  pub good-exactly : (number_of_judged (judged_of s) ≡ 0) ↔ (GoodSection Carousel s × None (message_tests (carousel_table_in s) (header_of s) (body_of s)))
  good-exactly = (there, back)
    where
      there : number_of_judged (judged_of s) ≡ 0 → GoodSection Carousel s × None (message_tests (carousel_table_in s) (header_of s) (body_of s))
      there z = let q = neither-refused z in ((section.good-exactly Carousel s).0 q.0, (message-taken _ _ _).0 q.1)

      back : GoodSection Carousel s × None (message_tests (carousel_table_in s) (header_of s) (body_of s)) → number_of_judged (judged_of s) ≡ 0
      back g = judged-number ∙ rw (eq-eqb (refusal_of Carousel s) 0 ((section.good-exactly Carousel s).1 g.0)) ((message-taken _ _ _).1 g.1)

  -- AN ANNOUNCEMENT EXACTLY OF ONE TABLE, A BLOCK EXACTLY OF THE OTHER
  pub announced-exactly : (a : Announcement) → (judged_of s ≡ Ok (message.Announced a)) ↔ ((number_of_judged (judged_of s) ≡ 0) × ((carousel_table_in s) ≡ Announcements) × (announcement_of
      (body_of s) ≡ a))
  unfolding read_of
  announced-exactly a = (there, back)
    where
      read : (t : CarouselTable) → read_of t (body_of s) ≡ Ok (message.Announced a) → (t ≡ Announcements) × (announcement_of (body_of s) ≡ a)
      read Announcements e = (refl, cc)
      read Blocks e = let z : ◌≡◌ {A = ℕ} 0 1 = cc in absurd (omega arith)

      there : judged_of s ≡ Ok (message.Announced a) → (number_of_judged (judged_of s) ≡ 0) × ((carousel_table_in s) ≡ Announcements) × (announcement_of (body_of s) ≡ a)
      there e =
          let z = ap number_of_judged e in
          let q = read (carousel_table_in s) (sym (taken-exactly.0 z) ∙ e) in
          (z, q.0, q.1)

      back : (number_of_judged (judged_of s) ≡ 0) × ((carousel_table_in s) ≡ Announcements) × (announcement_of (body_of s) ≡ a) → judged_of s ≡ Ok (message.Announced a)
      back w = taken-exactly.0 w.0 ∙ ap (λ (t : CarouselTable). read_of t (body_of s)) w.1 ∙ ap (λ (a : Announcement). Ok (message.Announced a)) w.2

  pub carried-exactly : (b : Block) → (judged_of s ≡ Ok (message.Carried b)) ↔ ((number_of_judged (judged_of s) ≡ 0) × ((carousel_table_in s) ≡ Blocks) × (block_of (body_of s) ≡ b))
  unfolding read_of
  carried-exactly b = (there, back)
    where
      read : (t : CarouselTable) → read_of t (body_of s) ≡ Ok (message.Carried b) → (t ≡ Blocks) × (block_of (body_of s) ≡ b)
      read Announcements e = let z : ◌≡◌ {A = ℕ} 0 1 = cc in absurd (omega arith)
      read Blocks e = (refl, cc)

      there : judged_of s ≡ Ok (message.Carried b) → (number_of_judged (judged_of s) ≡ 0) × ((carousel_table_in s) ≡ Blocks) × (block_of (body_of s) ≡ b)
      there e =
          let z = ap number_of_judged e in
          let q = read (carousel_table_in s) (sym (taken-exactly.0 z) ∙ e) in
          (z, q.0, q.1)

      back : (number_of_judged (judged_of s) ≡ 0) × ((carousel_table_in s) ≡ Blocks) × (block_of (body_of s) ≡ b) → judged_of s ≡ Ok (message.Carried b)
      back w = taken-exactly.0 w.0 ∙ ap (λ (t : CarouselTable). read_of t (body_of s)) w.1 ∙ ap (λ (b : Block). Ok (message.Carried b)) w.2
