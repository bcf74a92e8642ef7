-- What is printed of a module, by the hand-out's number; of a list, by its refusal.
use Prim.Native.Nat.{ℕ}
use mathlib.Core.Path.{◌≡◌, refl, sym, ap, ap₂, ◌∙◌}
use mathlib.Core.Bool.{Bool, true, false, cond}
use mathlib.Core.List.{List, [], ◌++◌, append-nil}
use lib.Dec.{eqb}
use borrow.Author.Tests.{eqb-true, eqb-false, eq-eqb, ne_eqb}
use Rattle.text.specs.Text.{codes, decimal}
use Rattle.carousel_record.specs.declared.Carousel.{Carousel}
use Rattle.carousel_record.specs.Changes.{empty_record}
use Rattle.section.specs.declared.Refusal.{Refusal}
use Rattle.carousel_handout.specs.Calls.{Handed, number_of_handed, handout_number, handout_place, handed_out, report_of}
use Rattle.carousel_handout.proofs.Laws.Calls.{place_part, place_none}
use Rattle.receiver.specs.declared.Ran.{Ran}
use Rattle.receiver.specs.Run.{run_of, ran_of, image_ran}
use Rattle.std.proofs.Common.{Ok, Err, is_err}
use Rattle.wire.proofs.Laws.Tests.{clash}
use Rattle.wire.proofs.Laws.Outcomes.{refused_by_lem, not_refused}
use Rattle.drift_list.specs.declared.Heading.{Heading}
use Rattle.drift_list.specs.Values.{fix_of}
use Rattle.drift_list.specs.Reading.{issue_of, count_of, fix_at, read_refusal}
use Rattle.drift_list.specs.Answers.{heading_of, list_answer}
use Rattle.drift_list.proofs.Answers.{list-taken}
use Rattle.drift_report.specs.Lines.{fix_lines, list_header, list_text}
use Rattle.drift_report.specs.Page.{lack_text, refused_text, module_text, page_budget, page_text}

module _ (c : Carousel) (number n : ℕ) where
  pub refused-other : (n ≡ 20 → ⊥) → codes "handout," ++ decimal n ++ codes "\n" ≡ refused_text c number n
  unfolding refused_text
  refused-other z =
      ap (λ (x : List ℕ). x ++ codes "\n") (sym (append-nil (codes "handout," ++ decimal n)))
      ∙ sym (ap (λ (t : Bool). codes "handout," ++ decimal n ++ cond t (lack_text (report_of c number)) [] ++ codes "\n") (ne_eqb n 20 z))

  pub refused_twenty : n ≡ 20 → codes "handout," ++ decimal n ++ lack_text (report_of c number) ++ codes "\n" ≡ refused_text c number n
  unfolding refused_text
  refused_twenty e = sym (ap (λ (t : Bool). codes "handout," ++ decimal n ++ cond t (lack_text (report_of c number)) [] ++ codes "\n") (eq-eqb n 20 e))

-- of a module: why it is not handed out, or its list
module _ (c : Carousel) (image : List ℕ) (number : ℕ) where
  -- the place's number is the hand-out's
  pub place-number : (h : Handed) → h ≡ handout_place c image number → number_of_handed h ≡ handout_number c image number
  place-number h e = ap number_of_handed e ∙ go (eqb (handout_number c image number) 0) refl
    where
      go : (t : Bool) → eqb (handout_number c image number) 0 ≡ t → number_of_handed (handout_place c image number) ≡ handout_number c image number
      go true t = ap number_of_handed (place_part c number image (eqb-true _ _ t)) ∙ sym (eqb-true _ _ t)
      go false t = ap number_of_handed (place_none c number image (eqb-false _ _ t))

  pub place-refused : (r : Refusal) → Err r ≡ handout_place c image number → r.number ≡ 0 → ⊥
  place-refused r e z =
      let p = place_part c number image (sym (place-number (Err r) e) ∙ z) in
      let f : ◌≡◌ {A = Bool} true false = ap (λ (h : Handed). is_err h) (e ∙ p) in
      clash true refl f

  pub module-refused : (n : ℕ) → n ≡ handout_number c image number → (n ≡ 0 → ⊥) → refused_text c number n ≡ module_text c image number
  unfolding module_text
  module-refused n e z =
      ap (refused_text c number) e
      ∙ sym (ap (λ (t : Bool). cond t (list_text (handed_out c image number)) (refused_text c number (handout_number c image number)))
      (ne_eqb (handout_number c image number) 0 (λ f. z (e ∙ f))))

  pub module-listed : (n : ℕ) → n ≡ handout_number c image number → n ≡ 0 → list_text (handed_out c image number) ≡ module_text c image number
  unfolding module_text
  module-listed n e z =
      sym (ap (λ (t : Bool). cond t (list_text (handed_out c image number)) (refused_text c number (handout_number c image number)))
      (eq-eqb (handout_number c image number) 0 (sym e ∙ z)))

-- of a list: its refusal, or its records
module _ (s : List ℕ) where
  abbrev refused_line : List ℕ
  refused_line = codes "list," ++ decimal (read_refusal s) ++ codes "\n"

  abbrev record_lines : List ℕ
  record_lines = codes "issue," ++ decimal (issue_of s) ++ codes "\n" ++ list_header ++ fix_lines (count_of s) 0 (λ k. fix_of (fix_at s k))

  -- refused with n
  pub refusal-told : (n : ℕ) → list_answer s ≡ Err n → (n ≡ read_refusal s) × (read_refusal s ≡ 0 → ⊥)
  unfolding list_answer
  refusal-told n e = refused_by_lem n (read_refusal s) (heading_of s) (sym e)

  -- read
  pub heading-told : (h : Heading) → list_answer s ≡ Ok h → (read_refusal s ≡ 0) × (h ≡ heading_of s)
  unfolding list_answer
  heading-told h e =
      let z = not_refused (read_refusal s) (heading_of s) h (sym e) in
      let t = list-taken s (read_refusal s) refl z in
      (z, cc)

  pub list-refused : (n : ℕ) → list_answer s ≡ Err n → codes "list," ++ decimal n ++ codes "\n" ≡ list_text s
  unfolding list_text
  list-refused n e =
      let t = refusal-told n e in
      ap (λ (m : ℕ). codes "list," ++ decimal m ++ codes "\n") t.0
      ∙ sym (ap (λ (b : Bool). cond b record_lines refused_line) (ne_eqb (read_refusal s) 0 t.1))

  pub list_read : (h : Heading) → list_answer s ≡ Ok h
      → codes "issue," ++ decimal h.issue ++ codes "\n" ++ list_header ++ fix_lines h.count 0 (λ k. fix_of (fix_at s k)) ≡ list_text s
  unfolding list_text
  list_read h e =
      let t = heading-told h e in
      ap (λ (x : Heading). codes "issue," ++ decimal x.issue ++ codes "\n" ++ list_header ++ fix_lines x.count 0 (λ k. fix_of (fix_at s k))) t.1
      ∙ sym (ap (λ (b : Bool). cond b record_lines refused_line) (eq-eqb (read_refusal s) 0 t.0))

-- of a stretch: what the run left, from what code has in hand
module _ (s image : List ℕ) (number : ℕ) (c : Carousel) (e : c ≡ empty_record) where
  pub image-is : (left : List ℕ) → left ≡ image_ran c s image page_budget → left ≡ image_ran empty_record s image page_budget
  image-is left f = f ∙ ap (λ (d : Carousel). image_ran d s image page_budget) e

  pub page-is : (ran : Ran) (left : List ℕ) → ran ≡ ran_of c s image page_budget → left ≡ image_ran c s image page_budget → module_text ran.state left number ≡ page_text s image number
  unfolding page_text
  page-is ran left r f =
      ap₂ (λ (d : Carousel) (l : List ℕ). module_text d l number) (ap (λ (x : Ran). x.state) r ∙ ap (λ (d : Carousel). (run_of d s image page_budget).state) e) (image-is left f)
