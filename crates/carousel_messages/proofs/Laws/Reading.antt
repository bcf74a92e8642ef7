-- The modules of an announcement, one after another, as the loops read them: each from the byte where the one before it ends.
use Prim.Native.Nat.{ℕ, ◌+◌, ◌-◌, ◌≤◌, ◌<◌}
use mathlib.Core.Path.{◌≡◌, refl, sym, ap, ◌∙◌}
use mathlib.Core.List.{List, map}
use native.Mathlib.Omega.{arith}
use lib.ListN.{length, get_or, take, drop, length-map, length-drop}
use lib.Seq.{drop-drop, get_or-drop}
use Rattle.std.proofs.Common.{Some}
use Rattle.std.specs.List.{slice_get}
use Rattle.std.proofs.lemmas.Option.{slice_get-get_or}
use Rattle.wire.specs.Items.{items}
use Rattle.wire.proofs.Laws.Steps.{items-step}
use Rattle.wire.proofs.Laws.Loops.{tail, item-fits}
use Rattle.carousel_messages.specs.declared.Listed.{Listed}
use Rattle.carousel_messages.specs.Contents.{module_kind}
use Rattle.carousel_messages.specs.Heard.{listed_of, none_listed, list_of}
use Rattle.carousel_messages.proofs.Laws.Listed.{module_kind_lem, some_size}

-- i modules were read, and those from byte `at` on are the others
abbrev pub Reading : List ℕ → (i at : ℕ) → Type 0
Reading list i at = (at ≤ length list) × (list_of (drop at list) ≡ drop i (list_of list))

pub reading-none : (list : List ℕ) → Reading list 0 0
reading-none list = (omega arith, refl)

-- past the module that a list begins with
past_one : (xs : List ℕ) → 0 < length (list_of xs) → list_of (drop (module_kind xs) xs) ≡ drop 1 (list_of xs)
unfolding list_of
past_one xs h =
    let l = length-map (items module_kind xs) listed_of in
    let s = items-step module_kind module_kind_lem xs (some_size xs (omega arith)) in
    sym (ap (λ (is : List (List ℕ)). drop 1 (map listed_of is)) s)

module _ (list : List ℕ) (i at : ℕ) (v : Reading list i at) where
  abbrev part : List ℕ
  part = take (length list - at) (drop at list)

  -- the module that is read there
  pub reading-here : i < length (list_of list) → slice_get (list_of part) 0 ≡ Some (get_or (list_of list) i none_listed)
  reading-here h =
      let z : i + 0 ≡ i = omega arith in
      let l = ap length v.1 ∙ length-drop i (list_of list) in
      ap (λ (xs : List ℕ). slice_get (list_of xs) 0) (tail list at)
      ∙ slice_get-get_or (list_of (drop at list)) 0 none_listed (omega arith)
      ∙ ap Some (ap (λ (ms : List Listed). get_or ms 0 none_listed) v.1
      ∙ get_or-drop i (list_of list) 0 none_listed
      ∙ ap (λ (k : ℕ). get_or (list_of list) k none_listed) z)

  -- and the byte where it ends
  pub reading-next : (n : ℕ) → n ≡ module_kind part → i < length (list_of list) → Reading list (i + 1) (at + n)
  reading-next n e h =
      let f : n ≡ module_kind (drop at list) = e ∙ ap module_kind (tail list at) in
      let l : length (list_of (drop at list)) ≡ length (list_of list) - i = ap length v.1 ∙ length-drop i (list_of list) in
      let o = past_one (drop at list) (omega arith) in (
        item-fits module_kind module_kind_lem list at n f v.0,
        ap (λ (k : ℕ). list_of (drop (at + k) list)) f
            ∙ ap list_of (sym (drop-drop (module_kind (drop at list)) at list))
            ∙ o
            ∙ ap (drop 1) v.1
            ∙ drop-drop 1 i (list_of list),
      )
