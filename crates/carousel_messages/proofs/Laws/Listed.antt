-- The modules of an announcement, one by its place.
use Prim.Native.Nat.{ℕ, zero, suc, ◌+◌, ◌≤◌, ◌<◌}
use mathlib.Core.Path.{◌≡◌, refl, sym, ap, ◌∙◌}
use mathlib.Core.Bool.{true}
use mathlib.Core.List.{List, [], ◌∷◌, map}
use native.Mathlib.Omega.{arith}
use lib.ListN.{length, take, drop, get_or, length-map, length-take, length-drop, get_or-map}
use lib.Seq.{drop-drop, length-take-le, get_or-drop}
use Rattle.wire.specs.Fields.{byte_at, field_at, sixteen_at, thirty_two_at}
use Rattle.std.proofs.Common.{Some, None, unwrap_or}
use Rattle.std.specs.List.{slice_get}
use Rattle.std.proofs.lemmas.Option.{slice_get_past, slice_get-get_or}
use Rattle.wire.specs.Items.{IsKind, items, sized, end_of, end_at}
use Rattle.wire.proofs.Laws.Fields.{field_part, field-one}
use Rattle.wire.proofs.Laws.Steps.{items-step, items-stop}
use Rattle.wire.proofs.Laws.Sizes.{sized-some}
use Rattle.wire.proofs.Laws.Loops.{end-told}
use Rattle.wire.proofs.Laws.Frames.{framed_kind, framed-least}
use Rattle.wire.proofs.Laws.Counted.{counted-fits}
use Rattle.carousel_messages.specs.declared.Listed.{Listed}
use Rattle.carousel_messages.specs.Contents.{module_kind, modules_start, module_count_of, modules_of, module_size_of, announcement_framed}
use Rattle.carousel_messages.specs.Heard.{listed_of, none_listed, list_of}
use Rattle.carousel_messages.proofs.Laws.Refusals.{counted, framed-count}
use Rattle.carousel_messages.proofs.Laws.Limits.{take_map}

pub module_kind_lem : IsKind module_kind
module_kind_lem = framed_kind 8 (λ h. byte_at h 7)

-- items that are all there end where they would from 0 on, and as much later as they begin later
end_shift : (k a : ℕ) (is : List (List ℕ)) → k ≤ length is → end_of k a is ≡ a + end_of k 0 is
unfolding end_of
end_shift zero a is h = omega arith
end_shift (suc k) a [] h = absurd (omega arith)
end_shift (suc k) a (x ∷ is) h =
    let p = end_shift k (a + length x) is (omega arith) in
    let q = end_shift k (0 + length x) is (omega arith) in
    omega arith

-- an end as a call answers it
pub ends-sized : (k a : ℕ) (is : List (List ℕ)) → 0 < a → end_at k a is ≡ sized (end_of k a is)
unfolding end_at end_of
ends-sized zero a is h = sized-some a h
ends-sized (suc k) a [] h = refl
ends-sized (suc k) a (x ∷ is) h = ends-sized k (a + length x) is (omega arith)

pub sized-number : (n : ℕ) → unwrap_or (sized n) 0 ≡ n
sized-number zero = refl
sized-number (suc n) = refl

ends-all : (k a i : ℕ) (is : List (List ℕ)) → Some i ≡ end_at k a is → k ≤ length is
unfolding end_at
ends-all zero a i is e = omega arith
ends-all (suc k) a i [] e = let z : ◌≡◌ {A = ℕ} 0 1 = cc in absurd (omega arith)
ends-all (suc k) a i (x ∷ is) e = let h = ends-all k (a + length x) i is e in omega arith

ends-fewer : (k a : ℕ) (is : List (List ℕ)) → None ≡ end_at k a is → length is < k
unfolding end_at
ends-fewer zero a is e = let z : ◌≡◌ {A = ℕ} 0 1 = cc in absurd (omega arith)
ends-fewer (suc k) a [] e = omega arith
ends-fewer (suc k) a (x ∷ is) e = let h = ends-fewer k (a + length x) is e in omega arith

pub some_size : (xs : List ℕ) → 0 < length (items module_kind xs) → module_kind xs ≡ 0 → ⊥
some_size xs h z = let e = ap length (items-stop module_kind module_kind_lem xs z) in omega arith

-- where the first k of some items end, the others begin
others : (k : ℕ) (xs : List ℕ) → k ≤ length (items module_kind xs) → items module_kind (drop (end_of k 0 (items module_kind xs)) xs) ≡ drop k (items module_kind xs)
unfolding end_of
others zero xs h = refl
others (suc k) xs h =
    let n = some_size xs (omega arith) in
    let s = items-step module_kind module_kind_lem xs n in
    let l : length (items module_kind xs) ≡ suc (length (items module_kind (drop (module_kind xs) xs))) = ap length s in
    let q = others k (drop (module_kind xs) xs) (omega arith) in
    let f : length (take (module_kind xs) xs) ≡ module_kind xs = length-take-le (module_kind xs) xs (module_kind_lem.fits xs) in
    let e = end_shift k (0 + length (take (module_kind xs) xs)) (items module_kind (drop (module_kind xs) xs)) (omega arith) in
    let g : end_of k (0 + length (take (module_kind xs) xs)) (items module_kind (drop (module_kind xs) xs)) ≡ module_kind xs + end_of k 0 (items module_kind (drop (module_kind xs) xs)) =
    omega arith in
    let d = drop-drop (end_of k 0 (items module_kind (drop (module_kind xs) xs))) (module_kind xs) xs in
    rw (s, g, ← d) q

fields : (a b c x y z : ℕ) → a ≡ x → b ≡ y → c ≡ z → ◌≡◌ {A = Listed} (record { number = a; size = b; version = c }) (record { number = x; size = y; version = z })
fields a b c x y z e f g = cc

-- where fewer end there is none
pub listed-none : (list : List ℕ) (k : ℕ) → None ≡ end_at k 0 (items module_kind list) → None ≡ slice_get (list_of list) k
unfolding list_of
listed-none list k e =
    let h = ends-fewer k 0 (items module_kind list) e in
    sym (slice_get_past (map listed_of (items module_kind list)) k (rw length-map (omega arith)))

-- the module at a place, from where code reads it: where those before it end
module _ (list : List ℕ) (k i : ℕ) (e : Some i ≡ end_at k 0 (items module_kind list)) where
  abbrev from : List ℕ
  from = drop i list

  ends : i ≡ end_of k 0 (items module_kind list)
  ends = ap (λ o. unwrap_or o 0) e ∙ end-told k 0 (items module_kind list)

  left : items module_kind from ≡ drop k (items module_kind list)
  left = rw ends (others k list (ends-all k 0 i (items module_kind list) e))

  pub listed-past : module_kind from ≡ 0 → None ≡ slice_get (list_of list) k
  unfolding list_of
  listed-past z =
      let n = ap length (sym left ∙ items-stop module_kind module_kind_lem from z) in
      let d = length-drop k (items module_kind list) in
      sym (slice_get_past (map listed_of (items module_kind list)) k (rw length-map (omega arith)))

  pub listed-is : (module_kind from ≡ 0 → ⊥) → Some (record { number = sixteen_at list i; size = thirty_two_at list (i + 2); version = byte_at list (i + 6) }) ≡ slice_get (list_of list) k
  unfolding list_of field_at
  listed-is n =
      let s = sym left ∙ items-step module_kind module_kind_lem from n in
      let h : k < length (items module_kind list) = let d = length-drop k (items module_kind list) in let m = ap length s in omega arith in
      let l : 8 ≤ module_kind from = framed-least 8 (λ x. byte_at x 7) from n in
      let g : get_or (items module_kind list) k [] ≡ take (module_kind from) from =
      let z : k + 0 ≡ k = omega arith in ap (λ (m : ℕ). get_or (items module_kind list) m []) (sym z) ∙ sym (get_or-drop k (items module_kind list) 0 []) ∙ ap (λ (ys : List
      (List ℕ)). get_or ys 0 []) s in
      let n : sixteen_at (take (module_kind from) from) 0 ≡ sixteen_at list i = field_part 2 list i (module_kind from) 0 (omega arith) ∙ ap (field_at 2 list) (omega arith) in
      let z : thirty_two_at (take (module_kind from) from) 2 ≡ thirty_two_at list (i + 2) = field_part 4 list i (module_kind from) 2 (omega arith) in
      let v : byte_at (take (module_kind from) from) 6 ≡ byte_at list (i + 6) =
      sym (field-one (take (module_kind from) from) 6) ∙ field_part 1 list i (module_kind from) 6 (omega arith) ∙ field-one list (i + 6) in
      sym (slice_get-get_or (map listed_of (items module_kind list)) k none_listed (rw length-map h)
      ∙ ap Some (get_or-map listed_of (items module_kind list) k [] ∙ ap listed_of g ∙ fields _ _ _ _ _ _ n z v))

  pub ends-within : i ≤ length list
  ends-within = let h = counted-fits module_kind module_kind_lem k 0 list (omega arith) in omega (arith, ends)

-- the modules of an announcement that is framed whole, from the two fields that code reads for them
module _ (p : List ℕ) (f : announcement_framed p ≡ true) (i m : ℕ) (e : i ≡ modules_start p) (g : m ≡ module_count_of p) where
  pub list-long : m ≤ length (list_of (drop i p))
  unfolding list_of
  list-long =
      let l = framed-count p f in
      let k = length-map (modules_of p) module_size_of in
      let t = length-take (module_count_of p) (items module_kind (drop (modules_start p) p)) in
      rw (e, length-map) (omega arith)

  pub list_read : take m (list_of (drop i p)) ≡ map listed_of (modules_of p)
  unfolding list_of
  list_read = rw (e, g) (take_map listed_of (module_count_of p) (items module_kind (drop (modules_start p) p)))
