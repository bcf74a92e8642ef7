-- What a written announcement's payload reads as: its fields, its modules, and that it ends exactly.
use Prim.Native.Nat.{ℕ, suc, ◌+◌, ◌*◌, ◌^◌, ◌≤◌, ◌<◌}
use mathlib.Core.Path.{◌≡◌, refl, sym, ap, ap₂, ◌∙◌}
use mathlib.Core.List.{List, [], ◌∷◌, ◌++◌, map}
use native.Mathlib.Omega.{arith}
use lib.ListN.{length, get_or, drop, take, length-append, length-map}
use lib.Seq.{take_at, drop_at}
use Rattle.wire.specs.Fields.{field_at, spelled, sixteen_at}
use Rattle.wire.specs.Items.{framed, joined, items, end_of, Wholes}
use Rattle.wire.proofs.Laws.Fields.{field_drop}
use Rattle.wire.proofs.Laws.Meaning.{found, end_means}
use Rattle.carousel_messages.specs.declared.Listed.{Listed}
use Rattle.carousel_messages.specs.Contents.{download_of, block_size_of, compatibility_of, module_count_of, modules_start, module_kind, modules_end, modules_of}
use Rattle.carousel_messages.specs.Limits.{most_modules}
use Rattle.carousel_messages.specs.Heard.{Announced, listed_of, none_listed}
use Rattle.carousel_messages.proofs.Laws.Listed.{module_kind_lem}
use Rattle.carousel_play.specs.Bytes.{module_bytes, modules_bytes, list_bytes}
use Rattle.carousel_play.proofs.Laws.Framing.{two, four}

-- ONE MODULE is one item of eight bytes, and says what was written
pub module-whole : (m : Listed) → (module_kind (module_bytes m) ≡ 8) × (length (module_bytes m) ≡ 8)
unfolding module_bytes spelled framed
module-whole m = (refl, refl)

pub module-says : (m : Listed) → m.number < 2 ^ 16 → m.size < 2 ^ 32 → listed_of (module_bytes m) ≡ m
unfolding module_bytes spelled field_at
module-says m n z =
    let e = two m.number n in
    let f = four m.size z in
    λ i. record { number = e i; size = f i; version = m.version }

-- AND A LIST OF THEM
pub modules-whole : (ms : List Listed) → Wholes module_kind (map module_bytes ms)
modules-whole [] = tt
modules-whole (m ∷ ms) = let w = module-whole m in ((w.0 ∙ sym w.1, omega (arith, w.1)), modules-whole ms)

pub modules-long : (ms : List Listed) → length (modules_bytes ms) ≡ 8 * length ms
unfolding joined
modules-long [] = refl
modules-long (m ∷ ms) = let w = module-whole m in let l = modules-long ms in length-append (module_bytes m) (modules_bytes ms) ∙ omega (arith, w.1)

pub modules_say : (ms : List Listed) → ((i : ℕ) → i < length ms → ((get_or ms i none_listed).number < 2 ^ 16) × ((get_or ms i none_listed).size < 2 ^ 32)) → map listed_of (map module_bytes ms) ≡ ms
modules_say [] h = refl
modules_say (m ∷ ms) h = let k = h 0 (omega arith) in ap₂ (λ (x : Listed) (xs : List Listed). x ∷ xs) (module-says m k.0 k.1) (modules_say ms (λ i l. h (suc i) (omega arith)))

-- THE PAYLOAD
module _ (a : Announced) (few : length a.modules ≤ most_modules) where
  abbrev p : List ℕ
  p = list_bytes a

  abbrev n : ℕ
  n = length a.modules

  abbrev tail : List ℕ
  tail = modules_bytes a.modules ++ spelled 2 0

  pub list-download : a.download < 2 ^ 32 → download_of p ≡ a.download
  unfolding list_bytes spelled field_at
  list-download h = four a.download h

  pub list-block-size : a.block_size < 2 ^ 16 → block_size_of p ≡ a.block_size
  unfolding list_bytes spelled field_at
  list-block-size h = two a.block_size h

  none_compatible : compatibility_of p ≡ 0
  unfolding list_bytes spelled field_at
  none_compatible = refl

  list_count : module_count_of p ≡ n
  unfolding list_bytes spelled field_at
  list_count = two n (omega arith)

  list-tail : drop 20 p ≡ tail
  unfolding list_bytes spelled
  list-tail = refl

  tail-long : length tail ≡ 8 * n + 2
  unfolding spelled
  tail-long = length-append (modules_bytes a.modules) (spelled 2 0) ∙ ap (λ (k : ℕ). k + 2) (modules-long a.modules)

  pub list-long : length p ≡ 22 + 8 * n
  unfolding list_bytes spelled
  list-long = let t = tail-long in omega arith

  starts-at : modules_start p ≡ 20
  starts-at = ap (λ (k : ℕ). 20 + k) none_compatible

  its-items : items module_kind (drop (modules_start p) p) ≡ map module_bytes a.modules ++ items module_kind (spelled 2 0)
  its-items = ap (λ (k : ℕ). items module_kind (drop k p)) starts-at ∙ ap (items module_kind) list-tail
      ∙ found module_kind module_kind_lem (map module_bytes a.modules) (spelled 2 0) (modules-whole a.modules)

  -- ITS MODULES ARE THE ANNOUNCED ONES
  pub list-modules : modules_of p ≡ map module_bytes a.modules
  list-modules = ap₂ (λ (k : ℕ) (l : List (List ℕ)). take k l) list_count its-items ∙ take_at (map module_bytes a.modules) (items module_kind (spelled 2 0)) n (length-map a.modules module_bytes)

  ends_at : modules_end p ≡ 20 + 8 * n
  ends_at =
      ap (λ (k : ℕ). end_of k (modules_start p) (items module_kind (drop (modules_start p) p))) list_count
      ∙ ap (λ (k : ℕ). end_of n k (items module_kind (drop k p))) starts-at
      ∙ ap (λ (l : List ℕ). end_of n 20 (items module_kind l)) list-tail
      ∙ ap (λ (k : ℕ). end_of k 20 (items module_kind tail)) (sym (length-map a.modules module_bytes))
      ∙ end_means module_kind module_kind_lem (map module_bytes a.modules) (spelled 2 0) 20 (modules-whole a.modules)
      ∙ ap (λ (k : ℕ). 20 + k) (modules-long a.modules)

  -- AND IT ENDS EXACTLY
  none_more : field_at 2 (spelled 2 0) 0 ≡ 0
  unfolding spelled field_at
  none_more = refl

  no_private : sixteen_at p (20 + 8 * n) ≡ 0
  no_private =
      let e : 8 * n ≡ 8 * n + 0 = omega arith in
      sym (field_drop 2 p 20 (8 * n))
      ∙ ap (λ (l : List ℕ). field_at 2 l (8 * n)) list-tail
      ∙ ap (λ (k : ℕ). field_at 2 tail k) e
      ∙ sym (field_drop 2 tail (8 * n) 0)
      ∙ ap (λ (l : List ℕ). field_at 2 l 0) (drop_at (modules_bytes a.modules) (spelled 2 0) (8 * n) (modules-long a.modules))
      ∙ none_more

  pub list-starts : modules_start p ≤ length p
  list-starts = let l = list-long in let s = starts-at in omega arith

  pub list_counted : modules_end p ≡ 0 → ⊥
  list_counted z = let e = ends_at in omega arith

  pub list-ends : modules_end p + 2 + sixteen_at p (modules_end p) ≡ length p
  list-ends = let l = list-long in let e = ends_at in let q : sixteen_at p (modules_end p) ≡ 0 = ap (sixteen_at p) ends_at ∙ no_private in omega arith
