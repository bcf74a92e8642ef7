-- What a record says, entry by entry.
use Prim.Native.Nat.{ℕ, ◌≤◌, ◌<◌}
use mathlib.Core.Path.{◌≡◌, ap, ◌∙◌}
use mathlib.Core.List.{List, map}
use native.Mathlib.Omega.{arith}
use lib.ListN.{length, get_or, take, length-map, length-take, get_or-map}
use lib.Seq.{get_or-take, length-take-le}
use Rattle.carousel_messages.specs.Limits.{most_modules}
use Rattle.carousel_record.specs.declared.Module.{Module}
use Rattle.carousel_record.specs.declared.Carousel.{Carousel}
use Rattle.carousel_record.specs.Record.{listed_in, start_in, announced_by, starts_by, module_at, unused}

-- the listed ones are as many as are counted
pub listed_length : (ms : List Module) (n : ℕ) → n ≤ length ms → length (map listed_in (take n ms)) ≡ n
listed_length ms n h = length-map (take n ms) listed_in ∙ length-take-le n ms h

module _ (c : Carousel) (i : ℕ) (h : i < c.count) where
  pub says_module : module_at (announced_by c) i ≡ listed_in (get_or c.modules i unused)
  unfolding announced_by
  says_module = get_or-map listed_in (take c.count c.modules) i unused ∙ ap listed_in (get_or-take c.count c.modules i unused h)

  pub says-start : get_or (starts_by c) i 0 ≡ (get_or c.modules i unused).start
  unfolding starts_by
  says-start = get_or-map start_in (take c.count c.modules) i unused ∙ ap start_in (get_or-take c.count c.modules i unused h)

-- of the entries that are counted, all that there are
pub said-within : (c : Carousel) (i : ℕ) → i < length (announced_by c).modules → i < c.count
unfolding announced_by
said-within c i h =
    let l = length-map (take c.count c.modules) listed_in in
    let m = length-take c.count c.modules in
    omega arith

pub says-count : (c : Carousel) → length c.modules ≡ most_modules → c.count ≤ most_modules → length (announced_by c).modules ≡ c.count
unfolding announced_by
says-count c l few = listed_length c.modules c.count (omega arith)
