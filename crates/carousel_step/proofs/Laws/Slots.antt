-- The entry of a module's number: there where the number is among those that are counted.
use Prim.Native.Nat.{ℕ, ◌≤◌, ◌<◌}
use mathlib.Core.Path.{◌≡◌, sym, ap, ◌∙◌}
use mathlib.Core.Bool.{true}
use native.Mathlib.Omega.{arith}
use lib.ListN.{length, get_or}
use borrow.Author.Tests.{lt-ltb, le-ltb}
use Rattle.std.proofs.Common.{Option, Some, None}
use Rattle.carousel_messages.specs.Limits.{most_modules}
use Rattle.carousel_messages.specs.Heard.{found}
use Rattle.carousel_record.specs.declared.Carousel.{Carousel}
use Rattle.carousel_record.specs.Record.{announced_by, place_of, slot_of, unused}
use Rattle.carousel_record.proofs.Laws.Says.{says-count}

module _ (c : Carousel) (entries : length c.modules ≡ most_modules) (few : c.count ≤ most_modules) (k : ℕ) where
  pub found-slot : place_of (announced_by c) k < c.count → slot_of c k ≡ Some (record { place = place_of (announced_by c) k; entry = get_or c.modules (place_of (announced_by c) k) unused })
  found-slot l =
      rw (says-count c entries few, lt-ltb (place_of (announced_by c) k) c.count l, lt-ltb (place_of (announced_by c) k) (length c.modules) (omega arith))

  pub no_slot : c.count ≤ place_of (announced_by c) k → slot_of c k ≡ None
  no_slot l = rw (says-count c entries few, le-ltb (place_of (announced_by c) k) c.count l)
