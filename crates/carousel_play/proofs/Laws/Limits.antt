-- What an announcement within the limits gives, in the tests' words.
use mathlib.Core.Path.{◌≡◌}
use mathlib.Core.Bool.{false}
use native.Mathlib.Omega.{arith}
use lib.ListN.{length-map}
use Rattle.carousel_messages.specs.Limits.{beyond10, twice11}
use Rattle.carousel_messages.specs.Heard.{Announced, sizes_of, numbers_of}
use Rattle.carousel_messages.proofs.Good.{ten-exactly, distinct-back}
use Rattle.carousel_play.specs.Rotation.{KeepsLimits}

module _ (a : Announced) (k : KeepsLimits a) where
  -- 10 does not meet it
  pub not_ten : beyond10 a.block_size (sizes_of a.modules) ≡ false
  not_ten =
      let l = length-map a.modules (λ m. m.size) in
      (ten-exactly a.block_size (sizes_of a.modules)).1 (k.block_some, k.block_most, omega (arith, l, k.modules_some), omega (arith, l, k.modules_most), k.sizes, k.together)

  -- nor does 11
  pub not_eleven : twice11 (numbers_of a.modules) ≡ false
  not_eleven = distinct-back (numbers_of a.modules) k.distinct
