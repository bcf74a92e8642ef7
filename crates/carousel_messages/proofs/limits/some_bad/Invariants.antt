-- `carousel_messages::limits::some_bad` meets its contract. The invariant: of the sizes left one is bad just where one of all is.
use mathlib.Core.Path.{◌≡◌}
use lib.ListN.{drop}
use Rattle.carousel_messages.specs.Limits.{some_bad}
use Rattle.carousel_messages.specs.Heard.{sizes_of}
use Rattle.carousel_messages.proofs.limits.some_bad.Given as goal

abbrev pub invariant-loop-m : goal.invariant-loop-m
invariant-loop-m l = some_bad l.block_size (sizes_of (drop l.m-index l.modules)) ≡ some_bad l.block_size (sizes_of l.modules)
