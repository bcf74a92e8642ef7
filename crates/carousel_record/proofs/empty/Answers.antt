-- `carousel_record::empty` meets its contract: an unused entry is all zero.
use mathlib.Core.Path.{◌≡◌, ap}
use lib.ListN.{replicate}
use Rattle.carousel_messages.specs.Limits.{most_modules}
use Rattle.carousel_record.specs.declared.Module.{Module}
use Rattle.carousel_record.specs.declared.Carousel.{Carousel}
use Rattle.carousel_record.specs.Marks.{mark_words}
use Rattle.carousel_record.specs.Record.{unused}
use Rattle.carousel_record.specs.Changes.{empty_record}
use Rattle.carousel_record.proofs.empty.Goals as goal

pub returns : goal.returns
unfolding empty_record
returns c =
    let d = c.default.ensures in
    let u : c.default.result ≡ unused = λ i. record { number = d.0 i; size = d.1.0 i; version = d.1.1.0 i; start = d.1.1.1 i } in
    ap filled u
  where
    filled : Module → Carousel
    filled m = record { download = 0; block_size = 0; count = 0; modules = replicate most_modules m; marks = replicate mark_words 0 }
