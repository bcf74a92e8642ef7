-- `carousel_messages::body::announcement_of` meets its contract: each field is what its reader answers.
use Prim.Native.Nat.{◌+◌, ◌-◌}
use mathlib.Core.Path.{◌≡◌, ap, ap₂, ◌∙◌}
use Rattle.std.proofs.Common.{unwrap_or}
use Rattle.carousel_messages.specs.Contents.{download_of, block_size_of, module_count_of, modules_start, modules_end}
use Rattle.carousel_messages.specs.Message.{payload_of}
use Rattle.carousel_messages.specs.Judged.{announcement_of}
use Rattle.carousel_messages.proofs.Laws.Listed.{sized-number}
use Rattle.carousel_messages.proofs.body.announcement_of.Goals as goal

pub returns : goal.returns
unfolding announcement_of
returns c =
    let payload = c.payload-p.ensures in
    let from = c.modules_start-start.ensures.0 ∙ ap modules_start payload in
    let to : c.unwrap_or-end.result ≡ modules_end (payload_of c.args.b.now) = c.unwrap_or-end.ensures ∙ ap (λ o. unwrap_or o 0) c.modules_end.ensures ∙ sized-number _ ∙ ap modules_end payload in
    λ i. record {
      download = (c.thirty_two_at.ensures.0 ∙ ap download_of payload) i;
      block_size = (c.sixteen_at.ensures.0 ∙ ap block_size_of payload) i;
      count = (c.module_count.ensures.0 ∙ ap module_count_of payload) i;
      part = record { start = 20 + c.eight_at.ensures.0 i + from i; size = (c.saturating_sub.ensures ∙ ap₂ ◌-◌ to from) i };
    }
