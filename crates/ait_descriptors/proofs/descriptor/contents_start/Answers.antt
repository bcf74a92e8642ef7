-- `ait_descriptors::descriptor::contents_start` meets its contract.
use Rattle.ait_descriptors.proofs.Laws.Contents.{no-contents}
use borrow.Author.Rules.{rules}
use Rattle.ait_descriptors.proofs.descriptor.contents_start.Goals as goal

pub returns-then-d-lt2 : goal.returns-then-d-lt2
returns-then-d-lt2 c = (search rules, no-contents c.args.d.now c.if-d-lt2.true)
