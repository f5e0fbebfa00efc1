use Rattle.store.specs.Tables.{head_width}
use borrow.Author.Rules.{rules}
use Rattle.store.proofs.lines.constant_head.Goals as goal

pub returns : goal.returns
unfolding head_width
returns c = search rules
