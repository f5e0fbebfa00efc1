use Rattle.printing.proofs.PartLaws.{part_none, part_rest, part_whole}
use Rattle.printing.proofs.parts.part.Goals as goal

pub returns-then-file-start : goal.returns-then-file-start
returns-then-file-start c = part_none _ c.args.start c.args.len c.if-file-start.true

pub returns-then-file-start-2 : goal.returns-then-file-start-2
returns-then-file-start-2 c = part_rest _ _ _ c.if-file-start.false c.if-file-start-2.true

pub returns : goal.returns
returns c = part_whole _ _ _ c.if-file-start.false c.if-file-start-2.false
