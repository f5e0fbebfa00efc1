use Rattle.text.proofs.EndingLaws.{feeds_end_lines}
use Rattle.text.proofs.claims.feeds_end_lines.Goals as goal

pub returns : goal.returns
returns c = feeds_end_lines
