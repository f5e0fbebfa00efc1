use Rattle.printing.proofs.PlaceLaws.{put_one}
use Rattle.printing.proofs.put_byte.Goals as goal

pub returns : goal.returns
returns c = put_one _ _ _ c.requires
