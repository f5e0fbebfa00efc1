use Rattle.clean.proofs.ClaimLaws.{room_of_the_file}
use Rattle.clean.proofs.claims.room_of_the_file.Goals as goal

pub returns : goal.returns
returns c = room_of_the_file
