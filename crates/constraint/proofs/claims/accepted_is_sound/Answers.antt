use Rattle.constraint.proofs.SoundLaws.{accepted_is_sound}
use Rattle.constraint.proofs.claims.accepted_is_sound.Goals as goal

pub returns : goal.returns
returns c = accepted_is_sound
