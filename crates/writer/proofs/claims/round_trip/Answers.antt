use Rattle.writer.proofs.RoundTripLaws.{round_trip}
use Rattle.writer.proofs.claims.round_trip.Goals as goal

pub returns : goal.returns
returns c = round_trip
