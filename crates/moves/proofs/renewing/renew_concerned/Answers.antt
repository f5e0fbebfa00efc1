use Rattle.index.specs.Index.{lent_index}
use Rattle.moves.specs.Internal.{ListFitting}
use Rattle.moves.proofs.RenewLaws.{part_listed, part_fits}
use Rattle.moves.proofs.renewing.renew_concerned.Goals as goal
use Rattle.moves.proofs.renewing.renew_concerned.Goals.{In-Some}

-- the list of the variable in the index fits
fitting : (c : In-Some) → ListFitting c.args.m (lent_index c.in-Some.field-0) c.args.i
fitting c = rw c.in-Some.is at c.requires.5

pub renew_listed-requires : goal.renew_listed-requires
renew_listed-requires c =
    let listed = part_fits _ _ _ (fitting (goal.at.renew_listed-requires c).In-Some) in
    rw c.in-Some.is (c.requires.0, c.requires.1, c.requires.2, c.requires.3, c.requires.4, listed, c.requires.6)

pub returns-in-Some : goal.returns-in-Some
returns-in-Some c xs f =
    let listed = part_listed _ _ _ (fitting (goal.at.returns-in-Some c).In-Some) in
    rw (c.in-Some.is, ← listed) (rw c.in-Some.is at (c.renew_listed.ensures xs f))
