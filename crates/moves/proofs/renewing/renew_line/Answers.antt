use Rattle.moves.proofs.renewing.renew_line.Goals as goal

pub returns : goal.returns
returns c xs f = let fresh = c.judge_line-judged.ensures xs f in
    (rw (c.byte-new.ensures, fresh) at c.differ.ensures, rw (c.byte-new.ensures, fresh))
