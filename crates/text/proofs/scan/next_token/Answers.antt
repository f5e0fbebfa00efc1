use native.Mathlib.Omega.{arith}
use Rattle.text.specs.declared.Class.TheVariants.{Space}
use Rattle.text.specs.Scan.{is_of}
use Rattle.text.proofs.RunLaws.{scan_bounds}
use Rattle.text.proofs.TokenLaws.{tokens_done, tokens_turn, token_within}
use Rattle.text.proofs.scan.next_token.Goals as goal

pub returns-then-start-line : goal.returns-then-start-line
returns-then-start-line c = let a = c.args in (tokens_done a.line.now a.at _ c.scan-start.ensures c.if-start-line.true, tt)

pub scan-stop-requires : goal.scan-stop-requires
scan-stop-requires c = (scan_bounds (is_of Space) c.args.line.now c.args.at _ c.requires c.scan-start.ensures).1

pub returns : goal.returns
returns c = let e = c.scan-start.ensures in
    let b = scan_bounds (is_of Space) c.args.line.now c.args.at _ c.requires e in
    (tokens_turn c.args.line.now c.args.at _ e (omega arith) _ c.scan-stop.ensures, token_within c.args.line.now c.args.at _ e (omega arith) _ c.scan-stop.ensures)
