use native.Mathlib.Omega.{arith}
use lib.ListN.{drop, length-drop}
use Rattle.text.proofs.ContentLaws.{ends_within}
use Rattle.text.proofs.FoundLineLaws.{stops_end, stops_ended, stops_faulty}
use Rattle.text.proofs.scan.find_line.Goals as goal

pub returns-then-file-stop : goal.returns-then-file-stop
returns-then-file-stop c = stops_end c.args.file.now c.args.at c.allowed-stop.result c.requires c.allowed-stop.ensures (omega arith)

pub overflow_add-next : goal.overflow_add-next
overflow_add-next c = let f = c.args.file.now in
    let m = c.allowed-stop.result in
    omega (arith, c.terminator_length.ensures, ends_within (drop m f), length-drop m f)

pub returns-then-next-stop : goal.returns-then-next-stop
returns-then-next-stop c = stops_faulty c.args.file.now c.args.at c.allowed-stop.result c.requires c.allowed-stop.ensures (omega arith) (omega (arith, c.terminator_length.ensures))

pub returns : goal.returns
returns c = stops_ended c.args.file.now c.args.at c.allowed-stop.result c.requires c.allowed-stop.ensures c.terminator_length.result (omega arith) c.terminator_length.ensures
