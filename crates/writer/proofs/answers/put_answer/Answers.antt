use mathlib.Core.Path.{ap}
use native.Mathlib.Omega.{arith}
use lib.ListN.{length}
use Rattle.writer.proofs.AnswerLaws.{answer_length, put_answer}
use Rattle.writer.proofs.answers.put_answer.Goals as goal

pub put_bytes-word-requires : goal.put_bytes-word-requires
put_bytes-word-requires c = let long = answer_length c.args.file.now c.args.variables.now c.args.n c.args.row.now in
    omega (arith, c.requires.2, long)

pub put_bytes-end-requires : goal.put_bytes-end-requires
put_bytes-end-requires c = let long = answer_length c.args.file.now c.args.variables.now c.args.n c.args.row.now in
    omega (arith, c.requires.2, long, ap length c.satisfiable.ensures)

pub put_byte-values-requires : goal.put_byte-values-requires
put_byte-values-requires c = let long = answer_length c.args.file.now c.args.variables.now c.args.n c.args.row.now in
    omega (arith, c.requires.2, long, ap length c.satisfiable.ensures)

pub put_values-requires : goal.put_values-requires
put_values-requires c = let long = answer_length c.args.file.now c.args.variables.now in
    let word = ap length c.satisfiable.ensures in
    (c.requires.0, c.requires.1, omega (arith, c.requires.2, long c.args.n c.args.row.now, word))

pub returns : goal.returns
returns c = let start = c.put_bytes-word.ensures in
    let word = rw c.satisfiable.ensures at c.put_bytes-end.ensures in
    let end = c.put_byte-values.ensures in
    put_answer _ _ _ _ c.requires.2 start word end c.put_values.ensures
