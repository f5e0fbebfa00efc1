use native.Mathlib.Omega.{arith}
use Rattle.writer.proofs.AnswerLaws.{put_no_values, values_length, put_values}
use Rattle.writer.proofs.answers.put_values.Goals as goal

pub returns-then-n-eq0 : goal.returns-then-n-eq0
returns-then-n-eq0 c = put_no_values _ _ _ _ c.if-n-eq0.true _ _

pub put_byte-first-requires : goal.put_byte-first-requires
put_byte-first-requires c = let long = values_length c.args.file.now c.args.variables.now c.args.n c.args.row.now c.if-n-eq0.false in
    omega (arith, c.requires.2, long)

pub put_settings-end-requires : goal.put_settings-end-requires
put_settings-end-requires c = let long = values_length c.args.file.now c.args.variables.now in
    (c.requires.0, c.requires.1, omega (arith, c.requires.2, long c.args.n c.args.row.now c.if-n-eq0.false))

pub put_byte-requires : goal.put_byte-requires
put_byte-requires c = let long = values_length c.args.file.now c.args.variables.now c.args.n c.args.row.now c.if-n-eq0.false in
    omega (arith, c.requires.2, long, c.put_settings-end.ensures.ends)

pub returns : goal.returns
returns c = let Some = c.if-n-eq0.false in
    let first = c.put_byte-first.ensures in
    let values = c.put_settings-end.ensures in
    put_values _ _ _ _ Some c.requires.2 first values c.put_byte.ensures
