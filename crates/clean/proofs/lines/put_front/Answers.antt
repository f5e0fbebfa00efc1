use native.Mathlib.Omega.{arith}
use Rattle.edition.specs.Edition.{edition10}
use Rattle.store.specs.Tables.{variables_in}
use Rattle.clean.proofs.LineLaws.{line_front_length, put_front}
use Rattle.clean.proofs.lines.put_front.Goals as goal

pub put_byte-output-requires : goal.put_byte-output-requires
put_byte-output-requires c = omega (arith, c.requires.5, line_front_length edition10 (variables_in c.args.file.now c.args.variables.now c.args.n) c.args.heads.now c.args.bodies.now c.args.k (rw c.head_of.ensures at c.letter_of.ensures))

pub put_slot-operator-requires : goal.put_slot-operator-requires
put_slot-operator-requires c = (c.requires.0, c.requires.1, c.requires.2, c.requires.3, omega arith, c.requires.4, omega (arith, c.requires.5, line_front_length edition10 (variables_in c.args.file.now c.args.variables.now c.args.n) c.args.heads.now c.args.bodies.now c.args.k (rw c.head_of.ensures at c.letter_of.ensures)))

pub put_operator-requires : goal.put_operator-requires
put_operator-requires c = rw c.operator_of.ensures (omega (arith, c.requires.5, line_front_length edition10 (variables_in c.args.file.now c.args.variables.now c.args.n) c.args.heads.now c.args.bodies.now c.args.k (rw c.head_of.ensures at c.letter_of.ensures)))

pub returns : goal.returns
returns c = let operator = rw c.operator_of.ensures at c.put_operator.ensures in
    put_front _ _ _ _ _ (rw c.head_of.ensures at c.letter_of.ensures) c.requires.5 c.put_byte-letter.ensures c.put_byte-output.ensures c.put_slot-operator.ensures operator
