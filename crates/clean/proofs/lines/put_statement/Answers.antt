use native.Mathlib.Omega.{arith}
use Rattle.edition.specs.Edition.{edition10}
use Rattle.store.specs.Tables.{variables_in, line_in}
use Rattle.clean.proofs.LineLaws.{statement_length, put_statement}
use Rattle.clean.proofs.lines.put_statement.Goals as goal

pub put_front-operands-requires : goal.put_front-operands-requires
put_front-operands-requires c = (c.requires.0, c.requires.1, c.requires.2, c.requires.3, c.requires.4, omega (arith, c.requires.5, statement_length edition10 (variables_in c.args.file.now c.args.variables.now c.args.n) (line_in c.args.heads.now c.args.bodies.now c.args.k)))

pub put_operands-requires : goal.put_operands-requires
put_operands-requires c = (c.requires.0, c.requires.1, c.requires.2, c.requires.3, c.requires.4, omega (arith, c.requires.5, statement_length edition10 (variables_in c.args.file.now c.args.variables.now c.args.n) (line_in c.args.heads.now c.args.bodies.now c.args.k)))

pub returns : goal.returns
returns c = put_statement _ _ _ c.requires.5 c.put_front-operands.ensures c.put_operands.ensures
