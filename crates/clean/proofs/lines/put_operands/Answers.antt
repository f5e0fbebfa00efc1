use native.Mathlib.Omega.{arith}
use Rattle.edition.specs.Edition.{edition10}
use Rattle.store.specs.Tables.{variables_in}
use Rattle.clean.proofs.LineLaws.{operands_length, put_operands}
use Rattle.clean.proofs.lines.put_operands.Goals as goal

pub put_slot-second-requires : goal.put_slot-second-requires
put_slot-second-requires c = (c.requires.0, c.requires.1, c.requires.2, c.requires.3, omega arith, c.requires.4, omega (arith, c.requires.5, operands_length edition10 (variables_in c.args.file.now c.args.variables.now c.args.n) c.args.heads.now c.args.bodies.now c.args.k))

pub put_slot-third-requires : goal.put_slot-third-requires
put_slot-third-requires c = (c.requires.0, c.requires.1, c.requires.2, c.requires.3, omega arith, c.requires.4, omega (arith, c.requires.5, operands_length edition10 (variables_in c.args.file.now c.args.variables.now c.args.n) c.args.heads.now c.args.bodies.now c.args.k))

pub put_slot-requires : goal.put_slot-requires
put_slot-requires c = (c.requires.0, c.requires.1, c.requires.2, c.requires.3, omega arith, c.requires.4, omega (arith, c.requires.5, operands_length edition10 (variables_in c.args.file.now c.args.variables.now c.args.n) c.args.heads.now c.args.bodies.now c.args.k))

pub returns : goal.returns
returns c = put_operands edition10 _ _ _ _ c.requires.5 c.put_slot-second.ensures c.put_slot-third.ensures c.put_slot.ensures
