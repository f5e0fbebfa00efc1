use mathlib.Core.Path.{sym}
use native.Mathlib.Omega.{arith}
use lib.Seq.{length-take-le}
use Rattle.std.specs.Prelude.{option_map}
use Rattle.judge.specs.InUse.{tables_of}
use Rattle.index.specs.Index.{lent_index}
use Rattle.moves.specs.Gate.{changing}
use Rattle.moves.specs.Run.{Turn}
use Rattle.moves.proofs.WholeLaws.{front_lent}
use Rattle.moves.proofs.runs.change_lent.Goals as goal

pub slice_bounds-change_read-end-2 : goal.slice_bounds-change_read-end-2
slice_bounds-change_read-end-2 c = sym (length-take-le c.min-k.result c.args.values.now (omega (arith, c.min-k.ensures)))

pub slice_bounds-change_read-end-4 : goal.slice_bounds-change_read-end-4
slice_bounds-change_read-end-4 c = sym (length-take-le c.min-l.result c.args.verdicts.now (omega (arith, c.min-l.ensures)))

pub slice_bounds-change_read-end-6 : goal.slice_bounds-change_read-end-6
slice_bounds-change_read-end-6 c = sym (length-take-le c.min-m.result c.args.results.now (omega (arith, c.min-m.ensures)))

pub returns : goal.returns
returns c = let s = c.args in
    let turn : Turn = record { call = changing s.i s.v (option_map lent_index s.index); lent = record { values = s.p; verdicts = s.q; results = s.s } } in
    front_lent s.constraint.now (tables_of s.values.now s.verdicts.now s.results.now) turn c.min-k.result c.min-l.result c.min-m.result (record { reply = c.change_read.result; tables = tables_of c.change_read.new.values c.change_read.new.verdicts c.change_read.new.results }) c.min-k.ensures c.min-l.ensures c.min-m.ensures c.change_read.ensures
