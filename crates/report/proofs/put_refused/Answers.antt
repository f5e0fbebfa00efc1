use native.Mathlib.Omega.{arith}
use Rattle.report.proofs.ReportLaws.{refused_length, put_refused}
use Rattle.report.proofs.put_refused.Goals as goal

pub put_refusal-end-requires : goal.put_refusal-end-requires
put_refusal-end-requires c = omega (arith, c.requires, refused_length c.args.refusal)

pub put_byte-requires : goal.put_byte-requires
put_byte-requires c = omega (arith, c.requires, refused_length c.args.refusal)

pub returns : goal.returns
returns c = put_refused _ c.requires c.put_refusal-end.ensures c.put_byte.ensures
