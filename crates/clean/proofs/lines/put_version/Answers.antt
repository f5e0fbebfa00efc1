use native.Mathlib.Omega.{arith}
use Rattle.clean.proofs.LineLaws.{version_length, put_version}
use Rattle.clean.proofs.lines.put_version.Goals as goal

pub put_bytes-major-requires : goal.put_bytes-major-requires
put_bytes-major-requires c = omega (arith, c.requires, version_length c.args.e)

pub put_digits-dot-requires : goal.put_digits-dot-requires
put_digits-dot-requires c = omega (arith, c.requires, version_length c.args.e)

pub put_byte-minor-requires : goal.put_byte-minor-requires
put_byte-minor-requires c = omega (arith, c.requires, version_length c.args.e)

pub put_digits-requires : goal.put_digits-requires
put_digits-requires c = omega (arith, c.requires, version_length c.args.e)

pub returns : goal.returns
returns c = put_version _ c.requires c.put_bytes-major.ensures c.put_digits-dot.ensures c.put_byte-minor.ensures c.put_digits.ensures
