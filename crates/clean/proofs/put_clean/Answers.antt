use native.Mathlib.Omega.{arith}
use Rattle.store.specs.Tables.{store_of}
use Rattle.store.specs.Progress.{stored_file}
use Rattle.clean.proofs.TextLaws.{clean_length, put_clean}
use Rattle.clean.proofs.put_clean.Goals as goal

pub put_version-second-requires : goal.put_version-second-requires
put_version-second-requires c = rw c.edition_of.ensures (omega (arith, c.requires.3, clean_length (let a = c.args in stored_file a.file.now (store_of a.variables.now a.heads.now a.bodies.now) a.p)))

pub put_expectation-third-requires : goal.put_expectation-third-requires
put_expectation-third-requires c = omega (arith, c.requires.3, clean_length (let a = c.args in stored_file a.file.now (store_of a.variables.now a.heads.now a.bodies.now) a.p), rw c.edition_of.ensures at c.put_version-second.ensures.ends)

pub put_declarations-statements-requires : goal.put_declarations-statements-requires
put_declarations-statements-requires c = (c.requires.1.variables, c.requires.2.variables, omega (arith, c.requires.3, clean_length (let a = c.args in stored_file a.file.now (store_of a.variables.now a.heads.now a.bodies.now) a.p), rw c.edition_of.ensures at c.put_version-second.ensures.ends))

pub put_statements-requires : goal.put_statements-requires
put_statements-requires c = (c.requires.1.variables, c.requires.0.heads, c.requires.0.bodies, c.requires.1.lines, c.requires.2.lines, omega (arith, c.requires.3, clean_length (let a = c.args in stored_file a.file.now (store_of a.variables.now a.heads.now a.bodies.now) a.p), rw c.edition_of.ensures at c.put_version-second.ensures.ends))

pub returns : goal.returns
returns c = let version = rw c.edition_of.ensures at c.put_version-second.ensures in
    put_clean (let a = c.args in stored_file a.file.now (store_of a.variables.now a.heads.now a.bodies.now) a.p) c.requires.3 version c.put_expectation-third.ensures c.put_declarations-statements.ensures c.put_statements.ensures
