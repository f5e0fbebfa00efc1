use Rattle.constraint.specs.Read.{version_of}
use Rattle.declaration.proofs.header.version_line.Given as goal

abbrev pub ghost-read_single : goal.ghost-read_single
ghost-read_single a = version_of
