use Rattle.constraint.specs.Read.{expectation_of}
use Rattle.declaration.proofs.header.expectation_line.Given as goal

abbrev pub ghost-read_single : goal.ghost-read_single
ghost-read_single a = expectation_of
