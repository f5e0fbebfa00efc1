use mathlib.Core.Path.{ap, ◌∙◌}
use Rattle.store.proofs.SearchLaws.{searchable_none}
use Rattle.refusal.specs.Result.{accepted_as}
use Rattle.store.proofs.ExitLaws.{exit}
use Rattle.reader.specs.Inspect.{counts_of}
use Rattle.reader.proofs.ReaderLaws.{counts_are}
use borrow.Author.Rules.{rules}
use Rattle.reader.proofs.inspect.Goals as goal

pub read-requires : goal.read-requires
read-requires c = (search rules, searchable_none _)

pub returns-in_err-p : goal.returns-in_err-p
returns-in_err-p c = rw (exit c.from_residual.result c.in_err-p.field-0.0 c.from_residual.ensures) (ap (accepted_as counts_of) c.in_err-p.ensures.0)

pub returns : goal.returns
returns c = counts_are c.args.file.now _ c.in_ok-p.p ∙ ap (accepted_as counts_of) c.in_ok-p.ensures.0
