use mathlib.Core.Path.{sym, ◌∙◌}
use Rattle.index.specs.Index.{index_of}
use Rattle.index.proofs.ListedLaws.{starts_long}
use Rattle.index.proofs.fitting.index_fits.Goals as goal

pub lists_fit-requires : goal.lists_fit-requires
lists_fit-requires c = let a = c.args in
    starts_long a.n (index_of a.index.starts.now a.index.lists.now) (sym c.starts_fit.ensures ∙ c.if-not-starts_fit.false)
