-- Widths of one or two digits, which all widths of an accepted file are.
use Rattle.std.specs.Prelude.{ℕ, ◌<◌, List, get_or}
use Rattle.store.specs.declared.Progress.{Progress}
use Rattle.store.specs.Tables.{Store, line_bodies, word_width, head_width, head_at}

abbrev pub ShortWidth : ℕ → Type 0
ShortWidth k = k < 100

-- of the first n variables, and of the operands of line k
abbrev pub ShortVariables : List ℕ → ℕ → Type 0
ShortVariables table n = (i : ℕ) → i < n → ShortWidth (word_width (get_or table i 0))

abbrev pub ShortHeads : List ℕ → ℕ → Type 0
ShortHeads heads k = (slot : ℕ) → slot < line_bodies → ShortWidth (head_width (head_at heads k slot))

-- of all that is read
pub record ShortWidths (t : Store) (p : Progress) : Type 0 where
  pub variables : ShortVariables t.variables p.variables
  pub lines : (k : ℕ) → k < p.lines → ShortHeads t.heads k
