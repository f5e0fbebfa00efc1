-- What a file says is decided by the contents of its lines. Assumes nothing.
use Prim.Native.Nat.{ℕ, ◌≤◌}
use mathlib.Core.Path.{◌≡◌, sym, ◌∙◌}
use mathlib.Core.List.{List}
use lib.ListN.{length}
use Rattle.edition.specs.Edition.{max_file_bytes}
use Rattle.text.specs.Lines.{TextLine}
use Rattle.text.specs.Endings.{contents, ContentsDecide}
use Rattle.text.proofs.TokenLaws.{arguments_moved}
use Rattle.text.proofs.EndingLaws.{by_contents}
use Rattle.constraint.specs.File.{File}
use Rattle.constraint.specs.Read.{read_file}
use Rattle.constraint.proofs.AllowedLinesLaws.{allowed_same}
use Rattle.plain.specs.Says.{tokens_behind, said_by, said, Says}
use Rattle.plain.proofs.SaysLaws.{reads_exactly}

said_moved : (l m : TextLine) → l.bytes ≡ m.bytes → said_by l ≡ said_by m
unfolding said_by tokens_behind
said_moved l m e = rw (arguments_moved l m e, e)

module _ (a b : List ℕ) (same : contents a ≡ contents b) (short : length b ≤ max_file_bytes) where
  says_same : (f : File) → Says a f → Says b f
  unfolding said
  says_same f h = record {
    short = short;
    allowed = allowed_same a b same h.allowed;
    header = h.header;
    others = h.others;
    in_order = sym (by_contents said_moved a b same) ∙ h.in_order;
    header_letters = h.header_letters;
    version = h.version;
    expectation = h.expectation;
    some_declared = h.some_declared;
    declared = h.declared;
    variables = h.variables;
    distinct = h.distinct;
    few_variables = h.few_variables;
    spelt = h.spelt;
    few_lines = h.few_lines;
  }

pub contents_decide : ContentsDecide read_file
contents_decide a b f same short e = (reads_exactly b f).1 (says_same a b same short f ((reads_exactly a f).0 e))
