-- The clean text of an accepted file reads back, so equal texts are of equal files. Assumes nothing.
use Prim.Native.Nat.{ℕ}
use mathlib.Core.Path.{◌≡◌, sym, ap, ◌∙◌}
use mathlib.Core.List.{List}
use Rattle.std.specs.Prelude.{Some}
use Rattle.edition.specs.Edition.{edition10}
use Rattle.refusal.specs.Result.{Ok}
use Rattle.constraint.specs.File.{File}
use Rattle.constraint.specs.Read.{read_file}
use Rattle.plain.proofs.SaysLaws.{reads_exactly}
use Rattle.clean_text.specs.Text.{clean_text}
use Rattle.clean_text.specs.Claims.{TextReadsBack}
use Rattle.clean_text.proofs.SaysAgain.{edition_one, says_again}

pub text_reads_back : TextReadsBack
text_reads_back bytes f e = (reads_exactly (clean_text f) f).1 (says_again bytes f ((reads_exactly bytes f).0 e))

-- two accepted files of one clean text are one
pub same_text_same_file : (bytes bytes' : List ℕ) (f g : File) → read_file bytes ≡ Ok f → read_file bytes' ≡ Ok g → clean_text f ≡ clean_text g → f ≡ g
same_text_same_file bytes bytes' f g p q e = let z : Ok f ≡ Ok g = sym (text_reads_back bytes f p) ∙ ap read_file e ∙ text_reads_back bytes' g q in cc z

-- every accepted file is of edition 1.0
pub one_edition : (bytes : List ℕ) (f : File) → read_file bytes ≡ Ok f → f.version ≡ Some edition10
one_edition bytes f e = edition_one bytes f ((reads_exactly bytes f).0 e)
