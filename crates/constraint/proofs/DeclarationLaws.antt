-- Declarations keep a file sound. Assumes nothing.
use Prim.Native.Char.{code}
use mathlib.Core.Path.{◌≡◌}
use mathlib.Core.List.{List, [], ◌∷◌, ◌++◌}
use native.Mathlib.Omega.{arith}
use lib.Dec.{eqb}
use lib.ListN.{length, length-append}
use borrow.Author.Tests.{eqb-true, ltb-true, leb-true, not-true}
use Rattle.edition.specs.Edition.{max_variables, max_name_bytes}
use Rattle.refusal.specs.declared.Subject.TheVariants.{Constraint}
use Rattle.refusal.proofs.ResultLaws.{Yields, yields_accepted, yields_bind, yields_ensure}
use Rattle.refusal.proofs.ListLaws.{not_there}
use Rattle.text.specs.Lines.{TextLine, Token, arguments}
use Rattle.text.specs.Spelling.{type_width, up_to, behind}
use Rattle.text.proofs.NameLaws.{name_length_lem}
use Rattle.text.proofs.ReadingLaws.{yields_next}
use Rattle.constraint.specs.File.{Variable, File, with_variable, edition_of, variable_named}
use Rattle.spelling.specs.Operators.{is_reserved}
use Rattle.constraint.specs.Read.{in_header, declare, declare_all, read_declarations}
use Rattle.constraint.specs.Sound.{SoundVariable, SoundLine, SoundFile}
use Rattle.constraint.proofs.EachLaws.{each_last, each_none, distinct_last}
use Rattle.constraint.proofs.VariableLaws.{new_name_lem}
use Rattle.constraint.proofs.TokenLaws.{declare_yields}
use Rattle.arithmetic.proofs.RuleLaws.{width_is}

-- one variable more, before the first line
declare_keeps : (f : File) (t : Token) → length f.lines ≡ 0 → SoundFile f → Yields (λ x. SoundFile (with_variable f x)) (declare (edition_of f) f.variables t)
declare_keeps f t empty h = declare_yields t f.variables (edition_of f) λ n _ w s r u d.
    let name = up_to (code ":") t.bytes in
    let k = type_width (behind (code ":") t.bytes) in
    let x : Variable = record { name = name; width = k } in
    record {
      few_variables = rw length-append (omega (arith, ltb-true (length f.variables) max_variables r));
      few_lines = h.few_lines;
      variables = each_last (SoundVariable (edition_of f)) f.variables x h.variables (record {
        spelt = n;
        not_empty = name_length_lem name n;
        short = leb-true (length name) max_name_bytes s;
        free = not-true (is_reserved (edition_of f) name) u;
        width = width_is k w;
      });
      distinct = distinct_last f.variables x h.distinct (new_name_lem name f.variables (not_there (variable_named name f.variables) d));
      lines = each_none (SoundLine (f.variables ++ (x ∷ []))) f.lines empty;
    }

declare_all_keeps : (f : File) (ts : List Token) → length f.lines ≡ 0 → SoundFile f → Yields SoundFile (declare_all f ts)
unfolding declare_all
declare_all_keeps f [] empty h = yields_accepted h
declare_all_keeps f (t ∷ ts) empty h = yields_bind (declare_keeps f t empty h) λ x k. declare_all_keeps (with_variable f x) ts empty k

pub declarations_keep : (f : File) (l : TextLine) → SoundFile f → Yields SoundFile (read_declarations f l)
unfolding read_declarations in_header
declarations_keep f l h =
    yields_ensure (eqb (length f.lines) 0) _ λ e.
    yields_next Constraint l (arguments l) λ p _.
    declare_all_keeps f (p.0 ∷ p.1) (eqb-true (length f.lines) 0 e) h
