-- The kind of a line: what it says, and how it is read. Assumes nothing.
use Prim.Native.Char.{code}
use mathlib.Core.Path.{◌≡◌, refl}
use mathlib.Core.Bool.{Bool, true, false, cond}
use mathlib.Core.List.{List, [], ◌∷◌}
use lib.Dec.{eqb}
use lib.ListN.{get_or}
use Rattle.refusal.specs.declared.Fault.TheVariants.{UnknownLine}
use Rattle.refusal.specs.Lists.{every}
use Rattle.refusal.specs.Result.{Reply, Ok, Err}
use Rattle.text.specs.Bytes.{is_space}
use Rattle.text.specs.Lines.{TextLine, leads}
use Rattle.constraint.specs.declared.Form.{Form}
use Rattle.constraint.specs.declared.Form.TheVariants.{WithOutput, Predicate}
use Rattle.constraint.specs.File.{File}
use Rattle.constraint.specs.Read.{at_constraint_line, read_version, read_expectation, read_declarations, read_statement, add_line, kind_of, read_as, read_line}
use Rattle.plain.specs.Says.{Said, leading_letter, is_skipped, tokens_behind, said_by}
use Rattle.plain.proofs.LineLaws.{form_letter, saying}

-- a line says this; and so it is read, once its bytes are allowed
pub record IsLine (l : TextLine) (says : List Said) (read : File → Reply File) : Type 0 where
  pub said_is : said_by l ≡ says
  pub read_is : (a : File) → cond (every is_space l.bytes) (Ok a) (read_line a l) ≡ read a

pub data LineKind (l : TextLine) : Type 0 where
  skipped : IsLine l [] Ok → LineKind l
  version : IsLine l (saying (code "v") l ∷ []) (λ a. read_version a l) → LineKind l
  expectation : IsLine l (saying (code "e") l ∷ []) (λ a. read_expectation a l) → LineKind l
  declarations : IsLine l (saying (code "d") l ∷ []) (λ a. read_declarations a l) → LineKind l
  statement : (form : Form) → IsLine l (saying (form_letter form) l ∷ []) (λ a. add_line a (read_statement form a l)) → LineKind l
  other : IsLine l (saying 0 l ∷ []) (λ a. Err (at_constraint_line l UnknownLine)) → LineKind l

-- every line is of one kind
pub line_kind : (l : TextLine) → LineKind l
unfolding said_by is_skipped leading_letter tokens_behind read_line kind_of read_as
line_kind l = go (every is_space l.bytes) refl (eqb (get_or l.bytes 0 0) (code "#")) refl (leads (code "v") l.bytes) refl (leads (code "e") l.bytes) refl (leads (code "d") l.bytes) refl (leads (code "c") l.bytes) refl (leads (code "p") l.bytes) refl
  where
    go : (blank : Bool) → every is_space l.bytes ≡ blank → (hash : Bool) → eqb (get_or l.bytes 0 0) (code "#") ≡ hash → (v : Bool) → leads (code "v") l.bytes ≡ v → (e : Bool) → leads (code "e") l.bytes ≡ e → (d : Bool) → leads (code "d") l.bytes ≡ d → (c : Bool) → leads (code "c") l.bytes ≡ c → (p : Bool) → leads (code "p") l.bytes ≡ p → LineKind l
    go true hb h hh v hv e he d hd c hc p hp = skipped (record { said_is = rw hb; read_is = λ _. rw hb })
    go false hb true hh v hv e he d hd c hc p hp = skipped (record { said_is = rw (hb, hh); read_is = λ _. rw (hb, hh) })
    go false hb false hh true hv e he d hd c hc p hp = version (record { said_is = rw (hb, hh, hv); read_is = λ _. rw (hb, hh, hv) })
    go false hb false hh false hv true he d hd c hc p hp = expectation (record { said_is = rw (hb, hh, hv, he); read_is = λ _. rw (hb, hh, hv, he) })
    go false hb false hh false hv false he true hd c hc p hp = declarations (record { said_is = rw (hb, hh, hv, he, hd); read_is = λ _. rw (hb, hh, hv, he, hd) })
    go false hb false hh false hv false he false hd true hc p hp = statement WithOutput (record { said_is = rw (hb, hh, hv, he, hd, hc); read_is = λ _. rw (hb, hh, hv, he, hd, hc) })
    go false hb false hh false hv false he false hd false hc true hp = statement Predicate (record { said_is = rw (hb, hh, hv, he, hd, hc, hp); read_is = λ _. rw (hb, hh, hv, he, hd, hc, hp) })
    go false hb false hh false hv false he false hd false hc false hp = other (record { said_is = rw (hb, hh, hv, he, hd, hc, hp); read_is = λ _. rw (hb, hh, hv, he, hd, hc, hp) })
