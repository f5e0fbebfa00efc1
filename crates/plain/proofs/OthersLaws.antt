-- The lines behind the header: they are read as the lines that they spell, and as nothing else. Assumes nothing.
use Prim.Native.Nat.{◌≤◌, ◌<◌}
use Prim.Native.Char.{code}
use mathlib.Core.Path.{◌≡◌, refl, sym, ap, subst, ◌∙◌}
use mathlib.Core.Bool.{true, false, not, ◌&&◌}
use mathlib.Core.List.{List, [], ◌∷◌, ◌++◌, flat_map, append-nil}
use native.Mathlib.Omega.{arith}
use lib.ListN.{length, length-append}
use lib.Seq.{append_snoc}
use borrow.Author.Tests.{eqb-true}
use Rattle.edition.specs.declared.Edition.{Edition}
use Rattle.edition.specs.Edition.{max_lines}
use Rattle.refusal.specs.declared.Subject.TheVariants.{Constraint}
use Rattle.std.specs.Prelude.{is_some}
use Rattle.refusal.specs.Result.{Reply, Ok, Err, ◌>>=◌}
use Rattle.refusal.proofs.ResultLaws.{never, bind_accepted, ensure_accepted}
use Rattle.refusal.proofs.BoolLaws.{and_true}
use Rattle.text.specs.Lines.{TextLine, arguments}
use Rattle.text.specs.Reading.{read_any_line, read_lines}
use Rattle.text.proofs.ReadingLaws.{IsAllowed, line_allowed}
use Rattle.text.proofs.TokenLaws.{token_bytes}
use Rattle.constraint.specs.declared.Line.{Line}
use Rattle.constraint.specs.declared.Form.{Form}
use Rattle.constraint.specs.File.{Variable, File, with_version, with_expectation, with_line, edition_of}
use Rattle.constraint.specs.Sound.{Each, SoundVariable, Distinct}
use Rattle.constraint.specs.Read.{in_header, version_of, read_version, expectation_of, read_expectation, read_declarations, read_statement, add_line, read_line}
use Rattle.plain.specs.Says.{Said, said_by, is_header, SpellsLine, with_output, predicate, Pairwise}
use Rattle.plain.proofs.LineLaws.{SingleIs, single_is, statement_is, statement_again, form_letter, saying}
use Rattle.plain.proofs.KindLaws.{IsLine, LineKind, skipped, version, expectation, declarations, statement, other, line_kind}

abbrev pub read_all : File → List TextLine → Reply File
read_all = read_lines Constraint read_line

-- ---- a line in front of lines
module _ (l : TextLine) (ls : List TextLine) where
  -- it is read first
  pub line_first : IsAllowed l → {says : List Said} {read : File → Reply File} (a : File) → IsLine l says read → read_all a (l ∷ ls) ≡ (read a >>= λ b. read_all b ls)
  unfolding read_lines read_any_line
  line_first h a k = rw (h, k.read_is a)

  -- the first line, and then the others
  pub line_then : {says : List Said} {read : File → Reply File} (a f : File) → IsLine l says read → read_all a (l ∷ ls) ≡ Ok f → (b : File) × (read a ≡ Ok b) × (read_all b ls ≡ Ok f)
  line_then {read = read} a f k e = bind_accepted (read a) (λ b. read_all b ls) f (sym (line_first (line_allowed Constraint read_line l ls a f e) a k) ∙ e)

pub lines_allowed : (ls : List TextLine) (a f : File) → read_all a ls ≡ Ok f → Each IsAllowed ls
unfolding read_lines
lines_allowed [] a f e = tt
lines_allowed (l ∷ ls) a f e = let p = bind_accepted (read_any_line Constraint read_line a l) (λ b. read_all b ls) f e in (line_allowed Constraint read_line l ls a f e, lines_allowed ls p.0 f p.2)

-- ---- no line of the header behind it
in_header_lem : (a : File) → in_header a ≡ true → length a.lines ≡ 0
unfolding in_header
in_header_lem a e = eqb-true (length a.lines) 0 e

pub version_step : (a b : File) (l : TextLine) → read_version a l ≡ Ok b → SingleIs (in_header a && not (is_some a.version)) version_of (with_version a) (token_bytes (arguments l)) b
unfolding read_version
version_step a b l e = (single_is (in_header a && not (is_some a.version)) version_of _ (with_version a) l).holds b e

pub expectation_step : (a b : File) (l : TextLine) → read_expectation a l ≡ Ok b → SingleIs (in_header a && not (is_some a.expectation)) expectation_of (with_expectation a) (token_bytes (arguments l)) b
unfolding read_expectation
expectation_step a b l e = (single_is (in_header a && not (is_some a.expectation)) expectation_of _ (with_expectation a) l).holds b e

declarations_header : (a b : File) (l : TextLine) → read_declarations a l ≡ Ok b → in_header a ≡ true
unfolding read_declarations
declarations_header a b l e = (ensure_accepted (in_header a) _ _ b e).0

add_is : (a b : File) (r : Reply Line) → add_line a r ≡ Ok b → (line : Line) × (r ≡ Ok line) × (with_line a line ≡ b)
add_is a b (Ok line) e = (line, refl, cc e)
add_is a b (Err r) e = never (cc e)

-- a `c` or `p` line that is read: the line that it spells, and those behind it
pub statement_then : (form : Form) (l : TextLine) (ls : List TextLine) (a f : File) → IsLine l (saying (form_letter form) l ∷ []) (λ b. add_line b (read_statement form b l)) → read_all a (l ∷ ls) ≡ Ok f
    → (line : Line) × SpellsLine (edition_of a) a.variables (saying (form_letter form) l) line × (read_all (with_line a line) ls ≡ Ok f)
statement_then form l ls a f k e =
    let p = line_then l ls a f k e in
    let q = add_is a p.0 (read_statement form a l) p.1 in
    (q.0, (statement_is form a l).holds q.0 q.1, subst (λ (b : File). read_all b ls ≡ Ok f) (sym q.2) p.2)

-- ---- lines behind the header bring a file from a to f
pub record Others (a f : File) (ss : List Said) : Type 0 where
  pub version : f.version ≡ a.version
  pub expectation : f.expectation ≡ a.expectation
  pub variables : f.variables ≡ a.variables
  pub lines : List Line
  pub spelt : Pairwise (SpellsLine (edition_of a) a.variables) ss lines
  pub all : f.lines ≡ a.lines ++ lines

pub others_none : (a : File) → Others a a []
others_none a = record { version = refl; expectation = refl; variables = refl; lines = []; spelt = tt; all = sym (append-nil a.lines) }

pub others_more : (a f : File) (s : Said) (ss : List Said) (line : Line) → SpellsLine (edition_of a) a.variables s line → Others (with_line a line) f ss → Others a f (s ∷ ss)
others_more a f s ss line h o = record { version = o.version; expectation = o.expectation; variables = o.variables; lines = line ∷ o.lines; spelt = (h, o.spelt); all = o.all ∙ append_snoc a.lines line o.lines }

-- what is read
pub others_are : (ls : List TextLine) (a f : File) → 1 ≤ length a.lines → read_all a ls ≡ Ok f → Others a f (flat_map said_by ls)
unfolding read_lines flat_map
others_are [] a f n e = subst (λ (g : File). Others a g []) (cc e) (others_none a)
others_are (l ∷ ls) a f n e = go (line_kind l) (others_are ls)
  where
    go : LineKind l → ((b g : File) → 1 ≤ length b.lines → read_all b ls ≡ Ok g → Others b g (flat_map said_by ls)) → Others a f (flat_map said_by (l ∷ ls))
    go (skipped k) ih = rw k.said_is (ih a f n (sym (line_first l ls (line_allowed Constraint read_line l ls a f e) a k) ∙ e))
    go (version k) ih =
        let p = line_then l ls a f k e in
        let z = in_header_lem a (and_true (in_header a) (not (is_some a.version)) (version_step a p.0 l p.1).is_allowed_lem).0 in
        absurd (omega arith)
    go (expectation k) ih =
        let p = line_then l ls a f k e in
        let z = in_header_lem a (and_true (in_header a) (not (is_some a.expectation)) (expectation_step a p.0 l p.1).is_allowed_lem).0 in
        absurd (omega arith)
    go (declarations k) ih =
        let p = line_then l ls a f k e in
        let z = in_header_lem a (declarations_header a p.0 l p.1) in
        absurd (omega arith)
    go (statement form k) ih =
        let q = statement_then form l ls a f k e in
        let m : 1 ≤ length (a.lines ++ (q.0 ∷ [])) = omega (arith, length-append a.lines (q.0 ∷ [])) in
        rw k.said_is (others_more a f (saying (form_letter form) l) (flat_map said_by ls) q.0 q.1 (ih (with_line a q.0) f m q.2))
    go (other k) ih = never (cc (line_then l ls a f k e).1)

-- ---- what they spell is read
-- a line that spells a line is of a letter that there is, and no line of the header
pub spells_letter : (e : Edition) (xs : List Variable) (s : Said) (line : Line) → SpellsLine e xs s line → (s.letter ≡ 0 → ⊥) × (is_header s ≡ false)
unfolding is_header
spells_letter e xs s line (with_output o ws k w p h) = (λ z. let q = k in omega arith, rw k)
spells_letter e xs s line (predicate k o h) = (λ z. let q = k in omega arith, rw k)

-- the first of them
first_line : (a f : File) (s : Said) (ss : List Said) → Others a f (s ∷ ss) → (line : Line) × SpellsLine (edition_of a) a.variables s line × Others (with_line a line) f ss
first_line a f s ss o = go o.lines o.spelt o.all
  where
    go : (ls : List Line) → Pairwise (SpellsLine (edition_of a) a.variables) (s ∷ ss) ls → f.lines ≡ a.lines ++ ls → (line : Line) × SpellsLine (edition_of a) a.variables s line × Others (with_line a line) f ss
    go [] p q = absurd p
    go (line ∷ ls) p q = (line, p.0, record { version = o.version; expectation = o.expectation; variables = o.variables; lines = ls; spelt = p.1; all = q ∙ sym (append_snoc a.lines line ls) })

not_header : (a f : File) (s : Said) (ss : List Said) → is_header s ≡ true → Others a f (s ∷ ss) → ⊥
not_header a f s ss h o = let p = first_line a f s ss o in never (cc (sym h ∙ (spells_letter (edition_of a) a.variables s p.0 p.1).1))

others_end : (a f : File) → Others a f [] → a ≡ f
others_end a f o = go o.lines o.spelt o.all
  where
    go : (ls : List Line) → Pairwise (SpellsLine (edition_of a) a.variables) [] ls → f.lines ≡ a.lines ++ ls → a ≡ f
    go [] p q =
        let v = sym o.version in
        let n = sym o.expectation in
        let x = sym o.variables in
        let z = sym (q ∙ append-nil a.lines) in
        λ i. record { version = v i; expectation = n i; variables = x i; lines = z i }
    go (line ∷ ls) p q = absurd p

room_left : (a f : File) (line : Line) (ss : List Said) → Others (with_line a line) f ss → length f.lines ≤ max_lines → length a.lines < max_lines
room_left a f line ss o n =
    let z : length f.lines ≡ length (a.lines ++ (line ∷ []) ++ o.lines) = ap length o.all in
    omega (arith, length-append (a.lines ++ (line ∷ [])) o.lines, length-append a.lines (line ∷ []))

pub others_again : (ls : List TextLine) (a f : File) → Each IsAllowed ls → Others a f (flat_map said_by ls) → Each (SoundVariable (edition_of a)) a.variables → Distinct a.variables → length f.lines ≤ max_lines → read_all a ls ≡ Ok f
unfolding read_lines flat_map is_header
others_again [] a f h o s d n = ap Ok (others_end a f o)
others_again (l ∷ ls) a f h o s d n = go (line_kind l) (others_again ls)
  where
    go : LineKind l → ((b g : File) → Each IsAllowed ls → Others b g (flat_map said_by ls) → Each (SoundVariable (edition_of b)) b.variables → Distinct b.variables → length g.lines ≤ max_lines → read_all b ls ≡ Ok g) → read_all a (l ∷ ls) ≡ Ok f
    go (skipped k) ih = line_first l ls h.0 a k ∙ ih a f h.1 (rw k.said_is at o) s d n
    go (version k) ih = absurd (not_header a f (saying (code "v") l) (flat_map said_by ls) refl (rw k.said_is at o))
    go (expectation k) ih = absurd (not_header a f (saying (code "e") l) (flat_map said_by ls) refl (rw k.said_is at o))
    go (declarations k) ih = absurd (not_header a f (saying (code "d") l) (flat_map said_by ls) refl (rw k.said_is at o))
    go (statement form k) ih =
        let p = first_line a f (saying (form_letter form) l) (flat_map said_by ls) (rw k.said_is at o) in
        line_first l ls h.0 a k ∙ rw (statement_again a l s d (room_left a f p.0 _ p.2 n) p.0 form p.1) (ih (with_line a p.0) f h.1 p.2 s d n)
    go (other k) ih = let p = first_line a f (saying 0 l) (flat_map said_by ls) (rw k.said_is at o) in absurd ((spells_letter (edition_of a) a.variables (saying 0 l) p.0 p.1).0 refl)
