-- The kind of an answer's line: its letter, its tokens and how it is read. Assumes nothing.
use Prim.Native.Nat.{ℕ}
use Prim.Native.Char.{code}
use mathlib.Core.Path.{◌≡◌, refl, sym, ◌∙◌}
use mathlib.Core.Bool.{Bool, true, false, cond}
use mathlib.Core.List.{List, [], ◌∷◌}
use native.Mathlib.Omega.{arith}
use lib.Dec.{eqb}
use lib.ListN.{get_or}
use borrow.Author.Tests.{eqb-true}
use Rattle.refusal.specs.declared.Fault.TheVariants.{UnknownLine}
use Rattle.refusal.specs.Lists.{every}
use Rattle.refusal.specs.Result.{Reply, Ok, Err}
use Rattle.refusal.proofs.ResultLaws.{never}
use Rattle.refusal.proofs.BoolLaws.{and_true, fails}
use Rattle.text.specs.Bytes.{is_space}
use Rattle.text.specs.Lines.{TextLine, Token, arguments, leads}
use Rattle.constraint.specs.File.{Variable}
use Rattle.answer.specs.Read.{Settings, at_answer_line, read_solution, read_values, answer_kind, read_answer_as, read_answer_line}
use Rattle.answer.specs.Claims.{letter_of}

-- a line that a letter leads starts with it
leads_first : (b : ℕ) (s : List ℕ) → leads b s ≡ true → b ≡ get_or s 0 0
unfolding leads
leads_first b [] e = never (cc e)
leads_first b (c ∷ []) e = eqb-true b c e
leads_first b (c ∷ d ∷ s) e = eqb-true b c (and_true (eqb b c) (is_space d) e).0

-- so no other letter leads it, and none leads a blank line
leads_other : (a b : ℕ) (s : List ℕ) → (a ≡ b → ⊥) → leads a s ≡ true → leads b s ≡ false
leads_other a b s h e = fails (leads b s) (λ k. h (leads_first a s e ∙ sym (leads_first b s k)))

leads_blank : (b : ℕ) (s : List ℕ) → is_space b ≡ false → every is_space s ≡ true → leads b s ≡ false
unfolding leads every
leads_blank b [] n e = refl
leads_blank b (c ∷ s) n e =
    let space = (and_true (is_space c) (every is_space s) e).0 in
    fails (leads b (c ∷ s)) (λ k. let z : is_space b ≡ true = rw (leads_first b (c ∷ s) k) space in never (cc (n, z)))

-- a line has the letter, the tokens as an `s` line and those as a `v` line; and so it is read, once its bytes are allowed
pub record IsLine (xs : List Variable) (l : TextLine) (letter : List ℕ) (says sets : List Token) (read : Settings → Reply Settings) : Type 0 where
  pub letter_is : letter_of l ≡ letter
  pub says_is : cond (leads (code "s") l.bytes) (arguments l) [] ≡ says
  pub sets_is : cond (leads (code "v") l.bytes) (arguments l) [] ≡ sets
  pub read_is : (s : Settings) → cond (every is_space l.bytes) (Ok s) (read_answer_line xs s l) ≡ read s

-- the kinds: blank or a comment, an `s` line, a `v` line, and of no kind
abbrev pub IsSkipped : List Variable → TextLine → Type 0
IsSkipped xs l = IsLine xs l [] [] [] Ok

abbrev pub IsSolution : List Variable → TextLine → Type 0
IsSolution xs l = IsLine xs l (code "s" ∷ []) (arguments l) [] (λ s. read_solution s l)

abbrev pub IsValues : List Variable → TextLine → Type 0
IsValues xs l = IsLine xs l (code "v" ∷ []) [] (arguments l) (λ s. read_values xs s l)

abbrev pub IsOther : List Variable → TextLine → Type 0
IsOther xs l = IsLine xs l (0 ∷ []) [] [] (λ s. Err (at_answer_line l UnknownLine))

pub data LineKind (xs : List Variable) (l : TextLine) : Type 0 where
  skipped : IsSkipped xs l → LineKind xs l
  solution : IsSolution xs l → LineKind xs l
  values : IsValues xs l → LineKind xs l
  other : IsOther xs l → LineKind xs l

-- every line is of one kind
pub line_kind : (xs : List Variable) (l : TextLine) → LineKind xs l
unfolding letter_of read_answer_line answer_kind read_answer_as is_space
line_kind xs l = go (every is_space l.bytes) refl (leads (code "c") l.bytes) refl (leads (code "s") l.bytes) refl (leads (code "v") l.bytes) refl
  where
    go : (blank : Bool) → every is_space l.bytes ≡ blank → (c : Bool) → leads (code "c") l.bytes ≡ c → (s : Bool) → leads (code "s") l.bytes ≡ s → (v : Bool) → leads (code "v") l.bytes ≡ v → LineKind xs l
    go true hb c hc s hs v hv =
        let no-s = leads_blank (code "s") l.bytes refl hb in
        let no-v = leads_blank (code "v") l.bytes refl hb in
        skipped (record { letter_is = rw hb; says_is = rw no-s; sets_is = rw no-v; read_is = λ _. rw hb })
    go false hb true hc s hs v hv =
        let no-s = leads_other (code "c") (code "s") l.bytes (omega arith) hc in
        let no-v = leads_other (code "c") (code "v") l.bytes (omega arith) hc in
        skipped (record { letter_is = rw (hb, hc); says_is = rw no-s; sets_is = rw no-v; read_is = λ _. rw (hb, hc) })
    go false hb false hc true hs v hv =
        let no-v = leads_other (code "s") (code "v") l.bytes (omega arith) hs in
        solution (record { letter_is = rw (hb, hc, hs); says_is = rw hs; sets_is = rw no-v; read_is = λ _. rw (hb, hc, hs) })
    go false hb false hc false hs true hv = values (record { letter_is = rw (hb, hc, hs, hv); says_is = rw hs; sets_is = rw hv; read_is = λ _. rw (hb, hc, hs, hv) })
    go false hb false hc false hs false hv = other (record { letter_is = rw (hb, hc, hs, hv); says_is = rw hs; sets_is = rw hv; read_is = λ _. rw (hb, hc, hs, hv) })
