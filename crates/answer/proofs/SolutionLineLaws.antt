-- The `s` line of an answer: it is accepted if its one token is SATISFIABLE. Assumes nothing.
use Prim.Native.Nat.{ℕ}
use mathlib.Core.Path.{◌≡◌, refl, sym}
use mathlib.Core.Bool.{Bool, true, false, cond, ◌||◌}
use mathlib.Core.List.{List, [], ◌∷◌, map, head-eq_of_cons-eq}
use Rattle.std.specs.Prelude.{Option}
use Rattle.refusal.specs.declared.Fault.TheVariants.{NoSolutionWord, NotSatisfiable}
use Rattle.refusal.specs.Result.{Reply, Ok, Err, ◌>>◌, refused_as}
use Rattle.refusal.proofs.ResultLaws.{never, Yields, yields_accepted, yields_refused}
use Rattle.text.specs.Bytes.{same}
use Rattle.text.specs.Lines.{TextLine, Token, arguments}
use Rattle.answer.specs.SolutionWords.{satisfiable, unsatisfiable, unknown}
use Rattle.answer.specs.Read.{in_answer, Settings, settings_of, solution_of, read_solution}
use Rattle.text.proofs.NameLaws.{same_true}

-- the bytes of tokens
abbrev words : List Token → List (List ℕ)
words = map (λ t. t.bytes)

-- the solution word, then the next step
yields_word : {B : Type 0} {Q : B → Type 0} (t : Token) {next : Reply B} → (t.bytes ≡ satisfiable → Yields Q next) → Yields Q (refused_as (in_answer t) (solution_of t.bytes) >> next)
unfolding solution_of
yields_word {Q} t {next} n = go (same satisfiable t.bytes) refl (same unsatisfiable t.bytes || same unknown t.bytes)
  where
    go : (a : Bool) → same satisfiable t.bytes ≡ a → (b : Bool) → Yields Q (refused_as (in_answer t) (cond a (Ok tt) (cond b (Err NotSatisfiable) (Err NoSolutionWord))) >> next)
    go true e b = n (sym (same_true satisfiable t.bytes e))
    go false e true = yields_refused
    go false e false = yields_refused

module _ (vs : List (Option ℕ)) (l : TextLine) where
  -- what is accepted says so
  solution_yields : (ts : List Token) → arguments l ≡ ts → Yields (λ u. (words ts ≡ satisfiable ∷ []) × (u ≡ settings_of true vs)) (read_solution (settings_of false vs) l)
  unfolding read_solution
  solution_yields [] e = rw e yields_refused
  solution_yields (t ∷ []) e = rw e (yields_word t λ k. yields_accepted (rw k, refl))
  solution_yields (t ∷ d ∷ ts) e = rw e (yields_word t λ k. yields_refused)

  pub solution_is : (u : Settings) → read_solution (settings_of false vs) l ≡ Ok u → (words (arguments l) ≡ satisfiable ∷ []) × (u ≡ settings_of true vs)
  solution_is u = (solution_yields (arguments l) refl).holds u

  -- what says so is accepted
  taken : (ts : List Token) → arguments l ≡ ts → words ts ≡ satisfiable ∷ [] → read_solution (settings_of false vs) l ≡ Ok (settings_of true vs)
  unfolding read_solution solution_of same
  taken [] e q = never (cc q)
  taken (t ∷ []) e q = rw (e, head-eq_of_cons-eq q)
  taken (t ∷ d ∷ ts) e q = never (cc q)

  pub solution_accepted : words (arguments l) ≡ satisfiable ∷ [] → read_solution (settings_of false vs) l ≡ Ok (settings_of true vs)
  solution_accepted = taken (arguments l) refl
