-- A line of each letter is read as what its tokens spell, and as nothing else. Assumes nothing.
use Prim.Native.Nat.{ℕ, zero, suc, ◌≤◌, ◌<◌}
use Prim.Native.Char.{code}
use mathlib.Core.Path.{◌≡◌, refl, sym, ap, subst, ◌∙◌}
use mathlib.Core.Bool.{Bool, true}
use mathlib.Core.List.{List, [], ◌∷◌, ◌++◌, append-nil}
use Rattle.std.specs.Prelude.{Option, Some}
use native.Mathlib.Omega.{arith}
use lib.Dec.{ltb}
use lib.ListN.{length, length-append, length-map}
use lib.Seq.{append_snoc}
use borrow.Author.Tests.{lt-ltb}
use Rattle.edition.specs.declared.Edition.{Edition}
use Rattle.edition.specs.Edition.{max_variables, max_lines}
use Rattle.refusal.specs.declared.Fault.{Fault}
use Rattle.refusal.specs.declared.Subject.TheVariants.{Constraint}
use Rattle.refusal.specs.Result.{Ok}
use Rattle.refusal.proofs.ResultLaws.{Yields, yields_accepted, yields_bind, yields_ensure, yields_given, yields_also}
use Rattle.arithmetic.specs.Rules.{arity, max_operands}
use Rattle.text.specs.Lines.{TextLine, Token, arguments}
use Rattle.text.proofs.TokenLaws.{token_bytes, first_token}
use Rattle.text.proofs.ReadingLaws.{yields_next, yields_no_more}
use Rattle.spelling.specs.Operators.{operator_named}
use Rattle.constraint.specs.declared.Operand.{Operand}
use Rattle.constraint.specs.declared.Operand.TheVariants.{Absent}
use Rattle.constraint.specs.declared.Operands.{Operands}
use Rattle.constraint.specs.declared.Line.{Line}
use Rattle.constraint.specs.declared.Form.{Form}
use Rattle.constraint.specs.declared.Form.TheVariants.{WithOutput, Predicate}
use Rattle.constraint.specs.File.{Variable, File, with_variable, with_variables, edition_of}
use Rattle.constraint.specs.TypeRules.{well_typed}
use Rattle.constraint.specs.Sound.{Each, SoundVariable, Distinct}
use Rattle.constraint.specs.Read.{in_header, read_single, declare_all, read_declarations, next_operand, no_operands, read_operands, read_operation, next_output, read_statement}
use Rattle.constraint.proofs.NamedLaws.{named_new}
use Rattle.constraint.proofs.OperationLaws.{packed}
use Rattle.constraint.proofs.TokenLaws.{single_yields}
use Rattle.arithmetic.proofs.RuleLaws.{arity_bounds}
use Rattle.plain.specs.Says.{SpellsVariable, SpellsOperand, SpellsOperands, SpellsOperation, SpellsLine, with_output, predicate, Said, Pairwise}
use Rattle.plain.proofs.OperatorLaws.{operator_is, operator_again}
use Rattle.plain.proofs.TokenLaws.{declare_is, declare_again, operand_is, operand_again}

-- ---- a line with one token
pub record SingleIs {A : Type 0} (allowed : Bool) (parse : List ℕ → Option A) (add : A → File) (ws : List (List ℕ)) (b : File) : Type 0 where
  pub is_allowed_lem : allowed ≡ true
  pub token : List ℕ
  pub value : A
  pub one : ws ≡ token ∷ []
  pub parsed : parse token ≡ Some value
  pub file_is : b ≡ add value

module _ {A : Type 0} (allowed : Bool) (parse : List ℕ → Option A) (wrong : Fault) (add : A → File) (l : TextLine) where
  pub single_is : Yields (SingleIs allowed parse add (token_bytes (arguments l))) (read_single allowed parse wrong add l)
  single_is = single_yields allowed parse wrong add l λ t v h q k. record { is_allowed_lem = h; token = t.bytes; value = v; one = ap token_bytes q; parsed = k; file_is = refl }

-- ---- a line of declarations
pub record DeclaresIs (a : File) (ws : List (List ℕ)) (b : File) : Type 0 where
  pub variables : List Variable
  pub spelt : Pairwise SpellsVariable ws variables
  pub file_is : b ≡ with_variables a (a.variables ++ variables)

declare_all_is : (ts : List Token) (a : File) → Yields (DeclaresIs a (token_bytes ts)) (declare_all a ts)
unfolding declare_all
declare_all_is [] a = yields_accepted (record { variables = []; spelt = tt; file_is = sym (ap (with_variables a) (append-nil a.variables)) })
declare_all_is (t ∷ ts) a =
    yields_bind (declare_is (edition_of a) a.variables t) λ x s.
    yields_also (λ b k. record { variables = x ∷ k.variables; spelt = (s, k.spelt); file_is = k.file_is ∙ ap (with_variables a) (append_snoc a.variables x k.variables) }) (declare_all_is ts (with_variable a x))

pub declarations_is : (a : File) (l : TextLine) → Yields (λ b. (1 ≤ length (token_bytes (arguments l))) × DeclaresIs a (token_bytes (arguments l)) b) (read_declarations a l)
unfolding read_declarations
declarations_is a l =
    yields_ensure (in_header a) _ λ _.
    yields_next Constraint l (arguments l) λ p q.
    let n : 1 ≤ length (token_bytes (p.0 ∷ p.1)) = omega arith in
    yields_also (λ b k. (rw q n, rw q k)) (declare_all_is (p.0 ∷ p.1) a)

declare_all_again : (ts : List Token) (a : File) (xs : List Variable) → Pairwise SpellsVariable (token_bytes ts) xs → Each (SoundVariable (edition_of a)) xs → Distinct (a.variables ++ xs) → length (a.variables ++ xs) ≤ max_variables → declare_all a ts ≡ Ok (with_variables a (a.variables ++ xs))
unfolding declare_all
declare_all_again [] a [] p s d h = rw append-nil
declare_all_again [] a (x ∷ xs) p s d h = absurd p
declare_all_again (t ∷ ts) a [] p s d h = absurd p
declare_all_again (t ∷ ts) a (x ∷ xs) p s d h =
    let z = append_snoc a.variables x xs in
    rw (declare_again (edition_of a) a.variables x t p.0 s.0 (named_new x a.variables xs d) (omega (arith, length-append a.variables (x ∷ xs))))
    (declare_all_again ts (with_variable a x) xs p.1 s.1 (rw z d) (rw z h) ∙ rw z)

pub declarations_again : (a : File) (l : TextLine) (xs : List Variable) → in_header a ≡ true → 1 ≤ length (token_bytes (arguments l)) → Pairwise SpellsVariable (token_bytes (arguments l)) xs → Each (SoundVariable (edition_of a)) xs → Distinct (a.variables ++ xs) → length (a.variables ++ xs) ≤ max_variables → read_declarations a l ≡ Ok (with_variables a (a.variables ++ xs))
unfolding read_declarations
declarations_again a l xs e n p s d h = go (arguments l) refl n p
  where
    go : (ts : List Token) → arguments l ≡ ts → 1 ≤ length (token_bytes ts) → Pairwise SpellsVariable (token_bytes ts) xs → read_declarations a l ≡ Ok (with_variables a (a.variables ++ xs))
    go [] q n p = absurd (omega arith)
    go (t ∷ ts) q n p = rw (e, q) (declare_all_again (t ∷ ts) a xs p s d h)

-- ---- operands
abbrev three : Operands → List Operand
three os = os.first ∷ os.second ∷ os.third ∷ []

record OperandsAre (xs : List Variable) (n : ℕ) (ts : List Token) (p : Operands × List Token) : Type 0 where
  taken : List (List ℕ)
  are : token_bytes ts ≡ taken ++ token_bytes p.1
  count : length taken ≡ n
  spelt : SpellsOperands xs taken (three p.0)

record OperandIs (xs : List Variable) (ts : List Token) (p : Operand × List Token) : Type 0 where
  token : List ℕ
  are : token_bytes ts ≡ token ∷ token_bytes p.1
  spelt : SpellsOperand xs token p.0

next_is : (xs : List Variable) (l : TextLine) (ts : List Token) → Yields (OperandIs xs ts) (next_operand xs l ts)
unfolding next_operand
next_is xs l ts =
    yields_next Constraint l ts λ p q.
    yields_bind (operand_is xs p.0) λ o s.
    yields_accepted (record { token = p.0.bytes; are = ap token_bytes q; spelt = s })

shorter : (xs : List Variable) (ws : List (List ℕ)) (a b c : Operand) → length ws < max_operands → SpellsOperands xs ws (a ∷ b ∷ c ∷ []) → SpellsOperands xs ws (a ∷ b ∷ [])
shorter xs [] a b c h p = (p.0, (p.1.0, tt))
shorter xs (w ∷ []) a b c h p = (p.0, (p.1.0, tt))
shorter xs (w ∷ v ∷ []) a b c h p = (p.0, (p.1.0, tt))
shorter xs (w ∷ v ∷ u ∷ ws) a b c h p = absurd (omega arith)

operands_are : (xs : List Variable) (l : TextLine) (n : ℕ) (ts : List Token) → n ≤ max_operands → Yields (OperandsAre xs n ts) (read_operands xs l n ts)
unfolding read_operands
operands_are xs l zero ts h = yields_accepted (record { taken = []; are = refl; count = refl; spelt = (refl, (refl, (refl, tt))) })
operands_are xs l (suc n) ts h =
    yields_bind (next_is xs l ts) λ p q.
    yields_bind (operands_are xs l n p.1 (omega arith)) λ r k.
    yields_accepted (record {
      taken = q.token ∷ k.taken;
      are = q.are ∙ ap (λ (ws : List (List ℕ)). q.token ∷ ws) k.are;
      count = ap suc k.count;
      spelt = (q.spelt, shorter xs k.taken r.0.first r.0.second r.0.third (omega (arith, k.count)) k.spelt);
    })

absent_packed : (xs : List Variable) (os : List Operand) → SpellsOperands xs [] os → packed os ≡ no_operands
absent_packed xs [] h = refl
absent_packed xs (o ∷ os) h = rw (h.0, absent_packed xs os h.1)

module _ (e : Edition) (xs : List Variable) (sound : Each (SoundVariable e) xs) (distinct : Distinct xs) (l : TextLine) where
  next_again : (o : Operand) (t : Token) (ts : List Token) → SpellsOperand xs t.bytes o → next_operand xs l (t ∷ ts) ≡ Ok (o, ts)
  unfolding next_operand
  next_again o t ts h = rw (operand_again e xs sound distinct o t h)

  operands_again : (os : List Operand) (ts : List Token) → SpellsOperands xs (token_bytes ts) os → read_operands xs l (length ts) ts ≡ Ok (packed os, [])
  unfolding read_operands
  operands_again [] [] h = refl
  operands_again [] (t ∷ ts) h = absurd h
  operands_again (o ∷ os) [] h = rw (absent_packed xs (o ∷ os) h)
  operands_again (o ∷ os) (t ∷ ts) h = rw (next_again o t ts h.0, operands_again os ts h.1)

-- ---- an operator and its operands
operation_is : (f : File) (l : TextLine) (output : Operand) (ts : List Token) → Yields (λ line. (line.output ≡ output) × SpellsOperation (edition_of f) f.variables (token_bytes ts) line) (read_operation f l output ts)
unfolding read_operation
operation_is f l output ts =
    yields_next Constraint l ts λ p q.
    yields_given (operator_named (edition_of f) p.0.bytes) _ λ op o.
    yields_bind (operands_are f.variables l (arity op) p.1 (arity_bounds op).1) λ r k.
    let line : Line = record { output = output; operator = op; operands = r.0 } in
    yields_no_more Constraint r.1 λ z.
    yields_ensure (well_typed f.variables line) _ λ w.
    yields_accepted (
      refl,
      record {
        operator_token = p.0.bytes;
        operand_tokens = k.taken;
        are = ap token_bytes q ∙ ap (λ (ws : List (List ℕ)). p.0.bytes ∷ ws) (k.are ∙ ap (λ (us : List Token). k.taken ++ token_bytes us) z ∙ append-nil k.taken);
        operator_spelt = operator_is (edition_of f) p.0.bytes op o;
        count = k.count;
        operands_spelt = k.spelt;
        type_rules = w;
      },
    )

operation_again : (f : File) (l : TextLine) → Each (SoundVariable (edition_of f)) f.variables → Distinct f.variables → (line : Line) (ts : List Token) → SpellsOperation (edition_of f) f.variables (token_bytes ts) line → read_operation f l line.output ts ≡ Ok line
unfolding read_operation
operation_again f l sound distinct line ts h =
    let q = first_token ts h.operator_token h.operand_tokens h.are in
    let n : length q.1 ≡ arity line.operator = sym (length-map q.1 (λ t. t.bytes)) ∙ ap length q.4 ∙ h.count in
    let s : SpellsOperands f.variables (token_bytes q.1) (three line.operands) = rw q.4 h.operands_spelt in
    let r : read_operands f.variables l (arity line.operator) q.1 ≡ Ok (line.operands, []) = subst (λ k. read_operands f.variables l k q.1 ≡ Ok (line.operands, [])) n (operands_again (edition_of f) f.variables sound distinct l (three line.operands) q.1 s) in
    rw (q.2, q.3, operator_again (edition_of f) h.operator_token line.operator h.operator_spelt, r, h.type_rules)

-- ---- a `c` or `p` line
abbrev pub form_letter : Form → ℕ
form_letter WithOutput = code "c"
form_letter Predicate = code "p"

abbrev pub saying : ℕ → TextLine → Said
saying letter l = record { letter = letter; tokens = token_bytes (arguments l) }

pub statement_is : (form : Form) (f : File) (l : TextLine) → Yields (SpellsLine (edition_of f) f.variables (saying (form_letter form) l)) (read_statement form f l)
unfolding read_statement next_output
statement_is WithOutput f l =
    yields_ensure (ltb (length f.lines) max_lines) _ λ _.
    yields_bind (next_is f.variables l (arguments l)) λ p q.
    yields_also (λ line k. with_output q.token (token_bytes p.1) refl q.are (rw k.0 q.spelt) k.1) (operation_is f l p.0 p.1)
statement_is Predicate f l =
    yields_ensure (ltb (length f.lines) max_lines) _ λ _.
    yields_also (λ line k. predicate refl k.0 k.1) (operation_is f l Absent (arguments l))

module _ (f : File) (l : TextLine) (sound : Each (SoundVariable (edition_of f)) f.variables) (distinct : Distinct f.variables) (room : length f.lines < max_lines) (line : Line) where
  pub statement_again : (form : Form) → SpellsLine (edition_of f) f.variables (saying (form_letter form) l) line → read_statement form f l ≡ Ok line
  unfolding read_statement next_output
  statement_again WithOutput (with_output output others e w o h) =
      let q = first_token (arguments l) output others w in
      let n : next_operand f.variables l (arguments l) ≡ Ok (line.output, q.1) = ap (next_operand f.variables l) q.2 ∙ next_again (edition_of f) f.variables sound distinct l line.output q.0 q.1 (rw q.3 o) in
      rw (lt-ltb (length f.lines) max_lines room, n) (operation_again f l sound distinct line q.1 (rw q.4 h))
  statement_again WithOutput (predicate e o h) = absurd (omega arith)
  statement_again Predicate (with_output output others e w o h) = absurd (omega arith)
  statement_again Predicate (predicate e o h) =
      rw (lt-ltb (length f.lines) max_lines room, ← o) (operation_again f l sound distinct line (arguments l) h)
