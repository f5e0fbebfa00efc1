-- Every refusal of a constraint file speaks of it, has a fault of the list, and a position within the file. Assumes nothing.
use Prim.Native.Nat.{ℕ, zero, suc, ◌≤◌}
use Prim.Native.Char.{code}
use mathlib.Core.Path.{◌≡◌, refl}
use mathlib.Core.Bool.{Bool, true, not, ◌&&◌}
use mathlib.Core.List.{List, [], ◌∷◌}
use Rattle.std.specs.Prelude.{Option}
use native.Mathlib.Omega.{arith}
use lib.Dec.{ltb, leb}
use lib.ListN.{length}
use Rattle.edition.specs.declared.Edition.{Edition}
use Rattle.edition.specs.Edition.{max_file_bytes, max_variables, max_lines, max_name_bytes, is_width}
use Rattle.refusal.specs.declared.Fault.{Fault}
use Rattle.refusal.specs.Fault.{is_fault_of}
use Rattle.refusal.specs.declared.Refusal.{Refusal}
use Rattle.refusal.specs.declared.Subject.TheVariants.{Constraint}
use Rattle.refusal.specs.declared.Fault.TheVariants.{WrongVersion, WrongExpectation}
use Rattle.std.specs.Prelude.{is_some}
use Rattle.refusal.specs.Lists.{first_from, is_one_of}
use Rattle.refusal.specs.Result.{Reply, Ok, Err}
use Rattle.refusal.proofs.RefusesLaws.{Refuses, refuses_accepted, refuses_refused, refuses_cond, refuses_bind, refuses_ensure, refuses_given}
use Rattle.arithmetic.specs.Rules.{arity}
use Rattle.text.specs.Lines.{TextLine, Token, arguments}
use Rattle.text.specs.Spelling.{is_name, is_numeral, decimal, max_digits, number_bound, is_type, type_width, up_to, behind}
use Rattle.spelling.specs.Operators.{operator_named, is_reserved}
use Rattle.constraint.specs.declared.Operand.{Operand}
use Rattle.constraint.specs.declared.Line.{Line}
use Rattle.constraint.specs.declared.Kind.{Kind}
use Rattle.constraint.specs.declared.Kind.TheVariants.{Skipped, OfVersion, OfExpectation, OfDeclarations, OfStatement, OfNoKind}
use Rattle.constraint.specs.declared.Form.{Form}
use Rattle.constraint.specs.declared.Form.TheVariants.{WithOutput, Predicate}
use Rattle.constraint.specs.File.{Variable, File, empty_file, with_version, with_expectation, with_variable, edition_of, variable_named}
use Rattle.constraint.specs.TypeRules.{well_typed}
use Rattle.constraint.specs.Read.{in_header, read_single, version_of, read_version, expectation_of, read_expectation, declare, declare_all, read_declarations, read_variable, read_constant, read_operand, next_operand, read_operands, read_operation, next_output, read_statement, add_line, kind_of, read_as, read_line, read_file}
use Rattle.constraint.specs.Sound.{Each}
use Rattle.constraint.specs.Refusals.{constraint_faults}
use Rattle.refusal.proofs.EndsLaws.{Ends, ends_accepted, ends_always, ends_bind, refuses_after}
use Rattle.constraint.proofs.WithinLaws.{LineWithin, TokenWithin, FileRefusal, Readable, arguments_within, start_within, placed, next_within, no_more_within, text_ends}

-- a refusal of the file
abbrev OfConstraint : List ℕ → Refusal → Type 0
OfConstraint = FileRefusal Constraint constraint_faults

module _ {bytes : List ℕ} (c : Readable Constraint constraint_faults bytes) where
  -- ---- the header
  single_refuses : {A : Type 0} (allowed : Bool) (parse : List ℕ → Option A) (wrong : Fault) (add : A → File) (l : TextLine) → is_fault_of wrong constraint_faults ≡ true → LineWithin bytes l → Refuses (OfConstraint bytes) (read_single allowed parse wrong add l)
  unfolding read_single constraint_faults is_one_of first_from
  single_refuses allowed parse wrong add l w h =
      refuses_ensure allowed _ (placed c refl (start_within bytes l h)) (
      refuses_after (next_within c l (arguments l) h (arguments_within bytes l h)) λ p k.
      refuses_given (parse p.0.bytes) _ (placed c w k.0) λ a.
      no_more_within c p.1 k.1 refuses_accepted)

  version_refuses : (f : File) (l : TextLine) → LineWithin bytes l → Refuses (OfConstraint bytes) (read_version f l)
  unfolding read_version constraint_faults is_one_of first_from
  version_refuses f l h = single_refuses (in_header f && not (is_some f.version)) version_of WrongVersion (with_version f) l refl h

  expectation_refuses : (f : File) (l : TextLine) → LineWithin bytes l → Refuses (OfConstraint bytes) (read_expectation f l)
  unfolding read_expectation constraint_faults is_one_of first_from
  expectation_refuses f l h = single_refuses (in_header f && not (is_some f.expectation)) expectation_of WrongExpectation (with_expectation f) l refl h

  declare_refuses : (e : Edition) (xs : List Variable) (t : Token) → TokenWithin bytes t → Refuses (OfConstraint bytes) (declare e xs t)
  unfolding declare constraint_faults is_one_of first_from
  declare_refuses e xs t h =
      let name = up_to (code ":") t.bytes in
      let type = behind (code ":") t.bytes in
      refuses_ensure (is_name name && is_type type) _ (placed c refl h) (
      refuses_ensure (is_width (type_width type)) _ (placed c refl h) (
      refuses_ensure (leb (length name) max_name_bytes && ltb (length xs) max_variables) _ (placed c refl h) (
      refuses_ensure (not (is_reserved e name) && not (is_some (variable_named name xs))) _ (placed c refl h)
      refuses_accepted)))

  declare_all_refuses : (f : File) (ts : List Token) → Each (TokenWithin bytes) ts → Refuses (OfConstraint bytes) (declare_all f ts)
  unfolding declare_all
  declare_all_refuses f [] hs = refuses_accepted
  declare_all_refuses f (t ∷ ts) hs = refuses_bind (declare_refuses (edition_of f) f.variables t hs.0) λ x. declare_all_refuses (with_variable f x) ts hs.1

  declarations_refuse : (f : File) (l : TextLine) → LineWithin bytes l → Refuses (OfConstraint bytes) (read_declarations f l)
  unfolding read_declarations constraint_faults is_one_of first_from
  declarations_refuse f l h =
      refuses_ensure (in_header f) _ (placed c refl (start_within bytes l h)) (
      refuses_after (next_within c l (arguments l) h (arguments_within bytes l h)) λ p k.
      declare_all_refuses f (p.0 ∷ p.1) k)

  -- ---- the lines
  variable_refuses : (xs : List Variable) (t : Token) → TokenWithin bytes t → Refuses (OfConstraint bytes) (read_variable xs t)
  unfolding read_variable constraint_faults is_one_of first_from
  variable_refuses xs t h =
      refuses_ensure (leb (length t.bytes) max_name_bytes) _ (placed c refl h) (
      refuses_given (variable_named t.bytes xs) _ (placed c refl h) λ i.
      refuses_accepted)

  constant_refuses : (t : Token) → TokenWithin bytes t → Refuses (OfConstraint bytes) (read_constant t)
  unfolding read_constant constraint_faults is_one_of first_from
  constant_refuses t h =
      let number = up_to (code ":") t.bytes in
      let type = behind (code ":") t.bytes in
      refuses_ensure (is_numeral max_digits number && is_type type) _ (placed c refl h) (
      refuses_ensure (is_width (type_width type)) _ (placed c refl h) (
      refuses_ensure (ltb (decimal number) number_bound) _ (placed c refl h)
      refuses_accepted))

  operand_refuses : (xs : List Variable) (t : Token) → TokenWithin bytes t → Refuses (OfConstraint bytes) (read_operand xs t)
  unfolding read_operand
  operand_refuses xs t h = refuses_cond (is_name t.bytes) (variable_refuses xs t h) (constant_refuses t h)

  -- operands, and the tokens behind them
  operand_ends : (xs : List Variable) (l : TextLine) (ts : List Token) → LineWithin bytes l → Each (TokenWithin bytes) ts → Ends (OfConstraint bytes) (λ p. Each (TokenWithin bytes) p.1) (next_operand xs l ts)
  unfolding next_operand
  operand_ends xs l ts h ks =
      ends_bind (next_within c l ts h ks) λ p k.
      ends_bind (ends_always (operand_refuses xs p.0 k.0) λ o. k.1) λ o k.
      ends_accepted k

  operands_end : (xs : List Variable) (l : TextLine) (m : ℕ) (ts : List Token) → LineWithin bytes l → Each (TokenWithin bytes) ts → Ends (OfConstraint bytes) (λ p. Each (TokenWithin bytes) p.1) (read_operands xs l m ts)
  unfolding read_operands
  operands_end xs l zero ts h ks = ends_accepted ks
  operands_end xs l (suc m) ts h ks =
      ends_bind (operand_ends xs l ts h ks) λ p k.
      ends_bind (operands_end xs l m p.1 h k) λ q k.
      ends_accepted k

  operation_refuses : (f : File) (l : TextLine) (output : Operand) (ts : List Token) → LineWithin bytes l → Each (TokenWithin bytes) ts → Refuses (OfConstraint bytes) (read_operation f l output ts)
  unfolding read_operation constraint_faults is_one_of first_from
  operation_refuses f l output ts h ks =
      refuses_after (next_within c l ts h ks) λ p k.
      refuses_given (operator_named (edition_of f) p.0.bytes) _ (placed c refl k.0) λ op.
      refuses_after (operands_end f.variables l (arity op) p.1 h k.1) λ q j.
      no_more_within c q.1 j (
      refuses_ensure (well_typed f.variables (record { output = output; operator = op; operands = q.0 })) _ (placed c refl k.0)
      refuses_accepted)

  output_ends : (form : Form) (xs : List Variable) (l : TextLine) (ts : List Token) → LineWithin bytes l → Each (TokenWithin bytes) ts → Ends (OfConstraint bytes) (λ p. Each (TokenWithin bytes) p.1) (next_output form xs l ts)
  unfolding next_output
  output_ends WithOutput xs l ts h ks = operand_ends xs l ts h ks
  output_ends Predicate xs l ts h ks = ends_accepted ks

  statement_refuses : (form : Form) (f : File) (l : TextLine) → LineWithin bytes l → Refuses (OfConstraint bytes) (read_statement form f l)
  unfolding read_statement constraint_faults is_one_of first_from
  statement_refuses form f l h =
      refuses_ensure (ltb (length f.lines) max_lines) _ (placed c refl (start_within bytes l h)) (
      refuses_after (output_ends form f.variables l (arguments l) h (arguments_within bytes l h)) λ p k.
      operation_refuses f l p.0 p.1 h k)

  add_refuses : (f : File) {r : Reply Line} → Refuses (OfConstraint bytes) r → Refuses (OfConstraint bytes) (add_line f r)
  add_refuses f {r = Ok line} h = refuses_accepted
  add_refuses f {r = Err r} h = refuses_refused (h.holds r refl)

  -- ---- the file
  as_refuses : (k : Kind) (f : File) (l : TextLine) → LineWithin bytes l → Refuses (OfConstraint bytes) (read_as k f l)
  unfolding read_as constraint_faults is_one_of first_from
  as_refuses Skipped f l h = refuses_accepted
  as_refuses OfVersion f l h = version_refuses f l h
  as_refuses OfExpectation f l h = expectation_refuses f l h
  as_refuses OfDeclarations f l h = declarations_refuse f l h
  as_refuses (OfStatement form) f l h = add_refuses f (statement_refuses form f l h)
  as_refuses OfNoKind f l h = refuses_refused (placed c refl (start_within bytes l h))

  line_refuses : (f : File) (l : TextLine) → LineWithin bytes l → Refuses (OfConstraint bytes) (read_line f l)
  unfolding read_line
  line_refuses f l h = as_refuses (kind_of l.bytes) f l h

-- the faults of any file are of the list
readable : (bytes : List ℕ) → length bytes ≤ max_file_bytes → Readable Constraint constraint_faults bytes
unfolding constraint_faults is_one_of first_from
readable bytes h = record { short = h; byte = refl; count = refl }

pub file_refuses : (bytes : List ℕ) → Refuses (FileRefusal Constraint constraint_faults bytes) (read_file bytes)
unfolding read_file constraint_faults is_one_of first_from
file_refuses bytes =
    refuses_after (text_ends Constraint constraint_faults bytes refl (readable bytes) read_line line_refuses empty_file) λ f c.
    refuses_ensure (is_some f.version) _ (placed c refl (omega arith))
    refuses_accepted
