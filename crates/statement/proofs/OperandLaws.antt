-- Lines read part by part, by what their tokens are. Assumes nothing.
use mathlib.Core.Path.{◌≡◌, refl, sym, ap, ◌∙◌}
use mathlib.Core.Bool.{true}
use mathlib.Core.List.{List, [], ◌∷◌}
use Rattle.std.specs.Prelude.{None, Some, IfOk}
use Prim.Native.Nat.{ℕ, zero, suc, ◌+◌, ◌-◌, ◌≤◌, ◌<◌}
use native.Mathlib.Numerals.{add-one}
use native.Mathlib.Omega.{arith}
use lib.ListN.{length, drop}
use borrow.Author.Tests.{lt-ltb, le-ltb}
use Rattle.edition.specs.Edition.{max_lines}
use Rattle.refusal.specs.declared.Refusal.{Refusal}
use Rattle.refusal.specs.declared.Subject.TheVariants.{Constraint}
use Rattle.refusal.specs.declared.Fault.TheVariants.{TokenCount, OverLimit, UnknownOperator}
use Rattle.refusal.specs.Result.{Reply, Ok, Err, refusal, ◌>>=◌}
use Rattle.arithmetic.specs.declared.Operator.{Operator}
use Rattle.arithmetic.specs.Rules.{arity}
use Rattle.arithmetic.proofs.RuleLaws.{arity_bounds}
use Rattle.text.specs.Lines.{TextLine, Token, tokens_from}
use Rattle.text.specs.Scan.{line_at}
use Rattle.text.proofs.TokenLaws.{arguments_at, end_at}
use Rattle.constraint.specs.declared.Operand.{Operand}
use Rattle.constraint.specs.declared.Operand.TheVariants.{Absent}
use Rattle.constraint.specs.declared.Operands.{Operands}
use Rattle.constraint.specs.declared.Form.{Form}
use Rattle.constraint.specs.declared.Form.TheVariants.{WithOutput, Predicate}
use Rattle.constraint.specs.declared.Line.{Line}
use Rattle.constraint.specs.File.{Variable, File, edition_of}
use Rattle.constraint.specs.Read.{next_operand, no_operands, in_front, read_operands, read_operation, next_output, read_statement}
use Rattle.spelling.specs.Operators.{operator_named}
use Rattle.store.specs.Tables.{line_bodies, table_heads, table_bodies, operand_of, line_in, with_head, with_body, with_operand, LinesKept, HeadsFit}
use Rattle.store.proofs.LineTableLaws.{line_operand}
use Rattle.statement.specs.Internal.{finished, place_operands, left_to_read, operand_next, InLine, BlankUpTo, first_slot, LineFits}
use Rattle.statement.specs.declared.Reached.{Reached}

bind-bind : {A B C : Type 0} (r : Reply A) (f : A → Reply B) (g : B → Reply C) → ((r >>= f) >>= g) ≡ (r >>= λ a. f a >>= g)
bind-bind (Ok a) f g = refl
bind-bind (Err r) f g = refl

-- ---- operands one by one, and all at once
-- a line of operands, and operands with one in front of them; with the tokens behind
abbrev into_line : (Operands → Line) → Operands × List Token → Reply (Line × List Token)
into_line h p = Ok (h p.0, p.1)

abbrev behind_one : Operand → Operands × List Token → Reply (Operands × List Token)
behind_one o p = Ok (in_front o p.0, p.1)

fill_again : (r : Reply (Operands × List Token)) (o : Operand) (h : Operands → Line) → (r >>= into_line (λ os. h (in_front o os))) ≡ ((r >>= behind_one o) >>= into_line h)
fill_again (Ok p) o h = refl
fill_again (Err r) o h = refl

module _ (xs : List Variable) (l : TextLine) (output : Operand) (op : Operator) where
  abbrev line_of : Operands → Line
  line_of os = record { output = output; operator = op; operands = os }

  placed_third : (a b : Operand) (n : ℕ) (ts : List Token) → n ≤ 1 → place_operands xs l 3 n (line_of (in_front a (in_front b no_operands))) ts ≡ (read_operands xs l n ts >>= into_line (λ os. line_of (in_front a (in_front b os))))
  unfolding place_operands read_operands with_operand
  placed_third a b zero ts h = refl
  placed_third a b (suc zero) ts h = go (next_operand xs l ts)
    where
      go : (r : Reply (Operand × List Token)) → (r >>= λ p. into_line (λ os. line_of (in_front a (in_front b os))) (in_front p.0 no_operands, p.1)) ≡ ((r >>= λ p. behind_one p.0 (no_operands, p.1)) >>= into_line (λ os. line_of (in_front a (in_front b os))))
      go (Ok p) = refl
      go (Err r) = refl
  placed_third a b (suc (suc n)) ts h = let z : ⊥ = omega arith in absurd z

  placed_second : (a : Operand) (n : ℕ) (ts : List Token) → n ≤ 2 → place_operands xs l 2 n (line_of (in_front a no_operands)) ts ≡ (read_operands xs l n ts >>= into_line (λ os. line_of (in_front a os)))
  unfolding place_operands read_operands with_operand
  placed_second a zero ts h = refl
  placed_second a (suc n) ts h = go (next_operand xs l ts)
    where
      go : (r : Reply (Operand × List Token)) → (r >>= λ p. place_operands xs l 3 n (line_of (in_front a (in_front p.0 no_operands))) p.1) ≡ ((r >>= λ p. read_operands xs l n p.1 >>= behind_one p.0) >>= into_line (λ os. line_of (in_front a os)))
      go (Ok p) = placed_third a p.0 n p.1 (omega arith) ∙ fill_again (read_operands xs l n p.1) p.0 (λ os. line_of (in_front a os))
      go (Err r) = refl

  placed_first : (n : ℕ) (ts : List Token) → n ≤ 3 → place_operands xs l 1 n (line_of no_operands) ts ≡ (read_operands xs l n ts >>= into_line line_of)
  unfolding place_operands read_operands with_operand
  placed_first zero ts h = refl
  placed_first (suc n) ts h = go (next_operand xs l ts)
    where
      go : (r : Reply (Operand × List Token)) → (r >>= λ p. place_operands xs l 2 n (line_of (in_front p.0 no_operands)) p.1) ≡ ((r >>= λ p. read_operands xs l n p.1 >>= behind_one p.0) >>= into_line line_of)
      go (Ok p) = placed_second p.0 n p.1 (omega arith) ∙ fill_again (read_operands xs l n p.1) p.0 line_of
      go (Err r) = refl

-- ---- the next operand
pub operand_missing : (xs : List Variable) (line : List ℕ) (start next : ℕ) (ts : List Token) → start ≤ length line → ts ≡ [] → Err (refusal Constraint TokenCount (length line)) ≡ next_operand xs (line_at line start next) ts
unfolding next_operand
operand_missing xs line start next ts h e = rw (e, end_at line start next h)

module _ (f : File) (l : TextLine) (slot last start : ℕ) (line : Line) (ts : List Token) (xs : List Variable) (v : f.variables ≡ xs) where
  pub next_refused : (r : Refusal) → Err r ≡ next_operand xs l ts → Err r ≡ operand_next f l slot last start line ts
  unfolding operand_next
  next_refused r e = rw (v, ← e)

  next_read : (o : Operand) (rest : List Token) → Ok (o, rest) ≡ next_operand xs l ts → left_to_read f l (slot + 1) last start (with_operand line slot o) rest ≡ operand_next f l slot last start line ts
  unfolding operand_next
  next_read o rest e = rw (v, ← e)

output_only : (line : Line) (slot : ℕ) (o : Operand) → slot ≡ 0 → (with_operand line slot o).operands ≡ line.operands
unfolding with_operand
output_only line slot o e = rw e

-- an operand that is put into line n of the table
module _ (heads bodies : List ℕ) (n slot head body : ℕ) (room : n < max_lines) (h : slot < line_bodies) (sized : length heads ≡ table_heads) (sized₂ : length bodies ≡ table_bodies) where
  pub next_placed : (f : File) (l : TextLine) (last start : ℕ) (ts : List Token) (xs : List Variable) → f.variables ≡ xs → (rest : List Token) → Ok (operand_of head body, rest) ≡ next_operand xs l ts → left_to_read f l (slot + 1) last start (line_in (with_head heads n slot head) (with_body bodies n slot body) n) rest ≡ operand_next f l slot last start (line_in heads bodies n) ts
  next_placed f l last start ts xs v rest e = rw (line_operand heads bodies n slot head body room h sized sized₂) (next_read f l slot last start (line_in heads bodies n) ts xs v (operand_of head body) rest e)

  pub blank_placed : slot ≡ 0 → (line_in heads bodies n).operands ≡ no_operands → (line_in (with_head heads n slot head) (with_body bodies n slot body) n).operands ≡ no_operands
  blank_placed z e = rw (line_operand heads bodies n slot head body room h sized sized₂) (output_only (line_in heads bodies n) slot (operand_of head body) z ∙ e)

-- ---- what is left to read, from slot to slot
module _ (f : File) (l : TextLine) (last start : ℕ) (line : Line) (ts : List Token) where
  left_output : operand_next f l 0 last start line ts ≡ left_to_read f l 0 last start line ts
  unfolding operand_next left_to_read with_operand
  left_output = refl

  left_operands : (slot : ℕ) → 2 ≤ slot → slot ≤ last → operand_next f l slot last start line ts ≡ left_to_read f l slot last start line ts
  unfolding operand_next left_to_read place_operands
  left_operands zero h k = let z : ⊥ = omega arith in absurd z
  left_operands (suc zero) h k = let z : ⊥ = omega arith in absurd z
  left_operands (suc (suc n)) h k =
      let a : last + 1 - suc (suc n) ≡ suc (last - suc (suc n)) = omega arith in
      let b : last + 1 - suc (suc (suc n)) ≡ last - suc (suc n) = omega arith in
      rw (a, add-one (suc (suc n)), b) (sym (bind-bind (next_operand f.variables l ts) _ _))

  -- the operator stands before the first operand, and nothing before another slot
  pub left_operation : read_operation f l line.output ts ≡ left_to_read f l 1 last start line ts
  unfolding left_to_read
  left_operation = refl

  pub left_other : (slot : ℕ) → ¬ (slot ≡ 1) → slot ≤ last → operand_next f l slot last start line ts ≡ left_to_read f l slot last start line ts
  left_other zero d h = left_output
  left_other (suc zero) d h = absurd (d refl)
  left_other (suc (suc n)) d h = left_operands (suc (suc n)) (omega arith) h

  pub left_done : (slot : ℕ) → 2 ≤ slot → slot ≡ last + 1 → (xs : List Variable) → f.variables ≡ xs → finished xs line start ts ≡ left_to_read f l slot last start line ts
  unfolding left_to_read place_operands
  left_done zero h k xs v = let z : ⊥ = omega arith in absurd z
  left_done (suc zero) h k xs v = let z : ⊥ = omega arith in absurd z
  left_done (suc (suc n)) h k xs v = let a : last + 1 - suc (suc n) ≡ 0 = omega arith in rw (a, v)

left_first : (f : File) (l : TextLine) (start : ℕ) (line : Line) (ts : List Token) (last : ℕ) → 1 ≤ last → operand_next f l 1 last start line ts ≡ (place_operands f.variables l 1 last line ts >>= λ p. finished f.variables p.0 start p.1)
unfolding operand_next left_to_read place_operands
left_first f l start line ts zero h = let z : ⊥ = omega arith in absurd z
left_first f l start line ts (suc n) h = let b : suc n + 1 - 2 ≡ n = omega arith in rw b (sym (bind-bind (next_operand f.variables l ts) _ _))

-- ---- an operation
module _ (f : File) (output : Operand) (ts : List Token) where
  pub operation_missing : (line : List ℕ) (start next : ℕ) → start ≤ length line → ts ≡ [] → Err (refusal Constraint TokenCount (length line)) ≡ read_operation f (line_at line start next) output ts
  unfolding read_operation
  operation_missing line start next h e = rw (e, end_at line start next h)

  module _ (l : TextLine) (t : Token) (rest : List Token) (k : ts ≡ t ∷ rest) where
    pub operation_unknown : None ≡ operator_named (edition_of f) t.bytes → Err (refusal Constraint UnknownOperator t.start) ≡ read_operation f l output ts
    unfolding read_operation
    operation_unknown e = rw (k, ← e)

    pub operation_read : (op : Operator) → Some op ≡ operator_named (edition_of f) t.bytes → operand_next f l 1 (arity op) t.start (record { output = output; operator = op; operands = no_operands }) rest ≡ read_operation f l output ts
    unfolding read_operation
    operation_read op e =
        let xs = f.variables in
        let line = line_of xs l output op in
        let n = arity_bounds op in
        rw (k, ← e)
        (left_first f l t.start (line no_operands) rest (arity op) n.0
        ∙ ap (λ r. r >>= λ p. finished xs p.0 t.start p.1) (placed_first xs l output op (arity op) rest n.1)
        ∙ bind-bind (read_operands xs l (arity op) rest) (into_line line) (λ p. finished xs p.0 t.start p.1))

-- ---- the `c` and `p` lines of a file with m lines so far
module _ (form : Form) (f : File) (bytes : List ℕ) (at next m : ℕ) (q : length f.lines ≡ m) where
  pub statement_full : max_lines ≤ m → Err (refusal Constraint OverLimit at) ≡ read_statement form f (line_at bytes at next)
  unfolding read_statement
  statement_full h = rw (q, le-ltb m max_lines h)

pub statement_starts : (form : Form) (f : File) (bytes : List ℕ) (at next m last start : ℕ) (line : Line) → length f.lines ≡ m → m < max_lines → line.output ≡ Absent → left_to_read f (line_at bytes at next) (first_slot form) last start line (tokens_from true (at + 1) (drop (at + 1) bytes)) ≡ read_statement form f (line_at bytes at next)
unfolding read_statement left_to_read next_output
statement_starts WithOutput f bytes at next m last start line q h e = rw (q, lt-ltb m max_lines h, arguments_at bytes at next)
statement_starts Predicate f bytes at next m last start line q h e = rw (q, lt-ltb m max_lines h, arguments_at bytes at next, e)

-- ---- a line that is read up to a slot: what is left of it is what was left at first
pub record ReadUpTo (line : List ℕ) (xs : List Variable) (at m : ℕ) (p₀ : Reached) (slot₀ : ℕ) (heads₀ bodies₀ heads bodies : List ℕ) (p : Reached) (slot : ℕ) : Type 0 where
  pub in_line : InLine line p
  pub in_slots : slot ≤ p.last + 1
  pub sized_heads : length heads ≡ table_heads
  pub sized_bodies : length bodies ≡ table_bodies
  pub kept : LinesKept heads₀ bodies₀ heads bodies m
  pub fits : HeadsFit xs heads bodies m
  pub blank : BlankUpTo slot (line_in heads bodies m)
  pub left : (f : File) (next : ℕ) → f.variables ≡ xs → left_to_read f (line_at line at next) slot p.last p.operator (line_in heads bodies m) (tokens_from true p.at (drop p.at line)) ≡ left_to_read f (line_at line at next) slot₀ p₀.last p₀.operator (line_in heads₀ bodies₀ m) (tokens_from true p₀.at (drop p₀.at line))

pub first_most : (form : Form) → first_slot form ≤ 1
first_most WithOutput = omega arith
first_most Predicate = omega arith

pub fits_any : (xs : List Variable) (heads bodies : List ℕ) (m : ℕ) (r : Reply (Unit {0})) → m < max_lines → HeadsFit xs heads bodies m → IfOk r (λ done. LineFits xs heads bodies m)
fits_any xs heads bodies m (Ok done) h f = (h, f)
fits_any xs heads bodies m (Err r) h f = tt
