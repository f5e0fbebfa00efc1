-- The line table: what is put into it, and what it keeps. Assumes nothing.
use mathlib.Core.Path.{◌≡◌, refl, ap, ◌∙◌}
use mathlib.Core.List.{List, [], ◌∷◌, ◌++◌}
use Prim.Native.Nat.{ℕ, zero, suc, ◌+◌, ◌*◌, ◌%◌, ◌≤◌, ◌<◌}
use borrow.Author.Tests.{ne_eqb, lt-ltb, le-ltb}
use native.Mathlib.Decide.{ℕ_discrete}
use native.Mathlib.Omega.{arith}
use lib.ListN.{length, length-set}
use lib.Seq.{get_or-set_same, get_or-set_other}
use Rattle.edition.specs.Edition.{max_lines}
use Rattle.arithmetic.specs.declared.Operator.{Operator}
use Rattle.arithmetic.specs.Numbering.{operator_number, operator_numbered}
use Rattle.arithmetic.proofs.NumberLaws.{give_back}
use Rattle.constraint.specs.declared.Operand.TheVariants.{Absent, Var, Const}
use Rattle.constraint.specs.File.{Variable, width_at}
use Rattle.constraint.specs.Read.{no_operands}
use Rattle.constraint.specs.TypeRules.{rule_word}
use Rattle.store.specs.Tables.{line_heads, line_bodies, table_heads, table_bodies, variable_mark, operand_of, head_width, head_at, body_at, operand_in, operator_in, line_in, lines_in, with_operator, with_head, with_body, without_operands, with_operand, LinesKept, HeadFits, HeadsFit, AllHeadsFit}
use Rattle.store.proofs.TableLaws.{length-tabulate, tabulate_cong, tabulate_suc}

-- ---- all lines
pub lines_length : (heads bodies : List ℕ) (n : ℕ) → length (lines_in heads bodies n) ≡ n
unfolding lines_in
lines_length heads bodies n = length-tabulate (line_in heads bodies) n

pub lines_more : (heads bodies : List ℕ) (n : ℕ) → lines_in heads bodies (n + 1) ≡ lines_in heads bodies n ++ (line_in heads bodies n ∷ [])
unfolding lines_in
lines_more heads bodies n = tabulate_suc (line_in heads bodies) n

-- ---- lines that are kept
pub kept_same : (heads bodies : List ℕ) (n : ℕ) → LinesKept heads bodies heads bodies n
kept_same heads bodies n = record { heads = λ j h. refl; bodies = λ j h. refl }

pub kept_on : {heads bodies heads₂ bodies₂ heads₃ bodies₃ : List ℕ} {n : ℕ} → LinesKept heads bodies heads₂ bodies₂ n → LinesKept heads₂ bodies₂ heads₃ bodies₃ n → LinesKept heads bodies heads₃ bodies₃ n
kept_on k l = record { heads = λ j h. l.heads j h ∙ k.heads j h; bodies = λ j h. l.bodies j h ∙ k.bodies j h }

module _ {heads bodies heads₂ bodies₂ : List ℕ} {n : ℕ} (k : LinesKept heads bodies heads₂ bodies₂ n) where
  pub kept_operator : (op : Operator) → LinesKept heads bodies (with_operator heads₂ n op) bodies₂ n
  unfolding with_operator
  kept_operator op = record {
    heads = λ j h. get_or-set_other heads₂ (n * line_heads) j (operator_number op) 0 (omega arith) ∙ k.heads j h;
    bodies = k.bodies;
  }

  pub kept_head : (slot head : ℕ) → LinesKept heads bodies (with_head heads₂ n slot head) bodies₂ n
  unfolding with_head
  kept_head slot head = record {
    heads = λ j h. get_or-set_other heads₂ (n * line_heads + 1 + slot) j head 0 (omega arith) ∙ k.heads j h;
    bodies = k.bodies;
  }

  pub kept_body : (slot body : ℕ) → LinesKept heads bodies heads₂ (with_body bodies₂ n slot body) n
  unfolding with_body
  kept_body slot body = record {
    heads = k.heads;
    bodies = λ j h. get_or-set_other bodies₂ (n * line_bodies + slot) j body 0 (omega arith) ∙ k.bodies j h;
  }

  head_kept : (i slot : ℕ) → i < n → slot < line_bodies → head_at heads₂ i slot ≡ head_at heads i slot
  unfolding head_at
  head_kept i slot h l = k.heads (i * line_heads + 1 + slot) (omega arith)

  body_kept : (i slot : ℕ) → i < n → slot < line_bodies → body_at bodies₂ i slot ≡ body_at bodies i slot
  unfolding body_at
  body_kept i slot h l = k.bodies (i * line_bodies + slot) (omega arith)

  operand_kept : (i slot : ℕ) → i < n → slot < line_bodies → operand_in heads₂ bodies₂ i slot ≡ operand_in heads bodies i slot
  unfolding operand_in
  operand_kept i slot h l = rw (head_kept i slot h l, body_kept i slot h l)

  line_kept : (i : ℕ) → i < n → line_in heads₂ bodies₂ i ≡ line_in heads bodies i
  unfolding line_in operator_in
  line_kept i h =
      rw (operand_kept i 0 h (omega arith), operand_kept i 1 h (omega arith), operand_kept i 2 h (omega arith), operand_kept i 3 h (omega arith), k.heads (i * line_heads) (omega arith))

  pub lines_kept : lines_in heads₂ bodies₂ n ≡ lines_in heads bodies n
  unfolding lines_in
  lines_kept = tabulate_cong (line_in heads₂ bodies₂) (line_in heads bodies) n line_kept

  pub fit_kept : (xs : List Variable) → AllHeadsFit xs heads bodies n → AllHeadsFit xs heads₂ bodies₂ n
  fit_kept xs f i h slot l = rw (operand_kept i slot h l, head_kept i slot h l) (f i h slot l)

-- ---- what is put into line n
module _ (heads : List ℕ) (n : ℕ) (sized : length heads ≡ table_heads) (room : n < max_lines) where
  pub operator_put : (op : Operator) → operator_in (with_operator heads n op) n ≡ op
  unfolding operator_in with_operator
  operator_put op = ap operator_numbered (get_or-set_same heads (n * line_heads) (operator_number op) 0 (omega arith)) ∙ give_back op

  head_put : (slot head : ℕ) → slot < line_bodies → head_at (with_head heads n slot head) n slot ≡ head
  unfolding head_at with_head
  head_put slot head h = get_or-set_same heads (n * line_heads + 1 + slot) head 0 (omega arith)

module _ (heads : List ℕ) (n slot : ℕ) where
  head_behind : (op : Operator) → head_at (with_operator heads n op) n slot ≡ head_at heads n slot
  unfolding head_at with_operator
  head_behind op = get_or-set_other heads (n * line_heads) (n * line_heads + 1 + slot) (operator_number op) 0 (omega arith)

  operator_before : (head : ℕ) → operator_in (with_head heads n slot head) n ≡ operator_in heads n
  unfolding operator_in with_head
  operator_before head = ap operator_numbered (get_or-set_other heads (n * line_heads + 1 + slot) (n * line_heads) head 0 (omega arith))

  head_beside : (other head : ℕ) → ¬ (slot ≡ other) → head_at (with_head heads n other head) n slot ≡ head_at heads n slot
  unfolding head_at with_head
  head_beside other head d = get_or-set_other heads (n * line_heads + 1 + other) (n * line_heads + 1 + slot) head 0 (omega arith)

module _ (bodies : List ℕ) (n slot body : ℕ) where
  body_put : length bodies ≡ table_bodies → n < max_lines → slot < line_bodies → body_at (with_body bodies n slot body) n slot ≡ body
  unfolding body_at with_body
  body_put sized room h = get_or-set_same bodies (n * line_bodies + slot) body 0 (omega arith)

  body_beside : (other : ℕ) → ¬ (other ≡ slot) → body_at (with_body bodies n slot body) n other ≡ body_at bodies n other
  unfolding body_at with_body
  body_beside other d = get_or-set_other bodies (n * line_bodies + slot) (n * line_bodies + other) body 0 (omega arith)

-- ---- line n, with an operator and with an operand
operand_behind : (heads bodies : List ℕ) (n slot : ℕ) (op : Operator) → operand_in (with_operator heads n op) bodies n slot ≡ operand_in heads bodies n slot
unfolding operand_in
operand_behind heads bodies n slot op = rw (head_behind heads n slot op)

pub fit_operator : (xs : List Variable) (heads bodies : List ℕ) (n : ℕ) (op : Operator) → HeadsFit xs heads bodies n → HeadsFit xs (with_operator heads n op) bodies n
fit_operator xs heads bodies n op f slot h = rw (operand_behind heads bodies n slot op, head_behind heads n slot op) (f slot h)

pub line_operator : (heads bodies : List ℕ) (n : ℕ) (op : Operator) → length heads ≡ table_heads → n < max_lines → line_in (with_operator heads n op) bodies n ≡ record { output = (line_in heads bodies n).output; operator = op; operands = (line_in heads bodies n).operands }
unfolding line_in
line_operator heads bodies n op sized room =
    rw (operator_put heads n sized room op, operand_behind heads bodies n 0 op, operand_behind heads bodies n 1 op, operand_behind heads bodies n 2 op, operand_behind heads bodies n 3 op)

module _ (heads bodies : List ℕ) (n slot head body : ℕ) (room : n < max_lines) (h : slot < line_bodies) (sized : length heads ≡ table_heads) (sized₂ : length bodies ≡ table_bodies) where
  operand_put : operand_in (with_head heads n slot head) (with_body bodies n slot body) n slot ≡ operand_of head body
  unfolding operand_in
  operand_put = rw (head_put heads n sized room slot head h, body_put bodies n slot body sized₂ room h)

  operand_beside : (other : ℕ) → ¬ (other ≡ slot) → operand_in (with_head heads n slot head) (with_body bodies n slot body) n other ≡ operand_in heads bodies n other
  unfolding operand_in
  operand_beside other d = rw (head_beside heads n other slot head d, body_beside bodies n slot body other d)

  pub fit_operand : (xs : List Variable) → HeadsFit xs heads bodies n → HeadFits xs head body → HeadsFit xs (with_head heads n slot head) (with_body bodies n slot body) n
  fit_operand xs f e other l = elim (ℕ_discrete other slot) [
    | yes q ↦ rw (q, operand_put, head_put heads n sized room slot head h) e
    | no d ↦ rw (operand_beside other d, head_beside heads n other slot head d) (f other l)
  ]

pub line_operand : (heads bodies : List ℕ) (n slot head body : ℕ) → n < max_lines → slot < line_bodies → length heads ≡ table_heads → length bodies ≡ table_bodies → line_in (with_head heads n slot head) (with_body bodies n slot body) n ≡ with_operand (line_in heads bodies n) slot (operand_of head body)
unfolding line_in with_operand
line_operand heads bodies n zero head body room h s t =
    rw (operator_before heads n 0 head, operand_put heads bodies n 0 head body room h s t, operand_beside heads bodies n 0 head body room h s t 1 (omega arith), operand_beside heads bodies n 0 head body room h s t 2 (omega arith), operand_beside heads bodies n 0 head body room h s t 3 (omega arith))
line_operand heads bodies n (suc zero) head body room h s t =
    rw (operator_before heads n 1 head, operand_put heads bodies n 1 head body room h s t, operand_beside heads bodies n 1 head body room h s t 0 (omega arith), operand_beside heads bodies n 1 head body room h s t 2 (omega arith), operand_beside heads bodies n 1 head body room h s t 3 (omega arith))
line_operand heads bodies n (suc (suc zero)) head body room h s t =
    rw (operator_before heads n 2 head, operand_put heads bodies n 2 head body room h s t, operand_beside heads bodies n 2 head body room h s t 0 (omega arith), operand_beside heads bodies n 2 head body room h s t 1 (omega arith), operand_beside heads bodies n 2 head body room h s t 3 (omega arith))
line_operand heads bodies n (suc (suc (suc zero))) head body room h s t =
    rw (operator_before heads n 3 head, operand_put heads bodies n 3 head body room h s t, operand_beside heads bodies n 3 head body room h s t 0 (omega arith), operand_beside heads bodies n 3 head body room h s t 1 (omega arith), operand_beside heads bodies n 3 head body room h s t 2 (omega arith))
line_operand heads bodies n (suc (suc (suc (suc k)))) head body room h s t = let z : ⊥ = omega arith in absurd z

-- ---- line n, without output and operands
module _ (heads : List ℕ) (n : ℕ) (sized : length heads ≡ table_heads) (room : n < max_lines) where
  -- a head is 0 behind any clearing of slots
  cleared_on : (slot other : ℕ) → slot < line_bodies → head_at heads n slot ≡ 0 → head_at (with_head heads n other 0) n slot ≡ 0
  cleared_on slot other h e = elim (ℕ_discrete slot other) [
    | yes q ↦ rw (← q) (head_put heads n sized room slot 0 h)
    | no d ↦ head_beside heads n slot other 0 d ∙ e
  ]

length_head : (heads : List ℕ) (n slot head : ℕ) → length (with_head heads n slot head) ≡ length heads
unfolding with_head
length_head heads n slot head = length-set heads (n * line_heads + 1 + slot) head

module _ (heads bodies : List ℕ) (n : ℕ) (sized : length heads ≡ table_heads) (room : n < max_lines) where
  -- the heads with one, two and three slots cleared
  abbrev one : List ℕ
  one = with_head heads n 0 0

  abbrev two : List ℕ
  two = with_head one n 1 0

  abbrev three : List ℕ
  three = with_head two n 2 0

  sized_one : length one ≡ table_heads
  sized_one = length_head heads n 0 0 ∙ sized

  sized_two : length two ≡ table_heads
  sized_two = length_head one n 1 0 ∙ sized_one

  sized_three : length three ≡ table_heads
  sized_three = length_head two n 2 0 ∙ sized_two

  head_cleared : (slot : ℕ) → slot < line_bodies → head_at (without_operands heads n) n slot ≡ 0
  unfolding without_operands
  head_cleared zero h =
      cleared_on three n sized_three room 0 3 h (cleared_on two n sized_two room 0 2 h (cleared_on one n sized_one room 0 1 h (head_put heads n sized room 0 0 h)))
  head_cleared (suc zero) h = cleared_on three n sized_three room 1 3 h (cleared_on two n sized_two room 1 2 h (head_put one n sized_one room 1 0 h))
  head_cleared (suc (suc zero)) h = cleared_on three n sized_three room 2 3 h (head_put two n sized_two room 2 0 h)
  head_cleared (suc (suc (suc zero))) h = head_put three n sized_three room 3 0 h
  head_cleared (suc (suc (suc (suc k)))) h = let z : ⊥ = omega arith in absurd z

  operand_cleared : (slot : ℕ) → slot < line_bodies → operand_in (without_operands heads n) bodies n slot ≡ Absent
  unfolding operand_in operand_of
  operand_cleared slot h = rw (head_cleared slot h)

  pub fit_cleared : (xs : List Variable) → HeadsFit xs (without_operands heads n) bodies n
  unfolding rule_word head_width
  fit_cleared xs slot h = rw (operand_cleared slot h, head_cleared slot h)

  pub line_cleared : line_in (without_operands heads n) bodies n ≡ record { output = Absent; operator = operator_in (without_operands heads n) n; operands = no_operands }
  unfolding line_in
  line_cleared = rw (operand_cleared 0 (omega arith), operand_cleared 1 (omega arith), operand_cleared 2 (omega arith), operand_cleared 3 (omega arith))

pub kept_cleared : (heads bodies : List ℕ) (n : ℕ) → LinesKept heads bodies (without_operands heads n) bodies n
unfolding without_operands
kept_cleared heads bodies n = kept_head (kept_head (kept_head (kept_head (kept_same heads bodies n) 0 0) 1 0) 2 0) 3 0

-- ---- heads
pub operand_absent : (head body : ℕ) → head ≡ 0 → operand_of head body ≡ Absent
unfolding operand_of
operand_absent head body e = rw e

pub operand_variable : (head i : ℕ) → variable_mark ≤ head → operand_of head i ≡ Var i
unfolding operand_of
operand_variable head i h = rw (ne_eqb head 0 (omega arith), le-ltb head variable_mark h)

pub operand_constant : (k v : ℕ) → 1 ≤ k → k < variable_mark → operand_of k v ≡ Const (record { width = k; value = v })
unfolding operand_of
operand_constant k v l h = rw (ne_eqb k 0 (omega arith), lt-ltb k variable_mark h)

-- the width in a constant's head, and in a variable's
pub constant_fits : (xs : List Variable) (head body : ℕ) → head < variable_mark → HeadFits xs head body
unfolding rule_word head_width operand_of
constant_fits xs head body h = elim (ℕ_discrete head 0) [
  | yes e ↦ rw e
  | no d ↦ rw (ne_eqb head 0 d, lt-ltb head variable_mark h) (omega arith)
]

pub variable_fits : (xs : List Variable) (i w : ℕ) → w ≡ width_at xs i → w < variable_mark → HeadFits xs (variable_mark + head_width w) i
unfolding rule_word head_width
variable_fits xs i w e h = rw (operand_variable (variable_mark + w % variable_mark) i (omega arith), ← e) (omega arith)
