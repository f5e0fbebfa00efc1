-- The `c` and `p` lines of a clean text spell the lines that they were made from, in no more bytes. Assumes nothing.
use Prim.Native.Nat.{ℕ, ◌≤◌}
use mathlib.Core.Path.{◌≡◌, refl, ap, subst, ◌∙◌}
use mathlib.Core.List.{List, [], ◌∷◌, map, flat_map, append-nil, append_assoc}
use native.Mathlib.Omega.{arith}
use lib.ListN.{length, get_or}
use Rattle.edition.specs.declared.Edition.{Edition}
use Rattle.refusal.specs.SubjectWords.{ascii}
use Rattle.text.specs.Lines.{leads}
use Rattle.text.proofs.SeenLaws.{is_seen}
use Rattle.spelling.specs.Operators.{spelling_of}
use Rattle.spelling.proofs.SpellsLaws.{spells_exactly, spelling_seen}
use Rattle.constraint.specs.declared.Operand.{Operand}
use Rattle.constraint.specs.declared.Operand.TheVariants.{Absent, Var, Const}
use Rattle.constraint.specs.declared.Operands.{Operands}
use Rattle.constraint.specs.declared.Line.{Line}
use Rattle.constraint.specs.File.{Variable}
use Rattle.constraint.specs.Sound.{Each, SoundVariable}
use Rattle.constraint.proofs.SpacedLaws.{SeenWord}
use Rattle.plain.specs.Says.{Said, leading_letter, SpellsOperand, SpellsOperands, SpellsOperator, SpellsOperation, SpellsLine, with_output, predicate, Pairwise}
use Rattle.plain.proofs.OperatorLaws.{operator_again}
use Rattle.clean_text.specs.Text.{operand_tokens, operands_tokens, statement_letter, statement_tokens, statement_line, statement_lines}
use Rattle.clean_text.proofs.Weights.{texts_weight, said_weight, saids_weight}
use Rattle.clean_text.proofs.RespeltLaws.{operand_again}
use Rattle.clean_text.proofs.SpokenLaws.{Spoken}

-- what such a line says
abbrev pub statement_said : Edition → List Variable → Line → Said
statement_said e xs l = record { letter = get_or (statement_letter l.output) 0 0; tokens = statement_tokens e xs l }

-- a line with an output is a `c` line
output_letter : (xs : List Variable) (t : List ℕ) (o : Operand) → SpellsOperand xs t o → statement_letter o ≡ ascii "c"
unfolding statement_letter
output_letter xs t Absent h = absurd h
output_letter xs t (Var i) h = refl
output_letter xs t (Const w) h = refl

-- words in the place of others
record Words (ts us : List (List ℕ)) : Type 0 where
  words : Each SeenWord us
  count : length us ≡ length ts
  cost : texts_weight us ≤ texts_weight ts

absent : (xs : List Variable) (os : List Operand) → SpellsOperands xs [] os → flat_map (operand_tokens xs) os ≡ []
unfolding operand_tokens flat_map
absent xs [] h = refl
absent xs (o ∷ os) h = rw (h.0, absent xs os h.1)

module _ (e : Edition) (xs : List Variable) (sound : Each (SoundVariable e) xs) where
  -- ---- operands
  operands_again : (ts : List (List ℕ)) (os : List Operand) → SpellsOperands xs ts os → SpellsOperands xs (flat_map (operand_tokens xs) os) os × Words ts (flat_map (operand_tokens xs) os)
  unfolding flat_map
  operands_again [] os h = rw (absent xs os h) (h, record { words = tt; count = refl; cost = omega arith })
  operands_again (t ∷ ts) [] h = absurd h
  operands_again (t ∷ ts) (o ∷ os) h =
      let p = operand_again e xs sound t o h.0 in
      let q = operands_again ts os h.1 in
      rw p.tokens ((p.spelt, q.0), record { words = (p.word, q.1.words); count = omega (arith, q.1.count); cost = omega (arith, p.cost, q.1.cost) })

  three_tokens : (os : Operands) → operands_tokens xs os ≡ flat_map (operand_tokens xs) (os.first ∷ os.second ∷ os.third ∷ [])
  unfolding operands_tokens flat_map
  three_tokens os = rw (append-nil, append_assoc)

  -- ---- an operator and its operands
  module _ (l : Line) where
    abbrev operation_tokens : List (List ℕ)
    operation_tokens = spelling_of e l.operator ∷ operands_tokens xs l.operands

    operation_again : (ts : List (List ℕ)) → SpellsOperation e xs ts l → SpellsOperation e xs operation_tokens l × Words ts operation_tokens
    operation_again ts h =
        let s = spelling_of e l.operator in
        let z : h.operator_token ≡ s = (spells_exactly e l.operator h.operator_token).0 (operator_again e h.operator_token l.operator h.operator_spelt) in
        let seen = spelling_seen e l.operator in
        let q = operands_again h.operand_tokens _ h.operands_spelt in
        rw (h.are, three_tokens l.operands) (
          record { operator_token = s; operand_tokens = flat_map (operand_tokens xs) _; are = refl; operator_spelt = subst (λ (t : List ℕ). SpellsOperator e t l.operator) z h.operator_spelt; count = q.1.count ∙ h.count; operands_spelt = q.0; type_rules = h.type_rules },
          record { words = (record { seen = seen.0; some_bytes = seen.1 }, q.1.words); count = omega (arith, q.1.count); cost = omega (arith, q.1.cost, ap length z) },
        )

    -- ---- a line
    abbrev Again : Said → Type 0
    Again s = Spoken (statement_line e xs l) (statement_said e xs l) × SpellsLine e xs (statement_said e xs l) l × (said_weight (statement_said e xs l) ≤ said_weight s)

    line_again : (s : Said) → SpellsLine e xs s l → Again s
    unfolding statement_line statement_tokens leading_letter leads is_seen statement_letter operand_tokens
    line_again s (with_output output others k w o h) =
        let p = operand_again e xs sound output l.output o in
        let q = operation_again others h in
        rw (output_letter xs output l.output o, p.tokens, k, w) (
          record { letter = (refl, refl, refl, refl); words = (p.word, q.1.words); is = refl },
          with_output p.token operation_tokens refl refl p.spelt q.0,
          omega (arith, p.cost, q.1.cost),
        )
    line_again s (predicate k o h) =
        let q = operation_again s.tokens h in
        rw (ap statement_letter o, ap (operand_tokens xs) o, k) (record { letter = (refl, refl, refl, refl); words = q.1.words; is = refl }, predicate refl o q.0, omega (arith, q.1.cost))

  -- ---- the lines in order
  pub record Statements (ss : List Said) (ls : List Line) : Type 0 where
    pub spoken : Pairwise Spoken (statement_lines e xs ls) (map (statement_said e xs) ls)
    pub spelt : Pairwise (SpellsLine e xs) (map (statement_said e xs) ls) ls
    pub cost : saids_weight (map (statement_said e xs) ls) ≤ saids_weight ss

  pub statements_again : (ss : List Said) (ls : List Line) → Pairwise (SpellsLine e xs) ss ls → Statements ss ls
  unfolding statement_lines
  statements_again [] [] p = record { spoken = tt; spelt = tt; cost = omega arith }
  statements_again [] (l ∷ ls) p = absurd p
  statements_again (s ∷ ss) [] p = absurd p
  statements_again (s ∷ ss) (l ∷ ls) p =
      let h = line_again l s p.0 in
      let q = statements_again ss ls p.1 in
      record { spoken = (h.0, q.spoken); spelt = (h.1, q.spelt); cost = omega (arith, h.2, q.cost) }
