-- The operand whose token starts at a place, by the token's first byte. Assumes nothing.
use Prim.Native.Nat.{ℕ, suc, ◌<◌, ◌≤◌}
use mathlib.Core.Path.{◌≡◌, refl, ◌∙◌}
use mathlib.Core.Bool.{true, false}
use mathlib.Core.List.{List, ◌∷◌}
use native.Mathlib.Omega.{arith}
use lib.ListN.{length, get_or, take, drop}
use lib.Seq.{drop-cons, get_or-take, length-take-le}
use Rattle.refusal.specs.declared.Refusal.{Refusal}
use Rattle.refusal.specs.declared.Subject.TheVariants.{Constraint}
use Rattle.refusal.specs.declared.Fault.TheVariants.{Misspelt}
use Rattle.refusal.specs.Result.{Reply, Ok, Err, refusal}
use Rattle.text.specs.Bytes.{is_letter}
use Rattle.text.specs.Spelling.{is_name}
use Rattle.text.specs.Lines.{TextLine, Token, tokens_from}
use Rattle.text.specs.declared.Class.TheVariants.{Space, Solid, NameByte}
use Rattle.text.specs.Scan.{is_of, past, ends_token}
use Rattle.text.proofs.RunLaws.{past_le}
use Rattle.text.proofs.TokenLaws.{tokens_turn, token_within}
use Rattle.text.proofs.FirstByteLaws.{name_stops, name_whole, name_broken, letter_starts, no_name}
use Rattle.constraint.specs.declared.Operand.{Operand}
use Rattle.constraint.specs.File.{Variable}
use Rattle.constraint.specs.Read.{read_variable, read_constant, read_operand, next_operand}
use Rattle.text.specs.Scan.{token_at}
use Rattle.operand.specs.Internal.{taken_from}
use Rattle.operand.proofs.ConstantLaws.{letter_misspelt}

-- what a reading says of the token, and of the tokens behind it
module _ (read : Token → Reply Operand) (line : List ℕ) (start stop : ℕ) (h : stop ≡ past (is_of Solid) line start) where
  pub taken_refused : (r : Refusal) → Err r ≡ read (token_at (take stop line) start) → Err r ≡ taken_from read line start
  unfolding taken_from
  taken_refused r e = rw (← h, ← e)

  pub taken_read : (o : Operand) → Ok o ≡ read (token_at (take stop line) start) → Ok (o, tokens_from true stop (drop stop line)) ≡ taken_from read line start
  unfolding taken_from
  taken_read o e = rw (← h, ← e)

-- a name is a variable, any other token a constant
module _ (xs : List Variable) (t : Token) where
  operand_name : is_name t.bytes ≡ true → read_variable xs t ≡ read_operand xs t
  unfolding read_operand
  operand_name e = rw e

  operand_other : is_name t.bytes ≡ false → read_constant t ≡ read_operand xs t
  unfolding read_operand
  operand_other e = rw e

-- the first byte of a token
first_byte : (line : List ℕ) (start stop : ℕ) → start < stop → stop ≤ length line → drop start (take stop line) ≡ get_or line start 0 ∷ drop (suc start) (take stop line)
first_byte line start stop h k = drop-cons (take stop line) start 0 (omega (arith, length-take-le stop line k)) ∙ rw (get_or-take stop line start 0 h)

module _ (xs : List Variable) (line : List ℕ) (start : ℕ) (h : start < length line) where
  -- the token starts with a letter, and bytes of a name reach to `stop`
  module _ (a : is_letter (get_or line start 0) ≡ true) (stop : ℕ) (hs : stop ≡ past (is_of NameByte) line start) where
    module _ (e : ends_token (drop stop line) ≡ true) where
      name_read : read_variable xs (token_at (take stop line) start) ≡ read_operand xs (token_at (take stop line) start)
      name_read = operand_name xs (token_at (take stop line) start) (name_whole line start h a stop hs)

      pub named_refused : (r : Refusal) → Err r ≡ read_variable xs (token_at (take stop line) start) → Err r ≡ taken_from (read_operand xs) line start
      named_refused r q = taken_refused (read_operand xs) line start stop (name_stops line start h a stop hs e) r (q ∙ name_read)

      pub named_read : (o : Operand) → Ok o ≡ read_variable xs (token_at (take stop line) start) → Ok (o, tokens_from true stop (drop stop line)) ≡ taken_from (read_operand xs) line start
      named_read o q = taken_read (read_operand xs) line start stop (name_stops line start h a stop hs e) o (q ∙ name_read)

    pub named_broken : ends_token (drop stop line) ≡ false → Err (refusal Constraint Misspelt start) ≡ taken_from (read_operand xs) line start
    named_broken e =
        let end = past (is_of Solid) line start in
        let t = token_at (take end line) start in
        let b = first_byte line start end (letter_starts line start h a) (past_le (is_of Solid) line start (omega arith)) in
        taken_refused (read_operand xs) line start end refl _ (letter_misspelt t (get_or line start 0) _ b a ∙ operand_other xs t (name_broken line start h a stop hs e))

-- the next operand of a line: white space from i on ends at `start`
module _ (xs : List Variable) (line : List ℕ) (i start : ℕ) (hs : start ≡ past (is_of Space) line i) (h : start < length line) where
  pub next_taken : (l : TextLine) → taken_from (read_operand xs) line start ≡ next_operand xs l (tokens_from true i (drop i line))
  unfolding taken_from next_operand
  next_taken l = rw (tokens_turn line i start hs h (past (is_of Solid) line start) refl)

  pub next_constant : (l : TextLine) → is_letter (get_or line start 0) ≡ false → taken_from read_constant line start ≡ next_operand xs l (tokens_from true i (drop i line))
  unfolding taken_from next_operand
  next_constant l a =
      let end = past (is_of Solid) line start in
      let b = token_within line i start hs h end refl in
      rw (tokens_turn line i start hs h end refl, ← operand_other xs (token_at (take end line) start) (no_name line start h a end b.1 b.2))
