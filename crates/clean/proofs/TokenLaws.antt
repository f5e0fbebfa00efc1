-- Tokens: their lengths, and their pieces put one behind another. Assumes nothing.
use Prim.Native.Nat.{ℕ, ◌+◌, ◌%◌, ◌≤◌, ◌<◌}
use mathlib.Core.Path.{◌≡◌, refl, ap, ◌∙◌}
use mathlib.Core.Bool.{Bool, true, false}
use mathlib.Core.List.{List, [], ◌∷◌, ◌++◌, flat_map}
use native.Mathlib.Omega.{arith}
use lib.Dec.{leb}
use lib.ListN.{length, take, drop, length-append}
use borrow.Author.Tests.{eq-eqb, ne_eqb, lt-ltb, le-ltb, leb-true, leb-false}
use Rattle.refusal.specs.SubjectWords.{ascii}
use Rattle.constraint.specs.File.{Variable, name_at}
use Rattle.store.specs.Tables.{variable_mark, name_start, name_length, word_width, variable_of, head_width, operand_of}
use Rattle.printing.specs.Digits.{digits}
use Rattle.printing.specs.Room.{Put}
use Rattle.printing.proofs.PlaceLaws.{put_none, put_then}
use Rattle.clean_text.specs.Text.{type_text, declaration_text, constant_text, operand_tokens, spaced}
use Rattle.clean.proofs.JoinedLaws.{spaced_one}

-- ---- a type
module _ (k : ℕ) where
  pub type_length : length (type_text k) ≡ 2 + length (digits k)
  unfolding type_text
  type_length = omega arith

  pub put_type : {room : List ℕ} {at : ℕ} → at + length (type_text k) ≤ length room
      → {end end' : ℕ} {room' room'' : List ℕ} → Put (ascii ":i") room at end room' → Put (digits k) room' end end' room'' → Put (type_text k) room at end' room''
  unfolding type_text
  put_type h p q = put_then h p q

-- ---- a declaration, behind a space
module _ (file : List ℕ) (word : ℕ) where
  abbrev name : List ℕ
  name = take (name_length word) (drop (name_start word) file)

  abbrev text : List ℕ
  text = ascii " " ++ declaration_text (variable_of file word)

  pub declaration_length : length text ≡ 1 + length name + length (type_text (word_width word))
  unfolding declaration_text variable_of
  declaration_length = omega (arith, length-append name (type_text (word_width word)))

  pub put_declaration : {room : List ℕ} {at : ℕ} → at + length text ≤ length room
      → {end₁ end₂ end₃ : ℕ} {room₁ room₂ room₃ : List ℕ}
      → Put (ascii " ") room at end₁ room₁ → Put name room₁ end₁ end₂ room₂ → Put (type_text (word_width word)) room₂ end₂ end₃ room₃
      → Put text room at end₃ room₃
  unfolding declaration_text variable_of
  put_declaration h p q r = let l = declaration_length in put_then h (put_then (omega arith) p q) r

-- ---- an operand, behind a space if it is there
module _ (xs : List Variable) where
  abbrev operand_text : ℕ → ℕ → List ℕ
  operand_text head body = spaced (operand_tokens xs (operand_of head body))

  module _ (head body : ℕ) where
    pub put_absent : head ≡ 0 → (room : List ℕ) (at : ℕ) → Put (operand_text head body) room at at room
    unfolding operand_of operand_tokens spaced flat_map
    put_absent e room at = rw (eq-eqb head 0 e) (put_none room at)

    module _ (h : ¬ (head ≡ 0)) where
      -- a variable's name
      module _ (k : leb variable_mark head ≡ true) where
        named_text : operand_text head body ≡ ascii " " ++ name_at xs body
        unfolding operand_of operand_tokens
        named_text = rw (ne_eqb head 0 h, le-ltb head variable_mark (leb-true variable_mark head k)) (spaced_one (name_at xs body))

        pub named_length : length (operand_text head body) ≡ 1 + length (name_at xs body)
        named_length = ap length named_text ∙ omega arith

        pub put_named : {room : List ℕ} {at : ℕ} → at + length (operand_text head body) ≤ length room
            → {end end' : ℕ} {room' room'' : List ℕ} → Put (ascii " ") room at end room' → Put (name_at xs body) room' end end' room'' → Put (operand_text head body) room at end' room''
        put_named r p q = rw named_text (put_then (rw named_text at r) p q)

      -- a constant
      module _ (k : leb variable_mark head ≡ false) where
        constant_text_lem : operand_text head body ≡ ascii " " ++ digits body ++ type_text (head_width head)
        unfolding operand_of operand_tokens constant_text head_width
        constant_text_lem =
            let l : head < variable_mark = leb-false variable_mark head k in
            let e : head % variable_mark ≡ head = omega arith in
            rw (ne_eqb head 0 h, lt-ltb head variable_mark l, e) (spaced_one (digits body ++ type_text head))

        pub constant_length : length (operand_text head body) ≡ 1 + length (digits body) + length (type_text (head_width head))
        constant_length = ap length constant_text_lem ∙ omega (arith, length-append (digits body) (type_text (head_width head)))

        pub put_constant : {room : List ℕ} {at : ℕ} → at + length (operand_text head body) ≤ length room
            → {end₁ end₂ end₃ : ℕ} {room₁ room₂ room₃ : List ℕ}
            → Put (ascii " ") room at end₁ room₁ → Put (digits body) room₁ end₁ end₂ room₂ → Put (type_text (head_width head)) room₂ end₂ end₃ room₃
            → Put (operand_text head body) room at end₃ room₃
        put_constant r p q t = rw constant_text_lem (put_then (rw constant_text_lem at r) (put_then (omega (arith, constant_length)) p q) t)

      -- the space at least
      pub operand_some : 1 ≤ length (operand_text head body)
      operand_some = go (leb variable_mark head) refl
        where
          go : (b : Bool) → leb variable_mark head ≡ b → 1 ≤ length (operand_text head body)
          go true k = omega (arith, named_length k)
          go false k = omega (arith, constant_length k)

-- ---- an operator, behind a space
module _ (s : List ℕ) where
  pub operator_length : length (spaced (s ∷ [])) ≡ 1 + length s
  operator_length = ap length (spaced_one s) ∙ omega arith

  pub put_operator : {room : List ℕ} {at : ℕ} → at + length (spaced (s ∷ [])) ≤ length room
      → {end end' : ℕ} {room' room'' : List ℕ} → Put (ascii " ") room at end room' → Put s room' end end' room'' → Put (spaced (s ∷ [])) room at end' room''
  put_operator r p q = rw (spaced_one s) (put_then (rw (spaced_one s) at r) p q)
