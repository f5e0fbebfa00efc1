-- The claims about spellings.
use Rattle.std.specs.Prelude.{ℕ, ◌≡◌, true, ◌↔◌, List}
use Rattle.std.specs.Prelude.{Some}
use Rattle.edition.specs.declared.Edition.{Edition}
use Rattle.arithmetic.specs.declared.Operator.{Operator}
use Rattle.text.specs.Spelling.{is_name}
use Rattle.spelling.specs.Operators.{operator_named, spelling_of, is_reserved, reserved_words, is_one_of_words}

-- among names, exactly the 14 words are reserved
abbrev pub ReservedExactly : Type 0
ReservedExactly = (e : Edition) (s : List ℕ) → is_name s ≡ true → is_reserved e s ≡ is_one_of_words s (reserved_words e)

-- reading a spelling and spelling an operator are inverse: a text spells an operator exactly when it is the operator's spelling
abbrev pub SpellsExactly : Type 0
SpellsExactly = (e : Edition) (op : Operator) (s : List ℕ) → (operator_named e s ≡ Some op) ↔ (s ≡ spelling_of e op)
