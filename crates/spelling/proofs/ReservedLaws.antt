-- The spellings that are names are the reserved words. Assumes nothing.
use Prim.Native.Nat.{ℕ}
use Prim.Native.String.{String}
use mathlib.Core.Path.{◌≡◌, refl, ap, ◌∙◌}
use mathlib.Core.Bool.{Bool, true, false, cond}
use mathlib.Core.List.{List, [], ◌∷◌}
use Rattle.std.specs.Prelude.{Some}
use Rattle.edition.specs.declared.Edition.{Edition}
use Rattle.std.specs.Prelude.{is_some}
use Rattle.refusal.specs.Lists.{every}
use Rattle.refusal.specs.SubjectWords.{ascii}
use Rattle.refusal.proofs.ResultLaws.{never}
use Rattle.arithmetic.specs.declared.Operator.{Operator}
use Rattle.text.specs.Bytes.{same, is_letter, is_digit, is_name_byte}
use Rattle.text.specs.Spelling.{is_name}
use Rattle.text.proofs.NameLaws.{same_true}
use Rattle.spelling.specs.Operators.{bitwise_spellings, predicate_spellings, arithmetic_spellings, shift_and_cast_spellings, spellings, operator_spelt, reserved_words, is_one_of_words}
use Rattle.spelling.specs.Claims.{ReservedExactly}

-- the spellings of a table that are names
unfoldable name_words : List (String × Operator) → List String
name_words [] = []
name_words (x ∷ xs) = let rest = name_words xs in cond (is_name (ascii x.0)) (x.0 ∷ rest) rest

-- a name is spelt in a table exactly where it is one of these
name_spelt : (s : List ℕ) → is_name s ≡ true → (xs : List (String × Operator)) → is_some (operator_spelt s xs) ≡ is_one_of_words s (name_words xs)
unfolding operator_spelt name_words is_one_of_words
name_spelt s h [] = refl
name_spelt s h (x ∷ xs) = go (is_name (ascii x.0)) refl (same (ascii x.0) s) refl (name_spelt s h xs)
  where
    go : (n : Bool) → is_name (ascii x.0) ≡ n → (t : Bool) → same (ascii x.0) s ≡ t → is_some (operator_spelt s xs) ≡ is_one_of_words s (name_words xs) → is_some (cond t (Some x.1) (operator_spelt s xs)) ≡ is_one_of_words s (cond n (x.0 ∷ name_words xs) (name_words xs))
    go true e true d ih = rw d
    go true e false d ih = rw d ih
    go false e true d ih = never (cc (e, h, ap is_name (same_true _ s d)))
    go false e false d ih = ih

-- they are the words that are listed
listed : (e : Edition) → name_words (spellings e) ≡ reserved_words e
unfolding name_words spellings bitwise_spellings predicate_spellings arithmetic_spellings shift_and_cast_spellings reserved_words is_name every is_letter is_digit is_name_byte
listed e = refl

pub reserved_exactly : ReservedExactly
reserved_exactly e s h = name_spelt s h (spellings e) ∙ ap (is_one_of_words s) (listed e)
