-- The only spelling that a text is compared with, the one that has its key. Assumes nothing.
use Prim.Native.Nat.{ℕ, zero, suc, ◌-◌, ◌≤◌, ◌<◌}
use Prim.Native.String.{String}
use native.Mathlib.Omega.{arith}
use mathlib.Core.Path.{◌≡◌, refl, sym, ap, ◌∙◌}
use mathlib.Core.Bool.{Bool, true, false, cond, ◌&&◌}
use mathlib.Core.List.{List, [], ◌∷◌, map}
use lib.Dec.{leb, ltb}
use lib.ListN.{length, get_or, take, drop, length-map}
use Rattle.std.proofs.lemmas.List.{length-drop, take_all}
use borrow.Author.Tests.{eqb-true, leb-true, ltb-true}
use Rattle.std.specs.Prelude.{Option, Some, None}
use Rattle.std.specs.Borrow.{Bor}
use Rattle.edition.specs.declared.Edition.{Edition}
use Rattle.arithmetic.specs.declared.Operator.{Operator}
use Rattle.arithmetic.specs.Numbering.{operator_number, operator_numbered}
use Rattle.arithmetic.proofs.NumberLaws.{give_back}
use Rattle.refusal.specs.Lists.{every}
use Rattle.refusal.specs.SubjectWords.{ascii}
use Rattle.refusal.proofs.BoolLaws.{and_true}
use Rattle.refusal.proofs.ListLaws.{every_get}
use Rattle.refusal.proofs.ResultLaws.{never}
use Rattle.text.specs.Bytes.{same}
use Rattle.spelling.specs.Internal.{longest, keys, key_of, spelt_at, spelt_by_key, is_numbered, is_found, spelling_entry, FindByKeys}
use Rattle.spelling.specs.Operators.{operator_spelt, operator_named, spellings, bitwise_spellings, predicate_spellings, arithmetic_spellings, shift_and_cast_spellings}
use Rattle.spelling.proofs.SpellsLaws.{spelt_by}

-- where a text spells nothing
pub spells_none : (e : Edition) (s : List ℕ) → ((op : Operator) → operator_named e s ≡ Some op → ⊥) → None ≡ operator_named e s
spells_none e s h = go (operator_named e s) refl
  where
    go : (o : Option Operator) → operator_named e s ≡ o → None ≡ o
    go None q = refl
    go (Some op) q = absurd (h op q)

-- ---- the length of a spelling
abbrev is_short : String × Operator → Bool
is_short x = leb 1 (length (ascii x.0)) && leb (length (ascii x.0)) longest

all_short : (e : Edition) → every is_short (spellings e) ≡ true
unfolding every spellings bitwise_spellings predicate_spellings arithmetic_spellings shift_and_cast_spellings
all_short e = refl

pub spelling_short : (e : Edition) (s : List ℕ) (op : Operator) → operator_named e s ≡ Some op → (1 ≤ length s) × (length s ≤ longest)
spelling_short e s op q =
    let y = spelt_by is_short s op (spellings e) (all_short e) q in
    let p = and_true (leb 1 (length s)) (leb (length s) longest) (rw y.spells at y.passes) in
    (leb-true 1 (length s) p.0, leb-true (length s) longest p.1)

-- ---- the operator at a place of a table
abbrev pub seen_entry : Bor (List ℕ) × Operator → List ℕ × Operator
seen_entry x = (x.0.now, x.1)

pub at_place : (s : List ℕ) (table : List (Bor (List ℕ) × Operator)) (i : ℕ) (d : Bor (List ℕ) × Operator) → i < length table → spelt_at s (map seen_entry table) i ≡ cond (same (get_or table i d).0.now s) (Some (get_or table i d).1) None
unfolding spelt_at
at_place s [] i d h = absurd (omega (arith, h))
at_place s (x ∷ xs) zero d h = refl
at_place s (x ∷ xs) (suc i) d h = at_place s xs i d (omega (arith, h))

-- what is spelt at a place is spelt in the table
nowhere : (s : List ℕ) (xs : List (String × Operator)) (i : ℕ) → operator_spelt s xs ≡ None → spelt_at s (map spelling_entry xs) i ≡ None
unfolding operator_spelt spelt_at
nowhere s [] i q = refl
nowhere s (x ∷ xs) i q = go i (same (ascii x.0) s) refl q (nowhere s xs)
  where
    go : (i : ℕ) (t : Bool) → same (ascii x.0) s ≡ t → cond t (Some x.1) (operator_spelt s xs) ≡ None → ((k : ℕ) → operator_spelt s xs ≡ None → spelt_at s (map spelling_entry xs) k ≡ None) → spelt_at s (map spelling_entry (x ∷ xs)) i ≡ None
    go i true k q later = never (cc q)
    go zero false k q later = rw k
    go (suc i) false k q later = later i q

-- ---- tables that find by keys
is_operator : (op : Operator) (o : Option Operator) → is_numbered (operator_number op) o ≡ true → o ≡ Some op
is_operator op None q = never (cc q)
is_operator op (Some found) q = ap Some (sym (give_back found) ∙ ap operator_numbered (eqb-true (operator_number found) (operator_number op) q) ∙ give_back op)

module _ (ns : List ℕ) (ys : List (List ℕ × Operator)) (f : FindByKeys ns ys) (e : Edition) (s : List ℕ) where
  pub found_by_key : spelt_by_key ns ys s ≡ operator_named e s
  found_by_key = go (operator_named e s) refl
    where
      go : (o : Option Operator) → operator_named e s ≡ o → spelt_by_key ns ys s ≡ o
      go None q = rw (f.listed e) (nowhere s (spellings e) (get_or ns (key_of s) 0) q)
      go (Some op) q =
          let y = spelt_by (is_found ns ys) s op (spellings e) (f.found e) q in
          is_operator op (spelt_by_key ns ys s) (rw (y.spells, y.is) at y.passes)

  pub place_below : key_of s < keys → get_or ns (key_of s) 0 < length ys
  place_below h = ltb-true (get_or ns (key_of s) 0) (length ys) (every_get (λ n. ltb n (length ys)) 0 ns (key_of s) f.placed (rw f.keyed h))

-- the same of the bytes from `at` to the end, by the key that code made of them
module _ (ns : List ℕ) (table : List (Bor (List ℕ) × Operator)) (f : FindByKeys ns (map seen_entry table)) (e : Edition) (text : List ℕ) (at k : ℕ) (q : k ≡ key_of (take (length text - at) (drop at text))) (h : k < keys) where
  whole_key : k ≡ key_of (drop at text)
  whole_key = q ∙ ap key_of (take_all (length text - at) (drop at text) (omega (arith, length-drop at text)))

  pub number_below : get_or ns k 0 < length table
  number_below = rw (sym (length-map table seen_entry)) (rw whole_key (place_below ns (map seen_entry table) f e (drop at text) (rw (sym whole_key) h)))

  pub word_decides : (d : Bor (List ℕ) × Operator) (t : Bool) → t ≡ same (get_or table (get_or ns k 0) d).0.now (drop at text) → cond t (Some (get_or table (get_or ns k 0) d).1) None ≡ operator_named e (drop at text)
  word_decides d t p =
      let s = drop at text in
      rw p (sym (at_place s table (get_or ns k 0) d number_below) ∙ ap (λ n. spelt_at s (map seen_entry table) (get_or ns n 0)) whole_key ∙ found_by_key ns (map seen_entry table) f e s)
