-- Declaring a name, by what the code finds of it. Assumes nothing.
use Prim.Native.Nat.{ℕ, ◌-◌, ◌≤◌, ◌<◌}
use Prim.Native.Char.{code}
use mathlib.Core.Path.{◌≡◌, refl, ap, sym, ◌∙◌}
use mathlib.Core.Bool.{Bool, true, false, cond, not, ◌&&◌}
use mathlib.Core.List.{List, [], ◌∷◌, ◌++◌, append_assoc}
use Rattle.std.specs.Prelude.{None, Some, Result}
use native.Mathlib.Omega.{arith}
use lib.Dec.{eqb, leb, ltb}
use lib.ListN.{length, get_or, take, drop, length-drop}
use borrow.Author.Tests.{le-leb, lt-leb, lt-ltb, le-ltb, leb-true, ltb-true, eqb-true}
use Rattle.edition.specs.declared.Edition.{Edition}
use Rattle.edition.specs.Edition.{max_variables, max_name_bytes, max_width, is_width}
use Rattle.refusal.specs.declared.Fault.{Fault}
use Rattle.refusal.specs.declared.Fault.TheVariants.{Misspelt, NotAWidth, OverLimit, NameTaken}
use Rattle.std.specs.Prelude.{is_some}
use Rattle.refusal.specs.Lists.{every}
use Rattle.refusal.specs.Result.{Ok, Err, ensure, ◌>>◌}
use Rattle.refusal.proofs.BoolLaws.{and_true, and_false}
use Rattle.refusal.proofs.ListLaws.{not_there}
use Rattle.refusal.proofs.ResultLaws.{never}
use Rattle.text.specs.declared.Class.TheVariants.{Solid, NameByte}
use Rattle.text.specs.declared.TypeError.TheVariants.{NoWidth, NoType}
use Rattle.text.specs.Bytes.{front_of, is_letter, is_digit, is_name_byte}
use Rattle.text.specs.Lines.{Token}
use Rattle.text.specs.Spelling.{is_name, is_type, type_width, up_to, behind}
use Rattle.text.specs.Scan.{is_of, past, TypeRead, type_of, type_behind_colon}
use Rattle.text.proofs.RunLaws.{run_part, strict_split, strict_rest}
use Rattle.text.proofs.SeenLaws.{name_bytes}
use Rattle.text.proofs.PartLaws.{first_fails, part_front, part_behind, part_bare, part_broken}
use Rattle.text.proofs.FirstByteLaws.{name_solid, name_whole, not_bytes, no_name_part}
use Rattle.constraint.specs.File.{Variable, variable_named}
use Rattle.spelling.specs.Operators.{is_reserved}
use Rattle.constraint.specs.Read.{in_constraint, declare}
use Rattle.text.specs.Scan.{token_from}
use Rattle.declaration.specs.Internal.{declaration_result, new_name, declaration_of}

-- ---- a new name, from a place to the end of a text
module _ (e : Edition) (xs : List Variable) (text : List ℕ) (start k n : ℕ) (l : length xs ≡ n) where
  pub new_long : max_name_bytes < length text - start → Err OverLimit ≡ new_name e xs (drop start text) k
  unfolding new_name
  new_long h = rw (length-drop, lt-leb (length text - start) max_name_bytes h)

  module _ (short : length text - start ≤ max_name_bytes) where
    pub new_full : max_variables ≤ n → Err OverLimit ≡ new_name e xs (drop start text) k
    unfolding new_name
    new_full h = rw (length-drop, le-leb (length text - start) max_name_bytes short, l, le-ltb n max_variables h)

    module _ (room : n < max_variables) where
      pub new_reserved : is_reserved e (drop start text) ≡ true → Err NameTaken ≡ new_name e xs (drop start text) k
      unfolding new_name
      new_reserved h = rw (length-drop, le-leb (length text - start) max_name_bytes short, l, lt-ltb n max_variables room, h)

      module _ (free : is_reserved e (drop start text) ≡ false) where
        pub new_declared : (i : ℕ) → Some i ≡ variable_named (drop start text) xs → Err NameTaken ≡ new_name e xs (drop start text) k
        unfolding new_name
        new_declared i h = rw (length-drop, le-leb (length text - start) max_name_bytes short, l, lt-ltb n max_variables room, free, ← h)

        pub new_fresh : None ≡ variable_named (drop start text) xs → Ok k ≡ new_name e xs (drop start text) k
        unfolding new_name
        new_fresh h = rw (length-drop, le-leb (length text - start) max_name_bytes short, l, lt-ltb n max_variables room, free, ← h)

-- ---- a declaration, by its parts
-- the tests, whatever they say
split : (t : Token) (name : List ℕ) (k : ℕ) (type width small free : Bool) → declaration_result t name (declaration_of (cond type (cond width (Ok k) (Err NoWidth)) (Err NoType)) (λ k. cond small (cond free (Ok k) (Err NameTaken)) (Err OverLimit))) ≡ (do
  ensure type (in_constraint t Misspelt)
  ensure width (in_constraint t NotAWidth)
  ensure small (in_constraint t OverLimit)
  ensure free (in_constraint t NameTaken)
  Ok (record { name = name; width = k }))
split t name k false width small free = refl
split t name k true false small free = refl
split t name k true true false free = refl
split t name k true true true false = refl
split t name k true true true true = refl

colon_no_name : is_name_byte 58 ≡ false
unfolding is_name_byte is_letter is_digit
colon_no_name = refl

module _ (e : Edition) (xs : List Variable) (t : Token) where
  declare_is : let name = up_to (code ":") t.bytes in is_name name ≡ true → declaration_result t name (declaration_of (type_of (behind (code ":") t.bytes)) (new_name e xs name)) ≡ declare e xs t
  unfolding declare type_of new_name
  declare_is named =
      let name = up_to (code ":") t.bytes in
      let type = behind (code ":") t.bytes in
      rw named (split t name (type_width type) (is_type type) (is_width (type_width type)) (leb (length name) max_name_bytes && ltb (length xs) max_variables) (not (is_reserved e name) && not (is_some (variable_named name xs))))

  -- no name, or no type
  misspelt_name : is_name (up_to (code ":") t.bytes) ≡ false → Err (in_constraint t Misspelt) ≡ declare e xs t
  unfolding declare
  misspelt_name f = rw f

  misspelt_type : behind (code ":") t.bytes ≡ [] → Err (in_constraint t Misspelt) ≡ declare e xs t
  unfolding declare is_type
  misspelt_type f = rw (f, and_false (is_name (up_to (code ":") t.bytes)))

  -- a token of a name and what stands behind it, which starts with no byte of a name
  parts_declared : (name rest : List ℕ) → is_name name ≡ true → t.bytes ≡ name ++ rest → front_of is_name_byte rest ≡ [] → declaration_result t name (declaration_of (type_behind_colon rest) (new_name e xs name)) ≡ declare e xs t
  unfolding type_behind_colon
  parts_declared name [] named q r = misspelt_type (ap (behind 58) q ∙ part_bare is_name_byte 58 colon_no_name name (name_bytes name named))
  parts_declared name (b ∷ s) named q r = go (eqb b 58) refl
    where
      bytes : every is_name_byte name ≡ true
      bytes = name_bytes name named

      go : (c : Bool) → eqb b 58 ≡ c → declaration_result t name (declaration_of (cond c (type_of s) (Err NoType)) (new_name e xs name)) ≡ declare e xs t
      go true c =
          let z : t.bytes ≡ name ++ (58 ∷ []) ++ s = q ∙ ap (λ (x : ℕ). name ++ x ∷ s) (eqb-true b 58 c) ∙ sym (append_assoc name (58 ∷ []) s) in
          let front : up_to 58 t.bytes ≡ name = ap (up_to 58) z ∙ part_front is_name_byte 58 colon_no_name name bytes s in
          let back : behind 58 t.bytes ≡ s = ap (behind 58) z ∙ part_behind is_name_byte 58 colon_no_name name bytes s in
          rw (front, back) at (declare_is (ap is_name front ∙ named))
      go false c = misspelt_name (ap (λ s. is_name (up_to 58 s)) q ∙ not_bytes (up_to 58 (name ++ b ∷ s)) (part_broken is_name_byte 58 colon_no_name name bytes b s (first_fails is_name_byte b s r) c))

-- the token that starts at a place of a line
module _ (e : Edition) (xs : List Variable) (line : List ℕ) (start : ℕ) (h : start < length line) where
  pub declared_not : is_letter (get_or line start 0) ≡ false → Err (in_constraint (token_from line start) Misspelt) ≡ declare e xs (token_from line start)
  declared_not a = misspelt_name e xs (token_from line start) (no_name_part line start h a (code ":"))

  -- a name reaches to `stop`
  module _ (a : is_letter (get_or line start 0) ≡ true) (stop : ℕ) (hs : stop ≡ past (is_of NameByte) line start) where
    pub declared_by : (type : TypeRead) → type ≡ type_behind_colon (front_of (is_of Solid) (drop stop line)) → let name = drop start (take stop line) in declaration_result (token_from line start) name (declaration_of type (new_name e xs name)) ≡ declare e xs (token_from line start)
    unfolding is_of
    declared_by type k =
        let l : start ≤ length line = omega arith in
        let part = run_part (is_of NameByte) line start l ∙ ap (λ n. drop start (take n line)) (sym hs) in
        rw k (parts_declared e xs (token_from line start) (drop start (take stop line)) (front_of (is_of Solid) (drop stop line)) (name_whole line start h a stop hs) (sym (run_part (is_of Solid) line start l) ∙ strict_split (is_of NameByte) (is_of Solid) name_solid line start stop l hs ∙ ap (λ s. s ++ front_of (is_of Solid) (drop stop line)) part) (strict_rest (is_of NameByte) (is_of Solid) name_solid line start stop l hs))

-- ---- a declaration that is fresh
fresh_other : {A : Type 0} {k : ℕ} {fault : Fault} → ◌≡◌ {A = Result ℕ Fault} (Ok k) (Err fault) → A
fresh_other e = never (cc e)

pub record FreshName (xs : List Variable) (name : List ℕ) (type : TypeRead) (k : ℕ) : Type 0 where
  pub short : length name ≤ max_name_bytes
  pub room : length xs < max_variables
  pub new : variable_named name xs ≡ None
  pub typed : type ≡ Ok k

module _ (e : Edition) (xs : List Variable) (name : List ℕ) (k : ℕ) where
  new_is_fresh : (j : ℕ) → Ok k ≡ new_name e xs name j → FreshName xs name (Ok j) k
  unfolding new_name
  new_is_fresh j = go (leb (length name) max_name_bytes && ltb (length xs) max_variables) (not (is_reserved e name) && not (is_some (variable_named name xs))) refl refl
    where
      go : (small free : Bool) → (leb (length name) max_name_bytes && ltb (length xs) max_variables) ≡ small → (not (is_reserved e name) && not (is_some (variable_named name xs))) ≡ free → Ok k ≡ cond small (cond free (Ok j) (Err NameTaken)) (Err OverLimit) → FreshName xs name (Ok j) k
      go true true s f q =
          let p = and_true (leb (length name) max_name_bytes) (ltb (length xs) max_variables) s in
          record {
            short = leb-true (length name) max_name_bytes p.0;
            room = ltb-true (length xs) max_variables p.1;
            new = not_there (variable_named name xs) (and_true (not (is_reserved e name)) (not (is_some (variable_named name xs))) f).1;
            typed = cc q;
          }
      go true false s f q = fresh_other q
      go false free s f q = fresh_other q

  pub fresh_is : (type : TypeRead) → Ok k ≡ declaration_of type (new_name e xs name) → FreshName xs name type k
  fresh_is (Err NoType) q = fresh_other q
  fresh_is (Err NoWidth) q = fresh_other q
  fresh_is (Ok j) q = new_is_fresh j q

-- a width that is read is within the limit
abbrev WidthFits : TypeRead → Type 0
WidthFits (Ok k) = k ≤ max_width
WidthFits (Err NoWidth) = Unit {0}
WidthFits (Err NoType) = Unit {0}

fits_split : (colon type width : Bool) (k : ℕ) → (width ≡ true → k ≤ max_width) → WidthFits (cond colon (cond type (cond width (Ok k) (Err NoWidth)) (Err NoType)) (Err NoType))
fits_split true true true k h = h refl
fits_split true true false k h = tt
fits_split true false width k h = tt
fits_split false type width k h = tt

type_fits : (s : List ℕ) → WidthFits (type_behind_colon s)
unfolding type_behind_colon type_of is_width
type_fits [] = tt
type_fits (b ∷ s) = fits_split (eqb b (code ":")) (is_type s) _ (type_width s) (λ e. leb-true (type_width s) max_width (and_true (leb 1 (type_width s)) (leb (type_width s) max_width) e).1)

pub width_fits : (s : List ℕ) (type : TypeRead) → type ≡ type_behind_colon s → (k : ℕ) → type ≡ Ok k → k ≤ max_width
width_fits s type e k q = rw (← e, q) at (type_fits s)
