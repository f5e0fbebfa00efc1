-- A loop over the declarations of a `d` line, and what its stores leave in the table. Assumes nothing.
use mathlib.Core.Path.{◌≡◌, sym, ap, ◌∙◌}
use mathlib.Core.Bool.{true, false}
use mathlib.Core.List.{List, [], ◌∷◌, ◌++◌}
use Prim.Native.Nat.{ℕ, ◌+◌, ◌-◌, ◌≤◌, ◌<◌}
use native.Mathlib.Omega.{arith}
use lib.ListN.{length, take, drop, length-drop}
use lib.Seq.{take-take, length-take-le}
use Rattle.edition.specs.declared.Edition.{Edition}
use Rattle.edition.specs.Edition.{max_file_bytes, max_variables, max_name_bytes, max_width}
use Rattle.refusal.specs.declared.Refusal.{Refusal}
use Rattle.refusal.specs.declared.Subject.TheVariants.{Constraint}
use Rattle.refusal.specs.declared.Fault.TheVariants.{MisplacedLine, TokenCount}
use Rattle.refusal.specs.Result.{Reply, Ok, Err, refusal, ◌>>=◌}
use Rattle.refusal.proofs.ResultLaws.{never}
use Rattle.text.specs.Scan.{TypeRead}
use Rattle.text.specs.Lines.{Token, tokens_from}
use Rattle.text.proofs.RunLaws.{drop-take}
use Rattle.constraint.specs.File.{Variable, File, edition_of, with_variable, with_variables}
use Rattle.store.specs.Hash.{hash_of, bucket_of}
use Rattle.store.specs.Names.{Searchable, with_name}
use Rattle.store.specs.Tables.{length_unit, variables_in}
use Rattle.store.proofs.LookupLaws.{variables_length}
use Rattle.store.proofs.SearchLaws.{variables_more, searchable_more}
use Rattle.declaration.proofs.NewNameLaws.{FreshName}
use Rattle.declaration.specs.Internal.{declared_behind}
use Rattle.constraint.specs.Read.{in_header, declare, declare_all, read_declarations}
use Rattle.text.specs.Scan.{line_at}
use Rattle.text.proofs.TokenLaws.{arguments_at, end_at}

-- the bytes of a name in a line are those of the file
pub name_part : (file : List ℕ) (stop start end : ℕ) → start ≤ end → end ≤ stop → stop ≤ length file → drop start (take end (take stop file)) ≡ take (end - start) (drop start file)
name_part file stop start end h l m =
    let e : end ≡ start + (end - start) = omega arith in
    ap (drop start) (take-take end stop file l)
    ∙ ap (λ n. drop start (take n file)) e
    ∙ drop-take start (end - start) file (omega arith)

-- ---- a fresh name put into the table: it stands from `at` to `colon` in a line of the file that stops at `stop`
module _ (file : List ℕ) (stop at colon : ℕ) (a : at < stop) (b : at ≤ colon) (l : colon ≤ stop) (m : stop ≤ length file) (small : length file ≤ max_file_bytes) where
  abbrev name : List ℕ
  name = drop at (take colon (take stop file))

  module _ (table : List ℕ) (n width hash : ℕ) (type : TypeRead) (held : Searchable file table n) (sized : length table ≡ max_variables) (fresh : FreshName (variables_in file table n) name type width) where
    pub put_fits : (n < max_variables) × (at < length_unit) × (colon - at ≤ max_name_bytes)
    put_fits = (omega (arith, fresh.room, variables_length file table n), omega arith, omega (arith, fresh.short, length-drop at (take colon (take stop file)), length-take-le colon (take stop file) (omega (arith, length-take-le stop file m)), length-take-le stop file m))

    module _ (w : width ≤ max_width) (h : hash ≡ hash_of name) where
      abbrev after : List ℕ
      after = with_name table n at (colon - at) width (bucket_of hash)

      pub put_variables : variables_in file after (n + 1) ≡ variables_in file table n ++ (record { name = name; width = width } ∷ [])
      put_variables =
          let f = put_fits in
          rw (name_part file stop at colon b l m) (variables_more file table n at (colon - at) width hash held sized f.0 f.1 f.2 w)

      pub put_searchable : Searchable file after (n + 1)
      put_searchable =
          let f = put_fits in
          let q = name_part file stop at colon b l m in
          searchable_more file table n at (colon - at) width hash held sized f.0 f.1 f.2 w (omega arith) (h ∙ ap hash_of q) (rw q at fresh.new)

-- ---- the loop: what is left to declare, from what is held, is what there was to declare
pub record Declaring (file : List ℕ) (stop at : ℕ) (table₀ : List ℕ) (n : ℕ) (table : List ℕ) (k i : ℕ) : Type 0 where
  pub within : i ≤ stop
  pub few : k ≤ max_variables
  pub whole : length table ≡ max_variables
  pub held : Searchable file table k
  pub rest : (f : File) → f.variables ≡ variables_in file table₀ n → declare_all (with_variables f (variables_in file table k)) (tokens_from true i (drop i (take stop file))) ≡ declare_all f (tokens_from true at (drop at (take stop file)))

pub declaring_starts : (file : List ℕ) (stop at : ℕ) (table : List ℕ) (n : ℕ) → at ≤ stop → n ≤ max_variables → length table ≡ max_variables → Searchable file table n → Declaring file stop at table n table n at
declaring_starts file stop at table n a b c d = record {
  within = a;
  few = b;
  whole = c;
  held = d;
  rest = λ f v. ap (λ xs. declare_all (with_variables f xs) (tokens_from true at (drop at (take stop file)))) (sym v);
}

-- one declaration, by what it makes of the variables
module _ (f : File) (xs : List Variable) (t : Token) (ts : List Token) where
  declare_one : (ys : List Variable) → Ok ys ≡ declared_behind (edition_of f) xs t → declare_all (with_variables f xs) (t ∷ ts) ≡ declare_all (with_variables f ys) ts
  unfolding declare_all
  declare_one ys = go (declare (edition_of f) xs t)
    where
      go : (d : Reply Variable) → Ok ys ≡ (d >>= λ x. Ok (xs ++ (x ∷ []))) → (d >>= λ x. declare_all (with_variable (with_variables f xs) x) ts) ≡ declare_all (with_variables f ys) ts
      go (Ok x) e = let q : ys ≡ xs ++ (x ∷ []) = cc e in ap (λ zs. declare_all (with_variables f zs) ts) (sym q)
      go (Err r) e = never (cc e)

  declare_none : (r : Refusal) → Err r ≡ declared_behind (edition_of f) xs t → declare_all (with_variables f xs) (t ∷ ts) ≡ Err r
  unfolding declare_all
  declare_none r = go (declare (edition_of f) xs t)
    where
      go : (d : Reply Variable) → Err r ≡ (d >>= λ x. Ok (xs ++ (x ∷ []))) → (d >>= λ x. declare_all (with_variable (with_variables f xs) x) ts) ≡ Err r
      go (Ok x) e = never (cc e)
      go (Err q) e = let z : r ≡ q = cc e in ap Err (sym z)

module _ {file : List ℕ} {stop at : ℕ} {table₀ : List ℕ} {n : ℕ} {table : List ℕ} {k i : ℕ} (inv : Declaring file stop at table₀ n table k i) where
  -- no token is left
  pub declaring_done : tokens_from true i (drop i (take stop file)) ≡ [] → (f : File) → f.variables ≡ variables_in file table₀ n → Ok (with_variables f (variables_in file table k)) ≡ declare_all f (tokens_from true at (drop at (take stop file)))
  unfolding declare_all
  declaring_done e f v = rw e at (inv.rest f v)

  -- the next declaration is refused, or put into the table
  module _ (t : Token) (ts : List Token) (e : tokens_from true i (drop i (take stop file)) ≡ t ∷ ts) where
    pub declaring_fault : (r : Refusal) → ((d : Edition) → Err r ≡ declared_behind d (variables_in file table k) t) → (f : File) → f.variables ≡ variables_in file table₀ n → Err r ≡ declare_all f (tokens_from true at (drop at (take stop file)))
    declaring_fault r d f v = sym (declare_none f (variables_in file table k) t ts r (d (edition_of f))) ∙ rw e at (inv.rest f v)

  pub declaring_more : (t : Token) (end : ℕ) (table₂ : List ℕ) → tokens_from true i (drop i (take stop file)) ≡ t ∷ tokens_from true end (drop end (take stop file)) → end ≤ stop → k < max_variables → length table₂ ≡ max_variables → Searchable file table₂ (k + 1)
      → ((d : Edition) → Ok (variables_in file table₂ (k + 1)) ≡ declared_behind d (variables_in file table k) t)
      → Declaring file stop at table₀ n table₂ (k + 1) end
  declaring_more t end table₂ e l room whole held d = record {
    within = l;
    few = omega arith;
    whole = whole;
    held = held;
    rest = λ f v. sym (declare_one f (variables_in file table k) t _ (variables_in file table₂ (k + 1)) (d (edition_of f))) ∙ rw e at (inv.rest f v);
  }

-- ---- a `d` line by its tokens
module _ (f : File) (line : List ℕ) (at next : ℕ) where
  pub declarations_misplaced : in_header f ≡ false → Err (refusal Constraint MisplacedLine at) ≡ read_declarations f (line_at line at next)
  unfolding read_declarations
  declarations_misplaced e = rw e

  module _ (e : in_header f ≡ true) where
    pub declarations_missing : at ≤ length line → tokens_from true (at + 1) (drop (at + 1) line) ≡ [] → Err (refusal Constraint TokenCount (length line)) ≡ read_declarations f (line_at line at next)
    unfolding read_declarations
    declarations_missing h ts = rw (e, arguments_at line at next, ts, end_at line at next h)

    pub declarations_read : (t : Token) (ts : List Token) → tokens_from true (at + 1) (drop (at + 1) line) ≡ t ∷ ts → declare_all f (tokens_from true (at + 1) (drop (at + 1) line)) ≡ read_declarations f (line_at line at next)
    unfolding read_declarations
    declarations_read t ts k = rw (e, arguments_at line at next, k)
