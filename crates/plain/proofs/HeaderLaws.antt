-- The header: it is read as what it spells, and as nothing else. Assumes nothing.
use Prim.Native.Nat.{ℕ, ◌≤◌}
use Prim.Native.Char.{code}
use mathlib.Core.Path.{◌≡◌, refl, sym, ap, subst, ◌∙◌}
use mathlib.Core.Bool.{true, false, not, ◌&&◌}
use mathlib.Core.List.{List, [], ◌∷◌, ◌++◌, flat_map, append-nil, append_assoc, nil≢cons, cons≢nil, head-eq_of_cons-eq, tail-eq_of_cons-eq}
use Rattle.std.specs.Prelude.{Option, None, Some}
use native.Mathlib.Omega.{arith}
use lib.ListN.{length, length-append}
use Rattle.edition.specs.declared.Edition.{Edition}
use Rattle.edition.specs.Edition.{max_variables, max_lines}
use Rattle.std.specs.Prelude.{is_some}
use Rattle.refusal.specs.Lists.{every}
use Rattle.refusal.specs.Result.{Reply, Ok}
use Rattle.refusal.proofs.ResultLaws.{never}
use Rattle.refusal.proofs.BoolLaws.{and_true}
use Rattle.refusal.proofs.ListLaws.{not_there}
use Rattle.text.specs.Lines.{TextLine, arguments}
use Rattle.text.specs.Reading.{read_lines}
use Rattle.constraint.specs.declared.Form.{Form}
use Rattle.constraint.specs.declared.Form.TheVariants.{WithOutput, Predicate}
use Rattle.constraint.specs.File.{Variable, File, with_version, with_expectation, with_variables, with_line, edition_of}
use Rattle.constraint.specs.Sound.{Each, SoundVariable, Distinct}
use Rattle.constraint.specs.Read.{in_header, version_of, read_version, expectation_of, read_expectation, read_declarations}
use Rattle.plain.specs.Says.{Said, said_by, lines_with, tokens_with, is_header, SpellsVariable, Pairwise}
use Rattle.text.proofs.ReadingLaws.{IsAllowed}
use Rattle.text.proofs.TokenLaws.{token_bytes}
use Rattle.constraint.proofs.TokenLaws.{single_again}
use Rattle.plain.proofs.LineLaws.{declarations_is, declarations_again, form_letter, saying}
use Rattle.plain.proofs.KindLaws.{IsLine, LineKind, skipped, version, expectation, declarations, statement, other, line_kind}
use Rattle.plain.proofs.OthersLaws.{read_all, line_first, line_then, version_step, expectation_step, statement_then, Others, others_none, others_more, others_are, others_again}

-- ---- a thing that is said once at most: from a to b by lines of one token, none or one
pub data Once {A : Type 0} (parse : List ℕ → Option A) (a : Option A) (ls : List (List (List ℕ))) (b : Option A) : Type 0 where
  kept : ls ≡ [] → a ≡ b → Once parse a ls b
  set : (w : List ℕ) (x : A) → a ≡ None → ls ≡ (w ∷ []) ∷ [] → parse w ≡ Some x → b ≡ Some x → Once parse a ls b

module _ {A : Type 0} (parse : List ℕ → Option A) (b : Option A) where
  once_first : (a : Option A) (w : List ℕ) (x : A) (ws : List (List ℕ)) (ls : List (List (List ℕ))) → a ≡ None → ws ≡ w ∷ [] → parse w ≡ Some x → Once parse (Some x) ls b → Once parse a (ws ∷ ls) b
  once_first a w x ws ls n o p (kept e k) = set w x n (cc (o, e)) p (sym k)
  once_first a w x ws ls n o p (set v y m e q k) = never (cc m)

  once_then : (a : Option A) (ws : List (List ℕ)) (ls : List (List (List ℕ))) → Once parse a (ws ∷ ls) b → (w : List ℕ) × (x : A) × (a ≡ None) × (ws ≡ w ∷ []) × (parse w ≡ Some x) × Once parse (Some x) ls b
  once_then a ws ls (kept e k) = absurd (cons≢nil e)
  once_then a ws ls (set w x n e p k) = (w, x, n, head-eq_of_cons-eq e, p, kept (tail-eq_of_cons-eq e) (sym k))

  once_none : (a : Option A) → Once parse a [] b → a ≡ b
  once_none a (kept e k) = k
  once_none a (set w x n e p k) = absurd (nil≢cons e)

-- ---- pairs of joined lists
pub pairs_append : {A B : Type 0} (R : A → B → Type 0) (us vs : List A) (xs ys : List B) → Pairwise R us xs → Pairwise R vs ys → Pairwise R (us ++ vs) (xs ++ ys)
pairs_append R [] vs [] ys p q = q
pairs_append R [] vs (x ∷ xs) ys p q = absurd p
pairs_append R (u ∷ us) vs [] ys p q = absurd p
pairs_append R (u ∷ us) vs (x ∷ xs) ys p q = (p.0, pairs_append R us vs xs ys p.1 q)

record Parts {A B : Type 0} (R : A → B → Type 0) (us vs : List A) (zs : List B) : Type 0 where
  front : List B
  back : List B
  are : zs ≡ front ++ back
  in_front_lem : Pairwise R us front
  in_back : Pairwise R vs back

parts : {A B : Type 0} (R : A → B → Type 0) (us vs : List A) (zs : List B) → Pairwise R (us ++ vs) zs → Parts R us vs zs
parts R [] vs zs p = record { front = []; back = zs; are = refl; in_front_lem = tt; in_back = p }
parts R (u ∷ us) vs [] p = absurd p
parts {B = B} R (u ∷ us) vs (z ∷ zs) p =
    let q = parts R us vs zs p.1 in
    record { front = z ∷ q.front; back = q.back; are = ap (λ (ys : List B). z ∷ ys) q.are; in_front_lem = (p.0, q.in_front_lem); in_back = q.in_back }

-- ---- a header brings a file from a to g
pub record Header (a g : File) (hs : List Said) : Type 0 where
  pub letters : every is_header hs ≡ true
  pub version : Once version_of a.version (lines_with (code "v") hs) g.version
  pub expectation : Once expectation_of a.expectation (lines_with (code "e") hs) g.expectation
  pub some_declared : Each (λ ws. 1 ≤ length ws) (lines_with (code "d") hs)
  pub variables : List Variable
  pub declared : Pairwise SpellsVariable (tokens_with (code "d") hs) variables
  pub all : g.variables ≡ a.variables ++ variables
  pub before : g.lines ≡ []

header_none : (a : File) → a.lines ≡ [] → Header a a []
unfolding every lines_with tokens_with flat_map
header_none a e = record { letters = refl; version = kept refl refl; expectation = kept refl refl; some_declared = tt; variables = []; declared = tt; all = sym (append-nil a.variables); before = e }

header_end : (a g : File) → a.lines ≡ [] → Header a g [] → a ≡ g
unfolding lines_with tokens_with flat_map
header_end a g e h = go h.variables h.declared h.all
  where
    go : (xs : List Variable) → Pairwise SpellsVariable [] xs → g.variables ≡ a.variables ++ xs → a ≡ g
    go [] p q =
        let v = once_none version_of g.version a.version h.version in
        let n = once_none expectation_of g.expectation a.expectation h.expectation in
        let x = sym (q ∙ append-nil a.variables) in
        let z = e ∙ sym h.before in
        λ i. record { version = v i; expectation = n i; variables = x i; lines = z i }
    go (x ∷ xs) p q = absurd p

-- ---- a line of each letter in front of a header
module _ (a g : File) (l : TextLine) (hs : List Said) where
  header_version : (w : List ℕ) (e : Edition) → a.version ≡ None → token_bytes (arguments l) ≡ w ∷ [] → version_of w ≡ Some e → Header (with_version a e) g hs → Header a g (saying (code "v") l ∷ hs)
  unfolding every is_header lines_with tokens_with flat_map
  header_version w e n o p h = record { letters = h.letters; version = once_first version_of g.version a.version w e (token_bytes (arguments l)) (lines_with (code "v") hs) n o p h.version; expectation = h.expectation; some_declared = h.some_declared; variables = h.variables; declared = h.declared; all = h.all; before = h.before }

  header_expectation : (w : List ℕ) (n : ℕ) → a.expectation ≡ None → token_bytes (arguments l) ≡ w ∷ [] → expectation_of w ≡ Some n → Header (with_expectation a n) g hs → Header a g (saying (code "e") l ∷ hs)
  unfolding every is_header lines_with tokens_with flat_map
  header_expectation w n m o p h = record { letters = h.letters; version = h.version; expectation = once_first expectation_of g.expectation a.expectation w n (token_bytes (arguments l)) (lines_with (code "e") hs) m o p h.expectation; some_declared = h.some_declared; variables = h.variables; declared = h.declared; all = h.all; before = h.before }

  header_declarations : (xs : List Variable) → 1 ≤ length (token_bytes (arguments l)) → Pairwise SpellsVariable (token_bytes (arguments l)) xs → Header (with_variables a (a.variables ++ xs)) g hs → Header a g (saying (code "d") l ∷ hs)
  unfolding every is_header lines_with tokens_with flat_map
  header_declarations xs n p h = record { letters = h.letters; version = h.version; expectation = h.expectation; some_declared = (n, h.some_declared); variables = xs ++ h.variables; declared = pairs_append SpellsVariable (token_bytes (arguments l)) (tokens_with (code "d") hs) xs h.variables p h.declared; all = h.all ∙ append_assoc a.variables xs h.variables; before = h.before }

-- ---- the lines of a file, from a to f
pub record Whole (a f : File) (ss : List Said) : Type 0 where
  pub middle : File
  pub header : List Said
  pub others : List Said
  pub in_order : ss ≡ header ++ others
  pub head : Header a middle header
  pub tail : Others middle f others

module _ (a b f : File) (s : Said) (ss : List Said) (w : Whole b f ss) where
  whole_more : (Header b w.middle w.header → Header a w.middle (s ∷ w.header)) → Whole a f (s ∷ ss)
  whole_more h = record { middle = w.middle; header = s ∷ w.header; others = w.others; in_order = ap (λ (us : List Said). s ∷ us) w.in_order; head = h w.head; tail = w.tail }

-- what is read
pub whole_are : (ls : List TextLine) (a f : File) → a.lines ≡ [] → read_all a ls ≡ Ok f → Whole a f (flat_map said_by ls)
unfolding read_lines flat_map
whole_are [] a f z e = subst (λ (g : File). Whole a g []) (cc e) (record { middle = a; header = []; others = []; in_order = refl; head = header_none a z; tail = others_none a })
whole_are (l ∷ ls) a f z e = go (line_kind l) (whole_are ls)
  where
    go : LineKind l → ((b g : File) → b.lines ≡ [] → read_all b ls ≡ Ok g → Whole b g (flat_map said_by ls)) → Whole a f (flat_map said_by (l ∷ ls))
    go (skipped k) ih = let p = line_then l ls a f k e in rw k.said_is (ih a f z (subst (λ (b : File). read_all b ls ≡ Ok f) (let q : p.0 ≡ a = cc p.1 in q) p.2))
    go (version k) ih =
        let p = line_then l ls a f k e in
        let q = version_step a p.0 l p.1 in
        let n = not_there a.version (and_true (in_header a) (not (is_some a.version)) q.is_allowed_lem).1 in
        let w = ih (with_version a q.value) f z (subst (λ (b : File). read_all b ls ≡ Ok f) q.file_is p.2) in
        rw k.said_is (whole_more a (with_version a q.value) f (saying (code "v") l) (flat_map said_by ls) w (header_version a w.middle l w.header q.token q.value n q.one q.parsed))
    go (expectation k) ih =
        let p = line_then l ls a f k e in
        let q = expectation_step a p.0 l p.1 in
        let n = not_there a.expectation (and_true (in_header a) (not (is_some a.expectation)) q.is_allowed_lem).1 in
        let w = ih (with_expectation a q.value) f z (subst (λ (b : File). read_all b ls ≡ Ok f) q.file_is p.2) in
        rw k.said_is (whole_more a (with_expectation a q.value) f (saying (code "e") l) (flat_map said_by ls) w (header_expectation a w.middle l w.header q.token q.value n q.one q.parsed))
    go (declarations k) ih =
        let p = line_then l ls a f k e in
        let q = (declarations_is a l).holds p.0 p.1 in
        let xs = q.1.variables in
        let w = ih (with_variables a (a.variables ++ xs)) f z (subst (λ (b : File). read_all b ls ≡ Ok f) q.1.file_is p.2) in
        rw k.said_is (whole_more a (with_variables a (a.variables ++ xs)) f (saying (code "d") l) (flat_map said_by ls) w (header_declarations a w.middle l w.header xs q.0 q.1.spelt))
    go (statement form k) ih =
        let q = statement_then form l ls a f k e in
        let m : 1 ≤ length (a.lines ++ (q.0 ∷ [])) = omega (arith, length-append a.lines (q.0 ∷ [])) in
        rw k.said_is (record { middle = a; header = []; others = saying (form_letter form) l ∷ flat_map said_by ls; in_order = refl; head = header_none a z; tail = others_more a f (saying (form_letter form) l) (flat_map said_by ls) q.0 q.1 (others_are ls (with_line a q.0) f m q.2) })
    go (other k) ih = never (cc (line_then l ls a f k e).1)

-- ---- what it spells is read
each_left : {A : Type 0} (P : A → Type 0) (xs ys : List A) → Each P (xs ++ ys) → Each P xs
each_left P [] ys h = tt
each_left P (x ∷ xs) ys h = (h.0, each_left P xs ys h.1)

each_right : {A : Type 0} (P : A → Type 0) (xs ys : List A) → Each P (xs ++ ys) → Each P ys
each_right P [] ys h = h
each_right P (x ∷ xs) ys h = each_right P xs ys h.1

distinct_left : (xs ys : List Variable) → Distinct (xs ++ ys) → Distinct xs
distinct_left [] ys d = tt
distinct_left (x ∷ xs) ys d = (each_left (λ y. x.name ≡ y.name → ⊥) xs ys d.0, distinct_left xs ys d.1)

-- before the first `c` or `p` line
before_lines : (a : File) → a.lines ≡ [] → in_header a ≡ true
unfolding in_header
before_lines a z = rw z

allowed_once : {A : Type 0} (a : File) (o : Option A) → a.lines ≡ [] → o ≡ None → (in_header a && not (is_some o)) ≡ true
allowed_once a o z n = rw (before_lines a z, n)

-- the variables of a header's end are what 01 asks of them
pub record Fine (xs : List Variable) : Type 0 where
  pub sound : (e : Edition) → Each (SoundVariable e) xs
  pub distinct : Distinct xs
  pub few : length xs ≤ max_variables

-- the first line is read, and the header goes on from there
record Goes (read : File → Reply File) (a g : File) (hs : List Said) : Type 0 where
  next : File
  read_is : read a ≡ Ok next
  before : next.lines ≡ []
  later : Header next g hs

module _ (a g : File) (l : TextLine) (hs : List Said) (z : a.lines ≡ []) where
  version_goes : Header a g (saying (code "v") l ∷ hs) → Goes (λ b. read_version b l) a g hs
  unfolding every is_header lines_with tokens_with flat_map read_version
  version_goes h =
      let p = once_then version_of g.version a.version (token_bytes (arguments l)) (lines_with (code "v") hs) h.version in
      record {
        next = with_version a p.1;
        read_is = single_again (in_header a && not (is_some a.version)) version_of _ (with_version a) l p.0 p.1 (allowed_once a a.version z p.2) p.3 p.4;
        before = z;
        later = record { letters = h.letters; version = p.5; expectation = h.expectation; some_declared = h.some_declared; variables = h.variables; declared = h.declared; all = h.all; before = h.before };
      }

  expectation_goes : Header a g (saying (code "e") l ∷ hs) → Goes (λ b. read_expectation b l) a g hs
  unfolding every is_header lines_with tokens_with flat_map read_expectation
  expectation_goes h =
      let p = once_then expectation_of g.expectation a.expectation (token_bytes (arguments l)) (lines_with (code "e") hs) h.expectation in
      record {
        next = with_expectation a p.1;
        read_is = single_again (in_header a && not (is_some a.expectation)) expectation_of _ (with_expectation a) l p.0 p.1 (allowed_once a a.expectation z p.2) p.3 p.4;
        before = z;
        later = record { letters = h.letters; version = h.version; expectation = p.5; some_declared = h.some_declared; variables = h.variables; declared = h.declared; all = h.all; before = h.before };
      }

  declarations_goes : Fine g.variables → Header a g (saying (code "d") l ∷ hs) → Goes (λ b. read_declarations b l) a g hs
  unfolding every is_header lines_with tokens_with flat_map
  declarations_goes f h =
      let p = parts SpellsVariable (token_bytes (arguments l)) (tokens_with (code "d") hs) h.variables h.declared in
      let xs = p.front in
      let all : g.variables ≡ a.variables ++ xs ++ p.back = h.all ∙ ap (λ (us : List Variable). a.variables ++ us) p.are ∙ sym (append_assoc a.variables xs p.back) in
      let s : Each (SoundVariable (edition_of a)) (a.variables ++ xs ++ p.back) = subst (Each (SoundVariable (edition_of a))) all (f.sound (edition_of a)) in
      let d : Distinct (a.variables ++ xs ++ p.back) = subst Distinct all f.distinct in
      let n : length g.variables ≡ length (a.variables ++ xs ++ p.back) = ap length all in
      record {
        next = with_variables a (a.variables ++ xs);
        read_is = declarations_again a l xs (before_lines a z) h.some_declared.0 p.in_front_lem (each_right (SoundVariable (edition_of a)) a.variables xs (each_left (SoundVariable (edition_of a)) (a.variables ++ xs) p.back s)) (distinct_left (a.variables ++ xs) p.back d) (omega (arith, f.few, length-append (a.variables ++ xs) p.back));
        before = z;
        later = record { letters = h.letters; version = h.version; expectation = h.expectation; some_declared = h.some_declared.1; variables = p.back; declared = p.in_back; all = all; before = h.before };
      }

-- no `c` or `p` line, and no line of no kind, is in a header
not_in_header : (a g : File) (s : Said) (hs : List Said) → is_header s ≡ false → Header a g (s ∷ hs) → ⊥
unfolding every
not_in_header a g s hs e h = never (cc (sym (and_true (is_header s) (every is_header hs) h.letters).0 ∙ e))

form_other : (form : Form) (l : TextLine) → is_header (saying (form_letter form) l) ≡ false
unfolding is_header
form_other WithOutput l = refl
form_other Predicate l = refl

no_kind : (l : TextLine) → is_header (saying 0 l) ≡ false
unfolding is_header
no_kind l = refl

module _ (g f : File) (others : List Said) (fine : Fine g.variables) (tail : Others g f others) (room : length f.lines ≤ max_lines) where
  -- without a header
  only_others : (ls : List TextLine) (a : File) → Each IsAllowed ls → a.lines ≡ [] → flat_map said_by ls ≡ others → Header a g [] → read_all a ls ≡ Ok f
  only_others ls a h z e k = subst (λ (b : File). read_all b ls ≡ Ok f) (sym (header_end a g z k)) (others_again ls g f h (rw e tail) (fine.sound (edition_of g)) fine.distinct room)

  pub whole_again : (ls : List TextLine) (a : File) (hs : List Said) → Each IsAllowed ls → a.lines ≡ [] → flat_map said_by ls ≡ hs ++ others → Header a g hs → read_all a ls ≡ Ok f
  unfolding flat_map
  whole_again [] a [] h z e k = only_others [] a h z e k
  whole_again [] a (s ∷ hs) h z e k = absurd (nil≢cons e)
  whole_again (l ∷ ls) a [] h z e k = only_others (l ∷ ls) a h z e k
  whole_again (l ∷ ls) a (s ∷ hs) h z e k = go (line_kind l) (whole_again ls)
    where
      -- the line is the first of the header
      at_head : {says : Said} {read : File → Reply File} → IsLine l (says ∷ []) read → Header a g (says ∷ hs) × (flat_map said_by ls ≡ hs ++ others)
      at_head {says = says} m =
          let q : says ∷ flat_map said_by ls ≡ s ∷ (hs ++ others) = rw m.said_is at e in
          (subst (λ u. Header a g (u ∷ hs)) (sym (head-eq_of_cons-eq q)) k, tail-eq_of_cons-eq q)

      goes : {says : Said} {read : File → Reply File} → IsLine l (says ∷ []) read → Goes read a g hs → ((b : File) (us : List Said) → Each IsAllowed ls → b.lines ≡ [] → flat_map said_by ls ≡ us ++ others → Header b g us → read_all b ls ≡ Ok f) → read_all a (l ∷ ls) ≡ Ok f
      goes m p ih = line_first l ls h.0 a m ∙ rw p.read_is (ih p.next hs h.1 p.before (at_head m).1 p.later)

      go : LineKind l → ((b : File) (us : List Said) → Each IsAllowed ls → b.lines ≡ [] → flat_map said_by ls ≡ us ++ others → Header b g us → read_all b ls ≡ Ok f) → read_all a (l ∷ ls) ≡ Ok f
      go (skipped m) ih = line_first l ls h.0 a m ∙ ih a (s ∷ hs) h.1 z (rw m.said_is at e) k
      go (version m) ih = goes m (version_goes a g l hs z (at_head m).0) ih
      go (expectation m) ih = goes m (expectation_goes a g l hs z (at_head m).0) ih
      go (declarations m) ih = goes m (declarations_goes a g l hs z fine (at_head m).0) ih
      go (statement form m) ih = absurd (not_in_header a g (saying (form_letter form) l) hs (form_other form l) (at_head m).0)
      go (other m) ih = absurd (not_in_header a g (saying 0 l) hs (no_kind l) (at_head m).0)
