-- The reader accepts exactly the files that say something, and takes each for what it says. Assumes nothing.
use Prim.Native.Nat.{ℕ, ◌≤◌}
use Prim.Native.Char.{code}
use mathlib.Core.Path.{◌≡◌, refl, sym, ap, subst, subst₂, ◌∙◌}
use mathlib.Core.Bool.{true}
use mathlib.Core.List.{List, [], ◌++◌}
use Rattle.std.specs.Prelude.{Option, None, unwrap_or}
use lib.Dec.{leb}
use lib.ListN.{length}
use borrow.Author.Tests.{leb-true, le-leb}
use Rattle.edition.specs.declared.Edition.{Edition}
use Rattle.edition.specs.Edition.{edition10, max_file_bytes}
use Rattle.refusal.specs.declared.Subject.TheVariants.{Constraint}
use Rattle.std.specs.Prelude.{is_some}
use Rattle.refusal.specs.declared.Refusal.{Refusal}
use Rattle.refusal.specs.Result.{Reply, Ok, Err}
use Rattle.refusal.proofs.ResultLaws.{never, bind_accepted, ensure_accepted}
use Rattle.text.specs.Lines.{text_lines}
use Rattle.text.specs.Reading.{read_text}
use Rattle.constraint.specs.declared.Line.{Line}
use Rattle.constraint.specs.File.{Variable, File, empty_file, edition_of}
use Rattle.constraint.specs.Sound.{Each, SoundFile}
use Rattle.constraint.specs.Read.{version_of, expectation_of, read_line, read_file}
use Rattle.constraint.proofs.EachLaws.{each_map}
use Rattle.constraint.proofs.SoundLaws.{any_edition, accepted_is_sound}
use Rattle.plain.specs.Says.{said, lines_with, tokens_with, SaysVersion, SaysExpectation, no_line, says_0, says_1, SpellsVariable, SpellsLine, Pairwise, Says}
use Rattle.plain.specs.Claims.{ReadsExactly, RefusesExactly}
use Rattle.text.proofs.ReadingLaws.{IsAllowed}
use Rattle.plain.proofs.TokenLaws.{version_is, version_again, expectation_is, zero_again, one_again}
use Rattle.plain.proofs.OthersLaws.{lines_allowed, Others}
use Rattle.plain.proofs.HeaderLaws.{Once, kept, set, Header, Whole, whole_are, Fine, whole_again}

-- ---- the `v` line and the `e` line
one_version : (vs : List (List (List ℕ))) (v : Option Edition) → is_some v ≡ true → Once version_of None vs v → SaysVersion vs v
one_version vs v t (kept e k) = never (cc (sym t ∙ ap is_some (sym k)))
one_version vs v t (set w x n e p k) = record { token = w; edition = x; one = e; spelt = version_is w x p; says_edition = k }

one_expectation : (es : List (List (List ℕ))) (n : Option ℕ) → Once expectation_of None es n → SaysExpectation es n
one_expectation es n (kept e k) = no_line e (sym k)
one_expectation es n (set w x m e p k) = subst₂ SaysExpectation (sym e) (sym k) (expectation_is w x p)

expectation_once : (es : List (List (List ℕ))) (n : Option ℕ) → SaysExpectation es n → Once expectation_of None es n
expectation_once es n (no_line e k) = kept e (sym k)
expectation_once es n (says_0 e k) = set _ 0 refl e zero_again k
expectation_once es n (says_1 e k) = set _ 1 refl e one_again k

module _ (bytes : List ℕ) (f : File) where
  -- what lines that are read say
  whole_says : length bytes ≤ max_file_bytes → Each IsAllowed (text_lines bytes) → is_some f.version ≡ true → SoundFile f → Whole empty_file f (said bytes) → Says bytes f
  whole_says short allowed there s w =
      let h = w.head in
      let o = w.tail in
      let e : edition_of w.middle ≡ edition_of f = ap (λ (v : Option Edition). unwrap_or v edition10) (sym o.version) in
      let xs : h.variables ≡ f.variables = sym h.all ∙ sym o.variables in
      let ls : o.lines ≡ f.lines = sym (o.all ∙ ap (λ (ls : List Line). ls ++ o.lines) h.before) in
      let spelt : Pairwise (SpellsLine (edition_of f) f.variables) w.others o.lines = subst₂ (λ (c : Edition) (ys : List Variable). Pairwise (SpellsLine c ys) w.others o.lines) e (sym o.variables) o.spelt in
      record {
        short = short;
        allowed = allowed;
        header = w.header;
        others = w.others;
        in_order = w.in_order;
        header_letters = h.letters;
        version = one_version _ f.version there (subst (Once version_of None (lines_with (code "v") w.header)) (sym o.version) h.version);
        expectation = one_expectation _ f.expectation (subst (Once expectation_of None (lines_with (code "e") w.header)) (sym o.expectation) h.expectation);
        some_declared = h.some_declared;
        declared = subst (Pairwise SpellsVariable (tokens_with (code "d") w.header)) xs h.declared;
        variables = s.variables;
        distinct = s.distinct;
        few_variables = s.few_variables;
        spelt = subst (Pairwise (SpellsLine (edition_of f) f.variables) w.others) ls spelt;
        few_lines = s.few_lines;
      }

  -- what is accepted says it
  read_says : (g : File) → g ≡ f → read_text Constraint read_line empty_file bytes ≡ Ok g → is_some g.version ≡ true → SoundFile f → Says bytes f
  unfolding read_text said
  read_says g z q there s =
      let t = ensure_accepted (leb (length bytes) max_file_bytes) _ _ f (q ∙ ap Ok z) in
      whole_says (leb-true (length bytes) max_file_bytes t.0) (lines_allowed (text_lines bytes) empty_file f t.1) (ap (λ (h : File). is_some h.version) (sym z) ∙ there) s (whole_are (text_lines bytes) empty_file f refl t.1)

  accepted_says : read_file bytes ≡ Ok f → Says bytes f
  unfolding read_file
  accepted_says q =
      let p = bind_accepted (read_text Constraint read_line empty_file bytes) _ f q in
      let d = ensure_accepted (is_some p.0.version) _ _ f p.2 in
      read_says p.0 (cc d.1) p.1 d.0 (accepted_is_sound bytes f q)

  -- what says it is accepted
  says_accepted : Says bytes f → read_file bytes ≡ Ok f
  unfolding read_file read_text said
  says_accepted h =
      let g : File = record { version = f.version; expectation = f.expectation; variables = f.variables; lines = [] } in
      let head : Header empty_file g h.header = record {
        letters = h.header_letters;
        version = set h.version.token h.version.edition refl h.version.one (version_again h.version.token h.version.edition h.version.spelt) h.version.says_edition;
        expectation = expectation_once _ f.expectation h.expectation;
        some_declared = h.some_declared;
        variables = f.variables;
        declared = h.declared;
        all = refl;
        before = refl;
      } in
      let tail : Others g f h.others = record { version = refl; expectation = refl; variables = refl; lines = f.lines; spelt = h.spelt; all = refl } in
      let fine : Fine f.variables = record { sound = λ d. each_map (any_edition (edition_of f) d) f.variables h.variables; distinct = h.distinct; few = h.few_variables } in
      let there : is_some f.version ≡ true = ap is_some h.version.says_edition in
      rw (le-leb (length bytes) max_file_bytes h.short, whole_again g f h.others fine tail h.few_lines (text_lines bytes) empty_file h.header h.allowed refl h.in_order head, there)

  -- what is refused says nothing, and what says nothing is refused
  refused_says : (r : Refusal) → read_file bytes ≡ Err r → Says bytes f → ⊥
  refused_says r e h = never (cc (sym (says_accepted h) ∙ e))

pub reads_exactly : ReadsExactly
reads_exactly bytes f = (accepted_says bytes f, says_accepted bytes f)

pub refuses_exactly : RefusesExactly
refuses_exactly bytes = (λ p f. refused_says bytes f p.0 p.1, λ n. go n (read_file bytes) refl)
  where
    go : ((f : File) → Says bytes f → ⊥) → (r : Reply File) → read_file bytes ≡ r → (x : Refusal) × (read_file bytes ≡ Err x)
    go n (Ok f) e = absurd (n f (accepted_says bytes f e))
    go n (Err x) e = (x, e)
