-- The clean text of a file says what the file says, in no more bytes. Assumes nothing.
use Prim.Native.Nat.{ℕ, ◌≤◌}
use Prim.Native.Char.{code}
use mathlib.Core.Path.{◌≡◌, sym, ap, subst, ◌∙◌}
use mathlib.Core.List.{List, ◌∷◌, ◌++◌, map}
use Rattle.std.specs.Prelude.{Option, Some, unwrap_or}
use native.Mathlib.Omega.{arith}
use lib.ListN.{length}
use Rattle.edition.specs.declared.Edition.{Edition}
use Rattle.edition.specs.Edition.{edition10}
use Rattle.constraint.specs.File.{File, edition_of}
use Rattle.plain.specs.Says.{Said, said, tokens_with, SpellsVersion, SaysExpectation, Pairwise, Says}
use Rattle.plain.proofs.HeaderLaws.{pairs_append}
use Rattle.clean_text.specs.Text.{version_text, version_line, expectation_lines, declaration_lines, statement_lines, later_lines, clean_text}
use Rattle.clean_text.proofs.Weights.{saids_weight, saids_append}
use Rattle.clean_text.proofs.CutCosts.{said_cost}
use Rattle.clean_text.proofs.RespeltLaws.{only_edition, version_spelt}
use Rattle.clean_text.proofs.SpokenLaws.{Spoken, Speaks, text_says}
use Rattle.clean_text.proofs.HeaderLaws.{header_said, expectation_same, declarations_again, header_spoken, header_sorted, header_no_longer}
use Rattle.clean_text.proofs.StatementLaws.{statement_said, Statements, statements_again}

module _ (bytes : List ℕ) (f : File) (h : Says bytes f) where
  -- ---- the edition
  edition_is : h.version.edition ≡ edition_of f
  edition_is = ap (λ (v : Option Edition). unwrap_or v edition10) (sym h.version.says_edition)

  version_was : SpellsVersion h.version.token (edition_of f)
  version_was = subst (SpellsVersion h.version.token) edition_is h.version.spelt

  pub edition_one : f.version ≡ Some edition10
  edition_one = h.version.says_edition ∙ ap Some (only_edition h.version.token h.version.edition h.version.spelt)

  -- ---- the lines
  abbrev header : List Said
  header = header_said (edition_of f) f.expectation f.variables

  abbrev others : List Said
  others = map (statement_said (edition_of f) f.variables) f.lines

  statements : Statements (edition_of f) f.variables h.variables h.others f.lines
  statements = statements_again (edition_of f) f.variables h.variables h.others f.lines h.spelt

  spoken : Pairwise Spoken (version_line (edition_of f) ∷ later_lines f) (header ++ others)
  unfolding later_lines
  spoken = pairs_append Spoken (version_line (edition_of f) ∷ expectation_lines f.expectation ++ declaration_lines f.variables) (statement_lines (edition_of f) f.variables f.lines) header others (header_spoken (edition_of f) f.expectation f.variables h.variables) statements.spoken

  says : Speaks 0 (version_line (edition_of f)) (later_lines f) (header ++ others)
  says = text_says (version_line (edition_of f)) (later_lines f) _ _ 0 spoken

  -- ---- the text
  pub never_longer : length (clean_text f) ≤ length bytes
  unfolding clean_text
  never_longer = omega (
    arith,
    says.1,
    saids_append header others,
    statements.cost,
    header_no_longer (edition_of f) f.expectation f.variables h.header h.version.token h.version.one version_was h.expectation h.declared,
    ap saids_weight h.in_order,
    saids_append h.header h.others,
    said_cost bytes,
  )

  pub says_again : Says (clean_text f) f
  unfolding clean_text said
  says_again =
      let s = header_sorted (edition_of f) f.expectation f.variables in
      record {
        short = omega (arith, never_longer, h.short);
        allowed = says.0.1;
        header = header;
        others = others;
        in_order = says.0.0;
        header_letters = s.letters;
        version = record { token = version_text (edition_of f); edition = edition_of f; one = s.versions; spelt = version_spelt h.version.token (edition_of f) version_was; says_edition = h.version.says_edition ∙ ap Some edition_is };
        expectation = rw s.expectations (subst (λ es. SaysExpectation es f.expectation) (expectation_same _ f.expectation h.expectation) h.expectation);
        some_declared = s.some_declared;
        declared = rw s.declared (declarations_again (tokens_with (code "d") h.header) f.variables h.declared).0;
        variables = h.variables;
        distinct = h.distinct;
        few_variables = h.few_variables;
        spelt = statements.spelt;
        few_lines = h.few_lines;
      }
