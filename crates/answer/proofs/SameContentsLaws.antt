-- What an answer sets is decided by the contents of its lines. Assumes nothing.
use Prim.Native.Nat.{ℕ, ◌≤◌}
use Prim.Native.Char.{code}
use mathlib.Core.Path.{◌≡◌, refl, sym, ap, ◌∙◌}
use mathlib.Core.Bool.{Bool, true, false, cond}
use mathlib.Core.List.{List, []}
use lib.ListN.{length}
use Rattle.edition.specs.Edition.{max_file_bytes}
use Rattle.refusal.proofs.ListLaws.{flat_map_same, map-flat_map}
use Rattle.text.specs.Lines.{TextLine, text_lines, Token, arguments, leads}
use Rattle.text.specs.Endings.{contents, ContentsDecide}
use Rattle.text.proofs.TokenLaws.{token_bytes, arguments_moved}
use Rattle.text.proofs.EndingLaws.{by_contents}
use Rattle.constraint.specs.File.{Variable, name_at}
use Rattle.constraint.proofs.EachLaws.{each_same}
use Rattle.constraint.proofs.AllowedLinesLaws.{allowed_same}
use Rattle.answer.specs.Claims.{letter_of, letters, tokens_of, values_of, IsSetting, Sets, ForAnswers}
use Rattle.answer.proofs.AcceptsLaws.{accepts_exactly}

-- the tokens of a line that a letter leads
led_moved : (letter : ℕ) (l m : TextLine) → l.bytes ≡ m.bytes → token_bytes (cond (leads letter l.bytes) (arguments l) []) ≡ token_bytes (cond (leads letter m.bytes) (arguments m) [])
led_moved letter l m e = ap (λ t. token_bytes (cond t (arguments l) [])) (ap (leads letter) e) ∙ go (leads letter m.bytes)
  where
    go : (t : Bool) → token_bytes (cond t (arguments l) []) ≡ token_bytes (cond t (arguments m) [])
    go true = arguments_moved l m e
    go false = refl

-- a token that stands elsewhere sets the same
setting_moved : (xs : List Variable) (t u : Token) → t.bytes ≡ u.bytes → IsSetting xs t → IsSetting xs u
setting_moved xs t u e h = record { variable = h.variable; value_digits = h.value_digits; declared = h.declared; numeral = h.numeral; spelt = sym e ∙ h.spelt; value_fits = h.value_fits }

module _ (xs : List Variable) (a b row : List ℕ) (same : contents a ≡ contents b) (short : length b ≤ max_file_bytes) where
  letters_same : letters a ≡ letters b
  unfolding letters letter_of
  letters_same = by_contents (λ l m e. rw e) a b same

  tokens_same : (letter : ℕ) → token_bytes (tokens_of letter a) ≡ token_bytes (tokens_of letter b)
  unfolding tokens_of
  tokens_same letter = map-flat_map _ _ (text_lines a) ∙ by_contents (led_moved letter) a b same ∙ sym (map-flat_map _ _ (text_lines b))

  values_same : (name : List ℕ) → values_of name a ≡ values_of name b
  unfolding values_of
  values_same name = flat_map_same (λ t. t.bytes) (λ t u e. rw e) (tokens_of (code "v") a) (tokens_of (code "v") b) (tokens_same (code "v"))

  sets_same : Sets xs a row → Sets xs b row
  sets_same h = record {
    short = short;
    allowed = allowed_same a b same h.allowed;
    more = h.more;
    in_order = sym letters_same ∙ h.in_order;
    says_satisfiable = sym (tokens_same (code "s")) ∙ h.says_satisfiable;
    no_other = each_same (λ t. t.bytes) (setting_moved xs) (tokens_of (code "v") a) (tokens_of (code "v") b) (tokens_same (code "v")) h.no_other;
    one_for_each = h.one_for_each;
    once = λ i l. sym (values_same (name_at xs i)) ∙ h.once i l;
  }

pub contents_decide : ForAnswers ContentsDecide
contents_decide e xs sound distinct a b row same short k = (accepts_exactly e xs b row sound distinct).1 (sets_same xs a b row same short ((accepts_exactly e xs a row sound distinct).0 k))
