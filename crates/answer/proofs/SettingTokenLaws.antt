-- A token that sets a variable: the reader accepts what the claim says of it. Assumes nothing.
use Prim.Native.Nat.{ℕ, ◌≤◌, ◌<◌, ◌^◌}
use Prim.Native.Char.{code}
use mathlib.Core.Path.{◌≡◌, refl, ◌∙◌}
use mathlib.Core.Bool.{true, not}
use mathlib.Core.List.{List, []}
use native.Mathlib.Omega.{arith}
use lib.Dec.{eqb, leb, ltb}
use lib.ListN.{length}
use lib.Pow.{pow_mono}
use borrow.Author.Tests.{ltb-true, le-leb, lt-ltb}
use Rattle.edition.specs.declared.Edition.{Edition}
use Rattle.edition.specs.Edition.{max_name_bytes, max_width}
use Rattle.refusal.specs.Lists.{every}
use Rattle.refusal.specs.Result.{Ok}
use Rattle.refusal.proofs.ResultLaws.{Yields, yields_accepted, yields_ensure, yields_both, yields_given}
use Rattle.text.specs.Lines.{Token}
use Rattle.text.specs.Spelling.{is_name, is_numeral, decimal, max_digits, number_bound, up_to, behind}
use Rattle.constraint.specs.File.{Variable, variable_named, variable_at, name_at, width_at}
use Rattle.constraint.specs.Sound.{Each, SoundVariable, Distinct}
use Rattle.constraint.proofs.VariableLaws.{variable_within}
use Rattle.answer.specs.Read.{setting_of}
use Rattle.answer.specs.Claims.{IsSetting}
use Rattle.text.proofs.NumberLaws.{numeral_parts}
use Rattle.text.proofs.SeenLaws.{name_plain}
use Rattle.text.proofs.TokenLaws.{parts_join, up_to_join, behind_join}
use Rattle.constraint.proofs.EachLaws.{each_at}
use Rattle.constraint.proofs.NamedLaws.{named_sound, named_is, named_at}

-- a token sets the variable of number i to v
pub record SetsTo (xs : List Variable) (t : Token) (i v : ℕ) : Type 0 where
  pub setting : IsSetting xs t
  pub number_is : setting.variable ≡ i
  pub value_is : decimal setting.value_digits ≡ v

-- ---- what the reader accepts is a setting
module _ (xs : List Variable) (t : Token) where
  pub setting_yields : Yields (λ p. SetsTo xs t p.0 p.1) (setting_of xs t)
  unfolding setting_of
  setting_yields =
      let name = up_to (code "=") t.bytes in
      let number = behind (code "=") t.bytes in
      yields_both (is_name name) (is_numeral max_digits number) _ λ _ n.
      yields_ensure (ltb (decimal number) number_bound) _ λ _.
      yields_ensure (leb (length name) max_name_bytes) _ λ _.
      yields_given (variable_named name xs) _ λ i e.
      yields_ensure (ltb (decimal number) (2 ^ width_at xs i)) _ λ f.
      yields_accepted (record {
        setting = record {
          variable = i;
          value_digits = number;
          declared = variable_within name xs i e;
          numeral = n;
          spelt = rw (named_is name xs i e) (parts_join (code "=") t.bytes (numeral_parts max_digits number n).0);
          value_fits = ltb-true (decimal number) (2 ^ width_at xs i) f;
        };
        number_is = refl;
        value_is = refl;
      })

  pub setting_is : (i v : ℕ) → setting_of xs t ≡ Ok (i, v) → SetsTo xs t i v
  setting_is i v = setting_yields.holds (i, v)

-- ---- a setting of sound variables is accepted
module _ (e : Edition) (xs : List Variable) (sound : Each (SoundVariable e) xs) where
  -- the width of the variable of number i
  width_most : (i : ℕ) → i < length xs → width_at xs i ≤ max_width
  unfolding width_at
  width_most i h = (each_at (SoundVariable e) xs i (variable_at [] 0) sound h).width.most

  -- the parts of a setting
  module _ (t : Token) (h : IsSetting xs t) where
    no_equals : every (λ b. not (eqb b (code "="))) (name_at xs h.variable) ≡ true
    no_equals = name_plain _ (named_sound e xs h.variable sound h.declared).0

    pub setting_name : up_to (code "=") t.bytes ≡ name_at xs h.variable
    setting_name = rw h.spelt (up_to_join (code "=") h.value_digits (name_at xs h.variable) no_equals)

    pub setting_digits : behind (code "=") t.bytes ≡ h.value_digits
    setting_digits = rw h.spelt (behind_join (code "=") h.value_digits (name_at xs h.variable) no_equals)

  -- a token that sets a variable is accepted
  module _ (distinct : Distinct xs) (t : Token) where
    taken : (h : IsSetting xs t) → setting_of xs t ≡ Ok (h.variable, decimal h.value_digits)
    unfolding setting_of
    taken h =
        let i = h.variable in
        let s = named_sound e xs i sound h.declared in
        let bound : decimal h.value_digits < number_bound = omega (arith, h.value_fits, pow_mono (width_most i h.declared)) in
        rw (setting_name t h, setting_digits t h, s.0, h.numeral, lt-ltb (decimal h.value_digits) number_bound bound, le-leb (length (name_at xs i)) max_name_bytes s.1, named_at xs distinct i h.declared, lt-ltb (decimal h.value_digits) (2 ^ width_at xs i) h.value_fits)

    pub setting_accepted : (i v : ℕ) → SetsTo xs t i v → setting_of xs t ≡ Ok (i, v)
    setting_accepted i v h = taken h.setting ∙ rw (h.number_is, h.value_is)
