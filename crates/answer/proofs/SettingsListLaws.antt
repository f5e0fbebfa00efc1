-- Tokens that set variables, one after the other: the reader accepts what the claim says of them. Assumes nothing.
use Prim.Native.Nat.{ℕ, ◌<◌}
use Prim.Native.Char.{code}
use mathlib.Core.Path.{◌≡◌, refl, sym, ap, ◌∙◌}
use mathlib.Core.Logic.{◌≢◌}
use mathlib.Core.Bool.{not, cond}
use mathlib.Core.List.{List, [], ◌∷◌, ◌++◌, flat_map, append-nil}
use Rattle.std.specs.Prelude.{Option, None, Some, option_to_list, is_some}
use native.Mathlib.Decide.{ℕ_discrete}
use native.Mathlib.Omega.{arith}
use lib.ListN.{length, get_or, set, length-set}
use lib.Seq.{get_or-set_same, get_or-set_other, ext_get_or}
use Rattle.edition.specs.declared.Edition.{Edition}
use Rattle.refusal.specs.Result.{Ok, ◌>>=◌}
use Rattle.refusal.proofs.ResultLaws.{never, Yields, yields_accepted, yields_bind, yields_ensure, yields_also, bind_through}
use Rattle.refusal.proofs.ListLaws.{not_there}
use Rattle.text.specs.Bytes.{same}
use Rattle.text.specs.Lines.{Token}
use Rattle.text.specs.Spelling.{decimal, up_to, behind}
use Rattle.text.proofs.NameLaws.{same_self, same_false}
use Rattle.constraint.specs.File.{Variable, name_at}
use Rattle.constraint.specs.Sound.{Each, SoundVariable, Distinct}
use Rattle.answer.specs.Read.{read_setting, read_settings}
use Rattle.answer.specs.Claims.{IsSetting}
use Rattle.constraint.proofs.NamedLaws.{same_number}
use Rattle.answer.proofs.SettingTokenLaws.{setting_yields, setting_name, setting_digits, setting_accepted}

-- the values that tokens give to a name, in order
unfoldable pub values_in : List ℕ → List Token → List ℕ
values_in name = flat_map (λ t. cond (same (up_to (code "=") t.bytes) name) (decimal (behind (code "=") t.bytes) ∷ []) [])

-- from vs to us: every token sets a variable, and each variable has the value that it had, then those that the tokens give it
pub record SetsAll (xs : List Variable) (vs us : List (Option ℕ)) (ts : List Token) : Type 0 where
  pub no_other : Each (IsSetting xs) ts
  pub long : length us ≡ length vs
  pub values : (i : ℕ) → i < length xs → option_to_list (get_or us i None) ≡ option_to_list (get_or vs i None) ++ values_in (name_at xs i) ts

-- ---- one token
-- it sets a variable that is not set
record SetsOne (xs : List Variable) (vs us : List (Option ℕ)) (t : Token) : Type 0 where
  setting : IsSetting xs t
  unset : get_or vs setting.variable None ≡ None
  is_set : us ≡ set vs setting.variable (Some (decimal setting.value_digits))

one_yields : (xs : List Variable) (vs : List (Option ℕ)) (t : Token) → Yields (λ us. SetsOne xs vs us t) (read_setting xs vs t)
unfolding read_setting
one_yields xs vs t =
    yields_bind (setting_yields xs t) λ p h.
    yields_ensure (not (is_some (get_or vs p.0 None))) _ λ n.
    yields_accepted (record { setting = h.setting; unset = rw h.number_is (not_there (get_or vs p.0 None) n); is_set = rw (h.number_is, h.value_is) })

-- a variable has one value at most
one_value : (o p : Option ℕ) (v : ℕ) (rest : List ℕ) → option_to_list o ≡ option_to_list p ++ (v ∷ rest) → p ≡ None
one_value o None v rest e = refl
one_value None (Some w) v rest e = never (cc e)
one_value (Some u) (Some w) v rest e = never (cc e)

-- and the same value where the tokens give none
no_more_values : (o p : Option ℕ) → option_to_list o ≡ option_to_list p → o ≡ p
no_more_values None None e = refl
no_more_values None (Some w) e = never (cc e)
no_more_values (Some u) None e = never (cc e)
no_more_values (Some u) (Some w) e = let z : u ≡ w = cc e in ap Some z

module _ (e : Edition) (xs : List Variable) (sound : Each (SoundVariable e) xs) (distinct : Distinct xs) where
  -- a token in front of others gives its variable its value, and the other variables none
  module _ (t : Token) (h : IsSetting xs t) (ts : List Token) where
    values_here : values_in (name_at xs h.variable) (t ∷ ts) ≡ decimal h.value_digits ∷ values_in (name_at xs h.variable) ts
    unfolding values_in flat_map
    values_here = rw (setting_name e xs sound t h, setting_digits e xs sound t h, same_self (name_at xs h.variable))

    values_elsewhere : (i : ℕ) → i < length xs → i ≢ h.variable → values_in (name_at xs i) (t ∷ ts) ≡ values_in (name_at xs i) ts
    unfolding values_in flat_map
    values_elsewhere i b n = rw (setting_name e xs sound t h, same_false (name_at xs h.variable) (name_at xs i) (λ q. n (same_number xs distinct i h.variable b h.declared (sym q))))

    -- where the variable is not set, it may as well be set before them
    module _ (vs : List (Option ℕ)) (long : length vs ≡ length xs) (unset : get_or vs h.variable None ≡ None) where
      values_step : (i : ℕ) → i < length xs → option_to_list (get_or (set vs h.variable (Some (decimal h.value_digits))) i None) ++ values_in (name_at xs i) ts ≡ option_to_list (get_or vs i None) ++ values_in (name_at xs i) (t ∷ ts)
      values_step i b =
          let j = h.variable in
          elim (ℕ_discrete i j) [
            | yes p ↦ (let k : j < length vs = omega (arith, h.declared) in rw (p, get_or-set_same vs j (Some (decimal h.value_digits)) None k, unset, values_here))
            | no p ↦ rw (get_or-set_other vs j i (Some (decimal h.value_digits)) None p, values_elsewhere i b p)
          ]

      one_accepted : read_setting xs vs t ≡ Ok (set vs h.variable (Some (decimal h.value_digits)))
      unfolding read_setting
      one_accepted = rw (setting_accepted e xs sound distinct t h.variable (decimal h.value_digits) (record { setting = h; number_is = refl; value_is = refl }), unset)

  -- ---- all tokens
  -- what is accepted sets all
  settings_yield : (ts : List Token) (vs : List (Option ℕ)) → length vs ≡ length xs → Yields (λ us. SetsAll xs vs us ts) (read_settings xs vs ts)
  unfolding read_settings values_in flat_map
  settings_yield [] vs l = yields_accepted (record { no_other = tt; long = refl; values = λ i h. sym (append-nil (option_to_list (get_or vs i None))) })
  settings_yield (t ∷ ts) vs l = yields_bind (one_yields xs vs t) λ ws p.
      let k : length ws ≡ length vs = ap length p.is_set ∙ length-set vs _ _ in
      yields_also (λ us h. record { no_other = (p.setting, h.no_other); long = h.long ∙ k; values = λ i b. h.values i b ∙ rw p.is_set (values_step t p.setting ts vs l p.unset i b) }) (settings_yield ts ws (k ∙ l))

  pub settings_are : (ts : List Token) (vs us : List (Option ℕ)) → length vs ≡ length xs → read_settings xs vs ts ≡ Ok us → SetsAll xs vs us ts
  settings_are ts vs us l = (settings_yield ts vs l).holds us

  -- what sets all is accepted
  pub settings_accepted : (ts : List Token) (vs us : List (Option ℕ)) → length vs ≡ length xs → SetsAll xs vs us ts → read_settings xs vs ts ≡ Ok us
  unfolding read_settings values_in flat_map
  settings_accepted [] vs us l h = ap Ok (ext_get_or None vs us (sym h.long) (λ i b. sym (no_more_values _ _ (h.values i (omega arith) ∙ append-nil _))))
  settings_accepted (t ∷ ts) vs us l h =
      let s = h.no_other.0 in
      let j = s.variable in
      let unset = one_value (get_or us j None) (get_or vs j None) _ _ (h.values j s.declared ∙ ap (λ (r : List ℕ). option_to_list (get_or vs j None) ++ r) (values_here t s ts)) in
      let ws = set vs j (Some (decimal s.value_digits)) in
      let k : length ws ≡ length vs = length-set vs _ _ in
      rw (one_accepted t s ts vs l unset) (settings_accepted ts ws us (k ∙ l) (record { no_other = h.no_other.1; long = h.long ∙ sym k; values = λ i b. h.values i b ∙ sym (values_step t s ts vs l unset i b) }))

-- ---- tokens behind tokens
pub settings_append : (xs : List Variable) (ts us : List Token) (vs : List (Option ℕ)) → read_settings xs vs (ts ++ us) ≡ (read_settings xs vs ts >>= λ ws. read_settings xs ws us)
unfolding read_settings
settings_append xs [] us vs = refl
settings_append xs (t ∷ ts) us vs = bind_through (λ ws. read_settings xs ws ts) (λ ws. read_settings xs ws us) (λ ws. read_settings xs ws (ts ++ us)) (settings_append xs ts us) (read_setting xs vs t)
