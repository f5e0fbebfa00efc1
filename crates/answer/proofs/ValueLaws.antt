-- The `v` lines: the loop over a line's settings, and a line by what it gives. Assumes nothing.
use Prim.Native.Nat.{ℕ, ◌+◌, ◌≤◌, ◌<◌}
use mathlib.Core.Path.{◌≡◌, refl, ap, ◌∙◌}
use mathlib.Core.Bool.{Bool, true, false}
use mathlib.Core.List.{List, [], ◌∷◌}
use Rattle.std.specs.Prelude.{Option, None, Some, is_some}
use native.Mathlib.Omega.{arith}
use lib.ListN.{length, get_or, take, drop, set, length-set}
use lib.Seq.{get_or-take, take-set-lt}
use Rattle.edition.specs.Edition.{max_variables}
use Rattle.refusal.specs.declared.Refusal.{Refusal}
use Rattle.refusal.specs.declared.Subject.TheVariants.{Answer}
use Rattle.refusal.specs.declared.Fault.TheVariants.{MisplacedLine, SetTwice}
use Rattle.refusal.specs.Result.{Ok, Err, refusal}
use Rattle.text.specs.Lines.{Token, tokens_from}
use Rattle.constraint.specs.File.{Variable}
use Rattle.text.specs.declared.Class.TheVariants.{Space, Solid}
use Rattle.text.specs.Scan.{is_of, past, token_from, line_at}
use Rattle.text.proofs.RunLaws.{scan_bounds}
use Rattle.text.proofs.TokenLaws.{arguments_at, tokens_turn, token_within}
use Rattle.answer.specs.Read.{settings_of, setting_of, read_setting, read_settings, read_values}

-- ---- a token behind the white space at i
pub record Turn (line : List ℕ) (i start : ℕ) : Type 0 where
  pub inside : start < length line
  pub tokens : let end = past (is_of Solid) line start in tokens_from true i (drop i line) ≡ token_from line start ∷ tokens_from true end (drop end line)
  pub onward : i < past (is_of Solid) line start
  pub within : past (is_of Solid) line start ≤ length line

pub next_turn : (line : List ℕ) (i start : ℕ) → i ≤ length line → start ≡ past (is_of Space) line i → (start ≡ length line → ⊥) → Turn line i start
next_turn line i start h e k =
    let b = scan_bounds (is_of Space) line i start h e in
    let l : start < length line = omega (arith, b, k) in
    let w = token_within line i start e l _ refl in
    record { inside = l; tokens = tokens_turn line i start e l _ refl; onward = omega (arith, w.0, w.1); within = w.2 }

-- ---- the loop: what is left to set, from what is set, is what there was to set
pub record Storing (xs : List Variable) (n : ℕ) (line : List ℕ) (at : ℕ) (vs₀ vs : List (Option ℕ)) (i : ℕ) : Type 0 where
  pub within : i ≤ length line
  pub whole : length vs ≡ max_variables
  pub rest : read_settings xs (take n vs) (tokens_from true i (drop i line)) ≡ read_settings xs (take n vs₀) (tokens_from true at (drop at line))

module _ {xs : List Variable} {n : ℕ} {line : List ℕ} {at : ℕ} {vs₀ vs : List (Option ℕ)} {i : ℕ} (inv : Storing xs n line at vs₀ vs i) where
  -- no token is left
  pub storing_done : tokens_from true i (drop i line) ≡ [] → Ok (take n vs) ≡ read_settings xs (take n vs₀) (tokens_from true at (drop at line))
  unfolding read_settings
  storing_done e = rw e at inv.rest

  -- the next setting is refused
  module _ {t : Token} {ts : List Token} (e : tokens_from true i (drop i line) ≡ t ∷ ts) where
    pub storing_fault : (r : Refusal) → Err r ≡ setting_of xs t → Err r ≡ read_settings xs (take n vs₀) (tokens_from true at (drop at line))
    unfolding read_settings read_setting
    storing_fault r f = rw (← f) at (rw e at inv.rest)

    pub storing_twice : (k v : ℕ) → k < n → Ok (k, v) ≡ setting_of xs t → is_some (get_or vs k None) ≡ true → Err (refusal Answer SetTwice t.start) ≡ read_settings xs (take n vs₀) (tokens_from true at (drop at line))
    unfolding read_settings read_setting
    storing_twice k v h f d = rw (← f, get_or-take n vs k None h, d) at (rw e at inv.rest)

  -- the next variable is set
  pub storing_more : {t : Token} (stop k v : ℕ) → stop ≤ length line → tokens_from true i (drop i line) ≡ t ∷ tokens_from true stop (drop stop line) → k < n → Ok (k, v) ≡ setting_of xs t → is_some (get_or vs k None) ≡ false → Storing xs n line at vs₀ (set vs k (Some v)) stop
  unfolding read_settings read_setting
  storing_more stop k v l e h f d = record {
    within = l;
    whole = length-set vs k (Some v) ∙ inv.whole;
    rest = ap (λ us. read_settings xs us (tokens_from true stop (drop stop line))) (take-set-lt n vs k (Some v) h) ∙ rw (← f, get_or-take n vs k None h, d) at (rw e at inv.rest);
  }

-- ---- a line by what its settings give
module _ (xs : List Variable) (solved : Bool) (vs : List (Option ℕ)) (line : List ℕ) (at next : ℕ) where
  pub values_misplaced : solved ≡ false → Err (refusal Answer MisplacedLine at) ≡ read_values xs (settings_of solved vs) (line_at line at next)
  unfolding read_values
  values_misplaced e = rw e

  module _ (e : solved ≡ true) where
    pub values_refused : (r : Refusal) → Err r ≡ read_settings xs vs (tokens_from true (at + 1) (drop (at + 1) line)) → Err r ≡ read_values xs (settings_of solved vs) (line_at line at next)
    unfolding read_values
    values_refused r f = rw (e, arguments_at line at next, ← f)

    pub values_read : (us : List (Option ℕ)) → Ok us ≡ read_settings xs vs (tokens_from true (at + 1) (drop (at + 1) line)) → Ok (settings_of true us) ≡ read_values xs (settings_of solved vs) (line_at line at next)
    unfolding read_values
    values_read us f = rw (e, arguments_at line at next, ← f)
