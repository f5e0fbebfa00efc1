-- An answer's lines: the reader accepts what the claim says of their letters and tokens. Assumes nothing.
use Prim.Native.Nat.{ℕ, zero, suc}
use Prim.Native.Char.{code}
use mathlib.Core.Path.{◌≡◌, refl, sym, ap, subst, ◌∙◌}
use mathlib.Core.Bool.{true, false, cond}
use mathlib.Core.List.{List, [], ◌∷◌, map, flat_map, append-nil, nil≢cons, cons≢nil, head-eq_of_cons-eq, tail-eq_of_cons-eq}
use Rattle.std.specs.Prelude.{Option}
use native.Mathlib.Omega.{arith}
use lib.ListN.{replicate}
use Rattle.refusal.specs.declared.Subject.TheVariants.{Answer}
use Rattle.refusal.specs.Result.{Reply, Ok, ◌>>=◌}
use Rattle.refusal.proofs.ResultLaws.{never, bind_accepted, bind_through}
use Rattle.text.specs.Lines.{TextLine, Token, arguments, leads}
use Rattle.text.specs.Reading.{read_any_line, read_lines}
use Rattle.constraint.specs.File.{Variable}
use Rattle.constraint.specs.Sound.{Each}
use Rattle.answer.specs.SolutionWords.{satisfiable}
use Rattle.answer.specs.Read.{Settings, settings_of, read_settings, read_solution, read_values, read_answer_line}
use Rattle.answer.specs.Claims.{letter_of}
use Rattle.text.proofs.ReadingLaws.{IsAllowed, line_allowed}
use Rattle.answer.proofs.SettingsListLaws.{settings_append}
use Rattle.answer.proofs.SolutionLineLaws.{solution_is, solution_accepted}
use Rattle.answer.proofs.LineKindLaws.{IsLine, IsSkipped, IsSolution, IsValues, LineKind, skipped, solution, values, other, line_kind}

-- the tokens of the lines of one letter, in order
unfoldable pub tokens_in : ℕ → List TextLine → List Token
tokens_in letter = flat_map (λ l. cond (leads letter l.bytes) (arguments l) [])

-- lines with the `s` line, which bring the settings from vs to us
pub record WithSolution (xs : List Variable) (vs us : List (Option ℕ)) (ls : List TextLine) : Type 0 where
  pub allowed : Each IsAllowed ls
  pub more : ℕ
  pub in_order : flat_map letter_of ls ≡ code "s" ∷ replicate more (code "v")
  pub says : map (λ t. t.bytes) (tokens_in (code "s") ls) ≡ satisfiable ∷ []
  pub sets : read_settings xs vs (tokens_in (code "v") ls) ≡ Ok us

-- lines behind the `s` line, likewise
record BehindSolution (xs : List Variable) (vs us : List (Option ℕ)) (ls : List TextLine) : Type 0 where
  allowed : Each IsAllowed ls
  more : ℕ
  in_order : flat_map letter_of ls ≡ replicate more (code "v")
  sets : read_settings xs vs (tokens_in (code "v") ls) ≡ Ok us

-- letters that are all `v`: the first, and those behind it
all_v : (letter : ℕ) (rest : List ℕ) (more : ℕ) → letter ∷ rest ≡ replicate more (code "v") → (letter ≡ code "v") × ((n : ℕ) × (rest ≡ replicate n (code "v")))
all_v letter rest zero e = absurd (cons≢nil e)
all_v letter rest (suc n) e = (head-eq_of_cons-eq e, (n, tail-eq_of_cons-eq e))

module _ (xs : List Variable) where
  abbrev read_all : Settings → List TextLine → Reply Settings
  read_all = read_lines Answer (read_answer_line xs)

  -- `v` lines have no token of an `s` line
  no_solution : (ls : List TextLine) (more : ℕ) → flat_map letter_of ls ≡ replicate more (code "v") → tokens_in (code "s") ls ≡ []
  unfolding tokens_in flat_map
  no_solution [] more e = refl
  no_solution (l ∷ ls) more e = go (line_kind xs l) (no_solution ls)
    where
      go : LineKind xs l → ((n : ℕ) → flat_map letter_of ls ≡ replicate n (code "v") → tokens_in (code "s") ls ≡ []) → tokens_in (code "s") (l ∷ ls) ≡ []
      go (skipped k) ih = rw k.says_is (ih more (rw k.letter_is at e))
      go (solution k) ih = absurd (omega (arith, (all_v (code "s") _ more (rw k.letter_is at e)).0))
      go (values k) ih = let p = (all_v (code "v") _ more (rw k.letter_is at e)).1 in rw k.says_is (ih p.0 p.1)
      go (other k) ih = absurd (omega (arith, (all_v 0 _ more (rw k.letter_is at e)).0))

  -- ---- a line in front of lines
  module _ (l : TextLine) (ls : List TextLine) where
    module _ (a : IsAllowed l) where
      -- it is read first
      line_first : {letter : List ℕ} {says sets : List Token} {read : Settings → Reply Settings} (s : Settings) → IsLine xs l letter says sets read → read_all s (l ∷ ls) ≡ (read s >>= λ t. read_all t ls)
      unfolding read_lines read_any_line
      line_first s k = rw (a, k.read_is s)

      line_values : (vs : List (Option ℕ)) → IsValues xs l → read_all (settings_of true vs) (l ∷ ls) ≡ (read_settings xs vs (arguments l) >>= λ us. read_all (settings_of true us) ls)
      unfolding read_values
      line_values vs k = line_first (settings_of true vs) k ∙ sym (bind_through (λ us. Ok (settings_of true us)) (λ t. read_all t ls) (λ us. read_all (settings_of true us) ls) (λ us. refl) (read_settings xs vs (arguments l)))

      -- what is said of the lines, from those behind it
      module _ (vs us : List (Option ℕ)) where
        behind_skipped : IsSkipped xs l → BehindSolution xs vs us ls → BehindSolution xs vs us (l ∷ ls)
        unfolding tokens_in flat_map
        behind_skipped k h = record { allowed = (a, h.allowed); more = h.more; in_order = rw k.letter_is h.in_order; sets = rw k.sets_is h.sets }

        behind_values : (ws : List (Option ℕ)) → IsValues xs l → read_settings xs vs (arguments l) ≡ Ok ws → BehindSolution xs ws us ls → BehindSolution xs vs us (l ∷ ls)
        unfolding tokens_in flat_map
        behind_values ws k e h = record {
          allowed = (a, h.allowed);
          more = suc h.more;
          in_order = rw k.letter_is (ap (λ (s : List ℕ). code "v" ∷ s) h.in_order);
          sets = rw k.sets_is (settings_append xs (arguments l) (tokens_in (code "v") ls) vs ∙ rw e h.sets);
        }

        with_skipped : IsSkipped xs l → WithSolution xs vs us ls → WithSolution xs vs us (l ∷ ls)
        unfolding tokens_in flat_map
        with_skipped k h = record { allowed = (a, h.allowed); more = h.more; in_order = rw k.letter_is h.in_order; says = rw k.says_is h.says; sets = rw k.sets_is h.sets }

        with_solution : IsSolution xs l → map (λ t. t.bytes) (arguments l) ≡ satisfiable ∷ [] → BehindSolution xs vs us ls → WithSolution xs vs us (l ∷ ls)
        unfolding tokens_in flat_map
        with_solution k e h = record {
          allowed = (a, h.allowed);
          more = h.more;
          in_order = rw k.letter_is (ap (λ (s : List ℕ). code "s" ∷ s) h.in_order);
          says = rw (k.says_is, no_solution ls h.more h.in_order, append-nil) e;
          sets = rw k.sets_is h.sets;
        }

  -- ---- lines behind the `s` line: what is accepted of them, and that they are
  behind_are : (ls : List TextLine) (vs : List (Option ℕ)) (s : Settings) → read_all (settings_of true vs) ls ≡ Ok s → (s.solved ≡ true) × BehindSolution xs vs s.values ls
  unfolding read_lines read_solution read_settings tokens_in flat_map
  behind_are [] vs s e = subst (λ (u : Settings). (u.solved ≡ true) × BehindSolution xs vs u.values []) (cc e) (refl, record { allowed = tt; more = 0; in_order = refl; sets = refl })
  behind_are (l ∷ ls) vs s e = go (line_kind xs l) (behind_are ls)
    where
      a : IsAllowed l
      a = line_allowed Answer (read_answer_line xs) l ls (settings_of true vs) s e

      go : LineKind xs l → ((us : List (Option ℕ)) (u : Settings) → read_all (settings_of true us) ls ≡ Ok u → (u.solved ≡ true) × BehindSolution xs us u.values ls) → (s.solved ≡ true) × BehindSolution xs vs s.values (l ∷ ls)
      go (skipped k) ih = let p = ih vs s (sym (line_first l ls a (settings_of true vs) k) ∙ e) in (p.0, behind_skipped l ls a vs s.values k p.1)
      go (solution k) ih = never (cc (sym (line_first l ls a (settings_of true vs) k) ∙ e))
      go (values k) ih =
          let p = bind_accepted (read_settings xs vs (arguments l)) _ s (sym (line_values l ls a vs k) ∙ e) in
          let q = ih p.0 s p.2 in
          (q.0, behind_values l ls a vs s.values p.0 k p.1 q.1)
      go (other k) ih = never (cc (sym (line_first l ls a (settings_of true vs) k) ∙ e))

  behind_accepted : (ls : List TextLine) (vs us : List (Option ℕ)) → BehindSolution xs vs us ls → read_all (settings_of true vs) ls ≡ Ok (settings_of true us)
  unfolding read_lines read_settings tokens_in flat_map
  behind_accepted [] vs us h = let z : vs ≡ us = cc h.sets in rw z
  behind_accepted (l ∷ ls) vs us h = go (line_kind xs l) (behind_accepted ls)
    where
      a : IsAllowed l
      a = h.allowed.0

      go : LineKind xs l → ((ws ys : List (Option ℕ)) → BehindSolution xs ws ys ls → read_all (settings_of true ws) ls ≡ Ok (settings_of true ys)) → read_all (settings_of true vs) (l ∷ ls) ≡ Ok (settings_of true us)
      go (skipped k) ih = line_first l ls a (settings_of true vs) k ∙ ih vs us (record { allowed = h.allowed.1; more = h.more; in_order = rw k.letter_is at h.in_order; sets = rw k.sets_is at h.sets })
      go (solution k) ih = absurd (omega (arith, (all_v (code "s") _ h.more (rw k.letter_is at h.in_order)).0))
      go (values k) ih =
          let p = (all_v (code "v") _ h.more (rw k.letter_is at h.in_order)).1 in
          let q = bind_accepted (read_settings xs vs (arguments l)) _ us (sym (settings_append xs (arguments l) (tokens_in (code "v") ls) vs) ∙ (rw k.sets_is at h.sets)) in
          line_values l ls a vs k ∙ rw q.1 (ih q.0 us (record { allowed = h.allowed.1; more = p.0; in_order = p.1; sets = q.2 }))
      go (other k) ih = absurd (omega (arith, (all_v 0 _ h.more (rw k.letter_is at h.in_order)).0))

  -- ---- lines with the `s` line: what is accepted of them, and that they are
  pub lines_are : (ls : List TextLine) (vs : List (Option ℕ)) (s : Settings) → read_lines Answer (read_answer_line xs) (settings_of false vs) ls ≡ Ok s → s.solved ≡ true → WithSolution xs vs s.values ls
  unfolding read_lines read_values
  lines_are [] vs s e d = never (cc (e, d))
  lines_are (l ∷ ls) vs s e d = go (line_kind xs l) (lines_are ls vs s)
    where
      a : IsAllowed l
      a = line_allowed Answer (read_answer_line xs) l ls (settings_of false vs) s e

      go : LineKind xs l → (read_all (settings_of false vs) ls ≡ Ok s → s.solved ≡ true → WithSolution xs vs s.values ls) → WithSolution xs vs s.values (l ∷ ls)
      go (skipped k) ih = with_skipped l ls a vs s.values k (ih (sym (line_first l ls a (settings_of false vs) k) ∙ e) d)
      go (solution k) ih =
          let p = bind_accepted (read_solution (settings_of false vs) l) _ s (sym (line_first l ls a (settings_of false vs) k) ∙ e) in
          let q = solution_is vs l p.0 p.1 in
          with_solution l ls a vs s.values k q.0 (behind_are ls vs s (rw q.1 at p.2)).1
      go (values k) ih = never (cc (sym (line_first l ls a (settings_of false vs) k) ∙ e))
      go (other k) ih = never (cc (sym (line_first l ls a (settings_of false vs) k) ∙ e))

  pub lines_accepted : (ls : List TextLine) (vs us : List (Option ℕ)) → WithSolution xs vs us ls → read_lines Answer (read_answer_line xs) (settings_of false vs) ls ≡ Ok (settings_of true us)
  unfolding tokens_in flat_map
  lines_accepted [] vs us h = absurd (nil≢cons h.in_order)
  lines_accepted (l ∷ ls) vs us h = go (line_kind xs l) (lines_accepted ls vs us)
    where
      a : IsAllowed l
      a = h.allowed.0

      go : LineKind xs l → (WithSolution xs vs us ls → read_all (settings_of false vs) ls ≡ Ok (settings_of true us)) → read_all (settings_of false vs) (l ∷ ls) ≡ Ok (settings_of true us)
      go (skipped k) ih = line_first l ls a (settings_of false vs) k ∙ ih (record { allowed = h.allowed.1; more = h.more; in_order = rw k.letter_is at h.in_order; says = rw k.says_is at h.says; sets = rw k.sets_is at h.sets })
      go (solution k) ih =
          let in_order = tail-eq_of_cons-eq (rw k.letter_is at h.in_order) in
          let says = rw (k.says_is, no_solution ls h.more in_order, append-nil) at h.says in
          line_first l ls a (settings_of false vs) k ∙ rw (solution_accepted vs l says) (behind_accepted ls vs us (record { allowed = h.allowed.1; more = h.more; in_order = in_order; sets = rw k.sets_is at h.sets }))
      go (values k) ih = let z = head-eq_of_cons-eq (rw k.letter_is at h.in_order) in absurd (omega arith)
      go (other k) ih = let z = head-eq_of_cons-eq (rw k.letter_is at h.in_order) in absurd (omega arith)
