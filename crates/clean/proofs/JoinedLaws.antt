-- Tokens behind spaces, and lines behind LFs: one, two lists of them, and those of a table. Assumes nothing.
use Prim.Native.Nat.{ℕ, zero, suc}
use Prim.Native.Char.{code}
use mathlib.Core.Path.{◌≡◌, refl, sym, ap, ◌∙◌}
use mathlib.Core.List.{List, [], ◌∷◌, ◌++◌, map, flat_map, map-append, append-nil, append_assoc}
use Rattle.refusal.specs.SubjectWords.{ascii}
use Rattle.store.specs.Tables.{tabulate}
use Rattle.printing.proofs.RowLaws.{first_texts}
use Rattle.clean_text.specs.Text.{spaced, fed}

-- texts, each behind one byte
abbrev behind_each : ℕ → List (List ℕ) → List ℕ
behind_each c = flat_map (λ t. c ∷ t)

behind_append : (c : ℕ) (ss ts : List (List ℕ)) → behind_each c (ss ++ ts) ≡ behind_each c ss ++ behind_each c ts
unfolding flat_map
behind_append c [] ts = refl
behind_append c (s ∷ ss) ts = ap (λ r. (c ∷ s) ++ r) (behind_append c ss ts) ∙ sym (append_assoc (c ∷ s) (behind_each c ss) (behind_each c ts))

behind_one_lem : (c : ℕ) (s : List ℕ) → behind_each c (s ∷ []) ≡ c ∷ s
unfolding flat_map
behind_one_lem c s = append-nil (c ∷ s)

behind_table : {A : Type 0} (c : ℕ) (g : A → List ℕ) (h : ℕ → A) (n : ℕ) → behind_each c (map g (tabulate h n)) ≡ first_texts (λ i. c ∷ g (h i)) n
unfolding tabulate first_texts flat_map
behind_table c g h zero = refl
behind_table c g h (suc n) =
    ap (behind_each c) (map-append g (tabulate h n) (h n ∷ []))
    ∙ behind_append c (map g (tabulate h n)) (g (h n) ∷ [])
    ∙ rw (behind_one_lem c (g (h n))) (ap (λ s. s ++ (c ∷ g (h n))) (behind_table c g h n))

-- ---- tokens
pub spaced_append : (ss ts : List (List ℕ)) → spaced (ss ++ ts) ≡ spaced ss ++ spaced ts
unfolding spaced
spaced_append = behind_append (code " ")

pub spaced_one : (s : List ℕ) → spaced (s ∷ []) ≡ ascii " " ++ s
unfolding spaced
spaced_one = behind_one_lem (code " ")

pub spaced_table : {A : Type 0} (g : A → List ℕ) (h : ℕ → A) (n : ℕ) → spaced (map g (tabulate h n)) ≡ first_texts (λ i. ascii " " ++ g (h i)) n
unfolding spaced
spaced_table = behind_table (code " ")

-- ---- lines
pub fed_append : (ss ts : List (List ℕ)) → fed (ss ++ ts) ≡ fed ss ++ fed ts
unfolding fed
fed_append = behind_append (code "\n")

pub fed_one : (s : List ℕ) → fed (s ∷ []) ≡ ascii "\n" ++ s
unfolding fed
fed_one = behind_one_lem (code "\n")

pub fed_table : {A : Type 0} (g : A → List ℕ) (h : ℕ → A) (n : ℕ) → fed (map g (tabulate h n)) ≡ first_texts (λ i. ascii "\n" ++ g (h i)) n
unfolding fed
fed_table = behind_table (code "\n")
