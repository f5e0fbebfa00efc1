-- Settings: one, put piece by piece, and those of the variables in their tables. Assumes nothing.
use mathlib.Core.Path.{◌≡◌, refl, ap, ◌∙◌}
use mathlib.Core.List.{List, ◌++◌, zip_with, flatten}
use Prim.Native.Nat.{ℕ, zero, suc, ◌+◌, ◌≤◌}
use native.Mathlib.Omega.{arith}
use lib.ListN.{length, get_or, take, drop, length-append, length-take, length-drop}
use Rattle.edition.specs.Edition.{max_file_bytes}
use Rattle.refusal.specs.SubjectWords.{ascii}
use Rattle.text.specs.Spelling.{max_digits}
use Rattle.store.specs.Tables.{tabulate, name_start, name_length, variable_of, variable_in, variables_in}
use Rattle.store.proofs.TableLaws.{length-tabulate}
use Rattle.printing.specs.Digits.{digits}
use Rattle.writer.specs.Text.{setting_text, settings_text}
use Rattle.printing.specs.Room.{Put}
use Rattle.writer.proofs.ListLaws.{zip_snoc, flatten_snoc}
use Rattle.printing.proofs.PlaceLaws.{put_then}
use Rattle.printing.proofs.RowLaws.{first_texts}
use Rattle.printing.proofs.DigitLaws.{digits_count}

-- ---- one setting: its length, and its pieces put one behind another
module _ (file : List ℕ) (word v : ℕ) where
  abbrev text : List ℕ
  text = setting_text (variable_of file word) v

  abbrev name : List ℕ
  name = take (name_length word) (drop (name_start word) file)

  pub setting_length : length text ≡ 2 + length name + length (digits v)
  unfolding setting_text variable_of
  setting_length = simp length-append (omega arith)

  pub put_setting : {room : List ℕ} {at : ℕ} → at + length text ≤ length room
      → {end₁ end₂ end₃ end₄ : ℕ} {room₁ room₂ room₃ room₄ : List ℕ}
      → Put (ascii " ") room at end₁ room₁ → Put name room₁ end₁ end₂ room₂ → Put (ascii "=") room₂ end₂ end₃ room₃ → Put (digits v) room₃ end₃ end₄ room₄
      → Put text room at end₄ room₄
  unfolding setting_text variable_of
  put_setting h p q r s =
      let l = setting_length in
      put_then h (put_then (simp length-append (omega arith)) (put_then (simp length-append (omega arith)) p q) r) s

  -- a name from the file makes it no longer than a file and a number
  pub setting_bound : length file ≤ max_file_bytes → length text ≤ 2 + max_file_bytes + max_digits
  setting_bound h =
      omega (arith, setting_length, digits_count v, length-take (name_length word) (drop (name_start word) file), length-drop (name_start word) file)

-- ---- the settings of the variables in their tables
module _ (file table row : List ℕ) where
  -- that of variable i
  abbrev pub setting_at : ℕ → List ℕ
  setting_at i = setting_text (variable_of file (get_or table i 0)) (get_or row i 0)

  pub settings_are : (n : ℕ) → n ≤ length row → settings_text (variables_in file table n) row ≡ first_texts setting_at n
  unfolding settings_text variables_in variable_in tabulate first_texts zip_with flatten
  settings_are zero h = refl
  settings_are (suc n) h =
      let e : length (tabulate (variable_in file table) n) ≡ n = length-tabulate (variable_in file table) n in
      ap flatten (zip_snoc setting_text 0 (tabulate (variable_in file table) n) (variable_in file table n) row (omega arith))
      ∙ flatten_snoc (zip_with setting_text (tabulate (variable_in file table) n) row) _
      ∙ rw e (ap (λ s. s ++ setting_at n) (settings_are n (omega arith)))
