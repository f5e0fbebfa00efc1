-- A loop over the variables that measures their settings. Assumes nothing.
use mathlib.Core.Path.{◌≡◌}
use mathlib.Core.List.{List}
use Prim.Native.Nat.{ℕ, ◌+◌, ◌*◌, ◌≤◌, ◌<◌}
use native.Mathlib.Omega.{arith}
use lib.ListN.{length, get_or}
use Rattle.edition.specs.Edition.{max_file_bytes}
use Rattle.text.specs.Spelling.{max_digits}
use Rattle.store.specs.Tables.{variable_of}
use Rattle.printing.proofs.RowLaws.{first_texts, first_texts_none, first_texts_length}
use Rattle.writer.specs.Text.{setting_text}
use Rattle.writer.proofs.SettingLaws.{setting_at, setting_bound}

-- the settings of the first i variables are measured
pub record Measuring (file table row : List ℕ) (n i total : ℕ) : Type 0 where
  pub within : i ≤ n
  pub counts : total ≡ length (first_texts (setting_at file table row) i)
  pub bounded : total ≤ i * (2 + max_file_bytes + max_digits)

pub measuring_starts : (file table row : List ℕ) (n : ℕ) → Measuring file table row n 0 0
measuring_starts file table row n = record {
  within = omega arith;
  counts = rw first_texts_none;
  bounded = omega arith;
}

module _ {file table row : List ℕ} {n i total : ℕ} (inv : Measuring file table row n i total) where
  pub measuring_more : length file ≤ max_file_bytes → i < n → {len : ℕ} → len ≡ length (setting_text (variable_of file (get_or table i 0)) (get_or row i 0)) → Measuring file table row n (i + 1) (total + len)
  measuring_more f h e = record {
    within = omega arith;
    counts = omega (arith, inv.counts, e, first_texts_length (setting_at file table row) i);
    bounded = omega (arith, inv.bounded, e, setting_bound file (get_or table i 0) (get_or row i 0) f);
  }

  pub measuring_done : n ≤ i → total ≡ length (first_texts (setting_at file table row) n)
  measuring_done h = let e : i ≡ n = omega (arith, inv.within) in rw e at inv.counts
