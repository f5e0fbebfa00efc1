-- A check that is accepted is decided by the contents of the lines. Assumes nothing.
use Prim.Native.Nat.{ℕ, ◌≤◌}
use mathlib.Core.Path.{◌≡◌, refl, ap}
use mathlib.Core.List.{List}
use lib.ListN.{length}
use Rattle.edition.specs.Edition.{max_file_bytes}
use Rattle.refusal.specs.Result.{Reply, Ok, Err}
use Rattle.refusal.proofs.ResultLaws.{never}
use Rattle.text.specs.Endings.{contents}
use Rattle.constraint.specs.File.{File, edition_of}
use Rattle.constraint.proofs.SoundLaws.{accepted_is_sound}
use Rattle.plain.proofs.SameContentsLaws.{contents_decide as file-contents}
use Rattle.judge.specs.declared.Overall.{Overall}
use Rattle.judge.specs.InUse.{Tables, room_of}
use Rattle.answer.proofs.SameContentsLaws.{contents_decide as answer-contents}
use Rattle.tables.specs.Check.{checking, checked}
use Rattle.tables.specs.Claims.{ContentsDecideChecks}
use Rattle.tables.proofs.CheckingLaws.{Steps, checking_steps, steps_checking}

module _ (constraint answer constraint' answer' : List ℕ) (t : Tables) (same : contents constraint ≡ contents constraint') (alike : contents answer ≡ contents answer') (short : length constraint' ≤ max_file_bytes) (brief : length answer' ≤ max_file_bytes) where
  steps_same : (f : File) (row : List ℕ) → Steps constraint answer (room_of t) f row → Steps constraint' answer' (room_of t) f row
  steps_same f row s =
      let sound = accepted_is_sound constraint f s.file in
      record {
        file = file-contents constraint constraint' f same short s.file;
        answered = answer-contents (edition_of f) f.variables sound.variables sound.distinct answer answer' row alike brief s.answered;
        has_room = s.has_room;
      }

  checked_same : (r : Reply (File × List ℕ)) → checking constraint answer (room_of t) ≡ r → (overall : Overall) → (checked t r).reply ≡ Ok overall → checking constraint' answer' (room_of t) ≡ r
  checked_same (Ok (f, row)) e overall q = steps_checking constraint' answer' (room_of t) f row (steps_same f row (checking_steps constraint answer (room_of t) f row e))
  checked_same (Err r) e overall q = never (cc q)

pub contents_decide : ContentsDecideChecks
contents_decide constraint answer constraint' answer' t overall same alike short brief e = ap (checked t) (checked_same constraint answer constraint' answer' t same alike short brief (checking constraint answer (room_of t)) refl overall e)
