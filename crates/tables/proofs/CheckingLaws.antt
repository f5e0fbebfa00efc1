-- A check is accepted where each of its steps is, and refused with a fault of the list. Assumes nothing.
use Prim.Native.Nat.{ℕ}
use mathlib.Core.Path.{◌≡◌, refl}
use mathlib.Core.List.{List}
use Rattle.refusal.specs.Lists.{first_from, is_one_of}
use Rattle.refusal.specs.Result.{Ok}
use Rattle.refusal.proofs.ResultLaws.{Yields, yields_accepted, yields_bind, yields_then, yields_itself}
use Rattle.constraint.specs.File.{File}
use Rattle.constraint.specs.Read.{read_file}
use Rattle.judge.specs.InUse.{Room, EnoughRoom, tables_room}
use Rattle.judge.proofs.RoomLaws.{room_accepted, accepted_room, room_refuses}
use Rattle.answer.specs.Read.{read_answer}
use Rattle.tables.specs.Check.{checking_for, checking}
use Rattle.tables.specs.Replies.{faults_of}
use Rattle.refusal.proofs.RefusesLaws.{Refuses, refuses_accepted, refuses_bind, refuses_then}
use Rattle.tables.proofs.KnownLaws.{Known, file_known, answer_known}

-- the steps of a check that is accepted
pub record Steps (constraint answer : List ℕ) (lent : Room) (f : File) (row : List ℕ) : Type 0 where
  pub file : read_file constraint ≡ Ok f
  pub answered : read_answer f.variables answer ≡ Ok row
  pub has_room : EnoughRoom f lent

module _ (constraint answer : List ℕ) (lent : Room) where
  -- where it is accepted each step is, and the other way round
  checking_yields : Yields (λ p. Steps constraint answer lent p.0 p.1) (checking constraint answer lent)
  unfolding checking checking_for
  checking_yields =
      yields_bind (yields_itself (read_file constraint)) λ f a.
      yields_bind (yields_bind (yields_itself (read_answer f.variables answer)) λ row b.
      yields_then (tables_room f lent) λ h.
      yields_accepted (record { file = a; answered = b; has_room = accepted_room f lent h })) λ row s.
      yields_accepted s

  pub checking_steps : (f : File) (row : List ℕ) → checking constraint answer lent ≡ Ok (f, row) → Steps constraint answer lent f row
  checking_steps f row = checking_yields.holds (f, row)

  pub steps_checking : (f : File) (row : List ℕ) → Steps constraint answer lent f row → checking constraint answer lent ≡ Ok (f, row)
  unfolding checking checking_for
  steps_checking f row s = rw (s.file, s.answered, ← (room_accepted f lent s.has_room))

  -- where it is refused, it is with a fault of the list
  pub checking_refuses : Refuses Known (checking constraint answer lent)
  unfolding checking checking_for faults_of is_one_of first_from
  checking_refuses =
      refuses_bind (file_known constraint) λ f.
      refuses_bind (refuses_bind (answer_known f.variables answer) λ row.
      refuses_then (room_refuses f lent refl refl refl)
      refuses_accepted) λ row.
      refuses_accepted
