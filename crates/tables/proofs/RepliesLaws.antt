-- Any bytes get one reply of the list. Assumes nothing.
use Prim.Native.Nat.{ℕ}
use mathlib.Core.Path.{◌≡◌, refl}
use mathlib.Core.List.{List}
use lib.ListN.{length}
use Rattle.refusal.specs.Result.{Reply, Ok, Err}
use Rattle.constraint.specs.File.{File}
use Rattle.constraint.specs.Read.{read_file}
use Rattle.judge.specs.declared.Overall.{Overall}
use Rattle.judge.specs.declared.Overall.TheVariants.{Satisfied, Violated, Disregarded}
use Rattle.judge.specs.Judge.{verdict_byte, fresh_verdicts, overall_of}
use Rattle.judge.specs.InUse.{Tables, room_of}
use Rattle.judge.proofs.VerdictLaws.{column_length}
use Rattle.tables.specs.Check.{checking, checked}
use Rattle.tables.specs.Replies.{LineOfFile, IsReply, OneReply}
use Rattle.judge.proofs.OverallLaws.{Place, Named, overall_named}
use Rattle.tables.proofs.CheckingLaws.{checking_steps, checking_refuses}

module _ (constraint : List ℕ) where
  -- the line that a verdict stands for is one of the file's
  module _ (f : File) (e : read_file constraint ≡ Ok f) (vs : List ℕ) (l : length vs ≡ length f.lines) where
    line_of : (n : ℕ) → Place n vs → LineOfFile constraint n
    line_of n p = record { file = f; is_read = e; from = p.from; to = rw (← l) p.to }

    -- so an overall verdict is a reply
    verdict_reply : (o : Overall) → Named o vs → IsReply constraint (Ok o)
    verdict_reply Satisfied p = tt
    verdict_reply (Violated n) p = line_of n p
    verdict_reply (Disregarded n) p = line_of n p

  -- and so is what a check is accepted or refused with
  is_reply : (answer : List ℕ) (t : Tables) (r : Reply (File × List ℕ)) → checking constraint answer (room_of t) ≡ r → IsReply constraint (checked t r).reply
  is_reply answer t (Ok (f, row)) e =
      let vs = fresh_verdicts f row in
      verdict_reply f (checking_steps constraint answer (room_of t) f row e).file vs (column_length (λ j. verdict_byte j.verdict) f.variables row f.lines) (overall_of vs) (overall_named vs)
  is_reply answer t (Err x) e = (checking_refuses constraint answer (room_of t)).holds x e

pub one_reply : OneReply
one_reply constraint answer t = is_reply constraint answer t (checking constraint answer (room_of t)) refl
