-- What a writer's call answers, and what it leaves in the output room.
use Rattle.std.specs.Prelude.{ℕ, List, ◌++◌, leb, length, drop}
use Rattle.refusal.specs.declared.Subject.TheVariants.{Output}
use Rattle.refusal.specs.declared.Fault.TheVariants.{TooShort}
use Rattle.refusal.specs.Result.{Reply, Ok, Err, refusal, ensure, ◌>>◌}

-- a text, if there is room for it: 21, which speaks of the output
abbrev pub room_for : List ℕ → ℕ → Reply (List ℕ)
room_for text room = ensure (leb (length text) room) (refusal Output TooShort 0) >> Ok text

-- the reply, how long the text is, and the output room at exit
pub record WriteOutcome : Type 0 where
  pub reply : Reply ℕ
  pub output : List ℕ

-- accepted, the text stands in front of what was behind it: a writer "reports its length and changes nothing behind it". Refused, nothing changes
abbrev pub written : List ℕ → Reply (List ℕ) → WriteOutcome
written output (Ok text) = record { reply = Ok (length text); output = text ++ drop (length text) output }
written output (Err r) = record { reply = Err r; output = output }
