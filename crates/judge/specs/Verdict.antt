-- The verdict on a line, and the byte that stands for it in a table.
use Rattle.std.specs.Prelude.{ℕ, cond, eqb}
use Rattle.std.specs.Prelude.{Option, None, Some}
use Rattle.judge.specs.declared.Judged.{Judged}
use Rattle.judge.specs.declared.Verdict.{Verdict}
use Rattle.judge.specs.declared.Verdict.TheVariants.{Violated, Holds, Disregarded}

-- "Verdict bytes: 1 holds, 0 violated, 2 disregarded"
abbrev pub verdict_byte : Verdict → ℕ
verdict_byte Violated = 0
verdict_byte Holds = 1
verdict_byte Disregarded = 2

abbrev pub verdict_violated : ℕ
verdict_violated = verdict_byte Violated

abbrev pub verdict_holds : ℕ
verdict_holds = verdict_byte Holds

abbrev pub verdict_disregarded : ℕ
verdict_disregarded = verdict_byte Disregarded

-- a result against what it must be: the verdict, and the result, 0 where there is none
abbrev pub judged : Option ℕ → ℕ → Judged
judged None goal = record { verdict = Disregarded; result = 0 }
judged (Some r) goal = record { verdict = cond (eqb r goal) Holds Violated; result = r }
