use Prim.Native.Nat.{◌+◌}
use mathlib.Core.Path.{◌≡◌, sym, ◌∙◌}
use mathlib.Core.Bool.{true}
use mathlib.Core.List.{◌∷◌}
use native.Mathlib.Nat.{le_of_lt}
use lib.ListN.{take, drop}
use borrow.Author.Rules.{rules}
use Rattle.refusal.specs.Result.{refused_as}
use Rattle.text.specs.Lines.{tokens_from}
use Rattle.text.specs.Scan.{token_at}
use Rattle.store.proofs.ExitLaws.{mapped, exit}
use Rattle.answer.specs.Read.{in_answer, solution_of}
use Rattle.answer.proofs.SolutionLaws.{solution_misplaced, solution_missing, solution_other, solution_surplus, solution_read}
use Rattle.answer.proofs.solutions.solution_line.Goals as goal
use Rattle.answer.proofs.solutions.solution_line.Goals.{In-Some, After-map_err}

pub returns-then-solved : goal.returns-then-solved
returns-then-solved c = λ vs next. let a = c.args in rw c.of.ensures (solution_misplaced a.solved vs a.line.now a.at next c.if-solved.true)

pub returns-in_default : goal.returns-in_default
returns-in_default c = λ vs next. let a = c.args in rw c.of-in_default.ensures (solution_missing a.solved vs a.line.now a.at next c.if-solved.false (le_of_lt c.requires) (rw c.in_default.is at c.next_token.ensures.0))

-- a first token
tokens : (c : In-Some) → let a = c.args in let w = c.in-Some.word in tokens_from true (a.at + 1) (drop (a.at + 1) a.line.now) ≡ token_at (take w.stop a.line.now) w.start ∷ tokens_from true w.stop (drop w.stop a.line.now)
tokens c = rw c.in-Some.is at c.next_token.ensures.0

-- what it says
told : (c : After-map_err) → let w = c.in-Some.word in let t = token_at (take w.stop c.args.line.now) w.start in c.map_err.result ≡ refused_as (in_answer t) (solution_of t.bytes)
told c = rw (← c.solution_at.ensures) (mapped _ _ _ c.map_err.ensures.cases (λ fault r k. search rules))

pub returns-in_err-map_err : goal.returns-in_err-map_err
returns-in_err-map_err c = λ vs next. let a = c.args in
    let at = goal.at.returns-in_err-map_err c in
    rw (exit c.from_residual.result c.in_err-map_err.field-0.0 c.from_residual.ensures) (solution_other a.solved vs a.line.now a.at next c.if-solved.false (tokens at.In-Some) _ (sym c.in_err-map_err.was ∙ told at.After-map_err))

pub returns-in_err-no_more_tokens : goal.returns-in_err-no_more_tokens
returns-in_err-no_more_tokens c = λ vs next. let a = c.args in
    let at = goal.at.returns-in_err-no_more_tokens c in
    rw (exit c.from_residual-in_err-no_more_tokens.result c.in_err-no_more_tokens.field-0.0 c.from_residual-in_err-no_more_tokens.ensures) (solution_surplus a.solved vs a.line.now a.at next c.if-solved.false (tokens at.In-Some) (sym c.in_ok-map_err.was ∙ told at.After-map_err) _ (sym c.in_err-no_more_tokens.was ∙ c.no_more_tokens.ensures))

pub returns : goal.returns
returns c = λ vs next. let a = c.args in
    let at = goal.at.returns c in
    solution_read a.solved vs a.line.now a.at next c.if-solved.false (tokens at.In-Some) (sym c.in_ok-map_err.was ∙ told at.After-map_err) (sym c.in_ok-no_more_tokens.was ∙ c.no_more_tokens.ensures)
