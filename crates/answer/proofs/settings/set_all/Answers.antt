use mathlib.Core.Path.{◌≡◌, refl, sym, ◌∙◌}
use borrow.Author.Rules.{rules}
use native.Mathlib.Omega.{arith}
use Rattle.refusal.specs.declared.Subject.TheVariants.{Answer}
use Rattle.refusal.specs.Result.{Ok, refusal}
use Rattle.store.proofs.ExitLaws.{mapped_ok, mapped_err, exit}
use Rattle.text.proofs.TokenLaws.{tokens_end, tokens_done}
use Rattle.answer.proofs.ValueLaws.{Turn, next_turn, storing_done, storing_fault, storing_twice, storing_more}
use Rattle.answer.proofs.settings.set_all.Goals as goal
use Rattle.answer.proofs.settings.set_all.Goals.{Else-start-line, In_ok-set}

pub loop-i-init : goal.loop-i-init
loop-i-init c = let p = c.requires in record { within = p.0; whole = p.3; rest = refl }

pub returns-then-start-line : goal.returns-then-start-line
returns-then-start-line c = (storing_done c.loop-i.invariant (tokens_done c.args.line.now c.loop-i.i _ c.spaces-start.ensures c.if-start-line.true), c.loop-i.invariant.whole)

-- a token is next
turn : (c : Else-start-line) → Turn c.args.line.now c.loop-i.i c.spaces-start.result
turn c = next_turn c.args.line.now c.loop-i.i c.spaces-start.result c.loop-i.invariant.within c.spaces-start.ensures c.if-start-line.false

pub setting-requires : goal.setting-requires
setting-requires c = let p = c.requires in ((turn (goal.at.setting-requires c).Else-start-line).inside, p.1, p.2)

pub returns-in_err-set : goal.returns-in_err-set
returns-in_err-set c =
    let at = goal.at.returns-in_err-set c in
    let m = mapped_err c.map_err.result c.setting.result (λ fault. refusal Answer fault c.spaces-start.result) c.map_err.ensures.cases (λ fault r k. search rules) _ c.in_err-set.was in
    (rw (exit c.from_residual.result c.in_err-set.field-0.0 c.from_residual.ensures, m.2) (storing_fault c.loop-i.invariant (turn at.Else-start-line).tokens (refusal Answer m.0 c.spaces-start.result) (rw m.1 at c.setting.ensures.0)), c.loop-i.invariant.whole)

-- the setting is read
set : (c : In_ok-set) → c.setting.result ≡ Ok c.in_ok-set.set
set c = mapped_ok c.map_err.result c.setting.result (λ fault. refusal Answer fault c.spaces-start.result) c.map_err.ensures.cases (λ fault r k. search rules) _ c.in_ok-set.was

pub returns-then-is_some : goal.returns-then-is_some
returns-then-is_some c =
    let at = goal.at.returns-then-is_some c in
    let q = set at.In_ok-set in
    (rw c.of.ensures (storing_twice c.loop-i.invariant (turn at.Else-start-line).tokens c.in_ok-set.set.variable c.in_ok-set.set.value (rw q at c.setting.ensures.1).0 (rw q at c.setting.ensures.0) (sym c.is_some.ensures ∙ c.if-is_some.true)), c.loop-i.invariant.whole)

pub loop-i-smaller : goal.loop-i-smaller
loop-i-smaller c =
    let at = goal.at.loop-i-smaller c in
    let h = turn at.Else-start-line in
    let s = rw (set at.In_ok-set) at c.setting.ensures.1 in
    omega (arith, h.onward, h.within, s)

pub loop-i-preserved : goal.loop-i-preserved
loop-i-preserved c =
    let at = goal.at.loop-i-preserved c in
    let h = turn at.Else-start-line in
    let q = set at.In_ok-set in
    let s = rw q at c.setting.ensures.1 in
    storing_more c.loop-i.invariant c.in_ok-set.set.stop c.in_ok-set.set.variable c.in_ok-set.set.value (omega (arith, h.within, s)) (rw s.1 h.tokens) s.0 (rw q at c.setting.ensures.0) (sym c.is_some.ensures ∙ c.if-is_some.false)

pub returns : goal.returns
returns c = (storing_done c.loop-i.invariant (tokens_end c.args.line.now c.loop-i.i c.loop-i-test.false), c.loop-i.invariant.whole)
