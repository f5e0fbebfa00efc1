use Prim.Native.Nat.{◌≤◌, ◌<◌}
use mathlib.Core.Path.{◌≡◌, sym, ap, ◌∙◌}
use mathlib.Core.Bool.{true}
use native.Mathlib.Omega.{arith}
use lib.ListN.{length, get_or, take, drop}
use lib.Seq.{length-take-le}
use Rattle.refusal.specs.Result.{Ok, Err}
use Rattle.text.specs.Bytes.{is_letter}
use Rattle.text.specs.declared.Class.TheVariants.{Solid}
use Rattle.text.specs.declared.NumberError.TheVariants.{TooBig, NotANumber}
use Rattle.text.specs.Scan.{Number, is_of, past, token_from}
use Rattle.text.proofs.FirstByteLaws.{name_bounds, name_whole}
use Rattle.store.specs.Tables.{variables_in}
use Rattle.answer.specs.Read.{setting_of}
use Rattle.answer.specs.Internal.{setting_named}
use Rattle.answer.proofs.SettingLaws.{said, setting_by, setting_not, setting_stop, setting_read}
use Rattle.answer.proofs.settings.setting.Goals as goal
use Rattle.answer.proofs.settings.setting.Goals.{After-value_at-value}

pub returns-then-not-is_letter : goal.returns-then-not-is_letter
returns-then-not-is_letter c = (setting_not (variables_in c.args.file.now c.args.variables.now c.args.n) c.args.line.now c.args.at c.requires.0 ((sym c.is_letter.ensures ∙ c.if-not-is_letter.true)), tt)

pub name_at-name-requires : goal.name_at-name-requires
name_at-name-requires c =
    let letter : (let a = c.args in is_letter (get_or a.line.now a.at 0) ≡ true) = (sym c.is_letter.ensures ∙ c.if-not-is_letter.false) in
    (c.requires.0, letter)

pub value_at-value-requires : goal.value_at-value-requires
value_at-value-requires c =
    let letter : (let a = c.args in is_letter (get_or a.line.now a.at 0) ≡ true) = (sym c.is_letter.ensures ∙ c.if-not-is_letter.false) in
    let bounds : ((c.args.at < c.name_at-name.result.stop) × (c.name_at-name.result.stop ≤ length c.args.line.now)) = name_bounds c.args.line.now c.args.at c.requires.0 letter _ c.name_at-name.ensures.0 in
    bounds.1

pub slice_bounds-text-end : goal.slice_bounds-text-end
slice_bounds-text-end c =
    let letter : (let a = c.args in is_letter (get_or a.line.now a.at 0) ≡ true) = (sym c.is_letter.ensures ∙ c.if-not-is_letter.false) in
    let bounds : ((c.args.at < c.name_at-name.result.stop) × (c.name_at-name.result.stop ≤ length c.args.line.now)) = name_bounds c.args.line.now c.args.at c.requires.0 letter _ c.name_at-name.ensures.0 in
    let long : (length (take c.name_at-name.result.stop c.args.line.now) ≡ c.name_at-name.result.stop) = length-take-le c.name_at-name.result.stop c.args.line.now bounds.1 in
    sym long

pub setting_of-requires : goal.setting_of-requires
setting_of-requires c =
    let letter : (let a = c.args in is_letter (get_or a.line.now a.at 0) ≡ true) = (sym c.is_letter.ensures ∙ c.if-not-is_letter.false) in
    let bounds : ((c.args.at < c.name_at-name.result.stop) × (c.name_at-name.result.stop ≤ length c.args.line.now)) = name_bounds c.args.line.now c.args.at c.requires.0 letter _ c.name_at-name.ensures.0 in
    let long : (length (take c.name_at-name.result.stop c.args.line.now) ≡ c.name_at-name.result.stop) = length-take-le c.name_at-name.result.stop c.args.line.now bounds.1 in
    let p = c.requires in
    (omega (arith, long, bounds), p.1, p.2, c.name_at-name.ensures.1)

-- what is said of the token, by what its value is read as
said_by : (c : After-value_at-value) → (number : Number) → c.value_at-value.result.number ≡ number → let a = c.args in said (token_from a.line.now a.at) (setting_by true number (setting_named (variables_in a.file.now a.variables.now a.n) (drop a.at (take c.name_at-name.result.stop a.line.now)) c.value_at-value.result.stop)) ≡ setting_of (variables_in a.file.now a.variables.now a.n) (token_from a.line.now a.at)
said_by c number k =
    let letter : (let a = c.args in is_letter (get_or a.line.now a.at 0) ≡ true) = (sym c.is_letter.ensures ∙ c.if-not-is_letter.false) in
    setting_read c.args.line.now c.args.at _ (omega (arith, c.requires.0)) c.name_at-name.ensures.0 (variables_in c.args.file.now c.args.variables.now c.args.n) _ true number (sym (name_whole c.args.line.now c.args.at c.requires.0 letter _ c.name_at-name.ensures.0)) (sym k ∙ c.value_at-value.ensures.0)

pub returns-in-Err-NotANumber : goal.returns-in-Err-NotANumber
returns-in-Err-NotANumber c =
    let k = rw c.in-Err-NotANumber.is at c.in-Err-NotANumber.field-0-is in
    (said_by (goal.at.returns-in-Err-NotANumber c).After-value_at-value (Err NotANumber) (rw k at c.in-Err-NotANumber.is), tt)

pub returns-in-Err-TooBig : goal.returns-in-Err-TooBig
returns-in-Err-TooBig c =
    let k = rw c.in-Err-TooBig.is at c.in-Err-TooBig.field-0-is in
    (said_by (goal.at.returns-in-Err-TooBig c).After-value_at-value (Err TooBig) (rw k at c.in-Err-TooBig.is), tt)

pub returns-in-Ok : goal.returns-in-Ok
returns-in-Ok c =
    let a = c.args in
    let stops : (c.value_at-value.result.stop ≡ past (is_of Solid) a.line.now a.at) = rw c.in-Ok.is at c.value_at-value.ensures.1 ∙ setting_stop a.line.now a.at _ (omega (arith, c.requires.0)) c.name_at-name.ensures.0 in
    (ap (said (token_from a.line.now a.at)) c.setting_of.ensures.0 ∙ said_by (goal.at.returns-in-Ok c).After-value_at-value (Ok _) c.in-Ok.is, rw stops at c.setting_of.ensures.1)
