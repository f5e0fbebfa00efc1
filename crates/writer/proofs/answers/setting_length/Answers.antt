use native.Mathlib.Omega.{arith}
use Rattle.printing.proofs.DigitLaws.{digits_count}
use Rattle.printing.proofs.PartLaws.{part_length}
use Rattle.writer.proofs.SettingLaws.{setting_length}
use Rattle.writer.proofs.answers.setting_length.Goals as goal

pub overflow_add-result-2 : goal.overflow_add-result-2
overflow_add-result-2 c = omega (arith, digits_count c.args.v)

pub returns : goal.returns
returns c = let name = rw (c.name_length.ensures, c.name_start.ensures) at (part_length c.part-name.ensures) in
    omega (arith, name, setting_length c.args.file.now c.args.word c.args.v)
