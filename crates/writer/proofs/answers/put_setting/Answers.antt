use mathlib.Core.Path.{◌≡◌}
use native.Mathlib.Omega.{arith}
use lib.ListN.{length, take, drop}
use Rattle.store.specs.Tables.{name_start, name_length}
use Rattle.writer.proofs.SettingLaws.{setting_length, put_setting}
use Rattle.writer.proofs.answers.put_setting.Goals as goal

pub put_byte-name-requires : goal.put_byte-name-requires
put_byte-name-requires c = omega (arith, c.requires, setting_length c.args.file.now c.args.word c.args.v)

pub put_part-equals-requires : goal.put_part-equals-requires
put_part-equals-requires c = let name : length (take c.name_length.result (drop c.name_start.result c.args.file.now)) ≡ length (take (name_length c.args.word) (drop (name_start c.args.word) c.args.file.now)) = rw (c.name_length.ensures, c.name_start.ensures) in
    omega (arith, c.requires, setting_length c.args.file.now c.args.word c.args.v, name)

pub put_byte-value-requires : goal.put_byte-value-requires
put_byte-value-requires c = let name : length (take c.name_length.result (drop c.name_start.result c.args.file.now)) ≡ length (take (name_length c.args.word) (drop (name_start c.args.word) c.args.file.now)) = rw (c.name_length.ensures, c.name_start.ensures) in
    omega (arith, c.requires, setting_length c.args.file.now c.args.word c.args.v, name)

pub put_digits-requires : goal.put_digits-requires
put_digits-requires c = let name : length (take c.name_length.result (drop c.name_start.result c.args.file.now)) ≡ length (take (name_length c.args.word) (drop (name_start c.args.word) c.args.file.now)) = rw (c.name_length.ensures, c.name_start.ensures) in
    omega (arith, c.requires, setting_length c.args.file.now c.args.word c.args.v, name)

pub returns : goal.returns
returns c = let name = rw (c.name_length.ensures, c.name_start.ensures) at c.put_part-equals.ensures in
    put_setting _ _ _ c.requires c.put_byte-name.ensures name c.put_byte-value.ensures c.put_digits.ensures
