-- How long the settings may get.
use Rattle.std.specs.Prelude.{ℕ, ◌+◌, ◌*◌}
use Rattle.edition.specs.Edition.{max_variables, max_file_bytes}
use Rattle.text.specs.Spelling.{max_digits}

-- the settings of as many variables as there may be, with names as long as a file: more than there are
abbrev pub max_settings_length : ℕ
max_settings_length = max_variables * (2 + max_file_bytes + max_digits)
