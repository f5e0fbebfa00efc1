-- The editions of the format, and "Sizes of version 1.0 as we keep it".
use Rattle.std.specs.Prelude.{ℕ, Bool, cond, ◌&&◌, eqb, leb}
use Rattle.std.specs.Prelude.{Option, None, Some}
use Rattle.edition.specs.declared.Edition.{Edition}
use Rattle.edition.specs.declared.Limits.{Limits}

-- version 1.0
abbrev pub edition10 : Edition
edition10 = record { major = 1; minor = 0 }

-- the edition of a version's two numbers
unfoldable pub edition_numbered : ℕ → ℕ → Option Edition
edition_numbered major minor = cond (eqb major edition10.major && eqb minor edition10.minor) (Some edition10) None

-- the limits of an edition: bytes of either file, variables, lines of kind `c` or `p`, bytes of a name, bits of a value
abbrev pub limits : Edition → Limits
limits e = record { file = 65536; variables = 256; lines = 1024; name = 32; width = 64 }

-- those of version 1.0, each by its name
abbrev pub max_file_bytes : ℕ
max_file_bytes = (limits edition10).file

abbrev pub max_variables : ℕ
max_variables = (limits edition10).variables

abbrev pub max_lines : ℕ
max_lines = (limits edition10).lines

abbrev pub max_name_bytes : ℕ
max_name_bytes = (limits edition10).name

abbrev pub max_width : ℕ
max_width = (limits edition10).width

-- "widths 1 to 64"
unfoldable pub is_width : ℕ → Bool
is_width k = leb 1 k && leb k max_width
