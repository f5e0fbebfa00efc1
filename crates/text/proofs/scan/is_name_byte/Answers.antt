use Rattle.text.specs.Bytes.{is_name_byte}
use Rattle.text.proofs.scan.is_name_byte.Goals as goal

pub returns : goal.returns
unfolding is_name_byte
returns c = rw (c.is_letter.ensures, c.is_digit.ensures)
