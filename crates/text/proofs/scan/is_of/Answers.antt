use Rattle.text.specs.Scan.{is_of}
use Rattle.text.proofs.scan.is_of.Goals as goal

pub returns-in-Until : goal.returns-in-Until
unfolding is_of
returns-in-Until c = rw c.in-Until.is

pub returns-in-Space : goal.returns-in-Space
unfolding is_of
returns-in-Space c = rw (c.in-Space.is, c.is_space.ensures)

pub returns-in-Solid : goal.returns-in-Solid
unfolding is_of
returns-in-Solid c = rw (c.in-Solid.is, c.is_space-in-Solid.ensures)

pub returns-in-Digit : goal.returns-in-Digit
unfolding is_of
returns-in-Digit c = rw (c.in-Digit.is, c.is_digit.ensures)

pub returns-in-NameByte : goal.returns-in-NameByte
unfolding is_of
returns-in-NameByte c = rw (c.in-NameByte.is, c.is_name_byte.ensures)

pub returns-in-Printing : goal.returns-in-Printing
unfolding is_of
returns-in-Printing c = rw (c.in-Printing.is, c.is_printing.ensures)
