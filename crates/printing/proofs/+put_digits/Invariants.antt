-- `put_digits` meets its contract, by recursion on the value: it without its last digit, and that digit.
use Rattle.printing.proofs.+put_digits.Given as goal

abbrev pub decreases-put_digits : goal.decreases-put_digits
decreases-put_digits l = l.v
