-- `digit_count` meets its contract, by recursion on the value: it without its last digit, and that digit.
use Rattle.printing.proofs.+digit_count.Given as goal

abbrev pub decreases-digit_count : goal.decreases-digit_count
decreases-digit_count l = l.v
