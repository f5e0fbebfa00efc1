use Prim.Native.Nat.{◌≤◌, ◌<◌}
use mathlib.Core.Path.{◌∙◌}
use native.Mathlib.Omega.{arith}
use lib.ListN.{length, drop_of_length-le}
use lib.Seq.{drop-cons}
use Rattle.text.specs.Scan.{ends_token}
use Rattle.text.proofs.scan.token_ends.Goals as goal

-- `token_ends` meets its contract: the line ends there, or the byte says it.
pub returns-then-at-line : goal.returns-then-at-line
unfolding ends_token
returns-then-at-line c = let a = c.args in
    let h : length a.line.now ≤ a.at = omega arith in
    rw (drop_of_length-le a.line.now h)

pub returns : goal.returns
unfolding ends_token
returns c = let a = c.args in
    let h : a.at < length a.line.now = omega arith in
    c.is_space.ensures ∙ rw (drop-cons a.line.now a.at 0 h)
