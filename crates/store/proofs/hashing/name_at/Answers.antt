use mathlib.Core.Path.{sym, ◌∙◌}
use native.Mathlib.Omega.{arith}
use lib.ListN.{get_or}
use Rattle.text.specs.declared.Class.TheVariants.{NameByte}
use Rattle.text.specs.Scan.{is_of}
use Rattle.text.proofs.RunLaws.{past_more, past_stop, past_end}
use Rattle.text.proofs.FirstByteLaws.{letter_named}
use Rattle.store.proofs.HashLaws.{hash_begin, hash_more, hash_stop, hash_end, hash_name}
use Rattle.store.proofs.hashing.name_at.Goals as goal

pub loop-i-init : goal.loop-i-init
loop-i-init c = let f = c.args.text.now in
    let e = letter_named (get_or f c.args.at 0) c.requires.1 in
    (omega arith, past_more (is_of NameByte) f c.args.at c.requires.0 e, rw c.hash_next-hash.ensures (hash_more (is_of NameByte) f 0 c.args.at c.requires.0 e ∙ hash_begin (is_of NameByte) f c.args.at))

pub loop-i-preserved : goal.loop-i-preserved
unfolding is_of
loop-i-preserved c = let h = c.loop-i-test.true in
    let f = c.args.text.now in
    let e = sym c.is_name_byte.ensures ∙ c.if-is_name_byte.true in
    (omega arith, past_more (is_of NameByte) f c.loop-i.i h e ∙ c.loop-i.invariant.1, rw c.hash_next-hash-then-is_name_byte.ensures (hash_more (is_of NameByte) f c.loop-i.hash c.loop-i.i h e ∙ c.loop-i.invariant.2))

pub returns-else-is_name_byte : goal.returns-else-is_name_byte
unfolding is_of
returns-else-is_name_byte c = let h = c.loop-i-test.true in
    let f = c.args.text.now in
    let e = sym c.is_name_byte.ensures ∙ c.if-is_name_byte.false in
    let stop = sym (past_stop (is_of NameByte) f c.loop-i.i h e) ∙ c.loop-i.invariant.1 in
    (stop, sym (hash_stop (is_of NameByte) f c.loop-i.hash c.loop-i.i h e) ∙ c.loop-i.invariant.2 ∙ hash_name (is_of NameByte) f c.args.at c.loop-i.i (omega arith) stop)

pub returns : goal.returns
returns c = let f = c.args.text.now in
    let stop = sym (past_end (is_of NameByte) f c.loop-i.i c.loop-i-test.false) ∙ c.loop-i.invariant.1 in
    (stop, sym (hash_end (is_of NameByte) f c.loop-i.hash c.loop-i.i c.loop-i-test.false) ∙ c.loop-i.invariant.2 ∙ hash_name (is_of NameByte) f c.args.at c.loop-i.i (omega arith) stop)
