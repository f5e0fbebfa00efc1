use native.Mathlib.Omega.{arith}
use Rattle.clean.proofs.TokenLaws.{declaration_length, put_declaration}
use Rattle.clean.proofs.tokens.put_declaration.Goals as goal

pub put_part-width-requires : goal.put_part-width-requires
put_part-width-requires c = rw (c.name_length.ensures, c.name_start.ensures) (omega (arith, c.requires.1, declaration_length c.args.file.now c.args.word))

pub put_type-requires : goal.put_type-requires
put_type-requires c = let name = rw (c.name_length.ensures, c.name_start.ensures) at c.put_part-width.ensures.ends in
    rw c.word_width.ensures (c.requires.0, omega (arith, c.requires.1, name, declaration_length c.args.file.now c.args.word))

pub returns : goal.returns
returns c = let name = rw (c.name_length.ensures, c.name_start.ensures) at c.put_part-width.ensures in
    let type = rw c.word_width.ensures at c.put_type.ensures in
    put_declaration _ _ c.requires.1 c.put_byte-name.ensures name type
