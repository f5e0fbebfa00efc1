-- A part of the file: as many bytes from a place as there are. Assumes nothing.
use mathlib.Core.Path.{◌≡◌, sym, ap, ◌∙◌}
use mathlib.Core.List.{List}
use Prim.Native.Nat.{ℕ, ◌+◌, ◌-◌, ◌≤◌, ◌<◌}
use native.Mathlib.Omega.{arith}
use lib.ListN.{length, take, drop, length-drop, drop_of_length-le}
use lib.Seq.{take-nil, take_all, take-length, length-slice}
use Rattle.text.specs.declared.Span.{Span}
use Rattle.text.proofs.RunLaws.{drop-take}
use Rattle.printing.specs.Parts.{Part}

-- the place lies behind the file, the file ends before the bytes do, or all are there
module _ (file : List ℕ) (start len : ℕ) where
  pub part_none : length file < start → Part file (take len (drop start file)) (record { start = 0; stop = 0 })
  part_none h = record {
    forward = omega arith;
    within = omega arith;
    bytes = sym (ap (take len) (drop_of_length-le file {i = start} (omega arith)) ∙ take-nil len);
  }

  pub part_rest : start ≤ length file → length file - start < len → Part file (take len (drop start file)) (record { start = start; stop = length file })
  part_rest h k = record {
    forward = h;
    within = omega arith;
    bytes = ap (drop start) (take-length file) ∙ sym (take_all len (drop start file) (omega (arith, length-drop start file)));
  }

  pub part_whole : start ≤ length file → len ≤ length file - start → Part file (take len (drop start file)) (record { start = start; stop = start + len })
  part_whole h k = record {
    forward = omega arith;
    within = omega arith;
    bytes = drop-take start len file h;
  }

-- its bytes and its length, counted from its start
module _ {file text : List ℕ} {part : Span} (p : Part file text part) where
  pub part_bytes : take (part.stop - part.start) (drop part.start file) ≡ text
  part_bytes =
      let e : part.start + (part.stop - part.start) ≡ part.stop = omega (arith, p.forward) in
      sym (drop-take part.start (part.stop - part.start) file (omega (arith, p.forward, p.within))) ∙ ap (λ n. drop part.start (take n file)) e ∙ p.bytes

  pub part_length : part.stop - part.start ≡ length text
  part_length = sym (length-slice part.start part.stop file p.within) ∙ ap length p.bytes
