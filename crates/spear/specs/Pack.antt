-- One 64-bit word for a whole reply: what the calls on a caller's tables answer to a C program.
use Rattle.std.specs.Prelude.{ℕ, ◌+◌, ◌-◌, ◌*◌, ◌/◌, ◌%◌, ◌^◌, ◌≡◌, cond, ◌↔◌, List, [], ◌∷◌, eqb, get_or}
use Rattle.refusal.specs.declared.Refusal.{Refusal}
use Rattle.refusal.specs.declared.Fault.{Fault}
use Rattle.refusal.specs.declared.Fault.TheVariants.{FileTooLong, ByteNotAllowed, UnknownLine, MisplacedLine, WrongVersion, WrongExpectation, TokenCount, Misspelt, NotAWidth, NumberTooLarge, OverLimit, NameTaken, NotDeclared, UnknownOperator, TypeRuleBroken, NoSolutionWord, NotSatisfiable, ValueDoesNotFit, SetTwice, NotSet, TooShort, NotSatisfied, NoSuchVariable, HeldDoesNotFit, WrongIndex}
use Rattle.refusal.specs.declared.Subject.{Subject}
use Rattle.refusal.specs.declared.Subject.TheVariants.{Constraint, Answer, Values, Verdicts, Output, Call, Starts, Lists, Results}
use Rattle.refusal.specs.Fault.{number_of}
use Rattle.refusal.specs.Result.{Reply, Ok, Err, refusal}
use Rattle.judge.specs.Judge.{overall_number}
use Rattle.judge.specs.declared.Overall.{Overall}
use Rattle.judge.specs.declared.Overall.TheVariants.{Satisfied, Violated, Disregarded}
use Rattle.judge.specs.InUse.{Tables, room_of}
use Rattle.moves.specs.declared.Effect.{Effect}
use Rattle.printing.specs.Output.{WriteOutcome}
use Rattle.writer.specs.Write.{write_outcome}
use Rattle.tables.specs.Check.{CheckOutcome, check_outcome}
use Rattle.tables.specs.Claims.{Satisfies}
use Rattle.clean.specs.Clean.{clean_outcome}
use Rattle.index.specs.Index.{IndexOutcome, index_outcome}
use Rattle.moves.specs.Gate.{Call as ChangeCall}
use Rattle.moves.specs.Change.{Outcome, change_outcome}

-- PACKING

-- a kind in the lowest byte, three numbers of 16 bits above it, and one of 8 bits on top
unfoldable pub verdict_word : ℕ → ℕ → ℕ → ℕ → ℕ → ℕ
verdict_word kind line named altered bits = kind + line % 2 ^ 16 * 2 ^ 8 + named % 2 ^ 16 * 2 ^ 24 + altered % 2 ^ 16 * 2 ^ 40 + bits % 2 ^ 8 * 2 ^ 56

-- the kind of a refusal; that of a verdict is its number
abbrev pub kind_refused : ℕ
kind_refused = 3

-- that kind in the lowest byte, the number and the subject in a byte each, and the position in 40 bits
unfoldable pub refusal_word : ℕ → ℕ → ℕ → ℕ
refusal_word number subject position = kind_refused + number % 2 ^ 8 * 2 ^ 8 + subject % 2 ^ 8 * 2 ^ 16 + position % 2 ^ 40 * 2 ^ 24

-- the kind of a text that is written, and of an index that is built
abbrev pub kind_done : ℕ
kind_done = 4

-- that kind in the lowest byte, and above it the text's length, or how many lines are listed
unfoldable pub done_word : ℕ → ℕ
done_word length = kind_done + length % 2 ^ 56 * 2 ^ 8

-- the line of a verdict, 0 where it names none
abbrev pub deciding_line : Overall → ℕ
deciding_line Satisfied = 0
deciding_line (Violated n) = n
deciding_line (Disregarded n) = n

-- what a refusal speaks of, by number
abbrev pub subject_number : Subject → ℕ
subject_number Constraint = 0
subject_number Answer = 1
subject_number Values = 2
subject_number Verdicts = 3
subject_number Output = 4
subject_number Call = 5
subject_number Starts = 6
subject_number Lists = 7
subject_number Results = 8

abbrev pub pack_refusal : Refusal → ℕ
pack_refusal r = refusal_word (number_of r.fault) (subject_number r.subject) r.position

abbrev pub pack_check : Reply Overall → ℕ
pack_check (Ok o) = verdict_word (overall_number o) (deciding_line o) 0 0 0
pack_check (Err r) = pack_refusal r

abbrev pub pack_change : Reply Effect → ℕ
pack_change (Ok e) = verdict_word (overall_number e.overall) (deciding_line e.overall) e.named e.altered e.bits
pack_change (Err r) = pack_refusal r

-- of a text that is written, and of an index that is built
abbrev pub pack_count : Reply ℕ → ℕ
pack_count (Ok n) = done_word n
pack_count (Err r) = pack_refusal r

-- UNPACKING, as the macros of the header do it

-- the n bits of a word from bit i on
abbrev pub bits_from : ℕ → ℕ → ℕ → ℕ
bits_from word i n = word / 2 ^ i % 2 ^ n

abbrev pub kind_in : ℕ → ℕ
kind_in word = bits_from word 0 8

abbrev pub overall_in : ℕ → Overall
overall_in word = cond (eqb (kind_in word) 0) Satisfied (cond (eqb (kind_in word) 1) (Violated (bits_from word 8 16)) (Disregarded (bits_from word 8 16)))

-- the fault of a number, from 1, and the subject of one
abbrev pub faults : List Fault
faults =
    FileTooLong ∷ ByteNotAllowed ∷ UnknownLine ∷ MisplacedLine ∷ WrongVersion
    ∷ WrongExpectation ∷ TokenCount ∷ Misspelt ∷ NotAWidth ∷ NumberTooLarge
    ∷ OverLimit ∷ NameTaken ∷ NotDeclared ∷ UnknownOperator ∷ TypeRuleBroken
    ∷ NoSolutionWord ∷ NotSatisfiable ∷ ValueDoesNotFit ∷ SetTwice ∷ NotSet
    ∷ TooShort ∷ NotSatisfied ∷ NoSuchVariable ∷ HeldDoesNotFit ∷ WrongIndex ∷ []

abbrev pub fault_in : ℕ → Fault
fault_in n = get_or faults (n - 1) WrongIndex

abbrev pub subject_in : ℕ → Subject
subject_in n = cond (eqb n 0) Constraint (cond (eqb n 1) Answer (cond (eqb n 2) Values (cond (eqb n 3) Verdicts (cond (eqb n 4) Output (cond (eqb n 5) Call (cond (eqb n 6) Starts (cond (eqb n 7) Lists Results)))))))

abbrev pub refusal_in : ℕ → Refusal
refusal_in word = refusal (subject_in (bits_from word 16 8)) (fault_in (bits_from word 8 8)) (bits_from word 24 40)

abbrev pub effect_in : ℕ → Effect
effect_in word = record { overall = overall_in word; named = bits_from word 24 16; altered = bits_from word 40 16; bits = bits_from word 56 8 }

abbrev pub check_in : ℕ → Reply Overall
check_in word = cond (eqb (kind_in word) kind_refused) (Err (refusal_in word)) (Ok (overall_in word))

abbrev pub change_in : ℕ → Reply Effect
change_in word = cond (eqb (kind_in word) kind_refused) (Err (refusal_in word)) (Ok (effect_in word))

abbrev pub count_in : ℕ → Reply ℕ
count_in word = cond (eqb (kind_in word) kind_refused) (Err (refusal_in word)) (Ok (bits_from word 8 56))

-- NOTHING IS LOST

-- what a call answers is what its word unpacks to
abbrev pub CheckKept : Type 0
CheckKept = (constraint answer : List ℕ) (t : Tables) → check_in (pack_check (check_outcome constraint answer t).reply) ≡ (check_outcome constraint answer t).reply

abbrev pub ChangeKept : Type 0
ChangeKept = (constraint : List ℕ) (t : Tables) (c : ChangeCall) → change_in (pack_change (change_outcome constraint t c).reply) ≡ (change_outcome constraint t c).reply

abbrev pub IndexKept : Type 0
IndexKept = (constraint starts lists : List ℕ) → count_in (pack_count (index_outcome constraint starts lists).reply) ≡ (index_outcome constraint starts lists).reply

abbrev pub CleanKept : Type 0
CleanKept = (constraint output : List ℕ) → count_in (pack_count (clean_outcome constraint output).reply) ≡ (clean_outcome constraint output).reply

abbrev pub WriteKept : Type 0
WriteKept = (constraint values output : List ℕ) → count_in (pack_count (write_outcome constraint values output).reply) ≡ (write_outcome constraint values output).reply

-- DEMAND 2: the kind of a check's word is 0 exactly when the answer satisfies the constraint file and the tables are long enough
abbrev pub KindZeroExactly : Type 0
KindZeroExactly =
    (constraint answer : List ℕ) (t : Tables)
    → (kind_in (pack_check (check_outcome constraint answer t).reply) ≡ 0) ↔ Satisfies constraint answer (room_of t)

-- THE CALLS: the word and the tables at exit
pub record Packed : Type 0 where
  pub word : ℕ
  pub tables : Tables

abbrev pub packed_check : CheckOutcome → Packed
packed_check o = record { word = pack_check o.reply; tables = o.tables }

abbrev pub packed_change : Outcome → Packed
packed_change o = record { word = pack_change o.reply; tables = o.tables }

-- of the building of an index: the word and its two tables at exit
pub record PackedIndex : Type 0 where
  pub word : ℕ
  pub starts : List ℕ
  pub lists : List ℕ

abbrev pub packed_index : IndexOutcome → PackedIndex
packed_index o = record { word = pack_count o.reply; starts = o.starts; lists = o.lists }

-- of a writer: the word and the output room at exit
pub record PackedText : Type 0 where
  pub word : ℕ
  pub output : List ℕ

abbrev pub packed_write : WriteOutcome → PackedText
packed_write o = record { word = pack_count o.reply; output = o.output }
