-- A reply whose numbers are in range is what its word unpacks to. Assumes nothing.
use Prim.Native.Nat.{ℕ, ◌<◌, ◌^◌}
use mathlib.Core.Path.{◌≡◌, refl, ap, ◌∙◌}
use mathlib.Core.Bool.{cond}
use native.Mathlib.Omega.{arith}
use lib.Dec.{eqb}
use Rattle.refusal.specs.declared.Refusal.{Refusal}
use Rattle.refusal.specs.declared.Fault.{Fault}
use Rattle.refusal.specs.declared.Fault.TheVariants.{FileTooLong, ByteNotAllowed, UnknownLine, MisplacedLine, WrongVersion, WrongExpectation, TokenCount, Misspelt, NotAWidth, NumberTooLarge, OverLimit, NameTaken, NotDeclared, UnknownOperator, TypeRuleBroken, NoSolutionWord, NotSatisfiable, ValueDoesNotFit, SetTwice, NotSet, TooShort, NotSatisfied, NoSuchVariable, HeldDoesNotFit, WrongIndex}
use Rattle.refusal.specs.Fault.{number_of}
use Rattle.refusal.specs.Result.{Reply, Ok, Err}
use Rattle.refusal.specs.declared.Subject.{Subject}
use Rattle.refusal.specs.declared.Subject.TheVariants.{Constraint, Answer, Values, Verdicts, Output, Call, Starts, Lists, Results}
use Rattle.judge.specs.declared.Overall.{Overall}
use Rattle.judge.specs.declared.Overall.TheVariants.{Satisfied, Violated, Disregarded}
use Rattle.judge.specs.Judge.{overall_number}
use Rattle.moves.specs.declared.Effect.{Effect}
use Rattle.spear.specs.Pack.{verdict_word, refusal_word, done_word, deciding_line, subject_number, pack_refusal, pack_check, pack_change, pack_count, kind_refused, kind_done, bits_from, kind_in, overall_in, fault_in, subject_in, refusal_in, check_in, change_in, count_in}

-- ---- the parts of a word are the numbers it was made of
pub record VerdictParts (word kind line named altered bits : ℕ) : Type 0 where
  pub kind_in_lem : kind_in word ≡ kind
  pub line_in_lem : bits_from word 8 16 ≡ line
  pub named_in : bits_from word 24 16 ≡ named
  pub altered_in : bits_from word 40 16 ≡ altered
  pub bits_in : bits_from word 56 8 ≡ bits

pub verdict_parts : (kind line named altered bits : ℕ) → kind < 3 → line < 2 ^ 16 → named < 2 ^ 16 → altered < 2 ^ 16 → bits < 2 ^ 8 → VerdictParts (verdict_word kind line named altered bits) kind line named altered bits
unfolding verdict_word
verdict_parts kind line named altered bits k l n a b = record { kind_in_lem = omega arith; line_in_lem = omega arith; named_in = omega arith; altered_in = omega arith; bits_in = omega arith }

pub record RefusalParts (word number subject position : ℕ) : Type 0 where
  pub kind_in_lem : kind_in word ≡ kind_refused
  pub number_in : bits_from word 8 8 ≡ number
  pub subject_in_lem : bits_from word 16 8 ≡ subject
  pub position_in : bits_from word 24 40 ≡ position

pub refusal_parts : (number subject position : ℕ) → number < 2 ^ 8 → subject < 2 ^ 8 → position < 2 ^ 40 → RefusalParts (refusal_word number subject position) number subject position
unfolding refusal_word
refusal_parts number subject position n s p = record { kind_in_lem = omega arith; number_in = omega arith; subject_in_lem = omega arith; position_in = omega arith }

record DoneParts (word n : ℕ) : Type 0 where
  pub kind_in_lem : kind_in word ≡ kind_done
  pub length_in : bits_from word 8 56 ≡ n

done_parts : (n : ℕ) → n < 2 ^ 56 → DoneParts (done_word n) n
unfolding done_word
done_parts n h = record { kind_in_lem = omega arith; length_in = omega arith }

-- ---- an overall verdict by its number and its line, a fault and a subject by their numbers
pub overall_small : (o : Overall) → overall_number o < 3
overall_small Satisfied = omega arith
overall_small (Violated n) = omega arith
overall_small (Disregarded n) = omega arith

overall_back : (o : Overall) (word : ℕ) → kind_in word ≡ overall_number o → bits_from word 8 16 ≡ deciding_line o → overall_in word ≡ o
overall_back Satisfied word k l = rw k
overall_back (Violated n) word k l = rw (k, l)
overall_back (Disregarded n) word k l = rw (k, l)

no_refusal : {A : Type 0} (o : Overall) (word : ℕ) (x y : A) → kind_in word ≡ overall_number o → cond (eqb (kind_in word) kind_refused) x y ≡ y
no_refusal Satisfied word x y k = rw k
no_refusal (Violated n) word x y k = rw k
no_refusal (Disregarded n) word x y k = rw k

fault_small : (f : Fault) → number_of f < 2 ^ 8
fault_small FileTooLong = omega arith
fault_small ByteNotAllowed = omega arith
fault_small UnknownLine = omega arith
fault_small MisplacedLine = omega arith
fault_small WrongVersion = omega arith
fault_small WrongExpectation = omega arith
fault_small TokenCount = omega arith
fault_small Misspelt = omega arith
fault_small NotAWidth = omega arith
fault_small NumberTooLarge = omega arith
fault_small OverLimit = omega arith
fault_small NameTaken = omega arith
fault_small NotDeclared = omega arith
fault_small UnknownOperator = omega arith
fault_small TypeRuleBroken = omega arith
fault_small NoSolutionWord = omega arith
fault_small NotSatisfiable = omega arith
fault_small ValueDoesNotFit = omega arith
fault_small SetTwice = omega arith
fault_small NotSet = omega arith
fault_small TooShort = omega arith
fault_small NotSatisfied = omega arith
fault_small NoSuchVariable = omega arith
fault_small HeldDoesNotFit = omega arith
fault_small WrongIndex = omega arith

fault_back : (f : Fault) → fault_in (number_of f) ≡ f
fault_back FileTooLong = refl
fault_back ByteNotAllowed = refl
fault_back UnknownLine = refl
fault_back MisplacedLine = refl
fault_back WrongVersion = refl
fault_back WrongExpectation = refl
fault_back TokenCount = refl
fault_back Misspelt = refl
fault_back NotAWidth = refl
fault_back NumberTooLarge = refl
fault_back OverLimit = refl
fault_back NameTaken = refl
fault_back NotDeclared = refl
fault_back UnknownOperator = refl
fault_back TypeRuleBroken = refl
fault_back NoSolutionWord = refl
fault_back NotSatisfiable = refl
fault_back ValueDoesNotFit = refl
fault_back SetTwice = refl
fault_back NotSet = refl
fault_back TooShort = refl
fault_back NotSatisfied = refl
fault_back NoSuchVariable = refl
fault_back HeldDoesNotFit = refl
fault_back WrongIndex = refl

subject_small : (s : Subject) → subject_number s < 2 ^ 8
subject_small Constraint = omega arith
subject_small Answer = omega arith
subject_small Values = omega arith
subject_small Verdicts = omega arith
subject_small Output = omega arith
subject_small Call = omega arith
subject_small Starts = omega arith
subject_small Lists = omega arith
subject_small Results = omega arith

subject_back : (s : Subject) → subject_in (subject_number s) ≡ s
subject_back Constraint = refl
subject_back Answer = refl
subject_back Values = refl
subject_back Verdicts = refl
subject_back Output = refl
subject_back Call = refl
subject_back Starts = refl
subject_back Lists = refl
subject_back Results = refl

-- ---- a refusal in range
pub record RefusalFits (r : Refusal) : Type 0 where
  pub position : r.position < 2 ^ 40

module _ (r : Refusal) (h : RefusalFits r) where
  parts : RefusalParts (pack_refusal r) (number_of r.fault) (subject_number r.subject) r.position
  parts = refusal_parts (number_of r.fault) (subject_number r.subject) r.position (fault_small r.fault) (subject_small r.subject) h.position

  refusal_back : refusal_in (pack_refusal r) ≡ r
  refusal_back = rw (parts.number_in, parts.subject_in_lem, parts.position_in, fault_back r.fault, subject_back r.subject)

-- ---- a reply in range
pub record EffectFits (e : Effect) : Type 0 where
  pub line : deciding_line e.overall < 2 ^ 16
  pub named : e.named < 2 ^ 16
  pub altered : e.altered < 2 ^ 16
  pub bits : e.bits < 2 ^ 8

abbrev pub CheckFits : Reply Overall → Type 0
CheckFits (Ok o) = deciding_line o < 2 ^ 16
CheckFits (Err r) = RefusalFits r

abbrev pub ChangeFits : Reply Effect → Type 0
ChangeFits (Ok e) = EffectFits e
ChangeFits (Err r) = RefusalFits r

abbrev pub CountFits : Reply ℕ → Type 0
CountFits (Ok n) = n < 2 ^ 56
CountFits (Err r) = RefusalFits r

-- it is what its word unpacks to
pub check_back : (reply : Reply Overall) → CheckFits reply → check_in (pack_check reply) ≡ reply
check_back (Ok o) h =
    let word = pack_check (Ok o) in
    let p = verdict_parts (overall_number o) (deciding_line o) 0 0 0 (overall_small o) h (omega arith) (omega arith) (omega arith) in
    no_refusal o word _ _ p.kind_in_lem ∙ ap Ok (overall_back o word p.kind_in_lem p.line_in_lem)
check_back (Err r) h = rw (parts r h).kind_in_lem (ap Err (refusal_back r h))

pub change_back : (reply : Reply Effect) → ChangeFits reply → change_in (pack_change reply) ≡ reply
change_back (Ok e) h =
    let word = pack_change (Ok e) in
    let o = e.overall in
    let p = verdict_parts (overall_number o) (deciding_line o) e.named e.altered e.bits (overall_small o) h.line h.named h.altered h.bits in
    no_refusal o word _ _ p.kind_in_lem ∙ rw (overall_back o word p.kind_in_lem p.line_in_lem, p.named_in, p.altered_in, p.bits_in)
change_back (Err r) h = rw (parts r h).kind_in_lem (ap Err (refusal_back r h))

pub count_back : (reply : Reply ℕ) → CountFits reply → count_in (pack_count reply) ≡ reply
count_back (Ok n) h = let p = done_parts n h in rw p.kind_in_lem (ap Ok p.length_in)
count_back (Err r) h = rw (parts r h).kind_in_lem (ap Err (refusal_back r h))
