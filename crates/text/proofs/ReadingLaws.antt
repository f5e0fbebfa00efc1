-- Reading line by line: what holds of all that is accepted, and the turn of a loop over the lines. Assumes nothing.
use Prim.Native.Nat.{ℕ, ◌≤◌, ◌<◌}
use mathlib.Core.Path.{◌≡◌, refl}
use mathlib.Core.Bool.{true, false}
use mathlib.Core.List.{List, [], ◌∷◌}
use native.Mathlib.Omega.{arith}
use lib.Dec.{leb}
use lib.ListN.{length, take, drop}
use borrow.Author.Tests.{le-leb, lt-leb}
use Rattle.edition.specs.Edition.{max_file_bytes}
use Rattle.refusal.specs.declared.Refusal.{Refusal}
use Rattle.refusal.specs.declared.Subject.{Subject}
use Rattle.refusal.specs.Lists.{every}
use Rattle.refusal.specs.declared.Fault.TheVariants.{FileTooLong, ByteNotAllowed}
use Rattle.refusal.specs.Result.{Reply, Ok, Err, refusal, ◌>>=◌, ◌>>◌}
use Rattle.refusal.proofs.ResultLaws.{Yields, yields_accepted, yields_refused, yields_cond, yields_bind, yields_ensure, bind_accepted, ensure_accepted}
use Rattle.text.specs.declared.Class.TheVariants.{Space}
use Rattle.text.specs.Bytes.{is_space, is_allowed}
use Rattle.text.specs.Lines.{TextLine, lines_from, text_lines, Token}
use Rattle.text.specs.Reading.{next_token, no_more_tokens, read_any_line, read_lines, read_text}
use Rattle.text.specs.Scan.{is_of, found_line, line_at}
use Rattle.text.proofs.LineLaws.{line_from, lines_turn, lines_end}
use Rattle.text.proofs.FoundLineLaws.{Ended, line_faulty}

module _ {B : Type 0} {Q : B → Type 0} (file : Subject) where
  -- the first of the tokens, then the next step
  pub yields_next : (l : TextLine) (ts : List Token) {next : Token × List Token → Reply B} → ((p : Token × List Token) → ts ≡ p.0 ∷ p.1 → Yields Q (next p)) → Yields Q (next_token file l ts >>= next)
  yields_next l [] n = yields_refused
  yields_next l (t ∷ ts) n = n (t, ts) refl

  -- no token, then the next step
  pub yields_no_more : (ts : List Token) {next : Reply B} → (ts ≡ [] → Yields Q next) → Yields Q (no_more_tokens file ts >> next)
  yields_no_more [] n = n refl
  yields_no_more (t ∷ ts) n = yields_refused

-- a line's bytes are allowed
abbrev pub IsAllowed : TextLine → Type 0
IsAllowed l = every is_allowed l.bytes ≡ true

-- a line in front of lines is accepted only if its bytes are allowed
pub line_allowed : {State : Type 0} (file : Subject) (read_line : State → TextLine → Reply State) (l : TextLine) (ls : List TextLine) (s u : State) → read_lines file read_line s (l ∷ ls) ≡ Ok u → IsAllowed l
unfolding read_lines read_any_line
line_allowed file read_line l ls s u e = let p = bind_accepted (read_any_line file read_line s l) (λ t. read_lines file read_line t ls) u e in (ensure_accepted (every is_allowed l.bytes) _ _ p.0 p.1).0

-- what each line keeps holds of the whole
module _ {State : Type 0} {P : State → Type 0} (file : Subject) (read_line : State → TextLine → Reply State) (keeps : (s : State) (l : TextLine) → P s → Yields P (read_line s l)) where
  keeps_any_line : (s : State) (l : TextLine) → P s → Yields P (read_any_line file read_line s l)
  unfolding read_any_line
  keeps_any_line s l h = yields_ensure (every is_allowed l.bytes) _ λ _. yields_cond (every is_space l.bytes) (yields_accepted h) (keeps s l h)

  keeps_lines : (s : State) (ls : List TextLine) → P s → Yields P (read_lines file read_line s ls)
  unfolding read_lines
  keeps_lines s [] h = yields_accepted h
  keeps_lines s (l ∷ ls) h = yields_bind (keeps_any_line s l h) λ t k. keeps_lines t ls k

  pub keeps_text : (s : State) (bytes : List ℕ) → P s → Yields P (read_text file read_line s bytes)
  unfolding read_text
  keeps_text s bytes h = yields_ensure (leb (length bytes) max_file_bytes) _ λ _. keeps_lines s (text_lines bytes) h

module _ {State : Type 0} (file : Subject) (read_line : State → TextLine → Reply State) where
  -- ---- any line whose bytes are allowed
  module _ (s : State) (text : List ℕ) (at next : ℕ) (allowed : every is_allowed (drop at text) ≡ true) where
    pub fine_blank : every (is_of Space) (drop at text) ≡ true → Ok s ≡ read_any_line file read_line s (line_at text at next)
    unfolding read_any_line is_of
    fine_blank b = rw (allowed, b)

    pub fine_line : every (is_of Space) (drop at text) ≡ false → read_line s (line_at text at next) ≡ read_any_line file read_line s (line_at text at next)
    unfolding read_any_line is_of
    fine_line b = rw (allowed, b)

  -- ---- the loop: what is left to read, from the state that is reached, is what there was to read
  module _ (start : State) (bytes : List ℕ) where
    pub record Reading (s : State) (i : ℕ) : Type 0 where
      pub within : i ≤ length bytes
      pub rest : read_lines file read_line s (lines_from true i (drop i bytes)) ≡ read_lines file read_line start (text_lines bytes)

    pub reading_starts : Reading start 0
    reading_starts = record { within = omega arith; rest = refl }

    module _ {s : State} {i : ℕ} (inv : Reading s i) where
      pub reading_ends : length bytes ≤ i → Ok s ≡ read_lines file read_line start (text_lines bytes)
      unfolding read_lines
      reading_ends h = rw (lines_end bytes i h) at inv.rest

      -- the line at i
      module _ (h : i < length bytes) where
        line_stops : (r : Refusal) → Err r ≡ read_any_line file read_line s (line_from bytes i) → Err r ≡ read_lines file read_line start (text_lines bytes)
        unfolding read_lines
        line_stops r e = rw (← e) at (rw (lines_turn bytes i h) at inv.rest)

        line_goes : (t : State) → Ok t ≡ read_any_line file read_line s (line_from bytes i) → read_lines file read_line t (lines_from true (line_from bytes i).next (drop (line_from bytes i).next bytes)) ≡ read_lines file read_line start (text_lines bytes)
        unfolding read_lines
        line_goes t e = rw (← e) at (rw (lines_turn bytes i h) at inv.rest)

        -- its content ends at `stop`, and the next line starts at `next`
        module _ (stop next : ℕ) (end : Ended bytes i stop next) where
          pub reading_stops : (r : Refusal) → Err r ≡ read_any_line file read_line s (line_at (take stop bytes) i next) → Err r ≡ read_lines file read_line start (text_lines bytes)
          reading_stops r e = line_stops r (rw end.line e)

          pub reading_goes : (t : State) → Ok t ≡ read_any_line file read_line s (line_at (take stop bytes) i next) → Reading t next
          reading_goes t e = record { within = end.inside; rest = rw end.line at (line_goes t (rw end.line e)) }

        -- a byte of it is not allowed
        pub reading_faults : (bad : ℕ) → Err bad ≡ found_line (line_from bytes i) → Err (refusal file ByteNotAllowed bad) ≡ read_lines file read_line start (text_lines bytes)
        unfolding read_any_line
        reading_faults bad e = let q = line_faulty (line_from bytes i) bad e in line_stops _ (rw (q.0, q.1))

  -- ---- the whole text
  module _ (s : State) (bytes : List ℕ) where
    pub text_long : max_file_bytes < length bytes → Err (refusal file FileTooLong max_file_bytes) ≡ read_text file read_line s bytes
    unfolding read_text
    text_long h = rw (lt-leb (length bytes) max_file_bytes h)

    pub text_lines_lem : length bytes ≤ max_file_bytes → read_lines file read_line s (text_lines bytes) ≡ read_text file read_line s bytes
    unfolding read_text
    text_lines_lem h = rw (le-leb (length bytes) max_file_bytes h)
