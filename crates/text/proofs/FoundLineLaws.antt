-- What is found of a line: by what stands behind its allowed bytes, and where it lies in its file. Assumes nothing.
use Prim.Native.Nat.{ℕ, suc, ◌+◌, ◌≤◌, ◌<◌}
use mathlib.Core.Path.{◌≡◌, refl, ap, sym, ◌∙◌}
use mathlib.Core.List.{List, [], ◌∷◌, ◌++◌}
use mathlib.Core.Bool.{Bool, true, false, cond}
use native.Mathlib.Nat.{add-zero, add_assoc}
use native.Mathlib.Omega.{arith}
use lib.ListN.{length, get_or, take, drop, length-drop, drop_of_length-le, take-append-drop}
use lib.Seq.{drop-cons, drop-drop}
use Rattle.refusal.specs.Lists.{every}
use Rattle.refusal.proofs.ListLaws.{every_broken}
use Rattle.refusal.proofs.ResultLaws.{never}
use Rattle.text.specs.Bytes.{front_of, is_line_feed, is_carriage_return, is_allowed}
use Rattle.text.specs.Lines.{TextLine, line_end, terminator_length, content_of, line_of}
use Rattle.std.specs.Prelude.{Result, Ok, Err}
use Rattle.text.specs.declared.LineEnd.{LineEnd}
use Rattle.text.specs.Scan.{past, found_line, line_at}
use Rattle.text.proofs.RunLaws.{drop-take, run_take, run_stop, past_fails, every_of_run, scan_place}
use Rattle.text.proofs.AppendLaws.{run_front}
use Rattle.text.proofs.ContentLaws.{content_on, content_none, content_take, content_short, content_through, length_some, length_within, ended_content, ended_length}
use Rattle.text.proofs.LineLaws.{line_from}

-- a line that ends
abbrev pub ends_at : ℕ → ℕ → Result LineEnd ℕ
ends_at stop next = Ok (record { stop = stop; next = next })

abbrev end_in : Result LineEnd ℕ → LineEnd
end_in (Ok e) = e
end_in (Err bad) = record { stop = bad; next = bad }

-- ---- the line that begins with the allowed bytes r, which stand at `at`
module _ (r : List ℕ) (h : every is_allowed r ≡ true) (at : ℕ) where
  found_ends : (t : List ℕ) → content_of t ≡ [] → found_line (line_of at (r ++ t)) ≡ ends_at (at + length r) (at + length r + terminator_length t)
  unfolding found_line line_of
  found_ends t e = rw (ended_content r t h e, ended_length r t h e, h, add_assoc at (length r) (terminator_length t))

  found_faulty : (b : ℕ) (t : List ℕ) → is_allowed b ≡ false → terminator_length (b ∷ t) ≡ 0 → found_line (line_of at (r ++ b ∷ t)) ≡ Err (at + length r)
  unfolding found_line line_of
  found_faulty b t a e =
      let u = content_of t in
      let c : content_of (r ++ b ∷ t) ≡ r ++ b ∷ u = content_through r (b ∷ t) h ∙ rw (content_on b t e) in
      rw (c, every_broken is_allowed r b u a, run_front is_allowed r (b ∷ u) h (run_stop is_allowed (b ∷ u) 0 (omega arith) a))

-- ---- a scan of the allowed bytes from `at` on stops at m: what it finds of the line, by what stands there
module _ (f : List ℕ) (at m : ℕ) (h : at ≤ length f) (hm : m ≡ past is_allowed f at) where
  stops : at + length (front_of is_allowed (drop at f)) ≡ m
  stops = scan_place is_allowed f at m h hm

  front : every is_allowed (front_of is_allowed (drop at f)) ≡ true
  front = every_of_run is_allowed (drop at f)

  -- the text is those bytes, and what stands there
  split : drop at f ≡ front_of is_allowed (drop at f) ++ drop m f
  split =
      let r = front_of is_allowed (drop at f) in
      sym (take-append-drop (length r) (drop at f)) ∙ rw (drop-drop, stops) (ap (λ (l : List ℕ). l ++ drop m f) (sym (run_take is_allowed (drop at f))))

  by : (t : List ℕ) (x : Result LineEnd ℕ) → drop m f ≡ t → found_line (line_of at (front_of is_allowed (drop at f) ++ t)) ≡ x → x ≡ found_line (line_from f at)
  by t x e k = sym k ∙ ap (λ (s : List ℕ). found_line (line_of at s)) (sym (split ∙ ap (λ (l : List ℕ). front_of is_allowed (drop at f) ++ l) e))

  -- the file ends there
  pub stops_end : length f ≤ m → ends_at m m ≡ found_line (line_from f at)
  unfolding content_of terminator_length is_line_feed is_carriage_return
  stops_end l = by [] _ (drop_of_length-le f l) (rw (stops, add-zero) at (found_ends _ front at [] refl))

  -- the line does
  pub stops_ended : (n : ℕ) → 0 < n → n ≡ terminator_length (drop m f) → ends_at m (m + n) ≡ found_line (line_from f at)
  stops_ended n p e = by _ _ refl (rw (stops, ← e) at (found_ends _ front at (drop m f) (content_none (drop m f) (omega arith))))

  -- it goes on there, with a byte that is not allowed
  pub stops_faulty : m < length f → 0 ≡ terminator_length (drop m f) → Err m ≡ found_line (line_from f at)
  stops_faulty l e =
      let byte = drop-cons f m 0 l in
      let no-pass : is_allowed (get_or f m 0) ≡ false = rw (← hm) at (past_fails is_allowed f at (rw hm at l)) in
      by _ _ byte (rw stops at (found_faulty _ front at (get_or f m 0) (drop (suc m) f) no-pass (sym (rw byte at e))))

-- ---- what is known of a line that is found
-- its content ends at `stop`, and is allowed; the next line starts at `next`
pub record Ended (f : List ℕ) (at stop next : ℕ) : Type 0 where
  pub begun : at ≤ stop
  pub within : stop ≤ length f
  pub forward : at < next
  pub inside : next ≤ length f
  pub line : line_from f at ≡ line_at (take stop f) at next
  pub allowed : every is_allowed (drop at (take stop f)) ≡ true

module _ (f : List ℕ) (at : ℕ) (h : at < length f) where
  -- the content of the line, by where it ends
  content : (line_from f at).bytes ≡ drop at (take (line_end (line_from f at)) f)
  unfolding line_of
  content = content_take (drop at f) ∙ sym (drop-take at (length (content_of (drop at f))) f (omega arith))

  ended : every is_allowed (line_from f at).bytes ≡ true → Ended f at (line_end (line_from f at)) (line_from f at).next
  unfolding line_of
  ended e =
      let s = drop at f in
      let l = length-drop at f in
      record {
        begun = omega arith;
        within = omega (arith, content_short s);
        forward = omega (arith, length_some s (omega arith));
        inside = omega (arith, length_within s);
        line = rw (← content);
        allowed = rw (← content) e;
      }

  pub line_ends : (stop next : ℕ) → ends_at stop next ≡ found_line (line_from f at) → Ended f at stop next
  unfolding found_line
  line_ends stop next = go (every is_allowed (line_from f at).bytes) refl
    where
      go : (t : Bool) → every is_allowed (line_from f at).bytes ≡ t → ends_at stop next ≡ cond t (ends_at (line_end (line_from f at)) (line_from f at).next) (Err ((line_from f at).start + length (front_of is_allowed (line_from f at).bytes))) → Ended f at stop next
      go true e k =
          let a : stop ≡ line_end (line_from f at) = ap (λ e. (end_in e).stop) k in
          let b : next ≡ (line_from f at).next = ap (λ e. (end_in e).next) k in
          rw (a, b) (ended e)
      go false e k = never (cc k)

-- a byte that is not allowed stands at `bad`
pub line_faulty : (l : TextLine) (bad : ℕ) → Err bad ≡ found_line l → (every is_allowed l.bytes ≡ false) × (l.start + length (front_of is_allowed l.bytes) ≡ bad)
unfolding found_line
line_faulty l bad = go (every is_allowed l.bytes) refl
  where
    go : (t : Bool) → every is_allowed l.bytes ≡ t → Err bad ≡ cond t (ends_at (line_end l) l.next) (Err (l.start + length (front_of is_allowed l.bytes))) → (every is_allowed l.bytes ≡ false) × (l.start + length (front_of is_allowed l.bytes) ≡ bad)
    go true e k = never (cc k)
    go false e k = (e, cc k)
