-- The verdicts and the results of selected lines made anew, one line after the other. Assumes nothing.
use Prim.Native.Nat.{ℕ, zero, suc, ◌+◌, ◌-◌, ◌≤◌, ◌<◌}
use mathlib.Core.Path.{◌≡◌, refl, sym, ap, ap₂, ◌∙◌}
use mathlib.Core.Bool.{Bool, true, false, cond, not}
use mathlib.Core.List.{List, [], ◌∷◌, ◌++◌, map, zip_with}
use Rattle.std.specs.Prelude.{Option}
use native.Mathlib.Numerals.{add-one}
use native.Mathlib.Omega.{arith}
use lib.Dec.{eqb}
use lib.ListN.{length, get_or, take, drop, set, replicate, length-map, length-replicate, take-append-drop, get_or-append}
use lib.Seq.{length-take-le, set-append_left, take-suc, take-length, take-add, drop_at}
use borrow.Author.Tests.{eq-eqb}
use Rattle.refusal.specs.Lists.{how_many, is_one_of}
use Rattle.refusal.proofs.ResultLaws.{never}
use Rattle.refusal.proofs.ListLaws.{get_or_mapped}
use Rattle.refusal.proofs.ManyLaws.{one_most}
use Rattle.constraint.specs.declared.Line.{Line}
use Rattle.constraint.specs.File.{Variable, File}
use Rattle.store.specs.Tables.{line_in, lines_in}
use Rattle.store.proofs.TableLaws.{get_d_tabulate}
use Rattle.store.proofs.LineTableLaws.{lines_length}
use Rattle.judge.specs.declared.Judged.{Judged}
use Rattle.judge.specs.Judge.{verdict_byte, judge, column_of}
use Rattle.judge.proofs.VerdictLaws.{column_length}
use Rattle.index.specs.Select.{names, naming, selected}
use Rattle.index.specs.Index.{Index}
use Rattle.index.specs.AnyIndex.{list_in, numbered, concerned, list_fits}
use Rattle.index.specs.Internal.{file_of}
use Rattle.index.proofs.SelectLaws.{numbered_length, concerned_length, numbered_none, numbered_nothing, numbered_more}
use Rattle.index.proofs.ListedLaws.{list_rises, rising_at, rising_new}
use Rattle.moves.specs.declared.Renewal.{Renewal}
use Rattle.moves.specs.Step.{renewed, differing}
use Rattle.moves.specs.Internal.{Columns, columns_of, fresh_columns, judged_in, set_line, differs, RenewedIf, renewed_front, Renewed, ListFitting}

-- ---- a table with some entries fresh
pub renewed_length : (bs : List Bool) (fresh held : List ℕ) → length bs ≡ length held → length fresh ≡ length held → length (renewed bs fresh held) ≡ length held
unfolding renewed
renewed_length [] fresh held k l = k
renewed_length (b ∷ bs) [] held k l = l
renewed_length (b ∷ bs) (x ∷ fresh) [] k l = refl
renewed_length (b ∷ bs) (x ∷ fresh) (h ∷ held) k l = ap suc (renewed_length bs fresh held (omega arith) (omega arith))

-- an entry that is not selected, and one that is
pub renewed_other : (bs : List Bool) (fresh held : List ℕ) (j : ℕ) → length bs ≡ length held → length fresh ≡ length held → get_or bs j false ≡ false → get_or (renewed bs fresh held) j 0 ≡ get_or held j 0
unfolding renewed
renewed_other [] fresh [] j k l e = refl
renewed_other [] fresh (h ∷ held) j k l e = let z : ⊥ = omega arith in absurd z
renewed_other (b ∷ bs) [] [] j k l e = refl
renewed_other (b ∷ bs) [] (h ∷ held) j k l e = let z : ⊥ = omega arith in absurd z
renewed_other (b ∷ bs) (x ∷ fresh) [] j k l e = refl
renewed_other (b ∷ bs) (x ∷ fresh) (h ∷ held) zero k l e = rw e
renewed_other (b ∷ bs) (x ∷ fresh) (h ∷ held) (suc j) k l e = renewed_other bs fresh held j (omega arith) (omega arith) e

pub renewed_at : (bs : List Bool) (fresh held : List ℕ) (j : ℕ) → length fresh ≡ length held → j < length held → get_or bs j false ≡ true → get_or (renewed bs fresh held) j 0 ≡ get_or fresh j 0
unfolding renewed
renewed_at bs fresh [] j l h e = let z : ⊥ = omega arith in absurd z
renewed_at bs [] (y ∷ held) j l h e = let z : ⊥ = omega arith in absurd z
renewed_at [] (x ∷ fresh) (y ∷ held) j l h e = never (cc e)
renewed_at (b ∷ bs) (x ∷ fresh) (y ∷ held) zero l h e = rw e
renewed_at (b ∷ bs) (x ∷ fresh) (y ∷ held) (suc j) l h e = renewed_at bs fresh held j (omega arith) (omega arith) e

-- ---- a column of a file, the lines concerned made anew: as many entries as before
module _ (part : Judged → ℕ) (f : File) (x : Option Index) (i : ℕ) (row held : List ℕ) (many : length held ≡ length f.lines) where
  abbrev column : List ℕ
  column = column_of part f.variables row f.lines

  pub lines_long : length (concerned f x i) ≡ length held
  lines_long = concerned_length f x i ∙ sym many

  pub fresh_long : length column ≡ length held
  fresh_long = column_length part f.variables row f.lines ∙ sym many

  pub new_long : length (renewed (concerned f x i) column held) ≡ length held
  new_long = renewed_length (concerned f x i) column held lines_long fresh_long

-- ---- no entry
renewed_none : (m : ℕ) (fresh held : List ℕ) → length fresh ≡ m → length held ≡ m → renewed (replicate m false) fresh held ≡ held
unfolding renewed
renewed_none zero fresh [] k l = refl
renewed_none zero fresh (h ∷ held) k l = let z : ⊥ = omega arith in absurd z
renewed_none (suc m) [] held k l = let z : ⊥ = omega arith in absurd z
renewed_none (suc m) (x ∷ fresh) [] k l = let z : ⊥ = omega arith in absurd z
renewed_none (suc m) (x ∷ fresh) (h ∷ held) k l = ap (λ (z : List ℕ). h ∷ z) (renewed_none m fresh held (omega arith) (omega arith))

selected_none : (m : ℕ) → selected (replicate m false) ≡ 0
unfolding how_many
selected_none zero = refl
selected_none (suc m) = selected_none m

differing_none : (held : List ℕ) → differing held held ≡ 0
unfolding differing how_many zip_with
differing_none [] = refl
differing_none (h ∷ held) = rw (eq-eqb h h refl) (differing_none held)

-- ---- one entry more
selected_more : (bs : List Bool) (k : ℕ) → k < length bs → get_or bs k false ≡ false → selected (set bs k true) ≡ selected bs + 1
unfolding how_many
selected_more [] k h e = let z : ⊥ = omega arith in absurd z
selected_more (b ∷ bs) zero h e = rw e (omega arith)
selected_more (true ∷ bs) (suc k) h e = omega (arith, selected_more bs k (omega arith) e)
selected_more (false ∷ bs) (suc k) h e = selected_more bs k (omega arith) e

renewed_more : (bs : List Bool) (fresh held : List ℕ) (k : ℕ) → length bs ≡ length held → length fresh ≡ length held → k < length held → renewed (set bs k true) fresh held ≡ set (renewed bs fresh held) k (get_or fresh k 0)
unfolding renewed
renewed_more [] fresh held k l f h = let z : ⊥ = omega arith in absurd z
renewed_more (b ∷ bs) [] held k l f h = let z : ⊥ = omega arith in absurd z
renewed_more (b ∷ bs) (x ∷ fresh) [] k l f h = let z : ⊥ = omega arith in absurd z
renewed_more (b ∷ bs) (x ∷ fresh) (y ∷ held) zero l f h = refl
renewed_more (b ∷ bs) (x ∷ fresh) (y ∷ held) (suc k) l f h = ap (λ (z : List ℕ). cond b x y ∷ z) (renewed_more bs fresh held k (omega arith) (omega arith) (omega arith))

-- a place where two tables are alike, and then not
count_first : (t : Bool) (n : ℕ) → cond (not t) (suc n) n ≡ n + cond t 0 1
count_first true n = omega arith
count_first false n = omega arith

count_later : (t : Bool) (k n b : ℕ) → n ≡ k + b → cond t (suc n) n ≡ cond t (suc k) k + b
count_later true k n b e = omega arith
count_later false k n b e = omega arith

differing_more : (old new : List ℕ) (k x : ℕ) → length new ≡ length old → k < length old → get_or new k 0 ≡ get_or old k 0 → differing old (set new k x) ≡ differing old new + cond (eqb (get_or old k 0) x) 0 1
unfolding differing how_many zip_with
differing_more [] new k x l h e = let z : ⊥ = omega arith in absurd z
differing_more (a ∷ old) [] k x l h e = let z : ⊥ = omega arith in absurd z
differing_more (a ∷ old) (b ∷ new) zero x l h e = rw (e, eq-eqb a a refl) (count_first (eqb a x) (how_many not (zip_with eqb old new)))
differing_more (a ∷ old) (b ∷ new) (suc k) x l h e =
    count_later (not (eqb a b)) (how_many not (zip_with eqb old new)) (how_many not (zip_with eqb old (set new k x))) (cond (eqb (get_or old k 0) x) 0 1) (differing_more old new k x (omega arith) (omega arith) e)

-- ---- a column, line after line: m entries are in use
module _ (fresh old : List ℕ) (m : ℕ) (many : length fresh ≡ m) (room : m ≤ length old) where
  abbrev held : List ℕ
  held = take m old

  held_long : length held ≡ m
  held_long = length-take-le m old room

  none_picked : renewed (replicate m false) fresh held ≡ held
  none_picked = renewed_none m fresh held many held_long

  column_start : old ≡ renewed_front (replicate m false) fresh m old
  column_start = rw none_picked (sym (take-append-drop m old))

  differing_start : 0 ≡ differing held (renewed (replicate m false) fresh held)
  differing_start = rw none_picked (sym (differing_none held))

  -- line k, of those that are not picked yet
  module _ (bs : List Bool) (long : length bs ≡ m) (k : ℕ) (h : k < m) where
    abbrev now : List ℕ
    now = renewed bs fresh held

    now_long : length now ≡ m
    now_long = renewed_length bs fresh held (long ∙ sym held_long) (many ∙ sym held_long) ∙ held_long

    more : renewed (set bs k true) fresh held ≡ set now k (get_or fresh k 0)
    more = renewed_more bs fresh held k (long ∙ sym held_long) (many ∙ sym held_long) (rw held_long h)

    column_pick : set (renewed_front bs fresh m old) k (get_or fresh k 0) ≡ renewed_front (set bs k true) fresh m old
    column_pick = rw more (set-append_left now (drop m old) k (get_or fresh k 0) (rw now_long h))

    differing_pick : get_or bs k false ≡ false → differing held (renewed (set bs k true) fresh held) ≡ differing held now + differs (get_or (renewed_front bs fresh m old) k 0) (get_or fresh k 0)
    differing_pick new =
        let not_yet : get_or now k 0 ≡ get_or held k 0 = renewed_other bs fresh held k (long ∙ sym held_long) (many ∙ sym held_long) new in
        let still : get_or (renewed_front bs fresh m old) k 0 ≡ get_or held k 0 = get_or-append now (drop m old) 0 k (rw now_long h) ∙ not_yet in
        rw (more, still) (differing_more held now k (get_or fresh k 0) (now_long ∙ sym held_long) (rw held_long h) not_yet)

-- ---- both columns, and the counts
-- what the columns have for line k
pub record FreshAt (fresh : Columns) (k : ℕ) (line : Judged) : Type 0 where
  pub verdict : get_or fresh.verdicts k 0 ≡ verdict_byte line.verdict
  pub result : get_or fresh.results k 0 ≡ line.result

module _ (fresh old : Columns) (m : ℕ) (many : (length fresh.verdicts ≡ m) × (length fresh.results ≡ m)) (room : (m ≤ length old.verdicts) × (m ≤ length old.results)) where
  pub start_renewed : Renewed (replicate m false) fresh m old old (record { named = 0; altered = 0 })
  start_renewed = record {
    made = ap₂ columns_of (column_start fresh.verdicts old.verdicts m many.0 room.0) (column_start fresh.results old.results m many.1 room.1);
    counted = sym (selected_none m);
    differed = differing_start fresh.verdicts old.verdicts m many.0 room.0;
  }

  module _ (bs : List Bool) (columns : Columns) (r : Renewal) (long : length bs ≡ m) (t : Renewed bs fresh m old columns r) (k : ℕ) (h : k < m) (new : get_or bs k false ≡ false) where
    pub pick_renewed : (line : Judged) → FreshAt fresh k line
        → Renewed (set bs k true) fresh m old (set_line columns k line) (record { named = r.named + 1; altered = r.altered + differs (get_or columns.verdicts k 0) (verdict_byte line.verdict) })
    pick_renewed line is = record {
      made = rw (t.made, ← is.verdict, ← is.result) (ap₂ columns_of (column_pick fresh.verdicts old.verdicts m many.0 room.0 bs long k h) (column_pick fresh.results old.results m many.1 room.1 bs long k h));
      counted = omega (arith, t.counted, selected_more bs k (rw long h) new);
      differed = rw (t.made, t.differed, ← is.verdict) (sym (differing_pick fresh.verdicts old.verdicts m many.0 room.0 bs long k h new));
    }

    -- where a test passes
    if_renewed : (line : Judged) → FreshAt fresh k line → (test : Bool) (after : Columns) (one : Renewal) → RenewedIf test line k columns after one
        → Renewed (cond test (set bs k true) bs) fresh m old after (record { named = r.named + one.named; altered = r.altered + one.altered })
    if_renewed line is true after one i = rw (i.made, i.counted, i.differed) (pick_renewed line is)
    if_renewed line is false after one i = record { made = i.made ∙ t.made; counted = omega (arith, i.counted, t.counted); differed = omega (arith, i.differed, t.differed) }

-- ---- of a selection the first k lines
pub up_to : ℕ → List Bool → List Bool
up_to zero bs = replicate (length bs) false
up_to (suc k) [] = []
up_to (suc k) (b ∷ bs) = b ∷ up_to k bs

up_to_length : (k : ℕ) (bs : List Bool) → length (up_to k bs) ≡ length bs
unfolding up_to
up_to_length zero bs = length-replicate (length bs) false
up_to_length (suc k) [] = refl
up_to_length (suc k) (b ∷ bs) = ap suc (up_to_length k bs)

up_to_all : (k : ℕ) (bs : List Bool) → length bs ≤ k → up_to k bs ≡ bs
unfolding up_to
up_to_all zero [] h = refl
up_to_all zero (b ∷ bs) h = let z : ⊥ = omega arith in absurd z
up_to_all (suc k) [] h = refl
up_to_all (suc k) (b ∷ bs) h = ap (λ (z : List Bool). b ∷ z) (up_to_all k bs (omega arith))

up_to_not_yet : (k : ℕ) (bs : List Bool) → get_or (up_to k bs) k false ≡ false
unfolding up_to
up_to_not_yet zero [] = refl
up_to_not_yet zero (b ∷ bs) = refl
up_to_not_yet (suc k) [] = refl
up_to_not_yet (suc k) (b ∷ bs) = up_to_not_yet k bs

front_more : (b t : Bool) (x y : List Bool) → b ∷ cond t x y ≡ cond t (b ∷ x) (b ∷ y)
front_more b true x y = refl
front_more b false x y = refl

up_to_more : (k : ℕ) (bs : List Bool) → k < length bs → up_to (suc k) bs ≡ cond (get_or bs k false) (set (up_to k bs) k true) (up_to k bs)
unfolding up_to
up_to_more k [] h = let z : ⊥ = omega arith in absurd z
up_to_more zero (true ∷ bs) h = refl
up_to_more zero (false ∷ bs) h = refl
up_to_more (suc k) (b ∷ bs) h = ap (λ (z : List Bool). b ∷ z) (up_to_more k bs (omega arith)) ∙ front_more b (get_or bs k false) (set (up_to k bs) k true) (up_to k bs)

-- ---- the list of a variable in an index, as a part of the lists
module _ (m : ℕ) (x : Index) (i : ℕ) (h : ListFitting m x i) where
  abbrev from : ℕ
  from = get_or x.starts i 0

  abbrev to : ℕ
  to = get_or x.starts (i + 1) 0

  pub part_listed : take (to - from) (drop from x.lists) ≡ list_in x i
  unfolding list_in
  part_listed =
      let e : from + (to - from) ≡ to = omega (arith, h.rises) in
      let part = take (to - from) (drop from x.lists) in
      let front : take to x.lists ≡ take from x.lists ++ part = sym (ap (λ (k : ℕ). take k x.lists) e) ∙ take-add from (to - from) x.lists in
      rw (← add-one i, front) (sym (drop_at (take from x.lists) part from (length-take-le from x.lists (omega (arith, h.rises, h.within)))))

  pub part_fits : list_fits m (take (to - from) (drop from x.lists)) ≡ true
  part_fits = rw part_listed h.fits

-- ---- the lines in their table
-- a number of a list that fits is one of the lines
pub listed_place : (m : ℕ) (list : List ℕ) (k : ℕ) → list_fits m list ≡ true → k < length list → (1 ≤ get_or list k 0) × (get_or list k 0 ≤ m)
listed_place m list k fits h = let p = rising_at 1 (suc m) list k (list_rises m list fits) h in (p.0, omega (arith, p.1))

module _ (xs : List Variable) (heads bodies : List ℕ) (m : ℕ) (row : List ℕ) (old : Columns) where
  abbrev file : File
  file = file_of xs (lines_in heads bodies m)

  abbrev fresh : Columns
  fresh = fresh_columns file row

  abbrev Roomy : Type 0
  Roomy = (m ≤ length old.verdicts) × (m ≤ length old.results)

  -- something of each line is that of the line in the table
  line_mapped : {B : Type 0} (g : Line → B) (k : ℕ) (e : B) → k < m → get_or (map g (lines_in heads bodies m)) k e ≡ g (line_in heads bodies k)
  unfolding lines_in
  line_mapped g k e h =
      let long = lines_length heads bodies m in
      get_or_mapped g (lines_in heads bodies m) k (line_in heads bodies k) e (rw long h) ∙ ap g (get_d_tabulate (line_in heads bodies) m k (line_in heads bodies k) h)

  fresh_length : (length fresh.verdicts ≡ m) × (length fresh.results ≡ m)
  fresh_length =
      let ls = lines_in heads bodies m in
      (column_length (λ j. verdict_byte j.verdict) xs row ls ∙ lines_length heads bodies m, column_length (λ j. j.result) xs row ls ∙ lines_length heads bodies m)

  fresh_at : (k : ℕ) → k < m → FreshAt fresh k (judged_in xs row heads bodies k)
  unfolding column_of
  fresh_at k h = record { verdict = line_mapped (λ l. verdict_byte (judge xs row l).verdict) k 0 h; result = line_mapped (λ l. (judge xs row l).result) k 0 h }

  -- the lines that name a variable
  module _ (i : ℕ) where
    naming_length : length (naming file i) ≡ m
    unfolding naming
    naming_length = length-map (lines_in heads bodies m) (names i) ∙ lines_length heads bodies m

    naming_at : (k : ℕ) → k < m → get_or (naming file i) k false ≡ names i (line_in heads bodies k)
    unfolding naming
    naming_at k h = line_mapped (names i) k false h

    -- the first k lines and their counts
    abbrev pub NamedTurn : Columns → ℕ → ℕ → ℕ → Type 0
    NamedTurn columns named altered k = Renewed (up_to k (naming file i)) fresh m old columns (record { named = named; altered = altered })

    pub named_start : Roomy → NamedTurn old 0 0 0
    unfolding up_to
    named_start room = rw naming_length (start_renewed fresh old m fresh_length room)

    pub named_next : Roomy → (columns : Columns) (named altered k : ℕ) → NamedTurn columns named altered k → k < m
        → (after : Columns) (one : Renewal) → RenewedIf (names i (line_in heads bodies k)) (judged_in xs row heads bodies k) k columns after one
        → NamedTurn after (named + one.named) (altered + one.altered) (k + 1)
    named_next room columns named altered k t h after one r =
        let bs = naming file i in
        let long = up_to_length k bs ∙ naming_length in
        let more : up_to (k + 1) bs ≡ cond (names i (line_in heads bodies k)) (set (up_to k bs) k true) (up_to k bs) = rw (add-one k, ← naming_at k h) (up_to_more k bs (rw naming_length h)) in
        rw more (if_renewed fresh old m fresh_length room (up_to k bs) columns (record { named = named; altered = altered }) long t k h (up_to_not_yet k bs) _ (fresh_at k h) (names i (line_in heads bodies k)) after one r)

    pub named_end : (columns : Columns) (named altered : ℕ) → NamedTurn columns named altered m → Renewed (naming file i) fresh m old columns (record { named = named; altered = altered })
    named_end columns named altered t = rw (up_to_all m (naming file i) (rw naming_length (omega arith))) at t

  -- the lines in a list that fits
  module _ (list : List ℕ) where
    -- the first k of them and their counts
    abbrev pub ListedTurn : Columns → ℕ → ℕ → Type 0
    ListedTurn columns altered k = Renewed (numbered (take k list) 1 (lines_in heads bodies m)) fresh m old columns (record { named = k; altered = altered })

    pub listed_start : Roomy → ListedTurn old 0 0
    listed_start room = rw (numbered_nothing 1 (lines_in heads bodies m), lines_length heads bodies m) (start_renewed fresh old m fresh_length room)

    -- the next, which has number `line` from 0
    pub listed_next : Roomy → list_fits m list ≡ true → (columns : Columns) (altered k : ℕ) → ListedTurn columns altered k → k < length list
        → (line : ℕ) → line ≡ get_or list k 0 - 1
        → (after : Columns) (one : ℕ) → one ≡ differs (get_or columns.verdicts line 0) (verdict_byte (judged_in xs row heads bodies line).verdict) → after ≡ set_line columns line (judged_in xs row heads bodies line)
        → ListedTurn after (altered + one) (k + 1)
    listed_next room fits columns altered k t h line e after one d put =
        let ls = lines_in heads bodies m in
        let p = listed_place m list k fits h in
        let is : 1 + line ≡ get_or list k 0 = omega (arith, p) in
        let within : line < m = omega (arith, p) in
        let long = numbered_length (take k list) 1 ls ∙ lines_length heads bodies m in
        let new : is_one_of (1 + line) (take k list) ≡ false = rw is (rising_new 1 (suc m) list k (list_rises m list fits) h) in
        let more : numbered (take (k + 1) list) 1 ls ≡ set (numbered (take k list) 1 ls) line true = rw (add-one k, take-suc list k 0 h, ← is) (numbered_more (take k list) line 1 ls (rw (lines_length heads bodies m) within)) in
        rw (more, d, put) (pick_renewed fresh old m fresh_length room (numbered (take k list) 1 ls) columns (record { named = k; altered = altered }) long t line within (numbered_none (take k list) 1 ls line new) _ (fresh_at line within))

    pub listed_end : (columns : Columns) (altered : ℕ) → ListedTurn columns altered (length list) → Renewed (numbered list 1 (lines_in heads bodies m)) fresh m old columns (record { named = length list; altered = altered })
    listed_end columns altered t = rw (take-length list) at t

-- a line counts once
pub differs_most : (a b : ℕ) → differs a b ≤ 1
differs_most a b = go (eqb a b)
  where
    go : (s : Bool) → cond s 0 1 ≤ 1
    go true = omega arith
    go false = omega arith

altered_most : (s : Bool) (a b : ℕ) → cond s (differs a b) 0 ≤ 1
altered_most true a b = differs_most a b
altered_most false a b = omega arith

pub renewed_most : (test : Bool) (fresh : Judged) (k : ℕ) (old new : Columns) (r : Renewal) → RenewedIf test fresh k old new r → (r.named ≤ 1) × (r.altered ≤ 1)
renewed_most test fresh k old new r e = (rw e.counted (one_most test), rw e.differed (altered_most test (get_or old.verdicts k 0) (verdict_byte fresh.verdict)))
