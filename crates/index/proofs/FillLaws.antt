-- The lists filled line by line, each from its start; filled to the end they are the file's own. Assumes nothing.
use Prim.Native.Nat.{ℕ, zero, suc, ◌+◌, ◌≤◌, ◌<◌}
use mathlib.Core.Path.{◌≡◌, refl, sym, ap, ap₂, ◌∙◌}
use mathlib.Core.Bool.{Bool, true, false}
use mathlib.Core.List.{List, [], ◌∷◌, ◌++◌, map}
use native.Mathlib.Decide.{ℕ_discrete, dec_lt}
use native.Mathlib.Omega.{arith}
use lib.ListN.{length, get_or, take, drop, length-append, length-drop, take-append-drop}
use lib.Seq.{ext_get_or, get_or-drop, get_or-take, length-take-le, split_at, take-add}
use Rattle.edition.specs.Edition.{max_variables, max_lines}
use Rattle.refusal.specs.Lists.{how_many}
use Rattle.refusal.proofs.ManyLaws.{one_most, many_append, many_cons}
use Rattle.constraint.specs.declared.Line.{Line}
use Rattle.constraint.specs.File.{File}
use Rattle.store.specs.Tables.{tabulate, line_in, lines_in}
use Rattle.store.proofs.TableLaws.{length-tabulate, get_d_tabulate, take-tabulate}
use Rattle.store.proofs.LineTableLaws.{lines_length}
use Rattle.index.specs.Select.{names, naming}
use Rattle.index.specs.Index.{numbers_from, own_list, own_lists, own_start}
use Rattle.index.specs.Claims.{max_listed}
use Rattle.index.specs.Internal.{one, held_file, sum_to, ListRoom, LinePut}
use Rattle.index.proofs.CountLaws.{many_next, numbers_length, lists_sum, sum_lines}
use Rattle.index.proofs.TallyLaws.{sum_below}

-- ---- where lists start
pub start_sum : (f : File) (i : ℕ) → own_start f i ≡ sum_to (λ q. how_many (names q) f.lines) i
unfolding own_start
start_sum f i = lists_sum f i

start_zero : (f : File) → own_start f 0 ≡ 0
unfolding own_start own_lists
start_zero f = refl

start_next : (f : File) (i : ℕ) → own_start f (suc i) ≡ own_start f i + length (own_list f i)
unfolding own_start own_lists
start_next f i = length-append (own_lists f i) (own_list f i)

start_below : (f : File) (i n : ℕ) → i ≤ n → own_start f i ≤ own_start f n
start_below f i n h = omega (arith, start_sum f i, start_sum f n, sum_below (λ q. how_many (names q) f.lines) i n h)

pub start_most : (heads bodies : List ℕ) (n m : ℕ) → m ≤ max_lines → own_start (held_file heads bodies m) n ≤ max_listed
start_most heads bodies n m h = omega (arith, start_sum (held_file heads bodies m) n, sum_lines (lines_in heads bodies m) n, lines_length heads bodies m)

-- ---- a line's number in a list
numbers_at : (n : ℕ) (g : Line → Bool) (xs : List Line) (x : Line) (ys : List Line) → g x ≡ true → get_or (numbers_from n (map g (xs ++ x ∷ ys))) (how_many g xs) 0 ≡ n + length xs
unfolding numbers_from how_many
numbers_at n g [] x ys e = rw e (omega arith)
numbers_at n g (y ∷ xs) x ys e = go (g y) refl (numbers_at (suc n) g xs x ys e)
  where
    go : (b : Bool) → g y ≡ b → get_or (numbers_from (suc n) (map g (xs ++ x ∷ ys))) (how_many g xs) 0 ≡ suc n + length xs → get_or (numbers_from n (map g ((y ∷ xs) ++ x ∷ ys))) (how_many g (y ∷ xs)) 0 ≡ n + suc (length xs)
    go true q k = rw q (k ∙ omega arith)
    go false q k = rw q (k ∙ omega arith)

lines_split : (heads bodies : List ℕ) (k m : ℕ) → k < m → lines_in heads bodies m ≡ lines_in heads bodies k ++ line_in heads bodies k ∷ drop (suc k) (lines_in heads bodies m)
unfolding lines_in
lines_split heads bodies k m h =
    let f = line_in heads bodies in
    split_at (tabulate f m) k (f k) (omega (arith, length-tabulate f m))
    ∙ ap₂ (λ (l : List Line) (x : Line). l ++ x ∷ drop (suc k) (tabulate f m)) (take-tabulate f k m (omega arith)) (get_d_tabulate f m k (f k) h)

-- ---- the first k of m lines
module _ (heads bodies : List ℕ) (n m : ℕ) where
  abbrev f : File
  f = held_file heads bodies m

  -- how many of them name a variable
  abbrev many : ℕ → ℕ → ℕ
  many k i = how_many (names i) (lines_in heads bodies k)

  list_long : (i : ℕ) → length (own_list f i) ≡ many m i
  unfolding own_list naming
  list_long i = numbers_length 1 (names i) (lines_in heads bodies m)

  module _ (k : ℕ) (h : k < m) where
    abbrev named_by : ℕ → ℕ
    named_by i = one (names i (line_in heads bodies k))

    -- the list has a place for line k, and the line's number there
    within : (i : ℕ) → many k i + named_by i ≤ length (own_list f i)
    within i =
        let rest = drop (suc k) (lines_in heads bodies m) in
        omega (
          arith,
          list_long i,
          ap (how_many (names i)) (lines_split heads bodies k m h),
          many_append (names i) (lines_in heads bodies k) (line_in heads bodies k ∷ rest),
          many_cons (names i) (line_in heads bodies k) rest,
        )

    number_there : (i : ℕ) (b : Bool) → names i (line_in heads bodies k) ≡ b → 0 < one b → get_or (own_list f i) (many k i) 0 ≡ k + 1
    unfolding own_list naming
    number_there i true e p =
        ap (λ (ls : List Line). get_or (numbers_from 1 (map (names i) ls)) (many k i) 0) (lines_split heads bodies k m h)
        ∙ numbers_at 1 (names i) (lines_in heads bodies k) (line_in heads bodies k) (drop (suc k) (lines_in heads bodies m)) e
        ∙ omega (arith, lines_length heads bodies k)
    number_there i false e p = let z : ⊥ = omega arith in absurd z

    -- before the start of the next list, and before the end
    before_next : (i : ℕ) → own_start f i + (many k i + named_by i) ≤ own_start f (suc i)
    before_next i = omega (arith, start_next f i, within i)

    before_end : (i : ℕ) → i < n → own_start f i + (many k i + named_by i) ≤ own_start f n
    before_end i l = omega (arith, before_next i, start_below f (suc i) n (omega arith))

    -- the places that are filled already are others
    apart : (i q j : ℕ) → j < many k i → 0 < named_by q → own_start f i + j ≡ own_start f q + many k q → ⊥
    apart i q j l p e = elim (ℕ_discrete i q) [
      | yes s ↦ let z : many k i ≡ many k q = ap (many k) s in omega (arith, ap (own_start f) s)
      | no d ↦ elim (dec_lt i q) [
        | yes s ↦ omega (arith, before_next i, start_below f (suc i) q s)
        | no s ↦ omega (arith, before_next q, start_below f (suc q) i (omega arith))
      ]
    ]

  -- the lists, as far as these lines fill them, and where their next entries go
  pub record Filled (lists₀ : List ℕ) (k : ℕ) (next lists : List ℕ) : Type 0 where
    pub next_long : length next ≡ max_variables
    pub lists_long : length lists ≡ length lists₀
    pub next_is : (i : ℕ) → i < n → get_or next i 0 ≡ own_start f i + many k i
    pub filled : (i : ℕ) → i < n → (j : ℕ) → j < many k i → get_or lists (own_start f i + j) 0 ≡ get_or (own_list f i) j 0
    pub behind : (p : ℕ) → own_start f n ≤ p → get_or lists p 0 ≡ get_or lists₀ p 0

  pub filled_start : (next lists : List ℕ) → length next ≡ max_variables → ((i : ℕ) → i < n → get_or next i 0 ≡ own_start f i) → Filled lists 0 next lists
  unfolding lines_in tabulate how_many
  filled_start next lists l e = record {
    next_long = l;
    lists_long = refl;
    next_is = λ i h. omega (arith, e i h);
    filled = λ i h j k. let z : ⊥ = omega arith in absurd z;
    behind = λ p h. refl;
  }

  -- line k
  module _ (lists₀ : List ℕ) (k : ℕ) (h : k < m) (next lists : List ℕ) (a : Filled lists₀ k next lists) where
    pub filled_room : m ≤ max_lines → own_start f n ≤ length lists₀ → ListRoom n (λ i. one (names i (line_in heads bodies k))) next lists
    filled_room l r i p q =
        let e = a.next_is i p in
        let w = before_end k h i p in
        (omega (arith, a.lists_long), omega (arith, start_most heads bodies n m l))

    module _ (next₂ lists₂ : List ℕ) (b : LinePut n (λ i. one (names i (line_in heads bodies k))) (k + 1) next lists next₂ lists₂) where
      next_filled : (i : ℕ) → i < n → (j : ℕ) → j < many (k + 1) i → get_or lists₂ (own_start f i + j) 0 ≡ get_or (own_list f i) j 0
      next_filled i p j q = elim (ℕ_discrete j (many k i)) [
        | yes e ↦
            let named : 0 < named_by k h i = omega (arith, many_next heads bodies i k) in
            rw (e, ← a.next_is i p) (b.put i p named ∙ sym (number_there k h i (names i (line_in heads bodies k)) refl named))
        | no d ↦
            let old : j < many k i = omega (arith, many_next heads bodies i k, one_most (names i (line_in heads bodies k))) in
            b.other (own_start f i + j) (λ s l t e. apart k h i s j old t (e ∙ a.next_is s l)) ∙ a.filled i p j old
      ]

      pub filled_next : Filled lists₀ (k + 1) next₂ lists₂
      filled_next = record {
        next_long = b.next_long ∙ a.next_long;
        lists_long = b.lists_long ∙ a.lists_long;
        next_is = λ i p. omega (arith, b.moved i p, a.next_is i p, many_next heads bodies i k);
        filled = next_filled;
        behind = λ p l. b.other p (λ i q t e. omega (arith, a.next_is i q, before_end k h i q)) ∙ a.behind p l;
      }

  -- all lines
  module _ (lists₀ next lists : List ℕ) (a : Filled lists₀ m next lists) (room : own_start f n ≤ length lists₀) where
    own_part : (i : ℕ) → i < n → take (length (own_list f i)) (drop (own_start f i) lists) ≡ own_list f i
    own_part i h =
        let long : length (take (length (own_list f i)) (drop (own_start f i) lists)) ≡ length (own_list f i) =
        length-take-le (length (own_list f i)) (drop (own_start f i) lists) (omega (arith, length-drop (own_start f i) lists, a.lists_long, start_next f i, start_below f (suc i) n h)) in
        ext_get_or 0 (take (length (own_list f i)) (drop (own_start f i) lists)) (own_list f i) long (λ j l.
        get_or-take (length (own_list f i)) (drop (own_start f i) lists) j 0 (omega arith)
        ∙ get_or-drop (own_start f i) lists j 0
        ∙ a.filled i h j (omega (arith, list_long i)))

    own_front : (i : ℕ) → i ≤ n → take (own_start f i) lists ≡ own_lists f i
    unfolding own_lists
    own_front zero h = rw (start_zero f)
    own_front (suc i) h =
        rw (start_next f i)
        (take-add (own_start f i) (length (own_list f i)) lists ∙ ap₂ (λ (x y : List ℕ). x ++ y) (own_front i (omega arith)) (own_part i h))

    own_behind : drop (own_start f n) lists ≡ drop (own_start f n) lists₀
    own_behind =
        ext_get_or 0 (drop (own_start f n) lists) (drop (own_start f n) lists₀) (omega (arith, length-drop (own_start f n) lists, length-drop (own_start f n) lists₀, a.lists_long)) (λ j l.
        get_or-drop (own_start f n) lists j 0 ∙ a.behind (own_start f n + j) (omega arith) ∙ sym (get_or-drop (own_start f n) lists₀ j 0))

    pub filled_end : lists ≡ own_lists f n ++ drop (own_start f n) lists₀
    filled_end = sym (take-append-drop (own_start f n) lists) ∙ ap₂ (λ (x y : List ℕ). x ++ y) (own_front n (omega arith)) own_behind
