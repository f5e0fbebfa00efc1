-- Any index: the lines that it lists, and whether it fits a file.
use Rattle.std.specs.Prelude.{ℕ, suc, Bool, true, ◌&&◌, List, [], ◌∷◌, ltb, leb, length, get_or, take, drop, Option, None, Some}
use Rattle.refusal.specs.declared.Subject.TheVariants.{Starts, Lists}
use Rattle.refusal.specs.declared.Fault.TheVariants.{WrongIndex}
use Rattle.refusal.specs.Lists.{every, is_one_of}
use Rattle.refusal.specs.Result.{Reply, Ok, refusal, ensure, ◌>>◌}
use Rattle.constraint.specs.declared.Line.{Line}
use Rattle.constraint.specs.File.{File}
use Rattle.store.specs.Tables.{tabulate}
use Rattle.index.specs.Select.{naming}
use Rattle.index.specs.Index.{Index}

-- the list of the variable i: from its start up to the next one's, or the end
unfoldable pub list_in : Index → ℕ → List ℕ
list_in x i = drop (get_or x.starts i 0) (take (get_or x.starts (suc i) 0) x.lists)

-- the lines whose numbers are in a list, the first line being n
unfoldable pub numbered : List ℕ → ℕ → List Line → List Bool
numbered ns n [] = []
numbered ns n (l ∷ ls) = is_one_of n ns ∷ numbered ns (suc n) ls

-- the lines that a change of the variable i concerns: without an index those that name it, through one "just the lines listed"
abbrev pub concerned : File → Option Index → ℕ → List Bool
concerned f None i = naming f i
concerned f (Some x) i = numbered (list_in x i) 1 f.lines

-- 25

-- each number and the one behind it pass
unfoldable pub neighbours : (ℕ → ℕ → Bool) → List ℕ → Bool
neighbours test [] = true
neighbours test (a ∷ []) = true
neighbours test (a ∷ b ∷ rest) = test a b && neighbours test (b ∷ rest)

-- the starts of n variables, and the end
abbrev pub starts_in_use : ℕ → Index → List ℕ
starts_in_use n x = take (suc n) x.starts

-- of n variables: no "start, or the end, that is missing, falls or passes the room"
unfoldable pub starts_fit : ℕ → Index → Bool
starts_fit n x = ltb n (length x.starts) && neighbours leb (starts_in_use n x) && every (λ s. leb s (length x.lists)) (starts_in_use n x)

-- of m lines: no "listed line number .. that is 0, too large or not above the one before it in its list"
unfoldable pub list_fits : ℕ → List ℕ → Bool
list_fits m ns = every (λ n. ltb 0 n && leb n m) ns && neighbours ltb ns

-- of n variables and m lines: "other variables' too"
unfoldable pub lists_fit : ℕ → ℕ → Index → Bool
lists_fit n m x = every (λ i. list_fits m (list_in x i)) (tabulate (λ i. i) n)

-- "25 at position 0", of n variables and m lines: of the starts, then of the lists
abbrev pub index_fits_for : ℕ → ℕ → Index → Reply (Unit {0})
index_fits_for n m x = ensure (starts_fit n x) (refusal Starts WrongIndex 0) >> ensure (lists_fit n m x) (refusal Lists WrongIndex 0)

-- without an index there is nothing to test
abbrev pub index_fits : File → Option Index → Reply (Unit {0})
index_fits f None = Ok tt
index_fits f (Some x) = index_fits_for (length f.variables) (length f.lines) x
