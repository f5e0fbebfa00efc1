-- Changes through an index: the file's own gives what none gives, and any that fits renews just the lines listed. Assumes nothing.
use Prim.Native.Nat.{ℕ, ◌≤◌}
use mathlib.Core.Path.{◌≡◌, refl, sym, ap, ◌∙◌}
use mathlib.Core.Bool.{true, false}
use mathlib.Core.List.{List, ◌++◌}
use Rattle.std.specs.Prelude.{None, Some}
use lib.ListN.{length, get_or, drop, set, length-set, get_or-append}
use lib.Seq.{length-take-le, take_at}
use Rattle.refusal.specs.Result.{Reply, Ok, Err}
use Rattle.refusal.proofs.ResultLaws.{never}
use Rattle.constraint.specs.File.{File}
use Rattle.judge.specs.declared.Judged.{Judged}
use Rattle.judge.specs.Judge.{verdict_byte, column_of}
use Rattle.judge.specs.InUse.{Tables, row_in_use, column_in_use}
use Rattle.index.specs.Index.{Index}
use Rattle.index.specs.AnyIndex.{list_in, concerned}
use Rattle.index.specs.Claims.{IsOwn}
use Rattle.index.proofs.SelectLaws.{numbered_at, numbered_none}
use Rattle.index.proofs.ListedLaws.{named_listed}
use Rattle.index.proofs.OwnIndexLaws.{concerned_own, index_fits_own}
use Rattle.moves.specs.declared.Effect.{Effect}
use Rattle.moves.specs.Step.{renewed, step}
use Rattle.moves.specs.Gate.{changing, admitted}
use Rattle.moves.specs.Change.{made, changed}
use Rattle.moves.specs.WholeRun.{TouchesOnlyLines}
use Rattle.moves.specs.Through.{OwnIndexSame, JustLines, JustListed, RenewsJustListed}
use Rattle.moves.proofs.RenewLaws.{renewed_at, fresh_long, new_long}
use Rattle.moves.proofs.GateLaws.{gate_then, Admitted, admitted_passed}
use Rattle.moves.proofs.ChangeLaws.{values_stored}
use Rattle.moves.proofs.TouchLaws.{made_touches}

-- ---- the file's own
module _ (f : File) (t : Tables) (i v : ℕ) (x : Index) (own : IsOwn f x) where
  admitted_same : admitted f t (changing i v (Some x)) ≡ admitted f t (changing i v None)
  admitted_same = gate_then f t i v (Some x) ∙ rw (index_fits_own f x own, gate_then f t i v None)

  changed_same : (r : Reply (Unit {0})) → admitted f t (changing i v None) ≡ r → changed f t (changing i v (Some x)) r ≡ changed f t (changing i v None) r
  unfolding made step
  changed_same (Ok tt) e = rw (concerned_own f x own i (admitted_passed f t (changing i v None) e).is_entitled.variable)
  changed_same (Err r) e = refl

pub own_index_same : OwnIndexSame
own_index_same constraint t i v f x read own = rw read (ap (changed f t (changing i v (Some x))) (admitted_same f t i v x own) ∙ changed_same f t i v x own (admitted f t (changing i v None)) refl)

-- ---- any that fits
abbrev named_of : Reply Effect → ℕ
named_of (Ok e) = e.named
named_of (Err r) = 0

-- a column of m entries in use, the lines listed made anew
just_column : (part : Judged → ℕ) (f : File) (x : Index) (i : ℕ) (row old : List ℕ) → length f.lines ≤ length old → let fresh = column_of part f.variables row f.lines in
    TouchesOnlyLines (concerned f (Some x) i) old (renewed (concerned f (Some x) i) fresh (column_in_use f old) ++ drop (length f.lines) old)
    → JustLines f (list_in x i) fresh old (renewed (concerned f (Some x) i) fresh (column_in_use f old) ++ drop (length f.lines) old)
just_column part f x i row old room kept =
    let m = length f.lines in
    let lines = concerned f (Some x) i in
    let held = column_in_use f old in
    let fresh = column_of part f.variables row f.lines in
    let held_long = length-take-le m old room in
    record {
      listed = λ j h q.
          let picked : get_or lines j false ≡ true = numbered_at (list_in x i) 1 f.lines j h ∙ q in
          get_or-append (renewed lines fresh held) (drop m old) 0 j (rw (new_long part f (Some x) i row held held_long, held_long) h)
          ∙ renewed_at lines fresh held j (fresh_long part f (Some x) i row held held_long) (rw held_long h) picked;
      others = λ j q. kept.others j (numbered_none (list_in x i) 1 f.lines j q);
    }

module _ (f : File) (t : Tables) (i v : ℕ) (x : Index) (e : Effect) where
  made_listed : Admitted f t (changing i v (Some x)) → (made f t (changing i v (Some x))).reply ≡ Ok e → JustListed f x i v t e (made f t (changing i v (Some x))).tables
  unfolding made step
  made_listed p k =
      let n = length f.variables in
      let row = set (row_in_use f t.values) i v in
      let room = p.is_entitled.has_room in
      let row_is : row_in_use f (row ++ drop n t.values) ≡ row = take_at row (drop n t.values) n (length-set (row_in_use f t.values) i v ∙ length-take-le n t.values room.values) in
      let kept = made_touches f t (changing i v (Some x)) p in
      record {
        named = sym (ap named_of k) ∙ named_listed f x i p.index_fits_lem p.is_entitled.variable;
        values_are = values_stored f t i v (Some x) p;
        verdicts = rw row_is (just_column (λ j. verdict_byte j.verdict) f x i row t.verdicts room.verdicts kept.verdicts);
        results = rw row_is (just_column (λ j. j.result) f x i row t.results room.results kept.results);
      }

  changed_listed : (r : Reply (Unit {0})) → admitted f t (changing i v (Some x)) ≡ r → (changed f t (changing i v (Some x)) r).reply ≡ Ok e → JustListed f x i v t e (changed f t (changing i v (Some x)) r).tables
  changed_listed (Ok tt) q k = made_listed (admitted_passed f t (changing i v (Some x)) q) k
  changed_listed (Err r) q k = never (cc k)

pub renews_just_listed : RenewsJustListed
renews_just_listed constraint t i v f x e read k = rw read (changed_listed f t i v x e (admitted f t (changing i v (Some x))) refl (rw read at k))
