-- An index that is built is the file's own. Assumes nothing.
use Prim.Native.Nat.{ℕ}
use mathlib.Core.Path.{◌≡◌, refl, sym, ◌∙◌}
use mathlib.Core.List.{List}
use lib.Dec.{leb}
use lib.ListN.{length, drop}
use lib.Seq.{take-append_seam}
use Rattle.refusal.specs.Result.{Reply, Ok, Err}
use Rattle.refusal.proofs.ResultLaws.{never, Yields, yields_accepted, yields_bind, yields_ensure, yields_itself}
use Rattle.constraint.specs.File.{File}
use Rattle.constraint.specs.Read.{read_file}
use Rattle.index.specs.Index.{index_of, own_index, indexing, indexed}
use Rattle.index.specs.Claims.{IsOwn, BuiltIsOwn}

module _ (constraint starts lists : List ℕ) where
  -- what is indexed is the file that is read
  pub indexing_yields : Yields (λ f. read_file constraint ≡ Ok f) (indexing constraint starts lists)
  unfolding indexing
  indexing_yields =
      yields_bind (yields_itself (read_file constraint)) λ f a.
      yields_ensure (leb (length (own_index f).starts) (length starts)) _ λ v.
      yields_ensure (leb (length (own_index f).lists) (length lists)) _ λ w.
      yields_accepted a

  built_by : (f : File) (n : ℕ) → read_file constraint ≡ Ok f → (q : Reply File) → indexing constraint starts lists ≡ q → (indexed starts lists q).reply ≡ Ok n → IsOwn f (index_of (indexed starts lists q).starts (indexed starts lists q).lists)
  built_by f n read (Ok g) e r =
      let z : Ok f ≡ Ok g = sym read ∙ indexing_yields.holds g e in
      let y : f ≡ g = cc z in
      rw y (record {
        starts = sym (take-append_seam (own_index g).starts (drop (length (own_index g).starts) starts));
        lists = sym (take-append_seam (own_index g).lists (drop (length (own_index g).lists) lists));
      })
  built_by f n read (Err x) e r = never (cc r)

pub built_is_own : BuiltIsOwn
built_is_own constraint starts lists f n read r = built_by constraint starts lists f n read (indexing constraint starts lists) refl r
