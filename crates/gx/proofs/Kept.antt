-- What became of the journals.
use Rattle.std.proofs.Common.{◌≡◌, ℕ, List, [], ◌++◌, Bool, true, sym, ap, ◌∙◌, subst, take, length}
use Rattle.std.proofs.Math.Seq.{take-append_seam}
use Rattle.std.specs.Prelude.{map}
use Rattle.gx_store.specs.declared.run.Step.{Step}
use Rattle.gx_outside.specs.Shelves.{Shelf, AreEmpty}
use Rattle.gx_drive.specs.Ordered.{AreFailuresFew, AreHeld, AreHeldSoFar}
use Rattle.gx_drive.proofs.Journals.{none-failed, none-held, none-held-so-far}
use Rattle.gx_store.specs.declared.run.Run.{Run}
use Rattle.gx_store.specs.Told.{no_run}
use Rattle.gx.specs.Top.{AreKept}

-- nothing was run
pub none-kept : (shelves : List Shelf) (over : Bool) → AreEmpty shelves → AreKept [] over shelves shelves
none-kept shelves over empty = record { failures = none-failed shelves; so_far = none-held-so-far shelves empty; held = λ _. none-held shelves empty }

pub none_ran : (shelves : List Shelf) (over : Bool) (run : Run) → run ≡ no_run → AreEmpty shelves → AreKept run.steps over shelves shelves
none_ran shelves over run none empty = subst (λ (r : Run). AreKept r.steps over shelves shelves) (sym none) (none-kept shelves over empty)

-- as many journals as were lent to the driver have come back
pub count-back : {A : Type 0} (new rest : List A) (n : ℕ) → n ≡ length new → length (take n (new ++ rest)) ≡ n
count-back new rest n long = ap length (ap (λ k. take k (new ++ rest)) long ∙ take-append_seam new rest) ∙ sym long

pub kept-back : {A : Type 0} (f : A → Shelf) (old lent new rest : List A) (n : ℕ) (steps : List Step) (run : Run) (over : Bool) → lent ≡ old → n ≡ length new → run.steps ≡ steps → AreFailuresFew steps (map f lent) (map f new) → AreHeldSoFar steps (map f new) → (over ≡ true → AreHeld steps (map f new))
    → AreKept run.steps over (map f old) (map f (take n (new ++ rest)))
kept-back f old lent new rest n steps run over same long is few so-far held =
    subst (λ js. AreKept run.steps over (map f old) (map f js)) (sym back)
    (subst (λ ss. AreKept ss over (map f old) (map f new)) (sym is) (record { failures = subst (λ js. AreFailuresFew steps (map f js) (map f new)) same few; so_far = so-far; held = held }))
  where
    back : take n (new ++ rest) ≡ new
    back = ap (λ k. take k (new ++ rest)) long ∙ take-append_seam new rest
