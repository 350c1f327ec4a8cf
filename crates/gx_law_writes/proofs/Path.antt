-- The rows one behind the other: each mark is legal at its point, each row is processed once, and the writes are counted.
use Rattle.std.proofs.Common.{◌≡◌, ◌∙◌, ◌⊎◌, inl, inr, ℕ, ◌+◌, Bool, true, false, not, ◌&&◌, ◌||◌, List, [], ◌∷◌, ◌++◌, Option, Some, None, ap, refl, sym, subst, if◌then◌else◌, arith}
use Rattle.std.proofs.lemmas.Bool.Decides.{nat_tests}
use Rattle.std.proofs.lemmas.List.{append-nil, append_assoc}
use Rattle.gx_ids.specs.declared.ids.Cid.{Cid}
use Rattle.gx_ids.specs.declared.ids.Gxid.{Gxid}
use Rattle.gx_ids.specs.declared.ids.Node.{Node}
use Rattle.gx_ids.specs.declared.ids.Table.{Table}
use Rattle.gx_ids.specs.declared.rid.Rid.{Rid}
use Rattle.gx_tree.specs.declared.value.Value.{Value}
use Rattle.gx_waits.specs.declared.claim.Claim.{Claim}
use Rattle.gx_lemmas.proofs.Tests.{or-false}
use Rattle.gx_store.proofs.Marks.{is_processed-append}
use Rattle.gx_store.specs.declared.mark.Mark.{Mark}
use Rattle.gx_store.specs.declared.mark.Mark.TheVariants as mark
use Rattle.gx_store.specs.Marks.{is_command_of, is_processed, is_same_rid}
use Rattle.gx_rules.specs.Changes.{Change, RowEnd, RowTurn, does_row, ended, gives_back_if_held, tuple_lock}
use Rattle.gx_rules.specs.Changes.RowEnd.{Failing, Skipped, Waiting, Written}
use Rattle.gx_rules.specs.Segments.{Phase, Version, local_of}
use Rattle.gx_rules.specs.Segments.Phase.{Aborted, Committed, Forgotten, Prepared, Reading, Writing}
use Rattle.gx_rules.specs.Slices.{Moved, adds_version, gives_back, is_holding, noted, takes_own, version, writes_row}
use Rattle.gx_law_order.proofs.Lists.{each_append}
use Rattle.gx_law_order.specs.Lists.{Each}

-- ONE ROW'S MARKS
-- marks of locks alone
abbrev pub IsLock : Mark → Type 0
IsLock (mark.Hold n g o m) = Unit {0}
IsLock (mark.Wait n g o m) = Unit {0}
IsLock (mark.Release n g o m) = Unit {0}
IsLock _ = ⊥

-- the marks of one that was moved are those of the other, one that tells what was done to a row, and marks of locks
pub record Adds (m n : Moved) (x : Mark) : Type 0 where
  pub locks : List Mark
  pub only : Each IsLock locks
  pub is : n.marks ≡ m.marks ++ (x ∷ locks)

adds-lock : (m n : Moved) (x y : Mark) → IsLock y → Adds m n x → (p : Moved) → p.marks ≡ n.marks ++ y ∷ [] → Adds m p x
adds-lock m n x y lock a p e =
    record { locks = a.locks ++ y ∷ []; only = each_append IsLock a.locks (y ∷ []) a.only (lock, tt); is = e ∙ ap (λ ms. ms ++ y ∷ []) a.is ∙ append_assoc m.marks (x ∷ a.locks) (y ∷ []) }

back-adds : (m n : Moved) (x : Mark) (old : Claim) → Adds m n x → Adds m (gives_back_if_held old n) x
back-adds m n x old a = by_test (is_holding n old)
  where
    by_test : (b : Bool) → Adds m (if b then gives_back old n else n) x
    by_test true = adds-lock m n x _ tt a (gives_back old n) refl
    by_test false = a

own-adds : (m n : Moved) (x : Mark) (g : Gxid) (phase : Phase) → Adds m n x → Adds m (takes_own g phase n) x
own-adds m n x g Reading a = adds-lock m n x _ tt a (takes_own g Reading n) refl
own-adds m n x g Writing a = a
own-adds m n x g Prepared a = a
own-adds m n x g Committed a = a
own-adds m n x g (Forgotten b) a = a
own-adds m n x g Aborted a = a

pub write-adds : (m : Moved) (g : Gxid) (c : Cid) (table : Table) (rid : Rid) (image : Option (List Value)) (old : Claim) → Adds m (gives_back_if_held old (writes_row g c table m rid image)) (mark.Write g c m.seg.node table rid image)
write-adds m g c table rid image old = back-adds m (writes_row g c table m rid image) x old (own-adds m written x g (local_of m.seg g).phase (record { locks = []; only = tt; is = refl }))
  where
    x : Mark
    x = mark.Write g c m.seg.node table rid image

    written : Moved
    written = record { seg = adds_version m.seg g (version g c table rid image); marks = m.marks ++ x ∷ [] }

pub note-adds : (m : Moved) (x : Mark) (old : Claim) → Adds m (gives_back_if_held old (noted m x)) x
note-adds m x old = back-adds m (noted m x) x old (record { locks = []; only = tt; is = refl })

-- WHICH ROWS ARE PROCESSED
pub locks-process-none : (g : Gxid) (c : Cid) (rid : Rid) (ms : List Mark) → Each IsLock ms → is_processed ms g c rid ≡ false
locks-process-none g c rid [] e = refl
locks-process-none g c rid (mark.Write h d n t r x ∷ ms) e = absurd e.0
locks-process-none g c rid (mark.Skip h d r ∷ ms) e = absurd e.0
locks-process-none g c rid (m ∷ ms) e = locks-process-none g c rid ms e.1

-- the row that a mark processes for the command
abbrev pub processes_in : Mark → Gxid → Cid → Rid → Bool
processes_in x g c rid = is_processed (x ∷ []) g c rid

pub adds-processed : (before : List Mark) (m n : Moved) (x : Mark) (g : Gxid) (c : Cid) (rid : Rid) → Adds m n x → is_processed (before ++ n.marks) g c rid ≡ (is_processed (before ++ m.marks) g c rid || processes_in x g c rid)
adds-processed before m n x g c rid a =
    ap (λ ms. is_processed (before ++ ms) g c rid) a.is
    ∙ ap (λ ms. is_processed ms g c rid) (sym (append_assoc before m.marks (x ∷ a.locks)))
    ∙ is_processed-append (before ++ m.marks) (x ∷ a.locks) g c rid
    ∙ ap (λ b. is_processed (before ++ m.marks) g c rid || b) (is_processed-append (x ∷ []) a.locks g c rid ∙ ap (λ b. processes_in x g c rid || b) (locks-process-none g c rid a.locks a.only) ∙ or-false (processes_in x g c rid))

-- distinct rows
abbrev pub AreApart : List Rid → Type 0
AreApart [] = Unit {0}
AreApart (r ∷ rs) = Each (λ (q : Rid). is_same_rid r q ≡ false) rs × AreApart rs

-- LEGAL MARKS
-- each of these marks, behind those before, whatever comes behind it
abbrev pub Legals : (List Mark → Mark → Type 0) → List Mark → List Mark → Type 0
Legals Ok before [] = Unit {0}
Legals Ok before (x ∷ xs) = Ok before x × Legals Ok (before ++ x ∷ []) xs

pub legals-append : (Ok : List Mark → Mark → Type 0) (before xs ys : List Mark) → Legals Ok before xs → Legals Ok (before ++ xs) ys → Legals Ok before (xs ++ ys)
legals-append Ok before [] ys e f = subst (λ ms. Legals Ok ms ys) (append-nil before) f
legals-append Ok before (x ∷ xs) ys e f = (e.0, legals-append Ok (before ++ x ∷ []) xs ys e.1 (subst (λ ms. Legals Ok ms ys) (sym (append_assoc before (x ∷ []) xs)) f))

pub legals-locks : (Ok : List Mark → Mark → Type 0) → ((before : List Mark) (x : Mark) → IsLock x → Ok before x) → (before xs : List Mark) → Each IsLock xs → Legals Ok before xs
legals-locks Ok locks before [] e = tt
legals-locks Ok locks before (x ∷ xs) e = (locks before x e.0, legals-locks Ok locks (before ++ x ∷ []) xs e.1)

pub adds-legals : (Ok : List Mark → Mark → Type 0) → ((before : List Mark) (x : Mark) → IsLock x → Ok before x) → (before : List Mark) (m n : Moved) (x : Mark) → Adds m n x → Legals Ok before m.marks → Ok (before ++ m.marks) x
    → Legals Ok before n.marks
adds-legals Ok locks before m n x a e f =
    subst (Legals Ok before) (sym a.is) (legals-append Ok before m.marks (x ∷ a.locks) e (f, legals-locks Ok locks ((before ++ m.marks) ++ x ∷ []) a.locks a.only))
