-- What is over stays so.
use Rattle.std.proofs.Common.{◌≡◌, ◌<◌, List, ◌∷◌, refl, sym, ap, subst, ◌∙◌, Bool, true, false, cond, eqb, arith}
use Rattle.std.proofs.lemmas.Bool.Decides.{nat_tests}
use Rattle.std.specs.Prelude.{Option, Some, option_map, ◌&&◌, not}
use Rattle.gx_ids.specs.declared.ids.Gxid.{Gxid}
use Rattle.gx_dsnap.specs.Gxids.{is_below}
use Rattle.gx_dtx.specs.declared.status.Status.TheVariants as status
use Rattle.gx_dtx.specs.declared.txn.Txn.{Txn}
use Rattle.gx_dtx.specs.Table.{Table, find_txn, runs, status_in}
use Rattle.gx_dtx.specs.Runs.{Call, after, Admits, IsRun}
use Rattle.gx_dtx.specs.Runs.Call.{Begin, Snap, DropSnap, Enlist, Commit, Abort, Reply}
use Rattle.gx_dtx.specs.Past.{Past, past, about, noted, came, answered, is_over}
use Rattle.gx_dtx.specs.Agrees.{Agrees}
use Rattle.gx_dtx.specs.Whole.{IsWhole}
use Rattle.gx_dtx.proofs.Agreeing.{fate-same}
use Rattle.gx_dtx.proofs.Fitting.{active-runs}
use Rattle.gx_dtx.proofs.History.{over-agrees, begun-after, agrees-after, same_gxid}
use Rattle.gx_dtx.proofs.Promises.{over-pending}
use Rattle.gx_dtx.proofs.Steps.{IsWhole-after}

-- an active transaction isn't over
not-active : {A : Type 0} (p : Past) (o : Option Txn) → Agrees p o → is_over p.fate ≡ true → option_map (λ t. status_in t.phase) o ≡ Some status.Active → A
not-active p o agrees over active = absurd (against p.begun (runs o) (is_over p.fate) (over-agrees p o agrees) over (active-runs o active))
  where
    against : (b r f : Bool) → (b && not r) ≡ f → f ≡ true → r ≡ true → ⊥
    against b r f is over ran = grind (arith, nat_tests)

-- nor does it begin
not-next : {A : Type 0} (d : Table) (p : Past) (o : Option Txn) → Agrees p o → is_over p.fate ≡ true → p.begun ≡ is_below d.next d.next → A
not-next d p o agrees over begun = absurd (against d.next p.begun (runs o) (is_over p.fate) (over-agrees p o agrees) over begun)
  where
    against : (n : Gxid) (b r f : Bool) → (b && not r) ≡ f → f ≡ true → b ≡ is_below n n → ⊥
    against n b r f is over begun = grind (arith, nat_tests)

noted-over : (d : Table) (call : Call) (p : Past) → Admits d call → Agrees p (find_txn d (about d call)) → is_over p.fate ≡ true → (0 < d.next.0) → (call ≡ Begin → p.begun ≡ is_below d.next d.next) → (noted d call p).fate ≡ p.fate
noted-over d Begin p may agrees over first begun = not-next d p (find_txn d d.next) agrees over (begun refl)
noted-over d (Snap g) p may agrees over first begun = refl
noted-over d (DropSnap g) p may agrees over first begun = refl
noted-over d (Enlist g i) p may agrees over first begun = refl
noted-over d (Commit g ws) p may agrees over first begun = not-active p (find_txn d g) agrees over may.0
noted-over d (Abort g) p may agrees over first begun = not-active p (find_txn d g) agrees over may
noted-over d (Reply g i a fails) p may agrees over first begun =
    ap (λ o. (came o (answered i a p)).fate) (over-pending p (find_txn d g) g i a fails agrees over) ∙ fate-same p i a

over_if : (before : List Call) (call : Call) (g : Gxid) (b : Bool) → eqb g.0 (about (after before) call).0 ≡ b → IsRun before → Admits (after before) call → is_over (past g before).fate ≡ true → (cond b (noted (after before) call (past g before)) (past g before)).fate ≡ (past g before).fate
over_if before call g true is run may over =
    let d = after before in
    let same : about d call ≡ g = same_gxid (about d call) g is in
    let w : IsWhole d = IsWhole-after before run in
    let agrees : Agrees (past g before) (find_txn d (about d call)) = subst (λ (h : Gxid). Agrees (past g before) (find_txn d h)) (sym same) (agrees-after before g run) in
    noted-over d call (past g before) may agrees over w.first (begins call same)
  where
    begins : (c : Call) → about (after before) c ≡ g → c ≡ Begin → (past g before).begun ≡ is_below (after before).next (after before).next
    begins c same e =
        let next : (after before).next ≡ g = ap (about (after before)) (sym e) ∙ same in
        subst (λ (h : Gxid). (past h before).begun ≡ is_below (after before).next (after before).next) next (begun-after before (after before).next (IsWhole-after before run).first)
over_if before call g false is run may over = refl

pub over-for-good : (call : Call) (before : List Call) (g : Gxid) → IsRun (call ∷ before) → is_over (past g before).fate ≡ true → (past g (call ∷ before)).fate ≡ (past g before).fate
over-for-good call before g run over = over_if before call g (eqb g.0 (about (after before) call).0) refl run.0 run.1 over
