-- The table after a run of calls tells each transaction's past.
use Rattle.std.proofs.Common.{◌≡◌, ◌+◌, ◌<◌, List, [], ◌∷◌, refl, sym, ap, subst, ◌∙◌, Bool, true, false, cond, eqb, ltb, arith}
use Rattle.std.proofs.lemmas.Bool.Decides.{nat_tests}
use Rattle.std.specs.Prelude.{Option, None, Some, ◌&&◌, not}
use Rattle.gx_ids.specs.declared.ids.Gxid.{Gxid}
use Rattle.gx_ids.specs.declared.ids.Node.{Node}
use Rattle.gx_msg.specs.declared.reply.Reply.{Reply as Answer}
use Rattle.gx_msg.specs.declared.reply.Reply.TheVariants as answer
use Rattle.gx_dtx.specs.declared.outcome.Outcome.{Outcome}
use Rattle.gx_dtx.specs.declared.outcome.Outcome.TheVariants as outcome
use Rattle.gx_dtx.specs.declared.phase.Phase.{Phase}
use Rattle.gx_dtx.specs.declared.phase.Phase.TheVariants as phase
use Rattle.gx_dtx.specs.declared.txn.Txn.{Txn}
use Rattle.gx_dsnap.specs.Gxids.{is_below}
use Rattle.gx_dtx.specs.Table.{Table, find_txn, runs, is_running, has_ended, xmin_of}
use Rattle.gx_dtx.specs.Runs.{Call, on, after, Admits, IsRun}
use Rattle.gx_dtx.specs.Runs.Call.{Begin, Snap, DropSnap, Enlist, Commit, Abort, Reply}
use Rattle.gx_dtx.specs.Rules.{on_commit, on_abort, on_reply}
use Rattle.gx_dtx.specs.Past.{Past, Fate, past, past_of, about, noted, came, answered, asked, gives_up, is_over}
use Rattle.gx_dtx.specs.Past.Fate.{Open, Decided, Committed, GivenUp, Aborted}
use Rattle.gx_dtx.specs.Agrees.{Agrees, Gone, Stands}
use Rattle.gx_dtx.proofs.Steps.{turned, find-on, IsWhole-after}
use Rattle.gx_dtx.proofs.Agreeing.{begun-agrees, snapped, dropped, enlisted-agrees, commit-agrees, abort-agrees, replied}

pub same_gxid : (g q : Gxid) → eqb q.0 g.0 ≡ true → g ≡ q
same_gxid g q same = grind (arith, nat_tests)

-- a call about a transaction
turned-agrees : (d : Table) (call : Call) (p : Past) → Admits d call → Agrees p (find_txn d (about d call)) → Agrees (noted d call p) (turned d call (find_txn d (about d call)))
turned-agrees d Begin p may agrees = begun-agrees
turned-agrees d (Snap g) p may agrees = snapped p (find_txn d g) (xmin_of d) may agrees
turned-agrees d (DropSnap g) p may agrees = dropped p (find_txn d g) agrees
turned-agrees d (Enlist g i) p may agrees = enlisted-agrees p (find_txn d g) i may agrees
turned-agrees d (Commit g writers) p may agrees = commit-agrees p (find_txn d g) g writers may.0 agrees
turned-agrees d (Abort g) p may agrees = abort-agrees p (find_txn d g) g may agrees
turned-agrees d (Reply g i a fails) p may agrees = replied p (find_txn d g) g i a fails agrees

agrees_if : (d : Table) (call : Call) (g : Gxid) (p : Past) (b : Bool) → eqb g.0 (about d call).0 ≡ b → Admits d call → Agrees p (find_txn d g) → Agrees (cond b (noted d call p) p) (cond b (turned d call (find_txn d (about d call))) (find_txn d g))
agrees_if d call g p true is may agrees = turned-agrees d call p may (subst (λ (h : Gxid). Agrees p (find_txn d h)) (sym (same_gxid (about d call) g is)) agrees)
agrees_if d call g p false is may agrees = agrees

pub agrees-after : (calls : List Call) (g : Gxid) → IsRun calls → Agrees (past g calls) (find_txn (after calls) g)
agrees-after [] g run = (refl, refl)
agrees-after (call ∷ before) g run =
    subst (Agrees (past g (call ∷ before))) (sym (find-on (after before) call g (IsWhole-after before run.0))) (agrees_if (after before) call g (past g before) (eqb g.0 (about (after before) call).0) refl run.1 (agrees-after before g run.0))

-- ---- who has begun

came-begun : (o : Outcome) (p : Past) → (came o p).begun ≡ p.begun
came-begun outcome.Pending p = refl
came-begun outcome.Decided p = refl
came-begun outcome.Committed p = refl
came-begun (outcome.Refused _) p = refl
came-begun outcome.Ended p = refl

answered-begun : (i : Node) (a : Answer) (p : Past) → (answered i a p).begun ≡ p.begun
answered-begun i answer.Prepared p = refl
answered-begun i answer.Committed p = refl
answered-begun i answer.Forgotten p = refl
answered-begun i answer.Aborted p = refl
answered-begun i (answer.Done _ _ _ _) p = refl
answered-begun i (answer.Failed _ _) p = refl
answered-begun i answer.Jfault p = refl
answered-begun i answer.Again p = refl
answered-begun i answer.Restarted p = refl

begun_if : (b x : Bool) (p q : Past) → p.begun ≡ x → q.begun ≡ x → (cond b p q).begun ≡ x
begun_if true x p q a c = a
begun_if false x p q a c = c

begun-more : (b : Bool) (n : Gxid) (g : Gxid) (p : Past) → eqb g.0 n.0 ≡ b → p.begun ≡ is_below n g → (cond b (past_of true) p).begun ≡ is_below (record { 0 = n.0 + 1 }) g
begun-more true n g p is was = grind (arith, nat_tests)
begun-more false n g p is was = was ∙ grind (arith, nat_tests)

begun-on : (d : Table) (call : Call) (g : Gxid) (p : Past) → p.begun ≡ is_below d.next g → (cond (eqb g.0 (about d call).0) (noted d call p) p).begun ≡ is_below (on d call).table.next g
begun-on d Begin g p was = begun-more (eqb g.0 d.next.0) d.next g p refl was
begun-on d (Snap h) g p was = begun_if (eqb g.0 h.0) (is_below d.next g) (noted d (Snap h) p) p was was
begun-on d (DropSnap h) g p was = begun_if (eqb g.0 h.0) (is_below d.next g) (noted d (DropSnap h) p) p was was
begun-on d (Enlist h i) g p was = begun_if (eqb g.0 h.0) (is_below d.next g) (noted d (Enlist h i) p) p was was
begun-on d (Commit h ws) g p was = begun_if (eqb g.0 h.0) (is_below d.next g) (noted d (Commit h ws) p) p (came-begun (on_commit d h ws).out.outcome (asked ws p) ∙ was) was
begun-on d (Abort h) g p was = begun_if (eqb g.0 h.0) (is_below d.next g) (noted d (Abort h) p) p (came-begun (on_abort d h).out.outcome (gives_up p) ∙ was) was
begun-on d (Reply h i a fails) g p was =
    begun_if (eqb g.0 h.0) (is_below d.next g) (noted d (Reply h i a fails) p) p (came-begun (on_reply d h i a fails).out.outcome (answered i a p) ∙ answered-begun i a p ∙ was) was

-- those below the next gxid
pub begun-after : (calls : List Call) (g : Gxid) → 0 < g.0 → (past g calls).begun ≡ is_below (after calls).next g
begun-after [] g first = grind (arith, nat_tests)
begun-after (call ∷ before) g first = begun-on (after before) call g (past g before) (begun-after before g first)

-- ---- who has ended

over-in : (p : Past) (ns : List Node) (ph : Phase) → Stands p ns ph → not (is_running ph) ≡ is_over p.fate
over-in p ns phase.Active s = ap is_over (sym s.0)
over-in p ns (phase.Preparing _ _) s = ap is_over (sym s.0.0)
over-in p ns (phase.CommittingOne _) s = ap is_over (sym s.0.0)
over-in p ns (phase.CommittingTwo _) s = ap is_over (sym s.0)
over-in p ns (phase.Ended _) s = ap is_over (sym s.0)
over-in p ns (phase.Aborting _) s = ap is_over (sym s.0)

pub gone-over : (p : Past) (f : Fate) → Gone p f → p.begun ≡ is_over f
gone-over p Open gone = gone
gone-over p Decided gone = absurd gone
gone-over p Committed gone = gone.0
gone-over p GivenUp gone = absurd gone
gone-over p Aborted gone = gone.0

pub over-agrees : (p : Past) (o : Option Txn) → Agrees p o → (p.begun && not (runs o)) ≡ is_over p.fate
over-agrees p None agrees = ap (λ b. b && true) (gone-over p p.fate agrees.1) ∙ grind (arith, nat_tests)
over-agrees p (Some t) k = ap (λ b. b && not (is_running t.phase)) k.begun ∙ over-in p t.participants t.phase k.stands

drawn-is : (n g : Gxid) → 0 < g.0 → (ltb 0 g.0 && is_below n g) ≡ is_below n g
drawn-is n g first = grind (arith, nat_tests)

pub ended-after : (calls : List Call) (g : Gxid) → IsRun calls → 0 < g.0 → has_ended (after calls) g ≡ is_over (past g calls).fate
ended-after calls g run first =
    ap (λ b. b && not (runs (find_txn (after calls) g))) (drawn-is (after calls).next g first ∙ sym (begun-after calls g first))
    ∙ over-agrees (past g calls) (find_txn (after calls) g) (agrees-after calls g run)
