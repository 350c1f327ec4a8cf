-- Lines that start, sessions that end, and answers that come.
use Rattle.std.proofs.Common.{◌≡◌, ◌≤◌, ◌<◌, inl, inr, ℕ, ◌+◌, List, [], ◌∷◌, ◌++◌, Option, Some, None, Bool, true, false, refl, sym, subst, ap, ◌∙◌, if◌then◌else◌, arith, eqb, append-nil}
use Rattle.std.proofs.lemmas.Bool.{eqb-true}
use Rattle.std.proofs.lemmas.Bool.Decides.{nat_tests}
use Rattle.gx_lemmas.proofs.Numbers.{eqb-self}
use Rattle.gx_ids.specs.declared.ids.Gxid.{Gxid}
use Rattle.gx_ids.specs.declared.ids.SessionId.{SessionId}
use Rattle.gx_tree.specs.declared.stmt.Level.{Level}
use Rattle.gx_tree.specs.declared.stmt.Level.TheVariants.{ReadCommitted}
use Rattle.gx_tree.specs.declared.stmt.Stmt.{Stmt}
use Rattle.gx_tree.specs.declared.stmt.Stmt.TheVariants as stmt
use Rattle.gx_dtx.specs.Rules.{begun, on_abort}
use Rattle.gx_dtx.specs.Table.{Table, find_txn, new_txn}
use Rattle.gx_dtx.specs.declared.txn.Txn.{Txn}
use Rattle.gx_script.specs.declared.Script.{Script}
use Rattle.gx_script.specs.Session.{after_line, block_after, idle_outside, line_step}
use Rattle.gx_script.specs.declared.line_step.LineStep.{LineStep}
use Rattle.gx_script.specs.declared.line_step.LineStep.TheVariants as step
use Rattle.gx_script.specs.declared.state.Block.{Block}
use Rattle.gx_script.specs.declared.state.Block.TheVariants.{Outside, Open, Failed}
use Rattle.gx_script.specs.declared.state.Pending.{Pending}
use Rattle.gx_script.specs.declared.state.Pending.TheVariants as pending
use Rattle.gx_store.specs.declared.answer.StmtAnswer.{StmtAnswer}
use Rattle.gx_store.specs.declared.answer.StmtAnswer.TheVariants as told
use Rattle.gx_store.specs.declared.mark.Mark.{Mark}
use Rattle.gx_store.specs.declared.mark.Mark.TheVariants as mark
use Rattle.gx_rules.specs.AtCoordinator.{answer_mark, answers_at_once, begins, behind, commits, dispatches, ends_in, on_line, rolls_back, starts, starts_line}
use Rattle.gx_rules.specs.Coordinators.{Command, Coord, Session, new_work, rests, session_of, with_session, with_state}
use Rattle.gx_law_order.proofs.Closings.{behind-good, commits-good, past-same}
use Rattle.gx_law_order.proofs.Commands.{dispatch-good, same-finds}
use Rattle.gx_law_order.proofs.Ends.{begun-finds, past-begun}
use Rattle.gx_law_order.specs.Lists.{Each}
use Rattle.gx_law_order.proofs.Past.{Still, still-committed}
use Rattle.gx_law_order.specs.Past.{Past}
use Rattle.gx_law_order.proofs.Sessions.{kept-idle}
use Rattle.gx_law_order.specs.Sessions.{IsQueued, Kept, Placed, Tied, is_live_in, is_nothing_in, is_open_in, is_working_in}
use Rattle.gx_law_order.specs.Stages.{Apart, Below, IsWhole, stage, stage_of}
use Rattle.gx_law_order.proofs.Stages.{none-at}
use Rattle.gx_law_order.specs.Standings.{gx}
use Rattle.gx_law_order.proofs.Statuses.{Falls, Turned, abort-turns}
use Rattle.gx_law_order.specs.Stages.Stage.{Absent, Closing, Live}
use Rattle.gx_law_order.proofs.Turns.{Base, Good, base-kept, falls-is, merged, rolled-good, same-sessions, same-works, stage-is}
use Rattle.gx_law_order.proofs.Queued.{Queues, queue-stays, queued-by}

-- marks that tell of no end
pub past-still : (c d : Coord) (before ns : List Mark) → Past c before → d.table ≡ c.table → Each Still ns → Past d (before ++ ns)
past-still c d before ns p same e =
    past-same c d before ns 0 (find_txn c.table (gx 0)) p (ap (λ (q : Table). q.next) same) (λ h. ap (λ (q : Table). find_txn q (gx h)) same ∙ same-finds c.table 0 h) refl (ap (λ (q : Table). q.latest_ended) same) (λ h. still-committed ns (gx h) e)

pub rest-good : {script : Script} (c : Coord) (before : List Mark) → Kept script c → Past c before → Good script before (rests c)
rest-good c before k p = record { kept = k; past = subst (λ m. Past c m) (sym (append-nil before)) p; seen = tt }

-- what a line asks for, by the block
abbrev pub Asks : Block → LineStep → Type 0
Asks b (step.Answer plain) = is_open_in (block_after b (step.Answer plain)) ≡ is_open_in b
Asks b step.InFailedBlock = Unit {0}
Asks b step.NotInBlock = Unit {0}
Asks b (step.BeginBlock level) = b ≡ Outside
Asks b step.CommitBlock = is_open_in b ≡ true
Asks b step.RollbackBlock = is_open_in b ≡ true
Asks b (step.Command true) = b ≡ Outside
Asks b (step.Command false) = is_open_in b ≡ true

pub asks : (b : Block) (line : Stmt) → Asks b (line_step b line)
asks Outside (stmt.Begin level) = refl
asks Outside stmt.Commit = refl
asks Outside stmt.Rollback = refl
asks Outside (stmt.Lock t m) = tt
asks Outside (stmt.Select q) = refl
asks Outside (stmt.Insert t x) = refl
asks Outside (stmt.Update t x y) = refl
asks Outside (stmt.Delete t x) = refl
asks (Open l) (stmt.Begin level) = refl
asks (Open l) stmt.Commit = refl
asks (Open l) stmt.Rollback = refl
asks (Open l) (stmt.Lock t m) = refl
asks (Open l) (stmt.Select q) = refl
asks (Open l) (stmt.Insert t x) = refl
asks (Open l) (stmt.Update t x y) = refl
asks (Open l) (stmt.Delete t x) = refl
asks Failed (stmt.Begin level) = tt
asks Failed stmt.Commit = refl
asks Failed stmt.Rollback = refl
asks Failed (stmt.Lock t m) = tt
asks Failed (stmt.Select q) = tt
asks Failed (stmt.Insert t x) = tt
asks Failed (stmt.Update t x y) = tt
asks Failed (stmt.Delete t x) = tt

same-failed : (b : Block) → is_open_in (block_after b step.InFailedBlock) ≡ is_open_in b
same-failed Outside = refl
same-failed (Open level) = refl
same-failed Failed = refl

same-outside : (b : Block) → is_open_in (block_after b step.NotInBlock) ≡ is_open_in b
same-outside Outside = refl
same-outside (Open level) = refl
same-outside Failed = refl

-- A SESSION IN A BLOCK, AND ITS TRANSACTION
base-own : {script : Script} (c : Coord) (s : SessionId) (y : Session) → Kept script c → is_open_in (session_of c s).state.block ≡ true → is_nothing_in (session_of c s).state.pending ≡ true → y.transaction ≡ (session_of c s).transaction → Base script c (with_session c s y) (session_of c s).transaction.0 s.0 (c.works (session_of c s).transaction.0) y Live
base-own c s y k opened idle same =
    record {
      whole1 = k.whole;
      now1 = find_txn c.table (session_of c s).transaction;
      stage1 = (k.placed s.0).free opened idle;
      finds1 = same-finds c.table (session_of c s).transaction.0;
      works1 = λ j. by_test j (eqb j (session_of c s).transaction.0) refl;
      sessions1 = λ j. refl;
      kind = inl (refl, ((k.placed s.0).stands opened).1);
      same_txn = ap (λ (q : Gxid). q.0) same;
      home1 = ((k.placed s.0).stands opened).1;
      queues1 = queue-stays c.locks.waits (session_of c s).transaction.0 (c.works (session_of c s).transaction.0).waiting (k.queued (session_of c s).transaction.0);
    }
  where
    by_test : (j : ℕ) (q : Bool) → eqb j (session_of c s).transaction.0 ≡ q → c.works j ≡ (if q then c.works (session_of c s).transaction.0 else c.works j)
    by_test j true q = ap c.works (eqb-true j (session_of c s).transaction.0 q)
    by_test j false q = refl

-- who isn't working has neither a command under way nor a statement that waits
pub idle-none : {script : Script} (c : Coord) (s : SessionId) → Kept script c → is_open_in (session_of c s).state.block ≡ true → is_nothing_in (session_of c s).state.pending ≡ true → ((c.works (session_of c s).transaction.0).command ≡ None) × ((c.works (session_of c s).transaction.0).waiting ≡ None)
idle-none c s k opened idle = (none-is _ (λ m e. never ((k.tied g).busy m e).1), none-is _ (λ l e. never ((k.tied g).waits l e).2))
  where
    g : ℕ
    g = (session_of c s).transaction.0

    none-is : {A : Type 0} (o : Option A) → ((x : A) → o ≡ Some x → ⊥) → o ≡ None
    none-is None f = refl
    none-is (Some x) f = absurd (f x refl)

    not-work : (q : Pending) → is_nothing_in q ≡ true → is_working_in q ≡ true → ⊥
    not-work q e f = grind arith

    never : is_working_in (c.sessions (c.works (session_of c s).transaction.0).session.0).state.pending ≡ true → ⊥
    never e = not-work (session_of c s).state.pending idle (subst (λ i. is_working_in (c.sessions i).state.pending ≡ true) ((k.placed s.0).stands opened).1 e)

-- A NEW TRANSACTION
pub undrawn : (d : Table) → IsWhole d → find_txn d d.next ≡ None
undrawn d w = none-at d.next.0 d.txns (apart d.txns w.drawn)
  where
    other : (n k : ℕ) → k < n → eqb n k ≡ false
    other n k l = grind (arith, nat_tests)

    apart : (es : List (Gxid × Txn)) → Below d.next.0 es → Each (λ (x : Gxid × Txn). eqb d.next.0 x.0.0 ≡ false) es
    apart [] e = tt
    apart (x ∷ xs) e = (other d.next.0 x.0.0 e.0.1, apart xs e.1)

-- nothing waits of a transaction that wasn't drawn
pub unqueued : {script : Script} (c : Coord) → Kept script c → IsQueued script c.table.next.0 None c.locks.waits
unqueued c k = queued-by c.table.next.0 _ None c.locks.waits (sym (none-is _ (λ l e. absent (undrawn c.table k.whole) ((k.tied c.table.next.0).waits l e).0))) (k.queued c.table.next.0)
  where
    none-is : {A : Type 0} (o : Option A) → ((x : A) → o ≡ Some x → ⊥) → o ≡ None
    none-is None f = refl
    none-is (Some x) f = absurd (f x refl)

    absent : {o : Option Txn} → o ≡ None → stage o ≡ Live → ⊥
    absent e l = differ (sym (ap stage e) ∙ l)
      where
        differ : Absent ≡ Live → ⊥
        differ z = cc

pub begun-whole : (d : Table) → IsWhole d → IsWhole (begun d)
begun-whole d w = record { first = more d.next.0 w.first; apart = apart d.txns w.apart w.drawn; drawn = drawn d.txns w.drawn }
  where
    more : (a : ℕ) → 1 ≤ a → 1 ≤ a + 1
    more a l = omega arith

    other : (k n : ℕ) → k < n → eqb k n ≡ false
    other k n l = grind (arith, nat_tests)

    each-last : (k : ℕ) (es : List (Gxid × Txn)) → k < d.next.0 → Each (λ (x : Gxid × Txn). eqb k x.0.0 ≡ false) es → Each (λ (x : Gxid × Txn). eqb k x.0.0 ≡ false) (es ++ (d.next, new_txn) ∷ [])
    each-last k [] l e = (other k d.next.0 l, tt)
    each-last k (x ∷ xs) l e = (e.0, each-last k xs l e.1)

    apart : (es : List (Gxid × Txn)) → Apart es → Below d.next.0 es → Apart (es ++ (d.next, new_txn) ∷ [])
    apart [] e l = (tt, tt)
    apart (x ∷ xs) e l = (each-last x.0.0 xs l.0.1 e.0, apart xs e.1 l.1)

    wider : (a : ℕ) → (1 ≤ a) × (a < d.next.0) → (1 ≤ a) × (a < d.next.0 + 1)
    wider a l = (l.0, step-up l.1)
      where
        step-up : a < d.next.0 → a < d.next.0 + 1
        step-up m = omega arith

    drawn : (es : List (Gxid × Txn)) → Below d.next.0 es → Below (d.next.0 + 1) (es ++ (d.next, new_txn) ∷ [])
    drawn [] e = ((w.first, last d.next.0), tt)
      where
        last : (a : ℕ) → a < a + 1
        last a = omega arith
    drawn (x ∷ xs) e = (wider x.0.0 e.0, drawn xs e.1)

module _ (script : Script) (c : Coord) (before : List Mark) (k : Kept script c) (p : Past c before) (s : SessionId) (idle : is_nothing_in (session_of c s).state.pending ≡ true) where
  abbrev block : Block
  block = (session_of c s).state.block

  abbrev moved : LineStep → Session
  moved asked = record (session_of c s) { lines = (session_of c s).lines + 1; state = after_line block asked }

  session-now : (asked : LineStep) → session_of (starts_line c s asked) s ≡ moved asked
  session-now asked = ap (λ q. if q then moved asked else session_of c s) (eqb-self s.0)

  transaction-now : (asked : LineStep) → (session_of (starts_line c s asked) s).transaction ≡ (session_of c s).transaction
  transaction-now asked = ap (λ (x : Session). x.transaction) (session-now asked)

  at-once-good : (asked : LineStep) (a : StmtAnswer) → is_nothing_in (after_line block asked).pending ≡ true → is_open_in (after_line block asked).block ≡ is_open_in block → Good script before (answers_at_once (starts_line c s asked) s a)
  at-once-good asked a n o =
      record { kept = kept-idle c s.0 (moved asked) k refl idle n o; past = past-still c _ before (answer_mark (starts_line c s asked) s a ∷ []) p refl (tt, tt); seen = tt }

  idle-is : (q : Pending) → is_nothing_in q ≡ true → q ≡ pending.Nothing
  idle-is q e = grind arith

  -- COMMIT and ROLLBACK
  commit-good : is_open_in block ≡ true → Good script before (commits (starts_line c s step.CommitBlock) (session_of (starts_line c s step.CommitBlock) s).transaction)
  commit-good opened =
      subst (λ g. Good script before (commits (starts_line c s step.CommitBlock) g)) (sym (transaction-now step.CommitBlock))
      (commits-good c (starts_line c s step.CommitBlock) (session_of c s).transaction.0 s.0 (c.works (session_of c s).transaction.0) (moved step.CommitBlock) Live k
      (base-own c s (moved step.CommitBlock) k opened idle refl) before (past-table p) refl (closing block opened) (λ m f r. nothing _ m f (idle-none c s k opened idle).0) (λ m f. absurd (nothing _ m f (idle-none c s k opened idle).0)) (idle-none c s k opened idle).1)
    where
      nothing : (o : Option Command) (m : Command) → o ≡ Some m → o ≡ None → ⊥
      nothing o m e f = cc

      past-table : Past c before → Past (starts_line c s step.CommitBlock) before
      past-table p = record { committed = p.committed; ended = p.ended; dropped = p.dropped; latest = p.latest; drawn = p.drawn }

      closing : (b : Block) → is_open_in b ≡ true → Rattle.gx_law_order.specs.Sessions.is_closing_in (block_after b step.CommitBlock) pending.Commit ≡ true
      closing b e = grind arith

  roll-good : (c1 : Coord) (y : Session) (marks : List Mark) → Base script c c1 (session_of c s).transaction.0 s.0 (c.works (session_of c s).transaction.0) y Live → Past c1 before → Each Still marks → is_open_in y.state.block ≡ false → Good script before (rolls_back c1 (session_of c s).transaction marks (on_abort c1.table (session_of c s).transaction))
  roll-good c1 y marks b q e closed =
      rolled-good c c1 (session_of c s).transaction.0 s.0 (c.works (session_of c s).transaction.0) y Live k b before q (on_abort c1.table (session_of c s).transaction) (λ a b o. Falls b o) marks t refl (falls-is c c1 (session_of c s).transaction.0 s.0 (c.works (session_of c s).transaction.0) y Live k b before q (stage t.now) _ t.how) e closed
    where
      t : Turned c1.table (session_of c s).transaction.0 (on_abort c1.table (session_of c s).transaction) (λ a b o. Falls b o)
      t = abort-turns c1.table (session_of c s).transaction.0 b.whole1 (stage-is c c1 (session_of c s).transaction.0 s.0 (c.works (session_of c s).transaction.0) y Live k b)

  past-now : (y : Session) → Past (with_session c s y) before
  past-now y = record { committed = p.committed; ended = p.ended; dropped = p.dropped; latest = p.latest; drawn = p.drawn }

  rollback-good : is_open_in block ≡ true → Good script before (rolls_back (starts_line c s step.RollbackBlock) (session_of (starts_line c s step.RollbackBlock) s).transaction (answer_mark (starts_line c s step.RollbackBlock) s told.Rollback ∷ []) (on_abort c.table (session_of (starts_line c s step.RollbackBlock) s).transaction))
  rollback-good opened =
      subst (λ g. Good script before (rolls_back (starts_line c s step.RollbackBlock) g (answer_mark (starts_line c s step.RollbackBlock) s told.Rollback ∷ []) (on_abort c.table g))) (sym (transaction-now step.RollbackBlock))
      (roll-good (starts_line c s step.RollbackBlock) (moved step.RollbackBlock) (answer_mark (starts_line c s step.RollbackBlock) s told.Rollback ∷ []) (base-own c s (moved step.RollbackBlock) k opened idle refl) (past-now (moved step.RollbackBlock)) (tt, tt) (closed block opened))
    where
      closed : (b : Block) → is_open_in b ≡ true → is_open_in (block_after b step.RollbackBlock) ≡ false
      closed b e = grind arith

  pub end-good : Good script before (ends_in c s block)
  end-good = by_block block refl
    where
      by_block : (b : Block) → b ≡ block → Good script before (ends_in c s b)
      by_block (Open level) e =
          roll-good (with_state c s idle_outside) (record (session_of c s) { state = idle_outside }) [] (base-own c s (record (session_of c s) { state = idle_outside }) k (sym (ap is_open_in e)) idle refl) (past-now (record (session_of c s) { state = idle_outside })) tt refl
      by_block Failed e = record { kept = kept-idle c s.0 (record (session_of c s) { state = idle_outside }) k refl idle refl (ap is_open_in e); past = past-still c _ before [] p refl tt; seen = tt }
      by_block Outside e = rest-good c before k p

  -- a command in a block
  inside-good : (line : Stmt) → is_open_in block ≡ true → Good script before (dispatches script (starts_line c s (step.Command false)) (session_of (starts_line c s (step.Command false)) s).transaction line)
  inside-good line opened =
      subst (λ g. Good script before (dispatches script (starts_line c s (step.Command false)) g line)) (sym (transaction-now (step.Command false)))
      (dispatch-good script c (starts_line c s (step.Command false)) (session_of c s).transaction.0 s.0 (c.works (session_of c s).transaction.0) (moved (step.Command false)) k (base-own c s (moved (step.Command false)) k opened idle refl) before (past-now (moved (step.Command false)))
      (live block opened) refl (idle-none c s k opened idle).0 (idle-none c s k opened idle).1 line)
    where
      live : (b : Block) → is_open_in b ≡ true → is_live_in (block_after b (step.Command false)) pending.Command ≡ true
      live b e = grind arith

  -- a new transaction
  abbrev fresh : LineStep → Session
  fresh asked = record (moved asked) { transaction = c.table.next }

  begins-base : (asked : LineStep) (level : Level) → block ≡ Outside → Base script c (begins (starts_line c s asked) s level) c.table.next.0 s.0 (new_work s level) (fresh asked) Live
  begins-base asked level outside =
      record {
        whole1 = begun-whole c.table k.whole;
        now1 = Some new_txn;
        stage1 = refl;
        finds1 = begun-finds c.table k.whole;
        works1 = λ j. refl;
        sessions1 = λ j. ap (λ (z : Session). if eqb j s.0 then record z { transaction = c.table.next } else (starts_line c s asked).sessions j) (session-now asked) ∙ merged (eqb j s.0) (fresh asked) (moved asked) (c.sessions j) _ refl;
        kind = inr (undrawn c.table k.whole, outside, idle-is (session_of c s).state.pending idle);
        same_txn = refl;
        home1 = refl;
        queues1 = queue-stays c.locks.waits c.table.next.0 None (unqueued c k);
      }

  begins-past : (asked : LineStep) (level : Level) → Past (begins (starts_line c s asked) s level) (before ++ mark.Start c.table.next s ∷ [])
  begins-past asked level = past-begun c _ before (mark.Start c.table.next s ∷ []) p k.whole refl (tt, tt)

  begin-good : (level : Level) → block ≡ Outside → Good script before (behind (mark.Start c.table.next s ∷ []) (answers_at_once (begins (starts_line c s (step.BeginBlock level)) s level) s told.Begin))
  begin-good level outside =
      behind-good before (mark.Start c.table.next s ∷ []) (answers_at_once (begins (starts_line c s (step.BeginBlock level)) s level) s told.Begin) _ tt
      (record {
        kept = base-kept c c1 c.table.next.0 s.0 (new_work s level) (fresh asked) Live k b c1 (find_txn c1.table c.table.next) (new_work s level) (fresh asked) b.whole1 (same-finds c1.table c.table.next.0) (same-works c c1 c.table.next.0 s.0 (new_work s level) (fresh asked) Live k b) (same-sessions c c1 c.table.next.0 s.0 (new_work s level) (fresh asked) Live k b) tied refl sits queues;
        past = past-still c1 c1 (before ++ mark.Start c.table.next s ∷ []) (answer_mark c1 s told.Begin ∷ []) (begins-past asked level) refl (tt, tt);
        seen = tt;
      }) refl refl
    where
      asked : LineStep
      asked = step.BeginBlock level

      c1 : Coord
      c1 = begins (starts_line c s (step.BeginBlock level)) s level

      b : Base script c c1 c.table.next.0 s.0 (new_work s level) (fresh (step.BeginBlock level)) Live
      b = begins-base (step.BeginBlock level) level outside

      now : stage_of c1 c.table.next.0 ≡ Live
      now = stage-is c c1 c.table.next.0 s.0 (new_work s level) (fresh (step.BeginBlock level)) Live k b

      differ : Live ≡ Closing → ⊥
      differ z = cc

      opens : (q : Block) → q ≡ Outside → is_live_in (block_after q (step.BeginBlock level)) pending.Nothing ≡ true
      opens q e = subst (λ r. is_live_in (block_after r (step.BeginBlock level)) pending.Nothing ≡ true) (sym e) refl

      tied : (z : Session) → z ≡ (if eqb s.0 s.0 then fresh (step.BeginBlock level) else c.sessions s.0) → Tied (stage_of c1 c.table.next.0) c.table.next.0 (new_work s level) z
      tied z q =
          subst (λ x. Tied (stage_of c1 c.table.next.0) c.table.next.0 (new_work s level) x) (sym (q ∙ ap (λ x. if x then fresh (step.BeginBlock level) else c.sessions s.0) (eqb-self s.0)))
          (record { live = λ m. (refl, opens block outside); closing = λ m. absurd (differ (sym now ∙ m)); awaits = λ m f r. absurd (cc); busy = λ m f. absurd (cc); waits = λ o f. absurd (cc) })

      sits : Placed s.0 (fresh (step.BeginBlock level)) (stage_of c1 c.table.next.0) (new_work s level)
      sits = record { stands = λ o. (inl now, refl); free = λ o n. now }

      queues : Queues script c.locks.waits c.locks.waits c.table.next.0 None
      queues = queue-stays c.locks.waits c.table.next.0 None (unqueued c k)

  alone-good : (line : Stmt) → block ≡ Outside → Good script before (behind (mark.Start c.table.next s ∷ []) (dispatches script (begins (starts_line c s (step.Command true)) s ReadCommitted) c.table.next line))
  alone-good line outside =
      behind-good before (mark.Start c.table.next s ∷ []) (dispatches script (begins (starts_line c s (step.Command true)) s ReadCommitted) c.table.next line) _ tt
      (dispatch-good script c (begins (starts_line c s (step.Command true)) s ReadCommitted) c.table.next.0 s.0 (new_work s ReadCommitted) (fresh (step.Command true)) k (begins-base (step.Command true) ReadCommitted outside) (before ++ mark.Start c.table.next s ∷ []) (begins-past (step.Command true) ReadCommitted)
      (live block outside) refl refl refl line) refl refl
    where
      live : (q : Block) → q ≡ Outside → is_live_in (block_after q (step.Command true)) pending.Command ≡ true
      live q e = subst (λ r. is_live_in (block_after r (step.Command true)) pending.Command ≡ true) (sym e) refl

  line-good : (line : Stmt) (asked : LineStep) → Asks block asked → Good script before (on_line script (starts_line c s asked) s line asked)
  line-good line (step.Answer plain) a = at-once-good (step.Answer plain) _ refl a
  line-good line step.InFailedBlock a = at-once-good step.InFailedBlock _ refl (same-failed block)
  line-good line step.NotInBlock a = at-once-good step.NotInBlock _ refl (same-outside block)
  line-good line (step.BeginBlock level) a = begin-good level a
  line-good line step.CommitBlock a = commit-good a
  line-good line step.RollbackBlock a = rollback-good a
  line-good line (step.Command true) a = alone-good line a
  line-good line (step.Command false) a = inside-good line a

  pub start-good : (line : Option Stmt) → Good script before (starts script c s line)
  start-good None = rest-good c before k p
  start-good (Some line) = line-good line (line_step block line) (asks block line)
