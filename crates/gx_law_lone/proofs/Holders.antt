-- Whoever holds a lock at the coordinator has a transaction there that runs, or is on its way to a commit.
use Rattle.std.proofs.Common.{◌≡◌, ◌≤◌, ◌⊎◌, inl, inr, ℕ, ◌+◌, List, [], ◌∷◌, Option, Some, None, Result, Ok, Err, Bool, true, false, not, refl, sym, subst, ap, ◌∙◌, if◌then◌else◌, cond, ◌&&◌, ◌||◌, ◌==◌, arith, eqb, Contains}
use Rattle.std.proofs.lemmas.Bool.{eqb-true}
use Rattle.std.proofs.lemmas.Bool.Decides.{nat_tests}
use Rattle.std.proofs.lemmas.List.Folds.{list_any_at}
use Rattle.std.specs.Prelude.{option_map}
use Rattle.gx_lemmas.proofs.Numbers.{eqb-self}
use Rattle.gx_lemmas.proofs.Tests.{and-first, true-false}
use Rattle.gx_ids.specs.declared.ids.Cid.{Cid}
use Rattle.gx_ids.specs.declared.ids.Gxid.{Gxid}
use Rattle.gx_ids.specs.declared.ids.Node.{Node}
use Rattle.gx_ids.specs.declared.ids.SessionId.{SessionId}
use Rattle.gx_tree.specs.declared.part.Part.{Part}
use Rattle.gx_tree.specs.declared.stmt.Level.{Level}
use Rattle.gx_tree.specs.declared.stmt.Level.TheVariants.{ReadCommitted, RepeatableRead}
use Rattle.gx_tree.specs.declared.stmt.Stmt.{Stmt}
use Rattle.gx_tree.specs.declared.stmt.Stmt.TheVariants as stmt
use Rattle.gx_dsnap.specs.declared.snapshot.Snapshot.{Snapshot}
use Rattle.gx_dtx.specs.Rules.{Turn, abort_found, begun, commit_found, commits as commits_of, ends_committed, on_abort, on_commit, on_reply, with_live}
use Rattle.gx_dtx.specs.Table.{Table, find_txn, new_txn, xmin_of}
use Rattle.gx_dtx.specs.declared.outcome.Outcome.{Outcome}
use Rattle.gx_dtx.specs.declared.outcome.Outcome.TheVariants as outcome
use Rattle.gx_dtx.specs.declared.txn.Txn.{Txn}
use Rattle.gx_waits.specs.declared.claim.Claim.{Claim}
use Rattle.gx_waits.specs.Claims.{is_clear, is_of, with_claim, without}
use Rattle.gx_locks.specs.Locks.{Locks, resumed, wait_of}
use Rattle.gx_meaning.specs.declared.fault.ArithFault.{ArithFault}
use Rattle.gx_meaning.specs.declared.piece.Piece.{Piece}
use Rattle.gx_meaning.specs.Plan.{plan_of}
use Rattle.gx_msg.specs.declared.message.Message.{Message}
use Rattle.gx_msg.specs.declared.message.Message.TheVariants as message
use Rattle.gx_msg.specs.declared.reply.Cause.{Cause}
use Rattle.gx_msg.specs.declared.reply.Reply.{Reply}
use Rattle.gx_msg.specs.declared.reply.Reply.TheVariants as reply
use Rattle.gx_script.specs.declared.Script.{Script}
use Rattle.gx_script.specs.Session.{after_line, line_step}
use Rattle.gx_script.specs.declared.line_step.LineStep.{LineStep}
use Rattle.gx_script.specs.declared.line_step.LineStep.TheVariants as step
use Rattle.gx_script.specs.declared.state.Block.{Block}
use Rattle.gx_script.specs.declared.state.Pending.{Pending}
use Rattle.gx_script.specs.declared.state.Block.TheVariants as block
use Rattle.gx_store.specs.declared.answer.Refused.TheVariants.{Victim}
use Rattle.gx_store.specs.declared.event.Event.{Event}
use Rattle.gx_store.specs.declared.node.NodeEvent.{NodeEvent}
use Rattle.gx_store.specs.declared.node.NodeEvent.TheVariants as event
use Rattle.gx_store.specs.Locks.{table_lock}
use Rattle.gx_store.specs.Writes.{dist_of}
use Rattle.gx_rules.specs.AtCoordinator.{Reading, awaited, awaited_collect, begins, cancels, commits, completes, coord_can, dispatches, ends_in, follows, goes, goes_on, goes_on_locked, if_granted, is_awaited, is_committed, is_idle, is_nothing, is_refused, next_cid, next_line, nodes_in, on_answer, on_done, on_event, on_failed, on_line, on_message, on_status, reads_by, reads_for, reason_of, requests, resends, resumes, starts, starts_line, table_of, takes_done, unless_kept, with_done, writers_with}
use Rattle.gx_rules.specs.Coordinators.{Command, Coord, CoordTurn, Work, rests, session_of, with_work, work_of}
use Rattle.gx_rules.specs.Fits.{fits_part}
use Rattle.gx_rules.specs.Locks.{with_hold}
use Rattle.gx_rules.specs.Machine.{World, world_of}
use Rattle.gx_rules.proofs.Rounds.{cancel-ways, graph-ways}
use Rattle.gx_law_order.proofs.Closings.{kept-stage, live-at, set_live}
use Rattle.gx_law_order.proofs.Commands.{all-enlists, same-finds}
use Rattle.gx_law_order.proofs.Ends.{begun-finds}
use Rattle.gx_law_order.proofs.Induction.{at-events}
use Rattle.gx_law_order.proofs.Lines.{Asks, asks, begun-whole}
use Rattle.gx_law_order.proofs.Queued.{lock-of}
use Rattle.gx_law_order.proofs.Stages.{changed-at, left_of}
use Rattle.gx_law_order.proofs.Statuses.{Moves, Turned, reply-turns}
use Rattle.gx_law_order.proofs.Waiting.{statement-of}
use Rattle.gx_law_order.proofs.World.{Knows, moves_knows}
use Rattle.gx_law_order.specs.Sessions.{Kept, is_nothing_in, is_said}
use Rattle.gx_law_order.specs.Stages.{IsWhole, Stage, stage, stage_of}
use Rattle.gx_law_order.specs.Stages.Stage.{Absent, Closing, Dropped, Finished, Live}
use Rattle.gx_law_order.specs.Standings.{gx}
use Rattle.gx_law_lone.proofs.Came.{holds_any}
use Rattle.gx_law_lone.proofs.Strays.{none-left, none-with}

-- who neither runs nor is on its way to a commit holds nothing
abbrev pub Runs : Coord → Type 0
Runs c = (h : ℕ) → is_said (stage_of c h) ≡ false → holds_any h c.locks.holds ≡ false

abbrev Finds : Coord → Coord → ℕ → Option Txn → Type 0
Finds c d g now = (h : ℕ) → find_txn d.table (gx h) ≡ (if eqb h g then now else find_txn c.table (gx h))

said-live : Live ≡ Live → is_said Live ≡ true
said-live e = refl

-- one transaction changes, which stays among those who run, and nothing is granted
one-stays : (c d : Coord) (g : ℕ) (now : Option Txn) → Finds c d g now → (is_said (stage_of c g) ≡ true → is_said (stage now) ≡ true) → d.locks.holds ≡ c.locks.holds → Runs c → Runs d
one-stays c d g now finds stays same k h n = ap (holds_any h) same ∙ k h (by_test (eqb h g) refl (ap (λ o. is_said (stage o)) (sym (finds h)) ∙ n))
  where
    back : (a b : Bool) → (a ≡ true → b ≡ true) → b ≡ false → a ≡ false
    back true b f e = absurd (true-false b (f refl) e)
    back false b f e = refl

    by_test : (b : Bool) → eqb h g ≡ b → is_said (stage (if b then now else find_txn c.table (gx h))) ≡ false → is_said (stage_of c h) ≡ false
    by_test true e f = subst (λ j. is_said (stage_of c j) ≡ false) (sym (eqb-true h g e)) (back (is_said (stage_of c g)) (is_said (stage now)) stays f)
    by_test false e f = f

-- one transaction changes and gives all back
one-ends : (c d : Coord) (g : ℕ) (now : Option Txn) → Finds c d g now → d.locks.holds ≡ without (gx g) c.locks.holds → Runs c → Runs d
one-ends c d g now finds less k h n = ap (holds_any h) less ∙ by_test (eqb h g) refl (ap (λ o. is_said (stage o)) (sym (finds h)) ∙ n)
  where
    not-both : (b : Bool) → not b ≡ true → b ≡ false
    not-both true e = absurd (true-false (not true) e refl)
    not-both false e = refl

    none : (holds : List Claim) → holds_any g (without (gx g) holds) ≡ false
    none holds = gone holds
      where
        gone : (xs : List Claim) → holds_any g (without (gx g) xs) ≡ false
        gone [] = refl
        gone (x ∷ xs) = by_own (is_of (gx g) x) refl (gone xs)
          where
            by_own : (b : Bool) → is_of (gx g) x ≡ b → holds_any g (without (gx g) xs) ≡ false → holds_any g (cond (not b) (x ∷ without (gx g) xs) (without (gx g) xs)) ≡ false
            by_own true q e = e
            by_own false q e = ap (λ b. b || holds_any g (without (gx g) xs)) q ∙ e

    by_test : (b : Bool) → eqb h g ≡ b → is_said (stage (if b then now else find_txn c.table (gx h))) ≡ false → holds_any h (without (gx g) c.locks.holds) ≡ false
    by_test true e f = subst (λ j. holds_any j (without (gx g) c.locks.holds) ≡ false) (sym (eqb-true h g e)) (none c.locks.holds)
    by_test false e f = none-left (is_of (gx h)) (is_of (gx h)) (λ claim. not (is_of (gx g) claim)) (λ x q z. z) c.locks.holds (k h f)

-- who runs is granted something
one-gains : (c d : Coord) (g : Gxid) (wanted : Claim) → wanted.gxid ≡ g → is_said (stage_of c g.0) ≡ true → d.table ≡ c.table → d.locks.holds ≡ with_claim wanted c.locks.holds → Runs c → Runs d
one-gains c d g wanted own said same more k h n = ap (holds_any h) more ∙ by_test (eqb h g.0) refl
  where
    old : is_said (stage_of c h) ≡ false
    old = ap (λ (t : Table). is_said (stage (find_txn t (gx h)))) (sym same) ∙ n

    turned : (a b : ℕ) → eqb a b ≡ false → (b == a) ≡ false
    turned a b e = grind (arith, nat_tests)

    by_test : (b : Bool) → eqb h g.0 ≡ b → holds_any h (with_claim wanted c.locks.holds) ≡ false
    by_test true e = absurd (true-false (is_said (stage_of c g.0)) said (subst (λ j. is_said (stage_of c j) ≡ false) (eqb-true h g.0 e) old))
    by_test false e = none-with (is_of (gx h)) wanted c.locks.holds (ap (λ (j : Gxid). j.0 == h) own ∙ turned h g.0 e) (k h old)

-- TURNS
abbrev Keep : CoordTurn → Type 0
Keep turn = Runs turn.coord

either : (b : Bool) (x y : CoordTurn) → Keep x → Keep y → Keep (if b then x else y)
either true x y e f = e
either false x y e f = f

commit-goes : (g : Gxid) (writers : List Node) (o : Option Txn) (x : Outcome) → (commit_found g writers o).out.outcome ≡ x → is_said (stage o) ≡ true → (x ≡ outcome.Committed → ⊥) → is_said (stage (left_of (commit_found g writers o).step o)) ≡ true
commit-goes g writers None x e f n = f
commit-goes g [] (Some t) x e f n = absurd (ends-so t.participants x e n)
  where
    ends-so : (is : List Node) (x : Outcome) → (ends_committed g is).out.outcome ≡ x → (x ≡ outcome.Committed → ⊥) → ⊥
    ends-so [] x e n = n (sym e)
    ends-so (i ∷ is) x e n = n (sym e)
commit-goes g (i ∷ []) (Some t) x e f n = refl
commit-goes g (i ∷ j ∷ is) (Some t) x e f n = refl

reply-goes : (a b : Stage) (o : Outcome) → Moves a b o → (o ≡ outcome.Committed → ⊥) → ((i : Node) → o ≡ outcome.Refused i → ⊥) → is_said a ≡ true → is_said b ≡ true
reply-goes a b outcome.Pending (inl m) n r e = ap is_said m ∙ e
reply-goes a b outcome.Pending (inr m) n r e = absurd (true-false (is_said a) e (ap is_said m.0))
reply-goes a b outcome.Decided m n r e = ap is_said m.1
reply-goes a b outcome.Committed m n r e = absurd (n refl)
reply-goes a b (outcome.Refused i) m n r e = absurd (r i refl)
reply-goes a b outcome.Ended m n r e = absurd (true-false (is_said a) e (ap is_said m.0))

-- a call comes to this
follow : (c : Coord) (g : Gxid) (turn : Turn) (now : Option Txn) (o : Outcome) → ((h : ℕ) → find_txn turn.table (gx h) ≡ (if eqb h g.0 then now else find_txn c.table (gx h)))
    → ((o ≡ outcome.Committed → ⊥) → ((i : Node) → o ≡ outcome.Refused i → ⊥) → is_said (stage_of c g.0) ≡ true → is_said (stage now) ≡ true) → Runs c → Keep (follows c g turn o)
follow c g turn now outcome.Pending finds goes k = one-stays c (follows c g turn outcome.Pending).coord g.0 now finds (goes (λ e. absurd (cc)) (λ i e. absurd (cc))) refl k
follow c g turn now outcome.Decided finds goes k = one-stays c (follows c g turn outcome.Decided).coord g.0 now finds (goes (λ e. absurd (cc)) (λ i e. absurd (cc))) refl k
follow c g turn now outcome.Committed finds goes k = one-ends c (follows c g turn outcome.Committed).coord g.0 now finds refl k
follow c g turn now (outcome.Refused i) finds goes k = one-ends c (follows c g turn (outcome.Refused i)).coord g.0 now finds refl k
follow c g turn now outcome.Ended finds goes k = one-stays c (follows c g turn outcome.Ended).coord g.0 now finds (goes (λ e. absurd (cc)) (λ i e. absurd (cc))) refl k

commit : (c : Coord) (g : Gxid) → IsWhole c.table → Runs c → Keep (commits c g)
commit c g w k =
    let writers = (work_of c g).writers in
    follow c g (on_commit c.table g writers) (left_of (commit_found g writers (find_txn c.table g)).step (find_txn c.table g)) (on_commit c.table g writers).out.outcome (changed-at c.table g.0 (commit_found g writers (find_txn c.table g)) w).finds
    (λ n r said. commit-goes g writers (find_txn c.table g) (on_commit c.table g writers).out.outcome refl said n) k

-- it aborts, with all that it holds
abort : (c d : Coord) (g : Gxid) → IsWhole c.table → d.table ≡ (on_abort c.table g).table → d.locks.holds ≡ without g c.locks.holds → Runs c → Runs d
abort c d g w same less k =
    one-ends c d g.0 (left_of (abort_found g (find_txn c.table g)).step (find_txn c.table g))
    (λ h. ap (λ (t : Table). find_txn t (gx h)) same ∙ (changed-at c.table g.0 (abort_found g (find_txn c.table g)) w).finds h) less k

status : (c : Coord) (g : Gxid) (i : Node) (r : Reply) (fails : Bool) → IsWhole c.table → Runs c → Keep (on_status c g i r fails)
status c g i r fails w k =
    let t : Turned c.table g.0 (on_reply c.table g i r fails) Moves = reply-turns c.table g.0 i r fails w in
    follow c g (on_reply c.table g i r fails) t.now (on_reply c.table g i r fails).out.outcome t.at.finds (reply-goes (stage_of c g.0) (stage t.now) (on_reply c.table g i r fails).out.outcome t.how) k

-- COMMANDS
record Reads (c : Coord) (d : Coord) : Type 0 where
  whole : IsWhole d.table
  runs : Runs d

read_by : (c : Coord) (g : Gxid) (cid : Cid) (w : Work) (x : Option Snapshot) → IsWhole c.table → Runs c → Reads c (reads_by c g cid w x).coord
read_by c g cid w None whole k =
    let a = live-at c.table g.0 (Some (xmin_of c.table)) whole in
    record {
      whole = a.whole;
      runs = one-stays c (reads_by c g cid w None).coord g.0 (option_map (set_live (Some (xmin_of c.table))) (find_txn c.table g)) a.finds
          (λ e. ap is_said (kept-stage (set_live (Some (xmin_of c.table))) (λ t. refl) (find_txn c.table g)) ∙ e) refl k;
    }
read_by c g cid w (Some x) whole k = record { whole = whole; runs = k }

read_for : (c : Coord) (g : Gxid) (cid : Cid) (w : Work) (line : Stmt) → IsWhole c.table → Runs c → Reads c (reads_for c g cid w line).coord
read_for c g cid w (stmt.Lock table mode) whole k = record { whole = whole; runs = k }
read_for c g cid w (stmt.Begin level) whole k = read_by c g cid w w.snapshot whole k
read_for c g cid w stmt.Commit whole k = read_by c g cid w w.snapshot whole k
read_for c g cid w stmt.Rollback whole k = read_by c g cid w w.snapshot whole k
read_for c g cid w (stmt.Select q) whole k = read_by c g cid w w.snapshot whole k
read_for c g cid w (stmt.Insert t x) whole k = read_by c g cid w w.snapshot whole k
read_for c g cid w (stmt.Update t x y) whole k = read_by c g cid w w.snapshot whole k
read_for c g cid w (stmt.Delete t x) whole k = read_by c g cid w w.snapshot whole k

go : (g : Gxid) (cid : Cid) (line : Stmt) (r : Reading) (plan : Result (List Piece) ArithFault) → IsWhole r.coord.table → Runs r.coord → Keep (goes g cid line r plan)
go g cid line r (Ok pieces) whole k =
    let a = all-enlists (nodes_in pieces) r.coord.table g.0 whole in
    one-stays r.coord (goes g cid line r (Ok pieces)).coord g.0 a.now a.at.finds (λ e. ap is_said a.same ∙ e) refl k
go g cid line r (Err f) whole k = abort r.coord (goes g cid line r (Err f)).coord g whole refl refl k

go_locked : (script : Script) (c : Coord) (g : Gxid) (line : Stmt) → IsWhole c.table → Runs c → Keep (goes_on_locked script c g line)
go_locked script c g line whole k =
    let r = read_for c g (next_cid (work_of c g)) (work_of c g) line whole k in
    go g (next_cid (work_of c g)) line (reads_for c g (next_cid (work_of c g)) (work_of c g) line) (plan_of script.segments (dist_of script.tables (table_of line)) g (next_cid (work_of c g)) line) r.whole r.runs

request : (script : Script) (c : Coord) (g : Gxid) (line : Stmt) (o : Option Claim) → table_lock script g line ≡ o → is_said (stage_of c g.0) ≡ true → IsWhole c.table → Runs c → Keep (requests script c g line o)
request script c g line None e said whole k = go_locked script c g line whole k
request script c g line (Some wanted) e said whole k = by_test (is_clear c.locks.holds c.locks.waits wanted)
  where
    by_test : (b : Bool) → Keep (if_granted script c g line wanted b)
    by_test true =
        go_locked script (record c { locks = with_hold c.locks wanted }) g line whole
        (one-gains c (record c { locks = with_hold c.locks wanted }) g wanted (lock-of script g line wanted e) said refl refl k)
    by_test false = k

dispatch : (script : Script) (c : Coord) (g : Gxid) (line : Stmt) → is_said (stage_of c g.0) ≡ true → IsWhole c.table → Runs c → Keep (dispatches script c g line)
dispatch script c g line said whole k = request script c g line (table_lock script g line) refl said whole k

-- ANSWERS
answer : (c : Coord) (g : Gxid) (level : Level) → IsWhole c.table → (d : Coord) → d.table ≡ unless_kept level c.table g → d.locks ≡ c.locks → Runs c → Runs d
answer c g ReadCommitted whole d e f k =
    let a = live-at c.table g.0 None whole in
    one-stays c d g.0 (option_map (set_live None) (find_txn c.table g)) (λ h. ap (λ (t : Table). find_txn t (gx h)) e ∙ a.finds h) (λ s. ap is_said (kept-stage (set_live None) (λ t. refl) (find_txn c.table g)) ∙ s) (ap (λ (l : Locks). l.holds) f) k
answer c g RepeatableRead whole d e f k =
    one-stays c d g.0 (find_txn c.table g) (λ h. ap (λ (t : Table). find_txn t (gx h)) e ∙ same-finds c.table g.0 h) (λ s. s) (ap (λ (l : Locks). l.holds) f) k

complete : (c : Coord) (g : Gxid) (b : Block) → IsWhole c.table → Runs c → Keep (completes c g b)
complete c g block.Outside whole k = commit c g whole k
complete c g (block.Open level) whole k = answer c g (work_of c g).level whole (completes c g (block.Open level)).coord refl refl k
complete c g block.Failed whole k = answer c g (work_of c g).level whole (completes c g block.Failed).coord refl refl k

go_on : (c : Coord) (g : Gxid) (left : List Node) → IsWhole c.table → Runs c → Keep (goes_on c g left)
go_on c g [] whole k = complete c g (session_of c (work_of c g).session).state.block whole k
go_on c g (i ∷ is) whole k = k

module _ (script : Script) (c : Coord) (kept : Kept script c) (k : Runs c) where
  done : (g : Gxid) (i : Node) (cid : Cid) (wrote : Bool) (count : ℕ) (part : Part) (o : Option Command) → Keep (on_done c g i cid wrote count part o)
  done g i cid wrote count part None = k
  done g i cid wrote count part (Some m) =
      either (is_awaited m i cid && fits_part m.stmt part) (takes_done c g i wrote count part m) (rests c)
      (go_on (with_work c g (record (work_of c g) { writers = writers_with wrote i (work_of c g).writers; command = Some (with_done m i count part) })) g (with_done m i count part).awaited kept.whole k) k

  failed : (g : Gxid) (i : Node) (cid : Cid) (cause : Cause) (o : Option Command) → Keep (on_failed c g i cid cause o)
  failed g i cid cause None = k
  failed g i cid cause (Some m) = by_test (is_awaited m i cid)
    where
      by_test : (b : Bool) → Keep (if b then is_refused c g (on_abort c.table g) [] (reason_of cause) else rests c)
      by_test true = abort c (is_refused c g (on_abort c.table g) [] (reason_of cause)).coord g kept.whole refl refl k
      by_test false = k

  answered : (g : Gxid) (i : Node) (fails : Bool) (r : Reply) → Keep (on_answer c g i fails r)
  answered g i fails (reply.Done cid wrote count part) = done g i cid wrote count part (work_of c g).command
  answered g i fails (reply.Failed cid cause) = failed g i cid cause (work_of c g).command
  answered g i fails reply.Prepared = status c g i reply.Prepared fails kept.whole k
  answered g i fails reply.Committed = status c g i reply.Committed fails kept.whole k
  answered g i fails reply.Jfault = status c g i reply.Jfault fails kept.whole k
  answered g i fails reply.Again = status c g i reply.Again fails kept.whole k
  answered g i fails reply.Restarted = status c g i reply.Restarted fails kept.whole k
  answered g i fails reply.Aborted = status c g i reply.Aborted fails kept.whole k
  answered g i fails reply.Forgotten = status c g i reply.Forgotten fails kept.whole k

  message_taken : (from : Node) (fails : Bool) (m : Message) → Keep (on_message c from fails m)
  message_taken from fails (message.Answer g r) = answered g from fails r
  message_taken from fails (message.Graph round graph) = graph-ways Keep c from round graph k (λ taken. k) (λ taken all. k)
  message_taken from fails message.Up = k
  message_taken from fails (message.Exec g cid level x h y) = k
  message_taken from fails (message.Prepare g) = k
  message_taken from fails (message.Commit g) = k
  message_taken from fails (message.CommitPrepared g) = k
  message_taken from fails (message.Abort g) = k
  message_taken from fails (message.Forget g) = k
  message_taken from fails (message.Collect round) = k

  -- LINES
  begin : (s : SessionId) (asked : LineStep) (level : Level) → Runs (begins (starts_line c s asked) s level)
  begin s asked level = one-stays c (begins (starts_line c s asked) s level) c.table.next.0 (Some new_txn) (begun-finds c.table kept.whole) (λ e. refl) refl k

  begun-said : (s : SessionId) (asked : LineStep) (level : Level) → is_said (stage_of (begins (starts_line c s asked) s level) c.table.next.0) ≡ true
  begun-said s asked level = ap (λ o. is_said (stage o)) (begun-finds c.table kept.whole c.table.next.0 ∙ ap (λ b. if b then Some new_txn else find_txn c.table c.table.next) (eqb-self c.table.next.0))

  transaction-now : (s : SessionId) (asked : LineStep) → (session_of (starts_line c s asked) s).transaction ≡ (session_of c s).transaction
  transaction-now s asked = ap (λ (q : Bool). (if q then record (session_of c s) { lines = (session_of c s).lines + 1; state = after_line (session_of c s).state.block asked } else session_of c s).transaction) (eqb-self s.0)

  line_done : (s : SessionId) → is_nothing_in (session_of c s).state.pending ≡ true → (line : Stmt) (asked : LineStep) → Asks (session_of c s).state.block asked → Keep (on_line script (starts_line c s asked) s line asked)
  line_done s idle line (step.Answer plain) a = k
  line_done s idle line step.InFailedBlock a = k
  line_done s idle line step.NotInBlock a = k
  line_done s idle line (step.BeginBlock level) a = begin s (step.BeginBlock level) level
  line_done s idle line step.CommitBlock a = commit (starts_line c s step.CommitBlock) (session_of (starts_line c s step.CommitBlock) s).transaction kept.whole k
  line_done s idle line step.RollbackBlock a =
      abort (starts_line c s step.RollbackBlock) (on_line script (starts_line c s step.RollbackBlock) s line step.RollbackBlock).coord (session_of (starts_line c s step.RollbackBlock) s).transaction kept.whole refl refl k
  line_done s idle line (step.Command true) a =
      dispatch script (begins (starts_line c s (step.Command true)) s ReadCommitted) c.table.next line (begun-said s (step.Command true) ReadCommitted) (begun-whole c.table kept.whole) (begin s (step.Command true) ReadCommitted)
  line_done s idle line (step.Command false) a =
      dispatch script (starts_line c s (step.Command false)) (session_of (starts_line c s (step.Command false)) s).transaction line
      (ap (λ (g : Gxid). is_said (stage_of c g.0)) (transaction-now s (step.Command false)) ∙ ap is_said ((kept.placed s.0).free a idle)) kept.whole k

  start : (s : SessionId) → is_nothing_in (session_of c s).state.pending ≡ true → (line : Option Stmt) → Keep (starts script c s line)
  start s idle None = k
  start s idle (Some line) = line_done s idle line (line_step (session_of c s).state.block line) (asks (session_of c s).state.block line)

  end : (s : SessionId) (b : Block) → Keep (ends_in c s b)
  end s (block.Open level) = abort c (ends_in c s (block.Open level)).coord (session_of c s).transaction kept.whole refl refl k
  end s block.Failed = k
  end s block.Outside = k

  resume : (g : Gxid) (w : Option Claim) (line : Option Stmt) → wait_of c.locks g ≡ w → (work_of c g).waiting ≡ line → Keep (resumes script c g w line)
  resume g (Some wanted) (Some line) e f =
      let x = statement-of c kept g wanted e in
      go_locked script (with_work (record c { locks = resumed c.locks g (Some wanted) }) g (record (work_of c g) { waiting = None })) g line kept.whole
      (one-gains c (record c { locks = resumed c.locks g (Some wanted) }) g wanted (lock-of script g x.line wanted x.lock) (ap is_said x.live) refl refl k)
  resume g (Some wanted) None e f = k
  resume g None line e f = k

  again : (i : Node) (o : Option Message) → Keep (resends c i o)
  again i None = k
  again i (Some m) = k

  nothing-is : (s : SessionId) → is_idle (session_of c s) ≡ true → is_nothing_in (session_of c s).state.pending ≡ true
  nothing-is s e = by_pending (session_of c s).state.pending e
    where
      by_pending : (p : Pending) → is_nothing p ≡ true → is_nothing_in p ≡ true
      by_pending p f = grind arith

  event-runs : (x : NodeEvent) (fails : Bool) → coord_can script c x ≡ true → Keep (on_event script c x fails)
  event-runs (event.Deliver from envelope) fails ok = message_taken from fails envelope.message
  event-runs (event.Resume g) fails ok = resume g (wait_of c.locks g) (work_of c g).waiting refl refl
  event-runs (event.Start s) fails ok = start s (nothing-is s (and-first _ _ ok)) (next_line script c s)
  event-runs (event.End s) fails ok = end s (session_of c s).state.block
  event-runs (event.Resend i (Some g)) fails ok = again i (awaited c g i)
  event-runs (event.Resend i None) fails ok = again i (awaited_collect c i)
  event-runs event.Round fails ok = k

  cancel-runs : (g : Gxid) → Keep (cancels c g)
  cancel-runs g = cancel-ways Keep c g k (λ live busy. abort c (is_refused c g (on_abort c.table g) [] (Victim c.rounds)).coord g kept.whole refl refl k)

-- IN EVERY RUN
pub world-holders : (script : Script) → 1 ≤ script.segments → (es : List (Event × Bool)) → Runs (world_of script es).coord
world-holders script some es =
    at-events script some (Knows script) (λ w. Runs w.coord) (moves_knows script some) (λ h n. refl) (λ w n p e x fails t ok next. event-runs script w.coord n.kept p x fails ok) (λ w n p g a next. cancel-runs script w.coord n.kept p g)
    (λ w n p e x fails i place t ok next. p) es

pub holder-runs : (script : Script) → 1 ≤ script.segments → (es : List (Event × Bool)) (hold : Claim) → Contains (world_of script es).coord.locks.holds hold → is_said (stage_of (world_of script es).coord hold.gxid.0) ≡ true
holder-runs script some es hold inside = by_test (is_said (stage_of (world_of script es).coord hold.gxid.0)) refl
  where
    by_test : (b : Bool) → is_said (stage_of (world_of script es).coord hold.gxid.0) ≡ b → b ≡ true
    by_test true e = refl
    by_test false e =
        absurd (true-false (holds_any hold.gxid.0 (world_of script es).coord.locks.holds)
        (list_any_at (is_of hold.gxid) (world_of script es).coord.locks.holds inside.0 hold inside.1 (ap (is_of hold.gxid) inside.2 ∙ eqb-self hold.gxid.0))
        (world-holders script some es hold.gxid.0 e))
