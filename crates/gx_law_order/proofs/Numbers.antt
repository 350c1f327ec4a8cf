-- Transactions are numbered in the order of their Start marks.
use Rattle.std.proofs.Common.{◌≡◌, ℕ, ◌+◌, List, [], ◌∷◌, ◌++◌, Option, Some, None, Result, Ok, Err, Bool, true, false, refl, sym, subst, ap, append-nil, ◌∙◌, if◌then◌else◌, ◌==◌, ◌&&◌, arith}
use Rattle.std.proofs.lemmas.List.{append_assoc}
use Rattle.gx_lemmas.proofs.Numbers.{plus-none}
use Rattle.gx_ids.specs.declared.ids.Cid.{Cid}
use Rattle.gx_ids.specs.declared.ids.Gxid.{Gxid}
use Rattle.gx_ids.specs.declared.ids.Node.{Node}
use Rattle.gx_ids.specs.declared.ids.SessionId.{SessionId}
use Rattle.gx_tree.specs.declared.part.Part.{Part}
use Rattle.gx_tree.specs.declared.stmt.Level.{Level}
use Rattle.gx_tree.specs.declared.stmt.Level.TheVariants.{ReadCommitted, RepeatableRead}
use Rattle.gx_tree.specs.declared.stmt.Stmt.{Stmt}
use Rattle.gx_tree.specs.declared.stmt.Stmt.TheVariants as stmt
use Rattle.gx_dsnap.specs.declared.snapshot.Snapshot.{Snapshot}
use Rattle.gx_dtx.specs.Rules.{Turn, enlisted, on_abort, on_commit, on_reply}
use Rattle.gx_dtx.specs.Table.{Table}
use Rattle.gx_dtx.specs.declared.outcome.Outcome.{Outcome}
use Rattle.gx_dtx.specs.declared.outcome.Outcome.TheVariants as outcome
use Rattle.gx_meaning.specs.declared.fault.ArithFault.{ArithFault}
use Rattle.gx_msg.specs.declared.message.Message.{Message}
use Rattle.gx_msg.specs.declared.message.Message.TheVariants as message
use Rattle.gx_msg.specs.declared.reply.Cause.{Cause}
use Rattle.gx_msg.specs.declared.reply.Reply.{Reply}
use Rattle.gx_msg.specs.declared.reply.Reply.TheVariants as reply
use Rattle.gx_meaning.specs.Plan.{plan_of}
use Rattle.gx_meaning.specs.declared.piece.Piece.{Piece}
use Rattle.gx_script.specs.declared.Script.{Script}
use Rattle.gx_script.specs.Session.{line_step}
use Rattle.gx_script.specs.declared.line_step.LineStep.{LineStep}
use Rattle.gx_script.specs.declared.line_step.LineStep.TheVariants as step
use Rattle.gx_script.specs.declared.state.Block.{Block}
use Rattle.gx_script.specs.declared.state.Block.TheVariants.{Outside, Open, Failed}
use Rattle.gx_store.specs.declared.answer.Refused.{Refused}
use Rattle.gx_store.specs.declared.answer.Refused.TheVariants.{Victim}
use Rattle.gx_store.specs.declared.mark.Mark.{Mark}
use Rattle.gx_store.specs.declared.mark.Mark.TheVariants as mark
use Rattle.gx_store.specs.declared.node.NodeEvent.{NodeEvent}
use Rattle.gx_store.specs.declared.node.NodeEvent.TheVariants as event
use Rattle.gx_store.specs.Marks.{start_count}
use Rattle.gx_store.specs.Refusals.{the_coordinator}
use Rattle.gx_store.specs.Writes.{dist_of}
use Rattle.gx_rules.specs.AtCoordinator.{Reading, awaited, awaited_collect, begins, cancels, behind, commits, completes, dispatches, ends_in, enlisted_all, failure_marks, fault_mark, follows, goes, goes_on, is_awaited, is_refused, next_cid, next_line, nodes_in, on_answer, on_done, on_event, on_failed, on_line, on_message, on_status, reads_by, reads_for, reason_of, refusal_of, resends, starts, starts_line, table_of, takes_done, unless_kept, with_done, writers_with, goes_on_locked, if_granted, requests, resumes}
use Rattle.gx_store.specs.Locks.{table_lock}
use Rattle.gx_rules.specs.Coordinators.{Command, Coord, CoordTurn, Work, rests, session_of, with_work, work_of}
use Rattle.gx_rules.specs.Fits.{fits_part}
use Rattle.gx_law_order.proofs.Lists.{each_append}
use Rattle.gx_law_order.specs.Lists.{Each}
use Rattle.gx_law_order.specs.Numbers.{AreStartsNumbered}
use Rattle.gx_rules.specs.Locks.{hold_mark, release_marks, with_hold}
use Rattle.gx_locks.specs.Locks.{Locks, resumed, wait_of}
use Rattle.gx_waits.specs.Claims.{is_clear}
use Rattle.gx_waits.specs.declared.claim.Claim.{Claim}
use Rattle.gx_rules.specs.Rounds.{begins_round}
use Rattle.gx_rules.proofs.Rounds.{cancel-ways, graph-ways}
use Rattle.gx_law_order.proofs.Releases.{each-released}

-- a mark that starts no transaction
abbrev pub NoStart : Mark → Type 0
NoStart (mark.Start g s) = ⊥
NoStart _ = Unit {0}

-- a turn that starts no transaction
pub record IsCalm (next : Gxid) (turn : CoordTurn) : Type 0 where
  pub marks : Each NoStart turn.marks
  pub stands : turn.coord.table.next ≡ next

failure-calm : (i : Node) (g : Gxid) → Each NoStart (failure_marks i g)
failure-calm i g = by_test (i.0 == 0)
  where
    by_test : (b : Bool) → Each NoStart (if b then mark.JournalFailed the_coordinator g ∷ [] else [])
    by_test true = (tt, tt)
    by_test false = tt

back-calm : (locks : Locks) (g : Gxid) → Each NoStart (release_marks the_coordinator locks g)
back-calm locks g = each-released NoStart the_coordinator locks g (λ claim. tt)

refused-calm : (c : Coord) (g : Gxid) (turn : Turn) (why : List Mark) (reason : Refused) → turn.table.next ≡ c.table.next → Each NoStart why → IsCalm c.table.next (is_refused c g turn why reason)
refused-calm c g turn why reason n e = record { marks = each_append NoStart why _ e (tt, (tt, back-calm c.locks g)); stands = n }

follow-calm : (c : Coord) (g : Gxid) (turn : Turn) (o : Outcome) → turn.table.next ≡ c.table.next → IsCalm c.table.next (follows c g turn o)
follow-calm c g turn outcome.Pending n = record { marks = tt; stands = n }
follow-calm c g turn outcome.Decided n = record { marks = (tt, tt); stands = n }
follow-calm c g turn outcome.Committed n = record { marks = (tt, (tt, back-calm c.locks g)); stands = n }
follow-calm c g turn (outcome.Refused i) n = refused-calm c g turn (failure_marks i g) _ n (failure-calm i g)
follow-calm c g turn outcome.Ended n = record { marks = tt; stands = n }

commit-calm : (c : Coord) (g : Gxid) → IsCalm c.table.next (commits c g)
commit-calm c g = follow-calm c g (on_commit c.table g (work_of c g).writers) (on_commit c.table g (work_of c g).writers).out.outcome refl

rest-calm : (c : Coord) → IsCalm c.table.next (rests c)
rest-calm c = record { marks = tt; stands = refl }

-- commands
by-calm : (c : Coord) (g : Gxid) (cid : Cid) (w : Work) (x : Option Snapshot) → Each NoStart (reads_by c g cid w x).marks
by-calm c g cid w None = (tt, tt)
by-calm c g cid w (Some x) = tt

for-calm : (c : Coord) (g : Gxid) (cid : Cid) (w : Work) (line : Stmt) → Each NoStart (reads_for c g cid w line).marks
for-calm c g cid w (stmt.Lock t m) = tt
for-calm c g cid w (stmt.Begin level) = by-calm c g cid w w.snapshot
for-calm c g cid w stmt.Commit = by-calm c g cid w w.snapshot
for-calm c g cid w stmt.Rollback = by-calm c g cid w w.snapshot
for-calm c g cid w (stmt.Select q) = by-calm c g cid w w.snapshot
for-calm c g cid w (stmt.Insert t x) = by-calm c g cid w w.snapshot
for-calm c g cid w (stmt.Update t x y) = by-calm c g cid w w.snapshot
for-calm c g cid w (stmt.Delete t x) = by-calm c g cid w w.snapshot

fault-calm : (g : Gxid) (cid : Cid) (line : Stmt) → Each NoStart (fault_mark g cid line)
fault-calm g cid (stmt.Insert t x) = (tt, tt)
fault-calm g cid (stmt.Begin level) = tt
fault-calm g cid stmt.Commit = tt
fault-calm g cid stmt.Rollback = tt
fault-calm g cid (stmt.Select q) = tt
fault-calm g cid (stmt.Update t x y) = tt
fault-calm g cid (stmt.Delete t x) = tt
fault-calm g cid (stmt.Lock t m) = tt

next-all : (d : Table) (g : Gxid) (nodes : List Node) → (enlisted_all d g nodes).next ≡ d.next
next-all d g [] = refl
next-all d g (i ∷ is) = next-all (enlisted d g i) g is

by-next : (c : Coord) (g : Gxid) (cid : Cid) (w : Work) (x : Option Snapshot) → (reads_by c g cid w x).coord.table.next ≡ c.table.next
by-next c g cid w None = refl
by-next c g cid w (Some x) = refl

for-next : (c : Coord) (g : Gxid) (cid : Cid) (w : Work) (line : Stmt) → (reads_for c g cid w line).coord.table.next ≡ c.table.next
for-next c g cid w (stmt.Lock t m) = refl
for-next c g cid w (stmt.Begin level) = by-next c g cid w w.snapshot
for-next c g cid w stmt.Commit = by-next c g cid w w.snapshot
for-next c g cid w stmt.Rollback = by-next c g cid w w.snapshot
for-next c g cid w (stmt.Select q) = by-next c g cid w w.snapshot
for-next c g cid w (stmt.Insert t x) = by-next c g cid w w.snapshot
for-next c g cid w (stmt.Update t x y) = by-next c g cid w w.snapshot
for-next c g cid w (stmt.Delete t x) = by-next c g cid w w.snapshot

goes-calm : (next : Gxid) (g : Gxid) (cid : Cid) (line : Stmt) (r : Reading) (plan : Result (List Piece) ArithFault) → Each NoStart r.marks → r.coord.table.next ≡ next → IsCalm next (goes g cid line r plan)
goes-calm next g cid line r (Ok pieces) e n = record { marks = e; stands = next-all r.coord.table g (nodes_in pieces) ∙ n }
goes-calm next g cid line r (Err fault) e n =
    let x = refused-calm r.coord g (on_abort r.coord.table g) (r.marks ++ fault_mark g cid line) (refusal_of fault) refl (each_append NoStart r.marks (fault_mark g cid line) e (fault-calm g cid line)) in
    record { marks = x.marks; stands = x.stands ∙ n }

locked-calm : (script : Script) (c : Coord) (g : Gxid) (line : Stmt) → IsCalm c.table.next (goes_on_locked script c g line)
locked-calm script c g line =
    goes-calm c.table.next g (next_cid (work_of c g)) line (reads_for c g (next_cid (work_of c g)) (work_of c g) line) (plan_of script.segments (dist_of script.tables (table_of line)) g (next_cid (work_of c g)) line) (for-calm c g (next_cid (work_of c g)) (work_of c g) line) (for-next c g (next_cid (work_of c g)) (work_of c g) line)

held-calm : (script : Script) (c : Coord) (g : Gxid) (line : Stmt) (wanted : Claim) → IsCalm c.table.next (behind (hold_mark the_coordinator wanted ∷ []) (goes_on_locked script c g line))
held-calm script c g line wanted = let x = locked-calm script c g line in record { marks = (tt, x.marks); stands = x.stands }

request-calm : (script : Script) (c : Coord) (g : Gxid) (line : Stmt) (o : Option Claim) → IsCalm c.table.next (requests script c g line o)
request-calm script c g line None = locked-calm script c g line
request-calm script c g line (Some wanted) = by_test (is_clear c.locks.holds c.locks.waits wanted)
  where
    by_test : (b : Bool) → IsCalm c.table.next (if_granted script c g line wanted b)
    by_test true = held-calm script (record c { locks = with_hold c.locks wanted }) g line wanted
    by_test false = record { marks = (tt, tt); stands = refl }

dispatch-calm : (script : Script) (c : Coord) (g : Gxid) (line : Stmt) → IsCalm c.table.next (dispatches script c g line)
dispatch-calm script c g line = request-calm script c g line (table_lock script g line)

resume-calm : (script : Script) (c : Coord) (g : Gxid) (o : Option Claim) (line : Option Stmt) → IsCalm c.table.next (resumes script c g o line)
resume-calm script c g None line = rest-calm c
resume-calm script c g (Some wanted) None = rest-calm c
resume-calm script c g (Some wanted) (Some line) = held-calm script (with_work (record c { locks = resumed c.locks g (Some wanted) }) g (record (work_of c g) { waiting = None })) g line wanted

end-calm : (c : Coord) (s : SessionId) (b : Block) → IsCalm c.table.next (ends_in c s b)
end-calm c s (Open level) = record { marks = (tt, back-calm c.locks (session_of c s).transaction); stands = refl }
end-calm c s Failed = record { marks = tt; stands = refl }
end-calm c s Outside = rest-calm c

kept-next : (level : Level) (d : Table) (g : Gxid) → (unless_kept level d g).next ≡ d.next
kept-next ReadCommitted d g = refl
kept-next RepeatableRead d g = refl

-- answers
complete-calm : (c : Coord) (g : Gxid) (b : Block) → IsCalm c.table.next (completes c g b)
complete-calm c g Outside = commit-calm c g
complete-calm c g (Open level) = record { marks = (tt, tt); stands = kept-next (work_of c g).level c.table g }
complete-calm c g Failed = record { marks = (tt, tt); stands = kept-next (work_of c g).level c.table g }

go-calm : (c : Coord) (g : Gxid) (left : List Node) → IsCalm c.table.next (goes_on c g left)
go-calm c g [] = complete-calm c g (session_of c (work_of c g).session).state.block
go-calm c g (i ∷ is) = rest-calm c

take-calm : (c : Coord) (g : Gxid) (i : Node) (wrote : Bool) (count : ℕ) (part : Part) (k : Command) → IsCalm c.table.next (takes_done c g i wrote count part k)
take-calm c g i wrote count part k =
    go-calm (with_work c g (record (work_of c g) { writers = writers_with wrote i (work_of c g).writers; command = Some (with_done k i count part) })) g (with_done k i count part).awaited

done-calm : (c : Coord) (g : Gxid) (i : Node) (cid : Cid) (wrote : Bool) (count : ℕ) (part : Part) (k : Option Command) → IsCalm c.table.next (on_done c g i cid wrote count part k)
done-calm c g i cid wrote count part None = rest-calm c
done-calm c g i cid wrote count part (Some k) = by_test (is_awaited k i cid && fits_part k.stmt part)
  where
    by_test : (b : Bool) → IsCalm c.table.next (if b then takes_done c g i wrote count part k else rests c)
    by_test true = take-calm c g i wrote count part k
    by_test false = rest-calm c

failed-calm : (c : Coord) (g : Gxid) (i : Node) (cid : Cid) (cause : Cause) (k : Option Command) → IsCalm c.table.next (on_failed c g i cid cause k)
failed-calm c g i cid cause None = rest-calm c
failed-calm c g i cid cause (Some k) = by_test (is_awaited k i cid)
  where
    by_test : (b : Bool) → IsCalm c.table.next (if b then is_refused c g (on_abort c.table g) [] (reason_of cause) else rests c)
    by_test true = refused-calm c g (on_abort c.table g) [] (reason_of cause) refl tt
    by_test false = rest-calm c

status-calm : (c : Coord) (g : Gxid) (i : Node) (r : Reply) (fails : Bool) → IsCalm c.table.next (on_status c g i r fails)
status-calm c g i r fails =
    let x = follow-calm c g (on_reply c.table g i r fails) (on_reply c.table g i r fails).out.outcome refl in
    record { marks = x.marks; stands = x.stands }

answer-calm : (c : Coord) (g : Gxid) (i : Node) (fails : Bool) (r : Reply) → IsCalm c.table.next (on_answer c g i fails r)
answer-calm c g i fails (reply.Done cid wrote count part) = done-calm c g i cid wrote count part (work_of c g).command
answer-calm c g i fails (reply.Failed cid cause) = failed-calm c g i cid cause (work_of c g).command
answer-calm c g i fails reply.Prepared = status-calm c g i reply.Prepared fails
answer-calm c g i fails reply.Committed = status-calm c g i reply.Committed fails
answer-calm c g i fails reply.Jfault = status-calm c g i reply.Jfault fails
answer-calm c g i fails reply.Again = status-calm c g i reply.Again fails
answer-calm c g i fails reply.Restarted = status-calm c g i reply.Restarted fails
answer-calm c g i fails reply.Aborted = status-calm c g i reply.Aborted fails
answer-calm c g i fails reply.Forgotten = status-calm c g i reply.Forgotten fails

message-calm : (c : Coord) (from : Node) (fails : Bool) (m : Message) → IsCalm c.table.next (on_message c from fails m)
message-calm c from fails (message.Answer g r) = answer-calm c g from fails r
message-calm c from fails (message.Exec g cid level x h y) = rest-calm c
message-calm c from fails (message.Prepare g) = rest-calm c
message-calm c from fails (message.Commit g) = rest-calm c
message-calm c from fails (message.CommitPrepared g) = rest-calm c
message-calm c from fails (message.Abort g) = rest-calm c
message-calm c from fails (message.Forget g) = rest-calm c
message-calm c from fails (message.Collect round) = rest-calm c
message-calm c from fails (message.Graph round graph) = graph-ways (IsCalm c.table.next) c from round graph (rest-calm c) (λ e. record { marks = tt; stands = refl }) (λ e f. record { marks = (tt, tt); stands = refl })
message-calm c from fails message.Up = rest-calm c

again-calm : (c : Coord) (i : Node) (m : Option Message) → IsCalm c.table.next (resends c i m)
again-calm c i None = rest-calm c
again-calm c i (Some m) = record { marks = tt; stands = refl }

-- THE NUMBERS
count-append : (xs ys : List Mark) → start_count (xs ++ ys) ≡ start_count xs + start_count ys
count-append [] ys = grind arith
count-append (mark.Start g s ∷ xs) ys = grind (arith, count-append xs ys)
count-append (m ∷ xs) ys = count-append xs ys

calm-count : (ms : List Mark) → Each NoStart ms → start_count ms ≡ 0
calm-count [] e = refl
calm-count (mark.Start g s ∷ ms) e = absurd e.0
calm-count (m ∷ ms) e = calm-count ms e.1

pub calm-numbered : (before ms : List Mark) → Each NoStart ms → AreStartsNumbered before ms
calm-numbered before [] e = tt
calm-numbered before (mark.Start g s ∷ ms) e = absurd e.0
calm-numbered before (m ∷ ms) e = calm-numbered (before ++ m ∷ []) ms e.1

pub calm-more : (before ms : List Mark) → Each NoStart ms → start_count (before ++ ms) ≡ start_count before
calm-more before ms e = count-append before ms ∙ ap (λ n. start_count before + n) (calm-count ms e) ∙ plus-none (start_count before)

pub numbered-append : (before xs ys : List Mark) → AreStartsNumbered before xs → AreStartsNumbered (before ++ xs) ys → AreStartsNumbered before (xs ++ ys)
numbered-append before [] ys e f = subst (λ b. AreStartsNumbered b ys) (append-nil before) f
numbered-append before (mark.Start g s ∷ xs) ys e f = (e.0, numbered-append (before ++ mark.Start g s ∷ []) xs ys e.1 (subst (λ b. AreStartsNumbered b ys) (sym (append_assoc before (mark.Start g s ∷ []) xs)) f))
numbered-append before (m ∷ xs) ys e f = numbered-append (before ++ m ∷ []) xs ys e (subst (λ b. AreStartsNumbered b ys) (sym (append_assoc before (m ∷ []) xs)) f)

-- the marks of a turn have the next numbers, and the next one stands ready
pub record IsNumbered (before : List Mark) (turn : CoordTurn) : Type 0 where
  pub marks : AreStartsNumbered before turn.marks
  pub stands : turn.coord.table.next.0 ≡ start_count (before ++ turn.marks) + 1

module _ (before : List Mark) where
  calm : (next : Gxid) (turn : CoordTurn) → next.0 ≡ start_count before + 1 → IsCalm next turn → IsNumbered before turn
  calm next turn n d = record { marks = calm-numbered before turn.marks d.marks; stands = ap (λ (g : Gxid). g.0) d.stands ∙ n ∙ ap (λ k. k + 1) (sym (calm-more before turn.marks d.marks)) }

  begun-numbered : (next : Gxid) (s : SessionId) (turn : CoordTurn) → next.0 ≡ start_count before + 1 → Each NoStart turn.marks → turn.coord.table.next.0 ≡ next.0 + 1 → IsNumbered before (behind (mark.Start next s ∷ []) turn)
  begun-numbered next s turn n e t =
      record {
        marks = (n, calm-numbered (before ++ mark.Start next s ∷ []) turn.marks e);
        stands = t ∙ ap (λ k. k + 1) (n ∙ sym (count-append before (mark.Start next s ∷ turn.marks) ∙ ap (λ k. start_count before + (k + 1)) (calm-count turn.marks e) ∙ one (start_count before)));
      }
    where
      one : (a : ℕ) → a + (0 + 1) ≡ a + 1
      one a = omega arith

  line-numbered : (script : Script) (c : Coord) (s : SessionId) (line : Stmt) (asked : LineStep) → c.table.next.0 ≡ start_count before + 1 → IsNumbered before (on_line script c s line asked)
  line-numbered script c s line (step.Answer plain) n = calm c.table.next _ n (record { marks = (tt, tt); stands = refl })
  line-numbered script c s line step.InFailedBlock n = calm c.table.next _ n (record { marks = (tt, tt); stands = refl })
  line-numbered script c s line step.NotInBlock n = calm c.table.next _ n (record { marks = (tt, tt); stands = refl })
  line-numbered script c s line (step.BeginBlock level) n = begun-numbered c.table.next s _ n (tt, tt) refl
  line-numbered script c s line step.CommitBlock n = calm c.table.next _ n (commit-calm c (session_of c s).transaction)
  line-numbered script c s line step.RollbackBlock n = calm c.table.next _ n (record { marks = (tt, (tt, back-calm c.locks (session_of c s).transaction)); stands = refl })
  line-numbered script c s line (step.Command true) n =
      let x = dispatch-calm script (begins c s ReadCommitted) c.table.next line in
      begun-numbered c.table.next s (dispatches script (begins c s ReadCommitted) c.table.next line) n x.marks (ap (λ (g : Gxid). g.0) x.stands)
  line-numbered script c s line (step.Command false) n = calm c.table.next _ n (dispatch-calm script c (session_of c s).transaction line)

  start-numbered : (script : Script) (c : Coord) (s : SessionId) (line : Option Stmt) → c.table.next.0 ≡ start_count before + 1 → IsNumbered before (starts script c s line)
  start-numbered script c s None n = calm c.table.next _ n (rest-calm c)
  start-numbered script c s (Some line) n = line-numbered script (starts_line c s (line_step (session_of c s).state.block line)) s line (line_step (session_of c s).state.block line) n

  pub event-numbered : (script : Script) (c : Coord) (x : NodeEvent) (fails : Bool) → c.table.next.0 ≡ start_count before + 1 → IsNumbered before (on_event script c x fails)
  event-numbered script c (event.Deliver from envelope) fails n = calm c.table.next _ n (message-calm c from fails envelope.message)
  event-numbered script c (event.Start s) fails n = start-numbered script c s (next_line script c s) n
  event-numbered script c (event.End s) fails n = calm c.table.next _ n (end-calm c s (session_of c s).state.block)
  event-numbered script c (event.Resend i (Some g)) fails n = calm c.table.next _ n (again-calm c i (awaited c g i))
  event-numbered script c (event.Resend i None) fails n = calm c.table.next _ n (again-calm c i (awaited_collect c i))
  event-numbered script c (event.Resume g) fails n = calm c.table.next _ n (resume-calm script c g (wait_of c.locks g) (work_of c g).waiting)
  event-numbered script c event.Round fails n = calm c.table.next (begins_round script c) n (record { marks = tt; stands = refl })

  pub cancel-numbered : (c : Coord) (g : Gxid) → c.table.next.0 ≡ start_count before + 1 → IsNumbered before (cancels c g)
  cancel-numbered c g n = calm c.table.next _ n (cancel-ways (IsCalm c.table.next) c g (rest-calm c) (λ live busy. refused-calm c g (on_abort c.table g) [] (Victim c.rounds) refl tt))
