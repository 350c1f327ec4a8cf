-- Why the small runs are no histories.
use Rattle.std.proofs.Common.{◌≡◌, inl, inr, ℕ, zero, suc, List, [], ◌∷◌, Option, Some, None, true, false, refl, sym, subst, ap, ◌∙◌, arith}
use Rattle.std.specs.Prelude.{◌<◌, Contains, IsSome, map, slice_get, slice_index_or, take}
use Rattle.gx_ids.specs.declared.ids.Gxid.{Gxid}
use Rattle.gx_ids.specs.declared.ids.Node.{Node}
use Rattle.gx_ids.specs.declared.ids.SessionId.{SessionId}
use Rattle.gx_ids.specs.declared.ids.Table.{Table}
use Rattle.gx_ids.specs.declared.rid.Rid.{Rid}
use Rattle.gx_tree.specs.declared.expr.Expr.{Expr}
use Rattle.gx_tree.specs.declared.query.Query.{Query}
use Rattle.gx_tree.specs.declared.schema.Dist.{Dist}
use Rattle.gx_tree.specs.declared.schema.Dist.TheVariants.{By, Randomly}
use Rattle.gx_tree.specs.declared.slice.Slice.TheVariants as slice
use Rattle.gx_tree.specs.declared.stmt.Level.TheVariants.{ReadCommitted}
use Rattle.gx_tree.specs.declared.stmt.Stmt.{Stmt}
use Rattle.gx_tree.specs.declared.stmt.Stmt.TheVariants as stmt
use Rattle.gx_tree.specs.declared.value.Value.{Value}
use Rattle.gx_dsnap.specs.declared.snapshot.Snapshot.{Snapshot}
use Rattle.gx_msg.specs.declared.message.Message.{Message}
use Rattle.gx_msg.specs.declared.message.Message.TheVariants as message
use Rattle.gx_msg.specs.declared.reply.Cause.TheVariants as cause
use Rattle.gx_msg.specs.declared.reply.Reply.TheVariants as reply
use Rattle.gx_meaning.specs.Plan.{pieces}
use Rattle.gx_meaning.specs.Target.{target_of}
use Rattle.gx_meaning.specs.declared.piece.Piece.{Piece}
use Rattle.gx_script.specs.declared.Script.{Script}
use Rattle.gx_waits.specs.declared.graph.LocalGraph.{LocalGraph}
use Rattle.gx_store.specs.declared.answer.Refused.{Refused}
use Rattle.gx_store.specs.declared.answer.Refused.TheVariants as refused
use Rattle.gx_store.specs.declared.answer.StmtAnswer.TheVariants as answer
use Rattle.gx_store.specs.declared.event.Event.TheVariants as event
use Rattle.gx_store.specs.declared.mark.Mark.{Mark}
use Rattle.gx_store.specs.declared.mark.Mark.TheVariants as mark
use Rattle.gx_store.specs.declared.run.Step.{Step}
use Rattle.gx_store.specs.Answers.{GoesTo, IsAnswer, IsDone}
use Rattle.gx_store.specs.Commands.{state_at}
use Rattle.gx_store.specs.Legal.{LegalAnswer}
use Rattle.gx_store.specs.Lines.{Outside, InBlock, next_stmt, transaction_of}
use Rattle.gx_store.specs.Marks.{is_ended, is_processed, node_of}
use Rattle.gx_store.specs.Messages.{IsSending}
use Rattle.gx_store.specs.Points.{Point, before}
use Rattle.gx_store.specs.Protocol.{IsReturned}
use Rattle.gx_store.specs.RefusedHistories.{IsNoHistory, block_of_select, commit_is_cancelled, insert_and_select, inserted_nothing, one_insert, over_two, select_all, select_for_journal, sent_to_nobody, told_another, told_by_another, two_inserts, undrawn, untold, without_condition, written_elsewhere}
use Rattle.gx_store.specs.RefusedParts.{anna, empty_block, first_cid, first_txn, other_segment, row_of, second_txn, the_segment}
use Rattle.gx_store.specs.Refusals.{IsRefusal, IsWord, may_refuse, the_coordinator}
use Rattle.gx_store.specs.Writes.{IsLateWriteOf, LegalWrite, dist_of}
use Rattle.gx_store.proofs.RefusedParts.{clash, no-more, none-returned}

some-same : {A : Type 0} (a b : A) → Some a ≡ Some b → a ≡ b
some-same a b e = cc

-- AN INSERT
no-insert : {script : Script} {point : Point} (session : SessionId) (table : Table) (tuple : List Expr) (h : Gxid) → LegalAnswer script point session 1 (answer.Inserted 1) → next_stmt session script (before point) ≡ Some (stmt.Insert table (tuple ∷ [])) → state_at script session point ≡ Outside → transaction_of Outside session (before point) ≡ Some h → is_processed (before point) h first_cid (row_of h) ≡ false → ⊥
no-insert {script = script} {point = point} session table tuple h a line outside its none =
    by_done (subst (λ b. IsAnswer script point session b (stmt.Insert table (tuple ∷ [])) (answer.Inserted 1)) outside (subst (λ l. IsAnswer script point session (state_at script session point) l (answer.Inserted 1)) (some-same _ _ (sym a.runs.line ∙ line)) a.is))
  where
    by_done : IsDone script point session Outside (stmt.Insert table (tuple ∷ [])) (answer.Inserted 1) → ⊥
    by_done d = clash _ (subst (λ g. is_processed (before point) g first_cid (row_of g) ≡ true) (some-same _ _ (sym d.transaction ∙ its)) (d.told.each 1 (omega arith) (omega arith))) none

no-late : {script : Script} {point : Point} (table : Table) (row : List Value) → LegalWrite script point first_txn first_cid the_segment table (row_of second_txn) (Some row) → is_ended (before point) first_txn ≡ true → node_of (before point) (row_of second_txn) ≡ None → ⊥
no-late {script = script} {point = point} table row w ended nowhere = by_write w
  where
    two-one : (n : ℕ) → n ≡ 2 → n ≡ 1 → ⊥
    two-one n a b = omega arith

    no-node : (o : Option Node) (n : Node) → o ≡ None → o ≡ Some n → ⊥
    no-node o n e f = cc

    late : (stmt : Stmt) → IsLateWriteOf script (before point) first_txn first_cid stmt the_segment table (row_of second_txn) (Some row) → ⊥
    late (stmt.Insert t tuples) w = two-one second_txn.0 refl (ap (λ (g : Gxid). g.0) w.1.own.0)
    late (stmt.Update t assigns cond) w = no-node _ the_segment nowhere w.1
    late (stmt.Delete t cond) w = no-node _ the_segment nowhere w.1
    late (stmt.Select q) w = w
    late (stmt.Begin level) w = w
    late stmt.Commit w = w
    late stmt.Rollback w = w
    late (stmt.Lock t mode) w = w

    by_write : LegalWrite script point first_txn first_cid the_segment table (row_of second_txn) (Some row) → ⊥
    by_write (inl live) = clash (is_ended (before point) first_txn) ended live.runs.running
    by_write (inr w) = late w.stmt w.writes

pub no-history-elsewhere : (script : Script) (table : Table) (annas berts : List Expr) (s : Snapshot) (row : List Value) → IsNoHistory (two_inserts script table annas berts) (written_elsewhere table s row)
no-history-elsewhere script table annas berts s row h = no-late table row h.1.0.marks.0 refl refl

pub no-history-nothing : (script : Script) (table : Table) (tuple : List Expr) (s : Snapshot) → IsNoHistory (one_insert script table tuple) (inserted_nothing s)
no-history-nothing script table tuple s h = no-insert anna table tuple first_txn h.1.1.0.marks.1.0 refl refl refl refl

-- A REFUSAL OF EVALUATION
abbrev word : Gxid → Message
word g = message.Answer g (reply.Failed first_cid cause.Overflow)

no-word : {script : Script} {point : Point} (session : SessionId) (query : Query) → LegalAnswer script point session 1 (answer.Refused refused.Overflow) → next_stmt session script (before point) ≡ Some (stmt.Select query) → state_at script session point ≡ Outside → ((g : Gxid) (rid : Rid) (image : Option (List Value)) → IsWord point g first_cid rid image cause.Overflow → ⊥) → ⊥
no-word {script = script} {point = point} session query a line outside none =
    by_refusal (subst (λ b. IsAnswer script point session b (stmt.Select query) (answer.Refused refused.Overflow)) outside (subst (λ l. IsAnswer script point session (state_at script session point) l (answer.Refused refused.Overflow)) (some-same _ _ (sym a.runs.line ∙ line)) a.is))
  where
    by_refusal : IsRefusal script point session Outside (stmt.Select query) refused.Overflow → ⊥
    by_refusal r = none r.g r.cause.rid r.cause.image r.cause.heard

pub no-history-untold : (script : Script) (table : Table) (tuple : List Expr) (query : Query) (s t : Snapshot) (row : List Value) → IsNoHistory (insert_and_select script table tuple query) (untold table s t row)
no-history-untold script table tuple query s t row h = no-word anna query h.1.1.1.1.1.0.marks.1.0 refl refl (λ g rid image w. nothing w.segment w.content.number w.content.is)
  where
    nothing : (segment : Node) (number : ℕ) → event.Round ≡ event.Receive segment the_coordinator number → ⊥
    nothing segment number e = cc

-- the mark is no sending
abbrev IsUnsent : Mark → Type 0
IsUnsent m = (number : ℕ) (to : Node) (told : Message) → m ≡ mark.Sent to number told → ⊥

-- no mark of these steps sends this
abbrev IsUnsaid : Message → Mark → Type 0
IsUnsaid told m = (number : ℕ) (to : Node) → m ≡ mark.Sent to number told → ⊥

abbrev Each : {A : Type 0} → (A → Type 0) → List A → Type 0
Each P [] = Unit {0}
Each P (x ∷ xs) = P x × Each P xs

each-get : {A : Type 0} (P : A → Type 0) (xs : List A) (k : ℕ) (x : A) → Each P xs → slice_get xs k ≡ Some x → P x
each-get P [] k x e f = absurd (no-more k x f)
each-get P (y ∷ ys) zero x e f = subst P (some-same y x f) e.0
each-get P (y ∷ ys) (suc k) x e f = each-get P ys k x e.1 f

unsent : (told : Message) (steps : List Step) → Each (λ (s : Step). Each (IsUnsaid told) s.marks) steps → (from to : Node) (step mark number : ℕ) → IsSending steps step mark from to number told → ⊥
unsent told steps u from to step mark number s = each-get (IsUnsaid told) s.sender.marks mark _ (each-get (λ (s : Step). Each (IsUnsaid told) s.marks) steps step s.sender u s.at) s.sent number to refl

pub no-history-told-another : (script : Script) (table : Table) (tuple : List Expr) (query : Query) (s t : Snapshot) (row : List Value) → IsNoHistory (insert_and_select script table tuple query) (told_another table s t row)
no-history-told-another script table tuple query s t row h =
    no-word anna query h.1.1.1.1.1.0.marks.1.0 refl refl (λ g rid image w. unsent (word g) (take 5 (told_another table s t row)) (unsaid g) w.segment the_coordinator w.content.sent.step w.content.sent.mark w.content.number w.content.sent.sending)
  where
    unsaid : (g : Gxid) → Each (λ (s : Step). Each (IsUnsaid (word g)) s.marks) (take 5 (told_another table s t row))
    unsaid g = (
      (λ n to e. cc, (λ n to e. cc, tt)),
      ((λ n to e. cc, (λ n to e. cc, tt)), ((λ n to e. cc, (λ n to e. cc, tt)), ((λ n to e. cc, (λ n to e. cc, tt)), ((λ n to e. cc, (λ n to e. cc, tt)), tt)))),
    )

-- no step of the other segment notes this fault
abbrev IsUnnoted : Mark → Step → Type 0
IsUnnoted fault s = s.stamp.node ≡ other_segment → Contains s.marks fault → ⊥

pub no-history-by-another : (script : Script) (table : Table) (tuple : List Expr) (query : Query) (s t : Snapshot) (row : List Value) → IsNoHistory (over_two (insert_and_select script table tuple query)) (told_by_another table s t row)
no-history-by-another script table tuple query s t row h =
    no-word anna query h.1.1.1.1.1.1.0.marks.1.0 refl refl
    (λ g rid image w. each-get (IsUnnoted (mark.Fault g first_cid rid image)) (take 6 (told_by_another table s t row)) w.place w.step (unnoted g rid image) w.at (w.node ∙ sym (its w.segment w.content.number w.content.is)) w.noted)
  where
    its : (segment : Node) (number : ℕ) → event.Receive other_segment the_coordinator 1 ≡ event.Receive segment the_coordinator number → other_segment ≡ segment
    its segment number e = cc

    one-two : (n : ℕ) → n ≡ 1 → n ≡ 2 → ⊥
    one-two n a b = omega arith

    zero-two : (n : ℕ) → n ≡ 0 → n ≡ 2 → ⊥
    zero-two n a b = omega arith

    at-one : the_segment ≡ other_segment → ⊥
    at-one e = one-two the_segment.0 refl (ap (λ (n : Node). n.0) e)

    at-zero : the_coordinator ≡ other_segment → ⊥
    at-zero e = zero-two the_coordinator.0 refl (ap (λ (n : Node). n.0) e)

    only-sent : (fault : Mark) (told : Message) (k : ℕ) → k < 1 → slice_index_or (mark.Sent the_coordinator 1 told ∷ []) k fault ≡ fault → IsUnsent fault → ⊥
    only-sent fault told zero l e other = other 1 the_coordinator told (sym e)
    only-sent fault told (suc k) l e other = beyond k l
      where
        beyond : (k : ℕ) → suc k < 1 → ⊥
        beyond k l = omega arith

    unnoted : (g : Gxid) (rid : Rid) (image : Option (List Value)) → Each (IsUnnoted (mark.Fault g first_cid rid image)) (take 6 (told_by_another table s t row))
    unnoted g rid image = (
      λ e n. at-zero e,
      (λ e n. at-one e, (λ e n. at-zero e, (λ e n. at-zero e, (λ e n. at-one e, (λ e n. only-sent (mark.Fault g first_cid rid image) (word second_txn) n.0 n.1 n.2 (λ number to m f. cc), tt))))),
    )

-- AN ANSWER
-- its segment is among those to which it goes
goes-there : (query : Query) (dist : Dist) → Contains (map (λ (p : Piece). p.node) (pieces 1 (target_of 1 dist None) (slice.Select (without_condition query)))) the_segment
goes-there query (By column) = (0, omega arith, refl)
goes-there query Randomly = (0, omega arith, refl)

no-answer : {script : Script} {point : Point} (line : Stmt) → LegalAnswer script point anna 1 (answer.Rows []) → next_stmt anna script (before point) ≡ Some line → state_at script anna point ≡ Outside → (IsAnswer script point anna Outside line (answer.Rows []) → IsDone script point anna Outside line (answer.Rows [])) → ((g : Gxid) → GoesTo script g first_cid line the_segment) → ((g : Gxid) → IsReturned point g first_cid the_segment → ⊥) → ⊥
no-answer {script = script} {point = point} line a there outside is goes none =
    let d = is (subst (λ b. IsAnswer script point anna b line (answer.Rows [])) outside (subst (λ l. IsAnswer script point anna (state_at script anna point) l (answer.Rows [])) (some-same _ _ (sym a.runs.line ∙ there)) a.is)) in
    none d.g (d.back the_segment (goes d.g))

pub no-history-sent : (script : Script) (query : Query) (snapshot : Snapshot) → IsNoHistory (select_all script query) (sent_to_nobody snapshot)
no-history-sent script query snapshot h =
    no-answer (stmt.Select (without_condition query)) h.0.marks.1.1.1.0 refl refl (λ d. d)
    (λ g. record { table = query.table; of = refl; pieces = pieces 1 (target_of 1 (dist_of script.tables query.table.0) None) (slice.Select (without_condition query)); plan = refl; among = goes-there query (dist_of script.tables query.table.0) })
    (λ g back. none-returned anna g first_cid the_segment back)

-- A BLOCK
no-refusal : {script : Script} {point : Point} (session : SessionId) (line : Stmt) (reason : Refused) → LegalAnswer script point session 2 (answer.Refused reason) → next_stmt session script (before point) ≡ Some line → state_at script session point ≡ InBlock ReadCommitted 0 → may_refuse (InBlock ReadCommitted 0) line reason ≡ false
    → (IsAnswer script point session (InBlock ReadCommitted 0) line (answer.Refused reason) → IsRefusal script point session (InBlock ReadCommitted 0) line reason) → ⊥
no-refusal {script = script} {point = point} session line reason a there inside not_so is =
    clash _ (is (subst (λ b. IsAnswer script point session b line (answer.Refused reason)) inside (subst (λ l. IsAnswer script point session (state_at script session point) l (answer.Refused reason)) (some-same _ _ (sym a.runs.line ∙ there)) a.is))).kind not_so

pub no-history-cancelled : (script : Script) (graph : LocalGraph) → IsNoHistory (empty_block script) (commit_is_cancelled graph)
no-history-cancelled script graph h = no-refusal anna stmt.Commit (refused.Victim 1) h.1.1.0.marks.1.1.0 refl refl refl (λ r. r)

pub no-history-journal : (script : Script) (query : Query) → IsNoHistory (block_of_select script query) select_for_journal
no-history-journal script query h = no-refusal anna (stmt.Select query) (refused.JournalFault the_coordinator) h.1.0.marks.1.1.0 refl refl refl (λ r. r)

-- A LINE
pub no-history-undrawn : (script : Script) → IsNoHistory (empty_block script) undrawn
no-history-undrawn script h = none (h.0.drawn (stmt.Begin ReadCommitted) refl refl)
  where
    none : IsSome (let g : Option Gxid = None in g) → ⊥
    none e = cc
