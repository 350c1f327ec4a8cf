-- What a turn of the coordinator makes of how far transactions are from their ends: where an answer or a resumption makes it send something,
-- one transaction is nearer to its end, and all others are where they were.
use Rattle.std.proofs.Common.{◌≡◌, inl, inr, ◌≤◌, ℕ, ◌+◌, ◌==◌, ◌&&◌, List, [], ◌∷◌, ◌++◌, Option, Some, None, Result, Ok, Err, Bool, true, false, if◌then◌else◌, refl, sym, subst, ap, ◌∙◌, arith, eqb}
use Rattle.std.proofs.lemmas.Bool.{eqb-true}
use Rattle.std.specs.Prelude.{option_map}
use Rattle.gx_lemmas.proofs.Numbers.{eqb-self}
use Rattle.gx_lemmas.proofs.Tests.{and-first, and-second, true-false}
use Rattle.gx_ids.specs.declared.ids.Cid.{Cid}
use Rattle.gx_ids.specs.declared.ids.Gxid.{Gxid}
use Rattle.gx_ids.specs.declared.ids.Node.{Node}
use Rattle.gx_ids.specs.declared.ids.SessionId.{SessionId}
use Rattle.gx_tree.specs.declared.part.Part.{Part}
use Rattle.gx_tree.specs.declared.stmt.Level.{Level}
use Rattle.gx_tree.specs.declared.stmt.Level.TheVariants.{ReadCommitted, RepeatableRead}
use Rattle.gx_tree.specs.declared.stmt.Stmt.{Stmt}
use Rattle.gx_tree.specs.declared.stmt.Stmt.TheVariants as stmt
use Rattle.gx_dsnap.specs.declared.snapshot.Snapshot.{Snapshot}
use Rattle.gx_dtx.specs.Nodes.{has, with_node}
use Rattle.gx_dtx.specs.Rules.{abort_found, changed, commit_found, enlisted, on_abort, on_commit, on_reply, reply_found, turns, with_live, with_txn}
use Rattle.gx_dtx.specs.Table.{Table, find_txn, horizon_of, new_txn}
use Rattle.gx_dtx.specs.declared.change.Change.{Change}
use Rattle.gx_dtx.specs.declared.outcome.Outcome.{Outcome}
use Rattle.gx_dtx.specs.declared.outcome.Outcome.TheVariants as outcome
use Rattle.gx_dtx.specs.declared.phase.Phase.{Phase}
use Rattle.gx_dtx.specs.declared.phase.Phase.TheVariants.{Active, Aborting, CommittingOne, CommittingTwo, Ended, Preparing}
use Rattle.gx_dtx.specs.declared.txn.Txn.{Txn}
use Rattle.gx_meaning.specs.Plan.{plan_of}
use Rattle.gx_meaning.specs.declared.fault.ArithFault.{ArithFault}
use Rattle.gx_meaning.specs.declared.piece.Piece.{Piece}
use Rattle.gx_msg.specs.declared.message.Message.{Message}
use Rattle.gx_msg.specs.declared.message.Message.TheVariants as message
use Rattle.gx_msg.specs.declared.reply.Cause.{Cause}
use Rattle.gx_msg.specs.declared.reply.Reply.{Reply}
use Rattle.gx_msg.specs.declared.reply.Reply.TheVariants as reply
use Rattle.gx_script.specs.declared.Script.{Script}
use Rattle.gx_script.specs.declared.line_step.LineStep.{LineStep}
use Rattle.gx_script.specs.declared.line_step.LineStep.TheVariants as step
use Rattle.gx_script.specs.Session.{line_step}
use Rattle.gx_script.specs.declared.state.Block.{Block}
use Rattle.gx_script.specs.declared.state.Block.TheVariants as block
use Rattle.gx_store.specs.declared.answer.Refused.{Refused}
use Rattle.gx_store.specs.declared.answer.Refused.TheVariants.{Victim}
use Rattle.gx_store.specs.declared.answer.StmtAnswer.TheVariants as told
use Rattle.gx_store.specs.declared.mark.Mark.{Mark}
use Rattle.gx_store.specs.Writes.{dist_of}
use Rattle.gx_locks.specs.Locks.{wait_of}
use Rattle.gx_waits.specs.declared.claim.Claim.{Claim}
use Rattle.gx_rules.specs.AtCoordinator.{Reading, answer_mark, answers, begins, cancels, commits, completes, dispatches, ends_in, enlisted_all, follows, goes, goes_on, goes_on_locked}
use Rattle.gx_rules.specs.AtCoordinator.{is_awaited, is_refused, kept_at, next_cid, nodes_in, orders_of, on_answer, on_done, on_failed, on_line, on_message, on_status, reads_by, reads_for}
use Rattle.gx_rules.specs.AtCoordinator.{reason_of, refusal_of, fault_mark, resumes, rolls_back, starts, starts_line, table_of, takes_done, unless_kept, waits_for, with_done, writers_with}
use Rattle.gx_rules.specs.Coordinators.{Command, Coord, CoordTurn, Work, new_work, no_work, rests, session_of, with_work, work_of}
use Rattle.gx_rules.specs.Fits.{fits_part}
use Rattle.gx_rules.specs.Locks.{with_hold}
use Rattle.gx_rules.specs.Rounds.{is_active, is_live}
use Rattle.gx_rules.specs.Snapshots.{snapshot_of}
use Rattle.gx_rules.proofs.Rounds.{cancel-ways, graph-ways}
use Rattle.gx_law_order.proofs.Dispatches.{dispatch-ways, out_of_wait, resume-ways, without_wait}
use Rattle.gx_law_order.proofs.Lines as lines
use Rattle.gx_law_order.proofs.Stages.{At, append-at, at_gxid, changed-at, left_of, txn-at}
use Rattle.gx_law_order.specs.Sessions.{Kept}
use Rattle.gx_law_order.specs.Stages.{IsWhole, stage, stage_in}
use Rattle.gx_law_order.specs.Stages.Stage.{Live}
use Rattle.gx_law_order.specs.Standings.{gx}
use Rattle.gx_law_orders.proofs.Ranks.{Falls, FallsBy, abort-rank, command_rank, commit-falls, no-more, phase_rank, rank, reply-falls, some_left, txn_rank, waiting_rank, work_rank}

-- WHAT A TURN TOUCHES
-- all other transactions are where they were
pub record Touches (c : Coord) (g : ℕ) (turn : CoordTurn) : Type 0 where
  pub next : c.table.next.0 ≤ turn.coord.table.next.0
  pub others : (h : ℕ) → eqb h g ≡ false → rank turn.coord h ≡ rank c h

-- and this one no further from its end, nearer where anything is sent
pub record Lowers (c : Coord) (g : ℕ) (turn : CoordTurn) : Type 0 where
  pub touches : Touches c g turn
  pub here : Falls turn.outs (rank c g) (rank turn.coord g)

-- a table in which all are where they were
pub record KeepsRanks (d u : Table) : Type 0 where
  pub whole : IsWhole u
  pub next : u.next ≡ d.next
  pub txns : (h : ℕ) → txn_rank (find_txn u (gx h)) ≡ txn_rank (find_txn d (gx h))

keeps-itself : (d : Table) → IsWhole d → KeepsRanks d d
keeps-itself d w = record { whole = w; next = refl; txns = λ h. refl }

keeps-both : (d u v : Table) → KeepsRanks d u → KeepsRanks u v → KeepsRanks d v
keeps-both d u v a b = record { whole = b.whole; next = b.next ∙ a.next; txns = λ h. b.txns h ∙ a.txns h }

keeps-change : (d : Table) (g : ℕ) (f : Txn → Txn) → IsWhole d → ((t : Txn) → (f t).phase ≡ t.phase) → KeepsRanks d (record d { txns = with_txn d.txns (gx g) f })
keeps-change d g f w same = let x = txn-at d g f w in record { whole = record { first = x.whole.first; apart = x.whole.apart; drawn = x.whole.drawn }; next = x.next; txns = λ h. ap txn_rank (x.finds h) ∙ by_test h (eqb h g) refl }
  where
    by_txn : (o : Option Txn) → txn_rank (option_map f o) ≡ txn_rank o
    by_txn None = refl
    by_txn (Some t) = ap phase_rank (same t)

    by_test : (h : ℕ) (b : Bool) → eqb h g ≡ b → txn_rank (if b then option_map f (find_txn d (gx g)) else find_txn d (gx h)) ≡ txn_rank (find_txn d (gx h))
    by_test h true e = by_txn (find_txn d (gx g)) ∙ ap (λ k. txn_rank (find_txn d (gx k))) (sym (eqb-true h g e))
    by_test h false e = refl

keeps-live : (d : Table) (g : ℕ) (live : Option Gxid) → IsWhole d → KeepsRanks d (with_live d (gx g) live)
keeps-live d g live w = keeps-change d g (λ t. record t { live = live }) w (λ t. refl)

keeps-enlisted : (nodes : List Node) (d : Table) (g : ℕ) → IsWhole d → KeepsRanks d (enlisted_all d (gx g) nodes)
keeps-enlisted [] d g w = keeps-itself d w
keeps-enlisted (i ∷ is) d g w =
    let x = keeps-change d g (λ t. record t { participants = with_node i t.participants }) w (λ t. refl) in
    keeps-both d (enlisted d (gx g) i) (enlisted_all (enlisted d (gx g) i) (gx g) is) x (keeps-enlisted is (enlisted d (gx g) i) g x.whole)

-- ONE TRANSACTION
at-most : (a b : Gxid) → b ≡ a → a.0 ≤ b.0
at-most a b e = subst (λ x. a.0 ≤ x.0) (sym e) (no-more a.0)

both-ranks : (a b x y : ℕ) → a ≡ b → x ≡ y → a + x ≡ b + y
both-ranks a b x y e f = omega arith

module _ (c : Coord) (g : ℕ) where
  abbrev before : ℕ
  before = rank c g

  -- by what becomes of its status and its work
  module _ (turn : CoordTurn) (now : ℕ) (w : Work) (next : turn.coord.table.next ≡ c.table.next)
      (txns : (h : ℕ) → txn_rank (find_txn turn.coord.table (gx h)) ≡ (if eqb h g then now else txn_rank (find_txn c.table (gx h)))) (works : (h : ℕ) → turn.coord.works h ≡ (if eqb h g then w else c.works h))
    where
      one-touches : Touches c g turn
      one-touches =
          record {
            next = at-most c.table.next turn.coord.table.next next;
            others = λ h e. both-ranks _ _ _ _ (txns h ∙ ap (λ b. if b then now else txn_rank (find_txn c.table (gx h))) e) (ap work_rank (works h ∙ ap (λ b. if b then w else c.works h) e));
          }

      one-rank : rank turn.coord g ≡ now + work_rank w
      one-rank = both-ranks _ _ _ _ (txns g ∙ ap (λ b. if b then now else txn_rank (find_txn c.table (gx g))) (eqb-self g)) (ap work_rank (works g ∙ ap (λ b. if b then w else c.works g) (eqb-self g)))

  of-at : (u : Table) (t : Option Txn) → At c.table u g t → (h : ℕ) → txn_rank (find_txn u (gx h)) ≡ (if eqb h g then txn_rank t else txn_rank (find_txn c.table (gx h)))
  of-at u t at h = ap txn_rank (at.finds h) ∙ by_test (eqb h g)
    where
      by_test : (b : Bool) → txn_rank (if b then t else find_txn c.table (gx h)) ≡ (if b then txn_rank t else txn_rank (find_txn c.table (gx h)))
      by_test true = refl
      by_test false = refl

  same-works : (h : ℕ) → c.works h ≡ (if eqb h g then c.works g else c.works h)
  same-works h = by_test (eqb h g) refl
    where
      by_test : (b : Bool) → eqb h g ≡ b → c.works h ≡ (if b then c.works g else c.works h)
      by_test true e = ap c.works (eqb-true h g e)
      by_test false e = refl

  rest-lowers : Lowers c g (rests c)
  rest-lowers = record { touches = record { next = no-more c.table.next.0; others = λ h e. refl }; here = inl (refl, no-more before) }

  module _ (whole : IsWhole c.table) where
    -- what a call has come to
    module _ (ch : Change) where
      abbrev left : Option Txn
      left = left_of ch.step (find_txn c.table (gx g))

      at : At c.table (changed c.table (gx g) ch) g left
      at = changed-at c.table g ch whole

      abbrev its : Outcome → CoordTurn
      its o = follows c (gx g) (turns c.table (gx g) ch) o

      abbrev work_behind : Outcome → Work
      work_behind outcome.Committed = no_work
      work_behind (outcome.Refused i) = no_work
      work_behind _ = c.works g

      less-work : (o : Outcome) → work_rank (work_behind o) ≤ work_rank (c.works g)
      less-work outcome.Pending = no-more (work_rank (c.works g))
      less-work outcome.Decided = no-more (work_rank (c.works g))
      less-work outcome.Ended = no-more (work_rank (c.works g))
      less-work outcome.Committed = least (work_rank (c.works g))
        where
          least : (a : ℕ) → 0 + 0 ≤ a
          least a = omega arith
      less-work (outcome.Refused i) = least (work_rank (c.works g))
        where
          least : (a : ℕ) → 0 + 0 ≤ a
          least a = omega arith

      follow-both : (o : Outcome) → Touches c g (its o) × (rank (its o).coord g ≡ txn_rank left + work_rank (work_behind o)) × ((its o).outs ≡ ch.out.outs)
      follow-both outcome.Pending = (one-touches (its outcome.Pending) (txn_rank left) (c.works g) at.next (of-at _ left at) same-works, one-rank (its outcome.Pending) (txn_rank left) (c.works g) at.next (of-at _ left at) same-works, refl)
      follow-both outcome.Decided = (one-touches (its outcome.Decided) (txn_rank left) (c.works g) at.next (of-at _ left at) same-works, one-rank (its outcome.Decided) (txn_rank left) (c.works g) at.next (of-at _ left at) same-works, refl)
      follow-both outcome.Ended = (one-touches (its outcome.Ended) (txn_rank left) (c.works g) at.next (of-at _ left at) same-works, one-rank (its outcome.Ended) (txn_rank left) (c.works g) at.next (of-at _ left at) same-works, refl)
      follow-both outcome.Committed = (one-touches (its outcome.Committed) (txn_rank left) no_work at.next (of-at _ left at) (λ h. refl), one-rank (its outcome.Committed) (txn_rank left) no_work at.next (of-at _ left at) (λ h. refl), refl)
      follow-both (outcome.Refused i) =
          (one-touches (its (outcome.Refused i)) (txn_rank left) no_work at.next (of-at _ left at) (λ h. refl), one-rank (its (outcome.Refused i)) (txn_rank left) no_work at.next (of-at _ left at) (λ h. refl), refl)

      follow-lowers : FallsBy (find_txn c.table (gx g)) ch → (o : Outcome) → Lowers c g (its o)
      follow-lowers f o =
          let b = follow-both o in
          record { touches = b.0; here = subst (λ x. Falls (its o).outs before x) (sym b.1) (subst (λ x. Falls x before (txn_rank left + work_rank (work_behind o))) (sym b.2) (falls f (less-work o))) }
        where
          falls : FallsBy (find_txn c.table (gx g)) ch → work_rank (work_behind o) ≤ work_rank (c.works g) → Falls ch.out.outs before (txn_rank left + work_rank (work_behind o))
          falls (inl q) l = inl (q.0, sum (txn_rank left) (txn_rank (find_txn c.table (gx g))) _ _ q.1 l)
            where
              sum : (a b x y : ℕ) → a ≤ b → x ≤ y → a + x ≤ b + y
              sum a b x y l h = omega arith
          falls (inr q) l = inr (sum (txn_rank left) (txn_rank (find_txn c.table (gx g))) _ _ q l)
            where
              sum : (a b x y : ℕ) → a + 1 ≤ b → x ≤ y → a + x + 1 ≤ b + y
              sum a b x y l h = omega arith

    -- an answer about its status
    status-lowers : (i : Node) (r : Reply) (fails : Bool) → Lowers c g (on_status c (gx g) i r fails)
    status-lowers i r fails =
        let x = follow-lowers (reply_found (gx g) i r fails (find_txn c.table (gx g))) (reply-falls (gx g) i r fails (find_txn c.table (gx g))) (on_reply c.table (gx g) i r fails).out.outcome in
        record { touches = record { next = x.touches.next; others = x.touches.others }; here = x.here }

    -- a commit
    commit-touches : Touches c g (commits c (gx g))
    commit-touches = (follow-both (commit_found (gx g) (c.works g).writers (find_txn c.table (gx g))) (on_commit c.table (gx g) (c.works g).writers).out.outcome).0

    commit-lowers : (t : Txn) → find_txn c.table (gx g) ≡ Some t → t.phase ≡ Active → Lowers c g (commits c (gx g))
    commit-lowers t found active =
        follow-lowers (commit_found (gx g) (c.works g).writers (find_txn c.table (gx g)))
        (subst (λ o. FallsBy o (commit_found (gx g) (c.works g).writers o)) (sym found) (commit-falls (gx g) (c.works g).writers t active)) (on_commit c.table (gx g) (c.works g).writers).out.outcome

    -- an abort
    abort-at : At c.table (on_abort c.table (gx g)).table g (left_of (abort_found (gx g) (find_txn c.table (gx g))).step (find_txn c.table (gx g)))
    abort-at = changed-at c.table g (abort_found (gx g) (find_txn c.table (gx g))) whole

    abbrev aborted : ℕ
    aborted = txn_rank (left_of (abort_found (gx g) (find_txn c.table (gx g))).step (find_txn c.table (gx g)))

    rolled-touches : (marks : List Mark) → Touches c g (rolls_back c (gx g) marks (on_abort c.table (gx g)))
    rolled-touches marks = one-touches (rolls_back c (gx g) marks (on_abort c.table (gx g))) aborted no_work abort-at.next (of-at _ _ abort-at) (λ h. refl)

    refused-touches : (why : List Mark) (reason : Refused) → Touches c g (is_refused c (gx g) (on_abort c.table (gx g)) why reason)
    refused-touches why reason = one-touches (is_refused c (gx g) (on_abort c.table (gx g)) why reason) aborted no_work abort-at.next (of-at _ _ abort-at) (λ h. refl)

    refused-rank : (why : List Mark) (reason : Refused) → rank (is_refused c (gx g) (on_abort c.table (gx g)) why reason).coord g ≤ 1
    refused-rank why reason =
        low _ aborted (one-rank (is_refused c (gx g) (on_abort c.table (gx g)) why reason) aborted no_work abort-at.next (of-at _ _ abort-at) (λ h. refl)) (abort-rank (gx g) (find_txn c.table (gx g)))
      where
        low : (a b : ℕ) → a ≡ b + (0 + 0) → b ≤ 1 → a ≤ 1
        low a b e l = omega arith

    refused-lowers : 2 ≤ before → (why : List Mark) (reason : Refused) → Lowers c g (is_refused c (gx g) (on_abort c.table (gx g)) why reason)
    refused-lowers two why reason = record { touches = refused-touches why reason; here = inr (less _ before (refused-rank why reason) two) }
      where
        less : (a b : ℕ) → a ≤ 1 → 2 ≤ b → a + 1 ≤ b
        less a b l h = omega arith

    -- A COMMAND GOES OUT
    -- the data by which it reads
    pub record IsRead (r : Coord) : Type 0 where
      pub keeps : KeepsRanks c.table r.table
      pub works : (h : ℕ) → work_rank (r.works h) ≡ work_rank (c.works h)
      pub waiting : waiting_rank (r.works g).waiting ≡ waiting_rank (c.works g).waiting

    read-itself : IsRead c
    read-itself = record { keeps = keeps-itself c.table whole; works = λ h. refl; waiting = refl }

    read-by : (cid : Cid) (x : Option Snapshot) → IsRead (reads_by c (gx g) cid (work_of c (gx g)) x).coord
    read-by cid (Some s) = read-itself
    read-by cid None =
        record {
          keeps = keeps-live c.table g _ whole;
          works = λ h. by_test (kept_at (c.works g).level (snapshot_of c.table)) h (eqb h g) refl;
          waiting = ap (λ b. waiting_rank (if b then (record (c.works g) { snapshot = kept_at (c.works g).level (snapshot_of c.table) }) else c.works g).waiting) (eqb-self g);
        }
      where
        by_test : (s : Option Snapshot) (h : ℕ) (b : Bool) → eqb h g ≡ b → work_rank (if b then record (c.works g) { snapshot = s } else c.works h) ≡ work_rank (c.works h)
        by_test s h true e = ap (λ k. work_rank (c.works k)) (sym (eqb-true h g e))
        by_test s h false e = refl

    read-for : (cid : Cid) (line : Stmt) → IsRead (reads_for c (gx g) cid (work_of c (gx g)) line).coord
    read-for cid (stmt.Lock t m) = read-itself
    read-for cid (stmt.Begin level) = read-by cid (c.works g).snapshot
    read-for cid stmt.Commit = read-by cid (c.works g).snapshot
    read-for cid stmt.Rollback = read-by cid (c.works g).snapshot
    read-for cid (stmt.Select q) = read-by cid (c.works g).snapshot
    read-for cid (stmt.Insert t x) = read-by cid (c.works g).snapshot
    read-for cid (stmt.Update t x y) = read-by cid (c.works g).snapshot
    read-for cid (stmt.Delete t x) = read-by cid (c.works g).snapshot

-- WHAT GOES OUT
-- its work then
abbrev went_out : Reading → ℕ → Cid → Stmt → List Piece → Work
went_out r g cid line pieces =
    record (r.coord.works g) {
      last = cid.0;
      command = Some (record { stmt = line; cid = cid; orders = orders_of (gx g) cid (r.coord.works g).level r.snapshot (horizon_of r.coord.table) pieces; awaited = nodes_in pieces; count = 0; parts = [] });
    }

some-most : (is : List Node) → some_left is ≤ 1
some-most [] = omega arith
some-most (i ∷ is) = omega arith

module _ (c : Coord) (g : ℕ) (whole : IsWhole c.table) where
  -- of the rank besides what waits there
  abbrev Goes : CoordTurn → Type 0
  Goes turn = Touches c g turn × (rank turn.coord g ≤ txn_rank (find_txn c.table (gx g)) + (1 + waiting_rank (c.works g).waiting))

  pub goes-out : (r : Reading) → IsRead c g whole r.coord → (cid : Cid) (line : Stmt) (plan : Result (List Piece) ArithFault) → Goes (goes (gx g) cid line r plan)
  goes-out r f cid line (Ok pieces) = (
    record { next = at-most c.table.next _ (k.next ∙ f.keeps.next); others = λ h e. both-ranks _ _ _ _ (k.txns h ∙ f.keeps.txns h) (behind (eqb h g) h e ∙ f.works h) },
    sum _ _ _ _ _ _ (k.txns g ∙ f.keeps.txns g) (here (eqb g g) (eqb-self g)) (some-most (nodes_in pieces)) f.waiting,
  )
    where
      k : KeepsRanks r.coord.table (enlisted_all r.coord.table (gx g) (nodes_in pieces))
      k = keeps-enlisted (nodes_in pieces) r.coord.table g f.keeps.whole

      sum : (a b x s w v : ℕ) → a ≡ b → x ≡ s + w → s ≤ 1 → w ≡ v → a + x ≤ b + (1 + v)
      sum a b x s w v e f l h = omega arith

      behind : (b : Bool) (h : ℕ) → b ≡ false → work_rank (if b then went_out r g cid line pieces else r.coord.works h) ≡ work_rank (r.coord.works h)
      behind true h e = absurd (true-false true refl e)
      behind false h e = refl

      here : (b : Bool) → b ≡ true → work_rank (if b then went_out r g cid line pieces else r.coord.works g) ≡ some_left (nodes_in pieces) + waiting_rank (r.coord.works g).waiting
      here true e = refl
      here false e = absurd (true-false false e refl)
  goes-out r f cid line (Err fault) =
      let t = refused-touches r.coord g f.keeps.whole (r.marks ++ fault_mark (gx g) cid line) (refusal_of fault) in (
        record { next = up _ _ _ (at-most c.table.next r.coord.table.next f.keeps.next) t.next; others = λ h e. t.others h e ∙ both-ranks _ _ _ _ (f.keeps.txns h) (f.works h) },
        low _ (txn_rank (find_txn c.table (gx g))) (waiting_rank (c.works g).waiting) (refused-rank r.coord g f.keeps.whole (r.marks ++ fault_mark (gx g) cid line) (refusal_of fault)),
      )
    where
      up : (a b d : ℕ) → a ≤ b → b ≤ d → a ≤ d
      up a b d l h = omega arith

      low : (a b d : ℕ) → a ≤ 1 → a ≤ b + (1 + d)
      low a b d l = omega arith

  pub locked-goes : (script : Script) (line : Stmt) → Goes (goes_on_locked script c (gx g) line)
  locked-goes script line =
      goes-out (reads_for c (gx g) (next_cid (c.works g)) (c.works g) line) (read-for c g whole (next_cid (c.works g)) line) (next_cid (c.works g)) line
      (plan_of script.segments (dist_of script.tables (table_of line)) (gx g) (next_cid (c.works g)) line)

-- with its lock, or it waits
module _ (script : Script) (c : Coord) (g : ℕ) (whole : IsWhole c.table) where
  waits-touches : (line : Stmt) (wanted : Claim) → Touches c g (waits_for c (gx g) line wanted)
  waits-touches line wanted = record { next = no-more c.table.next.0; others = λ h e. ap (λ b. txn_rank (find_txn c.table (gx h)) + work_rank (if b then record (c.works g) { waiting = Some line } else c.works h)) e }

  pub dispatch-touches : (line : Stmt) → Touches c g (dispatches script c (gx g) line)
  dispatch-touches line =
      dispatch-ways (Touches c g) script c (gx g) line (λ e. (locked-goes c g whole script line).0)
      (λ wanted e f. let t = (locked-goes (record c { locks = with_hold c.locks wanted }) g whole script line).0 in record { next = t.next; others = t.others }) (λ wanted e f. waits-touches line wanted)

  resumed-lowers : (wanted : Claim) (line : Stmt) → (c.works g).waiting ≡ Some line → Lowers c g (out_of_wait script c (gx g) line wanted)
  resumed-lowers wanted line waits =
      let t = locked-goes (without_wait c (gx g) wanted) g whole script line in
      record {
        touches = record { next = t.0.next; others = λ h e. t.0.others h e ∙ ap (λ b. txn_rank (find_txn c.table (gx h)) + work_rank (if b then record (c.works g) { waiting = None } else c.works h)) e };
        here =
            inr (less _ (txn_rank (find_txn c.table (gx g))) (command_rank (c.works g).command) _ _ t.1 (ap (λ b. waiting_rank (if b then record (c.works g) { waiting = None } else c.works g).waiting) (eqb-self g)) (ap waiting_rank waits));
      }
    where
      less : (a b k x w : ℕ) → a ≤ b + (1 + x) → x ≡ 0 → w ≡ 2 → a + 1 ≤ b + (k + w)
      less a b k x w l e f = omega arith

  pub resume-lowers : Lowers c g (resumes script c (gx g) (wait_of c.locks (gx g)) (c.works g).waiting)
  resume-lowers = resume-ways (Lowers c g) script c (gx g) (rest-lowers c g) (λ wanted line e f. resumed-lowers wanted line f)

-- ANSWERS
-- the rank may be told from other data in which no other transaction differs
lowers-from : (c d : Coord) (g : ℕ) (turn : CoordTurn) → d.table.next ≡ c.table.next → ((h : ℕ) → eqb h g ≡ false → rank d h ≡ rank c h) → rank d g ≤ rank c g → Lowers d g turn → Lowers c g turn
lowers-from c d g turn same others less l =
    record { touches = record { next = subst (λ x. x.0 ≤ turn.coord.table.next.0) same l.touches.next; others = λ h e. l.touches.others h e ∙ others h e }; here = by_way l.here }
  where
    up : (a b k : ℕ) → a ≤ b → b ≤ k → a ≤ k
    up a b k x y = omega arith

    by_way : Falls turn.outs (rank d g) (rank turn.coord g) → Falls turn.outs (rank c g) (rank turn.coord g)
    by_way (inl x) = inl (x.0, up _ _ _ x.1 less)
    by_way (inr x) = inr (up _ _ _ x less)

some-of : (i : Node) (is : List Node) → has i is ≡ true → some_left is ≡ 1
some-of i [] e = absurd (cc)
some-of i (j ∷ js) e = refl

none-left : (i : Node) (is : List Node) → has i is ≡ true → is ≡ [] → ⊥
none-left i is e f = true-false (has i is) e (ap (has i) f)

module _ (script : Script) (c : Coord) (kept : Kept script c) (g : ℕ) where
  live-txn : stage (find_txn c.table (gx g)) ≡ Live → (t : Txn) × (find_txn c.table (gx g) ≡ Some t) × (t.phase ≡ Active)
  live-txn e = by_found (find_txn c.table (gx g)) refl e
    where
      by_phase : (p : Phase) → stage_in p ≡ Live → p ≡ Active
      by_phase Active e = refl
      by_phase (Preparing a b) e = absurd (cc)
      by_phase (CommittingOne a) e = absurd (cc)
      by_phase (CommittingTwo a) e = absurd (cc)
      by_phase (Ended a) e = absurd (cc)
      by_phase (Aborting a) e = absurd (cc)

      by_found : (o : Option Txn) → find_txn c.table (gx g) ≡ o → stage o ≡ Live → (t : Txn) × (find_txn c.table (gx g) ≡ Some t) × (t.phase ≡ Active)
      by_found None f e = absurd (cc)
      by_found (Some t) f e = (t, f, by_phase t.phase e)

  live-rank : stage (find_txn c.table (gx g)) ≡ Live → 2 ≤ rank c g
  live-rank e = let l = live-txn e in two _ _ (ap txn_rank l.1 ∙ ap phase_rank l.2)
    where
      two : (a b : ℕ) → a ≡ 4 → 2 ≤ a + b
      two a b e = omega arith

  -- DONE
  module _ (i : Node) (wrote : Bool) (count : ℕ) (part : Part) (k : Command) (is : (c.works g).command ≡ Some k) (among : has i k.awaited ≡ true) where
    abbrev done : Command
    done = with_done k i count part

    abbrev behind_it : Work
    behind_it = record (c.works g) { writers = writers_with wrote i (c.works g).writers; command = Some done }

    abbrev d : Coord
    d = with_work c (gx g) behind_it

    abbrev rank_here : ℕ
    rank_here = txn_rank (find_txn c.table (gx g)) + (some_left done.awaited + waiting_rank (c.works g).waiting)

    d-rank : rank d g ≡ rank_here
    d-rank = ap (λ b. txn_rank (find_txn c.table (gx g)) + work_rank (if b then behind_it else c.works g)) (eqb-self g)

    d-others : (h : ℕ) → eqb h g ≡ false → rank d h ≡ rank c h
    d-others h e = ap (λ b. txn_rank (find_txn c.table (gx h)) + work_rank (if b then behind_it else c.works h)) e

    one : command_rank (c.works g).command ≡ 1
    one = ap command_rank is ∙ some-of i k.awaited among

    d-less : rank d g ≤ rank c g
    d-less = sum _ _ _ _ _ d-rank one (some-most done.awaited)
      where
        sum : (r a b x w : ℕ) → r ≡ a + (x + w) → b ≡ 1 → x ≤ 1 → r ≤ a + (b + w)
        sum r a b x w e f l = omega arith

    -- its answer
    answer-lowers : done.awaited ≡ [] → Lowers d g (answers d (gx g) (d.works g))
    answer-lowers none =
        record {
          touches = record { next = at-most d.table.next _ level.next; others = λ h e. both-ranks _ _ _ _ (level.txns h) (ap (λ b. work_rank (if b then record (d.works g) { command = None } else d.works h)) e) };
          here = inl (
            refl,
            fewer _ (txn_rank (find_txn d.table (gx g))) _ (command_rank (d.works g).command) (waiting_rank (d.works g).waiting) (level.txns g)
                (ap (λ b. work_rank (if b then record (d.works g) { command = None } else d.works g)) (eqb-self g)),
          );
        }
      where
        by_level : (l : Level) → KeepsRanks d.table (unless_kept l d.table (gx g))
        by_level ReadCommitted = keeps-live d.table g None kept.whole
        by_level RepeatableRead = keeps-itself d.table kept.whole

        level : KeepsRanks d.table (unless_kept (d.works g).level d.table (gx g))
        level = by_level (d.works g).level

        fewer : (a b x k w : ℕ) → a ≡ b → x ≡ 0 + w → a + x ≤ b + (k + w)
        fewer a b x k w e f = omega arith

    complete-lowers : done.awaited ≡ [] → (b : Block) → Lowers d g (completes d (gx g) b)
    complete-lowers none block.Outside = let l = live-txn ((kept.tied g).awaits k is (none-left i k.awaited among)).0 in commit-lowers d g kept.whole l.0 l.1 l.2
    complete-lowers none (block.Open level) = answer-lowers none
    complete-lowers none block.Failed = answer-lowers none

    goes-lowers : (left : List Node) → done.awaited ≡ left → Lowers d g (goes_on d (gx g) left)
    goes-lowers [] e = complete-lowers e (session_of d (d.works g).session).state.block
    goes-lowers (x ∷ xs) e = rest-lowers d g

    pub taken-lowers : Lowers c g (takes_done c (gx g) i wrote count part k)
    taken-lowers = lowers-from c d g (takes_done c (gx g) i wrote count part k) refl d-others d-less (goes-lowers done.awaited refl)

  done-lowers : (i : Node) (cid : Cid) (wrote : Bool) (count : ℕ) (part : Part) (m : Option Command) → (c.works g).command ≡ m → Lowers c g (on_done c (gx g) i cid wrote count part m)
  done-lowers i cid wrote count part None is = rest-lowers c g
  done-lowers i cid wrote count part (Some k) is = by_test (is_awaited k i cid && fits_part k.stmt part) refl
    where
      by_test : (b : Bool) → (is_awaited k i cid && fits_part k.stmt part) ≡ b → Lowers c g (if b then takes_done c (gx g) i wrote count part k else rests c)
      by_test true e = taken-lowers i wrote count part k is (and-second (k.cid.0 == cid.0) (has i k.awaited) (and-first (is_awaited k i cid) (fits_part k.stmt part) e))
      by_test false e = rest-lowers c g

  failed-lowers : (i : Node) (cid : Cid) (why : Cause) (m : Option Command) → (c.works g).command ≡ m → Lowers c g (on_failed c (gx g) i cid why m)
  failed-lowers i cid why None is = rest-lowers c g
  failed-lowers i cid why (Some k) is = by_test (is_awaited k i cid) refl
    where
      by_test : (b : Bool) → is_awaited k i cid ≡ b → Lowers c g (if b then is_refused c (gx g) (on_abort c.table (gx g)) [] (reason_of why) else rests c)
      by_test true e = refused-lowers c g kept.whole (live-rank ((kept.tied g).awaits k is (none-left i k.awaited (and-second (k.cid.0 == cid.0) (has i k.awaited) e))).0) [] (reason_of why)
      by_test false e = rest-lowers c g

  pub answer-of-lowers : (i : Node) (fails : Bool) (r : Reply) → Lowers c g (on_answer c (gx g) i fails r)
  answer-of-lowers i fails (reply.Done cid wrote count part) = done-lowers i cid wrote count part (c.works g).command refl
  answer-of-lowers i fails (reply.Failed cid why) = failed-lowers i cid why (c.works g).command refl
  answer-of-lowers i fails reply.Prepared = status-lowers c g kept.whole i reply.Prepared fails
  answer-of-lowers i fails reply.Committed = status-lowers c g kept.whole i reply.Committed fails
  answer-of-lowers i fails reply.Jfault = status-lowers c g kept.whole i reply.Jfault fails
  answer-of-lowers i fails reply.Again = status-lowers c g kept.whole i reply.Again fails
  answer-of-lowers i fails reply.Restarted = status-lowers c g kept.whole i reply.Restarted fails
  answer-of-lowers i fails reply.Aborted = status-lowers c g kept.whole i reply.Aborted fails
  answer-of-lowers i fails reply.Forgotten = status-lowers c g kept.whole i reply.Forgotten fails

  -- A VICTIM
  pub victim-lowers : Lowers c g (cancels c (gx g))
  victim-lowers = cancel-ways (Lowers c g) c (gx g) (rest-lowers c g) (λ live busy. refused-lowers c g kept.whole (live-rank (live-stage (find_txn c.table (gx g)) live)) [] (Victim c.rounds))
    where
      by_phase : (p : Phase) → is_active p ≡ true → stage_in p ≡ Live
      by_phase p e = grind arith

      live-stage : (t : Option Txn) → is_live t ≡ true → stage t ≡ Live
      live-stage None e = absurd (cc)
      live-stage (Some t) e = by_phase t.phase e

-- MESSAGES, AND WHO GOES ON
module _ (script : Script) (c : Coord) (kept : Kept script c) where
  -- some transaction is nearer to its end, or nothing is sent
  abbrev pub SomeLowers : CoordTurn → Type 0
  SomeLowers turn = (g : ℕ) × Lowers c g turn

  rest-some : SomeLowers (rests c)
  rest-some = (0, rest-lowers c 0)

  pub message-lowers : (from : Node) (fails : Bool) (m : Message) → SomeLowers (on_message c from fails m)
  message-lowers from fails (message.Answer g r) = (g.0, answer-of-lowers script c kept g.0 from fails r)
  message-lowers from fails (message.Graph round graph) =
      graph-ways SomeLowers c from round graph rest-some (λ r. (0, record { touches = record { next = no-more c.table.next.0; others = λ h e. refl }; here = inl (refl, no-more (rank c 0)) }))
      (λ r a. (0, record { touches = record { next = no-more c.table.next.0; others = λ h e. refl }; here = inl (refl, no-more (rank c 0)) }))
  message-lowers from fails message.Up = rest-some
  message-lowers from fails (message.Exec g cid level x h y) = rest-some
  message-lowers from fails (message.Prepare g) = rest-some
  message-lowers from fails (message.Commit g) = rest-some
  message-lowers from fails (message.CommitPrepared g) = rest-some
  message-lowers from fails (message.Abort g) = rest-some
  message-lowers from fails (message.Forget g) = rest-some
  message-lowers from fails (message.Collect round) = rest-some

  pub resumption-lowers : (g : Gxid) → SomeLowers (resumes script c g (wait_of c.locks g) (work_of c g).waiting)
  resumption-lowers g = (g.0, resume-lowers script c g.0 kept.whole)

-- LINES
touches-from : (c d : Coord) (g : ℕ) (turn : CoordTurn) → c.table.next.0 ≤ d.table.next.0 → ((h : ℕ) → eqb h g ≡ false → rank d h ≡ rank c h) → Touches d g turn → Touches c g turn
touches-from c d g turn next others t = record { next = up _ _ _ next t.next; others = λ h e. t.others h e ∙ others h e }
  where
    up : (a b k : ℕ) → a ≤ b → b ≤ k → a ≤ k
    up a b k x y = omega arith

module _ (script : Script) (c : Coord) (whole : IsWhole c.table) where
  abbrev pub SomeTouches : CoordTurn → Type 0
  SomeTouches turn = (g : ℕ) × Touches c g turn

  same-touches : (turn : CoordTurn) → turn.coord.table ≡ c.table → turn.coord.works ≡ c.works → SomeTouches turn
  same-touches turn e f = (0, record { next = subst (λ t. c.table.next.0 ≤ t.next.0) (sym e) (no-more c.table.next.0); others = λ h x. both-ranks _ _ _ _ (ap (λ t. txn_rank (find_txn t (gx h))) e) (ap (λ w. work_rank (w h)) f) })

  -- a transaction begins
  module _ (s : SessionId) (level : Level) where
    abbrev begun_there : Coord
    begun_there = begins c s level

    begun-others : (h : ℕ) → eqb h c.table.next.0 ≡ false → rank begun_there h ≡ rank c h
    begun-others h e =
        both-ranks _ _ _ _ (ap txn_rank (append-at h c.table.txns c.table.next.0 new_txn whole.drawn ∙ ap (λ b. if b then Some new_txn else at_gxid h c.table.txns) e))
        (ap (λ b. work_rank (if b then new_work s level else c.works h)) e)

    begun-next : c.table.next.0 ≤ begun_there.table.next.0
    begun-next = one c.table.next.0
      where
        one : (a : ℕ) → a ≤ a + 1
        one a = omega arith

    begun-whole : IsWhole begun_there.table
    begun-whole = lines.begun-whole c.table whole

    begun-touches : (turn : CoordTurn) → Touches begun_there c.table.next.0 turn → SomeTouches turn
    begun-touches turn t = (c.table.next.0, touches-from c begun_there c.table.next.0 turn begun-next begun-others t)

  line-touches : (s : SessionId) (line : Stmt) (asked : LineStep) → SomeTouches (on_line script c s line asked)
  line-touches s line (step.Answer plain) = same-touches (on_line script c s line (step.Answer plain)) refl refl
  line-touches s line step.InFailedBlock = same-touches (on_line script c s line step.InFailedBlock) refl refl
  line-touches s line step.NotInBlock = same-touches (on_line script c s line step.NotInBlock) refl refl
  line-touches s line (step.BeginBlock level) = begun-touches s level (on_line script c s line (step.BeginBlock level)) (record { next = no-more (c.table.next.0 + 1); others = λ h e. refl })
  line-touches s line step.CommitBlock = ((session_of c s).transaction.0, commit-touches c (session_of c s).transaction.0 whole)
  line-touches s line step.RollbackBlock = let t = rolled-touches c (session_of c s).transaction.0 whole (answer_mark c s told.Rollback ∷ []) in ((session_of c s).transaction.0, record { next = t.next; others = t.others })
  line-touches s line (step.Command true) =
      let t = dispatch-touches script (begun_there s ReadCommitted) c.table.next.0 (begun-whole s ReadCommitted) line in
      begun-touches s ReadCommitted (on_line script c s line (step.Command true)) (record { next = t.next; others = t.others })
  line-touches s line (step.Command false) = ((session_of c s).transaction.0, dispatch-touches script c (session_of c s).transaction.0 whole line)

  end-touches : (s : SessionId) (b : Block) → SomeTouches (ends_in c s b)
  end-touches s (block.Open level) = let t = rolled-touches c (session_of c s).transaction.0 whole [] in ((session_of c s).transaction.0, record { next = t.next; others = t.others })
  end-touches s block.Failed = same-touches (ends_in c s block.Failed) refl refl
  end-touches s block.Outside = same-touches (ends_in c s block.Outside) refl refl

pub ending-touches : (script : Script) (c : Coord) (whole : IsWhole c.table) (s : SessionId) → SomeTouches script c whole (ends_in c s (session_of c s).state.block)
ending-touches script c whole s = end-touches script c whole s (session_of c s).state.block

pub starting-touches : (script : Script) (c : Coord) (whole : IsWhole c.table) (s : SessionId) (o : Option Stmt) → SomeTouches script c whole (starts script c s o)
starting-touches script c whole s None = same-touches script c whole (rests c) refl refl
starting-touches script c whole s (Some line) =
    let d : Coord = starts_line c s (line_step (session_of c s).state.block line) in
    let t = line-touches script d whole s line (line_step (session_of c s).state.block line) in
    (t.0, record { next = t.1.next; others = t.1.others })
