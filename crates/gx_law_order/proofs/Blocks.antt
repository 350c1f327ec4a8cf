-- Lines in a block, and all lines.
use Rattle.std.proofs.Common.{◌≡◌, ◌<◌, ◌≤◌, inl, inr, ℕ, ◌+◌, List, [], ◌∷◌, ◌++◌, Some, None, true, false, refl, sym, subst, ap, ◌∙◌, if◌then◌else◌, ◌||◌, arith, append-nil}
use Rattle.gx_lemmas.proofs.Numbers.{eqb-self}
use Rattle.gx_lemmas.proofs.Tests.{false-true}
use Rattle.gx_ids.specs.declared.ids.Cid.{Cid}
use Rattle.gx_ids.specs.declared.ids.Gxid.{Gxid}
use Rattle.gx_ids.specs.declared.ids.SessionId.{SessionId}
use Rattle.gx_tree.specs.declared.stmt.Level.{Level}
use Rattle.gx_tree.specs.declared.stmt.Level.TheVariants.{ReadCommitted}
use Rattle.gx_tree.specs.declared.stmt.Stmt.{Stmt}
use Rattle.gx_tree.specs.declared.stmt.Stmt.TheVariants as stmt
use Rattle.gx_dtx.specs.Nodes.{has}
use Rattle.gx_dtx.specs.Rules.{Turn, on_abort, on_commit}
use Rattle.gx_dtx.specs.declared.outcome.Outcome.{Outcome}
use Rattle.gx_dtx.specs.declared.outcome.Outcome.TheVariants as outcome
use Rattle.gx_script.specs.declared.Script.{Script}
use Rattle.gx_script.specs.Session.{after_line, block_after, line_step, pending_after}
use Rattle.gx_script.specs.declared.line_step.LineStep.{LineStep}
use Rattle.gx_script.specs.declared.line_step.LineStep.TheVariants as step
use Rattle.gx_script.specs.declared.line_step.Plain.TheVariants as plain
use Rattle.gx_script.specs.declared.state.Block.{Block}
use Rattle.gx_script.specs.declared.state.Block.TheVariants as block
use Rattle.gx_script.specs.declared.state.Pending.{Pending}
use Rattle.gx_script.specs.declared.state.Pending.TheVariants as pending
use Rattle.gx_store.specs.declared.answer.Refused.TheVariants as refused
use Rattle.gx_store.specs.declared.answer.StmtAnswer.{StmtAnswer}
use Rattle.gx_store.specs.declared.answer.StmtAnswer.TheVariants as told
use Rattle.gx_store.specs.declared.event.Event.TheVariants as event
use Rattle.gx_store.specs.declared.mark.Mark.{Mark}
use Rattle.gx_store.specs.declared.mark.Mark.TheVariants as mark
use Rattle.gx_store.specs.declared.run.Step.{Step}
use Rattle.gx_store.specs.Answers.{IsAnswer}
use Rattle.gx_store.specs.Lines.{Outside, InBlock, is_command, state_after, transaction_of}
use Rattle.gx_store.specs.Marks.{answer_count, is_committed, is_ended, is_sent, start_count, started_after}
use Rattle.gx_store.specs.Points.{Point, ends_in, marks_in, starts_in}
use Rattle.gx_rules.specs.AtCoordinator.{answer_at_commit, answer_mark, answers_at_once, begins, behind, commits, dispatches, follows, next_cid, next_line, on_line, rolls_back, starts, starts_line}
use Rattle.gx_rules.specs.Coordinators.{Command, Coord, Session, Work, no_work, session_of, work_of}
use Rattle.gx_law_order.proofs.Lines.{idle-none}
use Rattle.gx_law_order.specs.Past.{Past}
use Rattle.gx_law_order.specs.Sessions.{Kept, is_nothing_in, is_open_in}
use Rattle.gx_law_order.specs.Stages.{stage}
use Rattle.gx_law_order.proofs.Statuses.{Closes, Turned, commit-turns}
use Rattle.gx_law_order.specs.Scanned.{closes_block}
use Rattle.gx_law_order.specs.Rest.{EachMark, RestAnswer}
use Rattle.gx_law_order.specs.Standing.{IsSession, Owns, Roots, Stands, is_alone, is_busy, is_open, is_sound, state_in, under_way}
use Rattle.gx_law_order.proofs.AtLine.{AtLine, answered-now, at-calm, legal-abort, legal-answer, transaction-is}
use Rattle.gx_law_order.proofs.Awaited.{bare-all, none-awaited}
use Rattle.gx_law_order.proofs.Dispatch.{dispatch-does}
use Rattle.gx_law_order.proofs.Unsent.{Unsent}
use Rattle.gx_law_order.proofs.Others.{Fresh}
use Rattle.gx_law_order.proofs.Frame.{Does}
use Rattle.gx_law_order.proofs.Given.{Given}
use Rattle.gx_law_order.proofs.Outs.{abort-bare, bare-outs, commit-bare}
use Rattle.gx_law_order.proofs.Roots.{roots-command, roots-commit, roots-held-up}
use Rattle.gx_law_order.proofs.Said.{Said}
use Rattle.gx_law_order.proofs.Under.{Under, answered-self, closed-does, commit-does}
use Rattle.gx_law_order.proofs.Starting.{alone-does, at-once, at-zero, begin-does, ended, others, plus-none, session-now, st, started}
use Rattle.gx_rules.specs.Locks.{release_marks}
use Rattle.gx_store.specs.Refusals.{the_coordinator}
use Rattle.gx_law_order.proofs.Locked.{back-locks}

le-same : (a : ℕ) → a ≤ a
le-same a = omega arith

idle-is : (q : Pending) → is_nothing_in q ≡ true → q ≡ pending.Nothing
idle-is q e = grind arith

not-alone : (q : Block) → is_alone q pending.Nothing ≡ false
not-alone block.Outside = refl
not-alone (block.Open l) = refl
not-alone block.Failed = refl

is-sound : (q : Block) → is_sound q pending.Nothing ≡ true
is-sound block.Outside = refl
is-sound (block.Open l) = refl
is-sound block.Failed = refl

module _ (script : Script) (steps : List Step) (c : Coord) (k : Kept script c) (p : Past c (marks_in steps)) (fr : Fresh (marks_in steps) c.table.next.0) (number : c.table.next.0 ≡ start_count (marks_in steps) + 1) (s : SessionId) (all : IsSession script s steps c) (idle : is_nothing_in (session_of c s).state.pending ≡ true) (u : Unsent c (marks_in steps)) where
  abbrev y : Session
  y = session_of c s

  abbrev ms : List Mark
  ms = marks_in steps

  abbrev next : ℕ
  next = c.table.next.0

  abbrev moved : LineStep → Session
  moved asked = record y { lines = y.lines + 1; state = after_line y.state.block asked }

  module _ (line : Stmt) (is_next : next_line script c s ≡ Some line) where
    abbrev e : Rattle.gx_store.specs.declared.event.Event.Event
    e = event.Start s

    abbrev begun : Mark
    begun = mark.Start c.table.next s

    -- A LINE IN A BLOCK
    abbrev g : Gxid
    g = y.transaction

    own : (l : Level) → block.Open l ≡ y.state.block → Owns s (st script steps c k p fr number s all idle line is_next).1.commands ms next (block.Open l) g (work_of c g) × ((work_of c g).command ≡ None)
    own l eb =
        let o = (st script steps c k p fr number s all idle line is_next).1.owns (subst (λ q. is_busy q pending.Nothing ≡ true) eb refl) in
        (subst (λ q. Owns s (st script steps c k p fr number s all idle line is_next).1.commands ms next q g (work_of c g)) (sym eb) o.0, o.1)

    -- nothing of it waits
    free : (l : Level) → block.Open l ≡ y.state.block → (work_of c g).waiting ≡ None
    free l eb = (idle-none c s k (subst (λ q. is_open_in q ≡ true) eb refl) idle).1

    own-roots : (l : Level) → block.Open l ≡ y.state.block → Roots script s ms (block.Open l) pending.Nothing y.lines g (work_of c g)
    own-roots l eb = subst (λ q. Roots script s ms q pending.Nothing y.lines g (work_of c g)) (sym eb) ((st script steps c k p fr number s all idle line is_next).1.owns (subst (λ q. is_busy q pending.Nothing ≡ true) eb refl)).2

    at-own : (l : Level) → block.Open l ≡ y.state.block → AtLine script steps e s line y.lines (InBlock l (st script steps c k p fr number s all idle line is_next).1.commands) false (Some g) []
    at-own l eb =
        subst (λ q. AtLine script steps e s line y.lines (InBlock l (st script steps c k p fr number s all idle line is_next).1.commands) false q []) (own l eb).0.started
        (subst (λ q. AtLine script steps e s line y.lines (state_in q (st script steps c k p fr number s all idle line is_next).1.commands) false (started_after s None ms) []) (sym eb) (at-zero script steps c k p fr number s all idle line is_next))

    own-late : (l : Level) → block.Open l ≡ y.state.block → Owns s (st script steps c k p fr number s all idle line is_next).1.commands (ms ++ []) next (block.Open l) g (work_of c g)
    own-late l eb = subst (λ m. Owns s (st script steps c k p fr number s all idle line is_next).1.commands m next (block.Open l) g (work_of c g)) (sym (append-nil ms)) (own l eb).0

    under-own : (asked : LineStep) (l : Level) → block.Open l ≡ y.state.block → Under script steps c e (starts_line c s asked) s g (work_of c g) (moved asked) y.lines (InBlock l (st script steps c k p fr number s all idle line is_next).1.commands) false line []
    under-own asked l eb =
        record {
          work = refl;
          works = λ j h. refl;
          sessions = λ j. refl;
          home = (own l eb).0.home;
          its = refl;
          lines = refl;
          next = le-same next;
          drawn = (own l eb).0.drawn;
          whose = inl (ap (λ (i : SessionId). i.0) (own l eb).0.home);
          ends = (ended script steps c k p fr number s all idle line is_next);
          alone = (others script steps c k p fr number s all idle line is_next);
          at = at-own l eb;
          has = refl;
          running = (own-late l eb).running;
          of = tt;
          legal = λ later. tt;
          rests = λ later. tt;
        }

    transaction-now : (asked : LineStep) → (session_of (starts_line c s asked) s).transaction ≡ g
    transaction-now asked = ap (λ (z : Session). z.transaction) ((session-now script steps c k p fr number s all idle line is_next) asked)

    -- COMMIT
    module _ (l : Level) (eb : block.Open l ≡ y.state.block) (is : line ≡ stmt.Commit) where
      abbrev c1 : Coord
      c1 = starts_line c s step.CommitBlock

      abbrev turn : Turn
      turn = on_commit c.table g (work_of c g).writers

      closes-now : Turned c.table g.0 turn (λ a b o. Closes b o)
      closes-now = commit-turns c.table g.0 (work_of c g).writers k.whole ((k.placed s.0).free (subst (λ q. is_open_in q ≡ true) eb refl) idle)

      waits-does : Does script steps c e (follows c1 g turn outcome.Pending)
      waits-does =
          record {
            alters = record {
              s = s.0;
              g = g.0;
              x = moved step.CommitBlock;
              sessions = λ j. refl;
              works = λ j h. refl;
              next = le-same next;
              whose = inl (ap (λ (i : SessionId). i.0) (own l eb).0.home);
              of = tt;
              fresh = record { unended = λ h m. refl; unread = λ h m. refl; unstarted = λ h m. refl };
              alone = (others script steps c k p fr number s all idle line is_next);
              starts = (started script steps c k p fr number s all idle line is_next);
              stands = inl (
                (ended script steps c k p fr number s all idle line is_next),
                subst (λ q. Stands script s (ms ++ []) next (block_after q step.CommitBlock) pending.Commit (y.lines + 1) g (work_of c g)) eb
                    (record {
                      commands = (st script steps c k p fr number s all idle line is_next).1.commands;
                      answered = ap (λ i. i + 1) (at-own l eb).said.answered;
                      state = (at-own l eb).said.state;
                      begun = (at-own l eb).said.begun;
                      sound = refl;
                      owns = λ h. (own-late l eb, ((own l eb).1, is_next ∙ ap (λ q. Some q) is), roots-commit script s ms [] l y.lines g (work_of c g) (own-roots l eb));
                    }),
              );
              outs = bare-outs script (ms ++ []) _ (commit-bare c.table g (work_of c g).writers);
              owned = λ h. h;
              sent = bare-all (follows c1 g turn outcome.Pending).coord _ (commit-bare c.table g (work_of c g).writers);
              keeps = λ a i level q. inl q;
              orders = λ h. h;
              gathers = λ h. h;
            };
            legal = λ later. tt;
            rest = λ t later. tt;
          }

      ends-does : Does script steps c e (follows c1 g turn outcome.Committed)
      ends-does =
          commit-does script steps c e c1 s g (work_of c g) (moved step.CommitBlock) y.lines (InBlock l (st script steps c k p fr number s all idle line is_next).1.commands) false line [] (under-own step.CommitBlock l eb) turn refl
          (subst (λ q. Rattle.gx_store.specs.Lines.may_commit (InBlock l (st script steps c k p fr number s all idle line is_next).1.commands) q ≡ true) (sym is) refl) refl
          (subst (λ q. state_after (InBlock l (st script steps c k p fr number s all idle line is_next).1.commands) q r ≡ Outside) (sym is) refl)
          (λ later q. subst (λ z. IsAnswer script (point later) s (InBlock l (st script steps c k p fr number s all idle line is_next).1.commands) line z) (sym told-is) (subst (λ z. IsAnswer script (point later) s (InBlock l (st script steps c k p fr number s all idle line is_next).1.commands) z told.Commit) (sym is) (committed later)))
          (commit-bare c.table g (work_of c g).writers) (λ a i level q. absurd (none-awaited (work_of c g) a i level (own l eb).1 q))
          (λ t later. subst (λ z. RestAnswer script (point later) s z) (sym told-is) tt)
        where
          r : StmtAnswer
          r = answer_at_commit (work_of (starts_line c s step.CommitBlock) g) (session_of (starts_line c s step.CommitBlock) (work_of (starts_line c s step.CommitBlock) g).session).state.pending

          point : List Mark → Point
          point later = record { steps = steps; event = event.Start s; earlier = mark.Commit g ∷ []; later = later }

          told-is : answer_at_commit (work_of (starts_line c s step.CommitBlock) g) (session_of (starts_line c s step.CommitBlock) (work_of (starts_line c s step.CommitBlock) g).session).state.pending ≡ told.Commit
          told-is =
              ap (λ i. answer_at_commit (work_of c g) (session_of (starts_line c s step.CommitBlock) i).state.pending) (own l eb).0.home
              ∙ ap (λ (z : Session). answer_at_commit (work_of c g) z.state.pending) ((session-now script steps c k p fr number s all idle line is_next) step.CommitBlock)

          committed : (later : List Mark) → IsAnswer script (record { steps = steps; event = event.Start s; earlier = mark.Commit g ∷ []; later = later }) s (InBlock l (st script steps c k p fr number s all idle line is_next).1.commands) stmt.Commit told.Commit
          committed later =
              let a2 = at-calm script steps e s line y.lines (InBlock l (st script steps c k p fr number s all idle line is_next).1.commands) false (Some g) [] (mark.Commit g ∷ []) (at-own l eb) (tt, tt) in
              record {
                g = g;
                transaction = subst (λ z. transaction_of z s (ms ++ mark.Commit g ∷ []) ≡ Some g) a2.said.state (transaction-is script steps e s line y.lines (InBlock l (st script steps c k p fr number s all idle line is_next).1.commands) false (Some g) (mark.Commit g ∷ []) a2 later g refl refl);
                committed = ap (λ q. q || false) (eqb-self g.0);
              }

      by_outcome : (o : Outcome) → turn.out.outcome ≡ o → Closes (stage closes-now.now) o → Does script steps c e (follows c1 g turn o)
      by_outcome outcome.Pending q h = waits-does
      by_outcome outcome.Committed q h = ends-does
      by_outcome outcome.Decided q h = absurd h
      by_outcome (outcome.Refused i) q h = absurd h
      by_outcome outcome.Ended q h = absurd h

      close-does : Does script steps c e (commits c1 (session_of c1 s).transaction)
      close-does = subst (λ q. Does script steps c e (commits c1 q)) (sym (transaction-now step.CommitBlock)) (by_outcome turn.out.outcome refl closes-now.how)

    -- ROLLBACK
    back-does : (l : Level) → block.Open l ≡ y.state.block → line ≡ stmt.Rollback → Does script steps c e (rolls_back (starts_line c s step.RollbackBlock) (session_of (starts_line c s step.RollbackBlock) s).transaction (answer_mark (starts_line c s step.RollbackBlock) s told.Rollback ∷ []) (on_abort c.table (session_of (starts_line c s step.RollbackBlock) s).transaction))
    back-does l eb is =
        subst (λ q. Does script steps c e (rolls_back c1 q (answer_mark c1 s told.Rollback ∷ []) (on_abort c.table q))) (sym (transaction-now step.RollbackBlock))
        (closed-does script steps c e c1 s g (work_of c g) (moved step.RollbackBlock) y.lines (InBlock l (st script steps c k p fr number s all idle line is_next).1.commands) false line [] (under-own step.RollbackBlock l eb)
        (record (rolls_back c1 g (answer_mark c1 s told.Rollback ∷ []) (on_abort c.table g)) { marks = mark.Abort g ∷ answer_mark c1 s told.Rollback ∷ [] }) (release_marks the_coordinator c1.locks g) (back-locks c1.locks g) (moved step.RollbackBlock) block.Outside (λ j. refl) (λ j h. ap (λ q. if q then no_work else c.works j) h) refl
        (subst (λ q. block_after q step.RollbackBlock ≡ block.Outside) eb refl) refl refl refl (refl, (refl, tt)) legal (λ t later. (tt, (tt, tt))) said (abort-bare c.table g) (ap (λ (z : Work). z.command) (ap (λ q. if q then no_work else c.works g.0) (eqb-self g.0))) (λ a i level q. inr (ap (λ t. t || false) (eqb-self g.0))))
      where
        c1 : Coord
        c1 = starts_line c s step.RollbackBlock

        numbered : (session_of (starts_line c s step.RollbackBlock) s).lines ≡ y.lines + 1
        numbered = ap (λ (z : Session). z.lines) ((session-now script steps c k p fr number s all idle line is_next) step.RollbackBlock)

        a2 : AtLine script steps (event.Start s) s line y.lines (InBlock l (st script steps c k p fr number s all idle line is_next).1.commands) false (Some g) (mark.Abort g ∷ [])
        a2 = at-calm script steps e s line y.lines (InBlock l (st script steps c k p fr number s all idle line is_next).1.commands) false (Some g) [] (mark.Abort g ∷ []) (at-own l eb) (tt, tt)

        said : Said script s (ms ++ mark.Abort g ∷ answer_mark (starts_line c s step.RollbackBlock) s told.Rollback ∷ []) (y.lines + 1) Outside false (Some g)
        said =
            subst (λ q. Said script s (ms ++ mark.Abort g ∷ answer_mark (starts_line c s step.RollbackBlock) s told.Rollback ∷ []) (y.lines + 1) (state_after (InBlock l (st script steps c k p fr number s all idle line is_next).1.commands) q told.Rollback) false (Some g)) is
            (answered-now script steps e s line y.lines (InBlock l (st script steps c k p fr number s all idle line is_next).1.commands) false (Some g) (mark.Abort g ∷ []) a2 _ told.Rollback numbered)

        legal : (later : List Mark) → EachMark (Given script) steps (event.Start s) [] (mark.Abort g ∷ answer_mark (starts_line c s step.RollbackBlock) s told.Rollback ∷ []) later
        legal later = (
          λ q. legal-abort script steps e s line y.lines (InBlock l (st script steps c k p fr number s all idle line is_next).1.commands) false (Some g) [] (at-own l eb) (answer_mark (starts_line c s step.RollbackBlock) s told.Rollback ∷ later) g refl refl (own-late l eb).running (subst (λ z. Rattle.gx_store.specs.Legal.may_abort (InBlock l (st script steps c k p fr number s all idle line is_next).1.commands) z ≡ true) (sym is) refl) (answered-self s (session_of (starts_line c s step.RollbackBlock) s).lines told.Rollback later),
          (
            λ q. legal-answer script steps e s line y.lines (InBlock l (st script steps c k p fr number s all idle line is_next).1.commands) false (Some g) (mark.Abort g ∷ []) a2 later (session_of (starts_line c s step.RollbackBlock) s).lines told.Rollback numbered
                (subst (λ z. IsAnswer script (record { steps = steps; event = event.Start s; earlier = mark.Abort g ∷ []; later = later }) s (InBlock l (st script steps c k p fr number s all idle line is_next).1.commands) z told.Rollback) (sym is)
                (record {
                  g = g;
                  transaction = subst (λ z. transaction_of z s (ms ++ mark.Abort g ∷ []) ≡ Some g) a2.said.state (transaction-is script steps e s line y.lines (InBlock l (st script steps c k p fr number s all idle line is_next).1.commands) false (Some g) (mark.Abort g ∷ []) a2 later g refl refl);
                  aborted = ap (λ q. q || false) (eqb-self g.0);
                })),
            tt,
          ),
        )

    -- A COMMAND IN A BLOCK
    inside-does : (l : Level) → block.Open l ≡ y.state.block → is_command (InBlock l (st script steps c k p fr number s all idle line is_next).1.commands) line ≡ true → Does script steps c e (dispatches script (starts_line c s (step.Command false)) (session_of (starts_line c s (step.Command false)) s).transaction line)
    inside-does l eb cmd =
        subst (λ q. Does script steps c e (dispatches script (starts_line c s (step.Command false)) q line)) (sym (transaction-now (step.Command false)))
        (dispatch-does script steps e (λ A. tt) c (starts_line c s (step.Command false)) s g (moved (step.Command false)) y.lines (block.Open l) (st script steps c k p fr number s all idle line is_next).1.commands line [] (under-own (step.Command false) l eb)
        (subst (λ q. block_after q (step.Command false) ≡ block.Open l) eb refl) refl refl cmd (own-late l eb) (own l eb).1 (free l eb)
        (ap (λ i. let d : Cid = record { 0 = i + 1 } in d) (same-plus (st script steps c k p fr number s all idle line is_next).1.commands _ (sym (ap (λ q. (st script steps c k p fr number s all idle line is_next).1.commands + under_way q) (own l eb).1) ∙ (own l eb).0.counted refl)))
        (subst (λ m. Past (starts_line c s (step.Command false)) m) (sym (append-nil ms)) (record { committed = p.committed; ended = p.ended; dropped = p.dropped; latest = p.latest; drawn = p.drawn }))
        (subst (λ m. is_sent m g (next_cid (work_of c g)) ≡ false) (sym (append-nil ms)) (u.live g.0 ((k.placed s.0).free (subst (λ q. is_open_in q ≡ true) eb refl) idle) (next_cid (work_of c g)) (one-more (work_of c g).last))) roots (λ a i level q. none-awaited (work_of c g) a i level (own l eb).1 q) held_up)
      where
        command-any : (q : Stmt) → is_command (InBlock l (st script steps c k p fr number s all idle line is_next).1.commands) q ≡ is_command (InBlock ReadCommitted 0) q
        command-any (stmt.Begin v) = refl
        command-any stmt.Commit = refl
        command-any stmt.Rollback = refl
        command-any (stmt.Select q) = refl
        command-any (stmt.Insert t x) = refl
        command-any (stmt.Update t x z) = refl
        command-any (stmt.Delete t x) = refl
        command-any (stmt.Lock t m) = refl

        roots : (m : Command) (v : Work) (ns : List Mark) → m.stmt ≡ line → m.cid ≡ next_cid (work_of c g) → v.last ≡ (work_of c g).last + 1 → v.command ≡ Some m → v.waiting ≡ None → Roots script s ((ms ++ []) ++ ns) (block.Open l) pending.Command (y.lines + 1) g v
        roots m v ns same number last has out =
            subst (λ z. Roots script s (z ++ ns) (block.Open l) pending.Command (y.lines + 1) g v) (sym (append-nil ms))
            (roots-command script s ms ns l y.lines g (work_of c g) v m (own-roots l eb) (free l eb) (is_next ∙ ap (λ q. Some q) (sym same)) (ap (is_command (InBlock ReadCommitted 0)) same ∙ sym (command-any line) ∙ cmd) last has out (ap (λ (z : Cid). z.0) number))

        held_up : (v : Work) (ns : List Mark) → v.last ≡ (work_of c g).last → v.command ≡ None → v.waiting ≡ Some line → Roots script s ((ms ++ []) ++ ns) (block.Open l) pending.Command (y.lines + 1) g v
        held_up v ns last none has =
            subst (λ z. Roots script s (z ++ ns) (block.Open l) pending.Command (y.lines + 1) g v) (sym (append-nil ms))
            (roots-held-up script s ms ns l y.lines g (work_of c g) v line (own-roots l eb) (free l eb) is_next (sym (command-any line) ∙ cmd) last none has)

        same-plus : (a n : ℕ) → a + 0 ≡ n → a ≡ n
        same-plus a n h = omega arith

        one-more : (a : ℕ) → a < a + 1
        one-more a = omega arith

    -- EACH LINE
    simply : (b : Block) (asked : LineStep) (r : StmtAnswer) (l : Stmt) → b ≡ y.state.block → line ≡ l → pending_after asked ≡ pending.Nothing → (is_open (block_after b asked) ≡ true → b ≡ block_after b asked) → (is_open (block_after b asked) ≡ true → (is_command (InBlock ReadCommitted 0) l ≡ false) × (closes_block l ≡ false)) → ((later : List Mark) → IsAnswer script (record { steps = steps; event = e; earlier = []; later = later }) s (state_in b (st script steps c k p fr number s all idle line is_next).1.commands) l r) → state_after (state_in b (st script steps c k p fr number s all idle line is_next).1.commands) l r ≡ state_in (block_after b asked) (st script steps c k p fr number s all idle line is_next).1.commands → ((later : List Mark) → RestAnswer script (record { steps = steps; event = e; earlier = []; later = later }) s r) → Does script steps c e (answers_at_once (starts_line c s asked) s r)
    simply b asked r l eb el waiting same quiet is after rest =
        (at-once script steps c k p fr number s all idle line is_next) asked r (block_after b asked) waiting (ap (λ q. block_after q asked) (sym eb)) (λ h. sym eb ∙ same h) (λ h. (ap (is_command (InBlock ReadCommitted 0)) el ∙ (quiet h).0, ap closes_block el ∙ (quiet h).1))
        (λ later. subst (λ q. IsAnswer script (record { steps = steps; event = e; earlier = []; later = later }) s (state_in q (st script steps c k p fr number s all idle line is_next).1.commands) line r) eb (subst (λ q. IsAnswer script (record { steps = steps; event = e; earlier = []; later = later }) s (state_in b (st script steps c k p fr number s all idle line is_next).1.commands) q r) (sym el) (is later)))
        (subst (λ q. state_after (state_in q (st script steps c k p fr number s all idle line is_next).1.commands) line r ≡ state_in (block_after b asked) (st script steps c k p fr number s all idle line is_next).1.commands) eb (subst (λ q. state_after (state_in b (st script steps c k p fr number s all idle line is_next).1.commands) q r ≡ state_in (block_after b asked) (st script steps c k p fr number s all idle line is_next).1.commands) (sym el) after)) rest

    alone-line : (l : Stmt) → block.Outside ≡ y.state.block → line ≡ l → is_command Outside l ≡ true → Rattle.gx_store.specs.Legal.draws Outside l ≡ true → Does script steps c e (behind (begun ∷ []) (dispatches script (begins (starts_line c s (step.Command true)) s ReadCommitted) c.table.next l))
    alone-line l eb el cmd d =
        subst (λ q. Does script steps c e (behind (begun ∷ []) (dispatches script (begins (starts_line c s (step.Command true)) s ReadCommitted) c.table.next q))) el
        ((alone-does script steps c k p fr number s all idle line is_next) (u.unborn next (le-same next)) eb (ap (is_command Outside) el ∙ cmd) (ap (Rattle.gx_store.specs.Legal.draws Outside) el ∙ d))

    inside-line : (l : Level) (q : Stmt) → block.Open l ≡ y.state.block → line ≡ q → is_command (InBlock l (st script steps c k p fr number s all idle line is_next).1.commands) q ≡ true → Does script steps c e (dispatches script (starts_line c s (step.Command false)) (session_of (starts_line c s (step.Command false)) s).transaction q)
    inside-line l q eb el cmd =
        subst (λ z. Does script steps c e (dispatches script (starts_line c s (step.Command false)) (session_of (starts_line c s (step.Command false)) s).transaction z)) el
        (inside-does l eb (ap (is_command (InBlock l (st script steps c k p fr number s all idle line is_next).1.commands)) el ∙ cmd))

    line-does : (b : Block) (l : Stmt) → b ≡ y.state.block → line ≡ l → Does script steps c e (on_line script (starts_line c s (line_step b l)) s l (line_step b l))
    line-does block.Outside (stmt.Begin level) eb el = (begin-does script steps c k p fr number s all idle line is_next) level el eb
    line-does block.Outside stmt.Commit eb el = simply block.Outside (step.Answer plain.Commit) told.Commit stmt.Commit eb el refl (λ h. refl) (λ h. absurd (false-true h)) (λ later. tt) refl (λ later. tt)
    line-does block.Outside stmt.Rollback eb el = simply block.Outside (step.Answer plain.Rollback) told.Rollback stmt.Rollback eb el refl (λ h. refl) (λ h. absurd (false-true h)) (λ later. tt) refl (λ later. tt)
    line-does block.Outside (stmt.Lock t m) eb el = simply block.Outside step.NotInBlock (told.Refused refused.NotInBlock) (stmt.Lock t m) eb el refl (λ h. refl) (λ h. absurd (false-true h)) (λ later. tt) refl (λ later. tt)
    line-does block.Outside (stmt.Select q) eb el = alone-line (stmt.Select q) eb el refl refl
    line-does block.Outside (stmt.Insert t x) eb el = alone-line (stmt.Insert t x) eb el refl refl
    line-does block.Outside (stmt.Update t x z) eb el = alone-line (stmt.Update t x z) eb el refl refl
    line-does block.Outside (stmt.Delete t x) eb el = alone-line (stmt.Delete t x) eb el refl refl
    line-does (block.Open v) (stmt.Begin level) eb el = simply (block.Open v) (step.Answer plain.Begin) told.Begin (stmt.Begin level) eb el refl (λ h. refl) (λ h. (refl, refl)) (λ later. tt) refl (λ later. tt)
    line-does (block.Open v) stmt.Commit eb el = close-does v eb el
    line-does (block.Open v) stmt.Rollback eb el = back-does v eb el
    line-does (block.Open v) (stmt.Lock t m) eb el = inside-line v (stmt.Lock t m) eb el refl
    line-does (block.Open v) (stmt.Select q) eb el = inside-line v (stmt.Select q) eb el refl
    line-does (block.Open v) (stmt.Insert t x) eb el = inside-line v (stmt.Insert t x) eb el refl
    line-does (block.Open v) (stmt.Update t x z) eb el = inside-line v (stmt.Update t x z) eb el refl
    line-does (block.Open v) (stmt.Delete t x) eb el = inside-line v (stmt.Delete t x) eb el refl
    line-does block.Failed (stmt.Begin level) eb el = simply block.Failed step.InFailedBlock (told.Refused refused.InFailedBlock) (stmt.Begin level) eb el refl (λ h. refl) (λ h. absurd (false-true h)) (λ later. tt) refl (λ later. tt)
    line-does block.Failed stmt.Commit eb el = simply block.Failed (step.Answer plain.Rollback) told.Rollback stmt.Commit eb el refl (λ h. absurd (false-true h)) (λ h. absurd (false-true h)) (λ later. tt) refl (λ later. tt)
    line-does block.Failed stmt.Rollback eb el = simply block.Failed (step.Answer plain.Rollback) told.Rollback stmt.Rollback eb el refl (λ h. absurd (false-true h)) (λ h. absurd (false-true h)) (λ later. tt) refl (λ later. tt)
    line-does block.Failed (stmt.Lock t m) eb el = simply block.Failed step.InFailedBlock (told.Refused refused.InFailedBlock) (stmt.Lock t m) eb el refl (λ h. refl) (λ h. absurd (false-true h)) (λ later. tt) refl (λ later. tt)
    line-does block.Failed (stmt.Select q) eb el = simply block.Failed step.InFailedBlock (told.Refused refused.InFailedBlock) (stmt.Select q) eb el refl (λ h. refl) (λ h. absurd (false-true h)) (λ later. tt) refl (λ later. tt)
    line-does block.Failed (stmt.Insert t x) eb el = simply block.Failed step.InFailedBlock (told.Refused refused.InFailedBlock) (stmt.Insert t x) eb el refl (λ h. refl) (λ h. absurd (false-true h)) (λ later. tt) refl (λ later. tt)
    line-does block.Failed (stmt.Update t x z) eb el = simply block.Failed step.InFailedBlock (told.Refused refused.InFailedBlock) (stmt.Update t x z) eb el refl (λ h. refl) (λ h. absurd (false-true h)) (λ later. tt) refl (λ later. tt)
    line-does block.Failed (stmt.Delete t x) eb el = simply block.Failed step.InFailedBlock (told.Refused refused.InFailedBlock) (stmt.Delete t x) eb el refl (λ h. refl) (λ h. absurd (false-true h)) (λ later. tt) refl (λ later. tt)

    pub start-does : Does script steps c e (starts script c s (Some line))
    start-does = line-does y.state.block line refl refl

    pub start-idle : ends_in s steps ≡ 0
    start-idle = (st script steps c k p fr number s all idle line is_next).0

    pub start-counts : starts_in s steps ≡ Rattle.gx_store.specs.Marks.answer_count s ms
    start-counts = all.starts ∙ sym ((plus-none script steps c k p fr number s all idle line is_next) _ _ (st script steps c k p fr number s all idle line is_next).1.answered)
