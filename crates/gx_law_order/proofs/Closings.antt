-- Commits, refusals, commands sent out and answered: what each leaves.
use Rattle.std.proofs.Common.{◌≡◌, ◌≤◌, ◌<◌, inl, inr, ℕ, List, [], ◌++◌, Option, Some, None, Bool, true, false, refl, sym, subst, ap, ◌∙◌, if◌then◌else◌, arith, eqb}
use Rattle.std.proofs.lemmas.Bool.{eqb-true}
use Rattle.std.proofs.lemmas.List.{append_assoc}
use Rattle.std.specs.Prelude.{option_map}
use Rattle.gx_lemmas.proofs.Numbers.{eqb-self}
use Rattle.gx_ids.specs.declared.ids.Gxid.{Gxid}
use Rattle.gx_script.specs.declared.Script.{Script}
use Rattle.gx_tree.specs.declared.stmt.Level.{Level}
use Rattle.gx_tree.specs.declared.stmt.Level.TheVariants.{ReadCommitted, RepeatableRead}
use Rattle.gx_dtx.specs.Rules.{Turn, ends, on_abort, on_commit, with_ended, with_live}
use Rattle.gx_dtx.specs.Table.{Table, find_txn}
use Rattle.gx_dtx.specs.declared.outcome.Outcome.{Outcome}
use Rattle.gx_dtx.specs.declared.outcome.Outcome.TheVariants as outcome
use Rattle.gx_dtx.specs.declared.txn.Txn.{Txn}
use Rattle.gx_script.specs.Session.{after_done, block_after_done, block_after_refusal}
use Rattle.gx_script.specs.declared.state.Block.{Block}
use Rattle.gx_script.specs.declared.state.Pending.{Pending}
use Rattle.gx_script.specs.declared.state.Pending.TheVariants as pending
use Rattle.gx_store.specs.declared.answer.Refused.{Refused}
use Rattle.gx_store.specs.declared.mark.Mark.{Mark}
use Rattle.gx_store.specs.Marks.{is_committed}
use Rattle.gx_rules.specs.AtCoordinator.{answers, commits, follows, is_refused, unless_kept}
use Rattle.gx_rules.specs.Coordinators.{Command, Coord, CoordTurn, Session, Work, work_of}
use Rattle.gx_rules.specs.Maps.{with_at}
use Rattle.gx_rules.specs.Snapshots.{latest_number}
use Rattle.gx_law_order.specs.Seen.{AreEndedSeen}
use Rattle.gx_law_order.proofs.Ends.{at-runs, at-same, past-at}
use Rattle.gx_law_order.specs.Lists.{Each}
use Rattle.gx_law_order.proofs.Past.{Still, seen-append}
use Rattle.gx_law_order.specs.Past.{Past}
use Rattle.gx_tree.specs.declared.stmt.Stmt.{Stmt}
use Rattle.gx_law_order.proofs.Queued.{Queues, queue-stays, queued-by}
use Rattle.gx_law_order.specs.Sessions.{Kept, Placed, Tied, is_closing_in, is_live_in, is_nothing_in, is_open_in, is_said, is_working_in}
use Rattle.gx_law_order.specs.Stages.{IsWhole, Stage, is_running, stage, stage_of}
use Rattle.gx_law_order.proofs.Stages.{At, txn-at}
use Rattle.gx_law_order.specs.Standings.{gx}
use Rattle.gx_law_order.proofs.Statuses.{Closes, Falls, Turned, abort-turns, commit-turns}
use Rattle.gx_law_order.specs.Stages.Stage.{Closing, Dropped, Live}
use Rattle.gx_law_order.proofs.Turns.{Base, Good, base-kept, closed-good, falls-is, refused-good, same-sessions, same-works, stage-is, work-is, y-is}

-- sessions' states
closing-closed : (b : Block) (p : Pending) → is_closing_in b p ≡ true → is_open_in (block_after_done b p) ≡ false
closing-closed b p e = grind arith

refused-closed : (b : Block) (p : Pending) → is_nothing_in p ≡ false → is_open_in (block_after_refusal b p) ≡ false
refused-closed b p e = grind arith

-- a turn whose marks stand behind others
pub behind-good : {script : Script} (before ms : List Mark) (turn late : CoordTurn) → AreEndedSeen before ms → Good script (before ++ ms) turn → late.coord ≡ turn.coord → late.marks ≡ ms ++ turn.marks → Good script before late
behind-good {script = script} before ms turn late seen good same marks =
    record {
      kept = subst (Kept script) (sym same) good.kept;
      past = subst (λ c. Past c (before ++ late.marks)) (sym same) (subst (λ x. Past turn.coord x) (append_assoc before ms turn.marks ∙ ap (λ x. before ++ x) (sym marks)) good.past);
      seen = subst (λ x. AreEndedSeen before x) (sym marks) (seen-append before ms turn.marks seen good.seen);
    }

-- a change that keeps the stage
pub kept-stage : (f : Txn → Txn) → ((t : Txn) → (f t).phase ≡ t.phase) → (o : Option Txn) → stage (option_map f o) ≡ stage o
kept-stage f e None = refl
kept-stage f e (Some t) = ap Rattle.gx_law_order.specs.Stages.stage_in (e t)

abbrev pub set_live : Option Gxid → Txn → Txn
set_live x t = record t { live = x }

pub live-at : (d : Table) (g : ℕ) (x : Option Gxid) → IsWhole d → At d (with_live d (gx g) x) g (option_map (set_live x) (find_txn d (gx g)))
live-at d g x w = let a = txn-at d g (set_live x) w in record { whole = record { first = a.whole.first; apart = a.whole.apart; drawn = a.whole.drawn }; next = refl; finds = a.finds }

-- the transaction goes on, its stage as before
pub past-same : (c1 d : Coord) (before ns : List Mark) (g : ℕ) (now : Option Txn) → Past c1 before → d.table.next ≡ c1.table.next → ((h : ℕ) → find_txn d.table (gx h) ≡ (if eqb h g then now else find_txn c1.table (gx h))) → stage now ≡ stage_of c1 g → d.table.latest_ended ≡ c1.table.latest_ended → ((h : ℕ) → is_committed ns (gx h) ≡ false) → Past d (before ++ ns)
past-same c1 d before ns g now p n f same latest quiet =
    past-at c1 d before ns g now p n f (λ h e. quiet h) (subst (λ q. latest_number c1.table.latest_ended ≤ latest_number q) (sym latest) (le-refl (latest_number c1.table.latest_ended)))
    (subst (λ q. latest_number q < c1.table.next.0) (sym latest) p.drawn)
    (at-same c1 before ns p g (stage now) (latest_number d.table.latest_ended) (ap is_running same) (λ e. sym same ∙ e) (quiet g) (subst (λ q. latest_number c1.table.latest_ended ≤ latest_number q) (sym latest) (le-refl (latest_number c1.table.latest_ended))))
  where
    le-refl : (a : ℕ) → a ≤ a
    le-refl a = omega arith

module _ {script : Script} (c c1 : Coord) (g s : ℕ) (w1 : Work) (y : Session) (said : Stage) (k : Kept script c) (b : Base script c c1 g s w1 y said) (before : List Mark) (p : Past c1 before) where
  -- COMMIT of a transaction whose session waits for it
  pub commits-good : said ≡ Live → is_closing_in y.state.block y.state.pending ≡ true → ((m : Command) → w1.command ≡ Some m → (m.awaited ≡ [] → ⊥) → ⊥) → ((m : Command) → w1.command ≡ Some m → is_working_in y.state.pending ≡ true) → w1.waiting ≡ None → Good script before (commits c1 (gx g))
  commits-good live closing none working unqueued = by_outcome turn.out.outcome refl t.how
    where
      turn : Turn
      turn = on_commit c1.table (gx g) (work_of c1 (gx g)).writers

      t : Turned c1.table g turn (λ a b o. Closes b o)
      t = commit-turns c1.table g (work_of c1 (gx g)).writers b.whole1 (stage-is c c1 g s w1 y said k b ∙ live)

      waits : turn.out.outcome ≡ outcome.Pending → stage t.now ≡ Closing → Good script before (follows c1 (gx g) turn outcome.Pending)
      waits o e =
          record {
            kept = base-kept c c1 g s w1 y said k b _ t.now w1 y t.at.whole t.at.finds (same-works c c1 g s w1 y said k b) (same-sessions c c1 g s w1 y said k b) tied b.same_txn placed (queue-stays c1.locks.waits g w1.waiting b.queues1.here);
            past = past-at c1 _ before [] g t.now p t.at.next t.at.finds (λ h n. refl) (subst (λ q. latest_number c1.table.latest_ended ≤ latest_number q) (sym latest) (le-refl (latest_number c1.table.latest_ended)))
                (subst (λ q. latest_number q < c1.table.next.0) (sym latest) p.drawn)
                (at-runs c1 before [] p g (stage t.now) _ (ap is_running (stage-is c c1 g s w1 y said k b ∙ live)) (ap is_running e) refl (λ d. absurd (differ (sym e ∙ d))));
            seen = tt;
          }
        where
          le-refl : (a : ℕ) → a ≤ a
          le-refl a = omega arith

          differ : Closing ≡ Dropped → ⊥
          differ z = cc

          no-line : (o : Option Stmt) (l : Stmt) → o ≡ None → o ≡ Some l → ⊥
          no-line o l e f = cc

          never-live : Closing ≡ Live → ⊥
          never-live z = cc

          latest : turn.table.latest_ended ≡ c1.table.latest_ended
          latest = t.latest ∙ ap (λ q. with_ended (ends q) (gx g) c1.table.latest_ended) o

          here : (z : Session) → z ≡ y → Tied (stage t.now) g w1 z
          here z q = subst (λ x. Tied (stage t.now) g w1 x) (sym q) (record { live = λ l. absurd (never-live (sym e ∙ l)); closing = λ l. (b.same_txn, closing); awaits = λ m f r. absurd (none m f r); busy = λ m f. (ap is_said e, working m f); waits = λ l f. absurd (no-line w1.waiting l unqueued f) })

          tied : (z : Session) → z ≡ (if eqb w1.session.0 s then y else c.sessions w1.session.0) → Tied (stage t.now) g w1 z
          tied z q = here z (q ∙ ap (λ x. if x then y else c.sessions w1.session.0) (ap (λ x. eqb x s) b.home1 ∙ eqb-self s))

          placed : Placed s y (stage t.now) w1
          placed = record { stands = λ o. (inr e, b.home1); free = λ o n. absurd (not-both y.state.block y.state.pending closing n) }
            where
              not-both : (b : Block) (p : Pending) → is_closing_in b p ≡ true → is_nothing_in p ≡ true → ⊥
              not-both b p e f = grind arith

      by_outcome : (o : Outcome) → turn.out.outcome ≡ o → Closes (stage t.now) o → Good script before (follows c1 (gx g) turn o)
      by_outcome outcome.Pending q h = waits q h
      by_outcome outcome.Committed q h = closed-good c c1 g s w1 y said k b before p turn _ t (ap is_running live) q h (closing-closed y.state.block y.state.pending closing)
      by_outcome outcome.Decided q h = absurd h
      by_outcome (outcome.Refused i) q h = absurd h
      by_outcome outcome.Ended q h = absurd h

  -- a refusal
  pub refuses-good : said ≡ Live → (why : List Mark) (reason : Refused) → Each Still why → is_nothing_in y.state.pending ≡ false → Good script before (is_refused c1 (gx g) (on_abort c1.table (gx g)) why reason)
  refuses-good live why reason e waiting =
      refused-good c c1 g s w1 y said k b before p (on_abort c1.table (gx g)) _ why reason t (ap is_running live) (falls-is c c1 g s w1 y said k b before p (stage t.now) _ t.how) e (refused-closed y.state.block y.state.pending waiting)
    where
      t : Turned c1.table g (on_abort c1.table (gx g)) (λ a b o. Falls b o)
      t = abort-turns c1.table g b.whole1 (stage-is c c1 g s w1 y said k b ∙ live)

  -- an answer in a block
  pub answers-good : said ≡ Live → is_open_in y.state.block ≡ true → is_working_in y.state.pending ≡ true → (w : Work) → w.session.0 ≡ s → c1.works g ≡ w → w.waiting ≡ None → Good script before (answers c1 (gx g) w)
  answers-good live opened working w home same unqueued = by_level w.level
    where
      x : Session
      x = record y { state = after_done y.state }

      w2 : Work
      w2 = record w { command = None }

      stays-open : (q : Block) (r : Pending) → is_open_in q ≡ true → is_working_in r ≡ true → is_open_in (block_after_done q r) ≡ true
      stays-open q r e f = grind arith

      live-too : (q : Block) → is_open_in q ≡ true → is_live_in q pending.Nothing ≡ true
      live-too q e = grind arith

      set : (j : ℕ) → with_at c1.sessions w.session.0 (record (c1.sessions w.session.0) { state = after_done (c1.sessions w.session.0).state }) j ≡ (if eqb j s then x else c1.sessions j)
      set j = ap (λ i. if eqb j i then record (c1.sessions i) { state = after_done (c1.sessions i).state } else c1.sessions j) home ∙ ap (λ (z : Session). if eqb j s then record z { state = after_done z.state } else c1.sessions j) (y-is c c1 g s w1 y said k b)

      no-line : (o : Option Stmt) (l : Stmt) → o ≡ None → o ≡ Some l → ⊥
      no-line o l e f = cc

      here : (a : Stage) → a ≡ Live → (z : Session) → z ≡ (if eqb w2.session.0 s then x else c.sessions w2.session.0) → Tied a g w2 z
      here a l z q =
          subst (λ r. Tied a g w2 r) (sym (q ∙ ap (λ r. if r then x else c.sessions w2.session.0) (ap (λ r. eqb r s) home ∙ eqb-self s)))
          (record { live = λ m. (b.same_txn, live-too (after_done y.state).block (stays-open y.state.block y.state.pending opened working)); closing = λ m. absurd (differ (sym l ∙ m)); awaits = λ m f r. absurd (cc); busy = λ m f. absurd (cc); waits = λ o f. absurd (no-line w.waiting o unqueued f) })
        where
          differ : Live ≡ Closing → ⊥
          differ z = cc

      queues : Queues script c1.locks.waits c1.locks.waits g w2.waiting
      queues = queue-stays c1.locks.waits g w.waiting (queued-by g w1.waiting w.waiting c1.locks.waits (ap (λ (v : Work). v.waiting) (sym same ∙ work-is c c1 g s w1 y said k b)) b.queues1.here)

      sits : (a : Stage) → a ≡ Live → Placed s x a w2
      sits a l = record { stands = λ o. (inl l, home); free = λ o n. l }

      by_level : (level : Level) → Good script before (record (answers c1 (gx g) w) { coord = record (answers c1 (gx g) w).coord { table = unless_kept level c1.table (gx g) } })
      by_level ReadCommitted =
          let a = live-at c1.table g None b.whole1 in
          let st : stage (option_map (set_live None) (find_txn c1.table (gx g))) ≡ stage_of c1 g = kept-stage (set_live None) (λ t. refl) (find_txn c1.table (gx g)) in
          let now : stage (option_map (set_live None) (find_txn c1.table (gx g))) ≡ Live = st ∙ stage-is c c1 g s w1 y said k b ∙ live in
          record { kept = base-kept c c1 g s w1 y said k b _ _ w2 x a.whole a.finds (λ j. refl) set (here _ now) b.same_txn (sits _ now) queues; past = past-same c1 _ before _ g _ p refl a.finds st refl (λ h. refl); seen = tt }
      by_level RepeatableRead =
          let now : stage (find_txn c1.table (gx g)) ≡ Live = stage-is c c1 g s w1 y said k b ∙ live in
          record { kept = base-kept c c1 g s w1 y said k b _ (find_txn c1.table (gx g)) w2 x b.whole1 same_finds (λ j. refl) set (here _ now) b.same_txn (sits _ now) queues; past = past-same c1 _ before _ g (find_txn c1.table (gx g)) p refl same_finds refl refl (λ h. refl); seen = tt }
        where
          same_finds : (j : ℕ) → find_txn c1.table (gx j) ≡ (if eqb j g then find_txn c1.table (gx g) else find_txn c1.table (gx j))
          same_finds j = by_test (eqb j g) refl
            where
              by_test : (q : Bool) → eqb j g ≡ q → find_txn c1.table (gx j) ≡ (if q then find_txn c1.table (gx g) else find_txn c1.table (gx j))
              by_test true q = ap (λ i. find_txn c1.table (gx i)) (eqb-true j g q)
              by_test false q = refl
