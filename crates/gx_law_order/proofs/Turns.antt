-- What the coordinator's turns make of sessions, stages and marks.
use Rattle.std.proofs.Common.{◌≡◌, ◌≤◌, ◌<◌, ◌⊎◌, inl, inr, ℕ, List, [], ◌∷◌, ◌++◌, Option, None, Bool, true, false, refl, sym, subst, ap, ◌∙◌, if◌then◌else◌, ◌||◌, arith, eqb}
use Rattle.std.proofs.lemmas.Bool.{eqb-true}
use Rattle.std.proofs.lemmas.Bool.Decides.{nat_tests}
use Rattle.gx_lemmas.proofs.Tests.{true-false}
use Rattle.gx_lemmas.proofs.Numbers.{eqb-self}
use Rattle.gx_ids.specs.declared.ids.Gxid.{Gxid}
use Rattle.gx_script.specs.declared.Script.{Script}
use Rattle.gx_dtx.specs.Rules.{Turn, ends, with_ended}
use Rattle.gx_dtx.specs.Table.{Table, find_txn}
use Rattle.gx_dtx.specs.declared.outcome.Outcome.{Outcome}
use Rattle.gx_dtx.specs.declared.outcome.Outcome.TheVariants as outcome
use Rattle.gx_dtx.specs.declared.txn.Txn.{Txn}
use Rattle.gx_script.specs.Session.{after_done, after_refused}
use Rattle.gx_script.specs.declared.state.Block.TheVariants.{Outside}
use Rattle.gx_script.specs.declared.state.Pending.TheVariants as pending
use Rattle.gx_store.specs.declared.answer.Refused.{Refused}
use Rattle.gx_store.specs.declared.answer.StmtAnswer.TheVariants as told
use Rattle.gx_store.specs.declared.mark.Mark.{Mark}
use Rattle.gx_store.specs.declared.mark.Mark.TheVariants as mark
use Rattle.gx_store.specs.Marks.{is_aborted, is_committed}
use Rattle.gx_rules.specs.AtCoordinator.{answer_at_commit, answer_mark, is_committed as is_closed, is_refused, rolls_back}
use Rattle.gx_rules.specs.Coordinators.{Coord, CoordTurn, Session, Work, no_work, session_of, work_of}
use Rattle.gx_rules.specs.Maps.{with_at}
use Rattle.gx_rules.specs.Snapshots.{latest_number}
use Rattle.gx_law_order.specs.Seen.{AreEndedSeen}
use Rattle.gx_law_order.proofs.Ends.{AtOne, at-commits, at-falls, at-runs, greater-facts, past-at}
use Rattle.gx_law_order.proofs.Lists.{each_append}
use Rattle.gx_law_order.specs.Lists.{Each}
use Rattle.gx_law_order.proofs.Past.{Still, aborted-append, committed-append, running-drawn, seen-append, still-committed, still-seen}
use Rattle.gx_law_order.specs.Past.{Past}
use Rattle.gx_law_order.proofs.Sessions.{Change, kept-new, kept-own}
use Rattle.gx_law_order.specs.Sessions.{Kept, Placed, Tied, is_open_in, is_said}
use Rattle.gx_law_order.specs.Stages.{IsWhole, Stage, is_running, stage, stage_of}
use Rattle.gx_waits.specs.Claims.{without}
use Rattle.gx_law_order.proofs.Queued.{Queues, queue-released, queue-then}
use Rattle.gx_law_order.specs.Standings.{gx}
use Rattle.gx_law_order.proofs.Statuses.{Falls, Turned}
use Rattle.gx_law_order.specs.Stages.Stage.{Absent, Closing, Dropped, Finished, Live}
use Rattle.gx_law_order.proofs.Releases.{each-released}
use Rattle.gx_rules.specs.Locks.{release_marks}
use Rattle.gx_store.specs.Refusals.{the_coordinator}

-- what an event leaves
pub record Good (script : Script) (before : List Mark) (turn : CoordTurn) : Type 0 where
  pub kept : Kept script turn.coord
  pub past : Past turn.coord (before ++ turn.marks)
  pub seen : AreEndedSeen before turn.marks

-- on the way from c, the coordinator stands at c1: one transaction and its session have changed
pub record Base (script : Script) (c c1 : Coord) (g s : ℕ) (w1 : Work) (y : Session) (said : Stage) : Type 0 where
  pub whole1 : IsWhole c1.table
  pub now1 : Option Txn
  pub stage1 : stage now1 ≡ said
  pub finds1 : (j : ℕ) → find_txn c1.table (gx j) ≡ (if eqb j g then now1 else find_txn c.table (gx j))
  pub works1 : (j : ℕ) → c1.works j ≡ (if eqb j g then w1 else c.works j)
  pub sessions1 : (j : ℕ) → c1.sessions j ≡ (if eqb j s then y else c.sessions j)
  pub kind : (((c.sessions s).transaction.0 ≡ g) × ((c.works g).session.0 ≡ s)) ⊎ ((find_txn c.table (gx g) ≡ None) × ((c.sessions s).state.block ≡ Outside) × ((c.sessions s).state.pending ≡ pending.Nothing))
  pub same_txn : y.transaction.0 ≡ g
  pub home1 : w1.session.0 ≡ s
  pub queues1 : Queues script c.locks.waits c1.locks.waits g w1.waiting

pub merged : {A : Type 0} (b : Bool) (x y z v : A) → v ≡ (if b then y else z) → (if b then x else v) ≡ (if b then x else z)
merged true x y z v e = refl
merged false x y z v e = e

pub tied-none : (a : Stage) (g : ℕ) (x : Session) → is_said a ≡ false → Tied a g no_work x
tied-none a g x e = record { live = λ l. absurd (no-live a e l); closing = λ l. absurd (no-closing a e l); awaits = λ k f m. absurd (cc); busy = λ k f. absurd (cc); waits = λ l f. absurd (cc) }
  where
    no-live : (a : Stage) → is_said a ≡ false → a ≡ Live → ⊥
    no-live a e l = grind arith

    no-closing : (a : Stage) → is_said a ≡ false → a ≡ Closing → ⊥
    no-closing a e l = grind arith

pub not-open : (s : ℕ) (x : Session) (a : Stage) (w : Work) → is_open_in x.state.block ≡ false → Placed s x a w
not-open s x a w e = record { stands = λ o. absurd (true-false (is_open_in x.state.block) o e); free = λ o n. absurd (true-false (is_open_in x.state.block) o e) }

-- marks of one end
commit-elsewhere : (g : ℕ) (ns : List Mark) → Each Still ns → (h : ℕ) → eqb h g ≡ false → is_committed (mark.Commit (gx g) ∷ ns) (gx h) ≡ false
commit-elsewhere g ns e h n = ap (λ b. eqb g h || b) (still-committed ns (gx h) e) ∙ apart g h n
  where
    apart : (g h : ℕ) → eqb h g ≡ false → (eqb g h || false) ≡ false
    apart g h n = grind (arith, nat_tests)

commit-here : (g : ℕ) (ns : List Mark) → is_committed (mark.Commit (gx g) ∷ ns) (gx g) ≡ true
commit-here g ns = ap (λ b. b || is_committed ns (gx g)) (eqb-self g)

abort-here : (g : ℕ) (why ns : List Mark) → is_aborted (why ++ mark.Abort (gx g) ∷ ns) (gx g) ≡ true
abort-here g why ns = aborted-append why (mark.Abort (gx g) ∷ ns) (gx g) ∙ or-true (is_aborted why (gx g)) (ap (λ b. b || is_aborted ns (gx g)) (eqb-self g))
  where
    or-true : (a : Bool) {b : Bool} → b ≡ true → (a || b) ≡ true
    or-true true e = refl
    or-true false e = e

no-commit : (why ns : List Mark) (g h : ℕ) → is_committed why (gx h) ≡ false → Each Still ns → is_committed (why ++ mark.Abort (gx g) ∷ ns) (gx h) ≡ false
no-commit why ns g h e f = committed-append why (mark.Abort (gx g) ∷ ns) (gx h) ∙ ap (λ b. b || is_committed ns (gx h)) e ∙ still-committed ns (gx h) f

abort-seen : (before why ns : List Mark) (g : Gxid) → Each Still why → Each Still ns → AreEndedSeen before (why ++ mark.Abort g ∷ ns)
abort-seen before why ns g e f = seen-append before why (mark.Abort g ∷ ns) (still-seen before why e) (still-seen (before ++ why ++ mark.Abort g ∷ []) ns f)

module _ {script : Script} (c c1 : Coord) (g s : ℕ) (w1 : Work) (y : Session) (said : Stage) (k : Kept script c) (b : Base script c c1 g s w1 y said) where
  pub work-is : c1.works g ≡ w1
  work-is = b.works1 g ∙ ap (λ q. if q then w1 else c.works g) (eqb-self g)

  pub home-is : (c1.works g).session.0 ≡ s
  home-is = ap (λ (w : Work). w.session.0) work-is ∙ b.home1

  pub y-is : c1.sessions s ≡ y
  y-is = b.sessions1 s ∙ ap (λ q. if q then y else c.sessions s) (eqb-self s)

  pub stage-is : stage_of c1 g ≡ said
  stage-is = ap stage (b.finds1 g ∙ ap (λ q. if q then b.now1 else find_txn c.table (gx g)) (eqb-self g)) ∙ b.stage1

  pub session-set : (f : Session → Session) (j : ℕ) → with_at c1.sessions (c1.works g).session.0 (f (c1.sessions (c1.works g).session.0)) j ≡ (if eqb j s then f y else c1.sessions j)
  session-set f j =
      ap (λ i. if eqb j i then f (c1.sessions i) else c1.sessions j) home-is ∙ ap (λ x. if eqb j s then f x else c1.sessions j) y-is

  pub base-kept : (d : Coord) (now : Option Txn) (w : Work) (x : Session) → IsWhole d.table → ((j : ℕ) → find_txn d.table (gx j) ≡ (if eqb j g then now else find_txn c1.table (gx j))) → ((j : ℕ) → d.works j ≡ (if eqb j g then w else c1.works j)) → ((j : ℕ) → d.sessions j ≡ (if eqb j s then x else c1.sessions j)) → ((z : Session) → z ≡ (if eqb w.session.0 s then x else c.sessions w.session.0) → Tied (stage now) g w z) → x.transaction.0 ≡ g → Placed s x (stage now) w → Queues script c1.locks.waits d.locks.waits g w.waiting → Kept script d
  base-kept d now w x whole finds works sessions tied same placed queues = by_kind b.kind
    where
      ch : Change script c d g s now w x
      ch = record {
        whole = whole;
        finds = λ j. finds j ∙ merged (eqb j g) now b.now1 (find_txn c.table (gx j)) (find_txn c1.table (gx j)) (b.finds1 j);
        works = λ j. works j ∙ merged (eqb j g) w w1 (c.works j) (c1.works j) (b.works1 j);
        sessions = λ j. sessions j ∙ merged (eqb j s) x y (c.sessions j) (c1.sessions j) (b.sessions1 j);
        queues = queue-then c.locks.waits c1.locks.waits d.locks.waits g w1.waiting w.waiting b.queues1 queues;
      }

      by_kind : (((c.sessions s).transaction.0 ≡ g) × ((c.works g).session.0 ≡ s)) ⊎ ((find_txn c.table (gx g) ≡ None) × ((c.sessions s).state.block ≡ Outside) × ((c.sessions s).state.pending ≡ pending.Nothing)) → Kept script d
      by_kind (inl o) = kept-own c d g s now w x k ch o.0 o.1 (tied _ refl) same placed
      by_kind (inr n) = kept-new c d g s now w x k ch n.0 n.1 n.2 (tied _ refl) same placed

  -- the transaction has its mark, and nothing is known of it any more
  pub reset-kept : (d : Coord) (now : Option Txn) (x : Session) → IsWhole d.table → ((j : ℕ) → find_txn d.table (gx j) ≡ (if eqb j g then now else find_txn c1.table (gx j))) → ((j : ℕ) → d.works j ≡ (if eqb j g then no_work else c1.works j)) → ((j : ℕ) → d.sessions j ≡ (if eqb j s then x else c1.sessions j)) → is_said (stage now) ≡ false → x.transaction.0 ≡ g → is_open_in x.state.block ≡ false → d.locks.waits ≡ without (gx g) c1.locks.waits → Kept script d
  reset-kept d now x whole finds works sessions unsaid same closed waits =
      base-kept d now no_work x whole finds works sessions (λ z e. tied-none (stage now) g z unsaid) same (not-open s x (stage now) no_work closed)
      (subst (λ l. Queues script c1.locks.waits l g None) (sym waits) (queue-released c1.locks.waits g))

  pub same-sessions : (j : ℕ) → c1.sessions j ≡ (if eqb j s then y else c1.sessions j)
  same-sessions j = by_test (eqb j s) refl
    where
      by_test : (q : Bool) → eqb j s ≡ q → c1.sessions j ≡ (if q then y else c1.sessions j)
      by_test true q = ap c1.sessions (eqb-true j s q) ∙ y-is
      by_test false q = refl

  pub same-works : (j : ℕ) → c1.works j ≡ (if eqb j g then w1 else c1.works j)
  same-works j = by_test (eqb j g) refl
    where
      by_test : (q : Bool) → eqb j g ≡ q → c1.works j ≡ (if q then w1 else c1.works j)
      by_test true q = ap c1.works (eqb-true j g q) ∙ work-is
      by_test false q = refl

  pub drawn-here : is_running said ≡ true → g < c1.table.next.0
  drawn-here r = (running-drawn c1 g b.whole1 (ap is_running stage-is ∙ r)).1

  module _ (before : List Mark) (p : Past c1 before) where
    back-still : Each Still (release_marks the_coordinator c1.locks (gx g))
    back-still = each-released Still the_coordinator c1.locks (gx g) (λ claim. tt)

    -- a commit
    pub closed-good : (turn : Turn) (How : Stage → Stage → Outcome → Type 0) → (t : Turned c1.table g turn How) → is_running said ≡ true → turn.out.outcome ≡ outcome.Committed → ((stage t.now ≡ Finished) ⊎ (stage t.now ≡ Absent)) → is_open_in (after_done y.state).block ≡ false → Good script before (is_closed c1 (gx g) turn)
    closed-good turn How t r o how closed =
        let said_last : List Mark = answer_mark c1 (work_of c1 (gx g)).session (answer_at_commit (work_of c1 (gx g)) (session_of c1 (work_of c1 (gx g)).session).state.pending) ∷ release_marks the_coordinator c1.locks (gx g) in
        let still : Each Still said_last = (tt, back-still) in
        record {
          kept = reset-kept _ t.now (record y { state = after_done y.state }) t.at.whole t.at.finds (λ j. refl) (session-set (λ x. record x { state = after_done x.state })) unsaid b.same_txn closed refl;
          past = past-at c1 _ before (mark.Commit (gx g) ∷ said_last) g t.now p t.at.next t.at.finds (commit-elsewhere g said_last still) (subst (λ q. latest_number c1.table.latest_ended ≤ latest_number q) (sym t.latest) facts.0)
              (subst (λ q. latest_number q < c1.table.next.0) (sym t.latest) facts.2)
              (at-commits c1 before (mark.Commit (gx g) ∷ said_last) p g (stage t.now) _ b.whole1 (ap is_running stage-is ∙ r) stopped (commit-here g said_last) (subst (λ q. g ≤ latest_number q) (sym t.latest) (facts.1 (ap ends o))));
          seen = still-seen (before ++ mark.Commit (gx g) ∷ []) said_last still;
        }
      where
        facts : (latest_number c1.table.latest_ended ≤ latest_number (with_ended (ends turn.out.outcome) (gx g) c1.table.latest_ended)) × (ends turn.out.outcome ≡ true → g ≤ latest_number (with_ended (ends turn.out.outcome) (gx g) c1.table.latest_ended)) × (latest_number (with_ended (ends turn.out.outcome) (gx g) c1.table.latest_ended) < c1.table.next.0)
        facts = greater-facts (ends turn.out.outcome) g c1.table.latest_ended c1.table.next.0 p.drawn (λ e. drawn-here r)

        unsaid : is_said (stage t.now) ≡ false
        unsaid = by_how how
          where
            by_how : (stage t.now ≡ Finished) ⊎ (stage t.now ≡ Absent) → is_said (stage t.now) ≡ false
            by_how (inl e) = ap is_said e
            by_how (inr e) = ap is_said e

        stopped : is_running (stage t.now) ≡ false
        stopped = by_how how
          where
            by_how : (stage t.now ≡ Finished) ⊎ (stage t.now ≡ Absent) → is_running (stage t.now) ≡ false
            by_how (inl e) = ap is_running e
            by_how (inr e) = ap is_running e

    -- an abort: it is dropped, or gone everywhere at once
    abort-at : (turn : Turn) (How : Stage → Stage → Outcome → Type 0) → (t : Turned c1.table g turn How) → is_running said ≡ true → ((stage t.now ≡ Dropped) ⊎ ((stage t.now ≡ Absent) × (turn.out.outcome ≡ outcome.Ended))) → (ns : List Mark) → is_committed ns (gx g) ≡ false → is_aborted ns (gx g) ≡ true → AtOne c1.table.next.0 g (stage t.now) (before ++ ns) (latest_number turn.table.latest_ended)
    abort-at turn How t r how ns n a = by_how how
      where
        by_how : (stage t.now ≡ Dropped) ⊎ ((stage t.now ≡ Absent) × (turn.out.outcome ≡ outcome.Ended)) → AtOne c1.table.next.0 g (stage t.now) (before ++ ns) (latest_number turn.table.latest_ended)
        by_how (inl e) = at-runs c1 before ns p g (stage t.now) _ (ap is_running stage-is ∙ r) (ap is_running e) n (λ d. a)
        by_how (inr e) =
            at-falls c1 before ns p g (stage t.now) _ (ap is_running stage-is ∙ r) (ap is_running e.0) n (aborted-append before ns (gx g) ∙ or-true (is_aborted before (gx g)) a)
            (subst (λ q. g ≤ latest_number q) (sym t.latest) ((greater-facts (ends turn.out.outcome) g c1.table.latest_ended c1.table.next.0 p.drawn (λ e. drawn-here r)).1 (ap ends e.1)))
          where
            or-true : (a : Bool) {b : Bool} → b ≡ true → (a || b) ≡ true
            or-true true e = refl
            or-true false e = e

    abort-past : (d : Coord) (turn : Turn) (How : Stage → Stage → Outcome → Type 0) → (t : Turned c1.table g turn How) → d.table ≡ turn.table → is_running said ≡ true → ((stage t.now ≡ Dropped) ⊎ ((stage t.now ≡ Absent) × (turn.out.outcome ≡ outcome.Ended))) → (ns : List Mark) → ((h : ℕ) → is_committed ns (gx h) ≡ false) → is_aborted ns (gx g) ≡ true → Past d (before ++ ns)
    abort-past d turn How t same r how ns n a =
        past-at c1 d before ns g t.now p (ap (λ (q : Table). q.next) same ∙ t.at.next) (λ h. ap (λ (q : Table). find_txn q (gx h)) same ∙ t.at.finds h) (λ h e. n h)
        (subst (λ (q : Table). latest_number c1.table.latest_ended ≤ latest_number q.latest_ended) (sym same) (subst (λ q. latest_number c1.table.latest_ended ≤ latest_number q) (sym t.latest) facts.0))
        (subst (λ (q : Table). latest_number q.latest_ended < c1.table.next.0) (sym same) (subst (λ q. latest_number q < c1.table.next.0) (sym t.latest) facts.2))
        (subst (λ (q : Table). AtOne c1.table.next.0 g (stage t.now) (before ++ ns) (latest_number q.latest_ended)) (sym same) (abort-at turn How t r how ns (n g) a))
      where
        facts : (latest_number c1.table.latest_ended ≤ latest_number (with_ended (ends turn.out.outcome) (gx g) c1.table.latest_ended)) × (ends turn.out.outcome ≡ true → g ≤ latest_number (with_ended (ends turn.out.outcome) (gx g) c1.table.latest_ended)) × (latest_number (with_ended (ends turn.out.outcome) (gx g) c1.table.latest_ended) < c1.table.next.0)
        facts = greater-facts (ends turn.out.outcome) g c1.table.latest_ended c1.table.next.0 p.drawn (λ e. drawn-here r)

    unsaid-end : (a : Stage) (o : Outcome) → (a ≡ Dropped) ⊎ ((a ≡ Absent) × (o ≡ outcome.Ended)) → is_said a ≡ false
    unsaid-end a o (inl e) = ap is_said e
    unsaid-end a o (inr e) = ap is_said e.0

    pub refused-good : (turn : Turn) (How : Stage → Stage → Outcome → Type 0) (why : List Mark) (reason : Refused) → (t : Turned c1.table g turn How) → is_running said ≡ true → ((stage t.now ≡ Dropped) ⊎ ((stage t.now ≡ Absent) × (turn.out.outcome ≡ outcome.Ended))) → Each Still why → is_open_in (after_refused y.state).block ≡ false → Good script before (is_refused c1 (gx g) turn why reason)
    refused-good turn How why reason t r how e closed =
        let said_last : List Mark = answer_mark c1 (work_of c1 (gx g)).session (told.Refused reason) ∷ release_marks the_coordinator c1.locks (gx g) in
        let still : Each Still said_last = (tt, back-still) in
        record {
          kept = reset-kept _ t.now (record y { state = after_refused y.state }) t.at.whole t.at.finds (λ j. refl) (session-set (λ x. record x { state = after_refused x.state })) (unsaid-end (stage t.now) turn.out.outcome how) b.same_txn closed refl;
          past = abort-past _ turn How t refl r how (why ++ mark.Abort (gx g) ∷ said_last) (λ h. no-commit why said_last g h (still-committed why (gx h) e) still) (abort-here g why said_last);
          seen = abort-seen before why said_last (gx g) e still;
        }

    pub rolled-good : (turn : Turn) (How : Stage → Stage → Outcome → Type 0) (marks : List Mark) → (t : Turned c1.table g turn How) → is_running said ≡ true → ((stage t.now ≡ Dropped) ⊎ ((stage t.now ≡ Absent) × (turn.out.outcome ≡ outcome.Ended))) → Each Still marks → is_open_in y.state.block ≡ false → Good script before (rolls_back c1 (gx g) marks turn)
    rolled-good turn How marks t r how e closed =
        let all : Each Still (marks ++ release_marks the_coordinator c1.locks (gx g)) = each_append Still marks _ e back-still in
        record {
          kept = reset-kept _ t.now y t.at.whole t.at.finds (λ j. refl) same-sessions (unsaid-end (stage t.now) turn.out.outcome how) b.same_txn closed refl;
          past = abort-past _ turn How t refl r how _ (λ h. still-committed (marks ++ release_marks the_coordinator c1.locks (gx g)) (gx h) all) (abort-here g [] (marks ++ release_marks the_coordinator c1.locks (gx g)));
          seen = abort-seen before [] (marks ++ release_marks the_coordinator c1.locks (gx g)) (gx g) tt all;
        }

    pub falls-is : (a : Stage) (o : Outcome) → Falls a o → (a ≡ Dropped) ⊎ ((a ≡ Absent) × (o ≡ outcome.Ended))
    falls-is a outcome.Pending e = inl e
    falls-is a outcome.Ended e = inr (e, refl)
    falls-is a outcome.Decided e = absurd e
    falls-is a outcome.Committed e = absurd e
    falls-is a (outcome.Refused i) e = absurd e
