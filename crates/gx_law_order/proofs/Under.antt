-- A session's line under way in its transaction, and the marks with which it ends.
use Rattle.std.proofs.Common.{◌≡◌, ◌<◌, ◌≤◌, ◌⊎◌, inl, inr, ℕ, ◌+◌, List, [], ◌∷◌, ◌++◌, Option, Some, None, Bool, true, false, refl, sym, subst, ap, ◌∙◌, if◌then◌else◌, ◌||◌, arith, eqb}
use Rattle.std.proofs.lemmas.List.{append_assoc}
use Rattle.gx_lemmas.proofs.Numbers.{eqb-self}
use Rattle.gx_lemmas.proofs.Tests.{true-false}
use Rattle.gx_ids.specs.declared.ids.Cid.{Cid}
use Rattle.gx_ids.specs.declared.ids.Gxid.{Gxid}
use Rattle.gx_ids.specs.declared.ids.Node.{Node}
use Rattle.gx_ids.specs.declared.ids.SessionId.{SessionId}
use Rattle.gx_tree.specs.declared.stmt.Level.{Level}
use Rattle.gx_tree.specs.declared.stmt.Stmt.{Stmt}
use Rattle.gx_script.specs.declared.Script.{Script}
use Rattle.gx_dtx.specs.Rules.{Turn}
use Rattle.gx_script.specs.Session.{after_done, after_refused}
use Rattle.gx_script.specs.declared.state.Block.{Block}
use Rattle.gx_script.specs.declared.state.Block.TheVariants as block
use Rattle.gx_script.specs.declared.state.Pending.TheVariants as pending
use Rattle.gx_store.specs.declared.answer.Refused.{Refused}
use Rattle.gx_store.specs.declared.answer.StmtAnswer.{StmtAnswer}
use Rattle.gx_store.specs.declared.answer.StmtAnswer.TheVariants as told
use Rattle.gx_store.specs.declared.event.Event.{Event}
use Rattle.gx_store.specs.declared.mark.Mark.{Mark}
use Rattle.gx_store.specs.declared.mark.Mark.TheVariants as mark
use Rattle.gx_store.specs.declared.run.Step.{Step}
use Rattle.gx_store.specs.Answers.{IsAnswer}
use Rattle.gx_store.specs.Lines.{BlockState, Outside, cid_of, level_of, may_commit, state_after}
use Rattle.gx_store.specs.Marks.{is_aborted, is_answered, is_ended}
use Rattle.gx_store.specs.Points.{Point, ends_by, ends_in, marks_in, starts_by}
use Rattle.gx_store.specs.Refusals.{IsCause, the_coordinator, may_refuse}
use Rattle.gx_rules.specs.AtCoordinator.{answer_at_commit, behind, is_committed, is_refused, answer_mark}
use Rattle.gx_rules.specs.Coordinators.{Coord, CoordTurn, Session, Work, no_work, session_of, work_of}
use Rattle.gx_rules.specs.Maps.{with_at}
use Rattle.gx_law_order.proofs.Lists.{each_append}
use Rattle.gx_law_order.specs.Lists.{Each}
use Rattle.gx_law_order.proofs.Past.{aborted-append}
use Rattle.gx_law_order.specs.Alive.{HasAnswered}
use Rattle.gx_law_order.specs.Finish.{AreCommandsTold}
use Rattle.gx_law_order.specs.Rest.{EachMark, Rest, RestAnswer}
use Rattle.gx_law_order.specs.Standing.{Stands, is_alone, is_busy, is_sound, state_in}
use Rattle.gx_law_order.proofs.Answers.{may-abort-refusable, refused-is}
use Rattle.gx_law_order.proofs.AtLine.{AtLine, answered-now, at-calm, has_txn, legal-abort, legal-answer, legal-commit, transaction-is}
use Rattle.gx_law_order.proofs.Awaited.{IsAwaited, IsSettled, bare-all, own-none}
use Rattle.gx_law_order.proofs.Others.{IsOf, of-fresh}
use Rattle.gx_law_order.proofs.Frame.{Alters, Does}
use Rattle.gx_law_order.proofs.Gathers.{GathersIn, HeardNow}
use Rattle.gx_law_order.proofs.Given.{Given, marks-append}
use Rattle.gx_law_order.proofs.Outs.{CommandIs, IsBare, bare-outs}
use Rattle.gx_law_order.proofs.Said.{CalmFor, Said, said-calm}
use Rattle.gx_rules.specs.Locks.{release_marks}
use Rattle.gx_law_order.proofs.Locked.{LockMark, back-locks, lock-for, lock-given, lock-of, lock-rest}

-- the coordinator stands at c1, with these marks of the step so far: the line of session s is under way in transaction g
pub record Under (script : Script) (steps : List Step) (c : Coord) (e : Event) (c1 : Coord) (s : SessionId) (g : Gxid) (w : Work) (x : Session) (n : ℕ) (b : BlockState) (u : Bool) (line : Stmt) (earlier : List Mark) : Type 0 where
  pub work : work_of c1 g ≡ w
  pub works : (j : ℕ) → eqb j g.0 ≡ false → c1.works j ≡ c.works j
  pub sessions : (j : ℕ) → c1.sessions j ≡ (if eqb j s.0 then x else c.sessions j)
  pub home : w.session ≡ s
  pub its : x.transaction ≡ g
  pub lines : x.lines ≡ n + 1
  pub next : c.table.next.0 ≤ c1.table.next.0
  pub drawn : g.0 < c1.table.next.0
  pub whose : ((c.works g.0).session.0 ≡ s.0) ⊎ (c.table.next.0 ≤ g.0)
  pub ends : ends_in s steps + ends_by s e ≡ 0
  pub alone : (k : SessionId) → eqb k.0 s.0 ≡ false → (starts_by k e ≡ 0) × (ends_by k e ≡ 0)
  pub at : AtLine script steps e s line n b u (Some g) earlier
  pub has : has_txn b u ≡ true
  pub running : is_ended (marks_in steps ++ earlier) g ≡ false
  pub of : Each (IsOf s.0 g.0) earlier
  pub legal : (later : List Mark) → EachMark (Given script) steps e [] earlier later
  pub rests : (later : List Mark) → EachMark (Rest script) steps e [] earlier later

-- a session without a transaction
pub stands-closed : (script : Script) (k : SessionId) (ms : List Mark) (next : ℕ) (b : Block) (lines n : ℕ) (g : Gxid) (w : Work) (h : Option Gxid) → is_busy b pending.Nothing ≡ false → lines ≡ n → Said script k ms n (state_in b 0) false h → Stands script k ms next b pending.Nothing lines g w
stands-closed script k ms next b lines n g w h idle same said =
    record {
      commands = 0;
      answered = plus-none (answer-is said) same;
      state = said.state;
      begun = said.begun ∙ sym (not-alone b);
      sound = is-sound b;
      owns = λ f. absurd (true-false (is_busy b pending.Nothing) f idle);
    }
  where
    answer-is : Said script k ms n (state_in b 0) false h → Rattle.gx_store.specs.Marks.answer_count k ms ≡ n
    answer-is s = s.answered

    plus-none : {a : ℕ} → a ≡ n → lines ≡ n → a + 0 ≡ lines
    plus-none e f = omega arith

    not-alone : (q : Block) → is_alone q pending.Nothing ≡ false
    not-alone block.Outside = refl
    not-alone (block.Open l) = refl
    not-alone block.Failed = refl

    is-sound : (q : Block) → is_sound q pending.Nothing ≡ true
    is-sound block.Outside = refl
    is-sound (block.Open l) = refl
    is-sound block.Failed = refl

abort-last : (e : List Mark) (g : Gxid) → is_aborted (e ++ mark.Abort g ∷ []) g ≡ true
abort-last e g = aborted-append e (mark.Abort g ∷ []) g ∙ or-true (is_aborted e g) (ap (λ q. q || false) (eqb-self g.0))
  where
    or-true : (a : Bool) {b : Bool} → b ≡ true → (a || b) ≡ true
    or-true true e = refl
    or-true false e = e

aborts : (earlier why : List Mark) (g : Gxid) (ns : List Mark) → is_aborted (earlier ++ (why ++ mark.Abort g ∷ ns)) g ≡ true
aborts earlier why g ns =
    aborted-append earlier (why ++ mark.Abort g ∷ ns) g ∙ or-true (is_aborted earlier g) (aborted-append why (mark.Abort g ∷ ns) g ∙ or-true (is_aborted why g) (ap (λ q. q || is_aborted ns g) (eqb-self g.0)))
  where
    or-true : (a : Bool) {b : Bool} → b ≡ true → (a || b) ≡ true
    or-true true e = refl
    or-true false e = e

pub answered-self : (k : SessionId) (i : ℕ) (r : StmtAnswer) (later : List Mark) → is_answered k (mark.Answer k i r ∷ later) ≡ true
answered-self k i r later = ap (λ q. q || is_answered k later) (eqb-self k.0)

-- a refusal stands behind these marks of the step
pub refuse-legal : (script : Script) (steps : List Step) (e : Event) (s : SessionId) (g : Gxid) (n : ℕ) (b : BlockState) (u : Bool) (line : Stmt) (earlier : List Mark) → AtLine script steps e s line n b u (Some g) earlier → has_txn b u ≡ true → is_ended (marks_in steps ++ earlier) g ≡ false
    → (reason : Refused) → may_refuse b line reason ≡ true → (c1 : Coord) (home : SessionId) → home ≡ s → (session_of c1 home).lines ≡ n + 1 → (tail : List Mark) → Each LockMark tail
    → ((later : List Mark) → RestAnswer script (record { steps = steps; event = e; earlier = earlier ++ mark.Abort g ∷ []; later = later }) s (told.Refused reason) → IsCause (record { steps = steps; event = e; earlier = earlier ++ mark.Abort g ∷ []; later = later }) line (level_of b) g (cid_of b) reason)
    → (later : List Mark) → EachMark (Given script) steps e earlier (mark.Abort g ∷ answer_mark c1 home (told.Refused reason) ∷ tail) later
refuse-legal script steps e s g n b u line earlier at has running reason may c1 home same number tail locks cause later =
    subst (λ i. EachMark (Given script) steps e earlier (mark.Abort g ∷ mark.Answer i (session_of c1 i).lines r ∷ tail) later) (sym same) (
      λ q. legal-abort script steps e s line n b u (Some g) earlier at _ g has refl running (may-abort-refusable b line reason may) (answered-self s (session_of c1 s).lines r (tail ++ later)),
      (
        λ q. legal-answer script steps e s line n b u (Some g) (earlier ++ mark.Abort g ∷ []) at2 (tail ++ later) (session_of c1 s).lines r (ap (λ i. (session_of c1 i).lines) (sym same) ∙ number) (is (tail ++ later) q),
        lock-given script steps e _ tail later locks,
      ),
    )
  where
    r : StmtAnswer
    r = told.Refused reason

    at2 : AtLine script steps e s line n b u (Some g) (earlier ++ mark.Abort g ∷ [])
    at2 = at-calm script steps e s line n b u (Some g) earlier (mark.Abort g ∷ []) at (tt, tt)

    point : List Mark → Point
    point later = record { steps = steps; event = e; earlier = earlier ++ mark.Abort g ∷ []; later = later }

    is : (later : List Mark) → RestAnswer script (point later) s r → IsAnswer script (point later) s b line r
    is later q =
        refused-is script (point later) s b line reason may
        (record { kind = may; g = g; transaction = subst (λ z. Rattle.gx_store.specs.Lines.transaction_of z s (marks_in steps ++ (earlier ++ mark.Abort g ∷ [])) ≡ Some g) at2.said.state (transaction-is script steps e s line n b u (Some g) (earlier ++ mark.Abort g ∷ []) at2 later g has refl); aborted = abort-last earlier g; cause = cause later q })

module _ (script : Script) (steps : List Step) (c : Coord) (e : Event) (c1 : Coord) (s : SessionId) (g : Gxid) (w : Work) (x : Session) (n : ℕ) (b : BlockState) (u : Bool) (line : Stmt) (earlier : List Mark) (o : Under script steps c e c1 s g w x n b u line earlier) where
  pub x-is : session_of c1 s ≡ x
  x-is = o.sessions s.0 ∙ ap (λ q. if q then x else c.sessions s.0) (eqb-self s.0)

  pub home-is : (work_of c1 g).session ≡ s
  home-is = ap (λ (z : Work). z.session) o.work ∙ o.home

  pub lines-is : (session_of c1 (work_of c1 g).session).lines ≡ n + 1
  lines-is = ap (λ i. (session_of c1 i).lines) home-is ∙ ap (λ (z : Session). z.lines) x-is ∙ o.lines

  -- the session's line is answered by marks that stand behind the others, and nothing is known of its transaction any more
  plain-alters : (turn : CoordTurn) (y : Session) (B : Block) → ((j : ℕ) → turn.coord.sessions j ≡ (if eqb j s.0 then y else c.sessions j)) → ((j : ℕ) → eqb j g.0 ≡ false → turn.coord.works j ≡ c.works j) → turn.coord.table.next.0 ≡ c1.table.next.0 → y.state.block ≡ B → y.state.pending ≡ pending.Nothing → y.lines ≡ n + 1 → is_busy B pending.Nothing ≡ false
      → Each (IsOf s.0 g.0) turn.marks → Said script s (marks_in steps ++ (earlier ++ turn.marks)) (n + 1) (state_in B 0) false (Some g) → Each IsBare turn.outs → (turn.coord.works g.0).command ≡ None
      → ((k : Cid) (i : Node) (level : Level) → IsAwaited (c.works g.0) k i level → IsSettled (HeardNow steps e) (earlier ++ turn.marks) g k i) → Alters script steps c e (behind earlier turn)
  plain-alters turn y B sessions works next yb yp yl idle of said outs none over =
      record {
        s = s.0;
        g = g.0;
        x = y;
        sessions = sessions;
        works = works;
        next = subst (λ i. c.table.next.0 ≤ i) (sym next) o.next;
        whose = o.whose;
        of = each_append (IsOf s.0 g.0) earlier turn.marks o.of of;
        fresh = of-fresh s.0 g.0 turn.coord.table.next.0 (earlier ++ turn.marks) (subst (λ i. g.0 < i) (sym next) o.drawn) (each_append (IsOf s.0 g.0) earlier turn.marks o.of of);
        alone = o.alone;
        starts = o.at.starts ∙ sym yl;
        stands = inl (
          o.ends,
          subst (λ q. Stands script s (marks_in steps ++ (earlier ++ turn.marks)) turn.coord.table.next.0 q y.state.pending y.lines y.transaction (turn.coord.works y.transaction.0)) (sym yb)
              (subst (λ q. Stands script s (marks_in steps ++ (earlier ++ turn.marks)) turn.coord.table.next.0 B q y.lines y.transaction (turn.coord.works y.transaction.0)) (sym yp)
              (stands-closed script s (marks_in steps ++ (earlier ++ turn.marks)) turn.coord.table.next.0 B y.lines (n + 1) y.transaction (turn.coord.works y.transaction.0) (Some g) idle yl said)),
        );
        outs = bare-outs script (marks_in steps ++ (earlier ++ turn.marks)) turn.outs outs;
        owned = λ h. own-none g (turn.coord.works g.0) none;
        sent = bare-all turn.coord turn.outs outs;
        keeps = λ k i level a. inr (over k i level a);
        orders = λ h. subst (CommandIs script (marks_in steps ++ (earlier ++ turn.marks))) (sym none) tt;
        gathers = λ h. subst (GathersIn script (HeardNow steps e) g) (sym none) tt;
      }

  -- and its locks are given back
  closed-alters : (turn : CoordTurn) (tail : List Mark) → Each LockMark tail → (y : Session) (B : Block) → ((j : ℕ) → turn.coord.sessions j ≡ (if eqb j s.0 then y else c.sessions j)) → ((j : ℕ) → eqb j g.0 ≡ false → turn.coord.works j ≡ c.works j) → turn.coord.table.next.0 ≡ c1.table.next.0 → y.state.block ≡ B → y.state.pending ≡ pending.Nothing → y.lines ≡ n + 1 → is_busy B pending.Nothing ≡ false
      → Each (IsOf s.0 g.0) turn.marks → Said script s (marks_in steps ++ (earlier ++ turn.marks)) (n + 1) (state_in B 0) false (Some g) → Each IsBare turn.outs → (turn.coord.works g.0).command ≡ None
      → ((k : Cid) (i : Node) (level : Level) → IsAwaited (c.works g.0) k i level → IsSettled (HeardNow steps e) (earlier ++ turn.marks) g k i) → Alters script steps c e (behind earlier (record turn { marks = turn.marks ++ tail }))
  closed-alters turn tail locks y B sessions works next yb yp yl idle of said outs none over =
      plain-alters (record turn { marks = turn.marks ++ tail }) y B sessions works next yb yp yl idle (each_append (IsOf s.0 g.0) turn.marks tail of (lock-of s.0 g.0 tail locks))
      (subst (λ m. Said script s m (n + 1) (state_in B 0) false (Some g)) joined (said-calm script s (marks_in steps ++ (earlier ++ turn.marks)) tail (n + 1) (state_in B 0) false (Some g) said (lock-for s tail locks)))
      outs none (λ k i level a. settled k i (over k i level a))
    where
      joined : (marks_in steps ++ (earlier ++ turn.marks)) ++ tail ≡ marks_in steps ++ (earlier ++ (turn.marks ++ tail))
      joined = append_assoc (marks_in steps) (earlier ++ turn.marks) tail ∙ ap (λ m. marks_in steps ++ m) (append_assoc earlier turn.marks tail)

      settled : (k : Cid) (i : Node) → IsSettled (HeardNow steps e) (earlier ++ turn.marks) g k i → IsSettled (HeardNow steps e) (earlier ++ (turn.marks ++ tail)) g k i
      settled k i (inl h) = inl h
      settled k i (inr h) = inr (ap (λ m. is_aborted m g) (sym (append_assoc earlier turn.marks tail)) ∙ aborted-append (earlier ++ turn.marks) tail g ∙ or-true (is_aborted (earlier ++ turn.marks) g) (is_aborted tail g) h)
        where
          or-true : (a b : Bool) → a ≡ true → (a || b) ≡ true
          or-true a b h = grind arith

  -- what the marks of the turn say stands behind what was said
  with-marks : (turn : CoordTurn) → Alters script steps c e (behind earlier turn) → ((later : List Mark) → EachMark (Given script) steps e earlier turn.marks later) → (AreCommandsTold script steps → (later : List Mark) → EachMark (Rest script) steps e earlier turn.marks later)
      → Does script steps c e (behind earlier turn)
  with-marks turn alters legal rest =
      record {
        alters = alters;
        legal = λ later. marks-append (Given script) steps e [] earlier turn.marks later (o.legal (turn.marks ++ later)) (legal later);
        rest = λ t later. marks-append (Rest script) steps e [] earlier turn.marks later (o.rests (turn.marks ++ later)) (rest t later);
      }

  pub closed-does : (turn : CoordTurn) (tail : List Mark) → Each LockMark tail → (y : Session) (B : Block) → ((j : ℕ) → turn.coord.sessions j ≡ (if eqb j s.0 then y else c.sessions j)) → ((j : ℕ) → eqb j g.0 ≡ false → turn.coord.works j ≡ c.works j) → turn.coord.table.next.0 ≡ c1.table.next.0 → y.state.block ≡ B → y.state.pending ≡ pending.Nothing → y.lines ≡ n + 1 → is_busy B pending.Nothing ≡ false
      → Each (IsOf s.0 g.0) turn.marks → ((later : List Mark) → EachMark (Given script) steps e earlier turn.marks later) → (AreCommandsTold script steps → (later : List Mark) → EachMark (Rest script) steps e earlier turn.marks later) → Said script s (marks_in steps ++ (earlier ++ turn.marks)) (n + 1) (state_in B 0) false (Some g) → Each IsBare turn.outs → (turn.coord.works g.0).command ≡ None → ((k : Cid) (i : Node) (level : Level) → IsAwaited (c.works g.0) k i level → IsSettled (HeardNow steps e) (earlier ++ turn.marks) g k i) → Does script steps c e (behind earlier (record turn { marks = turn.marks ++ tail }))
  closed-does turn tail locks y B sessions works next yb yp yl idle of legal rest said outs none over =
      with-marks (record turn { marks = turn.marks ++ tail }) (closed-alters turn tail locks y B sessions works next yb yp yl idle of said outs none over)
      (λ later. marks-append (Given script) steps e earlier turn.marks tail later (legal (tail ++ later)) (lock-given script steps e (earlier ++ turn.marks) tail later locks))
      (λ t later. marks-append (Rest script) steps e earlier turn.marks tail later (rest t (tail ++ later)) (lock-rest script steps e (earlier ++ turn.marks) tail later locks))

  session-set : (f : Session → Session) (j : ℕ) → with_at c1.sessions (work_of c1 g).session.0 (f (session_of c1 (work_of c1 g).session)) j ≡ (if eqb j s.0 then f x else c.sessions j)
  session-set f j =
      ap (λ (i : SessionId). if eqb j i.0 then f (session_of c1 i) else c1.sessions j) home-is ∙ ap (λ z. if eqb j s.0 then f z else c1.sessions j) x-is ∙ past (eqb j s.0) (f x) (c1.sessions j) x (c.sessions j) (o.sessions j)
    where
      past : (q : Bool) (y z v t : Session) → z ≡ (if q then v else t) → (if q then y else z) ≡ (if q then y else t)
      past true y z v t h = refl
      past false y z v t h = h

  works-set : (v : Work) (j : ℕ) → eqb j g.0 ≡ false → with_at c1.works g.0 v j ≡ c.works j
  works-set v j h = ap (λ q. if q then v else c1.works j) h ∙ o.works j h

  reset-none : (v : Work) → v.command ≡ None → (with_at c1.works g.0 v g.0).command ≡ None
  reset-none v h = ap (λ (z : Work). z.command) (ap (λ q. if q then v else c1.works g.0) (eqb-self g.0)) ∙ h

  -- COMMITS
  pub commit-does : (turn : Turn) → turn.table.next.0 ≡ c1.table.next.0 → may_commit b line ≡ true → (after_done x.state).block ≡ block.Outside → state_after b line (answer_at_commit (work_of c1 g) (session_of c1 (work_of c1 g).session).state.pending) ≡ Outside
      → ((later : List Mark) → RestAnswer script (record { steps = steps; event = e; earlier = earlier ++ mark.Commit g ∷ []; later = later }) s (answer_at_commit (work_of c1 g) (session_of c1 (work_of c1 g).session).state.pending) → IsAnswer script (record { steps = steps; event = e; earlier = earlier ++ mark.Commit g ∷ []; later = later }) s b line (answer_at_commit (work_of c1 g) (session_of c1 (work_of c1 g).session).state.pending))
      → Each IsBare turn.out.outs → ((k : Cid) (i : Node) (level : Level) → IsAwaited (c.works g.0) k i level → HasAnswered (HeardNow steps e) i g k)
      → (AreCommandsTold script steps → (later : List Mark) → RestAnswer script (record { steps = steps; event = e; earlier = earlier ++ mark.Commit g ∷ []; later = later }) s (answer_at_commit (work_of c1 g) (session_of c1 (work_of c1 g).session).state.pending)) → Does script steps c e (behind earlier (is_committed c1 g turn))
  commit-does turn next may closed after told outs over trest =
      closed-does (record (is_committed c1 g turn) { marks = mark.Commit g ∷ answer_mark c1 (work_of c1 g).session r ∷ [] }) (release_marks the_coordinator c1.locks g) (back-locks c1.locks g) (record x { state = after_done x.state }) block.Outside (session-set (λ z. record z { state = after_done z.state })) (works-set no_work) next closed refl o.lines refl
      (refl, (ap (λ (i : SessionId). i.0) home-is, tt)) legal
      (λ t later. subst (λ i. EachMark (Rest script) steps e earlier (mark.Commit g ∷ mark.Answer i (session_of c1 i).lines r ∷ []) later) (sym home-is) (tt, (trest t later, tt)))
      (subst (λ i. Said script s (marks_in steps ++ (earlier ++ mark.Commit g ∷ mark.Answer i (session_of c1 i).lines r ∷ [])) (n + 1) Outside false (Some g)) (sym home-is) said) outs (reset-none no_work refl) (λ k i level a. inl (over k i level a))
    where
      r : StmtAnswer
      r = answer_at_commit (work_of c1 g) (session_of c1 (work_of c1 g).session).state.pending

      at2 : AtLine script steps e s line n b u (Some g) (earlier ++ mark.Commit g ∷ [])
      at2 = at-calm script steps e s line n b u (Some g) earlier (mark.Commit g ∷ []) o.at (tt, tt)

      number : (session_of c1 s).lines ≡ n + 1
      number = ap (λ (z : Session). z.lines) x-is ∙ o.lines

      said : Said script s (marks_in steps ++ (earlier ++ mark.Commit g ∷ mark.Answer s (session_of c1 s).lines r ∷ [])) (n + 1) Outside false (Some g)
      said =
          subst (λ q. Said script s (marks_in steps ++ (earlier ++ mark.Commit g ∷ mark.Answer s (session_of c1 s).lines r ∷ [])) (n + 1) q false (Some g)) after
          (subst (λ q. Said script s (marks_in steps ++ q) (n + 1) (state_after b line r) false (Some g)) (append_assoc earlier (mark.Commit g ∷ []) (mark.Answer s (session_of c1 s).lines r ∷ []))
          (answered-now script steps e s line n b u (Some g) (earlier ++ mark.Commit g ∷ []) at2 (session_of c1 s).lines r number))

      legal : (later : List Mark) → EachMark (Given script) steps e earlier (mark.Commit g ∷ answer_mark c1 (work_of c1 g).session r ∷ []) later
      legal later =
          subst (λ i. EachMark (Given script) steps e earlier (mark.Commit g ∷ mark.Answer i (session_of c1 i).lines r ∷ []) later) (sym home-is) (
            λ q. legal-commit script steps e s line n b u (Some g) earlier o.at _ g o.has refl o.running may (answered-self s (session_of c1 s).lines r later),
            (λ q. legal-answer script steps e s line n b u (Some g) (earlier ++ mark.Commit g ∷ []) at2 _ (session_of c1 s).lines r number (told later q), tt),
          )

  -- REFUSALS
  pub refuse-alters : (turn : Turn) (why : List Mark) (reason : Refused) (B : Block) → turn.table.next.0 ≡ c1.table.next.0 → (after_refused x.state).block ≡ B → is_busy B pending.Nothing ≡ false → state_after b line (told.Refused reason) ≡ state_in B 0 → Each (IsOf s.0 g.0) why → Each (CalmFor s) why → Each IsBare turn.out.outs
      → Alters script steps c e (behind earlier (is_refused c1 g turn why reason))
  refuse-alters turn why reason B next closed idle after of calm outs =
      subst (λ m. Alters script steps c e (behind earlier (record (is_refused c1 g turn why reason) { marks = m }))) (append_assoc why (mark.Abort g ∷ answer_mark c1 (work_of c1 g).session r ∷ []) (release_marks the_coordinator c1.locks g))
      (closed-alters (record (is_refused c1 g turn why reason) { marks = why ++ mark.Abort g ∷ answer_mark c1 (work_of c1 g).session r ∷ [] }) (release_marks the_coordinator c1.locks g) (back-locks c1.locks g) (record x { state = after_refused x.state }) B (session-set (λ z. record z { state = after_refused z.state })) (works-set no_work) next closed refl o.lines idle
      (each_append (IsOf s.0 g.0) why _ of (refl, (ap (λ (i : SessionId). i.0) home-is, tt)))
      (subst (λ i. Said script s (marks_in steps ++ (earlier ++ (why ++ mark.Abort g ∷ mark.Answer i (session_of c1 i).lines r ∷ []))) (n + 1) (state_in B 0) false (Some g)) (sym home-is) said) outs (reset-none no_work refl) (λ k i level a. inr (aborts earlier why g _)))
    where
      r : StmtAnswer
      r = told.Refused reason

      at2 : AtLine script steps e s line n b u (Some g) ((earlier ++ why) ++ mark.Abort g ∷ [])
      at2 = at-calm script steps e s line n b u (Some g) (earlier ++ why) (mark.Abort g ∷ []) (at-calm script steps e s line n b u (Some g) earlier why o.at calm) (tt, tt)

      number : (session_of c1 s).lines ≡ n + 1
      number = ap (λ (z : Session). z.lines) x-is ∙ o.lines

      joined : ((earlier ++ why) ++ mark.Abort g ∷ []) ++ mark.Answer s (session_of c1 s).lines r ∷ [] ≡ earlier ++ (why ++ mark.Abort g ∷ mark.Answer s (session_of c1 s).lines r ∷ [])
      joined = append_assoc (earlier ++ why) (mark.Abort g ∷ []) (mark.Answer s (session_of c1 s).lines r ∷ []) ∙ append_assoc earlier why (mark.Abort g ∷ mark.Answer s (session_of c1 s).lines r ∷ [])

      said : Said script s (marks_in steps ++ (earlier ++ (why ++ mark.Abort g ∷ mark.Answer s (session_of c1 s).lines r ∷ []))) (n + 1) (state_in B 0) false (Some g)
      said =
          subst (λ q. Said script s (marks_in steps ++ (earlier ++ (why ++ mark.Abort g ∷ mark.Answer s (session_of c1 s).lines r ∷ []))) (n + 1) q false (Some g)) after
          (subst (λ q. Said script s (marks_in steps ++ q) (n + 1) (state_after b line r) false (Some g)) joined
          (answered-now script steps e s line n b u (Some g) ((earlier ++ why) ++ mark.Abort g ∷ []) at2 (session_of c1 s).lines r number))

  pub refuse-does : (turn : Turn) (why : List Mark) (reason : Refused) (B : Block) → turn.table.next.0 ≡ c1.table.next.0 → may_refuse b line reason ≡ true → (after_refused x.state).block ≡ B → is_busy B pending.Nothing ≡ false → state_after b line (told.Refused reason) ≡ state_in B 0 → Each (IsOf s.0 g.0) why → Each (CalmFor s) why → is_ended (marks_in steps ++ (earlier ++ why)) g ≡ false
      → ((later : List Mark) → EachMark (Given script) steps e earlier why later)
      → ((later : List Mark) → RestAnswer script (record { steps = steps; event = e; earlier = (earlier ++ why) ++ mark.Abort g ∷ []; later = later }) s (told.Refused reason) → IsCause (record { steps = steps; event = e; earlier = (earlier ++ why) ++ mark.Abort g ∷ []; later = later }) line (level_of b) g (cid_of b) reason)
      → Each IsBare turn.out.outs → ((later : List Mark) → EachMark (Rest script) steps e earlier why later)
      → (AreCommandsTold script steps → (later : List Mark) → RestAnswer script (record { steps = steps; event = e; earlier = (earlier ++ why) ++ mark.Abort g ∷ []; later = later }) s (told.Refused reason)) → Does script steps c e (behind earlier (is_refused c1 g turn why reason))
  refuse-does turn why reason B next may closed idle after of calm running first cause outs wrest trest =
      with-marks (is_refused c1 g turn why reason) (refuse-alters turn why reason B next closed idle after of calm outs)
      (λ later. marks-append (Given script) steps e earlier why _ later (first _)
      (refuse-legal script steps e s g n b u line (earlier ++ why) (at-calm script steps e s line n b u (Some g) earlier why o.at calm) o.has running reason may c1 (work_of c1 g).session home-is lines-is (release_marks the_coordinator c1.locks g) (back-locks c1.locks g) cause later))
      (λ t later. marks-append (Rest script) steps e earlier why _ later (wrest _) (tt, (subst (λ i. RestAnswer script (record { steps = steps; event = e; earlier = (earlier ++ why) ++ mark.Abort g ∷ []; later = release_marks the_coordinator c1.locks g ++ later }) i (told.Refused reason)) (sym home-is) (trest t _), lock-rest script steps e _ (release_marks the_coordinator c1.locks g) later (back-locks c1.locks g))))
