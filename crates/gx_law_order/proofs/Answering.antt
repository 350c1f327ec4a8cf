-- What stands when a session's line is answered: every command that was sent out for it has come back.
use Rattle.std.proofs.Common.{◌≡◌, ◌⊎◌, inl, inr, ℕ, List, [], ◌∷◌, ◌++◌, Some, None, Bool, true, false, refl, sym, subst, ap, ◌∙◌, if◌then◌else◌, ◌||◌, eqb, append-nil}
use Rattle.std.proofs.lemmas.Bool.{eqb-true, or_left, or_right}
use Rattle.std.proofs.lemmas.List.{append_assoc}
use Rattle.gx_lemmas.proofs.Numbers.{eqb-self}
use Rattle.gx_ids.specs.declared.ids.SessionId.{SessionId}
use Rattle.gx_tree.specs.declared.stmt.Stmt.{Stmt}
use Rattle.gx_dtx.specs.Rules.{Turn}
use Rattle.gx_dtx.specs.Table.{find_txn}
use Rattle.gx_msg.specs.declared.message.Out.{Out}
use Rattle.gx_script.specs.declared.Script.{Script}
use Rattle.gx_script.specs.declared.state.SessionState.{SessionState}
use Rattle.gx_store.specs.declared.answer.Refused.{Refused}
use Rattle.gx_store.specs.declared.answer.StmtAnswer.{StmtAnswer}
use Rattle.gx_store.specs.declared.answer.StmtAnswer.TheVariants as told
use Rattle.gx_store.specs.declared.mark.Mark.{Mark}
use Rattle.gx_store.specs.declared.mark.Mark.TheVariants as mark
use Rattle.gx_store.specs.Lines.{BlockState, is_command}
use Rattle.gx_store.specs.Marks.{is_aborted, started_after}
use Rattle.gx_rules.specs.AtCoordinator.{answer_at_commit, answer_mark, answer_of_command, answers, is_committed as is_closed, is_refused, next_line, rolls_back}
use Rattle.gx_rules.specs.Coordinators.{Coord, CoordTurn, Session, Work, no_work, session_of, work_of}
use Rattle.gx_rules.specs.Maps.{with_at}
use Rattle.gx_law_order.proofs.Lists.{each_append}
use Rattle.gx_law_order.specs.Lists.{Each}
use Rattle.gx_law_order.proofs.Numbers.{NoStart}
use Rattle.gx_law_order.proofs.Past.{aborted-append}
use Rattle.gx_law_order.specs.Standings.{gx, waits_in}
use Rattle.gx_locks.specs.Locks.{Locks}
use Rattle.gx_rules.specs.Locks.{release_marks}
use Rattle.gx_store.specs.Refusals.{the_coordinator}
use Rattle.gx_law_order.proofs.Releases.{each-released}
use Rattle.gx_ids.specs.declared.ids.Gxid.{Gxid}

-- a mark that answers no line
abbrev pub NoAnswer : Mark → Type 0
NoAnswer (mark.Answer s n a) = ⊥
NoAnswer _ = Unit {0}

-- no answer to a command of it is awaited
abbrev pub IsRested : Work → Type 0
IsRested w = (i : ℕ) → waits_in w.command i ≡ false

-- `Gets i g n`: the event is the segment's answer to the transaction's command of this number
-- locks that are given back
back-calm : (locks : Locks) (g : Gxid) → Each NoStart (release_marks the_coordinator locks g)
back-calm locks g = each-released NoStart the_coordinator locks g (λ claim. tt)

back-quiet : (locks : Locks) (g : Gxid) → Each NoAnswer (release_marks the_coordinator locks g)
back-quiet locks g = each-released NoAnswer the_coordinator locks g (λ claim. tt)

module _ (script : Script) (c : Coord) (ms : List Mark) (Gets : ℕ → ℕ → ℕ → Type 0) (starts : ℕ → Type 0) where
  -- whatever the transaction's commands wait for comes with the event, and it isn't aborted
  pub record Settles (g : ℕ) : Type 0 where
    pub waits : (i : ℕ) → waits_in (c.works g).command i ≡ true → Gets i g (c.works g).last
    pub alive : is_aborted ms (gx g) ≡ false

  -- the session's line is no command
  pub record IsPlain (s : SessionId) : Type 0 where
    pub line : Stmt
    pub next : next_line script c s ≡ Some line
    pub plain : (state : BlockState) → is_command state line ≡ false
    pub starts_it : starts s.0

  -- a line may be answered so behind these marks of the event, which leaves these works
  abbrev pub MayAnswer : (ℕ → Work) → List Mark → SessionId → StmtAnswer → Type 0
  MayAnswer works earlier s (told.Refused reason) = Unit {0}
  MayAnswer works earlier s answer = ((g : ℕ) → started_after s None (ms ++ earlier) ≡ Some (gx g) → Settles g × IsRested (works g)) ⊎ IsPlain s

  abbrev pub MayAt : (ℕ → Work) → List Mark → Mark → Type 0
  MayAt works earlier (mark.Answer s n a) = MayAnswer works earlier s a
  MayAt works earlier m = Unit {0}

  abbrev pub MayAll : (ℕ → Work) → List Mark → List Mark → Type 0
  MayAll works earlier [] = Unit {0}
  MayAll works earlier (m ∷ ns) = MayAt works earlier m × MayAll works (earlier ++ m ∷ []) ns

  pub may-append : (works : ℕ → Work) (earlier xs ys : List Mark) → MayAll works earlier xs → MayAll works (earlier ++ xs) ys → MayAll works earlier (xs ++ ys)
  may-append works earlier [] ys e f = subst (λ b. MayAll works b ys) (append-nil earlier) f
  may-append works earlier (x ∷ xs) ys e f = (e.0, may-append works (earlier ++ x ∷ []) xs ys e.1 (subst (λ b. MayAll works b ys) (sym (append_assoc earlier (x ∷ []) xs)) f))

  none-one : (works : ℕ → Work) (earlier : List Mark) (m : Mark) → NoAnswer m → MayAt works earlier m
  none-one works earlier (mark.Answer s n a) e = absurd e
  none-one works earlier m e = tt

  pub none-may : (works : ℕ → Work) (earlier ns : List Mark) → Each NoAnswer ns → MayAll works earlier ns
  none-may works earlier [] e = tt
  none-may works earlier (m ∷ ns) e = (none-one works earlier m e.0, none-may works (earlier ++ m ∷ []) ns e.1)

  -- what becomes of the works and of the sessions
  abbrev pub WorksGo : (ℕ → Work) → List Mark → Type 0
  WorksGo works ns = (h i : ℕ) → waits_in (c.works h).command i ≡ true → ((waits_in (works h).command i ≡ true) × ((works h).last ≡ (c.works h).last)) ⊎ (is_aborted ns (gx h) ≡ true) ⊎ Gets i h (c.works h).last

  pub record Tidy (sessions : ℕ → Session) (earlier : List Mark) (turn : CoordTurn) : Type 0 where
    pub lines : (t : ℕ) → (turn.coord.sessions t).lines ≡ (sessions t).lines
    pub transaction : (t : ℕ) → (turn.coord.sessions t).transaction ≡ (sessions t).transaction
    pub marks : Each NoStart turn.marks
    pub works : WorksGo turn.coord.works turn.marks
    pub may : MayAll turn.coord.works earlier turn.marks

  -- ONE WORK
  same-go : (ns : List Mark) → WorksGo c.works ns
  same-go ns h i e = inl (e, refl)

  -- all works but one are as before
  pub one-go : (works : ℕ → Work) (ns : List Mark) (g : ℕ) → ((h : ℕ) → eqb h g ≡ false → works h ≡ c.works h) → ((i : ℕ) → waits_in (c.works g).command i ≡ true → ((waits_in (works g).command i ≡ true) × ((works g).last ≡ (c.works g).last)) ⊎ (is_aborted ns (gx g) ≡ true) ⊎ Gets i g (c.works g).last) → WorksGo works ns
  one-go works ns g others here h i e = by_test (eqb h g) refl
    where
      by_test : (b : Bool) → eqb h g ≡ b → ((waits_in (works h).command i ≡ true) × ((works h).last ≡ (c.works h).last)) ⊎ (is_aborted ns (gx h) ≡ true) ⊎ Gets i h (c.works h).last
      by_test true q =
          subst (λ j. ((waits_in (works j).command i ≡ true) × ((works j).last ≡ (c.works j).last)) ⊎ (is_aborted ns (gx j) ≡ true) ⊎ Gets i j (c.works j).last) (sym (eqb-true h g q))
          (here i (subst (λ j. waits_in (c.works j).command i ≡ true) (eqb-true h g q) e))
      by_test false q = inl (ap (λ (w : Work). waits_in w.command i) (others h q) ∙ e, ap (λ (w : Work). w.last) (others h q))

  -- SESSIONS
  lines-state : (f : ℕ → Session) (s t : ℕ) (x : SessionState) → (with_at f s (record (f s) { state = x }) t).lines ≡ (f t).lines
  lines-state f s t x = by_test (eqb t s) refl
    where
      by_test : (b : Bool) → eqb t s ≡ b → (if b then record (f s) { state = x } else f t).lines ≡ (f t).lines
      by_test true e = ap (λ j. (f j).lines) (sym (eqb-true t s e))
      by_test false e = refl

  txn-state : (f : ℕ → Session) (s t : ℕ) (x : SessionState) → (with_at f s (record (f s) { state = x }) t).transaction ≡ (f t).transaction
  txn-state f s t x = by_test (eqb t s) refl
    where
      by_test : (b : Bool) → eqb t s ≡ b → (if b then record (f s) { state = x } else f t).transaction ≡ (f t).transaction
      by_test true e = ap (λ j. (f j).transaction) (sym (eqb-true t s e))
      by_test false e = refl

  -- TURNS, from a coordinator on the way whose works but one are as before
  module _ (c1 : Coord) (g : ℕ) (others : (h : ℕ) → eqb h g ≡ false → c1.works h ≡ c.works h) (earlier : List Mark) where
    with-others : (w : Work) (h : ℕ) → eqb h g ≡ false → with_at c1.works g w h ≡ c.works h
    with-others w h e = ap (λ b. if b then w else c1.works h) e ∙ others h e

    rested : (w : Work) → w.command ≡ None → IsRested (with_at c1.works g w g)
    rested w e i = ap (λ q. waits_in (if q then w else c1.works g).command i) (eqb-self g) ∙ ap (λ o. waits_in o i) e

    -- its line is answered
    abbrev pub HomeSettles : List Mark → Type 0
    HomeSettles before = (h : ℕ) → started_after (work_of c1 (gx g)).session None (ms ++ before) ≡ Some (gx h) → Settles h × (h ≡ g)

    pub answer-may : (works : ℕ → Work) (before : List Mark) (a : StmtAnswer) → HomeSettles before → IsRested (works g) → MayAnswer works before (work_of c1 (gx g)).session a
    answer-may works before (told.Refused reason) s r = tt
    answer-may works before told.Begin s r = inl (λ h e. let y = s h e in (y.0, subst (λ j. IsRested (works j)) (sym y.1) r))
    answer-may works before told.Commit s r = inl (λ h e. let y = s h e in (y.0, subst (λ j. IsRested (works j)) (sym y.1) r))
    answer-may works before told.Rollback s r = inl (λ h e. let y = s h e in (y.0, subst (λ j. IsRested (works j)) (sym y.1) r))
    answer-may works before told.Locked s r = inl (λ h e. let y = s h e in (y.0, subst (λ j. IsRested (works j)) (sym y.1) r))
    answer-may works before (told.Inserted x) s r = inl (λ h e. let y = s h e in (y.0, subst (λ j. IsRested (works j)) (sym y.1) r))
    answer-may works before (told.Updated x) s r = inl (λ h e. let y = s h e in (y.0, subst (λ j. IsRested (works j)) (sym y.1) r))
    answer-may works before (told.Deleted x) s r = inl (λ h e. let y = s h e in (y.0, subst (λ j. IsRested (works j)) (sym y.1) r))
    answer-may works before (told.Rows x) s r = inl (λ h e. let y = s h e in (y.0, subst (λ j. IsRested (works j)) (sym y.1) r))

    pub closed-tidy : (turn : Turn) → Settles g → HomeSettles (earlier ++ mark.Commit (gx g) ∷ []) → Tidy c1.sessions earlier (is_closed c1 (gx g) turn)
    closed-tidy turn s home =
        record {
          lines = λ t. lines-state c1.sessions (work_of c1 (gx g)).session.0 t _;
          transaction = λ t. txn-state c1.sessions (work_of c1 (gx g)).session.0 t _;
          marks = (tt, (tt, back-calm c1.locks (gx g)));
          works = one-go _ (is_closed c1 (gx g) turn).marks g (with-others no_work) (λ i e. inr (inr (s.waits i e)));
          may = (tt, (answer-may (is_closed c1 (gx g) turn).coord.works (earlier ++ mark.Commit (gx g) ∷ []) (answer_at_commit (work_of c1 (gx g)) (session_of c1 (work_of c1 (gx g)).session).state.pending) home (rested no_work refl), none-may (is_closed c1 (gx g) turn).coord.works _ (release_marks the_coordinator c1.locks (gx g)) (back-quiet c1.locks (gx g))));
        }

    abort-told : (why rest : List Mark) → is_aborted (why ++ mark.Abort (gx g) ∷ rest) (gx g) ≡ true
    abort-told why rest = aborted-append why (mark.Abort (gx g) ∷ rest) (gx g) ∙ or_right (is_aborted why (gx g)) (eqb g g || is_aborted rest (gx g)) (or_left (eqb g g) (is_aborted rest (gx g)) (eqb-self g))

    pub refused-tidy : (turn : Turn) (why : List Mark) (reason : Refused) → Each NoStart why → Each NoAnswer why → Tidy c1.sessions earlier (is_refused c1 (gx g) turn why reason)
    refused-tidy turn why reason n a =
        record {
          lines = λ t. lines-state c1.sessions (work_of c1 (gx g)).session.0 t _;
          transaction = λ t. txn-state c1.sessions (work_of c1 (gx g)).session.0 t _;
          marks = each_append NoStart why _ n (tt, (tt, back-calm c1.locks (gx g)));
          works = one-go _ (is_refused c1 (gx g) turn why reason).marks g (with-others no_work) (λ i e. inr (inl (abort-told why (answer_mark c1 (work_of c1 (gx g)).session (told.Refused reason) ∷ release_marks the_coordinator c1.locks (gx g)))));
          may = may-append (is_refused c1 (gx g) turn why reason).coord.works earlier why _ (none-may (is_refused c1 (gx g) turn why reason).coord.works earlier why a) (tt, (tt, none-may (is_refused c1 (gx g) turn why reason).coord.works _ (release_marks the_coordinator c1.locks (gx g)) (back-quiet c1.locks (gx g))));
        }

    pub rolled-tidy : (turn : Turn) (marks : List Mark) → Each NoStart marks → MayAll (rolls_back c1 (gx g) marks turn).coord.works (earlier ++ mark.Abort (gx g) ∷ []) marks → Tidy c1.sessions earlier (rolls_back c1 (gx g) marks turn)
    rolled-tidy turn marks n a =
        record { lines = λ t. refl; transaction = λ t. refl; marks = (tt, each_append NoStart marks _ n (back-calm c1.locks (gx g))); works = one-go _ (mark.Abort (gx g) ∷ marks ++ release_marks the_coordinator c1.locks (gx g)) g (with-others no_work) (λ i e. inr (inl (abort-told [] (marks ++ release_marks the_coordinator c1.locks (gx g))))); may = (tt, may-append (rolls_back c1 (gx g) marks turn).coord.works (earlier ++ mark.Abort (gx g) ∷ []) marks _ a (none-may (rolls_back c1 (gx g) marks turn).coord.works _ (release_marks the_coordinator c1.locks (gx g)) (back-quiet c1.locks (gx g)))) }

    pub answered-tidy : Settles g → HomeSettles earlier → Tidy c1.sessions earlier (answers c1 (gx g) (work_of c1 (gx g)))
    answered-tidy s home =
        record {
          lines = λ t. lines-state c1.sessions (work_of c1 (gx g)).session.0 t _;
          transaction = λ t. txn-state c1.sessions (work_of c1 (gx g)).session.0 t _;
          marks = (tt, tt);
          works = one-go _ (answers c1 (gx g) (work_of c1 (gx g))).marks g (with-others (record (work_of c1 (gx g)) { command = None })) (λ i e. inr (inr (s.waits i e)));
          may = (answer-may (answers c1 (gx g) (work_of c1 (gx g))).coord.works earlier (answer_of_command (work_of c1 (gx g)).command) home (rested (record (work_of c1 (gx g)) { command = None }) refl), tt);
        }

    -- the works as they stand on the way
    pub rests-tidy : (table : Rattle.gx_dtx.specs.Table.Table) (outs : List Out) (ns : List Mark) → Each NoStart ns → Each NoAnswer ns → ((i : ℕ) → waits_in (c.works g).command i ≡ true → ((waits_in (c1.works g).command i ≡ true) × ((c1.works g).last ≡ (c.works g).last)) ⊎ Gets i g (c.works g).last) → Tidy c1.sessions earlier (record { coord = record c1 { table = table }; marks = ns; outs = outs; item = None })
    rests-tidy table outs ns n a here =
        record { lines = λ t. refl; transaction = λ t. refl; marks = n; works = one-go c1.works ns g others (λ i e. either i (here i e)); may = none-may c1.works earlier ns a }
      where
        either : (i : ℕ) → ((waits_in (c1.works g).command i ≡ true) × ((c1.works g).last ≡ (c.works g).last)) ⊎ Gets i g (c.works g).last → ((waits_in (c1.works g).command i ≡ true) × ((c1.works g).last ≡ (c.works g).last)) ⊎ (is_aborted ns (gx g) ≡ true) ⊎ Gets i g (c.works g).last
        either i (inl x) = inl x
        either i (inr x) = inr (inr x)
