-- A session whose line is under way hears of its transaction.
use Rattle.std.proofs.Common.{◌≡◌, ◌<◌, ◌≤◌, ◌⊎◌, inl, inr, ℕ, ◌+◌, List, [], ◌∷◌, ◌++◌, Some, None, Bool, true, false, refl, sym, subst, ap, ◌∙◌, if◌then◌else◌, ◌||◌, arith, eqb, append-nil}
use Rattle.std.proofs.lemmas.Bool.{eqb-true}
use Rattle.gx_lemmas.proofs.Options.{some-same}
use Rattle.gx_lemmas.proofs.Numbers.{eqb-self, plus-none}
use Rattle.gx_ids.specs.declared.ids.Cid.{Cid}
use Rattle.gx_ids.specs.declared.ids.Gxid.{Gxid}
use Rattle.gx_ids.specs.declared.ids.Node.{Node}
use Rattle.gx_ids.specs.declared.ids.SessionId.{SessionId}
use Rattle.gx_tree.specs.declared.stmt.Level.{Level}
use Rattle.gx_tree.specs.declared.stmt.Level.TheVariants.{ReadCommitted, RepeatableRead}
use Rattle.gx_tree.specs.declared.stmt.Stmt.{Stmt}
use Rattle.gx_tree.specs.declared.stmt.Stmt.TheVariants as stmt
use Rattle.gx_dtx.specs.Rules.{Turn}
use Rattle.gx_script.specs.declared.Script.{Script}
use Rattle.gx_script.specs.Session.{after_done, block_after_done}
use Rattle.gx_script.specs.declared.state.Block.{Block}
use Rattle.gx_script.specs.declared.state.Block.TheVariants as block
use Rattle.gx_script.specs.declared.state.Pending.{Pending}
use Rattle.gx_script.specs.declared.state.Pending.TheVariants as pending
use Rattle.gx_store.specs.declared.answer.StmtAnswer.{StmtAnswer}
use Rattle.gx_store.specs.declared.answer.StmtAnswer.TheVariants as told
use Rattle.gx_store.specs.declared.event.Event.{Event}
use Rattle.gx_store.specs.declared.event.Event.TheVariants as event
use Rattle.gx_store.specs.declared.mark.Mark.{Mark}
use Rattle.gx_store.specs.declared.mark.Mark.TheVariants as mark
use Rattle.gx_store.specs.declared.run.Step.{Step}
use Rattle.gx_store.specs.Answers.{IsAnswer, IsDone, Tells}
use Rattle.gx_store.specs.Commands.{RunsCommand, state_at}
use Rattle.gx_store.specs.Messages.{Receives}
use Rattle.gx_store.specs.Refusals.{IsCause, the_coordinator}
use Rattle.gx_msg.specs.declared.message.Message.TheVariants as message
use Rattle.gx_msg.specs.declared.reply.Cause.{Cause}
use Rattle.gx_msg.specs.declared.reply.Reply.TheVariants as reply
use Rattle.gx_store.specs.Lines.{BlockState, Outside, InBlock, cid_of, is_command, level_of, state_after, stmt_of, transaction_of}
use Rattle.gx_store.specs.Marks.{answer_count, is_committed, is_ended}
use Rattle.gx_store.specs.Points.{ends_by, ends_in, marks_in, starts_by, starts_in}
use Rattle.gx_rules.specs.AtCoordinator.{answer_at_commit, answer_of_command, answers, command_answer, is_committed as is_closed, unless_kept, reason_of}
use Rattle.gx_rules.specs.Coordinators.{Command, Coord, CoordTurn, Session, Work, session_of, work_of}
use Rattle.gx_rules.specs.Maps.{with_at}
use Rattle.gx_law_order.specs.Lists.{Each}
use Rattle.gx_law_order.specs.Alive.{HasAnswered}
use Rattle.gx_law_order.specs.Gathering.{IsGathered}
use Rattle.gx_law_order.specs.Finish.{AreCommandsTold}
use Rattle.gx_law_order.specs.Rest.{EachMark, IsCaused, IsTold, Rest, RestAnswer}
use Rattle.gx_law_order.specs.Standing.{IsLineOf, IsNow, IsSession, Owns, Roots, Stands, is_alone, is_busy, is_open, is_sound, level_in, state_in, under_way, waits}
use Rattle.gx_law_order.proofs.Answers.{done-inside, done-is, done-outside, rest-is, told-is}
use Rattle.gx_law_order.proofs.AtLine.{AtLine, answered-now, at-calm, has_txn, legal-answer, runs-command, transaction-is}
use Rattle.gx_law_order.proofs.Awaited.{IsAwaited, IsSettled, OutAwaits, OwnIn, none-awaited, own-none}
use Rattle.gx_law_order.proofs.Others.{Fresh, IsOf}
use Rattle.gx_law_order.proofs.Frame.{Does, owns-more}
use Rattle.gx_law_order.proofs.Gathers.{Gathers, GathersIn, HeardNow, gathered-back, gathered-is}
use Rattle.gx_law_order.proofs.Given.{Given}
use Rattle.gx_law_order.proofs.Outs.{CommandIs, IsBare, OutIs}
use Rattle.gx_law_order.proofs.Roots.{roots-answered, roots-on}
use Rattle.gx_law_order.proofs.Said.{Said}
use Rattle.gx_law_order.proofs.Under.{Under, commit-does, home-is, x-is}

le-same : (a : ℕ) → a ≤ a
le-same a = omega arith

module _ (script : Script) (steps : List Step) (c : Coord) (from : Node) (to : Node) (number : ℕ) (g : Gxid) where
  abbrev e : Event
  e = event.Receive from to number

  abbrev ms : List Mark
  ms = marks_in steps

  abbrev s : SessionId
  s = (work_of c g).session

  abbrev y : Session
  y = session_of c s

  -- the session of g stands with a line under way
  pub record Busy (B : Block) (P : Pending) (line : Stmt) : Type 0 where
    pub its : y.transaction ≡ g
    pub in_block : y.state.block ≡ B
    pub in_line : y.state.pending ≡ P
    pub busy : is_busy B P ≡ true
    pub waiting : waits P ≡ 1
    pub starts : starts_in s steps ≡ y.lines
    pub ends : ends_in s steps ≡ 0
    pub stands : Stands script s ms c.table.next.0 B P y.lines g (work_of c g)
    pub line_is : stmt_of s y.lines script.lines ≡ Some line

  module _ (B : Block) (P : Pending) (line : Stmt) (q : Busy B P line) where
    abbrev n : ℕ
    n = answer_count s ms

    abbrev b : BlockState
    b = state_in B q.stands.commands

    own : Owns s q.stands.commands ms c.table.next.0 B g (work_of c g)
    own = (q.stands.owns q.busy).0

    lines-are : n + 1 ≡ y.lines
    lines-are = ap (λ i. n + i) (sym q.waiting) ∙ q.stands.answered

    others : (j : SessionId) → (starts_by j e ≡ 0) × (ends_by j e ≡ 0)
    others j = (refl, refl)

    started : starts_in s steps + starts_by s e ≡ y.lines
    started = plus-none (starts_in s steps) ∙ q.starts

    ended : ends_in s steps + ends_by s e ≡ 0
    ended = plus-none (ends_in s steps) ∙ q.ends

    at-now : AtLine script steps e s line n b (is_alone B P) (Some g) []
    at-now =
        record {
          said = subst (λ m. Said script s m n b (is_alone B P) (Some g)) (sym (append-nil ms)) (record { answered = refl; state = q.stands.state; begun = q.stands.begun; started = own.started });
          starts = started ∙ sym lines-are;
          is_line = ap (λ i. stmt_of s i script.lines) lines-are ∙ q.line_is;
        }

    has-txn : has_txn b (is_alone B P) ≡ true
    has-txn = by_block B P q.busy
      where
        by_block : (x : Block) (z : Pending) → is_busy x z ≡ true → has_txn (state_in x q.stands.commands) (is_alone x z) ≡ true
        by_block block.Outside pending.Command h = refl
        by_block block.Outside pending.Nothing h = absurd (cc)
        by_block block.Outside pending.Commit h = absurd (cc)
        by_block (block.Open l) z h = refl
        by_block block.Failed z h = absurd (cc)

    -- the coordinator at c1, where the work may have changed
    pub busy-under : (c1 : Coord) (w : Work) → work_of c1 g ≡ w → w.session ≡ s → ((j : ℕ) → eqb j g.0 ≡ false → c1.works j ≡ c.works j) → ((j : ℕ) → c1.sessions j ≡ c.sessions j) → c1.table.next.0 ≡ c.table.next.0 → Under script steps c e c1 s g w y n b (is_alone B P) line []
    busy-under c1 w work home works sessions next =
        record {
          work = work;
          works = works;
          sessions = λ j. sessions j ∙ same-sessions j;
          home = home;
          its = q.its;
          lines = sym lines-are;
          next = subst (λ i. c.table.next.0 ≤ i) (sym next) (le-same c.table.next.0);
          drawn = subst (λ i. g.0 < i) (sym next) own.drawn;
          whose = inl refl;
          ends = ended;
          alone = λ j h. others j;
          at = at-now;
          has = has-txn;
          running = subst (λ m. is_ended m g ≡ false) (sym (append-nil ms)) own.running;
          of = tt;
          legal = λ later. tt;
          rests = λ later. tt;
        }
      where
        same-sessions : (j : ℕ) → c.sessions j ≡ (if eqb j s.0 then y else c.sessions j)
        same-sessions j = by_test (eqb j s.0) refl
          where
            by_test : (t : Bool) → eqb j s.0 ≡ t → c.sessions j ≡ (if t then y else c.sessions j)
            by_test true t = ap c.sessions (eqb-true j s.0 t)
            by_test false t = refl

    -- THE LINE GOES ON
    -- the work may have changed, but for its session, level, number and snapshot, and no mark is made
    pub record Likewise (w : Work) : Type 0 where
      pub session : w.session ≡ (work_of c g).session
      pub level : w.level ≡ (work_of c g).level
      pub last : w.last ≡ (work_of c g).last
      pub snapshot : w.snapshot ≡ (work_of c g).snapshot
      pub under : under_way w.command ≡ under_way (work_of c g).command
      pub waiting : w.waiting ≡ (work_of c g).waiting
      pub now_too : (first : ℕ) → IsNow script s (work_of c g) P first → IsNow script s w P first
      pub its_line : IsLineOf script s y.lines B q.stands.commands w P

    likewise-owns : (w : Work) → Likewise w → Owns s q.stands.commands (ms ++ []) c.table.next.0 B g w
    likewise-owns w k =
        subst (λ m. Owns s q.stands.commands m c.table.next.0 B g w) (sym (append-nil ms))
        (record {
          home = k.session ∙ own.home;
          started = own.started;
          level = k.level ∙ own.level;
          drawn = own.drawn;
          running = own.running;
          counted = λ h. ap (λ i. q.stands.commands + i) k.under ∙ own.counted h ∙ sym k.last;
          unsnapped = λ d l. own.unsnapped d (subst (λ i. i < d.0) k.last l);
          snapshot = subst (λ x. Rattle.gx_law_order.specs.Standing.HasSnapshot w.level ms g x) (sym k.snapshot) (subst (λ l. Rattle.gx_law_order.specs.Standing.HasSnapshot l ms g (work_of c g).snapshot) (sym k.level) own.snapshot);
        })

    pub goes-on : (turn : CoordTurn) (w : Work) → Likewise w → turn.marks ≡ [] → turn.coord.works g.0 ≡ w → ((j : ℕ) → eqb j g.0 ≡ false → turn.coord.works j ≡ c.works j) → ((j : ℕ) → turn.coord.sessions j ≡ c.sessions j) → turn.coord.table.next.0 ≡ c.table.next.0 → Each (OutIs script (ms ++ turn.marks)) turn.outs → (CommandIs script (ms ++ turn.marks) (c.works g.0).command → CommandIs script (ms ++ turn.marks) (turn.coord.works g.0).command) → (GathersIn script (HeardNow steps e) g (c.works g.0).command → GathersIn script (HeardNow steps e) g (turn.coord.works g.0).command) → (OwnIn g (c.works g.0) → OwnIn g (turn.coord.works g.0)) → Each (OutAwaits turn.coord) turn.outs → ((a : Cid) (i : Node) (level : Level) → IsAwaited (c.works g.0) a i level → IsAwaited (turn.coord.works g.0) a i level ⊎ IsSettled (HeardNow steps e) turn.marks g a i) → Does script steps c e turn
    goes-on turn w k none work works sessions next outs orders gathers owned sent keeps =
        record {
          alters = record {
            s = s.0;
            g = g.0;
            x = y;
            sessions = λ j. (busy-under turn.coord w work k.session works sessions next).sessions j;
            works = works;
            next = subst (λ i. c.table.next.0 ≤ i) (sym next) (le-same c.table.next.0);
            whose = inl refl;
            of = subst (λ m. Each (IsOf s.0 g.0) m) (sym none) tt;
            fresh = subst (λ m. Fresh m turn.coord.table.next.0) (sym none) (record { unended = λ h l. refl; unread = λ h l. refl; unstarted = λ h l. refl });
            alone = λ j h. others j;
            starts = started;
            stands = inl (
              ended,
              subst (λ m. Stands script s (ms ++ m) turn.coord.table.next.0 y.state.block y.state.pending y.lines y.transaction (turn.coord.works y.transaction.0)) (sym none)
                  (subst (λ i. Stands script s (ms ++ []) i y.state.block y.state.pending y.lines y.transaction (turn.coord.works y.transaction.0)) (sym next)
                  (subst (λ x. Stands script s (ms ++ []) c.table.next.0 x y.state.pending y.lines y.transaction (turn.coord.works y.transaction.0)) (sym q.in_block)
                  (subst (λ x. Stands script s (ms ++ []) c.table.next.0 B x y.lines y.transaction (turn.coord.works y.transaction.0)) (sym q.in_line)
                  (subst (λ (x : Gxid). Stands script s (ms ++ []) c.table.next.0 B P y.lines x (turn.coord.works x.0)) (sym q.its)
                  (subst (λ v. Stands script s (ms ++ []) c.table.next.0 B P y.lines g v) (sym work) there))))),
            );
            outs = outs;
            orders = orders;
            gathers = gathers;
            owned = owned;
            sent = sent;
            keeps = keeps;
          };
          legal = λ later. subst (λ m. EachMark (Given script) steps e [] m later) (sym none) tt;
          rest = λ t later. subst (λ m. EachMark (Rest script) steps e [] m later) (sym none) tt;
        }
      where
        there : Stands script s (ms ++ []) c.table.next.0 B P y.lines g w
        there =
            record {
              commands = q.stands.commands;
              answered = ap (λ i. i + waits P) at-now.said.answered ∙ q.stands.answered;
              state = at-now.said.state;
              begun = at-now.said.begun;
              sound = q.stands.sound;
              owns = λ h. (likewise-owns w k, k.its_line, roots-on script s ms [] B P y.lines g (work_of c g) w (q.stands.owns q.busy).2 k.last k.waiting k.now_too);
            }

    -- A COMMAND OUTSIDE A BLOCK COMMITS
    command-told : (earlier : List Mark) → AtLine script steps e s line n b (is_alone B P) (Some g) earlier → (later : List Mark) (m : Command) → IsGathered script (record { steps = steps; event = e; earlier = earlier; later = later }) g (cid_of b) line (command_answer m line) → is_command b line ≡ true → RestAnswer script (record { steps = steps; event = e; earlier = earlier; later = later }) s (command_answer m line) → Rattle.gx_store.specs.Answers.IsAtItsEnd b (record { steps = steps; event = e; earlier = earlier; later = later }) g → IsAnswer script (record { steps = steps; event = e; earlier = earlier; later = later }) s b line (command_answer m line)
    command-told earlier a later m gathered cmd rest end =
        done-is script (record { steps = steps; event = e; earlier = earlier; later = later }) s b line m cmd
        (record {
          command = cmd;
          g = g;
          transaction = subst (λ z. transaction_of z s (ms ++ earlier) ≡ Some g) a.said.state (transaction-is script steps e s line n b (is_alone B P) (Some g) earlier a later g has-txn refl);
          end = end;
          told = told-is script (record { steps = steps; event = e; earlier = earlier; later = later }) s b line m cmd rest line (level_of b) g (cid_of b) (runs-command script steps e s line n b (is_alone B P) (Some g) earlier a later g has-txn refl cmd) gathered;
          back = gathered-back script (record { steps = steps; event = e; earlier = earlier; later = later }) g (cid_of b) line (command_answer m line) gathered;
        })

    gathered-here : (m : Command) → Gathers script (HeardNow steps e) g m → m.awaited ≡ [] → m.cid ≡ cid_of b → m.stmt ≡ line → (earlier later : List Mark) → IsGathered script (record { steps = steps; event = e; earlier = earlier; later = later }) g (cid_of b) line (command_answer m line)
    gathered-here m h none number same earlier later =
        subst (λ l. IsGathered script (record { steps = steps; event = e; earlier = earlier; later = later }) g (cid_of b) l (command_answer m l)) same
        (subst (λ k. IsGathered script (record { steps = steps; event = e; earlier = earlier; later = later }) g k m.stmt (command_answer m m.stmt)) number (gathered-is script steps e earlier later g m h none))

    -- the transaction of the line is this one
    same-txn : (earlier : List Mark) → AtLine script steps e s line n b (is_alone B P) (Some g) earlier → (later : List Mark) (h : Gxid) → transaction_of (state_at script s (record { steps = steps; event = e; earlier = earlier; later = later })) s (ms ++ earlier) ≡ Some h → g ≡ h
    same-txn earlier a later h q = some-same g h (sym (transaction-is script steps e s line n b (is_alone B P) (Some g) earlier a later g has-txn refl) ∙ q)

    -- what is left of its answer
    told-committed : AreCommandsTold script steps → (m : Command) (later : List Mark) → IsTold script (record { steps = steps; event = e; earlier = mark.Commit g ∷ []; later = later }) s (command_answer m line)
    told-committed t m later stmt level h cid runs gathered =
        subst (λ x. RunsCommand script (record { steps = steps; event = e; earlier = mark.Commit g ∷ []; later = later }) s stmt level x cid → IsGathered script (record { steps = steps; event = e; earlier = mark.Commit g ∷ []; later = later }) x cid stmt (command_answer m line) → Tells script (ms ++ mark.Commit g ∷ []) level x cid stmt (command_answer m line))
        (same-txn (mark.Commit g ∷ []) (at-calm script steps e s line n b (is_alone B P) (Some g) [] (mark.Commit g ∷ []) at-now (tt, tt)) later h runs.transaction)
        (λ r q. t.committed e later s stmt level g cid (command_answer m line) refl r q) runs gathered

    told-inside : AreCommandsTold script steps → (m : Command) (later : List Mark) → IsTold script (record { steps = steps; event = e; earlier = []; later = later }) s (command_answer m line)
    told-inside t m later stmt level h cid runs gathered = t.told e later s stmt level h cid (command_answer m line) refl runs gathered

    pub caused-by : AreCommandsTold script steps → (why : Cause) (later : List Mark) → IsCaused script (record { steps = steps; event = e; earlier = mark.Abort g ∷ []; later = later }) s (reason_of why)
    caused-by t why later stmt level h cid segment cause runs received same =
        subst (λ r. IsCause (record { steps = steps; event = e; earlier = mark.Abort g ∷ []; later = later }) stmt level h cid r) (sym same)
        (subst (λ x. RunsCommand script (record { steps = steps; event = e; earlier = mark.Abort g ∷ []; later = later }) s stmt level x cid → Receives steps e segment the_coordinator (message.Answer x (reply.Failed cid cause)) → IsCause (record { steps = steps; event = e; earlier = mark.Abort g ∷ []; later = later }) stmt level x cid (reason_of cause))
        (same-txn (mark.Abort g ∷ []) (at-calm script steps e s line n b (is_alone B P) (Some g) [] (mark.Abort g ∷ []) at-now (tt, tt)) later h runs.transaction)
        (λ r q. t.refused e later s stmt level g cid segment cause refl r q) runs received)

    pub alone-commit : (c1 : Coord) (w : Work) (m : Command) (turn : Turn) → Gathers script (HeardNow steps e) g m → m.awaited ≡ [] → m.cid ≡ cid_of b → Under script steps c e c1 s g w y n b (is_alone B P) line [] → B ≡ block.Outside → P ≡ pending.Command → w.command ≡ Some m → m.stmt ≡ line → is_command b line ≡ true → turn.table.next.0 ≡ c1.table.next.0 → Each IsBare turn.out.outs → ((a : Cid) (i : Node) (level : Level) → IsAwaited (c.works g.0) a i level → HasAnswered (HeardNow steps e) i g a) → Does script steps c e (is_closed c1 g turn)
    alone-commit c1 w m turn gath none its_cid o outside working has same cmd next outs over =
        commit-does script steps c e c1 s g w y n b (is_alone B P) line [] o turn next may closed
        (subst (λ x. state_after (state_in x q.stands.commands) line r ≡ Outside) (sym outside) (done-outside line r rows))
        (λ later rest. subst (λ z. IsAnswer script (record { steps = steps; event = e; earlier = mark.Commit g ∷ []; later = later }) s b line z) (sym told-as)
        (command-told (mark.Commit g ∷ []) (at-calm script steps e s line n b (is_alone B P) (Some g) [] (mark.Commit g ∷ []) at-now (tt, tt)) later m (gathered-here m gath none its_cid same (mark.Commit g ∷ []) later) cmd
        (subst (λ z. RestAnswer script (record { steps = steps; event = e; earlier = mark.Commit g ∷ []; later = later }) s z) told-as rest)
        (subst (λ x. Rattle.gx_store.specs.Answers.IsAtItsEnd (state_in x q.stands.commands) (record { steps = steps; event = e; earlier = mark.Commit g ∷ []; later = later }) g) (sym outside) (ap (λ t. t || false) (eqb-self g.0)))))
        outs over (λ t later. subst (λ z. RestAnswer script (record { steps = steps; event = e; earlier = mark.Commit g ∷ []; later = later }) s z) (sym told-as) (rest-is script (record { steps = steps; event = e; earlier = mark.Commit g ∷ []; later = later }) s line m (told-committed t m later)))
      where
        r : StmtAnswer
        r = answer_at_commit (work_of c1 g) (session_of c1 (work_of c1 g).session).state.pending

        told-as : answer_at_commit (work_of c1 g) (session_of c1 (work_of c1 g).session).state.pending ≡ command_answer m line
        told-as =
            ap (λ p. answer_at_commit (work_of c1 g) p) (ap (λ i. (session_of c1 i).state.pending) (home-is script steps c e c1 s g w y n b (is_alone B P) line [] o) ∙ ap (λ (z : Session). z.state.pending) (x-is script steps c e c1 s g w y n b (is_alone B P) line [] o) ∙ q.in_line ∙ working)
            ∙ ap (λ (v : Work). answer_of_command v.command) o.work ∙ ap answer_of_command has ∙ ap (command_answer m) same

        rows : Rattle.gx_store.specs.Lines.is_on_rows line ≡ true
        rows = subst (λ x. is_command (state_in x q.stands.commands) line ≡ true) outside cmd

        may : Rattle.gx_store.specs.Lines.may_commit b line ≡ true
        may = subst (λ x. Rattle.gx_store.specs.Lines.may_commit (state_in x q.stands.commands) line ≡ true) (sym outside) rows

        closed : block_after_done y.state.block y.state.pending ≡ block.Outside
        closed = ap (λ z. block_after_done z y.state.pending) (q.in_block ∙ outside) ∙ ap (block_after_done block.Outside) (q.in_line ∙ working)

    -- A BLOCK COMMITS
    pub block-commit : (c1 : Coord) (w : Work) (turn : Turn) (l : Level) → Under script steps c e c1 s g w y n b (is_alone B P) line [] → B ≡ block.Open l → P ≡ pending.Commit → line ≡ stmt.Commit → turn.table.next.0 ≡ c1.table.next.0 → Each IsBare turn.out.outs → Does script steps c e (is_closed c1 g turn)
    block-commit c1 w turn l o opened closing is next outs =
        commit-does script steps c e c1 s g w y n b (is_alone B P) line [] o turn next (subst (λ x. Rattle.gx_store.specs.Lines.may_commit (state_in x q.stands.commands) line ≡ true) (sym opened) (subst (λ z. Rattle.gx_store.specs.Lines.may_commit (InBlock l q.stands.commands) z ≡ true) (sym is) refl))
        (ap (λ z. block_after_done y.state.block z) (q.in_line ∙ closing))
        (subst (λ x. state_after (state_in x q.stands.commands) line r ≡ Outside) (sym opened) (subst (λ z. state_after (InBlock l q.stands.commands) z r ≡ Outside) (sym is) refl))
        (λ later rest. subst (λ z. IsAnswer script (record { steps = steps; event = e; earlier = mark.Commit g ∷ []; later = later }) s b line z) (sym told-as)
        (subst (λ x. IsAnswer script (record { steps = steps; event = e; earlier = mark.Commit g ∷ []; later = later }) s (state_in x q.stands.commands) line told.Commit) (sym opened)
        (subst (λ z. IsAnswer script (record { steps = steps; event = e; earlier = mark.Commit g ∷ []; later = later }) s (InBlock l q.stands.commands) z told.Commit) (sym is)
        (record { g = g; transaction = subst (λ x. transaction_of (state_in x q.stands.commands) s (ms ++ mark.Commit g ∷ []) ≡ Some g) opened (transaction later); committed = ap (λ t. t || false) (eqb-self g.0) }))))
        outs (λ a i level z. absurd (none-awaited (c.works g.0) a i level no-command z))
        (λ t later. subst (λ z. RestAnswer script (record { steps = steps; event = e; earlier = mark.Commit g ∷ []; later = later }) s z) (sym told-as) tt)
      where
        no-command : (work_of c g).command ≡ None
        no-command = by_pending P closing (q.stands.owns q.busy).1
          where
            by_pending : (p : Pending) → p ≡ pending.Commit → IsLineOf script s y.lines B q.stands.commands (work_of c g) p → (work_of c g).command ≡ None
            by_pending pending.Commit h l = l.0
            by_pending pending.Nothing h l = l
            by_pending pending.Command h l = absurd (cc)

        r : StmtAnswer
        r = answer_at_commit (work_of c1 g) (session_of c1 (work_of c1 g).session).state.pending

        told-as : answer_at_commit (work_of c1 g) (session_of c1 (work_of c1 g).session).state.pending ≡ told.Commit
        told-as =
            ap (λ p. answer_at_commit (work_of c1 g) p) (ap (λ i. (session_of c1 i).state.pending) (home-is script steps c e c1 s g w y n b (is_alone B P) line [] o) ∙ ap (λ (z : Session). z.state.pending) (x-is script steps c e c1 s g w y n b (is_alone B P) line [] o) ∙ q.in_line ∙ closing)

        a2 : AtLine script steps (event.Receive from to number) s line n b (is_alone B P) (Some g) (mark.Commit g ∷ [])
        a2 = at-calm script steps e s line n b (is_alone B P) (Some g) [] (mark.Commit g ∷ []) at-now (tt, tt)

        transaction : (later : List Mark) → transaction_of (state_in B q.stands.commands) s (ms ++ mark.Commit g ∷ []) ≡ Some g
        transaction later = subst (λ z. transaction_of z s (ms ++ mark.Commit g ∷ []) ≡ Some g) a2.said.state (transaction-is script steps e s line n b (is_alone B P) (Some g) (mark.Commit g ∷ []) a2 later g has-txn refl)

    -- A COMMAND IN A BLOCK IS ANSWERED
    pub block-answer : (c1 : Coord) (w : Work) (m : Command) (l : Level) → Gathers script (HeardNow steps e) g m → m.awaited ≡ [] → m.cid ≡ cid_of b → Under script steps c e c1 s g w y n b (is_alone B P) line [] → Likewise w → B ≡ block.Open l → P ≡ pending.Command → w.command ≡ Some m → m.stmt ≡ line → is_command b line ≡ true → c1.table.next.0 ≡ c.table.next.0 → ((a : Cid) (i : Node) (level : Level) → IsAwaited (c.works g.0) a i level → HasAnswered (HeardNow steps e) i g a) → Does script steps c e (answers c1 g (work_of c1 g))
    block-answer c1 w m l gath none its_cid o k opened working has same cmd next over =
        record {
          alters = record {
            s = s.0;
            g = g.0;
            x = record y { state = after_done y.state };
            sessions = λ j. ap (λ (i : SessionId). with_at c1.sessions i.0 (record (session_of c1 i) { state = after_done (session_of c1 i).state }) j) home ∙ ap (λ (z : Session). if eqb j s.0 then record z { state = after_done z.state } else c1.sessions j) now
                ∙ past (eqb j s.0) _ (c1.sessions j) y (c.sessions j) (o.sessions j);
            works = λ j h. ap (λ t. if t then record (work_of c1 g) { command = None } else c1.works j) h ∙ o.works j h;
            next = subst (λ i. c.table.next.0 ≤ i) (sym (next-is (work_of c1 g).level)) o.next;
            whose = inl refl;
            of = (ap (λ (i : SessionId). i.0) home, tt);
            fresh = record { unended = λ h z. refl; unread = λ h z. refl; unstarted = λ h z. refl };
            alone = λ j h. others j;
            starts = started;
            stands = inl (ended, moved (subst (λ v. Stands script s late c.table.next.0 (block.Open l) pending.Nothing y.lines g v) (sym work-now) (subst (λ i. Stands script s (ms ++ mark.Answer i (session_of c1 i).lines r ∷ []) c.table.next.0 (block.Open l) pending.Nothing y.lines g done) (sym home) there)));
            outs = tt;
            owned = λ h. own-none g ((answers c1 g (work_of c1 g)).coord.works g.0) (ap (λ (v : Work). v.command) work-now);
            sent = tt;
            keeps = λ a i level z. inr (inl (over a i level z));
            orders = λ h. subst (CommandIs script late) (sym (ap (λ (v : Work). v.command) work-now)) tt;
            gathers = λ h. subst (GathersIn script (HeardNow steps e) g) (sym (ap (λ (v : Work). v.command) work-now)) tt;
          };
          legal = λ later. subst (λ i. EachMark (Given script) steps e [] (mark.Answer i (session_of c1 i).lines r ∷ []) later) (sym home)
              (λ rest. legal-answer script steps e s line n b (is_alone B P) (Some g) [] at-now later (session_of c1 s).lines r numbered (is later rest), tt);
          rest = λ t later. subst (λ i. EachMark (Rest script) steps e [] (mark.Answer i (session_of c1 i).lines r ∷ []) later) (sym home)
              (subst (λ z. RestAnswer script (record { steps = steps; event = e; earlier = []; later = later }) s z) (sym told-as) (rest-is script (record { steps = steps; event = e; earlier = []; later = later }) s line m (told-inside t m later)), tt);
        }
      where
        home : (work_of c1 g).session ≡ s
        home = home-is script steps c e c1 s g w y n b (is_alone B P) line [] o

        now : session_of c1 s ≡ y
        now = x-is script steps c e c1 s g w y n b (is_alone B P) line [] o

        numbered : (session_of c1 s).lines ≡ n + 1
        numbered = ap (λ (z : Session). z.lines) now ∙ sym lines-are

        r : StmtAnswer
        r = answer_of_command (work_of c1 g).command

        late : List Mark
        late = ms ++ mark.Answer (work_of c1 g).session (session_of c1 (work_of c1 g).session).lines (answer_of_command (work_of c1 g).command) ∷ []

        done : Work
        done = record w { command = None }

        past : (t : Bool) (a z v u : Session) → z ≡ (if t then v else u) → (if t then a else z) ≡ (if t then a else u)
        past true a z v u h = refl
        past false a z v u h = h

        next-is : (v : Level) → (unless_kept v c1.table g).next.0 ≡ c1.table.next.0
        next-is ReadCommitted = refl
        next-is RepeatableRead = refl

        work-now : (if eqb g.0 g.0 then record (work_of c1 g) { command = None } else c1.works g.0) ≡ record w { command = None }
        work-now = ap (λ t. if t then record (work_of c1 g) { command = None } else c1.works g.0) (eqb-self g.0) ∙ ap (λ (v : Work). let z : Work = record v { command = None } in z) o.work

        told-as : answer_of_command (work_of c1 g).command ≡ command_answer m line
        told-as = ap (λ (v : Work). answer_of_command v.command) o.work ∙ ap answer_of_command has ∙ ap (command_answer m) same

        is : (later : List Mark) → RestAnswer script (record { steps = steps; event = event.Receive from to number; earlier = []; later = later }) s (answer_of_command (work_of c1 g).command) → IsAnswer script (record { steps = steps; event = event.Receive from to number; earlier = []; later = later }) s b line (answer_of_command (work_of c1 g).command)
        is later rest =
            subst (λ z. IsAnswer script (record { steps = steps; event = e; earlier = []; later = later }) s b line z) (sym told-as)
            (command-told [] at-now later m (gathered-here m gath none its_cid same [] later) cmd (subst (λ z. RestAnswer script (record { steps = steps; event = e; earlier = []; later = later }) s z) told-as rest)
            (subst (λ x. Rattle.gx_store.specs.Answers.IsAtItsEnd (state_in x q.stands.commands) (record { steps = steps; event = e; earlier = []; later = later }) g) (sym opened) o.running))

        said : Said script s (ms ++ mark.Answer s (session_of c1 s).lines (answer_of_command (work_of c1 g).command) ∷ []) (n + 1) (InBlock l (q.stands.commands + 1)) false (Some g)
        said =
            subst (λ z. Said script s (ms ++ mark.Answer s (session_of c1 s).lines (answer_of_command (work_of c1 g).command) ∷ []) (n + 1) z false (Some g))
            (ap (λ x. state_after (state_in x q.stands.commands) line (answer_of_command (work_of c1 g).command)) opened ∙ ap (state_after (InBlock l q.stands.commands) line) told-as ∙ done-inside l q.stands.commands line m (subst (λ x. is_command (state_in x q.stands.commands) line ≡ true) opened cmd))
            (answered-now script steps e s line n b (is_alone B P) (Some g) [] at-now (session_of c1 s).lines (answer_of_command (work_of c1 g).command) numbered)

        owns-done : Owns s (q.stands.commands + 1) (ms ++ mark.Answer s (session_of c1 s).lines (answer_of_command (work_of c1 g).command) ∷ []) c.table.next.0 (block.Open l) g (record w { command = None })
        owns-done =
            let z = owns-more script s q.stands.commands (ms ++ []) (mark.Answer s (session_of c1 s).lines (answer_of_command (work_of c1 g).command) ∷ []) c.table.next.0 c.table.next.0 B g w (likewise-owns w k) (le-same c.table.next.0)
            (ap (λ v. Rattle.gx_store.specs.Marks.started_after s None (v ++ mark.Answer s (session_of c1 s).lines (answer_of_command (work_of c1 g).command) ∷ [])) (append-nil ms) ∙ said.started ∙ sym (likewise-owns w k).started) refl refl in
            let v = subst (λ a. Owns s q.stands.commands (a ++ mark.Answer s (session_of c1 s).lines (answer_of_command (work_of c1 g).command) ∷ []) c.table.next.0 B g w) (append-nil ms) z in
            record {
              home = v.home;
              started = v.started;
              level = v.level ∙ ap level_in opened;
              drawn = v.drawn;
              running = v.running;
              counted = λ h. plus-none (q.stands.commands + 1) ∙ ap (λ a. q.stands.commands + under_way a) (sym has) ∙ v.counted (ap is_open opened);
              unsnapped = v.unsnapped;
              snapshot = v.snapshot;
            }

        there : Stands script s (ms ++ mark.Answer s (session_of c1 s).lines (answer_of_command (work_of c1 g).command) ∷ []) c.table.next.0 (block.Open l) pending.Nothing y.lines g (record w { command = None })
        there =
            record { commands = q.stands.commands + 1; answered = plus-none _ ∙ said.answered ∙ lines-are; state = said.state; begun = said.begun; sound = refl; owns = λ h. (owns-done, refl, roots-answered script s ms _ l y.lines g (work_of c g) done (subst (λ z. Roots script s ms (block.Open l) z y.lines g (work_of c g)) working (subst (λ z. Roots script s ms z P y.lines g (work_of c g)) opened (q.stands.owns q.busy).2)) k.last k.waiting) }

        abbrev-turn : CoordTurn
        abbrev-turn = answers c1 g (work_of c1 g)

        moved : Stands script s (ms ++ mark.Answer (work_of c1 g).session (session_of c1 (work_of c1 g).session).lines (answer_of_command (work_of c1 g).command) ∷ []) c.table.next.0 (block.Open l) pending.Nothing y.lines g ((answers c1 g (work_of c1 g)).coord.works g.0) → Stands script s (ms ++ (answers c1 g (work_of c1 g)).marks) (answers c1 g (work_of c1 g)).coord.table.next.0 (after_done y.state).block pending.Nothing y.lines y.transaction ((answers c1 g (work_of c1 g)).coord.works y.transaction.0)
        moved h =
            subst (λ i. Stands script s (ms ++ (answers c1 g (work_of c1 g)).marks) i (after_done y.state).block pending.Nothing y.lines y.transaction ((answers c1 g (work_of c1 g)).coord.works y.transaction.0)) (sym (next-is (work_of c1 g).level ∙ next))
            (subst (λ z. Stands script s (ms ++ (answers c1 g (work_of c1 g)).marks) c.table.next.0 z pending.Nothing y.lines y.transaction ((answers c1 g (work_of c1 g)).coord.works y.transaction.0)) (sym (ap (λ z. block_after_done z y.state.pending) (q.in_block ∙ opened) ∙ ap (block_after_done (block.Open l)) (q.in_line ∙ working)))
            (subst (λ (z : Gxid). Stands script s (ms ++ (answers c1 g (work_of c1 g)).marks) c.table.next.0 (block.Open l) pending.Nothing y.lines z ((answers c1 g (work_of c1 g)).coord.works z.0)) (sym q.its) h))
