-- Answers to PREPARE, COMMIT and the other orders, and every event of the coordinator.
use Rattle.std.proofs.Common.{◌≡◌, ◌≤◌, ◌⊎◌, inl, inr, ℕ, zero, suc, List, [], ◌∷◌, ◌++◌, Option, Some, None, Bool, true, false, refl, sym, subst, ap, ◌∙◌, if◌then◌else◌, ◌&&◌, ◌==◌, arith, append-nil}
use Rattle.std.proofs.lemmas.Bool.{and_parts, eqb-true}
use Rattle.std.proofs.lemmas.Bool.Decides.{nat_tests}
use Rattle.std.proofs.lemmas.List.Elements.{Contains-append_left, Contains-push}
use Rattle.std.specs.Prelude.{Contains}
use Rattle.gx_lemmas.proofs.Numbers.{one-le-none}
use Rattle.gx_ids.specs.declared.ids.Cid.{Cid}
use Rattle.gx_ids.specs.declared.ids.Gxid.{Gxid}
use Rattle.gx_ids.specs.declared.ids.Node.{Node}
use Rattle.gx_ids.specs.declared.ids.SessionId.{SessionId}
use Rattle.gx_tree.specs.declared.part.Part.{Part}
use Rattle.gx_tree.specs.declared.stmt.Level.{Level}
use Rattle.gx_tree.specs.declared.stmt.Stmt.{Stmt}
use Rattle.gx_tree.specs.declared.stmt.Stmt.TheVariants as stmt
use Rattle.gx_dtx.specs.Rules.{Turn, on_abort, on_reply}
use Rattle.gx_dtx.specs.Table.{find_txn}
use Rattle.gx_dtx.specs.declared.outcome.Outcome.{Outcome}
use Rattle.gx_dtx.specs.declared.outcome.Outcome.TheVariants as outcome
use Rattle.gx_msg.specs.declared.item.JournalItem.{JournalItem}
use Rattle.gx_msg.specs.declared.message.Message.{Message}
use Rattle.gx_msg.specs.declared.message.Message.TheVariants as message
use Rattle.gx_msg.specs.declared.reply.Cause.{Cause}
use Rattle.gx_msg.specs.declared.reply.Reply.{Reply}
use Rattle.gx_msg.specs.declared.reply.Reply.TheVariants as reply
use Rattle.gx_script.specs.declared.Script.{Script}
use Rattle.gx_script.specs.Session.{block_after_refusal}
use Rattle.gx_script.specs.declared.state.Block.{Block}
use Rattle.gx_script.specs.declared.state.Block.TheVariants as block
use Rattle.gx_script.specs.declared.state.Pending.{Pending}
use Rattle.gx_script.specs.declared.state.Pending.TheVariants as pending
use Rattle.gx_store.specs.declared.answer.Refused.{Refused}
use Rattle.gx_store.specs.declared.answer.Refused.TheVariants as refused
use Rattle.gx_store.specs.declared.answer.StmtAnswer.TheVariants as told
use Rattle.gx_store.specs.declared.event.Event.{Event}
use Rattle.gx_store.specs.declared.event.Event.TheVariants as event
use Rattle.gx_store.specs.declared.mark.Mark.{Mark}
use Rattle.gx_store.specs.declared.mark.Mark.TheVariants as mark
use Rattle.gx_store.specs.declared.run.Step.{Step}
use Rattle.gx_store.specs.Lines.{Outside, state_after}
use Rattle.gx_store.specs.Marks.{answer_count, is_ended}
use Rattle.gx_store.specs.Messages.{Receives}
use Rattle.gx_store.specs.Points.{marks_in}
use Rattle.gx_store.specs.Refusals.{HasJournalFailed, IsCause, may_refuse, the_coordinator}
use Rattle.gx_rules.specs.AtCoordinator.{failure_marks, follows, is_awaited, is_committed as is_closed, is_refused, item_for, on_answer, on_done, on_failed, on_message, on_status, reason_of, takes_done}
use Rattle.gx_rules.specs.Coordinators.{Command, Coord, CoordTurn, Session, rests, session_of, work_of}
use Rattle.gx_rules.specs.Fits.{fits_part}
use Rattle.gx_rules.proofs.Rounds.{graph-ways}
use Rattle.gx_law_order.specs.Lists.{Each}
use Rattle.gx_law_order.specs.Sessions.{Kept, is_closing_in}
use Rattle.gx_law_order.specs.Stages.{stage, stage_of}
use Rattle.gx_law_order.specs.Standings.{gx}
use Rattle.gx_law_order.proofs.Statuses.{Moves, Turned, reply-turns}
use Rattle.gx_law_order.specs.Stages.Stage.{Closing, Live}
use Rattle.gx_law_order.specs.Rest.{EachMark, Rest, RestAnswer}
use Rattle.gx_law_order.specs.Standing.{IsLineOf, IsSession, is_alone, state_in}
use Rattle.gx_law_order.proofs.Answers.{done-outside}
use Rattle.gx_law_order.proofs.Awaited.{all-answered, bare-all}
use Rattle.gx_law_order.proofs.Busy.{Busy, alone-commit, block-commit, busy-under}
use Rattle.gx_law_order.proofs.Others.{IsOf}
use Rattle.gx_law_order.proofs.Frame.{Does, Effect, Rests}
use Rattle.gx_law_order.specs.Alive.{IsHeard}
use Rattle.gx_law_order.proofs.Gathers.{GathersIn}
use Rattle.gx_law_order.proofs.Given.{Given}
use Rattle.gx_law_order.proofs.Outs.{IsBare, bare-outs, reply-bare}
use Rattle.gx_law_order.proofs.SegAnswers.{ByWord, Works, done-does, failed-does, found-by, gathers-old, same-gxid, stand, works-on}
use Rattle.gx_law_order.proofs.Said.{CalmFor}
use Rattle.gx_law_order.proofs.Under.{Under, refuse-does}

-- the item of a turn says nothing of sessions
pub does-with : (script : Script) (steps : List Step) (c : Coord) (e : Event) (turn : CoordTurn) (item : Option JournalItem) → Does script steps c e turn → Does script steps c e (record turn { item = item })
does-with script steps c e turn item d =
    let a = d.alters in
    record {
      alters = record { s = a.s; g = a.g; x = a.x; sessions = a.sessions; works = a.works; next = a.next; whose = a.whose; of = a.of; fresh = a.fresh; alone = a.alone; starts = a.starts; stands = a.stands; outs = a.outs; orders = a.orders; gathers = a.gathers; owned = a.owned; sent = a.sent; keeps = a.keeps };
      legal = d.legal;
      rest = d.rest;
    }

pub rests-now : (script : Script) (steps : List Step) (c : Coord) (from to : Node) (number : ℕ) → Rests script steps c (event.Receive from to number) (rests c)
rests-now script steps c from to number = record { sessions = λ j. refl; works = λ j. refl; next = refl; quiet = tt; alone = λ j. (refl, refl); outs = λ h. tt; sent = λ h. tt }

-- a segment's word is that its journal has failed
has-failed : (steps : List Step) (e : Event) (earlier later : List Mark) (g : Gxid) (i : ℕ) → 1 ≤ i → Receives steps e (record { 0 = i }) the_coordinator (message.Answer g reply.Jfault) → Contains (marks_in steps ++ earlier) (mark.JournalFailed (record { 0 = i }) g) → HasJournalFailed (record { steps = steps; event = e; earlier = earlier; later = later }) g (record { 0 = i })
has-failed steps e earlier later g zero l r h = absurd (one-le-none l)
has-failed steps e earlier later g (suc i) l r h = (r, h)

module _ (script : Script) (steps : List Step) (c : Coord) (k : Kept script c) (all : (j : SessionId) → IsSession script j steps c) (gath : (j : ℕ) → GathersIn script (IsHeard steps) (gx j) (c.works j).command) (from : Node) (some : 1 ≤ from.0) (to : Node) (number : ℕ) (g : Gxid) where
  abbrev e : Event
  e = event.Receive from to number

  abbrev ms : List Mark
  ms = marks_in steps

  abbrev s : SessionId
  s = (work_of c g).session

  abbrev y : Session
  y = session_of c s

  -- COMMANDS
  on-done-does : (cid : Cid) (wrote : Bool) (count : ℕ) (part : Part) → Receives steps e from the_coordinator (message.Answer g (reply.Done cid wrote count part)) → (m : Option Command) → (work_of c g).command ≡ m → Effect script steps c e (on_done c g from cid wrote count part m)
  on-done-does cid wrote count part r None h = inr (rests-now script steps c from to number)
  on-done-does cid wrote count part r (Some m) h = by_test (is_awaited m from cid && fits_part m.stmt part) refl
    where
      by_test : (b : Bool) → (is_awaited m from cid && fits_part m.stmt part) ≡ b → Effect script steps c e (if b then takes_done c g from wrote count part m else rests c)
      by_test true f = inl (done-does script steps c k all gath from to number g m h from (and_parts _ _ (and_parts _ _ f).0).1 wrote count part (and_parts _ _ f).1
          (subst (λ (i : Cid). Receives steps e from the_coordinator (message.Answer g (reply.Done i wrote count part))) (sym (ap (λ (i : ℕ). let x : Cid = record { 0 = i } in x) (eqb-true m.cid.0 cid.0 (and_parts _ _ (and_parts _ _ f).0).0))) r))
      by_test false f = inr (rests-now script steps c from to number)

  on-failed-does : (cid : Cid) (why : Cause) → Receives steps e from the_coordinator (message.Answer g (reply.Failed cid why)) → (m : Option Command) → (work_of c g).command ≡ m → Effect script steps c e (on_failed c g from cid why m)
  on-failed-does cid why r None h = inr (rests-now script steps c from to number)
  on-failed-does cid why r (Some m) h = by_test (is_awaited m from cid) refl
    where
      by_test : (b : Bool) → is_awaited m from cid ≡ b → Effect script steps c e (if b then is_refused c g (on_abort c.table g) [] (reason_of why) else rests c)
      by_test true f = inl (failed-does script steps c k all gath from to number g m h from (and_parts _ _ f).1 why cid (ap (λ (i : ℕ). let x : Cid = record { 0 = i } in x) (eqb-true m.cid.0 cid.0 (and_parts _ _ f).0)) r)
      by_test false f = inr (rests-now script steps c from to number)

  -- STATUSES
  -- the session of a transaction that closes stands in one of two ways
  its-closing : stage_of c g.0 ≡ Closing → (y.transaction.0 ≡ g.0) × (is_closing_in y.state.block y.state.pending ≡ true)
  its-closing h = (k.tied g.0).closing h

  abbrev AloneSo : Type 0
  AloneSo = (m : Command) × Works script steps c k all gath from to number g block.Outside m × (m.awaited ≡ [])

  abbrev BlockSo : Type 0
  BlockSo = (l : Level) × Busy script steps c from to number g (block.Open l) pending.Commit stmt.Commit

  closing-so : stage_of c g.0 ≡ Closing → AloneSo ⊎ BlockSo
  closing-so h = by_state y.state.block y.state.pending refl refl (its-closing h).1
    where
      same : y.transaction ≡ g
      same = same-gxid script steps c k all gath from to number g (its-closing h).0

      not-both : (a : Rattle.gx_law_order.specs.Stages.Stage) → a ≡ Live → a ≡ Closing → ⊥
      not-both a p q = differ (sym p ∙ q)
        where
          differ : Live ≡ Closing → ⊥
          differ z = cc

      -- an answer that is awaited keeps its transaction from closing
      none-left : (m : Command) → (work_of c g).command ≡ Some m → (left : List Node) → m.awaited ≡ left → left ≡ []
      none-left m it [] f = refl
      none-left m it (i ∷ is) f = absurd (not-both (stage_of c g.0) ((k.tied g.0).awaits m it (λ z. some-left (sym f ∙ z))).0 h)
        where
          some-left : i ∷ is ≡ [] → ⊥
          some-left z = cc

      alone : y.state.block ≡ block.Outside → y.state.pending ≡ pending.Command → AloneSo
      alone eb ep = by_line ((stand script steps c k all gath from to number g block.Outside pending.Command eb ep refl same).1.owns refl).1
        where
          -- what waits is of a transaction that is live
          by_line : IsLineOf script s y.lines block.Outside (stand script steps c k all gath from to number g block.Outside pending.Command eb ep refl same).1.commands (work_of c g) pending.Command → AloneSo
          by_line (inl l) = (l.0, works-on script steps c k all gath from to number g block.Outside l.0 eb ep refl same l.1, none-left l.0 l.1 l.0.awaited refl)
          by_line (inr l) = absurd (not-both (stage_of c g.0) ((k.tied g.0).waits l.0 l.1).0 h)

      in_block : (l : Level) → y.state.block ≡ block.Open l → y.state.pending ≡ pending.Commit → BlockSo
      in_block l eb ep =
          let st = stand script steps c k all gath from to number g (block.Open l) pending.Commit eb ep refl same in
          (l, record { its = same; in_block = eb; in_line = ep; busy = refl; waiting = refl; starts = (all s).starts; ends = st.0; stands = st.1; line_is = (st.1.owns refl).1.1 })

      by_state : (b : Block) (p : Pending) → y.state.block ≡ b → y.state.pending ≡ p → is_closing_in b p ≡ true → AloneSo ⊎ BlockSo
      by_state block.Outside pending.Command eb ep q = inl (alone eb ep)
      by_state (block.Open l) pending.Commit eb ep q = inr (in_block l eb ep)
      by_state block.Outside pending.Nothing eb ep q = absurd (cc)
      by_state block.Outside pending.Commit eb ep q = absurd (cc)
      by_state (block.Open l) pending.Nothing eb ep q = absurd (cc)
      by_state (block.Open l) pending.Command eb ep q = absurd (cc)
      by_state block.Failed pending.Nothing eb ep q = absurd (cc)
      by_state block.Failed pending.Command eb ep q = absurd (cc)
      by_state block.Failed pending.Commit eb ep q = absurd (cc)

  under-same : (B : Block) (P : Pending) (line : Stmt) (q : Busy script steps c from to number g B P line) → Under script steps c e c s g (work_of c g) y (answer_count s ms) (state_in B q.stands.commands) (is_alone B P) line []
  under-same B P line q = busy-under script steps c from to number g B P line q c (work_of c g) refl refl (λ j h. refl) (λ j. refl) refl

  commits-now : (turn : Turn) → turn.table.next.0 ≡ c.table.next.0 → Each IsBare turn.out.outs → AloneSo ⊎ BlockSo → Does script steps c e (is_closed c g turn)
  commits-now turn next outs (inl z) =
      alone-commit script steps c from to number g block.Outside pending.Command z.0.stmt z.1.is_busy_so c (work_of c g) z.0 turn (gathers-old script steps c k all gath from to number g z.0 z.1.has_it) z.2 z.1.counted (under-same block.Outside pending.Command z.0.stmt z.1.is_busy_so) refl refl z.1.has_it refl z.1.command next outs (λ a i level q. absurd (all-answered (work_of c g) z.0 a i level z.1.has_it z.2 q))
  commits-now turn next outs (inr z) =
      block-commit script steps c from to number g (block.Open z.0) pending.Commit stmt.Commit z.1 c (work_of c g) turn z.0 (under-same (block.Open z.0) pending.Commit stmt.Commit z.1) refl refl refl next outs

  -- marks that say why: one-le-none, or that the coordinator's journal has failed
  abbrev whys : Bool → List Mark
  whys b = if b then mark.JournalFailed the_coordinator g ∷ [] else []

  whys-of : (a d : ℕ) (b : Bool) → Each (IsOf a d) (whys b)
  whys-of a d true = (tt, tt)
  whys-of a d false = tt

  whys-calm : (b : Bool) → Each (CalmFor s) (whys b)
  whys-calm true = (tt, tt)
  whys-calm false = tt

  whys-given : (b : Bool) (later : List Mark) → EachMark (Given script) steps e [] (whys b) later
  whys-given true later = (λ r. tt, tt)
  whys-given false later = tt

  whys-rest : (b : Bool) (later : List Mark) → EachMark (Rest script) steps e [] (whys b) later
  whys-rest true later = (tt, tt)
  whys-rest false later = tt

  refuses-by : (turn : Turn) (b : Bool) (reason : Refused) (B : Block) (P : Pending) (line : Stmt) (q : Busy script steps c from to number g B P line) → turn.table.next.0 ≡ c.table.next.0 → may_refuse (state_in B q.stands.commands) line reason ≡ true → block_after_refusal B P ≡ block.Outside → state_after (state_in B q.stands.commands) line (told.Refused reason) ≡ Outside → ((later : List Mark) (l : Stmt) (v : Level) (cid : Cid) → IsCause (record { steps = steps; event = e; earlier = whys b ++ mark.Abort g ∷ []; later = later }) l v g cid reason) → Each IsBare turn.out.outs → ((later : List Mark) → RestAnswer script (record { steps = steps; event = e; earlier = whys b ++ mark.Abort g ∷ []; later = later }) s (told.Refused reason)) → Does script steps c e (is_refused c g turn (whys b) reason)
  refuses-by turn b reason B P line q next may closed after cause outs plain =
      refuse-does script steps c e c s g (work_of c g) y (answer_count s ms) (state_in B q.stands.commands) (is_alone B P) line [] (under-same B P line q) turn (whys b) reason block.Outside next may
      (ap (λ z. block_after_refusal z y.state.pending) q.in_block ∙ ap (block_after_refusal B) q.in_line ∙ closed) refl after (whys-of s.0 g.0 b) (whys-calm b) (running b) (whys-given b) (λ later rest. cause later line _ _) outs (whys-rest b) (λ t later. plain later)
    where
      running : (t : Bool) → is_ended (ms ++ whys t) g ≡ false
      running false = (under-same B P line q).running
      running true = Rattle.gx_law_order.proofs.Others.ended-more ms (mark.JournalFailed the_coordinator g ∷ []) g (subst (λ m. is_ended m g ≡ false) (append-nil ms) (under-same B P line q).running) refl

  refuses-now : (turn : Turn) (b : Bool) (i : Node) → turn.table.next.0 ≡ c.table.next.0 → ((later : List Mark) (l : Stmt) (v : Level) (cid : Cid) → IsCause (record { steps = steps; event = e; earlier = whys b ++ mark.Abort g ∷ []; later = later }) l v g cid (refused.JournalFault i)) → Each IsBare turn.out.outs → ((later : List Mark) → RestAnswer script (record { steps = steps; event = e; earlier = whys b ++ mark.Abort g ∷ []; later = later }) s (told.Refused (refused.JournalFault i))) → AloneSo ⊎ BlockSo → Does script steps c e (is_refused c g turn (whys b) (refused.JournalFault i))
  refuses-now turn b i next cause outs plain (inl z) =
      refuses-by turn b (refused.JournalFault i) block.Outside pending.Command z.0.stmt z.1.is_busy_so next z.1.command refl (done-outside z.0.stmt (told.Refused (refused.JournalFault i)) z.1.command) cause outs plain
  refuses-now turn b i next cause outs plain (inr z) = refuses-by turn b (refused.JournalFault i) (block.Open z.0) pending.Commit stmt.Commit z.1 next refl refl refl cause outs plain

  module _ (r : Reply) (received : Receives steps e from the_coordinator (message.Answer g r)) (noted : r ≡ reply.Jfault → Contains ms (mark.JournalFailed from g)) where
    -- the coordinator's journal has failed, or the segment's
    refused-now : (turn : Turn) (i : Node) → turn.table.next.0 ≡ c.table.next.0 → Each IsBare turn.out.outs → stage_of c g.0 ≡ Closing → ((r ≡ reply.Jfault) × (i ≡ from)) ⊎ (i ≡ the_coordinator) → Does script steps c e (is_refused c g turn (failure_marks i g) (refused.JournalFault i))
    refused-now turn i next outs closing (inr h) =
        subst (λ j. Does script steps c e (is_refused c g turn (failure_marks j g) (refused.JournalFault j))) (sym h)
        (refuses-now turn true the_coordinator next
        (λ later l v cid. Contains-append_left (mark.JournalFailed the_coordinator g ∷ []) (mark.Abort g ∷ []) (mark.JournalFailed the_coordinator g) (Contains-push [] (mark.JournalFailed the_coordinator g))) outs (λ later. tt) (closing-so closing))
    refused-now turn i next outs closing (inl h) =
        subst (λ j. Does script steps c e (is_refused c g turn (failure_marks j g) (refused.JournalFault j))) (sym h.1)
        (subst (λ m. Does script steps c e (is_refused c g turn m (refused.JournalFault from))) (sym (ap whys (above from.0 some)))
        (refuses-now turn false from next
        (λ later l v cid. has-failed steps e (mark.Abort g ∷ []) later g from.0 some (subst (λ x. Receives steps e from the_coordinator (message.Answer g x)) h.0 received) (Contains-append_left ms (mark.Abort g ∷ []) (mark.JournalFailed from g) (noted h.0))) outs (λ later. tt) (closing-so closing)))
      where
        above : (a : ℕ) → 1 ≤ a → (a == 0) ≡ false
        above a l = grind (arith, nat_tests)

    by-outcome : (turn : Turn) (item : Option JournalItem) (a b : Rattle.gx_law_order.specs.Stages.Stage) → stage_of c g.0 ≡ a → turn.table.next ≡ c.table.next → Each IsBare turn.out.outs → (o : Outcome) → Moves a b o → ByWord from r o → Effect script steps c e (record (follows c g turn o) { item = item })
    by-outcome turn item a b st next outs outcome.Pending h w = inr (record { sessions = λ j. refl; works = λ j. refl; next = ap (λ (z : Gxid). z.0) next; quiet = tt; alone = λ j. (refl, refl); outs = λ o. bare-outs script _ turn.out.outs outs; sent = λ o. bare-all c turn.out.outs outs })
    by-outcome turn item a b st next outs outcome.Decided h w = inr (record { sessions = λ j. refl; works = λ j. refl; next = ap (λ (z : Gxid). z.0) next; quiet = (tt, tt); alone = λ j. (refl, refl); outs = λ o. bare-outs script _ turn.out.outs outs; sent = λ o. bare-all c turn.out.outs outs })
    by-outcome turn item a b st next outs outcome.Ended h w = inr (record { sessions = λ j. refl; works = λ j. refl; next = ap (λ (z : Gxid). z.0) next; quiet = tt; alone = λ j. (refl, refl); outs = λ o. bare-outs script _ turn.out.outs outs; sent = λ o. bare-all c turn.out.outs outs })
    by-outcome turn item a b st next outs outcome.Committed h w = inl (does-with script steps c e _ item (commits-now turn (ap (λ (z : Gxid). z.0) next) outs (closing-so (st ∙ h.0))))
    by-outcome turn item a b st next outs (outcome.Refused i) h w = inl (does-with script steps c e _ item (refused-now turn i (ap (λ (z : Gxid). z.0) next) outs (st ∙ h.0) w))

    status-does : (fails : Bool) → Effect script steps c e (on_status c g from r fails)
    status-does fails =
        let turn : Turn = on_reply c.table g from r fails in
        let t : Turned c.table g.0 (on_reply c.table g from r fails) Moves = reply-turns c.table g.0 from r fails k.whole in
        by-outcome (on_reply c.table g from r fails) (item_for c.table g from r) (stage_of c g.0) (stage t.now) refl refl (reply-bare c.table g from r fails) (on_reply c.table g from r fails).out.outcome t.how (found-by g from r fails (find_txn c.table g))

  answer-does : (fails : Bool) (r : Reply) → Receives steps e from the_coordinator (message.Answer g r) → (r ≡ reply.Jfault → Contains ms (mark.JournalFailed from g)) → Effect script steps c e (on_answer c g from fails r)
  answer-does fails (reply.Done cid wrote count part) h n = on-done-does cid wrote count part h (work_of c g).command refl
  answer-does fails (reply.Failed cid why) h n = on-failed-does cid why h (work_of c g).command refl
  answer-does fails reply.Prepared h n = status-does reply.Prepared h n fails
  answer-does fails reply.Committed h n = status-does reply.Committed h n fails
  answer-does fails reply.Jfault h n = status-does reply.Jfault h n fails
  answer-does fails reply.Again h n = status-does reply.Again h n fails
  answer-does fails reply.Restarted h n = status-does reply.Restarted h n fails
  answer-does fails reply.Aborted h n = status-does reply.Aborted h n fails
  answer-does fails reply.Forgotten h n = status-does reply.Forgotten h n fails

-- a segment that says that its journal has failed has a mark of it
abbrev pub IsNoted : List Mark → Node → Message → Type 0
IsNoted marks from (message.Answer g reply.Jfault) = Contains marks (mark.JournalFailed from g)
IsNoted marks from _ = Unit {0}

pub message-does : (script : Script) (steps : List Step) (c : Coord) → Kept script c → ((j : SessionId) → IsSession script j steps c) → ((j : ℕ) → GathersIn script (IsHeard steps) (gx j) (c.works j).command) → (from : Node) → 1 ≤ from.0 → (to : Node) (number : ℕ) (fails : Bool) (m : Message) → Receives steps (event.Receive from to number) from the_coordinator m → IsNoted (marks_in steps) from m → Effect script steps c (event.Receive from to number) (on_message c from fails m)
message-does script steps c k all gath from some to number fails (message.Answer g r) h n = answer-does script steps c k all gath from some to number g fails r h (noted r n)
  where
    noted : (q : Reply) → IsNoted (marks_in steps) from (message.Answer g q) → q ≡ reply.Jfault → Contains (marks_in steps) (mark.JournalFailed from g)
    noted reply.Jfault n e = n
    noted (reply.Done a b d f) n e = absurd (cc)
    noted (reply.Failed a b) n e = absurd (cc)
    noted reply.Prepared n e = absurd (cc)
    noted reply.Committed n e = absurd (cc)
    noted reply.Again n e = absurd (cc)
    noted reply.Restarted n e = absurd (cc)
    noted reply.Aborted n e = absurd (cc)
    noted reply.Forgotten n e = absurd (cc)
message-does script steps c k all gath from some to number fails (message.Exec g cid level x h y) r n = inr (rests-now script steps c from to number)
message-does script steps c k all gath from some to number fails (message.Prepare g) r n = inr (rests-now script steps c from to number)
message-does script steps c k all gath from some to number fails (message.Commit g) r n = inr (rests-now script steps c from to number)
message-does script steps c k all gath from some to number fails (message.CommitPrepared g) r n = inr (rests-now script steps c from to number)
message-does script steps c k all gath from some to number fails (message.Abort g) r n = inr (rests-now script steps c from to number)
message-does script steps c k all gath from some to number fails (message.Forget g) r n = inr (rests-now script steps c from to number)
message-does script steps c k all gath from some to number fails (message.Collect round) r n = inr (rests-now script steps c from to number)
message-does script steps c k all gath from some to number fails (message.Graph round graph) r n =
    graph-ways (Effect script steps c (event.Receive from to number)) c from round graph (inr (rests-now script steps c from to number))
    (λ taken. inr (record { sessions = λ j. refl; works = λ j. refl; next = refl; quiet = tt; alone = λ j. (refl, refl); outs = λ h. tt; sent = λ h. tt }))
    (λ taken all. inr (record { sessions = λ j. refl; works = λ j. refl; next = refl; quiet = (tt, tt); alone = λ j. (refl, refl); outs = λ h. tt; sent = λ h. tt }))
message-does script steps c k all gath from some to number fails message.Up r n = inr (rests-now script steps c from to number)
