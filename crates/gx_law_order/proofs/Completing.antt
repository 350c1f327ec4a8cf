-- Every event of the coordinator answers a line only when its commands have come back.
use Rattle.std.proofs.Common.{◌≡◌, ◌⊎◌, inl, inr, ℕ, List, [], ◌∷◌, ◌++◌, ◌+◌, Option, Some, None, Bool, true, false, refl, sym, subst, ap, ◌∙◌, if◌then◌else◌, ◌==◌, ◌&&◌, arith, eqb}
use Rattle.std.proofs.lemmas.Bool.{and_parts, eqb-true, false_from_ne_true}
use Rattle.gx_lemmas.proofs.Numbers.{eqb-self}
use Rattle.gx_lemmas.proofs.Tests.{true-false}
use Rattle.gx_ids.specs.declared.ids.Cid.{Cid}
use Rattle.gx_ids.specs.declared.ids.Gxid.{Gxid}
use Rattle.gx_ids.specs.declared.ids.Node.{Node}
use Rattle.gx_ids.specs.declared.ids.SessionId.{SessionId}
use Rattle.gx_tree.specs.declared.part.Part.{Part as QueryPart}
use Rattle.gx_dtx.specs.Nodes.{has, without}
use Rattle.gx_dtx.specs.Rules.{Turn, on_abort, on_commit, on_reply}
use Rattle.gx_dtx.specs.Table.{find_txn}
use Rattle.gx_dtx.specs.declared.outcome.Outcome.{Outcome}
use Rattle.gx_dtx.specs.declared.outcome.Outcome.TheVariants as outcome
use Rattle.gx_dtx.specs.declared.phase.Phase.{Phase as Status}
use Rattle.gx_dtx.specs.declared.txn.Txn.{Txn}
use Rattle.gx_msg.specs.declared.message.Message.{Message}
use Rattle.gx_msg.specs.declared.message.Message.TheVariants as message
use Rattle.gx_msg.specs.declared.message.Out.{Out}
use Rattle.gx_msg.specs.declared.reply.Cause.{Cause}
use Rattle.gx_msg.specs.declared.reply.Reply.{Reply}
use Rattle.gx_msg.specs.declared.reply.Reply.TheVariants as reply
use Rattle.gx_script.specs.declared.Script.{Script}
use Rattle.gx_script.specs.declared.state.Block.{Block}
use Rattle.gx_script.specs.declared.state.Block.TheVariants.{Outside, Open, Failed}
use Rattle.gx_store.specs.declared.answer.Refused.TheVariants.{Victim}
use Rattle.gx_store.specs.declared.mark.Mark.{Mark}
use Rattle.gx_store.specs.declared.mark.Mark.TheVariants as mark
use Rattle.gx_store.specs.Marks.{is_aborted, started_after}
use Rattle.gx_store.specs.Refusals.{the_coordinator}
use Rattle.gx_rules.specs.AtCoordinator.{answers, cancels, commits, completes, failure_marks, follows, goes_on, is_awaited, is_refused, on_answer, on_done, on_failed, on_message, on_status, reason_of, resends, takes_done, with_done, writers_with}
use Rattle.gx_rules.specs.Coordinators.{Command, Coord, CoordTurn, Session, Work, rests, session_of, with_work, work_of}
use Rattle.gx_rules.specs.Fits.{fits_part}
use Rattle.gx_rules.specs.Rounds.{begins_round, rechecks, with_report}
use Rattle.gx_rules.proofs.Rounds.{cancel-ways, graph-ways}
use Rattle.gx_waits.specs.declared.graph.LocalGraph.{LocalGraph}
use Rattle.gx_law_order.specs.Lists.{Each}
use Rattle.gx_law_order.proofs.Numbers.{NoStart}
use Rattle.gx_law_order.specs.Sessions.{Kept, is_working_in}
use Rattle.gx_law_order.specs.Stages.{stage, stage_in, stage_of}
use Rattle.gx_law_order.proofs.Statuses.{Closes, Moves, Turned, commit-turns, reply-turns}
use Rattle.gx_law_order.specs.Stages.Stage.{Closing, Live as LiveStage}
use Rattle.gx_store.proofs.Marks.{started_after-append}
use Rattle.gx_law_order.specs.Standings.{Part, Standing, at, gx, known_at, standing_in, waits_in}
use Rattle.gx_law_order.specs.Standings.Standing.{Live, Over}
use Rattle.gx_law_order.proofs.Answering.{NoAnswer, Settles, Tidy, answered-tidy, closed-tidy, refused-tidy, rests-tidy}
use Rattle.gx_law_order.proofs.Calls.{live-there, stands-as}
use Rattle.gx_law_order.proofs.Dispatching.{IsLive}
use Rattle.gx_law_order.proofs.Events.{live-stage}
use Rattle.gx_law_order.proofs.Nodes.{has-without}
use Rattle.gx_law_order.proofs.Ways.{CommandOf, Stands}

pub calm-started : (s : SessionId) (o : Option Gxid) (ns : List Mark) → Each NoStart ns → started_after s o ns ≡ o
calm-started s o [] e = refl
calm-started s o (mark.Start g t ∷ ns) e = absurd e.0
calm-started s o (m ∷ ns) e = calm-started s o ns e.1

failure-no-start : (i : Node) (g : Gxid) → Each NoStart (failure_marks i g)
failure-no-start i g = by_test (i.0 == 0)
  where
    by_test : (b : Bool) → Each NoStart (if b then mark.JournalFailed the_coordinator g ∷ [] else [])
    by_test true = (tt, tt)
    by_test false = tt

failure-no-answer : (i : Node) (g : Gxid) → Each NoAnswer (failure_marks i g)
failure-no-answer i g = by_test (i.0 == 0)
  where
    by_test : (b : Bool) → Each NoAnswer (if b then mark.JournalFailed the_coordinator g ∷ [] else [])
    by_test true = (tt, tt)
    by_test false = tt

module _ (script : Script) (P : ℕ → ℕ → Part) (c : Coord) (ms : List Mark) (st : Stands script P c ms) (k : Kept script c) (Gets : ℕ → ℕ → ℕ → Type 0) (starting : ℕ → Type 0) (last_is : (t : SessionId) (h : ℕ) → started_after t None ms ≡ Some (gx h) → (session_of c t).transaction.0 ≡ h) where
  abbrev TidyFrom : (ℕ → Session) → List Mark → CoordTurn → Type 0
  TidyFrom sessions earlier turn = Tidy script c ms Gets starting sessions earlier turn

  abbrev SettlesIt : ℕ → Type 0
  SettlesIt g = Settles script c ms Gets starting g

  same-others : (g : ℕ) (h : ℕ) → eqb h g ≡ false → c.works h ≡ c.works h
  same-others g h e = refl

  -- the session's last transaction
  pub home-settles : (g : ℕ) (s : SessionId) (before : List Mark) → Each NoStart before → (session_of c s).transaction.0 ≡ g → SettlesIt g → (h : ℕ) → started_after s None (ms ++ before) ≡ Some (gx h) → SettlesIt h × (h ≡ g)
  home-settles g s before calm mine settles h e =
      let same : g ≡ h = sym mine ∙ last_is s h (sym (started_after-append s None ms before ∙ calm-started s (started_after s None ms) before calm) ∙ e) in (subst SettlesIt same settles, sym same)

  pub rest-tidy : TidyFrom c.sessions [] (rests c)
  rest-tidy = rests-tidy script c ms Gets starting c 0 (same-others 0) [] c.table [] [] tt tt (λ i e. inl (e, refl))

  -- it isn't aborted while it runs
  pub alive-at : (g : ℕ) → ((known_at c ms 0 g).at ≡ Over → ⊥) → is_aborted ms (gx g) ≡ false
  alive-at g n = false_from_ne_true (is_aborted ms (gx g)) (λ e. n ((st.pairs 0 g).aborts e))

  pub live-alive : (g : ℕ) → IsLive c g → is_aborted ms (gx g) ≡ false
  live-alive g live = alive-at g (λ x. differ (known_at c ms 0 g).at (live-there script P c ms st k.whole g live.txn live.found live.active 0) x)
    where
      differ : (a : Standing) → a ≡ Live → a ≡ Over → ⊥
      differ a x y = grind arith

  closing-alive : (g : ℕ) → stage_of c g ≡ Closing → is_aborted ms (gx g) ≡ false
  closing-alive g e = by_found (find_txn c.table (gx g)) refl e
    where
      not-over : (p : Status) → stage_in p ≡ Closing → standing_in p 0 ≡ Over → ⊥
      not-over p x y = grind arith

      by_found : (o : Option Txn) → find_txn c.table (gx g) ≡ o → stage o ≡ Closing → is_aborted ms (gx g) ≡ false
      by_found None f e = absurd (cc)
      by_found (Some t) f e = alive-at g (λ x. not-over t.phase e (sym (stands-as script P c ms st k.whole g t f 0) ∙ x))

  -- commands are awaited only while it is live
  waits-live : (g i : ℕ) → waits_in (c.works g).command i ≡ true → (stage_of c g ≡ LiveStage) × (is_working_in (c.sessions (c.works g).session.0).state.pending ≡ true)
  waits-live g i e = by_command (c.works g).command refl e
    where
      by_command : (o : Option Command) → (c.works g).command ≡ o → waits_in o i ≡ true → (stage_of c g ≡ LiveStage) × (is_working_in (c.sessions (c.works g).session.0).state.pending ≡ true)
      by_command None f e = absurd (cc)
      by_command (Some m) f e = (k.tied g).awaits m f (λ z. differ (sym (ap (has (at i)) z) ∙ e))
        where
          differ : has (at i) [] ≡ true → ⊥
          differ q = grind arith

  -- ANSWERS OF SEGMENTS
  module _ (g : ℕ) (m : Command) (has_it : (c.works g).command ≡ Some m) (j : Node) (taken : has j m.awaited ≡ true) (wrote : Bool) (count : ℕ) (part : QueryPart) (gets : Gets j.0 g (c.works g).last) where
    abbrev w1 : Work
    w1 = record (c.works g) { writers = writers_with wrote j (c.works g).writers; command = Some (with_done m j count part) }

    abbrev c1 : Coord
    c1 = with_work c (gx g) w1

    waits-has : (i : ℕ) → waits_in (c.works g).command i ≡ true → has (at i) m.awaited ≡ true
    waits-has i e = sym (ap (λ o. waits_in o i) has_it) ∙ e

    runs-it : (stage_of c g ≡ LiveStage) × (is_working_in (c.sessions (c.works g).session.0).state.pending ≡ true)
    runs-it = waits-live g j.0 (ap (λ o. waits_in o j.0) has_it ∙ taken)

    mine : (session_of c (c.works g).session).transaction.0 ≡ g
    mine = ((k.tied g).live runs-it.0).0

    others1 : (h : ℕ) → eqb h g ≡ false → c1.works h ≡ c.works h
    others1 h e = ap (λ b. if b then w1 else c.works h) e

    work-now : c1.works g ≡ w1
    work-now = ap (λ q. if q then w1 else c.works g) (eqb-self g)

    all-back : without j m.awaited ≡ [] → SettlesIt g
    all-back e = record { waits = λ i h. by_same i (eqb j.0 i) refl (waits-has i h); alive = live-alive g (live-stage c g runs-it.0) }
      where
        none : (i : ℕ) (b : Bool) → eqb j.0 i ≡ b → has (at i) [] ≡ (if b then false else has (at i) m.awaited)
        none i b q = ap (has (at i)) (sym e) ∙ has-without (at i) j m.awaited ∙ ap (λ x. if x then false else has (at i) m.awaited) q

        by_same : (i : ℕ) (b : Bool) → eqb j.0 i ≡ b → has (at i) m.awaited ≡ true → Gets i g (c.works g).last
        by_same i true q h = subst (λ n. Gets n g (c.works g).last) (eqb-true j.0 i q) gets
        by_same i false q h = absurd (true-false (has (at i) m.awaited) h (sym (none i false q)))

    home-here : without j m.awaited ≡ [] → (before : List Mark) → Each NoStart before → (h : ℕ) → started_after (work_of c1 (gx g)).session None (ms ++ before) ≡ Some (gx h) → SettlesIt h × (h ≡ g)
    home-here e before calm h q =
        home-settles g (c.works g).session before calm mine (all-back e) h (subst (λ (w : Work). started_after w.session None (ms ++ before) ≡ Some (gx h)) work-now q)

    commit-tidy : without j m.awaited ≡ [] → TidyFrom c.sessions [] (commits c1 (gx g))
    commit-tidy e = by_outcome turn.out.outcome refl t.how
      where
        turn : Turn
        turn = on_commit c1.table (gx g) (work_of c1 (gx g)).writers

        t : Turned c1.table g turn (λ a b o. Closes b o)
        t = commit-turns c1.table g (work_of c1 (gx g)).writers k.whole runs-it.0

        by_outcome : (o : Outcome) → turn.out.outcome ≡ o → Closes (stage t.now) o → TidyFrom c.sessions [] (follows c1 (gx g) turn o)
        by_outcome outcome.Pending q h = rests-tidy script c ms Gets starting c1 g others1 [] turn.table turn.out.outs [] tt tt (λ i x. inr ((all-back e).waits i x))
        by_outcome outcome.Committed q h = closed-tidy script c ms Gets starting c1 g others1 [] turn (all-back e) (home-here e (mark.Commit (gx g) ∷ []) (tt, tt))
        by_outcome outcome.Decided q h = absurd h
        by_outcome (outcome.Refused i) q h = absurd h
        by_outcome outcome.Ended q h = absurd h

    inside-tidy : without j m.awaited ≡ [] → TidyFrom c.sessions [] (answers c1 (gx g) (work_of c1 (gx g)))
    inside-tidy e = answered-tidy script c ms Gets starting c1 g others1 [] (all-back e) (home-here e [] tt)

    complete-tidy : (b : Block) → without j m.awaited ≡ [] → TidyFrom c.sessions [] (completes c1 (gx g) b)
    complete-tidy Outside e = commit-tidy e
    complete-tidy (Open level) e = inside-tidy e
    complete-tidy Failed e = inside-tidy e

    on-tidy : (left : List Node) → without j m.awaited ≡ left → TidyFrom c.sessions [] (goes_on c1 (gx g) left)
    on-tidy [] e = complete-tidy _ e
    on-tidy (x ∷ xs) e =
        rests-tidy script c ms Gets starting c1 g others1 [] c1.table [] [] tt tt (λ i h. by_same i (eqb j.0 i) refl (waits-has i h))
      where
        by_same : (i : ℕ) (b : Bool) → eqb j.0 i ≡ b → has (at i) m.awaited ≡ true → ((waits_in (c1.works g).command i ≡ true) × ((c1.works g).last ≡ (c.works g).last)) ⊎ Gets i g (c.works g).last
        by_same i true q h = inr (subst (λ n. Gets n g (c.works g).last) (eqb-true j.0 i q) gets)
        by_same i false q h =
            inl (ap (λ (w : Work). waits_in w.command i) work-now ∙ has-without (at i) j m.awaited ∙ ap (λ b. if b then false else has (at i) m.awaited) q ∙ h, ap (λ (w : Work). w.last) work-now)

    done-tidy : TidyFrom c.sessions [] (takes_done c (gx g) j wrote count part m)
    done-tidy = on-tidy (without j m.awaited) refl

  on-done-tidy : (g : ℕ) (j : Node) (cid : Cid) (wrote : Bool) (count : ℕ) (part : QueryPart) → Gets j.0 g cid.0 → (m : Option Command) → (c.works g).command ≡ m → TidyFrom c.sessions [] (on_done c (gx g) j cid wrote count part m)
  on-done-tidy g j cid wrote count part gets None e = rest-tidy
  on-done-tidy g j cid wrote count part gets (Some m) e = by_test (is_awaited m j cid && fits_part m.stmt part) refl
    where
      number : eqb m.cid.0 cid.0 ≡ true → cid.0 ≡ (c.works g).last
      number q = sym (eqb-true m.cid.0 cid.0 q) ∙ (subst (CommandOf g (c.works g).last) e (st.works g).command).0

      by_test : (b : Bool) → (is_awaited m j cid && fits_part m.stmt part) ≡ b → TidyFrom c.sessions [] (if b then takes_done c (gx g) j wrote count part m else rests c)
      by_test true f = let x = and_parts _ _ (and_parts _ _ f).0 in done-tidy g m e j x.1 wrote count part (subst (Gets j.0 g) (number x.0) gets)
      by_test false f = rest-tidy

  on-failed-tidy : (g : ℕ) (j : Node) (cid : Cid) (cause : Cause) (m : Option Command) → TidyFrom c.sessions [] (on_failed c (gx g) j cid cause m)
  on-failed-tidy g j cid cause None = rest-tidy
  on-failed-tidy g j cid cause (Some m) = by_test (is_awaited m j cid)
    where
      by_test : (b : Bool) → TidyFrom c.sessions [] (if b then is_refused c (gx g) (on_abort c.table (gx g)) [] (reason_of cause) else rests c)
      by_test true = refused-tidy script c ms Gets starting c g (same-others g) [] (on_abort c.table (gx g)) [] (reason_of cause) tt tt
      by_test false = rest-tidy

  status-tidy : (g : ℕ) (turn : Turn) → Turned c.table g turn Moves → (o : Outcome) → (t : Turned c.table g turn Moves) → Moves (stage_of c g) (stage t.now) o → TidyFrom c.sessions [] (follows c (gx g) turn o)
  status-tidy g turn u outcome.Pending t h = rests-tidy script c ms Gets starting c g (same-others g) [] turn.table turn.out.outs [] tt tt (λ i x. inl (x, refl))
  status-tidy g turn u outcome.Decided t h = rests-tidy script c ms Gets starting c g (same-others g) [] turn.table turn.out.outs (mark.Decided (gx g) ∷ []) (tt, tt) (tt, tt) (λ i x. inl (x, refl))
  status-tidy g turn u outcome.Ended t h = rests-tidy script c ms Gets starting c g (same-others g) [] turn.table turn.out.outs [] tt tt (λ i x. inl (x, refl))
  status-tidy g turn u (outcome.Refused n) t h = refused-tidy script c ms Gets starting c g (same-others g) [] turn (failure_marks n (gx g)) _ (failure-no-start n (gx g)) (failure-no-answer n (gx g))
  status-tidy g turn u outcome.Committed t h = closed-tidy script c ms Gets starting c g (same-others g) [] turn settled (home-settles g (c.works g).session (mark.Commit (gx g) ∷ []) (tt, tt) ((k.tied g).closing h.0).0 settled)
    where
      differ : Closing ≡ LiveStage → ⊥
      differ z = cc

      settled : SettlesIt g
      settled = record { waits = λ i x. absurd (differ (sym h.0 ∙ (waits-live g i x).0)); alive = closing-alive g h.0 }

  on-status-tidy : (g : ℕ) (j : Node) (r : Reply) (fails : Bool) → TidyFrom c.sessions [] (on_status c (gx g) j r fails)
  on-status-tidy g j r fails =
      let t : Turned c.table g (on_reply c.table (gx g) j r fails) Moves = reply-turns c.table g j r fails k.whole in
      let x : TidyFrom c.sessions [] (follows c (gx g) (on_reply c.table (gx g) j r fails) (on_reply c.table (gx g) j r fails).out.outcome) = status-tidy g (on_reply c.table (gx g) j r fails) t (on_reply c.table (gx g) j r fails).out.outcome t t.how in
      record { lines = x.lines; transaction = x.transaction; marks = x.marks; works = x.works; may = x.may }

  -- rounds touch no transaction
  round-tidy : (round : ℕ) (reports : Option (List (Option LocalGraph))) (outs : List Out) (ns : List Mark) → Each NoStart ns → Each NoAnswer ns → TidyFrom c.sessions [] (record { coord = record c { rounds = round; reports = reports }; marks = ns; outs = outs; item = None })
  round-tidy round reports outs ns n a = rests-tidy script c ms Gets starting (record c { rounds = round; reports = reports }) 0 (same-others 0) [] c.table outs ns n a (λ i e. inl (e, refl))

  pub begins-tidy : TidyFrom c.sessions [] (begins_round script c)
  begins-tidy = round-tidy (c.rounds + 1) (begins_round script c).coord.reports (begins_round script c).outs [] tt tt

  -- a victim
  pub cancel-tidy : (g : Gxid) → TidyFrom c.sessions [] (cancels c g)
  cancel-tidy g =
      cancel-ways (TidyFrom c.sessions []) c g rest-tidy
      (λ live busy. refused-tidy script c ms Gets starting c g.0 (same-others g.0) [] (on_abort c.table g) [] (Victim c.rounds) tt tt)

  abbrev pub GetsBy : Node → Message → Type 0
  GetsBy j (message.Answer g (reply.Done cid wrote count part)) = Gets j.0 g.0 cid.0
  GetsBy j _ = Unit {0}

  answer-tidy : (g : ℕ) (j : Node) (fails : Bool) (r : Reply) → GetsBy j (message.Answer (gx g) r) → TidyFrom c.sessions [] (on_answer c (gx g) j fails r)
  answer-tidy g j fails (reply.Done cid wrote count part) d = on-done-tidy g j cid wrote count part d (c.works g).command refl
  answer-tidy g j fails (reply.Failed cid cause) d = on-failed-tidy g j cid cause (c.works g).command
  answer-tidy g j fails reply.Prepared d = on-status-tidy g j reply.Prepared fails
  answer-tidy g j fails reply.Committed d = on-status-tidy g j reply.Committed fails
  answer-tidy g j fails reply.Jfault d = on-status-tidy g j reply.Jfault fails
  answer-tidy g j fails reply.Again d = on-status-tidy g j reply.Again fails
  answer-tidy g j fails reply.Restarted d = on-status-tidy g j reply.Restarted fails
  answer-tidy g j fails reply.Aborted d = on-status-tidy g j reply.Aborted fails
  answer-tidy g j fails reply.Forgotten d = on-status-tidy g j reply.Forgotten fails

  pub message-tidy : (j : Node) (fails : Bool) (m : Message) → GetsBy j m → TidyFrom c.sessions [] (on_message c j fails m)
  message-tidy j fails (message.Answer g r) d = answer-tidy g.0 j fails r d
  message-tidy j fails (message.Exec g cid level x h y) d = rest-tidy
  message-tidy j fails (message.Prepare g) d = rest-tidy
  message-tidy j fails (message.Commit g) d = rest-tidy
  message-tidy j fails (message.CommitPrepared g) d = rest-tidy
  message-tidy j fails (message.Abort g) d = rest-tidy
  message-tidy j fails (message.Forget g) d = rest-tidy
  message-tidy j fails (message.Collect round) d = rest-tidy
  message-tidy j fails (message.Graph round graph) d =
      graph-ways (TidyFrom c.sessions []) c j round graph rest-tidy (λ e. round-tidy c.rounds (with_report c graph).reports [] [] tt tt)
      (λ e f. round-tidy c.rounds None [] (rechecks (with_report c graph)).marks (tt, tt) (tt, tt))
  message-tidy j fails message.Up d = rest-tidy

  pub again-tidy : (i : Node) (o : Option Message) → TidyFrom c.sessions [] (resends c i o)
  again-tidy i None = rest-tidy
  again-tidy i (Some m) = rests-tidy script c ms Gets starting c 0 (same-others 0) [] c.table (record { node = i; message = m } ∷ []) [] tt tt (λ i e. inl (e, refl))
