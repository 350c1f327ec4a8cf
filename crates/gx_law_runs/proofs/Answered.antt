-- What an answer leaves asked, at the coordinator.
use Rattle.std.proofs.Common.{◌≡◌, ℕ, List, [], ◌∷◌, Option, Some, None, Bool, true, false, refl, sym, subst, ap, ◌∙◌, if◌then◌else◌, ◌&&◌, ◌||◌, arith, eqb}
use Rattle.std.proofs.lemmas.Bool.{and_parts, eqb-true}
use Rattle.std.proofs.lemmas.Bool.Decides.{nat_tests}
use Rattle.gx_lemmas.proofs.Options.{some-same}
use Rattle.gx_lemmas.proofs.Numbers.{eqb-back, eqb-self}
use Rattle.gx_ids.specs.declared.ids.Cid.{Cid}
use Rattle.gx_ids.specs.declared.ids.Node.{Node}
use Rattle.gx_tree.specs.declared.part.Part.{Part}
use Rattle.gx_script.specs.declared.Script.{Script}
use Rattle.gx_dtx.specs.Nodes.{has, without}
use Rattle.gx_dtx.specs.Rules.{awaits_found, is_awaited as is_awaited_in, on_reply, order_found, order_in, reply_found, stays}
use Rattle.gx_dtx.specs.Table.{find_txn, participants_in}
use Rattle.gx_dtx.specs.declared.outcome.Outcome.TheVariants as outcome
use Rattle.gx_dtx.specs.declared.phase.Phase.{Phase}
use Rattle.gx_dtx.specs.declared.phase.Phase.TheVariants.{Active, Preparing, CommittingOne, CommittingTwo, Ended, Aborting}
use Rattle.gx_dtx.specs.declared.txn.Txn.{Txn}
use Rattle.gx_msg.specs.declared.message.Message.{Message}
use Rattle.gx_msg.specs.declared.message.Message.TheVariants as message
use Rattle.gx_msg.specs.declared.reply.Cause.{Cause}
use Rattle.gx_msg.specs.declared.reply.Reply.{Reply}
use Rattle.gx_msg.specs.declared.reply.Reply.TheVariants as reply
use Rattle.gx_store.specs.Journals.{is_same_node}
use Rattle.gx_store.specs.Schedule.{is_answer_to}
use Rattle.gx_rules.specs.AtCoordinator.{awaited, follows, goes_on, is_awaited, is_refused, on_answer, on_done, on_failed, on_status, order_to, reason_of, status_order, takes_done, with_done, writers_with}
use Rattle.gx_rules.specs.Coordinators.{Command, Coord, Work, rests, with_work, work_of}
use Rattle.gx_rules.specs.Fits.{fits_part}
use Rattle.gx_dtx.specs.Rules.{on_abort}
use Rattle.gx_law_order.specs.Sessions.{Kept}
use Rattle.gx_law_order.specs.Stages.{stage_in, stage_of}
use Rattle.gx_law_order.specs.Standings.{gx}
use Rattle.gx_law_order.specs.Stages.Stage.{Live}
use Rattle.gx_law_order.proofs.Dispatching.{IsLive}
use Rattle.gx_law_order.proofs.Events.{live-stage}
use Rattle.gx_law_order.proofs.Nodes.{AreApart, apart-with, has-with, has-without}
use Rattle.gx_law_runs.proofs.Asking.{AreNeat, Asked, Asks, asks-by, complete-asks, now_asked, refused-asks, rest-asks}
use Rattle.gx_law_runs.proofs.Neat.{IsDone, Neat, NeatCommand, NeatPhase, NeatTxn, done-waiting, reply-asks, waiting, waiting-none}
use Rattle.gx_law_runs.proofs.Replies.{IsAboutStatus, IsOfCommand, answer-other, exec-command, exec-no-status, order-no-command, status-alike, unanswered}

module _ {script : Script} (c : Coord) (k : Kept script c) (n : AreNeat c) where
  -- who isn't running its commands awaits none
  stage-done : (g : ℕ) → (stage_of c g ≡ Live → ⊥) → IsDone (c.works g).command
  stage-done g away = by_command (c.works g).command refl
    where
      by_awaited : (m : Command) → (c.works g).command ≡ Some m → (xs : List Node) → m.awaited ≡ xs → (i : Node) → has i xs ≡ false
      by_awaited m e [] q i = refl
      by_awaited m e (x ∷ xs) q i = absurd (away ((k.tied g).awaits m e (λ z. differ (sym z ∙ q))).0)
        where
          differ : [] ≡ x ∷ xs → ⊥
          differ z = cc

      by_command : (o : Option Command) → (c.works g).command ≡ o → IsDone o
      by_command None e = tt
      by_command (Some m) e = by_awaited m e m.awaited refl

  awaited-live : (g : ℕ) (m : Command) (j : Node) → (c.works g).command ≡ Some m → has j m.awaited ≡ true → IsLive c g
  awaited-live g m j e h = live-stage c g ((k.tied g).awaits m e (λ z. differ (sym (ap (has j) z) ∙ h))).0
    where
      differ : false ≡ true → ⊥
      differ z = cc

  module _ (g : ℕ) (j : Node) (r : Reply) where
    -- what the answer leaves
    abbrev pub left : Asked
    left i h = if is_same_node j i && is_answer_to (awaited c (gx h) i) (gx h) (Some (message.Answer (gx g) r)) then None else awaited c (gx h) i

    pub left-others : (i : Node) (h : ℕ) → eqb h g ≡ false → left i h ≡ awaited c (gx h) i
    left-others i h e = unanswered i j (awaited c (gx h) i) _ (answer-other (awaited c (gx h) i) g h r e)

    -- where it answers nothing
    rest-left : is_answer_to (awaited c (gx g) j) (gx g) (Some (message.Answer (gx g) r)) ≡ false → Asks left (rests c)
    rest-left none = asks-by (now_asked c) left (rests c) same (rest-asks c n)
      where
        here : (i : Node) (b : Bool) → eqb j.0 i.0 ≡ b → (if b && is_answer_to (awaited c (gx g) i) (gx g) (Some (message.Answer (gx g) r)) then None else awaited c (gx g) i) ≡ awaited c (gx g) i
        here i true e = ap (λ (b : Bool). if b then None else awaited c (gx g) i) (subst (λ x. is_answer_to (awaited c (gx g) (record { 0 = x })) (gx g) (Some (message.Answer (gx g) r)) ≡ false) (eqb-true j.0 i.0 e) none)
        here i false e = refl

        same : (i : Node) (h : ℕ) → left i h ≡ awaited c (gx h) i
        same i h = by_same (eqb h g) refl
          where
            by_same : (b : Bool) → eqb h g ≡ b → left i h ≡ awaited c (gx h) i
            by_same true e = subst (λ x. left i x ≡ awaited c (gx x) i) (sym (eqb-true h g e)) (here i (eqb j.0 i.0) refl)
            by_same false e = left-others i h e

    left-outside : (i : Node) → has i (participants_in (find_txn c.table (gx g))) ≡ false → left i g ≡ None
    left-outside i e = none (is_same_node j i && is_answer_to (awaited c (gx g) i) (gx g) (Some (message.Answer (gx g) r))) (awaited c (gx g) i) (waiting-none g (c.works g) (find_txn c.table (gx g)) i (n g) e)
      where
        none : (b : Bool) (o : Option Message) → o ≡ None → (if b then None else o) ≡ None
        none true o e = refl
        none false o e = e

  -- REPLIES ABOUT THE STATUS
  module _ (g : ℕ) (j : Node) (r : Reply) (fails : Bool) (about : IsAboutStatus r) where
    abbrev t : Option Txn
    t = find_txn c.table (gx g)

    -- no command is awaited
    quiet-status : IsDone (c.works g).command → Asks (left g j r) (on_status c (gx g) j r fails)
    quiet-status done =
        let f = follow done (on_reply c.table (gx g) j r fails).out.outcome in
        record { asked = f.asked; sends_one = f.sends_one; neat = f.neat }
      where
        is : (i : Node) → left g j r i g ≡ (if eqb j.0 i.0 && awaits_found j r (find_txn c.table (gx g)) then None else status_order (gx g) (order_found i (find_txn c.table (gx g))))
        is i =
            ap (λ a. if is_same_node j i && is_answer_to a (gx g) (Some (message.Answer (gx g) r)) then None else a) (done-waiting (c.works g).command (find_txn c.table (gx g)) (gx g) i done)
            ∙ by_same (eqb j.0 i.0) refl
          where
            by_same : (b : Bool) → eqb j.0 i.0 ≡ b → (if b && is_answer_to (status_order (gx g) (order_found i (find_txn c.table (gx g)))) (gx g) (Some (message.Answer (gx g) r)) then None else status_order (gx g) (order_found i (find_txn c.table (gx g)))) ≡ (if b && awaits_found j r (find_txn c.table (gx g)) then None else status_order (gx g) (order_found i (find_txn c.table (gx g))))
            by_same true e = ap (λ (b : Bool). if b then None else status_order (gx g) (order_found i (find_txn c.table (gx g)))) (subst (λ x. is_answer_to (status_order (gx g) (order_found (record { 0 = x }) (find_txn c.table (gx g)))) (gx g) (Some (message.Answer (gx g) r)) ≡ awaits_found j r (find_txn c.table (gx g))) (eqb-true j.0 i.0 e) (status-alike (find_txn c.table (gx g)) j g r about))
            by_same false e = refl

        follow : IsDone (c.works g).command → (o : Rattle.gx_dtx.specs.declared.outcome.Outcome.Outcome) → Asks (left g j r) (follows c (gx g) (on_reply c.table (gx g) j r fails) o)
        follow done o =
            Rattle.gx_law_runs.proofs.Asking.follow-asks c k.whole n g (left g j r) (left-others g j r) (reply_found (gx g) j r fails (find_txn c.table (gx g)))
            (reply-asks g (c.works g).writers (λ i. left g j r i g) j r fails (find_txn c.table (gx g)) (n g).txn is) done o

    -- the transaction runs its commands
    live-status : (live : IsLive c g) → Asks (left g j r) (on_status c (gx g) j r fails)
    live-status live = subst (λ ch. Asks (left g j r) (record (follows c (gx g) (Rattle.gx_dtx.specs.Rules.turns c.table (gx g) ch) ch.out.outcome) { item = Rattle.gx_rules.specs.AtCoordinator.item_for c.table (gx g) j r })) (sym nothing) resting
      where
        nothing : reply_found (gx g) j r fails (find_txn c.table (gx g)) ≡ stays
        nothing = ap (reply_found (gx g) j r fails) live.found ∙ by_phase live.txn.phase live.active
          where
            not : (r : Reply) → is_awaited_in Active j r ≡ false
            not (reply.Done d w m p) = refl
            not (reply.Failed d x) = refl
            not reply.Prepared = refl
            not reply.Committed = refl
            not reply.Jfault = refl
            not reply.Again = refl
            not reply.Restarted = refl
            not reply.Aborted = refl
            not reply.Forgotten = refl

            by_phase : (p : Phase) → p ≡ Active → (if is_awaited_in p j r then Rattle.gx_dtx.specs.Rules.takes (gx g) live.txn.participants j fails p r else stays) ≡ stays
            by_phase p e = subst (λ q. (if is_awaited_in q j r then Rattle.gx_dtx.specs.Rules.takes (gx g) live.txn.participants j fails q r else stays) ≡ stays) (sym e) (ap (λ (b : Bool). if b then Rattle.gx_dtx.specs.Rules.takes (gx g) live.txn.participants j fails Active r else stays) (not r))

        none : is_answer_to (awaited c (gx g) j) (gx g) (Some (message.Answer (gx g) r)) ≡ false
        none = by_command (c.works g).command refl (n g).command
          where
            status : is_answer_to (status_order (gx g) (order_found j (find_txn c.table (gx g)))) (gx g) (Some (message.Answer (gx g) r)) ≡ false
            status = ap (λ x. is_answer_to (status_order (gx g) (order_found j x)) (gx g) (Some (message.Answer (gx g) r))) live.found ∙ ap (λ p. is_answer_to (status_order (gx g) (order_in p j)) (gx g) (Some (message.Answer (gx g) r))) live.active

            by_command : (o : Option Command) → (c.works g).command ≡ o → NeatCommand g (participants_in (find_txn c.table (gx g))) o → is_answer_to (waiting o (find_txn c.table (gx g)) (gx g) j) (gx g) (Some (message.Answer (gx g) r)) ≡ false
            by_command None e f = status
            by_command (Some m) e f = by_test (has j m.awaited) refl
              where
                by_test : (b : Bool) → has j m.awaited ≡ b → is_answer_to (if b then order_to j m.orders else status_order (gx g) (order_found j (find_txn c.table (gx g)))) (gx g) (Some (message.Answer (gx g) r)) ≡ false
                by_test true q = exec-no-status (order_to j m.orders) g m.cid r (f j q).1 about
                by_test false q = status

        resting : Asks (left g j r) (record (follows c (gx g) (Rattle.gx_dtx.specs.Rules.turns c.table (gx g) stays) outcome.Pending) { item = Rattle.gx_rules.specs.AtCoordinator.item_for c.table (gx g) j r })
        resting = let f = rest-left g j r none in record { asked = f.asked; sends_one = f.sends_one; neat = f.neat }

    status-asks : Asks (left g j r) (on_status c (gx g) j r fails)
    status-asks = by_found (find_txn c.table (gx g)) refl
      where
        not-live : (o : Option Txn) → find_txn c.table (gx g) ≡ o → (Rattle.gx_law_order.specs.Stages.stage o ≡ Live → ⊥) → stage_of c g ≡ Live → ⊥
        not-live o f away e = away (sym (ap Rattle.gx_law_order.specs.Stages.stage f) ∙ e)

        by_phase : (x : Txn) → find_txn c.table (gx g) ≡ Some x → (p : Phase) → x.phase ≡ p → Asks (left g j r) (on_status c (gx g) j r fails)
        by_phase x f Active e = live-status (record { txn = x; found = f; active = e })
        by_phase x f (Preparing ws aw) e = quiet-status (stage-done g (not-live (Some x) f (λ q. absurd (differ (sym (ap stage_in e) ∙ q)))))
          where
            differ : stage_in (Preparing ws aw) ≡ Live → ⊥
            differ q = cc
        by_phase x f (CommittingOne w) e = quiet-status (stage-done g (not-live (Some x) f (λ q. absurd (differ (sym (ap stage_in e) ∙ q)))))
          where
            differ : stage_in (CommittingOne w) ≡ Live → ⊥
            differ q = cc
        by_phase x f (CommittingTwo aw) e = quiet-status (stage-done g (not-live (Some x) f (λ q. absurd (differ (sym (ap stage_in e) ∙ q)))))
          where
            differ : stage_in (CommittingTwo aw) ≡ Live → ⊥
            differ q = cc
        by_phase x f (Ended aw) e = quiet-status (stage-done g (not-live (Some x) f (λ q. absurd (differ (sym (ap stage_in e) ∙ q)))))
          where
            differ : stage_in (Ended aw) ≡ Live → ⊥
            differ q = cc
        by_phase x f (Aborting aw) e = quiet-status (stage-done g (not-live (Some x) f (λ q. absurd (differ (sym (ap stage_in e) ∙ q)))))
          where
            differ : stage_in (Aborting aw) ≡ Live → ⊥
            differ q = cc

        by_found : (o : Option Txn) → find_txn c.table (gx g) ≡ o → Asks (left g j r) (on_status c (gx g) j r fails)
        by_found None f = quiet-status (stage-done g (not-live None f (λ q. absurd (differ q))))
          where
            differ : Rattle.gx_law_order.specs.Stages.stage None ≡ Live → ⊥
            differ q = cc
        by_found (Some x) f = by_phase x f x.phase refl

  -- REPLIES TO A COMMAND
  module _ (g : ℕ) (j : Node) (cid : Cid) (r : Reply) (of : IsOfCommand cid r) where
    -- it isn't awaited
    not-asked : (m : Option Command) → (c.works g).command ≡ m → ((x : Command) → m ≡ Some x → is_awaited x j cid ≡ false) → Asks (left g j r) (rests c)
    not-asked m e away = rest-left g j r (ap (λ o. is_answer_to (waiting o (find_txn c.table (gx g)) (gx g) j) (gx g) (Some (message.Answer (gx g) r))) e ∙ by_command m (subst (NeatCommand g (participants_in (find_txn c.table (gx g)))) e (n g).command) away)
      where
        by_command : (m : Option Command) → NeatCommand g (participants_in (find_txn c.table (gx g))) m → ((x : Command) → m ≡ Some x → is_awaited x j cid ≡ false) → is_answer_to (waiting m (find_txn c.table (gx g)) (gx g) j) (gx g) (Some (message.Answer (gx g) r)) ≡ false
        by_command None f away = order-no-command (order_found j (find_txn c.table (gx g))) g cid r of
        by_command (Some x) f away = by_test (has j x.awaited) refl
          where
            other : (a b : ℕ) (q : Bool) → q ≡ true → (eqb a b && q) ≡ false → eqb b a ≡ false
            other a b q e f = grind (arith, nat_tests)

            by_test : (b : Bool) → has j x.awaited ≡ b → is_answer_to (if b then order_to j x.orders else status_order (gx g) (order_found j (find_txn c.table (gx g)))) (gx g) (Some (message.Answer (gx g) r)) ≡ false
            by_test true q = exec-command (order_to j x.orders) g x.cid cid r (f j q).1 of ∙ other x.cid.0 cid.0 (has j x.awaited) q (away x refl)
            by_test false q = order-no-command (order_found j (find_txn c.table (gx g))) g cid r of

    -- it is, and answers the node's order
    module _ (m : Command) (e : (c.works g).command ≡ Some m) (waits : is_awaited m j cid ≡ true) where
      is-there : has j m.awaited ≡ true
      is-there = (and_parts (eqb m.cid.0 cid.0) (has j m.awaited) waits).1

      live : IsLive c g
      live = awaited-live g m j e is-there

      command : NeatCommand g (participants_in (find_txn c.table (gx g))) (Some m)
      command = subst (NeatCommand g (participants_in (find_txn c.table (gx g)))) e (n g).command

      -- of the others the orders stay
      left-is : (i : Node) → left g j r i g ≡ (if eqb j.0 i.0 then None else (if has i m.awaited then order_to i m.orders else None))
      left-is i = ap (λ o. if is_same_node j i && is_answer_to (waiting o (find_txn c.table (gx g)) (gx g) i) (gx g) (Some (message.Answer (gx g) r)) then None else waiting o (find_txn c.table (gx g)) (gx g) i) e ∙ by_same (eqb j.0 i.0) refl
        where
          answered : is_answer_to (if has j m.awaited then order_to j m.orders else status_order (gx g) (order_found j (find_txn c.table (gx g)))) (gx g) (Some (message.Answer (gx g) r)) ≡ true
          answered =
              ap (λ (b : Bool). is_answer_to (if b then order_to j m.orders else status_order (gx g) (order_found j (find_txn c.table (gx g)))) (gx g) (Some (message.Answer (gx g) r))) is-there
              ∙ exec-command (order_to j m.orders) g m.cid cid r (command j is-there).1 of ∙ eqb-back m.cid.0 cid.0 (and_parts (eqb m.cid.0 cid.0) (has j m.awaited) waits).0

          quiet : (i : Node) → status_order (gx g) (order_found i (find_txn c.table (gx g))) ≡ None
          quiet i = ap (λ x. status_order (gx g) (order_found i x)) live.found ∙ ap (λ p. status_order (gx g) (order_in p i)) live.active

          by_same : (b : Bool) → eqb j.0 i.0 ≡ b → (if b && is_answer_to (waiting (Some m) (find_txn c.table (gx g)) (gx g) i) (gx g) (Some (message.Answer (gx g) r)) then None else waiting (Some m) (find_txn c.table (gx g)) (gx g) i) ≡ (if b then None else (if has i m.awaited then order_to i m.orders else None))
          by_same true q = ap (λ (b : Bool). if b then None else waiting (Some m) (find_txn c.table (gx g)) (gx g) i) (subst (λ x. is_answer_to (waiting (Some m) (find_txn c.table (gx g)) (gx g) (record { 0 = x })) (gx g) (Some (message.Answer (gx g) r)) ≡ true) (eqb-true j.0 i.0 q) answered)
          by_same false q = ap (λ o. if has i m.awaited then order_to i m.orders else o) (quiet i)

  -- DONE
  module _ (g : ℕ) (j : Node) (cid : Cid) (wrote : Bool) (count : ℕ) (part : Part) where
    abbrev r : Reply
    r = reply.Done cid wrote count part

    taken : (m : Command) → (c.works g).command ≡ Some m → is_awaited m j cid ≡ true → Asks (left g j r) (takes_done c (gx g) j wrote count part m)
    taken m e waits = asks-by (now_asked c1) (left g j (reply.Done cid wrote count part)) _ same (rest (without j m.awaited) refl)
      where
        w1 : Work
        w1 = record (work_of c (gx g)) { writers = writers_with wrote j (work_of c (gx g)).writers; command = Some (with_done m j count part) }

        c1 : Coord
        c1 = with_work c (gx g) (record (work_of c (gx g)) { writers = writers_with wrote j (work_of c (gx g)).writers; command = Some (with_done m j count part) })

        lives : IsLive c g
        lives = live g j cid (reply.Done cid wrote count part) refl m e waits

        own : c1.works g ≡ w1
        own = ap (λ b. if b then w1 else c.works g) (eqb-self g)

        quiet : (i : Node) → status_order (gx g) (order_found i (find_txn c.table (gx g))) ≡ None
        quiet i = ap (λ x. status_order (gx g) (order_found i x)) lives.found ∙ ap (λ p. status_order (gx g) (order_in p i)) lives.active

        here : (i : Node) → left g j (reply.Done cid wrote count part) i g ≡ waiting (Some (with_done m j count part)) (find_txn c.table (gx g)) (gx g) i
        here i =
            left-is g j cid (reply.Done cid wrote count part) refl m e waits i ∙ plain (eqb j.0 i.0) (has i m.awaited) (order_to i m.orders)
            ∙ ap (λ (b : Bool). if b then order_to i m.orders else None) (sym (has-without i j m.awaited)) ∙ ap (λ o. if has i (without j m.awaited) then order_to i m.orders else o) (sym (quiet i))
          where
            plain : (a b : Bool) (o : Option Message) → (if a then None else (if b then o else None)) ≡ (if (if a then false else b) then o else None)
            plain true b o = refl
            plain false b o = refl

        same : (i : Node) (h : ℕ) → left g j (reply.Done cid wrote count part) i h ≡ awaited c1 (gx h) i
        same i h = by_same (eqb h g) refl
          where
            by_same : (b : Bool) → eqb h g ≡ b → left g j (reply.Done cid wrote count part) i h ≡ waiting (if b then w1 else c.works h).command (find_txn c.table (gx h)) (gx h) i
            by_same true q = subst (λ x. left g j (reply.Done cid wrote count part) i x ≡ waiting w1.command (find_txn c.table (gx x)) (gx x) i) (sym (eqb-true h g q)) (here i)
            by_same false q = left-others g j (reply.Done cid wrote count part) i h q

        apart : (b : Bool) (ws : List Node) → AreApart ws → AreApart (writers_with b j ws)
        apart true ws a = apart-with j ws a
        apart false ws a = a

        joins : (b : Bool) (ws ps : List Node) → has j ps ≡ true → ((i : Node) → has i ws ≡ true → has i ps ≡ true) → (i : Node) → has i (writers_with b j ws) ≡ true → has i ps ≡ true
        joins false ws ps q f i h = f i h
        joins true ws ps q f i h = by_same (eqb j.0 i.0) refl (sym (has-with i j ws) ∙ h)
          where
            by_same : (b : Bool) → eqb j.0 i.0 ≡ b → (b || has i ws) ≡ true → has i ps ≡ true
            by_same true e x = subst (λ y. has (record { 0 = y }) ps ≡ true) (eqb-true j.0 i.0 e) q
            by_same false e x = f i x

        n1 : AreNeat c1
        n1 h = by_same (eqb h g) refl
          where
            old : NeatTxn (c.works g).writers (Some lives.txn)
            old = subst (NeatTxn (c.works g).writers) lives.found (n g).txn

            among : (i : Node) → has i (c.works g).writers ≡ true → has i lives.txn.participants ≡ true
            among = subst (NeatPhase (c.works g).writers lives.txn.participants) lives.active old.1

            its : has j lives.txn.participants ≡ true
            its = subst (λ x. has j (participants_in x) ≡ true) lives.found (command g j cid (reply.Done cid wrote count part) refl m e waits j (is-there g j cid (reply.Done cid wrote count part) refl m e waits)).0

            fewer : (i : Node) → has i (without j m.awaited) ≡ true → has i m.awaited ≡ true
            fewer i q = by_test (eqb j.0 i.0) (sym (has-without i j m.awaited) ∙ q)
              where
                by_test : (b : Bool) → (if b then false else has i m.awaited) ≡ true → has i m.awaited ≡ true
                by_test true e = absurd (cc)
                by_test false e = e

            new : Neat g w1 (find_txn c.table (gx g))
            new = record {
              writers = apart wrote (c.works g).writers (n g).writers;
              txn = subst (NeatTxn w1.writers) (sym lives.found) (old.0, subst (NeatPhase w1.writers lives.txn.participants) (sym lives.active) (joins wrote (c.works g).writers lives.txn.participants its among));
              command = λ i q. command g j cid (reply.Done cid wrote count part) refl m e waits i (fewer i q);
            }

            by_same : (b : Bool) → eqb h g ≡ b → Neat h (if b then w1 else c.works h) (find_txn c.table (gx h))
            by_same true q = subst (λ x. Neat x w1 (find_txn c.table (gx x))) (sym (eqb-true h g q)) new
            by_same false q = n h

        rest : (xs : List Node) → without j m.awaited ≡ xs → Asks (now_asked c1) (goes_on c1 (gx g) xs)
        rest (x ∷ xs) q = rest-asks c1 n1
        rest [] q = complete-asks c1 k.whole n1 g (subst (λ (w : Work). IsDone w.command) (sym own) (λ i. ap (has i) q)) (record { txn = lives.txn; found = lives.found; active = lives.active }) _

    pub done-asks : (m : Option Command) → (c.works g).command ≡ m → ((x : Command) → m ≡ Some x → is_awaited x j cid ≡ true → fits_part x.stmt part ≡ true) → Asks (left g j r) (on_done c (gx g) j cid wrote count part m)
    done-asks None e fits = not-asked g j cid (reply.Done cid wrote count part) refl None e (λ x q. absurd (cc))
    done-asks (Some m) e fits = by_waits (is_awaited m j cid) refl
      where
        by_waits : (b : Bool) → is_awaited m j cid ≡ b → Asks (left g j (reply.Done cid wrote count part)) (if b && fits_part m.stmt part then takes_done c (gx g) j wrote count part m else rests c)
        by_waits true q = subst (λ (b : Bool). Asks (left g j (reply.Done cid wrote count part)) (if b then takes_done c (gx g) j wrote count part m else rests c)) (sym (fits m refl q)) (taken m e q)
        by_waits false q = not-asked g j cid (reply.Done cid wrote count part) refl (Some m) e (λ x z. subst (λ (y : Command). is_awaited y j cid ≡ false) (some-same m x z) q)

  -- FAILED
  pub failed-asks : (g : ℕ) (j : Node) (cid : Cid) (why : Cause) (m : Option Command) → (c.works g).command ≡ m → Asks (left g j (reply.Failed cid why)) (on_failed c (gx g) j cid why m)
  failed-asks g j cid why None e = not-asked g j cid (reply.Failed cid why) refl None e (λ x q. absurd (cc))
  failed-asks g j cid why (Some m) e = by_waits (is_awaited m j cid) refl
    where
      by_waits : (b : Bool) → is_awaited m j cid ≡ b → Asks (left g j (reply.Failed cid why)) (if b then is_refused c (gx g) (on_abort c.table (gx g)) [] (reason_of why) else rests c)
      by_waits true q = refused-asks c k.whole n g (left g j (reply.Failed cid why)) (left-others g j (reply.Failed cid why)) (left-outside g j (reply.Failed cid why)) [] (reason_of why)
      by_waits false q = not-asked g j cid (reply.Failed cid why) refl (Some m) e (λ x z. subst (λ (y : Command). is_awaited y j cid ≡ false) (some-same m x z) q)

  -- ALL ANSWERS
  abbrev pub FitsIn : ℕ → Node → Reply → Type 0
  FitsIn g j (reply.Done cid wrote count part) = (x : Command) → (c.works g).command ≡ Some x → is_awaited x j cid ≡ true → fits_part x.stmt part ≡ true
  FitsIn g j _ = Unit {0}

  pub answer-asks : (g : ℕ) (j : Node) (fails : Bool) (r : Reply) → FitsIn g j r → Asks (left g j r) (on_answer c (gx g) j fails r)
  answer-asks g j fails (reply.Done cid wrote count part) f = done-asks g j cid wrote count part (c.works g).command refl f
  answer-asks g j fails (reply.Failed cid why) f = failed-asks g j cid why (c.works g).command refl
  answer-asks g j fails reply.Prepared f = status-asks g j reply.Prepared fails tt
  answer-asks g j fails reply.Committed f = status-asks g j reply.Committed fails tt
  answer-asks g j fails reply.Jfault f = status-asks g j reply.Jfault fails tt
  answer-asks g j fails reply.Again f = status-asks g j reply.Again fails tt
  answer-asks g j fails reply.Restarted f = status-asks g j reply.Restarted fails tt
  answer-asks g j fails reply.Aborted f = status-asks g j reply.Aborted fails tt
  answer-asks g j fails reply.Forgotten f = status-asks g j reply.Forgotten fails tt
