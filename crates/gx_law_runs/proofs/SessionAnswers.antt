-- What an answer makes of the session of its transaction.
use Rattle.std.proofs.Common.{◌≡◌, inl, inr, ℕ, List, [], ◌∷◌, Option, Some, None, Bool, true, false, refl, sym, subst, ap, ◌∙◌, if◌then◌else◌, ◌&&◌, eqb}
use Rattle.std.specs.Prelude.{is_some}
use Rattle.std.proofs.lemmas.Bool.{and_parts}
use Rattle.gx_lemmas.proofs.Numbers.{eqb-self}
use Rattle.gx_lemmas.proofs.Tests.{false-true}
use Rattle.gx_ids.specs.declared.ids.Cid.{Cid}
use Rattle.gx_ids.specs.declared.ids.Node.{Node}
use Rattle.gx_tree.specs.declared.part.Part.{Part}
use Rattle.gx_dtx.specs.Nodes.{has, without}
use Rattle.gx_dtx.specs.Rules.{changed, decides, finishes, is_awaited as is_awaited_in, on_abort, on_reply, prepares, reply_found, stays, takes}
use Rattle.gx_dtx.specs.Table.{find_txn, participants_in}
use Rattle.gx_dtx.specs.declared.order.Order.TheVariants as order
use Rattle.gx_dtx.specs.declared.phase.Phase.{Phase}
use Rattle.gx_dtx.specs.declared.phase.Phase.TheVariants.{Active, Preparing, CommittingOne, CommittingTwo, Ended, Aborting}
use Rattle.gx_dtx.specs.declared.txn.Txn.{Txn}
use Rattle.gx_msg.specs.declared.reply.Cause.{Cause}
use Rattle.gx_msg.specs.declared.reply.Reply.{Reply}
use Rattle.gx_msg.specs.declared.reply.Reply.TheVariants as reply
use Rattle.gx_script.specs.declared.Script.{Script}
use Rattle.gx_script.specs.declared.state.Block.{Block}
use Rattle.gx_script.specs.declared.state.Block.TheVariants as block
use Rattle.gx_rules.specs.AtCoordinator.{completes, goes_on, is_awaited, is_refused, item_for, on_answer, on_done, on_failed, on_status, order_to, reason_of, takes_done, with_done, writers_with}
use Rattle.gx_rules.specs.Coordinators.{Command, Coord, Work, rests, with_work, work_of}
use Rattle.gx_rules.specs.Fits.{fits_part}
use Rattle.gx_law_order.specs.Sessions.{Kept}
use Rattle.gx_law_order.specs.Stages.{Stage, stage, stage_in, stage_of}
use Rattle.gx_law_order.proofs.Stages.{left_of}
use Rattle.gx_law_order.specs.Standings.{gx}
use Rattle.gx_law_order.specs.Stages.Stage.{Dropped, Finished, Live}
use Rattle.gx_law_order.proofs.Dispatching.{IsLive}
use Rattle.gx_law_order.proofs.Events.{live-stage}
use Rattle.gx_law_order.proofs.Nodes.{has-without}
use Rattle.gx_law_runs.proofs.Asking.{AreNeat}
use Rattle.gx_law_runs.proofs.Neat.{IsDone, NeatCommand, NeatPhase, NeatTxn}
use Rattle.gx_law_runs.proofs.Asked.{IsAsked, IsBusy, IsOrdered, command-asked, done-unless, exec-some, has-first, ordered-asked}
use Rattle.gx_law_runs.proofs.Turns.{Goes, answer-settles, changed-finds, commits-goes, ended-not, follows-goes, goes-by, goes-with, refused-settles, settles}

-- a transaction that has its Commit or Abort mark, and isn't forgotten
abbrev pub is_over : Stage → Bool
is_over Finished = true
is_over Dropped = true
is_over _ = false

-- STATUSES
module _ (g : ℕ) (t : Txn) (j : Node) (fails : Bool) where
  decides-ordered : (xs : List Node) (b : Bool) (i : Node) → has i xs ≡ true → settles (decides (gx g) xs t.participants b).out.outcome ≡ false → IsOrdered (left_of (decides (gx g) xs t.participants b).step (Some t))
  decides-ordered xs false i h e = (i, ap (λ (q : Bool). is_some (if q then Some order.CommitPrepared else None)) h)
  decides-ordered xs true i h e = absurd (cc)

  prepares-ordered : (xs rest : List Node) (i : Node) → has i xs ≡ true → settles (prepares (gx g) xs t.participants rest fails).out.outcome ≡ false → IsOrdered (left_of (prepares (gx g) xs t.participants rest fails).step (Some t))
  prepares-ordered xs [] i h e = decides-ordered xs fails i h e
  prepares-ordered xs (y ∷ ys) i h e = (y, ap (λ (q : Bool). is_some (if q then Some order.Prepare else None)) (has-first y ys))

  finishes-ordered : (rest : List Node) → settles (finishes (gx g) t.participants rest).out.outcome ≡ false → IsOrdered (left_of (finishes (gx g) t.participants rest).step (Some t))
  finishes-ordered [] e = ended-not g t.participants e
  finishes-ordered (y ∷ ys) e = (y, ap (λ (q : Bool). is_some (if q then Some order.CommitPrepared else None)) (has-first y ys))

  takes-ordered : (ws : List Node) (p : Phase) (r : Reply) → is_awaited_in p j r ≡ true → NeatPhase ws t.participants p → is_over (stage_in p) ≡ false → settles (takes (gx g) t.participants j fails p r).out.outcome ≡ false → IsOrdered (left_of (takes (gx g) t.participants j fails p r).step (Some t))
  takes-ordered ws (Preparing xs aw) reply.Prepared e n o s = prepares-ordered xs (without j aw) j (n.2 j e) s
  takes-ordered ws (Preparing xs aw) reply.Jfault e n o s = absurd (cc)
  takes-ordered ws (CommittingOne x) reply.Committed e n o s = ended-not g t.participants s
  takes-ordered ws (CommittingOne x) reply.Jfault e n o s = absurd (cc)
  takes-ordered ws (CommittingTwo aw) reply.Committed e n o s = finishes-ordered (without j aw) s
  takes-ordered ws (Ended aw) r e n o s = absurd (cc)
  takes-ordered ws (Aborting aw) r e n o s = absurd (cc)
  takes-ordered ws p r e n o s = absurd (cc)

module _ {script : Script} (c : Coord) (k : Kept script c) (n : AreNeat c) (g : ℕ) where
  -- what is known before the answer
  abbrev pub Before : Type 0
  Before = IsBusy c g × (is_over (stage_of c g) ≡ false)

  rest-goes : Goes Before c g (rests c)
  rest-goes = inl (record { sessions = λ j. refl; asked = λ b. b.0; spares = λ h e. refl })

  -- who isn't running its commands awaits none
  stage-done : (stage_of c g ≡ Live → ⊥) → IsDone (c.works g).command
  stage-done away = done-unless (c.works g).command (λ m e waits. away ((k.tied g).awaits m e waits).0)

  module _ (j : Node) (fails : Bool) where
    -- REPLIES ABOUT THE STATUS
    module _ (r : Reply) where
      not-live : (p : Phase) → is_awaited_in p j r ≡ true → stage_in p ≡ Live → ⊥
      not-live Active e h = by_reply r e
        where
          by_reply : (r : Reply) → is_awaited_in Active j r ≡ true → ⊥
          by_reply (reply.Done d w m p) e = cc
          by_reply (reply.Failed d x) e = cc
          by_reply reply.Prepared e = cc
          by_reply reply.Committed e = cc
          by_reply reply.Jfault e = cc
          by_reply reply.Again e = cc
          by_reply reply.Restarted e = cc
          by_reply reply.Aborted e = cc
          by_reply reply.Forgotten e = cc
      not-live (Preparing xs aw) e h = cc
      not-live (CommittingOne x) e h = cc
      not-live (CommittingTwo aw) e h = cc
      not-live (Ended aw) e h = cc
      not-live (Aborting aw) e h = cc

      taken-asked : (t : Txn) → find_txn c.table (gx g) ≡ Some t → is_awaited_in t.phase j r ≡ true → settles (takes (gx g) t.participants j fails t.phase r).out.outcome ≡ false → Before → IsAsked (record c { table = changed c.table (gx g) (takes (gx g) t.participants j fails t.phase r) }) g
      taken-asked t f e s b =
          ordered-asked (record c { table = changed c.table (gx g) (takes (gx g) t.participants j fails t.phase r) }) g (left_of (takes (gx g) t.participants j fails t.phase r).step (Some t))
          (stage-done (λ h. not-live t.phase e (sym (ap stage f) ∙ h)))
          (changed-finds Before c g k.whole (takes (gx g) t.participants j fails t.phase r) ∙ ap (left_of (takes (gx g) t.participants j fails t.phase r).step) f)
          (takes-ordered g t j fails (c.works g).writers t.phase r e (subst (NeatTxn (c.works g).writers) f (n g).txn).1 (sym (ap (λ x. is_over (stage x)) f) ∙ b.1) s)

      reply-asked : (o : Option Txn) → find_txn c.table (gx g) ≡ o → settles (reply_found (gx g) j r fails o).out.outcome ≡ false → Before → IsBusy (record c { table = changed c.table (gx g) (reply_found (gx g) j r fails o) }) g
      reply-asked None f s b = b.0
      reply-asked (Some t) f s b = by_test (is_awaited_in t.phase j r) refl s
        where
          by_test : (q : Bool) → is_awaited_in t.phase j r ≡ q → settles (if q then takes (gx g) t.participants j fails t.phase r else stays).out.outcome ≡ false → IsBusy (record c { table = changed c.table (gx g) (if q then takes (gx g) t.participants j fails t.phase r else stays) }) g
          by_test true e s = inl (taken-asked t f e s b)
          by_test false e s = b.0

      status-goes : Goes Before c g (on_status c (gx g) j r fails)
      status-goes = goes-with Before c g _ (item_for c.table (gx g) j r) (follows-goes Before c g (on_reply c.table (gx g) j r fails) _ (reply-asked (find_txn c.table (gx g)) refl))

    -- REPLIES TO A COMMAND
    module _ (wrote : Bool) (count : ℕ) (part : Part) (m : Command) (it : (c.works g).command ≡ Some m) (there : has j m.awaited ≡ true) where
      abbrev work : Work
      work = record (work_of c (gx g)) { writers = writers_with wrote j (work_of c (gx g)).writers; command = Some (with_done m j count part) }

      abbrev next : Coord
      next = with_work c (gx g) work

      own : next.works g ≡ work
      own = ap (λ (b : Bool). if b then work else c.works g) (eqb-self g)

      live : IsLive c g
      live = live-stage c g ((k.tied g).awaits m it (λ z. false-true (sym (ap (has j) z) ∙ there))).0

      -- who is still awaited has an order
      ordered : (i : Node) → has i (without j m.awaited) ≡ true → is_some (order_to i m.orders) ≡ true
      ordered i q = exec-some g m.cid (order_to i m.orders) (command i (by_same (eqb j.0 i.0) (sym (has-without i j m.awaited) ∙ q))).1
        where
          command : NeatCommand g (participants_in (find_txn c.table (gx g))) (Some m)
          command = subst (NeatCommand g (participants_in (find_txn c.table (gx g)))) it (n g).command

          by_same : (b : Bool) → (if b then false else has i m.awaited) ≡ true → has i m.awaited ≡ true
          by_same true e = absurd (cc)
          by_same false e = e

      completes-goes : without j m.awaited ≡ [] → (b : Block) → Goes Before next g (completes next (gx g) b)
      completes-goes q block.Outside =
          commits-goes Before next g k.whole (record { txn = live.txn; found = live.found; active = live.active }) (subst (λ (w : Work). IsDone w.command) (sym own) (λ i. ap (has i) q))
      completes-goes q (block.Open l) = inr (answer-settles Before next g)
      completes-goes q block.Failed = inr (answer-settles Before next g)

      goes-on : (rest : List Node) → without j m.awaited ≡ rest → Goes Before next g (goes_on next (gx g) rest)
      goes-on [] q = completes-goes q _
      goes-on (i ∷ is) q =
          let first : has i (without j m.awaited) ≡ true = ap (has i) q ∙ has-first i is in
          inl (record { sessions = λ l. refl; asked = λ b. inl (command-asked next g (with_done m j count part) i (ap (λ (w : Work). w.command) own) first (ordered i first)); spares = λ h e. refl })

      done-goes : Goes Before c g (takes_done c (gx g) j wrote count part m)
      done-goes = goes-by Before next c g _ refl (ap (λ (w : Work). w.session) own) (λ h e. refl) (goes-on (without j m.awaited) refl)

    on-done-goes : (cid : Cid) (wrote : Bool) (count : ℕ) (part : Part) (m : Option Command) → (c.works g).command ≡ m → Goes Before c g (on_done c (gx g) j cid wrote count part m)
    on-done-goes cid wrote count part None e = rest-goes
    on-done-goes cid wrote count part (Some m) e = by_test (is_awaited m j cid && fits_part m.stmt part) refl
      where
        by_test : (b : Bool) → (is_awaited m j cid && fits_part m.stmt part) ≡ b → Goes Before c g (if b then takes_done c (gx g) j wrote count part m else rests c)
        by_test true q = done-goes wrote count part m e (and_parts _ _ (and_parts _ _ q).0).1
        by_test false q = rest-goes

    on-failed-goes : (cid : Cid) (why : Cause) (m : Option Command) → Goes Before c g (on_failed c (gx g) j cid why m)
    on-failed-goes cid why None = rest-goes
    on-failed-goes cid why (Some m) = by_test (is_awaited m j cid)
      where
        by_test : (b : Bool) → Goes Before c g (if b then is_refused c (gx g) (on_abort c.table (gx g)) [] (reason_of why) else rests c)
        by_test true = inr (refused-settles Before c g (on_abort c.table (gx g)) [] (reason_of why))
        by_test false = rest-goes

    -- ALL ANSWERS
    pub answer-goes : (r : Reply) → Goes Before c g (on_answer c (gx g) j fails r)
    answer-goes (reply.Done cid wrote count part) = on-done-goes cid wrote count part (c.works g).command refl
    answer-goes (reply.Failed cid why) = on-failed-goes cid why (c.works g).command
    answer-goes reply.Prepared = status-goes reply.Prepared
    answer-goes reply.Committed = status-goes reply.Committed
    answer-goes reply.Jfault = status-goes reply.Jfault
    answer-goes reply.Again = status-goes reply.Again
    answer-goes reply.Restarted = status-goes reply.Restarted
    answer-goes reply.Aborted = status-goes reply.Aborted
    answer-goes reply.Forgotten = status-goes reply.Forgotten
