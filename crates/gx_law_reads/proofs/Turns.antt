-- What the coordinator's events keep of the snapshots by which commands read.
use Rattle.std.proofs.Common.{◌≡◌, ◌≤◌, ◌<◌, ℕ, ◌+◌, List, [], ◌∷◌, Option, Some, None, Bool, true, false, refl, sym, subst, ap, ◌∙◌, cond, if◌then◌else◌, ◌&&◌, arith, eqb}
use Rattle.std.proofs.lemmas.Bool.{eqb-true}
use Rattle.std.specs.Prelude.{option_map}
use Rattle.gx_lemmas.proofs.Numbers.{eqb-self}
use Rattle.gx_lemmas.proofs.Options.{none-some, some-same}
use Rattle.gx_ids.specs.declared.ids.Cid.{Cid}
use Rattle.gx_ids.specs.declared.ids.Gxid.{Gxid}
use Rattle.gx_ids.specs.declared.ids.Node.{Node}
use Rattle.gx_tree.specs.declared.part.Part.{Part}
use Rattle.gx_tree.specs.declared.stmt.Level.{Level}
use Rattle.gx_tree.specs.declared.stmt.Level.TheVariants.{ReadCommitted, RepeatableRead}
use Rattle.gx_dsnap.specs.declared.snapshot.Snapshot.{Snapshot}
use Rattle.gx_dtx.specs.Lives.{live_of}
use Rattle.gx_dtx.specs.Nodes.{without}
use Rattle.gx_dtx.specs.Rules.{abort_found, changed, commit_found, on_abort, on_commit, on_reply, reply_found, turns, with_live}
use Rattle.gx_dtx.specs.Table.{Table, find_txn, horizon_of}
use Rattle.gx_dtx.specs.declared.change.Change.{Change}
use Rattle.gx_dtx.specs.declared.outcome.Outcome.{Outcome}
use Rattle.gx_dtx.specs.declared.outcome.Outcome.TheVariants as outcome
use Rattle.gx_dtx.specs.declared.txn.Txn.{Txn}
use Rattle.gx_dtx.proofs.Finds.{find-with}
use Rattle.gx_msg.specs.declared.message.Message.{Message}
use Rattle.gx_msg.specs.declared.message.Message.TheVariants as message
use Rattle.gx_msg.specs.declared.message.Out.{Out}
use Rattle.gx_msg.specs.declared.reply.Cause.{Cause}
use Rattle.gx_msg.specs.declared.reply.Reply.{Reply}
use Rattle.gx_msg.specs.declared.reply.Reply.TheVariants as reply
use Rattle.gx_script.specs.declared.state.Block.{Block}
use Rattle.gx_script.specs.declared.state.Block.TheVariants.{Failed, Open, Outside}
use Rattle.gx_script.specs.declared.Script.{Script}
use Rattle.gx_store.specs.declared.answer.Refused.{Refused}
use Rattle.gx_store.specs.declared.answer.Refused.TheVariants.{Victim}
use Rattle.gx_store.specs.declared.mark.Mark.{Mark}
use Rattle.gx_rules.specs.AtCoordinator.{Reading, answers, awaited, begins, cancels, command_order, completes, dispatches, ends_in, enlisted_all, fault_mark, follows, goes, goes_on, goes_out, is_awaited, is_refused, kept_at, next_cid, next_line, nodes_in, on_answer, on_done, on_event, on_failed, on_line, on_message, on_status, order_of, order_to, orders_of, reads_by, reads_for, reason_of, refusal_of, resends, rolls_back, starts, starts_line, status_order, table_of, takes_done, takes_snapshot, unless_kept, with_done, writers_with}
use Rattle.gx_rules.specs.Coordinators.{Command, Coord, CoordTurn, Work, no_work, rests, session_of, with_work, work_of}
use Rattle.gx_rules.specs.Fits.{fits_part}
use Rattle.gx_rules.specs.Maps.{with_at}
use Rattle.gx_rules.specs.Rounds.{begins_round, on_graph, rechecks, with_report}
use Rattle.gx_rules.proofs.Rounds.{cancel-ways, graph-ways}
use Rattle.gx_waits.specs.declared.graph.LocalGraph.{LocalGraph}
use Rattle.gx_law_order.specs.Lists.{Each}
use Rattle.gx_law_order.proofs.Places.{collects-each}
use Rattle.gx_law_order.specs.Standings.{gx}
use Rattle.gx_law_order.specs.Stages.{stage}
use Rattle.gx_law_reads.proofs.Heights.{live-rises, rises-same}
use Rattle.gx_law_reads.proofs.Plain.{Mild, abort-mild, commit-mild, reply-mild, sent-fine}
use Rattle.gx_law_reads.proofs.Reading.{CommandLow, CountedIn, Fine, OrderHeld, OutFine, Reads, Stood, Went, Works, apart-same, at-self, le-refl, one-went, over-went, quiet-went, went-same}

-- what an event has made of what is known
pub record WentBy (c : Coord) (turn : CoordTurn) : Type 0 where
  pub went : Went c.table c.works turn.coord.table turn.coord.works
  pub outs : Each (OutFine turn.coord.table turn.coord.works) turn.outs

pub went-then : (d : Table) (ws : Works) (e : Table) (xs : Works) (u : Table) (vs : Works) → Went d ws e xs → ((m : Message) → CountedIn d ws m → CountedIn e xs m) → Went e xs u vs → Went d ws u vs
went-then d ws e xs u vs a k b =
    record { stood = b.stood; low = le-trans (horizon_of d).0 (horizon_of e).0 (horizon_of u).0 a.low b.low; fine = λ m c f. b.fine m (k m c) (a.fine m c f) }
  where
    le-trans : (a b c : ℕ) → a ≤ b → b ≤ c → a ≤ c
    le-trans a b c l m = omega arith

-- counts that stay
pub counted-by : (d e : Table) (ws xs : Works) → d.next.0 ≤ e.next.0 → ((j : ℕ) → j < d.next.0 → stage (find_txn e (gx j)) ≡ stage (find_txn d (gx j))) → ((j : ℕ) → j < d.next.0 → (xs j).last ≡ (ws j).last) → (m : Message) → CountedIn d ws m → CountedIn e xs m
counted-by d e ws xs n s l (message.Exec g c level x h slice) k = (le-then g.0 d.next.0 e.next.0 k.0 n, λ live. subst (λ i. c.0 ≤ i) (sym (l g.0 k.0)) (k.1 (sym (s g.0 k.0) ∙ live)))
  where
    le-then : (a b c : ℕ) → a < b → b ≤ c → a < c
    le-then a b c l m = omega arith
counted-by d e ws xs n s l (message.Prepare g) k = tt
counted-by d e ws xs n s l (message.Commit g) k = tt
counted-by d e ws xs n s l (message.CommitPrepared g) k = tt
counted-by d e ws xs n s l (message.Abort g) k = tt
counted-by d e ws xs n s l (message.Forget g) k = tt
counted-by d e ws xs n s l (message.Answer g r) k = tt
counted-by d e ws xs n s l (message.Collect round) k = tt
counted-by d e ws xs n s l (message.Graph round graph) k = tt
counted-by d e ws xs n s l message.Up k = tt

pub rest-went : (c : Coord) → Stood c.table c.works → WentBy c (rests c)
rest-went c s = record { went = went-same c.table c.works s; outs = tt }

-- ENDS
follows-went : (c : Coord) (g : ℕ) (ch : Change) → Stood c.table c.works → Mild ch (find_txn c.table (gx g)) → (o : Outcome) → WentBy c (follows c (gx g) (turns c.table (gx g) ch) o)
follows-went c g ch s m outcome.Pending = record { went = quiet-went c.table c.works g ch s m.quiet; outs = sent-fine (changed c.table (gx g) ch) c.works ch.out.outs m.sent }
follows-went c g ch s m outcome.Decided = record { went = quiet-went c.table c.works g ch s m.quiet; outs = sent-fine (changed c.table (gx g) ch) c.works ch.out.outs m.sent }
follows-went c g ch s m outcome.Committed = record { went = over-went c.table c.works g ch s; outs = sent-fine (changed c.table (gx g) ch) (with_at c.works g no_work) ch.out.outs m.sent }
follows-went c g ch s m (outcome.Refused i) = record { went = over-went c.table c.works g ch s; outs = sent-fine (changed c.table (gx g) ch) (with_at c.works g no_work) ch.out.outs m.sent }
follows-went c g ch s m outcome.Ended = record { went = quiet-went c.table c.works g ch s m.quiet; outs = sent-fine (changed c.table (gx g) ch) c.works ch.out.outs m.sent }

pub commits-went : (c : Coord) (g : ℕ) → Stood c.table c.works → WentBy c (Rattle.gx_rules.specs.AtCoordinator.commits c (gx g))
commits-went c g s =
    follows-went c g (commit_found (gx g) (c.works g).writers (find_txn c.table (gx g))) s (commit-mild (gx g) (c.works g).writers (find_txn c.table (gx g))) (on_commit c.table (gx g) (c.works g).writers).out.outcome

refused-went : (c : Coord) (g : ℕ) (why : List Mark) (reason : Refused) → Stood c.table c.works → WentBy c (is_refused c (gx g) (on_abort c.table (gx g)) why reason)
refused-went c g why reason s =
    let m = abort-mild (gx g) (find_txn c.table (gx g)) in
    record { went = over-went c.table c.works g (abort_found (gx g) (find_txn c.table (gx g))) s; outs = sent-fine (changed c.table (gx g) (abort_found (gx g) (find_txn c.table (gx g)))) (with_at c.works g no_work) (abort_found (gx g) (find_txn c.table (gx g))).out.outs m.sent }

pub rolled-went : (c : Coord) (g : ℕ) (marks : List Mark) → Stood c.table c.works → WentBy c (rolls_back c (gx g) marks (on_abort c.table (gx g)))
rolled-went c g marks s =
    let m = abort-mild (gx g) (find_txn c.table (gx g)) in
    record { went = over-went c.table c.works g (abort_found (gx g) (find_txn c.table (gx g))) s; outs = sent-fine (changed c.table (gx g) (abort_found (gx g) (find_txn c.table (gx g)))) (with_at c.works g no_work) (abort_found (gx g) (find_txn c.table (gx g))).out.outs m.sent }

-- A CHANGE OF WHAT IS KNOWN OF A TRANSACTION

pub work-went : (d : Table) (ws : Works) (g : ℕ) (v : Work) → Stood d ws → Reads (find_txn d (gx g)) v → CommandLow (horizon_of d) g v.command → ((cid : ℕ) (x : Snapshot) → Fine (find_txn d (gx g)) (ws g) cid x → Fine (find_txn d (gx g)) v cid x) → Went d ws d (with_at ws g v)
work-went d ws g v s r l f =
    one-went d d ws (with_at ws g v) g s (rises-same d s.sorted) (λ j e. refl) (λ j e. apart-same ws g v j e)
    (subst (Reads (find_txn d (gx g))) (sym (at-self ws g v)) r)
    (subst (λ (w : Work). CommandLow (horizon_of d) g w.command) (sym (at-self ws g v)) l)
    (λ cid x n k h. subst (λ w. Fine (find_txn d (gx g)) w cid x) (sym (at-self ws g v)) (f cid x h))

-- DONE
module _ (c : Coord) (g : ℕ) (s : Stood c.table c.works) (m : Command) (has_it : (c.works g).command ≡ Some m) (i : Node) (wrote : Bool) (count : ℕ) (part : Part) where
  abbrev done : Command
  done = with_done m i count part

  abbrev w1 : Work
  w1 = record (c.works g) { writers = writers_with wrote i (c.works g).writers; command = Some done }

  abbrev c1 : Coord
  c1 = with_work c (gx g) w1

  learned : Went c.table c.works c1.table c1.works
  learned =
      work-went c.table c.works g w1 s
      (record {
        plain = (s.reads g).plain;
        kept = (s.reads g).kept;
        ordered = λ l q e. subst (λ (z : Command). Each (λ (o : Out). OrderHeld (live_of (find_txn c.table (gx g))) o.message) z.orders) (some-same done q e) ((s.reads g).ordered l m has_it);
      })
      (subst (CommandLow (horizon_of c.table) g) has_it (s.orders g))
      (λ cid x f l q e h. f l m has_it (ap (λ (z : Command). z.cid.0) (some-same done q e) ∙ h))

  last-same : (j : ℕ) → (c1.works j).last ≡ (c.works j).last
  last-same j = by_test (eqb j g) refl
    where
      by_test : (b : Bool) → eqb j g ≡ b → (if b then w1 else c.works j).last ≡ (c.works j).last
      by_test true e = ap (λ k. (c.works k).last) (sym (eqb-true j g e))
      by_test false e = refl

  learned-counts : (told : Message) → CountedIn c.table c.works told → CountedIn c1.table c1.works told
  learned-counts = counted-by c.table c.table c.works c1.works (le-refl c.table.next.0) (λ j n. refl) (λ j n. last-same j)

  after-learned : (turn : CoordTurn) → WentBy c1 turn → WentBy c turn
  after-learned turn t = record { went = went-then c.table c.works c1.table c1.works turn.coord.table turn.coord.works learned learned-counts t.went; outs = t.outs }

pub live-apart : (d : Table) (g j : ℕ) (live : Option Gxid) → eqb j g ≡ false → find_txn (with_live d (gx g) live) (gx j) ≡ find_txn d (gx j)
live-apart d g j live e = find-with (gx g) (gx j) (λ t. record t { live = live }) d.txns ∙ ap (λ b. cond b (option_map (λ (t : Txn). record t { live = live }) (find_txn d (gx g))) (find_txn d (gx j))) e

pub live-here : (d : Table) (g : ℕ) (live : Option Gxid) → find_txn (with_live d (gx g) live) (gx g) ≡ option_map (λ (t : Txn). record t { live = live }) (find_txn d (gx g))
live-here d g live = find-with (gx g) (gx g) (λ t. record t { live = live }) d.txns ∙ ap (λ b. cond b (option_map (λ (t : Txn). record t { live = live }) (find_txn d (gx g))) (find_txn d (gx g))) (eqb-self g)

-- a command in a block is answered
answers-went : (c : Coord) (g : ℕ) → Stood c.table c.works → WentBy c (answers c (gx g) (c.works g))
answers-went c g s = record { went = by_level (c.works g).level refl; outs = tt }
  where
    v : Work
    v = record (c.works g) { command = None }

    by_level : (l : Level) → (c.works g).level ≡ l → Went c.table c.works (unless_kept l c.table (gx g)) (with_at c.works g v)
    by_level RepeatableRead e =
        work-went c.table c.works g v s (record { plain = (s.reads g).plain; kept = (s.reads g).kept; ordered = λ l m q. absurd (cc) }) tt (λ cid x f l m q h. absurd (cc))
    by_level ReadCommitted e =
        one-went c.table (with_live c.table (gx g) None) c.works (with_at c.works g v) g s (live-rises c.table (gx g) None s.sorted tt) (λ j q. live-apart c.table g j None q) (λ j q. apart-same c.works g v j q)
        (subst (Reads (find_txn (with_live c.table (gx g) None) (gx g))) (sym (at-self c.works g v)) (record { plain = (s.reads g).plain; kept = λ l x q. absurd (none-some (c.works g).snapshot x ((s.reads g).plain e) q); ordered = λ l m q. absurd (cc) }))
        (subst (λ (w : Work). CommandLow (horizon_of (with_live c.table (gx g) None)) g w.command) (sym (at-self c.works g v)) tt)
        (λ cid x n k f. subst (λ w. Fine (find_txn (with_live c.table (gx g) None) (gx g)) w cid x) (sym (at-self c.works g v)) (λ l m q h. absurd (none-some v.command m refl q)))

module _ (c : Coord) (g : ℕ) (s : Stood c.table c.works) where
  completes-went : (b : Block) → WentBy c (completes c (gx g) b)
  completes-went Outside = commits-went c g s
  completes-went (Open level) = answers-went c g s
  completes-went Failed = answers-went c g s

  goes-on-went : (left : List Node) → WentBy c (goes_on c (gx g) left)
  goes-on-went [] = completes-went (session_of c (work_of c (gx g)).session).state.block
  goes-on-went (i ∷ is) = rest-went c s

module _ (c : Coord) (g : ℕ) (s : Stood c.table c.works) where
  done-went : (i : Node) (cid : Cid) (wrote : Bool) (count : ℕ) (part : Part) (m : Option Command) → (c.works g).command ≡ m → WentBy c (on_done c (gx g) i cid wrote count part m)
  done-went i cid wrote count part None e = rest-went c s
  done-went i cid wrote count part (Some m) e = by_test (is_awaited m i cid && fits_part m.stmt part)
    where
      by_test : (b : Bool) → WentBy c (if b then takes_done c (gx g) i wrote count part m else rests c)
      by_test true = after-learned c g s m e i wrote count part _ (goes-on-went (c1 c g s m e i wrote count part) g (learned c g s m e i wrote count part).stood (without i m.awaited))
      by_test false = rest-went c s

  failed-went : (i : Node) (cid : Cid) (cause : Cause) (m : Option Command) → WentBy c (on_failed c (gx g) i cid cause m)
  failed-went i cid cause None = rest-went c s
  failed-went i cid cause (Some m) = by_test (is_awaited m i cid)
    where
      by_test : (b : Bool) → WentBy c (if b then is_refused c (gx g) (on_abort c.table (gx g)) [] (reason_of cause) else rests c)
      by_test true = refused-went c g [] (reason_of cause) s
      by_test false = rest-went c s

  status-went : (i : Node) (r : Reply) (fails : Bool) → WentBy c (on_status c (gx g) i r fails)
  status-went i r fails =
      let x = follows-went c g (reply_found (gx g) i r fails (find_txn c.table (gx g))) s (reply-mild (gx g) i r fails (find_txn c.table (gx g))) (on_reply c.table (gx g) i r fails).out.outcome in
      record { went = x.went; outs = x.outs }

  answer-went : (i : Node) (fails : Bool) (r : Reply) → WentBy c (on_answer c (gx g) i fails r)
  answer-went i fails (reply.Done cid wrote count part) = done-went i cid wrote count part (c.works g).command refl
  answer-went i fails (reply.Failed cid cause) = failed-went i cid cause (c.works g).command
  answer-went i fails reply.Prepared = status-went i reply.Prepared fails
  answer-went i fails reply.Committed = status-went i reply.Committed fails
  answer-went i fails reply.Jfault = status-went i reply.Jfault fails
  answer-went i fails reply.Again = status-went i reply.Again fails
  answer-went i fails reply.Restarted = status-went i reply.Restarted fails
  answer-went i fails reply.Aborted = status-went i reply.Aborted fails
  answer-went i fails reply.Forgotten = status-went i reply.Forgotten fails

-- rounds touch no transaction
round-went : (c : Coord) → Stood c.table c.works → (rounds : ℕ) (reports : Option (List (Option LocalGraph))) (ns : List Mark) → WentBy c (record { coord = record c { rounds = rounds; reports = reports }; marks = ns; outs = []; item = None })
round-went c s rounds reports ns = let x = rest-went c s in record { went = x.went; outs = tt }

pub begins-round-went : (script : Script) (c : Coord) → Stood c.table c.works → WentBy c (begins_round script c)
begins-round-went script c s = let x = rest-went c s in record { went = x.went; outs = collects-each (OutFine c.table c.works) script.segments (c.rounds + 1) (λ i one within. (tt, tt)) }

graph-went : (c : Coord) → Stood c.table c.works → (from : Node) (round : ℕ) (graph : LocalGraph) → WentBy c (on_graph c from round graph)
graph-went c s from round graph =
    graph-ways (WentBy c) c from round graph (rest-went c s) (λ e. round-went c s c.rounds (with_report c graph).reports []) (λ e f. round-went c s c.rounds None (rechecks (with_report c graph)).marks)

-- a victim
pub cancel-went : (c : Coord) (g : Gxid) → Stood c.table c.works → WentBy c (cancels c g)
cancel-went c g s = cancel-ways (WentBy c) c g (rest-went c s) (λ live busy. refused-went c g.0 [] (Victim c.rounds) s)

pub message-went : (c : Coord) → Stood c.table c.works → (from : Node) (fails : Bool) (m : Message) → WentBy c (on_message c from fails m)
message-went c s from fails (message.Answer g r) = answer-went c g.0 s from fails r
message-went c s from fails (message.Exec g cid level x h y) = rest-went c s
message-went c s from fails (message.Prepare g) = rest-went c s
message-went c s from fails (message.Commit g) = rest-went c s
message-went c s from fails (message.CommitPrepared g) = rest-went c s
message-went c s from fails (message.Abort g) = rest-went c s
message-went c s from fails (message.Forget g) = rest-went c s
message-went c s from fails (message.Collect round) = rest-went c s
message-went c s from fails (message.Graph round graph) = graph-went c s from round graph
message-went c s from fails message.Up = rest-went c s
