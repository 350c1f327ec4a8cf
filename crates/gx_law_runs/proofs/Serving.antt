-- The orders of a command, and the EXECs that were sent for it, are of its statement.
use Rattle.std.proofs.Common.{◌≡◌, ◌⊎◌, inl, inr, ℕ, ◌+◌, List, [], ◌∷◌, Option, Some, None, Bool, true, false, refl, sym, ap, ◌∙◌, if◌then◌else◌, ◌&&◌, eqb}
use Rattle.std.proofs.lemmas.Bool.{eqb-true}
use Rattle.gx_ids.specs.declared.ids.Cid.{Cid}
use Rattle.gx_ids.specs.declared.ids.Gxid.{Gxid}
use Rattle.gx_ids.specs.declared.ids.Node.{Node}
use Rattle.gx_tree.specs.declared.part.Part.{Part}
use Rattle.gx_tree.specs.declared.stmt.Stmt.{Stmt}
use Rattle.gx_dtx.specs.Rules.{Turn, on_abort, on_commit, on_reply}
use Rattle.gx_dtx.specs.declared.order.Order.{Order}
use Rattle.gx_dtx.specs.declared.order.Order.TheVariants as order
use Rattle.gx_dtx.specs.declared.outcome.Outcome.{Outcome}
use Rattle.gx_dtx.specs.declared.outcome.Outcome.TheVariants as outcome
use Rattle.gx_msg.specs.declared.message.Message.{Message}
use Rattle.gx_msg.specs.declared.message.Message.TheVariants as message
use Rattle.gx_msg.specs.declared.message.Out.{Out}
use Rattle.gx_msg.specs.declared.reply.Cause.{Cause}
use Rattle.gx_msg.specs.declared.reply.Reply.{Reply}
use Rattle.gx_msg.specs.declared.reply.Reply.TheVariants as reply
use Rattle.gx_script.specs.declared.Script.{Script}
use Rattle.gx_script.specs.declared.state.Block.{Block}
use Rattle.gx_script.specs.declared.state.Block.TheVariants.{Outside, Open, Failed}
use Rattle.gx_store.specs.declared.answer.Refused.{Refused}
use Rattle.gx_store.specs.declared.answer.Refused.TheVariants.{Victim}
use Rattle.gx_store.specs.declared.mark.Mark.{Mark}
use Rattle.gx_rules.specs.AtCoordinator.{answers, awaited_collect, cancels, commits, completes, follows, goes_on, is_awaited, is_refused, on_answer, on_done, on_failed, on_message, on_status, reason_of, resends, rolls_back, status_order, takes_done, with_done, writers_with}
use Rattle.gx_rules.specs.Coordinators.{Command, Coord, CoordTurn, Work, no_work, rests, session_of, with_work, work_of}
use Rattle.gx_rules.specs.Fits.{fits_part}
use Rattle.gx_rules.specs.Rounds.{awaits_graph, begins_round, rechecks, with_report}
use Rattle.gx_rules.proofs.Rounds.{cancel-ways, graph-ways}
use Rattle.gx_law_order.proofs.Lists.{each_weaker}
use Rattle.gx_law_order.specs.Lists.{Each}
use Rattle.gx_law_order.proofs.Places.{collects-each}
use Rattle.gx_law_order.proofs.Outs.{IsBare, NoExec, abort-bare, commit-bare, reply-bare}
use Rattle.gx_law_runs.proofs.Parts.{IsFor}

-- a message's slice is of the statement
abbrev pub ForOut : Stmt → Message → Type 0
ForOut line (message.Exec g c level snapshot horizon slice) = IsFor line slice
ForOut line _ = Unit {0}

abbrev pub AreFor : Stmt → List Out → Type 0
AreFor line outs = Each (λ (o : Out). ForOut line o.message) outs

-- an EXEC's slice is of its command, as long as this is under way
abbrev pub OutServes : Coord → Message → Type 0
OutServes c (message.Exec g d level snapshot horizon slice) = (m : Command) → (c.works g.0).command ≡ Some m → m.cid ≡ d → IsFor m.stmt slice
OutServes c _ = Unit {0}

-- a command that was under way before
pub record IsOld (c : Coord) (h : ℕ) (m : Command) : Type 0 where
  pub was : Command
  pub is : (c.works h).command ≡ Some was
  pub line : m.stmt ≡ was.stmt
  pub counted : m.cid ≡ was.cid
  pub orders : m.orders ≡ was.orders

-- a command that goes out, behind so many
pub record IsFresh (last : ℕ) (m : Command) : Type 0 where
  pub counted : m.cid.0 ≡ last + 1
  pub orders : AreFor m.stmt m.orders

pub record Serves (c : Coord) (New : ℕ → Command → Type 0) (turn : CoordTurn) : Type 0 where
  pub commands : (h : ℕ) (m : Command) → (turn.coord.works h).command ≡ Some m → IsOld c h m ⊎ New h m
  pub outs : Each (λ (o : Out). OutServes turn.coord o.message) turn.outs

abbrev pub OrdersServe : Coord → Type 0
OrdersServe c = (g : ℕ) (m : Command) → (c.works g).command ≡ Some m → AreFor m.stmt m.orders

pub old-same : (c : Coord) (h : ℕ) (m : Command) → (c.works h).command ≡ Some m → IsOld c h m
old-same c h m e = record { was = m; is = e; line = refl; counted = refl; orders = refl }

pub serves-map : (c d : Coord) (New Newer : ℕ → Command → Type 0) (turn : CoordTurn) → ((h : ℕ) (m : Command) → IsOld d h m → IsOld c h m) → ((h : ℕ) (m : Command) → New h m → Newer h m) → Serves d New turn → Serves c Newer turn
serves-map c d New Newer turn f g s = record { commands = λ h m e. by h m (s.commands h m e); outs = s.outs }
  where
    by : (h : ℕ) (m : Command) → IsOld d h m ⊎ New h m → IsOld c h m ⊎ Newer h m
    by h m (inl x) = inl (f h m x)
    by h m (inr x) = inr (g h m x)

bare-serves : (c : Coord) (m : Message) → NoExec m → OutServes c m
bare-serves c (message.Exec g d l x h s) e = absurd e
bare-serves c (message.Prepare g) e = tt
bare-serves c (message.Commit g) e = tt
bare-serves c (message.CommitPrepared g) e = tt
bare-serves c (message.Abort g) e = tt
bare-serves c (message.Forget g) e = tt
bare-serves c (message.Collect round) e = tt
bare-serves c (message.Answer g r) e = tt
bare-serves c (message.Graph round graph) e = tt
bare-serves c message.Up e = tt

pub no-command : (m : Command) → (let o : Option Command = None in o) ≡ Some m → ⊥
no-command m e = cc

module _ (New : ℕ → Command → Type 0) where
  abbrev pub Keeps : Coord → CoordTurn → Type 0
  Keeps c turn = Serves c New turn

  pub rest-serves : (c : Coord) → Keeps c (rests c)
  rest-serves c = record { commands = λ h m e. inl (old-same c h m e); outs = tt }

  -- nothing is under way of this transaction any more, or all is as before
  gone : (c : Coord) (turn : CoordTurn) (g : ℕ) (w : Work) → w.command ≡ None → ((h : ℕ) → turn.coord.works h ≡ (if eqb h g then w else c.works h)) → Each IsBare turn.outs → Keeps c turn
  gone c turn g w none works bare =
      record {
        commands = λ h m e. by h m (eqb h g) (sym (ap (λ (v : Work). v.command) (works h)) ∙ e);
        outs = each_weaker IsBare (λ (o : Out). OutServes turn.coord o.message) (λ o q. bare-serves turn.coord o.message q) turn.outs bare;
      }
    where
      by : (h : ℕ) (m : Command) (b : Bool) → (if b then w else c.works h).command ≡ Some m → IsOld c h m ⊎ New h m
      by h m true e = absurd (no-command m (sym none ∙ e))
      by h m false e = inl (old-same c h m e)

  pub same : (c : Coord) (turn : CoordTurn) → ((h : ℕ) → turn.coord.works h ≡ c.works h) → Each IsBare turn.outs → Keeps c turn
  same c turn works bare =
      record {
        commands = λ h m e. inl (old-same c h m (sym (ap (λ (v : Work). v.command) (works h)) ∙ e));
        outs = each_weaker IsBare (λ (o : Out). OutServes turn.coord o.message) (λ o q. bare-serves turn.coord o.message q) turn.outs bare;
      }

  follow : (c : Coord) (g : Gxid) (turn : Turn) (o : Outcome) → Each IsBare turn.out.outs → Keeps c (follows c g turn o)
  follow c g turn outcome.Pending bare = same c (follows c g turn outcome.Pending) (λ h. refl) bare
  follow c g turn outcome.Decided bare = same c (follows c g turn outcome.Decided) (λ h. refl) bare
  follow c g turn outcome.Committed bare = gone c (follows c g turn outcome.Committed) g.0 no_work refl (λ h. refl) bare
  follow c g turn (outcome.Refused i) bare = gone c (follows c g turn (outcome.Refused i)) g.0 no_work refl (λ h. refl) bare
  follow c g turn outcome.Ended bare = same c (follows c g turn outcome.Ended) (λ h. refl) bare

  pub refused : (c : Coord) (g : Gxid) (why : List Mark) (reason : Refused) → Keeps c (is_refused c g (on_abort c.table g) why reason)
  refused c g why reason = gone c (is_refused c g (on_abort c.table g) why reason) g.0 no_work refl (λ h. refl) (abort-bare c.table g)

  pub rolled : (c : Coord) (g : Gxid) (marks : List Mark) → Keeps c (rolls_back c g marks (on_abort c.table g))
  rolled c g marks = gone c (rolls_back c g marks (on_abort c.table g)) g.0 no_work refl (λ h. refl) (abort-bare c.table g)

  pub commit : (c : Coord) (g : Gxid) → Keeps c (commits c g)
  commit c g = follow c g (on_commit c.table g (work_of c g).writers) (on_commit c.table g (work_of c g).writers).out.outcome (commit-bare c.table g (work_of c g).writers)

  complete : (c : Coord) (g : Gxid) (b : Block) → Keeps c (completes c g b)
  complete c g Outside = commit c g
  complete c g (Open level) = gone c (answers c g (work_of c g)) g.0 (record (work_of c g) { command = None }) refl (λ h. refl) tt
  complete c g Failed = gone c (answers c g (work_of c g)) g.0 (record (work_of c g) { command = None }) refl (λ h. refl) tt

  goes-on : (c : Coord) (g : Gxid) (left : List Node) → Keeps c (goes_on c g left)
  goes-on c g [] = complete c g (session_of c (work_of c g).session).state.block
  goes-on c g (i ∷ is) = rest-serves c

  -- ANSWERS
  pub some-same : (a b : Command) → Some a ≡ Some b → a ≡ b
  some-same a b e = (cc)

  done : (c : Coord) (g : Gxid) (i : Node) (cid : Cid) (wrote : Bool) (count : ℕ) (part : Part) (k : Option Command) → (work_of c g).command ≡ k → Keeps c (on_done c g i cid wrote count part k)
  done c g i cid wrote count part None e = rest-serves c
  done c g i cid wrote count part (Some k) e = by_test (is_awaited k i cid && fits_part k.stmt part)
    where
      w1 : Work
      w1 = record (work_of c g) { writers = writers_with wrote i (work_of c g).writers; command = Some (with_done k i count part) }

      c1 : Coord
      c1 = with_work c g (record (work_of c g) { writers = writers_with wrote i (work_of c g).writers; command = Some (with_done k i count part) })

      old-at : (h : ℕ) (b : Bool) → eqb h g.0 ≡ b → (x : Command) → (if b then w1 else c.works h).command ≡ Some x → IsOld c h x
      old-at h true q x e2 =
          let s : with_done k i count part ≡ x = some-same (with_done k i count part) x e2 in
          record { was = k; is = ap (λ n. (c.works n).command) (eqb-true h g.0 q) ∙ e; line = ap (λ (y : Command). y.stmt) (sym s); counted = ap (λ (y : Command). y.cid) (sym s); orders = ap (λ (y : Command). y.orders) (sym s) }
      old-at h false q x e2 = old-same c h x e2

      old : (h : ℕ) (m : Command) → IsOld c1 h m → IsOld c h m
      old h m o = let x = old-at h (eqb h g.0) refl o.was o.is in record { was = x.was; is = x.is; line = o.line ∙ x.line; counted = o.counted ∙ x.counted; orders = o.orders ∙ x.orders }

      by_test : (b : Bool) → Keeps c (if b then takes_done c g i wrote count part k else rests c)
      by_test true = serves-map c c1 New New (takes_done c g i wrote count part k) old (λ h m x. x) (goes-on c1 g (with_done k i count part).awaited)
      by_test false = rest-serves c

  failed : (c : Coord) (g : Gxid) (i : Node) (cid : Cid) (cause : Cause) (k : Option Command) → Keeps c (on_failed c g i cid cause k)
  failed c g i cid cause None = rest-serves c
  failed c g i cid cause (Some k) = by_test (is_awaited k i cid)
    where
      by_test : (b : Bool) → Keeps c (if b then is_refused c g (on_abort c.table g) [] (reason_of cause) else rests c)
      by_test true = refused c g [] (reason_of cause)
      by_test false = rest-serves c

  status : (c : Coord) (g : Gxid) (i : Node) (r : Reply) (fails : Bool) → Keeps c (on_status c g i r fails)
  status c g i r fails =
      let x = follow c g (on_reply c.table g i r fails) (on_reply c.table g i r fails).out.outcome (reply-bare c.table g i r fails) in
      record { commands = x.commands; outs = x.outs }

  answer : (c : Coord) (g : Gxid) (i : Node) (fails : Bool) (r : Reply) → Keeps c (on_answer c g i fails r)
  answer c g i fails (reply.Done cid wrote count part) = done c g i cid wrote count part (work_of c g).command refl
  answer c g i fails (reply.Failed cid cause) = failed c g i cid cause (work_of c g).command
  answer c g i fails reply.Prepared = status c g i reply.Prepared fails
  answer c g i fails reply.Committed = status c g i reply.Committed fails
  answer c g i fails reply.Jfault = status c g i reply.Jfault fails
  answer c g i fails reply.Again = status c g i reply.Again fails
  answer c g i fails reply.Restarted = status c g i reply.Restarted fails
  answer c g i fails reply.Aborted = status c g i reply.Aborted fails
  answer c g i fails reply.Forgotten = status c g i reply.Forgotten fails

  pub received : (c : Coord) (from : Node) (fails : Bool) (m : Message) → Keeps c (on_message c from fails m)
  received c from fails (message.Answer g r) = answer c g from fails r
  received c from fails (message.Exec g cid level x h y) = rest-serves c
  received c from fails (message.Prepare g) = rest-serves c
  received c from fails (message.Commit g) = rest-serves c
  received c from fails (message.CommitPrepared g) = rest-serves c
  received c from fails (message.Abort g) = rest-serves c
  received c from fails (message.Forget g) = rest-serves c
  received c from fails (message.Collect round) = rest-serves c
  received c from fails (message.Graph round graph) =
      graph-ways (Keeps c) c from round graph (rest-serves c) (λ r. same c (rests (with_report c graph)) (λ h. refl) tt) (λ r a. same c (rechecks (with_report c graph)) (λ h. refl) tt)
  received c from fails message.Up = rest-serves c

  -- ROUNDS
  pub round-begun : (script : Script) (c : Coord) → Keeps c (begins_round script c)
  round-begun script c = same c (begins_round script c) (λ h. refl) (collects-each IsBare script.segments (c.rounds + 1) (λ i one within. tt))

  pub victim-serves : (c : Coord) (g : Gxid) → Keeps c (cancels c g)
  victim-serves c g = cancel-ways (Keeps c) c g (rest-serves c) (λ live busy. refused c g [] (Victim c.rounds))

  -- MESSAGES SENT AGAIN
  module _ (c : Coord) (own : OrdersServe c) where
    abbrev pub AnyServes : Option Message → Type 0
    AnyServes None = Unit {0}
    AnyServes (Some m) = OutServes c m

    pub order-status : (g : Gxid) (o : Option Order) → AnyServes (status_order g o)
    order-status g None = tt
    order-status g (Some order.Prepare) = tt
    order-status g (Some order.Commit) = tt
    order-status g (Some order.CommitPrepared) = tt
    order-status g (Some order.Abort) = tt
    order-status g (Some order.Forget) = tt

    pub order-collect : (i : Node) → AnyServes (awaited_collect c i)
    order-collect i = by_test (awaits_graph c i)
      where
        by_test : (b : Bool) → AnyServes (if b then Some (message.Collect c.rounds) else None)
        by_test true = tt
        by_test false = tt

    pub again : (i : Node) (m : Option Message) → AnyServes m → Keeps c (resends c i m)
    again i None e = rest-serves c
    again i (Some m) e = record { commands = λ h x q. inl (old-same c h x q); outs = (e, tt) }
