-- Over every run of the machine: a command is answered only when every segment that it was sent to is done.
use Rattle.std.proofs.Common.{◌≡◌, ◌⊎◌, inl, inr, ℕ, zero, suc, ◌+◌, List, [], ◌∷◌, ◌++◌, Option, Some, None, Bool, true, false, refl, sym, subst, ap, ◌∙◌, if◌then◌else◌, arith, append-nil}
use Rattle.std.proofs.lemmas.List.{append_assoc}
use Rattle.std.specs.Prelude.{length, slice_get, take}
use Rattle.std.proofs.lemmas.Bool.{or_left, or_right}
use Rattle.gx_lemmas.proofs.Lists.{get-append}
use Rattle.gx_lemmas.proofs.Tests.{true-false}
use Rattle.gx_lemmas.proofs.Numbers.{same-plus-none}
use Rattle.gx_lemmas.proofs.Options.{some-same}
use Rattle.gx_ids.specs.declared.ids.Cid.{Cid}
use Rattle.gx_ids.specs.declared.ids.Gxid.{Gxid}
use Rattle.gx_ids.specs.declared.ids.Node.{Node}
use Rattle.gx_ids.specs.declared.ids.SessionId.{SessionId}
use Rattle.gx_tree.specs.declared.part.Part.{Part as QueryPart}
use Rattle.gx_tree.specs.declared.stmt.Level.{Level}
use Rattle.gx_tree.specs.declared.stmt.Stmt.{Stmt}
use Rattle.gx_msg.specs.declared.message.Message.{Message}
use Rattle.gx_msg.specs.declared.message.Message.TheVariants as message
use Rattle.gx_msg.specs.declared.message.Out.{Out}
use Rattle.gx_msg.specs.declared.reply.Reply.TheVariants as reply
use Rattle.gx_script.specs.declared.Script.{Script}
use Rattle.gx_store.specs.declared.answer.StmtAnswer.{StmtAnswer}
use Rattle.gx_store.specs.declared.answer.StmtAnswer.TheVariants as told
use Rattle.gx_store.specs.declared.event.Event.{Event}
use Rattle.gx_store.specs.declared.mark.Mark.{Mark}
use Rattle.gx_store.specs.declared.mark.Mark.TheVariants as mark
use Rattle.gx_store.specs.declared.node.NodeEvent.{NodeEvent}
use Rattle.gx_store.specs.declared.run.Step.{Step}
use Rattle.gx_store.specs.Commands.{RunsCommand, state_at}
use Rattle.gx_store.specs.Lines.{BlockState, is_command, stmt_of, transaction_of}
use Rattle.gx_store.specs.Lines.BlockState.{Outside, InBlock, Failed}
use Rattle.gx_store.specs.Marks.{answer_count, is_aborted, is_begun, started_after}
use Rattle.gx_store.specs.Messages.{IsSending, Receives}
use Rattle.gx_store.specs.Points.{Point, before, marks_in, starts_by, starts_in}
use Rattle.gx_store.specs.Protocol.{IsDispatched, IsReturned, IsSentBy}
use Rattle.gx_store.specs.Refusals.{the_coordinator}
use Rattle.gx_store.proofs.Marks.{started_after-append}
use Rattle.gx_dtx.specs.Table.{find_txn}
use Rattle.gx_rules.specs.AtCoordinator.{cancel_turn, cancels, coord_sends, coord_turn, on_event}
use Rattle.gx_rules.specs.Coordinators.{Coord, CoordTurn, session_of}
use Rattle.gx_rules.specs.Machine.{World, and_cancelled, coord_did, with_more}
use Rattle.gx_rules.specs.Sending.{clock_after, counted, numbered}
use Rattle.gx_rules.proofs.Rounds.{cancel-ways}
use Rattle.gx_law_order.proofs.Induction.{after_turn, marks-by-event, marks-by-victim}
use Rattle.gx_law_order.proofs.Lists.{each_append, each_weaker, get_last}
use Rattle.gx_law_order.specs.Lists.{Each}
use Rattle.gx_law_order.proofs.Past.{aborted-append}
use Rattle.gx_law_order.proofs.More.{get-more, take-more}
use Rattle.gx_law_order.proofs.Moves.{HasNamed}
use Rattle.gx_law_order.proofs.Releases.{each-released}
use Rattle.gx_law_order.proofs.World.{Knows}
use Rattle.gx_law_order.proofs.Numbers.{NoStart}
use Rattle.gx_law_order.specs.Followed.{AnswersAt, DoMarksAnswer, DoStepsAnswer}
use Rattle.gx_law_order.specs.Standings.{at, gx, waits_in}
use Rattle.gx_law_order.proofs.Answering.{IsPlain, IsRested, MayAll, MayAt, Settles}
use Rattle.gx_law_order.proofs.Asked.{Told, cancel-told}
use Rattle.gx_law_order.proofs.Commits.{take-kept}
use Rattle.gx_law_order.proofs.Completing.{calm-started}
use Rattle.gx_law_order.proofs.Events.{cancel-led}
use Rattle.gx_law_order.proofs.Counts.{NoSent}
use Rattle.gx_law_order.proofs.Everywhere.{Holds, fol-no-sent, parts_in}
use Rattle.gx_law_order.proofs.Later.{answer-more, each-contained, more-now, no-orders}
use Rattle.gx_law_order.proofs.Lowered.{NoExec, abort-none}
use Rattle.gx_law_order.proofs.Replying.{take-length}
use Rattle.gx_law_order.proofs.Ways.{AsksFor, Led, SaidOut}

-- the segment's answer to the command has come
pub record Came (steps : List Step) (i g n : ℕ) : Type 0 where
  pub place : ℕ
  pub step : Step
  pub there : slice_get steps place ≡ Some step
  pub wrote : Bool
  pub count : ℕ
  pub part : QueryPart
  pub received : Receives (take place steps) step.event (at i) the_coordinator (message.Answer (gx g) (reply.Done (record { 0 = n }) wrote count part))

-- or comes now
pub record Comes (steps : List Step) (e : Event) (i g n : ℕ) : Type 0 where
  pub wrote : Bool
  pub count : ℕ
  pub part : QueryPart
  pub received : Receives steps e (at i) the_coordinator (message.Answer (gx g) (reply.Done (record { 0 = n }) wrote count part))

pub came-append : (steps ss : List Step) (i g n : ℕ) → Came steps i g n → Came (steps ++ ss) i g n
came-append steps ss i g n c =
    record {
      place = c.place;
      step = c.step;
      there = get-append steps ss c.place c.step c.there;
      wrote = c.wrote;
      count = c.count;
      part = c.part;
      received = subst (λ x. Receives x c.step.event (at i) the_coordinator (message.Answer (gx g) (reply.Done (record { 0 = n }) c.wrote c.count c.part))) (sym (take-kept steps ss c.place c.step c.there)) c.received;
    }

came-more : (steps : List Step) (ms : List Mark) (i g n : ℕ) → Came steps i g n → Came (with_more steps ms) i g n
came-more steps ms i g n c =
    let x = get-more steps ms c.place c.step c.there in
    let told : Message = message.Answer (gx g) (reply.Done (record { 0 = n }) c.wrote c.count c.part) in
    record {
      place = c.place;
      step = x.step;
      there = x.at;
      wrote = c.wrote;
      count = c.count;
      part = c.part;
      received = subst (λ q. Receives q x.step.event (at i) the_coordinator told) (sym (take-more steps ms c.place c.step c.there)) (subst (λ q. Receives (take c.place steps) q (at i) the_coordinator told) (sym x.is.event) c.received);
    }

came-now : (steps : List Step) (s : Step) (i g n : ℕ) → Comes steps s.event i g n → Came (steps ++ s ∷ []) i g n
came-now steps s i g n c =
    record {
      place = length steps;
      step = s;
      there = get_last steps [] s;
      wrote = c.wrote;
      count = c.count;
      part = c.part;
      received = subst (λ x. Receives x s.event (at i) the_coordinator (message.Answer (gx g) (reply.Done (record { 0 = n }) c.wrote c.count c.part))) (sym (take-length steps (s ∷ []))) c.received;
    }

-- a command that was sent is awaited, or its answer has come, or its transaction is aborted
abbrev pub IsBack : Coord → List Step → ℕ → ℕ → ℕ → Type 0
IsBack c steps i g n = ((waits_in (c.works g).command i ≡ true) × (n ≡ (c.works g).last)) ⊎ Came steps i g n ⊎ (is_aborted (marks_in steps) (gx g) ≡ true)

abbrev pub Back : Coord → List Step → Node → Message → Type 0
Back c steps to (message.Exec g n level snapshot horizon slice) = IsBack c steps to.0 g.0 n.0
Back c steps to _ = Unit {0}

abbrev pub SentBack : Coord → List Step → Node → Mark → Type 0
SentBack c steps node (mark.Sent to number m) = node ≡ the_coordinator → Back c steps to m
SentBack c steps node _ = Unit {0}

abbrev pub StepBack : Coord → List Step → Step → Type 0
StepBack c steps s = Each (SentBack c steps s.stamp.node) s.marks

pub record Replied (script : Script) (w : World) : Type 0 where
  pub lines : (t : SessionId) → (session_of w.coord t).lines ≡ starts_in t w.steps
  pub last : (t : SessionId) (h : ℕ) → started_after t None (marks_in w.steps) ≡ Some (gx h) → (session_of w.coord t).transaction.0 ≡ h
  pub back : Each (StepBack w.coord w.steps) w.steps
  pub answers : DoStepsAnswer script [] w.steps

-- LISTS
pub each-get : {A : Type 0} (P : A → Type 0) (xs : List A) (k : ℕ) (x : A) → Each P xs → slice_get xs k ≡ Some x → P x
each-get P [] k x e f = absurd (cc)
each-get P (y ∷ ys) zero x e f = subst P (some-same y x f) e.0
each-get P (y ∷ ys) (suc k) x e f = each-get P ys k x e.1 f

pub answer-push : (script : Script) (before ss : List Step) (s : Step) → DoStepsAnswer script before ss → DoMarksAnswer script (before ++ ss) s [] s.marks → DoStepsAnswer script before (ss ++ s ∷ [])
answer-push script before [] s e h = (subst (λ x. DoMarksAnswer script x s [] s.marks) (append-nil before) h, tt)
answer-push script before (x ∷ ss) s e h = (e.0, answer-push script (before ++ x ∷ []) ss s e.1 (subst (λ y. DoMarksAnswer script y s [] s.marks) (sym (append_assoc before (x ∷ []) ss)) h))

pub starts-last : (t : SessionId) (steps : List Step) (s : Step) → starts_in t (steps ++ s ∷ []) ≡ starts_in t steps + starts_by t s.event
starts-last t [] s = omega arith
starts-last t (x ∷ steps) s = ap (λ n. starts_by t x.event + n) (starts-last t steps s) ∙ three (starts_by t x.event) (starts_in t steps) (starts_by t s.event)
  where
    three : (a b c : ℕ) → a + (b + c) ≡ (a + b) + c
    three a b c = omega arith

starts-more : (t : SessionId) (steps : List Step) (ms : List Mark) → starts_in t (with_more steps ms) ≡ starts_in t steps
starts-more t [] ms = refl
starts-more t (x ∷ []) ms = refl
starts-more t (x ∷ y ∷ steps) ms = ap (λ n. starts_by t x.event + n) (starts-more t (y ∷ steps) ms)

pub each-parts : {A : Type 0} (P : A → Type 0) (xs ys : List A) → Each P (xs ++ ys) → Each P xs × Each P ys
each-parts P [] ys e = (tt, e)
each-parts P (x ∷ xs) ys e = let p = each-parts P xs ys e.1 in ((e.0, p.0), p.1)

-- WHAT WAS SENT STAYS SO
back-one : (c d : Coord) (steps next : List Step) (to : Node) (m : Message) → ((i g n : ℕ) → IsBack c steps i g n → IsBack d next i g n) → Back c steps to m → Back d next to m
back-one c d steps next to (message.Exec g n level x h y) f b = f to.0 g.0 n.0 b
back-one c d steps next to (message.Prepare g) f b = tt
back-one c d steps next to (message.Commit g) f b = tt
back-one c d steps next to (message.CommitPrepared g) f b = tt
back-one c d steps next to (message.Abort g) f b = tt
back-one c d steps next to (message.Forget g) f b = tt
back-one c d steps next to (message.Collect round) f b = tt
back-one c d steps next to (message.Answer g r) f b = tt
back-one c d steps next to (message.Graph round graph) f b = tt
back-one c d steps next to message.Up f b = tt

back-mark : (c d : Coord) (steps next : List Step) (node : Node) (m : Mark) → ((i g n : ℕ) → IsBack c steps i g n → IsBack d next i g n) → SentBack c steps node m → SentBack d next node m
back-mark c d steps next node (mark.Sent to number m) f b = λ e. back-one c d steps next to m f (b e)
back-mark c d steps next node m f b = tt

pub back-all : (c d : Coord) (steps next xs : List Step) → ((i g n : ℕ) → IsBack c steps i g n → IsBack d next i g n) → Each (StepBack c steps) xs → Each (StepBack d next) xs
back-all c d steps next xs f b = each_weaker (StepBack c steps) (StepBack d next) (λ s e. each_weaker (SentBack c steps s.stamp.node) (SentBack d next s.stamp.node) (λ m q. back-mark c d steps next s.stamp.node m f q) s.marks e) xs b

-- marks that send nothing
no-sent-back : (c : Coord) (steps : List Step) (node : Node) (ns : List Mark) → Each NoSent ns → Each (SentBack c steps node) ns
no-sent-back c steps node [] e = tt
no-sent-back c steps node (mark.Sent to number m ∷ ns) e = absurd e.0
no-sent-back c steps node (m ∷ ns) e = (tt, no-sent-back c steps node ns e.1)

asked-one : (d : Coord) (steps : List Step) (to : Node) (m : Message) → AsksFor d to.0 m → Back d steps to m
asked-one d steps to (message.Exec g n level x h y) a = inl a
asked-one d steps to (message.Prepare g) a = tt
asked-one d steps to (message.Commit g) a = tt
asked-one d steps to (message.CommitPrepared g) a = tt
asked-one d steps to (message.Abort g) a = tt
asked-one d steps to (message.Forget g) a = tt
asked-one d steps to (message.Collect round) a = tt
asked-one d steps to (message.Answer g r) a = tt
asked-one d steps to (message.Graph round graph) a = tt
asked-one d steps to message.Up a = tt

sent-back : (d : Coord) (steps : List Step) (node : Node) (f : ℕ → ℕ) (outs : List Out) → Each (λ (o : Out). AsksFor d o.node.0 o.message) outs → Each (SentBack d steps node) (numbered f outs)
sent-back d steps node f [] e = tt
sent-back d steps node f (o ∷ outs) e = (λ q. asked-one d steps o.node o.message e.0, sent-back d steps node (counted f o) outs e.1)

-- what a turn sends is awaited behind it
abbrev SentAsks : Coord → Mark → Type 0
SentAsks d (mark.Sent to number m) = AsksFor d to.0 m
SentAsks d _ = Unit {0}

no-sent-asks : (d : Coord) (ns : List Mark) → Each NoSent ns → Each (SentAsks d) ns
no-sent-asks d [] e = tt
no-sent-asks d (mark.Sent to number m ∷ ns) e = absurd e.0
no-sent-asks d (m ∷ ns) e = (tt, no-sent-asks d ns e.1)

sent-asks : (d : Coord) (f : ℕ → ℕ) (outs : List Out) → Each (λ (o : Out). AsksFor d o.node.0 o.message) outs → Each (SentAsks d) (numbered f outs)
sent-asks d f [] e = tt
sent-asks d f (o ∷ outs) e = (e.0, sent-asks d (counted f o) outs e.1)

pub away-back : (d : Coord) (steps : List Step) (node : Node) → (node ≡ the_coordinator → ⊥) → (ns : List Mark) → Each (SentBack d steps node) ns
away-back d steps node n [] = tt
away-back d steps node n (mark.Sent to number m ∷ ns) = (λ q. absurd (n q), away-back d steps node n ns)
away-back d steps node n (m ∷ ns) = (tt, away-back d steps node n ns)

-- sendings answer nothing
sent-answers : (script : Script) (steps : List Step) (step : Step) (earlier : List Mark) (f : ℕ → ℕ) (outs : List Out) → DoMarksAnswer script steps step earlier (numbered f outs)
sent-answers script steps step earlier f [] = tt
sent-answers script steps step earlier f (o ∷ outs) = (tt, sent-answers script steps step (earlier ++ mark.Sent o.node (f o.node.0 + 1) o.message ∷ []) (counted f o) outs)

-- marks that answer no line, or refuse it
abbrev pub Refuses : Mark → Type 0
Refuses (mark.Answer s n (told.Refused reason)) = Unit {0}
Refuses (mark.Answer s n a) = ⊥
Refuses _ = Unit {0}

refuse-one : (script : Script) (node : Node) (point : Point) (m : Mark) → Refuses m → AnswersAt script node point m
refuse-one script node point (mark.Answer s n (told.Refused reason)) e = tt
refuse-one script node point (mark.Answer s n told.Begin) e = absurd e
refuse-one script node point (mark.Answer s n told.Commit) e = absurd e
refuse-one script node point (mark.Answer s n told.Rollback) e = absurd e
refuse-one script node point (mark.Answer s n told.Locked) e = absurd e
refuse-one script node point (mark.Answer s n (told.Inserted y)) e = absurd e
refuse-one script node point (mark.Answer s n (told.Updated y)) e = absurd e
refuse-one script node point (mark.Answer s n (told.Deleted y)) e = absurd e
refuse-one script node point (mark.Answer s n (told.Rows y)) e = absurd e
refuse-one script node point m e = tt

pub none-answers : (script : Script) (steps : List Step) (step : Step) (earlier ns : List Mark) (f : ℕ → ℕ) (outs : List Out) → Each Refuses ns → DoMarksAnswer script steps step earlier (ns ++ numbered f outs)
none-answers script steps step earlier [] f outs e = sent-answers script steps step earlier f outs
none-answers script steps step earlier (m ∷ ns) f outs e = (refuse-one script step.stamp.node _ m e.0, none-answers script steps step (earlier ++ m ∷ []) ns f outs e.1)

-- a victim's turn refuses its line, and orders nothing
cancels-refuse : (c : Coord) (g : Gxid) → Each Refuses (cancels c g).marks
cancels-refuse c g = cancel-ways (λ turn. Each Refuses turn.marks) c g tt (λ live busy. (tt, (tt, each-released Refuses the_coordinator c.locks g (λ claim. tt))))

cancels-no-exec : (c : Coord) (g : Gxid) → Each (λ (o : Out). NoExec o.message) (cancels c g).outs
cancels-no-exec c g = cancel-ways (λ turn. Each (λ (o : Out). NoExec o.message) turn.outs) c g tt (λ live busy. abort-none g (find_txn c.table g))

-- A STEP OF THE COORDINATOR
module _ (script : Script) (w : World) (n : Knows script w) (v : Holds script w) (r : Replied script w) (e : Event) (x : NodeEvent) (fails : Bool) where
  abbrev ms : List Mark
  ms = marks_in w.steps

  abbrev turn : CoordTurn
  turn = on_event script w.coord x fails

  abbrev sent : List Mark
  sent = numbered turn.coord.sent turn.outs

  abbrev step : Step
  step = record { stamp = record { clock = clock_after w.coord.clock x; node = the_coordinator }; event = e; marks = turn.marks ++ sent }

  abbrev Gets : ℕ → ℕ → ℕ → Type 0
  Gets i g m = Comes w.steps e i g m

  -- the event starts the session's line
  abbrev starting : ℕ → Type 0
  starting t = (s : SessionId) → s.0 ≡ t → starts_by s e ≡ 1

  returned : (earlier later : List Mark) (node : Node) (g c : ℕ) → Comes w.steps e node.0 g c → IsReturned (record { steps = w.steps; event = e; earlier = earlier; later = later }) (gx g) (record { 0 = c }) node
  returned earlier later node g c y = record { wrote = y.wrote; count = y.count; part = y.part; received = (length w.steps, inr (refl, y.received)) }

  returned-before : (earlier later : List Mark) (node : Node) (g c : ℕ) → Came w.steps node.0 g c → IsReturned (record { steps = w.steps; event = e; earlier = earlier; later = later }) (gx g) (record { 0 = c }) node
  returned-before earlier later node g c y = record { wrote = y.wrote; count = y.count; part = y.part; received = (y.place, inl (y.step, y.there, y.received)) }

  sent-there : (node : Node) (number step mark : ℕ) (g : Gxid) (c : Cid) (level : Level) (snapshot : Option Rattle.gx_dsnap.specs.declared.snapshot.Snapshot.Snapshot) (horizon : Gxid) (slice : Rattle.gx_tree.specs.declared.slice.Slice.Slice) → IsSending w.steps step mark the_coordinator node number (message.Exec g c level snapshot horizon slice) → IsBack w.coord w.steps node.0 g.0 c.0
  sent-there node number step mark g c level snapshot horizon slice s = each-get (SentBack w.coord w.steps s.sender.stamp.node) s.sender.marks mark _ (each-get (StepBack w.coord w.steps) w.steps step s.sender r.back s.at) s.sent s.node

  complete-one : (earlier later : List Mark) (s : SessionId) (a : StmtAnswer) → Each (SentAsks turn.coord) (earlier ++ later) → ((g : ℕ) → started_after s None (ms ++ earlier) ≡ Some (gx g) → Settles script w.coord ms Gets starting g × IsRested (turn.coord.works g)) ⊎ IsPlain script w.coord ms Gets starting s → (line : Stmt) (level : Level) (g : Gxid) (c : Cid) (node : Node) → RunsCommand script (record { steps = w.steps; event = e; earlier = earlier; later = later }) s line level g c → IsDispatched (record { steps = w.steps; event = e; earlier = earlier; later = later }) g c node → IsReturned (record { steps = w.steps; event = e; earlier = earlier; later = later }) g c node
  complete-one earlier later s a asks (inl settle) line level g c node runs sent = by_sent sent.sent
    where
      started : (state : BlockState) → transaction_of state s (ms ++ earlier) ≡ Some g → started_after s None (ms ++ earlier) ≡ Some g
      started Outside f = by_begun (is_begun s (ms ++ earlier)) f
        where
          by_begun : (b : Bool) → (if b then started_after s None (ms ++ earlier) else None) ≡ Some g → started_after s None (ms ++ earlier) ≡ Some g
          by_begun true f = f
          by_begun false f = absurd (cc)
      started (InBlock l k) f = f
      started Failed f = absurd (cc)

      by_back : Settles script w.coord ms Gets starting g.0 → IsBack w.coord w.steps node.0 g.0 c.0 → IsReturned (record { steps = w.steps; event = e; earlier = earlier; later = later }) g c node
      by_back y (inl z) = returned earlier later node g.0 c.0 (subst (Comes w.steps e node.0 g.0) (sym z.1) (y.waits node.0 z.0))
      by_back y (inr (inl z)) = returned-before earlier later node g.0 c.0 z
      by_back y (inr (inr z)) = absurd (true-false (is_aborted ms g) z y.alive)

      settled : Settles script w.coord ms Gets starting g.0 × IsRested (turn.coord.works g.0)
      settled = settle g.0 (started (state_at script s (record { steps = w.steps; event = e; earlier = earlier; later = later })) runs.transaction)

      -- what this step sends is awaited behind it
      by_sent : IsSentBy (record { steps = w.steps; event = e; earlier = earlier; later = later }) node sent.number (message.Exec g c sent.level sent.snapshot sent.horizon sent.slice) → IsReturned (record { steps = w.steps; event = e; earlier = earlier; later = later }) g c node
      by_sent (inl z) = by_back settled.0 (sent-there node sent.number z.step z.mark g c sent.level sent.snapshot sent.horizon sent.slice z.sending)
      by_sent (inr z) = absurd (true-false (waits_in (turn.coord.works g.0).command node.0) (each-contained (SentAsks turn.coord) (earlier ++ later) _ asks z).0 (settled.1 node.0))
  complete-one earlier later s a asks (inr plain) line level g c node runs sent =
      absurd (true-false (is_command (state_at script s point) plain.line) (subst (λ q. is_command (state_at script s point) q ≡ true) same runs.command) (plain.plain (state_at script s point)))
    where
      point : Point
      point = record { steps = w.steps; event = e; earlier = earlier; later = later }

      number : answer_count s (ms ++ earlier) + 1 ≡ (session_of w.coord s).lines + 1
      number = sym runs.line.started ∙ ap (λ q. starts_in s w.steps + q) (plain.starts_it s refl) ∙ ap (λ q. q + 1) (sym (r.lines s))

      same : line ≡ plain.line
      same = some-same line plain.line (sym runs.line.line ∙ ap (λ q. stmt_of s q script.lines) number ∙ plain.next)

  may-one : (earlier later : List Mark) (m : Mark) → Each (SentAsks turn.coord) (earlier ++ later) → MayAt script w.coord ms Gets starting turn.coord.works earlier m → AnswersAt script the_coordinator (record { steps = w.steps; event = e; earlier = earlier; later = later }) m
  may-one earlier later (mark.Answer s k (told.Refused reason)) q f = tt
  may-one earlier later (mark.Answer s k told.Begin) q f = complete-one earlier later s told.Begin q f
  may-one earlier later (mark.Answer s k told.Commit) q f = complete-one earlier later s told.Commit q f
  may-one earlier later (mark.Answer s k told.Rollback) q f = complete-one earlier later s told.Rollback q f
  may-one earlier later (mark.Answer s k told.Locked) q f = complete-one earlier later s told.Locked q f
  may-one earlier later (mark.Answer s k (told.Inserted y)) q f = complete-one earlier later s (told.Inserted y) q f
  may-one earlier later (mark.Answer s k (told.Updated y)) q f = complete-one earlier later s (told.Updated y) q f
  may-one earlier later (mark.Answer s k (told.Deleted y)) q f = complete-one earlier later s (told.Deleted y) q f
  may-one earlier later (mark.Answer s k (told.Rows y)) q f = complete-one earlier later s (told.Rows y) q f
  may-one earlier later m q f = tt

  may-answers : (earlier ns : List Mark) (f : ℕ → ℕ) (outs : List Out) → Each (SentAsks turn.coord) earlier → Each (SentAsks turn.coord) (ns ++ numbered f outs) → MayAll script w.coord ms Gets starting turn.coord.works earlier ns → DoMarksAnswer script w.steps step earlier (ns ++ numbered f outs)
  may-answers earlier [] f outs a b y = sent-answers script w.steps step earlier f outs
  may-answers earlier (m ∷ ns) f outs a b y = (may-one earlier (ns ++ numbered f outs) m (each_append (SentAsks turn.coord) earlier (ns ++ numbered f outs) a b.1) y.0, may-answers (earlier ++ m ∷ []) ns f outs (each_append (SentAsks turn.coord) earlier (m ∷ []) a (b.0, tt)) b.1 y.1)

  -- the answers of an event
  pub event-answers : Led script (parts_in w) w.coord ms turn → MayAll script w.coord ms Gets starting turn.coord.works [] turn.marks → DoMarksAnswer script w.steps step [] step.marks
  event-answers f may =
      let none : Each NoSent turn.marks = fol-no-sent script ms turn.marks f.way.fol in
      may-answers [] turn.marks turn.coord.sent turn.outs tt
      (each_append (SentAsks turn.coord) turn.marks sent (no-sent-asks turn.coord turn.marks none)
      (sent-asks turn.coord turn.coord.sent turn.outs (each_weaker (SaidOut script (parts_in w) turn.coord (ms ++ turn.marks)) (λ (o : Out). AsksFor turn.coord o.node.0 o.message) (λ o q. q.2) turn.outs f.outs))) may

-- A TURN OF THE COORDINATOR
-- a single one, whose marks stand behind all others
module _ (script : Script) (w : World) (n : Knows script w) (v : Holds script w) (r : Replied script w) where
  abbrev pub TellsBy : (ℕ → ℕ → ℕ → Type 0) → (ℕ → Type 0) → (ℕ → ℕ) → CoordTurn → Type 0
  TellsBy Gets starting count turn = Told script (parts_in w) w.coord (marks_in w.steps) v.stands n.kept n.past (λ g. (n.well.coordinator.works g).writers) Gets starting r.last count turn

  module _ (turn : CoordTurn) (clock : ℕ) (steps : List Step) (f : Led script (parts_in w) w.coord (marks_in w.steps) turn) (Gets : ℕ → ℕ → ℕ → Type 0) (starting : ℕ → Type 0) (count : ℕ → ℕ) (t : TellsBy Gets starting count turn)
      (all : marks_in steps ≡ marks_in w.steps ++ (coord_sends clock turn).marks) (came : (i g m : ℕ) → Came w.steps i g m ⊎ Gets i g m → Came steps i g m) where
    abbrev so_far : List Mark
    so_far = marks_in w.steps

    abbrev marks_sent : List Mark
    marks_sent = numbered turn.coord.sent turn.outs

    abbrev last_coord : Coord
    last_coord = (coord_sends clock turn).coord

    no-start-sent : (f : ℕ → ℕ) (outs : List Out) → Each NoStart (numbered f outs)
    no-start-sent f [] = tt
    no-start-sent f (o ∷ outs) = (tt, no-start-sent (counted f o) outs)

    aborted-now : (g : ℕ) → is_aborted so_far (gx g) ≡ true → is_aborted (marks_in steps) (gx g) ≡ true
    aborted-now g y = ap (λ q. is_aborted q (gx g)) all ∙ aborted-append so_far (turn.marks ++ marks_sent) (gx g) ∙ or_left (is_aborted so_far (gx g)) (is_aborted (turn.marks ++ marks_sent) (gx g)) y

    aborted-later : (g : ℕ) → is_aborted turn.marks (gx g) ≡ true → is_aborted (marks_in steps) (gx g) ≡ true
    aborted-later g y =
        ap (λ q. is_aborted q (gx g)) all ∙ aborted-append so_far (turn.marks ++ marks_sent) (gx g)
        ∙ or_right (is_aborted so_far (gx g)) (is_aborted (turn.marks ++ marks_sent) (gx g)) (aborted-append turn.marks marks_sent (gx g) ∙ or_left (is_aborted turn.marks (gx g)) (is_aborted marks_sent (gx g)) y)

    stays : (i g m : ℕ) → IsBack w.coord w.steps i g m → IsBack last_coord steps i g m
    stays i g m (inl y) = by_works (t.works g i y.0)
      where
        by_works : ((waits_in (turn.coord.works g).command i ≡ true) × ((turn.coord.works g).last ≡ (w.coord.works g).last)) ⊎ (is_aborted turn.marks (gx g) ≡ true) ⊎ Gets i g (w.coord.works g).last → IsBack last_coord steps i g m
        by_works (inl z) = inl (z.0, y.1 ∙ sym z.1)
        by_works (inr (inl z)) = inr (inr (aborted-later g z))
        by_works (inr (inr z)) = inr (inl (came i g m (inr (subst (Gets i g) (sym y.1) z))))
    stays i g m (inr (inl y)) = inr (inl (came i g m (inl y)))
    stays i g m (inr (inr y)) = inr (inr (aborted-now g y))

    asks : (m : Message) (i : ℕ) → AsksFor turn.coord i m → AsksFor last_coord i m
    asks (message.Exec g k level y h z) i a = a
    asks (message.Prepare g) i a = a
    asks (message.Commit g) i a = a
    asks (message.CommitPrepared g) i a = a
    asks (message.Abort g) i a = tt
    asks (message.Forget g) i a = tt
    asks (message.Collect round) i a = tt
    asks (message.Answer g q) i a = tt
    asks (message.Graph round graph) i a = tt
    asks message.Up i a = tt

    -- what was sent before, and what the turn sends
    pub earlier-back : Each (StepBack last_coord steps) w.steps
    earlier-back = back-all w.coord last_coord w.steps steps w.steps stays r.back

    pub turn-back : (node : Node) → Each (SentBack last_coord steps node) (turn.marks ++ marks_sent)
    turn-back node =
        each_append (SentBack last_coord steps node) turn.marks marks_sent (no-sent-back last_coord steps node turn.marks (fol-no-sent script so_far turn.marks f.way.fol))
        (sent-back last_coord steps node turn.coord.sent turn.outs (each_weaker (SaidOut script (parts_in w) turn.coord (so_far ++ turn.marks)) (λ (o : Out). AsksFor last_coord o.node.0 o.message) (λ o q. asks o.message o.node.0 q.2) turn.outs f.outs))

    pub turn-replied : ((s : SessionId) → starts_in s steps ≡ starts_in s w.steps + count s.0) → Each (StepBack last_coord steps) steps → DoStepsAnswer script [] steps → Replied script (after_turn w clock turn steps)
    turn-replied started back answers =
        record {
          lines = λ s. t.lines s.0 ∙ ap (λ q. q + count s.0) (r.lines s) ∙ sym (started s);
          last = λ s h q. t.last s h (sym (started_after-append s None (so_far ++ turn.marks) marks_sent ∙ calm-started s _ marks_sent (no-start-sent turn.coord.sent turn.outs)) ∙ ap (started_after s None) (append_assoc so_far turn.marks marks_sent ∙ sym all) ∙ q);
          back = back;
          answers = answers;
        }

  -- by an event
  abbrev pub GetsIn : Event → ℕ → ℕ → ℕ → Type 0
  GetsIn e i g m = Comes w.steps e i g m

  abbrev pub StartsIn : Event → ℕ → Type 0
  StartsIn e t = (s : SessionId) → s.0 ≡ t → starts_by s e ≡ 1

  pub coord-replied : (e : Event) (x : NodeEvent) (fails : Bool) → Led script (parts_in w) w.coord (marks_in w.steps) (on_event script w.coord x fails) → (count : ℕ → ℕ) → TellsBy (GetsIn e) (StartsIn e) count (on_event script w.coord x fails)
      → ((t : SessionId) → count t.0 ≡ starts_by t e) → Replied script (coord_did w e (coord_turn script w.coord x fails))
  coord-replied e x fails f count t counts =
      turn-replied turn clock steps f (GetsIn e) (StartsIn e) count t all came (λ s. starts-last s w.steps step ∙ ap (λ q. starts_in s w.steps + q) (sym (counts s)))
      (each_append (StepBack last_coord steps) w.steps (step ∷ []) (earlier-back turn clock steps f (GetsIn e) (StartsIn e) count t all came) (turn-back turn clock steps f (GetsIn e) (StartsIn e) count t all came the_coordinator, tt))
      (answer-push script [] w.steps step r.answers (event-answers script w n v r e x fails f t.may))
    where
      turn : CoordTurn
      turn = on_event script w.coord x fails

      clock : ℕ
      clock = clock_after w.coord.clock x

      step : Step
      step = record { stamp = record { clock = clock; node = the_coordinator }; event = e; marks = turn.marks ++ numbered turn.coord.sent turn.outs }

      steps : List Step
      steps = w.steps ++ step ∷ []

      last_coord : Coord
      last_coord = (coord_sends clock turn).coord

      all : marks_in steps ≡ marks_in w.steps ++ (coord_sends clock turn).marks
      all = marks-by-event script w e x fails

      came : (i g m : ℕ) → Came w.steps i g m ⊎ Comes w.steps e i g m → Came steps i g m
      came i g m (inl y) = came-append w.steps (step ∷ []) i g m y
      came i g m (inr y) = came-now w.steps step i g m y

  -- by a victim, in the last step
  pub victim-replied : (g : Gxid) → HasNamed w.steps w.coord.clock w.coord.rounds g → Replied script (and_cancelled w g)
  victim-replied g h =
      turn-replied turn w.coord.clock steps f None-gets None-starts (λ t. 0) t all came (λ s. starts-more s w.steps more ∙ same-plus-none (starts_in s w.steps)) back
      (answer-more script h.step more w.steps h.before h.is (no-orders turn.marks turn.coord.sent turn.outs (fol-no-sent script (marks_in w.steps) turn.marks f.way.fol) (cancels-no-exec w.coord g)) r.answers
      (none-answers script h.before h.step h.step.marks turn.marks turn.coord.sent turn.outs (cancels-refuse w.coord g)))
    where
      turn : CoordTurn
      turn = cancels w.coord g

      more : List Mark
      more = (cancel_turn w.coord g).marks

      steps : List Step
      steps = with_more w.steps more

      last_coord : Coord
      last_coord = (cancel_turn w.coord g).coord

      None-gets : ℕ → ℕ → ℕ → Type 0
      None-gets i g m = ⊥

      None-starts : ℕ → Type 0
      None-starts t = ⊥

      f : Led script (parts_in w) w.coord (marks_in w.steps) turn
      f = cancel-led script (parts_in w) w.coord (marks_in w.steps) v.stands n.kept n.past (λ g. (n.well.coordinator.works g).writers) g

      t : TellsBy None-gets None-starts (λ t. 0) turn
      t = cancel-told script (parts_in w) w.coord (marks_in w.steps) v.stands n.kept n.past (λ g. (n.well.coordinator.works g).writers) None-gets None-starts r.last g

      all : marks_in steps ≡ marks_in w.steps ++ (coord_sends w.coord.clock turn).marks
      all = marks-by-victim w g h

      came : (i g m : ℕ) → Came w.steps i g m ⊎ ⊥ → Came steps i g m
      came i g m (inl y) = came-more w.steps more i g m y
      came i g m (inr y) = absurd y

      back : Each (StepBack last_coord steps) steps
      back =
          let olds = each-parts (StepBack last_coord steps) h.before (h.step ∷ []) (subst (Each (StepBack last_coord steps)) h.is (earlier-back turn w.coord.clock steps f None-gets None-starts (λ t. 0) t all came)) in
          subst (Each (StepBack last_coord steps)) (sym (more-now script h.step more w.steps h.before h.is))
          (each_append (StepBack last_coord steps) h.before _ olds.0
          (each_append (SentBack last_coord steps h.step.stamp.node) h.step.marks more olds.1.0 (turn-back turn w.coord.clock steps f None-gets None-starts (λ t. 0) t all came h.step.stamp.node), tt))
