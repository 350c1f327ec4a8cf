-- An INSERT's answer tells what was done.
use Rattle.std.proofs.Common.{◌≡◌, ◌≤◌, ◌⊎◌, inl, inr, ℕ, List, [], ◌∷◌, ◌++◌, Option, Some, None, Ok, Bool, true, refl, sym, subst, ap, ◌∙◌, arith}
use Rattle.std.proofs.lemmas.Bool.{or_left, or_right}
use Rattle.gx_lemmas.proofs.Options.{some-same}
use Rattle.gx_ids.specs.declared.ids.Cid.{Cid}
use Rattle.gx_ids.specs.declared.ids.Gxid.{Gxid}
use Rattle.gx_ids.specs.declared.ids.Node.{Node}
use Rattle.gx_ids.specs.declared.ids.SessionId.{SessionId}
use Rattle.gx_ids.specs.declared.ids.Table.{Table}
use Rattle.gx_tree.specs.declared.expr.Expr.{Expr}
use Rattle.gx_tree.specs.declared.part.Part.{Part as QueryPart}
use Rattle.gx_tree.specs.declared.slice.Slice.TheVariants as slice
use Rattle.gx_tree.specs.declared.stmt.Level.{Level}
use Rattle.gx_tree.specs.declared.stmt.Level.TheVariants.{ReadCommitted, RepeatableRead}
use Rattle.gx_tree.specs.declared.stmt.Stmt.{Stmt}
use Rattle.gx_tree.specs.declared.stmt.Stmt.TheVariants as stmt
use Rattle.gx_dsnap.specs.declared.snapshot.Snapshot.{Snapshot}
use Rattle.gx_msg.specs.declared.message.Envelope.{Envelope}
use Rattle.gx_msg.specs.declared.message.Message.TheVariants as message
use Rattle.gx_msg.specs.declared.reply.Reply.TheVariants as reply
use Rattle.gx_meaning.specs.Constants.{rows_of}
use Rattle.gx_meaning.specs.Plan.{plan_of, rows_at}
use Rattle.gx_script.specs.declared.Script.{Script}
use Rattle.gx_script.specs.declared.state.Block.{Block}
use Rattle.gx_script.specs.declared.state.Block.TheVariants as block
use Rattle.gx_script.specs.declared.state.Pending.TheVariants as pending
use Rattle.gx_store.specs.declared.answer.StmtAnswer.{StmtAnswer}
use Rattle.gx_store.specs.declared.answer.StmtAnswer.TheVariants as told
use Rattle.gx_store.specs.declared.event.Event.{Event}
use Rattle.gx_store.specs.declared.mark.Mark.{Mark}
use Rattle.gx_store.specs.declared.mark.Mark.TheVariants as mark
use Rattle.gx_store.specs.declared.node.NodeEvent.{NodeEvent}
use Rattle.gx_store.specs.declared.node.NodeEvent.TheVariants as here
use Rattle.gx_store.specs.Answers.{Inserts, Tells}
use Rattle.gx_store.specs.Commands.{RunsCommand, has_own_snapshot}
use Rattle.gx_store.specs.Lines.{level_of}
use Rattle.gx_store.specs.Marks.{has_snapshot, is_snapped}
use Rattle.gx_store.specs.Points.{Point, marks_in, starts_by}
use Rattle.gx_store.specs.Writes.{dist_of}
use Rattle.gx_store.proofs.Marks.{has_snapshot-append, is_snapped-append}
use Rattle.gx_rules.specs.AtCoordinator.{command_answer, table_of, with_done}
use Rattle.gx_rules.specs.Coordinators.{Command, Coord, Work, session_of}
use Rattle.gx_rules.specs.Machine.{World}
use Rattle.gx_law_order.proofs.Lists.{each_weaker}
use Rattle.gx_law_order.specs.Lists.{Each}
use Rattle.gx_law_order.specs.Sessions.{Kept, is_closing_in}
use Rattle.gx_law_order.specs.Stages.{stage_of}
use Rattle.gx_store.specs.Language.{AreLinesNumbered}
use Rattle.gx_law_order.specs.Rest.{EachMark}
use Rattle.gx_law_order.specs.Standing.{AreSessions, HasSnapshot, Owns, is_busy, level_in, state_in}
use Rattle.gx_law_order.proofs.Said.{CalmFor}
use Rattle.gx_law_order.specs.Standings.{gx, waits_in}
use Rattle.gx_law_writes.specs.Inserts.{HasInserted, InsertTold}
use Rattle.gx_law_writes.proofs.Alive.{has-snap, line-is}
use Rattle.gx_law_writes.proofs.Live.{Running, live-owns, running, running-in, runs}
use Rattle.gx_law_writes.proofs.Plans.{insert-slice}
use Rattle.gx_law_writes.proofs.Progress.{Progress, progress-done, progress-end, progress-more, progress-new}
use Rattle.gx_law_writes.proofs.Told.{IsDoneSlice, IsReport}
use Rattle.gx_law_writes.proofs.Walk.{AnswerAt, AnswersOk, Completes, Goes, IsDoneBy, New, Still, Took}

-- of each INSERT under way
abbrev pub IsProgress : Script → List Mark → ℕ → Level → Option Command → Type 0
IsProgress script ms g level None = Unit {0}
IsProgress script ms g level (Some m) = (table : Table) (tuples : List (List Expr)) → m.stmt ≡ stmt.Insert table tuples → Progress script table ms g level m tuples

pub is-progress-more : (script : Script) (ms ns : List Mark) (g : ℕ) (level : Level) (o : Option Command) → IsProgress script ms g level o → IsProgress script (ms ++ ns) g level o
is-progress-more script ms ns g level None p = tt
is-progress-more script ms ns g level (Some m) p = λ table tuples e. progress-more script table ms ns g level m tuples (p table tuples e)

cid-is : (a b : Cid) → a.0 ≡ b.0 → a ≡ b
cid-is a b e = ap (λ n. let r : Cid = record { 0 = n } in r) e

-- a snapshot of the marks
own-of : (level : Level) (ms ns : List Mark) (g : Gxid) (c : Cid) → has_snapshot ns g ≡ true → is_snapped ns g c ≡ true → has_own_snapshot level (ms ++ ns) g c ≡ true
own-of ReadCommitted ms ns g c a b = is_snapped-append ms ns g c ∙ or_right (is_snapped ms g c) (is_snapped ns g c) b
own-of RepeatableRead ms ns g c a b = has_snapshot-append ms ns g ∙ or_right (has_snapshot ms g) (has_snapshot ns g) a

own-kept : (level : Level) (ms ns : List Mark) (g : Gxid) (c : Cid) (o : Option Snapshot) (y : Snapshot) → o ≡ Some y → HasSnapshot level ms g o → has_own_snapshot level (ms ++ ns) g c ≡ true
own-kept ReadCommitted ms ns g c o y e h = absurd (differ (sym h ∙ e))
  where
    differ : None ≡ Some y → ⊥
    differ z = cc
own-kept RepeatableRead ms ns g c o y e h = from (subst (HasSnapshot RepeatableRead ms g) e h)
  where
    from : Rattle.gx_law_order.specs.Standing.IsTaken ms g y → has_own_snapshot RepeatableRead (ms ++ ns) g c ≡ true
    from t = has_snapshot-append ms ns g ∙ or_left (has_snapshot ms g) (has_snapshot ns g) (has-snap ms t.place g t.d y t.taken).0

busy-level : (b : Block) (n : ℕ) → level_of (state_in b n) ≡ level_in b
busy-level block.Outside n = refl
busy-level (block.Open l) n = refl
busy-level block.Failed n = refl

closing-busy : (b : Block) → is_closing_in b pending.Command ≡ true → is_busy b pending.Command ≡ true
closing-busy b e = grind arith

module _ (script : Script) (some : 1 ≤ script.segments) (numbered : AreLinesNumbered [] script.lines) (w : World) (kept : Kept script w.coord) (sessions : AreSessions script w) (x : NodeEvent) (progress : (g : ℕ) → IsProgress script (marks_in w.steps) g (w.coord.works g).level (w.coord.works g).command)
    (report : (i : Node) (envelope : Envelope) (g : ℕ) (cid : Cid) (wrote : Bool) (count : ℕ) (part : QueryPart) → x ≡ here.Deliver i envelope → envelope.message ≡ message.Answer (gx g) (reply.Done cid wrote count part) → IsReport script (marks_in w.steps) i (gx g) cid count) where
  abbrev ms : List Mark
  ms = marks_in w.steps

  abbrev c : Coord
  c = w.coord

  running-by : (g : ℕ) (m : Command) (i : Node) (count : ℕ) → (c.works g).command ≡ Some m → IsDoneBy script c x g m i count → Running script w g
  running-by g m i count e by = running script w sessions g kept i.0 (ap (λ o. waits_in o i.0) e ∙ by.awaited)

  -- a segment's answer is taken
  took-progress : (g : ℕ) (m : Command) (i : Node) (count : ℕ) (part : QueryPart) → (c.works g).command ≡ Some m → IsDoneBy script c x g m i count → (table : Table) (tuples : List (List Expr)) → m.stmt ≡ stmt.Insert table tuples → Progress script table ms g (c.works g).level (with_done m i count part) tuples
  took-progress g m i count part e by table tuples line =
      progress-done script table ms g (c.works g).level m tuples i count part by.awaited p (subst (λ s. IsDoneSlice ms s count) slice-is rep.done)
    where
      p : Progress script table ms g (c.works g).level m tuples
      p = subst (IsProgress script ms g (c.works g).level) e (progress g) table tuples line

      r : Running script w g
      r = running-by g m i count e by

      same : r.command ≡ m
      same = some-same r.command m (sym r.has_it ∙ e)

      rep : IsReport script ms i (gx g) by.cid count
      rep = report i by.envelope g by.cid by.wrote count by.part by.is by.told

      cid : by.cid ≡ m.cid
      cid = cid-is by.cid m.cid (sym by.number)

      its : rep.order.line ≡ stmt.Insert table tuples
      its = sym (line-is script numbered w g r by.cid rep.order.line (ap (λ (z : Cid). z.0) cid ∙ ap (λ (z : Command). z.cid.0) (sym same)) rep.order.of) ∙ ap (λ (z : Command). z.stmt) same ∙ line

      slice-is : rep.slice ≡ slice.Insert table (rows_at script.segments (dist_of script.tables table.0) p.rows i.0)
      slice-is =
          insert-slice script.segments (dist_of script.tables) (gx g) by.cid i table tuples p.rows rep.order.pieces rep.slice (ap (λ z. rows_of (gx g) z tuples) cid ∙ p.planned)
          (subst (λ l. plan_of script.segments (dist_of script.tables (table_of l)) (gx g) by.cid l ≡ Ok rep.order.pieces) its rep.order.plan) rep.order.among

  -- what an event leaves of each
  pub goes-progress : (ns : List Mark) (g : ℕ) (new : Work) → Goes script c x g ns (c.works g) new → IsProgress script (ms ++ ns) g new.level new.command
  goes-progress ns g new (inl s) = subst (λ l. IsProgress script (ms ++ ns) g l new.command) (sym s.1) (subst (IsProgress script (ms ++ ns) g (c.works g).level) (sym s.0) (is-progress-more script ms ns g (c.works g).level (c.works g).command (progress g)))
  goes-progress ns g new (inr (inl s)) = subst (IsProgress script (ms ++ ns) g new.level) (sym s) tt
  goes-progress ns g new (inr (inr (inl t))) =
      subst (λ l. IsProgress script (ms ++ ns) g l new.command) (sym t.level)
      (subst (IsProgress script (ms ++ ns) g (c.works g).level) (sym t.now) (λ table tuples e. progress-more script table ms ns g (c.works g).level (with_done t.m t.i t.count t.part) tuples (took-progress g t.m t.i t.count t.part t.has_it t.by table tuples e)))
  goes-progress ns g new (inr (inr (inr t))) = subst (IsProgress script (ms ++ ns) g new.level) (sym t.now) fresh
    where
      snapped : (table : Table) (tuples : List (List Expr)) → ((has_snapshot ns (gx g) ≡ true) × (is_snapped ns (gx g) t.cid ≡ true)) ⊎ ((stage_of c g ≡ Rattle.gx_law_order.specs.Stages.Stage.Live) × ((y : Snapshot) × ((c.works g).snapshot ≡ Some y)) × (new.level ≡ (c.works g).level)) → has_own_snapshot new.level (ms ++ ns) (gx g) t.cid ≡ true
      snapped table tuples (inl z) = own-of new.level ms ns (gx g) t.cid z.0 z.1
      snapped table tuples (inr z) =
          let o = live-owns script w sessions g kept z.0 in
          subst (λ l. has_own_snapshot l (ms ++ ns) (gx g) t.cid ≡ true) (sym z.2) (own-kept (c.works g).level ms ns (gx g) t.cid (c.works g).snapshot z.1.0 z.1.1 o.2.snapshot)

      fresh : (table : Table) (tuples : List (List Expr)) → t.line ≡ stmt.Insert table tuples → Progress script table (ms ++ ns) g new.level (record { stmt = t.line; cid = t.cid; orders = t.orders; awaited = Rattle.gx_rules.specs.AtCoordinator.nodes_in t.pieces; count = 0; parts = [] }) tuples
      fresh table tuples e =
          progress-new script table (ms ++ ns) g new.level t.cid t.line tuples t.pieces t.orders some
          (subst (λ l. plan_of script.segments (dist_of script.tables (table_of l)) (gx g) t.cid l ≡ Ok t.pieces) e t.plan) (snapped table tuples (t.read table tuples e))

  -- ANSWERS
  module _ (e : Event) (quiet : (i : Node) (envelope : Envelope) → x ≡ here.Deliver i envelope → (s : SessionId) → starts_by s e ≡ 0) where
    still-calm : (s : SessionId) (m : Mark) → Still m → CalmFor s m
    still-calm s (mark.Start g t) h = absurd h
    still-calm s (mark.Answer t n a) h = absurd h
    still-calm s m h = tt

    -- the command that is answered
    pub record Answered (g : ℕ) (m : Command) : Type 0 where
      pub run : Running script w g
      pub line : m.stmt ≡ run.command.stmt
      pub number : m.cid ≡ run.command.cid
      pub told : (table : Table) (tuples : List (List Expr)) → m.stmt ≡ stmt.Insert table tuples → Progress script table ms g (c.works g).level m tuples

    live-closing : Rattle.gx_law_order.specs.Stages.Stage.Live ≡ Rattle.gx_law_order.specs.Stages.Stage.Closing → ⊥
    live-closing z = cc

    pub answered : (s : SessionId) (a : StmtAnswer) → (q : Completes script c x s a) → Answered q.g q.m
    answered s a q = by_how q.how
      where
        by_how : (((c.works q.g).command ≡ Some q.m) × (stage_of c q.g ≡ Rattle.gx_law_order.specs.Stages.Stage.Closing) × ((session_of c s).state.pending ≡ pending.Command)) ⊎ ((k : Command) × (i : Node) × (count : ℕ) × (part : QueryPart) × ((c.works q.g).command ≡ Some k) × (q.m ≡ with_done k i count part) × IsDoneBy script c x q.g k i count) → Answered q.g q.m
        by_how (inl z) =
            let l = (kept.tied q.g).closing z.1 in
            let p : (session_of c (c.works q.g).session).state.pending ≡ pending.Command = subst (λ k. (session_of c k).state.pending ≡ pending.Command) (sym q.home) z.2 in
            let r : Running script w q.g = running-in script w sessions q.g l.0 p (closing-busy _ (subst (λ y. is_closing_in (session_of c (c.works q.g).session).state.block y ≡ true) p l.1)) (λ line y. live-closing (sym ((kept.tied q.g).waits line y).0 ∙ z.1)) in
            let same : q.m ≡ r.command = some-same q.m r.command (sym z.0 ∙ r.has_it) in
            record { run = r; line = ap (λ (k : Command). k.stmt) same; number = ap (λ (k : Command). k.cid) same; told = subst (IsProgress script ms q.g (c.works q.g).level) z.0 (progress q.g) }
        by_how (inr z) =
            let r : Running script w q.g = running-by q.g z.0 z.1 z.2 z.4 z.6 in
            let same : z.0 ≡ r.command = some-same z.0 r.command (sym z.4 ∙ r.has_it) in
            record {
              run = r;
              line = ap (λ (k : Command). k.stmt) z.5 ∙ ap (λ (k : Command). k.stmt) same;
              number = ap (λ (k : Command). k.cid) z.5 ∙ ap (λ (k : Command). k.cid) same;
              told = λ table tuples f. subst (λ k. Progress script table ms q.g (c.works q.g).level k tuples) (sym z.5) (took-progress q.g z.0 z.1 z.2 z.3 z.4 z.6 table tuples (ap (λ (k : Command). k.stmt) (sym z.5) ∙ f));
            }

    pub tells : (earlier later : List Mark) (s : SessionId) (n : ℕ) (q : Completes script c x s (told.Inserted n)) → Each Still earlier → Answered q.g q.m → HasInserted script (record { steps = w.steps; event = e; earlier = earlier; later = later }) s n
    tells earlier later s n q calm a asked level g cid theirs =
        subst (λ y. Tells script (ms ++ earlier) level g cid y (told.Inserted n)) (sym line)
        (subst (λ y. Tells script (ms ++ earlier) y g cid q.m.stmt (told.Inserted n)) (sym level-is)
        (subst (λ y. Tells script (ms ++ earlier) (c.works q.g).level y cid q.m.stmt (told.Inserted n)) (sym gxid)
        (subst (λ y. Tells script (ms ++ earlier) (c.works q.g).level (gx q.g) y q.m.stmt (told.Inserted n)) (sym number) (by_stmt q.m.stmt refl q.says))))
      where
        point : Point
        point = record { steps = w.steps; event = e; earlier = earlier; later = later }

        ours : RunsCommand script point s a.run.command.stmt (level_of (state_in a.run.block a.run.commands)) (gx q.g) a.run.command.cid
        ours =
            subst (λ k. RunsCommand script point k a.run.command.stmt (level_of (state_in a.run.block a.run.commands)) (gx q.g) a.run.command.cid) q.home
            (runs script w q.g a.run e earlier later (quiet q.from q.envelope q.heard (c.works q.g).session) (each_weaker Still (CalmFor (c.works q.g).session) (λ m h. still-calm (c.works q.g).session m h) earlier calm))

        line : asked ≡ q.m.stmt
        line = some-same asked a.run.command.stmt (sym theirs.line.line ∙ ours.line.line) ∙ sym a.line

        gxid : g ≡ gx q.g
        gxid = some-same g (gx q.g) (sym theirs.transaction ∙ ours.transaction)

        number : cid ≡ q.m.cid
        number = theirs.number ∙ sym ours.number ∙ sym a.number

        level-is : level ≡ (c.works q.g).level
        level-is = theirs.isolation ∙ sym ours.isolation ∙ busy-level a.run.block a.run.commands ∙ sym a.run.owns.level

        by_stmt : (l : Stmt) → q.m.stmt ≡ l → command_answer q.m l ≡ told.Inserted n → Tells script (ms ++ earlier) (c.works q.g).level (gx q.g) q.m.cid q.m.stmt (told.Inserted n)
        by_stmt (stmt.Insert table tuples) f says =
            subst (λ y. Tells script (ms ++ earlier) (c.works q.g).level (gx q.g) q.m.cid y (told.Inserted n)) (sym f)
            (subst (Inserts (ms ++ earlier) (c.works q.g).level (gx q.g) q.m.cid tuples) (count-is says) (progress-end script (ms ++ earlier) q.g (c.works q.g).level q.m table tuples (progress-more script table ms earlier q.g (c.works q.g).level q.m tuples (a.told table tuples f)) q.all))
          where
            count-is : told.Inserted q.m.count ≡ told.Inserted n → q.m.count ≡ n
            count-is z = cc
        by_stmt (stmt.Select query) f says = absurd (cc)
        by_stmt (stmt.Update t b d) f says = absurd (cc)
        by_stmt (stmt.Delete t d) f says = absurd (cc)
        by_stmt (stmt.Lock t d) f says = absurd (cc)
        by_stmt (stmt.Begin l) f says = absurd (cc)
        by_stmt stmt.Commit f says = absurd (cc)
        by_stmt stmt.Rollback f says = absurd (cc)

    answer-told : (earlier later : List Mark) (s : SessionId) (a : StmtAnswer) → Rattle.gx_law_writes.proofs.Walk.AnswerOk script c x earlier s a → Rattle.gx_law_writes.specs.Inserts.IsInsertTold script (record { steps = w.steps; event = e; earlier = earlier; later = later }) s a
    answer-told earlier later s (told.Inserted n) q = tells earlier later s n q.0 q.1 (answered s (told.Inserted n) q.0)
    answer-told earlier later s told.Begin q = tt
    answer-told earlier later s told.Commit q = tt
    answer-told earlier later s told.Rollback q = tt
    answer-told earlier later s told.Locked q = tt
    answer-told earlier later s (told.Updated n) q = tt
    answer-told earlier later s (told.Deleted n) q = tt
    answer-told earlier later s (told.Rows rows) q = tt
    answer-told earlier later s (told.Refused r) q = tt

    mark-told : (earlier later : List Mark) (m : Mark) → AnswerAt script c x earlier m → InsertTold script (record { steps = w.steps; event = e; earlier = earlier; later = later }) m
    mark-told earlier later (mark.Answer s n a) q = answer-told earlier later s a q
    mark-told earlier later m q = tt

    pub marks-told : (earlier ns later : List Mark) → AnswersOk script c x earlier ns → EachMark (InsertTold script) w.steps e earlier ns later
    marks-told earlier [] later q = tt
    marks-told earlier (m ∷ ns) later q = (mark-told earlier (ns ++ later) m q.0, marks-told (earlier ++ m ∷ []) ns later q.1)
