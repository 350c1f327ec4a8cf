-- What the marks say of a transaction's end, its segments say too, and nothing is written once it has committed.
use Rattle.std.proofs.Common.{◌≡◌, ◌⊎◌, inl, inr, ◌≤◌, ◌<◌, ℕ, ◌+◌, List, [], ◌∷◌, ◌++◌, Option, Some, None, Bool, true, false, refl, sym, subst, ap, ◌∙◌, if◌then◌else◌, ◌||◌, ◌&&◌, arith, eqb}
use Rattle.std.proofs.lemmas.Bool.{eqb-true}
use Rattle.std.proofs.lemmas.Bool.Decides.{nat_tests}
use Rattle.std.specs.Prelude.{nat_lt}
use Rattle.gx_lemmas.proofs.Tests.{or-false}
use Rattle.gx_lemmas.proofs.Numbers.{le-of, lt-le, lt-of, plus-none}
use Rattle.gx_ids.specs.declared.ids.Cid.{Cid}
use Rattle.gx_ids.specs.declared.ids.Gxid.{Gxid}
use Rattle.gx_ids.specs.declared.ids.Node.{Node}
use Rattle.gx_tree.specs.declared.slice.Slice.{Slice}
use Rattle.gx_dsnap.specs.Gxids.{is_below}
use Rattle.gx_tree.specs.declared.stmt.Level.{Level}
use Rattle.gx_dsnap.specs.declared.snapshot.Snapshot.{Snapshot}
use Rattle.gx_msg.specs.declared.message.Envelope.{Envelope}
use Rattle.gx_msg.specs.declared.message.Message.{Message}
use Rattle.gx_msg.specs.declared.message.Message.TheVariants as message
use Rattle.gx_msg.specs.declared.message.Out.{Out}
use Rattle.gx_msg.specs.declared.reply.Reply.{Reply}
use Rattle.gx_script.specs.declared.Script.{Script}
use Rattle.gx_store.specs.declared.event.Event.{Event}
use Rattle.gx_store.specs.declared.mark.Mark.{Mark}
use Rattle.gx_store.specs.declared.mark.Mark.TheVariants as mark
use Rattle.gx_store.specs.declared.node.NodeEvent.{NodeEvent}
use Rattle.gx_store.specs.declared.node.NodeEvent.TheVariants as here
use Rattle.gx_store.specs.declared.run.Step.{Step}
use Rattle.gx_store.specs.Marks.{is_aborted, is_committed}
use Rattle.gx_store.specs.Ordered.{IsSegment}
use Rattle.gx_store.specs.Points.{marks_in}
use Rattle.gx_store.specs.Protocol.{CommitsBy, is_writer, local_count, prepared_count, writers_of}
use Rattle.gx_store.specs.Refusals.{the_coordinator}
use Rattle.gx_rules.specs.AtCoordinator as coordinator
use Rattle.gx_rules.specs.AtCoordinator.{coord_can, coord_sends, coord_turn}
use Rattle.gx_rules.specs.AtSegment.{if_fits, on_event, on_exec, on_message, raised, repeats, seg_rule, takes, unless_below}
use Rattle.gx_rules.specs.Coordinators.{CoordTurn}
use Rattle.gx_rules.specs.Fits.{fits_exec}
use Rattle.gx_rules.specs.Machine.{Letter, World, and_cancelled, coord_did, new_world, seg_can, seg_did, world_of}
use Rattle.gx_rules.specs.Segments.{Local, Phase, Seg, SegTurn, has_committed, local_of, stays, tells_kept}
use Rattle.gx_rules.specs.Segments.Phase.{Aborted, Committed, Forgotten, Prepared, Reading, Writing}
use Rattle.gx_rules.specs.Sending.{clock_after, numbered}
use Rattle.gx_rules.specs.Running.{starts_slice}
use Rattle.gx_law_order.specs.Moves.{Move, world_by}
use Rattle.gx_law_order.proofs.Induction.{after_turn, marks-by-event, marks-by-victim}
use Rattle.gx_law_order.proofs.Lists.{each_append, each_weaker}
use Rattle.gx_law_order.specs.Lists.{Each}
use Rattle.gx_law_order.proofs.Moves.{HasNamed}
use Rattle.gx_law_order.proofs.Past.{aborted-append, committed-append, running-drawn}
use Rattle.gx_law_order.specs.Past.{Past}
use Rattle.gx_law_order.proofs.Replies.{cancel-good, event-good}
use Rattle.gx_law_order.specs.Stages.{IsWhole, is_running}
use Rattle.gx_law_order.proofs.Waiting.{each-among}
use Rattle.gx_law_order.proofs.More.{marks-last}
use Rattle.gx_law_order.proofs.World.{Knows}
use Rattle.gx_law_order.specs.Pairs.{bit}
use Rattle.gx_law_order.specs.Said.{Said, SaidIn, gxid_in, is_answer}
use Rattle.gx_law_order.specs.Standings.{Known, at, gx, known_at}
use Rattle.gx_law_order.proofs.Counts.{NoEnd, NoPart, NoSent, local-append, no-aborted, no-committed, no-local, no-writer, sent-no-end, sent-no-part, writer-append}
use Rattle.gx_law_order.proofs.Everywhere.{Holds, IsResumed, does-it, fol-no-sent, parts_in, posted-each, resumed-does, told-answer}
use Rattle.gx_law_order.proofs.Handled.{Does, Follows, IsExecOf}
use Rattle.gx_law_order.proofs.WaitingParts.{awaited}
use Rattle.gx_law_order.proofs.Ways.{Fol, Led, fol-no-part}
use Rattle.gx_law_reads.proofs.Low.{IsAnswer, Lows, coord-low, heard-low, new-lows, victim-low}
use Rattle.gx_law_order.proofs.Always.{HeardAt, IsGiven, SaidTo, by-heard, each-zip}
use Rattle.gx_law_order.proofs.Steps.{cancel-leads, event-leads, given-is, moves-keep, world-keeps}
use Rattle.gx_law_reads.proofs.Taken.{LiveMessage, Passes, cancel-pass, event-pass}

-- who has committed has its writes committed at each segment, and who was aborted nowhere
pub record Ended (c a here wrote : Bool) : Type 0 where
  pub committed : c ≡ true → here ≡ wrote
  pub aborted : a ≡ true → here ≡ false

abbrev pub EndedAt : World → ℕ → ℕ → Type 0
EndedAt w i g = Ended (is_committed (marks_in w.steps) (gx g)) (is_aborted (marks_in w.steps) (gx g)) (has_committed ((w.segs i).locals g).phase) (is_writer (marks_in w.steps) (gx g) (at i))

-- of who has committed, each segment has taken what was sent to it
abbrev pub TakenAt : World → Node → Message → Type 0
TakenAt w to (message.Exec g c level x h slice) = (1 ≤ g.0) × (is_committed (marks_in w.steps) (gx g.0) ≡ true → c.0 ≤ ((w.segs to.0).locals g.0).last)
TakenAt w to _ = Unit {0}

pub record Ends (w : World) : Type 0 where
  pub ended : (i g : ℕ) → EndedAt w i g
  pub taken : Each (λ (l : Letter). TakenAt w l.to l.envelope.message) w.sent
  pub drawn : (i g : ℕ) → is_writer (marks_in w.steps) (gx g) (at i) ≡ true → 1 ≤ g

-- MARKS OF THE COORDINATOR
commits-once : (xs : List Node) (ms : List Mark) (g : Gxid) (i : ℕ) → CommitsBy xs ms g → local_count ms (at i) g ≡ (if is_writer ms g (at i) then 1 else 0)
commits-once [] ms g i c = c.local (at i)
commits-once (x ∷ []) ms g i c = c.local (at i)
commits-once (x ∷ y ∷ ys) ms g i c = c.local (at i)

one-local : (ms : List Mark) (m : Mark) (i g : ℕ) → NoPart m → local_count (ms ++ m ∷ []) (at i) (gx g) ≡ local_count ms (at i) (gx g)
one-local ms m i g e = local-append ms (m ∷ []) (at i) (gx g) ∙ ap (λ n. local_count ms (at i) (gx g) + n) (no-local (m ∷ []) (at i) (gx g) (e, tt)) ∙ plus-none (local_count ms (at i) (gx g))

one-writer : (ms : List Mark) (m : Mark) (i g : ℕ) → NoPart m → is_writer (ms ++ m ∷ []) (gx g) (at i) ≡ is_writer ms (gx g) (at i)
one-writer ms m i g e = writer-append ms (m ∷ []) (gx g) (at i) ∙ ap (λ b. is_writer ms (gx g) (at i) || b) (no-writer (m ∷ []) (gx g) (at i) (e, tt)) ∙ or-false (is_writer ms (gx g) (at i))

module _ (script : Script) (i g : ℕ) where
  abbrev Once : List Mark → Type 0
  Once ms = local_count ms (at i) (gx g) ≡ (if is_writer ms (gx g) (at i) then 1 else 0)

  once-back : (ms : List Mark) (m : Mark) → NoPart m → Once (ms ++ m ∷ []) → Once ms
  once-back ms m e o = sym (one-local ms m i g e) ∙ o ∙ ap (λ b. if b then 1 else 0) (one-writer ms m i g e)

  fol-committed : (ms ns : List Mark) → Fol script ms ns → is_committed ns (gx g) ≡ true → Once ms
  fol-committed ms [] f e = absurd (cc)
  fol-committed ms (mark.Commit h ∷ ns) f e = by_test (eqb h.0 g) refl e (λ z. once-back ms (mark.Commit h) tt (fol-committed (ms ++ mark.Commit h ∷ []) ns f.1 z))
    where
      by_test : (b : Bool) → eqb h.0 g ≡ b → (b || is_committed ns (gx g)) ≡ true → (is_committed ns (gx g) ≡ true → Once ms) → Once ms
      by_test true q e more = subst (λ z. local_count ms (at i) (gx z) ≡ (if is_writer ms (gx z) (at i) then 1 else 0)) (eqb-true h.0 g q) (commits-once (writers_of script ms h) ms h i f.0)
      by_test false q e more = more e
  fol-committed ms (m ∷ ns) f e = once-back ms m (fol-no-part script ms (m ∷ ns) f).0 (fol-committed (ms ++ m ∷ []) ns f.1 e)

  fol-aborted : (ms ns : List Mark) → Fol script ms ns → is_aborted ns (gx g) ≡ true → local_count ms (at i) (gx g) ≡ 0
  fol-aborted ms [] f e = absurd (cc)
  fol-aborted ms (mark.Abort h ∷ ns) f e = by_test (eqb h.0 g) refl e (λ z. sym (one-local ms (mark.Abort h) i g tt) ∙ fol-aborted (ms ++ mark.Abort h ∷ []) ns f.1 z)
    where
      by_test : (b : Bool) → eqb h.0 g ≡ b → (b || is_aborted ns (gx g)) ≡ true → (is_aborted ns (gx g) ≡ true → local_count ms (at i) (gx g) ≡ 0) → local_count ms (at i) (gx g) ≡ 0
      by_test true q e more = subst (λ z. local_count ms (at i) (gx z) ≡ 0) (eqb-true h.0 g q) (f.0.1 (at i))
      by_test false q e more = more e
  fol-aborted ms (m ∷ ns) f e = sym (one-local ms m i g (fol-no-part script ms (m ∷ ns) f).0) ∙ fol-aborted (ms ++ m ∷ []) ns f.1 e

bit-once : (a b : Bool) (n : ℕ) → n ≡ bit a → n ≡ (if b then 1 else 0) → a ≡ b
bit-once true true n e f = refl
bit-once false false n e f = refl
bit-once true false n e f = absurd (differ n e f)
  where
    differ : (n : ℕ) → n ≡ 1 → n ≡ 0 → ⊥
    differ n e f = omega arith
bit-once false true n e f = absurd (differ n e f)
  where
    differ : (n : ℕ) → n ≡ 0 → n ≡ 1 → ⊥
    differ n e f = omega arith

split : (a b d : Bool) → d ≡ false → (x : Bool) → x ≡ (a || (b || d)) → x ≡ true → (a ≡ false → b ≡ true)
split a b d n x e t f = grind arith

-- A TURN OF THE COORDINATOR
-- a single one, whose marks stand behind all others
module _ (script : Script) (w : World) (k : Knows script w) (v : Holds script w) (l : Lows w) (q : Ends w) (turn : CoordTurn) (clock : ℕ) (steps : List Step) (all : marks_in steps ≡ marks_in w.steps ++ (coord_sends clock turn).marks) where
  abbrev ms : List Mark
  ms = marks_in w.steps

  abbrev sent : List Mark
  sent = numbered turn.coord.sent turn.outs

  abbrev next : World
  next = after_turn w clock turn steps

  abbrev new : List Mark
  new = marks_in steps

  committed-is : (g : ℕ) → is_committed new (gx g) ≡ is_committed ms (gx g) || (is_committed turn.marks (gx g) || is_committed sent (gx g))
  committed-is g = ap (λ z. is_committed z (gx g)) all ∙ committed-append ms (turn.marks ++ sent) (gx g) ∙ ap (λ b. is_committed ms (gx g) || b) (committed-append turn.marks sent (gx g))

  aborted-is : (g : ℕ) → is_aborted new (gx g) ≡ is_aborted ms (gx g) || (is_aborted turn.marks (gx g) || is_aborted sent (gx g))
  aborted-is g = ap (λ z. is_aborted z (gx g)) all ∙ aborted-append ms (turn.marks ++ sent) (gx g) ∙ ap (λ b. is_aborted ms (gx g) || b) (aborted-append turn.marks sent (gx g))

  module _ (f : Led script (parts_in w) w.coord (marks_in w.steps) turn) where
    pub no-part : Each NoPart (turn.marks ++ numbered turn.coord.sent turn.outs)
    no-part = each_append NoPart turn.marks sent (fol-no-part script ms turn.marks f.way.fol) (sent-no-part turn.coord.sent turn.outs)

    writer-is : (i g : ℕ) → is_writer new (gx g) (at i) ≡ is_writer ms (gx g) (at i)
    writer-is i g = ap (λ z. is_writer z (gx g) (at i)) all ∙ writer-append ms (turn.marks ++ sent) (gx g) (at i) ∙ ap (λ b. is_writer ms (gx g) (at i) || b) (no-writer (turn.marks ++ sent) (gx g) (at i) no-part) ∙ or-false (is_writer ms (gx g) (at i))

    coord-ended : (i g : ℕ) → EndedAt next i g
    coord-ended i g = record { committed = λ t. by_old t (is_committed ms (gx g)) refl ∙ sym (writer-is i g); aborted = λ t. by_old2 t (is_aborted ms (gx g)) refl }
      where
        by_old : is_committed new (gx g) ≡ true → (b : Bool) → is_committed ms (gx g) ≡ b → has_committed ((w.segs i).locals g).phase ≡ is_writer ms (gx g) (at i)
        by_old t true o = (q.ended i g).committed o
        by_old t false o =
            bit-once _ _ (local_count ms (at i) (gx g)) (v.stands.pairs i g).committed
            (fol-committed script i g ms turn.marks f.way.fol (split (is_committed ms (gx g)) (is_committed turn.marks (gx g)) (is_committed sent (gx g)) (no-committed sent (gx g) (sent-no-end turn.coord.sent turn.outs)) (is_committed new (gx g)) (committed-is g) t o))

        by_old2 : is_aborted new (gx g) ≡ true → (b : Bool) → is_aborted ms (gx g) ≡ b → has_committed ((w.segs i).locals g).phase ≡ false
        by_old2 t true o = (q.ended i g).aborted o
        by_old2 t false o =
            bit-once _ false (local_count ms (at i) (gx g)) (v.stands.pairs i g).committed
            (fol-aborted script i g ms turn.marks f.way.fol (split (is_aborted ms (gx g)) (is_aborted turn.marks (gx g)) (is_aborted sent (gx g)) (no-aborted sent (gx g) (sent-no-end turn.coord.sent turn.outs)) (is_aborted new (gx g)) (aborted-is g) t o))

    old-taken : Passes script w k v l turn → (from to : Node) (m : Message) → Said (known_at w.coord ms (if is_answer m then from.0 else to.0) (gxid_in m)) (parts_in w (if is_answer m then from.0 else to.0) (gxid_in m)) m → TakenAt w to m → TakenAt next to m
    old-taken p from to (message.Exec g c level y h slice) s old = (old.0, λ t. by_old t (is_committed ms (gx g.0)) refl)
      where
        by_old : is_committed new (gx g.0) ≡ true → (b : Bool) → is_committed ms (gx g.0) ≡ b → c.0 ≤ ((w.segs to.0).locals g.0).last
        by_old t true o = old.1 o
        by_old t false o = p.takes g.0 (split (is_committed ms (gx g.0)) (is_committed turn.marks (gx g.0)) (is_committed sent (gx g.0)) (no-committed sent (gx g.0) (sent-no-end turn.coord.sent turn.outs)) (is_committed new (gx g.0)) (committed-is g.0) t o) to.0 c.0 s
    old-taken p from to (message.Prepare g) s old = tt
    old-taken p from to (message.Commit g) s old = tt
    old-taken p from to (message.CommitPrepared g) s old = tt
    old-taken p from to (message.Abort g) s old = tt
    old-taken p from to (message.Forget g) s old = tt
    old-taken p from to (message.Answer g r) s old = tt
    old-taken p from to (message.Collect round) s old = tt
    old-taken p from to (message.Graph round graph) s old = tt
    old-taken p from to message.Up s old = tt

    turn-committed : (g : ℕ) → is_committed new (gx g) ≡ true → is_committed (ms ++ turn.marks) (gx g) ≡ true
    turn-committed g t = committed-append ms turn.marks (gx g) ∙ join (is_committed ms (gx g)) (is_committed turn.marks (gx g)) (is_committed sent (gx g)) (is_committed new (gx g)) (committed-is g) (no-committed sent (gx g) (sent-no-end turn.coord.sent turn.outs)) t
      where
        join : (a b d x : Bool) → x ≡ (a || (b || d)) → d ≡ false → x ≡ true → (a || b) ≡ true
        join a b d x e n t = grind arith

    new-taken : Past turn.coord (ms ++ turn.marks) → IsWhole turn.coord.table → (to : Node) (m : Message) → LiveMessage turn.coord.table m → TakenAt next to m
    new-taken past whole to (message.Exec g c level y h slice) live = ((running-drawn turn.coord g.0 whole (ap is_running live)).0, λ t. absurd (clash (sym (ap is_running live) ∙ (past.committed g.0 (turn-committed g.0 t)).2)))
      where
        clash : true ≡ false → ⊥
        clash e = cc
    new-taken past whole to (message.Prepare g) live = tt
    new-taken past whole to (message.Commit g) live = tt
    new-taken past whole to (message.CommitPrepared g) live = tt
    new-taken past whole to (message.Abort g) live = tt
    new-taken past whole to (message.Forget g) live = tt
    new-taken past whole to (message.Answer g r) live = tt
    new-taken past whole to (message.Collect round) live = tt
    new-taken past whole to (message.Graph round graph) live = tt
    new-taken past whole to message.Up live = tt

    pub turn-ends : Passes script w k v l turn → Past turn.coord (ms ++ turn.marks) → IsWhole turn.coord.table → Ends (after_turn w clock turn steps)
    turn-ends p past whole =
        record {
          ended = coord-ended;
          taken = posted-each (λ (z : Letter). TakenAt next z.to z.envelope.message) the_coordinator clock turn.marks turn.coord.sent turn.outs w.sent (fol-no-sent script ms turn.marks f.way.fol)
              (each_weaker (λ (o : Out). LiveMessage turn.coord.table o.message) _ (λ o h number. new-taken past whole o.node o.message h) turn.outs p.outs)
              (each_weaker (λ (z : Letter). SaidIn w z × TakenAt w z.to z.envelope.message) (λ (z : Letter). TakenAt next z.to z.envelope.message) (λ z h. old-taken p z.from z.to z.envelope.message h.0 h.1) w.sent (each-zip (SaidIn w) (λ (z : Letter). TakenAt w z.to z.envelope.message) w.sent v.said q.taken));
          drawn = λ i g t. q.drawn i g (sym (writer-is i g) ∙ t);
        }

-- A STEP OF A SEGMENT
abbrev is_exec : Message → Bool
is_exec (message.Exec h c level x y z) = true
is_exec _ = false

-- what was taken isn't run again
module _ (script : Script) (s : Seg) (g : Gxid) (c : Cid) where
  kept-quiet : (o : Option Reply) → (tells_kept s g o).marks ≡ []
  kept-quiet None = refl
  kept-quiet (Some r) = refl

  repeats-quiet : (l : Local) → (repeats s g c l).marks ≡ []
  repeats-quiet l = by_test (eqb c.0 l.last)
    where
      by_test : (b : Bool) → (let t : SegTurn = if b then tells_kept s g l.answer else stays s in t).marks ≡ []
      by_test true = kept-quiet l.answer
      by_test false = refl

  module _ (level : Level) (x : Option Snapshot) (h : Gxid) (y : Slice) (l : Local) (old : c.0 ≤ l.last) where
    not-new : (a b : ℕ) → b ≤ a → nat_lt a b ≡ false
    not-new a b l = grind (arith, nat_tests)

    takes-quiet : (takes script s g c level x h y l).marks ≡ []
    takes-quiet = ap (λ b. (let t : SegTurn = if b then starts_slice script (raised s h) g c level x y else repeats s g c l in t).marks) (not-new l.last c.0 old) ∙ repeats-quiet l

    exec-quiet : (p : Phase) → (on_exec script s g c level x h y l p).marks ≡ []
    exec-quiet Reading = takes-quiet
    exec-quiet Writing = takes-quiet
    exec-quiet Prepared = repeats-quiet l
    exec-quiet Committed = repeats-quiet l
    exec-quiet (Forgotten z) = refl
    exec-quiet Aborted = refl

  unless-quiet : (t : SegTurn) → t.marks ≡ [] → (unless_below s g t).marks ≡ []
  unless-quiet t e = by_test (is_below s.horizon g)
    where
      by_test : (b : Bool) → (let z : SegTurn = if b then stays s else t in z).marks ≡ []
      by_test true = refl
      by_test false = e

  fits-quiet : (b : Bool) (t : SegTurn) → t.marks ≡ [] → (if_fits s b t).marks ≡ []
  fits-quiet true t e = e
  fits-quiet false t e = refl

old-quiet : (script : Script) (s : Seg) (fails : Bool) (g : Gxid) (c : Cid) (level : Level) (x : Option Snapshot) (h : Gxid) (y : Slice) → c.0 ≤ (s.locals g.0).last → (on_message script s fails (message.Exec g c level x h y)).marks ≡ []
old-quiet script s fails g c level x h y old = unless-quiet script s g c _ (fits-quiet script s g c (fits_exec script s g c x h y) _ (exec-quiet script s g c level x h y (local_of s g) old (local_of s g).phase))

-- what a segment writes is of a command that isn't before its transaction's last there, and of a transaction that was drawn and
-- hasn't committed
abbrev pub NewMark : World → ℕ → ℕ → Mark → Type 0
NewMark w i g (mark.Write h c n t r x) = (h.0 ≡ g) × (n.0 ≡ i) × (((w.segs i).locals g).last ≤ c.0) × (is_committed (marks_in w.steps) (gx g) ≡ false) × (1 ≤ g)
NewMark w i g (mark.Commit h) = ⊥
NewMark w i g (mark.Abort h) = ⊥
NewMark w i g (mark.Decided h) = ⊥
NewMark w i g (mark.Sent to number told) = ⊥
NewMark w i g _ = Unit {0}

-- what a turn of a segment makes of one transaction there: once it has ended, its writes stay as they are
pub record Made (w : World) (i g : ℕ) (turn : SegTurn) : Type 0 where
  pub others : (h : ℕ) → eqb h g ≡ false → turn.seg.locals h ≡ (w.segs i).locals h
  pub last : ((w.segs i).locals g).last ≤ (turn.seg.locals g).last
  pub committed : is_committed (marks_in w.steps) (gx g) ≡ true → has_committed (turn.seg.locals g).phase ≡ has_committed ((w.segs i).locals g).phase
  pub aborted : is_aborted (marks_in w.steps) (gx g) ≡ true → has_committed (turn.seg.locals g).phase ≡ has_committed ((w.segs i).locals g).phase
  pub marks : Each (NewMark w i g) turn.marks
  pub outs : Each IsAnswer turn.outs

new-no-end : (w : World) (i g : ℕ) (m : Mark) → NewMark w i g m → NoEnd m
new-no-end w i g (mark.Commit h) e = e
new-no-end w i g (mark.Abort h) e = e
new-no-end w i g (mark.Decided h) e = e
new-no-end w i g m e = tt

new-no-sent : (w : World) (i g : ℕ) (m : Mark) → NewMark w i g m → NoSent m
new-no-sent w i g (mark.Sent to number told) e = e
new-no-sent w i g m e = tt

-- whom it makes a writer
pub record Wrote (w : World) (i g j h : ℕ) : Type 0 where
  pub txn : h ≡ g
  pub node : j ≡ i
  pub runs : is_committed (marks_in w.steps) (gx g) ≡ false
  pub drawn : 1 ≤ g

new-writer : (w : World) (i g j h : ℕ) (ms : List Mark) → Each (NewMark w i g) ms → is_writer ms (gx h) (at j) ≡ true → Wrote w i g j h
new-writer w i g j h [] e t = absurd (cc)
new-writer w i g j h (mark.Write a c n table r x ∷ ms) e t = by_test (eqb a.0 h && eqb n.0 j) refl t (λ z. new-writer w i g j h ms e.1 z)
  where
    same : (a h n j g i : ℕ) → (eqb a h && eqb n j) ≡ true → a ≡ g → n ≡ i → (h ≡ g) × (j ≡ i)
    same a h n j g i f x y = (grind (arith, nat_tests), grind (arith, nat_tests))

    by_test : (b : Bool) → (eqb a.0 h && eqb n.0 j) ≡ b → (b || is_writer ms (gx h) (at j)) ≡ true → (is_writer ms (gx h) (at j) ≡ true → Wrote w i g j h) → Wrote w i g j h
    by_test true f z more = let d = same a.0 h n.0 j g i f e.0.0 e.0.1 in record { txn = d.0; node = d.1; runs = e.0.3; drawn = e.0.4 }
    by_test false f z more = more z
new-writer w i g j h (m ∷ ms) e t = new-writer w i g j h ms e.1 t

module _ (script : Script) (w : World) (q : Ends w) (e : Event) (x : NodeEvent) (fails : Bool) (i g : ℕ) (d : Made w i g (on_event script (w.segs i) x fails)) where
  abbrev turn3 : SegTurn
  turn3 = on_event script (w.segs i) x fails

  abbrev sent3 : List Mark
  sent3 = numbered (λ node. turn3.seg.sent) turn3.outs

  abbrev step3 : Step
  step3 = record { stamp = record { clock = clock_after (w.segs i).clock x; node = at i }; event = e; marks = turn3.marks ++ sent3 }

  abbrev ms3 : List Mark
  ms3 = marks_in w.steps

  abbrev seg3 : Seg
  seg3 = (seg_rule script (w.segs i) x fails).seg

  abbrev pub late : World
  late = seg_did w (at i) e (seg_rule script (w.segs i) x fails)

  all3 : marks_in late.steps ≡ ms3 ++ (turn3.marks ++ sent3)
  all3 = marks-last w.steps step3

  no-ends : Each NoEnd (turn3.marks ++ sent3)
  no-ends = each_append NoEnd turn3.marks sent3 (each_weaker (NewMark w i g) NoEnd (new-no-end w i g) turn3.marks d.marks) (sent-no-end (λ node. turn3.seg.sent) turn3.outs)

  same-committed : (h : ℕ) → is_committed (marks_in late.steps) (gx h) ≡ is_committed ms3 (gx h)
  same-committed h = ap (λ z. is_committed z (gx h)) all3 ∙ committed-append ms3 (turn3.marks ++ sent3) (gx h) ∙ ap (λ b. is_committed ms3 (gx h) || b) (no-committed (turn3.marks ++ sent3) (gx h) no-ends) ∙ or-false (is_committed ms3 (gx h))

  same-aborted : (h : ℕ) → is_aborted (marks_in late.steps) (gx h) ≡ is_aborted ms3 (gx h)
  same-aborted h = ap (λ z. is_aborted z (gx h)) all3 ∙ aborted-append ms3 (turn3.marks ++ sent3) (gx h) ∙ ap (λ b. is_aborted ms3 (gx h) || b) (no-aborted (turn3.marks ++ sent3) (gx h) no-ends) ∙ or-false (is_aborted ms3 (gx h))

  writer-late : (j h : ℕ) → is_writer (marks_in late.steps) (gx h) (at j) ≡ is_writer ms3 (gx h) (at j) || is_writer turn3.marks (gx h) (at j)
  writer-late j h =
      ap (λ z. is_writer z (gx h) (at j)) all3 ∙ writer-append ms3 (turn3.marks ++ sent3) (gx h) (at j)
      ∙ ap (λ b. is_writer ms3 (gx h) (at j) || b) (writer-append turn3.marks sent3 (gx h) (at j) ∙ ap (λ b. is_writer turn3.marks (gx h) (at j) || b) (no-writer sent3 (gx h) (at j) (sent-no-part (λ node. turn3.seg.sent) turn3.outs)) ∙ or-false (is_writer turn3.marks (gx h) (at j)))

  -- what holds of a record that stays and of this one holds of all
  local-late : (R : ℕ → ℕ → Local → Local → Type 0) → ((j h : ℕ) (l : Local) → R j h l l) → R i g ((w.segs i).locals g) (turn3.seg.locals g) → (j h : ℕ) → R j h ((w.segs j).locals h) ((late.segs j).locals h)
  local-late R same here_is j h = by_node (eqb j i) refl
    where
      by_txn : (b : Bool) → eqb h g ≡ b → R i h ((w.segs i).locals h) (turn3.seg.locals h)
      by_txn true f = subst (λ a. R i a ((w.segs i).locals a) (turn3.seg.locals a)) (sym (eqb-true h g f)) here_is
      by_txn false f = subst (R i h ((w.segs i).locals h)) (sym (d.others h f)) (same i h ((w.segs i).locals h))

      by_node : (b : Bool) → eqb j i ≡ b → R j h ((w.segs j).locals h) ((if b then seg3 else w.segs j).locals h)
      by_node true f = subst (λ a. R a h ((w.segs a).locals h) (turn3.seg.locals h)) (sym (eqb-true j i f)) (by_txn (eqb h g) refl)
      by_node false f = same j h ((w.segs j).locals h)

  committed-still : (j h : ℕ) → is_committed ms3 (gx h) ≡ true → has_committed ((late.segs j).locals h).phase ≡ has_committed ((w.segs j).locals h).phase
  committed-still = local-late (λ j h l m. is_committed ms3 (gx h) ≡ true → has_committed m.phase ≡ has_committed l.phase) (λ j h l c. refl) d.committed

  aborted-still : (j h : ℕ) → is_aborted ms3 (gx h) ≡ true → has_committed ((late.segs j).locals h).phase ≡ has_committed ((w.segs j).locals h).phase
  aborted-still = local-late (λ j h l m. is_aborted ms3 (gx h) ≡ true → has_committed m.phase ≡ has_committed l.phase) (λ j h l c. refl) d.aborted

  -- who has committed writes no more
  no-writes : (j h : ℕ) → is_committed ms3 (gx h) ≡ true → is_writer turn3.marks (gx h) (at j) ≡ false
  no-writes j h c = by_test (is_writer turn3.marks (gx h) (at j)) refl
    where
      clash : (b : Bool) → b ≡ true → b ≡ false → ⊥
      clash b x y = grind arith

      by_test : (b : Bool) → is_writer turn3.marks (gx h) (at j) ≡ b → b ≡ false
      by_test false f = refl
      by_test true f = let z = new-writer w i g j h turn3.marks d.marks f in absurd (clash (is_committed ms3 (gx h)) c (ap (λ a. is_committed ms3 (gx a)) z.txn ∙ z.runs))

  ended-late : (j h : ℕ) → EndedAt late j h
  ended-late j h =
      record {
        committed = λ t. let c : is_committed ms3 (gx h) ≡ true = sym (same-committed h) ∙ t in
            committed-still j h c ∙ (q.ended j h).committed c ∙ sym (writer-late j h ∙ ap (λ b. is_writer ms3 (gx h) (at j) || b) (no-writes j h c) ∙ or-false (is_writer ms3 (gx h) (at j)));
        aborted = λ t. let a : is_aborted ms3 (gx h) ≡ true = sym (same-aborted h) ∙ t in aborted-still j h a ∙ (q.ended j h).aborted a;
      }

  drawn-late : (j h : ℕ) → is_writer (marks_in late.steps) (gx h) (at j) ≡ true → 1 ≤ h
  drawn-late j h t = by_old (is_writer ms3 (gx h) (at j)) refl (sym (writer-late j h) ∙ t)
    where
      by_old : (b : Bool) → is_writer ms3 (gx h) (at j) ≡ b → (b || is_writer turn3.marks (gx h) (at j)) ≡ true → 1 ≤ h
      by_old true f z = q.drawn j h f
      by_old false f z = let y = new-writer w i g j h turn3.marks d.marks z in subst (λ a. 1 ≤ a) (sym y.txn) y.drawn

  -- the last command taken doesn't fall
  pub last-late : (j h : ℕ) → ((w.segs j).locals h).last ≤ ((late.segs j).locals h).last
  last-late = local-late (λ j h l m. l.last ≤ m.last) (λ j h l. le-refl l.last) d.last
    where
      le-refl : (a : ℕ) → a ≤ a
      le-refl a = omega arith

  le-trans : (a b c : ℕ) → a ≤ b → b ≤ c → a ≤ c
  le-trans a b c l m = omega arith

  taken-late : (to : Node) (m : Message) → TakenAt w to m → TakenAt late to m
  taken-late to (message.Exec h c level x y z) old = (old.0, λ t. le-trans c.0 _ _ (old.1 (sym (same-committed h.0) ∙ t)) (last-late to.0 h.0))
  taken-late to (message.Prepare h) old = tt
  taken-late to (message.Commit h) old = tt
  taken-late to (message.CommitPrepared h) old = tt
  taken-late to (message.Abort h) old = tt
  taken-late to (message.Forget h) old = tt
  taken-late to (message.Answer h r) old = tt
  taken-late to (message.Collect round) old = tt
  taken-late to (message.Graph round graph) old = tt
  taken-late to message.Up old = tt

  answer-taken : (to : Node) (m : Message) → is_answer m ≡ true → TakenAt late to m
  answer-taken to (message.Answer h r) a = tt
  answer-taken to (message.Exec h c level x y z) a = absurd (cc)
  answer-taken to (message.Prepare h) a = tt
  answer-taken to (message.Commit h) a = tt
  answer-taken to (message.CommitPrepared h) a = tt
  answer-taken to (message.Abort h) a = tt
  answer-taken to (message.Forget h) a = tt
  answer-taken to (message.Collect round) a = tt
  answer-taken to (message.Graph round graph) a = tt
  answer-taken to message.Up a = tt

  seg-ends : Ends late
  seg-ends =
      record {
        ended = ended-late;
        taken = posted-each (λ (z : Letter). TakenAt late z.to z.envelope.message) (at i) (clock_after (w.segs i).clock x) turn3.marks (λ node. turn3.seg.sent) turn3.outs w.sent (each_weaker (NewMark w i g) NoSent (new-no-sent w i g) turn3.marks d.marks)
            (each_weaker IsAnswer _ (λ o h number. answer-taken o.node o.message h) turn3.outs d.outs)
            (each_weaker (λ (z : Letter). TakenAt w z.to z.envelope.message) (λ (z : Letter). TakenAt late z.to z.envelope.message) (λ z h. taken-late z.to z.envelope.message h) w.sent q.taken);
        drawn = drawn-late;
      }

-- WHAT A SEGMENT DOES FOR A TRANSACTION
-- by a message, or by that of a slice that goes on
module _ (script : Script) (w : World) (k : Knows script w) (v : Holds script w) (i g : ℕ) (told : Message) (turn : SegTurn)
    (does : Does told (known_at w.coord (marks_in w.steps) i g) (w.segs i) i g (k.well.names i) (is_writer (marks_in w.steps) (gx g) (at i)) (prepared_count (marks_in w.steps) (at i) (gx g)) (local_count (marks_in w.steps) (at i) (gx g)) (v.stands.pairs i g) turn) where
  abbrev kn : Known
  kn = known_at w.coord (marks_in w.steps) i g

  clash : (x : Bool) → x ≡ true → x ≡ false → ⊥
  clash x e f = grind arith

  -- no local commit of who has ended
  no-locals : (kn.committed ≡ true) ⊎ (kn.aborted ≡ true) → local_count turn.marks (at i) (gx g) ≡ 0
  no-locals a = none turn.marks does.marks
    where
      ended : (kn.committed ≡ true) ⊎ (kn.aborted ≡ true) → kn.aborted ≡ false → kn.committed ≡ false → ⊥
      ended (inl c) x y = clash kn.committed c y
      ended (inr c) x y = clash kn.aborted c x

      none : (ns : List Mark) → Each (Follows told kn i g) ns → local_count ns (at i) (gx g) ≡ 0
      none [] f = refl
      none (mark.LocalCommit m y ∷ ns) f = absurd (ended a f.0.3 f.0.4)
      none (m ∷ ns) f = none ns f.1

  bit-same : (a b : Bool) (n m : ℕ) → n ≡ bit a → n + m ≡ bit b → m ≡ 0 → b ≡ a
  bit-same true true n m e f h = refl
  bit-same false false n m e f h = refl
  bit-same true false n m e f h = absurd (differ n m e f h)
    where
      differ : (n m : ℕ) → n ≡ 1 → n + m ≡ 0 → m ≡ 0 → ⊥
      differ n m e f h = omega arith
  bit-same false true n m e f h = absurd (differ n m e f h)
    where
      differ : (n m : ℕ) → n ≡ 0 → n + m ≡ 1 → m ≡ 0 → ⊥
      differ n m e f h = omega arith

  phase-same : (kn.committed ≡ true) ⊎ (kn.aborted ≡ true) → has_committed (turn.seg.locals g).phase ≡ has_committed ((w.segs i).locals g).phase
  phase-same a = bit-same (has_committed ((w.segs i).locals g).phase) (has_committed (turn.seg.locals g).phase) (local_count (marks_in w.steps) (at i) (gx g)) (local_count turn.marks (at i) (gx g)) (v.stands.pairs i g).committed does.next.pair.committed (no-locals a)

  -- its writes are of this command
  pub none-new : ((c : Cid) → IsExecOf told g c → ⊥) → Each (NewMark w i g) turn.marks
  none-new f = each turn.marks does.marks
    where
      each : (ns : List Mark) → Each (Follows told kn i g) ns → Each (NewMark w i g) ns
      each [] h = tt
      each (mark.Write y c n t r x ∷ ns) h = absurd (f c h.0.2)
      each (mark.Commit y ∷ ns) h = absurd h.0
      each (mark.Abort y ∷ ns) h = absurd h.0
      each (mark.Decided y ∷ ns) h = absurd h.0
      each (mark.Sent to number m ∷ ns) h = absurd h.0
      each (m ∷ ns) h = (tt, each ns h.1)

  pub each-new : (c : Cid) → ((d : Cid) → IsExecOf told g d → d.0 ≡ c.0) → ((w.segs i).locals g).last ≤ c.0 → is_committed (marks_in w.steps) (gx g) ≡ false → 1 ≤ g → Each (NewMark w i g) turn.marks
  each-new c same last runs one = each turn.marks does.marks
    where
      each : (ns : List Mark) → Each (Follows told kn i g) ns → Each (NewMark w i g) ns
      each [] h = tt
      each (mark.Write y d n t r x ∷ ns) h = ((h.0.0, h.0.1, subst (λ z. ((w.segs i).locals g).last ≤ z) (sym (same d h.0.2)) last, runs, one), each ns h.1)
      each (mark.Commit y ∷ ns) h = absurd h.0
      each (mark.Abort y ∷ ns) h = absurd h.0
      each (mark.Decided y ∷ ns) h = absurd h.0
      each (mark.Sent to number m ∷ ns) h = absurd h.0
      each (m ∷ ns) h = (tt, each ns h.1)

  pub is-made : Each (NewMark w i g) turn.marks → Made w i g turn
  is-made marks =
      record {
        others = does.others;
        last = does.next.grows.last;
        committed = λ c. phase-same (inl c);
        aborted = λ a. phase-same (inr a);
        marks = marks;
        outs = each_weaker _ IsAnswer (λ o h. (told-answer _ _ _ _ _ o.message h).0) turn.outs does.outs;
      }

abbrev exec-cid : Message → ℕ
exec-cid (message.Exec h c level x y z) = c.0
exec-cid _ = 0

-- A MESSAGE
module _ (script : Script) (w : World) (k : Knows script w) (v : Holds script w) (q : Ends w) (e : Event) (fails : Bool) (i : ℕ) (from : Node) (envelope : Envelope) (given : IsGiven w e i from envelope) where
  abbrev its : ℕ
  its = gxid_in envelope.message

  abbrev turn4 : SegTurn
  turn4 = on_event script (w.segs i) (here.Deliver from envelope) fails

  does4 : Does envelope.message (known_at w.coord (marks_in w.steps) i its) (w.segs i) i its (k.well.names i) (is_writer (marks_in w.steps) (gx its) (at i)) (prepared_count (marks_in w.steps) (at i) (gx its)) (local_count (marks_in w.steps) (at i) (gx its)) (v.stands.pairs i its) turn4
  does4 = does-it script w k v e fails i from envelope given.received given.said

  taken : TakenAt w (at i) envelope.message
  taken =
      let t = given-is w e i from envelope given (λ (l : Letter). TakenAt w l.to l.envelope.message) q.taken in
      subst (λ (z : Envelope). TakenAt w (at i) z.message) t.told (subst (λ (n : Node). TakenAt w n t.letter.envelope.message) t.target t.is)

  not-exec-new : (m : Message) → envelope.message ≡ m → is_exec m ≡ false → Each (NewMark w i its) turn4.marks
  not-exec-new m z f = none-new script w k v i its envelope.message turn4 does4 (λ c x. differ (sym (ap is_exec (sym z ∙ x.is)) ∙ f))
    where
      differ : true ≡ false → ⊥
      differ e = cc

  exec-new : (h : Gxid) (c : Cid) (level : Level) (x : Option Snapshot) (y : Gxid) (z : Slice) → envelope.message ≡ message.Exec h c level x y z → Each (NewMark w i its) turn4.marks
  unfolding exec-cid
  exec-new h c level x y z f = by_old (nat_lt ((w.segs i).locals its).last c.0) refl
    where
      same : (d : Cid) → IsExecOf envelope.message its d → d.0 ≡ c.0
      same d q = sym (ap exec-cid q.is) ∙ ap exec-cid f

      weaker : (a b : ℕ) → a < b → a ≤ b
      weaker a b l = omega arith

      here_is : its ≡ h.0
      here_is = ap gxid_in f

      running : (b : Bool) → is_committed (marks_in w.steps) (gx its) ≡ b → ((w.segs i).locals its).last < c.0 → b ≡ false
      running false e l = refl
      running true e l =
          absurd (lt-le ((w.segs i).locals its).last c.0 l (subst (λ j. c.0 ≤ ((w.segs i).locals j).last) (sym here_is) ((subst (TakenAt w (at i)) f taken).1 (subst (λ j. is_committed (marks_in w.steps) (gx j) ≡ true) here_is e))))

      by_old : (b : Bool) → nat_lt ((w.segs i).locals its).last c.0 ≡ b → Each (NewMark w i its) turn4.marks
      by_old true e =
          let l = lt-of ((w.segs i).locals its).last c.0 e in
          each-new script w k v i its envelope.message turn4 does4 c same (weaker _ _ l) (running (is_committed (marks_in w.steps) (gx its)) refl l) (subst (λ j. 1 ≤ j) (sym here_is) (subst (TakenAt w (at i)) f taken).0)
      by_old false e =
          subst (Each (NewMark w i its))
          (sym (ap (λ m. (on_message script (w.segs i) fails m).marks) f ∙ old-quiet script (w.segs i) fails h c level x y z (subst (λ j. c.0 ≤ ((w.segs i).locals j).last) here_is (le-of ((w.segs i).locals its).last c.0 e)))) tt

  message-new : Each (NewMark w i (gxid_in envelope.message)) (on_event script (w.segs i) (here.Deliver from envelope) fails).marks
  message-new = by_message envelope.message refl
    where
      by_message : (m : Message) → envelope.message ≡ m → Each (NewMark w i its) turn4.marks
      by_message (message.Exec h c level x y z) f = exec-new h c level x y z f
      by_message (message.Prepare h) f = not-exec-new _ f refl
      by_message (message.Commit h) f = not-exec-new _ f refl
      by_message (message.CommitPrepared h) f = not-exec-new _ f refl
      by_message (message.Abort h) f = not-exec-new _ f refl
      by_message (message.Forget h) f = not-exec-new _ f refl
      by_message (message.Answer h r) f = not-exec-new _ f refl
      by_message (message.Collect round) f = not-exec-new _ f refl
      by_message (message.Graph round graph) f = not-exec-new _ f refl
      by_message message.Up f = not-exec-new _ f refl

  pub message-made : Made w i (gxid_in envelope.message) (on_event script (w.segs i) (here.Deliver from envelope) fails)
  message-made = is-made script w k v i its envelope.message turn4 does4 message-new

-- A SLICE THAT GOES ON
-- it writes rows of the last command there, of a transaction that hasn't committed
pub going-made : (script : Script) (w : World) (k : Knows script w) (v : Holds script w) → Ends w → (e : Event) (fails : Bool) (i : ℕ) (g : Gxid) → seg_can script (w.segs i) (here.Resume g) ≡ true → Made w i g.0 (on_event script (w.segs i) (here.Resume g) fails)
unfolding exec-cid
going-made script w k v q e fails i g ok =
    is-made script w k v i g.0 told (on_event script (w.segs i) (here.Resume g) fails) o.does
    (each-new script w k v i g.0 told (on_event script (w.segs i) (here.Resume g) fails) o.does o.slice.cid (λ d z. sym (ap exec-cid z.is)) (same-le _ _ o.waits.last) (awaited script w k v i g o.slice o.is).uncommitted drawn)
  where
    o : IsResumed script w k v e i g fails
    o = resumed-does script w k v e i g fails ok

    told : Message
    told = message.Exec g o.slice.cid o.slice.level o.slice.snapshot o.waits.horizon o.slice.slice

    same-le : (a b : ℕ) → a ≡ b → a ≤ b
    same-le a b e = omega arith

    -- its command came
    drawn : 1 ≤ g.0
    drawn = let c = o.waits.come in (subst (TakenAt w c.letter.to) c.told (each-among (λ (l : Letter). TakenAt w l.to l.envelope.message) w.sent c.letter q.taken c.among)).0

-- ALL THAT A SEGMENT HEARS
pub record MadeOf (w : World) (i : ℕ) (turn : SegTurn) : Type 0 where
  pub txn : ℕ
  pub made : Made w i txn turn

pub heard-made : (script : Script) (w : World) → Knows script w → Holds script w → Ends w → (e : Event) (x : NodeEvent) (fails : Bool) (i : ℕ) → HeardAt script w e i x → MadeOf w i (on_event script (w.segs i) x fails)
heard-made script w k v q e x fails i h =
    by-heard script w e i (λ x. MadeOf w i (on_event script (w.segs i) x fails))
    (λ from envelope d. record { txn = gxid_in envelope.message; made = message-made script w k v q e fails i from envelope d })
    (λ g ok. record { txn = g.0; made = going-made script w k v q e fails i g ok }) x h

-- EVERY RUN
pub record Facts (w : World) : Type 0 where
  pub lows : Lows w
  pub ends : Ends w

new-ends : Ends new_world
new-ends = record { ended = λ i g. record { committed = λ a. absurd (cc); aborted = λ a. absurd (cc) }; taken = tt; drawn = λ i g t. absurd (cc) }

module _ (script : Script) (some : 1 ≤ script.segments) where
  pub coord-facts : (w : World) → Knows script w → Holds script w → Facts w → (e : Event) (x : NodeEvent) (fails : Bool) → coord_can script w.coord x ≡ true → SaidTo w x → Facts (coord_did w e (coord_turn script w.coord x fails))
  coord-facts w k v q e x fails ok d =
      let good = event-good script w.coord (marks_in w.steps) k.kept k.past x fails ok in
      record {
        lows = coord-low script w k v q.lows e x fails ok d;
        ends = turn-ends script w k v q.lows q.ends (coordinator.on_event script w.coord x fails) (clock_after w.coord.clock x) (coord_did w e (coord_turn script w.coord x fails)).steps (marks-by-event script w e x fails) (event-leads script w k v x fails ok d)
            (event-pass script w k v q.lows x fails ok d) good.past good.kept.whole;
      }

  pub victim-facts : (w : World) → Knows script w → Holds script w → Facts w → (g : Gxid) → HasNamed w.steps w.coord.clock w.coord.rounds g → Facts (and_cancelled w g)
  victim-facts w k v q g h =
      let good = cancel-good w.coord (marks_in w.steps) k.kept k.past g.0 in
      record {
        lows = victim-low script w k v q.lows g;
        ends = turn-ends script w k v q.lows q.ends (coordinator.cancels w.coord g) w.coord.clock (and_cancelled w g).steps (marks-by-victim w g h) (cancel-leads script w k v g) (cancel-pass script w k v q.lows g) good.past good.kept.whole;
      }

  pub seg-facts : (w : World) → Knows script w → Holds script w → Facts w → (e : Event) (x : NodeEvent) (fails : Bool) (i : ℕ) → IsSegment script (at i) → HeardAt script w e i x → Facts (seg_did w (at i) e (seg_rule script (w.segs i) x fails))
  seg-facts w k v q e x fails i place h =
      let d = heard-made script w k v q.ends e x fails i h in
      record { lows = heard-low script w k v q.lows e x fails i h; ends = seg-ends script w q.ends e x fails i d.txn d.made }

  new-facts : Facts new_world
  new-facts = record { lows = new-lows; ends = new-ends }

  pub moves-facts : (moves : List Move) → Facts (world_by script moves)
  moves-facts = moves-keep script some Facts coord-facts victim-facts seg-facts new-facts

  pub world-facts : (es : List (Event × Bool)) → Facts (world_of script es)
  world-facts = world-keeps script some Facts coord-facts victim-facts seg-facts new-facts
