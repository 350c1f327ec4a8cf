-- Whoever a round names is cancelled in the step that ends it.
use Rattle.std.proofs.Common.{◌≡◌, ℕ, List, [], ◌∷◌, ◌++◌, Option, None, Some, Bool, true, false, sym, subst, ap, ◌∙◌, if◌then◌else◌, append-nil, arith}
use Rattle.std.proofs.lemmas.Bool.{and_parts}
use Rattle.std.proofs.lemmas.List.Elements.{All-cons, All-nil}
use Rattle.std.specs.Prelude.{All}
use Rattle.gx_lemmas.proofs.Options.{some-same}
use Rattle.gx_ids.specs.declared.ids.Gxid.{Gxid}
use Rattle.gx_ids.specs.declared.ids.Node.{Node}
use Rattle.gx_detect.specs.Rounds.{are_all}
use Rattle.gx_dtx.specs.Table.{find_txn}
use Rattle.gx_dtx.specs.declared.phase.Phase.{Phase}
use Rattle.gx_dtx.specs.declared.txn.Txn.{Txn}
use Rattle.gx_locks.specs.Graphs.{graph_at}
use Rattle.gx_msg.specs.declared.message.Message.{Message}
use Rattle.gx_script.specs.declared.Script.{Script}
use Rattle.gx_waits.specs.LocalGraph.{edges_of}
use Rattle.gx_waits.specs.declared.graph.LocalGraph.{LocalGraph}
use Rattle.gx_waits.specs.declared.verdict.Verdict.{Verdict}
use Rattle.gx_waits.specs.declared.verdict.Verdict.TheVariants.{Dropped, Nothing, Victims}
use Rattle.gx_store.specs.Cancelled.{AreVictimsAt}
use Rattle.gx_store.specs.declared.event.Event.{Event}
use Rattle.gx_store.specs.declared.mark.Mark.{Mark}
use Rattle.gx_store.specs.declared.mark.Mark.TheVariants as mark
use Rattle.gx_store.specs.declared.node.NodeEvent.{NodeEvent}
use Rattle.gx_store.specs.Legal.{IsCancelled}
use Rattle.gx_store.specs.Marks.{session_of}
use Rattle.gx_store.specs.Points.{Point, marks_in}
use Rattle.gx_store.specs.Rounds.{AreRechecksIn, AreRounds, IsRecheck}
use Rattle.gx_rules.specs.AtCoordinator.{and_cancels_all, awaited_collect, coord_rule, coord_sends, is_under_way, may_cancel, resends}
use Rattle.gx_rules.specs.AtSegment.{seg_rule, seg_sends}
use Rattle.gx_rules.specs.Coordinators.{Coord, CoordTurn, rests, work_of}
use Rattle.gx_rules.specs.Machine.{World}
use Rattle.gx_rules.specs.Rounds.{begins_round, is_active, is_live, is_report, on_graph, once_all, rechecks, verdict_at, victims_at, victims_in, victims_on_graph, victims_on_message, victims_once_all, with_report}
use Rattle.gx_rules.specs.Sending.{clock_after, numbered}
use Rattle.gx_rules.proofs.Rounds.{collect-ways}
use Rattle.gx_law_order.proofs.Lists.{each_append, each_weaker}
use Rattle.gx_law_order.specs.Lists.{Each}
use Rattle.gx_law_order.specs.Stages.{IsWhole, stage, stage_in}
use Rattle.gx_law_order.specs.Stages.Stage.{Live}
use Rattle.gx_law_order.proofs.World.{Knows}
use Rattle.gx_law_order.specs.Finish.{IsVerdictLegal, point_at}
use Rattle.gx_law_order.specs.Rest.{EachMark}
use Rattle.gx_law_order.specs.Standing.{AreSessions}
use Rattle.gx_law_order.proofs.Everywhere.{Holds}
use Rattle.gx_law_locks.specs.Marked.{AreLocksMarked}
use Rattle.gx_law_locks.specs.Waiting.{EachBehind}
use Rattle.gx_law_locks.proofs.RoundsAtCoordinators.{coord-ways}
use Rattle.gx_law_locks.proofs.RoundsAtSegments.{seg-ways}
use Rattle.gx_law_locks.proofs.Rounded.{Rounded}
use Rattle.gx_law_locks.proofs.Sendings.{message-is}
use Rattle.gx_law_locks.proofs.Silent.{NoRecheck, no-recheck, sends-no-recheck}
use Rattle.gx_law_locks.specs.Reports.{IsStuckBlocked}
use Rattle.gx_law_locks.proofs.Fair.{IsFair}
use Rattle.gx_law_locks.proofs.FirstReports.{AreSentOnce, one-reports}
use Rattle.gx_law_locks.proofs.Persisting.{is-stuck-blocked}
use Rattle.gx_law_locks.proofs.StuckRechecks.{are-named-rightly, noted-of}
use Rattle.gx_law_locks.proofs.Sessions.{session-is}
use Rattle.gx_law_locks.proofs.Turns.{AreApart, IsGone, all-end-none, all-gone, all-marks, victims_marks}
use Rattle.gx_law_locks.proofs.Victims.{WaitsNow, are-apart, each-waits}
use Rattle.gx_law_locks.proofs.Waiting.{who-waits}

-- the message of a number on a link is one
pub sent-once : (script : Script) (w : World) → Knows script w → AreSentOnce w.steps
sent-once script w n from to number a b x y = some-same a b (sym (message-is script w.steps from to number a n.well.steps x) ∙ message-is script w.steps from to number b n.well.steps y)

-- what is known of a world in which a round may end
pub record IsReady (script : Script) (w : World) : Type 0 where
  pub knows : Knows script w
  pub holds : Holds script w
  pub marked : AreLocksMarked w
  pub sessions : AreSessions script w
  pub fair : EachBehind IsFair [] (marks_in w.steps)
  pub rounds : AreRounds script [] w.steps

live-stage : (t : Option Txn) → is_live t ≡ true → stage t ≡ Live
live-stage None e = absurd (cc)
live-stage (Some t) e = by_phase t.phase e
  where
    by_phase : (p : Phase) → is_active p ≡ true → stage_in p ≡ Live
    by_phase p e = grind arith

-- A VERDICT
module _ (script : Script) (w : World) (k : IsReady script w) (e : Event) where
  abbrev marks : List Mark
  marks = marks_in w.steps

  abbrev At : List Mark → Point
  At later = point_at w.steps e [] later

  law : IsStuckBlocked (marks ++ [])
  law = subst IsStuckBlocked (sym (append-nil marks)) (is-stuck-blocked marks k.fair)

  module _ (round : ℕ) (own : LocalGraph) (victims : List Gxid) (later : List Mark) (is : IsRecheck script (At later) round own (Victims victims)) where
    victims-here : AreVictimsAt script (At later) (edges_of (own ∷ is.reports)) [] victims
    victims-here =
        are-named-rightly script (At later) (noted-of script [] w.steps k.rounds) round own (Victims victims) is law (one-reports (At later) (sent-once script w k.knows) script round) is.reports is.are_reports

    apart : AreApart victims
    apart = are-apart script (At later) (edges_of (own ∷ is.reports)) [] victims victims-here

    may : Each (λ g. may_cancel w.coord g ≡ true) victims
    may =
        each_weaker (WaitsNow (marks ++ [])) (λ g. may_cancel w.coord g ≡ true)
        (λ g h. let now : WaitsNow marks g = subst (λ ms. WaitsNow ms g) (append-nil marks) h in who-waits script w k.knows k.holds k.marked g now.runs now.node now.waits)
        victims (each-waits script (At later) (edges_of (own ∷ is.reports)) [] victims victims-here)

  -- who is gone was cancelled
  session-there : (g : Gxid) → may_cancel w.coord g ≡ true → session_of (marks ++ []) g ≡ Some (work_of w.coord g).session
  session-there g can =
      subst (λ ms. session_of ms g ≡ Some (work_of w.coord g).session) (sym (append-nil marks))
      (session-is script w.coord w.steps k.knows.kept k.sessions g (live-stage (find_txn w.coord.table g) (and_parts (is_live (find_txn w.coord.table g)) (is_under_way (work_of w.coord g)) can).0))

  is-cancelled : (later : List Mark) (g : Gxid) → may_cancel w.coord g ≡ true → IsGone w.coord later g → IsCancelled (At (later ++ [])) w.coord.rounds g
  is-cancelled later g can gone =
      subst (λ ms. IsCancelled (At ms) w.coord.rounds g) (sym (append-nil later))
      (record { aborted = gone.aborted; session = (work_of w.coord g).session; number = gone.number; of = session-there g can; refused = gone.refused })

  all-cancelled : (later : List Mark) (gs : List Gxid) → Each (λ g. may_cancel w.coord g ≡ true) gs → Each (IsGone w.coord later) gs → All (IsCancelled (At (later ++ [])) w.coord.rounds) gs
  all-cancelled later [] can gone = All-nil (IsCancelled (At (later ++ [])) w.coord.rounds)
  all-cancelled later (g ∷ gs) can gone = All-cons (IsCancelled (At (later ++ [])) w.coord.rounds) g gs (is-cancelled later g can.0 gone.0) (all-cancelled later gs can.1 gone.1)

  -- A STEP
  -- if its rounds' ends are as defined, whoever it names is cancelled
  abbrev pub IsLegal : List Mark → Type 0
  IsLegal ms = AreRechecksIn script w.steps e [] ms → EachMark IsVerdictLegal w.steps e [] ms []

  none-named : (earlier ms later : List Mark) → Each NoRecheck ms → EachMark IsVerdictLegal w.steps e earlier ms later
  none-named earlier [] later n = tt
  none-named earlier (mark.Recheck round own verdict ∷ ms) later n = absurd n.0
  none-named earlier (m ∷ ms) later n = (tt, none-named (earlier ++ m ∷ []) ms later n.1)

  -- the end of a round, with these victims
  abbrev ended : Coord → ℕ → Verdict → CoordTurn
  ended d clock verdict = coord_sends clock (record { coord = record d { reports = None }; marks = mark.Recheck d.rounds (graph_at d.locks) verdict ∷ []; outs = []; item = None })

  -- once its marks are the turn's and its victims'
  with-victims : (turn : CoordTurn) (gs : List Gxid) → IsLegal (turn.marks ++ victims_marks turn.coord gs) → IsLegal (and_cancels_all gs turn).marks
  with-victims turn gs l = subst IsLegal (sym (all-marks gs turn)) l

  quiet-legal : (turn : CoordTurn) (gs : List Gxid) → Each NoRecheck turn.marks → IsLegal (and_cancels_all gs turn).marks
  quiet-legal turn gs n =
      with-victims turn gs
      (λ r. none-named [] (turn.marks ++ victims_marks turn.coord gs) [] (each_append NoRecheck turn.marks (victims_marks turn.coord gs) n (all-end-none gs turn.coord)))

  round-legal : (graph : LocalGraph) (clock : ℕ) (verdict : Verdict) → IsLegal (and_cancels_all (victims_in verdict) (ended (with_report w.coord graph) clock verdict)).marks
  round-legal graph clock Nothing = λ r. (tt, tt)
  round-legal graph clock (Dropped g) = λ r. (tt, tt)
  round-legal graph clock (Victims victims) =
      with-victims turn victims
      (λ r. (all-cancelled more victims (may-be r.0) (gone r.0), none-named (mark.Recheck w.coord.rounds (graph_at w.coord.locks) (Victims victims) ∷ []) more [] (all-end-none victims turn.coord)))
    where
      turn : CoordTurn
      turn = ended (with_report w.coord graph) clock (Victims victims)

      more : List Mark
      more = victims_marks turn.coord victims

      whole : IsWhole w.coord.table
      whole = k.knows.kept.whole

      may-be : IsRecheck script (At more) w.coord.rounds (graph_at w.coord.locks) (Victims victims) → Each (λ g. may_cancel w.coord g ≡ true) victims
      may-be is = may w.coord.rounds (graph_at w.coord.locks) victims more is

      gone : IsRecheck script (At more) w.coord.rounds (graph_at w.coord.locks) (Victims victims) → Each (IsGone w.coord more) victims
      gone is =
          each_weaker (IsGone turn.coord more) (IsGone w.coord more) (λ g k. record { aborted = k.aborted; number = k.number; refused = k.refused }) victims
          (all-gone victims turn.coord whole (apart w.coord.rounds (graph_at w.coord.locks) victims more is) (may-be is))

  -- A STEP OF THE COORDINATOR
  graph-legal : (from : Node) (round clock : ℕ) (graph : LocalGraph) → IsLegal (and_cancels_all (victims_on_graph w.coord from round graph) (coord_sends clock (on_graph w.coord from round graph))).marks
  graph-legal from round clock graph = by_report (is_report w.coord from round graph)
    where
      d : Coord
      d = with_report w.coord graph

      by_all : (b : Bool) → IsLegal (and_cancels_all (if b then victims_in (verdict_at d) else []) (coord_sends clock (if b then rechecks d else rests d))).marks
      by_all true = round-legal graph clock (verdict_at d)
      by_all false = λ r. tt

      by_report : (b : Bool) → IsLegal (and_cancels_all (if b then victims_once_all d else []) (coord_sends clock (if b then once_all d else rests w.coord))).marks
      by_report true = by_all (are_all d.reports)
      by_report false = λ r. tt

  pub coord-legal : Rounded script w → (x : NodeEvent) (fails : Bool) → IsLegal (coord_rule script w.coord x fails).marks
  coord-legal r x fails =
      coord-ways w.coord script (λ turn. IsLegal (and_cancels_all (victims_at w.coord x) (coord_sends clock turn)).marks) x fails r.coord.works
      (λ turn h q. quiet-legal (coord_sends clock turn) (victims_at w.coord x) (each_append NoRecheck turn.marks (numbered turn.coord.sent turn.outs) (no-recheck turn.marks q.marks) (sends-no-recheck turn.coord.sent turn.outs)))
      (λ from envelope round graph is told.
      subst (λ gs. IsLegal (and_cancels_all gs (coord_sends clock (on_graph w.coord from round graph))).marks) (sym (ap (victims_at w.coord) is ∙ ap (victims_on_message w.coord from) told)) (graph-legal from round clock graph))
      (λ i is. quiet-legal (coord_sends clock (resends w.coord i (awaited_collect w.coord i))) (victims_at w.coord x) (again i))
      (λ is. quiet-legal (coord_sends clock (begins_round script w.coord)) (victims_at w.coord x) (sends-no-recheck (begins_round script w.coord).coord.sent (begins_round script w.coord).outs))
    where
      clock : ℕ
      clock = clock_after w.coord.clock x

      again : (i : Node) → Each NoRecheck (coord_sends clock (resends w.coord i (awaited_collect w.coord i))).marks
      again i = by_told (awaited_collect w.coord i)
        where
          by_told : (o : Option Message) → Each NoRecheck (coord_sends clock (resends w.coord i o)).marks
          by_told None = tt
          by_told (Some told) = (tt, tt)

  -- A STEP OF A SEGMENT
  pub seg-legal : (x : NodeEvent) (fails : Bool) (i : ℕ) → IsLegal (seg_rule script (w.segs i) x fails).marks
  seg-legal x fails i =
      seg-ways script (w.segs i) (λ turn. IsLegal (seg_sends clock turn).marks) x fails
      (λ turn q r. none-named [] (seg_sends clock turn).marks [] (each_append NoRecheck turn.marks (numbered (λ node. turn.seg.sent) turn.outs) (no-recheck turn.marks q.marks) (sends-no-recheck (λ node. turn.seg.sent) turn.outs)))
      (λ from envelope round is told. collect-ways (λ turn. IsLegal (seg_sends clock turn).marks) (w.segs i) round (λ r. tt) (λ newer r. (tt, (tt, tt))) (λ same graph kept r. (tt, tt)))
    where
      clock : ℕ
      clock = clock_after (w.segs i).clock x
