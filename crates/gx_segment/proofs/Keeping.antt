-- What no message changes of a segment: its node, and how many messages it has sent before; what only COLLECT changes; and its
-- horizon, which never falls.
use Rattle.std.proofs.Common.{◌≡◌, ◌≤◌, ℕ, Bool, true, false, if◌then◌else◌, Option, Some, None, refl, sym, ap, subst, eqb, arith}
use Rattle.std.proofs.lemmas.Bool.Decides.{nat_tests}
use Rattle.std.specs.Prelude.{nat_lt}
use Rattle.gx_ids.specs.declared.ids.Cid.{Cid}
use Rattle.gx_ids.specs.declared.ids.Gxid.{Gxid}
use Rattle.gx_tree.specs.declared.slice.Slice.{Slice}
use Rattle.gx_tree.specs.declared.stmt.Level.{Level}
use Rattle.gx_dsnap.specs.Gxids.{is_below}
use Rattle.gx_dsnap.specs.declared.snapshot.Snapshot.{Snapshot}
use Rattle.gx_waits.specs.declared.graph.LocalGraph.{LocalGraph}
use Rattle.gx_dtx.specs.declared.order.Order.{Order}
use Rattle.gx_dtx.specs.declared.order.Order.TheVariants as order
use Rattle.gx_locks.specs.Graphs.{graph_at}
use Rattle.gx_locks.specs.Locks.{wait_of}
use Rattle.gx_msg.specs.declared.message.Message.{Message}
use Rattle.gx_msg.specs.declared.message.Message.TheVariants as message
use Rattle.gx_msg.specs.declared.reply.Reply.{Reply}
use Rattle.gx_node.specs.Changes.{turn_of}
use Rattle.gx_node.proofs.Turns.{turn-makes}
use Rattle.gx_script.specs.declared.Script.{Script}
use Rattle.gx_store.specs.declared.node.NodeEvent.{NodeEvent}
use Rattle.gx_store.specs.declared.node.NodeEvent.TheVariants as node
use Rattle.gx_rules.specs.AtSegment.{if_fits, on_event, on_exec, on_message, raised, repeats, reports, reports_again, resumes, unless_below}
use Rattle.gx_rules.specs.Fits.{fits_exec}
use Rattle.gx_rules.specs.Segments.{Local, Phase, Reading, Writing, Prepared, Committed, Forgotten, Aborted, Seg, SegTurn, local_of, stays, tells_kept}
use Rattle.gx_rules.specs.Running.{starts_slice}
use Rattle.gx_segment.specs.Reports.{report_after, report_behind, report_in}
use Rattle.gx_segment.specs.declared.collecting.LastReport.{LastReport}
use Rattle.gx_segment.proofs.Standing.{Fixed, Stands, resumes-stand, starts-stand}

pub record Keeps (s : Seg) (last : LastReport) (now : Seg) : Type 0 where
  pub node : now.node ≡ s.node
  pub report : report_in now ≡ last
  pub sent : now.sent ≡ s.sent
  pub rises : s.horizon.0 ≤ now.horizon.0

same-rises : (s now : Seg) → now.horizon ≡ s.horizon → s.horizon.0 ≤ now.horizon.0
same-rises s now e = subst (λ (h : Gxid). s.horizon.0 ≤ h.0) (sym e) (omega arith)

itself : (s : Seg) → Keeps s (report_in s) s
itself s = record { node = refl; report = refl; sent = refl; rises = same-rises s s refl }

kept-keeps : (s : Seg) (g : Gxid) (answer : Option Reply) → Keeps s (report_in s) (tells_kept s g answer).seg
kept-keeps s g None = itself s
kept-keeps s g (Some r) = itself s

-- a slice, once the horizon has risen
slice-keeps : (s : Seg) (h : Gxid) (now : Seg) → s.horizon.0 ≤ h.0 → Stands (record s { horizon = h }) now → Keeps s (report_in s) now
slice-keeps s h now rises stand = record {
  node = ap (λ (x : Fixed). x.node) stand;
  report = ap (λ (x : Fixed). x.report) stand;
  sent = ap (λ (x : Fixed). x.sent) stand;
  rises = subst (λ (x : Gxid). s.horizon.0 ≤ x.0) (sym (ap (λ (x : Fixed). x.horizon) stand)) rises;
}

-- EXEC
pub raised-rises : (s : Seg) (h : Gxid) → s.horizon.0 ≤ (raised s h).horizon.0
raised-rises s h = by_test (is_below h s.horizon) refl
  where
    by_test : (b : Bool) → is_below h s.horizon ≡ b → s.horizon.0 ≤ (let z : Gxid = if b then h else s.horizon in z).0
    by_test true e = grind (arith, nat_tests)
    by_test false e = omega arith

module _ (script : Script) (s : Seg) (g : Gxid) (c : Cid) (level : Level) (snapshot : Option Snapshot) (h : Gxid) (sl : Slice) (l : Local) where
  repeats-keeps : (b : Bool) → Keeps s (report_in s) (if b then tells_kept s g l.answer else stays s).seg
  repeats-keeps true = kept-keeps s g l.answer
  repeats-keeps false = itself s

  takes-keeps : (b : Bool) → Keeps s (report_in s) (if b then starts_slice script (raised s h) g c level snapshot sl else repeats s g c l).seg
  takes-keeps true = slice-keeps s (raised s h).horizon (starts_slice script (raised s h) g c level snapshot sl).seg (raised-rises s h) (starts-stand script (raised s h) g c level snapshot sl)
  takes-keeps false = repeats-keeps (eqb c.0 l.last)

  exec-keeps : (p : Phase) → Keeps s (report_in s) (on_exec script s g c level snapshot h sl l p).seg
  exec-keeps Reading = takes-keeps (nat_lt l.last c.0)
  exec-keeps Writing = takes-keeps (nat_lt l.last c.0)
  exec-keeps Prepared = repeats-keeps (eqb c.0 l.last)
  exec-keeps Committed = repeats-keeps (eqb c.0 l.last)
  exec-keeps (Forgotten committed) = itself s
  exec-keeps Aborted = itself s

-- MESSAGES
fits-keeps : (s : Seg) (turn : SegTurn) (b : Bool) → Keeps s (report_in s) turn.seg → Keeps s (report_in s) (if_fits s b turn).seg
fits-keeps s turn true k = k
fits-keeps s turn false k = itself s

below-keeps : (s : Seg) (turn : SegTurn) (b : Bool) → Keeps s (report_in s) turn.seg → Keeps s (report_in s) (if b then stays s else turn).seg
below-keeps s turn true k = itself s
below-keeps s turn false k = k

order-keeps : (o : Order) (s : Seg) (g : Gxid) (fails : Bool) → Keeps s (report_in s) (unless_below s g (turn_of o s g fails (local_of s g))).seg
order-keeps o s g fails =
    let makes = turn-makes o s g fails in
    below-keeps s (turn_of o s g fails (local_of s g)) (is_below s.horizon g) (record {
      node = ap (λ (x : Seg). x.node) makes.others;
      report = ap report_in makes.others;
      sent = ap (λ (x : Seg). x.sent) makes.others;
      rises = same-rises s (turn_of o s g fails (local_of s g)).seg (ap (λ (x : Seg). x.horizon) makes.others);
    })

-- a round that asks
module _ (s : Seg) (round : ℕ) where
  abbrev collected : Bool → Bool → SegTurn
  collected new last = if new then reports s round (graph_at s.locks) else (if last then reports_again s round s.graph else stays s)

  again-keeps : (graph : Option LocalGraph) → Keeps s (report_in (reports_again s round graph).seg) (reports_again s round graph).seg
  again-keeps None = itself s
  again-keeps (Some graph) = itself s

  collect-keeps : (new last : Bool) → Keeps s (report_in (collected new last).seg) (collected new last).seg
  collect-keeps true last = record { node = refl; report = refl; sent = refl; rises = same-rises s (collected true last).seg refl }
  collect-keeps false true = again-keeps s.graph
  collect-keeps false false = itself s

message-keeps : (script : Script) (s : Seg) (fails : Bool) (m : Message) → Keeps s (report_after s m) (on_message script s fails m).seg
message-keeps script s fails (message.Exec g c level snapshot h sl) =
    below-keeps s _ (is_below s.horizon g) (fits-keeps s _ (fits_exec script s g c snapshot h sl) (exec-keeps script s g c level snapshot h sl (local_of s g) (local_of s g).phase))
message-keeps script s fails (message.Prepare g) = order-keeps order.Prepare s g fails
message-keeps script s fails (message.Commit g) = order-keeps order.Commit s g fails
message-keeps script s fails (message.CommitPrepared g) = order-keeps order.CommitPrepared s g fails
message-keeps script s fails (message.Abort g) = order-keeps order.Abort s g fails
message-keeps script s fails (message.Forget g) = order-keeps order.Forget s g fails
message-keeps script s fails (message.Collect round) = collect-keeps s round (nat_lt s.round round) (eqb s.round round)
message-keeps script s fails (message.Answer g r) = itself s
message-keeps script s fails (message.Graph round graph) = itself s
message-keeps script s fails message.Up = itself s

pub event-keeps : (script : Script) (s : Seg) (e : NodeEvent) (fails : Bool) → Keeps s (report_behind s e) (on_event script s e fails).seg
event-keeps script s (node.Deliver from envelope) fails = message-keeps script s fails envelope.message
event-keeps script s (node.Resume g) fails =
    let wait = wait_of s.locks g in
    let slice = (local_of s g).suspended in
    slice-keeps s s.horizon (resumes s g wait slice).seg (omega arith) (resumes-stand s g wait slice)
event-keeps script s (node.Start n) fails = itself s
event-keeps script s (node.End n) fails = itself s
event-keeps script s (node.Resend i g) fails = itself s
event-keeps script s node.Round fails = itself s
