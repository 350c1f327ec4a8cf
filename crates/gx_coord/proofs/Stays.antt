-- Every event keeps what is known.
use Rattle.std.proofs.Common.{◌≡◌, ◌≤◌, ◌++◌, ◌&&◌, ℕ, [], Option, Some, None, Bool, true, refl, arith}
use Rattle.gx_ids.specs.declared.ids.Gxid.{Gxid}
use Rattle.gx_ids.specs.declared.ids.Node.{Node}
use Rattle.gx_dtx.specs.Rules.{abort_found}
use Rattle.gx_dtx.specs.Table.{find_txn}
use Rattle.gx_msg.specs.declared.message.Message.{Message}
use Rattle.gx_script.specs.declared.Script.{Script}
use Rattle.gx_store.specs.declared.answer.Refused.TheVariants.{Victim}
use Rattle.gx_store.specs.declared.node.NodeEvent.{NodeEvent}
use Rattle.gx_store.specs.declared.node.NodeEvent.TheVariants as event
use Rattle.gx_locks.specs.Locks.{wait_of}
use Rattle.gx_script.specs.declared.state.Pending.{Pending}
use Rattle.gx_rules.specs.AtCoordinator.{awaited, awaited_collect, cancels, coord_can, coord_rule, coord_sends, coord_turn, is_nothing, next_line, on_event, resends}
use Rattle.gx_rules.specs.Coordinators.{Coord, CoordTurn, session_of}
use Rattle.gx_rules.specs.Rounds.{victims_at}
use Rattle.gx_rules.specs.Sending.{clock_after}
use Rattle.gx_rules.proofs.Rounds.{cancel-ways}
use Rattle.gx_rules.proofs.Turns.{cancels_all-each}
use Rattle.gx_law_order.proofs.AtCoordinators.{cancel_stays, coord_stays}
use Rattle.gx_law_order.proofs.Replies.{cancel-good, event-good}
use Rattle.gx_law_order.specs.Sessions.{is_nothing_in}
use Rattle.gx_coord.specs.Sound.{AreSound, IsSmall, IsSound}
use Rattle.gx_coord.proofs.Answered.{message-sound}
use Rattle.gx_coord.proofs.Dispatched.{end-sound, resume-sound, start-sound}
use Rattle.gx_coord.proofs.Keeping.{refused-sound}

again-sound : (c : Coord) → AreSound c → (i : Node) (m : Option Message) → AreSound (resends c i m).coord
again-sound c e i None = e
again-sound c e i (Some m) = e

-- a session that may start a line is idle
idle-of : (p : Pending) (b : Bool) → (is_nothing p && b) ≡ true → is_nothing_in p ≡ true
idle-of p b e = grind arith

works-after : (script : Script) (c : Coord) → IsSound script c → (x : NodeEvent) (fails : Bool) → IsSmall x → coord_can script c x ≡ true → AreSound (on_event script c x fails).coord
works-after script c h (event.Deliver from envelope) fails s ok = message-sound c h.kept.whole h.works from fails envelope.message s
works-after script c h (event.Start i) fails s ok = start-sound script c h.kept h.works i (idle-of (session_of c i).state.pending _ ok) (next_line script c i)
works-after script c h (event.End i) fails s ok = end-sound script c h.kept h.works i (session_of c i).state.block
works-after script c h (event.Resend i (Some g)) fails s ok = again-sound c h.works i (awaited c g i)
works-after script c h (event.Resend i None) fails s ok = again-sound c h.works i (awaited_collect c i)
works-after script c h (event.Resume g) fails s ok = resume-sound c g.0 h.kept.whole h.works script (wait_of c.locks g) (c.works g.0).waiting refl
works-after script c h event.Round fails s ok = h.works

-- its messages are numbered, and its clock goes on
pub sent-sound : (script : Script) (turn : CoordTurn) (clock : ℕ) → IsSound script turn.coord → IsSound script (coord_sends clock turn).coord
sent-sound script turn clock h =
    record {
      kept = record { whole = h.kept.whole; tied = h.kept.tied; placed = h.kept.placed; queued = h.kept.queued };
      marks = h.marks;
      past = record { committed = h.past.committed; ended = h.past.ended; dropped = h.past.dropped; latest = h.past.latest; drawn = h.past.drawn };
      inside = record { table = h.inside.table; works = h.inside.works; reports = h.inside.reports };
      works = h.works;
    }

pub turn-sound : (script : Script) (c : Coord) → 1 ≤ script.segments → IsSound script c → (x : NodeEvent) (fails : Bool) → IsSmall x → coord_can script c x ≡ true → IsSound script (on_event script c x fails).coord
turn-sound script c some h x fails small ok =
    let f = event-good script c h.marks h.kept h.past x fails ok in
    record {
      kept = f.kept;
      marks = h.marks ++ (on_event script c x fails).marks;
      past = f.past;
      inside = (coord_stays script some c x fails h.inside).coord;
      works = works-after script c h x fails small ok;
    }

pub cancel-sound : (script : Script) (c : Coord) → 1 ≤ script.segments → IsSound script c → (g : Gxid) → IsSound script (cancels c g).coord
cancel-sound script c some h g =
    let f = cancel-good c h.marks h.kept h.past g.0 in
    record {
      kept = f.kept;
      marks = h.marks ++ (cancels c g).marks;
      past = f.past;
      inside = (cancel_stays script some c g h.inside).coord;
      works = cancel-ways (λ turn. AreSound turn.coord) c g h.works (λ live busy. refused-sound c h.kept.whole h.works g.0 (abort_found g (find_txn c.table g)) [] (Victim c.rounds));
    }

pub sound-stays : (script : Script) (c : Coord) → 1 ≤ script.segments → IsSound script c → (x : NodeEvent) (fails : Bool) → IsSmall x → coord_can script c x ≡ true → IsSound script (coord_rule script c x fails).coord
sound-stays script c some h x fails small ok =
    cancels_all-each (λ turn. IsSound script turn.coord) (λ turn g k. sent-sound script (cancels turn.coord g) turn.coord.clock (cancel-sound script turn.coord some k g)) (victims_at c x) (coord_turn script c x fails)
    (sent-sound script (on_event script c x fails) (clock_after c.clock x) (turn-sound script c some h x fails small ok))
