-- Events of a round leave transactions, sessions and locks.
use Rattle.std.proofs.Common.{◌≡◌, Bool, true, Option, Some, None, refl}
use Rattle.gx_ids.specs.declared.ids.Node.{Node}
use Rattle.gx_msg.specs.declared.message.Message.{Message}
use Rattle.gx_msg.specs.declared.message.Message.TheVariants as message
use Rattle.gx_script.specs.declared.Script.{Script}
use Rattle.gx_store.specs.declared.node.NodeEvent.{NodeEvent}
use Rattle.gx_store.specs.declared.node.NodeEvent.TheVariants as here
use Rattle.gx_rules.specs.AtCoordinator.{awaited_collect, coord_turn, on_event, on_message, resends}
use Rattle.gx_rules.specs.AtSegment as segment
use Rattle.gx_rules.specs.AtSegment.{seg_rule}
use Rattle.gx_rules.specs.Coordinators.{Coord, CoordTurn}
use Rattle.gx_rules.specs.Segments.{Seg, SegTurn}
use Rattle.gx_rules.proofs.Rounds.{collect-ways, graph-ways}
use Rattle.gx_law_lone.specs.Frame.{IsCoordLeft, IsSegLeft, is_event_of_round, is_message_of_round}

abbrev Leaves : Coord → CoordTurn → Type 0
Leaves c turn = IsCoordLeft c turn.coord

resend-leaves : (c : Coord) (i : Node) (o : Option Message) → Leaves c (resends c i o)
resend-leaves c i None = record { table = refl; works = refl; sessions = refl; locks = refl }
resend-leaves c i (Some m) = record { table = refl; works = refl; sessions = refl; locks = refl }

message-leaves : (c : Coord) (from : Node) (fails : Bool) (m : Message) → is_message_of_round m ≡ true → Leaves c (on_message c from fails m)
message-leaves c from fails (message.Graph round graph) e =
    graph-ways (Leaves c) c from round graph (record { table = refl; works = refl; sessions = refl; locks = refl }) (λ a. record { table = refl; works = refl; sessions = refl; locks = refl }) (λ a b. record { table = refl; works = refl; sessions = refl; locks = refl })
message-leaves c from fails message.Up e = record { table = refl; works = refl; sessions = refl; locks = refl }
message-leaves c from fails (message.Collect round) e = record { table = refl; works = refl; sessions = refl; locks = refl }
message-leaves c from fails (message.Answer g r) e = absurd (cc)
message-leaves c from fails (message.Exec g d level x h y) e = absurd (cc)
message-leaves c from fails (message.Prepare g) e = absurd (cc)
message-leaves c from fails (message.Commit g) e = absurd (cc)
message-leaves c from fails (message.CommitPrepared g) e = absurd (cc)
message-leaves c from fails (message.Abort g) e = absurd (cc)
message-leaves c from fails (message.Forget g) e = absurd (cc)

event-leaves : (script : Script) (c : Coord) (x : NodeEvent) (fails : Bool) → is_event_of_round x ≡ true → Leaves c (on_event script c x fails)
event-leaves script c (here.Deliver from envelope) fails e = message-leaves c from fails envelope.message e
event-leaves script c (here.Resend i None) fails e = resend-leaves c i (awaited_collect c i)
event-leaves script c (here.Resend i (Some g)) fails e = absurd (cc)
event-leaves script c (here.Resume g) fails e = absurd (cc)
event-leaves script c (here.Start s) fails e = absurd (cc)
event-leaves script c (here.End s) fails e = absurd (cc)
event-leaves script c here.Round fails e = record { table = refl; works = refl; sessions = refl; locks = refl }

pub coord-left : (script : Script) (c : Coord) (x : NodeEvent) (fails : Bool) → is_event_of_round x ≡ true → IsCoordLeft c (coord_turn script c x fails).coord
coord-left script c x fails e = let a = event-leaves script c x fails e in record { table = a.table; works = a.works; sessions = a.sessions; locks = a.locks }

-- AT A SEGMENT
abbrev Stays : Seg → SegTurn → Type 0
Stays s turn = IsSegLeft s turn.seg

message-stays : (script : Script) (s : Seg) (fails : Bool) (m : Message) → is_message_of_round m ≡ true → Stays s (segment.on_message script s fails m)
message-stays script s fails (message.Collect round) e =
    collect-ways (Stays s) s round (record { horizon = refl; locals = refl; versions = refl; locks = refl }) (λ a. record { horizon = refl; locals = refl; versions = refl; locks = refl }) (λ a graph b. record { horizon = refl; locals = refl; versions = refl; locks = refl })
message-stays script s fails (message.Graph round graph) e = record { horizon = refl; locals = refl; versions = refl; locks = refl }
message-stays script s fails message.Up e = record { horizon = refl; locals = refl; versions = refl; locks = refl }
message-stays script s fails (message.Answer g r) e = absurd (cc)
message-stays script s fails (message.Exec g d level x h y) e = absurd (cc)
message-stays script s fails (message.Prepare g) e = absurd (cc)
message-stays script s fails (message.Commit g) e = absurd (cc)
message-stays script s fails (message.CommitPrepared g) e = absurd (cc)
message-stays script s fails (message.Abort g) e = absurd (cc)
message-stays script s fails (message.Forget g) e = absurd (cc)

event-stays : (script : Script) (s : Seg) (x : NodeEvent) (fails : Bool) → is_event_of_round x ≡ true → Stays s (segment.on_event script s x fails)
event-stays script s (here.Deliver from envelope) fails e = message-stays script s fails envelope.message e
event-stays script s (here.Resend i None) fails e = record { horizon = refl; locals = refl; versions = refl; locks = refl }
event-stays script s (here.Resend i (Some g)) fails e = absurd (cc)
event-stays script s (here.Resume g) fails e = absurd (cc)
event-stays script s (here.Start t) fails e = absurd (cc)
event-stays script s (here.End t) fails e = absurd (cc)
event-stays script s here.Round fails e = record { horizon = refl; locals = refl; versions = refl; locks = refl }

pub seg-left : (script : Script) (s : Seg) (x : NodeEvent) (fails : Bool) → is_event_of_round x ≡ true → IsSegLeft s (seg_rule script s x fails).seg
seg-left script s x fails e = let a = event-stays script s x fails e in record { horizon = a.horizon; locals = a.locals; versions = a.versions; locks = a.locks }
