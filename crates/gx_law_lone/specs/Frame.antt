-- What a round of the detector leaves as it was.
use Rattle.std.specs.Prelude.{◌≡◌, Bool, true, false, None}
use Rattle.gx_msg.specs.declared.message.Message.{Message}
use Rattle.gx_msg.specs.declared.message.Message.TheVariants.{Collect, Graph}
use Rattle.gx_store.specs.declared.node.NodeEvent.{NodeEvent}
use Rattle.gx_store.specs.declared.node.NodeEvent.TheVariants.{Deliver, Resend, Round}
use Rattle.gx_rules.specs.Coordinators.{Coord}
use Rattle.gx_rules.specs.Segments.{Seg}

abbrev pub is_message_of_round : Message → Bool
is_message_of_round (Collect round) = true
is_message_of_round (Graph round graph) = true
is_message_of_round _ = false

-- a round begins, or one of its messages comes, or a segment is asked for its graph again
abbrev pub is_event_of_round : NodeEvent → Bool
is_event_of_round (Deliver from envelope) = is_message_of_round envelope.message
is_event_of_round (Resend segment None) = true
is_event_of_round Round = true
is_event_of_round _ = false

-- transactions, works, sessions and locks are as they were
pub record IsCoordLeft (old new : Coord) : Type 0 where
  pub table : new.table ≡ old.table
  pub works : new.works ≡ old.works
  pub sessions : new.sessions ≡ old.sessions
  pub locks : new.locks ≡ old.locks

-- and so are a segment's horizon, transactions, versions and locks
pub record IsSegLeft (old new : Seg) : Type 0 where
  pub horizon : new.horizon ≡ old.horizon
  pub locals : new.locals ≡ old.locals
  pub versions : new.versions ≡ old.versions
  pub locks : new.locks ≡ old.locks
