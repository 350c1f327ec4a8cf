-- What the coordinator holds, against the data of its rule.
use Rattle.std.specs.Prelude.{◌≡◌, ℕ, ◌+◌, ◌++◌, ◌∷◌, [], List, length, option_map, slice_get, slice_index, unwrap_or, Some, None}
use Rattle.std.specs.declared.option.Option.{Option}
use Rattle.std.specs.Map.{lookup}
use Rattle.std.specs.BTreeMap.{is_at}
use Rattle.gx_ids.specs.declared.ids.Gxid.{Gxid}
use Rattle.gx_ids.specs.declared.ids.Node.{Node}
use Rattle.gx_tree.specs.declared.part.Part.{Part}
use Rattle.gx_dtx.specs.Nodes.{without}
use Rattle.gx_dsnap.specs.Gxids.{gxid_cmp}
use Rattle.gx_tree.specs.declared.stmt.Stmt.{Stmt}
use Rattle.gx_tree.specs.declared.stmt.Stmt.TheVariants as stmt
use Rattle.gx_script.specs.declared.Line.{Line}
use Rattle.gx_script.specs.Session.{idle_outside}
use Rattle.gx_rules.specs.Coordinators as rule
use Rattle.gx_coord.specs.declared.coord.Coord.{Coord}
use Rattle.gx_coord.specs.declared.work.Command.{Command}
use Rattle.gx_coord.specs.declared.work.Session.{Session}
use Rattle.gx_coord.specs.declared.work.Work.{Work}

-- the statement of the line at a place
abbrev pub stmt_at : List Line → ℕ → Stmt
stmt_at lines place = unwrap_or (option_map (λ line. line.stmt) (slice_get lines place)) stmt.Commit

abbrev pub command_of : List Line → Command → rule.Command
command_of lines k = record { stmt = stmt_at lines k.line; cid = k.cid; orders = k.orders; awaited = k.awaited; count = k.count; parts = k.parts }

-- with the statement of the line that waits
abbrev pub work_of : List Line → Work → rule.Work
work_of lines w =
    record {
      session = w.session;
      level = w.level;
      last = w.last;
      snapshot = w.snapshot;
      writers = w.writers;
      command = option_map (command_of lines) w.command;
      waiting = option_map (stmt_at lines) w.waiting;
    }

abbrev pub work_in : List Line → Option Work → rule.Work
work_in lines None = rule.no_work
work_in lines (Some w) = work_of lines w

abbrev pub session_of : Session → rule.Session
session_of s = record { state = s.state; lines = s.lines; transaction = s.transaction }

-- what is known of the transaction of this gxid
abbrev pub found : List Line → List (Gxid × Work) → ℕ → rule.Work
found lines works g = work_in lines (lookup (is_at (gxid_cmp (record { 0 = g }))) works)

-- the session at a place; where none stands, one that has done nothing
abbrev pub session_in : Option Session → rule.Session
session_in None = rule.new_session
session_in (Some s) = session_of s

abbrev pub session_at : List Session → ℕ → rule.Session
session_at sessions s = session_in (slice_get sessions s)

-- what the coordinator holds, as the data of its rule
abbrev pub coord_of : Coord → rule.Coord
coord_of k =
    record {
      table = k.dtx;
      works = found k.script.value.lines k.works.items;
      sessions = session_at k.sessions.items;
      locks = k.locks;
      rounds = k.detector.begun;
      reports = k.detector.reports;
      sent = slice_index k.sent.items;
      clock = k.clock;
    }

-- what stays in a turn, before its messages are numbered
pub record IsFramed (old new : Coord) : Type 0 where
  pub script : new.script ≡ old.script
  pub places : new.places ≡ old.places
  pub sent : new.sent ≡ old.sent
  pub clock : new.clock ≡ old.clock
  pub segments : new.detector.segments ≡ old.detector.segments
  pub count : length new.sessions.items ≡ length old.sessions.items

-- the answer of a node to a command
abbrev pub add_to : Node → ℕ → Part → Command → Command
add_to i count part k = record k { awaited = without i k.awaited; count = k.count + count; parts = k.parts ++ part ∷ [] }

abbrev pub fresh_session : Session
fresh_session = record { state = idle_outside; lines = 0; transaction = record { 0 = 0 } }
