-- What the coordinator holds, as plain data.
use Rattle.std.specs.Prelude.{ℕ, List, [], ◌++◌, None}
use Rattle.std.specs.declared.option.Option.{Option}
use Rattle.gx_ids.specs.declared.ids.Cid.{Cid}
use Rattle.gx_ids.specs.declared.ids.Gxid.{Gxid}
use Rattle.gx_ids.specs.declared.ids.Node.{Node}
use Rattle.gx_ids.specs.declared.ids.SessionId.{SessionId}
use Rattle.gx_tree.specs.declared.part.Part.{Part}
use Rattle.gx_tree.specs.declared.stmt.Level.{Level}
use Rattle.gx_tree.specs.declared.stmt.Level.TheVariants.{ReadCommitted}
use Rattle.gx_tree.specs.declared.stmt.Stmt.{Stmt}
use Rattle.gx_dsnap.specs.declared.snapshot.Snapshot.{Snapshot}
use Rattle.gx_dtx.specs.Table.{Table, new_table}
use Rattle.gx_waits.specs.declared.graph.LocalGraph.{LocalGraph}
use Rattle.gx_locks.specs.Locks.{Locks}
use Rattle.gx_msg.specs.declared.item.JournalItem.{JournalItem}
use Rattle.gx_msg.specs.declared.message.Out.{Out}
use Rattle.gx_script.specs.Session.{idle_outside}
use Rattle.gx_script.specs.declared.state.SessionState.{SessionState}
use Rattle.gx_store.specs.declared.mark.Mark.{Mark}
use Rattle.gx_store.specs.Refusals.{the_coordinator}
use Rattle.gx_rules.specs.Maps.{with_at}
use Rattle.gx_rules.specs.Segments.{no_locks}

-- A command under way: its statement and number, what was sent for it to each segment, the segments whose answers are
-- awaited, and what was answered so far.
pub record Command : Type 0 where
  pub stmt : Stmt
  pub cid : Cid
  pub orders : List Out
  pub awaited : List Node
  pub count : ℕ
  pub parts : List Part

-- What the coordinator knows of a transaction besides its status: its session and level, its last command's number, the
-- snapshot that a repeatable-read block keeps, the segments where it has written, the command under way, and the statement that
-- waits for its table's lock, which has no number, snapshot or pieces before it goes out.
pub record Work : Type 0 where
  pub session : SessionId
  pub level : Level
  pub last : ℕ
  pub snapshot : Option Snapshot
  pub writers : List Node
  pub command : Option Command
  pub waiting : Option Stmt

abbrev pub new_work : SessionId → Level → Work
new_work session level = record { session = session; level = level; last = 0; snapshot = None; writers = []; command = None; waiting = None }

-- of a transaction that wasn't drawn, or has its Commit or Abort mark, nothing is known
abbrev pub no_work : Work
no_work = new_work (record { 0 = 0 }) ReadCommitted

-- A session: where it stands, how many of its lines were started, and the transaction of its block or of its line under way.
pub record Session : Type 0 where
  pub state : SessionState
  pub lines : ℕ
  pub transaction : Gxid

abbrev pub new_session : Session
new_session = record { state = idle_outside; lines = 0; transaction = record { 0 = 0 } }

-- The coordinator: its transactions' statuses, what else it knows of them by gxid, the sessions, its locks, how many rounds of the
-- detector were begun, so the last one's number, and while that one runs a place for each segment with the graph that it has
-- reported, if any, how many messages it has sent to each segment, and its clock.
pub record Coord : Type 0 where
  pub table : Table
  pub works : ℕ → Work
  pub sessions : ℕ → Session
  pub locks : Locks
  pub rounds : ℕ
  pub reports : Option (List (Option LocalGraph))
  pub sent : ℕ → ℕ
  pub clock : ℕ

abbrev pub new_coordinator : Coord
new_coordinator =
    record {
      table = new_table;
      works = λ g. no_work;
      sessions = λ s. new_session;
      locks = no_locks the_coordinator;
      rounds = 0;
      reports = None;
      sent = λ node. 0;
      clock = 0;
    }

abbrev pub work_of : Coord → Gxid → Work
work_of c g = c.works g.0

abbrev pub session_of : Coord → SessionId → Session
session_of c s = c.sessions s.0

abbrev pub with_work : Coord → Gxid → Work → Coord
with_work c g w = record c { works = with_at c.works g.0 w }

abbrev pub with_session : Coord → SessionId → Session → Coord
with_session c s session = record c { sessions = with_at c.sessions s.0 session }

-- where a session stands changes
abbrev pub with_state : Coord → SessionId → SessionState → Coord
with_state c s state = with_session c s (record (session_of c s) { state = state })

-- what the coordinator does in one event
pub record CoordTurn : Type 0 where
  pub coord : Coord
  pub marks : List Mark
  pub outs : List Out
  pub item : Option JournalItem

abbrev pub rests : Coord → CoordTurn
rests c = record { coord = c; marks = []; outs = []; item = None }

-- a turn, and one that starts where it has led
abbrev pub joined : CoordTurn → CoordTurn → CoordTurn
joined turn next = record { coord = next.coord; marks = turn.marks ++ next.marks; outs = turn.outs ++ next.outs; item = turn.item }
