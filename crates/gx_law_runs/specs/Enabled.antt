-- What may happen next, by what the nodes hold: the links, the coordinator's sessions and the answers that it awaits.
use Rattle.std.specs.Prelude.{◌+◌, ◌-◌, ◌==◌, Bool, not, if◌then◌else◌, ◌&&◌, ◌||◌, is_some, List, [], ◌∷◌, ◌++◌, filter, length, map, Some, None}
use Rattle.std.specs.List.{flat_map, list_any, range_with_len}
use Rattle.gx_ids.specs.declared.ids.Gxid.{Gxid}
use Rattle.gx_ids.specs.declared.ids.Node.{Node}
use Rattle.gx_ids.specs.declared.ids.SessionId.{SessionId}
use Rattle.gx_script.specs.declared.Line.{Line}
use Rattle.gx_script.specs.declared.Script.{Script}
use Rattle.gx_store.specs.declared.event.Event.{Event}
use Rattle.gx_store.specs.declared.event.Event.TheVariants.{End, Resend, Resume, Round, Start}
use Rattle.gx_store.specs.declared.node.NodeEvent.TheVariants as node
use Rattle.gx_locks.specs.Locks.{Locks, may_take, wait_of}
use Rattle.gx_store.specs.Refusals.{the_coordinator}
use Rattle.gx_store.specs.Schedule.{first_of, is_exec, is_quiet, left_on, segments_of}
use Rattle.gx_rules.specs.AtCoordinator.{awaited, coord_can, is_idle}
use Rattle.gx_rules.specs.Coordinators.{Coord, session_of}
use Rattle.gx_rules.specs.Machine.{World}
use Rattle.gx_rules.specs.Rounds.{awaits_graph, can_begin}

-- the gxids that were drawn
abbrev pub drawn : Coord → List Gxid
drawn c = map (λ n. record { 0 = n }) (range_with_len 1 (c.table.next.0 - 1))

-- the line follows those that its session, which is idle, has started
abbrev pub is_next_by : Coord → Line → Bool
is_next_by c line = is_idle (session_of c line.session) && (line.number == (session_of c line.session).lines + 1)

abbrev pub starts_by : Script → Coord → List Event
starts_by script c = map (λ line. Start line.session) (filter (is_next_by c) script.lines)

abbrev pub sessions_of : Script → List SessionId
sessions_of script = map (λ n. record { 0 = n }) (range_with_len 0 (length script.sessions))

abbrev pub ends_by : Script → Coord → List Event
ends_by script c = map End (filter (λ session. coord_can script c (node.End session)) (sessions_of script))

-- the least transaction whose wait at a node meets nobody resumes
abbrev pub resumes_by : Coord → Node → Locks → List Event
resumes_by c node locks = first_of (map (Resume node) (filter (λ g. may_take locks g) (drawn c)))

-- a segment resumes, or else receives
abbrev pub at_segment_by : Script → World → Node → List Event
at_segment_by script w segment = first_of (resumes_by w.coord segment (w.segs segment.0).locks ++ first_of (left_on script w.steps the_coordinator segment))

-- what is awaited of a segment is due, but for the EXEC of a transaction that waits there
abbrev pub is_due : World → Node → Gxid → Bool
is_due w segment g = is_some (awaited w.coord g segment) && (not (is_exec (awaited w.coord g segment)) || not (is_some (wait_of (w.segs segment.0).locks g)))

-- and its graph, last
abbrev pub resends_due : Script → World → Node → List Event
resends_due script w segment =
    if is_quiet script w.steps segment
    then map (λ g. Resend segment (Some g)) (filter (is_due w segment) (drawn w.coord)) ++ (if awaits_graph w.coord segment then Resend segment None ∷ [] else [])
    else []

-- some transaction waits at the coordinator or at a segment
abbrev pub is_anybody_waiting : Script → World → Bool
is_anybody_waiting script w = not (length w.coord.locks.waits == 0) || list_any (λ segment. not (length (w.segs segment.0).locks.waits == 0)) (segments_of script)

-- no round runs, so the next may begin where somebody waits
abbrev pub rounds_by : Script → World → List Event
rounds_by script w = if can_begin script w.coord && is_anybody_waiting script w then Round ∷ [] else []

-- The first message of each link to the coordinator; at each segment who resumes there, or else the first message of its link; who
-- resumes at the coordinator; what is sent again; the lines and ends of sessions; and a round.
abbrev pub enabled_there : Script → World → List Event
enabled_there script w =
    flat_map (λ segment. first_of (left_on script w.steps segment the_coordinator)) (segments_of script)
    ++ flat_map (at_segment_by script w) (segments_of script)
    ++ resumes_by w.coord the_coordinator w.coord.locks
    ++ flat_map (resends_due script w) (segments_of script)
    ++ starts_by script w.coord
    ++ ends_by script w.coord
    ++ rounds_by script w
