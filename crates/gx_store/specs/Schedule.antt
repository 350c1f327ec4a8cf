-- What may happen next in a run, in the order in which the drivers ask: a function of the script and the steps so far.
use Rattle.std.specs.Prelude.{ℕ, ◌+◌, ◌==◌, nat_lt, Bool, true, false, not, if◌then◌else◌, ◌&&◌, ◌||◌, is_some, List, [], ◌∷◌, ◌++◌, length, take, filter, map, Some, None}
use Rattle.std.specs.declared.option.Option.{Option}
use Rattle.std.specs.List.{flat_map, list_any, range_with_len}
use Rattle.gx_ids.specs.declared.ids.Gxid.{Gxid}
use Rattle.gx_ids.specs.declared.ids.Node.{Node}
use Rattle.gx_ids.specs.declared.ids.SessionId.{SessionId}
use Rattle.gx_msg.specs.declared.message.Message.{Message}
use Rattle.gx_msg.specs.declared.message.Message.TheVariants as message
use Rattle.gx_msg.specs.declared.reply.Reply.{Reply}
use Rattle.gx_msg.specs.declared.reply.Reply.TheVariants as reply
use Rattle.gx_meaning.specs.Plan.{nodes_from}
use Rattle.gx_script.specs.declared.Line.{Line}
use Rattle.gx_script.specs.declared.LinkFault.{LinkFault}
use Rattle.gx_script.specs.declared.Script.{Script}
use Rattle.gx_waits.specs.declared.claim.Claim.{Claim}
use Rattle.gx_waits.specs.Claims.{is_clear, is_of}
use Rattle.gx_store.specs.declared.event.Event.{Event}
use Rattle.gx_store.specs.declared.event.Event.TheVariants.{Receive, Resume, Start, End, Resend, Round}
use Rattle.gx_store.specs.declared.mark.Mark.{Mark}
use Rattle.gx_store.specs.declared.mark.Mark.TheVariants as mark
use Rattle.gx_store.specs.declared.run.Step.{Step}
use Rattle.gx_store.specs.Journals.{is_same_node}
use Rattle.gx_store.specs.Legal.{is_in_block}
use Rattle.gx_store.specs.Lines.{line_count, next_stmt, state_of}
use Rattle.gx_store.specs.Marks.{answer_count, is_same_gxid, start_count}
use Rattle.gx_store.specs.Ordered.{sent_in}
use Rattle.gx_store.specs.Points.{ends_in, marks_in, starts_in}
use Rattle.gx_store.specs.Refusals.{the_coordinator}
use Rattle.gx_store.specs.Waits.{holds_at, waits_at}

-- MESSAGES THAT ARE LEFT
-- how often a message is to be delivered: a link may lose it, or deliver it twice
abbrev pub is_fault_of : Node → Node → ℕ → LinkFault → Bool
is_fault_of from to number fault =
    (fault.number == number) && (if fault.to_segment then is_same_node from the_coordinator && is_same_node to fault.segment else is_same_node from fault.segment && is_same_node to the_coordinator)

abbrev pub deliveries : Script → Node → Node → ℕ → ℕ
deliveries script from to number =
    if list_any (λ fault. is_fault_of from to number fault && not fault.repeat) script.faults then 0
    else (if list_any (is_fault_of from to number) script.faults then 2 else 1)

abbrev pub is_receipt_of : Node → Node → ℕ → Event → Bool
is_receipt_of from to number (Receive f t n) = is_same_node f from && (is_same_node t to && (n == number))
is_receipt_of from to number _ = false

abbrev pub received_count : Node → Node → ℕ → List Step → ℕ
received_count from to number steps = length (filter (λ step. is_receipt_of from to number step.event) steps)

abbrev pub is_left : Script → List Step → Node → Node → ℕ → Bool
is_left script steps from to number = nat_lt (received_count from to number steps) (deliveries script from to number)

-- the deliveries that a link owes, in the order of its messages
abbrev pub left_on : Script → List Step → Node → Node → List Event
left_on script steps from to = map (Receive from to) (filter (is_left script steps from to) (range_with_len 1 (sent_in from to steps)))

abbrev pub first_of : List Event → List Event
first_of events = take 1 events

-- ANSWERS THAT ARE AWAITED
-- the message of a number on a link
abbrev pub message_in : Node → ℕ → List Mark → Option Message
message_in to number [] = None
message_in to number (mark.Sent t n told ∷ ms) = if is_same_node t to && (n == number) then Some told else message_in to number ms
message_in to number (_ ∷ ms) = message_in to number ms

abbrev pub sent_message : Node → Node → ℕ → List Step → Option Message
sent_message from to number [] = None
sent_message from to number (s ∷ ss) = or_else (if is_same_node s.stamp.node from then message_in to number s.marks else None) (sent_message from to number ss)
  where
    or_else : Option Message → Option Message → Option Message
    or_else (Some told) other = Some told
    or_else None other = other

-- the transaction that a message to a segment is about
abbrev pub is_about : Gxid → Message → Bool
is_about g (message.Exec h c level snapshot horizon slice) = is_same_gxid h g
is_about g (message.Prepare h) = is_same_gxid h g
is_about g (message.Commit h) = is_same_gxid h g
is_about g (message.CommitPrepared h) = is_same_gxid h g
is_about g (message.Abort h) = is_same_gxid h g
is_about g (message.Forget h) = is_same_gxid h g
is_about g _ = false

-- the reply is the message's own
abbrev pub is_reply_to : Message → Reply → Bool
is_reply_to (message.Exec g c level snapshot horizon slice) (reply.Done d wrote count part) = d.0 == c.0
is_reply_to (message.Exec g c level snapshot horizon slice) (reply.Failed d cause) = d.0 == c.0
is_reply_to (message.Prepare g) reply.Prepared = true
is_reply_to (message.Prepare g) reply.Jfault = true
is_reply_to (message.Commit g) reply.Committed = true
is_reply_to (message.Commit g) reply.Jfault = true
is_reply_to (message.CommitPrepared g) reply.Committed = true
is_reply_to (message.Abort g) reply.Aborted = true
is_reply_to (message.Forget g) reply.Forgotten = true
is_reply_to _ _ = false

abbrev pub is_answer_to : Option Message → Gxid → Option Message → Bool
is_answer_to (Some asked) g (Some (message.Answer h told)) = is_same_gxid h g && is_reply_to asked told
is_answer_to _ g _ = false

-- the message to the segment about the transaction that awaits its answer, after marks of the coordinator
abbrev pub asked_by : Node → Gxid → Option Message → List Mark → Option Message
asked_by segment g asked [] = asked
asked_by segment g asked (mark.Sent to number told ∷ ms) = asked_by segment g (if is_same_node to segment && is_about g told then Some told else asked) ms
asked_by segment g asked (_ ∷ ms) = asked_by segment g asked ms

-- what an event of the coordinator leaves of it: its answer ends it
abbrev pub unless_answered : List Step → Node → Gxid → Option Message → Event → Option Message
unless_answered steps segment g asked (Receive from to number) =
    if is_same_node from segment && is_answer_to asked g (sent_message from to number steps) then None else asked
unless_answered steps segment g asked _ = asked

abbrev pub asked_from : List Step → Node → Gxid → Option Message → List Step → Option Message
asked_from before segment g asked [] = asked
asked_from before segment g asked (s ∷ ss) =
    asked_from (before ++ s ∷ []) segment g (if is_same_node s.stamp.node the_coordinator then asked_by segment g (unless_answered before segment g asked s.event) s.marks else asked) ss

abbrev pub asked : List Step → Node → Gxid → Option Message
asked steps segment g = asked_from [] segment g None steps

abbrev pub is_exec : Option Message → Bool
is_exec (Some (message.Exec g c level snapshot horizon slice)) = true
is_exec _ = false

-- WAITS THAT ARE READY
abbrev pub waits_of : List Mark → Node → Gxid → List Claim
waits_of marks node g = filter (is_of g) (waits_at marks node)

-- the transactions that have begun, from the least
abbrev pub gxids_of : List Mark → List Gxid
gxids_of marks = map (λ n. record { 0 = n }) (range_with_len 1 (start_count marks))

-- the least transaction with a ready wait at the node resumes
abbrev pub resumptions : List Mark → Node → List Event
resumptions marks node =
    first_of (map (Resume node) (filter (λ g. list_any (is_clear (holds_at marks node) (waits_at marks node)) (waits_of marks node g)) (gxids_of marks)))

-- THE DETECTOR'S ROUNDS
-- how many rounds have begun, and how many have ended
abbrev pub is_round : Event → Bool
is_round Round = true
is_round _ = false

abbrev pub round_count : List Step → ℕ
round_count steps = length (filter (λ step. is_round step.event) steps)

abbrev pub is_recheck : Mark → Bool
is_recheck (mark.Recheck round own verdict) = true
is_recheck _ = false

abbrev pub recheck_count : List Step → ℕ
recheck_count steps = length (filter is_recheck (marks_in steps))

abbrev pub is_round_running : List Step → Bool
is_round_running steps = nat_lt (recheck_count steps) (round_count steps)

-- the segment's graph for the round that runs was received
abbrev pub is_graph_of : ℕ → Option Message → Bool
is_graph_of round (Some (message.Graph r graph)) = r == round
is_graph_of round _ = false

abbrev pub is_graph_received : List Step → Node → ℕ → List Step → Bool
is_graph_received before segment round [] = false
is_graph_received before segment round (s ∷ ss) = here s.event || is_graph_received (before ++ s ∷ []) segment round ss
  where
    here : Event → Bool
    here (Receive from to number) = is_same_node from segment && is_graph_of round (sent_message from to number before)
    here _ = false

abbrev pub is_graph_awaited : List Step → Node → Bool
is_graph_awaited steps segment = is_round_running steps && not (is_graph_received [] segment (round_count steps) steps)

-- WHAT IS ENABLED, IN ORDER
abbrev pub segments_of : Script → List Node
segments_of script = nodes_from 1 script.segments

abbrev pub is_quiet : Script → List Step → Node → Bool
is_quiet script steps segment =
    (length (left_on script steps the_coordinator segment) == 0) && (length (left_on script steps segment the_coordinator) == 0)

-- a message is sent again where its answer is awaited and nothing is left on the segment's links; an EXEC only where its
-- slice doesn't wait there
abbrev pub may_resend : List Step → Node → Gxid → Bool
may_resend steps segment g =
    is_some (asked steps segment g) && (not (is_exec (asked steps segment g)) || (length (waits_of (marks_in steps) segment g) == 0))

abbrev pub resends : Script → List Step → Node → List Event
resends script steps segment =
    if is_quiet script steps segment
    then map (λ g. Resend segment (Some g)) (filter (may_resend steps segment) (gxids_of (marks_in steps))) ++ (if is_graph_awaited steps segment then Resend segment None ∷ [] else [])
    else []

abbrev pub is_idle : List Step → SessionId → Bool
is_idle steps session = starts_in session steps == answer_count session (marks_in steps)

-- the line is its session's first that was not started, and the session is idle
abbrev pub is_next : List Step → Line → Bool
is_next steps line = is_idle steps line.session && (line.number == starts_in line.session steps + 1)

abbrev pub starts : Script → List Step → List Event
starts script steps = map (λ line. Start line.session) (filter (is_next steps) script.lines)

-- the session is idle, has no line left and stands in a block that was not ended
abbrev pub is_to_end : Script → List Step → SessionId → Bool
is_to_end script steps session =
    is_idle steps session && (not (is_some (next_stmt session script (marks_in steps))) && (is_in_block (state_of script session (marks_in steps)) && (ends_in session steps == 0)))

abbrev pub sessions_of : Script → List SessionId
sessions_of script = map (λ n. record { 0 = n }) (range_with_len 0 (length script.sessions))

abbrev pub ends : Script → List Step → List Event
ends script steps = map End (filter (is_to_end script steps) (sessions_of script))

abbrev pub is_any_wait : Script → List Mark → Bool
is_any_wait script marks = list_any (λ node. not (length (waits_at marks node) == 0)) (the_coordinator ∷ segments_of script)

abbrev pub rounds : Script → List Step → List Event
rounds script steps = if script.detector && (not (is_round_running steps) && is_any_wait script (marks_in steps)) then Round ∷ [] else []

-- a segment resumes its least ready transaction, or else receives
abbrev pub at_segment : Script → List Step → Node → List Event
at_segment script steps segment = first_of (resumptions (marks_in steps) segment ++ first_of (left_on script steps the_coordinator segment))

abbrev pub enabled : Script → List Step → List Event
enabled script steps =
    flat_map (λ segment. first_of (left_on script steps segment the_coordinator)) (segments_of script)
    ++ flat_map (at_segment script steps) (segments_of script)
    ++ resumptions (marks_in steps) the_coordinator
    ++ flat_map (resends script steps) (segments_of script)
    ++ starts script steps
    ++ ends script steps
    ++ rounds script steps

-- WHEN A RUN IS OVER
-- a session has a line without an answer, or stands in a block, a failed one included, that wasn't ended
abbrev pub is_unfinished : Script → List Step → SessionId → Bool
is_unfinished script steps session =
    not (answer_count session (marks_in steps) == line_count session script.lines)
    || (is_in_block (state_of script session (marks_in steps)) && (ends_in session steps == 0))

abbrev pub is_any_unfinished : Script → List Step → Bool
is_any_unfinished script steps = list_any (is_unfinished script steps) (sessions_of script)
