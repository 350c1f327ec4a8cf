-- The line of an event, with its moment.
use Rattle.std.specs.Prelude.{ℕ, ◌^◌, ◌<◌, List, [], ◌∷◌, ◌++◌, Option, Some, None, codes}
use Rattle.std.specs.Fmt.{decimal}
use Rattle.gx_ids.specs.declared.ids.Gxid.{Gxid}
use Rattle.gx_ids.specs.declared.ids.Node.{Node}
use Rattle.gx_ids.specs.declared.ids.SessionId.{SessionId}
use Rattle.gx_ids.specs.declared.stamp.Stamp.{Stamp}
use Rattle.gx_report.specs.EventText.{event_text}
use Rattle.gx_report.specs.Words.{word_text}
use Rattle.gx_script.specs.declared.Script.{Script}
use Rattle.gx_store.specs.declared.event.Event.{Event}
use Rattle.gx_store.specs.declared.event.Event.TheVariants as event
use Rattle.gx_trace.specs.Fields.{count, gxid, node, node_of}
use Rattle.gx_trace.specs.Lawful.{IsEvent, IsNode}
use Rattle.gx_trace.specs.Names.{session}
use Rattle.gx_trace.specs.Readers.{Front, behind, both, made, number_below}
use Rattle.gx_trace_lines.specs.Choices.{just, nothing, on}
use Rattle.gx_trace_lines.specs.declared.events.Moment.{Moment}

-- PRINTED
abbrev pub moment_text : Script → Moment → List ℕ
moment_text script at = decimal at.stamp.clock ++ (codes "." ++ decimal at.stamp.node.0) ++ word_text (event_text script at.event)

pub record IsMoment (script : Script) (at : Moment) : Type 0 where
  pub clock : at.stamp.clock < 2 ^ 64
  pub node : IsNode at.stamp.node
  pub event : IsEvent script at.event

-- READ
abbrev pub receive_of : Node × (Node × ℕ) → Event
receive_of x = event.Receive x.0 x.1.0 x.1.1

abbrev pub resume_of : Node × Gxid → Event
resume_of x = event.Resume x.0 x.1

abbrev pub start_of : SessionId → Event
start_of s = event.Start s

abbrev pub end_of : SessionId → Event
end_of s = event.End s

abbrev pub resend_of : Node × Option Gxid → Event
resend_of x = event.Resend x.0 x.1

abbrev pub restart_of : Node → Event
restart_of n = event.Restart n

abbrev pub some_of : Gxid → Option Gxid
some_of g = Some g

abbrev pub receive : List ℕ → Front Event
receive bytes = made receive_of (both node (both node count) bytes)

abbrev pub resume : List ℕ → Front Event
resume bytes = made resume_of (both node gxid bytes)

abbrev pub started : Script → List ℕ → Front Event
started script bytes = made start_of (session script bytes)

abbrev pub ended : Script → List ℕ → Front Event
ended script bytes = made end_of (session script bytes)

-- of a transaction, or of the detector's round
abbrev pub whose : List ℕ → Front (Option Gxid)
whose = on (codes " round") (just None) (λ bytes. made some_of (gxid bytes))

abbrev pub resend : List ℕ → Front Event
resend bytes = made resend_of (both node whose bytes)

abbrev pub restart : List ℕ → Front Event
restart bytes = made restart_of (node bytes)

abbrev pub event_at : Script → List ℕ → Front Event
event_at script =
    on (codes " recv") receive
    (on (codes " resume") resume
    (on (codes " start") (started script)
    (on (codes " end") (ended script)
    (on (codes " resend") resend
    (on (codes " round") (just event.Round)
    (on (codes " restart") restart nothing))))))

abbrev pub stamp_of : ℕ × ℕ → Stamp
stamp_of x = record { clock = x.0; node = node_of x.1 }

abbrev pub stamp : List ℕ → Front Stamp
stamp bytes = made stamp_of (both (number_below (2 ^ 64)) (behind (codes ".") (number_below (2 ^ 8))) bytes)

abbrev pub moment_of : Stamp × Event → Moment
moment_of x = record { stamp = x.0; event = x.1 }

abbrev pub moment : Script → List ℕ → Front Moment
moment script bytes = made moment_of (both stamp (event_at script) bytes)
