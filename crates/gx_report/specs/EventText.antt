-- The text of an event.
use Rattle.std.specs.Prelude.{ℕ, List, [], ◌∷◌, ◌++◌, codes, Some, None}
use Rattle.gx_script.specs.declared.Script.{Script}
use Rattle.gx_store.specs.declared.event.Event.{Event}
use Rattle.gx_store.specs.declared.event.Event.TheVariants.{Receive, Resume, Start, End, Resend, Round, Restart}
use Rattle.gx_report.specs.Words.{at_node_text, session_name, word_text, words_text}

abbrev pub event_text : Script → Event → List ℕ
event_text script (Receive from to number) = words_text (codes "recv") (from.0 ∷ to.0 ∷ number ∷ [])
event_text script (Resume node gxid) = at_node_text (codes "resume") node gxid
event_text script (Start session) = codes "start" ++ word_text (session_name script session)
event_text script (End session) = codes "end" ++ word_text (session_name script session)
event_text script (Resend segment (Some gxid)) = at_node_text (codes "resend") segment gxid
event_text script (Resend segment None) = words_text (codes "resend") (segment.0 ∷ []) ++ codes " round"
event_text script Round = codes "round"
event_text script (Restart segment) = words_text (codes "restart") (segment.0 ∷ [])
