-- What is awaited after steps, and when the first of it is what is sent again.
use Rattle.std.specs.Prelude.{◌≡◌, ℕ, ◌<◌, ◌==◌, ◌&&◌, if◌then◌else◌, not, Bool, true, false, is_some, List, [], length, None, Some, Option, option_map, unwrap_or}
use Rattle.std.specs.BTreeMap.{BTreeMap, get}
use Rattle.std.specs.List.{filter, list_any}
use Rattle.std.specs.Option.{option_or}
use Rattle.gx_ids.specs.declared.ids.Gxid.{Gxid}
use Rattle.gx_ids.specs.declared.ids.Node.{Node}
use Rattle.gx_msg.specs.declared.message.Message.{Message}
use Rattle.gx_script.specs.declared.Script.{Script}
use Rattle.gx_store.specs.declared.event.Event.{Event}
use Rattle.gx_store.specs.declared.event.Event.TheVariants.{Receive}
use Rattle.gx_store.specs.declared.mark.Mark.{Mark}
use Rattle.gx_store.specs.declared.mark.Mark.TheVariants as mark
use Rattle.gx_store.specs.declared.run.Step.{Step}
use Rattle.gx_store.specs.Journals.{is_same_node}
use Rattle.gx_store.specs.Marks.{is_same_gxid}
use Rattle.gx_store.specs.Ordered.{IsSegment}
use Rattle.gx_store.specs.Points.{marks_in}
use Rattle.gx_store.specs.Refusals.{the_coordinator}
use Rattle.gx_store.specs.Schedule as schedule
use Rattle.gx_store.specs.Schedule.{gxids_of, is_about, is_graph_awaited, is_quiet, sent_message}
use Rattle.gx_store.specs.Waits.{waits_at}
use Rattle.gx_waits.specs.declared.claim.Claim.{Claim}
use Rattle.gx_agenda.specs.declared.asked.Asked.{Asked}
use Rattle.gx_agenda.specs.declared.expected.Expected.{Expected}
use Rattle.gx_agenda.specs.declared.request.Request.{Request}
use Rattle.gx_agenda.specs.Expected.{expected_of, is_command}
use Rattle.gx_agenda.specs.Requests.{request_cmp}
use Rattle.gx_agenda.specs.VecMap.{at}

-- the answer that is awaited of a request, whether it may be asked for again or not
abbrev pub awaited_at : Asked → Request → Option Expected
awaited_at asked r = option_or (at request_cmp asked.due r) (at request_cmp asked.withheld r)

-- the answer of a segment for a transaction that is awaited
abbrev pub expected_at : Asked → Node → Gxid → Option Expected
expected_at asked segment g = awaited_at asked (record { segment = segment; gxid = g })

-- the waits of a transaction at a node
abbrev pub waits_in : BTreeMap Request (List Claim) → Request → List Claim
waits_in waiting r = unwrap_or (get request_cmp waiting r) []

abbrev pub waits_for : Asked → Node → Gxid → List Claim
waits_for asked node g = waits_in asked.waiting (record { segment = node; gxid = g })

-- An awaited answer, where it may be asked for again, by the transaction's waits there: that to a command only where there are none.
abbrev pub due_of : Option Expected → List Claim → Option Expected
due_of None waits = None
due_of (Some expected) waits = if is_command expected && not (length waits == 0) then None else Some expected

abbrev pub due_at : Asked → Node → Gxid → Option Expected
due_at asked segment g = at request_cmp asked.due (record { segment = segment; gxid = g })

-- each segment's answer for each transaction is awaited as the steps say
abbrev pub AreAwaited : List Step → Asked → Type 0
AreAwaited steps asked = (segment : Node) (g : Gxid) → expected_at asked segment g ≡ option_map expected_of (schedule.asked steps segment g)

-- each transaction's waits at each node are among those that stand there
abbrev pub AreWaits : (Node → List Claim) → Asked → Type 0
AreWaits standing asked = (node : Node) (g : Gxid) → waits_for asked node g ≡ filter (λ wait. is_same_gxid wait.gxid g) (standing node)

-- a wait begins
abbrev pub begins_wait : Mark → Bool
begins_wait (mark.Wait node g object mode) = true
begins_wait _ = false

-- what may be asked for again is found
abbrev pub IsIndexed : Asked → Type 0
IsIndexed asked = (r : Request) → at request_cmp asked.due r ≡ due_of (awaited_at asked r) (waits_in asked.waiting r)

-- all of it is as the steps say
pub record AreAsked (steps : List Step) (asked : Asked) : Type 0 where
  pub answers : AreAwaited steps asked
  pub waits : AreWaits (waits_at (marks_in steps)) asked
  pub due : IsIndexed asked

-- the message that an event receives, if it receives one
abbrev pub told_in : List Step → Event → Option Message
told_in steps (Receive from to number) = sent_message from to number steps
told_in steps _ = None

-- what a step of the coordinator was told
abbrev pub IsTold : List Step → Step → Option Message → Type 0
IsTold steps step told = is_same_node step.stamp.node the_coordinator ≡ true → told ≡ told_in steps step.event

-- nothing is left on a segment's links, and what is asked of it is asked of transactions that have begun
pub record IsResendable (script : Script) (steps : List Step) (segment : Node) : Type 0 where
  pub quiet : is_quiet script steps segment ≡ true
  pub begun : (g : Gxid) → is_some (schedule.asked steps segment g) ≡ true → list_any (λ h. is_same_gxid h g) (gxids_of (marks_in steps)) ≡ true

-- so it is for all segments, and nothing is asked elsewhere
pub record AreResendable (script : Script) (steps : List Step) : Type 0 where
  pub each : (segment : Node) → IsSegment script segment → IsResendable script steps segment
  pub there : (segment : Node) (g : Gxid) → is_some (schedule.asked steps segment g) ≡ true → IsSegment script segment

-- no graph is awaited of a segment below a number
abbrev pub AreNoGraphsBefore : Script → List Step → ℕ → Type 0
AreNoGraphsBefore script steps number = (segment : Node) → IsSegment script segment → segment.0 < number → is_graph_awaited steps segment ≡ false

-- the first segment whose graph is awaited, if there is one
abbrev pub IsFirstGraph : Script → List Step → Option Node → Type 0
IsFirstGraph script steps None = (segment : Node) → IsSegment script segment → is_graph_awaited steps segment ≡ false
IsFirstGraph script steps (Some first) = IsSegment script first × (is_graph_awaited steps first ≡ true) × AreNoGraphsBefore script steps first.0
