-- The lines of events are read as they are printed.
use Rattle.std.proofs.Common.{◌≡◌, ℕ, ◌^◌, ◌<◌, List, [], ◌∷◌, ◌++◌, codes, Option, Some, None, refl, sym, ◌∙◌, ap, subst, arith, append_assoc, append-nil}
use Rattle.std.specs.Fmt.{decimal}
use Rattle.gx_ids.specs.declared.ids.Gxid.{Gxid}
use Rattle.gx_ids.specs.declared.ids.Node.{Node}
use Rattle.gx_ids.specs.declared.ids.SessionId.{SessionId}
use Rattle.gx_ids.specs.declared.stamp.Stamp.{Stamp}
use Rattle.gx_report.specs.EventText.{event_text}
use Rattle.gx_report.specs.Words.{gxid_text, number_text, session_name, word_text}
use Rattle.gx_script.specs.declared.Script.{Script}
use Rattle.gx_store.specs.declared.event.Event.{Event}
use Rattle.gx_store.specs.declared.event.Event.TheVariants as event
use Rattle.gx_trace.specs.Fields.{count, gxid, node, node_of}
use Rattle.gx_trace.specs.Lawful.{IsEvent, IsGxid, IsNode, IsSession}
use Rattle.gx_trace.specs.Readers.{Front, behind, both, made, number_below, EndsName, EndsNumber, IsEnd, IsReaderOf}
use Rattle.gx_trace.proofs.Alternatives.{said-as}
use Rattle.gx_trace.proofs.Names.{sessions}
use Rattle.gx_trace.proofs.ReadFields.{counts, gxids, nodes}
use Rattle.gx_trace.proofs.Readers.{behind-word, made-into, numbers-below, one-behind-other}
use Rattle.gx_trace.proofs.Wholes.{not-word}
use Rattle.gx_trace_lines.specs.Choices.{just, nothing, on, on_by}
use Rattle.gx_trace_lines.specs.Events.{IsMoment, end_of, ended, event_at, moment, moment_of, moment_text, receive, receive_of, resend, resend_of, restart, restart_of, resume, resume_of, some_of, stamp, stamp_of, start_of, started, whose}
use Rattle.gx_trace_lines.specs.declared.events.Moment.{Moment}
use Rattle.gx_trace_lines.proofs.FirstWords.{IsSoundBehind, as-sound, made-again, made-sound, nothing-sound, on-sound}
use Rattle.gx_trace_lines.proofs.ReadHeads.{ends-number}

pub ends-name : (rest : List ℕ) → IsEnd rest → EndsName rest
ends-name rest end = subst EndsName (sym end) tt

-- WHOSE
abbrev whose_text : Option Gxid → List ℕ
whose_text None = codes " round"
whose_text (Some g) = gxid_text g

abbrev IsWhose : Option Gxid → Type 0
IsWhose None = Unit {0}
IsWhose (Some g) = IsGxid g

whose-again : (w : Option Gxid) (rest : List ℕ) → IsWhose w → IsEnd rest → whose (whose_text w ++ rest) ≡ Some (w, rest)
whose-again None rest is end = refl
whose-again (Some g) rest is end = no-round ∙ ap (made some_of) (gxids.again g rest is (ends-number rest end))
  where
    no-round : whose (gxid_text g ++ rest) ≡ made some_of (gxid (gxid_text g ++ rest))
    no-round = ap (λ o. on_by (λ bytes. just None bytes) (made some_of (gxid (gxid_text g ++ rest))) o) (not-word 114 (codes "ound") g.0 rest (omega (arith, is)) (λ d l. grind arith))

whose-sound : IsSoundBehind [] whose_text IsWhose whose
whose-sound = on-sound whose_text IsWhose (codes " round") (as-sound whose_text IsWhose None tt) (made-sound [] whose_text IsWhose some_of gxids (λ g is. (is, refl)))

whoses : IsReaderOf whose_text IsWhose IsEnd whose
whoses = record { again = whose-again; sound = λ bytes rest a e. whose-sound bytes rest a e }

blank-behind : (w : Option Gxid) (rest : List ℕ) → EndsNumber (whose_text w ++ rest)
blank-behind None rest = refl
blank-behind (Some g) rest = refl

-- EVENTS
receives : IsReaderOf (λ (x : Node × (Node × ℕ)). number_text x.0.0 ++ (number_text x.1.0.0 ++ number_text x.1.1)) (λ x. IsNode x.0 × (IsNode x.1.0 × (x.1.1 < 2 ^ 64))) EndsNumber (both node (both node count))
receives = one-behind-other nodes (one-behind-other nodes counts (λ b rest is ends. refl)) (λ b rest is ends. refl)

pub at-nodes : IsReaderOf (λ (x : Node × Gxid). number_text x.0.0 ++ gxid_text x.1) (λ x. IsNode x.0 × IsGxid x.1) EndsNumber (both node gxid)
at-nodes = one-behind-other nodes gxids (λ b rest is ends. refl)

resends : IsReaderOf (λ (x : Node × Option Gxid). number_text x.0.0 ++ whose_text x.1) (λ x. IsNode x.0 × IsWhose x.1) IsEnd (both node whose)
resends = one-behind-other nodes whoses (λ b rest is ends. blank-behind b rest)

module _ (script : Script) where
  abbrev text : Event → List ℕ
  text e = word_text (event_text script e)

  resend-whole : (x : Node × Option Gxid) → IsNode x.0 × IsWhose x.1 → IsEvent script (resend_of x) × (text (resend_of x) ≡ codes " resend" ++ (number_text x.0.0 ++ whose_text x.1))
  resend-whole (n, None) is = (is.0, simp (append_assoc, append-nil))
  resend-whole (n, Some g) is = ((is.0, is.1), simp (append_assoc, append-nil))

  receive-text : (x : Node × (Node × ℕ)) → text (receive_of x) ≡ codes " recv" ++ (number_text x.0.0 ++ (number_text x.1.0.0 ++ number_text x.1.1))
  receive-text x = simp (append_assoc, append-nil)

  resume-text : (x : Node × Gxid) → text (resume_of x) ≡ codes " resume" ++ (number_text x.0.0 ++ gxid_text x.1)
  resume-text x = simp (append_assoc, append-nil)

  restart-text : (n : Node) → text (restart_of n) ≡ codes " restart" ++ number_text n.0
  restart-text n = simp (append_assoc, append-nil)

  event-again : (e : Event) (rest : List ℕ) → IsEvent script e → IsEnd rest → event_at script (text e ++ rest) ≡ Some (e, rest)
  event-again (event.Receive from to number) rest is end =
      made-again text (event_at script) (codes " recv") receive_of receives (λ bytes. refl) (from, (to, number)) rest (is.0, (is.1, is.2)) (ends-number rest end) (receive-text (from, (to, number)))
  event-again (event.Resume n g) rest is end = made-again text (event_at script) (codes " resume") resume_of at-nodes (λ bytes. refl) (n, g) rest is (ends-number rest end) (resume-text (n, g))
  event-again (event.Start s) rest is end = made-again text (event_at script) (codes " start") start_of (sessions script) (λ bytes. refl) s rest is (ends-name rest end) refl
  event-again (event.End s) rest is end = made-again text (event_at script) (codes " end") end_of (sessions script) (λ bytes. refl) s rest is (ends-name rest end) refl
  event-again (event.Resend n None) rest is end = made-again text (event_at script) (codes " resend") resend_of resends (λ bytes. refl) (n, None) rest (is, tt) end (resend-whole (n, None) (is, tt)).1
  event-again (event.Resend n (Some g)) rest is end = made-again text (event_at script) (codes " resend") resend_of resends (λ bytes. refl) (n, Some g) rest is end (resend-whole (n, Some g) is).1
  event-again event.Round rest is end = refl
  event-again (event.Restart n) rest is end = made-again text (event_at script) (codes " restart") restart_of nodes (λ bytes. refl) n rest is (ends-number rest end) (restart-text n)

  event-sound : IsSoundBehind [] text (IsEvent script) (event_at script)
  event-sound =
      on-sound text (IsEvent script) (codes " recv") (made-sound (codes " recv") text (IsEvent script) receive_of receives (λ x is. ((is.0, is.1.0, is.1.1), receive-text x)))
      (on-sound text (IsEvent script) (codes " resume") (made-sound (codes " resume") text (IsEvent script) resume_of at-nodes (λ x is. (is, resume-text x)))
      (on-sound text (IsEvent script) (codes " start") (made-sound (codes " start") text (IsEvent script) start_of (sessions script) (λ x is. (is, refl)))
      (on-sound text (IsEvent script) (codes " end") (made-sound (codes " end") text (IsEvent script) end_of (sessions script) (λ x is. (is, refl)))
      (on-sound text (IsEvent script) (codes " resend") (made-sound (codes " resend") text (IsEvent script) resend_of resends resend-whole)
      (on-sound text (IsEvent script) (codes " round") (as-sound text (IsEvent script) event.Round tt)
      (on-sound text (IsEvent script) (codes " restart") (made-sound (codes " restart") text (IsEvent script) restart_of nodes (λ x is. (is, restart-text x))) (nothing-sound text (IsEvent script))))))))

  events : IsReaderOf text (IsEvent script) IsEnd (event_at script)
  events = record { again = event-again; sound = λ bytes rest a e. event-sound bytes rest a e }

-- MOMENTS
stamps : IsReaderOf (λ (s : Stamp). decimal s.clock ++ (codes "." ++ decimal s.node.0)) (λ s. (s.clock < 2 ^ 64) × IsNode s.node) EndsNumber stamp
stamps =
    made-into (λ (s : Stamp). decimal s.clock ++ (codes "." ++ decimal s.node.0)) (λ s. (s.clock < 2 ^ 64) × IsNode s.node) stamp_of
    (one-behind-other (numbers-below (2 ^ 64) (omega arith)) (behind-word (codes ".") (numbers-below (2 ^ 8) (omega arith))) (λ b rest is ends. refl))
    (λ s is. ((s.clock, s.node.0), refl, is)) (λ x is. (is, refl))

pub moments : (script : Script) → IsReaderOf (moment_text script) (IsMoment script) IsEnd (moment script)
moments script =
    made-into (moment_text script) (IsMoment script) moment_of (one-behind-other stamps (events script) (λ e rest is ends. refl))
    (λ m is. ((m.stamp, m.event), refl, ((is.clock, is.node), is.event))) (λ x is. (record { clock = is.0.0; node = is.0.1; event = is.1 }, simp append_assoc))
