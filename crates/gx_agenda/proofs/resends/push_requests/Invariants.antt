use Rattle.std.proofs.Common.{◌≡◌, ◌++◌, drop, map}
use Rattle.std.specs.List.{filter}
use Rattle.gx_agenda.specs.declared.expected.Expected.{Expected}
use Rattle.gx_agenda.specs.declared.request.Request.{Request}
use Rattle.gx_agenda.specs.Requests.{is_of, resend_of}
use Rattle.gx_agenda.proofs.resends.push_requests.Given as goal

abbrev pub invariant-loop-request : goal.invariant-loop-request
invariant-loop-request l =
    l.events.items ++ map (λ (e : Request × Expected). resend_of e.0) (filter (λ (e : Request × Expected). is_of l.segment e.0) (drop l.request-index l.pending))
    ≡ l.initial.events.items ++ map (λ (e : Request × Expected). resend_of e.0) (filter (λ (e : Request × Expected). is_of l.segment e.0) l.pending)
