-- Requests in order, and the event that repeats one.
use Rattle.std.specs.Prelude.{◌==◌, nat_lt, Bool, true, Option, None, Some}
use Rattle.std.specs.declared.cmp.Ordering.{Ordering}
use Rattle.std.specs.Ordering.{nat_cmp, ordering_then}
use Rattle.gx_ids.specs.declared.ids.Node.{Node}
use Rattle.gx_store.specs.declared.event.Event.{Event}
use Rattle.gx_store.specs.declared.event.Event.TheVariants.{Resend}
use Rattle.gx_agenda.specs.declared.request.Request.{Request}

-- by segment, and then by transaction
abbrev pub request_cmp : Request → Request → Ordering
request_cmp a b = ordering_then (nat_cmp a.segment.0 b.segment.0) (nat_cmp a.gxid.0 b.gxid.0)

abbrev pub resend_of : Request → Event
resend_of request = Resend request.segment (Some request.gxid)

-- the segment stands before the request's, or there is no request
abbrev pub is_before : Node → Option Request → Bool
is_before segment None = true
is_before segment (Some request) = nat_lt segment.0 request.segment.0

abbrev pub is_of : Node → Request → Bool
is_of segment request = request.segment.0 == segment.0
