-- Cursors that agree with the steps of a run.
use Rattle.std.specs.Prelude.{◌≡◌, ℕ, ◌+◌, ◌<◌, ◌≤◌, ◌^◌, Bool, true, false, if◌then◌else◌, List, length, slice_get, unwrap_or}
use Rattle.gx_ids.specs.declared.ids.Node.{Node}
use Rattle.gx_script.specs.declared.Script.{Script}
use Rattle.gx_store.specs.declared.event.Event.{Event}
use Rattle.gx_store.specs.declared.event.Event.TheVariants.{Receive}
use Rattle.gx_store.specs.declared.run.Step.{Step}
use Rattle.gx_store.specs.Ordered.{IsLink}
use Rattle.gx_store.specs.Schedule.{deliveries, received_count}
use Rattle.gx_agenda.specs.declared.cursor.Cursor.{Cursor}
use Rattle.gx_agenda.specs.declared.cursors.Cursors.{Cursors}
use Rattle.gx_agenda.specs.Faults.{AreFaultsOf}
use Rattle.gx_agenda.specs.Links.{link_of}

-- Of a link's messages, which were received so often and are to be delivered so often: all up to the cursor were received as
-- often as they are to be (lost ones never), the next one wasn't, and `again` holds where it was received once; nothing
-- behind it was received. A number of 2 ^ 64 or more is no message's.
pub record StandsAt (received due : ℕ → ℕ) (cursor : Cursor) : Type 0 where
  pub done : (n : ℕ) → 0 < n → n ≤ cursor.done → received n ≡ due n
  pub again : received (cursor.done + 1) ≡ (if cursor.again then 1 else 0)
  pub next : cursor.done + 1 < 2 ^ 64 → received (cursor.done + 1) < due (cursor.done + 1)
  pub behind : (n : ℕ) → cursor.done + 1 < n → received n ≡ 0

-- the link's cursor
abbrev pub cursor_at : Cursors → ℕ → Cursor
cursor_at cursors link = unwrap_or (slice_get cursors.links.items link) (record { done = 0; again = false })

abbrev pub IsLinkAt : Script → List Step → Node → Node → Cursor → Type 0
IsLinkAt script steps from to cursor = StandsAt (λ n. received_count from to n steps) (deliveries script from to) cursor

-- the cursor of each link says which of its messages were delivered in the steps
pub record Agree (script : Script) (steps : List Step) (cursors : Cursors) : Type 0 where
  pub faults : AreFaultsOf script cursors.faults
  pub whole : (from to : Node) → IsLink script from to → link_of from to < length cursors.links.items
  pub links : (from to : Node) → IsLink script from to → IsLinkAt script steps from to (cursor_at cursors (link_of from to))

-- the event delivers a message
abbrev pub is_delivery : Event → Bool
is_delivery (Receive from to number) = true
is_delivery _ = false
