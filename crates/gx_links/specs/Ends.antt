-- The two ends of a link.
use Rattle.std.specs.Prelude.{◌≡◌, ℕ, List, length}
use Rattle.atomic_blocks.specs.Laid.{WebId}
use Rattle.gx_msg.specs.declared.message.Envelope.{Envelope}
use Rattle.gx_links.specs.declared.roles.View.{View}
use Rattle.gx_links.specs.declared.roles.View.TheVariants.{Sender, Receiver}
use Rattle.gx_links.specs.Views.{sent_by, received_by}

-- a link, by its queue, and what was sent on it
pub record OutEnd : Type 0 where
  pub link : WebId
  pub sent : List Envelope

-- a link, by its queue, and what was received on it
pub record InEnd : Type 0 where
  pub link : WebId
  pub received : List Envelope

-- the view is that of the pass which sends, and so many were sent
pub record IsSender (view : View) (count : ℕ) : Type 0 where
  pub role : view ≡ Sender (sent_by view)
  pub counted : count ≡ length (sent_by view)

-- the view is that of the pass which receives, and so many were received
pub record IsReceiver (view : View) (count : ℕ) : Type 0 where
  pub role : view ≡ Receiver (received_by view)
  pub counted : count ≡ length (received_by view)
