-- What passes know, and what steps tell them.
use Rattle.std.specs.Prelude.{◌≡◌, ◌<◌, ◌^◌, List, [], ◌∷◌, ◌++◌, length}
use Rattle.gx_msg.specs.declared.message.Envelope.{Envelope}
use Rattle.gx_links.specs.declared.roles.View.{View}
use Rattle.gx_links.specs.declared.roles.View.TheVariants.{Sender, Receiver, Closed}

abbrev pub sent_by : View → List Envelope
sent_by (Sender sent) = sent
sent_by (Closed sent received) = sent
sent_by _ = []

abbrev pub received_by : View → List Envelope
received_by (Receiver received) = received
received_by (Closed sent received) = received
received_by _ = []

-- a push tells that the envelope was sent
abbrev pub HasSent : View → Envelope → View → Type 0
HasSent old m new = new ≡ Sender (sent_by old ++ m ∷ [])

-- a pop tells that the envelope was received, and that there is room to count it
abbrev pub HasReceived : View → Envelope → View → Type 0
HasReceived old m new = (new ≡ Receiver (received_by old ++ m ∷ [])) × (length (received_by old) < 2 ^ 63)

-- a look by the receiver tells that what the queue holds was sent behind what was received
abbrev pub IsBehind : View → List Envelope → Type 0
IsBehind view held = (sent : List Envelope) × (sent ≡ received_by view ++ held)

-- the look at a closed link tells that the queue holds what was sent and not received
abbrev pub IsLeft : View → List Envelope → Type 0
IsLeft view held = sent_by view ≡ received_by view ++ held
