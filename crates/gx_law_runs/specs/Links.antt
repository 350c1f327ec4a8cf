-- The messages of a link, by their numbers.
use Rattle.std.specs.Prelude.{ℕ, nat_le, Bool, ◌&&◌, option_map}
use Rattle.std.specs.declared.option.Option.{Option}
use Rattle.gx_msg.specs.declared.message.Envelope.{Envelope}
use Rattle.gx_msg.specs.declared.message.Message.{Message}

-- a number of a link that has sent so many messages
abbrev pub is_number : ℕ → ℕ → Bool
is_number number count = nat_le 1 number && nat_le number count

abbrev pub message_of : Option Envelope → Option Message
message_of envelope = option_map (λ e. e.message) envelope
