-- What actions do.
use Rattle.std.specs.Prelude.{◌≡◌, ◌++◌, true, is_some, None}
use Rattle.std.specs.Option.{option_or, option_to_list}
use Rattle.std.specs.declared.option.Option.{Option}
use Rattle.gx_msg.specs.declared.message.Envelope.{Envelope}
use Rattle.gx_cells.specs.declared.history.History.{History}
use Rattle.gx_cells.specs.declared.inbox.Inbox.{Inbox}

-- An inbox has given an envelope: the one that was to come once more, or else what came on the link, if something did.
pub record HasTaken (old new : Inbox) (given : Option Envelope) : Type 0 where
  pub came : Option Envelope
  pub link : new.source.link ≡ old.source.link
  pub received : new.source.received ≡ old.source.received ++ option_to_list came
  pub is : given ≡ option_or old.again came
  pub once : is_some old.again ≡ true → came ≡ None
  pub again : new.again ≡ None

-- the history has gone on, on the same link
abbrev pub HasGoneOn : History → History → Type 0
HasGoneOn old new = (new ≡ record old { steps = new.steps; out = new.out }) × (new.out.link ≡ old.out.link)
