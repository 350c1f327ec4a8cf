-- Whose an open transaction is.
use Rattle.std.specs.Prelude.{Bool}
use Rattle.gx_ids.specs.declared.ids.SessionId.{SessionId}
use Rattle.gx_groups.specs.Slots.{is}
use Rattle.gx_store.specs.declared.opened.Opened.{Opened}

abbrev pub is_of : SessionId → Opened → Bool
is_of session opened = is session opened.session
