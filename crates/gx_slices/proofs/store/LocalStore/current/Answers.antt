use Rattle.std.proofs.Common.{◌∙◌, ap}
use Rattle.std.specs.Prelude.{option_map}
use Rattle.gx_slices.specs.Store.{Store, current_of, newest_of}
use Rattle.gx_slices.proofs.Readers.{current_of-newest}
use Rattle.gx_slices.proofs.store.LocalStore.current.Goals as goal

pub returns : goal.returns
returns c =
    c.current_in.ensures
    ∙ current_of-newest c.self.inside.tables.entries c.self.inside.xids c.self.invariant.sound c.args.table c.args.rid
    ∙ ap (λ (s : Store). option_map current_of (newest_of s c.args.table c.args.rid)) c.self.view_is
