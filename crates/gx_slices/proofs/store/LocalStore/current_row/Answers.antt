use Rattle.std.proofs.Common.{◌∙◌, ap}
use Rattle.std.specs.Prelude.{option_and_then}
use Rattle.gx_slices.specs.Store.{Store, newest_of}
use Rattle.gx_slices.proofs.Readers.{image_of-newest}
use Rattle.gx_slices.proofs.store.LocalStore.current_row.Goals as goal

pub returns : goal.returns
returns c =
    c.current_row_in.ensures
    ∙ image_of-newest c.self.inside.tables.entries c.self.inside.xids c.self.invariant.sound c.args.table c.args.rid
    ∙ ap (λ (s : Store). option_and_then (λ w. w.image) (newest_of s c.args.table c.args.rid)) c.self.view_is
