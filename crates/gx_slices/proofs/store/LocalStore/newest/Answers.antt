use Rattle.std.proofs.Common.{◌∙◌, ap}
use Rattle.std.proofs.lemmas.Result.{IfOk-weaker}
use Rattle.std.specs.Prelude.{option_map}
use Rattle.gx_slices.specs.Changing.{newest_as}
use Rattle.gx_slices.specs.Store.{Store, newest_of}
use Rattle.gx_slices.proofs.Readers.{newest_at-newest}
use Rattle.gx_slices.proofs.store.LocalStore.newest.Goals as goal

pub returns : goal.returns
returns c =
    IfOk-weaker c.newest_in.result _ _
    (λ found is.
    is
    ∙ newest_at-newest c.self.inside.tables.entries c.self.inside.xids c.self.invariant.sound c.args.table c.args.rid
    ∙ ap (λ (s : Store). option_map newest_as (newest_of s c.args.table c.args.rid)) c.self.view_is)
    c.newest_in.ensures
