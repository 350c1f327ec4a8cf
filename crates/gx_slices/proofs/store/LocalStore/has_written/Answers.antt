use Rattle.std.proofs.Common.{◌∙◌, sym, ap}
use Rattle.std.specs.Prelude.{is_some}
use Rattle.gx_slices.specs.Store.{Store, status_of}
use Rattle.gx_slices.proofs.Statuses.{status_of-lxid_of}
use Rattle.gx_slices.proofs.store.LocalStore.has_written.Goals as goal

pub returns : goal.returns
returns c =
    c.is_some.ensures
    ∙ ap
    is_some
    (c.status_in.ensures
    ∙ sym (status_of-lxid_of c.self.inside.tables.entries c.self.inside.xids c.args.gxid)
    ∙ ap (λ (s : Store). status_of s c.args.gxid) c.self.view_is)
