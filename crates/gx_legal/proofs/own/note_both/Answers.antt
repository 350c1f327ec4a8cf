use Rattle.std.proofs.Common.{◌∙◌, ap}
use Rattle.gx_store.specs.Marks.{is_same_gxid}
use Rattle.gx_legal.specs.Own.{noted}
use Rattle.gx_legal.proofs.OwnRows.{noted-both}
use Rattle.gx_legal.proofs.own.note_both.Goals as goal

pub returns : goal.returns
returns c =
    let a = c.args in
    λ g. c.in_ok-note_first-2.ensures g ∙ ap (noted a.place (is_same_gxid a.other g)) (c.in_ok-note_first.ensures g) ∙ noted-both a.place (is_same_gxid a.gxid g) (is_same_gxid a.other g) _
