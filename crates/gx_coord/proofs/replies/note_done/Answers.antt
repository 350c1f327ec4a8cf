use Rattle.std.proofs.Common.{◌∙◌, ap, sym, subst}
use Rattle.std.specs.BTreeMap.{is_at}
use Rattle.gx_dsnap.specs.Gxids.{gxid_cmp}
use Rattle.gx_entries.specs.Standing.{StandsAt}
use Rattle.gx_rules.specs.Coordinators.{Work}
use Rattle.gx_rules.specs.Maps.{with_at}
use Rattle.gx_coord.specs.Books.{coord_of, found, work_of}
use Rattle.gx_coord.specs.Turns.{AreCounted, done_work}
use Rattle.gx_coord.proofs.Changes.{counted-some, done-noted, found-at, found-through}
use Rattle.gx_coord.proofs.replies.note_done.Goals as goal

pub returns-in_ok-add_done-clause-coord : goal.returns-in_ok-add_done-clause-coord
returns-in_ok-add_done-clause-coord c =
    let old = c.args.coord.now in
    let lines = old.script.value.lines in
    let es = old.works.items in
    let e = c.index_mut.result.now in
    let work = e.1 in
    let stands = subst (λ xs. StandsAt (is_at (gxid_cmp c.args.gxid)) xs c.in-Some.place) c.as_slice.ensures.value c.in-Some.ensures.there in
    let now = c.add_done.new.work in
    ap (λ f. record (coord_of old) { works = f })
    (found-through lines es c.args.gxid c.in-Some.place e stands c.index_mut.ensures.value now
    ∙ ap (λ (v : Work). with_at (found lines es) c.args.gxid.0 v) (ap (work_of lines) c.in_ok-add_done.ensures ∙ done-noted lines work c.args.node c.args.done.wrote c.args.done.count c.args.part.now)
    ∙ ap (λ (v : Work). with_at (found lines es) c.args.gxid.0 (done_work v c.args.node c.args.done.wrote c.args.done.count c.args.part.now)) (sym (found-at lines es c.args.gxid c.in-Some.place e stands c.index_mut.ensures.value)))

pub add_done-requires : goal.add_done-requires
add_done-requires c =
    let old = c.args.coord.now in
    let lines = old.script.value.lines in
    let es = old.works.items in
    let e = c.index_mut.result.now in
    let stands = subst (λ xs. StandsAt (is_at (gxid_cmp c.args.gxid)) xs c.in-Some.place) c.as_slice.ensures.value c.in-Some.ensures.there in
    counted-some lines e.1.command (subst (λ (w : Work). AreCounted w.command) (found-at lines es c.args.gxid c.in-Some.place e stands c.index_mut.ensures.value) c.requires.counted)
