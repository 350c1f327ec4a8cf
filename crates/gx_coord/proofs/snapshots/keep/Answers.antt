use Rattle.std.proofs.Common.{◌∙◌, Option, ap, sym, subst}
use Rattle.std.specs.BTreeMap.{is_at}
use Rattle.gx_dsnap.specs.Gxids.{gxid_cmp}
use Rattle.gx_entries.specs.Standing.{StandsAt}
use Rattle.gx_dsnap.specs.declared.snapshot.Snapshot.{Snapshot}
use Rattle.gx_rules.specs.AtCoordinator.{kept_at}
use Rattle.gx_rules.specs.Coordinators.{Work}
use Rattle.gx_rules.specs.Maps.{with_at}
use Rattle.gx_coord.specs.Books.{coord_of, found, work_of}
use Rattle.gx_coord.proofs.Changes.{found-at, found-through}
use Rattle.gx_coord.proofs.snapshots.keep.Goals as goal

pub returns-in_ok-work-clause-coord : goal.returns-in_ok-work-clause-coord
returns-in_ok-work-clause-coord c =
    let old = c.args.coord.now in
    let lines = old.script.value.lines in
    let es = old.works.items in
    let e = c.index_mut.result.now in
    let work = e.1 in
    let stands = subst (λ xs. StandsAt (is_at (gxid_cmp c.args.gxid)) xs c.in-Some.place) c.as_slice.ensures.value c.in-Some.ensures.there in
    let now = record work { snapshot = c.in_ok-work.field-0 } in
    ap (λ f. record (coord_of old) { works = f })
    (found-through lines es c.args.gxid c.in-Some.place e stands c.index_mut.ensures.value now
    ∙ ap (λ (s : Option Snapshot). with_at (found lines es) c.args.gxid.0 (record (work_of lines work) { snapshot = s })) c.in_ok-work.ensures
    ∙ ap (λ (v : Work). with_at (found lines es) c.args.gxid.0 (record v { snapshot = kept_at v.level c.args.snapshot.now })) (sym (found-at lines es c.args.gxid c.in-Some.place e stands c.index_mut.ensures.value)))
