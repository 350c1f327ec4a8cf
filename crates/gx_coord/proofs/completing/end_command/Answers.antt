use Rattle.std.proofs.Common.{None, ◌∙◌, ap, sym, subst}
use Rattle.std.specs.BTreeMap.{is_at}
use Rattle.gx_dsnap.specs.Gxids.{gxid_cmp}
use Rattle.gx_entries.specs.Standing.{StandsAt}
use Rattle.gx_rules.specs.Coordinators.{Work}
use Rattle.gx_rules.specs.Maps.{with_at}
use Rattle.gx_coord.specs.Books.{coord_of, found}
use Rattle.gx_coord.proofs.Changes.{found-at, found-through}
use Rattle.gx_coord.proofs.completing.end_command.Goals as goal

pub returns-in-Some-clause-coord : goal.returns-in-Some-clause-coord
returns-in-Some-clause-coord c =
    let old = c.args.coord.now in
    let lines = old.script.value.lines in
    let es = old.works.items in
    let e = c.index_mut.result.now in
    let work = e.1 in
    let stands = subst (λ xs. StandsAt (is_at (gxid_cmp c.args.gxid)) xs c.in-Some.place) c.as_slice.ensures.value c.in-Some.ensures.there in
    let ended = record work { command = None } in
    ap (λ f. record (coord_of old) { works = f })
    (found-through lines es c.args.gxid c.in-Some.place e stands c.index_mut.ensures.value ended
    ∙ ap (λ (v : Work). with_at (found lines es) c.args.gxid.0 (record v { command = None })) (sym (found-at lines es c.args.gxid c.in-Some.place e stands c.index_mut.ensures.value)))
