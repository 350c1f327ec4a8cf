use Rattle.std.proofs.Common.{◌∙◌, List, ap}
use Rattle.gx_rows.specs.Counts.{shown_of}
use Rattle.gx_rows.specs.Rows.{is_unaborted, last_passing, versions_of}
use Rattle.gx_rows.specs.Xids.{status_of}
use Rattle.gx_rows.specs.declared.version.Version.{Version}
use Rattle.gx_sweep.proofs.Living.{newest-swept, shown-swept}
use Rattle.gx_sweep.proofs.Rows.{versions-left, versions-swept, versions-unknown}
use Rattle.gx_sweep.proofs.sweeping.sweep.Goals as goal

pub returns-in-Some-clause-swept : goal.returns-in-Some-clause-swept
returns-in-Some-clause-swept c =
    let list = c.drop_dead.new.versions in
    versions-swept c.args.rows.now _ c.args.rid c.of_mut.result c.in-Some.versions list c.in-Some.is c.in-Some.ensures.found (c.of_mut.follows.holds list) c.args.map.now c.args.horizon c.drop_dead.ensures

pub returns-in-Some-clause-others : goal.returns-in-Some-clause-others
returns-in-Some-clause-others c =
    let list = c.drop_dead.new.versions in
    versions-left c.args.rows.now _ c.args.rid c.of_mut.result c.in-Some.versions list c.in-Some.is c.in-Some.ensures.found (c.of_mut.follows.holds list)

pub returns-in-Some-clause-newest : goal.returns-in-Some-clause-newest
returns-in-Some-clause-newest c =
    let list = c.drop_dead.new.versions in
    let now = versions-swept c.args.rows.now _ c.args.rid c.of_mut.result c.in-Some.versions list c.in-Some.is c.in-Some.ensures.found (c.of_mut.follows.holds list) c.args.map.now c.args.horizon c.drop_dead.ensures in
    ap (λ (vs : List Version). last_passing (λ v. is_unaborted (status_of c.args.map.now v.lxid)) vs) now
    ∙ newest-swept c.args.map.now c.args.horizon (versions_of c.args.rows.now c.args.rid)

pub returns-in-Some-clause-shown : goal.returns-in-Some-clause-shown
returns-in-Some-clause-shown c = λ snap own cid low alive.
    let list = c.drop_dead.new.versions in
    let now = versions-swept c.args.rows.now _ c.args.rid c.of_mut.result c.in-Some.versions list c.in-Some.is c.in-Some.ensures.found (c.of_mut.follows.holds list) c.args.map.now c.args.horizon c.drop_dead.ensures in
    ap (λ (vs : List Version). shown_of vs c.args.map.now snap own cid) now
    ∙ shown-swept c.args.map.now c.args.horizon snap own cid low alive (versions_of c.args.rows.now c.args.rid)

pub returns-in_default-clause-swept : goal.returns-in_default-clause-swept
returns-in_default-clause-swept c = versions-unknown c.args.rows.now _ c.args.rid c.in_default.ensures.missing c.of_mut.follows.holds-at-none c.args.map.now c.args.horizon
