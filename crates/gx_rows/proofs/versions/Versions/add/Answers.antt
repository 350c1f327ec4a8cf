use Rattle.std.proofs.Common.{◌≡◌, ◌≢◌, ◌++◌, ◌∷◌, [], List, subst}
use Rattle.std.specs.Prelude.{OnOk}
use Rattle.gx_ids.specs.declared.rid.Rid.{Rid}
use Rattle.gx_rows.specs.declared.version.Version.{Version}
use Rattle.gx_rows.specs.Rows.{versions_of}
use Rattle.gx_rows.proofs.Entries.{versions_of-added, versions_of-added_other}
use Rattle.gx_rows.proofs.versions.Versions.add.Goals as goal

pub returns-clause-last : goal.returns-clause-last
returns-clause-last c =
    let v : Version = record { image = c.args.image; table = c.args.table; lxid = c.args.lxid; cid = c.args.cid } in
    subst
    (λ (rows : List (Rid × List Version)). OnOk c.push_version.result (versions_of c.push_version.new.lists.entries c.args.rid ≡ versions_of rows c.args.rid ++ v ∷ []))
    c.self.view_is
    (versions_of-added _ _ c.args.rid v c.push_version.result c.push_version.ensures.ok)

pub returns-clause-others : goal.returns-clause-others
returns-clause-others c =
    let v : Version = record { image = c.args.image; table = c.args.table; lxid = c.args.lxid; cid = c.args.cid } in
    subst
    (λ (rows : List (Rid × List Version)). OnOk c.push_version.result ((q : Rid) → q ≢ c.args.rid → versions_of c.push_version.new.lists.entries q ≡ versions_of rows q))
    c.self.view_is
    (versions_of-added_other _ _ c.args.rid v c.push_version.result c.push_version.ensures.ok)
