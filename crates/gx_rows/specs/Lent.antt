-- What the rows end as once a borrow of a rid's versions has ended.
use Rattle.std.specs.Prelude.{◌≡◌, List, Option, OnSome}
use Rattle.std.specs.Borrow.{Fml, LendsSo, MutBor}
use Rattle.std.specs.BTreeMap.{is_at}
use Rattle.std.specs.Map.{set_value}
use Rattle.gx_ids.specs.declared.rid.Rid.{Rid}
use Rattle.gx_rows.specs.Rids.{rid_cmp}
use Rattle.gx_rows.specs.contracts.list.VersionList as list
use Rattle.gx_rows.specs.contracts.versions.Versions.{the_row}
use Rattle.gx_rows.specs.declared.version.Version.{Version}

-- the rid has the versions that were left there, and each other the same
abbrev pub LendsList : MutBor (List (Rid × List Version)) → Rid → Option (MutBor (List Version)) → Fml
LendsList rows rid lent = LendsSo the_row list.the_row rows lent (λ new versions. OnSome lent (new ≡ set_value (is_at (rid_cmp rid)) rows.now versions)) (λ new. new ≡ rows.now)
