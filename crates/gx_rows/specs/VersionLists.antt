-- A row's versions, however many.
use Rattle.std.specs.Prelude.{List, [], ◌∷◌}
use Rattle.gx_rows.specs.declared.list.Few.{Few}
use Rattle.gx_rows.specs.declared.list.Few.TheVariants.{Empty, One, Many}
use Rattle.gx_rows.specs.declared.version.Version.{Version}

abbrev pub listed : Few → List Version
listed Empty = []
listed (One version) = version ∷ []
listed (Many versions) = versions.items
