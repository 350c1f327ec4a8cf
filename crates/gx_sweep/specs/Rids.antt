-- The rows under a key, however many.
use Rattle.std.specs.Prelude.{List, [], ◌∷◌}
use Rattle.std.specs.BTreeSet.{keys}
use Rattle.gx_ids.specs.declared.rid.Rid.{Rid}
use Rattle.gx_sweep.specs.declared.rids.Rids.{Rids}
use Rattle.gx_sweep.specs.declared.rids.Rids.TheVariants.{One, Many}

-- rising
abbrev pub listed : Rids → List Rid
listed (One rid) = rid ∷ []
listed (Many rids) = keys rids
