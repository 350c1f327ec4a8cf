use Rattle.std.specs.Prelude.{ℕ, List, ◌++◌, codes}
use Rattle.std.specs.Fmt.{decimal}
use Rattle.gx_ids.specs.declared.rid.Rid.{Rid}

-- the transaction, the command and the place, with dots between
abbrev pub text_of : Rid → List ℕ
text_of r = decimal r.gxid.0 ++ codes "." ++ decimal r.cid.0 ++ codes "." ++ decimal r.ordinal
