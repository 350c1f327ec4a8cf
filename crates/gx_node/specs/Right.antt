-- What a segment's test of a slice says, for each script of its tables.
use Rattle.std.specs.Prelude.{◌≡◌, Bool, List}
use Rattle.gx_ids.specs.declared.ids.Cid.{Cid}
use Rattle.gx_ids.specs.declared.ids.Gxid.{Gxid}
use Rattle.gx_tree.specs.declared.schema.Schema.{Schema}
use Rattle.gx_tree.specs.declared.slice.Slice.{Slice}
use Rattle.gx_script.specs.declared.Script.{Script}
use Rattle.gx_rules.specs.Fits.{is_right_slice}

abbrev pub IsRightFor : List Schema → Gxid → Cid → Slice → Bool → Type 0
IsRightFor tables g c slice answer = (script : Script) → script.tables ≡ tables → answer ≡ is_right_slice script g c slice
