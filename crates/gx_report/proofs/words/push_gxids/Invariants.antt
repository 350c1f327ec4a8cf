use Rattle.std.proofs.Common.{◌≡◌, ◌++◌, take}
use Rattle.std.specs.List.{flat_map}
use Rattle.gx_report.specs.Words.{gxid_text}
use Rattle.gx_report.proofs.words.push_gxids.Given as goal

abbrev pub invariant-loop-gxid : goal.invariant-loop-gxid
invariant-loop-gxid l = l.text.items ≡ l.initial.text.items ++ flat_map gxid_text (take l.gxid-index l.gxids)
