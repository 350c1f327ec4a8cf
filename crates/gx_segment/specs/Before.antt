-- What a message meets.
use Rattle.gx_script.specs.declared.Script.{Script}
use Rattle.gx_rules.specs.Segments.{Seg}

pub record Before : Type 0 where
  pub script : Script
  pub seg : Seg
