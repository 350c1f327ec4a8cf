-- A Vec holds fewer than 2^63 items.
use Rattle.std.proofs.Common.{◌<◌, ◌^◌, arith, length}
use Rattle.std.specs.Global.{Vec}

pub few-items : {X : Type 0} (v : Vec X) → length v.items < 2 ^ 63
few-items v = omega (arith, v.ok, v.small)
