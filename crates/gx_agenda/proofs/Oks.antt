-- What holds where a call answers Ok.
use Rattle.std.proofs.Common.{Ok, Err}
use Rattle.std.specs.Prelude.{OnOk}
use Rattle.std.specs.declared.result.Result.{Result}

pub on_ok : {A E : Type 0} (r : Result A E) (P Q : Type 0) → OnOk r P → (P → Q) → OnOk r Q
on_ok (Ok a) P Q h f = f h
on_ok (Err e) P Q h f = tt

pub on_ok-three : {A E : Type 0} (r : Result A E) (P Q R S : Type 0) → OnOk r P → OnOk r Q → OnOk r R → (P → Q → R → S) → OnOk r S
on_ok-three (Ok a) P Q R S h k l f = f h k l
on_ok-three (Err e) P Q R S h k l f = tt

pub always-ok : {A E : Type 0} (r : Result A E) {P : Type 0} → P → OnOk r P
always-ok (Ok a) p = p
always-ok (Err e) p = tt
