-- What holds where a call answers Ok.
use Rattle.std.specs.Prelude.{IfOk, OnErr, OnOk}
use Rattle.std.specs.declared.result.Result.{Result}
use Rattle.std.proofs.Common.{Ok, Err}

pub on_ok : {A E : Type 0} (r : Result A E) (P Q : Type 0) → OnOk r P → (P → Q) → OnOk r Q
on_ok (Ok a) P Q h f = f h
on_ok (Err e) P Q h f = tt

pub both_ok : {A E : Type 0} (r : Result A E) (P Q : Type 0) → OnOk r P → OnOk r Q → OnOk r (P × Q)
both_ok (Ok a) P Q h f = (h, f)
both_ok (Err e) P Q h f = tt

pub always_ok : {A E : Type 0} (r : Result A E) (P : Type 0) → P → OnOk r P
always_ok (Ok a) P p = p
always_ok (Err e) P p = tt

pub if_ok : {A E : Type 0} (r : Result A E) (P Q : A → Type 0) → IfOk r P → ((a : A) → P a → Q a) → IfOk r Q
if_ok (Ok a) P Q h f = f a h
if_ok (Err e) P Q h f = tt

pub three_ok : {A E : Type 0} (r : Result A E) (P Q S T : A → Type 0) → IfOk r P → IfOk r Q → IfOk r S → ((a : A) → P a → Q a → S a → T a) → IfOk r T
three_ok (Ok a) P Q S T p q s f = f a p q s
three_ok (Err e) P Q S T p q s f = tt

pub two_ok : {A E : Type 0} (r : Result A E) (P Q T : A → Type 0) → IfOk r P → IfOk r Q → ((a : A) → P a → Q a → T a) → IfOk r T
two_ok (Ok a) P Q T p q f = f a p q
two_ok (Err e) P Q T p q f = tt

pub on_err : {A E : Type 0} (r : Result A E) (P Q : Type 0) → OnErr r P → (P → Q) → OnErr r Q
on_err (Ok a) P Q h f = tt
on_err (Err e) P Q h f = f h
