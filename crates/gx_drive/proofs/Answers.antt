-- What holds where a call answers Ok, or gives something.
use Rattle.std.specs.Prelude.{IfNone, IfOk, IfSome, OnOk}
use Rattle.std.specs.declared.option.Option.{Option}
use Rattle.std.specs.declared.result.Result.{Result}
use Rattle.std.proofs.Common.{Ok, Err, None, Some}

pub on_ok : {A E : Type 0} (r : Result A E) (P Q : Type 0) → OnOk r P → (P → Q) → OnOk r Q
on_ok (Ok a) P Q h f = f h
on_ok (Err e) P Q h f = tt

pub both_ok : {A E : Type 0} (r : Result A E) (P Q : Type 0) → OnOk r P → OnOk r Q → OnOk r (P × Q)
both_ok (Ok a) P Q h f = (h, f)
both_ok (Err e) P Q h f = tt

pub always_ok : {A E : Type 0} (r : Result A E) (P : Type 0) → P → OnOk r P
always_ok (Ok a) P p = p
always_ok (Err e) P p = tt

pub if_ok : {A E : Type 0} (r : Result A E) (P Q : A → Type 0) → IfOk r P → ((a : A) → P a → Q a) → IfOk r Q
if_ok (Ok a) P Q h f = f a h
if_ok (Err e) P Q h f = tt

pub both_if_ok : {A E : Type 0} (r : Result A E) (P Q R : A → Type 0) → IfOk r P → IfOk r Q → ((a : A) → P a → Q a → R a) → IfOk r R
both_if_ok (Ok a) P Q R h k f = f a h k
both_if_ok (Err e) P Q R h k f = tt

pub if_some : {A : Type 0} (o : Option A) (P Q : A → Type 0) → IfSome o P → ((a : A) → P a → Q a) → IfSome o Q
if_some None P Q h f = tt
if_some (Some a) P Q h f = f a h

pub if_none : {A : Type 0} (o : Option A) (P Q : Type 0) → IfNone o P → (P → Q) → IfNone o Q
if_none None P Q h f = f h
if_none (Some a) P Q h f = tt
