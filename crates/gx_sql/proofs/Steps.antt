-- What a line leaves to those behind it.
use Rattle.std.proofs.Common.{◌≡◌, ℕ, ◌+◌, ◌≤◌, nat_lt, Bool, true, false, List, ◌∷◌, Result, Ok, Err, refl, sym, ap, subst, arith}
use Rattle.gx_script.specs.declared.Script.{Script}
use Rattle.gx_sql.specs.declared.refusal.Limit.TheVariants as limit
use Rattle.gx_sql.specs.declared.refusal.LineFault.{LineFault}
use Rattle.gx_sql.specs.declared.refusal.Refusal.{Refusal}
use Rattle.gx_sql.specs.declared.refusal.Refusal.TheVariants as refusal
use Rattle.gx_sql.specs.Lines.{is_skipped}
use Rattle.gx_sql.specs.Progress.{Progress}
use Rattle.gx_sql.specs.Script.{Where, LineSays, Goes, ReadsOn, refused}
use Rattle.gx_sql.specs.Answering.{Answers, Steps}

within : (n : ℕ) → n ≤ 100000 → nat_lt 100000 n ≡ false
within n l = grind arith

beyond : (n : ℕ) → 100001 ≤ n → nat_lt 100000 n ≡ true
beyond n l = grind arith

where_true : (b : Bool) (P Q : Type 0) → b ≡ true → P → Where b P Q
where_true b P Q e p = subst (λ (b : Bool). Where b P Q) (sym e) p

where_false : (b : Bool) (P Q : Type 0) → b ≡ false → Q → Where b P Q
where_false b P Q e q = subst (λ (b : Bool). Where b P Q) (sym e) q

-- a line within the limit, by what it says
line_goes : (n : ℕ) (p : Progress) (line : List ℕ) (ls : List (List ℕ)) (r : Result Script Refusal) → n ≤ 100000
    → Where (is_skipped line) (ReadsOn (n + 1) p ls r) ((q : Result Progress LineFault) × LineSays p line q × Goes n (λ (p : Progress). ReadsOn (n + 1) p ls r) q r) → ReadsOn n p (line ∷ ls) r
line_goes n p line ls r l h = where_false (nat_lt 100000 n) (r ≡ Err (refusal.TooMany n limit.Lines)) (Where (is_skipped line) (ReadsOn (n + 1) p ls r) ((q : Result Progress LineFault) × LineSays p line q × Goes n (λ (p : Progress). ReadsOn (n + 1) p ls r) q r)) (within n l) h

-- behind a line that was read
pub step_read : (n : ℕ) (p q : Progress) (line : List ℕ) (ls : List (List ℕ)) (r : Result Script Refusal) → n ≤ 100000 → Steps n line p (Ok tt) q → ReadsOn (n + 1) q ls r → ReadsOn n p (line ∷ ls) r
step_read n p q line ls r l s h = line_goes n p line ls r l (pick (is_skipped line) s)
  where
    pick : (b : Bool) → Where b (q ≡ p) (LineSays p line (Ok q)) → Where b (ReadsOn (n + 1) p ls r) ((q : Result Progress LineFault) × LineSays p line q × Goes n (λ (p : Progress). ReadsOn (n + 1) p ls r) q r)
    pick true e = subst (λ (p : Progress). ReadsOn (n + 1) p ls r) e h
    pick false e = (Ok q, e, h)

-- a line that was refused
refused_line : (n : ℕ) (p : Progress) (line : List ℕ) (ls : List (List ℕ)) (e : Refusal) → n ≤ 100000 → Where (is_skipped line) ⊥ ((f : LineFault) × LineSays p line (Err f) × (e ≡ refused n f)) → ReadsOn n p (line ∷ ls) (Err e)
refused_line n p line ls e l s = line_goes n p line ls (Err e) l (pick (is_skipped line) s)
  where
    pick : (b : Bool) → Where b ⊥ ((f : LineFault) × LineSays p line (Err f) × (e ≡ refused n f)) → Where b (ReadsOn (n + 1) p ls (Err e)) ((q : Result Progress LineFault) × LineSays p line q × Goes n (λ (p : Progress). ReadsOn (n + 1) p ls (Err e)) q (Err e))
    pick true h = absurd h
    pick false (f, h, k) = (Err f, h, ap Err k)

-- an answer that may be given, or want of memory
pub answers_as : (P Q : Result Script Refusal → Type 0) (r : Result Script Refusal) → ((r : Result Script Refusal) → P r → Q r) → Answers P r → Answers Q r
answers_as P Q (Ok s) f h = f (Ok s) h
answers_as P Q (Err (refusal.Syntax n)) f h = f (Err (refusal.Syntax n)) h
answers_as P Q (Err (refusal.UnknownTable n)) f h = f (Err (refusal.UnknownTable n)) h
answers_as P Q (Err (refusal.UnknownColumn n)) f h = f (Err (refusal.UnknownColumn n)) h
answers_as P Q (Err (refusal.TableExists n)) f h = f (Err (refusal.TableExists n)) h
answers_as P Q (Err (refusal.TypeMismatch n)) f h = f (Err (refusal.TypeMismatch n)) h
answers_as P Q (Err (refusal.KeyUpdate n)) f h = f (Err (refusal.KeyUpdate n)) h
answers_as P Q (Err (refusal.TooMany n l)) f h = f (Err (refusal.TooMany n l)) h
answers_as P Q (Err (refusal.NotUtf8 n)) f h = f (Err (refusal.NotUtf8 n)) h
answers_as P Q (Err refusal.OutOfMemory) f h = tt

pub step_refused : (n : ℕ) (p q : Progress) (line : List ℕ) (ls : List (List ℕ)) (e : Refusal) → n ≤ 100000 → Steps n line p (Err e) q → Answers (ReadsOn n p (line ∷ ls)) (Err e)
step_refused n p q line ls (refusal.Syntax m) l h = refused_line n p line ls (refusal.Syntax m) l h
step_refused n p q line ls (refusal.UnknownTable m) l h = refused_line n p line ls (refusal.UnknownTable m) l h
step_refused n p q line ls (refusal.UnknownColumn m) l h = refused_line n p line ls (refusal.UnknownColumn m) l h
step_refused n p q line ls (refusal.TableExists m) l h = refused_line n p line ls (refusal.TableExists m) l h
step_refused n p q line ls (refusal.TypeMismatch m) l h = refused_line n p line ls (refusal.TypeMismatch m) l h
step_refused n p q line ls (refusal.KeyUpdate m) l h = refused_line n p line ls (refusal.KeyUpdate m) l h
step_refused n p q line ls (refusal.TooMany m k) l h = refused_line n p line ls (refusal.TooMany m k) l h
step_refused n p q line ls (refusal.NotUtf8 m) l h = refused_line n p line ls (refusal.NotUtf8 m) l h
step_refused n p q line ls refusal.OutOfMemory l h = tt

-- a line behind the last that there may be
pub too_many : (p : Progress) (line : List ℕ) (ls : List (List ℕ)) → ReadsOn 100001 p (line ∷ ls) (Err (refusal.TooMany 100001 limit.Lines))
too_many p line ls = refl
