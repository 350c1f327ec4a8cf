-- What the readers of whole lines say.
use Rattle.std.proofs.Common.{◌≡◌, ℕ, List, [], ◌∷◌, ◌++◌, length, refl, sym, ◌∙◌, ap, subst, append_assoc, append-nil, Result, Ok, Err}
use Rattle.gx_lex.specs.declared.token.Token.{Token}
use Rattle.gx_grammar.specs.declared.fault.Limits.{Limits}
use Rattle.gx_grammar.specs.declared.fault.LineLimit.{LineLimit}
use Rattle.gx_grammar.specs.declared.fault.Fault.{Fault}
use Rattle.gx_grammar.specs.declared.fault.Fault.TheVariants.{Syntax, TooMany}
use Rattle.gx_grammar.specs.declared.fault.ReadError.{ReadError}
use Rattle.gx_grammar.specs.declared.fault.ReadError.TheVariants as errors
use Rattle.gx_grammar.specs.Limiting.{Keeps}
use Rattle.gx_grammar.specs.Rules.{Reading, Same, CanGo, CannotGo, Verdict, Stops, whole_of, whole_at}
use Rattle.gx_grammar.specs.Code.{Says, Judged, Placed, Leaves, rest_of}
use Rattle.gx_grammar.proofs.Good.{Good, Tells, Stays}
use Rattle.gx_grammar.proofs.Bounds.{join, join_left, join_right, join_keeps}

module _ {A : Type 0} (g : Limits → A → List Token → Type 0) (ends : List Token → Type 0) (r : Limits → List Token → Reading A) (R : Good g ends r) (last : ends []) where
  clash : (a : Reading A) (x : A × List Token) (y : Fault × List Token) → a ≡ Ok x → a ≡ Err y → ⊥
  clash a x y p q = cc

  two_ends : (a : Reading A) (x y : A) (z : Token) (zs : List Token) → a ≡ Ok (x, []) → a ≡ Ok (y, z ∷ zs) → ⊥
  two_ends a x y z zs p q = let e = ap rest_of (sym p ∙ q) in cc

  -- what is read of tokens that the grammar has, under these limits or higher ones
  has : (d e : Limits) (s : A) (us : List Token) → g e s us → r (join d e) us ≡ Ok (s, [])
  has d e s us q = ap (r (join d e)) (sym (append-nil us)) ∙ R.complete (join d e) s us [] (R.more e (join d e) s us (join_right d e) q) last

  same_tokens : (us ys : List Token) (y : Token) (e : Limits) (s : A) → g e s ((us ++ y ∷ []) ++ ys) → g e s (us ++ y ∷ ys)
  same_tokens us ys y e s q = subst (λ (t : List Token). g e s t) (append_assoc us (y ∷ []) ys) q

  bad_end : (d : Limits) (us : List Token) → ((others : List Token) → Same [] others → r d (us ++ others) ≡ Err (Syntax, others)) → CannotGo g us []
  bad_end d us f e s q =
      let t = subst (λ (a : Reading A). Stays d (join d e) a (r (join d e) us)) (ap (r d) (sym (append-nil us)) ∙ f [] tt) (R.stays d (join d e) us (join_left d e)) in
      clash (r (join d e) us) (s, []) (Syntax, []) (has d e s us q) t

  bad_next : (d : Limits) (us : List Token) (y : Token) (ys : List Token) → ((others : List Token) → Same (y ∷ ys) others → r d (us ++ others) ≡ Err (Syntax, others)) → CannotGo g us (y ∷ ys)
  bad_next d us y ys f e (more, s, q) =
      let t = subst (λ (a : Reading A). Stays d (join d e) a (r (join d e) (us ++ y ∷ more))) (f (y ∷ more) refl) (R.stays d (join d e) (us ++ y ∷ more) (join_left d e)) in
      clash (r (join d e) (us ++ y ∷ more)) (s, []) (Syntax, y ∷ more) (has d e s (us ++ y ∷ more) (same_tokens us more y e s q)) t

  over : (d : Limits) (us : List Token) (y : Token) (ys : List Token) (a : A) → ((others : List Token) → Same (y ∷ ys) others → r d (us ++ others) ≡ Ok (a, others)) → CannotGo g us (y ∷ ys)
  over d us y ys a f e (more, s, q) =
      let t = subst (λ (a : Reading A). Stays d (join d e) a (r (join d e) (us ++ y ∷ more))) (f (y ∷ more) refl) (R.stays d (join d e) (us ++ y ∷ more) (join_left d e)) in
      two_ends (r (join d e) (us ++ y ∷ more)) s a y more (has d e s (us ++ y ∷ more) (same_tokens us more y e s q)) t

  passes_next : (d : Limits) (l : LineLimit) (us : List Token) (y : Token) (ys : List Token) → ((others : List Token) → Same (y ∷ ys) others → r d (us ++ others) ≡ Err (TooMany l, others)) → (e : Limits) → Keeps l d e → CanGo (g e) (us ++ y ∷ []) → ⊥
  passes_next d l us y ys f e k (more, s, q) =
      let t = subst (λ (a : Reading A). Stays d (join d e) a (r (join d e) (us ++ y ∷ more))) (f (y ∷ more) refl) (R.stays d (join d e) (us ++ y ∷ more) (join_left d e)) in
      clash (r (join d e) (us ++ y ∷ more)) (s, []) (TooMany l, y ∷ more) (has d e s (us ++ y ∷ more) (same_tokens us more y e s q)) (t (join_keeps l d e k))

  told : (d : Limits) (ts : List Token) (a : Reading A) → Tells g d (r d) ts a → Verdict g d ts (whole_of a)
  told d ts (Ok (s, [])) (us, e, q, f) = subst (λ (t : List Token). g d s t) (sym (e ∙ append-nil us)) q
  told d ts (Ok (s, y ∷ ys)) (us, e, q, f) = (us, y ∷ ys, e, ([], s, subst (λ (t : List Token). g d s t) (sym (append-nil us)) q), over d us y ys s f)
  told d ts (Err (Syntax, [])) (us, e, q, k, f) = (us, [], e, q, bad_end d us f)
  told d ts (Err (Syntax, y ∷ ys)) (us, e, q, k, f) = (us, y ∷ ys, e, q, bad_next d us y ys f)
  told d ts (Err (TooMany l, [])) (us, e, q, k, f) = absurd k
  told d ts (Err (TooMany l, y ∷ ys)) (us, e, q, (m, b, p, c), f) = (us, y, ys, e, q, passes_next d l us y ys f, (m, p, c))

  -- what the reader of a whole line says
  pub verdict : (d : Limits) (ts : List Token) → Verdict g d ts (whole_at (r d) ts)
  verdict d ts = told d ts (r d ts) (R.tells d ts)

  -- each line of the grammar is read
  pub whole_complete : (d : Limits) (s : A) (ts : List Token) → g d s ts → whole_at (r d) ts ≡ Ok s
  whole_complete d s ts q = ap whole_of (ap (r d) (sym (append-nil ts)) ∙ R.complete d s ts [] q last)

  -- the same of the code's answers
  pub judged : (d : Limits) (ts : List Token) (a : Result A ReadError) → Says a (whole_at (r d) ts) → Judged g d ts a
  judged d ts (Ok x) h = subst (λ (v : Result A Fault). Verdict g d ts v) h (verdict d ts)
  judged d ts (Err errors.OutOfMemory) h = tt
  judged d ts (Err (errors.Fault f left)) h = subst (λ (v : Result A Fault). Verdict g d ts v) h (verdict d ts)

  pub only : (d : Limits) (ts : List Token) (a : Result A ReadError) (x : A) → g d x ts → Says a (whole_at (r d) ts) → Says a (Ok x)
  only d ts a x q h = subst (λ (v : Result A Fault). Says a v) (whole_complete d x ts q) h

  fault_same : (k f : Fault) (a : Result A Fault) → a ≡ Err k → a ≡ Err f → k ≡ f
  fault_same k f a v w = cc

  -- where a fault is
  stopped : (d : Limits) (ts : List Token) (a : Reading A) (f : Fault) (left : ℕ) → Tells g d (r d) ts a → whole_of a ≡ Err f → left ≡ length (rest_of a) → Placed {X = A} g d ts (Err (errors.Fault f left))
  stopped d ts (Ok (s, [])) f left t w h = absurd cc
  stopped d ts (Ok (s, y ∷ ys)) f left (us, e, q, k) w h =
      subst (λ (f : Fault). Placed {X = A} g d ts (Err (errors.Fault f left))) (fault_same Syntax f (Err Syntax) refl w) (us, y ∷ ys, e, h, (([], s, subst (λ (t : List Token). g d s t) (sym (append-nil us)) q), over d us y ys s k))
  stopped d ts (Err (Syntax, [])) f left (us, e, q, k, o) w h =
      subst (λ (f : Fault). Placed {X = A} g d ts (Err (errors.Fault f left))) (fault_same Syntax f (Err Syntax) refl w) (us, [], e, h, (q, bad_end d us o))
  stopped d ts (Err (Syntax, y ∷ ys)) f left (us, e, q, k, o) w h =
      subst (λ (f : Fault). Placed {X = A} g d ts (Err (errors.Fault f left))) (fault_same Syntax f (Err Syntax) refl w) (us, y ∷ ys, e, h, (q, bad_next d us y ys o))
  stopped d ts (Err (TooMany m, [])) f left (us, e, q, k, o) w h = absurd k
  stopped d ts (Err (TooMany m, y ∷ ys)) f left (us, e, q, (n, b, p, c), o) w h =
      subst (λ (f : Fault). Placed {X = A} g d ts (Err (errors.Fault f left))) (fault_same (TooMany m) f (Err (TooMany m)) refl w) (us, y ∷ ys, e, h, (q, passes_next d m us y ys o, (n, p, c)))

  -- the same of the code's answers
  pub placed : (d : Limits) (ts : List Token) (a : Result A ReadError) → Says a (whole_at (r d) ts) → Leaves a (r d ts) → Placed g d ts a
  placed d ts (Ok x) h l = tt
  placed d ts (Err errors.OutOfMemory) h l = tt
  placed d ts (Err (errors.Fault f left)) h l = stopped d ts (r d ts) f left (R.tells d ts) h l
