-- What is said of a reader and its rule.
use Rattle.std.proofs.Common.{◌≡◌, Bool, true, false, if◌then◌else◌, List, [], ◌∷◌, ◌++◌, refl, sym, ap, subst, Ok, Err}
use Rattle.gx_lex.specs.declared.token.Token.{Token}
use Rattle.gx_grammar.specs.declared.fault.Limits.{Limits}
use Rattle.gx_grammar.specs.declared.fault.LineLimit.{LineLimit}
use Rattle.gx_grammar.specs.declared.fault.Fault.{Fault}
use Rattle.gx_grammar.specs.declared.fault.Fault.TheVariants.{Syntax, TooMany}
use Rattle.gx_grammar.specs.Limiting.{Below, Keeps, KeepsBefore}
use Rattle.gx_grammar.specs.Rules.{Pick, Is, Isnt, Passes, Reading, ◌>>=◌, Same, CanGo}

module _ {X : Type 0} where
  -- what passes a limit goes on where that and those behind it are raised
  abbrev pub Raised : (Limits → X → List Token → Type 0) → Limits → Fault → List Token → List Token → Type 0
  Raised g d Syntax us rest = Unit {0}
  Raised g d (TooMany l) us [] = ⊥
  Raised g d (TooMany l) us (y ∷ ys) = (e : Limits) × Below d e × KeepsBefore l d e × CanGo (g e) (us ++ y ∷ [])

  -- What an answer says. Where it is a value, that is written by the tokens that it took.
  -- Where it is a fault, the tokens before the bad one begin something of the rule.
  -- Either way the reader looked at the next token, and no further.
  abbrev pub Tells : (Limits → X → List Token → Type 0) → Limits → (List Token → Reading X) → List Token → Reading X → Type 0
  Tells g d r ts (Ok a) = (used : List Token) × (ts ≡ used ++ a.1) × g d a.0 used × ((others : List Token) → Same a.1 others → r (used ++ others) ≡ Ok (a.0, others))
  Tells g d r ts (Err a) = (used : List Token) × (ts ≡ used ++ a.1) × CanGo (g d) used × Raised g d a.0 used a.1 × ((others : List Token) → Same a.1 others → r (used ++ others) ≡ Err (a.0, others))

  -- what is read, and Syntax, stay under higher limits; so does what passes a limit that stays
  abbrev pub Stays : Limits → Limits → Reading X → Reading X → Type 0
  Stays d e (Ok a) b = b ≡ Ok a
  Stays d e (Err (Syntax, rest)) b = b ≡ Err (Syntax, rest)
  Stays d e (Err (TooMany l, rest)) b = Keeps l d e → b ≡ Err (TooMany l, rest)

  pub record Good (g : Limits → X → List Token → Type 0) (ends : List Token → Type 0) (r : Limits → List Token → Reading X) : Type 0 where
    pub sample : (d : Limits) → CanGo (g d) []
    pub more : (d e : Limits) (x : X) (us : List Token) → Below d e → g d x us → g e x us
    pub tells : (d : Limits) (ts : List Token) → Tells g d (r d) ts (r d ts)
    pub complete : (d : Limits) (x : X) (us rest : List Token) → g d x us → ends rest → r d (us ++ rest) ≡ Ok (x, rest)
    pub stays : (d e : Limits) (ts : List Token) → Below d e → Stays d e (r d ts) (r e ts)

  -- what is said of a class of tokens
  pub record Class (f : Limits → Token → Pick X) : Type 0 where
    pub sample : (d : Limits) → (y : Token) × (x : X) × (f d y ≡ Is x)
    pub more : (d e : Limits) (y : Token) (x : X) → Below d e → f d y ≡ Is x → f e y ≡ Is x
    pub isnt : (d e : Limits) (y : Token) → Below d e → f d y ≡ Isnt → f e y ≡ Isnt
    pub passes : (d e : Limits) (y : Token) (l : LineLimit) → Below d e → Keeps l d e → f d y ≡ Passes l → f e y ≡ Passes l
    pub raised : (d : Limits) (y : Token) (l : LineLimit) → f d y ≡ Passes l → (e : Limits) × Below d e × KeepsBefore l d e × ((x : X) × (f e y ≡ Is x))

  pub self_stays : (d e : Limits) (a : Reading X) → Stays d e a a
  self_stays d e (Ok a) = refl
  self_stays d e (Err (Syntax, rest)) = refl
  self_stays d e (Err (TooMany l, rest)) = λ k. refl

  pub if_stays : (d e : Limits) (b : Bool) (x y z w : Reading X) → Stays d e x y → Stays d e z w → Stays d e (if b then x else z) (if b then y else w)
  if_stays d e true x y z w p q = p
  if_stays d e false x y z w p q = q

-- any token may follow
abbrev pub Always : List Token → Type 0
Always ts = Unit {0}

-- what goes on by one rule goes on by another
pub raised_as : {A B : Type 0} (g : Limits → A → List Token → Type 0) (h : Limits → B → List Token → Type 0) (d : Limits) (k : Fault) (us vs rest : List Token) → ((e : Limits) (ws : List Token) → Below d e → CanGo (g e) (us ++ ws) → CanGo (h e) (vs ++ ws)) → Raised g d k us rest → Raised h d k vs rest
raised_as g h d Syntax us vs rest f w = tt
raised_as g h d (TooMany l) us vs [] f w = w
raised_as g h d (TooMany l) us vs (y ∷ ys) f (e, b, k, c) = (e, b, k, f e (y ∷ []) b c)

pub bind_stays : {A B : Type 0} (d e : Limits) (f g : A × List Token → Reading B) (a b : Reading A) → ((x : A × List Token) → Stays d e (f x) (g x)) → Stays d e a b → Stays d e (a >>= f) (b >>= g)
bind_stays {A = A} {B = B} d e f g (Ok x) b h q = subst (λ (z : Reading A). Stays d e (f x) (z >>= g)) (sym q) (h x)
bind_stays {A = A} {B = B} d e f g (Err (Syntax, rest)) b h q = ap (λ (z : Reading A). z >>= g) q
bind_stays {A = A} {B = B} d e f g (Err (TooMany l, rest)) b h q = λ k. ap (λ (z : Reading A). z >>= g) (q k)

pub same_through : (mid used rest others : List Token) → mid ≡ used ++ rest → Same rest others → Same mid (used ++ others)
same_through mid [] rest others e s = subst (λ (m : List Token). Same m others) (sym e) s
same_through mid (y ∷ used) rest others e s = subst (λ (m : List Token). Same m (y ∷ (used ++ others))) (sym e) refl

-- the first token, in or out of a class
abbrev pub Heads : (Token → Bool) → List Token → Type 0
Heads begins [] = ⊥
Heads begins (y ∷ ys) = begins y ≡ true

abbrev pub NotHeads : (Token → Bool) → List Token → Type 0
NotHeads begins [] = Unit {0}
NotHeads begins (y ∷ ys) = begins y ≡ false
