-- The readers of one token, of one part behind another, and of a part that may stand.
use Rattle.std.proofs.Common.{◌≡◌, Bool, true, false, if◌then◌else◌, List, [], ◌∷◌, ◌++◌, refl, sym, ◌∙◌, ap, subst, append_assoc, Ok, Err, Option, Some, None}
use Rattle.gx_lex.specs.declared.token.Token.{Token}
use Rattle.gx_grammar.specs.declared.fault.Limits.{Limits}
use Rattle.gx_grammar.specs.declared.fault.LineLimit.{LineLimit}
use Rattle.gx_grammar.specs.declared.fault.Fault.{Fault}
use Rattle.gx_grammar.specs.declared.fault.Fault.TheVariants.{Syntax, TooMany}
use Rattle.gx_grammar.specs.Limiting.{Below}
use Rattle.gx_grammar.specs.Rules.{Pick, Is, Isnt, Passes, one, both, maybe, made, behind, marked, Reading, ◌>>=◌, one_or, one_at, both_at, maybe_at, made_at, behind_at, Same, CanGo}
use Rattle.gx_grammar.proofs.Good.{Good, Class, Tells, Raised, Stays, if_stays, Always, raised_as, bind_stays, same_through, Heads, NotHeads}

-- ONE TOKEN
module _ {X : Type 0} (f : Limits → Token → Pick X) (C : Class f) where
  one_end : (d : Limits) (others : List Token) → Same [] others → one_at (f d) others ≡ Err (Syntax, others)
  one_end d [] s = refl
  one_end d (y ∷ ys) s = absurd s

  one_bad : (d : Limits) (k : Fault) (p : Pick X) (y : Token) (ys others : List Token) → f d y ≡ p → ((z : Token) (zs : List Token) → one_or p z zs ≡ Err (k, z ∷ zs)) → Same (y ∷ ys) others → one_at (f d) others ≡ Err (k, others)
  one_bad d k p y ys [] e g s = absurd s
  one_bad d k p y ys (z ∷ zs) e g s = ap (λ (o : Pick X). one_or o z zs) (ap (f d) (sym s) ∙ e) ∙ g z zs

  one_goes : (d : Limits) → CanGo (one (f d)) []
  one_goes d = let (y, x, e) = C.sample d in (y ∷ [], x, (y, e, refl))

  one_tells : (d : Limits) (y : Token) (ys : List Token) (o : Pick X) → f d y ≡ o → Tells (λ d. one (f d)) d (one_at (f d)) (y ∷ ys) (one_or o y ys)
  one_tells d y ys (Is x) e = (y ∷ [], refl, (y, e, refl), λ others s. ap (λ (o : Pick X). one_or o y others) e)
  one_tells d y ys Isnt e = ([], refl, one_goes d, tt, λ others s. one_bad d Syntax Isnt y ys others e (λ z zs. refl) s)
  one_tells d y ys (Passes l) e =
      let (h, b, k, w) = C.raised d y l e in
      let (x, q) = w in
      ([], refl, one_goes d, (h, b, k, ([], x, (y, q, refl))), λ others s. one_bad d (TooMany l) (Passes l) y ys others e (λ z zs. refl) s)

  one_told : (d : Limits) (ts : List Token) → Tells (λ d. one (f d)) d (one_at (f d)) ts (one_at (f d) ts)
  one_told d [] = ([], refl, one_goes d, tt, λ others s. one_end d others s)
  one_told d (y ∷ ys) = one_tells d y ys (f d y) refl

  or_stays : (d e : Limits) (y : Token) (ys : List Token) (o : Pick X) → Below d e → f d y ≡ o → Stays d e (one_or o y ys) (one_or (f e y) y ys)
  or_stays d e y ys (Is x) l q = ap (λ (o : Pick X). one_or o y ys) (C.more d e y x l q)
  or_stays d e y ys Isnt l q = ap (λ (o : Pick X). one_or o y ys) (C.isnt d e y l q)
  or_stays d e y ys (Passes n) l q = λ k. ap (λ (o : Pick X). one_or o y ys) (C.passes d e y n l k q)

  one_stays : (d e : Limits) (ts : List Token) → Below d e → Stays d e (one_at (f d) ts) (one_at (f e) ts)
  one_stays d e [] l = refl
  one_stays d e (y ∷ ys) l = or_stays d e y ys (f d y) l refl

  pub one_good : Good (λ d. one (f d)) Always (λ d. one_at (f d))
  one_good = record {
    sample = one_goes;
    more = λ d e x us l (y, q, z). (y, C.more d e y x l q, z);
    tells = one_told;
    complete = λ d x us rest (y, q, z) n. ap (λ (ts : List Token). one_at (f d) (ts ++ rest)) z ∙ ap (λ (o : Pick X). one_or o y rest) q;
    stays = one_stays;
  }

-- a class without limits
pub plain_class : {X : Type 0} (f : Token → Pick X) (y : Token) (x : X) → f y ≡ Is x → ((y : Token) (l : LineLimit) → f y ≡ Passes l → ⊥) → Class (λ d. f)
plain_class f y x e n = record {
  sample = λ d. (y, x, e);
  more = λ d e y x l q. q;
  isnt = λ d e y l q. q;
  passes = λ d e y l b k q. q;
  raised = λ d y l q. absurd (n y l q);
}

-- ONE BEHIND ANOTHER
module _ {A B : Type 0} (g : Limits → A → List Token → Type 0) (h : Limits → B → List Token → Type 0) (starts ends : List Token → Type 0) (r : Limits → List Token → Reading A) (s : Limits → List Token → Reading B) (R : Good g starts r) (S : Good h ends s) where
  go_pair : (d : Limits) (a : A) (us vs : List Token) → g d a us → CanGo (h d) vs → CanGo (both (g d) (h d)) (us ++ vs)
  go_pair d a us vs q (more, b, w) = (more, (a, b), (us, vs ++ more, q, w, append_assoc us vs more))

  go_first : (d : Limits) (us : List Token) → CanGo (g d) us → CanGo (both (g d) (h d)) us
  go_first d us (more, a, q) = let (vs, b, w) = S.sample d in (more ++ vs, (a, b), (us ++ more, vs, q, w, sym (append_assoc us more vs)))

  raised_pair : (d : Limits) (a : A) (us vs rest : List Token) (k : Fault) → g d a us → Raised h d k vs rest → Raised (λ d. both (g d) (h d)) d k (us ++ vs) rest
  raised_pair d a us vs rest k q w = raised_as h (λ d. both (g d) (h d)) d k vs (us ++ vs) rest (λ e ws l c. subst (λ (t : List Token). CanGo (both (g e) (h e)) t) (sym (append_assoc us vs ws)) (go_pair e a us (vs ++ ws) (R.more d e a us l q) c)) w

  raised_first : (d : Limits) (us rest : List Token) (k : Fault) → Raised g d k us rest → Raised (λ d. both (g d) (h d)) d k us rest
  raised_first d us rest k w = raised_as g (λ d. both (g d) (h d)) d k us us rest (λ e ws l c. go_first e (us ++ ws) c) w

  second : (d : Limits) (ts mid us : List Token) (a : A) (b : Reading B) → ts ≡ us ++ mid → g d a us → ((others : List Token) → Same mid others → r d (us ++ others) ≡ Ok (a, others)) → Tells h d (s d) mid b
      → Tells (λ d. both (g d) (h d)) d (both_at (r d) (s d)) ts (b >>= λ b. Ok ((a, b.0), b.1))
  second d ts mid us a (Ok (b, rest)) e q f (vs, e2, w, f2) = (
    us ++ vs,
    e ∙ ap (λ (t : List Token). us ++ t) e2 ∙ sym (append_assoc us vs rest),
    (us, vs, q, w, refl),
    λ others z.
        ap (λ (t : List Token). both_at (r d) (s d) t) (append_assoc us vs others)
        ∙ ap (λ (x : Reading A). x >>= λ a. s d a.1 >>= λ b. Ok ((a.0, b.0), b.1)) (f (vs ++ others) (same_through mid vs rest others e2 z))
        ∙ ap (λ (x : Reading B). x >>= λ b. Ok ((a, b.0), b.1)) (f2 others z),
  )
  second d ts mid us a (Err (b, rest)) e q f (vs, e2, w, k, f2) = (
    us ++ vs,
    e ∙ ap (λ (t : List Token). us ++ t) e2 ∙ sym (append_assoc us vs rest),
    go_pair d a us vs q w,
    raised_pair d a us vs rest b q k,
    λ others z.
        ap (λ (t : List Token). both_at (r d) (s d) t) (append_assoc us vs others)
        ∙ ap (λ (x : Reading A). x >>= λ a. s d a.1 >>= λ b. Ok ((a.0, b.0), b.1)) (f (vs ++ others) (same_through mid vs rest others e2 z))
        ∙ ap (λ (x : Reading B). x >>= λ b. Ok ((a, b.0), b.1)) (f2 others z),
  )

  first : (d : Limits) (ts : List Token) (a : Reading A) → Tells g d (r d) ts a → Tells (λ d. both (g d) (h d)) d (both_at (r d) (s d)) ts (a >>= λ a. s d a.1 >>= λ b. Ok ((a.0, b.0), b.1))
  first d ts (Ok (a, mid)) (us, e, q, f) = second d ts mid us a (s d mid) e q f (S.tells d mid)
  first d ts (Err (a, rest)) (us, e, q, k, f) = (us, e, go_first d us q, raised_first d us rest a k, λ others z. ap (λ (x : Reading A). x >>= λ a. s d a.1 >>= λ b. Ok ((a.0, b.0), b.1)) (f others z))

  both_stays : (d e : Limits) (ts : List Token) → Below d e → Stays {X = A × B} d e (both_at (r d) (s d) ts) (both_at (r e) (s e) ts)
  both_stays d e ts l = bind_stays d e (λ a. s d a.1 >>= λ b. Ok ((a.0, b.0), b.1)) (λ a. s e a.1 >>= λ b. Ok ((a.0, b.0), b.1)) (r d ts) (r e ts)
      (λ a. bind_stays d e (λ b. Ok ((a.0, b.0), b.1)) (λ b. Ok ((a.0, b.0), b.1)) (s d a.1) (s e a.1) (λ b. refl) (S.stays d e a.1 l)) (R.stays d e ts l)

  pub both_good : ((d : Limits) (b : B) (us rest : List Token) → h d b us → ends rest → starts (us ++ rest)) → Good (λ d. both (g d) (h d)) ends (λ d. both_at (r d) (s d))
  both_good link = record {
    sample = λ d. go_first d [] (R.sample d);
    more = λ d e x us l (vs, ws, q, w, z). (vs, ws, R.more d e x.0 vs l q, S.more d e x.1 ws l w, z);
    tells = λ d ts. first d ts (r d ts) (R.tells d ts);
    complete = λ d x us rest (vs, ws, q, w, z) n.
        ap (λ (t : List Token). both_at (r d) (s d) t) (ap (λ (t : List Token). t ++ rest) z ∙ append_assoc vs ws rest)
        ∙ ap (λ (y : Reading A). y >>= λ a. s d a.1 >>= λ b. Ok ((a.0, b.0), b.1)) (R.complete d x.0 vs (ws ++ rest) q (link d x.1 ws rest w n))
        ∙ ap (λ (y : Reading B). y >>= λ b. Ok ((x.0, b.0), b.1)) (S.complete d x.1 ws rest w n);
    stays = both_stays;
  }

-- WHAT IS MADE OF ANOTHER
module _ {A B : Type 0} (f : A → B) (g : Limits → A → List Token → Type 0) (ends : List Token → Type 0) (r : Limits → List Token → Reading A) (R : Good g ends r) where
  go_made : (d : Limits) (us : List Token) → CanGo (g d) us → CanGo (made f (g d)) us
  go_made d us (more, a, q) = (more, f a, (a, refl, q))

  tells_made : (d : Limits) (ts : List Token) (a : Reading A) → Tells g d (r d) ts a → Tells (λ d. made f (g d)) d (made_at f (r d)) ts (a >>= λ a. Ok (f a.0, a.1))
  tells_made d ts (Ok (a, rest)) (us, e, q, l) = (us, e, (a, refl, q), λ others s. ap (λ (x : Reading A). x >>= λ a. Ok (f a.0, a.1)) (l others s))
  tells_made d ts (Err (a, rest)) (us, e, q, k, l) = (us, e, go_made d us q, raised_as g (λ d. made f (g d)) d a us us rest (λ e ws l c. go_made e (us ++ ws) c) k, λ others s. ap (λ (x : Reading A). x >>= λ a. Ok (f a.0, a.1)) (l others s))

  pub made_good : Good (λ d. made f (g d)) ends (λ d. made_at f (r d))
  made_good = record {
    sample = λ d. go_made d [] (R.sample d);
    more = λ d e x us l (a, z, q). (a, z, R.more d e a us l q);
    tells = λ d ts. tells_made d ts (r d ts) (R.tells d ts);
    complete = λ d x us rest (a, z, q) n. ap (λ (y : Reading A). y >>= λ a. Ok (f a.0, a.1)) (R.complete d a us rest q n) ∙ ap (λ (b : B). Ok (b, rest)) (sym z);
    stays = λ d e ts l. bind_stays d e (λ a. Ok (f a.0, a.1)) (λ a. Ok (f a.0, a.1)) (r d ts) (r e ts) (λ a. refl) (R.stays d e ts l);
  }

-- BEHIND A WORD
abbrev unit_is : Pick (Unit {0})
unit_is = Is tt

abbrev unit_isnt : Pick (Unit {0})
unit_isnt = Isnt

as_marked : (is : Token → Bool) (y : Token) (b : Bool) → is y ≡ b → marked is y ≡ (if b then unit_is else unit_isnt)
as_marked is y b e = ap (λ (b : Bool). if b then unit_is else unit_isnt) e

is_passes : (l : LineLimit) → unit_is ≡ Passes l → ⊥
is_passes l e = cc

isnt_passes : (l : LineLimit) → unit_isnt ≡ Passes l → ⊥
isnt_passes l e = cc

isnt_is : unit_isnt ≡ Is tt → ⊥
isnt_is e = cc

never_passes : (is : Token → Bool) (y : Token) (l : LineLimit) (b : Bool) → is y ≡ b → marked is y ≡ Passes l → ⊥
never_passes is y l true e q = is_passes l (sym (as_marked is y true e) ∙ q)
never_passes is y l false e q = isnt_passes l (sym (as_marked is y false e) ∙ q)

pub marked_class : (is : Token → Bool) (y : Token) → is y ≡ true → Class (λ d. marked is)
marked_class is y e = plain_class (marked is) y tt (as_marked is y true e) (λ y l q. never_passes is y l (is y) refl q)

module _ {A : Type 0} (is : Token → Bool) (y0 : Token) (e0 : is y0 ≡ true) (g : Limits → A → List Token → Type 0) (ends : List Token → Type 0) (r : Limits → List Token → Reading A) (R : Good g ends r) where
  pub behind_good : Good (λ d. behind is (g d)) ends (λ d. behind_at is (r d))
  behind_good = made_good (λ (p : Unit {0} × A). p.1) (λ d. both (one (marked is)) (g d)) ends (λ d. both_at (one_at (marked is)) (r d)) (both_good (λ d. one (marked is)) g Always ends (λ d. one_at (marked is)) r (one_good (λ d. marked is) (marked_class is y0 e0)) R (λ d b us rest h n. tt))

marked_is : (is : Token → Bool) (y : Token) (b : Bool) → is y ≡ b → marked is y ≡ unit_is → is y ≡ true
marked_is is y true e q = e
marked_is is y false e q = absurd (isnt_is (sym (as_marked is y false e) ∙ q))

-- what stands behind a word begins with it
pub behind_heads : {A : Type 0} (is : Token → Bool) (g : A → List Token → Type 0) (a : A) (us : List Token) → behind is g a us → Heads is us
behind_heads is g a us (p, z, (ys, vs, (y, e, u), w, q)) = subst (λ (t : List Token). Heads is t) (sym q) (subst (λ (t : List Token). Heads is (t ++ vs)) (sym u) (marked_is is y (is y) refl e))

-- WHAT MAY STAND
module _ {A : Type 0} (begins : Token → Bool) (g : Limits → A → List Token → Type 0) (starts : List Token → Type 0) (r : Limits → List Token → Reading A) (R : Good g starts r) (heads : (d : Limits) (a : A) (us : List Token) → g d a us → Heads begins us) where
  maybe_hit : (d : Limits) (t : List Token) (a : Reading A) → Heads begins t → r d t ≡ a → maybe_at begins (r d) t ≡ (a >>= λ a. Ok (Some a.0, a.1))
  maybe_hit d [] a q e = absurd q
  maybe_hit d (y ∷ ys) a q e = ap (λ (b : Bool). if b then (r d (y ∷ ys) >>= λ a. Ok (Some a.0, a.1)) else Ok (None, y ∷ ys)) q ∙ ap (λ (x : Reading A). x >>= λ a. Ok (Some a.0, a.1)) e

  maybe_miss : (d : Limits) (t : List Token) → NotHeads begins t → maybe_at begins (r d) t ≡ Ok (None, t)
  maybe_miss d [] q = refl
  maybe_miss d (y ∷ ys) q = ap (λ (b : Bool). if b then (r d (y ∷ ys) >>= λ a. Ok (Some a.0, a.1)) else Ok (None, y ∷ ys)) q

  same_heads : (ts others : List Token) → Same ts others → Heads begins ts → Heads begins others
  same_heads [] others s q = absurd q
  same_heads (y ∷ ys) [] s q = absurd s
  same_heads (y ∷ ys) (z ∷ zs) s q = ap begins (sym s) ∙ q

  pub same_not_heads : (ts others : List Token) → Same ts others → NotHeads begins ts → NotHeads begins others
  same_not_heads [] [] s q = tt
  same_not_heads [] (z ∷ zs) s q = absurd s
  same_not_heads (y ∷ ys) [] s q = absurd s
  same_not_heads (y ∷ ys) (z ∷ zs) s q = ap begins (sym s) ∙ q

  pub front : (us others : List Token) → Heads begins us → Heads begins (us ++ others)
  front [] others q = absurd q
  front (y ∷ ys) others q = q

  -- what was read begins so, and the same tokens at the front do whatever follows
  pub begun : (ts us rest others : List Token) → ts ≡ us ++ rest → Heads begins ts → Same rest others → Heads begins (us ++ others)
  begun ts [] rest others e q s = same_heads rest others s (subst (λ (t : List Token). Heads begins t) e q)
  begun ts (y ∷ us) rest others e q s = subst (λ (t : List Token). Heads begins t) e q

  go_some : (d : Limits) (us : List Token) → CanGo (g d) us → CanGo (maybe (g d)) us
  go_some d us (more, a, q) = (more, Some a, q)

  hit_tells : (d : Limits) (ts : List Token) (a : Reading A) → Heads begins ts → Tells g d (r d) ts a → Tells (λ d. maybe (g d)) d (maybe_at begins (r d)) ts (a >>= λ a. Ok (Some a.0, a.1))
  hit_tells d ts (Ok (a, rest)) q (us, e, w, f) = (us, e, w, λ others s. maybe_hit d (us ++ others) (Ok (a, others)) (begun ts us rest others e q s) (f others s))
  hit_tells d ts (Err (a, rest)) q (us, e, w, k, f) = (us, e, go_some d us w, raised_as g (λ d. maybe (g d)) d a us us rest (λ e ws l c. go_some e (us ++ ws) c) k, λ others s. maybe_hit d (us ++ others) (Err (a, others)) (begun ts us rest others e q s) (f others s))

  maybe_tells : (d : Limits) (y : Token) (ys : List Token) (b : Bool) → begins y ≡ b → Tells (λ d. maybe (g d)) d (maybe_at begins (r d)) (y ∷ ys) (if b then (r d (y ∷ ys) >>= λ a. Ok (Some a.0, a.1)) else Ok (None, y ∷ ys))
  maybe_tells d y ys true e = hit_tells d (y ∷ ys) (r d (y ∷ ys)) e (R.tells d (y ∷ ys))
  maybe_tells d y ys false e = ([], refl, refl, λ others s. maybe_miss d others (same_not_heads (y ∷ ys) others s e))

  maybe_told : (d : Limits) (ts : List Token) → Tells (λ d. maybe (g d)) d (maybe_at begins (r d)) ts (maybe_at begins (r d) ts)
  maybe_told d [] = ([], refl, refl, λ others s. maybe_miss d others (same_not_heads [] others s tt))
  maybe_told d (y ∷ ys) = maybe_tells d y ys (begins y) refl

  maybe_complete : (d : Limits) (x : Option A) (us rest : List Token) → maybe (g d) x us → starts rest × NotHeads begins rest → maybe_at begins (r d) (us ++ rest) ≡ Ok (x, rest)
  maybe_complete d None us rest q n = ap (λ (t : List Token). maybe_at begins (r d) (t ++ rest)) q ∙ maybe_miss d rest n.1
  maybe_complete d (Some a) us rest q n = maybe_hit d (us ++ rest) (Ok (a, rest)) (front us rest (heads d a us q)) (R.complete d a us rest q n.0)

  maybe_more : (d e : Limits) (x : Option A) (us : List Token) → Below d e → maybe (g d) x us → maybe (g e) x us
  maybe_more d e None us l q = q
  maybe_more d e (Some a) us l q = R.more d e a us l q

  maybe_stays : (d e : Limits) (ts : List Token) → Below d e → Stays d e (maybe_at begins (r d) ts) (maybe_at begins (r e) ts)
  maybe_stays d e [] l = refl
  maybe_stays d e (y ∷ ys) l = if_stays d e (begins y) (r d (y ∷ ys) >>= λ a. Ok (Some a.0, a.1)) (r e (y ∷ ys) >>= λ a. Ok (Some a.0, a.1)) (Ok (None, y ∷ ys)) (Ok (None, y ∷ ys))
      (bind_stays d e (λ a. Ok (Some a.0, a.1)) (λ a. Ok (Some a.0, a.1)) (r d (y ∷ ys)) (r e (y ∷ ys)) (λ a. refl) (R.stays d e (y ∷ ys) l)) refl

  pub maybe_good : Good (λ d. maybe (g d)) (λ rest. starts rest × NotHeads begins rest) (λ d. maybe_at begins (r d))
  maybe_good = record {
    sample = λ d. go_some d [] (R.sample d);
    more = maybe_more;
    tells = maybe_told;
    complete = maybe_complete;
    stays = maybe_stays;
  }
