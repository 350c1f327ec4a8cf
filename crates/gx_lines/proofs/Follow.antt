-- What rules begin with, and what may follow them.
use Rattle.std.proofs.Common.{◌≡◌, ◌⊎◌, inl, inr, Bool, true, false, if◌then◌else◌, List, [], ◌∷◌, ◌++◌, Option, Some, None, refl, sym, ◌∙◌, ap, subst, append_assoc}
use Rattle.gx_lex.specs.declared.word.Word.{Word}
use Rattle.gx_lex.specs.declared.symbol.Symbol.TheVariants as symbol
use Rattle.gx_lex.specs.declared.token.Token.{Token}
use Rattle.gx_lex.specs.declared.token.Token.TheVariants as token
use Rattle.gx_grammar.specs.declared.fault.Limits.{Limits}
use Rattle.gx_grammar.specs.Rules.{Pick, Is, Isnt, one, both, maybe, many, made, either, behind, marked, Reading, one_at, both_at, maybe_at, many_at, either_at, behind_at, starts}
use Rattle.gx_grammar.specs.Tokens.{is_word, is_sign, is_comma, listed, listed_at, enclosed, enclosed_at}
use Rattle.gx_grammar.proofs.Good.{Good, Always, Heads, NotHeads}
use Rattle.gx_grammar.proofs.Parts.{one_good, both_good, made_good, behind_good, marked_class, maybe_good, behind_heads}
use Rattle.gx_grammar.proofs.Many.{many_good}
use Rattle.gx_grammar.proofs.Either.{either_good}
use Rattle.gx_lines.proofs.Told.{word_is, sign_is}

-- the token is one of these
abbrev pub OneOf : List Token → Token → Type 0
OneOf [] y = ⊥
OneOf (t ∷ ts) y = (y ≡ t) ⊎ OneOf ts y

-- the end, or one of these
abbrev pub Next : List Token → List Token → Type 0
Next ts [] = Unit {0}
Next ts (y ∷ ys) = OneOf ts y

abbrev pub Each : (Token → Type 0) → List Token → Type 0
Each P [] = Unit {0}
Each P (t ∷ ts) = P t × Each P ts

-- the first token has this
abbrev pub First : (Token → Type 0) → List Token → Type 0
First P [] = ⊥
First P (y ∷ ys) = P y

pub each_of : (P : Token → Type 0) (ts : List Token) (y : Token) → Each P ts → OneOf ts y → P y
each_of P [] y e o = absurd o
each_of P (t ∷ ts) y e (inl q) = subst P (sym q) e.0
each_of P (t ∷ ts) y e (inr o) = each_of P ts y e.1 o

pub first_as : (P Q : Token → Type 0) (us : List Token) → ((y : Token) → P y → Q y) → First P us → First Q us
first_as P Q [] f h = absurd h
first_as P Q (y ∷ ys) f h = f y h

pub first_front : (P : Token → Type 0) (us vs : List Token) → First P us → First P (us ++ vs)
first_front P [] vs h = absurd h
first_front P (y ∷ us) vs h = h

pub first_starts : (is : Token → Bool) (b : Bool) (us rest : List Token) → First (λ y. is y ≡ b) us → starts is (us ++ rest) ≡ b
first_starts is b [] rest h = absurd h
first_starts is b (y ∷ us) rest h = h

pub heads_first : (is : Token → Bool) (us : List Token) → Heads is us → First (λ y. is y ≡ true) us
heads_first is [] h = absurd h
heads_first is (y ∷ us) h = h

pub first_one : {X : Type 0} (f : Token → Pick X) (P : Token → Type 0) (x : X) (us : List Token) → ((y : Token) → f y ≡ Is x → P y) → one f x us → First P us
first_one f P x us g (y, q, e) = subst (λ (t : List Token). First P t) (sym e) (g y q)

pub first_both : {A B : Type 0} (g : A → List Token → Type 0) (h : B → List Token → Type 0) (P : Token → Type 0) (p : A × B) (us : List Token) → ((a : A) (vs : List Token) → g a vs → First P vs) → both g h p us → First P us
first_both g h P p us f (vs, ws, q, w, e) = subst (λ (t : List Token). First P t) (sym e) (first_front P vs ws (f p.0 vs q))

pub first_made : {A B : Type 0} (f : A → B) (g : A → List Token → Type 0) (P : Token → Type 0) (b : B) (us : List Token) → ((a : A) (vs : List Token) → g a vs → First P vs) → made f g b us → First P us
first_made f g P b us h (a, e, q) = h a us q

pub first_behind : {A : Type 0} (is : Token → Bool) (g : A → List Token → Type 0) (P : Token → Type 0) (a : A) (us : List Token) → ((y : Token) → is y ≡ true → P y) → behind is g a us → First P us
first_behind is g P a us f q = first_as (λ y. is y ≡ true) P us f (heads_first is us (behind_heads is g a us q))

pub first_either : {A : Type 0} (g h : A → List Token → Type 0) (P : Token → Type 0) (a : A) (us : List Token) → (g a us → First P us) → (h a us → First P us) → either g h a us → First P us
first_either g h P a us f k (inl q) = f q
first_either g h P a us f k (inr q) = k q

abbrev unit_is : Pick (Unit {0})
unit_is = Is tt

abbrev unit_isnt : Pick (Unit {0})
unit_isnt = Isnt

isnt_is : unit_isnt ≡ unit_is → ⊥
isnt_is e = cc

true_of : (is : Token → Bool) (y : Token) (b : Bool) → is y ≡ b → marked is y ≡ unit_is → is y ≡ true
true_of is y true e q = e
true_of is y false e q = absurd (isnt_is (sym (ap (λ (b : Bool). if b then unit_is else unit_isnt) e) ∙ q))

-- a token that is marked has the mark
pub marked_true : (is : Token → Bool) (y : Token) (x : Unit {0}) → marked is y ≡ Is x → is y ≡ true
marked_true is y x q = true_of is y (is y) refl q

-- FOLLOWS
module _ {A : Type 0} (g : Limits → A → List Token → Type 0) (r : Limits → List Token → Reading A) where
  -- fewer things may follow
  pub under : (ends less : List Token → Type 0) → Good g ends r → ((rest : List Token) → less rest → ends rest) → Good g less r
  under ends less R f = record { sample = R.sample; more = R.more; tells = R.tells; complete = λ d x us rest q n. R.complete d x us rest q (f rest n); stays = R.stays }

  pub anywhere : (ends : List Token → Type 0) → Good g Always r → Good g ends r
  anywhere ends R = under Always ends R (λ rest n. tt)

pub next_not : (is : Token → Bool) (ts : List Token) → Each (λ y. is y ≡ false) ts → (rest : List Token) → Next ts rest → NotHeads is rest
next_not is ts e [] n = tt
next_not is ts e (y ∷ ys) n = each_of (λ y. is y ≡ false) ts y e n

pub next_more : (t : Token) (ts rest : List Token) → Next ts rest → Next (t ∷ ts) rest
next_more t ts [] n = tt
next_more t ts (y ∷ ys) n = inr n

pub first_next : (ts us rest : List Token) → First (λ y. OneOf ts y) us → Next ts (us ++ rest)
first_next ts [] rest h = absurd h
first_next ts (y ∷ us) rest h = h

comma_first : (ts us : List Token) → Heads is_comma us → Next (token.Symbol symbol.Comma ∷ ts) us
comma_first ts [] h = absurd h
comma_first ts (y ∷ us) h = inl (sign_is symbol.Comma y h)

-- lists
module _ {A : Type 0} (g : Limits → A → List Token → Type 0) (r : Limits → List Token → Reading A) (ts : List Token) (R : Good g (Next (token.Symbol symbol.Comma ∷ ts)) r) (e : Each (λ y. is_comma y ≡ false) ts) where
  list_link : (d : Limits) (s : List A) (us rest : List Token) → many (behind is_comma (g d)) s us → Next ts rest → Next (token.Symbol symbol.Comma ∷ ts) (us ++ rest)
  list_link d [] us rest q n = subst (λ (t : List Token). Next (token.Symbol symbol.Comma ∷ ts) (t ++ rest)) (sym q) (next_more (token.Symbol symbol.Comma) ts rest n)
  list_link d (a ∷ s) us rest (vs, ws, q, w, z) n =
      let h = behind_heads is_comma (g d) a vs q in
      let f = first_as (λ y. is_comma y ≡ true) (λ y. OneOf (token.Symbol symbol.Comma ∷ ts) y) vs (λ y k. inl (sign_is symbol.Comma y k)) (heads_first is_comma vs h) in
      subst (λ (t : List Token). Next (token.Symbol symbol.Comma ∷ ts) (t ++ rest)) (sym z) (first_next (token.Symbol symbol.Comma ∷ ts) (vs ++ ws) rest (first_front (λ y. OneOf (token.Symbol symbol.Comma ∷ ts) y) vs ws f))

  pub listed_good : Good (λ d. listed (g d)) (Next ts) (λ d. listed_at (r d))
  listed_good = made_good (λ (p : A × List A). p.0 ∷ p.1) (λ d. both (g d) (many (behind is_comma (g d)))) (Next ts) (λ d. both_at (r d) (many_at is_comma (behind_at is_comma (r d))))
      (both_good g (λ d. many (behind is_comma (g d))) (Next (token.Symbol symbol.Comma ∷ ts)) (Next ts) r (λ d. many_at is_comma (behind_at is_comma (r d))) R
      (under (λ d. many (behind is_comma (g d))) (λ d. many_at is_comma (behind_at is_comma (r d))) (λ rest. Next (token.Symbol symbol.Comma ∷ ts) rest × NotHeads is_comma rest) (Next ts)
      (many_good is_comma (λ d. behind is_comma (g d)) (Next (token.Symbol symbol.Comma ∷ ts)) (λ d. behind_at is_comma (r d))
      (behind_good is_comma (token.Symbol symbol.Comma) refl g (Next (token.Symbol symbol.Comma ∷ ts)) r R)
      (λ d a us q. behind_heads is_comma (g d) a us q) (λ us h. comma_first ts us h))
      (λ rest n. (next_more (token.Symbol symbol.Comma) ts rest n, next_not is_comma ts e rest n)))
      list_link)

-- what stands in parentheses
module _ {A : Type 0} (g : Limits → A → List Token → Type 0) (r : Limits → List Token → Reading A) (R : Good g (Next (token.Symbol symbol.Close ∷ [])) r) where
  close_link : (d : Limits) (b : Unit {0}) (us rest : List Token) → one (marked (is_sign symbol.Close)) b us → Always rest → Next (token.Symbol symbol.Close ∷ []) (us ++ rest)
  close_link d b us rest (y, q, e) n = subst (λ (t : List Token). Next (token.Symbol symbol.Close ∷ []) (t ++ rest)) (sym e) (inl (sign_is symbol.Close y (marked_true (is_sign symbol.Close) y b q)))

  pub enclosed_good : Good (λ d. enclosed (g d)) Always (λ d. enclosed_at (r d))
  enclosed_good = made_good (λ (p : A × Unit {0}). p.0) (λ d. both (behind (is_sign symbol.Open) (g d)) (one (marked (is_sign symbol.Close)))) Always (λ d. both_at (behind_at (is_sign symbol.Open) (r d)) (one_at (marked (is_sign symbol.Close))))
      (both_good (λ d. behind (is_sign symbol.Open) (g d)) (λ d. one (marked (is_sign symbol.Close))) (Next (token.Symbol symbol.Close ∷ [])) Always (λ d. behind_at (is_sign symbol.Open) (r d)) (λ d. one_at (marked (is_sign symbol.Close)))
      (behind_good (is_sign symbol.Open) (token.Symbol symbol.Open) refl g (Next (token.Symbol symbol.Close ∷ [])) r R)
      (one_good (λ d. marked (is_sign symbol.Close)) (marked_class (is_sign symbol.Close) (token.Symbol symbol.Close) refl))
      close_link)

-- what may stand behind a word
module _ {A : Type 0} (w : Word) (g : Limits → A → List Token → Type 0) (r : Limits → List Token → Reading A) (ts : List Token) (e : Each (λ y. is_word w y ≡ false) ts) where
  pub maybe_word_good : Good (λ d. behind (is_word w) (g d)) (Next ts) (λ d. behind_at (is_word w) (r d)) → Good (λ d. maybe (behind (is_word w) (g d))) (Next ts) (λ d. maybe_at (is_word w) (behind_at (is_word w) (r d)))
  maybe_word_good R = under (λ d. maybe (behind (is_word w) (g d))) (λ d. maybe_at (is_word w) (behind_at (is_word w) (r d))) (λ rest. Next ts rest × NotHeads (is_word w) rest) (Next ts)
      (maybe_good (is_word w) (λ d. behind (is_word w) (g d)) (Next ts) (λ d. behind_at (is_word w) (r d)) R (λ d a us q. behind_heads (is_word w) (g d) a us q))
      (λ rest n. (n, next_not (is_word w) ts e rest n))

  pub maybe_word_next : (d : Limits) (x : Option A) (us rest : List Token) → maybe (behind (is_word w) (g d)) x us → Next ts rest → Next (token.Word w ∷ ts) (us ++ rest)
  maybe_word_next d None us rest q n = subst (λ (t : List Token). Next (token.Word w ∷ ts) (t ++ rest)) (sym q) (next_more (token.Word w) ts rest n)
  maybe_word_next d (Some a) us rest q n = first_next (token.Word w ∷ ts) us rest (first_behind (is_word w) (g d) (λ y. OneOf (token.Word w ∷ ts) y) a us (λ y k. inl (word_is w y k)) q)

-- what two parts begin with
pub both_next : {A B : Type 0} (g : A → List Token → Type 0) (h : B → List Token → Type 0) (ks bs cs : List Token) → ((x : A) (us rest : List Token) → g x us → Next bs rest → Next ks (us ++ rest)) → ((x : B) (us rest : List Token) → h x us → Next cs rest → Next bs (us ++ rest)) → (p : A × B) (us rest : List Token) → both g h p us → Next cs rest → Next ks (us ++ rest)
both_next g h ks bs cs f k p us rest (vs, ws, q, w, e) n = subst (λ (t : List Token). Next ks t) (sym (ap (λ (t : List Token). t ++ rest) e ∙ append_assoc vs ws rest)) (f p.0 vs (ws ++ rest) q (k p.1 ws rest w n))

-- a choice by a first word
module _ {A : Type 0} (w : Word) (ts : List Token) (g h : Limits → A → List Token → Type 0) (ends : List Token → Type 0) (r s : Limits → List Token → Reading A) (e : Each (λ y. is_word w y ≡ false) ts) where
  pub choice_good : Good g ends r → Good h ends s → ((d : Limits) (x : A) (us : List Token) → g d x us → First (λ y. y ≡ token.Word w) us) → ((d : Limits) (x : A) (us : List Token) → h d x us → First (λ y. OneOf ts y) us) → is_word w (token.Word w) ≡ true → Good (λ d. either (g d) (h d)) ends (λ d. either_at (is_word w) (r d) (s d))
  choice_good R S f k t = either_good (is_word w) g h ends r s R S
      (λ d x us rest q. first_starts (is_word w) true us rest (first_as (λ y. y ≡ token.Word w) (λ y. is_word w y ≡ true) us (λ y z. ap (is_word w) z ∙ t) (f d x us q)))
      (λ d x us rest q n. first_starts (is_word w) false us rest (first_as (λ y. OneOf ts y) (λ y. is_word w y ≡ false) us (λ y z. each_of (λ y. is_word w y ≡ false) ts y e z) (k d x us q)))

  pub choice_first : ((d : Limits) (x : A) (us : List Token) → g d x us → First (λ y. y ≡ token.Word w) us) → ((d : Limits) (x : A) (us : List Token) → h d x us → First (λ y. OneOf ts y) us) → (d : Limits) (x : A) (us : List Token) → either (g d) (h d) x us → First (λ y. OneOf (token.Word w ∷ ts) y) us
  choice_first f k d x us (inl q) = first_as (λ y. y ≡ token.Word w) (λ y. OneOf (token.Word w ∷ ts) y) us (λ y z. inl z) (f d x us q)
  choice_first f k d x us (inr q) = first_as (λ y. OneOf ts y) (λ y. OneOf (token.Word w ∷ ts) y) us (λ y z. inr z) (k d x us q)
