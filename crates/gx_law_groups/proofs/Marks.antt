-- What one mark more changes of what is counted and looked up.
use Rattle.std.proofs.Common.{◌≡◌, ◌+◌, Bool, true, false, cond, ◌||◌, List, [], ◌∷◌, ◌++◌, Option, Some, None, refl, ap, ◌∙◌, arith}
use Rattle.gx_ids.specs.declared.ids.Gxid.{Gxid}
use Rattle.gx_ids.specs.declared.ids.SessionId.{SessionId}
use Rattle.gx_script.specs.declared.Script.{Script}
use Rattle.gx_lemmas.proofs.Tests.{or-false}
use Rattle.gx_store.specs.declared.mark.Mark.{Mark}
use Rattle.gx_store.specs.declared.mark.Mark.TheVariants.{Start, Commit, Abort, Answer}
use Rattle.gx_store.specs.declared.opened.Opened.{Opened}
use Rattle.gx_store.specs.Groups.{open_after, open_from, without}
use Rattle.gx_store.specs.Lines.{BlockState, state_from}
use Rattle.gx_store.specs.Marks.{answer_count, is_answered, is_begun_after, is_ended, is_same_gxid, session_of, start_count, started_after}

pub start_count-append : (xs ys : List Mark) → start_count (xs ++ ys) ≡ start_count xs + start_count ys
start_count-append [] ys = omega arith
start_count-append (Start g s ∷ xs) ys = omega (arith, start_count-append xs ys)
start_count-append (_ ∷ xs) ys = start_count-append xs ys

-- the first of two that is there
abbrev pub or_else : Option SessionId → Option SessionId → Option SessionId
or_else (Some s) other = Some s
or_else None other = other

pub session_of-append : (xs ys : List Mark) (g : Gxid) → session_of (xs ++ ys) g ≡ or_else (session_of xs g) (session_of ys g)
session_of-append [] ys g = refl
session_of-append (Start h s ∷ xs) ys g = ap (cond (is_same_gxid h g) (Some s)) (session_of-append xs ys g) ∙ first (is_same_gxid h g)
  where
    first : (b : Bool) → cond b (Some s) (or_else (session_of xs g) (session_of ys g)) ≡ or_else (cond b (Some s) (session_of xs g)) (session_of ys g)
    first true = refl
    first false = refl
session_of-append (_ ∷ xs) ys g = session_of-append xs ys g

pub open_from-append : (begun : List Opened) (xs ys : List Mark) → open_from begun (xs ++ ys) ≡ open_from (open_from begun xs) ys
open_from-append begun [] ys = refl
open_from-append begun (m ∷ xs) ys = open_from-append (open_after begun m) xs ys

-- MARKS THAT BEGIN, END AND ANSWER NOTHING
abbrev pub is_key : Mark → Bool
is_key (Start g s) = true
is_key (Commit g) = true
is_key (Abort g) = true
is_key (Answer s n a) = true
is_key _ = false

-- what a mark leaves as it is
pub record IsStill (m : Mark) : Type 0 where
  pub count : start_count (m ∷ []) ≡ 0
  pub ended : (g : Gxid) → is_ended (m ∷ []) g ≡ false
  pub home : (g : Gxid) → session_of (m ∷ []) g ≡ None
  pub started : (k : SessionId) (o : Option Gxid) → started_after k o (m ∷ []) ≡ o
  pub begun : (k : SessionId) (b : Bool) → is_begun_after k b (m ∷ []) ≡ b
  pub state : (script : Script) (k : SessionId) (st : BlockState) → state_from script k st (m ∷ []) ≡ st
  pub answers : (k : SessionId) → answer_count k (m ∷ []) ≡ 0
  pub answered : (k : SessionId) → is_answered k (m ∷ []) ≡ false
  pub ongoing : (o : List Opened) → open_after o m ≡ o

pub still : (m : Mark) → is_key m ≡ false → IsStill m
still (Start g s) e = absurd (cc)
still (Commit g) e = absurd (cc)
still (Abort g) e = absurd (cc)
still (Answer s n a) e = absurd (cc)
still _ e = record { count = refl; ended = λ g. refl; home = λ g. refl; started = λ k o. refl; begun = λ k b. refl; state = λ script k st. refl; answers = λ k. refl; answered = λ k. refl; ongoing = λ o. refl }

-- THE END OF A TRANSACTION
pub record IsEndOf (g : Gxid) (m : Mark) : Type 0 where
  pub count : start_count (m ∷ []) ≡ 0
  pub ended : (h : Gxid) → is_ended (m ∷ []) h ≡ is_same_gxid g h
  pub home : (h : Gxid) → session_of (m ∷ []) h ≡ None
  pub started : (k : SessionId) (o : Option Gxid) → started_after k o (m ∷ []) ≡ o
  pub begun : (k : SessionId) (b : Bool) → is_begun_after k b (m ∷ []) ≡ b
  pub state : (script : Script) (k : SessionId) (st : BlockState) → state_from script k st (m ∷ []) ≡ st
  pub answers : (k : SessionId) → answer_count k (m ∷ []) ≡ 0
  pub ongoing : (o : List Opened) → open_after o m ≡ without g o

pub commit-ends : (g : Gxid) → IsEndOf g (Commit g)
commit-ends g = record {
  count = refl;
  ended = λ h. or-false (is_same_gxid g h || false) ∙ or-false (is_same_gxid g h);
  home = λ h. refl;
  started = λ k o. refl;
  begun = λ k b. refl;
  state = λ script k st. refl;
  answers = λ k. refl;
  ongoing = λ o. refl;
}

pub abort-ends : (g : Gxid) → IsEndOf g (Abort g)
abort-ends g = record {
  count = refl;
  ended = λ h. or-false (is_same_gxid g h);
  home = λ h. refl;
  started = λ k o. refl;
  begun = λ k b. refl;
  state = λ script k st. refl;
  answers = λ k. refl;
  ongoing = λ o. refl;
}
