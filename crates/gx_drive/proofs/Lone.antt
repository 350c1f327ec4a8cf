-- A run of a driver does what the groups let; so where a round is all that is left to choose, it finds victims.
use Rattle.std.proofs.Common.{◌≡◌, ℕ, zero, suc, Bool, true, false, cond, List, [], ◌∷◌, ◌++◌, filter, Some, inl, inr, Contains, refl, subst, ◌∙◌, arith}
use Rattle.std.specs.Prelude.{slice_get}
use Rattle.gx_script.specs.declared.Script.{Script}
use Rattle.gx_store.specs.Groups.{AreLetBehind, AreStartsLet, enabled_in, lets}
use Rattle.gx_store.specs.Language.{IsScript}
use Rattle.gx_store.specs.Schedule.{enabled, first_of}
use Rattle.gx_store.specs.Whole.{AreInsertsWhole}
use Rattle.gx_store.specs.declared.event.Event.{Event}
use Rattle.gx_store.specs.declared.run.Step.{Step}
use Rattle.gx_waits.proofs.Members.{Has, contains_from_has, has_from_contains}
use Rattle.gx_law_lone.proofs.Askers.{grouped-victims}
use Rattle.gx_law_lone.specs.Victims.{AreLet, DoLoneRoundsFindVictims}
use Rattle.gx_law_progress.proofs.Runs.{grouped-few}
use Rattle.gx_law_progress.specs.LoneRounds.{AreLoneRoundsFew}
use Rattle.gx_law_runs.specs.Reached.{IsReached}
use Rattle.gx_drive.specs.Chosen.{AreChosen, Choice}
use Rattle.gx_drive.specs.Ordered.{AreFirst, IsFirst}
use Rattle.gx_drive.specs.Seeded.{AreDrawn, IsDrawn}

-- what is chosen is one of those that the groups let
let-chosen : (script : Script) (choice : Choice) → ((before : List Step) (e : Event) → choice before e → Contains (enabled_in script before) e) → (before steps : List Step) → AreChosen choice before steps → AreLet script (lets script) before steps
let-chosen script choice f before [] a = tt
let-chosen script choice f before (s ∷ ss) a = (f before s.event a.0, let-chosen script choice f (before ++ s ∷ []) ss a.1)

first-in : (xs : List Event) (e : Event) → first_of xs ≡ e ∷ [] → Contains xs e
first-in [] e f = absurd (cc)
first-in (x ∷ xs) e f = contains_from_has e (x ∷ xs) (inl (same x e f))
  where
    same : (a b : Event) → a ∷ [] ≡ b ∷ [] → a ≡ b
    same a b q = cc

place-in : (xs : List Event) (n : ℕ) (e : Event) → slice_get xs n ≡ Some e → Has e xs
place-in [] n e f = absurd (cc)
place-in (x ∷ xs) zero e f = inl (same x e f)
  where
    same : (a b : Event) → Some a ≡ Some b → a ≡ b
    same a b q = cc
place-in (x ∷ xs) (suc n) e f = inr (place-in xs n e f)

pub first-let : (script : Script) (steps : List Step) → AreFirst script [] steps → AreLet script (lets script) [] steps
first-let script steps a = let-chosen script (IsFirst script) (λ before e f. first-in (enabled_in script before) e f.first) [] steps a

pub drawn-let : (script : Script) (seed : ℕ) (steps : List Step) → AreDrawn script seed [] steps → AreLet script (lets script) [] steps
drawn-let script seed steps a = let-chosen script (IsDrawn script seed) (λ before e f. contains_from_has e (enabled_in script before) (place-in (enabled_in script before) _ e f.drawn)) [] steps a

-- whoever passes a filter passes its test
has-passed : (p : Event → Bool) (xs : List Event) (e : Event) → Has e (filter p xs) → p e ≡ true
has-passed p [] e h = absurd h
has-passed p (x ∷ xs) e h = by_test (p x) refl h (has-passed p xs e)
  where
    by_first : (b : Bool) → p x ≡ b → b ≡ true → (x ≡ e) → p e ≡ true
    by_first b is t same = subst (λ (y : Event). p y ≡ true) same (is ∙ t)

    by_test : (b : Bool) → p x ≡ b → Has e (cond b (x ∷ filter p xs) (filter p xs)) → (Has e (filter p xs) → p e ≡ true) → p e ≡ true
    by_test true is (inl same) f = by_first true is refl same
    by_test true is (inr later) f = f later
    by_test false is later f = f later

-- so each line was started where the groups let it
starts-behind : (script : Script) (before steps : List Step) → AreLet script (lets script) before steps → AreLetBehind script before steps
starts-behind script before [] a = tt
starts-behind script before (s ∷ ss) a =
    (has-passed (lets script before) (enabled script before) s.event (has_from_contains s.event (enabled_in script before) a.0), starts-behind script (before ++ s ∷ []) ss a.1)

pub starts-let : (script : Script) (steps : List Step) → AreLet script (lets script) [] steps → AreStartsLet script steps
starts-let script steps a = starts-behind script [] steps a

module _ (script : Script) (language : IsScript script) (inserts : AreInsertsWhole script.tables script.lines) (steps : List Step) (is : IsReached script steps) where
  pub first-lone : AreFirst script [] steps → DoLoneRoundsFindVictims script (lets script) [] steps
  first-lone a = grouped-victims script language inserts steps is (first-let script steps a)

  pub drawn-lone : (seed : ℕ) → AreDrawn script seed [] steps → DoLoneRoundsFindVictims script (lets script) [] steps
  drawn-lone seed a = grouped-victims script language inserts steps is (drawn-let script seed steps a)

  pub first-few : AreFirst script [] steps → AreLoneRoundsFew script (lets script) steps
  first-few a = grouped-few script language inserts steps is (first-let script steps a)

  pub drawn-few : (seed : ℕ) → AreDrawn script seed [] steps → AreLoneRoundsFew script (lets script) steps
  drawn-few seed a = grouped-few script language inserts steps is (drawn-let script seed steps a)

-- and none began where nothing was done
pub none-few : (script : Script) → AreLoneRoundsFew script (lets script) []
none-few script = record { cancelling = omega (arith); begun = omega (arith); lines = omega (arith) }
