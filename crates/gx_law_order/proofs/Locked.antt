-- Marks of locks say nothing of sessions.
use Rattle.std.proofs.Common.{ℕ, List, [], ◌∷◌, ◌++◌}
use Rattle.gx_ids.specs.declared.ids.Gxid.{Gxid}
use Rattle.gx_ids.specs.declared.ids.SessionId.{SessionId}
use Rattle.gx_script.specs.declared.Script.{Script}
use Rattle.gx_locks.specs.Locks.{Locks}
use Rattle.gx_store.specs.declared.event.Event.{Event}
use Rattle.gx_store.specs.declared.mark.Mark.{Mark}
use Rattle.gx_store.specs.declared.mark.Mark.TheVariants as mark
use Rattle.gx_store.specs.declared.run.Step.{Step}
use Rattle.gx_store.specs.Refusals.{the_coordinator}
use Rattle.gx_rules.specs.Locks.{release_marks}
use Rattle.gx_law_order.proofs.Releases.{each-released}
use Rattle.gx_law_order.specs.Lists.{Each}
use Rattle.gx_law_order.specs.Rest.{EachMark, Rest}
use Rattle.gx_law_order.proofs.Others.{IsOf}
use Rattle.gx_law_order.proofs.Given.{Given}
use Rattle.gx_law_order.proofs.Said.{CalmFor}

abbrev pub LockMark : Mark → Type 0
LockMark (mark.Hold n g object mode) = Unit {0}
LockMark (mark.Wait n g object mode) = Unit {0}
LockMark (mark.Release n g object mode) = Unit {0}
LockMark _ = ⊥

pub back-locks : (locks : Locks) (g : Gxid) → Each LockMark (release_marks the_coordinator locks g)
back-locks locks g = each-released LockMark the_coordinator locks g (λ claim. tt)

pub lock-for : (k : SessionId) (ms : List Mark) → Each LockMark ms → Each (CalmFor k) ms
lock-for k [] e = tt
lock-for k (mark.Hold n g object mode ∷ ms) e = (tt, lock-for k ms e.1)
lock-for k (mark.Wait n g object mode ∷ ms) e = (tt, lock-for k ms e.1)
lock-for k (mark.Release n g object mode ∷ ms) e = (tt, lock-for k ms e.1)
lock-for k (m ∷ ms) e = absurd e.0

pub lock-of : (s g : ℕ) (ms : List Mark) → Each LockMark ms → Each (IsOf s g) ms
lock-of s g [] e = tt
lock-of s g (mark.Hold n h object mode ∷ ms) e = (tt, lock-of s g ms e.1)
lock-of s g (mark.Wait n h object mode ∷ ms) e = (tt, lock-of s g ms e.1)
lock-of s g (mark.Release n h object mode ∷ ms) e = (tt, lock-of s g ms e.1)
lock-of s g (m ∷ ms) e = absurd e.0

pub lock-given : (script : Script) (steps : List Step) (e : Event) (earlier ms later : List Mark) → Each LockMark ms → EachMark (Given script) steps e earlier ms later
lock-given script steps e earlier [] later h = tt
lock-given script steps e earlier (mark.Hold n g object mode ∷ ms) later h = (λ r. tt, lock-given script steps e (earlier ++ mark.Hold n g object mode ∷ []) ms later h.1)
lock-given script steps e earlier (mark.Wait n g object mode ∷ ms) later h = (λ r. tt, lock-given script steps e (earlier ++ mark.Wait n g object mode ∷ []) ms later h.1)
lock-given script steps e earlier (mark.Release n g object mode ∷ ms) later h = (λ r. tt, lock-given script steps e (earlier ++ mark.Release n g object mode ∷ []) ms later h.1)
lock-given script steps e earlier (m ∷ ms) later h = absurd h.0

pub lock-rest : (script : Script) (steps : List Step) (e : Event) (earlier ms later : List Mark) → Each LockMark ms → EachMark (Rest script) steps e earlier ms later
lock-rest script steps e earlier [] later h = tt
lock-rest script steps e earlier (mark.Hold n g object mode ∷ ms) later h = (tt, lock-rest script steps e (earlier ++ mark.Hold n g object mode ∷ []) ms later h.1)
lock-rest script steps e earlier (mark.Wait n g object mode ∷ ms) later h = (tt, lock-rest script steps e (earlier ++ mark.Wait n g object mode ∷ []) ms later h.1)
lock-rest script steps e earlier (mark.Release n g object mode ∷ ms) later h = (tt, lock-rest script steps e (earlier ++ mark.Release n g object mode ∷ []) ms later h.1)
lock-rest script steps e earlier (m ∷ ms) later h = absurd h.0
