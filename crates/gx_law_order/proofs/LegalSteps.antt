-- Steps whose marks are legal if the rest is.
use Rattle.std.proofs.Common.{◌≡◌, ◌≤◌, ℕ, Bool, true, false, List, [], ◌∷◌, ◌++◌, Option, Some, None, sym, subst, ap, append-nil, refl, ◌∙◌, if◌then◌else◌}
use Rattle.std.specs.Prelude.{IsSome}
use Rattle.std.proofs.lemmas.Bool.{or_left}
use Rattle.std.proofs.lemmas.List.{append_assoc}
use Rattle.gx_lemmas.proofs.Numbers.{one-le-zero}
use Rattle.gx_ids.specs.declared.ids.Gxid.{Gxid}
use Rattle.gx_ids.specs.declared.ids.Node.{Node}
use Rattle.gx_script.specs.declared.Script.{Script}
use Rattle.gx_store.specs.declared.event.Event.{Event}
use Rattle.gx_store.specs.declared.event.Event.TheVariants as event
use Rattle.gx_store.specs.declared.mark.Mark.{Mark}
use Rattle.gx_store.specs.declared.mark.Mark.TheVariants as mark
use Rattle.gx_store.specs.declared.run.Step.{Step}
use Rattle.gx_store.specs.Legal.{AreLegalSteps, IsDrawn, LegalEvent}
use Rattle.gx_store.specs.Marks.{is_aborted, is_same_session, started_after}
use Rattle.gx_store.specs.Ordered.{IsAtNode}
use Rattle.gx_store.proofs.Marks.{is_aborted-append, started_after-append}
use Rattle.gx_store.specs.Refusals.{the_coordinator}
use Rattle.gx_law_order.specs.Lists.{Each}
use Rattle.gx_law_order.proofs.Numbers.{NoStart}
use Rattle.gx_law_order.proofs.Sent.{at}
use Rattle.gx_law_order.specs.Rest.{AreEventsLegal, AreRestLegal, EachMark, Rest, StartsNothing, is_going_out, unless}
use Rattle.gx_law_order.proofs.Frame.{Quiet}
use Rattle.gx_law_order.specs.Alive.{IsSilent}
use Rattle.gx_law_order.proofs.Given.{Given, given-legal, marks-append}
use Rattle.gx_store.specs.Points.{starts_by, ends_by}
use Rattle.gx_store.specs.Faults.{LegalFault}
use Rattle.gx_ids.specs.declared.ids.SessionId.{SessionId}

-- STEPS
-- whatever marks the step will have behind these
abbrev pub IsGivenStep : Script → List Step → Step → Type 0
IsGivenStep script before s = LegalEvent script before s.event s.marks × IsDrawn script before s.event s.marks × ((later : List Mark) → EachMark (Given script) before s.event [] s.marks later)

abbrev pub AreGiven : Script → List Step → List Step → Type 0
AreGiven script before [] = Unit {0}
AreGiven script before (s ∷ ss) = IsGivenStep script before s × AreGiven script (before ++ s ∷ []) ss

pub given-last : (script : Script) (before ss : List Step) (s : Step) → AreGiven script before ss → IsGivenStep script (before ++ ss) s → AreGiven script before (ss ++ s ∷ [])
given-last script before [] s e h = (subst (λ x. IsGivenStep script x s) (append-nil before) h, tt)
given-last script before (x ∷ ss) s e h = (e.0, given-last script (before ++ x ∷ []) ss s e.1 (subst (λ y. IsGivenStep script y s) (sym (append_assoc before (x ∷ []) ss)) h))

-- the last step may have more marks
drawn-more : (script : Script) (before : List Step) (e : Event) (ms ns : List Mark) → IsDrawn script before e ms → IsDrawn script before e (ms ++ ns)
drawn-more script before (event.Start s) ms ns d = λ line next draws. subst IsSome (sym (started_after-append s None ms ns)) (still (started_after s None ms) ns (d line next draws))
  where
    still : (o : Option Gxid) (ns : List Mark) → IsSome o → IsSome (started_after s o ns)
    still o [] h = h
    still o (mark.Start g t ∷ ns) h = still (if is_same_session t s then Some g else o) ns (by_test (is_same_session t s))
      where
        by_test : (b : Bool) → IsSome (if b then Some g else o)
        by_test true = refl
        by_test false = h
    still o (m ∷ ns) h = still o ns h
drawn-more script before (event.Receive from to number) ms ns d = d
drawn-more script before (event.Resume n g) ms ns d = d
drawn-more script before (event.End s) ms ns d = d
drawn-more script before (event.Resend i g) ms ns d = d
drawn-more script before event.Round ms ns d = d
drawn-more script before (event.Restart n) ms ns d = d

legal-more : (script : Script) (before : List Step) (e : Event) (ms ns : List Mark) → LegalEvent script before e ms → LegalEvent script before e (ms ++ ns)
legal-more script before (event.Start s) ms ns l = l
legal-more script before (event.Receive from to number) ms ns l = l
legal-more script before (event.Resume n g) ms ns l = l
legal-more script before (event.End s) ms ns l =
    record { idle = l.idle; over = l.over; block = l.block; once = l.once; rolled_back = λ g e. is_aborted-append ms ns g ∙ or_left (is_aborted ms g) (is_aborted ns g) (l.rolled_back g e) }
legal-more script before (event.Resend i g) ms ns l = l
legal-more script before event.Round ms ns l = l
legal-more script before (event.Restart n) ms ns l = l

pub given-more : (script : Script) (done before : List Step) (s : Step) (ns : List Mark) → AreGiven script done (before ++ s ∷ []) → ((later : List Mark) → EachMark (Given script) (done ++ before) s.event s.marks ns later) → AreGiven script done (before ++ record s { marks = s.marks ++ ns } ∷ [])
given-more script done [] s ns e h = (
  (
    legal-more script done s.event s.marks ns e.0.0,
    drawn-more script done s.event s.marks ns e.0.1,
    λ later. marks-append (Given script) done s.event [] s.marks ns later (e.0.2 (ns ++ later)) (subst (λ q. EachMark (Given script) q s.event s.marks ns later) (append-nil done) (h later)),
  ),
  tt,
)
given-more script done (x ∷ before) s ns e h = (e.0, given-more script (done ++ x ∷ []) before s ns e.1 (λ later. subst (λ q. EachMark (Given script) q s.event s.marks ns later) (sym (append_assoc done (x ∷ []) before)) (h later)))

pub given-events : (script : Script) (before ss : List Step) → AreGiven script before ss → AreEventsLegal script before ss
given-events script before [] e = tt
given-events script before (s ∷ ss) e = (e.0.0, given-events script (before ++ s ∷ []) ss e.1)

pub given-steps : (script : Script) (before ss : List Step) → AreGiven script before ss → AreRestLegal script before ss → AreLegalSteps script before ss
given-steps script before [] e r = tt
given-steps script before (s ∷ ss) e r = (record { event = e.0.0; drawn = e.0.1; marks = given-legal script before s.event [] s.marks [] (e.0.2 []) r.0 }, given-steps script (before ++ s ∷ []) ss e.1 r.1)

-- MARKS
pub no-start : (ms : List Mark) → Each IsSilent ms → Each NoStart ms
no-start [] e = tt
no-start (mark.Start g s ∷ ms) e = absurd e.0
no-start (m ∷ ms) e = (tt, no-start ms e.1)

-- one step more of which the rest holds
pub rest-last : (script : Script) (before ss : List Step) (s : Step) → AreRestLegal script before ss → EachMark (Rest script) (before ++ ss) s.event [] s.marks [] → AreRestLegal script before (ss ++ s ∷ [])
rest-last script before [] s e h = (subst (λ x. EachMark (Rest script) x s.event [] s.marks []) (append-nil before) h, tt)
rest-last script before (x ∷ ss) s e h = (e.0, rest-last script (before ++ x ∷ []) ss s e.1 (subst (λ y. EachMark (Rest script) y s.event [] s.marks []) (sym (append_assoc before (x ∷ []) ss)) h))

pub quiet-given : (script : Script) (steps : List Step) (e : Event) (earlier ms later : List Mark) → Each Quiet ms → EachMark (Given script) steps e earlier ms later
quiet-given script steps e earlier [] later h = tt
quiet-given script steps e earlier (mark.Decided g ∷ ms) later h = (λ r. tt, quiet-given script steps e (earlier ++ mark.Decided g ∷ []) ms later h.1)
quiet-given script steps e earlier (mark.Recheck round own verdict ∷ ms) later h = (λ r. r, quiet-given script steps e (earlier ++ mark.Recheck round own verdict ∷ []) ms later h.1)
quiet-given script steps e earlier (m ∷ ms) later h = absurd h.0

-- a segment's marks tell nothing of sessions
pub segment-silent : (script : Script) (i : ℕ) → 1 ≤ i → (ms : List Mark) → Each (IsAtNode script (at i)) ms → Each IsSilent ms
segment-silent script i one [] e = tt
segment-silent script i one (mark.Start g s ∷ ms) e = absurd (not-zero e.0)
  where
    not-zero : at i ≡ the_coordinator → ⊥
    not-zero q = one-le-zero i one (ap (λ (n : Node). n.0) q)
segment-silent script i one (mark.Snap g c x ∷ ms) e = absurd (not-zero e.0)
  where
    not-zero : at i ≡ the_coordinator → ⊥
    not-zero q = one-le-zero i one (ap (λ (n : Node). n.0) q)
segment-silent script i one (mark.Commit g ∷ ms) e = absurd (not-zero e.0)
  where
    not-zero : at i ≡ the_coordinator → ⊥
    not-zero q = one-le-zero i one (ap (λ (n : Node). n.0) q)
segment-silent script i one (mark.Abort g ∷ ms) e = absurd (not-zero e.0)
  where
    not-zero : at i ≡ the_coordinator → ⊥
    not-zero q = one-le-zero i one (ap (λ (n : Node). n.0) q)
segment-silent script i one (mark.Answer s n a ∷ ms) e = absurd (not-zero e.0)
  where
    not-zero : at i ≡ the_coordinator → ⊥
    not-zero q = one-le-zero i one (ap (λ (n : Node). n.0) q)
segment-silent script i one (m ∷ ms) e = (tt, segment-silent script i one ms e.1)

-- WHERE NOTHING STARTS
pub starts-no : (e : Event) → StartsNothing e → (s : SessionId) → starts_by s e ≡ 0
starts-no (event.Receive from to number) q s = refl
starts-no (event.Resume n g) q s = refl
starts-no (event.Start t) q s = absurd q
starts-no (event.End t) q s = absurd q
starts-no (event.Resend i g) q s = refl
starts-no event.Round q s = refl
starts-no (event.Restart n) q s = refl

pub ends-no : (e : Event) → StartsNothing e → (s : SessionId) → ends_by s e ≡ 0
ends-no (event.Receive from to number) q s = refl
ends-no (event.Resume n g) q s = refl
ends-no (event.Start t) q s = absurd q
ends-no (event.End t) q s = absurd q
ends-no (event.Resend i g) q s = refl
ends-no event.Round q s = refl
ends-no (event.Restart n) q s = refl

pub legal-no : (script : Script) (steps : List Step) (e : Event) (ms : List Mark) → StartsNothing e → LegalEvent script steps e ms
legal-no script steps (event.Receive from to number) ms q = tt
legal-no script steps (event.Resume n g) ms q = tt
legal-no script steps (event.Start t) ms q = absurd q
legal-no script steps (event.End t) ms q = absurd q
legal-no script steps (event.Resend i g) ms q = tt
legal-no script steps event.Round ms q = tt
legal-no script steps (event.Restart n) ms q = tt

pub drawn-no : (script : Script) (steps : List Step) (e : Event) (ms : List Mark) → StartsNothing e → IsDrawn script steps e ms
drawn-no script steps (event.Receive from to number) ms q = tt
drawn-no script steps (event.Resume n g) ms q = tt
drawn-no script steps (event.Start t) ms q = absurd q
drawn-no script steps (event.End t) ms q = tt
drawn-no script steps (event.Resend i g) ms q = tt
drawn-no script steps event.Round ms q = tt
drawn-no script steps (event.Restart n) ms q = tt

pub unless-no : (b : Bool) (A : Type 0) → b ≡ false → unless b A → A
unless-no true A q a = absurd (cc)
unless-no false A q a = a

-- they are legal if the rest is, in a step in which no command goes out
pub silent-given : (script : Script) (steps : List Step) (e : Event) (q : is_going_out e ≡ false) (earlier ms later : List Mark) → Each IsSilent ms → EachMark (Given script) steps e earlier ms later
silent-given script steps e q earlier [] later h = tt
silent-given script steps e q earlier (mark.Write g c n t r x ∷ ms) later h = (λ r. r, silent-given script steps e q (earlier ++ mark.Write g c n t r x ∷ []) ms later h.1)
silent-given script steps e q earlier (mark.Skip g c r ∷ ms) later h = (λ r. r, silent-given script steps e q (earlier ++ mark.Skip g c r ∷ []) ms later h.1)
silent-given script steps e q earlier (mark.Fault g c r x ∷ ms) later h = (λ a. unless-no (is_going_out e) (LegalFault script (record { steps = steps; event = e; earlier = earlier; later = ms ++ later }) g c r x) q a, silent-given script steps e q (earlier ++ mark.Fault g c r x ∷ []) ms later h.1)
silent-given script steps e q earlier (mark.Recheck round own verdict ∷ ms) later h = (λ r. r, silent-given script steps e q (earlier ++ mark.Recheck round own verdict ∷ []) ms later h.1)
silent-given script steps e q earlier (mark.Start g s ∷ ms) later h = absurd h.0
silent-given script steps e q earlier (mark.Snap g c x ∷ ms) later h = absurd h.0
silent-given script steps e q earlier (mark.Commit g ∷ ms) later h = absurd h.0
silent-given script steps e q earlier (mark.Abort g ∷ ms) later h = absurd h.0
silent-given script steps e q earlier (mark.Answer s n a ∷ ms) later h = absurd h.0
silent-given script steps e q earlier (m ∷ ms) later h = (λ r. tt, silent-given script steps e q (earlier ++ m ∷ []) ms later h.1)
