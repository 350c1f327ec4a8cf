-- No more lines of a session start than it has.
use Rattle.std.proofs.Common.{◌≡◌, ◌≤◌, ℕ, ◌+◌, ◌==◌, List, [], ◌∷◌, ◌++◌, Bool, true, false, refl, sym, subst, ap, ◌∙◌, if◌then◌else◌, nat_lt, length, arith, append_assoc, append-nil}
use Rattle.std.proofs.lemmas.Bool.{eqb-true}
use Rattle.std.proofs.lemmas.Bool.Decides.{nat_tests}
use Rattle.gx_ids.specs.declared.ids.SessionId.{SessionId}
use Rattle.gx_script.specs.declared.Script.{Script}
use Rattle.gx_store.specs.declared.event.Event.{Event}
use Rattle.gx_store.specs.declared.event.Event.TheVariants as event
use Rattle.gx_store.specs.declared.mark.Mark.{Mark}
use Rattle.gx_store.specs.declared.run.Step.{Step}
use Rattle.gx_store.specs.Legal.{LegalEvent}
use Rattle.gx_store.specs.Lines.{line_count}
use Rattle.gx_store.specs.Marks.{answer_count}
use Rattle.gx_store.specs.Points.{marks_in, starts_by, starts_in}
use Rattle.gx_store.proofs.Runs.{starts_in-push}
use Rattle.gx_store.specs.Language.{AreLinesNumbered}
use Rattle.gx_law_order.specs.Rest.{AreEventsLegal}
use Rattle.gx_law_runs.proofs.Lines.{left-counted}

module _ (script : Script) (numbered : AreLinesNumbered [] script.lines) (k : SessionId) where
  abbrev total : ℕ
  total = line_count k script.lines

  -- a line starts that the session has
  start-counted : (before : List Step) (marks : List Mark) → LegalEvent script before (event.Start k) marks → starts_in k before + 1 ≤ total
  start-counted before marks legal = next (starts_in k before) (answer_count k (marks_in before)) total legal.0 (sym (left-counted k script.lines (answer_count k (marks_in before)) numbered) ∙ legal.1)
    where
      next : (s a t : ℕ) → s ≡ a → nat_lt a t ≡ true → s + 1 ≤ t
      next s a t e q = grind (arith, nat_tests)

  event-counted : (before : List Step) (e : Event) (marks : List Mark) → LegalEvent script before e marks → starts_in k before ≤ total → starts_in k before + starts_by k e ≤ total
  event-counted before (event.Start s) marks legal h = by_test (s.0 == k.0) refl
    where
      same : s.0 ≡ k.0 → s ≡ k
      same q = ap (λ n. let x : SessionId = record { 0 = n } in x) q

      by_test : (b : Bool) → (s.0 == k.0) ≡ b → starts_in k before + (if b then 1 else 0) ≤ total
      by_test true q = start-counted before marks (subst (λ x. LegalEvent script before (event.Start x) marks) (same (eqb-true s.0 k.0 q)) legal)
      by_test false q = omega (arith, h)
  event-counted before e marks legal h = omega (arith, h)

  pub starts-counted : (before steps : List Step) → AreEventsLegal script before steps → starts_in k before ≤ line_count k script.lines → starts_in k (before ++ steps) ≤ line_count k script.lines
  starts-counted before [] legal h = subst (λ ss. starts_in k ss ≤ total) (sym (append-nil before)) h
  starts-counted before (s ∷ steps) legal h =
      subst (λ ss. starts_in k ss ≤ total) (append_assoc before (s ∷ []) steps)
      (starts-counted (before ++ s ∷ []) steps legal.1 (subst (λ n. n ≤ total) (sym (starts_in-push k before s)) (event-counted before s.event s.marks legal.0 h)))

-- nor more than there are steps
starts_by-one : (k : SessionId) (e : Event) → starts_by k e ≤ 1
starts_by-one k (event.Start s) = by_test (s.0 == k.0)
  where
    by_test : (b : Bool) → (if b then 1 else 0) ≤ 1
    by_test true = omega arith
    by_test false = omega arith
starts_by-one k e = omega arith

pub starts-room : (k : SessionId) (steps : List Step) → starts_in k steps ≤ length steps
starts-room k [] = omega arith
starts-room k (s ∷ steps) = omega (arith, starts_by-one k s.event, starts-room k steps)
