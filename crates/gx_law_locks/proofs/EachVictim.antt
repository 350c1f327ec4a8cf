-- Over every run of the machine, whoever a round names is cancelled and was named rightly, and its stuck waits stand.
use Rattle.std.proofs.Common.{◌≡◌, ◌≤◌, List, [], ◌∷◌, ◌++◌, Bool, subst}
use Rattle.gx_script.specs.declared.Script.{Script}
use Rattle.gx_store.specs.Cancelled.{AreNamedRightly, DoStuckStand, EachRecheck}
use Rattle.gx_store.specs.declared.event.Event.{Event}
use Rattle.gx_store.specs.declared.mark.Mark.{Mark}
use Rattle.gx_store.specs.declared.run.Step.{Step}
use Rattle.gx_store.specs.Points.{marks_in}
use Rattle.gx_store.specs.Rounds.{AreRechecksIn, AreRounds}
use Rattle.gx_rules.specs.Machine.{world_of}
use Rattle.gx_law_order.proofs.World.{world_knows}
use Rattle.gx_law_order.specs.Finish.{AreVerdictsLegal, IsVerdictLegal}
use Rattle.gx_law_order.specs.Rest.{EachMark}
use Rattle.gx_law_order.proofs.Legality.{sessions-stand}
use Rattle.gx_law_order.proofs.Always.{world-holds}
use Rattle.gx_law_locks.specs.Waiting.{EachBehind}
use Rattle.gx_law_locks.proofs.Lets.{behind-front}
use Rattle.gx_law_locks.proofs.HoldsInRuns.{world-locked}
use Rattle.gx_law_locks.specs.Steps.{EachStep}
use Rattle.gx_law_locks.proofs.Walks.{at-steps}
use Rattle.gx_law_locks.specs.Reports.{IsStuckBlocked}
use Rattle.gx_law_locks.proofs.Fair.{IsFair}
use Rattle.gx_law_locks.proofs.Lawful.{run-fair}
use Rattle.gx_law_locks.proofs.Persisting.{is-stuck-blocked}
use Rattle.gx_law_locks.proofs.StuckRechecks.{each-rightly-named, each-stands}
use Rattle.gx_law_locks.specs.Legal.{AreRoundsLegal}
use Rattle.gx_law_locks.proofs.Verdicts.{IsReady, coord-legal, seg-legal, sent-once}

-- a step's verdicts are legal once its rounds' ends are as defined
abbrev LegalOnce : Script → List Step → Step → Type 0
LegalOnce script steps s = AreRechecksIn script steps s.event [] s.marks → EachMark IsVerdictLegal steps s.event [] s.marks []

verdicts-once : (script : Script) (before ss : List Step) → AreRounds script before ss → EachStep (LegalOnce script) before ss → AreVerdictsLegal before ss
verdicts-once script before [] r e = tt
verdicts-once script before (s ∷ ss) r e = (e.0 r.3, verdicts-once script (before ++ s ∷ []) ss r.5 e.1)

module _ (script : Script) (some : 1 ≤ script.segments) (rounds : (es : List (Event × Bool)) → AreRounds script [] (world_of script es).steps) where
  ready : (es : List (Event × Bool)) → IsReady script (world_of script es)
  ready es =
      record {
        knows = world_knows script some es;
        holds = world-holds script some es;
        marked = (world-locked script some es).marked;
        sessions = sessions-stand script some es;
        fair = run-fair script some es;
        rounds = rounds es;
      }

  pub world-cancels : (es : List (Event × Bool)) → AreVerdictsLegal [] (world_of script es).steps
  world-cancels es =
      verdicts-once script [] (world_of script es).steps (rounds es)
      (at-steps script some (IsReady script) ready (LegalOnce script) (λ w good r k e x fails t ok ordered. coord-legal script w k e r x fails) (λ w good r k e x fails i place t ok. seg-legal script w k e x fails i) es)

  law : (es : List (Event × Bool)) (before later : List Mark) → marks_in (world_of script es).steps ≡ before ++ later → IsStuckBlocked before
  law es before later split = is-stuck-blocked before (behind-front IsFair [] before later (subst (EachBehind IsFair []) split (run-fair script some es)))

  pub world-stands : (es : List (Event × Bool)) → EachRecheck (DoStuckStand script) [] (world_of script es).steps
  world-stands es = each-stands script (world_of script es).steps (rounds es) (sent-once script (world_of script es) (world_knows script some es)) (law es)

  pub world-names : (es : List (Event × Bool)) → EachRecheck (AreNamedRightly script) [] (world_of script es).steps
  world-names es = each-rightly-named script (world_of script es).steps (rounds es) (sent-once script (world_of script es) (world_knows script some es)) (law es)

  pub world-legal : (es : List (Event × Bool)) → AreRoundsLegal script (world_of script es).steps
  world-legal es = record { rounds = rounds es; stand = world-stands es; named = world-names es }
