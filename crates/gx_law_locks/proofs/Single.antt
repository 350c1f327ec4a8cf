-- Who waits at a node waits once there, and goes on with nothing else meanwhile.
use Rattle.std.proofs.Common.{◌≡◌, ℕ, Option, Some, None, true, refl, subst, arith}
use Rattle.gx_lemmas.proofs.Options.{none-some}
use Rattle.gx_ids.specs.declared.ids.Gxid.{Gxid}
use Rattle.gx_dtx.specs.Table.{find_txn}
use Rattle.gx_waits.specs.declared.claim.Claim.{Claim}
use Rattle.gx_locks.specs.Locks.{Locks, wait_of}
use Rattle.gx_script.specs.declared.Script.{Script}
use Rattle.gx_script.specs.declared.state.Pending.{Pending}
use Rattle.gx_rules.specs.AtCoordinator.{is_nothing}
use Rattle.gx_rules.specs.Coordinators.{session_of, work_of}
use Rattle.gx_rules.specs.Machine.{World}
use Rattle.gx_rules.specs.Segments.{local_of}
use Rattle.gx_law_order.proofs.Lines.{undrawn}
use Rattle.gx_law_order.specs.Sessions.{is_working_in}
use Rattle.gx_law_order.specs.Stages.{Stage, stage_of}
use Rattle.gx_law_order.specs.Stages.Stage.{Closing, Live}
use Rattle.gx_law_order.proofs.Waiting.{has-slice, has-statement}
use Rattle.gx_law_order.proofs.World.{Knows}
use Rattle.gx_law_order.proofs.Events.{live-stage}
use Rattle.gx_law_locks.proofs.HoldsAtCoordinators as here
use Rattle.gx_law_locks.proofs.HoldsAtSegments as there

module _ (script : Script) (w : World) (n : Knows script w) where
  unless-waits : (l : Locks) (g : Gxid) → ((wanted : Claim) → wait_of l g ≡ Some wanted → ⊥) → wait_of l g ≡ None
  unless-waits l g f = by_wait (wait_of l g) refl
    where
      by_wait : (o : Option Claim) → wait_of l g ≡ o → wait_of l g ≡ None
      by_wait None e = e
      by_wait (Some wanted) e = absurd (f wanted e)

  pub single-here : here.AreSingle w.coord
  single-here =
      record {
        whole = n.kept.whole;
        busy = λ g k e. unless-waits w.coord.locks g (λ wanted f. none-some (work_of w.coord g).command k (has-statement script w n g wanted f).idle e);
        closing = λ g e. unless-waits w.coord.locks g (λ wanted f. apart (has-statement script w n g wanted f).live e);
        new = unless-waits w.coord.locks w.coord.table.next (λ wanted e. begun (has-statement script w n w.coord.table.next wanted e).live);
        idle = λ s i opened. unless-waits w.coord.locks (session_of w.coord s).transaction (λ wanted e.
            not-work (session_of w.coord s).state.pending i
            (subst (λ j. is_working_in (w.coord.sessions j).state.pending ≡ true) ((n.kept.placed s.0).stands opened).1 (has-statement script w n (session_of w.coord s).transaction wanted e).working));
        once = λ g wanted e. (has-statement script w n g wanted e).once;
      }
    where
      apart : {a : Stage} → a ≡ Live → a ≡ Closing → ⊥
      apart e f = cc

      not-work : (q : Pending) → is_nothing q ≡ true → is_working_in q ≡ true → ⊥
      not-work q e f = grind arith

      begun : stage_of w.coord w.coord.table.next.0 ≡ Live → ⊥
      begun e = let l = live-stage w.coord w.coord.table.next.0 e in none-some (find_txn w.coord.table w.coord.table.next) l.txn (undrawn w.coord.table n.kept.whole) l.found

  pub single-there : (i : ℕ) → there.AreSingle (w.segs i)
  single-there i =
      record {
        none = λ g nobody. unless-waits (w.segs i).locks g (λ wanted e. let x = has-slice script w n.well i g wanted e in none-some (local_of (w.segs i) g).suspended x.slice nobody x.is);
        once = λ g wanted e. (has-slice script w n.well i g wanted e).once;
      }
