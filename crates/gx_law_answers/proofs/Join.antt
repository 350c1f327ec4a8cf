-- Every run is a legal history.
use Rattle.std.proofs.Common.{◌≡◌, ◌≤◌, List, [], ◌∷◌, refl, subst}
use Rattle.gx_ids.specs.declared.ids.Cid.{Cid}
use Rattle.gx_ids.specs.declared.ids.Gxid.{Gxid}
use Rattle.gx_ids.specs.declared.ids.SessionId.{SessionId}
use Rattle.gx_tree.specs.declared.stmt.Level.{Level}
use Rattle.gx_tree.specs.declared.stmt.Stmt.{Stmt}
use Rattle.gx_msg.specs.declared.reply.Reply.TheVariants as reply
use Rattle.gx_script.specs.declared.Script.{Script}
use Rattle.gx_store.specs.declared.event.Event.{Event}
use Rattle.gx_store.specs.declared.mark.Mark.{Mark}
use Rattle.gx_store.specs.declared.mark.Mark.TheVariants as mark
use Rattle.gx_store.specs.declared.run.Run.{Run}
use Rattle.gx_store.specs.declared.run.Step.{Step}
use Rattle.gx_store.specs.Commands.{RunsCommand}
use Rattle.gx_store.specs.Points.{marks_in, starts_by}
use Rattle.gx_store.specs.Legal.{AreLegalSteps}
use Rattle.gx_store.specs.Runs.{IsLegalHistory}
use Rattle.gx_rules.specs.Machine.{run_of, world_of}
use Rattle.gx_rules.specs.System.{IsSystemRun}
use Rattle.gx_law_order.specs.Lists.{Each}
use Rattle.gx_law_order.proofs.Machines.{system-led}
use Rattle.gx_law_order.specs.Finish.{AreCommandsTold, IsRestShown, point_at}
use Rattle.gx_law_order.specs.Gathering.{IsGathered}
use Rattle.gx_store.specs.Language.{AreLinesNumbered}
use Rattle.gx_law_order.proofs.Said.{CalmFor}
use Rattle.gx_law_order.proofs.Remaining.{all-legal}
use Rattle.gx_law_order.proofs.Legality.{sessions-stand}
use Rattle.gx_law_answers.specs.Cancelled.{AreVictimsCancelled}
use Rattle.gx_law_answers.specs.Earned.{Events}
use Rattle.gx_law_answers.specs.Keyed.{AreInsertsFilled, AreRowsKeyed}
use Rattle.gx_law_answers.specs.Once.{AreSnapshotsOne}
use Rattle.gx_law_writes.proofs.Statements.{IsOf, command-is}
use Rattle.gx_law_answers.proofs.Gathered.{insert-tells}
use Rattle.gx_law_answers.proofs.Heard.{heard-now}
use Rattle.gx_law_answers.proofs.Segs.{segments-legal}
use Rattle.gx_law_answers.proofs.Snaps.{one-snapshot}
use Rattle.gx_law_answers.proofs.Caused.{caused}
use Rattle.gx_law_answers.proofs.Told.{tells-by}

module _ (script : Script) (some : 1 ≤ script.segments) (numbered : AreLinesNumbered [] script.lines) (keyed : AreRowsKeyed script) (once : AreSnapshotsOne script) (filled : AreInsertsFilled script) (cancelled : AreVictimsCancelled script) where
  module _ (es : Events) where
    abbrev steps : List Step
    steps = (world_of script es).steps

    its : (now : Event) (earlier later : List Mark) (session : SessionId) (stmt : Stmt) (level : Level) (g : Gxid) (c : Cid) → starts_by session now ≡ 0 → Each (CalmFor session) earlier → RunsCommand script (point_at (world_of script es).steps now earlier later) session stmt level g c → IsOf script (marks_in (world_of script es).steps) stmt level g c
    its now earlier later session stmt level g c none calm runs = command-is script numbered (world_of script es) (sessions-stand script some es) now earlier later session stmt level g c none calm runs

    told : AreCommandsTold script (world_of script es).steps
    told = record {
      told = λ now later session stmt level g c answer none runs x.
          let is = its now [] later session stmt level g c none tt runs in
          tells-by script some numbered keyed es (one-snapshot script some once es) now [] later session level g c answer tt tt tt stmt is runs x
          (λ t v e. insert-tells script some numbered filled es t v level g c (subst (λ l. IsOf script (marks_in steps) l level g c) e is) now [] later answer
          (subst (λ l. IsGathered script (point_at steps now [] later) g c l answer) e x));
      committed = λ now later session stmt level g c answer none runs x.
          let is = its now (mark.Commit g ∷ []) later session stmt level g c none (tt, tt) runs in
          tells-by script some numbered keyed es (one-snapshot script some once es) now (mark.Commit g ∷ []) later session level g c answer (tt, tt) (tt, tt) (tt, tt) stmt is runs x
          (λ t v e. insert-tells script some numbered filled es t v level g c (subst (λ l. IsOf script (marks_in steps) l level g c) e is) now (mark.Commit g ∷ []) later answer
          (subst (λ l. IsGathered script (point_at steps now (mark.Commit g ∷ []) later) g c l answer) e x));
      refused = λ now later session stmt level g c segment cause none runs x.
          let h = heard-now script some numbered es segment _ x.number x.sent in
          caused script some numbered es now later level g c segment h.segment.0 stmt (its now (mark.Abort g ∷ []) later session stmt level g c none (tt, tt) runs) cause x (h.word_earned g (reply.Failed c cause) refl);
    }

  rest-shown : IsRestShown script
  rest-shown = record { commands = λ es. told es; segments = λ es. segments-legal script some numbered es; verdicts = cancelled }

  pub legal : (es : Events) → IsLegalHistory script (run_of (world_of script es))
  legal es = all-legal script some rest-shown es

  pub system-legal : (run : Run) → IsSystemRun script run → IsLegalHistory script run
  system-legal run x =
      let m = system-led script run x in
      subst (λ ss. AreLegalSteps script [] ss) m.is (legal m.events)
