-- How a transaction asks for its table's lock here, and gives its locks back.
use Rattle.std.specs.Prelude.{Bool, [], ◌∷◌, ◌++◌, None}
use Rattle.gx_ids.specs.declared.ids.Gxid.{Gxid}
use Rattle.gx_dtx.specs.Rules.{Turn}
use Rattle.gx_waits.specs.declared.claim.Claim.{Claim}
use Rattle.gx_script.specs.Session.{after_done, after_refused}
use Rattle.gx_store.specs.declared.answer.Refused.{Refused}
use Rattle.gx_store.specs.declared.answer.StmtAnswer.TheVariants as told
use Rattle.gx_store.specs.declared.mark.Mark.TheVariants as mark
use Rattle.gx_store.specs.Refusals.{the_coordinator}
use Rattle.gx_rules.specs.AtCoordinator.{answer_at_commit, answer_mark}
use Rattle.gx_rules.specs.Coordinators as rule
use Rattle.gx_rules.specs.Locks.{release_marks, released}
use Rattle.gx_node.specs.Locking.{asked_locks}

-- a request that is granted or not
abbrev pub asked : rule.Coord → Claim → Bool → rule.Coord
asked c wanted granted = record c { locks = asked_locks c.locks wanted granted }

-- ends of transactions, before their locks are given back
abbrev pub tells_commit : rule.Coord → Gxid → rule.CoordTurn
tells_commit c g =
    let s = (rule.work_of c g).session in
    record {
      coord = rule.with_state (rule.with_work c g rule.no_work) s (after_done (rule.session_of c s).state);
      marks = mark.Commit g ∷ answer_mark c s (answer_at_commit (rule.work_of c g) (rule.session_of c s).state.pending) ∷ [];
      outs = [];
      item = None;
    }

abbrev pub tells_refusal : rule.Coord → Gxid → Refused → rule.CoordTurn
tells_refusal c g reason =
    let s = (rule.work_of c g).session in
    record {
      coord = rule.with_state (rule.with_work c g rule.no_work) s (after_refused (rule.session_of c s).state);
      marks = mark.Abort g ∷ answer_mark c s (told.Refused reason) ∷ [];
      outs = [];
      item = None;
    }

abbrev pub tells_abort : rule.Coord → Gxid → Turn → rule.CoordTurn
tells_abort c g turn = record { coord = record (rule.with_work c g rule.no_work) { table = turn.table }; marks = mark.Abort g ∷ []; outs = []; item = None }

abbrev pub gives_back : Gxid → rule.CoordTurn → rule.CoordTurn
gives_back g turn =
    record turn { coord = record turn.coord { locks = released turn.coord.locks g }; marks = turn.marks ++ release_marks the_coordinator turn.coord.locks g }
