-- Locks are given back behind the marks of an end.
use Rattle.std.proofs.Common.{◌≡◌, ◌++◌, ◌∙◌, List, [], ◌∷◌, Result, Ok, Err, OnOk, None, ap, subst}
use Rattle.std.proofs.lemmas.List.{append_assoc}
use Rattle.gx_ids.specs.declared.ids.Gxid.{Gxid}
use Rattle.gx_ids.specs.declared.ids.SessionId.{SessionId}
use Rattle.gx_dtx.specs.Rules.{Turn, on_abort}
use Rattle.gx_store.specs.declared.answer.Refused.{Refused}
use Rattle.gx_store.specs.declared.answer.StmtAnswer.TheVariants as told
use Rattle.gx_store.specs.declared.mark.Mark.{Mark}
use Rattle.gx_store.specs.declared.mark.Mark.TheVariants as mark
use Rattle.gx_store.specs.Refusals.{the_coordinator}
use Rattle.gx_rules.specs.AtCoordinator.{answer_mark, is_committed, is_refused, rolls_back}
use Rattle.gx_rules.specs.Coordinators as rule
use Rattle.gx_rules.specs.Locks.{release_marks, released}
use Rattle.gx_coord.specs.Books.{IsFramed, coord_of}
use Rattle.gx_coord.specs.Lines.{closes_block}
use Rattle.gx_coord.specs.Locking.{gives_back, tells_abort, tells_commit, tells_refusal}
use Rattle.gx_coord.specs.Turns.{IsTurn, has_called}
use Rattle.gx_coord.specs.declared.coord.Coord.{Coord}
use Rattle.gx_coord.proofs.Turned.{framed-trans}

pub back-turn : (old mid new : Coord) (before middle after : List Mark) (g : Gxid) (t : rule.CoordTurn) → IsTurn old mid before middle t → IsFramed mid new → coord_of new ≡ record (coord_of mid) { locks = released mid.locks g } → after ≡ middle ++ release_marks the_coordinator mid.locks g → IsTurn old new before after (gives_back g t)
back-turn old mid new before middle after g t h f e m =
    record {
      framed = framed-trans old mid new h.framed f;
      coord = e ∙ ap (λ (c : rule.Coord). record c { locks = released c.locks g }) h.coord;
      marks = m ∙ ap (λ ms. ms ++ release_marks the_coordinator mid.locks g) h.marks
          ∙ append_assoc before t.marks (release_marks the_coordinator mid.locks g)
          ∙ ap (λ (c : rule.Coord). before ++ (t.marks ++ release_marks the_coordinator c.locks g)) h.coord;
    }

back-committed : (old new : Coord) (before after : List Mark) (g : Gxid) → IsTurn old new before after (gives_back g (tells_commit (coord_of old) g)) → IsTurn old new before after (is_committed (coord_of old) g (has_called old))
back-committed old new before after g h = record { framed = h.framed; coord = h.coord; marks = h.marks }

back-refused : (old new : Coord) (before after : List Mark) (g : Gxid) (reason : Refused) → IsTurn old new before after (gives_back g (tells_refusal (coord_of old) g reason)) → IsTurn old new before after (is_refused (coord_of old) g (has_called old) [] reason)
back-refused old new before after g reason h = record { framed = h.framed; coord = h.coord; marks = h.marks }

pub back-rolled : (old new : Coord) (before after : List Mark) (g : Gxid) (turn : Turn) → IsTurn old new before after (gives_back g (tells_abort (coord_of old) g turn)) → IsTurn old new before after (rolls_back (coord_of old) g [] turn)
back-rolled old new before after g turn h = record { framed = h.framed; coord = h.coord; marks = h.marks }

-- where the locks are given back at the last call
pub on_back-committed : {A B : Type 0} (r : Result A B) (old mid new : Coord) (before middle after : List Mark) (g : Gxid) → IsTurn old mid before middle (tells_commit (coord_of old) g) → OnOk r (IsFramed mid new) → OnOk r (coord_of new ≡ record (coord_of mid) { locks = released mid.locks g }) → OnOk r (after ≡ middle ++ release_marks the_coordinator mid.locks g) → OnOk r (IsTurn old new before after (is_committed (coord_of old) g (has_called old)))
on_back-committed (Ok x) old mid new before middle after g h f e m = back-committed old new before after g (back-turn old mid new before middle after g (tells_commit (coord_of old) g) h f e m)
on_back-committed (Err x) old mid new before middle after g h f e m = tt

pub on_back-refused : {A B : Type 0} (r : Result A B) (old mid new : Coord) (before middle after : List Mark) (g : Gxid) (reason : Refused) → IsTurn old mid before middle (tells_refusal (coord_of old) g reason) → OnOk r (IsFramed mid new) → OnOk r (coord_of new ≡ record (coord_of mid) { locks = released mid.locks g }) → OnOk r (after ≡ middle ++ release_marks the_coordinator mid.locks g) → OnOk r (IsTurn old new before after (is_refused (coord_of old) g (has_called old) [] reason))
on_back-refused (Ok x) old mid new before middle after g reason h f e m = back-refused old new before after g reason (back-turn old mid new before middle after g (tells_refusal (coord_of old) g reason) h f e m)
on_back-refused (Err x) old mid new before middle after g reason h f e m = tt

-- behind the answer to ROLLBACK
abbrev said : rule.Coord → SessionId → Gxid → Turn → rule.CoordTurn
said c s g turn = record { coord = (tells_abort c g turn).coord; marks = mark.Abort g ∷ answer_mark c s told.Rollback ∷ []; outs = []; item = None }

said-turn : (old mid : Coord) (s : SessionId) (g : Gxid) (before middle after : List Mark) (turn : Turn) → IsTurn old mid before middle (tells_abort (coord_of old) g turn) → after ≡ middle ++ answer_mark (coord_of mid) s told.Rollback ∷ [] → IsTurn old mid before after (said (coord_of old) s g turn)
said-turn old mid s g before middle after turn h e =
    record {
      framed = h.framed;
      coord = h.coord;
      marks = e
          ∙ ap (λ xs. xs ++ answer_mark (coord_of mid) s told.Rollback ∷ []) h.marks
          ∙ append_assoc before (mark.Abort g ∷ []) (answer_mark (coord_of mid) s told.Rollback ∷ [])
          ∙ ap (λ (x : rule.Coord). before ++ mark.Abort g ∷ answer_mark x s told.Rollback ∷ []) h.coord;
    }

closed : (old new : Coord) (before after : List Mark) (s : SessionId) (g : Gxid) (turn : Turn) → IsTurn old new before after (gives_back g (said (coord_of old) s g turn)) → IsTurn old new before after (rolls_back (coord_of old) g (answer_mark (coord_of old) s told.Rollback ∷ []) turn)
closed old new before after s g turn h = record { framed = h.framed; coord = h.coord; marks = h.marks }

pub block-closed : (old mid new : Coord) (s : SessionId) (g : Gxid) (before middle late after : List Mark) → IsTurn old mid before middle (tells_abort (coord_of old) g (on_abort old.dtx g)) → late ≡ middle ++ answer_mark (coord_of mid) s told.Rollback ∷ [] → IsFramed mid new → coord_of new ≡ record (coord_of mid) { locks = released mid.locks g } → after ≡ late ++ release_marks the_coordinator mid.locks g → g ≡ ((coord_of old).sessions s.0).transaction → IsTurn old new before after (closes_block (coord_of old) s)
block-closed old mid new s g before middle late after h e f k m q =
    subst (λ (x : Gxid). IsTurn old new before after (rolls_back (coord_of old) x (answer_mark (coord_of old) s told.Rollback ∷ []) (on_abort old.dtx x))) q
    (closed old new before after s g (on_abort old.dtx g)
    (back-turn old mid new before late after g (said (coord_of old) s g (on_abort old.dtx g)) (said-turn old mid s g before middle late (on_abort old.dtx g) h e) f k m))
