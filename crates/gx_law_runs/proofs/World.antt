-- In every world the links say what the coordinator and the segments have sent.
use Rattle.std.proofs.Common.{◌≡◌, ◌≤◌, ℕ, List, [], ◌∷◌, ◌++◌, Bool, refl, sym, subst, ap, ◌∙◌}
use Rattle.gx_ids.specs.declared.ids.Gxid.{Gxid}
use Rattle.gx_ids.specs.declared.ids.Node.{Node}
use Rattle.gx_script.specs.declared.Script.{Script}
use Rattle.gx_store.specs.declared.event.Event.{Event}
use Rattle.gx_store.specs.declared.mark.Mark.{Mark}
use Rattle.gx_store.specs.declared.run.Step.{Step}
use Rattle.gx_store.specs.Refusals.{the_coordinator}
use Rattle.gx_rules.specs.AtCoordinator.{cancel_turn, coord_turn}
use Rattle.gx_rules.specs.AtSegment.{seg_rule}
use Rattle.gx_rules.specs.Coordinators.{CoordTurn}
use Rattle.gx_rules.specs.Machine.{World, and_cancelled, new_world, posted, with_more, world_of}
use Rattle.gx_rules.proofs.Turns.{posted-append, with_more-last}
use Rattle.gx_law_order.specs.Moves.{Move, world_by}
use Rattle.gx_law_order.proofs.Induction.{at-moves}
use Rattle.gx_law_order.proofs.Moves.{HasNamed, moves_after, world-moves}
use Rattle.gx_law_order.proofs.Ordered.{Well, moves_well}
use Rattle.gx_law_order.proofs.Sent.{at}
use Rattle.gx_law_runs.proofs.Links.{DoLinksAgree, letters-last, letters_from, links-agree}

-- the letters of a world are those of its steps
abbrev AreOfSteps : World → Type 0
AreOfSteps w = w.sent ≡ letters_from [] w.steps

-- the last step sends more
letters-more : (before : List Step) (s : Step) (more : List Mark) → letters_from [] (with_more (before ++ s ∷ []) more) ≡ posted s.stamp.node s.stamp.clock more (letters_from [] (before ++ s ∷ []))
letters-more before s more =
    ap (letters_from []) (with_more-last before s more)
    ∙ letters-last [] before (record s { marks = s.marks ++ more })
    ∙ posted-append s.stamp.node s.stamp.clock s.marks more (letters_from [] before)
    ∙ ap (posted s.stamp.node s.stamp.clock more) (sym (letters-last [] before s))

victim-letters : (w : World) (g : Gxid) → HasNamed w.steps w.coord.clock w.coord.rounds g → AreOfSteps w → AreOfSteps (and_cancelled w g)
victim-letters w g h q =
    ap (posted the_coordinator w.coord.clock more) (q ∙ ap (letters_from []) h.is)
    ∙ ap (λ n. posted n w.coord.clock more (letters_from [] (h.before ++ h.step ∷ []))) (sym h.node)
    ∙ ap (λ k. posted h.step.stamp.node k more (letters_from [] (h.before ++ h.step ∷ []))) (sym h.clock_is)
    ∙ sym (ap (λ ss. letters_from [] (with_more ss more)) h.is ∙ letters-more h.before h.step more)
  where
    more : List Mark
    more = (cancel_turn w.coord g).marks

-- in all of them, of every link
abbrev pub DoAllLinksAgree : World → Type 0
DoAllLinksAgree w = (from to : Node) (number : ℕ) → DoLinksAgree w.steps w.sent from to number

module _ (script : Script) (some : 1 ≤ script.segments) where
  moves-letters : (ms : List Move) → AreOfSteps (world_by script ms)
  moves-letters =
      at-moves script some (Well script) AreOfSteps (moves_well script some) refl
      (λ w k q e x fails t ok next. let turn : CoordTurn = coord_turn script w.coord x fails in ap (posted the_coordinator turn.coord.clock turn.marks) q ∙ sym (letters-last [] w.steps _)) (λ w k q g h next. victim-letters w g h q)
      (λ w k q e x fails i place t ok next. ap (posted (at i) (seg_rule script (w.segs i) x fails).seg.clock (seg_rule script (w.segs i) x fails).marks) q ∙ sym (letters-last [] w.steps _))

  pub moves-linked : (ms : List Move) → DoAllLinksAgree (world_by script ms)
  moves-linked ms from to number =
      subst (λ ls. DoLinksAgree (world_by script ms).steps ls from to number) (sym (moves-letters ms)) (links-agree script (world_by script ms).steps from to number (moves_well script some ms).steps)

  pub world-letters : (es : List (Event × Bool)) → DoAllLinksAgree (world_of script es)
  world-letters es = subst DoAllLinksAgree (sym (world-moves script es)) (moves-linked (moves_after script new_world es))
