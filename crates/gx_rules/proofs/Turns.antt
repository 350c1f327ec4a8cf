-- A recheck is one turn and then one turn a victim: what holds of each of them holds of all, at the node and in the world.
use Rattle.std.proofs.Common.{◌≡◌, ℕ, List, [], ◌∷◌, ◌++◌, refl, sym, ap, ◌∙◌}
use Rattle.std.specs.Prelude.{fold}
use Rattle.gx_ids.specs.declared.ids.Gxid.{Gxid}
use Rattle.gx_ids.specs.declared.ids.Node.{Node}
use Rattle.gx_store.specs.declared.event.Event.{Event}
use Rattle.gx_store.specs.declared.mark.Mark.{Mark}
use Rattle.gx_store.specs.declared.mark.Mark.TheVariants.{Sent}
use Rattle.gx_store.specs.declared.run.Step.{Step}
use Rattle.gx_store.specs.Refusals.{the_coordinator}
use Rattle.gx_rules.specs.AtCoordinator.{and_cancels, and_cancels_all, cancel_turn}
use Rattle.gx_rules.specs.Coordinators.{CoordTurn}
use Rattle.gx_rules.specs.Machine.{Letter, World, and_cancelled, coord_did, posted, with_more}

-- AT THE NODE
pub cancels_all-each : (P : CoordTurn → Type 0) → ((turn : CoordTurn) (g : Gxid) → P turn → P (and_cancels turn g)) → (victims : List Gxid) (turn : CoordTurn) → P turn → P (and_cancels_all victims turn)
cancels_all-each P each [] turn p = p
cancels_all-each P each (g ∷ gs) turn p = cancels_all-each P each gs (and_cancels turn g) (each turn g p)

-- IN THE WORLD
pub with_more-last : (before : List Step) (s : Step) (marks : List Mark) → with_more (before ++ s ∷ []) marks ≡ before ++ record s { marks = s.marks ++ marks } ∷ []
with_more-last [] s marks = refl
with_more-last (x ∷ []) s marks = refl
with_more-last (x ∷ y ∷ before) s marks = ap (λ ss. x ∷ ss) (with_more-last (y ∷ before) s marks)

pub posted-append : (from : Node) (clock : ℕ) (xs ys : List Mark) (sent : List Letter) → posted from clock (xs ++ ys) sent ≡ posted from clock ys (posted from clock xs sent)
posted-append from clock [] ys sent = refl
posted-append from clock (Sent to number told ∷ xs) ys sent = posted-append from clock xs ys _
posted-append from clock (m ∷ xs) ys sent = posted-append from clock xs ys sent

did-more : (w : World) (e : Event) (turn : CoordTurn) (g : Gxid) → coord_did w e (and_cancels turn g) ≡ and_cancelled (coord_did w e turn) g
did-more w e turn g =
    ap (λ steps. with_both steps (posted the_coordinator clock (turn.marks ++ more) w.sent)) (sym (with_more-last w.steps step more))
    ∙ ap (with_both (with_more (w.steps ++ step ∷ []) more)) (posted-append the_coordinator clock turn.marks more w.sent)
  where
    clock : ℕ
    clock = turn.coord.clock

    more : List Mark
    more = (cancel_turn turn.coord g).marks

    step : Step
    step = record { stamp = record { clock = turn.coord.clock; node = the_coordinator }; event = e; marks = turn.marks }

    with_both : List Step → List Letter → World
    with_both steps sent = record w { coord = (cancel_turn turn.coord g).coord; steps = steps; sent = sent }

-- The world's step of an event with victims is that of the event by itself, and then one a victim.
pub did-all : (w : World) (e : Event) (victims : List Gxid) (turn : CoordTurn) → coord_did w e (and_cancels_all victims turn) ≡ fold and_cancelled (coord_did w e turn) victims
did-all w e [] turn = refl
did-all w e (g ∷ gs) turn = did-all w e gs (and_cancels turn g) ∙ ap (λ v. fold and_cancelled v gs) (did-more w e turn g)
