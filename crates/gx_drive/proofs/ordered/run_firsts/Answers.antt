use Rattle.std.proofs.Common.{[], arith, subst, sym}
use Rattle.std.specs.Prelude.{map}
use Rattle.gx_script.specs.declared.Script.{Script}
use Rattle.gx_store.specs.Groups.{lets}
use Rattle.gx_store.specs.Language.{IsScript}
use Rattle.gx_law_lone.specs.Victims.{AreLet}
use Rattle.gx_drive.specs.Ordered.{IsFirst}
use Rattle.gx_drive.proofs.Driving.{no-more, no-more-within, none-done, under-way}
use Rattle.gx_drive.proofs.Journals.{as-many}
use Rattle.gx_drive.proofs.Lone.{first-let}
use Rattle.gx_drive.proofs.ordered.run_firsts.Goals as goal

pub loop-turn-init : goal.loop-turn-init
loop-turn-init g c = none-done (IsFirst c.args.world.now.script) (map g.J.Journal.shelf c.args.journals.now) c.args.world.now c.args.agenda.now c.requires.new c.requires.usable (as-many g.J.Journal.shelf c.args.journals.now 17 c.requires.journals) c.requires.empty
    c.requires.agreed

pub returns-in_err-turn-clause-first : goal.returns-in_err-turn-clause-first
returns-in_err-turn-clause-first g c =
    no-more (IsFirst c.args.world.now.script) c.loop-turn.world.run.steps c.turn.new.world.run.steps c.in-Some.event c.loop-turn.invariant.driven
    (subst (λ (s : Script). IsFirst s c.loop-turn.world.run.steps c.in-Some.event) c.loop-turn.invariant.same
    c.in-Some.ensures.first)
    c.turn.ensures.done

pub returns-in_err-turn-clause-within : goal.returns-in_err-turn-clause-within
returns-in_err-turn-clause-within g c =
    no-more-within c.loop-turn.world.run.steps c.turn.new.world.run.steps c.in-Some.event c.args.turns (omega (arith, c.loop-turn.invariant.count, c.loop-turn.auto._turn-end)) c.turn.ensures.done

pub loop-turn-preserved : goal.loop-turn-preserved
loop-turn-preserved g c =
    under-way (IsFirst c.args.world.now.script) c.args.world.now.script c.loop-turn._turn c.loop-turn.world _ c.loop-turn.agenda _ c.in-Some.event _ _ _ c.loop-turn.invariant
    (subst (λ (s : Script). IsFirst s c.loop-turn.world.run.steps c.in-Some.event) c.loop-turn.invariant.same
    c.in-Some.ensures.first)
    c.in_ok-turn.ensures.script c.in_ok-turn.ensures.done c.in_ok-turn.ensures.turned (c.in_ok-turn.ensures.failures _ c.loop-turn.invariant.few)

pub next_event-requires-clause-language : goal.next_event-requires-clause-language
next_event-requires-clause-language g c = subst (λ (s : Script). IsScript s) (sym c.loop-turn.invariant.same) c.requires.language

pub stuck-requires-clause-language : goal.stuck-requires-clause-language
stuck-requires-clause-language g c = subst (λ (s : Script). IsScript s) (sym c.loop-turn.invariant.same) c.requires.language

pub stuck-requires-clause-let_in : goal.stuck-requires-clause-let_in
stuck-requires-clause-let_in g c =
    subst (λ (s : Script). AreLet s (lets s) [] c.loop-turn.world.run.steps) (sym c.loop-turn.invariant.same)
    (first-let c.args.world.now.script c.loop-turn.world.run.steps c.loop-turn.invariant.driven)

pub turn-requires-clause-language : goal.turn-requires-clause-language
turn-requires-clause-language g c = subst (λ (s : Script). IsScript s) (sym c.loop-turn.invariant.same) c.requires.language
