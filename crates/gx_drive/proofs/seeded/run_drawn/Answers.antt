use Rattle.std.proofs.Common.{◌≡◌, [], arith, rules, subst, sym}
use Rattle.std.specs.Prelude.{map}
use Rattle.gx_script.specs.declared.Script.{Script}
use Rattle.gx_store.specs.Groups.{lets}
use Rattle.gx_store.specs.Language.{IsScript}
use Rattle.gx_law_lone.specs.Victims.{AreLet}
use Rattle.gx_drive.specs.Seeded.{IsDrawn, behind, seeded}
use Rattle.gx_drive.proofs.Driving.{no-more, no-more-within, none-done, under-way}
use Rattle.gx_drive.proofs.Journals.{as-many}
use Rattle.gx_drive.proofs.Lone.{drawn-let}
use Rattle.gx_drive.proofs.Words.{behind-next, behind-none, word-draws}
use Rattle.gx_drive.proofs.seeded.run_drawn.Goals as goal

pub loop-turn-init : goal.loop-turn-init
loop-turn-init g c = (
  none-done (IsDrawn c.args.world.now.script c.args.seed) (map g.J.Journal.shelf c.args.journals.now) c.args.world.now c.args.agenda.now c.requires.new c.requires.usable (as-many g.J.Journal.shelf c.args.journals.now 17 c.requires.journals) c.requires.empty
      c.requires.agreed,
  subst (λ g. g ≡ behind 0 (seeded c.args.seed)) (sym c.generator_of-generator.ensures) (behind-none (seeded c.args.seed)),
)

pub returns-in_err-turn-clause-drawn : goal.returns-in_err-turn-clause-drawn
returns-in_err-turn-clause-drawn g c =
    no-more (IsDrawn c.args.world.now.script c.args.seed) c.loop-turn.world.run.steps c.turn.new.world.run.steps c.in-Some.event c.loop-turn.invariant.0.driven
    (subst (λ (s : Script). IsDrawn s c.args.seed c.loop-turn.world.run.steps c.in-Some.event) c.loop-turn.invariant.0.same
    (word-draws c.loop-turn.world.script c.args.seed c.loop-turn._turn _ c.loop-turn.world.run.steps c.in-Some.event _ _ _ c.loop-turn.invariant.0.count c.next_word-word.ensures c.loop-turn.invariant.1
    (search rules) c.in-Some.is c.in_ok-event.ensures.drawn))
    c.turn.ensures.done

pub returns-in_err-turn-clause-within : goal.returns-in_err-turn-clause-within
returns-in_err-turn-clause-within g c =
    no-more-within c.loop-turn.world.run.steps c.turn.new.world.run.steps c.in-Some.event c.args.turns (omega (arith, c.loop-turn.invariant.0.count, c.loop-turn.auto._turn-end)) c.turn.ensures.done

pub loop-turn-preserved : goal.loop-turn-preserved
loop-turn-preserved g c = (
  under-way (IsDrawn c.args.world.now.script c.args.seed) c.args.world.now.script c.loop-turn._turn c.loop-turn.world _ c.loop-turn.agenda _ c.in-Some.event _ _ _ c.loop-turn.invariant.0
      (subst (λ (s : Script). IsDrawn s c.args.seed c.loop-turn.world.run.steps c.in-Some.event) c.loop-turn.invariant.0.same
      (word-draws c.loop-turn.world.script c.args.seed c.loop-turn._turn _ c.loop-turn.world.run.steps c.in-Some.event _ _ _ c.loop-turn.invariant.0.count c.next_word-word.ensures c.loop-turn.invariant.1
      (search rules) c.in-Some.is c.in_ok-event.ensures.drawn))
      c.in_ok-turn.ensures.script c.in_ok-turn.ensures.done c.in_ok-turn.ensures.turned (c.in_ok-turn.ensures.failures _ c.loop-turn.invariant.0.few),
  behind-next c.loop-turn._turn _ (seeded c.args.seed) _ _ c.next_word-word.ensures c.loop-turn.invariant.1,
)

pub drawn_event-requires-clause-language : goal.drawn_event-requires-clause-language
drawn_event-requires-clause-language g c = subst (λ (s : Script). IsScript s) (sym c.loop-turn.invariant.0.same) c.requires.language

pub stuck-requires-clause-language : goal.stuck-requires-clause-language
stuck-requires-clause-language g c = subst (λ (s : Script). IsScript s) (sym c.loop-turn.invariant.0.same) c.requires.language

pub stuck-requires-clause-let_in : goal.stuck-requires-clause-let_in
stuck-requires-clause-let_in g c =
    subst (λ (s : Script). AreLet s (lets s) [] c.loop-turn.world.run.steps) (sym c.loop-turn.invariant.0.same)
    (drawn-let c.args.world.now.script c.args.seed c.loop-turn.world.run.steps c.loop-turn.invariant.0.driven)

pub turn-requires-clause-language : goal.turn-requires-clause-language
turn-requires-clause-language g c = subst (λ (s : Script). IsScript s) (sym c.loop-turn.invariant.0.same) c.requires.language
