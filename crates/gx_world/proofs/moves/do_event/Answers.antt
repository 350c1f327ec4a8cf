use Rattle.std.proofs.Common.{◌≡◌, Option, Some, false, sym}
use Rattle.gx_ids.specs.declared.ids.Node.{Node}
use Rattle.gx_law_order.specs.Journals.{item_at}
use Rattle.gx_law_runs.specs.Replays.{world_behind}
use Rattle.gx_rules.specs.Machine.{at_node}
use Rattle.gx_store.specs.declared.node.NodeEvent.{NodeEvent}
use Rattle.gx_world.proofs.Answers.{on_ok}
use Rattle.gx_world.proofs.Coming.{here_in, is-here}
use Rattle.gx_world.proofs.Doing.{admitted-at, done-at, few-at, heard-at, next-at, room-at}
use Rattle.gx_world.proofs.Journals.{those-alike}
use Rattle.gx_world.proofs.moves.do_event.Goals as goal

pub turn-requires : goal.turn-requires
turn-requires g c κs within =
    let w = world_behind c.args.network.now.script.value c.args.network.now.run.steps in
    let there : at_node w c.args.event ≡ Some (here_in w c.args.event) = is-here c.args.network.now.script.value w c.args.event c.requires.admitted in (
      within.0,
      (
        within.1,
        (
          c.requires.is.stands c.requires.usable,
          (
            there,
            (
              few-at c.args.network.now c.requires.is c.requires.usable c.args.event _ there c.requires.admitted c.event_node.result c.event_node.ensures,
              (
                admitted-at c.args.network.now c.requires.is c.requires.usable c.args.event _ there c.requires.admitted c.event_node.result c.event_node.ensures,
                (
                  next-at c.args.network.now c.requires.is c.requires.usable c.args.event _ there c.requires.admitted c.event_node.result c.event_node.ensures,
                  (
                    heard-at c.args.network.now c.requires.is c.requires.usable c.args.event _ there c.requires.admitted c.event_node.result c.event_node.ensures c.requires.room,
                    (
                      c.requires.journals,
                      room-at c.args.network.now c.requires.is c.requires.usable c.args.event _ there c.requires.admitted c.event_node.result c.event_node.ensures c.requires.room,
                    ),
                  ),
                ),
              ),
            ),
          ),
        ),
      ),
    )

pub returns-clause-done : goal.returns-clause-done
returns-clause-done g c =
    let w = world_behind c.args.network.now.script.value c.args.network.now.run.steps in
    on_ok c.turn.result _ _ c.turn.ensures.moved
    (λ m. done-at c.args.network.now c.requires.is c.requires.usable c.args.event _ (is-here c.args.network.now.script.value w c.args.event c.requires.admitted) c.requires.admitted c.event_node.result c.event_node.ensures c.turn.new.network _ _ m)

pub returns-clause-later : goal.returns-clause-later
returns-clause-later g c =
    let script = c.args.network.now.script.value in
    let w = world_behind script c.args.network.now.run.steps in
    let at = c.event_node.result in
    those-alike (λ (n : Node). n) (λ (n : Node). item_at script w n false (at_node w c.args.event)) c.event_node.ensures
    (those-alike (λ (here : Option NodeEvent). at) (item_at script w at false) (sym (is-here script w c.args.event c.requires.admitted)) c.turn.ensures.later)
