use Rattle.std.proofs.Common.{◌≡◌, Some, true, false, subst, sym, arith}
use Rattle.gx_ids.specs.declared.ids.Node.{Node}
use Rattle.gx_law_order.specs.Journals.{item_at}
use Rattle.gx_node.proofs.Later.{later-alike}
use Rattle.gx_rules.specs.Machine.{can_here}
use Rattle.gx_world.specs.Turns.{IsNext}
use Rattle.gx_world.proofs.Answers.{on_ok}
use Rattle.gx_world.proofs.Journals.{at-zero, later-at, moved-at, moved-first}
use Rattle.gx_world.proofs.moves.turn.Goals as goal

pub coord_turn-requires : goal.coord_turn-requires
coord_turn-requires g c κs within = (
  within,
  (
    c.requires.1.1.0,
    (
      c.requires.1.1.1.0,
      (
        subst (λ n. can_here c.args.network.now.script.value g.moment.w n (Some g.moment.here) ≡ true) (at-zero c.args.at c.if-at-eq0.true) c.requires.1.1.1.1.1.0,
        (
          subst (λ n. IsNext c.args.network.now.script.value g.moment.w c.args.event n g.moment.here) (at-zero c.args.at c.if-at-eq0.true) c.requires.1.1.1.1.1.1.0,
          (c.requires.1.1.1.1.1.1.1.0, c.requires.1.1.1.1.1.1.1.1.1),
        ),
      ),
    ),
  ),
)

pub returns-then-at-eq0-clause-moved : goal.returns-then-at-eq0-clause-moved
returns-then-at-eq0-clause-moved g c =
    on_ok c.coord_turn.result _ _ c.coord_turn.ensures.turned
    (λ t. moved-first g.J.Journal.shelf c.args.journals.now _ g.moment.w _ c.args.at _ c.coord_turn.new.network c.index-journals-0.result c.coord_turn.new.journal c.if-at-eq0.true (omega (arith, c.requires.1.1.1.1.1.1.1.1.0)) t)

pub returns-else-at-eq0-clause-moved : goal.returns-else-at-eq0-clause-moved
returns-else-at-eq0-clause-moved g c =
    on_ok c.seg_turn.result _ _ c.seg_turn.ensures.turned
    (λ t. moved-at g.J.Journal.shelf c.args.journals.now _ g.moment.w _ c.args.at _ c.seg_turn.new.network c.index-journals-from.result c.seg_turn.new.journal c.from.result (omega (arith, c.from.ensures)) (omega (arith, c.from.ensures, c.requires.1.1.1.1.1.1.1.1.0, c.requires.1.1.1.1.0, c.requires.1.1.0.language.few_segments)) t)

pub returns-then-at-eq0-clause-later : goal.returns-then-at-eq0-clause-later
returns-then-at-eq0-clause-later g c =
    later-at c.args.at _ g.J.Journal.shelf c.args.journals.now c.index-journals-0.result c.coord_turn.new.journal 0 c.if-at-eq0.true (omega (arith, c.requires.1.1.1.1.1.1.1.1.0))
    (later-alike (λ (n : Node). item_at c.args.network.now.script.value g.moment.w n false (Some g.moment.here)) (sym (at-zero c.args.at c.if-at-eq0.true)) c.coord_turn.ensures.later)

pub returns-else-at-eq0-clause-later : goal.returns-else-at-eq0-clause-later
returns-else-at-eq0-clause-later g c =
    later-at c.args.at _ g.J.Journal.shelf c.args.journals.now c.index-journals-from.result c.seg_turn.new.journal c.from.result (omega (arith, c.from.ensures))
    (omega (arith, c.from.ensures, c.requires.1.1.1.1.1.1.1.1.0, c.requires.1.1.1.1.0, c.requires.1.1.0.language.few_segments)) c.seg_turn.ensures.later
