use Rattle.std.proofs.Common.{◌≡◌, ◌∙◌, [], arith, rules, sym}
use Rattle.std.proofs.lemmas.List.Elements.{All-map}
use Rattle.gx_outside.specs.Memory.{shelf_of}
use Rattle.gx_outside.specs.Shelves.{Shelf}
use Rattle.gx_judge.proofs.Below.{more-below, none-below}
use Rattle.gx_judge.proofs.journals.journals_for.Goals as goal

pub loop-node-init : goal.loop-node-init
loop-node-init c = record { are = c.new-journals.ensures.items ∙ sym (none-below c.args.refused); count = search rules; empty = search rules }

pub loop-node-preserved : goal.loop-node-preserved
loop-node-preserved c = record {
  are = more-below c.args.refused c.loop-node.node c.loop-node.journals.items c.push.new.self.items c.in_ok-journal_at.field-0 c.loop-node.invariant.are c.in_ok-journal_at.ensures c.in_ok-push.ensures.items;
  count = search (rules, arith);
  empty = search rules;
}

pub returns-clause-empty : goal.returns-clause-empty
returns-clause-empty c = All-map (λ (shelf : Shelf). shelf.items ≡ []) shelf_of c.loop-node.journals.items c.loop-node.invariant.empty
