use Rattle.std.proofs.Common.{◌≡◌, ◌↔◌, ◌++◌, [], drop, take, if◌then◌else◌}
use Rattle.gx_ids.specs.declared.ids.Node.{Node}
use Rattle.gx_store.specs.Journals.{is_same_node}
use Rattle.gx_store.specs.Ordered.{AreNumbered}
use Rattle.gx_ordered.specs.Links.{IsLong, clocks_in, link_in}
use Rattle.gx_ordered.proofs.progress.note_marks.Given as goal

abbrev pub invariant-loop-number : goal.invariant-loop-number
invariant-loop-number g l = record {
  long : IsLong l.progress;
  clocks : l.progress.clocks ≡ l.initial.progress.clocks;
  numbers : AreNumbered l.stamp.node g.steps (take l.number l.marks) (drop l.number l.marks) ↔ AreNumbered l.stamp.node g.steps [] l.marks;
  links : (f t : Node) → link_in l.progress f t ≡ link_in l.initial.progress f t ++ (if is_same_node f l.stamp.node then clocks_in l.stamp.clock t (take l.number l.marks) else []);
}
