-- What is held says nothing of rounds, messages and clocks.
use Rattle.std.proofs.Common.{ℕ, List, Option}
use Rattle.gx_tree.specs.declared.schema.Schema.{Schema}
use Rattle.gx_waits.specs.declared.graph.LocalGraph.{LocalGraph}
use Rattle.gx_rules.specs.Segments.{Seg}
use Rattle.gx_slices.specs.Agrees.{IsHeld}
use Rattle.gx_slices.specs.declared.held.Held.{Held}

pub IsHeld-aside : (tables : List Schema) (held : Held) (s : Seg) (round : ℕ) (graph : Option LocalGraph) (sent clock : ℕ) → IsHeld tables held s → IsHeld tables held (record s { round = round; graph = graph; sent = sent; clock = clock })
IsHeld-aside tables held s round graph sent clock is = record {
  horizon = is.horizon;
  locals = is.locals;
  kept = is.kept;
  dropped = is.dropped;
  holders = is.holders;
  writes = is.writes;
  wrote = is.wrote;
  committed = is.committed;
  unaborted = is.unaborted;
  came = is.came;
  writers = record { low = is.writers.low; own = is.writers.own };
  typed = is.typed;
  locks = is.locks;
  owned = is.owned;
  waits = record {
    standing = is.waits.standing;
    right = λ g w e. let right = is.waits.right g w e in record { alive = right.alive; open_here = right.open_here; came = right.came; reads = right.reads; right = right.right; new = right.new; room = right.room };
  };
}
