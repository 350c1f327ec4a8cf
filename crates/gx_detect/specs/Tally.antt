use Rattle.std.specs.Prelude.{ℕ, Option, None, Some, unwrap_or}
use Rattle.std.specs.BTreeMap.{get}
use Rattle.std.specs.Ordering.{nat_cmp}
use Rattle.std.specs.declared.cmp.Ordering.{Ordering}
use Rattle.gx_ids.specs.declared.ids.Gxid.{Gxid}
use Rattle.gx_ids.specs.declared.ids.Node.{Node}
use Rattle.gx_detect.specs.declared.counts.Counts.{Counts}
use Rattle.gx_detect.specs.declared.node_counts.NodeCounts.{NodeCounts}
use Rattle.gx_detect.specs.declared.place.Place.{Place}
use Rattle.gx_detect.specs.declared.place.Place.TheVariants.{Anywhere, At, Awaited}
use Rattle.gx_detect.specs.declared.tally.Tally.{Tally}

abbrev pub gxid_cmp : Gxid → Gxid → Ordering
gxid_cmp a b = nat_cmp a.0 b.0

abbrev pub node_cmp : Node → Node → Ordering
node_cmp a b = nat_cmp a.0 b.0

abbrev pub count_of : Counts → Gxid → ℕ
count_of counts g = unwrap_or (get gxid_cmp counts.by_gxid g) 0

abbrev pub count_in : Option Counts → Gxid → ℕ
count_in None g = 0
count_in (Some counts) g = count_of counts g

abbrev pub count_on : NodeCounts → Node → Gxid → ℕ
count_on counts n g = count_in (get node_cmp counts.by_node n) g

-- how many wait in the place
abbrev pub count_at : Tally → Place → ℕ
count_at tally (Anywhere g) = count_of tally.anywhere g
count_at tally (At n g) = count_on tally.at n g
count_at tally (Awaited g) = count_of tally.awaited g
