-- What an answer leaves in the coordinator's journal.
use Rattle.std.specs.Prelude.{Bool, false, ◌&&◌, ◌==◌}
use Rattle.gx_ids.specs.declared.ids.Gxid.{Gxid}
use Rattle.gx_outside.specs.Shelves.{Shelf, HasAdded}
use Rattle.gx_dtx.specs.Rules.{decide_items, is_refused}
use Rattle.gx_dtx.specs.declared.outcome.Outcome.{Outcome}
use Rattle.gx_dtx.specs.declared.outcome.Outcome.TheVariants as outcome

-- the items of this outcome were added, and where an answer that decides is refused, the count rose
abbrev pub HasDecided : Shelf → Shelf → Gxid → Bool → Outcome → Type 0
HasDecided before after g decides o = HasAdded before after (decide_items g o) (decides && is_refused o)

-- the coordinator's own journal has failed
abbrev pub own_failure : Outcome → Bool
own_failure (outcome.Refused i) = i.0 == 0
own_failure _ = false
