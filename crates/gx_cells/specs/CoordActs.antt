-- What actions of the coordinator do.
use Rattle.std.specs.Prelude.{◌≡◌, ℕ, ◌+◌, List, ◌++◌, map, slice_get, Some}
use Rattle.atomic_blocks.specs.Laid.{WebId}
use Rattle.gx_links.specs.Ends.{OutEnd}
use Rattle.gx_store.specs.declared.mark.Mark.{Mark}
use Rattle.gx_law_merge.specs.Apart.{sent_in_step}
use Rattle.gx_cells.specs.declared.coord_history.CoordHistory.{CoordHistory}

-- the link at a place has what a step's marks have sent to its segment, the one of the next number
abbrev pub HasSentOn : ℕ → ℕ → List Mark → List OutEnd → OutEnd → Type 0
HasSentOn place clock marks olds new = (old : OutEnd) × (slice_get olds place ≡ Some old) × (new.sent ≡ old.sent ++ sent_in_step (record { 0 = place + 1 }) clock marks)

-- each link has
abbrev pub AreSentOn : ℕ → List Mark → List OutEnd → List OutEnd → Type 0
AreSentOn clock marks olds news = (place : ℕ) (new : OutEnd) → slice_get news place ≡ Some new → HasSentOn place clock marks olds new

abbrev pub links_of : List OutEnd → List WebId
links_of outs = map (λ out. out.link) outs

-- the history has gone on, on the same links
abbrev pub HasCoordGoneOn : CoordHistory → CoordHistory → Type 0
HasCoordGoneOn old new = (new ≡ record old { steps = new.steps; outs = new.outs; slots = new.slots }) × (links_of new.outs.items ≡ links_of old.outs.items)
