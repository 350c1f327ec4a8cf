use Rattle.std.proofs.Common.{◌≡◌, []}
use Rattle.std.proofs.lemmas.List.Elements.{All-map}
use Rattle.gx_outside.specs.Memory.{shelf_of}
use Rattle.gx_outside.specs.Shelves.{Shelf}
use Rattle.gx_meet.proofs.meeting.new_journals.Goals as goal

pub returns-clause-empty : goal.returns-clause-empty
returns-clause-empty c = All-map (λ (shelf : Shelf). shelf.items ≡ []) shelf_of c.loop-before.journals.items c.loop-before.invariant.empty
