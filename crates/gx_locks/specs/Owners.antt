-- The records of transactions, and free ones.
use Rattle.std.specs.Prelude.{Bool, false, List, Option, Some, None, ◌==◌, ◌&&◌, find, length}
use Rattle.gx_ids.specs.declared.ids.Gxid.{Gxid}
use Rattle.gx_locks.specs.declared.owner.Owner.{Owner}
use Rattle.gx_locks.specs.Rack.{Rack, no_shelf}

-- whether the record is the transaction's
abbrev pub is_owner : Gxid → Owner → Bool
is_owner g owner = owner.is_live && (owner.gxid.0 == g.0)

-- the record of a transaction, where it has one
abbrev pub owner_in : List Owner → Gxid → Option Owner
owner_in owners g = find (is_owner g) owners

-- what its transaction holds
abbrev pub holds_of : Option Owner → Rack
holds_of None = no_shelf
holds_of (Some owner) = owner.holds

-- who holds its transaction's end
abbrev pub end_of : Option Owner → Rack
end_of None = no_shelf
end_of (Some owner) = owner.end

-- whether nothing is held and nothing may come
abbrev pub is_idle : Rack → Bool
is_idle rack = (length rack.holds == 0) && (rack.places == 0)

-- whether the record is kept for nothing
abbrev pub is_spent : Option Owner → Bool
is_spent None = false
is_spent (Some owner) = is_idle owner.holds && is_idle owner.end
