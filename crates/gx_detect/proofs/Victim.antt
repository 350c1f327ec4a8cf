-- Victims are the youngest of deadlocks.
use Rattle.std.proofs.Common.{List, [], ◌∷◌}
use Rattle.std.specs.Prelude.{Contains, filter, not}
use Rattle.gx_ids.specs.declared.ids.Gxid.{Gxid}
use Rattle.gx_waits.specs.declared.placed_edge.PlacedEdge.{PlacedEdge}
use Rattle.gx_waits.specs.Closed.{IsNamed, IsNamedInStuck, IsStuck}
use Rattle.gx_waits.specs.Edge.{names}
use Rattle.gx_waits.specs.Victims.{AreVictims, IsGreatestInCore, IsVerdict}
use Rattle.gx_waits.proofs.Members.{has_from_contains, all_from_each, each_from_all}
use Rattle.gx_waits.proofs.StuckWaits.{stuck_never_finishes}
use Rattle.gx_detect.specs.Core.{HaveClosedCores, IsCore}
use Rattle.gx_detect.proofs.CoreNames.{core_name}
use Rattle.gx_detect.specs.Deadlocks.{AreVictimsInTurn, IsVictim, NamesVictims, naming}

stands : (edges : List PlacedEdge) (e : PlacedEdge) → IsStuck edges e → Contains edges e
stands edges e stuck = each_from_all (λ f. Contains edges f) stuck.set stuck.within e (has_from_contains e stuck.set stuck.member)

is_victim : (edges : List PlacedEdge) (v : Gxid) → IsGreatestInCore edges v → ((core : List PlacedEdge) × IsCore edges core × IsNamed core v)
    → IsVictim edges v
is_victim edges v greatest (core, is, named) = record {
  set = core;
  deadlock = record {
    standing = all_from_each (λ e. Contains edges e) core (λ e h. stands edges e (each_from_all (λ f. IsStuck edges f) core is.part.stuck e h));
    closed = is.closed;
    waited_for = is.part.waited_for;
    never = λ w n. stuck_never_finishes edges w
        (n.0, each_from_all (λ f. IsStuck edges f) core is.part.stuck n.0 (has_from_contains n.0 core n.1), n.2);
    whole = is.whole;
  };
  youngest = record { member = named; youngest = λ w n. greatest.greatest w (core_name edges core w is n) };
}

are_in_turn : (edges : List PlacedEdge) (victims : List Gxid) → AreVictims edges victims → HaveClosedCores edges victims
    → AreVictimsInTurn edges victims
are_in_turn edges [] are have = tt
are_in_turn edges (v ∷ victims) are have =
    (is_victim edges v are.0 have.0, are_in_turn (filter (λ e. not (names v e.edge)) edges) victims are.1 have.1)

module _ (edges : List PlacedEdge) (active : List Gxid) (all_active : (v : Gxid) → IsNamedInStuck edges v → Contains active v) where
  pub is_verdict : (victims : List Gxid) → AreVictims edges victims → IsVerdict edges active (naming victims)
  is_verdict [] are = are
  is_verdict (v ∷ victims) are =
      let n = are.0.named in
      ((n.0, each_from_all (λ f. IsStuck edges f) n.1.part n.1.is_part.stuck n.0 (has_from_contains n.0 n.1.part n.1.member)), all_active, are)

pub names_victims : (edges : List PlacedEdge) (victims : List Gxid) → AreVictims edges victims → HaveClosedCores edges victims
    → NamesVictims edges (naming victims)
names_victims edges [] are have = tt
names_victims edges (v ∷ victims) are have = are_in_turn edges (v ∷ victims) are have
