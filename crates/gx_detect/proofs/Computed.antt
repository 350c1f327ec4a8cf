-- The computed verdict is the definition's.
use Rattle.std.proofs.Common.{◌≡◌, ◌≤◌, ℕ, zero, suc, List, [], ◌∷◌, Option, Some, None, length, refl, arith}
use Rattle.gx_ids.specs.declared.ids.Gxid.{Gxid}
use Rattle.gx_waits.specs.declared.placed_edge.PlacedEdge.{PlacedEdge}
use Rattle.gx_waits.specs.declared.verdict.Verdict.{Verdict}
use Rattle.gx_waits.specs.Victims.{AreVictims, IsGreatestInCore, IsVerdict}
use Rattle.gx_waits.proofs.Determined.{verdict_is_determined}
use Rattle.gx_detect.specs.Verdicts.{chosen, core_of, edges_without, greatest_of, least_inactive, named_in, stuck_of, unless_dropped, verdict_of, victims_among, victims_of}
use Rattle.gx_detect.proofs.Chosen.{greatest_fewer}
use Rattle.gx_detect.proofs.Cores.{has_core, has_stuck, is_in_core, none_stuck, stuck_exact}
use Rattle.gx_detect.proofs.Greatest.{has_name, is_greatest, name_has, none_named}
use Rattle.gx_detect.proofs.Least.{all_active, is_least_inactive}
use Rattle.gx_detect.proofs.Victim.{is_verdict}

greatest_in_core : (edges : List PlacedEdge) (v : Gxid) → greatest_of (named_in (core_of edges)) ≡ Some v → IsGreatestInCore edges v
greatest_in_core edges v e =
    let g = is_greatest (named_in (core_of edges)) v e in
    let n = name_has (core_of edges) v g.member in
    record {
      named = (n.0, is_in_core edges n.0 n.1, n.2);
      greatest = λ w (f, core, named). g.greatest w (has_name (core_of edges) w f (has_core edges f core) named);
    }

are_victims_among : (n : ℕ) (edges : List PlacedEdge) → length edges ≤ n → AreVictims edges (victims_among n edges)
are_victims_among zero [] short = λ e k. has_stuck [] e k
are_victims_among zero (x ∷ xs) short = absurd (omega arith)
are_victims_among (suc n) edges short = go (greatest_of (named_in (core_of edges))) refl (λ v. are_victims_among n (edges_without v edges))
  where
    go : (o : Option Gxid) → greatest_of (named_in (core_of edges)) ≡ o
        → ((v : Gxid) → length (edges_without v edges) ≤ n → AreVictims (edges_without v edges) (victims_among n (edges_without v edges)))
        → AreVictims edges (chosen o (λ v. victims_among n (edges_without v edges)))
    go None e behind = none_stuck edges (none_named (core_of edges) e)
    go (Some v) e behind =
        let g = greatest_in_core edges v e in
        let fewer = greatest_fewer edges v g in
        (g, behind v (omega arith))

pub is_verdict_of : (edges : List PlacedEdge) (active : List Gxid) → IsVerdict edges active (verdict_of edges active)
is_verdict_of edges active = go (least_inactive edges active) refl
  where
    go : (o : Option Gxid) → o ≡ least_inactive edges active → IsVerdict edges active (unless_dropped o (victims_of edges))
    go None e =
        is_verdict edges active (all_active edges (stuck_of edges) active (stuck_exact edges) e) (victims_of edges)
        (are_victims_among (length edges) edges (omega arith))
    go (Some v) e = is_least_inactive edges (stuck_of edges) active (stuck_exact edges) v e

pub no_other : (edges : List PlacedEdge) (active : List Gxid) (verdict : Verdict) → IsVerdict edges active verdict → verdict ≡ verdict_of edges active
no_other edges active verdict is = verdict_is_determined edges active verdict (verdict_of edges active) is (is_verdict_of edges active)
