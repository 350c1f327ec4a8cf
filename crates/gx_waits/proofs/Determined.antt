-- The definitions leave one list of victims and one verdict.
use Rattle.std.proofs.Common.{◌≡◌, ◌≤◌, ◌<◌, List, [], ◌∷◌, refl, ap, arith, ◌∙◌, sym, subst, ⊎_elim}
use Rattle.std.specs.List.{filter}
use Rattle.std.specs.Prelude.{not}
use Rattle.gx_ids.specs.declared.ids.Gxid.{Gxid}
use Rattle.gx_waits.specs.declared.placed_edge.PlacedEdge.{PlacedEdge}
use Rattle.gx_waits.specs.declared.verdict.Verdict.{Verdict}
use Rattle.gx_waits.specs.declared.verdict.Verdict.TheVariants.{Nothing, Dropped, Victims}
use Rattle.gx_waits.specs.Edge.{names}
use Rattle.gx_waits.specs.Closed.{IsStuck}
use Rattle.gx_waits.specs.Victims.{IsNamedInCore, IsGreatestInCore, AreVictims, IsLeastInactive, IsVerdict}
use Rattle.gx_waits.proofs.Members.{has_from_contains, each_from_all}
use Rattle.std.proofs.lemmas.Bool.{cases_lt}

pub same_gxid : (v w : Gxid) → v.0 ≡ w.0 → v ≡ w
same_gxid v w e = λ i. record { 0 = e i }

greatest_is_one : (edges : List PlacedEdge) (v w : Gxid) → IsGreatestInCore edges v → IsGreatestInCore edges w → v ≡ w
greatest_is_one edges v w a b =
    let up : v.0 ≤ w.0 = b.greatest v a.named in
    let down : w.0 ≤ v.0 = a.greatest w b.named in
    let same : v.0 ≡ w.0 = omega arith in
    same_gxid v w same

core_is_stuck : (edges : List PlacedEdge) (v : Gxid) → IsNamedInCore edges v → (e : PlacedEdge) × IsStuck edges e
core_is_stuck edges v (e, core, named) = (e, each_from_all (λ e. IsStuck edges e) core.part core.is_part.stuck e (has_from_contains e core.part core.member))

pub victims_are_determined : (edges : List PlacedEdge) (vs ws : List Gxid) → AreVictims edges vs → AreVictims edges ws → vs ≡ ws
victims_are_determined edges [] [] a b = refl
victims_are_determined edges [] (w ∷ ws) a b = let s = core_is_stuck edges w b.0.named in absurd (a s.0 s.1)
victims_are_determined edges (v ∷ vs) [] a b = let s = core_is_stuck edges v a.0.named in absurd (b s.0 s.1)
victims_are_determined edges (v ∷ vs) (w ∷ ws) a b =
    let e = greatest_is_one edges v w a.0 b.0 in
    let rest = victims_are_determined (filter (λ k. not (names v k.edge)) edges) vs ws a.1 (subst (λ x. AreVictims (filter (λ k. not (names x k.edge)) edges) ws) (sym e) b.1) in
    ap (λ x. x ∷ vs) e ∙ ap (λ l. w ∷ l) rest

least_is_one : (edges : List PlacedEdge) (active : List Gxid) (v w : Gxid) → IsLeastInactive edges active v → IsLeastInactive edges active w → v ≡ w
least_is_one edges active v w a b =
    ⊎_elim
    (λ (less : v.0 < w.0). absurd (a.inactive (b.least v a.stuck less)))
    (λ (upper : w.0 ≤ v.0). ⊎_elim
    (λ (less : w.0 < v.0). absurd (b.inactive (a.least w b.stuck less)))
    (λ (lower : v.0 ≤ w.0). let same : v.0 ≡ w.0 = omega arith in same_gxid v w same)
    (cases_lt w.0 v.0))
    (cases_lt v.0 w.0)

pub verdict_is_determined : (edges : List PlacedEdge) (active : List Gxid) (x y : Verdict) → IsVerdict edges active x → IsVerdict edges active y → x ≡ y
verdict_is_determined edges active Nothing Nothing a b = refl
verdict_is_determined edges active Nothing (Dropped w) a b = let s = b.stuck in absurd (a s.0 s.1)
verdict_is_determined edges active Nothing (Victims ws) a b = absurd (a b.0.0 b.0.1)
verdict_is_determined edges active (Dropped v) Nothing a b = let s = a.stuck in absurd (b s.0 s.1)
verdict_is_determined edges active (Dropped v) (Dropped w) a b = ap Dropped (least_is_one edges active v w a b)
verdict_is_determined edges active (Dropped v) (Victims ws) a b = absurd (a.inactive (b.1 v a.stuck))
verdict_is_determined edges active (Victims vs) Nothing a b = absurd (b a.0.0 a.0.1)
verdict_is_determined edges active (Victims vs) (Dropped w) a b = absurd (b.inactive (a.1 w b.stuck))
verdict_is_determined edges active (Victims vs) (Victims ws) a b = ap Victims (victims_are_determined edges vs ws a.2 b.2)
