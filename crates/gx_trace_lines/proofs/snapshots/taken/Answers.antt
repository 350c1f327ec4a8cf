use Rattle.std.proofs.Common.{◌==◌, ◌&&◌, refl, sym, ◌∙◌, ap, subst}
use Rattle.gx_dsnap.specs.Gxids.{IsRising, first_or}
use Rattle.gx_ids.specs.declared.ids.Gxid.{Gxid}
use Rattle.std.specs.Prelude.{All, ◌<◌, List}
use Rattle.gx_trace_lines.specs.Snapshots.{are_below, below-of, first-of, least-of, rises, rising-of, second-of}
use Rattle.gx_trace_lines.proofs.ReadSnapshots.{taken-is}
use Rattle.gx_trace_lines.proofs.snapshots.taken.Goals as goal

pub invariant_of-result-clause-rising : goal.invariant_of-result-clause-rising
invariant_of-result-clause-rising c =
    let rs = c.args.running in
    subst IsRising (sym c.in_ok-running.ensures) (rising-of rs (first-of (rises rs) (are_below c.args.xmax.0 rs && (c.args.xmin.0 == (first_or rs c.args.xmax).0)) c.requires))

pub invariant_of-result-clause-below : goal.invariant_of-result-clause-below
invariant_of-result-clause-below c =
    let rs = c.args.running in
    subst (λ (gs : List Gxid). All (λ g. g.0 < c.args.xmax.0) gs) (sym c.in_ok-running.ensures)
    (below-of c.args.xmax.0 rs (first-of (are_below c.args.xmax.0 rs) (c.args.xmin.0 == (first_or rs c.args.xmax).0) (second-of (rises rs) (are_below c.args.xmax.0 rs && (c.args.xmin.0 == (first_or rs c.args.xmax).0)) c.requires)))

pub invariant_of-result-clause-least : goal.invariant_of-result-clause-least
invariant_of-result-clause-least c =
    let rs = c.args.running in
    least-of c.args.xmin (first_or rs c.args.xmax)
    (second-of (are_below c.args.xmax.0 rs) (c.args.xmin.0 == (first_or rs c.args.xmax).0) (second-of (rises rs) (are_below c.args.xmax.0 rs && (c.args.xmin.0 == (first_or rs c.args.xmax).0)) c.requires))
    ∙ ap (λ gs. first_or gs c.args.xmax) (sym c.in_ok-running.ensures)

pub returns : goal.returns
returns c = taken-is c.args.xmin c.args.xmax c.args.running _ (refl, refl, c.in_ok-running.ensures)
