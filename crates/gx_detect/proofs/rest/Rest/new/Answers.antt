use Rattle.std.proofs.Common.{◌∙◌, ap, sym, subst, take, ⊎_elim, [], get_or}
use Rattle.std.proofs.lemmas.List.{take_more, take_all}
use Rattle.std.proofs.lemmas.List.Elements.{Contains-push_cases}
use Rattle.std.specs.Prelude.{Contains}
use Rattle.gx_waits.proofs.Members.{has_from_contains}
use Rattle.gx_detect.specs.Place.{Needs}
use Rattle.gx_detect.specs.Reducing.{left_of}
use Rattle.gx_detect.specs.Tally.{count_at}
use Rattle.gx_detect.proofs.Marks.{no_edge}
use Rattle.gx_detect.proofs.Removing.{begins, counted_same}
use Rattle.gx_detect.proofs.rest.Rest.new.Goals as goal

pub loop-edge-init : goal.loop-edge-init
loop-edge-init c =
    let b = begins c.args.edges.now (record { marks = c.in_ok-vec.field-0; tally = c.in_ok-of.field-0; freed = c.new.result }) (c.in_ok-vec.ensures.items_if_clones_equal (λ y e. e)) c.in_ok-of.ensures in
    record { counted = b.0; all = b.1; noted = λ e h. absurd (has_from_contains e [] h) }

pub loop-edge-preserved : goal.loop-edge-preserved
loop-edge-preserved c =
    let old = c.loop-edge.rest in
    let new = c.free_needs.new.self in
    let o = c.free_needs.ensures in
    record {
      counted = counted_same c.args.edges.now old new o.marks o.tally c.loop-edge.invariant.counted;
      all = ap (λ m. left_of c.args.edges.now m.items) o.marks ∙ c.loop-edge.invariant.all;
      noted = λ e h p n z.
          let before = ap (λ t. count_at t p) (sym o.tally) ∙ z in ⊎_elim
          (λ m. c.in_ok-free_needs.ensures.still_freed p (c.loop-edge.invariant.noted e m p n before))
          (λ s. c.in_ok-free_needs.ensures.freed p (subst (λ x. Needs c.args.aim x p) (sym s) n) before)
          (Contains-push_cases (take c.loop-edge.edge-index c.args.edges.now) (get_or c.args.edges.now c.loop-edge.edge-index no_edge) e (subst (λ l. Contains l e) (take_more c.args.edges.now c.loop-edge.edge-index no_edge c.loop-edge-test.true) h));
    }

pub returns-clause-noted : goal.returns-clause-noted
returns-clause-noted c = λ e h p n z.
    c.loop-edge.invariant.noted e (subst (λ l. Contains l e) (sym (take_all c.loop-edge.edge-index c.args.edges.now c.loop-edge-test.false)) (subst (λ l. Contains l e) c.loop-edge.invariant.all h)) p n z
