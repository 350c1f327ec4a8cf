use Rattle.std.proofs.Common.{rules, ◌≡◌, ◌≤◌, ◌+◌, ◌∙◌, ◌++◌, ◌∷◌, [], None, ap, refl, sym, subst, arith, length, append-nil, append_assoc}
use Rattle.std.specs.Prelude.{map}
use Rattle.std.specs.Vec.Iter.{into_iter_items}
use Rattle.std.proofs.lemmas.List.{length-map, map-append, nil_from_length}
use Rattle.gx_script.specs.declared.Script.{Script}
use Rattle.gx_outside.specs.Shelves.{AreEmpty}
use Rattle.gx_cells.specs.CoordViews.{CoordView}
use Rattle.gx_cells.specs.Views.{SegmentView}
use Rattle.gx_cells.proofs.MadeCells.{empty-there, made-closed, made-count, made-inboxes, made-new, made-next, made-outs, one-more}
use Rattle.gx_cells.proofs.making.new_cells.Goals as goal

pub overflow_cast-node : goal.overflow_cast-node
overflow_cast-node g c =
    let given = c.loop-own.yielded in
    let made = c.loop-own.invariant.3 in
    let same : c.len.result ≡ length given = c.len.ensures ∙ c.loop-own.segments.ok.0 ∙ made-count _ _ _ _ _ made ∙ length-map given g.J.Journal.shelf in
    let few : c.len.result + 1 ≤ c.args.script.value.segments =
    one-more c.args.journals.items given (into_iter_items c.next.new.self) c.in-Some.own c.len.result _ (c.loop-own.invariant.2 ∙ ap (λ l. given ++ l) c.in-Some.ensures.steps.0) c.requires.count same in
    omega (arith, few, c.requires.language.few_segments)

pub overflow_add-node : goal.overflow_add-node
overflow_add-node g c =
    let given = c.loop-own.yielded in
    let made = c.loop-own.invariant.3 in
    let same : c.len.result ≡ length given = c.len.ensures ∙ c.loop-own.segments.ok.0 ∙ made-count _ _ _ _ _ made ∙ length-map given g.J.Journal.shelf in
    let few : c.len.result + 1 ≤ c.args.script.value.segments =
    one-more c.args.journals.items given (into_iter_items c.next.new.self) c.in-Some.own c.len.result _ (c.loop-own.invariant.2 ∙ ap (λ l. given ++ l) c.in-Some.ensures.steps.0) c.requires.count same in
    omega (arith, few, c.requires.language.few_segments)

pub new-requires-clause-place : goal.new-requires-clause-place
new-requires-clause-place g c =
    let given = c.loop-own.yielded in
    let made = c.loop-own.invariant.3 in
    let same : c.len.result ≡ length given = c.len.ensures ∙ c.loop-own.segments.ok.0 ∙ made-count _ _ _ _ _ made ∙ length-map given g.J.Journal.shelf in
    let few : c.len.result + 1 ≤ c.args.script.value.segments =
    one-more c.args.journals.items given (into_iter_items c.next.new.self) c.in-Some.own c.len.result _ (c.loop-own.invariant.2 ∙ ap (λ l. given ++ l) c.in-Some.ensures.steps.0) c.requires.count same in
    let clone : c.in_ok-clone.field-0.value ≡ c.args.script.value = search rules in
    (omega arith, subst (λ (s : Script). c.len.result + 1 ≤ s.segments) (sym clone) few)

pub new-requires-clause-blank : goal.new-requires-clause-blank
new-requires-clause-blank g c =
    let given = c.loop-own.yielded in
    empty-there g.J.Journal.shelf given c.in-Some.own (into_iter_items c.next.new.self)
    (subst (λ js. AreEmpty (map g.J.Journal.shelf js)) (c.loop-own.invariant.2 ∙ ap (λ l. given ++ l) c.in-Some.ensures.steps.0) c.requires.blanks)

pub loop-own-preserved : goal.loop-own-preserved
loop-own-preserved g c =
    let given = c.loop-own.yielded in
    let own = c.in-Some.own in
    let is = c.in_ok-segment.ensures in
    let shelf = g.J.Journal.shelf in
    let clone : c.in_ok-clone.field-0.value ≡ c.args.script.value = search rules in (
      tt,
      tt,
      c.loop-own.invariant.2 ∙ ap (λ l. given ++ l) c.in-Some.ensures.steps.0 ∙ sym (append_assoc given (own ∷ []) (into_iter_items c.next.new.self)),
      made-next c.args.script.value (map shelf given) (map shelf (given ++ own ∷ [])) c.loop-own.outs.items _ c.loop-own.inboxes.items _ c.loop-own.segments.items _ c.in_ok-out.out (record { source = c.in_ok-back.inward; again = None }) c.in_ok-segment.segment c.loop-own.invariant.3 (
        ap (λ (v : SegmentView). v.script) is ∙ clone,
        ap (λ (v : SegmentView). v.node.0) is ∙ ap (λ n. n + 1) (c.len.ensures ∙ c.loop-own.segments.ok.0),
        ap (λ (v : SegmentView). v.spent) is,
        ap (λ (v : SegmentView). v.steps) is,
        ap (λ (v : SegmentView). v.first) is ∙ sym (ap (λ (v : SegmentView). v.shelf.faults) is),
        ap (λ (v : SegmentView). v.source.received) is ∙ c.in_ok-out.ensures.received,
        ap (λ (v : SegmentView). v.again) is,
        ap (λ (v : SegmentView). v.out.sent) is ∙ c.in_ok-back.ensures.sent,
      )
          (c.in_ok-out.ensures.link ∙ sym (ap (λ (v : SegmentView). v.source.link) is)) (ap (λ (v : SegmentView). v.out.link) is ∙ c.in_ok-back.ensures.link) c.in_ok-out.ensures.sent c.in_ok-back.ensures.received refl
          c.in_ok-push-2.ensures.items c.in_ok-push-3.ensures.items c.in_ok-push.ensures.items (map-append shelf given (own ∷ []) ∙ ap (λ h. map shelf given ++ h ∷ []) (sym (ap (λ (v : SegmentView). v.shelf) is))),
    )

pub new-requires-2-clause-outs : goal.new-requires-2-clause-outs
new-requires-2-clause-outs g c =
    let given = c.loop-own.yielded in
    let none : into_iter_items c.loop-own.own-iterator ≡ [] = nil_from_length (into_iter_items c.loop-own.own-iterator) (sym c.loop-own.own-iterator.rest.ok.0 ∙ c.in-None.ensures.steps.0) in
    let all : c.args.journals.items ≡ given = c.loop-own.invariant.2 ∙ ap (λ l. given ++ l) none ∙ append-nil given in
    made-outs _ _ _ _ _ c.loop-own.invariant.3 ∙ length-map given g.J.Journal.shelf ∙ ap length (sym all) ∙ c.requires.count

pub new-requires-2-clause-ins : goal.new-requires-2-clause-ins
new-requires-2-clause-ins g c =
    let given = c.loop-own.yielded in
    let none : into_iter_items c.loop-own.own-iterator ≡ [] = nil_from_length (into_iter_items c.loop-own.own-iterator) (sym c.loop-own.own-iterator.rest.ok.0 ∙ c.in-None.ensures.steps.0) in
    let all : c.args.journals.items ≡ given = c.loop-own.invariant.2 ∙ ap (λ l. given ++ l) none ∙ append-nil given in
    made-inboxes _ _ _ _ _ c.loop-own.invariant.3 ∙ length-map given g.J.Journal.shelf ∙ ap length (sym all) ∙ c.requires.count

pub returns-clause-closed : goal.returns-clause-closed
returns-clause-closed g c =
    let given = c.loop-own.yielded in
    let is = c.in_ok-coord.ensures in
    let none : into_iter_items c.loop-own.own-iterator ≡ [] = nil_from_length (into_iter_items c.loop-own.own-iterator) (sym c.loop-own.own-iterator.rest.ok.0 ∙ c.in-None.ensures.steps.0) in
    let all : c.args.journals.items ≡ given = c.loop-own.invariant.2 ∙ ap (λ l. given ++ l) none ∙ append-nil given in
    made-closed c.args.script.value (map g.J.Journal.shelf given) c.loop-own.outs.items c.loop-own.inboxes.items c.loop-own.segments.items c.in_ok-coord.coord c.loop-own.invariant.3 (ap (λ (v : CoordView). v.script) is) (ap (λ (v : CoordView). v.inboxes) is)
    (length-map given g.J.Journal.shelf ∙ ap length (sym all) ∙ c.requires.count) (ap (λ (v : CoordView). v.outs) is)

pub returns-clause-new : goal.returns-clause-new
returns-clause-new g c =
    let is = c.in_ok-coord.ensures in
    made-new c.args.script.value (map g.J.Journal.shelf c.loop-own.yielded) c.loop-own.outs.items c.loop-own.inboxes.items c.loop-own.segments.items c.in_ok-coord.coord c.loop-own.invariant.3 (ap (λ (v : CoordView). v.script) is) (ap (λ (v : CoordView). v.inboxes) is)
    (ap (λ (v : CoordView). v.outs) is) (ap (λ (v : CoordView). v.spent) is) (ap (λ (v : CoordView). v.steps) is) (ap (λ (v : CoordView). v.first) is ∙ sym (ap (λ (v : CoordView). v.shelf.faults) is))

pub returns-clause-segments_journals : goal.returns-clause-segments_journals
returns-clause-segments_journals g c =
    let given = c.loop-own.yielded in
    let none : into_iter_items c.loop-own.own-iterator ≡ [] = nil_from_length (into_iter_items c.loop-own.own-iterator) (sym c.loop-own.own-iterator.rest.ok.0 ∙ c.in-None.ensures.steps.0) in
    let all : c.args.journals.items ≡ given = c.loop-own.invariant.2 ∙ ap (λ l. given ++ l) none ∙ append-nil given in
    c.loop-own.invariant.3.shelved ∙ ap (map g.J.Journal.shelf) (sym all)
