use Rattle.std.proofs.Common.{rules, ◌≡◌, ◌∙◌, ◌++◌, ◌∷◌, [], ap, append-nil, append_assoc, sym}
use Rattle.std.specs.Prelude.{map}
use Rattle.std.specs.Vec.Iter.{into_iter_items}
use Rattle.std.proofs.lemmas.List.{map-append, nil_from_length}
use Rattle.gx_cells.specs.Closed.{AreClosed}
use Rattle.gx_cells.proofs.Ended.{ended-back, ended-fit, ended-forth, ended-histories, ended-counted, ended-holds, ended-items, ended-nodes, ended-shelves, ended-unspent}
use Rattle.gx_cells.proofs.LinkPairs.{taken-next}
use Rattle.gx_cells.proofs.closing.close_cells.Goals as goal

pub loop-segment-preserved : goal.loop-segment-preserved
loop-segment-preserved g c =
    let given = c.loop-segment.yielded in
    let s = c.in-Some.segment in
    let own = c.in_ok-own.own in
    let is = c.in_ok-own.ensures in
    let shelf = g.J.Journal.shelf in
    let journals = c.loop-segment.journals.items in (
      tt,
      tt,
      c.loop-segment.invariant.2 ∙ ap (λ l. given ++ l) c.in-Some.ensures.steps.0 ∙ sym (append_assoc given (s ∷ []) (into_iter_items c.next.new.self)),
      taken-next c.args.coord given c.loop-segment.histories.items _ (map shelf journals) _ c.loop-segment.outs.items _ c.loop-segment.inboxes.items _ s (record { node = own.node; steps = own.steps }) c.loop-segment.invariant.3 is.kept is.steps is.node
          c.in_ok-push-3.ensures.items (ap (map shelf) c.in_ok-push-4.ensures.items ∙ map-append shelf journals (own.journal ∷ []) ∙ ap (λ h. map shelf journals ++ h ∷ []) is.shelf)
          (c.in_ok-push-5.ensures.items ∙ ap (λ o. c.loop-segment.outs.items ++ o ∷ []) is.out) (c.in_ok-push-6.ensures.items ∙ ap (λ i. c.loop-segment.inboxes.items ++ i ∷ []) is.inbox),
    )

pub close_links-requires : goal.close_links-requires
close_links-requires g c =
    let given = c.loop-segment.yielded in
    let left = into_iter_items c.loop-segment.segment-iterator in
    let none : left ≡ [] = nil_from_length left (sym c.loop-segment.segment-iterator.rest.ok.0 ∙ c.in-None.ensures.steps.0) in
    let whole : c.args.segments.items ≡ given = c.loop-segment.invariant.2 ∙ ap (λ l. given ++ l) none ∙ append-nil given in
    let closed : AreClosed c.args.coord c.args.segments.items = search rules in
    ended-forth c.args.coord c.args.segments.items given c.loop-segment.histories.items (map g.J.Journal.shelf c.loop-segment.journals.items) c.loop-segment.outs.items c.loop-segment.inboxes.items closed c.loop-segment.invariant.3 whole c.in_ok-parts.parts.outs.items c.in_ok-parts.ensures.outs

pub close_links-requires-2 : goal.close_links-requires-2
close_links-requires-2 g c =
    let given = c.loop-segment.yielded in
    let left = into_iter_items c.loop-segment.segment-iterator in
    let none : left ≡ [] = nil_from_length left (sym c.loop-segment.segment-iterator.rest.ok.0 ∙ c.in-None.ensures.steps.0) in
    let whole : c.args.segments.items ≡ given = c.loop-segment.invariant.2 ∙ ap (λ l. given ++ l) none ∙ append-nil given in
    let closed : AreClosed c.args.coord c.args.segments.items = search rules in
    ended-back c.args.coord c.args.segments.items given c.loop-segment.histories.items (map g.J.Journal.shelf c.loop-segment.journals.items) c.loop-segment.outs.items c.loop-segment.inboxes.items closed c.loop-segment.invariant.3 whole c.in_ok-parts.parts.inboxes.items c.in_ok-parts.ensures.inboxes

pub returns-clause-histories : goal.returns-clause-histories
returns-clause-histories g c =
    let given = c.loop-segment.yielded in
    let left = into_iter_items c.loop-segment.segment-iterator in
    let none : left ≡ [] = nil_from_length left (sym c.loop-segment.segment-iterator.rest.ok.0 ∙ c.in-None.ensures.steps.0) in
    let whole : c.args.segments.items ≡ given = c.loop-segment.invariant.2 ∙ ap (λ l. given ++ l) none ∙ append-nil given in
    let closed : AreClosed c.args.coord c.args.segments.items = search rules in
    ended-histories c.args.coord c.args.segments.items given c.loop-segment.histories.items (map g.J.Journal.shelf c.loop-segment.journals.items) c.loop-segment.outs.items c.loop-segment.inboxes.items closed c.loop-segment.invariant.3 whole

pub returns-clause-nodes : goal.returns-clause-nodes
returns-clause-nodes g c =
    let given = c.loop-segment.yielded in
    let left = into_iter_items c.loop-segment.segment-iterator in
    let none : left ≡ [] = nil_from_length left (sym c.loop-segment.segment-iterator.rest.ok.0 ∙ c.in-None.ensures.steps.0) in
    let whole : c.args.segments.items ≡ given = c.loop-segment.invariant.2 ∙ ap (λ l. given ++ l) none ∙ append-nil given in
    let closed : AreClosed c.args.coord c.args.segments.items = search rules in
    ended-nodes c.args.coord c.args.segments.items given c.loop-segment.histories.items (map g.J.Journal.shelf c.loop-segment.journals.items) c.loop-segment.outs.items c.loop-segment.inboxes.items closed c.loop-segment.invariant.3 whole

pub returns-clause-fit : goal.returns-clause-fit
returns-clause-fit g c =
    let given = c.loop-segment.yielded in
    let left = into_iter_items c.loop-segment.segment-iterator in
    let none : left ≡ [] = nil_from_length left (sym c.loop-segment.segment-iterator.rest.ok.0 ∙ c.in-None.ensures.steps.0) in
    let whole : c.args.segments.items ≡ given = c.loop-segment.invariant.2 ∙ ap (λ l. given ++ l) none ∙ append-nil given in
    let closed : AreClosed c.args.coord c.args.segments.items = search rules in
    ended-fit c.args.coord c.args.segments.items given c.loop-segment.histories.items (map g.J.Journal.shelf c.loop-segment.journals.items) c.loop-segment.outs.items c.loop-segment.inboxes.items closed c.loop-segment.invariant.3 whole c.in_ok-parts.ensures.kept c.in_ok-parts.parts.outs.items c.in_ok-parts.ensures.outs c.close_links.ensures c.in_ok-parts.parts.inboxes.items c.in_ok-parts.ensures.inboxes c.close_links-2.ensures

pub returns-clause-journals : goal.returns-clause-journals
returns-clause-journals g c =
    let given = c.loop-segment.yielded in
    let left = into_iter_items c.loop-segment.segment-iterator in
    let none : left ≡ [] = nil_from_length left (sym c.loop-segment.segment-iterator.rest.ok.0 ∙ c.in-None.ensures.steps.0) in
    let whole : c.args.segments.items ≡ given = c.loop-segment.invariant.2 ∙ ap (λ l. given ++ l) none ∙ append-nil given in
    let closed : AreClosed c.args.coord c.args.segments.items = search rules in
    ended-shelves c.args.coord c.args.segments.items given c.loop-segment.histories.items (map g.J.Journal.shelf c.loop-segment.journals.items) c.loop-segment.outs.items c.loop-segment.inboxes.items closed c.loop-segment.invariant.3 whole

pub returns-clause-items : goal.returns-clause-items
returns-clause-items g c =
    let given = c.loop-segment.yielded in
    let left = into_iter_items c.loop-segment.segment-iterator in
    let none : left ≡ [] = nil_from_length left (sym c.loop-segment.segment-iterator.rest.ok.0 ∙ c.in-None.ensures.steps.0) in
    let whole : c.args.segments.items ≡ given = c.loop-segment.invariant.2 ∙ ap (λ l. given ++ l) none ∙ append-nil given in
    let closed : AreClosed c.args.coord c.args.segments.items = search rules in
    ended-items c.args.coord c.args.segments.items given c.loop-segment.histories.items (map g.J.Journal.shelf c.loop-segment.journals.items) c.loop-segment.outs.items c.loop-segment.inboxes.items closed c.loop-segment.invariant.3 whole c.in_ok-parts.ensures.kept c.in_ok-parts.parts.outs.items c.in_ok-parts.ensures.outs c.close_links.ensures c.in_ok-parts.parts.inboxes.items c.in_ok-parts.ensures.inboxes c.close_links-2.ensures

pub returns-clause-holds : goal.returns-clause-holds
returns-clause-holds g c =
    let given = c.loop-segment.yielded in
    let left = into_iter_items c.loop-segment.segment-iterator in
    let none : left ≡ [] = nil_from_length left (sym c.loop-segment.segment-iterator.rest.ok.0 ∙ c.in-None.ensures.steps.0) in
    let whole : c.args.segments.items ≡ given = c.loop-segment.invariant.2 ∙ ap (λ l. given ++ l) none ∙ append-nil given in
    let closed : AreClosed c.args.coord c.args.segments.items = search rules in
    ended-holds c.args.coord c.args.segments.items given c.loop-segment.histories.items (map g.J.Journal.shelf c.loop-segment.journals.items) c.loop-segment.outs.items c.loop-segment.inboxes.items closed c.loop-segment.invariant.3 whole c.in_ok-parts.ensures.kept c.in_ok-parts.parts.outs.items c.in_ok-parts.ensures.outs c.close_links.ensures c.in_ok-parts.parts.inboxes.items c.in_ok-parts.ensures.inboxes c.close_links-2.ensures

pub returns-clause-failures : goal.returns-clause-failures
returns-clause-failures g c =
    let given = c.loop-segment.yielded in
    let left = into_iter_items c.loop-segment.segment-iterator in
    let none : left ≡ [] = nil_from_length left (sym c.loop-segment.segment-iterator.rest.ok.0 ∙ c.in-None.ensures.steps.0) in
    let whole : c.args.segments.items ≡ given = c.loop-segment.invariant.2 ∙ ap (λ l. given ++ l) none ∙ append-nil given in
    let closed : AreClosed c.args.coord c.args.segments.items = search rules in
    ended-counted c.args.coord c.args.segments.items given c.loop-segment.histories.items (map g.J.Journal.shelf c.loop-segment.journals.items) c.loop-segment.outs.items c.loop-segment.inboxes.items closed c.loop-segment.invariant.3 whole c.in_ok-parts.ensures.kept

pub returns-clause-unspent : goal.returns-clause-unspent
returns-clause-unspent g c =
    let given = c.loop-segment.yielded in
    let left = into_iter_items c.loop-segment.segment-iterator in
    let none : left ≡ [] = nil_from_length left (sym c.loop-segment.segment-iterator.rest.ok.0 ∙ c.in-None.ensures.steps.0) in
    let whole : c.args.segments.items ≡ given = c.loop-segment.invariant.2 ∙ ap (λ l. given ++ l) none ∙ append-nil given in
    let closed : AreClosed c.args.coord c.args.segments.items = search rules in
    ended-unspent c.args.coord c.args.segments.items given c.loop-segment.histories.items (map g.J.Journal.shelf c.loop-segment.journals.items) c.loop-segment.outs.items c.loop-segment.inboxes.items closed c.loop-segment.invariant.3 whole c.in_ok-parts.ensures.kept

pub returns-clause-starts : goal.returns-clause-starts
returns-clause-starts g c = c.in_ok-parts.ensures.kept.starts
