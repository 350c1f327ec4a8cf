use Rattle.std.proofs.Common.{◌≡◌, ◌<◌, ◌+◌, ◌^◌, ◌∙◌, List, [], All, append-nil, arith, get_or, length, reverse, subst, sym, refl, ap, slice_index, ◌++◌}
use Rattle.std.proofs.lemmas.Grind.{common_steps}
use Rattle.std.proofs.lemmas.List.{reverse-reverse}
use Rattle.std.proofs.lemmas.List.Elements.{All-tail}
use Rattle.gx_msg.specs.declared.message.Out.{Out}
use Rattle.gx_store.specs.declared.mark.Mark.{Mark}
use Rattle.gx_rules.specs.Sending.{counted_all, numbered}
use Rattle.gx_coord.proofs.Numbering.{all-first, counted-next, few-pushed, few-room, numbered-next, reverse-last}
use Rattle.gx_coord.proofs.sending.number.Goals as goal

pub loop-out-init : goal.loop-out-init
loop-out-init c =
    let sent = c.args.sent.now.items in
    let marks = c.reserve_exact.ensures.items in
    let whole : reverse c.reverse.new.self.items ≡ c.args.outs.now.items = ap reverse c.reverse.ensures.items ∙ reverse-reverse c.args.outs.now.items in (
      refl,
      subst (λ (os : List Out). All (λ out. out.node.0 < length sent) os) (sym whole) c.requires.links,
      subst (λ (ms : List Mark). All (λ n. n < 2 ^ 62 + length ms) sent) (sym marks) c.requires.room,
      ap (λ ms. ms ++ numbered (slice_index sent) (reverse c.reverse.new.self.items)) marks ∙ ap (λ os. c.args.marks.now.items ++ numbered (slice_index sent) os) whole,
      ap (counted_all (slice_index sent)) whole,
      grind (arith, common_steps, c.in_ok-reserve_exact.ensures.ok, c.reverse.ensures.len, c.len.ensures),
    )

pub send_one-mark-requires-clause-inside : goal.send_one-mark-requires-clause-inside
send_one-mark-requires-clause-inside c =
    let first = reverse-last c.loop-out.outs.items c.pop.new.self.items c.in-Some.out c.in-Some.ensures.items in
    all-first (λ (out : Out). out.node.0 < length c.loop-out.sent.items) c.in-Some.out _ (subst (All (λ (out : Out). out.node.0 < length c.loop-out.sent.items)) first c.loop-out.invariant.1)

pub send_one-mark-requires-clause-room : goal.send_one-mark-requires-clause-room
send_one-mark-requires-clause-room c =
    let first = reverse-last c.loop-out.outs.items c.pop.new.self.items c.in-Some.out c.in-Some.ensures.items in
    let inside = all-first (λ (out : Out). out.node.0 < length c.loop-out.sent.items) c.in-Some.out _ (subst (All (λ (out : Out). out.node.0 < length c.loop-out.sent.items)) first c.loop-out.invariant.1) in
    few-room (get_or c.loop-out.sent.items c.in-Some.out.node.0 0) c.loop-out.marks (c.loop-out.invariant.2 c.in-Some.out.node.0 0 inside)

pub push_reserved-requires : goal.push_reserved-requires
push_reserved-requires c = grind (arith, common_steps, c.loop-out.invariant.5, c.in-Some.ensures.cases)

pub loop-out-preserved : goal.loop-out-preserved
loop-out-preserved c =
    let i = c.loop-out.invariant in
    let first = reverse-last c.loop-out.outs.items c.pop.new.self.items c.in-Some.out c.in-Some.ensures.items in
    let mark = c.send_one-mark.ensures in
    let pushed = c.push_reserved.ensures.items in
    let before = c.loop-out.marks.items in
    let out = c.in-Some.out in (
      mark.links ∙ i.0,
      subst (λ m. All (λ (o : Out). o.node.0 < m) (reverse c.pop.new.self.items)) (sym mark.links) (All-tail (λ (o : Out). o.node.0 < length c.loop-out.sent.items) out _ (subst (All (λ (o : Out). o.node.0 < length c.loop-out.sent.items)) first i.1)),
      few-pushed _ before c.push_reserved.new.self.items c.send_one-mark.result pushed (mark.few _ i.2),
      numbered-next _ _ out _ _ before c.push_reserved.new.self.items c.send_one-mark.result first mark.sent mark.mark pushed ∙ i.3,
      counted-next _ _ out _ _ before c.push_reserved.new.self.items c.send_one-mark.result first mark.sent ∙ i.4,
      grind (arith, common_steps, i.5, c.in-Some.ensures.cases, c.push_reserved.ensures.len, c.push_reserved.ensures.capacity),
    )

pub returns-clause-marks : goal.returns-clause-marks
returns-clause-marks c =
    let none : c.loop-out.outs.items ≡ [] = grind (arith, common_steps, c.in_default.ensures.cases) in
    sym (append-nil c.loop-out.marks.items) ∙ ap (λ os. c.loop-out.marks.items ++ numbered (slice_index c.loop-out.sent.items) (reverse os)) (sym none) ∙ c.loop-out.invariant.3

pub returns-clause-sent : goal.returns-clause-sent
returns-clause-sent c =
    let none : c.loop-out.outs.items ≡ [] = grind (arith, common_steps, c.in_default.ensures.cases) in
    ap (λ os. counted_all (slice_index c.loop-out.sent.items) (reverse os)) (sym none) ∙ c.loop-out.invariant.4
