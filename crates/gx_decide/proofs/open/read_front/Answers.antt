use Rattle.std.proofs.Common.{rules, ◌≡◌, ◌<◌, None, sym, ◌∙◌, subst, arith}
use Rattle.gx_decide.specs.Disk.{DiskState}
use Rattle.gx_decide.specs.Deciding.{IsSlot}
use Rattle.gx_decide.specs.Log.{IsSound, gate_at}
use Rattle.gx_decide.proofs.Fronts.{bad-slot, below-more, reaches-on, sound-slot, verdicts-more}
use Rattle.gx_decide.proofs.open.read_front.Goals as goal

pub returns-in_default-clause-refused : goal.returns-in_default-clause-refused
returns-in_default-clause-refused g c =
    let seen = (g.D.Disk.state c.args.disk.now).seen in
    let end = c.loop-end.end in
    let is : IsSlot seen end c.in_ok-slot.slot = subst (λ (d : DiskState). IsSlot d.seen end c.in_ok-slot.slot) c.loop-end.invariant.state c.in_ok-slot.ensures.slot in
    let open_ : c.in_ok-slot.slot.gate ≡ 1 = search (rules, arith) in
    let inside : end < c.args.slots = search (rules, arith) in
    let none : c.sound_decision.result ≡ None = search rules in
    record {
      inside = inside;
      gates = below-more {P = λ slot. gate_at seen slot ≡ 1} end c.loop-end.invariant.gates (sym is.gate ∙ open_);
      sound = c.loop-end.invariant.sound;
      is = bad-slot seen end c.in_ok-slot.slot is (λ decision sound missing. c.sound_decision.ensures.bad none decision sound (c.loop-end.invariant.verdicts c.in_ok-slot.slot.gxid ∙ missing));
    }

pub loop-end-preserved : goal.loop-end-preserved
loop-end-preserved g c =
    let seen = (g.D.Disk.state c.args.disk.now).seen in
    let end = c.loop-end.end in
    let is : IsSlot seen end c.in_ok-slot.slot = subst (λ (d : DiskState). IsSlot d.seen end c.in_ok-slot.slot) c.loop-end.invariant.state c.in_ok-slot.ensures.slot in
    let open_ : c.in_ok-slot.slot.gate ≡ 1 = search (rules, arith) in
    let found = c.in-Some.ensures.sound in
    let inside : end < c.args.slots = search (rules, arith) in
    let missing = sym (c.loop-end.invariant.verdicts c.in_ok-slot.slot.gxid) ∙ found.1 in
    record {
      gates = below-more {P = λ slot. gate_at seen slot ≡ 1} end c.loop-end.invariant.gates (sym is.gate ∙ open_);
      sound = below-more {P = IsSound seen} end c.loop-end.invariant.sound (sound-slot seen end c.in_ok-slot.slot is c.in-Some.decision found.0 missing);
      verdicts = verdicts-more seen end c.in_ok-slot.slot is c.in-Some.decision c.loop-end.verdicts c.insert.new.self found.0.is missing c.loop-end.invariant.verdicts c.in_ok-insert.ensures.updates;
      later = omega (arith, c.loop-end.invariant.later, c.read_slot.ensures.cause.later);
      reach = reaches-on c.args.slots end _ _ _ inside c.loop-end.invariant.reach c.read_slot.ensures.reach;
      state = c.read_slot.ensures.state ∙ c.loop-end.invariant.state;
    }
