use Rattle.std.proofs.Common.{◌≡◌, ◌∙◌, sym, subst, true, false, ◌++◌, ◌∷◌, []}
use Rattle.std.specs.Prelude.{Contains, IfSome, IfNone}
use Rattle.gx_ids.specs.declared.ids.Gxid.{Gxid}
use Rattle.gx_waits.specs.Closed.{IsNamed}
use Rattle.gx_detect.specs.declared.place.Aim.TheVariants.{Core}
use Rattle.gx_detect.specs.Settled.{left_in}
use Rattle.gx_waits.proofs.Members.{has_from_contains}
use Rattle.gx_detect.proofs.Following.{done_backed}
use Rattle.gx_detect.proofs.Turns.{AreRising, IsUnderWay, all_chosen, all_cores, goes_on, largest_itself, named_before, named_up_to, rising_before, still_named}
use Rattle.gx_detect.proofs.choice.in_turn.Goals as goal

none_in : (v : Gxid) → Contains [] v → ⊥
none_in v c = has_from_contains v [] c

never : true ≡ false → ⊥
never e = cc

pub loop-name-preserved : goal.loop-name-preserved
loop-name-preserved c =
    let i = c.loop-name.invariant in
    let popped : c.loop-name.names.items ≡ c.next_name.new.names.items ++ c.in-Some.name ∷ [] =
    subst (λ o. IfSome o (λ name. c.loop-name.names.items ≡ c.next_name.new.names.items ++ name ∷ [])) c.in-Some.is c.next_name.ensures.name in
    record {
      settled = i.settled;
      rising = rising_before c.next_name.new.names.items c.in-Some.name (subst AreRising popped i.rising);
      named = named_before (left_in c.loop-name.core) c.next_name.new.names.items c.in-Some.name
          (λ n. never (sym (c.is_named.ensures.1 n) ∙ c.if-is_named.false))
          (λ w n. subst (λ l. Contains l w) popped (i.named w n));
      way = i.way;
    }

pub loop-name-preserved-in-Continue-branch-3 : goal.loop-name-preserved-in-Continue-branch-3
loop-name-preserved-in-Continue-branch-3 c =
    let i = c.loop-name.invariant in
    let core = c.loop-name.core in
    let new = c.cancel.new.self in
    let name = c.in-Some.name in
    let popped : c.loop-name.names.items ≡ c.next_name.new.names.items ++ c.in-Some.name ∷ [] =
    subst (λ o. IfSome o (λ name. c.loop-name.names.items ≡ c.next_name.new.names.items ++ name ∷ [])) c.in-Some.is c.next_name.ensures.name in
    let all : (w : Gxid) → IsNamed (left_in core) w → Contains (c.next_name.new.names.items ++ name ∷ []) w = λ w n. subst (λ l. Contains l w) popped (i.named w n) in
    let named : IsNamed (left_in core) name = c.is_named.ensures.0 c.if-is_named.true in
    let without = c.in_ok-cancel.ensures.largest in
    record {
      settled = c.in_ok-cancel.ensures.settled;
      rising = rising_before c.next_name.new.names.items name (subst AreRising popped i.rising);
      named = still_named (left_in core) (left_in new) c.next_name.new.names.items name
          (without (left_in core) (largest_itself (left_in core) (done_backed Core core.edges.items core.rest i.settled.counted i.settled.done))) all;
      way = λ edges largest. subst (λ l. IsUnderWay edges (left_in new) l) (sym c.in_ok-push.ensures.items)
          (goes_on edges (left_in core) (left_in new) c.loop-name.victims.items name named
          (named_up_to (left_in core) c.next_name.new.names.items name (subst AreRising popped i.rising) all) without (i.way edges largest));
    }

pub returns-clause-victims : goal.returns-clause-victims
returns-clause-victims c = λ edges largest. all_chosen edges (left_in c.loop-name.core) c.loop-name.victims.items
    (λ v n. none_in v (subst (λ l. Contains l v) (subst (λ o. IfNone o (c.loop-name.names.items ≡ [])) c.in_default.is c.next_name.ensures.none) (c.loop-name.invariant.named v n))) (c.loop-name.invariant.way edges largest)

pub returns-clause-cores : goal.returns-clause-cores
returns-clause-cores c = λ edges largest. all_cores edges (left_in c.loop-name.core) c.loop-name.victims.items
    (λ v n. none_in v (subst (λ l. Contains l v) (subst (λ o. IfNone o (c.loop-name.names.items ≡ [])) c.in_default.is c.next_name.ensures.none) (c.loop-name.invariant.named v n))) (c.loop-name.invariant.way edges largest)
