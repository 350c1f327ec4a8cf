-- A change that was made of a transaction in the table.
use Rattle.std.proofs.Common.{◌≡◌, ◌∙◌, List, refl, sym, ap, subst, cond}
use Rattle.std.proofs.lemmas.Map.Steps.{set_value_same}
use Rattle.std.specs.Prelude.{Option, None, Some, Result, Ok, Err, IfOk, OnErr}
use Rattle.std.specs.Map.{lookup, set_value, remove_entry}
use Rattle.std.specs.BTreeMap.{is_at}
use Rattle.gx_ids.specs.declared.ids.Gxid.{Gxid}
use Rattle.gx_ids.specs.declared.ids.Node.{Node}
use Rattle.gx_ids.specs.declared.memory.OutOfMemory.{OutOfMemory}
use Rattle.gx_dsnap.specs.Gxids.{gxid_cmp}
use Rattle.gx_msg.specs.declared.reply.Reply.{Reply}
use Rattle.gx_dtx.specs.declared.change.Change.{Change}
use Rattle.gx_dtx.specs.declared.change.Step.{Step}
use Rattle.gx_dtx.specs.declared.change.Step.TheVariants.{Stays, GoesTo, Leaves}
use Rattle.gx_dtx.specs.declared.phase.Phase.{Phase}
use Rattle.gx_dtx.specs.declared.taken.Taken.{Taken}
use Rattle.gx_dtx.specs.declared.txn.Txn.{Txn}
use Rattle.gx_dtx.specs.Due.{IsMade, AreMade, answered, stepped, is_leaving}
use Rattle.gx_dtx.specs.Rules.{with_found, with_txn, with_step, moved, is_refused, reply_found}

module _ (es : List (Gxid × Txn)) (g : Gxid) where
  found-same : (o : Option Txn) → lookup (is_at (gxid_cmp g)) es ≡ o → with_found es g (λ t. t) o ≡ es
  found-same None is = refl
  found-same (Some t) is = set_value_same (is_at (gxid_cmp g)) es t is

  found-moved : (p : Phase) (o : Option Txn) → with_found es g (stepped (GoesTo p)) o ≡ with_found es g (moved p) o
  found-moved p None = refl
  found-moved p (Some t) = refl

  found-stepped : (f : Txn → Txn) (o : Option Txn) → ((t : Txn) → f t ≡ t) → with_found es g f o ≡ with_found es g (λ t. t) o
  found-stepped f None same = refl
  found-stepped f (Some t) same = ap (λ (u : Txn). with_found es g (λ _. u) (Some t)) (same t)

  same-txns : (f : Txn → Txn) → ((t : Txn) → f t ≡ t) → with_txn es g f ≡ es
  same-txns f same = found-stepped f (lookup (is_at (gxid_cmp g)) es) same ∙ found-same (lookup (is_at (gxid_cmp g)) es) refl

  settled-step : (s : Step) → cond (is_leaving s) (remove_entry (is_at (gxid_cmp g)) (with_txn es g (stepped s))) (with_txn es g (stepped s)) ≡ with_step es g s
  settled-step Stays = same-txns (stepped Stays) (λ t. refl)
  settled-step (GoesTo p) = found-moved p (lookup (is_at (gxid_cmp g)) es)
  settled-step Leaves = ap (remove_entry (is_at (gxid_cmp g))) (same-txns (stepped Leaves) (λ t. refl))

  -- the table after a change was made of a transaction, and it was taken out if it leaves
  pub with_step-settled : (c : Change) (ms ns : List (Gxid × Txn)) (taken : Taken) → AreMade c es ms g taken → ns ≡ cond taken.leaves (remove_entry (is_at (gxid_cmp g)) ms) ms → ns ≡ with_step es g c.step
  with_step-settled c ms ns taken made are =
      are ∙ ap (λ b. cond b (remove_entry (is_at (gxid_cmp g)) ms) ms) made.leaves ∙ ap (λ (ts : List (Gxid × Txn)). cond (is_leaving c.step) (remove_entry (is_at (gxid_cmp g)) ts) ts) made.txns ∙ settled-step c.step

  -- a transaction that was written as it was
  pub set_value-kept : {A : Type 0} (r : Result A OutOfMemory) (old new : Txn) (ns : List (Gxid × Txn)) → Some old ≡ lookup (is_at (gxid_cmp g)) es → OnErr r (new ≡ old) → ns ≡ set_value (is_at (gxid_cmp g)) es new → OnErr r (ns ≡ es)
  set_value-kept (Ok a) old new ns is same wrote = tt
  set_value-kept (Err e) old new ns is same wrote = wrote ∙ ap (set_value (is_at (gxid_cmp g)) es) same ∙ set_value_same (is_at (gxid_cmp g)) es old (sym is)

  pub enlist-kept : {A : Type 0} (r : Result A OutOfMemory) (old : Txn) (nodes : List Node) (ns : List (Gxid × Txn)) → Some old ≡ lookup (is_at (gxid_cmp g)) es → OnErr r (nodes ≡ old.participants) → ns ≡ set_value (is_at (gxid_cmp g)) es (record old { participants = nodes }) → OnErr r (ns ≡ es)
  enlist-kept (Ok a) old nodes ns is same wrote = tt
  enlist-kept (Err e) old nodes ns is same wrote =
      wrote ∙ ap (λ (ps : List Node). set_value (is_at (gxid_cmp g)) es (record old { participants = ps })) same ∙ set_value_same (is_at (gxid_cmp g)) es old (sym is)

  made : (c : Change) (old new : Txn) (ns : List (Gxid × Txn)) (taken : Taken) → Some old ≡ lookup (is_at (gxid_cmp g)) es → ns ≡ set_value (is_at (gxid_cmp g)) es new → IsMade c old new taken → AreMade c es ns g taken
  made c old new ns taken is wrote m = record {
    txns = wrote ∙ ap (set_value (is_at (gxid_cmp g)) es) m.txn ∙ ap (with_found es g (stepped c.step)) is;
    leaves = m.leaves;
    out = m.out;
  }

  -- an answer was taken of the transaction that was found
  pub reply-made : (old new : Txn) (i : Node) (answer : Reply) (ns : List (Gxid × Txn)) (r : Result Taken OutOfMemory) → Some old ≡ lookup (is_at (gxid_cmp g)) es → ns ≡ set_value (is_at (gxid_cmp g)) es new
      → IfOk r (λ taken. IsMade (answered g old.participants i (is_refused taken.out.outcome) old.phase answer) old new taken)
      → IfOk r (λ taken. AreMade (reply_found g i answer (is_refused taken.out.outcome) (lookup (is_at (gxid_cmp g)) es)) es ns g taken)
  reply-made old new i answer ns (Ok taken) is wrote m =
      subst (λ (o : Option Txn). AreMade (reply_found g i answer (is_refused taken.out.outcome) o) es ns g taken) is (made (answered g old.participants i (is_refused taken.out.outcome) old.phase answer) old new ns taken is wrote m)
  reply-made old new i answer ns (Err e) is wrote m = tt
