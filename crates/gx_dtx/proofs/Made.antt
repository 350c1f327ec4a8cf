-- The table after a change was made, and the changes of a transaction without participants.
use Rattle.std.proofs.Common.{◌≡◌, ◌+◌, List, [], ◌∷◌, ◌++◌, refl, sym, ap, subst, ◌∙◌, Bool, true, false, cond, arith}
use Rattle.std.specs.Prelude.{Option, None, Some, option_map, All, IsTrue, Result, Ok, Err, OnOk, OnErr}
use Rattle.std.specs.BTreeMap.{insert_entry}
use Rattle.gx_ids.specs.declared.ids.Gxid.{Gxid}
use Rattle.gx_ids.specs.declared.ids.Node.{Node}
use Rattle.gx_ids.specs.declared.memory.OutOfMemory.{OutOfMemory}
use Rattle.gx_dsnap.specs.Gxids.{gxid_cmp}
use Rattle.gx_msg.specs.declared.reply.Reply.{Reply}
use Rattle.gx_dtx.specs.declared.change.Change.{Change}
use Rattle.gx_dtx.specs.declared.outcome.DtxOut.{DtxOut}
use Rattle.gx_dtx.specs.declared.outcome.Outcome.TheVariants as outcome
use Rattle.gx_dtx.specs.declared.status.Status.TheVariants as status
use Rattle.gx_dtx.specs.declared.txn.Txn.{Txn}
use Rattle.gx_dtx.specs.Nodes.{has, with_node}
use Rattle.gx_dtx.specs.Table.{Table, new_txn, find_txn, status_in, participants_in, participants_of, IsActive}
use Rattle.gx_dtx.specs.Rules.{with_txn, with_step, with_ended, ends, leaves, ends_committed, aborts, commit_found, abort_found, on_commit, on_abort, turns, ended_alone, silently, AreWriters, stays, awaits_found, is_awaited, takes, reply_found}
use Rattle.gx_dtx.specs.Whole.{IsWhole}
use Rattle.gx_dtx.specs.Fits.{Fits}
use Rattle.gx_dtx.proofs.Finds.{insert_entry-last}
use Rattle.gx_dtx.proofs.Keeps.{IsWhole-begun, IsWhole-changed, IsWhole-with}

-- a change is made field by field
IsWhole-made : (d : Table) (g : Gxid) (c : Change) (latest : Option Gxid) (txns : List (Gxid × Txn)) → txns ≡ with_step d.txns g c.step → latest ≡ with_ended (ends c.out.outcome) g d.latest_ended → IsWhole d → Fits (find_txn d g) c → IsWhole (record { next = d.next; latest_ended = latest; txns = txns })
IsWhole-made d g c latest txns are is w fits =
    subst (λ (l : Option Gxid). IsWhole (record { next = d.next; latest_ended = l; txns = txns })) (sym is) (subst (λ (ts : List (Gxid × Txn)). IsWhole (record { next = d.next; latest_ended = with_ended (ends c.out.outcome) g d.latest_ended; txns = ts })) (sym are) (IsWhole-changed d g c w fits))

-- the entries after a transaction began
pub entries-begun : (d : Table) (t : Txn) (txns : List (Gxid × Txn)) → IsWhole d → txns ≡ insert_entry gxid_cmp d.txns d.next t → t ≡ new_txn → txns ≡ d.txns ++ (d.next, new_txn) ∷ []
entries-begun d t txns w are new = are ∙ ap (insert_entry gxid_cmp d.txns d.next) new ∙ insert_entry-last d.next new_txn d.txns w.drawn

pub IsWhole-made_begun : (d : Table) (txns : List (Gxid × Txn)) → IsWhole d → txns ≡ d.txns ++ (d.next, new_txn) ∷ [] → IsWhole (record { next = record { 0 = d.next.0 + 1 }; latest_ended = d.latest_ended; txns = txns })
IsWhole-made_begun d txns w are = subst (λ (ts : List (Gxid × Txn)). IsWhole (record { next = record { 0 = d.next.0 + 1 }; latest_ended = d.latest_ended; txns = ts })) (sym are) (IsWhole-begun d w)

-- ---- without participants

nobody : (w : Node) (writers participants : List Node) → participants ≡ [] → All (λ w. IsTrue (has w participants)) (w ∷ writers) → ⊥
nobody w writers participants none all = let there : IsTrue (has w []) = subst (λ (ps : List Node). IsTrue (has w ps)) none (all 0 w (omega arith)) in absurd (cc)

commit_found-alone : (g : Gxid) (writers : List Node) (o : Option Txn) → option_map (λ t. status_in t.phase) o ≡ Some status.Active → All (λ w. IsTrue (has w (participants_in o))) writers → participants_in o ≡ [] → commit_found g writers o ≡ leaves outcome.Committed
commit_found-alone g writers None active all none = absurd (cc)
commit_found-alone g [] (Some t) active all none = ap (ends_committed g) none
commit_found-alone g (w ∷ ws) (Some t) active all none = absurd (nobody w ws t.participants none all)

abort_found-alone : (g : Gxid) (o : Option Txn) → option_map (λ t. status_in t.phase) o ≡ Some status.Active → participants_in o ≡ [] → abort_found g o ≡ leaves outcome.Ended
abort_found-alone g None active none = absurd (cc)
abort_found-alone g (Some t) active none = ap (aborts g) none

pub on_commit-alone : (d : Table) (g : Gxid) (writers : List Node) → IsActive d g → AreWriters d g writers → participants_of d g ≡ [] → on_commit d g writers ≡ record { table = ended_alone d g; out = silently outcome.Committed }
on_commit-alone d g writers active are none = ap (turns d g) (commit_found-alone g writers (find_txn d g) active are.among none)

pub on_abort-alone : (d : Table) (g : Gxid) → IsActive d g → participants_of d g ≡ [] → on_abort d g ≡ record { table = ended_alone d g; out = silently outcome.Ended }
on_abort-alone d g active none = ap (turns d g) (abort_found-alone g (find_txn d g) active none)

-- ---- one field of a transaction

with_is : (d : Table) (g : Gxid) (f : Txn → Txn) (txns : List (Gxid × Txn)) → ((t : Txn) → (f t).phase ≡ t.phase) → txns ≡ with_txn d.txns g f → IsWhole d → IsWhole (record d { txns = txns })
with_is d g f txns same are w = subst (λ (ts : List (Gxid × Txn)). IsWhole (record d { txns = ts })) (sym are) (IsWhole-with d g f same w)

pub IsWhole-live : (d : Table) (g : Gxid) (live : Option Gxid) (txns : List (Gxid × Txn)) → txns ≡ with_txn d.txns g (λ t. record t { live = live }) → IsWhole d → IsWhole (record d { txns = txns })
IsWhole-live d g live txns are w = with_is d g (λ t. record t { live = live }) txns (λ _. refl) are w

pub IsWhole-enlisted : (d : Table) (g : Gxid) (i : Node) (txns : List (Gxid × Txn)) → txns ≡ with_txn d.txns g (λ t. record t { participants = with_node i t.participants }) → IsWhole d → IsWhole (record d { txns = txns })
IsWhole-enlisted d g i txns are w = with_is d g (λ t. record t { participants = with_node i t.participants }) txns (λ _. refl) are w

-- enlisting may have failed
pub IsWhole-tried : (d : Table) (g : Gxid) (i : Node) (txns : List (Gxid × Txn)) (r : Result (Unit {0}) OutOfMemory) → OnOk r (txns ≡ with_txn d.txns g (λ t. record t { participants = with_node i t.participants })) → OnErr r (txns ≡ d.txns) → IsWhole d → IsWhole (record d { txns = txns })
IsWhole-tried d g i txns (Ok u) are same w = IsWhole-enlisted d g i txns are w
IsWhole-tried d g i txns (Err e) are same w = subst (λ (ts : List (Gxid × Txn)). IsWhole (record d { txns = ts })) (sym same) w

turns-made : (d : Table) (g : Gxid) (c : Change) (latest : Option Gxid) (txns : List (Gxid × Txn)) → txns ≡ with_step d.txns g c.step → latest ≡ with_ended (ends c.out.outcome) g d.latest_ended → record { next = d.next; latest_ended = latest; txns = txns } ≡ (turns d g c).table
turns-made d g c latest txns are is =
    ap (λ (ts : List (Gxid × Txn)). let t : Table = record { next = d.next; latest_ended = latest; txns = ts } in t) are ∙ ap (λ (l : Option Gxid). let t : Table = record { next = d.next; latest_ended = l; txns = with_step d.txns g c.step } in t) is

-- ---- an answer that isn't awaited

unawaited_if : (b : Bool) (c : Change) → b ≡ false → cond b c stays ≡ stays
unawaited_if true c isnt = absurd (cc)
unawaited_if false c isnt = refl

pub reply-unawaited : (g : Gxid) (i : Node) (answer : Reply) (refused : Bool) (o : Option Txn) → awaits_found i answer o ≡ false → reply_found g i answer refused o ≡ stays
reply-unawaited g i answer refused None isnt = refl
reply-unawaited g i answer refused (Some t) isnt = unawaited_if (is_awaited t.phase i answer) (takes g t.participants i refused t.phase answer) isnt

-- ---- a change that was made, with what was told of it

module _ (d : Table) (g : Gxid) (c : Change) (out : DtxOut) (latest : Option Gxid) (txns : List (Gxid × Txn)) where
  latest-taken : out ≡ c.out → latest ≡ with_ended (ends out.outcome) g d.latest_ended → latest ≡ with_ended (ends c.out.outcome) g d.latest_ended
  latest-taken told is = is ∙ ap (λ (o : DtxOut). with_ended (ends o.outcome) g d.latest_ended) told

  pub IsWhole-taken : txns ≡ with_step d.txns g c.step → out ≡ c.out → latest ≡ with_ended (ends out.outcome) g d.latest_ended → IsWhole d → Fits (find_txn d g) c → IsWhole (record { next = d.next; latest_ended = latest; txns = txns })
  IsWhole-taken are told is w fits = IsWhole-made d g c latest txns are (latest-taken told is) w fits

  pub turns-taken : txns ≡ with_step d.txns g c.step → out ≡ c.out → latest ≡ with_ended (ends out.outcome) g d.latest_ended → record { next = d.next; latest_ended = latest; txns = txns } ≡ (turns d g c).table
  turns-taken are told is = turns-made d g c latest txns are (latest-taken told is)
