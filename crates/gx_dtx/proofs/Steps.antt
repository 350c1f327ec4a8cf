-- Which transaction is found after a call.
use Rattle.std.proofs.Common.{◌≡◌, List, [], ◌∷◌, refl, sym, ap, Bool, true, false, cond, eqb, arith}
use Rattle.std.proofs.lemmas.Bool.Decides.{nat_tests}
use Rattle.std.specs.Prelude.{Option, None, Some, option_map}
use Rattle.std.specs.Map.{lookup}
use Rattle.std.specs.BTreeMap.{is_at}
use Rattle.gx_ids.specs.declared.ids.Gxid.{Gxid}
use Rattle.gx_dsnap.specs.Gxids.{gxid_cmp}
use Rattle.gx_dtx.specs.declared.change.Step.{Step}
use Rattle.gx_dtx.specs.declared.change.Step.TheVariants.{Stays, GoesTo, Leaves}
use Rattle.gx_dtx.specs.declared.txn.Txn.{Txn}
use Rattle.gx_dtx.specs.Nodes.{with_node}
use Rattle.gx_dtx.specs.Table.{Table, new_txn, find_txn, xmin_of}
use Rattle.gx_dtx.specs.Rules.{with_step, moved, commit_found, abort_found, reply_found}
use Rattle.gx_dtx.specs.Runs.{Call, on, after, Admits, IsRun}
use Rattle.gx_dtx.specs.Runs.Call.{Begin, Snap, DropSnap, Enlist, Commit, Abort, Reply}
use Rattle.gx_dtx.specs.Past.{about}
use Rattle.gx_dtx.specs.Whole.{IsWhole, AreRisen}
use Rattle.gx_dtx.proofs.Finds.{find-with, find-push, find-remove}
use Rattle.gx_dtx.proofs.Keeps.{IsWhole-new, IsWhole-begun, IsWhole-with, IsWhole-changed}
use Rattle.gx_dtx.proofs.Fitting.{Fits-commit, Fits-abort, Fits-reply}

-- the transaction after a step
abbrev pub stepped : Step → Option Txn → Option Txn
stepped Stays o = o
stepped (GoesTo p) o = option_map (moved p) o
stepped Leaves o = None

-- the transaction after a call about it
abbrev pub turned : Table → Call → Option Txn → Option Txn
turned d Begin o = Some new_txn
turned d (Snap g) o = option_map (λ (t : Txn). record t { live = Some (xmin_of d) }) o
turned d (DropSnap g) o = option_map (λ (t : Txn). record t { live = None }) o
turned d (Enlist g i) o = option_map (λ (t : Txn). record t { participants = with_node i t.participants }) o
turned d (Commit g writers) o = stepped (commit_found g writers o).step o
turned d (Abort g) o = stepped (abort_found g o).step o
turned d (Reply g i answer refused) o = stepped (reply_found g i answer refused o).step o

same_gxid : (g q : Gxid) → eqb q.0 g.0 ≡ true → g ≡ q
same_gxid g q same = grind (arith, nat_tests)

find-stays : (es : List (Gxid × Txn)) (g q : Gxid) (b : Bool) → eqb q.0 g.0 ≡ b → lookup (is_at (gxid_cmp q)) es ≡ cond b (lookup (is_at (gxid_cmp g)) es) (lookup (is_at (gxid_cmp q)) es)
find-stays es g q true is = ap (λ (h : Gxid). lookup (is_at (gxid_cmp h)) es) (sym (same_gxid g q is))
find-stays es g q false is = refl

find-step : (es : List (Gxid × Txn)) (g q : Gxid) (s : Step) → AreRisen es → lookup (is_at (gxid_cmp q)) (with_step es g s) ≡ cond (eqb q.0 g.0) (stepped s (lookup (is_at (gxid_cmp g)) es)) (lookup (is_at (gxid_cmp q)) es)
find-step es g q Stays risen = find-stays es g q (eqb q.0 g.0) refl
find-step es g q (GoesTo p) risen = find-with g q (moved p) es
find-step es g q Leaves risen = find-remove g q es risen

-- the transaction that a call is about turns, and the others stay
pub find-on : (d : Table) (call : Call) (q : Gxid) → IsWhole d → find_txn (on d call).table q ≡ cond (eqb q.0 (about d call).0) (turned d call (find_txn d (about d call))) (find_txn d q)
find-on d Begin q w = find-push d.next q new_txn d.txns w.drawn
find-on d (Snap g) q w = find-with g q (λ t. record t { live = Some (xmin_of d) }) d.txns
find-on d (DropSnap g) q w = find-with g q (λ t. record t { live = None }) d.txns
find-on d (Enlist g i) q w = find-with g q (λ t. record t { participants = with_node i t.participants }) d.txns
find-on d (Commit g writers) q w = find-step d.txns g q (commit_found g writers (find_txn d g)).step w.risen
find-on d (Abort g) q w = find-step d.txns g q (abort_found g (find_txn d g)).step w.risen
find-on d (Reply g i answer refused) q w = find-step d.txns g q (reply_found g i answer refused (find_txn d g)).step w.risen

-- a call that may be made keeps the table whole
pub IsWhole-on : (d : Table) (call : Call) → IsWhole d → Admits d call → IsWhole (on d call).table
IsWhole-on d Begin w may = IsWhole-begun d w
IsWhole-on d (Snap g) w may = IsWhole-with d g (λ t. record t { live = Some (xmin_of d) }) (λ _. refl) w
IsWhole-on d (DropSnap g) w may = IsWhole-with d g (λ t. record t { live = None }) (λ _. refl) w
IsWhole-on d (Enlist g i) w may = IsWhole-with d g (λ t. record t { participants = with_node i t.participants }) (λ _. refl) w
IsWhole-on d (Commit g writers) w may = IsWhole-changed d g (commit_found g writers (find_txn d g)) w (Fits-commit (find_txn d g) g writers may.0)
IsWhole-on d (Abort g) w may = IsWhole-changed d g (abort_found g (find_txn d g)) w (Fits-abort (find_txn d g) g may)
IsWhole-on d (Reply g i answer refused) w may = IsWhole-changed d g (reply_found g i answer refused (find_txn d g)) w (Fits-reply (find_txn d g) g i answer refused)

-- so every run leads to a whole table
pub IsWhole-after : (calls : List Call) → IsRun calls → IsWhole (after calls)
IsWhole-after [] run = IsWhole-new
IsWhole-after (call ∷ before) run = IsWhole-on (after before) call (IsWhole-after before run.0) run.1
