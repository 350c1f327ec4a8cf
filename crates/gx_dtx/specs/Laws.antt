-- What is promised of every list of calls.
use Rattle.std.specs.Prelude.{◌≡◌, ◌≤◌, ◌⊎◌, ◌&&◌, not, Bool, true, false, Some}
use Rattle.gx_ids.specs.declared.ids.Gxid.{Gxid}
use Rattle.gx_ids.specs.declared.ids.Node.{Node}
use Rattle.gx_msg.specs.declared.reply.Reply.{Reply}
use Rattle.gx_msg.specs.declared.reply.Reply.TheVariants as reply
use Rattle.gx_dtx.specs.declared.order.Order.TheVariants as order
use Rattle.gx_dtx.specs.declared.outcome.Outcome.{Outcome}
use Rattle.gx_dtx.specs.declared.outcome.Outcome.TheVariants as outcome
use Rattle.gx_dtx.specs.declared.status.Status.TheVariants as status
use Rattle.gx_dtx.specs.Nodes.{has}
use Rattle.gx_dtx.specs.Table.{Table, find_txn, runs, status_of}
use Rattle.gx_dtx.specs.Rules.{on_reply, ends, awaits, is_deciding, awaited_order}
use Rattle.gx_dtx.specs.Past.{Past, is_over, AreAmong, HaveCommitted, until}
use Rattle.gx_dtx.specs.Past.Fate.{Decided, Committed, GivenUp, Aborted}

-- the horizon is at or below a transaction that isn't over, one that somebody hasn't forgotten, and the xmin of a live
-- snapshot
pub record IsLow (horizon : Gxid) (g : Gxid) (p : Past) : Type 0 where
  pub running : p.begun ≡ true → is_over p.fate ≡ false → horizon.0 ≤ g.0
  pub unforgotten : (i : Node) → p.fate ≡ Committed → has i p.enlisted ≡ true → has i p.forgotten ≡ false → horizon.0 ≤ g.0
  pub live : (x : Gxid) → p.live ≡ Some x → horizon.0 ≤ x.0

-- a transaction is decided once all its writers have promised, commits once they have done what a commit asks, and is
-- aborted only if it wasn't decided, and once all have aborted where its commands went
pub record KeepsProtocol (p : Past) : Type 0 where
  pub decided : p.fate ≡ Decided → AreAmong p.writers p.prepared
  pub committed : p.fate ≡ Committed → HaveCommitted p.decided p.writers p.prepared p.finished
  pub given_up : p.fate ≡ GivenUp → p.decided ≡ false
  pub aborted : p.fate ≡ Aborted → (p.decided ≡ false) × AreAmong p.enlisted p.aborted

-- where its commands went, each node is told to forget a committed transaction, or to abort one that is given up,
-- until it has answered so
pub record IsTold (d : Table) (g : Gxid) (p : Past) : Type 0 where
  pub forget : (i : Node) → p.fate ≡ Committed → has i p.enlisted ≡ true → awaited_order d g i ≡ until order.Forget (has i p.forgotten)
  pub abort : (i : Node) → p.fate ≡ GivenUp → has i p.enlisted ≡ true → awaited_order d g i ≡ until order.Abort (has i p.aborted)

-- what is due where an answer decides, or is an awaited JFAULT
pub record HasEffect (d : Table) (g : Gxid) (i : Node) (answer : Reply) (refused : Bool) : Type 0 where
  pub jfault : awaits d g i answer ≡ true → answer ≡ reply.Jfault → (on_reply d g i answer refused).out.outcome ≡ outcome.Refused i
  pub refused_by_journal : is_deciding d g i answer ≡ true → refused ≡ true → (on_reply d g i answer refused).out.outcome ≡ outcome.Refused (record { 0 = 0 })
  pub decided : is_deciding d g i answer ≡ true → refused ≡ false → (on_reply d g i answer refused).out.outcome ≡ outcome.Decided

-- why an answer comes to an outcome: to Decided since the decide item was appended; to Refused since an awaited JFAULT
-- of that node came, or since the own journal failed where it had to append; to Committed in the commit's last phase;
-- to Ended in an abort
abbrev pub Reason : Table → Gxid → Node → Reply → Bool → Outcome → Type 0
Reason d g i answer refused outcome.Pending = Unit {0}
Reason d g i answer refused outcome.Decided = (is_deciding d g i answer ≡ true) × (refused ≡ false)
Reason d g i answer refused (outcome.Refused j) =
    ((j ≡ i) × (awaits d g i answer ≡ true) × (answer ≡ reply.Jfault)) ⊎ ((j.0 ≡ 0) × (is_deciding d g i answer ≡ true) × (refused ≡ true))
Reason d g i answer refused outcome.Committed = status_of d g ≡ Some status.Committing
Reason d g i answer refused outcome.Ended = status_of d g ≡ Some status.Aborting

-- an outcome of an answer has its reason, and it is Committed or Ended exactly where the transaction ran before and
-- doesn't any more
pub record HasCause (d : Table) (g : Gxid) (i : Node) (answer : Reply) (refused : Bool) (out : Outcome) : Type 0 where
  pub reason : Reason d g i answer refused out
  pub ended : ends out ≡ (runs (find_txn d g) && not (runs (find_txn (on_reply d g i answer refused).table g)))
