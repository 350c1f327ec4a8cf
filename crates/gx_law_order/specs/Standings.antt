-- Where a transaction stands for one segment: what the coordinator knows of it, and what the segment has of it.
use Rattle.std.specs.Prelude.{ℕ, nat_le, ◌==◌, Bool, true, false, if◌then◌else◌, List, None, Some}
use Rattle.std.specs.declared.option.Option.{Option}
use Rattle.gx_ids.specs.declared.ids.Gxid.{Gxid}
use Rattle.gx_ids.specs.declared.ids.Node.{Node}
use Rattle.gx_dtx.specs.Nodes.{has}
use Rattle.gx_dtx.specs.Table.{find_txn}
use Rattle.gx_dtx.specs.declared.phase.Phase.{Phase as Status}
use Rattle.gx_dtx.specs.declared.phase.Phase.TheVariants as status
use Rattle.gx_dtx.specs.declared.txn.Txn.{Txn}
use Rattle.gx_msg.specs.declared.reply.Reply.{Reply}
use Rattle.gx_store.specs.declared.mark.Mark.{Mark}
use Rattle.gx_store.specs.Marks.{is_aborted, is_committed}
use Rattle.gx_store.specs.Protocol.{decided_count, is_writer, local_count, prepared_count}
use Rattle.gx_rules.specs.Coordinators.{Command, Coord, Work}
use Rattle.gx_rules.specs.Fits.{is_waiting}
use Rattle.gx_rules.specs.Segments.{Local, Phase, Seg}

abbrev pub at : ℕ → Node
at i = record { 0 = i }

abbrev pub gx : ℕ → Gxid
gx g = record { 0 = g }

-- It isn't drawn; its commands run; it is on its way to a commit, for which the segment's promise is awaited or isn't, or the
-- segment alone or another alone is to commit, or it is decided and the segment's commit is awaited or isn't; it has its
-- Commit or Abort mark.
pub data Standing : Type 0 where
  Unborn : Standing
  Live : Standing
  Preparing : (waits : Bool) → Standing
  One : (mine : Bool) → Standing
  Two : (waits : Bool) → Standing
  Over : Standing

abbrev pub is_closing : Standing → Bool
is_closing (Preparing waits) = true
is_closing (One mine) = true
is_closing (Two waits) = true
is_closing _ = false

-- no decision can have been made
abbrev pub is_undecided : Standing → Bool
is_undecided Unborn = true
is_undecided Live = true
is_undecided (Preparing waits) = true
is_undecided (One mine) = true
is_undecided _ = false

abbrev pub is_decided : Standing → Bool
is_decided (Two waits) = true
is_decided _ = false

abbrev pub standing_in : Status → ℕ → Standing
standing_in status.Active i = Live
standing_in (status.Preparing writers awaited) i = Preparing (has (at i) awaited)
standing_in (status.CommittingOne w) i = One (w.0 == i)
standing_in (status.CommittingTwo awaited) i = Two (has (at i) awaited)
standing_in (status.Ended awaited) i = Over
standing_in (status.Aborting awaited) i = Over

abbrev pub standing : Bool → Option Txn → ℕ → Standing
standing undrawn None i = if undrawn then Unborn else Over
standing undrawn (Some t) i = standing_in t.phase i

-- The coordinator's side: the standing, whether it knows of the segment that it has written, whether it awaits the segment's
-- answer to a command, the last command's number, and what the marks say of the transaction's end.
pub record Known : Type 0 where
  pub at : Standing
  pub writes : Bool
  pub waits : Bool
  pub last : ℕ
  pub decided : ℕ
  pub aborted : Bool
  pub committed : Bool

abbrev pub waits_in : Option Command → ℕ → Bool
waits_in None i = false
waits_in (Some k) i = has (at i) k.awaited

abbrev pub known_of : Standing → Work → ℕ → ℕ → Bool → Bool → Known
known_of stands w i decided aborted committed =
    record { at = stands; writes = has (at i) w.writers; waits = waits_in w.command i; last = w.last; decided = decided; aborted = aborted; committed = committed }

abbrev pub known_at : Coord → List Mark → ℕ → ℕ → Known
known_at c ms i g =
    known_of (standing (nat_le c.table.next.0 g) (find_txn c.table (gx g)) i) (c.works g) i (decided_count ms (gx g)) (is_aborted ms (gx g)) (is_committed ms (gx g))

-- The segment's side: its record of the transaction, whether a slice of it waits there, and what the marks say of the two there.
pub record Part : Type 0 where
  pub phase : Phase
  pub last : ℕ
  pub answer : Option Reply
  pub vote : Option Reply
  pub waits : Bool
  pub wrote : Bool
  pub promises : ℕ
  pub commits : ℕ

abbrev pub part_of : Local → Bool → ℕ → ℕ → Part
part_of l wrote promises commits =
    record { phase = l.phase; last = l.last; answer = l.answer; vote = l.vote; waits = is_waiting l; wrote = wrote; promises = promises; commits = commits }

abbrev pub part_at : Seg → List Mark → ℕ → ℕ → Part
part_at s ms i g = part_of (s.locals g) (is_writer ms (gx g) (at i)) (prepared_count ms (at i) (gx g)) (local_count ms (at i) (gx g))
