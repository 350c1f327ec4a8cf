-- What a segment does for a command that reads, adds or locks, and how a command leaves it.
use Rattle.std.specs.Prelude.{ℕ, Bool, true, false, List, [], ◌∷◌, ◌++◌, filter, fold, length, Some, None, Result, Ok, Err}
use Rattle.std.specs.declared.option.Option.{Option}
use Rattle.std.specs.List.{list_any}
use Rattle.gx_ids.specs.declared.ids.Cid.{Cid}
use Rattle.gx_ids.specs.declared.ids.Gxid.{Gxid}
use Rattle.gx_ids.specs.declared.ids.Table.{Table}
use Rattle.gx_ids.specs.declared.rid.Rid.{Rid}
use Rattle.gx_tree.specs.declared.cond.Cond.{Cond}
use Rattle.gx_tree.specs.declared.part.Part.TheVariants.{Rows}
use Rattle.gx_tree.specs.declared.query.Query.{Query}
use Rattle.gx_tree.specs.declared.row.KeyedRow.{KeyedRow}
use Rattle.gx_tree.specs.declared.value.Value.{Value}
use Rattle.gx_dsnap.specs.declared.snapshot.Snapshot.{Snapshot}
use Rattle.gx_modes.specs.declared.modes.Mode.TheVariants.{Exclusive}
use Rattle.gx_waits.specs.Claim.{same_claim}
use Rattle.gx_waits.specs.declared.claim.Claim.{Claim}
use Rattle.gx_waits.specs.declared.object.Object.TheVariants.{Transaction}
use Rattle.gx_meaning.specs.declared.fault.ArithFault.{ArithFault}
use Rattle.gx_meaning.specs.declared.fault.ArithFault.TheVariants as arith
use Rattle.gx_meaning.specs.Answer.{keeps, part_of}
use Rattle.gx_msg.specs.declared.reply.Cause.{Cause}
use Rattle.gx_msg.specs.declared.reply.Cause.TheVariants as cause
use Rattle.gx_msg.specs.declared.reply.Reply.{Reply}
use Rattle.gx_msg.specs.declared.reply.Reply.TheVariants.{Done, Failed}
use Rattle.gx_store.specs.declared.mark.Mark.{Mark}
use Rattle.gx_store.specs.declared.mark.Mark.TheVariants.{Write, Fault}
use Rattle.gx_store.specs.Commands.{condition_on}
use Rattle.gx_waits.specs.Claims.{claim}
use Rattle.gx_rules.specs.Locks.{hold_mark, release_mark, with_hold, without_hold}
use Rattle.gx_rules.specs.Segments.{Phase, Seg, SegTurn, Version, local_of, reply, stays, with_local}
use Rattle.gx_rules.specs.Segments.Phase.{Reading, Writing}
use Rattle.gx_rules.specs.Shown.{shown}

-- the command's answer is kept and sent
abbrev pub answers : Seg → Gxid → Cid → List Mark → Reply → SegTurn
answers s g c marks r =
    record { seg = with_local s g (record (local_of s g) { last = c.0; answer = Some r }); marks = marks; outs = reply g r ∷ []; item = None }

-- the transaction has written at the segment
abbrev pub has_written : Phase → Bool
has_written Reading = false
has_written _ = true

-- SELECT
-- the first row on which the condition faults, with its fault
abbrev pub or_fault : KeyedRow → Result Bool ArithFault → Option (KeyedRow × ArithFault) → Option (KeyedRow × ArithFault)
or_fault row (Ok truth) later = later
or_fault row (Err fault) later = Some (row, fault)

abbrev pub first_fault : Option Cond → List KeyedRow → Option (KeyedRow × ArithFault)
first_fault cond [] = None
first_fault cond (row ∷ rows) = or_fault row (condition_on cond row.row) (first_fault cond rows)

abbrev pub cause_of : ArithFault → Cause
cause_of arith.Overflow = cause.Overflow
cause_of arith.DivisionByZero = cause.DivisionByZero

-- the command fails on the row
abbrev pub fails_on : Seg → Gxid → Cid → KeyedRow × ArithFault → SegTurn
fails_on s g c fault = answers s g c (Fault g c fault.0.rid (Some fault.0.row) ∷ []) (Failed c (cause_of fault.1))

abbrev pub selects : Seg → Gxid → Cid → Query → List KeyedRow → Option (KeyedRow × ArithFault) → SegTurn
selects s g c query rows None =
    answers s g c [] (Done c (has_written (local_of s g).phase) 0 (part_of query (filter (keeps query.cond) rows)))
selects s g c query rows (Some fault) = fails_on s g c fault

-- ROW BY ROW
-- what the rows so far have made of the segment, with their marks
pub record Moved : Type 0 where
  pub seg : Seg
  pub marks : List Mark

abbrev pub starts_from : Seg → Moved
starts_from s = record { seg = s; marks = [] }

abbrev pub noted : Moved → Mark → Moved
noted m mark = record m { marks = m.marks ++ mark ∷ [] }

abbrev pub is_holding : Moved → Claim → Bool
is_holding m claim = list_any (same_claim claim) m.seg.locks.holds

-- a lock is granted, and given back
abbrev pub takes_lock : Claim → Moved → Moved
takes_lock wanted m = record { seg = record m.seg { locks = with_hold m.seg.locks wanted }; marks = m.marks ++ hold_mark m.seg.node wanted ∷ [] }

abbrev pub gives_back : Claim → Moved → Moved
gives_back old m = record { seg = record m.seg { locks = without_hold m.seg.locks old }; marks = m.marks ++ release_mark m.seg.node old ∷ [] }

-- WRITES
-- a transaction's own lock, which it holds at a segment from its first write there
abbrev pub own_lock : Gxid → Claim
own_lock g = claim g (Transaction g) Exclusive

abbrev pub takes_own : Gxid → Phase → Moved → Moved
takes_own g Reading m = takes_lock (own_lock g) m
takes_own g _ m = m

abbrev pub version : Gxid → Cid → Table → Rid → Option (List Value) → Version
version g c table rid image = record { gxid = g; cid = c; table = table; rid = rid; image = image }

abbrev pub adds_version : Seg → Gxid → Version → Seg
adds_version s g v = record (with_local s g (record (local_of s g) { phase = Writing })) { versions = s.versions ++ v ∷ [] }

-- a row gets a new image
abbrev pub writes_row : Gxid → Cid → Table → Moved → Rid → Option (List Value) → Moved
writes_row g c table m rid image =
    takes_own g (local_of m.seg g).phase
    (record { seg = adds_version m.seg g (version g c table rid image); marks = m.marks ++ Write g c m.seg.node table rid image ∷ [] })

-- INSERT
abbrev pub inserts_row : Gxid → Cid → Table → Moved → KeyedRow → Moved
inserts_row g c table m row = writes_row g c table m row.rid (Some row.row)

abbrev pub inserted : Seg → Gxid → Cid → Table → List KeyedRow → Moved
inserted s g c table rows = fold (inserts_row g c table) (starts_from s) rows

abbrev pub inserts : Gxid → Cid → ℕ → Moved → SegTurn
inserts g c count m = answers m.seg g c m.marks (Done c (has_written (local_of m.seg g).phase) count (Rows []))

-- LOCK TABLE
-- with the lock everything is done
abbrev pub locks : Seg → Gxid → Cid → SegTurn
locks s g c = answers s g c [] (Done c (has_written (local_of s g).phase) 0 (Rows []))

-- WITH A SNAPSHOT
-- who reads or adds rows has one
abbrev pub reads : Seg → Gxid → Cid → Query → Option Snapshot → SegTurn
reads s g c query None = stays s
reads s g c query (Some snapshot) = selects s g c query (shown s snapshot g c query.table) (first_fault query.cond (shown s snapshot g c query.table))

abbrev pub adds : Seg → Gxid → Cid → Table → List KeyedRow → Option Snapshot → SegTurn
adds s g c table rows None = stays s
adds s g c table rows (Some snapshot) = inserts g c (length rows) (inserted s g c table rows)
