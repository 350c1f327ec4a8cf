-- How a command that changes rows leaves what is held.
use Rattle.std.proofs.Common.{◌≡◌, ◌<◌, ◌+◌, ◌^◌, ℕ, Bool, if◌then◌else◌, List, [], ◌∷◌, length, Some, None, suc, refl, sym, ap, ◌∙◌, subst, arith}
use Rattle.std.specs.Global.{Vec}
use Rattle.std.specs.Prelude.{nat_lt}
use Rattle.gx_ids.specs.declared.ids.Cid.{Cid}
use Rattle.gx_ids.specs.declared.ids.Gxid.{Gxid}
use Rattle.gx_ids.specs.declared.rid.Rid.{Rid}
use Rattle.gx_tree.specs.declared.row.KeyedRow.{KeyedRow}
use Rattle.gx_meaning.specs.declared.fault.ArithFault.{ArithFault}
use Rattle.gx_msg.specs.declared.reply.Cause.{Cause}
use Rattle.gx_msg.specs.declared.reply.Reply.{Reply}
use Rattle.gx_msg.specs.declared.reply.Reply.TheVariants.{Done, Failed}
use Rattle.gx_tree.specs.declared.part.Part.TheVariants.{Rows}
use Rattle.gx_node.specs.Phases.{local_of, phase_of, suspended_of}
use Rattle.gx_node.specs.declared.local.Suspended as code
use Rattle.gx_store.specs.declared.mark.Mark.{Mark}
use Rattle.gx_rules.specs.Changes as rule
use Rattle.gx_rules.specs.Segments as segments
use Rattle.gx_rules.specs.Segments.{Local, Seg, SegTurn, Suspended, with_local}
use Rattle.gx_rules.specs.Slices.{Moved, answers, cause_of, fails_on, has_written, starts_from}
use Rattle.gx_slices.specs.Agrees.{IsHeld}
use Rattle.gx_slices.specs.Apart.{IsBack, answered}
use Rattle.gx_slices.specs.Changing.{HasGone, IsAnswered, IsAt, IsFree, IsTaken, MayChange, Stage, change_in}
use Rattle.gx_slices.specs.Picked.{select_marks}
use Rattle.gx_slices.specs.Ran.{HasProgressed}
use Rattle.gx_slices.specs.Suspensions.{suspended}
use Rattle.gx_slices.specs.Waiting.{IsRightWait, is_open}
use Rattle.gx_slices.specs.declared.change.Change.{Change}
use Rattle.gx_slices.specs.declared.changing_rows.RowsEnd.TheVariants as rows_end
use Rattle.gx_slices.specs.declared.held.Entry.{Entry}
use Rattle.gx_slices.specs.declared.held.Held.{Held}
use Rattle.gx_slices.proofs.Closing.{IsHeld-answered, IsHeld-back}
use Rattle.gx_slices.proofs.Gxids.{itself}

module _ (stage : Stage) (change : Change) (held new : Held) (entry : Entry) (marks : List Mark) (turn : SegTurn) (taken : IsTaken stage change.writer.gxid) (may : MayChange stage.found.tables stage.found.start change) where
  abbrev g : Gxid
  g = change.writer.gxid

  abbrev k : rule.Change
  k = change_in change

  -- IT IS DONE, OR FAILS
  pub IsAnswered-done : (count : ℕ) (r : Reply) → HasGone stage k g held entry marks turn (rows_end.Done count) → r ≡ Done change.writer.cid (has_written (phase_of entry.local.phase)) count (Rows []) → IsAnswered stage k g held entry marks turn r
  IsAnswered-done count r is told =
      let s = is.moved.seg in
      record {
        moved = is.moved;
        at = is.at;
        is =
            is.is
            ∙ ap (λ (q : Reply). answers s g k.cid is.moved.marks q)
            (sym (told ∙ ap (λ (l : Local). Done change.writer.cid (has_written l.phase) count (Rows [])) is.at.apart.local));
        free = is.waits;
      }

  pub IsAnswered-failing : (cause : Cause) (r : Reply) → HasGone stage k g held entry marks turn (rows_end.Failing cause) → r ≡ Failed change.writer.cid cause → IsAnswered stage k g held entry marks turn r
  IsAnswered-failing cause r is told = subst (λ (a : Reply). IsAnswered stage k g held entry marks turn a) (sym told) (record { moved = is.moved; at = is.at; is = is.is; free = is.waits })

  -- IT ANSWERS
  module _ (r : Reply) (is : IsAnswered stage k g held entry marks turn r) (back : IsBack held new g change.writer.cid (answered entry change.writer.cid r)) where
    pub HasProgressed-answered : (shown : List Mark) → shown ≡ marks → HasProgressed stage.found.tables new g (record { marks = shown; reply = Some r }) turn
    HasProgressed-answered shown all = record {
      agrees =
          subst (λ (t : SegTurn). IsHeld stage.found.tables new t.seg) (sym is.is)
          (IsHeld-answered stage.found.tables stage.found.was stage.first held new stage.found.start is.moved.seg g change.writer.cid entry taken.held may.new is.at.apart taken.others taken.holders is.at.typed r taken.free is.free back);
      marks = all ∙ is.at.told ∙ ap (λ (t : SegTurn). t.marks) (sym is.is);
      outs = ap (λ (t : SegTurn). t.outs) is.is;
      item = ap (λ (t : SegTurn). t.item) is.is;
    }

  -- IT WAITS AT A ROW
  module _ (row : Rid) (rows : List Rid) (count : ℕ) (is : HasGone stage k g held entry marks turn (rows_end.Waiting row rows count)) (w : code.Suspended) (same : suspended_of w ≡ rule.suspended_at k row rows count) (back : IsBack held new g w.cid (suspended entry w)) where
    abbrev s : Seg
    s = is.moved.seg

    abbrev told : Local
    told = record (segments.local_of s g) { last = change.writer.cid.0; answer = None; suspended = Some (rule.suspended_at k row rows count) }

    its_cid : w.cid.0 ≡ change.writer.cid.0
    its_cid = ap (λ (x : Suspended). x.cid.0) same

    abbrev told_by : Local → Suspended → Local
    told_by l x = record l { last = x.cid.0; answer = None; suspended = Some x }

    its_local : local_of (suspended entry w).local ≡ told
    its_local = ap (λ (l : Local). told_by l (suspended_of w)) is.at.apart.local ∙ ap (told_by (segments.local_of s g)) same

    told_at : segments.local_of (with_local s g told) g ≡ told
    told_at = ap (λ (b : Bool). if b then told else segments.local_of s g) (itself g.0)

    right-wait : IsRightWait stage.found.tables (with_local s g told) g (rule.suspended_at k row rows count)
    right-wait = record {
      alive = is.at.apart.alive;
      open_here = ap (λ (l : Local). is_open l.phase) told_at ∙ is.at.apart.open_here;
      came = ap (λ (l : Local). nat_lt 0 l.last) told_at ∙ may.new;
      reads = refl;
      right = may.right;
      new = may.new;
      room = is.room;
    }

    same_slice : (x y : Suspended) → Some x ≡ Some y → x ≡ y
    same_slice x y e = cc

    pub HasProgressed-stopped : (shown : List Mark) → shown ≡ marks → HasProgressed stage.found.tables new g (record { marks = shown; reply = None }) turn
    HasProgressed-stopped shown all = record {
      agrees =
          subst (λ (t : SegTurn). IsHeld stage.found.tables new t.seg) (sym is.is)
          (IsHeld-back stage.found.tables stage.found.was stage.first held new stage.found.start s g w.cid entry taken.held (ap (nat_lt 0) its_cid ∙ may.new) is.at.apart taken.others taken.holders is.at.typed (suspended entry w) told back its_local refl refl (sym its_cid) is.waits
          (λ x e. subst (IsRightWait stage.found.tables (with_local s g told) g) (same_slice (rule.suspended_at k row rows count) x e) right-wait));
      marks = all ∙ is.at.told ∙ ap (λ (t : SegTurn). t.marks) (sym is.is);
      outs = ap (λ (t : SegTurn). t.outs) is.is;
      item = ap (λ (t : SegTurn). t.item) is.is;
    }

-- IT FAILS ON A ROW THAT IT SELECTS BY
module _ (stage : Stage) (k : rule.Change) (g : Gxid) (held : Held) (entry : Entry) (at : IsAt stage g held entry []) (free : IsFree stage g) (start : stage.moved ≡ starts_from stage.found.start) (marks : List Mark) where
  abbrev pub marked : Stage
  marked = record stage { moved = record stage.moved { marks = marks } }

  pub IsTaken-marked : IsTaken stage g → IsTaken marked g
  IsTaken-marked taken = record { held = taken.held; free = taken.free; others = taken.others; holders = taken.holders }

  pub IsAnswered-marked : (r : Reply) → IsAnswered marked k g held entry marks (answers stage.found.start g k.cid marks r) r
  IsAnswered-marked r = record {
    moved = record stage.moved { marks = marks };
    at = record { apart = at.apart; told = refl; typed = at.typed };
    is = ap (λ (m : Moved). answers m.seg g k.cid marks r) (sym start);
    free = free;
  }

pub answers-faulted : (s : Seg) (g : Gxid) (c : Cid) (row : KeyedRow) (fault : ArithFault) (marks : List Mark) (r : Reply) → marks ≡ select_marks g c (Some (row, fault)) → r ≡ Failed c (cause_of fault) → answers s g c marks r ≡ fails_on s g c (row, fault)
answers-faulted s g c row fault marks r told is = ap (λ (ms : List Mark). answers s g c ms r) told ∙ ap (answers s g c (select_marks g c (Some (row, fault)))) is

-- ROOM
pub few-rows : (rids : Vec Rid) (rows : List Rid) → rows ≡ rids.items → 0 + length rows < 2 ^ 64
few-rows rids rows same = let few : length rids.items < 2 ^ 63 = omega (arith, rids.ok, rids.small) in let is : length rows ≡ length rids.items = ap length same in omega (arith, few, is)

pub room-for : (count : ℕ) (row : Rid) (rows all : List Rid) → all ≡ row ∷ rows → count + length rows + 1 < 2 ^ 64 → count + length all < 2 ^ 64
room-for count row rows all same room = let is : length all ≡ suc (length rows) = ap length same in omega (arith, is, room)
