-- A slice in the rule's words, and how far it has come.
use Rattle.std.proofs.Common.{◌≡◌, length, true, false, ◌||◌, List, ◌∷◌, ◌++◌, append-nil, Option, Some, None, refl, sym, ap, ◌∙◌, subst}
use Rattle.std.specs.Prelude.{◌≤◌, IfOk, Result, is_some, nat_lt}
use Rattle.gx_ids.specs.declared.memory.OutOfMemory.{OutOfMemory}
use Rattle.gx_ids.specs.declared.ids.Cid.{Cid}
use Rattle.gx_ids.specs.declared.ids.Gxid.{Gxid}
use Rattle.gx_ids.specs.declared.rid.Rid.{Rid}
use Rattle.gx_tree.specs.declared.slice.Slice.{Slice}
use Rattle.gx_tree.specs.declared.slice.Slice.TheVariants as slice
use Rattle.gx_node.specs.Right.{IsRightFor}
use Rattle.gx_ids.specs.declared.ids.Table.{Table}
use Rattle.gx_tree.specs.declared.cond.Cond.{Cond}
use Rattle.gx_tree.specs.declared.schema.Schema.{Schema}
use Rattle.gx_tree.specs.declared.stmt.Assign.{Assign}
use Rattle.gx_tree.specs.declared.stmt.Level.{Level}
use Rattle.gx_dsnap.specs.declared.snapshot.Snapshot.{Snapshot}
use Rattle.gx_store.specs.declared.mark.Mark.{Mark}
use Rattle.gx_rules.specs.Changes as rule
use Rattle.gx_rules.specs.Fits.{is_waiting, reads_nothing}
use Rattle.gx_rules.specs.Segments.{Seg, SegTurn, Suspended, after_marks, local_of}
use Rattle.gx_rules.specs.Running.{runs_slice}
use Rattle.gx_rules.specs.Slices.{Moved, adds, inserted, inserts}
use Rattle.gx_tree.specs.declared.row.KeyedRow.{KeyedRow}
use Rattle.gx_slices.specs.Agrees.{IsHeld}
use Rattle.gx_slices.specs.Changing.{MayChange, change_in, slice_in}
use Rattle.gx_slices.specs.Ran.{HasProgressed, HasRun, MayGoOn, MayRun}
use Rattle.gx_slices.specs.Waiting.{is_open}
use Rattle.gx_slices.specs.declared.change.Change.{Change}
use Rattle.gx_slices.specs.declared.changing.Writer.{Writer}
use Rattle.gx_slices.specs.declared.held.Held.{Held}
use Rattle.gx_slices.specs.declared.progress.Progress.{Progress}
use Rattle.gx_slices.specs.declared.running.Ran.{Ran}

-- UPDATE AND DELETE
pub change_of-in : (writer : Writer) (level : Level) (snapshot : Snapshot) (set : Option (List Assign)) (cond : Option Cond)
    → rule.change_of writer.cid level (Some snapshot) (slice_in writer.table set cond) ≡ Some (change_in (record { writer = writer; level = level; snapshot = snapshot; set = set; cond = cond }))
change_of-in writer level snapshot None cond = refl
change_of-in writer level snapshot (Some assigns) cond = refl

reads-something : (table : Table) (set : Option (List Assign)) (cond : Option Cond) → reads_nothing (slice_in table set cond) ≡ false
reads-something table None cond = refl
reads-something table (Some assigns) cond = refl

-- they have a snapshot
pub has-snapshot : (table : Table) (set : Option (List Assign)) (cond : Option Cond) (snapshot : Option Snapshot) → (is_some snapshot || reads_nothing (slice_in table set cond)) ≡ true → snapshot ≡ None → ⊥
has-snapshot table set cond None e none = differ (sym (reads-something table set cond) ∙ e)
  where
    differ : false ≡ true → ⊥
    differ f = cc
has-snapshot table set cond (Some snapshot) e none = cc

-- HOW FAR
-- it has run
pub HasProgressed-ran : (tables others : List Schema) → tables ≡ others → (held : Held) (g : Gxid) (ran : Ran) (turn : SegTurn) → HasRun tables held g ran turn → (progress : Progress) → progress ≡ record { marks = ran.marks; reply = Some ran.reply } → HasProgressed others held g progress turn
HasProgressed-ran tables others same held g ran turn did progress is =
    subst (λ (ts : List Schema). HasProgressed ts held g progress turn) same
    (subst (λ (p : Progress). HasProgressed tables held g p turn) (sym is) (record { agrees = did.agrees; marks = did.marks; outs = did.outs; item = did.item }))

-- behind other marks
pub HasProgressed-after : (tables : List Schema) (held : Held) (g : Gxid) (progress all : Progress) (turn : SegTurn) (marks : List Mark) → HasProgressed tables held g progress turn → all ≡ record { marks = marks ++ progress.marks; reply = progress.reply } → HasProgressed tables held g all (after_marks marks turn)
HasProgressed-after tables held g progress all turn marks did is =
    subst (λ (p : Progress). HasProgressed tables held g p (after_marks marks turn)) (sym is)
    (record { agrees = did.agrees; marks = ap (λ (ms : List Mark). marks ++ ms) did.marks; outs = did.outs; item = did.item })

-- another turn that is the same
pub HasProgressed-same : (tables : List Schema) (held : Held) (g : Gxid) (progress : Progress) (turn turn' : SegTurn) → turn ≡ turn' → HasProgressed tables held g progress turn → HasProgressed tables held g progress turn'
HasProgressed-same tables held g progress turn turn' e did = subst (HasProgressed tables held g progress) e did

pub HasProgressed-if : (tables : List Schema) (held : Held) (g : Gxid) (result : Result Progress OutOfMemory) (turn turn' : SegTurn) → turn ≡ turn' → IfOk result (λ progress. HasProgressed tables held g progress turn) → IfOk result (λ progress. HasProgressed tables held g progress turn')
HasProgressed-if tables held g result turn turn' e did = subst (λ (t : SegTurn). IfOk result (λ progress. HasProgressed tables held g progress t)) e did

-- A SLICE THAT HAS WAITED AT A ROW
same_change : (j k : rule.Change) → Some j ≡ Some k → j ≡ k
same_change j k e = cc

no_change : (k : rule.Change) → Some k ≡ None → ⊥
no_change k e = cc

record AreParts (k : rule.Change) (c : Cid) (slice : Slice) : Type 0 where
  pub slice_is : slice ≡ k.slice
  pub cid_is : c ≡ k.cid

change-parts : (c : Cid) (level : Level) (snapshot : Option Snapshot) (slice : Slice) (k : rule.Change) → Some k ≡ rule.change_of c level snapshot slice → AreParts k c slice
change-parts c level (Some snapshot) (slice.Update table assigns cond) k e =
    let same = same_change k _ e in record { slice_is = sym (ap (λ (x : rule.Change). x.slice) same); cid_is = sym (ap (λ (x : rule.Change). x.cid) same) }
change-parts c level (Some snapshot) (slice.Delete table cond) k e =
    let same = same_change k _ e in record { slice_is = sym (ap (λ (x : rule.Change). x.slice) same); cid_is = sym (ap (λ (x : rule.Change). x.cid) same) }
change-parts c level (Some snapshot) (slice.Select query) k e = absurd (no_change k e)
change-parts c level (Some snapshot) (slice.Insert table rows) k e = absurd (no_change k e)
change-parts c level (Some snapshot) (slice.Lock table mode) k e = absurd (no_change k e)
change-parts c level None (slice.Update table assigns cond) k e = absurd (no_change k e)
change-parts c level None (slice.Delete table cond) k e = absurd (no_change k e)
change-parts c level None (slice.Select query) k e = absurd (no_change k e)
change-parts c level None (slice.Insert table rows) k e = absurd (no_change k e)
change-parts c level None (slice.Lock table mode) k e = absurd (no_change k e)

module _ (tables : List Schema) (start : Seg) (g : Gxid) (w : Suspended) (may : MayGoOn tables start g w) (change : Change) (writer : change.writer.gxid ≡ g) (made : Some (change_in change) ≡ rule.change_of w.cid w.level w.snapshot w.slice) where
  parts : AreParts (change_in change) w.cid w.slice
  parts = change-parts w.cid w.level w.snapshot w.slice (change_in change) made

  right : IsRightFor tables change.writer.gxid change.writer.cid (slice_in change.writer.table change.set change.cond) true
  right =
      subst (λ (h : Gxid). IsRightFor tables h change.writer.cid (slice_in change.writer.table change.set change.cond) true) (sym writer)
      (subst (λ (c : Cid). IsRightFor tables g c (slice_in change.writer.table change.set change.cond) true) parts.cid_is
      (subst (λ (s : Slice). IsRightFor tables g w.cid s true) parts.slice_is may.may.right))

  pub MayChange-made : change.writer.node ≡ start.node → MayChange tables start change
  MayChange-made at_node = record {
    alive = subst (λ (h : Gxid). start.horizon.0 ≤ h.0) (sym writer) may.may.alive;
    node = at_node;
    right = right;
    new = ap (λ (c : Cid). nat_lt 0 c.0) (sym parts.cid_is) ∙ may.may.new;
  }

  pub open-made : is_open (local_of start change.writer.gxid).phase ≡ true
  open-made = ap (λ (h : Gxid). is_open (local_of start h).phase) writer ∙ may.may.open_here

  pub free-made : is_waiting (local_of start change.writer.gxid) ≡ false
  free-made = ap (λ (h : Gxid). is_waiting (local_of start h)) writer ∙ may.may.free

  pub HasProgressed-made : (held : Held) (result : Result Progress OutOfMemory) (m : Moved) (row : Rid)
      → IfOk result (λ progress. HasProgressed tables held change.writer.gxid progress (rule.goes_through change.writer.gxid (change_in change) (row ∷ w.rows) m w.count))
      → IfOk result (λ progress. HasProgressed tables held g progress (rule.goes_on_at m g (rule.change_of w.cid w.level w.snapshot w.slice) row w))
  HasProgressed-made held result m row did =
      subst (λ (o : Option rule.Change). IfOk result (λ progress. HasProgressed tables held g progress (rule.goes_on_at m g o row w))) made
      (subst (λ (h : Gxid). IfOk result (λ progress. HasProgressed tables held h progress (rule.goes_through h (change_in change) (row ∷ w.rows) m w.count))) writer did)

-- another slice stays where it is
pub HasProgressed-stays : (tables : List Schema) (start : Seg) (held : Held) (g : Gxid) (w : Suspended) (marks shown : List Mark) (row : Rid) → IsHeld tables held start → None ≡ rule.change_of w.cid w.level w.snapshot w.slice → shown ≡ marks
    → HasProgressed tables held g (record { marks = shown; reply = None }) (rule.goes_on_at (record { seg = start; marks = marks }) g (rule.change_of w.cid w.level w.snapshot w.slice) row w)
HasProgressed-stays tables start held g w marks shown row is none told =
    subst (λ (o : Option rule.Change). HasProgressed tables held g (record { marks = shown; reply = None }) (rule.goes_on_at (record { seg = start; marks = marks }) g o row w)) none
    (record { agrees = is; marks = told ∙ sym (append-nil marks); outs = refl; item = refl })

-- OTHER TABLES THAT ARE THE SAME, AND A SLICE THAT IS THE SAME
pub IsHeld-tables : (tables others : List Schema) → others ≡ tables → (held : Held) (s : Seg) → IsHeld tables held s → IsHeld others held s
IsHeld-tables tables others same held s is = subst (λ (ts : List Schema). IsHeld ts held s) (sym same) is

pub MayRun-tables : (tables others : List Schema) → others ≡ tables → (s : Seg) (g : Gxid) (c : Cid) (snapshot : Option Snapshot) (it : Slice) → MayRun tables s g c snapshot it → MayRun others s g c snapshot it
MayRun-tables tables others same s g c snapshot it may = subst (λ (ts : List Schema). MayRun ts s g c snapshot it) (sym same) may

pub MayRun-slice : (tables : List Schema) (s : Seg) (g : Gxid) (c : Cid) (snapshot : Option Snapshot) (it other : Slice) → it ≡ other → MayRun tables s g c snapshot it → MayRun tables s g c snapshot other
MayRun-slice tables s g c snapshot it other same may = subst (MayRun tables s g c snapshot) same may

-- an INSERT has a snapshot
pub adds-some : (s : Seg) (g : Gxid) (c : Cid) (table : Table) (rows : List KeyedRow) (snapshot : Option Snapshot) → (is_some snapshot || reads_nothing (slice.Insert table rows)) ≡ true → inserts g c (length rows) (inserted s g c table rows) ≡ adds s g c table rows snapshot
adds-some s g c table rows None e = absurd (cc)
adds-some s g c table rows (Some snapshot) e = refl

pub HasProgressed-slice : (tables : List Schema) (held : Held) (g : Gxid) (result : Result Progress OutOfMemory) (marks : List Mark) (s : Seg) (c : Cid) (level : Level) (snapshot : Option Snapshot) (it other : Slice) → it ≡ other
    → IfOk result (λ progress. HasProgressed tables held g progress (after_marks marks (runs_slice s g c level snapshot other))) → IfOk result (λ progress. HasProgressed tables held g progress (after_marks marks (runs_slice s g c level snapshot it)))
HasProgressed-slice tables held g result marks s c level snapshot it other same did =
    subst (λ (x : Slice). IfOk result (λ progress. HasProgressed tables held g progress (after_marks marks (runs_slice s g c level snapshot x)))) (sym same) did
