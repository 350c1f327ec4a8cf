-- A command that changes rows is under way at each point of its turn, or it was, and its transaction has aborted.
use Rattle.std.proofs.Common.{◌≡◌, ℕ, List, [], ◌∷◌, ◌++◌, Option, Some, None, Bool, true, false, refl, ap, ◌∙◌, sym, ◌||◌, arith}
use Rattle.gx_ids.specs.declared.ids.Cid.{Cid}
use Rattle.gx_ids.specs.declared.ids.Gxid.{Gxid}
use Rattle.gx_ids.specs.declared.ids.Node.{Node}
use Rattle.gx_ids.specs.declared.ids.SessionId.{SessionId}
use Rattle.gx_tree.specs.declared.stmt.Assign.{Assign}
use Rattle.gx_script.specs.declared.Script.{Script}
use Rattle.gx_store.specs.declared.event.Event.{Event}
use Rattle.gx_store.specs.declared.mark.Mark.{Mark}
use Rattle.gx_store.specs.declared.mark.Mark.TheVariants as mark
use Rattle.gx_store.specs.Language.{AreLinesNumbered}
use Rattle.gx_store.specs.Marks.{is_aborted, is_committed, is_ended}
use Rattle.gx_store.specs.Points.{marks_in, starts_by}
use Rattle.gx_store.specs.Writes.{IsLate}
use Rattle.gx_rules.specs.Changes.{Change}
use Rattle.gx_rules.specs.Machine.{World}
use Rattle.gx_law_order.specs.Scanned.{stmt_of_command}
use Rattle.gx_law_order.specs.Lists.{Each}
use Rattle.gx_law_order.proofs.Said.{CalmFor}
use Rattle.gx_law_writes.proofs.Frames.{IsWork}
use Rattle.gx_law_writes.proofs.LegalChange.{IsStatement}
use Rattle.gx_law_writes.proofs.Path.{IsLock}
use Rattle.gx_law_writes.proofs.Points.{Runs}
use Rattle.gx_law_writes.proofs.Sighted.{locks-work}
use Rattle.gx_law_writes.proofs.Sound.{aborted-still, committed-still}
use Rattle.gx_law_writes.proofs.Alive.{Late, Live, is-late, live-runs, live-snapped}
use Rattle.gx_law_writes.proofs.Changing.{changing_stmt, stmt_of_change}

-- the statement that the change is
statement-by : (k : Change) (set : Option (List Assign)) → IsStatement k set (changing_stmt k.table k.cond set)
statement-by k (Some assigns) = refl
statement-by k None = refl

pub change-statement : (k : Change) → IsStatement k k.set (stmt_of_change k)
change-statement k = statement-by k k.set

-- its work starts and answers nothing, and ends nobody
work-calm : (node : Node) (g : Gxid) (c : Cid) (session : SessionId) (ms : List Mark) → Each (IsWork node g c) ms → Each (CalmFor session) ms
work-calm node g c session [] e = tt
work-calm node g c session (mark.Start h s ∷ ms) e = absurd e.0
work-calm node g c session (mark.Answer s n a ∷ ms) e = absurd e.0
work-calm node g c session (m ∷ ms) e = (tt, work-calm node g c session ms e.1)

work-ends-none : (node : Node) (g : Gxid) (c : Cid) (ms : List Mark) → Each (IsWork node g c) ms → is_ended ms g ≡ false
work-ends-none node g c ms e = none (is_committed ms g) (is_aborted ms g) (committed-still node g g c [] ms e) (aborted-still node g g c [] ms e)
  where
    none : (a b : Bool) → a ≡ false → b ≡ false → (a || b) ≡ false
    none a b e f = grind arith

module _ (script : Script) (w : World) (g : Gxid) (k : Change) (e : Event) where
  pub runs-change : ((t : SessionId) → starts_by t e ≡ 0) → Live script w g.0 k.cid (stmt_of_change k) k.level → (node : Node) (pre : List Mark) → Each IsLock pre → Runs script w.steps e pre node g k
  runs-change quiet v node pre locks =
      record {
        session = (w.coord.works g.0).session;
        stmt = stmt_of_change k;
        of = change-statement k;
        under_way = λ earlier later work.
            live-runs script w g.0 k.cid (stmt_of_change k) e earlier later k.level v (quiet (w.coord.works g.0).session) (work-calm node g k.cid (w.coord.works g.0).session earlier work) (work-ends-none node g k.cid earlier work);
        snapped = λ earlier. live-snapped script w g.0 k.cid (stmt_of_change k) e earlier [] k.level v;
        work = locks-work node g k.cid pre locks;
      }

  pub late-change : AreLinesNumbered [] script.lines → Late script w g.0 k.cid → stmt_of_command script (marks_in w.steps) g k.cid ≡ Some (stmt_of_change k)
      → (earlier later : List Mark) → IsLate script (record { steps = w.steps; event = e; earlier = earlier; later = later }) g k.cid (stmt_of_change k)
  late-change numbered v of earlier later = is-late script w g.0 k.cid (stmt_of_change k) e earlier later numbered v of
