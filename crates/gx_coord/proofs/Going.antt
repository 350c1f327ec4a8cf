-- A command that reads, goes out or faults.
use Rattle.std.proofs.Common.{◌≡◌, ◌∙◌, List, [], ◌++◌, Option, Some, None, Result, Ok, Err, OnOk, IfOk, refl, sym, ap, subst, cond, append-nil, append_assoc}
use Rattle.std.specs.Prelude.{option_map}
use Rattle.gx_lemmas.proofs.Numbers.{eqb-self}
use Rattle.gx_ids.specs.declared.ids.Cid.{Cid}
use Rattle.gx_ids.specs.declared.ids.Gxid.{Gxid}
use Rattle.gx_tree.specs.declared.stmt.Stmt.{Stmt}
use Rattle.gx_tree.specs.declared.stmt.Stmt.TheVariants as stmt
use Rattle.gx_dsnap.specs.declared.snapshot.Snapshot.{Snapshot}
use Rattle.gx_dtx.proofs.Finds.{find-with}
use Rattle.gx_dtx.specs.Rules.{with_live}
use Rattle.gx_dtx.specs.Table.{IsActive, Table, find_txn, status_in, xmin_of}
use Rattle.gx_dtx.specs.declared.txn.Txn.{Txn}
use Rattle.gx_meaning.specs.declared.fault.ArithFault.{ArithFault}
use Rattle.gx_msg.specs.declared.message.Out.{Out}
use Rattle.gx_meaning.specs.declared.piece.Piece.{Piece}
use Rattle.gx_script.specs.declared.Script.{Script}
use Rattle.gx_script.specs.Session.{IsIdle}
use Rattle.gx_store.specs.declared.mark.Mark.{Mark}
use Rattle.gx_rules.specs.AtCoordinator.{Reading, fault_mark, goes, goes_on_locked, kept_at, next_cid, reads_by, reads_for, takes_snapshot}
use Rattle.gx_rules.specs.Coordinators as rule
use Rattle.gx_rules.specs.Coordinators.{Work}
use Rattle.gx_rules.specs.Snapshots.{snapshot_of}
use Rattle.gx_coord.specs.Books.{IsFramed, coord_of}
use Rattle.gx_coord.specs.Faults.{planned}
use Rattle.gx_coord.specs.Turns.{IsBusy, IsTurn}
use Rattle.gx_coord.specs.declared.coord.Coord.{Coord}
use Rattle.gx_coord.proofs.Sound.{with_at-same}
use Rattle.gx_coord.proofs.Turned.{framed-trans}

-- ITS SNAPSHOT
pub record Holds (g : Gxid) (r : Reading) : Type 0 where
  pub active : IsActive r.coord.table g
  pub busy : IsBusy r.coord g.0

same-status : (x : Option Gxid) (t : Option Txn) → option_map (λ (u : Txn). status_in u.phase) (option_map (λ (u : Txn). record u { live = x }) t) ≡ option_map (λ (u : Txn). status_in u.phase) t
same-status x None = refl
same-status x (Some t) = refl

live-found : (d : Table) (g : Gxid) (x : Option Gxid) → find_txn (with_live d g x) g ≡ option_map (λ (u : Txn). record u { live = x }) (find_txn d g)
live-found d g x = find-with g g (λ u. record u { live = x }) d.txns ∙ ap (λ b. cond b (option_map (λ (u : Txn). record u { live = x }) (find_txn d g)) (find_txn d g)) (eqb-self g.0)

active-live : (d : Table) (g : Gxid) (x : Option Gxid) → IsActive d g → IsActive (with_live d g x) g
active-live d g x e = ap (option_map (λ (u : Txn). status_in u.phase)) (live-found d g x) ∙ same-status x (find_txn d g) ∙ e

module _ (c : rule.Coord) (g : Gxid) (cid : Cid) (active : IsActive c.table g) (busy : IsBusy c g.0) where
  taken : Holds g (takes_snapshot c g cid (c.works g.0))
  taken =
      let w : Work = record (c.works g.0) { snapshot = kept_at (c.works g.0).level (snapshot_of c.table) } in
      record {
        active = active-live c.table g (Some (xmin_of c.table)) active;
        busy = subst (λ (v : Work). IsIdle (c.sessions v.session.0).state → ⊥) (sym (with_at-same c.works g.0 w)) busy;
      }

  read-by : (x : Option Snapshot) → Holds g (reads_by c g cid (c.works g.0) x)
  read-by None = taken
  read-by (Some x) = record { active = active; busy = busy }

  pub read-holds : (line : Stmt) → Holds g (reads_for c g cid (c.works g.0) line)
  read-holds (stmt.Lock table mode) = record { active = active; busy = busy }
  read-holds (stmt.Begin level) = read-by (c.works g.0).snapshot
  read-holds stmt.Commit = read-by (c.works g.0).snapshot
  read-holds stmt.Rollback = read-by (c.works g.0).snapshot
  read-holds (stmt.Select q) = read-by (c.works g.0).snapshot
  read-holds (stmt.Insert t x) = read-by (c.works g.0).snapshot
  read-holds (stmt.Update t x y) = read-by (c.works g.0).snapshot
  read-holds (stmt.Delete t x) = read-by (c.works g.0).snapshot

-- BEHIND WHAT IT READ
abbrev unmarked : rule.Coord → Option Snapshot → Reading
unmarked c x = record { coord = c; snapshot = x; marks = [] }

goes-coord : (g : Gxid) (cid : Cid) (line : Stmt) (r : Reading) (p : Result (List Piece) ArithFault) → (goes g cid line (unmarked r.coord r.snapshot) p).coord ≡ (goes g cid line r p).coord
goes-coord g cid line r (Ok pieces) = refl
goes-coord g cid line r (Err f) = refl

goes-outs : (g : Gxid) (cid : Cid) (line : Stmt) (r : Reading) (p : Result (List Piece) ArithFault) → (goes g cid line (unmarked r.coord r.snapshot) p).outs ≡ (goes g cid line r p).outs
goes-outs g cid line r (Ok pieces) = refl
goes-outs g cid line r (Err f) = refl

goes-marks : (g : Gxid) (cid : Cid) (line : Stmt) (r : Reading) (p : Result (List Piece) ArithFault) (before : List Mark) → (before ++ r.marks) ++ (goes g cid line (unmarked r.coord r.snapshot) p).marks ≡ before ++ (goes g cid line r p).marks
goes-marks g cid line r (Ok pieces) before = append-nil (before ++ r.marks)
goes-marks g cid line r (Err f) before =
    append_assoc before r.marks (goes g cid line (unmarked r.coord r.snapshot) (Err f)).marks ∙ ap (λ ms. before ++ ms) (sym (append_assoc r.marks (fault_mark g cid line) _))

module _ (old mid new : Coord) (before middle after : List Mark) (g : Gxid) (cid : Cid) (line : Stmt) (r : Reading) (x : Option Snapshot) (p : Result (List Piece) ArithFault) (coord : coord_of mid ≡ r.coord) (value : x ≡ r.snapshot) where
  unmarked-is : unmarked (coord_of mid) x ≡ unmarked r.coord r.snapshot
  unmarked-is = ap (λ k. unmarked k x) coord ∙ ap (λ y. unmarked r.coord y) value

  pub goes-from : {A B : Type 0} (result : Result A B) → IsFramed old mid → middle ≡ before ++ r.marks → OnOk result (IsTurn mid new middle after (goes g cid line (unmarked (coord_of mid) x) p)) → OnOk result (IsTurn old new before after (goes g cid line r p))
  goes-from (Ok y) f e h =
      record {
        framed = framed-trans old mid new f h.framed;
        coord = h.coord ∙ ap (λ u. (goes g cid line u p).coord) unmarked-is ∙ goes-coord g cid line r p;
        marks = h.marks ∙ ap (λ ms. ms ++ (goes g cid line (unmarked (coord_of mid) x) p).marks) e ∙ ap (λ u. (before ++ r.marks) ++ (goes g cid line u p).marks) unmarked-is ∙ goes-marks g cid line r p before;
      }
  goes-from (Err y) f e h = tt

  pub goes-outs-from : {B : Type 0} (result : Result (List Out) B) → IfOk result (λ outs. outs ≡ (goes g cid line (unmarked (coord_of mid) x) p).outs) → IfOk result (λ outs. outs ≡ (goes g cid line r p).outs)
  goes-outs-from (Ok y) h = h ∙ ap (λ u. (goes g cid line u p).outs) unmarked-is ∙ goes-outs g cid line r p
  goes-outs-from (Err y) h = tt

-- THE COMMAND
pub locked-is : (s t : Script) (c : rule.Coord) (g : Gxid) (cid : Cid) (l m : Stmt) → t ≡ s → cid ≡ next_cid (c.works g.0) → l ≡ m → goes g cid l (reads_for c g cid (c.works g.0) l) (planned t g cid l) ≡ goes_on_locked s c g m
locked-is s t c g cid l m e q p =
    ap (λ (x : Script). goes g cid l (reads_for c g cid (c.works g.0) l) (planned x g cid l)) e
    ∙ ap (λ (x : Cid). goes g x l (reads_for c g x (c.works g.0) l) (planned s g x l)) q
    ∙ ap (λ (x : Stmt). goes g (next_cid (c.works g.0)) x (reads_for c g (next_cid (c.works g.0)) (c.works g.0) x) (planned s g (next_cid (c.works g.0)) x)) p
