-- The command of an EXEC is under way with its snapshot, or its transaction has aborted.
use Rattle.std.proofs.Common.{◌≡◌, ◌⊎◌, inl, inr, ℕ, List, [], ◌∷◌, ◌++◌, Option, Some, None, Bool, true, false, refl, sym, subst, ap, ◌∙◌, zero, suc}
use Rattle.std.specs.Prelude.{slice_get}
use Rattle.std.proofs.lemmas.Bool.{and_from, or_left, or_right}
use Rattle.gx_lemmas.proofs.Options.{some-same}
use Rattle.gx_lemmas.proofs.Numbers.{eqb-self}
use Rattle.gx_ids.specs.declared.ids.Cid.{Cid}
use Rattle.gx_ids.specs.declared.ids.Gxid.{Gxid}
use Rattle.gx_ids.specs.declared.ids.Node.{Node}
use Rattle.gx_tree.specs.declared.slice.Slice.{Slice}
use Rattle.gx_tree.specs.declared.stmt.Level.{Level}
use Rattle.gx_tree.specs.declared.stmt.Level.TheVariants.{ReadCommitted, RepeatableRead}
use Rattle.gx_tree.specs.declared.stmt.Stmt.{Stmt}
use Rattle.gx_tree.specs.declared.stmt.Stmt.TheVariants as stmt
use Rattle.gx_dsnap.specs.declared.snapshot.Snapshot.{Snapshot}
use Rattle.gx_script.specs.declared.Script.{Script}
use Rattle.gx_script.specs.declared.state.Block.{Block}
use Rattle.gx_script.specs.declared.state.Block.TheVariants as block
use Rattle.gx_script.specs.declared.state.Pending.TheVariants as pending
use Rattle.gx_store.specs.declared.event.Event.{Event}
use Rattle.gx_store.specs.declared.mark.Mark.{Mark}
use Rattle.gx_store.specs.declared.mark.Mark.TheVariants as mark
use Rattle.gx_store.specs.Commands.{IsUnderWay, has_own_snapshot}
use Rattle.gx_store.specs.Language.{AreLinesNumbered}
use Rattle.gx_store.specs.Lines.{is_on_rows, level_of, stmt_of}
use Rattle.gx_store.specs.Marks.{has_snapshot, is_aborted, is_ended, is_snapped}
use Rattle.gx_store.specs.Points.{Point, marks_in, starts_by}
use Rattle.gx_store.specs.Writes.{IsLate}
use Rattle.gx_store.proofs.Marks.{has_snapshot-append, is_aborted-append, is_snapped-append}
use Rattle.gx_rules.specs.Machine.{World}
use Rattle.gx_law_order.specs.Lists.{Each}
use Rattle.gx_law_order.specs.Alive.{WasUnderWay}
use Rattle.gx_law_order.specs.Orders.{IsOrder, IsReadBy, IsServed, level_by, level_of_began}
use Rattle.gx_law_order.specs.Scanned.{began_from, command_at, stmt_of_command}
use Rattle.gx_law_order.specs.Standing.{IsFirst, is_busy, state_in}
use Rattle.gx_law_order.proofs.Said.{CalmFor}
use Rattle.gx_law_order.specs.Standings.{gx}
use Rattle.gx_law_writes.proofs.Live.{Running, under-way}

-- THE COMMAND'S SNAPSHOT
pub has-snap : (ms : List Mark) (k : ℕ) (g : Gxid) (d : Cid) (x : Snapshot) → slice_get ms k ≡ Some (mark.Snap g d x) → (has_snapshot ms g ≡ true) × (is_snapped ms g d ≡ true)
has-snap [] k g d x e = absurd (cc)
has-snap (m ∷ ms) zero g d x e = subst (λ (y : Mark). (has_snapshot (y ∷ ms) g ≡ true) × (is_snapped (y ∷ ms) g d ≡ true)) (some-same (mark.Snap g d x) m (sym e)) (or_left _ _ (eqb-self g.0), or_left _ _ (and_from _ _ (eqb-self g.0) (eqb-self d.0)))
has-snap (m ∷ ms) (suc k) g d x e = let y = has-snap ms k g d x e in (has-more m y.0, snapped-more m y.1)
  where
    has-more : (m : Mark) → has_snapshot ms g ≡ true → has_snapshot (m ∷ ms) g ≡ true
    has-more m q = has_snapshot-append (m ∷ []) ms g ∙ or_right (has_snapshot (m ∷ []) g) (has_snapshot ms g) q

    snapped-more : (m : Mark) → is_snapped ms g d ≡ true → is_snapped (m ∷ ms) g d ≡ true
    snapped-more m q = is_snapped-append (m ∷ []) ms g d ∙ or_right (is_snapped (m ∷ []) g d) (is_snapped ms g d) q

served-has : (level : Level) (ms : List Mark) (g : Gxid) (c : Cid) (x : Snapshot) → IsServed ms level g c x → has_own_snapshot level ms g c ≡ true
served-has ReadCommitted ms g c x s = subst (λ d. is_snapped ms g d ≡ true) s.serves (has-snap ms s.place g s.d x s.taken).1
served-has RepeatableRead ms g c x s = (has-snap ms s.place g s.d x s.taken).0

pub own-more : (level : Level) (ms ns : List Mark) (g : Gxid) (c : Cid) → has_own_snapshot level ms g c ≡ true → has_own_snapshot level (ms ++ ns) g c ≡ true
own-more ReadCommitted ms ns g c e = is_snapped-append ms ns g c ∙ or_left (is_snapped ms g c) (is_snapped ns g c) e
own-more RepeatableRead ms ns g c e = has_snapshot-append ms ns g ∙ or_left (has_snapshot ms g) (has_snapshot ns g) e

-- the snapshot by which a command on rows reads
pub read-by : (ms : List Mark) (level : Level) (g : Gxid) (c : Cid) (line : Stmt) (x : Option Snapshot) → is_on_rows line ≡ true → IsReadBy ms level g c line x → (y : Snapshot) × (x ≡ Some y) × IsServed ms level g c y
read-by ms level g c (stmt.Select query) x on r = r
read-by ms level g c (stmt.Insert table tuples) x on r = r
read-by ms level g c (stmt.Update table assigns cond) x on r = r
read-by ms level g c (stmt.Delete table cond) x on r = r
read-by ms level g c (stmt.Lock table mode) x on r = absurd (cc)
read-by ms level g c (stmt.Begin l) x on r = absurd (cc)
read-by ms level g c stmt.Commit x on r = absurd (cc)
read-by ms level g c stmt.Rollback x on r = absurd (cc)

pub read-served : (ms : List Mark) (level : Level) (g : Gxid) (c : Cid) (line : Stmt) (x : Option Snapshot) → is_on_rows line ≡ true → IsReadBy ms level g c line x → has_own_snapshot level ms g c ≡ true
read-served ms level g c line x on r = let y = read-by ms level g c line x on r in served-has level ms g c y.0 y.2

-- AN ORDER IS OF THE COMMAND UNDER WAY
-- a statement on rows that is its transaction's first line begins none at another level
own-level : (line : Stmt) → is_on_rows line ≡ true → level_by (Some line) ≡ ReadCommitted
own-level (stmt.Begin l) on = absurd (cc)
own-level (stmt.Select query) on = refl
own-level (stmt.Insert table tuples) on = refl
own-level (stmt.Update table assigns cond) on = refl
own-level (stmt.Delete table cond) on = refl
own-level (stmt.Lock table mode) on = refl
own-level stmt.Commit on = refl
own-level stmt.Rollback on = refl

module _ (script : Script) (numbered : AreLinesNumbered [] script.lines) (w : World) (g : ℕ) (r : Running script w g) where
  abbrev ms : List Mark
  ms = marks_in w.steps

  pub its-line : stmt_of_command script ms (gx g) r.command.cid ≡ Some r.command.stmt
  its-line = ap (λ o. command_at script o r.command.cid.0) r.roots.began ∙ (r.roots.now numbered).0 r.command r.has_it

  pub line-is : (c : Cid) (line : Stmt) → c.0 ≡ r.command.cid.0 → stmt_of_command script ms (gx g) c ≡ Some line → r.command.stmt ≡ line
  line-is c line same of = some-same r.command.stmt line (sym its-line ∙ ap (λ n. command_at script (began_from [] ms (gx g)) n) (sym same) ∙ of)

  first-level : (b : Block) (first lines commands : ℕ) (line : Stmt) → is_on_rows line ≡ true → is_busy b pending.Command ≡ true → IsFirst script (w.coord.works g).session lines b first → stmt_of (w.coord.works g).session lines script.lines ≡ Some line
      → level_by (stmt_of (w.coord.works g).session first script.lines) ≡ level_of (state_in b commands)
  first-level (block.Open l) first lines commands line on busy f e = ap level_by f
  first-level block.Outside first lines commands line on busy f e = ap (λ n. level_by (stmt_of (w.coord.works g).session n script.lines)) f ∙ ap level_by e ∙ own-level line on
  first-level block.Failed first lines commands line on busy f e = absurd (cc)

  pub level-is : is_on_rows r.command.stmt ≡ true → level_of_began script (began_from [] ms (gx g)) ≡ level_of (state_in r.block r.commands)
  level-is on = ap (level_of_began script) r.roots.began ∙ first-level r.block r.roots.first _ r.commands r.command.stmt on r.busy r.roots.opening r.line

-- A command on rows is under way at this level, and has its snapshot.
pub record Live (script : Script) (w : World) (g : ℕ) (c : Cid) (line : Stmt) (level : Level) : Type 0 where
  pub runs : Running script w g
  pub number : c ≡ runs.command.cid
  pub is : runs.command.stmt ≡ line
  pub isolation : level ≡ level_of (state_in runs.block runs.commands)
  pub snapped : has_own_snapshot level (marks_in w.steps) (gx g) c ≡ true

-- It was under way, and its transaction has aborted.
pub record Late (script : Script) (w : World) (g : ℕ) (c : Cid) : Type 0 where
  pub aborted : is_aborted (marks_in w.steps) (gx g) ≡ true
  pub was : WasUnderWay script w.steps (gx g) c

-- an order that is awaited is live
pub order-live : (script : Script) (numbered : AreLinesNumbered [] script.lines) (w : World) (g : ℕ) (c : Cid) (node : Node) (level : Level) (x : Option Snapshot) (s : Slice) (line : Stmt) (r : Running script w g) → c.0 ≡ r.command.cid.0
    → (o : IsOrder script (marks_in w.steps) node (gx g) c level x s) → o.line ≡ line → is_on_rows line ≡ true → Live script w g c line level
order-live script numbered w g c node level x s line r same o of on =
    record {
      runs = r;
      number = ap (λ n. let d : Cid = record { 0 = n } in d) same;
      is = its;
      isolation = o.level_is ∙ level-is script numbered w g r (ap is_on_rows its ∙ on);
      snapped = read-served (marks_in w.steps) level (gx g) c o.line x (ap is_on_rows of ∙ on) o.read;
    }
  where
    its : r.command.stmt ≡ line
    its = line-is script numbered w g r c o.line same o.of ∙ of

-- AT A POINT OF A STEP
module _ (script : Script) (w : World) (g : ℕ) (c : Cid) (line : Stmt) (e : Event) (earlier later : List Mark) where
  abbrev point : Point
  point = record { steps = w.steps; event = e; earlier = earlier; later = later }

  -- behind marks that start and answer nothing of its session, and don't end its transaction
  pub live-runs : (level : Level) (v : Live script w g c line level) → starts_by (w.coord.works g).session e ≡ 0 → Each (CalmFor (w.coord.works g).session) earlier → is_ended earlier (gx g) ≡ false
      → IsUnderWay script point (w.coord.works g).session line level (gx g) c
  live-runs level v quiet calm running =
      subst (λ (l : Level). IsUnderWay script point (w.coord.works g).session line l (gx g) c) (sym v.isolation)
      (subst (λ (q : Stmt). IsUnderWay script point (w.coord.works g).session q (level_of (state_in v.runs.block v.runs.commands)) (gx g) c) v.is
      (subst (IsUnderWay script point (w.coord.works g).session v.runs.command.stmt (level_of (state_in v.runs.block v.runs.commands)) (gx g)) (sym v.number) (under-way script w g v.runs e earlier later quiet calm running)))

  pub live-snapped : (level : Level) → Live script w g c line level → has_own_snapshot level (marks_in w.steps ++ earlier) (gx g) c ≡ true
  live-snapped level v = own-more level (marks_in w.steps) earlier (gx g) c v.snapped

  pub is-late : AreLinesNumbered [] script.lines → Late script w g c → stmt_of_command script (marks_in w.steps) (gx g) c ≡ Some line → IsLate script point (gx g) c line
  is-late numbered v of =
      record {
        aborted = is_aborted-append (marks_in w.steps) earlier (gx g) ∙ or_left (is_aborted (marks_in w.steps) (gx g)) (is_aborted earlier (gx g)) v.aborted;
        early = v.was.point;
        earlier = inl v.was.among;
        session = v.was.session;
        level = v.was.level;
        ran = subst (λ q. IsUnderWay script v.was.point v.was.session q v.was.level (gx g) c) (some-same v.was.line line (sym (v.was.of numbered) ∙ of)) v.was.ran;
      }
