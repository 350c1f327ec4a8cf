-- A statement that goes on.
use Rattle.std.proofs.Common.{◌≡◌, ◌≤◌, ◌<◌, ◌^◌, ◌++◌, ◌∙◌, ℕ, ◌+◌, zero, suc, List, [], ◌∷◌, Option, Some, None, Result, Ok, Err, OnOk, IfOk, true, refl, sym, subst, ap, arith, length}
use Rattle.gx_lemmas.proofs.Options.{some-same}
use Rattle.gx_ids.specs.declared.ids.Gxid.{Gxid}
use Rattle.gx_tree.specs.declared.stmt.Stmt.{Stmt}
use Rattle.gx_tree.specs.declared.stmt.Stmt.TheVariants as stmt
use Rattle.gx_dtx.specs.Table.{IsActive}
use Rattle.gx_locks.specs.Locks.{is_ready, resumed, wait_of}
use Rattle.gx_msg.specs.declared.message.Out.{Out}
use Rattle.gx_node.specs.Locking.{resumed_marks}
use Rattle.gx_script.specs.Session.{IsIdle}
use Rattle.gx_script.specs.declared.Line.{Line}
use Rattle.gx_script.specs.declared.Script.{Script}
use Rattle.gx_store.specs.Refusals.{the_coordinator}
use Rattle.gx_store.specs.declared.mark.Mark.{Mark}
use Rattle.gx_store.specs.declared.node.NodeEvent.TheVariants as event
use Rattle.gx_waits.specs.declared.claim.Claim.{Claim}
use Rattle.gx_rules.specs.AtCoordinator.{behind, coord_can, goes_on_locked, resumes}
use Rattle.gx_store.specs.Locks.{table_lock}
use Rattle.gx_rules.specs.Coordinators as rule
use Rattle.gx_law_order.specs.Sessions.{Kept}
use Rattle.gx_law_order.proofs.Waiting.{HasStatement, statement-of}
use Rattle.gx_coord.specs.Books.{IsFramed, coord_of, stmt_at}
use Rattle.gx_coord.specs.Faults.{IsCommand}
use Rattle.gx_coord.specs.Sound.{IsDrawn, IsSound}
use Rattle.gx_coord.specs.Turns.{IsBusy, IsTurn}
use Rattle.gx_coord.specs.declared.coord.Coord.{Coord}
use Rattle.gx_coord.proofs.Facts.{live-active, working-busy}
use Rattle.gx_coord.proofs.Sound.{with_at-same}
use Rattle.gx_coord.proofs.Turned.{framed-trans, on_behind-turn, script-same}

-- a statement that takes a lock is a command, and stands in the script
pub locked-command : (script : Script) (g : Gxid) (line : Stmt) (wanted : Claim) → table_lock script g line ≡ Some wanted → IsCommand line
locked-command script g (stmt.Select query) wanted e = tt
locked-command script g (stmt.Insert table tuples) wanted e = tt
locked-command script g (stmt.Update table assigns cond) wanted e = tt
locked-command script g (stmt.Delete table cond) wanted e = tt
locked-command script g (stmt.Lock table mode) wanted e = tt
locked-command script g (stmt.Begin level) wanted e = absurd (cc)
locked-command script g stmt.Commit wanted e = absurd (cc)
locked-command script g stmt.Rollback wanted e = absurd (cc)

pub locked-inside : (script : Script) (lines : List Line) (place : ℕ) (g : Gxid) (wanted : Claim) → table_lock script g (stmt_at lines place) ≡ Some wanted → place < length lines
locked-inside script [] place g wanted e = absurd (cc)
locked-inside script (x ∷ xs) zero g wanted e = omega arith
locked-inside script (x ∷ xs) (suc place) g wanted e = omega (arith, locked-inside script xs place g wanted e)

-- who is admitted to go on waits for a lock, and its statement is there
pub record Wakes (script : Script) (c : rule.Coord) (g : Gxid) : Type 0 where
  pub wanted : Claim
  pub stands : wait_of c.locks g ≡ Some wanted
  pub statement : HasStatement script c g wanted

who-wakes : (script : Script) (c : rule.Coord) → Kept script c → (g : Gxid) → coord_can script c (event.Resume g) ≡ true → Wakes script c g
who-wakes script c k g ok = by_wait (wait_of c.locks g) refl ok
  where
    by_wait : (o : Option Claim) → wait_of c.locks g ≡ o → is_ready c.locks o ≡ true → Wakes script c g
    by_wait None e f = absurd (cc)
    by_wait (Some wanted) e f = record { wanted = wanted; stands = e; statement = statement-of c k g wanted e }

-- so the place of its line is known
pub never-nothing : (old mid : Coord) (script : Script) (g : Gxid) → IsSound script (coord_of old) → coord_can script (coord_of old) (event.Resume g) ≡ true → coord_of mid ≡ record (coord_of old) { locks = resumed old.locks g (wait_of old.locks g) } → None ≡ ((coord_of mid).works g.0).waiting → ⊥
never-nothing old mid script g sound ok e1 e =
    let statement = (who-wakes script (coord_of old) sound.kept g ok).statement in
    clash _ _ (e ∙ ap (λ (k : rule.Coord). (k.works g.0).waiting) e1) statement.is
  where
    clash : (o : Option Stmt) (line : Stmt) → None ≡ o → o ≡ Some line → ⊥
    clash o line e f = cc

module _ (old mid awake : Coord) (script : Script) (g : Gxid) (sound : IsSound script (coord_of old)) (ok : coord_can script (coord_of old) (event.Resume g) ≡ true) (same : old.script.value ≡ script) (f1 : IsFramed old mid) (e1 : coord_of mid ≡ record (coord_of old) { locks = resumed old.locks g (wait_of old.locks g) }) (f2 : IsFramed mid awake) (e2 : coord_of awake ≡ rule.with_work (coord_of mid) g (record ((coord_of mid).works g.0) { waiting = None })) where
  abbrev c : rule.Coord
  c = coord_of old

  abbrev w : rule.Work
  w = record (c.works g.0) { waiting = None }

  abbrev d : rule.Coord
  d = rule.with_work (record c { locks = resumed c.locks g (wait_of c.locks g) }) g w

  awake-is : coord_of awake ≡ d
  awake-is = e2 ∙ ap (λ (k : rule.Coord). rule.with_work k g (record (k.works g.0) { waiting = None })) e1

  pub script-is : awake.script.value ≡ script
  script-is = script-same mid awake f2 ∙ script-same old mid f1 ∙ same

  work-is : d.works g.0 ≡ w
  work-is = with_at-same c.works g.0 w

  wakes : Wakes script c g
  wakes = who-wakes script c sound.kept g ok

  module _ (place : ℕ) (at : Some (stmt_at mid.script.value.lines place) ≡ ((coord_of mid).works g.0).waiting) where
    abbrev line : Stmt
    line = stmt_at script.lines place

    line-is : Some line ≡ (c.works g.0).waiting
    line-is = ap (λ (s : Script). Some (stmt_at s.lines place)) (sym (script-same old mid f1 ∙ same)) ∙ at ∙ ap (λ (k : rule.Coord). (k.works g.0).waiting) e1

    lock : table_lock script g line ≡ Some wakes.wanted
    lock = ap (table_lock script g) (some-same line wakes.statement.line (line-is ∙ wakes.statement.is)) ∙ wakes.statement.lock

    pub wakes-inside : place < length awake.script.value.lines
    wakes-inside = subst (λ (s : Script). place < length s.lines) (sym script-is) (locked-inside script script.lines place g wakes.wanted lock)

    pub wakes-command : IsCommand (stmt_at awake.script.value.lines place)
    wakes-command = subst (λ (s : Script). IsCommand (stmt_at s.lines place)) (sym script-is) (locked-command script g line wakes.wanted lock)

    pub wakes-room : (c.sessions (c.works g.0).session.0).lines < 2 ^ 32 → ((coord_of awake).works g.0).last + 1 < 2 ^ 32
    wakes-room few = subst (λ (k : rule.Coord). (k.works g.0).last + 1 < 2 ^ 32) (sym awake-is) (subst (λ (v : rule.Work). v.last + 1 < 2 ^ 32) (sym work-is) (less (c.works g.0).last _ ((sound.works g.0).room line (sym line-is)) few))
      where
        less : (m n : ℕ) → m + 1 ≤ n → n < 2 ^ 32 → m + 1 < 2 ^ 32
        less m n l f = omega (arith, l, f)

    pub wakes-active : IsActive awake.dtx g
    wakes-active = subst (λ (k : rule.Coord). IsActive k.table g) (sym awake-is) (live-active c g.0 wakes.statement.live)

    pub wakes-drawn : IsDrawn awake.dtx
    wakes-drawn = subst (λ (k : rule.Coord). IsDrawn k.table) (sym awake-is) (record { whole = sound.kept.whole; late = sound.past.drawn })

    pub wakes-busy : IsBusy (coord_of awake) g.0
    wakes-busy =
        subst (λ (k : rule.Coord). IsBusy k g.0) (sym awake-is)
        (subst (λ (v : rule.Work). IsIdle (c.sessions v.session.0).state → ⊥) (sym work-is) (λ idle. working-busy _ wakes.statement.working idle))

    -- it takes its lock and goes out
    by-wait : (o : Option Claim) (wanted : Claim) → o ≡ Some wanted → behind (resumed_marks the_coordinator o) (goes_on_locked script (rule.with_work (record c { locks = resumed c.locks g o }) g w) g line) ≡ resumes script c g o (Some line)
    by-wait None wanted e = absurd (cc)
    by-wait (Some claim) wanted e = refl

    turn-is : behind (resumed_marks the_coordinator (wait_of c.locks g)) (goes_on_locked script d g line) ≡ resumes script c g (wait_of c.locks g) (c.works g.0).waiting
    turn-is = by-wait (wait_of c.locks g) wakes.wanted wakes.stands ∙ ap (resumes script c g (wait_of c.locks g)) line-is

    goes-is : goes_on_locked awake.script.value (coord_of awake) g (stmt_at awake.script.value.lines place) ≡ goes_on_locked script d g line
    goes-is = ap (λ (s : Script). goes_on_locked s (coord_of awake) g (stmt_at s.lines place)) script-is ∙ ap (λ (k : rule.Coord). goes_on_locked script k g line) awake-is

    pub resumed-turn : {A B : Type 0} (r : Result A B) (new : Coord) (before middle after : List Mark) → middle ≡ before ++ resumed_marks the_coordinator (wait_of old.locks g) → OnOk r (IsTurn awake new middle after (goes_on_locked awake.script.value (coord_of awake) g (stmt_at awake.script.value.lines place))) → OnOk r (IsTurn old new before after (resumes script c g (wait_of c.locks g) (c.works g.0).waiting))
    resumed-turn r new before middle after m h =
        subst (λ (t : rule.CoordTurn). OnOk r (IsTurn old new before after t)) turn-is
        (on_behind-turn r old awake new before middle after (resumed_marks the_coordinator (wait_of old.locks g)) _ (goes_on_locked script d g line) (framed-trans old mid awake f1 f2) goes-is m h)

    pub resumed-outs : {B : Type 0} (r : Result (List Out) B) → IfOk r (λ outs. outs ≡ (goes_on_locked awake.script.value (coord_of awake) g (stmt_at awake.script.value.lines place)).outs) → IfOk r (λ outs. outs ≡ (resumes script c g (wait_of c.locks g) (c.works g.0).waiting).outs)
    resumed-outs (Ok outs) h = h ∙ ap (λ (t : rule.CoordTurn). t.outs) goes-is ∙ ap (λ (t : rule.CoordTurn). t.outs) turn-is
    resumed-outs (Err x) h = tt
