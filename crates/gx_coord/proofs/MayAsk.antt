-- What a line asks for may be done.
use Rattle.std.proofs.Common.{◌≡◌, ◌≤◌, ◌<◌, ◌+◌, ◌^◌, ◌∙◌, ℕ, List, [], ◌∷◌, Option, Some, None, Bool, true, false, refl, sym, subst, ap, arith, if◌then◌else◌, cond, ◌||◌}
use Rattle.std.specs.List.{list_any}
use Rattle.std.specs.Prelude.{find}
use Rattle.gx_lemmas.proofs.Numbers.{eqb-self}
use Rattle.gx_ids.specs.declared.ids.SessionId.{SessionId}
use Rattle.gx_waits.specs.Claims.{is_of}
use Rattle.gx_tree.specs.declared.stmt.Level.TheVariants.{ReadCommitted}
use Rattle.gx_tree.specs.declared.stmt.Stmt.{Stmt}
use Rattle.gx_tree.specs.declared.stmt.Stmt.TheVariants as stmt
use Rattle.gx_dtx.specs.Rules.{begun}
use Rattle.gx_dtx.specs.Table.{IsActive, find_txn, new_txn}
use Rattle.gx_script.specs.declared.Script.{Script}
use Rattle.gx_script.specs.Session.{IsIdle, line_step, pending_after}
use Rattle.gx_script.specs.declared.line_step.LineStep.{LineStep}
use Rattle.gx_script.specs.declared.line_step.LineStep.TheVariants as step
use Rattle.gx_script.specs.declared.state.Block.{Block}
use Rattle.gx_script.specs.declared.state.Block.TheVariants.{Outside, Open, Failed}
use Rattle.gx_script.specs.declared.state.Pending.TheVariants as pending
use Rattle.gx_rules.specs.AtCoordinator.{begins, starts_line}
use Rattle.gx_rules.specs.Coordinators.{Coord, Session, Work, new_work, session_of}
use Rattle.gx_rules.specs.Snapshots.{latest_number}
use Rattle.gx_law_order.proofs.Lines.{Asks, asks, begun-whole, idle-none, unqueued}
use Rattle.gx_law_order.proofs.Queued.{nothing-queued}
use Rattle.gx_law_order.specs.Sessions.{IsQueued, is_nothing_in, is_open_in}
use Rattle.gx_law_order.specs.Stages.{stage, stage_of}
use Rattle.gx_law_order.proofs.Stages.{append-at}
use Rattle.gx_law_order.specs.Standings.{gx}
use Rattle.gx_law_order.specs.Stages.Stage.{Live}
use Rattle.gx_coord.specs.Faults.{IsCommand}
use Rattle.gx_coord.specs.Lines.{MayAsk, MaySend}
use Rattle.gx_coord.specs.Sound.{IsSound}
use Rattle.gx_coord.specs.Turns.{IsBusy, IsReady}
use Rattle.gx_coord.proofs.Dispatched.{session-now}
use Rattle.gx_coord.proofs.Facts.{live-active, sound-fit, sound-writers}
use Rattle.gx_coord.proofs.Sound.{with_at-same}

pub command-asked : (b : Block) (line : Stmt) (alone : Bool) → line_step b line ≡ step.Command alone → IsCommand line
command-asked b (stmt.Select q) alone e = tt
command-asked b (stmt.Insert t x) alone e = tt
command-asked b (stmt.Update t x y) alone e = tt
command-asked b (stmt.Delete t x) alone e = tt
command-asked b (stmt.Lock t m) alone e = tt
command-asked Outside (stmt.Begin level) alone e = absurd (cc)
command-asked Outside stmt.Commit alone e = absurd (cc)
command-asked Outside stmt.Rollback alone e = absurd (cc)
command-asked (Open l) (stmt.Begin level) alone e = absurd (cc)
command-asked (Open l) stmt.Commit alone e = absurd (cc)
command-asked (Open l) stmt.Rollback alone e = absurd (cc)
command-asked Failed (stmt.Begin level) alone e = absurd (cc)
command-asked Failed stmt.Commit alone e = absurd (cc)
command-asked Failed stmt.Rollback alone e = absurd (cc)

find-none : {A : Type 0} (p : A → Bool) (xs : List A) → find p xs ≡ None → list_any p xs ≡ false
find-none p [] e = refl
find-none p (x ∷ xs) e = by_test (p x) (find-none p xs) e
  where
    by_test : (b : Bool) → (find p xs ≡ None → list_any p xs ≡ false) → cond b (Some x) (find p xs) ≡ None → (b || list_any p xs) ≡ false
    by_test true more q = absurd (cc)
    by_test false more q = more q

module _ (script : Script) (c : Coord) (h : IsSound script c) (s : SessionId) (idle : IsIdle (session_of c s).state) (few : (session_of c s).lines + 1 < 2 ^ 32) where
  abbrev now : LineStep → Coord
  now asked = starts_line c s asked

  abbrev g : ℕ
  g = (session_of c s).transaction.0

  session_now : (asked : LineStep) → session_of (now asked) s ≡ record (session_of c s) { lines = (session_of c s).lines + 1; state = Rattle.gx_script.specs.Session.after_line (session_of c s).state.block asked }
  session_now asked = session-now script c h.kept h.works s asked

  waits : (asked : LineStep) → (pending_after asked ≡ pending.Nothing → ⊥) → IsIdle (session_of (now asked) s).state → ⊥
  waits asked n i = n (subst (λ (x : Session). IsIdle x.state) (session_now asked) i)

  -- whose statement doesn't wait has no wait
  waits-none : (j : ℕ) {o : Option Stmt} → o ≡ None → IsQueued script j o c.locks.waits → list_any (is_of (gx j)) c.locks.waits ≡ false
  waits-none j e q = find-none (is_of (gx j)) c.locks.waits (nothing-queued j _ c.locks q e)

  -- IN A BLOCK
  module _ (opened : is_open_in (session_of c s).state.block ≡ true) where
    live : stage_of c g ≡ Live
    live = (h.kept.placed s.0).free opened (ap is_nothing_in idle)

    home : (c.works g).session.0 ≡ s.0
    home = ((h.kept.placed s.0).stands opened).1

    active : IsActive c.table (gx g)
    active = live-active c g live

    busy : (asked : LineStep) → (pending_after asked ≡ pending.Nothing → ⊥) → IsBusy (now asked) g
    busy asked n i = waits asked n (subst (λ k. IsIdle ((now asked).sessions k).state) home i)

    room : (c.works g).last + 1 < 2 ^ 32
    room = less (c.works g).last (session_of c s).lines (subst (λ n. (c.works g).last ≤ (c.sessions n).lines) home (h.works g).last) few
      where
        less : (m n : ℕ) → m ≤ n → n + 1 < 2 ^ 32 → m + 1 < 2 ^ 32
        less m n l f = omega (arith, l, f)

    ready : IsReady (now step.CommitBlock) (session_of c s).transaction
    ready = record { active = active; writers = sound-writers c g _ (c.works g) (h.works g) live; busy = busy step.CommitBlock (λ e. cc); fits = sound-fit (c.works g) _ _ (h.works g) }

    sends : (line : Stmt) → IsCommand line → MaySend (now (step.Command false)) (session_of c s).transaction line
    sends line k = record { command = k; room = room; active = active; drawn = record { whole = h.kept.whole; late = h.past.drawn }; busy = busy (step.Command false) (λ e. cc); waits_not = waits-none g (idle-none c s h.kept opened (ap is_nothing_in idle)).1 (h.kept.queued g) }

  -- BY ITSELF
  abbrev d : Coord
  d = begins (now (step.Command true)) s ReadCommitted

  begun-live : stage (find_txn (begun c.table) c.table.next) ≡ Live
  begun-live = ap stage (append-at c.table.next.0 c.table.txns c.table.next.0 new_txn h.kept.whole.drawn ∙ ap (λ b. if b then Some new_txn else find_txn c.table c.table.next) (eqb-self c.table.next.0))

  work-begun : d.works c.table.next.0 ≡ new_work s ReadCommitted
  work-begun = with_at-same c.works c.table.next.0 (new_work s ReadCommitted)

  busy-begun : IsBusy d c.table.next.0
  busy-begun i =
      let x : Session = record (session_of (now (step.Command true)) s) { transaction = c.table.next } in
      waits (step.Command true) (λ e. cc)
      (subst (λ (y : Session). IsIdle y.state) (with_at-same (now (step.Command true)).sessions s.0 x) (subst (λ (w : Work). IsIdle (d.sessions w.session.0).state) work-begun i))

  sends-alone : (line : Stmt) → IsCommand line → MaySend d c.table.next line
  sends-alone line k =
      record {
        command = k;
        room = subst (λ (w : Work). w.last + 1 < 2 ^ 32) (sym work-begun) (omega arith);
        active = live-active d c.table.next.0 begun-live;
        drawn = record { whole = begun-whole c.table h.kept.whole; late = more (latest_number c.table.latest_ended) c.table.next.0 h.past.drawn };
        busy = busy-begun;
        waits_not = waits-none c.table.next.0 refl (unqueued c h.kept);
      }
    where
      more : (m n : ℕ) → m < n → m < n + 1
      more m n l = omega (arith, l)

  pub may-ask : (line : Stmt) (asked : LineStep) → line_step (session_of c s).state.block line ≡ asked → MayAsk (now asked) s line asked
  may-ask line (step.Answer plain) e = tt
  may-ask line step.InFailedBlock e = tt
  may-ask line step.NotInBlock e = tt
  may-ask line (step.BeginBlock level) e = tt
  may-ask line step.CommitBlock e =
      subst (λ (x : Session). IsReady (now step.CommitBlock) x.transaction) (sym (session_now step.CommitBlock))
      (ready (subst (Asks (session_of c s).state.block) e (asks (session_of c s).state.block line)))
  may-ask line step.RollbackBlock e =
      subst (λ (x : Session). IsActive c.table x.transaction) (sym (session_now step.RollbackBlock))
      (active (subst (Asks (session_of c s).state.block) e (asks (session_of c s).state.block line)))
  may-ask line (step.Command true) e = sends-alone line (command-asked (session_of c s).state.block line true e)
  may-ask line (step.Command false) e =
      subst (λ (x : Session). MaySend (now (step.Command false)) x.transaction line) (sym (session_now (step.Command false)))
      (sends (subst (Asks (session_of c s).state.block) e (asks (session_of c s).state.block line)) line (command-asked (session_of c s).state.block line false e))
