-- By which snapshot a command reads.
use Rattle.std.proofs.Common.{◌≡◌, ◌<◌, ℕ, ◌+◌, List, [], ◌∷◌, ◌++◌, Option, Some, None, Bool, true, false, refl, sym, subst, ap, ◌∙◌, if◌then◌else◌, ◌||◌, ◌&&◌, arith, eqb, append-nil, length}
use Rattle.std.proofs.lemmas.Bool.Decides.{nat_tests}
use Rattle.std.proofs.lemmas.List.{append_assoc}
use Rattle.std.specs.Prelude.{slice_get}
use Rattle.gx_lemmas.proofs.Numbers.{eqb-self}
use Rattle.gx_lemmas.proofs.Tests.{false-true}
use Rattle.gx_ids.specs.declared.ids.Cid.{Cid}
use Rattle.gx_ids.specs.declared.ids.Gxid.{Gxid}
use Rattle.gx_ids.specs.declared.ids.SessionId.{SessionId}
use Rattle.gx_tree.specs.declared.stmt.Level.{Level}
use Rattle.gx_tree.specs.declared.stmt.Level.TheVariants.{ReadCommitted, RepeatableRead}
use Rattle.gx_tree.specs.declared.stmt.Stmt.{Stmt}
use Rattle.gx_tree.specs.declared.stmt.Stmt.TheVariants as stmt
use Rattle.gx_dsnap.specs.declared.snapshot.Snapshot.{Snapshot}
use Rattle.gx_script.specs.declared.Script.{Script}
use Rattle.gx_script.specs.declared.state.Block.{Block}
use Rattle.gx_script.specs.declared.state.Block.TheVariants as block
use Rattle.gx_script.specs.declared.state.Pending.TheVariants as pending
use Rattle.gx_store.specs.declared.event.Event.{Event}
use Rattle.gx_store.specs.declared.mark.Mark.{Mark}
use Rattle.gx_store.specs.declared.mark.Mark.TheVariants as mark
use Rattle.gx_store.specs.declared.run.Step.{Step}
use Rattle.gx_store.specs.Commands.{has_own_snapshot}
use Rattle.gx_store.specs.Lines.{BlockState, cid_of, is_command, is_on_rows, level_of}
use Rattle.gx_store.specs.Marks.{is_ended, is_sent, is_snapped}
use Rattle.gx_store.specs.Points.{marks_in}
use Rattle.gx_rules.specs.AtCoordinator.{Reading, kept_at, next_cid, reads_by, reads_for, takes_snapshot}
use Rattle.gx_rules.specs.Coordinators.{Coord, Session, Work, work_of}
use Rattle.gx_rules.specs.Snapshots.{snapshot_of}
use Rattle.gx_law_order.proofs.Lists.{get_last}
use Rattle.gx_law_order.specs.Lists.{Each}
use Rattle.gx_law_order.proofs.Past.{seen-now}
use Rattle.gx_law_order.specs.Past.{Past}
use Rattle.gx_law_order.specs.Orders.{IsReadBy, IsServed}
use Rattle.gx_law_order.specs.Rest.{EachMark, Rest}
use Rattle.gx_law_order.specs.Standing.{HasSnapshot, Owns, is_alone, is_busy, level_in, state_in}
use Rattle.gx_law_order.proofs.AtLine.{legal-snap}
use Rattle.gx_law_order.proofs.Others.{IsOf}
use Rattle.gx_law_order.proofs.Given.{Given}
use Rattle.gx_law_order.proofs.Said.{CalmFor}
use Rattle.gx_law_order.proofs.Under.{Under}

module _ (script : Script) (steps : List Step) (ev : Event) (c c1 : Coord) (s : SessionId) (g : Gxid) (x : Session) (n : ℕ) (B : Block) (commands : ℕ) (line : Stmt) (earlier : List Mark)
    (o : Under script steps c ev c1 s g (work_of c1 g) x n (state_in B commands) (is_alone B pending.Command) line earlier)
    (xb : x.state.block ≡ B) (xp : x.state.pending ≡ pending.Command) (busy : is_busy B pending.Command ≡ true) (cmd : is_command (state_in B commands) line ≡ true)
    (owns : Owns s commands (marks_in steps ++ earlier) c1.table.next.0 B g (work_of c1 g)) (none : (work_of c1 g).command ≡ None) (cid : cid_of (state_in B commands) ≡ next_cid (work_of c1 g))
    (past : Past c1 (marks_in steps ++ earlier)) where
  abbrev w : Work
  w = work_of c1 g

  abbrev b : BlockState
  b = state_in B commands

  abbrev ms : List Mark
  ms = marks_in steps ++ earlier

  pub level-is : level_of b ≡ w.level
  level-is = by_block B ∙ sym owns.level
    where
      by_block : (q : Block) → level_of (state_in q commands) ≡ level_in q
      by_block block.Outside = refl
      by_block (block.Open l) = refl
      by_block block.Failed = refl

  -- the command reads by a snapshot
  pub record Reads (r : Reading) : Type 0 where
    pub w2 : Work
    pub work : work_of r.coord g ≡ w2
    pub home : w2.session ≡ w.session
    pub level : w2.level ≡ w.level
    pub waiting : w2.waiting ≡ w.waiting
    pub works : (j : ℕ) → eqb j g.0 ≡ false → r.coord.works j ≡ c1.works j
    pub sessions : (j : ℕ) → r.coord.sessions j ≡ c1.sessions j
    pub next : r.coord.table.next ≡ c1.table.next
    pub of : Each (IsOf s.0 g.0) r.marks
    pub calm : Each (CalmFor s) r.marks
    pub running : is_ended r.marks g ≡ false
    pub unread : (d : Cid) → w.last + 1 < d.0 → is_snapped r.marks g d ≡ false
    pub unsent : is_sent r.marks g (next_cid w) ≡ false
    pub snapshot : HasSnapshot w2.level (marks_in steps ++ (earlier ++ r.marks)) g w2.snapshot
    pub legal : (later : List Mark) → EachMark (Given script) steps ev earlier r.marks later
    pub rests : (later : List Mark) → EachMark (Rest script) steps ev earlier r.marks later
    pub by : IsReadBy (marks_in steps ++ (earlier ++ r.marks)) w.level g (next_cid w) line r.snapshot

  same-marks : ms ≡ marks_in steps ++ (earlier ++ [])
  same-marks = ap (λ e. marks_in steps ++ e) (sym (append-nil earlier))

  reads-kept : (y : Option Snapshot) → IsReadBy ms w.level g (next_cid w) line y → Reads (record { coord = c1; snapshot = y; marks = [] })
  reads-kept y by =
      record {
        w2 = w;
        work = refl;
        home = refl;
        level = refl;
        waiting = refl;
        works = λ j h. refl;
        sessions = λ j. refl;
        next = refl;
        of = tt;
        calm = tt;
        running = refl;
        unread = λ d l. refl;
        unsent = refl;
        snapshot = subst (λ m. HasSnapshot w.level m g w.snapshot) same-marks owns.snapshot;
        legal = λ later. tt;
        rests = λ later. tt;
        by = subst (λ m. IsReadBy m w.level g (next_cid w) line y) same-marks by;
      }

  reads-none : (y : Option Snapshot) → (l : Level) → HasSnapshot l ms g y → y ≡ None → is_snapped ms g (next_cid w) ≡ false → has_own_snapshot l ms g (next_cid w) ≡ false
  reads-none y ReadCommitted h e f = f
  reads-none None RepeatableRead h e f = h
  reads-none (Some z) RepeatableRead h e f = absurd (cc)

  reads-new : is_on_rows line ≡ true → w.snapshot ≡ None → Reads (takes_snapshot c1 g (next_cid w) w)
  reads-new rows fresh =
      record {
        w2 = record w { snapshot = kept_at w.level (snapshot_of c1.table) };
        work = ap (λ q. if q then (record w { snapshot = kept_at w.level (snapshot_of c1.table) }) else w) (eqb-self g.0);
        home = refl;
        level = refl;
        waiting = refl;
        works = λ j h. ap (λ q. if q then (record w { snapshot = kept_at w.level (snapshot_of c1.table) }) else c1.works j) h;
        sessions = λ j. refl;
        next = refl;
        of = (refl, tt);
        calm = (tt, tt);
        running = refl;
        unread = λ d l. not-later (w.last + 1) d.0 (eqb g.0 g.0) l;
        unsent = refl;
        snapshot = kept w.level;
        legal = λ later. (λ q. snap later, tt);
        rests = λ later. (tt, tt);
        by = by_line line rows;
      }
    where
      not-later : (a d : ℕ) (q : Bool) → a < d → ((q && eqb a d) || false) ≡ false
      not-later a d q l = grind (arith, nat_tests)

      shot : Snapshot
      shot = snapshot_of c1.table

      is-there : slice_get (marks_in steps ++ (earlier ++ mark.Snap g (next_cid w) shot ∷ [])) (length ms) ≡ Some (mark.Snap g (next_cid w) shot)
      is-there = subst (λ m. slice_get m (length ms) ≡ Some (mark.Snap g (next_cid w) shot)) (append_assoc (marks_in steps) earlier (mark.Snap g (next_cid w) shot ∷ [])) (get_last ms [] (mark.Snap g (next_cid w) shot))

      kept : (l : Level) → HasSnapshot l (marks_in steps ++ (earlier ++ mark.Snap g (next_cid w) shot ∷ [])) g (kept_at l shot)
      kept ReadCommitted = refl
      kept RepeatableRead = record { place = length ms; d = next_cid w; taken = is-there }

      serves-itself : (l : Level) (d : Cid) → Rattle.gx_store.specs.Commands.Serves l d d
      serves-itself ReadCommitted d = refl
      serves-itself RepeatableRead d = tt

      served : IsServed (marks_in steps ++ (earlier ++ mark.Snap g (next_cid w) shot ∷ [])) w.level g (next_cid w) shot
      served = record { place = length ms; d = next_cid w; taken = is-there; serves = serves-itself w.level (next_cid w) }

      by_line : (l : Stmt) → is_on_rows l ≡ true → IsReadBy (marks_in steps ++ (earlier ++ mark.Snap g (next_cid w) shot ∷ [])) w.level g (next_cid w) l (Some shot)
      by_line (stmt.Select q) h = (shot, refl, served)
      by_line (stmt.Insert t q) h = (shot, refl, served)
      by_line (stmt.Update t a q) h = (shot, refl, served)
      by_line (stmt.Delete t q) h = (shot, refl, served)
      by_line (stmt.Begin level) h = absurd (false-true h)
      by_line stmt.Commit h = absurd (false-true h)
      by_line stmt.Rollback h = absurd (false-true h)
      by_line (stmt.Lock t m) h = absurd (false-true h)

      one-more : (a : ℕ) → a < a + 1
      one-more a = omega arith

      snap : (later : List Mark) → Rattle.gx_store.specs.Legal.LegalSnap script (record { steps = steps; event = ev; earlier = earlier; later = later }) g (next_cid w) shot
      snap later =
          subst (λ q. Rattle.gx_store.specs.Legal.LegalSnap script (record { steps = steps; event = ev; earlier = earlier; later = later }) g q shot) cid
          (legal-snap script steps ev s line n b (is_alone B pending.Command) (Some g) earlier o.at later g shot o.has refl cmd o.running rows
          (subst (λ q. has_own_snapshot (level_of b) ms g q ≡ false) (sym cid) (subst (λ l. has_own_snapshot l ms g (next_cid w) ≡ false) (sym level-is)
          (reads-none w.snapshot w.level owns.snapshot fresh (owns.unsnapped (next_cid w) (one-more w.last)))))
          (seen-now c1 ms past))

  reads-by : is_on_rows line ≡ true → (y : Option Snapshot) → w.snapshot ≡ y → Reads (reads_by c1 g (next_cid w) w y)
  reads-by rows None e = reads-new rows e
  reads-by rows (Some z) e = reads-kept (Some z) (by_line line rows)
    where
      by_level : (l : Level) → HasSnapshot l ms g (Some z) → IsServed ms l g (next_cid w) z
      by_level ReadCommitted h = absurd (cc)
      by_level RepeatableRead h = record { place = h.place; d = h.d; taken = h.taken; serves = tt }

      served : IsServed ms w.level g (next_cid w) z
      served = by_level w.level (subst (λ y. HasSnapshot w.level ms g y) e owns.snapshot)

      by_line : (l : Stmt) → is_on_rows l ≡ true → IsReadBy ms w.level g (next_cid w) l (Some z)
      by_line (stmt.Select q) h = (z, refl, served)
      by_line (stmt.Insert t q) h = (z, refl, served)
      by_line (stmt.Update t a q) h = (z, refl, served)
      by_line (stmt.Delete t q) h = (z, refl, served)
      by_line (stmt.Begin level) h = absurd (false-true h)
      by_line stmt.Commit h = absurd (false-true h)
      by_line stmt.Rollback h = absurd (false-true h)
      by_line (stmt.Lock t m) h = absurd (false-true h)

  pub reads-for : (l : Stmt) → line ≡ l → is_command b l ≡ true → Reads (reads_for c1 g (next_cid w) w l)
  reads-for (stmt.Lock t m) e h = reads-kept None (subst (λ q. IsReadBy ms w.level g (next_cid w) q None) (sym e) refl)
  reads-for (stmt.Select q) e h = reads-by (ap is_on_rows e) w.snapshot refl
  reads-for (stmt.Insert t q) e h = reads-by (ap is_on_rows e) w.snapshot refl
  reads-for (stmt.Update t a q) e h = reads-by (ap is_on_rows e) w.snapshot refl
  reads-for (stmt.Delete t q) e h = reads-by (ap is_on_rows e) w.snapshot refl
  reads-for (stmt.Begin level) e h = absurd (by_block B h)
    where
      by_block : (q : Block) → is_command (state_in q commands) (stmt.Begin level) ≡ true → ⊥
      by_block block.Outside h = false-true h
      by_block (block.Open l) h = false-true h
      by_block block.Failed h = false-true h
  reads-for stmt.Commit e h = absurd (by_block B h)
    where
      by_block : (q : Block) → is_command (state_in q commands) stmt.Commit ≡ true → ⊥
      by_block block.Outside h = false-true h
      by_block (block.Open l) h = false-true h
      by_block block.Failed h = false-true h
  reads-for stmt.Rollback e h = absurd (by_block B h)
    where
      by_block : (q : Block) → is_command (state_in q commands) stmt.Rollback ≡ true → ⊥
      by_block block.Outside h = false-true h
      by_block (block.Open l) h = false-true h
      by_block block.Failed h = false-true h
