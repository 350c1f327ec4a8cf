-- A command that goes out, or whose constants fault.
use Rattle.std.proofs.Common.{◌≡◌, ◌<◌, ◌≤◌, inl, inr, ℕ, ◌+◌, List, [], ◌∷◌, ◌++◌, Some, None, Result, Ok, Err, Bool, true, false, refl, sym, subst, ap, ◌∙◌, if◌then◌else◌, ◌||◌, arith, eqb, length}
use Rattle.std.proofs.Math.Seq.{take-append_seam}
use Rattle.std.proofs.lemmas.List.{append_assoc, length-append}
use Rattle.std.proofs.lemmas.List.Elements.{Contains-append_left, Contains-append_right, Contains-push}
use Rattle.std.specs.Prelude.{Contains, slice_get, take}
use Rattle.gx_lemmas.proofs.Numbers.{eqb-self}
use Rattle.gx_lemmas.proofs.Options.{some-same}
use Rattle.gx_lemmas.proofs.Tests.{false-true}
use Rattle.gx_ids.specs.declared.ids.Cid.{Cid}
use Rattle.gx_ids.specs.declared.ids.Gxid.{Gxid}
use Rattle.gx_ids.specs.declared.ids.Node.{Node}
use Rattle.gx_ids.specs.declared.ids.SessionId.{SessionId}
use Rattle.gx_tree.specs.declared.expr.Expr.{Expr}
use Rattle.gx_tree.specs.declared.row.KeyedRow.{KeyedRow}
use Rattle.gx_tree.specs.declared.stmt.Level.{Level}
use Rattle.gx_tree.specs.declared.stmt.Stmt.{Stmt}
use Rattle.gx_tree.specs.declared.stmt.Stmt.TheVariants as stmt
use Rattle.gx_dtx.specs.Nodes.{has}
use Rattle.gx_dtx.specs.Rules.{enlisted, on_abort}
use Rattle.gx_dtx.specs.Table.{Table, horizon_of}
use Rattle.gx_meaning.specs.Expressions.{and_then}
use Rattle.gx_meaning.specs.declared.fault.ArithFault.{ArithFault}
use Rattle.gx_meaning.specs.declared.fault.ArithFault.TheVariants as arithmetic
use Rattle.gx_msg.specs.declared.message.Out.{Out}
use Rattle.gx_meaning.specs.Constants.{rows_of}
use Rattle.gx_meaning.specs.Plan.{insert_pieces, plan_of}
use Rattle.gx_meaning.specs.declared.piece.Piece.{Piece}
use Rattle.gx_script.specs.declared.Script.{Script}
use Rattle.gx_script.specs.Session.{block_after_refusal}
use Rattle.gx_script.specs.declared.state.Block.{Block}
use Rattle.gx_script.specs.declared.state.Block.TheVariants as block
use Rattle.gx_script.specs.declared.state.Pending.TheVariants as pending
use Rattle.gx_store.specs.declared.answer.StmtAnswer.TheVariants as told
use Rattle.gx_store.specs.declared.event.Event.{Event}
use Rattle.gx_store.specs.declared.mark.Mark.{Mark}
use Rattle.gx_store.specs.declared.mark.Mark.TheVariants as mark
use Rattle.gx_store.specs.declared.run.Step.{Step}
use Rattle.gx_store.specs.Commands.{has_own_snapshot}
use Rattle.gx_store.specs.Lines.{BlockState, cid_of, is_command, level_of, state_after, stmt_of, state_of}
use Rattle.gx_store.specs.Marks.{has_snapshot, is_aborted, is_ended, is_sent, is_snapped, answer_count, is_begun, started_after}
use Rattle.gx_store.specs.Points.{marks_in}
use Rattle.gx_store.specs.Refusals.{IsCause, the_coordinator, is_journal}
use Rattle.gx_store.specs.Writes.{dist_of}
use Rattle.gx_rules.specs.AtCoordinator.{Reading, behind, dispatches, enlisted_all, fault_mark, faulting_from, goes, goes_out, kept_at, next_cid, nodes_in, orders_of, reads_by, reads_for, refusal_of, table_of, takes_snapshot, goes_on_locked, waits_for}
use Rattle.gx_rules.specs.Coordinators.{Command, Coord, CoordTurn, Session, Work, work_of}
use Rattle.gx_rules.specs.Slices.{cause_of}
use Rattle.gx_law_order.proofs.Lists.{each_append, get_last}
use Rattle.gx_law_order.specs.Lists.{Each}
use Rattle.gx_law_order.specs.Past.{Past}
use Rattle.gx_law_order.specs.Scanned.{command_at}
use Rattle.gx_law_order.specs.Orders.{IsReadBy}
use Rattle.gx_law_order.specs.Rest.{Rest, UnlessStart}
use Rattle.gx_law_order.specs.Standing.{Owns, Roots, Stands, is_alone, is_busy, is_sound, state_in, under_way}
use Rattle.gx_law_order.proofs.Answers.{command-refusable, done-outside, refused-inside}
use Rattle.gx_law_order.proofs.AtLine.{AtLine, at-calm, legal-snap}
use Rattle.gx_law_order.proofs.AtLine as at_line
use Rattle.gx_law_order.proofs.Awaited.{IsAwaited, IsOwn, OutAwaits, own-none}
use Rattle.gx_law_order.proofs.Others.{IsOf, ended-more, of-fresh, snapped-more}
use Rattle.gx_law_order.proofs.Faults.{constants-fault}
use Rattle.gx_law_order.proofs.Frame.{Does, owns-more}
use Rattle.gx_law_order.proofs.Gathers.{GathersIn, HeardNow}
use Rattle.gx_law_order.proofs.Given.{Given, marks-append}
use Rattle.gx_law_order.proofs.Outs.{CommandIs, OutIs, abort-bare}
use Rattle.gx_law_order.proofs.Roots.{roots-level}
use Rattle.gx_law_order.proofs.Said.{CalmFor, said-calm}
use Rattle.gx_law_order.proofs.Under.{Under, refuse-does}
use Rattle.gx_law_order.proofs.Unsent.{unsent-more}
use Rattle.gx_law_order.proofs.Reading.{Reads, reads-for}
use Rattle.gx_locks.specs.Locks.{Locks}
use Rattle.gx_rules.specs.Locks.{hold_mark, wait_mark, with_hold}
use Rattle.gx_waits.specs.declared.claim.Claim.{Claim}
use Rattle.gx_law_order.proofs.Lines.{past-still}
use Rattle.gx_law_order.proofs.Dispatches.{dispatch-ways}

enlisted-next : (nodes : List Node) (d : Table) (g : Gxid) → (enlisted_all d g nodes).next ≡ d.next
enlisted-next [] d g = refl
enlisted-next (i ∷ is) d g = enlisted-next is (enlisted d g i) g

-- only the constants of an INSERT fault
plan-faults : (n : ℕ) (d : Rattle.gx_tree.specs.declared.schema.Dist.Dist) (g : Gxid) (c : Cid) (line : Stmt) (fault : ArithFault) → plan_of n d g c line ≡ Err fault → (table : Rattle.gx_ids.specs.declared.ids.Table.Table) × ((tuples : List (List Expr)) × (line ≡ stmt.Insert table tuples) × (rows_of g c tuples ≡ Err fault))
plan-faults n d g c (stmt.Insert table tuples) fault e = (table, (tuples, refl, by_rows (rows_of g c tuples) e))
  where
    same-fault : (x y : ArithFault) → (let a : Result (List Piece) ArithFault = Err x in a) ≡ Err y → x ≡ y
    same-fault x y e = cc

    by_rows : (r : Result (List KeyedRow) ArithFault) → and_then r (λ rows. Ok (insert_pieces n d table rows)) ≡ Err fault → r ≡ Err fault
    by_rows (Ok rows) h = absurd (no h)
      where
        no : (let a : Result (List Piece) ArithFault = Ok (insert_pieces n d table rows) in a) ≡ Err fault → ⊥
        no h = cc
    by_rows (Err f) h = ap (λ x. let a : Result (List KeyedRow) ArithFault = Err x in a) (same-fault f fault h)
plan-faults n d g c (stmt.Select q) fault e = absurd (cc)
plan-faults n d g c (stmt.Update t a w) fault e = absurd (cc)
plan-faults n d g c (stmt.Delete t w) fault e = absurd (cc)
plan-faults n d g c (stmt.Lock t m) fault e = absurd (cc)
plan-faults n d g c (stmt.Begin level) fault e = absurd (cc)
plan-faults n d g c stmt.Commit fault e = absurd (cc)
plan-faults n d g c stmt.Rollback fault e = absurd (cc)

module _ (script : Script) (steps : List Step) (ev : Event) (exempt : (A : Type 0) → UnlessStart ev A) (c c1 : Coord) (s : SessionId) (g : Gxid) (x : Session) (n : ℕ) (B : Block) (commands : ℕ) (line : Stmt) (earlier : List Mark)
    (o : Under script steps c ev c1 s g (work_of c1 g) x n (state_in B commands) (is_alone B pending.Command) line earlier)
    (xb : x.state.block ≡ B) (xp : x.state.pending ≡ pending.Command) (busy : is_busy B pending.Command ≡ true) (cmd : is_command (state_in B commands) line ≡ true)
    (owns : Owns s commands (marks_in steps ++ earlier) c1.table.next.0 B g (work_of c1 g)) (none : (work_of c1 g).command ≡ None) (free : (work_of c1 g).waiting ≡ None) (cid : cid_of (state_in B commands) ≡ next_cid (work_of c1 g))
    (past : Past c1 (marks_in steps ++ earlier)) (unsent : is_sent (marks_in steps ++ earlier) g (next_cid (work_of c1 g)) ≡ false)
    (roots : (m : Command) (v : Work) (ns : List Mark) → m.stmt ≡ line → m.cid ≡ next_cid (work_of c1 g) → v.last ≡ (work_of c1 g).last + 1 → v.command ≡ Some m → v.waiting ≡ None → Roots script s ((marks_in steps ++ earlier) ++ ns) B pending.Command x.lines g v)
    (unawaited : (k : Cid) (i : Node) (level : Level) → IsAwaited (c.works g.0) k i level → ⊥) where
  abbrev w : Work
  w = work_of c1 g

  abbrev b : BlockState
  b = state_in B commands

  abbrev ms : List Mark
  ms = marks_in steps ++ earlier

  abbrev ReadsHere : Reading → Type 0
  ReadsHere r = Reads script steps ev c c1 s g x n B commands line earlier o xb xp busy cmd owns none cid past r

  -- THE COMMAND GOES OUT
  at-reading : (r : Reading) → ReadsHere r → AtLine script steps ev s line n b (is_alone B pending.Command) (Some g) (earlier ++ r.marks)
  at-reading r R = at-calm script steps ev s line n b (is_alone B pending.Command) (Some g) earlier r.marks o.at R.calm

  running-there : (r : Reading) → ReadsHere r → is_ended (marks_in steps ++ (earlier ++ r.marks)) g ≡ false
  running-there r R = subst (λ m. is_ended m g ≡ false) (append_assoc (marks_in steps) earlier r.marks) (ended-more ms r.marks g o.running R.running)

  abbrev sent-work : Reading → List Piece → Work → Work
  sent-work r pieces v =
      record v { last = w.last + 1; command = Some (record { stmt = line; cid = next_cid w; orders = orders_of g (next_cid w) v.level r.snapshot (horizon_of r.coord.table) pieces; awaited = nodes_in pieces; count = 0; parts = [] }) }

  sent-owns : (r : Reading) (pieces : List Piece) (R : ReadsHere r) → Owns s commands (marks_in steps ++ (earlier ++ r.marks)) (goes_out g (next_cid w) line pieces r).coord.table.next.0 B g (sent-work r pieces R.w2)
  sent-owns r pieces R =
      record {
        home = R.home ∙ o.home;
        started = (at-reading r R).said.started;
        level = R.level ∙ owns.level;
        drawn = subst (λ i. g.0 < i) (sym (ap (λ (i : Gxid). i.0) (enlisted-next (nodes_in pieces) r.coord.table g ∙ R.next))) o.drawn;
        running = running-there r R;
        counted = λ h. one-more commands w.last (sym (ap (λ q. commands + under_way q) none) ∙ owns.counted h);
        unsnapped = λ d l. subst (λ m. is_snapped m g d ≡ false) (append_assoc (marks_in steps) earlier r.marks) (snapped-more ms r.marks g d (owns.unsnapped d (below w.last d.0 l)) (R.unread d l));
        snapshot = R.snapshot;
      }
    where
      one-more : (a d : ℕ) → a + 0 ≡ d → a + 1 ≡ d + 1
      one-more a d e = omega arith

      below : (a d : ℕ) → a + 1 < d → a < d
      below a d l = omega arith

  -- each piece is an order
  sent-command : Reading → List Piece → Work → Command
  sent-command r pieces v = record { stmt = line; cid = next_cid w; orders = orders_of g (next_cid w) v.level r.snapshot (horizon_of r.coord.table) pieces; awaited = nodes_in pieces; count = 0; parts = [] }

  sent-roots : (r : Reading) (pieces : List Piece) (R : ReadsHere r) → Roots script s (marks_in steps ++ (earlier ++ r.marks)) B pending.Command x.lines g (sent-work r pieces R.w2)
  unfolding sent-command
  sent-roots r pieces R =
      subst (λ m. Roots script s m B pending.Command x.lines g (sent-work r pieces R.w2)) (append_assoc (marks_in steps) earlier r.marks)
      (roots (sent-command r pieces R.w2) (sent-work r pieces R.w2) r.marks refl refl refl refl (R.waiting ∙ free))

  out-orders : (all : List Piece) (r : Reading) (R : ReadsHere r) (v : Work) → v.level ≡ w.level → plan_of script.segments (dist_of script.tables (table_of line)) g (next_cid w) line ≡ Ok all → (pieces : List Piece) → Each (Contains all) pieces → Each (OutIs script (marks_in steps ++ (earlier ++ r.marks))) (orders_of g (next_cid w) v.level r.snapshot (horizon_of r.coord.table) pieces)
  out-orders all r R v lev plan [] e = tt
  out-orders all r R v lev plan (q ∷ qs) e = (
    λ n. record {
      line = line;
      of = ap (λ o. command_at script o (w.last + 1)) z.began ∙ (z.now n).0 (sent-command-of r all) refl;
      level_is = lev ∙ owns.level ∙ roots-level script s (marks_in steps ++ (earlier ++ r.marks)) B x.lines g (sent-work r all R.w2) line commands z (ap (λ i. stmt_of s i script.lines) o.lines ∙ o.at.is_line) cmd;
      counted = one-more w.last;
      pieces = all;
      plan = plan;
      among = e.0;
      read = subst (λ l. IsReadBy (marks_in steps ++ (earlier ++ r.marks)) l g (next_cid w) line r.snapshot) (sym lev) R.by;
    },
    out-orders all r R v lev plan qs e.1,
  )
    where
      one-more : (a : ℕ) → 1 ≤ a + 1
      one-more a = omega arith

      z : Roots script s (marks_in steps ++ (earlier ++ r.marks)) B pending.Command x.lines g (sent-work r all R.w2)
      z = sent-roots r all R

      sent-command-of : Reading → List Piece → Command
      sent-command-of r all = record { stmt = line; cid = next_cid w; orders = orders_of g (next_cid w) R.w2.level r.snapshot (horizon_of r.coord.table) all; awaited = nodes_in all; count = 0; parts = [] }

  each-contained : (xs ys : List Piece) → Each (Contains (xs ++ ys)) ys
  each-contained xs [] = tt
  each-contained xs (y ∷ ys) =
      (Contains-append_right xs (y ∷ ys) y (Contains-append_left (y ∷ []) ys y (Contains-push [] y)), subst (λ m. Each (Contains m) ys) (append_assoc xs (y ∷ []) ys) (each-contained (xs ++ y ∷ []) ys))

  out-does : (pieces : List Piece) (r : Reading) → ReadsHere r → plan_of script.segments (dist_of script.tables (table_of line)) g (next_cid w) line ≡ Ok pieces → Does script steps c ev (behind earlier (goes_out g (next_cid w) line pieces r))
  out-does pieces r R plan =
      record {
        alters = record {
          s = s.0;
          g = g.0;
          x = x;
          sessions = λ j. R.sessions j ∙ o.sessions j;
          works = λ j h. ap (λ q. if q then sent-work r pieces (work_of r.coord g) else r.coord.works j) h ∙ R.works j h ∙ o.works j h;
          next = subst (λ (i : Gxid). c.table.next.0 ≤ i.0) (sym next-is) o.next;
          whose = o.whose;
          of = each_append (IsOf s.0 g.0) earlier r.marks o.of R.of;
          fresh = of-fresh s.0 g.0 _ (earlier ++ r.marks) (subst (λ (i : Gxid). g.0 < i.0) (sym next-is) o.drawn) (each_append (IsOf s.0 g.0) earlier r.marks o.of R.of);
          alone = o.alone;
          starts = o.at.starts ∙ sym o.lines;
          stands = inl (o.ends, at_x (subst (λ v. Stands script s (marks_in steps ++ (earlier ++ r.marks)) late.coord.table.next.0 B pending.Command x.lines g v) (sym work-now) there));
          outs = sent_orders;
          owned = λ h m q. subst (λ (z : Command). Each (λ (o : Out). IsOwn g z.cid ((goes_out g (next_cid w) line pieces r).coord.works g.0).level o.message) z.orders) (some-same _ m (sym command-now ∙ q)) (own-all pieces);
          sent = awaited-all pieces (λ i h. h);
          keeps = λ k i level a. absurd (unawaited k i level a);
          orders = λ h. subst (CommandIs script (marks_in steps ++ (earlier ++ r.marks))) (sym command-now) sent_orders;
          gathers = λ h. subst (GathersIn script (HeardNow steps ev) g) (sym command-now)
              (record { pieces = pieces; plan = plan; taken = []; heard = tt; fits = tt; apart = tt; all = λ i. or-none (has i (nodes_in pieces)); free = λ i q. refl; parts = refl; counted = refl });
        };
        legal = λ later. marks-append (Given script) steps ev [] earlier r.marks later (o.legal (r.marks ++ later)) (R.legal later);
        rest = λ t later. marks-append (Rest script) steps ev [] earlier r.marks later (o.rests (r.marks ++ later)) (R.rests later);
      }
    where
      own-all : (qs : List Piece) → Each (λ (o : Out). IsOwn g (next_cid w) ((goes_out g (next_cid w) line pieces r).coord.works g.0).level o.message) (orders_of g (next_cid w) (work_of r.coord g).level r.snapshot (horizon_of r.coord.table) qs)
      own-all [] = tt
      own-all (q ∷ qs) = ((refl, refl, sym (ap (λ (v : Work). v.level) (ap (λ t. if t then sent-work r pieces (work_of r.coord g) else r.coord.works g.0) (eqb-self g.0)))), own-all qs)

      awaited-all : (qs : List Piece) → ((i : Node) → has i (nodes_in qs) ≡ true → has i (nodes_in pieces) ≡ true) → Each (OutAwaits (goes_out g (next_cid w) line pieces r).coord) (orders_of g (next_cid w) (work_of r.coord g).level r.snapshot (horizon_of r.coord.table) qs)
      awaited-all [] f = tt
      awaited-all (q ∷ qs) f = (
        record {
          its = record { stmt = line; cid = next_cid w; orders = orders_of g (next_cid w) (work_of r.coord g).level r.snapshot (horizon_of r.coord.table) pieces; awaited = nodes_in pieces; count = 0; parts = [] };
          is = ap (λ (v : Work). v.command) (ap (λ t. if t then sent-work r pieces (work_of r.coord g) else r.coord.works g.0) (eqb-self g.0));
          counted = refl;
          awaits = f q.node (ap (λ t. t || has q.node (nodes_in qs)) (eqb-self q.node.0));
          level_is = sym (ap (λ (v : Work). v.level) (ap (λ t. if t then sent-work r pieces (work_of r.coord g) else r.coord.works g.0) (eqb-self g.0)));
        },
        awaited-all qs (λ i h. f i (or-true (eqb q.node.0 i.0) h)),
      )
        where
          or-true : (a : Bool) {b : Bool} → b ≡ true → (a || b) ≡ true
          or-true true e = refl
          or-true false e = e

      or-none : (b : Bool) → b ≡ (b || false)
      or-none true = refl
      or-none false = refl

      sent_orders : Each (OutIs script (marks_in steps ++ (earlier ++ r.marks))) (orders_of g (next_cid w) (work_of r.coord g).level r.snapshot (horizon_of r.coord.table) pieces)
      sent_orders = out-orders pieces r R (work_of r.coord g) (ap (λ (v : Work). v.level) R.work ∙ R.level) plan pieces (each-contained [] pieces)

      command-now : ((goes_out g (next_cid w) line pieces r).coord.works g.0).command ≡ Some (record { stmt = line; cid = next_cid w; orders = orders_of g (next_cid w) (work_of r.coord g).level r.snapshot (horizon_of r.coord.table) pieces; awaited = nodes_in pieces; count = 0; parts = [] })
      command-now = ap (λ (v : Work). v.command) (ap (λ q. if q then sent-work r pieces (work_of r.coord g) else r.coord.works g.0) (eqb-self g.0))

      late : Rattle.gx_rules.specs.Coordinators.CoordTurn
      late = goes_out g (next_cid w) line pieces r

      next-is : late.coord.table.next ≡ c1.table.next
      next-is = enlisted-next (nodes_in pieces) r.coord.table g ∙ R.next

      work-now : late.coord.works g.0 ≡ sent-work r pieces R.w2
      work-now = ap (λ q. if q then sent-work r pieces (work_of r.coord g) else r.coord.works g.0) (eqb-self g.0) ∙ ap (sent-work r pieces) R.work

      sounds : (q : Block) → is_busy q pending.Command ≡ true → is_sound q pending.Command ≡ true
      sounds block.Outside h = refl
      sounds (block.Open l) h = refl
      sounds block.Failed h = absurd (false-true h)

      there : Stands script s (marks_in steps ++ (earlier ++ r.marks)) late.coord.table.next.0 B pending.Command x.lines g (sent-work r pieces R.w2)
      there =
          record {
            commands = commands;
            answered = ap (λ i. i + 1) (at-reading r R).said.answered ∙ sym o.lines;
            state = (at-reading r R).said.state;
            begun = (at-reading r R).said.begun;
            sound = sounds B busy;
            owns = λ h. (sent-owns r pieces R, inl (_, refl, ap (λ i. stmt_of s i script.lines) o.lines ∙ o.at.is_line, cmd, sym cid), sent-roots r pieces R);
          }

      at_x : Stands script s (marks_in steps ++ (earlier ++ r.marks)) late.coord.table.next.0 B pending.Command x.lines g (late.coord.works g.0) → Stands script s (marks_in steps ++ (earlier ++ r.marks)) late.coord.table.next.0 x.state.block x.state.pending x.lines x.transaction (late.coord.works x.transaction.0)
      at_x h =
          subst (λ q. Stands script s (marks_in steps ++ (earlier ++ r.marks)) late.coord.table.next.0 q x.state.pending x.lines x.transaction (late.coord.works x.transaction.0)) (sym xb)
          (subst (λ q. Stands script s (marks_in steps ++ (earlier ++ r.marks)) late.coord.table.next.0 B q x.lines x.transaction (late.coord.works x.transaction.0)) (sym xp)
          (subst (λ (q : Gxid). Stands script s (marks_in steps ++ (earlier ++ r.marks)) late.coord.table.next.0 B pending.Command x.lines q (late.coord.works q.0)) (sym o.its) h))

  -- ITS CONSTANTS FAULT
  module _ (r : Reading) (R : ReadsHere r) (table : Rattle.gx_ids.specs.declared.ids.Table.Table) (tuples : List (List Expr)) (is_insert : line ≡ stmt.Insert table tuples) (fault : ArithFault) (faulty : rows_of g (next_cid w) tuples ≡ Err fault) where
    abbrev rid : Rattle.gx_ids.specs.declared.rid.Rid.Rid
    rid = record { gxid = g; cid = next_cid w; ordinal = faulting_from 1 tuples }

    abbrev noted : Mark
    noted = mark.Fault g (next_cid w) rid None

    abbrev why : List Mark
    why = r.marks ++ noted ∷ []

    abbrev seam : List Mark
    seam = marks_in steps ++ (earlier ++ r.marks)

    not-sent : is_sent seam g (next_cid w) ≡ false
    not-sent = subst (λ m. is_sent m g (next_cid w) ≡ false) (append_assoc (marks_in steps) earlier r.marks) (unsent-more ms r.marks g (next_cid w) unsent R.unsent)

    is-fault : (marks : List Mark) → marks ≡ seam → Rattle.gx_store.specs.Faults.IsFaultOf marks (level_of b) g (next_cid w) line rid None fault
    is-fault marks at =
        subst (λ l. Rattle.gx_store.specs.Faults.IsFaultOf marks (level_of b) g (next_cid w) l rid None fault) (sym is_insert)
        (constants-fault marks g (next_cid w) tuples fault (subst (λ m. is_sent m g (next_cid w) ≡ false) (sym at) not-sent) faulty)

    joined : marks_in steps ++ ((earlier ++ why) ++ mark.Abort g ∷ []) ≡ seam ++ noted ∷ mark.Abort g ∷ []
    joined =
        ap (λ m. marks_in steps ++ (m ++ mark.Abort g ∷ [])) (sym (append_assoc earlier r.marks (noted ∷ []))) ∙ ap (λ m. marks_in steps ++ m) (append_assoc (earlier ++ r.marks) (noted ∷ []) (mark.Abort g ∷ []))
        ∙ sym (append_assoc (marks_in steps) (earlier ++ r.marks) (noted ∷ mark.Abort g ∷ []))

    not-aborted : (m : List Mark) → is_ended m g ≡ false → is_aborted m g ≡ false
    not-aborted m e = right (Rattle.gx_store.specs.Marks.is_committed m g) (is_aborted m g) e
      where
        right : (p q : Bool) → (p || q) ≡ false → q ≡ false
        right p q e = grind arith

    has-faulted : (later : List Mark) → Rattle.gx_store.specs.Refusals.HasFaulted (record { steps = steps; event = ev; earlier = (earlier ++ why) ++ mark.Abort g ∷ []; later = later }) line (level_of b) g (next_cid w) fault (cause_of fault)
    has-faulted later =
        record {
          place = length seam;
          rid = rid;
          image = None;
          noted = subst (λ m. slice_get m (length seam) ≡ Some noted) (sym joined) (get_last seam (mark.Abort g ∷ []) noted);
          unaborted = subst (λ m. is_aborted (take (length seam) m) g ≡ false) (sym joined) (subst (λ m. is_aborted m g ≡ false) (sym (take-append_seam seam (noted ∷ mark.Abort g ∷ []))) (not-aborted seam (running-there r R)));
          faults = is-fault _ (ap (take (length seam)) joined ∙ take-append_seam seam (noted ∷ mark.Abort g ∷ []));
          heard = subst (λ l. Rattle.gx_store.specs.Refusals.IsHeard (record { steps = steps; event = ev; earlier = (earlier ++ why) ++ mark.Abort g ∷ []; later = later }) (length seam) l g (next_cid w) rid None (cause_of fault)) (sym is_insert) (at-least (length (marks_in steps)) (length (earlier ++ r.marks)) (length seam) (length-append (marks_in steps) (earlier ++ r.marks)));
        }
      where
        at-least : (a d e : ℕ) → e ≡ a + d → a ≤ e
        at-least a d e h = omega arith

    cause : (later : List Mark) → IsCause (record { steps = steps; event = ev; earlier = (earlier ++ why) ++ mark.Abort g ∷ []; later = later }) line (level_of b) g (cid_of b) (refusal_of fault)
    cause later = subst (λ q. IsCause (record { steps = steps; event = ev; earlier = (earlier ++ why) ++ mark.Abort g ∷ []; later = later }) line (level_of b) g q (refusal_of fault)) (sym cid) (by_fault fault (has-faulted later))
      where
        by_fault : (f : ArithFault) → Rattle.gx_store.specs.Refusals.HasFaulted (record { steps = steps; event = ev; earlier = (earlier ++ why) ++ mark.Abort g ∷ []; later = later }) line (level_of b) g (next_cid w) f (cause_of f) → IsCause (record { steps = steps; event = ev; earlier = (earlier ++ why) ++ mark.Abort g ∷ []; later = later }) line (level_of b) g (next_cid w) (refusal_of f)
        by_fault arithmetic.Overflow h = h
        by_fault arithmetic.DivisionByZero h = h

    live-fault : (later : List Mark) → Rattle.gx_store.specs.Faults.LegalFault script (record { steps = steps; event = ev; earlier = earlier ++ r.marks; later = later }) g (next_cid w) rid None
    live-fault later =
        inl (record {
          session = s;
          stmt = line;
          level = level_of b;
          fault = fault;
          runs = subst (λ q. Rattle.gx_store.specs.Commands.IsUnderWay script (record { steps = steps; event = ev; earlier = earlier ++ r.marks; later = later }) s line (level_of b) g q) cid
              (at_line.under-way script steps ev s line n b (is_alone B pending.Command) (Some g) (earlier ++ r.marks) (at-reading r R) later g o.has refl cmd (running-there r R));
          faults = is-fault _ refl;
        })

    under2 : Under script steps c ev r.coord s g R.w2 x n b (is_alone B pending.Command) line earlier
    under2 =
        record {
          work = R.work;
          works = λ j h. R.works j h ∙ o.works j h;
          sessions = λ j. R.sessions j ∙ o.sessions j;
          home = R.home ∙ o.home;
          its = o.its;
          lines = o.lines;
          next = subst (λ (i : Gxid). c.table.next.0 ≤ i.0) (sym R.next) o.next;
          drawn = subst (λ (i : Gxid). g.0 < i.0) (sym R.next) o.drawn;
          whose = o.whose;
          ends = o.ends;
          alone = o.alone;
          at = o.at;
          has = o.has;
          running = o.running;
          of = o.of;
          legal = o.legal;
          rests = o.rests;
        }

    not-journal : (f : ArithFault) → is_journal (refusal_of f) ≡ false
    not-journal arithmetic.Overflow = refl
    not-journal arithmetic.DivisionByZero = refl

    faults-does : Does script steps c ev (behind earlier (Rattle.gx_rules.specs.AtCoordinator.is_refused r.coord g (on_abort r.coord.table g) why (refusal_of fault)))
    faults-does =
        refuse-does script steps c ev r.coord s g R.w2 x n b (is_alone B pending.Command) line earlier under2 (on_abort r.coord.table g) why (refusal_of fault) (block_after_refusal B pending.Command) refl (command-refusable b line (refusal_of fault) cmd (not-journal fault))
        (ap (λ q. block_after_refusal q x.state.pending) xb ∙ ap (block_after_refusal B) xp) (not-busy B) (after B busy cmd)
        (each_append (IsOf s.0 g.0) r.marks (noted ∷ []) R.of (tt, tt)) (each_append (CalmFor s) r.marks (noted ∷ []) R.calm (tt, tt))
        (subst (λ m. is_ended m g ≡ false) (append_assoc (marks_in steps) (earlier ++ r.marks) (noted ∷ []) ∙ ap (λ m. marks_in steps ++ m) (append_assoc earlier r.marks (noted ∷ []))) (ended-more seam (noted ∷ []) g (running-there r R) refl))
        (λ later. marks-append (Given script) steps ev earlier r.marks (noted ∷ []) later (R.legal _) (λ q. live-fault later, tt))
        (λ later q. cause later) (abort-bare r.coord.table g)
        (λ later. marks-append (Rest script) steps ev earlier r.marks (noted ∷ []) later (R.rests _) (exempt _, tt)) (λ t later. by-start ((earlier ++ why) ++ mark.Abort g ∷ []) later fault)
      where
        by-start : (earlier later : List Mark) (f : ArithFault) → Rattle.gx_law_order.specs.Rest.RestAnswer script (record { steps = steps; event = ev; earlier = earlier; later = later }) s (told.Refused (refusal_of f))
        by-start earlier later arithmetic.Overflow = exempt _
        by-start earlier later arithmetic.DivisionByZero = exempt _

        not-busy : (q : Block) → is_busy (block_after_refusal q pending.Command) pending.Nothing ≡ false
        not-busy block.Outside = refl
        not-busy (block.Open l) = refl
        not-busy block.Failed = refl

        after : (q : Block) → is_busy q pending.Command ≡ true → is_command (state_in q commands) line ≡ true → state_after (state_in q commands) line (told.Refused (refusal_of fault)) ≡ state_in (block_after_refusal q pending.Command) 0
        after block.Outside h e = done-outside line (told.Refused (refusal_of fault)) e
        after (block.Open l) h e = refused-inside l commands line (refusal_of fault) e
        after block.Failed h e = absurd (false-true h)

  goes-does : (r : Reading) → ReadsHere r → (plan : Result (List Piece) ArithFault) → plan_of script.segments (dist_of script.tables (table_of line)) g (next_cid w) line ≡ plan → Does script steps c ev (behind earlier (goes g (next_cid w) line r plan))
  goes-does r R (Ok pieces) e = out-does pieces r R e
  goes-does r R (Err fault) e = by_insert (plan-faults script.segments (dist_of script.tables (table_of line)) g (next_cid w) line fault e)
    where
      by_insert : ((table : Rattle.gx_ids.specs.declared.ids.Table.Table) × ((tuples : List (List Expr)) × (line ≡ stmt.Insert table tuples) × (rows_of g (next_cid w) tuples ≡ Err fault))) → Does script steps c ev (behind earlier (goes g (next_cid w) line r (Err fault)))
      by_insert h =
          subst (λ f. Does script steps c ev (behind earlier (Rattle.gx_rules.specs.AtCoordinator.is_refused r.coord g (on_abort r.coord.table g) (r.marks ++ f) (refusal_of fault)))) (sym (ap (fault_mark g (next_cid w)) h.1.1))
          (faults-does r R h.0 h.1.0 h.1.1 fault h.1.2)

  pub locked-does : Does script steps c ev (behind earlier (goes_on_locked script c1 g line))
  locked-does = goes-does _ (reads-for script steps ev c c1 s g x n B commands line earlier o xb xp busy cmd owns none cid past line refl cmd) (plan_of script.segments (dist_of script.tables (table_of line)) g (next_cid w) line) refl

-- WITH ITS TABLE'S LOCK
module _ (script : Script) (steps : List Step) (ev : Event) (exempt : (A : Type 0) → UnlessStart ev A) (c c1 : Coord) (s : SessionId) (g : Gxid) (x : Session) (n : ℕ) (B : Block) (commands : ℕ) (line : Stmt) (earlier : List Mark)
    (o : Under script steps c ev c1 s g (work_of c1 g) x n (state_in B commands) (is_alone B pending.Command) line earlier)
    (xb : x.state.block ≡ B) (xp : x.state.pending ≡ pending.Command) (busy : is_busy B pending.Command ≡ true) (cmd : is_command (state_in B commands) line ≡ true)
    (owns : Owns s commands (marks_in steps ++ earlier) c1.table.next.0 B g (work_of c1 g)) (none : (work_of c1 g).command ≡ None) (free : (work_of c1 g).waiting ≡ None) (cid : cid_of (state_in B commands) ≡ next_cid (work_of c1 g))
    (past : Past c1 (marks_in steps ++ earlier)) (unsent : is_sent (marks_in steps ++ earlier) g (next_cid (work_of c1 g)) ≡ false)
    (roots : (m : Command) (v : Work) (ns : List Mark) → m.stmt ≡ line → m.cid ≡ next_cid (work_of c1 g) → v.last ≡ (work_of c1 g).last + 1 → v.command ≡ Some m → v.waiting ≡ None → Roots script s ((marks_in steps ++ earlier) ++ ns) B pending.Command x.lines g v)
    (unawaited : (k : Cid) (i : Node) (level : Level) → IsAwaited (c.works g.0) k i level → ⊥) where
  module _ (locks : Locks) (wanted : Claim) where
    abbrev held : Coord
    held = record c1 { locks = locks }

    abbrev hold : Mark
    hold = hold_mark the_coordinator wanted

    seam-held : marks_in steps ++ (earlier ++ hold ∷ []) ≡ (marks_in steps ++ earlier) ++ hold ∷ []
    seam-held = sym (append_assoc (marks_in steps) earlier (hold ∷ []))

    under-held : Under script steps c ev held s g (work_of c1 g) x n (state_in B commands) (is_alone B pending.Command) line (earlier ++ hold ∷ [])
    under-held =
        record {
          work = o.work;
          works = o.works;
          sessions = o.sessions;
          home = o.home;
          its = o.its;
          lines = o.lines;
          next = o.next;
          drawn = o.drawn;
          whose = o.whose;
          ends = o.ends;
          alone = o.alone;
          at = at-calm script steps ev s line n (state_in B commands) (is_alone B pending.Command) (Some g) earlier (hold ∷ []) o.at (tt, tt);
          has = o.has;
          running = subst (λ m. is_ended m g ≡ false) (sym seam-held) (ended-more (marks_in steps ++ earlier) (hold ∷ []) g o.running refl);
          of = each_append (IsOf s.0 g.0) earlier (hold ∷ []) o.of (tt, tt);
          legal = λ later. marks-append (Given script) steps ev [] earlier (hold ∷ []) later (o.legal (hold ∷ later)) (λ r. tt, tt);
          rests = λ later. marks-append (Rest script) steps ev [] earlier (hold ∷ []) later (o.rests (hold ∷ later)) (tt, tt);
        }

    pub held-does : Does script steps c ev (behind earlier (behind (hold ∷ []) (goes_on_locked script held g line)))
    held-does =
        subst (λ m. Does script steps c ev (record (goes_on_locked script held g line) { marks = m })) (append_assoc earlier (hold ∷ []) (goes_on_locked script held g line).marks)
        (locked-does script steps ev exempt c held s g x n B commands line (earlier ++ hold ∷ []) under-held xb xp busy cmd
        (subst (λ m. Owns s commands m c1.table.next.0 B g (work_of c1 g)) (sym seam-held) (owns-more script s commands (marks_in steps ++ earlier) (hold ∷ []) c1.table.next.0 c1.table.next.0 B g (work_of c1 g) owns (same-le c1.table.next.0) started refl refl))
        none free cid
        (subst (λ m. Past held m) (sym seam-held) (past-still c1 held (marks_in steps ++ earlier) (hold ∷ []) past refl (tt, tt)))
        (subst (λ m. is_sent m g (next_cid (work_of c1 g)) ≡ false) (sym seam-held) (unsent-more (marks_in steps ++ earlier) (hold ∷ []) g (next_cid (work_of c1 g)) unsent refl))
        (λ m v ns a b d e f. subst (λ ms. Roots script s ms B pending.Command x.lines g v) (ap (λ ms. ms ++ ns) (sym seam-held)) (subst (λ ms. Roots script s ms B pending.Command x.lines g v) (sym (append_assoc (marks_in steps ++ earlier) (hold ∷ []) ns)) (roots m v (hold ∷ ns) a b d e f)))
        unawaited)
      where
        same-le : (a : ℕ) → a ≤ a
        same-le a = omega arith

        started : started_after s None ((marks_in steps ++ earlier) ++ hold ∷ []) ≡ started_after s None (marks_in steps ++ earlier)
        started = (said-calm script s (marks_in steps ++ earlier) (hold ∷ []) (answer_count s (marks_in steps ++ earlier)) (state_of script s (marks_in steps ++ earlier)) (is_begun s (marks_in steps ++ earlier)) (started_after s None (marks_in steps ++ earlier)) (record { answered = refl; state = refl; begun = refl; started = refl }) (tt, tt)).started

  -- OR IT WAITS
  module _ (wanted : Claim) (held_up_roots : (v : Work) (ns : List Mark) → v.last ≡ (work_of c1 g).last → v.command ≡ None → v.waiting ≡ Some line → Roots script s ((marks_in steps ++ earlier) ++ ns) B pending.Command x.lines g v) where
    abbrev late : CoordTurn
    late = waits_for c1 g line wanted

    abbrev tail : List Mark
    tail = wait_mark the_coordinator wanted ∷ []

    abbrev held_work : Work
    held_work = record (work_of c1 g) { waiting = Some line }

    seam-late : (marks_in steps ++ earlier) ++ tail ≡ marks_in steps ++ (earlier ++ tail)
    seam-late = append_assoc (marks_in steps) earlier tail

    at-late : AtLine script steps ev s line n (state_in B commands) (is_alone B pending.Command) (Some g) (earlier ++ tail)
    at-late = at-calm script steps ev s line n (state_in B commands) (is_alone B pending.Command) (Some g) earlier tail o.at (tt, tt)

    work-now : late.coord.works g.0 ≡ held_work
    work-now = ap (λ q. if q then held_work else c1.works g.0) (eqb-self g.0)

    no-command : (late.coord.works g.0).command ≡ None
    no-command = ap (λ (v : Work). v.command) work-now ∙ none

    owns-late : Owns s commands (marks_in steps ++ (earlier ++ tail)) c1.table.next.0 B g held_work
    owns-late =
        let z = owns-more script s commands (marks_in steps ++ earlier) tail c1.table.next.0 c1.table.next.0 B g (work_of c1 g) owns (same-le c1.table.next.0) (ap (started_after s None) seam-late ∙ at-late.said.started ∙ sym owns.started) refl refl in
        let v = subst (λ m. Owns s commands m c1.table.next.0 B g (work_of c1 g)) seam-late z in
        record { home = v.home; started = v.started; level = v.level; drawn = v.drawn; running = v.running; counted = v.counted; unsnapped = v.unsnapped; snapshot = v.snapshot }
      where
        same-le : (a : ℕ) → a ≤ a
        same-le a = omega arith

    there : Stands script s (marks_in steps ++ (earlier ++ tail)) c1.table.next.0 B pending.Command x.lines g held_work
    there =
        record {
          commands = commands;
          answered = ap (λ i. i + 1) at-late.said.answered ∙ sym o.lines;
          state = at-late.said.state;
          begun = at-late.said.begun;
          sound = sounds B busy;
          owns = λ h. (
            owns-late,
            inr (line, refl, none, ap (λ i. stmt_of s i script.lines) o.lines ∙ o.at.is_line, cmd, ap (λ (i : Cid). i.0) cid),
            subst (λ m. Roots script s m B pending.Command x.lines g held_work) seam-late (held_up_roots held_work tail refl none refl),
          );
        }
      where
        sounds : (q : Block) → is_busy q pending.Command ≡ true → is_sound q pending.Command ≡ true
        sounds block.Outside h = refl
        sounds (block.Open l) h = refl
        sounds block.Failed h = absurd (false-true h)

    at_x : Stands script s (marks_in steps ++ (earlier ++ tail)) c1.table.next.0 B pending.Command x.lines g (late.coord.works g.0) → Stands script s (marks_in steps ++ (earlier ++ tail)) c1.table.next.0 x.state.block x.state.pending x.lines x.transaction (late.coord.works x.transaction.0)
    at_x h =
        subst (λ q. Stands script s (marks_in steps ++ (earlier ++ tail)) c1.table.next.0 q x.state.pending x.lines x.transaction (late.coord.works x.transaction.0)) (sym xb)
        (subst (λ q. Stands script s (marks_in steps ++ (earlier ++ tail)) c1.table.next.0 B q x.lines x.transaction (late.coord.works x.transaction.0)) (sym xp)
        (subst (λ (q : Gxid). Stands script s (marks_in steps ++ (earlier ++ tail)) c1.table.next.0 B pending.Command x.lines q (late.coord.works q.0)) (sym o.its) h))

    pub waits-does : Does script steps c ev (behind earlier late)
    waits-does =
        record {
          alters = record {
            s = s.0;
            g = g.0;
            x = x;
            sessions = o.sessions;
            works = λ j h. ap (λ q. if q then held_work else c1.works j) h ∙ o.works j h;
            next = o.next;
            whose = o.whose;
            of = each_append (IsOf s.0 g.0) earlier tail o.of (tt, tt);
            fresh = of-fresh s.0 g.0 _ (earlier ++ tail) o.drawn (each_append (IsOf s.0 g.0) earlier tail o.of (tt, tt));
            alone = o.alone;
            starts = o.at.starts ∙ sym o.lines;
            stands = inl (o.ends, at_x (subst (λ v. Stands script s (marks_in steps ++ (earlier ++ tail)) c1.table.next.0 B pending.Command x.lines g v) (sym work-now) there));
            outs = tt;
            orders = λ h. subst (CommandIs script (marks_in steps ++ (earlier ++ tail))) (sym no-command) tt;
            gathers = λ h. subst (GathersIn script (HeardNow steps ev) g) (sym no-command) tt;
            owned = λ h. own-none g (late.coord.works g.0) no-command;
            sent = tt;
            keeps = λ k i level a. absurd (unawaited k i level a);
          };
          legal = λ later. marks-append (Given script) steps ev [] earlier tail later (o.legal (tail ++ later)) (λ r. tt, tt);
          rest = λ t later. marks-append (Rest script) steps ev [] earlier tail later (o.rests (tail ++ later)) (tt, tt);
        }

  pub dispatch-does : ((v : Work) (ns : List Mark) → v.last ≡ (work_of c1 g).last → v.command ≡ None → v.waiting ≡ Some line → Roots script s ((marks_in steps ++ earlier) ++ ns) B pending.Command x.lines g v) → Does script steps c ev (behind earlier (dispatches script c1 g line))
  dispatch-does held_up_roots =
      dispatch-ways (λ t. Does script steps c ev (behind earlier t)) script c1 g line (λ e. locked-does script steps ev exempt c c1 s g x n B commands line earlier o xb xp busy cmd owns none free cid past unsent roots unawaited)
      (λ wanted e f. held-does (with_hold c1.locks wanted) wanted) (λ wanted e f. waits-does wanted held_up_roots)
