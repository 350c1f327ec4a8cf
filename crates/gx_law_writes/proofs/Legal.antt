-- Each write of a segment's step is legal at its point.
use Rattle.std.proofs.Common.{◌≡◌, ◌≤◌, ◌<◌, ◌⊎◌, inl, inr, ℕ, ◌+◌, List, [], ◌∷◌, ◌++◌, Option, Some, Bool, true, false, refl, subst, ◌∙◌, ◌||◌, ◌&&◌, arith, eqb, zero, suc}
use Rattle.std.proofs.lemmas.Bool.Decides.{nat_tests}
use Rattle.std.proofs.lemmas.Bool.{and_from, or_from, or_left, or_right}
use Rattle.gx_lemmas.proofs.Options.{some-same}
use Rattle.gx_lemmas.proofs.Numbers.{eqb-self}
use Rattle.gx_ids.specs.declared.ids.Cid.{Cid}
use Rattle.gx_ids.specs.declared.ids.Gxid.{Gxid}
use Rattle.gx_ids.specs.declared.ids.Node.{Node}
use Rattle.gx_ids.specs.declared.ids.SessionId.{SessionId}
use Rattle.gx_ids.specs.declared.ids.Table.{Table}
use Rattle.gx_ids.specs.declared.rid.Rid.{Rid}
use Rattle.gx_tree.specs.declared.expr.Expr.{Expr}
use Rattle.gx_tree.specs.declared.row.KeyedRow.{KeyedRow}
use Rattle.gx_tree.specs.declared.slice.Slice.TheVariants as slice
use Rattle.gx_tree.specs.declared.stmt.Level.{Level}
use Rattle.gx_tree.specs.declared.stmt.Level.TheVariants.{ReadCommitted, RepeatableRead}
use Rattle.gx_tree.specs.declared.stmt.Stmt.{Stmt}
use Rattle.gx_tree.specs.declared.stmt.Stmt.TheVariants as stmt
use Rattle.gx_tree.specs.declared.value.Value.{Value}
use Rattle.gx_dsnap.specs.declared.snapshot.Snapshot.{Snapshot}
use Rattle.gx_waits.specs.declared.claim.Claim.{Claim}
use Rattle.gx_msg.specs.declared.message.Out.{Out}
use Rattle.gx_script.specs.declared.Script.{Script}
use Rattle.gx_script.specs.declared.state.Block.{Block}
use Rattle.gx_script.specs.declared.state.Block.TheVariants as block
use Rattle.gx_script.specs.declared.state.Pending.TheVariants as pending
use Rattle.gx_store.specs.declared.event.Event.{Event}
use Rattle.gx_store.specs.declared.mark.Mark.{Mark}
use Rattle.gx_store.specs.declared.mark.Mark.TheVariants as mark
use Rattle.gx_store.specs.declared.run.Step.{Step}
use Rattle.gx_store.specs.Commands.{IsUnderWay, has_own_snapshot}
use Rattle.gx_store.specs.Lines.{level_of, stmt_of}
use Rattle.gx_store.specs.Marks.{has_snapshot, is_aborted, is_ended, is_same_rid, is_snapped, is_written}
use Rattle.gx_store.specs.Points.{Point, marks_in, starts_by}
use Rattle.gx_store.specs.Writes.{IsInserted, LegalWrite}
use Rattle.gx_store.proofs.Marks.{has_snapshot-append, is_aborted-append, is_ended-append, is_snapped-append, is_written-append}
use Rattle.gx_store.proofs.Rows.{same_rid}
use Rattle.gx_rules.specs.Locks.{hold_mark}
use Rattle.gx_rules.specs.Machine.{World}
use Rattle.gx_rules.specs.Sending.{counted, numbered}
use Rattle.gx_law_order.proofs.Lists.{each_append}
use Rattle.gx_law_order.specs.Lists.{Each}
use Rattle.gx_law_order.specs.Orders.{IsOrder, IsReadBy, IsServed, level_by, level_of_began}
use Rattle.gx_store.specs.Language.{AreLinesNumbered}
use Rattle.gx_law_order.specs.Scanned.{began_from, command_at, stmt_of_command}
use Rattle.gx_law_order.specs.Alive.{WasUnderWay}
use Rattle.gx_law_order.specs.Rest.{EachMark}
use Rattle.gx_law_order.specs.Standing.{IsFirst, is_busy, state_in}
use Rattle.gx_law_order.proofs.Said.{CalmFor}
use Rattle.gx_law_order.specs.Standings.{gx}
use Rattle.gx_law_writes.specs.Homes.{IsPlaced, IsPlacedMark}
use Rattle.gx_law_writes.specs.Writes.{WriteLegal}
use Rattle.gx_law_writes.proofs.Alive.{Late, Live, is-late, live-runs, live-snapped}
use Rattle.gx_law_writes.proofs.Placed.{IsPlacedRow, same-place}
use Rattle.gx_law_writes.proofs.Turns.{NoWrite}

-- MARKS THAT WRITE NOTHING
no-write-legal : (script : Script) (point : Point) (m : Mark) → NoWrite m → WriteLegal script point m
no-write-legal script point (mark.Write g c n t r x) e = absurd e
no-write-legal script point (mark.Skip g c r) e = absurd e
no-write-legal script point m e = tt

pub no-writes-legal : (script : Script) (steps : List Step) (e : Event) (earlier ms later : List Mark) → Each NoWrite ms → EachMark (WriteLegal script) steps e earlier ms later
no-writes-legal script steps e earlier [] later h = tt
no-writes-legal script steps e earlier (m ∷ ms) later h = (no-write-legal script (record { steps = steps; event = e; earlier = earlier; later = ms ++ later }) m h.0, no-writes-legal script steps e (earlier ++ m ∷ []) ms later h.1)

pub sent-no-write : (f : ℕ → ℕ) (outs : List Out) → Each NoWrite (numbered f outs)
sent-no-write f [] = tt
sent-no-write f (o ∷ outs) = (tt, sent-no-write (counted f o) outs)

-- where a row is written, its INSERT has run: the commands from this number on have still to run at the node
abbrev pub IsPastMark : (ℕ → ℕ → ℕ) → Mark → Type 0
IsPastMark nexts (mark.Write g c n t r x) = r.cid.0 < nexts n.0 r.gxid.0
IsPastMark nexts m = Unit {0}

-- the same of a segment's own marks
abbrev pub IsPastHere : (ℕ → ℕ) → Node → Mark → Type 0
IsPastHere nexts node (mark.Write g c n t r x) = (n ≡ node) × (r.cid.0 < nexts r.gxid.0)
IsPastHere nexts node m = Unit {0}

-- a row isn't written before its INSERT runs: each write of it stands at its node, where its INSERT has run
module _ (script : Script) (ms : List Mark) (nexts : ℕ → ℕ → ℕ) (node : Node) (table : Table) (rid : Rid) (image : Option (List Value)) (p : IsPlaced script ms node table rid image) (fresh : nexts node.0 rid.gxid.0 ≤ rid.cid.0) where
  beyond : (a b : ℕ) → a ≤ b → b < a → ⊥
  beyond a b x y = omega arith

  pub fresh-row : (xs : List Mark) → Each (IsPlacedMark script ms) xs → Each (IsPastMark nexts) xs → is_written xs rid ≡ false
  fresh-row [] e f = refl
  fresh-row (mark.Write h d m u r x ∷ xs) e f = or_from (is_same_rid r rid) (is_written xs rid) (by_test (is_same_rid r rid) refl) (fresh-row xs e.1 f.1)
    where
      clash : is_same_rid r rid ≡ true → ⊥
      clash q =
          let there = same-place script ms node m table u rid image x p (subst (λ (z : Rid). IsPlaced script ms m u z x) (same_rid r rid q) e.0) in
          let past = subst (λ (z : Rid). z.cid.0 < nexts m.0 z.gxid.0) (same_rid r rid q) f.0 in
          beyond (nexts node.0 rid.gxid.0) rid.cid.0 fresh (subst (λ (z : Node). rid.cid.0 < nexts z.0 rid.gxid.0) there past)

      by_test : (b : Bool) → is_same_rid r rid ≡ b → b ≡ false
      by_test true q = absurd (clash q)
      by_test false q = refl
  fresh-row (m ∷ xs) e f = fresh-row xs e.1 f.1

-- WRITES OF ONE STEP
-- marks of the step before the row of this ordinal
pub record Behind (g : Gxid) (c : Cid) (k : ℕ) (earlier : List Mark) : Type 0 where
  pub calm : (s : SessionId) → Each (CalmFor s) earlier
  pub running : is_ended earlier g ≡ false
  pub unwritten : (rid : Rid) → k ≤ rid.ordinal → is_written earlier rid ≡ false

pub behind-none : (g : Gxid) (c : Cid) → Behind g c 1 []
behind-none g c = record { calm = λ s. tt; running = refl; unwritten = λ rid l. refl }

pub behind-next : (g : Gxid) (c : Cid) (k : ℕ) (earlier : List Mark) (node : Node) (table : Table) (row : KeyedRow) → Behind g c k earlier → k ≤ row.rid.ordinal → Behind g c (row.rid.ordinal + 1) (earlier ++ mark.Write g c node table row.rid (Some row.row) ∷ [])
behind-next g c k earlier node table row b l =
    record {
      calm = λ s. each_append (CalmFor s) earlier (write ∷ []) (b.calm s) (tt, tt);
      running = is_ended-append earlier (write ∷ []) g ∙ or_from (is_ended earlier g) false b.running refl;
      unwritten = λ rid m. is_written-append earlier (write ∷ []) rid ∙ or_from (is_written earlier rid) (is_same_rid row.rid rid || false) (b.unwritten rid (le-trans l m)) (or_from (is_same_rid row.rid rid) false (apart row.rid rid m) refl);
    }
  where
    write : Mark
    write = mark.Write g c node table row.rid (Some row.row)

    le-trans : {a b d : ℕ} → a ≤ b → b + 1 ≤ d → a ≤ d
    le-trans x y = omega arith

    apart : (a b : Rid) → a.ordinal + 1 ≤ b.ordinal → is_same_rid a b ≡ false
    apart a b m = three (eqb a.gxid.0 b.gxid.0) (eqb a.cid.0 b.cid.0) a.ordinal b.ordinal m
      where
        three : (p q : Bool) (i j : ℕ) → i + 1 ≤ j → (p && (q && eqb i j)) ≡ false
        three p q i j m = grind (arith, nat_tests)

-- a lock between them
pub behind-hold : (g : Gxid) (c : Cid) (k : ℕ) (earlier : List Mark) (node : Node) (wanted : Claim) → Behind g c k earlier → Behind g c k (earlier ++ hold_mark node wanted ∷ [])
behind-hold g c k earlier node wanted b =
    record {
      calm = λ s. each_append (CalmFor s) earlier (hold ∷ []) (b.calm s) (tt, tt);
      running = is_ended-append earlier (hold ∷ []) g ∙ or_from (is_ended earlier g) false b.running refl;
      unwritten = λ rid l. is_written-append earlier (hold ∷ []) rid ∙ or_from (is_written earlier rid) false (b.unwritten rid l) refl;
    }
  where
    hold : Mark
    hold = hold_mark node wanted

-- one row of a command that is under way, or whose transaction has aborted
module _ (script : Script) (numbered : AreLinesNumbered [] script.lines) (w : World) (g : ℕ) (c : Cid) (node : Node) (table : Table) (tuples : List (List Expr)) (level : Level) (e : Event) (quiet : (s : SessionId) → starts_by s e ≡ 0)
    (of : stmt_of_command script (marks_in w.steps) (gx g) c ≡ Some (stmt.Insert table tuples)) (how : Live script w g c (stmt.Insert table tuples) level ⊎ Late script w g c) where
  abbrev now : List Mark
  now = marks_in w.steps

  pub row-legal : (earlier later : List Mark) (k : ℕ) (row : KeyedRow) → IsPlacedRow script (gx g) c node table tuples row → Behind (gx g) c k earlier → k ≤ row.rid.ordinal → is_written now row.rid ≡ false
      → LegalWrite script (record { steps = w.steps; event = e; earlier = earlier; later = later }) (gx g) c node table row.rid (Some row.row)
  row-legal earlier later k row p b l fresh = by_how how
    where
      once : is_written (now ++ earlier) row.rid ≡ false
      once = is_written-append now earlier row.rid ∙ or_from (is_written now row.rid) (is_written earlier row.rid) fresh (b.unwritten row.rid l)

      its : IsInserted script (now ++ earlier) (gx g) c table tuples node row.rid (Some row.row)
      its =
          record { own = p.row_is.own; counted = p.row_is.counted; tuple = p.row_is.tuple; among = p.row_is.among; values = row.row; constants = p.row_is.constants; written = refl; place = p.place; once = once }

      by_how : Live script w g c (stmt.Insert table tuples) level ⊎ Late script w g c → LegalWrite script (record { steps = w.steps; event = e; earlier = earlier; later = later }) (gx g) c node table row.rid (Some row.row)
      by_how (inl v) =
          inl (record {
            session = (w.coord.works g).session;
            stmt = stmt.Insert table tuples;
            level = level;
            runs = live-runs script w g c (stmt.Insert table tuples) e earlier later level v (quiet (w.coord.works g).session) (b.calm (w.coord.works g).session) b.running;
            snapped = live-snapped script w g c (stmt.Insert table tuples) e earlier later level v;
            writes = (refl, its);
          })
      by_how (inr v) =
          inr (record { stmt = stmt.Insert table tuples; late = is-late script w g c (stmt.Insert table tuples) e earlier later numbered v of; writes = (refl, its) })
