-- Lines keep what is known of transactions.
use Rattle.std.proofs.Common.{◌≡◌, ◌≤◌, ℕ, ◌+◌, ◌*◌, ◌^◌, List, [], ◌∷◌, ◌++◌, Option, Some, None, Result, Ok, Err, Bool, true, false, refl, sym, subst, ap, ◌∙◌, if◌then◌else◌, cond, ◌||◌, arith, eqb, fold, length, All, le_refl}
use Rattle.std.proofs.lemmas.List.Elements.{All-nil}
use Rattle.std.specs.Prelude.{option_map}
use Rattle.std.proofs.lemmas.Bool.{or_right}
use Rattle.gx_lemmas.proofs.Numbers.{eqb-self}
use Rattle.gx_ids.specs.declared.ids.Cid.{Cid}
use Rattle.gx_ids.specs.declared.ids.Gxid.{Gxid}
use Rattle.gx_ids.specs.declared.ids.Node.{Node}
use Rattle.gx_ids.specs.declared.ids.SessionId.{SessionId}
use Rattle.gx_tree.specs.declared.stmt.Level.{Level}
use Rattle.gx_tree.specs.declared.stmt.Level.TheVariants.{ReadCommitted}
use Rattle.gx_tree.specs.declared.stmt.Stmt.{Stmt}
use Rattle.gx_tree.specs.declared.stmt.Stmt.TheVariants as stmt
use Rattle.gx_dsnap.specs.declared.snapshot.Snapshot.{Snapshot}
use Rattle.gx_dtx.proofs.Finds.{find-with}
use Rattle.gx_dtx.proofs.Has.{has-with}
use Rattle.gx_dtx.specs.Nodes.{has, with_node}
use Rattle.gx_dtx.specs.Rules.{abort_found, begun, enlisted, with_live}
use Rattle.gx_dtx.specs.Table.{Table, find_txn, new_txn, xmin_of}
use Rattle.gx_dtx.specs.declared.txn.Txn.{Txn}
use Rattle.gx_locks.specs.Locks.{resumed}
use Rattle.gx_waits.specs.Claims.{is_clear}
use Rattle.gx_waits.specs.declared.claim.Claim.{Claim}
use Rattle.gx_meaning.specs.declared.fault.ArithFault.{ArithFault}
use Rattle.gx_meaning.specs.Plan.{plan_of}
use Rattle.gx_meaning.specs.declared.piece.Piece.{Piece}
use Rattle.gx_script.specs.declared.Script.{Script}
use Rattle.gx_script.specs.Session.{idle_outside, line_step}
use Rattle.gx_script.specs.declared.line_step.LineStep.{LineStep}
use Rattle.gx_script.specs.declared.line_step.LineStep.TheVariants as step
use Rattle.gx_script.specs.declared.state.Block.{Block}
use Rattle.gx_script.specs.declared.state.Block.TheVariants as block
use Rattle.gx_store.specs.Writes.{dist_of}
use Rattle.gx_rules.specs.AtCoordinator.{Reading, begins, dispatches, ends_in, enlisted_all, fault_mark, goes, goes_on_locked, goes_out, if_granted, next_cid, nodes_in, on_line, reads_by, reads_for, refusal_of, requests, resumes, rolls_back, starts, starts_line, table_of, takes_snapshot, waits_for}
use Rattle.gx_store.specs.Locks.{table_lock}
use Rattle.gx_rules.specs.Coordinators.{Command, Coord, Session, Work, new_work, session_of, with_state, with_work}
use Rattle.gx_rules.specs.Locks.{with_hold}
use Rattle.gx_rules.specs.Maps.{with_at}
use Rattle.gx_rules.specs.Snapshots.{snapshot_of}
use Rattle.gx_law_order.proofs.Closings.{live-at, set_live}
use Rattle.gx_law_order.proofs.Lines.{Asks, asks, begun-whole, idle-none}
use Rattle.gx_law_order.specs.Sessions.{Kept, is_nothing_in, is_open_in}
use Rattle.gx_law_order.specs.Stages.{IsWhole}
use Rattle.gx_law_order.proofs.Stages.{append-at}
use Rattle.gx_law_order.specs.Standings.{gx}
use Rattle.gx_coord.specs.Sound.{AreSound, IsSoundWork}
use Rattle.gx_coord.proofs.Keeping.{commits-sound, refused-sound, rolled-sound}
use Rattle.gx_coord.proofs.Sound.{itself, more-lines, none-sound, others, session-lines, sound-after, with_at-other, with_at-same}

pub sound-session : (c : Coord) (s : ℕ) (x : Session) → (c.sessions s).lines ≤ x.lines → AreSound c → AreSound (record c { sessions = with_at c.sessions s x })
sound-session c s x l e g = more-lines (c.works g) _ _ _ (session-lines c.sessions s x l (c.works g).session.0) (e g)

-- A TRANSACTION BEGINS
pub begins-sound : (c : Coord) (s : SessionId) (level : Level) → IsWhole c.table → AreSound c → AreSound (begins c s level)
begins-sound c s level w e =
    sound-after c (begins c s level) c.table.next.0 e
    (record {
      finds = λ j q. append-at j c.table.txns c.table.next.0 new_txn w.drawn ∙ ap (λ b. if b then Some new_txn else find_txn c.table (gx j)) q;
      works = λ j q. with_at-other c.works c.table.next.0 (new_work s level) j q;
      lines = session-lines c.sessions s.0 (record (session_of c s) { transaction = c.table.next }) (le_refl _);
      here = subst (λ (v : Work). IsSoundWork v ((begins c s level).sessions v.session.0).lines (find_txn (begun c.table) c.table.next)) (sym (with_at-same c.works c.table.next.0 (new_work s level))) (none-sound s level _ _);
    })

-- ITS SNAPSHOT
pub record Reads (c : Coord) (g : ℕ) (r : Reading) : Type 0 where
  pub whole : IsWhole r.coord.table
  pub sound : AreSound r.coord
  pub last : (r.coord.works g).last ≡ (c.works g).last
  pub waiting : (r.coord.works g).waiting ≡ (c.works g).waiting
  pub home : (r.coord.works g).session ≡ (c.works g).session
  pub sessions : (s : ℕ) → r.coord.sessions s ≡ c.sessions s

module _ (c : Coord) (whole : IsWhole c.table) (e : AreSound c) (g : ℕ) where
  as-it-is : (x : Option Snapshot) → Reads c g (record { coord = c; snapshot = x; marks = [] })
  as-it-is x = record { whole = whole; sound = e; last = refl; waiting = refl; home = refl; sessions = λ s. refl }

  kept-sound : (w : Work) (lines : ℕ) (t : Option Txn) (x : Option Gxid) (y : Option Snapshot) → IsSoundWork w lines t → IsSoundWork (record w { snapshot = y }) lines (option_map (set_live x) t)
  kept-sound w lines None x y h = record { writers = h.writers; among = h.among; command = h.command; last = h.last; room = h.room }
  kept-sound w lines (Some t) x y h = record { writers = h.writers; among = h.among; command = h.command; last = h.last; room = h.room }

  snapshot-taken : (cid : Cid) → Reads c g (takes_snapshot c (gx g) cid (c.works g))
  snapshot-taken cid =
      let x : Option Gxid = Some (xmin_of c.table) in
      let w : Work = record (c.works g) { snapshot = Rattle.gx_rules.specs.AtCoordinator.kept_at (c.works g).level (snapshot_of c.table) } in
      let a = live-at c.table g x whole in
      record {
        whole = a.whole;
        sound = sound-after c (takes_snapshot c (gx g) cid (c.works g)).coord g e
            (record {
              finds = others c.table (with_live c.table (gx g) x) g _ a;
              works = λ j q. with_at-other c.works g w j q;
              lines = λ j. le_refl _;
              here = subst (λ (v : Work). IsSoundWork v (c.sessions v.session.0).lines (find_txn (with_live c.table (gx g) x) (gx g))) (sym (with_at-same c.works g w))
                  (subst (λ t. IsSoundWork w (c.sessions (c.works g).session.0).lines t) (sym (itself c.table (with_live c.table (gx g) x) g _ a)) (kept-sound (c.works g) _ (find_txn c.table (gx g)) x _ (e g)));
            });
        last = ap (λ (v : Work). v.last) (with_at-same c.works g w);
        waiting = ap (λ (v : Work). v.waiting) (with_at-same c.works g w);
        home = ap (λ (v : Work). v.session) (with_at-same c.works g w);
        sessions = λ s. refl;
      }

  read-by : (cid : Cid) (x : Option Snapshot) → Reads c g (reads_by c (gx g) cid (c.works g) x)
  read-by cid None = snapshot-taken cid
  read-by cid (Some x) = as-it-is (Some x)

  read-for : (cid : Cid) (line : Stmt) → Reads c g (reads_for c (gx g) cid (c.works g) line)
  read-for cid (stmt.Lock table mode) = as-it-is None
  read-for cid (stmt.Begin level) = read-by cid (c.works g).snapshot
  read-for cid stmt.Commit = read-by cid (c.works g).snapshot
  read-for cid stmt.Rollback = read-by cid (c.works g).snapshot
  read-for cid (stmt.Select q) = read-by cid (c.works g).snapshot
  read-for cid (stmt.Insert t x) = read-by cid (c.works g).snapshot
  read-for cid (stmt.Update t x y) = read-by cid (c.works g).snapshot
  read-for cid (stmt.Delete t x) = read-by cid (c.works g).snapshot

-- ITS PIECES GO OUT
abbrev pub with_part : Node → Txn → Txn
with_part i t = record t { participants = with_node i t.participants }

abbrev with_nodes : List Node → List Node → List Node
with_nodes nodes ps = fold (λ qs i. with_node i qs) ps nodes

abbrev enlisted_in : List Node → Txn → Txn
enlisted_in nodes t = record t { participants = with_nodes nodes t.participants }

pub one-found : (d : Table) (g : ℕ) (i : Node) → find_txn (enlisted d (gx g) i) (gx g) ≡ option_map (with_part i) (find_txn d (gx g))
one-found d g i = find-with (gx g) (gx g) (with_part i) d.txns ∙ ap (λ b. cond b (option_map (with_part i) (find_txn d (gx g))) (find_txn d (gx g))) (eqb-self g)

in-turn : (i : Node) (is : List Node) (t : Option Txn) → option_map (enlisted_in is) (option_map (with_part i) t) ≡ option_map (enlisted_in (i ∷ is)) t
in-turn i is None = refl
in-turn i is (Some t) = refl

all-found : (nodes : List Node) (d : Table) (g : ℕ) → find_txn (enlisted_all d (gx g) nodes) (gx g) ≡ option_map (enlisted_in nodes) (find_txn d (gx g))
all-found [] d g = nothing (find_txn d (gx g))
  where
    nothing : (t : Option Txn) → t ≡ option_map (enlisted_in []) t
    nothing None = refl
    nothing (Some t) = refl
all-found (i ∷ is) d g = all-found is (enlisted d (gx g) i) g ∙ ap (option_map (enlisted_in is)) (one-found d g i) ∙ in-turn i is (find_txn d (gx g))

other-test : (d : Table) (g j : ℕ) (i : Node) → eqb j g ≡ false → find_txn (enlisted d (gx g) i) (gx j) ≡ find_txn d (gx j)
other-test d g j i e = find-with (gx g) (gx j) (with_part i) d.txns ∙ ap (λ b. cond b (option_map (with_part i) (find_txn d (gx g))) (find_txn d (gx j))) e

others-found : (nodes : List Node) (d : Table) (g j : ℕ) → eqb j g ≡ false → find_txn (enlisted_all d (gx g) nodes) (gx j) ≡ find_txn d (gx j)
others-found [] d g j e = refl
others-found (i ∷ is) d g j e = others-found is (enlisted d (gx g) i) g j e ∙ other-test d g j i e

stays-with : (i j : Node) (ps : List Node) → has j ps ≡ true → has j (with_node i ps) ≡ true
stays-with i j ps e = has-with j i ps ∙ or_right (eqb i.0 j.0) (has j ps) e

comes-with : (i j : Node) (ps : List Node) → eqb i.0 j.0 ≡ true → has j (with_node i ps) ≡ true
comes-with i j ps e = has-with j i ps ∙ left (eqb i.0 j.0) (has j ps) e
  where
    left : (a b : Bool) → a ≡ true → (a || b) ≡ true
    left a b q = grind arith

stays-in : (nodes ps : List Node) (j : Node) → has j ps ≡ true → has j (with_nodes nodes ps) ≡ true
stays-in [] ps j e = e
stays-in (i ∷ is) ps j e = stays-in is (with_node i ps) j (stays-with i j ps e)

comes-in : (nodes ps : List Node) (j : Node) → has j nodes ≡ true → has j (with_nodes nodes ps) ≡ true
comes-in [] ps j e = absurd (cc)
comes-in (i ∷ is) ps j e = by_test (eqb i.0 j.0) refl (comes-in is (with_node i ps) j)
  where
    left : (a b : Bool) → a ≡ false → (a || b) ≡ true → b ≡ true
    left a b n q = grind arith

    by_test : (b : Bool) → eqb i.0 j.0 ≡ b → (has j is ≡ true → has j (with_nodes is (with_node i ps)) ≡ true) → has j (with_nodes is (with_node i ps)) ≡ true
    by_test true q more = stays-in is (with_node i ps) j (comes-with i j ps q)
    by_test false q more = more (left (eqb i.0 j.0) (has j is) q e)

never : {B : Type 0} (o : Option Stmt) (line : Stmt) → o ≡ None → o ≡ Some line → B
never o line e f = absurd (cc)

sent-sound : (w : Work) (k : Command) (lines : ℕ) (nodes : List Node) (t : Option Txn) → IsSoundWork w lines t → k.parts ≡ [] → k.count ≡ 0 → k.awaited ≡ nodes → k.cid.0 ≤ lines → w.waiting ≡ None → IsSoundWork (record w { last = k.cid.0; command = Some k }) lines (option_map (enlisted_in nodes) t)
sent-sound w k lines nodes None h p n a l f =
    record {
      writers = h.writers;
      among = λ v j q. absurd (cc);
      command = record { fits = subst (λ ps. All (λ x. Rattle.gx_rules.specs.Fits.fits_part k.stmt x ≡ true) ps) (sym p) (All-nil _); count = none k.count (length k.parts) n; awaited = λ v j q. absurd (cc) };
      last = l;
      room = λ line q. never w.waiting line f q;
    }
  where
    none : (n m : ℕ) → n ≡ 0 → n ≤ 2 ^ 64 * m
    none n m e = subst (λ x. x ≤ 2 ^ 64 * m) (sym e) (omega arith)
sent-sound w k lines nodes (Some t) h p n a l f =
    record {
      writers = h.writers;
      among = λ v j q. stays-in nodes t.participants j (h.among v j q);
      command = record {
        fits = subst (λ ps. All (λ x. Rattle.gx_rules.specs.Fits.fits_part k.stmt x ≡ true) ps) (sym p) (All-nil _);
        count = none k.count (length k.parts) n;
        awaited = λ v j q. comes-in nodes t.participants j (subst (λ ns. has j ns ≡ true) a q);
      };
      last = l;
      room = λ line q. never w.waiting line f q;
    }
  where
    none : (n m : ℕ) → n ≡ 0 → n ≤ 2 ^ 64 * m
    none n m e = subst (λ x. x ≤ 2 ^ 64 * m) (sym e) (omega arith)

module _ (c : Coord) (g : ℕ) where
  out-sound : (r : Reading) → Reads c g r → (cid : Cid) (line : Stmt) (pieces : List Piece) → cid.0 ≤ (c.sessions (c.works g).session.0).lines → (c.works g).waiting ≡ None → AreSound (goes_out (gx g) cid line pieces r).coord
  out-sound r reads cid line pieces l f =
      let nodes : List Node = nodes_in pieces in
      let k : Command = record { stmt = line; cid = cid; orders = (goes_out (gx g) cid line pieces r).outs; awaited = nodes; count = 0; parts = [] } in
      let w : Work = record (r.coord.works g) { last = cid.0; command = Some k } in
      sound-after r.coord (goes_out (gx g) cid line pieces r).coord g reads.sound
      (record {
        finds = λ j q. others-found nodes r.coord.table g j q;
        works = λ j q. with_at-other r.coord.works g w j q;
        lines = λ j. le_refl _;
        here = subst (λ (v : Work). IsSoundWork v (r.coord.sessions v.session.0).lines (find_txn (enlisted_all r.coord.table (gx g) nodes) (gx g))) (sym (with_at-same r.coord.works g w))
            (subst (λ t. IsSoundWork w (r.coord.sessions (r.coord.works g).session.0).lines t) (sym (all-found nodes r.coord.table g))
            (sent-sound (r.coord.works g) k _ nodes (find_txn r.coord.table (gx g)) (reads.sound g) refl refl refl (subst (λ n. cid.0 ≤ n) (sym (ap (λ (x : Session). x.lines) (reads.sessions _ ∙ ap (λ (i : SessionId). c.sessions i.0) reads.home))) l) (reads.waiting ∙ f)));
      })

  gone-sound : (r : Reading) → Reads c g r → (cid : Cid) (line : Stmt) (plan : Result (List Piece) ArithFault) → cid.0 ≤ (c.sessions (c.works g).session.0).lines → (c.works g).waiting ≡ None → AreSound (goes (gx g) cid line r plan).coord
  gone-sound r reads cid line (Ok pieces) l f = out-sound r reads cid line pieces l f
  gone-sound r reads cid line (Err x) l f = refused-sound r.coord reads.whole reads.sound g (abort_found (gx g) (find_txn r.coord.table (gx g))) (r.marks ++ fault_mark (gx g) cid line) (refusal_of x)

  locked-sound : IsWhole c.table → AreSound c → (script : Script) (line : Stmt) → (c.works g).last + 1 ≤ (c.sessions (c.works g).session.0).lines → (c.works g).waiting ≡ None → AreSound (goes_on_locked script c (gx g) line).coord
  locked-sound whole e script line l f =
      gone-sound _ (read-for c whole e g (next_cid (c.works g)) line) (next_cid (c.works g)) line (plan_of script.segments (dist_of script.tables (table_of line)) (gx g) (next_cid (c.works g)) line) l f

-- ITS TABLE'S LOCK
waits-sound : (w : Work) (lines : ℕ) (t : Option Txn) (line : Option Stmt) → ((other : Stmt) → line ≡ Some other → w.last + 1 ≤ lines) → IsSoundWork w lines t → IsSoundWork (record w { waiting = line }) lines t
waits-sound w lines t line r h = record { writers = h.writers; among = h.among; command = h.command; last = h.last; room = r }

waiting-sound : (c : Coord) (g : ℕ) → AreSound c → (line : Stmt) (wanted : Claim) → (c.works g).last + 1 ≤ (c.sessions (c.works g).session.0).lines → AreSound (waits_for c (gx g) line wanted).coord
waiting-sound c g e line wanted l =
    let w : Work = record (c.works g) { waiting = Some line } in
    sound-after c (waits_for c (gx g) line wanted).coord g e
    (record {
      finds = λ j q. refl;
      works = λ j q. with_at-other c.works g w j q;
      lines = λ j. le_refl _;
      here = subst (λ (v : Work). IsSoundWork v (c.sessions v.session.0).lines (find_txn c.table (gx g))) (sym (with_at-same c.works g w)) (waits-sound (c.works g) _ _ (Some line) (λ other q. l) (e g));
    })

request-sound : (c : Coord) (g : ℕ) → IsWhole c.table → AreSound c → (script : Script) (line : Stmt) → (c.works g).last + 1 ≤ (c.sessions (c.works g).session.0).lines → (c.works g).waiting ≡ None → (o : Option Claim) → AreSound (requests script c (gx g) line o).coord
request-sound c g whole e script line l f None = locked-sound c g whole e script line l f
request-sound c g whole e script line l f (Some wanted) = by_test (is_clear c.locks.holds c.locks.waits wanted)
  where
    by_test : (b : Bool) → AreSound (if_granted script c (gx g) line wanted b).coord
    by_test true = locked-sound (record c { locks = with_hold c.locks wanted }) g whole e script line l f
    by_test false = waiting-sound c g e line wanted l

pub dispatch-sound : (c : Coord) (g : ℕ) → IsWhole c.table → AreSound c → (script : Script) (line : Stmt) → (c.works g).last + 1 ≤ (c.sessions (c.works g).session.0).lines → (c.works g).waiting ≡ None → AreSound (dispatches script c (gx g) line).coord
dispatch-sound c g whole e script line l f = request-sound c g whole e script line l f (table_lock script (gx g) line)

-- and goes on
pub resume-sound : (c : Coord) (g : ℕ) → IsWhole c.table → AreSound c → (script : Script) (o : Option Claim) (waiting : Option Stmt) → (c.works g).waiting ≡ waiting → AreSound (resumes script c (gx g) o waiting).coord
resume-sound c g whole e script (Some wanted) (Some line) q =
    let w : Work = record (c.works g) { waiting = None } in
    let d : Coord = with_work (record c { locks = resumed c.locks (gx g) (Some wanted) }) (gx g) w in
    locked-sound d g whole
    (sound-after c d g e
    (record {
      finds = λ j q. refl;
      works = λ j q. with_at-other c.works g w j q;
      lines = λ j. le_refl _;
      here = subst (λ (v : Work). IsSoundWork v (c.sessions v.session.0).lines (find_txn c.table (gx g))) (sym (with_at-same c.works g w)) (waits-sound (c.works g) _ _ None (λ other r. absurd (cc)) (e g));
    }))
    script line
    (subst (λ (v : Work). v.last + 1 ≤ (c.sessions v.session.0).lines) (sym (with_at-same c.works g w)) ((e g).room line q))
    (ap (λ (v : Work). v.waiting) (with_at-same c.works g w))
resume-sound c g whole e script (Some wanted) None q = e
resume-sound c g whole e script None waiting q = e

-- A SESSION'S NEXT LINE
module _ (script : Script) (c : Coord) (kept : Kept script c) (e : AreSound c) (s : SessionId) where
  abbrev pub moved : LineStep → Session
  moved asked = record (session_of c s) { lines = (session_of c s).lines + 1; state = Rattle.gx_script.specs.Session.after_line (session_of c s).state.block asked }

  abbrev pub now : LineStep → Coord
  now asked = starts_line c s asked

  started : (asked : LineStep) → AreSound (now asked)
  started asked = sound-session c s.0 (moved asked) (more (session_of c s).lines) e
    where
      more : (n : ℕ) → n ≤ n + 1
      more n = omega arith

  pub session-now : (asked : LineStep) → session_of (now asked) s ≡ moved asked
  session-now asked = with_at-same c.sessions s.0 (moved asked)

  begun-now : (asked : LineStep) (level : Level) → AreSound (begins (now asked) s level)
  begun-now asked level = begins-sound (now asked) s level kept.whole (started asked)

  -- its own transaction is the first command's
  alone-room : (asked : LineStep) → ((begins (now asked) s ReadCommitted).works c.table.next.0).last + 1 ≤ ((begins (now asked) s ReadCommitted).sessions ((begins (now asked) s ReadCommitted).works c.table.next.0).session.0).lines
  alone-room asked =
      let d : Coord = begins (now asked) s ReadCommitted in
      let x : Session = record (session_of (now asked) s) { transaction = c.table.next } in
      subst (λ (v : Work). v.last + 1 ≤ (d.sessions v.session.0).lines) (sym (with_at-same c.works c.table.next.0 (new_work s ReadCommitted)))
      (subst (λ (y : Session). 0 + 1 ≤ y.lines) (sym (with_at-same (now asked).sessions s.0 x)) (subst (λ (y : Session). 0 + 1 ≤ y.lines) (sym (session-now asked)) (one (session_of c s).lines)))
    where
      one : (n : ℕ) → 0 + 1 ≤ n + 1
      one n = omega arith

  block-room : (asked : LineStep) → is_open_in (session_of c s).state.block ≡ true → (c.works (session_of (now asked) s).transaction.0).last + 1 ≤ ((now asked).sessions (c.works (session_of (now asked) s).transaction.0).session.0).lines
  block-room asked opened =
      let g : ℕ = (session_of c s).transaction.0 in
      let home : (c.works g).session.0 ≡ s.0 = ((kept.placed s.0).stands opened).1 in
      subst (λ (x : Session). (c.works x.transaction.0).last + 1 ≤ ((now asked).sessions (c.works x.transaction.0).session.0).lines) (sym (session-now asked))
      (subst (λ n. (c.works g).last + 1 ≤ ((now asked).sessions n).lines) (sym home) (subst (λ (x : Session). (c.works g).last + 1 ≤ x.lines) (sym (session-now asked))
      (more (c.works g).last (session_of c s).lines (subst (λ n. (c.works g).last ≤ (c.sessions n).lines) home (e g).last))))
    where
      more : (m n : ℕ) → m ≤ n → m + 1 ≤ n + 1
      more m n l = omega (arith, l)

  -- no statement of the block waits
  block-free : (asked : LineStep) → is_nothing_in (session_of c s).state.pending ≡ true → is_open_in (session_of c s).state.block ≡ true → (c.works (session_of (now asked) s).transaction.0).waiting ≡ None
  block-free asked idle opened = subst (λ (x : Session). (c.works x.transaction.0).waiting ≡ None) (sym (session-now asked)) (idle-none c s kept opened idle).1

  line-sound : is_nothing_in (session_of c s).state.pending ≡ true → (line : Stmt) (asked : LineStep) → Asks (session_of c s).state.block asked → AreSound (on_line script (now asked) s line asked).coord
  line-sound idle line (step.Answer plain) a = started (step.Answer plain)
  line-sound idle line step.InFailedBlock a = started step.InFailedBlock
  line-sound idle line step.NotInBlock a = started step.NotInBlock
  line-sound idle line (step.BeginBlock level) a = begun-now (step.BeginBlock level) level
  line-sound idle line step.CommitBlock a = commits-sound (now step.CommitBlock) kept.whole (started step.CommitBlock) (session_of (now step.CommitBlock) s).transaction.0
  line-sound idle line step.RollbackBlock a =
      let d : Coord = now step.RollbackBlock in
      let g : Gxid = (session_of d s).transaction in
      rolled-sound d kept.whole (started step.RollbackBlock) g.0 (Rattle.gx_rules.specs.AtCoordinator.answer_mark d s Rattle.gx_store.specs.declared.answer.StmtAnswer.TheVariants.Rollback ∷ []) (abort_found g (find_txn d.table g))
  line-sound idle line (step.Command true) a = dispatch-sound (begins (now (step.Command true)) s ReadCommitted) c.table.next.0 (begun-whole c.table kept.whole) (begun-now (step.Command true) ReadCommitted) script line (alone-room (step.Command true)) (ap (λ (v : Work). v.waiting) (with_at-same c.works c.table.next.0 (new_work s ReadCommitted)))
  line-sound idle line (step.Command false) a = dispatch-sound (now (step.Command false)) (session_of (now (step.Command false)) s).transaction.0 kept.whole (started (step.Command false)) script line (block-room (step.Command false) a) (block-free (step.Command false) idle a)

  pub start-sound : is_nothing_in (session_of c s).state.pending ≡ true → (line : Option Stmt) → AreSound (starts script c s line).coord
  start-sound idle None = e
  start-sound idle (Some line) = line-sound idle line (line_step (session_of c s).state.block line) (asks (session_of c s).state.block line)

  pub end-sound : (b : Block) → AreSound (ends_in c s b).coord
  end-sound (block.Open level) =
      let d : Coord = with_state c s idle_outside in
      let g : Gxid = (session_of c s).transaction in
      rolled-sound d kept.whole (sound-session c s.0 (record (session_of c s) { state = idle_outside }) (le_refl _) e) g.0 [] (abort_found g (find_txn d.table g))
  end-sound block.Failed = sound-session c s.0 (record (session_of c s) { state = idle_outside }) (le_refl _) e
  end-sound block.Outside = e
