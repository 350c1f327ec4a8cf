-- Commands that go out, and what a transaction's commands come to.
use Rattle.std.proofs.Common.{◌≡◌, ℕ, ◌+◌, List, [], ◌∷◌, ◌++◌, Option, Some, None, Result, Ok, Err, Bool, true, false, refl, sym, subst, ap, ◌∙◌, if◌then◌else◌, ◌||◌, ◌&&◌, eqb, append-nil}
use Rattle.std.proofs.lemmas.Bool.{eqb-true}
use Rattle.std.proofs.lemmas.List.{append_assoc}
use Rattle.std.specs.Prelude.{map, nat_le, option_map}
use Rattle.gx_lemmas.proofs.Numbers.{eqb-self}
use Rattle.gx_lemmas.proofs.Tests.{and-false, and-true}
use Rattle.gx_ids.specs.declared.ids.Cid.{Cid}
use Rattle.gx_ids.specs.declared.ids.Gxid.{Gxid}
use Rattle.gx_ids.specs.declared.ids.Node.{Node}
use Rattle.gx_tree.specs.declared.part.Part.{Part as QueryPart}
use Rattle.gx_tree.specs.declared.stmt.Level.{Level}
use Rattle.gx_tree.specs.declared.stmt.Level.TheVariants.{ReadCommitted, RepeatableRead}
use Rattle.gx_tree.specs.declared.stmt.Stmt.{Stmt}
use Rattle.gx_tree.specs.declared.stmt.Stmt.TheVariants as stmt
use Rattle.gx_dsnap.specs.declared.snapshot.Snapshot.{Snapshot}
use Rattle.gx_dtx.specs.Nodes.{has, to_each, with_node, without}
use Rattle.gx_dtx.specs.Rules.{abort_found, aborts, enlisted, on_abort, turns}
use Rattle.gx_dtx.specs.Table.{Table, find_txn, horizon_of, xmin_of}
use Rattle.gx_dtx.specs.declared.phase.Phase.TheVariants as status
use Rattle.gx_dtx.specs.declared.txn.Txn.{Txn}
use Rattle.gx_meaning.specs.declared.fault.ArithFault.{ArithFault}
use Rattle.gx_msg.specs.declared.message.Message.TheVariants as message
use Rattle.gx_msg.specs.declared.message.Out.{Out}
use Rattle.gx_meaning.specs.Plan.{plan_of}
use Rattle.gx_meaning.specs.declared.piece.Piece.{Piece}
use Rattle.gx_script.specs.declared.Script.{Script}
use Rattle.gx_script.specs.declared.state.Block.{Block}
use Rattle.gx_script.specs.declared.state.Block.TheVariants.{Outside, Open, Failed}
use Rattle.gx_store.specs.declared.answer.Refused.{Refused}
use Rattle.gx_store.specs.declared.answer.StmtAnswer.TheVariants as told
use Rattle.gx_store.specs.declared.mark.Mark.{Mark}
use Rattle.gx_store.specs.declared.mark.Mark.TheVariants as mark
use Rattle.gx_store.specs.Marks.{is_aborted, is_committed}
use Rattle.gx_store.specs.Protocol.{decided_count, local_count}
use Rattle.gx_store.specs.Writes.{dist_of}
use Rattle.gx_rules.specs.AtCoordinator.{Reading, answer_mark, answer_of_command, answers, completes, dispatches, enlisted_all, fault_mark, goes, goes_on, goes_out, is_refused, kept_at, next_cid, nodes_in, orders_of, reads_by, reads_for, refusal_of, rolls_back, table_of, takes_done, takes_snapshot, unless_kept, with_done, writers_with, behind, goes_on_locked, if_granted, requests, resumes}
use Rattle.gx_store.specs.Locks.{table_lock}
use Rattle.gx_rules.specs.Coordinators.{Command, Coord, Work, session_of, with_work, work_of}
use Rattle.gx_rules.specs.Snapshots.{snapshot_of}
use Rattle.gx_law_order.proofs.Closings.{live-at, set_live}
use Rattle.gx_law_order.proofs.Lists.{each_append}
use Rattle.gx_law_order.specs.Lists.{Each}
use Rattle.gx_law_order.proofs.Stages.{At, left_of, txn-at}
use Rattle.gx_law_order.specs.Stages.{IsWhole}
use Rattle.gx_law_order.specs.Said.{IsDone, Said}
use Rattle.gx_law_order.specs.Standings.{Known, Part, at, gx, is_undecided, known_at, known_of, standing, standing_in, waits_in}
use Rattle.gx_law_order.specs.Standings.Standing.{Live}
use Rattle.gx_law_order.proofs.Counts.{NoEnd}
use Rattle.gx_law_order.proofs.Calls.{Mute, abort-led, becomes-calm, commits-ready, dropped-over, live-calm, live-can, live-there, mute-aborted, mute-committed, mute-decided, mute-fol, stands-as, unaborted, back-mute}
use Rattle.gx_law_order.proofs.Nodes.{AreApart, apart-with, each-has, has-with, has-without}
use Rattle.gx_law_order.proofs.Shifts.{Shift, is-sent, learn-shift, send-shift, sending, shift-same}
use Rattle.gx_law_order.proofs.Ways.{Agrees, AgreesIn, CommandOf, Fol, IsOrderOf, Led, Same, SaidOut, Stands, Way, Working, at-one, fol-no-part, rest-led, same-then, way-same, way-then}
use Rattle.gx_locks.specs.Locks.{Locks, resumed, wait_of}
use Rattle.gx_waits.specs.Claims.{is_clear}
use Rattle.gx_rules.specs.Locks.{release_marks, hold_mark, wait_mark, with_hold, with_wait}
use Rattle.gx_waits.specs.declared.claim.Claim.{Claim}
use Rattle.gx_store.specs.Refusals.{the_coordinator}

-- its commands run
pub record IsLive (c : Coord) (g : ℕ) : Type 0 where
  pub txn : Txn
  pub found : find_txn c.table (gx g) ≡ Some txn
  pub active : txn.phase ≡ status.Active

-- and none is under way
abbrev pub IsIdle : Coord → ℕ → Type 0
IsIdle c g = (i : ℕ) → waits_in (c.works g).command i ≡ false

pub each-unmap : {A B : Type 0} (P : B → Type 0) (f : A → B) (xs : List A) → Each P (map f xs) → Each (λ x. P (f x)) xs
each-unmap P f [] e = tt
each-unmap P f (x ∷ xs) e = (e.0, each-unmap P f xs e.1)

-- a constant's fault, of a transaction that hasn't aborted
fault-fol : (script : Script) (ms : List Mark) (g : Gxid) (cid : Cid) (line : Stmt) → is_aborted ms g ≡ false → Fol script ms (fault_mark g cid line)
fault-fol script ms g cid (stmt.Insert t x) e = ((refl, e), tt)
fault-fol script ms g cid (stmt.Begin level) e = tt
fault-fol script ms g cid stmt.Commit e = tt
fault-fol script ms g cid stmt.Rollback e = tt
fault-fol script ms g cid (stmt.Select q) e = tt
fault-fol script ms g cid (stmt.Update t x y) e = tt
fault-fol script ms g cid (stmt.Delete t x) e = tt
fault-fol script ms g cid (stmt.Lock t m) e = tt

fault-end : (g : Gxid) (cid : Cid) (line : Stmt) → Each NoEnd (fault_mark g cid line)
fault-end g cid (stmt.Insert t x) = (tt, tt)
fault-end g cid (stmt.Begin level) = tt
fault-end g cid stmt.Commit = tt
fault-end g cid stmt.Rollback = tt
fault-end g cid (stmt.Select q) = tt
fault-end g cid (stmt.Update t x y) = tt
fault-end g cid (stmt.Delete t x) = tt
fault-end g cid (stmt.Lock t m) = tt

-- ENLISTING
pub record Enlists (d u : Table) (g : ℕ) (t : Txn) : Type 0 where
  pub now : Txn
  pub phase : now.phase ≡ t.phase
  pub at : At d u g (Some now)

one-more : (d : Table) (g : ℕ) (i : Node) (t : Txn) → IsWhole d → find_txn d (gx g) ≡ Some t → Enlists d (enlisted d (gx g) i) g t
one-more d g i t w f =
    let a = txn-at d g (λ (x : Txn). record x { participants = with_node i x.participants }) w in
    record {
      now = record t { participants = with_node i t.participants };
      phase = refl;
      at = record { whole = record { first = a.whole.first; apart = a.whole.apart; drawn = a.whole.drawn }; next = refl; finds = λ h. a.finds h ∙ ap (λ o. if eqb h g then option_map (λ (x : Txn). record x { participants = with_node i x.participants }) o else find_txn d (gx h)) f };
    }

all-more : (nodes : List Node) (d : Table) (g : ℕ) (t : Txn) → IsWhole d → find_txn d (gx g) ≡ Some t → Enlists d (enlisted_all d (gx g) nodes) g t
all-more [] d g t w f = record { now = t; phase = refl; at = record { whole = w; next = refl; finds = λ h. by_test h (eqb h g) refl } }
  where
    by_test : (h : ℕ) (b : Bool) → eqb h g ≡ b → find_txn d (gx h) ≡ (if b then Some t else find_txn d (gx h))
    by_test h true e = ap (λ j. find_txn d (gx j)) (eqb-true h g e) ∙ f
    by_test h false e = refl
all-more (i ∷ is) d g t w f =
    let a = one-more d g i t w f in
    joined a (all-more is (enlisted d (gx g) i) g a.now a.at.whole (a.at.finds g ∙ ap (λ b. if b then Some a.now else find_txn d (gx g)) (eqb-self g)))
  where
    joined : (a : Enlists d (enlisted d (gx g) i) g t) → Enlists (enlisted d (gx g) i) (enlisted_all (enlisted d (gx g) i) (gx g) is) g a.now → Enlists d (enlisted_all (enlisted d (gx g) i) (gx g) is) g t
    joined a b =
        record {
          now = b.now;
          phase = b.phase ∙ a.phase;
          at = record { whole = b.at.whole; next = b.at.next ∙ a.at.next; finds = λ h. b.at.finds h ∙ by_test h (eqb h g) (a.at.finds h) };
        }
      where
        by_test : (h : ℕ) (q : Bool) → find_txn (enlisted d (gx g) i) (gx h) ≡ (if q then Some a.now else find_txn d (gx h)) → (if q then Some b.now else find_txn (enlisted d (gx g) i) (gx h)) ≡ (if q then Some b.now else find_txn d (gx h))
        by_test h true e = refl
        by_test h false e = e

module _ (script : Script) (P : ℕ → ℕ → Part) (c : Coord) (ms : List Mark) (s : Stands script P c ms) (whole : IsWhole c.table) (g : ℕ) (live : IsLive c g) where
  abbrev k : ℕ → Known
  k i = known_at c ms i g

  pub live-at-all : (i : ℕ) → (k i).at ≡ Live
  live-at-all i = live-there script P c ms s whole g live.txn live.found live.active i

  -- ABORTS
  abort-outs : (parts : List Node) → (aborts (gx g) parts).out.outs ≡ to_each (message.Abort (gx g)) parts
  abort-outs [] = refl
  abort-outs (x ∷ xs) = refl

  abort-agrees : (xs : List Mark) (parts : List Node) → Agrees xs g (left_of (aborts (gx g) parts).step (Some live.txn)) []
  abort-agrees xs [] = tt
  abort-agrees xs (y ∷ ys) = tt

  no-local-commit : (i : ℕ) → local_count ms (at i) (gx g) ≡ 0
  no-local-commit i = (live-calm script P c ms s whole g live.txn live.found live.active i).uncommitted_there

  no-decision : decided_count ms (gx g) ≡ 0
  no-decision = (s.pairs 0 g).undecided (ap is_undecided (live-at-all 0))

  unaborted-so : is_aborted ms (gx g) ≡ false
  unaborted-so = unaborted script P c ms s whole g live.txn live.found (k 0) (P 0 g) (s.pairs 0 g) ((live-can script P c ms s whole g live.txn live.found live.active).going 0)

  pub refusing-led : (why : List Mark) (reason : Refused) → (is_aborted ms (gx g) ≡ false → Fol script ms why) → Each NoEnd why → Led script P c ms (is_refused c (gx g) (on_abort c.table (gx g)) why reason)
  refusing-led why reason fol e =
      let says : Fol script ms why = fol unaborted-so in
      subst (λ o. Led script P c ms (is_refused c (gx g) (turns c.table (gx g) (abort_found (gx g) o)) why reason)) (sym live.found)
      (abort-led script P c ms s whole g live.txn live.found (is_refused c (gx g) (turns c.table (gx g) (aborts (gx g) live.txn.participants)) why reason) (aborts (gx g) live.txn.participants) why
      (answer_mark c (work_of c (gx g)).session (told.Refused reason) ∷ release_marks the_coordinator c.locks (gx g)) refl says (fol-no-part script ms why says) e (tt, back-mute c.locks (gx g)) (live-can script P c ms s whole g live.txn live.found live.active) no-decision no-local-commit refl (λ h. refl)
      (dropped-over script P c ms s whole g live.txn live.found live.txn.participants) (abort-agrees _ live.txn.participants) live.txn.participants (abort-outs live.txn.participants))

  pub rolling-led : (marks : List Mark) → Each Mute marks → Led script P c ms (rolls_back c (gx g) marks (on_abort c.table (gx g)))
  rolling-led marks e =
      subst (λ o. Led script P c ms (rolls_back c (gx g) marks (turns c.table (gx g) (abort_found (gx g) o)))) (sym live.found)
      (abort-led script P c ms s whole g live.txn live.found (rolls_back c (gx g) marks (turns c.table (gx g) (aborts (gx g) live.txn.participants))) (aborts (gx g) live.txn.participants) []
      (marks ++ release_marks the_coordinator c.locks (gx g)) refl tt tt tt (each_append Mute marks _ e (back-mute c.locks (gx g))) (live-can script P c ms s whole g live.txn live.found live.active) no-decision no-local-commit refl (λ h. refl)
      (dropped-over script P c ms s whole g live.txn live.found live.txn.participants) (abort-agrees _ live.txn.participants) live.txn.participants (abort-outs live.txn.participants))

  -- the standing where the phase stays
  same-standing : (now : Txn) → now.phase ≡ live.txn.phase → (i : ℕ) → standing (nat_le c.table.next.0 g) (Some now) i ≡ (k i).at
  same-standing now e i = ap (λ p. standing_in p i) e ∙ sym (stands-as script P c ms s whole g live.txn live.found i)

  still-agrees : (xs : List Mark) (now : Txn) (ws : List Node) → now.phase ≡ live.txn.phase → Agrees xs g (Some now) ws
  still-agrees xs now ws e = subst (λ p. AgreesIn xs g p ws) (sym (e ∙ live.active)) tt

  -- a change of a live transaction that keeps its phase, with mute marks
  pub keeps-way : (d : Coord) (ns : List Mark) (now : Txn) (w : Work) → now.phase ≡ live.txn.phase → d.table.next ≡ c.table.next → ((h : ℕ) → find_txn d.table (gx h) ≡ (if eqb h g then Some now else find_txn c.table (gx h))) → ((h : ℕ) → d.works h ≡ (if eqb h g then w else c.works h)) → Each Mute ns → Working g w → ((i : ℕ) → Shift (k i) (known_of (k i).at w i (decided_count ms (gx g)) (is_aborted ms (gx g)) (is_committed ms (gx g))) (P i g)) → Way script P c ms d ns
  keeps-way d ns now w e n f v mute working shift =
      at-one script P c d ms ns g (Some now) w (record { next = n; finds = f; works = v; others = λ h q. (mute-decided ns (gx h) mute, mute-aborted ns (gx h) mute, mute-committed ns (gx h) mute) }) s
      (λ i. subst (λ q. Shift (k i) q (P i g)) (sym (becomes-calm script P c ms s whole g ns (Some now) w i (mute-decided ns (gx g) mute) (mute-aborted ns (gx g) mute) (mute-committed ns (gx g) mute)))
      (subst (λ a. Shift (k i) (known_of a w i (decided_count ms (gx g)) (is_aborted ms (gx g)) (is_committed ms (gx g))) (P i g)) (sym (same-standing now e i)) (shift i)))
      working (still-agrees (ms ++ ns) now w.writers e) (mute-fol script ms ns mute)

  -- AN ANSWER IN A BLOCK
  pub answers-led : IsIdle c g → Led script P c ms (answers c (gx g) (c.works g))
  answers-led idle = record { way = by_level (c.works g).level; outs = tt }
    where
      w : Work
      w = record (c.works g) { command = None }

      working : Working g w
      working = record { apart = (s.works g).apart; command = tt }

      shift : (i : ℕ) → Shift (k i) (known_of (k i).at w i (decided_count ms (gx g)) (is_aborted ms (gx g)) (is_committed ms (gx g))) (P i g)
      shift i = subst (λ b. Shift (k i) (record (k i) { waits = b }) (P i g)) (idle i) (shift-same (k i) (P i g) (s.pairs i g))

      answer : Mark
      answer = answer_mark c (c.works g).session (answer_of_command (c.works g).command)

      coord_at : Level → Coord
      coord_at level = record (answers c (gx g) (c.works g)).coord { table = unless_kept level c.table (gx g) }

      same : (h : ℕ) (b : Bool) → eqb h g ≡ b → find_txn c.table (gx h) ≡ (if b then Some live.txn else find_txn c.table (gx h))
      same h true e = ap (λ j. find_txn c.table (gx j)) (eqb-true h g e) ∙ live.found
      same h false e = refl

      by_level : (level : Level) → Way script P c ms (record (answers c (gx g) (c.works g)).coord { table = unless_kept level c.table (gx g) }) (answer_mark c (c.works g).session (answer_of_command (c.works g).command) ∷ [])
      by_level ReadCommitted =
          let a = live-at c.table g None whole in
          keeps-way (coord_at ReadCommitted) (answer ∷ []) (set_live None live.txn) w refl refl (λ h. a.finds h ∙ ap (λ o. if eqb h g then option_map (set_live None) o else find_txn c.table (gx h)) live.found) (λ h. refl) (tt, tt) working shift
      by_level RepeatableRead = keeps-way (coord_at RepeatableRead) (answer ∷ []) live.txn w refl refl (λ h. same h (eqb h g) refl) (λ h. refl) (tt, tt) working shift

  -- A COMMAND GOES OUT
  -- the snapshot by which it reads
  record Reads (r : Reading) : Type 0 where
    way : Way script P c ms r.coord r.marks
    whole_there : IsWhole r.coord.table
    live_there : IsLive r.coord g
    last : (r.coord.works g).last ≡ (c.works g).last
    command : (r.coord.works g).command ≡ (c.works g).command

  nil-way : Way script P c ms c []
  nil-way = record { stands = subst (Stands script P c) (sym (append-nil ms)) s; stays = λ i h m x. subst (λ y. Said (known_at c y i h) (P i h) m) (sym (append-nil ms)) x; fol = tt }

  keeps-reading : (x : Option Snapshot) → Reads (record { coord = c; snapshot = x; marks = [] })
  keeps-reading x = record { way = nil-way; whole_there = whole; live_there = live; last = refl; command = refl }

  takes-reading : (cid : Cid) → Reads (takes_snapshot c (gx g) cid (c.works g))
  takes-reading cid =
      let a = live-at c.table g (Some (xmin_of c.table)) whole in
      let w : Work = record (c.works g) { snapshot = kept_at (c.works g).level (snapshot_of c.table) } in
      let d : Coord = (takes_snapshot c (gx g) cid (c.works g)).coord in
      let there : d.works g ≡ w = ap (λ b. if b then w else c.works g) (eqb-self g) in
      let finds : (h : ℕ) → find_txn d.table (gx h) ≡ (if eqb h g then Some (set_live (Some (xmin_of c.table)) live.txn) else find_txn c.table (gx h)) = λ h. a.finds h ∙ ap (λ o. if eqb h g then option_map (set_live (Some (xmin_of c.table))) o else find_txn c.table (gx h)) live.found in
      record {
        way = keeps-way d (mark.Snap (gx g) cid (snapshot_of c.table) ∷ []) (set_live (Some (xmin_of c.table)) live.txn) w refl refl finds (λ h. refl) (tt, tt) (record { apart = (s.works g).apart; command = (s.works g).command }) (λ i. shift-same (k i) (P i g) (s.pairs i g));
        whole_there = a.whole;
        live_there = record { txn = set_live (Some (xmin_of c.table)) live.txn; found = finds g ∙ ap (λ b. if b then Some (set_live (Some (xmin_of c.table)) live.txn) else find_txn c.table (gx g)) (eqb-self g); active = live.active };
        last = ap (λ (v : Work). v.last) there;
        command = ap (λ (v : Work). v.command) there;
      }

  by-reading : (cid : Cid) (x : Option Snapshot) → Reads (reads_by c (gx g) cid (c.works g) x)
  by-reading cid None = takes-reading cid
  by-reading cid (Some x) = keeps-reading (Some x)

  for-reading : (cid : Cid) (line : Stmt) → Reads (reads_for c (gx g) cid (c.works g) line)
  for-reading cid (stmt.Lock t m) = keeps-reading None
  for-reading cid (stmt.Begin level) = by-reading cid (c.works g).snapshot
  for-reading cid stmt.Commit = by-reading cid (c.works g).snapshot
  for-reading cid stmt.Rollback = by-reading cid (c.works g).snapshot
  for-reading cid (stmt.Select q) = by-reading cid (c.works g).snapshot
  for-reading cid (stmt.Insert t x) = by-reading cid (c.works g).snapshot
  for-reading cid (stmt.Update t x z) = by-reading cid (c.works g).snapshot
  for-reading cid (stmt.Delete t x) = by-reading cid (c.works g).snapshot

-- what is known of a command that has gone out
record IsOut (d : Coord) (ms : List Mark) (g i : ℕ) (nodes : List Node) (number : ℕ) : Type 0 where
  at_live : (known_at d ms i g).at ≡ Live
  awaits : (known_at d ms i g).waits ≡ has (at i) nodes
  numbered : (known_at d ms i g).last ≡ number

-- the pieces go out
module _ (script : Script) (P : ℕ → ℕ → Part) (c : Coord) (ms : List Mark) (s : Stands script P c ms) (whole : IsWhole c.table) (g : ℕ) (live : IsLive c g) (idle : IsIdle c g) where
  abbrev k2 : ℕ → Known
  k2 i = known_at c ms i g

  orders-are : (cid : Cid) (level : Level) (x : Option Snapshot) (h : Gxid) (pieces : List Piece) → Each (λ (o : Out). IsOrderOf g cid.0 o.message) (orders_of (gx g) cid level x h pieces)
  orders-are cid level x h [] = tt
  orders-are cid level x h (p ∷ ps) = ((refl, refl), orders-are cid level x h ps)

  out-led : (cid : Cid) (line : Stmt) (pieces : List Piece) (x : Option Snapshot) (marks : List Mark) → cid.0 ≡ (c.works g).last + 1 → Led script P c ms (record (goes_out (gx g) cid line pieces (record { coord = c; snapshot = x; marks = marks })) { marks = [] })
  out-led cid line pieces x marks next =
      let e = all-more (nodes_in pieces) c.table g live.txn whole live.found in
      let w : Work = record (c.works g) { last = cid.0; command = Some (record { stmt = line; cid = cid; orders = orders_of (gx g) cid (c.works g).level x (horizon_of c.table) pieces; awaited = nodes_in pieces; count = 0; parts = [] }) } in
      let d : Coord = (goes_out (gx g) cid line pieces (record { coord = c; snapshot = x; marks = marks })).coord in
      let way : Way script P c ms d [] = keeps-way script P c ms s whole g live d [] e.now w e.phase e.at.next e.at.finds (λ h. refl) tt (record { apart = (s.works g).apart; command = (refl, orders-are cid (c.works g).level x (horizon_of c.table) pieces) })
      (λ i. subst (λ n. Shift (k2 i) (record (sending (has (at i) (nodes_in pieces)) (k2 i)) { last = n }) (P i g)) (sym next) (send-shift (has (at i) (nodes_in pieces)) (k2 i) (P i g) (s.pairs i g) (live-at-all script P c ms s whole g live i) (idle i))) in
      record { way = way; outs = subst (λ y. Each (SaidOut script P d y) (orders_of (gx g) cid (c.works g).level x (horizon_of c.table) pieces)) (sym (append-nil ms)) (all-sent d (c.works g).level (known-there e) pieces (each-unmap (λ (i : Node). has i (nodes_in pieces) ≡ true) (λ (p : Piece). p.node) pieces (each-has (nodes_in pieces)))) }
    where
      work_there : Work
      work_there = record (c.works g) { last = cid.0; command = Some (record { stmt = line; cid = cid; orders = orders_of (gx g) cid (c.works g).level x (horizon_of c.table) pieces; awaited = nodes_in pieces; count = 0; parts = [] }) }

      d_there : Coord
      d_there = (goes_out (gx g) cid line pieces (record { coord = c; snapshot = x; marks = marks })).coord

      known-there : Enlists c.table (enlisted_all c.table (gx g) (nodes_in pieces)) g live.txn → (i : ℕ) → IsOut d_there ms g i (nodes_in pieces) cid.0
      known-there e i =
          record {
            at_live = ap (λ o. standing (nat_le d_there.table.next.0 g) o i) (e.at.finds g ∙ ap (λ b. if b then Some e.now else find_txn c.table (gx g)) (eqb-self g)) ∙ ap (λ p. standing_in p i) (e.phase ∙ live.active);
            awaits = ap (λ (v : Work). waits_in v.command i) (here work_there);
            numbered = ap (λ (v : Work). v.last) (here work_there);
          }
        where
          here : (v : Work) → (if eqb g g then v else c.works g) ≡ v
          here v = ap (λ b. if b then v else c.works g) (eqb-self g)

      all-sent : (d : Coord) (level : Level) → ((i : ℕ) → IsOut d ms g i (nodes_in pieces) cid.0) → (ps : List Piece) → Each (λ (p : Piece). has p.node (nodes_in pieces) ≡ true) ps → Each (SaidOut script P d ms) (orders_of (gx g) cid level x (horizon_of c.table) ps)
      all-sent d level there [] f = tt
      all-sent d level there (p ∷ ps) f =
          let q = there p.node.0 in
          ((refl, is-sent (known_at d ms p.node.0 g) (P p.node.0 g) cid.0 q.at_live (q.awaits ∙ f.0) (sym q.numbered), (q.awaits ∙ f.0, sym q.numbered)), all-sent d level there ps f.1)

-- A COMMAND, FROM ITS NUMBER ON
module _ (script : Script) (P : ℕ → ℕ → Part) (c : Coord) (ms : List Mark) (s : Stands script P c ms) (whole : IsWhole c.table) (g : ℕ) (live : IsLive c g) (idle : IsIdle c g) where
  goes-led : (cid : Cid) (line : Stmt) (r : Reading) (plan : Result (List Piece) ArithFault) → cid.0 ≡ (c.works g).last + 1 → Reads script P c ms s whole g live r → Led script P c ms (goes (gx g) cid line r plan)
  goes-led cid line r (Ok pieces) next f =
      way-then script P c ms r.coord r.marks (record (goes_out (gx g) cid line pieces (record { coord = r.coord; snapshot = r.snapshot; marks = r.marks })) { marks = [] }) (goes (gx g) cid line r (Ok pieces)) f.way
      (out-led script P r.coord (ms ++ r.marks) f.way.stands f.whole_there g f.live_there (λ i. ap (λ q. waits_in q i) f.command ∙ idle i) cid line pieces r.snapshot r.marks (next ∙ ap (λ n. n + 1) (sym f.last))) refl (sym (append-nil r.marks)) refl
  goes-led cid line r (Err fault) next f =
      way-then script P c ms r.coord r.marks (is_refused r.coord (gx g) (on_abort r.coord.table (gx g)) (fault_mark (gx g) cid line) (refusal_of fault)) (goes (gx g) cid line r (Err fault)) f.way
      (refusing-led script P r.coord (ms ++ r.marks) f.way.stands f.whole_there g f.live_there (fault_mark (gx g) cid line) (refusal_of fault) (fault-fol script (ms ++ r.marks) (gx g) cid line) (fault-end (gx g) cid line)) refl (append_assoc r.marks (fault_mark (gx g) cid line) _) refl

  pub locked-led : (line : Stmt) → Led script P c ms (goes_on_locked script c (gx g) line)
  locked-led line =
      goes-led (next_cid (c.works g)) line _ (plan_of script.segments (dist_of script.tables (table_of line)) (gx g) (next_cid (c.works g)) line) refl (for-reading script P c ms s whole g live (next_cid (c.works g)) line)

-- what goes out behind a wait is what waits, with its lock
pub goes-out-is : (script : Script) (c : Coord) (g : Gxid) (wanted : Claim) (line : Stmt) → wait_of c.locks g ≡ Some wanted → (work_of c g).waiting ≡ Some line → resumes script c g (Some wanted) (Some line) ≡ resumes script c g (wait_of c.locks g) (work_of c g).waiting
goes-out-is script c g wanted line e f = ap (λ o. resumes script c g o (Some line)) (sym e) ∙ ap (λ o. resumes script c g (wait_of c.locks g) o) (sym f)

-- WITH ITS TABLE'S LOCK, OR WAITING FOR IT
module _ (script : Script) (P : ℕ → ℕ → Part) (c : Coord) (ms : List Mark) (s : Stands script P c ms) (whole : IsWhole c.table) (g : ℕ) (live : IsLive c g) (idle : IsIdle c g) where
  -- the coordinator with other locks, and with another work that differs in what waits, behind a mark that says nothing
  other-led : (d : Coord) (w : Work) (m : Mark) → Mute m → d.table ≡ c.table → ((h : ℕ) → d.works h ≡ (if eqb h g then w else c.works h)) → Working g w → ((i : ℕ) → known_of (known_at c ms i g).at w i (decided_count ms (gx g)) (is_aborted ms (gx g)) (is_committed ms (gx g)) ≡ known_at c ms i g) → Way script P c ms d (m ∷ [])
  other-led d w m mute table works working same =
      keeps-way script P c ms s whole g live d (m ∷ []) live.txn w refl (ap (λ (t : Table). t.next) table) (λ h. ap (λ t. find_txn t (gx h)) table ∙ same-found h (eqb h g) refl) works (mute, tt) working shifts
    where
      same-found : (h : ℕ) (b : Bool) → eqb h g ≡ b → find_txn c.table (gx h) ≡ (if b then Some live.txn else find_txn c.table (gx h))
      same-found h true e = ap (λ i. find_txn c.table (gx i)) (eqb-true h g e) ∙ live.found
      same-found h false e = refl

      shifts : (i : ℕ) → Shift (known_at c ms i g) (known_of (known_at c ms i g).at w i (decided_count ms (gx g)) (is_aborted ms (gx g)) (is_committed ms (gx g))) (P i g)
      shifts i = subst (λ k. Shift (known_at c ms i g) k (P i g)) (sym (same i)) (shift-same (known_at c ms i g) (P i g) (s.pairs i g))

  locks-led : (locks : Locks) (wanted : Claim) → Way script P c ms (record c { locks = locks }) (hold_mark the_coordinator wanted ∷ [])
  locks-led locks wanted = other-led (record c { locks = locks }) (c.works g) (hold_mark the_coordinator wanted) tt refl (λ h. same-work h (eqb h g) refl) (s.works g) (λ i. refl)
    where
      same-work : (h : ℕ) (b : Bool) → eqb h g ≡ b → c.works h ≡ (if b then c.works g else c.works h)
      same-work h true e = ap c.works (eqb-true h g e)
      same-work h false e = refl

  abbrev waiting_now : Locks → Option Stmt → Coord
  waiting_now locks waiting = with_work (record c { locks = locks }) (gx g) (record (c.works g) { waiting = waiting })

  waiting-led : (locks : Locks) (waiting : Option Stmt) (m : Mark) → Mute m → Way script P c ms (waiting_now locks waiting) (m ∷ [])
  waiting-led locks waiting m mute = other-led (waiting_now locks waiting) (record (c.works g) { waiting = waiting }) m mute refl (λ h. refl) (record { apart = (s.works g).apart; command = (s.works g).command }) (λ i. refl)

  request-led : (line : Stmt) (o : Option Claim) → Led script P c ms (requests script c (gx g) line o)
  request-led line None = locked-led script P c ms s whole g live idle line
  request-led line (Some wanted) = by_test (is_clear c.locks.holds c.locks.waits wanted)
    where
      held : Coord
      held = record c { locks = with_hold c.locks wanted }

      way : Way script P c ms held (hold_mark the_coordinator wanted ∷ [])
      way = locks-led (with_hold c.locks wanted) wanted

      by_test : (b : Bool) → Led script P c ms (if_granted script c (gx g) line wanted b)
      by_test true =
          way-then script P c ms held (hold_mark the_coordinator wanted ∷ []) (goes_on_locked script held (gx g) line) (behind (hold_mark the_coordinator wanted ∷ []) (goes_on_locked script held (gx g) line)) way
          (locked-led script P held (ms ++ hold_mark the_coordinator wanted ∷ []) way.stands whole g (record { txn = live.txn; found = live.found; active = live.active }) idle line) refl refl refl
      by_test false = record { way = waiting-led (with_wait c.locks wanted) (Some line) (wait_mark the_coordinator wanted) tt; outs = tt }

  pub dispatch-led : (line : Stmt) → Led script P c ms (dispatches script c (gx g) line)
  dispatch-led line = request-led line (table_lock script (gx g) line)

  -- a statement that has waited goes out
  pub resume-led : (line : Stmt) (wanted : Claim) → Led script P c ms (resumes script c (gx g) (Some wanted) (Some line))
  resume-led line wanted =
      let free : Coord = waiting_now (resumed c.locks (gx g) (Some wanted)) None in
      let way : Way script P c ms free (hold_mark the_coordinator wanted ∷ []) = waiting-led (resumed c.locks (gx g) (Some wanted)) None (hold_mark the_coordinator wanted) tt in
      way-then script P c ms free (hold_mark the_coordinator wanted ∷ []) (goes_on_locked script free (gx g) line) (behind (hold_mark the_coordinator wanted ∷ []) (goes_on_locked script free (gx g) line)) way
      (locked-led script P free (ms ++ hold_mark the_coordinator wanted ∷ []) way.stands whole g (record { txn = live.txn; found = live.found; active = live.active }) (λ i. ap (λ b. waits_in (if b then record (c.works g) { waiting = None } else c.works g).command i) (eqb-self g) ∙ idle i) line) refl refl refl

-- A SEGMENT IS DONE
module _ (script : Script) (P : ℕ → ℕ → Part) (c : Coord) (ms : List Mark) (s : Stands script P c ms) (whole : IsWhole c.table) (g : ℕ) (live : IsLive c g) where
  module _ (m : Command) (has_it : (c.works g).command ≡ Some m) (j : Node) (taken : has j m.awaited ≡ true) (cid : Cid) (same_cid : eqb m.cid.0 cid.0 ≡ true) (wrote : Bool) (said : IsDone (known_at c ms j.0 g) (P j.0 g) cid.0 wrote) (count : ℕ) (part : QueryPart) where
    abbrev w1 : Work
    w1 = record (c.works g) { writers = writers_with wrote j (c.works g).writers; command = Some (with_done m j count part) }

    abbrev c1 : Coord
    c1 = with_work c (gx g) w1

    of-command : (m.cid.0 ≡ (c.works g).last) × Each (λ (o : Out). IsOrderOf g (c.works g).last o.message) m.orders
    of-command = subst (CommandOf g (c.works g).last) has_it (s.works g).command

    number-is : cid.0 ≡ (c.works g).last
    number-is = sym (eqb-true m.cid.0 cid.0 same_cid) ∙ of-command.0

    wrote-apart : (b : Bool) → AreApart (writers_with b j (c.works g).writers)
    wrote-apart true = apart-with j (c.works g).writers (s.works g).apart
    wrote-apart false = (s.works g).apart

    learns-it : (b q : Bool) (i : ℕ) → eqb j.0 i ≡ q → has (at i) (writers_with b j (c.works g).writers) ≡ ((b && q) || has (at i) (c.works g).writers)
    learns-it true q i e = has-with (at i) j (c.works g).writers ∙ ap (λ x. x || has (at i) (c.works g).writers) e
    learns-it false q i e = refl

    waits-now : (q : Bool) (i : ℕ) → eqb j.0 i ≡ q → has (at i) (without j m.awaited) ≡ (if q then false else has (at i) m.awaited)
    waits-now q i e = has-without (at i) j m.awaited ∙ ap (λ x. if x then false else has (at i) m.awaited) e

    waits-before : (i : ℕ) → (known_at c ms i g).waits ≡ has (at i) m.awaited
    waits-before i = ap (λ q. waits_in q i) has_it

    shift : (i : ℕ) → Shift (known_at c ms i g) (known_of (known_at c ms i g).at w1 i (decided_count ms (gx g)) (is_aborted ms (gx g)) (is_committed ms (gx g))) (P i g)
    shift i = by_same (eqb j.0 i) refl
      where
        by_same : (q : Bool) → eqb j.0 i ≡ q → Shift (known_at c ms i g) (known_of (known_at c ms i g).at w1 i (decided_count ms (gx g)) (is_aborted ms (gx g)) (is_committed ms (gx g))) (P i g)
        by_same true q =
            subst (λ x. Shift (known_at c ms i g) (record (known_at c ms i g) { waits = x; writes = has (at i) w1.writers }) (P i g)) (sym (waits-now true i q))
            (subst (λ x. Shift (known_at c ms i g) (record (known_at c ms i g) { waits = false; writes = x }) (P i g)) (sym (learns-it wrote true i q ∙ ap (λ x. x || has (at i) (c.works g).writers) (and-true wrote)))
            (let y = said.same (live-at-all script P c ms s whole g live j.0) number-is in
            let n : j.0 ≡ i = eqb-true j.0 i q in
            learn-shift wrote (known_at c ms i g) (P i g) (s.pairs i g) (live-at-all script P c ms s whole g live i) (subst (λ x. (P x g).last ≡ (c.works g).last) n (y.0 ∙ number-is)) (subst (λ x. wrote ≡ (P x g).wrote) n y.1) (subst (λ x. (P x g).waits ≡ false) n y.2)))
        by_same false q =
            subst (λ x. Shift (known_at c ms i g) (record (known_at c ms i g) { waits = x; writes = has (at i) w1.writers }) (P i g)) (sym (waits-now false i q))
            (subst (λ x. Shift (known_at c ms i g) (record (known_at c ms i g) { waits = has (at i) m.awaited; writes = x }) (P i g)) (sym (learns-it wrote false i q ∙ ap (λ x. x || has (at i) (c.works g).writers) (and-false wrote)))
            (subst (λ x. Shift (known_at c ms i g) (record (known_at c ms i g) { waits = x }) (P i g)) (waits-before i) (shift-same (known_at c ms i g) (P i g) (s.pairs i g))))

    same-found : (h : ℕ) (b : Bool) → eqb h g ≡ b → find_txn c.table (gx h) ≡ (if b then Some live.txn else find_txn c.table (gx h))
    same-found h true e = ap (λ i. find_txn c.table (gx i)) (eqb-true h g e) ∙ live.found
    same-found h false e = refl

    learned-same : Same script P c ms c1
    learned-same =
        way-same script P c ms c1 (keeps-way script P c ms s whole g live c1 [] live.txn w1 refl refl (λ h. same-found h (eqb h g) refl) (λ h. refl) tt
        (record { apart = wrote-apart wrote; command = of-command }) shift)

    live-now : IsLive c1 g
    live-now = record { txn = live.txn; found = live.found; active = live.active }

    work-now : c1.works g ≡ w1
    work-now = ap (λ q. if q then w1 else c.works g) (eqb-self g)

    idle-now : without j m.awaited ≡ [] → IsIdle c1 g
    idle-now e i = ap (λ (v : Work). waits_in v.command i) work-now ∙ ap (has (at i)) e

    completed : (b : Block) → without j m.awaited ≡ [] → Led script P c1 ms (completes c1 (gx g) b)
    completed Outside e = commits-ready script P c1 ms learned-same.stands whole g live.txn live.found (record { live = live.active; done = idle-now e })
    completed (Open level) e = answers-led script P c1 ms learned-same.stands whole g live-now (idle-now e)
    completed Failed e = answers-led script P c1 ms learned-same.stands whole g live-now (idle-now e)

    gone-on : (left : List Node) → without j m.awaited ≡ left → Led script P c1 ms (goes_on c1 (gx g) left)
    gone-on [] e = completed (session_of c1 (work_of c1 (gx g)).session).state.block e
    gone-on (x ∷ xs) e = rest-led script P c1 ms c1 (record { stands = learned-same.stands; stays = λ i h y z. z })

    pub done-led : Led script P c ms (takes_done c (gx g) j wrote count part m)
    done-led = same-then script P c ms c1 (goes_on c1 (gx g) (without j m.awaited)) learned-same (gone-on (without j m.awaited) refl)
