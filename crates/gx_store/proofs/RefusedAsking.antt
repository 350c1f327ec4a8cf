-- Why runs are refused in which a lock is waited for or granted that nobody has asked for.
use Rattle.std.proofs.Common.{◌≡◌, ◌⊎◌, inl, inr, ℕ, ◌+◌, ◌&&◌, ◌||◌, ◌==◌, drop, take, List, [], ◌∷◌, ◌++◌, Option, Some, None, Bool, true, false, refl, sym, subst, ap, ◌∙◌, if◌then◌else◌, arith}
use Rattle.std.proofs.lemmas.List.{take-append-drop}
use Rattle.std.proofs.lemmas.List.Elements.{All-cons, All-contains, All-nil}
use Rattle.std.specs.List.{list_any}
use Rattle.std.specs.Prelude.{All}
use Rattle.gx_ids.specs.declared.ids.Cid.{Cid}
use Rattle.gx_ids.specs.declared.ids.Gxid.{Gxid}
use Rattle.gx_ids.specs.declared.ids.Node.{Node}
use Rattle.gx_ids.specs.declared.ids.SessionId.{SessionId}
use Rattle.gx_ids.specs.declared.ids.Table.{Table}
use Rattle.gx_ids.specs.declared.rid.Rid.{Rid}
use Rattle.gx_tree.specs.declared.value.Value.{Value}
use Rattle.gx_dsnap.specs.declared.snapshot.Snapshot.{Snapshot}
use Rattle.gx_modes.specs.declared.modes.Mode.{Mode}
use Rattle.gx_modes.specs.declared.modes.Mode.TheVariants.{AccessExclusive, AccessShare, Exclusive, RowExclusive, Share}
use Rattle.gx_script.specs.declared.Script.{Script}
use Rattle.gx_tree.specs.declared.cond.Cond.{Cond}
use Rattle.gx_tree.specs.declared.expr.Expr.{Expr}
use Rattle.gx_tree.specs.declared.query.Query.{Query}
use Rattle.gx_tree.specs.declared.row.KeyedRow.{KeyedRow}
use Rattle.gx_tree.specs.declared.stmt.Assign.{Assign}
use Rattle.gx_tree.specs.declared.stmt.Level.{Level}
use Rattle.gx_tree.specs.declared.stmt.Stmt.{Stmt}
use Rattle.gx_tree.specs.declared.stmt.Stmt.TheVariants as stmt
use Rattle.gx_waits.specs.Claim.{same_claim}
use Rattle.gx_waits.specs.declared.claim.Claim.{Claim}
use Rattle.gx_waits.specs.declared.object.Object.{Object}
use Rattle.gx_waits.specs.declared.object.Object.TheVariants.{Relation, Transaction, Tuple}
use Rattle.gx_store.specs.Asking.{AreAsked, Asks, AsksThere, GrantsWait, IsOrWasUnderWay, IsToDo, LocksItself, Needs, NeedsTable, has_told}
use Rattle.gx_store.specs.Commands.{RunsCommand}
use Rattle.gx_store.specs.Lines.{Outside, cid_of, next_stmt, state_of}
use Rattle.gx_store.specs.Marks.{answer_count, is_aborted, is_committed, is_same_rid, is_same_session}
use Rattle.gx_store.specs.Points.{Point, before, starts_at}
use Rattle.gx_store.specs.RefusedAsking.{change_and_insert, done_while_waiting, idle_wait, locks_itself_early, locks_too_little, one_change, the_table, two_changes, two_locks, two_queried, waits_elsewhere, waits_for_a_reader, waits_for_more, waits_for_the_ended, waits_for_unselected, waits_here_for_more, waits_when_done, waits_without_lock, writes_when_done}
use Rattle.gx_store.specs.RefusedParts.{anna, bert, first_cid, first_txn, other_segment, second_txn, the_segment, third_txn}
use Rattle.gx_store.specs.RefusedWaits.{first_table, on_first, one_query}
use Rattle.gx_store.specs.Refusals.{the_coordinator}
use Rattle.gx_store.specs.Silent.{AreWaitersSilent}
use Rattle.gx_store.specs.View.{image_after, is_shown_to}
use Rattle.gx_store.specs.Waits.{is_held, waits_at}
use Rattle.gx_waits.specs.Claims.{claim}
use Rattle.gx_store.specs.declared.mark.Mark.{Mark}
use Rattle.gx_store.specs.declared.mark.Mark.TheVariants as mark
use Rattle.gx_store.proofs.Marks.{is_committed-append}
use Rattle.gx_store.proofs.RefusedCauses.{AreEvents, NoReceipt, none-came}
use Rattle.gx_store.proofs.RefusedParts.{clash}

some-same : {A : Type 0} (a b : A) → Some a ≡ Some b → a ≡ b
some-same a b e = cc

not-here : the_segment ≡ the_coordinator → ⊥
not-here e = one-zero the_segment.0 refl (ap (λ (n : Node). n.0) e)
  where
    one-zero : (n : ℕ) → n ≡ 1 → n ≡ 0 → ⊥
    one-zero n a b = omega arith

-- A request at the segment is for a command that is under way at the point, where nobody has aborted.
pub record IsUnder (script : Script) (point : Point) (object : Object) (mode : Mode) : Type 0 where
  pub asks : AsksThere script point the_segment first_txn object mode
  pub session : SessionId
  pub level : Level
  pub runs : RunsCommand script point session asks.line level first_txn asks.cid

under : {script : Script} {point : Point} {object : Object} {mode : Mode} → Asks script point the_segment first_txn object mode → is_aborted (before point) first_txn ≡ false → IsUnder script point object mode
under {script = script} {point = point} {object = object} {mode = mode} (inl a) none = absurd (not-here a.here)
under {script = script} {point = point} {object = object} {mode = mode} (inr a) none = by_way a.at_work.under_way
  where
    by_way : IsOrWasUnderWay script point first_txn a.cid a.line → IsUnder script point object mode
    by_way (inl u) = record { asks = a; session = u.0; level = u.1; runs = u.2.runs }
    by_way (inr l) = absurd (clash (is_aborted (before point) first_txn) l.aborted none)

-- WHO IS IDLE
no-line : {n m : ℕ} → n ≡ m → n ≡ m + 1 → ⊥
no-line e f = omega arith

one_if : Bool → ℕ
one_if b = if b then 1 else 0

idle-counts : (a b : Bool) → ((if a then 1 else 0) + ((if b then 1 else 0) + ((if a then 1 else 0) + ((if b then 1 else 0) + (0 + (0 + (0 + (0 + 0)))))))) + 0
    ≡ (if a then (if b then (if a then (if b then 0 + 1 else 0) + 1 else (if b then 0 + 1 else 0)) + 1 else (if a then (if b then 0 + 1 else 0) + 1 else (if b then 0 + 1 else 0))) + 1
    else (if b then (if a then (if b then 0 + 1 else 0) + 1 else (if b then 0 + 1 else 0)) + 1 else (if a then (if b then 0 + 1 else 0) + 1 else (if b then 0 + 1 else 0))))
idle-counts true true = refl
idle-counts true false = refl
idle-counts false true = refl
idle-counts false false = refl

no-idle : {script : Script} {point : Point} {object : Object} {mode : Mode} → Asks script point the_segment first_txn object mode → is_aborted (before point) first_txn ≡ false → ((session : SessionId) → starts_at session point ≡ answer_count session (before point)) → ⊥
no-idle a none idle = let u = under a none in no-line (idle u.session) u.runs.line.started

pub not-idle : (script : Script) → AreAsked (two_locks script) [] idle_wait → ⊥
not-idle script h = no-idle h.1.1.1.1.1.1.1.1.0.0 refl (λ session. idle-counts (is_same_session anna session) (is_same_session bert session))

-- WHAT A LINE NEEDS
-- where the only line is this one
only-line : (b : Bool) (its line : Stmt) → (if b && true then (let o : Option Stmt = Some its in o) else None) ≡ Some line → its ≡ line
only-line true its line e = some-same its line e
only-line false its line e = absurd (cc)

no-share : (script : Script) (marks : List Mark) (level : Level) (c : Cid) (query : Query) (line : Stmt) → stmt.Select query ≡ line → Needs script marks the_segment level first_txn c line the_table AccessExclusive → ⊥
no-share script marks level c query line e n = wrong (subst (λ l. Needs script marks the_segment level first_txn c l the_table AccessExclusive) (sym e) n)
  where
    other : AccessExclusive ≡ AccessShare → ⊥
    other q = cc

    wrong : Needs script marks the_segment level first_txn c (stmt.Select query) the_table AccessExclusive → ⊥
    wrong (inl z) = other (sym (ap (λ (x : Claim). x.mode) (some-same _ _ z)))
    wrong (inr z) = z.2

no-more-there : {script : Script} {point : Point} (query : Query) → Asks script point the_segment first_txn the_table AccessExclusive → is_aborted (before point) first_txn ≡ false
    → ((session : SessionId) → next_stmt session script (before point) ≡ (if is_same_session anna session && true then Some (stmt.Select query) else None)) → ⊥
no-more-there {script = script} {point = point} query a none only =
    let u = under a none in
    no-share script (before point) u.asks.level u.asks.cid query u.asks.line (only-line (is_same_session anna u.session) (stmt.Select query) u.asks.line (sym (only u.session) ∙ u.runs.line.line)) u.asks.needs

pub not-more : (script : Script) (query : Query) (snapshot : Snapshot) → AreAsked (one_query script query) [] (waits_for_more query snapshot) → ⊥
not-more script query snapshot h = no-more-there (on_first query) h.1.0.0 refl (λ session. refl)

no-more-here : {script : Script} {point : Point} (query : Query) → Asks script point the_coordinator first_txn the_table AccessExclusive → AreEvents NoReceipt point.steps → NoReceipt point.event
    → ((session : SessionId) → next_stmt session script (before point) ≡ (if is_same_session anna session && true then Some (stmt.Select query) else None)) → ⊥
no-more-here {script = script} {point = point} query (inl a) none nothing only =
    no-share script (before point) a.level a.cid query a.line (only-line (is_same_session anna a.session) (stmt.Select query) a.line (sym (only a.session) ∙ a.under_way.runs.line.line)) (inl a.needs)
no-more-here {script = script} {point = point} query (inr a) none nothing only = none-came NoReceipt point the_coordinator the_coordinator _ none nothing (λ number q. q) a.at_work.received

pub not-more-here : (script : Script) (query : Query) → AreAsked (one_query script query) [] waits_here_for_more → ⊥
not-more-here script query h = no-more-here (on_first query) h.0.1.0 tt tt (λ session. refl)

-- WHAT HAS COME
not-here-either : other_segment ≡ the_coordinator → ⊥
not-here-either e = two-zero other_segment.0 refl (ap (λ (n : Node). n.0) e)
  where
    two-zero : (n : ℕ) → n ≡ 2 → n ≡ 0 → ⊥
    two-zero n a b = omega arith

not-come : {script : Script} {point : Point} {object : Object} {mode : Mode} → Asks script point other_segment first_txn object mode → AreEvents NoReceipt point.steps → NoReceipt point.event → ⊥
not-come {script = script} {point = point} (inl a) none nothing = not-here-either a.here
not-come {script = script} {point = point} (inr a) none nothing = none-came NoReceipt point the_coordinator other_segment _ none nothing (λ number q. q) a.at_work.received

pub not-elsewhere : (script : Script) (query : Query) (snapshot : Snapshot) → AreAsked (two_queried script query) [] (waits_elsewhere query snapshot) → ⊥
not-elsewhere script query snapshot h = not-come h.1.0.0 (tt, tt) tt

-- WHAT WAS TOLD
no-told : {script : Script} {point : Point} {object : Object} {mode : Mode} → Asks script point the_segment first_txn object mode → is_aborted (before point) first_txn ≡ false → ((session : SessionId) → state_of script session (before point) ≡ Outside) → has_told point.steps the_segment first_txn first_cid ≡ true → ⊥
no-told {script = script} {point = point} a none outside told =
    let u = under a none in
    clash (has_told point.steps the_segment first_txn first_cid) told
    (subst (λ c. has_told point.steps the_segment first_txn c ≡ false) (u.runs.number ∙ ap cid_of (outside u.session)) u.asks.at_work.untold)

pub not-done : (script : Script) (query : Query) (snapshot : Snapshot) → AreAsked (two_queried script query) [] (waits_when_done query snapshot) → ⊥
not-done script query snapshot h = no-told h.1.1.0.0 refl (λ session. refl) refl

pub not-written : (script : Script) (assigns : List Assign) (cond : Option Cond) (snapshot : Snapshot) (rid : Rid) (image : Option (List Value)) → AreAsked (one_change script assigns cond) [] (writes_when_done assigns cond snapshot rid image) → ⊥
not-written script assigns cond snapshot rid image h = clash true refl h.1.1.0.0.at_work.untold

-- A MODE THAT IS TOO WEAK
no-weak : (script : Script) (marks : List Mark) (level : Level) (c : Cid) (assigns : List Assign) (cond : Option Cond) (line : Stmt) → script.detector ≡ false → stmt.Update first_table assigns cond ≡ line → Needs script marks the_segment level first_txn c line the_table RowExclusive → ⊥
no-weak script marks level c assigns cond line off e n = wrong (subst (λ l. Needs script marks the_segment level first_txn c l the_table RowExclusive) (sym e) n)
  where
    other : RowExclusive ≡ Exclusive → ⊥
    other q = cc

    wrong : Needs script marks the_segment level first_txn c (stmt.Update first_table assigns cond) the_table RowExclusive → ⊥
    wrong (inl z) = other (sym (ap (λ (x : Claim). x.mode) (some-same _ _ z)) ∙ ap (λ b. if b then RowExclusive else Exclusive) off)
    wrong (inr z) = z.3

no-weak-there : {script : Script} {point : Point} (assigns : List Assign) (cond : Option Cond) → Asks script point the_segment first_txn the_table RowExclusive ⊎ GrantsWait script point the_segment first_txn the_table RowExclusive ⊎ LocksItself point.earlier the_segment first_txn the_table RowExclusive → script.detector ≡ false → is_aborted (before point) first_txn ≡ false → waits_at (before point) the_segment ≡ []
    → ((session : SessionId) → next_stmt session script (before point) ≡ (if is_same_session anna session && true then Some (stmt.Update first_table assigns cond) else None)) → ⊥
no-weak-there {script = script} {point = point} assigns cond (inl a) off none nobody only =
    let u = under a none in
    no-weak script (before point) u.asks.level u.asks.cid assigns cond u.asks.line off (only-line (is_same_session anna u.session) (stmt.Update first_table assigns cond) u.asks.line (sym (only u.session) ∙ u.runs.line.line)) u.asks.needs
no-weak-there {point = point} assigns cond (inr (inl waited)) off none nobody only =
    clash (list_any (same_claim (claim first_txn the_table RowExclusive)) (waits_at (before point) the_segment)) waited.waited (ap (list_any (same_claim (claim first_txn the_table RowExclusive))) nobody)
no-weak-there assigns cond (inr (inr own)) off none nobody only = no-own own.own.1
  where
    no-own : RowExclusive ≡ Exclusive → ⊥
    no-own q = cc

pub not-weak : (script : Script) (assigns : List Assign) (cond : Option Cond) (snapshot : Snapshot) → AreAsked (one_change script assigns cond) [] (locks_too_little assigns cond snapshot) → ⊥
not-weak script assigns cond snapshot h = no-weak-there assigns cond h.1.0.0 refl refl refl (λ session. refl)

-- WHAT IT HAS NO NEED OF
abbrev NoWrite : Mark → Type 0
NoWrite (mark.Write g c node table rid image) = ⊥
NoWrite _ = Unit {0}

abbrev AreNoWrites : List Mark → Type 0
AreNoWrites [] = Unit {0}
AreNoWrites (m ∷ ms) = NoWrite m × AreNoWrites ms

no-writes : (marks : List Mark) → AreNoWrites marks → All NoWrite marks
no-writes [] n = All-nil NoWrite
no-writes (m ∷ ms) n = All-cons NoWrite m ms n.0 (no-writes ms n.1)

-- what a statement takes on its table is no lock on a transaction
on-a-table : (script : Script) (g h : Gxid) (line : Stmt) (mode : Mode) → NeedsTable script g line (Transaction h) mode → ⊥
on-a-table script g h line mode = by_line line
  where
    apart : {table : Table} → Relation table ≡ Transaction h → ⊥
    apart e = cc

    objects : {a b : Claim} → Some a ≡ Some b → a.object ≡ b.object
    objects e = ap (λ (c : Claim). c.object) (some-same _ _ e)

    none : {c : Claim} → None ≡ Some c → ⊥
    none e = cc

    by_line : (line : Stmt) → NeedsTable script g line (Transaction h) mode → ⊥
    by_line (stmt.Select query) e = apart (objects e)
    by_line (stmt.Insert table tuples) e = apart (objects e)
    by_line (stmt.Update table assigns cond) e = apart (objects e)
    by_line (stmt.Delete table cond) e = apart (objects e)
    by_line (stmt.Lock table other) e = apart (objects e)
    by_line (stmt.Begin level) e = none e
    by_line stmt.Commit e = none e
    by_line stmt.Rollback e = none e

no-writer : (marks : List Mark) (level : Level) (c : Cid) (line : Stmt) (script : Script) → All NoWrite marks → Needs script marks the_segment level first_txn c line (Transaction second_txn) Share → ⊥
no-writer marks level c line script none (inl z) = on-a-table script first_txn second_txn line Share z
no-writer marks level c line script none (inr z) = let way = z.3.1.2.0 in All-contains NoWrite marks (mark.Write second_txn way.write.cid the_segment z.0 z.3.1.0 way.write.image) none way.made

no-writer-there : {script : Script} {point : Point} → Asks script point the_segment first_txn (Transaction second_txn) Share → is_aborted (before point) first_txn ≡ false → AreNoWrites (before point) → ⊥
no-writer-there {script = script} {point = point} a none nobody = let u = under a none in no-writer (before point) u.asks.level u.asks.cid u.asks.line script (no-writes (before point) nobody) u.asks.needs

pub not-for-a-reader : (script : Script) (assigns : List Assign) (cond : Option Cond) (snapshot : Snapshot) → AreAsked (one_change script assigns cond) [] (waits_for_a_reader assigns cond snapshot) → ⊥
not-for-a-reader script assigns cond snapshot h = no-writer-there h.1.0.1.0 refl (tt, (tt, (tt, (tt, (tt, tt)))))

no-own-need : (script : Script) (marks : List Mark) (level : Level) (c : Cid) (line : Stmt) → Needs script marks the_segment level first_txn c line (Transaction first_txn) Exclusive → ⊥
no-own-need script marks level c line (inl z) = on-a-table script first_txn first_txn line Exclusive z
no-own-need script marks level c line (inr z) = other z.3.0
  where
    other : Exclusive ≡ Share → ⊥
    other q = cc

hold-is-write : (front : List Mark) (h w : Mark) → NoWrite h → (NoWrite w → ⊥) → h ∷ [] ≡ front ++ w ∷ [] → ⊥
hold-is-write [] h w n o e = o (subst NoWrite (first h w e) n)
  where
    first : (a b : Mark) → a ∷ [] ≡ b ∷ [] → a ≡ b
    first a b q = cc
hold-is-write (x ∷ []) h w n o e = longer h x w e
  where
    longer : (a b c : Mark) → a ∷ [] ≡ b ∷ c ∷ [] → ⊥
    longer a b c q = cc
hold-is-write (x ∷ y ∷ front) h w n o e = longer h x y (front ++ w ∷ []) e
  where
    longer : (a b c : Mark) (rest : List Mark) → a ∷ [] ≡ b ∷ c ∷ rest → ⊥
    longer a b c rest q = cc

no-own-there : {script : Script} {point : Point} → Asks script point the_segment first_txn (Transaction first_txn) Exclusive ⊎ GrantsWait script point the_segment first_txn (Transaction first_txn) Exclusive ⊎ LocksItself point.earlier the_segment first_txn (Transaction first_txn) Exclusive → is_aborted (before point) first_txn ≡ false → waits_at (before point) the_segment ≡ [] → point.earlier ≡ mark.Hold the_segment first_txn the_table Exclusive ∷ [] → ⊥
no-own-there {script = script} {point = point} (inl a) none nobody one = let u = under a none in no-own-need script (before point) u.asks.level u.asks.cid u.asks.line u.asks.needs
no-own-there {point = point} (inr (inl waited)) none nobody one =
    clash (list_any (same_claim (claim first_txn (Transaction first_txn) Exclusive)) (waits_at (before point) the_segment)) waited.waited (ap (list_any (same_claim (claim first_txn (Transaction first_txn) Exclusive))) nobody)
no-own-there (inr (inr own)) none nobody one = hold-is-write own.front (mark.Hold the_segment first_txn the_table Exclusive) (mark.Write first_txn own.cid the_segment own.table own.rid own.image) tt (λ e. e) (sym one ∙ own.behind)

pub not-itself : (script : Script) (assigns : List Assign) (cond : Option Cond) (snapshot : Snapshot) → AreAsked (one_change script assigns cond) [] (locks_itself_early assigns cond snapshot) → ⊥
not-itself script assigns cond snapshot h = no-own-there h.1.0.1.0 refl refl refl

-- A ROW THAT IT HASN'T SELECTED
-- nobody is shown any of these writes
abbrev AreUnshown : (Gxid → Cid → Bool) → List Mark → Type 0
AreUnshown shown [] = Unit {0}
AreUnshown shown (mark.Write g c node t r image ∷ ms) = (shown g c ≡ false) × AreUnshown shown ms
AreUnshown shown (_ ∷ ms) = AreUnshown shown ms

none-shown : (shown : Gxid → Cid → Bool) (table : Table) (rid : Rid) (ms : List Mark) → AreUnshown shown ms → image_after shown table rid None ms ≡ None
none-shown shown table rid [] e = refl
none-shown shown table rid (mark.Write g c node t r image ∷ ms) e =
    ap (λ b. image_after shown table rid (if b && ((t.0 == table.0) && is_same_rid r rid) then image else None) ms) e.0 ∙ none-shown shown table rid ms e.1
none-shown shown table rid (m ∷ ms) e = none-shown shown table rid ms e

-- who has committed at no point has committed at none before
not-in-front : (place : ℕ) (ms : List Mark) (h : Gxid) → is_committed ms h ≡ false → is_committed (take place ms) h ≡ false
not-in-front place ms h e =
    left-no (is_committed (take place ms) h) (is_committed (drop place ms) h) (sym (is_committed-append (take place ms) (drop place ms) h) ∙ ap (λ ns. is_committed ns h) (take-append-drop place ms) ∙ e)
  where
    left-no : (a b : Bool) → (a || b) ≡ false → a ≡ false
    left-no a b e = grind arith

-- so a command of another sees none of the rows
none-seen : {level : Level} {c : Cid} {table : Table} {cond : Option Cond} {rid : Rid} {marks : List Mark} → is_committed marks second_txn ≡ false
    → ((shown : Gxid → Cid → Bool) → shown second_txn first_cid ≡ false → AreUnshown shown marks) → IsToDo marks level first_txn c table cond rid → ⊥
none-seen {c = c} {table = table} {rid = rid} {marks = marks} running writes todo = none-some (sym (todo.sees.view.images rid ∙ none-shown shown table rid marks (writes shown unshown)) ∙ todo.shown)
  where
    shown : Gxid → Cid → Bool
    shown = is_shown_to (Some (first_txn, c)) (take todo.sees.place marks)

    unshown : shown second_txn first_cid ≡ false
    unshown = ap (λ b. b || false) (not-in-front todo.sees.place marks second_txn running)

    none-some : None ≡ Some todo.row → ⊥
    none-some e = cc

at-no-row : {script : Script} {point : Point} → Asks script point the_segment first_txn (Transaction second_txn) Share → is_aborted (before point) first_txn ≡ false → is_committed (before point) second_txn ≡ false
    → ((shown : Gxid → Cid → Bool) → shown second_txn first_cid ≡ false → AreUnshown shown (before point)) → ⊥
at-no-row {script = script} {point = point} a none running writes = let u = under a none in by_need u.asks.level u.asks.cid u.asks.line u.asks.needs
  where
    by_need : (level : Level) (c : Cid) (line : Stmt) → Needs script (before point) the_segment level first_txn c line (Transaction second_txn) Share → ⊥
    by_need level c line (inl z) = on-a-table script first_txn second_txn line Share z
    by_need level c line (inr z) = none-seen running writes (z.3.1.2.1 none)

pub not-unselected : (script : Script) (rows : List KeyedRow) (image : List Value) (assigns : List Assign) (cond : Option Cond) (tuples : List (List Expr)) (snapshot : Snapshot)
    → AreAsked (change_and_insert script assigns cond tuples) [] (waits_for_unselected rows image assigns cond snapshot) → ⊥
not-unselected script rows image assigns cond tuples snapshot h = at-no-row h.1.1.1.1.0.1.0 refl refl (λ shown e. (e, tt))

-- WHO HAS ENDED
no-end : {script : Script} {point : Point} → Asks script point the_segment first_txn (Transaction second_txn) Share → is_aborted (before point) first_txn ≡ false → is_held (before point) the_segment second_txn (Transaction second_txn) Exclusive ≡ false → ⊥
no-end {script = script} {point = point} a none free = let u = under a none in by_need u.asks.level u.asks.cid u.asks.line u.asks.needs
  where
    by_need : (level : Level) (c : Cid) (line : Stmt) → Needs script (before point) the_segment level first_txn c line (Transaction second_txn) Share → ⊥
    by_need level c line (inl z) = on-a-table script first_txn second_txn line Share z
    by_need level c line (inr z) = clash (is_held (before point) the_segment second_txn (Transaction second_txn) Exclusive) z.3.1.2.0.unended free

pub not-for-the-ended : (script : Script) (rows : List KeyedRow) (image : List Value) (assigns : List Assign) (cond : Option Cond) (tuples : List (List Expr)) (snapshot : Snapshot)
    → AreAsked (change_and_insert script assigns cond tuples) [] (waits_for_the_ended rows image assigns cond snapshot) → ⊥
not-for-the-ended script rows image assigns cond tuples snapshot h = no-end h.1.1.1.1.1.1.0.1.0 refl refl

-- THE ROW'S LOCK
no-lock : {script : Script} {point : Point} → Asks script point the_segment first_txn (Transaction third_txn) Share → is_aborted (before point) first_txn ≡ false → ((rid : Rid) → is_held (before point) the_segment first_txn (Tuple rid) Exclusive ≡ false) → ⊥
no-lock {script = script} {point = point} a none free = let u = under a none in by_need u.asks.level u.asks.cid u.asks.line u.asks.needs
  where
    by_need : (level : Level) (c : Cid) (line : Stmt) → Needs script (before point) the_segment level first_txn c line (Transaction third_txn) Share → ⊥
    by_need level c line (inl z) = on-a-table script first_txn third_txn line Share z
    by_need level c line (inr z) = clash (is_held (before point) the_segment first_txn (Tuple z.3.1.0) Exclusive) z.3.1.1 (free z.3.1.0)

pub not-without-lock : (script : Script) (rows : List KeyedRow) (image changed : List Value) (assigns : List Assign) (cond : Option Cond) (tuples : List (List Expr)) (snapshot later : Snapshot)
    → AreAsked (two_changes script assigns cond tuples) [] (waits_without_lock rows image changed assigns cond snapshot later) → ⊥
not-without-lock script rows image changed assigns cond tuples snapshot later h = no-lock h.1.1.1.1.1.1.1.1.0.1.0 refl (λ rid. refl)

-- WHO WAITS
pub not-silent : (query : Query) (snapshot : Snapshot) → AreWaitersSilent [] (done_while_waiting query snapshot) → ⊥
not-silent query snapshot h = clash true refl h.1.1.1.1.1.1.0.1.0
