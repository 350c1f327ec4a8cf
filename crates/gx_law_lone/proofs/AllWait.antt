-- Where nothing but a round is enabled, all waits together are a blocked set, so the round that is decided over them names somebody.
use Rattle.std.proofs.Common.{◌≡◌, ◌≤◌, ◌<◌, ◌⊎◌, inl, inr, ℕ, List, [], ◌∷◌, ◌++◌, Option, Some, None, Bool, true, false, not, refl, sym, subst, ap, ◌∙◌, if◌then◌else◌, ◌&&◌, ◌||◌, ◌==◌, arith, eqb, length, All, Contains}
use Rattle.std.proofs.lemmas.Bool.{eqb-true}
use Rattle.std.proofs.lemmas.Bool.Decides.{nat_tests}
use Rattle.std.proofs.lemmas.List.Elements.{All-contains, All-contains_itself}
use Rattle.std.specs.List.{list_all, list_any}
use Rattle.std.specs.Prelude.{Any, IsTrue, cond, filter, find, is_some}
use Rattle.gx_lemmas.proofs.Numbers.{eqb-self}
use Rattle.gx_lemmas.proofs.Tests.{true-false}
use Rattle.gx_ids.specs.declared.ids.Gxid.{Gxid}
use Rattle.gx_ids.specs.declared.ids.Node.{Node}
use Rattle.gx_ids.specs.declared.rid.Rid.{Rid}
use Rattle.gx_tree.specs.declared.stmt.Stmt.{Stmt}
use Rattle.gx_tree.specs.declared.stmt.Stmt.TheVariants as stmt
use Rattle.gx_waits.proofs.Members.{Has, all_from_each, any_from_has, contains_from_has, has_from_any, has_from_contains}
use Rattle.gx_waits.specs.Claim.{IsEdge, IsEdgeOf, Meets, ahead, edge_of, in_the_way, is_ahead, is_tuple, meets, same_claim}
use Rattle.gx_waits.specs.Claims.{is_of}
use Rattle.gx_waits.specs.Closed.{IsClosed, IsNamedIn, IsNamedInStuck, IsStuck, Waits, WaitsAt}
use Rattle.gx_waits.specs.Victims.{IsVerdict}
use Rattle.gx_waits.specs.declared.claim.Claim.{Claim}
use Rattle.gx_waits.specs.declared.edge.Edge.{Edge}
use Rattle.gx_waits.specs.declared.object.Object.{Object}
use Rattle.gx_waits.specs.declared.object.Object.TheVariants.{Relation, Transaction, Tuple}
use Rattle.gx_waits.specs.declared.placed_edge.PlacedEdge.{PlacedEdge}
use Rattle.gx_waits.specs.declared.verdict.Verdict.{Verdict}
use Rattle.gx_waits.specs.declared.verdict.Verdict.TheVariants.{Dropped, Nothing, Victims}
use Rattle.gx_locks.proofs.Meets.{Meets_from_test}
use Rattle.gx_locks.specs.Locks.{Locks, is_ready, may_take, wait_of}
use Rattle.gx_script.specs.declared.Script.{Script}
use Rattle.gx_store.specs.Language.{AreLinesNumbered}
use Rattle.gx_store.specs.Locks.{table_lock}
use Rattle.gx_store.specs.Points.{marks_in}
use Rattle.gx_store.specs.Refusals.{the_coordinator}
use Rattle.gx_store.specs.Rounds.{IsBlocked, StandsAt, is_active}
use Rattle.gx_store.specs.Schedule.{enabled}
use Rattle.gx_store.specs.Waits.{holds_at, waits_at}
use Rattle.gx_store.specs.Whole.{AreInsertsWhole}
use Rattle.gx_store.specs.declared.event.Event.{Event}
use Rattle.gx_store.specs.declared.mark.Mark.{Mark}
use Rattle.gx_store.specs.declared.run.Step.{Step}
use Rattle.gx_rules.specs.Coordinators.{Coord}
use Rattle.gx_rules.specs.Machine.{World, world_of}
use Rattle.gx_rules.specs.Segments.{Seg, local_of}
use Rattle.gx_law_order.proofs.Waiting.{HasStatement, has-statement, waiting}
use Rattle.gx_law_order.proofs.World.{world_knows}
use Rattle.gx_law_order.specs.Lists.{Each}
use Rattle.gx_law_order.specs.Standings.{at}
use Rattle.gx_law_locks.proofs.Claims.{each-once, gxid-of}
use Rattle.gx_law_locks.proofs.Graphs.{has-split}
use Rattle.gx_law_locks.proofs.HoldsInRuns.{world-locked}
use Rattle.gx_law_locks.specs.Marked.{AreLocksMarked, IsMarked}
use Rattle.gx_law_runs.specs.Awaiting.{locks_at}
use Rattle.gx_law_runs.specs.Openings.{is_round_or_opening}
use Rattle.gx_law_runs.specs.Reached.{IsReached}
use Rattle.gx_law_lone.specs.Alone.{AreAllWaits, WaitsSomewhere}
use Rattle.gx_law_lone.specs.Rows.{WaitsAtRow}
use Rattle.gx_law_lone.specs.Victims.{NamesSomebody}
use Rattle.gx_law_lone.proofs.Alone.{coordinator-holder-waits, row-waits, segment-holder-waits, wait-active, wait-meets}

-- LISTS
pub any-has : {A : Type 0} (p : A → Bool) (xs : List A) → list_any p xs ≡ true → (x : A) × Has x xs × (p x ≡ true)
any-has p [] e = absurd (cc)
any-has {A = A} p (x ∷ xs) e = by_test (p x) refl e (any-has p xs)
  where
    by_test : (b : Bool) → p x ≡ b → (b || list_any p xs) ≡ true → (list_any p xs ≡ true → (y : A) × Has y xs × (p y ≡ true)) → (y : A) × Has y (x ∷ xs) × (p y ≡ true)
    by_test true q f later = (x, inl refl, q)
    by_test false q f later = let a = later f in (a.0, inr a.1, a.2)

find-has : (p : Claim → Bool) (xs : List Claim) (x : Claim) → find p xs ≡ Some x → Has x xs × (p x ≡ true)
find-has p [] x e = absurd (cc)
find-has p (y ∷ xs) x e = by_test (p y) refl e (find-has p xs x)
  where
    same : (a b : Claim) → Some a ≡ Some b → a ≡ b
    same a b q = cc

    by_test : (b : Bool) → p y ≡ b → (if b then Some y else find p xs) ≡ Some x → (find p xs ≡ Some x → Has x xs × (p x ≡ true)) → Has x (y ∷ xs) × (p x ≡ true)
    by_test true q f later = let s = same y x f in (inl s, subst (λ z. p z ≡ true) s q)
    by_test false q f later = let a = later f in (inr a.0, a.1)

has-find : (p : Claim → Bool) (xs : List Claim) (x : Claim) → Has x xs → p x ≡ true → is_some (find p xs) ≡ true
has-find p [] x h e = absurd h
has-find p (y ∷ xs) x h e = by_test (p y) refl h (λ k. has-find p xs x k e)
  where
    by_test : (b : Bool) → p y ≡ b → Has x (y ∷ xs) → (Has x xs → is_some (find p xs) ≡ true) → is_some (if b then Some y else find p xs) ≡ true
    by_test true q k later = refl
    by_test false q (inl s) later = absurd (true-false (p x) e (ap p (sym s) ∙ q))
    by_test false q (inr k) later = later k

filter-has : (p : Claim → Bool) (xs : List Claim) (x : Claim) → Has x (filter p xs) → Has x xs
filter-has p [] x h = absurd h
filter-has p (y ∷ xs) x h = by_test (p y) h (filter-has p xs x)
  where
    by_test : (b : Bool) → Has x (cond b (y ∷ filter p xs) (filter p xs)) → (Has x (filter p xs) → Has x xs) → Has x (y ∷ xs)
    by_test true (inl s) later = inl s
    by_test true (inr k) later = inr (later k)
    by_test false k later = inr (later k)

ahead-has : (c : Claim) (xs : List Claim) (x : Claim) → Has x (ahead c xs) → Has x xs
ahead-has c [] x h = absurd h
ahead-has c (y ∷ xs) x h = by_test (same_claim c y) h (ahead-has c xs x)
  where
    by_test : (b : Bool) → Has x (if b then [] else y ∷ ahead c xs) → (Has x (ahead c xs) → Has x xs) → Has x (y ∷ xs)
    by_test true k later = absurd k
    by_test false (inl s) later = inl s
    by_test false (inr k) later = inr (later k)

each-has : (P : Claim → Type 0) (xs : List Claim) (x : Claim) → Each P xs → Has x xs → P x
each-has P [] x e h = absurd h
each-has P (y ∷ xs) x e (inl s) = subst P s e.0
each-has P (y ∷ xs) x e (inr k) = each-has P xs x e.1 k

tuple-of : (o : Object) → is_tuple o ≡ true → (rid : Rid) × (o ≡ Tuple rid)
tuple-of (Tuple rid) e = (rid, refl)
tuple-of (Relation t) e = absurd (cc)
tuple-of (Transaction g) e = absurd (cc)

table-no-tuple : (script : Script) (g : Gxid) (line : Stmt) (wanted : Claim) → table_lock script g line ≡ Some wanted → is_tuple wanted.object ≡ false
table-no-tuple script g line wanted e = by_line line e
  where
    same : (a b : Claim) → Some a ≡ Some b → a ≡ b
    same a b q = cc

    by_line : (l : Stmt) → table_lock script g l ≡ Some wanted → is_tuple wanted.object ≡ false
    by_line (stmt.Select q) f = subst (λ (c : Claim). is_tuple c.object ≡ false) (same _ wanted f) refl
    by_line (stmt.Insert table tuples) f = subst (λ (c : Claim). is_tuple c.object ≡ false) (same _ wanted f) refl
    by_line (stmt.Update table assigns cond) f = subst (λ (c : Claim). is_tuple c.object ≡ false) (same _ wanted f) refl
    by_line (stmt.Delete table cond) f = subst (λ (c : Claim). is_tuple c.object ≡ false) (same _ wanted f) refl
    by_line (stmt.Lock table mode) f = subst (λ (c : Claim). is_tuple c.object ≡ false) (same _ wanted f) refl
    by_line (stmt.Begin level) f = absurd (cc)
    by_line stmt.Commit f = absurd (cc)
    by_line stmt.Rollback f = absurd (cc)

-- an edge: who waits, and what is in its way
record IsEdgeBetween (holds waits : List Claim) (e : Edge) : Type 0 where
  wait : Claim
  among : Has wait waits
  other : Claim
  way : Has other (in_the_way holds waits wait)
  meets : Meets wait other
  is : e ≡ edge_of wait other

edge-between : (holds waits : List Claim) (e : Edge) → IsEdge waits holds e → IsEdgeBetween holds waits e
edge-between holds waits e is =
    let a = has_from_any (λ wait. IsEdgeOf wait (in_the_way holds waits wait) e) waits is in
    let b = has_from_any (λ claim. Meets a.0 claim × (e ≡ edge_of a.0 claim)) (in_the_way holds waits a.0) a.2 in
    record { wait = a.0; among = a.1; other = b.0; way = b.1; meets = b.2.0; is = b.2.1 }

-- WHERE NOTHING BUT A ROUND IS ENABLED
module _ (script : Script) (some : 1 ≤ script.segments) (inserts : AreInsertsWhole script.tables script.lines) (es : List (Event × Bool)) (nothing : list_all (is_round_or_opening script (world_of script es).steps) (enabled script (world_of script es).steps) ≡ true)
    (numbered : AreLinesNumbered [] script.lines) (sessions : All (λ line. line.session.0 < length script.sessions) script.lines) (edges : List PlacedEdge) (are : AreAllWaits script (marks_in (world_of script es).steps) edges)
  where
    abbrev w : World
    w = world_of script es

    abbrev ms : List Mark
    ms = marks_in (world_of script es).steps

    marked : AreLocksMarked (world_of script es)
    marked = (world-locked script some es).marked

    one : (i : ℕ) → (i == 0) ≡ false → 1 ≤ i
    one i e = grind (arith, nat_tests)

    marked-at : (n : Node) → IsMarked ms n (locks_at w n)
    marked-at n = by_node (n.0 == 0) refl
      where
        by_node : (b : Bool) → (n.0 == 0) ≡ b → IsMarked ms n (if b then w.coord.locks else (w.segs n.0).locks)
        by_node true e = subst (λ i. IsMarked ms (record { 0 = i }) w.coord.locks) (sym (eqb-true n.0 0 e)) marked.coordinator
        by_node false e = marked.segments n.0 (one n.0 e)

    -- whoever waits at a node waits for somebody there
    waits-for : (n : Node) → n.0 ≤ script.segments → (g : Gxid) → is_some (wait_of (locks_at w n) g) ≡ true → WaitsAt edges n g
    waits-for n within g waits = by_wait (wait_of l g) refl waits (wait-meets script some inserts es nothing n within g waits)
      where
        l : Locks
        l = locks_at w n

        by_wait : (o : Option Claim) → wait_of l g ≡ o → is_some o ≡ true → is_ready l o ≡ false → WaitsAt edges n g
        by_wait None e f h = absurd (cc)
        by_wait (Some wait) e f h =
            let found = find-has (is_of g) l.waits wait e in
            let met = any-has (meets wait) (in_the_way l.holds l.waits wait) (not-not _ h) in
            let edge : PlacedEdge = record { node = n; edge = edge_of wait met.0 } in
            let stands : IsEdge l.waits l.holds edge.edge =
            any_from_has (λ x. IsEdgeOf x (in_the_way l.holds l.waits x) edge.edge) l.waits wait found.0
            (any_from_has (λ claim. Meets wait claim × (edge.edge ≡ edge_of wait claim)) (in_the_way l.holds l.waits wait) met.0 met.1 (Meets_from_test wait met.0 met.2, refl)) in
            any_from_has (λ (e : PlacedEdge). (e.node ≡ n) × (e.edge.waiter ≡ g)) edges edge
            (has_from_contains edge edges (are.all_of_them edge within (subst (λ hs. IsEdge (waits_at ms n) hs edge.edge) (marked-at n).holds (subst (λ ws. IsEdge ws l.holds edge.edge) (marked-at n).waits stands))))
            (refl, gxid-of wait.gxid g found.1)
          where
            not-not : (b : Bool) → not b ≡ false → b ≡ true
            not-not true e = refl
            not-not false e = absurd (cc)

    somewhere : (g : Gxid) → WaitsSomewhere script w g → Waits edges g
    somewhere g x =
        let a = has_from_any (λ (e : PlacedEdge). (e.node ≡ x.at) × (e.edge.waiter ≡ g)) edges (waits-for x.at x.within g x.waits) in
        any_from_has (λ (e : PlacedEdge). e.edge.waiter ≡ g) edges a.0 a.1 a.2.1

    waits-in : (n : Node) (wait : Claim) → Has wait (locks_at w n).waits → is_some (wait_of (locks_at w n) wait.gxid) ≡ true
    waits-in n wait h = has-find (is_of wait.gxid) (locks_at w n).waits wait h (eqb-self wait.gxid.0)

    -- whoever is in the way waits too
    holder-waits : (n : Node) → n.0 ≤ script.segments → (hold : Claim) → Has hold (locks_at w n).holds → WaitsSomewhere script w hold.gxid
    holder-waits n within hold h = by_node (n.0 == 0) refl h
      where
        by_node : (b : Bool) → (n.0 == 0) ≡ b → Has hold (if b then w.coord.locks else (w.segs n.0).locks).holds → WaitsSomewhere script w hold.gxid
        by_node true e k = coordinator-holder-waits script some inserts es nothing numbered sessions hold (contains_from_has hold w.coord.locks.holds k)
        by_node false e k = segment-holder-waits script some inserts es nothing numbered sessions n.0 (one n.0 e, within) hold (contains_from_has hold (w.segs n.0).locks.holds k)

    way-waits : (n : Node) → n.0 ≤ script.segments → (wait other : Claim) → Has other (in_the_way (locks_at w n).holds (locks_at w n).waits wait) → WaitsSomewhere script w other.gxid
    way-waits n within wait other h = by_way (has-split other l.holds (filter (is_ahead l.holds wait) (ahead wait l.waits)) h)
      where
        l : Locks
        l = locks_at w n

        by_way : Has other l.holds ⊎ Has other (filter (is_ahead l.holds wait) (ahead wait l.waits)) → WaitsSomewhere script w other.gxid
        by_way (inl k) = holder-waits n within other k
        by_way (inr k) = record { at = n; within = within; waits = waits-in n other (ahead-has wait l.waits other (filter-has (is_ahead l.holds wait) (ahead wait l.waits) other k)) }

    -- and where a row's lock is waited for, there
    row-there : (n : Node) → n.0 ≤ script.segments → (wait hold : Claim) → Has wait (locks_at w n).waits → Has hold (locks_at w n).holds → Meets wait hold → is_tuple wait.object ≡ true → is_some (wait_of (locks_at w n) hold.gxid) ≡ true
    row-there n within wait hold i h m tuple = by_node (n.0 == 0) refl i h
      where
        by_table : (o : Option Claim) → wait_of w.coord.locks wait.gxid ≡ o → is_some o ≡ true → Has wait w.coord.locks.waits → ⊥
        by_table None e f k = absurd (cc)
        by_table (Some wanted) e f k =
            let s : HasStatement script w.coord wait.gxid wanted = has-statement script w (world_knows script some es) wait.gxid wanted e in
            let same : wait ≡ wanted = each-has (λ x. is_of wait.gxid x ≡ true → x ≡ wanted) w.coord.locks.waits wait (each-once (is_of wait.gxid) w.coord.locks.waits wanted s.once) k (eqb-self wait.gxid.0) in
            true-false (is_tuple wait.object) tuple (ap (λ (c : Claim). is_tuple c.object) same ∙ table-no-tuple script wait.gxid s.line wanted s.lock)

        some-is : (o : Option Claim) (c : Claim) → o ≡ Some c → is_some o ≡ true
        some-is o c e = cc

        by_node : (b : Bool) → (n.0 == 0) ≡ b → Has wait (if b then w.coord.locks else (w.segs n.0).locks).waits → Has hold (if b then w.coord.locks else (w.segs n.0).locks).holds → is_some (wait_of (if b then w.coord.locks else (w.segs n.0).locks) hold.gxid) ≡ true
        by_node true e j k = absurd (by_table (wait_of w.coord.locks wait.gxid) refl (has-find (is_of wait.gxid) w.coord.locks.waits wait j (eqb-self wait.gxid.0)) j)
        by_node false e j k =
            let rid = tuple-of wait.object tuple in
            let x : WaitsAtRow w (at n.0) hold.gxid rid.0 = row-waits script some inserts es nothing n.0 (one n.0 e, within) hold rid.0 (contains_from_has hold (w.segs n.0).locks.holds k) (sym m.same_object ∙ rid.1) in
            let y = waiting script w (world_knows script some es).well n.0 hold.gxid x.slice x.waits in
            some-is (wait_of (w.segs n.0).locks hold.gxid) y.wanted y.wants

    way-there : (n : Node) → n.0 ≤ script.segments → (wait other : Claim) → Has wait (locks_at w n).waits → Has other (in_the_way (locks_at w n).holds (locks_at w n).waits wait) → Meets wait other → is_tuple wait.object ≡ true → is_some (wait_of (locks_at w n) other.gxid) ≡ true
    way-there n within wait other i h m tuple = by_way (has-split other l.holds (filter (is_ahead l.holds wait) (ahead wait l.waits)) h)
      where
        l : Locks
        l = locks_at w n

        by_way : Has other l.holds ⊎ Has other (filter (is_ahead l.holds wait) (ahead wait l.waits)) → is_some (wait_of l other.gxid) ≡ true
        by_way (inl k) = row-there n within wait other i k m tuple
        by_way (inr k) = waits-in n other (ahead-has wait l.waits other (filter-has (is_ahead l.holds wait) (ahead wait l.waits) other k))

    -- an edge of them
    between : (e : PlacedEdge) → Has e edges → IsEdgeBetween (locks_at w e.node).holds (locks_at w e.node).waits e.edge
    between e h =
        edge-between (locks_at w e.node).holds (locks_at w e.node).waits e.edge
        (subst (λ hs. IsEdge (locks_at w e.node).waits hs e.edge) (sym (marked-at e.node).holds) (subst (λ ws. IsEdge ws (holds_at ms e.node) e.edge) (sym (marked-at e.node).waits) (are.no_others e (contains_from_has e edges h)).1))

    inside : (e : PlacedEdge) → Has e edges → e.node.0 ≤ script.segments
    inside e h = (are.no_others e (contains_from_has e edges h)).0

    all-closed : IsClosed edges
    all-closed =
        record {
          holders_wait = all_from_each (λ e. Waits edges e.edge.holder) edges (λ e h.
              let b = between e h in
              subst (λ g. Waits edges g) (sym (ap (λ (x : Edge). x.holder) b.is)) (somewhere b.other.gxid (way-waits e.node (inside e h) b.wait b.other b.way)));
          dotted_holders_wait_there = all_from_each (λ e. IsTrue e.edge.dotted → WaitsAt edges e.node e.edge.holder) edges (λ e h dotted.
              let b = between e h in
              subst (λ g. WaitsAt edges e.node g) (sym (ap (λ (x : Edge). x.holder) b.is))
              (waits-for e.node (inside e h) b.other.gxid (way-there e.node (inside e h) b.wait b.other b.among b.way b.meets (sym (ap (λ (x : Edge). x.dotted) b.is) ∙ dotted))));
        }

    active-there : (g : Gxid) → WaitsSomewhere script w g → is_active ms g ≡ true
    active-there g x = wait-active script some inserts es nothing x.at x.within g x.waits

    pub all-blocked : IsBlocked (marks_in (world_of script es).steps) edges
    all-blocked =
        record {
          closed = all-closed;
          standing = all_from_each (StandsAt ms) edges (λ e h. (are.no_others e (contains_from_has e edges h)).1);
          active = all_from_each (λ (e : PlacedEdge). (is_active ms e.edge.waiter ≡ true) × (is_active ms e.edge.holder ≡ true)) edges (λ e h.
              let b = between e h in (
                ap (λ (x : Edge). is_active ms x.waiter) b.is ∙ wait-active script some inserts es nothing e.node (inside e h) b.wait.gxid (waits-in e.node b.wait b.among),
                ap (λ (x : Edge). is_active ms x.holder) b.is ∙ active-there b.other.gxid (way-waits e.node (inside e h) b.wait b.other b.way),
              ));
        }

    -- and whoever waits is the waiter of one
    pub waiter-waits : (n : Node) → n.0 ≤ script.segments → (wait : Claim) → Has wait (locks_at (world_of script es) n).waits → Waits edges wait.gxid
    waiter-waits n within wait h = somewhere wait.gxid (record { at = n; within = within; waits = waits-in n wait h })

-- THE VERDICT
-- over a blocked set with an edge in it the verdict names somebody
pub names-somebody : (marks : List Mark) (edges : List PlacedEdge) (active : List Gxid) (verdict : Verdict) (e : PlacedEdge) → IsBlocked marks edges → ((g : Gxid) → is_active marks g ≡ true → Contains active g) → Contains edges e → IsVerdict edges active verdict → NamesSomebody verdict
names-somebody marks edges active verdict e b all inside v = by_verdict verdict v
  where
    stuck : IsStuck edges e
    stuck = record { set = edges; closed = b.closed; within = All-contains_itself edges; member = inside }

    active-of : (f : PlacedEdge) (g : Gxid) → Contains edges f → IsNamedIn f g → Contains active g
    active-of f g h (inl s) = subst (Contains active) s (all f.edge.waiter (All-contains (λ (x : PlacedEdge). (is_active marks x.edge.waiter ≡ true) × (is_active marks x.edge.holder ≡ true)) edges f b.active h).0)
    active-of f g h (inr s) = subst (Contains active) s (all f.edge.holder (All-contains (λ (x : PlacedEdge). (is_active marks x.edge.waiter ≡ true) × (is_active marks x.edge.holder ≡ true)) edges f b.active h).1)

    named-active : (g : Gxid) → IsNamedInStuck edges g → Contains active g
    named-active g n = active-of n.0 g (All-contains (λ x. Contains edges x) n.1.set n.0 n.1.within n.1.member) n.2

    by_verdict : (x : Verdict) → IsVerdict edges active x → NamesSomebody x
    by_verdict Nothing f = f e stuck
    by_verdict (Dropped g) f = f.inactive (named-active g f.stuck)
    by_verdict (Victims []) f = f.2 e stuck
    by_verdict (Victims (g ∷ gs)) f = tt

-- IN EVERY RUN THAT IS REACHED
pub alone-blocked : (script : Script) (steps : List Step) (edges : List PlacedEdge) → 1 ≤ script.segments → AreLinesNumbered [] script.lines → All (λ line. line.session.0 < length script.sessions) script.lines → AreInsertsWhole script.tables script.lines
    → (is : IsReached script steps) → list_all (is_round_or_opening script steps) (enabled script steps) ≡ true → AreAllWaits script (marks_in steps) edges → IsBlocked (marks_in steps) edges
alone-blocked script steps edges some numbered sessions inserts is nothing are =
    subst (λ ss. IsBlocked (marks_in ss) edges) is.is
    (all-blocked script some inserts is.events (subst (λ ss. list_all (is_round_or_opening script ss) (enabled script ss) ≡ true) (sym is.is) nothing) numbered sessions edges (subst (λ ss. AreAllWaits script (marks_in ss) edges) (sym is.is) are))
