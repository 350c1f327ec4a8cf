-- Which statements wait at the coordinator: a transaction has a wait among the coordinator's locks exactly where a statement of it
-- waits; it is some-same, and it is the lock of that statement's table.
use Rattle.std.proofs.Common.{◌≡◌, ℕ, List, [], ◌∷◌, ◌++◌, Option, Some, None, Bool, true, false, refl, sym, subst, ap, ◌∙◌, ◌==◌, arith, eqb, cond, not}
use Rattle.std.proofs.lemmas.Bool.Decides.{nat_tests}
use Rattle.std.proofs.lemmas.List.Elements.{filter-append}
use Rattle.std.specs.Prelude.{filter, find, is_some}
use Rattle.gx_lemmas.proofs.Numbers.{eqb-self}
use Rattle.gx_lemmas.proofs.Options.{some-same}
use Rattle.gx_ids.specs.declared.ids.Gxid.{Gxid}
use Rattle.gx_script.specs.declared.Script.{Script}
use Rattle.gx_tree.specs.declared.stmt.Stmt.{Stmt}
use Rattle.gx_tree.specs.declared.stmt.Stmt.TheVariants as stmt
use Rattle.gx_waits.specs.declared.claim.Claim.{Claim}
use Rattle.gx_waits.specs.Claims.{is_of, without}
use Rattle.gx_locks.specs.Locks.{Locks, wait_of}
use Rattle.gx_store.specs.Locks.{table_lock}
use Rattle.gx_law_order.specs.Standings.{gx}
use Rattle.gx_law_order.specs.Sessions.{IsQueued, claims_for, listed}

-- the waits of some-same transaction have changed
pub record Queues (script : Script) (old new : List Claim) (g : ℕ) (waiting : Option Stmt) : Type 0 where
  pub others : (j : ℕ) → eqb j g ≡ false → filter (is_of (gx j)) new ≡ filter (is_of (gx j)) old
  pub here : IsQueued script g waiting new

nothing-waits : {script : Script} (g : ℕ) (waits : List Claim) → filter (is_of (gx g)) waits ≡ [] → IsQueued script g None waits
nothing-waits g waits e = record { claims = e; locks = λ line q. absurd (cc) }

pub queued-by : {script : Script} (g : ℕ) (a b : Option Stmt) (waits : List Claim) → b ≡ a → IsQueued script g a waits → IsQueued script g b waits
queued-by {script = script} g a b waits e q = subst (λ o. IsQueued script g o waits) (sym e) q

pub queue-stays : {script : Script} (waits : List Claim) (g : ℕ) (waiting : Option Stmt) → IsQueued script g waiting waits → Queues script waits waits g waiting
queue-stays waits g waiting q = record { others = λ j n. refl; here = q }

pub queue-then : {script : Script} (a b c : List Claim) (g : ℕ) (x y : Option Stmt) → Queues script a b g x → Queues script b c g y → Queues script a c g y
queue-then a b c g x y q r = record { others = λ j n. r.others j n ∙ q.others j n; here = r.here }

-- GIVEN BACK
none-left : (g : Gxid) (waits : List Claim) → filter (is_of g) (without g waits) ≡ []
none-left g [] = refl
none-left g (w ∷ ws) = by_test (is_of g w) refl (none-left g ws)
  where
    by_test : (b : Bool) → is_of g w ≡ b → filter (is_of g) (without g ws) ≡ [] → filter (is_of g) (cond (not b) (w ∷ without g ws) (without g ws)) ≡ []
    by_test true e f = f
    by_test false e f = ap (λ b. cond b (w ∷ filter (is_of g) (without g ws)) (filter (is_of g) (without g ws))) e ∙ f

others-left : (g j : ℕ) (waits : List Claim) → eqb j g ≡ false → filter (is_of (gx j)) (without (gx g) waits) ≡ filter (is_of (gx j)) waits
others-left g j [] n = refl
others-left g j (w ∷ ws) n = by_test (is_of (gx g) w) refl (others-left g j ws n)
  where
    apart : (a : ℕ) → (a == g) ≡ true → (a == j) ≡ false
    apart a e = grind (arith, nat_tests)

    by_test : (b : Bool) → is_of (gx g) w ≡ b → filter (is_of (gx j)) (without (gx g) ws) ≡ filter (is_of (gx j)) ws → filter (is_of (gx j)) (cond (not b) (w ∷ without (gx g) ws) (without (gx g) ws)) ≡ cond (is_of (gx j) w) (w ∷ filter (is_of (gx j)) ws) (filter (is_of (gx j)) ws)
    by_test true e f = f ∙ sym (ap (λ b. cond b (w ∷ filter (is_of (gx j)) ws) (filter (is_of (gx j)) ws)) (apart w.gxid.0 e))
    by_test false e f = ap (λ l. cond (is_of (gx j) w) (w ∷ l) l) f

pub queue-released : {script : Script} (waits : List Claim) (g : ℕ) → Queues script waits (without (gx g) waits) g None
queue-released waits g = record { others = λ j n. others-left g j waits n; here = nothing-waits g (without (gx g) waits) (none-left (gx g) waits) }

-- ONE MORE
pub lock-of : (script : Script) (g : Gxid) (line : Stmt) (wanted : Claim) → table_lock script g line ≡ Some wanted → wanted.gxid ≡ g
lock-of script g line wanted e = by_line line e
  where
    same : (a b : Claim) → Some a ≡ Some b → b.gxid ≡ a.gxid
    same a b q = cc

    by_line : (line : Stmt) → table_lock script g line ≡ Some wanted → wanted.gxid ≡ g
    by_line (stmt.Select query) e = same _ wanted e
    by_line (stmt.Insert table tuples) e = same _ wanted e
    by_line (stmt.Update table assigns cond) e = same _ wanted e
    by_line (stmt.Delete table cond) e = same _ wanted e
    by_line (stmt.Lock table mode) e = same _ wanted e
    by_line (stmt.Begin level) e = absurd (cc)
    by_line stmt.Commit e = absurd (cc)
    by_line stmt.Rollback e = absurd (cc)

pub queue-waits : {script : Script} (waits : List Claim) (g : ℕ) (line : Stmt) (wanted : Claim) → IsQueued script g None waits → table_lock script (gx g) line ≡ Some wanted → Queues script waits (waits ++ wanted ∷ []) g (Some line)
queue-waits {script = script} waits g line wanted q e =
    record {
      others = λ j n. filter-append (is_of (gx j)) waits (wanted ∷ []) ∙ ap (λ b. filter (is_of (gx j)) waits ++ cond b (wanted ∷ []) []) (away j n) ∙ nothing-more (filter (is_of (gx j)) waits);
      here = record {
        claims = filter-append (is_of (gx g)) waits (wanted ∷ []) ∙ ap (λ b. filter (is_of (gx g)) waits ++ cond b (wanted ∷ []) []) mine ∙ ap (λ l. l ++ wanted ∷ []) q.claims ∙ sym (ap listed e);
        locks = λ other same. subst (λ l. is_some (table_lock script (gx g) l) ≡ true) (some-same line other same) (ap is_some e);
      };
    }
  where
    nothing-more : (xs : List Claim) → xs ++ [] ≡ xs
    nothing-more xs = Rattle.std.proofs.Common.append-nil xs

    mine : is_of (gx g) wanted ≡ true
    mine = ap (λ (h : Gxid). h.0 == g) (lock-of script (gx g) line wanted e) ∙ eqb-self g

    away : (j : ℕ) → eqb j g ≡ false → is_of (gx j) wanted ≡ false
    away j n = ap (λ (h : Gxid). h.0 == j) (lock-of script (gx g) line wanted e) ∙ other g j n
      where
        other : (a b : ℕ) → eqb b a ≡ false → (a == b) ≡ false
        other a b n = grind (arith, nat_tests)

-- WHO WAITS
-- the wait of a transaction is the first of its waits
abbrev FirstWait : List Claim → Option Claim → Type 0
FirstWait those o = (those ≡ [] → o ≡ None) × ((x : Claim) (xs : List Claim) → those ≡ x ∷ xs → o ≡ Some x)

first-wait : (g : Gxid) (waits : List Claim) → FirstWait (filter (is_of g) waits) (find (is_of g) waits)
first-wait g [] = (λ e. refl, λ x xs e. absurd (cc))
first-wait g (w ∷ ws) = by_test (is_of g w) (first-wait g ws)
  where
    by_test : (b : Bool) → FirstWait (filter (is_of g) ws) (find (is_of g) ws) → FirstWait (cond b (w ∷ filter (is_of g) ws) (filter (is_of g) ws)) (cond b (Some w) (find (is_of g) ws))
    by_test true f = (λ e. absurd (cc), λ x xs e. cc)
    by_test false f = f

-- whose statement waits has its table's lock as its wait, and no other
pub statement-waits : {script : Script} (g : ℕ) (waiting : Option Stmt) (locks : Locks) → IsQueued script g waiting locks.waits → (line : Stmt) → waiting ≡ Some line → wait_of locks (gx g) ≡ table_lock script (gx g) line
statement-waits {script = script} g waiting locks q line e = by_lock (table_lock script (gx g) line) refl
  where
    claims : filter (is_of (gx g)) locks.waits ≡ listed (table_lock script (gx g) line)
    claims = q.claims ∙ ap (claims_for script (gx g)) e

    by_lock : (o : Option Claim) → table_lock script (gx g) line ≡ o → wait_of locks (gx g) ≡ o
    by_lock None f = (first-wait (gx g) locks.waits).0 (claims ∙ ap listed f)
    by_lock (Some wanted) f = (first-wait (gx g) locks.waits).1 wanted [] (claims ∙ ap listed f)

-- and whose doesn't has none
pub nothing-queued : {script : Script} (g : ℕ) (waiting : Option Stmt) (locks : Locks) → IsQueued script g waiting locks.waits → waiting ≡ None → wait_of locks (gx g) ≡ None
nothing-queued {script = script} g waiting locks q e = (first-wait (gx g) locks.waits).0 (q.claims ∙ ap (claims_for script (gx g)) e)

-- who has a wait has a statement that waits for it
pub record WaitsFor (script : Script) (g : ℕ) (waiting : Option Stmt) (wanted : Claim) : Type 0 where
  pub line : Stmt
  pub is : waiting ≡ Some line
  pub lock : table_lock script (gx g) line ≡ Some wanted

pub waits-for : {script : Script} (g : ℕ) (waiting : Option Stmt) (locks : Locks) → IsQueued script g waiting locks.waits → (wanted : Claim) → wait_of locks (gx g) ≡ Some wanted → WaitsFor script g waiting wanted
waits-for {script = script} g waiting locks q wanted e = by_waiting waiting refl
  where
    neither : {B : Type 0} (o : Option Claim) → o ≡ None → o ≡ Some wanted → B
    neither o e f = absurd (cc)

    by_waiting : (o : Option Stmt) → waiting ≡ o → WaitsFor script g o wanted
    by_waiting None f = neither (wait_of locks (gx g)) (nothing-queued g waiting locks q f) e
    by_waiting (Some line) f = record { line = line; is = refl; lock = sym (statement-waits g waiting locks q line f) ∙ e }
