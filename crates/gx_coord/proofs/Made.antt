-- A coordinator that has done nothing.
use Rattle.std.proofs.Common.{◌≡◌, ◌≤◌, ◌+◌, ◌∙◌, ℕ, zero, suc, List, [], refl, sym, ap, length, slice_index}
use Rattle.std.proofs.Math.Path.{fun_ext}
use Rattle.std.specs.Prelude.{replicate}
use Rattle.gx_ids.specs.declared.ids.Gxid.{Gxid}
use Rattle.gx_tree.specs.declared.stmt.Level.TheVariants.{ReadCommitted}
use Rattle.gx_detect.specs.Rounds.{Rounds, no_rounds}
use Rattle.gx_dtx.specs.Table.{Table, new_table}
use Rattle.gx_locks.specs.Locks.{Locks}
use Rattle.gx_script.specs.declared.Script.{Script}
use Rattle.gx_store.specs.Language.{IsScript}
use Rattle.gx_rules.specs.Coordinators as rule
use Rattle.gx_rules.specs.Coordinators.{new_coordinator, new_session, no_work}
use Rattle.gx_rules.specs.Machine.{new_world}
use Rattle.gx_rules.specs.Segments.{no_locks}
use Rattle.gx_store.specs.Refusals.{the_coordinator}
use Rattle.gx_store.specs.Points.{marks_in}
use Rattle.gx_law_order.proofs.World.{new_knows}
use Rattle.gx_coord.specs.Books.{coord_of, found, fresh_session, session_at, session_in}
use Rattle.gx_coord.specs.Places.{AreIndexed}
use Rattle.gx_coord.specs.Sound.{IsSound}
use Rattle.gx_coord.specs.Steps.{IsCoord}
use Rattle.gx_coord.specs.declared.coord.Coord.{Coord}
use Rattle.gx_coord.specs.declared.work.Session.{Session}
use Rattle.gx_coord.specs.declared.work.Work.{Work}
use Rattle.gx_coord.proofs.Sound.{none-sound}

-- all that is asked of a coordinator, from its data
pub is-coord : (k : Coord) (c : rule.Coord) → coord_of k ≡ c → length k.sessions.items ≡ length k.script.value.sessions → IsScript k.script.value → AreIndexed k.script.value.lines (length k.script.value.sessions) k.places.items → length k.sent.items ≡ k.script.value.segments + 1 → k.detector.segments ≡ k.script.value.segments → IsSound k.script.value c → IsCoord k c
is-coord k c e n l p s d h =
    record {
      table = ap (λ (x : rule.Coord). x.table) e;
      works = λ g. ap (λ (x : rule.Coord). x.works g) e;
      count = n;
      sessions = λ i session q. ap session_in (sym q) ∙ ap (λ (x : rule.Coord). x.sessions i) e;
      clock = ap (λ (x : rule.Coord). x.clock) e;
      holds = e;
      language = l;
      places = p;
      sent = s;
      segments = d;
      sound = h;
    }

fresh-at : (n s : ℕ) → session_at (replicate n fresh_session) s ≡ new_session
fresh-at zero s = refl
fresh-at (suc n) zero = refl
fresh-at (suc n) (suc s) = fresh-at n s

zero-at : (n i : ℕ) → slice_index (replicate n 0) i ≡ 0
zero-at zero i = refl
zero-at (suc n) zero = refl
zero-at (suc n) (suc i) = zero-at n i

pub new-holds : (k : Coord) (n m j : ℕ) → k.dtx ≡ new_table → k.works.items ≡ [] → k.sessions.items ≡ replicate n fresh_session → k.locks ≡ no_locks the_coordinator → k.detector ≡ no_rounds j → k.sent.items ≡ replicate m 0 → k.clock ≡ 0 → coord_of k ≡ new_coordinator
new-holds k n m j ed ew es el er em ec =
    ap (λ (d : Table). record (coord_of k) { table = d }) ed
    ∙ ap (λ (xs : List (Gxid × Work)). record (coord_of k) { table = new_table; works = found k.script.value.lines xs }) ew
    ∙ ap (λ f. record (coord_of k) { table = new_table; works = λ g. no_work; sessions = f }) (ap (λ (xs : List Session). session_at xs) es ∙ fun_ext (λ s. fresh-at n s))
    ∙ ap (λ (x : Locks). record (coord_of k) { table = new_table; works = λ g. no_work; sessions = λ s. new_session; locks = x }) el
    ∙ ap (λ (r : Rounds). record (coord_of k) { table = new_table; works = λ g. no_work; sessions = λ s. new_session; locks = no_locks the_coordinator; rounds = r.begun; reports = r.reports }) er
    ∙ ap (λ f. record new_coordinator { sent = f; clock = k.clock }) (ap (λ (xs : List ℕ). slice_index xs) em ∙ fun_ext (λ i. zero-at m i))
    ∙ ap (λ t. record new_coordinator { clock = t }) ec

pub length-replicate : {A : Type 0} (n : ℕ) (x : A) → length (replicate n x) ≡ n
length-replicate zero x = refl
length-replicate (suc n) x = ap suc (length-replicate n x)

pub new-sound : (script : Script) → 1 ≤ script.segments → IsSound script new_coordinator
new-sound script some =
    let n = new_knows script some in
    record {
      kept = n.kept;
      marks = marks_in new_world.steps;
      past = n.past;
      inside = record { table = tt; works = λ g. record { writers = tt; command = tt }; reports = tt };
      works = λ g. none-sound (record { 0 = 0 }) ReadCommitted 0 _;
    }
