-- How the marks of an event keep what they say of the stages.
use Rattle.std.proofs.Common.{◌≡◌, ◌≤◌, ◌<◌, ℕ, ◌+◌, List, ◌++◌, Option, Some, None, Bool, true, false, refl, sym, subst, ap, ◌∙◌, if◌then◌else◌, ◌||◌, arith, eqb}
use Rattle.std.proofs.lemmas.Bool.{eqb-true, or_left, or_right}
use Rattle.std.proofs.lemmas.Bool.Decides.{nat_tests}
use Rattle.gx_lemmas.proofs.Numbers.{lt-next}
use Rattle.gx_lemmas.proofs.Tests.{true-false}
use Rattle.gx_ids.specs.declared.ids.Gxid.{Gxid}
use Rattle.gx_dtx.specs.Rules.{begun, with_ended}
use Rattle.gx_dtx.specs.Table.{Table, find_txn, new_txn}
use Rattle.gx_dtx.specs.declared.txn.Txn.{Txn}
use Rattle.gx_store.specs.declared.mark.Mark.{Mark}
use Rattle.gx_store.specs.Marks.{is_aborted, is_committed, is_ended}
use Rattle.gx_rules.specs.Coordinators.{Coord}
use Rattle.gx_rules.specs.Snapshots.{latest_number}
use Rattle.gx_law_order.specs.Lists.{Each}
use Rattle.gx_law_order.proofs.Past.{Still, aborted-append, committed-append, running-drawn, still-committed}
use Rattle.gx_law_order.specs.Past.{Past}
use Rattle.gx_law_order.specs.Stages.{IsWhole, Stage, is_running, stage, stage_of}
use Rattle.gx_law_order.proofs.Stages.{append-at}
use Rattle.gx_law_order.specs.Standings.{gx}
use Rattle.gx_law_order.specs.Stages.Stage.{Dropped, Live}

-- what holds of one transaction after an event, behind marks `ms` and with the event's marks `ns`
pub record AtOne (next g : ℕ) (b : Stage) (marks : List Mark) (latest : ℕ) : Type 0 where
  pub committed : is_committed marks (gx g) ≡ true → (1 ≤ g) × (g < next) × (is_running b ≡ false)
  pub ended : 1 ≤ g → g < next → is_running b ≡ false → is_ended marks (gx g) ≡ true
  pub dropped : b ≡ Dropped → is_aborted marks (gx g) ≡ true
  pub latest_one : 1 ≤ g → g < next → is_running b ≡ false → g ≤ latest

or-left : (a b : Bool) → b ≡ false → (a || b) ≡ true → a ≡ true
or-left a b e f = grind arith

running-not-dropped : (b : Stage) → is_running b ≡ false → b ≡ Dropped → ⊥
running-not-dropped b e f = grind arith

module _ (c : Coord) (ms ns : List Mark) (p : Past c ms) (g : ℕ) (b : Stage) (latest : ℕ) where
  abbrev marks : List Mark
  marks = ms ++ ns

  before-committed : is_committed ns (gx g) ≡ false → is_committed marks (gx g) ≡ true → is_committed ms (gx g) ≡ true
  before-committed e f = or-left (is_committed ms (gx g)) (is_committed ns (gx g)) e (sym (committed-append ms ns (gx g)) ∙ f)

  -- it goes on running
  pub at-runs : is_running (stage_of c g) ≡ true → is_running b ≡ true → is_committed ns (gx g) ≡ false → (b ≡ Dropped → is_aborted ns (gx g) ≡ true) → AtOne c.table.next.0 g b marks latest
  at-runs r s n a =
      record {
        committed = λ f. absurd (true-false (is_running (stage_of c g)) r (p.committed g (before-committed n f)).2);
        ended = λ x y z. absurd (true-false (is_running b) s z);
        dropped = λ d. aborted-append ms ns (gx g) ∙ or_right (is_aborted ms (gx g)) (is_aborted ns (gx g)) (a d);
        latest_one = λ x y z. absurd (true-false (is_running b) s z);
      }

  -- it commits
  pub at-commits : IsWhole c.table → is_running (stage_of c g) ≡ true → is_running b ≡ false → is_committed ns (gx g) ≡ true → g ≤ latest → AtOne c.table.next.0 g b marks latest
  at-commits w r s n l =
      record {
        committed = λ f. ((running-drawn c g w r).0, (running-drawn c g w r).1, s);
        ended = λ x y z. or_left (is_committed marks (gx g)) (is_aborted marks (gx g)) (committed-append ms ns (gx g) ∙ or_right (is_committed ms (gx g)) (is_committed ns (gx g)) n);
        dropped = λ d. absurd (running-not-dropped b s d);
        latest_one = λ x y z. l;
      }

  -- it has aborted everywhere
  pub at-falls : is_running (stage_of c g) ≡ true → is_running b ≡ false → is_committed ns (gx g) ≡ false → is_aborted marks (gx g) ≡ true → g ≤ latest → AtOne c.table.next.0 g b marks latest
  at-falls r s n a l =
      record {
        committed = λ f. absurd (true-false (is_running (stage_of c g)) r (p.committed g (before-committed n f)).2);
        ended = λ x y z. or_right (is_committed marks (gx g)) (is_aborted marks (gx g)) a;
        dropped = λ d. a;
        latest_one = λ x y z. l;
      }

  -- it runs or doesn't, as before
  pub at-same : is_running b ≡ is_running (stage_of c g) → (b ≡ Dropped → stage_of c g ≡ Dropped) → is_committed ns (gx g) ≡ false → latest_number c.table.latest_ended ≤ latest → AtOne c.table.next.0 g b marks latest
  at-same e d n l =
      record {
        committed = λ f. let x = p.committed g (before-committed n f) in (x.0, x.1, e ∙ x.2);
        ended = λ x y z. both-ended (p.ended g x y (sym e ∙ z));
        dropped = λ f. aborted-append ms ns (gx g) ∙ or_left (is_aborted ms (gx g)) (is_aborted ns (gx g)) (p.dropped g (d f));
        latest_one = λ x y z. le-trans (p.latest g x y (sym e ∙ z)) l;
      }
    where
      le-trans : {a b d : ℕ} → a ≤ b → b ≤ d → a ≤ d
      le-trans x y = omega arith

      both-ended : is_ended ms (gx g) ≡ true → is_ended marks (gx g) ≡ true
      both-ended f = wider (is_committed ms (gx g)) (is_aborted ms (gx g)) (is_committed ns (gx g)) (is_aborted ns (gx g)) (is_committed marks (gx g)) (is_aborted marks (gx g)) (committed-append ms ns (gx g)) (aborted-append ms ns (gx g)) f
        where
          wider : (a b x y q r : Bool) → q ≡ (a || x) → r ≡ (b || y) → (a || b) ≡ true → (q || r) ≡ true
          wider a b x y q r e f h = grind arith

-- A CHANGE AT ONE TRANSACTION
pub past-at : (c d : Coord) (ms ns : List Mark) (g : ℕ) (now : Option Txn) → Past c ms → d.table.next ≡ c.table.next → ((h : ℕ) → find_txn d.table (gx h) ≡ (if eqb h g then now else find_txn c.table (gx h))) → ((h : ℕ) → eqb h g ≡ false → is_committed ns (gx h) ≡ false) → latest_number c.table.latest_ended ≤ latest_number d.table.latest_ended → latest_number d.table.latest_ended < c.table.next.0 → AtOne c.table.next.0 g (stage now) (ms ++ ns) (latest_number d.table.latest_ended) → Past d (ms ++ ns)
past-at c d ms ns g now p n f other l drawn one =
    record {
      committed = λ h. (at h).committed;
      ended = λ h. (at h).ended;
      dropped = λ h. (at h).dropped;
      latest = λ h. (at h).latest_one;
      drawn = subst (λ (x : Gxid). latest_number d.table.latest_ended < x.0) (sym n) drawn;
    }
  where
    by_test : (h : ℕ) (b : Bool) → eqb h g ≡ b → AtOne c.table.next.0 h (stage (if b then now else find_txn c.table (gx h))) (ms ++ ns) (latest_number d.table.latest_ended)
    by_test h true e = subst (λ k. AtOne c.table.next.0 k (stage now) (ms ++ ns) (latest_number d.table.latest_ended)) (sym (eqb-true h g e)) one
    by_test h false e = at-same c ms ns p h (stage_of c h) (latest_number d.table.latest_ended) refl (λ q. q) (other h e) l

    at : (h : ℕ) → AtOne d.table.next.0 h (stage_of d h) (ms ++ ns) (latest_number d.table.latest_ended)
    at h =
        subst (λ (x : Gxid). AtOne x.0 h (stage_of d h) (ms ++ ns) (latest_number d.table.latest_ended)) (sym n)
        (subst (λ t. AtOne c.table.next.0 h (stage t) (ms ++ ns) (latest_number d.table.latest_ended)) (sym (f h)) (by_test h (eqb h g) refl))

-- THE GREATEST THAT HAS ENDED
pub greater-facts : (b : Bool) (g : ℕ) (latest : Option Gxid) (next : ℕ) → latest_number latest < next → (b ≡ true → g < next) → (latest_number latest ≤ latest_number (with_ended b (gx g) latest)) × (b ≡ true → g ≤ latest_number (with_ended b (gx g) latest)) × (latest_number (with_ended b (gx g) latest) < next)
greater-facts true g None next l h = (grind (arith, nat_tests), λ e. grind (arith, nat_tests), h refl)
greater-facts true g (Some x) next l h = (grind (arith, nat_tests), λ e. grind (arith, nat_tests), grind (arith, nat_tests))
greater-facts false g latest next l h = (le-refl (latest_number latest), λ e. absurd (true-false false e refl), l)
  where
    le-refl : (a : ℕ) → a ≤ a
    le-refl a = omega arith

-- A TRANSACTION BEGINS
pub begun-finds : (d : Table) → IsWhole d → (h : ℕ) → find_txn (begun d) (gx h) ≡ (if eqb h d.next.0 then Some new_txn else find_txn d (gx h))
begun-finds d w h = append-at h d.txns d.next.0 new_txn w.drawn

pub past-begun : (c d : Coord) (ms ns : List Mark) → Past c ms → IsWhole c.table → d.table ≡ begun c.table → Each Still ns → Past d (ms ++ ns)
past-begun c d ms ns p w e s =
    record {
      committed = λ h f. let x = p.committed h (same-committed h f) in (x.0, subst (λ (y : Table). h < y.next.0) (sym e) (more x.1), subst (λ (y : Table). is_running (stage (find_txn y (gx h))) ≡ false) (sym e) (subst (λ t. is_running (stage t) ≡ false) (sym (begun-finds c.table w h ∙ not-new h x.1)) x.2));
      ended = λ h x y z. old-ended h x (subst (λ (y : Table). h < y.next.0) e y) (subst (λ (y : Table). is_running (stage (find_txn y (gx h))) ≡ false) e z);
      dropped = λ h f. old-dropped h (subst (λ (y : Table). stage (find_txn y (gx h)) ≡ Dropped) e f);
      latest = λ h x y z. subst (λ (y : Table). h ≤ latest_number y.latest_ended) (sym e) (p.latest h x (older h (subst (λ (y : Table). h < y.next.0) e y) (subst (λ (y : Table). is_running (stage (find_txn y (gx h))) ≡ false) e z)) (old-runs h (subst (λ (y : Table). h < y.next.0) e y) (subst (λ (y : Table). is_running (stage (find_txn y (gx h))) ≡ false) e z)));
      drawn = subst (λ (y : Table). latest_number y.latest_ended < y.next.0) (sym e) (more p.drawn);
    }
  where
    more : {a b : ℕ} → a < b → a < b + 1
    more l = omega arith

    not-new : (h : ℕ) → h < c.table.next.0 → (if eqb h c.table.next.0 then Some new_txn else find_txn c.table (gx h)) ≡ find_txn c.table (gx h)
    not-new h l = ap (λ b. if b then Some new_txn else find_txn c.table (gx h)) (apart h c.table.next.0 l)
      where
        apart : (a b : ℕ) → a < b → eqb a b ≡ false
        apart a b l = grind (arith, nat_tests)

    same-committed : (h : ℕ) → is_committed (ms ++ ns) (gx h) ≡ true → is_committed ms (gx h) ≡ true
    same-committed h f = or-left (is_committed ms (gx h)) (is_committed ns (gx h)) (still-committed ns (gx h) s) (sym (committed-append ms ns (gx h)) ∙ f)

    older : (h : ℕ) → h < c.table.next.0 + 1 → is_running (stage (find_txn (begun c.table) (gx h))) ≡ false → h < c.table.next.0
    older h l z = by_test (eqb h c.table.next.0) refl (subst (λ t. is_running (stage t) ≡ false) (begun-finds c.table w h) z)
      where
        by_test : (b : Bool) → eqb h c.table.next.0 ≡ b → is_running (stage (if b then Some new_txn else find_txn c.table (gx h))) ≡ false → h < c.table.next.0
        by_test true q z = absurd (true-false true refl z)
        by_test false q z = lt-next h c.table.next.0 l q

    old-runs : (h : ℕ) → h < c.table.next.0 + 1 → is_running (stage (find_txn (begun c.table) (gx h))) ≡ false → is_running (stage_of c h) ≡ false
    old-runs h l z = subst (λ t. is_running (stage t) ≡ false) (begun-finds c.table w h ∙ not-new h (older h l z)) z

    old-ended : (h : ℕ) → 1 ≤ h → h < c.table.next.0 + 1 → is_running (stage (find_txn (begun c.table) (gx h))) ≡ false → is_ended (ms ++ ns) (gx h) ≡ true
    old-ended h x l z = wider (is_committed ms (gx h)) (is_aborted ms (gx h)) _ _ _ _ (committed-append ms ns (gx h)) (aborted-append ms ns (gx h)) (p.ended h x (older h l z) (old-runs h l z))
      where
        wider : (a b x y q r : Bool) → q ≡ (a || x) → r ≡ (b || y) → (a || b) ≡ true → (q || r) ≡ true
        wider a b x y q r e f h = grind arith

    old-dropped : (h : ℕ) → stage (find_txn (begun c.table) (gx h)) ≡ Dropped → is_aborted (ms ++ ns) (gx h) ≡ true
    old-dropped h f = by_test (eqb h c.table.next.0) (subst (λ t. stage t ≡ Dropped) (begun-finds c.table w h) f)
      where
        by_test : (b : Bool) → stage (if b then Some new_txn else find_txn c.table (gx h)) ≡ Dropped → is_aborted (ms ++ ns) (gx h) ≡ true
        by_test true q = absurd (differ q)
          where
            differ : Live ≡ Dropped → ⊥
            differ q = cc
        by_test false q = aborted-append ms ns (gx h) ∙ or_left (is_aborted ms (gx h)) (is_aborted ns (gx h)) (p.dropped h q)
