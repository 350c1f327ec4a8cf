-- A blocked set stays blocked behind marks of which the laws hold, until one of its transactions aborts.
use Rattle.std.proofs.Common.{◌≡◌, ◌&&◌, ◌||◌, Bool, true, false, not, List, [], ◌∷◌, ◌++◌, refl, sym, subst, ap, ◌∙◌, append_assoc, append-nil, arith}
use Rattle.std.proofs.lemmas.Bool.{or_left}
use Rattle.std.proofs.lemmas.Bool.Decides.{nat_tests}
use Rattle.std.proofs.lemmas.List.Elements.{All-weaker}
use Rattle.gx_lemmas.proofs.Tests.{or-assoc, true-false}
use Rattle.gx_ids.specs.declared.ids.Gxid.{Gxid}
use Rattle.gx_ids.specs.declared.ids.Node.{Node}
use Rattle.gx_msg.specs.declared.message.Message.TheVariants as message
use Rattle.gx_waits.proofs.Members.{Has, all_from_each, each_from_all, has_from_any}
use Rattle.gx_waits.specs.Closed.{Waits}
use Rattle.gx_waits.specs.declared.placed_edge.PlacedEdge.{PlacedEdge}
use Rattle.gx_store.specs.declared.mark.Mark.{Mark}
use Rattle.gx_store.specs.declared.mark.Mark.TheVariants as mark
use Rattle.gx_store.specs.Marks.{is_aborted, is_committed, is_ended, is_same_gxid}
use Rattle.gx_store.specs.Rounds.{IsBlocked, StandsAt, is_active, is_committing, is_started}
use Rattle.gx_store.specs.Waits.{holds_at, waits_at}
use Rattle.gx_law_order.proofs.Past.{aborted-append, committed-append}
use Rattle.gx_law_locks.specs.Waiting.{EachBehind, is_waiting}
use Rattle.gx_law_locks.specs.Blocked.{NoneAborts, NoneCommits}
use Rattle.gx_law_locks.specs.Committing.{CommitsUnlessWaiting}
use Rattle.gx_law_locks.proofs.Fair.{IsFair}
use Rattle.gx_law_locks.proofs.Sharing.{AreShared, shared-on}
use Rattle.gx_law_locks.proofs.Standing.{Stands, edge-of, stand-on, stands-of, waiter-waits}

-- WHO IS ACTIVE
started-append : (xs ys : List Mark) (g : Gxid) → is_started (xs ++ ys) g ≡ is_started xs g || is_started ys g
started-append [] ys g = refl
started-append (mark.Start h s ∷ xs) ys g = ap (λ b. is_same_gxid h g || b) (started-append xs ys g) ∙ or-assoc (is_same_gxid h g) (is_started xs g) (is_started ys g)
started-append (m ∷ xs) ys g = started-append xs ys g

committing-append : (xs ys : List Mark) (g : Gxid) → is_committing (xs ++ ys) g ≡ is_committing xs g || is_committing ys g
committing-append [] ys g = refl
committing-append (mark.Sent to number (message.Prepare h) ∷ xs) ys g =
    ap (λ b. is_same_gxid h g || b) (committing-append xs ys g) ∙ or-assoc (is_same_gxid h g) (is_committing xs g) (is_committing ys g)
committing-append (mark.Sent to number (message.Commit h) ∷ xs) ys g =
    ap (λ b. is_same_gxid h g || b) (committing-append xs ys g) ∙ or-assoc (is_same_gxid h g) (is_committing xs g) (is_committing ys g)
committing-append (m ∷ xs) ys g = committing-append xs ys g

-- an active transaction has begun, has neither committed nor aborted, and isn't committing
pub record Runs (marks : List Mark) (g : Gxid) : Type 0 where
  pub started : is_started marks g ≡ true
  pub uncommitted : is_committed marks g ≡ false
  pub unaborted : is_aborted marks g ≡ false
  pub unasked : is_committing marks g ≡ false

pub runs-of : (marks : List Mark) (g : Gxid) → is_active marks g ≡ true → Runs marks g
runs-of marks g e = record { started = grind arith; uncommitted = parts.0; unaborted = parts.1; unasked = parts.2 }
  where
    four : (a b c d : Bool) → (a && (not (b || c) && not d)) ≡ true → (b ≡ false) × (c ≡ false) × (d ≡ false)
    four a b c d e = (grind arith, grind arith, grind arith)

    parts : (is_committed marks g ≡ false) × (is_aborted marks g ≡ false) × (is_committing marks g ≡ false)
    parts = four (is_started marks g) (is_committed marks g) (is_aborted marks g) (is_committing marks g) e

pub active-of : (marks : List Mark) (g : Gxid) → Runs marks g → is_active marks g ≡ true
active-of marks g r = four (is_started marks g) (is_committed marks g) (is_aborted marks g) (is_committing marks g) r.started r.uncommitted r.unaborted r.unasked
  where
    four : (a b c d : Bool) → a ≡ true → b ≡ false → c ≡ false → d ≡ false → (a && (not (b || c) && not d)) ≡ true
    four a b c d e f h k = grind arith

pub not-ended : (marks : List Mark) (g : Gxid) → is_active marks g ≡ true → is_ended marks g ≡ false
not-ended marks g e = let r = runs-of marks g e in neither (is_committed marks g) (is_aborted marks g) r.uncommitted r.unaborted
  where
    neither : (a b : Bool) → a ≡ false → b ≡ false → (a || b) ≡ false
    neither a b e f = grind arith

-- WHO IS ACTIVE AND WAITS IS ACTIVE BEHIND ONE MARK MORE
same-gxid : (g h : Gxid) → is_same_gxid g h ≡ true → g ≡ h
same-gxid g h e = grind (arith, nat_tests)

-- it isn't one that waits nowhere
is-another : (before : List Mark) (h g : Gxid) (node : Node) → is_waiting before node g ≡ true → ((n : Node) → is_waiting before n h ≡ false) → (is_same_gxid h g || false) ≡ false
is-another before h g node waiting none = by_test (is_same_gxid h g) refl
  where
    by_test : (b : Bool) → is_same_gxid h g ≡ b → (b || false) ≡ false
    by_test true e = absurd (true-false (is_waiting before node g) waiting (subst (λ k. is_waiting before node k ≡ false) (same-gxid h g e) (none node)))
    by_test false e = refl

module _ (before : List Mark) (g : Gxid) (node : Node) (waiting : is_waiting before node g ≡ true) (runs : Runs before g) where
  commits-not : (m : Mark) → CommitsUnlessWaiting before m → is_committed (m ∷ []) g ≡ false
  commits-not (mark.Commit h) e = is-another before h g node waiting e
  commits-not m e = refl

  unless-aborted : (h : Gxid) → (is_aborted before h ≡ false → (n : Node) → is_waiting before n h ≡ false) → (is_same_gxid h g || false) ≡ false
  unless-aborted h e = by_test (is_same_gxid h g) refl
    where
      by_test : (b : Bool) → is_same_gxid h g ≡ b → (b || false) ≡ false
      by_test true q =
          absurd (true-false (is_waiting before node g) waiting (subst (λ k. is_waiting before node k ≡ false) (same-gxid h g q) (e (subst (λ k. is_aborted before k ≡ false) (sym (same-gxid h g q)) runs.unaborted) node)))
      by_test false q = refl

  asks-not : (m : Mark) → CommitsUnlessWaiting before m → is_committing (m ∷ []) g ≡ false
  asks-not (mark.Sent to number (message.Prepare h)) e = unless-aborted h e
  asks-not (mark.Sent to number (message.Commit h)) e = unless-aborted h e
  asks-not m e = refl

  both-false : (a b : Bool) → a ≡ false → b ≡ false → (a || b) ≡ false
  both-false a b e f = grind arith

  pub runs-on : (m : Mark) → CommitsUnlessWaiting before m → is_aborted (m ∷ []) g ≡ false → Runs (before ++ m ∷ []) g
  runs-on m e f =
      record {
        started = started-append before (m ∷ []) g ∙ or_left (is_started before g) (is_started (m ∷ []) g) runs.started;
        uncommitted = committed-append before (m ∷ []) g ∙ both-false _ _ runs.uncommitted (commits-not m e);
        unaborted = aborted-append before (m ∷ []) g ∙ both-false _ _ runs.unaborted f;
        unasked = committing-append before (m ∷ []) g ∙ both-false _ _ runs.unasked (asks-not m e);
      }

-- A BLOCKED SET
module _ (before : List Mark) (edges : List PlacedEdge) (blocked : IsBlocked before edges) where
  stands : (e : PlacedEdge) → Has e edges → Stands (waits_at before e.node) (holds_at before e.node) e.edge
  stands e h = stands-of (waits_at before e.node) (holds_at before e.node) e.edge (each_from_all (StandsAt before) edges blocked.standing e h)

  pub active : (e : PlacedEdge) → Has e edges → (is_active before e.edge.waiter ≡ true) × (is_active before e.edge.holder ≡ true)
  active e h = each_from_all (λ placed. (is_active before placed.edge.waiter ≡ true) × (is_active before placed.edge.holder ≡ true)) edges blocked.active e h

  -- who is named waits somewhere
  pub waiter : (e : PlacedEdge) → Has e edges → is_waiting before e.node e.edge.waiter ≡ true
  waiter e h = waiter-waits before e.node e.edge (stands e h)

  pub holder : (e : PlacedEdge) → Has e edges → (node : Node) × (is_waiting before node e.edge.holder ≡ true)
  holder e h =
      let f = has_from_any (λ f. f.edge.waiter ≡ e.edge.holder) edges (each_from_all (λ x. Waits edges x.edge.holder) edges blocked.closed.holders_wait e h) in
      (f.0.node, subst (λ g. is_waiting before f.0.node g ≡ true) f.2 (waiter f.0 f.1))

  -- behind one mark more
  blocked-on : (m : Mark) → IsFair before m → AreShared before → NoneAborts (m ∷ []) edges → IsBlocked (before ++ m ∷ []) edges
  blocked-on m fair shared none =
      record {
        closed = blocked.closed;
        standing = all_from_each (StandsAt (before ++ m ∷ [])) edges (λ e h.
            edge-of (waits_at (before ++ m ∷ []) e.node) (holds_at (before ++ m ∷ []) e.node) e.edge
            (stand-on edges blocked.closed e.node before m fair shared (λ f k. (not-ended before f.edge.waiter (active f k).0, not-ended before f.edge.holder (active f k).1))
            (λ f k at_node. subst (λ n. Stands (waits_at before n) (holds_at before n) f.edge) at_node (stands f k)) e h refl));
        active = all_from_each (λ placed. (is_active (before ++ m ∷ []) placed.edge.waiter ≡ true) × (is_active (before ++ m ∷ []) placed.edge.holder ≡ true)) edges (λ e h.
            let a = active e h in
            let u = each_from_all (λ placed. (is_aborted (m ∷ []) placed.edge.waiter ≡ false) × (is_aborted (m ∷ []) placed.edge.holder ≡ false)) edges none e h in (
              active-of (before ++ m ∷ []) e.edge.waiter (runs-on before e.edge.waiter e.node (waiter e h) (runs-of before e.edge.waiter a.0) m fair.commits u.0),
              active-of (before ++ m ∷ []) e.edge.holder (runs-on before e.edge.holder (holder e h).0 (holder e h).1 (runs-of before e.edge.holder a.1) m fair.commits u.1),
            ));
      }

-- behind all of them
front-none : (m : Mark) (ms : List Mark) (edges : List PlacedEdge) → NoneAborts (m ∷ ms) edges → NoneAborts (m ∷ []) edges × NoneAborts ms edges
front-none m ms edges e = (
  All-weaker (λ placed. (is_aborted (m ∷ ms) placed.edge.waiter ≡ false) × (is_aborted (m ∷ ms) placed.edge.holder ≡ false)) (λ placed. (is_aborted (m ∷ []) placed.edge.waiter ≡ false) × (is_aborted (m ∷ []) placed.edge.holder ≡ false))
      (λ placed a. ((both placed.edge.waiter a.0).0, (both placed.edge.holder a.1).0)) edges e,
  All-weaker (λ placed. (is_aborted (m ∷ ms) placed.edge.waiter ≡ false) × (is_aborted (m ∷ ms) placed.edge.holder ≡ false)) (λ placed. (is_aborted ms placed.edge.waiter ≡ false) × (is_aborted ms placed.edge.holder ≡ false))
      (λ placed a. ((both placed.edge.waiter a.0).1, (both placed.edge.holder a.1).1)) edges e,
)
  where
    neither : (a b : Bool) → (a || b) ≡ false → (a ≡ false) × (b ≡ false)
    neither a b e = (grind arith, grind arith)

    both : (g : Gxid) → is_aborted (m ∷ ms) g ≡ false → (is_aborted (m ∷ []) g ≡ false) × (is_aborted ms g ≡ false)
    both g e = neither (is_aborted (m ∷ []) g) (is_aborted ms g) (sym (aborted-append (m ∷ []) ms g) ∙ e)

pub stays-blocked : (before ms : List Mark) (edges : List PlacedEdge) → EachBehind IsFair before ms → AreShared before → IsBlocked before edges → NoneAborts ms edges → IsBlocked (before ++ ms) edges
stays-blocked before [] edges fair shared blocked none = subst (λ b. IsBlocked b edges) (sym (append-nil before)) blocked
stays-blocked before (m ∷ ms) edges fair shared blocked none =
    let two = front-none m ms edges none in
    subst (λ b. IsBlocked b edges) (append_assoc before (m ∷ []) ms)
    (stays-blocked (before ++ m ∷ []) ms edges fair.1 (shared-on before m shared fair.0.ends) (blocked-on before edges blocked m fair.0 shared two.0) two.1)

-- and then none of them has committed
pub none-committed : (marks : List Mark) (edges : List PlacedEdge) → IsBlocked marks edges → NoneCommits marks edges
none-committed marks edges blocked =
    All-weaker (λ placed. (is_active marks placed.edge.waiter ≡ true) × (is_active marks placed.edge.holder ≡ true)) (λ placed. (is_committed marks placed.edge.waiter ≡ false) × (is_committed marks placed.edge.holder ≡ false))
    (λ placed a. ((runs-of marks placed.edge.waiter a.0).uncommitted, (runs-of marks placed.edge.holder a.1).uncommitted)) edges blocked.active
