-- An edge stands on behind one mark more, and a closed set behind many.
use Rattle.std.proofs.Common.{◌≡◌, ◌==◌, ◌⊎◌, inl, inr, Bool, true, false, List, [], ◌∷◌, ◌++◌, refl, sym, subst, ap, ◌∙◌, if◌then◌else◌, append_assoc, append-nil, arith}
use Rattle.std.proofs.lemmas.Bool.{false_from_ne_true, or_right}
use Rattle.std.proofs.lemmas.Bool.Decides.{nat_tests}
use Rattle.std.proofs.lemmas.List.Elements.{All-contains}
use Rattle.std.specs.Prelude.{All, IsTrue, filter}
use Rattle.gx_lemmas.proofs.Tests.{true-false}
use Rattle.gx_ids.specs.declared.ids.Gxid.{Gxid}
use Rattle.gx_ids.specs.declared.ids.Node.{Node}
use Rattle.gx_modes.specs.Table.{conflict}
use Rattle.gx_modes.specs.declared.modes.Mode.{Mode}
use Rattle.gx_modes.specs.declared.modes.Mode.TheVariants.{Share}
use Rattle.gx_waits.proofs.Members.{Has, any_from_has, contains_from_has, each_from_all, has_from_any}
use Rattle.gx_waits.specs.Claim.{IsEdge, IsEdgeOf, Meets, ahead, edge_of, in_the_way, is_ahead, is_tuple, same_claim}
use Rattle.gx_waits.specs.Closed.{IsClosed, WaitsAt}
use Rattle.gx_waits.specs.declared.claim.Claim.{Claim}
use Rattle.gx_waits.specs.declared.edge.Edge.{Edge}
use Rattle.gx_waits.specs.declared.object.Object.{Object}
use Rattle.gx_waits.specs.declared.object.Object.TheVariants.{Relation, Transaction, Tuple}
use Rattle.gx_waits.specs.declared.placed_edge.PlacedEdge.{PlacedEdge}
use Rattle.gx_store.proofs.Exclusive.{holds_from-append}
use Rattle.gx_store.specs.declared.mark.Mark.{Mark}
use Rattle.gx_store.specs.declared.mark.Mark.TheVariants as mark
use Rattle.gx_store.specs.Locks.{IsMomentary, LegalHold}
use Rattle.gx_store.specs.Marks.{is_aborted, is_committed, is_ended}
use Rattle.gx_store.specs.Waits.{holds_at, holds_from, waits_at, waits_from}
use Rattle.gx_waits.specs.Claims.{claim, is_of, with_claim, without_claim}
use Rattle.gx_law_locks.proofs.Marks.{ended-more, waits_from-append}
use Rattle.gx_law_locks.specs.Waiting.{EachBehind, IsForEnd, is_waiting}
use Rattle.gx_law_locks.proofs.Queues.{ahead-added, ahead-less, ahead-more, ahead-waits, ahead-without, awaited-in-way, held-in-way, way-of}
use Rattle.gx_law_locks.proofs.SameClaims.{claim-same, has-added, has-filter, has-new, has-without, listed}
use Rattle.gx_law_locks.proofs.Fair.{IsFair}
use Rattle.gx_law_locks.proofs.Sharing.{AreShared, shared-on}

-- a wait, and what it meets in its way: a hold, or a wait ahead of it
pub record Stands (waits holds : List Claim) (edge : Edge) : Type 0 where
  pub wait : Claim
  pub other : Claim
  pub waits_now : Has wait waits
  pub in_way : Has other (in_the_way holds waits wait)
  pub meets : Meets wait other
  pub is : edge ≡ edge_of wait other

pub stands-of : (waits holds : List Claim) (edge : Edge) → IsEdge waits holds edge → Stands waits holds edge
stands-of waits holds edge e =
    let w = has_from_any (λ wait. IsEdgeOf wait (in_the_way holds waits wait) edge) waits e in
    let h = has_from_any (λ other. Meets w.0 other × (edge ≡ edge_of w.0 other)) (in_the_way holds waits w.0) w.2 in
    record { wait = w.0; other = h.0; waits_now = w.1; in_way = h.1; meets = h.2.0; is = h.2.1 }

pub edge-of : (waits holds : List Claim) (edge : Edge) → Stands waits holds edge → IsEdge waits holds edge
edge-of waits holds edge s =
    any_from_has (λ wait. IsEdgeOf wait (in_the_way holds waits wait) edge) waits s.wait s.waits_now
    (any_from_has (λ other. Meets s.wait other × (edge ≡ edge_of s.wait other)) (in_the_way holds waits s.wait) s.other s.in_way (s.meets, s.is))

-- the waiter of an edge that stands waits there
pub waiter-waits : (marks : List Mark) (node : Node) (edge : Edge) → Stands (waits_at marks node) (holds_at marks node) edge → is_waiting marks node edge.waiter ≡ true
waiter-waits marks node edge s = subst (λ (e : Edge). is_waiting marks node e.waiter ≡ true) (sym s.is) (listed s.wait (waits_at marks node) s.waits_now)

same-node : (a b : Node) → (a.0 == b.0) ≡ true → a ≡ b
same-node a b e = grind (arith, nat_tests)

same-gxid : (g h : Gxid) → (g.0 == h.0) ≡ true → g ≡ h
same-gxid g h e = grind (arith, nat_tests)

not-ended : (marks : List Mark) (g : Gxid) → is_ended marks g ≡ false → is_aborted marks g ≡ true → ⊥
not-ended marks g e f = true-false (is_ended marks g) (or_right (is_committed marks g) (is_aborted marks g) f) e

-- the only claim of a list
only : (a b : Claim) → Has a (b ∷ []) → b ≡ a
only a b (inl e) = e
only a b (inr h) = absurd h

-- ONE MARK
module _ (before : List Mark) (node : Node) where
  abbrev waits : List Claim
  waits = waits_at before node

  abbrev holds : List Claim
  holds = holds_at before node

  -- nobody gives back who waits here and hasn't ended
  no-release : (n : Node) (g : Gxid) → n ≡ node → (is_waiting before n g ≡ false) ⊎ (is_aborted before g ≡ true) → is_waiting before node g ≡ true → is_ended before g ≡ false → ⊥
  no-release n g same (inl none) waiting runs = true-false (is_waiting before node g) waiting (subst (λ k. is_waiting before k g ≡ false) same none)
  no-release n g same (inr over) waiting runs = not-ended before g runs over

  module _ (wait other : Claim) (waiting : Has wait waits) (there : Has other (in_the_way holds waits wait)) (met : Meets wait other) where
    -- its wait isn't granted, nor dropped
    granted : (m : Claim) (n : Node) → LegalHold before n m → n ≡ node → m ≡ wait → ⊥
    granted m n f same e =
        All-contains (λ h. Meets wait h → ⊥) (in_the_way holds waits wait) other
        (subst (λ c. All (λ h. Meets c h → ⊥) (in_the_way holds waits c)) e (subst (λ k. LegalHold before k m) same f))
        (contains_from_has other (in_the_way holds waits wait) there) met

    pub wait-stays : (m : Mark) → IsFair before m → is_ended before wait.gxid ≡ false → Has wait (waits_from node waits (m ∷ []))
    wait-stays (mark.Wait n g object mode) f runs = by_node (n.0 == node.0)
      where
        by_node : (b : Bool) → Has wait (if b then with_claim (claim g object mode) waits else waits)
        by_node true = has-added (claim g object mode) wait waits waiting
        by_node false = waiting
    wait-stays (mark.Hold n g object mode) f runs = by_node (n.0 == node.0) refl
      where
        by_node : (b : Bool) → (n.0 == node.0) ≡ b → Has wait (if b then without_claim (claim g object mode) waits else waits)
        by_node true e = has-without (claim g object mode) wait waits (granted (claim g object mode) n f.grants (same-node n node e)) waiting
        by_node false e = waiting
    wait-stays (mark.Release n g object mode) f runs = by_node (n.0 == node.0) refl
      where
        dropped : n ≡ node → claim g object mode ≡ wait → ⊥
        dropped same e =
            let own : g ≡ wait.gxid = ap (λ (c : Claim). c.gxid) e in
            no-release n g same f.keeps (subst (λ h. is_waiting before node h ≡ true) (sym own) (listed wait waits waiting)) (subst (λ h. is_ended before h ≡ false) (sym own) runs)

        by_node : (b : Bool) → (n.0 == node.0) ≡ b → Has wait (if b then without_claim (claim g object mode) waits else waits)
        by_node true e = has-without (claim g object mode) wait waits (dropped (same-node n node e)) waiting
        by_node false e = waiting
    wait-stays m f runs = waiting

    -- Nor does what it meets go out of its way. A hold on a row isn't given back while its holder waits here, and one on another's end
    -- meets no wait. A wait ahead becomes a hold, if it goes; and the waiter is granted nothing here that would let it pass.
    module _ (end : IsForEnd wait.object wait.mode) (runs : is_ended before other.gxid ≡ false) (stops : is_tuple wait.object ≡ true → is_waiting before node other.gxid ≡ true) where
      shared : (o : Object) (a b : Mode) (h : Gxid) → o ≡ Transaction h → IsForEnd o a → b ≡ Share → IsTrue (conflict a b) → ⊥
      shared (Transaction h) a b k e s t c = true-false (conflict a b) c (ap (λ x. conflict x b) s ∙ ap (λ x. conflict Share x) t)
      shared (Relation t) a b k e s u c = absurd (cc)
      shared (Tuple rid) a b k e s t c = absurd (cc)

      brief : (n : Node) (o : Object) (mode : Mode) → n ≡ node → IsMomentary n o mode → wait.object ≡ o → mode ≡ other.mode → (is_waiting before n other.gxid ≡ false) ⊎ (is_aborted before other.gxid ≡ true) → ⊥
      brief n (Relation t) mode same m o e keeps = m
      brief n (Tuple rid) mode same m o e keeps = no-release n other.gxid same keeps (stops (ap is_tuple o)) runs
      brief n (Transaction h) mode same m o e keeps = shared wait.object wait.mode other.mode h o end (sym e ∙ m.1) met.conflicting

      late : (n : Node) (g : Gxid) (object : Object) (mode : Mode) → IsFair before (mark.Release n g object mode) → n ≡ node → claim g object mode ≡ other → IsMomentary n object mode ⊎ (is_ended before g ≡ true) → ⊥
      late n g object mode f same e (inr over) = true-false (is_ended before g) over (subst (λ h. is_ended before h ≡ false) (sym (ap (λ (c : Claim). c.gxid) e)) runs)
      late n g object mode f same e (inl m) =
          brief n object mode same m (met.same_object ∙ sym (ap (λ (c : Claim). c.object) e)) (ap (λ (c : Claim). c.mode) e)
          (subst (λ h. (is_waiting before n h ≡ false) ⊎ (is_aborted before h ≡ true)) (ap (λ (c : Claim). c.gxid) e) f.keeps)

      -- the waiter is granted nothing here
      no-grant : (n : Node) (g : Gxid) (object : Object) (mode : Mode) → IsFair before (mark.Hold n g object mode) → n ≡ node → (g.0 == wait.gxid.0) ≡ true → ⊥
      no-grant n g object mode f same own = by_way f.gets
        where
          is : g ≡ wait.gxid
          is = same-gxid g wait.gxid own

          there-too : Has wait (filter (is_of g) waits)
          there-too = has-filter (is_of g) wait waits (subst (λ h. (wait.gxid.0 == h.0) ≡ true) (sym is) (itself wait.gxid)) waiting
            where
              itself : (h : Gxid) → (h.0 == h.0) ≡ true
              itself h = grind (arith, nat_tests)

          by_way : (is_waiting before n g ≡ false) ⊎ (filter (is_of g) (waits_at before n) ≡ claim g object mode ∷ []) → ⊥
          by_way (inl none) = true-false (is_waiting before node g) (subst (λ h. is_waiting before node h ≡ true) (sym is) (listed wait waits waiting)) (subst (λ k. is_waiting before k g ≡ false) same none)
          by_way (inr one) =
              granted (claim g object mode) n f.grants same
              (only wait (claim g object mode) (subst (Has wait) (subst (λ k. filter (is_of g) (waits_at before k) ≡ claim g object mode ∷ []) same one) there-too))

      abbrev InWay : List Claim → List Claim → Type 0
      InWay hs ws = Has other (in_the_way hs ws wait)

      pub other-stays : (m : Mark) → IsFair before m → InWay (holds_from node holds (m ∷ [])) (waits_from node waits (m ∷ []))
      other-stays (mark.Wait n g object mode) f = by_node (n.0 == node.0)
        where
          by_node : (b : Bool) → InWay holds (if b then with_claim (claim g object mode) waits else waits)
          by_node true = by_kind (way-of holds waits wait other there)
            where
              by_kind : Has other holds ⊎ (Has other (ahead wait waits) × (is_ahead holds wait other ≡ true)) → InWay holds (with_claim (claim g object mode) waits)
              by_kind (inl h) = held-in-way holds (with_claim (claim g object mode) waits) wait other h
              by_kind (inr q) = awaited-in-way holds (with_claim (claim g object mode) waits) wait other (ahead-added wait other (claim g object mode) waits q.0) q.1
          by_node false = there
      other-stays (mark.Hold n g object mode) f = by_node (n.0 == node.0) refl
        where
          new : Claim
          new = claim g object mode

          hs : List Claim
          hs = with_claim new holds

          ws : List Claim
          ws = without_claim new waits

          own-or-not : (b : Bool) → (g.0 == wait.gxid.0) ≡ b → n ≡ node → b ≡ false
          own-or-not true own same = absurd (no-grant n g object mode f same own)
          own-or-not false own same = refl

          by_claim : n ≡ node → Has other (ahead wait waits) × (is_ahead holds wait other ≡ true) → (b : Bool) → same_claim new other ≡ b → InWay hs ws
          by_claim same q true e = held-in-way hs ws wait other (subst (λ c. Has c hs) (claim-same new other e) (has-new new holds))
          by_claim same q false e =
              awaited-in-way hs ws wait other (ahead-without wait other new waits e q.0) (ahead-more wait other new holds (own-or-not (g.0 == wait.gxid.0) refl same) q.1)

          by_kind : n ≡ node → Has other holds ⊎ (Has other (ahead wait waits) × (is_ahead holds wait other ≡ true)) → InWay hs ws
          by_kind same (inl h) = held-in-way hs ws wait other (has-added new other holds h)
          by_kind same (inr q) = by_claim same q (same_claim new other) refl

          by_node : (b : Bool) → (n.0 == node.0) ≡ b → InWay (if b then hs else holds) (if b then ws else waits)
          by_node true e = by_kind (same-node n node e) (way-of holds waits wait other there)
          by_node false e = there
      other-stays (mark.Release n g object mode) f = by_node (n.0 == node.0) refl
        where
          old : Claim
          old = claim g object mode

          hs : List Claim
          hs = without_claim old holds

          ws : List Claim
          ws = without_claim old waits

          -- who is ahead doesn't drop its wait
          kept : n ≡ node → Has other waits → (b : Bool) → same_claim old other ≡ b → b ≡ false
          kept same w true e =
              let own : g ≡ other.gxid = ap (λ (c : Claim). c.gxid) (claim-same old other e) in
              absurd (no-release n g same f.keeps (subst (λ h. is_waiting before node h ≡ true) (sym own) (listed other waits w)) (subst (λ h. is_ended before h ≡ false) (sym own) runs))
          kept same w false e = refl

          by_kind : n ≡ node → Has other holds ⊎ (Has other (ahead wait waits) × (is_ahead holds wait other ≡ true)) → InWay hs ws
          by_kind same (inl h) = held-in-way hs ws wait other (has-without old other holds (λ e. late n g object mode f same e f.late) h)
          by_kind same (inr q) =
              awaited-in-way hs ws wait other (ahead-without wait other old waits (kept same (ahead-waits wait other waits q.0) (same_claim old other) refl) q.0) (ahead-less wait other old holds q.1)

          by_node : (b : Bool) → (n.0 == node.0) ≡ b → InWay (if b then hs else holds) (if b then ws else waits)
          by_node true e = by_kind (same-node n node e) (way-of holds waits wait other there)
          by_node false e = there
      other-stays m f = there

  -- so the edge stands behind it, if who is named hasn't ended
  pub stands-on : (m : Mark) → IsFair before m → (edge : Edge) (s : Stands waits holds edge) → IsForEnd s.wait.object s.wait.mode → is_ended before edge.waiter ≡ false → is_ended before edge.holder ≡ false
      → (edge.dotted ≡ true → is_waiting before node edge.holder ≡ true) → Stands (waits_at (before ++ m ∷ []) node) (holds_at (before ++ m ∷ []) node) edge
  stands-on m f edge s end runs lives stops =
      record {
        wait = s.wait;
        other = s.other;
        waits_now = subst (Has s.wait) (sym (waits_from-append node [] before (m ∷ []))) (wait-stays s.wait s.other s.waits_now s.in_way s.meets m f (subst (λ (e : Edge). is_ended before e.waiter ≡ false) s.is runs));
        in_way =
            subst (λ ws. Has s.other (in_the_way (holds_at (before ++ m ∷ []) node) ws s.wait)) (sym (waits_from-append node [] before (m ∷ [])))
            (subst (λ hs. Has s.other (in_the_way hs (waits_from node waits (m ∷ [])) s.wait)) (sym (holds_from-append node [] before (m ∷ [])))
            (other-stays s.wait s.other s.waits_now s.in_way s.meets end (subst (λ (e : Edge). is_ended before e.holder ≡ false) s.is lives)
            (subst (λ (e : Edge). e.dotted ≡ true → is_waiting before node e.holder ≡ true) s.is stops) m f));
        meets = s.meets;
        is = s.is;
      }

-- A CLOSED SET, AT ONE NODE
module _ (set : List PlacedEdge) (closed : IsClosed set) (node : Node) where
  abbrev pub StandHere : List Mark → Type 0
  StandHere before = (e : PlacedEdge) → Has e set → e.node ≡ node → Stands (waits_at before node) (holds_at before node) e.edge

  abbrev pub Live : List Mark → Type 0
  Live before = (e : PlacedEdge) → Has e set → (is_ended before e.edge.waiter ≡ false) × (is_ended before e.edge.holder ≡ false)

  -- the holder of a dotted edge waits there
  dotted-waits : (before : List Mark) → StandHere before → (e : PlacedEdge) → Has e set → e.node ≡ node → e.edge.dotted ≡ true → is_waiting before node e.edge.holder ≡ true
  dotted-waits before stand e h at_node d =
      let f = has_from_any (λ f. (f.node ≡ e.node) × (f.edge.waiter ≡ e.edge.holder)) set (each_from_all (λ x. IsTrue x.edge.dotted → WaitsAt set x.node x.edge.holder) set closed.dotted_holders_wait_there e h d) in
      subst (λ g. is_waiting before node g ≡ true) f.2.1 (waiter-waits before node f.0.edge (stand f.0 f.1 (f.2.0 ∙ at_node)))

  pub stand-on : (before : List Mark) (m : Mark) → IsFair before m → AreShared before → Live before → StandHere before → StandHere (before ++ m ∷ [])
  stand-on before m fair shared live stand e h at_node =
      let s = stand e h at_node in
      stands-on before node m fair e.edge s (shared node s.wait s.waits_now) (live e h).0 (live e h).1 (dotted-waits before stand e h at_node)

  -- behind all of them, if nobody who is named has ended by then
  pub stand-behind : (before ms : List Mark) → EachBehind IsFair before ms → AreShared before → Live (before ++ ms) → StandHere before → StandHere (before ++ ms)
  stand-behind before [] fair shared live stand = subst StandHere (sym (append-nil before)) stand
  stand-behind before (m ∷ ms) fair shared live stand =
      let same : (before ++ m ∷ []) ++ ms ≡ before ++ m ∷ ms = append_assoc before (m ∷ []) ms in
      subst StandHere same
      (stand-behind (before ++ m ∷ []) ms fair.1 (shared-on before m shared fair.0.ends) (subst Live (sym same) live)
      (stand-on before m fair.0 shared (λ e h. (lived before (m ∷ ms) e.edge.waiter (live e h).0, lived before (m ∷ ms) e.edge.holder (live e h).1)) stand))
    where
      lived : (xs ys : List Mark) (g : Gxid) → is_ended (xs ++ ys) g ≡ false → is_ended xs g ≡ false
      lived xs ys g e = false_from_ne_true (is_ended xs g) (λ over. true-false (is_ended (xs ++ ys) g) (ended-more xs ys g over) e)
