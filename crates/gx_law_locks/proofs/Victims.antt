-- Whoever a round names waits somewhere and hasn't aborted, and no two whom it names are one.
use Rattle.std.proofs.Common.{◌≡◌, inl, inr, List, [], ◌∷◌, ◌++◌, Bool, true, false, refl, subst, ap, eqb, not}
use Rattle.std.proofs.lemmas.Bool.{eqb-true}
use Rattle.std.proofs.lemmas.List.Elements.{Contains-append_left, Contains-append_right, Contains-push}
use Rattle.std.specs.Prelude.{Contains, filter}
use Rattle.gx_ids.specs.declared.ids.Gxid.{Gxid}
use Rattle.gx_ids.specs.declared.ids.Node.{Node}
use Rattle.gx_script.specs.declared.Script.{Script}
use Rattle.gx_waits.proofs.Members.{Has, has_from_contains}
use Rattle.gx_waits.specs.Closed.{IsNamed, IsNamedIn}
use Rattle.gx_waits.specs.Edge.{names}
use Rattle.gx_waits.specs.declared.placed_edge.PlacedEdge.{PlacedEdge}
use Rattle.gx_store.specs.Cancelled.{AreVictimsAt}
use Rattle.gx_store.specs.declared.mark.Mark.{Mark}
use Rattle.gx_store.specs.Marks.{is_aborted}
use Rattle.gx_store.specs.Points.{Point, before}
use Rattle.gx_store.specs.Rounds.{IsBlocked}
use Rattle.gx_law_locks.specs.Waiting.{is_waiting}
use Rattle.gx_law_order.specs.Lists.{Each}
use Rattle.gx_law_order.specs.Standings.{gx}
use Rattle.gx_law_locks.proofs.Staying.{active, holder, runs-of, waiter}
use Rattle.gx_law_locks.proofs.Turns.{AreApart, IsApart}

-- WHO WAITS
pub record WaitsNow (marks : List Mark) (g : Gxid) : Type 0 where
  pub node : Node
  pub waits : is_waiting marks node g ≡ true
  pub runs : is_aborted marks g ≡ false

-- whoever is named in a blocked set does
waits-now : (marks : List Mark) (edges : List PlacedEdge) → IsBlocked marks edges → (g : Gxid) → IsNamed edges g → WaitsNow marks g
waits-now marks edges blocked g named = by_end named.2
  where
    e : PlacedEdge
    e = named.0

    h : Has e edges
    h = has_from_contains e edges named.1

    by_end : IsNamedIn e g → WaitsNow marks g
    by_end (inl s) =
        record {
          node = e.node;
          waits = subst (λ x. is_waiting marks e.node x ≡ true) s (waiter marks edges blocked e h);
          runs = subst (λ x. is_aborted marks x ≡ false) s (runs-of marks e.edge.waiter (active marks edges blocked e h).0).unaborted;
        }
    by_end (inr s) =
        let o = holder marks edges blocked e h in
        record {
          node = o.0;
          waits = subst (λ x. is_waiting marks o.0 x ≡ true) s o.1;
          runs = subst (λ x. is_aborted marks x ≡ false) s (runs-of marks e.edge.holder (active marks edges blocked e h).1).unaborted;
        }

module _ (script : Script) (point : Point) where
  pub each-waits : (edges : List PlacedEdge) (named victims : List Gxid) → AreVictimsAt script point edges named victims → Each (WaitsNow (before point)) victims
  each-waits edges named [] e = tt
  each-waits edges named (v ∷ victims) e =
      (waits-now (before point) e.0.set e.0.blocked v e.0.youngest.member, each-waits (filter (λ e. not (names v e.edge)) edges) (named ++ v ∷ []) victims e.1)

  -- NO TWO ARE ONE
  same : (g h : Gxid) → g.0 ≡ h.0 → g ≡ h
  same g h e = ap gx e

  -- whoever was named before isn't named again
  not-again : (edges : List PlacedEdge) (named victims : List Gxid) → AreVictimsAt script point edges named victims → (g : Gxid) → Contains named g → Each (IsApart g) victims
  not-again edges named [] e g c = tt
  not-again edges named (v ∷ victims) e g c =
      (by_test (eqb v.0 g.0) refl, not-again (filter (λ e. not (names v e.edge)) edges) (named ++ v ∷ []) victims e.1 g (Contains-append_left named (v ∷ []) g c))
    where
      by_test : (b : Bool) → eqb v.0 g.0 ≡ b → b ≡ false
      by_test true q = absurd (e.0.others g c (subst (λ x. IsNamed e.0.set x) (same v g (eqb-true v.0 g.0 q)) e.0.youngest.member))
      by_test false q = refl

  pub are-apart : (edges : List PlacedEdge) (named victims : List Gxid) → AreVictimsAt script point edges named victims → AreApart victims
  are-apart edges named [] e = tt
  are-apart edges named (v ∷ victims) e =
      let left : List PlacedEdge = filter (λ e. not (names v e.edge)) edges in
      (not-again left (named ++ v ∷ []) victims e.1 v (Contains-append_right named (v ∷ []) v (Contains-push [] v)), are-apart left (named ++ v ∷ []) victims e.1)
