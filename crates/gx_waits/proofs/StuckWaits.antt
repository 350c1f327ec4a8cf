-- No plan of lawful moves ends a transaction of a closed set.
use Rattle.std.proofs.Common.{◌≡◌, List, [], ◌∷◌, inl, inr, ⊎_elim, sym, subst, ◌∙◌}
use Rattle.std.specs.List.{Contains}
use Rattle.std.specs.Prelude.{IsTrue}
use Rattle.gx_ids.specs.declared.ids.Gxid.{Gxid}
use Rattle.gx_waits.specs.declared.placed_edge.PlacedEdge.{PlacedEdge}
use Rattle.gx_waits.specs.Closed.{IsClosed, IsWithin, IsNamedIn, IsNamedInStuck, Waits, WaitsAt}
use Rattle.gx_waits.specs.Finish.{Move, IsLet, IsPlan, CanFinish}
use Rattle.gx_waits.specs.Finish.Move.{End, Back}
use Rattle.gx_waits.proofs.Members.{Has, has_from_contains, contains_from_has, has_from_any, each_from_all}

-- no move of the plan is one of a waiter of the set
pub record IsApart (set : List PlacedEdge) (plan : List Move) : Type 0 where
  pub no_end : (e : PlacedEdge) → Has e set → Has (End e.edge.waiter) plan → ⊥
  pub no_back : (e : PlacedEdge) → Has e set → Has (Back e.node e.edge.waiter) plan → ⊥

module _ (edges set : List PlacedEdge) (closed : IsClosed set) (within : IsWithin set edges) where
  pub not_let : (plan : List Move) → IsApart set plan → (e : PlacedEdge) → Has e set → IsLet plan e → ⊥
  not_let plan apart e h (inl ended) =
      let f = has_from_any (λ f. f.edge.waiter ≡ e.edge.holder) set (each_from_all (λ e. Waits set e.edge.holder) set closed.holders_wait e h) in
      apart.no_end f.0 f.1 (subst (λ v. Has (End v) plan) (sym f.2) (has_from_contains (End e.edge.holder) plan ended))
  not_let plan apart e h (inr (dotted, back)) =
      let f = has_from_any (λ f. (f.node ≡ e.node) × (f.edge.waiter ≡ e.edge.holder)) set (each_from_all (λ e. IsTrue e.edge.dotted → WaitsAt set e.node e.edge.holder) set closed.dotted_holders_wait_there e h dotted) in
      apart.no_back f.0 f.1 (subst (λ v. Has (Back f.0.node v) plan) (sym f.2.1) (subst (λ n. Has (Back n e.edge.holder) plan) (sym f.2.0) (has_from_contains (Back e.node e.edge.holder) plan back)))

  pub apart : (plan : List Move) → IsPlan edges plan → IsApart set plan
  apart [] lawful = record { no_end = λ e h m. m; no_back = λ e h m. m }
  apart (End v ∷ before) (lawful, rest) =
      record {
        no_end = λ e h. ⊎_elim
            (λ (p : End v ≡ End e.edge.waiter). let w : e.edge.waiter ≡ v = cc in not_let before (apart before rest) e h (lawful e (contains_from_has e edges (inside e h)) w))
            (λ m. (apart before rest).no_end e h m);
        no_back = λ e h. ⊎_elim (λ (p : End v ≡ Back e.node e.edge.waiter). let no : ⊥ = cc in no) (λ m. (apart before rest).no_back e h m);
      }
    where
      inside : (e : PlacedEdge) → Has e set → Has e edges
      inside e h = has_from_contains e edges (each_from_all (λ e. Contains edges e) set within e h)
  apart (Back n v ∷ before) (lawful, rest) =
      record {
        no_end = λ e h. ⊎_elim (λ (p : Back n v ≡ End e.edge.waiter). let no : ⊥ = cc in no) (λ m. (apart before rest).no_end e h m);
        no_back = λ e h. ⊎_elim
            (λ (p : Back n v ≡ Back e.node e.edge.waiter). let w : (e.node ≡ n) × (e.edge.waiter ≡ v) = (cc, cc) in not_let before (apart before rest) e h (lawful e (contains_from_has e edges (inside e h)) w.0 w.1))
            (λ m. (apart before rest).no_back e h m);
      }
    where
      inside : (e : PlacedEdge) → Has e set → Has e edges
      inside e h = has_from_contains e edges (each_from_all (λ e. Contains edges e) set within e h)

  -- both ends of each edge of the set wait in it
  pub named_waits : (e : PlacedEdge) (v : Gxid) → Has e set → IsNamedIn e v → (f : PlacedEdge) × Has f set × (f.edge.waiter ≡ v)
  named_waits e v h (inl p) = (e, h, p)
  named_waits e v h (inr p) =
      let f = has_from_any (λ f. f.edge.waiter ≡ e.edge.holder) set (each_from_all (λ e. Waits set e.edge.holder) set closed.holders_wait e h) in
      (f.0, f.1, f.2 ∙ p)

pub stuck_never_finishes : (edges : List PlacedEdge) (v : Gxid) → IsNamedInStuck edges v → CanFinish edges v → ⊥
stuck_never_finishes edges v (e, stuck, named) (plan, lawful, ends) =
    let f = named_waits edges stuck.set stuck.closed stuck.within e v (has_from_contains e stuck.set stuck.member) named in
    (apart edges stuck.set stuck.closed stuck.within plan lawful).no_end f.0 f.1 (subst (λ w. Has (End w) plan) (sym f.2) (has_from_contains (End v) plan ends))
