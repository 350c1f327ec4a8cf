-- The edges of waits and holds, as they are added one after another.
use Rattle.std.proofs.Common.{◌≡◌, List, [], ◌∷◌, ◌++◌, refl, sym, ap, subst, ◌∙◌, Bool, true, false, cond, not, eqb, ◌&&◌, ◌⊎◌, inl, inr, ⊎_elim}
use Rattle.std.proofs.lemmas.Bool.{eq-eqb, eqb-true}
use Rattle.std.proofs.lemmas.List.Folds.{Any-from_list_any, list_any-from_Any}
use Rattle.std.specs.Prelude.{Contains, filter, fold}
use Rattle.std.specs.List.{Any, list_any}
use Rattle.gx_waits.specs.declared.claim.Claim.{Claim}
use Rattle.gx_waits.specs.declared.edge.Edge.{Edge}
use Rattle.gx_waits.specs.Claim.{AreEdges, IsEdgeOf, edge_of, in_the_way, meets, same_object}
use Rattle.gx_waits.specs.LocalGraph.{AddsOnce}
use Rattle.gx_waits.proofs.Determined.{same_gxid}
use Rattle.gx_waits.proofs.Members.{Has, any_from_has, contains_from_has, has_from_any, has_from_contains}
use Rattle.gx_locks.specs.declared.hold.Hold.{Hold}
use Rattle.gx_locks.specs.declared.key.Key.TheVariants.{On}
use Rattle.gx_waits.specs.Graph.{edges_at, same_edge, with_edge, with_hold, with_wait}
use Rattle.gx_locks.specs.Graphs.{with_holds}
use Rattle.gx_locks.specs.Holds.{claims_of, is_under}
use Rattle.gx_locks.proofs.Adds.{AddsAll, Here, adds_none, adds_one, adds_then, all_edges}
use Rattle.gx_locks.proofs.Meets.{Meets_from_test, parts, test_from_Meets}

-- ONE EDGE
all_three : (a b c : Bool) → (a && (b && c)) ≡ true → (a ≡ true) × (b ≡ true) × (c ≡ true)
all_three true true c e = (refl, refl, e)
all_three true false c e = absurd (cc)
all_three false b c e = absurd (cc)

same_bit : (a b : Bool) → cond a b (not b) ≡ true → a ≡ b
same_bit true b e = sym e
same_bit false true e = absurd (cc)
same_bit false false e = refl

bit_itself : (a : Bool) → cond a a (not a) ≡ true
bit_itself true = refl
bit_itself false = refl

is_one : (a b : Edge) → same_edge a b ≡ true → a ≡ b
is_one a b e =
    let p = all_three (eqb a.waiter.0 b.waiter.0) (eqb a.holder.0 b.holder.0) (cond a.dotted b.dotted (not b.dotted)) e in
    let w = same_gxid a.waiter b.waiter (eqb-true a.waiter.0 b.waiter.0 p.0) in
    let h = same_gxid a.holder b.holder (eqb-true a.holder.0 b.holder.0 p.1) in
    let d = same_bit a.dotted b.dotted p.2 in
    λ i. record { waiter = w i; holder = h i; dotted = d i }

one_itself : (a : Edge) → same_edge a a ≡ true
one_itself a =
    ap (λ t. t && (eqb a.holder.0 a.holder.0 && cond a.dotted a.dotted (not a.dotted))) (eq-eqb a.waiter.0 a.waiter.0 refl)
    ∙ ap (λ t. t && cond a.dotted a.dotted (not a.dotted)) (eq-eqb a.holder.0 a.holder.0 refl)
    ∙ bit_itself a.dotted

module _ (edges : List Edge) (edge : Edge) where
  found : list_any (same_edge edge) edges ≡ true → Contains edges edge
  found t =
      let e = has_from_any (λ e. same_edge edge e ≡ true) edges (Any-from_list_any (same_edge edge) edges t) in
      contains_from_has edge edges (subst (λ x. Has x edges) (sym (is_one edge e.0 e.2)) e.1)

  there : Contains edges edge → list_any (same_edge edge) edges ≡ true
  there c = list_any-from_Any (same_edge edge) edges (any_from_has (λ e. same_edge edge e ≡ true) edges edge (has_from_contains edge edges c) (one_itself edge))

  true_false : true ≡ false → ⊥
  true_false e = cc

  pub adds_once : AddsOnce edges (with_edge edges edge) edge
  adds_once = go (list_any (same_edge edge) edges) refl
    where
      go : (b : Bool) → list_any (same_edge edge) edges ≡ b → AddsOnce edges (cond b edges (edges ++ edge ∷ [])) edge
      go true t = inl (found t, refl)
      go false t = inr (λ c. true_false (sym (there c) ∙ t), refl)

  -- whatever adds an edge so adds it as the definition does
  pub added : (new : List Edge) → AddsOnce edges new edge → new ≡ with_edge edges edge
  added new (inl (c, same)) = same ∙ sym (ap (λ b. cond b edges (edges ++ edge ∷ [])) (there c))
  added new (inr (absent, longer)) = go (list_any (same_edge edge) edges) refl
    where
      go : (b : Bool) → list_any (same_edge edge) edges ≡ b → new ≡ cond b edges (edges ++ edge ∷ [])
      go true t = absurd (absent (found t))
      go false t = longer

-- an edge to a hold that is met
pub adds_met : (wait hold : Claim) (edges new : List Edge) (edge : Edge) → meets wait hold ≡ true → edge ≡ edge_of wait hold → AddsOnce edges new edge
    → new ≡ with_hold wait edges hold
adds_met wait hold edges new edge met is adds =
    added edges edge new adds
    ∙ ap (with_edge edges) is
    ∙ sym (ap (λ b. cond b (with_edge edges (edge_of wait hold)) edges) met)

-- ALL EDGES
module _ {A : Type 0} (P : A → Type 0) (x : A) (xs : List A) where
  any_parts : Any P (x ∷ xs) → P x ⊎ Any P xs
  any_parts a = let h = has_from_any P (x ∷ xs) a in ⊎_elim (λ (e : x ≡ h.0). inl (subst P (sym e) h.2)) (λ (m : Has h.0 xs). inr (any_from_has P xs h.0 m h.2)) h.1

  any_first : P x → Any P (x ∷ xs)
  any_first p = any_from_has P (x ∷ xs) x (inl refl) p

  any_later : Any P xs → Any P (x ∷ xs)
  any_later a = let h = has_from_any P xs a in any_from_has P (x ∷ xs) h.0 (inr h.1) h.2

-- one hold: its edge is added where it is met
adds_hold : (wait hold : Claim) (edges : List Edge) → AddsAll (Here wait hold) edges (with_hold wait edges hold)
adds_hold wait hold edges = go (meets wait hold) refl
  where
    true_false : true ≡ false → ⊥
    true_false e = cc

    go : (b : Bool) → meets wait hold ≡ b → AddsAll (Here wait hold) edges (cond b (with_edge edges (edge_of wait hold)) edges)
    go true t =
        let one = adds_one (edge_of wait hold) edges (with_edge edges (edge_of wait hold)) (adds_once edges (edge_of wait hold)) in
        record {
          old_ones = one.old_ones;
          new_ones = λ e h. one.new_ones e h.1;
          no_others = λ e c. ⊎_elim (λ o. inl o) (λ s. inr (Meets_from_test wait hold t, s)) (one.no_others e c);
          once = one.once;
        }
    go false t = adds_none (Here wait hold) (λ e h. true_false (sym (test_from_Meets wait hold h.0) ∙ t)) edges

adds_claims : (wait : Claim) (claims : List Claim) (edges : List Edge) → AddsAll (IsEdgeOf wait claims) edges (with_holds claims edges wait)
adds_claims wait [] edges = adds_none (IsEdgeOf wait []) (λ e is. (has_from_any (λ c. Here wait c e) [] is).1) edges
adds_claims wait (claim ∷ claims) edges =
    adds_then (Here wait claim) (IsEdgeOf wait claims) (IsEdgeOf wait (claim ∷ claims)) edges (with_hold wait edges claim) (with_holds claims (with_hold wait edges claim) wait)
    (λ e is. any_parts (λ c. Here wait c e) claim claims is)
    (λ e h. any_first (λ c. Here wait c e) claim claims h)
    (λ e is. any_later (λ c. Here wait c e) claim claims is)
    (adds_hold wait claim edges) (adds_claims wait claims (with_hold wait edges claim))

-- the edges of some of the waits
module _ (all holds : List Claim) where
  abbrev Of : Edge → Claim → Type 0
  Of e wait = IsEdgeOf wait (in_the_way holds all wait) e

  adds_waits : (waits : List Claim) (edges : List Edge) → AddsAll (λ e. Any (Of e) waits) edges (fold (with_wait holds all) edges waits)
  adds_waits [] edges = adds_none (λ e. Any (Of e) []) (λ e is. (has_from_any (Of e) [] is).1) edges
  adds_waits (wait ∷ waits) edges =
      adds_then (IsEdgeOf wait (in_the_way holds all wait)) (λ e. Any (Of e) waits) (λ e. Any (Of e) (wait ∷ waits)) edges (with_wait holds all edges wait) (fold (with_wait holds all) (with_wait holds all edges wait) waits)
      (λ e is. any_parts (Of e) wait waits is)
      (λ e h. any_first (Of e) wait waits h)
      (λ e is. any_later (Of e) wait waits is)
      (adds_claims wait (in_the_way holds all wait) edges) (adds_waits waits (with_wait holds all edges wait))

pub are_edges : (waits holds : List Claim) → AreEdges waits holds (edges_at waits holds)
are_edges waits holds = all_edges waits holds (edges_at waits holds) (adds_waits waits holds waits [])

-- THE HOLDS ON AN OBJECT
elsewhere : (wait : Claim) (h : Hold) (edges : List Edge) → is_under (On wait.object) h.claim ≡ false → with_hold wait edges h.claim ≡ edges
elsewhere wait h edges off = go (meets wait h.claim) refl
  where
    true_false : true ≡ false → ⊥
    true_false e = cc

    go : (b : Bool) → meets wait h.claim ≡ b → cond b (with_edge edges (edge_of wait h.claim)) edges ≡ edges
    go true t = absurd (true_false (sym (parts (eqb wait.gxid.0 h.claim.gxid.0) (same_object wait.object h.claim.object) _ t).1.0 ∙ off))
    go false t = refl

abbrev on_object : Claim → List Hold → List Hold
on_object wait hs = filter (λ h. is_under (On wait.object) h.claim) hs

-- only the holds on its object count for a wait
pub edges-filed : (wait : Claim) (hs : List Hold) (edges : List Edge) → with_holds (claims_of (on_object wait hs)) edges wait ≡ with_holds (claims_of hs) edges wait
edges-filed wait [] edges = refl
edges-filed wait (h ∷ hs) edges = go (is_under (On wait.object) h.claim) refl (edges-filed wait hs)
  where
    go : (b : Bool) → is_under (On wait.object) h.claim ≡ b
        → ((es : List Edge) → with_holds (claims_of (on_object wait hs)) es wait ≡ with_holds (claims_of hs) es wait)
        → with_holds (claims_of (cond b (h ∷ on_object wait hs) (on_object wait hs))) edges wait ≡ with_holds (claims_of (h ∷ hs)) edges wait
    go true t rest = rest (with_hold wait edges h.claim)
    go false t rest = rest edges ∙ ap (λ es. with_holds (claims_of hs) es wait) (sym (elsewhere wait h edges t))
