-- The locks behind one mark more, the edges that stand, and the core.
use Rattle.std.proofs.Common.{◌≡◌, ◌↔◌, inl, inr, ◌⊎◌, ℕ, zero, suc, ◌+◌, ◌<◌, Bool, true, false, not, ◌&&◌, ◌||◌, ◌==◌, nat_eq, if◌then◌else◌, IsTrue, List, [], ◌∷◌, ◌++◌, All, Contains, length, get_or, replicate, slice_get, refl, sym, subst, ap, ◌∙◌, arith}
use Rattle.std.proofs.lemmas.List.Folds.{Any-from_list_any, list_any-append, list_any-from_Any}
use Rattle.std.proofs.lemmas.List.{length-replicate}
use Rattle.std.proofs.lemmas.List.Elements.{All-cons, All-contains, All-from_recursion}
use Rattle.std.specs.List.{AllByRecursion, list_any}
use Rattle.std.specs.Prelude.{Any}
use Rattle.gx_lemmas.proofs.Numbers.{eqb-self, eqb-swap, same-of}
use Rattle.gx_ids.specs.declared.ids.Gxid.{Gxid}
use Rattle.gx_ids.specs.declared.ids.Node.{Node}
use Rattle.gx_locks.proofs.Meets.{Meets_from_test, test_from_Meets}
use Rattle.gx_waits.specs.Claim.{IsEdge, IsEdgeOf, Meets, edge_of, in_the_way, meets}
use Rattle.gx_waits.specs.Claims.{claim, with_claim, without_claim}
use Rattle.gx_waits.specs.Closed.{IsNamed, IsNamedIn, IsStuck}
use Rattle.gx_waits.specs.Graph.{same_edge}
use Rattle.gx_waits.specs.Victims.{IsCorePart, IsInCore}
use Rattle.gx_waits.specs.declared.claim.Claim.{Claim}
use Rattle.gx_waits.specs.declared.edge.Edge.{Edge}
use Rattle.gx_waits.specs.declared.placed_edge.PlacedEdge.{PlacedEdge}
use Rattle.gx_store.specs.declared.mark.Mark.{Mark}
use Rattle.gx_store.specs.declared.mark.Mark.TheVariants.{Hold, Release, Wait}
use Rattle.gx_store.specs.Rounds.{StandsAt}
use Rattle.gx_store.specs.Waits.{holds_from, waits_from}
use Rattle.gx_detect.specs.Core.{AreNamed, IsCore}
use Rattle.gx_judging.specs.Standing.{AreLocks, IsLong, StandsIfNamed, claims_at, is_edge, is_edge_of, is_edge_to, node_at}
use Rattle.gx_judging.specs.declared.locks.Locks.{Locks}

-- KEPT BY NODE
-- what changes at a node, and nowhere else
pub at_node : (old new : List (List Claim)) (node n : ℕ) (f : List Claim → List Claim) → claims_at new node ≡ f (claims_at old node) → (nat_eq n node ≡ false → claims_at new n ≡ claims_at old n)
    → claims_at new n ≡ (if node == n then f (claims_at old n) else claims_at old n)
at_node old new node n f here others = by_test (node == n) refl
  where
    by_test : (b : Bool) → (node == n) ≡ b → claims_at new n ≡ (if b then f (claims_at old n) else claims_at old n)
    by_test true e = ap (claims_at new) (sym (same-of node n e)) ∙ here ∙ ap (λ k. f (claims_at old k)) (same-of node n e)
    by_test false e = others (eqb-swap n node ∙ e)

pub in_both : {A : Type 0} (p : A → Bool) (xs ys : List A) → list_any p (xs ++ ys) ≡ (list_any p xs || list_any p ys)
in_both p xs ys = list_any-append p xs ys

holds-append : (node : Node) (holds : List Claim) (xs ys : List Mark) → holds_from node holds (xs ++ ys) ≡ holds_from node (holds_from node holds xs) ys
holds-append node holds [] ys = refl
holds-append node holds (Hold n g object mode ∷ xs) ys = holds-append node (if n.0 == node.0 then with_claim (claim g object mode) holds else holds) xs ys
holds-append node holds (Release n g object mode ∷ xs) ys = holds-append node (if n.0 == node.0 then without_claim (claim g object mode) holds else holds) xs ys
holds-append node holds (m ∷ xs) ys = holds-append node holds xs ys

waits-append : (node : Node) (waits : List Claim) (xs ys : List Mark) → waits_from node waits (xs ++ ys) ≡ waits_from node (waits_from node waits xs) ys
waits-append node waits [] ys = refl
waits-append node waits (Wait n g object mode ∷ xs) ys = waits-append node (if n.0 == node.0 then with_claim (claim g object mode) waits else waits) xs ys
waits-append node waits (Hold n g object mode ∷ xs) ys = waits-append node (if n.0 == node.0 then without_claim (claim g object mode) waits else waits) xs ys
waits-append node waits (Release n g object mode ∷ xs) ys = waits-append node (if n.0 == node.0 then without_claim (claim g object mode) waits else waits) xs ys
waits-append node waits (m ∷ xs) ys = waits-append node waits xs ys

pub locks-next : (marks : List Mark) (m : Mark) (old new : Locks) → AreLocks marks old → IsLong new → ((n : ℕ) → claims_at new.holds.items n ≡ holds_from (node_at n) (claims_at old.holds.items n) (m ∷ []))
    → ((n : ℕ) → claims_at new.waits.items n ≡ waits_from (node_at n) (claims_at old.waits.items n) (m ∷ [])) → AreLocks (marks ++ m ∷ []) new
locks-next marks m old new are long holds waits = record {
  long = long;
  holds = λ n. holds n ∙ ap (λ xs. holds_from (node_at n) xs (m ∷ [])) (are.holds n) ∙ sym (holds-append (node_at n) [] marks (m ∷ []));
  waits = λ n. waits n ∙ ap (λ xs. waits_from (node_at n) xs (m ∷ [])) (are.waits n) ∙ sym (waits-append (node_at n) [] marks (m ∷ []));
}

nth-none : (n k : ℕ) → claims_at (replicate n []) k ≡ []
nth-none zero k = refl
nth-none (suc n) zero = refl
nth-none (suc n) (suc k) = nth-none n k

pub no-locks : (locks : Locks) → locks.holds.items ≡ replicate 256 [] → locks.waits.items ≡ replicate 256 [] → AreLocks [] locks
no-locks locks holds waits = record {
  long = record { holds = sym (ap length holds ∙ length-replicate {A = List Claim} 256 []); waits = sym (ap length waits ∙ length-replicate {A = List Claim} 256 []) };
  holds = λ n. ap (λ ls. claims_at ls n) holds ∙ nth-none 256 n;
  waits = λ n. ap (λ ls. claims_at ls n) waits ∙ nth-none 256 n;
}

-- EDGES
and-parts : (a b : Bool) → (a && b) ≡ true → (a ≡ true) × (b ≡ true)
and-parts true b e = (refl, e)
and-parts false b e = absurd (cc)

and-both : (a b : Bool) → a ≡ true → b ≡ true → (a && b) ≡ true
and-both true b x y = y
and-both false b x y = absurd (cc)

same-bool : (a b : Bool) → (if a then b else not b) ≡ true → a ≡ b
same-bool true true e = refl
same-bool true false e = absurd (cc)
same-bool false true e = absurd (cc)
same-bool false false e = refl

bool-itself : (a : Bool) → (if a then a else not a) ≡ true
bool-itself true = refl
bool-itself false = refl

one-edge : (a b : Edge) → a.waiter ≡ b.waiter → a.holder ≡ b.holder → a.dotted ≡ b.dotted → a ≡ b
one-edge a b w h d = λ i. record { waiter = w i; holder = h i; dotted = d i }

same-gxid : (g h : Gxid) → (g.0 == h.0) ≡ true → g ≡ h
same-gxid g h e = ap (λ (n : ℕ). let x : Gxid = record { 0 = n } in x) (same-of g.0 h.0 e)

edges-same : (a b : Edge) → same_edge a b ≡ true → a ≡ b
edges-same a b e =
    let first = and-parts (a.waiter.0 == b.waiter.0) _ e in
    let second = and-parts (a.holder.0 == b.holder.0) _ first.1 in
    one-edge a b (same-gxid a.waiter b.waiter first.0) (same-gxid a.holder b.holder second.0) (same-bool a.dotted b.dotted second.1)

edge-itself : (a b : Edge) → a ≡ b → same_edge a b ≡ true
edge-itself a b e = subst (λ (x : Edge). same_edge a x ≡ true) e (and-both (a.waiter.0 == a.waiter.0) _ (eqb-self a.waiter.0) (and-both (a.holder.0 == a.holder.0) _ (eqb-self a.holder.0) (bool-itself a.dotted)))

any-weaker : {A : Type 0} {P Q : A → Type 0} (xs : List A) → ((x : A) → P x → Q x) → Any P xs → Any Q xs
any-weaker xs f h = (h.0, h.1, h.2, h.3, f h.1 h.4)

pub edge-to : (holds waits : List Claim) (edge : Edge) → is_edge holds waits edge ≡ true → IsEdge waits holds edge
edge-to holds waits edge e =
    any-weaker waits (λ wait f. any-weaker (in_the_way holds waits wait) (λ other g.
    let parts = and-parts (meets wait other) (same_edge edge (edge_of wait other)) g in
    (Meets_from_test wait other parts.0, edges-same edge (edge_of wait other) parts.1)) (Any-from_list_any (is_edge_to wait edge) (in_the_way holds waits wait) f)) (Any-from_list_any (is_edge_of holds waits edge) waits e)

pub edge-from : (holds waits : List Claim) (edge : Edge) → IsEdge waits holds edge → is_edge holds waits edge ≡ true
edge-from holds waits edge h =
    list_any-from_Any (is_edge_of holds waits edge) waits (any-weaker waits (λ wait f. list_any-from_Any (is_edge_to wait edge) (in_the_way holds waits wait) (any-weaker (in_the_way holds waits wait) (λ other g.
    and-both (meets wait other) (same_edge edge (edge_of wait other)) (test_from_Meets wait other g.0) (edge-itself edge (edge_of wait other) g.1)) f)) h)

-- THE CORE
-- a stuck wait is in the core just where its waiter is named there
module _ (edges core : List PlacedEdge) (names : List Gxid) (is : IsCore edges core) (named : AreNamed core names) where
  pub core-to : (e : PlacedEdge) → IsInCore edges e → IsStuck edges e × Contains names e.edge.waiter
  core-to e h = (All-contains (λ x. IsStuck edges x) h.part e h.is_part.stuck h.member, named.all_of_them e.edge.waiter (e, is.whole e h, inl refl))

  behind : (e x : PlacedEdge) → Any (λ f. f.edge.holder ≡ x.edge.waiter) core → Any (λ f. f.edge.holder ≡ x.edge.waiter) (e ∷ core)
  behind e x h = (suc h.0, h.1, omega (arith, h.2), h.3, h.4)

  awaited : (v : Gxid) → IsNamed core v → Any (λ f. f.edge.holder ≡ v) core
  awaited v h = by_side h.0 h.1 h.2
    where
      by_side : (f : PlacedEdge) → Contains core f → IsNamedIn f v → Any (λ g. g.edge.holder ≡ v) core
      by_side f among (inl waits) = subst (λ (w : Gxid). Any (λ g. g.edge.holder ≡ w) core) waits (All-contains (λ x. Any (λ g. g.edge.holder ≡ x.edge.waiter) core) core f is.part.waited_for among)
      by_side f among (inr holds) = (among.0, f, among.1, among.2, holds)

  pub core-from : (e : PlacedEdge) → IsStuck edges e → Contains names e.edge.waiter → IsInCore edges e
  core-from e stuck among = record { part = e ∷ core; is_part = with_it; member = (0, omega arith, refl) }
    where
      with_it : IsCorePart edges (e ∷ core)
      with_it = record {
        stuck = All-cons (λ x. IsStuck edges x) e core stuck is.part.stuck;
        waited_for = All-cons (λ x. Any (λ f. f.edge.holder ≡ x.edge.waiter) (e ∷ core)) e core (behind e e (awaited e.edge.waiter (named.no_others e.edge.waiter among))) (λ k d inside. behind e (get_or core k d) (is.part.waited_for k d inside));
      }

-- WHERE THEY STAND
pub stand-to : (marks : List Mark) (locks : Locks) → AreLocks marks locks → (e : PlacedEdge) → is_edge (claims_at locks.holds.items e.node.0) (claims_at locks.waits.items e.node.0) e.edge ≡ true → StandsAt marks e
stand-to marks locks are e h =
    edge-to (holds_from e.node [] marks) (waits_from e.node [] marks) e.edge (ap (λ xs. is_edge xs (waits_from e.node [] marks) e.edge) (sym (are.holds e.node.0)) ∙ ap (λ ys. is_edge (claims_at locks.holds.items e.node.0) ys e.edge) (sym (are.waits e.node.0)) ∙ h)

pub stand-from : (marks : List Mark) (locks : Locks) → AreLocks marks locks → (e : PlacedEdge) → StandsAt marks e → is_edge (claims_at locks.holds.items e.node.0) (claims_at locks.waits.items e.node.0) e.edge ≡ true
stand-from marks locks are e h =
    ap (λ ys. is_edge (claims_at locks.holds.items e.node.0) ys e.edge) (are.waits e.node.0) ∙ ap (λ xs. is_edge xs (waits_from e.node [] marks) e.edge) (are.holds e.node.0) ∙ edge-from (holds_from e.node [] marks) (waits_from e.node [] marks) e.edge h

each-of : {A : Type 0} (P : A → Type 0) (xs : List A) → ((x : A) → Contains xs x → P x) → AllByRecursion P xs
each-of P [] f = tt
each-of P (x ∷ xs) f = (f x (0, omega arith, refl), each-of P xs (λ y h. f y (suc h.0, omega (arith, h.1), h.2)))

pub core-decided : (edges : List PlacedEdge) (locks : Locks) (names : List Gxid) (stuck : List PlacedEdge) (b : Bool) → (core : List PlacedEdge) → IsCore edges core → AreNamed core names
    → ((e : PlacedEdge) → Contains stuck e ↔ IsStuck edges e) → IsTrue b ↔ AllByRecursion (StandsIfNamed names locks) stuck
    → IsTrue b ↔ ((e : PlacedEdge) → IsInCore edges e → is_edge (claims_at locks.holds.items e.node.0) (claims_at locks.waits.items e.node.0) e.edge ≡ true)
core-decided edges locks names stuck b core is named left each = (
  λ t e within.
      let parts = core-to edges core names is named e within in
      All-contains (StandsIfNamed names locks) stuck e (All-from_recursion (StandsIfNamed names locks) stuck (each.0 t)) ((left e).1 parts.0) parts.1,
  λ all. each.1 (each-of (StandsIfNamed names locks) stuck (λ e among wanted. all e (core-from edges core names is named e ((left e).0 among) wanted))),
)
