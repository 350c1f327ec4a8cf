-- Edges stand as they are printed exactly where none stands above the next.
use Rattle.std.proofs.Common.{◌≡◌, ℕ, Bool, true, false, ◌&&◌, not, if◌then◌else◌, List, [], ◌∷◌, refl, sym, ◌∙◌, ap, subst, arith}
use Rattle.std.specs.Ordering.{bool_cmp, is_gt, nat_cmp, ordering_then}
use Rattle.std.specs.declared.cmp.Ordering.{Ordering}
use Rattle.gx_meaning.specs.Order.{in_order, placed}
use Rattle.gx_report.specs.LockText.{edge_order}
use Rattle.gx_waits.specs.declared.edge.Edge.{Edge}
use Rattle.gx_trace_lines.specs.Edges.{are_in_order}

not-above : (e f : Edge) (es : List Edge) → (not (is_gt (edge_order e f)) && are_in_order (f ∷ es)) ≡ true → (is_gt (edge_order e f) ≡ false) × (are_in_order (f ∷ es) ≡ true)
not-above e f es q = by (is_gt (edge_order e f)) (are_in_order (f ∷ es)) q
  where
    by : (c d : Bool) → (not c && d) ≡ true → (c ≡ false) × (d ≡ true)
    by true d q = absurd (grind (arith, q))
    by false d q = (refl, q)

front-stays : (c : Bool) (x y : List Edge) → c ≡ false → (if c then x else y) ≡ y
front-stays true x y e = absurd (grind (arith, e))
front-stays false x y e = refl

pub order-stands : (es : List Edge) → are_in_order es ≡ true → in_order edge_order es ≡ es
order-stands [] q = refl
order-stands (e ∷ []) q = refl
order-stands (e ∷ f ∷ es) q =
    let (low, more) = not-above e f es q in
    ap (placed edge_order e) (order-stands (f ∷ es) more) ∙ front-stays (is_gt (edge_order e f)) (f ∷ placed edge_order e es) (e ∷ f ∷ es) low

same-edge : (e : Edge) → is_gt (edge_order e e) ≡ false
same-edge e = by e.waiter.0 e.holder.0 e.dotted
  where
    by : (w h : ℕ) (d : Bool) → is_gt (ordering_then (nat_cmp w w) (ordering_then (nat_cmp h h) (bool_cmp d d))) ≡ false
    by w h true = grind (arith)
    by w h false = grind (arith)

first-same : (e f : Edge) (es fs : List Edge) → e ∷ es ≡ f ∷ fs → e ≡ f
first-same e f es fs q = cc

rest-same : (e f : Edge) (es fs : List Edge) → e ∷ es ≡ f ∷ fs → es ≡ fs
rest-same e f es fs q = cc

-- an edge that stays in front of ordered ones
stays-by : (e : Edge) (es fs : List Edge) → placed edge_order e fs ≡ e ∷ es → (fs ≡ es) × ((f : Edge) (gs : List Edge) → es ≡ f ∷ gs → is_gt (edge_order e f) ≡ false)
stays-by e es [] q = (rest-same e e [] es q, λ f gs r. absurd (no-nil (rest-same e e [] es q ∙ r)))
  where
    no-nil : {f : Edge} {gs : List Edge} → [] ≡ f ∷ gs → ⊥
    no-nil r = absurd (grind (arith, r))
stays-by e es (f ∷ fs) q = by (is_gt (edge_order e f)) refl q
  where
    by : (c : Bool) → is_gt (edge_order e f) ≡ c → (if c then f ∷ placed edge_order e fs else e ∷ f ∷ fs) ≡ e ∷ es
        → (f ∷ fs ≡ es) × ((g : Edge) (gs : List Edge) → es ≡ g ∷ gs → is_gt (edge_order e g) ≡ false)
    by true c r =
        let same = first-same f e (placed edge_order e fs) es r in
        absurd (clash (is_gt (edge_order e f)) c (ap (λ x. is_gt (edge_order e x)) same ∙ same-edge e))
      where
        clash : (b : Bool) → b ≡ true → b ≡ false → ⊥
        clash b p q = absurd (grind (arith, p, q))
    by false c r =
        let all = rest-same e e (f ∷ fs) es r in
        (all, λ g gs t. ap (λ x. is_gt (edge_order e x)) (first-same g f gs fs (sym t ∙ sym all)) ∙ c)

in-order-more : (e f : Edge) (es : List Edge) → is_gt (edge_order e f) ≡ false → are_in_order (f ∷ es) ≡ true → are_in_order (e ∷ f ∷ es) ≡ true
in-order-more e f es low more = by (is_gt (edge_order e f)) (are_in_order (f ∷ es)) low more
  where
    by : (c d : Bool) → c ≡ false → d ≡ true → (not c && d) ≡ true
    by c d p q = grind (arith, p, q)

pub stands-order : (es : List Edge) → in_order edge_order es ≡ es → are_in_order es ≡ true
stands-order [] q = refl
stands-order (e ∷ []) q = refl
stands-order (e ∷ f ∷ es) q =
    let (same, low) = stays-by e (f ∷ es) (in_order edge_order (f ∷ es)) q in
    in-order-more e f es (low f es refl) (stands-order (f ∷ es) same)
