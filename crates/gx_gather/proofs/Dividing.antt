-- The aggregates over a list of rows are those over any other with the same rows at each identity.
use Rattle.std.proofs.Common.{◌≡◌, ◌∙◌, Bool, true, false, cond, List, [], ◌∷◌, ◌++◌, filter, refl, ap, sym}
use Rattle.std.proofs.lemmas.Cmp.{tied_itself}
use Rattle.std.proofs.lemmas.List.Elements.{filter-append}
use Rattle.std.specs.List.Sorted.{IsPermutation}
use Rattle.std.specs.Ordering.{is_eq}
use Rattle.gx_ids.specs.declared.rid.Rid.{Rid}
use Rattle.gx_tree.specs.declared.query.Item.{Item}
use Rattle.gx_tree.specs.declared.row.KeyedRow.{KeyedRow}
use Rattle.gx_meaning.specs.Aggregates.{aggregate}
use Rattle.gx_meaning.specs.Answer.{AreRising}
use Rattle.gx_meaning.specs.Order.{rid_order}
use Rattle.gx_gather.proofs.Combining.{aggregate-behind, aggregate-move}
use Rattle.gx_gather.proofs.InOrder.{Equal-from}
use Rattle.gx_gather.proofs.Orders.{rid_order-total}
use Rattle.gx_gather.proofs.Permuted.{filter-permutation, once_at}

-- the rows at an identity
abbrev pub at : Rid → List KeyedRow → List KeyedRow
at rid rows = filter (λ row. is_eq (rid_order rid row.rid)) rows

-- ---- the first row that passes a test, and what stands before and behind it
module _ {X : Type 0} (p : X → Bool) where
  pub record Found (xs : List X) (x : X) (rest : List X) : Type 0 where
    before : List X
    behind : List X
    is : xs ≡ before ++ x ∷ behind
    none : filter p before ≡ []
    others : filter p behind ≡ rest

  found-later : (y : X) (xs : List X) (x : X) (rest : List X) → p y ≡ false → Found xs x rest → Found (y ∷ xs) x rest
  found-later y xs x rest t f = record { before = y ∷ f.before; behind = f.behind; is = ap (λ l. y ∷ l) f.is; none = ap (λ b. cond b (y ∷ filter p f.before) (filter p f.before)) t ∙ f.none; others = f.others }

  found-step : (y : X) (xs : List X) (x : X) (rest : List X) (b : Bool) → p y ≡ b → cond b (y ∷ filter p xs) (filter p xs) ≡ x ∷ rest → (filter p xs ≡ x ∷ rest → Found xs x rest) → Found (y ∷ xs) x rest
  found-step y xs x rest true t e more =
      let head : y ≡ x = cc in
      let tail : filter p xs ≡ rest = cc in
      record { before = []; behind = xs; is = ap (λ z. z ∷ xs) head; none = refl; others = tail }
  found-step y xs x rest false t e more = found-later y xs x rest t (more e)

  found : (xs : List X) (x : X) (rest : List X) → filter p xs ≡ x ∷ rest → Found xs x rest
  found [] x rest e = absurd (cc)
  found (y ∷ xs) x rest e = found-step y xs x rest (p y) refl e (found xs x rest)

-- ---- the same rows at each identity, one row after the other
at-itself : (x : KeyedRow) (xs : List KeyedRow) → at x.rid (x ∷ xs) ≡ x ∷ at x.rid xs
at-itself x xs = ap (λ t. cond (is_eq t) (x ∷ at x.rid xs) (at x.rid xs)) (tied_itself rid_order-total x.rid)

-- an identity that ties with another has the same rows
at-tie : (q r : Rid) (rows : List KeyedRow) → is_eq (rid_order q r) ≡ true → at q rows ≡ at r rows
at-tie q r rows tie = λ i. filter (λ row. is_eq (rid_order-total.congr q r row.rid (Equal-from (rid_order q r) tie) i)) rows

without-step : (q : Rid) (x : KeyedRow) (a b xs : List KeyedRow) (t : Bool) → is_eq (rid_order q x.rid) ≡ t → at x.rid a ≡ [] → at q a ++ cond t (x ∷ at q b) (at q b) ≡ cond t (x ∷ at q xs) (at q xs) → at q a ++ at q b ≡ at q xs
without-step q x a b xs true tie none same =
    let empty : at q a ≡ [] = at-tie q x.rid a tie ∙ none in
    let e : x ∷ at q b ≡ x ∷ at q xs = ap (λ l. l ++ x ∷ at q b) (sym empty) ∙ same in
    let f : at q b ≡ at q xs = cc in
    ap (λ l. l ++ at q b) empty ∙ f
without-step q x a b xs false tie none same = same

same-first-step : (item : Item) (x : KeyedRow) (a b : List KeyedRow) (t : Bool) → aggregate (a ++ cond t (x ∷ b) b) item ≡ aggregate (cond t (x ∷ a ++ b) (a ++ b)) item
same-first-step item x a b true = aggregate-move item a x b
same-first-step item x a b false = refl

same-first : (item : Item) (p : KeyedRow → Bool) (x : KeyedRow) (a b : List KeyedRow) → aggregate (filter p (a ++ x ∷ b)) item ≡ aggregate (filter p (x ∷ a ++ b)) item
same-first item p x a b =
    ap (λ l. aggregate l item) (filter-append p a (x ∷ b)) ∙ same-first-step item x (filter p a) (filter p b) (p x) ∙ ap (λ l. aggregate (cond (p x) (x ∷ l) l) item) (sym (filter-append p a b))

behind-step : (item : Item) (x : KeyedRow) (l m : List KeyedRow) (t : Bool) → aggregate l item ≡ aggregate m item → aggregate (cond t (x ∷ l) l) item ≡ aggregate (cond t (x ∷ m) m) item
behind-step item x l m true same = aggregate-behind item x l m same
behind-step item x l m false same = same

pub aggregate-same : (item : Item) (p : KeyedRow → Bool) (xs cs : List KeyedRow) → ((q : Rid) → at q cs ≡ at q xs) → aggregate (filter p cs) item ≡ aggregate (filter p xs) item
aggregate-same item p [] [] same = refl
aggregate-same item p [] (c ∷ cs) same = let e : c ∷ at c.rid cs ≡ [] = sym (at-itself c cs) ∙ same c.rid in absurd (cc)
aggregate-same item p (x ∷ xs) cs same =
    let first = found (λ row. is_eq (rid_order x.rid row.rid)) cs x (at x.rid xs) (same x.rid ∙ at-itself x xs) in
    let rest = λ (q : Rid). filter-append (λ row. is_eq (rid_order q row.rid)) first.before first.behind
    ∙ without-step q x first.before first.behind xs (is_eq (rid_order q x.rid)) refl first.none
    (sym (filter-append (λ row. is_eq (rid_order q row.rid)) first.before (x ∷ first.behind)) ∙ ap (at q) (sym first.is) ∙ same q) in
    ap (λ l. aggregate (filter p l) item) first.is
    ∙ same-first item p x first.before first.behind
    ∙ behind-step item x (filter p (first.before ++ first.behind)) (filter p xs) (p x) (aggregate-same item p xs (first.before ++ first.behind) rest)

-- a division of rows that rise by their identities has the same rows at each
pub at-permutation : (whole cs : List KeyedRow) (q : Rid) → AreRising whole → IsPermutation whole cs → at q cs ≡ at q whole
at-permutation whole cs q rising perm = filter-permutation (λ row. is_eq (rid_order q row.rid)) whole cs perm (once_at rid_order-total (λ (row : KeyedRow). row.rid) q whole rising)
