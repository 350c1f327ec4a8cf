-- Victims, from one core to the next.
use Rattle.std.proofs.Common.{◌≡◌, ◌<◌, ◌≤◌, ◌+◌, ℕ, zero, suc, List, [], ◌∷◌, ◌++◌, Bool, true, false, not, inl, ⊎_elim, length, get_or, sym, refl, ap, subst, ◌∙◌, arith, append-nil}
use Rattle.std.proofs.lemmas.List.Elements.{Contains-push_cases}
use Rattle.std.specs.List.{AllPairs, Contains}
use Rattle.gx_ids.specs.declared.ids.Gxid.{Gxid}
use Rattle.gx_waits.specs.declared.placed_edge.PlacedEdge.{PlacedEdge}
use Rattle.gx_waits.specs.Closed.{IsNamed, IsNamedIn}
use Rattle.gx_waits.specs.Edge.{names}
use Rattle.gx_waits.specs.Victims.{AreVictims, IsGreatestInCore}
use Rattle.gx_waits.proofs.Members.{has_from_contains, contains_from_has}
use Rattle.gx_detect.specs.declared.place.Aim.TheVariants.{Core}
use Rattle.gx_detect.specs.Core.{HaveClosedCores}
use Rattle.gx_detect.specs.Reducing.{IsBacked}
use Rattle.gx_detect.specs.Settled.{IsLargest}
use Rattle.gx_detect.specs.Verdicts.{edges_without}
use Rattle.gx_detect.proofs.Chosen.{named_test, one_more_victim, one_more_core}
use Rattle.gx_detect.proofs.CoreNames.{core_name, name_in_core}
use Rattle.gx_detect.proofs.Parts.{is_core, none_stuck_beside}
use Rattle.gx_detect.proofs.Stuck.{filter_has}

-- RISING NAMES
abbrev pub AreRising : List Gxid → Type 0
AreRising names = AllPairs (λ v w. v.0 < w.0) names

get_or-before : (xs ys : List Gxid) (i : ℕ) (d : Gxid) → i < length xs → get_or (xs ++ ys) i d ≡ get_or xs i d
get_or-before [] ys i d below = absurd (omega arith)
get_or-before (x ∷ xs) ys zero d below = refl
get_or-before (x ∷ xs) ys (suc i) d below = get_or-before xs ys i d (omega arith)

get_or-pushed : (xs : List Gxid) (x d : Gxid) → get_or (xs ++ x ∷ []) (length xs) d ≡ x
get_or-pushed [] x d = refl
get_or-pushed (y ∷ ys) x d = get_or-pushed ys x d

length-pushed : (xs : List Gxid) (x : Gxid) → length (xs ++ x ∷ []) ≡ length xs + 1
length-pushed [] x = omega arith
length-pushed (y ∷ ys) x = let r = length-pushed ys x in omega arith

pub rising_before : (xs : List Gxid) (v : Gxid) → AreRising (xs ++ v ∷ []) → AreRising xs
rising_before xs v up i j d before below =
    let n = length-pushed xs v in
    let first : i < length xs = omega arith in
    subst (λ w. w.0 < (get_or xs j d).0) (get_or-before xs (v ∷ []) i d first)
    (subst (λ w. (get_or (xs ++ v ∷ []) i d).0 < w.0) (get_or-before xs (v ∷ []) j d below) (up i j d before (omega arith)))

pub before_last : (xs : List Gxid) (v : Gxid) → AreRising (xs ++ v ∷ []) → (w : Gxid) → Contains xs w → w.0 < v.0
before_last xs v up w (i, below, at) =
    let n = length-pushed xs v in
    let less = up i (length xs) w below (omega arith) in
    subst (λ x. x.0 < v.0) (get_or-before xs (v ∷ []) i w below ∙ at) (subst (λ x. (get_or (xs ++ v ∷ []) i w).0 < x.0) (get_or-pushed xs v w) less)

-- TURNS
-- so many victims are chosen, and this is the core that is left
pub record IsUnderWay (edges part : List PlacedEdge) (chosen : List Gxid) : Type 0 where
  pub now : List PlacedEdge
  pub largest : IsLargest Core now part
  pub victims : (more : List Gxid) → AreVictims now more → AreVictims edges (chosen ++ more)
  pub cores : (more : List Gxid) → HaveClosedCores now more → HaveClosedCores edges (chosen ++ more)

greatest_in : (edges part : List PlacedEdge) (v : Gxid) → IsLargest Core edges part → IsNamed part v → ((w : Gxid) → IsNamed part w → w.0 ≤ v.0) → IsGreatestInCore edges v
greatest_in edges part v largest named up =
    let core = is_core edges part largest in
    record { named = core_name edges part v core named; greatest = λ w n. up w (name_in_core edges part w core n) }

pub goes_on : (edges part after : List PlacedEdge) (chosen : List Gxid) (v : Gxid) → IsNamed part v → ((w : Gxid) → IsNamed part w → w.0 ≤ v.0)
    → ((es : List PlacedEdge) → IsLargest Core es part → IsLargest Core (edges_without v es) after) → IsUnderWay edges part chosen → IsUnderWay edges after (chosen ++ v ∷ [])
goes_on edges part after chosen v named up without way = record {
  now = edges_without v way.now;
  largest = without way.now way.largest;
  victims = one_more_victim edges way.now chosen v way.victims (greatest_in way.now part v way.largest named up);
  cores = one_more_core edges way.now chosen v way.cores (part, is_core way.now part way.largest, named);
}

module _ (edges part : List PlacedEdge) (chosen : List Gxid) (none : (v : Gxid) → IsNamed part v → ⊥) (way : IsUnderWay edges part chosen) where
  pub all_chosen : AreVictims edges chosen
  all_chosen = subst (AreVictims edges) (append-nil chosen)
      (way.victims [] (none_stuck_beside way.now part way.largest (λ e c. none e.edge.waiter (e, c, inl refl))))

  pub all_cores : HaveClosedCores edges chosen
  all_cores = subst (HaveClosedCores edges) (append-nil chosen) (way.cores [] tt)

-- NAMES THAT ARE LEFT
pub largest_itself : (part : List PlacedEdge) → IsBacked Core part → IsLargest Core part part
largest_itself part backed = record { among = λ e c. c; backed = backed; whole = λ set b among. among }

pub still_named : (part after : List PlacedEdge) (left : List Gxid) (v : Gxid) → IsLargest Core (edges_without v part) after
    → ((w : Gxid) → IsNamed part w → Contains (left ++ v ∷ []) w) → (w : Gxid) → IsNamed after w → Contains left w
still_named part after left v largest all w (e, c, n) =
    let f = filter_has (λ x. not (names v x.edge)) part e (has_from_contains e (edges_without v part) (largest.among e c)) in
    ⊎_elim
    (λ (m : Contains left w). m)
    (λ (s : v ≡ w). absurd (unnamed (names v e.edge) f.1 (named_test v e (subst (λ g. IsNamedIn e g) (sym s) n))))
    (Contains-push_cases left v w (all w (e, contains_from_has e part f.0, n)))
  where
    unnamed : (b : Bool) → not b ≡ true → b ≡ true → ⊥
    unnamed true t b = cc
    unnamed false t b = cc

pub named_before : (part : List PlacedEdge) (left : List Gxid) (v : Gxid) → (IsNamed part v → ⊥)
    → ((w : Gxid) → IsNamed part w → Contains (left ++ v ∷ []) w) → (w : Gxid) → IsNamed part w → Contains left w
named_before part left v gone all w named = ⊎_elim
    (λ (m : Contains left w). m)
    (λ (s : v ≡ w). absurd (gone (subst (λ g. IsNamed part g) (sym s) named)))
    (Contains-push_cases left v w (all w named))

pub named_up_to : (part : List PlacedEdge) (left : List Gxid) (v : Gxid) → AreRising (left ++ v ∷ [])
    → ((w : Gxid) → IsNamed part w → Contains (left ++ v ∷ []) w) → (w : Gxid) → IsNamed part w → w.0 ≤ v.0
named_up_to part left v up all w named = ⊎_elim
    (λ (m : Contains left w). let l = before_last left v up w m in omega arith)
    (λ (s : v ≡ w). let n : v.0 ≡ w.0 = ap (λ g. g.0) s in omega arith)
    (Contains-push_cases left v w (all w named))
