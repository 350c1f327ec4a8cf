-- The horizon is at or below what a transaction in the table holds it at.
use Rattle.std.proofs.Common.{◌≡◌, ◌≤◌, List, [], ◌∷◌, refl, sym, ap, subst, ◌∙◌, Bool, true, false, cond, arith}
use Rattle.std.proofs.lemmas.Bool.Decides.{nat_tests}
use Rattle.std.specs.Prelude.{Option, None, Some}
use Rattle.std.specs.List.{flat_map}
use Rattle.std.specs.Map.{lookup}
use Rattle.std.specs.BTreeMap.{is_at}
use Rattle.gx_ids.specs.declared.ids.Gxid.{Gxid}
use Rattle.gx_dsnap.specs.Gxids.{gxid_cmp, least_of, lesser}
use Rattle.gx_dtx.specs.declared.txn.Txn.{Txn}
use Rattle.gx_dtx.specs.Table.{holds_back, live_xmin}
use Rattle.gx_dtx.proofs.Least.{least_of-append, least_of-le_other, lesser-le_left, lesser-le_right}

-- the least of what one transaction holds it at and of another gxid
own-low : (g : Gxid) (live : Option Gxid) (other : Gxid) → (least_of (g ∷ live_xmin live) other).0 ≤ g.0
own-low g None other = lesser-le_left g other
own-low g (Some x) other = omega (arith, lesser-le_left g other, lesser-le_right x (lesser g other))

live-low : (g : Gxid) (live : Option Gxid) (x other : Gxid) → live ≡ Some x → (least_of (g ∷ live_xmin live) other).0 ≤ x.0
live-low g None x other is = absurd (cc)
live-low g (Some y) x other is = let same : y ≡ x = cc in subst (λ (z : Gxid). (lesser y (lesser g other)).0 ≤ z.0) same (lesser-le_left y (lesser g other))

here-low : (e : Gxid × Txn) (es : List (Gxid × Txn)) (other : Gxid) (n : Gxid) → (least_of (holds_back e) other).0 ≤ n.0 → (least_of (flat_map holds_back (e ∷ es)) other).0 ≤ n.0
here-low e es other n low =
    subst (λ (least : Gxid). least.0 ≤ n.0) (sym (least_of-append (holds_back e) (flat_map holds_back es) other)) (omega (arith, least_of-le_other (flat_map holds_back es) (least_of (holds_back e) other)))

later-low : (e : Gxid × Txn) (es : List (Gxid × Txn)) (other : Gxid) (n : Gxid) → ((o : Gxid) → (least_of (flat_map holds_back es) o).0 ≤ n.0) → (least_of (flat_map holds_back (e ∷ es)) other).0 ≤ n.0
later-low e es other n low = subst (λ (least : Gxid). least.0 ≤ n.0) (sym (least_of-append (holds_back e) (flat_map holds_back es) other)) (low (least_of (holds_back e) other))

same_gxid : (g q : Gxid) → is_at (gxid_cmp q) g ≡ true → g ≡ q
same_gxid g q same = grind (arith, nat_tests)

module _ (g : Gxid) (t : Txn) where
  low_if : (e : Gxid × Txn) (es : List (Gxid × Txn)) (other : Gxid) (b : Bool) → is_at (gxid_cmp g) e.0 ≡ b → cond b (Some e.1) (lookup (is_at (gxid_cmp g)) es) ≡ Some t → (lookup (is_at (gxid_cmp g)) es ≡ Some t → (o : Gxid) → (least_of (flat_map holds_back es) o).0 ≤ g.0) → (least_of (flat_map holds_back (e ∷ es)) other).0 ≤ g.0
  low_if e es other true is found more = here-low e es other g (subst (λ (h : Gxid). (least_of (holds_back e) other).0 ≤ h.0) (same_gxid e.0 g is) (own-low e.0 e.1.live other))
  low_if e es other false is found more = later-low e es other g (more found)

  pub found-low : (es : List (Gxid × Txn)) → lookup (is_at (gxid_cmp g)) es ≡ Some t → (other : Gxid) → (least_of (flat_map holds_back es) other).0 ≤ g.0
  found-low [] found = absurd (cc)
  found-low (e ∷ es) found = λ other. low_if e es other (is_at (gxid_cmp g) e.0) refl found (found-low es)

  live_if : (x : Gxid) (e : Gxid × Txn) (es : List (Gxid × Txn)) (other : Gxid) (b : Bool) → t.live ≡ Some x → cond b (Some e.1) (lookup (is_at (gxid_cmp g)) es) ≡ Some t → (lookup (is_at (gxid_cmp g)) es ≡ Some t → (o : Gxid) → (least_of (flat_map holds_back es) o).0 ≤ x.0) → (least_of (flat_map holds_back (e ∷ es)) other).0 ≤ x.0
  live_if x e es other true has found more = let same : e.1 ≡ t = cc in here-low e es other x (live-low e.0 e.1.live x other (ap (λ (u : Txn). u.live) same ∙ has))
  live_if x e es other false has found more = later-low e es other x (more found)

  pub live_found-low : (x : Gxid) (es : List (Gxid × Txn)) → t.live ≡ Some x → lookup (is_at (gxid_cmp g)) es ≡ Some t → (other : Gxid) → (least_of (flat_map holds_back es) other).0 ≤ x.0
  live_found-low x [] has found = absurd (cc)
  live_found-low x (e ∷ es) has found = λ other. live_if x e es other (is_at (gxid_cmp g) e.0) has found (live_found-low x es has)

-- one transaction after the other
pub least_of_entries : (e : Gxid × Txn) (es : List (Gxid × Txn)) (other : Gxid) → least_of (flat_map holds_back (e ∷ es)) other ≡ least_of (flat_map holds_back es) (least_of (live_xmin e.1.live) (lesser e.0 other))
least_of_entries e es other = least_of-append (holds_back e) (flat_map holds_back es) other
