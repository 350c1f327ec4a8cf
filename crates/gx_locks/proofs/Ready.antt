-- The wait of a transaction that is among the ready ones is ready.
use Rattle.std.proofs.Common.{◌≡◌, List, [], ◌∷◌, refl, sym, ap, ◌∙◌, subst, Bool, true, false, cond, eqb, arith, ◌||◌, suc, get_or}
use Rattle.std.proofs.lemmas.Bool.Decides.{nat_tests}
use Rattle.std.proofs.lemmas.List.Folds.{list_any_at, list_any_none}
use Rattle.std.specs.Prelude.{All, Contains, filter, find, map, Option, None, Some, IfSome}
use Rattle.std.specs.List.{list_any}
use Rattle.gx_ids.specs.declared.ids.Gxid.{Gxid}
use Rattle.gx_waits.specs.declared.claim.Claim.{Claim}
use Rattle.gx_waits.specs.Claims.{is_clear, is_of}
use Rattle.gx_locks.specs.Kept.{WaitOnce}
use Rattle.gx_locks.specs.Locks.{Locks, is_ready, IsLeast}

pub once_tail : (w : Claim) (ws : List Claim) → WaitOnce (w ∷ ws) → WaitOnce ws
once_tail w ws once i j d before inside = once (suc i) (suc j) d (omega arith) (omega arith)

pub once_head : (w : Claim) (ws : List Claim) → WaitOnce (w ∷ ws) → All (λ b. is_of w.gxid b ≡ false) ws
once_head w ws once k d inside = once 0 (suc k) d (omega arith) (omega arith)

any_of_filter : (p : Claim → Bool) (g : Gxid) (ws : List Claim) → list_any (λ h. eqb h.0 g.0) (map (λ w. w.gxid) (filter p ws)) ≡ true → list_any (is_of g) ws ≡ true
any_of_filter p g [] some = some
any_of_filter p g (w ∷ ws) some = kept (p w) some (any_of_filter p g ws)
  where
    kept : (b : Bool) → list_any (λ h. eqb h.0 g.0) (map (λ w. w.gxid) (cond b (w ∷ filter p ws) (filter p ws))) ≡ true → (list_any (λ h. eqb h.0 g.0) (map (λ w. w.gxid) (filter p ws)) ≡ true → list_any (is_of g) ws ≡ true) → (eqb w.gxid.0 g.0 || list_any (is_of g) ws) ≡ true
    kept true some more = or_else (eqb w.gxid.0 g.0) some more
      where
        or_else : (a : Bool) {b c : Bool} → (a || b) ≡ true → (b ≡ true → c ≡ true) → (a || c) ≡ true
        or_else true some more = refl
        or_else false some more = more some
    kept false some more = or_more (eqb w.gxid.0 g.0) (more some)
      where
        or_more : (a : Bool) {c : Bool} → c ≡ true → (a || c) ≡ true
        or_more true is = refl
        or_more false is = is

pub same_gxid_is : (g : Gxid) (w : Claim) → is_of g w ≡ true → w.gxid ≡ g
same_gxid_is g w same = grind (arith, nat_tests)

step : (locks : Locks) (g : Gxid) (w : Claim) (ws : List Claim) (same free : Bool) → is_of g w ≡ same → is_clear locks.holds locks.waits w ≡ free → list_any (is_of w.gxid) ws ≡ false → list_any (λ h. eqb h.0 g.0) (map (λ v. v.gxid) (cond free (w ∷ filter (is_clear locks.holds locks.waits) ws) (filter (is_clear locks.holds locks.waits) ws))) ≡ true → (list_any (λ h. eqb h.0 g.0) (map (λ v. v.gxid) (filter (is_clear locks.holds locks.waits) ws)) ≡ true → is_ready locks (find (is_of g) ws) ≡ true) → is_ready locks (cond same (Some w) (find (is_of g) ws)) ≡ true
step locks g w ws true true same free none some more = free
step locks g w ws true false same free none some more =
    let again : list_any (is_of w.gxid) ws ≡ true = subst (λ (h : Gxid). list_any (is_of h) ws ≡ true) (sym (same_gxid_is g w same)) (any_of_filter (is_clear locks.holds locks.waits) g ws some) in
    absurd (cc)
step locks g w ws false true same free none some more = more (ap (λ b. b || list_any (λ h. eqb h.0 g.0) (map (λ v. v.gxid) (filter (is_clear locks.holds locks.waits) ws))) (sym same) ∙ some)
step locks g w ws false false same free none some more = more some

is_ready-found : (locks : Locks) (g : Gxid) (ws : List Claim) → WaitOnce ws → list_any (λ h. eqb h.0 g.0) (map (λ v. v.gxid) (filter (is_clear locks.holds locks.waits) ws)) ≡ true → is_ready locks (find (is_of g) ws) ≡ true
is_ready-found locks g [] once some = some
is_ready-found locks g (w ∷ ws) once some =
    step locks g w ws (is_of g w) (is_clear locks.holds locks.waits w) refl refl (list_any_none (is_of w.gxid) ws (once_head w ws once)) some (is_ready-found locks g ws (once_tail w ws once))

listed : (g : Gxid) (gs : List Gxid) → Contains gs g → list_any (λ h. eqb h.0 g.0) gs ≡ true
listed g gs (k, inside, at) = list_any_at (λ h. eqb h.0 g.0) gs k g inside (itself (get_or gs k g) at)
  where
    itself : (h : Gxid) → h ≡ g → eqb h.0 g.0 ≡ true
    itself h same = grind (arith, nat_tests)

-- the least of the ready ones can be resumed
pub is_ready-least : (locks : Locks) (ws : List Claim) (o : Option Gxid) → WaitOnce ws → IsLeast o (map (λ v. v.gxid) (filter (is_clear locks.holds locks.waits) ws)) → IfSome o (λ g. is_ready locks (find (is_of g) ws) ≡ true)
is_ready-least locks ws None once least = tt
is_ready-least locks ws (Some g) once least = is_ready-found locks g ws once (listed g (map (λ v. v.gxid) (filter (is_clear locks.holds locks.waits) ws)) least.0)
