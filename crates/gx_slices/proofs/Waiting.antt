-- Who waits, after one transaction has changed.
use Rattle.std.proofs.Common.{◌≡◌, ◌≢◌, ◌≤◌, Bool, true, false, not, if◌then◌else◌, List, [], ◌∷◌, ◌++◌, ◌||◌, Option, Some, None, refl, sym, ap, ◌∙◌, subst, eqb, arith}
use Rattle.std.proofs.lemmas.Bool.Decides.{nat_tests}
use Rattle.std.proofs.lemmas.List.Folds.{find-append}
use Rattle.std.specs.List.{list_any}
use Rattle.std.specs.Option.{option_or}
use Rattle.std.specs.Prelude.{find, is_some, nat_lt}
use Rattle.gx_ids.specs.declared.ids.Gxid.{Gxid}
use Rattle.gx_tree.specs.declared.schema.Schema.{Schema}
use Rattle.gx_waits.specs.declared.claim.Claim.{Claim}
use Rattle.gx_waits.specs.Claims.{is_of, without}
use Rattle.gx_locks.specs.Locks.{wait_of}
use Rattle.gx_locks.proofs.Filed.{find-weaker}
use Rattle.gx_rules.specs.Fits.{is_waiting}
use Rattle.gx_rules.specs.Locks.{with_hold}
use Rattle.gx_rules.specs.Segments.{Local, Seg, Suspended, local_of}
use Rattle.gx_slices.specs.Waiting.{AreWaits, IsRightWait, is_open}
use Rattle.gx_slices.proofs.Gxids.{apart, differ, same_gxid}
use Rattle.gx_slices.proofs.Lists.{or_none}

-- THOSE WHO WAIT
-- who has a wait is among those who wait
pub waits-found : (p : Claim → Bool) (waits : List Claim) → list_any p waits ≡ is_some (find p waits)
waits-found p [] = refl
waits-found p (claim ∷ waits) = by_test (p claim) (waits-found p waits)
  where
    by_test : (b : Bool) → list_any p waits ≡ is_some (find p waits) → (b || list_any p waits) ≡ is_some (if b then Some claim else find p waits)
    by_test true more = refl
    by_test false more = more

-- one more
pub find-more : (h : Gxid) (waits : List Claim) (claim : Claim) → h.0 ≢ claim.gxid.0 → find (is_of h) (waits ++ claim ∷ []) ≡ find (is_of h) waits
find-more h waits claim other =
    find-append (is_of h) waits (claim ∷ [])
    ∙ ap (λ (b : Bool). option_or (find (is_of h) waits) (if b then Some claim else None)) (apart claim.gxid.0 h.0 (λ e. other (sym e)))
    ∙ or_none (find (is_of h) waits)

pub find-own : (h : Gxid) (waits : List Claim) (claim : Claim) → eqb claim.gxid.0 h.0 ≡ true → list_any (is_of h) waits ≡ false → find (is_of h) (waits ++ claim ∷ []) ≡ Some claim
find-own h waits claim own none =
    find-append (is_of h) waits (claim ∷ [])
    ∙ ap (λ (b : Bool). option_or (find (is_of h) waits) (if b then Some claim else None)) own
    ∙ none_before (find (is_of h) waits) (sym (waits-found (is_of h) waits) ∙ none)
  where
    none_before : (o : Option Claim) → is_some o ≡ false → option_or o (Some claim) ≡ Some claim
    none_before None e = refl
    none_before (Some x) e = absurd (cc)

-- one less
pub waits-without : (g : Gxid) (waits : List Claim) → list_any (is_of g) (without g waits) ≡ false
waits-without g [] = refl
waits-without g (claim ∷ waits) = by_test (is_of g claim) refl (waits-without g waits)
  where
    by_test : (b : Bool) → is_of g claim ≡ b → list_any (is_of g) (without g waits) ≡ false → list_any (is_of g) (if not b then claim ∷ without g waits else without g waits) ≡ false
    by_test true e more = more
    by_test false e more = ap (λ (b : Bool). b || list_any (is_of g) (without g waits)) e ∙ more

pub find-others : (g h : Gxid) (waits : List Claim) → h.0 ≢ g.0 → find (is_of h) (without g waits) ≡ find (is_of h) waits
find-others g h waits other = find-weaker (is_of h) (λ claim. not (is_of g claim)) (λ claim. is_other claim) waits
  where
    is_other : (claim : Claim) → is_of h claim ≡ true → not (is_of g claim) ≡ true
    is_other claim e = ap not (apart claim.gxid.0 g.0 (λ same. other (grind (arith, nat_tests))))

-- ONE TRANSACTION CHANGES
pub never : (o : Option Suspended) (w : Suspended) → is_some o ≡ false → o ≡ Some w → ⊥
never None w free e = cc
never (Some v) w free e = cc

module _ (tables : List Schema) (s s' : Seg) (g : Gxid) (was : AreWaits tables s) (horizon : s'.horizon ≡ s.horizon) (others : (h : Gxid) → h.0 ≢ g.0 → local_of s' h ≡ local_of s h) (waits : (h : Gxid) → h.0 ≢ g.0 → wait_of s'.locks h ≡ wait_of s.locks h) where
  standing-other : (h : Gxid) → h.0 ≢ g.0 → list_any (is_of h) s'.locks.waits ≡ list_any (is_of h) s.locks.waits
  standing-other h other =
      waits-found (is_of h) s'.locks.waits ∙ ap (λ (o : Option Claim). is_some o) (waits h other) ∙ sym (waits-found (is_of h) s.locks.waits)

  right-other : (h : Gxid) (w : Suspended) → h.0 ≢ g.0 → local_of s' h ≡ local_of s h → IsRightWait tables s h w → IsRightWait tables s' h w
  right-other h w other same is = record {
    alive = subst (λ (k : Gxid). k.0 ≤ h.0) (sym horizon) is.alive;
    open_here = ap (λ (l : Local). is_open l.phase) same ∙ is.open_here;
    came = ap (λ (l : Local). nat_lt 0 l.last) same ∙ is.came;
    reads = is.reads;
    right = is.right;
    new = is.new;
    room = is.room;
  }

  module _ (own : list_any (is_of g) s'.locks.waits ≡ is_waiting (local_of s' g)) (fits : (w : Suspended) → (local_of s' g).suspended ≡ Some w → IsRightWait tables s' g w) where
    standing : (h : Gxid) (b : Bool) → eqb h.0 g.0 ≡ b → list_any (is_of h) s'.locks.waits ≡ is_waiting (local_of s' h)
    standing h true e = subst (λ (k : Gxid). list_any (is_of k) s'.locks.waits ≡ is_waiting (local_of s' k)) (same_gxid g h e) own
    standing h false e = let other = differ h.0 g.0 e in standing-other h other ∙ was.standing h ∙ ap is_waiting (sym (others h other))

    right : (h : Gxid) (w : Suspended) (b : Bool) → eqb h.0 g.0 ≡ b → (local_of s' h).suspended ≡ Some w → IsRightWait tables s' h w
    right h w true e = subst (λ (k : Gxid). (local_of s' k).suspended ≡ Some w → IsRightWait tables s' k w) (same_gxid g h e) (fits w)
    right h w false e = λ is.
        let other = differ h.0 g.0 e in let same = others h other in right-other h w other same (was.right h w (sym (ap (λ (l : Local). l.suspended) same) ∙ is))

    pub AreWaits-one : AreWaits tables s'
    AreWaits-one = record { standing = λ h. standing h (eqb h.0 g.0) refl; right = λ h w is. right h w (eqb h.0 g.0) refl is }

  -- which doesn't wait
  pub AreWaits-free : list_any (is_of g) s'.locks.waits ≡ false → is_waiting (local_of s' g) ≡ false → AreWaits tables s'
  AreWaits-free none free = AreWaits-one (none ∙ sym free) (λ w is. absurd (never (local_of s' g).suspended w free is))

-- a lock is held
pub AreWaits-hold : (tables : List Schema) (s : Seg) (wanted : Claim) → AreWaits tables s → AreWaits tables (record s { locks = with_hold s.locks wanted })
AreWaits-hold tables s wanted was = record {
  standing = was.standing;
  right = λ g w e. let is = was.right g w e in record { alive = is.alive; open_here = is.open_here; came = is.came; reads = is.reads; right = is.right; new = is.new; room = is.room };
}
