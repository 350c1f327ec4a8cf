-- What a sweep leaves shows what was shown before.
use Rattle.std.proofs.Common.{◌≡◌, ◌<◌, ◌≤◌, ℕ, Bool, true, false, cond, not, eqb, ltb, ◌&&◌, ◌||◌, if◌then◌else◌, List, [], ◌∷◌, Option, Some, None, refl, sym, ap, ◌∙◌, arith}
use Rattle.std.proofs.lemmas.Bool.Decides.{nat_tests}
use Rattle.std.proofs.lemmas.List.{reverse-append}
use Rattle.std.proofs.lemmas.List.Folds.{find-append}
use Rattle.std.specs.List.{list_any}
use Rattle.std.specs.Option.{ForSome, option_or}
use Rattle.std.specs.Prelude.{find, is_some, reverse}
use Rattle.gx_dsnap.specs.declared.snapshot.Snapshot.{Snapshot}
use Rattle.gx_ids.specs.declared.ids.Cid.{Cid}
use Rattle.gx_ids.specs.declared.ids.Gxid.{Gxid}
use Rattle.gx_ids.specs.declared.ids.Lxid.{Lxid}
use Rattle.gx_rows.proofs.Dropped.{sees-below}
use Rattle.gx_rows.specs.Counts.{counts, is_committed, is_own, is_seen, shown_of}
use Rattle.gx_rows.specs.Rows.{is_unaborted, last_passing}
use Rattle.gx_rows.specs.Xids.{Xids, gxid_of, status_of}
use Rattle.gx_rows.specs.declared.status.LocalStatus.{LocalStatus}
use Rattle.gx_rows.specs.declared.status.LocalStatus.TheVariants.{Running, Prepared, Committed, Aborted}
use Rattle.gx_rows.specs.declared.version.Version.{Version}
use Rattle.gx_sweep.specs.Swept.{has_aborted, is_past, is_settled, living, swept}

-- ANY READER
pub last_passing-cons : {X : Type 0} (p : X → Bool) (x : X) (xs : List X) → last_passing p (x ∷ xs) ≡ option_or (last_passing p xs) (cond (p x) (Some x) None)
last_passing-cons p x xs = ap (find p) (reverse-append (x ∷ []) xs) ∙ find-append p (reverse xs) (x ∷ [])

or_none : {X : Type 0} (o : Option X) → option_or o None ≡ o
or_none None = refl
or_none (Some x) = refl

or_found : {X : Type 0} (o p : Option X) → is_some o ≡ true → option_or o p ≡ o
or_found None p e = absurd (cc)
or_found (Some x) p e = refl

-- who takes none of an aborted transaction, and each that is settled
module _ {X : Type 0} (aborted settled p : X → Bool) (never : (x : X) → aborted x ≡ true → p x ≡ false) (always : (x : X) → settled x ≡ true → p x ≡ true) where
  found_first : (x : X) (xs : List X) (a b : Bool) → settled x ≡ a → list_any settled xs ≡ b → (a || b) ≡ true → (b ≡ true → is_some (last_passing p xs) ≡ true) → is_some (option_or (last_passing p xs) (cond (p x) (Some x) None)) ≡ true
  found_first x xs a true f g e more = ap is_some (or_found (last_passing p xs) (cond (p x) (Some x) None) (more refl)) ∙ more refl
  found_first x xs true false f g e more = ap (λ (b : Bool). is_some (option_or (last_passing p xs) (cond b (Some x) None))) (always x f) ∙ either (last_passing p xs)
    where
      either : (o : Option X) → is_some (option_or o (Some x)) ≡ true
      either None = refl
      either (Some y) = refl
  found_first x xs false false f g e more = absurd (cc)

  -- a settled one is found, or one behind it
  pub found-settled : (xs : List X) → list_any settled xs ≡ true → is_some (last_passing p xs) ≡ true
  found-settled [] e = absurd (cc)
  found-settled (x ∷ xs) e =
      ap is_some (last_passing-cons p x xs) ∙ found_first x xs (settled x) (list_any settled xs) refl refl e (λ (f : list_any settled xs ≡ true). found-settled xs f)

  -- one that is dead isn't taken
  pub passes-dead : (x : X) (xs : List X) → (aborted x || list_any settled xs) ≡ true → last_passing p (x ∷ xs) ≡ last_passing p xs
  passes-dead x xs e = last_passing-cons p x xs ∙ by_test (aborted x) refl
    where
      by_test : (a : Bool) → aborted x ≡ a → option_or (last_passing p xs) (cond (p x) (Some x) None) ≡ last_passing p xs
      by_test true f = ap (λ (b : Bool). option_or (last_passing p xs) (cond b (Some x) None)) (never x f) ∙ or_none (last_passing p xs)
      by_test false f = or_found (last_passing p xs) (cond (p x) (Some x) None) (found-settled xs (ap (λ (b : Bool). b || list_any settled xs) (sym f) ∙ e))

  same_once : (x : X) (xs : List X) (b : Bool) → (aborted x || list_any settled xs) ≡ b → last_passing p (living aborted settled xs) ≡ last_passing p xs → last_passing p (if b then living aborted settled xs else x ∷ living aborted settled xs) ≡ last_passing p (x ∷ xs)
  same_once x xs true e same = same ∙ sym (passes-dead x xs e)
  same_once x xs false e same =
      last_passing-cons p x (living aborted settled xs)
      ∙ ap (λ (o : Option X). option_or o (cond (p x) (Some x) None)) same
      ∙ sym (last_passing-cons p x xs)

  pub last_passing-living : (xs : List X) → last_passing p (living aborted settled xs) ≡ last_passing p xs
  last_passing-living [] = refl
  last_passing-living (x ∷ xs) = same_once x xs (aborted x || list_any settled xs) refl (last_passing-living xs)

-- AT A SEGMENT
not_false : (b : Bool) → not b ≡ true → b ≡ false
not_false true e = absurd (cc)
not_false false e = refl

committed_unaborted : (s : LocalStatus) (past : Bool) → (is_committed s && past) ≡ true → is_unaborted s ≡ true
committed_unaborted Running past e = absurd (cc)
committed_unaborted Prepared past e = absurd (cc)
committed_unaborted Committed past e = refl
committed_unaborted Aborted past e = absurd (cc)

module _ (x : Xids) (horizon : Gxid) where
  pub newest-swept : (versions : List Version) → last_passing (λ v. is_unaborted (status_of x v.lxid)) (swept x horizon versions) ≡ last_passing (λ v. is_unaborted (status_of x v.lxid)) versions
  newest-swept versions =
      last_passing-living (has_aborted x) (is_settled x horizon) (λ v. is_unaborted (status_of x v.lxid)) (λ v e. not_false (is_unaborted (status_of x v.lxid)) e)
      (λ v e. committed_unaborted (status_of x v.lxid) (is_past horizon (gxid_of x v.lxid)) e)
      versions

  module _ (snap : Snapshot) (own : Option Lxid) (cid : Cid) (low : horizon.0 ≤ snap.xmin.0) (alive : ForSome own (λ l. is_unaborted (status_of x l) ≡ true)) where
    uncommitted : (s : LocalStatus) (seen : Bool) → is_unaborted s ≡ false → (is_committed s && seen) ≡ false
    uncommitted Running seen e = absurd (cc)
    uncommitted Prepared seen e = absurd (cc)
    uncommitted Committed seen e = absurd (cc)
    uncommitted Aborted seen e = refl

    -- an aborted version isn't the reader's own
    not_own : (v : Version) (o : Option Lxid) → ForSome o (λ l. is_unaborted (status_of x l) ≡ true) → is_unaborted (status_of x v.lxid) ≡ false → is_own v o cid ≡ false
    not_own v None lives e = refl
    not_own v (Some l) lives e = by_test (eqb v.lxid.0 l.0) refl
      where
        same : (m n : Lxid) → eqb m.0 n.0 ≡ true → m.0 ≡ n.0
        same m n f = grind (arith, nat_tests)

        differ : true ≡ false → ⊥
        differ f = cc

        by_test : (b : Bool) → eqb v.lxid.0 l.0 ≡ b → (b && ltb v.cid.0 cid.0) ≡ false
        by_test false f = refl
        by_test true f = absurd (differ (sym (lives l refl) ∙ ap (λ n. let m : Lxid = record { 0 = n } in is_unaborted (status_of x m)) (sym (same v.lxid l f)) ∙ e))

    never : (v : Version) → has_aborted x v ≡ true → counts v x snap own cid ≡ false
    never v e =
        let gone : is_unaborted (status_of x v.lxid) ≡ false = not_false (is_unaborted (status_of x v.lxid)) e in
        ap (λ (b : Bool). b || (is_committed (status_of x v.lxid) && is_seen snap (gxid_of x v.lxid))) (not_own v own alive gone)
        ∙ uncommitted (status_of x v.lxid) (is_seen snap (gxid_of x v.lxid)) gone

    past_seen : (o : Option Gxid) (c : Bool) → (c && is_past horizon o) ≡ true → (c && is_seen snap o) ≡ true
    past_seen o false e = absurd (cc)
    past_seen None true e = refl
    past_seen (Some g) true e = let under = below g.0 horizon.0 snap.xmin.0 e low in sees-below snap g under
      where
        below : (a b c : ℕ) → ltb a b ≡ true → b ≤ c → a < c
        below a b c f l = grind (arith, nat_tests)

    or_true : (a b : Bool) → b ≡ true → (a || b) ≡ true
    or_true true b e = refl
    or_true false b e = e

    always : (v : Version) → is_settled x horizon v ≡ true → counts v x snap own cid ≡ true
    always v e =
        or_true (is_own v own cid) (is_committed (status_of x v.lxid) && is_seen snap (gxid_of x v.lxid))
        (past_seen (gxid_of x v.lxid) (is_committed (status_of x v.lxid)) e)

    pub shown-swept : (versions : List Version) → shown_of (swept x horizon versions) x snap own cid ≡ shown_of versions x snap own cid
    shown-swept versions = last_passing-living (has_aborted x) (is_settled x horizon) (λ v. counts v x snap own cid) never always versions
