-- Whom a command awaits at a row, and who has overtaken it, as the rule has it.
use Rattle.std.proofs.Common.{◌≡◌, ◌<◌, Bool, true, false, cond, if◌then◌else◌, ltb, not, ◌&&◌, ◌||◌, List, [], ◌∷◌, Option, Some, None, refl, sym, ap, ◌∙◌, subst, arith, ◌≤◌}
use Rattle.std.proofs.lemmas.Bool.Decides.{nat_tests}
use Rattle.std.specs.List.{AllByRecursion, list_any}
use Rattle.std.specs.Option.{option_or}
use Rattle.gx_ids.specs.declared.ids.Cid.{Cid}
use Rattle.gx_ids.specs.declared.ids.Gxid.{Gxid}
use Rattle.gx_ids.specs.declared.ids.Table.{Table}
use Rattle.gx_ids.specs.declared.rid.Rid.{Rid}
use Rattle.gx_dsnap.specs.Snapshot.{sees}
use Rattle.gx_dsnap.specs.declared.snapshot.Snapshot.{Snapshot}
use Rattle.gx_waits.specs.Claim.{same_claim}
use Rattle.gx_rows.specs.Counts.{is_committed}
use Rattle.gx_rows.specs.Rows.{last_passing}
use Rattle.gx_rows.specs.Xids.{kept}
use Rattle.gx_store.specs.Marks.{is_same_gxid}
use Rattle.gx_rules.specs.Changes.{is_settled}
use Rattle.gx_rules.specs.Segments as rule
use Rattle.gx_rules.specs.Segments.{Phase, Reading, Writing, Prepared, Committed, Forgotten, Aborted, Seg, Version, has_committed, has_ended, local_of}
use Rattle.gx_rules.specs.Shown.{counts, current_of, is_current}
use Rattle.gx_rules.specs.Slices.{Moved, own_lock}
use Rattle.gx_slices.specs.Agrees.{AreWriters, has_version}
use Rattle.gx_slices.specs.Apart.{IsStored}
use Rattle.gx_slices.specs.Changing.{awaited_in, overtaker_in}
use Rattle.gx_slices.specs.Store.{Store, passes, status_of}
use Rattle.gx_slices.specs.Waiting.{is_open}
use Rattle.gx_slices.proofs.Counting.{all_there}
use Rattle.gx_slices.proofs.Gxids.{same_gxid}
use Rattle.gx_slices.proofs.Lists.{all_map, and_parts, last_passing-cons}

-- WHAT IS CURRENT
same_some : {X : Type 0} {a b : X} → Some a ≡ Some b → a ≡ b
same_some e = cc

once : {X : Type 0} (P : X → Type 0) (x y : X) (o : Option X) (b : Bool) → (b ≡ true → P y) → (o ≡ Some x → P x) → option_or o (cond b (Some y) None) ≡ Some x → P x
once P x y None true first more e = subst P (same_some e) (first refl)
once P x y None false first more e = absurd (cc)
once P x y (Some z) b first more e = more e

-- the last that passes is one of them, and passes
pub found-last_passing : {X : Type 0} (P : X → Type 0) (p : X → Bool) (xs : List X) → AllByRecursion (λ x. p x ≡ true → P x) xs → (x : X) → last_passing p xs ≡ Some x → P x
found-last_passing P p [] all x e = absurd (cc)
found-last_passing P p (y ∷ ys) all x e = once P x y (last_passing p ys) (p y) all.0 (found-last_passing P p ys all.1 x) (sym (last_passing-cons p y ys) ∙ e)

module _ (s : Seg) (table : Table) (rid : Rid) (v : Version) (current : current_of s table rid ≡ Some v) where
  pub has-current : (has_version s v.gxid ≡ true) × (is_current s table rid v ≡ true)
  has-current =
      found-last_passing (λ (u : Version). (has_version s u.gxid ≡ true) × (is_current s table rid u ≡ true)) (is_current s table rid) s.versions
      (all_map {Q = λ (u : Version). is_current s table rid u ≡ true → (has_version s u.gxid ≡ true) × (is_current s table rid u ≡ true)} (λ u there is. (there, is)) s.versions (all_there s.versions)) v current

  pub unaborted-current : rule.is_unaborted (local_of s v.gxid).phase ≡ true
  unaborted-current = (and_parts _ _ (and_parts _ _ has-current.1).1).1

-- IT IS AWAITED
no_yes : (b : Bool) → b ≡ true → not b ≡ true → ⊥
no_yes true e f = cc
no_yes false e f = cc

or_yes : (b : Bool) → (b || true) ≡ true
or_yes true = refl
or_yes false = refl

module _ (m : Moved) (g : Gxid) (writers : AreWriters m.seg) where
  low-unheld : (h : Gxid) → h.0 < m.seg.horizon.0 → has_version m.seg h ≡ true → (b : Bool) → list_any (same_claim (own_lock h)) m.seg.locks.holds ≡ b → b ≡ false
  low-unheld h low there false e = refl
  low-unheld h low there true e = absurd (no_yes (has_ended (local_of m.seg h).phase) (writers.low h low there) (and_parts (has_version m.seg h) (not (has_ended (local_of m.seg h).phase)) (writers.own h e)).1)

  low-settled : (h : Gxid) → h.0 < m.seg.horizon.0 → has_version m.seg h ≡ true → is_settled m g h ≡ true
  low-settled h low there =
      ap (λ (b : Bool). is_same_gxid h g || not b) (low-unheld h low there (list_any (same_claim (own_lock h)) m.seg.locks.holds) refl) ∙ or_yes (is_same_gxid h g)

  either : (h : Gxid) → has_version m.seg h ≡ true → (b : Bool) → ltb h.0 m.seg.horizon.0 ≡ b → awaited_in m.seg.locks.holds g (if b then None else Some h) ≡ (if is_settled m g h then None else Some h)
  either h there true low = ap (λ (b : Bool). if b then None else Some h) (sym (low-settled h (is_low h low) there))
    where
      is_low : (h : Gxid) → ltb h.0 m.seg.horizon.0 ≡ true → h.0 < m.seg.horizon.0
      is_low h low = grind (arith, nat_tests)
  either h there false up = refl

  pub awaited_in-is_settled : (h : Gxid) → has_version m.seg h ≡ true → awaited_in m.seg.locks.holds g (kept m.seg.horizon h) ≡ (if is_settled m g h then None else Some h)
  awaited_in-is_settled h there = either h there (ltb h.0 m.seg.horizon.0) refl

-- IT HAS OVERTAKEN
ended-committed : (p : Phase) → has_ended p ≡ true → rule.is_unaborted p ≡ true → has_committed p ≡ true
ended-committed Reading e f = absurd (cc)
ended-committed Writing e f = absurd (cc)
ended-committed Prepared e f = absurd (cc)
ended-committed Committed e f = absurd (cc)
ended-committed (Forgotten committed) e f = f
ended-committed Aborted e f = absurd (cc)

open-uncommitted : (p : Phase) → is_open p ≡ true → has_committed p ≡ false
open-uncommitted Reading e = refl
open-uncommitted Writing e = refl
open-uncommitted Prepared e = absurd (cc)
open-uncommitted Committed e = absurd (cc)
open-uncommitted (Forgotten c) e = absurd (cc)
open-uncommitted Aborted e = absurd (cc)

or-no : (a b : Bool) → b ≡ false → a ≡ ((true && a) || (b && true))
or-no true b e = refl
or-no false true e = sym e
or-no false false e = refl

module _ (store : Store) (s : Seg) (stored : IsStored store s) (writers : AreWriters s) (snap : Snapshot) (g : Gxid) (c : Cid) (open_here : is_open (local_of s g).phase ≡ true) (table : Table) (rid : Rid) (v : Version) (current : current_of s table rid ≡ Some v) where
  abbrev there : has_version s v.gxid ≡ true
  there = (has-current s table rid v current).0

  abbrev seen : Bool
  seen = has_committed (local_of s v.gxid).phase && (ltb v.gxid.0 s.horizon.0 || sees snap v.gxid)

  below-counts : ltb v.gxid.0 s.horizon.0 ≡ true → counts s snap g c v ≡ true
  below-counts low =
      ap (λ (b : Bool). (is_same_gxid v.gxid g && ltb v.cid.0 c.0) || (b && (ltb v.gxid.0 s.horizon.0 || sees snap v.gxid)))
      (ended-committed (local_of s v.gxid).phase (writers.low v.gxid (is_low v low) there) (unaborted-current s table rid v current))
      ∙ ap (λ (b : Bool). (is_same_gxid v.gxid g && ltb v.cid.0 c.0) || (b || sees snap v.gxid)) low
      ∙ or_yes (is_same_gxid v.gxid g && ltb v.cid.0 c.0)
    where
      is_low : (v : Version) → ltb v.gxid.0 s.horizon.0 ≡ true → v.gxid.0 < s.horizon.0
      is_low v low = grind (arith, nat_tests)

  uncommitted-own : is_same_gxid v.gxid g ≡ true → has_committed (local_of s v.gxid).phase ≡ false
  uncommitted-own e = subst (λ (h : Gxid). has_committed (local_of s h).phase ≡ false) (same_gxid g v.gxid e) (open-uncommitted (local_of s g).phase open_here)

  committed-there : ltb v.gxid.0 s.horizon.0 ≡ false → passes is_committed (status_of store v.gxid) ≡ has_committed (local_of s v.gxid).phase
  committed-there up = stored.committed v.gxid (from v up) ∙ ap (λ (b : Bool). b && has_committed (local_of s v.gxid).phase) there
    where
      from : (v : Version) → ltb v.gxid.0 s.horizon.0 ≡ false → s.horizon.0 ≤ v.gxid.0
      from v up = grind (arith, nat_tests, up)

  plain-or : (a b : Bool) → b ≡ false → a ≡ (a || b)
  plain-or true b e = refl
  plain-or false b e = sym e

  no-and : (a b : Bool) → a ≡ false → (a && b) ≡ false
  no-and a b e = ap (λ (x : Bool). x && b) e

  counted-by : (own : Bool) → is_same_gxid v.gxid g ≡ own → ltb v.gxid.0 s.horizon.0 ≡ false
      → (if own then ltb v.cid.0 c.0 else passes is_committed (status_of store v.gxid) && sees snap v.gxid) ≡ ((own && ltb v.cid.0 c.0) || seen)
  counted-by true e up = plain-or (ltb v.cid.0 c.0) seen (no-and (has_committed (local_of s v.gxid).phase) _ (uncommitted-own e))
  counted-by false e up =
      ap (λ (b : Bool). b && sees snap v.gxid) (committed-there up) ∙ ap (λ (b : Bool). has_committed (local_of s v.gxid).phase && (b || sees snap v.gxid)) (sym up)

  overtaken-by : (b : Bool) → ltb v.gxid.0 s.horizon.0 ≡ b → overtaker_in store snap g c (if b then None else Some v.gxid) v.cid ≡ (if counts s snap g c v then None else Some v.gxid)
  overtaken-by true low = ap (λ (b : Bool). if b then None else Some v.gxid) (sym (below-counts low))
  overtaken-by false up = ap (λ (b : Bool). if b then None else Some v.gxid) (counted-by (is_same_gxid v.gxid g) refl up)

  pub overtaker_in-counts : overtaker_in store snap g c (kept store.horizon v.gxid) v.cid ≡ (if counts s snap g c v then None else Some v.gxid)
  overtaker_in-counts = ap (λ (h : Gxid). overtaker_in store snap g c (kept h v.gxid) v.cid) stored.horizon ∙ overtaken-by (ltb v.gxid.0 s.horizon.0) refl
