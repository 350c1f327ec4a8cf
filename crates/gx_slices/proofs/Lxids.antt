-- What a transaction that is new here changes of what lxids and gxids lead to.
use Rattle.std.proofs.Common.{◌≡◌, ◌≢◌, ◌≤◌, List, [], ◌∷◌, ◌++◌, map, refl, sym, ap, ◌∙◌, subst, Bool, true, false, cond, eqb, ltb, arith}
use Rattle.std.proofs.lemmas.Bool.Decides.{nat_tests}
use Rattle.std.proofs.lemmas.Cmp.{nat_cmp_total, on_total}
use Rattle.std.specs.Cmp.{IsTotalOrder}
use Rattle.std.specs.Prelude.{Option, None, Some, option_and_then}
use Rattle.std.specs.List.{AllByRecursion}
use Rattle.std.specs.Ordering.{is_eq}
use Rattle.gx_ids.specs.declared.ids.Gxid.{Gxid}
use Rattle.gx_ids.specs.declared.ids.Lxid.{Lxid}
use Rattle.gx_ids.specs.declared.ids.Table.{Table}
use Rattle.gx_rows.specs.declared.entry.XidEntry.{XidEntry}
use Rattle.gx_rows.specs.declared.status.LocalStatus.{LocalStatus}
use Rattle.gx_rows.specs.declared.status.LocalStatus.TheVariants.{Running}
use Rattle.gx_rows.specs.declared.version.Version.{Version}
use Rattle.gx_rows.specs.Xids as xids
use Rattle.gx_rows.specs.Xids.{Xids, assigned, entry_of, gxid_cmp, gxid_of, is_given, kept, lxid_cmp, lxid_of, next_lxid, status_in}
use Rattle.gx_rows.proofs.Entries.{lookup-insert_entry_same, lookup-insert_entry_other}
use Rattle.gx_ids.specs.declared.rid.Rid.{Rid}
use Rattle.gx_slices.specs.Store.{Write, kept_at}
use Rattle.gx_slices.specs.Filed.{IsFiled, IsSound, write_of}

lxid_cmp-total : IsTotalOrder lxid_cmp
lxid_cmp-total = on_total (λ (l : Lxid). l.0) nat_cmp_total

gxid_cmp-total : IsTotalOrder gxid_cmp
gxid_cmp-total = on_total (λ (g : Gxid). g.0) nat_cmp_total

none_some : {X : Type 0} {x : X} → None ≡ Some x → ⊥
none_some e = cc

some_same : {X : Type 0} {x y : X} → Some x ≡ Some y → x ≡ y
some_same e = cc

same_gxid : (g q : Gxid) → eqb g.0 q.0 ≡ true → g ≡ q
same_gxid g q e = grind (arith, nat_tests)

same_lxid : (l k : Lxid) → eqb l.0 k.0 ≡ true → l ≡ k
same_lxid l k e = grind (arith, nat_tests)

gxids_apart : (g q : Gxid) → eqb g.0 q.0 ≡ false → is_eq (gxid_cmp q g) ≡ false
gxids_apart g q e = grind (arith, nat_tests)

lxids_apart : (l k : Lxid) → eqb l.0 k.0 ≡ false → is_eq (lxid_cmp k l) ≡ false
lxids_apart l k e = grind (arith, nat_tests)

pub test_of : (g q : Gxid) → q.0 ≢ g.0 → eqb g.0 q.0 ≡ false
test_of g q other = grind (arith, nat_tests)

module _ (x : Xids) (g : Gxid) where
  abbrev new : XidEntry
  new = record { gxid = g; status = Running }

  next-apart : (l : Lxid) → is_given x l ≡ true → eqb (next_lxid x).0 l.0 ≡ false
  next-apart l given = grind (arith, nat_tests)

  next-given : is_given (assigned x g) (next_lxid x) ≡ true
  next-given = grind (arith, nat_tests)

  pub given-assigned : (l : Lxid) → is_given x l ≡ true → is_given (assigned x g) l ≡ true
  given-assigned l given = grind (arith, nat_tests)

  entry_of-new : entry_of (assigned x g) (next_lxid x) ≡ Some new
  entry_of-new = lookup-insert_entry_same lxid_cmp-total (next_lxid x) new x.entries

  entry_of-other : (l : Lxid) → eqb (next_lxid x).0 l.0 ≡ false → entry_of (assigned x g) l ≡ entry_of x l
  entry_of-other l apart = lookup-insert_entry_other lxid_cmp-total (next_lxid x) new l x.entries (lxids_apart (next_lxid x) l apart)

  pub lxid_of-new : lxid_of (assigned x g) g ≡ Some (next_lxid x)
  lxid_of-new = lookup-insert_entry_same gxid_cmp-total g (next_lxid x) x.lxids

  pub lxid_of-other : (q : Gxid) → eqb g.0 q.0 ≡ false → lxid_of (assigned x g) q ≡ lxid_of x q
  lxid_of-other q apart = lookup-insert_entry_other gxid_cmp-total g (next_lxid x) q x.lxids (gxids_apart g q apart)

  pub gxid_of-new : x.horizon.0 ≤ g.0 → gxid_of (assigned x g) (next_lxid x) ≡ Some g
  gxid_of-new high = ap (option_and_then (λ (e : XidEntry). kept x.horizon e.gxid)) entry_of-new ∙ ap (λ (b : Bool). cond b None (Some g)) (not_below x.horizon g high)
    where
      not_below : (h g : Gxid) → h.0 ≤ g.0 → ltb g.0 h.0 ≡ false
      not_below h g up = grind (arith, nat_tests)

  pub status_of-new : xids.status_of (assigned x g) (next_lxid x) ≡ Running
  status_of-new = ap (status_in (is_given (assigned x g) (next_lxid x))) entry_of-new

  gxid_of-other : (l : Lxid) → eqb (next_lxid x).0 l.0 ≡ false → gxid_of (assigned x g) l ≡ gxid_of x l
  gxid_of-other l apart = ap (option_and_then (λ (e : XidEntry). kept x.horizon e.gxid)) (entry_of-other l apart)

  pub status_of-given : (l : Lxid) → is_given x l ≡ true → xids.status_of (assigned x g) l ≡ xids.status_of x l
  status_of-given l given =
      ap (λ (b : Bool). status_in b (entry_of (assigned x g) l)) (given-assigned l given ∙ sym given)
      ∙ ap (status_in (is_given x l)) (entry_of-other l (next-apart l given))

  -- a version's write is told as before
  write_of-given : (v : Version) → is_given x v.lxid ≡ true → write_of (assigned x g) v ≡ write_of x v
  write_of-given v given =
      ap (λ (o : Option Gxid). let w : Write = record { writer = o; cid = v.cid; status = xids.status_of (assigned x g) v.lxid; image = v.image } in w) (gxid_of-other v.lxid (next-apart v.lxid given))
      ∙ ap (λ (s : LocalStatus). let w : Write = record { writer = gxid_of x v.lxid; cid = v.cid; status = s; image = v.image } in w) (status_of-given v.lxid given)

  pub writes-assigned : (table : Table) (vs : List Version) → AllByRecursion (IsFiled x table) vs → map (write_of (assigned x g)) vs ≡ map (write_of x) vs
  writes-assigned table [] all = refl
  writes-assigned table (v ∷ vs) all =
      ap (λ (w : Write). w ∷ map (write_of (assigned x g)) vs) (write_of-given v all.0.1)
      ∙ ap (λ (ws : List Write). write_of x v ∷ ws) (writes-assigned table vs all.1)

  pub IsFiled-assigned : (table : Table) (vs : List Version) → AllByRecursion (IsFiled x table) vs → AllByRecursion (IsFiled (assigned x g) table) vs
  IsFiled-assigned table [] all = tt
  IsFiled-assigned table (v ∷ vs) all = ((all.0.0, given-assigned v.lxid all.0.1), IsFiled-assigned table vs all.1)

  -- and entries lead both ways
  module _ (tables : List (Table × List (Rid × List Version))) (sound : IsSound tables x) (fresh : lxid_of x g ≡ None) (high : x.horizon.0 ≤ g.0) where
    old_gxid : (q : Gxid) (l : Lxid) (b : Bool) → eqb g.0 q.0 ≡ b → lxid_of x q ≡ Some l → b ≡ false
    old_gxid q l false e at = refl
    old_gxid q l true e at = absurd (none_some (sym fresh ∙ ap (lxid_of x) (same_gxid g q e) ∙ at))

    leads : (q : Gxid) (l : Lxid) (b : Bool) → eqb g.0 q.0 ≡ b → lxid_of (assigned x g) q ≡ Some l → gxid_of (assigned x g) l ≡ Some q
    leads q l true e at =
        let k : next_lxid x ≡ l = some_same (sym lxid_of-new ∙ ap (lxid_of (assigned x g)) (same_gxid g q e) ∙ at) in
        ap (gxid_of (assigned x g)) (sym k) ∙ gxid_of-new high ∙ ap Some (same_gxid g q e)
    leads q l false e at =
        let was : lxid_of x q ≡ Some l = sym (lxid_of-other q e) ∙ at in
        gxid_of-other l (next-apart l (sound.given q l was)) ∙ sound.there q l was

    leads_back : (q : Gxid) (l : Lxid) (b : Bool) → eqb (next_lxid x).0 l.0 ≡ b → gxid_of (assigned x g) l ≡ Some q → lxid_of (assigned x g) q ≡ Some l
    leads_back q l true e at =
        let h : g ≡ q = some_same (sym (gxid_of-new high) ∙ ap (gxid_of (assigned x g)) (same_lxid (next_lxid x) l e) ∙ at) in
        ap (lxid_of (assigned x g)) (sym h) ∙ lxid_of-new ∙ ap Some (same_lxid (next_lxid x) l e)
    leads_back q l false e at =
        let was : lxid_of x q ≡ Some l = sound.back q l (sym (gxid_of-other l e) ∙ at) in
        lxid_of-other q (old_gxid q l (eqb g.0 q.0) refl was) ∙ was

    gives : (q : Gxid) (l : Lxid) (b : Bool) → eqb g.0 q.0 ≡ b → lxid_of (assigned x g) q ≡ Some l → is_given (assigned x g) l ≡ true
    gives q l true e at = ap (is_given (assigned x g)) (sym (some_same (sym lxid_of-new ∙ ap (lxid_of (assigned x g)) (same_gxid g q e) ∙ at))) ∙ next-given
    gives q l false e at = given-assigned l (sound.given q l (sym (lxid_of-other q e) ∙ at))

    is_high : (q : Gxid) (l : Lxid) (b : Bool) → eqb g.0 q.0 ≡ b → lxid_of (assigned x g) q ≡ Some l → x.horizon.0 ≤ q.0
    is_high q l true e at = subst (λ (h : Gxid). x.horizon.0 ≤ h.0) (same_gxid g q e) high
    is_high q l false e at = sound.high q l (sym (lxid_of-other q e) ∙ at)

    pub IsSound-assigned : IsSound tables (assigned x g)
    IsSound-assigned = record {
      there = λ q l. leads q l (eqb g.0 q.0) refl;
      back = λ q l. leads_back q l (eqb (next_lxid x).0 l.0) refl;
      given = λ q l. gives q l (eqb g.0 q.0) refl;
      high = λ q l. is_high q l (eqb g.0 q.0) refl;
      filed = λ t r. IsFiled-assigned t (kept_at tables t r) (sound.filed t r);
    }

pub AllByRecursion-push : {X : Type 0} (P : X → Type 0) (xs : List X) (y : X) → AllByRecursion P xs → P y → AllByRecursion P (xs ++ y ∷ [])
AllByRecursion-push P [] y all more = (more, tt)
AllByRecursion-push P (x ∷ xs) y all more = (all.0, AllByRecursion-push P xs y all.1 more)
