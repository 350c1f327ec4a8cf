-- The entries of the map, and what an entry more or less does to them.
use Rattle.std.proofs.Common.{◌≡◌, ℕ, ◌+◌, ◌<◌, ◌≤◌, List, [], ◌∷◌, length, refl, sym, ap, ◌∙◌, subst, Bool, true, false, cond, eqb, ltb, ◌&&◌, arith}
use Rattle.std.proofs.lemmas.Bool.Decides.{nat_tests}
use Rattle.std.proofs.lemmas.Map.{lookup-set_value}
use Rattle.std.specs.Cmp.{IsEquivalence, eq_by_cmp_equiv, nat_cmp_total, on_total}
use Rattle.std.specs.Prelude.{Option, None, Some, IfSome, IsSome, is_some, nat_le, nat_lt, option_and_then, slice_get}
use Rattle.std.specs.declared.cmp.Ordering.{Ordering}
use Rattle.std.specs.declared.cmp.Ordering.TheVariants.{Less, Equal, Greater}
use Rattle.std.specs.Ordering.{eq_by_cmp, is_eq, is_gt, match_ordering}
use Rattle.std.specs.Map.{lookup, remove_entry}
use Rattle.std.specs.BTreeMap.{BTreeMap, get, Updates, IsEmpty, IsLowerBound, insert_entry, is_at}
use Rattle.gx_ids.specs.declared.ids.Gxid.{Gxid}
use Rattle.gx_ids.specs.declared.ids.Lxid.{Lxid}
use Rattle.gx_rows.specs.declared.entry.XidEntry.{XidEntry}
use Rattle.gx_rows.specs.declared.status.LocalStatus.{LocalStatus}
use Rattle.gx_rows.specs.declared.status.LocalStatus.TheVariants.{Running, Prepared, Committed, Aborted}
use Rattle.gx_rows.specs.Counts.{is_committed}
use Rattle.gx_rows.specs.Truncated.{IsTruncated, unless_it_goes}
use Rattle.gx_rows.specs.Xids.{Xids, gxid_cmp, lxid_cmp, gxid_of, kept, status_in, with_entry}
use Rattle.gx_rows.specs.Keys.{AreLeft, HasEntry, IsForgotten, IsRestated, IsWhole, is_done, restated}

-- what holds of each value that may stand there holds of the one that does
pub IfSome-each : {X : Type 0} (P : X → Type 0) (o q : Option X) → o ≡ q → ((x : X) → q ≡ Some x → P x) → IfSome o P
IfSome-each P None q e each = tt
IfSome-each P (Some x) q e each = each x (sym e)

none_some : {X : Type 0} {x : X} → None ≡ Some x → ⊥
none_some e = cc

some_same : {X : Type 0} {x y : X} → Some x ≡ Some y → x ≡ y
some_same e = cc

is_some_of : {X : Type 0} (o : Option X) (x : X) → o ≡ Some x → IsSome o
is_some_of (Some y) x e = refl
is_some_of None x e = absurd (none_some e)

not_both : {b : Bool} → b ≡ true → b ≡ false → ⊥
not_both e f = cc

same_gxid : (g q : Gxid) → eqb g.0 q.0 ≡ true → g ≡ q
same_gxid g q same = grind (arith, nat_tests)

same_lxid : (l k : Lxid) → eqb l.0 k.0 ≡ true → l ≡ k
same_lxid l k same = grind (arith, nat_tests)

pub at_gxid : (g q : Gxid) (b : Bool) → eqb g.0 q.0 ≡ b → is_at (gxid_cmp g) q ≡ b
at_gxid g q true e = grind (arith, nat_tests)
at_gxid g q false e = grind (arith, nat_tests)

pub at_lxid : (l k : Lxid) (b : Bool) → eqb l.0 k.0 ≡ b → is_at (lxid_cmp l) k ≡ b
at_lxid l k true e = grind (arith, nat_tests)
at_lxid l k false e = grind (arith, nat_tests)

pub other_lxid : (l k : Lxid) → (k.0 ≡ l.0 → ⊥) → eqb l.0 k.0 ≡ false
other_lxid l k other = by (eqb l.0 k.0) refl
  where
    by : (b : Bool) → eqb l.0 k.0 ≡ b → b ≡ false
    by false e = refl
    by true e = absurd (other (grind (arith, nat_tests, e)))

-- WITH ANOTHER STATUS
same_entry : IsEquivalence (eq_by_cmp lxid_cmp)
same_entry = eq_by_cmp_equiv (on_total (λ (l : Lxid). l.0) nat_cmp_total)

module _ (l : Lxid) (s : LocalStatus) (es : List (Lxid × XidEntry)) where
  abbrev found_at : Lxid → Option XidEntry
  found_at k = lookup (is_at (lxid_cmp k)) es

  restated_at : (k : Lxid) (o : Option XidEntry) → found_at l ≡ o → (b : Bool) → eqb l.0 k.0 ≡ b → lookup (is_at (lxid_cmp k)) (with_entry l s o es) ≡ cond (is_at (lxid_cmp l) k) (restated s o) (found_at k)
  restated_at k None is true e = ap found_at (sym (same_lxid l k e)) ∙ is ∙ sym (ap (λ (b : Bool). cond b None (found_at k)) (at_lxid l k true e))
  restated_at k None is false e = sym (ap (λ (b : Bool). cond b None (found_at k)) (at_lxid l k false e))
  restated_at k (Some x) is b e = lookup-set_value same_entry (is_at (lxid_cmp l)) (same_entry.congr l) k (record x { status = s }) es (is_some_of (found_at l) x is)

  -- an entry with another status is found where it stood, and the others are as they were
  pub lookup-with_entry : (k : Lxid) → lookup (is_at (lxid_cmp k)) (with_entry l s (found_at l) es) ≡ cond (is_at (lxid_cmp l) k) (restated s (found_at l)) (found_at k)
  lookup-with_entry k = restated_at k (found_at l) refl (eqb l.0 k.0) refl

  restated_there : lookup (is_at (lxid_cmp l)) (with_entry l s (found_at l) es) ≡ restated s (found_at l)
  restated_there = lookup-with_entry l ∙ ap (λ (b : Bool). cond b (restated s (found_at l)) (found_at l)) (at_lxid l l true (grind (arith, nat_tests)))

  status_set : (given : Bool) (o : Option XidEntry) → given ≡ true → (status_in given o ≡ Committed → s ≡ Committed) → status_in given (restated s o) ≡ s
  status_set true None is stays = sym (stays refl)
  status_set false None is stays = absurd (not_both is refl)
  status_set given (Some e) is stays = refl

  -- the status is the one that was set, and who has no entry stays committed
  pub status_in-set : (given : Bool) → given ≡ true → (status_in given (found_at l) ≡ Committed → s ≡ Committed) → status_in given (lookup (is_at (lxid_cmp l)) (with_entry l s (found_at l) es)) ≡ s
  status_in-set given is stays = ap (status_in given) restated_there ∙ status_set given (found_at l) is stays

  pub status_in-others : (given : Bool) (k : Lxid) → eqb l.0 k.0 ≡ false → status_in given (lookup (is_at (lxid_cmp k)) (with_entry l s (found_at l) es)) ≡ status_in given (found_at k)
  status_in-others given k other = ap (status_in given) (lookup-with_entry k ∙ ap (λ (b : Bool). cond b (restated s (found_at l)) (found_at k)) (at_lxid l k false other))

pub IsRestated-whole : (l : Lxid) (s : LocalStatus) (n n' : BTreeMap Lxid XidEntry) → n'.entries ≡ with_entry l s (get lxid_cmp n l) n.entries → IsRestated l s n n'
IsRestated-whole l s n n' whole k = ap (lookup (is_at (lxid_cmp k))) whole ∙ lookup-with_entry l s n.entries k

module _ (horizon : Gxid) (given : ℕ) (m : BTreeMap Gxid Lxid) (n n' : BTreeMap Lxid XidEntry) (l : Lxid) (s : LocalStatus) (whole : IsWhole horizon m n given) (as_stated : IsRestated l s n n') where
  stated : (k : Lxid) (b : Bool) → eqb l.0 k.0 ≡ b → get lxid_cmp n' k ≡ cond b (restated s (get lxid_cmp n l)) (get lxid_cmp n k)
  stated k b e = as_stated k ∙ ap (λ c. cond c (restated s (get lxid_cmp n l)) (get lxid_cmp n k)) (at_lxid l k b e)

  -- an entry of the same gxid stood there
  stood : (k : Lxid) (x : XidEntry) (b : Bool) → eqb l.0 k.0 ≡ b → get lxid_cmp n' k ≡ Some x → HasEntry n x.gxid k
  stood k x false e at = record { entry = x; there = sym (stated k false e) ∙ at; gxid = refl }
  stood k x true e at = from (get lxid_cmp n l) refl (sym (stated k true e) ∙ at)
    where
      from : (o : Option XidEntry) → get lxid_cmp n l ≡ o → restated s o ≡ Some x → HasEntry n x.gxid k
      from None is was = absurd (none_some was)
      from (Some y) is was = record { entry = y; there = ap (get lxid_cmp n) (sym (same_lxid l k e)) ∙ is; gxid = ap (λ (z : XidEntry). z.gxid) (some_same was) }

  -- and each that stood there still does
  stands : (q : Gxid) (k : Lxid) (b : Bool) → eqb l.0 k.0 ≡ b → HasEntry n q k → HasEntry n' q k
  stands q k false e its = record { entry = its.entry; there = stated k false e ∙ its.there; gxid = its.gxid }
  stands q k true e its =
      record { entry = (record its.entry { status = s }); there = stated k true e ∙ ap (restated s) (ap (get lxid_cmp n) (same_lxid l k e) ∙ its.there); gxid = its.gxid }

  pub IsWhole-restated : IsWhole horizon m n' given
  IsWhole-restated = record {
    there = λ q k at. stands q k (eqb l.0 k.0) refl (whole.there q k at);
    back = λ k x at up.
        let was = stood k x (eqb l.0 k.0) refl at in
        ap (get gxid_cmp m) (sym was.gxid) ∙ whole.back k was.entry was.there (subst (λ (q : Gxid). horizon.0 ≤ q.0) (sym was.gxid) up);
    high = whole.high;
    inside = λ k x at. let was = stood k x (eqb l.0 k.0) refl at in whole.inside k was.entry was.there;
  }

-- WHAT A LOOK-UP TELLS
-- a gxid that is kept
kept_high : (h g : Gxid) → h.0 ≤ g.0 → kept h g ≡ Some g
kept_high h g up = ap (λ (b : Bool). cond b None (Some g)) (not_below h g up)
  where
    not_below : (h g : Gxid) → h.0 ≤ g.0 → ltb g.0 h.0 ≡ false
    not_below h g up = grind (arith, nat_tests)

module _ (horizon : Gxid) (lxids : BTreeMap Gxid Lxid) (entries : BTreeMap Lxid XidEntry) (given : ℕ) (whole : IsWhole horizon lxids entries given) where
  abbrev map : Xids
  map = record { horizon = horizon; lxids = lxids.entries; entries = entries.entries; given = given }

  pub back-lxid_of : (g : Gxid) (l : Lxid) → get gxid_cmp lxids g ≡ Some l → gxid_of map l ≡ Some g
  back-lxid_of g l at =
      let e = whole.there g l at in
      ap (option_and_then (λ (x : XidEntry). kept horizon x.gxid)) e.there ∙ ap (kept horizon) e.gxid ∙ kept_high horizon g (whole.high g l at)

  pub entry-lxid_of : (g : Gxid) (l : Lxid) → get gxid_cmp lxids g ≡ Some l → is_some (get lxid_cmp entries l) ≡ true
  entry-lxid_of g l at = ap is_some (whole.there g l at).there

  pub given-lxid_of : (g : Gxid) (l : Lxid) → get gxid_cmp lxids g ≡ Some l → (nat_lt 0 l.0 && nat_le l.0 given) ≡ true
  given-lxid_of g l at =
      let e = whole.there g l at in
      let inside = whole.inside l e.entry e.there in
      grind (arith, nat_tests, inside.0, inside.1)

-- AN ENTRY MORE
module _ (horizon : Gxid) (given : ℕ) (m m' : BTreeMap Gxid Lxid) (n n' : BTreeMap Lxid XidEntry) (g : Gxid) (l : Lxid) (whole : IsWhole horizon m n given) (fresh : get gxid_cmp m g ≡ None) (high : horizon.0 ≤ g.0) (next : l.0 ≡ given + 1) (there : Updates gxid_cmp m m' g (Some l)) (back : Updates lxid_cmp n n' l (Some (record { gxid = g; status = Running }))) where
  abbrev new : XidEntry
  new = record { gxid = g; status = Running }

  by_gxid : (q : Gxid) (b : Bool) → eqb g.0 q.0 ≡ b → get gxid_cmp m' q ≡ cond b (Some l) (get gxid_cmp m q)
  by_gxid q b e = there.0 q ∙ ap (λ c. cond c (Some l) (get gxid_cmp m q)) (at_gxid g q b e)

  by_lxid : (k : Lxid) (b : Bool) → eqb l.0 k.0 ≡ b → get lxid_cmp n' k ≡ cond b (Some new) (get lxid_cmp n k)
  by_lxid k b e = back.0 k ∙ ap (λ c. cond c (Some new) (get lxid_cmp n k)) (at_lxid l k b e)

  old_lxid : (k : Lxid) (e : XidEntry) → get lxid_cmp n k ≡ Some e → eqb l.0 k.0 ≡ false
  old_lxid k e at = let inside = whole.inside k e at in grind (arith, nat_tests, inside.1, next)

  old_gxid : (q : Gxid) (k : Lxid) (b : Bool) → eqb g.0 q.0 ≡ b → get gxid_cmp m q ≡ Some k → b ≡ false
  old_gxid q k false e at = refl
  old_gxid q k true e at = absurd (none_some (sym fresh ∙ ap (get gxid_cmp m) (same_gxid g q e) ∙ at))

  has_entry : (q : Gxid) (k : Lxid) (b : Bool) → eqb g.0 q.0 ≡ b → get gxid_cmp m' q ≡ Some k → HasEntry n' q k
  has_entry q k true e at =
      let k_is : l ≡ k = some_same (sym (by_gxid q true e) ∙ at) in
      record { entry = new; there = ap (get lxid_cmp n') (sym k_is) ∙ by_lxid l true (grind (arith, nat_tests)); gxid = same_gxid g q e }
  has_entry q k false e at =
      let was = whole.there q k (sym (by_gxid q false e) ∙ at) in
      record { entry = was.entry; there = by_lxid k false (old_lxid k was.entry was.there) ∙ was.there; gxid = was.gxid }

  has_lxid : (k : Lxid) (x : XidEntry) (b : Bool) → eqb l.0 k.0 ≡ b → get lxid_cmp n' k ≡ Some x → horizon.0 ≤ x.gxid.0 → get gxid_cmp m' x.gxid ≡ Some k
  has_lxid k x true e at up =
      let x_is : new ≡ x = some_same (sym (by_lxid k true e) ∙ at) in
      ap (λ (y : XidEntry). get gxid_cmp m' y.gxid) (sym x_is) ∙ by_gxid g true (grind (arith, nat_tests)) ∙ ap Some (same_lxid l k e)
  has_lxid k x false e at up =
      let was : get gxid_cmp m x.gxid ≡ Some k = whole.back k x (sym (by_lxid k false e) ∙ at) up in
      by_gxid x.gxid false (old_gxid x.gxid k (eqb g.0 x.gxid.0) refl was) ∙ was

  is_high : (q : Gxid) (k : Lxid) (b : Bool) → eqb g.0 q.0 ≡ b → get gxid_cmp m' q ≡ Some k → horizon.0 ≤ q.0
  is_high q k true e at = subst (λ (h : Gxid). horizon.0 ≤ h.0) (same_gxid g q e) high
  is_high q k false e at = whole.high q k (sym (by_gxid q false e) ∙ at)

  is_inside : (k : Lxid) (x : XidEntry) (b : Bool) → eqb l.0 k.0 ≡ b → get lxid_cmp n' k ≡ Some x → (0 < k.0) × (k.0 ≤ given + 1)
  is_inside k x true e at = subst (λ (j : Lxid). (0 < j.0) × (j.0 ≤ given + 1)) (same_lxid l k e) (omega (arith, next), omega (arith, next))
  is_inside k x false e at = let was = whole.inside k x (sym (by_lxid k false e) ∙ at) in (was.0, omega (arith, was.1))

  -- an entry more keeps the map whole
  pub IsWhole-assigned : IsWhole horizon m' n' (given + 1)
  IsWhole-assigned = record {
    there = λ q k. has_entry q k (eqb g.0 q.0) refl;
    back = λ k x. has_lxid k x (eqb l.0 k.0) refl;
    high = λ q k. is_high q k (eqb g.0 q.0) refl;
    inside = λ k x. is_inside k x (eqb l.0 k.0) refl;
  }

-- maps with the same entries are as whole
pub IsWhole-same : (horizon : Gxid) (given : ℕ) (m m' : BTreeMap Gxid Lxid) (n n' : BTreeMap Lxid XidEntry) → IsWhole horizon m n given → m'.entries ≡ m.entries → n'.entries ≡ n.entries → IsWhole horizon m' n' given
IsWhole-same horizon given m m' n n' whole e f =
    let lxids : (g : Gxid) → get gxid_cmp m' g ≡ get gxid_cmp m g = λ g. ap (lookup (is_at (gxid_cmp g))) e in
    let entries : (l : Lxid) → get lxid_cmp n' l ≡ get lxid_cmp n l = λ l. ap (lookup (is_at (lxid_cmp l))) f in
    record {
      there = λ g l at. let its = whole.there g l (sym (lxids g) ∙ at) in record { entry = its.entry; there = entries l ∙ its.there; gxid = its.gxid };
      back = λ l x at up. lxids x.gxid ∙ whole.back l x (sym (entries l) ∙ at) up;
      high = λ g l at. whole.high g l (sym (lxids g) ∙ at);
      inside = λ l x at. whole.inside l x (sym (entries l) ∙ at);
    }

-- what is put in where nothing stood and taken out again
module _ (g : Gxid) (l : Lxid) where
  at_itself : is_at (gxid_cmp g) g ≡ true
  at_itself = at_gxid g g true (grind (arith, nat_tests))

  taken_back : (e : Gxid × Lxid) (es : List (Gxid × Lxid)) (o : Ordering) → gxid_cmp g e.0 ≡ o → lookup (is_at (gxid_cmp g)) (e ∷ es) ≡ None → (lookup (is_at (gxid_cmp g)) es ≡ None → remove_entry (is_at (gxid_cmp g)) (insert_entry gxid_cmp es g l) ≡ es) → remove_entry (is_at (gxid_cmp g)) (insert_entry gxid_cmp (e ∷ es) g l) ≡ e ∷ es
  taken_back e es Less is none more =
      ap (λ (o : Ordering). remove_entry (is_at (gxid_cmp g)) (match_ordering o ((g, l) ∷ e ∷ es) ((e.0, l) ∷ es) (e ∷ insert_entry gxid_cmp es g l))) is
      ∙ ap (λ (b : Bool). cond b (e ∷ es) ((g, l) ∷ remove_entry (is_at (gxid_cmp g)) (e ∷ es))) at_itself
  taken_back e es Equal is none more = absurd (none_some (sym none ∙ ap (λ (o : Ordering). cond (is_eq o) (Some e.1) (lookup (is_at (gxid_cmp g)) es)) is))
  taken_back e es Greater is none more =
      let ins = insert_entry gxid_cmp es g l in
      ap (λ (o : Ordering). remove_entry (is_at (gxid_cmp g)) (match_ordering o ((g, l) ∷ e ∷ es) ((e.0, l) ∷ es) (e ∷ ins))) is
      ∙ ap (λ (o : Ordering). cond (is_eq o) ins (e ∷ remove_entry (is_at (gxid_cmp g)) ins)) is
      ∙ ap (λ (x : List (Gxid × Lxid)). e ∷ x) (more (sym (ap (λ (o : Ordering). cond (is_eq o) (Some e.1) (lookup (is_at (gxid_cmp g)) es)) is) ∙ none))

  pub remove_entry-inserted : (es : List (Gxid × Lxid)) → lookup (is_at (gxid_cmp g)) es ≡ None → remove_entry (is_at (gxid_cmp g)) (insert_entry gxid_cmp es g l) ≡ es
  remove_entry-inserted [] none = ap (λ (b : Bool). cond b [] ((g, l) ∷ [])) at_itself
  remove_entry-inserted (e ∷ es) none = taken_back e es (gxid_cmp g e.0) refl none (remove_entry-inserted es)

-- AN ENTRY LESS
-- what was taken out is the first
pub popped : (m m' : BTreeMap Gxid Lxid) (r : Option (Gxid × Lxid)) (e : Gxid × Lxid) → slice_get m.entries 0 ≡ Some e → (0 < length m.entries → IsSome r) → IfSome r (λ p. m.entries ≡ p ∷ m'.entries) → IfSome r (λ p. Updates gxid_cmp m m' p.0 None) → Updates gxid_cmp m m' e.0 None
popped m m' None e first some was updates = absurd (none_not_some (some (not_empty m.entries e first)))
  where
    not_empty : (es : List (Gxid × Lxid)) (e : Gxid × Lxid) → slice_get es 0 ≡ Some e → 0 < length es
    not_empty [] e at = absurd (none_some at)
    not_empty (d ∷ es) e at = grind arith

    none_not_some : false ≡ true → ⊥
    none_not_some e = cc
popped m m' (Some p) e first some was updates =
    let same : p ≡ e = some_same (sym (ap (λ (es : List (Gxid × Lxid)). slice_get es 0) was) ∙ first) in
    subst (λ (d : Gxid × Lxid). Updates gxid_cmp m m' d.0 None) same updates

differ : (a b : Gxid) → eqb a.0 b.0 ≡ false → a ≡ b → ⊥
differ a b other same = let n = ap (λ (h : Gxid). h.0) same in absurd (grind (arith, nat_tests, other, n))

module _ (m m' : BTreeMap Gxid Lxid) (n n' : BTreeMap Lxid XidEntry) (g : Gxid) (l : Lxid) (there : (q : Gxid) (k : Lxid) → get gxid_cmp m q ≡ Some k → HasEntry n q k) (first : get gxid_cmp m g ≡ Some l) (less : Updates gxid_cmp m m' g None) (forgotten : IsForgotten l n n') where
  less_gxid : (q : Gxid) (b : Bool) → eqb g.0 q.0 ≡ b → get gxid_cmp m' q ≡ cond b None (get gxid_cmp m q)
  less_gxid q b e = less.0 q ∙ ap (λ c. cond c None (get gxid_cmp m q)) (at_gxid g q b e)

  less_lxid : (k : Lxid) (b : Bool) → eqb l.0 k.0 ≡ b → get lxid_cmp n' k ≡ cond (b && is_done (get lxid_cmp n l)) None (get lxid_cmp n k)
  less_lxid k b e = forgotten k ∙ ap (λ c. cond (c && is_done (get lxid_cmp n l)) None (get lxid_cmp n k)) (at_lxid l k b e)

  was_gxid : (q : Gxid) (k : Lxid) (b : Bool) → eqb g.0 q.0 ≡ b → get gxid_cmp m' q ≡ Some k → (b ≡ false) × (get gxid_cmp m q ≡ Some k)
  was_gxid q k true e at = absurd (none_some (sym (less_gxid q true e) ∙ at))
  was_gxid q k false e at = (refl, sym (less_gxid q false e) ∙ at)

  was_entry : (k : Lxid) (x : XidEntry) (b : Bool) → cond b None (get lxid_cmp n k) ≡ Some x → get lxid_cmp n k ≡ Some x
  was_entry k x true at = absurd (none_some at)
  was_entry k x false at = at

  pub old_entry : (k : Lxid) (x : XidEntry) → get lxid_cmp n' k ≡ Some x → get lxid_cmp n k ≡ Some x
  old_entry k x at = was_entry k x (is_at (lxid_cmp l) k && is_done (get lxid_cmp n l)) (sym (forgotten k) ∙ at)

  -- who isn't the one that went is still there
  stays_other : (k : Lxid) (x : XidEntry) (b : Bool) → eqb l.0 k.0 ≡ b → eqb g.0 x.gxid.0 ≡ false → get lxid_cmp n k ≡ Some x → get lxid_cmp n' k ≡ Some x
  stays_other k x false e other at = less_lxid k false e ∙ at
  stays_other k x true e other at =
      let its = there g l first in
      let same : its.entry ≡ x = some_same (sym its.there ∙ ap (get lxid_cmp n) (same_lxid l k e) ∙ at) in
      absurd (differ g x.gxid other (sym its.gxid ∙ ap (λ (y : XidEntry). y.gxid) same))

  -- and so is who hasn't committed
  stays_open : (k : Lxid) (x : XidEntry) (b : Bool) → eqb l.0 k.0 ≡ b → is_committed x.status ≡ false → get lxid_cmp n k ≡ Some x → get lxid_cmp n' k ≡ Some x
  stays_open k x false e undone at = less_lxid k false e ∙ at
  stays_open k x true e undone at =
      less_lxid k true e
      ∙ ap (λ (o : Option XidEntry). cond (is_done o) None (get lxid_cmp n k)) (ap (get lxid_cmp n) (same_lxid l k e) ∙ at)
      ∙ ap (λ (b : Bool). cond b None (get lxid_cmp n k)) undone
      ∙ at

  -- and so is an entry of no lxid
  stays_unlisted : (k : Lxid) (x : XidEntry) (b : Bool) → eqb l.0 k.0 ≡ b → (get gxid_cmp m x.gxid ≡ Some k → ⊥) → get lxid_cmp n k ≡ Some x → get lxid_cmp n' k ≡ Some x
  stays_unlisted k x false e none at = less_lxid k false e ∙ at
  stays_unlisted k x true e none at =
      let its = there g l first in
      let same : its.entry ≡ x = some_same (sym its.there ∙ ap (get lxid_cmp n) (same_lxid l k e) ∙ at) in
      absurd (none (ap (λ (y : XidEntry). get gxid_cmp m y.gxid) (sym same) ∙ ap (get gxid_cmp m) its.gxid ∙ first ∙ ap Some (same_lxid l k e)))

  -- the one that went is gone, if it has committed, and who was gone before still is
  is_gone : (k : Lxid) → get lxid_cmp n k ≡ None → get lxid_cmp n' k ≡ None
  is_gone k gone = forgotten k ∙ by (is_at (lxid_cmp l) k && is_done (get lxid_cmp n l))
    where
      by : (b : Bool) → cond b None (get lxid_cmp n k) ≡ None
      by true = refl
      by false = gone

  goes_now : is_done (get lxid_cmp n l) ≡ true → get lxid_cmp n' l ≡ None
  goes_now done = less_lxid l true (grind (arith, nat_tests)) ∙ ap (λ (b : Bool). cond b None (get lxid_cmp n l)) done

  pub there-less : (q : Gxid) (k : Lxid) → get gxid_cmp m' q ≡ Some k → HasEntry n' q k
  there-less q k at =
      let was = was_gxid q k (eqb g.0 q.0) refl at in
      let its = there q k was.1 in
      record {
        entry = its.entry;
        there = stays_other k its.entry (eqb l.0 k.0) refl (ap (λ (h : Gxid). eqb g.0 h.0) its.gxid ∙ was.0) its.there;
        gxid = its.gxid;
      }

  apart : (q h : Gxid) → g.0 < h.0 → h.0 ≤ q.0 → eqb g.0 q.0 ≡ false
  apart q h low high = grind (arith, nat_tests)

  module _ (m0 : BTreeMap Gxid Lxid) (n0 : BTreeMap Lxid XidEntry) (h : Gxid) (left : AreLeft m0 n0 h m n) where
    -- its entry is the first one's, or was gone
    was_done : (o : Option XidEntry) → get lxid_cmp n l ≡ o → is_done (get lxid_cmp n0 l) ≡ true → get lxid_cmp n' l ≡ None
    was_done None is done = is_gone l is
    was_done (Some x) is done = goes_now (ap is_done (is ∙ sym (left.old l x is)) ∙ done)

    gone_still : (q : Gxid) (k : Lxid) (b : Bool) → eqb g.0 q.0 ≡ b → get gxid_cmp m0 q ≡ Some k → get gxid_cmp m' q ≡ None → is_done (get lxid_cmp n0 k) ≡ true → get lxid_cmp n' k ≡ None
    gone_still q k false e at out done = is_gone k (left.gone q k at (sym (less_gxid q false e) ∙ out) done)
    gone_still q k true e at out done =
        let k_is : l ≡ k = some_same (sym (left.old_lxids g l first) ∙ ap (get gxid_cmp m0) (same_gxid g q e) ∙ at) in
        subst (λ (j : Lxid). get lxid_cmp n' j ≡ None) k_is (was_done (get lxid_cmp n l) refl (subst (λ (j : Lxid). is_done (get lxid_cmp n0 j) ≡ true) (sym k_is) done))

    unlisted_still : (k : Lxid) (x : XidEntry) → (get gxid_cmp m0 x.gxid ≡ Some k → ⊥) → get lxid_cmp n0 k ≡ Some x → get lxid_cmp n' k ≡ Some x
    unlisted_still k x none at = stays_unlisted k x (eqb l.0 k.0) refl (λ still. none (left.old_lxids x.gxid k still)) (left.unlisted k x none at)

  pub AreLeft-less : (m0 : BTreeMap Gxid Lxid) (n0 : BTreeMap Lxid XidEntry) (h : Gxid) → g.0 < h.0 → AreLeft m0 n0 h m n → AreLeft m0 n0 h m' n'
  AreLeft-less m0 n0 h low left = record {
    same = λ q high. less_gxid q false (apart q h low high) ∙ left.same q high;
    old_lxids = λ q k at. left.old_lxids q k (was_gxid q k (eqb g.0 q.0) refl at).1;
    old = λ k x at. left.old k x (old_entry k x at);
    high = λ k x up at. stays_other k x (eqb l.0 k.0) refl (apart x.gxid h low up) (left.high k x up at);
    open_there = λ k x undone at. stays_open k x (eqb l.0 k.0) refl undone (left.open_there k x undone at);
    unlisted = unlisted_still m0 n0 h left;
    gone = λ q k. gone_still m0 n0 h left q k (eqb g.0 q.0) refl;
  }

pub AreLeft-all : (m : BTreeMap Gxid Lxid) (n : BTreeMap Lxid XidEntry) (h : Gxid) → AreLeft m n h m n
AreLeft-all m n h = record {
  same = λ q high. refl;
  old_lxids = λ q k at. at;
  old = λ k x at. at;
  high = λ k x up at. at;
  open_there = λ k x undone at. at;
  unlisted = λ k x none at. at;
  gone = λ q k at out done. absurd (none_some (sym out ∙ at));
}

-- no gxid is below the least
not_above : (g q : Gxid) → is_gt (gxid_cmp g q) ≡ false → g.0 ≤ q.0
not_above g q e = grind (arith, nat_tests)

pub high_from-least : (m : BTreeMap Gxid Lxid) (h g q : Gxid) (k : Lxid) → IsLowerBound gxid_cmp m g → h.0 ≤ g.0 → get gxid_cmp m q ≡ Some k → h.0 ≤ q.0
high_from-least m h g q k least high at =
    let above : g.0 ≤ q.0 = not_above g q (least q (is_some_of (get gxid_cmp m q) k at)) in
    omega (arith, above, high)

pub high_from-empty : (m : BTreeMap Gxid Lxid) (h q : Gxid) (k : Lxid) → IsEmpty m → get gxid_cmp m q ≡ Some k → h.0 ≤ q.0
high_from-empty m h q k empty at = absurd (none_some (sym (ap (lookup (is_at (gxid_cmp q))) empty) ∙ at))

-- AFTER A TRUNCATION
module _ (horizon h : Gxid) (m m' : BTreeMap Gxid Lxid) (n n' : BTreeMap Lxid XidEntry) (given : ℕ) (whole : IsWhole horizon m n given) (left : AreLeft m n h m' n') (high : (g : Gxid) (l : Lxid) → get gxid_cmp m' g ≡ Some l → h.0 ≤ g.0) where
  module _ (lower : horizon.0 ≤ h.0) where
    has_it : (g : Gxid) (l : Lxid) → get gxid_cmp m' g ≡ Some l → HasEntry n' g l
    has_it g l at =
        let its = whole.there g l (left.old_lxids g l at) in
        record { entry = its.entry; there = left.high l its.entry (subst (λ (q : Gxid). h.0 ≤ q.0) (sym its.gxid) (high g l at)) its.there; gxid = its.gxid }

    pub IsWhole-truncated : IsWhole h m' n' given
    IsWhole-truncated = record {
      there = has_it;
      back = λ l e at up. left.same e.gxid up ∙ whole.back l e (left.old l e at) (omega (arith, lower, up));
      high = high;
      inside = λ l e at. whole.inside l e (left.old l e at);
    }

  -- the gxid of an entry is known where it is from both horizons on
  kept_twice : (a g : Gxid) → a.0 ≤ h.0 → kept h g ≡ option_and_then (kept h) (kept a g)
  kept_twice a g low = by (ltb g.0 a.0) refl
    where
      below : (a g : Gxid) → a.0 ≤ h.0 → ltb g.0 a.0 ≡ true → ltb g.0 h.0 ≡ true
      below a g low e = grind (arith, nat_tests)

      by : (b : Bool) → ltb g.0 a.0 ≡ b → kept h g ≡ option_and_then (kept h) (cond b None (Some g))
      by true e = ap (λ (b : Bool). cond b None (Some g)) (below a g low e)
      by false e = refl

  gone_low : (l : Lxid) (e : XidEntry) (b : Bool) → ltb e.gxid.0 h.0 ≡ b → get lxid_cmp n l ≡ Some e → get lxid_cmp n' l ≡ None → b ≡ true
  gone_low l e true is at gone = refl
  gone_low l e false is at gone = absurd (none_some (sym gone ∙ left.high l e (grind (arith, nat_tests, is)) at))

  gone_done : (l : Lxid) (e : XidEntry) (s : LocalStatus) → e.status ≡ s → get lxid_cmp n l ≡ Some e → get lxid_cmp n' l ≡ None → e.status ≡ Committed
  gone_done l e Committed is at gone = is
  gone_done l e Running is at gone = absurd (none_some (sym gone ∙ left.open_there l e (ap is_committed is) at))
  gone_done l e Prepared is at gone = absurd (none_some (sym gone ∙ left.open_there l e (ap is_committed is) at))
  gone_done l e Aborted is at gone = absurd (none_some (sym gone ∙ left.open_there l e (ap is_committed is) at))

  module _ (lower : horizon.0 ≤ h.0) where
    abbrev before : Xids
    before = record { horizon = horizon; lxids = m.entries; entries = n.entries; given = given }

    -- an entry that is gone was passed
    passed : (l : Lxid) (e : XidEntry) (b : Bool) → nat_le horizon.0 e.gxid.0 ≡ b → get lxid_cmp n l ≡ Some e → get lxid_cmp n' l ≡ None → b ≡ true
    passed l e true is at gone = refl
    passed l e false is at gone =
        absurd (none_some (sym gone ∙ left.unlisted l e (λ listed. let up = whole.high e.gxid l listed in absurd (grind (arith, nat_tests, is, up))) at))

    -- one that is there wasn't
    no_lxid : (g : Gxid) (o : Option Lxid) → get gxid_cmp m' g ≡ o → ltb g.0 h.0 ≡ true → o ≡ None
    no_lxid g None is low = refl
    no_lxid g (Some k) is low = let up : h.0 ≤ g.0 = high g k is in absurd (grind (arith, nat_tests, low, up))

    stayed : (l : Lxid) (e : XidEntry) (a b c : Bool) → nat_le horizon.0 e.gxid.0 ≡ a → ltb e.gxid.0 h.0 ≡ b → is_committed e.status ≡ c → get lxid_cmp n l ≡ Some e → get lxid_cmp n' l ≡ Some e → (a && (b && c)) ≡ false
    stayed l e false b c from low done at there = refl
    stayed l e true false c from low done at there = refl
    stayed l e true true false from low done at there = refl
    stayed l e true true true from low done at there =
        let up : horizon.0 ≤ e.gxid.0 = grind (arith, nat_tests, from) in
        absurd (none_some (sym (left.gone e.gxid l (whole.back l e at up) (no_lxid e.gxid (get gxid_cmp m' e.gxid) refl low) (ap is_done at ∙ done)) ∙ there))

    entries_left : (l : Lxid) (o o' : Option XidEntry) → get lxid_cmp n l ≡ o → get lxid_cmp n' l ≡ o' → o' ≡ unless_it_goes before h o
    entries_left l None None is is' = refl
    entries_left l None (Some e) is is' = absurd (none_some (sym is ∙ left.old l e is'))
    entries_left l (Some e) None is is' =
        let low : ltb e.gxid.0 h.0 ≡ true = gone_low l e (ltb e.gxid.0 h.0) refl is is' in
        let done : is_committed e.status ≡ true = ap is_committed (gone_done l e e.status refl is is') in
        sym (
        ap (λ (b : Bool). cond (b && (ltb e.gxid.0 h.0 && is_committed e.status)) None (Some e)) (passed l e (nat_le horizon.0 e.gxid.0) refl is is')
        ∙ ap (λ (b : Bool). cond (b && is_committed e.status) None (Some e)) low
        ∙ ap (λ (b : Bool). cond b None (Some e)) done
        )
    entries_left l (Some e) (Some d) is is' =
        let same : d ≡ e = some_same (sym (left.old l d is') ∙ is) in
        ap Some same
        ∙ sym (ap (λ (b : Bool). cond b None (Some e)) (stayed l e (nat_le horizon.0 e.gxid.0) (ltb e.gxid.0 h.0) (is_committed e.status) refl refl refl is (is' ∙ ap Some same)))

    gxids_left : (l : Lxid) (o o' : Option XidEntry) → get lxid_cmp n l ≡ o → get lxid_cmp n' l ≡ o' → option_and_then (λ (e : XidEntry). kept h e.gxid) o' ≡ option_and_then (kept h) (option_and_then (λ (e : XidEntry). kept horizon e.gxid) o)
    gxids_left l None None is is' = refl
    gxids_left l None (Some e) is is' = absurd (none_some (sym is ∙ left.old l e is'))
    gxids_left l (Some e) None is is' =
        sym (ap (λ (b : Bool). cond b None (Some e.gxid)) (gone_low l e (ltb e.gxid.0 h.0) refl is is')) ∙ kept_twice horizon e.gxid lower
    gxids_left l (Some e) (Some d) is is' =
        ap (λ (x : XidEntry). kept h x.gxid) (some_same (sym (left.old l d is') ∙ is)) ∙ kept_twice horizon e.gxid lower

    statuses_left : (l : Lxid) (o o' : Option XidEntry) → get lxid_cmp n l ≡ o → get lxid_cmp n' l ≡ o' → status_in (nat_lt 0 l.0 && nat_le l.0 given) o' ≡ status_in (nat_lt 0 l.0 && nat_le l.0 given) o
    statuses_left l None None is is' = refl
    statuses_left l None (Some e) is is' = absurd (none_some (sym is ∙ left.old l e is'))
    statuses_left l (Some e) None is is' =
        let inside = whole.inside l e is in
        let given_out : (nat_lt 0 l.0 && nat_le l.0 given) ≡ true = grind (arith, nat_tests, inside.0, inside.1) in
        ap (λ (b : Bool). status_in b None) given_out ∙ sym (gone_done l e e.status refl is is')
    statuses_left l (Some e) (Some d) is is' = ap (λ (x : XidEntry). x.status) (some_same (sym (left.old l d is') ∙ is))

  lxids_left : (g : Gxid) (b : Bool) (o : Option Lxid) → ltb g.0 h.0 ≡ b → get gxid_cmp m' g ≡ o → o ≡ cond b None (get gxid_cmp m g)
  lxids_left g true None low e = refl
  lxids_left g true (Some l) low e = let up : h.0 ≤ g.0 = high g l e in absurd (grind (arith, nat_tests, low, up))
  lxids_left g false o low e = sym e ∙ left.same g (grind (arith, nat_tests, low))

  pub IsTruncated-left : ltb horizon.0 h.0 ≡ true → IsTruncated (record { horizon = horizon; lxids = m.entries; entries = n.entries; given = given }) h (record { horizon = h; lxids = m'.entries; entries = n'.entries; given = given })
  IsTruncated-left higher =
      let lower : horizon.0 ≤ h.0 = grind (arith, nat_tests, higher) in
      record {
        horizon = sym (ap (λ b. cond b h horizon) higher);
        entries = λ l. entries_left lower l (get lxid_cmp n l) (get lxid_cmp n' l) refl refl;
        gxids = λ l. gxids_left lower l (get lxid_cmp n l) (get lxid_cmp n' l) refl refl;
        lxids = λ g. lxids_left g (ltb g.0 h.0) (get gxid_cmp m' g) refl refl;
        statuses = λ l. statuses_left lower l (get lxid_cmp n l) (get lxid_cmp n' l) refl refl;
        given = refl;
      }

-- below the horizon nothing is to be forgotten
pub IsTruncated-same : (horizon h : Gxid) (m : BTreeMap Gxid Lxid) (n : BTreeMap Lxid XidEntry) (given : ℕ) → IsWhole horizon m n given → ltb horizon.0 h.0 ≡ false → IsTruncated (record { horizon = horizon; lxids = m.entries; entries = n.entries; given = given }) h (record { horizon = horizon; lxids = m.entries; entries = n.entries; given = given })
IsTruncated-same horizon h m n given whole lower =
    let up : h.0 ≤ horizon.0 = grind (arith, nat_tests, lower) in
    let high : (g : Gxid) (l : Lxid) → get gxid_cmp m g ≡ Some l → h.0 ≤ g.0 = λ g l at. (let from = whole.high g l at in omega (arith, up, from)) in
    record {
      horizon = sym (ap (λ b. cond b h horizon) lower);
      entries = λ l. none_goes (get lxid_cmp n l) up;
      gxids = λ l. kept_more (get lxid_cmp n l) up;
      lxids = λ g. lxids_left horizon h m m n n given whole (AreLeft-all m n h) high g (ltb g.0 h.0) (get gxid_cmp m g) refl refl;
      statuses = λ l. refl;
      given = refl;
    }
  where
    above : (g : Gxid) → h.0 ≤ horizon.0 → ltb g.0 horizon.0 ≡ false → ltb g.0 h.0 ≡ false
    above g up e = grind (arith, nat_tests)

    stays : (e : XidEntry) (a b : Bool) → h.0 ≤ horizon.0 → nat_le horizon.0 e.gxid.0 ≡ a → ltb e.gxid.0 h.0 ≡ b → (a && (b && is_committed e.status)) ≡ false
    stays e false b up from low = refl
    stays e true false up from low = refl
    stays e true true up from low = absurd (grind (arith, nat_tests, up, from, low))

    none_goes : (o : Option XidEntry) → h.0 ≤ horizon.0 → o ≡ unless_it_goes (record { horizon = horizon; lxids = m.entries; entries = n.entries; given = given }) h o
    none_goes None up = refl
    none_goes (Some e) up = sym (ap (λ (b : Bool). cond b None (Some e)) (stays e (nat_le horizon.0 e.gxid.0) (ltb e.gxid.0 h.0) up refl refl))

    kept_still : (g : Gxid) (b : Bool) → ltb g.0 horizon.0 ≡ b → h.0 ≤ horizon.0 → cond b None (Some g) ≡ option_and_then (kept h) (cond b None (Some g))
    kept_still g true e up = refl
    kept_still g false e up = sym (ap (λ (b : Bool). cond b None (Some g)) (above g up e))

    kept_more : (o : Option XidEntry) → h.0 ≤ horizon.0 → option_and_then (λ (e : XidEntry). kept horizon e.gxid) o ≡ option_and_then (kept h) (option_and_then (λ (e : XidEntry). kept horizon e.gxid) o)
    kept_more None up = refl
    kept_more (Some e) up = kept_still e.gxid (ltb e.gxid.0 horizon.0) refl up
