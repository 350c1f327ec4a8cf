-- A value written at a key of ordered entries.
use Rattle.std.proofs.Common.{◌≡◌, ◌≢◌, false, arith, List, [], ◌∷◌, ◌++◌, refl, sym, ap, ◌∙◌, cond}
use Rattle.std.proofs.lemmas.Cmp.{nat_cmp_total, on_total, then_total, tied_itself, alike_right}
use Rattle.std.proofs.lemmas.Bool.Decides.{nat_tests}
use Rattle.std.proofs.lemmas.Map.Keys.{sorted_head, sorted_tail}
use Rattle.std.proofs.lemmas.Map.Steps.{set_value_same}
use Rattle.std.specs.Cmp.{IsTotalOrder}
use Rattle.std.specs.Prelude.{None, Some, Result, Ok, Err, OnOk, OnErr, unwrap_or}
use Rattle.std.specs.List.{AllByRecursion}
use Rattle.std.specs.List.Sorted.{IsStrictlySortedBy}
use Rattle.std.specs.Map.{keys_of, lookup, set_value}
use Rattle.std.specs.BTreeMap.{is_at, insert_entry}
use Rattle.std.specs.Ordering.{is_eq, match_ordering}
use Rattle.std.specs.declared.cmp.Ordering.{Ordering}
use Rattle.std.specs.declared.cmp.Ordering.TheVariants.{Less, Equal, Greater}
use Rattle.gx_ids.specs.declared.rid.Rid.{Rid}
use Rattle.gx_ids.specs.declared.memory.OutOfMemory.{OutOfMemory}
use Rattle.gx_rows.specs.declared.version.Version.{Version}
use Rattle.gx_rows.specs.Rids.{rid_cmp}
use Rattle.gx_rows.specs.Rows.{added, versions_of}

pub rid_cmp-total : IsTotalOrder rid_cmp
rid_cmp-total =
    then_total (on_total (λ (r : Rid). r.gxid.0) nat_cmp_total) (then_total (on_total (λ (r : Rid). r.cid.0) nat_cmp_total) (on_total (λ (r : Rid). r.ordinal) nat_cmp_total))

module _ {K : Type 0} {R : K → K → Ordering} (o : IsTotalOrder R) where
  below_all : (k l : K) (ks : List K) → R k l ≡ Less → AllByRecursion (λ y. R l y ≡ Less) ks → AllByRecursion (λ y. R k y ≡ Less) ks
  below_all k l [] under above = tt
  below_all k l (y ∷ ks) under above = (o.trans k l y under above.0, below_all k l ks under above.1)

absent : {K X : Type 0} (R : K → K → Ordering) (k : K) (es : List (K × X)) → AllByRecursion (λ y. R k y ≡ Less) (keys_of es) → lookup (is_at (R k)) es ≡ None
absent R k [] above = refl
absent R k (e ∷ es) above = ap (λ t. cond (is_eq t) (Some e.1) (lookup (is_at (R k)) es)) above.0 ∙ absent R k es above.1

module _ {K X : Type 0} {R : K → K → Ordering} (o : IsTotalOrder R) (k : K) (w x : X) where
  step : (e : K × X) (es : List (K × X)) (t : Ordering) → R k e.0 ≡ t → IsStrictlySortedBy R (keys_of (e ∷ es)) → cond (is_eq t) (Some e.1) (lookup (is_at (R k)) es) ≡ Some x → (lookup (is_at (R k)) es ≡ Some x → set_value (is_at (R k)) es w ≡ insert_entry R es k w) → cond (is_eq t) ((e.0, w) ∷ es) (e ∷ set_value (is_at (R k)) es w) ≡ match_ordering t ((k, w) ∷ e ∷ es) ((e.0, w) ∷ es) (e ∷ insert_entry R es k w)
  step e es Less under sorted there more =
      let gone = absent R k es (below_all o k e.0 (keys_of es) under (sorted_head R e.0 (keys_of es) sorted)) in absurd (cc)
  step e es Equal same sorted there more = refl
  step e es Greater over sorted there more = ap (λ (r : List (K × X)). e ∷ r) (more there)

  -- writing at a key that is there is inserting it
  pub set_value-insert_entry : (es : List (K × X)) → IsStrictlySortedBy R (keys_of es) → lookup (is_at (R k)) es ≡ Some x → set_value (is_at (R k)) es w ≡ insert_entry R es k w
  set_value-insert_entry [] sorted found = absurd (cc)
  set_value-insert_entry (e ∷ es) sorted found = step e es (R k e.0) refl sorted found (set_value-insert_entry es (sorted_tail R e.0 (keys_of es) sorted))

module _ {K X : Type 0} {R : K → K → Ordering} (o : IsTotalOrder R) (k : K) (w : X) where
  same_step : (e : K × X) (es : List (K × X)) (t : Ordering) → R k e.0 ≡ t → lookup (is_at (R k)) (insert_entry R es k w) ≡ Some w → lookup (is_at (R k)) (match_ordering t ((k, w) ∷ e ∷ es) ((e.0, w) ∷ es) (e ∷ insert_entry R es k w)) ≡ Some w
  same_step e es Less is more = ap (λ t. cond (is_eq t) (Some w) (lookup (is_at (R k)) (e ∷ es))) (tied_itself o k)
  same_step e es Equal is more = ap (λ t. cond (is_eq t) (Some w) (lookup (is_at (R k)) es)) is
  same_step e es Greater is more = ap (λ t. cond (is_eq t) (Some e.1) (lookup (is_at (R k)) (insert_entry R es k w))) is ∙ more

  -- what was inserted is found
  pub lookup-insert_entry_same : (es : List (K × X)) → lookup (is_at (R k)) (insert_entry R es k w) ≡ Some w
  lookup-insert_entry_same [] = ap (λ t. cond (is_eq t) (Some w) None) (tied_itself o k)
  lookup-insert_entry_same (e ∷ es) = same_step e es (R k e.0) refl (lookup-insert_entry_same es)

  other_step : (q : K) (e : K × X) (es : List (K × X)) (t : Ordering) → R k e.0 ≡ t → is_eq (R q k) ≡ false → lookup (is_at (R q)) (insert_entry R es k w) ≡ lookup (is_at (R q)) es → lookup (is_at (R q)) (match_ordering t ((k, w) ∷ e ∷ es) ((e.0, w) ∷ es) (e ∷ insert_entry R es k w)) ≡ lookup (is_at (R q)) (e ∷ es)
  other_step q e es Less is apart more = ap (λ b. cond b (Some w) (lookup (is_at (R q)) (e ∷ es))) apart
  other_step q e es Equal is apart more =
      let far : is_eq (R q e.0) ≡ false = ap is_eq (sym (alike_right o k e.0 q is)) ∙ apart in
      ap (λ b. cond b (Some w) (lookup (is_at (R q)) es)) far ∙ sym (ap (λ b. cond b (Some e.1) (lookup (is_at (R q)) es)) far)
  other_step q e es Greater is apart more = ap (cond (is_eq (R q e.0)) (Some e.1)) more

  -- and elsewhere what was there
  pub lookup-insert_entry_other : (q : K) (es : List (K × X)) → is_eq (R q k) ≡ false → lookup (is_at (R q)) (insert_entry R es k w) ≡ lookup (is_at (R q)) es
  lookup-insert_entry_other q [] apart = ap (λ b. cond b (Some w) None) apart
  lookup-insert_entry_other q (e ∷ es) apart = other_step q e es (R k e.0) refl apart (lookup-insert_entry_other q es apart)

rids_apart : (q r : Rid) → q ≢ r → is_eq (rid_cmp q r) ≡ false
rids_apart q r other = grind (arith, nat_tests)

module _ (rows rows' : List (Rid × List Version)) (r : Rid) (v : Version) where
  pub versions_of-added : (o : Result (Unit {0}) OutOfMemory) → OnOk o (rows' ≡ added rows r v) → OnOk o (versions_of rows' r ≡ versions_of rows r ++ v ∷ [])
  versions_of-added (Ok u) is =
      ap (λ rows. versions_of rows r) is ∙ ap (λ found. unwrap_or found []) (lookup-insert_entry_same rid_cmp-total r (versions_of rows r ++ v ∷ []) rows)
  versions_of-added (Err e) is = tt

  pub versions_of-added_other : (o : Result (Unit {0}) OutOfMemory) → OnOk o (rows' ≡ added rows r v) → OnOk o ((q : Rid) → q ≢ r → versions_of rows' q ≡ versions_of rows q)
  versions_of-added_other (Ok u) is = λ q other.
      ap (λ rows. versions_of rows q) is ∙ ap (λ found. unwrap_or found []) (lookup-insert_entry_other rid_cmp-total r (versions_of rows r ++ v ∷ []) q rows (rids_apart q r other))
  versions_of-added_other (Err e) is = tt

-- where a push to a row's versions failed, the rows are the same
pub same_from_entry : (rows rows' : List (Rid × List Version)) (r : Rid) (list list' : List Version) (o : Result (Unit {0}) OutOfMemory) → IsStrictlySortedBy rid_cmp (keys_of rows) → lookup (is_at (rid_cmp r)) rows ≡ Some list → OnErr o (list' ≡ list)
    → rows' ≡ insert_entry rid_cmp rows r list' → OnErr o (rows' ≡ rows)
same_from_entry rows rows' r list list' (Ok u) sorted found same written = tt
same_from_entry rows rows' r list list' (Err e) sorted found same written =
    written
    ∙ ap (insert_entry rid_cmp rows r) same
    ∙ sym (set_value-insert_entry rid_cmp-total r list list rows sorted found)
    ∙ set_value_same (is_at (rid_cmp r)) rows list found
