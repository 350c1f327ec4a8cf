-- Versions that are changed where they stand.
use Rattle.std.proofs.Common.{◌≡◌, ◌≢◌, Bool, true, false, cond, arith, List, [], ◌∷◌, refl, sym, ap, ◌∙◌}
use Rattle.std.proofs.lemmas.Bool.Decides.{nat_tests}
use Rattle.std.proofs.lemmas.Cmp.{alike_right}
use Rattle.std.specs.Borrow.{MutBor}
use Rattle.std.specs.Option.{option_copied_mut}
use Rattle.std.specs.Prelude.{Option, None, Some, IfNone, IfSome, OnSome, unwrap_or}
use Rattle.std.specs.Map.{lookup, set_value}
use Rattle.std.specs.BTreeMap.{is_at}
use Rattle.std.specs.Ordering.{is_eq}
use Rattle.std.specs.declared.cmp.Ordering.{Ordering}
use Rattle.std.specs.declared.cmp.Ordering.TheVariants.{Less, Equal, Greater}
use Rattle.gx_ids.specs.declared.rid.Rid.{Rid}
use Rattle.gx_rows.specs.declared.version.Version.{Version}
use Rattle.gx_rows.specs.Rids.{rid_cmp}
use Rattle.gx_rows.specs.Rows.{versions_of}
use Rattle.gx_rows.proofs.Entries.{rid_cmp-total}

-- WHERE ONE IS FOUND
module _ {K X : Type 0} (test : K → Bool) (was w : X) where
  written_step : (e : K × X) (es : List (K × X)) (b : Bool) → test e.0 ≡ b → cond b (Some e.1) (lookup test es) ≡ Some was → (lookup test es ≡ Some was → lookup test (set_value test es w) ≡ Some w)
      → lookup test (cond b ((e.0, w) ∷ es) (e ∷ set_value test es w)) ≡ Some w
  written_step e es true is found more = ap (λ (b : Bool). cond b (Some w) (lookup test es)) is
  written_step e es false is found more = ap (λ (b : Bool). cond b (Some e.1) (lookup test (set_value test es w))) is ∙ more found

  lookup-written : (es : List (K × X)) → lookup test es ≡ Some was → lookup test (set_value test es w) ≡ Some w
  lookup-written [] found = absurd (cc)
  lookup-written (e ∷ es) found = written_step e es (test e.0) refl found (lookup-written es)

module _ (r : Rid) (rows : List (Rid × List Version)) (was : List Version) (found : lookup (is_at (rid_cmp r)) rows ≡ Some was) where
  pub versions-found : versions_of rows r ≡ was
  versions-found = ap (λ (l : Option (List Version)). unwrap_or l []) found

  pub versions-written : (list : List Version) → versions_of (set_value (is_at (rid_cmp r)) rows list) r ≡ list
  versions-written list = ap (λ (l : Option (List Version)). unwrap_or l []) (lookup-written (is_at (rid_cmp r)) was list rows found)

-- WHAT IS LENT
pub lent-found : (r : Rid) (rows : List (Rid × List Version)) (lent : Option (MutBor (List Version))) → option_copied_mut lent ≡ lookup (is_at (rid_cmp r)) rows → IfSome lent (λ list. lookup (is_at (rid_cmp r)) rows ≡ Some list.now)
lent-found r rows (Some list) is = sym is
lent-found r rows None is = tt

pub lent-missing : (r : Rid) (rows : List (Rid × List Version)) (lent : Option (MutBor (List Version))) → option_copied_mut lent ≡ lookup (is_at (rid_cmp r)) rows → IfNone lent (versions_of rows r ≡ [])
lent-missing r rows (Some list) is = tt
lent-missing r rows None is = ap (λ (l : Option (List Version)). unwrap_or l []) (sym is)

pub on-some : {A P : Type 0} (o : Option A) → P → OnSome o P
on-some (Some x) p = p
on-some None p = tt

-- THE OTHERS
rids_apart : (q r : Rid) → q ≢ r → is_eq (rid_cmp q r) ≡ false
rids_apart q r other = grind (arith, nat_tests)

module _ (r q : Rid) (list : List Version) (apart : is_eq (rid_cmp q r) ≡ false) where
  elsewhere : (e : Rid × List Version) (es : List (Rid × List Version)) (t : Ordering) → rid_cmp r e.0 ≡ t → lookup (is_at (rid_cmp q)) (set_value (is_at (rid_cmp r)) es list) ≡ lookup (is_at (rid_cmp q)) es
      → lookup (is_at (rid_cmp q)) (cond (is_eq t) ((e.0, list) ∷ es) (e ∷ set_value (is_at (rid_cmp r)) es list)) ≡ lookup (is_at (rid_cmp q)) (e ∷ es)
  elsewhere e es Less is more = ap (cond (is_eq (rid_cmp q e.0)) (Some e.1)) more
  elsewhere e es Equal is more =
      let far : is_eq (rid_cmp q e.0) ≡ false = ap is_eq (sym (alike_right rid_cmp-total r e.0 q is)) ∙ apart in
      ap (λ (b : Bool). cond b (Some list) (lookup (is_at (rid_cmp q)) es)) far ∙ sym (ap (λ (b : Bool). cond b (Some e.1) (lookup (is_at (rid_cmp q)) es)) far)
  elsewhere e es Greater is more = ap (cond (is_eq (rid_cmp q e.0)) (Some e.1)) more

  lookup-elsewhere : (rows : List (Rid × List Version)) → lookup (is_at (rid_cmp q)) (set_value (is_at (rid_cmp r)) rows list) ≡ lookup (is_at (rid_cmp q)) rows
  lookup-elsewhere [] = refl
  lookup-elsewhere (e ∷ es) = elsewhere e es (rid_cmp r e.0) refl (lookup-elsewhere es)

pub versions-elsewhere : (r q : Rid) → q ≢ r → (list : List Version) (rows : List (Rid × List Version)) → versions_of (set_value (is_at (rid_cmp r)) rows list) q ≡ versions_of rows q
versions-elsewhere r q other list rows = ap (λ (found : Option (List Version)). unwrap_or found []) (lookup-elsewhere r q list (rids_apart q r other) rows)
