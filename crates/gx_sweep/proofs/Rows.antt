-- A row whose versions are swept where they stand.
use Rattle.std.proofs.Common.{◌≡◌, ◌≢◌, List, [], None, Option, Some, ap, sym, ◌∙◌}
use Rattle.std.specs.Borrow.{MutBor}
use Rattle.std.specs.BTreeMap.{is_at}
use Rattle.std.specs.Map.{lookup, set_value}
use Rattle.std.specs.Prelude.{OnSome}
use Rattle.gx_ids.specs.declared.ids.Gxid.{Gxid}
use Rattle.gx_ids.specs.declared.rid.Rid.{Rid}
use Rattle.gx_rows.proofs.Replaced.{versions-elsewhere, versions-found, versions-written}
use Rattle.gx_rows.specs.Rids.{rid_cmp}
use Rattle.gx_rows.specs.Rows.{versions_of}
use Rattle.gx_rows.specs.Xids.{Xids}
use Rattle.gx_rows.specs.declared.version.Version.{Version}
use Rattle.gx_sweep.specs.Swept.{swept}

on_some : {A P : Type 0} (o : Option A) (x : A) → o ≡ Some x → OnSome o P → P
on_some (Some y) x is p = p
on_some None x is p = absurd (cc)

-- where they are lent
module _ (rows now : List (Rid × List Version)) (r : Rid) (lent : Option (MutBor (List Version))) (was : MutBor (List Version)) (list : List Version) (is : lent ≡ Some was) (found : lookup (is_at (rid_cmp r)) rows ≡ Some was.now) (ended : OnSome lent (now ≡ set_value (is_at (rid_cmp r)) rows list)) where
  written : now ≡ set_value (is_at (rid_cmp r)) rows list
  written = on_some lent was is ended

  pub versions-swept : (x : Xids) (horizon : Gxid) → list ≡ swept x horizon was.now → versions_of now r ≡ swept x horizon (versions_of rows r)
  versions-swept x horizon same =
      ap (λ (rs : List (Rid × List Version)). versions_of rs r) written
      ∙ versions-written r rows was.now found list
      ∙ same
      ∙ ap (swept x horizon) (sym (versions-found r rows was.now found))

  pub versions-left : (q : Rid) → q ≢ r → versions_of now q ≡ versions_of rows q
  versions-left q other = ap (λ (rs : List (Rid × List Version)). versions_of rs q) written ∙ versions-elsewhere r q other list rows

-- where the rid is unknown
module _ (rows now : List (Rid × List Version)) (r : Rid) (missing : versions_of rows r ≡ []) (same : now ≡ rows) where
  pub versions-unknown : (x : Xids) (horizon : Gxid) → versions_of now r ≡ swept x horizon (versions_of rows r)
  versions-unknown x horizon = ap (λ (rs : List (Rid × List Version)). versions_of rs r) same ∙ missing ∙ ap (swept x horizon) (sym missing)
