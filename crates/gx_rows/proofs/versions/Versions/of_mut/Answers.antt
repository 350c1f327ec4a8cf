use Rattle.std.proofs.Common.{◌≡◌, ◌∙◌, List, [], Some, IfSome, IfNone, ap, refl, subst}
use Rattle.std.specs.BTreeMap.{is_at}
use Rattle.std.specs.Map.{lookup, set_value}
use Rattle.gx_ids.specs.declared.rid.Rid.{Rid}
use Rattle.gx_rows.specs.Rids.{rid_cmp}
use Rattle.gx_rows.specs.Rows.{versions_of}
use Rattle.gx_rows.specs.declared.version.Version.{Version}
use Rattle.gx_rows.proofs.Replaced.{lent-found, lent-missing, on-some}
use Rattle.gx_rows.proofs.versions.Versions.of_mut.Goals as goal

pub returns : goal.returns
returns c =
    let rid = c.args.rid in
    let lent = c.get_mut.result in
    let rows = c.self.inside.lists.entries in (
      (
        refl,
        λ w. on-some lent ((c.get_mut.follows.holds w).0 ∙ ap (λ (rs : List (Rid × List Version)). set_value (is_at (rid_cmp rid)) rs w) c.self.view_is),
        ap (λ m. m.entries) c.get_mut.follows.holds-at-none ∙ c.self.view_is,
      ),
      record {
        follows = tt;
        found = subst (λ (rs : List (Rid × List Version)). IfSome lent (λ list. lookup (is_at (rid_cmp rid)) rs ≡ Some list.now)) c.self.view_is (lent-found rid rows lent c.get_mut.ensures.value);
        missing = subst (λ (rs : List (Rid × List Version)). IfNone lent (versions_of rs rid ≡ [])) c.self.view_is (lent-missing rid rows lent c.get_mut.ensures.value);
      },
    )
