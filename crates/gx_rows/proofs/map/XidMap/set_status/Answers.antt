use Rattle.std.proofs.Common.{◌≡◌, List, ap, ◌∙◌, subst, true, ◌&&◌}
use Rattle.std.specs.Prelude.{nat_le, nat_lt}
use Rattle.std.specs.Map.{lookup}
use Rattle.std.specs.BTreeMap.{is_at}
use Rattle.gx_ids.specs.declared.ids.Lxid.{Lxid}
use Rattle.gx_rows.specs.declared.entry.XidEntry.{XidEntry}
use Rattle.gx_rows.specs.declared.status.LocalStatus.TheVariants.{Committed}
use Rattle.gx_rows.specs.Xids.{Xids, is_given, lxid_cmp, status_in, status_of}
use Rattle.gx_rows.proofs.XidEntries.{IsRestated-whole, IsWhole-restated, other_lxid, status_in-others, status_in-set}
use Rattle.gx_rows.proofs.map.XidMap.set_status.Goals as goal

pub invariant_of-self : goal.invariant_of-self
invariant_of-self c =
    IsWhole-restated c.self.inside.horizon c.self.inside.given c.self.inside.lxids c.self.inside.entries c.restate.new.entries c.args.lxid c.args.status c.self.invariant
    (IsRestated-whole c.args.lxid c.args.status c.self.inside.entries c.restate.new.entries c.restate.ensures)

pub returns-clause-set : goal.returns-clause-set
returns-clause-set c =
    let map = c.self.inside in
    let l = c.args.lxid in
    subst
    (λ (x : Xids). is_given x l ≡ true → (status_of x l ≡ Committed → c.args.status ≡ Committed)
    → status_of (record { horizon = map.horizon; lxids = map.lxids.entries; entries = c.restate.new.entries.entries; given = map.given }) l ≡ c.args.status)
    c.self.view_is
    (λ given stays. ap (λ (es : List (Lxid × XidEntry)). status_in (nat_lt 0 l.0 && nat_le l.0 map.given) (lookup (is_at (lxid_cmp l)) es)) c.restate.ensures
    ∙ status_in-set l c.args.status map.entries.entries (nat_lt 0 l.0 && nat_le l.0 map.given) given stays)

pub returns-clause-others : goal.returns-clause-others
returns-clause-others c k other =
    let map = c.self.inside in
    subst
    (λ (x : Xids). status_of (record { horizon = map.horizon; lxids = map.lxids.entries; entries = c.restate.new.entries.entries; given = map.given }) k ≡ status_of x k)
    c.self.view_is
    (ap (λ (es : List (Lxid × XidEntry)). status_in (nat_lt 0 k.0 && nat_le k.0 map.given) (lookup (is_at (lxid_cmp k)) es)) c.restate.ensures
    ∙ status_in-others c.args.lxid c.args.status map.entries.entries (nat_lt 0 k.0 && nat_le k.0 map.given) k (other_lxid c.args.lxid k other))
