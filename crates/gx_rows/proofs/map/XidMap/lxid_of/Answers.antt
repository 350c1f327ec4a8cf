use Rattle.std.proofs.Common.{◌≡◌, ◌∙◌, true}
use Rattle.std.specs.Prelude.{IfSome, Some, is_some}
use Rattle.std.specs.BTreeMap.{get}
use Rattle.gx_ids.specs.declared.ids.Lxid.{Lxid}
use Rattle.gx_rows.specs.Xids.{Xids, entry_of, gxid_cmp, gxid_of, is_given}
use Rattle.gx_rows.proofs.XidEntries.{IfSome-each, back-lxid_of, entry-lxid_of, given-lxid_of}
use Rattle.gx_rows.proofs.map.XidMap.lxid_of.Goals as goal

abbrev xids : goal.After-copied → Xids
xids c = record { horizon = c.self.inside.horizon; lxids = c.self.inside.lxids.entries; entries = c.self.inside.entries.entries; given = c.self.inside.given }

module _ (c : goal.After-copied) where
  each : (P : Lxid → Type 0) → ((l : Lxid) → get gxid_cmp c.self.inside.lxids c.args.gxid ≡ Some l → P l) → IfSome c.copied.result P
  each P holds = IfSome-each P c.copied.result (get gxid_cmp c.self.inside.lxids c.args.gxid) (c.copied.ensures ∙ c.get.ensures.value) holds

pub returns-clause-back : goal.returns-clause-back
returns-clause-back c =
    rw (← c.self.view_is) (each c (λ (l : Lxid). gxid_of (xids c) l ≡ Some c.args.gxid) (λ l at. back-lxid_of c.self.inside.horizon c.self.inside.lxids c.self.inside.entries c.self.inside.given c.self.invariant c.args.gxid l at))

pub returns-clause-entry : goal.returns-clause-entry
returns-clause-entry c =
    rw (← c.self.view_is) (each c (λ (l : Lxid). is_some (entry_of (xids c) l) ≡ true) (λ l at. entry-lxid_of c.self.inside.horizon c.self.inside.lxids c.self.inside.entries c.self.inside.given c.self.invariant c.args.gxid l at))

pub returns-clause-given : goal.returns-clause-given
returns-clause-given c =
    rw (← c.self.view_is) (each c (λ (l : Lxid). is_given (xids c) l ≡ true) (λ l at. given-lxid_of c.self.inside.horizon c.self.inside.lxids c.self.inside.entries c.self.inside.given c.self.invariant c.args.gxid l at))
