-- What an order has moved, from what was done with the transaction's entry.
use Rattle.std.proofs.Common.{◌≡◌, ◌≢◌, Bool, true, false, if◌then◌else◌, Option, Some, List, Result, Ok, Err, IfOk, OnOk, refl, ap, ◌∙◌, subst, sym, eqb, map}
use Rattle.std.specs.BTreeMap.{BTreeMap, Updates, get}
use Rattle.std.specs.BTreeSet.{BTreeSet, contains}
use Rattle.std.specs.Prelude.{◌&&◌, option_map}
use Rattle.gx_ids.specs.declared.ids.Gxid.{Gxid}
use Rattle.gx_ids.specs.declared.ids.Node.{Node}
use Rattle.gx_ids.specs.declared.ids.Table.{Table}
use Rattle.gx_ids.specs.declared.rid.Rid.{Rid}
use Rattle.gx_dtx.specs.declared.order.Order.{Order}
use Rattle.gx_dsnap.specs.Gxids.{gxid_cmp}
use Rattle.gx_slices.specs.Store.{Store, Write, status_of, with_status, writes_of}
use Rattle.gx_msg.specs.declared.item.Kept.{Kept}
use Rattle.gx_node.specs.Changes.{Change, Does, change_of}
use Rattle.gx_node.specs.Phases.{local_of, phase_of}
use Rattle.gx_node.specs.declared.local.Phase.{Phase}
use Rattle.gx_node.specs.Outcomes.{Outcome}
use Rattle.gx_rules.specs.Segments as rule
use Rattle.gx_rules.specs.Segments.{has_ended}
use Rattle.gx_slices.specs.Agrees.{local_in, rows_in}
use Rattle.gx_slices.specs.declared.held.Entry.{Entry}
use Rattle.gx_slices.specs.declared.held.Held.{Held}
use Rattle.gx_rows.specs.declared.status.LocalStatus.{LocalStatus}
use Rattle.gx_segment.specs.Moves.{HasMoved, HasTaken, status_in}
use Rattle.gx_segment.proofs.Gxids.{apart, is_at-apart, same_gxid}

module _ (m o : BTreeMap Gxid Entry) (g : Gxid) (e : Entry) (now : Updates gxid_cmp m o g (Some e)) where
  elsewhere : (h : Gxid) → h.0 ≢ g.0 → get gxid_cmp o h ≡ get gxid_cmp m h
  elsewhere h other = now.2 h (is_at-apart g h other)

  rows-stay : e.kept ≡ rows_in (get gxid_cmp m g) → (h : Gxid) (b : Bool) → eqb h.0 g.0 ≡ b → rows_in (get gxid_cmp o h) ≡ rows_in (get gxid_cmp m h)
  rows-stay kept h true is = subst (λ (x : Gxid). rows_in (get gxid_cmp o x) ≡ rows_in (get gxid_cmp m x)) (same_gxid g h is) (ap rows_in now.1 ∙ kept)
  rows-stay kept h false is = ap rows_in (elsewhere h (apart g h is))

module _ (node : Node) (g : Gxid) (order : Order) (taken : Outcome) where
  abbrev made : List Kept → rule.Local → Change
  made rows l = change_of order node g rows taken.fails l

  abbrev made_in : Option Entry → Change
  made_in was = made (rows_in was) (local_in was)

  pub HasTaken-made : (m o : BTreeMap Gxid Entry) (e e' : Entry) → Updates gxid_cmp m o g (Some e') → local_of e.local ≡ local_in (get gxid_cmp m g) → e.kept ≡ rows_in (get gxid_cmp m g) → e'.kept ≡ e.kept
      → Does (made e.kept (local_of e.local)) (local_of e'.local) taken → HasTaken m o g (made_in (get gxid_cmp m g)) taken (phase_of e'.local.phase)
  HasTaken-made m o e e' now local kept kept' does =
      let same : made e.kept (local_of e.local) ≡ made_in (get gxid_cmp m g) = ap (λ (ks : List Kept). made ks (local_of e.local)) kept ∙ ap (made (rows_in (get gxid_cmp m g))) local in
      let left : local_of e'.local ≡ (made_in (get gxid_cmp m g)).now = does.now ∙ ap (λ (c : Change). c.now) same in
      record {
        local = ap local_in now.1 ∙ left;
        others = elsewhere m o g e' now;
        rows = λ h. rows-stay m o g e' now (kept' ∙ kept) h (eqb h.0 g.0) refl;
        phase_is = ap (λ (l : rule.Local). l.phase) left;
        mark = does.mark ∙ ap (λ (c : Change). c.mark) same;
        reply = does.reply ∙ ap (λ (c : Change). c.reply) same;
        ends = does.ends ∙ ap (λ (c : Change). c.ends) same;
      }

-- the same of what was taken at the entry that stands there
pub HasTaken-there : {E : Type 0} (node : Node) (g : Gxid) (order : Order) (m o : BTreeMap Gxid Entry) (e e' : Entry) (phase : Phase) (r : Result Outcome E) → Updates gxid_cmp m o g (Some e') → Some e ≡ get gxid_cmp m g → e'.kept ≡ e.kept → OnOk r (phase ≡ e'.local.phase)
    → IfOk r (λ t. Does (change_of order node g e.kept t.fails (local_of e.local)) (local_of e'.local) t) → IfOk r (λ t. HasTaken m o g (change_of order node g (rows_in (get gxid_cmp m g)) t.fails (local_in (get gxid_cmp m g))) t (phase_of phase))
HasTaken-there node g order m o e e' phase (Ok t) now was kept is does =
    subst (λ (p : Phase). HasTaken m o g (made_in node g order t (get gxid_cmp m g)) t (phase_of p)) (sym is) (HasTaken-made node g order t m o e e' now (ap local_in was) (ap rows_in was) kept does)
HasTaken-there node g order m o e e' phase (Err x) now was kept is does = tt

pub HasMoved-taken : (old : Held) (o : BTreeMap Gxid Entry) (store : Store) (holders : BTreeSet Gxid) (g : Gxid) (change : Change) (taken : Outcome) (phase : rule.Phase) (status : LocalStatus) → HasTaken old.entries o g change taken phase
    → status ≡ status_in phase → status_of store g ≡ option_map (λ _. status) (status_of old.store g) → ((h : Gxid) → h.0 ≢ g.0 → status_of store h ≡ status_of old.store h) → ((t : Table) (r : Rid) → writes_of store t r ≡ map (with_status g status) (writes_of old.store t r)) → store.horizon ≡ old.store.horizon
    → ((h : Gxid) → contains gxid_cmp holders h ≡ (if has_ended phase && eqb h.0 g.0 then false else contains gxid_cmp old.holders h))
    → HasMoved old (record { store = store; entries = o; holders = holders; locks = old.locks }) g change taken
HasMoved-taken old o store holders g change taken phase status t status_is set others writes horizon left = record {
  horizon = horizon;
  writes = λ u r. writes u r ∙ ap (λ (s : LocalStatus). map (with_status g s) (writes_of old.store u r)) (status_is ∙ ap status_in t.phase_is);
  locks = refl;
  status = set ∙ ap (λ (s : LocalStatus). option_map (λ _. s) (status_of old.store g)) (status_is ∙ ap status_in t.phase_is);
  statuses = others;
  local = t.local;
  entries = t.others;
  rows = t.rows;
  holders = λ h. left h ∙ ap (λ (p : rule.Phase). if has_ended p && eqb h.0 g.0 then false else contains gxid_cmp old.holders h) t.phase_is;
  mark = t.mark;
  reply = t.reply;
  ends = t.ends;
}
