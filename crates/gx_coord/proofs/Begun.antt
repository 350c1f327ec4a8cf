-- Sessions begin and end blocks.
use Rattle.std.proofs.Common.{◌≡◌, ◌∙◌, [], sym, ap}
use Rattle.gx_ids.specs.declared.ids.Gxid.{Gxid}
use Rattle.gx_ids.specs.declared.ids.SessionId.{SessionId}
use Rattle.gx_tree.specs.declared.stmt.Level.{Level}
use Rattle.gx_dtx.specs.Rules.{begun, on_abort}
use Rattle.gx_dtx.specs.Table.{Table}
use Rattle.gx_script.specs.Session.{idle_outside}
use Rattle.gx_script.specs.declared.state.Block.TheVariants.{Open}
use Rattle.gx_script.specs.declared.state.SessionState.{SessionState}
use Rattle.gx_rules.specs.AtCoordinator.{begins, ends_in, rolls_back}
use Rattle.gx_rules.specs.Coordinators.{Coord, Session, Work, new_work, with_session, with_state, with_work}

pub begins-from : (c m n : Coord) (t : Table) (g : Gxid) (id : SessionId) (level : Level) (w : Work) (x : Session) → t ≡ begun c.table → g ≡ c.table.next → w ≡ new_work id level → m ≡ with_work (record c { table = t }) g w → x ≡ record (m.sessions id.0) { transaction = g } → n ≡ with_session m id x → n ≡ begins c id level
begins-from c m n t g id level w x et eg ew em ex en =
    en ∙ ap (with_session m id) ex
    ∙ ap (λ (k : Coord). with_session k id (record (k.sessions id.0) { transaction = g })) em
    ∙ ap (λ (d : Table). with_session (with_work (record c { table = d }) g w) id (record (c.sessions id.0) { transaction = g })) et
    ∙ ap (λ (v : Work). with_session (with_work (record c { table = begun c.table }) g v) id (record (c.sessions id.0) { transaction = g })) ew
    ∙ ap (λ (h : Gxid). with_session (with_work (record c { table = begun c.table }) h (new_work id level)) id (record (c.sessions id.0) { transaction = h })) eg

pub ends-from : (c m : Coord) (id : SessionId) (x : Session) (y : SessionState) (level : Level) → m ≡ with_state c id y → y ≡ idle_outside → x ≡ c.sessions id.0 → x.state.block ≡ Open level → rolls_back m x.transaction [] (on_abort m.table x.transaction) ≡ ends_in c id (c.sessions id.0).state.block
ends-from c m id x y level em ey ex eb =
    ap (λ (k : Coord). rolls_back k x.transaction [] (on_abort k.table x.transaction)) (em ∙ ap (with_state c id) ey)
    ∙ ap (λ (z : Session). rolls_back (with_state c id idle_outside) z.transaction [] (on_abort c.table z.transaction)) ex
    ∙ sym (ap (ends_in c id) (ap (λ (z : Session). z.state.block) (sym ex) ∙ eb))
