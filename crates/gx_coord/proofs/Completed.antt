-- A command that is complete.
use Rattle.std.proofs.Common.{◌≡◌, ◌∙◌, ◌<◌, ◌^◌, ℕ, is_some, List, Option, Some, None, Bool, true, refl, sym, ap, subst, if◌then◌else◌}
use Rattle.std.proofs.lemmas.Bool.{and_parts}
use Rattle.gx_ids.specs.declared.ids.Cid.{Cid}
use Rattle.gx_ids.specs.declared.ids.Gxid.{Gxid}
use Rattle.gx_ids.specs.declared.ids.Node.{Node}
use Rattle.gx_ids.specs.declared.ids.SessionId.{SessionId}
use Rattle.gx_tree.specs.declared.part.Part.{Part}
use Rattle.gx_dtx.specs.Table.{Table}
use Rattle.gx_script.specs.Session.{after_done}
use Rattle.gx_script.specs.declared.state.SessionState.{SessionState}
use Rattle.gx_script.specs.declared.Script.{Script}
use Rattle.gx_rules.specs.AtCoordinator.{goes_on, on_done, takes_done, with_done}
use Rattle.gx_rules.specs.Coordinators.{Command, Coord, Work, rests, with_state, with_work}
use Rattle.gx_coord.specs.Sound.{AreSoundIn, IsSound, IsSoundWork}
use Rattle.gx_dtx.specs.Table.{participants_in}
use Rattle.gx_law_order.specs.Stages.{Stage, stage}
use Rattle.gx_coord.specs.Turns.{AreCounted, IsFit, IsReady, asks, done_work, left_in, takes}
use Rattle.gx_coord.proofs.Answered.{done-sound}
use Rattle.gx_coord.proofs.Facts.{asked-active, asked-busy, asked-live, sound-fit, sound-writers}
use Rattle.gx_coord.proofs.Sound.{with_at-same}

pub answers-from : (c m1 m2 n : Coord) (t : Table) (g : Gxid) (id : SessionId) (x : SessionState) → m1 ≡ record c { table = t } → m2 ≡ with_work m1 g (record (m1.works g.0) { command = None }) → id ≡ (c.works g.0).session → x ≡ after_done (c.sessions id.0).state → n ≡ with_state m2 id x → n ≡ record (with_state (with_work c g (record (c.works g.0) { command = None })) (c.works g.0).session (after_done (c.sessions (c.works g.0).session.0).state)) { table = t }
answers-from c m1 m2 n t g id x e1 e2 ei ex en =
    let d : Coord = with_work (record c { table = t }) g (record (c.works g.0) { command = None }) in
    en ∙ ap (λ (m : Coord). with_state m id x) (e2 ∙ ap (λ (m : Coord). with_work m g (record (m.works g.0) { command = None })) e1)
    ∙ ap (λ y. with_state d id y) ex
    ∙ ap (λ (i : SessionId). with_state d i (after_done (c.sessions i.0).state)) ei

takes-asks : (k : Option Command) (i : Node) (cid : Cid) (part : Part) → takes k i cid part ≡ true → asks k i cid ≡ true
takes-asks None i cid part e = e
takes-asks (Some k) i cid part e = (and_parts _ _ e).0

counted-of : (k : Option Command) (ps : List Node) (now : Stage) → AreSoundIn k ps now → AreCounted k
counted-of None ps now h = tt
counted-of (Some k) ps now h = h.count

pub sound-counted : (w : Work) (lines : ℕ) (t : Option Rattle.gx_dtx.specs.declared.txn.Txn.Txn) → IsSoundWork w lines t → AreCounted w.command
sound-counted w lines t h = counted-of w.command (participants_in t) (stage t) h.command

-- the turn of an answer that is taken
pub done-goes : (c : Coord) (g : Gxid) (i : Node) (cid : Cid) (wrote : Bool) (count : ℕ) (part : Part) (k : Option Command) → (c.works g.0).command ≡ k → takes k i cid part ≡ true → goes_on (with_work c g (done_work (c.works g.0) i wrote count part)) g (left_in (done_work (c.works g.0) i wrote count part).command) ≡ on_done c g i cid wrote count part k
done-goes c g i cid wrote count part None q e = absurd (cc)
done-goes c g i cid wrote count part (Some k) q e =
    ap (λ (o : Option Command). goes_on (with_work c g (record (done_work (c.works g.0) i wrote count part) { command = Rattle.std.specs.Prelude.option_map (λ (x : Command). with_done x i count part) o })) g (left_in (Rattle.std.specs.Prelude.option_map (λ (x : Command). with_done x i count part) o))) q
    ∙ sym (ap (λ b. if b then takes_done c g i wrote count part k else rests c) e)

sound-done : (w : Work) (lines : ℕ) (t : Option Rattle.gx_dtx.specs.declared.txn.Txn.Txn) (k : Option Command) (i : Node) (cid : Cid) (wrote : Bool) (count : ℕ) (part : Part) → IsSoundWork w lines t → w.command ≡ k → takes k i cid part ≡ true → count < 2 ^ 64 → IsSoundWork (done_work w i wrote count part) lines t
sound-done w lines t None i cid wrote count part h q e s = absurd (cc)
sound-done w lines t (Some k) i cid wrote count part h q e s =
    subst (λ (o : Option Command). IsSoundWork (record (done_work w i wrote count part) { command = Rattle.std.specs.Prelude.option_map (λ (x : Command). with_done x i count part) o }) lines t) (sym q)
    (done-sound w lines t k i cid wrote count part h q (and_parts _ _ e).0 (and_parts _ _ e).1 s)

-- its transaction is ready
pub ready-done : (script : Script) (c m : Coord) (g : Gxid) (i : Node) (cid : Cid) (wrote : Bool) (count : ℕ) (part : Part) → IsSound script c → takes (c.works g.0).command i cid part ≡ true → count < 2 ^ 64 → m ≡ with_work c g (done_work (c.works g.0) i wrote count part) → IsReady m g
ready-done script c m g i cid wrote count part h e s q =
    let w : Work = done_work (c.works g.0) i wrote count part in
    let asked = takes-asks (c.works g.0).command i cid part e in
    let d : Coord = with_work c g w in
    let here : d.works g.0 ≡ w = with_at-same c.works g.0 w in
    let sound = sound-done (c.works g.0) _ _ (c.works g.0).command i cid wrote count part (h.works g.0) refl e s in
    subst (λ (x : Coord). IsReady x g) (sym q)
    (record {
      active = asked-active c h.kept g.0 i cid asked;
      writers = subst (λ (v : Work). Rattle.gx_dtx.specs.Rules.AreWriters c.table g v.writers) (sym here) (sound-writers c g.0 _ w sound (asked-live c h.kept g.0 i cid asked));
      busy = subst (λ (v : Work). Rattle.gx_script.specs.Session.IsIdle (c.sessions v.session.0).state → ⊥) (sym here) (asked-busy c h.kept g.0 i cid asked);
      fits = subst (λ (v : Work). IsFit v.command) (sym here) (sound-fit w _ _ sound);
    })

pub takes-some : (k : Option Command) (i : Node) (cid : Cid) (part : Part) → takes k i cid part ≡ true → is_some k ≡ true
takes-some None i cid part e = e
takes-some (Some k) i cid part e = refl

pub goes-done : (c : Coord) (g : Gxid) (i : Node) (cid : Cid) (wrote : Bool) (count : ℕ) (part : Part) → takes (c.works g.0).command i cid part ≡ true → goes_on (with_work c g (done_work (c.works g.0) i wrote count part)) g (left_in ((with_work c g (done_work (c.works g.0) i wrote count part)).works g.0).command) ≡ on_done c g i cid wrote count part (c.works g.0).command
goes-done c g i cid wrote count part e =
    ap (λ (w : Work). goes_on (with_work c g (done_work (c.works g.0) i wrote count part)) g (left_in w.command)) (with_at-same c.works g.0 (done_work (c.works g.0) i wrote count part))
    ∙ done-goes c g i cid wrote count part (c.works g.0).command refl e
