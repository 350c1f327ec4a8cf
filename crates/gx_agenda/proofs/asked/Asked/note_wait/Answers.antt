use Rattle.std.proofs.Common.{[], ◌∷◌, cond, subst, sym}
use Rattle.gx_store.specs.Journals.{is_same_node}
use Rattle.gx_store.specs.Waits.{waits_from}
use Rattle.gx_waits.specs.Claims.{with_claim}
use Rattle.gx_agenda.specs.Awaited.{AreWaits, waits_in}
use Rattle.gx_agenda.proofs.Oks.{on_ok}
use Rattle.gx_agenda.proofs.Waiting.{begun-waits, ended-waits}
use Rattle.gx_agenda.proofs.asked.Asked.note_wait.Goals as goal

pub returns-in-Wait-clause-waits : goal.returns-in-Wait-clause-waits
returns-in-Wait-clause-waits c = on_ok c.begin.result _ _ c.begin.ensures.waits
    (λ set standing were. subst (λ m. AreWaits (λ node. waits_from node (standing node) (m ∷ [])) c.begin.new.self) (sym c.in-Wait.is)
    (subst (λ claim. AreWaits (λ node. cond (is_same_node c.in-Wait.node node) (with_claim claim (standing node)) (standing node)) c.begin.new.self) c.claim_of.ensures
    (begun-waits c.in-Wait.node c.claim_of.result standing (waits_in c.args.self.now.waiting) (waits_in c.begin.new.self.waiting) were set)))

pub returns-in-Hold-clause-waits : goal.returns-in-Hold-clause-waits
returns-in-Hold-clause-waits c = on_ok c.end.result _ _ c.end.ensures.waits
    (λ set standing were. subst (λ m. AreWaits (λ node. waits_from node (standing node) (m ∷ [])) c.end.new.self) (sym c.in-Hold.is)
    (ended-waits c.in-Hold.node (record { gxid = c.in-Hold.gxid; object = c.in-Hold.object; mode = c.in-Hold.mode }) standing (waits_in c.args.self.now.waiting) (waits_in c.end.new.self.waiting) were set))

pub returns-in-Release-clause-waits : goal.returns-in-Release-clause-waits
returns-in-Release-clause-waits c = on_ok c.end-in-Release.result _ _ c.end-in-Release.ensures.waits
    (λ set standing were. subst (λ m. AreWaits (λ node. waits_from node (standing node) (m ∷ [])) c.end-in-Release.new.self) (sym c.in-Release.is)
    (ended-waits c.in-Release.node (record { gxid = c.in-Release.gxid; object = c.in-Release.object; mode = c.in-Release.mode }) standing (waits_in c.args.self.now.waiting) (waits_in c.end-in-Release.new.self.waiting) were set))
