-- Whoever waits for another transaction's end waits in mode Share, at every point.
use Rattle.std.proofs.Common.{◌==◌, Bool, true, false, not, List, [], ◌∷◌, ◌++◌, ⊎_elim, sym, subst, if◌then◌else◌, append_assoc, append-nil}
use Rattle.gx_ids.specs.declared.ids.Node.{Node}
use Rattle.gx_waits.proofs.Members.{Has}
use Rattle.gx_waits.specs.Claim.{same_claim}
use Rattle.gx_waits.specs.declared.claim.Claim.{Claim}
use Rattle.gx_store.specs.declared.mark.Mark.{Mark}
use Rattle.gx_store.specs.declared.mark.Mark.TheVariants as mark
use Rattle.gx_store.specs.Waits.{waits_at, waits_from}
use Rattle.gx_waits.specs.Claims.{claim, with_claim, without_claim}
use Rattle.gx_law_locks.proofs.Marks.{waits_from-append}
use Rattle.gx_law_locks.specs.Waiting.{EachBehind, IsForEnd, WaitsForEnd}
use Rattle.gx_law_locks.proofs.Lets.{behind-weaker}
use Rattle.gx_law_locks.proofs.SameClaims.{from-added, from-filter}
use Rattle.gx_law_locks.proofs.Fair.{IsFair}

abbrev pub AreShared : List Mark → Type 0
AreShared marks = (node : Node) (c : Claim) → Has c (waits_at marks node) → IsForEnd c.object c.mode

pub shared-on : (before : List Mark) (m : Mark) → AreShared before → WaitsForEnd before m → AreShared (before ++ m ∷ [])
shared-on before m old e node c h = by_mark m e (subst (Has c) (waits_from-append node [] before (m ∷ [])) h)
  where
    waits : List Claim
    waits = waits_at before node

    by_mark : (m : Mark) → WaitsForEnd before m → Has c (waits_from node waits (m ∷ [])) → IsForEnd c.object c.mode
    by_mark (mark.Wait n g object mode) e h = by_node (n.0 == node.0) h
      where
        by_node : (b : Bool) → Has c (if b then with_claim (claim g object mode) waits else waits) → IsForEnd c.object c.mode
        by_node true h = ⊎_elim (λ (k : Has c waits). old node c k) (λ s. subst (λ (x : Claim). IsForEnd x.object x.mode) s e) (from-added (claim g object mode) c waits h)
        by_node false h = old node c h
    by_mark (mark.Hold n g object mode) e h = by_node (n.0 == node.0) h
      where
        by_node : (b : Bool) → Has c (if b then without_claim (claim g object mode) waits else waits) → IsForEnd c.object c.mode
        by_node true h = old node c (from-filter (λ x. not (same_claim (claim g object mode) x)) c waits h)
        by_node false h = old node c h
    by_mark (mark.Release n g object mode) e h = by_node (n.0 == node.0) h
      where
        by_node : (b : Bool) → Has c (if b then without_claim (claim g object mode) waits else waits) → IsForEnd c.object c.mode
        by_node true h = old node c (from-filter (λ x. not (same_claim (claim g object mode) x)) c waits h)
        by_node false h = old node c h
    by_mark m e h = old node c h

shared-behind : (before ms : List Mark) → AreShared before → EachBehind WaitsForEnd before ms → AreShared (before ++ ms)
shared-behind before [] old e = subst AreShared (sym (append-nil before)) old
shared-behind before (m ∷ ms) old e = subst AreShared (append_assoc before (m ∷ []) ms) (shared-behind (before ++ m ∷ []) ms (shared-on before m old e.0) e.1)

pub shared-first : (marks : List Mark) → EachBehind IsFair [] marks → AreShared marks
shared-first marks fair = shared-behind [] marks (λ node c h. absurd h) (behind-weaker IsFair WaitsForEnd (λ before m f. f.ends) [] marks fair)
