-- A transaction whose commands run was started by the session that the coordinator has for it.
use Rattle.std.proofs.Common.{◌≡◌, inl, inr, ℕ, ◌+◌, List, [], ◌∷◌, ◌++◌, Option, Some, None, Bool, true, false, refl, sym, subst, ap, ◌∙◌, if◌then◌else◌, ◌==◌}
use Rattle.gx_ids.specs.declared.ids.Gxid.{Gxid}
use Rattle.gx_ids.specs.declared.ids.SessionId.{SessionId}
use Rattle.gx_script.specs.declared.Script.{Script}
use Rattle.gx_script.specs.declared.state.Block.{Block}
use Rattle.gx_script.specs.declared.state.Block.TheVariants as block
use Rattle.gx_script.specs.declared.state.Pending.{Pending}
use Rattle.gx_script.specs.declared.state.Pending.TheVariants as pending
use Rattle.gx_store.specs.declared.mark.Mark.{Mark}
use Rattle.gx_store.specs.declared.mark.Mark.TheVariants as mark
use Rattle.gx_store.specs.declared.run.Step.{Step}
use Rattle.gx_store.specs.Marks.{answer_count, session_of}
use Rattle.gx_store.specs.Points.{ends_in, marks_in}
use Rattle.gx_rules.specs.Coordinators.{Coord, Session, Work, work_of}
use Rattle.gx_rules.specs.Coordinators as held
use Rattle.gx_law_order.specs.Sessions.{Kept, is_live_in}
use Rattle.gx_law_order.specs.Stages.{stage_of}
use Rattle.gx_law_order.specs.Standings.{gx}
use Rattle.gx_law_order.specs.Stages.Stage.{Live}
use Rattle.gx_law_order.specs.Scanned.{began_from}
use Rattle.gx_law_order.specs.Standing.{IsSession, IsStanding, is_busy}

abbrev session_in : Option (SessionId × ℕ) → Option SessionId
session_in None = None
session_in (Some began) = Some began.0

-- where it began tells its session
session-began : (before ms : List Mark) (g : Gxid) (k : SessionId) (first : ℕ) → began_from before ms g ≡ Some (k, first) → session_of ms g ≡ Some k
session-began before [] g k first e = absurd (cc)
session-began before (mark.Start h s ∷ ms) g k first e = by_test (h.0 == g.0) e (session-began (before ++ mark.Start h s ∷ []) ms g k first)
  where
    by_test : (b : Bool) → (if b then Some (s, answer_count s before + 1) else began_from (before ++ mark.Start h s ∷ []) ms g) ≡ Some (k, first)
        → (began_from (before ++ mark.Start h s ∷ []) ms g ≡ Some (k, first) → session_of ms g ≡ Some k) → (if b then Some s else session_of ms g) ≡ Some k
    by_test true e later = ap session_in e
    by_test false e later = later e
session-began before (m ∷ ms) g k first e = session-began (before ++ m ∷ []) ms g k first e

-- where a session's transaction runs, its marks have it
live-busy : (b : Block) (p : Pending) → is_live_in b p ≡ true → is_busy b p ≡ true
live-busy (block.Open level) p e = refl
live-busy block.Outside pending.Command e = refl
live-busy block.Outside pending.Nothing e = e
live-busy block.Outside pending.Commit e = e
live-busy block.Failed p e = e

not-over : (b : Block) (p : Pending) → b ≡ block.Outside → p ≡ pending.Nothing → is_live_in b p ≡ true → ⊥
not-over b p e f h = differ (subst (λ q. is_live_in block.Outside q ≡ true) f (subst (λ q. is_live_in q p ≡ true) e h))
  where
    differ : is_live_in block.Outside pending.Nothing ≡ true → ⊥
    differ q = cc

pub session-is : (script : Script) (c : Coord) (steps : List Step) → Kept script c → ((k : SessionId) → IsSession script k steps c) → (g : Gxid) → stage_of c g.0 ≡ Live → session_of (marks_in steps) g ≡ Some (work_of c g).session
session-is script c steps kept all g live = by_stand y.state.block y.state.pending its.1 (all s).stands
  where
    s : SessionId
    s = (work_of c g).session

    y : Session
    y = held.session_of c s

    its : (y.transaction.0 ≡ g.0) × (is_live_in y.state.block y.state.pending ≡ true)
    its = (kept.tied g.0).live live

    by_stand : (b : Block) (p : Pending) → is_live_in b p ≡ true → IsStanding script s (marks_in steps) c.table.next.0 b p y.lines y.transaction (work_of c y.transaction) (ends_in s steps) → session_of (marks_in steps) g ≡ Some s
    by_stand b p h (inl x) =
        let roots = (x.1.owns (live-busy b p h)).2 in
        session-began [] (marks_in steps) g s roots.first (ap (λ n. began_from [] (marks_in steps) (gx n)) (sym its.0) ∙ roots.began)
    by_stand b p h (inr x) = absurd (not-over b p x.1.outside x.1.idle h)
