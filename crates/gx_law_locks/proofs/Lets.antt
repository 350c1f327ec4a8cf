-- Of all marks: who gives back waits nowhere there, or has aborted; who waits is granted just what it waits for; who commits waits for
-- no statement; others' ends are waited for in one mode.
use Rattle.std.specs.Prelude.{filter}
use Rattle.std.proofs.Common.{◌≡◌, ◌⊎◌, inl, inr, List, [], ◌∷◌, ◌++◌, true, false, sym, subst, append_assoc, append-nil}
use Rattle.gx_ids.specs.declared.ids.Node.{Node}
use Rattle.gx_waits.specs.Claims.{claim, is_of}
use Rattle.gx_script.specs.declared.Script.{Script}
use Rattle.gx_store.specs.declared.mark.Mark.{Mark}
use Rattle.gx_store.specs.declared.mark.Mark.TheVariants as mark
use Rattle.gx_store.specs.Marks.{is_aborted}
use Rattle.gx_store.specs.Ordered.{IsAtNode}
use Rattle.gx_store.specs.Refusals.{the_coordinator}
use Rattle.gx_store.specs.Waits.{waits_at}
use Rattle.gx_law_order.specs.Lists.{Each}
use Rattle.gx_law_locks.specs.Waiting.{EachBehind, GetsWhatItWaitsFor, KeepsWhileWaiting, WaitsForEnd, is_waiting}
use Rattle.gx_law_locks.proofs.Legal.{none-listed}
use Rattle.gx_law_locks.proofs.Marks.{AreLet, Lets, MayGet, MayGive, waits_from-append}

-- EACH MARK, BEHIND THOSE BEFORE IT
pub behind-append : (P : List Mark → Mark → Type 0) (before xs ys : List Mark) → EachBehind P before xs → EachBehind P (before ++ xs) ys → EachBehind P before (xs ++ ys)
behind-append P before [] ys e f = subst (λ b. EachBehind P b ys) (append-nil before) f
behind-append P before (x ∷ xs) ys e f = (e.0, behind-append P (before ++ x ∷ []) xs ys e.1 (subst (λ b. EachBehind P b ys) (sym (append_assoc before (x ∷ []) xs)) f))

pub behind-front : (P : List Mark → Mark → Type 0) (before xs ys : List Mark) → EachBehind P before (xs ++ ys) → EachBehind P before xs
behind-front P before [] ys e = tt
behind-front P before (x ∷ xs) ys e = (e.0, behind-front P (before ++ x ∷ []) xs ys e.1)

pub behind-rest : (P : List Mark → Mark → Type 0) (before xs ys : List Mark) → EachBehind P before (xs ++ ys) → EachBehind P (before ++ xs) ys
behind-rest P before [] ys e = subst (λ b. EachBehind P b ys) (sym (append-nil before)) e
behind-rest P before (x ∷ xs) ys e = subst (λ b. EachBehind P b ys) (append_assoc before (x ∷ []) xs) (behind-rest P (before ++ x ∷ []) xs ys e.1)

pub behind-weaker : (P Q : List Mark → Mark → Type 0) → ((before : List Mark) (m : Mark) → P before m → Q before m) → (before ms : List Mark) → EachBehind P before ms → EachBehind Q before ms
behind-weaker P Q f before [] e = tt
behind-weaker P Q f before (m ∷ ms) e = (f before m e.0, behind-weaker P Q f (before ++ m ∷ []) ms e.1)

-- WHO WAITS
abbrev pub LetsWait : List Mark → Mark → Type 0
LetsWait before (mark.Commit g) = is_waiting before the_coordinator g ≡ false
LetsWait before (mark.Wait node g object mode) = WaitsForEnd before (mark.Wait node g object mode)
LetsWait before (mark.Hold node g object mode) = GetsWhatItWaitsFor before (mark.Hold node g object mode)
LetsWait before m = KeepsWhileWaiting before m

pub lets-keep : (before : List Mark) (m : Mark) → LetsWait before m → KeepsWhileWaiting before m
lets-keep before (mark.Commit g) e = tt
lets-keep before (mark.Wait node g object mode) e = tt
lets-keep before (mark.Hold node g object mode) e = tt
lets-keep before m e = e

pub lets-end : (before : List Mark) (m : Mark) → LetsWait before m → WaitsForEnd before m
lets-end before (mark.Wait node g object mode) e = e
lets-end before m e = tt

pub lets-get : (before : List Mark) (m : Mark) → LetsWait before m → GetsWhatItWaitsFor before m
lets-get before (mark.Hold node g object mode) e = e
lets-get before m e = tt

let-one : (script : Script) (node : Node) (before : List Mark) (m : Mark) → IsAtNode script node m → Lets before (waits_at before node) m → LetsWait before m
let-one script node before (mark.Commit g) a e = subst (λ n. is_waiting before n g ≡ false) a (none-listed g (waits_at before node) e)
let-one script node before (mark.Wait n g object mode) a e = e
let-one script node before (mark.Hold n g object mode) a e = subst (λ k. (is_waiting before k g ≡ false) ⊎ (filter (is_of g) (waits_at before k) ≡ claim g object mode ∷ [])) (sym a) (by_way e)
  where
    by_way : MayGet (waits_at before node) (claim g object mode) → (is_waiting before node g ≡ false) ⊎ (filter (is_of g) (waits_at before node) ≡ claim g object mode ∷ [])
    by_way (inl none) = inl (none-listed g (waits_at before node) none)
    by_way (inr own) = inr own
let-one script node before (mark.Release n g object mode) a e = subst (λ k. (is_waiting before k g ≡ false) ⊎ (is_aborted before g ≡ true)) (sym a) (by_way e)
  where
    by_way : MayGive before (waits_at before node) g → (is_waiting before node g ≡ false) ⊎ (is_aborted before g ≡ true)
    by_way (inl none) = inl (none-listed g (waits_at before node) none)
    by_way (inr over) = inr over
let-one script node before m a e = tt

pub let-waits : (script : Script) (node : Node) (marks ms : List Mark) → Each (IsAtNode script node) ms → AreLet node marks (waits_at marks node) ms → EachBehind LetsWait marks ms
let-waits script node marks [] a e = tt
let-waits script node marks (m ∷ ms) a e = (
  let-one script node marks m a.0 e.0,
  let-waits script node (marks ++ m ∷ []) ms a.1 (subst (λ waits. AreLet node (marks ++ m ∷ []) waits ms) (sym (waits_from-append node [] marks (m ∷ []))) e.1),
)
