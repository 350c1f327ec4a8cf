-- What marks of locks make of a node's holds and waits.
use Rattle.std.proofs.Common.{◌≡◌, ◌==◌, ◌||◌, ◌⊎◌, inl, inr, Bool, true, false, List, [], ◌∷◌, ◌++◌, None, Some, refl, sym, subst, ap, ◌∙◌, if◌then◌else◌, append_assoc, append-nil, arith}
use Rattle.std.proofs.lemmas.Bool.Decides.{nat_tests}
use Rattle.std.proofs.lemmas.Bool.{or_left, or_right}
use Rattle.std.specs.Prelude.{filter, find}
use Rattle.gx_ids.specs.declared.ids.Gxid.{Gxid}
use Rattle.gx_ids.specs.declared.ids.Node.{Node}
use Rattle.gx_waits.specs.declared.claim.Claim.{Claim}
use Rattle.gx_waits.specs.Claims.{claim, is_clear, is_of, with_claim, without_claim}
use Rattle.gx_locks.specs.Locks.{Locks, resumed, wait_of}
use Rattle.gx_script.specs.declared.Script.{Script}
use Rattle.gx_store.proofs.Exclusive.{holds_from-append}
use Rattle.gx_store.specs.declared.mark.Mark.{Mark}
use Rattle.gx_store.specs.declared.mark.Mark.TheVariants as mark
use Rattle.gx_store.specs.Journals.{is_same_node}
use Rattle.gx_store.specs.Locks.{IsMomentary}
use Rattle.gx_store.specs.Marks.{is_aborted, is_committed, is_ended}
use Rattle.gx_store.specs.Ordered.{IsAtNode}
use Rattle.gx_store.specs.Waits.{holds_from, waits_from}
use Rattle.gx_rules.specs.Locks.{hold_mark, release_mark, wait_mark, with_hold, with_wait, without_hold}
use Rattle.gx_law_order.proofs.Lists.{each_weaker}
use Rattle.gx_law_order.specs.Lists.{Each}
use Rattle.gx_law_order.proofs.Past.{aborted-append, committed-append}
use Rattle.gx_law_locks.specs.Late.{AreReleasesLate}
use Rattle.gx_law_locks.specs.Waiting.{IsForEnd}
use Rattle.gx_law_locks.proofs.Claims.{gxid-of, not-among, passes, without-none, without-only}

-- who begins to wait meets somebody in its way, and has none of these waits
pub record Begins (holds waits : List Claim) (wanted : Claim) : Type 0 where
  pub met : is_clear holds waits wanted ≡ false
  pub alone : find (is_of wanted.gxid) waits ≡ None

-- each hold among these marks of a node has its way clear where it stands, and each wait begins so
abbrev pub AreRight : Node → List Claim → List Claim → List Mark → Type 0
AreRight node holds waits [] = Unit {0}
AreRight node holds waits (mark.Wait n g object mode ∷ ms) = Begins holds waits (claim g object mode) × AreRight node holds (waits_from node waits (mark.Wait n g object mode ∷ [])) ms
AreRight node holds waits (mark.Hold n g object mode ∷ ms) =
    (is_clear holds waits (claim g object mode) ≡ true) × AreRight node (holds_from node holds (mark.Hold n g object mode ∷ [])) (waits_from node waits (mark.Hold n g object mode ∷ [])) ms
AreRight node holds waits (mark.Release n g object mode ∷ ms) = AreRight node (holds_from node holds (mark.Release n g object mode ∷ [])) (waits_from node waits (mark.Release n g object mode ∷ [])) ms
AreRight node holds waits (m ∷ ms) = AreRight node holds waits ms

-- who gives back has none of these waits, or has aborted; who is granted something has none of them, or waits for just that; who
-- begins to wait for another's end does so in mode Share; who commits has none of them
abbrev pub MayGive : List Mark → List Claim → Gxid → Type 0
MayGive before waits g = (find (is_of g) waits ≡ None) ⊎ (is_aborted before g ≡ true)

abbrev pub MayGet : List Claim → Claim → Type 0
MayGet waits wanted = (find (is_of wanted.gxid) waits ≡ None) ⊎ (filter (is_of wanted.gxid) waits ≡ wanted ∷ [])

abbrev pub Lets : List Mark → List Claim → Mark → Type 0
Lets before waits (mark.Release n g object mode) = MayGive before waits g
Lets before waits (mark.Hold n g object mode) = MayGet waits (claim g object mode)
Lets before waits (mark.Wait n g object mode) = IsForEnd object mode
Lets before waits (mark.Commit g) = find (is_of g) waits ≡ None
Lets before waits _ = Unit {0}

abbrev pub AreLet : Node → List Mark → List Claim → List Mark → Type 0
AreLet node before waits [] = Unit {0}
AreLet node before waits (m ∷ ms) = Lets before waits m × AreLet node (before ++ m ∷ []) (waits_from node waits (m ∷ [])) ms

-- marks of a node lead from these locks to those
pub record Locking (node : Node) (before : List Mark) (from : Locks) (marks : List Mark) (to : Locks) : Type 0 where
  pub holds : holds_from node from.holds marks ≡ to.holds
  pub waits : waits_from node from.waits marks ≡ to.waits
  pub right : AreRight node from.holds from.waits marks
  pub late : AreReleasesLate before marks
  pub lets : AreLet node before from.waits marks

-- MARKS IN TWO PARTS
pub waits_from-append : (node : Node) (waits : List Claim) (xs ys : List Mark) → waits_from node waits (xs ++ ys) ≡ waits_from node (waits_from node waits xs) ys
waits_from-append node waits [] ys = refl
waits_from-append node waits (mark.Wait n g object mode ∷ xs) ys = waits_from-append node (if n.0 == node.0 then with_claim (claim g object mode) waits else waits) xs ys
waits_from-append node waits (mark.Hold n g object mode ∷ xs) ys = waits_from-append node (if n.0 == node.0 then without_claim (claim g object mode) waits else waits) xs ys
waits_from-append node waits (mark.Release n g object mode ∷ xs) ys = waits_from-append node (if n.0 == node.0 then without_claim (claim g object mode) waits else waits) xs ys
waits_from-append node waits (m ∷ xs) ys = waits_from-append node waits xs ys

right-append : (node : Node) (holds waits : List Claim) (xs ys : List Mark) → AreRight node holds waits xs → AreRight node (holds_from node holds xs) (waits_from node waits xs) ys
    → AreRight node holds waits (xs ++ ys)
right-append node holds waits [] ys e f = f
right-append node holds waits (mark.Wait n g object mode ∷ xs) ys e f = (e.0, right-append node holds (waits_from node waits (mark.Wait n g object mode ∷ [])) xs ys e.1 f)
right-append node holds waits (mark.Hold n g object mode ∷ xs) ys e f =
    (e.0, right-append node (holds_from node holds (mark.Hold n g object mode ∷ [])) (waits_from node waits (mark.Hold n g object mode ∷ [])) xs ys e.1 f)
right-append node holds waits (mark.Release n g object mode ∷ xs) ys e f =
    right-append node (holds_from node holds (mark.Release n g object mode ∷ [])) (waits_from node waits (mark.Release n g object mode ∷ [])) xs ys e f
right-append node holds waits (m ∷ xs) ys e f = right-append node holds waits xs ys e f

pub late-append : (before xs ys : List Mark) → AreReleasesLate before xs → AreReleasesLate (before ++ xs) ys → AreReleasesLate before (xs ++ ys)
late-append before [] ys e f = subst (λ b. AreReleasesLate b ys) (append-nil before) f
late-append before (mark.Release n g object mode ∷ xs) ys e f =
    (e.0, late-append (before ++ mark.Release n g object mode ∷ []) xs ys e.1 (subst (λ b. AreReleasesLate b ys) (sym (append_assoc before (mark.Release n g object mode ∷ []) xs)) f))
late-append before (m ∷ xs) ys e f = late-append (before ++ m ∷ []) xs ys e (subst (λ b. AreReleasesLate b ys) (sym (append_assoc before (m ∷ []) xs)) f)

lets-append : (node : Node) (before : List Mark) (waits : List Claim) (xs ys : List Mark) → AreLet node before waits xs → AreLet node (before ++ xs) (waits_from node waits xs) ys
    → AreLet node before waits (xs ++ ys)
lets-append node before waits [] ys e f = subst (λ b. AreLet node b waits ys) (append-nil before) f
lets-append node before waits (x ∷ xs) ys e f = (
  e.0,
  lets-append node (before ++ x ∷ []) (waits_from node waits (x ∷ [])) xs ys e.1
      (subst (λ b. AreLet node b (waits_from node (waits_from node waits (x ∷ [])) xs) ys) (sym (append_assoc before (x ∷ []) xs))
      (subst (λ w. AreLet node (before ++ x ∷ xs) w ys) (waits_from-append node waits (x ∷ []) xs) f)),
)

pub both : (node : Node) (before : List Mark) (a : Locks) (xs : List Mark) (b : Locks) (ys : List Mark) (c : Locks) → Locking node before a xs b → Locking node (before ++ xs) b ys c
    → Locking node before a (xs ++ ys) c
both node before a xs b ys c e f =
    record {
      holds = holds_from-append node a.holds xs ys ∙ ap (λ h. holds_from node h ys) e.holds ∙ f.holds;
      waits = waits_from-append node a.waits xs ys ∙ ap (λ h. waits_from node h ys) e.waits ∙ f.waits;
      right = right-append node a.holds a.waits xs ys e.right (subst (λ h. AreRight node h (waits_from node a.waits xs) ys) (sym e.holds) (subst (λ h. AreRight node b.holds h ys) (sym e.waits) f.right));
      late = late-append before xs ys e.late f.late;
      lets = lets-append node before a.waits xs ys e.lets (subst (λ w. AreLet node (before ++ xs) w ys) (sym e.waits) f.lets);
    }

-- MARKS THAT CHANGE NO HOLD
abbrev pub Quiet : Mark → Type 0
Quiet (mark.Hold n g object mode) = ⊥
Quiet (mark.Release n g object mode) = ⊥
Quiet _ = Unit {0}

pub quiet-holds : (node : Node) (holds : List Claim) (ms : List Mark) → Each Quiet ms → holds_from node holds ms ≡ holds
quiet-holds node holds [] e = refl
quiet-holds node holds (mark.Hold n g object mode ∷ ms) e = absurd e.0
quiet-holds node holds (mark.Release n g object mode ∷ ms) e = absurd e.0
quiet-holds node holds (m ∷ ms) e = quiet-holds node holds ms e.1

pub quiet-late : (before ms : List Mark) → Each Quiet ms → AreReleasesLate before ms
quiet-late before [] e = tt
quiet-late before (mark.Release n g object mode ∷ ms) e = absurd e.0
quiet-late before (m ∷ ms) e = quiet-late (before ++ m ∷ []) ms e.1

-- MARKS THAT TELL OF NO LOCK, AND OF NO COMMIT
abbrev pub NoLock : Mark → Type 0
NoLock (mark.Wait n g object mode) = ⊥
NoLock (mark.Commit g) = ⊥
NoLock m = Quiet m

pub no-lock-quiet : (m : Mark) → NoLock m → Quiet m
no-lock-quiet (mark.Wait n g object mode) e = absurd e
no-lock-quiet (mark.Commit g) e = absurd e
no-lock-quiet m e = e

no-lock-waits : (node : Node) (waits : List Claim) (ms : List Mark) → Each NoLock ms → waits_from node waits ms ≡ waits
no-lock-waits node waits [] e = refl
no-lock-waits node waits (mark.Hold n g object mode ∷ ms) e = absurd e.0
no-lock-waits node waits (mark.Wait n g object mode ∷ ms) e = absurd e.0
no-lock-waits node waits (mark.Release n g object mode ∷ ms) e = absurd e.0
no-lock-waits node waits (m ∷ ms) e = no-lock-waits node waits ms e.1

no-lock-right : (node : Node) (holds waits : List Claim) (ms : List Mark) → Each NoLock ms → AreRight node holds waits ms
no-lock-right node holds waits [] e = tt
no-lock-right node holds waits (mark.Hold n g object mode ∷ ms) e = absurd e.0
no-lock-right node holds waits (mark.Wait n g object mode ∷ ms) e = absurd e.0
no-lock-right node holds waits (mark.Release n g object mode ∷ ms) e = absurd e.0
no-lock-right node holds waits (m ∷ ms) e = no-lock-right node holds waits ms e.1

no-lock-lets : (node : Node) (before : List Mark) (waits : List Claim) (ms : List Mark) → Each NoLock ms → AreLet node before waits ms
no-lock-lets node before waits [] e = tt
no-lock-lets node before waits (mark.Hold n g object mode ∷ ms) e = absurd e.0
no-lock-lets node before waits (mark.Wait n g object mode ∷ ms) e = absurd e.0
no-lock-lets node before waits (mark.Release n g object mode ∷ ms) e = absurd e.0
no-lock-lets node before waits (mark.Commit g ∷ ms) e = absurd e.0
no-lock-lets node before waits (m ∷ ms) e = (tt, no-lock-lets node (before ++ m ∷ []) waits ms e.1)

pub no-lock : (node : Node) (before : List Mark) (l : Locks) (ms : List Mark) → Each NoLock ms → Locking node before l ms l
no-lock node before l ms e =
    record {
      holds = quiet-holds node l.holds ms (each_weaker NoLock Quiet no-lock-quiet ms e);
      waits = no-lock-waits node l.waits ms e;
      right = no-lock-right node l.holds l.waits ms e;
      late = quiet-late before ms (each_weaker NoLock Quiet no-lock-quiet ms e);
      lets = no-lock-lets node before l.waits ms e;
    }

-- ONE MARK OF A LOCK
pub node-itself : (node : Node) → (node.0 == node.0) ≡ true
node-itself node = grind (arith, nat_tests)

-- a lock is granted to who has no wait there
pub grant : (node : Node) (before : List Mark) (l : Locks) (wanted : Claim) → is_clear l.holds l.waits wanted ≡ true → wait_of l wanted.gxid ≡ None
    → Locking node before l (hold_mark node wanted ∷ []) (with_hold l wanted)
grant node before l wanted free e =
    record {
      holds = ap (λ b. if b then with_claim wanted l.holds else l.holds) (node-itself node);
      waits = ap (λ b. if b then without_claim wanted l.waits else l.waits) (node-itself node) ∙ without-none wanted l.waits e;
      right = (free, tt);
      late = tt;
      lets = (inl e, tt);
    }

-- who has no wait there begins to wait
pub wait : (node : Node) (before : List Mark) (l : Locks) (wanted : Claim) → IsForEnd wanted.object wanted.mode → is_clear l.holds l.waits wanted ≡ false → wait_of l wanted.gxid ≡ None
    → Locking node before l (wait_mark node wanted ∷ []) (with_wait l wanted)
wait node before l wanted end met e =
    record {
      holds = refl;
      waits = ap (λ b. if b then with_claim wanted l.waits else l.waits) (node-itself node) ∙ ap (λ b. if b then l.waits else l.waits ++ wanted ∷ []) (not-among wanted l.waits e);
      right = (record { met = met; alone = e }, tt);
      late = tt;
      lets = (end, tt);
    }

-- who has no wait there gives a lock back before its end
pub give : (node : Node) (before : List Mark) (l : Locks) (old : Claim) → IsMomentary node old.object old.mode → wait_of l old.gxid ≡ None
    → Locking node before l (release_mark node old ∷ []) (without_hold l old)
give node before l old brief e =
    record {
      holds = ap (λ b. if b then without_claim old l.holds else l.holds) (node-itself node);
      waits = ap (λ b. if b then without_claim old l.waits else l.waits) (node-itself node) ∙ without-none old l.waits e;
      right = tt;
      late = (inl brief, tt);
      lets = (inl e, tt);
    }

-- who has no wait there commits
pub commit : (node : Node) (before : List Mark) (l : Locks) (g : Gxid) → wait_of l g ≡ None → Locking node before l (mark.Commit g ∷ []) l
commit node before l g e = record { holds = refl; waits = refl; right = tt; late = tt; lets = (e, tt) }

-- what a transaction has waited for, its only wait there, is granted
pub resumption : (node : Node) (before : List Mark) (l : Locks) (g : Gxid) (wanted : Claim) → is_clear l.holds l.waits wanted ≡ true → filter (is_of g) l.waits ≡ wanted ∷ []
    → Locking node before l (hold_mark node wanted ∷ []) (resumed l g (Some wanted))
resumption node before l g wanted free e =
    record {
      holds = ap (λ b. if b then with_claim wanted l.holds else l.holds) (node-itself node);
      waits = ap (λ b. if b then without_claim wanted l.waits else l.waits) (node-itself node) ∙ without-only g wanted l.waits e;
      right = (free, tt);
      late = tt;
      lets = (inr (subst (λ (h : Gxid). filter (is_of h) l.waits ≡ wanted ∷ []) (sym (gxid-of wanted.gxid g (passes (is_of g) l.waits wanted [] e))) e), tt);
    }

-- ENDS
or-left : (a b c d : Bool) → (a || b) ≡ true → ((a || c) || (b || d)) ≡ true
or-left a b c d e = grind arith

pub ended-more : (xs ys : List Mark) (g : Gxid) → is_ended xs g ≡ true → is_ended (xs ++ ys) g ≡ true
ended-more xs ys g e =
    ap (λ b. b || is_aborted (xs ++ ys) g) (committed-append xs ys g) ∙ ap (λ b. (is_committed xs g || is_committed ys g) || b) (aborted-append xs ys g)
    ∙ or-left (is_committed xs g) (is_aborted xs g) (is_committed ys g) (is_aborted ys g) e

or-right : (a b c d : Bool) → (c || d) ≡ true → ((a || c) || (b || d)) ≡ true
or-right a b c d e = grind arith

pub ended-behind : (xs ys : List Mark) (g : Gxid) → is_ended ys g ≡ true → is_ended (xs ++ ys) g ≡ true
ended-behind xs ys g e =
    ap (λ b. b || is_aborted (xs ++ ys) g) (committed-append xs ys g) ∙ ap (λ b. (is_committed xs g || is_committed ys g) || b) (aborted-append xs ys g)
    ∙ or-right (is_committed xs g) (is_aborted xs g) (is_committed ys g) (is_aborted ys g) e

pub aborted-behind : (xs ys : List Mark) (g : Gxid) → is_aborted ys g ≡ true → is_aborted (xs ++ ys) g ≡ true
aborted-behind xs ys g e = aborted-append xs ys g ∙ or_right (is_aborted xs g) (is_aborted ys g) e

pub aborted-more : (xs ys : List Mark) (g : Gxid) → is_aborted xs g ≡ true → is_aborted (xs ++ ys) g ≡ true
aborted-more xs ys g e = aborted-append xs ys g ∙ or_left (is_aborted xs g) (is_aborted ys g) e

-- OTHER NODES
pub other-holds : (script : Script) (here other : Node) (holds : List Claim) (ms : List Mark) → is_same_node here other ≡ false → Each (IsAtNode script here) ms → holds_from other holds ms ≡ holds
other-holds script here other holds [] n e = refl
other-holds script here other holds (mark.Hold m g object mode ∷ ms) n e =
    ap (λ b. holds_from other (if b then with_claim (claim g object mode) holds else holds) ms) (ap (λ x. is_same_node x other) e.0 ∙ n) ∙ other-holds script here other holds ms n e.1
other-holds script here other holds (mark.Release m g object mode ∷ ms) n e =
    ap (λ b. holds_from other (if b then without_claim (claim g object mode) holds else holds) ms) (ap (λ x. is_same_node x other) e.0 ∙ n) ∙ other-holds script here other holds ms n e.1
other-holds script here other holds (m ∷ ms) n e = other-holds script here other holds ms n e.1

pub other-waits : (script : Script) (here other : Node) (waits : List Claim) (ms : List Mark) → is_same_node here other ≡ false → Each (IsAtNode script here) ms → waits_from other waits ms ≡ waits
other-waits script here other waits [] n e = refl
other-waits script here other waits (mark.Wait m g object mode ∷ ms) n e =
    ap (λ b. waits_from other (if b then with_claim (claim g object mode) waits else waits) ms) (ap (λ x. is_same_node x other) e.0 ∙ n) ∙ other-waits script here other waits ms n e.1
other-waits script here other waits (mark.Hold m g object mode ∷ ms) n e =
    ap (λ b. waits_from other (if b then without_claim (claim g object mode) waits else waits) ms) (ap (λ x. is_same_node x other) e.0 ∙ n) ∙ other-waits script here other waits ms n e.1
other-waits script here other waits (mark.Release m g object mode ∷ ms) n e =
    ap (λ b. waits_from other (if b then without_claim (claim g object mode) waits else waits) ms) (ap (λ x. is_same_node x other) e.0 ∙ n) ∙ other-waits script here other waits ms n e.1
other-waits script here other waits (m ∷ ms) n e = other-waits script here other waits ms n e.1
