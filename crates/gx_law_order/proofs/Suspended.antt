-- Slices that wait at a segment: where each came from, and how its transaction stands there meanwhile.
use Rattle.std.proofs.Common.{◌≡◌, ◌||◌, ◌≤◌, ◌⊎◌, inl, inr, ℕ, zero, suc, List, [], ◌∷◌, ◌++◌, Option, Some, None, Bool, true, false, refl, sym, subst, ap, ◌∙◌, arith, length}
use Rattle.std.specs.Prelude.{cond, filter, find, is_some, slice_get, take}
use Rattle.gx_lemmas.proofs.Lists.{get-append}
use Rattle.gx_lemmas.proofs.Numbers.{one-le-zero}
use Rattle.gx_ids.specs.declared.ids.Gxid.{Gxid}
use Rattle.gx_ids.specs.declared.ids.Node.{Node}
use Rattle.gx_ids.specs.declared.rid.Rid.{Rid}
use Rattle.gx_tree.specs.declared.slice.Slice.{Slice}
use Rattle.gx_waits.specs.declared.claim.Claim.{Claim}
use Rattle.gx_waits.specs.Claims.{is_of}
use Rattle.gx_locks.specs.Locks.{wait_of}
use Rattle.gx_msg.specs.declared.message.Envelope.{Envelope}
use Rattle.gx_msg.specs.declared.message.Message.{Message}
use Rattle.gx_msg.specs.declared.message.Message.TheVariants as message
use Rattle.gx_script.specs.declared.Script.{Script}
use Rattle.gx_store.specs.declared.event.Event.TheVariants as event
use Rattle.gx_store.specs.declared.mark.Mark.{Mark}
use Rattle.gx_store.specs.declared.mark.Mark.TheVariants.{Sent}
use Rattle.gx_store.specs.declared.run.Step.{Step}
use Rattle.gx_store.specs.Messages.{IsSending, IsSent, Receives}
use Rattle.gx_store.specs.Ordered.{IsLink}
use Rattle.gx_store.specs.Refusals.{the_coordinator}
use Rattle.gx_rules.specs.Changes.{Change, change_of}
use Rattle.gx_rules.specs.Fits.{is_right_slice, reads_nothing}
use Rattle.gx_rules.specs.Machine.{Letter, World, posted}
use Rattle.gx_rules.specs.Segments.{Local, Phase, Seg, Suspended, local_of}
use Rattle.gx_rules.specs.Segments.Phase.{Reading, Writing}
use Rattle.gx_store.specs.Locks.{slice_lock}
use Rattle.gx_law_order.proofs.Changing.{IsAtRow}
use Rattle.gx_law_order.proofs.Letters.{IsFound, IsLetter}
use Rattle.gx_law_order.proofs.Lists.{get_last}
use Rattle.gx_law_order.specs.Lists.{Each}
use Rattle.gx_law_order.proofs.Sent.{at}
use Rattle.gx_law_order.specs.Standings.{gx}

-- WHAT HAS COME
-- the letter is one of these
abbrev pub IsAmong : Letter → List Letter → Type 0
IsAmong l [] = ⊥
IsAmong l (x ∷ xs) = (l ≡ x) ⊎ IsAmong l xs

pub each-among : (P : Letter → Type 0) (ls : List Letter) (l : Letter) → Each P ls → IsAmong l ls → P l
each-among P [] l e i = absurd i
each-among P (x ∷ xs) l e (inl s) = subst P (sym s) e.0
each-among P (x ∷ xs) l e (inr i) = each-among P xs l e.1 i

-- the coordinator sent this message to the segment, and a step before has received it
pub record HasCome (w : World) (i : ℕ) (m : Message) : Type 0 where
  pub letter : Letter
  pub among : IsAmong letter w.sent
  pub source : letter.from ≡ the_coordinator
  pub target : letter.to ≡ at i
  pub told : letter.envelope.message ≡ m
  pub place : ℕ
  pub step : Step
  pub stands : slice_get w.steps place ≡ Some step
  pub node : step.stamp.node ≡ at i
  pub received : Receives (take place w.steps) step.event the_coordinator (at i) m

-- each letter is one of those sent
each-more : (ls : List Letter) (x : Letter) (some : List Letter) → Each (λ l. IsAmong l ls) some → Each (λ l. IsAmong l (x ∷ ls)) some
each-more ls x [] e = tt
each-more ls x (l ∷ some) e = (inr e.0, each-more ls x some e.1)

pub each-own : (ls : List Letter) → Each (λ l. IsAmong l ls) ls
each-own [] = tt
each-own (x ∷ ls) = (inl refl, each-more ls x ls (each-own ls))

pub each-both : {A : Type 0} (P Q : A → Type 0) (xs : List A) → Each P xs → Each Q xs → Each (λ x. P x × Q x) xs
each-both P Q [] e f = tt
each-both P Q (x ∷ xs) e f = ((e.0, f.0), each-both P Q xs e.1 f.1)

-- what was sent stays among what is sent later
pub among-posted : (from : Node) (clock : ℕ) (ms : List Mark) (sent : List Letter) (l : Letter) → IsAmong l sent → IsAmong l (posted from clock ms sent)
among-posted from clock [] sent l e = e
among-posted from clock (Sent to number told ∷ ms) sent l e = among-posted from clock ms _ l (inr e)
among-posted from clock (m ∷ ms) sent l e = among-posted from clock ms sent l e

-- the steps before a step
take-kept : {A : Type 0} (xs ys : List A) (k : ℕ) (x : A) → slice_get xs k ≡ Some x → take k (xs ++ ys) ≡ take k xs
take-kept [] ys k x e = absurd (cc)
take-kept (y ∷ xs) ys zero x e = refl
take-kept (y ∷ xs) ys (suc k) x e = ap (λ q. y ∷ q) (take-kept xs ys k x e)

pub take-all : {A : Type 0} (xs ys : List A) → take (length xs) (xs ++ ys) ≡ xs
take-all [] ys = refl
take-all (x ∷ xs) ys = ap (λ q. x ∷ q) (take-all xs ys)

-- what has come has come in each later world
pub come-later : (w v : World) (i : ℕ) (s : Step) (m : Message) → v.steps ≡ w.steps ++ s ∷ [] → ((l : Letter) → IsAmong l w.sent → IsAmong l v.sent) → HasCome w i m → HasCome v i m
come-later w v i s m e more h =
    record {
      letter = h.letter;
      among = more h.letter h.among;
      source = h.source;
      target = h.target;
      told = h.told;
      place = h.place;
      step = h.step;
      stands = subst (λ ss. slice_get ss h.place ≡ Some h.step) (sym e) (get-append w.steps (s ∷ []) h.place h.step h.stands);
      node = h.node;
      received = subst (λ ss. Receives ss h.step.event the_coordinator (at i) m) (sym (ap (take h.place) e ∙ take-kept w.steps (s ∷ []) h.place h.step h.stands)) h.received;
    }

-- what a segment receives in a step has come after it
module _ (script : Script) (w v : World) (i : ℕ) (one : 1 ≤ i) (s : Step) (from : Node) (number : ℕ) (envelope : Envelope) where
  pub come-now : v.steps ≡ w.steps ++ s ∷ [] → ((l : Letter) → IsAmong l w.sent → IsAmong l v.sent) → s.stamp.node ≡ at i → s.event ≡ event.Receive from (at i) number → IsFound (λ l. IsLetter script w.steps l × IsAmong l w.sent) from (at i) number envelope → HasCome v i envelope.message
  come-now e more n r f =
      record {
        letter = f.letter;
        among = more f.letter f.is.1;
        source = source f.is.0.link;
        target = f.target;
        told = told;
        place = length w.steps;
        step = s;
        stands = subst (λ ss. slice_get ss (length w.steps) ≡ Some s) (sym e) (get_last w.steps [] s);
        node = n;
        received = record {
          number = number;
          is = r ∙ ap (λ a. event.Receive a (at i) number) (sym f.source ∙ source f.is.0.link);
          sent = subst (λ ss. IsSent ss the_coordinator (at i) number envelope.message) (sym (ap (take (length w.steps)) e ∙ take-all w.steps (s ∷ []))) sent;
        };
      }
    where
      told : f.letter.envelope.message ≡ envelope.message
      told = ap (λ (a : Envelope). a.message) f.told

      source : IsLink script f.letter.from f.letter.to → f.letter.from ≡ the_coordinator
      source (inl l) = l.0
      source (inr l) = absurd (one-le-zero i one (ap (λ (a : Node). a.0) (sym f.target ∙ l.1)))

      sent : IsSent w.steps the_coordinator (at i) number envelope.message
      sent =
          let a = f.is.0.sending in
          let b : IsSending w.steps f.is.0.step f.is.0.mark the_coordinator f.letter.to f.letter.envelope.number f.letter.envelope.message = subst (λ q. IsSending w.steps f.is.0.step f.is.0.mark q f.letter.to f.letter.envelope.number f.letter.envelope.message) (source f.is.0.link) a in
          let c : IsSending w.steps f.is.0.step f.is.0.mark the_coordinator (at i) f.letter.envelope.number f.letter.envelope.message = subst (λ q. IsSending w.steps f.is.0.step f.is.0.mark the_coordinator q f.letter.envelope.number f.letter.envelope.message) f.target b in
          let d : IsSending w.steps f.is.0.step f.is.0.mark the_coordinator (at i) number f.letter.envelope.message = subst (λ q. IsSending w.steps f.is.0.step f.is.0.mark the_coordinator (at i) q f.letter.envelope.message) f.counted c in
          record { step = f.is.0.step; mark = f.is.0.mark; sending = subst (λ q. IsSending w.steps f.is.0.step f.is.0.mark the_coordinator (at i) number q) told d }

-- WHO WAITS
abbrev pub is_open_phase : Phase → Bool
is_open_phase Reading = true
is_open_phase Writing = true
is_open_phase _ = false

-- what a slice waits for: its table's lock, or at a row that row's lock or its writer's end
abbrev pub IsWantedAt : Script → Gxid → Slice → Option Rid → Claim → Type 0
IsWantedAt script g x None wanted = slice_lock script g x ≡ wanted
IsWantedAt script g x (Some rid) wanted = IsAtRow g rid wanted

abbrev pub IsWanted : Script → Gxid → Suspended → Claim → Type 0
IsWanted script g x wanted = IsWantedAt script g x.slice x.row wanted

-- where it waits for its table it has done nothing yet, and where it waits at a row its command changes rows
pub record IsChanging (x : Suspended) : Type 0 where
  pub change : Change
  pub is : change_of x.cid x.level x.snapshot x.slice ≡ Some change

abbrev pub HasDoneAt : Option Rid → Suspended → Type 0
HasDoneAt None x = (x.count ≡ 0) × (x.rows ≡ [])
HasDoneAt (Some rid) x = IsChanging x

abbrev pub HasDone : Suspended → Type 0
HasDone x = HasDoneAt x.row x

-- Of a slice that waits: its EXEC has come and has raised the horizon; it is right for the script and has its snapshot, unless it
-- reads nothing; it is of the transaction's last command there, which isn't answered; the transaction has neither promised anything
-- nor ended there; and it waits for its table's lock, or at a row.
pub record Waits (script : Script) (w : World) (i : ℕ) (g : Gxid) (x : Suspended) : Type 0 where
  pub horizon : Gxid
  pub come : HasCome w i (message.Exec g x.cid x.level x.snapshot horizon x.slice)
  pub raised : horizon.0 ≤ (w.segs i).horizon.0
  pub right : is_right_slice script g x.cid x.slice ≡ true
  pub reads : (is_some x.snapshot || reads_nothing x.slice) ≡ true
  pub numbered : 1 ≤ x.cid.0
  pub last : (local_of (w.segs i) g).last ≡ x.cid.0
  pub unanswered : (local_of (w.segs i) g).answer ≡ None
  pub opens : is_open_phase (local_of (w.segs i) g).phase ≡ true
  pub done : HasDone x
  pub wanted : Claim
  pub wants : wait_of (w.segs i).locks g ≡ Some wanted
  pub lock : IsWanted script g x wanted

-- the same of a transaction's record, but for the locks, where `Come` says what has come and `top` is the horizon
pub record Stands (script : Script) (Come : Message → Type 0) (top : Gxid) (g : Gxid) (l : Local) (x : Suspended) : Type 0 where
  pub horizon : Gxid
  pub come : Come (message.Exec g x.cid x.level x.snapshot horizon x.slice)
  pub raised : horizon.0 ≤ top.0
  pub right : is_right_slice script g x.cid x.slice ≡ true
  pub reads : (is_some x.snapshot || reads_nothing x.slice) ≡ true
  pub numbered : 1 ≤ x.cid.0
  pub last : l.last ≡ x.cid.0
  pub unanswered : l.answer ≡ None
  pub opens : is_open_phase l.phase ≡ true
  pub done : HasDone x

-- the waits of a transaction are its slice's, which has one
pub record IsWait (script : Script) (g : Gxid) (x : Suspended) (those : List Claim) : Type 0 where
  pub wanted : Claim
  pub lock : IsWanted script g x wanted
  pub alone : those ≡ wanted ∷ []

abbrev pub AreWaits : Script → Gxid → Option Suspended → List Claim → Type 0
AreWaits script g None those = those ≡ []
AreWaits script g (Some x) those = IsWait script g x those

abbrev pub Suits : Script → (Message → Type 0) → Gxid → ℕ → Local → Type 0
Suits script Come top h l = (x : Suspended) → l.suspended ≡ Some x → Stands script Come top (gx h) l x

-- Each slice that waits at a segment stands so; and the waits there are those of the slices, one a transaction.
pub record AreSuspended (script : Script) (Come : Message → Type 0) (s : Seg) : Type 0 where
  pub each : (h : ℕ) → Suits script Come s.horizon h (s.locals h)
  pub own : (h : ℕ) → AreWaits script (gx h) (s.locals h).suspended (filter (is_of (gx h)) s.locks.waits)

-- the first of those that pass
pub find-filter : {A : Type 0} (p : A → Bool) (xs ys : List A) → filter p xs ≡ ys → find p xs ≡ slice_get ys 0
find-filter p [] ys e = ap (λ q. slice_get q 0) e
find-filter p (x ∷ xs) ys e = by_test (p x) refl e (find-filter p xs ys)
  where
    by_test : (b : Bool) → p x ≡ b → cond b (x ∷ filter p xs) (filter p xs) ≡ ys → (filter p xs ≡ ys → find p xs ≡ slice_get ys 0) → cond b (Some x) (find p xs) ≡ slice_get ys 0
    by_test true q e later = ap (λ z. slice_get z 0) e
    by_test false q e later = later e

-- so it waits
pub waits-there : (script : Script) (w : World) (i : ℕ) → AreSuspended script (HasCome w i) (w.segs i) → (g : Gxid) (x : Suspended) → (local_of (w.segs i) g).suspended ≡ Some x → Waits script w i g x
waits-there script w i k g x e =
    let a = k.each g.0 x e in
    let b : IsWait script g x (filter (is_of g) (w.segs i).locks.waits) = subst (λ o. AreWaits script g o (filter (is_of g) (w.segs i).locks.waits)) e (k.own g.0) in
    record {
      horizon = a.horizon;
      come = a.come;
      raised = a.raised;
      right = a.right;
      reads = a.reads;
      numbered = a.numbered;
      last = a.last;
      unanswered = a.unanswered;
      opens = a.opens;
      done = a.done;
      wanted = b.wanted;
      wants = find-filter (is_of g) (w.segs i).locks.waits (b.wanted ∷ []) b.alone;
      lock = b.lock;
    }

-- what has come and how high the horizon is may only grow
pub stands-later : (script : Script) (C D : Message → Type 0) (top up : Gxid) (g : Gxid) (l : Local) (x : Suspended) → ((m : Message) → C m → D m) → top.0 ≤ up.0 → Stands script C top g l x → Stands script D up g l x
stands-later script C D top up g l x f h a =
    record {
      horizon = a.horizon;
      come = f _ a.come;
      raised = higher a.raised h;
      right = a.right;
      reads = a.reads;
      numbered = a.numbered;
      last = a.last;
      unanswered = a.unanswered;
      opens = a.opens;
      done = a.done;
    }
  where
    higher : {a b c : ℕ} → a ≤ b → b ≤ c → a ≤ c
    higher h k = omega arith

pub suspended-later : (script : Script) (C D : Message → Type 0) (s : Seg) → ((m : Message) → C m → D m) → AreSuspended script C s → AreSuspended script D s
suspended-later script C D s f k = record { each = λ h x e. stands-later script C D s.horizon s.horizon (gx h) (s.locals h) x f (same s.horizon.0) (k.each h x e); own = k.own }
  where
    same : (a : ℕ) → a ≤ a
    same a = omega arith
