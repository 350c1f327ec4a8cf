-- What has come of one transaction, by the calls alone.
use Rattle.std.specs.Prelude.{◌≡◌, ◌⊎◌, ◌==◌, Bool, true, false, List, [], ◌∷◌, Option, None, Some, if◌then◌else◌}
use Rattle.gx_ids.specs.declared.ids.Gxid.{Gxid}
use Rattle.gx_ids.specs.declared.ids.Node.{Node}
use Rattle.gx_msg.specs.declared.reply.Reply.{Reply as Answer}
use Rattle.gx_msg.specs.declared.reply.Reply.TheVariants as answer
use Rattle.gx_dtx.specs.declared.order.Order.{Order}
use Rattle.gx_dtx.specs.declared.outcome.Outcome.{Outcome}
use Rattle.gx_dtx.specs.declared.outcome.Outcome.TheVariants as outcome
use Rattle.gx_dtx.specs.Nodes.{has}
use Rattle.gx_dtx.specs.Table.{Table, xmin_of}
use Rattle.gx_dtx.specs.Rules.{on_commit, on_abort, on_reply}
use Rattle.gx_dtx.specs.Runs.{Call, after}
use Rattle.gx_dtx.specs.Runs.Call.{Begin, Snap, DropSnap, Enlist, Commit, Abort, Reply}

-- what was told of the transaction's end
pub data Fate : Type 0 where
  Open : Fate
  Decided : Fate
  Committed : Fate
  GivenUp : Fate
  Aborted : Fate

-- whether it has begun, where its commands went, with which writers it was to commit, who has answered PREPARED and
-- COMMITTED since, whether the decide item was appended, what was told of its end, who has answered FORGOTTEN or ABORTED since, and the xmin of the last
-- snapshot, if that wasn't dropped and the transaction is neither committed nor given up
pub record Past : Type 0 where
  pub begun : Bool
  pub enlisted : List Node
  pub writers : List Node
  pub prepared : List Node
  pub finished : List Node
  pub decided : Bool
  pub fate : Fate
  pub forgotten : List Node
  pub aborted : List Node
  pub live : Option Gxid

abbrev pub past_of : Bool → Past
past_of begun = record { begun = begun; enlisted = []; writers = []; prepared = []; finished = []; decided = false; fate = Open; forgotten = []; aborted = []; live = None }

abbrev pub gives_up : Past → Past
gives_up p = record p { fate = GivenUp; aborted = []; live = None }

-- after an outcome
abbrev pub came : Outcome → Past → Past
came outcome.Pending p = p
came outcome.Decided p = record p { decided = true; fate = Decided }
came outcome.Committed p = record p { fate = Committed; forgotten = []; live = None }
came (outcome.Refused _) p = gives_up p
came outcome.Ended p = record p { fate = Aborted; live = None }

-- after a node's answer
abbrev pub answered : Node → Answer → Past → Past
answered i answer.Prepared p = record p { prepared = i ∷ p.prepared }
answered i answer.Committed p = record p { finished = i ∷ p.finished }
answered i answer.Forgotten p = record p { forgotten = i ∷ p.forgotten }
answered i answer.Aborted p = record p { aborted = i ∷ p.aborted }
answered i _ p = p

abbrev pub asked : List Node → Past → Past
asked writers p = record p { writers = writers; prepared = []; finished = [] }

-- what a call of a transaction, made when the table was this, adds to its past
abbrev pub noted : Table → Call → Past → Past
noted d Begin p = past_of true
noted d (Snap g) p = record p { live = Some (xmin_of d) }
noted d (DropSnap g) p = record p { live = None }
noted d (Enlist g i) p = record p { enlisted = i ∷ p.enlisted }
noted d (Commit g writers) p = came (on_commit d g writers).out.outcome (asked writers p)
noted d (Abort g) p = came (on_abort d g).out.outcome (gives_up p)
noted d (Reply g i said refused) p = came (on_reply d g i said refused).out.outcome (answered i said p)

-- the transaction that a call is about
abbrev pub about : Table → Call → Gxid
about d Begin = d.next
about d (Snap g) = g
about d (DropSnap g) = g
about d (Enlist g _) = g
about d (Commit g _) = g
about d (Abort g) = g
about d (Reply g _ _ _) = g

-- what the calls have told of a transaction; the last call stands first
abbrev pub past : Gxid → List Call → Past
past g [] = past_of false
past g (call ∷ before) = if g.0 == (about (after before) call).0 then noted (after before) call (past g before) else past g before

-- whether it is over
abbrev pub is_over : Fate → Bool
is_over Committed = true
is_over Aborted = true
is_over _ = false

-- each of these nodes is one of those
abbrev pub AreAmong : List Node → List Node → Type 0
AreAmong nodes others = (i : Node) → has i nodes ≡ true → has i others ≡ true

-- the writers have done what a commit asks of them: one has committed, and nothing was decided; more have all
-- promised, it was decided, and they have committed
abbrev pub HaveCommitted : Bool → List Node → List Node → List Node → Type 0
HaveCommitted decided [] prepared finished = decided ≡ false
HaveCommitted decided (w ∷ []) prepared finished = (decided ≡ false) × AreAmong (w ∷ []) finished
HaveCommitted decided (w ∷ v ∷ ws) prepared finished = (decided ≡ true) × AreAmong (w ∷ v ∷ ws) prepared × AreAmong (w ∷ v ∷ ws) finished

-- nobody has to know of the transaction: it hasn't begun, or it is committed and forgotten by all where its commands
-- went, or it is aborted
abbrev pub IsForgotten : Past → Type 0
IsForgotten p = (p.begun ≡ false) ⊎ (((p.fate ≡ Committed) × AreAmong p.enlisted p.forgotten) ⊎ (p.fate ≡ Aborted))

-- the order to a node that goes on until it has answered
abbrev pub until : Order → Bool → Option Order
until order true = None
until order false = Some order
