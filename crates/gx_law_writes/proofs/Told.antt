-- What a segment has told of a command: that it ran, and, of an INSERT, that its rows are written.
use Rattle.std.proofs.Common.{◌≡◌, ◌≤◌, ◌<◌, ℕ, List, [], ◌∷◌, ◌++◌, Option, Some, None, Bool, true, false, sym, subst, ◌∙◌, arith, zero, suc}
use Rattle.std.specs.Prelude.{length, slice_get, take}
use Rattle.std.proofs.lemmas.Bool.{or_left}
use Rattle.gx_lemmas.proofs.Options.{some-same}
use Rattle.gx_ids.specs.declared.ids.Cid.{Cid}
use Rattle.gx_ids.specs.declared.ids.Gxid.{Gxid}
use Rattle.gx_ids.specs.declared.ids.Node.{Node}
use Rattle.gx_ids.specs.declared.rid.Rid.{Rid}
use Rattle.gx_tree.specs.declared.row.KeyedRow.{KeyedRow}
use Rattle.gx_tree.specs.declared.slice.Slice.{Slice}
use Rattle.gx_tree.specs.declared.slice.Slice.TheVariants as slice
use Rattle.gx_tree.specs.declared.stmt.Level.{Level}
use Rattle.gx_dsnap.specs.declared.snapshot.Snapshot.{Snapshot}
use Rattle.gx_msg.specs.declared.message.Message.{Message}
use Rattle.gx_msg.specs.declared.message.Message.TheVariants as message
use Rattle.gx_msg.specs.declared.reply.Reply.{Reply}
use Rattle.gx_msg.specs.declared.reply.Reply.TheVariants as reply
use Rattle.gx_script.specs.declared.Script.{Script}
use Rattle.gx_store.specs.declared.mark.Mark.{Mark}
use Rattle.gx_store.specs.declared.mark.Mark.TheVariants as mark
use Rattle.gx_store.specs.declared.run.Step.{Step}
use Rattle.gx_store.specs.Messages.{IsSending}
use Rattle.gx_store.proofs.Marks.{is_processed-append}
use Rattle.gx_rules.specs.Segments.{Local}
use Rattle.gx_law_order.proofs.Lists.{each_weaker}
use Rattle.gx_law_order.specs.Lists.{Each}
use Rattle.gx_law_order.specs.Orders.{IsOrder}
use Rattle.gx_store.specs.Language.{AreLinesNumbered}
use Rattle.gx_law_order.proofs.Outs.{order-more}
use Rattle.gx_law_writes.specs.Rows.{is_own_written}
use Rattle.gx_law_writes.proofs.Next.{next_command}

abbrev pub IsWritten : List Mark → KeyedRow → Type 0
IsWritten ms row = is_own_written ms row.rid ≡ true

-- what a slice has done, by what it counts
abbrev pub IsDoneSlice : List Mark → Slice → ℕ → Type 0
IsDoneSlice ms (slice.Insert table rows) count = (count ≡ length rows) × Each (IsWritten ms) rows
IsDoneSlice ms s count = Unit {0}

-- the segment has done what it was sent for the command
pub record IsReport (script : Script) (ms : List Mark) (node : Node) (g : Gxid) (c : Cid) (count : ℕ) : Type 0 where
  pub level : Level
  pub snapshot : Option Snapshot
  pub slice : Slice
  pub order : IsOrder script ms node g c level snapshot slice
  pub done : IsDoneSlice ms slice count

-- SELECT, UPDATE and DELETE
abbrev pub may_fail : Slice → Bool
may_fail (slice.Select query) = true
may_fail (slice.Update table assigns cond) = true
may_fail (slice.Delete table cond) = true
may_fail _ = false

-- a command that has failed there is one that may fail there
pub record IsFailure (script : Script) (ms : List Mark) (node : Node) (g : Gxid) (c : Cid) : Type 0 where
  pub level : Level
  pub snapshot : Option Snapshot
  pub slice : Slice
  pub order : IsOrder script ms node g c level snapshot slice
  pub kind : may_fail slice ≡ true

-- a reply of a segment where the transaction's commands from this number on have still to run
abbrev pub IsToldOf : Script → List Mark → ℕ → Node → Gxid → Reply → Type 0
IsToldOf script ms next node g (reply.Done c w count p) = (c.0 < next) × IsReport script ms node g c count
IsToldOf script ms next node g (reply.Failed c x) = (c.0 < next) × IsFailure script ms node g c
IsToldOf script ms next node g r = Unit {0}

abbrev pub IsAnswerOf : Script → List Mark → ℕ → Node → Gxid → Option Reply → Type 0
IsAnswerOf script ms next node g None = Unit {0}
IsAnswerOf script ms next node g (Some r) = IsToldOf script ms next node g r

abbrev pub IsWordOf : Script → List Mark → (ℕ → ℕ → Local) → Node → Message → Type 0
IsWordOf script ms locals node (message.Answer g r) = IsToldOf script ms (next_command (locals node.0 g.0)) node g r
IsWordOf script ms locals node m = Unit {0}

-- what the marks of a node's step send, of a segment's
abbrev pub SentTold : Script → List Mark → (ℕ → ℕ → Local) → Node → Mark → Type 0
SentTold script ms locals node (mark.Sent to number m) = IsWordOf script ms locals node m
SentTold script ms locals node m = Unit {0}

abbrev pub StepTold : Script → List Mark → (ℕ → ℕ → Local) → Step → Type 0
StepTold script ms locals s = 1 ≤ s.stamp.node.0 → Each (SentTold script ms locals s.stamp.node) s.marks

-- MORE MARKS, AND LATER COMMANDS

pub written-more : (ms ns : List Mark) (rid : Rid) → is_own_written ms rid ≡ true → is_own_written (ms ++ ns) rid ≡ true
written-more ms ns rid e = is_processed-append ms ns rid.gxid rid.cid rid ∙ or_left (is_own_written ms rid) (is_own_written ns rid) e

done-more : (ms ns : List Mark) (s : Slice) (count : ℕ) → IsDoneSlice ms s count → IsDoneSlice (ms ++ ns) s count
done-more ms ns (slice.Insert table rows) count d = (d.0, each_weaker (IsWritten ms) (IsWritten (ms ++ ns)) (λ r e. written-more ms ns r.rid e) rows d.1)
done-more ms ns (slice.Select q) count d = tt
done-more ms ns (slice.Update t a b) count d = tt
done-more ms ns (slice.Delete t b) count d = tt
done-more ms ns (slice.Lock t m) count d = tt

lt-le : {a b c : ℕ} → a < b → b ≤ c → a < c
lt-le x y = omega arith

module _ (script : Script) (numbered : AreLinesNumbered [] script.lines) (ms ns : List Mark) where
  -- an order stays one
  pub order-later : (node : Node) (g : Gxid) (c : Cid) (level : Level) (x : Option Snapshot) (s : Slice) → IsOrder script ms node g c level x s → IsOrder script (ms ++ ns) node g c level x s
  order-later node g c level x s o = order-more script ms ns node (message.Exec g c level x g s) (λ n. o) numbered

  pub report-more : (node : Node) (g : Gxid) (c : Cid) (count : ℕ) → IsReport script ms node g c count → IsReport script (ms ++ ns) node g c count
  report-more node g c count r = record { level = r.level; snapshot = r.snapshot; slice = r.slice; order = order-later node g c r.level r.snapshot r.slice r.order; done = done-more ms ns r.slice count r.done }

  failure-more : (node : Node) (g : Gxid) (c : Cid) → IsFailure script ms node g c → IsFailure script (ms ++ ns) node g c
  failure-more node g c r = record { level = r.level; snapshot = r.snapshot; slice = r.slice; order = order-later node g c r.level r.snapshot r.slice r.order; kind = r.kind }

  pub told-more : (a b : ℕ) (node : Node) (g : Gxid) (r : Reply) → a ≤ b → IsToldOf script ms a node g r → IsToldOf script (ms ++ ns) b node g r
  told-more a b node g (reply.Done c w count p) l d = (lt-le d.0 l, report-more node g c count d.1)
  told-more a b node g (reply.Failed c x) l d = (lt-le d.0 l, failure-more node g c d.1)
  told-more a b node g reply.Prepared l d = tt
  told-more a b node g reply.Committed l d = tt
  told-more a b node g reply.Jfault l d = tt
  told-more a b node g reply.Again l d = tt
  told-more a b node g reply.Restarted l d = tt
  told-more a b node g reply.Aborted l d = tt
  told-more a b node g reply.Forgotten l d = tt

  pub answer-more : (a b : ℕ) (node : Node) (g : Gxid) (r : Option Reply) → a ≤ b → IsAnswerOf script ms a node g r → IsAnswerOf script (ms ++ ns) b node g r
  answer-more a b node g None l d = tt
  answer-more a b node g (Some r) l d = told-more a b node g r l d

  module _ (f h : ℕ → ℕ → Local) (later : (i g : ℕ) → next_command (f i g) ≤ next_command (h i g)) where
    pub word-more : (node : Node) (m : Message) → IsWordOf script ms f node m → IsWordOf script (ms ++ ns) h node m
    word-more node (message.Answer g r) d = told-more _ _ node g r (later node.0 g.0) d
    word-more node (message.Exec g c l x y z) d = tt
    word-more node (message.Prepare g) d = tt
    word-more node (message.Commit g) d = tt
    word-more node (message.CommitPrepared g) d = tt
    word-more node (message.Abort g) d = tt
    word-more node (message.Forget g) d = tt
    word-more node (message.Collect round) d = tt
    word-more node (message.Graph round graph) d = tt
    word-more node message.Up d = tt

    sent-more : (node : Node) (m : Mark) → SentTold script ms f node m → SentTold script (ms ++ ns) h node m
    sent-more node (mark.Sent to number m) d = word-more node m d
    sent-more node (mark.Start g s) d = tt
    sent-more node (mark.Snap g c x) d = tt
    sent-more node (mark.Write g c n t r x) d = tt
    sent-more node (mark.Skip g c r) d = tt
    sent-more node (mark.Fault g c r x) d = tt
    sent-more node (mark.Commit g) d = tt
    sent-more node (mark.Abort g) d = tt
    sent-more node (mark.Answer s n a) d = tt
    sent-more node (mark.Hold n g x m) d = tt
    sent-more node (mark.Wait n g x m) d = tt
    sent-more node (mark.Release n g x m) d = tt
    sent-more node (mark.Prepared n g) d = tt
    sent-more node (mark.LocalCommit n g) d = tt
    sent-more node (mark.Decided g) d = tt
    sent-more node (mark.JournalFailed n g) d = tt
    sent-more node (mark.Restart n) d = tt
    sent-more node (mark.Report n x y) d = tt
    sent-more node (mark.Recheck x y z) d = tt

    pub steps-more : (steps : List Step) → Each (StepTold script ms f) steps → Each (StepTold script (ms ++ ns) h) steps
    steps-more steps e = each_weaker (StepTold script ms f) (StepTold script (ms ++ ns) h) (λ s k one. each_weaker (SentTold script ms f s.stamp.node) (SentTold script (ms ++ ns) h s.stamp.node) (λ m d. sent-more s.stamp.node m d) s.marks (k one)) steps e

-- LOOKED UP
pub each-get : {A : Type 0} (P : A → Type 0) (xs : List A) (k : ℕ) (x : A) → Each P xs → slice_get xs k ≡ Some x → P x
each-get P [] k x e f = absurd (cc)
each-get P (y ∷ ys) zero x e f = subst P (some-same y x f) e.0
each-get P (y ∷ ys) (suc k) x e f = each-get P ys k x e.1 f

pub take-get : {A : Type 0} (n : ℕ) (xs : List A) (k : ℕ) (x : A) → slice_get (take n xs) k ≡ Some x → slice_get xs k ≡ Some x
take-get zero xs k x e = absurd (none e)
  where
    none : slice_get [] k ≡ Some x → ⊥
    none q = cc
take-get (suc n) [] k x e = absurd (none e)
  where
    none : slice_get [] k ≡ Some x → ⊥
    none q = cc
take-get (suc n) (y ∷ ys) zero x e = e
take-get (suc n) (y ∷ ys) (suc k) x e = take-get n ys k x e

pub sending-told : (script : Script) (ms : List Mark) (locals : ℕ → ℕ → Local) (steps : List Step) (step mark : ℕ) (from to : Node) (number : ℕ) (m : Message) → 1 ≤ from.0 → Each (StepTold script ms locals) steps → IsSending steps step mark from to number m → IsWordOf script ms locals from m
sending-told script ms locals steps step mark from to number m one e s =
    subst (λ n. IsWordOf script ms locals n m) s.node (each-get (SentTold script ms locals s.sender.stamp.node) s.sender.marks mark _ (each-get (StepTold script ms locals) steps step s.sender e s.at (subst (λ (n : Node). 1 ≤ n.0) (sym s.node) one)) s.sent)

pub taken-told : (script : Script) (ms : List Mark) (locals : ℕ → ℕ → Local) (steps : List Step) (n step mark : ℕ) (from to : Node) (number : ℕ) (m : Message) → 1 ≤ from.0 → Each (StepTold script ms locals) steps → IsSending (take n steps) step mark from to number m → IsWordOf script ms locals from m
taken-told script ms locals steps n step mark from to number m one e s =
    sending-told script ms locals steps step mark from to number m one e (record { sender = s.sender; at = take-get n steps step s.sender s.at; node = s.node; sent = s.sent })
