-- What changes of a transaction's status send, and that they leave nobody whose commands run.
use Rattle.std.proofs.Common.{◌≡◌, List, [], ◌∷◌, Option, Some, None, Bool, true, false, refl, if◌then◌else◌}
use Rattle.gx_ids.specs.declared.ids.Gxid.{Gxid}
use Rattle.gx_ids.specs.declared.ids.Node.{Node}
use Rattle.gx_dtx.specs.Nodes.{to_each, without}
use Rattle.gx_dtx.specs.Rules.{abort_found, aborts, commit_found, commits, decides, ends_committed, finishes, forgets, gives_up, is_awaited, prepares, refuses, reply_found, stays, takes}
use Rattle.gx_dtx.specs.Table.{Table}
use Rattle.gx_dtx.specs.declared.change.Change.{Change}
use Rattle.gx_dtx.specs.declared.phase.Phase.{Phase}
use Rattle.gx_dtx.specs.declared.phase.Phase.TheVariants.{Aborting, CommittingOne, CommittingTwo, Ended, Preparing}
use Rattle.gx_dtx.specs.declared.txn.Txn.{Txn}
use Rattle.gx_msg.specs.declared.message.Message.{Message}
use Rattle.gx_msg.specs.declared.message.Message.TheVariants as message
use Rattle.gx_msg.specs.declared.message.Out.{Out}
use Rattle.gx_msg.specs.declared.reply.Reply.{Reply}
use Rattle.gx_msg.specs.declared.reply.Reply.TheVariants as reply
use Rattle.gx_law_order.proofs.Lists.{each_weaker}
use Rattle.gx_law_order.specs.Lists.{Each}
use Rattle.gx_law_order.specs.Stages.Stage.{Absent, Closing, Dropped, Finished, Live}
use Rattle.gx_law_reads.proofs.Reading.{OutFine, Quiet, Works}

abbrev pub NoExec : Message → Type 0
NoExec (message.Exec g c l x h s) = ⊥
NoExec _ = Unit {0}

no-exec-fine : (u : Table) (vs : Works) (node : Node) (m : Message) → NoExec m → OutFine u vs (record { node = node; message = m })
no-exec-fine u vs node (message.Exec g c l x h s) e = absurd e
no-exec-fine u vs node (message.Prepare g) e = (tt, tt)
no-exec-fine u vs node (message.Commit g) e = (tt, tt)
no-exec-fine u vs node (message.CommitPrepared g) e = (tt, tt)
no-exec-fine u vs node (message.Abort g) e = (tt, tt)
no-exec-fine u vs node (message.Forget g) e = (tt, tt)
no-exec-fine u vs node (message.Collect round) e = (tt, tt)
no-exec-fine u vs node (message.Answer g r) e = (tt, tt)
no-exec-fine u vs node (message.Graph round graph) e = (tt, tt)
no-exec-fine u vs node message.Up e = (tt, tt)

abbrev Sent : List Out → Type 0
Sent outs = Each (λ (o : Out). NoExec o.message) outs

pub sent-fine : (u : Table) (vs : Works) (outs : List Out) → Sent outs → Each (OutFine u vs) outs
sent-fine u vs outs e = each_weaker (λ (o : Out). NoExec o.message) (OutFine u vs) (λ o f. no-exec-fine u vs o.node o.message f) outs e

to-each : (m : Message) (nodes : List Node) → NoExec m → Sent (to_each m nodes)
to-each m [] e = tt
to-each m (i ∷ is) e = (e, to-each m is e)

absent : Absent ≡ Live → ⊥
absent e = cc

closing : Closing ≡ Live → ⊥
closing e = cc

finished : Finished ≡ Live → ⊥
finished e = cc

dropped : Dropped ≡ Live → ⊥
dropped e = cc

-- what is sent holds no command, and what is left of a transaction whose commands run is as before
pub record Mild (c : Change) (t : Option Txn) : Type 0 where
  pub sent : Sent c.out.outs
  pub quiet : Quiet c t

ends-mild : (g : Gxid) (nodes : List Node) (t : Txn) → Mild (ends_committed g nodes) (Some t)
ends-mild g [] t = record { sent = tt; quiet = λ e. absurd (absent e) }
ends-mild g (i ∷ is) t = record { sent = to-each (message.Forget g) (i ∷ is) tt; quiet = λ e. absurd (finished e) }

commits-mild : (g : Gxid) (writers : List Node) (t : Txn) → Mild (commits g writers t) (Some t)
commits-mild g [] t = ends-mild g t.participants t
commits-mild g (i ∷ []) t = record { sent = to-each (message.Commit g) (i ∷ []) tt; quiet = λ e. absurd (closing e) }
commits-mild g (i ∷ j ∷ is) t = record { sent = to-each (message.Prepare g) (i ∷ j ∷ is) tt; quiet = λ e. absurd (closing e) }

aborts-mild : (g : Gxid) (nodes : List Node) (t : Txn) → Mild (aborts g nodes) (Some t)
aborts-mild g [] t = record { sent = tt; quiet = λ e. absurd (absent e) }
aborts-mild g (i ∷ is) t = record { sent = to-each (message.Abort g) (i ∷ is) tt; quiet = λ e. absurd (dropped e) }

refuses-mild : (g : Gxid) (ps : List Node) (i : Node) (t : Txn) → Mild (refuses g ps i) (Some t)
refuses-mild g ps i t = record { sent = to-each (message.Abort g) ps tt; quiet = λ e. absurd (dropped e) }

decides-mild : (g : Gxid) (ws ps : List Node) (b : Bool) (t : Txn) → Mild (decides g ws ps b) (Some t)
decides-mild g ws ps false t = record { sent = to-each (message.CommitPrepared g) ws tt; quiet = λ e. absurd (closing e) }
decides-mild g ws ps true t = refuses-mild g ps _ t

prepares-mild : (g : Gxid) (ws ps rest : List Node) (b : Bool) (t : Txn) → Mild (prepares g ws ps rest b) (Some t)
prepares-mild g ws ps [] b t = decides-mild g ws ps b t
prepares-mild g ws ps (i ∷ is) b t = record { sent = tt; quiet = λ e. absurd (closing e) }

finishes-mild : (g : Gxid) (ps rest : List Node) (t : Txn) → Mild (finishes g ps rest) (Some t)
finishes-mild g ps [] t = ends-mild g ps t
finishes-mild g ps (i ∷ is) t = record { sent = tt; quiet = λ e. absurd (closing e) }

forgets-mild : (rest : List Node) (t : Txn) → Mild (forgets rest) (Some t)
forgets-mild [] t = record { sent = tt; quiet = λ e. absurd (absent e) }
forgets-mild (i ∷ is) t = record { sent = tt; quiet = λ e. absurd (finished e) }

gives-mild : (rest : List Node) (t : Txn) → Mild (gives_up rest) (Some t)
gives-mild [] t = record { sent = tt; quiet = λ e. absurd (absent e) }
gives-mild (i ∷ is) t = record { sent = tt; quiet = λ e. absurd (dropped e) }

takes-mild : (g : Gxid) (ps : List Node) (i : Node) (b : Bool) (p : Phase) (r : Reply) (t : Txn) → Mild (takes g ps i b p r) (Some t)
takes-mild g ps i b (Preparing ws a) reply.Prepared t = prepares-mild g ws ps (without i a) b t
takes-mild g ps i b (Preparing ws a) reply.Jfault t = refuses-mild g ps i t
takes-mild g ps i b (CommittingOne w) reply.Committed t = ends-mild g ps t
takes-mild g ps i b (CommittingOne w) reply.Jfault t = refuses-mild g ps i t
takes-mild g ps i b (CommittingTwo a) reply.Committed t = finishes-mild g ps (without i a) t
takes-mild g ps i b (Ended a) reply.Forgotten t = forgets-mild (without i a) t
takes-mild g ps i b (Aborting a) reply.Aborted t = gives-mild (without i a) t
takes-mild g ps i b p r t = record { sent = tt; quiet = λ e. refl }

-- CALLS
pub commit-mild : (g : Gxid) (writers : List Node) (t : Option Txn) → Mild (commit_found g writers t) t
commit-mild g writers None = record { sent = tt; quiet = λ e. refl }
commit-mild g writers (Some t) = commits-mild g writers t

pub abort-mild : (g : Gxid) (t : Option Txn) → Mild (abort_found g t) t
abort-mild g None = record { sent = tt; quiet = λ e. refl }
abort-mild g (Some t) = aborts-mild g t.participants t

pub reply-mild : (g : Gxid) (i : Node) (r : Reply) (b : Bool) (t : Option Txn) → Mild (reply_found g i r b t) t
reply-mild g i r b None = record { sent = tt; quiet = λ e. refl }
reply-mild g i r b (Some t) = by_test (is_awaited t.phase i r)
  where
    by_test : (q : Bool) → Mild (if q then takes g t.participants i b t.phase r else stays) (Some t)
    by_test true = takes-mild g t.participants i b t.phase r t
    by_test false = record { sent = tt; quiet = λ e. refl }
