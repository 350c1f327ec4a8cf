-- What a transaction's calls send is of that transaction.
use Rattle.std.proofs.Common.{List, [], ◌∷◌, Option, Some, None, Bool, true, false, if◌then◌else◌}
use Rattle.gx_ids.specs.declared.ids.Gxid.{Gxid}
use Rattle.gx_ids.specs.declared.ids.Node.{Node}
use Rattle.gx_dtx.specs.Nodes.{to_each, without}
use Rattle.gx_dtx.specs.declared.change.Change.{Change}
use Rattle.gx_dtx.specs.Rules.{abort_found, aborts, commit_found, commits, ends_committed, finishes, forgets, gives_up, is_awaited, on_abort, on_commit, on_reply, prepares, refuses, reply_found, stays, takes}
use Rattle.gx_dtx.specs.Table.{Table, find_txn}
use Rattle.gx_dtx.specs.declared.phase.Phase.{Phase}
use Rattle.gx_dtx.specs.declared.phase.Phase.TheVariants.{Preparing, CommittingOne, CommittingTwo, Ended, Aborting}
use Rattle.gx_dtx.specs.declared.txn.Txn.{Txn}
use Rattle.gx_msg.specs.declared.message.Message.{Message}
use Rattle.gx_msg.specs.declared.message.Message.TheVariants as message
use Rattle.gx_msg.specs.declared.reply.Reply.{Reply}
use Rattle.gx_msg.specs.declared.reply.Reply.TheVariants as reply
use Rattle.gx_law_locks.proofs.Silent.{AreOfOne, OfOne}

abbrev Own : Change → Type 0
Own c = AreOfOne c.out.outs

to-all : (m : Message) → OfOne m → (nodes : List Node) → AreOfOne (to_each m nodes)
to-all m e [] = tt
to-all m e (i ∷ is) = (e, to-all m e is)

module _ (g : Gxid) where
  end : (nodes : List Node) → Own (ends_committed g nodes)
  end [] = tt
  end (i ∷ is) = to-all (message.Forget g) tt (i ∷ is)

  refuse : (nodes : List Node) (i : Node) → Own (refuses g nodes i)
  refuse nodes i = to-all (message.Abort g) tt nodes

  commit : (writers : List Node) (t : Txn) → Own (commits g writers t)
  commit [] t = end t.participants
  commit (i ∷ []) t = to-all (message.Commit g) tt (i ∷ [])
  commit (i ∷ j ∷ is) t = to-all (message.Prepare g) tt (i ∷ j ∷ is)

  abort : (nodes : List Node) → Own (aborts g nodes)
  abort [] = tt
  abort (i ∷ is) = to-all (message.Abort g) tt (i ∷ is)

  prepare : (writers nodes awaited : List Node) (refused : Bool) → Own (prepares g writers nodes awaited refused)
  prepare writers nodes [] false = to-all (message.CommitPrepared g) tt writers
  prepare writers nodes [] true = refuse nodes (record { 0 = 0 })
  prepare writers nodes (i ∷ is) refused = tt

  finish : (nodes awaited : List Node) → Own (finishes g nodes awaited)
  finish nodes [] = end nodes
  finish nodes (i ∷ is) = tt

  forget : (awaited : List Node) → Own (forgets awaited)
  forget [] = tt
  forget (i ∷ is) = tt

  give-up : (awaited : List Node) → Own (gives_up awaited)
  give-up [] = tt
  give-up (i ∷ is) = tt

  take : (nodes : List Node) (i : Node) (refused : Bool) (p : Phase) (r : Reply) → Own (takes g nodes i refused p r)
  take nodes i refused (Preparing writers awaited) reply.Prepared = prepare writers nodes (without i awaited) refused
  take nodes i refused (Preparing writers awaited) reply.Jfault = refuse nodes i
  take nodes i refused (CommittingOne w) reply.Committed = end nodes
  take nodes i refused (CommittingOne w) reply.Jfault = refuse nodes i
  take nodes i refused (CommittingTwo awaited) reply.Committed = finish nodes (without i awaited)
  take nodes i refused (Ended awaited) reply.Forgotten = forget (without i awaited)
  take nodes i refused (Aborting awaited) reply.Aborted = give-up (without i awaited)
  take nodes i refused p r = tt

  by-commit : (writers : List Node) (t : Option Txn) → Own (commit_found g writers t)
  by-commit writers None = tt
  by-commit writers (Some t) = commit writers t

  by-abort : (t : Option Txn) → Own (abort_found g t)
  by-abort None = tt
  by-abort (Some t) = abort t.participants

  by-reply : (i : Node) (r : Reply) (refused : Bool) (t : Option Txn) → Own (reply_found g i r refused t)
  by-reply i r refused None = tt
  by-reply i r refused (Some t) = by_test (is_awaited t.phase i r)
    where
      by_test : (b : Bool) → Own (if b then takes g t.participants i refused t.phase r else stays)
      by_test true = take t.participants i refused t.phase r
      by_test false = tt

pub commit-own : (d : Table) (g : Gxid) (writers : List Node) → AreOfOne (on_commit d g writers).out.outs
commit-own d g writers = by-commit g writers (find_txn d g)

pub abort-own : (d : Table) (g : Gxid) → AreOfOne (on_abort d g).out.outs
abort-own d g = by-abort g (find_txn d g)

pub reply-own : (d : Table) (g : Gxid) (i : Node) (r : Reply) (refused : Bool) → AreOfOne (on_reply d g i r refused).out.outs
reply-own d g i r refused = by-reply g i r refused (find_txn d g)
