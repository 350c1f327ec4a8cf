-- Orders that the coordinator sends.
use Rattle.std.proofs.Common.{◌≡◌, ℕ, List, [], ◌∷◌, ◌++◌, Option, Some, None, Bool, true, false, refl, sym, ap, ◌∙◌, if◌then◌else◌}
use Rattle.gx_lemmas.proofs.Lists.{get-append}
use Rattle.gx_ids.specs.declared.ids.Cid.{Cid}
use Rattle.gx_ids.specs.declared.ids.Gxid.{Gxid}
use Rattle.gx_ids.specs.declared.ids.Node.{Node}
use Rattle.gx_ids.specs.declared.ids.SessionId.{SessionId}
use Rattle.gx_tree.specs.declared.stmt.Level.{Level}
use Rattle.gx_tree.specs.declared.stmt.Stmt.{Stmt}
use Rattle.gx_tree.specs.declared.stmt.Stmt.TheVariants as stmt
use Rattle.gx_dsnap.specs.declared.snapshot.Snapshot.{Snapshot}
use Rattle.gx_dtx.specs.Nodes.{to_each, without}
use Rattle.gx_dtx.specs.Rules.{abort_found, aborts, commit_found, commits, decides, ends_committed, finishes, forgets, gives_up, is_awaited, on_abort, on_commit, on_reply, prepares, reply_found, stays, takes}
use Rattle.gx_dtx.specs.Table.{Table, find_txn}
use Rattle.gx_dtx.specs.declared.phase.Phase.{Phase}
use Rattle.gx_dtx.specs.declared.phase.Phase.TheVariants.{Preparing, CommittingOne, CommittingTwo, Ended, Aborting}
use Rattle.gx_dtx.specs.declared.txn.Txn.{Txn}
use Rattle.gx_msg.specs.declared.message.Message.{Message}
use Rattle.gx_msg.specs.declared.message.Message.TheVariants as message
use Rattle.gx_msg.specs.declared.message.Out.{Out}
use Rattle.gx_msg.specs.declared.reply.Reply.{Reply}
use Rattle.gx_msg.specs.declared.reply.Reply.TheVariants as reply
use Rattle.gx_script.specs.declared.Script.{Script}
use Rattle.gx_store.specs.declared.mark.Mark.{Mark}
use Rattle.gx_rules.specs.Coordinators.{Command}
use Rattle.gx_law_order.proofs.Lists.{each_weaker}
use Rattle.gx_law_order.specs.Lists.{Each}
use Rattle.gx_law_order.specs.Orders.{IsOrder, IsOrderOf, IsReadBy, IsServed, level_of_began}
use Rattle.gx_store.specs.Language.{AreLinesNumbered}
use Rattle.gx_law_order.specs.Scanned.{began_from, command_at, stmt_of_command}
use Rattle.gx_law_order.proofs.Others.{began-kept}

-- what is sent is an order, if the script's lines are numbered
abbrev pub MessageIs : Script → List Mark → Node → Message → Type 0
MessageIs script marks node m = AreLinesNumbered [] script.lines → IsOrderOf script marks node m

abbrev pub OutIs : Script → List Mark → Out → Type 0
OutIs script marks o = MessageIs script marks o.node o.message

abbrev pub CommandIs : Script → List Mark → Option Command → Type 0
CommandIs script marks None = Unit {0}
CommandIs script marks (Some m) = Each (OutIs script marks) m.orders

-- MORE MARKS
served-more : (ms ns : List Mark) (level : Level) (g : Gxid) (c : Cid) (x : Snapshot) → IsServed ms level g c x → IsServed (ms ++ ns) level g c x
served-more ms ns level g c x s = record { place = s.place; d = s.d; taken = get-append ms ns s.place _ s.taken; serves = s.serves }

read-more : (ms ns : List Mark) (level : Level) (g : Gxid) (c : Cid) (line : Stmt) (x : Option Snapshot) → IsReadBy ms level g c line x → IsReadBy (ms ++ ns) level g c line x
read-more ms ns level g c (stmt.Lock t m) x r = r
read-more ms ns level g c (stmt.Select q) x r = (r.0, r.1, served-more ms ns level g c r.0 r.2)
read-more ms ns level g c (stmt.Insert t v) x r = (r.0, r.1, served-more ms ns level g c r.0 r.2)
read-more ms ns level g c (stmt.Update t a v) x r = (r.0, r.1, served-more ms ns level g c r.0 r.2)
read-more ms ns level g c (stmt.Delete t v) x r = (r.0, r.1, served-more ms ns level g c r.0 r.2)
read-more ms ns level g c (stmt.Begin l) x r = (r.0, r.1, served-more ms ns level g c r.0 r.2)
read-more ms ns level g c stmt.Commit x r = (r.0, r.1, served-more ms ns level g c r.0 r.2)
read-more ms ns level g c stmt.Rollback x r = (r.0, r.1, served-more ms ns level g c r.0 r.2)

-- a transaction that has a command has begun
began-some : (script : Script) (o : Option (SessionId × ℕ)) (c : ℕ) (st : Stmt) → command_at script o c ≡ Some st → (z : SessionId × ℕ) × (o ≡ Some z)
began-some script None c st e = absurd (none e)
  where
    none : (let o : Option Stmt = None in o) ≡ Some st → ⊥
    none q = cc
began-some script (Some z) c st e = (z, refl)

pub of-more : (script : Script) (ms ns : List Mark) (g : Gxid) (c : Cid) (line : Stmt) → stmt_of_command script ms g c ≡ Some line → stmt_of_command script (ms ++ ns) g c ≡ Some line
of-more script ms ns g c line e =
    let z = began-some script (began_from [] ms g) c.0 line e in
    ap (λ o. command_at script o c.0) (began-kept [] ms ns g z.0 z.1 ∙ sym z.1) ∙ e

pub order-more : (script : Script) (ms ns : List Mark) (node : Node) (m : Message) → MessageIs script ms node m → MessageIs script (ms ++ ns) node m
order-more script ms ns node (message.Exec g c level x h slice) f n =
    let o : IsOrder script ms node g c level x slice = f n in
    let z = began-some script (began_from [] ms g) c.0 o.line o.of in
    let same : began_from [] (ms ++ ns) g ≡ began_from [] ms g = began-kept [] ms ns g z.0 z.1 ∙ sym z.1 in
    record {
      line = o.line;
      of = of-more script ms ns g c o.line o.of;
      level_is = o.level_is ∙ ap (level_of_began script) (sym same);
      counted = o.counted;
      pieces = o.pieces;
      plan = o.plan;
      among = o.among;
      read = read-more ms ns level g c o.line x o.read;
    }
order-more script ms ns node (message.Prepare g) f n = tt
order-more script ms ns node (message.Commit g) f n = tt
order-more script ms ns node (message.CommitPrepared g) f n = tt
order-more script ms ns node (message.Abort g) f n = tt
order-more script ms ns node (message.Forget g) f n = tt
order-more script ms ns node (message.Collect round) f n = tt
order-more script ms ns node (message.Answer g r) f n = tt
order-more script ms ns node (message.Graph round graph) f n = tt
order-more script ms ns node message.Up f n = tt

pub outs-more : (script : Script) (ms ns : List Mark) (outs : List Out) → Each (OutIs script ms) outs → Each (OutIs script (ms ++ ns)) outs
outs-more script ms ns outs e = each_weaker (OutIs script ms) (OutIs script (ms ++ ns)) (λ o f. order-more script ms ns o.node o.message f) outs e

pub command-more : (script : Script) (ms ns : List Mark) (o : Option Command) → CommandIs script ms o → CommandIs script (ms ++ ns) o
command-more script ms ns None e = tt
command-more script ms ns (Some m) e = outs-more script ms ns m.orders e

-- WHAT IS SENT FOR STATUSES IS NO EXEC
abbrev pub NoExec : Message → Type 0
NoExec (message.Exec g c l x h s) = ⊥
NoExec _ = Unit {0}

no-exec : (script : Script) (marks : List Mark) (node : Node) (m : Message) → NoExec m → MessageIs script marks node m
no-exec script marks node (message.Exec g c l x h s) e n = absurd e
no-exec script marks node (message.Prepare g) e n = tt
no-exec script marks node (message.Commit g) e n = tt
no-exec script marks node (message.CommitPrepared g) e n = tt
no-exec script marks node (message.Abort g) e n = tt
no-exec script marks node (message.Forget g) e n = tt
no-exec script marks node (message.Collect round) e n = tt
no-exec script marks node (message.Answer g r) e n = tt
no-exec script marks node (message.Graph round graph) e n = tt
no-exec script marks node message.Up e n = tt

abbrev pub IsBare : Out → Type 0
IsBare o = NoExec o.message

pub bare-outs : (script : Script) (marks : List Mark) (outs : List Out) → Each IsBare outs → Each (OutIs script marks) outs
bare-outs script marks outs e = each_weaker IsBare (OutIs script marks) (λ o h. no-exec script marks o.node o.message h) outs e

abbrev Plain : List Out → Type 0
Plain outs = Each IsBare outs

to-each : (m : Message) (nodes : List Node) → NoExec m → Plain (to_each m nodes)
to-each m [] e = tt
to-each m (i ∷ is) e = (e, to-each m is e)

ends-plain : (g : Gxid) (nodes : List Node) → Plain (ends_committed g nodes).out.outs
ends-plain g [] = tt
ends-plain g (i ∷ is) = to-each (message.Forget g) (i ∷ is) tt

commits-plain : (g : Gxid) (writers : List Node) (t : Txn) → Plain (commits g writers t).out.outs
commits-plain g [] t = ends-plain g t.participants
commits-plain g (i ∷ []) t = to-each (message.Commit g) (i ∷ []) tt
commits-plain g (i ∷ j ∷ is) t = to-each (message.Prepare g) (i ∷ j ∷ is) tt

aborts-plain : (g : Gxid) (nodes : List Node) → Plain (aborts g nodes).out.outs
aborts-plain g [] = tt
aborts-plain g (i ∷ is) = to-each (message.Abort g) (i ∷ is) tt

decides-plain : (g : Gxid) (ws ps : List Node) (b : Bool) → Plain (decides g ws ps b).out.outs
decides-plain g ws ps false = to-each (message.CommitPrepared g) ws tt
decides-plain g ws ps true = to-each (message.Abort g) ps tt

prepares-plain : (g : Gxid) (ws ps rest : List Node) (b : Bool) → Plain (prepares g ws ps rest b).out.outs
prepares-plain g ws ps [] b = decides-plain g ws ps b
prepares-plain g ws ps (i ∷ is) b = tt

finishes-plain : (g : Gxid) (ps rest : List Node) → Plain (finishes g ps rest).out.outs
finishes-plain g ps [] = ends-plain g ps
finishes-plain g ps (i ∷ is) = tt

forgets-plain : (rest : List Node) → Plain (forgets rest).out.outs
forgets-plain [] = tt
forgets-plain (i ∷ is) = tt

gives-plain : (rest : List Node) → Plain (gives_up rest).out.outs
gives-plain [] = tt
gives-plain (i ∷ is) = tt

takes-plain : (g : Gxid) (ps : List Node) (i : Node) (b : Bool) (p : Phase) (r : Reply) → Plain (takes g ps i b p r).out.outs
takes-plain g ps i b (Preparing ws a) reply.Prepared = prepares-plain g ws ps (without i a) b
takes-plain g ps i b (Preparing ws a) reply.Jfault = to-each (message.Abort g) ps tt
takes-plain g ps i b (CommittingOne w) reply.Committed = ends-plain g ps
takes-plain g ps i b (CommittingOne w) reply.Jfault = to-each (message.Abort g) ps tt
takes-plain g ps i b (CommittingTwo a) reply.Committed = finishes-plain g ps (without i a)
takes-plain g ps i b (Ended a) reply.Forgotten = forgets-plain (without i a)
takes-plain g ps i b (Aborting a) reply.Aborted = gives-plain (without i a)
takes-plain g ps i b p r = tt

-- calls
pub commit-bare : (d : Table) (g : Gxid) (writers : List Node) → Plain (on_commit d g writers).out.outs
commit-bare d g writers = by_found (find_txn d g)
  where
    by_found : (t : Option Txn) → Plain (commit_found g writers t).out.outs
    by_found None = tt
    by_found (Some t) = commits-plain g writers t

pub abort-bare : (d : Table) (g : Gxid) → Plain (on_abort d g).out.outs
abort-bare d g = by_found (find_txn d g)
  where
    by_found : (t : Option Txn) → Plain (abort_found g t).out.outs
    by_found None = tt
    by_found (Some t) = aborts-plain g t.participants

pub reply-bare : (d : Table) (g : Gxid) (i : Node) (r : Reply) (b : Bool) → Plain (on_reply d g i r b).out.outs
reply-bare d g i r b = by_found (find_txn d g)
  where
    by_test : (t : Txn) (q : Bool) → Plain (if q then takes g t.participants i b t.phase r else stays).out.outs
    by_test t true = takes-plain g t.participants i b t.phase r
    by_test t false = tt

    by_found : (t : Option Txn) → Plain (reply_found g i r b t).out.outs
    by_found None = tt
    by_found (Some t) = by_test t (is_awaited t.phase i r)
