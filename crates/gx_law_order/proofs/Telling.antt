-- What stands before a message that tells of a mark.
use Rattle.std.proofs.Common.{◌≡◌, ℕ, ◌+◌, List, [], ◌∷◌, ◌++◌, false, sym, subst, ap, ◌∙◌, append-nil}
use Rattle.std.proofs.lemmas.List.{append_assoc}
use Rattle.std.proofs.lemmas.Bool.{or_left}
use Rattle.gx_lemmas.proofs.Numbers.{plus-none}
use Rattle.gx_ids.specs.declared.ids.Gxid.{Gxid}
use Rattle.gx_ids.specs.declared.ids.Node.{Node}
use Rattle.gx_msg.specs.declared.message.Message.{Message}
use Rattle.gx_msg.specs.declared.message.Message.TheVariants as message
use Rattle.gx_msg.specs.declared.message.Out.{Out}
use Rattle.gx_msg.specs.declared.reply.Reply.TheVariants as reply
use Rattle.gx_store.specs.declared.mark.Mark.{Mark}
use Rattle.gx_store.specs.declared.mark.Mark.TheVariants as mark
use Rattle.gx_store.specs.declared.run.Step.{Step}
use Rattle.gx_store.specs.Marks.{is_aborted, is_committed}
use Rattle.gx_store.specs.Points.{marks_in}
use Rattle.gx_store.specs.Protocol.{local_count, prepared_count}
use Rattle.gx_store.specs.Refusals.{the_coordinator}
use Rattle.gx_rules.specs.Sending.{counted, numbered}
use Rattle.gx_law_order.proofs.Lists.{each_append}
use Rattle.gx_law_order.specs.Lists.{Each}
use Rattle.gx_law_order.proofs.Past.{aborted-append, committed-append}
use Rattle.gx_law_order.specs.Pairs.{Pair, bit}
use Rattle.gx_law_order.specs.Said.{Said, gxid_in, is_answer}
use Rattle.gx_law_order.specs.Standings.{Known, Part, at, gx}
use Rattle.gx_law_order.specs.Told.{AreTold, DoStepsTell, IsTold}
use Rattle.gx_law_order.proofs.Counts.{NoPart, NoSent, local-append, no-local, no-prepared, prepared-append}
use Rattle.gx_law_order.proofs.Handled.{Tells}

-- one step more
pub tell-push : (before ss : List Step) (s : Step) → DoStepsTell before ss → AreTold s.stamp.node (marks_in (before ++ ss)) s.marks → DoStepsTell before (ss ++ s ∷ [])
tell-push before [] s e h = (subst (λ x. AreTold s.stamp.node (marks_in x) s.marks) (append-nil before) h, tt)
tell-push before (x ∷ ss) s e h = (e.0, tell-push (before ++ x ∷ []) ss s e.1 (subst (λ y. AreTold s.stamp.node (marks_in y) s.marks) (sym (append_assoc before (x ∷ []) ss)) h))

-- other marks don't take it back
told-append : (node : Node) (ms xs : List Mark) (m : Message) → Each NoPart xs → IsTold node ms m → IsTold node (ms ++ xs) m
told-append node ms xs (message.Answer g reply.Prepared) e t = prepared-append ms xs node g ∙ ap (λ n. prepared_count ms node g + n) (no-prepared xs node g e) ∙ plus-none (prepared_count ms node g) ∙ t
told-append node ms xs (message.Answer g reply.Committed) e t = local-append ms xs node g ∙ ap (λ n. local_count ms node g + n) (no-local xs node g e) ∙ plus-none (local_count ms node g) ∙ t
told-append node ms xs (message.Answer g (reply.Done c x y z)) e t = tt
told-append node ms xs (message.Answer g (reply.Failed c x)) e t = tt
told-append node ms xs (message.Answer g reply.Jfault) e t = tt
told-append node ms xs (message.Answer g reply.Again) e t = tt
told-append node ms xs (message.Answer g reply.Restarted) e t = tt
told-append node ms xs (message.Answer g reply.Aborted) e t = tt
told-append node ms xs (message.Answer g reply.Forgotten) e t = tt
told-append node ms xs (message.Abort g) e t = aborted-append ms xs g ∙ or_left (is_aborted ms g) (is_aborted xs g) t
told-append node ms xs (message.Forget g) e t = committed-append ms xs g ∙ or_left (is_committed ms g) (is_committed xs g) t
told-append node ms xs (message.Exec g c level x h y) e t = tt
told-append node ms xs (message.Prepare g) e t = tt
told-append node ms xs (message.Commit g) e t = tt
told-append node ms xs (message.CommitPrepared g) e t = tt
told-append node ms xs (message.Collect round) e t = tt
told-append node ms xs (message.Graph round graph) e t = tt
told-append node ms xs message.Up e t = tt

sent-told : (node : Node) (ms more : List Mark) (f : ℕ → ℕ) (outs : List Out) → Each NoPart more → Each (λ (o : Out). IsTold node ms o.message) outs → AreTold node (ms ++ more) (numbered f outs)
sent-told node ms more f [] e h = tt
sent-told node ms more f (o ∷ outs) e h = (
  told-append node ms more o.message e h.0,
  subst (λ x. AreTold node x (numbered (counted f o) outs)) (sym (append_assoc ms more (mark.Sent o.node (f o.node.0 + 1) o.message ∷ [])))
      (sent-told node ms (more ++ mark.Sent o.node (f o.node.0 + 1) o.message ∷ []) (counted f o) outs (each_append NoPart more (mark.Sent o.node (f o.node.0 + 1) o.message ∷ []) e (tt, tt)) h.1),
)

-- a step's marks, of which the sendings stand last
pub step-told : (node : Node) (ms ns : List Mark) (f : ℕ → ℕ) (outs : List Out) → Each NoSent ns → Each (λ (o : Out). IsTold node (ms ++ ns) o.message) outs → AreTold node ms (ns ++ numbered f outs)
step-told node ms [] f outs e h = subst (λ x. AreTold node x (numbered f outs)) (append-nil (ms ++ []) ∙ append-nil ms) (sent-told node (ms ++ []) [] f outs tt h)
step-told node ms (mark.Sent to number told ∷ ns) f outs e h = absurd e.0
step-told node ms (m ∷ ns) f outs e h = step-told node (ms ++ m ∷ []) ns f outs e.1 (subst (λ x. Each (λ (o : Out). IsTold node x o.message) outs) (sym (append_assoc ms (m ∷ []) ns)) h)

-- what the coordinator says
pub coord-told : (k : Known) (p : Part) (ms : List Mark) (m : Message) → k.aborted ≡ is_aborted ms (gx (gxid_in m)) → k.committed ≡ is_committed ms (gx (gxid_in m)) → is_answer m ≡ false → Said k p m → IsTold the_coordinator ms m
coord-told k p ms (message.Abort g) a c e s = sym a ∙ s
coord-told k p ms (message.Forget g) a c e s = sym c ∙ s
coord-told k p ms (message.Answer g r) a c e s = absurd (cc)
coord-told k p ms (message.Exec g n level x h y) a c e s = tt
coord-told k p ms (message.Prepare g) a c e s = tt
coord-told k p ms (message.Commit g) a c e s = tt
coord-told k p ms (message.CommitPrepared g) a c e s = tt
coord-told k p ms (message.Collect round) a c e s = tt
coord-told k p ms (message.Graph round graph) a c e s = tt
coord-told k p ms message.Up a c e s = tt

-- what a segment says
module _ (k : Known) (q : Part) (i g : ℕ) (marks ms : List Mark) (pair : Pair k q) (promises : q.promises ≡ prepared_count ms (at i) (gx g)) (commits : q.commits ≡ local_count ms (at i) (gx g)) where
  same-gxid : (h : Gxid) → h.0 ≡ g → gx g ≡ h
  same-gxid h e = ap (λ n. gx n) (sym e)

  pub seg-told : (m : Message) → Tells k q i g marks m → IsTold (at i) ms m
  seg-told (message.Answer h reply.Prepared) e = subst (λ (y : Gxid). prepared_count ms (at i) y ≡ 1) (same-gxid h e.0) (sym promises ∙ pair.promised ∙ ap bit e.1)
  seg-told (message.Answer h reply.Committed) e = subst (λ (y : Gxid). local_count ms (at i) y ≡ 1) (same-gxid h e.0) (sym commits ∙ pair.committed ∙ ap bit e.1)
  seg-told (message.Answer h (reply.Done c x y z)) e = tt
  seg-told (message.Answer h (reply.Failed c x)) e = tt
  seg-told (message.Answer h reply.Jfault) e = tt
  seg-told (message.Answer h reply.Again) e = tt
  seg-told (message.Answer h reply.Restarted) e = tt
  seg-told (message.Answer h reply.Aborted) e = tt
  seg-told (message.Answer h reply.Forgotten) e = tt
  seg-told (message.Abort h) e = absurd e
  seg-told (message.Forget h) e = absurd e
  seg-told (message.Exec h c level x y z) e = tt
  seg-told (message.Prepare h) e = tt
  seg-told (message.Commit h) e = tt
  seg-told (message.CommitPrepared h) e = tt
  seg-told (message.Collect round) e = tt
  seg-told (message.Graph round graph) e = tt
  seg-told message.Up e = tt
