-- Who is on its way to a commit was asked to prepare, or to commit: what the calls on transactions make of it.
use Rattle.std.proofs.Common.{◌≡◌, ◌⊎◌, inl, inr, ℕ, List, [], ◌∷◌, Option, Some, None, Bool, true, false, refl, sym, subst, ap, ◌∙◌, if◌then◌else◌, eqb}
use Rattle.std.proofs.lemmas.Bool.{eqb-true, or_left}
use Rattle.std.specs.Prelude.{option_map}
use Rattle.gx_lemmas.proofs.Numbers.{eqb-self}
use Rattle.gx_ids.specs.declared.ids.Gxid.{Gxid}
use Rattle.gx_ids.specs.declared.ids.Node.{Node}
use Rattle.gx_dtx.specs.Nodes.{with_node}
use Rattle.gx_dtx.specs.Rules.{abort_found, aborts, begun, commit_found, commits, ends_committed, enlisted, on_abort, on_commit, on_reply, with_live}
use Rattle.gx_dtx.specs.Table.{Table, find_txn, new_txn}
use Rattle.gx_dtx.specs.declared.outcome.Outcome.{Outcome}
use Rattle.gx_dtx.specs.declared.outcome.Outcome.TheVariants as outcome
use Rattle.gx_dtx.specs.declared.txn.Txn.{Txn}
use Rattle.gx_msg.specs.declared.message.Out.{Out}
use Rattle.gx_msg.specs.declared.reply.Reply.{Reply}
use Rattle.gx_store.specs.Rounds.{is_committing}
use Rattle.gx_rules.specs.AtCoordinator.{enlisted_all}
use Rattle.gx_rules.specs.Sending.{numbered}
use Rattle.gx_law_order.proofs.Closings.{kept-stage, live-at, set_live}
use Rattle.gx_law_order.proofs.Ends.{begun-finds}
use Rattle.gx_law_order.proofs.Lines.{begun-whole}
use Rattle.gx_law_order.proofs.Stages.{At, changed-at, left_of, txn-at}
use Rattle.gx_law_order.specs.Stages.{IsWhole, Stage, stage}
use Rattle.gx_law_order.specs.Standings.{gx}
use Rattle.gx_law_order.proofs.Statuses.{Moves, Turned, reply-turns}
use Rattle.gx_law_order.specs.Stages.Stage.{Absent, Closing, Live}

-- the transaction is on its way to a commit
abbrev pub IsClosing : Table → ℕ → Type 0
IsClosing d h = stage (find_txn d (gx h)) ≡ Closing

-- these messages ask for its promise or its commit
abbrev pub AreAsked : List Out → ℕ → Type 0
AreAsked outs h = (f : ℕ → ℕ) → is_committing (numbered f outs) (gx h) ≡ true

module _ (start : Table) where
  -- on the way from the start nobody is newly on its way
  pub record Goes (d : Table) : Type 0 where
    pub whole : IsWhole d
    pub closing : (h : ℕ) → IsClosing d h → IsClosing start h

  -- whoever is newly on its way is asked
  pub record Asks (d : Table) (outs : List Out) : Type 0 where
    pub closing : (h : ℕ) → IsClosing d h → IsClosing start h ⊎ AreAsked outs h

  goes-on : (d u : Table) (g : ℕ) (now : Option Txn) → At d u g now → (stage now ≡ Closing → IsClosing d g) → Goes d → Goes u
  goes-on d u g now a here e = record { whole = a.whole; closing = λ h q. by_test h (eqb h g) refl (sym (ap stage (a.finds h)) ∙ q) }
    where
      by_test : (h : ℕ) (b : Bool) → eqb h g ≡ b → stage (if b then now else find_txn d (gx h)) ≡ Closing → IsClosing start h
      by_test h true same q = subst (IsClosing start) (sym (eqb-true h g same)) (e.closing g (here q))
      by_test h false same q = e.closing h q

  asks-on : (d u : Table) (g : ℕ) (now : Option Txn) (outs : List Out) → At d u g now → (stage now ≡ Closing → IsClosing d g ⊎ AreAsked outs g) → Goes d → Asks u outs
  asks-on d u g now outs a here e = record { closing = λ h q. by_test h (eqb h g) refl (sym (ap stage (a.finds h)) ∙ q) }
    where
      by_here : IsClosing d g ⊎ AreAsked outs g → IsClosing start g ⊎ AreAsked outs g
      by_here (inl q) = inl (e.closing g q)
      by_here (inr q) = inr q

      by_test : (h : ℕ) (b : Bool) → eqb h g ≡ b → stage (if b then now else find_txn d (gx h)) ≡ Closing → IsClosing start h ⊎ AreAsked outs h
      by_test h true same q = subst (λ k. IsClosing start k ⊎ AreAsked outs k) (sym (eqb-true h g same)) (by_here (here q))
      by_test h false same q = inl (e.closing h q)

  -- CALLS ON THE TRANSACTIONS
  ended-not : (g : ℕ) (is : List Node) (t : Txn) → stage (left_of (ends_committed (gx g) is).step (Some t)) ≡ Closing → AreAsked (ends_committed (gx g) is).out.outs g
  ended-not g [] t q = absurd (cc)
  ended-not g (i ∷ is) t q = absurd (cc)

  commits-asked : (g : ℕ) (writers : List Node) (t : Txn) → stage (left_of (commits (gx g) writers t).step (Some t)) ≡ Closing → AreAsked (commits (gx g) writers t).out.outs g
  commits-asked g [] t q = ended-not g t.participants t q
  commits-asked g (i ∷ []) t q = λ f. or_left (eqb g g) _ (eqb-self g)
  commits-asked g (i ∷ j ∷ is) t q = λ f. or_left (eqb g g) _ (eqb-self g)

  commit-asked : (g : ℕ) (writers : List Node) (o : Option Txn) → stage (left_of (commit_found (gx g) writers o).step o) ≡ Closing → AreAsked (commit_found (gx g) writers o).out.outs g
  commit-asked g writers None q = absurd (cc)
  commit-asked g writers (Some t) q = commits-asked g writers t q

  pub commit-asks : (d : Table) (g : Gxid) (writers : List Node) → Goes d → Asks (on_commit d g writers).table (on_commit d g writers).out.outs
  commit-asks d g writers e =
      asks-on d (on_commit d g writers).table g.0 (left_of (commit_found g writers (find_txn d g)).step (find_txn d g)) (on_commit d g writers).out.outs
      (changed-at d g.0 (commit_found g writers (find_txn d g)) e.whole) (λ q. inr (commit-asked g.0 writers (find_txn d g) q)) e

  aborts-not : (g : Gxid) (is : List Node) (t : Txn) → stage (left_of (aborts g is).step (Some t)) ≡ Closing → ⊥
  aborts-not g [] t q = cc
  aborts-not g (i ∷ is) t q = cc

  abort-not : (g : Gxid) (o : Option Txn) → stage (left_of (abort_found g o).step o) ≡ Closing → ⊥
  abort-not g None q = cc
  abort-not g (Some t) q = aborts-not g t.participants t q

  pub abort-asks : (d : Table) (g : Gxid) → Goes d → Asks (on_abort d g).table (on_abort d g).out.outs
  abort-asks d g e =
      asks-on d (on_abort d g).table g.0 (left_of (abort_found g (find_txn d g)).step (find_txn d g)) (on_abort d g).out.outs
      (changed-at d g.0 (abort_found g (find_txn d g)) e.whole) (λ q. absurd (abort-not g (find_txn d g) q)) e

  -- an answer brings nobody on its way
  before-moves : (a b : Stage) (o : Outcome) → Moves a b o → b ≡ Closing → a ≡ Closing
  before-moves a b outcome.Pending (inl e) q = sym e ∙ q
  before-moves a b outcome.Pending (inr e) q = absurd (apart (sym e.1 ∙ q))
    where
      apart : Absent ≡ Closing → ⊥
      apart q = cc
  before-moves a b outcome.Decided e q = e.0
  before-moves a b outcome.Committed e q = e.0
  before-moves a b (outcome.Refused i) e q = e.0
  before-moves a b outcome.Ended e q = absurd (apart (sym e.1 ∙ q))
    where
      apart : Absent ≡ Closing → ⊥
      apart q = cc

  pub reply-asks : (d : Table) (g : Gxid) (i : Node) (r : Reply) (fails : Bool) → Goes d → Asks (on_reply d g i r fails).table (on_reply d g i r fails).out.outs
  reply-asks d g i r fails e =
      let t : Turned d g.0 (on_reply d g i r fails) Moves = reply-turns d g.0 i r fails e.whole in
      asks-on d (on_reply d g i r fails).table g.0 t.now (on_reply d g i r fails).out.outs t.at
      (λ q. inl (before-moves (stage (find_txn d g)) (stage t.now) (on_reply d g i r fails).out.outcome t.how q)) e

  -- changes that leave each as it is
  pub live-goes : (d : Table) (g : Gxid) (x : Option Gxid) → Goes d → Goes (with_live d g x)
  live-goes d g x e =
      let a = live-at d g.0 x e.whole in
      goes-on d (with_live d g x) g.0 (option_map (set_live x) (find_txn d g)) a (λ q. sym (kept-stage (set_live x) (λ t. refl) (find_txn d g)) ∙ q) e

  abbrev with_part : Node → Txn → Txn
  with_part i t = record t { participants = with_node i t.participants }

  part-goes : (d : Table) (g : Gxid) (i : Node) → Goes d → Goes (enlisted d g i)
  part-goes d g i e =
      let a = txn-at d g.0 (with_part i) e.whole in
      let b : At d (enlisted d g i) g.0 (option_map (with_part i) (find_txn d g)) =
      record { whole = record { first = a.whole.first; apart = a.whole.apart; drawn = a.whole.drawn }; next = refl; finds = a.finds } in
      goes-on d (enlisted d g i) g.0 (option_map (with_part i) (find_txn d g)) b (λ q. sym (kept-stage (with_part i) (λ t. refl) (find_txn d g)) ∙ q) e

  pub parts-go : (nodes : List Node) (d : Table) (g : Gxid) → Goes d → Goes (enlisted_all d g nodes)
  parts-go [] d g e = e
  parts-go (i ∷ is) d g e = parts-go is (enlisted d g i) g (part-goes d g i e)

  pub begun-goes : (d : Table) → Goes d → Goes (begun d)
  begun-goes d e = record { whole = begun-whole d e.whole; closing = λ h q. by_test h (eqb h d.next.0) refl (sym (ap stage (begun-finds d e.whole h)) ∙ q) }
    where
      by_test : (h : ℕ) (b : Bool) → eqb h d.next.0 ≡ b → stage (if b then Some new_txn else find_txn d (gx h)) ≡ Closing → IsClosing start h
      by_test h true same q = absurd (apart q)
        where
          apart : Live ≡ Closing → ⊥
          apart q = cc
      by_test h false same q = e.closing h q
