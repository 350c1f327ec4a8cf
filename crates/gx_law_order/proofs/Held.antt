-- Whoever has a transaction at a segment that has not ended there is waited for by the coordinator: the table.
use Rattle.std.proofs.Common.{◌≡◌, ◌⊎◌, inl, inr, ℕ, List, [], ◌∷◌, Option, Some, None, Bool, true, false, refl, sym, subst, ap, ◌∙◌, if◌then◌else◌, ◌&&◌, eqb}
use Rattle.std.proofs.lemmas.Bool.{and_from, and_parts, eqb-true, or_right}
use Rattle.std.specs.Prelude.{option_map}
use Rattle.gx_lemmas.proofs.Numbers.{eqb-self}
use Rattle.gx_lemmas.proofs.Tests.{true-false}
use Rattle.gx_ids.specs.declared.ids.Gxid.{Gxid}
use Rattle.gx_ids.specs.declared.ids.Node.{Node}
use Rattle.gx_dtx.specs.Nodes.{has, with_node, without}
use Rattle.gx_dtx.specs.Rules.{abort_found, aborts, begun, changed, commit_found, commits as commit_change, decides, ends_committed, enlisted, finishes, forgets, gives_up, is_awaited as is_awaited_in, moved, prepares, refuses, reply_found, stays, takes, with_live}
use Rattle.gx_dtx.specs.Table.{Table, find_txn, new_txn}
use Rattle.gx_dtx.specs.declared.change.Change.{Change}
use Rattle.gx_dtx.specs.declared.phase.Phase.{Phase as Status}
use Rattle.gx_dtx.specs.declared.phase.Phase.TheVariants as status
use Rattle.gx_dtx.specs.declared.txn.Txn.{Txn}
use Rattle.gx_msg.specs.declared.reply.Reply.{Reply}
use Rattle.gx_msg.specs.declared.reply.Reply.TheVariants as reply
use Rattle.gx_law_order.proofs.Closings.{live-at, set_live}
use Rattle.gx_law_order.proofs.Ends.{begun-finds}
use Rattle.gx_law_order.proofs.Lines.{undrawn}
use Rattle.gx_law_order.proofs.Stages.{At, changed-at, left_of, txn-at}
use Rattle.gx_law_order.specs.Stages.{IsWhole}
use Rattle.gx_law_order.specs.Standings.{at, gx}
use Rattle.gx_law_order.proofs.Nodes.{has-with, has-without}

-- the segment is waited for
abbrev pub is_awaited_at : Status → ℕ → Bool
is_awaited_at (status.Ended awaited) i = has (at i) awaited
is_awaited_at (status.Aborting awaited) i = has (at i) awaited
is_awaited_at _ i = true

abbrev pub is_held : Option Txn → ℕ → Bool
is_held None i = false
is_held (Some t) i = has (at i) t.participants && is_awaited_at t.phase i

abbrev pub held_in : Table → ℕ → ℕ → Bool
held_in d i g = is_held (find_txn d (gx g)) i

-- `E i g`: the transaction has ended at the segment
module _ (E : ℕ → ℕ → Bool) where
  abbrev pub GoesOn : Table → Table → Type 0
  GoesOn d u = (i g : ℕ) → held_in d i g ≡ true → (held_in u i g ≡ true) ⊎ (E i g ≡ true)

  -- of one transaction
  abbrev pub KeepsHeld : ℕ → Option Txn → Option Txn → Type 0
  KeepsHeld g a b = (i : ℕ) → is_held a i ≡ true → (is_held b i ≡ true) ⊎ (E i g ≡ true)

  pub held-at : (d u : Table) (g : ℕ) (now : Option Txn) → At d u g now → KeepsHeld g (find_txn d (gx g)) now → GoesOn d u
  held-at d u g now a k i h e = by_same (eqb h g) refl
    where
      by_same : (b : Bool) → eqb h g ≡ b → (held_in u i h ≡ true) ⊎ (E i h ≡ true)
      by_same true q =
          subst (λ j. (held_in u i j ≡ true) ⊎ (E i j ≡ true)) (sym (eqb-true h g q))
          (subst (λ o. (is_held o i ≡ true) ⊎ (E i g ≡ true)) (sym (a.finds g ∙ ap (λ b. if b then now else find_txn d (gx g)) (eqb-self g))) (k i (subst (λ j. held_in d i j ≡ true) (eqb-true h g q) e)))
      by_same false q = inl (ap (λ o. is_held o i) (a.finds h ∙ ap (λ b. if b then now else find_txn d (gx h)) q) ∙ e)

  -- with the same phase and participants
  same-held : (g : ℕ) (f : Txn → Txn) → ((t : Txn) → (f t).phase ≡ t.phase) → ((t : Txn) (i : ℕ) → has (at i) t.participants ≡ true → has (at i) (f t).participants ≡ true) → (o : Option Txn) → KeepsHeld g o (option_map f o)
  same-held g f p q None i e = inl e
  same-held g f p q (Some t) i e =
      let x = and_parts (has (at i) t.participants) (is_awaited_at t.phase i) e in
      inl (and_from (has (at i) (f t).participants) (is_awaited_at (f t).phase i) (q t i x.0) (ap (λ s. is_awaited_at s i) (p t) ∙ x.1))

  pub live-held : (d : Table) (g : ℕ) (x : Option Gxid) → IsWhole d → GoesOn d (with_live d (gx g) x)
  live-held d g x w = held-at d (with_live d (gx g) x) g (option_map (set_live x) (find_txn d (gx g))) (live-at d g x w) (same-held g (set_live x) (λ t. refl) (λ t i e. e) (find_txn d (gx g)))

  pub one-held : (d : Table) (g : ℕ) (j : Node) → IsWhole d → GoesOn d (enlisted d (gx g) j)
  one-held d g j w =
      let f : Txn → Txn = λ x. record x { participants = with_node j x.participants } in
      let a = txn-at d g f w in
      held-at d (enlisted d (gx g) j) g (option_map f (find_txn d (gx g))) (record { whole = record { first = a.whole.first; apart = a.whole.apart; drawn = a.whole.drawn }; next = refl; finds = a.finds })
      (same-held g f (λ t. refl) (λ t i e. has-with (at i) j t.participants ∙ or_right (eqb j.0 i) (has (at i) t.participants) e) (find_txn d (gx g)))

  pub begun-held : (d : Table) → IsWhole d → GoesOn d (begun d)
  begun-held d w i h e = by_same (eqb h d.next.0) refl
    where
      by_same : (b : Bool) → eqb h d.next.0 ≡ b → (held_in (begun d) i h ≡ true) ⊎ (E i h ≡ true)
      by_same true q = absurd (true-false (held_in d i h) e (ap (λ j. held_in d i j) (eqb-true h d.next.0 q) ∙ ap (λ o. is_held o i) (undrawn d w)))
      by_same false q = inl (ap (λ o. is_held o i) (begun-finds d w h ∙ ap (λ b. if b then Some new_txn else find_txn d (gx h)) q) ∙ e)

  -- CHANGES
  abbrev pub ChangeHeld : ℕ → Option Txn → Change → Type 0
  ChangeHeld g o ch = KeepsHeld g o (left_of ch.step o)

  -- to a phase that waits for each participant
  goes-held : (g : ℕ) (t : Txn) (p : Status) → ((i : ℕ) → has (at i) t.participants ≡ true → is_awaited_at p i ≡ true) → KeepsHeld g (Some t) (Some (moved p t))
  goes-held g t p f i e = let x = and_parts (has (at i) t.participants) (is_awaited_at t.phase i) e in inl (and_from (has (at i) t.participants) (is_awaited_at p i) x.0 (f i x.0))

  gone-held : (g : ℕ) (t : Txn) → t.participants ≡ [] → KeepsHeld g (Some t) None
  gone-held g t q i e = absurd (true-false (has (at i) t.participants) (and_parts (has (at i) t.participants) (is_awaited_at t.phase i) e).0 (ap (has (at i)) q))

  ended-held : (g : ℕ) (t : Txn) (ps : List Node) → t.participants ≡ ps → ChangeHeld g (Some t) (ends_committed (gx g) ps)
  ended-held g t [] q = gone-held g t q
  ended-held g t (x ∷ xs) q = goes-held g t (status.Ended (x ∷ xs)) (λ i e. ap (has (at i)) (sym q) ∙ e)

  refused-held : (g : ℕ) (t : Txn) (j : Node) → ChangeHeld g (Some t) (refuses (gx g) t.participants j)
  refused-held g t j = goes-held g t (status.Aborting t.participants) (λ i e. e)

  commits-held : (g : ℕ) (ws : List Node) (t : Txn) → ChangeHeld g (Some t) (commit_change (gx g) ws t)
  commits-held g [] t = ended-held g t t.participants refl
  commits-held g (x ∷ []) t = goes-held g t (status.CommittingOne x) (λ i e. refl)
  commits-held g (x ∷ y ∷ ws) t = goes-held g t (status.Preparing (x ∷ y ∷ ws) (x ∷ y ∷ ws)) (λ i e. refl)

  pub commit-held : (g : ℕ) (ws : List Node) (o : Option Txn) → ChangeHeld g o (commit_found (gx g) ws o)
  commit-held g ws None = λ i e. inl e
  commit-held g ws (Some t) = commits-held g ws t

  aborts-held : (g : ℕ) (t : Txn) (ps : List Node) → t.participants ≡ ps → ChangeHeld g (Some t) (aborts (gx g) ps)
  aborts-held g t [] q = gone-held g t q
  aborts-held g t (x ∷ xs) q = goes-held g t (status.Aborting (x ∷ xs)) (λ i e. ap (has (at i)) (sym q) ∙ e)

  pub abort-held : (g : ℕ) (o : Option Txn) → ChangeHeld g o (abort_found (gx g) o)
  abort-held g None = λ i e. inl e
  abort-held g (Some t) = aborts-held g t t.participants refl

  -- one who was waited for has ended there
  module _ (g : ℕ) (t : Txn) (j : Node) (aw : List Node) (awaits : (i : ℕ) → is_awaited_at t.phase i ≡ has (at i) aw) (gone : E j.0 g ≡ true) where
    rest-held : (rest : List Node) → without j aw ≡ rest → (i : ℕ) → is_held (Some t) i ≡ true → ((has (at i) t.participants ≡ true) × (has (at i) rest ≡ true)) ⊎ (E i g ≡ true)
    rest-held rest q i e = by_same (eqb j.0 i) refl
      where
        by_same : (b : Bool) → eqb j.0 i ≡ b → ((has (at i) t.participants ≡ true) × (has (at i) rest ≡ true)) ⊎ (E i g ≡ true)
        by_same true s = inr (subst (λ n. E n g ≡ true) (eqb-true j.0 i s) gone)
        by_same false s =
            let x = and_parts (has (at i) t.participants) (is_awaited_at t.phase i) e in
            inl (x.0, ap (has (at i)) (sym q) ∙ has-without (at i) j aw ∙ ap (λ b. if b then false else has (at i) aw) s ∙ sym (awaits i) ∙ x.1)

    left-held : without j aw ≡ [] → KeepsHeld g (Some t) None
    left-held q i e = either (rest-held [] q i e)
      where
        either : ((has (at i) t.participants ≡ true) × (has (at i) [] ≡ true)) ⊎ (E i g ≡ true) → (is_held None i ≡ true) ⊎ (E i g ≡ true)
        either (inl x) = inl x.1
        either (inr x) = inr x

    on-held : (p : Status) (rest : List Node) → without j aw ≡ rest → ((i : ℕ) → is_awaited_at p i ≡ has (at i) rest) → KeepsHeld g (Some t) (Some (moved p t))
    on-held p rest q f i e = either (rest-held rest q i e)
      where
        either : ((has (at i) t.participants ≡ true) × (has (at i) rest ≡ true)) ⊎ (E i g ≡ true) → (is_held (Some (moved p t)) i ≡ true) ⊎ (E i g ≡ true)
        either (inl x) = inl (and_from (has (at i) t.participants) (is_awaited_at p i) x.0 (f i ∙ x.1))
        either (inr x) = inr x

    forgets-held : (rest : List Node) → without j aw ≡ rest → ChangeHeld g (Some t) (forgets rest)
    forgets-held [] q = left-held q
    forgets-held (x ∷ xs) q = on-held (status.Ended (x ∷ xs)) (x ∷ xs) q (λ i. refl)

    gives-up-held : (rest : List Node) → without j aw ≡ rest → ChangeHeld g (Some t) (gives_up rest)
    gives-up-held [] q = left-held q
    gives-up-held (x ∷ xs) q = on-held (status.Aborting (x ∷ xs)) (x ∷ xs) q (λ i. refl)

  decides-held : (g : ℕ) (t : Txn) (ws : List Node) (b : Bool) → ChangeHeld g (Some t) (decides (gx g) ws t.participants b)
  decides-held g t ws false = goes-held g t (status.CommittingTwo ws) (λ i e. refl)
  decides-held g t ws true = refused-held g t (record { 0 = 0 })

  prepares-held : (g : ℕ) (t : Txn) (ws rest : List Node) (b : Bool) → ChangeHeld g (Some t) (prepares (gx g) ws t.participants rest b)
  prepares-held g t ws [] b = decides-held g t ws b
  prepares-held g t ws (x ∷ xs) b = goes-held g t (status.Preparing ws (x ∷ xs)) (λ i e. refl)

  finishes-held : (g : ℕ) (t : Txn) (rest : List Node) → ChangeHeld g (Some t) (finishes (gx g) t.participants rest)
  finishes-held g t [] = ended-held g t t.participants refl
  finishes-held g t (x ∷ xs) = goes-held g t (status.CommittingTwo (x ∷ xs)) (λ i e. refl)

  -- an answer that says that it has ended there
  abbrev pub SaysEnded : ℕ → ℕ → Reply → Type 0
  SaysEnded i g reply.Aborted = E i g ≡ true
  SaysEnded i g reply.Forgotten = E i g ≡ true
  SaysEnded i g _ = Unit {0}

  takes-held : (g : ℕ) (t : Txn) (j : Node) (b : Bool) (p : Status) (r : Reply) → t.phase ≡ p → SaysEnded j.0 g r → ChangeHeld g (Some t) (takes (gx g) t.participants j b p r)
  takes-held g t j b (status.Preparing ws aw) reply.Prepared e s = prepares-held g t ws (without j aw) b
  takes-held g t j b (status.Preparing ws aw) reply.Jfault e s = refused-held g t j
  takes-held g t j b (status.CommittingOne w) reply.Committed e s = ended-held g t t.participants refl
  takes-held g t j b (status.CommittingOne w) reply.Jfault e s = refused-held g t j
  takes-held g t j b (status.CommittingTwo aw) reply.Committed e s = finishes-held g t (without j aw)
  takes-held g t j b (status.Ended aw) reply.Forgotten e s = forgets-held g t j aw (λ i. ap (λ q. is_awaited_at q i) e) s (without j aw) refl
  takes-held g t j b (status.Aborting aw) reply.Aborted e s = gives-up-held g t j aw (λ i. ap (λ q. is_awaited_at q i) e) s (without j aw) refl
  takes-held g t j b p r e s = λ i x. inl x

  pub reply-held : (g : ℕ) (j : Node) (r : Reply) (b : Bool) (o : Option Txn) → SaysEnded j.0 g r → ChangeHeld g o (reply_found (gx g) j r b o)
  reply-held g j r b None s = λ i e. inl e
  reply-held g j r b (Some t) s = by_test (is_awaited_in t.phase j r)
    where
      by_test : (q : Bool) → ChangeHeld g (Some t) (if q then takes (gx g) t.participants j b t.phase r else stays)
      by_test true = takes-held g t j b t.phase r refl s
      by_test false = λ i e. inl e

  pub changed-held : (d : Table) (g : ℕ) (ch : Change) → IsWhole d → ChangeHeld g (find_txn d (gx g)) ch → GoesOn d (changed d (gx g) ch)
  changed-held d g ch w k = held-at d (changed d (gx g) ch) g (left_of ch.step (find_txn d (gx g))) (changed-at d g ch w) k
