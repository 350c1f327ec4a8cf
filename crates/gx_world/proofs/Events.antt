-- An event that may happen, at its node.
use Rattle.std.proofs.Common.{◌≡◌, ◌<◌, ◌≤◌, ◌⊎◌, inl, inr, ℕ, List, [], ◌∷◌, ◌++◌, Option, Some, None, Bool, true, false, refl, sym, subst, ap, ◌∙◌, if◌then◌else◌, arith, length, append-nil}
use Rattle.std.proofs.lemmas.Bool.Decides.{nat_tests}
use Rattle.std.proofs.lemmas.List.{append_assoc}
use Rattle.std.specs.Prelude.{map, slice_get}
use Rattle.gx_lemmas.proofs.Options.{some-same}
use Rattle.gx_ids.specs.declared.ids.Node.{Node}
use Rattle.gx_msg.specs.ItemBytes.{bytes_of_item}
use Rattle.gx_msg.specs.declared.item.JournalItem.{JournalItem}
use Rattle.gx_msg.specs.declared.message.Envelope.{Envelope}
use Rattle.gx_outside.specs.Shelves.{Shelf}
use Rattle.gx_script.specs.declared.Script.{Script}
use Rattle.gx_store.specs.declared.event.Event.{Event}
use Rattle.gx_store.specs.declared.event.Event.TheVariants as event
use Rattle.gx_store.specs.declared.node.NodeEvent.{NodeEvent}
use Rattle.gx_store.specs.declared.node.NodeEvent.TheVariants as node
use Rattle.gx_store.specs.declared.run.Step.{Step}
use Rattle.gx_store.specs.Journals.{is_same_node}
use Rattle.gx_store.specs.Ordered.{AreOrdered, IsLink, IsOrderedStep}
use Rattle.gx_store.specs.Refusals.{the_coordinator}
use Rattle.gx_rules.specs.Machine as machine
use Rattle.gx_rules.specs.Machine.{Letter, at_node, can, can_here, delivered, does, found, happens, kept_item, node_of, seg_can}
use Rattle.gx_rules.specs.Sending.{heard_in}
use Rattle.gx_law_order.specs.Journals.{item_at, takes}
use Rattle.gx_law_order.proofs.Letters.{IsLetter, found_is}
use Rattle.gx_law_order.proofs.Ordered.{Well, happens_well, resumes_there}
use Rattle.gx_law_runs.specs.Reached.{HasRoomAfter}
use Rattle.gx_law_runs.specs.Replays.{letters_after}
use Rattle.gx_world.specs.declared.network.Network.{Network}
use Rattle.gx_world.specs.Networks.{HasMoved}
use Rattle.gx_world.specs.Turns.{IsNext}
use Rattle.gx_world.specs.Worlds.{HasTaken}
use Rattle.gx_world.proofs.Segs.{get-set}
use Rattle.gx_rules.specs.AtCoordinator.{coord_can}

-- the last of ordered steps
last-ordered : (script : Script) (before ss : List Step) (s : Step) → AreOrdered script before (ss ++ s ∷ []) → IsOrderedStep script (before ++ ss) s
last-ordered script before [] s e = subst (λ xs. IsOrderedStep script xs s) (sym (append-nil before)) e.0
last-ordered script before (x ∷ ss) s e = subst (λ xs. IsOrderedStep script xs s) (append_assoc before (x ∷ []) ss) (last-ordered script (before ++ x ∷ []) ss s e.1)

-- A DELIVERY
received : (here : NodeEvent) (sent : List Letter) (from to : Node) (number : ℕ) → delivered from (found from to number sent) ≡ Some here → (o : Option Envelope) → found from to number sent ≡ o → (envelope : Envelope) × ((found from to number sent ≡ Some envelope) × (here ≡ node.Deliver from envelope))
received here sent from to number d None f = absurd (nothing (subst (λ o. delivered from o ≡ Some here) f d))
  where
    nothing : None ≡ Some here → ⊥
    nothing h = (cc)
received here sent from to number d (Some envelope) f = (envelope, (f, sym (some-same _ _ (subst (λ o. delivered from o ≡ Some here) f d))))

-- what is heard has no clock above the number of steps
pub heard-within : (script : Script) (steps : List Step) (room : HasRoomAfter script steps) (w : machine.World) → w.sent ≡ letters_after steps → (here : NodeEvent) (d : Event) → at_node w d ≡ Some here → heard_in here ≤ length steps
heard-within script steps room w same here (event.Receive from to number) h =
    let r = received here w.sent from to number h (found from to number w.sent) refl in
    subst (λ x. heard_in x ≤ length steps) (sym r.1.1) (room.heard from to number r.0 (ap (found from to number) (sym same) ∙ r.1.0))
heard-within script steps room w same here (event.Resume n g) h = subst (λ x. heard_in x ≤ length steps) (some-same (node.Resume g) here h) (omega arith)
heard-within script steps room w same here (event.Start s) h = subst (λ x. heard_in x ≤ length steps) (some-same (node.Start s) here h) (omega arith)
heard-within script steps room w same here (event.End s) h = subst (λ x. heard_in x ≤ length steps) (some-same (node.End s) here h) (omega arith)
heard-within script steps room w same here (event.Resend i g) h = subst (λ x. heard_in x ≤ length steps) (some-same (node.Resend i g) here h) (omega arith)
heard-within script steps room w same here event.Round h = subst (λ x. heard_in x ≤ length steps) (some-same node.Round here h) (omega arith)
heard-within script steps room w same here (event.Restart n) h = absurd (cc)

module _ (script : Script) (w : machine.World) (e : Event) (here : NodeEvent) (there : at_node w e ≡ Some here) (admitted : can script w e ≡ true) where
  pub admitted-here : can_here script w (node_of e) (Some here) ≡ true
  admitted-here = subst (λ o. can_here script w (node_of e) o ≡ true) there admitted

  abbrev outcome : Bool → Bool → Option NodeEvent → machine.World
  outcome b fails o = if b then does script w e (node_of e) fails o else w

  pub happens-here : (fails : Bool) → happens script w e fails ≡ does script w e (node_of e) fails (Some here)
  happens-here fails = ap (λ b. outcome b fails (at_node w e)) admitted ∙ ap (λ o. outcome true fails o) there

  -- THE JOURNALS
  abbrev added : Bool → Bool → Bool → Option NodeEvent → List JournalItem
  added b fails same o = if b then (if same then kept_item fails (item_at script w (node_of e) fails o) else []) else []

  takes-here : (fails : Bool) (n : Node) (b : Bool) → is_same_node (node_of e) n ≡ b → takes script w e fails n ≡ (if b then kept_item fails (item_at script w (node_of e) fails (Some here)) else [])
  takes-here fails n b same =
      ap (λ c. added c fails (is_same_node (node_of e) n) (at_node w e)) admitted ∙ ap (λ o. added true fails (is_same_node (node_of e) n) o) there ∙ ap (λ c. added true fails c (Some here)) same

  test-at : (a b : Node) → b.0 ≡ a.0 → is_same_node a b ≡ true
  test-at a b h = grind (arith, nat_tests)

  test-apart : (a b : Node) → (b.0 ≡ a.0 → ⊥) → is_same_node a b ≡ false
  test-apart a b h = grind (arith, nat_tests)

  not-both : {b : Bool} → b ≡ true → b ≡ false → ⊥
  not-both h k = absurd (cc)

  pub taken : (new : Network) (before after : List Shelf) (m : HasMoved script w e (node_of e) here new before after) (n : Node) (b a : Shelf) → slice_get before n.0 ≡ Some b → slice_get after n.0 ≡ Some a → HasTaken script w e m.fails n b a
  taken new before after m n b a was now = by_place (get-set before (node_of e).0 n.0 m.now a (subst (λ xs. slice_get xs n.0 ≡ Some a) m.journals now))
    where
      own : n.0 ≡ (node_of e).0 → b ≡ m.was
      own same = some-same b m.was (sym was ∙ subst (λ k. slice_get before k ≡ Some m.was) (sym same) m.there)

      by_place : ((n.0 ≡ (node_of e).0) × (a ≡ m.now)) ⊎ ((n.0 ≡ (node_of e).0 → ⊥) × (slice_get before n.0 ≡ Some a)) → HasTaken script w e m.fails n b a
      by_place (inl h) =
          record {
            items = ap (λ (x : Shelf). x.items) h.1 ∙ m.took.items ∙ ap (λ (x : Shelf). x.items ++ map bytes_of_item (kept_item m.fails (item_at script w (node_of e) m.fails (Some here)))) (sym (own h.0))
                ∙ ap (λ xs. b.items ++ map bytes_of_item xs) (sym (takes-here m.fails n true (test-at (node_of e) n h.0)));
            caused = λ same f. subst (λ (x : Shelf). x.faults < a.faults) (sym (own h.0)) (subst (λ (x : Shelf). m.was.faults < x.faults) (sym h.1) (m.took.caused f));
            calm = λ f. ap (λ (x : Shelf). x.faults) h.1 ∙ m.took.calm f ∙ ap (λ (x : Shelf). x.faults) (sym (own h.0));
            faults = λ apart. absurd (not-both (test-at (node_of e) n h.0) apart);
          }
      by_place (inr h) =
          record {
            items = ap (λ (x : Shelf). x.items) (kept h.1) ∙ sym (append-nil b.items) ∙ ap (λ xs. b.items ++ map bytes_of_item xs) (sym (takes-here m.fails n false (test-apart (node_of e) n h.0)));
            caused = λ same f. absurd (not-both same (test-apart (node_of e) n h.0));
            calm = λ f. ap (λ (x : Shelf). x.faults) (kept h.1);
            faults = λ apart. ap (λ (x : Shelf). x.faults) (kept h.1);
          }
        where
          kept : slice_get before n.0 ≡ Some a → a ≡ b
          kept x = some-same a b (sym x ∙ was)

module _ (script : Script) (some : 1 ≤ script.segments) (w : machine.World) (good : Well script w) (e : Event) (here : NodeEvent) (there : at_node w e ≡ Some here) (admitted : can script w e ≡ true) where
  pub next-here : IsNext script w e (node_of e) here
  next-here fails step steps = record { at = last.marks; numbers = last.numbers }
    where
      ordered : AreOrdered script [] (does script w e (node_of e) fails (Some here)).steps
      ordered = subst (λ v. AreOrdered script [] v.steps) (happens-here script w e here there admitted fails) (happens_well script some w e fails good).steps

      last : IsOrderedStep script w.steps step
      last = last-ordered script [] w.steps step (subst (AreOrdered script []) steps ordered)

  link-target : (from to : Node) → IsLink script from to → to.0 ≤ script.segments
  link-target from to (inl h) = h.1.1
  link-target from to (inr h) = least to h.1
    where
      least : (n : Node) → n ≡ the_coordinator → n.0 ≤ script.segments
      least n same = subst (λ (m : Node). m.0 ≤ script.segments) (sym same) (omega arith)

  few-by : (d : Event) → at_node w d ≡ Some here → can_here script w (node_of d) (Some here) ≡ true → (node_of d).0 ≤ script.segments
  few-by (event.Receive from to number) h c =
      let r = received here w.sent from to number h (found from to number w.sent) refl in
      let f = found_is (IsLetter script w.steps) from to number w.sent r.0 good.letters r.1.0 in
      subst (λ (n : Node). n.0 ≤ script.segments) f.target (link-target f.letter.from f.letter.to f.is.link)
  few-by (event.Resume n g) h c = by_test (is_same_node n the_coordinator) refl (subst (λ x. can_here script w n (Some x) ≡ true) (sym (some-same (node.Resume g) here h)) c)
    where
      least : (n : Node) → is_same_node n the_coordinator ≡ true → n.0 ≤ script.segments
      least n same = grind (arith, nat_tests)

      by_test : (b : Bool) → is_same_node n the_coordinator ≡ b → (if b then coord_can script w.coord (node.Resume g) else seg_can script (w.segs n.0) (node.Resume g)) ≡ true → n.0 ≤ script.segments
      by_test true same c = least n same
      by_test false away c = (resumes_there script w n g good c).1
  few-by (event.Start s) h c = omega arith
  few-by (event.End s) h c = omega arith
  few-by (event.Resend i g) h c = omega arith
  few-by event.Round h c = omega arith
  few-by (event.Restart n) h c = absurd (cc)

  pub few-here : (node_of e).0 ≤ script.segments
  few-here = few-by e there (admitted-here script w e here there admitted)
