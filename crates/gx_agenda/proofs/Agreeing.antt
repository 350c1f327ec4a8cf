-- Cursors agree with no steps, and with one step more.
use Rattle.std.proofs.Common.{◌≡◌, ◌≢◌, ◌⊎◌, inl, inr, ℕ, ◌+◌, ◌*◌, ◌<◌, ◌≤◌, ◌^◌, true, false, cond, refl, sym, ap, ◌∙◌, subst, eqb, List, [], ◌∷◌, ◌++◌, length, arith, ⊎_elim}
use Rattle.std.proofs.lemmas.Bool.{cases_eq}
use Rattle.std.proofs.lemmas.Bool.Decides.{nat_tests}
use Rattle.std.specs.List.{filter, range_with_len}
use Rattle.gx_ids.specs.declared.ids.Node.{Node}
use Rattle.gx_script.specs.declared.Script.{Script}
use Rattle.gx_store.specs.declared.event.Event.TheVariants.{Receive}
use Rattle.gx_store.specs.declared.run.Step.{Step}
use Rattle.gx_store.specs.Ordered.{IsLink, sent_in}
use Rattle.gx_store.specs.Schedule.{deliveries, first_of, is_left, left_on, received_count}
use Rattle.gx_agenda.specs.declared.cursor.Cursor.{Cursor}
use Rattle.gx_agenda.specs.declared.cursors.Cursors.{Cursors}
use Rattle.gx_agenda.specs.declared.faults.Faults.{Faults}
use Rattle.gx_agenda.specs.Agrees.{Agree, IsLinkAt, cursor_at}
use Rattle.gx_agenda.specs.Faults.{AreFaultsOf, Follows}
use Rattle.gx_agenda.specs.FreshLinks.{AreFresh, IsFresh}
use Rattle.gx_agenda.specs.Links.{link_of}
use Rattle.gx_agenda.proofs.Leftovers.{first_left, first_number, left_first, none_left}
use Rattle.gx_agenda.proofs.Numbers.{is_below, isnt_below, stands_inside, stands_pushed}
use Rattle.gx_agenda.proofs.Receipts.{received_elsewhere, received_here, received_other, the_link}
use Rattle.gx_agenda.proofs.LinkStands.{Turns, stands_after, stands_fresh, stands_same}

link_within : (script : Script) (from to : Node) → IsLink script from to → link_of from to < 2 * script.segments + 2
link_within script from to (inl (e, s)) = let z : from.0 ≡ 0 = ap (λ (n : Node). n.0) e in let h = s.1 in below from.0 to.0 script.segments z h
  where
    below : (f t n : ℕ) → f ≡ 0 → t ≤ n → cond (eqb f 0) (2 * t) (2 * f + 1) < 2 * n + 2
    below f t n z h = grind (arith, nat_tests)
link_within script from to (inr (s, e)) = let h = s.1 in let l = s.0 in below from.0 to.0 script.segments l h
  where
    below : (f t n : ℕ) → 1 ≤ f → f ≤ n → cond (eqb f 0) (2 * t) (2 * f + 1) < 2 * n + 2
    below f t n l h = grind (arith, nat_tests)

pub are_fresh_pushed : (faults : Faults) (links : List Cursor) (more : Cursor) → AreFresh faults links → IsFresh faults (length links) more → AreFresh faults (links ++ more ∷ [])
are_fresh_pushed faults links more fresh new link cursor e =
    ⊎_elim (fresh link cursor) (λ (p : (link ≡ length links) × (more ≡ cursor)). subst (λ l. IsFresh faults l cursor) (sym p.0) (subst (IsFresh faults (length links)) p.1 new)) (stands_pushed links more link cursor e)

pub agree_fresh : (script : Script) (cursors : Cursors) → AreFaultsOf script cursors.faults → length cursors.links.items ≡ 2 * script.segments + 2 → AreFresh cursors.faults cursors.links.items → Agree script [] cursors
agree_fresh script cursors known whole fresh =
    let inside : (from to : Node) → IsLink script from to → link_of from to < length cursors.links.items = λ from to link. subst (λ n. link_of from to < n) (sym whole) (link_within script from to link) in
    record {
      faults = known;
      whole = inside;
      links = λ from to link. stands_fresh cursors.faults (link_of from to) (λ n. received_count from to n []) (deliveries script from to) (cursor_at cursors (link_of from to)) (λ n. known from to n link) (λ n. refl)
          (fresh (link_of from to) (cursor_at cursors (link_of from to)) (stands_inside cursors.links.items (link_of from to) _ (inside from to link)));
    }

-- WHAT IS LEFT
module _ (script : Script) (steps : List Step) (from to : Node) (cursor : Cursor) (at : IsLinkAt script steps from to cursor) where
  past : (n : ℕ) → 0 < n → n ≤ cursor.done → is_left script steps from to n ≡ false
  past n low high = isnt_below (received_count from to n steps) (deliveries script from to n) (at.done n low high)

  next : cursor.done + 1 < 2 ^ 64 → is_left script steps from to (cursor.done + 1) ≡ true
  next small = is_below (received_count from to (cursor.done + 1) steps) (deliveries script from to (cursor.done + 1)) (at.next small)

  pub left_next : (sent : ℕ) → sent ≡ sent_in from to steps → sent < 2 ^ 64 → cursor.done < sent → Receive from to (cursor.done + 1) ∷ [] ≡ first_of (left_on script steps from to)
  left_next sent e small more =
      let whole : cursor.done < sent_in from to steps = subst (λ n. cursor.done < n) e more in
      sym (first_left (Receive from to) (is_left script steps from to) (sent_in from to steps) cursor.done past (next (omega arith)) whole)

  pub left_none : (sent : ℕ) → sent ≡ sent_in from to steps → sent ≤ cursor.done → [] ≡ first_of (left_on script steps from to)
  left_none sent e over =
      let whole : sent_in from to steps ≤ cursor.done = subst (λ n. n ≤ cursor.done) e over in
      sym (none_left (Receive from to) (is_left script steps from to) (sent_in from to steps) cursor.done past whole)

  pub the_number : (number : ℕ) → number < 2 ^ 64 → first_of (left_on script steps from to) ≡ Receive from to number ∷ [] → number ≡ cursor.done + 1
  the_number number small first =
      left_first (is_left script steps from to) (sent_in from to steps) cursor.done number past
      (first_number from to number (filter (is_left script steps from to) (range_with_len 1 (sent_in from to steps))) first)
      (λ far. next (omega arith))

-- ONE STEP MORE
-- what a delivery makes of the cursors
pub record Delivers (old new : Cursors) (link : ℕ) (cursor : Cursor) : Type 0 where
  pub faults : new.faults ≡ old.faults
  pub whole : length new.links.items ≡ length old.links.items
  pub here : link < length old.links.items → cursor_at new link ≡ cursor
  pub others : (l : ℕ) → l ≢ link → cursor_at new l ≡ cursor_at old l
  pub follows : (cursor_at old link).done + 1 < 2 ^ 64 → Follows old.faults link (cursor_at old link) cursor

module _ (script : Script) (steps : List Step) (step : Step) (old new : Cursors) (from to : Node) (cursor : Cursor) (number : ℕ) (agree : Agree script steps old) (link : IsLink script from to) (does : Delivers old new (link_of from to) cursor) (small : number < 2 ^ 64) (first : first_of (left_on script steps from to) ≡ Receive from to number ∷ []) (event : step.event ≡ Receive from to number) where
  is_next : number ≡ (cursor_at old (link_of from to)).done + 1
  is_next = the_number script steps from to (cursor_at old (link_of from to)) (agree.links from to link) number small first

  turns : Turns old.faults (link_of from to) (λ n. received_count from to n steps) (λ n. received_count from to n (steps ++ step ∷ [])) (deliveries script from to) (cursor_at old (link_of from to))
  turns =
      record {
        known = λ n. agree.faults from to n link;
        here = subst (λ n. received_count from to n (steps ++ step ∷ []) ≡ received_count from to n steps + 1) is_next (received_here from to number steps step event);
        others = λ n apart. received_other from to n number steps step event (λ same. apart (same ∙ is_next));
        small = subst (λ n. n < 2 ^ 64) is_next small;
        stood = agree.links from to link;
      }

  at_link : IsLinkAt script (steps ++ step ∷ []) from to (cursor_at new (link_of from to))
  at_link =
      subst (IsLinkAt script (steps ++ step ∷ []) from to) (sym (does.here (agree.whole from to link)))
      (stands_after old.faults (link_of from to) (λ n. received_count from to n steps) (λ n. received_count from to n (steps ++ step ∷ [])) (deliveries script from to) (cursor_at old (link_of from to)) turns cursor (does.follows (subst (λ n. n < 2 ^ 64) is_next small)))

  at_other : (f t : Node) → IsLink script f t → link_of f t ≢ link_of from to → IsLinkAt script (steps ++ step ∷ []) f t (cursor_at new (link_of f t))
  at_other f t other apart =
      subst (IsLinkAt script (steps ++ step ∷ []) f t) (sym (does.others (link_of f t) apart))
      (stands_same (λ n. received_count f t n steps) (λ n. received_count f t n (steps ++ step ∷ [])) (deliveries script f t) (cursor_at old (link_of f t)) (λ n. received_elsewhere script from to link f t n number steps step other apart event) (agree.links f t other))

  at_any : (f t : Node) → IsLink script f t → (link_of f t ≡ link_of from to) ⊎ (link_of f t ≢ link_of from to) → IsLinkAt script (steps ++ step ∷ []) f t (cursor_at new (link_of f t))
  at_any f t other (inr apart) = at_other f t other apart
  at_any f t other (inl same) =
      let p : (f ≡ from) × (t ≡ to) = the_link script from to link f t other same in
      subst (λ g. IsLinkAt script (steps ++ step ∷ []) g t (cursor_at new (link_of g t))) (sym p.0) (subst (λ u. IsLinkAt script (steps ++ step ∷ []) from u (cursor_at new (link_of from u))) (sym p.1) at_link)

  pub agree_delivered : Agree script (steps ++ step ∷ []) new
  agree_delivered =
      record {
        faults = subst (AreFaultsOf script) (sym does.faults) agree.faults;
        whole = λ f t other. subst (λ n. link_of f t < n) (sym does.whole) (agree.whole f t other);
        links = λ f t other. at_any f t other (cases_eq (link_of f t) (link_of from to));
      }
