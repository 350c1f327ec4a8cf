-- Each kind of step keeps the rule of a link's queue.
use Rattle.std.proofs.Common.{◌≡◌, ◌≢◌, ℕ, zero, suc, ◌<◌, ◌≤◌, ◌^◌, List, [], ◌∷◌, ◌++◌, length, set, sym, refl, ap, ◌∙◌, subst, ⊎_elim, ◌⊎◌, inl, inr, append_assoc, length-append, length-set, arith}
use Rattle.std.proofs.lemmas.Bool.Decides.{nat_tests}
use mathlib.Core.Option.{some, some-ne-none, some-injective}
use lib.ListN.{get_elem?}
use Rattle.atomic_table.proofs.Lists.{at_set}
use Rattle.crossbeam_queue.specs.Fifo.{Pushes, Pops, Forks, Merges, Learns}
use Rattle.gx_msg.specs.declared.message.Envelope.{Envelope}
use Rattle.gx_links.specs.declared.roles.View.{View}
use Rattle.gx_links.specs.declared.roles.View.TheVariants.{First, Sender, Receiver, Closed, Spent}
use Rattle.gx_links.specs.Views.{sent_by, received_by, HasSent, HasReceived, IsBehind, IsLeft}
use Rattle.gx_links.specs.Rule.{Stage, New, Open, Shut, view_at, sent_in, received_in, AreSeated, IsLinked}

-- WHAT A VIEW SAYS OF THE STAGE
first-stage : (stage : Stage) (pass : ℕ) → First ≡ view_at stage pass → stage ≡ New pass
first-stage (New first) pass e = let same : first ≡ pass = grind (arith, nat_tests) in ap New same
first-stage (Open sender receiver sent received) pass e = absurd (grind (arith, nat_tests))
first-stage (Shut closed sent received) pass e = absurd (grind (arith, nat_tests))

sender-stage : (stage : Stage) (pass : ℕ) (sent : List Envelope) → Sender sent ≡ view_at stage pass → (receiver : ℕ) × (received : List Envelope) × (stage ≡ Open pass receiver sent received)
sender-stage (New first) pass sent e = absurd (grind (arith, nat_tests))
sender-stage (Open sender receiver sent' received) pass sent e =
    let same : sender ≡ pass = grind (arith, nat_tests) in
    let list : sent' ≡ sent = grind (arith, nat_tests) in (receiver, received, λ i. Open (same i) receiver (list i) received)
sender-stage (Shut closed sent' received) pass sent e = absurd (grind (arith, nat_tests))

receiver-stage : (stage : Stage) (pass : ℕ) (received : List Envelope) → Receiver received ≡ view_at stage pass → (sender : ℕ) × (sent : List Envelope) × (stage ≡ Open sender pass sent received)
receiver-stage (New first) pass received e = absurd (grind (arith, nat_tests))
receiver-stage (Open sender receiver sent received') pass received e =
    let same : receiver ≡ pass = grind (arith, nat_tests) in
    let list : received' ≡ received = grind (arith, nat_tests) in (sender, sent, λ i. Open sender (same i) sent (list i))
receiver-stage (Shut closed sent received') pass received e = absurd (grind (arith, nat_tests))

closed-stage : (stage : Stage) (pass : ℕ) (sent received : List Envelope) → Closed sent received ≡ view_at stage pass → stage ≡ Shut pass sent received
closed-stage (New first) pass sent received e = absurd (grind (arith, nat_tests))
closed-stage (Open sender receiver sent' received') pass sent received e = absurd (grind (arith, nat_tests))
closed-stage (Shut closed sent' received') pass sent received e =
    let same : closed ≡ pass = grind (arith, nat_tests) in
    let list : sent' ≡ sent = grind (arith, nat_tests) in
    let other : received' ≡ received = grind (arith, nat_tests) in λ i. Shut (same i) (list i) (other i)

-- the same link, at the stage that is known
abbrev at-stage : (held : List Envelope) (views : List View) (h : IsLinked held views) (stage : Stage) → h.stage ≡ stage → IsLinked held views
at-stage held views h stage e = record {
  stage = stage;
  seated = subst (λ (s : Stage). AreSeated s (length views)) e h.seated;
  known = λ pass view at. h.known pass view at ∙ ap (λ (s : Stage). view_at s pass) e;
  flows = subst (λ (s : Stage). sent_in s ≡ received_in s ++ held) e h.flows;
  few = subst (λ (s : Stage). length (sent_in s) ≤ 2 ^ 63) e h.few;
}

-- one pass's view becomes another, and the others know what they knew
known-set : (views : List View) (pass : ℕ) (new : View) (old stage : Stage) → new ≡ view_at stage pass → ((j : ℕ) → j ≢ pass → view_at old j ≡ view_at stage j) → ((j : ℕ) (view : View) → get_elem? views j ≡ some view → view ≡ view_at old j)
    → (j : ℕ) (view : View) → get_elem? (set views pass new) j ≡ some view → view ≡ view_at stage j
known-set views pass new old stage own others known j view at =
    ⊎_elim (λ (x : (j ≡ pass) × (new ≡ view)). sym x.1 ∙ own ∙ ap (view_at stage) (sym x.0)) (λ (x : (j ≢ pass) × (get_elem? views j ≡ some view)). known j view x.1 ∙ others j x.0) (at_set views pass j new view at)

-- THE STEPS
pub begins : IsLinked [] (First ∷ [])
begins = record {
  stage = New 0;
  seated = omega arith;
  known = one-known;
  flows = refl;
  few = omega arith;
}
  where
    one-known : (pass : ℕ) (view : View) → get_elem? (First ∷ []) pass ≡ some view → view ≡ view_at (New 0) pass
    one-known zero view at = sym (some-injective First view at)
    one-known (suc pass) view at = absurd (some-ne-none view (sym at))

sent-others : (pass receiver j : ℕ) (sent more received : List Envelope) → j ≢ pass → view_at (Open pass receiver sent received) j ≡ view_at (Open pass receiver more received) j
sent-others pass receiver j sent more received ne = grind (arith, nat_tests)

sent-own : (pass receiver : ℕ) (sent received : List Envelope) → Sender sent ≡ view_at (Open pass receiver sent received) pass
sent-own pass receiver sent received = grind (arith, nat_tests)

received-others : (sender pass j : ℕ) (sent received more : List Envelope) → j ≢ pass → view_at (Open sender pass sent received) j ≡ view_at (Open sender pass sent more) j
received-others sender pass j sent received more ne = grind (arith, nat_tests)

received-own : (sender pass : ℕ) (sent received : List Envelope) → sender ≢ pass → Receiver received ≡ view_at (Open sender pass sent received) pass
received-own sender pass sent received ne = grind (arith, nat_tests)

pub pushes : (n pass : ℕ) (v : View) (m : Envelope) → v ≡ Sender (sent_by v) → length (sent_by v) < 2 ^ 63 → Pushes IsLinked n pass v m (HasSent v m)
pushes n pass v m is few held views room h at =
    let sent : List Envelope = sent_by v in
    let found = sender-stage h.stage pass sent (sym is ∙ h.known pass v at) in
    let receiver : ℕ = found.0 in
    let received : List Envelope = found.1 in
    let was : IsLinked held views = at-stage held views h (Open pass receiver sent received) found.2 in
    let more : List Envelope = sent ++ m ∷ [] in
    let new : View = Sender more in (
      new,
      record {
        stage = Open pass receiver more received;
        seated = subst (λ k. (pass < k) × (receiver < k) × (pass ≢ receiver)) (sym (length-set views pass new)) was.seated;
        known = known-set views pass new (Open pass receiver sent received) (Open pass receiver more received) (sent-own pass receiver more received) (λ j. sent-others pass receiver j sent more received) was.known;
        flows = ap (λ l. l ++ m ∷ []) was.flows ∙ append_assoc received held (m ∷ []);
        few = omega (arith, length-append sent (m ∷ []));
      },
      refl,
    )

pub pops : (pass : ℕ) (v : View) → v ≡ Receiver (received_by v) → Pops IsLinked pass v (HasReceived v)
pops pass v is m held views h at =
    let received : List Envelope = received_by v in
    let found = receiver-stage h.stage pass received (sym is ∙ h.known pass v at) in
    let sender : ℕ = found.0 in
    let sent : List Envelope = found.1 in
    let was : IsLinked (m ∷ held) views = at-stage (m ∷ held) views h (Open sender pass sent received) found.2 in
    let more : List Envelope = received ++ m ∷ [] in
    let new : View = Receiver more in
    let long = ap length was.flows in
    let few = was.few in
    let room : length received < 2 ^ 63 = omega (arith, length-append received (m ∷ held)) in (
      new,
      record {
        stage = Open sender pass sent more;
        seated = subst (λ k. (sender < k) × (pass < k) × (sender ≢ pass)) (sym (length-set views pass new)) was.seated;
        known = known-set views pass new (Open sender pass sent received) (Open sender pass sent more) (received-own sender pass sent more was.seated.2) (λ j. received-others sender pass j sent received more) was.known;
        flows = was.flows ∙ sym (append_assoc received (m ∷ []) held);
        few = was.few;
      },
      (refl, room),
    )

pub looks : (pass : ℕ) (v : View) → v ≡ Receiver (received_by v) → Learns IsLinked pass v (IsBehind v)
looks pass v is held views h at =
    let found = receiver-stage h.stage pass (received_by v) (sym is ∙ h.known pass v at) in
    let was : IsLinked held views = at-stage held views h (Open found.0 pass found.1 (received_by v)) found.2 in (found.1, was.flows)

pub looks-last : (pass : ℕ) (v : View) (sent received : List Envelope) → v ≡ Closed sent received → Learns IsLinked pass v (IsLeft v)
looks-last pass v sent received is held views h at =
    let was : IsLinked held views = at-stage held views h (Shut pass sent received) (closed-stage h.stage pass sent received (sym is ∙ h.known pass v at)) in
    ap sent_by is ∙ was.flows ∙ ap (λ (u : View). received_by u ++ held) (sym is)

-- one more pass at the end
at-end : (views : List View) (new view : View) (j : ℕ) → get_elem? (views ++ new ∷ []) j ≡ some view → (get_elem? views j ≡ some view) ⊎ ((j ≡ length views) × (new ≡ view))
at-end [] new view zero at = inr (refl, some-injective new view at)
at-end [] new view (suc j) at = absurd (some-ne-none view (sym at))
at-end (x ∷ xs) new view zero at = inl at
at-end (x ∷ xs) new view (suc j) at = ⊎_elim inl (λ (last : (j ≡ length xs) × (new ≡ view)). inr (ap suc last.0, last.1)) (at-end xs new view j at)

within : (views : List View) (j : ℕ) (view : View) → get_elem? views j ≡ some view → j < length views
within [] j view at = absurd (some-ne-none view (sym at))
within (x ∷ xs) zero view at = omega arith
within (x ∷ xs) (suc j) view at = let inside = within xs j view at in omega arith

first-others : (pass last j : ℕ) → j ≢ pass → j < last → view_at (New pass) j ≡ view_at (Open pass last [] []) j
first-others pass last j ne inside = grind (arith, nat_tests)

pub forks : (pass : ℕ) (v : View) → v ≡ First → Forks IsLinked pass v (Sender []) (Receiver [])
forks pass v is held views h at =
    let was : IsLinked held views = at-stage held views h (New pass) (first-stage h.stage pass (sym is ∙ h.known pass v at)) in
    let set_views : List View = set views pass (Sender []) in
    let last : ℕ = length set_views in
    let inside : pass < last = rw (length-set views pass (Sender [])) was.seated in
    let apart : pass ≢ last = λ e. omega arith in
    let stage : Stage = Open pass last [] [] in
    let old = λ (j : ℕ) (view : View) (there : get_elem? set_views j ≡ some view).
    ⊎_elim
    (λ (x : (j ≡ pass) × (Sender [] ≡ view)). sym x.1 ∙ sent-own pass last [] [] ∙ ap (view_at stage) (sym x.0))
    (λ (x : (j ≢ pass) × (get_elem? views j ≡ some view)). was.known j view x.1 ∙ first-others pass last j x.0 (within set_views j view there))
    (at_set views pass j (Sender []) view there) in
    let one_more = length-append set_views (Receiver [] ∷ []) in
    let sender_there : pass < length (set_views ++ Receiver [] ∷ []) = omega arith in
    let receiver_there : last < length (set_views ++ Receiver [] ∷ []) = omega arith in
    record {
      stage = stage;
      seated = (sender_there, receiver_there, apart);
      known = λ j view there.
          ⊎_elim
          (old j view)
          (λ (end : (j ≡ last) × (Receiver [] ≡ view)). sym end.1 ∙ received-own pass last [] [] apart ∙ ap (view_at stage) (sym end.0))
          (at-end set_views (Receiver []) view j there);
      flows = was.flows;
      few = omega arith;
    }

join-others : (pass other j : ℕ) (sent received : List Envelope) → j ≢ pass → j ≢ other → view_at (Open pass other sent received) j ≡ view_at (Shut pass sent received) j
join-others pass other j sent received ne apart = grind (arith, nat_tests)

closed-own : (pass : ℕ) (sent received : List Envelope) → Closed sent received ≡ view_at (Shut pass sent received) pass
closed-own pass sent received = grind (arith, nat_tests)

spent-own : (pass other : ℕ) (sent received : List Envelope) → other ≢ pass → Spent ≡ view_at (Shut pass sent received) other
spent-own pass other sent received ne = grind (arith, nat_tests)

receiver-seat : (sender receiver pass : ℕ) (sent received known : List Envelope) → Receiver known ≡ view_at (Open sender receiver sent received) pass → Open sender receiver sent received ≡ Open sender pass sent known
receiver-seat sender receiver pass sent received known e =
    let same : receiver ≡ pass = grind (arith, nat_tests) in
    let list : received ≡ known = grind (arith, nat_tests) in λ i. Open sender (same i) sent (list i)

pub merges : (pass : ℕ) (v : View) (other : ℕ) (u : View) → v ≡ Sender (sent_by v) → u ≡ Receiver (received_by u) → Merges IsLinked pass v other u (Closed (sent_by v) (received_by u)) Spent
merges pass v other u is is' held views h at ne at' =
    let sent : List Envelope = sent_by v in
    let received : List Envelope = received_by u in
    let both : View = Closed sent received in
    let found = sender-stage h.stage pass sent (sym is ∙ h.known pass v at) in
    let half : IsLinked held views = at-stage held views h (Open pass found.0 sent found.1) found.2 in
    let there : get_elem? views other ≡ some u =
    ⊎_elim (λ (x : (other ≡ pass) × (both ≡ u)). absurd (ne x.0)) (λ (x : (other ≢ pass) × (get_elem? views other ≡ some u)). x.1) (at_set views pass other both u at') in
    let was : IsLinked held views = at-stage held views half (Open pass other sent received) (receiver-seat pass found.0 other sent found.1 received (sym is' ∙ half.known other u there)) in
    let stage : Stage = Shut pass sent received in
    record {
      stage = stage;
      seated = subst (λ k. pass < k) (sym (length-set (set views pass both) other Spent ∙ length-set views pass both)) was.seated.0;
      known = λ j view now.
          ⊎_elim
          (λ (x : (j ≡ other) × (Spent ≡ view)). sym x.1 ∙ spent-own pass other sent received ne ∙ ap (view_at stage) (sym x.0))
          (λ (x : (j ≢ other) × (get_elem? (set views pass both) j ≡ some view)).
          ⊎_elim
          (λ (y : (j ≡ pass) × (both ≡ view)). sym y.1 ∙ closed-own pass sent received ∙ ap (view_at stage) (sym y.0))
          (λ (y : (j ≢ pass) × (get_elem? views j ≡ some view)). was.known j view y.1 ∙ join-others pass other j sent received y.0 x.0)
          (at_set views pass j both view x.1))
          (at_set (set views pass both) other j Spent view now);
      flows = was.flows;
      few = was.few;
    }
