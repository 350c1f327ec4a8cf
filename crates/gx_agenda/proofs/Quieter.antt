-- Links on which nothing is left, one step later.
use Rattle.std.proofs.Common.{◌≡◌, ℕ, ◌+◌, ◌<◌, ◌≤◌, ◌==◌, Bool, true, false, cond, List, [], ◌∷◌, ◌++◌, length, get_or, map, not, take, refl, sym, ap, ◌∙◌, subst, arith}
use Rattle.std.proofs.lemmas.Bool.Decides.{nat_tests}
use Rattle.std.proofs.lemmas.List.{take_more}
use Rattle.std.specs.List.{filter, list_any, range_with_len}
use Rattle.std.specs.Prelude.{nat_lt}
use Rattle.gx_ids.specs.declared.ids.Gxid.{Gxid}
use Rattle.gx_ids.specs.declared.ids.Node.{Node}
use Rattle.gx_script.specs.declared.Script.{Script}
use Rattle.gx_store.specs.declared.event.Event.TheVariants.{Receive, Resume}
use Rattle.gx_store.specs.declared.mark.Mark.{Mark}
use Rattle.gx_store.specs.declared.mark.Mark.TheVariants as mark
use Rattle.gx_store.specs.declared.run.Step.{Step}
use Rattle.gx_store.specs.Journals.{is_same_node}
use Rattle.gx_store.specs.Ordered.{sent_count, sent_in}
use Rattle.gx_store.specs.Refusals.{the_coordinator}
use Rattle.gx_store.specs.Schedule.{deliveries, first_of, gxids_of, is_left, is_receipt_of, left_on, received_count, resumptions, waits_of}
use Rattle.gx_waits.specs.Claims.{is_clear}
use Rattle.gx_store.specs.Waits.{holds_at, waits_at}
use Rattle.gx_agenda.specs.declared.quiet.Quiet.{Quiet}
use Rattle.gx_agenda.specs.Quiet.{AreQuiet}
use Rattle.gx_agenda.proofs.Lists.{apart_from, same_from}
use Rattle.gx_agenda.proofs.Receipts.{received_push}

-- LISTS
map-none : {X Y : Type 0} (f : X → Y) (xs : List X) → map f xs ≡ [] → xs ≡ []
map-none f [] e = refl
map-none f (x ∷ xs) e = absurd (cc)

pub filter-none : {X : Type 0} (p : X → Bool) (xs : List X) → ((x : X) → p x ≡ false) → filter p xs ≡ []
filter-none p [] none = refl
filter-none p (x ∷ xs) none = ap (λ b. cond b (x ∷ filter p xs) (filter p xs)) (none x) ∙ filter-none p xs none

-- where fewer pass, none passes
filter-fewer : {X : Type 0} (p q : X → Bool) → ((x : X) → q x ≡ true → p x ≡ true) → (xs : List X) → filter p xs ≡ [] → filter q xs ≡ []
filter-fewer p q fewer [] e = refl
filter-fewer p q fewer (x ∷ xs) e = by (q x) (p x) refl refl (filter-fewer p q fewer xs) e
  where
    never : {A : Type 0} (y : A) (ys : List A) → y ∷ ys ≡ [] → ⊥
    never y ys f = cc

    clash : false ≡ true → ⊥
    clash f = cc

    by : (b a : Bool) → q x ≡ b → p x ≡ a → (filter p xs ≡ [] → filter q xs ≡ []) → cond a (x ∷ filter p xs) (filter p xs) ≡ [] → cond b (x ∷ filter q xs) (filter q xs) ≡ []
    by true true f g rest none = absurd (never x (filter p xs) none)
    by true false f g rest none = absurd (clash (sym g ∙ fewer x f))
    by false true f g rest none = absurd (never x (filter p xs) none)
    by false false f g rest none = rest none

-- WHAT IS SENT
pub sent-append : (to : Node) (ms ns : List Mark) → sent_count to (ms ++ ns) ≡ sent_count to ms + sent_count to ns
sent-append to [] ns = zero-plus (sent_count to ns)
  where
    zero-plus : (n : ℕ) → n ≡ 0 + n
    zero-plus n = omega arith
sent-append to (mark.Sent t number told ∷ ms) ns = by (is_same_node t to) (sent_count to (ms ++ ns)) (sent_count to ms) (sent_count to ns) (sent-append to ms ns)
  where
    by : (b : Bool) (n x y : ℕ) → n ≡ x + y → cond b (n + 1) n ≡ cond b (x + 1) x + y
    by true n x y e = omega (arith, e)
    by false n x y e = e
sent-append to (m ∷ ms) ns = sent-append to ms ns

-- a step of another node, or one that doesn't send there, leaves the count
pub sent-same : (from to : Node) (steps : List Step) (s : Step) → (is_same_node s.stamp.node from ≡ true → sent_count to s.marks ≡ 0) → sent_in from to (steps ++ s ∷ []) ≡ sent_in from to steps
sent-same from to [] s none = by (is_same_node s.stamp.node from) (sent_count to s.marks) none
  where
    by : (b : Bool) (n : ℕ) → (b ≡ true → n ≡ 0) → cond b (n + 0) 0 ≡ 0
    by true n e = omega (arith, e refl)
    by false n e = refl
sent-same from to (x ∷ xs) s none = ap (λ n. cond (is_same_node x.stamp.node from) (sent_count to x.marks + n) n) (sent-same from to xs s none)

-- ONE LINK
fewer-left : (a b d : ℕ) → a ≤ b → nat_lt b d ≡ true → nat_lt a d ≡ true
fewer-left a b d upto e = grind (arith, nat_tests)

module _ (script : Script) (from to : Node) (steps : List Step) (s : Step) where
  pub left-none : left_on script steps from to ≡ [] → sent_in from to (steps ++ s ∷ []) ≡ sent_in from to steps → left_on script (steps ++ s ∷ []) from to ≡ []
  left-none none same =
      ap (λ n. map (Receive from to) (filter (is_left script (steps ++ s ∷ []) from to) (range_with_len 1 n))) same
      ∙ ap (map (Receive from to)) (filter-fewer (is_left script steps from to) (is_left script (steps ++ s ∷ []) from to) fewer (range_with_len 1 (sent_in from to steps)) (map-none (Receive from to) (filter (is_left script steps from to) (range_with_len 1 (sent_in from to steps))) none))
    where
      more : (n : ℕ) (b : Bool) → n ≤ n + cond b 1 0
      more n true = omega arith
      more n false = omega arith

      fewer : (n : ℕ) → is_left script (steps ++ s ∷ []) from to n ≡ true → is_left script steps from to n ≡ true
      fewer n e =
          fewer-left (received_count from to n steps) (received_count from to n (steps ++ s ∷ [])) (deliveries script from to n)
          (subst (λ m. received_count from to n steps ≤ m) (sym (received_push from to n steps s)) (more (received_count from to n steps) (is_receipt_of from to n s.event))) e

-- ALL LINKS
clash : false ≡ true → ⊥
clash e = cc

module _ (script : Script) (steps : List Step) (s : Step) (old : Quiet) (were : AreQuiet script steps old) where
  -- the coordinator has sent nothing to the first so many
  pub quiet-behind-coordinator : (new : Quiet) → is_same_node s.stamp.node the_coordinator ≡ true → new.from ≡ old.from → new.to ≤ old.to → ((segment : Node) → 0 < segment.0 → segment.0 ≤ new.to → sent_count segment s.marks ≡ 0) → AreQuiet script (steps ++ s ∷ []) new
  quiet-behind-coordinator new here from most none = record {
    from = λ segment low high.
        left-none script segment the_coordinator steps s (were.from segment low (omega (arith, from, high))) (sent-same segment the_coordinator steps s (λ same. absurd (both s.stamp.node.0 segment.0 low here same)));
    to = λ segment low high. left-none script the_coordinator segment steps s (were.to segment low (omega (arith, most, high))) (sent-same the_coordinator segment steps s (λ same. none segment low high));
  }
    where
      both : (a n : ℕ) → 0 < n → (a == 0) ≡ true → (a == n) ≡ true → ⊥
      both a n low e f = grind (arith, nat_tests)

  -- a segment has sent something, which isn't one of the first so many
  pub quiet-behind-segment : (new : Quiet) → is_same_node s.stamp.node the_coordinator ≡ false → new.to ≡ old.to → new.from ≤ old.from → (0 < s.stamp.node.0 → new.from < s.stamp.node.0) → AreQuiet script (steps ++ s ∷ []) new
  quiet-behind-segment new away to most before = record {
    from = λ segment low high.
        left-none script segment the_coordinator steps s (were.from segment low (omega (arith, most, high))) (sent-same segment the_coordinator steps s (λ same. absurd (apart s.stamp.node.0 segment.0 new.from low high before same)));
    to = λ segment low high. left-none script the_coordinator segment steps s (were.to segment low (omega (arith, to, high))) (sent-same the_coordinator segment steps s (λ same. absurd (clash (sym away ∙ same))));
  }
    where
      apart : (a n from : ℕ) → 0 < n → n ≤ from → (0 < a → from < a) → (a == n) ≡ true → ⊥
      apart a n from low high before e = let same : a ≡ n = same_from a n e in omega (arith, low, high, same, before (omega (arith, low, same)))

-- MARKS
pub unsent-next : (ms : List Mark) (k : ℕ) (m : Mark) (to : Node) → k < length ms → m ≡ get_or ms k m → sent_count to (take k ms) ≡ 0 → sent_count to (m ∷ []) ≡ 0 → sent_count to (take (k + 1) ms) ≡ 0
unsent-next ms k m to inside is before here =
    ap (sent_count to) (take_more ms k m inside ∙ ap (λ x. take k ms ++ x ∷ []) (sym is)) ∙ sent-append to (take k ms) (m ∷ []) ∙ sum (sent_count to (take k ms)) (sent_count to (m ∷ [])) before here
  where
    sum : (a b : ℕ) → a ≡ 0 → b ≡ 0 → a + b ≡ 0
    sum a b e f = omega (arith, e, f)

pub sent-elsewhere : (t to : Node) (n : ℕ) → 0 < to.0 → to.0 ≤ n → (0 < t.0 → n < t.0) → cond (is_same_node t to) (0 + 1) 0 ≡ 0
sent-elsewhere t to n low high before = by t.0 to.0 before low high
  where
    by : (a b : ℕ) → (0 < a → n < a) → 0 < b → b ≤ n → cond (a == b) (0 + 1) 0 ≡ 0
    by a b before low high = ap (λ x. cond x (0 + 1) 0) (apart_from a b (λ e. omega (arith, e, low, high, before (omega (arith, e, low)))))

-- WHO RESUMES
pub not-off : (b : Bool) → not b ≡ false → b ≡ true
not-off true e = refl
not-off false e = absurd (cc)

-- where nobody waits, nobody resumes
pub no-resumptions : (marks : List Mark) (node : Node) → ((g : Gxid) → waits_of marks node g ≡ []) → resumptions marks node ≡ []
no-resumptions marks node none =
    ap (λ gs. first_of (map (Resume node) gs)) (filter-none (λ g. list_any (is_clear (holds_at marks node) (waits_at marks node)) (waits_of marks node g)) (gxids_of marks) (λ g. ap (list_any (is_clear (holds_at marks node) (waits_at marks node))) (none g)))
