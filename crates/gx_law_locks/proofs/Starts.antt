-- Whose Start mark stands among marks that are numbered; and which messages ask for a promise or a commit.
use Rattle.std.proofs.Common.{◌≡◌, ◌≤◌, ◌<◌, ◌⊎◌, inl, inr, ℕ, ◌+◌, List, [], ◌∷◌, ◌++◌, Bool, true, false, refl, sym, subst, ap, ◌∙◌, ◌||◌, arith, eqb}
use Rattle.std.proofs.lemmas.Bool.{eqb-true, or_left, or_right}
use Rattle.std.proofs.lemmas.Bool.Decides.{nat_tests}
use Rattle.std.specs.List.{list_any}
use Rattle.gx_lemmas.proofs.Numbers.{one-le-zero}
use Rattle.gx_lemmas.proofs.Tests.{or-assoc, or-cases}
use Rattle.gx_ids.specs.declared.ids.Gxid.{Gxid}
use Rattle.gx_ids.specs.declared.ids.Node.{Node}
use Rattle.gx_msg.specs.declared.message.Message.{Message}
use Rattle.gx_msg.specs.declared.message.Message.TheVariants as message
use Rattle.gx_msg.specs.declared.message.Out.{Out}
use Rattle.gx_script.specs.declared.Script.{Script}
use Rattle.gx_store.specs.declared.mark.Mark.{Mark}
use Rattle.gx_store.specs.declared.mark.Mark.TheVariants as mark
use Rattle.gx_store.specs.Marks.{is_same_gxid, start_count}
use Rattle.gx_store.specs.Ordered.{IsAtNode}
use Rattle.gx_store.specs.Rounds.{is_committing, is_started}
use Rattle.gx_rules.specs.Machine.{Letter, posted}
use Rattle.gx_rules.specs.Sending.{counted, numbered}
use Rattle.gx_law_order.specs.Numbers.{AreStartsNumbered}
use Rattle.gx_law_order.specs.Lists.{Each}
use Rattle.gx_law_order.proofs.Numbers.{NoStart}
use Rattle.gx_law_order.proofs.Sent.{at}

-- STARTS
count-start : (before : List Mark) (m : Mark) → start_count (before ++ m ∷ []) ≡ start_count before + start_count (m ∷ [])
count-start [] m = grind arith
count-start (mark.Start g s ∷ ms) m = grind (arith, count-start ms m)
count-start (x ∷ ms) m = count-start ms m

-- numbered marks start those whose number is above the count of the marks before them, and not above their own
pub started-within : (before ms : List Mark) (g : Gxid) → AreStartsNumbered before ms → is_started ms g ≡ true → (start_count before < g.0) × (g.0 ≤ start_count before + start_count ms)
started-within before [] g e f = absurd (cc)
started-within before (mark.Start h s ∷ ms) g e f = by_case (or-cases (is_same_gxid h g) (is_started ms g) f) (λ q. started-within (before ++ mark.Start h s ∷ []) ms g e.1 q)
  where
    here : (a b n k : ℕ) → a ≡ n + 1 → a ≡ b → (n < b) × (b ≤ n + (k + 1))
    here a b n k e f = (omega arith, omega arith)

    wider : (n m k b : ℕ) → m ≡ n + (0 + 1) → (m < b) × (b ≤ m + k) → (n < b) × (b ≤ n + (k + 1))
    wider n m k b e f = (omega (arith, f.0), omega (arith, f.1))

    by_case : (is_same_gxid h g ≡ true) ⊎ (is_started ms g ≡ true)
        → (is_started ms g ≡ true → (start_count (before ++ mark.Start h s ∷ []) < g.0) × (g.0 ≤ start_count (before ++ mark.Start h s ∷ []) + start_count ms)) → (start_count before < g.0) × (g.0 ≤ start_count before + (start_count ms + 1))
    by_case (inl q) rest = here h.0 g.0 (start_count before) (start_count ms) e.0 (eqb-true h.0 g.0 q)
    by_case (inr q) rest =
        wider (start_count before) (start_count (before ++ mark.Start h s ∷ [])) (start_count ms) g.0 (count-start before (mark.Start h s)) (rest q)
started-within before (m ∷ ms) g e f = subst (λ n. (n < g.0) × (g.0 ≤ n + start_count ms)) (count-start before m ∙ none (start_count before)) (started-within (before ++ m ∷ []) ms g e f)
  where
    none : (n : ℕ) → n + 0 ≡ n
    none n = omega arith

pub started-has : (before ms : List Mark) (g : Gxid) → AreStartsNumbered before ms → start_count before < g.0 → g.0 ≤ start_count before + start_count ms → is_started ms g ≡ true
started-has before [] g e low high = absurd (never (start_count before) g.0 low high)
  where
    never : (n b : ℕ) → n < b → b ≤ n + 0 → ⊥
    never n b l h = omega arith
started-has before (mark.Start h s ∷ ms) g e low high = by_test (eqb h.0 g.0) refl (λ l k. started-has (before ++ mark.Start h s ∷ []) ms g e.1 l k)
  where
    next : (a b n m : ℕ) → a ≡ n + 1 → m ≡ n + (0 + 1) → n < b → eqb a b ≡ false → m < b
    next a b n m e f l q = grind (arith, nat_tests)

    upper : (n m k b : ℕ) → m ≡ n + (0 + 1) → b ≤ n + (k + 1) → b ≤ m + k
    upper n m k b e h = omega arith

    by_test : (b : Bool) → eqb h.0 g.0 ≡ b
        → (start_count (before ++ mark.Start h s ∷ []) < g.0 → g.0 ≤ start_count (before ++ mark.Start h s ∷ []) + start_count ms → is_started ms g ≡ true) → (eqb h.0 g.0 || is_started ms g) ≡ true
    by_test true q rest = or_left (eqb h.0 g.0) (is_started ms g) q
    by_test false q rest =
        or_right (eqb h.0 g.0) (is_started ms g)
        (rest
        (next h.0 g.0 (start_count before) (start_count (before ++ mark.Start h s ∷ [])) e.0 (count-start before (mark.Start h s)) low q)
        (upper (start_count before) (start_count (before ++ mark.Start h s ∷ [])) (start_count ms) g.0 (count-start before (mark.Start h s)) high))
started-has before (m ∷ ms) g e low high =
    started-has (before ++ m ∷ []) ms g e (subst (λ n. n < g.0) (sym same) low) (subst (λ n. g.0 ≤ n + start_count ms) (sym same) high)
  where
    none : (n : ℕ) → n + 0 ≡ n
    none n = omega arith

    same : start_count (before ++ m ∷ []) ≡ start_count before
    same = count-start before m ∙ none (start_count before)

-- sendings start nothing, nor does a segment
pub sent-starts-none : (f : ℕ → ℕ) (outs : List Out) → Each NoStart (numbered f outs)
sent-starts-none f [] = tt
sent-starts-none f (o ∷ outs) = (tt, sent-starts-none (counted f o) outs)

pub segment-starts-none : (script : Script) (i : ℕ) → 1 ≤ i → (ms : List Mark) → Each (IsAtNode script (at i)) ms → Each NoStart ms
segment-starts-none script i one [] e = tt
segment-starts-none script i one (mark.Start g s ∷ ms) e = absurd (one-le-zero i one (ap (λ (n : Node). n.0) e.0))
segment-starts-none script i one (m ∷ ms) e = (tt, segment-starts-none script i one ms e.1)

-- WHO IS ASKED TO PREPARE OR TO COMMIT
pub committing-append : (xs ys : List Mark) (g : Gxid) → is_committing (xs ++ ys) g ≡ is_committing xs g || is_committing ys g
committing-append [] ys g = refl
committing-append (mark.Sent to number (message.Prepare h) ∷ xs) ys g =
    ap (λ b. is_same_gxid h g || b) (committing-append xs ys g) ∙ or-assoc (is_same_gxid h g) (is_committing xs g) (is_committing ys g)
committing-append (mark.Sent to number (message.Commit h) ∷ xs) ys g =
    ap (λ b. is_same_gxid h g || b) (committing-append xs ys g) ∙ or-assoc (is_same_gxid h g) (is_committing xs g) (is_committing ys g)
committing-append (m ∷ xs) ys g = committing-append xs ys g

abbrev pub asks_for : Message → Gxid → Bool
asks_for (message.Prepare h) g = is_same_gxid h g
asks_for (message.Commit h) g = is_same_gxid h g
asks_for _ g = false

-- such a message was sent
abbrev pub is_posted : List Letter → Gxid → Bool
is_posted letters g = list_any (λ l. asks_for l.envelope.message g) letters

-- what was sent before stays sent
still-posted : (from : Node) (clock : ℕ) (ms : List Mark) (sent : List Letter) (g : Gxid) → is_posted sent g ≡ true → is_posted (posted from clock ms sent) g ≡ true
still-posted from clock [] sent g e = e
still-posted from clock (mark.Sent to number m ∷ ms) sent g e =
    still-posted from clock ms (record { from = from; to = to; envelope = record { number = number; clock = clock; incarnation = 1; message = m } } ∷ sent) g (or_right (asks_for m g) (is_posted sent g) e)
still-posted from clock (m ∷ ms) sent g e = still-posted from clock ms sent g e

now-posted : (from : Node) (clock : ℕ) (ms : List Mark) (sent : List Letter) (g : Gxid) → is_committing ms g ≡ true → is_posted (posted from clock ms sent) g ≡ true
now-posted from clock [] sent g e = absurd (cc)
now-posted from clock (mark.Sent to number told ∷ ms) sent g e = by_message told e (λ l q. now-posted from clock ms (l ∷ sent) g q)
  where
    letter : Message → Letter
    letter m = record { from = from; to = to; envelope = record { number = number; clock = clock; incarnation = 1; message = m } }

    asked : (m : Message) → (asks_for m g || is_committing ms g) ≡ true → ((l : Letter) → is_committing ms g ≡ true → is_posted (posted from clock ms (l ∷ sent)) g ≡ true) → is_posted (posted from clock ms (letter m ∷ sent)) g ≡ true
    asked m e rest = by_case (or-cases (asks_for m g) (is_committing ms g) e)
      where
        by_case : (asks_for m g ≡ true) ⊎ (is_committing ms g ≡ true) → is_posted (posted from clock ms (letter m ∷ sent)) g ≡ true
        by_case (inl q) = still-posted from clock ms (letter m ∷ sent) g (or_left (asks_for m g) (is_posted sent g) q)
        by_case (inr q) = rest (letter m) q

    by_message : (m : Message) → is_committing (mark.Sent to number m ∷ ms) g ≡ true → ((l : Letter) → is_committing ms g ≡ true → is_posted (posted from clock ms (l ∷ sent)) g ≡ true) → is_posted (posted from clock ms (letter m ∷ sent)) g ≡ true
    by_message (message.Prepare h) e rest = asked (message.Prepare h) e rest
    by_message (message.Commit h) e rest = asked (message.Commit h) e rest
    by_message (message.Exec h c level x k y) e rest = rest (letter (message.Exec h c level x k y)) e
    by_message (message.CommitPrepared h) e rest = rest (letter (message.CommitPrepared h)) e
    by_message (message.Abort h) e rest = rest (letter (message.Abort h)) e
    by_message (message.Forget h) e rest = rest (letter (message.Forget h)) e
    by_message (message.Collect round) e rest = rest (letter (message.Collect round)) e
    by_message (message.Answer h r) e rest = rest (letter (message.Answer h r)) e
    by_message (message.Graph round graph) e rest = rest (letter (message.Graph round graph)) e
    by_message message.Up e rest = rest (letter message.Up) e
now-posted from clock (m ∷ ms) sent g e = now-posted from clock ms sent g e

pub posted-more : (from : Node) (clock : ℕ) (old ms : List Mark) (sent : List Letter) (g : Gxid) → (is_committing old g ≡ true → is_posted sent g ≡ true) → is_committing (old ++ ms) g ≡ true → is_posted (posted from clock ms sent) g ≡ true
posted-more from clock old ms sent g before e = by_case (or-cases (is_committing old g) (is_committing ms g) (sym (committing-append old ms g) ∙ e))
  where
    by_case : (is_committing old g ≡ true) ⊎ (is_committing ms g ≡ true) → is_posted (posted from clock ms sent) g ≡ true
    by_case (inl q) = still-posted from clock ms sent g (before q)
    by_case (inr q) = now-posted from clock ms sent g q

-- the letter that asks
pub record HasAsked (P : Letter → Type 0) (g : Gxid) : Type 0 where
  pub letter : Letter
  pub is : P letter
  pub asks : asks_for letter.envelope.message g ≡ true

pub has-asked : (P : Letter → Type 0) (g : Gxid) (letters : List Letter) → Each P letters → is_posted letters g ≡ true → HasAsked P g
has-asked P g [] e q = absurd (cc)
has-asked P g (l ∷ letters) e q = by_case (or-cases (asks_for l.envelope.message g) (is_posted letters g) q) (λ s. has-asked P g letters e.1 s)
  where
    by_case : (asks_for l.envelope.message g ≡ true) ⊎ (is_posted letters g ≡ true) → (is_posted letters g ≡ true → HasAsked P g) → HasAsked P g
    by_case (inl s) rest = record { letter = l; is = e.0; asks = s }
    by_case (inr s) rest = rest s
