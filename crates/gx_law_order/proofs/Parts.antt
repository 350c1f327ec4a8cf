-- How a segment's part of a transaction may change, and what stays said of it.
use Rattle.std.proofs.Common.{◌≡◌, ◌⊎◌, inl, inr, ◌≤◌, ◌<◌, ℕ, ◌+◌, Option, Some, None, Bool, true, false, refl, sym, ap, ◌∙◌, ◌||◌, arith}
use Rattle.std.proofs.lemmas.Bool.Decides.{nat_tests}
use Rattle.std.proofs.lemmas.Bool.{both_ways, or_left}
use Rattle.gx_lemmas.proofs.Numbers.{lt-le}
use Rattle.gx_msg.specs.declared.message.Message.{Message}
use Rattle.gx_msg.specs.declared.message.Message.TheVariants as message
use Rattle.gx_msg.specs.declared.reply.Reply.{Reply}
use Rattle.gx_msg.specs.declared.reply.Reply.TheVariants as reply
use Rattle.gx_rules.specs.AtSegment.{was_prepared}
use Rattle.gx_rules.specs.Segments.{Phase, has_committed}
use Rattle.gx_rules.specs.Segments.Phase.{Prepared, Committed}
use Rattle.gx_rules.specs.Slices.{has_written}
use Rattle.gx_law_order.specs.Pairs.{IsKept, IsVote, Pair, bit, is_open}
use Rattle.gx_law_order.specs.Said.{Answers, IsCommand, IsDone, Said}
use Rattle.gx_law_order.specs.Standings.{Known, Part, Standing, is_closing}
use Rattle.gx_law_order.specs.Standings.Standing.{Unborn, Live, Preparing, One, Two, Over}

pub record Grows (p q : Part) : Type 0 where
  pub last : p.last ≤ q.last
  pub wrote : q.last ≡ p.last → p.waits ≡ false → q.wrote ≡ p.wrote
  pub waits : q.last ≡ p.last → p.waits ≡ false → q.waits ≡ false
  pub writes : p.wrote ≡ true → q.wrote ≡ true
  pub prepared : was_prepared p.vote ≡ true → was_prepared q.vote ≡ true
  pub refused : p.vote ≡ Some reply.Jfault → q.vote ≡ Some reply.Jfault
  pub asked : q.vote ≡ None → p.vote ≡ None
  pub committed : has_committed p.phase ≡ true → has_committed q.phase ≡ true

pub grows-same : (p : Part) → Grows p p
grows-same p = record { last = le-refl p.last; wrote = λ e n. refl; waits = λ e n. n; writes = λ e. e; prepared = λ e. e; refused = λ e. e; asked = λ e. e; committed = λ e. e }
  where
    le-refl : (a : ℕ) → a ≤ a
    le-refl a = omega arith

done-grows : (k : Known) (p q : Part) (c : ℕ) (w : Bool) → Grows p q → Pair k q → IsDone k p c w → IsDone k q c w
done-grows k p q c w g e d = record { drawn = d.drawn; last = d.last; same = λ l h. both (d.same l h) g.last (e.live l).2 h }
  where
    both : (p.last ≡ c) × (w ≡ p.wrote) × (p.waits ≡ false) → p.last ≤ q.last → q.last ≤ k.last → c ≡ k.last → (q.last ≡ c) × (w ≡ q.wrote) × (q.waits ≡ false)
    both a b d h = let n = same p.last q.last c k.last a.0 b d h in (n ∙ a.0, a.1 ∙ sym (g.wrote n a.2), g.waits n a.2)
      where
        same : (a b c d : ℕ) → a ≡ c → a ≤ b → b ≤ d → c ≡ d → b ≡ a
        same a b c d x y z u = omega arith

command-grows : (k : Known) (p q : Part) (c : ℕ) → Grows p q → IsCommand k p c → IsCommand k q c
command-grows k p q c g d = record { drawn = d.drawn; last = d.last; taken = λ l n. up (d.taken l n) g.last; older = λ l n. up (d.older l n) g.last; closed = λ l. up (d.closed l) g.last; over = λ l n. up (d.over l n) g.last }
  where
    up : {a b c : ℕ} → a ≤ b → b ≤ c → a ≤ c
    up x y = omega arith

answers-grow : (k : Known) (p q : Part) (r : Reply) → Grows p q → Pair k q → Answers k p r → Answers k q r
answers-grow k p q (reply.Done c w count part) g e s = done-grows k p q c.0 w g e s
answers-grow k p q (reply.Failed c x) g e s = tt
answers-grow k p q reply.Prepared g e s = g.prepared s
answers-grow k p q reply.Committed g e s = g.committed s
answers-grow k p q reply.Jfault g e s = g.refused s
answers-grow k p q reply.Again g e s = tt
answers-grow k p q reply.Restarted g e s = tt
answers-grow k p q reply.Aborted g e s = tt
answers-grow k p q reply.Forgotten g e s = tt

two-grows : (k : Known) (p q : Part) → Grows p q → (k.at ≡ Two true) ⊎ (has_committed p.phase ≡ true) → (k.at ≡ Two true) ⊎ (has_committed q.phase ≡ true)
two-grows k p q g (inl e) = inl e
two-grows k p q g (inr e) = inr (g.committed e)

-- what was said stays true
pub said-grows : (k : Known) (p q : Part) (m : Message) → Grows p q → Pair k q → Said k p m → Said k q m
said-grows k p q (message.Exec g c level x h y) r e s = command-grows k p q c.0 r s
said-grows k p q (message.Prepare g) r e s = (r.writes s.0, λ n. s.1 (r.asked n))
said-grows k p q (message.Commit g) r e s = λ n. s (r.asked n)
said-grows k p q (message.CommitPrepared g) r e s = two-grows k p q r s
said-grows k p q (message.Abort g) r e s = s
said-grows k p q (message.Forget g) r e s = s
said-grows k p q (message.Answer g a) r e s = answers-grow k p q a r e s
said-grows k p q (message.Collect round) r e s = tt
said-grows k p q (message.Graph round graph) r e s = tt
said-grows k p q message.Up r e s = tt

-- ONE CHANGE EACH
pub record Next (k : Known) (p q : Part) : Type 0 where
  pub pair : Pair k q
  pub grows : Grows p q

-- no slice of it waits
pub quiet-waits : {A : Type 0} (b : Bool) → b ≡ false → b ≡ true → A
quiet-waits b e f = absurd (both_ways b e f)

-- a promise
abbrev pub promising : Part → Part
promising p = record p { phase = Prepared; vote = Some reply.Prepared; promises = p.promises + 1 }

pub promise-next : (k : Known) (p : Part) → Pair k p → p.vote ≡ None → is_open p.phase ≡ true → p.waits ≡ false → (k.at ≡ Preparing true) ⊎ (k.aborted ≡ true) → Next k p (promising p)
promise-next k p e v o y s =
    record {
      pair = record {
        promised = grind (arith, nat_tests);
        committed = grind (arith, nat_tests);
        written = λ x. grind (arith, nat_tests);
        unpromised = λ x. grind (arith, nat_tests);
        prepared = λ x. refl;
        kept = e.kept;
        vote = tt;
        waits = λ x. quiet-waits p.waits y x;
        awaited = λ x z. quiet-waits p.waits y z;
        aborts = e.aborts;
        ends = e.ends;
        either = e.either;
        undecided = e.undecided;
        decided = e.decided;
        unborn = λ x. grind (arith, nat_tests);
        live = λ x. grind (arith, nat_tests);
        learns = e.learns;
        learned = e.learned;
        closing = e.closing;
        asked = λ b x. grind (arith, nat_tests);
        alone = λ b x. grind (arith, nat_tests);
        both = λ b x. grind (arith, nat_tests);
      };
      grows = record { last = grind (arith, nat_tests); wrote = λ x n. refl; waits = λ x n. n; writes = λ x. x; prepared = λ x. refl; refused = λ x. grind (arith, nat_tests); asked = λ x. grind (arith, nat_tests); committed = λ x. grind (arith, nat_tests) };
    }

-- a journal that fails
abbrev pub refusing : Part → Part
refusing p = record p { vote = Some reply.Jfault }

pub refuse-next : (k : Known) (p : Part) → Pair k p → p.vote ≡ None → is_open p.phase ≡ true → (k.at ≡ Preparing true) ⊎ (k.at ≡ One true) ⊎ (k.aborted ≡ true) → Next k p (refusing p)
refuse-next k p e v o s =
    record {
      pair = record {
        promised = grind (arith, nat_tests);
        committed = e.committed;
        written = e.written;
        unpromised = λ x. refl;
        prepared = λ x. grind (arith, nat_tests);
        kept = e.kept;
        vote = grind (arith, nat_tests);
        waits = e.waits;
        awaited = e.awaited;
        aborts = e.aborts;
        ends = e.ends;
        either = e.either;
        undecided = e.undecided;
        decided = e.decided;
        unborn = λ x. grind (arith, nat_tests);
        live = λ x. grind (arith, nat_tests);
        learns = e.learns;
        learned = e.learned;
        closing = e.closing;
        asked = λ b x. grind (arith, nat_tests);
        alone = λ b x. grind (arith, nat_tests);
        both = λ b x. grind (arith, nat_tests);
      };
      grows = record { last = grind (arith, nat_tests); wrote = λ x n. refl; waits = λ x n. n; writes = λ x. x; prepared = λ x. grind (arith, nat_tests); refused = λ x. refl; asked = λ x. grind (arith, nat_tests); committed = λ x. x };
    }

-- a commit in one phase
abbrev pub committing : Part → Part
committing p = record p { phase = Committed; vote = Some reply.Committed; commits = p.commits + 1 }

pub commit-next : (k : Known) (p : Part) → Pair k p → p.vote ≡ None → is_open p.phase ≡ true → p.waits ≡ false → k.at ≡ One true → Next k p (committing p)
commit-next k p e v o y s =
    record {
      pair = record {
        promised = grind (arith, nat_tests);
        committed = grind (arith, nat_tests);
        written = λ x. grind (arith, nat_tests);
        unpromised = λ x. refl;
        prepared = λ x. grind (arith, nat_tests);
        kept = e.kept;
        vote = refl;
        waits = λ x. quiet-waits p.waits y x;
        awaited = λ x z. quiet-waits p.waits y z;
        aborts = e.aborts;
        ends = e.ends;
        either = e.either;
        undecided = e.undecided;
        decided = e.decided;
        unborn = λ x. grind (arith, nat_tests);
        live = λ x. grind (arith, nat_tests);
        learns = e.learns;
        learned = e.learned;
        closing = e.closing;
        asked = λ b x. grind (arith, nat_tests);
        alone = λ b x. grind (arith, nat_tests);
        both = λ b x. grind (arith, nat_tests);
      };
      grows = record { last = grind (arith, nat_tests); wrote = λ x n. refl; waits = λ x n. n; writes = λ x. x; prepared = λ x. grind (arith, nat_tests); refused = λ x. grind (arith, nat_tests); asked = λ x. grind (arith, nat_tests); committed = λ x. refl };
    }

-- a commit as promised
abbrev pub finishing : Part → Part
finishing p = record p { phase = Committed; commits = p.commits + 1 }

pub finish-next : (k : Known) (p : Part) → Pair k p → p.phase ≡ Prepared → k.at ≡ Two true → Next k p (finishing p)
finish-next k p e v s =
    record {
      pair = record {
        promised = e.promised;
        committed = grind (arith, nat_tests);
        written = λ x. grind (arith, nat_tests);
        unpromised = λ x. grind (arith, nat_tests);
        prepared = λ x. grind (arith, nat_tests);
        kept = e.kept;
        vote = finished p.vote (e.prepared v);
        waits = λ x. absurd (shut p.phase v (e.waits x).0);
        awaited = e.awaited;
        aborts = e.aborts;
        ends = e.ends;
        either = e.either;
        undecided = e.undecided;
        decided = e.decided;
        unborn = λ x. grind (arith, nat_tests);
        live = λ x. grind (arith, nat_tests);
        learns = e.learns;
        learned = e.learned;
        closing = e.closing;
        asked = λ b x. grind (arith, nat_tests);
        alone = λ b x. grind (arith, nat_tests);
        both = λ b x. grind (arith, nat_tests);
      };
      grows = record { last = grind (arith, nat_tests); wrote = λ x n. refl; waits = λ x n. n; writes = λ x. x; prepared = λ x. x; refused = λ x. x; asked = λ x. x; committed = λ x. refl };
    }
  where
    shut : (a : Phase) → a ≡ Prepared → is_open a ≡ true → ⊥
    shut a x y = grind (arith, nat_tests)

    finished : (v : Option Reply) → was_prepared v ≡ true → IsVote Committed v
    finished v e = grind (arith, nat_tests)

-- an end: forgotten, or aborted without a commit; a slice that waits is dropped
abbrev pub ending : Phase → Part → Part
ending phase p = record p { phase = phase; waits = false }

vote-same : (a b : Phase) (v : Option Reply) → has_committed b ≡ has_committed a → IsVote a v → IsVote b v
vote-same a b v e w = grind (arith, nat_tests)

pub end-next : (k : Known) (p : Part) (phase : Phase) → Pair k p → is_open phase ≡ false → (phase ≡ Prepared → ⊥) → has_committed phase ≡ has_committed p.phase → k.at ≡ Over → Next k p (ending phase p)
end-next k p phase e o n c s =
    record {
      pair = record {
        promised = e.promised;
        committed = grind (arith, nat_tests);
        written = λ x. grind (arith, nat_tests);
        unpromised = λ x. grind (arith, nat_tests);
        prepared = λ x. absurd (n x);
        kept = e.kept;
        vote = vote-same p.phase phase p.vote c e.vote;
        waits = λ x. absurd (cc);
        awaited = λ x z. absurd (cc);
        aborts = e.aborts;
        ends = e.ends;
        either = e.either;
        undecided = e.undecided;
        decided = e.decided;
        unborn = λ x. grind (arith, nat_tests);
        live = λ x. grind (arith, nat_tests);
        learns = e.learns;
        learned = e.learned;
        closing = e.closing;
        asked = λ b x. grind (arith, nat_tests);
        alone = λ b x. grind (arith, nat_tests);
        both = λ b x. grind (arith, nat_tests);
      };
      grows = record { last = grind (arith, nat_tests); wrote = λ x n. refl; waits = λ x n. refl; writes = λ x. x; prepared = λ x. x; refused = λ x. x; asked = λ x. x; committed = λ x. grind (arith, nat_tests) };
    }

-- a command runs, up to its answer or up to where it waits
abbrev pub running : Phase → ℕ → Option Reply → Bool → Bool → Part → Part
running phase c r w y p = record p { phase = phase; last = c; answer = r; wrote = p.wrote || w; waits = y }

open-vote : (a b : Phase) (v : Option Reply) → is_open a ≡ true → is_open b ≡ true → IsVote a v → IsVote b v
open-vote a b v o p w = vote-same a b v (same a b o p) w
  where
    same : (a b : Phase) → is_open a ≡ true → is_open b ≡ true → has_committed b ≡ has_committed a
    same a b o p = grind (arith, nat_tests)

-- what a slice that runs may change: it is a new command's, or one that has waited
pub record MayRun (k : Known) (p : Part) (c : ℕ) : Type 0 where
  pub opens : is_open p.phase ≡ true
  pub later : p.last ≤ c
  pub stands : (k.at ≡ Live) ⊎ (k.aborted ≡ true)
  pub awaited : k.at ≡ Live → (k.waits ≡ true) × (c ≡ k.last)
  pub new : c ≡ p.last → p.waits ≡ false → ⊥

preparing : (a : Standing) (b : Bool) → a ≡ Preparing b → is_closing a ≡ true
preparing a b x = grind (arith, nat_tests)

one : (a : Standing) (b : Bool) → a ≡ One b → is_closing a ≡ true
one a b x = grind (arith, nat_tests)

two : (a : Standing) (b : Bool) → a ≡ Two b → is_closing a ≡ true
two a b x = grind (arith, nat_tests)

less : (a b : ℕ) → a < b → a ≤ b
less a b x = omega arith

same-le : (a b : ℕ) → a ≡ b → a ≤ b
same-le a b x = omega arith

-- who runs or has aborted is drawn, and isn't on the way to a commit
pub drawn-runs : (k : Known) (p : Part) → Pair k p → (k.at ≡ Live) ⊎ (k.aborted ≡ true) → k.at ≡ Unborn → ⊥
drawn-runs k p e s u = by_place s
  where
    not-live : Unborn ≡ Live → ⊥
    not-live x = cc

    not-over : Unborn ≡ Over → ⊥
    not-over x = cc

    by_place : (k.at ≡ Live) ⊎ (k.aborted ≡ true) → ⊥
    by_place (inl x) = not-live (sym u ∙ x)
    by_place (inr x) = not-over (sym u ∙ e.aborts x)

unclosed-runs : (k : Known) (p : Part) → Pair k p → (k.at ≡ Live) ⊎ (k.aborted ≡ true) → is_closing k.at ≡ true → ⊥
unclosed-runs k p e s u = by_place s
  where
    open-one : (a b : Standing) → is_closing a ≡ true → a ≡ b → is_closing b ≡ false → ⊥
    open-one a b x y z = grind arith

    by_place : (k.at ≡ Live) ⊎ (k.aborted ≡ true) → ⊥
    by_place (inl x) = open-one k.at Live u x refl
    by_place (inr x) = open-one k.at Over u (e.aborts x) refl

pub drawn-waits : (k : Known) (p : Part) → Pair k p → p.waits ≡ true → k.at ≡ Unborn → ⊥
drawn-waits k p e y u = drawn-runs k p e (e.waits y).2 u

pub unclosed-waits : (k : Known) (p : Part) → Pair k p → p.waits ≡ true → is_closing k.at ≡ true → ⊥
unclosed-waits k p e y u = unclosed-runs k p e (e.waits y).2 u

pub runs-next : (k : Known) (p : Part) (phase : Phase) (c : ℕ) (r : Option Reply) (w y : Bool) → Pair k p → MayRun k p c → is_open phase ≡ true → has_written phase ≡ (p.wrote || w)
    → IsKept c (p.wrote || w) r → (y ≡ true → r ≡ None) → Next k p (running phase c r w y p)
runs-next k p phase c r w y e m q h kept unanswered =
    record {
      pair = record {
        promised = e.promised;
        committed = opens p.phase phase m.opens q p.commits e.committed;
        written = λ x. h;
        unpromised = λ x. e.unpromised m.opens;
        prepared = λ x. grind (arith, nat_tests);
        kept = kept;
        vote = open-vote p.phase phase p.vote m.opens q e.vote;
        waits = λ x. (q, unanswered x, m.stands);
        awaited = λ x z. m.awaited x;
        aborts = e.aborts;
        ends = e.ends;
        either = e.either;
        undecided = e.undecided;
        decided = e.decided;
        unborn = λ x. absurd (drawn-runs k p e m.stands x);
        live = λ x. (q, (e.live x).1, same-le c k.last (m.awaited x).1);
        learns = λ x y. or_left p.wrote w (e.learns x y);
        learned = λ x n. quiet-waits k.waits n (m.awaited x).0;
        closing = λ x. absurd (unclosed-runs k p e m.stands x);
        asked = λ b x. absurd (unclosed-runs k p e m.stands (preparing k.at b x));
        alone = λ b x. absurd (unclosed-runs k p e m.stands (one k.at b x));
        both = λ b x. absurd (unclosed-runs k p e m.stands (two k.at b x));
      };
      grows = record {
        last = m.later;
        wrote = λ x n. absurd (m.new x n);
        waits = λ x n. absurd (m.new x n);
        writes = λ x. or_left p.wrote w x;
        prepared = λ x. x;
        refused = λ x. x;
        asked = λ x. x;
        committed = λ x. still p.phase phase m.opens x;
      };
    }
  where
    opens : (a b : Phase) → is_open a ≡ true → is_open b ≡ true → (n : ℕ) → n ≡ bit (has_committed a) → n ≡ bit (has_committed b)
    opens a b x y n z = grind (arith, nat_tests)

    still : (a b : Phase) → is_open a ≡ true → has_committed a ≡ true → has_committed b ≡ true
    still a b x y = grind (arith, nat_tests)

-- a slice that has waited
pub waited-runs : (k : Known) (p : Part) (c : ℕ) → Pair k p → p.waits ≡ true → p.last ≡ c → MayRun k p c
waited-runs k p c e y l =
    record {
      opens = (e.waits y).0;
      later = same-le p.last c l;
      stands = (e.waits y).2;
      awaited = λ x. ((e.awaited x y).0, sym l ∙ (e.awaited x y).1);
      new = λ x n. quiet-waits p.waits n y;
    }

-- a new command
pub new-runs : (k : Known) (p : Part) (c : ℕ) → is_open p.phase ≡ true → p.last < c → IsCommand k p c → MayRun k p c
new-runs k p c o l m =
    record {
      opens = o;
      later = less p.last c l;
      stands = stands k.at refl;
      awaited = λ x. (waits k.waits refl x, latest p.last c k.last l (m.last x) (m.older x));
      new = λ x n. lt-le p.last c l (same-le c p.last x);
    }
  where
    waits : (b : Bool) → k.waits ≡ b → k.at ≡ Live → k.waits ≡ true
    waits true f x = f
    waits false f x = absurd (lt-le p.last c l (m.taken x f))

    latest : (a b d : ℕ) → a < b → b ≤ d → (b < d → b ≤ a) → b ≡ d
    latest a b d x y z = grind arith

    ended : (b : Bool) → k.aborted ≡ b → k.at ≡ Over → (k.at ≡ Live) ⊎ (k.aborted ≡ true)
    ended true f x = inr f
    ended false f x = absurd (lt-le p.last c l (m.over x f))

    stands : (a : Standing) → k.at ≡ a → (k.at ≡ Live) ⊎ (k.aborted ≡ true)
    stands Unborn f = absurd (m.drawn f)
    stands Live f = inl f
    stands (Preparing b) f = absurd (lt-le p.last c l (m.closed (ap is_closing f)))
    stands (One b) f = absurd (lt-le p.last c l (m.closed (ap is_closing f)))
    stands (Two b) f = absurd (lt-le p.last c l (m.closed (ap is_closing f)))
    stands Over f = ended k.aborted refl f
