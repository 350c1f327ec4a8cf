-- A failure that is kept, of who hasn't ended there, as if its slice still waited: the coordinator awaits its answer, or the transaction
-- has aborted. So all that holds of slices that wait, by the laws of the coordinator's turns, holds of such failures.
use Rattle.std.proofs.Common.{◌≡◌, ◌⊎◌, inl, inr, ◌≤◌, ◌<◌, ℕ, Option, Some, None, Bool, true, false, refl, sym, ap, ◌∙◌, if◌then◌else◌, ◌&&◌, ◌||◌, nat_lt, arith}
use Rattle.std.proofs.lemmas.Bool.{and_parts}
use Rattle.std.proofs.lemmas.Bool.Decides.{nat_tests}
use Rattle.gx_lemmas.proofs.Tests.{true-false}
use Rattle.gx_msg.specs.declared.message.Message.{Message}
use Rattle.gx_msg.specs.declared.message.Message.TheVariants as message
use Rattle.gx_msg.specs.declared.reply.Reply.{Reply}
use Rattle.gx_msg.specs.declared.reply.Reply.TheVariants as reply
use Rattle.gx_rules.specs.Segments.{Phase}
use Rattle.gx_rules.specs.Segments.Phase.{Aborted, Committed, Forgotten, Prepared, Reading, Writing}
use Rattle.gx_law_order.proofs.Suspended.{is_open_phase}
use Rattle.gx_law_order.specs.Pairs.{IsKept, IsVote, Pair, is_open}
use Rattle.gx_law_order.specs.Said.{IsCommand, Said}
use Rattle.gx_law_order.specs.Standings.{Known, Part, is_closing}
use Rattle.gx_law_order.specs.Standings.Standing.{Unborn, Live, Preparing, One, Two, Over}
use Rattle.gx_law_order.specs.Standings.{Standing}
use Rattle.gx_law_lone.specs.Rows.{has_failed}
use Rattle.gx_law_lone.proofs.Turns.{IsVoted}

-- its last command has failed there, and it hasn't ended there
abbrev pub failing : Part → Bool
failing p = has_failed p.answer && is_open p.phase

abbrev pub feigned : Part → Part
feigned p = record p { waits = p.waits || failing p; answer = if failing p then None else p.answer }

pub open-same : (p : Phase) → is_open p ≡ is_open_phase p
open-same Reading = refl
open-same Writing = refl
open-same Prepared = refl
open-same Committed = refl
open-same (Forgotten b) = refl
open-same Aborted = refl

-- what is so of a failure, as of a slice that waits
pub record IsHeardOf (k : Known) (last : ℕ) : Type 0 where
  pub runs : (k.at ≡ Live) ⊎ (k.aborted ≡ true)
  pub awaited : k.at ≡ Live → (k.waits ≡ true) × (last ≡ k.last)

pub feign : (k : Known) (p : Part) → Pair k p → (failing p ≡ true → IsHeardOf k p.last) → Pair k (feigned p)
feign k p e f =
    record {
      promised = e.promised;
      committed = e.committed;
      written = e.written;
      unpromised = e.unpromised;
      prepared = e.prepared;
      kept = kept (failing p) p.answer e.kept;
      vote = e.vote;
      waits = λ x. waits p.waits (failing p) refl refl x;
      awaited = λ l x. awaited p.waits (failing p) refl refl l x;
      aborts = e.aborts;
      ends = e.ends;
      either = e.either;
      undecided = e.undecided;
      decided = e.decided;
      unborn = e.unborn;
      live = e.live;
      learns = e.learns;
      learned = e.learned;
      closing = e.closing;
      asked = e.asked;
      alone = e.alone;
      both = e.both;
    }
  where
    kept : (b : Bool) (o : Option Reply) → IsKept p.last p.wrote o → IsKept p.last p.wrote (if b then None else o)
    kept true o q = tt
    kept false o q = q

    waits : (a b : Bool) → p.waits ≡ a → failing p ≡ b → (a || b) ≡ true → (is_open p.phase ≡ true) × ((if b then None else p.answer) ≡ None) × ((k.at ≡ Live) ⊎ (k.aborted ≡ true))
    waits a true q r x = ((and_parts (has_failed p.answer) (is_open p.phase) r).1, refl, (f r).runs)
    waits true false q r x = e.waits q
    waits false false q r x = absurd (cc)

    awaited : (a b : Bool) → p.waits ≡ a → failing p ≡ b → k.at ≡ Live → (a || b) ≡ true → (k.waits ≡ true) × (p.last ≡ k.last)
    awaited a true q r l x = (f r).awaited l
    awaited true false q r l x = e.awaited l q
    awaited false false q r l x = absurd (cc)

or-second : (a b : Bool) → b ≡ true → (a || b) ≡ true
or-second true b e = refl
or-second false b e = e

-- and back
pub heard-of : (k : Known) (p : Part) → Pair k (feigned p) → failing p ≡ true → IsHeardOf k p.last
heard-of k p e f = let w = or-second p.waits (failing p) f in record { runs = (e.waits w).2; awaited = λ l. e.awaited l w }

-- MESSAGES
-- DONE of its last command isn't told of one that has failed
abbrev pub IsNoFailure : Known → Part → Message → Type 0
IsNoFailure k p (message.Answer h (reply.Done c wrote count part)) = k.at ≡ Live → c.0 ≡ k.last → failing p ≡ false
IsNoFailure k p _ = Unit {0}

command-feigned : (k : Known) (p : Part) (c : ℕ) → IsCommand k p c → IsCommand k (feigned p) c
command-feigned k p c d = record { drawn = d.drawn; last = d.last; taken = d.taken; older = d.older; closed = d.closed; over = d.over }

or-none : (a b : Bool) → a ≡ false → b ≡ false → (a || b) ≡ false
or-none true b e f = absurd (cc)
or-none false b e f = f

pub say-feigned : (k : Known) (p : Part) (m : Message) → Said k p m → IsNoFailure k p m → Said k (feigned p) m
say-feigned k p (message.Exec g c level x h y) s f = command-feigned k p c.0 s
say-feigned k p (message.Prepare g) s f = s
say-feigned k p (message.Commit g) s f = s
say-feigned k p (message.CommitPrepared g) s f = s
say-feigned k p (message.Abort g) s f = s
say-feigned k p (message.Forget g) s f = s
say-feigned k p (message.Collect round) s f = tt
say-feigned k p (message.Graph round graph) s f = tt
say-feigned k p message.Up s f = tt
say-feigned k p (message.Answer g (reply.Done c w n part)) s f =
    record { drawn = s.drawn; last = s.last; same = λ l q. let t = s.same l q in (t.0, t.1, or-none p.waits (failing p) t.2 (f l q)) }
say-feigned k p (message.Answer g (reply.Failed c x)) s f = tt
say-feigned k p (message.Answer g reply.Prepared) s f = s
say-feigned k p (message.Answer g reply.Committed) s f = s
say-feigned k p (message.Answer g reply.Jfault) s f = s
say-feigned k p (message.Answer g reply.Again) s f = tt
say-feigned k p (message.Answer g reply.Restarted) s f = tt
say-feigned k p (message.Answer g reply.Aborted) s f = tt
say-feigned k p (message.Answer g reply.Forgotten) s f = tt

-- A NEW COMMAND
-- one that is new at its segment is the last, and awaited, or its transaction has aborted
pub new-heard : (k : Known) (p : Part) (c : ℕ) → IsCommand k p c → nat_lt p.last c ≡ true → IsHeardOf k c
new-heard k p c d n =
    record {
      runs = by_standing k.at refl;
      awaited = λ l. (by_wait l k.waits refl, is-last c k.last p.last (d.last l) (λ z. d.older l z) n);
    }
  where
    above : (a b : ℕ) → nat_lt a b ≡ true → b ≤ a → ⊥
    above a b x y = grind (arith, nat_tests)

    by_wait : k.at ≡ Live → (b : Bool) → k.waits ≡ b → b ≡ true
    by_wait l true w = refl
    by_wait l false w = absurd (above p.last c n (d.taken l w))

    is-last : (a b z : ℕ) → a ≤ b → (a < b → a ≤ z) → nat_lt z a ≡ true → a ≡ b
    is-last a b z x y q = grind (arith, nat_tests)

    by_over : k.at ≡ Over → (b : Bool) → k.aborted ≡ b → (k.at ≡ Live) ⊎ (k.aborted ≡ true)
    by_over o true a = inr a
    by_over o false a = absurd (above p.last c n (d.over o a))

    by_standing : (s : Standing) → k.at ≡ s → (k.at ≡ Live) ⊎ (k.aborted ≡ true)
    by_standing Unborn e = absurd (d.drawn e)
    by_standing Live e = inl e
    by_standing (Preparing b) e = absurd (above p.last c n (d.closed (ap is_closing e)))
    by_standing (One b) e = absurd (above p.last c n (d.closed (ap is_closing e)))
    by_standing (Two b) e = absurd (above p.last c n (d.closed (ap is_closing e)))
    by_standing Over e = by_over e k.aborted refl

-- so it comes behind no failure, unless its transaction has aborted
pub new-fresh : (k : Known) (p : Part) (c : ℕ) → Pair k (feigned p) → IsCommand k p c → nat_lt p.last c ≡ true → is_open p.phase ≡ true → k.aborted ≡ false → has_failed p.answer ≡ false
new-fresh k p c e d n o a = by_test (has_failed p.answer) refl
  where
    below : (a b c : ℕ) → nat_lt a b ≡ true → b ≤ c → a ≡ c → ⊥
    below a b c x y z = grind (arith, nat_tests)

    by_way : failing p ≡ true → (k.at ≡ Live) ⊎ (k.aborted ≡ true) → ⊥
    by_way f (inl l) = below p.last c k.last n (d.last l) ((heard-of k p e f).awaited l).1
    by_way f (inr b) = true-false k.aborted b a

    by_test : (b : Bool) → has_failed p.answer ≡ b → b ≡ false
    by_test true q = let f : failing p ≡ true = ap (λ b. b && is_open p.phase) q ∙ o in absurd (by_way f (heard-of k p e f).runs)
    by_test false q = refl

-- nor does an order to promise or to commit that is new
pub order-calm : (k : Known) (p : Part) (s : Standing) → (s ≡ Live → ⊥) → Pair k (feigned p) → (k.at ≡ s) ⊎ (k.aborted ≡ true) → k.aborted ≡ false → failing p ≡ false
order-calm k p s n e w a = by_test (failing p) refl
  where
    by_way : (k.at ≡ s) ⊎ (k.aborted ≡ true) → (k.at ≡ Live) ⊎ (k.aborted ≡ true) → ⊥
    by_way (inl x) (inl y) = n (sym x ∙ y)
    by_way (inl x) (inr y) = true-false k.aborted y a
    by_way (inr x) y = true-false k.aborted x a

    by_test : (b : Bool) → failing p ≡ b → b ≡ false
    by_test true q = absurd (by_way w (heard-of k p e q).runs)
    by_test false q = refl

pub not-live-preparing : (b : Bool) → Preparing b ≡ Live → ⊥
not-live-preparing b e = cc

pub not-live-one : (b : Bool) → One b ≡ Live → ⊥
not-live-one b e = cc

pub voted : (phase : Phase) (o : Option Reply) → IsVote phase o → IsVoted o
voted phase None v = tt
voted phase (Some (reply.Done c w n part)) v = absurd v
voted phase (Some (reply.Failed c x)) v = tt
voted phase (Some reply.Prepared) v = tt
voted phase (Some reply.Committed) v = tt
voted phase (Some reply.Jfault) v = tt
voted phase (Some reply.Again) v = tt
voted phase (Some reply.Restarted) v = tt
voted phase (Some reply.Aborted) v = tt
voted phase (Some reply.Forgotten) v = tt
