-- How what the coordinator knows of a transaction at a segment changes, and what stays said.
use Rattle.std.proofs.Common.{◌≡◌, ◌⊎◌, inl, inr, ◌≤◌, ℕ, ◌+◌, None, Bool, true, false, refl, ap, ◌||◌, arith}
use Rattle.std.proofs.lemmas.Bool.Decides.{nat_tests}
use Rattle.std.proofs.lemmas.Bool.{false_from_ne_true}
use Rattle.gx_msg.specs.declared.message.Message.{Message}
use Rattle.gx_msg.specs.declared.message.Message.TheVariants as message
use Rattle.gx_msg.specs.declared.reply.Reply.{Reply}
use Rattle.gx_msg.specs.declared.reply.Reply.TheVariants as reply
use Rattle.gx_rules.specs.AtSegment.{was_prepared}
use Rattle.gx_rules.specs.Segments.{has_committed}
use Rattle.gx_law_order.specs.Pairs.{Pair}
use Rattle.gx_law_order.specs.Said.{Answers, IsCommand, IsDone, Said}
use Rattle.gx_law_order.specs.Standings.{Known, Part, Standing, is_closing}
use Rattle.gx_law_order.specs.Standings.Standing.{Unborn, Live, Preparing, One, Two, Over}
use Rattle.gx_law_order.proofs.Parts.{drawn-waits, quiet-waits, unclosed-waits}

pub record Shift (k n : Known) (p : Part) : Type 0 where
  pub pair : Pair n p
  pub stays : (m : Message) → Said k p m → Said n p m

pub shift-same : (k : Known) (p : Part) → Pair k p → Shift k k p
shift-same k p e = record { pair = e; stays = λ m s. s }

-- what has to stay, in parts
pub record Stays (k n : Known) (p : Part) : Type 0 where
  pub command : (c : ℕ) → IsCommand k p c → IsCommand n p c
  pub done : (c : ℕ) (w : Bool) → IsDone k p c w → IsDone n p c w
  pub prepare : (p.vote ≡ None → (k.at ≡ Preparing true) ⊎ (k.aborted ≡ true)) → p.vote ≡ None → (n.at ≡ Preparing true) ⊎ (n.aborted ≡ true)
  pub commit : (p.vote ≡ None → k.at ≡ One true) → p.vote ≡ None → n.at ≡ One true
  pub two : (k.at ≡ Two true) ⊎ (has_committed p.phase ≡ true) → (n.at ≡ Two true) ⊎ (has_committed p.phase ≡ true)
  pub abort : k.aborted ≡ true → n.aborted ≡ true
  pub forget : k.committed ≡ true → n.committed ≡ true

answers-stay : (k n : Known) (p : Part) → Stays k n p → (r : Reply) → Answers k p r → Answers n p r
answers-stay k n p t (reply.Done c w count part) s = t.done c.0 w s
answers-stay k n p t (reply.Failed c x) s = tt
answers-stay k n p t reply.Prepared s = s
answers-stay k n p t reply.Committed s = s
answers-stay k n p t reply.Jfault s = s
answers-stay k n p t reply.Again s = tt
answers-stay k n p t reply.Restarted s = tt
answers-stay k n p t reply.Aborted s = tt
answers-stay k n p t reply.Forgotten s = tt

said-stays : (k n : Known) (p : Part) → Stays k n p → (m : Message) → Said k p m → Said n p m
said-stays k n p t (message.Exec g c level x h y) s = t.command c.0 s
said-stays k n p t (message.Prepare g) s = (s.0, t.prepare s.1)
said-stays k n p t (message.Commit g) s = t.commit s
said-stays k n p t (message.CommitPrepared g) s = t.two s
said-stays k n p t (message.Abort g) s = t.abort s
said-stays k n p t (message.Forget g) s = t.forget s
said-stays k n p t (message.Answer g r) s = answers-stay k n p t r s
said-stays k n p t (message.Collect round) s = tt
said-stays k n p t (message.Graph round graph) s = tt
said-stays k n p t message.Up s = tt

-- A TRANSACTION BEGINS
abbrev pub born : Known → Known
born k = record k { at = Live; writes = false; waits = false; last = 0 }

pub born-shift : (k : Known) (p : Part) → Pair k p → k.at ≡ Unborn → Shift k (born k) p
born-shift k p e u =
    record {
      pair = record {
        promised = e.promised;
        committed = e.committed;
        written = e.written;
        unpromised = e.unpromised;
        prepared = e.prepared;
        kept = e.kept;
        vote = e.vote;
        waits = λ x. absurd (drawn-waits k p e x u);
        awaited = λ x z. absurd (drawn-waits k p e z u);
        aborts = λ x. grind (arith, nat_tests);
        ends = λ x. grind (arith, nat_tests);
        either = e.either;
        undecided = λ x. grind (arith, nat_tests);
        decided = λ x. grind (arith, nat_tests);
        unborn = λ x. grind (arith, nat_tests);
        live = λ x. grind (arith, nat_tests);
        learns = λ x y. grind (arith, nat_tests);
        learned = λ x y. grind (arith, nat_tests);
        closing = λ x. grind (arith, nat_tests);
        asked = λ b x. grind (arith, nat_tests);
        alone = λ b x. grind (arith, nat_tests);
        both = λ b x. grind (arith, nat_tests);
      };
      stays = said-stays k (born k) p (record {
        command = λ c d. absurd (d.drawn u);
        done = λ c w d. absurd (d.drawn u);
        prepare = λ s v. grind (arith, nat_tests);
        commit = λ s v. grind (arith, nat_tests);
        two = λ s. grind (arith, nat_tests);
        abort = λ s. s;
        forget = λ s. s;
      });
    }

-- A COMMAND GOES OUT
abbrev pub sending : Bool → Known → Known
sending b k = record k { last = k.last + 1; waits = b }

pub send-shift : (b : Bool) (k : Known) (p : Part) → Pair k p → k.at ≡ Live → k.waits ≡ false → Shift k (sending b k) p
send-shift b k p e u n =
    record {
      pair = record {
        promised = e.promised;
        committed = e.committed;
        written = e.written;
        unpromised = e.unpromised;
        prepared = e.prepared;
        kept = e.kept;
        vote = e.vote;
        waits = e.waits;
        awaited = λ x z. quiet-waits k.waits n (e.awaited x z).0;
        aborts = e.aborts;
        ends = e.ends;
        either = e.either;
        undecided = e.undecided;
        decided = e.decided;
        unborn = λ x. grind (arith, nat_tests);
        live = λ x. grind (arith, nat_tests);
        learns = e.learns;
        learned = λ x y. e.learned x n;
        closing = λ x. e.closing x;
        asked = λ b x. e.asked b x;
        alone = λ b x. e.alone b x;
        both = λ b x. e.both b x;
      };
      stays = said-stays k (sending b k) p (record {
        command = λ c d. record { drawn = d.drawn; last = λ x. more c k.last (d.last x); taken = λ x y. d.taken x n; older = λ x y. d.taken x n; closed = d.closed; over = d.over };
        done = λ c w d. record { drawn = d.drawn; last = λ x. more c k.last (d.last x); same = λ x y. absurd (beyond c k.last (d.last x) y) };
        prepare = λ s v. s v;
        commit = λ s v. s v;
        two = λ s. s;
        abort = λ s. s;
        forget = λ s. s;
      });
    }
  where
    more : (a b : ℕ) → a ≤ b → a ≤ b + 1
    more a b x = omega arith

    beyond : (a b : ℕ) → a ≤ b → a ≡ b + 1 → ⊥
    beyond a b x y = omega arith

-- the command to a segment that is awaited
pub is-sent : (k : Known) (p : Part) (c : ℕ) → k.at ≡ Live → k.waits ≡ true → c ≡ k.last → IsCommand k p c
is-sent k p c l w e =
    record {
      drawn = λ x. grind (arith, nat_tests);
      last = λ x. grind (arith, nat_tests);
      taken = λ x y. grind (arith, nat_tests);
      older = λ x y. grind (arith, nat_tests);
      closed = λ x. grind (arith, nat_tests);
      over = λ x y. grind (arith, nat_tests);
    }

-- A SEGMENT IS DONE
abbrev pub learning : Bool → Known → Known
learning wrote k = record k { waits = false; writes = wrote || k.writes }

pub learn-shift : (wrote : Bool) (k : Known) (p : Part) → Pair k p → k.at ≡ Live → p.last ≡ k.last → wrote ≡ p.wrote → p.waits ≡ false → Shift k (learning wrote k) p
learn-shift wrote k p e u n h q =
    record {
      pair = record {
        promised = e.promised;
        committed = e.committed;
        written = e.written;
        unpromised = e.unpromised;
        prepared = e.prepared;
        kept = e.kept;
        vote = e.vote;
        waits = e.waits;
        awaited = λ x z. quiet-waits p.waits q z;
        aborts = e.aborts;
        ends = e.ends;
        either = e.either;
        undecided = e.undecided;
        decided = e.decided;
        unborn = λ x. grind (arith, nat_tests);
        live = e.live;
        learns = λ x y. known wrote k.writes p.wrote h (e.learns x) y;
        learned = λ x y. same wrote k.writes p.wrote h (e.learns x);
        closing = λ x. grind (arith, nat_tests);
        asked = λ b x. grind (arith, nat_tests);
        alone = λ b x. grind (arith, nat_tests);
        both = λ b x. grind (arith, nat_tests);
      };
      stays = said-stays k (learning wrote k) p (record {
        command = λ c d. record { drawn = d.drawn; last = d.last; taken = λ x y. up c p.last k.last n (d.last x); older = d.older; closed = d.closed; over = d.over };
        done = λ c w d. record { drawn = d.drawn; last = d.last; same = d.same };
        prepare = λ s v. s v;
        commit = λ s v. s v;
        two = λ s. s;
        abort = λ s. s;
        forget = λ s. s;
      });
    }
  where
    up : (a b c : ℕ) → b ≡ c → a ≤ c → a ≤ b
    up a b c x y = omega arith

    known : (a b c : Bool) → a ≡ c → (b ≡ true → c ≡ true) → (a || b) ≡ true → c ≡ true
    known a b c x y z = grind arith

    same : (a b c : Bool) → a ≡ c → (b ≡ true → c ≡ true) → (a || b) ≡ c
    same a b c x y = grind arith

-- ONE WRITER IS TOLD TO COMMIT
pub alone-shift : (b : Bool) (k : Known) (p : Part) → Pair k p → k.at ≡ Live → k.waits ≡ false → b ≡ k.writes → Shift k (record k { at = One b }) p
alone-shift b k p e u n h =
    record {
      pair = record {
        promised = e.promised;
        committed = e.committed;
        written = e.written;
        unpromised = e.unpromised;
        prepared = e.prepared;
        kept = e.kept;
        vote = e.vote;
        waits = λ x. quiet-waits k.waits n (e.awaited u x).0;
        awaited = λ x z. quiet-waits k.waits n (e.awaited u z).0;
        aborts = λ x. grind (arith, nat_tests);
        ends = λ x. grind (arith, nat_tests);
        either = e.either;
        undecided = λ x. grind (arith, nat_tests);
        decided = λ x. grind (arith, nat_tests);
        unborn = λ x. grind (arith, nat_tests);
        live = λ x. grind (arith, nat_tests);
        learns = λ x y. grind (arith, nat_tests);
        learned = λ x y. grind (arith, nat_tests);
        closing = λ x. e.learned u n;
        asked = λ b x. grind (arith, nat_tests);
        alone = λ b x. grind (arith, nat_tests);
        both = λ b x. grind (arith, nat_tests);
      };
      stays = said-stays k (record k { at = One b }) p (record {
        command = λ c d. record { drawn = λ x. grind (arith, nat_tests); last = λ x. grind (arith, nat_tests); taken = λ x y. grind (arith, nat_tests); older = λ x y. grind (arith, nat_tests); closed = λ x. d.taken u n; over = λ x y. d.taken u n };
        done = λ c w d. record { drawn = λ x. grind (arith, nat_tests); last = λ x. grind (arith, nat_tests); same = λ x y. grind (arith, nat_tests) };
        prepare = λ s v. grind (arith, nat_tests);
        commit = λ s v. grind (arith, nat_tests);
        two = λ s. grind (arith, nat_tests);
        abort = λ s. s;
        forget = λ s. s;
      });
    }

-- WRITERS ARE ASKED TO PROMISE
pub ask-shift : (b : Bool) (k : Known) (p : Part) → Pair k p → k.at ≡ Live → k.waits ≡ false → b ≡ k.writes → Shift k (record k { at = Preparing b }) p
ask-shift b k p e u n h =
    record {
      pair = record {
        promised = e.promised;
        committed = e.committed;
        written = e.written;
        unpromised = e.unpromised;
        prepared = e.prepared;
        kept = e.kept;
        vote = e.vote;
        waits = λ x. quiet-waits k.waits n (e.awaited u x).0;
        awaited = λ x z. quiet-waits k.waits n (e.awaited u z).0;
        aborts = λ x. grind (arith, nat_tests);
        ends = λ x. grind (arith, nat_tests);
        either = e.either;
        undecided = λ x. grind (arith, nat_tests);
        decided = λ x. grind (arith, nat_tests);
        unborn = λ x. grind (arith, nat_tests);
        live = λ x. grind (arith, nat_tests);
        learns = λ x y. grind (arith, nat_tests);
        learned = λ x y. grind (arith, nat_tests);
        closing = λ x. e.learned u n;
        asked = λ b x. grind (arith, nat_tests);
        alone = λ b x. grind (arith, nat_tests);
        both = λ b x. grind (arith, nat_tests);
      };
      stays = said-stays k (record k { at = Preparing b }) p (record {
        command = λ c d. record { drawn = λ x. grind (arith, nat_tests); last = λ x. grind (arith, nat_tests); taken = λ x y. grind (arith, nat_tests); older = λ x y. grind (arith, nat_tests); closed = λ x. d.taken u n; over = λ x y. d.taken u n };
        done = λ c w d. record { drawn = λ x. grind (arith, nat_tests); last = λ x. grind (arith, nat_tests); same = λ x y. grind (arith, nat_tests) };
        prepare = λ s v. grind (arith, nat_tests);
        commit = λ s v. grind (arith, nat_tests);
        two = λ s. grind (arith, nat_tests);
        abort = λ s. s;
        forget = λ s. s;
      });
    }

-- A WRITER HAS PROMISED
pub promised-shift : (k : Known) (p : Part) → Pair k p → k.at ≡ Preparing true → was_prepared p.vote ≡ true → Shift k (record k { at = Preparing false }) p
promised-shift k p e u h =
    record {
      pair = record {
        promised = e.promised;
        committed = e.committed;
        written = e.written;
        unpromised = e.unpromised;
        prepared = e.prepared;
        kept = e.kept;
        vote = e.vote;
        waits = λ x. absurd (unclosed-waits k p e x (closing k.at u));
        awaited = λ x z. absurd (unclosed-waits k p e z (closing k.at u));
        aborts = λ x. grind (arith, nat_tests);
        ends = λ x. grind (arith, nat_tests);
        either = e.either;
        undecided = λ x. grind (arith, nat_tests);
        decided = λ x. grind (arith, nat_tests);
        unborn = λ x. grind (arith, nat_tests);
        live = λ x. grind (arith, nat_tests);
        learns = λ x y. grind (arith, nat_tests);
        learned = λ x y. grind (arith, nat_tests);
        closing = λ x. grind (arith, nat_tests);
        asked = λ b x. grind (arith, nat_tests);
        alone = λ b x. grind (arith, nat_tests);
        both = λ b x. grind (arith, nat_tests);
      };
      stays = said-stays k (record k { at = Preparing false }) p (record {
        command = λ c d. record { drawn = λ x. grind (arith, nat_tests); last = λ x. grind (arith, nat_tests); taken = λ x y. grind (arith, nat_tests); older = λ x y. grind (arith, nat_tests); closed = λ x. d.closed (closing k.at u); over = λ x y. d.closed (closing k.at u) };
        done = λ c w d. record { drawn = λ x. grind (arith, nat_tests); last = λ x. grind (arith, nat_tests); same = λ x y. grind (arith, nat_tests) };
        prepare = λ s v. grind (arith, nat_tests);
        commit = λ s v. grind (arith, nat_tests);
        two = λ s. grind (arith, nat_tests);
        abort = λ s. s;
        forget = λ s. s;
      });
    }
  where
    closing : (a : Standing) → a ≡ Preparing true → is_closing a ≡ true
    closing a x = grind (arith, nat_tests)

-- IT IS DECIDED
abbrev pub deciding : Bool → Known → Known
deciding b k = record k { at = Two b; decided = k.decided + 1 }

pub decide-shift : (a b : Bool) (k : Known) (p : Part) → Pair k p → k.at ≡ Preparing a → was_prepared p.vote ≡ k.writes → b ≡ k.writes → Shift k (deciding b k) p
decide-shift a b k p e u h j =
    record {
      pair = record {
        promised = e.promised;
        committed = e.committed;
        written = e.written;
        unpromised = e.unpromised;
        prepared = e.prepared;
        kept = e.kept;
        vote = e.vote;
        waits = λ x. absurd (unclosed-waits k p e x (closing k.at u));
        awaited = λ x z. absurd (unclosed-waits k p e z (closing k.at u));
        aborts = λ x. grind (arith, nat_tests);
        ends = λ x. grind (arith, nat_tests);
        either = e.either;
        undecided = λ x. grind (arith, nat_tests);
        decided = λ x. grind (arith, nat_tests);
        unborn = λ x. grind (arith, nat_tests);
        live = λ x. grind (arith, nat_tests);
        learns = λ x y. grind (arith, nat_tests);
        learned = λ x y. grind (arith, nat_tests);
        closing = λ x. grind (arith, nat_tests);
        asked = λ b x. grind (arith, nat_tests);
        alone = λ b x. grind (arith, nat_tests);
        both = λ b x. grind (arith, nat_tests);
      };
      stays = said-stays k (deciding b k) p (record {
        command = λ c d. record { drawn = λ x. grind (arith, nat_tests); last = λ x. grind (arith, nat_tests); taken = λ x y. grind (arith, nat_tests); older = λ x y. grind (arith, nat_tests); closed = λ x. d.closed (closing k.at u); over = λ x y. d.closed (closing k.at u) };
        done = λ c w d. record { drawn = λ x. grind (arith, nat_tests); last = λ x. grind (arith, nat_tests); same = λ x y. grind (arith, nat_tests) };
        prepare = λ s v. grind (arith, nat_tests);
        commit = λ s v. grind (arith, nat_tests);
        two = λ s. grind (arith, nat_tests);
        abort = λ s. s;
        forget = λ s. s;
      });
    }
  where
    closing : (q : Standing) → q ≡ Preparing a → is_closing q ≡ true
    closing q x = grind (arith, nat_tests)

-- A WRITER HAS COMMITTED AS PROMISED
pub finished-shift : (k : Known) (p : Part) → Pair k p → k.at ≡ Two true → has_committed p.phase ≡ true → Shift k (record k { at = Two false }) p
finished-shift k p e u h =
    record {
      pair = record {
        promised = e.promised;
        committed = e.committed;
        written = e.written;
        unpromised = e.unpromised;
        prepared = e.prepared;
        kept = e.kept;
        vote = e.vote;
        waits = λ x. absurd (unclosed-waits k p e x (closing k.at u));
        awaited = λ x z. absurd (unclosed-waits k p e z (closing k.at u));
        aborts = λ x. grind (arith, nat_tests);
        ends = λ x. grind (arith, nat_tests);
        either = e.either;
        undecided = λ x. grind (arith, nat_tests);
        decided = λ x. grind (arith, nat_tests);
        unborn = λ x. grind (arith, nat_tests);
        live = λ x. grind (arith, nat_tests);
        learns = λ x y. grind (arith, nat_tests);
        learned = λ x y. grind (arith, nat_tests);
        closing = λ x. grind (arith, nat_tests);
        asked = λ b x. grind (arith, nat_tests);
        alone = λ b x. grind (arith, nat_tests);
        both = λ b x. grind (arith, nat_tests);
      };
      stays = said-stays k (record k { at = Two false }) p (record {
        command = λ c d. record { drawn = λ x. grind (arith, nat_tests); last = λ x. grind (arith, nat_tests); taken = λ x y. grind (arith, nat_tests); older = λ x y. grind (arith, nat_tests); closed = λ x. d.closed (closing k.at u); over = λ x y. d.closed (closing k.at u) };
        done = λ c w d. record { drawn = λ x. grind (arith, nat_tests); last = λ x. grind (arith, nat_tests); same = λ x y. grind (arith, nat_tests) };
        prepare = λ s v. grind (arith, nat_tests);
        commit = λ s v. grind (arith, nat_tests);
        two = λ s. inr h;
        abort = λ s. s;
        forget = λ s. s;
      });
    }
  where
    closing : (a : Standing) → a ≡ Two true → is_closing a ≡ true
    closing a x = grind (arith, nat_tests)

-- IT HAS ITS MARK
pub over-shift : (k n : Known) (p : Part) → Pair k p → n.at ≡ Over → (k.at ≡ Unborn → ⊥) → (k.aborted ≡ true → n.aborted ≡ true) → (k.committed ≡ true → n.committed ≡ true) → (n.committed ≡ true → n.aborted ≡ false) → (p.vote ≡ None → k.at ≡ Preparing true → n.aborted ≡ true) → (p.vote ≡ None → k.at ≡ One true → ⊥) → (k.at ≡ Two true → has_committed p.phase ≡ true) → (k.at ≡ Live → n.aborted ≡ false → k.waits ≡ false) → Shift k n p
over-shift k n p e o b ab co ei pr on tw fi =
    record {
      pair = record {
        promised = e.promised;
        committed = e.committed;
        written = e.written;
        unpromised = e.unpromised;
        prepared = e.prepared;
        kept = e.kept;
        vote = e.vote;
        waits = λ x. ((e.waits x).0, (e.waits x).1, inr (waits-end x));
        awaited = λ x z. grind (arith, nat_tests);
        aborts = λ x. o;
        ends = λ x. o;
        either = ei;
        undecided = λ x. grind (arith, nat_tests);
        decided = λ x. grind (arith, nat_tests);
        unborn = λ x. grind (arith, nat_tests);
        live = λ x. grind (arith, nat_tests);
        learns = λ x y. grind (arith, nat_tests);
        learned = λ x y. grind (arith, nat_tests);
        closing = λ x. grind (arith, nat_tests);
        asked = λ b x. grind (arith, nat_tests);
        alone = λ b x. grind (arith, nat_tests);
        both = λ b x. grind (arith, nat_tests);
      };
      stays = said-stays k n p (record {
        command = λ c d. record { drawn = λ x. grind (arith, nat_tests); last = λ x. grind (arith, nat_tests); taken = λ x y. grind (arith, nat_tests); older = λ x y. grind (arith, nat_tests); closed = λ x. grind (arith, nat_tests); over = λ x f. taken c d f k.at refl };
        done = λ c w d. record { drawn = λ x. grind (arith, nat_tests); last = λ x. grind (arith, nat_tests); same = λ x y. grind (arith, nat_tests) };
        prepare = λ s v. prepares v (s v);
        commit = λ s v. absurd (on v (s v));
        two = λ s. twos s;
        abort = ab;
        forget = co;
      });
    }
  where
    still : k.aborted ≡ true → n.aborted ≡ false → ⊥
    still x f = quiet-waits n.aborted f (ab x)

    taken : (c : ℕ) → IsCommand k p c → n.aborted ≡ false → (a : Standing) → k.at ≡ a → c ≤ p.last
    taken c d f Unborn g = absurd (d.drawn g)
    taken c d f Live g = d.taken g (fi g f)
    taken c d f (Preparing x) g = d.closed (ap is_closing g)
    taken c d f (One x) g = d.closed (ap is_closing g)
    taken c d f (Two x) g = d.closed (ap is_closing g)
    taken c d f Over g = d.over g (false_from_ne_true k.aborted (λ x. still x f))

    waits-end : p.waits ≡ true → n.aborted ≡ true
    waits-end x = by_test n.aborted refl (e.waits x).2
      where
        by_test : (c : Bool) → n.aborted ≡ c → (k.at ≡ Live) ⊎ (k.aborted ≡ true) → n.aborted ≡ true
        by_test true f z = f
        by_test false f (inl z) = quiet-waits k.waits (fi z f) (e.awaited z x).0
        by_test false f (inr z) = ab z

    prepares : p.vote ≡ None → (k.at ≡ Preparing true) ⊎ (k.aborted ≡ true) → (n.at ≡ Preparing true) ⊎ (n.aborted ≡ true)
    prepares v (inl x) = inr (pr v x)
    prepares v (inr x) = inr (ab x)

    twos : (k.at ≡ Two true) ⊎ (has_committed p.phase ≡ true) → (n.at ≡ Two true) ⊎ (has_committed p.phase ≡ true)
    twos (inl x) = inr (tw x)
    twos (inr x) = inr x
