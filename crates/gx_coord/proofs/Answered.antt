-- Answers of segments keep what is known of transactions.
use Rattle.std.proofs.Common.{◌≡◌, ◌≤◌, ◌<◌, ℕ, ◌+◌, ◌*◌, ◌^◌, List, [], ◌∷◌, Option, Some, None, Bool, true, false, refl, sym, subst, ◌∙◌, if◌then◌else◌, ◌&&◌, not, arith, eqb, length, le_refl}
use Rattle.std.proofs.lemmas.Bool.Decides.{nat_tests}
use Rattle.std.proofs.lemmas.List.Elements.{All-push}
use Rattle.std.proofs.lemmas.List.{length_push}
use Rattle.std.proofs.lemmas.Bool.{and_parts}
use Rattle.gx_lemmas.proofs.Tests.{and-second, or-other}
use Rattle.gx_ids.specs.declared.ids.Cid.{Cid}
use Rattle.gx_ids.specs.declared.ids.Node.{Node}
use Rattle.gx_tree.specs.declared.part.Part.{Part}
use Rattle.gx_dtx.proofs.Has.{has-with, has-without}
use Rattle.gx_dtx.specs.Nodes.{AreRising, has}
use Rattle.gx_dtx.specs.Rules.{abort_found, on_abort}
use Rattle.gx_dtx.specs.Table.{find_txn, participants_in}
use Rattle.gx_dtx.specs.declared.txn.Txn.{Txn}
use Rattle.gx_msg.specs.declared.message.Message.{Message}
use Rattle.gx_msg.specs.declared.message.Message.TheVariants as message
use Rattle.gx_msg.specs.declared.reply.Cause.{Cause}
use Rattle.gx_msg.specs.declared.reply.Reply.{Reply}
use Rattle.gx_msg.specs.declared.reply.Reply.TheVariants as reply
use Rattle.gx_rules.specs.AtCoordinator.{goes_on, is_awaited, on_answer, on_done, on_failed, on_message, reason_of, takes_done, with_done, writers_with}
use Rattle.gx_rules.specs.Coordinators.{Command, Coord, Work, rests, with_work}
use Rattle.gx_rules.specs.Fits.{fits_part}
use Rattle.gx_rules.proofs.Rounds.{graph-ways}
use Rattle.gx_law_order.specs.Stages.{IsWhole, stage}
use Rattle.gx_law_order.specs.Standings.{gx}
use Rattle.gx_coord.specs.Sound.{AreSound, AreSoundIn, IsSmallMessage, IsSmallReply, IsSoundCommand, IsSoundWork}
use Rattle.gx_coord.proofs.Keeping.{completes-sound, refused-sound, replies-sound}
use Rattle.gx_coord.proofs.Rising.{rising-with}
use Rattle.gx_coord.proofs.Sound.{sound-after, with_at-other, with_at-same}

-- the writer is a participant, since its answer was awaited
with-among : (b : Bool) (i : Node) (writers all : List Node) → ((j : Node) → has j writers ≡ true → has j all ≡ true) → has i all ≡ true → (j : Node) → has j (writers_with b i writers) ≡ true → has j all ≡ true
with-among false i writers all f h j e = f j e
with-among true i writers all f h j e = by_test (eqb i.0 j.0) refl
  where
    same : (i j : Node) → eqb i.0 j.0 ≡ true → i ≡ j
    same i j q = grind (arith, nat_tests)

    by_test : (q : Bool) → eqb i.0 j.0 ≡ q → has j all ≡ true
    by_test true q = subst (λ n. has n all ≡ true) (same i j q) h
    by_test false q = f j (or-other (eqb i.0 j.0) (has j writers) q (sym (has-with j i writers) ∙ e))

with-rising : (b : Bool) (i : Node) (writers : List Node) → AreRising writers → AreRising (writers_with b i writers)
with-rising false i writers r = r
with-rising true i writers r = rising-with i writers r

counted : (k n l : ℕ) → k ≤ 2 ^ 64 * l → n < 2 ^ 64 → k + n ≤ 2 ^ 64 * (l + 1)
counted k n l e s = omega (arith, e, s)

-- the answer is noted
pub done-sound : (w : Work) (lines : ℕ) (t : Option Txn) (k : Command) (i : Node) (cid : Cid) (wrote : Bool) (count : ℕ) (part : Part) → IsSoundWork w lines t → w.command ≡ Some k → is_awaited k i cid ≡ true → fits_part k.stmt part ≡ true → count < 2 ^ 64 → IsSoundWork (record w { writers = writers_with wrote i w.writers; command = Some (with_done k i count part) }) lines t
done-sound w lines t k i cid wrote count part h e a f s =
    record {
      writers = with-rising wrote i w.writers h.writers;
      among = λ l j q. with-among wrote i w.writers (participants_in t) (h.among l) (under.awaited l i (and_parts _ _ a).1) j q;
      command = record {
        fits = All-push (λ p. fits_part k.stmt p ≡ true) k.parts part under.fits f;
        count = subst (λ n. k.count + count ≤ 2 ^ 64 * n) (sym (length_push k.parts part)) (counted k.count count (length k.parts) under.count s);
        awaited = λ l j q. under.awaited l j (and-second (not (eqb i.0 j.0)) (has j k.awaited) (sym (has-without j i k.awaited) ∙ q));
      };
      last = h.last;
      room = h.room;
    }
  where
    under : IsSoundCommand k (participants_in t) (stage t)
    under = subst (λ o. AreSoundIn o (participants_in t) (stage t)) e h.command

module _ (c : Coord) (whole : IsWhole c.table) (e : AreSound c) (g : ℕ) where
  work-sound : (w : Work) → w.session ≡ (c.works g).session → IsSoundWork w (c.sessions (c.works g).session.0).lines (find_txn c.table (gx g)) → AreSound (with_work c (gx g) w)
  work-sound w s h =
      sound-after c (with_work c (gx g) w) g e
      (record {
        finds = λ j q. refl;
        works = λ j q. with_at-other c.works g w j q;
        lines = λ j. le_refl _;
        here = subst (λ (v : Work). IsSoundWork v (c.sessions v.session.0).lines (find_txn c.table (gx g))) (sym (with_at-same c.works g w))
            (subst (λ (i : Rattle.gx_ids.specs.declared.ids.SessionId.SessionId). IsSoundWork w (c.sessions i.0).lines (find_txn c.table (gx g))) (sym s) h);
      })

  goes-sound : (or-other : List Node) → AreSound (goes_on c (gx g) or-other).coord
  goes-sound [] = completes-sound c whole e g _
  goes-sound (i ∷ is) = e

module _ (c : Coord) (whole : IsWhole c.table) (e : AreSound c) (g : ℕ) where
  done_sound : (i : Node) (cid : Cid) (wrote : Bool) (count : ℕ) (part : Part) (k : Option Command) → (c.works g).command ≡ k → count < 2 ^ 64 → AreSound (on_done c (gx g) i cid wrote count part k).coord
  done_sound i cid wrote count part None q s = e
  done_sound i cid wrote count part (Some k) q s = at (is_awaited k i cid && fits_part k.stmt part) refl
    where
      w : Work
      w = record (c.works g) { writers = writers_with wrote i (c.works g).writers; command = Some (with_done k i count part) }

      at : (b : Bool) → (is_awaited k i cid && fits_part k.stmt part) ≡ b → AreSound (if b then takes_done c (gx g) i wrote count part k else rests c).coord
      at true f = goes-sound (with_work c (gx g) w) whole (work-sound c whole e g w refl (done-sound (c.works g) _ _ k i cid wrote count part (e g) q (and_parts _ _ f).0 (and_parts _ _ f).1 s)) g _
      at false f = e

  failed_sound : (i : Node) (cid : Cid) (cause : Cause) (k : Option Command) → AreSound (on_failed c (gx g) i cid cause k).coord
  failed_sound i cid cause None = e
  failed_sound i cid cause (Some k) = at (is_awaited k i cid)
    where
      at : (b : Bool) → AreSound (if b then Rattle.gx_rules.specs.AtCoordinator.is_refused c (gx g) (on_abort c.table (gx g)) [] (reason_of cause) else rests c).coord
      at true = refused-sound c whole e g (abort_found (gx g) (find_txn c.table (gx g))) [] (reason_of cause)
      at false = e

  pub answer-sound : (i : Node) (fails : Bool) (r : Reply) → IsSmallReply r → AreSound (on_answer c (gx g) i fails r).coord
  answer-sound i fails (reply.Done cid wrote count part) s = done_sound i cid wrote count part _ refl s
  answer-sound i fails (reply.Failed cid cause) s = failed_sound i cid cause _
  answer-sound i fails reply.Prepared s = replies-sound c whole e g i _ fails
  answer-sound i fails reply.Committed s = replies-sound c whole e g i _ fails
  answer-sound i fails reply.Jfault s = replies-sound c whole e g i _ fails
  answer-sound i fails reply.Again s = replies-sound c whole e g i _ fails
  answer-sound i fails reply.Restarted s = replies-sound c whole e g i _ fails
  answer-sound i fails reply.Aborted s = replies-sound c whole e g i _ fails
  answer-sound i fails reply.Forgotten s = replies-sound c whole e g i _ fails

pub message-sound : (c : Coord) → IsWhole c.table → AreSound c → (from : Node) (fails : Bool) (m : Message) → IsSmallMessage m → AreSound (on_message c from fails m).coord
message-sound c whole e from fails (message.Answer g r) s = answer-sound c whole e g.0 from fails r s
message-sound c whole e from fails (message.Exec g cid level x h y) s = e
message-sound c whole e from fails (message.Prepare g) s = e
message-sound c whole e from fails (message.Commit g) s = e
message-sound c whole e from fails (message.CommitPrepared g) s = e
message-sound c whole e from fails (message.Abort g) s = e
message-sound c whole e from fails (message.Forget g) s = e
message-sound c whole e from fails (message.Collect round) s = e
message-sound c whole e from fails (message.Graph round graph) s = graph-ways (λ turn. AreSound turn.coord) c from round graph e (λ r. e) (λ r a. e)
message-sound c whole e from fails message.Up s = e
