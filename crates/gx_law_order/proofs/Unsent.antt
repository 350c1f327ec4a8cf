-- Over every run of the machine: no command is sent before its transaction is drawn, nor before its number is given.
use Rattle.std.proofs.Common.{◌≡◌, ◌<◌, ◌≤◌, ℕ, ◌==◌, List, [], ◌∷◌, ◌++◌, Option, Some, None, Bool, true, false, refl, sym, subst, ap, ◌∙◌, ◌||◌, if◌then◌else◌, arith, eqb-true}
use Rattle.std.proofs.lemmas.Bool.{and_parts}
use Rattle.std.proofs.lemmas.Bool.Decides.{nat_tests}
use Rattle.std.specs.Prelude.{nat_le}
use Rattle.gx_ids.specs.declared.ids.Cid.{Cid}
use Rattle.gx_ids.specs.declared.ids.Gxid.{Gxid}
use Rattle.gx_ids.specs.declared.ids.Node.{Node}
use Rattle.gx_dtx.specs.Table.{find_txn}
use Rattle.gx_dtx.specs.declared.txn.Txn.{Txn}
use Rattle.gx_msg.specs.declared.message.Message.{Message}
use Rattle.gx_msg.specs.declared.message.Message.TheVariants as message
use Rattle.gx_script.specs.declared.Script.{Script}
use Rattle.gx_store.specs.declared.event.Event.{Event}
use Rattle.gx_store.specs.declared.mark.Mark.{Mark}
use Rattle.gx_store.specs.declared.mark.Mark.TheVariants as mark
use Rattle.gx_store.specs.Marks.{is_order_of, is_same_gxid, is_sent}
use Rattle.gx_store.specs.Points.{marks_in}
use Rattle.gx_rules.specs.AtCoordinator.{cancel_turn, coord_turn}
use Rattle.gx_rules.specs.AtSegment.{seg_rule}
use Rattle.gx_rules.specs.Coordinators.{Coord}
use Rattle.gx_rules.specs.Machine.{Letter, World, and_cancelled, coord_did, new_world, posted, world_of}
use Rattle.gx_law_order.specs.Moves.{Move, world_by}
use Rattle.gx_law_order.specs.Said.{IsCommand, SaidAt, SaidIn, is_answer}
use Rattle.gx_law_order.specs.Standings.{gx, known_at, part_at, standing}
use Rattle.gx_law_order.specs.Standings.Standing.{Live, Unborn}
use Rattle.gx_law_order.proofs.Always.{Sound, moves-sound}
use Rattle.gx_law_order.proofs.Events.{live-stage}
use Rattle.gx_law_order.proofs.Induction.{at-moves, marks-by-event, marks-by-victim}
use Rattle.gx_law_order.specs.Lists.{Each}
use Rattle.gx_law_order.proofs.More.{marks-last}
use Rattle.gx_law_order.proofs.Moves.{moves_after, world-moves}
use Rattle.gx_law_order.proofs.Past.{there-drawn}
use Rattle.gx_law_order.specs.Stages.{stage_of}
use Rattle.gx_law_order.specs.Stages.Stage.{Live as LiveStage}

-- a command that runs has a number up to the last
pub record Unsent (c : Coord) (ms : List Mark) : Type 0 where
  pub live : (h : ℕ) → stage_of c h ≡ LiveStage → (d : Cid) → (c.works h).last < d.0 → is_sent ms (gx h) d ≡ false
  pub unborn : (h : ℕ) → c.table.next.0 ≤ h → (d : Cid) → is_sent ms (gx h) d ≡ false

-- MARKS AND LETTERS
or-assoc : (a b c : Bool) → (a || (b || c)) ≡ ((a || b) || c)
or-assoc true b c = refl
or-assoc false b c = refl

pub sent-append : (xs ys : List Mark) (g : Gxid) (d : Cid) → is_sent (xs ++ ys) g d ≡ is_sent xs g d || is_sent ys g d
sent-append [] ys g d = refl
sent-append (mark.Sent to number told ∷ xs) ys g d = ap (λ b. is_order_of g d told || b) (sent-append xs ys g d) ∙ or-assoc (is_order_of g d told) (is_sent xs g d) (is_sent ys g d)
sent-append (m ∷ xs) ys g d = sent-append xs ys g d

-- marks that tell of no sending of it
pub unsent-more : (xs ys : List Mark) (g : Gxid) (d : Cid) → is_sent xs g d ≡ false → is_sent ys g d ≡ false → is_sent (xs ++ ys) g d ≡ false
unsent-more xs ys g d e f = sent-append xs ys g d ∙ ap (λ b. b || is_sent ys g d) e ∙ f

-- one of the letters is an order of the command
abbrev is_posted : List Letter → Gxid → Cid → Bool
is_posted [] g d = false
is_posted (l ∷ ls) g d = is_order_of g d l.envelope.message || is_posted ls g d

posted-more : (from : Node) (clock : ℕ) (ms : List Mark) (sent : List Letter) (g : Gxid) (d : Cid) → is_posted (posted from clock ms sent) g d ≡ is_posted sent g d || is_sent ms g d
posted-more from clock [] sent g d = or-none (is_posted sent g d)
  where
    or-none : (b : Bool) → b ≡ b || false
    or-none true = refl
    or-none false = refl
posted-more from clock (mark.Sent to number told ∷ ms) sent g d =
    posted-more from clock ms (record { from = from; to = to; envelope = record { number = number; clock = clock; incarnation = 1; message = told } } ∷ sent) g d ∙ swapped (is_order_of g d told) (is_posted sent g d) (is_sent ms g d)
  where
    swapped : (a b c : Bool) → ((a || b) || c) ≡ (b || (a || c))
    swapped true true c = refl
    swapped true false c = refl
    swapped false b c = refl
posted-more from clock (m ∷ ms) sent g d = posted-more from clock ms sent g d

-- whatever was sent is a letter
abbrev ArePosted : World → Type 0
ArePosted w = (g : Gxid) (d : Cid) → is_posted w.sent g d ≡ is_sent (marks_in w.steps) g d

more-posted : (w : World) → ArePosted w → (from : Node) (clock : ℕ) (ms all : List Mark) → all ≡ marks_in w.steps ++ ms → (g : Gxid) (d : Cid) → is_posted (posted from clock ms w.sent) g d ≡ is_sent all g d
more-posted w p from clock ms all is g d = posted-more from clock ms w.sent g d ∙ ap (λ b. b || is_sent ms g d) (p g d) ∙ sym (sent-append (marks_in w.steps) ms g d) ∙ ap (λ m. is_sent m g d) (sym is)

module _ (script : Script) (some : 1 ≤ script.segments) where
  moves-posted : (ms : List Move) → ArePosted (world_by script ms)
  moves-posted =
      at-moves script some (λ w. Unit {0}) ArePosted (λ ms. tt) (λ g d. refl)
      (λ w k p e x fails t ok next. more-posted w p _ _ (coord_turn script w.coord x fails).marks (marks_in (coord_did w e (coord_turn script w.coord x fails)).steps) (marks-by-event script w e x fails))
      (λ w k p g a next. more-posted w p _ _ (cancel_turn w.coord g).marks (marks_in (and_cancelled w g).steps) (marks-by-victim w g a))
      (λ w k p e x fails i place t ok next. more-posted w p _ _ (seg_rule script (w.segs i) x fails).marks _ (marks-last w.steps _))

-- WHAT AN ORDER SAYS
record IsFoundAt (w : World) (g : Gxid) (d : Cid) : Type 0 where
  at : ℕ
  says : IsCommand (known_at w.coord (marks_in w.steps) at g.0) (part_at (w.segs at) (marks_in w.steps) at g.0) d.0

find-order : (w : World) (g : Gxid) (d : Cid) (ls : List Letter) → Each (SaidIn w) ls → is_posted ls g d ≡ true → IsFoundAt w g d
find-order w g d [] e f = absurd (cc)
find-order w g d (l ∷ ls) e f = by_first (is_order_of g d l.envelope.message) refl f (λ h. find-order w g d ls e.1 h)
  where
    by_message : (m : Message) → SaidAt w.coord w.segs (marks_in w.steps) (if is_answer m then l.from.0 else l.to.0) m → is_order_of g d m ≡ true → IsFoundAt w g d
    by_message (message.Exec h k level snapshot horizon slice) s q =
        record {
          at = l.to.0;
          says = subst (λ n. IsCommand (known_at w.coord (marks_in w.steps) l.to.0 g.0) (part_at (w.segs l.to.0) (marks_in w.steps) l.to.0 g.0) n) (eqb-true k.0 d.0 (and_parts (is_same_gxid h g) (k.0 == d.0) q).1)
              (subst (λ n. IsCommand (known_at w.coord (marks_in w.steps) l.to.0 n) (part_at (w.segs l.to.0) (marks_in w.steps) l.to.0 n) k.0) (eqb-true h.0 g.0 (and_parts (is_same_gxid h g) (k.0 == d.0) q).0) s);
        }
    by_message (message.Prepare h) s q = absurd (cc)
    by_message (message.Commit h) s q = absurd (cc)
    by_message (message.CommitPrepared h) s q = absurd (cc)
    by_message (message.Abort h) s q = absurd (cc)
    by_message (message.Forget h) s q = absurd (cc)
    by_message (message.Collect round) s q = absurd (cc)
    by_message (message.Answer h r) s q = absurd (cc)
    by_message (message.Graph round graph) s q = absurd (cc)
    by_message message.Up s q = absurd (cc)

    by_first : (b : Bool) → is_order_of g d l.envelope.message ≡ b → (b || is_posted ls g d) ≡ true → (is_posted ls g d ≡ true → IsFoundAt w g d) → IsFoundAt w g d
    by_first true q f more = by_message l.envelope.message e.0 q
    by_first false q f more = more f

module _ (script : Script) (w : World) (k : Sound script w) (p : ArePosted w) where
  -- it would be found
  none-sent : (g : Gxid) (d : Cid) → (IsFoundAt w g d → ⊥) → is_sent (marks_in w.steps) g d ≡ false
  none-sent g d none = by_test (is_sent (marks_in w.steps) g d) refl
    where
      by_test : (b : Bool) → is_sent (marks_in w.steps) g d ≡ b → b ≡ false
      by_test true e = absurd (none (find-order w g d w.sent k.holds.said (p g d ∙ e)))
      by_test false e = refl

  sound-unsent : Unsent w.coord (marks_in w.steps)
  sound-unsent = record { live = live; unborn = unborn }
    where
      past-last : (a b : ℕ) → a ≤ b → b < a → ⊥
      past-last a b l m = omega arith

      live : (h : ℕ) → stage_of w.coord h ≡ LiveStage → (d : Cid) → (w.coord.works h).last < d.0 → is_sent (marks_in w.steps) (gx h) d ≡ false
      live h e d l = none-sent (gx h) d (λ o. past-last d.0 (w.coord.works h).last (o.says.last (is-live o.at)) l)
        where
          is-live : (i : ℕ) → standing (nat_le w.coord.table.next.0 h) (find_txn w.coord.table (gx h)) i ≡ Live
          is-live i = let z = live-stage w.coord h e in ap (λ o. standing (nat_le w.coord.table.next.0 h) o i) z.found ∙ ap (λ q. Rattle.gx_law_order.specs.Standings.standing_in q i) z.active

      unborn : (h : ℕ) → w.coord.table.next.0 ≤ h → (d : Cid) → is_sent (marks_in w.steps) (gx h) d ≡ false
      unborn h l d = none-sent (gx h) d (λ o. o.says.drawn (is-unborn o.at))
        where
          above : (a b : ℕ) → a ≤ b → nat_le a b ≡ true
          above a b m = grind (arith, nat_tests)

          none-there : (o : Option Txn) → find_txn w.coord.table (gx h) ≡ o → o ≡ None
          none-there None e = refl
          none-there (Some t) e = absurd (past-last w.coord.table.next.0 h l (there-drawn w.coord.table.next.0 h w.coord.table.txns t k.knows.kept.whole.drawn e).1)

          is-unborn : (i : ℕ) → standing (nat_le w.coord.table.next.0 h) (find_txn w.coord.table (gx h)) i ≡ Unborn
          is-unborn i = ap (λ o. standing (nat_le w.coord.table.next.0 h) o i) (none-there (find_txn w.coord.table (gx h)) refl) ∙ ap (λ b. standing b None i) (above w.coord.table.next.0 h l)

module _ (script : Script) (some : 1 ≤ script.segments) where
  pub moves-unsent : (ms : List Move) → Unsent (world_by script ms).coord (marks_in (world_by script ms).steps)
  moves-unsent ms = sound-unsent script (world_by script ms) (moves-sound script some ms) (moves-posted script some ms)

  pub world-unsent : (es : List (Event × Bool)) → Unsent (world_of script es).coord (marks_in (world_of script es).steps)
  world-unsent es = subst (λ w. Unsent w.coord (marks_in w.steps)) (sym (world-moves script es)) (moves-unsent (moves_after script new_world es))
