-- Over every run of the machine: nobody whose commands run was asked to prepare, or to commit at once.
use Rattle.std.proofs.Common.{◌≡◌, ◌≤◌, ◌⊎◌, inl, inr, ℕ, List, [], ◌∷◌, ◌++◌, None, Bool, true, false, refl, sym, subst, ap, ◌∙◌, ◌||◌, arith}
use Rattle.std.proofs.lemmas.Bool.{eqb-true, false_from_ne_true}
use Rattle.gx_ids.specs.declared.ids.Gxid.{Gxid}
use Rattle.gx_ids.specs.declared.ids.Node.{Node}
use Rattle.gx_msg.specs.declared.message.Message.{Message}
use Rattle.gx_msg.specs.declared.message.Message.TheVariants as message
use Rattle.gx_script.specs.declared.Script.{Script}
use Rattle.gx_store.specs.declared.mark.Mark.{Mark}
use Rattle.gx_store.specs.declared.mark.Mark.TheVariants as mark
use Rattle.gx_store.specs.Marks.{is_committing, is_same_gxid}
use Rattle.gx_store.specs.Points.{marks_in}
use Rattle.gx_rules.specs.AtCoordinator.{cancel_turn, coord_turn}
use Rattle.gx_rules.specs.AtSegment.{seg_rule}
use Rattle.gx_rules.specs.Machine.{Letter, World, and_cancelled, coord_did, posted}
use Rattle.gx_law_order.proofs.Everywhere.{Holds, parts_in}
use Rattle.gx_law_order.proofs.Induction.{at-moves, marks-by-event, marks-by-victim}
use Rattle.gx_law_order.specs.Lists.{Each}
use Rattle.gx_law_order.proofs.More.{marks-last}
use Rattle.gx_law_order.specs.Moves.{Move, world_by}
use Rattle.gx_law_order.specs.Pairs.{Pair}
use Rattle.gx_law_order.specs.Said.{SaidAt, SaidIn, segment_of}
use Rattle.gx_law_order.specs.Standings.{Known, Part, Standing, known_at}
use Rattle.gx_law_order.specs.Standings.Standing.{Live, One, Over, Preparing}

-- MARKS AND LETTERS
or-assoc : (a b c : Bool) → (a || (b || c)) ≡ ((a || b) || c)
or-assoc true b c = refl
or-assoc false b c = refl

pub committing-append : (xs ys : List Mark) (g : Gxid) → is_committing (xs ++ ys) g ≡ is_committing xs g || is_committing ys g
committing-append [] ys g = refl
committing-append (mark.Sent to number (message.Prepare h) ∷ xs) ys g =
    ap (λ b. is_same_gxid h g || b) (committing-append xs ys g) ∙ or-assoc (is_same_gxid h g) (is_committing xs g) (is_committing ys g)
committing-append (mark.Sent to number (message.Commit h) ∷ xs) ys g =
    ap (λ b. is_same_gxid h g || b) (committing-append xs ys g) ∙ or-assoc (is_same_gxid h g) (is_committing xs g) (is_committing ys g)
committing-append (m ∷ xs) ys g = committing-append xs ys g

-- what asks for it
abbrev asks_for : Message → Gxid → Bool
asks_for (message.Prepare h) g = is_same_gxid h g
asks_for (message.Commit h) g = is_same_gxid h g
asks_for _ g = false

asked-now : (to : Node) (number : ℕ) (m : Message) (ms : List Mark) (g : Gxid) → is_committing (mark.Sent to number m ∷ ms) g ≡ asks_for m g || is_committing ms g
asked-now to number (message.Prepare h) ms g = refl
asked-now to number (message.Commit h) ms g = refl
asked-now to number (message.Exec h c level x y z) ms g = refl
asked-now to number (message.CommitPrepared h) ms g = refl
asked-now to number (message.Abort h) ms g = refl
asked-now to number (message.Forget h) ms g = refl
asked-now to number (message.Collect round) ms g = refl
asked-now to number (message.Answer h r) ms g = refl
asked-now to number (message.Graph round graph) ms g = refl
asked-now to number message.Up ms g = refl

-- one of the letters does
abbrev is_posted : List Letter → Gxid → Bool
is_posted [] g = false
is_posted (l ∷ ls) g = asks_for l.envelope.message g || is_posted ls g

posted-more : (from : Node) (clock : ℕ) (ms : List Mark) (sent : List Letter) (g : Gxid) → is_posted (posted from clock ms sent) g ≡ is_posted sent g || is_committing ms g
posted-more from clock [] sent g = or-none (is_posted sent g)
  where
    or-none : (b : Bool) → b ≡ b || false
    or-none true = refl
    or-none false = refl
posted-more from clock (mark.Sent to number told ∷ ms) sent g =
    posted-more from clock ms (record { from = from; to = to; envelope = record { number = number; clock = clock; incarnation = 1; message = told } } ∷ sent) g ∙ swapped (asks_for told g) (is_posted sent g) (is_committing ms g)
    ∙ ap (λ b. is_posted sent g || b) (sym (asked-now to number told ms g))
  where
    swapped : (a b c : Bool) → ((a || b) || c) ≡ (b || (a || c))
    swapped true true c = refl
    swapped true false c = refl
    swapped false b c = refl
posted-more from clock (m ∷ ms) sent g = posted-more from clock ms sent g

-- whatever was sent is a letter
abbrev pub ArePosted : World → Type 0
ArePosted w = (g : Gxid) → is_posted w.sent g ≡ is_committing (marks_in w.steps) g

more-posted : (w : World) → ArePosted w → (from : Node) (clock : ℕ) (ms all : List Mark) → all ≡ marks_in w.steps ++ ms → (g : Gxid) → is_posted (posted from clock ms w.sent) g ≡ is_committing all g
more-posted w p from clock ms all is g = posted-more from clock ms w.sent g ∙ ap (λ b. b || is_committing ms g) (p g) ∙ sym (committing-append (marks_in w.steps) ms g) ∙ ap (λ m. is_committing m g) (sym is)

pub moves-posted : (script : Script) → 1 ≤ script.segments → (ms : List Move) → ArePosted (world_by script ms)
moves-posted script some =
    at-moves script some (λ w. Unit {0}) ArePosted (λ ms. tt) (λ g. refl)
    (λ w k p e x fails t ok next. more-posted w p _ _ (coord_turn script w.coord x fails).marks (marks_in (coord_did w e (coord_turn script w.coord x fails)).steps) (marks-by-event script w e x fails))
    (λ w k p g a next. more-posted w p _ _ (cancel_turn w.coord g).marks (marks_in (and_cancelled w g).steps) (marks-by-victim w g a))
    (λ w k p e x fails i place t ok next. more-posted w p _ _ (seg_rule script (w.segs i) x fails).marks _ (marks-last w.steps _))

-- WHAT SUCH A LETTER SAYS
not-preparing : (a : Standing) → a ≡ Live → a ≡ Preparing true → ⊥
not-preparing a x y = grind arith

not-alone : (a : Standing) → a ≡ Live → a ≡ One true → ⊥
not-alone a x y = grind arith

not-over : (a : Standing) → a ≡ Live → a ≡ Over → ⊥
not-over a x y = grind arith

-- a segment of a transaction whose commands run has no vote
no-prepare : (k : Known) (p : Part) → Pair k p → k.at ≡ Live → (p.vote ≡ None → (k.at ≡ Preparing true) ⊎ (k.aborted ≡ true)) → ⊥
no-prepare k p e l s = by_way (s (e.live l).1)
  where
    by_way : (k.at ≡ Preparing true) ⊎ (k.aborted ≡ true) → ⊥
    by_way (inl q) = not-preparing k.at l q
    by_way (inr q) = not-over k.at l (e.aborts q)

no-commit : (k : Known) (p : Part) → Pair k p → k.at ≡ Live → (p.vote ≡ None → k.at ≡ One true) → ⊥
no-commit k p e l s = not-alone k.at l (s (e.live l).1)

module _ (script : Script) (w : World) (v : Holds script w) (g : Gxid) (live : (i : ℕ) → (known_at w.coord (marks_in w.steps) i g.0).at ≡ Live) where
  live-at : (h : Gxid) (i : ℕ) → is_same_gxid h g ≡ true → (known_at w.coord (marks_in w.steps) i h.0).at ≡ Live
  live-at h i q = subst (λ n. (known_at w.coord (marks_in w.steps) i n).at ≡ Live) (sym (eqb-true h.0 g.0 q)) (live i)

  none-says : (i : ℕ) (m : Message) → SaidAt w.coord w.segs (marks_in w.steps) i m → asks_for m g ≡ true → ⊥
  none-says i (message.Prepare h) s q = no-prepare (known_at w.coord (marks_in w.steps) i h.0) (parts_in w i h.0) (v.stands.pairs i h.0) (live-at h i q) s.1
  none-says i (message.Commit h) s q = no-commit (known_at w.coord (marks_in w.steps) i h.0) (parts_in w i h.0) (v.stands.pairs i h.0) (live-at h i q) s
  none-says i (message.Exec h c level x y z) s q = absurd (cc)
  none-says i (message.CommitPrepared h) s q = absurd (cc)
  none-says i (message.Abort h) s q = absurd (cc)
  none-says i (message.Forget h) s q = absurd (cc)
  none-says i (message.Collect round) s q = absurd (cc)
  none-says i (message.Answer h r) s q = absurd (cc)
  none-says i (message.Graph round graph) s q = absurd (cc)
  none-says i message.Up s q = absurd (cc)

  none-posted : (ls : List Letter) → Each (SaidIn w) ls → is_posted ls g ≡ true → ⊥
  none-posted [] e f = absurd (cc)
  none-posted (l ∷ ls) e f = by_first (asks_for l.envelope.message g) refl f (none-posted ls e.1)
    where
      by_first : (b : Bool) → asks_for l.envelope.message g ≡ b → (b || is_posted ls g) ≡ true → (is_posted ls g ≡ true → ⊥) → ⊥
      by_first true q f more = none-says (segment_of l) l.envelope.message e.0 q
      by_first false q f more = more f

  pub live-unasked : ArePosted w → is_committing (marks_in w.steps) g ≡ false
  live-unasked p = false_from_ne_true (is_committing (marks_in w.steps) g) (λ q. none-posted w.sent v.said (p g ∙ q))
