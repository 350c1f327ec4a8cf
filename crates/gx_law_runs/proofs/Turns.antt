-- What a turn about one transaction makes of its session: it has an answer, or it waits for some node's.
use Rattle.std.proofs.Common.{◌≡◌, ◌⊎◌, inl, inr, ℕ, List, [], ◌∷◌, Option, Some, None, Bool, true, false, refl, sym, subst, ap, ◌∙◌, if◌then◌else◌, eqb}
use Rattle.std.specs.Prelude.{is_some}
use Rattle.gx_lemmas.proofs.Numbers.{eqb-self}
use Rattle.gx_ids.specs.declared.ids.Node.{Node}
use Rattle.gx_dtx.specs.Rules.{Turn, changed, commit_found, commits as commits_in, ends_committed, on_commit}
use Rattle.gx_dtx.specs.Table.{find_txn}
use Rattle.gx_dtx.specs.declared.change.Change.{Change}
use Rattle.gx_dtx.specs.declared.order.Order.TheVariants as order
use Rattle.gx_dtx.specs.declared.outcome.Outcome.{Outcome}
use Rattle.gx_dtx.specs.declared.outcome.Outcome.TheVariants as outcome
use Rattle.gx_dtx.specs.declared.txn.Txn.{Txn}
use Rattle.gx_msg.specs.declared.item.JournalItem.{JournalItem}
use Rattle.gx_store.specs.declared.answer.Refused.{Refused}
use Rattle.gx_store.specs.declared.answer.Refused.TheVariants as refused
use Rattle.gx_store.specs.declared.mark.Mark.{Mark}
use Rattle.gx_rules.specs.AtCoordinator.{answers, commits, failure_marks, follows, is_committed, is_idle, is_refused}
use Rattle.gx_rules.specs.Coordinators.{Coord, CoordTurn, Session, work_of}
use Rattle.gx_law_order.proofs.Stages.{changed-at, left_of}
use Rattle.gx_law_order.specs.Stages.{IsWhole}
use Rattle.gx_law_order.specs.Standings.{gx}
use Rattle.gx_law_order.proofs.Dispatching.{IsLive}
use Rattle.gx_law_runs.proofs.Neat.{IsDone, clash}
use Rattle.gx_law_runs.proofs.Asked.{IsBusy, IsOrdered, has-first, ordered-asked}
use Rattle.gx_law_runs.proofs.Sparing.{Spares, released-spares}

-- the line under way has its answer
abbrev pub settles : Outcome → Bool
settles outcome.Committed = true
settles (outcome.Refused i) = true
settles _ = false

-- A COMMIT
ended-settles : (g : ℕ) (nodes : List Node) → settles (ends_committed (gx g) nodes).out.outcome ≡ true
ended-settles g [] = refl
ended-settles g (i ∷ is) = refl

pub ended-not : {A : Type 0} (g : ℕ) (nodes : List Node) → settles (ends_committed (gx g) nodes).out.outcome ≡ false → A
ended-not g nodes e = clash (settles (ends_committed (gx g) nodes).out.outcome) (ended-settles g nodes) e

commit-ordered : (g : ℕ) (ws : List Node) (t : Txn) → settles (commits_in (gx g) ws t).out.outcome ≡ false → IsOrdered (left_of (commits_in (gx g) ws t).step (Some t))
commit-ordered g [] t e = ended-not g t.participants e
commit-ordered g (x ∷ []) t e = (x, ap (λ (b : Bool). is_some (if b then Some order.Commit else None)) (eqb-self x.0))
commit-ordered g (x ∷ y ∷ ws) t e = (x, ap (λ (b : Bool). is_some (if b then Some order.Prepare else None)) (has-first x (y ∷ ws)))

-- TURNS
module _ (B : Type 0) (c : Coord) (g : ℕ) where
  -- the session waits on
  pub record Waits (turn : CoordTurn) : Type 0 where
    pub sessions : (j : ℕ) → turn.coord.sessions j ≡ c.sessions j
    pub asked : B → IsBusy turn.coord g
    pub spares : Spares c.locks turn.coord.locks g

  -- or is idle
  pub record Settled (turn : CoordTurn) : Type 0 where
    pub others : (j : ℕ) → eqb j (c.works g).session.0 ≡ false → turn.coord.sessions j ≡ c.sessions j
    pub idle : is_idle (turn.coord.sessions (c.works g).session.0) ≡ true
    pub spares : Spares c.locks turn.coord.locks g

  abbrev pub Goes : CoordTurn → Type 0
  Goes turn = Waits turn ⊎ Settled turn

  abbrev home : ℕ
  home = (c.works g).session.0

  -- the session is this one, and idle
  settled : (turn : CoordTurn) (y : Session) → ((j : ℕ) → turn.coord.sessions j ≡ (if eqb j home then y else c.sessions j)) → is_idle y ≡ true → Spares c.locks turn.coord.locks g → Settled turn
  settled turn y all i spared =
      record {
        others = λ j e. all j ∙ ap (λ (b : Bool). if b then y else c.sessions j) e;
        idle = ap is_idle (all home ∙ ap (λ (b : Bool). if b then y else c.sessions home) (eqb-self home)) ∙ i;
        spares = spared;
      }

  pub committed-settles : (turn : Turn) → Settled (is_committed c (gx g) turn)
  committed-settles turn = settled (is_committed c (gx g) turn) _ (λ j. refl) refl (released-spares c.locks g)

  pub refused-settles : (turn : Turn) (why : List Mark) (reason : Refused) → Settled (is_refused c (gx g) turn why reason)
  refused-settles turn why reason = settled (is_refused c (gx g) turn why reason) _ (λ j. refl) refl (released-spares c.locks g)

  pub answer-settles : Settled (answers c (gx g) (work_of c (gx g)))
  answer-settles = settled (answers c (gx g) (work_of c (gx g))) _ (λ j. refl) refl (λ h e. refl)

  pub follows-goes : (turn : Turn) (o : Outcome) → (settles o ≡ false → B → IsBusy (record c { table = turn.table }) g) → Goes (follows c (gx g) turn o)
  follows-goes turn outcome.Pending f = inl (record { sessions = λ j. refl; asked = f refl; spares = λ h e. refl })
  follows-goes turn outcome.Decided f = inl (record { sessions = λ j. refl; asked = f refl; spares = λ h e. refl })
  follows-goes turn outcome.Ended f = inl (record { sessions = λ j. refl; asked = f refl; spares = λ h e. refl })
  follows-goes turn outcome.Committed f = inr (committed-settles turn)
  follows-goes turn (outcome.Refused i) f = inr (refused-settles turn (failure_marks i (gx g)) (refused.JournalFault i))

  -- what a change leaves of the transaction
  pub changed-finds : IsWhole c.table → (ch : Change) → find_txn (changed c.table (gx g) ch) (gx g) ≡ left_of ch.step (find_txn c.table (gx g))
  changed-finds whole ch = (changed-at c.table g ch whole).finds g ∙ ap (λ (b : Bool). if b then left_of ch.step (find_txn c.table (gx g)) else find_txn c.table (gx g)) (eqb-self g)

  pub commits-goes : IsWhole c.table → IsLive c g → IsDone (c.works g).command → Goes (commits c (gx g))
  commits-goes whole live done =
      follows-goes (on_commit c.table (gx g) (c.works g).writers) _
      (λ e b. inl (ordered-asked (record c { table = changed c.table (gx g) ch }) g (left_of ch.step (find_txn c.table (gx g))) done (changed-finds whole ch) (ordered e)))
    where
      ch : Change
      ch = commit_found (gx g) (c.works g).writers (find_txn c.table (gx g))

      ordered : settles (commit_found (gx g) (c.works g).writers (find_txn c.table (gx g))).out.outcome ≡ false → IsOrdered (left_of (commit_found (gx g) (c.works g).writers (find_txn c.table (gx g))).step (find_txn c.table (gx g)))
      ordered =
          subst (λ t. settles (commit_found (gx g) (c.works g).writers t).out.outcome ≡ false → IsOrdered (left_of (commit_found (gx g) (c.works g).writers t).step t)) (sym live.found)
          (commit-ordered g (c.works g).writers live.txn)

-- the item of a turn says nothing of sessions
pub goes-with : (B : Type 0) (c : Coord) (g : ℕ) (turn : CoordTurn) (item : Option JournalItem) → Goes B c g turn → Goes B c g (record turn { item = item })
goes-with B c g turn item (inl w) = inl (record { sessions = w.sessions; asked = w.asked; spares = w.spares })
goes-with B c g turn item (inr s) = inr (record { others = s.others; idle = s.idle; spares = s.spares })

-- from other data with the same sessions
pub goes-by : (B : Type 0) (d c : Coord) (g : ℕ) (turn : CoordTurn) → d.sessions ≡ c.sessions → (d.works g).session ≡ (c.works g).session → Spares c.locks d.locks g → Goes B d g turn → Goes B c g turn
goes-by B d c g turn same at spared (inl w) = inl (record { sessions = λ j. w.sessions j ∙ ap (λ (f : ℕ → Session). f j) same; asked = w.asked; spares = λ h e. w.spares h e ∙ spared h e })
goes-by B d c g turn same at spared (inr s) =
    inr (record {
      others = λ j e. s.others j (ap (λ x. eqb j x.0) at ∙ e) ∙ ap (λ (f : ℕ → Session). f j) same;
      idle = subst (λ x. is_idle (turn.coord.sessions x.0) ≡ true) at s.idle;
      spares = λ h e. s.spares h e ∙ spared h e;
    })
