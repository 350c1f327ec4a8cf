-- One transaction changes, the others stay.
use Rattle.std.proofs.Common.{◌≡◌, ◌≤◌, ℕ, [], Option, Some, None, Bool, true, false, refl, sym, subst, ap, ◌∙◌, if◌then◌else◌, arith, eqb, le_refl, le_trans}
use Rattle.std.proofs.lemmas.Bool.{eqb-true}
use Rattle.std.specs.List.Sorted.{IsStrictlySortedBy}
use Rattle.gx_lemmas.proofs.Numbers.{eqb-self}
use Rattle.gx_ids.specs.declared.ids.SessionId.{SessionId}
use Rattle.gx_tree.specs.declared.stmt.Level.{Level}
use Rattle.gx_dtx.specs.Nodes.{AreRising, has}
use Rattle.gx_dtx.specs.Table.{Table, find_txn, participants_in}
use Rattle.gx_dtx.specs.declared.txn.Txn.{Txn}
use Rattle.gx_rules.specs.Coordinators.{Command, Coord, Session, Work, new_work}
use Rattle.gx_rules.specs.Maps.{with_at}
use Rattle.gx_law_order.proofs.Stages.{At}
use Rattle.gx_law_order.specs.Standings.{gx}
use Rattle.gx_law_order.specs.Stages.{stage}
use Rattle.gx_law_order.specs.Stages.Stage.{Live}
use Rattle.gx_coord.specs.Sound.{AreSound, AreSoundIn, IsSoundWork}

-- what is known of one transaction changes, and no session's lines fall
pub record Changes (c d : Coord) (g : ℕ) : Type 0 where
  pub finds : (j : ℕ) → eqb j g ≡ false → find_txn d.table (gx j) ≡ find_txn c.table (gx j)
  pub works : (j : ℕ) → eqb j g ≡ false → d.works j ≡ c.works j
  pub lines : (s : ℕ) → (c.sessions s).lines ≤ (d.sessions s).lines
  pub here : IsSoundWork (d.works g) (d.sessions (d.works g).session.0).lines (find_txn d.table (gx g))

pub more-lines : (w : Work) (m n : ℕ) (t : Option Txn) → m ≤ n → IsSoundWork w m t → IsSoundWork w n t
more-lines w m n t l e = record { writers = e.writers; among = e.among; command = e.command; last = le_trans e.last l; room = λ line q. le_trans (e.room line q) l }

pub sound-after : (c d : Coord) (g : ℕ) → AreSound c → Changes c d g → AreSound d
sound-after c d g e h j = by_test (eqb j g) refl
  where
    At-d : ℕ → Type 0
    At-d j = IsSoundWork (d.works j) (d.sessions (d.works j).session.0).lines (find_txn d.table (gx j))

    by_test : (b : Bool) → eqb j g ≡ b → IsSoundWork (d.works j) (d.sessions (d.works j).session.0).lines (find_txn d.table (gx j))
    by_test true q = subst (λ i. IsSoundWork (d.works i) (d.sessions (d.works i).session.0).lines (find_txn d.table (gx i))) (sym (eqb-true j g q)) h.here
    by_test false q =
        subst (λ t. IsSoundWork (d.works j) (d.sessions (d.works j).session.0).lines t) (sym (h.finds j q))
        (subst (λ (w : Work). IsSoundWork w (d.sessions w.session.0).lines (find_txn c.table (gx j))) (sym (h.works j q)) (more-lines (c.works j) _ _ _ (h.lines _) (e j)))

none-rising : AreRising []
unfolding IsStrictlySortedBy
none-rising = tt

-- nothing is known of a transaction, or nothing yet
pub none-sound : (s : SessionId) (level : Level) (lines : ℕ) (t : Option Txn) → IsSoundWork (new_work s level) lines t
none-sound s level lines t = record { writers = none-rising; among = λ l i q. absurd (cc); command = tt; last = omega arith; room = λ line q. absurd (cc) }

-- the transaction's commands run no more, or it is as before
pub moved-sound : (w : Work) (lines : ℕ) (t now : Option Txn) → (stage now ≡ Live → now ≡ t) → IsSoundWork w lines t → IsSoundWork w lines now
moved-sound w lines t now f e = record { writers = e.writers; among = λ l i q. subst (λ o. has i (participants_in o) ≡ true) (sym (f l)) (e.among (live l) i q); command = under w.command e.command; last = e.last; room = e.room }
  where
    live : stage now ≡ Live → stage t ≡ Live
    live l = sym (ap stage (f l)) ∙ l

    under : (k : Option Command) → AreSoundIn k (participants_in t) (stage t) → AreSoundIn k (participants_in now) (stage now)
    under None h = tt
    under (Some k) h = record { fits = h.fits; count = h.count; awaited = λ l i q. subst (λ o. has i (participants_in o) ≡ true) (sym (f l)) (h.awaited (live l) i q) }

-- CHANGES OF THE TABLE
pub others : (d u : Table) (g : ℕ) (now : Option Txn) → At d u g now → (j : ℕ) → eqb j g ≡ false → find_txn u (gx j) ≡ find_txn d (gx j)
others d u g now a j e = a.finds j ∙ ap (λ b. if b then now else find_txn d (gx j)) e

pub itself : (d u : Table) (g : ℕ) (now : Option Txn) → At d u g now → find_txn u (gx g) ≡ now
itself d u g now a = a.finds g ∙ ap (λ b. if b then now else find_txn d (gx g)) (eqb-self g)

pub with_at-other : {A : Type 0} (f : ℕ → A) (k : ℕ) (a : A) (j : ℕ) → eqb j k ≡ false → with_at f k a j ≡ f j
with_at-other f k a j e = ap (λ b. if b then a else f j) e

pub with_at-same : {A : Type 0} (f : ℕ → A) (k : ℕ) (a : A) → with_at f k a k ≡ a
with_at-same f k a = ap (λ b. if b then a else f k) (eqb-self k)

-- a session moves on, with no fewer lines
pub session-lines : (f : ℕ → Session) (k : ℕ) (x : Session) → (f k).lines ≤ x.lines → (j : ℕ) → (f j).lines ≤ (with_at f k x j).lines
session-lines f k x l j = by_test (eqb j k) refl
  where
    by_test : (b : Bool) → eqb j k ≡ b → (f j).lines ≤ (if b then x else f j).lines
    by_test true e = subst (λ i. (f i).lines ≤ x.lines) (sym (eqb-true j k e)) l
    by_test false e = le_refl (f j).lines
