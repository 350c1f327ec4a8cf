-- What ties a transaction, what the coordinator knows of it, and its session.
use Rattle.std.proofs.Common.{◌≡◌, ◌⊎◌, inl, inr, ℕ, [], Option, None, Bool, true, false, refl, sym, subst, ap, ◌∙◌, if◌then◌else◌, arith, eqb}
use Rattle.std.proofs.lemmas.Bool.{eqb-true}
use Rattle.std.proofs.lemmas.Bool.Decides.{nat_tests}
use Rattle.gx_lemmas.proofs.Numbers.{eqb-of}
use Rattle.gx_ids.specs.declared.ids.Gxid.{Gxid}
use Rattle.gx_script.specs.declared.Script.{Script}
use Rattle.gx_script.specs.declared.state.Block.{Block}
use Rattle.gx_script.specs.declared.state.Block.TheVariants.{Outside}
use Rattle.gx_script.specs.declared.state.Pending.{Pending}
use Rattle.gx_script.specs.declared.state.Pending.TheVariants as pending
use Rattle.gx_dtx.specs.Table.{find_txn}
use Rattle.gx_dtx.specs.declared.txn.Txn.{Txn}
use Rattle.gx_rules.specs.Coordinators.{Coord, Session, Work}
use Rattle.gx_rules.specs.Maps.{with_at}
use Rattle.gx_law_order.proofs.Queued.{Queues, queued-by}
use Rattle.gx_law_order.specs.Sessions.{IsQueued}
use Rattle.gx_law_order.specs.Stages.{IsWhole, Stage, stage}
use Rattle.gx_law_order.specs.Standings.{gx}
use Rattle.gx_law_order.specs.Stages.Stage.{Absent, Closing, Dropped, Finished, Live}
use Rattle.gx_law_order.specs.Sessions.{IsQueued, Kept, Placed, Tied, is_closing_in, is_live_in, is_nothing_in, is_open_in, is_said, is_working_in}
use Rattle.gx_law_order.specs.Stages.{IsWhole, Stage, stage, stage_of}

-- facts moved along equations
tied-by : (a b : Stage) (g : ℕ) (w v : Work) (x y : Session) → b ≡ a → v ≡ w → y ≡ x → Tied a g w x → Tied b g v y
tied-by a b g w v x y e f h t = subst (λ q. Tied q g v y) (sym e) (subst (λ q. Tied a g q y) (sym f) (subst (λ q. Tied a g w q) (sym h) t))

placed-by : (s : ℕ) (x y : Session) (a b : Stage) (w v : Work) → y ≡ x → b ≡ a → v ≡ w → Placed s x a w → Placed s y b v
placed-by s x y a b w v e f h t = subst (λ q. Placed s q b v) (sym e) (subst (λ q. Placed s x q v) (sym f) (subst (λ q. Placed s x a q) (sym h) t))

-- the other transactions have other sessions
other-tied : (a : Stage) (h g : ℕ) (w : Work) (x y : Session) → Tied a h w x → x.transaction.0 ≡ g → eqb h g ≡ false → Tied a h w y
other-tied a h g w x y t e n =
    record { live = λ l. absurd (clash (t.live l).0); closing = λ l. absurd (clash (t.closing l).0); awaits = λ k f m. absurd (clash (t.live (t.awaits k f m).0).0); busy = λ k f. absurd (said-clash a refl (t.busy k f).0); waits = λ l f. absurd (clash (t.live (t.waits l f).0).0) }
  where
    clash : x.transaction.0 ≡ h → ⊥
    clash q = two h g (sym q ∙ e) n
      where
        two : (h g : ℕ) → h ≡ g → eqb h g ≡ false → ⊥
        two h g q n = grind (arith, nat_tests)

    said-clash : (b : Stage) → a ≡ b → is_said b ≡ true → ⊥
    said-clash Live e f = clash (t.live e).0
    said-clash Closing e f = clash (t.closing e).0
    said-clash Absent e f = absurd (cc)
    said-clash Finished e f = absurd (cc)
    said-clash Dropped e f = absurd (cc)

-- an idle session outside a block has no transaction that runs
idle-tied : (a : Stage) (h : ℕ) (w : Work) (x y : Session) → Tied a h w x → x.state.block ≡ Outside → x.state.pending ≡ pending.Nothing → Tied a h w y
idle-tied a h w x y t e f =
    record { live = λ l. absurd (not-live (t.live l).1); closing = λ l. absurd (not-closing (t.closing l).1); awaits = λ k q m. absurd (not-live (t.live (t.awaits k q m).0).1); busy = λ k q. absurd (not-working (t.busy k q).1); waits = λ l q. absurd (not-working (t.waits l q).2) }
  where
    not-working : is_working_in x.state.pending ≡ true → ⊥
    not-working q = differ (subst (λ p. is_working_in p ≡ true) f q)
      where
        differ : is_working_in pending.Nothing ≡ true → ⊥
        differ q = grind arith

    not-live : is_live_in x.state.block x.state.pending ≡ true → ⊥
    not-live q = differ (subst (λ b. is_live_in b pending.Nothing ≡ true) e (subst (λ p. is_live_in x.state.block p ≡ true) f q))
      where
        differ : is_live_in Outside pending.Nothing ≡ true → ⊥
        differ q = grind arith

    not-closing : is_closing_in x.state.block x.state.pending ≡ true → ⊥
    not-closing q = differ (subst (λ b. is_closing_in b pending.Nothing ≡ true) e (subst (λ p. is_closing_in x.state.block p ≡ true) f q))
      where
        differ : is_closing_in Outside pending.Nothing ≡ true → ⊥
        differ q = grind arith

-- A CHANGE AT ONE TRANSACTION AND ITS SESSION
pub record Change (script : Script) (c d : Coord) (g s : ℕ) (now : Option Txn) (w : Work) (x : Session) : Type 0 where
  pub whole : IsWhole d.table
  pub finds : (j : ℕ) → find_txn d.table (gx j) ≡ (if eqb j g then now else find_txn c.table (gx j))
  pub works : (j : ℕ) → d.works j ≡ (if eqb j g then w else c.works j)
  pub sessions : (j : ℕ) → d.sessions j ≡ (if eqb j s then x else c.sessions j)
  pub queues : Queues script c.locks.waits d.locks.waits g w.waiting

module _ {script : Script} (c d : Coord) (g s : ℕ) (now : Option Txn) (w : Work) (x : Session) (k : Kept script c) (ch : Change script c d g s now w x) where
  abbrev session_at : ℕ → Session
  session_at j = if eqb j s then x else c.sessions j

  tied-here : Tied (stage now) g w (session_at w.session.0) → ((h : ℕ) → eqb h g ≡ false → Tied (stage_of c h) h (c.works h) (session_at (c.works h).session.0)) → (h : ℕ) → Tied (stage_of d h) h (d.works h) (d.sessions (d.works h).session.0)
  tied-here new old h =
      tied-by _ _ h _ _ _ _ (ap stage (ch.finds h)) (ch.works h) (ap (λ (v : Work). d.sessions v.session.0) (ch.works h) ∙ ch.sessions _) (by_test (eqb h g) refl)
    where
      by_test : (b : Bool) → eqb h g ≡ b → Tied (stage (if b then now else find_txn c.table (gx h))) h (if b then w else c.works h) (session_at (if b then w else c.works h).session.0)
      by_test true e = subst (λ q. Tied (stage now) q w (session_at w.session.0)) (sym (eqb-true h g e)) new
      by_test false e = old h e

  placed-here : Placed s x (if eqb x.transaction.0 g then stage now else stage_of c x.transaction.0) (if eqb x.transaction.0 g then w else c.works x.transaction.0) → ((j : ℕ) → eqb j s ≡ false → Placed j (c.sessions j) (if eqb (c.sessions j).transaction.0 g then stage now else stage_of c (c.sessions j).transaction.0) (if eqb (c.sessions j).transaction.0 g then w else c.works (c.sessions j).transaction.0)) → (j : ℕ) → Placed j (d.sessions j) (stage_of d (d.sessions j).transaction.0) (d.works (d.sessions j).transaction.0)
  placed-here new old j =
      placed-by j _ _ _ _ _ _ (ch.sessions j)
      (ap (λ (y : Session). stage_of d y.transaction.0) (ch.sessions j) ∙ ap stage (ch.finds _) ∙ stage-if (eqb (session_at j).transaction.0 g) now (find_txn c.table (gx (session_at j).transaction.0)))
      (ap (λ (y : Session). d.works y.transaction.0) (ch.sessions j) ∙ ch.works _)
      (by_test (eqb j s) refl)
    where
      stage-if : (b : Bool) (t u : Option Txn) → stage (if b then t else u) ≡ (if b then stage t else stage u)
      stage-if true t u = refl
      stage-if false t u = refl

      by_test : (b : Bool) → eqb j s ≡ b → Placed j (if b then x else c.sessions j) (if eqb (if b then x else c.sessions j).transaction.0 g then stage now else stage_of c (if b then x else c.sessions j).transaction.0) (if eqb (if b then x else c.sessions j).transaction.0 g then w else c.works (if b then x else c.sessions j).transaction.0)
      by_test true e = subst (λ q. Placed q x (if eqb x.transaction.0 g then stage now else stage_of c x.transaction.0) (if eqb x.transaction.0 g then w else c.works x.transaction.0)) (sym (eqb-true j s e)) new
      by_test false e = old j e

  queued-here : (h : ℕ) → IsQueued script h (d.works h).waiting d.locks.waits
  queued-here h = queued-by h _ _ d.locks.waits (ap (λ (v : Work). v.waiting) (ch.works h)) (by_test (eqb h g) refl)
    where
      by_test : (b : Bool) → eqb h g ≡ b → IsQueued script h (if b then w else c.works h).waiting d.locks.waits
      by_test true e = subst (λ i. IsQueued script i w.waiting d.locks.waits) (sym (eqb-true h g e)) ch.queues.here
      by_test false e = record { claims = ch.queues.others h e ∙ (k.queued h).claims; locks = (k.queued h).locks }

  -- the session's own transaction
  pub kept-own : (c.sessions s).transaction.0 ≡ g → (c.works g).session.0 ≡ s → Tied (stage now) g w (session_at w.session.0) → (x.transaction.0 ≡ g) → Placed s x (stage now) w → Kept script d
  kept-own mine home new same_txn newp =
      record {
        whole = ch.whole;
        tied = tied-here new (λ h e. others h e (eqb (c.works h).session.0 s) refl);
        placed = placed-here (subst (λ b. Placed s x (if b then stage now else stage_of c x.transaction.0) (if b then w else c.works x.transaction.0)) (sym (eqb-of x.transaction.0 g same_txn)) newp)
            (λ j e. elsewhere j e (eqb (c.sessions j).transaction.0 g) refl);
        queued = queued-here;
      }
    where
      others : (h : ℕ) → eqb h g ≡ false → (b : Bool) → eqb (c.works h).session.0 s ≡ b → Tied (stage_of c h) h (c.works h) (if b then x else c.sessions (c.works h).session.0)
      others h e true q = other-tied (stage_of c h) h g (c.works h) (c.sessions (c.works h).session.0) x (k.tied h) (ap (λ i. (c.sessions i).transaction.0) (eqb-true (c.works h).session.0 s q) ∙ mine) e
      others h e false q = k.tied h

      elsewhere : (j : ℕ) → eqb j s ≡ false → (b : Bool) → eqb (c.sessions j).transaction.0 g ≡ b → Placed j (c.sessions j) (if b then stage now else stage_of c (c.sessions j).transaction.0) (if b then w else c.works (c.sessions j).transaction.0)
      elsewhere j e true q =
          record { stands = λ o. absurd (clash o); free = λ o n. absurd (clash o) }
        where
          two : (j s : ℕ) → j ≡ s → eqb j s ≡ false → ⊥
          two j s q n = grind (arith, nat_tests)

          clash : is_open_in (c.sessions j).state.block ≡ true → ⊥
          clash o = two j s (sym ((k.placed j).stands o).1 ∙ ap (λ i. (c.works i).session.0) (eqb-true (c.sessions j).transaction.0 g q) ∙ home) e
      elsewhere j e false q = k.placed j

  -- a new transaction of an idle session
  pub kept-new : find_txn c.table (gx g) ≡ None → (c.sessions s).state.block ≡ Outside → (c.sessions s).state.pending ≡ pending.Nothing → Tied (stage now) g w (session_at w.session.0) → (x.transaction.0 ≡ g) → Placed s x (stage now) w → Kept script d
  kept-new fresh outside idle new same_txn newp =
      record {
        whole = ch.whole;
        tied = tied-here new (λ h e. others h (eqb (c.works h).session.0 s) refl);
        placed = placed-here (subst (λ b. Placed s x (if b then stage now else stage_of c x.transaction.0) (if b then w else c.works x.transaction.0)) (sym (eqb-of x.transaction.0 g same_txn)) newp)
            (λ j e. elsewhere j (eqb (c.sessions j).transaction.0 g) refl);
        queued = queued-here;
      }
    where
      others : (h : ℕ) (b : Bool) → eqb (c.works h).session.0 s ≡ b → Tied (stage_of c h) h (c.works h) (if b then x else c.sessions (c.works h).session.0)
      others h true q = idle-tied (stage_of c h) h (c.works h) (c.sessions (c.works h).session.0) x (k.tied h) (ap (λ i. (c.sessions i).state.block) (eqb-true (c.works h).session.0 s q) ∙ outside) (ap (λ i. (c.sessions i).state.pending) (eqb-true (c.works h).session.0 s q) ∙ idle)
      others h false q = k.tied h

      elsewhere : (j : ℕ) (b : Bool) → eqb (c.sessions j).transaction.0 g ≡ b → Placed j (c.sessions j) (if b then stage now else stage_of c (c.sessions j).transaction.0) (if b then w else c.works (c.sessions j).transaction.0)
      elsewhere j true q = record { stands = λ o. absurd (clash ((k.placed j).stands o).0); free = λ o n. absurd (clash ((k.placed j).stands o).0) }
        where
          gone : stage_of c (c.sessions j).transaction.0 ≡ Absent
          gone = ap (stage_of c) (eqb-true (c.sessions j).transaction.0 g q) ∙ ap stage fresh

          clash : (stage_of c (c.sessions j).transaction.0 ≡ Live) ⊎ (stage_of c (c.sessions j).transaction.0 ≡ Closing) → ⊥
          clash (inl l) = differ (sym gone ∙ l)
            where
              differ : Absent ≡ Live → ⊥
              differ z = cc
          clash (inr l) = differ (sym gone ∙ l)
            where
              differ : Absent ≡ Closing → ⊥
              differ z = cc
      elsewhere j false q = k.placed j

-- A CHANGE OF STAGES ALONE
-- the stage stays, or it is one that says nothing before and after
abbrev pub IsQuiet : Stage → Stage → Type 0
IsQuiet a b = (b ≡ a) ⊎ ((is_said a ≡ false) × (is_said b ≡ false))

quiet-tied : (a b : Stage) (g : ℕ) (w : Work) (x : Session) → IsQuiet a b → Tied a g w x → Tied b g w x
quiet-tied a b g w x (inl e) t = subst (λ q. Tied q g w x) (sym e) t
quiet-tied a b g w x (inr n) t =
    record { live = λ l. absurd (no-live b n.1 l); closing = λ l. absurd (no-closing b n.1 l); awaits = λ k f m. absurd (no-live a n.0 (t.awaits k f m).0); busy = λ k f. absurd (unsaid a n.0 (t.busy k f).0); waits = λ l f. absurd (no-live a n.0 (t.waits l f).0) }
  where
    no-live : (a : Stage) → is_said a ≡ false → a ≡ Live → ⊥
    no-live a e l = grind arith

    no-closing : (a : Stage) → is_said a ≡ false → a ≡ Closing → ⊥
    no-closing a e l = grind arith

    unsaid : (a : Stage) → is_said a ≡ false → is_said a ≡ true → ⊥
    unsaid a e l = grind arith

quiet-placed : (s : ℕ) (x : Session) (a b : Stage) (w : Work) → IsQuiet a b → Placed s x a w → Placed s x b w
quiet-placed s x a b w (inl e) t = subst (λ q. Placed s x q w) (sym e) t
quiet-placed s x a b w (inr n) t = record { stands = λ o. absurd (not-said (t.stands o).0); free = λ o i. absurd (not-said (t.stands o).0) }
  where
    not-said : (a ≡ Live) ⊎ (a ≡ Closing) → ⊥
    not-said (inl l) = live a n.0 l
      where
        live : (a : Stage) → is_said a ≡ false → a ≡ Live → ⊥
        live a e l = grind arith
    not-said (inr l) = closing a n.0 l
      where
        closing : (a : Stage) → is_said a ≡ false → a ≡ Closing → ⊥
        closing a e l = grind arith

pub kept-quiet : {script : Script} (c d : Coord) → Kept script c → IsWhole d.table → ((j : ℕ) → IsQuiet (stage_of c j) (stage_of d j)) → ((j : ℕ) → d.works j ≡ c.works j) → ((j : ℕ) → d.sessions j ≡ c.sessions j) → d.locks.waits ≡ c.locks.waits → Kept script d
kept-quiet {script = script} c d k whole q works sessions waits =
    record {
      whole = whole;
      tied = λ g. tied-by _ _ g _ _ _ _ refl (works g) (ap (λ (v : Work). d.sessions v.session.0) (works g) ∙ sessions _) (quiet-tied (stage_of c g) (stage_of d g) g (c.works g) (c.sessions (c.works g).session.0) (q g) (k.tied g));
      placed = λ s. placed-by s _ _ _ _ _ _ (sessions s) (ap (λ (y : Session). stage_of d y.transaction.0) (sessions s)) (ap (λ (y : Session). d.works y.transaction.0) (sessions s) ∙ works _)
          (quiet-placed s (c.sessions s) (stage_of c (c.sessions s).transaction.0) (stage_of d (c.sessions s).transaction.0) (c.works (c.sessions s).transaction.0) (q (c.sessions s).transaction.0) (k.placed s));
      queued = λ g. subst (λ l. IsQueued script g (d.works g).waiting l) (sym waits) (queued-by g _ _ c.locks.waits (ap (λ (v : Work). v.waiting) (works g)) (k.queued g));
    }

-- A CHANGE OF AN IDLE SESSION ALONE
idle-same : (a : Stage) (g : ℕ) (w : Work) (x y : Session) → y.transaction ≡ x.transaction → is_nothing_in x.state.pending ≡ true → is_nothing_in y.state.pending ≡ true → is_open_in y.state.block ≡ is_open_in x.state.block → Tied a g w x → Tied a g w y
idle-same a g w x y e n m o t =
    record {
      live = λ l. (ap (λ (q : Gxid). q.0) e ∙ (t.live l).0, live-too x.state.block y.state.block x.state.pending y.state.pending n m o (t.live l).1);
      closing = λ l. absurd (no-closing x.state.block x.state.pending n (t.closing l).1);
      awaits = λ k f r. absurd (no-work x.state.pending n (t.awaits k f r).1);
      busy = λ k f. absurd (no-work x.state.pending n (t.busy k f).1);
      waits = λ l f. absurd (no-work x.state.pending n (t.waits l f).2);
    }
  where
    live-too : (b d : Block) (p q : Pending) → is_nothing_in p ≡ true → is_nothing_in q ≡ true → is_open_in d ≡ is_open_in b → is_live_in b p ≡ true → is_live_in d q ≡ true
    live-too b d p q n m o l = grind arith

    no-closing : (b : Block) (p : Pending) → is_nothing_in p ≡ true → is_closing_in b p ≡ true → ⊥
    no-closing b p n l = grind arith

    no-work : (p : Pending) → is_nothing_in p ≡ true → is_working_in p ≡ true → ⊥
    no-work p n l = grind arith

pub kept-idle : {script : Script} (c : Coord) (s : ℕ) (x : Session) → Kept script c → x.transaction ≡ (c.sessions s).transaction → is_nothing_in (c.sessions s).state.pending ≡ true → is_nothing_in x.state.pending ≡ true → is_open_in x.state.block ≡ is_open_in (c.sessions s).state.block → Kept script (record c { sessions = with_at c.sessions s x })
kept-idle c s x k e n m o =
    record {
      whole = k.whole;
      tied = λ g. by_test g (eqb (c.works g).session.0 s) refl;
      placed = λ j. placed_test j (eqb j s) refl;
      queued = k.queued;
    }
  where
    by_test : (g : ℕ) (b : Bool) → eqb (c.works g).session.0 s ≡ b → Tied (stage_of c g) g (c.works g) (if b then x else c.sessions (c.works g).session.0)
    by_test g true q =
        idle-same (stage_of c g) g (c.works g) (c.sessions s) x e n m o (subst (λ i. Tied (stage_of c g) g (c.works g) (c.sessions i)) (eqb-true (c.works g).session.0 s q) (k.tied g))
    by_test g false q = k.tied g

    here : Placed s x (stage_of c x.transaction.0) (c.works x.transaction.0)
    here =
        subst (λ (y : Gxid). Placed s x (stage_of c y.0) (c.works y.0)) (sym e)
        (record { stands = λ p. (k.placed s).stands (sym o ∙ p); free = λ p i. (k.placed s).free (sym o ∙ p) n })

    placed_test : (j : ℕ) (b : Bool) → eqb j s ≡ b → Placed j (if b then x else c.sessions j) (stage_of c (if b then x else c.sessions j).transaction.0) (c.works (if b then x else c.sessions j).transaction.0)
    placed_test j true q = subst (λ i. Placed i x (stage_of c x.transaction.0) (c.works x.transaction.0)) (sym (eqb-true j s q)) here
    placed_test j false q = k.placed j
