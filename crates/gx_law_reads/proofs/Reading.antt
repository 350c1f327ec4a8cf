-- What the coordinator knows of the snapshots by which commands read, and how its calls keep it.
use Rattle.std.proofs.Common.{◌≡◌, ◌≤◌, ◌<◌, ℕ, Option, Some, None, Bool, true, false, refl, sym, subst, ap, ◌∙◌, cond, if◌then◌else◌, arith, eqb}
use Rattle.std.proofs.lemmas.Bool.{eqb-true}
use Rattle.std.specs.Prelude.{option_map}
use Rattle.std.specs.Map.{lookup}
use Rattle.std.specs.BTreeMap.{is_at}
use Rattle.gx_lemmas.proofs.Numbers.{eqb-self}
use Rattle.gx_ids.specs.declared.ids.Gxid.{Gxid}
use Rattle.gx_tree.specs.declared.stmt.Level.TheVariants.{ReadCommitted}
use Rattle.gx_dsnap.specs.Gxids.{gxid_cmp}
use Rattle.gx_dsnap.specs.declared.snapshot.Snapshot.{Snapshot}
use Rattle.gx_dtx.specs.Lives.{live_of}
use Rattle.gx_dtx.specs.Rules.{changed, moved, with_step}
use Rattle.gx_dtx.specs.Table.{Table, find_txn, horizon_of}
use Rattle.gx_dtx.specs.declared.change.Change.{Change}
use Rattle.gx_dtx.specs.declared.change.Step.{Step}
use Rattle.gx_dtx.specs.declared.change.Step.TheVariants.{GoesTo, Leaves, Stays}
use Rattle.gx_dtx.specs.declared.txn.Txn.{Txn}
use Rattle.gx_dtx.proofs.Finds.{find-remove, find-with}
use Rattle.gx_msg.specs.declared.message.Message.{Message}
use Rattle.gx_msg.specs.declared.message.Message.TheVariants as message
use Rattle.gx_msg.specs.declared.message.Out.{Out}
use Rattle.gx_rules.specs.Coordinators.{Command, Work, no_work}
use Rattle.gx_rules.specs.Maps.{with_at}
use Rattle.gx_law_order.proofs.Lists.{each_weaker}
use Rattle.gx_law_order.specs.Lists.{Each}
use Rattle.gx_law_order.proofs.Stages.{left_of}
use Rattle.gx_law_order.specs.Standings.{gx}
use Rattle.gx_law_order.specs.Stages.{stage}
use Rattle.gx_law_order.specs.Stages.Stage.{Live}
use Rattle.gx_law_reads.specs.Horizons.{IsLowIn}
use Rattle.gx_law_reads.proofs.Heights.{Rises, Sorted, changed-rises}
use Rattle.gx_law_reads.proofs.Held.{Held}

-- ONE TRANSACTION
-- the snapshot of a command that goes out is held by the live xmin
abbrev pub OrderHeld : Option Gxid → Message → Type 0
OrderHeld live (message.Exec g c level (Some x) h slice) = Held live x
OrderHeld live _ = Unit {0}

abbrev pub IsOfTxn : ℕ → Message → Type 0
IsOfTxn g (message.Exec h c level x horizon slice) = h.0 ≡ g
IsOfTxn g _ = Unit {0}

pub record Reads (t : Option Txn) (w : Work) : Type 0 where
  pub plain : w.level ≡ ReadCommitted → w.snapshot ≡ None
  pub kept : stage t ≡ Live → (x : Snapshot) → w.snapshot ≡ Some x → Held (live_of t) x
  pub ordered : stage t ≡ Live → (m : Command) → w.command ≡ Some m → Each (λ (o : Out). OrderHeld (live_of t) o.message) m.orders

abbrev pub OrderLow : Gxid → ℕ → Out → Type 0
OrderLow limit g o = IsLowIn limit o.message × IsOfTxn g o.message

abbrev pub CommandLow : Gxid → ℕ → Option Command → Type 0
CommandLow limit g None = Unit {0}
CommandLow limit g (Some m) = Each (OrderLow limit g) m.orders

-- a command of this number that was sent with this snapshot
abbrev pub Fine : Option Txn → Work → ℕ → Snapshot → Type 0
Fine t w cid x = stage t ≡ Live → (m : Command) → w.command ≡ Some m → m.cid.0 ≡ cid → Held (live_of t) x

-- ALL TRANSACTIONS
abbrev pub Works : Type 0
Works = ℕ → Work

abbrev pub FineIn : Table → Works → Message → Type 0
FineIn d ws (message.Exec g c level (Some x) h slice) = Fine (find_txn d (gx g.0)) (ws g.0) c.0 x
FineIn d ws _ = Unit {0}

-- its number is one that was given
abbrev pub CountedIn : Table → Works → Message → Type 0
CountedIn d ws (message.Exec g c level x h slice) = (g.0 < d.next.0) × (stage (find_txn d (gx g.0)) ≡ Live → c.0 ≤ (ws g.0).last)
CountedIn d ws _ = Unit {0}

pub record Stood (d : Table) (ws : Works) : Type 0 where
  pub sorted : Sorted d
  pub reads : (g : ℕ) → Reads (find_txn d (gx g)) (ws g)
  pub orders : (g : ℕ) → CommandLow (horizon_of d) g (ws g).command

pub record Went (d : Table) (ws : Works) (u : Table) (vs : Works) : Type 0 where
  pub stood : Stood u vs
  pub low : (horizon_of d).0 ≤ (horizon_of u).0
  pub fine : (m : Message) → CountedIn d ws m → FineIn d ws m → FineIn u vs m

abbrev pub OutFine : Table → Works → Out → Type 0
OutFine u vs o = IsLowIn (horizon_of u) o.message × FineIn u vs o.message

low-weaker : (a b : Gxid) (m : Message) → a.0 ≤ b.0 → IsLowIn a m → IsLowIn b m
low-weaker a b (message.Exec g c level x h slice) l e = le-trans h.0 a.0 b.0 e l
  where
    le-trans : (a b c : ℕ) → a ≤ b → b ≤ c → a ≤ c
    le-trans a b c l m = omega arith
low-weaker a b (message.Prepare g) l e = tt
low-weaker a b (message.Commit g) l e = tt
low-weaker a b (message.CommitPrepared g) l e = tt
low-weaker a b (message.Abort g) l e = tt
low-weaker a b (message.Forget g) l e = tt
low-weaker a b (message.Answer g r) l e = tt
low-weaker a b (message.Collect round) l e = tt
low-weaker a b (message.Graph round graph) l e = tt
low-weaker a b message.Up l e = tt

pub low-then : (a b : Gxid) (m : Message) → a.0 ≤ b.0 → IsLowIn a m → IsLowIn b m
low-then = low-weaker

pub command-low : (a b : Gxid) (g : ℕ) (o : Option Command) → a.0 ≤ b.0 → CommandLow a g o → CommandLow b g o
command-low a b g None l e = tt
command-low a b g (Some m) l e = each_weaker (OrderLow a g) (OrderLow b g) (λ o f. (low-weaker a b o.message l f.0, f.1)) m.orders e

pub le-refl : (a : ℕ) → a ≤ a
le-refl a = omega arith

pub went-same : (d : Table) (ws : Works) → Stood d ws → Went d ws d ws
went-same d ws s = record { stood = s; low = le-refl (horizon_of d).0; fine = λ m c f. f }

-- A CHANGE OF ONE TRANSACTION
module _ (d u : Table) (ws vs : Works) (g : ℕ) (s : Stood d ws) (rises : Rises d u) (finds : (j : ℕ) → eqb j g ≡ false → find_txn u (gx j) ≡ find_txn d (gx j)) (works : (j : ℕ) → eqb j g ≡ false → vs j ≡ ws j) where
  abbrev FineHere : Type 0
  FineHere = (cid : ℕ) (x : Snapshot) → g < d.next.0 → (stage (find_txn d (gx g)) ≡ Live → cid ≤ (ws g).last) → Fine (find_txn d (gx g)) (ws g) cid x → Fine (find_txn u (gx g)) (vs g) cid x

  pub one-went : Reads (find_txn u (gx g)) (vs g) → CommandLow (horizon_of u) g (vs g).command → FineHere → Went d ws u vs
  one-went here low fine =
      record {
        stood = record { sorted = rises.sorted; reads = λ j. reads_at j (eqb j g) refl; orders = λ j. orders_at j (eqb j g) refl };
        low = rises.low;
        fine = fine_at;
      }
    where
      reads_at : (j : ℕ) (b : Bool) → eqb j g ≡ b → Reads (find_txn u (gx j)) (vs j)
      reads_at j true e = subst (λ i. Reads (find_txn u (gx i)) (vs i)) (sym (eqb-true j g e)) here
      reads_at j false e = subst (λ t. Reads t (vs j)) (sym (finds j e)) (subst (Reads (find_txn d (gx j))) (sym (works j e)) (s.reads j))

      orders_at : (j : ℕ) (b : Bool) → eqb j g ≡ b → CommandLow (horizon_of u) j (vs j).command
      orders_at j true e = subst (λ i. CommandLow (horizon_of u) i (vs i).command) (sym (eqb-true j g e)) low
      orders_at j false e = subst (λ (w : Work). CommandLow (horizon_of u) j w.command) (sym (works j e)) (command-low (horizon_of d) (horizon_of u) j (ws j).command rises.low (s.orders j))

      one_at : (j cid : ℕ) (x : Snapshot) (b : Bool) → eqb j g ≡ b → j < d.next.0 → (stage (find_txn d (gx j)) ≡ Live → cid ≤ (ws j).last) → Fine (find_txn d (gx j)) (ws j) cid x → Fine (find_txn u (gx j)) (vs j) cid x
      one_at j cid x true e n k f =
          subst (λ i. Fine (find_txn u (gx i)) (vs i) cid x) (sym (eqb-true j g e))
          (fine cid x (subst (λ i. i < d.next.0) (eqb-true j g e) n) (subst (λ i. stage (find_txn d (gx i)) ≡ Live → cid ≤ (ws i).last) (eqb-true j g e) k) (subst (λ i. Fine (find_txn d (gx i)) (ws i) cid x) (eqb-true j g e) f))
      one_at j cid x false e n k f = subst (λ t. Fine t (vs j) cid x) (sym (finds j e)) (subst (λ w. Fine (find_txn d (gx j)) w cid x) (sym (works j e)) f)

      fine_at : (m : Message) → CountedIn d ws m → FineIn d ws m → FineIn u vs m
      fine_at (message.Exec h c level (Some x) horizon slice) k f = one_at h.0 c.0 x (eqb h.0 g) refl k.0 k.1 f
      fine_at (message.Exec h c level None horizon slice) k f = tt
      fine_at (message.Prepare h) k f = tt
      fine_at (message.Commit h) k f = tt
      fine_at (message.CommitPrepared h) k f = tt
      fine_at (message.Abort h) k f = tt
      fine_at (message.Forget h) k f = tt
      fine_at (message.Answer h r) k f = tt
      fine_at (message.Collect round) k f = tt
      fine_at (message.Graph round graph) k f = tt
      fine_at message.Up k f = tt

pub reads-none : (t : Option Txn) → Reads t no_work
reads-none t = record { plain = λ e. refl; kept = λ l x e. absurd (cc); ordered = λ l m e. absurd (cc) }

pub apart-same : (ws : Works) (g : ℕ) (v : Work) (j : ℕ) → eqb j g ≡ false → with_at ws g v j ≡ ws j
apart-same ws g v j e = ap (λ b. if b then v else ws j) e

pub at-self : (ws : Works) (g : ℕ) (v : Work) → with_at ws g v g ≡ v
at-self ws g v = ap (λ b. if b then v else ws g) (eqb-self g)

-- STEPS OF ONE TRANSACTION
pub step-apart : (d : Table) (g j : ℕ) (x : Step) → Sorted d → eqb j g ≡ false → lookup (is_at (gxid_cmp (gx j))) (with_step d.txns (gx g) x) ≡ find_txn d (gx j)
step-apart d g j Stays s e = refl
step-apart d g j (GoesTo p) s e = find-with (gx g) (gx j) (moved p) d.txns ∙ ap (λ b. cond b (option_map (moved p) (find_txn d (gx g))) (find_txn d (gx j))) e
step-apart d g j Leaves s e = find-remove (gx g) (gx j) d.txns s.risen ∙ ap (λ b. cond b None (find_txn d (gx j))) e

pub step-here : (d : Table) (g : ℕ) (x : Step) → Sorted d → lookup (is_at (gxid_cmp (gx g))) (with_step d.txns (gx g) x) ≡ left_of x (find_txn d (gx g))
step-here d g Stays s = refl
step-here d g (GoesTo p) s = find-with (gx g) (gx g) (moved p) d.txns ∙ ap (λ b. cond b (option_map (moved p) (find_txn d (gx g))) (find_txn d (gx g))) (eqb-self g)
step-here d g Leaves s = find-remove (gx g) (gx g) d.txns s.risen ∙ ap (λ b. cond b None (find_txn d (gx g))) (eqb-self g)

-- it is over for the coordinator
pub over-went : (d : Table) (ws : Works) (g : ℕ) (c : Change) → Stood d ws → Went d ws (changed d (gx g) c) (with_at ws g no_work)
over-went d ws g c s =
    one-went d (changed d (gx g) c) ws (with_at ws g no_work) g s (changed-rises d (gx g) c s.sorted) (λ j e. step-apart d g j c.step s.sorted e) (λ j e. apart-same ws g no_work j e)
    (subst (Reads (find_txn (changed d (gx g) c) (gx g))) (sym (at-self ws g no_work)) (reads-none _))
    (subst (λ (w : Work). CommandLow (horizon_of (changed d (gx g) c)) g w.command) (sym (at-self ws g no_work)) tt)
    (λ cid x n k f. subst (λ w. Fine (find_txn (changed d (gx g) c) (gx g)) w cid x) (sym (at-self ws g no_work)) (λ l m e q. absurd (cc)))

-- its status changes, and if its commands still run nothing does
abbrev pub Quiet : Change → Option Txn → Type 0
Quiet c t = stage (left_of c.step t) ≡ Live → left_of c.step t ≡ t

pub quiet-went : (d : Table) (ws : Works) (g : ℕ) (c : Change) → Stood d ws → Quiet c (find_txn d (gx g)) → Went d ws (changed d (gx g) c) ws
quiet-went d ws g c s q =
    one-went d (changed d (gx g) c) ws ws g s (changed-rises d (gx g) c s.sorted) (λ j e. step-apart d g j c.step s.sorted e) (λ j e. refl)
    (subst (λ t. Reads t (ws g)) (sym (step-here d g c.step s.sorted))
    (record {
      plain = (s.reads g).plain;
      kept = λ l. subst (λ t. (x : Snapshot) → (ws g).snapshot ≡ Some x → Held (live_of t) x) (sym (q l)) ((s.reads g).kept (sym (ap stage (q l)) ∙ l));
      ordered = λ l. subst (λ t. (m : Command) → (ws g).command ≡ Some m → Each (λ (o : Out). OrderHeld (live_of t) o.message) m.orders) (sym (q l)) ((s.reads g).ordered (sym (ap stage (q l)) ∙ l));
    }))
    (command-low (horizon_of d) (horizon_of (changed d (gx g) c)) g (ws g).command (changed-rises d (gx g) c s.sorted).low (s.orders g))
    (λ cid x n k f. subst (λ t. Fine t (ws g) cid x) (sym (step-here d g c.step s.sorted)) (λ l m e h. subst (λ t. Held (live_of t) x) (sym (q l)) (f (sym (ap stage (q l)) ∙ l) m e h)))
