-- What the coordinator's tables keep low.
use Rattle.std.proofs.Common.{◌≡◌, ◌≤◌, ◌<◌, ℕ, ◌+◌, List, [], ◌∷◌, Option, Some, None, Bool, true, false, refl, sym, subst, ap, ◌∙◌, if◌then◌else◌, arith, eqb}
use Rattle.std.proofs.lemmas.Bool.{eqb-true}
use Rattle.std.proofs.lemmas.Bool.Decides.{nat_tests}
use Rattle.std.specs.Prelude.{option_map, nat_lt}
use Rattle.std.specs.List.{flat_map}
use Rattle.gx_lemmas.proofs.Numbers.{eqb-self, lt-next}
use Rattle.gx_lemmas.proofs.Options.{some-same}
use Rattle.gx_ids.specs.declared.ids.Gxid.{Gxid}
use Rattle.gx_ids.specs.declared.ids.Node.{Node}
use Rattle.gx_dsnap.specs.Gxids.{after_ended, first_or, is_below}
use Rattle.gx_dtx.specs.Nodes.{with_node}
use Rattle.gx_dtx.specs.Rules.{begun, changed, ends, enlisted, live_in, moved, with_ended, with_live}
use Rattle.gx_dtx.specs.Table.{Table, find_txn, holds_back, horizon_of, is_running, new_txn, xmax_of, xmin_of}
use Rattle.gx_dtx.specs.declared.change.Change.{Change}
use Rattle.gx_dtx.specs.declared.change.Step.{Step}
use Rattle.gx_dtx.specs.declared.change.Step.TheVariants.{GoesTo, Leaves, Stays}
use Rattle.gx_dtx.specs.declared.phase.Phase.{Phase as Status}
use Rattle.gx_dtx.specs.declared.txn.Txn.{Txn}
use Rattle.gx_dtx.proofs.Least.{least_of-le_other}
use Rattle.gx_dtx.proofs.Low.{found-low, live_found-low}
use Rattle.gx_rules.specs.AtCoordinator.{enlisted_all}
use Rattle.gx_rules.specs.Coordinators.{Coord}
use Rattle.gx_rules.specs.Snapshots.{latest_number}
use Rattle.gx_law_order.proofs.Closings.{live-at, set_live}
use Rattle.gx_law_order.proofs.Ends.{begun-finds}
use Rattle.gx_law_order.proofs.Lines.{begun-whole}
use Rattle.gx_law_order.proofs.Lists.{each_filter, each_map}
use Rattle.gx_law_order.specs.Lists.{Each}
use Rattle.gx_law_order.specs.Past.{Past}
use Rattle.gx_law_order.specs.Stages.{IsWhole, stage, stage_of}
use Rattle.gx_law_order.proofs.Stages.{At, at_gxid, changed-at, first-at, left_of, txn-at}
use Rattle.gx_law_order.specs.Horizons.{IsLow}
use Rattle.gx_law_order.specs.Standings.{gx}

-- a table with whole entries, and a horizon that is low
pub record Fits (n : ℕ) (d : Table) : Type 0 where
  pub whole : IsWhole d
  pub low : IsLow n d

-- what a changed transaction holds the horizon at
abbrev NowLow : ℕ → ℕ → Option Txn → Type 0
NowLow n g now = (t : Txn) → now ≡ Some t → (n ≤ g) × ((x : Gxid) → t.live ≡ Some x → n ≤ x.0)

low-at : (n : ℕ) (d u : Table) (g : ℕ) (now : Option Txn) → IsLow n d → At d u g now → n ≤ (xmax_of u).0 → NowLow n g now → Fits n u
low-at n d u g now l a m f =
    record {
      whole = a.whole;
      low = record {
        next = subst (λ (x : Gxid). n ≤ x.0) (sym a.next) l.next;
        taken = m;
        kept = λ h t e. kept h t (eqb h g) refl (sym (a.finds h) ∙ e);
        live = λ h t x e q. live h t x (eqb h g) refl (sym (a.finds h) ∙ e) q;
      };
    }
  where
    kept : (h : ℕ) (t : Txn) (b : Bool) → eqb h g ≡ b → (if eqb h g then now else find_txn d (gx h)) ≡ Some t → n ≤ h
    kept h t true q e = subst (λ j. n ≤ j) (sym (eqb-true h g q)) (f t (sym (ap (λ b. if b then now else find_txn d (gx h)) q) ∙ e)).0
    kept h t false q e = l.kept h t (sym (ap (λ b. if b then now else find_txn d (gx h)) q) ∙ e)

    live : (h : ℕ) (t : Txn) (x : Gxid) (b : Bool) → eqb h g ≡ b → (if eqb h g then now else find_txn d (gx h)) ≡ Some t → t.live ≡ Some x → n ≤ x.0
    live h t x true q e y = (f t (sym (ap (λ b. if b then now else find_txn d (gx h)) q) ∙ e)).1 x y
    live h t x false q e y = l.live h t x (sym (ap (λ b. if b then now else find_txn d (gx h)) q) ∙ e) y

-- a change of what is there
mapped-low : (n : ℕ) (d : Table) (g : ℕ) (f : Txn → Txn) → IsLow n d → ((t : Txn) (x : Gxid) → find_txn d (gx g) ≡ Some t → (f t).live ≡ Some x → n ≤ x.0) → NowLow n g (option_map f (find_txn d (gx g)))
mapped-low n d g f l k = by_found (find_txn d (gx g)) refl
  where
    by_found : (o : Option Txn) → find_txn d (gx g) ≡ o → NowLow n g (option_map f o)
    by_found None e t q = absurd (cc)
    by_found (Some u) e t q = (l.kept g u e, λ x y. k u x e (ap (λ (v : Txn). v.live) (some-same (f u) t q) ∙ y))

-- CALLS
greater-ended : (n : ℕ) (b : Bool) (g : Gxid) (latest : Option Gxid) → n ≤ (after_ended latest).0 → n ≤ (after_ended (with_ended b g latest)).0
greater-ended n false g latest l = l
greater-ended n true g None l = up l
  where
    up : n ≤ 1 → n ≤ g.0 + 1
    up l = omega arith
greater-ended n true g (Some x) l = by_test (nat_lt x.0 g.0) refl
  where
    up : (a b : ℕ) → nat_lt a b ≡ true → n ≤ a + 1 → n ≤ b + 1
    up a b e l = grind (arith, nat_tests)

    by_test : (b : Bool) → nat_lt x.0 g.0 ≡ b → n ≤ (after_ended (Some (if b then g else x))).0
    by_test true e = up x.0 g.0 e l
    by_test false e = l

live-kept : (p : Status) (a : Option Gxid) (x : Gxid) → live_in p a ≡ Some x → a ≡ Some x
live-kept p a x e = grind arith

pub changed-fits : (n : ℕ) (d : Table) (g : ℕ) (ch : Change) → Fits n d → Fits n (changed d (gx g) ch)
changed-fits n d g ch f = low-at n d (changed d (gx g) ch) g (left_of ch.step (find_txn d (gx g))) f.low (changed-at d g ch f.whole) (greater-ended n (ends ch.out.outcome) (gx g) d.latest_ended f.low.taken) (by_step ch.step)
  where
    by_step : (s : Step) → NowLow n g (left_of s (find_txn d (gx g)))
    by_step Stays = λ t e. (f.low.kept g t e, λ x y. f.low.live g t x e y)
    by_step (GoesTo p) = mapped-low n d g (moved p) f.low (λ t x e y. f.low.live g t x e (live-kept p t.live x y))
    by_step Leaves = λ t e. absurd (cc)

-- ENLISTING
one-fits : (n : ℕ) (d : Table) (g : ℕ) (i : Node) → Fits n d → Fits n (enlisted d (gx g) i)
one-fits n d g i f =
    let a = txn-at d g (λ (x : Txn). record x { participants = with_node i x.participants }) f.whole in
    low-at n d (enlisted d (gx g) i) g (option_map (λ (x : Txn). record x { participants = with_node i x.participants }) (find_txn d (gx g))) f.low
    (record { whole = record { first = a.whole.first; apart = a.whole.apart; drawn = a.whole.drawn }; next = refl; finds = a.finds }) f.low.taken (mapped-low n d g _ f.low (λ t x e y. f.low.live g t x e y))

pub all-fits : (n : ℕ) (nodes : List Node) (d : Table) (g : ℕ) → Fits n d → Fits n (enlisted_all d (gx g) nodes)
all-fits n [] d g f = f
all-fits n (i ∷ is) d g f = all-fits n is (enlisted d (gx g) i) g (one-fits n d g i f)

-- SNAPSHOTS
each-low : (n : ℕ) (xs : List (Gxid × Txn)) → ((g : ℕ) (t : Txn) → at_gxid g xs ≡ Some t → n ≤ g) → Each (λ (e : Gxid × Txn). n ≤ e.0.0) xs
each-low n [] f = tt
each-low n (x ∷ xs) f = (here, each-low n xs (λ g t e. by_same g t (eqb g x.0.0) refl e))
  where
    here : n ≤ x.0.0
    here = f x.0.0 x.1 (first-at x.0.0 x xs ∙ ap (λ b. if b then Some x.1 else at_gxid x.0.0 xs) (eqb-self x.0.0))

    by_same : (g : ℕ) (t : Txn) (b : Bool) → eqb g x.0.0 ≡ b → at_gxid g xs ≡ Some t → n ≤ g
    by_same g t true q e = subst (λ j. n ≤ j) (sym (eqb-true g x.0.0 q)) here
    by_same g t false q e = f g t (first-at g x xs ∙ ap (λ b. if b then Some x.1 else at_gxid g xs) q ∙ e)

first-low : (n : ℕ) (xs : List Gxid) (other : Gxid) → Each (λ (g : Gxid). n ≤ g.0) xs → n ≤ other.0 → n ≤ (first_or xs other).0
first-low n [] other e l = l
first-low n (x ∷ xs) other e l = e.0

xmin-low : (n : ℕ) (d : Table) → IsLow n d → n ≤ (xmin_of d).0
xmin-low n d l =
    first-low n _ (xmax_of d) (each_filter (λ (g : Gxid). n ≤ g.0) (is_below (xmax_of d)) _ (each_map (λ (g : Gxid). n ≤ g.0) (λ (e : Gxid × Txn). e.0) _ (each_filter (λ (e : Gxid × Txn). n ≤ e.0.0) (λ (e : Gxid × Txn). is_running e.1.phase) d.txns (each-low n d.txns l.kept)))) l.taken

pub live-fits : (n : ℕ) (d : Table) (g : ℕ) → Fits n d → Fits n (with_live d (gx g) (Some (xmin_of d)))
live-fits n d g f =
    low-at n d (with_live d (gx g) (Some (xmin_of d))) g (option_map (set_live (Some (xmin_of d))) (find_txn d (gx g))) f.low (live-at d g (Some (xmin_of d)) f.whole) f.low.taken
    (mapped-low n d g (set_live (Some (xmin_of d))) f.low (λ t x e y. subst (λ (q : Gxid). n ≤ q.0) (some-same (xmin_of d) x y) (xmin-low n d f.low)))

pub none-fits : (n : ℕ) (d : Table) (g : ℕ) → Fits n d → Fits n (with_live d (gx g) None)
none-fits n d g f =
    low-at n d (with_live d (gx g) None) g (option_map (set_live None) (find_txn d (gx g))) f.low (live-at d g None f.whole) f.low.taken (mapped-low n d g (set_live None) f.low (λ t x e y. absurd (cc)))

-- A NEW TRANSACTION
pub begun-fits : (n : ℕ) (d : Table) → Fits n d → Fits n (begun d)
begun-fits n d f =
    record {
      whole = begun-whole d f.whole;
      low = record {
        next = more n d.next.0 f.low.next;
        taken = f.low.taken;
        kept = λ h t e. kept h t (eqb h d.next.0) refl (sym (begun-finds d f.whole h) ∙ e);
        live = λ h t x e q. live h t x (eqb h d.next.0) refl (sym (begun-finds d f.whole h) ∙ e) q;
      };
    }
  where
    more : (a b : ℕ) → a ≤ b → a ≤ b + 1
    more a b l = omega arith

    kept : (h : ℕ) (t : Txn) (b : Bool) → eqb h d.next.0 ≡ b → (if eqb h d.next.0 then Some new_txn else find_txn d (gx h)) ≡ Some t → n ≤ h
    kept h t true q e = subst (λ j. n ≤ j) (sym (eqb-true h d.next.0 q)) f.low.next
    kept h t false q e = f.low.kept h t (sym (ap (λ b. if b then Some new_txn else find_txn d (gx h)) q) ∙ e)

    live : (h : ℕ) (t : Txn) (x : Gxid) (b : Bool) → eqb h d.next.0 ≡ b → (if eqb h d.next.0 then Some new_txn else find_txn d (gx h)) ≡ Some t → t.live ≡ Some x → n ≤ x.0
    live h t x true q e y = absurd (none (ap (λ (v : Txn). v.live) (some-same new_txn t (sym (ap (λ b. if b then Some new_txn else find_txn d (gx h)) q) ∙ e)) ∙ y))
      where
        none : None ≡ Some x → ⊥
        none z = cc
    live h t x false q e y = f.low.live h t x (sym (ap (λ b. if b then Some new_txn else find_txn d (gx h)) q) ∙ e) y

-- THE HORIZON ITSELF
-- whoever was drawn after the greatest that has ended is in the table
pub record IsDense (d : Table) : Type 0 where
  pub there : (h : ℕ) → 1 ≤ h → h < d.next.0 → latest_number d.latest_ended < h → (t : Txn) × (find_txn d (gx h) ≡ Some t)

pub past-dense : (c : Coord) (ms : List Rattle.gx_store.specs.declared.mark.Mark.Mark) → Past c ms → IsDense c.table
past-dense c ms p = record { there = λ h one l m. by_found h (find_txn c.table (gx h)) refl (λ q. beyond h (latest_number c.table.latest_ended) m (p.latest h one l q)) }
  where
    beyond : (a b : ℕ) → b < a → a ≤ b → ⊥
    beyond a b x y = omega arith

    by_found : (h : ℕ) (o : Option Txn) → find_txn c.table (gx h) ≡ o → (Rattle.gx_law_order.specs.Stages.is_running (stage_of c h) ≡ false → ⊥) → (t : Txn) × (find_txn c.table (gx h) ≡ Some t)
    by_found h None e n = absurd (n (ap (λ o. Rattle.gx_law_order.specs.Stages.is_running (stage o)) e))
    by_found h (Some t) e n = (t, e)

pub begun-dense : (d : Table) → IsWhole d → IsDense d → IsDense (begun d)
begun-dense d w k = record { there = λ h one l m. by_same h (eqb h d.next.0) refl one l m }
  where
    by_same : (h : ℕ) (b : Bool) → eqb h d.next.0 ≡ b → 1 ≤ h → h < d.next.0 + 1 → latest_number d.latest_ended < h → (t : Txn) × (find_txn (begun d) (gx h) ≡ Some t)
    by_same h true q one l m = (new_txn, begun-finds d w h ∙ ap (λ b. if b then Some new_txn else find_txn d (gx h)) q)
    by_same h false q one l m = let x = k.there h one (lt-next h d.next.0 l q) m in (x.0, begun-finds d w h ∙ ap (λ b. if b then Some new_txn else find_txn d (gx h)) q ∙ x.1)

pub live-dense : (d : Table) (g : ℕ) (y : Option Gxid) → IsWhole d → IsDense d → IsDense (with_live d (gx g) y)
live-dense d g y w k = record { there = λ h one l m. by_same h (eqb h g) refl (k.there h one l m) }
  where
    by_same : (h : ℕ) (b : Bool) → eqb h g ≡ b → (t : Txn) × (find_txn d (gx h) ≡ Some t) → (t : Txn) × (find_txn (with_live d (gx g) y) (gx h) ≡ Some t)
    by_same h true q x =
        (set_live y x.0, (live-at d g y w).finds h ∙ ap (λ b. if b then option_map (set_live y) (find_txn d (gx g)) else find_txn d (gx h)) q ∙ ap (λ o. option_map (set_live y) o) (sym (ap (λ j. find_txn d (gx j)) (eqb-true h g q)) ∙ x.1))
    by_same h false q x = (x.0, (live-at d g y w).finds h ∙ ap (λ b. if b then option_map (set_live y) (find_txn d (gx g)) else find_txn d (gx h)) q ∙ x.1)

pub horizon-fits : (d : Table) → IsWhole d → IsDense d → Fits (horizon_of d).0 d
horizon-fits d w k =
    record {
      whole = w;
      low = record {
        next = least_of-le_other (flat_map holds_back d.txns) d.next;
        taken = by_latest d.latest_ended refl;
        kept = λ g t e. found-low (gx g) t d.txns e d.next;
        live = λ g t x e q. live_found-low (gx g) t x d.txns q e d.next;
      };
    }
  where
    low-or : (h m next : ℕ) → h ≤ next → (m < next → h ≤ m) → h ≤ m
    low-or h m next a f = by_test (nat_lt m next) refl
      where
        lower : nat_lt m next ≡ true → m < next
        lower e = grind (arith, nat_tests)

        upper : nat_lt m next ≡ false → h ≤ m
        upper e = grind (arith, nat_tests)

        by_test : (b : Bool) → nat_lt m next ≡ b → h ≤ m
        by_test true e = f (lower e)
        by_test false e = upper e

    by_latest : (o : Option Gxid) → d.latest_ended ≡ o → (horizon_of d).0 ≤ (after_ended d.latest_ended).0
    by_latest o e =
        low-or (horizon_of d).0 (after_ended d.latest_ended).0 d.next.0 (least_of-le_other (flat_map holds_back d.txns) d.next)
        (λ l. let x = k.there (after_ended d.latest_ended).0 (positive d.latest_ended) l (above d.latest_ended) in found-low (after_ended d.latest_ended) x.0 d.txns x.1 d.next)
      where
        positive : (o : Option Gxid) → 1 ≤ (after_ended o).0
        positive None = omega arith
        positive (Some g) = omega arith

        above : (o : Option Gxid) → latest_number o < (after_ended o).0
        above None = omega arith
        above (Some g) = omega arith
