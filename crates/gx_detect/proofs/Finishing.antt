-- Who is named in no stuck edge can finish.
use Rattle.std.proofs.Common.{◌≡◌, ℕ, zero, suc, List, [], ◌∷◌, Bool, true, false, ◌⊎◌, inl, inr, ⊎_elim, length, filter, if◌then◌else◌, sym, refl, ap, subst, ◌∙◌, arith}
use Rattle.std.proofs.lemmas.Bool.Decides.{nat_tests}
use Rattle.gx_ids.specs.declared.ids.Node.{Node}
use Rattle.gx_ids.specs.declared.ids.Gxid.{Gxid}
use Rattle.gx_waits.specs.declared.placed_edge.PlacedEdge.{PlacedEdge}
use Rattle.gx_waits.specs.Closed.{IsNamedInStuck}
use Rattle.gx_waits.specs.Finish.{Move, IsLet, IsLawful, IsPlan, CanFinish}
use Rattle.gx_waits.specs.Finish.Move.{End, Back}
use Rattle.gx_waits.proofs.Members.{Has, has_from_contains, contains_from_has}
use Rattle.gx_detect.specs.declared.place.Place.TheVariants.{Anywhere, At}
use Rattle.gx_detect.specs.Place.{waits_in, need_of}
use Rattle.gx_detect.specs.Verdicts.{is_needed, stay_for, stuck_of}
use Rattle.gx_detect.proofs.Cores.{is_stuck, needs}
use Rattle.gx_detect.proofs.Staying.{backed}
use Rattle.gx_detect.proofs.Stuck.{has_filter}

-- what lets the edge go
pub move_for : PlacedEdge → Move
move_for e = if e.edge.dotted then Back e.node e.edge.holder else End e.edge.holder

cases : (b : Bool) → (b ≡ true) ⊎ (b ≡ false)
cases true = inl refl
cases false = inr refl

if_true : {A : Type 0} (b : Bool) (x y : A) → b ≡ true → (if b then x else y) ≡ x
if_true true x y e = refl
if_true false x y e = absurd (cc)

if_false : {A : Type 0} (b : Bool) (x y : A) → b ≡ false → (if b then x else y) ≡ y
if_false true x y e = absurd (cc)
if_false false x y e = refl

waits_anywhere : (v : Gxid) (f : PlacedEdge) → f.edge.waiter ≡ v → waits_in (Anywhere v) f ≡ true
waits_anywhere v f e = let n : f.edge.waiter.0 ≡ v.0 = ap (λ g. g.0) e in grind (arith, nat_tests)

waits_at : (node : Node) (v : Gxid) (f : PlacedEdge) → f.node ≡ node → f.edge.waiter ≡ v → waits_in (At node v) f ≡ true
waits_at node v f s e = let n : f.edge.waiter.0 ≡ v.0 = ap (λ g. g.0) e in let m : f.node.0 ≡ node.0 = ap (λ g. g.0) s in grind (arith, nat_tests)

-- where nobody waits in the place that an edge needs, what lets the edge go is lawful, and does
module _ (edges : List PlacedEdge) (plan : List Move) (e : PlacedEdge) (free : (f : PlacedEdge) → Has f edges → waits_in (need_of e) f ≡ true → IsLet plan f) where
  pub move_lawful : IsLawful edges plan (move_for e)
  unfolding move_for
  move_lawful = ⊎_elim dotted solid (cases e.edge.dotted)
    where
      dotted : e.edge.dotted ≡ true → IsLawful edges plan (move_for e)
      dotted d = subst (IsLawful edges plan) (sym (if_true e.edge.dotted (Back e.node e.edge.holder) (End e.edge.holder) d))
          (λ f c s w. free f (has_from_contains f edges c)
          (ap (λ p. waits_in p f) (if_true e.edge.dotted (At e.node e.edge.holder) (Anywhere e.edge.holder) d) ∙ waits_at e.node e.edge.holder f s w))

      solid : e.edge.dotted ≡ false → IsLawful edges plan (move_for e)
      solid d = subst (IsLawful edges plan) (sym (if_false e.edge.dotted (Back e.node e.edge.holder) (End e.edge.holder) d))
          (λ f c w. free f (has_from_contains f edges c)
          (ap (λ p. waits_in p f) (if_false e.edge.dotted (At e.node e.edge.holder) (Anywhere e.edge.holder) d) ∙ waits_anywhere e.edge.holder f w))

  pub move_lets : IsLet (move_for e ∷ plan) e
  unfolding move_for
  move_lets = ⊎_elim dotted solid (cases e.edge.dotted)
    where
      dotted : e.edge.dotted ≡ true → IsLet (move_for e ∷ plan) e
      dotted d = inr (d, contains_from_has (Back e.node e.edge.holder) (move_for e ∷ plan) (inl (if_true e.edge.dotted (Back e.node e.edge.holder) (End e.edge.holder) d)))

      solid : e.edge.dotted ≡ false → IsLet (move_for e ∷ plan) e
      solid d = inl (contains_from_has (End e.edge.holder) (move_for e ∷ plan) (inl (if_false e.edge.dotted (Back e.node e.edge.holder) (End e.edge.holder) d)))

pub still_let : (plan : List Move) (m : Move) (e : PlacedEdge) → IsLet plan e → IsLet (m ∷ plan) e
still_let plan m e (inl c) = inl (contains_from_has (End e.edge.holder) (m ∷ plan) (inr (has_from_contains (End e.edge.holder) plan c)))
still_let plan m e (inr (d, c)) = inr (d, contains_from_has (Back e.node e.edge.holder) (m ∷ plan) (inr (has_from_contains (Back e.node e.edge.holder) plan c)))

-- a plan over the edges lets go each of them that isn't one of these
record Lets (edges now : List PlacedEdge) : Type 0 where
  plan : List Move
  lawful : IsPlan edges plan
  lets : (e : PlacedEdge) → Has e edges → Has e now ⊎ IsLet plan e

-- of these edges those go that aren't needed among all that are left
one_by_one : (edges now some : List PlacedEdge) (l : Lets edges now) → ((e : PlacedEdge) → Has e some → Has e now)
    → (m : Lets edges now) × ((e : PlacedEdge) → Has e some → is_needed now e ≡ false → IsLet m.plan e)
one_by_one edges now [] l inside = (l, λ e h. absurd h)
one_by_one edges now (x ∷ xs) l inside = go (is_needed now x) refl (one_by_one edges now xs l (λ e h. inside e (inr h)))
  where
    never : true ≡ false → ⊥
    never e = cc

    go : (b : Bool) → is_needed now x ≡ b → ((m : Lets edges now) × ((e : PlacedEdge) → Has e xs → is_needed now e ≡ false → IsLet m.plan e))
        → (m : Lets edges now) × ((e : PlacedEdge) → Has e (x ∷ xs) → is_needed now e ≡ false → IsLet m.plan e)
    go true t (m, goes) = (m, λ e h n. ⊎_elim (λ (s : x ≡ e). absurd (never (sym t ∙ ap (is_needed now) s ∙ n))) (λ (r : Has e xs). goes e r n) h)
    go false t (m, goes) =
        let free : (f : PlacedEdge) → Has f edges → waits_in (need_of x) f ≡ true → IsLet m.plan f =
        λ f h w. ⊎_elim (λ (r : Has f now). absurd (never (sym (backed needs now x f r w) ∙ t))) (λ g. g) (m.lets f h) in
        let longer : Lets edges now = record {
          plan = move_for x ∷ m.plan;
          lawful = (move_lawful edges m.plan x free, m.lawful);
          lets = λ e h. ⊎_elim (λ (r : Has e now). inl r) (λ (g : IsLet m.plan e). inr (still_let m.plan (move_for x) e g)) (m.lets e h);
        } in (
          longer,
          λ e h n. ⊎_elim
              (λ (s : x ≡ e). subst (λ y. IsLet (move_for x ∷ m.plan) y) s (move_lets edges m.plan x free))
              (λ (r : Has e xs). still_let m.plan (move_for x) e (goes e r n)) h,
        )

all_go : (n : ℕ) (edges now : List PlacedEdge) → Lets edges now → Lets edges (stay_for n is_needed now)
all_go zero edges now l = l
all_go (suc n) edges now l =
    let m = one_by_one edges now now l (λ e h. h) in
    all_go n edges (filter (is_needed now) now) (record {
      plan = m.0.plan;
      lawful = m.0.lawful;
      lets = λ e h. ⊎_elim (λ (r : Has e now). split m.0 m.1 e r (is_needed now e) refl) (λ (g : IsLet m.0.plan e). inr g) (m.0.lets e h);
    })
  where
    split : (m : Lets edges now) → ((e : PlacedEdge) → Has e now → is_needed now e ≡ false → IsLet m.plan e) → (e : PlacedEdge) → Has e now
        → (b : Bool) → is_needed now e ≡ b → Has e (filter (is_needed now) now) ⊎ IsLet m.plan e
    split m goes e h true t = inl (has_filter (is_needed now) now e h t)
    split m goes e h false t = inr (goes e h t)

pub others_finish : (edges : List PlacedEdge) (v : Gxid) → (IsNamedInStuck edges v → ⊥) → CanFinish edges v
others_finish edges v none =
    let l = all_go (length edges) edges edges (record { plan = []; lawful = tt; lets = λ e h. inl h }) in (
      End v ∷ l.plan,
      (
        (λ e c w. ⊎_elim
            (λ (h : Has e (stuck_of edges)). absurd (none (e, is_stuck edges e h, inl w)))
            (λ (g : IsLet l.plan e). g)
            (l.lets e (has_from_contains e edges c))),
        l.lawful,
      ),
      contains_from_has (End v) (End v ∷ l.plan) (inl refl),
    )
