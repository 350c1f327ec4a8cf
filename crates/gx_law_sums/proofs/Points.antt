-- At each point of a legal history of transfers the books are balanced, and nobody who has committed there writes behind it.
use Rattle.std.proofs.Common.{◌≡◌, ◌⊎◌, inl, inr, ℕ, Bool, true, false, if◌then◌else◌, ◌||◌, ◌&&◌, ◌==◌, List, [], ◌∷◌, ◌++◌, Option, Some, None, refl, sym, ap, ◌∙◌, subst, append-nil, ◌≤◌, arith}
use Rattle.std.proofs.lemmas.Bool.Decides.{nat_tests}
use Rattle.std.proofs.lemmas.List.Elements.{Contains-append_left, Contains-append_right, Contains-push}
use Rattle.std.proofs.lemmas.Bool.{eqb-true}
use Rattle.std.specs.Prelude.{Contains, nat_lt}
use Rattle.gx_ids.specs.declared.ids.Cid.{Cid}
use Rattle.gx_ids.specs.declared.ids.Gxid.{Gxid}
use Rattle.gx_ids.specs.declared.ids.Node.{Node}
use Rattle.gx_ids.specs.declared.ids.Table.{Table}
use Rattle.gx_ids.specs.declared.rid.Rid.{Rid}
use Rattle.gx_tree.specs.declared.row.KeyedRow.{KeyedRow}
use Rattle.gx_tree.specs.declared.value.Value.{Value}
use Rattle.gx_script.specs.declared.Script.{Script}
use Rattle.gx_work.specs.declared.transfer.Transfer.{Transfer}
use Rattle.gx_lemmas.proofs.Tests.{and-first, and-second, or-false, true-false}
use Rattle.gx_store.specs.declared.event.Event.{Event}
use Rattle.gx_store.specs.declared.mark.Mark.{Mark}
use Rattle.gx_store.specs.declared.mark.Mark.TheVariants.{Write}
use Rattle.gx_store.specs.declared.run.Step.{Step}
use Rattle.gx_store.specs.Legal.{AreLegalMarks, AreLegalSteps, LegalMark}
use Rattle.gx_store.specs.Marks.{is_aborted, is_committed, is_same_gxid, is_same_rid}
use Rattle.gx_store.specs.Points.{Point, before, marks_in}
use Rattle.gx_store.specs.View.{IsView, Reader, image_after, is_shown_to}
use Rattle.gx_store.proofs.Marks.{image_after-append, is_committed-append}
use Rattle.gx_law_sums.specs.Sums.{HasWrittenNothing, the_accounts}
use Rattle.gx_law_sums.specs.Transfers.{AreTransfers}
use Rattle.gx_law_sums.proofs.Neat.{same-gxid}
use Rattle.gx_law_sums.proofs.Standing.{EndOnce}
use Rattle.gx_law_sums.proofs.Through.{IsInOrder, in-order-first, in-order-next}
use Rattle.gx_law_sums.proofs.Walk.{through}
use Rattle.gx_law_sums.proofs.Writes.{EachWrite, each-append, each-weaker}

-- PLAIN FACTS
first-none : (a b : Bool) → (a || b) ≡ false → a ≡ false
first-none true b e = absurd (true-false true refl e)
first-none false b e = refl

head-same : (a b : Mark) (l k : List Mark) → a ∷ l ≡ b ∷ k → a ≡ b
head-same a b l k e = cc

tail-same : (a b : Mark) (l k : List Mark) → a ∷ l ≡ b ∷ k → l ≡ k
tail-same a b l k e = cc

-- one mark more behind a list that is cut in two
abbrev Within : List Mark → Mark → List Mark → List Mark → Type 0
Within N m xs ys = (zs : List Mark) × (N ≡ xs ++ zs) × (ys ≡ zs ++ m ∷ [])

abbrev AtEnd : List Mark → Mark → List Mark → List Mark → Type 0
AtEnd N m xs ys = (xs ≡ N ++ m ∷ []) × (ys ≡ [])

cut-more : (N : List Mark) (m : Mark) (xs ys : List Mark) → N ++ m ∷ [] ≡ xs ++ ys → Within N m xs ys ⊎ AtEnd N m xs ys
cut-more N m [] ys e = inl (N, refl, sym e)
cut-more [] m (x ∷ xs) ys e = inr (by_rest xs ys (tail-same m x [] (xs ++ ys) e))
  where
    by_rest : (xs ys : List Mark) → [] ≡ xs ++ ys → (x ∷ xs ≡ m ∷ []) × (ys ≡ [])
    by_rest [] ys f = (ap (λ y. y ∷ []) (sym (head-same m x [] ([] ++ ys) (head-of f))), sym f)
      where
        head-of : [] ≡ ys → m ∷ [] ≡ x ∷ ys
        head-of f = cc
    by_rest (y ∷ xs) ys f = absurd (cc)
cut-more (n ∷ N) m (x ∷ xs) ys e = by_case (cut-more N m xs ys (tail-same n x (N ++ m ∷ []) (xs ++ ys) e))
  where
    same : n ≡ x
    same = head-same n x (N ++ m ∷ []) (xs ++ ys) e

    by_case : Within N m xs ys ⊎ AtEnd N m xs ys → Within (n ∷ N) m (x ∷ xs) ys ⊎ AtEnd (n ∷ N) m (x ∷ xs) ys
    by_case (inl w) = inl (w.0, ap (λ y. y ∷ N) same ∙ ap (λ l. x ∷ l) w.1, w.2)
    by_case (inr a) = inr (ap (λ y. y ∷ xs) (sym same) ∙ ap (λ l. n ∷ l) a.0, a.1)

-- WRITES THAT AREN'T SHOWN
abbrev pub AreLater : List Mark → List Mark → Type 0
AreLater xs ys = EachWrite (λ g c t r image. is_committed xs g ≡ false) ys

module _ (table : Table) (rid : Rid) where
  later-hidden : (xs ys : List Mark) (i : Option (List Value)) → AreLater xs ys → image_after (is_shown_to None xs) table rid i ys ≡ i
  later-hidden xs [] i later = refl
  later-hidden xs (Write g c node t r written ∷ ys) i later =
      ap (λ (b : Bool). image_after (is_shown_to None xs) table rid (if b && ((t.0 == table.0) && is_same_rid r rid) then written else i) ys) later.0 ∙ later-hidden xs ys i later.1
  later-hidden xs (m ∷ ys) i later = later-hidden xs ys i later.1

  shown-same : (one other : Gxid → Cid → Bool) (N : List Mark) (i : Option (List Value)) → EachWrite (λ g c t r image. one g c ≡ other g c) N → image_after one table rid i N ≡ image_after other table rid i N
  shown-same one other [] i same = refl
  shown-same one other (Write g c node t r written ∷ N) i same =
      ap (λ (b : Bool). image_after one table rid (if b && ((t.0 == table.0) && is_same_rid r rid) then written else i) N) same.0
      ∙ shown-same one other N (if other g c && ((t.0 == table.0) && is_same_rid r rid) then written else i) same.1
  shown-same one other (m ∷ N) i same = shown-same one other N i same.1

-- each write is among the marks
abbrev IsMade : List Mark → Gxid → Cid → Table → Rid → Option (List Value) → Type 0
IsMade N g c t r image = (node : Node) × Contains N (Write g c node t r image)

each-made : (M N : List Mark) → ((m : Mark) → Contains M m → Contains N m) → EachWrite (IsMade N) M
each-made [] N f = tt
each-made (Write g c node t r image ∷ M) N f =
    ((node, f m (Contains-append_left (m ∷ []) M m (Contains-push [] m))), each-made M N (λ x e. f x (Contains-append_right (m ∷ []) M x e)))
  where
    m : Mark
    m = Write g c node t r image
each-made (m ∷ M) N f = (tt, each-made M N (λ x e. f x (Contains-append_right (m ∷ []) M x e)))

-- who has written nothing is shown what nobody's transaction is
nothing-shown : (N xs : List Mark) (reader : Reader) → HasWrittenNothing N reader → EachWrite (λ g c t r image. is_shown_to reader xs g c ≡ is_shown_to None xs g c) N
nothing-shown N xs None nothing = each-weaker (IsMade N) (λ g c t r image. is_committed xs g ≡ is_committed xs g) (λ g c t r image e. refl) N (each-made N N (λ m e. e))
nothing-shown N xs (Some own) nothing = each-weaker (IsMade N) (λ g c t r image. is_shown_to (Some own) xs g c ≡ is_committed xs g) same N (each-made N N (λ m e. e))
  where
    not-below : (a b : ℕ) → nat_lt a b ≡ true → b ≤ a → ⊥
    not-below a b e l = grind (arith, nat_tests)

    same : (g : Gxid) (c : Cid) (t : Table) (r : Rid) (image : Option (List Value)) → IsMade N g c t r image → (is_committed xs g || (is_same_gxid own.0 g && nat_lt c.0 own.1.0)) ≡ is_committed xs g
    same g c t r image made = by_test (is_same_gxid own.0 g && nat_lt c.0 own.1.0) refl
      where
        by_test : (b : Bool) → (is_same_gxid own.0 g && nat_lt c.0 own.1.0) ≡ b → (is_committed xs g || b) ≡ is_committed xs g
        by_test true f =
            let own_is = same-gxid own.0 g (eqb-true own.0.0 g.0 (and-first (is_same_gxid own.0 g) (nat_lt c.0 own.1.0) f)) in
            absurd (not-below c.0 own.1.0 (and-second (is_same_gxid own.0 g) (nat_lt c.0 own.1.0) f) (nothing c made.0 t r image (subst (λ x. Contains N (Write x c made.0 t r image)) (sym own_is) made.1)))
        by_test false f = or-false (is_committed xs g)

-- a reader's view at a point is one of the marks before it alone
pub view-before : (xs ys : List Mark) (reader : Reader) (rows : List KeyedRow) → AreLater xs ys → HasWrittenNothing (xs ++ ys) reader → IsView (xs ++ ys) xs reader the_accounts rows → IsView xs xs None the_accounts rows
view-before xs ys reader rows later nothing view = record {
  rising = view.rising;
  images = λ rid. view.images rid ∙ shown-same the_accounts rid (is_shown_to reader xs) (is_shown_to None xs) (xs ++ ys) None (nothing-shown (xs ++ ys) xs reader nothing)
      ∙ image_after-append (is_shown_to None xs) the_accounts rid None xs ys ∙ later-hidden the_accounts rid xs ys (image_after (is_shown_to None xs) the_accounts rid None xs) later;
}

module _ (script : Script) (transfer : ℕ → ℕ → Option Transfer) (are : AreTransfers script transfer) where
  abbrev pub AreInOrder : List Mark → Type 0
  AreInOrder N = (xs ys : List Mark) → N ≡ xs ++ ys → IsInOrder script transfer xs × AreLater xs ys

  -- a write behind a point is of somebody who hadn't committed there
  write-later : (point : Point) → EndOnce (before point) → (m : Mark) → LegalMark script point m → AreLater (before point) (m ∷ [])
  write-later point once (Write g c node t rid image) (inl live) = (first-none (is_committed (before point) g) (is_aborted (before point) g) live.runs.running, tt)
  write-later point once (Write g c node t rid image) (inr late) = (by_test (is_committed (before point) g) refl, tt)
    where
      by_test : (b : Bool) → is_committed (before point) g ≡ b → is_committed (before point) g ≡ false
      by_test true e = absurd (true-false (is_aborted (before point) g) late.late.aborted (once g e))
      by_test false e = e
  write-later point once m legal = (tt, tt)

  -- and so it hadn't before
  sooner : (xs zs ys : List Mark) → AreLater (xs ++ zs) ys → AreLater xs ys
  sooner xs zs ys later =
      each-weaker (λ g c t r image. is_committed (xs ++ zs) g ≡ false) (λ g c t r image. is_committed xs g ≡ false) (λ g c t r image e. first-none (is_committed xs g) (is_committed zs g) (sym (is_committed-append xs zs g) ∙ e)) ys later

  viewed-next : (steps : List Step) (e : Event) (earlier : List Mark) (m : Mark) (ms : List Mark) → LegalMark script (record { steps = steps; event = e; earlier = earlier; later = ms ++ [] }) m
      → AreLegalMarks script steps e (earlier ++ m ∷ []) ms [] → AreInOrder (marks_in steps ++ earlier) → AreInOrder ((marks_in steps ++ earlier) ++ m ∷ [])
  viewed-next steps e earlier m ms legal rest known xs ys cut = by_case (cut-more N m xs ys cut)
    where
      N : List Mark
      N = marks_in steps ++ earlier

      now : IsInOrder script transfer N
      now = (known N [] (sym (append-nil N))).0

      point : Point
      point = record { steps = steps; event = e; earlier = earlier; later = ms ++ [] }

      by_case : Within N m xs ys ⊎ AtEnd N m xs ys → IsInOrder script transfer xs × AreLater xs ys
      by_case (inl w) =
          let old = known xs w.0 w.1 in
          (old.0, subst (AreLater xs) (sym w.2) (each-append (λ g c t r image. is_committed xs g ≡ false) w.0 (m ∷ []) old.1 (sooner xs w.0 (m ∷ []) (subst (λ l. AreLater l (m ∷ [])) w.1 (write-later point now.0.standing.once m legal)))))
      by_case (inr a) = (subst (IsInOrder script transfer) (sym a.0) (in-order-next script transfer are steps e earlier m ms legal rest now), subst (AreLater xs) (sym a.1) tt)

  viewed-first : AreInOrder []
  viewed-first [] ys cut = (in-order-first script transfer are, subst (AreLater []) cut tt)
  viewed-first (x ∷ xs) ys cut = absurd (cc)

  pub viewed : (steps : List Step) → AreLegalSteps script [] steps → AreInOrder (marks_in steps)
  viewed steps legal = through script AreInOrder viewed-next [] steps legal viewed-first
