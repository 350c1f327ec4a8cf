-- Who has aborted was never decided, and has committed nowhere, by what its marks follow.
use Rattle.std.proofs.Common.{◌≡◌, ℕ, ◌+◌, List, [], ◌∷◌, ◌++◌, Bool, true, false, refl, sym, subst, ap, ◌∙◌, ◌||◌, ◌&&◌, if◌then◌else◌, eqb, arith, append-nil}
use Rattle.std.proofs.lemmas.Bool.{eqb-true}
use Rattle.std.proofs.lemmas.List.{append_assoc}
use Rattle.gx_lemmas.proofs.Tests.{or-false, true-false}
use Rattle.gx_ids.specs.declared.ids.Gxid.{Gxid}
use Rattle.gx_ids.specs.declared.ids.Node.{Node}
use Rattle.gx_script.specs.declared.Script.{Script}
use Rattle.gx_store.specs.declared.mark.Mark.{Mark}
use Rattle.gx_store.specs.declared.mark.Mark.TheVariants as mark
use Rattle.gx_store.specs.declared.run.Step.{Step}
use Rattle.gx_store.specs.Marks.{is_aborted}
use Rattle.gx_store.specs.Points.{Point, marks_in}
use Rattle.gx_store.specs.Protocol.{decided_count, local_count}
use Rattle.gx_law_order.proofs.Counts.{decided-append, local-append}
use Rattle.gx_law_order.proofs.More.{marks-last}
use Rattle.gx_law_order.proofs.Past.{aborted-append}
use Rattle.gx_law_order.specs.Followed.{DoMarksEnd, DoStepsEnd, EndsAt}
use Rattle.gx_law_order.specs.Standings.{gx}

-- nothing is decided of the transaction, and no segment has committed it
abbrev pub IsUnfinished : List Mark → Gxid → Type 0
IsUnfinished marks g = (decided_count marks g ≡ 0) × ((n : Node) → local_count marks n g ≡ 0)

abbrev IsClean : List Mark → Gxid → Type 0
IsClean marks g = is_aborted marks g ≡ true → IsUnfinished marks g

none-more : (a b c : ℕ) → a ≡ b + c → b ≡ 0 → c ≡ 0 → a ≡ 0
none-more a b c x y z = omega arith

-- a mark that tells of none of it
calm : (ms ns : List Mark) (g : Gxid) → IsClean ms g → is_aborted ns g ≡ false → decided_count ns g ≡ 0 → ((n : Node) → local_count ns n g ≡ 0) → IsClean (ms ++ ns) g
calm ms ns g e a d l ab =
    let old : IsUnfinished ms g = e (sym (or-false (is_aborted ms g)) ∙ ap (λ b. is_aborted ms g || b) (sym a) ∙ sym (aborted-append ms ns g) ∙ ab) in (
      none-more _ _ _ (decided-append ms ns g) old.0 d,
      λ n. none-more _ _ _ (local-append ms ns n g) (old.1 n) (l n),
    )

-- a mark that comes only where it hasn't aborted
never : (ms ns : List Mark) (g : Gxid) → is_aborted ms g ≡ false → is_aborted ns g ≡ false → IsClean (ms ++ ns) g
never ms ns g e a ab = absurd (true-false (is_aborted (ms ++ ns) g) ab (aborted-append ms ns g ∙ ap (λ b. b || is_aborted ns g) e ∙ a))

unaborted : (a b : Bool) → (a || b) ≡ false → b ≡ false
unaborted a b e = grind arith

same-gxid : (h g : Gxid) → eqb h.0 g.0 ≡ true → h ≡ g
same-gxid h g q = ap (λ n. gx n) (eqb-true h.0 g.0 q)

-- ONE MARK
module _ (script : Script) (node : Node) (point : Point) (ms : List Mark) (g : Gxid) (all : marks_in point.steps ++ point.earlier ≡ ms) (old : IsClean ms g) where
  one-more : (m : Mark) → EndsAt script node point m → IsClean (ms ++ m ∷ []) g
  one-more (mark.Abort h) e = by_test (eqb h.0 g.0) refl
    where
      -- it was neither before
      by_test : (b : Bool) → eqb h.0 g.0 ≡ b → IsClean (ms ++ mark.Abort h ∷ []) g
      by_test true q =
          let was : IsUnfinished ms g = subst (λ (x : Gxid). IsUnfinished ms x) (same-gxid h g q) (subst (λ (x : List Mark). IsUnfinished x h) all e) in
          λ ab. (
            none-more _ _ _ (decided-append ms (mark.Abort h ∷ []) g) was.0 refl,
            λ n. none-more _ _ _ (local-append ms (mark.Abort h ∷ []) n g) (was.1 n) refl,
          )
      by_test false q = calm ms (mark.Abort h ∷ []) g old (ap (λ b. b || false) q) refl (λ n. refl)
  one-more (mark.Decided h) e = by_test (eqb h.0 g.0) refl
    where
      by_test : (b : Bool) → eqb h.0 g.0 ≡ b → IsClean (ms ++ mark.Decided h ∷ []) g
      by_test true q = never ms (mark.Decided h ∷ []) g (subst (λ (x : Gxid). is_aborted ms x ≡ false) (same-gxid h g q) (subst (λ (x : List Mark). is_aborted x h ≡ false) all (unaborted _ _ e.0.running))) refl
      by_test false q = calm ms (mark.Decided h ∷ []) g old refl (ap (λ b. if b then 0 + 1 else 0) q) (λ n. refl)
  one-more (mark.LocalCommit m h) e = by_test (eqb h.0 g.0) refl
    where
      apart : (a b : Bool) → b ≡ false → (if (a && b) then 0 + 1 else 0) ≡ 0
      apart true b e = ap (λ x. if x then 0 + 1 else 0) e
      apart false b e = refl

      by_test : (b : Bool) → eqb h.0 g.0 ≡ b → IsClean (ms ++ mark.LocalCommit m h ∷ []) g
      by_test true q = never ms (mark.LocalCommit m h ∷ []) g (subst (λ (x : Gxid). is_aborted ms x ≡ false) (same-gxid h g q) (subst (λ (x : List Mark). is_aborted x h ≡ false) all (unaborted _ _ e.running))) refl
      by_test false q = calm ms (mark.LocalCommit m h ∷ []) g old refl refl (λ n. apart (eqb m.0 n.0) (eqb h.0 g.0) q)
  one-more m e = calm ms (m ∷ []) g old refl refl (λ n. refl)

-- ALL MARKS
module _ (script : Script) (g : Gxid) where
  clean-marks : (steps : List Step) (step : Step) (earlier ns : List Mark) → IsClean (marks_in steps ++ earlier) g → DoMarksEnd script steps step earlier ns → IsClean (marks_in steps ++ (earlier ++ ns)) g
  clean-marks steps step earlier [] e d = subst (λ (x : List Mark). IsClean (marks_in steps ++ x) g) (sym (append-nil earlier)) e
  clean-marks steps step earlier (m ∷ ns) e d =
      subst (λ (x : List Mark). IsClean (marks_in steps ++ x) g) (append_assoc earlier (m ∷ []) ns)
      (clean-marks steps step (earlier ++ m ∷ []) ns
      (subst (λ (x : List Mark). IsClean x g) (append_assoc (marks_in steps) earlier (m ∷ []))
      (one-more script step.stamp.node (record { steps = steps; event = step.event; earlier = earlier; later = ns }) (marks_in steps ++ earlier) g refl e m d.0)) d.1)

  clean-steps : (before ss : List Step) → IsClean (marks_in before) g → DoStepsEnd script before ss → IsClean (marks_in (before ++ ss)) g
  clean-steps before [] e d = subst (λ (x : List Step). IsClean (marks_in x) g) (sym (append-nil before)) e
  clean-steps before (s ∷ ss) e d =
      subst (λ (x : List Step). IsClean (marks_in x) g) (append_assoc before (s ∷ []) ss)
      (clean-steps (before ++ s ∷ []) ss
      (subst (λ (x : List Mark). IsClean x g) (sym (marks-last before s))
      (clean-marks before s [] s.marks (subst (λ (x : List Mark). IsClean x g) (sym (append-nil (marks_in before))) e) d.0)) d.1)

  pub aborted-unfinished : (ss : List Step) → DoStepsEnd script [] ss → is_aborted (marks_in ss) g ≡ true → IsUnfinished (marks_in ss) g
  aborted-unfinished ss d a = clean-steps [] ss (λ e. absurd (cc)) d a
