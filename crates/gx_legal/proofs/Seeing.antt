-- What a snapshot sees of those that marks commit.
use Rattle.std.proofs.Common.{◌≡◌, ◌↔◌, ◌⊎◌, ◌||◌, ◌∙◌, ℕ, Bool, true, false, List, [], ◌∷◌, inl, inr, refl, sym, subst, IsTrue, arith}
use Rattle.std.proofs.lemmas.Bool.{and_from}
use Rattle.std.proofs.lemmas.Bool.Decides.{nat_tests}
use Rattle.std.specs.BTreeMap.{is_at}
use Rattle.std.specs.BTreeSet.{BTreeSet, contains, keys}
use Rattle.std.specs.List.{list_all, list_any}
use Rattle.std.specs.Ordering.{is_eq, nat_cmp}
use Rattle.gx_dsnap.specs.Gxids.{gxid_cmp}
use Rattle.gx_dsnap.specs.Snapshot.{sees}
use Rattle.gx_dsnap.specs.declared.snapshot.Snapshot.{Snapshot}
use Rattle.gx_ids.specs.declared.ids.Cid.{Cid}
use Rattle.gx_ids.specs.declared.ids.Gxid.{Gxid}
use Rattle.gx_lemmas.proofs.Tests.{and-first, and-second, false-true, or-cases}
use Rattle.gx_script.specs.declared.Script.{Script}
use Rattle.gx_store.specs.declared.mark.Mark.{Mark}
use Rattle.gx_store.specs.Legal.{LegalSnap}
use Rattle.gx_store.specs.Marks.{is_committed}
use Rattle.gx_store.specs.Points.{Point, before}
use Rattle.gx_legal.specs.Deeds.{IsByCommand}
use Rattle.gx_legal.specs.Snaps.{SeesCommits, SeesEnded}
use Rattle.gx_legal.specs.declared.deed.Act.TheVariants as act

module _ (snapshot : Snapshot) where
  all-seen : (gxids : List Gxid) → list_all (sees snapshot) gxids ≡ true → (h : Gxid) → list_any (is_at (gxid_cmp h)) gxids ≡ true → sees snapshot h ≡ true
  all-seen [] all h e = absurd (false-true e)
  all-seen (g ∷ gs) all h e = by_case (or-cases (is_at (gxid_cmp h) g) (list_any (is_at (gxid_cmp h)) gs) e) (all-seen gs (and-second _ _ all) h)
    where
      same : is_eq (nat_cmp h.0 g.0) ≡ true → g.0 ≡ h.0
      same e = grind (arith, nat_tests)

      by_case : (is_at (gxid_cmp h) g ≡ true) ⊎ (list_any (is_at (gxid_cmp h)) gs ≡ true) → (list_any (is_at (gxid_cmp h)) gs ≡ true → sees snapshot h ≡ true) → sees snapshot h ≡ true
      by_case (inl here) rest = subst (λ (n : ℕ). sees snapshot (record { 0 = n }) ≡ true) (same here) (and-first _ _ all)
      by_case (inr among) rest = rest among

  seen-all : (gxids : List Gxid) → ((h : Gxid) → list_any (is_at (gxid_cmp h)) gxids ≡ true → sees snapshot h ≡ true) → list_all (sees snapshot) gxids ≡ true
  seen-all [] f = refl
  seen-all (g ∷ gs) f = and_from _ _ (f g (here (is_at (gxid_cmp g) g) _ (itself g.0))) (seen-all gs (λ h e. f h (there (is_at (gxid_cmp h) g) _ e)))
    where
      itself : (n : ℕ) → is_eq (nat_cmp n n) ≡ true
      itself n = grind (arith, nat_tests)

      here : (a b : Bool) → a ≡ true → (a || b) ≡ true
      here true b e = refl
      here false b e = absurd (false-true e)

      there : (a b : Bool) → b ≡ true → (a || b) ≡ true
      there true b e = refl
      there false b e = e

  pub commits-seen : (committed : BTreeSet Gxid) (marks : List Mark) (b : Bool) → ((h : Gxid) → contains gxid_cmp committed h ≡ is_committed marks h) → b ≡ list_all (sees snapshot) (keys committed)
      → IsTrue b ↔ SeesCommits marks snapshot
  commits-seen committed marks b told e = (
    λ t h among. all-seen (keys committed) (sym e ∙ t) h (told h ∙ among),
    λ seen. e ∙ seen-all (keys committed) (λ h among. seen h (sym (told h) ∙ among)),
  )

module _ (script : Script) (point : Point) (g : Gxid) (c : Cid) (snapshot : Snapshot) where
  pub snap-of : SeesCommits (before point) snapshot → SeesEnded (before point) snapshot → IsByCommand script point (record { marks = before point; g = g; c = c; act = act.Snap })
      → LegalSnap script point g c snapshot
  snap-of commits ended by = record {
    session = by.0;
    line = by.1.0;
    level = by.1.1;
    runs = by.1.2;
    on_rows = by.1.3.0;
    once = by.1.3.1;
    committed = commits;
    ended = ended;
  }

  pub of-snap : LegalSnap script point g c snapshot → IsByCommand script point (record { marks = before point; g = g; c = c; act = act.Snap })
  of-snap snap = (snap.session, (snap.line, snap.level, snap.runs, (snap.on_rows, snap.once)))

  pub snap-is : (marks : List Mark) (b : Bool) → marks ≡ before point → SeesCommits marks snapshot → SeesEnded marks snapshot
      → IsTrue b ↔ IsByCommand script point (record { marks = marks; g = g; c = c; act = act.Snap }) → IsTrue b ↔ LegalSnap script point g c snapshot
  snap-is marks b e = subst P (sym e) (λ commits ended by. (λ t. snap-of commits ended (by.0 t), λ snap. by.1 (of-snap snap)))
    where
      P : List Mark → Type 0
      P ms = SeesCommits ms snapshot → SeesEnded ms snapshot → IsTrue b ↔ IsByCommand script point (record { marks = ms; g = g; c = c; act = act.Snap })
          → IsTrue b ↔ LegalSnap script point g c snapshot

  pub snap-sees : (marks : List Mark) → marks ≡ before point → LegalSnap script point g c snapshot → SeesCommits marks snapshot
  snap-sees marks e snap = subst (λ ms. SeesCommits ms snapshot) (sym e) snap.committed

  pub snap-ended : (marks : List Mark) → marks ≡ before point → LegalSnap script point g c snapshot → SeesEnded marks snapshot
  snap-ended marks e snap = subst (λ ms. SeesEnded ms snapshot) (sym e) snap.ended
