-- A session's next line is found by its place.
use Rattle.std.proofs.Common.{◌≡◌, ◌≤◌, ◌<◌, ℕ, ◌+◌, zero, suc, List, [], ◌∷◌, Option, Some, None, false, cond, refl, sym, ap, ◌∙◌, subst, arith, length, slice_get, ◌==◌, unwrap_or}
use Rattle.std.proofs.lemmas.Bool.Decides.{nat_tests}
use Rattle.std.proofs.lemmas.List.Elements.{recursion_from_All}
use Rattle.std.specs.List.{AllByRecursion}
use Rattle.std.specs.Prelude.{option_map}
use Rattle.gx_tree.specs.declared.stmt.Stmt.TheVariants as stmt
use Rattle.gx_script.specs.declared.Line.{Line}
use Rattle.gx_script.specs.declared.Script.{Script}
use Rattle.gx_store.specs.Language.{IsLine, IsScript}
use Rattle.gx_store.specs.Lines.{stmt_of}
use Rattle.gx_coord.specs.Books.{stmt_at}
use Rattle.gx_coord.specs.Places.{AreIndexed, at_index, places_from}
use Rattle.gx_coord.proofs.LinePlaces.{IsLineOf, line_at, none_behind}

past-none : {X : Type 0} (xs : List X) (i : ℕ) → slice_get xs i ≡ None → length xs ≤ i
past-none [] i e = omega arith
past-none (x ∷ xs) zero e = absurd (cc)
past-none (x ∷ xs) (suc i) e = omega (arith, past-none xs i e)

-- a session that the script hasn't has no lines
no-places : (tables : List Rattle.gx_tree.specs.declared.schema.Schema.Schema) (n s o : ℕ) (ls : List Line) → n ≤ s → AllByRecursion (IsLine tables n) ls → places_from s o ls ≡ []
no-places tables n s o [] past a = refl
no-places tables n s o (l ∷ ls) past a = ap (λ b. cond b (o ∷ places_from s (o + 1) ls) (places_from s (o + 1) ls)) (other l.session.0 n s a.0.0 past) ∙ no-places tables n s (o + 1) ls past a.1
  where
    other : (k n s : ℕ) → k < n → n ≤ s → (k == s) ≡ false
    other k n s x y = grind (arith, nat_tests)

module _ (script : Script) (language : IsScript script) (places : List (List ℕ)) (indexed : AreIndexed script.lines (length script.sessions) places) (s n : ℕ) where
  by-index : (o : Option ℕ) (ps : List ℕ) → ps ≡ places_from s 0 script.lines → slice_get ps n ≡ o → stmt_of (record { 0 = s }) (n + 1) script.lines ≡ option_map (stmt_at script.lines) o
  by-index None ps e q = none_behind s script.lines n language.numbers (subst (λ xs. length xs ≤ n) e (past-none ps n q))
  by-index (Some p) ps e q =
      let h : IsLineOf s script.lines n p = line_at s script.lines n p language.numbers (ap (λ xs. slice_get xs n) (sym e) ∙ q) in
      h.stmt ∙ ap Some (sym (ap (λ o. unwrap_or (option_map (λ (l : Line). l.stmt) o) stmt.Commit) h.there))

  by-places : (o : Option (List ℕ)) → slice_get places s ≡ o → stmt_of (record { 0 = s }) (n + 1) script.lines ≡ option_map (stmt_at script.lines) (at_index n o)
  by-places None q =
      none_behind s script.lines n language.numbers
      (subst (λ xs. length xs ≤ n) (sym (no-places script.tables (length script.sessions) s 0 script.lines (subst (λ m. m ≤ s) indexed.all (past-none places s q)) (recursion_from_All (IsLine script.tables (length script.sessions)) script.lines language.lines))) (omega arith))
  by-places (Some ps) q = by-index (slice_get ps n) ps (indexed.each s ps q) refl

  pub next-at : stmt_of (record { 0 = s }) (n + 1) script.lines ≡ option_map (stmt_at script.lines) (at_index n (slice_get places s))
  next-at = by-places (slice_get places s) refl
