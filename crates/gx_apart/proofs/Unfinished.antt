-- Whether any session is unfinished, by what the coordinator tells of each.
use Rattle.std.proofs.Common.{◌≡◌, ◌<◌, ℕ, List, Bool, true, false, sym, ap, ◌∙◌, subst, arith, length, get_or}
use Rattle.std.proofs.lemmas.List.Elements.{All-from_get_or}
use Rattle.std.proofs.lemmas.List.Folds.{list_any_at, list_any_none}
use Rattle.std.proofs.lemmas.List.FromFn.{get_or-map-range_with_len, length-map-range_with_len}
use Rattle.std.specs.List.{list_any, range_with_len}
use Rattle.std.specs.Prelude.{map}
use Rattle.gx_ids.specs.declared.ids.SessionId.{SessionId}
use Rattle.gx_script.specs.declared.Script.{Script}
use Rattle.gx_store.specs.Language.{IsScript}
use Rattle.gx_store.specs.declared.run.Step.{Step}
use Rattle.gx_store.specs.Schedule.{is_any_unfinished, is_unfinished}
use Rattle.gx_rules.specs.AtCoordinator.{is_unfinished_there}
use Rattle.gx_law_runs.proofs.Finishing.{replayed-alike}
use Rattle.gx_law_runs.specs.Reached.{IsReached}
use Rattle.gx_law_runs.specs.Replays.{coordinator_after}
use Rattle.gx_law_runs.proofs.Reaching.{by-events}

abbrev ids : ℕ → ℕ → List SessionId
ids k n = map (λ m. record { 0 = m }) (range_with_len k n)

at-id : (p : SessionId → Bool) (b : Bool) (n i : ℕ) (d : SessionId) → i < n → p (record { 0 = i }) ≡ b → p (get_or (ids 0 n) i d) ≡ b
at-id p b n i d h e = ap p (get_or-map-range_with_len (λ m. let x : SessionId = record { 0 = m } in x) 0 n i i d h (omega arith)) ∙ e

any-none : (p : SessionId → Bool) (n : ℕ) → ((id : SessionId) → id.0 < n → p id ≡ false) → list_any p (ids 0 n) ≡ false
any-none p n none =
    list_any_none p (ids 0 n)
    (All-from_get_or (λ x. p x ≡ false) (ids 0 n) (record { 0 = 0 }) (λ i inside. let h : i < n = subst (λ m. i < m) (length-map-range_with_len (λ m. let x : SessionId = record { 0 = m } in x) 0 n) inside in at-id p false n i _ h (none (record { 0 = i }) h)))

any-some : (p : SessionId → Bool) (n : ℕ) (id : SessionId) → id.0 < n → p id ≡ true → list_any p (ids 0 n) ≡ true
any-some p n id h is = list_any_at p (ids 0 n) id.0 id (subst (λ m. id.0 < m) (sym (length-map-range_with_len (λ m. let x : SessionId = record { 0 = m } in x) 0 n)) h) (at-id p true n id.0 id h is)

module _ (script : Script) (language : IsScript script) (steps : List Step) (is : IsReached script steps) where
  alike : (session : SessionId) → is_unfinished script steps session ≡ is_unfinished_there script (coordinator_after script steps) session
  alike session =
      by-events script steps is (λ ss. is_unfinished script ss session ≡ is_unfinished_there script (coordinator_after script ss) session)
      (replayed-alike script language.some_segments language.numbers session)

  pub unfinished-none : ((id : SessionId) → id.0 < length script.sessions → is_unfinished_there script (coordinator_after script steps) id ≡ false) → is_any_unfinished script steps ≡ false
  unfinished-none none = any-none (is_unfinished script steps) (length script.sessions) (λ id h. alike id ∙ none id h)

  pub unfinished-some : (id : SessionId) × (id.0 < length script.sessions) × (is_unfinished_there script (coordinator_after script steps) id ≡ true) → is_any_unfinished script steps ≡ true
  unfinished-some found = any-some (is_unfinished script steps) (length script.sessions) found.0 found.1 (alike found.0 ∙ found.2)
