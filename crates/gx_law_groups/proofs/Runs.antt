-- Slots over a whole run.
use Rattle.std.proofs.Common.{◌≡◌, ◌⊎◌, inl, inr, ℕ, zero, suc, ◌+◌, ◌<◌, ◌≤◌, Bool, true, false, cond, ◌||◌, ◌&&◌, List, [], ◌∷◌, ◌++◌, length, map, Option, get_or, refl, sym, ap, ◌∙◌, subst, arith, append_assoc, append-nil}
use Rattle.std.proofs.lemmas.Bool.Decides.{nat_tests}
use Rattle.std.proofs.lemmas.Grind.{flat_map-append}
use Rattle.std.proofs.lemmas.List.{get_or_past}
use Rattle.std.proofs.lemmas.Option.{slice_get-get_or}
use Rattle.std.specs.Prelude.{All, filter, nat_lt}
use Rattle.gx_ids.specs.declared.ids.SessionId.{SessionId}
use Rattle.gx_script.specs.declared.Line.{Line}
use Rattle.gx_script.specs.declared.Script.{Script}
use Rattle.gx_script.specs.declared.group.SlotGroup.{SlotGroup}
use Rattle.gx_groups.specs.Slots.{Slots, fresh, has}
use Rattle.gx_groups.specs.Table.{KeepsLimit, Table, fresh_groups, group_at}
use Rattle.gx_groups.specs.Calls.{Call, IsRun, after, asked_by, only_if}
use Rattle.gx_groups.proofs.Fresh.{fresh-at, nobody-asks}
use Rattle.gx_groups.proofs.Runs.{in-order, whole-after}
use Rattle.gx_groups.proofs.Told.{asks-told, holds-told}
use Rattle.gx_store.specs.declared.event.Event.{Event}
use Rattle.gx_store.specs.declared.mark.Mark.{Mark}
use Rattle.gx_store.specs.declared.mark.Mark.TheVariants.{Start}
use Rattle.gx_store.specs.declared.run.Step.{Step}
use Rattle.gx_store.specs.Groups.{AlwaysKeepsSlots, AreLetBehind, AreStartsLet, BeginAsAsked, KeepsSlots, asked_behind, asks_in, begun_in, first_slots, fresh_slots, group_limit, is_in_group, is_to_open, open_in, slots_after, slots_behind, slots_from, slots_through}
use Rattle.gx_store.specs.Heads.{AreGroups}
use Rattle.gx_store.specs.Language.{IsLine, IsScript}
use Rattle.gx_store.specs.Legal.{AreLegalMarks, AreLegalSteps, LegalMark}
use Rattle.gx_store.specs.Points.{marks_in, starts_in}
use Rattle.gx_store.specs.Schedule.{sessions_of}
use Rattle.gx_law_groups.proofs.Bounds.{Bound, all-ask, begins, distinct-sessions, each-session, has-filter}
use Rattle.gx_law_groups.proofs.Ending.{ends}
use Rattle.gx_law_groups.proofs.Members.{at-is}
use Rattle.gx_law_groups.proofs.Slots.{Slotted, begun_at, is_at, is_open_at, known-at, limits, places, session_in, slotted-same, whole, whole-new, within}
use Rattle.gx_law_groups.proofs.Steps.{through}
use Rattle.gx_law_groups.proofs.Tables.{limit-on}
use Rattle.gx_law_groups.proofs.Through.{Stands}
use Rattle.gx_law_groups.proofs.Tidy.{Each, Tidy}

-- THE FOLD, A STEP MORE
slots_from-append : (script : Script) (b : List Step) (t : Table) (xs ys : List Step) → slots_from script b t (xs ++ ys) ≡ slots_from script (b ++ xs) (slots_from script b t xs) ys
slots_from-append script b t [] ys = ap (λ z. slots_from script z t ys) (sym (append-nil b))
slots_from-append script b t (x ∷ xs) ys =
    slots_from-append script (b ++ x ∷ []) (slots_behind script b t x) xs ys ∙ ap (λ z. slots_from script z (slots_from script (b ++ x ∷ []) (slots_behind script b t x) xs) ys) (append_assoc b (x ∷ []) xs)

pub slots-more : (script : Script) (steps : List Step) (s : Step) → slots_after script (steps ++ s ∷ []) ≡ slots_behind script steps (slots_after script steps) s
slots-more script steps s = slots_from-append script [] (first_slots script) steps (s ∷ [])

-- WHO ASKED
abbrev asked_behind_at : Script → ℕ → List Step → List Step → List SessionId
asked_behind_at script place before [] = []
asked_behind_at script place before (s ∷ ss) = filter (is_at script place) (filter (asks_in script before s) (sessions_of script)) ++ asked_behind_at script place (before ++ s ∷ []) ss

abbrev pub asked_at : Script → ℕ → List Step → List SessionId
asked_at script place steps = filter (is_at script place) (filter (is_to_open script []) (sessions_of script)) ++ asked_behind_at script place [] steps

asked-behind-more : (script : Script) (place : ℕ) (b xs : List Step) (s : Step)
    → asked_behind_at script place b (xs ++ s ∷ []) ≡ asked_behind_at script place b xs ++ filter (is_at script place) (filter (asks_in script (b ++ xs) s) (sessions_of script))
asked-behind-more script place b [] s =
    append-nil (filter (is_at script place) (filter (asks_in script b s) (sessions_of script))) ∙ ap (λ z. filter (is_at script place) (filter (asks_in script z s) (sessions_of script))) (sym (append-nil b))
asked-behind-more script place b (x ∷ xs) s =
    ap (λ r. filter (is_at script place) (filter (asks_in script b x) (sessions_of script)) ++ r) (asked-behind-more script place (b ++ x ∷ []) xs s)
    ∙ sym (append_assoc (filter (is_at script place) (filter (asks_in script b x) (sessions_of script))) (asked_behind_at script place (b ++ x ∷ []) xs) (filter (is_at script place) (filter (asks_in script
    ((b ++ x ∷ []) ++ xs) s) (sessions_of script))))
    ∙ ap (λ z. (filter (is_at script place) (filter (asks_in script b x) (sessions_of script)) ++ asked_behind_at script place (b ++ x ∷ []) xs) ++ filter (is_at script place) (filter (asks_in script z s)
    (sessions_of script))) (append_assoc b (x ∷ []) xs)

asked-more : (script : Script) (place : ℕ) (steps : List Step) (s : Step) → asked_at script place (steps ++ s ∷ []) ≡ asked_at script place steps ++ filter (is_at script place) (filter (asks_in script steps s) (sessions_of script))
asked-more script place steps s =
    ap (λ r. filter (is_at script place) (filter (is_to_open script []) (sessions_of script)) ++ r) (asked-behind-more script place [] steps s)
    ∙ sym (append_assoc (filter (is_at script place) (filter (is_to_open script []) (sessions_of script))) (asked_behind_at script place [] steps) (filter (is_at script place) (filter (asks_in script steps s) (sessions_of script))))

-- BEFORE ANY STEP
holders-fresh : (of : List (Option ℕ)) (from : ℕ) (ls : List ℕ) (place : ℕ) → (get_or (fresh_groups of from ls) place (fresh 0 [])).holders ≡ []
holders-fresh of from [] place = refl
holders-fresh of from (l ∷ ls) zero = refl
holders-fresh of from (l ∷ ls) (suc place) = holders-fresh of (from + 1) ls place

module _ (script : Script) where
  nobody : Slotted script (fresh_slots script) [] (λ place. []) (λ k. false)
  nobody = record {
    calls = [];
    run = tt;
    is = refl;
    who_asks = λ k l. asks-told (limits script) (places script) [] k (within script) tt (known-at script k l);
    who_holds = λ k l. holds-told (limits script) (places script) [] k (within script) tt (known-at script k l);
    holders = λ place. holders-fresh (places script) 0 (limits script) place;
    known = tt;
    order = λ place. refl;
    asked_so = λ place. refl;
  }

  tidy-none : Tidy script [] (λ k. starts_in k [])
  tidy-none = record { unended = λ g l. refl; unbegun = λ g l. refl; home = λ k g e. absurd (cc); each = tt; found = λ k g e u. absurd (cc); begun = λ k e. absurd (cc) }

  pub first : Bound script [] (first_slots script) (λ place. asked_at script place [])
  first = record {
    tidy = tidy-none;
    slotted = slotted-same script (first_slots script) [] [] _ (λ place. asked_at script place []) (λ k. false || has k (filter (is_to_open script []) (sessions_of script))) (is_to_open script []) refl (λ place. refl)
        (λ place. append-nil (filter (is_at script place) (filter (is_to_open script []) (sessions_of script))))
        (λ k l. sym (has-filter script (is_to_open script []) k l))
        (all-ask script [] (filter (is_to_open script []) (sessions_of script)) (fresh_slots script) (λ place. []) (λ k. false) (distinct-sessions script (is_to_open script []))
        (each-session script (is_to_open script []) _ (λ s l e. (l, refl, refl))) nobody);
  }

-- STEP BY STEP
module _ (script : Script) (lines : Each (λ (l : Line). l.session.0 < length script.sessions) script.lines) where
  abbrev There : List Step → Type 0
  There steps = Bound script steps (slots_after script steps) (λ place. asked_at script place steps)

  one-step : (steps : List Step) (s : Step) → There steps → AreLegalSteps script steps (s ∷ []) → AreLetBehind script steps (s ∷ []) → There (steps ++ s ∷ [])
  one-step steps s b legal let_in =
      let begun = begins script lines steps (slots_after script steps) (λ place. asked_at script place steps) b refl s.event s.marks legal.0.event let_in.0 in
      let inside = through script lines steps s.event s.marks legal.0.event (λ place. asked_at script place steps) s.marks [] [] (slots_after script steps) legal.0.marks begun in
      let here = subst (λ ms. Stands script steps s.event (λ place. asked_at script place steps) (slots_through (open_in ms) (slots_after script steps) s.marks) s.marks) (append-nil (marks_in steps)) inside in
      let over = ends script steps s legal.0 (slots_through (open_in (marks_in steps)) (slots_after script steps) s.marks) (λ place. asked_at script place steps) here in
      record {
        tidy = over.tidy;
        slotted = subst (λ t. Slotted script t (marks_in (steps ++ s ∷ [])) (λ place. asked_at script place (steps ++ s ∷ [])) (is_to_open script (steps ++ s ∷ []))) (sym (slots-more script steps s))
            (slotted-same script (slots_behind script steps (slots_after script steps) s) (marks_in (steps ++ s ∷ [])) (marks_in (steps ++ s ∷ [])) _ (λ place. asked_at script place (steps ++ s ∷ [])) (is_to_open script
            (steps ++ s ∷ [])) (is_to_open script (steps ++ s ∷ [])) refl (λ place. refl)
            (λ place. asked-more script place steps s) (λ k l. refl) over.slotted);
      }

  pub all-steps : (rest steps : List Step) → There steps → AreLegalSteps script steps rest → AreLetBehind script steps rest → There (steps ++ rest)
  all-steps [] steps b legal let_in = subst There (sym (append-nil steps)) b
  all-steps (s ∷ ss) steps b legal let_in = subst There (append_assoc steps (s ∷ []) ss) (all-steps ss (steps ++ s ∷ []) (one-step steps s b (legal.0, tt) (let_in.0, tt)) legal.1 let_in.1)

  -- NO GROUP HAS MORE OPEN TRANSACTIONS THAN SLOTS
  limit-after : (calls : List Call) (place : ℕ) → IsRun (fresh_slots script) calls → (group_at (after (fresh_slots script) calls) place).limit ≡ (group_at (fresh_slots script) place).limit
  limit-after [] place run = refl
  limit-after (c ∷ cs) place run = limit-on (after (fresh_slots script) cs) c place (whole-after (fresh_slots script) cs run.0 (whole-new script)) ∙ limit-after cs place run.0

  get-limit : (gs : List SlotGroup) (n : ℕ) (d : SlotGroup) → n < length gs → get_or (map group_limit gs) n 0 ≡ (get_or gs n d).limit
  get-limit [] n d l = absurd (omega arith)
  get-limit (g ∷ gs) zero d l = refl
  get-limit (g ∷ gs) (suc n) d l = get-limit gs n d (omega (arith, l))

  length-mapped : {A B : Type 0} (f : A → B) (xs : List A) → length (map f xs) ≡ length xs
  length-mapped f [] = refl
  length-mapped f (x ∷ xs) = ap suc (length-mapped f xs)

  filter-alike : {A : Type 0} (p q : A → Bool) (xs : List A) → ((x : A) → p x ≡ q x) → filter p xs ≡ filter q xs
  filter-alike p q [] e = refl
  filter-alike p q (x ∷ xs) e = ap (λ b. cond b (x ∷ filter p xs) (filter p xs)) (e x) ∙ ap (λ r. cond (q x) (x ∷ r) r) (filter-alike p q xs e)

  module _ (groups : AreGroups (length script.sessions) script.groups) where
    at-place : (n : ℕ) (d : SlotGroup) (l : n < length script.groups) (s : SessionId) → is_at script n s ≡ has s (get_or script.groups n d).sessions
    at-place n d l s = at-is script groups n (get_or script.groups n d) s (slice_get-get_or script.groups n d l) (groups.each n d l).members

    pub keeps : (t : Table) (marks : List Mark) (asked : ℕ → List SessionId) (asking : SessionId → Bool) → Slotted script t marks asked asking → KeepsSlots script marks
    keeps t marks asked asking k n d l =
        let w = whole script t marks asked asking k in
        let limit : (group_at t n).limit ≡ (get_or script.groups n d).limit =
        ap (λ x. (group_at x n).limit) k.is ∙ limit-after k.calls n k.run
        ∙ ap (λ (g : Slots). g.limit) (fresh-at (places script) 0 (limits script) n n (fresh 0 []) (omega arith) (subst (λ m. n < m) (sym (length-mapped group_limit script.groups)) l))
        ∙ get-limit script.groups n d l in
        let same : length (group_at t n).holders ≡ length (filter (is_in_group (get_or script.groups n d)) (open_in marks)) =
        ap length (k.holders n) ∙ length-mapped session_in (filter (is_open_at script n) (open_in marks))
        ∙ ap length (filter-alike (is_open_at script n) (is_in_group (get_or script.groups n d)) (open_in marks) (λ o. at-place n d l o.session)) in
        let within_limit : length (group_at t n).holders ≤ (group_at t n).limit = kept (nat_lt n (length t.groups)) refl w.limits in
        omega (arith, limit, same, within_limit)
      where
        inside : nat_lt n (length t.groups) ≡ true → n < length t.groups
        inside q = grind (arith, nat_tests)

        outside : nat_lt n (length t.groups) ≡ false → length t.groups ≤ n
        outside q = grind (arith, nat_tests)

        kept : (b : Bool) → nat_lt n (length t.groups) ≡ b → All KeepsLimit t.groups → length (group_at t n).holders ≤ (group_at t n).limit
        kept true q all = all n (fresh 0 []) (inside q)
        kept false q all = subst KeepsLimit (sym (get_or_past t.groups n (fresh 0 []) (outside q))) (omega arith)

    -- AT EVERY POINT
    cut-at : (xs ys early late : List Mark) → xs ++ ys ≡ early ++ late → ((rest : List Mark) × (xs ≡ early ++ rest)) ⊎ ((more : List Mark) × (early ≡ xs ++ more) × (ys ≡ more ++ late))
    cut-at [] ys early late e = inr (early, refl, e)
    cut-at (x ∷ xs) ys [] late e = inl (x ∷ xs, refl)
    cut-at (x ∷ xs) ys (y ∷ early) late e = by_case (cut-at xs ys early late cc)
      where
        same : x ≡ y
        same = cc

        by_case : ((rest : List Mark) × (xs ≡ early ++ rest)) ⊎ ((more : List Mark) × (early ≡ xs ++ more) × (ys ≡ more ++ late))
            → ((rest : List Mark) × (x ∷ xs ≡ (y ∷ early) ++ rest)) ⊎ ((more : List Mark) × (y ∷ early ≡ (x ∷ xs) ++ more) × (ys ≡ more ++ late))
        by_case (inl c) = inl (c.0, ap (λ z. z ∷ xs) same ∙ ap (λ zs. y ∷ zs) c.1)
        by_case (inr c) = inr (c.0, ap (λ z. z ∷ early) (sym same) ∙ ap (λ zs. x ∷ zs) c.1, c.2)

    legal-part : (steps : List Step) (e : Event) (xs ys earlier later : List Mark) → AreLegalMarks script steps e earlier (xs ++ ys) later → AreLegalMarks script steps e earlier xs (ys ++ later)
    legal-part steps e [] ys earlier later l = tt
    legal-part steps e (x ∷ xs) ys earlier later l =
        (subst (λ z. LegalMark script (record { steps = steps; event = e; earlier = earlier; later = z }) x) (append_assoc xs ys later) l.0, legal-part steps e xs ys (earlier ++ x ∷ []) later l.1)

    pub at-every-point : (rest steps : List Step) → There steps → AreLegalSteps script steps rest → AreLetBehind script steps rest → (early late : List Mark) → marks_in rest ≡ early ++ late → KeepsSlots script (marks_in steps ++ early)
    at-every-point [] steps b legal let_in [] late e = subst (KeepsSlots script) (sym (append-nil (marks_in steps))) (keeps (slots_after script steps) (marks_in steps) _ _ b.slotted)
    at-every-point [] steps b legal let_in (m ∷ early) late e = absurd (cc)
    at-every-point (s ∷ ss) steps b legal let_in early late e =
        by_case (cut-at s.marks (marks_in ss) early late e) (at-every-point ss (steps ++ s ∷ []) (one-step steps s b (legal.0, tt) (let_in.0, tt)) legal.1 let_in.1)
      where
        by_case : ((rest : List Mark) × (s.marks ≡ early ++ rest)) ⊎ ((more : List Mark) × (early ≡ s.marks ++ more) × (marks_in ss ≡ more ++ late)) → ((x y : List Mark) → marks_in ss ≡ x ++ y
            → KeepsSlots script (marks_in (steps ++ s ∷ []) ++ x)) → KeepsSlots script (marks_in steps ++ early)
        by_case (inl c) next =
            let begun = begins script lines steps (slots_after script steps) (λ place. asked_at script place steps) b refl s.event s.marks legal.0.event let_in.0 in
            let part = legal-part steps s.event early c.0 [] [] (subst (λ ms. AreLegalMarks script steps s.event [] ms []) c.1 legal.0.marks) in
            let inside = through script lines steps s.event s.marks legal.0.event (λ place. asked_at script place steps) early (c.0 ++ []) [] (slots_after script steps) part begun in
            keeps _ (marks_in steps ++ early) _ _ inside.slotted
        by_case (inr c) next =
            subst (KeepsSlots script)
            (ap (λ ms. ms ++ c.0) (flat_map-append (λ (x : Step). x.marks) steps (s ∷ []) ∙ ap (λ ms. marks_in steps ++ ms) (append-nil s.marks)) ∙ append_assoc (marks_in steps) s.marks c.0 ∙ ap (λ ms. marks_in steps ++ ms) (sym c.1))
            (next c.0 late c.2)

    -- IN THE ORDER IN WHICH THEY ASKED
    begun-same : (n : ℕ) (d : SlotGroup) (l : n < length script.groups) (ms : List Mark) → begun_at script n ms ≡ begun_in (get_or script.groups n d) ms
    begun-same n d l [] = refl
    begun-same n d l (Start g s ∷ ms) = by_test (is_at script n s) (has s (get_or script.groups n d).sessions) (at-place n d l s) (begun-same n d l ms)
      where
        by_test : (a b : Bool) → a ≡ b → begun_at script n ms ≡ begun_in (get_or script.groups n d) ms → only_if a s ++ begun_at script n ms ≡ cond b (s ∷ begun_in (get_or script.groups n d) ms) (begun_in (get_or script.groups n d) ms)
        by_test true true e r = ap (λ xs. s ∷ xs) r
        by_test false false e r = r
        by_test true false e r = absurd (cc)
        by_test false true e r = absurd (cc)
    begun-same n d l (_ ∷ ms) = begun-same n d l ms

    filter-both : (n : ℕ) (d : SlotGroup) (l : n < length script.groups) (p : SessionId → Bool) (xs : List SessionId) → filter (is_at script n) (filter p xs) ≡ filter (λ s. has s (get_or script.groups n d).sessions && p s) xs
    filter-both n d l p [] = refl
    filter-both n d l p (x ∷ xs) = by_test (p x) (filter-both n d l p xs)
      where
        by_test : (b : Bool) → filter (is_at script n) (filter p xs) ≡ filter (λ s. has s (get_or script.groups n d).sessions && p s) xs
            → filter (is_at script n) (cond b (x ∷ filter p xs) (filter p xs)) ≡ cond (has x (get_or script.groups n d).sessions && b) (x ∷ filter (λ s. has s (get_or script.groups n d).sessions && p s) xs) (filter
            (λ s. has s (get_or script.groups n d).sessions && p s) xs)
        by_test true r = ap (λ c. cond c (x ∷ filter (is_at script n) (filter p xs)) (filter (is_at script n) (filter p xs))) (at-place n d l x) ∙ here (has x (get_or script.groups n d).sessions)
          where
            here : (c : Bool) → cond c (x ∷ filter (is_at script n) (filter p xs)) (filter (is_at script n) (filter p xs)) ≡ cond (c && true) (x ∷ filter (λ s. has s (get_or script.groups n d).sessions && p s) xs) (filter
                (λ s. has s (get_or script.groups n d).sessions && p s) xs)
            here true = ap (λ ys. x ∷ ys) r
            here false = r
        by_test false r = r ∙ here (has x (get_or script.groups n d).sessions)
          where
            here : (c : Bool) → filter (λ s. has s (get_or script.groups n d).sessions && p s) xs ≡ cond (c && false) (x ∷ filter (λ s. has s (get_or script.groups n d).sessions && p s) xs) (filter (λ s. has s
                (get_or script.groups n d).sessions && p s) xs)
            here true = refl
            here false = refl

    behind-same : (n : ℕ) (d : SlotGroup) (l : n < length script.groups) (before ss : List Step) → asked_behind_at script n before ss ≡ asked_behind script (get_or script.groups n d) before ss
    behind-same n d l before [] = refl
    behind-same n d l before (s ∷ ss) =
        ap (λ xs. xs ++ asked_behind_at script n (before ++ s ∷ []) ss) (filter-both n d l (asks_in script before s) (sessions_of script))
        ∙ ap (λ xs. filter (λ x. has x (get_or script.groups n d).sessions && asks_in script before s x) (sessions_of script) ++ xs) (behind-same n d l (before ++ s ∷ []) ss)

    pub in-their-order : (steps : List Step) → There steps → BeginAsAsked script steps
    in-their-order steps b n d l = (
      (group_at (after (fresh_slots script) b.slotted.calls) n).askers,
      ap (λ xs. xs ++ asked_behind script (get_or script.groups n d) [] steps) (sym (filter-both n d l (is_to_open script []) (sessions_of script)))
          ∙ ap (λ xs. filter (is_at script n) (filter (is_to_open script []) (sessions_of script)) ++ xs) (sym (behind-same n d l [] steps))
          ∙ sym (b.slotted.asked_so n)
          ∙ sym (nobody-asks (places script) 0 (limits script) n (asked_by (fresh_slots script) n b.slotted.calls))
          ∙ sym (in-order (fresh_slots script) b.slotted.calls n b.slotted.run (whole-new script))
          ∙ ap (λ xs. xs ++ (group_at (after (fresh_slots script) b.slotted.calls) n).askers) (b.slotted.order n ∙ begun-same n d l (marks_in steps)),
    )

-- THE LAWS
each-line : (n : ℕ) (ls : List Line) (P : Line → Type 0) → ((l : Line) → P l → l.session.0 < n) → All P ls → Each (λ (l : Line). l.session.0 < n) ls
each-line n [] P f a = tt
each-line n (x ∷ xs) P f a = (f x (a 0 x (omega arith)), each-line n xs P f (λ i d w. a (suc i) d (omega (arith, w))))

module _ (script : Script) (language : IsScript script) where
  lines-known : Each (λ (l : Line). l.session.0 < length script.sessions) script.lines
  lines-known = each-line (length script.sessions) script.lines (IsLine script.tables (length script.sessions)) (λ l x. x.0) language.lines

  pub bound-after : (steps : List Step) → AreLegalSteps script [] steps → AreStartsLet script steps → Bound script steps (slots_after script steps) (λ place. asked_at script place steps)
  bound-after steps legal let_in = all-steps script lines-known steps [] (first script) legal let_in

  pub keeps-slots : (steps : List Step) → AreLegalSteps script [] steps → AreStartsLet script steps → AlwaysKeepsSlots script (marks_in steps)
  keeps-slots steps legal let_in early late e = at-every-point script lines-known language.groups steps [] (first script) legal let_in early late e

  pub begin-as-asked : (steps : List Step) → AreLegalSteps script [] steps → AreStartsLet script steps → BeginAsAsked script steps
  begin-as-asked steps legal let_in = in-their-order script lines-known language.groups steps (bound-after steps legal let_in)
