-- The first delivery, where it is known on which links nothing is left.
use Rattle.std.proofs.Common.{◌≡◌, ◌<◌, ◌≤◌, ℕ, zero, suc, ◌+◌, ◌-◌, List, [], ◌∷◌, ◌++◌, append_assoc, true, Option, Some, None, refl, sym, ap, ◌∙◌, subst, arith, ⊎_elim}
use Rattle.std.proofs.lemmas.Bool.{cases_lt}
use Rattle.std.specs.List.{flat_map}
use Rattle.std.specs.Option.{option_to_list}
use Rattle.std.specs.Prelude.{is_some}
use Rattle.gx_ids.specs.declared.ids.Node.{Node}
use Rattle.gx_meaning.specs.Plan.{nodes_from}
use Rattle.gx_script.specs.declared.Script.{Script}
use Rattle.gx_store.specs.declared.event.Event.{Event}
use Rattle.gx_store.specs.declared.run.Step.{Step}
use Rattle.gx_store.specs.Points.{marks_in}
use Rattle.gx_store.specs.Refusals.{the_coordinator}
use Rattle.gx_store.specs.Schedule.{at_segment, first_of, left_on, resumptions, segments_of}
use Rattle.gx_agenda.specs.declared.quiet.Quiet.{Quiet}
use Rattle.gx_agenda.specs.Quiet.{AreQuiet}
use Rattle.gx_drive.specs.Agrees.{moves_of, resuming_of}
use Rattle.gx_drive.proofs.Firsts.{first-none, first-twice, none-first, some-first}

-- BY NODE
module _ (f : Node → List Event) where
  -- nodes at which there is nothing are passed
  passed : (k a m : ℕ) → ((n : ℕ) → a ≤ n → n < a + k → f (record { 0 = n }) ≡ []) → flat_map f (nodes_from a (k + m)) ≡ flat_map f (nodes_from (a + k) m)
  passed zero a m none = ap (λ n. flat_map f (nodes_from a n)) (zero-plus m) ∙ ap (λ b. flat_map f (nodes_from b m)) (plus-zero a)
    where
      zero-plus : (n : ℕ) → 0 + n ≡ n
      zero-plus n = omega arith

      plus-zero : (n : ℕ) → n ≡ n + 0
      plus-zero n = omega arith
  passed (suc k) a m none =
      ap (λ n. flat_map f (nodes_from a n)) (next k m)
      ∙ ap (λ xs. xs ++ flat_map f (nodes_from (a + 1) (k + m))) (none a (omega arith) (omega arith))
      ∙ passed k (a + 1) m (λ n low high. none n (omega (arith, low)) (omega (arith, high)))
      ∙ ap (λ b. flat_map f (nodes_from b m)) (on a k)
    where
      next : (k m : ℕ) → suc k + m ≡ suc (k + m)
      next k m = omega arith

      on : (a k : ℕ) → a + 1 + k ≡ a + suc k
      on a k = omega arith

  module _ (k m : ℕ) (none : (node : Node) → 0 < node.0 → node.0 ≤ k → f node ≡ []) where
    before : (n : ℕ) → 1 ≤ n → n < 1 + k → f (record { 0 = n }) ≡ []
    before n low high = none (record { 0 = n }) (omega (arith, low)) (omega (arith, high))

    -- the first at which there is something
    pub found-at : (o : Option Event) → k < m → is_some o ≡ true → option_to_list o ≡ first_of (f (record { 0 = k + 1 })) → option_to_list o ≡ first_of (flat_map f (nodes_from 1 m))
    found-at None within some e = absurd (cc)
    found-at (Some x) within some e =
        some-first x (f (record { 0 = k + 1 })) (flat_map f (nodes_from (k + 1 + 1) (m - (k + 1)))) e
        ∙ sym (ap first_of (ap (λ n. flat_map f (nodes_from 1 n)) (parts k m within) ∙ passed k 1 (suc (m - (k + 1))) before ∙ ap (λ b. flat_map f (nodes_from b (suc (m - (k + 1))))) (turned k)))
      where
        parts : (k m : ℕ) → k < m → m ≡ k + suc (m - (k + 1))
        parts k m within = omega (arith, within)

        turned : (k : ℕ) → 1 + k ≡ k + 1
        turned k = omega arith

    pub nothing-at : m ≤ k → [] ≡ first_of (flat_map f (nodes_from 1 m))
    nothing-at past = sym (ap first_of (ap (λ n. flat_map f (nodes_from 1 n)) (whole m) ∙ passed m 1 0 (λ n low high. before n low (omega (arith, high, past)))))
      where
        whole : (m : ℕ) → m ≡ m + 0
        whole m = omega arith

-- BY LINK
module _ (script : Script) (steps : List Step) (quiet : Quiet) (are : AreQuiet script steps quiet) where
  abbrev from : Node → List Event
  from segment = first_of (left_on script steps segment the_coordinator)

  abbrev to : Node → List Event
  to segment = first_of (left_on script steps the_coordinator segment)

  pub found-from : (k : ℕ) (o : Option Event) → quiet.from ≡ k → k < script.segments → is_some o ≡ true → option_to_list o ≡ from (record { 0 = k + 1 }) → option_to_list o ≡ first_of (flat_map from (segments_of script))
  found-from k o at within some e =
      found-at from k script.segments (λ node low high. ap first_of (are.from node low (subst (λ n. node.0 ≤ n) (sym at) high))) o within some (e ∙ sym (first-twice (left_on script steps (record { 0 = k + 1 }) the_coordinator)))

  pub found-to : (k : ℕ) (o : Option Event) → quiet.to ≡ k → k < script.segments → is_some o ≡ true → option_to_list o ≡ to (record { 0 = k + 1 }) → option_to_list o ≡ first_of (flat_map to (segments_of script))
  found-to k o at within some e =
      found-at to k script.segments (λ node low high. ap first_of (are.to node low (subst (λ n. node.0 ≤ n) (sym at) high))) o within some (e ∙ sym (first-twice (left_on script steps the_coordinator (record { 0 = k + 1 }))))

  pub nothing-from : (k : ℕ) → quiet.from ≡ k → script.segments ≤ k → [] ≡ first_of (flat_map from (segments_of script))
  nothing-from k at past = nothing-at from k script.segments (λ node low high. ap first_of (are.from node low (subst (λ n. node.0 ≤ n) (sym at) high))) past

  pub nothing-to : (k : ℕ) → quiet.to ≡ k → script.segments ≤ k → [] ≡ first_of (flat_map to (segments_of script))
  nothing-to k at past = nothing-at to k script.segments (λ node low high. ap first_of (are.to node low (subst (λ n. node.0 ≤ n) (sym at) high))) past

  -- one link more on which nothing is left
  up : (k n : ℕ) (P : ℕ → Type 0) → ((m : ℕ) → 0 < m → m ≤ k → P m) → P (k + 1) → 0 < n → n ≤ k + 1 → P n
  up k n P below here low high = ⊎_elim
      (λ (less : n < k + 1). below n low (omega (arith, less)))
      (λ (more : k + 1 ≤ n). subst P (same k n high more) here)
      (cases_lt n (k + 1))
    where
      same : (k n : ℕ) → n ≤ k + 1 → k + 1 ≤ n → k + 1 ≡ n
      same k n high more = omega (arith, high, more)

  pub quieter-from : (k : ℕ) → quiet.from ≡ k → [] ≡ from (record { 0 = k + 1 }) → AreQuiet script steps (record { from = k + 1; to = quiet.to })
  quieter-from k at none = record {
    from = λ segment low high.
        up k segment.0 (λ n. left_on script steps (record { 0 = n }) the_coordinator ≡ []) (λ m l h. are.from (record { 0 = m }) l (subst (λ n. m ≤ n) (sym at) h))
        (first-none (left_on script steps (record { 0 = k + 1 }) the_coordinator) (sym none)) low high;
    to = are.to;
  }

  pub quieter-to : (k : ℕ) → quiet.to ≡ k → [] ≡ to (record { 0 = k + 1 }) → AreQuiet script steps (record { from = quiet.from; to = k + 1 })
  quieter-to k at none = record {
    from = are.from;
    to = λ segment low high.
        up k segment.0 (λ n. left_on script steps the_coordinator (record { 0 = n }) ≡ []) (λ m l h. are.to (record { 0 = m }) l (subst (λ n. m ≤ n) (sym at) h))
        (first-none (left_on script steps the_coordinator (record { 0 = k + 1 })) (sym none)) low high;
  }

-- WHERE NOBODY WAITS
same-all : (f g : Node → List Event) (nodes : List Node) → ((node : Node) → f node ≡ g node) → flat_map f nodes ≡ flat_map g nodes
same-all f g [] same = refl
same-all f g (node ∷ nodes) same = ap (λ xs. xs ++ flat_map f nodes) (same node) ∙ ap (λ xs. g node ++ xs) (same-all f g nodes same)

append-none : (xs ys : List Event) → ys ≡ [] → xs ++ ys ≡ xs
append-none [] ys e = e
append-none (x ∷ xs) ys e = ap (λ zs. x ∷ zs) (append-none xs ys e)

-- a segment does no more than to receive
pub nobody-resumes : (script : Script) (steps : List Step) → ((node : Node) → resumptions (marks_in steps) node ≡ [])
    → first_of (flat_map (λ segment. first_of (left_on script steps the_coordinator segment)) (segments_of script)) ≡ first_of (resuming_of script steps)
nobody-resumes script steps none =
    sym (ap first_of (append-none (flat_map (at_segment script steps) (segments_of script)) (resumptions (marks_in steps) the_coordinator) (none the_coordinator)
    ∙ same-all (at_segment script steps) (λ segment. first_of (left_on script steps the_coordinator segment)) (segments_of script) (λ segment.
    ap (λ xs. first_of (xs ++ first_of (left_on script steps the_coordinator segment))) (none segment) ∙ first-twice (left_on script steps the_coordinator segment))))

-- WHAT COMES FIRST
module _ (script : Script) (steps : List Step) where
  abbrev deliveries : List Event
  deliveries = flat_map (λ segment. first_of (left_on script steps segment the_coordinator)) (segments_of script)

  parts : moves_of script steps ≡ deliveries ++ resuming_of script steps
  parts = append_assoc deliveries (flat_map (at_segment script steps) (segments_of script)) (resumptions (marks_in steps) the_coordinator)

  pub delivered-first : (e : Event) → e ∷ [] ≡ first_of deliveries → e ∷ [] ≡ first_of (moves_of script steps)
  delivered-first e first = some-first e deliveries (resuming_of script steps) first ∙ sym (ap first_of parts)

  pub resuming-first : (es : List Event) → [] ≡ first_of deliveries → es ≡ first_of (resuming_of script steps) → es ≡ first_of (moves_of script steps)
  resuming-first es none first = none-first es deliveries (resuming_of script steps) none first ∙ sym (ap first_of parts)
