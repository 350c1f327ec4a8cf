-- The least request that is awaited, or a graph of a segment before it, is what is sent again first.
use Rattle.std.proofs.Common.{◌≡◌, ℕ, ◌+◌, ◌<◌, ◌≤◌, Bool, true, false, cond, if◌then◌else◌, not, ◌&&◌, ◌||◌, refl, sym, ap, ◌∙◌, List, [], ◌∷◌, ◌++◌, length, arith}
use Rattle.std.proofs.lemmas.Bool.Decides.{nat_tests}
use Rattle.std.specs.BTreeMap.{is_at}
use Rattle.std.specs.List.{flat_map}
use Rattle.std.specs.Map.{lookup}
use Rattle.std.specs.Option.{option_to_list}
use Rattle.std.specs.Ordering.{is_gt}
use Rattle.std.specs.Prelude.{◌==◌, nat_lt, Option, Some, None, IfNone, IfSome, IsSome, is_some, option_map}
use Rattle.gx_ids.specs.declared.ids.Gxid.{Gxid}
use Rattle.gx_ids.specs.declared.ids.Node.{Node}
use Rattle.gx_msg.specs.declared.message.Message.{Message}
use Rattle.gx_msg.specs.declared.message.Message.TheVariants as message
use Rattle.gx_script.specs.declared.Script.{Script}
use Rattle.gx_store.specs.declared.event.Event.{Event}
use Rattle.gx_store.specs.declared.event.Event.TheVariants.{Resend}
use Rattle.gx_store.specs.declared.run.Step.{Step}
use Rattle.gx_store.specs.Ordered.{IsSegment}
use Rattle.gx_store.specs.Points.{marks_in}
use Rattle.gx_waits.specs.declared.claim.Claim.{Claim}
use Rattle.gx_store.specs.Schedule as schedule
use Rattle.gx_store.specs.Marks.{start_count}
use Rattle.gx_store.specs.Schedule.{first_of, is_exec, is_graph_awaited, is_quiet, may_resend, resends, segments_of, waits_of}
use Rattle.gx_agenda.specs.declared.asked.Asked.{Asked}
use Rattle.gx_agenda.specs.declared.request.Request.{Request}
use Rattle.gx_agenda.specs.Awaited.{AreAsked, AreNoGraphsBefore, AreResendable, IsFirstGraph, due_at, due_of, waits_for}
use Rattle.gx_agenda.specs.declared.expected.Expected.TheVariants.{Command}
use Rattle.gx_agenda.specs.Expected.{expected_of}
use Rattle.gx_agenda.specs.Requests.{is_before, request_cmp, resend_of}
use Rattle.gx_agenda.specs.VecMap.{IsLeast, at as lookup_at}
use Rattle.gx_agenda.proofs.FirstAsked.{first-in-row, first-node, gxid-within, nodes-empty, row, row-none}

order_of_numbers : (a g b h : ℕ) → is_gt (request_cmp (record { segment = record { 0 = a }; gxid = record { 0 = g } }) (record { segment = record { 0 = b }; gxid = record { 0 = h } })) ≡ false → a ≤ b
order_of_numbers a g b h e = grind (arith, nat_tests)

order_at_node : (a g h : ℕ) → is_gt (request_cmp (record { segment = record { 0 = a }; gxid = record { 0 = g } }) (record { segment = record { 0 = a }; gxid = record { 0 = h } })) ≡ false → g ≤ h
order_at_node a g h e = grind (arith, nat_tests)

-- an awaited answer may be asked for again where its message may be sent again
due-may : (o : Option Message) (waits : List Claim) → is_some (due_of (option_map expected_of o) waits) ≡ (is_some o && (not (is_exec o) || (length waits == 0)))
due-may None waits = refl
due-may (Some (message.Exec g c level snapshot horizon slice)) waits = by (length waits == 0)
  where
    by : (none : Bool) → is_some (cond (true && not none) None (Some (Command c))) ≡ (true && (not true || none))
    by true = refl
    by false = refl
due-may (Some (message.Prepare g)) waits = refl
due-may (Some (message.Commit g)) waits = refl
due-may (Some (message.CommitPrepared g)) waits = refl
due-may (Some (message.Abort g)) waits = refl
due-may (Some (message.Forget g)) waits = refl
due-may (Some (message.Collect round)) waits = refl
due-may (Some (message.Answer g told)) waits = refl
due-may (Some (message.Graph round graph)) waits = refl
due-may (Some message.Up) waits = refl

module _ (steps : List Step) where
  -- what is sent again is asked
  pub may-asked : (s : Node) (g : Gxid) → may_resend steps s g ≡ true → is_some (schedule.asked steps s g) ≡ true
  may-asked s g may = left (is_some (schedule.asked steps s g)) (not (is_exec (schedule.asked steps s g)) || (length (waits_of (marks_in steps) s g) == 0)) may
    where
      left : (a b : Bool) → (a && b) ≡ true → a ≡ true
      left a b e = grind arith

  -- what the index has is what is sent again
  pub due-again : (known : Asked) → AreAsked steps known → (s : Node) (g : Gxid) → is_some (due_at known s g) ≡ may_resend steps s g
  due-again known asks s g =
      ap is_some (asks.due (record { segment = s; gxid = g }) ∙ ap (λ o. due_of o (waits_for known s g)) (asks.answers s g) ∙ ap (due_of (option_map expected_of (schedule.asked steps s g))) (asks.waits s g))
      ∙ due-may (schedule.asked steps s g) (waits_of (marks_in steps) s g)

module _ (script : Script) (steps : List Step) where
  abbrev begun : ℕ
  begun = start_count (marks_in steps)

  abbrev again : Node → Gxid → Event
  again s g = Resend s (Some g)

  -- what is asked of transactions, and the graph
  abbrev pub asks : Node → List Event
  asks s = row (may_resend steps) again begun s

  abbrev pub graph : Node → List Event
  graph s = if is_graph_awaited steps s then Resend s None ∷ [] else []

  pub resends-parts : (s : Node) → is_quiet script steps s ≡ true → resends script steps s ≡ asks s ++ graph s
  resends-parts s quiet = ap (λ b. if b then asks s ++ graph s else []) quiet

  no-graph : (s : Node) → is_graph_awaited steps s ≡ false → graph s ≡ []
  no-graph s none = ap (λ b. if b then Resend s None ∷ [] else []) none

  module _ (fit : AreResendable script steps) (known : Asked) (are : AreAsked steps known) where
    abbrev first : List Event
    first = first_of (flat_map (resends script steps) (segments_of script))

    at-most : (n count : ℕ) → n < 1 + count → n ≤ count
    at-most n count h = omega (arith, h)

    inside : (n count : ℕ) → n ≤ count → n < 1 + count
    inside n count h = omega (arith, h)

    parts : (s : Node) → IsSegment script s → resends script steps s ≡ asks s ++ graph s
    parts s there = resends-parts s (fit.each s there).quiet

    nothing-at : (s : Node) → IsSegment script s → ((g : Gxid) → may_resend steps s g ≡ false) → is_graph_awaited steps s ≡ false → resends script steps s ≡ []
    nothing-at s there none awaited = parts s there ∙ ap (λ xs. xs ++ graph s) (row-none (may_resend steps) again begun s none) ∙ no-graph s awaited

    -- nothing is sent again
    none-resent : ((s : Node) (g : Gxid) → may_resend steps s g ≡ false) → ((s : Node) → IsSegment script s → is_graph_awaited steps s ≡ false) → [] ≡ first
    none-resent none awaited =
        sym (ap first_of (nodes-empty (resends script steps) 1 script.segments
        (λ s low high. let there : IsSegment script s = (low, at-most s.0 script.segments high) in nothing-at s there (none s) (awaited s there))))

    -- first a graph
    graph-resent : (s : Node) → IsFirstGraph script steps (Some s) → ((t : Node) (g : Gxid) → t.0 ≤ s.0 → may_resend steps t g ≡ false) → Resend s None ∷ [] ≡ first
    graph-resent s is none =
        sym (first-node (resends script steps) s (Resend s None) here 1 script.segments is.0.0 (inside s.0 script.segments is.0.1)
        (λ t low under. let there : IsSegment script t = (low, less t.0 under) in nothing-at t there (λ g. none t g (omega (arith, under))) (is.2 t there under)))
      where
        less : (t : ℕ) → t < s.0 → t ≤ script.segments
        less t under = omega (arith, under, is.0.1)

        here : first_of (resends script steps s) ≡ Resend s None ∷ []
        here =
            ap first_of (parts s is.0 ∙ ap (λ xs. xs ++ graph s) (row-none (may_resend steps) again begun s (λ g. none s g (omega arith)))
            ∙ ap (λ b. if b then Resend s None ∷ [] else []) is.1)

    -- first what is asked
    module _ (r : Request) (found : IsSome (lookup_at request_cmp known.due r)) (least : IsLeast request_cmp known.due r) where
      is-asked : may_resend steps r.segment r.gxid ≡ true
      is-asked = sym (due-again steps known are r.segment r.gxid) ∙ found

      bound : (t : Node) (h : Gxid) → may_resend steps t h ≡ true → is_gt (request_cmp r (record { segment = t; gxid = h })) ≡ false
      bound t h e = least (record { segment = t; gxid = h }) (due-again steps known are t h ∙ e)

      -- nothing is asked of segments before it
      none-before : (t : Node) (h : Gxid) → t.0 < r.segment.0 → may_resend steps t h ≡ false
      none-before t h under = by (may_resend steps t h) refl
        where
          by : (b : Bool) → may_resend steps t h ≡ b → b ≡ false
          by true e = absurd (omega (arith, under, order_of_numbers r.segment.0 r.gxid.0 t.0 h.0 (bound t h e)))
          by false e = refl

      request-resent : AreNoGraphsBefore script steps r.segment.0 → resend_of r ∷ [] ≡ first
      request-resent graphs =
          sym (first-node (resends script steps) r.segment (resend_of r) here 1 script.segments there.0 (inside r.segment.0 script.segments there.1)
          (λ t low under. let in_script : IsSegment script t = (low, less t.0 under) in nothing-at t in_script (λ h. none-before t h under) (graphs t in_script under)))
        where
          there : IsSegment script r.segment
          there = fit.there r.segment r.gxid (may-asked steps r.segment r.gxid is-asked)

          less : (t : ℕ) → t < r.segment.0 → t ≤ script.segments
          less t under = omega (arith, under, there.1)

          here : first_of (resends script steps r.segment) ≡ resend_of r ∷ []
          here =
              ap first_of (parts r.segment there)
              ∙ first-in-row (may_resend steps) again begun r.segment r.gxid (graph r.segment) is-asked (λ h e. order_at_node r.segment.0 r.gxid.0 h.0 (bound r.segment h e))
              (gxid-within r.gxid 1 begun ((fit.each r.segment there).begun r.gxid (may-asked steps r.segment r.gxid is-asked)))

    nothing : known.due ≡ [] → (s : Node) (g : Gxid) → may_resend steps s g ≡ false
    nothing empty s g = sym (due-again steps known are s g) ∙ ap (λ es. is_some (lookup (is_at (request_cmp (record { segment = s; gxid = g }))) es)) empty

    -- what is found to be least
    module _ (asked : Option Request) where
      pub first-asked : IfSome asked (λ r. IsSome (lookup_at request_cmp known.due r)) → IfSome asked (λ r. IsLeast request_cmp known.due r) → IfNone asked (known.due ≡ [])
          → IsFirstGraph script steps None → option_to_list (option_map resend_of asked) ≡ first
      first-asked = by asked
        where
          by : (o : Option Request) → IfSome o (λ r. IsSome (lookup_at request_cmp known.due r)) → IfSome o (λ r. IsLeast request_cmp known.due r) → IfNone o (known.due ≡ [])
              → IsFirstGraph script steps None → option_to_list (option_map resend_of o) ≡ first
          by None found least none graphs = none-resent (nothing none) graphs
          by (Some r) found least none graphs = request-resent r found least (λ t there under. graphs t there)

      pub first-earlier : IfSome asked (λ r. IsSome (lookup_at request_cmp known.due r)) → IfSome asked (λ r. IsLeast request_cmp known.due r) → IfNone asked (known.due ≡ [])
          → (s : Node) → IsFirstGraph script steps (Some s) → (if is_before s asked then Resend s None ∷ [] else option_to_list (option_map resend_of asked)) ≡ first
      first-earlier = by asked
        where
          at : (s : Node) (r : Request) → IsSome (lookup_at request_cmp known.due r) → IsLeast request_cmp known.due r → IsFirstGraph script steps (Some s) → (b : Bool) → nat_lt s.0 r.segment.0 ≡ b
              → (if b then Resend s None ∷ [] else resend_of r ∷ []) ≡ first
          at s r found least is true before = graph-resent s is (λ t g under. none-before r found least t g (lower t.0 s.0 r.segment.0 under before))
            where
              lower : (t s n : ℕ) → t ≤ s → nat_lt s n ≡ true → t < n
              lower t s n under before = grind (arith, nat_tests)
          at s r found least is false before = request-resent r found least (λ t there under. is.2 t there (lower t.0 s.0 r.segment.0 under before))
            where
              lower : (t s n : ℕ) → t < n → nat_lt s n ≡ false → t < s
              lower t s n under before = grind (arith, nat_tests)

          by : (o : Option Request) → IfSome o (λ r. IsSome (lookup_at request_cmp known.due r)) → IfSome o (λ r. IsLeast request_cmp known.due r) → IfNone o (known.due ≡ [])
              → (s : Node) → IsFirstGraph script steps (Some s) → (if is_before s o then Resend s None ∷ [] else option_to_list (option_map resend_of o)) ≡ first
          by None found least none s is = graph-resent s is (λ t g under. nothing none t g)
          by (Some r) found least none s is = at s r found least is (nat_lt s.0 r.segment.0) refl
