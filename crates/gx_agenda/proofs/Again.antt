-- All that is sent again to a segment, by the awaited answers that a map holds of it.
use Rattle.std.proofs.Common.{◌≡◌, ℕ, zero, suc, ◌+◌, ◌<◌, Bool, true, false, cond, if◌then◌else◌, List, [], ◌∷◌, ◌++◌, append_assoc, map, Option, Some, None, refl, sym, ap, ◌∙◌, subst, arith}
use Rattle.std.proofs.lemmas.Bool.Decides.{nat_tests}
use Rattle.std.proofs.lemmas.Cmp.{nat_cmp_total, on_total, then_total}
use Rattle.std.proofs.lemmas.List.Kept.{IsStrictlySortedBy-filter}
use Rattle.std.proofs.lemmas.Map.Entries.{lookup-filter-keys}
use Rattle.std.specs.BTreeMap.{is_at}
use Rattle.std.specs.Cmp.{IsTotalOrder}
use Rattle.std.specs.List.{cons_option, filter, filter_map, range_with_len}
use Rattle.std.specs.List.Sorted.{IsStrictlySortedBy}
use Rattle.std.specs.Map.{keys_of, lookup}
use Rattle.std.specs.Prelude.{◌==◌, is_some, option_map}
use Rattle.std.specs.declared.cmp.Ordering.TheVariants.{Less}
use Rattle.gx_ids.specs.declared.ids.Gxid.{Gxid}
use Rattle.gx_ids.specs.declared.ids.Node.{Node}
use Rattle.gx_script.specs.declared.Script.{Script}
use Rattle.gx_store.specs.declared.event.Event.{Event}
use Rattle.gx_store.specs.declared.event.Event.TheVariants.{Resend}
use Rattle.gx_store.specs.declared.run.Step.{Step}
use Rattle.gx_store.specs.Marks.{start_count}
use Rattle.gx_store.specs.Points.{marks_in}
use Rattle.gx_store.specs.Schedule.{is_graph_awaited, may_resend, resends}
use Rattle.gx_agenda.specs.declared.asked.Asked.{Asked}
use Rattle.gx_agenda.specs.declared.expected.Expected.{Expected}
use Rattle.gx_agenda.specs.declared.request.Request.{Request}
use Rattle.gx_agenda.specs.Awaited.{AreAsked, IsResendable, due_at}
use Rattle.gx_agenda.specs.Requests.{is_of, request_cmp, resend_of}
use Rattle.gx_agenda.specs.VecMap.{at as lookup_at}
use Rattle.gx_agenda.proofs.FirstAsked.{gxid-within}
use Rattle.gx_agenda.proofs.Lists.{same_from, same_number}
use Rattle.gx_agenda.proofs.Numbered.{IsNumbered, entry, numbered}
use Rattle.gx_agenda.proofs.Resending.{asks, due-again, graph, may-asked, resends-parts}

request-total : IsTotalOrder request_cmp
request-total = then_total (on_total (λ (r : Request). r.segment.0) nat_cmp_total) (on_total (λ (r : Request). r.gxid.0) nat_cmp_total)

-- a request of the segment is one of its number
same-request : (s : Node) (r : Request) → is_of s r ≡ true → r ≡ record { segment = s; gxid = r.gxid }
same-request s r is = ap (λ (n : ℕ). let x : Request = record { segment = record { 0 = n }; gxid = r.gxid } in x) (same_from r.segment.0 s.0 is)

request-rises : (s m n : ℕ) → m < n → request_cmp (record { segment = record { 0 = s }; gxid = record { 0 = m } }) (record { segment = record { 0 = s }; gxid = record { 0 = n } }) ≡ Less
request-rises s m n below = grind (arith, nat_tests)

tied-numbers : (s g a h : ℕ) → is_at (request_cmp (record { segment = record { 0 = s }; gxid = record { 0 = g } })) (record { segment = record { 0 = a }; gxid = record { 0 = h } }) ≡ true → s ≡ a
tied-numbers s g a h e = grind (arith, nat_tests)

keys-filter : {K X : Type 0} (p : K → Bool) (es : List (K × X)) → keys_of (filter (λ e. p e.0) es) ≡ filter p (keys_of es)
keys-filter p [] = refl
keys-filter {K} {X} p (e ∷ es) = by (p e.0) (keys-filter p es)
  where
    by : (b : Bool) → keys_of (filter (λ e. p e.0) es) ≡ filter p (keys_of es) → keys_of (cond b (e ∷ filter (λ e. p e.0) es) (filter (λ e. p e.0) es)) ≡ cond b (e.0 ∷ filter p (keys_of es)) (filter p (keys_of es))
    by true rest = ap (λ ks. e.0 ∷ ks) rest
    by false rest = rest

module _ (script : Script) (steps : List Step) (segment : Node) (known : Asked) where
  abbrev at : ℕ → Request
  at n = record { segment = segment; gxid = record { 0 = n } }

  abbrev known_at : ℕ → Option Expected
  known_at n = due_at known segment (record { 0 = n })

  abbrev again : Gxid → Event
  again g = Resend segment (Some g)

  abbrev gxids_from : ℕ → ℕ → List Gxid
  gxids_from first count = map (λ n. record { 0 = n }) (range_with_len first count)

  -- what is found by number is what passes
  again-listed : (test : Gxid → Bool) → ((n : ℕ) → is_some (known_at n) ≡ test (record { 0 = n })) → (first count : ℕ)
      → map (λ (e : Request × Expected). resend_of e.0) (filter_map (entry at known_at) (range_with_len first count)) ≡ map again (filter test (gxids_from first count))
  again-listed test same first zero = refl
  again-listed test same first (suc count) = by (known_at first) refl (again-listed test same (first + 1) count)
    where
      behind : List (Request × Expected)
      behind = filter_map (entry at known_at) (range_with_len (first + 1) count)

      put : Option Expected → List Event
      put o = map (λ (e : Request × Expected). resend_of e.0) (cons_option (option_map (λ v. (at first, v)) o) behind)

      passing : Bool → List Event
      passing b = map again (cond b (record { 0 = first } ∷ filter test (gxids_from (first + 1) count)) (filter test (gxids_from (first + 1) count)))

      by : (o : Option Expected) → known_at first ≡ o → map (λ (e : Request × Expected). resend_of e.0) behind ≡ map again (filter test (gxids_from (first + 1) count)) → put (known_at first) ≡ passing (test (record { 0 = first }))
      by None is rest = ap put is ∙ rest ∙ sym (ap passing (sym (same first) ∙ ap is_some is))
      by (Some v) is rest = ap put is ∙ ap (λ xs. again (record { 0 = first }) ∷ xs) rest ∙ sym (ap passing (sym (same first) ∙ ap is_some is))

  module _ (fit : IsResendable script steps segment) (asked : AreAsked steps known) (sorted : IsStrictlySortedBy request_cmp (keys_of known.due)) where
    abbrev of_segment : List (Request × Expected)
    of_segment = filter (λ e. is_of segment e.0) known.due

    abbrev find : Request → Option Expected
    find k = lookup (is_at (request_cmp k)) of_segment

    found : (k : Request) → find k ≡ cond (is_of segment k) (lookup_at request_cmp known.due k) None
    found k =
        lookup-filter-keys (is_at (request_cmp k)) (is_of segment) (is_of segment k)
        (λ q tied. ap (λ n. n == segment.0) (sym (tied-numbers k.segment.0 k.gxid.0 q.segment.0 q.gxid.0 tied))) known.due

    within : (k : Request) → is_some (find k) ≡ true → IsNumbered at 1 (start_count (marks_in steps)) k
    within k there = by (is_of segment k) refl
      where
        by : (b : Bool) → is_of segment k ≡ b → IsNumbered at 1 (start_count (marks_in steps)) k
        by true is =
            let same = same-request segment k is in
            let some : is_some (due_at known segment k.gxid) ≡ true = ap (λ r. is_some (lookup_at request_cmp known.due r)) (sym same) ∙ ap is_some (sym (found k ∙ ap (λ b. cond b (lookup_at request_cmp known.due k) None) is)) ∙ there in
            let w = gxid-within k.gxid 1 (start_count (marks_in steps)) (fit.begun k.gxid (may-asked steps segment k.gxid (sym (due-again steps known asked segment k.gxid) ∙ some))) in
            record { number = k.gxid.0; is = same; low = w.0; high = w.1 }
        by false off = absurd (never (sym (ap is_some (found k ∙ ap (λ b. cond b (lookup_at request_cmp known.due k) None) off)) ∙ there))
          where
            never : false ≡ true → ⊥
            never e = cc

    finds : (n : ℕ) → find (at n) ≡ known_at n
    finds n = found (at n) ∙ ap (λ b. cond b (known_at n) None) (same_number segment.0)

    pub asks-listed : map (λ (e : Request × Expected). resend_of e.0) of_segment ≡ asks script steps segment
    asks-listed =
        ap (map (λ (e : Request × Expected). resend_of e.0))
        (numbered request-total at (λ m n. request-rises segment.0 m n) known_at 1 (start_count (marks_in steps)) of_segment
        (subst (IsStrictlySortedBy request_cmp) (sym (keys-filter (is_of segment) known.due)) (IsStrictlySortedBy-filter request_cmp (is_of segment) (keys_of known.due) sorted))
        within (λ n low high. finds n))
        ∙ again-listed (may_resend steps segment) (λ n. due-again steps known asked segment (record { 0 = n })) 1 (start_count (marks_in steps))

    -- and the graph behind them
    pub resends-listed : (old one two : List Event) (awaited : Bool) → one ≡ old ++ map (λ (e : Request × Expected). resend_of e.0) of_segment → two ≡ one ++ (if awaited then Resend segment None ∷ [] else [])
        → awaited ≡ is_graph_awaited steps segment → two ≡ old ++ resends script steps segment
    resends-listed old one two awaited first second told =
        second
        ∙ ap (λ xs. xs ++ (if awaited then Resend segment None ∷ [] else [])) (first ∙ ap (λ xs. old ++ xs) asks-listed)
        ∙ ap (λ b. old ++ asks script steps segment ++ (if b then Resend segment None ∷ [] else [])) told
        ∙ append_assoc old (asks script steps segment) (graph script steps segment)
        ∙ ap (λ xs. old ++ xs) (sym (resends-parts script steps segment fit.quiet))
