-- Waits at nodes, one mark later; and the index of what may be asked for again, where one request changes.
use Rattle.std.proofs.Common.{◌≡◌, ◌+◌, ◌<◌, ℕ, Bool, true, false, cond, not, ◌&&◌, ◌||◌, eqb, refl, sym, ap, ◌∙◌, List, [], ◌∷◌, ◌++◌, append-nil, arith, length, get_or, take}
use Rattle.std.proofs.lemmas.Bool.Decides.{nat_tests}
use Rattle.std.proofs.lemmas.List.{take_more}
use Rattle.std.specs.BTreeMap.{BTreeMap, btree_map_len, is_at}
use Rattle.std.specs.List.{filter, list_any}
use Rattle.std.specs.Map.{lookup}
use Rattle.std.specs.Option.{option_or}
use Rattle.std.specs.Prelude.{Option, None, unwrap_or}
use Rattle.gx_ids.specs.declared.ids.Gxid.{Gxid}
use Rattle.gx_ids.specs.declared.ids.Node.{Node}
use Rattle.gx_waits.specs.Claim.{same_claim, same_object}
use Rattle.gx_waits.specs.declared.claim.Claim.{Claim}
use Rattle.gx_modes.specs.Table.{number_of}
use Rattle.gx_store.specs.declared.mark.Mark.{Mark}
use Rattle.gx_store.specs.declared.mark.Mark.TheVariants as mark
use Rattle.gx_store.specs.declared.run.Step.{Step}
use Rattle.gx_store.proofs.Runs.{marks_in-push}
use Rattle.gx_store.specs.Journals.{is_same_node}
use Rattle.gx_store.specs.Marks.{is_same_gxid}
use Rattle.gx_store.specs.Points.{marks_in}
use Rattle.gx_store.specs.Waits.{waits_at, waits_from}
use Rattle.gx_waits.specs.Claims.{with_claim, without_claim}
use Rattle.gx_agenda.specs.declared.asked.Asked.{Asked}
use Rattle.gx_agenda.specs.declared.expected.Expected.{Expected}
use Rattle.gx_agenda.specs.declared.request.Request.{Request}
use Rattle.gx_agenda.specs.Awaited.{AreAsked, AreAwaited, AreWaits, IsIndexed, begins_wait, due_of, waits_in}
use Rattle.gx_agenda.specs.Requests.{request_cmp}
use Rattle.gx_agenda.proofs.Changes.{is_same_request}
use Rattle.gx_agenda.proofs.Lists.{same_number}
use Rattle.gx_agenda.proofs.Parted.{none-first}

-- THE INDEX
tied-numbers : (a g b h : ℕ) → is_at (request_cmp (record { segment = record { 0 = a }; gxid = record { 0 = g } })) (record { segment = record { 0 = b }; gxid = record { 0 = h } }) ≡ true → (a ≡ b) × (g ≡ h)
tied-numbers a g b h e = (grind (arith, nat_tests), grind (arith, nat_tests))

-- requests that are tied are one
tied : (q r : Request) → is_at (request_cmp q) r ≡ true → q ≡ r
tied q r e =
    let p = tied-numbers q.segment.0 q.gxid.0 r.segment.0 r.gxid.0 e in
    ap (λ (n : ℕ). let x : Request = record { segment = record { 0 = n }; gxid = q.gxid } in x) p.0
    ∙ ap (λ (n : ℕ). let x : Request = record { segment = r.segment; gxid = record { 0 = n } } in x) p.1

tied-itself : (q : Request) → is_at (request_cmp q) q ≡ true
tied-itself q = by q.segment.0 q.gxid.0
  where
    by : (a g : ℕ) → is_at (request_cmp (record { segment = record { 0 = a }; gxid = record { 0 = g } })) (record { segment = record { 0 = a }; gxid = record { 0 = g } }) ≡ true
    by a g = grind (arith, nat_tests)

-- what is asked and what waits change at one request, and there the index is told anew
module _ (q : Request) (p0 p1 d0 d1 : Request → Option Expected) (w0 w1 : Request → List Claim) (there : Option Expected) where
  pub index-one : ((r : Request) → d0 r ≡ due_of (p0 r) (w0 r))
      → ((r : Request) → is_at (request_cmp q) r ≡ false → p1 r ≡ p0 r)
      → ((r : Request) → is_at (request_cmp q) r ≡ false → w1 r ≡ w0 r)
      → ((r : Request) → d1 r ≡ cond (is_at (request_cmp q) r) there (d0 r))
      → there ≡ due_of (p1 q) (w1 q)
      → (r : Request) → d1 r ≡ due_of (p1 r) (w1 r)
  index-one old asked waits set is r = by (is_at (request_cmp q) r) refl
    where
      by : (b : Bool) → is_at (request_cmp q) r ≡ b → d1 r ≡ due_of (p1 r) (w1 r)
      by true e = set r ∙ ap (λ b. cond b there (d0 r)) e ∙ is ∙ ap (λ x. due_of (p1 x) (w1 x)) (tied q r e)
      by false e = set r ∙ ap (λ b. cond b there (d0 r)) e ∙ old r ∙ ap (λ o. due_of o (w0 r)) (sym (asked r e)) ∙ ap (due_of (p1 r)) (sym (waits r e))

pub set-here : {X : Type 0} (q : Request) (f : Request → X) (x : X) (d : Request → X) → ((r : Request) → f r ≡ cond (is_at (request_cmp q) r) x (d r)) → f q ≡ x
set-here q f x d set = set q ∙ ap (λ b. cond b x (d q)) (tied-itself q)

pub set-there : {X : Type 0} (q : Request) (f : Request → X) (x : X) (d : Request → X) → ((r : Request) → f r ≡ cond (is_at (request_cmp q) r) x (d r)) → (r : Request) → is_at (request_cmp q) r ≡ false → f r ≡ d r
set-there q f x d set r e = set r ∙ ap (λ b. cond b x (d r)) e

-- nothing is awaited, so nothing is due
pub none-due : (q : Request) (d h : Request → Option Expected) (waits : List Claim) → option_or (d q) (h q) ≡ None → (r : Request) → d r ≡ cond (is_at (request_cmp q) r) (due_of (option_or (d q) (h q)) waits) (d r)
none-due q d h waits none r = by (is_at (request_cmp q) r) refl
  where
    by : (b : Bool) → is_at (request_cmp q) r ≡ b → d r ≡ cond b (due_of (option_or (d q) (h q)) waits) (d r)
    by true e = sym (ap d (tied q r e)) ∙ none-first (d q) (h q) none ∙ sym (ap (λ o. due_of o waits) none)
    by false e = refl

-- the waits of one request are taken out and put back, changed
module _ (q : Request) (there : List Claim) (o0 o1 : Request → Option (List Claim)) (w : Request → List Claim)
    (out : (r : Request) → o1 r ≡ cond (is_at (request_cmp q) r) None (o0 r)) (put : (r : Request) → w r ≡ cond (is_at (request_cmp q) r) there (unwrap_or (o1 r) [])) where
  put-off : (r : Request) → is_at (request_cmp q) r ≡ false → w r ≡ unwrap_or (o0 r) []
  put-off r e = put r ∙ ap (λ b. cond b there (unwrap_or (o1 r) [])) e ∙ ap (λ (o : Option (List Claim)). unwrap_or o []) (out r ∙ ap (λ b. cond b None (o0 r)) e)

  pub waits-put : (f : List Claim → List Claim) → there ≡ f (unwrap_or (o0 q) []) → (r : Request) → w r ≡ cond (is_at (request_cmp q) r) (f (unwrap_or (o0 r) [])) (unwrap_or (o0 r) [])
  waits-put f is r = by (is_at (request_cmp q) r) refl
    where
      by : (b : Bool) → is_at (request_cmp q) r ≡ b → w r ≡ cond (is_at (request_cmp q) r) (f (unwrap_or (o0 r) [])) (unwrap_or (o0 r) [])
      by true e =
          put r ∙ ap (λ b. cond b there (unwrap_or (o1 r) [])) e ∙ is ∙ ap (λ x. f (unwrap_or (o0 x) [])) (tied q r e)
          ∙ sym (ap (λ b. cond b (f (unwrap_or (o0 r) [])) (unwrap_or (o0 r) [])) e)
      by false e = put-off r e ∙ sym (ap (λ b. cond b (f (unwrap_or (o0 r) [])) (unwrap_or (o0 r) [])) e)

  pub index-put : (p p1 d0 d1 : Request → Option Expected) → ((r : Request) → p1 r ≡ p r) → ((r : Request) → d1 r ≡ cond (is_at (request_cmp q) r) (due_of (p q) there) (d0 r))
      → ((r : Request) → d0 r ≡ due_of (p r) (unwrap_or (o0 r) [])) → (r : Request) → d1 r ≡ due_of (p1 r) (w r)
  index-put p p1 d0 d1 same set index =
      index-one q p p1 d0 d1 (λ r. unwrap_or (o0 r) []) w (due_of (p q) there) index (λ r e. same r) put-off set
      (sym (ap (λ o. due_of o (w q)) (same q) ∙ ap (due_of (p q)) (set-here q w there (λ r. unwrap_or (o1 r) []) put)))

-- where nobody waits, no wait ends
pub no-waits : (q : Request) (es : List (Request × List Claim)) → length es ≡ 0 → unwrap_or (lookup (is_at (request_cmp q)) es) [] ≡ []
no-waits q [] none = refl
no-waits q (e ∷ es) none = absurd (omega (arith, none))

pub none-waiting : (q : Request) (c : Claim) (waiting : BTreeMap Request (List Claim)) → btree_map_len waiting ≡ 0 → (r : Request) → waits_in waiting r ≡ cond (is_at (request_cmp q) r) (without_claim c (waits_in waiting r)) (waits_in waiting r)
none-waiting q c waiting none r = by (is_at (request_cmp q) r) (no-waits r waiting.entries none)
  where
    by : (b : Bool) → waits_in waiting r ≡ [] → waits_in waiting r ≡ cond b (without_claim c (waits_in waiting r)) (waits_in waiting r)
    by true e = e ∙ sym (ap (without_claim c) e)
    by false e = refl

-- ONE MARK
abbrev pub of_gxid : Gxid → List Claim → List Claim
of_gxid g claims = filter (λ wait. is_same_gxid wait.gxid g) claims

same-gxid : (a b : ℕ) (s : Bool) → (eqb a b && s) ≡ true → a ≡ b
same-gxid a b s e = grind (arith, nat_tests)

-- a claim is another one's transaction's, where they are one
same-of : (c d : Claim) (g : Gxid) → same_claim c d ≡ true → is_same_gxid d.gxid g ≡ is_same_gxid c.gxid g
same-of c d g e = ap (λ n. eqb n g.0) (sym (same-gxid c.gxid.0 d.gxid.0 (same_object c.object d.object && eqb (number_of c.mode) (number_of d.mode)) e))

any-of : (c : Claim) (g : Gxid) (xs : List Claim) → is_same_gxid c.gxid g ≡ true → list_any (same_claim c) (of_gxid g xs) ≡ list_any (same_claim c) xs
any-of c g [] own = refl
any-of c g (x ∷ xs) own = by (is_same_gxid x.gxid g) (same_claim c x) refl refl (any-of c g xs own)
  where
    clash : false ≡ true → ⊥
    clash h = cc

    by : (b s : Bool) → is_same_gxid x.gxid g ≡ b → same_claim c x ≡ s → list_any (same_claim c) (of_gxid g xs) ≡ list_any (same_claim c) xs
        → list_any (same_claim c) (cond (is_same_gxid x.gxid g) (x ∷ of_gxid g xs) (of_gxid g xs)) ≡ (same_claim c x || list_any (same_claim c) xs)
    by true s e f h = ap (λ b. list_any (same_claim c) (cond b (x ∷ of_gxid g xs) (of_gxid g xs))) e ∙ ap (λ b. same_claim c x || b) h
    by false true e f h = absurd (clash (sym e ∙ (same-of c x g f ∙ own)))
    by false false e f h = ap (λ b. list_any (same_claim c) (cond b (x ∷ of_gxid g xs) (of_gxid g xs))) e ∙ h ∙ sym (ap (λ b. b || list_any (same_claim c) xs) f)

of-append : (g : Gxid) (c : Claim) (xs : List Claim) (b : Bool) → is_same_gxid c.gxid g ≡ b → of_gxid g (xs ++ c ∷ []) ≡ of_gxid g xs ++ cond b (c ∷ []) []
of-append g c [] b e = ap (λ b. cond b (c ∷ []) []) e
of-append g c (x ∷ xs) b e = by (is_same_gxid x.gxid g) (of-append g c xs b e)
  where
    by : (a : Bool) → of_gxid g (xs ++ c ∷ []) ≡ of_gxid g xs ++ cond b (c ∷ []) [] → cond a (x ∷ of_gxid g (xs ++ c ∷ [])) (of_gxid g (xs ++ c ∷ [])) ≡ cond a (x ∷ of_gxid g xs) (of_gxid g xs) ++ cond b (c ∷ []) []
    by true h = ap (λ ys. x ∷ ys) h
    by false h = h

-- the transaction's own wait is added to its own
added-own : (g : Gxid) (c : Claim) (xs : List Claim) → is_same_gxid c.gxid g ≡ true → of_gxid g (with_claim c xs) ≡ with_claim c (of_gxid g xs)
added-own g c xs own = by (list_any (same_claim c) xs) refl
  where
    by : (b : Bool) → list_any (same_claim c) xs ≡ b → of_gxid g (with_claim c xs) ≡ with_claim c (of_gxid g xs)
    by true e = ap (λ b. of_gxid g (cond b xs (xs ++ c ∷ []))) e ∙ sym (ap (λ b. cond b (of_gxid g xs) (of_gxid g xs ++ c ∷ [])) (any-of c g xs own ∙ e))
    by false e = ap (λ b. of_gxid g (cond b xs (xs ++ c ∷ []))) e ∙ of-append g c xs true own ∙ sym (ap (λ b. cond b (of_gxid g xs) (of_gxid g xs ++ c ∷ [])) (any-of c g xs own ∙ e))

added-other : (g : Gxid) (c : Claim) (xs : List Claim) → is_same_gxid c.gxid g ≡ false → of_gxid g (with_claim c xs) ≡ of_gxid g xs
added-other g c xs other = by (list_any (same_claim c) xs)
  where
    by : (b : Bool) → of_gxid g (cond b xs (xs ++ c ∷ [])) ≡ of_gxid g xs
    by true = refl
    by false = of-append g c xs false other ∙ append-nil (of_gxid g xs)

without-of : (g : Gxid) (c : Claim) (xs : List Claim) → of_gxid g (without_claim c xs) ≡ without_claim c (of_gxid g xs)
without-of g c [] = refl
without-of g c (x ∷ xs) = by (same_claim c x) (is_same_gxid x.gxid g) refl refl (without-of g c xs)
  where
    by : (s b : Bool) → same_claim c x ≡ s → is_same_gxid x.gxid g ≡ b → of_gxid g (without_claim c xs) ≡ without_claim c (of_gxid g xs)
        → of_gxid g (cond (not (same_claim c x)) (x ∷ without_claim c xs) (without_claim c xs)) ≡ without_claim c (cond (is_same_gxid x.gxid g) (x ∷ of_gxid g xs) (of_gxid g xs))
    by true true e f h = ap (λ s. of_gxid g (cond (not s) (x ∷ without_claim c xs) (without_claim c xs))) e ∙ h ∙ sym (ap (λ b. without_claim c (cond b (x ∷ of_gxid g xs) (of_gxid g xs))) f ∙ ap (λ s. cond (not s) (x ∷ without_claim c (of_gxid g xs)) (without_claim c (of_gxid g xs))) e)
    by true false e f h = ap (λ s. of_gxid g (cond (not s) (x ∷ without_claim c xs) (without_claim c xs))) e ∙ h ∙ sym (ap (λ b. without_claim c (cond b (x ∷ of_gxid g xs) (of_gxid g xs))) f)
    by false true e f h =
        ap (λ s. of_gxid g (cond (not s) (x ∷ without_claim c xs) (without_claim c xs))) e ∙ ap (λ b. cond b (x ∷ of_gxid g (without_claim c xs)) (of_gxid g (without_claim c xs))) f ∙ ap (λ ys. x ∷ ys) h
        ∙ sym (ap (λ b. without_claim c (cond b (x ∷ of_gxid g xs) (of_gxid g xs))) f ∙ ap (λ s. cond (not s) (x ∷ without_claim c (of_gxid g xs)) (without_claim c (of_gxid g xs))) e)
    by false false e f h =
        ap (λ s. of_gxid g (cond (not s) (x ∷ without_claim c xs) (without_claim c xs))) e ∙ ap (λ b. cond b (x ∷ of_gxid g (without_claim c xs)) (of_gxid g (without_claim c xs))) f ∙ h
        ∙ sym (ap (λ b. without_claim c (cond b (x ∷ of_gxid g xs) (of_gxid g xs))) f)

without-other : (g : Gxid) (c : Claim) (xs : List Claim) → is_same_gxid c.gxid g ≡ false → without_claim c (of_gxid g xs) ≡ of_gxid g xs
without-other g c [] other = refl
without-other g c (x ∷ xs) other = by (is_same_gxid x.gxid g) (same_claim c x) refl refl (without-other g c xs other)
  where
    clash : true ≡ false → ⊥
    clash h = cc

    by : (b s : Bool) → is_same_gxid x.gxid g ≡ b → same_claim c x ≡ s → without_claim c (of_gxid g xs) ≡ of_gxid g xs
        → without_claim c (cond (is_same_gxid x.gxid g) (x ∷ of_gxid g xs) (of_gxid g xs)) ≡ cond (is_same_gxid x.gxid g) (x ∷ of_gxid g xs) (of_gxid g xs)
    by true true e f h = absurd (clash (sym e ∙ (same-of c x g f ∙ other)))
    by true false e f h =
        ap (λ b. without_claim c (cond b (x ∷ of_gxid g xs) (of_gxid g xs))) e ∙ ap (λ s. cond (not s) (x ∷ without_claim c (of_gxid g xs)) (without_claim c (of_gxid g xs))) f ∙ ap (λ ys. x ∷ ys) h
        ∙ sym (ap (λ b. cond b (x ∷ of_gxid g xs) (of_gxid g xs)) e)
    by false s e f h = ap (λ b. without_claim c (cond b (x ∷ of_gxid g xs) (of_gxid g xs))) e ∙ h ∙ sym (ap (λ b. cond b (x ∷ of_gxid g xs) (of_gxid g xs)) e)

-- what was told of the request of a claim is so of each transaction at each node
module _ (node : Node) (c : Claim) (standing : Node → List Claim) (old new : Request → List Claim) (were : (n : Node) (g : Gxid) → old (record { segment = n; gxid = g }) ≡ of_gxid g (standing n)) where
  abbrev request : Request
  request = record { segment = node; gxid = c.gxid }

  pub begun-waits : ((r : Request) → new r ≡ cond (is_at (request_cmp request) r) (with_claim c (old r)) (old r)) → (n : Node) (g : Gxid)
      → new (record { segment = n; gxid = g }) ≡ of_gxid g (cond (is_same_node node n) (with_claim c (standing n)) (standing n))
  begun-waits set n g = by (is_same_node node n) (is_same_gxid c.gxid g) refl refl
    where
      r : Request
      r = record { segment = n; gxid = g }

      by : (a b : Bool) → is_same_node node n ≡ a → is_same_gxid c.gxid g ≡ b → new r ≡ of_gxid g (cond (is_same_node node n) (with_claim c (standing n)) (standing n))
      by a b e f = set r ∙ ap (λ x. cond x (with_claim c (old r)) (old r)) (is_same_request node n c.gxid g) ∙ ap (λ ws. cond (is_same_node node n && is_same_gxid c.gxid g) (with_claim c ws) ws) (were n g)
          ∙ ap (λ x. cond (x && is_same_gxid c.gxid g) (with_claim c (of_gxid g (standing n))) (of_gxid g (standing n))) e ∙ ap (λ x. cond (a && x) (with_claim c (of_gxid g (standing n))) (of_gxid g (standing n))) f
          ∙ so a b f ∙ sym (ap (λ x. of_gxid g (cond x (with_claim c (standing n)) (standing n))) e)
        where
          so : (a b : Bool) → is_same_gxid c.gxid g ≡ b → cond (a && b) (with_claim c (of_gxid g (standing n))) (of_gxid g (standing n)) ≡ of_gxid g (cond a (with_claim c (standing n)) (standing n))
          so true true f = sym (added-own g c (standing n) f)
          so true false f = sym (added-other g c (standing n) f)
          so false b f = refl

  pub ended-waits : ((r : Request) → new r ≡ cond (is_at (request_cmp request) r) (without_claim c (old r)) (old r)) → (n : Node) (g : Gxid)
      → new (record { segment = n; gxid = g }) ≡ of_gxid g (cond (is_same_node node n) (without_claim c (standing n)) (standing n))
  ended-waits set n g = by (is_same_node node n) (is_same_gxid c.gxid g) refl refl
    where
      r : Request
      r = record { segment = n; gxid = g }

      by : (a b : Bool) → is_same_node node n ≡ a → is_same_gxid c.gxid g ≡ b → new r ≡ of_gxid g (cond (is_same_node node n) (without_claim c (standing n)) (standing n))
      by a b e f = set r ∙ ap (λ x. cond x (without_claim c (old r)) (old r)) (is_same_request node n c.gxid g) ∙ ap (λ ws. cond (is_same_node node n && is_same_gxid c.gxid g) (without_claim c ws) ws) (were n g)
          ∙ ap (λ x. cond (x && is_same_gxid c.gxid g) (without_claim c (of_gxid g (standing n))) (of_gxid g (standing n))) e ∙ ap (λ x. cond (a && x) (without_claim c (of_gxid g (standing n))) (of_gxid g (standing n))) f
          ∙ so a b f ∙ sym (ap (λ x. of_gxid g (cond x (without_claim c (standing n)) (standing n))) e)
        where
          so : (a b : Bool) → is_same_gxid c.gxid g ≡ b → cond (a && b) (without_claim c (of_gxid g (standing n))) (of_gxid g (standing n)) ≡ of_gxid g (cond a (without_claim c (standing n)) (standing n))
          so true true f = sym (without-of g c (standing n))
          so true false f = sym (without-of g c (standing n) ∙ without-other g c (standing n) f)
          so false b f = refl

-- SEVERAL MARKS
pub waits_from-append : (node : Node) (h : List Claim) (ms ns : List Mark) → waits_from node h (ms ++ ns) ≡ waits_from node (waits_from node h ms) ns
waits_from-append node h [] ns = refl
waits_from-append node h (mark.Hold n g object mode ∷ ms) ns = waits_from-append node (waits_from node h (mark.Hold n g object mode ∷ [])) ms ns
waits_from-append node h (mark.Wait n g object mode ∷ ms) ns = waits_from-append node (waits_from node h (mark.Wait n g object mode ∷ [])) ms ns
waits_from-append node h (mark.Release n g object mode ∷ ms) ns = waits_from-append node (waits_from node h (mark.Release n g object mode ∷ [])) ms ns
waits_from-append node h (m ∷ ms) ns = waits_from-append node h ms ns

pub waits-next : (node : Node) (h : List Claim) (ms : List Mark) (k : ℕ) (m : Mark) → k < length ms → m ≡ get_or ms k m → waits_from node h (take (k + 1) ms) ≡ waits_from node (waits_from node h (take k ms)) (m ∷ [])
waits-next node h ms k m inside is = ap (waits_from node h) (take_more ms k m inside ∙ ap (λ x. take k ms ++ x ∷ []) (sym is)) ∙ waits_from-append node h (take k ms) (m ∷ [])

-- where nobody waits and no wait begins, nobody waits behind the marks
all-none : (ws : List Claim) → ((g : Gxid) → of_gxid g ws ≡ []) → ws ≡ []
all-none [] none = refl
all-none (w ∷ ws) none = absurd (never w (of_gxid w.gxid ws) (sym (ap (λ b. cond b (w ∷ of_gxid w.gxid ws) (of_gxid w.gxid ws)) (same_number w.gxid.0)) ∙ none w.gxid))
  where
    never : (x : Claim) (xs : List Claim) → x ∷ xs ≡ [] → ⊥
    never x xs e = cc

none-ends : (c : Claim) (b : Bool) → cond b (without_claim c []) [] ≡ []
none-ends c true = refl
none-ends c false = refl

none-begun : (node : Node) (ms : List Mark) → list_any begins_wait ms ≡ false → waits_from node [] ms ≡ []
none-begun node [] none = refl
none-begun node (mark.Wait n g object mode ∷ ms) none = absurd (cc)
none-begun node (mark.Hold n g object mode ∷ ms) none =
    ap (λ h. waits_from node h ms) (none-ends (record { gxid = g; object = object; mode = mode }) (is_same_node n node)) ∙ none-begun node ms none
none-begun node (mark.Release n g object mode ∷ ms) none =
    ap (λ h. waits_from node h ms) (none-ends (record { gxid = g; object = object; mode = mode }) (is_same_node n node)) ∙ none-begun node ms none
none-begun node (m ∷ ms) none = none-begun node ms none

pub none-waits : (asked : Asked) (ms : List Mark) → btree_map_len asked.waiting ≡ 0 → list_any begins_wait ms ≡ false → (standing : Node → List Claim) → AreWaits standing asked → AreWaits (λ node. waits_from node (standing node) ms) asked
none-waits asked ms empty none standing were node g = were node g ∙ ap (of_gxid g) (nobody ∙ sym (ap (λ h. waits_from node h ms) nobody ∙ none-begun node ms none))
  where
    nobody : standing node ≡ []
    nobody = all-none (standing node) (λ h. sym (were node h) ∙ no-waits (record { segment = node; gxid = h }) asked.waiting.entries empty)

-- A STEP
-- the answers were noted, and then the waits
pub noted : (steps : List Step) (step : Step) (old new : Asked) → AreAsked steps old → AreAwaited (steps ++ step ∷ []) new → (ms : List Mark) → ms ≡ step.marks
    → ((standing : Node → List Claim) → AreWaits standing old → AreWaits (λ node. waits_from node (standing node) ms) new) → IsIndexed new → AreAsked (steps ++ step ∷ []) new
noted steps step old new were answers ms is waits due =
    record {
      answers = answers;
      waits = λ node g.
          waits (waits_at (marks_in steps)) were.waits node g
          ∙ ap (of_gxid g) (ap (waits_from node (waits_at (marks_in steps) node)) is ∙ sym (ap (λ xs. waits_at xs node) (marks_in-push steps step) ∙ waits_from-append node [] (marks_in steps) step.marks));
      due = due;
    }
