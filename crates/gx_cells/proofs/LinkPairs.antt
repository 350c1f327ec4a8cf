-- Both ends of links, taken from the last one on; and what is taken of cells.
use Rattle.std.proofs.Common.{◌≡◌, ◌≤◌, ◌<◌, ℕ, zero, suc, ◌+◌, List, [], ◌∷◌, ◌++◌, Option, Some, None, Bool, true, false, refl, sym, subst, ap, ◌∙◌, ◌⊎◌, ⊎_elim, arith, length, get_or, append-nil}
use Rattle.std.specs.Prelude.{map, nat_lt, slice_get}
use Rattle.std.proofs.lemmas.List.{append_assoc, length-map, map-append}
use Rattle.gx_lemmas.proofs.Lists.{get-append, length-push, place-below}
use Rattle.gx_lemmas.proofs.Numbers.{le-of, lt-of}
use Rattle.gx_lemmas.proofs.Options.{some-same}
use Rattle.atomic_blocks.specs.Laid.{WebId}
use Rattle.gx_links.specs.Ends.{OutEnd}
use Rattle.gx_outside.specs.Shelves.{Shelf}
use Rattle.gx_store.specs.Refusals.{the_coordinator}
use Rattle.gx_store.specs.declared.run.Step.{Step}
use Rattle.gx_merge.specs.declared.merging.NodeHistory.{NodeHistory}
use Rattle.gx_cells.specs.Closed.{AreBegun, IsBegun, IsSegmentKept, histories_of, inbox_of, out_of}
use Rattle.gx_cells.specs.CoordActs.{links_of}
use Rattle.gx_cells.specs.CoordReceipts.{links_in}
use Rattle.gx_cells.specs.CoordViews.{CoordView}
use Rattle.gx_cells.specs.Views.{SegmentView}
use Rattle.gx_cells.specs.declared.inbox.Inbox.{Inbox}

-- THE LAST ONES
abbrev behind : List WebId → List WebId
behind [] = []
behind (x ∷ xs) = xs

some-link : (ys : List Inbox) (y : Inbox) → [] ≡ links_in (ys ++ y ∷ []) → ⊥
some-link [] y e = absurd (cc)
some-link (z ∷ zs) y e = absurd (cc)

some-out : (xs : List OutEnd) (x : OutEnd) → links_of (xs ++ x ∷ []) ≡ [] → ⊥
some-out [] x e = absurd (cc)
some-out (z ∷ zs) x e = absurd (cc)

pub last-same : (xs : List OutEnd) (ys : List Inbox) (x : OutEnd) (y : Inbox) → links_of (xs ++ x ∷ []) ≡ links_in (ys ++ y ∷ []) → (links_of xs ≡ links_in ys) × (x.link ≡ y.source.link)
last-same [] [] x y e = (refl, ap (λ l. get_or l 0 x.link) e)
last-same [] (z ∷ ys) x y e = absurd (some-link ys y (ap behind e))
last-same (z ∷ xs) [] x y e = absurd (some-out xs x (ap behind e))
last-same (z ∷ xs) (w ∷ ys) x y e =
    let rest = last-same xs ys x y (ap behind e) in
    (cons z.link w.source.link (links_of xs) (links_in ys) (ap (λ l. get_or l 0 z.link) e) rest.0, rest.1)
  where
    cons : (a b : WebId) (xs ys : List WebId) → a ≡ b → xs ≡ ys → a ∷ xs ≡ b ∷ ys
    cons a b xs ys h g = cc

get-here : {A : Type 0} (xs : List A) (y : A) (zs : List A) (k : ℕ) → k ≡ length xs → slice_get (xs ++ y ∷ zs) k ≡ Some y
get-here [] y zs zero is = refl
get-here [] y zs (suc k) is = absurd (omega (arith, is))
get-here (x ∷ xs) y zs zero is = absurd (omega (arith, is))
get-here (x ∷ xs) y zs (suc k) is = get-here xs y zs k (down k (length xs) is)
  where
    down : (k n : ℕ) → suc k ≡ suc n → k ≡ n
    down k n e = omega (arith, e)

-- so many pairs are left, and the others were ended
pub record AreLeft (outs0 : List OutEnd) (inboxes0 : List Inbox) (outs : List OutEnd) (inboxes : List Inbox) : Type 0 where
  pub outs_behind : List OutEnd
  pub outs_are : outs0 ≡ outs ++ outs_behind
  pub inboxes_behind : List Inbox
  pub inboxes_are : inboxes0 ≡ inboxes ++ inboxes_behind
  pub links : links_of outs ≡ links_in inboxes
  pub ended : (k : ℕ) (out : OutEnd) (inbox : Inbox) → length outs ≤ k → slice_get outs0 k ≡ Some out → slice_get inboxes0 k ≡ Some inbox → IsBegun out inbox

pub none-ended : (outs : List OutEnd) (inboxes : List Inbox) → links_of outs ≡ links_in inboxes → AreLeft outs inboxes outs inboxes
none-ended outs inboxes same =
    record {
      outs_behind = [];
      outs_are = sym (append-nil outs);
      inboxes_behind = [];
      inboxes_are = sym (append-nil inboxes);
      links = same;
      ended = λ k out inbox high at there. absurd (above k (length outs) high (place-below outs k out at));
    }
  where
    above : (k n : ℕ) → n ≤ k → k < n → ⊥
    above k n h l = omega (arith, h, l)

same-length : (outs : List OutEnd) (inboxes : List Inbox) → links_of outs ≡ links_in inboxes → length outs ≡ length inboxes
same-length outs inboxes e = sym (length-map outs (λ (o : OutEnd). o.link)) ∙ ap length e ∙ length-map inboxes (λ (i : Inbox). i.source.link)

module _ (outs0 : List OutEnd) (inboxes0 : List Inbox) (outs outs' : List OutEnd) (inboxes inboxes' : List Inbox) (o : OutEnd) (i : Inbox) (a : AreLeft outs0 inboxes0 outs inboxes) (last : outs ≡ outs' ++ o ∷ []) (last-in : inboxes ≡ inboxes' ++ i ∷ []) where
  both-last : (links_of outs' ≡ links_in inboxes') × (o.link ≡ i.source.link)
  both-last = last-same outs' inboxes' o i (ap links_of (sym last) ∙ a.links ∙ ap links_in last-in)

  pub link-last : o.link ≡ i.source.link
  link-last = both-last.1

  outs-so : outs0 ≡ outs' ++ o ∷ a.outs_behind
  outs-so = a.outs_are ∙ ap (λ xs. xs ++ a.outs_behind) last ∙ append_assoc outs' (o ∷ []) a.outs_behind

  inboxes-so : inboxes0 ≡ inboxes' ++ i ∷ a.inboxes_behind
  inboxes-so = a.inboxes_are ∙ ap (λ xs. xs ++ a.inboxes_behind) last-in ∙ append_assoc inboxes' (i ∷ []) a.inboxes_behind

  pub left-next : IsBegun o i → AreLeft outs0 inboxes0 outs' inboxes'
  left-next begun =
      record {
        outs_behind = o ∷ a.outs_behind;
        outs_are = outs-so;
        inboxes_behind = i ∷ a.inboxes_behind;
        inboxes_are = inboxes-so;
        links = both-last.0;
        ended = λ k out inbox high at there. by k out inbox (nat_lt k (length outs)) refl high at there;
      }
    where
      longer : length outs ≡ length outs' + 1
      longer = ap length last ∙ length-push outs' o

      here : (k : ℕ) → k < length outs → length outs' ≤ k → k ≡ length outs'
      here k low high = equal k (length outs) (length outs') longer low high
        where
          equal : (k n m : ℕ) → n ≡ m + 1 → k < n → m ≤ k → k ≡ m
          equal k n m e l h = omega (arith, e, l, h)

      by : (k : ℕ) (out : OutEnd) (inbox : Inbox) (b : Bool) → nat_lt k (length outs) ≡ b → length outs' ≤ k → slice_get outs0 k ≡ Some out → slice_get inboxes0 k ≡ Some inbox → IsBegun out inbox
      by k out inbox false is high at there = a.ended k out inbox (le-of k (length outs) is) at there
      by k out inbox true is high at there =
          let same = here k (lt-of k (length outs) is) high in
          let out-is : o ≡ out = some-same o out (sym (get-here outs' o a.outs_behind k same) ∙ ap (λ xs. slice_get xs k) (sym outs-so) ∙ at) in
          let inbox-is : i ≡ inbox = some-same i inbox (sym (get-here inboxes' i a.inboxes_behind k (same ∙ same-length outs' inboxes' both-last.0)) ∙ ap (λ xs. slice_get xs k) (sym inboxes-so) ∙ there) in
          subst (λ x. IsBegun x inbox) out-is (subst (IsBegun o) inbox-is begun)

pub all-ended : (outs0 : List OutEnd) (inboxes0 : List Inbox) (outs : List OutEnd) (inboxes : List Inbox) → AreLeft outs0 inboxes0 outs inboxes → outs ≡ [] → AreBegun outs0 inboxes0
all-ended outs0 inboxes0 outs inboxes a none k out inbox at there = a.ended k out inbox (subst (λ xs. length xs ≤ k) (sym none) (least k)) at there
  where
    least : (k : ℕ) → 0 ≤ k
    least k = omega arith

-- an inbox for the last one stands there
pub pair-left : (outs0 : List OutEnd) (inboxes0 : List Inbox) (outs outs' : List OutEnd) (inboxes : List Inbox) (o : OutEnd) → AreLeft outs0 inboxes0 outs inboxes → outs ≡ outs' ++ o ∷ [] → inboxes ≡ [] → ⊥
pair-left outs0 inboxes0 outs outs' inboxes o a last none = some-out outs' o (ap links_of (sym last) ∙ a.links ∙ ap links_in none)

-- WHAT IS TAKEN
pub record AreTaken (coord : CoordView) (segments : List SegmentView) (histories : List NodeHistory) (shelves : List Shelf) (outs : List OutEnd) (inboxes : List Inbox) : Type 0 where
  pub steps : map (λ h. h.steps) histories ≡ histories_of coord segments
  pub nodes : map (λ h. h.node) histories ≡ the_coordinator ∷ map (λ s. s.node) segments
  pub shelved : shelves ≡ coord.shelf ∷ map (λ s. s.shelf) segments
  pub sends : outs ≡ map out_of segments
  pub hears : inboxes ≡ map inbox_of segments
  pub kept : (k : ℕ) (s : SegmentView) → slice_get segments k ≡ Some s → IsSegmentKept s

get-pushed : {A : Type 0} (P : A → Type 0) (xs : List A) (y : A) → ((k : ℕ) (x : A) → slice_get xs k ≡ Some x → P x) → P y → (k : ℕ) (x : A) → slice_get (xs ++ y ∷ []) k ≡ Some x → P x
get-pushed P [] y all is zero x at = subst P (some-same y x at) is
get-pushed P [] y all is (suc k) x at = absurd (cc)
get-pushed P (z ∷ zs) y all is zero x at = all zero x at
get-pushed P (z ∷ zs) y all is (suc k) x at = get-pushed P zs y (λ j w e. all (suc j) w e) is k x at

pub taken-next : (coord : CoordView) (segments : List SegmentView) (histories histories' : List NodeHistory) (shelves shelves' : List Shelf) (outs outs' : List OutEnd) (inboxes inboxes' : List Inbox) (s : SegmentView) (h : NodeHistory)
    → AreTaken coord segments histories shelves outs inboxes → IsSegmentKept s → h.steps ≡ s.steps → h.node ≡ s.node → histories' ≡ histories ++ h ∷ [] → shelves' ≡ shelves ++ s.shelf ∷ [] → outs' ≡ outs ++ s.out ∷ [] → inboxes' ≡ inboxes ++ inbox_of s ∷ []
    → AreTaken coord (segments ++ s ∷ []) histories' shelves' outs' inboxes'
taken-next coord segments histories histories' shelves shelves' outs outs' inboxes inboxes' s h a kept steps node hs js os is =
    record {
      steps = ap (map (λ (x : NodeHistory). x.steps)) hs ∙ map-append (λ (x : NodeHistory). x.steps) histories (h ∷ []) ∙ ap (λ (ss : List (List Step)). ss ++ h.steps ∷ []) a.steps ∙ ap (λ (x : List Step). histories_of coord segments ++ x ∷ []) steps
          ∙ ap (λ (ss : List (List Step)). coord.steps ∷ ss) (sym (map-append (λ (v : SegmentView). v.steps) segments (s ∷ [])));
      nodes = ap (map (λ (x : NodeHistory). x.node)) hs ∙ map-append (λ (x : NodeHistory). x.node) histories (h ∷ []) ∙ ap (λ ns. ns ++ h.node ∷ []) a.nodes ∙ ap (λ n. (the_coordinator ∷ map (λ (v : SegmentView). v.node) segments) ++ n ∷ []) node
          ∙ ap (λ ns. the_coordinator ∷ ns) (sym (map-append (λ (v : SegmentView). v.node) segments (s ∷ [])));
      shelved = js ∙ ap (λ xs. xs ++ s.shelf ∷ []) a.shelved ∙ ap (λ xs. coord.shelf ∷ xs) (sym (map-append (λ (v : SegmentView). v.shelf) segments (s ∷ [])));
      sends = os ∙ ap (λ xs. xs ++ s.out ∷ []) a.sends ∙ sym (map-append out_of segments (s ∷ []));
      hears = is ∙ ap (λ xs. xs ++ inbox_of s ∷ []) a.hears ∙ sym (map-append inbox_of segments (s ∷ []));
      kept = get-pushed IsSegmentKept segments s a.kept kept;
    }
