-- Cells as they are made, one segment after the other.
use Rattle.std.proofs.Common.{◌≡◌, ◌≤◌, ◌<◌, ℕ, zero, suc, ◌+◌, List, [], ◌∷◌, ◌++◌, Option, Some, None, false, refl, sym, subst, ap, ◌∙◌, arith, length, length-append}
use Rattle.std.specs.Prelude.{map, slice_get}
use Rattle.std.proofs.lemmas.List.{length-map, map-append}
use Rattle.gx_lemmas.proofs.Lists.{length-push}
use Rattle.gx_lemmas.proofs.Options.{some-same}
use Rattle.atomic_blocks.specs.Laid.{WebId}
use Rattle.gx_links.specs.Ends.{OutEnd}
use Rattle.gx_outside.specs.Shelves.{AreEmpty, Shelf}
use Rattle.gx_script.specs.declared.Script.{Script}
use Rattle.gx_cells.specs.Closed.{AreClosed, AreNew, IsNewSegment, inbox_of, out_of}
use Rattle.gx_cells.specs.CoordActs.{links_of}
use Rattle.gx_cells.specs.CoordReceipts.{AreBlank, links_in}
use Rattle.gx_cells.specs.CoordViews.{CoordView}
use Rattle.gx_cells.specs.Views.{SegmentView}
use Rattle.gx_cells.specs.declared.inbox.Inbox.{Inbox}

get-pushed : {A : Type 0} (P : ℕ → A → Type 0) (xs : List A) (y : A) → ((k : ℕ) (x : A) → slice_get xs k ≡ Some x → P k x) → P (length xs) y → (k : ℕ) (x : A) → slice_get (xs ++ y ∷ []) k ≡ Some x → P k x
get-pushed P [] y all is zero x at = subst (P 0) (some-same y x at) is
get-pushed P [] y all is (suc k) x at = absurd (cc)
get-pushed P (z ∷ zs) y all is zero x at = all zero x at
get-pushed P (z ∷ zs) y all is (suc k) x at = get-pushed (λ j. P (suc j)) zs y (λ j w e. all (suc j) w e) is k x at

-- nothing was sent
abbrev pub AreUnsent : List OutEnd → Type 0
AreUnsent outs = (k : ℕ) (out : OutEnd) → slice_get outs k ≡ Some out → out.sent ≡ []

pub record AreMade (script : Script) (shelves : List Shelf) (outs : List OutEnd) (inboxes : List Inbox) (segments : List SegmentView) : Type 0 where
  pub each : (k : ℕ) (s : SegmentView) → slice_get segments k ≡ Some s → IsNewSegment script k s
  pub forth : links_of outs ≡ links_in (map inbox_of segments)
  pub back : links_of (map out_of segments) ≡ links_in inboxes
  pub shelved : map (λ s. s.shelf) segments ≡ shelves
  pub sent : AreUnsent outs
  pub received : AreBlank inboxes

pub none-made : (script : Script) → AreMade script [] [] [] []
none-made script =
    record { each = λ k s at. absurd (cc); forth = refl; back = refl; shelved = refl; sent = λ k out at. absurd (cc); received = λ k inbox at. absurd (cc) }

pub made-next : (script : Script) (shelves shelves' : List Shelf) (outs outs' : List OutEnd) (inboxes inboxes' : List Inbox) (segments segments' : List SegmentView) (out : OutEnd) (inbox : Inbox) (s : SegmentView) → AreMade script shelves outs inboxes segments
    → IsNewSegment script (length segments) s → out.link ≡ s.source.link → s.out.link ≡ inbox.source.link → out.sent ≡ [] → inbox.source.received ≡ [] → inbox.again ≡ None → outs' ≡ outs ++ out ∷ [] → inboxes' ≡ inboxes ++ inbox ∷ [] → segments' ≡ segments ++ s ∷ [] → shelves' ≡ shelves ++ s.shelf ∷ []
    → AreMade script shelves' outs' inboxes' segments'
made-next script shelves shelves' outs outs' inboxes inboxes' segments segments' out inbox s m new forth back sent received again os is ss hs =
    record {
      each = subst (λ (vs : List SegmentView). (k : ℕ) (v : SegmentView) → slice_get vs k ≡ Some v → IsNewSegment script k v) (sym ss) (get-pushed (IsNewSegment script) segments s m.each new);
      forth = ap links_of os ∙ map-append (λ (o : OutEnd). o.link) outs (out ∷ []) ∙ ap (λ ls. ls ++ out.link ∷ []) m.forth ∙ ap (λ l. links_in (map inbox_of segments) ++ l ∷ []) forth
          ∙ sym (ap (λ vs. links_in (map inbox_of vs)) ss ∙ ap links_in (map-append inbox_of segments (s ∷ [])) ∙ map-append (λ (i : Inbox). i.source.link) (map inbox_of segments) (inbox_of s ∷ []));
      back = ap (λ vs. links_of (map out_of vs)) ss ∙ ap links_of (map-append out_of segments (s ∷ [])) ∙ map-append (λ (o : OutEnd). o.link) (map out_of segments) (out_of s ∷ [])
          ∙ ap (λ ls. ls ++ s.out.link ∷ []) m.back ∙ ap (λ l. links_in inboxes ++ l ∷ []) back ∙ sym (ap links_in is ∙ map-append (λ (i : Inbox). i.source.link) inboxes (inbox ∷ []));
      shelved = ap (map (λ (v : SegmentView). v.shelf)) ss ∙ map-append (λ (v : SegmentView). v.shelf) segments (s ∷ []) ∙ ap (λ xs. xs ++ s.shelf ∷ []) m.shelved ∙ sym hs;
      sent = subst AreUnsent (sym os) (get-pushed (λ k (o : OutEnd). o.sent ≡ []) outs out m.sent sent);
      received = subst AreBlank (sym is) (get-pushed (λ k (i : Inbox). (i.source.received ≡ []) × (i.again ≡ None)) inboxes inbox m.received (received, again));
    }

-- so many as there are journals
pub made-count : (script : Script) (shelves : List Shelf) (outs : List OutEnd) (inboxes : List Inbox) (segments : List SegmentView) → AreMade script shelves outs inboxes segments → length segments ≡ length shelves
made-count script shelves outs inboxes segments m = sym (length-map segments (λ (v : SegmentView). v.shelf)) ∙ ap length m.shelved

pub made-outs : (script : Script) (shelves : List Shelf) (outs : List OutEnd) (inboxes : List Inbox) (segments : List SegmentView) → AreMade script shelves outs inboxes segments → length outs ≡ length shelves
made-outs script shelves outs inboxes segments m =
    sym (length-map outs (λ (o : OutEnd). o.link)) ∙ ap length m.forth ∙ length-map (map inbox_of segments) (λ (i : Inbox). i.source.link) ∙ length-map segments inbox_of ∙ made-count script shelves outs inboxes segments m

pub made-inboxes : (script : Script) (shelves : List Shelf) (outs : List OutEnd) (inboxes : List Inbox) (segments : List SegmentView) → AreMade script shelves outs inboxes segments → length inboxes ≡ length shelves
made-inboxes script shelves outs inboxes segments m =
    sym (length-map inboxes (λ (i : Inbox). i.source.link)) ∙ ap length (sym m.back) ∙ length-map (map out_of segments) (λ (o : OutEnd). o.link) ∙ length-map segments out_of ∙ made-count script shelves outs inboxes segments m

-- journals that hold no item
pub empty-there : {A : Type 0} (f : A → Shelf) (ys : List A) (x : A) (zs : List A) → AreEmpty (map f (ys ++ x ∷ zs)) → (f x).items ≡ []
empty-there f [] x zs all = all 0 (f x) (omega arith)
empty-there f (y ∷ ys) x zs all = empty-there f ys x zs (λ k d inside. all (suc k) d (above k (length (map f (ys ++ x ∷ zs))) inside))
  where
    above : (k n : ℕ) → k < n → suc k < suc n
    above k n h = omega (arith, h)

-- one more fits
pub one-more : {A : Type 0} (all given rest : List A) (x : A) (count n : ℕ) → all ≡ given ++ x ∷ rest → length all ≡ n → count ≡ length given → count + 1 ≤ n
one-more all given rest x count n is whole same = omega (arith, ap length is, length-append given (x ∷ rest), whole, same)

module _ (script : Script) (shelves : List Shelf) (outs : List OutEnd) (inboxes : List Inbox) (segments : List SegmentView) (coord : CoordView) (m : AreMade script shelves outs inboxes segments) (of : coord.script ≡ script) (is : coord.inboxes ≡ inboxes) where
  pub made-closed : length shelves ≡ script.segments → coord.outs ≡ outs → AreClosed coord segments
  made-closed count os =
      record {
        count = made-count script shelves outs inboxes segments m ∙ count ∙ ap (λ (x : Script). x.segments) (sym of);
        each = λ k s at.
            let n = m.each k s at in
            (n.0 ∙ sym of, n.1);
        forth = ap links_of os ∙ m.forth;
        back = m.back ∙ ap links_in (sym is);
      }

  pub made-new : coord.outs ≡ outs → coord.spent ≡ false → coord.steps ≡ [] → coord.first ≡ coord.shelf.faults → AreNew script coord segments
  made-new os unspent steps first = record { of = of; unspent = unspent; steps = steps; first = first; inboxes = subst AreBlank (sym is) m.received; outs = subst AreUnsent (sym os) m.sent; each = m.each }
