-- A command under way goes through the rows that it has selected: what its turn comes to, with each of its marks legal.
use Rattle.std.proofs.Common.{◌≡◌, ◌∙◌, inl, inr, ℕ, List, [], ◌∷◌, ◌++◌, Option, Some, None, false, refl, ap, sym, subst, take}
use Rattle.std.proofs.lemmas.List.{append_assoc}
use Rattle.gx_ids.specs.declared.ids.Gxid.{Gxid}
use Rattle.gx_ids.specs.declared.ids.Node.{Node}
use Rattle.gx_ids.specs.declared.rid.Rid.{Rid}
use Rattle.gx_tree.specs.declared.row.KeyedRow.{KeyedRow}
use Rattle.gx_tree.specs.declared.stmt.Assign.{Assign}
use Rattle.gx_tree.specs.declared.stmt.Stmt.{Stmt}
use Rattle.gx_meaning.specs.declared.fault.ArithFault.{ArithFault}
use Rattle.gx_script.specs.declared.Script.{Script}
use Rattle.gx_store.specs.declared.event.Event.{Event}
use Rattle.gx_store.specs.declared.mark.Mark.{Mark}
use Rattle.gx_store.specs.declared.mark.Mark.TheVariants as mark
use Rattle.gx_store.specs.declared.run.Step.{Step}
use Rattle.gx_store.specs.Faults.{FaultsOnSeen, IsFaultOf}
use Rattle.gx_store.specs.Marks.{is_processed}
use Rattle.gx_store.specs.Points.{marks_in}
use Rattle.gx_rules.specs.Changes.{Change, RowTurn, goes_through, selected}
use Rattle.gx_rules.specs.Segments.{Seg, SegTurn}
use Rattle.gx_rules.specs.Slices.{Moved, fails_on, first_fault}
use Rattle.gx_rules.specs.Visits.{DidStop, IsPath, Visit, WaitsAt, visited}
use Rattle.gx_law_order.proofs.Lists.{each_weaker}
use Rattle.gx_law_order.specs.Lists.{Each}
use Rattle.gx_law_order.proofs.SegItems.{writes_at}
use Rattle.gx_law_order.specs.Rest.{EachMark}
use Rattle.gx_law_writes.specs.Parts.{IsPartOf}
use Rattle.gx_law_writes.proofs.Chosen.{IsChosen, Sight}
use Rattle.gx_law_writes.proofs.Frames.{Inv}
use Rattle.gx_law_writes.proofs.LegalChange.{IsStatement}
use Rattle.gx_law_writes.proofs.Path.{AreApart, IsLock, Legals, legals-append, legals-locks}
use Rattle.gx_law_writes.proofs.Points.{IsLegalChange, IsRowOf, Ok, Runs, fault-ok, its-rules, lock-ok}
use Rattle.gx_law_writes.proofs.SelectedRows.{HaveHomes, IsSelected, part-seen, part-selected, selected-are-apart}
use Rattle.gx_law_writes.proofs.Shown.{IsFirst, first-is}
use Rattle.gx_law_writes.proofs.Turn.{ComesTo, HasFailed, HasFinished, HasHalted, HasLost, comes}
use Rattle.gx_law_writes.proofs.RowWalk.{Rules, goes as gone-through, own_count}

-- LEGAL MARKS
-- each of these marks, whatever comes behind them
pub legals-each : (script : Script) (steps : List Step) (e : Event) (node : Node) (earlier xs later : List Mark) → Legals (Ok script steps e node) earlier xs → EachMark (IsLegalChange script) steps e earlier xs later
legals-each script steps e node earlier [] later l = tt
legals-each script steps e node earlier (x ∷ xs) later l = (l.0.0 (xs ++ later), legals-each script steps e node (earlier ++ x ∷ []) xs later l.1)

-- LISTS
apart-behind : (xs ys : List Rid) → AreApart (xs ++ ys) → AreApart ys
apart-behind [] ys e = e
apart-behind (x ∷ xs) ys e = apart-behind xs ys e.1

pub each-behind : {A : Type 0} (P : A → Type 0) (xs ys : List A) → Each P (xs ++ ys) → Each P ys
each-behind P [] ys e = e
each-behind P (x ∷ xs) ys e = each-behind P xs ys e.1

-- where it stops it adds marks of locks
pub stop-locks : (g : Gxid) (k : Change) (last : Moved) (rid : Rid) (row : RowTurn) (stop : DidStop last g k rid row) → (locks : List Mark) × (stop.stopped.marks ≡ last.marks ++ locks) × Each IsLock locks
stop-locks g k last rid row stop = by_how stop.how
  where
    by_how : WaitsAt last g rid stop.version.gxid stop.stopped → (locks : List Mark) × (stop.stopped.marks ≡ last.marks ++ locks) × Each IsLock locks
    by_how (inl h) = (_, ap (λ (m : Moved). m.marks) h.1, (tt, tt))
    by_how (inr (inl h)) = (_, ap (λ (m : Moved). m.marks) h.1 ∙ append_assoc last.marks (_ ∷ []) (_ ∷ []), (tt, (tt, tt)))
    by_how (inr (inr h)) = (_, ap (λ (m : Moved). m.marks) h.1, (tt, tt))

module _ (script : Script) (steps : List Step) (e : Event) (pre : List Mark) (s : Seg) (g : Gxid) (k : Change) (runs : Runs script steps e pre s.node g k) (sight : Sight (marks_in steps ++ pre) s g k) where
  abbrev before : List Mark
  before = marks_in steps ++ pre

  abbrev pub IsSo : List Mark → Mark → Type 0
  IsSo earlier x = Ok script steps e s.node earlier x

  abbrev pub IsOne : Rid → Type 0
  IsOne rid = IsRowOf script steps e pre s g k runs sight rid

  abbrev pub the-rules : Rules (marks_in steps) pre s g k (IsRowOf script steps e pre s g k runs sight) (Ok script steps e s.node)
  the-rules = its-rules script steps e pre s g k runs sight

  abbrev pub Comes : Moved → List Rid → SegTurn → Type 0
  Comes m rids turn = ComesTo (marks_in steps) pre s g k (IsRowOf script steps e pre s g k runs sight) (Ok script steps e s.node) the-rules m rids turn

  lock-so : (earlier : List Mark) (x : Mark) → IsLock x → IsSo earlier x
  lock-so = lock-ok script steps e s.node

  -- whatever it comes to, its marks are legal
  module _ (m : Moved) (rids : List Rid) (turn : SegTurn) (rows : Each IsOne rids) (was : Legals IsSo pre m.marks) where
    finished-legal : HasFinished (marks_in steps) pre s g k IsOne IsSo the-rules m rids turn → Legals IsSo pre turn.marks
    finished-legal h = subst (λ (t : SegTurn). Legals IsSo pre t.marks) (sym h.is) (h.gone.legal was)

    halted-legal : HasHalted (marks_in steps) pre s g k IsOne IsSo the-rules m rids turn → Legals IsSo pre turn.marks
    halted-legal h =
        let stop = stop-locks g k h.last h.rid h.row h.stop in
        subst (λ (t : SegTurn). Legals IsSo pre t.marks) (sym h.is)
        (subst (Legals IsSo pre) (sym stop.1) (legals-append IsSo pre h.last.marks stop.0 (h.gone.legal was) (legals-locks IsSo lock-so (pre ++ h.last.marks) stop.0 stop.2)))

    failed-legal : HasFailed (marks_in steps) pre s g k IsOne IsSo the-rules m rids turn → Legals IsSo pre turn.marks
    failed-legal h =
        subst (λ (t : SegTurn). Legals IsSo pre t.marks) (sym h.is)
        (legals-append IsSo pre h.last.marks (mark.Fault g k.cid h.rid h.image ∷ []) (h.gone.legal was)
        (fault-ok script steps e pre s g k runs sight h.last h.rid h.image h.fault h.gone.inv its h.gone.left.0 h.why, tt))
      where
        its : IsOne h.rid
        its = (each-behind IsOne _ (h.rid ∷ h.rest) (subst (Each IsOne) h.split rows)).0

    lost-legal : HasLost (marks_in steps) pre s g k IsOne IsSo the-rules m rids turn → Legals IsSo pre turn.marks
    lost-legal h = subst (λ (t : SegTurn). Legals IsSo pre t.marks) (sym h.is) (h.gone.legal was)

    pub comes-legal : Comes m rids turn → Legals (Ok script steps e s.node) pre turn.marks
    comes-legal (inl h) = finished-legal h
    comes-legal (inr (inl h)) = halted-legal h
    comes-legal (inr (inr (inl h))) = failed-legal h
    comes-legal (inr (inr (inr h))) = lost-legal h

  -- the rows that it has selected of its part
  module _ (versions : s.versions ≡ writes_at s.node before) (homes : HaveHomes before) (part : List KeyedRow) (its : IsPartOf before (take sight.place before) s.node g k.cid k.table part) where
    pub selected-rows : Each IsOne (selected k.cond part)
    selected-rows =
        each_weaker (IsSelected before s versions homes g k sight part its) IsOne (λ rid a. (a.chosen, a.home, a.of, a.here)) (selected k.cond part) (part-selected before s versions homes g k sight part its)

    -- Of these it has done some, and goes on with the others.
    module _ (done rest : List Rid) (split : selected k.cond part ≡ done ++ rest) (m : Moved) (inv : Inv s before g k.cid k.table m) (free : Each (λ rid. is_processed (before ++ m.marks) g k.cid rid ≡ false) rest)
        (count : ℕ) (counted : count ≡ own_count g k.cid m.seg.versions) where
      pub rest-rows : Each IsOne rest
      rest-rows = each-behind IsOne done rest (subst (Each IsOne) split selected-rows)

      pub goes-so : Comes m rest (goes_through g k rest m count)
      goes-so =
          comes (marks_in steps) pre s g k IsOne IsSo the-rules m rest count counted inv
          (apart-behind done rest (subst AreApart split (selected-are-apart before s versions homes g k sight part its)))
          rest-rows free

      -- a row to which it comes it has chosen, and has still to do
      pub rows-to-do : (visits : List Visit) (last : Moved) (rid : Rid) (next : List Rid) → rest ≡ visited visits ++ rid ∷ next → IsPath g k m visits last → IsChosen sight.rows k rid × (is_processed (before ++ last.marks) g k.cid rid ≡ false)
      rows-to-do visits last rid next parts path =
          let apart : AreApart rest = apart-behind done rest (subst AreApart split (selected-are-apart before s versions homes g k sight part its)) in
          let gone = gone-through (marks_in steps) pre s g k IsOne IsSo the-rules visits (rid ∷ next) m last inv path (subst AreApart parts apart) (subst (Each IsOne) parts rest-rows) (subst (Each (λ q. is_processed (before ++ m.marks) g k.cid q ≡ false)) parts free) in
          ((each-behind IsOne (visited visits) (rid ∷ next) (subst (Each IsOne) parts rest-rows)).0.0, gone.left.0)

      pub goes-legal : Legals (Ok script steps e s.node) pre m.marks → Legals (Ok script steps e s.node) pre (goes_through g k rest m count).marks
      goes-legal was = comes-legal m rest (goes_through g k rest m count) rest-rows was goes-so

    -- the condition has faulted on one that it sees
    module _ (found : KeyedRow × ArithFault) (first : first_fault k.cond part ≡ Some found) where
      faulted : IsFirst k.cond part found
      faulted = first-is k.cond part found its.rising first

      on-seen : FaultsOnSeen before k.level g k.cid k.table k.cond found.0.rid (Some found.0.row) found.1
      on-seen =
          record {
            rows = sight.rows;
            sees = record { place = sight.place; taken = sight.taken; view = sight.view };
            row = found.0.row;
            shown = (part-seen before s versions homes g k sight part its found.0.rid found.0.row faulted.there).seen;
            meant = refl;
            faults = faulted.faults;
          }

      pub fault-so : (set : Option (List Assign)) (stmt : Stmt) → IsStatement k set stmt → IsFaultOf before k.level g k.cid stmt found.0.rid (Some found.0.row) found.1
      fault-so (Some assigns) stmt of = subst (λ q. IsFaultOf before k.level g k.cid q found.0.rid (Some found.0.row) found.1) (sym of) (inl on-seen)
      fault-so None stmt of = subst (λ q. IsFaultOf before k.level g k.cid q found.0.rid (Some found.0.row) found.1) (sym of) (inl on-seen)

      pub start-fault : Legals (Ok script steps e s.node) pre (fails_on s g k.cid found).marks
      start-fault = (
        (
          λ later. inl (record {
            session = runs.session;
            stmt = runs.stmt;
            level = k.level;
            fault = found.1;
            runs = runs.under_way pre later runs.work;
            faults = fault-so k.set runs.stmt runs.of;
          }),
          tt,
        ),
        tt,
      )
