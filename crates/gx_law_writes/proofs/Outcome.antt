-- What a turn of a command under way comes to: each of its marks is legal, where it waits the rows that are done and left are known,
-- and what it says is so.
use Rattle.std.proofs.Common.{◌≡◌, ◌∙◌, ◌⊎◌, inl, inr, ℕ, ◌<◌, ◌≤◌, List, [], ◌∷◌, ◌++◌, Option, Some, None, Bool, true, false, Ok as Good, refl, ap, sym, subst, if◌then◌else◌, arith, take}
use Rattle.std.proofs.lemmas.List.{append-nil, take-append-le}
use Rattle.std.specs.Prelude.{filter, map}
use Rattle.gx_ids.specs.declared.ids.Gxid.{Gxid}
use Rattle.gx_ids.specs.declared.rid.Rid.{Rid}
use Rattle.gx_tree.specs.declared.cond.Cond.{Cond}
use Rattle.gx_tree.specs.declared.row.KeyedRow.{KeyedRow}
use Rattle.gx_tree.specs.declared.stmt.Assign.{Assign}
use Rattle.gx_tree.specs.declared.value.Value.{Value}
use Rattle.gx_meaning.specs.Answer.{keeps}
use Rattle.gx_meaning.specs.declared.fault.ArithFault.{ArithFault}
use Rattle.gx_msg.specs.declared.reply.Cause.TheVariants.{Serialization}
use Rattle.gx_msg.specs.declared.reply.Reply.{Reply}
use Rattle.gx_msg.specs.declared.reply.Reply.TheVariants as reply
use Rattle.gx_tree.specs.declared.part.Part.TheVariants.{Rows}
use Rattle.gx_script.specs.declared.Script.{Script}
use Rattle.gx_lemmas.proofs.Lists.{get-append, place-below}
use Rattle.gx_lemmas.proofs.Options.{some-same}
use Rattle.gx_store.proofs.Marks.{image_after-append}
use Rattle.gx_store.proofs.Rows.{same_rid}
use Rattle.gx_store.specs.declared.event.Event.{Event}
use Rattle.gx_store.specs.declared.mark.Mark.{Mark}
use Rattle.gx_store.specs.declared.mark.Mark.TheVariants as mark
use Rattle.gx_store.specs.declared.run.Step.{Step}
use Rattle.gx_store.specs.Commands.{IsSnapshotAt, condition_on}
use Rattle.gx_store.specs.Faults.{IsFaultOf}
use Rattle.gx_store.specs.Marks.{is_aborted, is_processed, is_same_rid}
use Rattle.gx_store.specs.Points.{marks_in}
use Rattle.gx_store.specs.Rows.{row_at}
use Rattle.gx_store.specs.View.{image, is_shown_to}
use Rattle.gx_rules.specs.Changes.{Change, change_of, goes_through, is_done, selected}
use Rattle.gx_rules.specs.Segments.{Local, Seg, SegTurn, local_of}
use Rattle.gx_rules.specs.Slices.{Moved, answers, cause_of, fails_on, first_fault, has_written, starts_from}
use Rattle.gx_law_order.specs.Lists.{Each}
use Rattle.gx_law_order.proofs.SegItems.{writes_at}
use Rattle.gx_law_writes.specs.Parts.{IsPartOf}
use Rattle.gx_law_writes.specs.Says.{SaysDone, SaysFault, SaysOvertaken, changing_stmt, stmt_of_change}
use Rattle.gx_law_writes.proofs.Chosen.{Sight, image-work, not-own}
use Rattle.gx_law_writes.proofs.Comes.{Comes, fault-so, goes-legal, goes-so, rest-rows, start-fault, the-rules}
use Rattle.gx_law_writes.proofs.Frames.{Inv, IsWork, local-own}
use Rattle.gx_law_writes.proofs.Half.{AreDone, AreLeft, HasLeft, HasPart, IsHalf, IsHalfDone, finished-done, halted-left}
use Rattle.gx_law_writes.proofs.LegalChange.{IsStatement, faults-so, overtaken-so}
use Rattle.gx_law_writes.proofs.Parts.{part-later}
use Rattle.gx_law_writes.proofs.Path.{Legals}
use Rattle.gx_law_writes.proofs.Points.{IsRowOf, Ok, Runs}
use Rattle.gx_law_writes.proofs.SelectedRows.{HaveHomes}
use Rattle.gx_law_writes.proofs.Sound.{aborted-still}
use Rattle.gx_law_writes.proofs.Turn.{HasFinished}
use Rattle.gx_law_writes.proofs.Undone.{count-is}
use Rattle.gx_law_writes.proofs.RowWalk.{own_count}

pub is-statement : (k : Change) → IsStatement k k.set (stmt_of_change k)
is-statement k = by_set k.set
  where
    by_set : (set : Option (List Assign)) → IsStatement k set (changing_stmt k.table k.cond set)
    by_set (Some assigns) = refl
    by_set None = refl

-- what holds of all rows that are selected holds of one that is found, and on which the condition is true
keeps-it : (cond : Option Cond) (row : KeyedRow) → condition_on cond row.row ≡ Good true → keeps cond row ≡ true
keeps-it None row e = refl
keeps-it (Some c) row e = rw e refl

pub selected-has : (P : Rid → Type 0) (cond : Option Cond) (rows : List KeyedRow) → Each P (selected cond rows) → (rid : Rid) (row : List Value) → row_at rows rid ≡ Some row → condition_on cond row ≡ Good true → P rid
selected-has P cond [] e rid row f c = absurd (cc)
selected-has P cond (r ∷ rs) e rid row f c = by_rid (is_same_rid r.rid rid) refl f (λ z. selected-has P cond rs (later (keeps cond r) e) rid row z c)
  where
    later : (b : Bool) → Each P (map (λ (x : KeyedRow). x.rid) (if b then r ∷ filter (keeps cond) rs else filter (keeps cond) rs)) → Each P (selected cond rs)
    later true z = z.1
    later false z = z

    first : (b : Bool) → b ≡ true → Each P (map (λ (x : KeyedRow). x.rid) (if b then r ∷ filter (keeps cond) rs else filter (keeps cond) rs)) → P r.rid
    first true q z = z.0
    first false q z = absurd (cc)

    by_rid : (b : Bool) → is_same_rid r.rid rid ≡ b → (if b then Some r.row else row_at rs rid) ≡ Some row → (row_at rs rid ≡ Some row → P rid) → P rid
    by_rid true q z more = subst P (same_rid r.rid rid q) (first (keeps cond r) (keeps-it cond r (ap (condition_on cond) (some-same r.row row z) ∙ c)) e)
    by_rid false q z more = more z

le-of : {a b : ℕ} → a < b → a ≤ b
le-of x = omega arith

module _ (script : Script) (steps : List Step) (e : Event) (pre : List Mark) (s : Seg) (g : Gxid) (k : Change) (runs : Runs script steps e pre s.node g k) (sight : Sight (marks_in steps ++ pre) s g k) (changes : change_of k.cid k.level (Some k.snapshot) k.slice ≡ Some k)
    (versions : s.versions ≡ writes_at s.node (marks_in steps ++ pre)) (homes : HaveHomes (marks_in steps ++ pre)) where
  abbrev before : List Mark
  before = marks_in steps ++ pre

  abbrev pub Tells : SegTurn → Type 0
  Tells t = SaysDone (marks_in steps ++ pre) s.node g k t ⊎ SaysFault (marks_in steps ++ pre) g k t ⊎ SaysOvertaken (marks_in steps ++ pre) g k t ⊎ (t.outs ≡ [])

  pub record Outcome (t : SegTurn) : Type 0 where
    pub legal : Legals (Ok script steps e s.node) pre t.marks
    pub half : IsHalf ((marks_in steps ++ pre) ++ t.marks) t.seg.versions s.node g (local_of t.seg g).suspended
    pub says : Tells t

  -- behind the turn each row stands at one node, and the marks are the command's work
  abbrev pub Given : SegTurn → Type 0
  Given t = HaveHomes ((marks_in steps ++ pre) ++ t.marks) × Each (IsWork s.node g k.cid) t.marks

  -- nothing waits
  none-waits : (ms : List Mark) (t : SegTurn) → (local_of t.seg g).suspended ≡ None → IsHalf ms t.seg.versions s.node g (local_of t.seg g).suspended
  none-waits ms t none = subst (IsHalf ms t.seg.versions s.node g) (sym none) tt

  answered-half : (m : Moved) (marks : List Mark) (r : Reply) → (local_of m.seg g).suspended ≡ None → IsHalf ((marks_in steps ++ pre) ++ (answers m.seg g k.cid marks r).marks) (answers m.seg g k.cid marks r).seg.versions s.node g (local_of (answers m.seg g k.cid marks r).seg g).suspended
  answered-half m marks r alone = none-waits (before ++ marks) (answers m.seg g k.cid marks r) (ap (λ (l : Local). l.suspended) (local-own m.seg g (record (local_of m.seg g) { last = k.cid.0; answer = Some r })) ∙ alone)

  -- THE PART THAT IT SEES
  module _ (m : Moved) (i : Inv s (marks_in steps ++ pre) g k.cid k.table m) (place : ℕ) (at : place ≡ sight.place) (inside : place < Rattle.std.specs.Prelude.length (marks_in steps ++ pre)) (more : List Mark) (work : Each (IsWork s.node g k.cid) more) where
    pub view-stays : (rid : Rid) → image (before ++ more) (take place (before ++ more)) (Some (g, k.cid)) k.table rid ≡ image before (take place before) (Some (g, k.cid)) k.table rid
    view-stays rid =
        ap (λ ms. image (before ++ more) ms (Some (g, k.cid)) k.table rid) (take-append-le place before more (le-of inside))
        ∙ image_after-append (is_shown_to (Some (g, k.cid)) (take place before)) k.table rid None before more
        ∙ image-work (is_shown_to (Some (g, k.cid)) (take place before)) s.node g k.cid k.table rid _ more
        (subst (λ p. is_shown_to (Some (g, k.cid)) (take p before) g k.cid ≡ false) (sym at) (not-own before s g k sight m i)) work

  module _ (has : HasPart (marks_in steps ++ pre) s.node g k) (at : has.served.place ≡ sight.place) where
    its : IsPartOf before (take sight.place before) s.node g k.cid k.table has.part
    its = subst (λ p. IsPartOf before (take p before) s.node g k.cid k.table has.part) at has.its

    inside : has.served.place < Rattle.std.specs.Prelude.length before
    inside = place-below before has.served.place _ has.served.taken

    taken-at : (more : List Mark) → IsSnapshotAt (before ++ more) k.level g k.cid has.served.place
    taken-at more = record { d = has.served.d; snapshot = k.snapshot; taken = get-append before more has.served.place _ has.served.taken; serves = has.served.serves }

    module _ (m : Moved) (i : Inv s (marks_in steps ++ pre) g k.cid k.table m) (more : List Mark) (work : Each (IsWork s.node g k.cid) more) (all : HaveHomes ((marks_in steps ++ pre) ++ more)) where
      part-now : IsPartOf (before ++ more) (take has.served.place (before ++ more)) s.node g k.cid k.table has.part
      part-now =
          part-later before more all.nodes s.node k.level g k.cid has.served.place (record { d = has.served.d; snapshot = k.snapshot; taken = has.served.taken; serves = has.served.serves }) k.table
          (λ rid only. view-stays m i has.served.place at inside more work rid) has.part has.its

      abbrev has-now : HasPart (before ++ more) s.node g k
      has-now =
          record {
            served = record { place = has.served.place; d = has.served.d; taken = get-append before more has.served.place _ has.served.taken; serves = has.served.serves };
            part = has.part;
            its = part-now;
            whole = has.whole;
          }

    -- Of the rows that it has selected it has done some, and goes on with the others.
    module _ (done rest : List Rid) (split : selected k.cond has.part ≡ done ++ rest) (m : Moved) (inv : Inv s (marks_in steps ++ pre) g k.cid k.table m) (ready : AreDone ((marks_in steps ++ pre) ++ m.marks) g k done) (free : AreLeft ((marks_in steps ++ pre) ++ m.marks) g k rest)
        (count : ℕ) (counted : count ≡ own_count g k.cid m.seg.versions) where
      abbrev Chosen : Rid → Type 0
      Chosen rid = IsRowOf script steps e pre s g k runs sight rid

      abbrev rules : Rattle.gx_law_writes.proofs.RowWalk.Rules (marks_in steps) pre s g k (IsRowOf script steps e pre s g k runs sight) (Ok script steps e s.node)
      rules = the-rules script steps e pre s g k runs sight

      abbrev turn : SegTurn
      turn = goes_through g k rest m count

      finished : (h : HasFinished (marks_in steps) pre s g k (IsRowOf script steps e pre s g k runs sight) (Ok script steps e s.node) (the-rules script steps e pre s g k runs sight) m rest turn) → Given (is_done h.last g k.cid (own_count g k.cid h.last.seg.versions)) → SaysDone (marks_in steps ++ pre) s.node g k (is_done h.last g k.cid (own_count g k.cid h.last.seg.versions))
      finished h given =
          record {
            wrote = has_written (local_of h.last.seg g).phase;
            count = own_count g k.cid h.last.seg.versions;
            outs = refl;
            done = record {
              place = has.served.place;
              taken = taken-at h.last.marks;
              rows = has.part;
              of = part-now m inv h.last.marks given.1 given.0;
              whole = has.whole;
              each = λ rid row found true_on. selected-has (λ q. is_processed (before ++ h.last.marks) g k.cid q ≡ true) k.cond has.part all-done rid row found true_on;
              counted = ap (own_count g k.cid) h.gone.inv.versions ∙ count-is s.node g k.cid (before ++ h.last.marks);
            };
          }
        where
          all-done : Each (λ q. is_processed (before ++ h.last.marks) g k.cid q ≡ true) (selected k.cond has.part)
          all-done =
              subst (Each (λ q. is_processed (before ++ h.last.marks) g k.cid q ≡ true)) (sym split)
              (subst (λ (t : SegTurn). AreDone (before ++ t.marks) g k (done ++ rest)) h.is
              (finished-done (marks_in steps) pre s g k Chosen (Ok script steps e s.node) rules m rest turn done ready h))

      halted : HasLeft (marks_in steps) pre s g k (IsRowOf script steps e pre s g k runs sight) (Ok script steps e s.node) (the-rules script steps e pre s g k runs sight) m rest turn done → Given turn → IsHalf ((marks_in steps ++ pre) ++ turn.marks) turn.seg.versions s.node g (local_of turn.seg g).suspended
      halted l given = subst (IsHalf (before ++ turn.marks) turn.seg.versions s.node g) (sym l.suspended) (λ q is alive. subst (λ (z : Change). IsHalfDone (before ++ turn.marks) turn.seg.versions s.node g z (l.rid ∷ l.rest) (own_count g k.cid turn.seg.versions)) (some-same k q (sym changes ∙ is)) half)
        where
          half : IsHalfDone (before ++ turn.marks) turn.seg.versions s.node g k (l.rid ∷ l.rest) (own_count g k.cid turn.seg.versions)
          half = record { has = has-now m inv turn.marks given.1 given.0; done = l.now; split = split ∙ l.split; ready = l.ready; free = l.free; counted = refl }

      row-of : (visited : List Rid) (rid : Rid) (rests : List Rid) → rest ≡ visited ++ rid ∷ rests → IsRowOf script steps e pre s g k runs sight rid
      row-of visited rid rests q =
          (Rattle.gx_law_writes.proofs.Comes.each-behind Chosen visited (rid ∷ rests)
          (subst (Each Chosen) q (rest-rows script steps e pre s g k runs sight versions homes has.part its done rest split m inv free count counted))).0

      abbrev Ends : SegTurn → Type 0
      Ends t = IsHalf (before ++ t.marks) t.seg.versions s.node g (local_of t.seg g).suspended × Tells t

      ends : Comes script steps e pre s g k runs sight m rest turn → Given turn → IsHalf ((marks_in steps ++ pre) ++ turn.marks) turn.seg.versions s.node g (local_of turn.seg g).suspended × Tells turn
      ends (inl h) given =
          subst (λ t. Ends t) (sym h.is) (
            answered-half h.last h.last.marks (reply.Done k.cid (has_written (local_of h.last.seg g).phase) (own_count g k.cid h.last.seg.versions) (Rows [])) h.gone.inv.alone,
            inl (finished h (subst (λ t. Given t) h.is given)),
          )
      ends (inr (inl h)) given = (
        halted (halted-left (marks_in steps) pre s g k Chosen (Ok script steps e s.node) rules m rest turn done ready h) given,
        inr (inr (inr (ap (λ (t : SegTurn). t.outs) h.is))),
      )
      ends (inr (inr (inl h))) given =
          subst (λ t. Ends t) (sym h.is) (
            answered-half h.last (h.last.marks ++ mark.Fault g k.cid h.rid h.image ∷ []) (reply.Failed k.cid (cause_of h.fault)) h.gone.inv.alone,
            inr (inl (record {
              earlier = h.last.marks;
              rid = h.rid;
              image = h.image;
              fault = h.fault;
              noted = refl;
              unaborted = aborted-still s.node g g k.cid before h.last.marks h.gone.inv.work ∙ sight.alive;
              faults = let row = row-of _ h.rid h.rest h.split in faults-so before s g k sight h.last h.gone.inv h.rid row.0 row.1 h.gone.left.0 script k.set (stmt_of_change k) h.image h.fault refl (is-statement k) h.why;
              outs = refl;
            })),
          )
      ends (inr (inr (inr h))) given =
          subst (λ t. Ends t) (sym h.is) (
            answered-half h.last h.last.marks (reply.Failed k.cid (Serialization h.rid h.writer)) h.gone.inv.alone,
            inr (inr (inl (record {
              isolation = h.why.isolation;
              rid = h.rid;
              writer = h.writer;
              rows = let row = row-of _ h.rid h.rest h.split in overtaken-so before s g k sight h.last h.gone.inv h.rid row.0 row.1 h.gone.left.0 h.writer h.why;
              outs = refl;
            }))),
          )

      pub goes-out : Legals (Ok script steps e s.node) pre m.marks → Given (goes_through g k rest m count) → Outcome (goes_through g k rest m count)
      goes-out was given =
          let out = ends (goes-so script steps e pre s g k runs sight versions homes has.part its done rest split m inv free count counted) given in
          record { legal = goes-legal script steps e pre s g k runs sight versions homes has.part its done rest split m inv free count counted was; half = out.0; says = out.1 }

  -- the condition has faulted before any row was changed
  module _ (part : List KeyedRow) (its : IsPartOf (marks_in steps ++ pre) (take sight.place (marks_in steps ++ pre)) s.node g k.cid k.table part) (found : KeyedRow × ArithFault) (first : first_fault k.cond part ≡ Some found) (alone : (local_of s g).suspended ≡ None) where
    pub fault-out : Outcome (fails_on s g k.cid found)
    fault-out =
        record {
          legal = start-fault script steps e pre s g k runs sight versions homes part its found first;
          half = answered-half (starts_from s) (mark.Fault g k.cid found.0.rid (Some found.0.row) ∷ []) (reply.Failed k.cid (cause_of found.1)) alone;
          says = inr (inl (record {
            earlier = [];
            rid = found.0.rid;
            image = Some found.0.row;
            fault = found.1;
            noted = refl;
            unaborted = subst (λ ms. is_aborted ms g ≡ false) (sym (append-nil before)) sight.alive;
            faults = subst (λ ms. IsFaultOf ms k.level g k.cid (stmt_of_change k) found.0.rid (Some found.0.row) found.1) (sym (append-nil before))
                (fault-so script steps e pre s g k runs sight versions homes part its found first k.set (stmt_of_change k) (is-statement k));
            outs = refl;
          }));
        }
