-- What is true of a segment's answer stays true.
use Rattle.std.proofs.Common.{◌≡◌, ◌≤◌, inr, ℕ, List, [], ◌∷◌, ◌++◌, length, Option, Some, None, Bool, true, false, refl, sym, subst, ap, ◌∙◌, if◌then◌else◌, ◌||◌, arith, ◌+◌, suc}
use Rattle.std.proofs.Math.Seq.{take-append_seam}
use Rattle.std.proofs.lemmas.Bool.{or_left}
use Rattle.std.specs.Option.{option_or}
use Rattle.std.specs.Prelude.{filter, take, slice_get}
use Rattle.std.proofs.lemmas.List.{append_assoc}
use Rattle.gx_lemmas.proofs.Lists.{get-append}
use Rattle.gx_ids.specs.declared.ids.Cid.{Cid}
use Rattle.gx_ids.specs.declared.ids.Gxid.{Gxid}
use Rattle.gx_ids.specs.declared.ids.Node.{Node}
use Rattle.gx_ids.specs.declared.ids.Table.{Table}
use Rattle.gx_ids.specs.declared.rid.Rid.{Rid}
use Rattle.gx_tree.specs.declared.part.Part.{Part}
use Rattle.gx_tree.specs.declared.query.Query.{Query}
use Rattle.gx_tree.specs.declared.row.KeyedRow.{KeyedRow}
use Rattle.gx_tree.specs.declared.slice.Slice.TheVariants as slice
use Rattle.gx_tree.specs.declared.stmt.Level.{Level}
use Rattle.gx_tree.specs.declared.value.Value.{Value}
use Rattle.gx_meaning.specs.declared.fault.ArithFault.{ArithFault}
use Rattle.gx_meaning.specs.Answer.{keeps, part_of}
use Rattle.gx_msg.specs.declared.reply.Reply.{Reply}
use Rattle.gx_msg.specs.declared.reply.Reply.TheVariants as reply
use Rattle.gx_store.specs.declared.mark.Mark.{Mark}
use Rattle.gx_store.specs.declared.mark.Mark.TheVariants as mark
use Rattle.gx_store.specs.Commands.{IsSnapshotAt}
use Rattle.gx_store.specs.Faults.{FaultsOnSeen}
use Rattle.gx_store.specs.Marks.{is_aborted, node_of}
use Rattle.gx_store.specs.View.{image, image_after, is_shown_to}
use Rattle.gx_store.proofs.Marks.{image_after-append, is_aborted-append}
use Rattle.gx_rules.specs.Locks.{hold_mark}
use Rattle.gx_rules.specs.Slices.{cause_of, first_fault}
use Rattle.gx_waits.specs.declared.claim.Claim.{Claim}
use Rattle.gx_law_order.proofs.Lists.{get_last}
use Rattle.gx_law_order.specs.Lists.{Each}
use Rattle.gx_law_order.proofs.Commits.{take-kept}
use Rattle.gx_law_writes.proofs.Turns.{NoWrite}
use Rattle.gx_law_writes.specs.Parts.{IsPartOf, is_home}
use Rattle.gx_law_writes.proofs.Parts.{node-append}
use Rattle.gx_law_writes.proofs.Shown.{IsFirst, faults-on-none, first-is}
use Rattle.gx_law_writes.proofs.Views.{view-is, view_rows}
use Rattle.gx_law_answers.specs.Parts.{SaysItsPart}
use Rattle.gx_law_answers.specs.Truth.{IsTruePart, IsTruth}

-- ---- marks that write nothing
image-alone : (shown : Gxid → Cid → Bool) (table : Table) (rid : Rid) (start : Option (List Value)) (ys : List Mark) → Each NoWrite ys → image_after shown table rid start ys ≡ start
image-alone shown table rid start [] e = refl
image-alone shown table rid start (mark.Write g c n t r x ∷ ys) e = absurd e.0
image-alone shown table rid start (m ∷ ys) e = image-alone shown table rid start ys e.1

pub image-more : (shown : Gxid → Cid → Bool) (table : Table) (rid : Rid) (start : Option (List Value)) (xs ys : List Mark) → Each NoWrite ys → image_after shown table rid start (xs ++ ys) ≡ image_after shown table rid start xs
image-more shown table rid start xs ys e = image_after-append shown table rid start xs ys ∙ image-alone shown table rid (image_after shown table rid start xs) ys e

node-alone : (ys : List Mark) (rid : Rid) → Each NoWrite ys → node_of ys rid ≡ None
node-alone [] rid e = refl
node-alone (mark.Write g c n u q image ∷ ys) rid e = absurd e.0
node-alone (m ∷ ys) rid e = node-alone ys rid e.1

or-none : (o : Option Node) → option_or o None ≡ o
or-none None = refl
or-none (Some n) = refl

node-more : (xs ys : List Mark) (rid : Rid) → Each NoWrite ys → node_of (xs ++ ys) rid ≡ node_of xs rid
node-more xs ys rid e = node-append xs ys rid ∙ ap (option_or (node_of xs rid)) (node-alone ys rid e) ∙ or-none (node_of xs rid)

pub snapshot-more : (ms extra : List Mark) (level : Level) (g : Gxid) (c : Cid) (place : ℕ) → IsSnapshotAt ms level g c place → IsSnapshotAt (ms ++ extra) level g c place
snapshot-more ms extra level g c place t = record { d = t.d; snapshot = t.snapshot; taken = get-append ms extra place _ t.taken; serves = t.serves }

module _ (ms extra : List Mark) (quiet : Each NoWrite extra) (level : Level) (g : Gxid) (c : Cid) (place : ℕ) (t : IsSnapshotAt ms level g c place) where
  abbrev all : List Mark
  all = ms ++ extra

  before-is : take place (ms ++ extra) ≡ take place ms
  before-is = take-kept ms extra place _ t.taken

  image-is : (table : Table) (rid : Rid) → image (ms ++ extra) (take place (ms ++ extra)) (Some (g, c)) table rid ≡ image ms (take place ms) (Some (g, c)) table rid
  image-is table rid =
      image-more (is_shown_to (Some (g, c)) (take place (ms ++ extra))) table rid None ms extra quiet
      ∙ ap (λ b. image_after (is_shown_to (Some (g, c)) b) table rid None ms) before-is

  pub part-more : (node : Node) (table : Table) (rows : List KeyedRow) → IsPartOf ms (take place ms) node g c table rows → IsPartOf (ms ++ extra) (take place (ms ++ extra)) node g c table rows
  part-more node table rows p =
      record {
        rising = p.rising;
        images = λ rid.
            p.images rid
            ∙ ap (λ o. if is_home o node then image ms (take place ms) (Some (g, c)) table rid else None) (sym (node-more ms extra rid quiet))
            ∙ ap (λ v. if is_home (node_of (ms ++ extra) rid) node then v else None) (sym (image-is table rid));
      }

  pub says-more : (node : Node) (query : Query) (part : Part) → SaysItsPart ms (take place ms) node g c query part → SaysItsPart (ms ++ extra) (take place (ms ++ extra)) node g c query part
  says-more node query part s = record { rows = s.rows; of = part-more node query.table s.rows s.of; whole = s.whole; said = s.said }

pub true-more : (ms extra : List Mark) → Each NoWrite extra → (node : Node) (level : Level) (g : Gxid) (c : Cid) (query : Query) (part : Part) → IsTruePart ms node level g c query part → IsTruePart (ms ++ extra) node level g c query part
true-more ms extra quiet node level g c query part t =
    record { place = t.place; taken = snapshot-more ms extra level g c t.place t.taken; says = says-more ms extra quiet level g c t.place t.taken node query part t.says }

-- ---- the step that answers
abbrev pub reply_of : Cid → Bool → Query → List KeyedRow → Option (KeyedRow × ArithFault) → Reply
reply_of c wrote query rows None = reply.Done c wrote 0 (part_of query (filter (keeps query.cond) rows))
reply_of c wrote query rows (Some fault) = reply.Failed c (cause_of fault.1)

abbrev pub marks_of : Gxid → Cid → Option (KeyedRow × ArithFault) → List Mark
marks_of g c None = []
marks_of g c (Some fault) = mark.Fault g c fault.0.rid (Some fault.0.row) ∷ []

pub seen-fault : (ms : List Mark) (node : Node) (level : Level) (g : Gxid) (c : Cid) (place : ℕ) (t : IsSnapshotAt ms level g c place) (query : Query) (rows : List KeyedRow) (p : IsPartOf ms (take place ms) node g c query.table rows) (found : KeyedRow × ArithFault) → first_fault query.cond rows ≡ Some found → FaultsOnSeen ms level g c query.table query.cond found.0.rid (Some found.0.row) found.1
seen-fault ms node level g c place t query rows p found e =
    record {
      rows = view_rows ms (take place ms) (Some (g, c)) query.table;
      sees = record { place = place; taken = t; view = view-is ms (take place ms) (Some (g, c)) query.table };
      row = found.0.row;
      shown = (view-is ms (take place ms) (Some (g, c)) query.table).images found.0.rid ∙ by_home (is_home (node_of ms found.0.rid) node) (sym (p.images found.0.rid) ∙ first.there);
      meant = refl;
      faults = first.faults;
    }
  where
    first : IsFirst query.cond rows found
    first = first-is query.cond rows found p.rising e

    by_home : (b : Bool) → (if b then image ms (take place ms) (Some (g, c)) query.table found.0.rid else None) ≡ Some found.0.row → image ms (take place ms) (Some (g, c)) query.table found.0.rid ≡ Some found.0.row
    by_home true q = q
    by_home false q = absurd (cc)

-- behind the mark of its lock
pub select-truth : (ms sent : List Mark) → Each NoWrite sent → (node : Node) (level : Level) (g : Gxid) (c : Cid) → is_aborted ms g ≡ false → (place : ℕ) (t : IsSnapshotAt ms level g c place) (query : Query) (rows : List KeyedRow) → IsPartOf ms (take place ms) node g c query.table rows → (wrote : Bool) (at : Node) (wanted : Claim) (o : Option (KeyedRow × ArithFault)) → first_fault query.cond rows ≡ o → IsTruth ms (ms ++ (hold_mark at wanted ∷ marks_of g c o ++ sent)) node level g c (slice.Select query) (reply_of c wrote query rows o)
select-truth ms sent quiet node level g c unaborted place t query rows p wrote at wanted None e =
    inr (true-more ms (hold_mark at wanted ∷ sent) (tt, quiet) node level g c query _ (record { place = place; taken = t; says = record { rows = rows; of = p; whole = faults-on-none query.cond rows e; said = refl } }))
select-truth ms sent quiet node level g c unaborted place t query rows p wrote at wanted (Some found) e =
    inr (record {
      fault = record {
        place = length held;
        behind = le-more (length held) (length ms) (length-push ms (hold_mark at wanted));
        rid = found.0.rid;
        image = Some found.0.row;
        fault = found.1;
        noted = subst (λ b. slice_get b (length held) ≡ Some fault) seam (get_last held sent fault);
        unaborted = subst (λ b. is_aborted (take (length held) b) g ≡ false) seam (ap (λ b. is_aborted b g) (take-append_seam held (fault ∷ sent)) ∙ held-unaborted);
        faults = subst (λ b. FaultsOnSeen (take (length held) b) level g c query.table query.cond found.0.rid (Some found.0.row) found.1) seam
            (subst (λ b. FaultsOnSeen b level g c query.table query.cond found.0.rid (Some found.0.row) found.1) (sym (take-append_seam held (fault ∷ sent)))
            (seen-fault held node level g c place (snapshot-more ms (hold_mark at wanted ∷ []) level g c place t) query rows (part-more ms (hold_mark at wanted ∷ []) (tt, tt) level g c place t node query.table rows p) found e));
        is = refl;
      };
      behind_lock = length-push ms (hold_mark at wanted);
    })
  where
    held : List Mark
    held = ms ++ hold_mark at wanted ∷ []

    fault : Mark
    fault = mark.Fault g c found.0.rid (Some found.0.row)

    seam : held ++ fault ∷ sent ≡ ms ++ (hold_mark at wanted ∷ fault ∷ sent)
    seam = append_assoc ms (hold_mark at wanted ∷ []) (fault ∷ sent)

    le-more : (a b : ℕ) → a ≡ b + 1 → b ≤ a
    le-more a b q = omega (arith, q)

    length-push : (xs : List Mark) (x : Mark) → length (xs ++ x ∷ []) ≡ length xs + 1
    length-push [] x = refl
    length-push (y ∷ xs) x = next _ _ (length-push xs x)
      where
        next : (a b : ℕ) → a ≡ b + 1 → suc a ≡ suc b + 1
        next a b e = omega (arith, e)

    or-none : (a : Bool) → a ≡ false → (a || false) ≡ false
    or-none a e = grind arith

    held-unaborted : is_aborted held g ≡ false
    held-unaborted = is_aborted-append ms (hold_mark at wanted ∷ []) g ∙ or-none (is_aborted ms g) unaborted

-- who has aborted has aborted
pub aborted-more : (ms extra : List Mark) (g : Gxid) → is_aborted ms g ≡ true → is_aborted (ms ++ extra) g ≡ true
aborted-more ms extra g e = is_aborted-append ms extra g ∙ or_left (is_aborted ms g) (is_aborted extra g) e
