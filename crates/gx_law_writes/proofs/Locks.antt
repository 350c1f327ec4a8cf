-- What marks of locks leave as it was, and the beginning of a turn at a row.
use Rattle.std.proofs.Common.{◌≡◌, ◌∙◌, ℕ, ◌≤◌, ◌<◌, List, [], ◌∷◌, ◌++◌, Option, Some, None, Bool, refl, ap, subst, ◌||◌, arith, take, length}
use Rattle.std.proofs.lemmas.List.{append-nil, append_assoc, take-append-le}
use Rattle.gx_ids.specs.declared.ids.Cid.{Cid}
use Rattle.gx_ids.specs.declared.ids.Gxid.{Gxid}
use Rattle.gx_ids.specs.declared.ids.Node.{Node}
use Rattle.gx_ids.specs.declared.ids.Table.{Table}
use Rattle.gx_ids.specs.declared.rid.Rid.{Rid}
use Rattle.gx_tree.specs.declared.value.Value.{Value}
use Rattle.gx_waits.specs.declared.claim.Claim.{Claim}
use Rattle.gx_waits.specs.declared.object.Object.{Object}
use Rattle.gx_waits.specs.declared.object.Object.TheVariants.{Relation, Transaction, Tuple}
use Rattle.gx_lemmas.proofs.Tests.{or-false}
use Rattle.gx_script.specs.declared.Script.{Script}
use Rattle.gx_store.proofs.Marks.{image_after-append, is_processed-append}
use Rattle.gx_store.specs.declared.event.Event.{Event}
use Rattle.gx_store.specs.declared.mark.Mark.{Mark}
use Rattle.gx_store.specs.declared.mark.Mark.TheVariants as mark
use Rattle.gx_store.specs.declared.run.Step.{Step}
use Rattle.gx_store.specs.Marks.{is_processed}
use Rattle.gx_store.specs.Points.{marks_in}
use Rattle.gx_store.specs.View.{image, image_after, is_shown_to}
use Rattle.gx_rules.specs.Locks.{hold_mark}
use Rattle.gx_rules.specs.Running.{is_granted, unless_end}
use Rattle.gx_rules.specs.Segments.{Seg}
use Rattle.gx_rules.specs.Slices.{Moved}
use Rattle.gx_law_order.proofs.Lists.{each_weaker}
use Rattle.gx_law_order.specs.Lists.{Each}
use Rattle.gx_law_order.proofs.SegItems.{writes_at, writes-append}
use Rattle.gx_law_order.proofs.Waiting.{freed}
use Rattle.gx_law_writes.proofs.Parts.{node-still}
use Rattle.gx_law_writes.proofs.Path.{IsLock, Legals, locks-process-none}
use Rattle.gx_law_writes.proofs.Points.{IsOfHere, Ok}
use Rattle.gx_law_writes.proofs.Undone.{alive-front}

-- IMAGES, WRITES, AND ROWS THAT ARE DONE
pub image-locks : (shown : Gxid → Cid → Bool) (table : Table) (rid : Rid) (old : Option (List Value)) (ms : List Mark) → Each IsLock ms → image_after shown table rid old ms ≡ old
image-locks shown table rid old [] e = refl
image-locks shown table rid old (mark.Write g c n t r x ∷ ms) e = absurd e.0
image-locks shown table rid old (m ∷ ms) e = image-locks shown table rid old ms e.1

pub writes-locks : (node : Node) (ms : List Mark) → Each IsLock ms → writes_at node ms ≡ []
writes-locks node [] e = refl
writes-locks node (mark.Write g c n t r x ∷ ms) e = absurd e.0
writes-locks node (m ∷ ms) e = writes-locks node ms e.1

pub writes-behind : (node : Node) (ms locks : List Mark) → Each IsLock locks → writes_at node (ms ++ locks) ≡ writes_at node ms
writes-behind node ms locks e = writes-append node ms locks ∙ ap (λ vs. writes_at node ms ++ vs) (writes-locks node locks e) ∙ append-nil (writes_at node ms)

pub processed-behind : (ms locks : List Mark) (g : Gxid) (c : Cid) (rid : Rid) → Each IsLock locks → is_processed (ms ++ locks) g c rid ≡ is_processed ms g c rid
processed-behind ms locks g c rid e = is_processed-append ms locks g c rid ∙ ap (λ b. is_processed ms g c rid || b) (locks-process-none g c rid locks e) ∙ or-false (is_processed ms g c rid)

le-of : {a b : ℕ} → a < b → a ≤ b
le-of x = omega arith

pub image-behind : (ms locks : List Mark) (g : Gxid) (c : Cid) (table : Table) (rid : Rid) (place : ℕ) → place < length ms → Each IsLock locks → image (ms ++ locks) (take place (ms ++ locks)) (Some (g, c)) table rid ≡ image ms (take place ms) (Some (g, c)) table rid
image-behind ms locks g c table rid place inside e =
    ap (λ b. image (ms ++ locks) b (Some (g, c)) table rid) (take-append-le place ms locks (le-of inside))
    ∙ image_after-append (is_shown_to (Some (g, c)) (take place ms)) table rid None ms locks
    ∙ image-locks (is_shown_to (Some (g, c)) (take place ms)) table rid _ locks e

-- WHAT IT HAS WAITED FOR IS GRANTED

by-object : (P : Moved → Type 0) (s : Seg) (g : Gxid) (wanted : Claim) → P (record { seg = freed s g wanted; marks = hold_mark s.node wanted ∷ [] }) → ((m : Moved) → P m → P (Rattle.gx_rules.specs.Slices.gives_back wanted m)) → P (is_granted s g wanted)
by-object P s g wanted p back = at-object wanted.object
  where
    at-object : (o : Object) → P (unless_end wanted o (record { seg = freed s g wanted; marks = hold_mark s.node wanted ∷ [] }))
    at-object (Transaction other) = back _ p
    at-object (Relation t) = p
    at-object (Tuple r) = p

pub granted-locks : (s : Seg) (g : Gxid) (wanted : Claim) → Each IsLock (is_granted s g wanted).marks
granted-locks s g wanted = by-object (λ (m : Moved). Each IsLock m.marks) s g wanted (tt, tt) (λ m e. Rattle.gx_law_order.proofs.Lists.each_append IsLock m.marks _ e (tt, tt))

pub granted-versions : (s : Seg) (g : Gxid) (wanted : Claim) → (is_granted s g wanted).seg.versions ≡ s.versions
granted-versions s g wanted = by-object (λ (m : Moved). m.seg.versions ≡ s.versions) s g wanted refl (λ m e. e)

-- WHERE SKIPPED ROWS STAND
here-more : (node : Node) (ms more : List Mark) (x : Mark) → IsOfHere node ms x → IsOfHere node (ms ++ more) x
here-more node ms more (mark.Skip g c r) e = λ alive. node-still ms more r node (e (alive-front ms more g alive))
here-more node ms more x e = tt

pub legals-here : (script : Script) (steps : List Step) (e : Event) (node : Node) (earlier xs : List Mark) → Legals (Ok script steps e node) earlier xs → Each (IsOfHere node (marks_in steps ++ (earlier ++ xs))) xs
legals-here script steps e node earlier [] l = tt
legals-here script steps e node earlier (x ∷ xs) l = (
  subst (λ ms. IsOfHere node ms x) (append_assoc (marks_in steps) earlier (x ∷ xs)) (here-more node (marks_in steps ++ earlier) (x ∷ xs) x l.0.1),
  each_weaker (IsOfHere node (marks_in steps ++ ((earlier ++ x ∷ []) ++ xs))) (IsOfHere node (marks_in steps ++ (earlier ++ x ∷ xs))) (λ y k. subst (λ ms. IsOfHere node (marks_in steps ++ ms) y) (append_assoc earlier (x ∷ []) xs) k) xs
      (legals-here script steps e node (earlier ++ x ∷ []) xs l.1),
)
