-- What the counts and tests say of joined lists of marks.
use Rattle.std.proofs.Common.{◌≡◌, ℕ, ◌+◌, ◌==◌, Bool, true, false, cond, ◌&&◌, ◌||◌, List, [], ◌∷◌, ◌++◌, refl, ap, ◌∙◌, arith, Option, Some}
use Rattle.gx_ids.specs.declared.ids.Gxid.{Gxid}
use Rattle.gx_ids.specs.declared.ids.Cid.{Cid}
use Rattle.gx_ids.specs.declared.ids.Table.{Table}
use Rattle.gx_ids.specs.declared.ids.SessionId.{SessionId}
use Rattle.gx_ids.specs.declared.rid.Rid.{Rid}
use Rattle.gx_tree.specs.declared.value.Value.{Value}
use Rattle.gx_store.specs.declared.mark.Mark.{Mark}
use Rattle.gx_store.specs.declared.mark.Mark.TheVariants.{Start, Snap, Write, Skip, Commit, Abort, Answer}
use Rattle.gx_store.specs.Marks.{is_committed, is_aborted, is_ended, is_snapped, has_snapshot, is_written, is_processed, is_command_of, is_same_session, is_same_gxid, is_same_rid, answer_count, started_after, is_begun_after}
use Rattle.gx_store.specs.View.{image_after}

or_assoc : (a b c : Bool) → (a || (b || c)) ≡ ((a || b) || c)
or_assoc true b c = refl
or_assoc false b c = refl

pub is_committed-append : (xs ys : List Mark) (g : Gxid) → is_committed (xs ++ ys) g ≡ (is_committed xs g || is_committed ys g)
is_committed-append [] ys g = refl
is_committed-append (Commit h ∷ xs) ys g = ap (λ b. is_same_gxid h g || b) (is_committed-append xs ys g) ∙ or_assoc (is_same_gxid h g) (is_committed xs g) (is_committed ys g)
is_committed-append (_ ∷ xs) ys g = is_committed-append xs ys g

pub is_aborted-append : (xs ys : List Mark) (g : Gxid) → is_aborted (xs ++ ys) g ≡ (is_aborted xs g || is_aborted ys g)
is_aborted-append [] ys g = refl
is_aborted-append (Abort h ∷ xs) ys g = ap (λ b. is_same_gxid h g || b) (is_aborted-append xs ys g) ∙ or_assoc (is_same_gxid h g) (is_aborted xs g) (is_aborted ys g)
is_aborted-append (_ ∷ xs) ys g = is_aborted-append xs ys g

or_swap : (a b c d : Bool) → ((a || b) || (c || d)) ≡ ((a || c) || (b || d))
or_swap true b c d = refl
or_swap false true true d = refl
or_swap false true false d = refl
or_swap false false c d = refl

pub is_ended-append : (xs ys : List Mark) (g : Gxid) → is_ended (xs ++ ys) g ≡ (is_ended xs g || is_ended ys g)
is_ended-append xs ys g = rw (is_committed-append xs ys g, is_aborted-append xs ys g) (or_swap (is_committed xs g) (is_committed ys g) (is_aborted xs g) (is_aborted ys g))

pub has_snapshot-append : (xs ys : List Mark) (g : Gxid) → has_snapshot (xs ++ ys) g ≡ (has_snapshot xs g || has_snapshot ys g)
has_snapshot-append [] ys g = refl
has_snapshot-append (Snap h d s ∷ xs) ys g = ap (λ b. is_same_gxid h g || b) (has_snapshot-append xs ys g) ∙ or_assoc (is_same_gxid h g) (has_snapshot xs g) (has_snapshot ys g)
has_snapshot-append (_ ∷ xs) ys g = has_snapshot-append xs ys g

pub is_begun_after-append : (session : SessionId) (begun : Bool) (xs ys : List Mark) → is_begun_after session begun (xs ++ ys) ≡ is_begun_after session (is_begun_after session begun xs) ys
is_begun_after-append session begun [] ys = refl
is_begun_after-append session begun (Start g s ∷ xs) ys = is_begun_after-append session (is_same_session s session || begun) xs ys
is_begun_after-append session begun (Answer s n a ∷ xs) ys = is_begun_after-append session (cond (is_same_session s session) false begun) xs ys
is_begun_after-append session begun (_ ∷ xs) ys = is_begun_after-append session begun xs ys

pub is_snapped-append : (xs ys : List Mark) (g : Gxid) (c : Cid) → is_snapped (xs ++ ys) g c ≡ (is_snapped xs g c || is_snapped ys g c)
is_snapped-append [] ys g c = refl
is_snapped-append (Snap h d s ∷ xs) ys g c =
    ap (λ b. is_command_of g c h d || b) (is_snapped-append xs ys g c) ∙ or_assoc (is_command_of g c h d) (is_snapped xs g c) (is_snapped ys g c)
is_snapped-append (_ ∷ xs) ys g c = is_snapped-append xs ys g c

pub is_written-append : (xs ys : List Mark) (rid : Rid) → is_written (xs ++ ys) rid ≡ (is_written xs rid || is_written ys rid)
is_written-append [] ys rid = refl
is_written-append (Write g c node t r image ∷ xs) ys rid = ap (λ b. is_same_rid r rid || b) (is_written-append xs ys rid) ∙ or_assoc (is_same_rid r rid) (is_written xs rid) (is_written ys rid)
is_written-append (_ ∷ xs) ys rid = is_written-append xs ys rid

pub is_processed-append : (xs ys : List Mark) (g : Gxid) (c : Cid) (rid : Rid) → is_processed (xs ++ ys) g c rid ≡ (is_processed xs g c rid || is_processed ys g c rid)
is_processed-append [] ys g c rid = refl
is_processed-append (Write h d node t r image ∷ xs) ys g c rid =
    ap (λ b. (is_command_of g c h d && is_same_rid r rid) || b) (is_processed-append xs ys g c rid) ∙ or_assoc (is_command_of g c h d && is_same_rid r rid) (is_processed xs g c rid) (is_processed ys g c rid)
is_processed-append (Skip h d r ∷ xs) ys g c rid =
    ap (λ b. (is_command_of g c h d && is_same_rid r rid) || b) (is_processed-append xs ys g c rid) ∙ or_assoc (is_command_of g c h d && is_same_rid r rid) (is_processed xs g c rid) (is_processed ys g c rid)
is_processed-append (_ ∷ xs) ys g c rid = is_processed-append xs ys g c rid

cond_plus : (b : Bool) (m n : ℕ) → cond b (m + n + 1) (m + n) ≡ cond b (m + 1) m + n
cond_plus true m n = omega arith
cond_plus false m n = refl

pub answer_count-append : (session : SessionId) (xs ys : List Mark) → answer_count session (xs ++ ys) ≡ answer_count session xs + answer_count session ys
answer_count-append session [] ys = omega arith
answer_count-append session (Answer s n a ∷ xs) ys =
    ap (λ k. cond (is_same_session s session) (k + 1) k) (answer_count-append session xs ys) ∙ cond_plus (is_same_session s session) (answer_count session xs) (answer_count session ys)
answer_count-append session (_ ∷ xs) ys = answer_count-append session xs ys

pub started_after-append : (session : SessionId) (g : Option Gxid) (xs ys : List Mark) → started_after session g (xs ++ ys) ≡ started_after session (started_after session g xs) ys
started_after-append session g [] ys = refl
started_after-append session g (Start h s ∷ xs) ys = started_after-append session (cond (is_same_session s session) (Some h) g) xs ys
started_after-append session g (_ ∷ xs) ys = started_after-append session g xs ys

pub image_after-append : (shown : Gxid → Cid → Bool) (table : Table) (rid : Rid) (image : Option (List Value)) (xs ys : List Mark) → image_after shown table rid image (xs ++ ys) ≡ image_after shown table rid (image_after shown table rid image xs) ys
image_after-append shown table rid image [] ys = refl
image_after-append shown table rid image (Write g c node t r written ∷ xs) ys = image_after-append shown table rid (cond (shown g c && ((t.0 == table.0) && is_same_rid r rid)) written image) xs ys
image_after-append shown table rid image (_ ∷ xs) ys = image_after-append shown table rid image xs ys
