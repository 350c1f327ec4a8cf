-- A command that a segment has failed is refused for what the segment says: a fault, or a row that was overtaken.
use Rattle.std.proofs.Common.{◌≡◌, ◌≤◌, ◌<◌, ◌⊎◌, inl, inr, ℕ, zero, suc, List, [], ◌∷◌, ◌++◌, length, Some, refl, sym, subst, ap, ◌∙◌, arith, append-nil}
use Rattle.std.proofs.Math.Seq.{take-append_seam}
use Rattle.std.proofs.lemmas.Option.{get_or_from_slice_get, slice_get_within}
use Rattle.std.specs.Prelude.{Contains, drop, slice_get, take}
use Rattle.gx_lemmas.proofs.Lists.{get-append}
use Rattle.gx_lemmas.proofs.Options.{some-same}
use Rattle.gx_ids.specs.declared.ids.Cid.{Cid}
use Rattle.gx_ids.specs.declared.ids.Gxid.{Gxid}
use Rattle.gx_ids.specs.declared.ids.Node.{Node}
use Rattle.gx_ids.specs.declared.ids.Table.{Table}
use Rattle.gx_ids.specs.declared.rid.Rid.{Rid}
use Rattle.gx_tree.specs.declared.cond.Cond.{Cond}
use Rattle.gx_tree.specs.declared.slice.Slice.{Slice}
use Rattle.gx_tree.specs.declared.slice.Slice.TheVariants as slice
use Rattle.gx_tree.specs.declared.stmt.Level.{Level}
use Rattle.gx_tree.specs.declared.stmt.Stmt.{Stmt}
use Rattle.gx_tree.specs.declared.stmt.Stmt.TheVariants as stmt
use Rattle.gx_tree.specs.declared.value.Value.{Value}
use Rattle.std.specs.declared.option.Option.{Option}
use Rattle.gx_meaning.specs.declared.fault.ArithFault.{ArithFault}
use Rattle.gx_meaning.specs.declared.fault.ArithFault.TheVariants as arith_fault
use Rattle.gx_msg.specs.declared.message.Message.{Message}
use Rattle.gx_msg.specs.declared.message.Message.TheVariants as message
use Rattle.gx_msg.specs.declared.reply.Cause.{Cause}
use Rattle.gx_msg.specs.declared.reply.Reply.TheVariants as reply
use Rattle.gx_script.specs.declared.Script.{Script}
use Rattle.gx_store.specs.declared.event.Event.{Event}
use Rattle.gx_store.specs.declared.mark.Mark.{Mark}
use Rattle.gx_store.specs.declared.mark.Mark.TheVariants as mark
use Rattle.gx_store.specs.declared.run.Step.{Step}
use Rattle.gx_store.specs.Faults.{IsFaultOf}
use Rattle.gx_store.specs.Language.{AreLinesNumbered}
use Rattle.gx_store.specs.Marks.{is_aborted}
use Rattle.gx_store.specs.Messages.{IsSending, Receives}
use Rattle.gx_store.specs.Points.{marks_in}
use Rattle.gx_store.specs.Refusals.{HasFaulted, IsCause, IsChange, IsFirstFailed, IsHeard, IsOvertaken, IsWord, failed, the_coordinator}
use Rattle.gx_store.proofs.Runs.{marks_in-push}
use Rattle.gx_rules.specs.AtCoordinator.{reason_of}
use Rattle.gx_rules.specs.Machine.{world_of}
use Rattle.gx_rules.specs.Slices.{cause_of}
use Rattle.gx_law_order.specs.Finish.{point_at}
use Rattle.gx_law_order.proofs.Commits.{take-kept}
use Rattle.gx_law_writes.proofs.Pieces.{IsSliceOf}
use Rattle.gx_law_answers.specs.Earned.{Events, IsEarned}
use Rattle.gx_law_answers.specs.Truth.{IsTrueFailure, IsTrueFault, IsTrueLoss, IsTruth, SendNothing}
use Rattle.gx_law_writes.proofs.Statements.{IsOf}
use Rattle.gx_law_answers.proofs.Heard.{marks-are, more, own-step, steps-are, unaborted-then}
use Rattle.gx_law_answers.proofs.OneAnswer.{unsent}
use Rattle.gx_law_answers.proofs.Ours.{its-level, its-slice}

-- ---- lists
-- what stands behind the seam is among what follows
behind-seam : (xs ys : List Mark) (p : ℕ) (m : Mark) → length xs ≤ p → slice_get (xs ++ ys) p ≡ Some m → Contains ys m
behind-seam [] ys p m l e = (p, slice_get_within ys p m e, get_or_from_slice_get ys p m m e)
behind-seam (x ∷ xs) ys zero m l e = absurd (none (length xs) l)
  where
    none : (n : ℕ) → suc n ≤ 0 → ⊥
    none n l = omega (arith, l)
behind-seam (x ∷ xs) ys (suc p) m l e = behind-seam xs ys p m (lower (length xs) p l) e
  where
    lower : (a b : ℕ) → suc a ≤ suc b → a ≤ b
    lower a b l = omega (arith, l)

cancel : (xs ys zs : List Mark) → xs ++ ys ≡ xs ++ zs → ys ≡ zs
cancel [] ys zs e = e
cancel (x ∷ xs) ys zs e = cancel xs ys zs (tail e)
  where
    tail : x ∷ (xs ++ ys) ≡ x ∷ (xs ++ zs) → xs ++ ys ≡ xs ++ zs
    tail z = cc

sent-last : (own : List Mark) (last x : Mark) (p to number : _) (told : Message) → SendNothing own → slice_get (own ++ last ∷ []) p ≡ Some (mark.Sent to number told) → length own ≤ p
sent-last [] last x p to number told silent e = omega arith
sent-last (y ∷ own) last x zero to number told silent e = absurd (by_mark y silent (some-same y (mark.Sent to number told) e))
  where
    by_mark : (m : Mark) → SendNothing (m ∷ own) → m ≡ mark.Sent to number told → ⊥
    by_mark m s q = subst (λ z. SendNothing (z ∷ own)) q s
sent-last (y ∷ own) last x (suc p) to number told silent e = next (length own) p (sent-last own last x p to number told (rest y silent) e)
  where
    next : (a b : ℕ) → a ≤ b → suc a ≤ suc b
    next a b l = omega (arith, l)

    rest : (m : Mark) → SendNothing (m ∷ own) → SendNothing own
    rest (mark.Sent a b d) s = absurd s
    rest (mark.Start a b) s = s
    rest (mark.Snap a b d) s = s
    rest (mark.Write a b d f h i) s = s
    rest (mark.Skip a b d) s = s
    rest (mark.Fault a b d f) s = s
    rest (mark.Commit a) s = s
    rest (mark.Abort a) s = s
    rest (mark.Answer a b d) s = s
    rest (mark.Hold a b d f) s = s
    rest (mark.Wait a b d f) s = s
    rest (mark.Release a b d f) s = s
    rest (mark.Prepared a b) s = s
    rest (mark.LocalCommit a b) s = s
    rest (mark.Decided a) s = s
    rest (mark.JournalFailed a b) s = s
    rest (mark.Restart a) s = s
    rest (mark.Report a b d) s = s
    rest (mark.Recheck a b d) s = s

-- a step in a run of steps
module _ (xs : List Step) (s : Step) (ys : List Step) where
  take-front : take (length xs) (xs ++ s ∷ ys) ≡ xs
  take-front = take-append_seam xs (s ∷ ys)

  its-marks : marks_in (take 1 (drop (length xs) (xs ++ s ∷ ys))) ≡ s.marks
  its-marks = ap (λ l. marks_in (take 1 l)) (dropped xs) ∙ append-nil s.marks
    where
      dropped : (zs : List Step) → drop (length zs) (zs ++ s ∷ ys) ≡ s ∷ ys
      dropped [] = refl
      dropped (z ∷ zs) = dropped zs

  at-front : (k : ℕ) (x : Step) → slice_get (xs ++ s ∷ ys) k ≡ Some x → (slice_get xs k ≡ Some x) ⊎ ((length xs ≡ k) × (s ≡ x)) ⊎ (length xs < k)
  at-front k x e = by_list xs k e
    where
      none-less : (k : ℕ) → 0 < suc k
      none-less k = omega arith

      next : (a b : ℕ) → a < b → suc a < suc b
      next a b l = omega (arith, l)

      by_list : (zs : List Step) (k : ℕ) → slice_get (zs ++ s ∷ ys) k ≡ Some x → (slice_get zs k ≡ Some x) ⊎ ((length zs ≡ k) × (s ≡ x)) ⊎ (length zs < k)
      by_list [] zero e = inr (inl (refl, some-same s x e))
      by_list [] (suc k) e = inr (inr (none-less k))
      by_list (z ∷ zs) zero e = inl e
      by_list (z ∷ zs) (suc k) e = by_rest (by_list zs k e)
        where
          by_rest : (slice_get zs k ≡ Some x) ⊎ ((length zs ≡ k) × (s ≡ x)) ⊎ (length zs < k) → (slice_get (z ∷ zs) (suc k) ≡ Some x) ⊎ ((length (z ∷ zs) ≡ suc k) × (s ≡ x)) ⊎ (length (z ∷ zs) < suc k)
          by_rest (inl h) = inl h
          by_rest (inr (inl h)) = inr (inl (ap suc h.0, h.1))
          by_rest (inr (inr h)) = inr (inr (next (length zs) k h))

module _ (script : Script) (some : 1 ≤ script.segments) (numbered : AreLinesNumbered [] script.lines) (es : Events) where
  abbrev ms : List Mark
  ms = marks_in (world_of script es).steps

  -- THE FIRST SENDING
  module _ (segment : Node) (one : 1 ≤ segment.0) (g : Gxid) (c : Cid) (cause : Cause) (x : IsEarned script es segment g c (reply.Failed c cause)) where
    abbrev was : Events
    was = x.given.before

    abbrev told : Message
    told = message.Answer g (reply.Failed c cause)

    abbrev then_ : List Mark
    then_ = marks_in (world_of script x.given.before).steps

    -- in the step, behind its own marks, FAILED of the command is sent first
    first-sent : (own : List Mark) (number : ℕ) → SendNothing own → marks_in (world_of script x.upto).steps ≡ then_ ++ (own ++ mark.Sent the_coordinator number told ∷ [])
        → (first : IsFirstFailed (world_of script es).steps segment g c (then_ ++ own)) × (length (world_of script x.given.before).steps ≤ first.step)
    first-sent own number silent are = (
      record {
        step = length front;
        mark = length own;
        number = number;
        reason = cause;
        sending = record {
          sender = x.given.step;
          at = own-step script some numbered es segment g c _ x;
          node = x.given.place;
          sent = ap (λ l. slice_get l (length own)) marks-is ∙ Rattle.gx_law_order.proofs.Lists.get_last own [] (mark.Sent the_coordinator number told);
        };
        first = first;
        before =
            sym (ap (λ ss. marks_in (take (length front) ss) ++ take (length own) (marks_in (take 1 (drop (length front) ss)))) run.1
            ∙ ap (λ l. marks_in l ++ take (length own) (marks_in (take 1 (drop (length front) (front ++ (x.given.step ∷ run.0)))))) (take-front front x.given.step run.0)
            ∙ ap (λ l. then_ ++ take (length own) l) (its-marks front x.given.step run.0 ∙ marks-is)
            ∙ ap (λ l. then_ ++ l) (take-append_seam own (mark.Sent the_coordinator number told ∷ [])));
      },
      le-self (length front),
    )
      where
        le-self : (n : ℕ) → n ≤ n
        le-self n = omega arith

        front : List Step
        front = (world_of script x.given.before).steps

        run : (rest : List Step) × ((world_of script es).steps ≡ front ++ (x.given.step ∷ rest))
        run = steps-are script some numbered es segment g c _ x

        marks-is : x.given.step.marks ≡ own ++ mark.Sent the_coordinator number told ∷ []
        marks-is = cancel then_ x.given.step.marks (own ++ mark.Sent the_coordinator number told ∷ []) (sym (ap marks_in x.given.steps ∙ marks_in-push front x.given.step) ∙ are)

        first : (s m n : ℕ) (other : Cause) → IsSending (world_of script es).steps s m segment the_coordinator n (failed g c other) → (length front < s) ⊎ ((length front ≡ s) × (length own ≤ m))
        first s m n other z = by_place (at-front front x.given.step run.0 s z.sender (ap (λ ss. slice_get ss s) (sym run.1) ∙ z.at))
          where
            by_place : (slice_get front s ≡ Some z.sender) ⊎ ((length front ≡ s) × (x.given.step ≡ z.sender)) ⊎ (length front < s) → (length front < s) ⊎ ((length front ≡ s) × (length own ≤ m))
            by_place (inl h) = absurd (unsent script some numbered es segment one g c (reply.Failed c cause) x (reply.Failed c other) refl s m the_coordinator n (record { sender = z.sender; at = h; node = z.node; sent = z.sent }))
            by_place (inr (inl h)) = inr (h.0, sent-last own (mark.Sent the_coordinator number told) (mark.Sent the_coordinator number told) m the_coordinator n (failed g c other) silent (ap (λ l. slice_get l m) (sym marks-is ∙ ap (λ (y : Step). y.marks) h.1) ∙ z.sent))
            by_place (inr (inr h)) = inl h

    -- as its step sends it
    first-failed : (first : IsFirstFailed (world_of script es).steps segment g c (then_ ++ x.given.own)) × (length (world_of script x.given.before).steps ≤ first.step)
    first-failed = first-sent x.given.own x.given.number x.given.silent (ap marks_in x.given.steps ∙ marks_in-push (world_of script x.given.before).steps x.given.step ∙ ap (λ l. then_ ++ l) x.given.marks)

  -- A COMMAND THAT FAILED
  module _ (now : Event) (later : List Mark) (level : Level) (g : Gxid) (c : Cid) (segment : Node) (one : 1 ≤ segment.0) where
    abbrev behind : List Mark
    behind = mark.Abort g ∷ []

    -- the segment's word
    abbrev Says : Cause → Type 0
    Says cause = Receives (world_of script es).steps now segment the_coordinator (message.Answer g (reply.Failed c cause))

    -- the fault, at the point
    module _ (line : Stmt) (is : IsOf script ms line level g c) (cause : Cause) (x : IsEarned script es segment g c (reply.Failed c cause))
        (hears : (place : ℕ) (rid : Rid) (image : Option (List Value)) (reason : Cause) → IsWord (point_at (world_of script es).steps now behind later) g c rid image reason → IsHeard (point_at (world_of script es).steps now behind later) place line g c rid image reason) where
      before : List Mark
      before = marks_in (world_of script x.upto).steps

      rest : List Mark
      rest = more script some numbered es segment g c _ x

      faulted : (f : IsTrueFault (marks_in (world_of script x.given.before).steps) (marks_in (world_of script x.upto).steps) level g c line cause) → Says cause → HasFaulted (point_at (world_of script es).steps now behind later) line level g c f.fault (cause_of f.fault)
      faulted f got =
          record {
            place = f.place;
            rid = f.rid;
            image = f.image;
            noted = get-append ms behind f.place _ there;
            unaborted = ap (λ m. is_aborted m g) same ∙ f.unaborted;
            faults = subst (λ m. IsFaultOf m level g c line f.rid f.image f.fault) (sym same) f.faults;
            heard = hears f.place f.rid f.image (cause_of f.fault) (record {
              segment = segment;
              received = (cause, got);
              content = subst Says f.is got;
              then = marks_in (world_of script x.given.before).steps ++ x.given.own;
              first = (first-failed segment one g c cause x).0;
              place = length (world_of script x.given.before).steps;
              step = x.given.step;
              at = own-step script some numbered es segment g c _ x;
              by_then = (first-failed segment one g c cause x).1;
              node = x.given.place;
              noted = behind-seam (marks_in (world_of script x.given.before).steps) x.given.step.marks f.place (mark.Fault g c f.rid f.image) f.behind
                  (subst (λ m. slice_get m f.place ≡ Some (mark.Fault g c f.rid f.image)) (ap marks_in x.given.steps ∙ marks_in-push (world_of script x.given.before).steps x.given.step) f.noted);
            });
          }
        where
          there : slice_get ms f.place ≡ Some (mark.Fault g c f.rid f.image)
          there = ap (λ m. slice_get m f.place) (marks-are script some numbered es segment g c _ x) ∙ get-append (marks_in (world_of script x.upto).steps) (more script some numbered es segment g c _ x) f.place _ f.noted

          same : take f.place (ms ++ behind) ≡ take f.place (marks_in (world_of script x.upto).steps)
          same =
              take-kept ms behind f.place _ there ∙ ap (take f.place) (marks-are script some numbered es segment g c _ x)
              ∙ take-kept (marks_in (world_of script x.upto).steps) (more script some numbered es segment g c _ x) f.place _ f.noted

      by-fault : (f : ArithFault) → cause ≡ cause_of f → HasFaulted (point_at (world_of script es).steps now behind later) line level g c f (cause_of f) → IsCause (point_at (world_of script es).steps now behind later) line level g c (reason_of cause)
      by-fault arith_fault.Overflow e h = subst (λ z. IsCause (point_at (world_of script es).steps now behind later) line level g c (reason_of z)) (sym e) h
      by-fault arith_fault.DivisionByZero e h = subst (λ z. IsCause (point_at (world_of script es).steps now behind later) line level g c (reason_of z)) (sym e) h

      pub fault-caused : IsTrueFault (marks_in (world_of script x.given.before).steps) (marks_in (world_of script x.upto).steps) level g c line cause → Says cause → IsCause (point_at (world_of script es).steps now behind later) line level g c (reason_of cause)
      fault-caused f got = by-fault f.fault f.is (faulted f got)

    -- the row that was overtaken
    loss-caused : (line : Stmt) (table : Table) (cond : Option Cond) → IsChange line table cond → (cause : Cause) (x : IsEarned script es segment g c (reply.Failed c cause)) → IsTrueLoss (marks_in (world_of script x.given.before).steps) (marks_in (world_of script x.upto).steps) level g c table cond cause → Says cause
        → IsCause (point_at (world_of script es).steps now behind later) line level g c (reason_of cause)
    loss-caused line table cond change cause x f got = subst (λ z. IsCause (point_at (world_of script es).steps now behind later) line level g c (reason_of z)) (sym f.is) overtaken
      where
        overtaken : IsOvertaken (point_at (world_of script es).steps now behind later) line level g c f.rid f.writer
        overtaken =
            record {
              isolation = f.isolation;
              table = table;
              cond = cond;
              change = change;
              segment = segment;
              received = (cause, got);
              content = subst Says f.is got;
              then = marks_in (world_of script x.given.before).steps ++ f.own;
              first = (first-sent segment one g c cause x f.own f.number f.silent f.are).0;
              rows = f.row;
            }

    -- an UPDATE or DELETE
    change-caused : (line : Stmt) (table : Table) (cond : Option Cond) → IsChange line table cond → IsOf script ms line level g c
        → ((place : ℕ) (rid : Rid) (image : Option (List Value)) (reason : Cause) → IsWord (point_at (world_of script es).steps now behind later) g c rid image reason → IsHeard (point_at (world_of script es).steps now behind later) place line g c rid image reason)
        → (cause : Cause) → Says cause → (x : IsEarned script es segment g c (reply.Failed c cause)) → IsTrueFailure (marks_in (world_of script x.given.before).steps) (marks_in (world_of script x.upto).steps) x.level g c line table cond cause
        → IsCause (point_at (world_of script es).steps now behind later) line level g c (reason_of cause)
    change-caused line table cond change is hears cause got x (inl a) = absurd (unaborted-then script some numbered es segment g c _ x is.running a)
    change-caused line table cond change is hears cause got x (inr (inl f)) =
        fault-caused line is cause x hears (subst (λ l. IsTrueFault (marks_in (world_of script x.given.before).steps) (marks_in (world_of script x.upto).steps) l g c line cause) (its-level script some numbered es segment line level g c is _ x) f) got
    change-caused line table cond change is hears cause got x (inr (inr f)) =
        loss-caused line table cond change cause x (subst (λ l. IsTrueLoss (marks_in (world_of script x.given.before).steps) (marks_in (world_of script x.upto).steps) l g c table cond cause) (its-level script some numbered es segment line level g c is _ x) f) got

    abbrev Truth : Cause → (y : Slice) → Level → (x : Events) → Events → Type 0
    Truth cause y l was upto = IsTruth (marks_in (world_of script was).steps) (marks_in (world_of script upto).steps) segment l g c y (reply.Failed c cause)

    -- what it says of the line's slice
    of-slice : (line : Stmt) → IsOf script ms line level g c → (cause : Cause) (x : IsEarned script es segment g c (reply.Failed c cause)) (y : Slice) → (IsSliceOf line x.slice → x.slice ≡ y) → Truth cause y x.level x.given.before x.upto
    of-slice line is cause x y same = subst (λ s. Truth cause s x.level x.given.before x.upto) (same (its-slice script some numbered es segment line level g c is _ x)) x.truth

    pub caused : (line : Stmt) → IsOf script ms line level g c → (cause : Cause) → Says cause → (x : IsEarned script es segment g c (reply.Failed c cause)) → IsCause (point_at (world_of script es).steps now behind later) line level g c (reason_of cause)
    caused (stmt.Select q) is cause got x = by_truth (of-slice (stmt.Select q) is cause x (slice.Select q) (λ e. e))
      where
        by_truth : IsTruth (marks_in (world_of script x.given.before).steps) (marks_in (world_of script x.upto).steps) segment x.level g c (slice.Select q) (reply.Failed c cause) → IsCause (point_at (world_of script es).steps now behind later) (stmt.Select q) level g c (reason_of cause)
        by_truth (inl a) = absurd (unaborted-then script some numbered es segment g c _ x is.running a)
        by_truth (inr f) =
            fault-caused (stmt.Select q) is cause x (λ place rid image reason w. w) (subst (λ l. IsTrueFault (marks_in (world_of script x.given.before).steps) (marks_in (world_of script x.upto).steps) l g c (stmt.Select q) cause) (its-level script some numbered es segment (stmt.Select q) level g c is _ x) f.fault) got
    caused (stmt.Insert t v) is cause got x = absurd (no-insert x.slice (its-slice script some numbered es segment (stmt.Insert t v) level g c is _ x) x.truth)
      where
        no-insert : (s : Slice) → IsSliceOf (stmt.Insert t v) s → IsTruth (marks_in (world_of script x.given.before).steps) (marks_in (world_of script x.upto).steps) segment x.level g c s (reply.Failed c cause) → ⊥
        no-insert (slice.Insert u rows) e z = z
        no-insert (slice.Select q) e z = e
        no-insert (slice.Update u a d) e z = e
        no-insert (slice.Delete u d) e z = e
        no-insert (slice.Lock u m) e z = e
    caused (stmt.Update t a d) is cause got x = change-caused (stmt.Update t a d) t d (refl, refl) is (λ place rid image reason w. w) cause got x (of-slice (stmt.Update t a d) is cause x (slice.Update t a d) (λ e. e))
    caused (stmt.Delete t d) is cause got x = change-caused (stmt.Delete t d) t d (refl, refl) is (λ place rid image reason w. w) cause got x (of-slice (stmt.Delete t d) is cause x (slice.Delete t d) (λ e. e))
    caused (stmt.Lock t m) is cause got x = absurd (of-slice (stmt.Lock t m) is cause x (slice.Lock t m) (λ e. e))
    caused (stmt.Begin l) is cause got x = absurd (its-slice script some numbered es segment (stmt.Begin l) level g c is _ x)
    caused stmt.Commit is cause got x = absurd (its-slice script some numbered es segment stmt.Commit level g c is _ x)
    caused stmt.Rollback is cause got x = absurd (its-slice script some numbered es segment stmt.Rollback level g c is _ x)
