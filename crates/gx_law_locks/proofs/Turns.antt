-- Victims one behind the other: what each of their turns leaves of the others, and that all of them are cancelled.
use Rattle.std.proofs.Common.{◌≡◌, ℕ, List, [], ◌∷◌, ◌++◌, Option, Bool, true, false, refl, sym, subst, ap, ◌∙◌, if◌then◌else◌, ◌&&◌, eqb, append_assoc, append-nil}
use Rattle.std.proofs.lemmas.Bool.{or_left, or_right}
use Rattle.std.proofs.lemmas.List.Elements.{Contains-append_left, Contains-append_right, Contains-push}
use Rattle.std.specs.List.{Contains}
use Rattle.gx_lemmas.proofs.Numbers.{eqb-self}
use Rattle.gx_ids.specs.declared.ids.Gxid.{Gxid}
use Rattle.gx_dtx.specs.Rules.{abort_found, on_abort}
use Rattle.gx_dtx.specs.Table.{find_txn}
use Rattle.gx_dtx.specs.declared.txn.Txn.{Txn}
use Rattle.gx_store.specs.declared.answer.Refused.TheVariants.{Victim}
use Rattle.gx_store.specs.declared.answer.StmtAnswer.TheVariants as told
use Rattle.gx_store.specs.declared.mark.Mark.{Mark}
use Rattle.gx_store.specs.declared.mark.Mark.TheVariants as mark
use Rattle.gx_store.specs.Marks.{is_aborted, is_same_gxid}
use Rattle.gx_store.specs.Refusals.{the_coordinator}
use Rattle.gx_rules.specs.AtCoordinator.{and_cancels, and_cancels_all, cancel_turn, coord_sends, is_refused, is_under_way, may_cancel}
use Rattle.gx_rules.specs.Coordinators.{Coord, CoordTurn, Work, no_work, rests, session_of, work_of}
use Rattle.gx_rules.specs.Locks.{release_marks}
use Rattle.gx_rules.specs.Rounds.{is_live}
use Rattle.gx_rules.specs.Sending.{numbered}
use Rattle.gx_rules.proofs.Rounds.{cancel-ways}
use Rattle.gx_law_order.proofs.Lists.{each_append}
use Rattle.gx_law_order.specs.Lists.{Each}
use Rattle.gx_law_order.proofs.Past.{aborted-append}
use Rattle.gx_law_order.proofs.Releases.{each-released}
use Rattle.gx_law_order.proofs.Stages.{At, changed-at, left_of}
use Rattle.gx_law_order.specs.Stages.{IsWhole}
use Rattle.gx_law_locks.proofs.Silent.{NoRecheck, sends-no-recheck}

-- no two of them are one
abbrev pub IsApart : Gxid → Gxid → Type 0
IsApart g h = eqb h.0 g.0 ≡ false

abbrev pub AreApart : List Gxid → Type 0
AreApart [] = Unit {0}
AreApart (g ∷ gs) = Each (IsApart g) gs × AreApart gs

-- among these marks it aborts, and its session's line is refused
pub record IsGone (c : Coord) (marks : List Mark) (g : Gxid) : Type 0 where
  pub aborted : is_aborted marks g ≡ true
  pub number : ℕ
  pub refused : Contains marks (mark.Answer (work_of c g).session number (told.Refused (Victim c.rounds)))

-- ONE OF THEM
abbrev refused : Coord → Gxid → CoordTurn
refused c g = is_refused c g (on_abort c.table g) [] (Victim c.rounds)

abbrev refusal : Coord → Gxid → CoordTurn
refusal c g = coord_sends c.clock (refused c g)

cancels-now : (c : Coord) (g : Gxid) → may_cancel c g ≡ true → cancel_turn c g ≡ refusal c g
cancels-now c g e = ap (λ (b : Bool). coord_sends c.clock (if b then refused c g else rests c)) e

-- what it leaves of the others
record Leaves (c d : Coord) (g : Gxid) : Type 0 where
  whole : IsWhole d.table
  finds : (h : Gxid) → IsApart g h → find_txn d.table h ≡ find_txn c.table h
  works : (h : Gxid) → IsApart g h → work_of d h ≡ work_of c h
  rounds : d.rounds ≡ c.rounds

refusal-leaves : (c : Coord) (g : Gxid) → IsWhole c.table → Leaves c (refusal c g).coord g
refusal-leaves c g w =
    record {
      whole = record { first = x.whole.first; apart = x.whole.apart; drawn = x.whole.drawn };
      finds = λ h e. x.finds h.0 ∙ ap (λ (b : Bool). if b then found else find_txn c.table h) e;
      works = λ h e. ap (λ (b : Bool). if b then no_work else c.works h.0) e;
      rounds = refl;
    }
  where
    x : At c.table (on_abort c.table g).table g.0 (left_of (abort_found g (find_txn c.table g)).step (find_txn c.table g))
    x = changed-at c.table g.0 (abort_found g (find_txn c.table g)) w

    found : Option Txn
    found = left_of (abort_found g (find_txn c.table g)).step (find_txn c.table g)

still-may : (c d : Coord) (g h : Gxid) → Leaves c d g → IsApart g h → may_cancel c h ≡ true → may_cancel d h ≡ true
still-may c d g h l e may = ap (λ (t : Option Txn). is_live t && is_under_way (work_of d h)) (l.finds h e) ∙ ap (λ (w : Work). is_live (find_txn c.table h) && is_under_way w) (l.works h e) ∙ may

-- its own marks
refusal-gone : (c : Coord) (g : Gxid) → IsGone c (refusal c g).marks g
refusal-gone c g =
    record {
      aborted = or_left (is_same_gxid g g) (is_aborted rest g) (eqb-self g.0);
      number = (session_of c (work_of c g).session).lines;
      refused = Contains-append_left (mark.Abort g ∷ answer ∷ []) behind answer (Contains-push (mark.Abort g ∷ []) answer);
    }
  where
    answer : Mark
    answer = mark.Answer (work_of c g).session (session_of c (work_of c g).session).lines (told.Refused (Victim c.rounds))

    behind : List Mark
    behind = release_marks the_coordinator c.locks g ++ numbered (refused c g).coord.sent (on_abort c.table g).out.outs

    rest : List Mark
    rest = answer ∷ behind

-- WHO IS GONE
-- is so among more marks
gone-front : (c : Coord) (xs ys : List Mark) (g : Gxid) → IsGone c xs g → IsGone c (xs ++ ys) g
gone-front c xs ys g k =
    record { aborted = aborted-append xs ys g ∙ or_left (is_aborted xs g) (is_aborted ys g) k.aborted; number = k.number; refused = Contains-append_left xs ys _ k.refused }

gone-behind : (c d : Coord) (g h : Gxid) (xs ys : List Mark) → Leaves c d g → IsApart g h → IsGone d ys h → IsGone c (xs ++ ys) h
gone-behind c d g h xs ys l e k =
    record {
      aborted = aborted-append xs ys h ∙ or_right (is_aborted xs h) (is_aborted ys h) k.aborted;
      number = k.number;
      refused =
          Contains-append_right xs ys (mark.Answer (work_of c h).session k.number (told.Refused (Victim c.rounds)))
          (subst (λ (w : Work). Contains ys (mark.Answer w.session k.number (told.Refused (Victim c.rounds)))) (l.works h e)
          (subst (λ n. Contains ys (mark.Answer (work_of d h).session k.number (told.Refused (Victim n)))) l.rounds k.refused));
    }

-- ALL OF THEM
-- the marks of their turns, one behind the other
abbrev pub victims_marks : Coord → List Gxid → List Mark
victims_marks c [] = []
victims_marks c (g ∷ gs) = (cancel_turn c g).marks ++ victims_marks (cancel_turn c g).coord gs

pub all-marks : (gs : List Gxid) (turn : CoordTurn) → (and_cancels_all gs turn).marks ≡ turn.marks ++ victims_marks turn.coord gs
all-marks [] turn = sym (append-nil turn.marks)
all-marks (g ∷ gs) turn = all-marks gs (and_cancels turn g) ∙ append_assoc turn.marks (cancel_turn turn.coord g).marks (victims_marks (cancel_turn turn.coord g).coord gs)

-- none of them ends a round
ends-none : (c : Coord) (g : Gxid) → Each NoRecheck (cancel_turn c g).marks
ends-none c g =
    cancel-ways (λ (t : CoordTurn). Each NoRecheck (t.marks ++ numbered t.coord.sent t.outs)) c g tt
    (λ live busy. (tt, (tt, each_append NoRecheck (release_marks the_coordinator c.locks g) _ (each-released NoRecheck the_coordinator c.locks g (λ claim. tt)) (sends-no-recheck (refused c g).coord.sent (refused c g).outs))))

pub all-end-none : (gs : List Gxid) (c : Coord) → Each NoRecheck (victims_marks c gs)
all-end-none [] c = tt
all-end-none (g ∷ gs) c = each_append NoRecheck (cancel_turn c g).marks (victims_marks (cancel_turn c g).coord gs) (ends-none c g) (all-end-none gs (cancel_turn c g).coord)

each-both : {A : Type 0} (P Q R : A → Type 0) → ((x : A) → P x → Q x → R x) → (xs : List A) → Each P xs → Each Q xs → Each R xs
each-both P Q R f [] p q = tt
each-both P Q R f (x ∷ xs) p q = (f x p.0 q.0, each-both P Q R f xs p.1 q.1)

-- and all of them are gone
pub all-gone : (gs : List Gxid) (c : Coord) → IsWhole c.table → AreApart gs → Each (λ g. may_cancel c g ≡ true) gs → Each (IsGone c (victims_marks c gs)) gs
all-gone [] c w a may = tt
all-gone (g ∷ gs) c w a may = behind (cancel_turn c g) (cancels-now c g may.0) (λ l.
    all-gone gs (cancel_turn c g).coord l.whole a.1
    (each-both (IsApart g) (λ h. may_cancel c h ≡ true) (λ h. may_cancel (cancel_turn c g).coord h ≡ true) (λ h e m. still-may c (cancel_turn c g).coord g h l e m) gs a.0 may.1))
  where
    behind : (t : CoordTurn) → t ≡ refusal c g → (Leaves c t.coord g → Each (IsGone t.coord (victims_marks t.coord gs)) gs) → Each (IsGone c (t.marks ++ victims_marks t.coord gs)) (g ∷ gs)
    behind t same later = (
      gone-front c t.marks (victims_marks t.coord gs) g (subst (λ (x : CoordTurn). IsGone c x.marks g) (sym same) (refusal-gone c g)),
      each-both (IsApart g) (IsGone t.coord (victims_marks t.coord gs)) (IsGone c (t.marks ++ victims_marks t.coord gs)) (λ h e k. gone-behind c t.coord g h t.marks (victims_marks t.coord gs) l e k) gs a.0 (later l),
    )
      where
        l : Leaves c t.coord g
        l = subst (λ (x : CoordTurn). Leaves c x.coord g) (sym same) (refusal-leaves c g w)
