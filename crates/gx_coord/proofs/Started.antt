-- A session starts its next line.
use Rattle.std.proofs.Common.{◌≡◌, ◌<◌, ◌≤◌, ◌+◌, ◌∙◌, ℕ, zero, suc, List, [], ◌∷◌, Option, Some, None, Result, Ok, Err, IfOk, ap, append-nil, arith, refl, sym, subst, length, slice_get, get_or, unwrap_or}
use Rattle.std.proofs.lemmas.Option.{slice_get_within}
use Rattle.std.specs.List.{AllByRecursion}
use Rattle.std.specs.Prelude.{option_map}
use Rattle.gx_lemmas.proofs.Numbers.{lt-le}
use Rattle.gx_lemmas.proofs.Options.{some-same}
use Rattle.gx_ids.specs.declared.ids.SessionId.{SessionId}
use Rattle.gx_tree.specs.declared.stmt.Stmt.{Stmt}
use Rattle.gx_tree.specs.declared.stmt.Stmt.TheVariants as stmt
use Rattle.gx_store.specs.declared.mark.Mark.{Mark}
use Rattle.gx_script.specs.declared.Line.{Line}
use Rattle.gx_script.specs.declared.Script.{Script}
use Rattle.gx_store.specs.Language.{IsScript}
use Rattle.gx_script.specs.Session.{line_step}
use Rattle.gx_script.specs.declared.line_step.LineStep.{LineStep}
use Rattle.gx_msg.specs.declared.message.Out.{Out}
use Rattle.gx_rules.specs.AtCoordinator.{next_line, on_line, starts, starts_line}
use Rattle.gx_rules.specs.Coordinators as rule
use Rattle.gx_coord.specs.Books.{coord_of, stmt_at}
use Rattle.gx_coord.specs.Turns.{IsTurn}
use Rattle.gx_coord.specs.declared.coord.Coord.{Coord as OwnCoord}
use Rattle.gx_coord.proofs.Turned.{framed-refl}
use Rattle.gx_coord.specs.Places.{AreIndexed, at_index}
use Rattle.gx_coord.proofs.LinePlaces.{IsLineOf, line_at}

pub starts-from : (p q : Script) (c k : rule.Coord) (s : SessionId) (place : _) (asked : LineStep) → p ≡ q → c ≡ starts_line k s asked → asked ≡ line_step (rule.session_of k s).state.block (stmt_at q.lines place) → on_line p c s (stmt_at p.lines place) asked ≡ starts q k s (Some (stmt_at q.lines place))
starts-from p q c k s place asked e f i =
    ap (λ (x : Script). on_line x c s (stmt_at x.lines place) asked) e
    ∙ ap (λ (x : rule.Coord). on_line q x s (stmt_at q.lines place) asked) f
    ∙ ap (λ (x : LineStep). on_line q (starts_line k s x) s (stmt_at q.lines place) x) i

pub stmt-there : (script : Script) (place : ℕ) (line : Line) → slice_get script.lines place ≡ Some line → stmt_at script.lines place ≡ line.stmt
stmt-there script place line e = ap (λ o. unwrap_or (option_map (λ (l : Line). l.stmt) o) stmt.Commit) e

-- what is sent, from another turn that is the same
pub outs-from : {E : Type 0} (r : Result (List Out) E) (t u : rule.CoordTurn) → t ≡ u → IfOk r (λ outs. outs ≡ t.outs) → IfOk r (λ outs. outs ≡ u.outs)
outs-from (Ok outs) t u e h = h ∙ ap (λ (x : rule.CoordTurn). x.outs) e
outs-from (Err x) t u e h = tt

pub starts-next : (p q : Script) (k : rule.Coord) (s : SessionId) (place : ℕ) → p ≡ q → next_line p k s ≡ Some (stmt_at p.lines place) → starts q k s (Some (stmt_at q.lines place)) ≡ starts q k s (next_line q k s)
starts-next p q k s place e f = ap (starts q k s) (sym (subst (λ (x : Script). next_line x k s ≡ Some (stmt_at x.lines place)) e f))

-- the line at a place that the session's places give
pub next-there : (script : Script) → IsScript script → (places : List (List ℕ)) → AreIndexed script.lines (length script.sessions) places → (s n p : ℕ) (o : Option (List ℕ)) → slice_get places s ≡ o → at_index n o ≡ Some p → IsLineOf s script.lines n p
next-there script language places indexed s n p None q e = absurd (cc)
next-there script language places indexed s n p (Some ps) q e = line_at s script.lines n p language.numbers (ap (λ xs. slice_get xs n) (sym (indexed.each s ps q)) ∙ e)

at-place : (P : Line → Type 0) (ls : List Line) (p : ℕ) (l : Line) → AllByRecursion P ls → slice_get ls p ≡ Some l → P l
at-place P [] p l a e = absurd (cc)
at-place P (x ∷ xs) zero l a e = subst P (some-same x l e) a.0
at-place P (x ∷ xs) (suc p) l a e = at-place P xs p l a.1 e

-- the statement of a line that was found at its place
pub stmt-found : (ls xs : List Line) (p : ℕ) (l : Line) → xs ≡ ls → p < length xs → l ≡ get_or xs p l → stmt_at ls p ≡ l.stmt
stmt-found ls xs p l q h e = ap (λ ys. stmt_at ys p) (sym q) ∙ found xs p l h e
  where
    found : (xs : List Line) (p : ℕ) (l : Line) → p < length xs → l ≡ get_or xs p l → stmt_at xs p ≡ l.stmt
    found [] p l h e = absurd (omega (arith, h))
    found (x ∷ xs) zero l h e = ap (λ (y : Line). y.stmt) (sym e)
    found (x ∷ xs) (suc p) l h e = found xs p l (omega (arith, h)) e

pub line-number : (ls xs : List Line) (s n p : ℕ) (l : Line) → xs ≡ ls → IsLineOf s ls n p → l ≡ get_or xs p l → l.number ≡ n + 1
line-number ls xs s n p l q h e = ap (λ (x : Line). x.number) (e ∙ ap (λ ys. get_or ys p l) q ∙ read ls p l h.line h.there) ∙ h.number
  where
    read : (ls : List Line) (p : ℕ) (d l : Line) → slice_get ls p ≡ Some l → get_or ls p d ≡ l
    read [] p d l e = absurd (cc)
    read (x ∷ xs) zero d l e = some-same x l e
    read (x ∷ xs) (suc p) d l e = read xs p d l e

pub no-line : (ls xs : List Line) (s n p : ℕ) → xs ≡ ls → IsLineOf s ls n p → length xs ≤ p → ⊥
no-line ls xs s n p q h e = lt-le p (length ls) (slice_get_within ls p h.line h.there) (subst (λ (ys : List Line). length ys ≤ p) q e)

-- no line is left
pub none-starts : (k : OwnCoord) (script : Script) (s : SessionId) (before : List Mark) → next_line script (coord_of k) s ≡ None → IsTurn k k before before (starts script (coord_of k) s (next_line script (coord_of k) s))
none-starts k script s before e =
    subst (λ (o : Option Stmt). IsTurn k k before before (starts script (coord_of k) s o)) (sym e)
    (record { framed = framed-refl k; coord = refl; marks = sym (append-nil before) })

pub none-outs : (k : OwnCoord) (script : Script) (s : SessionId) → next_line script (coord_of k) s ≡ None → [] ≡ (starts script (coord_of k) s (next_line script (coord_of k) s)).outs
none-outs k script s e = sym (ap (λ (o : Option Stmt). (starts script (coord_of k) s o).outs) e)
