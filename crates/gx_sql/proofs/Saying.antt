-- What a line's reader says by its rule.
use Rattle.std.proofs.Common.{◌≡◌, inl, inr, ℕ, List, [], length, Result, Ok, Err, refl, sym, subst}
use Rattle.gx_lex.specs.declared.token.Token.{Token}
use Rattle.gx_lex.specs.Lexing.{Lexes}
use Rattle.gx_grammar.specs.declared.fault.Limits.{Limits}
use Rattle.gx_grammar.specs.declared.fault.ReadError.{ReadError}
use Rattle.gx_grammar.specs.declared.fault.ReadError.TheVariants as read
use Rattle.gx_grammar.specs.Code.{Judged}
use Rattle.gx_lines.specs.Heads.{head_line}
use Rattle.gx_script.specs.declared.Line.{Line}
use Rattle.gx_sql.specs.Counts.{PassesInHead}
use Rattle.gx_sql.specs.declared.refusal.Limit.{Limit}
use Rattle.gx_sql.specs.declared.refusal.LineFault.{LineFault}
use Rattle.gx_sql.specs.declared.refusal.LineFault.TheVariants as fault
use Rattle.gx_sql.specs.declared.refusal.LineError.{LineError}
use Rattle.gx_sql.specs.declared.refusal.LineError.TheVariants as error
use Rattle.gx_sql.specs.Errors.{IsOfTokens}
use Rattle.gx_sql.specs.Held.{Ends, Stands}
use Rattle.gx_sql.specs.Progress.{Progress, with_line_syn}
use Rattle.gx_sql.specs.Script.{the_limits, Follows, Counts, Told, TokensSay, LineSays}

module _ {X : Type 0} (rule : Limits → X → List Token → Type 0) (go : X → Result Progress LineFault) (ts : List Token) where
  -- a fault of the tokens
  pub stands_fault : (e : ReadError) (err : LineError) (p : Progress) → IsOfTokens e err → Judged rule the_limits ts (Err e) → Stands (Follows rule go ts) (Err err) p
  stands_fault (read.Fault f left) err p h v = subst (λ (err : LineError). Stands (Follows rule go ts) (Err err) p) (sym h) (inr (f, v, refl))
  stands_fault read.OutOfMemory err p h v = subst (λ (err : LineError). Stands (Follows rule go ts) (Err err) p) (sym h) tt

  -- what the tokens mean
  pub stands_read : (x : X) (r : Result (Unit {0}) LineError) (p : Progress) → rule the_limits x ts → Ends r p (go x) → Stands (Follows rule go ts) r p
  stands_read x (Ok u) p q e = inl (x, q, sym e)
  stands_read x (Err (error.Fault f)) p q e = inl (x, q, sym e)
  stands_read x (Err error.OutOfMemory) p q e = tt

-- where no count is passed
pub stands_counted : (passes : Limit → Type 0) (follows : Result Progress LineFault → Type 0) (r : Result (Unit {0}) LineError) (p : Progress) → ((l : Limit) → passes l → ⊥) → Stands follows r p → Stands (Counts passes follows) r p
stands_counted passes follows (Ok u) p n h = inr (n, h)
stands_counted passes follows (Err (error.Fault f)) p n h = inr (n, h)
stands_counted passes follows (Err error.OutOfMemory) p n h = tt

-- where one is
pub stands_passed : (passes : Limit → Type 0) (follows : Result Progress LineFault → Type 0) (p : Progress) (l : Limit) → passes l → Stands (Counts passes follows) (Err (error.Fault (fault.TooMany l))) p
stands_passed passes follows p l q = inl (l, q, refl)

pub stands_line : (p q : Progress) (line : List ℕ) (ts : List Token) (r : Result (Unit {0}) LineError) → Lexes ts line → Stands (TokensSay p.segments p ts) r q → Stands (LineSays p line) r q
stands_line p q line ts (Ok u) l h = (ts, l, h)
stands_line p q line ts (Err (error.Fault f)) l h = (ts, l, h)
stands_line p q line ts (Err error.OutOfMemory) l h = tt

pub stands_told : (n m k : ℕ) (p q : Progress) (ls : List Line) (ts : List Token) (r : Result (Unit {0}) LineError) → ls ≡ [] → m ≡ length p.tables → k ≡ length p.groups → Stands (Counts (PassesInHead the_limits m k p.sessions ts) (Follows (head_line n) (with_line_syn p) ts)) r q → Stands (Told n p ls ts) r q
stands_told n m k p q ls ts r e l g h =
    subst (λ (ls : List Line). Stands (Told n p ls ts) r q) (sym e)
    (subst (λ (m : ℕ). Stands (Counts (PassesInHead the_limits m (length p.groups) p.sessions ts) (Follows (head_line n) (with_line_syn p) ts)) r q) l (subst (λ (k : ℕ). Stands (Counts (PassesInHead the_limits m k p.sessions ts) (Follows (head_line n) (with_line_syn p) ts)) r q) g h))
