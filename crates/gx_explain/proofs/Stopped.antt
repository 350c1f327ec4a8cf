-- Where the grammar stops, from what a reader tells.
use Rattle.std.proofs.Common.{◌≡◌, inl, inr, ℕ, ◌+◌, ◌-◌, ◌≤◌, suc, ◌==◌, true, false, List, [], ◌∷◌, length, Option, Some, None, Err, Ok, Result, IfOk, IfSome, SomeIff, arith, ◌∙◌, sym, ap, subst}
use Rattle.std.proofs.lemmas.List.{length-append}
use Rattle.std.proofs.lemmas.Result.{IfOk-weaker}
use Rattle.gx_lex.specs.declared.token.Token.{Token}
use Rattle.gx_grammar.specs.declared.fault.Limits.{Limits}
use Rattle.gx_grammar.specs.declared.fault.Fault.{Fault}
use Rattle.gx_grammar.specs.declared.fault.ReadError.{ReadError}
use Rattle.gx_grammar.specs.declared.fault.ReadError.TheVariants as errors
use Rattle.gx_grammar.specs.Code.{Judged, Placed}
use Rattle.gx_sql.specs.Script.{the_limits}
use Rattle.gx_lines.specs.declared.syn.LineSyn.{LineSyn}
use Rattle.gx_lines.specs.Heads.{head_line, session_line}
use Rattle.gx_script.specs.declared.Line.{Line}
use Rattle.gx_tree.specs.declared.schema.Schema.{Schema}
use Rattle.gx_sql.specs.declared.groups.GroupHead.{GroupHead}
use Rattle.gx_sql.specs.declared.refusal.LineFault.{LineFault}
use Rattle.gx_explain.specs.Places.{IsStopped, IsPlaceBy, IsPlaceIn, IsPlaceOf}

stopped : {X : Type 0} (rule : Limits → X → List Token → Type 0) (ts : List Token) (f : Fault) (left place : ℕ)
    → Placed {X = X} rule the_limits ts (Err (errors.Fault f left)) → place + left ≡ length ts → IsStopped rule ts place
stopped rule ts f left place (us, rest, q, n, h) l =
    let k = ap (λ (x : List Token). length x) q ∙ length-append us rest in
    let m : length us ≡ place = omega arith in
    (us, rest, f, q, m, h)

-- where the tokens that are left are taken from all
pub stopped-at : {X : Type 0} (rule : Limits → X → List Token → Type 0) (d : Limits) (ts : List Token) (error : ReadError) (f : Fault) (left k : ℕ) (o : Option ℕ)
    → error ≡ errors.Fault f left → k ≡ left → d ≡ the_limits → Placed {X = X} rule d ts (Err error) → SomeIff o (k ≤ length ts) (length ts - k) → IfSome o (IsStopped rule ts)
stopped-at rule d ts error f left k None q r e h s = tt
stopped-at {X = X} rule d ts error f left k (Some place) q r e h s =
    stopped rule ts f left place
    (subst (λ (error : ReadError). Placed {X = X} rule the_limits ts (Err error)) q (subst (λ (d : Limits). Placed {X = X} rule d ts (Err error)) e h))
    (omega (arith, s.0, s.1, r))

module _ (groups : List GroupHead) (members : List (List ℕ × ℕ)) (tables : List Schema) (g : LineFault) (ts : List Token) where
  placed : (rule : Limits → LineSyn → List Token → Type 0) (read : Result LineSyn ReadError) (place : ℕ)
      → Judged rule the_limits ts read → Placed rule the_limits ts read → IsPlaceOf groups members tables g ts read place → IsPlaceBy rule groups members tables g ts place
  placed rule (Ok x) place judged at is = inr (x, judged, is)
  placed rule (Err (errors.Fault f left)) place judged at is = inl (stopped rule ts f left place at is)
  placed rule (Err errors.OutOfMemory) place judged at is = absurd is

  each_by : (rule : Limits → LineSyn → List Token → Type 0) (d : Limits) (read : Result LineSyn ReadError) → d ≡ the_limits → Judged rule d ts read → Placed rule d ts read
      → (found : Option ℕ) → IfSome found (IsPlaceOf groups members tables g ts read) → IfSome found (IsPlaceBy rule groups members tables g ts)
  each_by rule d read e judged at None m = tt
  each_by rule d read e judged at (Some place) m =
      placed rule read place (subst (λ (d : Limits). Judged rule d ts read) e judged) (subst (λ (d : Limits). Placed rule d ts read) e at) m

  any_first : (line : Line) (lines : List Line) → (length (line ∷ lines) == 0) ≡ true → ⊥
  any_first line lines e = more (length lines) e
    where
      more : (n : ℕ) → (suc n == 0) ≡ true → ⊥
      more n e = grind arith

  none_first : (length {A = Line} [] == 0) ≡ false → ⊥
  none_first e = cc

  -- where no session's line came before, and where one did
  pub in-head : {Y : Type 0} (n : ℕ) (o : Option ℕ) (lines : List Line) (d : Limits) (read : Result LineSyn ReadError) (r : Result (Option ℕ) Y)
      → o ≡ Some n → (length lines == 0) ≡ true → d ≡ the_limits → Judged (head_line n) d ts read → Placed (head_line n) d ts read
      → IfOk r (λ found. IfSome found (IsPlaceOf groups members tables g ts read)) → IfOk r (λ found. IfSome found (IsPlaceIn o lines groups members tables g ts))
  in-head n o [] d read r is none e judged at w =
      subst (λ (o : Option ℕ). IfOk r (λ found. IfSome found (IsPlaceIn o [] groups members tables g ts))) (sym is)
      (IfOk-weaker r _ _ (each_by (head_line n) d read e judged at) w)
  in-head n o (line ∷ lines) d read r is none e judged at w = absurd (any_first line lines none)

  pub in-line : {Y : Type 0} (n : ℕ) (o : Option ℕ) (lines : List Line) (d : Limits) (read : Result LineSyn ReadError) (r : Result (Option ℕ) Y)
      → o ≡ Some n → (length lines == 0) ≡ false → d ≡ the_limits → Judged session_line d ts read → Placed session_line d ts read
      → IfOk r (λ found. IfSome found (IsPlaceOf groups members tables g ts read)) → IfOk r (λ found. IfSome found (IsPlaceIn o lines groups members tables g ts))
  in-line n o [] d read r is some e judged at w = absurd (none_first some)
  in-line n o (line ∷ lines) d read r is some e judged at w =
      subst (λ (o : Option ℕ). IfOk r (λ found. IfSome found (IsPlaceIn o (line ∷ lines) groups members tables g ts))) (sym is)
      (IfOk-weaker r _ _ (each_by session_line d read e judged at) w)
