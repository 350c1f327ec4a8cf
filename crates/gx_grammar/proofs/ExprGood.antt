-- The reader of expressions reads its rule.
use Rattle.std.proofs.Common.{◌≡◌, false, List, [], ◌∷◌, ◌++◌, Some, refl, sym, ◌∙◌, subst, arith, Ok, Err}
use Rattle.std.proofs.lemmas.List.{append_cancel_right}
use Rattle.gx_lex.specs.declared.token.Token.{Token}
use Rattle.gx_lex.specs.declared.token.Token.TheVariants as token
use Rattle.gx_grammar.specs.declared.fault.Limits.{Limits}
use Rattle.gx_grammar.specs.declared.fault.Fault.{Fault}
use Rattle.gx_grammar.specs.declared.fault.Fault.TheVariants.{Syntax, TooMany}
use Rattle.gx_grammar.specs.declared.syn.Syn.{Syn}
use Rattle.gx_grammar.specs.declared.syn.Syn.TheVariants.{Number}
use Rattle.gx_grammar.specs.Limiting.{Below}
use Rattle.gx_grammar.specs.Grammar.{digits, expr}
use Rattle.gx_grammar.specs.Rules.{Reading, Same}
use Rattle.gx_grammar.specs.Machine.{Want, expr_at}
use Rattle.gx_grammar.proofs.Tools.{within_more}
use Rattle.gx_grammar.proofs.Complete.{complete, Ends}
use Rattle.gx_grammar.proofs.Sound.{Said, sound, stands_first}
use Rattle.gx_grammar.proofs.Local.{Kept, expr_local}
use Rattle.gx_grammar.proofs.Higher as higher
use Rattle.gx_grammar.proofs.Higher.{Viable, run_viable, run_stays}
use Rattle.gx_grammar.proofs.Good.{Good, Tells, Raised, Stays}

raised_expr : (d : Limits) (e : Fault) (us rest : List Token) → higher.Raised d e us rest → Raised expr d e us rest
raised_expr d Syntax us rest w = tt
raised_expr d (TooMany l) us [] w = w
raised_expr d (TooMany l) us (y ∷ ys) w = w

-- two ways of cutting a list at the same rest are one
same_cut : (us vs rest : List Token) → us ++ rest ≡ vs ++ rest → us ≡ vs
same_cut us vs rest e = append_cancel_right us vs rest e

tells : (d : Limits) (ts : List Token) (a : Reading Syn) → Said d [] ts a → Kept (expr_at d) ts a → Viable d [] ts a → Tells expr d (expr_at d) ts a
tells d ts (Ok r) s k v = (s.0, s.1, s.2, subst (λ (us : List Token). (others : List Token) → Same r.1 others → expr_at d (us ++ others) ≡ Ok (r.0, others)) (same_cut k.0 s.0 r.1 (sym k.1 ∙ s.1)) k.2)
tells d ts (Err r) s k v = (v.0, v.1, v.2, raised_expr d r.0 v.0 r.1 v.3, subst (λ (us : List Token). (others : List Token) → Same r.1 others → expr_at d (us ++ others) ≡ Err (r.0, others)) (same_cut k.0 v.0 r.1 (sym k.1 ∙ v.1)) k.2)

stays : (d e : Limits) (a b : Reading Syn) → higher.Stays d e a b → Stays d e a b
stays d e (Ok r) b q = q
stays d e (Err (Syntax, rest)) b q = q
stays d e (Err (TooMany l, rest)) b q = q

expr_more : (d e : Limits) (x : Syn) (us : List Token) → Below d e → expr d x us → expr e x us
expr_more d e x us l (s, f, w, o, z, u) = (s, f, within_more d e 0 false s l w, omega arith, z, u)

pub expr_good : Good expr Ends expr_at
expr_good = record {
  sample = λ d. (token.Number (Some 0) ∷ [], Number false (Some 0), (digits (Some 0), omega arith, omega arith, omega arith, refl, refl));
  more = expr_more;
  tells = λ d ts. tells d ts (expr_at d ts) (sound d ts) (expr_local d ts) (run_viable d ts (Want 0 []) [] (stands_first d));
  complete = λ d x us rest q n. complete d us rest x q n;
  stays = λ d e ts l. stays d e (expr_at d ts) (expr_at e ts) (run_stays d e ts (Want 0 []) l);
}
