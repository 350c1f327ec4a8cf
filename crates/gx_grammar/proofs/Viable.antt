-- Where the reader of expressions stops, what it has read could go on.
use Rattle.std.proofs.Common.{◌≡◌, ℕ, ◌≤◌, true, false, List, [], ◌∷◌, Some, refl, sym, ◌∙◌, ap, subst, arith, Ok, Err}
use Rattle.gx_lex.specs.declared.symbol.Symbol.TheVariants as symbol
use Rattle.gx_lex.specs.declared.token.Token.{Token}
use Rattle.gx_lex.specs.declared.token.Token.TheVariants as token
use Rattle.gx_grammar.specs.declared.fault.Limits.{Limits}
use Rattle.gx_grammar.specs.declared.fault.Fault.TheVariants.{Syntax}
use Rattle.gx_grammar.specs.declared.syn.Syn.{Syn}
use Rattle.gx_grammar.specs.declared.syn.Syn.TheVariants.{Number, Neg, Not, Bin}
use Rattle.gx_grammar.specs.declared.expr.Frame.{Frame}
use Rattle.gx_grammar.specs.declared.expr.Frame.TheVariants.{Paren, Minus, Negation, Left}
use Rattle.gx_grammar.specs.Grammar.{expr}
use Rattle.gx_grammar.specs.Rules.{Reading, CanGo}
use Rattle.gx_grammar.specs.Machine.{frame_level, close, run, after_step, Mode, Want, Have, on_close, ending}
use Rattle.gx_grammar.proofs.Tools.{by_le, level_from}
use Rattle.gx_grammar.proofs.Sound.{Stands, Said, said}

-- the parentheses that are still to be closed
abbrev pub close_all : List Frame → List Token
close_all [] = []
close_all (Paren ∷ k) = token.Symbol symbol.Close ∷ close_all k
close_all (f ∷ k) = close_all k

abbrev IsClosing : List Token → Type 0
IsClosing [] = Unit {0}
IsClosing (y ∷ ts) = y ≡ token.Symbol symbol.Close

all_closing : (k : List Frame) → IsClosing (close_all k)
all_closing [] = tt
all_closing (Paren ∷ k) = refl
all_closing (Minus ∷ k) = all_closing k
all_closing (Negation ∷ k) = all_closing k
all_closing (Left o t ∷ k) = all_closing k

inner_close : (d : Limits) (c : ℕ) (t : Syn) (f : Frame) (k : List Frame) (ts : List Token) → 1 ≤ frame_level f → run d (token.Symbol symbol.Close ∷ ts) (Have c t (f ∷ k)) ≡ run d (token.Symbol symbol.Close ∷ ts) (Have c (close f t) k)
inner_close d c t f k ts l = ap (λ (r : Syn × List Frame). after_step (on_close c r.0 r.1) (λ n. run d ts n) (token.Symbol symbol.Close ∷ ts)) (by_le 1 (frame_level f) _ _ l)

inner : (d : Limits) (c : ℕ) (t : Syn) (f : Frame) (k : List Frame) (ts : List Token) → 1 ≤ frame_level f → IsClosing ts → run d ts (Have c t (f ∷ k)) ≡ run d ts (Have c (close f t) k)
inner d c t f k [] l z = ap (λ (r : Syn × List Frame). after_step (ending r) (λ _. Err (Syntax, [])) []) (by_le 1 (frame_level f) _ _ l)
inner d c t f k (y ∷ ts) l z = let P : Token → Type 0 = λ y. run d (y ∷ ts) (Have c t (f ∷ k)) ≡ run d (y ∷ ts) (Have c (close f t) k) in subst P (sym z) (inner_close d c t f k ts l)

pub can_close : (d : Limits) (c : ℕ) (k : List Frame) (t : Syn) → (u : Syn) × (run d (close_all k) (Have c t k) ≡ Ok (u, []))
can_close d c [] t = (t, refl)
can_close d c (Paren ∷ k) t = can_close d c k t
can_close d c (Minus ∷ k) t = let (u, e) = can_close d c k (Neg t) in (u, inner d c t Minus k (close_all k) (omega arith) (all_closing k) ∙ e)
can_close d c (Negation ∷ k) t = let (u, e) = can_close d c k (Not t) in (u, inner d c t Negation k (close_all k) (omega arith) (all_closing k) ∙ e)
can_close d c (Left o l ∷ k) t = let (u, e) = can_close d c k (Bin o l t) in (u, inner d c t (Left o l) k (close_all k) (level_from o) (all_closing k) ∙ e)

pub can_go : (d : Limits) (m : Mode) → (more : List Token) × (u : Syn) × (run d more m ≡ Ok (u, []))
can_go d (Have c t k) = let (u, e) = can_close d c k t in (close_all k, u, e)
can_go d (Want c []) = let (u, e) = can_close d c [] (Number false (Some 0)) in (token.Number (Some 0) ∷ [], u, e)
can_go d (Want c (Paren ∷ k)) = let (u, e) = can_close d c (Paren ∷ k) (Number false (Some 0)) in (token.Number (Some 0) ∷ close_all (Paren ∷ k), u, e)
can_go d (Want c (Minus ∷ k)) = let (u, e) = can_close d c k (Number true (Some 0)) in (token.Number (Some 0) ∷ close_all k, u, e)
can_go d (Want c (Negation ∷ k)) = let (u, e) = can_close d c (Negation ∷ k) (Number false (Some 0)) in (token.Number (Some 0) ∷ close_all (Negation ∷ k), u, e)
can_go d (Want c (Left o l ∷ k)) = let (u, e) = can_close d c (Left o l ∷ k) (Number false (Some 0)) in (token.Number (Some 0) ∷ close_all (Left o l ∷ k), u, e)

pub begins : (d : Limits) (m : Mode) (us : List Token) → Stands d m us → CanGo (expr d) us
begins d m us i =
    let (more, u, e) = can_go d m in
    let s = subst (λ (r : Reading Syn). Said d us more r) e (said d more m us i) in
    (s.0, u, s.2)
