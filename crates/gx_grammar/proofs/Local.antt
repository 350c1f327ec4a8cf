-- The reader of expressions looks no further than at the token behind those that it reads.
use Rattle.std.proofs.Common.{◌≡◌, List, [], ◌∷◌, ◌++◌, refl, ◌∙◌, ap, subst, Ok, Err}
use Rattle.gx_lex.specs.declared.token.Token.{Token}
use Rattle.gx_grammar.specs.declared.fault.Limits.{Limits}
use Rattle.gx_grammar.specs.declared.fault.Fault.TheVariants.{Syntax}
use Rattle.gx_grammar.specs.declared.syn.Syn.{Syn}
use Rattle.gx_grammar.specs.Rules.{Reading, Same}
use Rattle.gx_grammar.specs.Machine.{run, after_step, step, finish, Mode, Want, Go, Stop, Done, Step, expr_at}

-- the answer looked at one token beyond those that it read, and no further
abbrev pub Kept : {X : Type 0} → (List Token → Reading X) → List Token → Reading X → Type 0
Kept R ts (Ok r) = (used : List Token) × (ts ≡ used ++ r.1) × ((others : List Token) → Same r.1 others → R (used ++ others) ≡ Ok (r.0, others))
Kept R ts (Err r) = (used : List Token) × (ts ≡ used ++ r.1) × ((others : List Token) → Same r.1 others → R (used ++ others) ≡ Err (r.0, others))

end_kept : (d : Limits) (m : Mode) (s : Step) → finish m ≡ s → Kept (λ ts. run d ts m) [] (after_step s (λ _. Err (Syntax, [])) [])
end_kept d m (Stop e) q = ([], refl, λ others s. ends others s) where
  ends : (others : List Token) → Same [] others → run d others m ≡ Err (e, others)
  ends [] s = ap (λ (s : Step). after_step s (λ _. Err (Syntax, [])) []) q
  ends (y ∷ ys) s = absurd s
end_kept d m (Go n) q = ([], refl, λ others s. ends others s) where
  ends : (others : List Token) → Same [] others → run d others m ≡ Err (Syntax, others)
  ends [] s = ap (λ (s : Step). after_step s (λ _. Err (Syntax, [])) []) q
  ends (y ∷ ys) s = absurd s
end_kept d m (Done t) q = ([], refl, λ others s. ends others s) where
  ends : (others : List Token) → Same [] others → run d others m ≡ Ok (t, others)
  ends [] s = ap (λ (s : Step). after_step s (λ _. Err (Syntax, [])) []) q
  ends (y ∷ ys) s = absurd s

-- the step at a token is the same whatever follows it
steps : (d : Limits) (m : Mode) (x : Token) (s : Step) → step d m x ≡ s → (ys : List Token) → run d (x ∷ ys) m ≡ after_step s (λ n. run d ys n) (x ∷ ys)
steps d m x s q ys = ap (λ (s : Step). after_step s (λ n. run d ys n) (x ∷ ys)) q

stays : (d : Limits) (m : Mode) (x : Token) (xs others : List Token) (s : Step) (r : List Token → Reading Syn) → ((ys : List Token) → after_step s (λ n. run d ys n) (x ∷ ys) ≡ r (x ∷ ys)) → step d m x ≡ s → Same (x ∷ xs) others → run d others m ≡ r others
stays d m x xs [] s r f q a = absurd a
stays d m x xs (y ∷ ys) s r f q a = subst (λ (z : Token). run d (z ∷ ys) m ≡ r (z ∷ ys)) a (steps d m x s q ys ∙ f ys)

go_kept : (d : Limits) (m n : Mode) (x : Token) (xs : List Token) (r : Reading Syn) → step d m x ≡ Go n → Kept (λ ts. run d ts n) xs r → Kept (λ ts. run d ts m) (x ∷ xs) r
go_kept d m n x xs (Ok r) q (used, e, f) = (x ∷ used, ap (λ (ys : List Token). x ∷ ys) e, λ others s. steps d m x (Go n) q (used ++ others) ∙ f others s)
go_kept d m n x xs (Err r) q (used, e, f) = (x ∷ used, ap (λ (ys : List Token). x ∷ ys) e, λ others s. steps d m x (Go n) q (used ++ others) ∙ f others s)

step_kept : (d : Limits) (m : Mode) (x : Token) (xs : List Token) (s : Step) → step d m x ≡ s → ((n : Mode) → Kept (λ ts. run d ts n) xs (run d xs n)) → Kept (λ ts. run d ts m) (x ∷ xs) (after_step s (λ n. run d xs n) (x ∷ xs))
step_kept d m x xs (Stop e) q f = ([], refl, λ others a. stays d m x xs others (Stop e) (λ here. Err (e, here)) (λ ys. refl) q a)
step_kept d m x xs (Go n) q f = go_kept d m n x xs (run d xs n) q (f n)
step_kept d m x xs (Done t) q f = ([], refl, λ others a. stays d m x xs others (Done t) (λ here. Ok (t, here)) (λ ys. refl) q a)

pub run_kept : (d : Limits) (ts : List Token) (m : Mode) → Kept (λ ts. run d ts m) ts (run d ts m)
run_kept d [] m = end_kept d m (finish m) refl
run_kept d (x ∷ xs) m = step_kept d m x xs (step d m x) refl (λ n. run_kept d xs n)

pub expr_local : (d : Limits) (ts : List Token) → Kept (expr_at d) ts (expr_at d ts)
expr_local d ts = run_kept d ts (Want 0 [])
