-- What each kind of line says is read back as its statement.
use Rattle.std.proofs.Common.{◌≡◌, ℕ, zero, suc, ◌+◌, ◌≤◌, false, List, [], ◌∷◌, ◌++◌, length, map, Some, Ok, refl, sym, ◌∙◌, ap, subst, append_assoc, append-nil, arith, codes}
use Rattle.std.specs.Fmt.{decimal}
use Rattle.std.specs.List.{flat_map}
use Rattle.std.proofs.lemmas.Fmt.{decimal_digit, decimal_step}
use Rattle.gx_tree.specs.declared.schema.Kind.TheVariants as kind
use Rattle.gx_tree.specs.declared.schema.Schema.{Schema}
use Rattle.gx_tree.specs.declared.expr.Expr.{Expr}
use Rattle.gx_tree.specs.declared.expr.ArithOp.{ArithOp}
use Rattle.gx_tree.specs.declared.expr.ArithOp.TheVariants as arith_op
use Rattle.gx_tree.specs.declared.expr.Expr.TheVariants as expr
use Rattle.gx_tree.specs.declared.cond.CmpOp.TheVariants as cmp
use Rattle.gx_tree.specs.declared.cond.Cond.TheVariants as cond
use Rattle.gx_tree.specs.declared.stmt.Level.TheVariants as level
use Rattle.gx_tree.specs.declared.stmt.Stmt.{Stmt}
use Rattle.gx_tree.specs.declared.stmt.Stmt.TheVariants as stmt
use Rattle.gx_grammar.specs.declared.syn.Op.{Op}
use Rattle.gx_grammar.specs.declared.syn.Op.TheVariants as op
use Rattle.gx_grammar.specs.declared.syn.Syn.{Syn}
use Rattle.gx_grammar.specs.declared.syn.Syn.TheVariants as syn
use Rattle.gx_grammar.specs.declared.syn.Syn.TheOpen.{Syn-F}
use Rattle.gx_grammar.specs.declared.syn.Syn.TheFolds.{fold-Syn, fold-roll-Syn}
use Rattle.gx_grammar.specs.Grammar.{Shape, digits, column, both, Within, operators_of}
use Rattle.gx_lines.specs.declared.syn.StmtSyn.{StmtSyn}
use Rattle.gx_lines.specs.declared.syn.StmtSyn.TheVariants as stmt_syn
use Rattle.gx_lines.specs.declared.syn.TupleSyn.{TupleSyn}
use Rattle.gx_resolve.specs.declared.typed.Typed.{Typed}
use Rattle.gx_resolve.specs.declared.typed.Typed.TheVariants as typed
use Rattle.gx_resolve.specs.Naming.{Used, Given, names_step, names_in, names_right}
use Rattle.gx_resolve.specs.Results.{Answer, ◌>>=◌, each}
use Rattle.gx_resolve.specs.Kinding.{value_as, cond_as, tuple_as}
use Rattle.gx_resolve.specs.Naming.{tuple_names}
use Rattle.gx_resolve.specs.Typing.{arith_typed, cmp_typed, typed_step, typed_of, positive_typed}
use Rattle.gx_resolve.specs.Resolving.{stmt_of, key_kept}
use Rattle.gx_sql.specs.Script.{the_limits}
use Rattle.gx_print.specs.Forms.{Form, column_form, form_step, number_form, op_form, shape_of}
use Rattle.gx_print.specs.Shapes.{IsClear, IsName, op_text, shape_text}
use Rattle.gx_print.specs.Limited.{Each, IsWithin, StmtClear, TupleClear, TupleWithin}
use Rattle.gx_print.specs.Reprinting.{ReadsAs}
use Rattle.gx_print.specs.Statements.{expr_text, stmt_tokens, stmt_text, tuple_text}
use Rattle.gx_print.proofs.StmtCut.{stmt_cut}
use Rattle.gx_print.proofs.StmtSpelled.{stmt_spelled}
use Rattle.gx_work.specs.Text.{pair_text, pairs_from}
use Rattle.gx_work.proofs.Nexts.{pairs-none, pairs-suc}
use Rattle.gx_work.specs.Work.{acct, literal, accounts_from, loading, changing}

abbrev pub Tables : List Schema
Tables = acct ∷ []

-- a statement as it is written is read back
read_back : (s : StmtSyn) (x : Stmt) → StmtClear s → IsWithin the_limits s → stmt_of Tables s ≡ Ok x → ReadsAs Tables x (stmt_text s)
read_back s x clear within resolved = (stmt_tokens s, s, stmt_cut s clear, stmt_spelled the_limits s within, resolved)

pub begin_read : ReadsAs Tables (stmt.Begin level.RepeatableRead) (codes "BEGIN ISOLATION LEVEL REPEATABLE READ")
begin_read = read_back (stmt_syn.Begin level.RepeatableRead) (stmt.Begin level.RepeatableRead) tt tt refl

pub commit_read : ReadsAs Tables stmt.Commit (codes "COMMIT")
commit_read = read_back stmt_syn.Commit stmt.Commit tt tt refl

-- EXPRESSIONS
abbrev number : ℕ → Syn
number n = syn.Number false (Some n)

-- an operator between a column and a number
abbrev beside : Op → List ℕ → ℕ → Syn
beside o c n = syn.Bin o (syn.Column c) (number n)

module _ {A : Type 0} (f : Syn-F A → A) where
  fold_number : (n : ℕ) → fold-Syn A f (number n) ≡ f (Syn-F.Number false (Some n))
  fold_number n = ap (fold-Syn A f) (sym (syn.rolls-Number false (Some n))) ∙ fold-roll-Syn A f (Syn-F.Number false (Some n))

  fold_column : (c : List ℕ) → fold-Syn A f (syn.Column c) ≡ f (Syn-F.Column c)
  fold_column c = ap (fold-Syn A f) (sym (syn.rolls-Column c)) ∙ fold-roll-Syn A f (Syn-F.Column c)

  fold_beside : (o : Op) (c : List ℕ) (n : ℕ) → fold-Syn A f (beside o c n) ≡ f (Syn-F.Bin o (f (Syn-F.Column c)) (f (Syn-F.Number false (Some n))))
  fold_beside o c n = ap (fold-Syn A f) (sym (syn.rolls-Bin o (syn.Column c) (number n))) ∙ fold-roll-Syn A f (Syn-F.Bin o (syn.Column c) (number n))
      ∙ ap (λ (a : A). f (Syn-F.Bin o a (fold-Syn A f (number n)))) (fold_column c) ∙ ap (λ (a : A). f (Syn-F.Bin o (f (Syn-F.Column c)) a)) (fold_number n)

-- a shape of names of the language and of small numbers, within the limits
abbrev IsFine : Shape → Type 0
IsFine s = IsClear s × (Within the_limits 0 false s × (operators_of s ≤ 1000))

abbrev IsFineSyn : Syn → Type 0
IsFineSyn t = IsFine (shape_of t)

number_shape : (n : ℕ) → shape_of (number n) ≡ digits (Some n)
number_shape n = ap (λ (f : Form). f.shape) (fold_number form_step n)

number_fine : (n : ℕ) → n ≤ 100 → IsFineSyn (number n)
number_fine n l = subst IsFine (sym (number_shape n)) (omega (arith, l), (omega arith, omega arith))

typed_number : (n : ℕ) → n ≤ 100 → positive_typed n ≡ typed.Value kind.Int (literal n)
typed_number n l = grind arith

-- UPDATES
pub acct_name : IsName (codes "acct")
acct_name = ((refl, (refl, (refl, (refl, tt)))), refl)

pub id_name : IsName (codes "id")
id_name = ((refl, (refl, tt)), refl)

pub bal_name : IsName (codes "bal")
bal_name = ((refl, (refl, (refl, tt))), refl)

-- what was found of an operator between a column and a number
record IsBeside (o : Op) (c : List ℕ) (n : ℕ) : Type 0 where
  shape : shape_of (beside o c n) ≡ both o (column c) (digits (Some n))
  fine : IsFineSyn (beside o c n)

fine_both : (o : Op) (c : List ℕ) (n : ℕ) → IsName c → length c ≤ 63 → n ≤ 100 → shape_of (beside o c n) ≡ both o (column c) (digits (Some n)) → IsBeside o c n
fine_both o c n i short l e = record { shape = e; fine = subst IsFine (sym e) ((i, omega (arith, l)), (((short, omega arith), omega arith), omega arith)) }

shape_beside : (o : Op) (c : List ℕ) (n : ℕ) → shape_of (beside o c n) ≡ (op_form o (column_form c) (number_form false (Some n))).shape
shape_beside o c n = ap (λ (f : Form). f.shape) (fold_beside form_step o c n)

abbrev written_change : Op → ℕ → ℕ → StmtSyn
written_change o amount account = stmt_syn.Update (codes "acct") (record { column = codes "bal"; value = beside o (codes "bal") amount } ∷ []) (Some (beside op.Equal (codes "id") account))

abbrev pub change_text : Op → ℕ → ℕ → List ℕ
change_text o amount account = codes "UPDATE acct SET bal = bal " ++ (op_text o ++ (codes " " ++ (decimal amount ++ (codes " WHERE id = " ++ decimal account))))

-- what an UPDATE is, by the names in its value and its condition and by what these are
abbrev change_of : List (List ℕ) → List (List ℕ) → Typed → Typed → Answer Stmt
change_of ns ms t u =
    names_right acct.columns [] (((Given (codes "bal") ∷ map Used ns) ++ []) ++ map Used ms) >>= λ names.
    ((((value_as kind.Int t >>= λ e. Ok (record { col = 1; expr = e })) >>= λ a. (Ok [] >>= λ more. Ok (a ∷ more)))
    >>= λ assigned. ((cond_as u >>= λ c. Ok (Some c)) >>= λ found. Ok (stmt.Update (record { 0 = 0 }) assigned found)))
    >>= λ s. key_kept acct.dist s)

-- by its operator
module _ (o : Op) (a : ArithOp) (amount account : ℕ) (l : amount ≤ 100) (m : account ≤ 100)
    (typed_as : (t : Typed) → typed_step acct.columns (Syn-F.Bin o (typed.Value kind.Int (expr.Col 1)) t) ≡ arith_typed a (typed.Value kind.Int (expr.Col 1)) t)
    (shaped : shape_of (beside o (codes "bal") amount) ≡ both o (column (codes "bal")) (digits (Some amount))) where
  abbrev Value : Syn
  Value = beside o (codes "bal") amount

  abbrev Where : Syn
  Where = beside op.Equal (codes "id") account

  value_is : IsBeside o (codes "bal") amount
  value_is = fine_both o (codes "bal") amount bal_name (omega arith) l shaped

  where_is : IsBeside op.Equal (codes "id") account
  where_is = fine_both op.Equal (codes "id") account id_name (omega arith) m (shape_beside op.Equal (codes "id") account)

  value_typed : typed_of acct.columns Value ≡ typed.Value kind.Int (expr.Bin a (expr.Col 1) (literal amount))
  value_typed = fold_beside (typed_step acct.columns) o (codes "bal") amount ∙ typed_as (positive_typed amount) ∙ ap (arith_typed a (typed.Value kind.Int (expr.Col 1))) (typed_number amount l)

  where_typed : typed_of acct.columns Where ≡ typed.Cond (cond.Cmp cmp.Eq (expr.Col 0) (literal account))
  where_typed = fold_beside (typed_step acct.columns) op.Equal (codes "id") account ∙ ap (cmp_typed cmp.Eq (typed.Value kind.Int (expr.Col 0))) (typed_number account m)

  change_resolved : stmt_of Tables (written_change o amount account) ≡ Ok (changing a amount account)
  change_resolved =
      ap (λ (ns : List (List ℕ)). change_of ns (names_in Where) (typed_of acct.columns Value) (typed_of acct.columns Where)) (fold_beside names_step o (codes "bal") amount)
      ∙ ap (λ (ns : List (List ℕ)). change_of (codes "bal" ∷ []) ns (typed_of acct.columns Value) (typed_of acct.columns Where)) (fold_beside names_step op.Equal (codes "id") account)
      ∙ ap (λ (t : Typed). change_of (codes "bal" ∷ []) (codes "id" ∷ []) t (typed_of acct.columns Where)) value_typed
      ∙ ap (change_of (codes "bal" ∷ []) (codes "id" ∷ []) (typed.Value kind.Int (expr.Bin a (expr.Col 1) (literal amount)))) where_typed

  change_written : stmt_text (written_change o amount account) ≡ change_text o amount account
  change_written =
      ap (λ (t : List ℕ). codes "UPDATE acct SET " ++ (((codes "bal = " ++ t) ++ []) ++ (codes " WHERE " ++ expr_text Where))) (ap shape_text value_is.shape)
      ∙ ap (λ (t : List ℕ). codes "UPDATE acct SET " ++ (((codes "bal = " ++ (codes "bal " ++ (op_text o ++ (codes " " ++ decimal amount)))) ++ []) ++ (codes " WHERE " ++ t))) (ap shape_text where_is.shape)
      ∙ ap (λ (t : List ℕ). codes "UPDATE acct SET bal = bal " ++ t)
      (ap (λ (t : List ℕ). t ++ (codes " WHERE id = " ++ decimal account)) (append-nil (op_text o ++ (codes " " ++ decimal amount))) ∙ append_assoc (op_text o) (codes " " ++ decimal amount) (codes " WHERE id = " ++ decimal account))

  change_read : ReadsAs Tables (changing a amount account) (change_text o amount account)
  change_read = subst (ReadsAs Tables (changing a amount account)) change_written
      (read_back (written_change o amount account) (changing a amount account)
      (acct_name, ((bal_name, value_is.fine.0), tt), where_is.fine.0)
      (omega arith, ((omega arith, value_is.fine.1), tt), where_is.fine.1)
      change_resolved)

pub take_read : (amount account : ℕ) → amount ≤ 100 → account ≤ 100 → ReadsAs Tables (changing arith_op.Sub amount account) (change_text op.Sub amount account)
take_read amount account l m = change_read op.Sub arith_op.Sub amount account l m (λ t. refl) (shape_beside op.Sub (codes "bal") amount)

pub give_read : (amount account : ℕ) → amount ≤ 100 → account ≤ 100 → ReadsAs Tables (changing arith_op.Add amount account) (change_text op.Add amount account)
give_read amount account l m = change_read op.Add arith_op.Add amount account l m (λ t. refl) (shape_beside op.Add (codes "bal") amount)

-- THE LOAD
abbrev written_account : ℕ → TupleSyn
written_account account = record { values = number account ∷ number 100 ∷ [] }

abbrev written_accounts : ℕ → ℕ → List TupleSyn
written_accounts account zero = []
written_accounts account (suc more) = written_account account ∷ written_accounts (account + 1) more

abbrev written_load : StmtSyn
written_load = stmt_syn.Insert (codes "acct") (written_account 0 ∷ written_accounts 1 63)

account_clear : (account : ℕ) → account ≤ 100 → TupleClear (written_account account)
account_clear account l = ((number_fine account l).0, ((number_fine 100 (omega arith)).0, tt))

account_within : (account : ℕ) → account ≤ 100 → TupleWithin the_limits (written_account account)
account_within account l = ((number_fine account l).1, ((number_fine 100 (omega arith)).1, tt))

accounts_all : (P : TupleSyn → Type 0) → ((account : ℕ) → account ≤ 100 → P (written_account account)) → (more account : ℕ) → account + more ≤ 101 → Each P (written_accounts account more)
accounts_all P each zero account l = tt
accounts_all P each (suc more) account l = (each account (omega (arith, l)), accounts_all P each more (account + 1) (omega (arith, l)))

typed_as_number : (n : ℕ) → n ≤ 100 → value_as kind.Int (typed_of [] (number n)) ≡ Ok (literal n)
typed_as_number n l = ap (value_as kind.Int) (fold_number (typed_step []) n ∙ typed_number n l)

abbrev two_of : Answer Expr → Answer Expr → Answer (List Expr)
two_of a b = a >>= λ x. ((b >>= λ y. (Ok [] >>= λ more. Ok (y ∷ more))) >>= λ more. Ok (x ∷ more))

account_resolved : (account : ℕ) → account ≤ 100 → tuple_as acct.columns (written_account account) ≡ Ok (literal account ∷ literal 100 ∷ [])
account_resolved account l =
    ap (λ (a : Answer Expr). two_of a (value_as kind.Int (typed_of [] (number 100)))) (typed_as_number account l)
    ∙ ap (two_of (Ok (literal account))) (typed_as_number 100 (omega arith))

accounts_resolved : (more account : ℕ) → account + more ≤ 101 → each (tuple_as acct.columns) (written_accounts account more) ≡ Ok (accounts_from account more)
accounts_resolved zero account l = refl
accounts_resolved (suc more) account l =
    ap (λ (a : Answer (List Expr)). a >>= λ x. (each (tuple_as acct.columns) (written_accounts (account + 1) more) >>= λ xs. Ok (x ∷ xs))) (account_resolved account (omega (arith, l)))
    ∙ ap (λ (a : Answer (List (List Expr))). a >>= λ xs. Ok ((literal account ∷ literal 100 ∷ []) ∷ xs)) (accounts_resolved more (account + 1) (omega (arith, l)))

account_unnamed : (account : ℕ) → tuple_names (written_account account) ≡ []
account_unnamed account =
    ap (λ (ns : List (List ℕ)). ns ++ (names_in (number 100) ++ [])) (fold_number names_step account)
    ∙ ap (λ (ns : List (List ℕ)). ns ++ []) (fold_number names_step 100)

accounts_unnamed : (more account : ℕ) → flat_map tuple_names (written_accounts account more) ≡ []
accounts_unnamed zero account = refl
accounts_unnamed (suc more) account =
    ap (λ (ns : List (List ℕ)). ns ++ flat_map tuple_names (written_accounts (account + 1) more)) (account_unnamed account)
    ∙ accounts_unnamed more (account + 1)

-- what an INSERT is, by the names in it and its rows
abbrev insert_of : List (List ℕ) → Answer (List (List Expr)) → Answer Stmt
insert_of ns rows = names_right acct.columns [] (map Used ns) >>= λ names. ((rows >>= λ xs. Ok (stmt.Insert (record { 0 = 0 }) xs)) >>= λ s. key_kept acct.dist s)

load_resolved : stmt_of Tables written_load ≡ Ok loading
load_resolved =
    ap (λ (ns : List (List ℕ)). insert_of ns (each (tuple_as acct.columns) (written_accounts 0 64))) (accounts_unnamed 64 0)
    ∙ ap (insert_of []) (accounts_resolved 64 0 (omega arith))

hundred : decimal 100 ≡ codes "100"
hundred =
    decimal_step 100 (omega arith) (omega arith)
    ∙ ap (λ (t : List ℕ). t ++ 48 ∷ []) (decimal_step 10 (omega arith) (omega arith) ∙ ap (λ (t : List ℕ). t ++ 48 ∷ []) (decimal_digit 1 (omega arith)))

account_text : (account : ℕ) → tuple_text (written_account account) ≡ pair_text account
account_text account =
    ap (λ (t : List ℕ). codes "(" ++ ((t ++ ((codes ", " ++ expr_text (number 100)) ++ [])) ++ codes ")")) (ap shape_text (number_shape account))
    ∙ ap (λ (t : List ℕ). codes "(" ++ ((decimal account ++ ((codes ", " ++ t) ++ [])) ++ codes ")")) (ap shape_text (number_shape 100) ∙ hundred)
    ∙ ap (λ (t : List ℕ). codes "(" ++ t) (append_assoc (decimal account) (codes ", 100") (codes ")"))

accounts_text : (more account : ℕ) → flat_map (λ t. codes ", " ++ tuple_text t) (written_accounts (account + 1) more) ≡ pairs_from account more
accounts_text zero account = sym (pairs-none account)
accounts_text (suc more) account =
    ap (λ (t : List ℕ). (codes ", " ++ t) ++ flat_map (λ t. codes ", " ++ tuple_text t) (written_accounts (account + 1 + 1) more)) (account_text (account + 1))
    ∙ ap (λ (t : List ℕ). (codes ", " ++ pair_text (account + 1)) ++ t) (accounts_text more (account + 1))
    ∙ sym (pairs-suc account more)

abbrev pub inserting_text : List ℕ
inserting_text = codes "INSERT INTO acct VALUES " ++ (pair_text 0 ++ pairs_from 0 63)

load_written : stmt_text written_load ≡ inserting_text
load_written =
    ap (λ (t : List ℕ). codes "INSERT INTO acct VALUES " ++ (t ++ flat_map (λ t. codes ", " ++ tuple_text t) (written_accounts 1 63))) (account_text 0)
    ∙ ap (λ (t : List ℕ). codes "INSERT INTO acct VALUES " ++ (pair_text 0 ++ t)) (accounts_text 63 0)

pub load_read : ReadsAs Tables loading inserting_text
load_read = subst (ReadsAs Tables loading) load_written
    (read_back written_load loading
    (acct_name, (account_clear 0 (omega arith), accounts_all TupleClear account_clear 63 1 (omega arith)))
    (omega arith, (account_within 0 (omega arith), accounts_all (TupleWithin the_limits) account_within 63 1 (omega arith)))
    load_resolved)
