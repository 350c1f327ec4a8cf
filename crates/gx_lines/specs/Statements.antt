-- Statements.
use Rattle.std.specs.Prelude.{ℕ, Bool, ◌||◌, List, Option, Some, None}
use Rattle.gx_lex.specs.declared.word.Word.TheVariants as word
use Rattle.gx_lex.specs.declared.symbol.Symbol.TheVariants as symbol
use Rattle.gx_lex.specs.declared.token.Token.{Token}
use Rattle.gx_tree.specs.declared.stmt.Level.{Level}
use Rattle.gx_tree.specs.declared.stmt.Level.TheVariants as level
use Rattle.gx_modes.specs.declared.modes.Mode.{Mode}
use Rattle.gx_modes.specs.declared.modes.Mode.TheVariants as mode
use Rattle.gx_grammar.specs.declared.fault.Limits.{Limits}
use Rattle.gx_grammar.specs.declared.syn.Syn.{Syn}
use Rattle.gx_grammar.specs.Rules.{one, both, maybe, made, either, behind, marked, Reading, one_at, both_at, maybe_at, made_at, either_at, behind_at}
use Rattle.gx_grammar.specs.Tokens.{is_word, is_sign, listed, listed_at, enclosed, enclosed_at}
use Rattle.gx_grammar.specs.Grammar.{expr}
use Rattle.gx_grammar.specs.Machine.{expr_at}
use Rattle.gx_lines.specs.declared.classes.Strength.{Strength}
use Rattle.gx_lines.specs.declared.classes.Strength.TheVariants as strength
use Rattle.gx_lines.specs.declared.syn.TupleSyn.{TupleSyn}
use Rattle.gx_lines.specs.declared.syn.AssignSyn.{AssignSyn}
use Rattle.gx_lines.specs.declared.syn.StmtSyn.{StmtSyn}
use Rattle.gx_lines.specs.declared.syn.StmtSyn.TheVariants as stmt_syn
use Rattle.gx_lines.specs.Classes.{strength_of}
use Rattle.gx_lines.specs.Queries.{name, name_at, where_part, where_at, select, select_at}

-- THE RULES
-- level = "READ" "COMMITTED" | "REPEATABLE" "READ"
abbrev pub level_words : Level → List Token → Type 0
level_words = either (made (λ _. level.ReadCommitted) (behind (is_word word.Read) (one (marked (is_word word.Committed)))))
    (made (λ _. level.RepeatableRead) (behind (is_word word.Repeatable) (one (marked (is_word word.Read)))))

abbrev pub level_or : Option Level → StmtSyn
level_or None = stmt_syn.Begin level.ReadCommitted
level_or (Some l) = stmt_syn.Begin l

-- begin = "BEGIN" [ "ISOLATION" "LEVEL" level ]
abbrev pub begin : StmtSyn → List Token → Type 0
begin = made level_or (behind (is_word word.Begin) (maybe (behind (is_word word.Isolation) (behind (is_word word.Level) level_words))))

abbrev pub commit : StmtSyn → List Token → Type 0
commit = made (λ _. stmt_syn.Commit) (one (marked (is_word word.Commit)))

abbrev pub rollback : StmtSyn → List Token → Type 0
rollback = made (λ _. stmt_syn.Rollback) (one (marked (is_word word.Rollback)))

-- tuple = "(" expr { "," expr } ")"
abbrev pub to_tuple : List Syn → TupleSyn
to_tuple values = record { values = values }

abbrev pub tuple : Limits → TupleSyn → List Token → Type 0
tuple d = made to_tuple (enclosed (listed (expr d)))

abbrev pub to_insert : List ℕ × List TupleSyn → StmtSyn
to_insert p = stmt_syn.Insert p.0 p.1

-- insert = "INSERT" "INTO" NAME "VALUES" tuple { "," tuple }
abbrev pub insert : Limits → StmtSyn → List Token → Type 0
insert d = made to_insert (both (behind (is_word word.Insert) (behind (is_word word.Into) (name d))) (behind (is_word word.Values) (listed (tuple d))))

abbrev pub to_assign : List ℕ × Syn → AssignSyn
to_assign p = record { column = p.0; value = p.1 }

-- assign = NAME "=" expr
abbrev pub assign : Limits → AssignSyn → List Token → Type 0
assign d = made to_assign (both (name d) (behind (is_sign symbol.Equal) (expr d)))

abbrev pub to_update : List ℕ × (List AssignSyn × Option Syn) → StmtSyn
to_update p = stmt_syn.Update p.0 p.1.0 p.1.1

-- update = "UPDATE" NAME "SET" assign { "," assign } where
abbrev pub update : Limits → StmtSyn → List Token → Type 0
update d = made to_update (both (behind (is_word word.Update) (name d)) (both (behind (is_word word.Set) (listed (assign d))) (where_part d)))

abbrev pub to_delete : List ℕ × Option Syn → StmtSyn
to_delete p = stmt_syn.Delete p.0 p.1

-- delete = "DELETE" "FROM" NAME where
abbrev pub delete : Limits → StmtSyn → List Token → Type 0
delete d = made to_delete (both (behind (is_word word.Delete) (behind (is_word word.From) (name d))) (where_part d))

abbrev pub access : Strength → Mode
access strength.Share = mode.AccessShare
access strength.Exclusive = mode.AccessExclusive

abbrev pub row : Strength → Mode
row strength.Share = mode.RowShare
row strength.Exclusive = mode.RowExclusive

abbrev pub share_or : Option Mode → Mode
share_or None = mode.Share
share_or (Some m) = m

-- behind SHARE: "UPDATE" "EXCLUSIVE" | "ROW" "EXCLUSIVE"
abbrev pub share_end : Mode → List Token → Type 0
share_end = either (made (λ _. mode.ShareUpdateExclusive) (behind (is_word word.Update) (one (marked (is_word word.Exclusive)))))
    (made (λ _. mode.ShareRowExclusive) (behind (is_word word.Row) (one (marked (is_word word.Exclusive)))))

-- mode = "ACCESS" ("SHARE" | "EXCLUSIVE") | "ROW" ("SHARE" | "EXCLUSIVE") | "SHARE" [ share_end ] | "EXCLUSIVE"
abbrev pub mode_words : Mode → List Token → Type 0
mode_words = either (made access (behind (is_word word.Access) (one strength_of))) (either (made row (behind (is_word word.Row) (one strength_of)))
    (either (made share_or (behind (is_word word.Share) (maybe share_end))) (made (λ _. mode.Exclusive) (one (marked (is_word word.Exclusive))))))

abbrev pub to_lock : List ℕ × (Mode × Unit {0}) → StmtSyn
to_lock p = stmt_syn.Lock p.0 p.1.0

-- lock = "LOCK" "TABLE" NAME "IN" mode "MODE"
abbrev pub lock : Limits → StmtSyn → List Token → Type 0
lock d = made to_lock (both (behind (is_word word.Lock) (behind (is_word word.Table) (name d))) (both (behind (is_word word.In) mode_words) (one (marked (is_word word.Mode)))))

-- stmt = begin | commit | rollback | select | insert | update | delete | lock
abbrev pub stmt : Limits → StmtSyn → List Token → Type 0
stmt d = either begin (either commit (either rollback (either (made stmt_syn.Select (select d)) (either (insert d) (either (update d) (either (delete d) (lock d)))))))

-- THE READERS
abbrev pub level_at : List Token → Reading Level
level_at = either_at (is_word word.Read) (made_at (λ _. level.ReadCommitted)
    (behind_at (is_word word.Read) (one_at (marked (is_word word.Committed))))) (made_at (λ _. level.RepeatableRead)
    (behind_at (is_word word.Repeatable) (one_at (marked (is_word word.Read)))))

abbrev pub isolation_at : List Token → Reading (Option Level)
isolation_at = maybe_at (is_word word.Isolation) (behind_at (is_word word.Isolation) (behind_at (is_word word.Level) level_at))

abbrev pub begin_at : List Token → Reading StmtSyn
begin_at = made_at level_or (behind_at (is_word word.Begin) isolation_at)

abbrev pub commit_at : List Token → Reading StmtSyn
commit_at = made_at (λ _. stmt_syn.Commit) (one_at (marked (is_word word.Commit)))

abbrev pub rollback_at : List Token → Reading StmtSyn
rollback_at = made_at (λ _. stmt_syn.Rollback) (one_at (marked (is_word word.Rollback)))

abbrev pub tuple_at : Limits → List Token → Reading TupleSyn
tuple_at d = made_at to_tuple (enclosed_at (listed_at (expr_at d)))

abbrev pub insert_at : Limits → List Token → Reading StmtSyn
insert_at d = made_at to_insert (both_at (behind_at (is_word word.Insert) (behind_at (is_word word.Into) (name_at d))) (behind_at (is_word word.Values) (listed_at (tuple_at d))))

abbrev pub assign_at : Limits → List Token → Reading AssignSyn
assign_at d = made_at to_assign (both_at (name_at d) (behind_at (is_sign symbol.Equal) (expr_at d)))

abbrev pub update_at : Limits → List Token → Reading StmtSyn
update_at d = made_at to_update (both_at (behind_at (is_word word.Update) (name_at d)) (both_at (behind_at (is_word word.Set) (listed_at (assign_at d))) (where_at d)))

abbrev pub delete_at : Limits → List Token → Reading StmtSyn
delete_at d = made_at to_delete (both_at (behind_at (is_word word.Delete) (behind_at (is_word word.From) (name_at d))) (where_at d))

abbrev pub share_end_at : List Token → Reading Mode
share_end_at = either_at (is_word word.Update) (made_at (λ _. mode.ShareUpdateExclusive)
    (behind_at (is_word word.Update) (one_at (marked (is_word word.Exclusive))))) (made_at (λ _. mode.ShareRowExclusive)
    (behind_at (is_word word.Row) (one_at (marked (is_word word.Exclusive)))))

abbrev pub begins_share_end : Token → Bool
begins_share_end y = is_word word.Update y || is_word word.Row y

abbrev pub share_at : List Token → Reading Mode
share_at = made_at share_or (behind_at (is_word word.Share) (maybe_at begins_share_end share_end_at))

abbrev pub access_at : List Token → Reading Mode
access_at = made_at access (behind_at (is_word word.Access) (one_at strength_of))

abbrev pub row_at : List Token → Reading Mode
row_at = made_at row (behind_at (is_word word.Row) (one_at strength_of))

abbrev pub exclusive_at : List Token → Reading Mode
exclusive_at = made_at (λ _. mode.Exclusive) (one_at (marked (is_word word.Exclusive)))

abbrev pub mode_at : List Token → Reading Mode
mode_at = either_at (is_word word.Access) access_at (either_at (is_word word.Row) row_at (either_at (is_word word.Share) share_at exclusive_at))

abbrev pub lock_at : Limits → List Token → Reading StmtSyn
lock_at d = made_at to_lock (both_at (behind_at (is_word word.Lock) (behind_at (is_word word.Table) (name_at d))) (both_at (behind_at (is_word word.In) mode_at) (one_at (marked (is_word word.Mode)))))

abbrev pub stmt_at : Limits → List Token → Reading StmtSyn
stmt_at d = either_at (is_word word.Begin) begin_at (either_at (is_word word.Commit) commit_at (either_at (is_word word.Rollback) rollback_at
    (either_at (is_word word.Select) (made_at stmt_syn.Select (select_at d)) (either_at (is_word word.Insert) (insert_at d)
    (either_at (is_word word.Update) (update_at d) (either_at (is_word word.Delete) (delete_at d) (lock_at d)))))))
