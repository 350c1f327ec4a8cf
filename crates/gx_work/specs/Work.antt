-- The script of generated work: 64 accounts of 100 each on four segments, and a hundred times eight transfers between them.
use Rattle.std.specs.Prelude.{ℕ, ◌+◌, zero, suc, pos, true, List, [], ◌∷◌, ◌++◌, map, take, drop, Some, codes}
use Rattle.gx_tree.specs.declared.value.Value.TheVariants as value
use Rattle.gx_tree.specs.declared.expr.ArithOp.{ArithOp}
use Rattle.gx_tree.specs.declared.expr.ArithOp.TheVariants as arith
use Rattle.gx_tree.specs.declared.expr.Expr.{Expr}
use Rattle.gx_tree.specs.declared.expr.Expr.TheVariants as expr
use Rattle.gx_tree.specs.declared.cond.CmpOp.TheVariants as cmp
use Rattle.gx_tree.specs.declared.cond.Cond.TheVariants as cond
use Rattle.gx_tree.specs.declared.schema.Kind.TheVariants as kind
use Rattle.gx_tree.specs.declared.schema.Dist.TheVariants as dist
use Rattle.gx_tree.specs.declared.schema.Schema.{Schema}
use Rattle.gx_tree.specs.declared.stmt.Level.TheVariants as level
use Rattle.gx_tree.specs.declared.stmt.Stmt.{Stmt}
use Rattle.gx_tree.specs.declared.stmt.Stmt.TheVariants as stmt
use Rattle.gx_script.specs.declared.Line.{Line}
use Rattle.gx_script.specs.declared.Script.{Script}
use Rattle.gx_work.specs.declared.transfer.Transfer.{Transfer}
use Rattle.gx_work.specs.Text.{transfers_from, words_of}

-- table acct (id bigint, bal bigint) distributed by (id)
abbrev pub acct : Schema
acct = record { name = codes "acct"; columns = record { name = codes "id"; kind = kind.Int } ∷ record { name = codes "bal"; kind = kind.Int } ∷ []; dist = dist.By 0 }

abbrev pub literal : ℕ → Expr
literal n = expr.Lit (value.Int (pos n))

-- the accounts from this one on, so many of them, with 100 each
abbrev pub accounts_from : ℕ → ℕ → List (List Expr)
accounts_from account zero = []
accounts_from account (suc more) = (literal account ∷ literal 100 ∷ []) ∷ accounts_from (account + 1) more

-- INSERT INTO acct VALUES (0, 100), (1, 100), .., (63, 100)
abbrev pub loading : Stmt
loading = stmt.Insert (record { 0 = 0 }) (accounts_from 0 64)

-- UPDATE acct SET bal = bal - amount WHERE id = account, or with +
abbrev pub changing : ArithOp → ℕ → ℕ → Stmt
changing op amount account = stmt.Update (record { 0 = 0 }) (record { col = 1; expr = expr.Bin op (expr.Col 1) (literal amount) } ∷ []) (Some (cond.Cmp cmp.Eq (expr.Col 0) (literal account)))

-- what a transfer does in its four lines
abbrev pub opening : Transfer → Stmt
opening t = stmt.Begin level.RepeatableRead

abbrev pub taking : Transfer → Stmt
taking t = changing arith.Sub t.amount t.from

abbrev pub giving : Transfer → Stmt
giving t = changing arith.Add t.amount t.to

abbrev pub ending : Transfer → Stmt
ending t = stmt.Commit

-- the line of this number in a session; the session that loads the accounts is the first, with the place 0, so that s1 has the place 1
abbrev pub line_in : ℕ → ℕ → Stmt → Line
line_in session number s = record { session = record { 0 = session }; number = number; stmt = s }

-- a pass over the transfers, each line the one of this number in its session
abbrev pub pass_lines : ℕ → (Transfer → Stmt) → List Transfer → List Line
pass_lines number does ts = map (λ t. line_in t.session number (does t)) ts

-- four passes over eight transfers, whose sessions have had so many lines before
abbrev pub batch_lines : ℕ → List Transfer → List Line
batch_lines before ts = pass_lines (before + 1) opening ts ++ pass_lines (before + 2) taking ts ++ pass_lines (before + 3) giving ts ++ pass_lines (before + 4) ending ts

-- so many batches of 24 words each, eight transfers of three words
unfoldable pub batches_lines : ℕ → ℕ → List ℕ → List Line
batches_lines before zero words = []
batches_lines before (suc more) words = batch_lines before (transfers_from 1 (take 24 words)) ++ batches_lines (before + 4) more (drop 24 words)

-- the session that loads the accounts, and eight that transfer
abbrev pub session_names : List (List ℕ)
session_names = codes "load" ∷ codes "s1" ∷ codes "s2" ∷ codes "s3" ∷ codes "s4" ∷ codes "s5" ∷ codes "s6" ∷ codes "s7" ∷ codes "s8" ∷ []

-- the script of the transfers that these words draw
abbrev pub drawn_script : List ℕ → Script
drawn_script words = record {
  segments = 4;
  detector = true;
  tables = acct ∷ [];
  sessions = session_names;
  lines = line_in 0 1 loading ∷ batches_lines 0 100 words;
  faults = [];
  groups = [];
  restarts = [];
}

-- the script of a number
abbrev pub work_script : ℕ → Script
work_script number = drawn_script (words_of number)
