-- Statements that are within the limits, and whose names and numbers are those of the language.
use Rattle.std.specs.Prelude.{ℕ, ◌≤◌, List, [], ◌∷◌, length, Option, Some, None}
use Rattle.gx_grammar.specs.declared.fault.Limits.{Limits}
use Rattle.gx_grammar.specs.declared.syn.Syn.{Syn}
use Rattle.gx_lines.specs.declared.classes.Size.{Size}
use Rattle.gx_lines.specs.declared.syn.ItemSyn.{ItemSyn}
use Rattle.gx_lines.specs.declared.syn.ItemSyn.TheVariants as item
use Rattle.gx_lines.specs.declared.syn.ItemsSyn.{ItemsSyn}
use Rattle.gx_lines.specs.declared.syn.ItemsSyn.TheVariants as items
use Rattle.gx_lines.specs.declared.syn.KeySyn.{KeySyn}
use Rattle.gx_lines.specs.declared.syn.SelectSyn.{SelectSyn}
use Rattle.gx_lines.specs.declared.syn.TupleSyn.{TupleSyn}
use Rattle.gx_lines.specs.declared.syn.AssignSyn.{AssignSyn}
use Rattle.gx_lines.specs.declared.syn.StmtSyn.{StmtSyn}
use Rattle.gx_lines.specs.declared.syn.StmtSyn.TheVariants as stmt
use Rattle.gx_lex.specs.declared.token.Token.{Token}
use Rattle.gx_lex.specs.Lexing.{Lexes}
use Rattle.gx_lines.specs.Statements.{stmt as spelled}
use Rattle.gx_print.specs.Shapes.{IsName, IsNumber, IsClear}
use Rattle.gx_print.specs.Forms.{shape_of, IsShallow}

abbrev pub Each : {A : Type 0} → (A → Type 0) → List A → Type 0
Each P [] = Unit {0}
Each P (x ∷ xs) = P x × Each P xs

-- one at least, and each so
abbrev pub Some_each : {A : Type 0} → (A → Type 0) → List A → Type 0
Some_each P [] = ⊥
Some_each P (x ∷ xs) = P x × Each P xs

-- where there is one, it is so
abbrev pub Maybe : {A : Type 0} → (A → Type 0) → Option A → Type 0
Maybe P None = Unit {0}
Maybe P (Some a) = P a

-- WITHIN THE LIMITS
abbrev pub IsShort : Limits → List ℕ → Type 0
IsShort d n = length n ≤ d.name

abbrev pub ItemWithin : Limits → ItemSyn → Type 0
ItemWithin d (item.Column c) = IsShort d c
ItemWithin d item.Count = Unit {0}
ItemWithin d (item.Agg a c) = IsShort d c

abbrev pub ItemsWithin : Limits → ItemsSyn → Type 0
ItemsWithin d items.All = Unit {0}
ItemsWithin d (items.These xs) = Some_each (ItemWithin d) xs

abbrev pub KeyWithin : Limits → KeySyn → Type 0
KeyWithin d k = IsShort d k.column

pub record SelectWithin (d : Limits) (q : SelectSyn) : Type 0 where
  pub items : ItemsWithin d q.items
  pub table : IsShort d q.table
  pub cond : Maybe (IsShallow d) q.cond
  pub group : Maybe (Some_each (IsShort d)) q.group
  pub order : Maybe (Some_each (KeyWithin d)) q.order

abbrev pub TupleWithin : Limits → TupleSyn → Type 0
TupleWithin d t = Some_each (IsShallow d) t.values

abbrev pub AssignWithin : Limits → AssignSyn → Type 0
AssignWithin d a = IsShort d a.column × IsShallow d a.value

-- its lists have one part at least, its names and texts are short enough, and its expressions are shallow
abbrev pub IsWithin : Limits → StmtSyn → Type 0
IsWithin d (stmt.Select q) = SelectWithin d q
IsWithin d (stmt.Insert t tuples) = IsShort d t × Some_each (TupleWithin d) tuples
IsWithin d (stmt.Update t assigns cond) = IsShort d t × Some_each (AssignWithin d) assigns × Maybe (IsShallow d) cond
IsWithin d (stmt.Delete t cond) = IsShort d t × Maybe (IsShallow d) cond
IsWithin d (stmt.Lock t m) = IsShort d t
IsWithin d _ = Unit {0}

-- CLEAR
abbrev pub SynClear : Syn → Type 0
SynClear syn = IsClear (shape_of syn)

abbrev pub ItemClear : ItemSyn → Type 0
ItemClear (item.Column c) = IsName c
ItemClear item.Count = Unit {0}
ItemClear (item.Agg a c) = IsName c

abbrev pub ItemsClear : ItemsSyn → Type 0
ItemsClear items.All = Unit {0}
ItemsClear (items.These xs) = Some_each ItemClear xs

abbrev pub KeyClear : KeySyn → Type 0
KeyClear k = IsName k.column

abbrev pub SizeClear : Size → Type 0
SizeClear n = IsNumber n.0

pub record SelectClear (q : SelectSyn) : Type 0 where
  pub items : ItemsClear q.items
  pub table : IsName q.table
  pub cond : Maybe SynClear q.cond
  pub group : Maybe (Some_each IsName) q.group
  pub order : Maybe (Some_each KeyClear) q.order
  pub limit : Maybe SizeClear q.limit

abbrev pub TupleClear : TupleSyn → Type 0
TupleClear t = Some_each SynClear t.values

abbrev pub AssignClear : AssignSyn → Type 0
AssignClear a = IsName a.column × SynClear a.value

-- its lists have one part at least, its names are names of the language, and its numbers have 64 bits
abbrev pub StmtClear : StmtSyn → Type 0
StmtClear (stmt.Select q) = SelectClear q
StmtClear (stmt.Insert t tuples) = IsName t × Some_each TupleClear tuples
StmtClear (stmt.Update t assigns cond) = IsName t × Some_each AssignClear assigns × Maybe SynClear cond
StmtClear (stmt.Delete t cond) = IsName t × Maybe SynClear cond
StmtClear (stmt.Lock t m) = IsName t
StmtClear _ = Unit {0}

-- these bytes are cut into tokens that the rules of the language spell as this statement
abbrev pub IsPrintedAs : Limits → StmtSyn → List ℕ → Type 0
IsPrintedAs d s bytes = (ts : List Token) × Lexes ts bytes × spelled d s ts
