-- What the lines of a script have said so far, and what a further one adds.
use Rattle.std.specs.Prelude.{ℕ, ◌+◌, ◌==◌, nat_eq, Bool, true, false, not, if◌then◌else◌, ◌&&◌, List, [], ◌∷◌, ◌++◌, length, Option, Some, None, Result, Ok, Err, is_some}
use Rattle.std.specs.Cmp.Lexicographic.{pointwise}
use Rattle.std.specs.List.{list_any}
use Rattle.gx_tree.specs.declared.schema.Schema.{Schema}
use Rattle.gx_tree.specs.declared.stmt.Stmt.{Stmt}
use Rattle.gx_script.specs.declared.Line.{Line}
use Rattle.gx_script.specs.declared.LinkFault.{LinkFault}
use Rattle.gx_lines.specs.declared.classes.Switch.{Switch}
use Rattle.gx_lines.specs.declared.classes.Switch.TheVariants as switch
use Rattle.gx_lines.specs.declared.classes.Fate.{Fate}
use Rattle.gx_lines.specs.declared.classes.Fate.TheVariants as fate
use Rattle.gx_lines.specs.declared.classes.Way.{Way}
use Rattle.gx_lines.specs.declared.classes.Way.TheVariants as way
use Rattle.gx_lines.specs.declared.classes.Segments.{Segments}
use Rattle.gx_lines.specs.declared.syn.GroupSyn.{GroupSyn}
use Rattle.gx_lines.specs.declared.syn.LinkSyn.{LinkSyn}
use Rattle.gx_lines.specs.declared.syn.StmtSyn.{StmtSyn}
use Rattle.gx_lines.specs.declared.syn.TableSyn.{TableSyn}
use Rattle.gx_lines.specs.declared.syn.LineSyn.{LineSyn}
use Rattle.gx_lines.specs.declared.syn.LineSyn.TheVariants as line_syn
use Rattle.gx_resolve.specs.declared.fault.NameFault.{NameFault}
use Rattle.gx_resolve.specs.declared.fault.NameFault.TheVariants as name_fault
use Rattle.gx_resolve.specs.Resolving.{table_after, stmt_of, table_from}
use Rattle.gx_sql.specs.Groups.{is_group, with_members}
use Rattle.gx_sql.specs.declared.groups.GroupHead.{GroupHead}
use Rattle.gx_sql.specs.declared.refusal.LineFault.{LineFault}
use Rattle.gx_sql.specs.declared.refusal.LineFault.TheVariants as fault

-- the sessions stand by their names in the order of their first lines, each with the number of its lines; and those of groups in the order of their heads, each with the place of its group
pub record Progress : Type 0 where
  pub segments : Option ℕ
  pub detector : Option Bool
  pub tables : List Schema
  pub sessions : List (List ℕ × ℕ)
  pub lines : List Line
  pub faults : List LinkFault
  pub groups : List GroupHead
  pub members : List (List ℕ × ℕ)

abbrev pub start : Progress
start = record { segments = None; detector = None; tables = []; sessions = []; lines = []; faults = []; groups = []; members = [] }

abbrev pub fault_of : NameFault → LineFault
fault_of name_fault.Syntax = fault.Syntax
fault_of name_fault.UnknownTable = fault.UnknownTable
fault_of name_fault.UnknownColumn = fault.UnknownColumn
fault_of name_fault.TableExists = fault.TableExists
fault_of name_fault.TypeMismatch = fault.TypeMismatch
fault_of name_fault.KeyUpdate = fault.KeyUpdate

abbrev pub giving : {A B : Type 0} → (A → B) → Result A NameFault → Result B LineFault
giving f (Ok a) = Ok (f a)
giving f (Err e) = Err (fault_of e)

abbrev pub is_on : Switch → Bool
is_on switch.On = true
is_on switch.Off = false

-- a second line of the detector is wrong
abbrev pub with_detector : Progress → Switch → Result Progress LineFault
with_detector p s = if is_some p.detector then Err fault.Syntax else Ok (record p { detector = Some (is_on s) })

abbrev pub is_known : List ℕ → List Schema → Bool
is_known name tables = is_some (table_after 0 name tables)

abbrev pub with_table : Progress → TableSyn → Result Progress LineFault
with_table p t = giving (λ schema. record p { tables = p.tables ++ schema ∷ [] }) (table_from (is_known t.name p.tables) t)

abbrev pub is_to : Way → Bool
is_to way.To = true
is_to way.From = false

abbrev pub is_repeat : Fate → Bool
is_repeat fate.Lose = false
is_repeat fate.Repeat = true

abbrev pub link_fault : LinkSyn → LinkFault
link_fault l = record { to_segment = is_to l.way; segment = record { 0 = l.segment }; number = l.number; repeat = is_repeat l.fate }

abbrev pub same_way : Bool → Bool → Bool
same_way true b = b
same_way false b = not b

abbrev pub same_fault : LinkFault → LinkFault → Bool
same_fault a b = same_way a.to_segment b.to_segment && ((a.segment.0 == b.segment.0) && ((a.number == b.number) && same_way a.repeat b.repeat))

-- a fault that was told already isn't told again
abbrev pub with_fault : LinkFault → List LinkFault → List LinkFault
with_fault fault faults = if list_any (same_fault fault) faults then faults else faults ++ fault ∷ []

abbrev pub with_link : Progress → LinkSyn → Result Progress LineFault
with_link p l = Ok (record p { faults = with_fault (link_fault l) p.faults })

abbrev pub with_sessions : Progress → GroupSyn → Result (List (List ℕ × ℕ)) LineFault → Result Progress LineFault
with_sessions p g (Err f) = Err f
with_sessions p g (Ok members) = Ok (record p { groups = p.groups ++ record { name = g.name; limit = g.limit } ∷ []; members = members })

-- a group whose name is known, and a session that stands in a group already, are wrong
abbrev pub with_group : Progress → GroupSyn → Result Progress LineFault
with_group p g = if is_group g.name p.groups then Err fault.Syntax else with_sessions p g (with_members (length p.groups) g.sessions (Ok p.members))

-- the place of a name, or the next one
abbrev pub place_of : List ℕ → List (List ℕ × ℕ) → ℕ
place_of name [] = 0
place_of name (s ∷ ss) = if pointwise nat_eq name s.0 then 0 else place_of name ss + 1

-- how many lines a session has
abbrev pub count_of : List ℕ → List (List ℕ × ℕ) → ℕ
count_of name [] = 0
count_of name (s ∷ ss) = if pointwise nat_eq name s.0 then s.1 else count_of name ss

-- the sessions with so many lines of this one
abbrev pub counted : List ℕ → ℕ → List (List ℕ × ℕ) → List (List ℕ × ℕ)
counted name n [] = (name, n) ∷ []
counted name n (s ∷ ss) = if pointwise nat_eq name s.0 then (s.0, n) ∷ ss else s ∷ counted name n ss

-- a further line of a session
abbrev pub next_line : List ℕ → List (List ℕ × ℕ) → Stmt → Line
next_line name sessions stmt = record { session = record { 0 = place_of name sessions }; number = count_of name sessions + 1; stmt = stmt }

abbrev pub with_line : Progress → List ℕ → Stmt → Progress
with_line p name stmt = record p { sessions = counted name (count_of name p.sessions + 1) p.sessions; lines = p.lines ++ next_line name p.sessions stmt ∷ [] }

abbrev pub with_session : Progress → List ℕ → StmtSyn → Result Progress LineFault
with_session p name s = giving (with_line p name) (stmt_of p.tables s)

abbrev pub with_segments : Progress → Segments → Result Progress LineFault
with_segments p n = Ok (record p { segments = Some n.0 })

-- what a line adds behind that of the segments
abbrev pub with_line_syn : Progress → LineSyn → Result Progress LineFault
with_line_syn p (line_syn.Detector s) = with_detector p s
with_line_syn p (line_syn.Table t) = with_table p t
with_line_syn p (line_syn.Link l) = with_link p l
with_line_syn p (line_syn.Group g) = with_group p g
with_line_syn p (line_syn.Session name s) = with_session p name s
