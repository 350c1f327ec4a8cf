-- Heads, and whole lines.
use Rattle.std.specs.Prelude.{ℕ, Bool, ◌||◌, List, Option}
use Rattle.gx_lex.specs.declared.word.Word.TheVariants as word
use Rattle.gx_lex.specs.declared.symbol.Symbol.TheVariants as symbol
use Rattle.gx_lex.specs.declared.token.Token.{Token}
use Rattle.gx_grammar.specs.declared.fault.Limits.{Limits}
use Rattle.gx_grammar.specs.Rules.{one, both, maybe, made, either, behind, marked, Reading, one_at, both_at, maybe_at, made_at, either_at, behind_at}
use Rattle.gx_grammar.specs.Tokens.{is_word, is_sign, listed, listed_at, enclosed, enclosed_at}
use Rattle.gx_lines.specs.declared.classes.KindSyn.{KindSyn}
use Rattle.gx_lines.specs.declared.classes.Fate.{Fate}
use Rattle.gx_lines.specs.declared.classes.Way.{Way}
use Rattle.gx_lines.specs.declared.classes.Segments.{Segments}
use Rattle.gx_lines.specs.declared.syn.ColumnSyn.{ColumnSyn}
use Rattle.gx_lines.specs.declared.syn.DistSyn.{DistSyn}
use Rattle.gx_lines.specs.declared.syn.DistSyn.TheVariants as dist_syn
use Rattle.gx_lines.specs.declared.syn.StmtSyn.{StmtSyn}
use Rattle.gx_lines.specs.declared.syn.LineSyn.{LineSyn}
use Rattle.gx_lines.specs.declared.syn.LineSyn.TheVariants as line_syn
use Rattle.gx_lines.specs.Classes.{switch_of, kind_of, fate_of, way_of, segments_of, number_in}
use Rattle.gx_lines.specs.Queries.{name, name_at}
use Rattle.gx_lines.specs.Statements.{stmt, stmt_at}

-- THE RULES
-- segments = "segments" NUMBER
abbrev pub segments : Limits → Segments → List Token → Type 0
segments d = behind (is_word word.Segments) (one (segments_of d))

-- detector = "detector" ("on" | "off")
abbrev pub detector : LineSyn → List Token → Type 0
detector = made line_syn.Detector (behind (is_word word.Detector) (one switch_of))

abbrev pub to_column : List ℕ × KindSyn → ColumnSyn
to_column p = record { name = p.0; kind = p.1 }

-- col = NAME ("bigint" | "text")
abbrev pub column : Limits → ColumnSyn → List Token → Type 0
column d = made to_column (both (name d) (one kind_of))

-- dist = "by" "(" NAME ")" | "randomly"
abbrev pub dist : Limits → DistSyn → List Token → Type 0
dist d = either (made dist_syn.By (behind (is_word word.By) (enclosed (name d)))) (made (λ _. dist_syn.Randomly) (one (marked (is_word word.Randomly))))

abbrev pub to_table : List ℕ × (List ColumnSyn × DistSyn) → LineSyn
to_table p = line_syn.Table (record { name = p.0; columns = p.1.0; dist = p.1.1 })

-- table = "table" NAME "(" col { "," col } ")" "distributed" dist
abbrev pub table : Limits → LineSyn → List Token → Type 0
table d = made to_table (both (behind (is_word word.Table) (name d)) (both (enclosed (listed (column d))) (behind (is_word word.Distributed) (dist d))))

abbrev pub to_link : Fate × (Way × (ℕ × ℕ)) → LineSyn
to_link p = line_syn.Link (record { fate = p.0; way = p.1.0; segment = p.1.1.0; number = p.1.1.1 })

-- link = ("lose" | "repeat") ("to" | "from") NUMBER "number" NUMBER, the first number being a segment's, the second from 1 to 18446744073709551615
abbrev pub link : ℕ → LineSyn → List Token → Type 0
link n = made to_link (both (one fate_of) (both (one way_of) (both (one (number_in 1 n)) (behind (is_word word.Number) (one (number_in 1 18446744073709551615))))))

abbrev pub to_group : List ℕ × (ℕ × List (List ℕ)) → LineSyn
to_group p = line_syn.Group (record { name = p.0; limit = p.1.0; sessions = p.1.1 })

-- group = "group" NAME "limit" NUMBER "in" NAME { "," NAME }, the number being from 1 to 18446744073709551615
abbrev pub group : Limits → LineSyn → List Token → Type 0
group d = made to_group (both (behind (is_word word.Group) (name d)) (both (behind (is_word word.Limit) (one (number_in 1 18446744073709551615))) (behind (is_word word.In) (listed (name d)))))

abbrev pub to_session : List ℕ × (StmtSyn × Option (Unit {0})) → LineSyn
to_session p = line_syn.Session p.0 p.1.0

-- line = NAME ":" stmt [ ";" ]
abbrev pub session_line : Limits → LineSyn → List Token → Type 0
session_line d = made to_session (both (name d) (both (behind (is_sign symbol.Colon) (stmt d)) (maybe (one (marked (is_sign symbol.Semicolon))))))

-- a head behind the segments, or a line; there are n segments
abbrev pub head_line : ℕ → Limits → LineSyn → List Token → Type 0
head_line n d = either detector (either (table d) (either (link n) (either (group d) (session_line d))))

-- THE READERS
abbrev pub segments_at : Limits → List Token → Reading Segments
segments_at d = behind_at (is_word word.Segments) (one_at (segments_of d))

abbrev pub detector_at : List Token → Reading LineSyn
detector_at = made_at line_syn.Detector (behind_at (is_word word.Detector) (one_at switch_of))

abbrev pub column_at : Limits → List Token → Reading ColumnSyn
column_at d = made_at to_column (both_at (name_at d) (one_at kind_of))

abbrev pub dist_at : Limits → List Token → Reading DistSyn
dist_at d = either_at (is_word word.By) (made_at dist_syn.By (behind_at (is_word word.By) (enclosed_at (name_at d)))) (made_at (λ _. dist_syn.Randomly) (one_at (marked (is_word word.Randomly))))

abbrev pub table_at : Limits → List Token → Reading LineSyn
table_at d = made_at to_table (both_at (behind_at (is_word word.Table) (name_at d)) (both_at (enclosed_at (listed_at (column_at d))) (behind_at (is_word word.Distributed) (dist_at d))))

abbrev pub is_fate : Token → Bool
is_fate y = is_word word.Lose y || is_word word.Repeat y

abbrev pub link_at : ℕ → List Token → Reading LineSyn
link_at n = made_at to_link (both_at (one_at fate_of) (both_at (one_at way_of) (both_at (one_at (number_in 1 n)) (behind_at (is_word word.Number) (one_at (number_in 1 18446744073709551615))))))

abbrev pub group_at : Limits → List Token → Reading LineSyn
group_at d = made_at to_group (both_at (behind_at (is_word word.Group) (name_at d)) (both_at (behind_at (is_word word.Limit) (one_at (number_in 1 18446744073709551615))) (behind_at (is_word word.In) (listed_at (name_at d)))))

abbrev pub end_at : List Token → Reading (Option (Unit {0}))
end_at = maybe_at (is_sign symbol.Semicolon) (one_at (marked (is_sign symbol.Semicolon)))

abbrev pub session_at : Limits → List Token → Reading LineSyn
session_at d = made_at to_session (both_at (name_at d) (both_at (behind_at (is_sign symbol.Colon) (stmt_at d)) end_at))

abbrev pub head_at : ℕ → Limits → List Token → Reading LineSyn
head_at n d = either_at (is_word word.Detector) detector_at (either_at (is_word word.Table) (table_at d) (either_at is_fate (link_at n) (either_at (is_word word.Group) (group_at d) (session_at d))))
