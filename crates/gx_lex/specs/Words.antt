-- The keywords of the script language.
use Rattle.std.specs.Prelude.{ℕ, ◌==◌, nat_eq, if◌then◌else◌, List, [], ◌∷◌, length, filter, Option, Some, None, codes}
use Rattle.std.specs.Cmp.Lexicographic.{pointwise}
use Rattle.gx_lex.specs.declared.word.Word.{Word}
use Rattle.gx_lex.specs.declared.word.Word.TheVariants.{Segments, Detector, On, Off, Table, Bigint, Text, Distributed, By, Randomly, Lose, Repeat, To, From, Number, Begin, Isolation, Level, Read, Committed, Repeatable, Commit, Rollback, Select, Group, Order, Limit, Insert, Into, Values, Update, Set, Delete, Where, Lock, In, Mode, Access, Share, Row, Exclusive, Count, Sum, Min, Max, Asc, Desc, Or, And, Not}

-- the place among the keywords
abbrev pub number_of : Word → ℕ
number_of Segments = 0
number_of Detector = 1
number_of On = 2
number_of Off = 3
number_of Table = 4
number_of Bigint = 5
number_of Text = 6
number_of Distributed = 7
number_of By = 8
number_of Randomly = 9
number_of Lose = 10
number_of Repeat = 11
number_of To = 12
number_of From = 13
number_of Number = 14
number_of Begin = 15
number_of Isolation = 16
number_of Level = 17
number_of Read = 18
number_of Committed = 19
number_of Repeatable = 20
number_of Commit = 21
number_of Rollback = 22
number_of Select = 23
number_of Group = 24
number_of Order = 25
number_of Limit = 26
number_of Insert = 27
number_of Into = 28
number_of Values = 29
number_of Update = 30
number_of Set = 31
number_of Delete = 32
number_of Where = 33
number_of Lock = 34
number_of In = 35
number_of Mode = 36
number_of Access = 37
number_of Share = 38
number_of Row = 39
number_of Exclusive = 40
number_of Count = 41
number_of Sum = 42
number_of Min = 43
number_of Max = 44
number_of Asc = 45
number_of Desc = 46
number_of Or = 47
number_of And = 48
number_of Not = 49

-- how a keyword is spelled, in small letters
abbrev pub text_of : Word → List ℕ
text_of Segments = codes "segments"
text_of Detector = codes "detector"
text_of On = codes "on"
text_of Off = codes "off"
text_of Table = codes "table"
text_of Bigint = codes "bigint"
text_of Text = codes "text"
text_of Distributed = codes "distributed"
text_of By = codes "by"
text_of Randomly = codes "randomly"
text_of Lose = codes "lose"
text_of Repeat = codes "repeat"
text_of To = codes "to"
text_of From = codes "from"
text_of Number = codes "number"
text_of Begin = codes "begin"
text_of Isolation = codes "isolation"
text_of Level = codes "level"
text_of Read = codes "read"
text_of Committed = codes "committed"
text_of Repeatable = codes "repeatable"
text_of Commit = codes "commit"
text_of Rollback = codes "rollback"
text_of Select = codes "select"
text_of Group = codes "group"
text_of Order = codes "order"
text_of Limit = codes "limit"
text_of Insert = codes "insert"
text_of Into = codes "into"
text_of Values = codes "values"
text_of Update = codes "update"
text_of Set = codes "set"
text_of Delete = codes "delete"
text_of Where = codes "where"
text_of Lock = codes "lock"
text_of In = codes "in"
text_of Mode = codes "mode"
text_of Access = codes "access"
text_of Share = codes "share"
text_of Row = codes "row"
text_of Exclusive = codes "exclusive"
text_of Count = codes "count"
text_of Sum = codes "sum"
text_of Min = codes "min"
text_of Max = codes "max"
text_of Asc = codes "asc"
text_of Desc = codes "desc"
text_of Or = codes "or"
text_of And = codes "and"
text_of Not = codes "not"

abbrev pub all_words : List Word
all_words = Segments ∷ Detector ∷ On ∷ Off ∷ Table ∷ Bigint ∷ Text ∷ Distributed ∷ By ∷ Randomly ∷ Lose ∷ Repeat ∷ To ∷ From ∷ Number ∷ Begin
    ∷ Isolation ∷ Level ∷ Read ∷ Committed ∷ Repeatable ∷ Commit ∷ Rollback ∷ Select ∷ Group ∷ Order ∷ Limit ∷ Insert ∷ Into ∷ Values ∷ Update ∷ Set
    ∷ Delete ∷ Where ∷ Lock ∷ In ∷ Mode ∷ Access ∷ Share ∷ Row ∷ Exclusive ∷ Count ∷ Sum ∷ Min ∷ Max ∷ Asc ∷ Desc ∷ Or ∷ And ∷ Not ∷ []

-- the first of these keywords that is spelled so
abbrev pub find : List ℕ → List Word → Option Word
find text [] = None
find text (k ∷ ks) = if pointwise nat_eq (text_of k) text then Some k else find text ks

-- the keyword that is spelled so
abbrev pub keyword_of : List ℕ → Option Word
keyword_of text = find text all_words

-- the keywords of so many letters
abbrev pub of_length : ℕ → List Word
of_length n = filter (λ word. length (text_of word) == n) all_words
