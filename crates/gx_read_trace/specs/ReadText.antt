-- What bytes are read as: their lines one after another, and what is named where the machine stops.
use Rattle.std.specs.Prelude.{ℕ, ◌+◌, ◌==◌, if◌then◌else◌, List, [], ◌∷◌, Option, Some, None, Result, Ok, Err}
use Rattle.gx_script.specs.declared.Script.{Script}
use Rattle.gx_trace.specs.declared.seen.Seen.{Seen}
use Rattle.gx_read_trace.specs.Machine.{Mid, ended, next_line, start}

-- one byte more at the front
abbrev pub put : ℕ → List (List ℕ) × List ℕ → List (List ℕ) × List ℕ
put b ([], left) = ([], b ∷ left)
put b (l ∷ ls, left) = ((b ∷ l) ∷ ls, left)

abbrev pub by_feed : ℕ → List (List ℕ) × List ℕ → List (List ℕ) × List ℕ
by_feed b x = if b == 10 then ([] ∷ x.0, x.1) else put b x

-- the lines that a line feed ends, and what stands behind the last
abbrev pub cut : List ℕ → List (List ℕ) × List ℕ
cut [] = ([], [])
cut (b ∷ bs) = by_feed b (cut bs)

-- at the end of the bytes, where the next line has this number
abbrev pub told : ℕ → List ℕ → Option Seen → Result Seen ℕ
told n [] (Some seen) = Ok seen
told n [] None = Err n
told n (b ∷ bs) o = Err n

abbrev pub read_lines : Script → ℕ → List (List ℕ) → List ℕ → Option Mid → Result Seen ℕ
read_lines script n ls left None = Err n
read_lines script n [] left (Some m) = told (n + 1) left (ended m.so_far m.next)
read_lines script n (l ∷ ls) left (Some m) = read_lines script (n + 1) ls left (next_line script m.so_far m.next l)

-- what is seen, or the number of the line at which no text goes on, from 1
abbrev pub read_text : Script → List ℕ → Result Seen ℕ
read_text script bytes = read_lines script 0 (cut bytes).0 (cut bytes).1 (Some (start script))
