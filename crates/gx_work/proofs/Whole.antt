-- Generated work is a script.
use Rattle.std.proofs.Common.{◌≡◌, inl, ℕ, List, [], ◌∷◌, ◌++◌, length, Ok, refl, subst, append-nil, arith}
use Rattle.gx_sql.specs.Lines.{lines_of}
use Rattle.gx_sql.specs.Progress.{start}
use Rattle.gx_sql.specs.Script.{ReadsOn, Reads}
use Rattle.gx_sql.proofs.Unique.{reads_one}
use Rattle.gx_print.specs.OneLine.{IsReadAs}
use Rattle.gx_work.specs.Text.{batches_text, head_text, words_of, work_text}
use Rattle.gx_work.proofs.Nexts.{length-words_of}
use Rattle.gx_work.specs.Work.{batches_lines, drawn_script, line_in, loading, work_script}
use Rattle.gx_work.proofs.Heads.{heads_lead}
use Rattle.gx_work.proofs.Leading.{Leads, at, join}
use Rattle.gx_work.proofs.Passes.{batches, batches_count, part}

module _ (words : List ℕ) (long : length words ≡ 2400) where
  abbrev Text : List ℕ
  Text = head_text ++ batches_text 100 words

  leads : Leads 3203 Text start (at (part 0 400) (line_in 0 1 loading ∷ batches_lines 0 100 words))
  leads = join heads_lead (batches 100 0 words (line_in 0 1 loading) [] long)

  reads : Reads Text (Ok (drawn_script words))
  reads = inl (leads.coded, subst (λ (t : List ℕ). ReadsOn 1 start (lines_of t) (Ok (drawn_script words))) (append-nil Text) (leads.reads 1 [] (Ok (drawn_script words)) (omega arith) refl))

  pub drawn_read : IsReadAs Text (drawn_script words)
  drawn_read = record { is = reads; only = λ r h. reads_one Text r (Ok (drawn_script words)) h reads }

pub work_read : (number : ℕ) → IsReadAs (work_text number) (work_script number)
work_read number = drawn_read (words_of number) (length-words_of number)

pub work_count : (number : ℕ) → length (work_script number).lines ≡ 3201
work_count number = let others = batches_count 100 0 (words_of number) (length-words_of number) in omega (arith, others)
