use Rattle.std.proofs.Common.{◌∷◌, ◌∙◌}
use Rattle.gx_lex.proofs.Lengths.{found_by_length}
use Rattle.gx_lex.proofs.shape.of_shape.Goals as goal

pub returns-in-0 : goal.returns-in-0
returns-in-0 c rest e = found_by_length 0 (c.args.first ∷ rest) (e ∙ c.in-0.is)

pub returns-in-1 : goal.returns-in-1
returns-in-1 c rest e = found_by_length 1 (c.args.first ∷ rest) (e ∙ c.in-1.is)

pub returns-in-2 : goal.returns-in-2
returns-in-2 c rest e = c.of_two.ensures rest ∙ found_by_length 2 (c.args.first ∷ rest) (e ∙ c.in-2.is)

pub returns-in-3 : goal.returns-in-3
returns-in-3 c rest e = c.of_three.ensures rest ∙ found_by_length 3 (c.args.first ∷ rest) (e ∙ c.in-3.is)

pub returns-in-4 : goal.returns-in-4
returns-in-4 c rest e = c.of_four.ensures rest ∙ found_by_length 4 (c.args.first ∷ rest) (e ∙ c.in-4.is)

pub returns-in-5 : goal.returns-in-5
returns-in-5 c rest e = c.of_five.ensures rest ∙ found_by_length 5 (c.args.first ∷ rest) (e ∙ c.in-5.is)

pub returns-in-6 : goal.returns-in-6
returns-in-6 c rest e = c.of_six.ensures rest ∙ found_by_length 6 (c.args.first ∷ rest) (e ∙ c.in-6.is)

pub returns-in-7 : goal.returns-in-7
returns-in-7 c rest e = found_by_length 7 (c.args.first ∷ rest) (e ∙ c.in-7.is)

pub returns-in-8 : goal.returns-in-8
returns-in-8 c rest e = c.of_eight.ensures rest ∙ found_by_length 8 (c.args.first ∷ rest) (e ∙ c.in-8.is)

pub returns-in-9 : goal.returns-in-9
returns-in-9 c rest e = c.of_nine.ensures rest ∙ found_by_length 9 (c.args.first ∷ rest) (e ∙ c.in-9.is)

pub returns-in-10 : goal.returns-in-10
returns-in-10 c rest e = c.of_ten.ensures rest ∙ found_by_length 10 (c.args.first ∷ rest) (e ∙ c.in-10.is)

pub returns-in-11 : goal.returns-in-11
returns-in-11 c rest e = c.of_eleven.ensures rest ∙ found_by_length 11 (c.args.first ∷ rest) (e ∙ c.in-11.is)
