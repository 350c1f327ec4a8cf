use Rattle.std.proofs.lemmas.Result.{IfOk-weaker}
use Rattle.gx_words.proofs.Readings.{known-texts, reads, reads-alone, refused-fault, refused-matches}
use Rattle.gx_words.proofs.words.read_known.Goals as goal

pub returns-in-Ok-clause-read : goal.returns-in-Ok-clause-read
returns-in-Ok-clause-read c =
    IfOk-weaker c.read_matches.result _ _ (λ options. reads _ _ options (known-texts c.args.words.now c.requires) c.in-Ok.ensures.fine c.in-Ok.ensures.found)
    c.read_matches.ensures.taken

pub returns-in-Ok-clause-alone : goal.returns-in-Ok-clause-alone
returns-in-Ok-clause-alone c = IfOk-weaker c.read_matches.result _ _ (λ options. reads-alone _ _ options c.in-Ok.ensures.found) c.read_matches.ensures.taken

pub returns-in-Ok-clause-refused : goal.returns-in-Ok-clause-refused
returns-in-Ok-clause-refused c = refused-matches _ _ c.in-Ok.ensures.found c.read_matches.result c.read_matches.ensures.refused

pub returns-in-Err-clause-refused : goal.returns-in-Err-clause-refused
returns-in-Err-clause-refused c = refused-fault _ _ c.in-Err.ensures.refused
