use Rattle.gx_law_merge.proofs.Taking.{coordinator-takes, segment-takes}
use Rattle.gx_law_merge.proofs.apart.marks_tell_what_journals_take.Goals as goal

pub returns : goal.returns
returns c =
    record {
      coordinator = λ script c here fails. coordinator-takes script c here fails;
      segment = λ script seg here fails. segment-takes script seg here fails;
    }
