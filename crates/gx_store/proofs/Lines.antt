-- Where a session stands after joined lists of marks.
use Rattle.std.proofs.Common.{◌≡◌, cond, List, [], ◌∷◌, ◌++◌, refl}
use Rattle.gx_ids.specs.declared.ids.SessionId.{SessionId}
use Rattle.gx_script.specs.declared.Script.{Script}
use Rattle.gx_store.specs.declared.mark.Mark.{Mark}
use Rattle.gx_store.specs.declared.mark.Mark.TheVariants.{Answer}
use Rattle.gx_store.specs.Lines.{BlockState, state_after_line, state_from, stmt_of}
use Rattle.gx_store.specs.Marks.{is_same_session}

pub state_from-append : (script : Script) (session : SessionId) (state : BlockState) (xs ys : List Mark) → state_from script session state (xs ++ ys) ≡ state_from script session (state_from script session state xs) ys
state_from-append script session state [] ys = refl
state_from-append script session state (Answer s n reply ∷ xs) ys =
    state_from-append script session (cond (is_same_session s session) (state_after_line state (stmt_of session n script.lines) reply) state) xs ys
state_from-append script session state (_ ∷ xs) ys = state_from-append script session state xs ys
