-- When a command is done: what it goes to, and what comes back.
use Rattle.std.proofs.Common.{◌≡◌, ◌↔◌, ◌∙◌, zero, suc, Bool, true, false, IsTrue, List, []}
use Rattle.std.proofs.Common.{◌∷◌, Some, None, map, refl, sym, subst, ap, arith}
use Rattle.std.specs.List.{AllByRecursion}
use Rattle.std.specs.Prelude.{Contains}
use Rattle.gx_ids.specs.declared.ids.Cid.{Cid}
use Rattle.gx_ids.specs.declared.ids.Gxid.{Gxid}
use Rattle.gx_ids.specs.declared.ids.Node.{Node}
use Rattle.gx_ids.specs.declared.ids.SessionId.{SessionId}
use Rattle.gx_lemmas.proofs.Options.{none-some, some-same}
use Rattle.gx_lemmas.proofs.Tests.{true-false}
use Rattle.gx_meaning.specs.declared.piece.Piece.{Piece}
use Rattle.gx_msg.specs.declared.message.Message.{Message}
use Rattle.gx_msg.specs.declared.message.Message.TheVariants as message
use Rattle.gx_msg.specs.declared.reply.Reply.TheVariants as reply
use Rattle.gx_script.specs.declared.Script.{Script}
use Rattle.gx_store.specs.declared.answer.StmtAnswer.{StmtAnswer}
use Rattle.gx_store.specs.declared.mark.Mark.{Mark}
use Rattle.gx_store.specs.Answers.{IsAtItsEnd, Tells}
use Rattle.gx_store.specs.Parts.{HasSucceeded, IsLineBack, IsLineCaused}
use Rattle.gx_store.specs.declared.answer.Refused.{Refused as Reason}
use Rattle.gx_store.specs.Commands.{state_at}
use Rattle.gx_store.specs.Lines.{BlockState, cid_of, is_command, level_of, state_of, transaction_of}
use Rattle.gx_store.specs.Messages.{HasReceived}
use Rattle.gx_store.specs.Points.{Point, before}
use Rattle.gx_store.specs.Protocol.{IsReturned}
use Rattle.gx_store.specs.Refusals.{IsCause, may_refuse, the_coordinator}
use Rattle.gx_tree.specs.declared.stmt.Level.{Level}
use Rattle.gx_tree.specs.declared.stmt.Stmt.{Stmt}
use Rattle.gx_legal.specs.Done.{AreSent, HasSucceededBy, IsBack, IsPieceBack, node_of}
use Rattle.gx_legal.specs.Words.{HasHeard}
use Rattle.gx_legal.specs.declared.word.Word.TheVariants as word

-- WHAT CAME BACK
pub returned-is : (point : Point) (g : Gxid) (c : Cid) (node : Node) (b : Bool) → IsTrue b ↔ HasHeard g (word.Done c) node the_coordinator point → IsTrue b ↔ IsReturned point g c node
returned-is point g c node b heard = (
  λ t. of (heard.0 t),
  λ r. heard.1
      (message.Answer g (reply.Done c r.wrote r.count r.part), (reply.Done c r.wrote r.count r.part, refl, (r.wrote, r.count, r.part, refl)), r.received),
)
  where
    of : HasHeard g (word.Done c) node the_coordinator point → IsReturned point g c node
    of (told, (answer, e, (wrote, count, part, i)), r) = record {
      wrote = wrote;
      count = count;
      part = part;
      received = subst (λ (t : Message). HasReceived point node the_coordinator t) (e ∙ ap (λ a. message.Answer g a) i) r;
    }

every : (P : Node → Type 0) (pieces : List Piece) → ((node : Node) → Contains (map node_of pieces) node → P node) → AllByRecursion (λ piece. P (node_of piece)) pieces
every P [] f = tt
every P (p ∷ ps) f = (f p.node (0, omega arith, refl), every P ps (λ node h. f node (suc h.0, omega (arith, h.1), h.2)))

all-at : (P : Node → Type 0) (pieces : List Piece) (node : Node) → AllByRecursion (λ piece. P (node_of piece)) pieces → Contains (map node_of pieces) node → P node
all-at P [] node all h = absurd (omega (arith, h.1))
all-at P (p ∷ ps) node all (zero, inside, is) = subst P is all.0
all-at P (p ∷ ps) node all (suc k, inside, is) = all-at P ps node all.1 (k, omega (arith, inside), is)

pub back-is : (script : Script) (point : Point) (g : Gxid) (c : Cid) (line : Stmt) (pieces : List Piece) (b : Bool) → AreSent script g c line pieces
    → IsTrue b ↔ AllByRecursion (IsPieceBack point g c) pieces
    → IsTrue b ↔ IsBack script point g c line
back-is script point g c line pieces b sent all =
    (λ t node goes. all-at (IsReturned point g c) pieces node (all.0 t) ((sent node).0 goes), λ back. all.1 (every (IsReturned point g c) pieces (λ node h. back node ((sent node).1 h))))

-- WHETHER IT HAS SUCCEEDED
module _ (script : Script) (point : Point) (line : Stmt) (reply : StmtAnswer) (state : BlockState) (marks : List Mark) (whole : marks ≡ before point) where
  pub succeeded-by : (g : Gxid) (level : Level) (c : Cid) (b : Bool) → level ≡ level_of state → c ≡ cid_of state → IsAtItsEnd state point g
      → IsTrue b ↔ Tells script marks level g c line reply → IsTrue b ↔ HasSucceededBy script point state g line reply
  succeeded-by g level c b is-level is-number end told = (λ t. (end, there.0 (told.0 t)), λ by. told.1 (there.1 by.1))
    where
      there : Tells script marks level g c line reply ↔ Tells script (before point) (level_of state) g (cid_of state) line reply
      there = subst (λ ms. Tells script marks level g c line reply ↔ Tells script ms (level_of state) g (cid_of state) line reply) whole
          (subst (λ d. Tells script marks level g c line reply ↔ Tells script marks (level_of state) g d line reply) is-number
          (subst (λ l. Tells script marks level g c line reply ↔ Tells script marks l g c line reply) is-level (λ h. h, λ h. h)))

  module _ (session : SessionId) (stands : state ≡ state_of script session marks) where
    pub at-point : state ≡ state_at script session point
    at-point = stands ∙ ap (state_of script session) whole

    pub here : (g : Gxid) → transaction_of (state_of script session marks) session marks ≡ Some g → transaction_of (state_at script session point) session (before point) ≡ Some g
    here g transaction = subst (λ ms. transaction_of (state_of script session ms) session ms ≡ Some g) whole transaction

    pub succeeded-is : (g : Gxid) (b : Bool) → is_command state line ≡ true → transaction_of (state_of script session marks) session marks ≡ Some g → IsTrue b ↔ HasSucceededBy script point state g line reply
        → IsTrue b ↔ HasSucceeded script point session (state_at script session point) line reply
    succeeded-is g b command transaction is = (
      λ t. to (subst (λ s. HasSucceededBy script point s g line reply) at-point (is.0 t)),
      λ done. is.1 (subst (λ s. HasSucceededBy script point s g line reply) (sym at-point) (from done)),
    )
      where
        to : HasSucceededBy script point (state_at script session point) g line reply → HasSucceeded script point session (state_at script session point) line reply
        to by = record { command = subst (λ s. is_command s line ≡ true) at-point command; g = g; transaction = here g transaction; end = by.0; told = by.1 }

        from : HasSucceeded script point session (state_at script session point) line reply → HasSucceededBy script point (state_at script session point) g line reply
        from done = subst (λ h. HasSucceededBy script point (state_at script session point) h line reply) (some-same done.g g (sym done.transaction ∙ here g transaction)) (done.end, done.told)

-- WHAT IS ASKED WHERE A LINE IS A COMMAND, OR MAY BE REFUSED
module _ (script : Script) (point : Point) (line : Stmt) (state : BlockState) (marks : List Mark) (whole : marks ≡ before point) (session : SessionId) (stands : state ≡ state_of script session marks) where
  state-same : state ≡ state_at script session point
  state-same = stands ∙ ap (state_of script session) whole

  none-there : transaction_of (state_of script session marks) session marks ≡ None → (g : Gxid) → transaction_of (state_at script session point) session (before point) ≡ Some g → ⊥
  none-there none g some = none-some _ g (subst (λ ms. transaction_of (state_of script session ms) session ms ≡ None) whole none) some

  one-there : (g h : Gxid) → transaction_of (state_of script session marks) session marks ≡ Some g → transaction_of (state_at script session point) session (before point) ≡ Some h → g ≡ h
  one-there g h one other = some-same g h (sym (subst (λ ms. transaction_of (state_of script session ms) session ms ≡ Some g) whole one) ∙ other)

  pub back-no : is_command state line ≡ false → IsLineBack script point session line
  back-no other is = absurd (true-false _ is (subst (λ s. is_command s line ≡ false) state-same other))

  pub back-none : transaction_of (state_of script session marks) session marks ≡ None → IsLineBack script point session line
  back-none none command g some = absurd (none-there none g some)

  pub back-some : (g : Gxid) (c : Cid) (b : Bool) → is_command state line ≡ true → transaction_of (state_of script session marks) session marks ≡ Some g → c ≡ cid_of state
      → IsTrue b ↔ IsBack script point g c line → IsTrue b ↔ IsLineBack script point session line
  back-some g c b command transaction number is = (λ t. to (is.0 t), λ back. is.1 (from back))
    where
      number-at : c ≡ cid_of (state_at script session point)
      number-at = number ∙ ap cid_of state-same

      to : IsBack script point g c line → IsLineBack script point session line
      to back command h some = subst (λ h. IsBack script point h (cid_of (state_at script session point)) line) (one-there g h transaction some) (subst (λ d. IsBack script point g d line) number-at back)

      from : IsLineBack script point session line → IsBack script point g c line
      from back = subst (λ d. IsBack script point g d line) (sym number-at)
          (back (subst (λ s. is_command s line ≡ true) state-same command) g (subst (λ ms. transaction_of (state_of script session ms) session ms ≡ Some g) whole transaction))

  pub caused-no : (reason : Reason) → may_refuse state line reason ≡ false → IsLineCaused script point session reason line
  caused-no reason other is = absurd (true-false _ is (subst (λ s. may_refuse s line reason ≡ false) state-same other))

  pub caused-none : (reason : Reason) → transaction_of (state_of script session marks) session marks ≡ None → IsLineCaused script point session reason line
  caused-none reason none may g some = absurd (none-there none g some)

  pub caused-some : (reason : Reason) (level : Level) (g : Gxid) (c : Cid) (b : Bool) → may_refuse state line reason ≡ true → transaction_of (state_of script session marks) session marks ≡ Some g
      → level ≡ level_of state → c ≡ cid_of state → IsTrue b ↔ IsCause point line level g c reason → IsTrue b ↔ IsLineCaused script point session reason line
  caused-some reason level g c b may transaction isolation number is = (λ t. to (is.0 t), λ caused. is.1 (from caused))
    where
      level-at : level ≡ level_of (state_at script session point)
      level-at = isolation ∙ ap level_of state-same

      number-at : c ≡ cid_of (state_at script session point)
      number-at = number ∙ ap cid_of state-same

      to : IsCause point line level g c reason → IsLineCaused script point session reason line
      to why may h some = subst (λ h. IsCause point line (level_of (state_at script session point)) h (cid_of (state_at script session point)) reason) (one-there g h transaction some)
          (subst (λ d. IsCause point line (level_of (state_at script session point)) g d reason) number-at (subst (λ l. IsCause point line l g c reason) level-at why))

      from : IsLineCaused script point session reason line → IsCause point line level g c reason
      from caused = subst (λ l. IsCause point line l g c reason) (sym level-at) (subst (λ d. IsCause point line (level_of (state_at script session point)) g d reason) (sym number-at)
          (caused (subst (λ s. may_refuse s line reason ≡ true) state-same may) g (subst (λ ms. transaction_of (state_of script session ms) session ms ≡ Some g) whole transaction)))
