-- The command that a session has under way, by its line.
use Rattle.std.proofs.Common.{◌≡◌, ◌↔◌, Bool, true, IsTrue, Option, Some, None, refl, sym, subst, ◌∙◌}
use Rattle.gx_ids.specs.declared.ids.Cid.{Cid}
use Rattle.gx_ids.specs.declared.ids.Gxid.{Gxid}
use Rattle.gx_ids.specs.declared.ids.SessionId.{SessionId}
use Rattle.gx_lemmas.proofs.Options.{some-same}
use Rattle.gx_script.specs.declared.Script.{Script}
use Rattle.gx_store.specs.Commands.{IsUnderWay, RunsLine, state_at}
use Rattle.gx_store.specs.Lines.{is_command, level_of, transaction_of}
use Rattle.gx_store.specs.Points.{Point, before}
use Rattle.gx_tree.specs.declared.stmt.Level.{Level}
use Rattle.gx_tree.specs.declared.stmt.Stmt.{Stmt}
use Rattle.gx_legal.specs.Commands.{IsCommandOf}
use Rattle.gx_legal.specs.Deeds.{Doing, IsByCommandOf, May}

module _ (script : Script) (point : Point) (session : SessionId) (g : Gxid) (c : Cid) where
  -- which statement is under way, at which level
  abbrev pub IsFound : Option Stmt → Type 0
  IsFound found = (stmt : Stmt) (level : Level) → IsUnderWay script point session stmt level g c ↔ ((found ≡ Some stmt) × (level ≡ level_of (state_at script session point)))

  pub found-none : ((stmt : Stmt) → (None ≡ Some stmt) ↔ RunsLine script point session stmt) → IsFound None
  found-none runs stmt level = (λ u. absurd (none ((runs stmt).1 u.runs.line)), λ e. absurd (none e.0))
    where
      none : {A : Type 0} {x : A} → None ≡ Some x → ⊥
      none e = cc

  pub found-unless : (transaction_of (state_at script session point) session (before point) ≡ Some g → ⊥) → IsFound None
  found-unless other stmt level = (λ u. absurd (other u.runs.transaction), λ e. absurd (none e.0))
    where
      none : {A : Type 0} {x : A} → None ≡ Some x → ⊥
      none e = cc

  pub found-some : (line : Stmt) → ((stmt : Stmt) → (Some line ≡ Some stmt) ↔ RunsLine script point session stmt) → IsCommandOf script point session line g c → IsFound (Some line)
  found-some line runs is stmt level = (
    λ u. ((runs stmt).1 u.runs.line, u.runs.isolation),
    λ e. record {
      runs = record {
        line = (runs stmt).0 e.0;
        command = subst (λ s. is_command (state_at script session point) s ≡ true) (some-same line stmt e.0) is.command;
        transaction = is.transaction;
        number = is.number;
        isolation = e.1;
      };
      running = is.running;
    },
  )

  pub found-other : (line : Stmt) → ((stmt : Stmt) → (Some line ≡ Some stmt) ↔ RunsLine script point session stmt) → (IsCommandOf script point session line g c → ⊥) → IsFound None
  found-other line runs other stmt level = (
    λ u. absurd (other (record {
      command = subst (λ s. is_command (state_at script session point) s ≡ true) (sym (some-same line stmt ((runs stmt).1 u.runs.line))) u.runs.command;
      transaction = u.runs.transaction;
      number = u.runs.number;
      running = u.running;
    })),
    λ e. absurd (none e.0),
  )
    where
      none : {A : Type 0} {x : A} → None ≡ Some x → ⊥
      none e = cc

pub by-some : (script : Script) (point : Point) (session : SessionId) (doing : Doing) (line : Stmt) (level : Level) (b : Bool) → IsFound script point session doing.g doing.c (Some line)
    → level ≡ level_of (state_at script session point) → IsTrue b ↔ May script doing line level → IsTrue b ↔ IsByCommandOf script point doing session
by-some script point session doing line level b found at may = (
  λ t. (line, level, (found line level).1 (refl, at), may.0 t),
  λ by. let e = (found by.0 by.1).0 by.2 in may.1 (subst (λ s. May script doing s level) (sym (some-same line by.0 e.0)) (subst (λ l. May script doing by.0 l) (e.1 ∙ sym at) by.3)),
)

pub by-none : (script : Script) (point : Point) (session : SessionId) (doing : Doing) → IsFound script point session doing.g doing.c None → IsByCommandOf script point doing session → ⊥
by-none script point session doing found by = none (((found by.0 by.1).0 by.2).0)
  where
    none : {A : Type 0} {x : A} → None ≡ Some x → ⊥
    none e = cc

-- A LINE
module _ (script : Script) (point : Point) (session : SessionId) (Q : Stmt → Type 0) where
  pub line-some : (line : Stmt) (b : Bool) → ((stmt : Stmt) → (Some line ≡ Some stmt) ↔ RunsLine script point session stmt) → IsTrue b ↔ Q line
      → IsTrue b ↔ ((stmt : Stmt) × RunsLine script point session stmt × Q stmt)
  line-some line b runs is = (λ t. (line, (runs line).0 refl, is.0 t), λ of. is.1 (subst Q (sym (some-same line of.0 ((runs of.0).1 of.1))) of.2))

  pub line-none : ((stmt : Stmt) → (None ≡ Some stmt) ↔ RunsLine script point session stmt) → (stmt : Stmt) × RunsLine script point session stmt × Q stmt → ⊥
  line-none runs of = none ((runs of.0).1 of.1)
    where
      none : {A : Type 0} {x : A} → None ≡ Some x → ⊥
      none e = cc

  -- what is asked of whichever line is under way
  pub every-some : (line : Stmt) (b : Bool) → ((stmt : Stmt) → (Some line ≡ Some stmt) ↔ RunsLine script point session stmt) → IsTrue b ↔ Q line
      → IsTrue b ↔ ((stmt : Stmt) → RunsLine script point session stmt → Q stmt)
  every-some line b runs is = (λ t stmt of. subst Q (some-same line stmt ((runs stmt).1 of)) (is.0 t), λ all. is.1 (all line ((runs line).0 refl)))

  pub every-none : ((stmt : Stmt) → (None ≡ Some stmt) ↔ RunsLine script point session stmt) → (stmt : Stmt) → RunsLine script point session stmt → Q stmt
  every-none runs stmt of = absurd (none ((runs stmt).1 of))
    where
      none : {A : Type 0} {x : A} → None ≡ Some x → ⊥
      none e = cc
