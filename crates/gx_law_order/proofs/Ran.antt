-- The command of each EXEC was under way when it was sent.
use Rattle.std.proofs.Common.{◌≡◌, ◌⊎◌, inl, inr, ℕ, ◌+◌, List, [], ◌∷◌, ◌++◌, Some, refl, sym, subst, ap, ◌∙◌, arith, append-nil}
use Rattle.gx_lemmas.proofs.Numbers.{plus-none}
use Rattle.gx_ids.specs.declared.ids.Cid.{Cid}
use Rattle.gx_ids.specs.declared.ids.Gxid.{Gxid}
use Rattle.gx_ids.specs.declared.ids.Node.{Node}
use Rattle.gx_ids.specs.declared.ids.SessionId.{SessionId}
use Rattle.gx_tree.specs.declared.stmt.Level.{Level}
use Rattle.gx_msg.specs.declared.message.Message.{Message}
use Rattle.gx_msg.specs.declared.message.Message.TheVariants as message
use Rattle.gx_msg.specs.declared.message.Out.{Out}
use Rattle.gx_script.specs.declared.Script.{Script}
use Rattle.gx_store.specs.declared.event.Event.{Event}
use Rattle.gx_store.specs.declared.event.Event.TheVariants as event
use Rattle.gx_store.specs.declared.mark.Mark.{Mark}
use Rattle.gx_store.specs.declared.run.Step.{Step}
use Rattle.gx_store.specs.Commands.{IsUnderWay}
use Rattle.gx_store.specs.Points.{marks_in, starts_in}
use Rattle.gx_store.specs.Refusals.{the_coordinator}
use Rattle.gx_store.proofs.Runs.{marks_in-push, starts_in-push}
use Rattle.gx_rules.specs.Coordinators.{Coord}
use Rattle.gx_rules.specs.Machine.{Letter}
use Rattle.gx_law_order.specs.Lists.{Each}
use Rattle.gx_law_order.specs.Sessions.{Kept}
use Rattle.gx_law_order.specs.Standings.{gx}
use Rattle.gx_law_order.specs.Alive.{HasRun, HaveRun, IsHeard, IsUnderWayBehind, WasUnderWay}
use Rattle.gx_law_order.specs.Scanned.{stmt_of_command}
use Rattle.gx_law_order.specs.Standing.{IsSession}
use Rattle.gx_law_order.proofs.Alive.{behind, under-there}
use Rattle.gx_law_order.proofs.Becoming.{Becomes}
use Rattle.gx_law_order.proofs.Awaited.{IsAwaited, IsAwaitedOut, OutAwaits}
use Rattle.gx_law_order.proofs.Gathers.{GathersIn}
use Rattle.gx_law_order.proofs.Outs.{of-more}

-- THE POINT BEHIND THE LAST STEP
abbrev Ends : List Step → Type 0
Ends steps = (steps ≡ []) ⊎ ((front : List Step) × (s : Step) × (steps ≡ front ++ s ∷ []))

ends : (steps : List Step) → Ends steps
ends [] = inl refl
ends (x ∷ xs) = by_rest (ends xs)
  where
    by_rest : Ends xs → Ends (x ∷ xs)
    by_rest (inl e) = inr ([], x, ap (λ ys. x ∷ ys) e)
    by_rest (inr z) = inr (x ∷ z.0, z.1, ap (λ ys. x ∷ ys) z.2)

pub was-behind : (script : Script) (steps : List Step) (level : Level) (g : Gxid) (c : Cid) → IsUnderWayBehind script steps level g c → WasUnderWay script steps g c
was-behind script steps level g c u = by_end (ends steps)
  where
    here : IsUnderWay script (record { steps = steps; event = event.Round; earlier = []; later = [] }) u.session u.line level g c
    here = u.runs event.Round [] [] refl tt

    none-started : (n : ℕ) → n ≡ 0 → (m : ℕ) → n + 0 ≡ m + 1 → ⊥
    none-started n z m e = omega arith

    by_end : Ends steps → WasUnderWay script steps g c
    by_end (inl e) = absurd (none-started (starts_in u.session steps) (ap (starts_in u.session) e) _ here.runs.line.started)
    by_end (inr z) =
        record {
          line = u.line;
          of = u.of;
          point = record { steps = z.0; event = z.1.event; earlier = z.1.marks; later = [] };
          among = record { step = z.1; rest = []; among = z.2; event = refl; marks = sym (append-nil z.1.marks) };
          session = u.session;
          level = level;
          ran = under-there script _ (record { steps = z.0; event = z.1.event; earlier = z.1.marks; later = [] }) u.session u.line level g c
              (plus-none (starts_in u.session steps) ∙ ap (starts_in u.session) z.2 ∙ starts_in-push u.session z.0 z.1) (append-nil (marks_in steps) ∙ ap marks_in z.2 ∙ marks_in-push z.0 z.1) here;
        }

-- ONE TURN MORE
was-more : (script : Script) (steps new : List Step) (e : Event) (ns : List Mark) → Becomes steps new e ns → (g : Gxid) (c : Cid) → WasUnderWay script steps g c → WasUnderWay script new g c
was-more script steps new e ns b g c w =
    let p = b.points w.point w.among in
    record {
      line = w.line;
      of = λ n. subst (λ m. stmt_of_command script m g c ≡ Some w.line) (sym b.marks) (of-more script (marks_in steps) ns g c w.line (w.of n));
      point = record w.point { later = p.later };
      among = p.of;
      session = w.session;
      level = w.level;
      ran = under-there script w.point (record w.point { later = p.later }) w.session w.line w.level g c refl refl w.ran;
    }

-- OVER ALL LETTERS
-- the command of an EXEC is awaited, or it was under way
abbrev pub RanOf : Script → Coord → List Step → Node → Message → Type 0
RanOf script d steps i (message.Exec g c level x h slice) = IsAwaited (d.works g.0) c i level ⊎ WasUnderWay script steps g c
RanOf script d steps i _ = Unit {0}

abbrev pub LetterRan : Script → Coord → List Step → Letter → Type 0
LetterRan script d steps l = l.from ≡ the_coordinator → RanOf script d steps l.to l.envelope.message

module _ (script : Script) (c : Coord) (steps : List Step) (kept : Kept script c) (all : (j : SessionId) → IsSession script j steps c) (gath : (j : ℕ) → GathersIn script (IsHeard steps) (gx j) (c.works j).command) where
  was-now : (g : Gxid) (k : Cid) (level : Level) (i : Node) → IsAwaited (c.works g.0) k i level ⊎ WasUnderWay script steps g k → WasUnderWay script steps g k
  was-now g k level i (inl a) = was-behind script steps level g k (behind script steps c kept all gath g a.its a.is i a.awaits k level a.counted a.level_is)
  was-now g k level i (inr w) = w

  pub ran-later : (d : Coord) (new : List Step) (e : Event) (ns : List Mark) → Becomes steps new e ns → (i : Node) (m : Message) → RanOf script c steps i m → RanOf script d new i m
  ran-later d new e ns b i (message.Exec g k level x h slice) r = inr (was-more script steps new e ns b g k (was-now g k level i r))
  ran-later d new e ns b i (message.Prepare g) r = tt
  ran-later d new e ns b i (message.Commit g) r = tt
  ran-later d new e ns b i (message.CommitPrepared g) r = tt
  ran-later d new e ns b i (message.Abort g) r = tt
  ran-later d new e ns b i (message.Forget g) r = tt
  ran-later d new e ns b i (message.Collect round) r = tt
  ran-later d new e ns b i (message.Answer g a) r = tt
  ran-later d new e ns b i (message.Graph round graph) r = tt
  ran-later d new e ns b i message.Up r = tt

  pub has-run : (i : Node) (m : Message) → RanOf script c steps i m → HasRun script steps m
  has-run i (message.Exec g k level x h slice) r = was-now g k level i r
  has-run i (message.Prepare g) r = tt
  has-run i (message.Commit g) r = tt
  has-run i (message.CommitPrepared g) r = tt
  has-run i (message.Abort g) r = tt
  has-run i (message.Forget g) r = tt
  has-run i (message.Collect round) r = tt
  has-run i (message.Answer g a) r = tt
  has-run i (message.Graph round graph) r = tt
  has-run i message.Up r = tt

  pub have-run : (ls : List Letter) → Each (LetterRan script c steps) ls → HaveRun script steps ls
  have-run [] e = tt
  have-run (l ∷ ls) e = (λ same. has-run l.to l.envelope.message (e.0 same), have-run ls e.1)

awaited-ran : (script : Script) (d : Coord) (steps : List Step) (i : Node) (m : Message) → IsAwaitedOut d i m → RanOf script d steps i m
awaited-ran script d steps i (message.Exec g k level x h slice) a = inl a
awaited-ran script d steps i (message.Prepare g) a = tt
awaited-ran script d steps i (message.Commit g) a = tt
awaited-ran script d steps i (message.CommitPrepared g) a = tt
awaited-ran script d steps i (message.Abort g) a = tt
awaited-ran script d steps i (message.Forget g) a = tt
awaited-ran script d steps i (message.Collect round) a = tt
awaited-ran script d steps i (message.Answer g r) a = tt
awaited-ran script d steps i (message.Graph round graph) a = tt
awaited-ran script d steps i message.Up a = tt

pub rans-sent : (script : Script) (d : Coord) (steps : List Step) (clock : ℕ) (outs : List Out) → Each (OutAwaits d) outs → Each (λ (o : Out). (number : ℕ) → LetterRan script d steps (record { from = the_coordinator; to = o.node; envelope = record { number = number; clock = clock; incarnation = 1; message = o.message } })) outs
rans-sent script d steps clock [] e = tt
rans-sent script d steps clock (o ∷ outs) e = (λ number same. awaited-ran script d steps o.node o.message e.0, rans-sent script d steps clock outs e.1)
