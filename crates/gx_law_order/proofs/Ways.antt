-- What the coordinator's events keep: one transaction changes, and the others stay.
use Rattle.std.proofs.Common.{◌≡◌, ℕ, ◌+◌, List, [], ◌∷◌, ◌++◌, Option, Some, None, Bool, true, false, refl, sym, subst, ap, ◌∙◌, if◌then◌else◌, ◌||◌, arith, eqb, append-nil}
use Rattle.std.proofs.lemmas.Bool.{eqb-true}
use Rattle.std.proofs.lemmas.Bool.Decides.{nat_tests}
use Rattle.std.proofs.lemmas.List.{append_assoc}
use Rattle.std.specs.Prelude.{nat_le}
use Rattle.gx_lemmas.proofs.Numbers.{plus-none}
use Rattle.gx_lemmas.proofs.Tests.{or-false}
use Rattle.gx_ids.specs.declared.ids.Gxid.{Gxid}
use Rattle.gx_ids.specs.declared.ids.Node.{Node}
use Rattle.gx_dtx.specs.Rules.{begun}
use Rattle.gx_dtx.specs.Table.{Table, find_txn, new_txn}
use Rattle.gx_dtx.specs.declared.phase.Phase.{Phase as Status}
use Rattle.gx_dtx.specs.declared.phase.Phase.TheVariants as status
use Rattle.gx_dtx.specs.declared.txn.Txn.{Txn}
use Rattle.gx_msg.specs.declared.message.Message.{Message}
use Rattle.gx_msg.specs.declared.message.Message.TheVariants as message
use Rattle.gx_msg.specs.declared.message.Out.{Out}
use Rattle.gx_script.specs.declared.Script.{Script}
use Rattle.gx_store.specs.declared.mark.Mark.{Mark}
use Rattle.gx_store.specs.declared.mark.Mark.TheVariants as mark
use Rattle.gx_store.specs.Marks.{is_aborted, is_committed}
use Rattle.gx_store.specs.Protocol.{AreSeveral, CommitsBy, Decides, decided_count, is_writer, local_count, prepared_count, writers_of}
use Rattle.gx_store.specs.Refusals.{the_coordinator}
use Rattle.gx_rules.specs.Coordinators.{Command, Coord, CoordTurn, Work, rests}
use Rattle.gx_law_order.proofs.Ends.{begun-finds}
use Rattle.gx_law_order.proofs.Lines.{undrawn}
use Rattle.gx_law_order.specs.Lists.{Each}
use Rattle.gx_law_order.proofs.Past.{aborted-append, committed-append}
use Rattle.gx_law_order.specs.Stages.{IsWhole}
use Rattle.gx_law_order.specs.Pairs.{Pair}
use Rattle.gx_law_order.specs.Said.{Said, gxid_in, is_answer}
use Rattle.gx_law_order.specs.Standings.{Known, Part, Standing, at, gx, known_at, known_of, standing, waits_in}
use Rattle.gx_law_order.specs.Standings.Standing.{Unborn, Live, Preparing, One as OneWriter, Two}
use Rattle.gx_law_order.proofs.Commits.{Decision, decision-append}
use Rattle.gx_law_order.proofs.Counts.{NoPart, decided-append, local-append, no-local, no-prepared, no-writer, prepared-append, writer-append}
use Rattle.gx_law_order.proofs.Nodes.{AreApart}
use Rattle.gx_law_order.proofs.Shifts.{Shift, born, born-shift}

-- a segment's part agrees with the marks
pub record IsOf (p : Part) (ms : List Mark) (i g : ℕ) : Type 0 where
  pub wrote : is_writer ms (gx g) (at i) ≡ p.wrote
  pub promises : prepared_count ms (at i) (gx g) ≡ p.promises
  pub commits : local_count ms (at i) (gx g) ≡ p.commits

pub part-append : (p : Part) (ms ns : List Mark) (i g : ℕ) → Each NoPart ns → IsOf p ms i g → IsOf p (ms ++ ns) i g
part-append p ms ns i g e o =
    record {
      wrote = writer-append ms ns (gx g) (at i) ∙ ap (λ b. is_writer ms (gx g) (at i) || b) (no-writer ns (gx g) (at i) e) ∙ or-false (is_writer ms (gx g) (at i)) ∙ o.wrote;
      promises = prepared-append ms ns (at i) (gx g) ∙ ap (λ n. prepared_count ms (at i) (gx g) + n) (no-prepared ns (at i) (gx g) e) ∙ plus-none (prepared_count ms (at i) (gx g)) ∙ o.promises;
      commits = local-append ms ns (at i) (gx g) ∙ ap (λ n. local_count ms (at i) (gx g) + n) (no-local ns (at i) (gx g) e) ∙ plus-none (local_count ms (at i) (gx g)) ∙ o.commits;
    }

-- WHAT THE COORDINATOR'S MARKS FOLLOW
abbrev pub FolAt : Script → List Mark → Mark → Type 0
FolAt script ms (mark.Commit g) = CommitsBy (writers_of script ms g) ms g
FolAt script ms (mark.Decided g) = Decides script ms g
FolAt script ms (mark.Abort g) = (decided_count ms g ≡ 0) × ((segment : Node) → local_count ms segment g ≡ 0)
FolAt script ms (mark.Write g c n t r x) = ⊥
FolAt script ms (mark.Prepared n g) = ⊥
FolAt script ms (mark.LocalCommit n g) = ⊥
FolAt script ms (mark.Sent to number told) = ⊥
FolAt script ms (mark.Skip g c r) = ⊥
FolAt script ms (mark.Fault g c r x) = (x ≡ None) × (is_aborted ms g ≡ false)
FolAt script ms (mark.JournalFailed n g) = (n ≡ the_coordinator) × Decides script ms g
FolAt script ms _ = Unit {0}

abbrev pub Fol : Script → List Mark → List Mark → Type 0
Fol script ms [] = Unit {0}
Fol script ms (m ∷ ns) = FolAt script ms m × Fol script (ms ++ m ∷ []) ns

pub fol-append : (script : Script) (ms xs ys : List Mark) → Fol script ms xs → Fol script (ms ++ xs) ys → Fol script ms (xs ++ ys)
fol-append script ms [] ys e f = subst (λ b. Fol script b ys) (append-nil ms) f
fol-append script ms (x ∷ xs) ys e f = (e.0, fol-append script (ms ++ x ∷ []) xs ys e.1 (subst (λ b. Fol script b ys) (sym (append_assoc ms (x ∷ []) xs)) f))

no-part-one : (script : Script) (ms : List Mark) (m : Mark) → FolAt script ms m → NoPart m
no-part-one script ms (mark.Write g c n t r x) e = e
no-part-one script ms (mark.Prepared n g) e = e
no-part-one script ms (mark.LocalCommit n g) e = e
no-part-one script ms m e = tt

pub fol-no-part : (script : Script) (ms ns : List Mark) → Fol script ms ns → Each NoPart ns
fol-no-part script ms [] e = tt
fol-no-part script ms (m ∷ ns) e = (no-part-one script ms m e.0, fol-no-part script (ms ++ m ∷ []) ns e.1)

-- WHAT IS KEPT OF A TRANSACTION
-- the writers that are asked are those that are known
abbrev pub AgreesIn : List Mark → ℕ → Status → List Node → Type 0
AgreesIn ms g (status.Preparing xs awaited) ws = (xs ≡ ws) × AreSeveral ws
AgreesIn ms g (status.CommittingTwo awaited) ws = AreSeveral ws × Decision ms ws g
AgreesIn ms g (status.Ended awaited) ws = is_committed ms (gx g) ≡ true
AgreesIn ms g _ ws = Unit {0}

abbrev pub Agrees : List Mark → ℕ → Option Txn → List Node → Type 0
Agrees ms g None ws = Unit {0}
Agrees ms g (Some t) ws = AgreesIn ms g t.phase ws

agrees-in-append : (ms ns : List Mark) (g : ℕ) (p : Status) (ws : List Node) → AgreesIn ms g p ws → AgreesIn (ms ++ ns) g p ws
agrees-in-append ms ns g (status.Preparing xs awaited) ws e = e
agrees-in-append ms ns g (status.CommittingTwo awaited) ws e = (e.0, decision-append ms ns ws g e.1)
agrees-in-append ms ns g status.Active ws e = tt
agrees-in-append ms ns g (status.CommittingOne w) ws e = tt
agrees-in-append ms ns g (status.Ended awaited) ws e = committed-append ms ns (gx g) ∙ ap (λ b. b || is_committed ns (gx g)) e
agrees-in-append ms ns g (status.Aborting awaited) ws e = tt

pub agrees-append : (ms ns : List Mark) (g : ℕ) (t : Option Txn) (ws : List Node) → Agrees ms g t ws → Agrees (ms ++ ns) g t ws
agrees-append ms ns g None ws e = tt
agrees-append ms ns g (Some t) ws e = agrees-in-append ms ns g t.phase ws e

-- the command under way
abbrev pub IsOrderOf : ℕ → ℕ → Message → Type 0
IsOrderOf g last (message.Exec h c level snapshot horizon slice) = (h.0 ≡ g) × (c.0 ≡ last)
IsOrderOf g last _ = ⊥

abbrev pub CommandOf : ℕ → ℕ → Option Command → Type 0
CommandOf g last None = Unit {0}
CommandOf g last (Some k) = (k.cid.0 ≡ last) × Each (λ (o : Out). IsOrderOf g last o.message) k.orders

pub record Working (g : ℕ) (w : Work) : Type 0 where
  pub apart : AreApart w.writers
  pub command : CommandOf g w.last w.command

-- where a transaction stands that is told so
abbrev pub IsToldFrom : Standing → Message → Type 0
IsToldFrom a (message.Exec g c level snapshot horizon slice) = ⊥
IsToldFrom a (message.Prepare g) = a ≡ Preparing true
IsToldFrom a (message.Commit g) = a ≡ OneWriter true
IsToldFrom a (message.CommitPrepared g) = a ≡ Two true
IsToldFrom a _ = Unit {0}

abbrev pub stands_for : Coord → ℕ → Gxid → Standing
stands_for d i g = standing (nat_le d.table.next.0 g.0) (find_txn d.table g) i

-- a command that is sent is the one whose answer is awaited, and so is an order
abbrev pub AsksFor : Coord → ℕ → Message → Type 0
AsksFor d i (message.Exec g c level snapshot horizon slice) = (waits_in (d.works g.0).command i ≡ true) × (c.0 ≡ (d.works g.0).last)
AsksFor d i (message.Prepare g) = stands_for d i g ≡ Preparing true
AsksFor d i (message.Commit g) = stands_for d i g ≡ OneWriter true
AsksFor d i (message.CommitPrepared g) = stands_for d i g ≡ Two true
AsksFor d i _ = Unit {0}

pub asks-from : (d : Coord) (i g : ℕ) (a : Standing) (m : Message) → gxid_in m ≡ g → stands_for d i (gx g) ≡ a → IsToldFrom a m → AsksFor d i m
asks-from d i g a (message.Exec h c level x y z) e s f = absurd f
asks-from d i g a (message.Prepare h) e s f = subst (λ (n : ℕ). stands_for d i (gx n) ≡ Preparing true) (sym e) (s ∙ f)
asks-from d i g a (message.Commit h) e s f = subst (λ (n : ℕ). stands_for d i (gx n) ≡ OneWriter true) (sym e) (s ∙ f)
asks-from d i g a (message.CommitPrepared h) e s f = subst (λ (n : ℕ). stands_for d i (gx n) ≡ Two true) (sym e) (s ∙ f)
asks-from d i g a (message.Abort h) e s f = tt
asks-from d i g a (message.Forget h) e s f = tt
asks-from d i g a (message.Collect round) e s f = tt
asks-from d i g a (message.Answer h r) e s f = tt
asks-from d i g a (message.Graph round graph) e s f = tt
asks-from d i g a message.Up e s f = tt

-- WHAT ALWAYS STANDS, AND HOW ONE LEADS TO THE NEXT
module _ (script : Script) (P : ℕ → ℕ → Part) where
  pub record Stands (c : Coord) (ms : List Mark) : Type 0 where
    pub pairs : (i g : ℕ) → Pair (known_at c ms i g) (P i g)
    pub works : (g : ℕ) → Working g (c.works g)
    pub agrees : (g : ℕ) → Agrees ms g (find_txn c.table (gx g)) (c.works g).writers
    pub parts : (i g : ℕ) → IsOf (P i g) ms i g

  -- without a mark
  pub record Same (c : Coord) (ms : List Mark) (d : Coord) : Type 0 where
    pub stands : Stands d ms
    pub stays : (i g : ℕ) (m : Message) → Said (known_at c ms i g) (P i g) m → Said (known_at d ms i g) (P i g) m

  pub record Way (c : Coord) (ms : List Mark) (d : Coord) (ns : List Mark) : Type 0 where
    pub stands : Stands d (ms ++ ns)
    pub stays : (i g : ℕ) (m : Message) → Said (known_at c ms i g) (P i g) m → Said (known_at d (ms ++ ns) i g) (P i g) m
    pub fol : Fol script ms ns

  abbrev pub SaidOut : Coord → List Mark → Out → Type 0
  SaidOut d ms o = (is_answer o.message ≡ false) × Said (known_at d ms o.node.0 (gxid_in o.message)) (P o.node.0 (gxid_in o.message)) o.message × AsksFor d o.node.0 o.message

  pub record Led (c : Coord) (ms : List Mark) (turn : CoordTurn) : Type 0 where
    pub way : Way c ms turn.coord turn.marks
    pub outs : Each (SaidOut turn.coord (ms ++ turn.marks)) turn.outs

  pub way-same : (c : Coord) (ms : List Mark) (d : Coord) → Way c ms d [] → Same c ms d
  way-same c ms d w =
      record { stands = subst (Stands d) (append-nil ms) w.stands; stays = λ i g m s. subst (λ x. Said (known_at d x i g) (P i g) m) (append-nil ms) (w.stays i g m s) }

  pub rest-led : (c : Coord) (ms : List Mark) (d : Coord) → Same c ms d → Led c ms (rests d)
  rest-led c ms d w =
      record {
        way = record { stands = subst (Stands d) (sym (append-nil ms)) w.stands; stays = λ i g m s. subst (λ x. Said (known_at d x i g) (P i g) m) (sym (append-nil ms)) (w.stays i g m s); fol = tt };
        outs = tt;
      }

  pub same-then : (c : Coord) (ms : List Mark) (d : Coord) (turn : CoordTurn) → Same c ms d → Led d ms turn → Led c ms turn
  same-then c ms d turn w f = record { way = record { stands = f.way.stands; stays = λ i g m s. f.way.stays i g m (w.stays i g m s); fol = f.way.fol }; outs = f.outs }

  -- marks that stand before
  pub way-then : (c : Coord) (ms : List Mark) (d : Coord) (ns : List Mark) (turn late : CoordTurn) → Way c ms d ns → Led d (ms ++ ns) turn → late.coord ≡ turn.coord → late.marks ≡ ns ++ turn.marks → late.outs ≡ turn.outs → Led c ms late
  way-then c ms d ns turn late w f a b o =
      record {
        way = record {
          stands = subst (λ x. Stands x (ms ++ late.marks)) (sym a) (subst (Stands turn.coord) here f.way.stands);
          stays = λ i g m s. subst (λ x. Said (known_at x (ms ++ late.marks) i g) (P i g) m) (sym a) (subst (λ x. Said (known_at turn.coord x i g) (P i g) m) here (f.way.stays i g m (w.stays i g m s)));
          fol = subst (Fol script ms) (sym b) (fol-append script ms ns turn.marks w.fol f.way.fol);
        };
        outs = subst (Each (SaidOut late.coord (ms ++ late.marks))) (sym o) (subst (λ x. Each (SaidOut x (ms ++ late.marks)) turn.outs) (sym a) (subst (λ x. Each (SaidOut turn.coord x) turn.outs) here f.outs));
      }
    where
      here : (ms ++ ns) ++ turn.marks ≡ ms ++ late.marks
      here = append_assoc ms ns turn.marks ∙ ap (λ x. ms ++ x) (sym b)

  -- ONE TRANSACTION
  pub known-eq : (i : ℕ) (a b : Standing) (v w : Work) (d e : ℕ) (x y z u : Bool) → a ≡ b → v ≡ w → d ≡ e → x ≡ y → z ≡ u → known_of a v i d x z ≡ known_of b w i e y u
  known-eq i a b v w d e x y z u p q r s t =
      ap (λ a. known_of a v i d x z) p ∙ ap (λ v. known_of b v i d x z) q ∙ ap (λ d. known_of b w i d x z) r ∙ ap (λ x. known_of b w i e x z) s ∙ ap (λ z. known_of b w i e y z) t

  pub record One (c d : Coord) (ms ns : List Mark) (g : ℕ) (now : Option Txn) (w : Work) : Type 0 where
    pub next : d.table.next ≡ c.table.next
    pub finds : (h : ℕ) → find_txn d.table (gx h) ≡ (if eqb h g then now else find_txn c.table (gx h))
    pub works : (h : ℕ) → d.works h ≡ (if eqb h g then w else c.works h)
    pub others : (h : ℕ) → eqb h g ≡ false → (decided_count ns (gx h) ≡ 0) × (is_aborted ns (gx h) ≡ false) × (is_committed ns (gx h) ≡ false)

  abbrev pub becomes : Coord → List Mark → List Mark → ℕ → Option Txn → Work → ℕ → Known
  becomes c ms ns g now w i =
      known_of (standing (nat_le c.table.next.0 g) now i) w i (decided_count ms (gx g) + decided_count ns (gx g)) (is_aborted ms (gx g) || is_aborted ns (gx g)) (is_committed ms (gx g) || is_committed ns (gx g))

  module _ (c d : Coord) (ms ns : List Mark) (g : ℕ) (now : Option Txn) (w : Work) (o : One c d ms ns g now w) where
    pub known-here : (i : ℕ) → known_at d (ms ++ ns) i g ≡ becomes c ms ns g now w i
    known-here i =
        known-eq i _ _ _ _ _ _ _ _ _ _ (ap (λ (n : Gxid). standing (nat_le n.0 g) (find_txn d.table (gx g)) i) o.next ∙ ap (λ t. standing (nat_le c.table.next.0 g) t i) (o.finds g ∙ ap (λ b. if b then now else find_txn c.table (gx g)) (self g)))
        (o.works g ∙ ap (λ b. if b then w else c.works g) (self g)) (decided-append ms ns (gx g)) (aborted-append ms ns (gx g)) (committed-append ms ns (gx g))
      where
        self : (a : ℕ) → eqb a a ≡ true
        self a = grind (arith, nat_tests)

    known-there : (i h : ℕ) → eqb h g ≡ false → known_at d (ms ++ ns) i h ≡ known_at c ms i h
    known-there i h e =
        let x = o.others h e in
        known-eq i _ _ _ _ _ _ _ _ _ _ (ap (λ (n : Gxid). standing (nat_le n.0 h) (find_txn d.table (gx h)) i) o.next ∙ ap (λ t. standing (nat_le c.table.next.0 h) t i) (o.finds h ∙ ap (λ b. if b then now else find_txn c.table (gx h)) e))
        (o.works h ∙ ap (λ b. if b then w else c.works h) e) (decided-append ms ns (gx h) ∙ ap (λ n. decided_count ms (gx h) + n) x.0 ∙ plus-none (decided_count ms (gx h)))
        (aborted-append ms ns (gx h) ∙ ap (λ b. is_aborted ms (gx h) || b) x.1 ∙ or-false (is_aborted ms (gx h))) (committed-append ms ns (gx h) ∙ ap (λ b. is_committed ms (gx h) || b) x.2 ∙ or-false (is_committed ms (gx h)))

    pub at-one : Stands c ms → ((i : ℕ) → Shift (known_at c ms i g) (becomes c ms ns g now w i) (P i g)) → Working g w → Agrees (ms ++ ns) g now w.writers → Fol script ms ns → Way c ms d ns
    at-one s shift working agree fol =
        record {
          stands = record {
            pairs = λ i h. pair-test i h (eqb h g) refl;
            works = λ h. subst (Working h) (sym (o.works h)) (work-test h (eqb h g) refl);
            agrees = λ h. subst (λ t. Agrees (ms ++ ns) h t (d.works h).writers) (sym (o.finds h)) (subst (λ (v : Work). Agrees (ms ++ ns) h (if eqb h g then now else find_txn c.table (gx h)) v.writers) (sym (o.works h)) (agree-test h (eqb h g) refl));
            parts = λ i h. part-append (P i h) ms ns i h (fol-no-part script ms ns fol) (s.parts i h);
          };
          stays = λ i h m x. stay-test i h m x (eqb h g) refl;
          fol = fol;
        }
      where
        pair-test : (i h : ℕ) (b : Bool) → eqb h g ≡ b → Pair (known_at d (ms ++ ns) i h) (P i h)
        pair-test i h true e = subst (λ j. Pair (known_at d (ms ++ ns) i j) (P i j)) (sym (eqb-true h g e)) (subst (λ k. Pair k (P i g)) (sym (known-here i)) (shift i).pair)
        pair-test i h false e = subst (λ k. Pair k (P i h)) (sym (known-there i h e)) (s.pairs i h)

        stay-test : (i h : ℕ) (m : Message) → Said (known_at c ms i h) (P i h) m → (b : Bool) → eqb h g ≡ b → Said (known_at d (ms ++ ns) i h) (P i h) m
        stay-test i h m x true e =
            subst (λ j. Said (known_at d (ms ++ ns) i j) (P i j) m) (sym (eqb-true h g e)) (subst (λ k. Said k (P i g) m) (sym (known-here i)) ((shift i).stays m (subst (λ j. Said (known_at c ms i j) (P i j) m) (eqb-true h g e) x)))
        stay-test i h m x false e = subst (λ k. Said k (P i h) m) (sym (known-there i h e)) x

        work-test : (h : ℕ) (b : Bool) → eqb h g ≡ b → Working h (if b then w else c.works h)
        work-test h true e = subst (λ j. Working j w) (sym (eqb-true h g e)) working
        work-test h false e = s.works h

        agree-test : (h : ℕ) (b : Bool) → eqb h g ≡ b → Agrees (ms ++ ns) h (if b then now else find_txn c.table (gx h)) (if b then w else c.works h).writers
        agree-test h true e = subst (λ j. Agrees (ms ++ ns) j now w.writers) (sym (eqb-true h g e)) agree
        agree-test h false e = agrees-append ms ns h (find_txn c.table (gx h)) (c.works h).writers (s.agrees h)

  -- A NEW TRANSACTION
  module _ (c d : Coord) (ms : List Mark) (m : Mark) (w : Work) (whole : IsWhole c.table) (table : d.table ≡ begun c.table) (works : (h : ℕ) → d.works h ≡ (if eqb h c.table.next.0 then w else c.works h)) where
    abbrev new : ℕ
    new = c.table.next.0

    unborn-there : (i : ℕ) → (known_at c ms i new).at ≡ Unborn
    unborn-there i = ap (λ t. standing (nat_le new new) t i) (undrawn c.table whole) ∙ ap (λ b. standing b None i) (self new)
      where
        self : (a : ℕ) → nat_le a a ≡ true
        self a = grind (arith, nat_tests)

    born-there : (i : ℕ) → w.writers ≡ [] → w.command ≡ None → w.last ≡ 0 → decided_count (m ∷ []) (gx new) ≡ 0 → is_aborted (m ∷ []) (gx new) ≡ false → is_committed (m ∷ []) (gx new) ≡ false → known_at d (ms ++ m ∷ []) i new ≡ born (known_at c ms i new)
    born-there i a b e p q r =
        known-eq i _ Live _ w _ _ _ _ _ _
        (ap (λ (t : Table). standing (nat_le t.next.0 new) (find_txn t (gx new)) i) table ∙ ap (λ t. standing (nat_le (new + 1) new) t i) (begun-finds c.table whole new ∙ ap (λ b. if b then Some new_txn else find_txn c.table (gx new)) (self new)))
        (works new ∙ ap (λ b. if b then w else c.works new) (self new))
        (decided-append ms (m ∷ []) (gx new) ∙ ap (λ n. decided_count ms (gx new) + n) p ∙ plus-none (decided_count ms (gx new)))
        (aborted-append ms (m ∷ []) (gx new) ∙ ap (λ b. is_aborted ms (gx new) || b) q ∙ or-false (is_aborted ms (gx new)))
        (committed-append ms (m ∷ []) (gx new) ∙ ap (λ b. is_committed ms (gx new) || b) r ∙ or-false (is_committed ms (gx new)))
        ∙ ap (λ ws. record (known_at c ms i new) { at = Live; writes = Rattle.gx_dtx.specs.Nodes.has (at i) ws; waits = Rattle.gx_law_order.specs.Standings.waits_in w.command i; last = w.last }) a
        ∙ ap (λ k. record (known_at c ms i new) { at = Live; writes = false; waits = Rattle.gx_law_order.specs.Standings.waits_in k i; last = w.last }) b
        ∙ ap (λ n. record (known_at c ms i new) { at = Live; writes = false; waits = false; last = n }) e
      where
        self : (a : ℕ) → eqb a a ≡ true
        self a = grind (arith, nat_tests)

    same-there : (i h : ℕ) → eqb h new ≡ false → decided_count (m ∷ []) (gx h) ≡ 0 → is_aborted (m ∷ []) (gx h) ≡ false → is_committed (m ∷ []) (gx h) ≡ false → known_at d (ms ++ m ∷ []) i h ≡ known_at c ms i h
    same-there i h e p q r =
        known-eq i _ _ _ _ _ _ _ _ _ _
        (ap (λ (t : Table). standing (nat_le t.next.0 h) (find_txn t (gx h)) i) table ∙ ap (λ b. standing b (find_txn (begun c.table) (gx h)) i) (later new h e) ∙ ap (λ t. standing (nat_le new h) t i) (begun-finds c.table whole h ∙ ap (λ b. if b then Some new_txn else find_txn c.table (gx h)) e))
        (works h ∙ ap (λ b. if b then w else c.works h) e)
        (decided-append ms (m ∷ []) (gx h) ∙ ap (λ n. decided_count ms (gx h) + n) p ∙ plus-none (decided_count ms (gx h)))
        (aborted-append ms (m ∷ []) (gx h) ∙ ap (λ b. is_aborted ms (gx h) || b) q ∙ or-false (is_aborted ms (gx h)))
        (committed-append ms (m ∷ []) (gx h) ∙ ap (λ b. is_committed ms (gx h) || b) r ∙ or-false (is_committed ms (gx h)))
      where
        later : (n h : ℕ) → eqb h n ≡ false → nat_le (n + 1) h ≡ nat_le n h
        later n h e = grind (arith, nat_tests)

    pub at-new : Stands c ms → w.writers ≡ [] → w.command ≡ None → w.last ≡ 0 → ((h : ℕ) → (decided_count (m ∷ []) (gx h) ≡ 0) × (is_aborted (m ∷ []) (gx h) ≡ false) × (is_committed (m ∷ []) (gx h) ≡ false)) → FolAt script ms m → Way c ms d (m ∷ [])
    at-new s a b e quiet fol =
        record {
          stands = record {
            pairs = λ i h. pair-test i h (eqb h new) refl;
            works = λ h. subst (Working h) (sym (works h)) (work-test h (eqb h new) refl);
            agrees = λ h. subst (λ (t : Table). Agrees (ms ++ m ∷ []) h (find_txn t (gx h)) (d.works h).writers) (sym table) (subst (λ t. Agrees (ms ++ m ∷ []) h t (d.works h).writers) (sym (begun-finds c.table whole h)) (subst (λ (v : Work). Agrees (ms ++ m ∷ []) h (if eqb h new then Some new_txn else find_txn c.table (gx h)) v.writers) (sym (works h)) (agree-test h (eqb h new) refl)));
            parts = λ i h. part-append (P i h) ms (m ∷ []) i h (no-part-one script ms m fol, tt) (s.parts i h);
          };
          stays = λ i h x y. stay-test i h x y (eqb h new) refl;
          fol = (fol, tt);
        }
      where
        here : (i : ℕ) → known_at d (ms ++ m ∷ []) i new ≡ born (known_at c ms i new)
        here i = let q = quiet new in born-there i a b e q.0 q.1 q.2

        there : (i h : ℕ) → eqb h new ≡ false → known_at d (ms ++ m ∷ []) i h ≡ known_at c ms i h
        there i h n = let q = quiet h in same-there i h n q.0 q.1 q.2

        shift : (i : ℕ) → Shift (known_at c ms i new) (born (known_at c ms i new)) (P i new)
        shift i = born-shift (known_at c ms i new) (P i new) (s.pairs i new) (unborn-there i)

        pair-test : (i h : ℕ) (b : Bool) → eqb h new ≡ b → Pair (known_at d (ms ++ m ∷ []) i h) (P i h)
        pair-test i h true n = subst (λ j. Pair (known_at d (ms ++ m ∷ []) i j) (P i j)) (sym (eqb-true h new n)) (subst (λ k. Pair k (P i new)) (sym (here i)) (shift i).pair)
        pair-test i h false n = subst (λ k. Pair k (P i h)) (sym (there i h n)) (s.pairs i h)

        stay-test : (i h : ℕ) (x : Message) → Said (known_at c ms i h) (P i h) x → (b : Bool) → eqb h new ≡ b → Said (known_at d (ms ++ m ∷ []) i h) (P i h) x
        stay-test i h x y true n =
            subst (λ j. Said (known_at d (ms ++ m ∷ []) i j) (P i j) x) (sym (eqb-true h new n)) (subst (λ k. Said k (P i new) x) (sym (here i)) ((shift i).stays x (subst (λ j. Said (known_at c ms i j) (P i j) x) (eqb-true h new n) y)))
        stay-test i h x y false n = subst (λ k. Said k (P i h) x) (sym (there i h n)) y

        fresh : (v : List Node) (o : Option Command) (n : ℕ) → v ≡ [] → o ≡ None → AreApart v × CommandOf new n o
        fresh v o n p q = (subst AreApart (sym p) tt, subst (CommandOf new n) (sym q) tt)

        work-test : (h : ℕ) (b : Bool) → eqb h new ≡ b → Working h (if b then w else c.works h)
        work-test h true n = subst (λ j. Working j w) (sym (eqb-true h new n)) (let f = fresh w.writers w.command w.last a b in record { apart = f.0; command = f.1 })
        work-test h false n = s.works h

        agree-test : (h : ℕ) (b : Bool) → eqb h new ≡ b → Agrees (ms ++ m ∷ []) h (if b then Some new_txn else find_txn c.table (gx h)) (if b then w else c.works h).writers
        agree-test h true n = tt
        agree-test h false n = agrees-append ms (m ∷ []) h (find_txn c.table (gx h)) (c.works h).writers (s.agrees h)
