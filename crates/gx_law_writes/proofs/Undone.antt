-- Which commands of a transaction have done nothing to rows at a segment yet, by the marks.
use Rattle.std.proofs.Common.{◌≡◌, ◌∙◌, ℕ, ◌+◌, ◌≤◌, ◌<◌, List, [], ◌∷◌, ◌++◌, Option, Some, None, Bool, true, false, refl, ap, sym, subst, if◌then◌else◌, ◌&&◌, ◌||◌, arith, eqb}
use Rattle.std.proofs.lemmas.Bool.{eqb-true}
use Rattle.std.proofs.lemmas.Bool.Decides.{nat_tests}
use Rattle.gx_ids.specs.declared.ids.Cid.{Cid}
use Rattle.gx_ids.specs.declared.ids.Gxid.{Gxid}
use Rattle.gx_ids.specs.declared.ids.Node.{Node}
use Rattle.gx_ids.specs.declared.rid.Rid.{Rid}
use Rattle.gx_lemmas.proofs.Options.{some-same}
use Rattle.gx_lemmas.proofs.Tests.{and-first, and-second}
use Rattle.gx_store.proofs.Marks.{is_aborted-append}
use Rattle.gx_store.proofs.Rows.{same_rid}
use Rattle.gx_store.specs.declared.mark.Mark.{Mark}
use Rattle.gx_store.specs.declared.mark.Mark.TheVariants as mark
use Rattle.gx_store.specs.Journals.{is_same_node}
use Rattle.gx_store.specs.Marks.{is_aborted, is_command_of, is_processed, is_same_rid, node_of}
use Rattle.gx_rules.specs.Segments.{Local, Suspended, Version}
use Rattle.gx_law_order.specs.Lists.{Each}
use Rattle.gx_law_order.proofs.SegItems.{writes_at}
use Rattle.gx_law_reads.specs.Sights.{IsOnlyAt}
use Rattle.gx_law_writes.specs.Says.{count_at}
use Rattle.gx_law_writes.proofs.Parts.{node-still}
use Rattle.gx_law_writes.proofs.RowWalk.{own_count}

-- the first that has done nothing to a row there: the one that waits for its table, or the next after the last
abbrev pub undone_at : Option Rid → ℕ → ℕ
undone_at None last = last
undone_at (Some rid) last = last + 1

abbrev pub undone_by : Option Suspended → ℕ → ℕ
undone_by None last = last + 1
undone_by (Some x) last = undone_at x.row last

abbrev pub undone : Local → ℕ
undone l = undone_by l.suspended l.last

-- what was dropped, or never waited, is the last
at-most : (row : Option Rid) (last : ℕ) → undone_at row last ≤ last + 1
at-most None last = omega arith
at-most (Some rid) last = omega arith

pub undone-drops : (o : Option Suspended) (last : ℕ) → undone_by o last ≤ last + 1
undone-drops None last = omega arith
undone-drops (Some x) last = at-most x.row last

-- BEGUN
-- the row stands at a node where the command has begun
pub record IsSkipBegun (all : List Mark) (firsts : ℕ → ℕ → ℕ) (g : Gxid) (c : Cid) (rid : Rid) : Type 0 where
  pub node : Node
  pub home : node_of all rid ≡ Some node
  pub begun : c.0 < firsts node.0 g.0

-- A mark's command has begun at its node; of a skip's this is so unless its transaction has aborted.
abbrev pub IsBegun : List Mark → (ℕ → ℕ → ℕ) → Mark → Type 0
IsBegun all firsts (mark.Write g c n t r x) = c.0 < firsts n.0 g.0
IsBegun all firsts (mark.Skip g c r) = is_aborted all g ≡ false → IsSkipBegun all firsts g c r
IsBegun all firsts _ = Unit {0}

pub alive-front : (xs ys : List Mark) (g : Gxid) → is_aborted (xs ++ ys) g ≡ false → is_aborted xs g ≡ false
alive-front xs ys g e = left-no (is_aborted xs g) (is_aborted ys g) (sym (is_aborted-append xs ys g) ∙ e)
  where
    left-no : (a b : Bool) → (a || b) ≡ false → a ≡ false
    left-no a b e = grind arith

under : {a b c : ℕ} → a < b → b ≤ c → a < c
under x y = omega arith

pub begun-later : (all more : List Mark) (f h : ℕ → ℕ → ℕ) → ((i g : ℕ) → f i g ≤ h i g) → (m : Mark) → IsBegun all f m → IsBegun (all ++ more) h m
begun-later all more f h up (mark.Write g c n t r x) b = under b (up n.0 g.0)
begun-later all more f h up (mark.Skip g c r) b = λ alive. let s = b (alive-front all more g alive) in record { node = s.node; home = node-still all more r s.node s.home; begun = under s.begun (up s.node.0 g.0) }
begun-later all more f h up m b = tt

neither : (a b : Bool) → (a ≡ true → b ≡ true → ⊥) → (a && b) ≡ false
neither true true f = absurd (f refl refl)
neither true false f = refl
neither false b f = refl

none-of : (a b : Bool) → a ≡ false → b ≡ false → (a || b) ≡ false
none-of a b e f = grind arith

node-self : (n : Node) → is_same_node n n ≡ true
node-self n = grind (arith, nat_tests)

beyond : (a b : ℕ) → a ≤ b → b < a → ⊥
beyond a b l m = omega arith

-- A COMMAND THAT HAS DONE NOTHING AT A NODE
module _ (all : List Mark) (firsts : ℕ → ℕ → ℕ) (node : Node) (g : Gxid) (c : Cid) (fresh : firsts node.0 g.0 ≤ c.0) where
  clash : (h : Gxid) (d : Cid) (n : Node) → is_same_node n node ≡ true → is_command_of g c h d ≡ true → d.0 < firsts n.0 h.0 → ⊥
  clash h d n p q l =
      beyond (firsts node.0 g.0) c.0 fresh
      (subst (λ j. c.0 < firsts j g.0) (eqb-true n.0 node.0 p)
      (subst (λ j. c.0 < firsts n.0 j) (eqb-true h.0 g.0 (and-first (eqb h.0 g.0) (eqb d.0 c.0) q)) (subst (λ j. j < firsts n.0 h.0) (eqb-true d.0 c.0 (and-second (eqb h.0 g.0) (eqb d.0 c.0) q)) l)))

  -- it has no version there
  pub none-own : (ms : List Mark) → Each (IsBegun all firsts) ms → own_count g c (writes_at node ms) ≡ 0
  none-own [] e = refl
  none-own (mark.Write h d n t r x ∷ ms) e = by_node (is_same_node n node) refl (none-own ms e.1)
    where
      v : Version
      v = record { gxid = h; cid = d; table = t; rid = r; image = x }

      not-its : is_same_node n node ≡ true → (b : Bool) → is_command_of g c h d ≡ b → b ≡ false
      not-its p true q = absurd (clash h d n p q e.0)
      not-its p false q = refl

      by_node : (b : Bool) → is_same_node n node ≡ b → own_count g c (writes_at node ms) ≡ 0 → own_count g c (if b then v ∷ writes_at node ms else writes_at node ms) ≡ 0
      by_node true p more = ap (λ b. if b then own_count g c (writes_at node ms) + 1 else own_count g c (writes_at node ms)) (not-its p (is_command_of g c h d) refl) ∙ more
      by_node false p more = more
  none-own (m ∷ ms) e = none-own ms e.1

  -- nor has it done anything to a row that stands there
  module _ (rid : Rid) (home : node_of all rid ≡ Some node) (alive : is_aborted all g ≡ false) where
    pub free-of : (ms : List Mark) → IsOnlyAt node rid ms → Each (IsBegun all firsts) ms → is_processed ms g c rid ≡ false
    free-of [] o e = refl
    free-of (mark.Write h d n t r x ∷ ms) o e =
        none-of (is_command_of g c h d && is_same_rid r rid) (is_processed ms g c rid) (neither (is_command_of g c h d) (is_same_rid r rid) (λ p q. clash h d n (o.0 q) p e.0)) (free-of ms o.1 e.1)
    free-of (mark.Skip h d r ∷ ms) o e = none-of (is_command_of g c h d && is_same_rid r rid) (is_processed ms g c rid) (neither (is_command_of g c h d) (is_same_rid r rid) by_both) (free-of ms o e.1)
      where
        gxid-is : (a b : Gxid) → eqb a.0 b.0 ≡ true → a ≡ b
        gxid-is a b q = ap (λ n. let z : Gxid = record { 0 = n } in z) (eqb-true a.0 b.0 q)

        by_both : is_command_of g c h d ≡ true → is_same_rid r rid ≡ true → ⊥
        by_both p q =
            let s = e.0 (subst (λ z. is_aborted all z ≡ false) (sym (gxid-is h g (and-first (eqb h.0 g.0) (eqb d.0 c.0) p))) alive) in
            clash h d s.node (ap (λ z. is_same_node z node) (some-same s.node node (sym s.home ∙ ap (node_of all) (same_rid r rid q) ∙ home)) ∙ node-self node) p s.begun
    free-of (m ∷ ms) o e = free-of ms o e.1

-- ONE THAT MAY HAVE BEGUN
-- no version there is of a later one
pub none-later : (all : List Mark) (firsts : ℕ → ℕ → ℕ) (node : Node) (g : Gxid) (c : Cid) → firsts node.0 g.0 ≤ c.0 + 1 → (ms : List Mark) → Each (IsBegun all firsts) ms → Each (λ (v : Version). v.gxid ≡ g → v.cid.0 ≤ c.0) (writes_at node ms)
none-later all firsts node g c upto [] e = tt
none-later all firsts node g c upto (mark.Write h d n t r x ∷ ms) e = by_node (is_same_node n node) refl (none-later all firsts node g c upto ms e.1)
  where
    P : Version → Type 0
    P v = v.gxid ≡ g → v.cid.0 ≤ c.0

    v : Version
    v = record { gxid = h; cid = d; table = t; rid = r; image = x }

    below : (a b c : ℕ) → a < b → b ≤ c + 1 → a ≤ c
    below a b c l m = omega arith

    by_node : (b : Bool) → is_same_node n node ≡ b → Each P (writes_at node ms) → Each P (if b then v ∷ writes_at node ms else writes_at node ms)
    by_node true p more = (λ same. below d.0 (firsts node.0 g.0) c.0 (subst (λ j. d.0 < firsts j g.0) (eqb-true n.0 node.0 p) (subst (λ (j : Gxid). d.0 < firsts n.0 j.0) same e.0)) upto, more)
    by_node false p more = more
none-later all firsts node g c upto (m ∷ ms) e = none-later all firsts node g c upto ms e.1

-- COUNTS
pub count-is : (node : Node) (g : Gxid) (c : Cid) (ms : List Mark) → own_count g c (writes_at node ms) ≡ count_at node g c ms
count-is node g c [] = refl
count-is node g c (mark.Write h d n t r x ∷ ms) = by_node (is_same_node n node) (count-is node g c ms)
  where
    v : Version
    v = record { gxid = h; cid = d; table = t; rid = r; image = x }

    by_node : (b : Bool) → own_count g c (writes_at node ms) ≡ count_at node g c ms
        → own_count g c (if b then v ∷ writes_at node ms else writes_at node ms) ≡ (if b && is_command_of g c h d then count_at node g c ms + 1 else count_at node g c ms)
    by_node true more = ap (λ n. if is_command_of g c h d then n + 1 else n) more
    by_node false more = more
count-is node g c (m ∷ ms) = count-is node g c ms
