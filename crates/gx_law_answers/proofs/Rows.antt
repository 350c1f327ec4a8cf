-- The rows that a command sees, divided over the nodes of its plan: each stands at its place.
use Rattle.std.proofs.Common.{ℕ, ◌+◌, ◌%◌, ◌<◌, ◌≤◌, ◌≡◌, ◌≢◌, ◌==◌, ◌⊎◌, inl, inr, ◌∙◌, ◌||◌, Bool, true, false, cond, if◌then◌else◌, List, [], ◌∷◌, filter, Option, Some, None, Result, Ok, refl, ap, sym, subst, arith, eqb, zero, suc}
use Rattle.std.proofs.lemmas.Bool.Decides.{nat_tests}
use Rattle.std.proofs.lemmas.List.Elements.{All-from_recursion, recursion_from_All}
use Rattle.std.proofs.lemmas.Nat.{mod_below}
use Rattle.std.specs.List.{AllByRecursion}
use Rattle.std.specs.Prelude.{ℤ, pos, negsuc, slice_get, ◌-◌}
use Rattle.std.proofs.lemmas.Bool.{or_right}
use Rattle.gx_lemmas.proofs.Numbers.{eqb-back, eqb-self}
use Rattle.gx_lemmas.proofs.Tests.{false-true}
use Rattle.gx_ids.specs.declared.ids.Cid.{Cid}
use Rattle.gx_ids.specs.declared.ids.Gxid.{Gxid}
use Rattle.gx_ids.specs.declared.ids.Node.{Node}
use Rattle.gx_ids.specs.declared.ids.Table.{Table}
use Rattle.gx_ids.specs.declared.rid.Rid.{Rid}
use Rattle.gx_tree.specs.declared.cond.Cond.{Cond}
use Rattle.gx_tree.specs.declared.row.KeyedRow.{KeyedRow}
use Rattle.gx_tree.specs.declared.schema.Dist.{Dist}
use Rattle.gx_tree.specs.declared.schema.Dist.TheVariants.{By, Randomly}
use Rattle.gx_tree.specs.declared.value.Value.{Value}
use Rattle.gx_tree.specs.declared.value.Value.TheVariants.{Int, Text}
use Rattle.gx_dtx.specs.Nodes.{has}
use Rattle.gx_meaning.specs.Answer.{AreRising, keeps}
use Rattle.gx_meaning.specs.declared.fault.ArithFault.{ArithFault}
use Rattle.gx_meaning.specs.Place.{IsWithin, hash_of, key_place, remainder, row_place, value_place}
use Rattle.gx_meaning.specs.Target.{IsFalseOutside, target_of}
use Rattle.gx_meaning.specs.declared.target.Target.{Target}
use Rattle.gx_meaning.specs.declared.target.Target.TheVariants.{One, All as AllOfThem}
use Rattle.gx_plan.proofs.Outside.{target_of-outside}
use Rattle.gx_meaning.specs.Plan.{nodes_from, nodes_of}
use Rattle.gx_script.specs.declared.Script.{Script}
use Rattle.gx_store.specs.declared.mark.Mark.{Mark}
use Rattle.gx_store.specs.Answers.{FaultsOnNone}
use Rattle.gx_store.specs.Commands.{condition_on}
use Rattle.gx_store.specs.Marks.{node_of}
use Rattle.gx_store.specs.Rows.{row_at}
use Rattle.gx_store.specs.View.{image, is_shown_to}
use Rattle.gx_store.specs.Writes.{dist_of}
use Rattle.gx_law_order.specs.Lists.{Each}
use Rattle.gx_rules.proofs.ShownRows.{rows-same}
use Rattle.gx_law_order.specs.Gathering.{AreAll, Taken, nodes_taken}
use Rattle.gx_law_writes.specs.Homes.{IsPlacedMark}
use Rattle.gx_law_answers.specs.Keyed.{AreRowsKeyed}
use Rattle.gx_law_writes.specs.Parts.{IsPartOf, is_home}
use Rattle.gx_law_answers.specs.Parts.{HasItsPart}
use Rattle.gx_law_answers.proofs.Dealt.{at, part}
use Rattle.gx_law_answers.proofs.Homes.{IsHome, home}
use Rattle.gx_law_answers.proofs.Rising.{each-at, filter-at, from-filter, passing, rising-filter}
use Rattle.gx_law_writes.proofs.Views.{view-is, view_rows}

-- ---- places are among the segments
one-more : (r n : ℕ) → r < n → 1 + r ≤ n
one-more r n l = omega (arith, l)

remainder-below : (z : ℤ) (n : ℕ) → 1 ≤ n → remainder z n < n
remainder-below (pos k) n some = mod_below k n some
remainder-below (negsuc k) n some = less n (k % n) some
  where
    less : (n r : ℕ) → 1 ≤ n → n - 1 - r < n
    less n r l = omega (arith, l)

value-last : (n : ℕ) (v : Value) → 1 ≤ n → value_place n v ≤ n
value-last n (Int z) some = one-more (remainder z n) n (remainder-below z n some)
value-last n (Text t) some = one-more (hash_of t % n) n (mod_below (hash_of t) n some)

key-last : (n : ℕ) (v : Option Value) → 1 ≤ n → key_place n v ≤ n
key-last n None some = some
key-last n (Some v) some = value-last n v some

row-last : (n : ℕ) (dist : Dist) (row : List Value) (rid : Rid) → 1 ≤ n → row_place n dist row rid ≤ n
row-last n (By column) row rid some = key-last n (slice_get row column) some
row-last n Randomly row rid some = one-more ((rid.gxid.0 + rid.ordinal) % n) n (mod_below (rid.gxid.0 + rid.ordinal) n some)

value-first : (n : ℕ) (v : Value) → 1 ≤ value_place n v
value-first n (Int z) = omega arith
value-first n (Text t) = omega arith

key-first : (n : ℕ) (v : Option Value) → 1 ≤ key_place n v
key-first n None = omega arith
key-first n (Some v) = value-first n v

row-first : (n : ℕ) (dist : Dist) (row : List Value) (rid : Rid) → 1 ≤ row_place n dist row rid
row-first n (By column) row rid = key-first n (slice_get row column)
row-first n Randomly row rid = omega arith

pub has-from : (k from count : ℕ) → from ≤ k → k < from + count → has (at k) (nodes_from from count) ≡ true
has-from k from zero low high = absurd (omega (arith, low, high))
has-from k from (suc count) low high = by_test (eqb from k) refl (has-from k (from + 1) count)
  where
    self : (b : Bool) → b ≡ true → (b || has (at k) (nodes_from (from + 1) count)) ≡ true
    self true e = refl
    self false e = cc

    above : eqb from k ≡ false → from + 1 ≤ k
    above e = grind (arith, nat_tests)

    by_test : (b : Bool) → eqb from k ≡ b → (from + 1 ≤ k → k < from + 1 + count → has (at k) (nodes_from (from + 1) count) ≡ true) → (eqb from k || has (at k) (nodes_from (from + 1) count)) ≡ true
    by_test true e more = self (eqb from k) e
    by_test false e more = or_right (eqb from k) _ (more (above e) (omega (arith, high)))

-- ---- a row is placed at a node of the target, or the condition is false on it
stands : (n : ℕ) (dist : Dist) (cond : Option Cond) (target : Target) (row : List Value) (rid : Rid) → 1 ≤ n → IsWithin dist row → IsFalseOutside n dist cond target → (has (at (row_place n dist row rid)) (nodes_of n target) ≡ true) ⊎ (condition_on cond row ≡ Ok false)
stands n dist cond AllOfThem row rid some within outside = inl (has-from (row_place n dist row rid) 1 n (row-first n dist row rid) (below (row_place n dist row rid) n (row-last n dist row rid some)))
  where
    below : (k n : ℕ) → k ≤ n → k < 1 + n
    below k n l = omega (arith, l)
stands n dist cond (One node) row rid some within outside = by_test cond outside (eqb node.0 (row_place n dist row rid)) refl
  where
    apart : eqb node.0 (row_place n dist row rid) ≡ false → row_place n dist row rid ≢ node.0
    apart e f = grind (arith, nat_tests)

    here : (b : Bool) → b ≡ true → (b || false) ≡ true
    here true e = refl
    here false e = cc

    by_test : (cond : Option Cond) → IsFalseOutside n dist cond (One node) → (b : Bool) → eqb node.0 (row_place n dist row rid) ≡ b → ((eqb node.0 (row_place n dist row rid) || false) ≡ true) ⊎ (condition_on cond row ≡ Ok false)
    by_test cond outside true e = inl (here _ e)
    by_test None outside false e = absurd (outside (row_place n dist row rid) (apart e))
    by_test (Some c) outside false e = inr (outside row rid within (apart e))

pub keeps-false : (cond : Option Cond) (row : KeyedRow) → condition_on cond row.row ≡ Ok false → keeps cond row ≡ false
keeps-false None row e = absurd (cc)
keeps-false (Some c) row e = rw e refl

-- ---- lists of rows
pub all-both : (P Q R : KeyedRow → Type 0) → ((row : KeyedRow) → P row → Q row → R row) → (rows : List KeyedRow) → AllByRecursion P rows → AllByRecursion Q rows → AllByRecursion R rows
all-both P Q R f [] p q = tt
all-both P Q R f (row ∷ rows) p q = (f row p.0 q.0, all-both P Q R f rows p.1 q.1)

pub all-filter : (t : KeyedRow → Bool) (P : KeyedRow → Type 0) (rows : List KeyedRow) → AllByRecursion P rows → AllByRecursion P (filter t rows)
all-filter t P [] all = tt
all-filter t P (row ∷ rows) all = by_test (t row) (all-filter t P rows all.1)
  where
    by_test : (b : Bool) → AllByRecursion P (filter t rows) → AllByRecursion P (cond b (row ∷ filter t rows) (filter t rows))
    by_test true more = (all.0, more)
    by_test false more = more

-- ---- the rows that the command sees
module _ (script : Script) (some : 1 ≤ script.segments) (keyed : AreRowsKeyed script) (marks before : List Mark) (placed : Each (IsPlacedMark script marks) marks) (g : Gxid) (c : Cid) (table : Table) (cond : Option Cond) where
  abbrev n : ℕ
  n = script.segments

  abbrev dist : Dist
  dist = dist_of script.tables table.0

  abbrev pub owner : KeyedRow → ℕ
  owner row = row_place script.segments (dist_of script.tables table.0) row.row row.rid

  abbrev pub seen : List KeyedRow
  seen = view_rows marks before (Some (g, c)) table

  pub seen-rises : AreRising seen
  seen-rises = (view-is marks before (Some (g, c)) table).rising

  seen-at : (rid : Rid) → row_at seen rid ≡ image marks before (Some (g, c)) table rid
  seen-at rid = (view-is marks before (Some (g, c)) table).images rid

  its-home : (rid : Rid) (row : List Value) → image marks before (Some (g, c)) table rid ≡ Some row → (node : Node) × (node_of marks rid ≡ Some node) × IsHome script table rid row node
  its-home rid row e = home script keyed marks (is_shown_to (Some (g, c)) before) table rid marks row placed e

  -- a node's rows are those that are placed there
  here : (node : Node) (rid : Rid) (o : Option (List Value)) → image marks before (Some (g, c)) table rid ≡ o → (if is_home (node_of marks rid) node then o else None) ≡ passing (λ row. owner row == node.0) rid o
  here node rid None e = nothing (is_home (node_of marks rid) node)
    where
      nothing : (b : Bool) → (let x : Option (List Value) = if b then None else None in x) ≡ None
      nothing true = refl
      nothing false = refl
  here node rid (Some row) e =
      let h = its-home rid row e in
      ap (λ o. if is_home o node then Some row else None) h.1 ∙ ap (λ k. if k == node.0 then Some row else None) h.2.place

  pub part-is : (node : Node) (rows : List KeyedRow) → IsPartOf marks before node g c table rows → rows ≡ part owner seen node
  part-is node rows p =
      rows-same rows (part owner seen node) p.rising (rising-filter (λ row. owner row == node.0) seen seen-rises)
      (λ rid. p.images rid ∙ here node rid (image marks before (Some (g, c)) table rid) refl ∙ ap (passing (λ row. owner row == node.0) rid) (sym (seen-at rid)) ∙ sym (filter-at (λ row. owner row == node.0) seen rid seen-rises))

  -- whose parts these nodes have told of
  abbrev pub Has : Taken → Type 0
  Has t = HasItsPart marks before t.node g c table cond

  -- no fault
  abbrev Whole : KeyedRow → Type 0
  Whole row = (truth : Bool) × (condition_on cond row.row ≡ Ok truth)

  its-rows : (t : Taken) → Has t → AllByRecursion (λ row. (owner row == t.node.0) ≡ true → Whole row) seen
  its-rows t s = from-filter (λ row. owner row == t.node.0) Whole seen (subst (AllByRecursion Whole) (part-is t.node s.rows s.of) (recursion_from_All Whole s.rows s.whole))

  all-rows : (taken : List Taken) → AreAll Has taken → AllByRecursion (λ row. has (at (owner row)) (nodes_taken taken) ≡ true → Whole row) seen
  all-rows [] all = never seen
    where
      never : (rows : List KeyedRow) → AllByRecursion (λ row. false ≡ true → Whole row) rows
      never [] = tt
      never (row ∷ rows) = (λ e. absurd (false-true e), never rows)
  all-rows (t ∷ ts) all = all-both _ _ _ one seen (its-rows t all.0) (all-rows ts all.1)
    where
      either : (a b : Bool) (A : Type 0) → (a || b) ≡ true → (a ≡ true → A) → (b ≡ true → A) → A
      either true b A e f h = f refl
      either false b A e f h = h e

      one : (row : KeyedRow) → ((owner row == t.node.0) ≡ true → Whole row) → (has (at (owner row)) (nodes_taken ts) ≡ true → Whole row) → has (at (owner row)) (t.node ∷ nodes_taken ts) ≡ true → Whole row
      one row f h e = either (eqb t.node.0 (owner row)) (has (at (owner row)) (nodes_taken ts)) (Whole row) e (λ x. f (eqb-back t.node.0 (owner row) x)) h

  module _ (taken : List Taken) (all : (i : Node) → has i (nodes_of n (target_of n dist cond)) ≡ has i (nodes_taken taken)) where
    -- each row stands at one of them, or the condition is false on it
    abbrev pub Stands : KeyedRow → Type 0
    Stands row = (has (at (owner row)) (nodes_taken taken) ≡ true) ⊎ (condition_on cond row.row ≡ Ok false)

    stands-at : (rid : Rid) (row : List Value) → row_at seen rid ≡ Some row → Stands (record { rid = rid; row = row })
    stands-at rid row e = taken-too (stands n dist cond (target_of n dist cond) row rid some (its-home rid row (sym (seen-at rid) ∙ e)).2.within (target_of-outside n dist cond))
      where
        taken-too : (has (at (row_place n dist row rid)) (nodes_of n (target_of n dist cond)) ≡ true) ⊎ (condition_on cond row ≡ Ok false) → Stands (record { rid = rid; row = row })
        taken-too (inl e) = inl (sym (all (at (row_place n dist row rid))) ∙ e)
        taken-too (inr e) = inr e

    pub all-stand : AllByRecursion Stands seen
    all-stand = each-at Stands seen seen-rises stands-at

    pub whole : AreAll Has taken → FaultsOnNone cond seen
    whole has_parts = All-from_recursion Whole seen (all-both Stands (λ row. has (at (owner row)) (nodes_taken taken) ≡ true → Whole row) Whole one seen all-stand (all-rows taken has_parts))
      where
        one : (row : KeyedRow) → Stands row → (has (at (owner row)) (nodes_taken taken) ≡ true → Whole row) → Whole row
        one row (inl e) f = f e
        one row (inr e) f = (false, e)

    -- a row on which the condition is true stands at one of them, among its rows
    pub record IsTaken (rid : Rid) (row : List Value) : Type 0 where
      pub node : Node
      pub among : has node (nodes_taken taken) ≡ true
      pub there : (rows : List KeyedRow) → IsPartOf marks before node g c table rows → row_at rows rid ≡ Some row

    pub row-taken : (rid : Rid) (row : List Value) → row_at seen rid ≡ Some row → condition_on cond row ≡ Ok true → IsTaken rid row
    row-taken rid row e chosen = by_place (stands-at rid row e)
      where
        no : (o : Result Bool ArithFault) → o ≡ Ok true → o ≡ Ok false → ⊥
        no o f h = cc

        shown : image marks before (Some (g, c)) table rid ≡ Some row
        shown = sym (seen-at rid) ∙ e

        place : ℕ
        place = row_place n dist row rid

        its : (rows : List KeyedRow) → IsPartOf marks before (at place) g c table rows → row_at rows rid ≡ Some row
        its rows p =
            let h = its-home rid row shown in
            p.images rid ∙ ap (λ o. if is_home o (at place) then image marks before (Some (g, c)) table rid else None) h.1
            ∙ ap (λ k. if k == place then image marks before (Some (g, c)) table rid else None) h.2.place
            ∙ ap (λ b. if b then image marks before (Some (g, c)) table rid else None) (eqb-self place) ∙ shown

        by_place : Stands (record { rid = rid; row = row }) → IsTaken rid row
        by_place (inl f) = record { node = at place; among = f; there = its }
        by_place (inr f) = absurd (no (condition_on cond row) chosen f)
