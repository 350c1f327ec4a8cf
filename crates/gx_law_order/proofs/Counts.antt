-- What marks say of writers, promises, commits and decisions, mark by mark.
use Rattle.std.proofs.Common.{◌≡◌, ℕ, ◌+◌, List, [], ◌∷◌, ◌++◌, Bool, true, false, refl, ap, ◌∙◌, if◌then◌else◌, ◌||◌, ◌&&◌, arith}
use Rattle.gx_lemmas.proofs.Tests.{or-assoc}
use Rattle.gx_ids.specs.declared.ids.Gxid.{Gxid}
use Rattle.gx_ids.specs.declared.ids.Node.{Node}
use Rattle.gx_msg.specs.declared.message.Out.{Out}
use Rattle.gx_store.specs.declared.mark.Mark.{Mark}
use Rattle.gx_store.specs.declared.mark.Mark.TheVariants as mark
use Rattle.gx_store.specs.Journals.{is_same_node}
use Rattle.gx_store.specs.Marks.{is_aborted, is_committed, is_same_gxid}
use Rattle.gx_store.specs.Protocol.{decided_count, is_writer, local_count, prepared_count}
use Rattle.gx_rules.specs.Sending.{counted, numbered}
use Rattle.gx_law_order.specs.Lists.{Each}

pub writer-append : (xs ys : List Mark) (g : Gxid) (n : Node) → is_writer (xs ++ ys) g n ≡ is_writer xs g n || is_writer ys g n
writer-append [] ys g n = refl
writer-append (mark.Write h c m t r x ∷ xs) ys g n = ap (λ b. (is_same_gxid h g && is_same_node m n) || b) (writer-append xs ys g n) ∙ or-assoc (is_same_gxid h g && is_same_node m n) (is_writer xs g n) (is_writer ys g n)
writer-append (m ∷ xs) ys g n = writer-append xs ys g n

counts-on : (b : Bool) (x y z : ℕ) → x ≡ y + z → (if b then x + 1 else x) ≡ (if b then y + 1 else y) + z
counts-on true x y z e = omega arith
counts-on false x y z e = e

pub prepared-append : (xs ys : List Mark) (n : Node) (g : Gxid) → prepared_count (xs ++ ys) n g ≡ prepared_count xs n g + prepared_count ys n g
prepared-append [] ys n g = omega arith
prepared-append (mark.Prepared m h ∷ xs) ys n g = counts-on (is_same_node m n && is_same_gxid h g) (prepared_count (xs ++ ys) n g) (prepared_count xs n g) (prepared_count ys n g) (prepared-append xs ys n g)
prepared-append (m ∷ xs) ys n g = prepared-append xs ys n g

pub local-append : (xs ys : List Mark) (n : Node) (g : Gxid) → local_count (xs ++ ys) n g ≡ local_count xs n g + local_count ys n g
local-append [] ys n g = omega arith
local-append (mark.LocalCommit m h ∷ xs) ys n g = counts-on (is_same_node m n && is_same_gxid h g) (local_count (xs ++ ys) n g) (local_count xs n g) (local_count ys n g) (local-append xs ys n g)
local-append (m ∷ xs) ys n g = local-append xs ys n g

pub decided-append : (xs ys : List Mark) (g : Gxid) → decided_count (xs ++ ys) g ≡ decided_count xs g + decided_count ys g
decided-append [] ys g = omega arith
decided-append (mark.Decided h ∷ xs) ys g = counts-on (is_same_gxid h g) (decided_count (xs ++ ys) g) (decided_count xs g) (decided_count ys g) (decided-append xs ys g)
decided-append (m ∷ xs) ys g = decided-append xs ys g

-- marks that tell of no segment's part
abbrev pub NoPart : Mark → Type 0
NoPart (mark.Write g c n t r x) = ⊥
NoPart (mark.Prepared n g) = ⊥
NoPart (mark.LocalCommit n g) = ⊥
NoPart _ = Unit {0}

pub no-writer : (ms : List Mark) (g : Gxid) (n : Node) → Each NoPart ms → is_writer ms g n ≡ false
no-writer [] g n e = refl
no-writer (mark.Write h c m t r x ∷ ms) g n e = absurd e.0
no-writer (m ∷ ms) g n e = no-writer ms g n e.1

pub no-prepared : (ms : List Mark) (n : Node) (g : Gxid) → Each NoPart ms → prepared_count ms n g ≡ 0
no-prepared [] n g e = refl
no-prepared (mark.Prepared m h ∷ ms) n g e = absurd e.0
no-prepared (m ∷ ms) n g e = no-prepared ms n g e.1

pub no-local : (ms : List Mark) (n : Node) (g : Gxid) → Each NoPart ms → local_count ms n g ≡ 0
no-local [] n g e = refl
no-local (mark.LocalCommit m h ∷ ms) n g e = absurd e.0
no-local (m ∷ ms) n g e = no-local ms n g e.1

-- marks that tell of no decision and no end
abbrev pub NoEnd : Mark → Type 0
NoEnd (mark.Commit g) = ⊥
NoEnd (mark.Abort g) = ⊥
NoEnd (mark.Decided g) = ⊥
NoEnd _ = Unit {0}

pub no-decided : (ms : List Mark) (g : Gxid) → Each NoEnd ms → decided_count ms g ≡ 0
no-decided [] g e = refl
no-decided (mark.Decided h ∷ ms) g e = absurd e.0
no-decided (m ∷ ms) g e = no-decided ms g e.1

pub no-aborted : (ms : List Mark) (g : Gxid) → Each NoEnd ms → is_aborted ms g ≡ false
no-aborted [] g e = refl
no-aborted (mark.Abort h ∷ ms) g e = absurd e.0
no-aborted (m ∷ ms) g e = no-aborted ms g e.1

pub no-committed : (ms : List Mark) (g : Gxid) → Each NoEnd ms → is_committed ms g ≡ false
no-committed [] g e = refl
no-committed (mark.Commit h ∷ ms) g e = absurd e.0
no-committed (m ∷ ms) g e = no-committed ms g e.1

-- sendings tell of neither
pub sent-no-part : (f : ℕ → ℕ) (outs : List Out) → Each NoPart (numbered f outs)
sent-no-part f [] = tt
sent-no-part f (o ∷ outs) = (tt, sent-no-part (counted f o) outs)

pub sent-no-end : (f : ℕ → ℕ) (outs : List Out) → Each NoEnd (numbered f outs)
sent-no-end f [] = tt
sent-no-end f (o ∷ outs) = (tt, sent-no-end (counted f o) outs)

-- marks that send nothing
abbrev pub NoSent : Mark → Type 0
NoSent (mark.Sent to number told) = ⊥
NoSent _ = Unit {0}
