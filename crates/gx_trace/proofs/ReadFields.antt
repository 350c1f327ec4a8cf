-- The fields of a line are read as they are printed.
use Rattle.std.proofs.Common.{ℕ, ◌^◌, ◌<◌, ◌++◌, length, codes, refl, arith, append_assoc}
use Rattle.std.specs.Fmt.{decimal}
use Rattle.gx_ids.specs.declared.ids.Cid.{Cid}
use Rattle.gx_ids.specs.declared.ids.Node.{Node}
use Rattle.gx_report.specs.Words.{gxid_text, number_text}
use Rattle.gx_trace.specs.Fields.{count, dotted, gxid, gxid_of, cid, cid_of, node, node_of, rid, rid_of}
use Rattle.gx_trace.specs.Lawful.{IsGxid, IsCid, IsNode, IsRid}
use Rattle.std.specs.Prelude.{All}
use Rattle.std.specs.List.{flat_map}
use Rattle.std.proofs.lemmas.List.{length-append}
use Rattle.gx_trace.proofs.Many.{AreApart, ends-read}
use Rattle.gx_trace.specs.Readers.{both, to_end, EndsNumber, IsEnd, IsReaderOf}
use Rattle.gx_trace.specs.Texts.{rid_word}
use Rattle.gx_trace.proofs.Readers.{numbers-below, behind-word, one-behind-other, made-into}

pub counts : IsReaderOf number_text (λ n. n < 2 ^ 64) EndsNumber count
counts = behind-word (codes " ") (numbers-below (2 ^ 64) (omega arith))

dots : IsReaderOf (λ n. codes "." ++ decimal n) (λ n. n < 2 ^ 32) EndsNumber dotted
dots = behind-word (codes ".") (numbers-below (2 ^ 32) (omega arith))

pub gxids : IsReaderOf gxid_text IsGxid EndsNumber gxid
gxids = made-into gxid_text IsGxid gxid_of counts (λ b is. (b.0, refl, is)) (λ a is. (is, refl))

pub cids : IsReaderOf (λ (c : Cid). number_text c.0) IsCid EndsNumber cid
cids = made-into (λ (c : Cid). number_text c.0) IsCid cid_of (behind-word (codes " ") (numbers-below (2 ^ 32) (omega arith))) (λ b is. (b.0, refl, is)) (λ a is. (is, refl))

pub nodes : IsReaderOf (λ (n : Node). number_text n.0) IsNode EndsNumber node
nodes = made-into (λ (n : Node). number_text n.0) IsNode node_of (behind-word (codes " ") (numbers-below (2 ^ 8) (omega arith))) (λ b is. (b.0, refl, is)) (λ a is. (is, refl))

rid-parts : IsReaderOf (λ x. number_text x.0 ++ ((codes "." ++ decimal x.1.0) ++ (codes "." ++ decimal x.1.1))) (λ x. (x.0 < 2 ^ 64) × ((x.1.0 < 2 ^ 32) × (x.1.1 < 2 ^ 32))) EndsNumber (both count (both dotted dotted))
rid-parts = one-behind-other counts (one-behind-other dots dots (λ b rest is ends. refl)) (λ b rest is ends. refl)

pub rids : IsReaderOf rid_word IsRid EndsNumber rid
rids =
    made-into rid_word IsRid rid_of rid-parts
    (λ b is. ((b.gxid.0, (b.cid.0, b.ordinal)), refl, (is.gxid, (is.cid, is.ordinal))))
    (λ a is. (record { gxid = is.0; cid = is.1.0; ordinal = is.1.1 }, simp append_assoc))

pub one-blank : (n : ℕ) → 0 < length (number_text n)
one-blank n = omega (arith, length-append (codes " ") (decimal n))

pub gxids-apart : AreApart gxid_text IsGxid EndsNumber
gxids-apart = record { begins = λ g is. one-blank g.0; follows = λ g rest is. refl; last = tt }

pub gxid-lists : IsReaderOf (flat_map gxid_text) (All IsGxid) IsEnd (to_end gxid)
gxid-lists = ends-read gxids gxids-apart
