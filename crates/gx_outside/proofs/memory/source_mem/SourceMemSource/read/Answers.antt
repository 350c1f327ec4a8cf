use Rattle.std.proofs.Common.{◌≡◌, ℕ, ◌+◌, ◌++◌, List, take, drop, sym, ap, ◌∙◌, arith, length-drop}
use Rattle.std.proofs.lemmas.List.{take_rest, take-append-drop, drop-drop, drop_all}
use Rattle.gx_outside.proofs.memory.source_mem.SourceMemSource.read.Goals as goal

-- what was moved, and what is left behind it
parts : (bytes moved : List ℕ) (at n : ℕ) → take n moved ≡ take n (drop at bytes) → drop at bytes ≡ take n moved ++ drop (at + n) bytes
parts bytes moved at n e = rw (e, ← drop-drop n at bytes) (sym (take-append-drop n (drop at bytes)))

pub returns-clause-bytes : goal.returns-clause-bytes
returns-clause-bytes c =
    let moved = rw (take_rest, c.deref.ensures.value) at c.move_front-count.ensures.moved in
    let count = rw (take_rest, length-drop, c.deref.ensures.value) at c.move_front-count.ensures.count in (
      ap (λ s. s.left) (sym c.self.view_is) ∙ parts c.self.inside.bytes.items _ _ _ moved,
      λ zero some. drop_all _ c.self.inside.bytes.items (omega (arith, count, c.self.inside.bytes.ok.0)),
    )
