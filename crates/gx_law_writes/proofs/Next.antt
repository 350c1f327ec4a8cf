-- Which commands of a transaction have still to run at a segment.
use Rattle.std.proofs.Common.{◌≡◌, ◌≤◌, ◌<◌, ℕ, ◌+◌, Option, Some, None, sym, subst, arith}
use Rattle.gx_rules.specs.Segments.{Local, Suspended}

-- the first that may run there: the one that waits, or the next after the last
abbrev pub next_by : Option Suspended → ℕ → ℕ
next_by None last = last + 1
next_by (Some x) last = last

abbrev pub next_command : Local → ℕ
next_command l = next_by l.suspended l.last

-- a command below it isn't above the last
pub below-next : (l : Local) (c : ℕ) → c < next_command l → c ≤ l.last
below-next l c = from l.suspended l.last
  where
    from : (o : Option Suspended) (last : ℕ) → c < next_by o last → c ≤ last
    from None last h = omega arith
    from (Some x) last h = omega arith

-- where nobody waits, a command above the last is new
pub new-next : (l : Local) (c : ℕ) → l.suspended ≡ None → l.last < c → next_command l ≤ c
new-next l c e h = subst (λ o. next_by o l.last ≤ c) (sym e) (above l.last c h)
  where
    above : (a b : ℕ) → a < b → a + 1 ≤ b
    above a b h = omega arith

-- one that waits is the next
pub waits-next : (l : Local) (x : Suspended) → l.suspended ≡ Some x → l.last ≡ x.cid.0 → next_command l ≤ x.cid.0
waits-next l x e h = subst (λ o. next_by o l.last ≤ x.cid.0) (sym e) (same-le l.last x.cid.0 h)
  where
    same-le : (a b : ℕ) → a ≡ b → a ≤ b
    same-le a b h = omega arith

-- the slice that waited is dropped
pub drops-next : (o : Option Suspended) (last : ℕ) → next_by o last ≤ last + 1
drops-next None last = omega arith
drops-next (Some x) last = omega arith

-- where a command has stopped, none before it runs
pub next-above : (o : Option Suspended) (last : ℕ) → last ≤ next_by o last
next-above None last = omega arith
next-above (Some x) last = omega arith
