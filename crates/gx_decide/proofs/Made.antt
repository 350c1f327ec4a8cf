-- Calls on the disk, one list behind another.
use Rattle.std.proofs.Common.{inl, inr, List, [], ◌∷◌, ◌++◌, refl, sym, subst}
use Rattle.gx_decide.specs.Disk.{DiskState}
use Rattle.gx_decide.specs.Calls.{AreMade, AreMadePartly, Call, Sync, Write}

pub made-both : (calls more : List Call) (old mid new : DiskState) → AreMade calls old mid → AreMade more mid new → AreMade (calls ++ more) old new
made-both [] more old mid new same made = subst (λ (d : DiskState). AreMade more d new) same made
made-both (call ∷ calls) more old mid new (next, done, rest) made = (next, done, made-both calls more next mid new rest made)

pub made-second : (calls more : List Call) (old mid new : DiskState) → AreMade calls old mid → AreMadePartly more mid new → AreMadePartly (calls ++ more) old new
made-second [] more old mid new same made = subst (λ (d : DiskState). AreMadePartly more d new) same made
made-second (call ∷ calls) more old mid new (next, done, rest) made = inr (next, done, made-second calls more next mid new rest made)

-- where all of them were made, the next one has not begun
begun : (more : List Call) (disk : DiskState) → AreMadePartly more disk disk
begun [] disk = refl
begun (Sync ∷ more) disk = inl (record { size = refl; seen = λ place. refl; pending = λ place quiet. quiet })
begun (Write at bytes ∷ more) disk = inl (record { size = refl; seen = λ place out. refl; pending = λ place out quiet. quiet })

pub made-first : (calls more : List Call) (old new : DiskState) → AreMadePartly calls old new → AreMadePartly (calls ++ more) old new
made-first [] more old new same = subst (λ (d : DiskState). AreMadePartly more old d) (sym same) (begun more old)
made-first (call ∷ calls) more old new (inl cut) = inl cut
made-first (call ∷ calls) more old new (inr (next, done, rest)) = inr (next, done, made-first calls more next new rest)
