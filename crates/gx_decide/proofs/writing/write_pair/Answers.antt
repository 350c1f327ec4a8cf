use Rattle.std.proofs.Common.{rules, List, ◌+◌, ◌*◌, ◌++◌, ◌∷◌, []}
use Rattle.std.specs.Int.{w64, to_le_bytes}
use Rattle.gx_decide.specs.Calls.{AreMade, AreMadePartly, Call, Sync, Write}
use Rattle.gx_decide.specs.Log.{byte_of}
use Rattle.gx_decide.proofs.Made.{made-both, made-first, made-second}
use Rattle.gx_decide.proofs.Settling.{on-err}
use Rattle.gx_decide.proofs.writing.write_pair.Goals as goal

pub returns-in_err-write_synced-clause-err : goal.returns-in_err-write_synced-clause-err
returns-in_err-write_synced-clause-err g c =
    let first : List Call = Write (16 * c.args.slot) (to_le_bytes w64 c.args.gxid ++ byte_of c.args.decision ∷ []) ∷ Sync ∷ [] in
    let old = g.D.Disk.state c.args.disk.now in
    let mid = g.D.Disk.state c.write_synced.new.disk in
    let pair : AreMadePartly first old mid = search rules in
    on-err _ (made-first first (Write (16 * c.args.slot + 9) (1 ∷ []) ∷ Sync ∷ []) old mid pair)

pub returns-in_err-write_synced-2-clause-err : goal.returns-in_err-write_synced-2-clause-err
returns-in_err-write_synced-2-clause-err g c =
    let first : List Call = Write (16 * c.args.slot) (to_le_bytes w64 c.args.gxid ++ byte_of c.args.decision ∷ []) ∷ Sync ∷ [] in
    let old = g.D.Disk.state c.args.disk.now in
    let mid = g.D.Disk.state c.write_synced.new.disk in
    let pair : AreMade first old mid = search rules in
    on-err _ (made-second first (Write (16 * c.args.slot + 9) (1 ∷ []) ∷ Sync ∷ []) old mid (g.D.Disk.state c.write_synced-2.new.disk) pair c.in_err-write_synced-2.ensures.err)

pub returns-clause-ok : goal.returns-clause-ok
returns-clause-ok g c =
    let first : List Call = Write (16 * c.args.slot) (to_le_bytes w64 c.args.gxid ++ byte_of c.args.decision ∷ []) ∷ Sync ∷ [] in
    let old = g.D.Disk.state c.args.disk.now in
    let mid = g.D.Disk.state c.write_synced.new.disk in
    let pair : AreMade first old mid = search rules in
    made-both first (Write (16 * c.args.slot + 9) (1 ∷ []) ∷ Sync ∷ []) old mid (g.D.Disk.state c.write_synced-2.new.disk) pair c.in_ok-write_synced-2.ensures.ok
