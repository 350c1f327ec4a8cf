-- What is printed reads back.
use Rattle.std.proofs.Common.{◌≡◌, ℕ, List, sym, subst, Result, Ok, Err, IfOk}
use Rattle.std.specs.declared.vec.Vec.{Vec}
use Rattle.std.specs.declared.alloc.Global.{Global}
use Rattle.gx_ids.specs.declared.memory.OutOfMemory.{OutOfMemory}
use Rattle.gx_grammar.specs.declared.fault.Limits.{Limits}
use Rattle.gx_lines.specs.declared.syn.StmtSyn.{StmtSyn}
use Rattle.gx_print.specs.Statements.{stmt_tokens, stmt_text}
use Rattle.gx_print.specs.Limited.{IsWithin, StmtClear, IsPrintedAs}
use Rattle.gx_print.proofs.StmtCut.{stmt_cut}
use Rattle.gx_print.proofs.StmtSpelled.{stmt_spelled}

pub text_again : (d : Limits) (s : StmtSyn) → StmtClear s → IsWithin d s → IsPrintedAs d s (stmt_text s)
text_again d s c w = (stmt_tokens s, stmt_cut s c, stmt_spelled d s w)

pub printed_again : (d : Limits) (s : StmtSyn) (r : Result (Vec ℕ Global) OutOfMemory) → StmtClear s → IsWithin d s → IfOk r (λ v. v.items ≡ stmt_text s) → IfOk r (λ v. IsPrintedAs d s v.items)
printed_again d s (Ok v) c w e = subst (λ (x : List ℕ). IsPrintedAs d s x) (sym e) (text_again d s c w)
printed_again d s (Err e) c w h = tt
