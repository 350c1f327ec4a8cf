-- What a test decides.
use Rattle.std.proofs.Common.{◌≡◌, ◌∙◌, ◌↔◌, Bool, true, false, IsTrue, sym}

pub no_more : (P : Type 0) → false ≡ true → P
no_more P e = absurd (cc)

pub decided : (b test : Bool) (P : Type 0) → b ≡ test → (test ≡ true → P) → (P → test ≡ true) → IsTrue b ↔ P
decided b test P same sound whole = (λ t. sound (sym same ∙ t), λ p. same ∙ whole p)
