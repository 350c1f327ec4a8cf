-- What the reader says is true of the bytes.
use Rattle.std.proofs.Common.{◌≡◌, ℕ, ◌+◌, Bool, true, false, List, [], ◌∷◌, ◌++◌, length, Option, Some, None, Result, Ok, Err, refl, sym, ◌∙◌, ap, subst, arith, append_assoc, append-nil}
use Rattle.std.proofs.lemmas.Option.{none-some, same_Some}
use Rattle.gx_msg.specs.declared.item.ItemFault.{ItemFault}
use Rattle.gx_msg.specs.declared.item.ItemFault.TheVariants.{NotAnItem, OutOfMemory}
use Rattle.gx_msg.specs.declared.item.JournalItem.{JournalItem}
use Rattle.gx_msg.specs.declared.mid.Mid.{Mid}
use Rattle.gx_msg.specs.declared.mid.Mid.TheVariants as mid
use Rattle.gx_msg.specs.ItemBytes.{bytes_of_item}
use Rattle.gx_msg.specs.Reading.{IsItem, BeginsItem, EndsThere, IsVerdict, Says}
use Rattle.gx_msg.specs.Steps.{next, ended, goes_on, read_on, read}
use Rattle.gx_msg.proofs.Printed.{printed, IsMid, Keeps}
use Rattle.gx_msg.proofs.Runs.{onward, run, run-append}
use Rattle.gx_msg.proofs.Stays.{keeps}
use Rattle.gx_msg.proofs.Ending.{ends}
use Rattle.gx_msg.proofs.Written.{complete}

-- what is read is printed so
sound_by : (b : ℕ) (bs : List ℕ) (m n : Mid) → ((p : Mid) → IsMid p → run bs p ≡ Some n → IsMid n × (printed n ≡ printed p ++ bs)) → (o : Option Mid) → Keeps (printed m) b o → onward (run bs) o ≡ Some n → IsMid n × (printed n ≡ printed m ++ b ∷ bs)
sound_by b bs m n ih None k e = absurd (none-some n e)
sound_by b bs m n ih (Some p) k e = let (i, q) = ih p k.0 e in (i, q ∙ ap (λ (x : List ℕ). x ++ bs) k.1 ∙ append_assoc (printed m) (b ∷ []) bs)

sound : (bs : List ℕ) (m n : Mid) → IsMid m → run bs m ≡ Some n → IsMid n × (printed n ≡ printed m ++ bs)
sound [] m n is e = subst (λ (x : Mid). IsMid x × (printed x ≡ printed m ++ [])) (same_Some m n e) (is, sym (append-nil (printed m)))
sound (b ∷ bs) m n is e = sound_by b bs m n (λ p. sound bs p n) (next m b) (keeps m b is) e

-- Where the reader stops.
abbrev is_done : Mid → Bool
is_done (mid.Done i) = true
is_done _ = false

abbrev item_or : JournalItem → Mid → JournalItem
item_or i (mid.Done j) = j
item_or i _ = i

abbrev Stuck : List ℕ → Mid → Type 0
Stuck [] n = is_done n ≡ false
Stuck (b ∷ _) n = next n b ≡ None

record Stops (bs : List ℕ) (m : Mid) (place stop : ℕ) : Type 0 where
  pub front : List ℕ
  pub rest : List ℕ
  pub state : Mid
  pub parts : bs ≡ front ++ rest
  pub at : place + length front ≡ stop
  pub leads : run front m ≡ Some state
  pub stuck : Stuck rest state

abbrev IsRead : List ℕ → Mid → ℕ → Result JournalItem ItemFault → Type 0
IsRead bs m place (Ok i) = run bs m ≡ Some (mid.Done i)
IsRead bs m place (Err OutOfMemory) = ⊥
IsRead bs m place (Err (NotAnItem stop)) = Stops bs m place stop

stops_here : (bs : List ℕ) (m : Mid) (place : ℕ) → Stuck bs m → Stops bs m place place
stops_here bs m place stuck = record { front = []; rest = bs; state = m; parts = refl; at = omega arith; leads = refl; stuck = stuck }

at_end : (m : Mid) (place : ℕ) → IsRead [] m place (ended m place)
at_end mid.Start place = stops_here [] _ place refl
at_end mid.Fork place = stops_here [] _ place refl
at_end (mid.Word w n) place = stops_here [] _ place refl
at_end (mid.Digits f n) place = stops_here [] _ place refl
at_end (mid.Value spot values) place = stops_here [] _ place refl
at_end (mid.Text spot values t) place = stops_here [] _ place refl
at_end (mid.Quoted spot values t) place = stops_here [] _ place refl
at_end (mid.Done i) place = refl

-- the same from one byte before
before : (b : ℕ) (bs : List ℕ) (m n : Mid) (place : ℕ) → next m b ≡ Some n → (r : Result JournalItem ItemFault) → IsRead bs n (place + 1) r → IsRead (b ∷ bs) m place r
before b bs m n place e (Ok i) h = ap (onward (run bs)) e ∙ h
before b bs m n place e (Err OutOfMemory) h = h
before b bs m n place e (Err (NotAnItem stop)) h = record {
  front = b ∷ h.front;
  rest = h.rest;
  state = h.state;
  parts = ap (λ (x : List ℕ). b ∷ x) h.parts;
  at = omega (arith, h.at);
  leads = ap (onward (run h.front)) e ∙ h.leads;
  stuck = h.stuck;
}

reads_by : (b : ℕ) (bs : List ℕ) (m : Mid) (place : ℕ) → ((n : Mid) → IsRead bs n (place + 1) (read_on bs n (place + 1))) → (o : Option Mid) → next m b ≡ o → IsRead (b ∷ bs) m place (goes_on (λ n. read_on bs n (place + 1)) place o)
reads_by b bs m place ih None e = stops_here (b ∷ bs) m place e
reads_by b bs m place ih (Some n) e = before b bs m n place e (read_on bs n (place + 1)) (ih n)

reads : (bs : List ℕ) (m : Mid) (place : ℕ) → IsRead bs m place (read_on bs m place)
reads [] m place = at_end m place
reads (b ∷ bs) m place = reads_by b bs m place (λ n. reads bs n (place + 1)) (next m b) refl

-- Where it stops, nothing goes on.
begins_there : (front : List ℕ) (n : Mid) → run front mid.Start ≡ Some n → BeginsItem front
begins_there front n e =
    let (is, p) = sound front mid.Start n tt e in
    let h = ends n is in
    let (i, q) = sound h.bytes n (mid.Done h.item) is h.leads in
    record { item = h.item; rest = h.bytes; is = i; bytes = q ∙ ap (λ (x : List ℕ). x ++ h.bytes) p }

ends_there : (front rest : List ℕ) (n : Mid) → run front mid.Start ≡ Some n → Stuck rest n → EndsThere front rest
ends_there front [] n e stuck = λ i is w.
    let done : n ≡ mid.Done i = same_Some n (mid.Done i) (sym e ∙ ap (λ (x : List ℕ). run x mid.Start) w ∙ complete i is) in
    let both : false ≡ true = sym stuck ∙ ap is_done done in
    absurd (grind arith)
ends_there front (b ∷ rest) n e stuck = λ h.
    let none : run (front ++ b ∷ []) mid.Start ≡ None = run-append front (b ∷ []) mid.Start ∙ ap (onward (run (b ∷ []))) e ∙ ap (onward (run [])) stuck in
    let lost : run ((front ++ b ∷ []) ++ h.rest) mid.Start ≡ None = run-append (front ++ b ∷ []) h.rest mid.Start ∙ ap (onward (run h.rest)) none in
    absurd (none-some (mid.Done h.item) (sym lost ∙ sym (ap (λ (x : List ℕ). run x mid.Start) h.bytes) ∙ complete h.item h.is))

verdict_by : (bs : List ℕ) (r : Result JournalItem ItemFault) → IsRead bs mid.Start 0 r → IsVerdict bs r
verdict_by bs (Ok i) h = let (is, p) = sound bs mid.Start (mid.Done i) tt h in (is, sym p)
verdict_by bs (Err OutOfMemory) h = tt
verdict_by bs (Err (NotAnItem stop)) h = record {
  front = h.front;
  rest = h.rest;
  parts = h.parts;
  at = omega (arith, h.at);
  begins = begins_there h.front h.state h.leads;
  ends = ends_there h.front h.rest h.state h.leads h.stuck;
}

-- an item's bytes have no bad place
never_bad : (bs front rest : List ℕ) (i : JournalItem) → bs ≡ front ++ rest → EndsThere front rest → IsItem i → bs ≡ bytes_of_item i → ⊥
never_bad bs front [] i parts ends is w = ends i is (sym (append-nil front) ∙ sym parts ∙ w)
never_bad bs front (b ∷ rest) i parts ends is w = ends (record { item = i; rest = rest; is = is; bytes = sym w ∙ parts ∙ sym (append_assoc front (b ∷ []) rest) })

only_by : (bs : List ℕ) (i : JournalItem) (r : Result JournalItem ItemFault) → IsRead bs mid.Start 0 r → IsItem i → bs ≡ bytes_of_item i → r ≡ Ok i
only_by bs i (Ok j) h is w = ap Ok (ap (item_or i) (same_Some (mid.Done j) (mid.Done i) (sym h ∙ ap (λ (x : List ℕ). run x mid.Start) w ∙ complete i is)))
only_by bs i (Err OutOfMemory) h is w = absurd h
only_by bs i (Err (NotAnItem stop)) h is w = absurd (never_bad bs h.front h.rest i h.parts (ends_there h.front h.rest h.state h.leads h.stuck) is w)

pub verdict_said : (bs : List ℕ) (r : Result JournalItem ItemFault) → Says r (read bs) → IsVerdict bs r
verdict_said bs (Ok i) e = subst (IsVerdict bs) e (verdict_by bs (read bs) (reads bs mid.Start 0))
verdict_said bs (Err OutOfMemory) e = tt
verdict_said bs (Err (NotAnItem stop)) e = subst (IsVerdict bs) e (verdict_by bs (read bs) (reads bs mid.Start 0))

pub only_said : (bs : List ℕ) (i : JournalItem) (r : Result JournalItem ItemFault) → Says r (read bs) → IsItem i → bs ≡ bytes_of_item i → Says r (Ok i)
only_said bs i r h is w = subst (Says r) (only_by bs i (read bs) (reads bs mid.Start 0) is w) h
