-- The history after an answer.
use Rattle.std.proofs.Common.{◌≡◌, ◌≢◌, List, ◌∷◌, refl, arith, ◌⊎◌, Ok, Err, Result}
use Rattle.std.specs.Prelude.{IfErr, IsErrOf}
use Rattle.krb_ap.specs.Setup.{Arrival, decided_now}
use Rattle.krb_ap.specs.Answer.{after, after_refusal}
use Rattle.krb_ap.specs.declared.accepted.Accepted.{Accepted}
use Rattle.krb_ap.specs.declared.refusal.Refusal.{Refusal}
use Rattle.krb_ap.specs.declared.refusal.Refusal.TheVariants.{OutOfMemory}

-- with the call, if the answer isn't out of memory
pub after_named : (history : List Arrival) (call : Arrival) (r : Refusal) → r ≢ OutOfMemory → decided_now call ∷ history ≡ after_refusal history call r
after_named history call r named = grind arith

pub after_answer : (history : List Arrival) (call : Arrival) (answer : Result Accepted Refusal) → IfErr answer (λ r. r ≢ OutOfMemory)
    → decided_now call ∷ history ≡ after history call answer
after_answer history call (Ok accepted) named = refl
after_answer history call (Err refusal) named = after_named history call refusal named

pub memory_or_not : (r : Refusal) → (r ≡ OutOfMemory) ⊎ (r ≢ OutOfMemory)
memory_or_not r = grind arith

pub refusal_of : (r s : Refusal) → IsErrOf {T = Accepted} {E = Refusal} (Err r) s → r ≡ s
refusal_of r s e = cc

accepted_is_none : (x : Accepted) (r : Refusal) → IsErrOf {T = Accepted} {E = Refusal} (Ok x) r → ⊥
accepted_is_none x r e = cc

pub not_memory : (answer : Result Accepted Refusal) → IfErr answer (λ r. r ≢ OutOfMemory) → IsErrOf answer OutOfMemory → ⊥
not_memory (Ok accepted) named memory = accepted_is_none accepted OutOfMemory memory
not_memory (Err refusal) named memory = named (refusal_of refusal OutOfMemory memory)
