-- Of any list one answer holds, also where it isn't one of bytes; and where its fault lies.
use Rattle.std.proofs.Common.{◌≡◌, ◌⊎◌, ℕ, ◌<◌, ◌≤◌, List, [], length, Option, Some, None, Result, Ok, Err, refl, sym, ap, subst, ◌∙◌, arith, inl, inr, ◌++◌, length-append}
use Rattle.std.specs.Prelude.{◌≢◌, IfSome}
use Rattle.std.specs.Io.KnownBytes.{Consumes}
use Rattle.krb_keytab.specs.Entry.{KeytabEntry}
use Rattle.krb_file.specs.File.{file_limit, IsGiven}
use Rattle.krb_file.proofs.FileLaws.{AnswersFiles}
use Rattle.krb_keytab.specs.Format.{IsReached, IsFaultOf, IsAnswerOf, version, record_bytes, StandsAt}
use Rattle.krb_keytab.specs.Items.{StopsSo, Concludes, StandsTo}
use Rattle.krb_keytab.specs.Inner.Meeting.{IsFaulty}
use Rattle.krb_keytab.specs.declared.fault.KeytabFault.{KeytabFault}
use Rattle.krb_keytab.specs.declared.fault.KeytabFault.TheVariants.{Version, Truncated, BadEntry, TooLong, Read, OutOfMemory}
use Rattle.krb_keytab.specs.declared.stage.Stage.TheVariants.{Failed}
use Rattle.krb_keytab.proofs.OneSplit.{one_last}
use Rattle.std.specs.List.{flat_map}
use Rattle.krb_keytab.specs.Fault.{offset_of}

-- the answer for bytes with these entries and this last answer
abbrev pub said : List KeytabEntry → Option KeytabFault → Result (List KeytabEntry) KeytabFault
said entries None = Ok entries
said entries (Some fault) = Err fault

pub last_said : (bytes : List ℕ) (entries : List KeytabEntry) (last : Option KeytabFault) → length bytes ≤ file_limit → StopsSo bytes entries last → IsAnswerOf bytes (said entries last)
last_said bytes entries None limit s = record { limit = limit; at = s.at; behind = s.behind; reached = s.reached; end = s.lacks }
last_said bytes entries (Some Version) limit s = (limit, s.1)
last_said bytes entries (Some (Truncated place)) limit s = record { limit = limit; entries = entries; behind = s.behind; reached = subst (λ (n : ℕ). IsReached bytes n entries s.behind) (sym s.lacks.0) s.reached; faulty = s.lacks.1 }
last_said bytes entries (Some (BadEntry place)) limit s = record { limit = limit; entries = entries; behind = s.behind; reached = subst (λ (n : ℕ). IsReached bytes n entries s.behind) (sym s.lacks.0) s.reached; faulty = s.lacks.1 }
last_said bytes entries (Some _) limit s = absurd s.lacks

-- ---- an answer is that of too many bytes, or the last of those within the limit
record IsLast (bytes : List ℕ) (answer : Result (List KeytabEntry) KeytabFault) : Type 0 where
  limit : length bytes ≤ file_limit
  entries : List KeytabEntry
  last : Option KeytabFault
  stops : StopsSo bytes entries last
  is : answer ≡ said entries last

abbrev Way : List ℕ → Result (List KeytabEntry) KeytabFault → Type 0
Way bytes answer = ((file_limit < length bytes) × (answer ≡ Err TooLong)) ⊎ IsLast bytes answer

way : (bytes : List ℕ) (answer : Result (List KeytabEntry) KeytabFault) → IsAnswerOf bytes answer → Way bytes answer
way bytes (Ok all) a = inr (record { limit = a.limit; entries = all; last = None; stops = record { at = a.at; behind = a.behind; reached = a.reached; lacks = a.end }; is = refl })
way bytes (Err TooLong) a = inl (a, refl)
way bytes (Err Version) a = inr (record { limit = a.0; entries = []; last = Some Version; stops = (refl, a.1); is = refl })
way bytes (Err (Truncated at)) a = inr (record { limit = a.limit; entries = a.entries; last = Some (Truncated at); stops = record { at = at; behind = a.behind; reached = a.reached; lacks = (refl, a.faulty) }; is = refl })
way bytes (Err (BadEntry at)) a = inr (record { limit = a.limit; entries = a.entries; last = Some (BadEntry at); stops = record { at = at; behind = a.behind; reached = a.reached; lacks = (refl, a.faulty) }; is = refl })
way bytes (Err _) a = absurd a

same_way : (bytes : List ℕ) (v w : Result (List KeytabEntry) KeytabFault) → Way bytes v → Way bytes w → v ≡ w
same_way bytes v w (inl p) (inl q) = p.1 ∙ sym q.1
same_way bytes v w (inl p) (inr q) = absurd (omega (arith, p.0, q.limit))
same_way bytes v w (inr p) (inl q) = absurd (omega (arith, p.limit, q.0))
same_way bytes v w (inr p) (inr q) =
    let one = one_last bytes p.entries q.entries p.last q.last p.stops q.stops in
    p.is ∙ ap (λ (k : List KeytabEntry). said k p.last) one.0 ∙ ap (said q.entries) one.1 ∙ sym q.is

pub same_answers : (bytes : List ℕ) (v w : Result (List KeytabEntry) KeytabFault) → IsAnswerOf bytes v → IsAnswerOf bytes w → v ≡ w
same_answers bytes v w a b = same_way bytes v w (way bytes v a) (way bytes w b)

-- too many bytes have the answer of any that are too many
pub long_answer : (bytes more : List ℕ) (answer : Result (List KeytabEntry) KeytabFault) → file_limit < length bytes → file_limit < length more → IsAnswerOf bytes answer → IsAnswerOf more answer
long_answer bytes more answer long longer a =
    elim (way bytes answer a) [
      | inl is ↦ subst (IsAnswerOf more) (sym is.1) longer
      | inr last ↦ absurd (omega (arith, long, last.limit))
    ]

-- ---- what a source gave is answered as all its bytes are

fault_kind : (fault : KeytabFault) → ((fault ≢ OutOfMemory) × (fault ≢ Read)) ⊎ ((fault ≡ OutOfMemory) ⊎ (fault ≡ Read))
fault_kind OutOfMemory = inr (inl refl)
fault_kind Read = inr (inr refl)
fault_kind _ = inl (λ e. cc, λ e. cc)

pub keytab_answers : AnswersFiles IsAnswerOf OutOfMemory Read
keytab_answers = record { one = same_answers; long = long_answer; limit = λ bytes entries is. is.limit; kind = fault_kind }

-- a reader had all bytes, and this is the last answer for them
pub concluded : (from to : Option (List ℕ)) (bytes : List ℕ) (entries : List KeytabEntry) (last : Option KeytabFault) → Consumes from to bytes → Concludes to bytes entries last
    → (given : List ℕ) × IsGiven from to given × IsAnswerOf given (said entries last)
concluded from to bytes entries last c s = (bytes, record { given = c; limit = omega (arith, s.limit); end = λ within. s.all }, last_said bytes entries last s.limit s.stops)

pub fault_of : (from to : Option (List ℕ)) (held : ℕ) (bytes : List ℕ) (entries : List KeytabEntry) (fault : KeytabFault) → Consumes from to bytes → StandsTo to held (Failed fault) bytes entries → IsFaulty from to fault
fault_of from to held bytes entries TooLong c s = λ memory read. (bytes, record { given = c; limit = omega (arith, s.long); end = λ within. absurd (omega (arith, s.long, within)) }, omega (arith, s.long))
fault_of from to held bytes entries Read c s = λ memory read. absurd (read refl)
fault_of from to held bytes entries OutOfMemory c s = λ memory read. absurd (memory refl)
fault_of from to held bytes entries fault c s = λ memory read. concluded from to bytes entries (Some fault) c s

-- ---- what is given is the answer that holds, memory aside

abbrev refused : KeytabFault → Result (List KeytabEntry) KeytabFault
refused fault = Err fault

pub only_fault : (bytes : List ℕ) (fault : KeytabFault) (answer : Result (List KeytabEntry) KeytabFault) → (fault ≢ OutOfMemory → IsFaultOf bytes fault) → IsAnswerOf bytes answer
    → (refused fault ≡ answer) ⊎ (refused fault ≡ Err OutOfMemory)
only_fault bytes OutOfMemory answer is a = inr refl
only_fault bytes fault answer is a = inl (same_answers bytes (Err fault) answer (is (λ e. cc)) a)

-- whole records end at one of the bytes, or after the last
stands_within : (bytes : List ℕ) (at : ℕ) (IsFaulty : List ℕ → Type 0) → StandsAt bytes at IsFaulty → at ≤ length bytes
stands_within bytes at IsFaulty s =
    let front = flat_map record_bytes s.reached.records in
    omega (arith, ap length s.reached.bytes_are, length-append version (front ++ s.behind), length-append front s.behind, s.reached.at_is)

pub fault_within : (bytes : List ℕ) (fault : KeytabFault) → IsFaultOf bytes fault → IfSome (offset_of fault) (λ at. at ≤ length bytes)
fault_within bytes (Truncated at) s = stands_within bytes at _ s
fault_within bytes (BadEntry at) s = stands_within bytes at _ s
fault_within bytes _ s = tt
