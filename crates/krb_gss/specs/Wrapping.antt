-- What is written for a request or an answer in its wrapping. A negotiation names one mechanism, without the fields that may be left
-- out; its answers have a negState.
use Rattle.std.specs.Prelude.{◌≡◌, ℕ, ◌+◌, List, [], ◌∷◌, length, Option, Some, None}
use Rattle.krb_der.specs.Spells.{IsElement, IsJoined, IfPresent}
use Rattle.krb_der.specs.Size.{element_size, size_if}
use Rattle.krb_gss.specs.declared.mechanism.Mechanism.{Mechanism}
use Rattle.krb_gss.specs.declared.mechanism.Mechanism.TheVariants.{Kerberos}
use Rattle.krb_gss.specs.declared.opening.Wrapping.{Wrapping}
use Rattle.krb_gss.specs.declared.opening.Wrapping.TheVariants.{Bare, Negotiated}
use Rattle.krb_gss.specs.Mechanism.{oid_of, spnego}

-- an OBJECT IDENTIFIER with this content
abbrev pub IsOid : List ℕ → List ℕ → Type 0
IsOid oid = IsElement 0x06 (λ content. content ≡ oid)

-- a token of Kerberos (RFC 4121, section 4.1): the mechanism's name, the identifier and the message
abbrev pub IsPlain : ℕ → Mechanism → List ℕ → List ℕ → Type 0
IsPlain id mechanism message = IsElement 0x60 (IsJoined (IsOid (oid_of mechanism)) (λ bytes. bytes ≡ id ∷ 0 ∷ message))

-- mechTypes with one mechanism, and mechToken with a token of Kerberos (RFC 4178, section 4.2.1)
abbrev pub IsMechTypes : Mechanism → List ℕ → Type 0
IsMechTypes first = IsElement 0xa0 (IsElement 0x30 (IsOid (oid_of first)))

abbrev pub IsTokenField : ℕ → Mechanism → List ℕ → List ℕ → Type 0
IsTokenField id mechanism message = IsElement 0xa2 (IsElement 0x04 (IsPlain id mechanism message))

-- a NegTokenInit of these two fields, as a token of SPNEGO
abbrev pub IsProposal : Mechanism → ℕ → Mechanism → List ℕ → List ℕ → Type 0
IsProposal first id mechanism message =
    IsElement 0x60
    (IsJoined (IsOid spnego) (IsElement 0xa0 (IsElement 0x30 (IsJoined (IsMechTypes first) (IsTokenField id mechanism message)))))

-- negState, of one byte
abbrev pub IsState : ℕ → List ℕ → Type 0
IsState state = IsElement 0xa0 (IsElement 0x0a (λ content. content ≡ state ∷ []))

-- supportedMech
abbrev pub IsSupported : Mechanism → List ℕ → Type 0
IsSupported first = IsElement 0xa1 (IsOid (oid_of first))

-- negState, supportedMech if a mechanism is named, and what is after these
abbrev pub AreResponding : ℕ → Option Mechanism → (List ℕ → Type 0) → List ℕ → Type 0
AreResponding state first After = IsJoined (IsState state) (IsJoined (IfPresent IsSupported first) After)

-- a NegTokenResp of these fields
abbrev pub IsResponding : ℕ → Option Mechanism → (List ℕ → Type 0) → List ℕ → Type 0
IsResponding state first After = IsElement 0xa1 (IsElement 0x30 (AreResponding state first After))

-- the bytes that are written of a token in its wrapping: as the first of a client, or, with a state, as an answer
abbrev pub Writes : Wrapping → Option ℕ → ℕ → Mechanism → List ℕ → List ℕ → Type 0
Writes Bare state id mechanism message = IsPlain id mechanism message
Writes (Negotiated first) None id mechanism message = IsProposal first id mechanism message
Writes (Negotiated first) (Some state) id mechanism message = IsResponding state (Some first) (IsTokenField id mechanism message)

abbrev pub WritesRequest : Wrapping → Mechanism → List ℕ → List ℕ → Type 0
WritesRequest wrapping mechanism request = Writes wrapping None 0x01 mechanism request

-- how many bytes the OBJECT IDENTIFIER of a mechanism has
abbrev pub oid_size : Mechanism → ℕ
oid_size mechanism = element_size (length (oid_of mechanism))

-- how many bytes a token of Kerberos has whose message has n
abbrev pub plain_size : Mechanism → ℕ → ℕ
plain_size mechanism n = element_size (oid_size mechanism + (2 + n))

abbrev pub token_field_size : Mechanism → ℕ → ℕ
token_field_size mechanism n = element_size (element_size (plain_size mechanism n))

abbrev pub mech_types_size : Mechanism → ℕ
mech_types_size first = element_size (element_size (oid_size first))

-- the fields of NegTokenInit, and those of NegTokenResp with n bytes after supportedMech
abbrev pub init_size : Mechanism → Mechanism → ℕ → ℕ
init_size first mechanism n = mech_types_size first + token_field_size mechanism n

abbrev pub fields_size : Option Mechanism → ℕ → ℕ
fields_size first n = element_size (element_size 1) + (size_if (λ m. element_size (oid_size m)) first + n)

-- a NegTokenResp of these fields, and one with a token of Kerberos whose message has n bytes
abbrev pub responding_size : Option Mechanism → ℕ → ℕ
responding_size first n = element_size (element_size (fields_size first n))

abbrev pub response_size : Option Mechanism → Mechanism → ℕ → ℕ
response_size first mechanism n = responding_size first (token_field_size mechanism n)

-- a NegTokenInit with such a token, as a token of SPNEGO
abbrev pub proposal_size : Mechanism → Mechanism → ℕ → ℕ
proposal_size first mechanism n = element_size (element_size 6 + element_size (element_size (init_size first mechanism n)))

-- how many bytes are written of a token whose message has n
abbrev pub written_size : Wrapping → Option ℕ → Mechanism → ℕ → ℕ
written_size Bare state mechanism n = plain_size mechanism n
written_size (Negotiated first) None mechanism n = proposal_size first mechanism n
written_size (Negotiated first) (Some state) mechanism n = response_size (Some first) mechanism n

-- of a request in a token that gives Kerberos its own name
abbrev pub request_size : Wrapping → ℕ → ℕ
request_size wrapping n = written_size wrapping None Kerberos n
