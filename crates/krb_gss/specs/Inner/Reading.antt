-- Reading tokens from left to right as a computation, which is what the private calls answer.
use Rattle.std.specs.Prelude.{ℕ, nat_lt, if◌then◌else◌, List, length, Option, Some, None, Result, Ok, Err}
use Rattle.krb_der.specs.declared.fault.Fault.{Fault}
use Rattle.krb_der.specs.declared.fault.FaultKind.TheVariants.{TooLong}
use Rattle.krb_der.specs.Place.{Place, begin_at, begins}
use Rattle.krb_der.specs.Spells.{limit}
use Rattle.krb_der.specs.Parts.{Parts, PlacesOf}
use Rattle.krb_der.specs.Computed.Steps.{◌>>=◌, ◌>>?◌}
use Rattle.krb_der.specs.Computed.Parts.{parts_at}
use Rattle.krb_gss.specs.declared.fault.TokenFault.{TokenFault}
use Rattle.krb_gss.specs.declared.fault.TokenFault.TheVariants.{Malformed, NotToken, Response, OtherMechanism, NoToken, Unframed}
use Rattle.krb_gss.specs.declared.mechanism.Mechanism.{Mechanism}
use Rattle.krb_gss.specs.declared.mechanism.Foreign.{Foreign}
use Rattle.krb_gss.specs.declared.mechanism.Foreign.TheVariants.{Negotiation, Ntlm, IaKerb, Unknown}
use Rattle.krb_gss.specs.declared.opening.Wrapping.{Wrapping}
use Rattle.krb_gss.specs.declared.opening.Wrapping.TheVariants.{Bare, Negotiated}
use Rattle.krb_gss.specs.Mechanism.{named_of}
use Rattle.krb_gss.specs.Module.{initial_context_token, negotiation_token, neg_token_init, first_response, later_response, bare_response}
use Rattle.krb_gss.specs.Token.{of_init}
use Rattle.krb_gss.specs.Answer.{of_response}
use Rattle.krb_gss.specs.Later.{of_later}
use Rattle.krb_gss.specs.Said.{of_said}
use Rattle.krb_gss.specs.Listing.{mech_types, of_types, mech_type_names}
use Rattle.krb_gss.specs.ListMic.{of_mic}

-- a fault of DER, as one of a token
abbrev pub as_token : {V : Type 0} → Result V Fault → Result V TokenFault
as_token (Ok v) = Ok v
as_token (Err fault) = Err (Malformed fault)

abbrev pub ok_of : {V E : Type 0} → Result V E → Option V
ok_of (Ok v) = Some v
ok_of (Err fault) = None

unfoldable pub begun : List ℕ → Result Place TokenFault
begun bytes = if nat_lt limit (length bytes) then Err (Malformed (record { kind = TooLong; at = 0 })) else Ok (begin_at bytes)

-- ---- names
abbrev pub name_from : ℕ → Result Mechanism Foreign → Result Mechanism TokenFault
name_from at (Ok mechanism) = Ok mechanism
name_from at (Err other) = Err (OtherMechanism other at)

abbrev pub name_at : Place → Result Mechanism TokenFault
name_at oid = name_from oid.at (named_of oid.rest)

unfoldable pub kerberos_at : Place → Result (Mechanism × Place) TokenFault
kerberos_at here = as_token (parts_at initial_context_token here) >>= λ x. name_at x.0 >>= λ m. Ok (m, x.1)

-- ---- the messages of a negotiation
unfoldable pub fields_at : {W : Type 0} → ℕ → (ps : Parts) → (Place → PlacesOf ps → W) → Place → Result W Fault
fields_at tag ps pick here = parts_at (negotiation_token tag) here >>= λ fields. parts_at ps fields >>= λ v. Ok (pick fields v)

abbrev pub init_at : Place → Result (Place × Option Place) Fault
init_at here = fields_at 0xa0 neg_token_init of_init here

abbrev pub response_at : Place → Result (Place × Option Place) Fault
response_at here = fields_at 0xa1 first_response of_response here

abbrev pub later_at : Place → Result (Place × Option Place) Fault
later_at here = fields_at 0xa1 later_response of_later here

abbrev pub said_at : Place → Result (Place × Option Place) Fault
said_at here = fields_at 0xa1 bare_response of_said here

abbrev pub mic_at : Place → Result (Option Place) Fault
mic_at here = fields_at 0xa1 later_response of_mic here

abbrev pub types_at : Place → Result Place Fault
types_at here = fields_at 0xa0 mech_types of_types here

-- ---- their tokens
unfoldable pub held_at : Place → Result (Mechanism × Place) TokenFault
held_at here = if begins 0x6e here.rest then Err (Unframed here.at) else kerberos_at here

abbrev pub held_from : Place → Option Place → Result (Mechanism × Place) TokenFault
held_from oid None = Err (NoToken oid.at)
held_from oid (Some here) = held_at here

unfoldable pub named_at : Place → Option Place → Result (Mechanism × Mechanism × Place) TokenFault
named_at oid token = name_at oid >>= λ first. held_from oid token >>= λ x. Ok (first, x.0, x.1)

unfoldable pub negotiated_by : Result (Place × Option Place) Fault → Result (Mechanism × Mechanism × Place) TokenFault
negotiated_by r = as_token r >>= λ x. named_at x.0 x.1

unfoldable pub going_on_at : Place → Result (Mechanism × Place) TokenFault
going_on_at here = as_token (later_at here) >>= λ x. held_from x.0 x.1

-- ---- tokens in their wrapping
abbrev pub as_negotiated : Mechanism × Mechanism × Place → (Wrapping × Mechanism) × Place
as_negotiated x = ((Negotiated x.0, x.1), x.2)

abbrev pub as_bare : Mechanism × Place → (Wrapping × Mechanism) × Place
as_bare x = ((Bare, x.0), x.1)

abbrev pub negotiated_at : Place → Result ((Wrapping × Mechanism) × Place) TokenFault
negotiated_at after = negotiated_by (init_at after) >>= λ x. Ok (as_negotiated x)

abbrev pub within_from : ℕ → Place → Result Mechanism Foreign → Result ((Wrapping × Mechanism) × Place) TokenFault
within_from at after (Ok mechanism) = Ok (as_bare (mechanism, after))
within_from at after (Err Negotiation) = negotiated_at after
within_from at after (Err Ntlm) = Err (OtherMechanism Ntlm at)
within_from at after (Err IaKerb) = Err (OtherMechanism IaKerb at)
within_from at after (Err Unknown) = Err (OtherMechanism Unknown at)

abbrev pub begin_from : List ℕ → Result (Unit {0}) TokenFault
begin_from bytes =
    if begins 0x60 bytes then Ok tt
    else if begins 0xa1 bytes then Err Response
    else if begins 0x6e bytes then Err (Unframed 0)
    else Err NotToken

unfoldable pub framed_at : Place → Result ((Wrapping × Mechanism) × Place) TokenFault
framed_at here = as_token (parts_at initial_context_token here) >>= λ x. within_from x.0.at x.1 (named_of x.0.rest)

unfoldable pub wrapped_at : Place → Result ((Wrapping × Mechanism) × Place) TokenFault
wrapped_at here = begin_from here.rest >>= λ _. framed_at here

unfoldable pub answer_at : Place → Result ((Wrapping × Mechanism) × Place) TokenFault
answer_at here =
    if begins 0x60 here.rest then (kerberos_at here >>= λ x. Ok (as_bare x))
    else if begins 0xa1 here.rest then (negotiated_by (response_at here) >>= λ x. Ok (as_negotiated x))
    else Err NotToken

unfoldable pub whole_at : {V : Type 0} → (Place → Result V TokenFault) → List ℕ → Result V TokenFault
whole_at read bytes = begun bytes >>= λ here. read here

-- ---- a negotiation without a token
abbrev pub spnego_from : Result Mechanism Foreign → Place → Option Place
spnego_from (Err Negotiation) after = Some after
spnego_from (Err Ntlm) after = None
spnego_from (Err IaKerb) after = None
spnego_from (Err Unknown) after = None
spnego_from (Ok mechanism) after = None

abbrev pub unsent_from : Option Place → Result Mechanism Foreign → Option Mechanism
unsent_from (Some token) named = None
unsent_from None (Ok first) = Some first
unsent_from None (Err other) = None

unfoldable pub asked_at : List ℕ → Option Mechanism
asked_at bytes =
    ok_of (begun bytes) >>? λ here. ok_of (parts_at initial_context_token here) >>? λ x. spnego_from (named_of x.0.rest) x.1
    >>? λ after. ok_of (init_at after) >>? λ y. unsent_from y.1 (named_of y.0.rest)

unfoldable pub said_whole : List ℕ → Option (Place × Option Place)
said_whole bytes = ok_of (begun bytes) >>? λ here. ok_of (said_at here)

-- ---- a list that names another mechanism first
unfoldable pub negotiation_from : List ℕ → Option Place
negotiation_from bytes =
    ok_of (begun bytes) >>? λ here. ok_of (parts_at initial_context_token here) >>? λ x. spnego_from (named_of x.0.rest) x.1

abbrev pub other_of : Result Mechanism Foreign → Option Foreign
other_of (Ok mechanism) = None
other_of (Err other) = Some other

unfoldable pub listing_at : List ℕ → Option (Place × Place)
listing_at bytes =
    negotiation_from bytes >>? λ after. ok_of (init_at after) >>? λ y. other_of (named_of y.0.rest) >>? λ _. ok_of (types_at after)
    >>? λ list. ok_of (parts_at mech_type_names list) >>? λ names. Some (list, names)

-- ---- a client's mechListMIC
unfoldable pub mic_whole : List ℕ → Result (Option Place) TokenFault
mic_whole bytes = begun bytes >>= λ here. as_token (mic_at here)
