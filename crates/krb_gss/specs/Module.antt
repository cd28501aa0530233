-- Made from messages.toml by tools/generate/messages.py. Don't edit this file.
-- The messages of tokens as parts that are found in place (RFC 2743, section 3.1; RFC 4178, section 4): each field with its
-- number, and whether it may be absent; and the places of the fields by their names.
use Rattle.std.specs.Prelude.{ℕ, Option}
use Rattle.krb_der.specs.Place.{Place}
use Rattle.krb_der.specs.Parts.{Parts, PlacesOf, anything, each_of, unknown, last, must, may}

-- InitialContextToken (RFC 2743, section 3.1).
abbrev pub initial_context_token : Parts
initial_context_token =
    last 0x60 (must 0x06 anything
    anything)

abbrev pub initial_context_token_mechanism : PlacesOf initial_context_token → Place
initial_context_token_mechanism v = v.0

abbrev pub initial_context_token_inner : PlacesOf initial_context_token → Place
initial_context_token_inner v = v.1

-- NegotiationToken (RFC 4178, section 4.2).
abbrev pub negotiation_token : ℕ → Parts
negotiation_token choice =
    last choice (last 0x30 anything)

-- MechTypeList (RFC 4178, section 4.1).
abbrev pub mech_type_list : Parts
mech_type_list =
    last 0x30 (must 0x06 anything
    (each_of 0x06))

abbrev pub mech_type_list_first : PlacesOf mech_type_list → Place
mech_type_list_first v = v.0

-- NegTokenInit (RFC 4178, section 4.2.1).
abbrev pub neg_token_init : Parts
neg_token_init =
    must 0xa0 mech_type_list
    (may 0xa1 (last 0x03 anything)
    (may 0xa2 (last 0x04 anything)
    (may 0xa3 (last 0x04 anything)
    (unknown 0xa0 0xa3))))

abbrev pub neg_token_init_mechanisms : PlacesOf neg_token_init → PlacesOf mech_type_list
neg_token_init_mechanisms v = v.0

abbrev pub neg_token_init_flags : PlacesOf neg_token_init → Option Place
neg_token_init_flags v = v.1.0

abbrev pub neg_token_init_token : PlacesOf neg_token_init → Option Place
neg_token_init_token v = v.1.1.0

abbrev pub neg_token_init_mic : PlacesOf neg_token_init → Option Place
neg_token_init_mic v = v.1.1.1.0

-- NegTokenResp (RFC 4178, section 4.2.2), as the first answer of a service.
abbrev pub first_response : Parts
first_response =
    may 0xa0 (last 0x0a anything)
    (must 0xa1 (last 0x06 anything)
    (may 0xa2 (last 0x04 anything)
    (may 0xa3 (last 0x04 anything)
    (unknown 0xa0 0xa3))))

abbrev pub first_response_state : PlacesOf first_response → Option Place
first_response_state v = v.0

abbrev pub first_response_mechanism : PlacesOf first_response → Place
first_response_mechanism v = v.1.0

abbrev pub first_response_token : PlacesOf first_response → Option Place
first_response_token v = v.1.1.0

abbrev pub first_response_mic : PlacesOf first_response → Option Place
first_response_mic v = v.1.1.1.0

-- NegTokenResp (RFC 4178, section 4.2.2), as a later message of a client.
abbrev pub later_response : Parts
later_response =
    may 0xa0 (last 0x0a anything)
    (may 0xa2 (last 0x04 anything)
    (may 0xa3 (last 0x04 anything)
    (unknown 0xa0 0xa3)))

abbrev pub later_response_state : PlacesOf later_response → Option Place
later_response_state v = v.0

abbrev pub later_response_token : PlacesOf later_response → Option Place
later_response_token v = v.1.0

abbrev pub later_response_mic : PlacesOf later_response → Option Place
later_response_mic v = v.1.1.0

-- NegTokenResp (RFC 4178, section 4.2.2), as an answer without a token.
abbrev pub bare_response : Parts
bare_response =
    must 0xa0 (last 0x0a anything)
    (may 0xa1 (last 0x06 anything)
    (may 0xa3 (last 0x04 anything)
    (unknown 0xa0 0xa3)))

abbrev pub bare_response_state : PlacesOf bare_response → Place
bare_response_state v = v.0

abbrev pub bare_response_mechanism : PlacesOf bare_response → Option Place
bare_response_mechanism v = v.1.0

abbrev pub bare_response_mic : PlacesOf bare_response → Option Place
bare_response_mic v = v.1.1.0
