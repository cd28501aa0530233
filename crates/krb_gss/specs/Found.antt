-- Made from messages.toml by tools/generate/messages.py. Don't edit this file.
-- The places in messages that are read: those of their fields, in the order of their numbers.
use Rattle.std.specs.Option.{option_map}
use Rattle.krb_der.specs.Parts.{PlacesOf}
use Rattle.krb_gss.specs.Module.{initial_context_token, mech_type_list, neg_token_init, first_response, later_response, bare_response}
use Rattle.krb_gss.specs.declared.messages.InitialContextToken.{InitialContextToken}
use Rattle.krb_gss.specs.declared.messages.MechTypeList.{MechTypeList}
use Rattle.krb_gss.specs.declared.messages.NegTokenInit.{NegTokenInit}
use Rattle.krb_gss.specs.declared.messages.FirstResponse.{FirstResponse}
use Rattle.krb_gss.specs.declared.messages.LaterResponse.{LaterResponse}
use Rattle.krb_gss.specs.declared.messages.BareResponse.{BareResponse}

abbrev pub initial_context_token_of : InitialContextToken → PlacesOf initial_context_token
initial_context_token_of m = (m.mechanism, m.inner)

abbrev pub mech_type_list_of : MechTypeList → PlacesOf mech_type_list
mech_type_list_of m = (m.first, tt)

abbrev pub neg_token_init_of : NegTokenInit → PlacesOf neg_token_init
neg_token_init_of m = (mech_type_list_of m.mechanisms, (option_map (λ l. l.0) m.flags, (option_map (λ l. l.0) m.token, (option_map (λ l. l.0) m.mic, tt))))

abbrev pub first_response_of : FirstResponse → PlacesOf first_response
first_response_of m = (option_map (λ l. l.0) m.state, (m.mechanism, (option_map (λ l. l.0) m.token, (option_map (λ l. l.0) m.mic, tt))))

abbrev pub later_response_of : LaterResponse → PlacesOf later_response
later_response_of m = (option_map (λ l. l.0) m.state, (option_map (λ l. l.0) m.token, (option_map (λ l. l.0) m.mic, tt)))

abbrev pub bare_response_of : BareResponse → PlacesOf bare_response
bare_response_of m = (m.state, (option_map (λ l. l.0) m.mechanism, (option_map (λ l. l.0) m.mic, tt)))
