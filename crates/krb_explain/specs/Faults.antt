-- What is said of bytes that are neither a message nor a token.
use Rattle.std.specs.Prelude.{ℕ, List, ◌++◌, codes}
use Rattle.std.specs.Fmt.{decimal}
use Rattle.krb_der.specs.declared.fault.Fault.{Fault}
use Rattle.krb_der.specs.declared.fault.FaultKind.{FaultKind}
use Rattle.krb_der.specs.declared.fault.FaultKind.TheVariants.{Truncated, Tag, Length, Integer, Time, Flags, Trailing, TooLong}
use Rattle.krb_gss.specs.declared.fault.TokenFault.{TokenFault}
use Rattle.krb_gss.specs.declared.fault.TokenFault.TheVariants.{Malformed, NotToken, Response, OtherMechanism, NoToken, TokenId, Unframed, Ended}
use Rattle.krb_gss.specs.declared.mechanism.Foreign.{Foreign}
use Rattle.krb_gss.specs.declared.mechanism.Foreign.TheVariants.{Negotiation, Ntlm, IaKerb, Unknown}

-- a broken rule of DER
abbrev pub rule_text : FaultKind → List ℕ
rule_text Truncated = codes "the bytes end before the element does"
rule_text Tag = codes "another element is required here"
rule_text Length = codes "the length is invalid, or not in its shortest form"
rule_text Integer = codes "the whole number is empty, not in its shortest form, or out of its range"
rule_text Time = codes "the time isn't of the form, or not in the calendar"
rule_text Flags = codes "the flags aren't 32 bits"
rule_text Trailing = codes "there are bytes after the last element"
rule_text TooLong = codes "there are more than 1048576 bytes"

-- a mechanism that isn't Kerberos
abbrev pub foreign_text : Foreign → List ℕ
foreign_text Negotiation = codes "the mechanism is a negotiation (SPNEGO)"
foreign_text Ntlm = codes "the mechanism is NTLM"
foreign_text IaKerb = codes "the mechanism is IAKERB"
foreign_text Unknown = codes "the mechanism isn't Kerberos"

-- what is wrong with a token, and at which byte (the first, if its type is another)
abbrev pub token_text : TokenFault → List ℕ × ℕ
token_text (Malformed fault) = (rule_text fault.kind, fault.at)
token_text NotToken = (codes "this is neither a message nor a token of Kerberos", 0)
token_text Response = (codes "the token continues a negotiation", 0)
token_text (OtherMechanism mechanism at) = (foreign_text mechanism, at)
token_text (NoToken at) = (codes "the negotiation has no token of the mechanism that is named here", at)
token_text (TokenId at) = (codes "the token's identifier is another", at)
token_text (Unframed at) = (codes "a request stands here without a token around it", at)
token_text Ended = (codes "the negotiation is over", 0)

-- `fault at byte N: TEXT`
abbrev pub fault_line : List ℕ × ℕ → List ℕ
fault_line (text, at) = codes "fault at byte " ++ (decimal at ++ (codes ": " ++ text))

abbrev pub rule_line : Fault → List ℕ
rule_line fault = fault_line (rule_text fault.kind, fault.at)
