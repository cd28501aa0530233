-- The line that `accept` prints for bytes that are to be a token and aren't one.
use Rattle.std.specs.Prelude.{ℕ, List, [], ◌∷◌, ◌++◌, codes}
use Rattle.std.specs.Fmt.{decimal}
use Rattle.krb_der.specs.declared.fault.FaultKind.{FaultKind}
use Rattle.krb_der.specs.declared.fault.FaultKind.TheVariants as kind
use Rattle.krb_gss.specs.declared.fault.TokenFault.{TokenFault}
use Rattle.krb_gss.specs.declared.fault.TokenFault.TheVariants as token
use Rattle.krb_gss.specs.declared.mechanism.Foreign.{Foreign}
use Rattle.krb_gss.specs.declared.mechanism.Foreign.TheVariants as foreign

-- of DER
abbrev pub kind_name : FaultKind → List ℕ
kind_name kind.Truncated = codes "Truncated"
kind_name kind.Tag = codes "Tag"
kind_name kind.Length = codes "Length"
kind_name kind.Integer = codes "Integer"
kind_name kind.Time = codes "Time"
kind_name kind.Flags = codes "Flags"
kind_name kind.Trailing = codes "Trailing"
kind_name kind.TooLong = codes "TooLong"

-- another mechanism than Kerberos
abbrev pub foreign_name : Foreign → List ℕ
foreign_name foreign.Negotiation = codes "Negotiation"
foreign_name foreign.Ntlm = codes "Ntlm"
foreign_name foreign.IaKerb = codes "IaKerb"
foreign_name foreign.Unknown = codes "OtherMechanism"

-- of a token: its name and its offset in bytes (another kind of token is known by its first byte)
abbrev pub token_text : TokenFault → List ℕ × ℕ
token_text (token.Malformed fault) = (kind_name fault.kind, fault.at)
token_text token.NotToken = (codes "NotToken", 0)
token_text token.Response = (codes "Response", 0)
token_text (token.OtherMechanism mechanism at) = (foreign_name mechanism, at)
token_text (token.NoToken at) = (codes "NoToken", at)
token_text (token.TokenId at) = (codes "TokenId", at)
token_text (token.Unframed at) = (codes "Unframed", at)
token_text token.Ended = (codes "Ended", 0)

-- `bad token FAULT at OFFSET`
abbrev pub bad_token_line : TokenFault → List ℕ
bad_token_line fault =
    codes "bad token " ++ ((token_text fault).0 ++ (codes " at " ++ (decimal (token_text fault).1 ++ 10 ∷ [])))
