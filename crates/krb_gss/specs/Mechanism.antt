-- Mechanisms by the contents of the OBJECT IDENTIFIERs that name them (X.690, section 8.19).
use Rattle.std.specs.Prelude.{ℕ, ◌==◌, if◌then◌else◌, List, [], ◌∷◌, Result, Ok, Err}
use Rattle.std.specs.Cmp.Lexicographic.{pointwise}
use Rattle.krb_gss.specs.declared.mechanism.Mechanism.{Mechanism}
use Rattle.krb_gss.specs.declared.mechanism.Mechanism.TheVariants.{Kerberos, Microsoft, Draft}
use Rattle.krb_gss.specs.declared.mechanism.Foreign.{Foreign}
use Rattle.krb_gss.specs.declared.mechanism.Foreign.TheVariants.{Negotiation, Ntlm, IaKerb, Unknown}

-- 1.2.840.113554.1.2.2 (RFC 4121, section 1)
abbrev pub kerberos : List ℕ
kerberos = 0x2a ∷ 0x86 ∷ 0x48 ∷ 0x86 ∷ 0xf7 ∷ 0x12 ∷ 0x01 ∷ 0x02 ∷ 0x02 ∷ []

-- 1.2.840.48018.1.2.2
abbrev pub microsoft : List ℕ
microsoft = 0x2a ∷ 0x86 ∷ 0x48 ∷ 0x82 ∷ 0xf7 ∷ 0x12 ∷ 0x01 ∷ 0x02 ∷ 0x02 ∷ []

-- 1.3.5.1.5.2 (RFC 1964, section 1: the name of the drafts)
abbrev pub draft : List ℕ
draft = 0x2b ∷ 0x05 ∷ 0x01 ∷ 0x05 ∷ 0x02 ∷ []

-- 1.3.6.1.5.5.2 (RFC 4178, section 4)
abbrev pub spnego : List ℕ
spnego = 0x2b ∷ 0x06 ∷ 0x01 ∷ 0x05 ∷ 0x05 ∷ 0x02 ∷ []

-- 1.3.6.1.4.1.311.2.2.10
abbrev pub ntlm : List ℕ
ntlm = 0x2b ∷ 0x06 ∷ 0x01 ∷ 0x04 ∷ 0x01 ∷ 0x82 ∷ 0x37 ∷ 0x02 ∷ 0x02 ∷ 0x0a ∷ []

-- 1.3.6.1.5.2.5
abbrev pub iakerb : List ℕ
iakerb = 0x2b ∷ 0x06 ∷ 0x01 ∷ 0x05 ∷ 0x02 ∷ 0x05 ∷ []

abbrev pub oid_of : Mechanism → List ℕ
oid_of Kerberos = kerberos
oid_of Microsoft = microsoft
oid_of Draft = draft

-- the mechanism that isn't Kerberos
abbrev pub foreign_of : List ℕ → Foreign
foreign_of oid =
    if pointwise ◌==◌ oid spnego then Negotiation
    else if pointwise ◌==◌ oid ntlm then Ntlm
    else if pointwise ◌==◌ oid iakerb then IaKerb
    else Unknown

-- the mechanism that is named
abbrev pub named_of : List ℕ → Result Mechanism Foreign
named_of oid =
    if pointwise ◌==◌ oid kerberos then Ok Kerberos
    else if pointwise ◌==◌ oid microsoft then Ok Microsoft
    else if pointwise ◌==◌ oid draft then Ok Draft
    else Err (foreign_of oid)
