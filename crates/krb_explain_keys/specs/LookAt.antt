-- Made from crates/krb_ap/causes.toml by `make generate`. Don't edit this file.
-- What a person who runs a service may look at, for each cause, by its place in the order (krb_ap's specs/Causes).
use Rattle.std.specs.Prelude.{ℕ, ◌==◌, List, [], ◌∷◌, Option, Some, None, codes, if◌then◌else◌}

abbrev pub looks : List (ℕ × List ℕ)
looks =
    (100, codes "whether the client speaks another protocol, or wraps the request (GSS-API, SPNEGO: open the token first)")
    ∷ (200, codes "whether the message was cut off, or something was sent after it")
    ∷ (300, codes "the client asks for user-to-user authentication, which isn't supported")
    ∷ (400, codes "the service's keys at the KDC: it needs keys of type 19 or 20 alone; if it is in use, change its keys")
    ∷ (500, codes "the service's name as the client asks for it, with host name and realm; `krbtool list-keytab`")
    ∷ (600, codes "the types in the keytab")
    ∷ (700, codes "the key was changed at the KDC: add the new key to the keytab, and have the service read it; or the client's ticket is old")
    ∷ (800, codes "the keytab's key isn't the KDC's of that version number; of two entries of one name, type and number the first is used")
    ∷ (900, codes "the type of session keys that the KDC makes")
    ∷ (1000, codes "what the client sent: `krbtool explain` shows the request; then the client's library and its version")
    ∷ (1100, codes "what the client sent: `krbtool explain` shows the request; then the client's library and its version")
    ∷ (1200, codes "the clocks of both machines")
    ∷ (1250, codes "nothing: clients that try again after the pause succeed (see below)")
    ∷ (1300, codes "a message sent twice; two processes of one user in the same microsecond; or an attack")
    ∷ (1400, codes "the clocks; a postdated ticket that wasn't validated")
    ∷ (1500, codes "the client's tickets")
    ∷ (1600, codes "the KDC's check of transited realms")
    ∷ (1700, codes "what the KDC or the client puts there")
    ∷ []

-- what the first row of this place says
abbrev pub look_in : List (ℕ × List ℕ) → ℕ → Option (List ℕ)
look_in [] place = None
look_in (row ∷ others) place = if row.0 == place then Some row.1 else look_in others place

unfoldable pub look_at : ℕ → Option (List ℕ)
look_at place = look_in looks place
