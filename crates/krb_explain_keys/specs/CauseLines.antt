-- The lines of the causes for refusing a request: the first, which a service reports, and those that would follow.
use Rattle.std.specs.Prelude.{ℕ, ℤ, nat_lt, ◌&&◌, Bool, List, [], ◌∷◌, ◌++◌, Option, Some, None, codes, if◌then◌else◌}
use Rattle.std.specs.List.{flat_map}
use Rattle.krb_ap.specs.Causes.{code_of, name_of, place}
use Rattle.krb_ap.specs.declared.refusal.Refusal.{Refusal}
use Rattle.krb_ap.specs.declared.refusal.Refusal.TheVariants.{TicketEtype, NotUs, NoKey, BadKeyVersion, TicketIntegrity, SessionKey, AuthenticatorIntegrity, BadMatch, Skew, NotYetValid, Expired, Transited, Authorization}
use Rattle.krb_explain.specs.Named.{with_name}
use Rattle.krb_explain.specs.Registry.{error_name}
use Rattle.krb_explain_keys.specs.LookAt.{look_at}
use Rattle.krb_explain_keys.specs.Seen.{Sight}

-- the code that the client gets, and its name
abbrev pub code_text : Option ℤ → List ℕ
code_text None = []
code_text (Some code) = codes ", code " ++ with_name code (error_name code)

-- what a person who runs the service may look at
abbrev pub look_lines : Option (List ℕ) → List (List ℕ)
look_lines None = []
look_lines (Some text) = (codes "look at: " ++ text) ∷ []

abbrev pub cause_lines : List ℕ → Refusal → List (List ℕ)
cause_lines label cause = (label ++ (codes ": " ++ (name_of cause ++ code_text (code_of cause)))) ∷ look_lines (look_at (place cause))

-- ---- those that would follow

-- The causes that are looked at, in the order of the table, and whether each holds of what is seen. Of those after the malformed requests
-- only three aren't among them: user-to-user requests, since no cause of a request comes before that one; and a start and a repeat, since
-- the service was never started again and has seen nothing.
abbrev pub looked_at : Sight → List (Refusal × Bool)
looked_at sight =
    (TicketEtype, sight.of_request.other_type)
    ∷ (NotUs, sight.of_request.no_name)
    ∷ (NoKey, sight.of_request.no_key)
    ∷ (BadKeyVersion, sight.of_request.no_version)
    ∷ (TicketIntegrity, sight.of_ticket.shut)
    ∷ (SessionKey, sight.of_authenticator.unusable)
    ∷ (AuthenticatorIntegrity, sight.of_authenticator.shut)
    ∷ (BadMatch, sight.of_authenticator.mismatched)
    ∷ (Skew, sight.of_authenticator.skewed)
    ∷ (NotYetValid, sight.of_ticket.early)
    ∷ (Expired, sight.of_ticket.late)
    ∷ (Transited, sight.of_ticket.untrusted)
    ∷ (Authorization, sight.of_authenticator.unignorable)
    ∷ []

-- it holds, and comes after this place
abbrev pub follows : ℕ → Refusal × Bool → Bool
follows first cause = cause.1 && nat_lt first (place cause.0)

abbrev pub next_lines : ℕ → Refusal × Bool → List (List ℕ)
next_lines first cause = if follows first cause then cause_lines (codes "refused next") cause.0 else []

abbrev pub following : ℕ → List (Refusal × Bool) → List (List ℕ)
following first causes = flat_map (next_lines first) causes

-- the first cause, if there is one, and those that would follow
abbrev pub verdict_lines : Option Refusal → Sight → List (List ℕ)
verdict_lines None sight = codes "accepted, unless it was seen before, the service has just started, or its terms refuse the client" ∷ []
verdict_lines (Some first) sight = cause_lines (codes "refused") first ++ following (place first) (looked_at sight)
