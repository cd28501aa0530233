-- What is seen by a choice doesn't depend on the causes that hold before anything is opened.
use Rattle.std.proofs.Common.{ℕ, ℤ, List}
use Rattle.krb_der.specs.Kind.{ValueOf}
use Rattle.krb_msg.specs.Module.{ap_req}
use Rattle.krb_keytab.specs.Pick.{Choice, chosen, no_name, no_key, no_version}
use Rattle.krb_ap.specs.Setup.{Setup}
use Rattle.krb_explain_keys.specs.Seen.{RequestCauses, SeesByChoice, Sight}

abbrev with_causes : Sight → RequestCauses → Sight
with_causes s r = record { lines = s.lines; of_request = r; of_ticket = s.of_ticket; of_authenticator = s.of_authenticator }

pub after_choice : (setup : Setup) (now : ℤ) (request : ValueOf ap_req) (choice : Choice) (s : Sight) (r : RequestCauses) (lines : List (List ℕ))
    → SeesByChoice setup now request choice s lines → SeesByChoice setup now request choice (with_causes s r) lines
after_choice setup now request (chosen entry) s r lines h = record {
  inner = h.inner;
  inner_is = h.inner_is;
  lines_are = h.lines_are;
  ticket_is = h.ticket_is;
  authenticator_is = h.authenticator_is;
}
after_choice setup now request no_name s r lines h = record { lines_are = h.lines_are; ticket_is = h.ticket_is; authenticator_is = h.authenticator_is }
after_choice setup now request no_key s r lines h = record { lines_are = h.lines_are; ticket_is = h.ticket_is; authenticator_is = h.authenticator_is }
after_choice setup now request no_version s r lines h = record { lines_are = h.lines_are; ticket_is = h.ticket_is; authenticator_is = h.authenticator_is }
