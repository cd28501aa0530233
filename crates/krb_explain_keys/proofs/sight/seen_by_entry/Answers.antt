use Rattle.std.proofs.Common.{refl, rules}
use Rattle.krb_explain_keys.specs.Inner.Seen.{sight_of}
use Rattle.krb_explain_keys.proofs.sight.seen_by_entry.Goals as goal

pub returns : goal.returns
returns c = λ entries. record {
  inner = sight_of c.in_ok-inner.inner;
  inner_is = c.in_ok-inner.ensures entries;
  lines_are = search rules;
  ticket_is = refl;
  authenticator_is = refl;
}
