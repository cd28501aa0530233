use Rattle.std.proofs.Common.{ℕ, List, subst, sym}
use Rattle.krb_enc.specs.Key.{UsageKeyValue, profile_of}
use Rattle.krb_enc.specs.Opens.{OpensToNothing}
use Rattle.krb_enc.proofs.key.Key.open.Goals as goal

abbrev IsRefused : List ℕ → UsageKeyValue → Type 0
IsRefused text key = OpensToNothing (profile_of key.key) key.key.bytes key.usage text

pub returns-clause-refused : goal.returns-clause-refused
returns-clause-refused c = (
  λ which. subst (IsRefused c.args.text.now) c.for_usage.ensures (c.open.ensures.refused.0 which),
  λ none. c.open.ensures.refused.1 (subst (IsRefused c.args.text.now) (sym c.for_usage.ensures) none),
)
