use Rattle.std.proofs.Common.{ℕ, List, subst, sym}
use Rattle.krb_enc.specs.Sealed.{Profile}
use Rattle.krb_enc.specs.Key.{UsageKeyValue, profile_of}
use Rattle.krb_enc.specs.Opens.{OpensToNothing}
use Rattle.krb_enc.proofs.enctype.Enctype.open.Goals as goal

abbrev IsRefused : List ℕ → UsageKeyValue → Type 0
IsRefused text key = OpensToNothing (profile_of key.key) key.key.bytes key.usage text

abbrev IsRefusedBy : List ℕ → ℕ → List ℕ → Profile → Type 0
IsRefusedBy key usage text p = OpensToNothing p key usage text

pub returns-clause-refused : goal.returns-clause-refused
returns-clause-refused g c =
    let by = IsRefusedBy c.args.key.now c.args.usage c.args.text.now in
    let is = g.met.Self.Enctype.numbered_is in (
      λ which. subst by is (subst (IsRefused c.args.text.now) c.usage_key.ensures (c.open.ensures.refused.0 which)),
      λ none. c.open.ensures.refused.1 (subst (IsRefused c.args.text.now) (sym c.usage_key.ensures) (subst by (sym is) none)),
    )
