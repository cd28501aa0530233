use Rattle.std.proofs.Common.{ℕ, List, inr, subst}
use Rattle.std.proofs.lemmas.List.{take_rest}
use Rattle.std.specs.Prelude.{Option}
use Rattle.krb_enc.specs.Key.{KeyValue}
use Rattle.krb_c.specs.Login.{IsSubkey}
use Rattle.krb_c.proofs.login.drawn.Goals as goal

pub returns-in-None-clause-fault : goal.returns-in-None-clause-fault
returns-in-None-clause-fault c = (
  inr (subst (λ (rest : List ℕ). (subkey : Option KeyValue) → ¬ IsSubkey c.args.subkey_type rest subkey) (take_rest c.args.random.now 16) c.in-None.ensures),
  c.plain-in-None.ensures,
)
