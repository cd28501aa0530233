use Rattle.std.proofs.Common.{refl}
use Rattle.krb_name.specs.Text.{text_of}
use Rattle.krb_name.proofs.OneAnswer.{one_name}
use Rattle.krb_name.proofs.laws.a_text_has_one_name.Goals as goal

pub returns-clause-name : goal.returns-clause-name
returns-clause-name c = λ one other components realm others other_realm same.
    one_name (text_of one) one other (record { are = components; realm_is = realm; text_is = refl }) (record { are = others; realm_is = other_realm; text_is = same })

pub returns-clause-empty : goal.returns-clause-empty
returns-clause-empty c = λ principal. refl
