use Rattle.krb_enc.proofs.KeyLaws.{known_profile, profile_etype, profile_key_len}
use Rattle.krb_enc.proofs.laws.each_profile_is_known.Goals as goal

pub returns-clause-known : goal.returns-clause-known
returns-clause-known c = known_profile

pub returns-clause-etype : goal.returns-clause-etype
returns-clause-etype c = profile_etype

pub returns-clause-key_len : goal.returns-clause-key_len
returns-clause-key_len c = profile_key_len
