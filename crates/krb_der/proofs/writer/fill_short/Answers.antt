use Rattle.std.proofs.Common.{arith}
use Rattle.std.proofs.lemmas.List.{same_lists, places}
use Rattle.krb_der.specs.Inner.HeadView.{filled_at}
use Rattle.krb_der.proofs.writer.fill_short.Goals as goal

pub returns : goal.returns
unfolding filled_at
returns c = same_lists _ _ (grind (arith, places)) (λ k d h. grind (arith, places))
