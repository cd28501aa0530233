use Rattle.std.proofs.Common.{refl}
use Rattle.krb_name.proofs.HeldLaws.{none_left}
use Rattle.krb_name.proofs.components.Components.with_room.Goals as goal

pub returns : goal.returns
returns c = none_left _ _ refl
