use Rattle.std.proofs.Common.{◌≡◌, drop, map}
use Rattle.krb_explain_keys.specs.LookAt.{look_in}
use Rattle.krb_explain_keys.specs.Inner.Looks.{look_of}
use Rattle.krb_explain_keys.proofs.look_at.look_in.Given as goal

abbrev pub invariant-loop-look : goal.invariant-loop-look
invariant-loop-look l = look_in (map look_of (drop l.look-index l.looks)) l.place ≡ look_in (map look_of l.looks) l.place
