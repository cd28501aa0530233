use Rattle.std.proofs.Common.{◌≡◌, ◌++◌}
use Rattle.krb_msg.proofs.texts.Texts.to_owned.Given as goal

abbrev pub invariant-loop-text : goal.invariant-loop-text
invariant-loop-text l = l.made ++ l.text-iterator ≡ l.self
