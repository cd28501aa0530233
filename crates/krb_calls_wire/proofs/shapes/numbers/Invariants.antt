use Rattle.krb_der.specs.Kind.{leaf, int32}
use Rattle.krb_der.specs.Computed.Listed.{AreListed}
use Rattle.krb_calls_wire.proofs.shapes.numbers.Given as goal

-- All that is left are numbers.
abbrev pub invariant-loop : goal.invariant-loop
invariant-loop l = AreListed (leaf int32) l.content
