use Rattle.std.proofs.Common.{◌≡◌, ◌+◌, length, drop}
use Rattle.krb_explain.specs.Input.{begins_with}
use Rattle.krb_explain.proofs.input.begins_with.Given as goal

abbrev pub invariant-loop-letter : goal.invariant-loop-letter
invariant-loop-letter l = record {
  left : begins_with (drop l.letter-index l.word) l.rest ≡ begins_with l.word l.text;
  count : l.letter-index + length l.rest ≡ length l.text;
}
