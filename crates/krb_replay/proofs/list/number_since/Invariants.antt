use Rattle.std.proofs.Common.{◌≡◌, ◌≤◌, take}
use Rattle.std.specs.Option.{option_map}
use Rattle.krb_replay.specs.Inner.Held.{number_of, since}
use Rattle.krb_replay.proofs.list.number_since.Given as goal

abbrev pub invariant-loop-tuple : goal.invariant-loop-tuple
invariant-loop-tuple l = record {
  found : l.found ≡ number_of (option_map (λ tuple. tuple.now.client) l.fn.client_of) (since l.fn.oldest (take l.tuple-index l.tuples));
  within : l.found ≤ l.tuple-index;
}
