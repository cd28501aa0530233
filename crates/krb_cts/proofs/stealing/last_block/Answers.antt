use Rattle.std.proofs.Common.{◌<◌, arith}
use Rattle.std.proofs.lemmas.List.Elements.{All-from_get_or}
use Rattle.krb_cts.proofs.stealing.last_block.Goals as goal

pub returns-clause-text : goal.returns-clause-text
returns-clause-text c = record {
  size = c.requires;
  bytes = All-from_get_or (λ byte. byte < 256) c.args.text.now 0 (λ i within. omega (arith, c.type_inv.text i));
}
