use Rattle.std.proofs.Common.{arith, ◌<◌}
use Rattle.std.proofs.lemmas.List.Elements.{All-from_get_or}
use Rattle.krb_ap.proofs.Replying.{sealed_size}
use Rattle.krb_ap.proofs.keys.seal.Goals as goal

pub returns-clause-sealed : goal.returns-clause-sealed
returns-clause-sealed c = record {
  size = c.told-confounder;
  confounder_bytes = All-from_get_or (λ byte. byte < 256) c.args.confounder.now 0 (λ i within. omega (arith, c.fits-confounder i));
  plain_bytes = All-from_get_or (λ byte. byte < 256) c.args.plain.now 0 (λ i within. omega (arith, c.type_inv.plain i));
  text_is = c.in_ok-seal.ensures.sealed;
}

pub returns-clause-length : goal.returns-clause-length
returns-clause-length c = sealed_size c.sealed_lengths.ensures c.each_profile_is_known.ensures.known c.args.keys.now.key c.args.keys.now.usage
    c.args.confounder.now c.args.plain.now c.in_ok-seal.field-0.items (returns-clause-sealed c)
