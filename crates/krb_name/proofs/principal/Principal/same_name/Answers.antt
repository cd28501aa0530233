use Rattle.std.proofs.Common.{◌∙◌, sym}
use Rattle.krb_name.proofs.Names.{bytes_decided, components_decided}
use Rattle.krb_name.proofs.principal.Principal.same_name.Goals as goal

pub returns-then-eq : goal.returns-then-eq
returns-then-eq c =
    let one = c.args.self.now in
    let other = c.args.other.now in
    let realms = bytes_decided one.realm other.realm in
    let components = components_decided one.components other.components in (
      λ t. record {
        realm = realms.0 (sym c.eq.ensures ∙ c.if-eq.true);
        components = components.0 (sym c.eq-then-eq.ensures ∙ t);
      },
      λ same. c.eq-then-eq.ensures ∙ components.1 same.components,
    )
