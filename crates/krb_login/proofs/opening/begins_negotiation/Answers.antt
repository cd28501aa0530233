use Rattle.std.proofs.Common.{refl, sym, ap, ◌∙◌, subst}
use Rattle.std.proofs.lemmas.Bool.{false≢true}
use Rattle.krb_der.specs.Fault.{HasHead}
use Rattle.krb_der.specs.Place.{Place}
use Rattle.krb_login.proofs.opening.begins_negotiation.Goals as goal

pub returns-in_default-enter : goal.returns-in_default-enter
returns-in_default-enter c = (
  (λ t. absurd (false≢true t)),
  (λ b. absurd (c.in_default-enter.ensures.only b.frame b.behind (subst (λ (p : Place). HasHead 0x60 p b.frame b.behind) (sym c.in-Ok.ensures.start) b.framed))),
)

pub returns-in_default-enter-2 : goal.returns-in_default-enter-2
returns-in_default-enter-2 c = (
  (λ t. absurd (false≢true t)),
  (λ b. let same = c.in-Ok-enter.ensures.only b.frame b.behind (subst (λ (p : Place). HasHead 0x60 p b.frame b.behind) (sym c.in-Ok.ensures.start) b.framed) in
      absurd (c.in_default-enter-2.ensures.only b.name b.after (subst (λ (p : Place). HasHead 0x06 p b.name b.after) (sym same.0) b.named))),
)

pub returns : goal.returns
returns c = (
  (λ t. record {
    within = c.in-Ok.ensures.ok.0 refl;
    frame = c.in-Ok-enter.frame;
    behind = c.enter.new.self;
    name = c.in-Ok-enter-2.name;
    after = c.enter-2.new.self;
    framed = subst (λ (p : Place). HasHead 0x60 p c.in-Ok-enter.frame c.enter.new.self) c.in-Ok.ensures.start c.in-Ok-enter.ensures.found;
    named = c.in-Ok-enter-2.ensures.found;
    is_spnego = sym c.rest.ensures ∙ c.is_spnego.ensures.0 t;
  }),
  (λ b. let same = c.in-Ok-enter.ensures.only b.frame b.behind (subst (λ (p : Place). HasHead 0x60 p b.frame b.behind) (sym c.in-Ok.ensures.start) b.framed) in
      let name = c.in-Ok-enter-2.ensures.only b.name b.after (subst (λ (p : Place). HasHead 0x06 p b.name b.after) (sym same.0) b.named) in
      c.is_spnego.ensures.1 (c.rest.ensures ∙ (ap (λ (p : Place). p.rest) name.0 ∙ b.is_spnego))),
)
