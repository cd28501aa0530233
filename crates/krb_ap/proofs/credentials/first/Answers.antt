use Rattle.std.proofs.Common.{◌∙◌, ap, List, get_or}
use Rattle.krb_ccache.specs.declared.credential.Credential.{Credential}
use Rattle.krb_ap.proofs.Truth.{is_so, is_not}
use Rattle.krb_ap.proofs.Walk.{none_wanted, first_wanted, none_more}
use Rattle.krb_ap.proofs.credentials.first.Goals as goal

pub returns-then-is_wanted-clause-some : goal.returns-then-is_wanted-clause-some
returns-then-is_wanted-clause-some c =
    let one = c.index-credentials-place.result in
    let is = c.index-credentials-place.is ∙ ap (λ (xs : List Credential). get_or xs c.in-Some.place one) c.credentials.ensures in
    first_wanted c.args.cache.now c.args.service.now c.args.wanted.now c.loop-place.next c.loop-place.invariant c.in-Some.place c.in-Some.ensures.found one is (is_so _ _ c.is_wanted.ensures c.if-is_wanted.true)

pub loop-place-preserved : goal.loop-place-preserved
loop-place-preserved c =
    let one = c.index-credentials-place.result in
    let is = c.index-credentials-place.is ∙ ap (λ (xs : List Credential). get_or xs c.in-Some.place one) c.credentials.ensures in
    none_more c.args.cache.now c.args.service.now c.args.wanted.now c.loop-place.next c.loop-place.invariant c.in-Some.place c.in-Some.ensures.found one is (is_not _ _ c.is_wanted.ensures c.if-is_wanted.false)

pub returns-clause-none : goal.returns-clause-none
returns-clause-none c = none_wanted c.args.cache.now c.args.service.now c.args.wanted.now c.loop-place.next c.loop-place.invariant c.in_default.ensures.none
