use Rattle.std.proofs.Common.{◌≢◌, sym}
use Rattle.std.proofs.lemmas.Option.{IfSome_then}
use Rattle.krb_ccache.proofs.ComputedOffset.{offset_there, none_computed}
use Rattle.krb_ccache.proofs.FitsLaws.{all_seen}
use Rattle.krb_ccache.proofs.OffsetLaws.{offset_held}
use Rattle.krb_ccache.proofs.configuration.offset_in.Goals as goal

pub returns-then-field-eq-OFFSET_TAG : goal.returns-then-field-eq-OFFSET_TAG
returns-then-field-eq-OFFSET_TAG c =
    offset_there c.args.header.now c.offset_of.result c.offset_of.ensures.none
    (IfSome_then c.offset_of.result c.offset_of.ensures.some
    (λ offset o. offset_held c.args.header.now c.loop-field.field-index c.field-item.result offset.0 offset.1 c.loop-field-test.true c.field-item.is c.loop-field.invariant c.if-field-eq-OFFSET_TAG.true (rw c.as_slice.ensures at o)))

pub returns : goal.returns
returns c =
    let none = all_seen (λ field. field.tag ≢ 1) c.args.header.now c.loop-field.field-index c.loop-field.invariant c.loop-field-test.false in
    record { some = tt; none = none; computed = sym (none_computed c.args.header.now none) }
